-- CTR undoes itself for every kind of block, by the laws that the kind proves.
use Rattle.mode.proofs.Ctr.{ctr_laws}
use Rattle.mode.proofs.laws.ctr_undoes_itself.Goals as goal

pub returns : goal.returns
returns g c = ctr_laws g.B.Block.form g.met.B.Block.lawful
