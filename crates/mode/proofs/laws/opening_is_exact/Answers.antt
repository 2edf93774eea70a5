-- Opening is as told for every kind of block, by the laws that the kind proves.
use Rattle.mode.proofs.Opening.{opens}
use Rattle.mode.proofs.laws.opening_is_exact.Goals as goal

pub returns : goal.returns
returns g c = opens g.B.Block.form g.met.B.Block.lawful
