-- The keystream gives CTR for every kind of block, by the laws that the kind proves.
use Rattle.stream.proofs.Counting.{counts}
use Rattle.stream.proofs.laws.keystream_is_ctr.Goals as goal

pub returns : goal.returns
returns g c = counts g.B.Block.form g.met.B.Block.lawful
