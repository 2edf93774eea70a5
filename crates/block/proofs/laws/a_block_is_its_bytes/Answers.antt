-- The law follows from those that the kind proves.
use Rattle.block.proofs.Bytes.{by_bytes}
use Rattle.block.proofs.laws.a_block_is_its_bytes.Goals as goal

pub returns : goal.returns
returns g c = by_bytes g.B.Block.form g.met.B.Block.lawful
