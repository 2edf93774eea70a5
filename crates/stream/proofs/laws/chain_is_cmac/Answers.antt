-- A chain comes to CMAC, by the laws of blocks.
use Rattle.stream.proofs.Chained.{chains}
use Rattle.stream.proofs.laws.chain_is_cmac.Goals as goal

pub returns : goal.returns
returns g c = chains g.B.Block.form g.met.B.Block.lawful
