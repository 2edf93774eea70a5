-- The last block is padded as it is told, with L doubled once or twice.
use Rattle.std.proofs.Common.{rules}
use Rattle.mode.specs.Strings.{l, two_l, four_l}
use Rattle.stream.specs.Chaining.{finished}
use Rattle.stream.proofs.chain.Chain.finish.Goals as goal

pub returns : goal.returns
unfolding finished l two_l four_l
returns g c = search rules
