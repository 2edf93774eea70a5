-- The close carries the run on.
use Rattle.std.proofs.Common.{rules}
use Rattle.seal.specs.Runs.{closed}
use Rattle.seal.proofs.message.MessageStage.close.Goals as goal

pub returns-clause-run : goal.returns-clause-run
returns-clause-run g c origin so_far run = closed run (search rules)
