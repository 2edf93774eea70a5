-- Leaving the header stage carries the run on.
use Rattle.std.proofs.Common.{rules}
use Rattle.seal.specs.Runs.{left}
use Rattle.seal.proofs.header.HeaderStage.leave.Goals as goal

pub returns-clause-run : goal.returns-clause-run
returns-clause-run g c origin so_far run = left run (search rules)
