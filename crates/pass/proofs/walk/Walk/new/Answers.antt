-- A new walk is a run of no calls, and some run reaches the start of a file that is frames end to end.
use Rattle.pass.specs.Runs.{begun}
use Rattle.pass.proofs.Whole.{reaches}
use Rattle.pass.proofs.walk.Walk.new.Goals as goal

pub returns-clause-run : goal.returns-clause-run
returns-clause-run c = begun

pub returns-clause-reaches : goal.returns-clause-reaches
returns-clause-reaches c ps e = reaches c.args.file.now ps e
