-- The trailer is read from the last eight bytes alone.
use Rattle.std.proofs.Common.{arith}
use Rattle.pass.proofs.Trailers.{of_last}
use Rattle.pass.proofs.frame.last_frame.Goals as goal

pub returns : goal.returns
returns c = grind (arith, of_last c.args.bytes.now)

pub returns-in_err-read : goal.returns-in_err-read
returns-in_err-read c = grind (arith, of_last c.args.bytes.now)
