-- What `?` hands on is the definition's frame or fault; the frame is there, or the check applies, since every element of
-- the file is a byte.
use Rattle.std.proofs.Common.{sym, arith}
use mir.Facts.{Fits-lt-pow}
use Rattle.std.proofs.lemmas.Grind.{common_steps}
use Rattle.std.proofs.lemmas.Result.{err_from_is_err_and}
use Rattle.wire.proofs.Carried.{placed_err}
use Rattle.pass.specs.Reading.{last_of}
use Rattle.pass.proofs.Cuts.{last_read}
use Rattle.pass.proofs.RoundTrip.{shorter}
use Rattle.pass.proofs.walk.located.Goals as goal

pub returns-in_err-at-clause-value : goal.returns-in_err-at-clause-value
unfolding last_of
returns-in_err-at-clause-value c =
    let e = err_from_is_err_and c.from_residual.result c.from_residual.ensures.1 in
    let d = placed_err c.last_frame.result _ c.in_err-at.field-0.0 (sym c.in_err-at.ensures) in
    rw (e.1, e.2, ← c.last_frame.ensures, d.0, ← d.1, c.trailer_place.ensures)

pub returns-in_err-at-clause-cases : goal.returns-in_err-at-clause-cases
returns-in_err-at-clause-cases c =
    rw (returns-in_err-at-clause-value c) (last_read c.args.bytes.now (λ i. Fits-lt-pow (c.type_inv.bytes i)))

pub returns-clause-value : goal.returns-clause-value
unfolding last_of
returns-clause-value c = grind (arith, common_steps)

pub returns-clause-cases : goal.returns-clause-cases
returns-clause-cases c =
    rw (← returns-clause-value c) at (last_read c.args.bytes.now (λ i. Fits-lt-pow (c.type_inv.bytes i)))

pub returns-clause-shorter : goal.returns-clause-shorter
returns-clause-shorter c = shorter c.args.bytes.now _ _ (returns-clause-cases c)
