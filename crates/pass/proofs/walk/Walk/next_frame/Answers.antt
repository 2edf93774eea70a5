-- What ends the rest decides the step, and the step decides what is said of the whole file.
use Rattle.std.proofs.Common.{sym, arith, rules}
use Rattle.std.proofs.lemmas.Bool.{eqb-true, eqb-false}
use Rattle.std.proofs.lemmas.Result.{err_from_is_err_and}
use Rattle.wire.proofs.Carried.{placed_ok, placed_err}
use Rattle.pass.specs.View.{told}
use Rattle.pass.specs.Walking.{handed}
use Rattle.pass.specs.Runs.{called}
use Rattle.pass.proofs.Call.{none_left, refuses, hands}
use Rattle.pass.proofs.Whole.{whole}
use Rattle.pass.proofs.walk.Walk.next_frame.Goals as goal

pub returns-then-is_empty-clause-rule : goal.returns-then-is_empty-clause-rule
returns-then-is_empty-clause-rule c =
    (none_left c.args.self.now.point (rw (← c.self.view_is) (eqb-true _ _ (sym c.if-is_empty.ensures)))).rule

pub returns-in_err-rest-clause-step : goal.returns-in_err-rest-clause-step
returns-in_err-rest-clause-step c =
    let e = err_from_is_err_and c.from_residual.result c.from_residual.ensures.1 in
    let d = placed_err c.located.result _ c.in_err-rest.field-0.0 (sym c.in_err-rest.ensures) in
    rw (← c.self.view_is, e.1, e.2, ← d.1)
    (refuses _ c.in_err-rest.field-0.0.0 (omega (arith, eqb-false _ _ (sym c.if-is_empty.ensures)))
    (sym (rw d.0 at c.located.ensures.value))
    (rw d.0 at c.located.ensures.cases))

pub returns-in_err-rest-clause-rule : goal.returns-in_err-rest-clause-rule
returns-in_err-rest-clause-rule c file fs run =
    whole file fs _ _ (told c.from_residual.result) run (returns-in_err-rest-clause-step c)

pub returns-clause-step : goal.returns-clause-step
returns-clause-step c =
    let ok = placed_ok c.located.result _ c.in_ok-rest.field-0 (sym c.in_ok-rest.ensures) in
    rw (← c.self.view_is)
    (hands _ c.in_ok-rest.field-0 _ _ (rw ok at c.located.ensures.cases) (search rules) (search rules))

pub returns-clause-run : goal.returns-clause-run
returns-clause-run c file fs run = called run (handed _) (returns-clause-step c)

pub returns-clause-rule : goal.returns-clause-rule
returns-clause-rule c file fs run = whole file fs _ _ (handed _) run (returns-clause-step c)
