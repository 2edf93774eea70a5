-- A header joined in one piece is that header, and the run goes on.
use Rattle.std.proofs.Common.{Ok, refl, ◌∙◌, arith}
use Rattle.key.specs.Headers.{Joined, no_header}
use Rattle.key.specs.Steps.{Prepared}
use Rattle.key.specs.Runs.{prepared}
use Rattle.key.proofs.Joining.{whole_block}
use Rattle.key.proofs.key.Key.prepare.Goals as goal

pub returns : goal.returns
returns g c =
    let form = g.C.Block.Block.form in
    let F = g.C.Cipher.f c.args.self.now.cipher in
    let X = c.args.header.now in
    let n = c.in_ok-count.count in
    let joins : Joined form F (no_header form) X n c.join.new.self = rw (← c.new-whole.ensures) c.in_ok-count.ensures.step in
    let step : Prepared form g.C.Cipher.f c.args.self.now X n _ =
    record {
      counted = omega (arith, joins.counted);
      within = joins.within;
      same = refl;
      held = c.end-self.ensures ∙ whole_block form F g.met.C.Block.Block.lawful X n c.join.new.self joins;
    } in
    record { step = step; run = λ cipher last run. prepared run X (Ok n) step }
