-- A fresh key begins a run of no calls, with the H-block of the empty header.
use Rattle.std.proofs.Common.{refl, ap, ◌∙◌}
use Rattle.key.specs.Headers.{ended}
use Rattle.key.specs.Steps.{Made}
use Rattle.key.specs.Runs.{made}
use Rattle.key.proofs.Joining.{empty_block}
use Rattle.key.proofs.key.Key.new.Goals as goal

pub returns : goal.returns
returns g c =
    let form = g.C.Block.Block.form in
    let F = g.C.Cipher.f c.args.cipher in
    let step : Made form g.C.Cipher.f c.args.cipher _ =
    record {
      same = refl;
      empty = c.end-prepared.ensures ∙ ap (ended form F) c.new.ensures ∙ empty_block form F g.met.C.Block.Block.lawful;
    } in
    record { step = step; run = made step }
