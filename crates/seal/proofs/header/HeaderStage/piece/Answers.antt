-- A header piece carries the run on, accepted or refused, and answers by the pieces accepted before.
use Rattle.std.proofs.Common.{rules}
use Rattle.seal.specs.Steps.{Joining}
use Rattle.seal.specs.Runs.{pieced}
use Rattle.seal.proofs.Held.{header_held, header_answer}
use Rattle.seal.proofs.header.HeaderStage.piece.Goals as goal

pub returns : goal.returns
returns g c =
    let form = g.C.Block.Block.form in
    let lawful = g.met.C.Block.Block.lawful in
    let F = g.C.Cipher.f in
    let s = c.args.self.now in
    let X = c.args.piece.now in
    let step : Joining form F s X c.join.result _ = search rules in
    record {
      step = step;
      run = λ origin so_far run. pieced run X c.join.result step;
      answer = λ origin so_far run.
          header_answer form lawful F origin so_far s _ X c.join.result (header_held form lawful F origin run) step;
    }
