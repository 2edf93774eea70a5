-- A plain start begins a run.
use Rattle.std.proofs.Common.{rules}
use Rattle.mode.specs.Strings.{nonce_block}
use Rattle.seal.specs.Steps.{Begins}
use Rattle.seal.specs.Runs.{begun}
use Rattle.seal.proofs.header.HeaderStage.start.Goals as goal

pub returns : goal.returns
unfolding nonce_block
returns g c =
    let step : Begins g.C.Block.Block.form g.C.Cipher.f c.args.key c.args.nonce.now _ = search rules in
    record { step = step; run = λ cipher last keys. begun keys c.args.nonce.now step }
