-- A chain that begins with [t] comes to OMAC under t.
use Rattle.stream.specs.Tweaks.{tweak_number}
use Rattle.stream.proofs.Chained.{chains}
use Rattle.stream.proofs.omac.omac.Goals as goal

pub returns : goal.returns
returns g c =
    let law = chains g.C.Block.Block.form g.met.C.Block.Block.lawful (g.C.Cipher.f c.args.cipher.now) in
    let whole = law.tweaked (tweak_number c.args.tweak) c.args.string.now in
    cc
