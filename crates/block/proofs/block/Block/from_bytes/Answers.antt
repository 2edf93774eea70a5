-- Each turn puts one byte in; a byte reads back as it was put.
use Rattle.std.proofs.Common.{◌≡◌, sym, ap, ◌∙◌, mod-eq_of_lt}
use mir.Facts.{Fits-lt-pow}
use Rattle.std.proofs.lemmas.List.{at_drop_more, at_drop_all}
use Rattle.block.specs.Blocks.{byte_at, put_from, block_of}
use Rattle.block.proofs.Bytes.{byte-block_of}
use Rattle.block.proofs.block.Block.from_bytes.Goals as goal

pub loop-place-preserved : goal.loop-place-preserved
loop-place-preserved g c =
    let form = g.Self.Block.form in
    let xs = c.args.bytes.now in
    let i = c.loop-place.place in
    let step = at_drop_more (put_from form c.loop-place.block i) xs i 0 c.loop-place-test.true in
    rw c.put-block.ensures (sym step ∙ c.loop-place.invariant)

pub returns : goal.returns
returns g c =
    let form = g.Self.Block.form in
    let xs = c.args.bytes.now in
    let i = c.loop-place.place in
    let value : c.loop-place.block ≡ block_of form xs =
    sym (at_drop_all (put_from form c.loop-place.block i) xs i c.loop-place-test.false) ∙ c.loop-place.invariant in
    record {
      value = value;
      places = λ j l.
          ap (λ b. byte_at form b j) value
          ∙ byte-block_of form g.met.Self.Block.lawful xs j l
          ∙ mod-eq_of_lt (Fits-lt-pow (c.type_inv.bytes j));
    }
