-- A tag call carries the run on, accepted or refused, and what it filled is faithful after every run.
use Rattle.std.proofs.Common.{◌≡◌, ◌<◌, true, length, Ok, rules, arith}
use Rattle.std.proofs.lemmas.Grind.{common_steps}
use Rattle.std.proofs.lemmas.Bool.{and_parts, leb-true}
use Rattle.std.proofs.lemmas.List.{take_more, take_more_set}
use Rattle.wire.specs.Limits.{is_tag_len_of}
use Rattle.block.specs.Blocks.{bytes_of}
use Rattle.block.proofs.Bytes.{length-bytes, get_or-bytes}
use Rattle.seal.specs.Steps.{Tagged}
use Rattle.seal.specs.Runs.{tagged}
use Rattle.seal.proofs.Held.{tag_held}
use Rattle.seal.proofs.tag.TagStage.tag.Goals as goal

pub loop-place-preserved : goal.loop-place-preserved
loop-place-preserved g c =
    let form = g.C.Block.Block.form in
    let lawful = g.met.C.Block.Block.lawful in
    let b = c.args.self.now.block in
    let i = c.loop-place.place in
    let allowed : is_tag_len_of form.size (length c.args.out.now) ≡ true = search rules in
    let fits : i < form.size = omega (arith, leb-true (length c.args.out.now) form.size (and_parts _ _ allowed).1) in
    cc (
      take_more_set c.loop-place.out i c.byte.result (omega arith),
      take_more (bytes_of form b) i 0 (omega (arith, length-bytes form lawful b)),
      get_or-bytes form lawful b i,
    )

pub returns : goal.returns
returns g c =
    let form = g.C.Block.Block.form in
    let F = g.C.Cipher.f in
    let X = c.args.out.now in
    let Y = c.loop-place.out in
    let step : Tagged form F c.args.self.now X (length Y) Y = grind (arith, common_steps) in
    record {
      step = step;
      run = λ origin so_far before. tagged before X Y (Ok (length Y)) step;
      rule = λ origin so_far before.
          (tag_held form g.met.C.Block.Block.lawful F origin (tagged before X Y (Ok (length Y)) step)).faithful;
    }

pub returns-then-not-is_tag_len-clause-rule : goal.returns-then-not-is_tag_len-clause-rule
returns-then-not-is_tag_len-clause-rule g c origin so_far before =
    (tag_held g.C.Block.Block.form g.met.C.Block.Block.lawful g.C.Cipher.f origin before).faithful
