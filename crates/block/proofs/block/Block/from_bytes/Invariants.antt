-- What the loop keeps: the bytes that are left, put in, make the block of all.
use Rattle.std.proofs.Common.{◌≡◌, drop}
use Rattle.block.specs.Blocks.{put_from, block_of}
use Rattle.block.proofs.block.Block.from_bytes.Given as goal

abbrev pub invariant-loop-place : goal.invariant-loop-place
invariant-loop-place g l =
    let form = g.Self.Block.form in
    put_from form l.block l.place (drop l.place l.bytes) ≡ block_of form l.bytes
