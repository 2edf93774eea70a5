-- What the loop keeps: the bytes so far are the first of the block.
use Rattle.std.proofs.Common.{◌≡◌, take}
use Rattle.block.specs.Blocks.{bytes_of}
use Rattle.seal.proofs.tag.TagStage.tag.Given as goal

abbrev pub invariant-loop-place : goal.invariant-loop-place
invariant-loop-place g l = take l.place l.out ≡ take l.place (bytes_of g.C.Block.Block.form l.self.block)
