-- A turn writes the line of the frame that was handed out.
use Rattle.pass.specs.View.{handed_of}
use Rattle.listing.proofs.Walked.{one_more}
use Rattle.listing.proofs.list.list_frames.Goals as goal

pub walking-preserved : goal.walking-preserved
walking-preserved c =
    let call = rw c.in-Ok-Some.field-0-is at c.in-Ok-Some.ensures in
    one_more c.walking.invariant _ _ (handed_of c.in-Ok-Some.frame) call.value call.after call.step c.in_ok-writeln-in-Ok-Some.ensures.bytes
