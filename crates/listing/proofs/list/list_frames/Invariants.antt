-- The loop keeps the lines written so far, and the rest of the walk falls.
use Rattle.std.proofs.Common.{length, string_bytes}
use Rattle.listing.proofs.Walked.{Sofar}
use Rattle.listing.proofs.list.list_frames.Given as goal

abbrev pub invariant-walking : goal.invariant-walking
invariant-walking l = Sofar (string_bytes l.initial.text) l.file (string_bytes l.text) l.walk.point

abbrev pub decreases-walking : goal.decreases-walking
decreases-walking l = length l.walk.point.rest
