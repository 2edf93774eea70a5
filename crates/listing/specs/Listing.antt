-- The text of a listing. Assumes nothing.
use Rattle.std.specs.Prelude.{◌≡◌, ℕ, zero, suc, ◌+◌, cond, List, [], ◌∷◌, ◌++◌, length, ◌≢◌, nat_lt}
use Rattle.std.specs.List.{flat_map}
use Rattle.pass.specs.Layout.{Parts}
use Rattle.pass.specs.Walking.{Point, start, Handed, Told, none, handed, refused, answer, next}
use Rattle.pass.specs.Runs.{Walks, numbered}
use Rattle.listing.specs.Lines.{handed_text, end_text, fault_text}

abbrev pub input_max : ℕ
input_max = 65536

abbrev pub line : List ℕ → List ℕ
line text = text ++ (10 ∷ [])

abbrev pub frame_line : Handed → List ℕ
frame_line f = line (handed_text f)

-- the line that an answer gives at a point; after a frame come more lines
abbrev pub lines_at : Told → Point → (more : List ℕ) → List ℕ
lines_at none w more = line (end_text w.number)
lines_at (handed f) w more = frame_line f ++ more
lines_at (refused fault _ _) w more = line (fault_text fault (length w.rest))

-- the lines of a walk from a point on; each turn but the last hands out a frame
abbrev pub lines : (turns : ℕ) → Point → List ℕ
lines zero w = []
lines (suc turns) w = lines_at (answer w) w (lines turns (next w))

-- a file has fewer frames than turns
unfoldable pub listing : List ℕ → List ℕ
listing file = cond (nat_lt input_max (length file)) (line (fault_text 14 input_max)) (lines (length file + 1) (start file))

-- The same over the runs of the walk: the lines of the frames that its calls hand out, and the line of the answer at
-- which they hand out no more
pub record Lists (file text : List ℕ) : Type 0 where
  pub frames : List Handed
  pub end : Point
  pub run : Walks file frames end
  pub last : (f : Handed) → answer end ≢ handed f
  pub bytes : text ≡ flat_map frame_line frames ++ lines_at (answer end) end []

-- the listing of a file that is frames end to end: their lines, and their count
abbrev pub frame_lines : List Parts → List ℕ
frame_lines ps = flat_map frame_line (numbered 0 ps) ++ line (end_text (length ps))
