-- Every list of calls of one walk, and what holds after each. Assumes nothing.
use Rattle.std.specs.Prelude.{◌≡◌, ℕ, ◌+◌, List, [], ◌∷◌, ◌++◌, length}
use Rattle.pass.specs.Layout.{Parts, encoded, EndToEnd}
use Rattle.pass.specs.Walking.{Point, start, Handed, Told, none, handed, refused, Steps}

-- the frames after a call: what was handed out, in its order
abbrev pub collected : List Handed → Told → List Handed
collected fs none = fs
collected fs (handed f) = fs ++ (f ∷ [])
collected fs (refused _ _ _) = fs

-- calls that follow one another on the walk of a file, with the frames that they handed out. The steps are those
-- that the call's contract cites
pub data Walks (file : List ℕ) : List Handed → Point → Type 0 where
  begun : Walks file [] (start file)
  called : {fs : List Handed} {w v : Point} → Walks file fs w → (r : Told) → Steps w r v → Walks file (collected fs r) v

-- the bytes of frames
abbrev pub size : List Parts → ℕ
size [] = 0
size (p ∷ ps) = size ps + length (encoded p)

-- the frames of a file as they are handed out, numbered from n; in the file, each stands behind those that follow it here
abbrev pub numbered : ℕ → List Parts → List Handed
numbered n [] = []
numbered n (p ∷ ps) = record { parts = p; number = n; place = size ps; len = length (encoded p) } ∷ numbered (n + 1) ps

-- a file that is frames end to end is walked to its start, and these frames are handed out
abbrev pub Reaches : List ℕ → Type 0
Reaches file = (ps : List Parts) → EndToEnd file ps → Walks file (numbered 0 ps) (record { rest = []; number = length ps })

-- What a call says of the whole file, after calls that handed out fs. None: the file is frames end to end, in one way
-- only, and they are what was handed out. A frame: it is the next of every such list. A refusal: there is none
abbrev pub Whole : List ℕ → List Handed → Told → Type 0
Whole file fs none =
    (ps : List Parts) × EndToEnd file ps × (fs ≡ numbered 0 ps) × ((qs : List Parts) → EndToEnd file qs → qs ≡ ps)
Whole file fs (handed f) =
    (ps : List Parts) → EndToEnd file ps → (more : List Handed) × (numbered 0 ps ≡ fs ++ (f ∷ more))
Whole file fs (refused _ _ _) = (ps : List Parts) → EndToEnd file ps → ⊥
