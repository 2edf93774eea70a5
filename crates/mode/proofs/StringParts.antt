-- Parts of strings, and strings joined, are strings: each element is one of theirs.
use Rattle.std.proofs.Common.{ℕ, ◌+◌, ◌-◌, List, ◌++◌, length, take, drop, refl, ⊎_elim, arith}
use Rattle.std.proofs.lemmas.List.{length-take, get_or-take, get_or-drop, get_or_append_left, get_or-append_right, get_or_past}
use Rattle.std.proofs.lemmas.Bool.{cases_lt}
use Rattle.block.specs.ByBytes.{IsString}

pub IsString-drop : (n : ℕ) (X : List ℕ) → IsString X → IsString (drop n X)
IsString-drop n X h i = rw (get_or-drop n X i 0) (h (n + i))

pub IsString-append : (X Y : List ℕ) → IsString X → IsString Y → IsString (X ++ Y)
IsString-append X Y h k i =
    ⊎_elim
    (λ l. rw (get_or_append_left X Y 0 i l) (h i))
    (λ l. rw (get_or-append_right X Y (length X) i 0 refl l) (k (i - length X)))
    (cases_lt i (length X))

pub IsString-take : (n : ℕ) (X : List ℕ) → IsString X → IsString (take n X)
IsString-take n X h i =
    ⊎_elim
    (λ l. rw (get_or-take n X i 0 l) (h i))
    (λ l. rw (get_or_past (take n X) i 0 (omega (arith, length-take n X))) (omega arith))
    (cases_lt i n)
