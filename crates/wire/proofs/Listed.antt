-- Each kind is found by its number, and what is found has that number: no two of the list have the same.
use Rattle.std.proofs.Common.{◌≡◌, ℕ, Bool, true, false, cond, eqb, List, [], ◌∷◌, Some, sym, refl, ap, ◌∙◌}
use Rattle.std.proofs.lemmas.Bool.{eqb-true}
use Rattle.wire.specs.Kinds.{kinds, kind_number, with_number, kind_of}
use Rattle.wire.specs.declared.kind.Kind.{Kind}
use Rattle.wire.specs.declared.kind.Kind.TheVariants.{Idle, Sealed}
use Rattle.wire.specs.declared.kind.Suite.TheVariants.{Aes128, Present80, Bench}

pub listed : (k : Kind) → kind_of (kind_number k) ≡ Some k
listed Idle = refl
listed (Sealed Aes128) = refl
listed (Sealed Present80) = refl
listed (Sealed Bench) = refl

found_in : (ks : List Kind) (b : ℕ) (k : Kind) → with_number ks b ≡ Some k → kind_number k ≡ b
found_in [] b k e = absurd (cc)
found_in (j ∷ js) b k e = by_test (found_in js b k) (eqb b (kind_number j)) refl e
  where
    by_test : (with_number js b ≡ Some k → kind_number k ≡ b)
        → (t : Bool)
        → eqb b (kind_number j) ≡ t
        → cond t (Some j) (with_number js b) ≡ Some k
        → kind_number k ≡ b
    by_test more true h f = let same : j ≡ k = cc in sym (eqb-true b (kind_number j) h ∙ ap kind_number same)
    by_test more false h f = more f

pub found : (b : ℕ) (k : Kind) → kind_of b ≡ Some k → kind_number k ≡ b
found = found_in kinds
