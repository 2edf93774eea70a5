-- The one list of kinds: number and n. Assumes nothing.
use Rattle.std.specs.Prelude.{ℕ, cond, List, [], ◌∷◌, Some, None, Option, Result, ok_or, ◌==◌}
use Rattle.wire.specs.declared.kind.Suite.{Suite}
use Rattle.wire.specs.declared.kind.Suite.TheVariants.{Aes128, Present80, Bench}
use Rattle.wire.specs.declared.kind.Kind.{Kind}
use Rattle.wire.specs.declared.kind.UnknownKind.{UnknownKind}
use Rattle.wire.specs.declared.kind.Kind.TheVariants.{Idle, Sealed}

abbrev pub kinds : List Kind
kinds = Idle ∷ Sealed Aes128 ∷ Sealed Present80 ∷ Sealed Bench ∷ []

abbrev pub suite_number : Suite → ℕ
suite_number Aes128 = 1
suite_number Present80 = 2
suite_number Bench = 3

abbrev pub kind_number : Kind → ℕ
kind_number Idle = 0
kind_number (Sealed s) = suite_number s

-- n, the bytes of a block
abbrev pub block_len : Suite → ℕ
block_len Aes128 = 16
block_len Present80 = 8
block_len Bench = 8

abbrev pub with_number : List Kind → ℕ → Option Kind
with_number [] b = None
with_number (k ∷ ks) b = cond (b == kind_number k) (Some k) (with_number ks b)

-- the kind of the list that has this number
abbrev pub kind_of : ℕ → Option Kind
kind_of = with_number kinds

-- the same as a result: a number that no kind has is the error
abbrev pub kind_or_error : ℕ → Result Kind UnknownKind
kind_or_error number = ok_or (kind_of number) (record { number = number })
