-- What a cipher names: the number of a sealed kind of frame, and its n. Assumes nothing.
use Rattle.std.specs.Prelude.{◌≡◌, ℕ, Some}
use Rattle.wire.specs.Kinds.{block_len, kind_of}
use Rattle.wire.specs.declared.kind.Kind.TheVariants.{Sealed}
use Rattle.wire.specs.declared.kind.Suite.{Suite}

-- the number is that of a sealed kind in the one list of kinds, and n is that kind's
pub record SealedKind (number n : ℕ) : Type 0 where
  pub suite : Suite
  pub listed : kind_of number ≡ Some (Sealed suite)
  pub sized : n ≡ block_len suite
