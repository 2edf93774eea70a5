-- How the blocks of a kind are read as numbers. Assumes nothing.
use Rattle.std.specs.Prelude.{ℕ}

-- n, the number that a block is read as, its first byte being the highest, and the block that is made of a number
pub record Form (B : Type 0) : Type 0 where
  pub size : ℕ
  pub number : B → ℕ
  pub block : ℕ → B
