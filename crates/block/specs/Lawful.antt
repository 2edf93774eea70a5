-- The laws that every kind of block proves. Assumes nothing.
use Rattle.std.specs.Prelude.{◌≡◌, ℕ, ◌*◌, ◌%◌, ◌^◌, ◌⊎◌}
use Rattle.block.specs.Form.{Form}
use Rattle.block.specs.Blocks.{zero_block, xored}

pub record Lawful {B : Type 0} (form : Form B) : Type 0 where
  -- n is 8 or 16
  pub sized : (form.size ≡ 8) ⊎ (form.size ≡ 16)
  -- a block is given by its number, and every number below 2 ^ (8 * n) is that of a block
  pub read : (a : B) → form.block (form.number a) ≡ a
  pub made : (x : ℕ) → form.number (form.block x) ≡ x % 2 ^ (8 * form.size)
  -- the four laws of xor
  pub associative : (a b c : B) → xored form (xored form a b) c ≡ xored form a (xored form b c)
  pub commutative : (a b : B) → xored form a b ≡ xored form b a
  pub neutral : (a : B) → xored form (zero_block form) a ≡ a
  pub cancelling : (a : B) → xored form a a ≡ zero_block form
