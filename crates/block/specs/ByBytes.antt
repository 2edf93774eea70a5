-- A block by its bytes: laws of every kind. Assumes nothing.
use Rattle.std.specs.Prelude.{◌≡◌, ℕ, ◌<◌, List, length, ◌≢◌, bit_xor, slice_index}
use Rattle.std.specs.Int.Digits.{number_from_digits}
use Rattle.block.specs.Form.{Form}
use Rattle.block.specs.Blocks.{xored, byte_at, with_byte_at, bytes_of, block_of}

-- a string is a list of bytes
abbrev pub IsString : List ℕ → Type 0
IsString X = (i : ℕ) → slice_index X i < 256

pub record ByBytes {B : Type 0} (form : Form B) : Type 0 where
  -- a block has n bytes, and its number is what they write in base 256, the first being the highest
  pub len : (a : B) → length (bytes_of form a) ≡ form.size
  pub string : (a : B) → IsString (bytes_of form a)
  pub value : (a : B) → number_from_digits 256 (bytes_of form a) ≡ form.number a
  -- every string of n bytes is that of one block
  pub made : (X : List ℕ) → IsString X → length X ≡ form.size → bytes_of form (block_of form X) ≡ X
  pub back : (a : B) → block_of form (bytes_of form a) ≡ a
  -- a byte that is replaced reads back, and the others are as they were
  pub same : (a : B) (place v : ℕ) → place < form.size → v < 256 → byte_at form (with_byte_at form a place v) place ≡ v
  pub other : (a : B) (place v i : ℕ) → (place ≢ i) → byte_at form (with_byte_at form a place v) i ≡ byte_at form a i
  -- xor goes byte by byte
  pub xor : (a b : B) (i : ℕ) → byte_at form (xored form a b) i ≡ bit_xor (byte_at form a i) (byte_at form b i)
