-- What each operation on blocks answers, for every kind of block. Assumes nothing.
use Rattle.std.specs.Prelude.{ℕ, ◌+◌, ◌-◌, ◌*◌, ◌/◌, ◌%◌, ◌^◌, cond, List, [], ◌∷◌, map, ◌==◌, bit_xor, nat_lt}
use Rattle.std.specs.List.{range_with_len}
use Rattle.block.specs.Form.{Form}

-- where the byte at a place begins, in bits from the lowest, in a block of n bytes
abbrev pub shift : ℕ → ℕ → ℕ
shift n place = 8 * (n - 1 - place)

-- a number with another byte at a place: what is above it, the byte, and what is below it
abbrev pub replaced : ℕ → ℕ → ℕ → ℕ
replaced x lowest v = (x / 2 ^ lowest / 256 * 256 + v % 256) * 2 ^ lowest + x % 2 ^ lowest

-- what doubling xors into the last byte where the top bit was 1
abbrev pub reduction : ℕ → ℕ
reduction n = cond (n == 16) 0x87 0x1B

module _ {B : Type 0} (form : Form B) where
  abbrev pub zero_block : B
  zero_block = form.block 0

  -- [t]: the last byte is t, and the others are 00
  abbrev pub end_block : ℕ → B
  end_block t = form.block (t % 256)

  abbrev pub xored : B → B → B
  xored a b = form.block (bit_xor (form.number a) (form.number b))

  -- a place of n or more reads as 00
  abbrev pub byte_at : B → ℕ → ℕ
  byte_at a place =
      cond (nat_lt place form.size) (form.number a / 2 ^ shift form.size place % 256) 0

  -- a place of n or more replaces nothing
  abbrev pub with_byte_at : B → ℕ → ℕ → B
  with_byte_at a place v =
      cond (nat_lt place form.size) (form.block (replaced (form.number a) (shift form.size place) v)) a

  abbrev pub shifted_left : B → B
  shifted_left a = form.block (2 * form.number a)

  -- shifted left by one bit, the top bit dropped; where that was 1, the last byte is then xored
  abbrev pub doubled : B → B
  doubled a =
      cond
      (nat_lt (byte_at a 0) 0x80)
      (shifted_left a)
      (xored (shifted_left a) (end_block (reduction form.size)))

  -- one more, modulo 2 ^ (8 * n)
  abbrev pub following : B → B
  following a = form.block (form.number a + 1)

  -- the bytes of a block, from its first
  abbrev pub bytes_of : B → List ℕ
  bytes_of a = map (byte_at a) (range_with_len 0 form.size)

  -- a block with the bytes of a string put in from a place on
  abbrev pub put_from : B → ℕ → List ℕ → B
  put_from a place [] = a
  put_from a place (x ∷ xs) = put_from (with_byte_at a place x) (place + 1) xs

  -- the block whose bytes are the first n of a string, and 00 where it has no more
  abbrev pub block_of : List ℕ → B
  block_of xs = put_from zero_block 0 xs
