-- The keystream of CTR, byte by byte. What it comes to is told in `Laws`. Assumes nothing.
use Rattle.std.specs.Prelude.{ℕ, ◌+◌, cond, List, [], ◌∷◌, fold, bit_xor, nat_lt}
use Rattle.block.specs.Form.{Form}
use Rattle.block.specs.Blocks.{zero_block, byte_at, following}
use Rattle.stream.specs.declared.keystream.Keystream.{Keystream}

module _ {B : Type 0} (form : Form B) where
  -- no byte has been used, and F(S) is the next mask
  abbrev pub starting_at : (S : B) → Keystream B
  starting_at S = record { counter = S; mask = zero_block form; used = form.size }

  module _ (F : B → B) where
    abbrev pub with_mask : Keystream B → Keystream B
    with_mask k =
        cond
        (nat_lt k.used form.size)
        k
        (record { counter = following form k.counter; mask = F k.counter; used = 0 })

    -- the next byte of the keystream
    abbrev pub next_byte : Keystream B → ℕ
    next_byte k = let r : Keystream B = with_mask k in byte_at form r.mask r.used

    abbrev pub stepped : Keystream B → Keystream B
    stepped k =
        let r : Keystream B = with_mask k in
        record { counter = r.counter; mask = r.mask; used = r.used + 1 }

    -- a string xored with the next bytes, and the keystream after them
    unfoldable pub enciphered : Keystream B → List ℕ → List ℕ
    enciphered k [] = []
    enciphered k (x ∷ X) = bit_xor x (next_byte k) ∷ enciphered (stepped k) X

    unfoldable pub advanced : Keystream B → List ℕ → Keystream B
    advanced k X = fold (λ k _. stepped k) k X
