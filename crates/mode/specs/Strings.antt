-- What EAX computes: strings over the meaning F of a cipher and its kind of block. Assumes nothing.
use Rattle.std.specs.Prelude.{ℕ, zero, suc, ◌+◌, ◌-◌, ◌/◌, ◌%◌, Bool, cond, ◌&&◌, List, [], ◌∷◌, ◌++◌, length, take, drop, replicate, Ok, Err, Result, ◌==◌, nat_lt}
use Rattle.std.specs.Str.{bytes_eq}
use Rattle.wire.specs.Limits.{is_tag_len_of}
use Rattle.wire.specs.declared.fault.RecordFault.{RecordFault}
use Rattle.wire.specs.declared.fault.RecordFault.TheVariants.{TagLength, TagWrong}
use Rattle.block.specs.Form.{Form}
use Rattle.block.specs.Blocks.{zero_block, end_block, xored, doubled, following, bytes_of, block_of}

module _ {B : Type 0} (form : Form B) where
  -- a block xored into the last n bytes of a string
  unfoldable pub into_last : B → List ℕ → List ℕ
  into_last b X =
      let front : ℕ = length X - form.size in
      take front X ++ bytes_of form (xored form (block_of form (drop front X)) b)

  -- a block xored into the first n bytes of a string, or as many as it has
  unfoldable pub into_first : B → List ℕ → List ℕ
  into_first b X = take (length X) (bytes_of form (xored form (block_of form X) b))

  -- not empty, and whole blocks
  unfoldable pub is_full : List ℕ → Bool
  is_full X = nat_lt 0 (length X) && length X % form.size == 0

  -- 80, and then 00 up to the next multiple of n
  unfoldable pub filled_up : List ℕ → List ℕ
  filled_up X = X ++ (0x80 ∷ replicate (form.size - 1 - length X % form.size) 0)

  module _ (F : B → B) where
    unfoldable pub l : B
    l = F (end_block form 0)

    unfoldable pub two_l : B
    two_l = doubled form l

    unfoldable pub four_l : B
    four_l = doubled form two_l

    unfoldable pub pad : List ℕ → List ℕ
    pad X = cond (is_full X) (into_last two_l X) (into_last four_l (filled_up X))

    -- CBC from v: each block of a string in turn is xored in, and F applied
    unfoldable pub cbc : (blocks : ℕ) → B → List ℕ → B
    cbc zero v X = v
    cbc (suc blocks) v X = cbc blocks (F (xored form v (block_of form X))) (drop form.size X)

    -- CMAC: CBC of the padded string, from the zero block
    unfoldable pub cmac : List ℕ → B
    cmac X = cbc (length (pad X) / form.size) (zero_block form) (pad X)

    -- OMAC under t: CMAC of [t] followed by the string
    unfoldable pub omac : ℕ → List ℕ → B
    omac t X = cmac (bytes_of form (end_block form t) ++ X)

    -- F(S), F(S + 1), F(S + 2) and so on, each xored into a block of a string
    unfoldable pub ctr_blocks : (blocks : ℕ) → B → List ℕ → List ℕ
    ctr_blocks zero S X = []
    ctr_blocks (suc blocks) S X = into_first (F S) X ++ ctr_blocks blocks (following form S) (drop form.size X)

    -- CTR from S: the last block may be short
    unfoldable pub ctr : B → List ℕ → List ℕ
    ctr S X = ctr_blocks ((length X + form.size - 1) / form.size) S X

    -- of a nonce N, a header H, a message M, a ciphertext C and a tag T
    unfoldable pub nonce_block : (N : List ℕ) → B
    nonce_block N = omac 0 N

    unfoldable pub header_block : (H : List ℕ) → B
    header_block H = omac 1 H

    unfoldable pub ciphertext_block : (C : List ℕ) → B
    ciphertext_block C = omac 2 C

    unfoldable pub ciphertext : (N M : List ℕ) → List ℕ
    ciphertext N M = ctr (nonce_block N) M

    unfoldable pub tag_block_of : (N H C : List ℕ) → B
    tag_block_of N H C = xored form (xored form (nonce_block N) (header_block H)) (ciphertext_block C)

    -- the tag of u bytes
    unfoldable pub tag : (u : ℕ) (N H C : List ℕ) → List ℕ
    tag u N H C = take u (bytes_of form (tag_block_of N H C))

    -- what opening answers: 5 for the tag's length, else 6 for another tag than that of C, else the message
    unfoldable pub opening : (N H C T : List ℕ) → Result (List ℕ) RecordFault
    opening N H C T =
        cond
        (is_tag_len_of form.size (length T))
        (cond (bytes_eq T (tag (length T) N H C)) (Ok (ctr (nonce_block N) C)) (Err TagWrong))
        (Err TagLength)
