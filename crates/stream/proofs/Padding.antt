-- The last block of a padded string: a block is given by the first n bytes of its string, and 00 put where a byte is 00
-- already changes nothing.
use Rattle.std.proofs.Common.{◌≡◌, ℕ, ◌+◌, ◌<◌, List, [], ◌∷◌, ◌++◌, length, get_or, replicate, sym, ◌∙◌, arith}
use Rattle.std.proofs.lemmas.List.{append_assoc, ext_get_or}
use Rattle.std.proofs.lemmas.Grind.{common_steps}
use Rattle.block.specs.Form.{Form}
use Rattle.block.specs.Lawful.{Lawful}
use Rattle.block.specs.Blocks.{zero_block, with_byte_at, bytes_of, put_from, block_of}
use Rattle.block.proofs.Bytes.{length-bytes, get_or-bytes, byte-block_of, by_bytes}

-- past its end a string reads as 00, so 00 after it changes no byte
get_or-zeros : (X : List ℕ) (k i : ℕ) → get_or (X ++ replicate k 0) i 0 ≡ get_or X i 0
get_or-zeros X k i = grind (arith, common_steps)

module _ {B : Type 0} (form : Form B) (lawful : Lawful form) where
  -- a block is given by the first n bytes of its string
  pub same_front : (X Y : List ℕ)
      → ((i : ℕ) → i < form.size → get_or X i 0 ≡ get_or Y i 0)
      → block_of form X ≡ block_of form Y
  same_front X Y same =
      let x = block_of form X in
      let y = block_of form Y in
      let bytes : bytes_of form x ≡ bytes_of form y =
      ext_get_or 0 _ _
      (length-bytes form lawful x ∙ sym (length-bytes form lawful y))
      (λ i l.
      let h : i < form.size = omega (arith, length-bytes form lawful x) in
      cc (get_or-bytes form lawful x i, get_or-bytes form lawful y i, byte-block_of form lawful X i h, byte-block_of form lawful Y i h, same i h)) in
      cc ((by_bytes form lawful).back x, (by_bytes form lawful).back y)

  put_one_more : (X : List ℕ) (a : B) (p v : ℕ)
      → put_from form a p (X ++ v ∷ []) ≡ with_byte_at form (put_from form a p X) (p + length X) v
  put_one_more [] a p v = grind arith
  put_one_more (x ∷ X) a p v = grind (arith, put_one_more X (with_byte_at form a p x) (p + 1) v)

  -- a byte and then 00 after a string: that byte is put in its place
  pub block-filled_up : (X : List ℕ) (v k : ℕ)
      → block_of form (X ++ v ∷ replicate k 0) ≡ with_byte_at form (block_of form X) (length X) v
  block-filled_up X v k =
      let parts = append_assoc X (v ∷ []) (replicate k 0) in
      let same = same_front _ (X ++ v ∷ []) (λ i l. get_or-zeros (X ++ v ∷ []) k i) in
      grind (arith, put_one_more X (zero_block form) 0 v)
