-- The keystream gives CTR: within a block each byte is xored with the byte of the mask at its place, and a used-up block
-- is followed by F of the next counter.
use Rattle.std.proofs.Common.{◌≡◌, ℕ, zero, suc, ◌+◌, ◌*◌, ◌<◌, ◌≤◌, min, List, [], ◌∷◌, ◌++◌, length, get_or, take, drop, sym, refl, ◌∙◌, suc-mul, zero-mul, arith}
use lib.Bits.{bit_xor}
use Rattle.std.proofs.lemmas.List.{length-take, length-drop, take-append-drop, ext_get_or}
use Rattle.std.proofs.lemmas.List.Sums.{fold-append}
use Rattle.std.proofs.lemmas.Grind.{common_steps}
use Rattle.std.proofs.lemmas.Bool.Decides.{nat_tests}
use Rattle.block.specs.Form.{Form}
use Rattle.block.specs.Lawful.{Lawful}
use Rattle.block.specs.Blocks.{byte_at, following, block_of}
use Rattle.block.specs.ByBytes.{IsString}
use Rattle.block.proofs.Bytes.{byte-xor, byte-block_of}
use Rattle.mode.specs.Strings.{into_first, ctr_blocks, ctr}
use Rattle.mode.proofs.Ctr.{enough, some, length-into_first, get_or-into_first}
use Rattle.mode.proofs.StringParts.{IsString-drop}
use Rattle.stream.specs.Counting.{stepped, enciphered, advanced}
use Rattle.stream.specs.Laws.{Counts}
use Rattle.stream.specs.declared.keystream.Keystream.{Keystream}

module _ {B : Type 0} (form : Form B) (lawful : Lawful form) (F : B → B) where
  joined : (k : Keystream B) (X Y : List ℕ)
      → enciphered form F k (X ++ Y) ≡ enciphered form F k X ++ enciphered form F (advanced form F k X) Y
  unfolding enciphered advanced
  joined k [] Y = grind arith
  joined k (x ∷ X) Y = grind (arith, joined (stepped form F k) X Y)

  moved : (k : Keystream B) (X Y : List ℕ) → advanced form F (advanced form F k X) Y ≡ advanced form F k (X ++ Y)
  unfolding advanced
  moved k X Y = sym (fold-append (λ k _. stepped form F k) k X Y)

  abbrev at : B → B → ℕ → Keystream B
  at S m u = record { counter = S; mask = m; used = u }

  pub length-enciphered : (k : Keystream B) (X : List ℕ) → length (enciphered form F k X) ≡ length X
  unfolding enciphered
  length-enciphered k [] = grind arith
  length-enciphered k (x ∷ X) = grind (arith, length-enciphered (stepped form F k) X)

  -- within a mask a byte is xored with the byte of the mask at its place
  get_or-enciphered : (S m : B) (u : ℕ) (X : List ℕ) (i : ℕ)
      → i < length X
      → u + length X ≤ form.size
      → get_or (enciphered form F (at S m u) X) i 0 ≡ bit_xor (get_or X i 0) (byte_at form m (u + i))
  unfolding enciphered
  get_or-enciphered S m u [] i l h = absurd (omega arith)
  get_or-enciphered S m u (x ∷ X) zero l h = grind (arith, nat_tests)
  get_or-enciphered S m u (x ∷ X) (suc i) l h = grind (arith, nat_tests, get_or-enciphered S m (u + 1) X i)

  advanced_within : (S m : B) (u : ℕ) (X : List ℕ)
      → u + length X ≤ form.size
      → advanced form F (at S m u) X ≡ at S m (u + length X)
  unfolding advanced
  advanced_within S m u [] h = grind arith
  advanced_within S m u (x ∷ X) h = grind (arith, nat_tests, advanced_within S m (u + 1) X)

  -- where the mask is used up, the string is enciphered with the next one
  renewed : (S m : B) (X : List ℕ)
      → enciphered form F (at S m form.size) X ≡ enciphered form F (at (following form S) (F S) 0) X
  unfolding enciphered
  renewed S m [] = refl
  renewed S m (x ∷ X) = grind (arith, nat_tests, some form lawful F)

  -- the bytes up to the end of the mask
  front : (S : B) (X : List ℕ)
      → IsString X
      → enciphered form F (at (following form S) (F S) 0) (take form.size X) ≡ into_first form (F S) X
  front S X h =
      let n = form.size in
      let k = at (following form S) (F S) 0 in
      let long : length (enciphered form F k (take n X)) ≡ min n (length X) =
      length-enciphered k (take n X) ∙ length-take n X in
      ext_get_or 0 _ _
      (long ∙ omega arith ∙ sym (length-into_first form lawful F (F S) X))
      (λ i l.
      let taken : i < length (take n X) = omega (arith, length-take n X) in
      let byte = get_or-enciphered (following form S) (F S) 0 (take n X) i taken (omega (arith, length-take n X)) in
      let first = get_or-into_first form lawful F (F S) X i (omega arith) in
      let sum = byte-xor form lawful (block_of form X) (F S) i in
      let same = byte-block_of form lawful X i (omega arith) in
      grind (arith, common_steps, h i))

  -- and those after it
  back : (S m : B) (X : List ℕ)
      → enciphered form F (advanced form F (at S m 0) (take form.size X)) (drop form.size X)
      ≡ enciphered form F (at S m form.size) (drop form.size X)
  unfolding enciphered
  back S m X = grind (arith, common_steps, advanced_within S m 0 (take form.size X))

  by_blocks : (q : ℕ) (S m : B) (X : List ℕ)
      → IsString X
      → length X ≤ q * form.size
      → enciphered form F (at S m form.size) X ≡ ctr_blocks form F q S X
  unfolding enciphered ctr_blocks
  by_blocks zero S m X h l = grind (arith, common_steps, zero-mul form.size)
  by_blocks (suc q) S m X h l =
      let n = form.size in
      let k = at (following form S) (F S) 0 in
      let parts = take-append-drop n X in
      let both = joined k (take n X) (drop n X) in
      let rest = by_blocks q (following form S) (F S) (drop n X) (IsString-drop n X h) (omega (arith, length-drop n X, suc-mul q n)) in
      cc (renewed S m X, front S X h, back (following form S) (F S) X)

  pub counts : Counts form F
  unfolding ctr
  counts =
      record {
        joined = joined;
        moved = moved;
        whole = λ S X h. by_blocks _ S _ X h (enough (length X) form.size (some form lawful F));
      }
