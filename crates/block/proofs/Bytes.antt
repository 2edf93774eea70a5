-- A block by its bytes, for every kind: a byte of the number is what stands between two powers of 256, so a byte that is
-- replaced reads back, xor goes byte by byte, and the bytes write the number.
use Rattle.std.proofs.Common.{◌≡◌, ℕ, zero, suc, ◌+◌, ◌-◌, ◌*◌, ◌/◌, ◌%◌, ◌^◌, ◌<◌, ◌≤◌, ◌⊎◌, List, [], ◌∷◌, map, length, get_or, take, sym, refl, ap, ◌∙◌, ap₂, ⊎_elim, add-zero, mod-lt, mod-eq_of_lt, zero-add, div-one, arith, pow_pos}
use native.Mathlib.Nat.{zero-div}
use lib.Bits.{bit_xor, xor_shr, xor_mod}
use Rattle.std.proofs.lemmas.List.FromFn.{length-map-range_with_len, get_or-map-range_with_len, map-range_with_len_more}
use Rattle.std.proofs.lemmas.Int.Digits.{number_push}
use Rattle.std.proofs.lemmas.List.{get_or_past, get_or-take, length-take-le, take_all, ext_get_or}
use Rattle.std.proofs.lemmas.Bool.{cond-true, cond-false, lt-ltb, le-ltb, cases_lt, cases_order}
use Rattle.std.specs.List.{range_with_len}
use Rattle.std.specs.Int.Digits.{number_from_digits}
use Rattle.block.specs.Form.{Form}
use Rattle.block.specs.Blocks.{shift, replaced, zero_block, xored, byte_at, with_byte_at, bytes_of, put_from, block_of}
use Rattle.block.specs.Lawful.{Lawful}
use Rattle.block.specs.ByBytes.{IsString, ByBytes}
use Rattle.block.proofs.Digits.{byte-mod, replaced_same, replaced_above, replaced_below, byte_more}
use Rattle.block.specs.Xor.{number-mod, number-xored, number-zero}

module _ {B : Type 0} (form : Form B) (lawful : Lawful form) where
  byte_at_lem : (a : B) (i : ℕ) → i < form.size → byte_at form a i ≡ form.number a / 2 ^ shift form.size i % 256
  byte_at_lem a i h = cond-true _ _ _ (lt-ltb i form.size h)

  byte_past : (a : B) (i : ℕ) → form.size ≤ i → byte_at form a i ≡ 0
  byte_past a i h = cond-false _ _ _ (le-ltb i form.size h)

  -- a byte of the block of a number is that of the number
  byte-block : (x i : ℕ) → i < form.size → byte_at form (form.block x) i ≡ x / 2 ^ shift form.size i % 256
  byte-block x i h =
      let within : 8 * (form.size - 1 - i) + 8 ≤ 8 * form.size = omega arith in
      byte_at_lem (form.block x) i h
      ∙ ap (λ y. y / 2 ^ shift form.size i % 256) (lawful.made x)
      ∙ byte-mod x (shift form.size i) (8 * form.size) within

  put_at : (a : B) (p v : ℕ)
      → p < form.size
      → with_byte_at form a p v ≡ form.block (replaced (form.number a) (shift form.size p) v)
  put_at a p v h = cond-true _ _ _ (lt-ltb p form.size h)

  byte-put_same : (a : B) (p v : ℕ) → p < form.size → byte_at form (with_byte_at form a p v) p ≡ v % 256
  byte-put_same a p v h =
      ap (λ b. byte_at form b p) (put_at a p v h)
      ∙ byte-block _ p h
      ∙ replaced_same (form.number a) (shift form.size p) v

  other : (a : B) (p v i : ℕ)
      → p < form.size
      → i < form.size
      → (p < i) ⊎ (i < p)
      → byte_at form (with_byte_at form a p v) i ≡ byte_at form a i
  other a p v i h l way =
      ap (λ b. byte_at form b i) (put_at a p v h)
      ∙ byte-block _ i l
      ∙ ⊎_elim
      (λ less. replaced_below (form.number a) (shift form.size p) v (shift form.size i) (omega arith))
      (λ more. replaced_above (form.number a) (shift form.size p) v (shift form.size i) (omega arith))
      way
      ∙ sym (byte_at_lem a i l)

  byte-put_other : (a : B) (p v i : ℕ) → (p ≡ i → ⊥) → byte_at form (with_byte_at form a p v) i ≡ byte_at form a i
  byte-put_other a p v i apart = ⊎_elim within past (cases_lt i form.size)
    where
      within : i < form.size → byte_at form (with_byte_at form a p v) i ≡ byte_at form a i
      within l =
          ⊎_elim
          (λ h. other a p v i h l (⊎_elim (λ e. absurd (apart e)) (λ way. way) (cases_order p i)))
          (λ h. ap (λ b. byte_at form b i) (cond-false _ _ _ (le-ltb p form.size h)))
          (cases_lt p form.size)

      past : form.size ≤ i → byte_at form (with_byte_at form a p v) i ≡ byte_at form a i
      past l = byte_past (with_byte_at form a p v) i l ∙ sym (byte_past a i l)

  pub byte-lt : (a : B) (i : ℕ) → byte_at form a i < 256
  byte-lt a i =
      ⊎_elim
      (λ l. rw (byte_at_lem a i l) (mod-lt (form.number a / 2 ^ shift form.size i) (pow_pos 8)))
      (λ l. rw (byte_past a i l) (omega arith))
      (cases_lt i form.size)

  pub byte-xor : (a b : B) (i : ℕ) → byte_at form (xored form a b) i ≡ bit_xor (byte_at form a i) (byte_at form b i)
  byte-xor a b i = ⊎_elim within past (cases_lt i form.size)
    where
      within : i < form.size → byte_at form (xored form a b) i ≡ bit_xor (byte_at form a i) (byte_at form b i)
      within l =
          let s = shift form.size i in
          byte_at_lem (xored form a b) i l
          ∙ ap (λ x. x / 2 ^ s % 256) (number-xored form lawful.read lawful.made a b)
          ∙ ap (λ x. x % 256) (xor_shr (form.number a) (form.number b) s)
          ∙ xor_mod (form.number a / 2 ^ s) (form.number b / 2 ^ s) 8
          ∙ sym (ap₂ bit_xor (byte_at_lem a i l) (byte_at_lem b i l))

      past : form.size ≤ i → byte_at form (xored form a b) i ≡ bit_xor (byte_at form a i) (byte_at form b i)
      past l = byte_past (xored form a b) i l ∙ sym (ap₂ bit_xor (byte_past a i l) (byte_past b i l))

  pub length-bytes : (a : B) → length (bytes_of form a) ≡ form.size
  length-bytes a = length-map-range_with_len (byte_at form a) 0 form.size

  pub get_or-bytes : (a : B) (i : ℕ) → get_or (bytes_of form a) i 0 ≡ byte_at form a i
  get_or-bytes a i =
      ⊎_elim
      (λ l. get_or-map-range_with_len (byte_at form a) 0 form.size i i 0 l (omega arith))
      (λ l. get_or_past (bytes_of form a) i 0 (omega (arith, length-bytes a)) ∙ sym (byte_past a i l))
      (cases_lt i form.size)

  byte-zero : (i : ℕ) → byte_at form (zero_block form) i ≡ 0
  byte-zero i =
      ⊎_elim
      (λ l. byte_at_lem (zero_block form) i l
      ∙ ap (λ x. x / 2 ^ shift form.size i % 256) (number-zero form lawful.read lawful.made)
      ∙ ap (λ x. x % 256) (zero-div (2 ^ shift form.size i)))
      (byte_past (zero_block form) i)
      (cases_lt i form.size)

  -- a string put in from a place on leaves what is before the place
  put_from_before : (xs : List ℕ) (a : B) (p i : ℕ) → i < p → byte_at form (put_from form a p xs) i ≡ byte_at form a i
  put_from_before [] a p i l = refl
  put_from_before (x ∷ xs) a p i l =
      put_from_before xs (with_byte_at form a p x) (p + 1) i (omega arith)
      ∙ byte-put_other a p x i (λ e. omega arith)

  put_from_past : (xs : List ℕ) (a : B) (p i : ℕ)
      → p + length xs ≤ i
      → byte_at form (put_from form a p xs) i ≡ byte_at form a i
  put_from_past [] a p i l = refl
  put_from_past (x ∷ xs) a p i l =
      put_from_past xs (with_byte_at form a p x) (p + 1) i (omega arith)
      ∙ byte-put_other a p x i (λ e. omega arith)

  put_from_at : (xs : List ℕ) (a : B) (p j : ℕ)
      → j < length xs
      → p + j < form.size
      → byte_at form (put_from form a p xs) (p + j) ≡ get_or xs j 0 % 256
  put_from_at [] a p j l h = absurd (omega arith)
  put_from_at (x ∷ xs) a p zero l h =
      rw add-zero
      (put_from_before xs (with_byte_at form a p x) (p + 1) p (omega arith)
      ∙ byte-put_same a p x (omega arith))
  put_from_at (x ∷ xs) a p (suc j) l h =
      let e : p + suc j ≡ p + 1 + j = omega arith in
      rw e (put_from_at xs (with_byte_at form a p x) (p + 1) j (omega arith) (omega arith))

  pub byte-block_of : (xs : List ℕ) (i : ℕ) → i < form.size → byte_at form (block_of form xs) i ≡ get_or xs i 0 % 256
  byte-block_of xs i h =
      ⊎_elim
      (λ l. rw zero-add at (put_from_at xs (zero_block form) 0 i l (omega arith)))
      (λ l. put_from_past xs (zero_block form) 0 i (omega arith)
      ∙ byte-zero i
      ∙ sym (ap (λ x. x % 256) (get_or_past xs i 0 l)))
      (cases_lt i (length xs))

  -- the first k bytes, written as digits
  digits : (a : B) (k : ℕ)
      → k ≤ form.size
      → number_from_digits 256 (map (byte_at form a) (range_with_len 0 k)) ≡ form.number a / 2 ^ (8 * (form.size - k)) % 2 ^ (8 * k)
  digits a zero h = omega arith
  digits a (suc k) h =
      let x = form.number a in
      let n = form.size in
      let s = shift n k in
      let here : 8 * (n - k) ≡ s + 8 = omega arith in
      let next : 8 * (n - suc k) ≡ s = omega arith in
      let more : suc k ≡ k + 1 = omega arith in
      ap (λ j. number_from_digits 256 (map (byte_at form a) (range_with_len 0 j))) more
      ∙ ap (number_from_digits 256) (map-range_with_len_more (byte_at form a) 0 k k (omega arith))
      ∙ number_push 256 (map (byte_at form a) (range_with_len 0 k)) (byte_at form a k)
      ∙ ap₂ (λ d e. d * 256 + e) (digits a k (omega arith)) (byte_at_lem a k (omega arith))
      ∙ ap (λ t. x / 2 ^ t % 2 ^ (8 * k) * 256 + x / 2 ^ s % 256) here
      ∙ byte_more x s k
      ∙ ap₂ (λ t j. x / 2 ^ t % 2 ^ (8 * j)) (sym next) (sym more)

  number-bytes : (a : B) → number_from_digits 256 (bytes_of form a) ≡ form.number a
  number-bytes a =
      let whole : 8 * (form.size - form.size) ≡ 0 = omega arith in
      digits a form.size (omega arith)
      ∙ ap (λ t. form.number a / 2 ^ t % 2 ^ (8 * form.size)) whole
      ∙ ap (λ x. x % 2 ^ (8 * form.size)) (div-one (form.number a))
      ∙ number-mod form lawful.read lawful.made a

  -- a block is given by its bytes
  same_bytes : (a b : B) → bytes_of form a ≡ bytes_of form b → a ≡ b
  same_bytes a b e =
      sym (lawful.read a)
      ∙ ap form.block (sym (number-bytes a) ∙ ap (number_from_digits 256) e ∙ number-bytes b)
      ∙ lawful.read b

  -- the bytes of the block of a string, from its front
  bytes-block_of : (X : List ℕ)
      → IsString X
      → form.size ≤ length X
      → bytes_of form (block_of form X) ≡ take form.size X
  bytes-block_of X string long =
      ext_get_or 0 _ _
      (length-bytes (block_of form X) ∙ sym (length-take-le form.size X long))
      (λ i l.
      let h : i < form.size = omega (arith, length-bytes (block_of form X)) in
      get_or-bytes (block_of form X) i
      ∙ byte-block_of X i h
      ∙ mod-eq_of_lt (string i)
      ∙ sym (get_or-take form.size X i 0 h))

  pub IsString-bytes : (a : B) → IsString (bytes_of form a)
  IsString-bytes a i = rw (get_or-bytes a i) (byte-lt a i)

  made : (X : List ℕ) → IsString X → length X ≡ form.size → bytes_of form (block_of form X) ≡ X
  made X string whole = bytes-block_of X string (omega arith) ∙ take_all form.size X (omega arith)

  pub by_bytes : ByBytes form
  by_bytes =
      record {
        len = length-bytes;
        string = IsString-bytes;
        value = number-bytes;
        made = made;
        back = λ a. same_bytes _ a (made (bytes_of form a) (IsString-bytes a) (length-bytes a));
        same = λ a place v h small. byte-put_same a place v h ∙ mod-eq_of_lt small;
        other = byte-put_other;
        xor = byte-xor;
      }
