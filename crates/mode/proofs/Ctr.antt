-- CTR keeps a string's length, and twice under one S gives the string back: each byte is xored twice with the same byte,
-- which the laws of xor undo.
use Rattle.std.proofs.Common.{◌≡◌, ℕ, zero, suc, ◌+◌, ◌-◌, ◌*◌, ◌/◌, ◌%◌, ◌<◌, ◌≤◌, min, List, ◌++◌, length, get_or, take, drop, sym, refl, ap, ◌∙◌, ap₂, ⊎_elim, mod-lt, mod-eq_of_lt, suc-mul, zero-mul, arith}
use lib.Bits.{bit_xor}
use Rattle.std.proofs.Math.Seq.{take-add}
use Rattle.std.proofs.lemmas.Nat.{div-add-mod'}
use Rattle.std.proofs.lemmas.List.{length-take, length-drop, length-append, get_or-take, get_or_append_left, take_all, drop_at, ext_get_or, nil_from_length}
use Rattle.std.proofs.lemmas.Bool.{cases_lt}
use Rattle.block.specs.Form.{Form}
use Rattle.block.specs.Lawful.{Lawful}
use Rattle.block.specs.Blocks.{xored, byte_at, following, block_of}
use Rattle.block.proofs.Bytes.{byte-lt, byte-xor, length-bytes, get_or-bytes, byte-block_of, IsString-bytes}
use Rattle.block.specs.ByBytes.{IsString}
use Rattle.mode.specs.Strings.{into_first, ctr_blocks, ctr}
use Rattle.mode.specs.Laws.{CtrUndoes}
use Rattle.mode.proofs.StringParts.{IsString-drop, IsString-append, IsString-take}
use Rattle.mode.proofs.Undone.{undone}

-- enough whole blocks for a string
pub enough : (x n : ℕ) → 0 < n → x ≤ (x + n - 1) / n * n
enough x n h = omega (arith, div-add-mod' (x + n - 1) n, mod-lt (x + n - 1) h)

module _ {B : Type 0} (form : Form B) (lawful : Lawful form) (F : B → B) where
  pub some : 0 < form.size
  some = ⊎_elim (λ e. omega arith) (λ e. omega arith) lawful.sized

  pub length-into_first : (K : B) (X : List ℕ) → length (into_first form K X) ≡ min (length X) form.size
  unfolding into_first
  length-into_first K X =
      length-take (length X) _ ∙ ap (min (length X)) (length-bytes form lawful _)

  -- the bytes of a block are those of the xor
  pub get_or-into_first : (K : B) (X : List ℕ) (i : ℕ)
      → i < length X
      → get_or (into_first form K X) i 0 ≡ byte_at form (xored form (block_of form X) K) i
  unfolding into_first
  get_or-into_first K X i l = get_or-take (length X) _ i 0 l ∙ get_or-bytes form lawful _ i

  -- a byte of a xor goes by that byte alone
  local : (a b k : B) (i : ℕ)
      → byte_at form a i ≡ byte_at form b i
      → byte_at form (xored form a k) i ≡ byte_at form (xored form b k) i
  local a b k i e =
      byte-xor form lawful a k i
      ∙ ap (λ x. bit_xor x (byte_at form k i)) e
      ∙ sym (byte-xor form lawful b k i)

  -- the block enciphered again, whatever follows it, is what it was
  undone_byte : (K : B) (X R : List ℕ) (i : ℕ)
      → IsString X
      → i < form.size
      → i < length X
      → byte_at form (xored form (block_of form (into_first form K X ++ R)) K) i ≡ get_or X i 0
  undone_byte K X R i h l m =
      let inside : i < length (into_first form K X) = rw (length-into_first K X) (omega arith) in
      let same : byte_at form (block_of form (into_first form K X ++ R)) i ≡ byte_at form (xored form (block_of form X) K) i =
      byte-block_of form lawful (into_first form K X ++ R) i l
      ∙ ap (λ x. x % 256) (get_or_append_left (into_first form K X) R 0 i inside ∙ get_or-into_first K X i m)
      ∙ mod-eq_of_lt (byte-lt form lawful _ i) in
      local _ (xored form (block_of form X) K) K i same
      ∙ ap (λ b. byte_at form b i) (undone form lawful (block_of form X) K)
      ∙ byte-block_of form lawful X i l
      ∙ mod-eq_of_lt (h i)

  length-ctr_blocks : (q : ℕ) (S : B) (X : List ℕ) → length (ctr_blocks form F q S X) ≡ min (q * form.size) (length X)
  unfolding ctr_blocks into_first
  length-ctr_blocks zero S X = rw zero-mul (omega arith)
  length-ctr_blocks (suc q) S X =
      let n = form.size in
      let rest = length-ctr_blocks q (following form S) (drop n X) ∙ ap (min (q * n)) (length-drop n X) in
      length-append (into_first form (F S) X) _
      ∙ ap₂ ◌+◌ (length-into_first (F S) X) rest
      ∙ rw suc-mul (omega arith)

  -- a block and what was enciphered after it: each comes back by itself
  module _ (K : B) (X R : List ℕ) (q : ℕ) (rest : length R ≡ min (q * form.size) (length X - form.size)) where
    whole : length (into_first form K X ++ R) ≡ min (length X) form.size + min (q * form.size) (length X - form.size)
    whole = length-append (into_first form K X) R ∙ ap₂ ◌+◌ (length-into_first K X) rest

    front : IsString X → into_first form K (into_first form K X ++ R) ≡ take form.size X
    front h =
        let long : length (into_first form K (into_first form K X ++ R)) ≡ min form.size (length X) =
        length-into_first K (into_first form K X ++ R) ∙ ap (λ y. min y form.size) whole ∙ omega arith in
        ext_get_or 0 _ _
        (long ∙ sym (length-take form.size X))
        (λ i l.
        let n : i < form.size = omega arith in
        let m : i < length X = omega arith in
        get_or-into_first K (into_first form K X ++ R) i (omega (arith, whole))
        ∙ undone_byte K X R i h n m
        ∙ sym (get_or-take form.size X i 0 n))

    back : drop form.size (into_first form K X ++ R) ≡ R
    back =
        ⊎_elim
        (λ short.
        nil_from_length _ (length-drop form.size (into_first form K X ++ R) ∙ omega (arith, whole))
        ∙ sym (nil_from_length R (rest ∙ omega arith)))
        (λ long. drop_at (into_first form K X) R form.size (length-into_first K X ∙ omega arith))
        (cases_lt (length X) form.size)

  ctr_blocks_twice : (q : ℕ) (S : B) (X : List ℕ)
      → IsString X
      → ctr_blocks form F q S (ctr_blocks form F q S X) ≡ take (q * form.size) X
  unfolding ctr_blocks into_first
  ctr_blocks_twice zero S X h = rw zero-mul refl
  ctr_blocks_twice (suc q) S X h =
      let n = form.size in
      let R = ctr_blocks form F q (following form S) (drop n X) in
      let rest : length R ≡ min (q * n) (length X - n) =
      length-ctr_blocks q (following form S) (drop n X) ∙ ap (min (q * n)) (length-drop n X) in
      let times : n + q * n ≡ suc q * n = rw suc-mul (omega arith) in
      ap₂ ◌++◌
      (front (F S) X R q rest h)
      (ap (ctr_blocks form F q (following form S)) (back (F S) X R q rest)
      ∙ ctr_blocks_twice q (following form S) (drop n X) (IsString-drop n X h))
      ∙ sym (take-add n (q * n) X)
      ∙ ap (λ k. take k X) times

  IsString-ctr_blocks : (q : ℕ) (S : B) (X : List ℕ) → IsString (ctr_blocks form F q S X)
  unfolding ctr_blocks into_first
  IsString-ctr_blocks zero S X = λ i. omega arith
  IsString-ctr_blocks (suc q) S X =
      IsString-append _ _
      (IsString-take (length X) _ (IsString-bytes form lawful _))
      (IsString-ctr_blocks q (following form S) (drop form.size X))

  pub ctr_laws : (S : B) (X : List ℕ) → CtrUndoes form F S X
  unfolding ctr
  ctr_laws S X =
      record {
        len = len X;
        string = IsString-ctr_blocks _ S X;
        twice = twice X;
        one = λ Y h k e. sym (twice X h) ∙ ap (ctr form F S) e ∙ twice Y k;
      }
    where
      len : (X : List ℕ) → length (ctr form F S X) ≡ length X
      len X = length-ctr_blocks _ S X ∙ omega (arith, enough (length X) form.size some)

      twice : (X : List ℕ) → IsString X → ctr form F S (ctr form F S X) ≡ X
      twice X h =
          ap (λ x. ctr_blocks form F ((x + form.size - 1) / form.size) S (ctr form F S X)) (len X)
          ∙ ctr_blocks_twice _ S X h
          ∙ take_all _ X (enough (length X) form.size some)
