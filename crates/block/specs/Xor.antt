-- A kind whose blocks are given by their numbers is lawful: the number of a xor is the xor of the numbers.
use Rattle.std.specs.Prelude.{◌≡◌, ℕ, ◌*◌, ◌%◌, ◌^◌, ◌<◌, ◌⊎◌, bit_xor}
use Rattle.std.proofs.Common.{ap, sym, ◌∙◌, mod-eq_of_lt, pow_pos}
use Rattle.std.specs.Int.Bits.{xor_assoc, xor_zero_l, xor_self}
use Rattle.std.proofs.lemmas.Nat.{xor_comm, xor_mod}
use Rattle.block.specs.Form.{Form}
use Rattle.block.specs.Blocks.{zero_block, xored}
use Rattle.block.specs.Lawful.{Lawful}

module _ {B : Type 0} (form : Form B)
    (read : (a : B) → form.block (form.number a) ≡ a)
    (made : (x : ℕ) → form.number (form.block x) ≡ x % 2 ^ (8 * form.size)) where
  pub number-mod : (a : B) → form.number a % 2 ^ (8 * form.size) ≡ form.number a
  number-mod a = sym (made (form.number a)) ∙ ap form.number (read a)

  pub number-xored : (a b : B) → form.number (xored form a b) ≡ bit_xor (form.number a) (form.number b)
  number-xored a b =
      made _
      ∙ xor_mod (form.number a) (form.number b) (8 * form.size)
      ∙ ap (λ x. bit_xor x (form.number b % 2 ^ (8 * form.size))) (number-mod a)
      ∙ ap (bit_xor (form.number a)) (number-mod b)

  pub number-zero : form.number (zero_block form) ≡ 0
  number-zero = made 0 ∙ mod-eq_of_lt (pow_pos (8 * form.size))

  associative : (a b c : B) → xored form (xored form a b) c ≡ xored form a (xored form b c)
  associative a b c =
      ap (λ x. form.block (bit_xor x (form.number c))) (number-xored a b)
      ∙ ap form.block (xor_assoc (form.number a) (form.number b) (form.number c))
      ∙ sym (ap (λ x. form.block (bit_xor (form.number a) x)) (number-xored b c))

  commutative : (a b : B) → xored form a b ≡ xored form b a
  commutative a b = ap form.block (xor_comm (form.number a) (form.number b))

  neutral : (a : B) → xored form (zero_block form) a ≡ a
  neutral a =
      ap (λ x. form.block (bit_xor x (form.number a))) number-zero
      ∙ ap form.block (xor_zero_l (form.number a))
      ∙ read a

  cancelling : (a : B) → xored form a a ≡ zero_block form
  cancelling a = ap form.block (xor_self (form.number a))

  lawful : (form.size ≡ 8) ⊎ (form.size ≡ 16) → Lawful form
  lawful sized =
      record {
        sized = sized;
        read = read;
        made = made;
        associative = associative;
        commutative = commutative;
        neutral = neutral;
        cancelling = cancelling;
      }

module _ {B : Type 0} (form : Form B)
    (same : (a b : B) → form.number a ≡ form.number b → a ≡ b)
    (fits : (a : B) → form.number a < 2 ^ (8 * form.size))
    (made : (x : ℕ) → form.number (form.block x) ≡ x % 2 ^ (8 * form.size)) where
  pub lawful_by_number : (form.size ≡ 8) ⊎ (form.size ≡ 16) → Lawful form
  lawful_by_number = lawful form (λ a. same _ a (made (form.number a) ∙ mod-eq_of_lt (fits a))) made
