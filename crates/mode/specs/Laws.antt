-- Laws of the mode's strings, for every F and every kind of block. Assumes nothing.
use Rattle.std.specs.Prelude.{◌≡◌, ℕ, true, cond, List, length, Ok, Err}
use Rattle.wire.specs.Faults.{record_number}
use Rattle.wire.specs.Limits.{is_tag_len_of}
use Rattle.wire.specs.declared.fault.RecordFault.{RecordFault}
use Rattle.block.specs.Form.{Form}
use Rattle.block.specs.Blocks.{xored}
use Rattle.block.specs.ByBytes.{IsString}
use Rattle.mode.specs.Strings.{ctr, ciphertext, tag, opening}

module _ {B : Type 0} (form : Form B) where
  -- the sum of three blocks is the same in every order
  pub record AnyOrder (a b c sum : B) : Type 0 where
    pub abc : sum ≡ xored form (xored form a b) c
    pub acb : sum ≡ xored form (xored form a c) b
    pub bac : sum ≡ xored form (xored form b a) c
    pub bca : sum ≡ xored form (xored form b c) a
    pub cab : sum ≡ xored form (xored form c a) b
    pub cba : sum ≡ xored form (xored form c b) a

  module _ (F : B → B) where
    -- CTR twice under one S gives a string back, so that a ciphertext has one message
    pub record CtrUndoes (S : B) (X : List ℕ) : Type 0 where
      pub len : length (ctr form F S X) ≡ length X
      pub string : IsString (ctr form F S X)
      pub twice : IsString X → ctr form F S (ctr form F S X) ≡ X
      pub one : (Y : List ℕ) → IsString X → IsString Y → ctr form F S X ≡ ctr form F S Y → X ≡ Y

    -- a message gives C and T: C is its ciphertext, and T its tag of some 4 to n bytes
    pub record Gives (N H M C T : List ℕ) : Type 0 where
      pub string : IsString M
      pub sealed : ciphertext form F N M ≡ C
      pub fits : is_tag_len_of form.size (length T) ≡ true
      pub tagged : tag form F (length T) N H C ≡ T

    -- Opening hands out a message exactly when one gives C and T, and no other message does. A refusal is 5 if the tag's
    -- length is outside 4 to n, and else 6
    pub record Opens (N H C T : List ℕ) : Type 0 where
      pub given : (M : List ℕ) → IsString C → opening form F N H C T ≡ Ok M → Gives N H M C T
      pub handed : (M : List ℕ) → Gives N H M C T → opening form F N H C T ≡ Ok M
      pub one : (M M' : List ℕ) → Gives N H M C T → Gives N H M' C T → M ≡ M'
      pub refused : (fault : RecordFault)
          → opening form F N H C T ≡ Err fault
          → record_number fault ≡ cond (is_tag_len_of form.size (length T)) 6 5
