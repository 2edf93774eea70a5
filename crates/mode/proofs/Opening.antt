-- Opening hands out a message exactly when one gives the ciphertext and the tag: CTR undoes itself, so that the message is
-- CTR of the ciphertext.
use Rattle.std.proofs.Common.{◌≡◌, ℕ, Bool, true, false, cond, List, length, Ok, Err, Result, sym, refl, ap, ◌∙◌}
use Rattle.std.proofs.lemmas.Slice.Eq.{bytes_eq-Decides}
use Rattle.std.proofs.lemmas.Bool.{cond-true}
use Rattle.std.specs.Str.{bytes_eq}
use Rattle.wire.specs.Faults.{record_number}
use Rattle.wire.specs.Limits.{is_tag_len_of}
use Rattle.wire.specs.declared.fault.RecordFault.{RecordFault}
use Rattle.wire.specs.declared.fault.RecordFault.TheVariants.{TagLength, TagWrong}
use Rattle.block.specs.Form.{Form}
use Rattle.block.specs.Lawful.{Lawful}
use Rattle.block.specs.ByBytes.{IsString}
use Rattle.mode.specs.Strings.{ctr, nonce_block, ciphertext, tag, opening}
use Rattle.mode.specs.Laws.{CtrUndoes, Gives, Opens}
use Rattle.mode.proofs.Ctr.{ctr_laws}

module _ {B : Type 0} (form : Form B) (lawful : Lawful form) (F : B → B) (N H C T : List ℕ) where
  -- what opening answers, by its two checks
  answer : Bool → Bool → Result (List ℕ) RecordFault
  answer fits same = cond fits (cond same (Ok (ctr form F (nonce_block form F N) C)) (Err TagWrong)) (Err TagLength)

  law : (X : List ℕ) → CtrUndoes form F (nonce_block form F N) X
  law = ctr_laws form lawful F (nonce_block form F N)

  given : (M : List ℕ) (fits same : Bool)
      → is_tag_len_of form.size (length T) ≡ fits
      → bytes_eq T (tag form F (length T) N H C) ≡ same
      → IsString C
      → answer fits same ≡ Ok M
      → Gives form F N H M C T
  unfolding answer ciphertext
  given M true true f t c e =
      let found : ctr form F (nonce_block form F N) C ≡ M = cc in
      record {
        string = rw (← found) (law C).string;
        sealed = ap (ctr form F (nonce_block form F N)) (sym found) ∙ (law C).twice c;
        fits = f;
        tagged = sym ((bytes_eq-Decides T _).0 t);
      }
  given M true false f t c e = absurd (cc)
  given M false same f t c e = absurd (cc)

  refused : (fault : RecordFault) (fits same : Bool) → answer fits same ≡ Err fault → record_number fault ≡ cond fits 6 5
  unfolding answer
  refused fault true true e = absurd (cc)
  refused fault true false e = let same : TagWrong ≡ fault = cc in sym (ap record_number same)
  refused fault false same e = let same : TagLength ≡ fault = cc in sym (ap record_number same)

  pub opens : Opens form F N H C T
  unfolding opening ciphertext answer
  opens =
      record {
        given = λ M c e. given M _ _ refl refl c e;
        handed = λ M g.
            let same : bytes_eq T (tag form F (length T) N H C) ≡ true = (bytes_eq-Decides T _).1 (sym g.tagged) in
            cond-true _ _ _ g.fits
            ∙ cond-true _ _ _ same
            ∙ ap (λ X. Ok (ctr form F (nonce_block form F N) X)) (sym g.sealed)
            ∙ ap Ok ((law M).twice g.string);
        one = λ M M' g g'. (law M).one M' g.string g'.string (g.sealed ∙ sym g'.sealed);
        refused = λ fault e. refused fault _ _ e;
      }
