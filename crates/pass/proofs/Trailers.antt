-- The last eight bytes are the trailer that is read from them: each byte is one of its fields, and two bytes are the
-- quotient and the remainder of the length that they make.
use Rattle.std.proofs.Common.{◌≡◌, ℕ, zero, suc, ◌+◌, ◌-◌, ◌*◌, ◌/◌, ◌%◌, ◌<◌, ◌≤◌, Bool, true, false, cond, eqb, ltb, List, [], ◌∷◌, ◌++◌, length, get_or, take, drop, Some, None, Err, Option, sym, refl, ap, ◌∙◌, arith, MatchResult}
use lib.Arith.{digits_div, digits_mod}
use Rattle.std.proofs.lemmas.List.{drop_all, drop_more, take-append-drop}
use Rattle.std.proofs.lemmas.Bool.{cond-false, le-ltb, eqb-true, eqb-false, ltb-true, ltb-false}
use Rattle.wire.specs.Kinds.{kind_number, kind_of}
use Rattle.wire.specs.Limits.{nonce_max}
use Rattle.wire.specs.Faults.{cause_number}
use Rattle.wire.specs.declared.fault.Cause.TheVariants.{Short, NoMark}
use Rattle.wire.specs.declared.kind.Kind.{Kind}
use Rattle.wire.proofs.Listed.{found, listed}
use Rattle.pass.specs.declared.trailer.Trailer.{Trailer}
use Rattle.pass.specs.Layout.{back, trailer_bytes, Refusal, short, unmarked, unknown}
use Rattle.pass.specs.Reading.{fields_of, trailer_in, trailer_of}

-- some bytes end in this trailer
pub record Ends (bs : List ℕ) (t : Trailer) : Type 0 where
  pub long : 8 ≤ length bs
  pub nonce : t.nonce ≤ nonce_max
  pub bytes : bs ≡ take (length bs - 8) bs ++ trailer_bytes t

abbrev last : List ℕ → ℕ → List ℕ
last bs zero = []
last bs (suc k) = back bs (suc k) ∷ last bs k

last_bytes : (bs : List ℕ) (k : ℕ) → k ≤ length bs → drop (length bs - k) bs ≡ last bs k
last_bytes bs zero h = drop_all (length bs - 0) bs (omega arith)
last_bytes bs (suc k) h =
    let next : (length bs - suc k) + 1 ≡ length bs - k = omega arith in
    drop_more bs (length bs - suc k) 0 (omega arith)
    ∙ ap (λ i. back bs (suc k) ∷ drop i bs) next
    ∙ ap (λ r. back bs (suc k) ∷ r) (last_bytes bs k (omega arith))

-- no kind has a number that is not in the list
no_kind : (b : ℕ) → kind_of b ≡ None → (k : Kind) → kind_number k ≡ b → ⊥
no_kind b none k e = let some = listed k in let same = ap kind_of e in cc

module _ (bs : List ℕ) (small : (i : ℕ) → get_or bs i 0 < 256) where
  abbrev fields : Kind → Trailer
  fields k =
      record {
        kind = k;
        nonce = back bs 8;
        tag = back bs 7;
        header = back bs 6 * 256 + back bs 5;
        body = back bs 4 * 256 + back bs 3;
      }

  fields_end : (k : Kind) → 8 ≤ length bs → kind_number k ≡ back bs 2 → back bs 1 ≡ 0xA7 → Ends bs (fields k)
  fields_end k long kind mark =
      let nonce : back bs 8 < 256 = small (length bs - 8) in
      let low₅ : back bs 5 < 256 = small (length bs - 5) in
      let low₃ : back bs 3 < 256 = small (length bs - 3) in
      let h₁ : (back bs 6 * 256 + back bs 5) / 256 ≡ back bs 6 = digits_div (back bs 6) low₅ in
      let h₀ : (back bs 6 * 256 + back bs 5) % 256 ≡ back bs 5 = digits_mod (back bs 6) low₅ in
      let b₁ : (back bs 4 * 256 + back bs 3) / 256 ≡ back bs 4 = digits_div (back bs 4) low₃ in
      let b₀ : (back bs 4 * 256 + back bs 3) % 256 ≡ back bs 3 = digits_mod (back bs 4) low₃ in
      let same : last bs 8 ≡ trailer_bytes (fields k) = cc in
      record {
        long = long;
        nonce = omega arith;
        bytes =
            sym (take-append-drop (length bs - 8) bs) ∙ ap (λ r. take (length bs - 8) bs ++ r) (last_bytes bs 8 long ∙ same);
      }

  by_checks : (cut marked : Bool) (kind : Option Kind)
      → ltb (length bs) 8 ≡ cut
      → eqb (back bs 1) 0xA7 ≡ marked
      → kind_of (back bs 2) ≡ kind
      → MatchResult (cond cut (Err Short) (cond marked (fields_of bs kind) (Err NoMark))) (Ends bs) (λ c. Refusal bs (cause_number c))
  by_checks true _ _ s m k = short (ltb-true (length bs) 8 s)
  by_checks false false _ s m k = unmarked (ltb-false (length bs) 8 s) (eqb-false (back bs 1) 0xA7 m)
  by_checks false true None s m k =
      unknown (ltb-false (length bs) 8 s) (eqb-true (back bs 1) 0xA7 m) (no_kind (back bs 2) k)
  by_checks false true (Some kind) s m k =
      fields_end kind (ltb-false (length bs) 8 s) (found (back bs 2) kind k) (eqb-true (back bs 1) 0xA7 m)

  -- a trailer that is read is there, and else a check applies
  pub trailer_read : MatchResult (trailer_of bs) (Ends bs) (λ c. Refusal bs (cause_number c))
  trailer_read = by_checks (ltb (length bs) 8) (eqb (back bs 1) 0xA7) (kind_of (back bs 2)) refl refl refl

-- the last eight bytes alone tell the trailer
pub of_last : (bs : List ℕ) → 8 ≤ length bs → trailer_of bs ≡ trailer_in (drop (length bs - 8) bs)
of_last bs long =
    cond-false _ _ _ (le-ltb _ 8 long)
    ∙ ap (λ fields. cond (eqb (back bs 1) 0xA7) fields (Err NoMark)) (same (kind_of (back bs 2)))
    ∙ ap trailer_in (sym (last_bytes bs 8 long))
  where
    same : (kind : Option Kind) → fields_of bs kind ≡ fields_of (last bs 8) kind
    same None = refl
    same (Some k) = refl
