-- What the definition answers at the start of a file, and where a lawful frame ends the rest.
use Rattle.std.proofs.Common.{◌≡◌, ℕ, ◌+◌, ◌-◌, false, eqb, List, [], length, Ok, ap, ◌∙◌, arith}
use Rattle.std.proofs.lemmas.List.{length-append}
use Rattle.std.proofs.lemmas.Bool.{cond-true, cond-false, eq-eqb, ne_eqb}
use Rattle.pass.specs.Layout.{Parts, encoded, Behind}
use Rattle.pass.specs.Reading.{last_of}
use Rattle.pass.specs.Walking.{Point, none, handed, hand_out, tell, answer, move, next}
use Rattle.pass.proofs.RoundTrip.{read_back, shorter}

pub none_answered : (w : Point) → w.rest ≡ [] → answer w ≡ none
none_answered w e = cond-true _ _ _ (eq-eqb (length w.rest) 0 (ap length e))

module _ (w : Point) (rest : List ℕ) (p : Parts) (b : Behind w.rest rest p) where
  some : eqb (length w.rest) 0 ≡ false
  some = let n = shorter w.rest rest p b in ne_eqb (length w.rest) 0 (λ e. omega arith)

  last : last_of w.rest ≡ Ok (record { rest = rest; parts = p })
  last = ap last_of b.joined ∙ read_back rest p b.lawful

  pub frame_answered : answer w
      ≡ handed (record { parts = p; number = w.number; place = length rest; len = length (encoded p) })
  frame_answered =
      let n : length w.rest - length rest ≡ length (encoded p) =
      omega (arith, ap length b.joined ∙ length-append rest (encoded p)) in
      cond-false _ _ _ some
      ∙ ap (λ l. tell w.number (hand_out w l)) last
      ∙ ap (λ k. handed (record { parts = p; number = w.number; place = length rest; len = k })) n

  pub frame_passed : next w ≡ record { rest = rest; number = w.number + 1 }
  frame_passed = cond-false _ _ _ some ∙ ap (move w) last
