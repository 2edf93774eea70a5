-- The listing of a file that is frames end to end is their lines and their count: each turn hands out the next of them.
use Rattle.std.proofs.Common.{◌≡◌, ℕ, zero, suc, ◌+◌, ◌<◌, ◌≤◌, List, [], ◌∷◌, ◌++◌, length, sym, ap, ◌∙◌, append_assoc, arith}
use Rattle.std.proofs.lemmas.Bool.{cond-true, cond-false, le-ltb, lt-ltb}
use Rattle.std.specs.List.{flat_map}
use Rattle.pass.specs.Layout.{Parts, encoded, EndToEnd}
use Rattle.pass.specs.Walking.{Point, start, Handed, next}
use Rattle.pass.specs.Runs.{numbered, size}
use Rattle.pass.proofs.Answered.{none_answered, frame_answered, frame_passed}
use Rattle.pass.proofs.RoundTrip.{shorter}
use Rattle.pass.proofs.Whole.{size_of}
use Rattle.listing.specs.Lines.{end_text, fault_text}
use Rattle.listing.specs.Listing.{input_max, line, frame_line, lines_at, lines, listing, frame_lines}

pub too_long : (file : List ℕ) → input_max < length file → listing file ≡ line (fault_text 14 input_max)
unfolding listing
too_long file h = cond-true _ _ _ (lt-ltb _ _ h)

pub walked : (file : List ℕ) → length file ≤ input_max → listing file ≡ lines (length file + 1) (start file)
unfolding listing
walked file h = cond-false _ _ _ (le-ltb _ _ h)

all_lines : (turns : ℕ) (w : Point) (ps : List Parts)
    → length w.rest < turns
    → EndToEnd w.rest ps
    → lines turns w ≡ flat_map frame_line (numbered w.number ps) ++ line (end_text (w.number + length ps))
all_lines zero w ps h e = absurd (omega arith)
all_lines (suc turns) w [] h e =
    let n : w.number ≡ w.number + 0 = omega arith in
    ap (λ r. lines_at r w (lines turns (next w))) (none_answered w e) ∙ ap (λ k. line (end_text k)) n
all_lines (suc turns) w (p ∷ ps) h e =
    let rest = e.0 in
    let v : Point = record { rest = rest; number = w.number + 1 } in
    let f : ℕ → Handed = λ k. record { parts = p; number = w.number; place = k; len = length (encoded p) } in
    let n : w.number + 1 + length ps ≡ w.number + suc (length ps) = omega arith in
    let more = flat_map frame_line (numbered (w.number + 1) ps) in
    ap (λ r. lines_at r w (lines turns (next w))) (frame_answered w rest p e.1)
    ∙ ap (λ u. frame_line (f (length rest)) ++ lines turns u) (frame_passed w rest p e.1)
    ∙ ap (λ ls. frame_line (f (length rest)) ++ ls) (all_lines turns v ps (omega (arith, shorter w.rest rest p e.1)) e.2)
    ∙ ap (λ k. frame_line (f k) ++ (more ++ line (end_text (w.number + 1 + length ps)))) (size_of rest ps e.2)
    ∙ ap (λ k. frame_line (f (size ps)) ++ (more ++ line (end_text k))) n
    ∙ sym (append_assoc (frame_line (f (size ps))) more (line (end_text (w.number + suc (length ps)))))

pub whole_lines : (file : List ℕ) (ps : List Parts) → EndToEnd file ps → length file ≤ input_max → listing file ≡ frame_lines ps
whole_lines file ps e h =
    let n : 0 + length ps ≡ length ps = omega arith in
    walked file h
    ∙ all_lines (length file + 1) (start file) ps (omega arith) e
    ∙ ap (λ k. flat_map frame_line (numbered 0 ps) ++ line (end_text k)) n
