-- The lines written so far and those of the frames that are left are together the lines of the whole file.
use Rattle.std.proofs.Common.{◌≡◌, ℕ, zero, suc, ◌+◌, ◌<◌, List, [], ◌∷◌, ◌++◌, length, sym, refl, ap, ◌∙◌, append_assoc, arith}
use Rattle.std.proofs.lemmas.List.{flat_map_more}
use Rattle.std.specs.List.{flat_map}
use Rattle.pass.specs.Runs.{Walks, called}
use Rattle.pass.specs.Walking.{Point, start, Handed, Told, handed, answer, next, Steps}
use Rattle.pass.proofs.RoundTrip.{shorter}
use Rattle.listing.specs.Listing.{frame_line, lines_at, lines}

-- `before` stood there first, `text` is what is written by now, and the walk is at w
pub record Sofar (before file text : List ℕ) (w : Point) : Type 0 where
  pub turns : ℕ
  pub enough : length w.rest < turns
  pub whole : text ++ lines turns w ≡ before ++ lines (length file + 1) (start file)
  pub frames : List Handed
  pub run : Walks file frames w
  pub written : text ≡ before ++ flat_map frame_line frames

-- what is left to write, by the walk's answer: some turn is left
next_lines : (turns : ℕ) (w : Point) (r : Told)
    → length w.rest < turns
    → r ≡ answer w
    → (more : ℕ) × (turns ≡ suc more) × (lines turns w ≡ lines_at r w (lines more (next w)))
next_lines zero w r h e = absurd (omega arith)
next_lines (suc turns) w r h e = (turns, refl, ap (λ x. lines_at x w (lines turns (next w))) (sym e))

module _ {before file text : List ℕ} {w : Point} (old : Sofar before file text w) where
  -- a frame's line is written
  pub one_more : (text' : List ℕ) (v : Point) (f : Handed)
      → handed f ≡ answer w
      → v ≡ next w
      → Steps w (handed f) v
      → text' ≡ text ++ frame_line f
      → Sofar before file text' v
  one_more text' v f value after step more =
      let n = next_lines old.turns w (handed f) old.enough value in
      record {
        turns = n.0;
        enough = omega (arith, old.enough, n.1, shorter w.rest v.rest f.parts step.behind);
        whole = ap (λ t. t ++ lines n.0 v) more
            ∙ append_assoc text (frame_line f) (lines n.0 v)
            ∙ ap (λ u. text ++ (frame_line f ++ lines n.0 u)) after
            ∙ ap (λ ls. text ++ ls) (sym n.2)
            ∙ old.whole;
        frames = old.frames ++ (f ∷ []);
        run = called old.run (handed f) step;
        written = more ∙ ap (λ t. t ++ frame_line f) old.written ∙ flat_map_more frame_line before old.frames f;
      }
