-- Where nothing is left, a frame ends the rest, or a check refuses what does, the walk takes the step that it tells.
use Rattle.std.proofs.Common.{◌≡◌, ℕ, ◌+◌, ◌-◌, ◌<◌, List, length, Ok, Err, Result, sym, refl, ap, ◌∙◌, arith}
use Rattle.std.proofs.lemmas.List.{length-append, nil_from_length}
use Rattle.std.proofs.lemmas.Bool.{cond-true, eq-eqb}
use Rattle.wire.specs.Faults.{cause_number}
use Rattle.wire.specs.declared.fault.FrameFault.{FrameFault}
use Rattle.pass.specs.Layout.{encoded, Behind, Refusal}
use Rattle.pass.specs.Reading.{Cut, last_of}
use Rattle.pass.specs.Walking.{Point, Handed, Told, none, handed, refused, hand_out, move, answer, next, Hands, Refuses, Steps}
use Rattle.pass.specs.Runs.{collected, Walks, called, Whole}
use Rattle.pass.proofs.Answered.{none_answered}
use Rattle.pass.proofs.Cuts.{refused_at}
use Rattle.pass.proofs.RoundTrip.{no_frame}
use Rattle.pass.proofs.Whole.{whole}

-- what a call promises
pub record Promise (w : Point) (r : Told) (v : Point) : Type 0 where
  pub value : r ≡ answer w
  pub after : v ≡ next w
  pub step : Steps w r v
  pub run : (file : List ℕ) (fs : List Handed) → Walks file fs w → Walks file (collected fs r) v
  pub rule : (file : List ℕ) (fs : List Handed) → Walks file fs w → Whole file fs r
  pub stays : ((f : Handed) → r ≡ handed f → ⊥) → answer v ≡ r

-- unless a frame was handed out, the walk stands where it stood
stood : (w : Point) (r : Told) (v : Point) → Steps w r v → ((f : Handed) → r ≡ handed f → ⊥) → v ≡ w
stood w none v s h = s.1
stood w (handed f) v s h = absurd (h f refl)
stood w (refused _ _ _) v s h = s.same

-- a step that answers and moves as defined promises the rest, from any point
pub promise : (w : Point) (r : Told) (v : Point) → r ≡ answer w → v ≡ next w → Steps w r v → Promise w r v
promise w r v value after step =
    record {
      value = value;
      after = after;
      step = step;
      run = λ file fs run. called run r step;
      rule = λ file fs run. whole file fs w v r run step;
      stays = λ h. ap answer (stood w r v step h) ∙ sym value;
    }

-- where nothing is left, the walk tells none, and stays
pub none_left : (w : Point) → length w.rest ≡ 0 → Promise w none w
none_left w h =
    let empty = nil_from_length w.rest h in
    promise w none w (sym (none_answered w empty)) (sym (cond-true _ _ _ (eq-eqb _ 0 h))) (empty, refl)

-- what is handed out was cut off
pub cut_off : (w : Point) (last : Result Cut FrameFault) (f : Handed)
    → Ok f ≡ hand_out w last
    → (cut : Cut) × (last ≡ Ok cut) × (Ok f ≡ hand_out w (Ok cut))
cut_off w (Ok cut) f h = (cut, refl, h)
cut_off w (Err e) f h = cc

-- a fault is told where nothing was cut off
pub not_cut : (w : Point) (last : Result Cut FrameFault) (e : FrameFault) → Err e ≡ hand_out w last → last ≡ Err e
not_cut w (Ok cut) e h = cc
not_cut w (Err d) e h = cc

pub refuses : (w : Point) (e : FrameFault)
    → 0 < length w.rest
    → last_of w.rest ≡ Err e
    → Refusal w.rest (cause_number e.cause)
    → Refuses w (cause_number e.cause) e.place w.number w
refuses w e left found why =
    record {
      left = left;
      why = why;
      apart = λ rest p. no_frame w.rest rest p e found;
      place = rw found at (refused_at w.rest);
      frame = refl;
      same = refl;
    }

-- a frame that was cut off, as it is handed out, and the walk behind it
pub hands : (w : Point) (cut : Cut) (f : Handed) (v : Point)
    → Behind w.rest cut.rest cut.parts
    → Ok f ≡ hand_out w (Ok cut)
    → v ≡ move w (Ok cut)
    → Hands w f v
hands w cut f v behind out moved =
    let there : Hands w
    (record {
      parts = cut.parts;
      number = w.number;
      place = length cut.rest;
      len = length w.rest - length cut.rest;
    })
    (record { rest = cut.rest; number = w.number + 1 }) =
    record {
      behind = behind;
      number = refl;
      place = refl;
      len = omega (arith, ap length behind.joined, length-append cut.rest (encoded cut.parts));
      moved = refl;
    } in
    let same : f ≡ record {
      parts = cut.parts;
      number = w.number;
      place = length cut.rest;
      len = length w.rest - length cut.rest;
    } = cc out in
    rw (same, moved) there
