-- What a call of the walk answers, and where the walk stands after it. Assumes nothing.
use Rattle.std.specs.Prelude.{◌≡◌, ℕ, ◌+◌, ◌-◌, ◌^◌, ◌<◌, cond, List, [], length, Ok, Err, Result, ◌==◌}
use Rattle.wire.specs.Faults.{cause_number}
use Rattle.wire.specs.declared.fault.FrameFault.{FrameFault}
use Rattle.pass.specs.Layout.{Parts, encoded, Behind, Refusal}
use Rattle.pass.specs.Reading.{Cut, last_of}

-- where a walk stands: the bytes that are left, and the number of the frame that ends there
pub record Point : Type 0 where
  pub rest : List ℕ
  pub number : ℕ

abbrev pub start : List ℕ → Point
start file = record { rest = file; number = 0 }

-- the frames handed out and the bytes that are left are together below 2 ^ 64, so the number never overflows
abbrev pub IsFew : Point → Type 0
IsFew w = w.number + length w.rest < 2 ^ 64

-- what is known of every walk: where it stands, and that its number does not overflow
pub record Standing : Type 0 where
  pub point : Point
  pub few : IsFew point

-- a frame as it is handed out: the place is that of its first byte, and the length has the trailer in it
pub record Handed : Type 0 where
  pub parts : Parts
  pub number : ℕ
  pub place : ℕ
  pub len : ℕ

-- an answer: nothing is left; a frame; or a refusal, with the place of the trailer and the number of the frame
pub data Told : Type 0 where
  none : Told
  handed : Handed → Told
  refused : (fault place frame : ℕ) → Told

-- what is cut off the rest, as it is handed out
abbrev pub hand_out : Point → Result Cut FrameFault → Result Handed FrameFault
hand_out w (Ok cut) =
    Ok
    (record {
      parts = cut.parts;
      number = w.number;
      place = length cut.rest;
      len = length w.rest - length cut.rest;
    })
hand_out w (Err e) = Err e

abbrev pub tell : ℕ → Result Handed FrameFault → Told
tell number (Ok f) = handed f
tell number (Err e) = refused (cause_number e.cause) e.place number

abbrev pub answer : Point → Told
answer w = cond (length w.rest == 0) none (tell w.number (hand_out w (last_of w.rest)))

-- only a frame that is handed out moves the walk
abbrev pub move : Point → Result Cut FrameFault → Point
move w (Ok cut) = record { rest = cut.rest; number = w.number + 1 }
move w (Err e) = w

abbrev pub next : Point → Point
next w = cond (length w.rest == 0) w (move w (last_of w.rest))

-- The same in the format's words

-- what is handed out is there: the rest was the bytes that remain, and then the frame
pub record Hands (w : Point) (f : Handed) (v : Point) : Type 0 where
  pub behind : Behind w.rest v.rest f.parts
  pub number : f.number ≡ w.number
  pub place : f.place ≡ length v.rest
  pub len : f.len ≡ length (encoded f.parts)
  pub moved : v.number ≡ w.number + 1

-- a refusal comes exactly where bytes are left and no lawful frame ends them, and the walk stays
pub record Refuses (w : Point) (fault trailer number : ℕ) (v : Point) : Type 0 where
  pub left : 0 < length w.rest
  pub why : Refusal w.rest fault
  pub apart : (rest : List ℕ) (p : Parts) → Behind w.rest rest p → ⊥
  pub place : trailer ≡ length w.rest - 8
  pub frame : number ≡ w.number
  pub same : v ≡ w

abbrev pub Steps : Point → Told → Point → Type 0
Steps w none v = (w.rest ≡ []) × (v ≡ w)
Steps w (handed f) v = Hands w f v
Steps w (refused fault place frame) v = Refuses w fault place frame v
