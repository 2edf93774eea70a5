-- What is read before a point of a pass file, by the checks in their order. Assumes nothing.
use Rattle.std.specs.Prelude.{ℕ, ◌+◌, ◌-◌, ◌*◌, cond, List, length, take, drop, Some, None, Ok, Err, Option, Result, ◌==◌, nat_le, nat_lt}
use Rattle.wire.specs.Kinds.{kind_of}
use Rattle.wire.specs.declared.kind.Kind.{Kind}
use Rattle.wire.specs.declared.fault.Cause.{Cause}
use Rattle.wire.specs.declared.fault.Cause.TheVariants.{Short, NoMark, UnknownKind, BadLength, Overrun}
use Rattle.wire.specs.declared.fault.FrameFault.{FrameFault}
use Rattle.pass.specs.declared.trailer.Trailer.{Trailer}
use Rattle.pass.specs.Layout.{back, Parts, span, within_limits}

abbrev pub fields_of : List ℕ → Option Kind → Result Trailer Cause
fields_of bs None = Err UnknownKind
fields_of bs (Some k) =
    Ok
    (record {
      kind = k;
      nonce = back bs 8;
      tag = back bs 7;
      header = back bs 6 * 256 + back bs 5;
      body = back bs 4 * 256 + back bs 3;
    })

-- the trailer that the last eight bytes are
abbrev pub trailer_in : List ℕ → Result Trailer Cause
trailer_in bs = cond (back bs 1 == 0xA7) (fields_of bs (kind_of (back bs 2))) (Err NoMark)

abbrev pub trailer_of : List ℕ → Result Trailer Cause
trailer_of bs = cond (nat_lt (length bs) 8) (Err Short) (trailer_in bs)

-- the parts that a trailer points back over
abbrev pub parts_at : Trailer → List ℕ → Parts
parts_at t ps =
    record {
      kind = t.kind;
      nonce = take t.nonce ps;
      header = take t.header (drop t.nonce ps);
      body = take t.body (drop t.header (drop t.nonce ps));
      tag = drop t.body (drop t.header (drop t.nonce ps));
    }

-- a frame, and the bytes before it
pub record Cut : Type 0 where
  pub rest : List ℕ
  pub parts : Parts

-- the cut of the bytes before a trailer
abbrev pub cut_at : Trailer → List ℕ → Cut
cut_at t before =
    record {
      rest = take (length before - span t) before;
      parts = parts_at t (drop (length before - span t) before);
    }

abbrev pub cut_of : Trailer → List ℕ → Result Cut Cause
cut_of t before = cond (within_limits t) (cond (nat_le (span t) (length before)) (Ok (cut_at t before)) (Err Overrun)) (Err BadLength)

abbrev pub checked : List ℕ → Result Trailer Cause → Result Cut Cause
checked bs (Err e) = Err e
checked bs (Ok t) = cut_of t (take (length bs - 8) bs)

-- a refusal tells the place of the trailer, which is 0 with no whole trailer
abbrev pub locate : ℕ → Result Cut Cause → Result Cut FrameFault
locate len (Ok cut) = Ok cut
locate len (Err cause) = Err (record { cause = cause; place = len - 8 })

-- the frame that ends bs, or the first check that refuses it
unfoldable pub last_of : List ℕ → Result Cut FrameFault
last_of bs = locate (length bs) (checked bs (trailer_of bs))
