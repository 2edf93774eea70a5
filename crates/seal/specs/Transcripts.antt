-- What a record was begun on, and the record so far: what came in, and what was put out. Assumes nothing.
use Rattle.std.specs.Prelude.{ℕ, List, [], ◌∷◌, length, take, Ok, Err, Result}
use Rattle.wire.specs.declared.fault.RecordFault.{RecordFault}
use Rattle.key.specs.Headers.{joined}
use Rattle.key.specs.declared.key.Key.{Key}

-- what a record was begun on: a cipher, the header last prepared, and a key. That calls led to that key from a fresh one
-- of that cipher, the runs ask where a record begins
pub record Origin (C B : Type 0) : Type 0 where
  pub cipher : C
  pub last : List ℕ
  pub key : Key C B

abbrev pub begun_on : {C B : Type 0} → C → (last : List ℕ) → Key C B → Origin C B
begun_on cipher last key = record { cipher = cipher; last = last; key = key }

-- the strings of a record; the newest tag comes first
pub record Transcript : Type 0 where
  pub nonce : List ℕ
  pub header : List ℕ
  pub message : List ℕ
  pub ciphertext : List ℕ
  pub tags : List (List ℕ)

-- nothing has been put out
abbrev pub unsealed : (nonce header : List ℕ) → Transcript
unsealed nonce header = record { nonce = nonce; header = header; message = []; ciphertext = []; tags = [] }

-- the record after a header piece: what was accepted is joined
abbrev pub with_header : Transcript → (piece : List ℕ) → Result ℕ RecordFault → Transcript
with_header so_far piece r = record so_far { header = joined so_far.header piece r }

-- after a message piece, whose ciphertext is at the front of the filled buffer
abbrev pub with_message : Transcript → (piece filled : List ℕ) → Result ℕ RecordFault → Transcript
with_message so_far piece filled r =
    record so_far {
      message = joined so_far.message piece r;
      ciphertext = joined so_far.ciphertext (take (length piece) filled) r;
    }

-- after a tag call
abbrev pub with_tag : Transcript → (filled : List ℕ) → Result ℕ RecordFault → Transcript
with_tag so_far filled (Ok _) = record so_far { tags = filled ∷ so_far.tags }
with_tag so_far filled (Err _) = so_far
