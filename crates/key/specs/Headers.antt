-- The header of a record, joined from pieces. Assumes nothing.
use Rattle.std.specs.Prelude.{◌≡◌, ℕ, ◌+◌, ◌<◌, ◌≤◌, List, ◌++◌, length, Ok, Err, Result}
use Rattle.wire.specs.Faults.{record_number}
use Rattle.wire.specs.Limits.{header_max}
use Rattle.wire.specs.declared.fault.RecordFault.{RecordFault}
use Rattle.block.specs.Form.{Form}
use Rattle.block.specs.Blocks.{end_block}
use Rattle.stream.specs.Chaining.{holding, fed, finished}
use Rattle.key.specs.declared.header.Header.{Header}

-- a string after a piece call: what was accepted, joined
abbrev pub joined : (so_far piece : List ℕ) → Result ℕ RecordFault → List ℕ
joined so_far piece (Ok _) = so_far ++ piece
joined so_far piece (Err _) = so_far

-- the refusal of a header of so many bytes is 1, comes exactly past the limit, and changes nothing
pub record TooLong {A : Type 0} (bytes : ℕ) (fault : RecordFault) (before after : A) : Type 0 where
  pub number : record_number fault ≡ 1
  pub past : header_max < bytes
  pub same : after ≡ before

module _ {B : Type 0} (form : Form B) where
  -- no piece has come yet
  abbrev pub no_header : Header B
  no_header = record { chain = holding form (end_block form 1); count = 0 }

  module _ (F : B → B) where
    -- an accepted piece is fed to the chain, and the answer is the length so far
    pub record Joined (h : Header B) (piece : List ℕ) (answer : ℕ) (after : Header B) : Type 0 where
      pub counted : answer ≡ h.count + length piece
      pub within : answer ≤ header_max
      pub chain : after.chain ≡ fed form F h.chain piece
      pub count : after.count ≡ answer

    abbrev pub Joins : (h : Header B) (piece : List ℕ) → Result ℕ RecordFault → (after : Header B) → Type 0
    Joins h piece (Ok answer) after = Joined h piece answer after
    Joins h piece (Err fault) after = TooLong (h.count + length piece) fault h after

    abbrev pub ended : Header B → B
    ended h = finished form F h.chain
