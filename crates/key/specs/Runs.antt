-- Every list of calls with one key. Assumes nothing.
use Rattle.std.specs.Prelude.{ℕ, List, [], Ok, Err, Result}
use Rattle.wire.specs.declared.fault.RecordFault.{RecordFault}
use Rattle.block.specs.Form.{Form}
use Rattle.key.specs.Steps.{Made, Prepares, Served}
use Rattle.key.specs.declared.key.Key.{Key}

-- the header last prepared is that of the last accepted call
abbrev pub last_of : (before header : List ℕ) → Result ℕ RecordFault → List ℕ
last_of before header (Ok _) = header
last_of before header (Err _) = before

module _ {C B : Type 0} (form : Form B) (F : C → B → B) (cipher : C) where
  -- calls that follow one another from a fresh key of this cipher, some accepted and some not; the header is the one last
  -- prepared, and empty if none was
  pub data Keys : (header : List ℕ) → Key C B → Type 0 where
    made : {key : Key C B} → Made form F cipher key → Keys [] key
    prepared : {last : List ℕ} {key after : Key C B}
        → Keys last key
        → (header : List ℕ) (r : Result ℕ RecordFault)
        → Prepares form F key header r after
        → Keys (last_of last header r) after
    served : {last : List ℕ} {key after : Key C B} → Keys last key → Served key after → Keys last after
