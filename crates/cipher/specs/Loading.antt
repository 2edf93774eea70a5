-- What loading a key does, for every cipher, key and answer. Assumes nothing.
use Rattle.std.specs.Prelude.{◌≡◌, ℕ, List, length, Ok, Err, Result}
use Rattle.wire.specs.Faults.{record_number}
use Rattle.wire.specs.declared.fault.RecordFault.{RecordFault}

module _ {C : Type 0} (size : ℕ) (under : List ℕ → C) where
  -- the cipher is the one under these bytes, and the answer is their count
  pub record Loaded (key : List ℕ) (count : ℕ) (after : C) : Type 0 where
    pub whole : length key ≡ size
    pub answer : count ≡ size
    pub loaded : after ≡ under key

  -- a refusal comes at every other length, and the cipher is as it was
  pub record Refused (before : C) (key : List ℕ) (fault : RecordFault) (after : C) : Type 0 where
    pub apart : length key ≡ size → ⊥
    pub number : record_number fault ≡ 4
    pub same : after ≡ before

  abbrev pub Loads : (before : C) (key : List ℕ) → Result ℕ RecordFault → (after : C) → Type 0
  Loads before key (Ok count) after = Loaded key count after
  Loads before key (Err fault) after = Refused before key fault after
