-- What each call with a key does, for every key and every input: the contracts cite these. Assumes nothing.
use Rattle.std.specs.Prelude.{◌≡◌, ℕ, ◌≤◌, List, [], length, Ok, Err, Result}
use Rattle.wire.specs.Limits.{header_max}
use Rattle.wire.specs.declared.fault.RecordFault.{RecordFault}
use Rattle.block.specs.Form.{Form}
use Rattle.mode.specs.Strings.{header_block}
use Rattle.key.specs.Headers.{TooLong}
use Rattle.key.specs.declared.key.Key.{Key}

module _ {C B : Type 0} (form : Form B) (F : C → B → B) where
  -- a fresh key takes the cipher in, and holds the H-block of the empty header
  pub record Made (cipher : C) (key : Key C B) : Type 0 where
    pub same : key.cipher ≡ cipher
    pub empty : key.prepared ≡ header_block form (F cipher) []

  -- an accepted header's H-block is held from now on
  pub record Prepared (key : Key C B) (header : List ℕ) (answer : ℕ) (after : Key C B) : Type 0 where
    pub counted : answer ≡ length header
    pub within : answer ≤ header_max
    pub same : after.cipher ≡ key.cipher
    pub held : after.prepared ≡ header_block form (F key.cipher) header

  abbrev pub Prepares : (key : Key C B) (header : List ℕ) → Result ℕ RecordFault → (after : Key C B) → Type 0
  Prepares key header (Ok answer) after = Prepared key header answer after
  Prepares key header (Err fault) after = TooLong (length header) fault key after

-- a record of any kind was begun on a key, and ended or abandoned at any of its stages: it gave back an equal key
abbrev pub Served : {C B : Type 0} → (key after : Key C B) → Type 0
Served key after = after ≡ key
