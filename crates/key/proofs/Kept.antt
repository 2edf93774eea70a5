-- Whatever calls a key has seen, it holds the cipher it was made from and the H-block of the header last prepared: one
-- induction over the calls.
use Rattle.std.proofs.Common.{◌≡◌, ℕ, List, Ok, Err, Result, ap, ◌∙◌}
use Rattle.wire.specs.declared.fault.RecordFault.{RecordFault}
use Rattle.block.specs.Form.{Form}
use Rattle.mode.specs.Strings.{header_block}
use Rattle.key.specs.Steps.{Prepares}
use Rattle.key.specs.Runs.{last_of, Keys, made, prepared, served}
use Rattle.key.specs.declared.key.Key.{Key}

module _ {C B : Type 0} (form : Form B) (F : C → B → B) (cipher : C) where
  pub record Kept (last : List ℕ) (key : Key C B) : Type 0 where
    pub same : key.cipher ≡ cipher
    pub block : key.prepared ≡ header_block form (F cipher) last

  after : {last : List ℕ} {key next : Key C B} (header : List ℕ) (r : Result ℕ RecordFault)
      → Kept last key
      → Prepares form F key header r next
      → Kept (last_of last header r) next
  after header (Ok n) k p =
      record {
        same = p.same ∙ k.same;
        block = p.held ∙ ap (λ c. header_block form (F c) header) k.same;
      }
  after header (Err e) k p = rw p.same k

  pub kept : {last : List ℕ} {key : Key C B} → Keys form F cipher last key → Kept last key
  kept (made p) = record { same = p.same; block = p.empty }
  kept (prepared run header r p) = after header r (kept run) p
  kept (served run p) = rw p (kept run)
