-- The header of a record is that of the accepted pieces joined: its chain was fed them, and its count is their length.
use Rattle.std.proofs.Common.{◌≡◌, ℕ, List, [], length, Ok, Err, Result, sym, refl, ◌∙◌, ap, ap₂}
use Rattle.std.proofs.lemmas.List.{length-append}
use Rattle.wire.specs.declared.fault.RecordFault.{RecordFault}
use Rattle.block.specs.Form.{Form}
use Rattle.block.specs.Lawful.{Lawful}
use Rattle.block.specs.Blocks.{end_block}
use Rattle.mode.specs.Strings.{header_block}
use Rattle.stream.specs.Chaining.{holding, fed}
use Rattle.stream.proofs.Chained.{chains}
use Rattle.key.specs.Headers.{joined, no_header, Joined, Joins, ended}
use Rattle.key.specs.declared.header.Header.{Header}

module _ {B : Type 0} (form : Form B) (F : B → B) where
  -- what a header is after pieces that make this string
  abbrev pub header_of : List ℕ → Header B
  header_of H = record { chain = fed form F (holding form (end_block form 1)) H; count = length H }

  pub none_yet : no_header form ≡ header_of []
  unfolding fed
  none_yet = refl

  module _ (lawful : Lawful form) where
    pub header_block_lem : (H : List ℕ) → ended form F (header_of H) ≡ header_block form F H
    unfolding header_block
    header_block_lem H = (chains form lawful F).tweaked 1 H

    pub after_join : (H piece : List ℕ) (r : Result ℕ RecordFault) (after : Header B)
        → Joins form F (header_of H) piece r after
        → after ≡ header_of (joined H piece r)
    after_join H piece (Ok n) after p =
        ap₂ (λ c k. record { chain = c; count = k })
        (p.chain ∙ (chains form lawful F).joined (holding form (end_block form 1)) H piece)
        (p.count ∙ p.counted ∙ sym (length-append H piece))
    after_join H piece (Err e) after p = p.same

    -- the H-block of no pieces, and that of a header in one piece
    pub empty_block : ended form F (no_header form) ≡ header_block form F []
    unfolding fed
    empty_block = header_block_lem []

    pub whole_block : (H : List ℕ) (n : ℕ) (after : Header B)
        → Joined form F (no_header form) H n after
        → ended form F after ≡ header_block form F H
    unfolding fed
    whole_block H n after p = ap (ended form F) (after_join [] H (Ok n) after p) ∙ header_block_lem H
