-- Each row is computed from the definitions.
use Rattle.std.proofs.Common.{refl}
use Rattle.mode.specs.Strings.{into_last, into_first, is_full, filled_up, l, two_l, four_l, pad, cbc, cmac, omac, ctr_blocks, ctr}
use Rattle.mode.specs.Strings.{nonce_block, header_block, ciphertext_block, ciphertext, tag_block_of, tag, opening}
use Rattle.mode.proofs.table.table.Goals as goal

infixr 4 ◌&◌
◌&◌ : {A B : Type 0} → A → B → A × B
row & rows = (row, rows)

pub returns : goal.returns
unfolding into_last into_first is_full filled_up l two_l four_l pad cbc cmac omac ctr_blocks ctr nonce_block header_block ciphertext_block ciphertext tag_block_of tag opening
returns c =
    (refl, refl)
    & (refl, refl)
    & (refl, refl)
    & refl
    & refl
    & refl
    & refl
    & (refl, refl)
    & (refl, refl)
    & (refl, refl)
    & refl
    & refl
    & refl
    & refl
    & refl
    & refl
    & (refl, refl)
    & tt
