-- What a worked value says. Assumes nothing.
use Rattle.std.specs.Prelude.{◌≡◌, ℕ, List, [], ◌∷◌, length, Ok, Err, Result}
use Rattle.std.specs.Borrow.{Bor}
use Rattle.wire.specs.declared.fault.RecordFault.{RecordFault}
use Rattle.block.specs.Form.{Form}
use Rattle.block.specs.Blocks.{doubled, following, bytes_of, block_of}
use Rattle.block.specs.Kinds.{form8, form16}
use Rattle.block.specs.declared.block8.Block8.{Block8}
use Rattle.cipher.specs.Bench.{bench_f, bench_under}
use Rattle.mode.specs.Strings.{cmac, omac, ciphertext, tag_block_of, opening}
use Rattle.mode.specs.declared.worked.BlockRow.{BlockRow}
use Rattle.mode.specs.declared.worked.MacRow.{MacRow}
use Rattle.mode.specs.declared.worked.SealRow.{SealRow}
use Rattle.mode.specs.declared.worked.OpenRow.{OpenRow}
use Rattle.mode.specs.declared.worked.Worked.{Worked}
use Rattle.mode.specs.declared.worked.Worked.TheVariants.{Doubled8, Doubled16, Next8, Cmac, Omac, Sealed, Opened, Sealed16}

-- the bench cipher under the key 00 00 00 00 00 00 00 01
abbrev pub bench : Block8 → Block8
bench = bench_f (bench_under (0 ∷ 0 ∷ 0 ∷ 0 ∷ 0 ∷ 0 ∷ 0 ∷ 1 ∷ []))

-- a row tells of an answer its message, or its fault
abbrev pub Tells : Result (List ℕ) RecordFault → Result (Bor (List ℕ)) RecordFault → Type 0
Tells answer (Ok message) = answer ≡ Ok message.now
Tells answer (Err fault) = answer ≡ Err fault

module _ {B : Type 0} (form : Form B) where
  -- what an operation makes of a block that is given by its bytes
  abbrev pub Makes : (B → B) → BlockRow → Type 0
  Makes operation row =
      (length row.block.now ≡ form.size)
      × (bytes_of form (operation (block_of form row.block.now)) ≡ row.answer.now)

  -- the MAC of a string
  abbrev pub Macs : (List ℕ → B) → MacRow → Type 0
  Macs mac row = bytes_of form (mac row.string.now) ≡ row.answer.now

  -- ciphertext and tag block under F
  abbrev pub Seals : (B → B) → SealRow → Type 0
  Seals F row =
      (ciphertext form F row.nonce.now row.message.now ≡ row.ciphertext.now)
      × (bytes_of form (tag_block_of form F row.nonce.now row.header.now row.ciphertext.now) ≡ row.tag_block.now)

  -- what opening answers under F
  abbrev pub Answers : (B → B) → OpenRow → Type 0
  Answers F row =
      Tells (opening form F row.nonce.now row.header.now row.ciphertext.now row.tag.now) row.answer

abbrev pub Holds : Worked → Type 0
Holds (Doubled8 row) = Makes form8 (doubled form8) row
Holds (Doubled16 row) = Makes form16 (doubled form16) row
Holds (Next8 row) = Makes form8 (following form8) row
Holds (Cmac row) = Macs form8 (cmac form8 bench) row
Holds (Omac t row) = Macs form8 (omac form8 bench t) row
Holds (Sealed row) = Seals form8 bench row
Holds (Opened row) = Answers form8 bench row
Holds (Sealed16 row) = Seals form16 (following form16) row

abbrev pub AllHold : List Worked → Type 0
AllHold [] = Unit {0}
AllHold (w ∷ ws) = Holds w × AllHold ws
