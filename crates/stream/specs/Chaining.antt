-- The chain of CMAC, byte by byte. What it comes to is told in `Laws`. Assumes nothing.
use Rattle.std.specs.Prelude.{ℕ, ◌+◌, cond, List, fold, nat_lt}
use Rattle.block.specs.Form.{Form}
use Rattle.block.specs.Blocks.{zero_block, xored, with_byte_at}
use Rattle.mode.specs.Strings.{two_l, four_l}
use Rattle.stream.specs.declared.chain.Chain.{Chain}

module _ {B : Type 0} (form : Form B) where
  -- nothing has come yet
  abbrev pub blank : Chain B
  blank = record { sum = zero_block form; held = zero_block form; count = 0 }

  -- one block has come
  abbrev pub holding : B → Chain B
  holding b = record { sum = zero_block form; held = b; count = form.size }

  module _ (F : B → B) where
    -- a full block is held back until it is known not to be the last
    abbrev pub with_room : Chain B → Chain B
    with_room c =
        cond
        (nat_lt c.count form.size)
        c
        (record { sum = F (xored form c.sum c.held); held = zero_block form; count = 0 })

    abbrev pub pushed : Chain B → ℕ → Chain B
    pushed c x =
        let r : Chain B = with_room c in
        record { sum = r.sum; held = with_byte_at form r.held r.count x; count = r.count + 1 }

    unfoldable pub fed : Chain B → List ℕ → Chain B
    fed c X = fold pushed c X

    -- the last block is padded: full with 2L, else with 80 and 4L
    unfoldable pub finished : Chain B → B
    finished c =
        cond
        (nat_lt c.count form.size)
        (F (xored form c.sum (xored form (with_byte_at form c.held c.count 0x80) (four_l form F))))
        (F (xored form c.sum (xored form c.held (two_l form F))))
