-- The bench cipher: F(b) is b xor W, and W is the block of its eight key bytes. Assumes nothing.
use Rattle.std.specs.Prelude.{ℕ, List}
use Rattle.block.specs.Blocks.{xored, block_of}
use Rattle.block.specs.Kinds.{form8}
use Rattle.block.specs.declared.block8.Block8.{Block8}
use Rattle.cipher.specs.declared.bench.Bench.{Bench}

abbrev pub bench_f : Bench → Block8 → Block8
bench_f cipher b = xored form8 b cipher.key

abbrev pub bench_under : List ℕ → Bench
bench_under key = record { key = block_of form8 key }
