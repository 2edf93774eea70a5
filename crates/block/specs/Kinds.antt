-- The two kinds of block: of 8 bytes, and of 16. Assumes nothing.
use Rattle.std.specs.Prelude.{◌%◌, ◌^◌}
use Rattle.std.proofs.Common.{mod-lt, pow_pos}
use Rattle.block.specs.Form.{Form}
use Rattle.block.specs.declared.block8.Block8.{Block8}
use Rattle.block.specs.declared.block16.Block16.{Block16}

abbrev pub form8 : Form Block8
form8 =
    record {
      size = 8;
      number = λ a. a.number;
      block = λ x. record { number = x % 2 ^ 64; fits = mod-lt x (pow_pos 64) };
    }

abbrev pub form16 : Form Block16
form16 =
    record {
      size = 16;
      number = λ a. a.number;
      block = λ x. record { number = x % 2 ^ 128; fits = mod-lt x (pow_pos 128) };
    }
