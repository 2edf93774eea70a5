-- The parts of the number fit where they are put.
use Rattle.std.proofs.Common.{◌+◌, ◌*◌, ◌/◌, ◌%◌, ◌^◌, ◌<◌, arith}
use mir.Facts.{Fits-lt-pow, Fits-of_lt}
use Rattle.block.proofs.Digits.{replaced-lt}
use Rattle.block.proofs.place.BytePlace.put.Goals as goal

fits : (c : goal.After-from)
    → (c.args.number / c.unit-unit.result / 256 * 256 + c.from.result) * c.unit-unit.result
    + c.args.number % c.unit-unit.result
    < 2 ^ 128
fits c =
    let small : c.from.result < 256 = omega (arith, Fits-lt-pow c.ranges.byte) in
    let bound = Fits-lt-pow c.ranges.number in
    replaced-lt c.args.number c.args.self.lowest _ _ c.args.self.within bound small c.unit-unit.ensures.value

pub overflow_mul-result-2 : goal.overflow_mul-result-2
overflow_mul-result-2 c = Fits-of_lt (omega (arith, fits c))

pub overflow_add-result-2 : goal.overflow_add-result-2
overflow_add-result-2 c = Fits-of_lt (fits c)
