-- A bit shifted by less than its type has bits is a power of two.
use Rattle.std.proofs.Common.{arith, pow_pos}
use Rattle.std.proofs.lemmas.Nat.{one_shl}
use Rattle.block.proofs.place.BytePlace.unit.Goals as goal

pub returns : goal.returns
returns c =
    let e = one_shl c.args.self.lowest 128 (omega arith) in
    record { value = e; bound = omega (arith, e, pow_pos c.args.self.lowest) }
