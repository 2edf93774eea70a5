-- The length of a string that comes in pieces. Assumes nothing.
use Rattle.std.specs.Prelude.{ℕ, ◌+◌, cond, Some, None, Option, nat_le}

abbrev pub grown_to : (so_far piece limit : ℕ) → Option ℕ
grown_to so_far piece limit = cond (nat_le (so_far + piece) limit) (Some (so_far + piece)) None
