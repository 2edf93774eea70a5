-- What `at` says of the result that it was given.
use Rattle.std.proofs.Common.{◌≡◌, ℕ, Ok, Err, Result, ap}
use Rattle.wire.specs.Faults.{placed}

module _ {T E : Type 0} where
  pub placed_ok : (r : Result T E) (n : ℕ) (x : T) → placed r n ≡ Ok x → r ≡ Ok x
  placed_ok (Ok y) n x e = cc
  placed_ok (Err d) n x e = absurd (cc)

  pub placed_err : (r : Result T E) (n : ℕ) (d : E × ℕ) → placed r n ≡ Err d → (r ≡ Err d.0) × (n ≡ d.1)
  placed_err (Ok y) n d e = absurd (cc)
  placed_err (Err x) n d e = let s : (x, n) ≡ d = cc in (ap (λ p. Err p.0) s, ap (λ p. p.1) s)
