-- A walk is given by its point: that its number does not overflow is no more than a fact.
use mathlib.Core.HLevel.{is_prop→PathP}
use Rattle.std.proofs.Common.{◌≡◌}
use Rattle.std.proofs.Math.Path.{PathP}
use Rattle.std.proofs.Math.Bridge.{le_prop}
use Rattle.pass.specs.Walking.{Point, IsFew, Standing}

few_along : {v w : Point} (p : v ≡ w) (f : IsFew v) (g : IsFew w) → PathP (λ i. IsFew (p i)) f g
few_along p = is_prop→PathP (λ i. IsFew (p i)) (λ i. le_prop)

pub same : (a b : Standing) → a.point ≡ b.point → a ≡ b
same a b p = λ i. record { point = p i; few = few_along p a.few b.few i }
