-- A block of either kind is given by its number: that the number fits is no more than a fact.
use mathlib.Core.HLevel.{is_prop→PathP}
use Rattle.std.specs.Prelude.{◌≡◌, ℕ, ◌^◌, ◌<◌}
use Rattle.std.proofs.Math.Path.{PathP}
use Rattle.std.proofs.Math.Bridge.{le_prop}
use Rattle.block.specs.declared.block8.Block8.{Block8}
use Rattle.block.specs.declared.block16.Block16.{Block16}

fits_along : (bound : ℕ) {x y : ℕ} (p : x ≡ y) (f : x < bound) (g : y < bound) → PathP (λ i. p i < bound) f g
fits_along bound p = is_prop→PathP (λ i. p i < bound) (λ i. le_prop)

pub same8 : (a b : Block8) → a.number ≡ b.number → a ≡ b
same8 a b p = λ i. record { number = p i; fits = fits_along (2 ^ 64) p a.fits b.fits i }

pub same16 : (a b : Block16) → a.number ≡ b.number → a ≡ b
same16 a b p = λ i. record { number = p i; fits = fits_along (2 ^ 128) p a.fits b.fits i }
