-- A byte of a number: what replacing one does to it and to the others, and that the number still fits.
use Rattle.std.proofs.Common.{◌≡◌, ℕ, ◌+◌, ◌-◌, ◌*◌, ◌/◌, ◌%◌, ◌^◌, ◌<◌, ◌≤◌, sym, ap, ◌∙◌, mod-lt, arith, pow_pos, pow-add, shr-shr}
use lib.Arith.{digits_lt, digits_div, digits_mod}
use lib.Pow.{mod-pow-add, field, mod-mod-pow, low}
use Rattle.std.proofs.lemmas.Nat.{div_below}
use Rattle.block.specs.Blocks.{replaced}

-- 2 ^ 128 is so many times a byte at this place
parts : (lowest : ℕ) → lowest ≤ 120 → 2 ^ (120 - lowest) * 256 * 2 ^ lowest ≡ 2 ^ 128
parts lowest h =
    let all : 120 - lowest + 8 + lowest ≡ 128 = omega arith in
    ap (λ x. x * 2 ^ lowest) (sym (pow-add 2 (120 - lowest) 8))
    ∙ sym (pow-add 2 (120 - lowest + 8) lowest)
    ∙ ap (λ k. 2 ^ k) all

above-lt : (x lowest v : ℕ)
    → lowest ≤ 120
    → x < 2 ^ 128
    → v < 256
    → x / 2 ^ lowest / 256 * 256 + v < 2 ^ (120 - lowest) * 256
above-lt x lowest v h bound small =
    let q : x / 2 ^ lowest < 2 ^ (120 - lowest) * 256 =
    div_below x (2 ^ lowest) _ (pow_pos lowest) (rw (parts lowest h) bound) in
    digits_lt (div_below (x / 2 ^ lowest) 256 (2 ^ (120 - lowest)) (omega arith) q) small

pub replaced-lt : (x lowest v unit : ℕ)
    → lowest ≤ 120
    → x < 2 ^ 128
    → v < 256
    → unit ≡ 2 ^ lowest
    → (x / unit / 256 * 256 + v) * unit + x % unit < 2 ^ 128
replaced-lt x lowest v unit h bound small e =
    rw
    (e, ← parts lowest h)
    (digits_lt (above-lt x lowest v h bound small) (mod-lt x (pow_pos lowest)))

-- a byte lies within the bits that are kept
pub byte-mod : (y s w : ℕ) → s + 8 ≤ w → y % 2 ^ w / 2 ^ s % 256 ≡ y / 2 ^ s % 256
byte-mod y s w h =
    let all : w ≡ w - s - 8 + 8 + s = omega arith in
    ap (λ k. y % 2 ^ k / 2 ^ s % 256) all
    ∙ ap (λ z. z % 256) (field y (w - s - 8 + 8) s)
    ∙ mod-mod-pow (y / 2 ^ s) (w - s - 8) 8

-- the same of the bits below it
byte_low : (x y t s : ℕ) → t + 8 ≤ s → x % 2 ^ s ≡ y % 2 ^ s → x / 2 ^ t % 256 ≡ y / 2 ^ t % 256
byte_low x y t s h e = sym (byte-mod x t s h) ∙ ap (λ z. z / 2 ^ t % 256) e ∙ byte-mod y t s h

pub replaced_same : (x s v : ℕ) → replaced x s v / 2 ^ s % 256 ≡ v % 256
replaced_same x s v =
    ap (λ q. q % 256) (digits_div (x / 2 ^ s / 256 * 256 + v % 256) (mod-lt x (pow_pos s)))
    ∙ digits_mod (x / 2 ^ s / 256) (mod-lt v (pow_pos 8))

pub replaced_above : (x s v t : ℕ) → s + 8 ≤ t → replaced x s v / 2 ^ t % 256 ≡ x / 2 ^ t % 256
replaced_above x s v t h =
    let all : t ≡ s + 8 + (t - s - 8) = omega arith in
    let cut : (z : ℕ) → z / 2 ^ t ≡ z / 2 ^ s / 256 / 2 ^ (t - s - 8) =
    λ z. ap (λ k. z / 2 ^ k) all
    ∙ sym (shr-shr z (s + 8) (t - s - 8))
    ∙ ap (λ q. q / 2 ^ (t - s - 8)) (sym (shr-shr z s 8)) in
    ap (λ q. q % 256)
    (cut (replaced x s v)
    ∙ ap (λ q. q / 256 / 2 ^ (t - s - 8)) (digits_div (x / 2 ^ s / 256 * 256 + v % 256) (mod-lt x (pow_pos s)))
    ∙ ap (λ q. q / 2 ^ (t - s - 8)) (digits_div (x / 2 ^ s / 256) (mod-lt v (pow_pos 8)))
    ∙ sym (cut x))

pub replaced_below : (x s v t : ℕ) → t + 8 ≤ s → replaced x s v / 2 ^ t % 256 ≡ x / 2 ^ t % 256
replaced_below x s v t h =
    byte_low (replaced x s v) x t s h (low (x / 2 ^ s / 256 * 256 + v % 256) s (mod-lt x (pow_pos s)))

-- the bytes of a number from the lowest bit s on, written as digits: one more
pub byte_more : (x s k : ℕ) → x / 2 ^ (s + 8) % 2 ^ (8 * k) * 256 + x / 2 ^ s % 256 ≡ x / 2 ^ s % 2 ^ (8 * (k + 1))
byte_more x s k =
    let all : 8 * (k + 1) ≡ 8 * k + 8 = omega arith in
    ap (λ q. q % 2 ^ (8 * k) * 256 + x / 2 ^ s % 256) (sym (shr-shr x s 8))
    ∙ sym (mod-pow-add (x / 2 ^ s) (8 * k) 8)
    ∙ ap (λ j. x / 2 ^ s % 2 ^ j) (sym all)
