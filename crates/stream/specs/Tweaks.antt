-- The three tweaks of EAX, by number. Assumes nothing.
use Rattle.std.specs.Prelude.{ℕ}
use Rattle.stream.specs.declared.tweak.Tweak.{Tweak}
use Rattle.stream.specs.declared.tweak.Tweak.TheVariants.{Nonce, Header, Ciphertext}

abbrev pub tweak_number : Tweak → ℕ
tweak_number Nonce = 0
tweak_number Header = 1
tweak_number Ciphertext = 2
