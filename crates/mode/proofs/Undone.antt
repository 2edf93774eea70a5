-- A block xored in twice is gone, by the four laws of xor alone.
use Rattle.std.proofs.Common.{◌≡◌, ap, ◌∙◌}
use Rattle.block.specs.Form.{Form}
use Rattle.block.specs.Lawful.{Lawful}
use Rattle.block.specs.Blocks.{xored}

module _ {B : Type 0} (form : Form B) (lawful : Lawful form) where
  pub undone : (a k : B) → xored form (xored form a k) k ≡ a
  undone a k =
      lawful.associative a k k
      ∙ ap (xored form a) (lawful.cancelling k)
      ∙ lawful.commutative a _
      ∙ lawful.neutral a
