-- What the streams come to, however the string is cut. Assumes nothing.
use Rattle.std.specs.Prelude.{◌≡◌, ℕ, List, ◌++◌}
use Rattle.block.specs.Form.{Form}
use Rattle.block.specs.Blocks.{end_block, bytes_of}
use Rattle.block.specs.ByBytes.{IsString}
use Rattle.mode.specs.Strings.{cmac, omac, ctr}
use Rattle.stream.specs.Chaining.{blank, holding, fed, finished}
use Rattle.stream.specs.Counting.{starting_at, enciphered, advanced}
use Rattle.stream.specs.declared.chain.Chain.{Chain}
use Rattle.stream.specs.declared.keystream.Keystream.{Keystream}

module _ {B : Type 0} (form : Form B) (F : B → B) where
  pub record Chains : Type 0 where
    -- a string in two pieces is fed like the whole
    pub joined : (c : Chain B) (X Y : List ℕ) → fed form F (fed form F c X) Y ≡ fed form F c (X ++ Y)
    -- a chain that holds a block is one that was fed its bytes
    pub block : (b : B) → fed form F (blank form) (bytes_of form b) ≡ holding form b
    -- with no tweak a chain comes to CMAC, and after [t] to OMAC under t
    pub plain : (X : List ℕ) → finished form F (fed form F (blank form) X) ≡ cmac form F X
    pub tweaked : (t : ℕ) (X : List ℕ) → finished form F (fed form F (holding form (end_block form t)) X) ≡ omac form F t X

  pub record Counts : Type 0 where
    -- a string in two pieces is enciphered like the whole
    pub joined : (k : Keystream B) (X Y : List ℕ)
        → enciphered form F k (X ++ Y) ≡ enciphered form F k X ++ enciphered form F (advanced form F k X) Y
    pub moved : (k : Keystream B) (X Y : List ℕ) → advanced form F (advanced form F k X) Y ≡ advanced form F k (X ++ Y)
    -- from S on it is CTR from S
    pub whole : (S : B) (X : List ℕ) → IsString X → enciphered form F (starting_at form S) X ≡ ctr form F S X
