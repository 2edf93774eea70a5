-- What each call of a sealing does, for every stage and every input: the contracts cite these. Assumes nothing.
use Rattle.std.specs.Prelude.{◌≡◌, ℕ, ◌+◌, ◌<◌, ◌≤◌, true, false, List, ◌++◌, length, take, drop, Ok, Err, Result}
use Rattle.wire.specs.Faults.{record_number}
use Rattle.wire.specs.Limits.{message_max, is_tag_len_of}
use Rattle.wire.specs.declared.fault.RecordFault.{RecordFault}
use Rattle.block.specs.Form.{Form}
use Rattle.block.specs.Blocks.{end_block, xored, bytes_of}
use Rattle.mode.specs.Strings.{nonce_block}
use Rattle.stream.specs.Chaining.{holding, fed, finished}
use Rattle.stream.specs.Counting.{starting_at, enciphered, advanced}
use Rattle.key.specs.Headers.{no_header, Joins, ended}
use Rattle.key.specs.declared.key.Key.{Key}
use Rattle.seal.specs.declared.header.HeaderStage.{HeaderStage}
use Rattle.seal.specs.declared.message.MessageStage.{MessageStage}
use Rattle.seal.specs.declared.tag.TagStage.{TagStage}

-- why a message piece is refused, by number: the first check that applies, after so many bytes of the message
pub data Refusal (so_far : ℕ) (piece out : List ℕ) : ℕ → Type 0 where
  short : length out < length piece → Refusal so_far piece out 2
  long : length piece ≤ length out → message_max < so_far + length piece → Refusal so_far piece out 3

module _ {C B : Type 0} (form : Form B) (F : C → B → B) where
  -- the plain start: the key is taken in, and no header piece has come
  pub record Begins (key : Key C B) (nonce : List ℕ) (s : HeaderStage C B) : Type 0 where
    pub taken : s.key ≡ key
    pub block : s.nonce ≡ nonce_block form (F key.cipher) nonce
    pub none : s.header ≡ no_header form

  -- a header piece, accepted or refused
  pub record Joining (s : HeaderStage C B) (piece : List ℕ) (r : Result ℕ RecordFault) (t : HeaderStage C B) : Type 0 where
    pub same : t.key ≡ s.key
    pub block : t.nonce ≡ s.nonce
    pub header : Joins form (F s.key.cipher) s.header piece r t.header

  -- the message stage when no piece has come
  pub record NoMessage (key : Key C B) (nonce header : B) (s : MessageStage C B) : Type 0 where
    pub taken : s.key ≡ key
    pub nonce_block : s.nonce ≡ nonce
    pub header_block : s.header ≡ header
    pub counter : s.keystream ≡ starting_at form nonce
    pub chain : s.mac ≡ holding form (end_block form 2)
    pub count : s.count ≡ 0

  -- the header stage is left with its H-block
  abbrev pub Leaves : HeaderStage C B → MessageStage C B → Type 0
  Leaves s t = NoMessage s.key s.nonce (ended form (F s.key.cipher) s.header) t

  -- the prepared start has the key's prepared block for its H-block
  abbrev pub BeginsPrepared : Key C B → (nonce : List ℕ) → MessageStage C B → Type 0
  BeginsPrepared key nonce s = NoMessage key (nonce_block form (F key.cipher) nonce) key.prepared s

  -- an accepted message piece: its ciphertext is at the front of the buffer, and the rest is as it was
  pub record Sealed (s : MessageStage C B) (piece out : List ℕ) (answer : ℕ) (t : MessageStage C B) (filled : List ℕ) : Type 0 where
    pub room : length piece ≤ length out
    pub counted : answer ≡ s.count + length piece
    pub within : answer ≤ message_max
    pub put : filled ≡ enciphered form (F s.key.cipher) s.keystream piece ++ drop (length piece) out
    pub same : t.key ≡ s.key
    pub nonce_block : t.nonce ≡ s.nonce
    pub header_block : t.header ≡ s.header
    pub counter : t.keystream ≡ advanced form (F s.key.cipher) s.keystream piece
    pub chain : t.mac ≡ fed form (F s.key.cipher) s.mac (enciphered form (F s.key.cipher) s.keystream piece)
    pub count : t.count ≡ answer

  -- a refusal changes nothing
  pub record Refused (s : MessageStage C B) (piece out : List ℕ) (fault : RecordFault) (t : MessageStage C B) (filled : List ℕ) : Type 0 where
    pub why : Refusal s.count piece out (record_number fault)
    pub same : t ≡ s
    pub untouched : filled ≡ out

  abbrev pub Sealing : (s : MessageStage C B) (piece out : List ℕ) → Result ℕ RecordFault → (t : MessageStage C B) (filled : List ℕ) → Type 0
  Sealing s piece out (Ok answer) t filled = Sealed s piece out answer t filled
  Sealing s piece out (Err fault) t filled = Refused s piece out fault t filled

  -- the close sums the three blocks
  pub record Closes (s : MessageStage C B) (t : TagStage C B) : Type 0 where
    pub same : t.key ≡ s.key
    pub sum : t.block ≡ xored form (xored form s.nonce s.header) (finished form (F s.key.cipher) s.mac)

  -- an accepted tag call fills the whole buffer
  pub record Tagged (t : TagStage C B) (out : List ℕ) (answer : ℕ) (filled : List ℕ) : Type 0 where
    pub fits : is_tag_len_of form.size (length out) ≡ true
    pub counted : answer ≡ length out
    pub put : filled ≡ take (length out) (bytes_of form t.block)

  -- a refusal is 5, comes at every other length, and changes nothing
  pub record Untagged (out : List ℕ) (fault : RecordFault) (filled : List ℕ) : Type 0 where
    pub number : record_number fault ≡ 5
    pub outside : is_tag_len_of form.size (length out) ≡ false
    pub untouched : filled ≡ out

  abbrev pub Tagging : TagStage C B → (out : List ℕ) → Result ℕ RecordFault → (filled : List ℕ) → Type 0
  Tagging t out (Ok answer) filled = Tagged t out answer filled
  Tagging t out (Err fault) filled = Untagged out fault filled
