-- Every list of calls on one sealing, and the rule that holds after each. Assumes nothing.
use Rattle.std.specs.Prelude.{◌≡◌, ℕ, ◌<◌, ◌≤◌, true, List, [], ◌++◌, length, Ok, Err, Result}
use Rattle.std.specs.List.{All}
use Rattle.wire.specs.Faults.{record_number}
use Rattle.wire.specs.Limits.{header_max, message_max, is_tag_len_of}
use Rattle.wire.specs.declared.fault.RecordFault.{RecordFault}
use Rattle.block.specs.Form.{Form}
use Rattle.block.specs.ByBytes.{IsString}
use Rattle.mode.specs.Strings.{ciphertext as ciphertext_of, tag as tag_of}
use Rattle.key.specs.Runs.{Keys}
use Rattle.key.specs.declared.key.Key.{Key}
use Rattle.seal.specs.Steps.{Begins, Joining, Leaves, BeginsPrepared, Refusal, Sealing, Closes, Tagging}
use Rattle.seal.specs.Transcripts.{Origin, Transcript, unsealed, with_header, with_message, with_tag}
use Rattle.seal.specs.declared.header.HeaderStage.{HeaderStage}
use Rattle.seal.specs.declared.message.MessageStage.{MessageStage}
use Rattle.seal.specs.declared.tag.TagStage.{TagStage}

-- what a header piece answers, by the header so far: the length of the two joined, or a refusal where that is too long
abbrev pub HeaderAnswer : (header piece : List ℕ) → Result ℕ RecordFault → Type 0
HeaderAnswer header piece (Ok answer) = (answer ≡ length (header ++ piece)) × (answer ≤ header_max)
HeaderAnswer header piece (Err fault) = (record_number fault ≡ 1) × (header_max < length (header ++ piece))

-- what a message piece answers, by the message so far
abbrev pub MessageAnswer : (message piece out : List ℕ) → Result ℕ RecordFault → Type 0
MessageAnswer message piece out (Ok answer) =
    (answer ≡ length (message ++ piece)) × (answer ≤ message_max) × (length piece ≤ length out)
MessageAnswer message piece out (Err fault) = Refusal (length message) piece out (record_number fault)

module _ {C B : Type 0} (form : Form B) (F : C → B → B) where
  -- Calls that follow one another on a sealing, some accepted and some not. What came in and went out is collected; the
  -- steps are the very relations that the contracts cite.
  module _ (origin : Origin C B) where
    pub data AtHeader : Transcript → HeaderStage C B → Type 0 where
      begun : {s : HeaderStage C B}
          → Keys form F origin.cipher origin.last origin.key
          → (nonce : List ℕ)
          → Begins form F origin.key nonce s
          → AtHeader (unsealed nonce []) s
      pieced : {so_far : Transcript} {s t : HeaderStage C B}
          → AtHeader so_far s
          → (piece : List ℕ) (r : Result ℕ RecordFault)
          → Joining form F s piece r t
          → AtHeader (with_header so_far piece r) t

    pub data AtMessage : Transcript → MessageStage C B → Type 0 where
      begun_prepared : {s : MessageStage C B}
          → Keys form F origin.cipher origin.last origin.key
          → (nonce : List ℕ)
          → BeginsPrepared form F origin.key nonce s
          → AtMessage (unsealed nonce origin.last) s
      left : {so_far : Transcript} {s : HeaderStage C B} {t : MessageStage C B}
          → AtHeader so_far s
          → Leaves form F s t
          → AtMessage so_far t
      sealed : {so_far : Transcript} {s t : MessageStage C B}
          → AtMessage so_far s
          → (piece : List ℕ)
          → IsString piece
          → (out filled : List ℕ) (r : Result ℕ RecordFault)
          → Sealing form F s piece out r t filled
          → AtMessage (with_message so_far piece filled r) t

    pub data AtTag : Transcript → TagStage C B → Type 0 where
      closed : {so_far : Transcript} {s : MessageStage C B} {t : TagStage C B}
          → AtMessage so_far s
          → Closes form F s t
          → AtTag so_far t
      tagged : {so_far : Transcript} {t : TagStage C B}
          → AtTag so_far t
          → (out filled : List ℕ) (r : Result ℕ RecordFault)
          → Tagging form F t out r filled
          → AtTag (with_tag so_far filled r) t

    -- the key that is given back at the end, or where a stage is abandoned
    pub data Ended : Key C B → Type 0 where
      at_header : {so_far : Transcript} {s : HeaderStage C B} → AtHeader so_far s → Ended s.key
      at_message : {so_far : Transcript} {s : MessageStage C B} → AtMessage so_far s → Ended s.key
      at_tag : {so_far : Transcript} {t : TagStage C B} → AtTag so_far t → Ended t.key

    -- it is an equal key, and its own run goes on
    pub record GivenBack (after : Key C B) : Type 0 where
      pub ended : Ended after
      pub same : after ≡ origin.key
      pub run : Keys form F origin.cipher origin.last after

  module _ (cipher : C) (so_far : Transcript) where
    -- a tag has 4 to n bytes, and is the mode's tag of that length
    abbrev pub IsTag : List ℕ → Type 0
    IsTag tag =
        (is_tag_len_of form.size (length tag) ≡ true)
        × (tag ≡ tag_of form (F cipher) (length tag) so_far.nonce so_far.header so_far.ciphertext)

    -- the rule: what was put out is the mode's ciphertext of what came in, and the tags are the mode's
    pub record Faithful : Type 0 where
      pub text : so_far.ciphertext ≡ ciphertext_of form (F cipher) so_far.nonce so_far.message
      pub tagged : All IsTag so_far.tags
