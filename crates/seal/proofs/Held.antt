-- What a stage holds after every run that leads to it, and the rule: one induction over the calls, by the laws of the
-- streams.
use Rattle.std.proofs.Common.{◌≡◌, ℕ, ◌≤◌, List, [], length, take, Ok, Err, Result, sym, refl, ap, ◌∙◌, ap₂, subst, arith}
use Rattle.std.proofs.lemmas.List.{length-append, length-take-le, take_at}
use Rattle.std.proofs.lemmas.List.Elements.{All-nil, All-cons, All-same}
use Rattle.std.proofs.lemmas.Bool.Decides.{nat_tests}
use Rattle.wire.specs.Limits.{is_tag_len_of}
use Rattle.wire.specs.declared.fault.RecordFault.{RecordFault}
use Rattle.block.specs.Form.{Form}
use Rattle.block.specs.Lawful.{Lawful}
use Rattle.block.specs.Blocks.{end_block, bytes_of}
use Rattle.block.specs.ByBytes.{IsString}
use Rattle.block.proofs.Bytes.{length-bytes}
use Rattle.mode.specs.Strings.{nonce_block, header_block, ciphertext_block, tag_block_of, ciphertext as ciphertext_of, tag as tag_of}
use Rattle.mode.proofs.StringParts.{IsString-append}
use Rattle.stream.specs.Chaining.{holding, fed}
use Rattle.stream.specs.Counting.{starting_at, enciphered, advanced}
use Rattle.stream.specs.declared.keystream.Keystream.{Keystream}
use Rattle.stream.proofs.Chained.{chains}
use Rattle.stream.proofs.Counting.{counts, length-enciphered}
use Rattle.key.specs.Headers.{ended}
use Rattle.key.specs.Runs.{Keys, served}
use Rattle.key.specs.declared.key.Key.{Key}
use Rattle.key.proofs.Joining.{header_of, none_yet, header_block_lem, after_join}
use Rattle.key.proofs.Kept.{kept}
use Rattle.seal.specs.Steps.{Joining, NoMessage, Sealing, Tagging}
use Rattle.seal.specs.Transcripts.{Origin, Transcript, unsealed, with_header, with_message, with_tag}
use Rattle.seal.specs.Runs.{AtHeader, begun, pieced, AtMessage, begun_prepared, left, sealed, AtTag, closed, tagged}
use Rattle.seal.specs.Runs.{Ended, at_header, at_message, at_tag, GivenBack, IsTag, Faithful, HeaderAnswer, MessageAnswer}
use Rattle.seal.specs.declared.header.HeaderStage.{HeaderStage}
use Rattle.seal.specs.declared.message.MessageStage.{MessageStage}
use Rattle.seal.specs.declared.tag.TagStage.{TagStage}

module _ {C B : Type 0} (form : Form B) (lawful : Lawful form) (F : C → B → B) (origin : Origin C B) where
  -- F, of the cipher that the record was begun on
  abbrev G : B → B
  G = F origin.cipher

  -- a stage's key, after any run: the one that the record took in
  pub record OnKey (own : Key C B) : Type 0 where
    pub run : Keys form F origin.cipher origin.last origin.key
    pub same : own ≡ origin.key

  of : {own : Key C B} → OnKey own → own.cipher ≡ origin.cipher
  of k = ap (λ x. x.cipher) k.same ∙ (kept form F _ k.run).same

  -- a step that leaves the key as it is
  same_key : {own after : Key C B} → OnKey own → after ≡ own → OnKey after
  same_key k same = record { run = k.run; same = same ∙ k.same }

  -- ## the header stage
  pub record HeaderHeld (so_far : Transcript) (s : HeaderStage C B) : Type 0 where
    pub on : OnKey s.key
    pub block : s.nonce ≡ nonce_block form G so_far.nonce
    pub held : s.header ≡ header_of form G so_far.header
    pub nothing_out : so_far ≡ unsealed so_far.nonce so_far.header

  pub header_held : {so_far : Transcript} {s : HeaderStage C B} → AtHeader form F origin so_far s → HeaderHeld so_far s
  header_held (begun keys n b) =
      record {
        on = record { run = keys; same = b.taken };
        block = b.block ∙ ap (λ c. nonce_block form (F c) n) (kept form F _ keys).same;
        held = b.none ∙ none_yet form G;
        nothing_out = refl;
      }
  header_held {s = t} (pieced {so_far = so_far} {s = s} run piece r p) =
      let h = header_held run in
      record {
        on = same_key h.on p.same;
        block = p.block ∙ h.block;
        held = after_join form G lawful so_far.header piece r t.header (rw (of h.on) at (rw h.held at p.header));
        nothing_out = ap (λ x. with_header x piece r) h.nothing_out;
      }

  -- ## the message stage
  abbrev start : List ℕ → Keystream B
  start nonce = starting_at form (nonce_block form G nonce)

  pub record MessageHeld (so_far : Transcript) (s : MessageStage C B) : Type 0 where
    pub on : OnKey s.key
    pub nonce_block : s.nonce ≡ nonce_block form G so_far.nonce
    pub header_block : s.header ≡ header_block form G so_far.header
    pub counter : s.keystream ≡ advanced form G (start so_far.nonce) so_far.message
    pub chain : s.mac ≡ fed form G (holding form (end_block form 2)) so_far.ciphertext
    pub count : s.count ≡ length so_far.message
    pub string : IsString so_far.message
    pub text : so_far.ciphertext ≡ enciphered form G (start so_far.nonce) so_far.message
    pub untagged : so_far.tags ≡ []

  -- both ways into the stage
  no_message : (nonce header : List ℕ) {N H : B} {own : Key C B} {s : MessageStage C B}
      → OnKey own
      → N ≡ nonce_block form G nonce
      → H ≡ header_block form G header
      → NoMessage form F own N H s
      → MessageHeld (unsealed nonce header) s
  unfolding fed advanced enciphered
  no_message nonce header on n h p =
      record {
        on = same_key on p.taken;
        nonce_block = p.nonce_block ∙ n;
        header_block = p.header_block ∙ h;
        counter = p.counter ∙ ap (starting_at form) n;
        chain = p.chain;
        count = p.count;
        string = λ i. omega arith;
        text = refl;
        untagged = refl;
      }

  after_piece : (so_far : Transcript) (s t : MessageStage C B) (piece : List ℕ)
      → IsString piece
      → (out filled : List ℕ) (r : Result ℕ RecordFault)
      → Sealing form F s piece out r t filled
      → MessageHeld so_far s
      → MessageHeld (with_message so_far piece filled r) t
  after_piece so_far s t piece string out filled (Ok n) p h =
      let M = so_far.message in
      let S = start so_far.nonce in
      let c = of h.on in
      let sealed : enciphered form (F s.key.cipher) s.keystream piece ≡ enciphered form G (advanced form G S M) piece =
      ap₂ (λ c k. enciphered form (F c) k piece) c h.counter in
      let put : take (length piece) filled ≡ enciphered form G (advanced form G S M) piece =
      ap (take (length piece)) p.put
      ∙ take_at _ _ (length piece) (length-enciphered form lawful (F s.key.cipher) s.keystream piece)
      ∙ sealed in
      record {
        on = same_key h.on p.same;
        nonce_block = p.nonce_block ∙ h.nonce_block;
        header_block = p.header_block ∙ h.header_block;
        counter = cc ((counts form lawful G).moved S M piece);
        chain = cc ((chains form lawful G).joined (holding form (end_block form 2)) so_far.ciphertext (take (length piece) filled));
        count = omega (arith, p.count, p.counted, h.count, length-append M piece);
        string = IsString-append M piece h.string string;
        text = cc ((counts form lawful G).joined S M piece);
        untagged = h.untagged;
      }
  after_piece so_far s t piece string out filled (Err e) p h = rw p.same h

  pub message_held : {so_far : Transcript} {s : MessageStage C B} → AtMessage form F origin so_far s → MessageHeld so_far s
  message_held (begun_prepared keys n p) =
      let k = kept form F _ keys in
      no_message n origin.last
      (record { run = keys; same = refl })
      (ap (λ c. nonce_block form (F c) n) k.same)
      k.block
      p
  message_held {s = t} (left {so_far = so_far} run p) =
      let h = header_held run in
      subst (λ x. MessageHeld x t) (sym h.nothing_out)
      (no_message so_far.nonce so_far.header
      h.on
      h.block
      (ap₂ (λ c x. ended form (F c) x) (of h.on) h.held ∙ header_block_lem form G lawful so_far.header)
      p)
  message_held {s = t} (sealed {so_far = so_far} {s = s} run piece string out filled r p) =
      after_piece so_far s t piece string out filled r p (message_held run)

  -- ## the tag stage
  pub record TagHeld (so_far : Transcript) (t : TagStage C B) : Type 0 where
    pub on : OnKey t.key
    pub sum : t.block ≡ tag_block_of form G so_far.nonce so_far.header so_far.ciphertext
    pub faithful : Faithful form F origin.cipher so_far

  -- the rule, before any tag
  pub faithful_message : {so_far : Transcript} {s : MessageStage C B}
      → MessageHeld so_far s
      → Faithful form F origin.cipher so_far
  unfolding ciphertext_of
  faithful_message {so_far = so_far} h =
      record {
        text = h.text ∙ (counts form lawful G).whole (nonce_block form G so_far.nonce) so_far.message h.string;
        tagged = All-same (IsTag form F origin.cipher so_far) _ _ h.untagged (All-nil _);
      }

  after_tag : (so_far : Transcript) (t : TagStage C B) (out filled : List ℕ) (r : Result ℕ RecordFault)
      → Tagging form F t out r filled
      → TagHeld so_far t
      → TagHeld (with_tag so_far filled r) t
  unfolding tag_of
  after_tag so_far t out filled (Ok n) p h =
      let short : length out ≤ form.size = grind (arith, nat_tests, p.fits) in
      let long : length filled ≡ length out =
      ap length p.put ∙ length-take-le (length out) _ (omega (arith, length-bytes form lawful t.block)) in
      let tag : IsTag form F origin.cipher so_far filled = (
        ap (is_tag_len_of form.size) long ∙ p.fits,
        p.put ∙ ap₂ (λ u b. take u (bytes_of form b)) (sym long) h.sum,
      ) in
      record {
        on = h.on;
        sum = h.sum;
        faithful = record {
          text = h.faithful.text;
          tagged = All-cons (IsTag form F origin.cipher so_far) filled so_far.tags tag h.faithful.tagged;
        };
      }
  after_tag so_far t out filled (Err e) p h = h

  pub tag_held : {so_far : Transcript} {t : TagStage C B} → AtTag form F origin so_far t → TagHeld so_far t
  unfolding tag_block_of ciphertext_block
  tag_held (closed {so_far = so_far} {s = s} run p) =
      let h = message_held run in
      record {
        on = same_key h.on p.same;
        sum = cc (of h.on, (chains form lawful G).tweaked 2 so_far.ciphertext);
        faithful = faithful_message h;
      }
  tag_held {t = t} (tagged {so_far = so_far} run out filled r p) = after_tag so_far t out filled r p (tag_held run)

  -- ## what is given back and what is answered
  on_key : {own : Key C B} → Ended form F origin own → OnKey own
  on_key (at_header run) = (header_held run).on
  on_key (at_message run) = (message_held run).on
  on_key (at_tag run) = (tag_held run).on

  pub given_back : {own : Key C B} → Ended form F origin own → GivenBack form F origin own
  given_back e = let k = on_key e in record { ended = e; same = k.same; run = served k.run k.same }

  pub header_answer : (so_far : Transcript) (s t : HeaderStage C B) (piece : List ℕ) (r : Result ℕ RecordFault)
      → HeaderHeld so_far s
      → Joining form F s piece r t
      → HeaderAnswer so_far.header piece r
  header_answer so_far s t piece (Ok n) h p =
      (omega (arith, ap (λ x. x.count) h.held, p.header.counted, length-append so_far.header piece), p.header.within)
  header_answer so_far s t piece (Err e) h p =
      (p.header.number, omega (arith, ap (λ x. x.count) h.held, p.header.past, length-append so_far.header piece))

  pub message_answer : (so_far : Transcript) (s t : MessageStage C B) (piece out filled : List ℕ) (r : Result ℕ RecordFault)
      → MessageHeld so_far s
      → Sealing form F s piece out r t filled
      → MessageAnswer so_far.message piece out r
  message_answer so_far s t piece out filled (Ok n) h p =
      (omega (arith, h.count, p.counted, length-append so_far.message piece), p.within, p.room)
  message_answer so_far s t piece out filled (Err e) h p = rw h.count at p.why
