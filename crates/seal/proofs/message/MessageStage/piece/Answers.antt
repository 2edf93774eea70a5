-- A message piece carries the run on, accepted or refused, and what it put out is faithful after every run.
use Rattle.std.proofs.Common.{◌≡◌, ℕ, List, Ok, Err, Result, rules}
use mir.Facts.{Fits-lt-pow}
use Rattle.wire.specs.declared.fault.RecordFault.{RecordFault}
use Rattle.wire.specs.declared.fault.RecordFault.TheVariants.{BufferTooShort, MessageTooLong}
use Rattle.block.specs.Form.{Form}
use Rattle.block.specs.Lawful.{Lawful}
use Rattle.block.specs.ByBytes.{IsString}
use Rattle.seal.specs.Steps.{short, long, Sealing}
use Rattle.seal.specs.Transcripts.{Origin, Transcript, with_message}
use Rattle.seal.specs.Runs.{AtMessage, sealed, MessageAnswer, Faithful}
use Rattle.seal.specs.declared.message.MessageStage.{MessageStage}
use Rattle.seal.proofs.Held.{message_held, message_answer, faithful_message}
use Rattle.seal.proofs.message.MessageStage.piece.Goals as goal

-- what each way out of the call owes follows from its step
module _ {C B : Type 0} (form : Form B) (lawful : Lawful form) (F : C → B → B) (s t : MessageStage C B) (piece : List ℕ)
    (string : IsString piece) (out filled : List ℕ) (r : Result ℕ RecordFault) (step : Sealing form F s piece out r t filled) where
  owed : record {
    step : Sealing form F s piece out r t filled;
    run : (origin : Origin C B) (so_far : Transcript)
        → AtMessage form F origin so_far s
        → AtMessage form F origin (with_message so_far piece filled r) t;
    answer : (origin : Origin C B) (so_far : Transcript)
        → AtMessage form F origin so_far s
        → MessageAnswer so_far.message piece out r;
    rule : (origin : Origin C B) (so_far : Transcript)
        → AtMessage form F origin so_far s
        → Faithful form F origin.cipher (with_message so_far piece filled r);
  }
  owed =
      let run : (origin : Origin C B) (so_far : Transcript)
      → AtMessage form F origin so_far s
      → AtMessage form F origin (with_message so_far piece filled r) t =
      λ origin so_far before. sealed before piece string out filled r step in
      record {
        step = step;
        run = run;
        answer = λ origin so_far before.
            message_answer form lawful F origin so_far s t piece out filled r (message_held form lawful F origin before) step;
        rule = λ origin so_far before.
            faithful_message form lawful F origin (message_held form lawful F origin (run origin so_far before));
      }

pub returns : goal.returns
returns g c =
    owed g.C.Block.Block.form g.met.C.Block.Block.lawful g.C.Cipher.f _ _ c.args.piece.now
    (λ i. Fits-lt-pow (c.type_inv.piece i))
    c.args.out.now
    _
    (Ok c.in_ok-count.count)
    (search rules)

pub returns-then-out-piece : goal.returns-then-out-piece
returns-then-out-piece g c =
    owed g.C.Block.Block.form g.met.C.Block.Block.lawful g.C.Cipher.f _ _ c.args.piece.now
    (λ i. Fits-lt-pow (c.type_inv.piece i))
    c.args.out.now
    _
    (Err BufferTooShort)
    (search (rules, short))

pub returns-in_err-count : goal.returns-in_err-count
returns-in_err-count g c =
    let same : c.from_residual.result ≡ Err MessageTooLong = search rules in
    owed g.C.Block.Block.form g.met.C.Block.Block.lawful g.C.Cipher.f _ _ c.args.piece.now
    (λ i. Fits-lt-pow (c.type_inv.piece i))
    c.args.out.now
    _
    c.from_residual.result
    (rw same (search (rules, long)))
