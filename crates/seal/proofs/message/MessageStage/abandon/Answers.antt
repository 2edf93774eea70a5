-- The key that is given back is the one that was taken in.
use Rattle.seal.specs.Runs.{at_message}
use Rattle.seal.proofs.Held.{given_back}
use Rattle.seal.proofs.message.MessageStage.abandon.Goals as goal

pub returns-clause-run : goal.returns-clause-run
returns-clause-run g c origin so_far run =
    given_back g.C.Block.Block.form g.met.C.Block.Block.lawful g.C.Cipher.f origin (at_message run)
