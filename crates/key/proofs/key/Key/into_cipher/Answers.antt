-- After every list of calls the cipher is the one that was taken in.
use Rattle.key.proofs.Kept.{kept}
use Rattle.key.proofs.key.Key.into_cipher.Goals as goal

pub returns-clause-run : goal.returns-clause-run
returns-clause-run g c cipher last run = (kept g.C.Block.Block.form g.C.Cipher.f cipher run).same
