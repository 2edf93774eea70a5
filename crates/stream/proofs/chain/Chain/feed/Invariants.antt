-- What the loop keeps: the chain was fed the bytes so far.
use Rattle.std.proofs.Common.{◌≡◌, take}
use Rattle.stream.specs.Chaining.{fed}
use Rattle.stream.proofs.chain.Chain.feed.Given as goal

abbrev pub invariant-loop-byte : goal.invariant-loop-byte
invariant-loop-byte g l = l.self ≡ fed g.B.Block.form (g.C.Cipher.f l.cipher) l.initial.self (take l.byte-index l.piece)
