-- What the loop keeps: the bytes done so far, and those left as they are to be enciphered, make the whole.
use Rattle.std.proofs.Common.{◌≡◌, ◌++◌, take, drop}
use Rattle.stream.specs.Counting.{enciphered, advanced}
use Rattle.stream.proofs.keystream.Keystream.apply.Given as goal

abbrev pub invariant-loop-byte : goal.invariant-loop-byte
invariant-loop-byte g l =
    let form = g.B.Block.form in
    let F = g.C.Cipher.f l.cipher in
    let left = drop l.byte-index l.text in
    record {
      text : take l.byte-index l.text ++ enciphered form F l.self left ≡ enciphered form F l.initial.self l.initial.text;
      after : advanced form F l.self left ≡ advanced form F l.initial.self l.initial.text;
    }
