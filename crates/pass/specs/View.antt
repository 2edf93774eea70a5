-- Which number and values belong to what the code hands out. Assumes nothing.
use Rattle.std.specs.Prelude.{[], Some, None, Ok, Err, Option, Result}
use Rattle.wire.specs.Faults.{pass_number}
use Rattle.wire.specs.declared.fault.PassFault.{PassFault}
use Rattle.wire.specs.declared.kind.Kind.TheVariants as kind
use Rattle.pass.specs.declared.frame.Content.{Content}
use Rattle.pass.specs.declared.frame.Content.TheVariants.{Idle, Sealed}
use Rattle.pass.specs.declared.frame.Frame.{Frame}
use Rattle.pass.specs.Layout.{Parts}
use Rattle.pass.specs.Walking.{Handed, Told, none, handed, refused}

-- what a frame carries: its kind and its parts as bytes
abbrev pub parts_of : Content → Parts
parts_of (Idle fill) = record { kind = kind.Idle; nonce = []; header = []; body = fill.now; tag = [] }
parts_of (Sealed suite nonce header body tag) =
    record {
      kind = kind.Sealed suite;
      nonce = nonce.now;
      header = header.now;
      body = body.now;
      tag = tag.now;
    }

-- a frame as it is handed out
abbrev pub handed_of : Frame → Handed
handed_of f = record { parts = parts_of f.content; number = f.number; place = f.place; len = f.len }

-- what the walk answers
abbrev pub told : Result (Option Frame) PassFault → Told
told (Ok None) = none
told (Ok (Some f)) = handed (handed_of f)
told (Err e) = refused (pass_number e) e.fault.place e.frame
