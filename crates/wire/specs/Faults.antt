-- Which number and values belong to each fault. Assumes nothing.
use Rattle.std.specs.Prelude.{ℕ, Ok, Err, Result}
use Rattle.wire.specs.declared.fault.RecordFault.{RecordFault}
use Rattle.wire.specs.declared.fault.RecordFault.TheVariants.{HeaderTooLong, BufferTooShort, MessageTooLong, KeyLength, TagLength, TagWrong}
use Rattle.wire.specs.declared.fault.Cause.{Cause}
use Rattle.wire.specs.declared.fault.Cause.TheVariants.{Record, Short, NoMark, UnknownKind, BadLength, Overrun, OtherCipher, NonceTooLong}
use Rattle.wire.specs.declared.fault.PassFault.{PassFault}
use Rattle.wire.specs.declared.fault.ListFault.{ListFault}
use Rattle.wire.specs.declared.fault.ListFault.TheVariants.{Pass, InputTooLong}

abbrev pub record_number : RecordFault → ℕ
record_number HeaderTooLong = 1
record_number BufferTooShort = 2
record_number MessageTooLong = 3
record_number KeyLength = 4
record_number TagLength = 5
record_number TagWrong = 6

abbrev pub cause_number : Cause → ℕ
cause_number (Record fault) = record_number fault
cause_number Short = 7
cause_number NoMark = 8
cause_number UnknownKind = 9
cause_number BadLength = 10
cause_number Overrun = 11
cause_number OtherCipher = 12
cause_number NonceTooLong = 13

abbrev pub pass_number : PassFault → ℕ
pass_number e = cause_number e.fault.cause

abbrev pub list_number : ListFault → ℕ
list_number (Pass fault) = pass_number fault
list_number InputTooLong = 14

-- an error beside what the next fault up adds to it
abbrev pub placed : {T E : Type 0} → Result T E → ℕ → Result T (E × ℕ)
placed (Ok x) n = Ok x
placed (Err e) n = Err (e, n)
