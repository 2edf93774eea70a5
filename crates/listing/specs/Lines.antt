-- The lines of a listing, without their newlines. Assumes nothing.
use Rattle.std.specs.Prelude.{ℕ, List, ◌++◌, codes, decimal, Ok, Err, Result}
use Rattle.wire.specs.Faults.{list_number}
use Rattle.wire.specs.Kinds.{kind_number}
use Rattle.pass.specs.Walking.{Handed}
use Rattle.pass.specs.View.{handed_of}
use Rattle.listing.specs.declared.line.Line.{Line}
use Rattle.listing.specs.declared.line.Stopped.{Stopped}

-- a frame: number, kind, place and length in decimal, with single spaces
abbrev pub frame_text : (number kind place len : ℕ) → List ℕ
frame_text number kind place len =
    decimal number ++ (codes " " ++ (decimal kind ++ (codes " " ++ (decimal place ++ (codes " " ++ decimal len)))))

-- the line of a frame that is handed out
abbrev pub handed_text : Handed → List ℕ
handed_text f = frame_text f.number (kind_number f.parts.kind) f.place f.len

abbrev pub line_text : Line → List ℕ
line_text l = handed_text (handed_of l.0)

abbrev pub end_text : (count : ℕ) → List ℕ
end_text count = codes "end " ++ decimal count

abbrev pub fault_text : (number left : ℕ) → List ℕ
fault_text number left = codes "fault " ++ (decimal number ++ (codes " " ++ decimal left))

abbrev pub stopped_text : Stopped → List ℕ
stopped_text s = fault_text (list_number s.fault) s.left

-- the last line: the count, or the fault's number and the bytes left
abbrev pub ending_text : Result ℕ Stopped → List ℕ
ending_text (Ok count) = end_text count
ending_text (Err stopped) = stopped_text stopped
