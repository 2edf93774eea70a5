-- What a frame is: its parts, the trailer that points back over them, the limits. Assumes nothing.
use Rattle.std.specs.Prelude.{◌≡◌, ℕ, ◌+◌, ◌-◌, ◌/◌, ◌%◌, ◌<◌, ◌≤◌, Bool, true, false, ◌&&◌, List, [], ◌∷◌, ◌++◌, length, ◌==◌, ◌≢◌, nat_le, slice_index}
use Rattle.wire.specs.Kinds.{kind_number, block_len}
use Rattle.wire.specs.Limits.{nonce_max, header_max, message_max, is_tag_len_of}
use Rattle.wire.specs.declared.kind.Kind.{Kind}
use Rattle.wire.specs.declared.kind.Kind.TheVariants.{Idle, Sealed}
use Rattle.pass.specs.declared.trailer.Trailer.{Trailer}

-- the k-th byte from the end
abbrev pub back : List ℕ → ℕ → ℕ
back bs k = slice_index bs (length bs - k)

-- the parts of a frame, in their order; an idle frame has fill for a body and nothing else
pub record Parts : Type 0 where
  pub kind : Kind
  pub nonce : List ℕ
  pub header : List ℕ
  pub body : List ℕ
  pub tag : List ℕ

-- the trailer's eight bytes: two-byte lengths have the high byte first, and A7 is the mark
abbrev pub trailer_bytes : Trailer → List ℕ
trailer_bytes t =
    t.nonce ∷ t.tag ∷ t.header / 256 ∷ t.header % 256 ∷ t.body / 256 ∷ t.body % 256 ∷ kind_number t.kind ∷ 0xA7 ∷ []

abbrev pub span : Trailer → ℕ
span t = t.nonce + t.header + t.body + t.tag

abbrev pub lengths : Parts → Trailer
lengths p =
    record {
      kind = p.kind;
      nonce = length p.nonce;
      tag = length p.tag;
      header = length p.header;
      body = length p.body;
    }

abbrev pub encoded : Parts → List ℕ
encoded p = p.nonce ++ (p.header ++ (p.body ++ (p.tag ++ trailer_bytes (lengths p))))

-- the lengths that a kind takes: an idle frame has 00 in the first four bytes of its trailer, and a sealed one a tag of
-- 4 bytes to its own n
abbrev pub takes : Kind → Trailer → Bool
takes Idle t = t.nonce == 0 && (t.tag == 0 && t.header == 0)
takes (Sealed s) t = is_tag_len_of (block_len s) t.tag

abbrev pub within_limits : Trailer → Bool
within_limits t = nat_le t.header header_max && (nat_le t.body message_max && takes t.kind t)

pub record Lawful (p : Parts) : Type 0 where
  pub nonce : length p.nonce ≤ nonce_max
  pub limits : within_limits (lengths p) ≡ true

-- some bytes are the rest, and then a lawful frame of these parts
pub record Behind (bytes rest : List ℕ) (p : Parts) : Type 0 where
  pub joined : bytes ≡ rest ++ encoded p
  pub lawful : Lawful p

-- Why no lawful frame ends some bytes: the refusal's number, by the first check that applies
pub data Refusal (bytes : List ℕ) : ℕ → Type 0 where
  short : length bytes < 8 → Refusal bytes 7
  unmarked : 8 ≤ length bytes → (back bytes 1 ≢ 0xA7) → Refusal bytes 8
  unknown : 8 ≤ length bytes → back bytes 1 ≡ 0xA7 → ((k : Kind) → kind_number k ≢ back bytes 2) → Refusal bytes 9
  bad_length : (before : List ℕ) (t : Trailer) → bytes ≡ before ++ trailer_bytes t → within_limits t ≡ false → Refusal bytes 10
  overrun : (before : List ℕ) (t : Trailer)
      → bytes ≡ before ++ trailer_bytes t
      → within_limits t ≡ true
      → length before < span t
      → Refusal bytes 11

-- a file is these frames end to end, the last of them first
abbrev pub EndToEnd : List ℕ → List Parts → Type 0
EndToEnd file [] = file ≡ []
EndToEnd file (p ∷ ps) = (rest : List ℕ) × Behind file rest p × EndToEnd rest ps
