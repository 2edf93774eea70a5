-- The limits on the parts of a frame, in bytes. Assumes nothing.
use Rattle.std.specs.Prelude.{ℕ, Bool, ◌&&◌, nat_le}

abbrev pub nonce_max : ℕ
nonce_max = 255

abbrev pub header_max : ℕ
header_max = 2048

abbrev pub message_max : ℕ
message_max = 4096

abbrev pub tag_min : ℕ
tag_min = 4

-- a tag of u bytes, where a block has n
abbrev pub is_tag_len_of : ℕ → ℕ → Bool
is_tag_len_of n u = nat_le tag_min u && nat_le u n
