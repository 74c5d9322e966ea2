-- The pieces of a text between the bytes of one number.
use Rattle.std.specs.Prelude.{◌==◌, ℕ, Bool, List, [], Option, Some, None}
use Rattle.std.specs.List.{slice_split}

-- the byte is the one that is wanted
abbrev pub is_byte_of : ℕ → ℕ → Bool
is_byte_of wanted byte = byte == wanted

-- the pieces of a text between the bytes of this number
abbrev pub pieces_at : ℕ → List ℕ → List (List ℕ)
pieces_at byte text = slice_split (is_byte_of byte) text

-- the pieces of what is left of a text, if anything is
abbrev pub pieces_left : ℕ → Option (List ℕ) → List (List ℕ)
pieces_left byte None = []
pieces_left byte (Some text) = pieces_at byte text
