-- Numbers in bytes at offsets, the low byte first.
use Rattle.std.specs.Prelude.{ℕ, List, drop, slice_index}
use Rattle.std.specs.Int.{w16, w32, w64, from_le_bytes}

-- the byte at an offset
abbrev pub u8_at : ℕ → List ℕ → ℕ
u8_at offset bytes = slice_index bytes offset

-- the number of two bytes from an offset on
unfoldable pub u16_at : ℕ → List ℕ → ℕ
u16_at offset bytes = from_le_bytes w16 (drop offset bytes)

-- the number of four bytes from an offset on
unfoldable pub u32_at : ℕ → List ℕ → ℕ
u32_at offset bytes = from_le_bytes w32 (drop offset bytes)

-- the number of eight bytes from an offset on
unfoldable pub u64_at : ℕ → List ℕ → ℕ
u64_at offset bytes = from_le_bytes w64 (drop offset bytes)
