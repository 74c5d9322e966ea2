-- The bytes of a message, of which there may be none.
use Rattle.std.specs.Prelude.{ℕ, List, [], Option, Some, None, Vec}
use Rattle.std.specs.declared.alloc.Global.{Global}

-- the bytes that there are
abbrev pub bytes_or_none : Option (Vec ℕ Global) → List ℕ
bytes_or_none None = []
bytes_or_none (Some bytes) = bytes.items
