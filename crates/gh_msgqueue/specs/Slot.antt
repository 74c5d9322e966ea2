-- What the queue sees of a slot of its ring.
use Rattle.std.specs.Prelude.{ℕ, List}

-- the message in the slot, and the most bytes that a message there can have
pub record Content : Type 0 where
  pub message : List ℕ
  pub room : ℕ

-- a slot of so much room with this message in it
abbrev pub content : List ℕ → ℕ → Content
content message room = record { message = message; room = room }
