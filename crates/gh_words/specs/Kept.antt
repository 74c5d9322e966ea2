-- The entries that are kept of the history, and the room for more.
use Rattle.std.specs.Prelude.{ℕ, List}
use Rattle.gh_model.specs.declared.entry.Entry.{Entry}

pub record Kept : Type 0 where
  pub entries : List Entry
  pub room : ℕ
