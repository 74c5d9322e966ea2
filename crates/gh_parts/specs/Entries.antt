-- The log as callers see it: its entries in order, and how many more it has room for.
use Rattle.std.specs.Prelude.{◌-◌, ◌++◌, ◌∷◌, ℕ, List, []}
use Rattle.gh_base.specs.declared.call.Call.TheVariants.{Identify}
use Rattle.gh_model.specs.declared.entry.Entry.{Entry}
use Rattle.gh_parts.specs.declared.log.Logged.{Logged}

pub record Entries : Type 0 where
  pub logged : List Logged
  pub room : ℕ

abbrev pub no_entries : Entries
no_entries = record { logged = []; room = 0 }

-- one entry more
abbrev pub with_logged : Logged → Entries → Entries
with_logged logged entries = record {
  logged = entries.logged ++ logged ∷ [];
  room = entries.room - 1;
}

-- an entry that is no act and no part of a revoke
abbrev pub other_logged : Entry → Logged
other_logged entry = record { entry = entry; call = Identify; bytes = []; words = [] }
