-- Room is nothing that the rows rest on.
use Rattle.std.proofs.Common.{◌≡◌, List, map, subst, sym}
use Rattle.gh_invariant.specs.Events.{EventsFit}
use Rattle.gh_invariant.specs.Valid.{IsValid}
use Rattle.gh_model.specs.Boot.{boot_state}
use Rattle.gh_model.specs.History.{replay}
use Rattle.gh_model.specs.Small.{IsKept}
use Rattle.gh_model.specs.declared.boot_line.BootLine.{BootLine}
use Rattle.gh_parts.specs.Entries.{Entries}
use Rattle.gh_parts.specs.Past.{HasFewSeats, IsPresent, event_of, past_of}
use Rattle.gh_parts.specs.Stands.{Stands}
use Rattle.gh_parts.specs.declared.log.Logged.{Logged}
use Rattle.gh_parts.specs.declared.parts.Parts.{Parts}
use Rattle.gh_parts.proofs.ledger.Ledger.reserve.Goals as goal

roomier : (boot : List BootLine) (log now : Entries) (parts : Parts) → now.logged ≡ log.logged
    → IsPresent (past_of boot log) parts → IsPresent (past_of boot now) parts
roomier boot log now parts same present = record {
  boot = present.boot;
  fit = subst (λ (all : List Logged). EventsFit (boot_state boot) (map event_of all)) (sym same) present.fit;
  stands = subst (λ (all : List Logged). Stands parts (replay (boot_state boot) (map event_of all))) (sym same) present.stands;
  valid = subst (λ (all : List Logged). IsValid (replay (boot_state boot) (map event_of all))) (sym same) present.valid;
  kept = subst (λ (all : List Logged). IsKept (replay (boot_state boot) (map event_of all))) (sym same) present.kept;
  seats = subst (λ (all : List Logged). HasFewSeats (replay (boot_state boot) (map event_of all))) (sym same) present.seats;
}

pub invariant_of-self : goal.invariant_of-self
invariant_of-self c =
    roomier c.self.inside.present.boot c.self.inside.present.log c.reserve.new.self c.self.inside.present.parts
    c.reserve.ensures.logged c.self.invariant
