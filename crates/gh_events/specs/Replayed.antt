-- What holds of the present state and the indices beside sound references: where objects live, and
-- which serials they have.
use Rattle.std.specs.Prelude.{◌≡◌, ◌<◌, ⊤, ℕ, true, Some, None}
use Rattle.std.specs.List.{last_or}
use Rattle.gh_base.specs.declared.limits.TheConstants.{OBJECT_INDICES}
use Rattle.gh_invariant.specs.Lives.{lives}
use Rattle.gh_model.specs.Act.{granted}
use Rattle.gh_model.specs.Marks.{Seen}
use Rattle.gh_model.specs.declared.entry.Entry.{Entry}
use Rattle.gh_model.specs.declared.entry.Entry.TheVariants.{Acted, Part, Retired, Reclaimed}
use Rattle.gh_events.specs.References.{HasGrant}
use Rattle.gh_events.specs.Config.{Config, Current, present}

-- each object that lives has a serial that was given, and an index that there is
pub record HasState (conf : Config) : Type 0 where
  pub given : (serial : ℕ) → lives (present conf).objects serial ≡ true
      → serial < (present conf).next_serial
  pub within : (serial : ℕ) → lives (present conf).objects serial ≡ true
      → conf.index serial < OBJECT_INDICES

-- no call in its section was granted this object by its last look, beside the objects of its pins
abbrev pub IsUnlooked : Config → ℕ → Type 0
IsUnlooked conf serial = (cpu : ℕ) (call : Current) (seen : Seen) → HasGrant (conf.cpu cpu) call
    → last_or None call.seen ≡ Some seen → (granted seen.word).0 ≡ serial → ⊥

-- what the entry reclaims is no such object. The grace period has it so: the section is still open
abbrev pub SparesLooks : Config → Entry → Type 0
SparesLooks conf (Acted cpu number) = ⊤
SparesLooks conf (Part cpu number space slot) = ⊤
SparesLooks conf (Retired serial seen) = ⊤
SparesLooks conf (Reclaimed serial seen) = IsUnlooked conf serial.0
