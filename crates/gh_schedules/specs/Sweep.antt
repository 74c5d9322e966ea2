-- The sweep: what the holder does about the objects without references. Each is killed where its
-- word counts nothing, then retired, and reclaimed once every CPU has left that was reading then.
use Rattle.std.specs.Prelude.{◌≡◌, slice_get, ◌==◌, ◌&&◌, ◌||◌, ◌+◌, ◌*◌, not, ℕ, zero, suc, Bool, true, false, List, [], ◌∷◌, ◌++◌, length, Option, Some, None, filter, is_some, map, nat_lt, if◌then◌else◌}
use Rattle.std.specs.List.{range_with_len}
use Rattle.std.specs.Option.{unwrap_or}
use Rattle.gh_base.specs.Counters.{is_odd}
use Rattle.gh_base.specs.declared.ids.Serial.{Serial}
use Rattle.gh_base.specs.declared.limits.TheConstants.{CPUS}
use Rattle.gh_model.specs.Graced.{retirement}
use Rattle.gh_model.specs.History as history
use Rattle.gh_model.specs.History.{is_unretired}
use Rattle.gh_model.specs.References.{is_doomed}
use Rattle.gh_model.specs.Rows.{object_row}
use Rattle.gh_model.specs.declared.entry.Entry.TheVariants.{Retired, Reclaimed}
use Rattle.gh_model.specs.declared.rows.ObjectRow.{ObjectRow}
use Rattle.gh_model.specs.declared.state.State.{State}
use Rattle.gh_schedules.specs.Committing.{committing, cpu_no, index_no}
use Rattle.gh_events.specs.Config.{AtAct, Config, Current, HasTurn, Holder, IsIn, OwesNothing, entries, has_acted, has_part, present, some_killed}
use Rattle.gh_events.specs.Events.{after}
use Rattle.gh_events.specs.Grace.{scan_of}
use Rattle.gh_schedules.specs.Trace.{after_all, and_then, for_each}
use Rattle.gh_events.specs.declared.event.Event.{Event}
use Rattle.gh_events.specs.declared.event.Event.TheVariants.{Kill, Scan}

-- the counters of all CPUs are scanned
abbrev pub all_cpus : List ℕ
all_cpus = range_with_len 0 CPUS

abbrev pub scan : ℕ → ℕ → Event
scan at of = Scan (cpu_no at) (cpu_no of)

unfoldable pub scans : ℕ → Config → List Event
scans at conf = map (scan at) all_cpus

-- the counters that the holder has of the last scans
abbrev pub scanned_of : Option Holder → ℕ → ℕ
scanned_of turn cpu = unwrap_or (scan_of turn cpu) 0

unfoldable pub counters : Config → List ℕ
counters conf = map (scanned_of conf.turn) all_cpus

-- each CPU that was reading has left: its counter was odd, and is greater now
abbrev pub has_left : ℕ → ℕ → Bool
has_left before now = not (is_odd before) || nat_lt before now

abbrev pub have_left : List ℕ → List ℕ → Bool
have_left [] [] = true
have_left [] (now ∷ others) = false
have_left (before ∷ befores) [] = false
have_left (before ∷ befores) (now ∷ others) = has_left before now && have_left befores others

-- the CPUs that were reading at an object's retirement have left; it is retired
abbrev pub is_left : Option (List ℕ) → List ℕ → Bool
is_left None now = false
is_left (Some before) now = have_left before now

-- a retired object is reclaimed where the CPUs have left by these counters
abbrev pub may_reclaim : State → Serial → List ℕ → Bool
may_reclaim s serial now =
    is_doomed s serial.0 && is_left (retirement (object_row s serial.0)) now

unfoldable pub reclaiming : ℕ → Serial → Config → List Event
reclaiming at serial conf =
    if may_reclaim (present conf) serial (counters conf)
    then committing at (Reclaimed serial (counters conf)) conf else []

-- a killed object is retired with counters that are scanned then, and tried once with newer ones
unfoldable pub retired_now : ℕ → Serial → Config → List Event
retired_now at serial conf = committing at (Retired serial (counters conf)) conf

unfoldable pub retiring : ℕ → Serial → Config → List Event
retiring at serial =
    and_then (scans at)
    (and_then (retired_now at serial) (and_then (scans at) (reclaiming at serial)))

-- the object of this serial lives without references, and isn't retired
abbrev pub may_kill : State → Serial → Bool
may_kill s serial = is_doomed s serial.0 && is_unretired (object_row s serial.0)

-- it is killed where its word counts nothing; else the count is kept as seen
abbrev pub kill : ℕ → (ℕ → ℕ) → Serial → Event
kill at index serial = Kill (cpu_no at) (index_no (index serial.0))

abbrev pub retires_dead : ℕ → Serial → Bool → Config → List Event
retires_dead at serial true conf = retiring at serial conf
retires_dead at serial false conf = []

abbrev pub kills : ℕ → Serial → Config → List Event
kills at serial conf =
    kill at conf.index serial
    ∷ retires_dead at serial (conf.count (conf.index serial.0) == 0)
    (after conf (kill at conf.index serial))

unfoldable pub killing : ℕ → Serial → Config → List Event
killing at serial conf = if may_kill (present conf) serial then kills at serial conf else []

-- the objects of a state that are retired, and those that are to be killed, by rising serial: the
-- rows of a state stand so
abbrev pub serial_of : ObjectRow → Serial
serial_of row = row.serial

abbrev pub is_retired_row : ObjectRow → Bool
is_retired_row row = is_some row.retired

abbrev pub is_doomed_row : State → ObjectRow → Bool
is_doomed_row s row = is_doomed s row.serial.0 && not (is_some row.retired)

abbrev pub retired_objects : State → List Serial
retired_objects s = map serial_of (filter is_retired_row s.objects)

abbrev pub doomed_objects : State → List Serial
doomed_objects s = map serial_of (filter (is_doomed_row s) s.objects)

-- one round: with the counters scanned once, each object is tried that is retired at its begin;
-- then each is that is without references by then
unfoldable pub reclaims_all : ℕ → Config → List Event
reclaims_all at conf = for_each (reclaiming at) (retired_objects (present conf)) conf

unfoldable pub kills_all : ℕ → Config → List Event
kills_all at conf = for_each (killing at) (doomed_objects (present conf)) conf

unfoldable pub round : ℕ → Config → List Event
round at = and_then (scans at) (and_then (reclaims_all at) (kills_all at))

-- the events add an entry
abbrev pub adds_entry : Config → List Event → Bool
adds_entry conf events = nat_lt (entries conf) (entries (after_all conf events))

-- rounds, so many at most, until one adds no entry
unfoldable pub rounds : ℕ → ℕ → Config → List Event
rounds at zero conf = []
rounds at (suc more) conf =
    round at conf
    ++ (if adds_entry conf (round at conf) then rounds at more (after_all conf (round at conf))
    else [])

-- each object gives two entries at most, its retirement and its reclaim: so these rounds suffice
unfoldable pub sweep : ℕ → Config → List Event
sweep at conf = rounds at (2 * length (present conf).objects + 1) conf

-- each entry of a history that keeps counters keeps those of all nine CPUs
abbrev pub KeepsNine : List history.Event → Type 0
KeepsNine events = (n : ℕ) (event : history.Event) (seen : List ℕ) → slice_get events n ≡ Some event
    → history.counters event.entry ≡ Some seen → length seen ≡ CPUS

-- the CPU has the turn, its call is at its act, and nothing of the act was committed: the holder
-- owes nothing and revived no index, and no object is killed and not retired
pub record HasNotBegun (conf : Config) (at : ℕ) : Type 0 where
  pub holder : Holder
  pub call : Current
  pub has_turn : HasTurn conf at holder
  pub in_act : IsIn (conf.cpu at) call AtAct
  pub owes_nothing : OwesNothing holder
  pub unrevived : holder.revived ≡ []
  pub not_acted : has_acted holder ≡ false
  pub no_part : has_part holder ≡ false
  pub none_killed : some_killed conf ≡ false
