-- Grace: an object is retired only without references, and reclaimed only once every CPU that was
-- reading then, and every call that was granted it, has left its section.
use Rattle.std.specs.Prelude.{◌≡◌, ◌==◌, ◌+◌, ◌*◌, ◌-◌, ◌<◌}
use Rattle.std.specs.Prelude.{◌≤◌, ℕ, Bool, true, false, List, length, take, Option}
use Rattle.std.specs.Prelude.{Some, None, IsTrue, IfSome, count_by, slice_get, slice_index}
use Rattle.std.specs.List.{list_any}
use Rattle.gh_base.specs.Counters.{HaveLeft}
use Rattle.gh_base.specs.declared.limits.TheConstants.{CPUS}
use Rattle.gh_base.specs.declared.mark.End.{End}
use Rattle.gh_base.specs.declared.mark.End.TheVariants as ends
use Rattle.gh_model.specs.declared.entry.Entry.{Entry}
use Rattle.gh_model.specs.declared.entry.Entry.TheVariants.{Acted, Part, Retired, Reclaimed}
use Rattle.gh_model.specs.declared.rows.CapabilityRow.{CapabilityRow}
use Rattle.gh_model.specs.declared.rows.ObjectRow.{ObjectRow}
use Rattle.gh_model.specs.declared.state.State.{State}
use Rattle.gh_model.specs.Rows.{object_row}
use Rattle.gh_model.specs.References.{is_doomed}
use Rattle.gh_model.specs.Marks.{Made, Seen, InTurn, has_looks, place, place_after}
use Rattle.gh_model.specs.History.{Event, state_at, is_retired, is_unretired, counters, reclaims}

-- the counters of an object's retirement
abbrev pub retirement : Option ObjectRow → Option (List ℕ)
retirement None = None
retirement (Some row) = row.retired

-- the objects that a call was granted: those of its looks, but for the last of a call that ends
-- with a refused look
abbrev pub granting : End → List Seen → List Seen
granting ends.Frame seen = seen
granting ends.Refused seen = take (length seen - 1) seen
granting ends.Dead seen = seen
granting (ends.Act at) seen = seen
granting (ends.Short at held) seen = seen
granting (ends.Entry number) seen = seen

-- the row is a capability of the object with this serial
abbrev pub names_object : ℕ → Option CapabilityRow → Bool
names_object serial None = false
names_object serial (Some row) = row.serial.0 == serial

-- the look found a capability of the object
abbrev pub finds : ℕ → Seen → Bool
finds serial seen = names_object serial seen.word.row

-- the call was granted the object by one of its looks
abbrev pub was_granted : ℕ → Made → Bool
was_granted serial made = list_any (finds serial) (granting made.mark.end made.seen)

-- just before, the object has no references; it is retired once, and reclaimed when it is retired
abbrev pub GoesUnreferenced : State → Entry → Type 0
GoesUnreferenced s (Acted cpu number) = Unit {0}
GoesUnreferenced s (Part cpu number space slot) = Unit {0}
GoesUnreferenced s (Retired serial seen) =
    IsTrue (is_doomed s serial.0) × IsTrue (is_unretired (object_row s serial.0))
GoesUnreferenced s (Reclaimed serial seen) =
    IsTrue (is_doomed s serial.0) × IsTrue (is_retired (object_row s serial.0))

-- every CPU that was reading at an object's retirement has left when it is reclaimed
abbrev pub GoesUnread : State → Entry → Type 0
GoesUnread s (Acted cpu number) = Unit {0}
GoesUnread s (Part cpu number space slot) = Unit {0}
GoesUnread s (Retired serial seen) = Unit {0}
GoesUnread s (Reclaimed serial seen) =
    IfSome (retirement (object_row s serial.0)) (λ (before : List ℕ). HaveLeft before seen)

-- the CPU's counter that the entry of this number kept, and a call of that CPU
pub record Fits (entry : Entry) (number counter : ℕ) (front : List Made)
    (made : Made) : Type 0 where
  -- a call that was granted the object that the entry reclaims had an earlier section
  pub granted :
      (serial : ℕ) → reclaims entry ≡ Some serial → was_granted serial made ≡ true
      → made.mark.section < counter
  -- so had a call that ended with its entry, or with a refused act, below this number
  pub ended :
      (at : ℕ) → has_looks made ≡ true → place made.mark.end ≡ Some at → at < number
      → made.mark.section < counter
  -- and a call behind one that saw this entry has a later section
  pub later :
      has_looks made ≡ true → number ≤ place_after front → counter < made.mark.section

module _ (boot : State) (history : List Event) where
  -- the history and the finished calls of each CPU are graced. An entry at n has the number n + 1
  pub record IsGraced (calls : ℕ → List Made) : Type 0 where
    pub unreferenced : (n : ℕ) (event : Event) → slice_get history n ≡ Some event
        → GoesUnreferenced (state_at boot history n) event.entry
    pub unread : (n : ℕ) (event : Event) → slice_get history n ≡ Some event
        → GoesUnread (state_at boot history n) event.entry
    -- no counter falls from an entry to a later one
    pub rising : (n m cpu : ℕ) (first second : Event) (before now : List ℕ)
        → slice_get history n ≡ Some first → slice_get history m ≡ Some second → n < m
        → counters first.entry ≡ Some before → counters second.entry ≡ Some now
        → cpu < CPUS → slice_index before cpu ≤ slice_index now cpu
    -- none is above twice the number of the CPU's calls that have looks
    pub bounded : (n cpu : ℕ) (event : Event) (seen : List ℕ)
        → slice_get history n ≡ Some event → counters event.entry ≡ Some seen
        → cpu < CPUS → slice_index seen cpu ≤ 2 * count_by has_looks (calls cpu)
    -- and each stands between the sections of the calls before it and of those behind it
    pub fits : (n cpu : ℕ) (event : Event) (seen : List ℕ)
        → slice_get history n ≡ Some event → counters event.entry ≡ Some seen
        → cpu < CPUS → InTurn (Fits event.entry (n + 1) (slice_index seen cpu)) (calls cpu)
