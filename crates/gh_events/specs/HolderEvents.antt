-- The events of the turn's holder on reference words and counters: when each is possible, and what
-- it changes.
use Rattle.std.specs.Prelude.{◌≡◌, ◌==◌, ◌+◌, ◌-◌, ◌^◌, ◌<◌, ◌≤◌, ℕ, Bool, true, false, [], ◌∷◌, ◌++◌, Option, Some, None, is_some, option_map, if◌then◌else◌}
use Rattle.gh_base.specs.declared.call.Call.{Call}
use Rattle.gh_base.specs.declared.call.Call.TheVariants.{Create}
use Rattle.gh_base.specs.declared.limits.TheConstants.{CPUS, OBJECT_INDICES}
use Rattle.gh_model.specs.Act.{Verdict, Done, Refused}
use Rattle.gh_model.specs.References.{is_doomed}
use Rattle.gh_model.specs.declared.rows.ObjectRow.{ObjectRow}
use Rattle.gh_events.specs.Config.{AtAct, Config, Current, HasTurn, Holder, IsIn, has_acted, has_part, judged, live_references, object_at, present, put, some_killed}

-- what the holder keeps, changed
abbrev pub with_turn : (Holder → Holder) → Config → Config
with_turn change conf = record conf { turn = option_map change conf.turn }

-- Pin and Unpin of the turn

-- the word isn't dead, and what is owed there and the references of its live object are together
-- below 2^62
pub record MayOwe (conf : Config) (at object : ℕ) : Type 0 where
  pub is_cpu : at < CPUS
  pub is_index : object < OBJECT_INDICES
  pub holder : Holder
  pub has_turn : HasTurn conf at holder
  pub alive : conf.dead object ≡ false
  pub room : holder.owed object + live_references conf object < 2 ^ 62

abbrev pub with_owed : ℕ → ℕ → Holder → Holder
with_owed object amount holder = record holder { owed = put holder.owed object amount }

abbrev pub one_more : ℕ → Holder → Holder
one_more object holder = with_owed object (holder.owed object + 1) holder

abbrev pub one_less : ℕ → Holder → Holder
one_less object holder = with_owed object (holder.owed object - 1) holder

-- the word and what is owed rise by one
abbrev pub owed : Config → ℕ → Config
owed conf object =
    record (with_turn (one_more object) conf) { count = put conf.count object (conf.count object + 1) }

-- what has to stay owed at an index: one where it has no live object
abbrev pub least_owed : Config → ℕ → ℕ
least_owed conf object =
    if is_some (object_at (present conf) conf.index object) then 0 else 1

-- the holder owes one there, or more than one where the index has no live object
pub record MaySettle (conf : Config) (at object : ℕ) : Type 0 where
  pub is_cpu : at < CPUS
  pub is_index : object < OBJECT_INDICES
  pub holder : Holder
  pub has_turn : HasTurn conf at holder
  pub owes : least_owed conf object < holder.owed object

-- the word and what is owed fall by one
abbrev pub settled : Config → ℕ → Config
settled conf object =
    record (with_turn (one_less object) conf) { count = put conf.count object (conf.count object - 1) }

-- Kill

-- the object at the index has no references and isn't retired, and its word isn't dead; nothing is
-- owed there, nothing of the act was committed, and no object is killed and not retired
pub record MayKill (conf : Config) (at object : ℕ) : Type 0 where
  pub is_cpu : at < CPUS
  pub is_index : object < OBJECT_INDICES
  pub holder : Holder
  pub has_turn : HasTurn conf at holder
  pub row : ObjectRow
  pub lives_there : object_at (present conf) conf.index object ≡ Some row
  pub doomed : is_doomed (present conf) row.serial.0 ≡ true
  pub unretired : row.retired ≡ None
  pub alive : conf.dead object ≡ false
  pub unowed : holder.owed object ≡ 0
  pub not_acted : has_acted holder ≡ false
  pub no_part : has_part holder ≡ false
  pub none_killed : some_killed conf ≡ false

-- a kill that succeeds clears the scans
abbrev pub without_scans : Holder → Holder
without_scans holder = record holder { scans = λ _. None }

abbrev pub with_failed : ℕ → ℕ → Holder → Holder
with_failed serial count holder =
    record holder { failed = put holder.failed serial (Some count) }

abbrev pub kill_failed : Config → ℕ → Option ObjectRow → Config
kill_failed conf object None = conf
kill_failed conf object (Some row) =
    with_turn (with_failed row.serial.0 (conf.count object)) conf

-- a word of 0 becomes dead, else its count is kept as seen
abbrev pub killed : Config → ℕ → Config
killed conf object =
    if conf.count object == 0
    then record (with_turn without_scans conf) { dead = put conf.dead object true }
    else kill_failed conf object (object_at (present conf) conf.index object)

-- Scan

pub record MayScan (conf : Config) (at of : ℕ) : Type 0 where
  pub is_cpu : at < CPUS
  pub of_cpu : of < CPUS
  pub holder : Holder
  pub has_turn : HasTurn conf at holder

abbrev pub with_scan : ℕ → ℕ → Holder → Holder
with_scan of counter holder = record holder { scans = put holder.scans of (Some counter) }

-- the CPU's counter is kept
abbrev pub scanned : Config → ℕ → Config
scanned conf of = with_turn (with_scan of (conf.counter of)) conf

-- Revive

abbrev pub is_create : Call → Bool
is_create (Create partition cspace kind) = true
is_create _ = false

abbrev pub is_done : Verdict → Bool
is_done (Done new reply) = true
is_done (Refused reply) = false

-- the index has no live object, the count isn't 0 and at most 2^62; the holder's call is a create
-- that is done in the present state, its entry is still to come, and no index was revived yet
pub record MayRevive (conf : Config) (at object count : ℕ) : Type 0 where
  pub is_cpu : at < CPUS
  pub is_index : object < OBJECT_INDICES
  pub holder : Holder
  pub call : Current
  pub has_turn : HasTurn conf at holder
  pub in_act : IsIn (conf.cpu at) call AtAct
  pub uninhabited : object_at (present conf) conf.index object ≡ None
  pub counted : 0 < count
  pub bounded : count ≤ 2 ^ 62
  pub creates : is_create call.given.call ≡ true
  pub does : is_done (judged (present conf) at call) ≡ true
  pub not_acted : has_acted holder ≡ false
  pub first : holder.revived ≡ []

abbrev pub with_revived : ℕ → ℕ → Holder → Holder
with_revived object count holder = record (with_owed object count holder) {
  revived = holder.revived ++ object ∷ [];
}

-- the word is the count, all of which is owed
abbrev pub revived : Config → ℕ → ℕ → Config
revived conf object count = record (with_turn (with_revived object count) conf) {
  count = put conf.count object count;
  dead = put conf.dead object false;
}
