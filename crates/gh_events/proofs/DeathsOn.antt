-- The object of a dead call stays killed behind an entry, or is retired by it.
use Rattle.std.proofs.Common.{◌≡◌, ◌≤◌, ◌∙◌, ◌⊎◌, inl, inr, ℕ, Bool, true, false, List, [], ◌∷◌, ◌++◌, length, refl, subst, sym, ap, Option, Some, None, find, is_some, option_map, if◌then◌else◌}
use Rattle.gh_invariant.specs.Valid.{IsValid}
use Rattle.gh_model.specs.Act.{granted}
use Rattle.gh_model.specs.History.{Event, after_event, is_retired, retires}
use Rattle.gh_model.specs.Legal.{IsRetiredBehind}
use Rattle.gh_model.specs.Marks.{Seen}
use Rattle.gh_model.specs.Rows.{is_object, object_row}
use Rattle.gh_model.specs.declared.entry.Entry.{Entry}
use Rattle.gh_model.specs.declared.entry.Entry.TheVariants.{Acted, Part, Retired, Reclaimed}
use Rattle.gh_model.specs.declared.rows.ObjectRow.{ObjectRow}
use Rattle.gh_model.specs.declared.state.State.{State}
use Rattle.gh_model.proofs.RunLists.{slice_get_seam}
use Rattle.gh_model.proofs.Stays.{front_more, retired_stays}
use Rattle.gh_events.specs.Calls.{DeathIs, IsKilledThere}
use Rattle.gh_events.specs.Config.{Config, is_at, object_at, present, seen_index}
use Rattle.gh_events.specs.References.{IsRow}
use Rattle.gh_events.proofs.EntryKeeps.{some_of}
use Rattle.gh_events.proofs.EntryMoves.{RowOf, row_of, there_index}
use Rattle.gh_events.proofs.EventObjects.{Goes, counters_of, event_goes, life}
use Rattle.gh_events.proofs.Finding.{same_number}
use Rattle.gh_events.proofs.GraceReclaim.{replay_more}
use Rattle.gh_events.proofs.GraceTurn.{unretired_by}
use Rattle.gh_events.proofs.Living.{LivesAt, lives_there, stands_there}
use Rattle.gh_events.proofs.PinCalls.{same_found}

-- a state whose objects have serials and indices, each its own
pub record IsPlaced (s : State) (index : ℕ → ℕ) : Type 0 where
  pub valid : IsValid s
  pub unique : (row other : ObjectRow) → IsRow s row → IsRow s other
      → index row.serial.0 ≡ index other.serial.0 → row.serial.0 ≡ other.serial.0

module _ (s : State) (index : ℕ → ℕ) (dead : ℕ → Bool) (placed : IsPlaced s index) where
  -- what stands at an index is the row of its serial
  pub own_row : (at : ℕ) (row : ObjectRow) → object_at s index at ≡ Some row → IsRow s row
  own_row at row there =
      let own : LivesAt s index at row.serial.0 = lives_there s index at row there in
      let found : find (is_object row.serial.0) s.objects ≡ Some own.row = subst (λ (n : ℕ). find (is_object n) s.objects ≡ Some own.row) own.same own.is in
      let same : row ≡ own.row = same_found (is_at index at) (is_object row.serial.0) s.objects row own.row (placed.valid.objects.once row.serial.0) there (same_number row.serial.0) found in
      found ∙ ap Some (sym same)

  not_killed : (counters : Option (List ℕ)) (is_dead : Bool) → Some counters ≡ Some None
      → is_dead ≡ true → (if is_some counters then false else is_dead) ≡ true
  not_killed None is_dead same is = is
  not_killed (Some seen) is_dead same is = absurd (let never : ⊥ = cc in never)

  killed_by : (at serial : ℕ) (found : Option ObjectRow) → object_at s index at ≡ found
      → is_some found ≡ true → RowOf s serial → life s.objects serial ≡ Some None
      → index serial ≡ at → dead at ≡ true → IsKilledThere s index dead at serial
  killed_by at serial None there some one lived here is_dead =
      absurd (let never : ⊥ = cc in never)
  killed_by at serial (Some row) there some one lived here is_dead =
      let at_is : index row.serial.0 ≡ at = there_index s index at row there in
      let is_row : IsRow s row = own_row at row there in
      let same : row.serial.0 ≡ serial = placed.unique row one.row is_row one.is_row (at_is ∙ sym here ∙ sym (ap index one.serial_is)) ∙ one.serial_is in
      let lives_as : Some row.retired ≡ Some None = sym (ap (option_map counters_of) is_row) ∙ ap (life s.objects) same ∙ lived in
      record {
        row = row;
        lives_there = there;
        is_that = same;
        killed = not_killed row.retired (dead (index row.serial.0)) lives_as (ap dead at_is ∙ is_dead);
      }

  -- an object that isn't retired, with a dead word, is killed at its index
  pub killed_there : (at serial : ℕ) → life s.objects serial ≡ Some None → index serial ≡ at
      → dead at ≡ true → IsKilledThere s index dead at serial
  killed_there at serial lived here is_dead =
      let one : RowOf s serial = row_of s serial (some_of (find (is_object serial) s.objects) None lived) in
      killed_by at serial (object_at s index at) refl
      (subst (λ (n : ℕ). is_some (object_at s index n) ≡ true) (ap index one.serial_is ∙ here) (stands_there s index one.row one.is_row)) one lived here is_dead

  -- what is known of an object that is killed at an index
  pub record KilledAt (at serial : ℕ) : Type 0 where
    pub lived : life s.objects serial ≡ Some None
    pub here : index serial ≡ at
    pub is_dead : dead at ≡ true

  pub killed_at : (at serial : ℕ) → IsKilledThere s index dead at serial → KilledAt at serial
  killed_at at serial killed =
      let at_is : index killed.row.serial.0 ≡ at = there_index s index at killed.row killed.lives_there in
      let both : (killed.row.retired ≡ None) × (dead (index killed.row.serial.0) ≡ true) = unretired_by killed.row.retired (dead (index killed.row.serial.0)) killed.killed in
      record {
        lived = subst (λ (n : ℕ). life s.objects n ≡ Some None) killed.is_that
            (ap (option_map counters_of) (own_row at killed.row killed.lives_there) ∙ ap Some both.0);
        here = sym (ap index killed.is_that) ∙ at_is;
        is_dead = sym (ap dead at_is) ∙ both.1;
      }

-- what an event needs that leaves each such death: objects have their own indices before it and
-- behind it, and those that lived keep theirs
pub record DeathsGoOn (conf : Config) (event : Event) (index : ℕ → ℕ) : Type 0 where
  pub before : IsPlaced (present conf) conf.index
  pub behind : IsPlaced (after_event (present conf) event) index
  pub kept : (serial : ℕ) → life (present conf).objects serial ≡ Some None
      → index serial ≡ conf.index serial

retired_not : (found : Option ObjectRow) → option_map counters_of found ≡ Some None
    → is_retired found ≡ true → ⊥
retired_not None lived retired = let never : ⊥ = cc in never
retired_not (Some row) lived retired =
    let none : row.retired ≡ None = cc in
    let some : is_some row.retired ≡ true = retired in
    let not_some : is_some row.retired ≡ false = ap is_some none in
    cc

module _ (conf : Config) (event : Event) (index : ℕ → ℕ) (on : DeathsGoOn conf event index) where
  abbrev longer : List Event
  longer = conf.history ++ event ∷ []

  abbrev new : State
  new = after_event (present conf) event

  -- an object that was in use is so still, or the entry retires it
  goes_by : (entry : Entry) (place serial : ℕ) → event.entry ≡ entry → place ≤ length conf.history
      → life (present conf).objects serial ≡ Some None
      → Goes (present conf) new event entry serial
      → IsRetiredBehind conf.boot longer place serial ⊎ (life new.objects serial ≡ Some None)
  goes_by entry place serial is within lived (inl same) = inr (same ∙ lived)
  goes_by (Acted cpu number) place serial is within lived (inr made) = inr made.born
  goes_by (Part cpu number space slot) place serial is within lived (inr never) = absurd never
  goes_by (Retired retired seen) place serial is within lived (inr that) = inl record {
    at = length conf.history;
    event = event;
    is = slice_get_seam conf.history event [];
    retires = ap retires is ∙ ap Some (sym that.that);
    behind = within;
  }
  goes_by (Reclaimed reclaimed seen) place serial is within lived (inr that) =
      absurd (retired_not (object_row (present conf) serial) lived
      (subst (λ (n : ℕ). is_retired (object_row (present conf) n) ≡ true) (sym that.that) that.was))

  death_by : (seen : Seen)
      → KilledAt (present conf) conf.index conf.dead on.before (seen_index seen) (granted seen.word).0
      → IsRetiredBehind conf.boot longer seen.look.place (granted seen.word).0
      ⊎ (life new.objects (granted seen.word).0 ≡ Some None)
      → DeathIs conf.boot longer index conf.dead seen
  death_by seen was (inl behind) = inl behind
  death_by seen was (inr lived) =
      inr (subst (λ (s : State). IsKilledThere s index conf.dead (seen_index seen) (granted seen.word).0) (sym (replay_more conf.boot conf.history event))
      (killed_there new index conf.dead on.behind (seen_index seen) (granted seen.word).0 lived (on.kept (granted seen.word).0 was.lived ∙ was.here) was.is_dead))

  -- a death stays one behind the entry
  pub death_goes_on : (seen : Seen) → seen.look.place ≤ length conf.history
      → DeathIs conf.boot conf.history conf.index conf.dead seen
      → DeathIs conf.boot longer index conf.dead seen
  death_goes_on seen within (inl behind) =
      inl (retired_stays conf.history longer (front_more conf.history (event ∷ [])) conf.boot seen.look.place (granted seen.word).0 behind)
  death_goes_on seen within (inr killed) =
      let was : KilledAt (present conf) conf.index conf.dead on.before (seen_index seen) (granted seen.word).0 = killed_at (present conf) conf.index conf.dead on.before (seen_index seen) (granted seen.word).0 killed in
      death_by seen was
      (goes_by event.entry seen.look.place (granted seen.word).0 refl within was.lived (event_goes (present conf) event (granted seen.word).0))
