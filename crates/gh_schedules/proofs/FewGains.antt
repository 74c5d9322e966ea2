-- An entry gives six references at most, and in a sound configuration the references at each index
-- are few.
use Rattle.std.proofs.Common.{◌≡◌, ◌==◌, ◌*◌, ◌≤◌, inl, inr, ℕ, Bool, true, false, List, [], ◌∷◌, refl, ap, arith, IsTrue, find, length, length-append, Option, Some, None, if◌then◌else◌}
use Rattle.std.specs.Prelude.{◌&&◌}
use Rattle.std.specs.List.{list_all}
use Rattle.std.specs.Option.{option_map_or}
use Rattle.std.proofs.lemmas.Bool.{and_parts}
use Rattle.std.proofs.lemmas.Bool.Decides.{nat_tests}
use Rattle.gh_base.specs.declared.ids.Serial.{Serial}
use Rattle.gh_model.specs.Act.{grants_of}
use Rattle.gh_model.specs.Changes.{changed}
use Rattle.gh_model.specs.Decide.{has_moved}
use Rattle.gh_model.specs.History.{Event, is_retired, is_unretired, may_act, may_part}
use Rattle.gh_model.specs.Legal.{is_revoke}
use Rattle.gh_model.specs.References.{is_doomed, references}
use Rattle.gh_model.specs.Rows.{fills, object_row}
use Rattle.gh_model.specs.declared.change.Change.{Change}
use Rattle.gh_model.specs.declared.change.Change.TheVariants as change
use Rattle.gh_model.specs.declared.change.Decision.{Decision}
use Rattle.gh_model.specs.declared.entry.Entry.{Entry}
use Rattle.gh_model.specs.declared.entry.Entry.TheVariants.{Acted, Part, Retired, Reclaimed}
use Rattle.gh_model.specs.declared.rows.ObjectRow.{ObjectRow}
use Rattle.gh_model.specs.declared.state.State.{State}
use Rattle.gh_invariant.specs.Effects.{gained, gains}
use Rattle.gh_invariant.specs.Events.{changes_of, entry_changes, judged_by, made_by}
use Rattle.gh_invariant.proofs.EventWords.{event_of_calls}
use Rattle.gh_invariant.proofs.SetsOne.{is_of_calls}
use Rattle.gh_events.specs.Config.{Config, live_references, object_at, present}
use Rattle.gh_events.specs.Bounded.{many_references}
use Rattle.gh_events.specs.Sound.{IsSound}
use Rattle.gh_schedules.proofs.CallMakes.{Makes, decision_makes, is_few, keeps_few}
use Rattle.gh_events.proofs.FewReferences.{present_references}

-- gains of changes

own_few : (b : Bool) (serial : Serial) → length (if b then [] else serial ∷ []) ≤ 1
own_few true serial = omega arith
own_few false serial = omega arith

good_few : (b : Bool) (serial : Serial) → length (if b then serial ∷ [] else []) ≤ 1
good_few true serial = omega arith
good_few false serial = omega arith

one_few : (b : Bool) (serial other : Serial) → length (if b then serial ∷ [] else other ∷ []) ≤ 1
one_few true serial other = omega arith
one_few false serial other = omega arith

gains_few : (s : State) (one : Change) → is_of_calls one ≡ true → length (gains s one) ≤ 2
gains_few s (change.PutCapability row) calls = omega (arith, good_few row.valid row.serial)
gains_few s (change.AddObject row) calls = omega (arith, own_few (row.partition.0 == row.serial.0) row.partition)
gains_few s (change.AddExtent row) calls = omega (arith, one_few (row.parent.0 == 0) row.serial row.parent)
gains_few s (change.PutMapping row) calls = omega arith
gains_few s (change.DropCapability cspace slot) calls = omega arith
gains_few s (change.RevokeCapability cspace slot) calls = omega arith
gains_few s (change.Reclaim object) calls = omega arith
gains_few s (change.DropMapping row) calls = omega arith
gains_few s (change.Exit cpu) calls = omega arith
gains_few s (change.SetStage object stage) calls = omega arith
gains_few s (change.Retire object seen) calls = omega arith
gains_few s (change.GiveQuota partition quota) calls = omega arith
gains_few s (change.MovePages first count holder) calls = omega arith
gains_few s (change.SetBell row) calls = omega arith
gains_few s (change.ConfigureQueue queue depth size cost) calls = omega arith
gains_few s (change.PutMessage queue message) calls = omega arith
gains_few s (change.DropMessage queue) calls = omega arith
gains_few s (change.EmptyQueue queue) calls = omega arith
gains_few s change.Ring calls = omega arith
gains_few s (change.SetPages count) calls = omega arith
gains_few s (change.AddPartition quota) calls = absurd (let never : ⊥ = cc in never)
gains_few s (change.AddRoot row) calls = absurd (let never : ⊥ = cc in never)
gains_few s (change.SetRoom queue depth size) calls = omega arith
gains_few s (change.FillSlot row) calls = absurd (let never : ⊥ = cc in never)
gains_few s (change.AddCpu row) calls = absurd (let never : ⊥ = cc in never)
gains_few s (change.AddLink row) calls = absurd (let never : ⊥ = cc in never)

gained_few : (s : State) (changes : List Change) → IsTrue (list_all is_of_calls changes)
    → length (gained s changes) ≤ 2 * length changes
gained_few s [] calls = omega arith
gained_few s (one ∷ others) calls =
    let called = and_parts (is_of_calls one) (list_all is_of_calls others) calls in
    omega (
      arith,
      length-append (gains s one) (gained (changed s one) others),
      gains_few s one called.0,
      gained_few (changed s one) others called.1,
    )

-- an entry makes three changes at most
few_by : (allowed : Bool) (changes : List Change) → length changes ≤ 3
    → length (if allowed then changes else []) ≤ 3
few_by true changes few = few
few_by false changes few = omega arith

decision_few : (s : State) (event : Event) (decision : Decision)
    → Makes s event.call (grants_of event.call event.words) decision → length (made_by decision) ≤ 3
decision_few s event decision (inl keep) =
    let few : is_few (made_by decision) ≡ true = keeps_few (is_revoke event.call) decision keep in
    grind (arith, nat_tests)
decision_few s event decision (inr makes) =
    let two : length (made_by decision) ≡ 2 = ap length makes.1.is in
    omega (arith, two)

changes_few : (s : State) (event : Event) (kind : Entry) → length (entry_changes s event kind) ≤ 3
changes_few s event (Acted cpu number) =
    few_by (may_act s cpu.0 event.call event.words) (made_by (judged_by s cpu.0 event))
    (decision_few s event (judged_by s cpu.0 event) (decision_makes s (has_moved s cpu.0 event.call event.words) cpu.0 event.call event.bytes (grants_of event.call event.words)))
changes_few s event (Part cpu number space slot) =
    few_by (may_part (find (fills space.0 slot) s.caps)) (change.RevokeCapability space slot ∷ []) (omega arith)
changes_few s event (Retired serial seen) =
    few_by (is_doomed s serial.0 && is_unretired (object_row s serial.0)) (change.Retire serial seen ∷ []) (omega arith)
changes_few s event (Reclaimed serial seen) =
    few_by (is_doomed s serial.0 && is_retired (object_row s serial.0)) (change.Reclaim serial ∷ []) (omega arith)

-- and so gives six references at most
pub event_gains_few : (s : State) (event : Event) → length (gained s (changes_of s event)) ≤ 6
event_gains_few s event =
    omega (arith, gained_few s (changes_of s event) (event_of_calls s event), changes_few s event event.entry)

-- the references at an index are few

module _ (conf : Config) (sound : IsSound conf) where
  live_few_by : (at : ℕ) (found : Option ObjectRow) → object_at (present conf) conf.index at ≡ found
      → option_map_or (λ (row : ObjectRow). references (present conf) row.serial.0) found 0 ≤ many_references
  live_few_by at None is = omega arith
  live_few_by at (Some row) is =
      omega (arith, present_references conf sound.valid.valid sound.state sound.references.placed sound.bound.few_cpus sound.bound.few_links row.serial.0)

  pub live_few : (at : ℕ) → live_references conf at ≤ many_references
  live_few at = live_few_by at (object_at (present conf) conf.index at) refl
