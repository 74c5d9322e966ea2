-- How much is owed stays within its bound, from the boot on and through every event.
use Rattle.std.proofs.Common.{◌≡◌, ◌==◌, ◌+◌, ◌-◌, ◌<◌, ◌≤◌, ◌^◌, ◌∙◌, inl, inr, ℕ, Bool, true, false, [], ◌∷◌, ◌++◌, refl, subst, sym, ap, arith, Option, Some, None, if◌then◌else◌}
use Rattle.std.specs.Prelude.{option_map}
use Rattle.std.specs.Option.{option_map_or}
use Rattle.std.proofs.lemmas.Bool.Decides.{eqb_tells}
use Rattle.std.proofs.lemmas.List.Sums.{fold-append}
use Rattle.gh_base.specs.declared.cap_word.CapWord.{CapWord}
use Rattle.gh_base.specs.declared.limits.TheConstants.{OBJECT_INDICES}
use Rattle.gh_model.specs.History.{after_event, replay}
use Rattle.gh_model.specs.References.{references}
use Rattle.gh_model.specs.declared.entry.Entry.{Entry}
use Rattle.gh_model.specs.declared.rows.ObjectRow.{ObjectRow}
use Rattle.gh_model.specs.declared.state.State.{State}
use Rattle.gh_events.specs.Bounded.{FewReferences, IsBounded}
use Rattle.gh_events.specs.Config.{Config, Current, Holder, live_references, object_at, present, put, references_at}
use Rattle.gh_events.specs.Entries.{Covers, index_after, logged, next_state}
use Rattle.gh_events.specs.Events.{Possible, after}
use Rattle.gh_events.specs.HolderEvents.{MayOwe, MayRevive, MaySettle, kill_failed, one_less, one_more, owed, revived, settled, with_failed, with_revived, with_scan, with_turn, without_scans}
use Rattle.gh_events.specs.References.{AreBounded, HasReferences, owed_at}
use Rattle.gh_events.specs.Replayed.{HasState}
use Rattle.gh_events.specs.Start.{start}
use Rattle.gh_events.specs.TurnEvents.{MayCommit, MaySetCap, committed, committed_by, new_holder, next_index, put_word, set_cap, with_entry}
use Rattle.gh_events.specs.declared.event.Event.{Event}
use Rattle.gh_events.specs.declared.event.Event.TheVariants.{Enter, Leave, Take, Look, Pin, Unpin, Undo, Kill, Commit, SetCap, Free, Scan, Revive, Join, Split}
use Rattle.gh_events.proofs.EntryMoves.{indices_of, row_lives, with_log}
use Rattle.gh_events.proofs.Finding.{put_here, put_other}
use Rattle.gh_events.proofs.StartSound.{counted_there}

-- the boot

pub start_bounded : (boot : State) (index : ℕ → ℕ) → FewReferences boot index
    → IsBounded (start boot index)
start_bounded boot index few = λ at within. omega (arith, few at within)

-- what is owed, changed

-- as much is owed as before, or less
abbrev with_less : Config → Option Holder → Type 0
with_less conf turn = (at : ℕ) → at < OBJECT_INDICES
    → live_references conf at + owed_at turn at ≤ 2 ^ 62

freed : (conf : Config) → IsBounded conf → with_less conf None
freed conf bounded at within = omega (arith, bounded at within)

-- a change of the holder that leaves what is owed
same_owed : (change : Holder → Holder) (turn : Option Holder) (at : ℕ)
    → ((holder : Holder) → (change holder).owed at ≡ holder.owed at)
    → owed_at (option_map change turn) at ≡ owed_at turn at
same_owed change None at same = refl
same_owed change (Some holder) at same = same holder

with_same : (conf : Config) (change : Holder → Holder) → IsBounded conf
    → ((holder : Holder) (at : ℕ) → (change holder).owed at ≡ holder.owed at)
    → with_less conf (option_map change conf.turn)
with_same conf change bounded same at within =
    omega (arith, bounded at within, same_owed change conf.turn at (λ holder. same holder at))

-- what is owed at one index put to an amount that is small enough
module _ (conf : Config) (holder : Holder) (object amount : ℕ) (bounded : IsBounded conf)
    (turn : conf.turn ≡ Some holder)
    (small : live_references conf object + amount ≤ 2 ^ 62) where
  owed_put : (change : Holder → Holder)
      → (change holder).owed ≡ put holder.owed object amount
      → with_less conf (option_map change conf.turn)
  owed_put change is at within =
      elim (eqb_tells at object) as (λ _. live_references conf at + owed_at (option_map change conf.turn) at ≤ 2 ^ 62) [
        | inl same ↦ here same.1
        | inr differs ↦ there differs.0
      ]
    where
      new : owed_at (option_map change conf.turn) at ≡ put holder.owed object amount at
      new = ap (λ (one : Option Holder). owed_at (option_map change one) at) turn ∙ ap (λ (owes : ℕ → ℕ). owes at) is

      old : owed_at conf.turn at ≡ holder.owed at
      old = ap (λ (one : Option Holder). owed_at one at) turn

      here : at ≡ object → live_references conf at + owed_at (option_map change conf.turn) at ≤ 2 ^ 62
      here same =
          let value : put holder.owed object amount at ≡ amount = subst (λ (n : ℕ). put holder.owed object amount n ≡ amount) (sym same) (put_here holder.owed object amount) in
          let fits : live_references conf at + amount ≤ 2 ^ 62 = subst (λ (n : ℕ). live_references conf n + amount ≤ 2 ^ 62) (sym same) small in
          omega (arith, new, value, fits)

      there : (at == object) ≡ false → live_references conf at + owed_at (option_map change conf.turn) at ≤ 2 ^ 62
      there apart =
          omega (arith, new, old, put_other holder.owed object amount at apart, bounded at within)

owe_bounded : (conf : Config) (at object : ℕ) → IsBounded conf → MayOwe conf at object
    → IsBounded (owed conf object)
owe_bounded conf at object bounded may =
    owed_put conf may.holder object (may.holder.owed object + 1) bounded may.has_turn.turn (omega (arith, may.room)) (one_more object) refl

settle_bounded : (conf : Config) (at object : ℕ) → IsBounded conf → MaySettle conf at object
    → IsBounded (settled conf object)
settle_bounded conf at object bounded may =
    let old : owed_at conf.turn object ≡ may.holder.owed object = ap (λ (one : Option Holder). owed_at one object) may.has_turn.turn in
    owed_put conf may.holder object (may.holder.owed object - 1) bounded may.has_turn.turn (omega (arith, old, bounded object may.is_index)) (one_less object) refl

revive_bounded : (conf : Config) (at object count : ℕ) → IsBounded conf
    → MayRevive conf at object count → IsBounded (revived conf object count)
revive_bounded conf at object count bounded may =
    let none : live_references conf object ≡ 0 = ap (λ (found : Option ObjectRow). option_map_or (λ (row : ObjectRow). references (present conf) row.serial.0) found 0) may.uninhabited in
    owed_put conf may.holder object count bounded may.has_turn.turn (omega (arith, none, may.bounded)) (with_revived object count) refl

take_bounded : (conf : Config) (at : ℕ) → IsBounded conf → with_less conf (Some (new_holder at))
take_bounded conf at bounded i within = omega (arith, bounded i within)

-- Kill

failed_bounded : (conf : Config) (object : ℕ) (found : Option ObjectRow) → IsBounded conf
    → IsBounded (kill_failed conf object found)
failed_bounded conf object None bounded = bounded
failed_bounded conf object (Some row) bounded =
    with_same conf (with_failed row.serial.0 (conf.count object)) bounded (λ holder at. refl)

killed_bounded : (conf : Config) (object : ℕ) (none : Bool) → IsBounded conf
    → IsBounded (if none then record (with_turn without_scans conf) { dead = put conf.dead object true }
    else kill_failed conf object (object_at (present conf) conf.index object))
killed_bounded conf object true bounded =
    with_same conf without_scans bounded (λ holder at. refl)
killed_bounded conf object false bounded =
    failed_bounded conf object (object_at (present conf) conf.index object) bounded

-- entries: what is owed makes up for the references

module _ (conf : Config) (entry : Entry) (holder : Holder) (call : Current) (index : ℕ → ℕ)
    (cap : ℕ → ℕ → CapWord) (bounded : IsBounded conf) (turn : conf.turn ≡ Some holder)
    (covers : Covers conf holder (next_state conf call entry) index) where
  entry_bounded : IsBounded (with_log conf (conf.history ++ logged entry call ∷ []) index
      (option_map (with_entry conf entry (next_state conf call entry) index) conf.turn) cap)
  entry_bounded at within =
      let grown : replay conf.boot (conf.history ++ logged entry call ∷ []) ≡ next_state conf call entry = fold-append after_event conf.boot conf.history (logged entry call ∷ []) in
      let refers : references_at (replay conf.boot (conf.history ++ logged entry call ∷ [])) index at ≡ references_at (next_state conf call entry) index at = ap (λ (s : State). references_at s index at) grown in
      let owes : owed_at (option_map (with_entry conf entry (next_state conf call entry) index) conf.turn) at ≡ holder.owed at + live_references conf at - references_at (next_state conf call entry) index at =
      ap (λ (one : Option Holder). owed_at (option_map (with_entry conf entry (next_state conf call entry) index) one) at) turn in
      let old : owed_at conf.turn at ≡ holder.owed at = ap (λ (one : Option Holder). owed_at one at) turn in
      omega (arith, refers, owes, old, covers at within, bounded at within)

commit_bounded : (conf : Config) (at : ℕ) (entry : Entry) → IsBounded conf
    → MayCommit conf at entry → IsBounded (committed conf at entry)
commit_bounded conf at entry bounded may =
    subst (λ (current : Option Current). IsBounded (committed_by conf entry (λ new. conf.index) current)) (sym may.allows.in_act.is_current)
    (entry_bounded conf entry may.holder may.call conf.index conf.cap bounded may.allows.has_turn.turn may.covers)

set_cap_bounded : (conf : Config) (at : ℕ) (entry : Entry) (space slot : ℕ) (word : CapWord)
    → IsBounded conf → MaySetCap conf at entry space slot word
    → IsBounded (set_cap conf at entry space slot word)
set_cap_bounded conf at entry space slot word bounded may =
    subst (λ (current : Option Current). IsBounded (record (committed_by conf entry (λ new. index_after conf new word) current) { cap = put_word conf.cap space slot word })) (sym may.allows.in_act.is_current)
    (entry_bounded conf entry may.holder may.call (next_index conf may.call entry word) (put_word conf.cap space slot word) bounded may.allows.has_turn.turn may.covers)

-- every event
pub event_bounded : (conf : Config) (event : Event) → IsBounded conf → Possible conf event
    → IsBounded (after conf event)
event_bounded conf (Enter cpu) bounded may = bounded
event_bounded conf (Leave cpu) bounded may = bounded
event_bounded conf (Take cpu) bounded may = take_bounded conf cpu.0 bounded
event_bounded conf (Look cpu slot) bounded may = bounded
event_bounded conf (Pin cpu object false) bounded may = bounded
event_bounded conf (Pin cpu object true) bounded may =
    owe_bounded conf cpu.0 object.0 bounded may
event_bounded conf (Unpin cpu object false) bounded may = bounded
event_bounded conf (Unpin cpu object true) bounded may =
    settle_bounded conf cpu.0 object.0 bounded may
event_bounded conf (Undo cpu object) bounded may = bounded
event_bounded conf (Kill cpu object) bounded may =
    killed_bounded conf object.0 (conf.count object.0 == 0) bounded
event_bounded conf (Commit cpu entry) bounded may = commit_bounded conf cpu.0 entry bounded may
event_bounded conf (SetCap cpu entry space slot word) bounded may =
    set_cap_bounded conf cpu.0 entry space.0 slot word bounded may
event_bounded conf (Free cpu true) bounded may = freed conf bounded
event_bounded conf (Free cpu false) bounded may = freed conf bounded
event_bounded conf (Scan cpu of_cpu) bounded may =
    with_same conf (with_scan of_cpu.0 (conf.counter of_cpu.0)) bounded (λ holder at. refl)
event_bounded conf (Revive cpu object count) bounded may =
    revive_bounded conf cpu.0 object.0 count bounded may
event_bounded conf (Join cpu) bounded may = bounded
event_bounded conf (Split cpu) bounded may = bounded

-- so each object's references and what is owed there are within the bound

pub objects_bounded : (conf : Config) → HasReferences conf → HasState conf → IsBounded conf
    → AreBounded conf
objects_bounded conf sound state bounded =
    λ row is. omega (arith, counted_there (present conf) conf.index (indices_of conf sound state.within) row is, bounded (conf.index row.serial.0) (state.within row.serial.0 (row_lives (present conf) row is)))
