-- Behind every history no more slots are taken than capabilities are revoked, and so there is room for
-- one more wherever a part may be made.
use Rattle.std.proofs.Common.{◌≡◌, ◌+◌, ◌*◌, ◌<◌, ◌≤◌, ◌∙◌, ℕ, Bool, true, false, not, List, [], ◌∷◌, length, Option, Some, None, refl, ap, arith, find, option_map, if◌then◌else◌}
use Rattle.std.specs.Prelude.{◌&&◌, count_by}
use Rattle.std.proofs.lemmas.Bool.{and_parts}
use Rattle.std.proofs.lemmas.List.{length_push}
use Rattle.gh_base.specs.declared.ids.Serial.{Serial}
use Rattle.gh_base.specs.declared.limits.TheConstants.{CSPACES, CSPACE_SLOTS}
use Rattle.gh_events.proofs.Boxes.{ones}
use Rattle.gh_events.proofs.LengthBoot.{few_capabilities}
use Rattle.gh_invariant.proofs.ChangedRow.{count_change, count_change_kept}
use Rattle.gh_invariant.proofs.Counting.{count_found}
use Rattle.gh_invariant.specs.Events.{judged_by}
use Rattle.gh_invariant.specs.Valid.{IsValid}
use Rattle.gh_model.proofs.BootFresh.{boot_fresh}
use Rattle.gh_model.specs.Act.{counted}
use Rattle.gh_model.specs.Boot.{boot_state}
use Rattle.gh_model.specs.Changes.{as_revoked, changed}
use Rattle.gh_model.specs.Decide.{verdict}
use Rattle.gh_model.specs.History.{Event, after_entry, after_event, after_verdict, is_retired, is_unretired, may_act, may_part, numbered, replay, took}
use Rattle.gh_model.specs.QueueCalls.{one_if}
use Rattle.gh_model.specs.References.{is_doomed}
use Rattle.gh_model.specs.Rows.{change_row, fills, object_row}
use Rattle.gh_model.specs.declared.boot_line.BootLine.{BootLine}
use Rattle.gh_model.specs.declared.change.Change.TheVariants.{Reclaim, Retire, RevokeCapability}
use Rattle.gh_model.specs.declared.change.Decision.{Decision}
use Rattle.gh_model.specs.declared.change.Decision.TheVariants.{Refuse, Unfinished, Make}
use Rattle.gh_model.specs.declared.entry.Entry.{Entry}
use Rattle.gh_model.specs.declared.entry.Entry.TheVariants.{Acted, Part, Retired, Reclaimed}
use Rattle.gh_model.specs.declared.rows.CapabilityRow.{CapabilityRow}
use Rattle.gh_model.specs.declared.rows.TakenSlot.{TakenSlot}
use Rattle.gh_model.specs.declared.state.State.{State}
use Rattle.gh_parts.proofs.ActLemmas.{count_few}
use Rattle.gh_parts.specs.Past.{Past, rows_of}

is_revoked : CapabilityRow → Bool
is_revoked row = not row.valid

-- no more slots are taken than capabilities are revoked
record TakesFew (s : State) : Type 0 where
  few : length s.taken ≤ count_by is_revoked s.caps

-- a part revokes one capability, where it may
revokes_one : (cspace : Serial) (slot : ℕ) (caps : List CapabilityRow) (found : Option CapabilityRow)
    → find (fills cspace.0 slot) caps ≡ found → may_part found ≡ true
    → count_by is_revoked (change_row (fills cspace.0 slot) as_revoked caps) ≡ count_by is_revoked caps + 1
unfolding is_revoked
revokes_one cspace slot caps None is may = absurd (let never : ⊥ = cc in never)
revokes_one cspace slot caps (Some row) is may =
    let valid : row.valid ≡ true = (and_parts row.valid (not row.master) may).0 in
    let old : count_found is_revoked (find (fills cspace.0 slot) caps) ≡ 0 =
    ap (count_found is_revoked) is ∙ ap (λ (test : Bool). one_if (not test)) valid in
    let new : count_found is_revoked (option_map as_revoked (find (fills cspace.0 slot) caps)) ≡ 1 =
    ap (λ (found : Option CapabilityRow). count_found is_revoked (option_map as_revoked found)) is in
    omega (arith, old, new, count_change is_revoked (fills cspace.0 slot) as_revoked caps)

if_few : (after other : State) (test : Bool) → (test ≡ true → TakesFew after) → TakesFew other
    → TakesFew (if test then after else other)
if_few after other true few also = few refl
if_few after other false few also = also

same_few : (s : State) → TakesFew s → TakesFew (numbered s)
same_few s takes = record { few = takes.few }

none_few : (s : State) → TakesFew (counted s)
none_few s = record { few = omega arith }

verdict_few : (s : State) (decision : Decision) → TakesFew s → TakesFew (after_verdict s (verdict s decision))
verdict_few s (Refuse errno) takes = record { few = takes.few }
verdict_few s Unfinished takes = record { few = takes.few }
verdict_few s (Make changes reply) takes = record { few = omega arith }

part_few : (s : State) (cspace : Serial) (slot : ℕ) → may_part (find (fills cspace.0 slot) s.caps) ≡ true → TakesFew s
    → TakesFew (numbered (took (changed s (RevokeCapability cspace slot)) cspace slot))
part_few s cspace slot may takes = record {
  few = omega (
    arith,
    takes.few,
    length_push s.taken (record { cspace = cspace; slot = slot }),
    revokes_one cspace slot s.caps (find (fills cspace.0 slot) s.caps) refl may,
  );
}

entry_few : (s : State) (event : Event) (entry : Entry) → TakesFew s → TakesFew (after_entry s event entry)
entry_few s event (Acted cpu number) takes =
    if_few (after_verdict s (verdict s (judged_by s cpu.0 event))) (numbered s) (may_act s cpu.0 event.call event.words)
    (λ may. verdict_few s (judged_by s cpu.0 event) takes) (same_few s takes)
entry_few s event (Part cpu number space slot) takes =
    if_few (numbered (took (changed s (RevokeCapability space slot)) space slot)) (numbered s)
    (may_part (find (fills space.0 slot) s.caps)) (λ may. part_few s space slot may takes) (same_few s takes)
entry_few s event (Retired serial seen) takes =
    if_few (counted (changed s (Retire serial seen))) (numbered s) (is_doomed s serial.0 && is_unretired (object_row s serial.0))
    (λ may. none_few (changed s (Retire serial seen))) (same_few s takes)
entry_few s event (Reclaimed serial seen) takes =
    if_few (counted (changed s (Reclaim serial))) (numbered s) (is_doomed s serial.0 && is_retired (object_row s serial.0))
    (λ may. none_few (changed s (Reclaim serial))) (same_few s takes)

history_few : (s : State) (history : List Event) → TakesFew s → TakesFew (replay s history)
history_few s [] takes = takes
history_few s (event ∷ history) takes = history_few (after_event s event) history (entry_few s event event.entry takes)

begins_few : (lines : List BootLine) → TakesFew (boot_state lines)
begins_few lines = record { few = omega (arith, ap (λ (taken : List TakenSlot). length taken) (boot_fresh lines).empty) }

-- so the slot of a part has room beside those before it
pub taken_room : (past : Past) → IsValid (rows_of past) → (cspace : Serial) (slot : ℕ)
    → may_part (find (fills cspace.0 slot) (rows_of past).caps) ≡ true
    → length (rows_of past).taken < CSPACES * CSPACE_SLOTS
taken_room past valid cspace slot may =
    let takes : TakesFew (rows_of past) = history_few (boot_state past.boot) past.history (begins_few past.boot) in
    let caps : List CapabilityRow = (rows_of past).caps in
    let same : count_by (λ (row : CapabilityRow). true) (change_row (fills cspace.0 slot) as_revoked caps)
    ≡ count_by (λ (row : CapabilityRow). true) caps =
    count_change_kept (λ (row : CapabilityRow). true) (fills cspace.0 slot) as_revoked caps (λ row. refl) in
    omega (
      arith,
      takes.few,
      revokes_one cspace slot caps (find (fills cspace.0 slot) caps) refl may,
      count_few is_revoked (change_row (fills cspace.0 slot) as_revoked caps),
      same,
      ones (change_row (fills cspace.0 slot) as_revoked caps),
      ones caps,
      few_capabilities (rows_of past) valid,
    )
