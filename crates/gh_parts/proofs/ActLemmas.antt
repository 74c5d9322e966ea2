-- What an act and a part of a revoke need of the rows, and what they leave.
use Rattle.std.proofs.Common.{◌≡◌, ◌+◌, ◌*◌, ◌<◌, ◌≤◌, ◌∙◌, ℕ, Bool, true, false, List, [], ◌∷◌, ◌++◌, length, refl, sym, ap, subst, arith, find, IsTrue, if◌then◌else◌}
use Rattle.std.specs.Prelude.{count_by}
use Rattle.std.specs.List.{list_all}
use Rattle.std.proofs.lemmas.Bool.{and_parts}
use Rattle.gh_base.specs.declared.ids.Serial.{Serial}
use Rattle.gh_base.specs.declared.limits.TheConstants.{HISTORY_ENTRIES}
use Rattle.gh_events.proofs.Boxes.{ones}
use Rattle.gh_events.proofs.FewRows.{few_references}
use Rattle.gh_events.proofs.LengthBoot.{few_capabilities}
use Rattle.gh_invariant.proofs.ChangedRow.{count_change_kept}
use Rattle.gh_invariant.proofs.Counting.{count_cons}
use Rattle.gh_invariant.proofs.DecisionMade.{decision_made}
use Rattle.gh_invariant.proofs.EntriesKept.{begins, made_valid}
use Rattle.gh_invariant.proofs.SetsOne.{decision_sets, is_of_calls}
use Rattle.gh_invariant.specs.Effects.{gained, gains, is_that}
use Rattle.gh_invariant.specs.Events.{judged_by, made_by}
use Rattle.gh_invariant.specs.Grants.{MayMake}
use Rattle.gh_invariant.specs.Premises.{MayChangeAll}
use Rattle.gh_invariant.specs.Valid.{IsValid}
use Rattle.gh_model.proofs.ActLemmas.{made_kept}
use Rattle.gh_model.proofs.DecideLemmas as decide
use Rattle.gh_model.proofs.DecideLemmas.{decision_may, small_kept}
use Rattle.gh_model.specs.Act.{counted, grants_of}
use Rattle.gh_model.specs.Changes.{as_exited, changed, changed_all}
use Rattle.gh_model.specs.Decide.{has_moved, verdict}
use Rattle.gh_model.specs.History.{after_entry, after_event, after_verdict, may_part, numbered, parted, took}
use Rattle.gh_model.specs.QueueCalls.{one_if}
use Rattle.gh_model.specs.Rows.{fills, is_cpu}
use Rattle.gh_model.specs.Small.{IsKept}
use Rattle.gh_model.specs.declared.change.Change.{Change}
use Rattle.gh_model.specs.declared.change.Change.TheVariants as change
use Rattle.gh_model.specs.declared.change.Decision.{Decision}
use Rattle.gh_model.specs.declared.rows.CpuRow.{CpuRow}
use Rattle.gh_model.specs.declared.state.State.{State}
use Rattle.gh_parts.proofs.DecidedLemmas.{decision_suits}
use Rattle.gh_parts.proofs.FewObjects.{few_objects}
use Rattle.gh_parts.specs.Acts.{IsActOf, IsPartOf}
use Rattle.gh_parts.specs.Decided.{SuitsParts}
use Rattle.gh_parts.specs.MakingAll.{CanMakeAll, HasRoomFor}
use Rattle.gh_parts.specs.Past.{HasFewSeats, event_of}
use Rattle.gh_parts.specs.Stands.{Stands}
use Rattle.gh_parts.specs.declared.log.Logged.{Logged}
use Rattle.gh_parts.specs.declared.parts.Parts.{Parts}

-- a change of a call gives two references at most

one_or_none : (test : Bool) (a : Serial) → length (if test then [] else a ∷ []) ≤ 2
one_or_none true a = omega arith
one_or_none false a = omega arith

one_of_two : (test : Bool) (a b : Serial) → length (if test then a ∷ [] else b ∷ []) ≤ 2
one_of_two true a b = omega arith
one_of_two false a b = omega arith

one_or_two : (test : Bool) (a b : Serial) → length (a ∷ (if test then b ∷ [] else [])) ≤ 2
one_or_two true a b = omega arith
one_or_two false a b = omega arith

gains_few : (s : State) (one : Change) → is_of_calls one ≡ true → length (gains s one) ≤ 2
gains_few s (change.PutCapability row) calls = one_or_two row.valid row.cspace row.serial
gains_few s (change.AddObject row) calls = one_or_none _ row.partition
gains_few s (change.AddExtent row) calls = one_of_two _ row.serial row.parent
gains_few s (change.PutMapping row) calls = omega arith
gains_few s (change.AddPartition quota) calls = absurd (let never : ⊥ = cc in never)
gains_few s (change.AddRoot row) calls = absurd (let never : ⊥ = cc in never)
gains_few s (change.FillSlot row) calls = absurd (let never : ⊥ = cc in never)
gains_few s (change.AddCpu row) calls = absurd (let never : ⊥ = cc in never)
gains_few s (change.AddLink row) calls = absurd (let never : ⊥ = cc in never)
gains_few s _ calls = omega arith

more : {X : Type 0} (xs ys : List X) → length (xs ++ ys) ≡ length xs + length ys
more [] ys = omega arith
more (x ∷ xs) ys = let rest : length (xs ++ ys) ≡ length xs + length ys = more xs ys in omega arith

gained_few : (s : State) (changes : List Change) → IsTrue (list_all is_of_calls changes)
    → length (gained s changes) ≤ 2 * length changes
gained_few s [] calls = omega arith
gained_few s (one ∷ others) calls =
    let both = and_parts (is_of_calls one) (list_all is_of_calls others) calls in
    let rest : length (gained (changed s one) others) ≤ 2 * length others = gained_few (changed s one) others both.1 in
    omega (arith, gains_few s one both.0, more (gains s one) (gained (changed s one) others))

one_at_most : (test : Bool) → one_if test ≤ 1
one_at_most true = let one : one_if true ≡ 1 = refl in omega arith
one_at_most false = let none : one_if false ≡ 0 = refl in omega arith

-- no more pass a test than there are
pub count_few : {R : Type 0} (test : R → Bool) (rows : List R) → count_by test rows ≤ length rows
count_few test [] = omega arith
count_few test (row ∷ rows) = omega (arith, count_cons test row rows, one_at_most (test row), count_few test rows)

-- the CPUs and links stay few

seats_step : (s : State) (one : Change) → is_of_calls one ≡ true → HasFewSeats s → HasFewSeats (changed s one)
seats_step s (change.SetPages count) calls few = absurd (let never : ⊥ = cc in never)
seats_step s (change.AddPartition quota) calls few = absurd (let never : ⊥ = cc in never)
seats_step s (change.AddRoot row) calls few = absurd (let never : ⊥ = cc in never)
seats_step s (change.SetRoom queue depth size) calls few = absurd (let never : ⊥ = cc in never)
seats_step s (change.FillSlot row) calls few = absurd (let never : ⊥ = cc in never)
seats_step s (change.AddCpu row) calls few = absurd (let never : ⊥ = cc in never)
seats_step s (change.AddLink row) calls few = absurd (let never : ⊥ = cc in never)
seats_step s (change.Exit cpu) calls few =
    let same : count_by (λ (row : CpuRow). true) (changed s (change.Exit cpu)).cpus ≡ count_by (λ (row : CpuRow). true) s.cpus =
    count_change_kept (λ (row : CpuRow). true) (is_cpu cpu.0) as_exited s.cpus (λ row. refl) in
    record { cpus = omega (arith, same, ones (changed s (change.Exit cpu)).cpus, ones s.cpus, few.cpus); links = few.links }
seats_step s _ calls few = record { cpus = few.cpus; links = few.links }

seats_all : (s : State) (changes : List Change) → IsTrue (list_all is_of_calls changes) → HasFewSeats s
    → HasFewSeats (changed_all s changes)
seats_all s [] calls few = few
seats_all s (one ∷ others) calls few =
    let both = and_parts (is_of_calls one) (list_all is_of_calls others) calls in
    seats_all (changed s one) others both.1 (seats_step s one both.0 few)

-- an act

module _ (s : State) (logged : Logged) (changes : List Change) (act : IsActOf s logged changes) where
  pub act_may : IsValid s → MayChangeAll s changes
  act_may valid =
      subst (λ (decision : Decision). MayMake s decision) act.comes
      (decision_made s valid (has_moved s act.cpu.0 logged.call logged.words) act.cpu.0 logged.call logged.bytes
      (grants_of logged.call logged.words) act.fits)

  pub act_suits : SuitsParts changes
  act_suits =
      subst (λ (decision : Decision). SuitsParts (made_by decision)) act.comes
      (decision_suits s (has_moved s act.cpu.0 logged.call logged.words) act.cpu.0 logged.call logged.bytes
      (grants_of logged.call logged.words) act.fits.shape)

  act_calls : IsTrue (list_all is_of_calls changes)
  act_calls =
      subst (λ (decision : Decision). IsTrue (list_all is_of_calls (made_by decision))) act.comes
      (decision_sets s (has_moved s act.cpu.0 logged.call logged.words) act.cpu.0 logged.call logged.bytes
      (grants_of logged.call logged.words)).calls

  act_few : IsKept s → decide.MayMake s changes
  act_few kept =
      subst (λ (decision : Decision). decide.MayDecide s decision) act.comes
      (decision_may s (small_kept s kept) (has_moved s act.cpu.0 logged.call logged.words) act.cpu.0 logged.call logged.bytes
      (grants_of logged.call logged.words)).is

  -- the rows behind it
  pub act_after : after_event s (event_of logged) ≡ counted (changed_all s changes)
  act_after =
      ap (after_entry s (event_of logged)) act.entry
      ∙ ap (λ (may : Bool). if may then after_verdict s (verdict s (judged_by s act.cpu.0 (event_of logged))) else numbered s) act.allowed
      ∙ ap (λ (decision : Decision). after_verdict s (verdict s decision)) act.comes

  pub act_valid : IsValid s → IsValid (after_event s (event_of logged))
  act_valid valid = subst (λ (after : State). IsValid after) (sym act_after) (made_valid s valid changes (act_may valid))

  pub act_kept : IsKept s → IsKept (after_event s (event_of logged))
  act_kept kept = subst (λ (after : State). IsKept after) (sym act_after) (made_kept s changes (act_few kept) kept)

  pub act_seats : HasFewSeats s → HasFewSeats (after_event s (event_of logged))
  act_seats few =
      let all : HasFewSeats (changed_all s changes) = seats_all s changes act_calls few in
      subst (λ (after : State). HasFewSeats after) (sym act_after) (record { cpus = all.cpus; links = all.links })

  act_room : (parts : Parts) → Stands parts s → IsValid s → IsKept s → HasFewSeats s → s.entries < HISTORY_ENTRIES → HasRoomFor s changes
  act_room parts stands valid kept seats entries =
      let few : decide.MayMake s changes = act_few kept in
      record {
        entries = omega arith;
        serials = omega (arith, kept.serials, few.serials);
        rings = omega (arith, kept.rings, few.rings);
        references = λ object some. omega (
          arith,
          few_references s valid object,
          few_objects parts s stands valid,
          few_capabilities s valid,
          seats.cpus,
          seats.links,
          count_few (is_that object) (gained s changes),
          gained_few s changes act_calls,
          act_suits.few,
        );
      }

  -- so the parts can make its changes
  pub act_makes : (parts : Parts) → Stands parts s → IsValid s → IsKept s → HasFewSeats s → s.entries < HISTORY_ENTRIES
      → CanMakeAll parts s changes
  act_makes parts stands valid kept seats entries = record {
    stands = stands;
    valid = begins s valid;
    may = act_may valid;
    room = act_room parts stands valid kept seats entries;
    fit = act_suits.fit;
  }

-- a part

-- the rows behind it are those that it parts
pub part_after : (s : State) (logged : Logged) (cspace : Serial) (slot : ℕ) → IsPartOf s logged cspace slot
    → after_event s (event_of logged) ≡ parted s cspace slot
part_after s logged cspace slot part = ap (after_entry s (event_of logged)) part.entry

seats_if : (after other : State) (test : Bool) → HasFewSeats after → HasFewSeats other → HasFewSeats (if test then after else other)
seats_if after other true few also = few
seats_if after other false few also = also

pub part_seats : (s : State) (cspace : Serial) (slot : ℕ) → HasFewSeats s → HasFewSeats (parted s cspace slot)
part_seats s cspace slot few =
    seats_if (numbered (took (changed s (change.RevokeCapability cspace slot)) cspace slot)) (numbered s)
    (may_part (find (fills cspace.0 slot) s.caps))
    (record { cpus = few.cpus; links = few.links }) (record { cpus = few.cpus; links = few.links })
