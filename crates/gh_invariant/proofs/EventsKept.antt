-- What a decision leaves once it is done: a valid state, in which what had no references has none.
use Rattle.std.proofs.Common.{◌≡◌, ◌+◌, ◌<◌, ◌∙◌, ℕ, Bool, true, false, not, List, [], ◌∷◌, ◌++◌, refl, sym, ap, arith, IsTrue, find, if◌then◌else◌}
use Rattle.std.specs.Prelude.{◌&&◌, ◌||◌, ◌==◌, nat_le}
use Rattle.std.specs.List.{list_all}
use Rattle.std.proofs.lemmas.Bool.{and_parts, eqb-true}
use Rattle.std.proofs.lemmas.Bool.Decides.{nat_tests}
use Rattle.gh_base.specs.declared.ids.Serial.{Serial}
use Rattle.gh_model.specs.Changes.{changed, changed_all}
use Rattle.gh_model.specs.Act.{counted, grants_of}
use Rattle.gh_model.specs.Decide.{has_moved, verdict}
use Rattle.gh_model.specs.History.{Event, after_entry, after_event, after_verdict, is_retired, is_unretired, may_act, may_part, numbered, took}
use Rattle.gh_model.specs.QueueCalls.{one_if}
use Rattle.gh_model.specs.References.{is_doomed, references}
use Rattle.gh_model.specs.Rows.{fills, object_row}
use Rattle.gh_model.specs.declared.change.Change.{Change}
use Rattle.gh_model.specs.declared.change.Change.TheVariants as change
use Rattle.gh_model.specs.declared.change.Decision.{Decision}
use Rattle.gh_model.specs.declared.change.Decision.TheVariants.{Refuse, Unfinished, Make}
use Rattle.gh_model.specs.declared.entry.Entry.{Entry}
use Rattle.gh_model.specs.declared.entry.Entry.TheVariants.{Acted, Part, Retired, Reclaimed}
use Rattle.gh_model.specs.declared.state.State.{State}
use Rattle.gh_invariant.specs.Events.{EntryFits, EventFits, judged_by}
use Rattle.gh_invariant.specs.Effects.{gained, gains, is_that, losses, lost, times}
use Rattle.gh_invariant.specs.Grants.{GivesToReferred, MayMake, is_referred}
use Rattle.gh_invariant.specs.Premises.{MayChange}
use Rattle.gh_invariant.specs.Valid.{IsValid}
use Rattle.gh_invariant.proofs.ChangesInOrder.{references_all}
use Rattle.gh_invariant.proofs.Counting.{count_cons, one_false}
use Rattle.gh_invariant.proofs.DecisionGives.{decision_gives}
use Rattle.gh_invariant.proofs.DecisionMade.{decision_made}
use Rattle.gh_invariant.proofs.EntriesKept.{begins, made_valid, part_filled, parted_valid, reclaimed_valid, retired_valid, unmade_valid}

-- what has no references and is made isn't among objects that are referred to
other_by : (s : State) (object : ℕ) (serial : Serial) (here : Bool) → (serial.0 == object) ≡ here → IsTrue (is_referred s serial)
    → references s object ≡ 0 → object < s.next_serial → here ≡ false
other_by s object serial false is referred none made = refl
other_by s object serial true is referred none made =
    let same : serial.0 ≡ object = eqb-true serial.0 object is in
    let doomed : is_doomed s serial.0 ≡ true = ap (λ (n : ℕ). references s n == 0) same ∙ ap (λ (n : ℕ). n == 0) none in
    let later : nat_le s.next_serial serial.0 ≡ false = ap (nat_le s.next_serial) same ∙ above s.next_serial object made in
    absurd (let never : false ≡ true = sym (neither (is_doomed s serial.0) (nat_le s.next_serial serial.0) doomed later) ∙ referred in cc)
  where
    above : (a b : ℕ) → b < a → nat_le a b ≡ false
    above a b is = grind (arith, nat_tests)

    neither : (a b : Bool) → a ≡ true → b ≡ false → (not a || b) ≡ false
    neither true b first second = second
    neither false b first second = absurd (let never : ⊥ = cc in never)

pub not_given : (s : State) (object : ℕ) (serials : List Serial) → IsTrue (list_all (is_referred s) serials)
    → references s object ≡ 0 → object < s.next_serial → times object serials ≡ 0
not_given s object [] all none made = refl
not_given s object (serial ∷ serials) all none made =
    let both = and_parts (is_referred s serial) (list_all (is_referred s) serials) all in
    let other : (serial.0 == object) ≡ false = other_by s object serial (serial.0 == object) refl both.0 none made in
    let first : times object (serial ∷ serials) ≡ one_if (serial.0 == object) + times object serials = count_cons (is_that object) serial serials in
    let zero : one_if (serial.0 == object) ≡ 0 = one_false (serial.0 == object) other in
    let others : times object serials ≡ 0 = not_given s object serials both.1 none made in
    omega arith

module _ (s : State) (valid : IsValid s) where
  -- a decision that may be made leaves a valid state
  pub decided_valid : (decision : Decision) → MayMake s decision → IsValid (after_verdict s (verdict s decision))
  decided_valid (Refuse errno) may = unmade_valid s valid
  decided_valid Unfinished may = unmade_valid s valid
  decided_valid (Make changes reply) may = made_valid s valid changes may

  -- what had no references has none
  pub decided_doomed : (decision : Decision) → MayMake s decision → GivesToReferred s decision → (object : ℕ) → 0 < object
      → object < s.next_serial → references s object ≡ 0 → references (after_verdict s (verdict s decision)) object ≡ 0
  decided_doomed (Refuse errno) may gives object some made none = none
  decided_doomed Unfinished may gives object some made none = none
  decided_doomed (Make changes reply) may gives object some made none =
      let moved : references (changed_all s changes) object + times object (lost s changes) ≡ references s object + times object (gained s changes) =
      references_all (s.entries + 1) s changes object some (omega arith) (begins s valid) may in
      let given : times object (gained s changes) ≡ 0 = not_given s object (gained s changes) gives none made in
      omega arith

-- an act that is allowed or not
acted_valid_by : (s : State) → IsValid s → (allowed : Bool) (decision : Decision) → MayMake s decision
    → IsValid (if allowed then after_verdict s (verdict s decision) else numbered s)
acted_valid_by s valid true decision may = decided_valid s valid decision may
acted_valid_by s valid false decision may = unmade_valid s valid

acted_doomed_by : (s : State) → IsValid s → (allowed : Bool) (decision : Decision) → MayMake s decision → GivesToReferred s decision
    → (object : ℕ) → 0 < object → object < s.next_serial → references s object ≡ 0
    → references (if allowed then after_verdict s (verdict s decision) else numbered s) object ≡ 0
acted_doomed_by s valid true decision may gives object some made none = decided_doomed s valid decision may gives object some made none
acted_doomed_by s valid false decision may gives object some made none = none

module _ (s : State) (valid : IsValid s) (event : Event) where
  entry_valid : (entry : Entry) → EntryFits s event entry → IsValid (after_entry s event entry)
  entry_valid (Acted cpu number) may =
      acted_valid_by s valid (may_act s cpu.0 event.call event.words) (judged_by s cpu.0 event)
      (decision_made s valid (has_moved s cpu.0 event.call event.words) cpu.0 event.call event.bytes (grants_of event.call event.words) may)
  entry_valid (Part cpu number space slot) fits = parted_valid s valid space slot
  entry_valid (Retired serial seen) fits = retired_valid s valid serial seen
  entry_valid (Reclaimed serial seen) fits = reclaimed_valid s valid serial

  -- a change that gives nothing leaves what had no references without any
  none_left : (change : Change) → MayChange s change → gains s change ≡ [] → (object : ℕ) → 0 < object
      → references s object ≡ 0 → references (changed s change) object ≡ 0
  none_left change may nothing object some none =
      let moved : references (changed s change) object + times object (losses s change ++ []) ≡ references s object + times object (gains s change ++ []) =
      references_all (s.entries + 1) s (change ∷ []) object some (omega arith) (begins s valid) (record { first = may; others = tt }) in
      let given : times object (gains s change ++ []) ≡ 0 = ap (λ (serials : List Serial). times object (serials ++ [])) nothing in
      omega arith

  part_doomed : (space : Serial) (slot : ℕ) (allowed : Bool) → may_part (find (fills space.0 slot) s.caps) ≡ allowed → (object : ℕ)
      → 0 < object → references s object ≡ 0
      → references (if allowed then numbered (took (changed s (change.RevokeCapability space slot)) space slot) else numbered s) object ≡ 0
  part_doomed space slot true may object some none =
      none_left (change.RevokeCapability space slot) (part_filled (find (fills space.0 slot) s.caps) may) refl object some none
  part_doomed space slot false may object some none = none

  retire_doomed : (serial : Serial) (seen : List ℕ) (allowed : Bool) → (is_doomed s serial.0 && is_unretired (object_row s serial.0)) ≡ allowed
      → (object : ℕ) → 0 < object → references s object ≡ 0
      → references (if allowed then counted (changed s (change.Retire serial seen)) else numbered s) object ≡ 0
  retire_doomed serial seen true may object some none =
      let both = and_parts (is_doomed s serial.0) (is_unretired (object_row s serial.0)) may in
      none_left (change.Retire serial seen) (record { lives = both.1; doomed = eqb-true (references s serial.0) 0 both.0 }) refl object some none
  retire_doomed serial seen false may object some none = none

  reclaim_doomed : (serial : Serial) (allowed : Bool) → (is_doomed s serial.0 && is_retired (object_row s serial.0)) ≡ allowed
      → (object : ℕ) → 0 < object → references s object ≡ 0
      → references (if allowed then counted (changed s (change.Reclaim serial)) else numbered s) object ≡ 0
  reclaim_doomed serial true may object some none =
      let both = and_parts (is_doomed s serial.0) (is_retired (object_row s serial.0)) may in
      none_left (change.Reclaim serial) (record { retired = both.1; doomed = eqb-true (references s serial.0) 0 both.0 }) refl object some none
  reclaim_doomed serial false may object some none = none

  entry_doomed : (entry : Entry) → EntryFits s event entry → (object : ℕ) → 0 < object → object < s.next_serial
      → references s object ≡ 0 → references (after_entry s event entry) object ≡ 0
  entry_doomed (Acted cpu number) may object some made none =
      acted_doomed_by s valid (may_act s cpu.0 event.call event.words) (judged_by s cpu.0 event)
      (decision_made s valid (has_moved s cpu.0 event.call event.words) cpu.0 event.call event.bytes (grants_of event.call event.words) may)
      (decision_gives s (has_moved s cpu.0 event.call event.words) cpu.0 event.call event.bytes (grants_of event.call event.words) may)
      object some made none
  entry_doomed (Part cpu number space slot) fits object some made none =
      part_doomed space slot (may_part (find (fills space.0 slot) s.caps)) refl object some none
  entry_doomed (Retired serial seen) fits object some made none =
      retire_doomed serial seen (is_doomed s serial.0 && is_unretired (object_row s serial.0)) refl object some none
  entry_doomed (Reclaimed serial seen) fits object some made none =
      reclaim_doomed serial (is_doomed s serial.0 && is_retired (object_row s serial.0)) refl object some none

-- an event leaves a valid state
pub event_valid : (s : State) (event : Event) → IsValid s → EventFits s event → IsValid (after_event s event)
event_valid s event valid fits = entry_valid s valid event event.entry fits

-- what is doomed stays doomed
pub event_doomed : (s : State) (event : Event) (object : ℕ) → IsValid s → EventFits s event → 0 < object → object < s.next_serial
    → references s object ≡ 0 → references (after_event s event) object ≡ 0
event_doomed s event object valid fits some made none = entry_doomed s valid event event.entry fits object some made none
