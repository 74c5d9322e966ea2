-- An event sets one slot at most, and that slot's setting is the event's number.
use Rattle.std.proofs.Common.{◌≡◌, ◌+◌, ◌≤◌, ◌∙◌, ℕ, Bool, true, false, not, List, [], ◌∷◌, refl, ap, arith, IsTrue, Option, Some, None, find, if◌then◌else◌}
use Rattle.std.specs.Prelude.{◌&&◌, ◌||◌, is_some}
use Rattle.std.specs.List.{list_all, list_any}
use Rattle.std.proofs.lemmas.Bool.{and_parts, eqb-true}
use Rattle.gh_base.specs.declared.ids.Serial.{Serial}
use Rattle.gh_model.specs.Act.{grants_of}
use Rattle.gh_model.specs.Changes.{changed, changed_all}
use Rattle.gh_model.specs.Decide.{has_moved}
use Rattle.gh_model.specs.Decisions.{grant_at}
use Rattle.gh_model.specs.History.{Event, after_event, is_retired, is_unretired, may_act, may_part}
use Rattle.gh_model.specs.QueueCalls.{one_if}
use Rattle.gh_model.specs.References.{is_doomed, references}
use Rattle.gh_model.specs.Rows.{fills, object_row}
use Rattle.gh_model.specs.Word.{is_slot, word_at}
use Rattle.gh_model.specs.declared.change.Change.{Change}
use Rattle.gh_model.specs.declared.change.Change.TheVariants as change
use Rattle.gh_model.specs.declared.change.Decision.{Decision}
use Rattle.gh_model.specs.declared.change.Decision.TheVariants.{Refuse, Unfinished, Make}
use Rattle.gh_model.specs.declared.entry.Entry.{Entry}
use Rattle.gh_model.specs.declared.entry.Entry.TheVariants.{Acted, Part, Retired, Reclaimed}
use Rattle.gh_model.specs.declared.state.State.{State}
use Rattle.gh_model.specs.declared.word.Word.{Word}
use Rattle.gh_model.proofs.RoomLemmas.{change_counts}
use Rattle.gh_invariant.specs.Effects.{is_place, leaves_in, sets, sets_last, sets_slot, sets_some, slots_set}
use Rattle.gh_invariant.specs.Events.{EntryFits, EventFits, changes_of, entry_changes, judged_by, made_by}
use Rattle.gh_invariant.specs.Grants.{MayMake}
use Rattle.gh_invariant.specs.Premises.{MayChangeAll}
use Rattle.gh_invariant.specs.Valid.{IsValid}
use Rattle.gh_invariant.proofs.Counting.{count_cons, one_false}
use Rattle.gh_invariant.proofs.DecisionMade.{decision_made}
use Rattle.gh_invariant.proofs.EntriesKept.{part_filled}
use Rattle.gh_invariant.proofs.FactLemmas.{entry_word}
use Rattle.gh_invariant.proofs.SetsOne.{SetsOne, decision_sets, is_of_calls, may_exit}
use Rattle.gh_invariant.proofs.WordsLeft.{slot_set, word_set}

at_most_one : (b : Bool) → one_if b ≤ 1
at_most_one true = let one : one_if true ≡ 1 = refl in omega arith
at_most_one false = let zero : one_if false ≡ 0 = refl in omega arith

not_true : (b : Bool) → not b ≡ true → b ≡ false
not_true true is = absurd (let never : ⊥ = cc in never)
not_true false is = refl

-- changes of which only the last sets a slot set one at most
last_few : (changes : List Change) → IsTrue (sets_last changes) → slots_set changes ≤ 1
last_few [] last = omega arith
last_few (one ∷ []) last =
    let all : slots_set (one ∷ []) ≡ one_if (sets_some one) + slots_set [] = count_cons sets_some one [] in
    let none : slots_set [] ≡ 0 = refl in
    let few : one_if (sets_some one) ≤ 1 = at_most_one (sets_some one) in
    omega arith
last_few (one ∷ next ∷ changes) last =
    let both = and_parts (not (sets_some one)) (sets_last (next ∷ changes)) last in
    let all : slots_set (one ∷ next ∷ changes) ≡ one_if (sets_some one) + slots_set (next ∷ changes) = count_cons sets_some one (next ∷ changes) in
    let none : one_if (sets_some one) ≡ 0 = one_false (sets_some one) (not_true (sets_some one) both.0) in
    let others : slots_set (next ∷ changes) ≤ 1 = last_few (next ∷ changes) both.1 in
    omega arith

-- a change that sets no slot doesn't set this one
sets_none_by : (cspace slot : ℕ) (one : Change) (place : Option (ℕ × ℕ)) → sets one ≡ place → is_some place ≡ false → sets_slot cspace slot one ≡ false
sets_none_by cspace slot one None is none = ap (is_place cspace slot) is
sets_none_by cspace slot one (Some place) is none = absurd (let never : ⊥ = cc in never)

or_later : (here others : Bool) → here ≡ false → (here || others) ≡ true → others ≡ true
or_later true others is either = absurd (let never : ⊥ = cc in never)
or_later false others is either = either

or_none : (here : Bool) → (here || false) ≡ true → here ≡ true
or_none true is = refl
or_none false is = is

-- the slot that is set gets the number of the next entry
set_number : (s : State) (changes : List Change) (cspace slot : ℕ) → MayChangeAll s changes → IsTrue (sets_last changes) → IsTrue (is_slot slot)
    → IsTrue (list_any (sets_slot cspace slot) changes) → (word_at (changed_all s changes) cspace slot).set_at ≡ s.entries + 1
set_number s [] cspace slot may last is set = absurd (let never : ⊥ = cc in never)
set_number s (one ∷ []) cspace slot may last is set =
    ap (λ (word : Word). word.set_at)
    (word_set s (changed s one) cspace slot (leaves_in s one) is (slot_set s one cspace slot may.first (or_none (sets_slot cspace slot one) set)))
set_number s (one ∷ next ∷ changes) cspace slot may last is set =
    let both = and_parts (not (sets_some one)) (sets_last (next ∷ changes)) last in
    let other : sets_slot cspace slot one ≡ false = sets_none_by cspace slot one (sets one) refl (not_true (sets_some one) both.0) in
    let later : IsTrue (list_any (sets_slot cspace slot) (next ∷ changes)) = or_later (sets_slot cspace slot one) _ other set in
    let rest : (word_at (changed_all (changed s one) (next ∷ changes)) cspace slot).set_at ≡ (changed s one).entries + 1 =
    set_number (changed s one) (next ∷ changes) cspace slot may.others both.1 is later in
    rest ∙ ap (λ (n : ℕ). n + 1) (change_counts s one).entries

-- an event's changes set a slot by the last of them at most, and are none of boot lines alone
if_holds : (test : List Change → Bool) (allowed : Bool) (changes : List Change) → IsTrue (test []) → IsTrue (test changes)
    → IsTrue (test (if allowed then changes else []))
if_holds test true changes none holds = holds
if_holds test false changes none holds = none

-- what holds of the changes of a decision, and of each that the other entries make, holds of an entry's
entry_holds : (test : List Change → Bool) (s : State) (event : Event) (entry : Entry)
    → IsTrue (test []) → ((cpu : ℕ) → IsTrue (test (made_by (judged_by s cpu event))))
    → ((space : Serial) (n : ℕ) → IsTrue (test (change.RevokeCapability space n ∷ [])))
    → ((serial : Serial) (seen : List ℕ) → IsTrue (test (change.Retire serial seen ∷ [])))
    → ((serial : Serial) → IsTrue (test (change.Reclaim serial ∷ [])))
    → IsTrue (test (entry_changes s event entry))
entry_holds test s event (Acted cpu number) none acted parted retired reclaimed =
    if_holds test (may_act s cpu.0 event.call event.words) (made_by (judged_by s cpu.0 event)) none (acted cpu.0)
entry_holds test s event (Part cpu number space n) none acted parted retired reclaimed =
    if_holds test (may_part (find (fills space.0 n) s.caps)) (change.RevokeCapability space n ∷ []) none (parted space n)
entry_holds test s event (Retired serial seen) none acted parted retired reclaimed =
    if_holds test (is_doomed s serial.0 && is_unretired (object_row s serial.0)) (change.Retire serial seen ∷ []) none (retired serial seen)
entry_holds test s event (Reclaimed serial seen) none acted parted retired reclaimed =
    if_holds test (is_doomed s serial.0 && is_retired (object_row s serial.0)) (change.Reclaim serial ∷ []) none (reclaimed serial)

-- what a call comes to
pub judged_sets : (s : State) (cpu : ℕ) (event : Event)
    → SetsOne s cpu (may_exit event.call) (grant_at (grants_of event.call event.words) 1).0 (judged_by s cpu event)
judged_sets s cpu event =
    decision_sets s (has_moved s cpu event.call event.words) cpu event.call event.bytes (grants_of event.call event.words)

entry_last : (s : State) (event : Event) (entry : Entry) → IsTrue (sets_last (entry_changes s event entry))
entry_last s event entry =
    entry_holds sets_last s event entry refl (λ cpu. (judged_sets s cpu event).last) (λ space n. refl) (λ serial seen. refl) (λ serial. refl)

pub entry_of_calls : (s : State) (event : Event) (entry : Entry) → IsTrue (list_all is_of_calls (entry_changes s event entry))
entry_of_calls s event entry =
    entry_holds (list_all is_of_calls) s event entry refl (λ cpu. (judged_sets s cpu event).calls) (λ space n. refl) (λ serial seen. refl) (λ serial. refl)

pub event_of_calls : (s : State) (event : Event) → IsTrue (list_all is_of_calls (changes_of s event))
event_of_calls s event = entry_of_calls s event event.entry

pub event_sets_few : (s : State) (event : Event) → slots_set (changes_of s event) ≤ 1
event_sets_few s event = last_few (changes_of s event) (entry_last s event event.entry)

-- the changes that an event makes may be made
made_may : (s : State) (decision : Decision) → MayMake s decision → MayChangeAll s (made_by decision)
made_may s (Refuse errno) may = tt
made_may s Unfinished may = tt
made_may s (Make changes reply) may = may

if_may : (s : State) (allowed : Bool) (changes : List Change) → (allowed ≡ true → MayChangeAll s changes)
    → MayChangeAll s (if allowed then changes else [])
if_may s true changes may = may refl
if_may s false changes may = tt

entry_may : (s : State) (event : Event) (entry : Entry) → IsValid s → EntryFits s event entry → MayChangeAll s (entry_changes s event entry)
entry_may s event (Acted cpu number) valid fits =
    if_may s (may_act s cpu.0 event.call event.words) (made_by (judged_by s cpu.0 event)) (λ allowed.
    made_may s (judged_by s cpu.0 event)
    (decision_made s valid (has_moved s cpu.0 event.call event.words) cpu.0 event.call event.bytes (grants_of event.call event.words) fits))
entry_may s event (Part cpu number space n) valid fits =
    if_may s (may_part (find (fills space.0 n) s.caps)) (change.RevokeCapability space n ∷ []) (λ allowed.
    record { first = part_filled (find (fills space.0 n) s.caps) allowed; others = tt })
entry_may s event (Retired serial seen) valid fits =
    if_may s (is_doomed s serial.0 && is_unretired (object_row s serial.0)) (change.Retire serial seen ∷ []) (λ allowed.
    let both = and_parts (is_doomed s serial.0) (is_unretired (object_row s serial.0)) allowed in
    record { first = record { lives = both.1; doomed = eqb-true (references s serial.0) 0 both.0 }; others = tt })
entry_may s event (Reclaimed serial seen) valid fits =
    if_may s (is_doomed s serial.0 && is_retired (object_row s serial.0)) (change.Reclaim serial ∷ []) (λ allowed.
    let both = and_parts (is_doomed s serial.0) (is_retired (object_row s serial.0)) allowed in
    record { first = record { retired = both.1; doomed = eqb-true (references s serial.0) 0 both.0 }; others = tt })

pub event_may : (s : State) (event : Event) → IsValid s → EventFits s event → MayChangeAll s (changes_of s event)
event_may s event valid fits = entry_may s event event.entry valid fits

-- the slot that an event sets gets the event's number
pub event_numbers : (s : State) (event : Event) (cspace slot : ℕ) → IsValid s → EventFits s event → IsTrue (is_slot slot)
    → IsTrue (list_any (sets_slot cspace slot) (changes_of s event))
    → (word_at (after_event s event) cspace slot).set_at ≡ s.entries + 1
event_numbers s event cspace slot valid fits is set =
    ap (λ (word : Word). word.set_at) (entry_word s event event.entry cspace slot)
    ∙ set_number s (changes_of s event) cspace slot (event_may s event valid fits) (entry_last s event event.entry) is set
