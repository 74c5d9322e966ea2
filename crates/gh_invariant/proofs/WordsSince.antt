-- A slot's word stands from the entry that set it on.
use Rattle.std.proofs.Common.{◌≡◌, ◌+◌, ◌<◌, ◌≤◌, ◌∙◌, ◌⊎◌, inl, inr, ℕ, zero, suc, Bool, true, false, not, List, [], ◌∷◌, length, Option, refl, subst, sym, ap, arith, IsTrue, Some, None, find, is_some, option_map, if◌then◌else◌}
use Rattle.std.specs.Prelude.{◌&&◌, ◌||◌, ◌==◌}
use Rattle.std.specs.List.{list_all, list_any}
use Rattle.std.proofs.lemmas.Bool.{and_parts, eqb-true}
use Rattle.gh_model.specs.Act.{counted}
use Rattle.gh_model.specs.Changes.{changed, changed_all, without}
use Rattle.gh_model.specs.Decide.{verdict}
use Rattle.gh_model.specs.History.{Event, after_entry, after_event, after_verdict, is_retired, is_unretired, may_act, may_part, numbered, replay, state_at, took}
use Rattle.gh_model.specs.References.{is_doomed}
use Rattle.gh_model.specs.Rows.{fills, is_object, object_row}
use Rattle.gh_model.specs.Word.{is_slot, word_at}
use Rattle.gh_model.specs.declared.change.Change.{Change}
use Rattle.gh_model.specs.declared.change.Change.TheVariants as change
use Rattle.gh_model.specs.declared.change.Decision.{Decision}
use Rattle.gh_model.specs.declared.change.Decision.TheVariants.{Refuse, Unfinished, Make}
use Rattle.gh_model.specs.declared.entry.Entry.{Entry}
use Rattle.gh_model.specs.declared.entry.Entry.TheVariants.{Acted, Part, Retired, Reclaimed}
use Rattle.gh_model.specs.declared.rows.ObjectRow.{ObjectRow}
use Rattle.gh_model.specs.declared.state.State.{State}
use Rattle.gh_model.specs.declared.word.Word.{Word}
use Rattle.gh_model.proofs.RoomLemmas.{changes_count}
use Rattle.gh_invariant.specs.Effects.{leaves, sets_slot}
use Rattle.gh_invariant.specs.Events.{EventFits, EventsFit, changes_of, judged_by}
use Rattle.gh_invariant.specs.NamesLiving.{living_kind, row_kind}
use Rattle.gh_invariant.specs.Premises.{MayChangeAll}
use Rattle.gh_invariant.specs.Valid.{IsValid}
use Rattle.gh_invariant.proofs.EventWords.{event_may, event_numbers, event_of_calls}
use Rattle.gh_invariant.proofs.EventsKept.{event_valid}
use Rattle.gh_invariant.proofs.FactLemmas.{event_leaves}
use Rattle.gh_invariant.proofs.GrantsStay.{replay_kind}
use Rattle.gh_invariant.proofs.HistoriesKept.{entry_rises, serial_rises}
use Rattle.gh_invariant.proofs.KindsStay.{changes_kind, entry_objects}
use Rattle.gh_invariant.proofs.RowsLeft.{find_gone}
use Rattle.gh_invariant.proofs.SetsOne.{is_of_calls}

-- an entry counts as one

decided_counts : (s : State) (decision : Decision)
    → (after_verdict s (verdict s decision)).entries ≡ s.entries + 1
decided_counts s (Refuse errno) = refl
decided_counts s Unfinished = refl
decided_counts s (Make changes reply) = ap (λ (n : ℕ). n + 1) (changes_count s changes).entries

either_counts : (n : ℕ) (allowed : Bool) (new old : State) → new.entries ≡ n → old.entries ≡ n
    → (let after : State = if allowed then new else old in after).entries ≡ n
either_counts n true new old is was = is
either_counts n false new old is was = was

pub entry_counts : (s : State) (event : Event) (entry : Entry)
    → (after_entry s event entry).entries ≡ s.entries + 1
entry_counts s event (Acted cpu number) =
    either_counts (s.entries + 1) (may_act s cpu.0 event.call event.words)
    (after_verdict s (verdict s (judged_by s cpu.0 event))) (numbered s)
    (decided_counts s (judged_by s cpu.0 event)) refl
entry_counts s event (Part cpu number space slot) =
    either_counts (s.entries + 1) (may_part (find (fills space.0 slot) s.caps))
    (numbered (took (changed s (change.RevokeCapability space slot)) space slot)) (numbered s)
    refl refl
entry_counts s event (Retired serial seen) =
    either_counts (s.entries + 1) (is_doomed s serial.0 && is_unretired (object_row s serial.0))
    (counted (changed s (change.Retire serial seen))) (numbered s) refl refl
entry_counts s event (Reclaimed serial seen) =
    either_counts (s.entries + 1) (is_doomed s serial.0 && is_retired (object_row s serial.0))
    (counted (changed s (change.Reclaim serial))) (numbered s) refl refl

-- what a change that doesn't leave a slot does: it sets the slot, or takes its space away

-- the space lives no more
abbrev pub IsGone : State → ℕ → Type 0
IsGone s space = living_kind s.objects space ≡ None

abbrev pub Touches : State → State → Bool → Bool → ℕ → Type 0
Touches s new left set space = (left ≡ true) ⊎ ((set ≡ true) ⊎ IsGone new space)

by_set : (s new : State) (set : Bool) (space : ℕ) → Touches s new (not set) set space
by_set s new true space = inr (inl refl)
by_set s new false space = inl refl

by_reclaim : (s : State) (object space : ℕ) (here : Bool) → (object == space) ≡ here
    → (not here ≡ true) ⊎ (living_kind (without (is_object object) s.objects) space ≡ None)
by_reclaim s object space false other = inl refl
by_reclaim s object space true is =
    let same : object ≡ space = eqb-true object space is in
    inr (ap (option_map row_kind)
    (find_gone (is_object space) (is_object object) s.objects
    (λ row other. subst (λ (n : ℕ). (row.serial.0 == n) ≡ false) same other)))

reclaim_touches : (s : State) (object space : ℕ) (left : Bool)
    → (left ≡ true) ⊎ (living_kind (without (is_object object) s.objects) space ≡ None)
    → (left ≡ true) ⊎ ((false ≡ true) ⊎ (living_kind (without (is_object object) s.objects) space ≡ None))
reclaim_touches s object space left (inl stays) = inl stays
reclaim_touches s object space left (inr gone) = inr (inr gone)

touches : (s : State) (one : Change) (space slot : ℕ) → is_of_calls one ≡ true
    → Touches s (changed s one) (leaves space slot one) (sets_slot space slot one) space
touches s (change.Reclaim object) space slot calls =
    reclaim_touches s object.0 space (leaves space slot (change.Reclaim object))
    (by_reclaim s object.0 space (object.0 == space) refl)
touches s (change.AddObject row) space slot calls =
    by_set s (changed s (change.AddObject row)) (sets_slot space slot (change.AddObject row)) space
touches s (change.PutCapability row) space slot calls =
    by_set s (changed s (change.PutCapability row)) (sets_slot space slot (change.PutCapability row)) space
touches s (change.DropCapability cspace n) space slot calls =
    by_set s (changed s (change.DropCapability cspace n)) (sets_slot space slot (change.DropCapability cspace n)) space
touches s (change.RevokeCapability cspace n) space slot calls =
    by_set s (changed s (change.RevokeCapability cspace n)) (sets_slot space slot (change.RevokeCapability cspace n)) space
touches s (change.SetStage object stage) space slot calls =
    by_set s (changed s (change.SetStage object stage)) (sets_slot space slot (change.SetStage object stage)) space
touches s (change.Retire object seen) space slot calls =
    by_set s (changed s (change.Retire object seen)) (sets_slot space slot (change.Retire object seen)) space
touches s (change.GiveQuota partition quota) space slot calls =
    by_set s (changed s (change.GiveQuota partition quota)) (sets_slot space slot (change.GiveQuota partition quota)) space
touches s (change.AddExtent row) space slot calls =
    by_set s (changed s (change.AddExtent row)) (sets_slot space slot (change.AddExtent row)) space
touches s (change.MovePages first count holder) space slot calls =
    by_set s (changed s (change.MovePages first count holder)) (sets_slot space slot (change.MovePages first count holder)) space
touches s (change.PutMapping row) space slot calls =
    by_set s (changed s (change.PutMapping row)) (sets_slot space slot (change.PutMapping row)) space
touches s (change.DropMapping row) space slot calls =
    by_set s (changed s (change.DropMapping row)) (sets_slot space slot (change.DropMapping row)) space
touches s (change.SetBell row) space slot calls =
    by_set s (changed s (change.SetBell row)) (sets_slot space slot (change.SetBell row)) space
touches s (change.ConfigureQueue queue depth size cost) space slot calls =
    by_set s (changed s (change.ConfigureQueue queue depth size cost)) (sets_slot space slot (change.ConfigureQueue queue depth size cost)) space
touches s (change.PutMessage queue message) space slot calls =
    by_set s (changed s (change.PutMessage queue message)) (sets_slot space slot (change.PutMessage queue message)) space
touches s (change.DropMessage queue) space slot calls =
    by_set s (changed s (change.DropMessage queue)) (sets_slot space slot (change.DropMessage queue)) space
touches s (change.EmptyQueue queue) space slot calls =
    by_set s (changed s (change.EmptyQueue queue)) (sets_slot space slot (change.EmptyQueue queue)) space
touches s (change.Exit cpu) space slot calls =
    by_set s (changed s (change.Exit cpu)) (sets_slot space slot (change.Exit cpu)) space
touches s change.Ring space slot calls = inl refl
touches s _ space slot calls = absurd (let never : ⊥ = cc in never)

-- changes in order

left_rest : (here rest : Bool) → here ≡ true → (here && rest) ≡ false → rest ≡ false
left_rest true rest is both = both
left_rest false rest is both = absurd (let never : ⊥ = cc in never)

either_first : (here rest : Bool) → here ≡ true → (here || rest) ≡ true
either_first true rest is = refl
either_first false rest is = absurd (let never : ⊥ = cc in never)

either_rest : (here rest : Bool) → rest ≡ true → (here || rest) ≡ true
either_rest true rest is = refl
either_rest false rest is = is

gone_stays : (old new : List ObjectRow) (space : ℕ) → living_kind old space ≡ None
    → (living_kind new space ≡ None) ⊎ (living_kind new space ≡ living_kind old space)
    → living_kind new space ≡ None
gone_stays old new space gone (inl none) = none
gone_stays old new space gone (inr same) = same ∙ gone

-- of changes that don't all leave a slot one sets it, or its space lives no more behind them
all_touch : (s : State) (changes : List Change) (space slot : ℕ) → space < s.next_serial
    → MayChangeAll s changes → IsTrue (list_all is_of_calls changes)
    → list_all (leaves space slot) changes ≡ false
    → (list_any (sets_slot space slot) changes ≡ true) ⊎ IsGone (changed_all s changes) space
all_touch s [] space slot made may calls left = absurd (let never : ⊥ = cc in never)
all_touch s (one ∷ others) space slot made may calls left =
    let both : (is_of_calls one ≡ true) × (list_all is_of_calls others ≡ true) = and_parts _ _ calls in
    elim (touches s one space slot both.0) as (λ _. (list_any (sets_slot space slot) (one ∷ others) ≡ true)
    ⊎ IsGone (changed_all s (one ∷ others)) space) [
      | inl leaves_it ↦
          elim (all_touch (changed s one) others space slot (rises s one space made) may.others both.1
          (left_rest (leaves space slot one) (list_all (leaves space slot) others) leaves_it left))
          as (λ _. (list_any (sets_slot space slot) (one ∷ others) ≡ true)
          ⊎ IsGone (changed_all s (one ∷ others)) space) [
            | inl later ↦ inl (either_rest (sets_slot space slot one) (list_any (sets_slot space slot) others) later)
            | inr gone ↦ inr gone
          ]
      | inr touched ↦
          elim touched as (λ _. (list_any (sets_slot space slot) (one ∷ others) ≡ true)
          ⊎ IsGone (changed_all s (one ∷ others)) space) [
            | inl sets ↦ inl (either_first (sets_slot space slot one) (list_any (sets_slot space slot) others) sets)
            | inr gone ↦ inr (gone_stays (changed s one).objects (changed_all (changed s one) others).objects space gone
                (changes_kind (changed s one) others space (rises s one space made) may.others))
          ]
    ]
  where
    rises : (s : State) (one : Change) (space : ℕ) → space < s.next_serial
        → space < (changed s one).next_serial
    rises s one space made =
        let more : s.next_serial ≤ (changed s one).next_serial = serial_rises s one in omega arith

-- so it is of an event
event_touches : (s : State) (event : Event) (space slot : ℕ) → IsValid s → EventFits s event
    → space < s.next_serial → list_all (leaves space slot) (changes_of s event) ≡ false
    → (list_any (sets_slot space slot) (changes_of s event) ≡ true) ⊎ IsGone (after_event s event) space
event_touches s event space slot valid fits made left =
    subst (λ (objects : List ObjectRow).
    (list_any (sets_slot space slot) (changes_of s event) ≡ true) ⊎ (living_kind objects space ≡ None))
    (sym (entry_objects s event event.entry))
    (all_touch s (changes_of s event) space slot made (event_may s event valid fits) (event_of_calls s event) left)

-- the word behind an event is that before it, where its setting isn't the event's
event_stands : (s : State) (event : Event) (space slot : ℕ) (left : Bool) → IsValid s → EventFits s event
    → space < s.next_serial → IsTrue (is_slot slot)
    → list_all (leaves space slot) (changes_of s event) ≡ left
    → is_some (living_kind (after_event s event).objects space) ≡ true
    → (word_at (after_event s event) space slot).set_at ≤ s.entries
    → word_at (after_event s event) space slot ≡ word_at s space slot
event_stands s event space slot true valid fits made is left lives before =
    event_leaves s event space slot left
event_stands s event space slot false valid fits made is left lives before =
    elim (event_touches s event space slot valid fits made left)
    as (λ _. word_at (after_event s event) space slot ≡ word_at s space slot) [
      | inl sets ↦
          let number : (word_at (after_event s event) space slot).set_at ≡ s.entries + 1 = event_numbers s event space slot valid fits is sets in
          absurd (omega (arith, number, before))
      | inr gone ↦ absurd (none_lives (living_kind (after_event s event).objects space) gone lives)
    ]
  where
    none_lives : {X : Type 0} (found : Option X) → found ≡ None → is_some found ≡ true → ⊥
    none_lives None none lives = let never : ⊥ = cc in never
    none_lives (Some x) none lives = let never : ⊥ = cc in never

-- what lives at the end was there all the time
lives_before : (s : State) (events : List Event) (space : ℕ) → IsValid s → EventsFit s events
    → space < s.next_serial → is_some (living_kind (replay s events).objects space) ≡ true
    → is_some (living_kind s.objects space) ≡ true
lives_before s events space valid fits made lives =
    by_kinds (replay_kind s events space valid fits made) lives
  where
    by_kinds : {X : Type 0} {old new : Option X} → (new ≡ None) ⊎ (new ≡ old) → is_some new ≡ true → is_some old ≡ true
    by_kinds (inl none) lives = absurd (let never : false ≡ true = sym (ap is_some none) ∙ lives in let no : ⊥ = cc in no)
    by_kinds (inr same) lives = sym (ap is_some same) ∙ lives

-- a slot's word in the last state is its word in each state from its setting on
slot_since : (s : State) (events : List Event) (space slot n : ℕ) → IsValid s → EventsFit s events
    → space < s.next_serial → IsTrue (is_slot slot)
    → is_some (living_kind (replay s events).objects space) ≡ true
    → (word_at (replay s events) space slot).set_at ≤ s.entries + n → n ≤ length events
    → word_at (state_at s events n) space slot ≡ word_at (replay s events) space slot
slot_since s [] space slot zero valid fits made is lives since within = refl
slot_since s [] space slot (suc n) valid fits made is lives since within = absurd (omega (arith, within))
slot_since s (event ∷ events) space slot (suc n) valid fits made is lives since within =
    let rises : s.next_serial ≤ (after_event s event).next_serial = entry_rises s event event.entry in
    let counts : (after_event s event).entries ≡ s.entries + 1 = entry_counts s event event.entry in
    slot_since (after_event s event) events space slot n (event_valid s event valid fits.first) fits.others
    (omega (arith, rises, made)) is lives (omega (arith, counts, since)) (omega (arith, within))
slot_since s (event ∷ events) space slot zero valid fits made is lives since within =
    let rises : s.next_serial ≤ (after_event s event).next_serial = entry_rises s event event.entry in
    let counts : (after_event s event).entries ≡ s.entries + 1 = entry_counts s event event.entry in
    let later : space < (after_event s event).next_serial = omega (arith, rises, made) in
    let next : word_at (after_event s event) space slot ≡ word_at (replay (after_event s event) events) space slot =
    slot_since (after_event s event) events space slot zero (event_valid s event valid fits.first) fits.others
    later is lives (omega (arith, counts, since)) (omega arith) in
    let before : (word_at (after_event s event) space slot).set_at ≤ s.entries =
    omega (arith, ap (λ (word : Word). word.set_at) next, since) in
    sym (event_stands s event space slot (list_all (leaves space slot) (changes_of s event)) valid fits.first made is refl
    (lives_before (after_event s event) events space (event_valid s event valid fits.first) fits.others later lives) before)
    ∙ next

-- a number that names no slot has one word for ever
no_slot : (s other : State) (space slot : ℕ) → is_slot slot ≡ false → word_at s space slot ≡ word_at other space slot
no_slot s other space slot none = rw none refl

since_by : (s : State) (events : List Event) (space slot n : ℕ) (is : Bool) → is_slot slot ≡ is
    → IsValid s → EventsFit s events → space < s.next_serial
    → is_some (living_kind (replay s events).objects space) ≡ true
    → (word_at (replay s events) space slot).set_at ≤ s.entries + n → n ≤ length events
    → word_at (state_at s events n) space slot ≡ word_at (replay s events) space slot
since_by s events space slot n true is valid fits made lives since within =
    slot_since s events space slot n valid fits made is lives since within
since_by s events space slot n false none valid fits made lives since within =
    no_slot (state_at s events n) (replay s events) space slot none

pub word_since : (s : State) (events : List Event) (space slot n : ℕ) → IsValid s → EventsFit s events
    → space < s.next_serial → is_some (living_kind (replay s events).objects space) ≡ true
    → (word_at (replay s events) space slot).set_at ≤ s.entries + n → n ≤ length events
    → word_at (state_at s events n) space slot ≡ word_at (replay s events) space slot
word_since s events space slot n valid fits made lives since within =
    since_by s events space slot n (is_slot slot) refl valid fits made lives since within

-- an object that lives is of some kind
pub kind_lives : (found : Option ObjectRow) → is_some found ≡ true
    → is_some (option_map row_kind found) ≡ true
kind_lives None lives = lives
kind_lives (Some row) lives = refl
