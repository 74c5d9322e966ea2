-- Which slots an event leaves: all that it doesn't set, in capability spaces that live behind it.
use Rattle.std.proofs.Common.{◌≡◌, ◌+◌, ◌≤◌, ◌∙◌, ◌⊎◌, inl, inr, ℕ, Bool, true, false, not, List, [], ◌∷◌, refl, subst, sym, ap, arith, IsTrue, Option, Some, None, find, is_some, if◌then◌else◌}
use Rattle.std.specs.Prelude.{◌&&◌, ◌||◌, ◌==◌}
use Rattle.std.specs.List.{list_all, list_any}
use Rattle.std.proofs.lemmas.Bool.{and_from, and_parts, eqb-true, or_parts}
use Rattle.gh_model.specs.Act.{counted, grants_of}
use Rattle.gh_model.specs.Changes.{changed, without}
use Rattle.gh_model.specs.Decisions.{grant_at}
use Rattle.gh_model.specs.History.{Event, after_entry, is_retired, is_unretired, may_act, may_part, numbered}
use Rattle.gh_model.specs.QueueCalls.{one_if}
use Rattle.gh_model.specs.References.{is_doomed}
use Rattle.gh_model.specs.Rows.{fills, is_object, object_row}
use Rattle.gh_model.specs.declared.change.Change.{Change}
use Rattle.gh_model.specs.declared.change.Change.TheVariants as change
use Rattle.gh_model.specs.declared.entry.Entry.{Entry}
use Rattle.gh_model.specs.declared.entry.Entry.TheVariants.{Acted, Part, Retired, Reclaimed}
use Rattle.gh_model.specs.declared.rows.ObjectRow.{ObjectRow}
use Rattle.gh_model.specs.declared.state.State.{State}
use Rattle.gh_invariant.specs.Effects.{is_place, leaves, sets, sets_slot, sets_some, slots_set}
use Rattle.gh_invariant.specs.Events.{entry_changes, judged_by, made_by}
use Rattle.gh_invariant.specs.Lives.{lives}
use Rattle.gh_invariant.proofs.Counting.{count_cons, one_true}
use Rattle.gh_invariant.proofs.EventWords.{judged_sets}
use Rattle.gh_invariant.proofs.RowsLeft.{find_gone}
use Rattle.gh_invariant.proofs.SetsOne.{MakesOne, is_of_calls, keeps_objects}
use Rattle.gh_events.specs.Entries.{or_else, slot_set}

-- the change reclaims nothing, and fills no slot without a setting
abbrev pub keeps_spaces : Change → Bool
keeps_spaces (change.Reclaim object) = false
keeps_spaces (change.FillSlot row) = false
keeps_spaces _ = true

keeps_by : (one : Change) → IsTrue (keeps_objects one) → IsTrue (is_of_calls one)
    → IsTrue (keeps_spaces one)
keeps_by (change.Reclaim object) keeps calls = absurd (let never : ⊥ = cc in never)
keeps_by (change.FillSlot row) keeps calls = absurd (let never : ⊥ = cc in never)
keeps_by _ keeps calls = refl

called_keep : (changes : List Change) → IsTrue (list_all keeps_objects changes)
    → IsTrue (list_all is_of_calls changes) → IsTrue (list_all keeps_spaces changes)
called_keep [] keep calls = refl
called_keep (one ∷ others) keep calls =
    let kept = and_parts (keeps_objects one) (list_all keeps_objects others) keep in
    let called = and_parts (is_of_calls one) (list_all is_of_calls others) calls in
    and_from (keeps_spaces one) (list_all keeps_spaces others) (keeps_by one kept.0 called.0)
    (called_keep others kept.1 called.1)

pub left_one : (cspace slot : ℕ) (one : Change) → keeps_spaces one ≡ true
    → sets_slot cspace slot one ≡ false → leaves cspace slot one ≡ true
left_one cspace slot (change.Reclaim object) keeps unset = absurd (let never : ⊥ = cc in never)
left_one cspace slot (change.FillSlot row) keeps unset = absurd (let never : ⊥ = cc in never)
left_one cspace slot _ keeps unset = ap not unset

pub left_all : (cspace slot : ℕ) (changes : List Change) → IsTrue (list_all keeps_spaces changes)
    → list_any (sets_slot cspace slot) changes ≡ false
    → IsTrue (list_all (leaves cspace slot) changes)
left_all cspace slot [] keep unset = refl
left_all cspace slot (one ∷ others) keep unset =
    let here = or_parts (sets_slot cspace slot one) (list_any (sets_slot cspace slot) others) unset in
    let kept = both (keeps_spaces one) (list_all keeps_spaces others) keep in
    and_from (leaves cspace slot one) (list_all (leaves cspace slot) others) (left_one cspace slot one kept.0 here.0) (left_all cspace slot others kept.1 here.1)
  where
    both : (a b : Bool) → (a && b) ≡ true → (a ≡ true) × (b ≡ true)
    both true b is = (refl, is)
    both false b is = absurd (let never : ⊥ = cc in never)

-- an act reclaims nothing
makes_keep : (s : State) (home : ℕ) (changes : List Change)
    → IsTrue (list_all keeps_objects changes) ⊎ MakesOne s home changes
    → IsTrue (list_all is_of_calls changes) → IsTrue (list_all keeps_spaces changes)
makes_keep s home changes (inl keep) calls = called_keep changes keep calls
makes_keep s home changes (inr one) calls = rw one.is refl

judged_keep : (s : State) (cpu : ℕ) (event : Event)
    → IsTrue (list_all keeps_spaces (made_by (judged_by s cpu event)))
judged_keep s cpu event =
    makes_keep s (grant_at (grants_of event.call event.words) 1).0 (made_by (judged_by s cpu event))
    (judged_sets s cpu event).makes (judged_sets s cpu event).calls

if_keep : (allowed : Bool) (changes : List Change) → IsTrue (list_all keeps_spaces changes)
    → IsTrue (list_all keeps_spaces (if allowed then changes else []))
if_keep true changes keep = keep
if_keep false changes keep = refl

-- the space that a reclaim takes away doesn't live behind it
reclaim_by : (objects : List ObjectRow) (gone cspace : ℕ) (here : Bool) → (gone == cspace) ≡ here
    → lives (without (is_object gone) objects) cspace ≡ true → not here ≡ true
reclaim_by objects gone cspace false other alive = refl
reclaim_by objects gone cspace true is alive =
    let same : gone ≡ cspace = eqb-true gone cspace is in
    let none : find (is_object cspace) (without (is_object gone) objects) ≡ None =
    find_gone (is_object cspace) (is_object gone) objects (λ row other. subst (λ (n : ℕ). (row.serial.0 == n) ≡ false) same other) in
    let dead : lives (without (is_object gone) objects) cspace ≡ false = ap (λ (found : Option ObjectRow). is_some found) none in
    absurd (let never : ⊥ = cc in never)

leaves_by : (cspace slot gone : ℕ) (left : Bool) → (not (gone == cspace)) ≡ left → left ≡ true
    → (not (gone == cspace) && true) ≡ true
leaves_by cspace slot gone true is left = rw is refl
leaves_by cspace slot gone false is left = absurd (let never : ⊥ = cc in never)

reclaimed_leaves : (s new : State) (gone cspace slot : ℕ) (allowed : Bool)
    → new.objects ≡ without (is_object gone) s.objects
    → lives (let after : State = if allowed then new else numbered s in after).objects cspace ≡ true
    → IsTrue (list_all (leaves cspace slot) (if allowed then change.Reclaim (record { 0 = gone }) ∷ [] else []))
reclaimed_leaves s new gone cspace slot false is alive = refl
reclaimed_leaves s new gone cspace slot true is alive =
    let still : lives (without (is_object gone) s.objects) cspace ≡ true = subst (λ (objects : List ObjectRow). lives objects cspace ≡ true) is alive in
    leaves_by cspace slot gone (not (gone == cspace)) refl (reclaim_by s.objects gone cspace (gone == cspace) refl still)

-- an entry leaves each slot that it doesn't set, of what lives behind it
pub entry_left : (s : State) (event : Event) (entry : Entry) (cspace slot : ℕ)
    → list_any (sets_slot cspace slot) (entry_changes s event entry) ≡ false
    → lives (after_entry s event entry).objects cspace ≡ true
    → IsTrue (list_all (leaves cspace slot) (entry_changes s event entry))
entry_left s event (Acted cpu number) cspace slot unset alive =
    left_all cspace slot (entry_changes s event (Acted cpu number))
    (if_keep (may_act s cpu.0 event.call event.words) (made_by (judged_by s cpu.0 event)) (judged_keep s cpu.0 event)) unset
entry_left s event (Part cpu number space n) cspace slot unset alive =
    left_all cspace slot (entry_changes s event (Part cpu number space n))
    (if_keep (may_part (find (fills space.0 n) s.caps)) (change.RevokeCapability space n ∷ []) refl) unset
entry_left s event (Retired serial seen) cspace slot unset alive =
    left_all cspace slot (entry_changes s event (Retired serial seen))
    (if_keep (is_doomed s serial.0 && is_unretired (object_row s serial.0)) (change.Retire serial seen ∷ []) refl) unset
entry_left s event (Reclaimed serial seen) cspace slot unset alive =
    reclaimed_leaves s (counted (changed s (change.Reclaim serial))) serial.0 cspace slot (is_doomed s serial.0 && is_retired (object_row s serial.0)) refl alive

-- changes that set no slot don't set this one

unset_by : (cspace slot : ℕ) (place : Option (ℕ × ℕ)) → is_some place ≡ false
    → is_place cspace slot place ≡ false
unset_by cspace slot None none = refl
unset_by cspace slot (Some place) none = absurd (let never : ⊥ = cc in never)

none_here : (some : Bool) (others : ℕ) → one_if some + others ≡ 0 → some ≡ false
none_here false others none = refl
none_here true others none = absurd (omega (arith, one_true true refl, none))

pub none_set : (cspace slot : ℕ) (changes : List Change) → slots_set changes ≡ 0
    → list_any (sets_slot cspace slot) changes ≡ false
none_set cspace slot [] none = refl
none_set cspace slot (one ∷ others) none =
    let all : one_if (sets_some one) + slots_set others ≡ 0 = sym (count_cons sets_some one others) ∙ none in
    let first : sets_slot cspace slot one ≡ false = unset_by cspace slot (sets one) (none_here (sets_some one) (slots_set others) all) in
    let rest : list_any (sets_slot cspace slot) others ≡ false = none_set cspace slot others (omega (arith, all)) in
    rw first rest

-- an entry that sets a slot reclaims nothing
no_reclaim : (cspace slot : ℕ) (one : Change) (allowed : Bool) → sets_slot cspace slot one ≡ false
    → list_any (sets_slot cspace slot) (if allowed then one ∷ [] else []) ≡ true → ⊥
no_reclaim cspace slot one true unset set =
    let none : list_any (sets_slot cspace slot) (one ∷ []) ≡ false = rw unset refl in
    let never : ⊥ = cc in never
no_reclaim cspace slot one false unset set = let never : ⊥ = cc in never

pub setting_keeps : (s : State) (event : Event) (entry : Entry) (cspace slot : ℕ)
    → list_any (sets_slot cspace slot) (entry_changes s event entry) ≡ true
    → IsTrue (list_all keeps_spaces (entry_changes s event entry))
setting_keeps s event (Acted cpu number) cspace slot set =
    if_keep (may_act s cpu.0 event.call event.words) (made_by (judged_by s cpu.0 event)) (judged_keep s cpu.0 event)
setting_keeps s event (Part cpu number space n) cspace slot set =
    if_keep (may_part (find (fills space.0 n) s.caps)) (change.RevokeCapability space n ∷ []) refl
setting_keeps s event (Retired serial seen) cspace slot set =
    if_keep (is_doomed s serial.0 && is_unretired (object_row s serial.0)) (change.Retire serial seen ∷ []) refl
setting_keeps s event (Reclaimed serial seen) cspace slot set =
    absurd (no_reclaim cspace slot (change.Reclaim serial) (is_doomed s serial.0 && is_retired (object_row s serial.0)) refl set)

-- changes that set just one slot set no other

place_by : (cspace slot home n : ℕ) → ((home == cspace) && (n == slot)) ≡ false
    → (place : Option (ℕ × ℕ)) (others : Option (ℕ × ℕ)) (later : Bool)
    → or_else place others ≡ Some (home, n) → (is_some place ≡ false → later ≡ false)
    → (is_some place ≡ true → later ≡ false) → (is_place cspace slot place || later) ≡ false
place_by cspace slot home n other None others later is without behind = without refl
place_by cspace slot home n other (Some place) others later is without behind =
    let same : place ≡ (home, n) = cc in
    let first : is_place cspace slot (Some place) ≡ false = ap (λ (p : ℕ × ℕ). is_place cspace slot (Some p)) same ∙ other in
    rw first (behind refl)

pub other_set : (cspace slot home n : ℕ) (changes : List Change)
    → ((home == cspace) && (n == slot)) ≡ false → slots_set changes ≤ 1
    → slot_set changes ≡ Some (home, n) → list_any (sets_slot cspace slot) changes ≡ false
other_set cspace slot home n [] other few is = refl
other_set cspace slot home n (one ∷ others) other few is =
    let all : one_if (sets_some one) + slots_set others ≤ 1 = omega (arith, count_cons sets_some one others, few) in
    place_by cspace slot home n other (sets one) (slot_set others) (list_any (sets_slot cspace slot) others) is
    (λ none. other_set cspace slot home n others other (omega arith) (rest_by (sets one) (slot_set others) none is))
    (λ some. none_set cspace slot others (omega (arith, one_true (sets_some one) some, all)))
  where
    rest_by : (place others : Option (ℕ × ℕ)) → is_some place ≡ false → or_else place others ≡ Some (home, n)
        → others ≡ Some (home, n)
    rest_by None others none is = is
    rest_by (Some place) others none is = absurd (let never : ⊥ = cc in never)
