-- What an event does to the objects: each lives as it did, retired or not, or the event makes it,
-- retires it or reclaims it.
use Rattle.std.proofs.Common.{◌≡◌, ◌+◌, ◌∙◌, ◌⊎◌, inl, inr, ℕ, Bool, true, false, List, [], ◌∷◌, ◌++◌, refl, subst, sym, ap, arith, IsTrue, Option, Some, None, find, is_some, if◌then◌else◌}
use Rattle.std.specs.Prelude.{◌&&◌, ◌==◌, option_map}
use Rattle.std.specs.List.{list_all}
use Rattle.std.proofs.lemmas.Bool.{and_parts, eqb-true}
use Rattle.std.proofs.lemmas.Bool.Decides.{nat_tests}
use Rattle.gh_model.specs.Act.{counted, grants_of}
use Rattle.gh_model.specs.Changes.{changed, changed_all, with_cost, with_counters, with_stage, without}
use Rattle.gh_model.specs.Decide.{verdict}
use Rattle.gh_model.specs.Decisions.{grant_at}
use Rattle.gh_model.specs.History.{Event, after_entry, after_event, after_verdict, is_retired, is_unretired, may_act, may_part, numbered}
use Rattle.gh_model.specs.References.{is_doomed}
use Rattle.gh_model.specs.Rows.{change_row, fills, is_object, object_row}
use Rattle.gh_model.specs.declared.change.Change.{Change}
use Rattle.gh_model.specs.declared.change.Change.TheVariants as change
use Rattle.gh_model.specs.declared.change.Decision.{Decision}
use Rattle.gh_model.specs.declared.change.Decision.TheVariants.{Refuse, Unfinished, Make}
use Rattle.gh_model.specs.declared.entry.Entry.{Entry}
use Rattle.gh_model.specs.declared.entry.Entry.TheVariants.{Acted, Part, Retired, Reclaimed}
use Rattle.gh_model.specs.declared.rows.CapabilityRow.{CapabilityRow}
use Rattle.gh_model.specs.declared.rows.ObjectRow.{ObjectRow}
use Rattle.gh_model.specs.declared.state.State.{State}
use Rattle.gh_invariant.specs.Effects.{slots_set}
use Rattle.gh_invariant.specs.Events.{entry_changes, judged_by, made_by}
use Rattle.gh_invariant.specs.Lives.{lives}
use Rattle.gh_invariant.proofs.ChangedRow.{find_change_seen, find_past_change}
use Rattle.gh_invariant.proofs.Counting.{find_push_found, find_push_new, find_push_other}
use Rattle.gh_invariant.proofs.EventWords.{judged_sets}
use Rattle.gh_invariant.proofs.RowsLeft.{find_gone, find_left}
use Rattle.gh_invariant.proofs.SetsOne.{MakesOne, keeps_objects}

-- the counters of an object's retirement
abbrev pub counters_of : ObjectRow → Option (List ℕ)
counters_of row = row.retired

-- nothing where no object of this serial lives, and else its counters, if it is retired
abbrev pub life : List ObjectRow → ℕ → Option (Option (List ℕ))
life objects serial = option_map counters_of (find (is_object serial) objects)

-- the changes make this object, the next one, and set a slot
pub record IsMade (s new : State) (changes : List Change) (serial : ℕ) : Type 0 where
  pub next : serial ≡ s.next_serial
  pub born : life new.objects serial ≡ Some None
  pub rises : new.next_serial ≡ s.next_serial + 1
  pub one_slot : slots_set changes ≡ 1

-- it is the one that is retired, and lives on
pub record IsRetired (s new : State) (retired serial : ℕ) : Type 0 where
  pub that : serial ≡ retired
  pub lives_on : lives new.objects serial ≡ lives s.objects serial

-- it is the one that is reclaimed, and was retired
pub record IsReclaimed (s new : State) (reclaimed serial : ℕ) : Type 0 where
  pub that : serial ≡ reclaimed
  pub gone : life new.objects serial ≡ None
  pub was : is_retired (object_row s reclaimed) ≡ true

abbrev pub IsTouched : State → State → Event → Entry → ℕ → Type 0
IsTouched s new event (Acted cpu number) serial =
    IsMade s new (entry_changes s event (Acted cpu number)) serial
IsTouched s new event (Part cpu number space slot) serial = ⊥
IsTouched s new event (Retired retired seen) serial = IsRetired s new retired.0 serial
IsTouched s new event (Reclaimed reclaimed seen) serial = IsReclaimed s new reclaimed.0 serial

abbrev pub Goes : State → State → Event → Entry → ℕ → Type 0
Goes s new event entry serial =
    (life new.objects serial ≡ life s.objects serial) ⊎ IsTouched s new event entry serial

-- a row changed, but for its serial and its retirement
recast : (test : ObjectRow → Bool) (one : ObjectRow → ObjectRow) (objects : List ObjectRow)
    (serial : ℕ) → ((row : ObjectRow) → is_object serial (one row) ≡ is_object serial row)
    → ((row : ObjectRow) → counters_of (one row) ≡ counters_of row)
    → life (change_row test one objects) serial ≡ life objects serial
recast test one objects serial serials counters =
    find_change_seen (option_map counters_of) (is_object serial) test one objects serials (λ row. ap Some (counters row))

pub change_life : (s : State) (one : Change) (serial : ℕ) → keeps_objects one ≡ true
    → life (changed s one).objects serial ≡ life s.objects serial
change_life s (change.AddObject row) serial keeps = absurd (let never : ⊥ = cc in never)
change_life s (change.Retire object seen) serial keeps = absurd (let never : ⊥ = cc in never)
change_life s (change.Reclaim object) serial keeps = absurd (let never : ⊥ = cc in never)
change_life s (change.SetStage object stage) serial keeps =
    recast (is_object object.0) (with_stage stage) s.objects serial (λ row. refl) (λ row. refl)
change_life s (change.ConfigureQueue queue depth size cost) serial keeps =
    recast (is_object queue.0) (with_cost cost) s.objects serial (λ row. refl) (λ row. refl)
change_life s (change.PutCapability row) serial keeps = refl
change_life s (change.DropCapability cspace slot) serial keeps = refl
change_life s (change.RevokeCapability cspace slot) serial keeps = refl
change_life s (change.GiveQuota partition quota) serial keeps = refl
change_life s (change.AddExtent row) serial keeps = refl
change_life s (change.MovePages first count holder) serial keeps = refl
change_life s (change.PutMapping row) serial keeps = refl
change_life s (change.DropMapping row) serial keeps = refl
change_life s (change.SetBell row) serial keeps = refl
change_life s (change.PutMessage queue message) serial keeps = refl
change_life s (change.DropMessage queue) serial keeps = refl
change_life s (change.EmptyQueue queue) serial keeps = refl
change_life s (change.Exit cpu) serial keeps = refl
change_life s change.Ring serial keeps = refl
change_life s (change.SetPages count) serial keeps = refl
change_life s (change.AddPartition quota) serial keeps = absurd (let never : ⊥ = cc in never)
change_life s (change.AddRoot row) serial keeps = refl
change_life s (change.SetRoom queue depth size) serial keeps = refl
change_life s (change.FillSlot row) serial keeps = refl
change_life s (change.AddCpu row) serial keeps = refl
change_life s (change.AddLink row) serial keeps = refl

pub changes_life : (s : State) (changes : List Change) (serial : ℕ)
    → IsTrue (list_all keeps_objects changes)
    → life (changed_all s changes).objects serial ≡ life s.objects serial
changes_life s [] serial keep = refl
changes_life s (one ∷ others) serial keep =
    let parts = and_parts (keeps_objects one) (list_all keeps_objects others) keep in
    changes_life (changed s one) others serial parts.1 ∙ change_life s one serial parts.0

-- an act

module _ (s : State) (row : ObjectRow) (serial : ℕ) (number : row.serial.0 ≡ s.next_serial)
    (unretired : row.retired ≡ None) where
  push_by : (here : Bool) → (row.serial.0 == serial) ≡ here → (found : Option ObjectRow)
      → find (is_object serial) s.objects ≡ found
      → (life (s.objects ++ row ∷ []) serial ≡ life s.objects serial)
      ⊎ ((serial ≡ s.next_serial) × (life (s.objects ++ row ∷ []) serial ≡ Some None))
  push_by false other found is =
      inl (ap (option_map counters_of) (find_push_other (is_object serial) s.objects row other))
  push_by true same (Some old) is =
      inl (ap (option_map counters_of) (find_push_found (is_object serial) s.objects row old is ∙ sym is))
  push_by true same None is =
      inr (sym (eqb-true row.serial.0 serial same) ∙ number, ap (option_map counters_of) (find_push_new (is_object serial) s.objects row is same) ∙ ap Some unretired)

abbrev MadeBy : State → List Change → ℕ → Type 0
MadeBy s changes serial =
    (life (counted (changed_all s changes)).objects serial ≡ life s.objects serial)
    ⊎ IsMade s (counted (changed_all s changes)) changes serial

one_goes : (s : State) (row : ObjectRow) (cap : CapabilityRow) (serial : ℕ)
    → (life (s.objects ++ row ∷ []) serial ≡ life s.objects serial)
    ⊎ ((serial ≡ s.next_serial) × (life (s.objects ++ row ∷ []) serial ≡ Some None))
    → MadeBy s (change.AddObject row ∷ change.PutCapability cap ∷ []) serial
one_goes s row cap serial (inl same) = inl same
one_goes s row cap serial (inr new) =
    inr (record { next = new.0; born = new.1; rises = refl; one_slot = refl })

made_goes : (s : State) (changes : List Change) (home serial : ℕ)
    → IsTrue (list_all keeps_objects changes) ⊎ MakesOne s home changes → MadeBy s changes serial
made_goes s changes home serial (inl keep) = inl (changes_life s changes serial keep)
made_goes s changes home serial (inr one) =
    subst (λ (made : List Change). MadeBy s made serial) (sym one.is) (one_goes s one.row one.cap serial
    (push_by s one.row serial one.serial one.unretired (one.row.serial.0 == serial) refl (find (is_object serial) s.objects) refl))

abbrev behind : State → Bool → Decision → State
behind s allowed decision =
    if allowed then after_verdict s (verdict s decision) else numbered s

abbrev allowed_changes : Bool → Decision → List Change
allowed_changes allowed decision = if allowed then made_by decision else []

acted_goes : (s : State) (allowed : Bool) (decision : Decision) (home serial : ℕ)
    → IsTrue (list_all keeps_objects (made_by decision)) ⊎ MakesOne s home (made_by decision)
    → (life (behind s allowed decision).objects serial ≡ life s.objects serial)
    ⊎ IsMade s (behind s allowed decision) (allowed_changes allowed decision) serial
acted_goes s false decision home serial makes = inl refl
acted_goes s true (Refuse errno) home serial makes = inl refl
acted_goes s true Unfinished home serial makes = inl refl
acted_goes s true (Make changes reply) home serial makes = made_goes s changes home serial makes

-- other entries

parted_goes : (s new : State) (allowed : Bool) (serial : ℕ) → new.objects ≡ s.objects
    → life (let after : State = if allowed then new else numbered s in after).objects serial
    ≡ life s.objects serial
parted_goes s new true serial same = ap (λ (objects : List ObjectRow). life objects serial) same
parted_goes s new false serial same = refl

apart : (a b c : ℕ) → (a == c) ≡ true → (b == c) ≡ false → (a == b) ≡ false
apart a b c first second = grind (arith, nat_tests)

retire_by : (objects : List ObjectRow) (retired : ℕ) (seen : List ℕ) (serial : ℕ) (here : Bool)
    → (serial == retired) ≡ here
    → (life (change_row (is_object retired) (with_counters seen) objects) serial ≡ life objects serial)
    ⊎ ((serial ≡ retired) × (lives (change_row (is_object retired) (with_counters seen) objects) serial ≡ lives objects serial))
retire_by objects retired seen serial true is =
    inr (eqb-true serial retired is, find_change_seen is_some (is_object serial) (is_object retired) (with_counters seen) objects (λ row. refl) (λ row. refl))
retire_by objects retired seen serial false is =
    inl (ap (option_map counters_of) (find_past_change (is_object serial) (is_object retired) (with_counters seen) objects
    (λ row that. apart row.serial.0 serial retired that is) (λ row that. apart row.serial.0 serial retired that is)))

retired_goes : (s new : State) (allowed : Bool) (retired serial : ℕ)
    → (life new.objects serial ≡ life s.objects serial)
    ⊎ ((serial ≡ retired) × (lives new.objects serial ≡ lives s.objects serial))
    → (life (let after : State = if allowed then new else numbered s in after).objects serial ≡ life s.objects serial)
    ⊎ IsRetired s (if allowed then new else numbered s) retired serial
retired_goes s new false retired serial either = inl refl
retired_goes s new true retired serial (inl same) = inl same
retired_goes s new true retired serial (inr that) =
    inr (record { that = that.0; lives_on = that.1 })

reclaim_by : (objects : List ObjectRow) (gone serial : ℕ) (here : Bool) → (serial == gone) ≡ here
    → (life (without (is_object gone) objects) serial ≡ life objects serial)
    ⊎ ((serial ≡ gone) × (life (without (is_object gone) objects) serial ≡ None))
reclaim_by objects gone serial true is =
    let same : serial ≡ gone = eqb-true serial gone is in
    inr (
      same,
      ap (option_map counters_of) (find_gone (is_object serial) (is_object gone) objects
          (λ row other. subst (λ (n : ℕ). (row.serial.0 == n) ≡ false) (sym same) other)),
    )
reclaim_by objects gone serial false is =
    inl (ap (option_map counters_of) (find_left (is_object serial) (is_object gone) objects
    (λ row that. apart row.serial.0 serial gone that is)))

reclaimed_goes : (s new : State) (doomed was : Bool) (gone serial : ℕ)
    → is_retired (object_row s gone) ≡ was
    → (life new.objects serial ≡ life s.objects serial)
    ⊎ ((serial ≡ gone) × (life new.objects serial ≡ None))
    → (life (let after : State = if doomed && was then new else numbered s in after).objects serial ≡ life s.objects serial)
    ⊎ IsReclaimed s (if doomed && was then new else numbered s) gone serial
reclaimed_goes s new false was gone serial is either = inl refl
reclaimed_goes s new true false gone serial is either = inl refl
reclaimed_goes s new true true gone serial is (inl same) = inl same
reclaimed_goes s new true true gone serial is (inr that) =
    inr (record { that = that.0; gone = that.1; was = is })

pub entry_goes : (s : State) (event : Event) (entry : Entry) (serial : ℕ)
    → Goes s (after_entry s event entry) event entry serial
entry_goes s event (Acted cpu number) serial =
    acted_goes s (may_act s cpu.0 event.call event.words) (judged_by s cpu.0 event)
    (grant_at (grants_of event.call event.words) 1).0 serial (judged_sets s cpu.0 event).makes
entry_goes s event (Part cpu number space slot) serial =
    inl (parted_goes s _ (may_part (find (fills space.0 slot) s.caps)) serial refl)
entry_goes s event (Retired retired seen) serial =
    retired_goes s (counted (changed s (change.Retire retired seen))) (is_doomed s retired.0 && is_unretired (object_row s retired.0)) retired.0 serial
    (retire_by s.objects retired.0 seen serial (serial == retired.0) refl)
entry_goes s event (Reclaimed reclaimed seen) serial =
    reclaimed_goes s (counted (changed s (change.Reclaim reclaimed))) (is_doomed s reclaimed.0) (is_retired (object_row s reclaimed.0)) reclaimed.0 serial refl
    (reclaim_by s.objects reclaimed.0 serial (serial == reclaimed.0) refl)

-- what an event does to an object
pub event_goes : (s : State) (event : Event) (serial : ℕ)
    → Goes s (after_event s event) event event.entry serial
event_goes s event serial = entry_goes s event event.entry serial
