-- What an entry gives and takes can be told before its changes are made: what they give stands in
-- the changes themselves, and what they take stands in rows that no change before alters.
use Rattle.std.proofs.Common.{◌≡◌, ◌∙◌, ◌==◌, ◌*◌, ◌≤◌, ◌+◌, ◌<◌, ◌⊎◌, inl, inr, ℕ, Bool, true}
use Rattle.std.proofs.Common.{false, not, List, [], ◌∷◌, ◌++◌, refl, sym, ap, subst, arith, IsTrue}
use Rattle.std.proofs.Common.{find, get_or, length, length-append, take, Option, Some, None}
use Rattle.std.proofs.Common.{if◌then◌else◌}
use Rattle.std.specs.Prelude.{◌&&◌}
use Rattle.std.specs.List.{flat_map, list_all}
use Rattle.std.proofs.lemmas.Bool.{and_from, and_parts, leb-true, not-true}
use Rattle.std.proofs.lemmas.List.Concat.{flat_map-cons}
use Rattle.std.proofs.lemmas.List.Folds.{length-flat_map-take}
use Rattle.gh_base.specs.declared.call.Call.{Call}
use Rattle.gh_base.specs.declared.call.Call.TheVariants as calls
use Rattle.gh_base.specs.declared.errno.Errno.{Errno}
use Rattle.gh_base.specs.declared.errno.Errno.TheVariants.{CapRevoked, ObjState, Retry}
use Rattle.gh_base.specs.declared.ids.CpuNo.{CpuNo}
use Rattle.gh_base.specs.declared.ids.Serial.{Serial}
use Rattle.gh_model.specs.Act.{grants_of}
use Rattle.gh_model.specs.Changes.{changed}
use Rattle.gh_model.specs.Decide.{decision, has_moved, is_at_end, stages_fit}
use Rattle.gh_model.specs.Decisions.{done, grant_at}
use Rattle.gh_model.specs.History.{Event, is_retired, is_unretired, may_act, may_part}
use Rattle.gh_model.specs.Legal.{is_revoke}
use Rattle.gh_model.specs.ManagerCalls.{exit_changes}
use Rattle.gh_model.specs.References.{is_doomed}
use Rattle.gh_model.specs.Rows.{cpu_row, fills, is_extent, object_row}
use Rattle.gh_model.specs.declared.change.Change.{Change}
use Rattle.gh_model.specs.declared.change.Change.TheVariants as change
use Rattle.gh_model.specs.declared.change.Decision.{Decision}
use Rattle.gh_model.specs.declared.change.Decision.TheVariants.{Make, Refuse}
use Rattle.gh_model.specs.declared.entry.Entry.{Entry}
use Rattle.gh_model.specs.declared.entry.Entry.TheVariants.{Acted, Part, Retired, Reclaimed}
use Rattle.gh_model.specs.declared.rows.CapabilityRow.{CapabilityRow}
use Rattle.gh_model.specs.declared.rows.CpuRow.{CpuRow}
use Rattle.gh_model.specs.declared.rows.ExtentRow.{ExtentRow}
use Rattle.gh_model.specs.declared.rows.ObjectRow.{ObjectRow}
use Rattle.gh_model.specs.declared.state.State.{State}
use Rattle.gh_invariant.specs.Effects.{gained, gains, home_named, losses, lost, object_named}
use Rattle.gh_invariant.specs.Effects.{parent_named, sets_last, sets_some, slot_names, attachments}
use Rattle.gh_invariant.specs.Events.{changes_of, entry_changes, judged_by, made_by}
use Rattle.gh_invariant.proofs.EventWords.{event_of_calls}
use Rattle.gh_invariant.proofs.SetsOne.{MakesOne, SetsOne, decision_sets, exit_fits, is_of_calls}
use Rattle.gh_invariant.proofs.SetsOne.{keeps_objects}
use Rattle.gh_schedules.proofs.CallMakes.{Makes, decision_makes, keeps_few}
use Rattle.gh_schedules.proofs.FewGains.{event_gains_few}
use Rattle.gh_parts.specs.Told.{AreTold}

-- what a change of a call gives is in the change
pub gains_same : (s t : State) (one : Change) → is_of_calls one ≡ true → gains s one ≡ gains t one
gains_same s t (change.AddPartition quota) calls = absurd (let never : ⊥ = cc in never)
gains_same s t (change.AddLink row) calls = absurd (let never : ⊥ = cc in never)
gains_same s t _ calls = refl

gained_told : (s t : State) (changes : List Change) → IsTrue (list_all is_of_calls changes)
    → flat_map (gains s) changes ≡ gained t changes
gained_told s t [] all = refl
gained_told s t (one ∷ others) all =
    let both = and_parts (is_of_calls one) (list_all is_of_calls others) all in
    flat_map-cons (gains s) one others
    ∙ ap (λ (named : List Serial). named ++ flat_map (gains s) others) (gains_same s t one both.0)
    ∙ ap (λ (named : List Serial). gains t one ++ named) (gained_told s (changed t one) others both.1)

-- what it takes stands in the slots, where it is no exit and no reclaim
losses_same : (s t : State) (one : Change) → t.caps ≡ s.caps → keeps_objects one ≡ true
    → exit_fits 0 false one ≡ true → losses s one ≡ losses t one
losses_same s t (change.DropCapability cspace slot) same keeps stays =
    ap (λ (caps : List CapabilityRow). slot_names (find (fills cspace.0 slot) caps)) (sym same)
losses_same s t (change.RevokeCapability cspace slot) same keeps stays =
    ap (λ (caps : List CapabilityRow). object_named (find (fills cspace.0 slot) caps)) (sym same)
losses_same s t (change.Reclaim object) same keeps stays = absurd (let never : ⊥ = cc in never)
losses_same s t (change.Exit cpu) same keeps stays = absurd (let never : ⊥ = cc in never)
losses_same s t _ same keeps stays = refl

-- a change of a call that sets no slot leaves the slots
caps_stay : (t : State) (one : Change) → sets_some one ≡ false → keeps_objects one ≡ true
    → is_of_calls one ≡ true → (changed t one).caps ≡ t.caps
caps_stay t (change.PutCapability row) sets keeps calls = absurd (let never : ⊥ = cc in never)
caps_stay t (change.DropCapability cspace slot) sets keeps calls = absurd (let never : ⊥ = cc in never)
caps_stay t (change.RevokeCapability cspace slot) sets keeps calls = absurd (let never : ⊥ = cc in never)
caps_stay t (change.Reclaim object) sets keeps calls = absurd (let never : ⊥ = cc in never)
caps_stay t (change.FillSlot row) sets keeps calls = absurd (let never : ⊥ = cc in never)
caps_stay t _ sets keeps calls = refl

-- changes of a call that keep the objects and let no CPU exit, of which only the last sets a slot
record AreQuiet (changes : List Change) : Type 0 where
  keeps : IsTrue (list_all keeps_objects changes)
  stays : IsTrue (list_all (exit_fits 0 false) changes)
  calls : IsTrue (list_all is_of_calls changes)
  last : IsTrue (sets_last changes)

quiet_told : (s t : State) (changes : List Change) → t.caps ≡ s.caps → AreQuiet changes
    → flat_map (losses s) changes ≡ lost t changes
quiet_told s t [] same quiet = refl
quiet_told s t (one ∷ []) same quiet =
    let keeps = and_parts (keeps_objects one) true quiet.keeps in
    let stays = and_parts (exit_fits 0 false one) true quiet.stays in
    flat_map-cons (losses s) one []
    ∙ ap (λ (named : List Serial). named ++ []) (losses_same s t one same keeps.0 stays.0)
quiet_told s t (one ∷ next ∷ others) same quiet =
    let keeps = and_parts (keeps_objects one) (list_all keeps_objects (next ∷ others)) quiet.keeps in
    let stays = and_parts (exit_fits 0 false one) (list_all (exit_fits 0 false) (next ∷ others)) quiet.stays in
    let calls = and_parts (is_of_calls one) (list_all is_of_calls (next ∷ others)) quiet.calls in
    let last = and_parts (not (sets_some one)) (sets_last (next ∷ others)) quiet.last in
    let unset : sets_some one ≡ false = not-true (sets_some one) last.0 in
    flat_map-cons (losses s) one (next ∷ others)
    ∙ ap (λ (named : List Serial). named ++ flat_map (losses s) (next ∷ others)) (losses_same s t one same keeps.0 stays.0)
    ∙ ap (λ (named : List Serial). losses t one ++ named)
    (quiet_told s (changed t one) (next ∷ others) (caps_stay t one unset keeps.0 calls.0 ∙ same)
    (record { keeps = keeps.1; stays = stays.1; calls = calls.1; last = last.1 }))

-- how many references changes give and take

few_if : (b : Bool) (serial : Serial) → length (if b then serial ∷ [] else []) ≤ 1
few_if true serial = omega arith
few_if false serial = omega arith

few_unless : (b : Bool) (serial : Serial) → length (if b then [] else serial ∷ []) ≤ 1
few_unless true serial = omega arith
few_unless false serial = omega arith

few_either : (b : Bool) (serial other : Serial) → length (if b then serial ∷ [] else other ∷ []) ≤ 1
few_either true serial other = omega arith
few_either false serial other = omega arith

few_attached : (found : Option CpuRow) → length (attachments found) ≤ 2
few_attached None = omega arith
few_attached (Some row) = by_exit row.exited
  where
    by_exit : (b : Bool) → length (if b then [] else row.cspace ∷ row.space ∷ []) ≤ 2
    by_exit true = omega arith
    by_exit false = omega arith

few_object : (found : Option CapabilityRow) → length (object_named found) ≤ 1
few_object None = omega arith
few_object (Some row) = few_if row.valid row.serial

few_named : (found : Option CapabilityRow) → length (slot_names found) ≤ 2
few_named None = omega arith
few_named (Some row) = omega (arith, few_if row.valid row.serial)

few_home : (found : Option ObjectRow) → length (home_named found) ≤ 1
few_home None = omega arith
few_home (Some row) = few_unless (row.partition.0 == row.serial.0) row.partition

few_parent : (found : Option ExtentRow) → length (parent_named found) ≤ 1
few_parent None = omega arith
few_parent (Some row) = few_either (row.parent.0 == 0) row.serial row.parent

losses_few : (s : State) (one : Change) → length (losses s one) ≤ 2
losses_few s (change.DropCapability cspace slot) = few_named (find (fills cspace.0 slot) s.caps)
losses_few s (change.RevokeCapability cspace slot) = omega (arith, few_object (find (fills cspace.0 slot) s.caps))
losses_few s (change.Reclaim object) =
    let homes = few_home (object_row s object.0) in
    let parents = few_parent (find (is_extent object.0) s.extents) in
    omega (arith, homes, parents, length-append (home_named (object_row s object.0)) (parent_named (find (is_extent object.0) s.extents)))
losses_few s (change.DropMapping row) = omega arith
losses_few s (change.Exit cpu) = few_attached (cpu_row s cpu.0)
losses_few s _ = omega arith

lost_few : (s : State) (changes : List Change) → length (lost s changes) ≤ 2 * length changes
lost_few s [] = omega arith
lost_few s (one ∷ others) =
    omega (
      arith,
      length-append (losses s one) (lost (changed s one) others),
      losses_few s one,
      lost_few (changed s one) others,
    )

-- a change that is no exit of a call that may not exit is none of any
no_exit : (cpu : ℕ) (one : Change) → exit_fits cpu false one ≡ true → exit_fits 0 false one ≡ true
no_exit cpu (change.Exit other) fits = fits
no_exit cpu (change.AddCpu row) fits = fits
no_exit cpu _ fits = refl

none_exit : (cpu : ℕ) (changes : List Change) → IsTrue (list_all (exit_fits cpu false) changes)
    → IsTrue (list_all (exit_fits 0 false) changes)
none_exit cpu [] all = refl
none_exit cpu (one ∷ others) all =
    let both = and_parts (exit_fits cpu false one) (list_all (exit_fits cpu false) others) all in
    and_from (exit_fits 0 false one) (list_all (exit_fits 0 false) others) (no_exit cpu one both.0) (none_exit cpu others both.1)

-- decisions

-- what a decision takes
TakesTold : State → Decision → Type 0
TakesTold s decision = flat_map (losses s) (made_by decision) ≡ lost s (made_by decision)

told_unless : (s : State) (refused : Bool) (errno : Errno) (others : Decision) → TakesTold s others
    → TakesTold s (if refused then Refuse errno else others)
unfolding TakesTold
told_unless s true errno others told = refl
told_unless s false errno others told = told

exit_told : (s : State) (cpu : CpuNo) (manager : Bool) → TakesTold s (Make (exit_changes cpu manager) done)
unfolding TakesTold
exit_told s cpu true = flat_map-cons (losses s) (change.Exit cpu) []
exit_told s cpu false =
    flat_map-cons (losses s) (change.Exit cpu) (change.Ring ∷ [])
    ∙ ap (λ (named : List Serial). losses s (change.Exit cpu) ++ named) (flat_map-cons (losses s) change.Ring [])

-- one that makes an object takes none
creation_told : (s : State) (row : ObjectRow) (cap : CapabilityRow) (changes : List Change)
    → changes ≡ change.AddObject row ∷ change.PutCapability cap ∷ []
    → flat_map (losses s) changes ≡ lost s changes
creation_told s row cap changes is =
    subst (λ (all : List Change). flat_map (losses s) all ≡ lost s all) (sym is)
    (flat_map-cons (losses s) (change.AddObject row) (change.PutCapability cap ∷ [])
    ∙ flat_map-cons (losses s) (change.PutCapability cap) [])

-- any other but an exit is quiet
others_told : (s : State) (cpu home : ℕ) (made : Decision) → SetsOne s cpu false home made
    → TakesTold s made
unfolding TakesTold
others_told s cpu home made sets = by_kind sets.makes
  where
    by_kind : IsTrue (list_all keeps_objects (made_by made)) ⊎ MakesOne s home (made_by made) → TakesTold s made
    by_kind (inl keeps) =
        quiet_told s s (made_by made) refl (record {
          keeps = keeps;
          stays = none_exit cpu (made_by made) sets.exits;
          calls = sets.calls;
          last = sets.last;
        })
    by_kind (inr one) = creation_told s one.row one.cap (made_by made) one.is

decision_takes : (s : State) (moved : Bool) (cpu : ℕ) (call : Call) (bytes : List ℕ) (grants : List Serial)
    → TakesTold s (decision moved s cpu call bytes grants)
decision_takes s moved cpu calls.Exit bytes grants =
    told_unless s (is_at_end s calls.Exit grants) CapRevoked _
    (told_unless s (not (stages_fit s calls.Exit grants)) ObjState _
    (told_unless s moved Retry _ (exit_told s (record { 0 = cpu }) (cpu == 0))))
decision_takes s moved cpu call bytes grants =
    others_told s cpu (grant_at grants 1).0 (decision moved s cpu call bytes grants) (decision_sets s moved cpu call bytes grants)

-- three changes at most
decision_few : (s : State) (call : Call) (grants : List Serial) (made : Decision)
    → Makes s call grants made → length (made_by made) ≤ 3
decision_few s call grants made (inl keep) =
    leb-true (length (made_by made)) 3 (keeps_few (is_revoke call) made keep)
decision_few s call grants made (inr makes) =
    let two : length (made_by made) ≡ 2 = ap length makes.1.is in omega (arith, two)

-- entries

-- an entry's changes are told where they are those of a call
told_of : (s : State) (changes : List Change) → IsTrue (list_all is_of_calls changes) → length changes ≤ 3
    → flat_map (losses s) changes ≡ lost s changes → length (gained s changes) ≤ 6 → AreTold s changes
told_of s changes calls few takes gives = record {
  gives = gained_told s s changes calls;
  takes = takes;
  gives_few = gives;
  takes_few = omega (arith, lost_few s changes, few);
}

module _ (s : State) (event : Event) where
  few_by : (allowed : Bool) (changes : List Change) → length changes ≤ 3
      → length (if allowed then changes else []) ≤ 3
  few_by true changes few = few
  few_by false changes few = omega arith

  takes_by : (allowed : Bool) (changes : List Change) → flat_map (losses s) changes ≡ lost s changes
      → flat_map (losses s) (if allowed then changes else []) ≡ lost s (if allowed then changes else [])
  takes_by true changes told = told
  takes_by false changes told = refl

  single_told : (one : Change) → flat_map (losses s) (one ∷ []) ≡ lost s (one ∷ [])
  single_told one = flat_map-cons (losses s) one []

  entry_few : (entry : Entry) → length (entry_changes s event entry) ≤ 3
  entry_few (Acted cpu number) =
      few_by (may_act s cpu.0 event.call event.words) (made_by (judged_by s cpu.0 event))
      (decision_few s event.call (grants_of event.call event.words) (judged_by s cpu.0 event)
      (decision_makes s (has_moved s cpu.0 event.call event.words) cpu.0 event.call event.bytes (grants_of event.call event.words)))
  entry_few (Part cpu number space slot) =
      few_by (may_part (find (fills space.0 slot) s.caps)) (change.RevokeCapability space slot ∷ []) (omega arith)
  entry_few (Retired serial seen) =
      few_by (is_doomed s serial.0 && is_unretired (object_row s serial.0)) (change.Retire serial seen ∷ []) (omega arith)
  entry_few (Reclaimed serial seen) =
      few_by (is_doomed s serial.0 && is_retired (object_row s serial.0)) (change.Reclaim serial ∷ []) (omega arith)

  entry_takes : (entry : Entry) → flat_map (losses s) (entry_changes s event entry) ≡ lost s (entry_changes s event entry)
  unfolding TakesTold
  entry_takes (Acted cpu number) =
      takes_by (may_act s cpu.0 event.call event.words) (made_by (judged_by s cpu.0 event))
      (decision_takes s (has_moved s cpu.0 event.call event.words) cpu.0 event.call event.bytes (grants_of event.call event.words))
  entry_takes (Part cpu number space slot) =
      takes_by (may_part (find (fills space.0 slot) s.caps)) (change.RevokeCapability space slot ∷ [])
      (single_told (change.RevokeCapability space slot))
  entry_takes (Retired serial seen) =
      takes_by (is_doomed s serial.0 && is_unretired (object_row s serial.0)) (change.Retire serial seen ∷ [])
      (single_told (change.Retire serial seen))
  entry_takes (Reclaimed serial seen) =
      takes_by (is_doomed s serial.0 && is_retired (object_row s serial.0)) (change.Reclaim serial ∷ [])
      (single_told (change.Reclaim serial))

  pub event_told : AreTold s (changes_of s event)
  event_told =
      told_of s (changes_of s event) (event_of_calls s event) (entry_few event.entry) (entry_takes event.entry)
      (event_gains_few s event)

-- there is room for what the next change gives
pub room_next : (f : Change → List Serial) (changes : List Change) (at most : ℕ) (next : Change)
    (before named : List Serial) → at < length changes → next ≡ get_or changes at next
    → before ≡ flat_map f (take at changes) → named ≡ f next → length (flat_map f changes) ≤ most
    → length before + length named ≤ most
room_next f changes at most next before named within here front is few =
    let front_is : length before ≡ length (flat_map f (take at changes)) = ap length front in
    let named_is : length named ≡ length (f (get_or changes at next)) = ap length (is ∙ ap f here) in
    omega (arith, front_is, named_is, few, length-flat_map-take f changes at next within)
