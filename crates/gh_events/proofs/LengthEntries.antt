-- What an entry does to the counts of objects and capabilities, and so to those of a history.
use Rattle.std.proofs.Common.{◌≡◌, ◌+◌, ◌≤◌, ◌∙◌, ℕ, Bool, true, false, not, List, [], ◌∷◌, ◌++◌, length, refl, subst, sym, ap, arith, IsTrue, Option, Some, None, find, if◌then◌else◌}
use Rattle.std.specs.Prelude.{◌&&◌, count_by, is_some, option_map}
use Rattle.std.specs.List.{list_all}
use Rattle.std.proofs.lemmas.Bool.{and_parts}
use Rattle.gh_base.specs.declared.call.Call.{Call}
use Rattle.gh_base.specs.declared.call.Call.TheVariants as calls
use Rattle.gh_base.specs.declared.frame.Reply.{Reply}
use Rattle.gh_model.specs.Act.{Done, counted, grants_of}
use Rattle.gh_model.specs.Changes.{as_revoked, changed, changed_all, is_in_cspace, with_cost, with_counters, with_stage, without}
use Rattle.gh_model.specs.Decide.{decision, has_moved, judge, verdict}
use Rattle.gh_model.specs.History.{Event, after_event, after_verdict, is_retired, is_unretired, may_act, may_part, numbered, replay, took}
use Rattle.gh_model.specs.QueueCalls.{one_if}
use Rattle.gh_model.specs.Rows.{change_row, fills, is_object, object_row}
use Rattle.gh_model.specs.declared.change.Change.{Change}
use Rattle.gh_model.specs.declared.change.Change.TheVariants as change
use Rattle.gh_model.specs.declared.change.Decision.{Decision}
use Rattle.gh_model.specs.declared.change.Decision.TheVariants.{Refuse, Unfinished, Make}
use Rattle.gh_model.specs.declared.entry.Entry.{Entry}
use Rattle.gh_model.specs.declared.entry.Entry.TheVariants.{Acted, Part, Retired, Reclaimed}
use Rattle.gh_model.specs.declared.rows.CapabilityRow.{CapabilityRow}
use Rattle.gh_model.specs.declared.rows.ObjectRow.{ObjectRow}
use Rattle.gh_model.specs.declared.state.State.{State}
use Rattle.gh_invariant.specs.Valid.{IsValid}
use Rattle.gh_invariant.proofs.ChangedRow.{count_change, count_change_kept}
use Rattle.gh_invariant.proofs.Counting.{count_cons, count_found, count_push}
use Rattle.gh_invariant.proofs.RowsLeft.{count_fewer, count_without}
use Rattle.gh_events.specs.Config.{Config, Current, Holder, present}
use Rattle.gh_events.specs.Entries.{KindAllows, logged}
use Rattle.gh_events.specs.HolderEvents.{is_create}
use Rattle.gh_events.specs.Length.{EntriesCount, copies_one, is_copy, is_leaving, is_plain, is_staying, makes_one, parts, reclaims_one, retires_one}
use Rattle.gh_events.proofs.CallEffects.{Does, Effect, decision_does, spares}
use Rattle.gh_events.proofs.GraceReclaim.{replay_more}

abbrev staying : State → ℕ
staying s = count_by is_staying s.objects

abbrev leaving : State → ℕ
leaving s = count_by is_leaving s.objects

abbrev plain : State → ℕ
plain s = count_by is_plain s.caps

-- a truth value counts as one at most
pub one_most : (b : Bool) → one_if b ≤ 1
one_most true = let one : one_if true ≡ 1 = refl in omega arith
one_most false = let none : one_if false ≡ 0 = refl in omega arith

-- changes

-- so many objects are made and capabilities put, and none is retired or reclaimed
record Adds (makes puts : ℕ) (s new : State) : Type 0 where
  stay : staying new ≡ staying s + makes
  leave : leaving new ≡ leaving s
  plain_most : plain new ≤ plain s + puts

kept : (s new : State) → new.objects ≡ s.objects → new.caps ≡ s.caps → Adds 0 0 s new
kept s new objects caps =
    let stay : staying new ≡ staying s = ap (count_by is_staying) objects in
    let same : plain new ≡ plain s = ap (count_by is_plain) caps in
    record {
      stay = omega (arith, stay);
      leave = ap (count_by is_leaving) objects;
      plain_most = omega (arith, same);
    }

-- rows changed, but for their retirement
recast : (s new : State) (test : ObjectRow → Bool) (one : ObjectRow → ObjectRow)
    → new.objects ≡ change_row test one s.objects → new.caps ≡ s.caps
    → ((row : ObjectRow) → (one row).retired ≡ row.retired) → Adds 0 0 s new
recast s new test one objects caps keeps =
    let stay : staying new ≡ staying s = ap (count_by is_staying) objects ∙ stay_same in
    let same : plain new ≡ plain s = ap (count_by is_plain) caps in
    record {
      stay = omega (arith, stay);
      leave = ap (count_by is_leaving) objects
          ∙ count_change_kept is_leaving test one s.objects (λ row. ap is_some (keeps row));
      plain_most = omega (arith, same);
    }
  where
    stay_same : count_by is_staying (change_row test one s.objects) ≡ staying s
    stay_same =
        count_change_kept is_staying test one s.objects (λ row. ap (λ (kept : Option (List ℕ)). not (is_some kept)) (keeps row))

-- a row that is found counts as it does by itself, and a revoked one doesn't
none_plain : (found : Option CapabilityRow) → count_found is_plain (option_map as_revoked found) ≡ 0
none_plain None = refl
none_plain (Some row) = refl

plain_row : (found : Option CapabilityRow) → may_part found ≡ true → count_found is_plain found ≡ 1
plain_row None may = absurd (let never : ⊥ = cc in never)
plain_row (Some row) may = ap one_if may

revoked_fewer : (test : CapabilityRow → Bool) (caps : List CapabilityRow)
    → count_by is_plain (change_row test as_revoked caps) ≤ count_by is_plain caps + 0
revoked_fewer test caps =
    omega (arith, count_change is_plain test as_revoked caps, none_plain (find test caps))

spare_adds : (s : State) (one : Change) → spares one ≡ true → Adds 0 0 s (changed s one)
spare_adds s (change.AddObject row) spare = absurd (let never : ⊥ = cc in never)
spare_adds s (change.AddPartition quota) spare = absurd (let never : ⊥ = cc in never)
spare_adds s (change.Retire object seen) spare = absurd (let never : ⊥ = cc in never)
spare_adds s (change.Reclaim object) spare = absurd (let never : ⊥ = cc in never)
spare_adds s (change.PutCapability row) spare = absurd (let never : ⊥ = cc in never)
spare_adds s (change.FillSlot row) spare = absurd (let never : ⊥ = cc in never)
spare_adds s (change.SetStage object stage) spare =
    recast s _ (is_object object.0) (with_stage stage) refl refl (λ row. refl)
spare_adds s (change.ConfigureQueue queue depth size cost) spare =
    recast s _ (is_object queue.0) (with_cost cost) refl refl (λ row. refl)
spare_adds s (change.DropCapability cspace slot) spare =
    let fewer : plain (changed s (change.DropCapability cspace slot)) ≤ plain s =
    count_fewer is_plain (fills cspace.0 slot) s.caps in
    record { stay = omega arith; leave = refl; plain_most = omega (arith, fewer) }
spare_adds s (change.RevokeCapability cspace slot) spare =
    record { stay = omega arith; leave = refl; plain_most = revoked_fewer (fills cspace.0 slot) s.caps }
spare_adds s _ spare = kept s _ refl refl

spares_add : (s : State) (changes : List Change) → IsTrue (list_all spares changes)
    → Adds 0 0 s (changed_all s changes)
spares_add s [] spare = kept s s refl refl
spares_add s (one ∷ others) spare =
    let both = and_parts (spares one) (list_all spares others) spare in
    let first : Adds 0 0 s (changed s one) = spare_adds s one both.0 in
    let rest : Adds 0 0 (changed s one) (changed_all (changed s one) others) = spares_add (changed s one) others both.1 in
    record {
      stay = omega (arith, first.stay, rest.stay);
      leave = rest.leave ∙ first.leave;
      plain_most = omega (arith, first.plain_most, rest.plain_most);
    }

-- one object that isn't retired, and its master capability
master_adds : (s : State) (row : ObjectRow) (cap : CapabilityRow) → row.retired ≡ None
    → cap.master ≡ true
    → Adds 1 0 s (changed_all s (change.AddObject row ∷ change.PutCapability cap ∷ []))
master_adds s row cap unretired master =
    let stays : one_if (is_staying row) ≡ 1 = ap (λ (kept : Option (List ℕ)). one_if (not (is_some kept))) unretired in
    let leaves : one_if (is_leaving row) ≡ 0 = ap (λ (kept : Option (List ℕ)). one_if (is_some kept)) unretired in
    let masters : one_if (is_plain cap) ≡ 0 = ap (λ (b : Bool). one_if (cap.valid && not b)) master ∙ none_if cap.valid in
    record {
      stay = omega (arith, count_push is_staying s.objects row, stays);
      leave = omega (arith, count_push is_leaving s.objects row, leaves);
      plain_most = omega (arith, count_push is_plain s.caps cap, masters);
    }
  where
    none_if : (b : Bool) → one_if (b && false) ≡ 0
    none_if true = refl
    none_if false = refl

-- one capability
one_adds : (s : State) (cap : CapabilityRow)
    → Adds 0 1 s (changed_all s (change.PutCapability cap ∷ []))
one_adds s cap = record {
  stay = omega arith;
  leave = refl;
  plain_most = omega (arith, count_push is_plain s.caps cap, one_most (is_plain cap));
}

effect_adds : (s : State) (call : Call) (changes : List Change) → Effect call changes
    → Adds (one_if (is_create call)) (one_if (is_copy call)) s (changed_all s changes)
effect_adds s (calls.Create partition cspace number) changes makes =
    subst (λ (made : List Change). Adds 1 0 s (changed_all s made)) (sym makes.is) (master_adds s makes.row makes.cap makes.unretired makes.master)
effect_adds s (calls.CapCopy cspace source mask) changes puts =
    subst (λ (made : List Change). Adds 0 1 s (changed_all s made)) (sym puts.is) (one_adds s puts.cap)
effect_adds s _ changes spare = spares_add s changes spare

-- entries

-- what an event does to the counts
pub record EventCounts (event : Event) (s new : State) : Type 0 where
  pub stay : staying new + one_if (retires_one event) ≡ staying s + one_if (makes_one event)
  pub leave : leaving new + one_if (reclaims_one event) ≡ leaving s + one_if (retires_one event)
  pub plain_most : plain new + one_if (parts event) ≤ plain s + one_if (copies_one event)

-- an act that is done
decision_counts : (s new : State) (reply : Reply) (call : Call) (decision : Decision)
    → Does (Effect call) decision → verdict s decision ≡ Done new reply
    → Adds (one_if (is_create call)) (one_if (is_copy call)) s (after_verdict s (verdict s decision))
decision_counts s new reply call (Refuse errno) does is = absurd (let never : ⊥ = cc in never)
decision_counts s new reply call Unfinished does is = absurd (let never : ⊥ = cc in never)
decision_counts s new reply call (Make changes said) does is =
    let adds : Adds (one_if (is_create call)) (one_if (is_copy call)) s (changed_all s changes) =
    effect_adds s call changes does in
    record { stay = adds.stay; leave = adds.leave; plain_most = adds.plain_most }

act_counts : (s : State) (event : Event) (cpu : ℕ) (new : State) (reply : Reply)
    → may_act s cpu event.call event.words ≡ true
    → judge s cpu event.call event.bytes event.words ≡ Done new reply
    → Adds (one_if (is_create event.call)) (one_if (is_copy event.call)) s
    (if may_act s cpu event.call event.words then after_verdict s (judge s cpu event.call event.bytes event.words) else numbered s)
act_counts s event cpu new reply may done =
    rw may (decision_counts s new reply event.call
    (decision (has_moved s cpu event.call event.words) s cpu event.call event.bytes (grants_of event.call event.words))
    (decision_does s (has_moved s cpu event.call event.words) cpu event.call event.bytes (grants_of event.call event.words)) done)

-- a part: a capability that counted is revoked
part_counts : (s new : State) (cspace slot : ℕ)
    → may_part (find (fills cspace slot) s.caps) ≡ true → new.objects ≡ s.objects
    → new.caps ≡ change_row (fills cspace slot) as_revoked s.caps
    → (staying new ≡ staying s) × ((leaving new ≡ leaving s) × (plain new + 1 ≡ plain s))
part_counts s new cspace slot may objects caps =
    let one : count_found is_plain (find (fills cspace slot) s.caps) ≡ 1 = plain_row (find (fills cspace slot) s.caps) may in
    let none : count_found is_plain (option_map as_revoked (find (fills cspace slot) s.caps)) ≡ 0 =
    none_plain (find (fills cspace slot) s.caps) in
    let now : plain new ≡ count_by is_plain (change_row (fills cspace slot) as_revoked s.caps) = ap (count_by is_plain) caps in (
      ap (count_by is_staying) objects,
      (
        ap (count_by is_leaving) objects,
        omega (arith, now, one, none, count_change is_plain (fills cspace slot) as_revoked s.caps),
      ),
    )

-- a retirement: the object waits for its reclaim
stays_row : (found : Option ObjectRow) → is_unretired found ≡ true
    → (count_found is_staying found ≡ 1) × (count_found is_leaving found ≡ 0)
stays_row None is = absurd (let never : ⊥ = cc in never)
stays_row (Some row) is = (ap one_if is, none (is_some row.retired) is)
  where
    none : (b : Bool) → not b ≡ true → one_if b ≡ 0
    none true same = absurd (let never : ⊥ = cc in never)
    none false same = refl

retired_row : (found : Option ObjectRow) (seen : List ℕ) → is_unretired found ≡ true
    → (count_found is_staying (option_map (with_counters seen) found) ≡ 0)
    × (count_found is_leaving (option_map (with_counters seen) found) ≡ 1)
retired_row None seen is = absurd (let never : ⊥ = cc in never)
retired_row (Some row) seen is = (refl, refl)

retire_counts : (s new : State) (serial : ℕ) (seen : List ℕ)
    → is_unretired (object_row s serial) ≡ true
    → new.objects ≡ change_row (is_object serial) (with_counters seen) s.objects
    → (staying new + 1 ≡ staying s) × (leaving new ≡ leaving s + 1)
retire_counts s new serial seen is objects =
    let before = stays_row (object_row s serial) is in
    let behind = retired_row (object_row s serial) seen is in
    let stay : staying new ≡ count_by is_staying (change_row (is_object serial) (with_counters seen) s.objects) =
    ap (count_by is_staying) objects in
    let leave : leaving new ≡ count_by is_leaving (change_row (is_object serial) (with_counters seen) s.objects) = ap (count_by is_leaving) objects in (
      omega (arith, stay, before.0, behind.0, count_change is_staying (is_object serial) (with_counters seen) s.objects),
      omega (arith, leave, before.1, behind.1, count_change is_leaving (is_object serial) (with_counters seen) s.objects),
    )

-- a reclaim: an object that waited goes
leaves_row : (found : Option ObjectRow) → is_retired found ≡ true
    → (count_found is_staying found ≡ 0) × (count_found is_leaving found ≡ 1)
leaves_row None is = absurd (let never : ⊥ = cc in never)
leaves_row (Some row) is = (ap (λ (b : Bool). one_if (not b)) is, ap one_if is)

reclaim_counts : (s new : State) (serial : ℕ) → is_retired (object_row s serial) ≡ true
    → count_by (is_object serial) s.objects ≤ 1
    → new.objects ≡ without (is_object serial) s.objects
    → (staying new ≡ staying s) × (leaving new + 1 ≡ leaving s)
reclaim_counts s new serial is once objects =
    let row = leaves_row (object_row s serial) is in
    let stay : staying new ≡ count_by is_staying (without (is_object serial) s.objects) = ap (count_by is_staying) objects in
    let leave : leaving new ≡ count_by is_leaving (without (is_object serial) s.objects) = ap (count_by is_leaving) objects in (
      omega (arith, stay, row.0, count_without is_staying (is_object serial) s.objects once),
      omega (arith, leave, row.1, count_without is_leaving (is_object serial) s.objects once),
    )

-- an entry that is allowed
module _ (conf : Config) (holder : Holder) (call : Current) (valid : IsValid (present conf)) where
  pub entry_counts : (entry : Entry) → KindAllows conf holder call entry entry
      → EventCounts (logged entry call) (present conf) (after_event (present conf) (logged entry call))
  entry_counts (Acted cpu number) allowed =
      let adds =
      act_counts (present conf) (logged (Acted cpu number) call) cpu.0 allowed.new allowed.reply allowed.may_act allowed.is_done in
      record {
        stay = omega (arith, adds.stay);
        leave = omega (arith, adds.leave);
        plain_most = omega (arith, adds.plain_most);
      }
  entry_counts (Part cpu number space slot) allowed =
      let s : State = present conf in
      let counts =
      part_counts s (numbered (took (changed s (change.RevokeCapability space slot)) space slot)) space.0 slot allowed.part.may_part refl refl in
      rw allowed.part.may_part (record {
        stay = omega (arith, counts.0);
        leave = omega (arith, counts.1.0);
        plain_most = omega (arith, counts.1.1);
      })
  entry_counts (Retired serial seen) allowed =
      let s : State = present conf in
      let counts =
      retire_counts s (counted (changed s (change.Retire serial seen))) serial.0 seen allowed.unreferenced.1 refl in
      rw allowed.unreferenced.0 (rw allowed.unreferenced.1 (record {
        stay = omega (arith, counts.0);
        leave = omega (arith, counts.1);
        plain_most = omega arith;
      }))
  entry_counts (Reclaimed serial seen) allowed =
      let s : State = present conf in
      let counts =
      reclaim_counts s (counted (changed s (change.Reclaim serial))) serial.0 allowed.unreferenced.1 (valid.objects.once serial.0) refl in
      let fewer : count_by is_plain (without (is_in_cspace serial.0) s.caps) ≤ plain s =
      count_fewer is_plain (is_in_cspace serial.0) s.caps in
      rw allowed.unreferenced.0 (rw allowed.unreferenced.1 (record {
        stay = omega (arith, counts.0);
        leave = omega (arith, counts.1);
        plain_most = omega (arith, fewer);
      }))

-- histories

-- the boot has no entry
pub start_counts : (boot : State) → count_by is_leaving boot.objects ≡ 0 → EntriesCount boot []
start_counts boot none = record {
  retired = staying_all boot.objects none;
  reclaimed = let zero : count_by reclaims_one [] ≡ 0 = refl in let also : count_by retires_one [] ≡ 0 = refl in omega (arith, none);
  parted = let zero : count_by parts [] ≡ 0 = refl in omega arith;
}
  where
    one_each : (row : ObjectRow) → one_if (is_staying row) + one_if (is_leaving row) ≡ 1
    one_each row = each (is_some row.retired)
      where
        each : (b : Bool) → one_if (not b) + one_if b ≡ 1
        each true = refl
        each false = refl

    all_rows : (rows : List ObjectRow) → count_by is_staying rows + count_by is_leaving rows ≡ length rows
    all_rows [] = refl
    all_rows (row ∷ rows) = omega (arith, count_cons is_staying row rows, count_cons is_leaving row rows, one_each row, all_rows rows)

    staying_all : (rows : List ObjectRow) → count_by is_leaving rows ≡ 0
        → count_by retires_one [] + count_by is_staying rows ≡ length rows + count_by makes_one []
    staying_all rows zero = let none : count_by retires_one [] ≡ 0 = refl in let also : count_by makes_one [] ≡ 0 = refl in omega (arith, all_rows rows, zero)

-- one more entry
pub entries_count : (boot : State) (events : List Event) (event : Event)
    → EventCounts event (replay boot events) (after_event (replay boot events) event)
    → EntriesCount boot events → EntriesCount boot (events ++ event ∷ [])
entries_count boot events event counts before =
    let behind : EventCounts event (replay boot events) (replay boot (events ++ event ∷ [])) =
    subst (EventCounts event (replay boot events)) (sym (replay_more boot events event)) counts in
    record {
      retired = omega (arith, behind.stay, before.retired, count_push retires_one events event, count_push makes_one events event);
      reclaimed = omega (arith, behind.leave, before.reclaimed, count_push reclaims_one events event, count_push retires_one events event);
      parted = omega (arith, behind.plain_most, before.parted, count_push parts events event, count_push copies_one events event);
    }
