-- The changes of the calls on objects, and of derive, may be made.
use Rattle.std.proofs.Common.{◌≡◌, ◌+◌, ◌<◌, ◌≤◌, ◌∙◌, ℕ, Bool, true, false, not, List, [], ◌∷◌, ◌++◌, refl, subst, sym, ap, arith, Option, Some, None, IsTrue, find}
use Rattle.std.specs.Prelude.{◌&&◌, ◌||◌, ◌==◌, bit_and, nat_lt, count_by}
use Rattle.std.specs.List.{list_all}
use Rattle.std.proofs.lemmas.Bool.{and_parts, eqb-true, leb-true}
use Rattle.std.proofs.lemmas.Bool.Decides.{nat_tests}
use Rattle.gh_base.specs.Kind.{kind_cost, kind_number, kind_numbered, kind_rights, kind_stage}
use Rattle.gh_base.specs.declared.errno.Errno.TheVariants.{Nomem, ObjConfig}
use Rattle.gh_base.specs.declared.ids.Serial.{Serial}
use Rattle.gh_base.specs.declared.kind.Kind.{Kind}
use Rattle.gh_base.specs.declared.kind.Kind.TheVariants as kind
use Rattle.gh_base.specs.declared.kind.Stage.TheVariants.{Active}
use Rattle.gh_model.specs.Boot.{is_master_of, is_of_kind}
use Rattle.gh_model.specs.History.{is_retired}
use Rattle.gh_model.specs.QueueCalls.{one_if}
use Rattle.gh_model.specs.Changes.{add_object}
use Rattle.gh_model.specs.Decisions.{done, is_init_stage}
use Rattle.gh_model.specs.ObjectCalls.{activate, activated, create, created, created_in, is_full, lacks_room, master_rights, new_master, new_object}
use Rattle.gh_model.specs.CapabilityCalls.{free_slot}
use Rattle.gh_model.specs.Rows.{is_object, object_row}
use Rattle.gh_model.specs.Units.{free_units}
use Rattle.gh_model.specs.declared.change.Change.TheVariants.{SetStage}
use Rattle.gh_model.specs.declared.rows.CapabilityRow.{CapabilityRow}
use Rattle.gh_model.specs.declared.rows.ObjectRow.{ObjectRow}
use Rattle.gh_model.specs.declared.state.State.{State}
use Rattle.gh_invariant.specs.Grants.{MayMake, is_referred}
use Rattle.gh_invariant.specs.Lives.{lives_as, slot_fits}
use Rattle.gh_invariant.specs.Premises.{MayAdd, MayPut}
use Rattle.gh_invariant.specs.Valid.{IsValid}
use Rattle.gh_invariant.proofs.CapabilityMade.{IsFree, free_slot_is}
use Rattle.gh_invariant.proofs.Counting.{all_by, count_cons, find_push_found, find_push_new, one_false, unfound}
use Rattle.gh_invariant.proofs.SlotsFit.{slot_parts}
use Rattle.gh_invariant.proofs.MayMake.{at_most_by, itself, one, unless}
use Rattle.gh_invariant.proofs.Referred.{may_refer, refer_push}

-- what lives does so behind a further object
lives_push_by : (k : Kind) (objects : List ObjectRow) (row : ObjectRow) (serial : ℕ) (found : Option ObjectRow)
    → find (is_object serial) objects ≡ found → IsTrue (is_of_kind k found) → IsTrue (lives_as (objects ++ row ∷ []) serial k)
lives_push_by k objects row serial None found is = absurd (let never : ⊥ = cc in never)
lives_push_by k objects row serial (Some old) found is =
    subst (λ (o : Option ObjectRow). IsTrue (is_of_kind k o)) (sym (find_push_found (is_object serial) objects row old found)) is

pub lives_push : (k : Kind) (objects : List ObjectRow) (row : ObjectRow) (serial : ℕ)
    → IsTrue (lives_as objects serial k) → IsTrue (lives_as (objects ++ row ∷ []) serial k)
lives_push k objects row serial is = lives_push_by k objects row serial (find (is_object serial) objects) refl is

-- none of two
pub or_none : (a b : Bool) → (a || b) ≡ false → (a ≡ false) × (b ≡ false)
or_none true b none = absurd (let never : ⊥ = cc in never)
or_none false b none = (refl, none)

some_cost : (k : Kind) → 0 < kind_cost k
some_cost kind.Partition = omega arith
some_cost kind.Cspace = omega arith
some_cost kind.Space = omega arith
some_cost kind.Extent = omega arith
some_cost kind.Bell = omega arith
some_cost kind.Queue = omega arith

-- what is to be configured costs one unit at first
new_cost : (k : Kind) → IsTrue (is_init_stage (kind_stage k)) → kind_cost k ≡ 1
new_cost kind.Partition init = refl
new_cost kind.Cspace init = absurd (let never : ⊥ = cc in never)
new_cost kind.Space init = absurd (let never : ⊥ = cc in never)
new_cost kind.Extent init = refl
new_cost kind.Bell init = refl
new_cost kind.Queue init = refl

-- a master has the rights of its kind at most
kind_rights_fit : (k : Kind) → (bit_and (master_rights k) (kind_rights k) == master_rights k) ≡ true
kind_rights_fit kind.Partition = refl
kind_rights_fit kind.Cspace = refl
kind_rights_fit kind.Space = refl
kind_rights_fit kind.Extent = refl
kind_rights_fit kind.Bell = refl
kind_rights_fit kind.Queue = refl

-- no slot names an object that isn't made yet, so it has no master
names_other_by : (s : State) (row : CapabilityRow) (master here : Bool) → (row.serial.0 == s.next_serial) ≡ here
    → IsTrue (slot_fits s.next_serial s.objects row) → not (master && here) ≡ true
names_other_by s row false here is fits = refl
names_other_by s row true false is fits = refl
names_other_by s row true true is fits =
    let same : row.serial.0 ≡ s.next_serial = eqb-true row.serial.0 s.next_serial is in
    let below : nat_lt row.serial.0 s.next_serial ≡ true = made s row fits in
    absurd (let never : false ≡ true = sym (not_below s.next_serial) ∙ ap (λ (n : ℕ). nat_lt n s.next_serial) (sym same) ∙ below in cc)
  where
    not_below : (n : ℕ) → nat_lt n n ≡ false
    not_below n = grind (arith, nat_tests)

    made : (s : State) (row : CapabilityRow) → IsTrue (slot_fits s.next_serial s.objects row) → nat_lt row.serial.0 s.next_serial ≡ true
    made s row fits = (slot_parts s.next_serial s.objects row fits).made

-- what all fail, none is counted of
none_by : {R : Type 0} (p : R → Bool) (rows : List R) → IsTrue (list_all (λ (row : R). not (p row)) rows) → count_by p rows ≡ 0
none_by p [] all = refl
none_by {R = R} p (row ∷ rows) all =
    let both : (not (p row) ≡ true) × (list_all (λ (one : R). not (p one)) rows ≡ true) = and_parts (not (p row)) (list_all (λ (one : R). not (p one)) rows) all in
    let first : count_by p (row ∷ rows) ≡ one_if (p row) + count_by p rows = count_cons p row rows in
    let zero : one_if (p row) ≡ 0 = one_false (p row) (fails (p row) both.0) in
    let others : count_by p rows ≡ 0 = none_by p rows both.1 in
    omega arith
  where
    fails : (b : Bool) → not b ≡ true → b ≡ false
    fails true is = absurd (let never : ⊥ = cc in never)
    fails false is = refl

no_master : (s : State) → IsValid s → count_by (is_master_of s.next_serial) s.caps ≡ 0
no_master s valid =
    none_by (is_master_of s.next_serial) s.caps
    (all_by (slot_fits s.next_serial s.objects) (λ (row : CapabilityRow). not (is_master_of s.next_serial row)) s.caps
    (λ row fits. names_other_by s row row.master (row.serial.0 == s.next_serial) refl fits) valid.slots.filled)

module _ (s : State) (valid : IsValid s) where
  created_in_made : (partition cspace : Serial) (k : Kind) (slot : Option ℕ) → free_slot s cspace.0 ≡ slot
      → IsTrue (lives_as s.objects partition.0 kind.Partition) → IsTrue (lives_as s.objects cspace.0 kind.Cspace)
      → IsTrue (is_referred s partition) → IsTrue (is_referred s cspace)
      → MayMake s (created_in s partition cspace k slot)
  created_in_made partition cspace k None free owner home from_owner from_home = tt
  created_in_made partition cspace k (Some slot) free owner home from_owner from_home =
      unless s (lacks_room s partition k) Nomem _ (λ roomy.
      let room : (nat_lt (free_units s partition.0) (kind_cost k) ≡ false) × (is_full s k ≡ false) = or_none _ _ roomy in
      let row : ObjectRow = new_object s partition k in
      let units : kind_cost k ≤ free_units s partition.0 =
      leb-true _ _ (at_most_by (free_units s partition.0) (kind_cost k) room.0) in
      let added : MayAdd s row = record {
        serial = refl;
        partition = owner;
        room = room.1;
        some = some_cost k;
        units = units;
        new = new_cost k;
        unretired = refl;
        from_object = may_refer s valid partition from_owner;
      } in
      let place : IsFree s cspace.0 slot = free_slot_is s cspace.0 slot free in
      let none : find (is_object s.next_serial) s.objects ≡ None =
      unfound (is_object s.next_serial) s.objects (valid.objects.later s.next_serial (omega arith)) in
      let new : find (is_object s.next_serial) (s.objects ++ row ∷ []) ≡ Some row =
      find_push_new (is_object s.next_serial) s.objects row none (itself s.next_serial) in
      let put : MayPut (add_object row s) (new_master s cspace slot k) = record {
        slot = place.slot;
        free = place.free;
        home = lives_push kind.Cspace s.objects row cspace.0 home;
        object = subst (λ (o : Option ObjectRow). IsTrue (is_of_kind k o)) (sym new) (itself (kind_number k));
        valid = refl;
        rights = kind_rights_fit k;
        master = λ is. no_master s valid;
        from_slot = refer_push s row cspace.0 refl (may_refer s valid cspace from_home);
        from_capability = ap is_retired new;
      } in
      record { first = added; others = record { first = put; others = tt } })

  created_made : (partition cspace : Serial) (k : Option Kind)
      → IsTrue (lives_as s.objects partition.0 kind.Partition) → IsTrue (lives_as s.objects cspace.0 kind.Cspace)
      → IsTrue (is_referred s partition) → IsTrue (is_referred s cspace)
      → MayMake s (created s partition cspace k)
  created_made partition cspace None owner home from_owner from_home = tt
  created_made partition cspace (Some k) owner home from_owner from_home =
      created_in_made partition cspace k _ refl owner home from_owner from_home

  pub create_made : (partition cspace : Serial) (number : ℕ)
      → IsTrue (lives_as s.objects partition.0 kind.Partition) → IsTrue (lives_as s.objects cspace.0 kind.Cspace)
      → IsTrue (is_referred s partition) → IsTrue (is_referred s cspace)
      → MayMake s (create s partition cspace number)
  create_made partition cspace number owner home from_owner from_home =
      created_made partition cspace (kind_numbered number) owner home from_owner from_home

-- activate comes to a stage that isn't the first
activated_made : (s : State) (object : Serial) (row : Option ObjectRow) → MayMake s (activated object row)
activated_made s object None = tt
activated_made s object (Some row) =
    unless s (is_init_stage row.stage) ObjConfig _ (λ configured. one s (SetStage object Active) done refl)

pub activate_made : (s : State) (object : Serial) → MayMake s (activate s object)
activate_made s object = activated_made s object (object_row s object.0)
