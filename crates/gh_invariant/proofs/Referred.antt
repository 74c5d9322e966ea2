-- What a call gives a reference has one already, or is new.
use Rattle.std.proofs.Common.{◌≡◌, ◌+◌, ◌<◌, ◌≤◌, ◌∙◌, ℕ, Bool, true, false, not, List, [], ◌∷◌, ◌++◌, length, refl, subst, sym, ap, arith, Option, Some, None, IsTrue, find, if◌then◌else◌}
use Rattle.std.specs.Option.{option_or}
use Rattle.std.specs.Prelude.{◌||◌, ◌==◌, is_some, nat_le, count_by}
use Rattle.std.proofs.lemmas.Bool.{and_from, leb-true}
use Rattle.std.proofs.lemmas.Bool.Decides.{nat_tests}
use Rattle.gh_base.specs.declared.errno.Errno.{Errno}
use Rattle.gh_base.specs.declared.ids.Serial.{Serial}
use Rattle.gh_model.specs.Act.{any_doomed}
use Rattle.gh_model.specs.Decisions.{grant_at}
use Rattle.gh_model.specs.MemoryCalls.{row_space}
use Rattle.gh_model.specs.QueueCalls.{one_if}
use Rattle.gh_model.specs.References.{is_attached_to, is_capability_of, is_doomed, references}
use Rattle.gh_model.specs.Rows.{cpu_row, fills, is_cpu, is_object, object_row}
use Rattle.gh_model.specs.declared.change.Decision.{Decision}
use Rattle.gh_model.specs.declared.change.Decision.TheVariants.{Refuse}
use Rattle.gh_model.specs.declared.rows.CapabilityRow.{CapabilityRow}
use Rattle.gh_model.specs.declared.rows.CpuRow.{CpuRow}
use Rattle.gh_model.specs.declared.state.State.{State}
use Rattle.gh_base.specs.declared.kind.Stage.{Stage}
use Rattle.gh_model.specs.Changes.{add_object, set_stage, with_stage}
use Rattle.gh_model.specs.History.{is_retired}
use Rattle.gh_model.specs.declared.rows.ObjectRow.{ObjectRow}
use Rattle.gh_invariant.specs.Grants.{GivesToReferred, is_referred, is_running}
use Rattle.gh_invariant.specs.Premises.{MayRefer}
use Rattle.gh_invariant.specs.Valid.{IsValid}
use Rattle.gh_invariant.proofs.ChangedRow.{find_change_seen}
use Rattle.gh_invariant.proofs.Counting.{count_cons, find_push, find_push_found, one_true, unfound}
use Rattle.gh_invariant.proofs.MayMake.{itself}

-- a decision behind a refusal gives only to what is referred to where that refusal doesn't hold
pub gives_unless : (s : State) (refused : Bool) (errno : Errno) (others : Decision)
    → (refused ≡ false → GivesToReferred s others) → GivesToReferred s (if refused then Refuse errno else others)
gives_unless s true errno others gives = tt
gives_unless s false errno others gives = gives refl

pub gives_provided : (s : State) (holds : Bool) (errno : Errno) (others : Decision)
    → (holds ≡ true → GivesToReferred s others) → GivesToReferred s (if holds then others else Refuse errno)
gives_provided s false errno others gives = tt
gives_provided s true errno others gives = gives refl

-- an object that isn't doomed has a reference
live_referred : (doomed later : Bool) → doomed ≡ false → (not doomed || later) ≡ true
live_referred true later is = absurd (let never : ⊥ = cc in never)
live_referred false later is = refl

pub not_doomed : (s : State) (object : Serial) → is_doomed s object.0 ≡ false → IsTrue (is_referred s object)
not_doomed s object is = live_referred (is_doomed s object.0) (nat_le s.next_serial object.0) is

pub not_made : (s : State) (object : Serial) → object.0 ≡ s.next_serial → IsTrue (is_referred s object)
not_made s object is = later (is_doomed s object.0) (nat_le s.next_serial object.0) (rw is (itself s.next_serial))
  where
    itself : (n : ℕ) → nat_le n n ≡ true
    itself n = grind (arith, nat_tests)

    later : (doomed made : Bool) → made ≡ true → (not doomed || made) ≡ true
    later true made is = is
    later false made is = refl

-- the first and the second of grants that aren't doomed
any_none : (here others : Bool) → (here || others) ≡ false → (here ≡ false) × (others ≡ false)
any_none true others none = absurd (let never : ⊥ = cc in never)
any_none false others none = (refl, none)

pub first_referred : (s : State) (grants : List Serial) → 0 < length grants → any_doomed s grants ≡ false
    → IsTrue (is_referred s (grant_at grants 0))
first_referred s [] some none = absurd (omega (arith, some))
first_referred s (grant ∷ grants) some none = not_doomed s grant (any_none (is_doomed s grant.0) _ none).0

pub second_referred : (s : State) (grants : List Serial) → 1 < length grants → any_doomed s grants ≡ false
    → IsTrue (is_referred s (grant_at grants 1))
second_referred s [] some none = absurd (omega (arith, some))
second_referred s (grant ∷ []) some none = absurd (omega (arith, some))
second_referred s (grant ∷ other ∷ grants) some none =
    not_doomed s other (any_none (is_doomed s other.0) _ (any_none (is_doomed s grant.0) _ none).1).0

-- what is found and passes a test is counted by it
found_counted_by : {R : Type 0} (p q : R → Bool) (first : R) (rows : List R) (row : R) (here : Bool)
    → (if here then Some first else find p rows) ≡ Some row → q row ≡ true
    → (find p rows ≡ Some row → 1 ≤ count_by q rows) → 1 ≤ one_if (q first) + count_by q rows
found_counted_by p q first rows row true found passes others =
    let same : first ≡ row = cc in
    let one : one_if (q first) ≡ 1 = one_true (q first) (ap q same ∙ passes) in omega arith
found_counted_by p q first rows row false found passes others =
    let more : 1 ≤ count_by q rows = others found in omega arith

pub found_counted : {R : Type 0} (p q : R → Bool) (rows : List R) (row : R) → find p rows ≡ Some row → q row ≡ true → 1 ≤ count_by q rows
found_counted p q [] row found passes = absurd (let never : ⊥ = cc in never)
found_counted p q (first ∷ rows) row found passes =
    subst (λ (n : ℕ). 1 ≤ n) (sym (count_cons q first rows))
    (found_counted_by p q first rows row (p first) found passes (λ later. found_counted p q rows row later passes))

-- references that are some don't leave an object doomed
pub some_references : (s : State) (object : Serial) → 0 < references s object.0 → IsTrue (is_referred s object)
some_references s object some = not_doomed s object (nonzero (references s object.0) some)
  where
    nonzero : (n : ℕ) → 0 < n → (n == 0) ≡ false
    nonzero n some = grind (arith, nat_tests)

-- a valid capability's object has a reference: the capability
pub capability_refers : (s : State) (cspace slot : ℕ) (row : CapabilityRow) → find (fills cspace slot) s.caps ≡ Some row
    → row.valid ≡ true → IsTrue (is_referred s row.serial)
capability_refers s cspace slot row found valid =
    let one : 1 ≤ count_by (is_capability_of row.serial.0) s.caps =
    found_counted (fills cspace slot) (is_capability_of row.serial.0) s.caps row found (and_from _ _ valid (itself row.serial.0)) in
    some_references s row.serial (omega arith)

-- a CPU that runs refers to its address space
cpu_refers_by : (s : State) (cpu : ℕ) (row : Option CpuRow) → cpu_row s cpu ≡ row → IsTrue (is_running row)
    → IsTrue (is_referred s (row_space row))
cpu_refers_by s cpu None found running = absurd (let never : ⊥ = cc in never)
cpu_refers_by s cpu (Some row) found running =
    let one : 1 ≤ count_by (is_attached_to row.space.0) s.cpus =
    found_counted (is_cpu cpu) (is_attached_to row.space.0) s.cpus row found
    (and_from _ _ (second (row.cspace.0 == row.space.0) (row.space.0 == row.space.0) (itself row.space.0)) running) in
    some_references s row.space (omega arith)
  where
    second : (a b : Bool) → b ≡ true → (a || b) ≡ true
    second true b is = refl
    second false b is = is

pub cpu_refers : (s : State) (cpu : ℕ) → IsTrue (is_running (cpu_row s cpu)) → IsTrue (is_referred s (row_space (cpu_row s cpu)))
cpu_refers s cpu running = cpu_refers_by s cpu (cpu_row s cpu) refl running

-- an object that has references, or isn't made yet, isn't retired
pub may_refer : (s : State) → IsValid s → (object : Serial) → IsTrue (is_referred s object) → MayRefer s object.0
may_refer s valid object is = by_row (is_retired (object_row s object.0)) refl
  where
    later_by : (doomed later : Bool) → doomed ≡ true → (not doomed || later) ≡ true → later ≡ true
    later_by true later is both = both
    later_by false later is both = absurd (let never : ⊥ = cc in never)

    by_row : (retired : Bool) → is_retired (object_row s object.0) ≡ retired → retired ≡ false
    by_row false row = refl
    by_row true row =
        let doomed : is_doomed s object.0 ≡ true = ap (λ (n : ℕ). n == 0) (valid.retired object.0 row) in
        let later : nat_le s.next_serial object.0 ≡ true = later_by (is_doomed s object.0) (nat_le s.next_serial object.0) doomed is in
        let none : find (is_object object.0) s.objects ≡ None =
        unfound (is_object object.0) s.objects (valid.objects.later object.0 (leb-true s.next_serial object.0 later)) in
        absurd (let never : false ≡ true = ap is_retired (sym none) ∙ row in cc)

-- nor does it become so where an object that isn't retired is added, or one comes to another stage
refer_push_by : (objects : List ObjectRow) (row : ObjectRow) (object : ℕ) (found : Option ObjectRow) → find (is_object object) objects ≡ found
    → row.retired ≡ None → is_retired found ≡ false → is_retired (find (is_object object) (objects ++ row ∷ [])) ≡ false
refer_push_by objects row object (Some old) found new is = ap is_retired (find_push_found (is_object object) objects row old found) ∙ is
refer_push_by objects row object None found new is =
    ap is_retired (find_push (is_object object) objects row ∙ ap (λ (o : Option ObjectRow). option_or o (find (is_object object) (row ∷ []))) found)
    ∙ either (row.serial.0 == object)
  where
    either : (here : Bool) → is_retired (if here then Some row else None) ≡ false
    either true = ap is_some new
    either false = refl

pub refer_push : (s : State) (row : ObjectRow) (object : ℕ) → row.retired ≡ None → MayRefer s object → MayRefer (add_object row s) object
refer_push s row object new is = refer_push_by s.objects row object (find (is_object object) s.objects) refl new is

pub refer_staged : (s : State) (other : Serial) (stage : Stage) (object : ℕ) → MayRefer s object → MayRefer (set_stage other stage s) object
refer_staged s other stage object is =
    find_change_seen is_retired (is_object object) (is_object other.0) (with_stage stage) s.objects (λ row. refl) (λ row. refl) ∙ is
