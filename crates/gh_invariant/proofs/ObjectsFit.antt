-- Each change leaves objects with serials of their own, in partitions that live, and few of a kind.
use Rattle.std.proofs.Common.{◌≡◌, ◌+◌, ◌≤◌, ◌<◌, ◌∙◌, ◌&&◌, ◌==◌, ℕ, Bool, true, false, not, List, [], ◌∷◌, ◌++◌, refl, ap, arith, IsTrue, Option, Some, None, find}
use Rattle.std.specs.Prelude.{count_by}
use Rattle.std.specs.List.{list_all}
use Rattle.std.specs.Option.{option_or}
use Rattle.std.proofs.lemmas.Bool.{eqb-true, ne_eqb}
use Rattle.gh_base.specs.Kind.{kind_number}
use Rattle.gh_base.specs.declared.ids.Serial.{Serial}
use Rattle.gh_base.specs.declared.kind.Kind.{Kind}
use Rattle.gh_base.specs.declared.kind.Kind.TheVariants as kind
use Rattle.gh_base.specs.declared.limits.TheConstants.{CSPACES, PARTITIONS}
use Rattle.gh_model.specs.Boot.{is_of_kind}
use Rattle.gh_model.specs.Changes.{without}
use Rattle.gh_model.specs.QueueCalls.{one_if}
use Rattle.gh_model.specs.References.{is_inhabitant_of}
use Rattle.gh_model.specs.Rows.{change_row, is_object}
use Rattle.gh_model.specs.declared.rows.ObjectRow.{ObjectRow}
use Rattle.gh_invariant.specs.Lives.{is_housed, kind_total, lives_as}
use Rattle.gh_invariant.specs.Valid.{ObjectsFit}
use Rattle.gh_invariant.proofs.Counting.{all_by, all_push, count_push, find_push, find_push_new, find_push_other, one_false, unfound}
use Rattle.gh_invariant.proofs.ChangedRow.{all_change, count_change_kept, find_change_seen}
use Rattle.gh_invariant.proofs.RowsLeft.{count_fewer, find_gone, find_left}
use Rattle.gh_invariant.proofs.RowsTested.{all_uncounted, other_number}

-- a change of an object's row that keeps its serial, kind and partition
pub record KeepsPlace (change : ObjectRow → ObjectRow) : Type 0 where
  pub serial : (row : ObjectRow) → (change row).serial ≡ row.serial
  pub kind : (row : ObjectRow) → (change row).kind ≡ row.kind
  pub partition : (row : ObjectRow) → (change row).partition ≡ row.partition

module _ (q : ObjectRow → Bool) (change : ObjectRow → ObjectRow) (keeps : KeepsPlace change)
    (objects : List ObjectRow) where
  -- the same objects live
  pub lives_kept : (serial : ℕ) (k : Kind)
      → lives_as (change_row q change objects) serial k ≡ lives_as objects serial k
  lives_kept serial k =
      find_change_seen (is_of_kind k) (is_object serial) q change objects
      (λ row. ap (λ (s : Serial). s.0 == serial) (keeps.serial row))
      (λ row. ap (λ (one : Kind). kind_number one == kind_number k) (keeps.kind row))

  count_kept : (serial : ℕ)
      → count_by (is_object serial) (change_row q change objects)
      ≡ count_by (is_object serial) objects
  count_kept serial =
      count_change_kept (is_object serial) q change objects
      (λ row. ap (λ (s : Serial). s.0 == serial) (keeps.serial row))

  kind_kept : (k : Kind) → kind_total (change_row q change objects) k ≡ kind_total objects k
  kind_kept k =
      count_change_kept (λ (row : ObjectRow). kind_number row.kind == kind_number k) q change
      objects (λ row. ap (λ (one : Kind). kind_number one == kind_number k) (keeps.kind row))

  housed_kept : IsTrue (list_all (is_housed objects) objects)
      → IsTrue (list_all (is_housed (change_row q change objects)) (change_row q change objects))
  housed_kept all =
      all_change (is_housed (change_row q change objects)) q change objects
      (λ row is housed.
      ap (λ (p : Serial). lives_as (change_row q change objects) p.0 kind.Partition)
      (keeps.partition row) ∙ housed)
      (all_by (is_housed objects) (is_housed (change_row q change objects)) objects
      (λ row housed. lives_kept row.partition.0 kind.Partition ∙ housed) all)

  -- a change of a row that keeps its place
  pub change_keeps_objects : (next : ℕ) → ObjectsFit next objects
      → ObjectsFit next (change_row q change objects)
  change_keeps_objects next fit = record {
    some = fit.some;
    once = λ serial. rw (count_kept serial) (fit.once serial);
    none = count_kept 0 ∙ fit.none;
    later = λ serial new. count_kept serial ∙ fit.later serial new;
    housed = housed_kept fit.housed;
    partitions = rw (kind_kept kind.Partition) fit.partitions;
    cspaces = rw (kind_kept kind.Cspace) fit.cspaces;
  }

-- an object more

kind_stays : (k : Kind) (old new : Option ObjectRow) → IsTrue (is_of_kind k old)
    → IsTrue (is_of_kind k (option_or old new))
kind_stays k None new lives = absurd (let never : ⊥ = cc in never)
kind_stays k (Some row) new lives = lives

-- what lives does so beside an object more
pub lives_beside : (objects : List ObjectRow) (row : ObjectRow) (serial : ℕ) (k : Kind)
    → IsTrue (lives_as objects serial k) → IsTrue (lives_as (objects ++ row ∷ []) serial k)
lives_beside objects row serial k lives =
    ap (is_of_kind k) (find_push (is_object serial) objects row)
    ∙ kind_stays k (find (is_object serial) objects) (find (is_object serial) (row ∷ [])) lives

once_more : (old : ℕ) (here : Bool) → old ≤ 1 → (here ≡ true → old ≡ 0) → old + one_if here ≤ 1
once_more old true within none =
    (let one : one_if true ≡ 1 = refl in let zero : old ≡ 0 = none refl in omega arith)
once_more old false within none = (let zero : one_if false ≡ 0 = refl in omega arith)

module _ (next : ℕ) (objects : List ObjectRow) (row : ObjectRow) (serial : row.serial.0 ≡ next)
    (fit : ObjectsFit next objects) where
  -- a new serial is no object's yet
  unmade : (n : ℕ) → (row.serial.0 == n) ≡ true → count_by (is_object n) objects ≡ 0
  unmade n is =
      fit.later n (let same : row.serial.0 ≡ n = eqb-true row.serial.0 n is in omega arith)

  not_now : (n : ℕ) → (row.serial.0 ≡ n → ⊥) → count_by (is_object n) objects ≡ 0
      → count_by (is_object n) (objects ++ row ∷ []) ≡ 0
  not_now n other none =
      let sum : count_by (is_object n) (objects ++ row ∷ [])
      ≡ count_by (is_object n) objects + one_if (is_object n row) =
      count_push (is_object n) objects row in
      let zero : one_if (is_object n row) ≡ 0 =
      one_false (is_object n row) (ne_eqb row.serial.0 n other) in
      omega arith

  module _ (home : IsTrue (is_housed (objects ++ row ∷ []) row))
      (partitions : kind_total objects kind.Partition
      + one_if (kind_number row.kind == kind_number kind.Partition) ≤ PARTITIONS)
      (cspaces : kind_total objects kind.Cspace
      + one_if (kind_number row.kind == kind_number kind.Cspace) ≤ CSPACES) where
    -- an object with the next serial, in a partition that lives then
    pub add_keeps_objects : ObjectsFit (next + 1) (objects ++ row ∷ [])
    add_keeps_objects = record {
      some = omega arith;
      once = λ n.
          rw (count_push (is_object n) objects row)
          (once_more (count_by (is_object n) objects) (is_object n row) (fit.once n) (unmade n));
      none = not_now 0 (λ is. (let some : 0 < next = fit.some in omega arith)) fit.none;
      later = λ n new. not_now n (λ is. omega arith) (fit.later n (omega arith));
      housed = all_push (is_housed (objects ++ row ∷ [])) objects row
          (all_by (is_housed objects) (is_housed (objects ++ row ∷ [])) objects
          (λ one housed. lives_beside objects row one.partition.0 kind.Partition housed) fit.housed)
          home;
      partitions =
          rw (count_push (λ (one : ObjectRow). kind_number one.kind == kind_number kind.Partition)
          objects row) partitions;
      cspaces = rw
          (count_push (λ (one : ObjectRow). kind_number one.kind == kind_number kind.Cspace) objects
          row) cspaces;
    }

  lives_more_by : (n : ℕ) (k : Kind) (here : Bool) → (row.serial.0 == n) ≡ here
      → one_if (lives_as (objects ++ row ∷ []) n k)
      ≡ one_if (lives_as objects n k) + one_if (here && (kind_number row.kind == kind_number k))
  lives_more_by n k true is =
      let none : find (is_object n) objects ≡ None = unfound (is_object n) objects (unmade n is) in
      let old : one_if (lives_as objects n k) ≡ 0 =
      ap (λ (o : Option ObjectRow). one_if (is_of_kind k o)) none in
      let new : one_if (lives_as (objects ++ row ∷ []) n k)
      ≡ one_if (kind_number row.kind == kind_number k) =
      ap (λ (o : Option ObjectRow). one_if (is_of_kind k o))
      (find_push_new (is_object n) objects row none is) in
      omega arith
  lives_more_by n k false other =
      let same : one_if (lives_as (objects ++ row ∷ []) n k) ≡ one_if (lives_as objects n k) =
      ap (λ (o : Option ObjectRow). one_if (is_of_kind k o))
      (find_push_other (is_object n) objects row other) in
      let none : one_if false ≡ 0 = refl in
      omega arith

  -- what lives beside the object as before, and itself
  pub lives_more : (n : ℕ) (k : Kind)
      → one_if (lives_as (objects ++ row ∷ []) n k)
      ≡ one_if (lives_as objects n k)
      + one_if ((row.serial.0 == n) && (kind_number row.kind == kind_number k))
  lives_more n k = lives_more_by n k (row.serial.0 == n) refl

-- an object is reclaimed

-- other objects live on
pub lives_left : (objects : List ObjectRow) (object serial : ℕ) (k : Kind)
    → (serial == object) ≡ false
    → lives_as (without (is_object object) objects) serial k ≡ lives_as objects serial k
lives_left objects object serial k other =
    ap (is_of_kind k)
    (find_left (is_object serial) (is_object object) objects
    (λ row is. other_number row.serial.0 serial object other is))

-- it lives no more
pub lives_gone : (objects : List ObjectRow) (object : ℕ) (k : Kind)
    → lives_as (without (is_object object) objects) object k ≡ false
lives_gone objects object k =
    ap (is_of_kind k) (find_gone (is_object object) (is_object object) objects (λ row fails. fails))

-- an object that stays doesn't live in it
home_left : (objects : List ObjectRow) (object : ℕ) (row : ObjectRow) → is_object object row ≡ false
    → is_inhabitant_of object row ≡ false → IsTrue (is_housed objects row)
    → IsTrue (is_housed (without (is_object object) objects) row)
home_left objects object row stays elsewhere housed =
    lives_left objects object row.partition.0 kind.Partition
    (other_home (row.partition.0 == object) (is_object object row) stays elsewhere) ∙ housed
  where
    other_home : (here itself : Bool) → itself ≡ false → (here && not itself) ≡ false → here ≡ false
    other_home false itself stays elsewhere = refl
    other_home true true stays elsewhere = absurd (let never : ⊥ = cc in never)
    other_home true false stays elsewhere = elsewhere

-- an object that nothing lives in goes
pub reclaim_keeps_objects : (next : ℕ) (objects : List ObjectRow) (object : ℕ)
    → count_by (is_inhabitant_of object) objects ≡ 0 → ObjectsFit next objects
    → ObjectsFit next (without (is_object object) objects)
reclaim_keeps_objects next objects object empty fit = record {
  some = fit.some;
  once = λ serial.
      omega (arith, count_fewer (is_object serial) (is_object object) objects, fit.once serial);
  none = omega (arith, count_fewer (is_object 0) (is_object object) objects, fit.none);
  later = λ serial new.
      omega (
        arith,
        count_fewer (is_object serial) (is_object object) objects,
        fit.later serial
            new,
      );
  housed = all_uncounted (is_housed objects) (is_housed (without (is_object object) objects))
      (is_inhabitant_of object) (is_object object) objects (home_left objects object) empty
      fit.housed;
  partitions =
      omega (
        arith,
        count_fewer
            (λ (row : ObjectRow). kind_number row.kind == kind_number kind.Partition) (is_object object)
            objects,
        fit.partitions,
      );
  cspaces = omega (
    arith,
    count_fewer (λ (row : ObjectRow). kind_number row.kind == kind_number kind.Cspace)
        (is_object object) objects,
    fit.cspaces,
  );
}
