-- Runs of pages that an extent gives back to its parent, one after another.
use Rattle.std.proofs.Common.{◌≡◌, ◌≢◌, ◌<◌, ◌≤◌, ◌+◌, ◌∙◌, ◌∷◌, ◌++◌, ◌==◌, not, ℕ, zero, suc, Bool, true, false, List, [], Option, Some, None, refl, sym, ap, subst, arith}
use Rattle.std.proofs.Common.{length, map, take, drop, replicate, get_or, position, IsTrue, if◌then◌else◌}
use Rattle.std.specs.Prelude.{count_by}
use Rattle.std.specs.List.{list_all, prefix_len}
use Rattle.std.specs.Option.{option_map}
use Rattle.std.proofs.lemmas.Bool.{and_from, and_parts, ne_eqb}
use Rattle.std.proofs.lemmas.List.{get_or-drop, length-drop, length-take-le, map-append, take-append-drop}
use Rattle.std.proofs.lemmas.List.Folds.{list_all_more}
use Rattle.std.proofs.lemmas.List.Quantifiers.{position-Some}
use Rattle.std.proofs.lemmas.List.Sums.{prefix_len-le-length, prefix_len_passes}
use Rattle.std.proofs.Math.Seq.{take-add}
use Rattle.gh_base.specs.declared.ids.PageNo.{PageNo}
use Rattle.gh_base.specs.declared.ids.Serial.{Serial}
use Rattle.gh_extent.proofs.ExtentLemmas.{first_run-within}
use Rattle.gh_extent.specs.Extents.{first_run, run_from}
use Rattle.gh_invariant.proofs.Counting.{count_append, count_cons, count_unfound, none_fail, one_false, one_true}
use Rattle.gh_model.specs.Boot.{move_pages}
use Rattle.gh_model.specs.Changes.{given_back}
use Rattle.gh_model.specs.Memory.{HoldsRun, is_serial}
use Rattle.gh_parts.proofs.FoundRows.{not_true, unplaced_none}
use Rattle.gh_parts.proofs.Options.{some_same}

-- what comes first and passes
prefix_up_to : {X : Type 0} (p : X → Bool) (xs : List X) (d : X) (n : ℕ) → n ≤ prefix_len p xs
    → IsTrue (list_all p (take n xs))
prefix_up_to p xs d zero within = refl
prefix_up_to p xs d (suc n) within =
    let next : suc n ≡ n + 1 = omega arith in
    rw next (list_all_more p xs n d (omega (arith, within, prefix_len-le-length p xs))
    ∙ and_from _ _ (prefix_up_to p xs d n (omega arith)) (prefix_len_passes p xs n d (omega arith)))

prefix_some : {X : Type 0} (p : X → Bool) (xs : List X) (d : X) → 0 < length xs → p (get_or xs 0 d) ≡ true
    → 0 < prefix_len p xs
prefix_some p [] d some passes = some
prefix_some p (x ∷ xs) d some passes = rw passes (omega arith)

-- a first run
pub record IsRun (extent : ℕ) (holders : List Serial) (run : PageNo × ℕ) : Type 0 where
  pub holds : HoldsRun holders extent run.0.0 run.1
  pub some : 0 < run.1

module _ (extent : ℕ) (holders : List Serial) where
  run_at : (first : ℕ) → position (is_serial extent) holders ≡ Some first
      → first + prefix_len (is_serial extent) (drop first holders) ≤ length holders
      → IsRun extent holders (run_from extent holders first)
  run_at first is within =
      let none : Serial = record { 0 = 0 } in
      let at : (first < length holders) × (is_serial extent (get_or holders first none) ≡ true) × ((k : ℕ) → k < first → is_serial extent (get_or holders k none) ≡ false) =
      position-Some (is_serial extent) holders first none is in
      record {
        holds = record { within = within; held = prefix_up_to (is_serial extent) (drop first holders) none (prefix_len (is_serial extent) (drop first holders)) (omega arith) };
        some = prefix_some (is_serial extent) (drop first holders) none
            (omega (arith, length-drop first holders, at.0))
            (ap (is_serial extent) (get_or-drop first holders 0 none)
            ∙ ap (λ (k : ℕ). is_serial extent (get_or holders k none)) (let same : first + 0 ≡ first = omega arith in same)
            ∙ at.1);
      }

  run_by : (run : PageNo × ℕ) (found : Option ℕ) → position (is_serial extent) holders ≡ found
      → option_map (run_from extent holders) found ≡ Some run → run.0.0 + run.1 ≤ length holders
      → IsRun extent holders run
  run_by run None is none within = absurd (let never : ⊥ = cc in never)
  run_by run (Some first) is same within =
      let one : run_from extent holders first ≡ run = some_same (run_from extent holders first) run same in
      subst (IsRun extent holders) one
      (run_at first is (subst (λ (r : PageNo × ℕ). r.0.0 + r.1 ≤ length holders) (sym one) within))

  pub run_is : (run : PageNo × ℕ) → first_run extent holders ≡ Some run → IsRun extent holders run
  run_is run is =
      run_by run (position (is_serial extent) holders) refl is (first_run-within extent holders run is)

-- pages as those before a run, the run and those behind
pieces : (holders : List Serial) (first count : ℕ)
    → (take first holders ++ take count (drop first holders)) ++ drop (first + count) holders ≡ holders
pieces holders first count =
    ap (λ (front : List Serial). front ++ drop (first + count) holders) (sym (take-add first count holders))
    ∙ take-append-drop (first + count) holders

module _ (extent : ℕ) (parent : Serial) where
  either : (b : Bool) (x : Serial) → (if b then x else x) ≡ x
  either true x = refl
  either false x = refl

  given_run : (run : List Serial) → IsTrue (list_all (is_serial extent) run)
      → map (given_back extent parent) (replicate (length run) parent) ≡ map (given_back extent parent) run
  given_run [] all = refl
  given_run (holder ∷ run) all =
      let parts : ((holder.0 == extent) ≡ true) × (list_all (is_serial extent) run ≡ true) = and_parts _ _ all in
      let here : given_back extent parent parent ≡ given_back extent parent holder =
      either (parent.0 == extent) parent ∙ sym (rw parts.0 refl) in
      ap (λ (h : Serial). h ∷ map (given_back extent parent) (replicate (length run) parent)) here
      ∙ ap (λ (rest : List Serial). given_back extent parent holder ∷ rest) (given_run run parts.1)

  -- where it holds none, all stay
  pub given_none : (holders : List Serial) → IsTrue (list_all (λ (holder : Serial). not (is_serial extent holder)) holders)
      → map (given_back extent parent) holders ≡ holders
  given_none [] none = refl
  given_none (holder ∷ holders) none =
      let parts : (not (holder.0 == extent) ≡ true) × (list_all (λ (one : Serial). not (is_serial extent one)) holders ≡ true) =
      and_parts _ _ none in
      let here : given_back extent parent holder ≡ holder = rw (not_true (holder.0 == extent) parts.0) refl in
      ap (λ (h : Serial). h ∷ map (given_back extent parent) holders) here
      ∙ ap (λ (rest : List Serial). holder ∷ rest) (given_none holders parts.1)

  -- where the extent has no run left, all pages are given back
  pub given_last : (holders : List Serial) → first_run extent holders ≡ None
      → map (given_back extent parent) holders ≡ holders
  given_last holders none =
      given_none holders
      (none_fail (is_serial extent) holders
      (count_unfound (is_serial extent) holders
      (unplaced_none (is_serial extent) holders (no_place (position (is_serial extent) holders) none))))
    where
      no_place : (found : Option ℕ) → option_map (run_from extent holders) found ≡ None → found ≡ None
      no_place None none = refl
      no_place (Some first) none = absurd (let never : ⊥ = cc in never)

  module _ (holders : List Serial) (first count : ℕ) (holds : HoldsRun holders extent first count) where
    abbrev run : List Serial
    run = take count (drop first holders)

    run_size : length run ≡ count
    run_size =
        length-take-le count (drop first holders)
        (omega (arith, length-drop first holders, holds.within))

    -- a run that the parent gets is given back
    pub given_moved : map (given_back extent parent) (move_pages first count parent holders)
        ≡ map (given_back extent parent) holders
    given_moved =
        let middle : map (given_back extent parent) (replicate count parent) ≡ map (given_back extent parent) run =
        subst (λ (n : ℕ). map (given_back extent parent) (replicate n parent) ≡ map (given_back extent parent) run) run_size
        (given_run run holds.held) in
        let behind : List Serial = drop (first + count) holders in
        map-append (given_back extent parent) (take first holders ++ replicate count parent) behind
        ∙ ap (λ (front : List Serial). front ++ map (given_back extent parent) behind)
        (map-append (given_back extent parent) (take first holders) (replicate count parent)
        ∙ ap (λ (rest : List Serial). map (given_back extent parent) (take first holders) ++ rest) middle
        ∙ sym (map-append (given_back extent parent) (take first holders) run))
        ∙ sym (map-append (given_back extent parent) (take first holders ++ run) behind)
        ∙ ap (map (given_back extent parent)) (pieces holders first count)

    all_count : (list : List Serial) → IsTrue (list_all (is_serial extent) list)
        → count_by (is_serial extent) list ≡ length list
    all_count [] all = refl
    all_count (holder ∷ list) all =
        let parts : ((holder.0 == extent) ≡ true) × (list_all (is_serial extent) list ≡ true) = and_parts _ _ all in
        omega (arith, count_cons (is_serial extent) holder list, one_true (holder.0 == extent) parts.0, all_count list parts.1)

    none_count : (n : ℕ) → parent.0 ≢ extent → count_by (is_serial extent) (replicate n parent) ≡ 0
    none_count zero apart = refl
    none_count (suc n) apart =
        omega (
          arith,
          count_cons (is_serial extent) parent (replicate n parent),
          one_false (parent.0 == extent) (ne_eqb parent.0 extent apart),
          none_count n apart,
        )

    -- and fewer pages are the extent's
    pub fewer_held : 0 < count → parent.0 ≢ extent
        → count_by (is_serial extent) (move_pages first count parent holders) < count_by (is_serial extent) holders
    fewer_held some apart =
        let behind : List Serial = drop (first + count) holders in
        let old : count_by (is_serial extent) holders
        ≡ count_by (is_serial extent) (take first holders ++ run) + count_by (is_serial extent) behind =
        ap (count_by (is_serial extent)) (sym (pieces holders first count))
        ∙ count_append (is_serial extent) (take first holders ++ run) behind in
        omega (
          arith,
          old,
          count_append (is_serial extent) (take first holders) run,
          all_count run holds.held,
          run_size,
          count_append (is_serial extent) (take first holders ++ replicate count parent) behind,
          count_append (is_serial extent) (take first holders) (replicate count parent),
          none_count count apart,
        )
