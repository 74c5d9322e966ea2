-- The progress of a run before the first call.
use Rattle.std.proofs.Common.{◌≡◌, ◌<◌, ◌≤◌, ◌+◌, ◌∙◌, ℕ, zero, suc, List, [], ◌∷◌, ◌++◌, ap, arith, inl, inr, ◌-◌, length, length-append, map, refl, replicate, subst, sym, Option, Some, None, is_some, slice_get}
use Rattle.std.specs.Prelude.{IsTrue, nat_lt}
use Rattle.std.specs.List.{range_with_len}
use Rattle.std.specs.Option.{option_map_or}
use Rattle.std.proofs.lemmas.List.FromFn.{length-map-range_with_len}
use Rattle.gh_base.specs.declared.limits.TheConstants.{CPUS, OBJECT_INDICES, PARTITIONS}
use Rattle.gh_core.specs.declared.current.CurrentCall.{CurrentCall}
use Rattle.gh_events.specs.Start.{new_cpu, start}
use Rattle.gh_items.specs.Beginning.{AreAllNoted, ArePlaced, new_seat}
use Rattle.gh_items.specs.Stands.{SeatStands, Stands}
use Rattle.gh_items.specs.declared.progress.Progress.{Progress}
use Rattle.gh_items.specs.declared.progress.Seat.{Seat}
use Rattle.gh_model.specs.Boot.{boot_fits, boot_state}
use Rattle.gh_model.specs.Marks.{cspace_of}
use Rattle.gh_model.specs.Rows.{object_row}
use Rattle.gh_model.specs.declared.boot_line.BootLine.{BootLine}
use Rattle.gh_model.specs.declared.rows.ObjectRow.{ObjectRow}
use Rattle.gh_model.specs.declared.state.State.{State}
use Rattle.gh_schedules.specs.Indices.{boot_index, row_index}
use Rattle.gh_schedules.specs.Places.{boot_place, is_earlier_partition, is_partition_kind, places_behind}
use Rattle.gh_events.proofs.Boxes.{more_pass}
use Rattle.gh_invariant.proofs.BootValid.{boot_valid}
use Rattle.std.proofs.lemmas.Bool.{and_parts}
use Rattle.std.proofs.lemmas.Bool.Decides.{eqb_tells}
use Rattle.gh_items.proofs.MadeLemmas.{item_front, item_last}
use Rattle.gh_schedules.proofs.BootBlocks.{start_is_steady}
use Rattle.gh_schedules.proofs.Ranks.{boot_indices, few_partitions}

-- an item of a list that a function of the place makes, and of one that has one item all over

made_at : {X : Type 0} (f : ℕ → X) (first count at : ℕ) (x : X) → slice_get (map f (range_with_len first count)) at ≡ Some x → f (first + at) ≡ x
made_at f first zero at x is = absurd (let never : ⊥ = cc in never)
made_at f first (suc count) zero x is =
    let here : first + 0 ≡ first = omega arith in
    ap f here ∙ (let same : f first ≡ x = cc in same)
made_at f first (suc count) (suc at) x is =
    let there : first + suc at ≡ first + 1 + at = omega arith in
    ap f there ∙ made_at f (first + 1) count at x is

same_at : {X : Type 0} (count at : ℕ) (x y : X) → slice_get (replicate count x) at ≡ Some y → x ≡ y
same_at zero at x y is = absurd (let never : ⊥ = cc in never)
same_at (suc count) zero x y is = let same : x ≡ y = cc in same
same_at (suc count) (suc at) x y is = same_at count at x y is

-- one more object is noted
pub noted_more : (next : ℕ) (noted : List ℕ) (places : ℕ → ℕ) (place : ℕ) → AreAllNoted next noted places → place ≡ places next
    → AreAllNoted (next + 1) (noted ++ place ∷ []) places
noted_more next noted places place all is = record {
  count = omega (arith, length-append noted (place ∷ []), all.count);
  each = λ serial some made. elim (eqb_tells serial next) as (λ _. slice_get (noted ++ place ∷ []) (serial - 1) ≡ Some (places serial)) [
    | inl same ↦
        (let last : serial - 1 ≡ length noted = omega (arith, same.1, all.count) in
        ap (slice_get (noted ++ place ∷ [])) last ∙ item_last noted place ∙ ap Some (is ∙ ap places (sym same.1)))
    | inr differs ↦
        item_front noted place (serial - 1) (omega (arith, some, made, differs.1, all.count))
        ∙ all.each serial some (omega (arith, made, differs.1))
  ];
}

-- the start

module _ (boot : State) (progress : Progress) (plain : progress.plain ≡ boot) (entries : progress.entries ≡ []) (marks : progress.marks ≡ [])
    (placed : ArePlaced boot.next_serial progress.places (boot_index boot))
    (noted : AreAllNoted boot.next_serial progress.noted (boot_place boot))
    (seats : progress.seats ≡ map (new_seat boot) (range_with_len 0 CPUS)) (calls : progress.calls ≡ replicate CPUS None) where
  first_seat : (at : ℕ) → SeatStands at (cspace_of boot at) [] (new_seat boot at) None new_cpu
  first_seat at = record {
    its_cpu = refl;
    space = refl;
    unasked = refl;
    current = refl;
    dropped = λ none. refl;
    made = refl;
    calls = refl;
    sections = refl;
    place = refl;
    ended = refl;
  }

  all_seats : (at : ℕ) (seat : Seat) (call : Option CurrentCall) → slice_get progress.seats at ≡ Some seat → slice_get progress.calls at ≡ Some call
      → SeatStands at (cspace_of boot at) progress.marks seat call new_cpu
  all_seats at seat call is is_call =
      let here : at ≡ 0 + at = omega arith in
      let new : new_seat boot at ≡ seat = ap (new_seat boot) here ∙ made_at (new_seat boot) 0 CPUS at seat (ap (λ (list : List Seat). slice_get list at) (sym seats) ∙ is) in
      let none : None ≡ call = same_at CPUS at None call (ap (λ (list : List (Option CurrentCall)). slice_get list at) (sym calls) ∙ is_call) in
      subst (λ (m : List _). SeatStands at (cspace_of boot at) m seat call new_cpu) (sym marks)
      (subst (λ (s : Seat). SeatStands at (cspace_of boot at) [] s call new_cpu) new
      (subst (λ (c : Option CurrentCall). SeatStands at (cspace_of boot at) [] (new_seat boot at) c new_cpu) none (first_seat at)))

  pub first_stands : Stands progress (start boot (boot_index boot))
  unfolding places_behind
  first_stands = record {
    state = plain;
    entries = entries;
    places = placed.each;
    all_placed = placed.count;
    noted = noted.each;
    all_noted = noted.count;
    nine_seats = ap (λ (list : List Seat). length list) seats ∙ length-map-range_with_len (new_seat boot) 0 CPUS;
    nine_calls = ap (λ (list : List (Option CurrentCall)). length list) calls;
    seats = all_seats;
  }

-- the index of each object of a boot file is one that there is, and 0 of others

module _ (lines : List BootLine) (fits : IsTrue (boot_fits lines)) where
  abbrev boot : State
  boot = boot_state lines

  within_by : (serial : ℕ) (row : Option ObjectRow) → object_row boot serial ≡ row → boot_index boot serial < OBJECT_INDICES
  within_by serial None none =
      let zero_there : boot_index boot serial ≡ 0 = ap (λ (row : Option ObjectRow). option_map_or (row_index boot) row 0) none in
      omega (arith, zero_there)
  within_by serial (Some row) is = (boot_indices lines fits).within serial (ap is_some is)

  pub boot_within : (serial : ℕ) → boot_index boot serial < OBJECT_INDICES
  boot_within serial = within_by serial (object_row boot serial) refl

  -- there are no more places than partitions
  pub boot_few : (serial : ℕ) → boot_place boot serial ≤ PARTITIONS
  boot_few serial =
      omega (
        arith,
        more_pass (is_earlier_partition serial) (λ (row : ObjectRow). is_partition_kind row.kind) boot.objects
            (λ i row is passes. (and_parts (nat_lt row.serial.0 serial) (is_partition_kind row.kind) passes).1),
        few_partitions boot (boot_valid lines fits),
      )

  -- serials are given from 1 on
  pub boot_some : 0 < boot.next_serial
  boot_some = (start_is_steady lines fits).sound.valid.boot_valid.objects.some
