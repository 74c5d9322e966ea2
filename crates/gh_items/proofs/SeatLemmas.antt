-- A CPU moves, and the others stand as they did: the seats of a run's progress.
use Rattle.std.proofs.Common.{◌≡◌, ◌≢◌, ◌==◌, ◌-◌, ◌<◌, ◌∙◌, inl, inr, ℕ, zero, suc, false, List, [], ◌∷◌, length, refl, sym, ap, subst, arith, Option, Some, None, slice_get, slice_set}
use Rattle.std.specs.List.{last_or}
use Rattle.std.specs.Prelude.{OnOk, Result, Ok, Err}
use Rattle.std.proofs.lemmas.Bool.{ne_eqb}
use Rattle.std.proofs.lemmas.List.{get_or-set_same, length-set}
use Rattle.std.proofs.lemmas.Option.{slice_get-get_or}
use Rattle.gh_base.specs.declared.limits.TheConstants.{CPUS}
use Rattle.gh_events.specs.CallEvents.{at_stage}
use Rattle.gh_events.specs.Config.{Config, Cpu, Pin}
use Rattle.gh_core.specs.Running.{current_of, stage_of}
use Rattle.gh_core.specs.declared.current.CallStage.{CallStage}
use Rattle.gh_core.specs.declared.current.CurrentCall.{CurrentCall}
use Rattle.gh_items.specs.Stands.{SeatStands, Stands, with_call}
use Rattle.gh_items.specs.declared.progress.Progress.{Progress}
use Rattle.gh_items.specs.declared.progress.Seat.{Seat}
use Rattle.gh_model.specs.Marks.{cspace_of}
use Rattle.gh_model.proofs.RunLists.{set_cases}

-- an item that was put

pub set_here : {X : Type 0} (xs : List X) (at : ℕ) (x : X) → at < length xs → slice_get (slice_set xs at x) at ≡ Some x
set_here xs at x within =
    slice_get-get_or (slice_set xs at x) at x (omega (arith, length-set xs at x)) ∙ ap (λ (y : _). Some y) (get_or-set_same xs at x x within)

pub set_other : {X : Type 0} (xs : List X) (at n : ℕ) (x : X) → n ≢ at → slice_get (slice_set xs at x) n ≡ slice_get xs n
set_other [] at n x differs = refl
set_other (y ∷ xs) zero zero x differs = absurd (differs refl)
set_other (y ∷ xs) zero (suc n) x differs = refl
set_other (y ∷ xs) (suc at) zero x differs = refl
set_other (y ∷ xs) (suc at) (suc n) x differs = set_other xs at n x (λ same. differs (ap (λ (m : ℕ). suc m) same))

set_twice : {X : Type 0} (xs : List X) (at : ℕ) (x y : X) → slice_set (slice_set xs at x) at y ≡ slice_set xs at y
set_twice [] at x y = refl
set_twice (z ∷ xs) zero x y = refl
set_twice (z ∷ xs) (suc at) x y = ap (λ (others : List _). z ∷ others) (set_twice xs at x y)

-- an item that was there is put back
pub set_back : {X : Type 0} (xs : List X) (at : ℕ) (x y : X) → slice_get xs at ≡ Some x → xs ≡ slice_set (slice_set xs at y) at x
set_back [] at x y is = refl
set_back (z ∷ xs) zero x y is = ap (λ (w : _). w ∷ xs) (let same : z ≡ x = cc in same)
set_back (z ∷ xs) (suc at) x y is = ap (λ (others : List _). z ∷ others) (set_back xs at x y is)

pub put_twice : (progress : Progress) (at : ℕ) (call later : Option CurrentCall)
    → with_call (with_call progress at call) at later ≡ with_call progress at later
put_twice progress at call later = ap (λ (calls : List (Option CurrentCall)). record progress { calls = calls }) (set_twice progress.calls at call later)

-- a configuration in which counters, words and CPUs are others
abbrev pub moved : Config → (ℕ → ℕ) → (ℕ → ℕ) → (ℕ → Cpu) → Config
moved conf counter count cpus = record conf { counter = counter; count = count; cpu = cpus }

-- what a CPU's seat and its call come to stand for
abbrev pub ComesTo : Progress → Config → ℕ → Option CurrentCall → Cpu → Type 0
ComesTo progress conf at call cpu = (seat : Seat) (old : Option CurrentCall)
    → slice_get progress.seats at ≡ Some seat
    → SeatStands at (cspace_of conf.boot at) progress.marks seat old (conf.cpu at)
    → SeatStands at (cspace_of conf.boot at) progress.marks seat call cpu

module _ (progress : Progress) (conf : Config) (stands : Stands progress conf) (at : ℕ) (within : at < CPUS)
    (call : Option CurrentCall) (counter count : ℕ → ℕ) (cpus : ℕ → Cpu)
    (others : (n : ℕ) → (n == at) ≡ false → cpus n ≡ conf.cpu n) (comes : ComesTo progress conf at call (cpus at)) where
  seat_here : (n : ℕ) (seat : Seat) → n ≡ at → slice_get progress.seats n ≡ Some seat
      → SeatStands n (cspace_of conf.boot n) progress.marks seat call (cpus n)
  seat_here n seat same is =
      let there : at < length progress.calls = omega (arith, stands.nine_calls) in
      subst (λ (m : ℕ). SeatStands m (cspace_of conf.boot m) progress.marks seat call (cpus m)) (sym same)
      (comes seat _ (sym (ap (slice_get progress.seats) same) ∙ is)
      (stands.seats at seat _ (sym (ap (slice_get progress.seats) same) ∙ is) (slice_get-get_or progress.calls at None there)))

  seat_after : (n : ℕ) (seat : Seat) (one : Option CurrentCall) → slice_get progress.seats n ≡ Some seat
      → slice_get (slice_set progress.calls at call) n ≡ Some one
      → SeatStands n (cspace_of conf.boot n) progress.marks seat one (cpus n)
  seat_after n seat one is is_one =
      let there : at < length progress.calls = omega (arith, stands.nine_calls) in
      elim (set_cases progress.calls at n _ call one (slice_get-get_or progress.calls at None there) is_one)
      as (λ _. SeatStands n (cspace_of conf.boot n) progress.marks seat one (cpus n)) [
        | inl same ↦ subst (λ (c : Option CurrentCall). SeatStands n (cspace_of conf.boot n) progress.marks seat c (cpus n)) same.1
            (seat_here n seat same.0 is)
        | inr differs ↦ subst (SeatStands n (cspace_of conf.boot n) progress.marks seat one) (sym (others n (ne_eqb n at differs.0)))
            (stands.seats n seat one is differs.1)
      ]

  pub call_moves : Stands (with_call progress at call) (moved conf counter count cpus)
  call_moves = record {
    state = stands.state;
    entries = stands.entries;
    places = stands.places;
    all_placed = stands.all_placed;
    noted = stands.noted;
    all_noted = stands.all_noted;
    nine_seats = stands.nine_seats;
    nine_calls = length-set progress.calls at call ∙ stands.nine_calls;
    seats = seat_after;
  }

-- the call in progress that is taken out of the progress

module _ (progress : Progress) (conf : Config) (at : ℕ) (call : CurrentCall) (stands : Stands (with_call progress at (Some call)) conf)
    (within : at < CPUS) where
  pub calls_there : at < length progress.calls
  calls_there = omega (arith, length-set progress.calls at (Some call), stands.nine_calls)

  pub seat_stands : (seat : Seat) → slice_get progress.seats at ≡ Some seat
      → SeatStands at (cspace_of conf.boot at) progress.marks seat (Some call) (conf.cpu at)
  seat_stands seat seated = stands.seats at seat (Some call) seated (set_here progress.calls at (Some call) calls_there)

  -- it is the one of the configuration
  pub current_is : (conf.cpu at).current ≡ Some (current_of call)
  current_is = (seat_stands _ (slice_get-get_or progress.seats at some_seat (omega (arith, stands.nine_seats)))).current
    where
      some_seat : Seat
      some_seat = record { cpu = record { 0 = 0 }; cspace = record { 0 = 0 }; calls = 0; sections = 0; place = 0; ended = false }

  -- it goes on at another stage
  pub stage_stands : (stage : CallStage) (counter count : ℕ → ℕ) (cpus : ℕ → Cpu) (pins : List Pin)
      → ((n : ℕ) → (n == at) ≡ false → cpus n ≡ conf.cpu n)
      → cpus at ≡ record (conf.cpu at) { current = Some (at_stage (stage_of stage) (current_of call)); pins = pins }
      → Stands (with_call progress at (Some (record call { stage = stage }))) (moved conf counter count cpus)
  stage_stands stage counter count cpus pins others here =
      subst (λ (p : Progress). Stands p (moved conf counter count cpus)) (put_twice progress at (Some call) (Some (record call { stage = stage })))
      (call_moves (with_call progress at (Some call)) conf stands at within (Some (record call { stage = stage })) counter count cpus others
      (λ seat old there was.
      subst (SeatStands at (cspace_of conf.boot at) progress.marks seat (Some (record call { stage = stage }))) (sym here) (record {
        its_cpu = was.its_cpu;
        space = was.space;
        unasked = was.unasked;
        current = refl;
        dropped = λ none. absurd (let never : ⊥ = cc in never);
        made = was.made;
        calls = was.calls;
        sections = was.sections;
        place = was.place;
        ended = was.ended;
      })))

-- what a value gives it gives also by way of something else
pub if_ok : {T E P Q : Type 0} (result : Result T E) → (P → Q) → OnOk result P → OnOk result Q
if_ok (Ok value) follows is = follows is
if_ok (Err error) follows is = is

-- the last item
last_at : {X : Type 0} (x : X) (xs : List X) → slice_get (x ∷ xs) (length xs) ≡ last_or None (x ∷ xs)
last_at x [] = refl
last_at x (y ∷ xs) = last_at y xs

pub last_get : {X : Type 0} (xs : List X) → slice_get xs (length xs - 1) ≡ last_or None xs
last_get [] = refl
last_get (x ∷ xs) =
    let counted : length (x ∷ xs) - 1 ≡ length xs = omega arith in
    ap (slice_get (x ∷ xs)) counted ∙ last_at x xs
