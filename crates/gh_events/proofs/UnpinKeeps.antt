-- A pin of an ended call that is dropped keeps sound references.
use Rattle.std.proofs.Common.{◌≡◌, ◌+◌, ◌-◌, ◌<◌, ◌≤◌, ◌∙◌, ℕ, zero, suc, Bool, true, false, List, [], ◌∷◌, ◌⊎◌, inl, inr, refl, subst, sym, ap, arith, Some, is_some, slice_get, if◌then◌else◌}
use Rattle.std.specs.Prelude.{count_by, nat_lt, ◌||◌}
use Rattle.std.specs.List.{list_any}
use Rattle.std.proofs.lemmas.Bool.{eqb-true}
use Rattle.std.proofs.lemmas.Bool.Decides.{eqb_tells, nat_tests}
use Rattle.gh_base.specs.declared.limits.TheConstants.{CPUS}
use Rattle.gh_events.specs.CallEvents.{MayUnpin, unpinned, without_pin}
use Rattle.gh_events.specs.Config.{Config, Cpu, Pin, is_pin_at, object_at, present, put}
use Rattle.gh_events.specs.References.{HasReferences, IsPinned, pins_at, pins_of}
use Rattle.gh_events.proofs.CpuMoves.{Moves, part_sound}
use Rattle.gh_events.proofs.Finding.{put_other, same_number}
use Rattle.gh_events.proofs.LeaveKeeps.{no_call}
use Rattle.gh_events.proofs.Living.{LivesAt, cons_counts, lives_there, pins_some}
use Rattle.gh_events.proofs.UndoKeeps.{pin_uncounts, within_total}

-- the pin at an index that is dropped first
pub record FirstPin (object : ℕ) (pins : List Pin) : Type 0 where
  pub place : ℕ
  pub pin : Pin
  pub is : slice_get pins place ≡ Some pin
  pub there : pin.index ≡ object
  pub counts : (i : ℕ) → count_by (is_pin_at i) pins
      ≡ count_by (is_pin_at i) (without_pin object pins) + count_by (is_pin_at i) (pin ∷ [])

first_by : (here : Bool) (object : ℕ) (pin : Pin) (pins : List Pin) → is_pin_at object pin ≡ here
    → (list_any (is_pin_at object) pins ≡ true → FirstPin object pins)
    → (here || list_any (is_pin_at object) pins) ≡ true → FirstPin object (pin ∷ pins)
first_by true object pin pins is rest some = record {
  place = 0;
  pin = pin;
  is = refl;
  there = eqb-true pin.index object is;
  counts = λ i. rw is (let all : count_by (is_pin_at i) (pin ∷ pins) ≡ count_by (is_pin_at i) (pin ∷ []) + count_by (is_pin_at i) pins = cons_counts i pin pins in omega (arith, all));
}
first_by false object pin pins is rest some =
    let first : FirstPin object pins = rest some in
    record {
      place = suc first.place;
      pin = first.pin;
      is = first.is;
      there = first.there;
      counts = λ i. rw is (let before : count_by (is_pin_at i) (pin ∷ pins) ≡ count_by (is_pin_at i) (pin ∷ []) + count_by (is_pin_at i) pins = cons_counts i pin pins in let behind : count_by (is_pin_at i) (pin ∷ without_pin object pins) ≡ count_by (is_pin_at i) (pin ∷ []) + count_by (is_pin_at i) (without_pin object pins) = cons_counts i pin (without_pin object pins) in omega (arith, before, behind, first.counts i));
    }

-- where some pin is at an index there is a first
pub first_pin : (object : ℕ) (pins : List Pin) → list_any (is_pin_at object) pins ≡ true
    → FirstPin object pins
first_pin object [] some = absurd (let never : ⊥ = cc in never)
first_pin object (pin ∷ pins) some =
    first_by (is_pin_at object pin) object pin pins refl (first_pin object pins) some

-- a place of a pin among these
pub record StandsIn (pins : List Pin) (pin : Pin) : Type 0 where
  pub place : ℕ
  pub is : slice_get pins place ≡ Some pin

stands_on : (pins : List Pin) (first pin : Pin) → StandsIn pins pin → StandsIn (first ∷ pins) pin
stands_on pins first pin before = record { place = suc before.place; is = before.is }

without_by : (here : Bool) (object : ℕ) (first : Pin) (pins : List Pin) (pin : Pin) (i : ℕ)
    → ((k : ℕ) → slice_get (without_pin object pins) k ≡ Some pin → StandsIn pins pin)
    → slice_get (if here then pins else first ∷ without_pin object pins) i ≡ Some pin
    → StandsIn (first ∷ pins) pin
without_by true object first pins pin i rest is = record { place = suc i; is = is }
without_by false object first pins pin zero rest is = record { place = 0; is = is }
without_by false object first pins pin (suc i) rest is = stands_on pins first pin (rest i is)

-- a pin that is left was there before
pub without_stands : (object : ℕ) (pins : List Pin) (pin : Pin) (i : ℕ)
    → slice_get (without_pin object pins) i ≡ Some pin → StandsIn pins pin
without_stands object [] pin i is = record { place = i; is = is }
without_stands object (first ∷ pins) pin i is =
    without_by (is_pin_at object first) object first pins pin i (λ k. without_stands object pins pin k) is

-- the word of a pinned object counts all pins at its index
pub counts_pins : (conf : Config) (pin : Pin) → HasReferences conf → IsPinned conf pin
    → pins_at conf.cpu pin.index ≤ conf.count pin.index
counts_pins conf pin sound pinned =
    let lives : LivesAt (present conf) conf.index pin.index pinned.row.serial.0 = lives_there (present conf) conf.index pin.index pinned.row pinned.lives_there in
    let alive : conf.dead (conf.index lives.row.serial.0) ≡ false = subst (λ (n : ℕ). conf.dead n ≡ false) (sym lives.there) pinned.alive in
    subst (λ (n : ℕ). pins_at conf.cpu n ≤ conf.count n) lives.there (omega (arith, sound.counted.counts lives.row lives.is alive))

-- so it isn't 0
pub pin_counted : (conf : Config) (at i : ℕ) (pin : Pin) → HasReferences conf
    → slice_get (conf.cpu at).pins i ≡ Some pin → 1 ≤ conf.count pin.index
pin_counted conf at i pin sound is =
    let one : 1 ≤ count_by (is_pin_at pin.index) (conf.cpu at).pins = pins_some pin.index i (conf.cpu at).pins pin is (same_number pin.index) in
    let within : at < CPUS = by_seat (nat_lt at CPUS) refl one in
    let all : pins_of (conf.cpu at) pin.index ≤ pins_at conf.cpu pin.index = within_total (λ (n : ℕ). pins_of (conf.cpu n) pin.index) at CPUS within in
    let counted : pins_at conf.cpu pin.index ≤ conf.count pin.index = counts_pins conf pin sound ((sound.holds at).pinned i pin is) in
    omega (arith, all, one, counted)
  where
    by_seat : (here : Bool) → nat_lt at CPUS ≡ here → 1 ≤ count_by (is_pin_at pin.index) (conf.cpu at).pins → at < CPUS
    by_seat true below one = grind (arith, nat_tests)
    by_seat false beyond one = let none : pins_of (conf.cpu at) pin.index ≡ 0 = sound.seats at pin.index (grind (arith, nat_tests)) in absurd (omega (arith, none, one))

module _ (conf : Config) (at object : ℕ) (sound : HasReferences conf) (may : MayUnpin conf at object)
  where
    dropped : FirstPin object (conf.cpu at).pins
    dropped = first_pin object (conf.cpu at).pins may.held

    left_cpu : Cpu
    left_cpu = record (conf.cpu at) { pins = without_pin object (conf.cpu at).pins }

    old_pinned : IsPinned conf dropped.pin
    old_pinned = (sound.holds at).pinned dropped.place dropped.pin dropped.is

    some_counted : 1 ≤ conf.count object
    some_counted =
        subst (λ (n : ℕ). 1 ≤ conf.count n) dropped.there (pin_counted conf at dropped.place dropped.pin sound dropped.is)

    unpin_homed : (i : ℕ) → (put conf.count object (conf.count object - 1) i ≡ conf.count i)
        ⊎ ((is_some (object_at (present conf) conf.index i) ≡ true) ⊎ (conf.dead i ≡ true))
    unpin_homed i =
        elim (eqb_tells i object) as (λ _. (put conf.count object (conf.count object - 1) i ≡ conf.count i) ⊎ ((is_some (object_at (present conf) conf.index i) ≡ true) ⊎ (conf.dead i ≡ true))) [
          | inl same ↦ inr (inl (subst (λ (n : ℕ). is_some (object_at (present conf) conf.index n) ≡ true) (dropped.there ∙ sym same.1) (ap is_some old_pinned.lives_there)))
          | inr differs ↦ inl (put_other conf.count object (conf.count object - 1) i differs.0)
        ]

    pinned_before : (pin : Pin) → StandsIn (conf.cpu at).pins pin → IsPinned conf pin
    pinned_before pin stands = (sound.holds at).pinned stands.place pin stands.is

    unpin_moves : Moves conf at left_cpu (put conf.count object (conf.count object - 1))
    unfolding left_cpu
    unpin_moves = record {
      is_cpu = may.is_cpu;
      moved = λ i. omega (arith, dropped.counts i, pin_uncounts conf.count object i dropped.pin dropped.there some_counted);
      homed = unpin_homed;
      holding = record {
        pinned = λ i pin is. pinned_before pin (without_stands object (conf.cpu at).pins pin i is);
        granted = λ other seen now last. absurd (no_call other (sym may.ended ∙ now.is_current));
        dying = λ other seen now last. absurd (no_call other (sym may.ended ∙ now.is_current));
      };
    }

    -- a dropped pin keeps sound references
    pub unpin_keeps : HasReferences (unpinned conf at object)
    unfolding left_cpu
    unpin_keeps =
        part_sound conf at left_cpu (put conf.count object (conf.count object - 1)) conf.counter unpin_moves sound
