-- A pin on a dead word that is undone keeps sound references.
use Rattle.std.proofs.Common.{◌≡◌, ◌==◌, ◌+◌, ◌-◌, ◌<◌, ◌≤◌, ◌∙◌, ℕ, zero, suc, true, false, List, [], ◌∷◌, ◌⊎◌, inl, inr, refl, subst, sym, ap, arith, Some, None, is_some}
use Rattle.std.specs.Prelude.{count_by, option_map}
use Rattle.std.specs.List.{last_or}
use Rattle.std.proofs.lemmas.Bool.Decides.{eqb_tells, nat_tests}
use Rattle.gh_base.specs.declared.limits.TheConstants.{CPUS}
use Rattle.gh_model.specs.Marks.{Seen}
use Rattle.gh_events.specs.CallEvents.{MayUndo, at_stage, undone, with_call}
use Rattle.gh_events.specs.Config.{Config, Current, DeadPin, Pin, Undone, is_pin_at, object_at, pin_of, present, put, seen_index}
use Rattle.gh_events.specs.References.{HasGrant, HasReferences, IsGranted, dead_pin, grants_at, pins_at, pins_of, total}
use Rattle.gh_events.proofs.CpuMoves.{Moves, part_sound}
use Rattle.gh_events.proofs.Finding.{put_other}
use Rattle.gh_events.proofs.PinKeeps.{counts_hit, counts_miss, same_last, staged_apart}

module _ (amount : ℕ → ℕ) (at : ℕ) where
  within_by : (k : ℕ) → at < suc k → (k ≡ at) ⊎ ((k == at) ≡ false)
      → (at < k → amount at ≤ total k amount) → amount at ≤ total (suc k) amount
  unfolding total
  within_by k within (inl same) rest =
      let equal : amount k ≡ amount at = ap amount same in omega (arith, equal)
  within_by k within (inr apart) rest =
      let below : at < k = grind (arith, nat_tests) in
      let before : amount at ≤ total k amount = rest below in
      omega arith

  tells : (k : ℕ) → (k ≡ at) ⊎ ((k == at) ≡ false)
  tells k =
      elim (eqb_tells k at) as (λ _. (k ≡ at) ⊎ ((k == at) ≡ false)) [
        | inl same ↦ inl same.1
        | inr differs ↦ inr differs.0
      ]

  -- each part of a sum is at most the sum
  pub within_total : (k : ℕ) → at < k → amount at ≤ total k amount
  within_total zero within = absurd (omega arith)
  within_total (suc k) within = within_by k within (tells k) (within_total k)

-- a word that falls by one has one pin less
pub pin_uncounts : (count : ℕ → ℕ) (object i : ℕ) (pin : Pin) → pin.index ≡ object
    → 1 ≤ count object
    → put count object (count object - 1) i + count_by (is_pin_at i) (pin ∷ []) ≡ count i
pin_uncounts count object i pin is some =
    elim (eqb_tells i object) as (λ _. put count object (count object - 1) i + count_by (is_pin_at i) (pin ∷ []) ≡ count i) [
      | inl same ↦ let equal : i ≡ object = same.1 in let here : (i == object) ≡ true = grind (arith, nat_tests) in let also : (pin.index == i) ≡ true = grind (arith, nat_tests) in let value : put count object (count object - 1) i ≡ count object - 1 = rw here refl in let old : count object ≡ count i = ap count (sym equal) in omega (arith, counts_hit i pin also, value, old, some)
      | inr differs ↦ let apart : (i == object) ≡ false = differs.0 in let also : (pin.index == i) ≡ false = grind (arith, nat_tests) in omega (arith, counts_miss i pin also, put_other count object (count object - 1) i apart)
    ]

module _ (conf : Config) (at object : ℕ) (sound : HasReferences conf) (may : MayUndo conf at object)
  where
    undo_last : last_or None may.call.seen ≡ Some may.granted.seen
    undo_last = may.granted.last

    staged_pins : (call : Current) (seen : Seen) → call.stage ≡ DeadPin
        → last_or None call.seen ≡ Some seen → dead_pin (Some call) ≡ pin_of seen ∷ []
    staged_pins call seen is last = rw is (rw last refl)

    is_grant : HasGrant (conf.cpu at) may.call
    is_grant = record {
      is_current = may.dead.is_current;
      grants = ap grants_at may.dead.at_stage;
    }

    grant : IsGranted conf may.granted.seen
    grant = (sound.holds at).granted may.call may.granted.seen is_grant undo_last

    old_pin : dead_pin (conf.cpu at).current ≡ pin_of may.granted.seen ∷ []
    old_pin =
        ap dead_pin may.dead.is_current ∙ staged_pins may.call may.granted.seen may.dead.at_stage undo_last

    new_pin : dead_pin (option_map (at_stage Undone) (conf.cpu at).current) ≡ []
    new_pin = rw may.dead.is_current refl

    dead_there : conf.dead object ≡ true
    dead_there =
        subst (λ (n : ℕ). conf.dead n ≡ true) may.granted.index_is ((sound.holds at).dying may.call may.granted.seen may.dead undo_last)

    old_count : (i : ℕ) → count_by (is_pin_at i) (dead_pin (conf.cpu at).current)
        ≡ count_by (is_pin_at i) (pin_of may.granted.seen ∷ [])
    old_count i = ap (λ (pins : List Pin). count_by (is_pin_at i) pins) old_pin

    -- the dead word counts the pin that is undone
    counts_some : 1 ≤ conf.count object
    counts_some =
        let index_is : seen_index may.granted.seen ≡ object = may.granted.index_is in
        let here : is_pin_at object (pin_of may.granted.seen) ≡ true = grind (arith, nat_tests) in
        let all : pins_of (conf.cpu at) object ≤ pins_at conf.cpu object = within_total (λ (n : ℕ). pins_of (conf.cpu n) object) at CPUS may.is_cpu in
        omega (arith, all, old_count object, counts_hit object (pin_of may.granted.seen) here, sound.counted.dead_counts object may.is_index dead_there)

    undo_moved : (i : ℕ) → put conf.count object (conf.count object - 1) i + pins_of (conf.cpu at) i
        ≡ conf.count i + pins_of (with_call (at_stage Undone) (conf.cpu at)) i
    undo_moved i =
        let none : count_by (is_pin_at i) (dead_pin (option_map (at_stage Undone) (conf.cpu at).current)) ≡ 0 = ap (λ (pins : List Pin). count_by (is_pin_at i) pins) new_pin in
        omega (arith, none, old_count i, pin_uncounts conf.count object i (pin_of may.granted.seen) may.granted.index_is counts_some)

    undo_homed : (i : ℕ) → (put conf.count object (conf.count object - 1) i ≡ conf.count i)
        ⊎ ((is_some (object_at (present conf) conf.index i) ≡ true) ⊎ (conf.dead i ≡ true))
    undo_homed i =
        elim (eqb_tells i object) as (λ _. (put conf.count object (conf.count object - 1) i ≡ conf.count i) ⊎ ((is_some (object_at (present conf) conf.index i) ≡ true) ⊎ (conf.dead i ≡ true))) [
          | inl same ↦ inr (inr (subst (λ (n : ℕ). conf.dead n ≡ true) (sym same.1) dead_there))
          | inr differs ↦ inl (put_other conf.count object (conf.count object - 1) i differs.0)
        ]

    undo_moves : Moves conf at (with_call (at_stage Undone) (conf.cpu at)) (put conf.count object (conf.count object - 1))
    undo_moves = record {
      is_cpu = may.is_cpu;
      moved = undo_moved;
      homed = undo_homed;
      holding = record {
        pinned = (sound.holds at).pinned;
        granted = λ other seen now last. subst (λ (one : Seen). IsGranted conf one) (same_last (conf.cpu at).current may.call other Undone may.granted.seen seen may.dead.is_current undo_last now.is_current last) grant;
        dying = λ other seen dead last. absurd (staged_apart (conf.cpu at).current other Undone DeadPin dead.is_current dead.at_stage refl);
      };
    }

    -- an undone pin keeps sound references
    pub undo_keeps : HasReferences (undone conf at object)
    undo_keeps =
        part_sound conf at (with_call (at_stage Undone) (conf.cpu at)) (put conf.count object (conf.count object - 1)) conf.counter undo_moves sound
