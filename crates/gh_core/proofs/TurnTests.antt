-- The tests of a turn's begin and end tell their conditions.
use Rattle.std.proofs.Common.{◌≡◌, ◌≢◌, ◌==◌, ◌&&◌, ◌∙◌, ◌⊎◌, ℕ, Bool, true, false, List, [], ◌∷◌, inl, inr, refl, ap, sym, subst, arith, Option, Some, None, not, length, option_map, is_some, map, nat_lt}
use Rattle.std.specs.List.{list_all}
use Rattle.std.proofs.lemmas.Bool.Decides.{eqb_tells, nat_tests}
use Rattle.gh_base.specs.declared.limits.TheConstants.{CPUS}
use Rattle.gh_model.specs.Marks.{Fails, Grants, Outcome, Wants}
use Rattle.gh_events.specs.Config.{Config, Current, Holder, OwesNothing, Pin, came_to, has_acted, has_part, pin_of, some_killed}
use Rattle.gh_core.specs.Running.{pin_of as held_pin, seen_of}
use Rattle.gh_core.specs.Running.{holder_of, is_paid, no_number, owes_nothing, quits, stands_for, turn_quits}
use Rattle.gh_core.specs.Tables.{numbers, put_number}
use Rattle.gh_core.specs.Tests.{is_before_act, is_granted, is_whole, same_pin, same_pins, takes}
use Rattle.gh_events.specs.TurnEvents.{MayQuit, MayTake, ready}
use Rattle.gh_core.specs.declared.config.Running.{Running}
use Rattle.gh_core.specs.declared.cpu.HeldPin.{HeldPin}
use Rattle.gh_core.specs.declared.current.SeenLook.{SeenLook}
use Rattle.gh_core.specs.declared.holder.Turn.{Turn}
use Rattle.gh_core.specs.declared.table.Written.{Written}
use Rattle.gh_core.proofs.CallTests.{below, both, equal, is_below, is_equal, joined, none_of}
use Rattle.gh_core.proofs.HolderTests.{denied, denies}
use Rattle.gh_core.proofs.LookRoom.{mapped_length}

-- pins

pin_same : (a b : Pin) → same_pin a b ≡ true → a ≡ b
pin_same a b is =
    let parts = both (a.serial == b.serial) (a.index == b.index) is in
    let first : a.serial ≡ b.serial = equal a.serial b.serial parts.0 in
    let second : a.index ≡ b.index = equal a.index b.index parts.1 in
    let one : a ≡ record { serial = b.serial; index = a.index } = ap (λ (s : ℕ). the_pin s a.index) first in
    one ∙ ap (λ (n : ℕ). the_pin b.serial n) second
  where
    the_pin : ℕ → ℕ → Pin
    the_pin serial index = record { serial = serial; index = index }

pins_same : (pins others : List Pin) → same_pins pins others ≡ true → pins ≡ others
pins_same [] [] is = refl
pins_same [] (b ∷ others) is = absurd (let never : ⊥ = cc in never)
pins_same (a ∷ pins) [] is = absurd (let never : ⊥ = cc in never)
pins_same (a ∷ pins) (b ∷ others) is =
    let parts = both (same_pin a b) (same_pins pins others) is in
    ap (λ (p : Pin). p ∷ pins) (pin_same a b parts.0) ∙ ap (λ (ps : List Pin). b ∷ ps) (pins_same pins others parts.1)

same_self : (pins : List Pin) → same_pins pins pins ≡ true
same_self [] = refl
same_self (a ∷ pins) = joined (same_pin a a) (same_pins pins pins) (joined _ _ (is_equal a.serial a.serial refl) (is_equal a.index a.index refl)) (same_self pins)

-- lists of pins of different lengths aren't the same
pub lengths_differ : (pins others : List Pin) → (length pins == length others) ≡ false → same_pins pins others ≡ false
lengths_differ [] [] differ = absurd (let never : ⊥ = grind (arith, nat_tests) in never)
lengths_differ [] (b ∷ others) differ = refl
lengths_differ (a ∷ pins) [] differ = refl
lengths_differ (a ∷ pins) (b ∷ others) differ =
    let rest : same_pins pins others ≡ false = lengths_differ pins others (grind (arith, nat_tests)) in rw rest (and_false (same_pin a b))
  where
    and_false : (b : Bool) → (b && false) ≡ false
    and_false true = refl
    and_false false = refl

unequal : (a b : ℕ) → a ≢ b → (a == b) ≡ false
unequal a b differ = grind (arith, nat_tests)

-- nor are they those of so many looks
pub looks_differ : (pins : List HeldPin) (seen : List SeenLook) → length pins ≢ length seen
    → same_pins (map held_pin pins) (map pin_of (map seen_of seen)) ≡ false
looks_differ pins seen differ = lengths_differ (map held_pin pins) (map pin_of (map seen_of seen))
    (subst (λ (n : ℕ). (n == length (map pin_of (map seen_of seen))) ≡ false) (sym (mapped_length held_pin pins))
    (subst (λ (n : ℕ). (length pins == n) ≡ false) (sym (mapped_length pin_of (map seen_of seen) ∙ mapped_length seen_of seen)) (unequal (length pins) (length seen) differ)))

-- take

pub record Whole (pins : List Pin) (found : Option Current) : Type 0 where
  pub call : Current
  pub is : found ≡ Some call
  pub granted : came_to call ≡ Grants
  pub all_pinned : pins ≡ map pin_of call.seen

grants_told : (came : Outcome) → is_granted came ≡ true → came ≡ Grants
grants_told (Wants slot need) is = absurd (let never : ⊥ = cc in never)
grants_told (Fails errno) is = absurd (let never : ⊥ = cc in never)
grants_told Grants is = refl

whole : (pins : List Pin) (found : Option Current) → is_whole pins found ≡ true → Whole pins found
whole pins None is = absurd (let never : ⊥ = cc in never)
whole pins (Some call) is =
    let parts = both (is_granted (came_to call)) (same_pins pins (map pin_of call.seen)) is in
    record { call = call; is = refl; granted = grants_told (came_to call) parts.0; all_pinned = pins_same pins (map pin_of call.seen) parts.1 }

tells_whole : (pins : List Pin) (found : Option Current) (call : Current) → found ≡ Some call → came_to call ≡ Grants
    → pins ≡ map pin_of call.seen → is_whole pins found ≡ true
tells_whole pins found call is granted pinned =
    rw is (joined (is_granted (came_to call)) (same_pins pins (map pin_of call.seen)) (rw granted refl)
    (subst (λ (ps : List Pin). same_pins ps (map pin_of call.seen) ≡ true) (sym pinned) (same_self (map pin_of call.seen))))

pub take_told : (conf : Config) (at : ℕ) → takes conf at ≡ true → MayTake conf at
take_told conf at is =
    let parts = both (nat_lt at CPUS) _ is in
    let rest = both (not (is_some conf.turn)) (is_whole (conf.cpu at).pins (ready (conf.cpu at))) parts.1 in
    let found : Whole (conf.cpu at).pins (ready (conf.cpu at)) = whole (conf.cpu at).pins (ready (conf.cpu at)) rest.1 in
    record {
      is_cpu = below at CPUS parts.0;
      free = none_of conf.turn rest.0;
      call = found.call;
      is_ready = found.is;
      granted = found.granted;
      all_pinned = found.all_pinned;
    }

pub tells_take : (conf : Config) (at : ℕ) → MayTake conf at → takes conf at ≡ true
tells_take conf at may = joined _ _ (is_below at CPUS may.is_cpu) (joined _ _ (rw may.free refl)
    (tells_whole (conf.cpu at).pins (ready (conf.cpu at)) may.call may.is_ready may.granted may.all_pinned))

-- nothing is owed

-- at a place nothing was written, or the table says 0 there
abbrev pub AtPlace : (ℕ → ℕ) → List Written → ℕ → Type 0
AtPlace all written at = ((values : ℕ → ℕ) → numbers values written at ≡ values at) ⊎ (all at ≡ 0)

place_first : (all : ℕ → ℕ) (w : Written) (written : List Written) (at : ℕ) → all w.at ≡ 0
    → AtPlace all written at → AtPlace all (w ∷ written) at
place_first all w written at zero_there (inr zero_here) = inr zero_here
place_first all w written at zero_there (inl others) = elim (eqb_tells at w.at) as (λ _. AtPlace all (w ∷ written) at) [
  | inl same ↦ inr (ap all same.1 ∙ zero_there)
  | inr other ↦ inl (λ values. others (put_number values w) ∙ rw other.0 refl)
]

place_of : (owed written : List Written) (at : ℕ) → list_all (is_paid owed) written ≡ true → AtPlace (numbers no_number owed) written at
place_of owed [] at are = inl (λ values. refl)
place_of owed (w ∷ written) at are =
    let parts = both (is_paid owed w) (list_all (is_paid owed) written) are in
    place_first (numbers no_number owed) w written at (equal (numbers no_number owed w.at) 0 parts.0) (place_of owed written at parts.1)

zero_at : (owed : List Written) (at : ℕ) → AtPlace (numbers no_number owed) owed at → numbers no_number owed at ≡ 0
zero_at owed at (inl unwritten) = unwritten no_number
zero_at owed at (inr zero_here) = zero_here

pub nothing_told : (owed : List Written) → owes_nothing owed ≡ true → (at : ℕ) → numbers no_number owed at ≡ 0
nothing_told owed is at = zero_at owed at (place_of owed owed at is)

all_paid : (owed written : List Written) → ((at : ℕ) → numbers no_number owed at ≡ 0) → list_all (is_paid owed) written ≡ true
all_paid owed [] none = refl
all_paid owed (w ∷ written) none = joined (is_paid owed w) (list_all (is_paid owed) written) (is_equal (numbers no_number owed w.at) 0 (none w.at)) (all_paid owed written none)

pub tells_nothing : (owed : List Written) → ((at : ℕ) → numbers no_number owed at ≡ 0) → owes_nothing owed ≡ true
tells_nothing owed none = all_paid owed owed none

-- quit

pub record Quitting (at : ℕ) (turn : Option Turn) : Type 0 where
  pub own : Turn
  pub is : turn ≡ Some own
  pub its_cpu : own.cpu.0 ≡ at
  pub paid : owes_nothing own.owed ≡ true
  pub before : is_before_act (holder_of own) ≡ true

quitting : (at : ℕ) (turn : Option Turn) → turn_quits at turn ≡ true → Quitting at turn
quitting at None is = absurd (let never : ⊥ = cc in never)
quitting at (Some own) is =
    let parts = both (own.cpu.0 == at) _ is in
    let rest = both (owes_nothing own.owed) (is_before_act (holder_of own)) parts.1 in
    record { own = own; is = refl; its_cpu = equal own.cpu.0 at parts.0; paid = rest.0; before = rest.1 }

pub quit_told : (running : Running) (at : ℕ) → quits running at ≡ true → MayQuit (stands_for running) at
quit_told running at is =
    let parts = both (nat_lt at CPUS) _ is in
    let rest = both (turn_quits at running.turn) (not (some_killed (stands_for running))) parts.1 in
    let found : Quitting at running.turn = quitting at running.turn rest.0 in
    let before = both (not (has_acted (holder_of found.own))) (not (has_part (holder_of found.own))) found.before in
    record {
      is_cpu = below at CPUS parts.0;
      holder = holder_of found.own;
      has_turn = record { turn = ap (option_map holder_of) found.is; its_cpu = found.its_cpu };
      owes_nothing = nothing_told found.own.owed found.paid;
      not_acted = denied (has_acted (holder_of found.own)) before.0;
      no_part = denied (has_part (holder_of found.own)) before.1;
      none_killed = denied (some_killed (stands_for running)) rest.1;
    }

-- what a holder that quits is
pub record Quits (at : ℕ) (holder : Holder) : Type 0 where
  pub its_cpu : holder.cpu ≡ at
  pub owes_nothing : OwesNothing holder
  pub not_acted : has_acted holder ≡ false
  pub no_part : has_part holder ≡ false

tells_own : (at : ℕ) (own : Turn) → Quits at (holder_of own) → turn_quits at (Some own) ≡ true
tells_own at own quits = joined (own.cpu.0 == at) _ (is_equal own.cpu.0 at quits.its_cpu)
    (joined (owes_nothing own.owed) (is_before_act (holder_of own)) (tells_nothing own.owed quits.owes_nothing)
    (joined (not (has_acted (holder_of own))) (not (has_part (holder_of own))) (denies (has_acted (holder_of own)) quits.not_acted) (denies (has_part (holder_of own)) quits.no_part)))

tells_turn : (at : ℕ) (turn : Option Turn) (holder : Holder) → option_map holder_of turn ≡ Some holder → Quits at holder → turn_quits at turn ≡ true
tells_turn at None holder is quits = absurd (let never : ⊥ = cc in never)
tells_turn at (Some own) holder is quits =
    let same : holder_of own ≡ holder = cc in
    tells_own at own (subst (λ (h : Holder). Quits at h) (sym same) quits)

pub tells_quit : (running : Running) (at : ℕ) → MayQuit (stands_for running) at → quits running at ≡ true
tells_quit running at may = joined _ _ (is_below at CPUS may.is_cpu)
    (joined (turn_quits at running.turn) (not (some_killed (stands_for running)))
    (tells_turn at running.turn may.holder may.has_turn.turn (record { its_cpu = may.has_turn.its_cpu; owes_nothing = may.owes_nothing; not_acted = may.not_acted; no_part = may.no_part }))
    (denies (some_killed (stands_for running)) may.none_killed))
