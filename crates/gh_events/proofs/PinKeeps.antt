-- A pin of a call, on a word that is dead or not, keeps sound references.
use Rattle.std.proofs.Common.{◌≡◌, ◌==◌, ◌+◌, ◌∙◌, ℕ, zero, suc, Bool, true, false, List, [], ◌∷◌, ◌++◌, ◌⊎◌, inl, inr, refl, subst, sym, ap, arith, Option, Some, None, is_some, slice_get}
use Rattle.std.specs.Prelude.{count_by, option_map, cond}
use Rattle.std.specs.List.{last_or}
use Rattle.std.proofs.lemmas.Bool.Decides.{eqb_tells, nat_tests}
use Rattle.std.proofs.lemmas.List.Sums.{sum_by-append}
use Rattle.gh_model.specs.Marks.{Seen}
use Rattle.gh_events.specs.CallEvents.{MayPin, at_stage, pin_of_call, pinned, with_call, with_pin}
use Rattle.gh_events.specs.Config.{Config, Cpu, Current, DeadPin, Looked, Pin, Reading, Stage, is_pin_at, object_at, pin_of, present, put, seen_index}
use Rattle.gh_events.specs.References.{HasGrant, HasReferences, IsGranted, IsPinned, dead_pin, grants_at, pins_of}
use Rattle.gh_events.proofs.CallsKeep.{no_grant, stage_number, stages_apart}
use Rattle.gh_events.proofs.CpuMoves.{Moves, part_sound}
use Rattle.gh_events.proofs.Finding.{put_other}

pub counts_hit : (at : ℕ) (pin : Pin) → is_pin_at at pin ≡ true → count_by (is_pin_at at) (pin ∷ []) ≡ 1
counts_hit at pin is = rw is refl

pub counts_miss : (at : ℕ) (pin : Pin) → is_pin_at at pin ≡ false
    → count_by (is_pin_at at) (pin ∷ []) ≡ 0
counts_miss at pin is = rw is refl

-- a word that rises by one has one pin more
pub pin_counts : (count : ℕ → ℕ) (object i : ℕ) (pin : Pin) → pin.index ≡ object
    → put count object (count object + 1) i ≡ count i + count_by (is_pin_at i) (pin ∷ [])
pin_counts count object i pin is =
    elim (eqb_tells i object) as (λ _. put count object (count object + 1) i ≡ count i + count_by (is_pin_at i) (pin ∷ [])) [
      | inl same ↦ let equal : i ≡ object = same.1 in let here : (i == object) ≡ true = grind (arith, nat_tests) in let also : (pin.index == i) ≡ true = grind (arith, nat_tests) in let value : put count object (count object + 1) i ≡ count object + 1 = rw here refl in let old : count object ≡ count i = ap count (sym equal) in omega (arith, counts_hit i pin also, value, old)
      | inr differs ↦ let apart : (i == object) ≡ false = differs.0 in let also : (pin.index == i) ≡ false = grind (arith, nat_tests) in omega (arith, counts_miss i pin also, put_other count object (count object + 1) i apart)
    ]

-- a call at another stage has the pins that the stage says
pub staged_apart : (current : Option Current) (other : Current) (stage wanted : Stage)
    → option_map (at_stage stage) current ≡ Some other → other.stage ≡ wanted
    → (stage_number stage == stage_number wanted) ≡ false → ⊥
staged_apart None other stage wanted is there apart = let never : None ≡ Some other = is in cc
staged_apart (Some call) other stage wanted is there apart =
    stages_apart (at_stage stage call) other wanted is there apart

looked_pins : (call : Current) (stage : Stage) → call.stage ≡ Looked → dead_pin (Some call) ≡ []
looked_pins call stage is = rw is refl

-- an item of a list with one more is one of the list or the new one
pub stands_in : {X : Type 0} (items : List X) (new item : X) (i : ℕ)
    → slice_get (items ++ new ∷ []) i ≡ Some item
    → ((slice_get items i ≡ Some item) ⊎ (new ≡ item))
stands_in [] new item zero is = inr cc
stands_in [] new item (suc i) is = let never : None ≡ Some item = is in absurd (let no_more : ⊥ = cc in no_more)
stands_in (first ∷ items) new item zero is = inl is
stands_in (first ∷ items) new item (suc i) is = stands_in items new item i is

-- a call at another stage has the same last look
pub same_last : (current : Option Current) (call other : Current) (stage : Stage) (first seen : Seen)
    → current ≡ Some call → last_or None call.seen ≡ Some first
    → option_map (at_stage stage) current ≡ Some other → last_or None other.seen ≡ Some seen
    → first ≡ seen
same_last current call other stage first seen is is_last there last =
    let made : Some (at_stage stage call) ≡ Some other = ap (option_map (at_stage stage)) (sym is) ∙ there in
    let same : at_stage stage call ≡ other = cc in
    let looks : call.seen ≡ other.seen = ap (λ (one : Current). one.seen) same in
    let both : Some first ≡ Some seen = sym is_last ∙ (ap (λ (one : List Seen). last_or None one) looks ∙ last) in
    cc

module _ (conf : Config) (at object : ℕ) (sound : HasReferences conf) (may : MayPin conf at object)
  where
    last_is : last_or None may.call.seen ≡ Some may.granted.seen
    last_is = may.granted.last

    call_pin : pin_of_call (conf.cpu at).current ≡ pin_of may.granted.seen ∷ []
    call_pin = rw may.is_looked.is_current (rw last_is refl)

    no_old : (i : ℕ) → count_by (is_pin_at i) (dead_pin (conf.cpu at).current) ≡ 0
    no_old i =
        ap (λ (pins : List Pin). count_by (is_pin_at i) pins) (ap dead_pin may.is_looked.is_current ∙ looked_pins may.call Looked may.is_looked.at_stage)

    is_grant : HasGrant (conf.cpu at) may.call
    is_grant = record {
      is_current = may.is_looked.is_current;
      grants = ap grants_at may.is_looked.at_stage;
    }

    grant : IsGranted conf may.granted.seen
    grant = (sound.holds at).granted may.call may.granted.seen is_grant last_is

    -- on a dead word
    dead_new : dead_pin (option_map (at_stage DeadPin) (conf.cpu at).current)
        ≡ pin_of may.granted.seen ∷ []
    dead_new = rw may.is_looked.is_current (rw last_is refl)

    dead_moved : (i : ℕ) → put conf.count object (conf.count object + 1) i + pins_of (conf.cpu at) i
        ≡ conf.count i + pins_of (with_call (at_stage DeadPin) (conf.cpu at)) i
    dead_moved i =
        let new : count_by (is_pin_at i) (dead_pin (option_map (at_stage DeadPin) (conf.cpu at).current)) ≡ count_by (is_pin_at i) (pin_of may.granted.seen ∷ []) = ap (λ (pins : List Pin). count_by (is_pin_at i) pins) dead_new in
        omega (arith, new, no_old i, pin_counts conf.count object i (pin_of may.granted.seen) may.granted.index_is)

    homed_by : (i : ℕ) → ((is_some (object_at (present conf) conf.index object) ≡ true) ⊎ (conf.dead object ≡ true))
        → (put conf.count object (conf.count object + 1) i ≡ conf.count i)
        ⊎ ((is_some (object_at (present conf) conf.index i) ≡ true) ⊎ (conf.dead i ≡ true))
    homed_by i there =
        elim (eqb_tells i object) as (λ _. (put conf.count object (conf.count object + 1) i ≡ conf.count i) ⊎ ((is_some (object_at (present conf) conf.index i) ≡ true) ⊎ (conf.dead i ≡ true))) [
          | inl same ↦ inr (subst (λ (n : ℕ). (is_some (object_at (present conf) conf.index n) ≡ true) ⊎ (conf.dead n ≡ true)) (sym same.1) there)
          | inr differs ↦ inl (put_other conf.count object (conf.count object + 1) i differs.0)
        ]

    dying_there : (other : Current) (seen : Seen) → conf.dead object ≡ true
        → option_map (at_stage DeadPin) (conf.cpu at).current ≡ Some other
        → last_or None other.seen ≡ Some seen → conf.dead (seen_index seen) ≡ true
    dying_there other seen dead is last =
        let equal : may.granted.seen ≡ seen = same_last (conf.cpu at).current may.call other DeadPin may.granted.seen seen may.is_looked.is_current last_is is last in
        subst (λ (n : ℕ). conf.dead n ≡ true) (sym may.granted.index_is ∙ ap seen_index equal) dead

    dead_moves : conf.dead object ≡ true
        → Moves conf at (with_call (at_stage DeadPin) (conf.cpu at)) (put conf.count object (conf.count object + 1))
    dead_moves dead = record {
      is_cpu = may.is_cpu;
      moved = dead_moved;
      homed = λ i. homed_by i (inr dead);
      holding = record {
        pinned = (sound.holds at).pinned;
        granted = λ other seen now last. subst (λ (one : Seen). IsGranted conf one) (same_last (conf.cpu at).current may.call other DeadPin may.granted.seen seen may.is_looked.is_current last_is now.is_current last) grant;
        dying = λ other seen there last. dying_there other seen dead there.is_current last;
      };
    }

    -- on another word
    live_cpu : Cpu
    live_cpu = record (with_call (at_stage Reading) (conf.cpu at)) {
      pins = (conf.cpu at).pins ++ pin_of_call (conf.cpu at).current;
    }

    live_new : dead_pin (option_map (at_stage Reading) (conf.cpu at).current) ≡ []
    live_new = rw may.is_looked.is_current refl

    live_moved : (i : ℕ) → put conf.count object (conf.count object + 1) i + pins_of (conf.cpu at) i
        ≡ conf.count i + pins_of live_cpu i
    unfolding live_cpu
    live_moved i =
        let none : count_by (is_pin_at i) (dead_pin (option_map (at_stage Reading) (conf.cpu at).current)) ≡ 0 = ap (λ (pins : List Pin). count_by (is_pin_at i) pins) live_new in
        let split : count_by (is_pin_at i) ((conf.cpu at).pins ++ pin_of_call (conf.cpu at).current) ≡ count_by (is_pin_at i) (conf.cpu at).pins + count_by (is_pin_at i) (pin_of_call (conf.cpu at).current) = sum_by-append (λ (pin : Pin). cond (is_pin_at i pin) 1 0) (conf.cpu at).pins (pin_of_call (conf.cpu at).current) in
        let new : count_by (is_pin_at i) (pin_of_call (conf.cpu at).current) ≡ count_by (is_pin_at i) (pin_of may.granted.seen ∷ []) = ap (λ (pins : List Pin). count_by (is_pin_at i) pins) call_pin in
        omega (arith, none, split, new, no_old i, pin_counts conf.count object i (pin_of may.granted.seen) may.granted.index_is)

    new_pinned : conf.dead object ≡ false → IsPinned conf (pin_of may.granted.seen)
    new_pinned alive = record {
      row = grant.row;
      lives_there = grant.lives_there;
      is_that = grant.is_that;
      alive = subst (λ (n : ℕ). conf.dead n ≡ false) (sym may.granted.index_is) alive;
    }

    pinned_by : (pin : Pin) (i : ℕ) → conf.dead object ≡ false
        → (slice_get (conf.cpu at).pins i ≡ Some pin) ⊎ (pin_of may.granted.seen ≡ pin)
        → IsPinned conf pin
    pinned_by pin i alive (inl before) = (sound.holds at).pinned i pin before
    pinned_by pin i alive (inr new) = subst (λ (one : Pin). IsPinned conf one) new (new_pinned alive)

    live_pinned : conf.dead object ≡ false → (i : ℕ) (pin : Pin)
        → slice_get ((conf.cpu at).pins ++ pin_of_call (conf.cpu at).current) i ≡ Some pin
        → IsPinned conf pin
    live_pinned alive i pin is =
        pinned_by pin i alive (stands_in (conf.cpu at).pins (pin_of may.granted.seen) pin i (ap (λ (pins : List Pin). slice_get ((conf.cpu at).pins ++ pins) i) (sym call_pin) ∙ is))

    home_there : is_some (object_at (present conf) conf.index object) ≡ true
    home_there =
        subst (λ (n : ℕ). is_some (object_at (present conf) conf.index n) ≡ true) may.granted.index_is (ap is_some grant.lives_there)

    live_moves : conf.dead object ≡ false
        → Moves conf at live_cpu (put conf.count object (conf.count object + 1))
    unfolding live_cpu
    live_moves alive = record {
      is_cpu = may.is_cpu;
      moved = live_moved;
      homed = λ i. homed_by i (inl home_there);
      holding = record {
        pinned = live_pinned alive;
        granted = λ other seen now last. absurd (no_grant (option_map (at_stage Reading) (conf.cpu at).current) other (rw may.is_looked.is_current refl) now.is_current now.grants);
        dying = λ other seen dead last. absurd (staged_apart (conf.cpu at).current other Reading DeadPin dead.is_current dead.at_stage refl);
      };
    }

    pin_moves : (dead : Bool) → conf.dead object ≡ dead
        → Moves conf at (with_pin dead (conf.cpu at)) (put conf.count object (conf.count object + 1))
    unfolding live_cpu
    pin_moves true dead = dead_moves dead
    pin_moves false alive = live_moves alive

    -- a pin keeps sound references
    pub pin_keeps : HasReferences (pinned conf at object)
    pin_keeps =
        part_sound conf at (with_pin (conf.dead object) (conf.cpu at)) (put conf.count object (conf.count object + 1)) conf.counter (pin_moves (conf.dead object) refl) sound
