-- A CPU that is given a call keeps sound references: its pins and its call in progress stay.
use Rattle.std.proofs.Common.{◌≡◌, ◌==◌, ◌∙◌, ℕ, zero, suc, Bool, true, false, inl, inr, refl, sym, ap, arith, Result, Ok, Err, if◌then◌else◌}
use Rattle.std.proofs.lemmas.Bool.{eqb-true}
use Rattle.gh_base.specs.declared.call.Call.{Call}
use Rattle.gh_base.specs.declared.errno.Errno.{Errno}
use Rattle.gh_base.specs.declared.frame.Frame.{Frame}
use Rattle.gh_base.specs.declared.limits.TheConstants.{CPUS}
use Rattle.gh_model.specs.Registers.{call_of}
use Rattle.gh_events.specs.Config.{Config, Cpu}
use Rattle.gh_events.specs.References.{HasHome, HasReferences, HoldsSoundly, IsGranted, IsPinned, pins_at, pins_of, total}
use Rattle.gh_events.specs.Start.{given, with_next}

-- equal amounts have equal sums
total_same : (k : ℕ) (first second : ℕ → ℕ) → ((n : ℕ) → first n ≡ second n)
    → total k first ≡ total k second
unfolding total
total_same zero first second same = refl
total_same (suc k) first second same = omega (arith, total_same k first second same, same k)

module _ (conf : Config) (at number : ℕ) (frame : Frame) (sound : HasReferences conf) where
  same_pins : (cpu : Cpu) (call : Result Call Errno) (i : ℕ)
      → pins_of (with_next at number frame cpu call) i ≡ pins_of cpu i
  same_pins cpu (Ok call) i = refl
  same_pins cpu (Err errno) i = refl

  pins_by : (here : Bool) (n i : ℕ) → (n == at) ≡ here
      → pins_of (if here then with_next at number frame (conf.cpu at) (call_of frame) else conf.cpu n) i ≡ pins_of (conf.cpu n) i
  pins_by true n i is =
      same_pins (conf.cpu at) (call_of frame) i ∙ ap (λ (k : ℕ). pins_of (conf.cpu k) i) (sym (eqb-true n at is))
  pins_by false n i is = refl

  pins_stay : (i : ℕ) → pins_at (given conf at number frame).cpu i ≡ pins_at conf.cpu i
  pins_stay i =
      total_same CPUS (λ n. pins_of ((given conf at number frame).cpu n) i) (λ n. pins_of (conf.cpu n) i) (λ n. pins_by (n == at) n i refl)

  home_stays : (i : ℕ) → HasHome conf i → HasHome (given conf at number frame) i
  home_stays i (inl home) = inl home
  home_stays i (inr fresh) = inr (record {
    revived = fresh.revived;
    uninhabited = fresh.uninhabited;
    owed = fresh.owed;
    some = fresh.some;
  })

  holds_on : (cpu : Cpu) → HoldsSoundly conf cpu → HoldsSoundly (given conf at number frame) cpu
  holds_on cpu holding = record {
    pinned = λ i pin is. let before : IsPinned conf pin = holding.pinned i pin is in record { row = before.row; lives_there = before.lives_there; is_that = before.is_that; alive = before.alive };
    granted = λ call seen now last. let before : IsGranted conf seen = holding.granted call seen now last in record { row = before.row; lives_there = before.lives_there; is_that = before.is_that };
    dying = holding.dying;
  }

  holds_given : (cpu : Cpu) (call : Result Call Errno) → HoldsSoundly conf cpu
      → HoldsSoundly (given conf at number frame) (with_next at number frame cpu call)
  holds_given cpu (Ok call) holding =
      let before : HoldsSoundly (given conf at number frame) cpu = holds_on cpu holding in
      record { pinned = before.pinned; granted = λ call seen now last. before.granted call seen (record { is_current = now.is_current; grants = now.grants }) last; dying = λ call seen now last. before.dying call seen (record { is_current = now.is_current; at_stage = now.at_stage }) last }
  holds_given cpu (Err errno) holding =
      let before : HoldsSoundly (given conf at number frame) cpu = holds_on cpu holding in
      record { pinned = before.pinned; granted = λ call seen now last. before.granted call seen (record { is_current = now.is_current; grants = now.grants }) last; dying = λ call seen now last. before.dying call seen (record { is_current = now.is_current; at_stage = now.at_stage }) last }

  holds_by : (here : Bool) (n : ℕ)
      → HoldsSoundly (given conf at number frame) (if here then with_next at number frame (conf.cpu at) (call_of frame) else conf.cpu n)
  holds_by true n = holds_given (conf.cpu at) (call_of frame) (sound.holds at)
  holds_by false n = holds_on (conf.cpu n) (sound.holds n)

  -- a CPU that is given a call keeps sound references
  pub given_keeps : HasReferences (given conf at number frame)
  given_keeps = record {
    counted = record {
      counts = λ row is alive. omega (arith, sound.counted.counts row is alive, pins_stay (conf.index row.serial.0));
      homes = λ i within alive. home_stays i (sound.counted.homes i within alive);
      dead_counts = λ i within dead. omega (arith, sound.counted.dead_counts i within dead, pins_stay i);
    };
    placed = record {
      unique = sound.placed.unique;
      doomed = sound.placed.doomed;
      unowed = sound.placed.unowed;
      retired = sound.placed.retired;
      fresh = sound.placed.fresh;
    };
    holds = λ n. holds_by (n == at) n;
    seats = λ n i beyond. pins_by (n == at) n i refl ∙ sound.seats n i beyond;
  }
