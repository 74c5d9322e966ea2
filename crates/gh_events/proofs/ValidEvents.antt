-- Events that leave the history keep the present state valid and what the CPUs hold fitting.
use Rattle.std.proofs.Common.{◌≡◌, ◌==◌, ◌+◌, ◌∙◌, inl, ℕ, IsTrue, List, Bool, true, false, refl, subst, sym, ap, arith, Option, Some, None, is_some, if◌then◌else◌}
use Rattle.std.specs.Prelude.{◌&&◌, option_map}
use Rattle.std.proofs.lemmas.Bool.{eqb-true}
use Rattle.std.proofs.lemmas.Bool.Decides.{nat_tests}
use Rattle.gh_base.specs.declared.frame.Frame.{Frame}
use Rattle.gh_invariant.proofs.BootValid.{boot_running, boot_valid}
use Rattle.gh_model.specs.Boot.{boot_fits, boot_state}
use Rattle.gh_model.specs.declared.boot_line.BootLine.{BootLine}
use Rattle.gh_model.specs.Marks.{cspace_of}
use Rattle.gh_model.specs.Registers.{call_of}
use Rattle.gh_model.specs.declared.rows.ObjectRow.{ObjectRow}
use Rattle.gh_events.specs.CallEvents.{MayEnter, MayLeave, MayLook, MayPin, MayUndo, entered, found, left, looked, pinned, undone, unpinned}
use Rattle.gh_events.specs.Config.{Config, Cpu, Current, Holder, Undone, has_acted, object_at, present, put}
use Rattle.gh_events.specs.HolderEvents.{kill_failed, with_failed, with_turn, without_scans}
use Rattle.gh_events.specs.Start.{MayGive, given, start}
use Rattle.gh_events.specs.TurnEvents.{Ending, MayEnd, MayQuit, MayTake, end_call, ended, ending, new_holder, quit, taken, with_ending}
use Rattle.gh_events.specs.ValidState.{CpuFits, HasValid, acts}
use Rattle.gh_events.proofs.ValidCalls.{ends_call, enter_fits, given_fits, leave_fits, look_fits, pin_fits, repinned, staged_fits, take_fits, word_is_found}

-- before any event
pub start_valid : (lines : List BootLine) (index : ℕ → ℕ) → IsTrue (boot_fits lines)
    → HasValid (start (boot_state lines) index)
start_valid lines index fit = record {
  boot_valid = boot_valid lines fit;
  events_fit = tt;
  valid = boot_valid lines fit;
  cpus = λ at. record {
    next = λ one there. absurd (let never : ⊥ = cc in never);
    current = λ one there. absurd (let never : ⊥ = cc in never);
    alone = λ some. refl;
    called = λ some. absurd (let never : ⊥ = cc in never);
    runs = λ may. inl (boot_running lines at fit may.is_there);
  };
}

module _ (conf : Config) (fit : HasValid conf) where
  -- one CPU's part and the turn changed
  abbrev Fits : Option Holder → ℕ → Cpu → Type 0
  Fits turn n cpu = CpuFits conf.boot (present conf) (acts turn n) n cpu

  put_by : (at : ℕ) (new : Cpu) (turn : Option Holder) (n : ℕ) (here : Bool) → (n == at) ≡ here
      → ((n == at) ≡ false → acts turn n ≡ acts conf.turn n) → Fits turn at new
      → Fits turn n (if here then new else conf.cpu n)
  put_by at new turn n true is same new_fits =
      subst (λ (i : ℕ). Fits turn i new) (sym (eqb-true n at is)) new_fits
  put_by at new turn n false is same new_fits =
      subst (λ (acted : Bool). CpuFits conf.boot (present conf) acted n (conf.cpu n)) (sym (same is)) (fit.cpus n)

  pub cpu_valid : (at : ℕ) (new : Cpu) (turn : Option Holder) (count counter : ℕ → ℕ)
      → ((n : ℕ) → (n == at) ≡ false → acts turn n ≡ acts conf.turn n) → Fits turn at new
      → HasValid (record conf { count = count; counter = counter; turn = turn; cpu = put conf.cpu at new })
  cpu_valid at new turn count counter same new_fits = record {
    boot_valid = fit.boot_valid;
    events_fit = fit.events_fit;
    valid = fit.valid;
    cpus = λ n. put_by at new turn n (n == at) refl (same n) new_fits;
  }

  -- the turn alone changed
  pub turn_valid : (turn : Option Holder) (count : ℕ → ℕ) (dead : ℕ → Bool)
      → ((n : ℕ) → acts turn n ≡ acts conf.turn n)
      → HasValid (record conf { count = count; dead = dead; turn = turn })
  turn_valid turn count dead same = record {
    boot_valid = fit.boot_valid;
    events_fit = fit.events_fit;
    valid = fit.valid;
    cpus = λ n. subst (λ (acted : Bool). CpuFits conf.boot (present conf) acted n (conf.cpu n)) (sym (same n)) (fit.cpus n);
  }

  same_acts : (change : Holder → Holder) (turn : Option Holder) (n : ℕ)
      → ((holder : Holder) → acts (Some (change holder)) n ≡ acts (Some holder) n)
      → acts (option_map change turn) n ≡ acts turn n
  same_acts change None n same = refl
  same_acts change (Some holder) n same = same holder

  -- the holder changed, but for its CPU and its entries
  pub holder_valid : (change : Holder → Holder) (count : ℕ → ℕ) (dead : ℕ → Bool)
      → ((holder : Holder) (n : ℕ) → acts (Some (change holder)) n ≡ acts (Some holder) n)
      → HasValid (record conf { count = count; dead = dead; turn = option_map change conf.turn })
  holder_valid change count dead same =
      turn_valid (option_map change conf.turn) count dead (λ n. same_acts change conf.turn n (λ holder. same holder n))

  pub enter_valid : (at : ℕ) → MayEnter conf at → HasValid (entered conf at)
  enter_valid at may =
      cpu_valid at _ conf.turn conf.count _ (λ n other. refl)
      (enter_fits conf.boot (present conf) at (acts conf.turn at) (conf.cpu at) may.given (conf.counter at + 1) (fit.cpus at) may.between.none may.next)

  pub leave_valid : (at : ℕ) → MayLeave conf at → HasValid (left conf at)
  leave_valid at may =
      cpu_valid at _ conf.turn conf.count _ (λ n other. refl)
      (leave_fits conf.boot (present conf) at (acts conf.turn at) (conf.cpu at) may.call (fit.cpus at) may.is_current may.is_done)

  pub look_valid : (at slot : ℕ) → MayLook conf at slot → HasValid (looked conf at slot)
  look_valid at slot may =
      cpu_valid at _ conf.turn conf.count conf.counter (λ n other. refl)
      (look_fits conf.boot (present conf) at (acts conf.turn at) (conf.cpu at) may.call (λ call. found conf at slot call) (fit.cpus at) may.reading.is_current
      (word_is_found conf.boot (present conf) at fit.valid (cspace_of conf.boot at) slot))

  pub pin_valid : (at object : ℕ) → MayPin conf at object → HasValid (pinned conf at object)
  pin_valid at object may =
      cpu_valid at _ conf.turn _ conf.counter (λ n other. refl)
      (pin_fits conf.boot (present conf) at (acts conf.turn at) (conf.dead object) (conf.cpu at) may.call (fit.cpus at) may.is_looked.is_current)

  pub undo_valid : (at object : ℕ) → MayUndo conf at object → HasValid (undone conf at object)
  undo_valid at object may =
      cpu_valid at _ conf.turn _ conf.counter (λ n other. refl)
      (staged_fits conf.boot (present conf) at (acts conf.turn at) (conf.cpu at) may.call Undone (λ at_act. let never : ⊥ = cc in never) (fit.cpus at) may.dead.is_current)

  pub unpin_valid : (at object : ℕ) → HasValid (unpinned conf at object)
  unpin_valid at object =
      cpu_valid at _ conf.turn _ conf.counter (λ n other. refl)
      (repinned conf.boot (present conf) at (acts conf.turn at) (conf.cpu at) _ (fit.cpus at))

  and_false : (a b : Bool) → b ≡ false → (a && b) ≡ false
  and_false true b is = is
  and_false false b is = refl

  and_other : (a b : Bool) → a ≡ false → (a && b) ≡ false
  and_other true b is = absurd (let never : ⊥ = cc in never)
  and_other false b is = refl

  pub take_valid : (at : ℕ) → MayTake conf at → HasValid (taken conf at)
  take_valid at may =
      cpu_valid at _ (Some (new_holder at)) conf.count conf.counter (λ n other. now n ∙ sym (before n))
      (take_fits conf.boot (present conf) at (acts (Some (new_holder at)) at) (conf.cpu at).next (conf.cpu at).current (conf.cpu at).pins (conf.cpu at).made may.call
      (subst (λ (acted : Bool). CpuFits conf.boot (present conf) acted at (conf.cpu at)) (before at ∙ sym (now at)) (fit.cpus at)) may.is_ready may.granted)
    where
      before : (n : ℕ) → acts conf.turn n ≡ false
      before n = ap (λ (turn : Option Holder). acts turn n) may.free

      now : (n : ℕ) → acts (Some (new_holder at)) n ≡ false
      now n = and_false (at == n) false refl

  pub quit_valid : (at : ℕ) → MayQuit conf at → HasValid (quit conf)
  quit_valid at may =
      turn_valid None conf.count conf.dead (λ n. sym (ap (λ (turn : Option Holder). acts turn n) may.has_turn.turn ∙ and_false (may.holder.cpu == n) (has_acted may.holder) may.not_acted))

  ending_by : (acted : Bool) (at : ℕ) (call : Current) (ending : Option Ending)
      → is_some ending ≡ true → (conf.cpu at).current ≡ Some call
      → CpuFits conf.boot (present conf) false at (with_ending at (conf.cpu at) call ending)
  ending_by acted at call None some is = absurd (let never : ⊥ = cc in never)
  ending_by acted at call (Some one) some is =
      ends_call conf.boot (present conf) at (acts conf.turn at) false (conf.cpu at) call one.end one.reply (fit.cpus at) is

  pub end_valid : (at : ℕ) → MayEnd conf at → HasValid (ended conf at)
  end_valid at may =
      cpu_valid at _ None conf.count conf.counter (λ n other. sym (others n other))
      (subst (λ (turn : Option Holder). CpuFits conf.boot (present conf) false at (end_call conf at turn (conf.cpu at).current)) (sym may.has_turn.turn)
      (subst (λ (current : Option Current). CpuFits conf.boot (present conf) false at (end_call conf at (Some may.holder) current)) (sym may.in_act.is_current)
      (ending_by false at may.call (ending conf at may.holder may.call) may.has_ended may.in_act.is_current)))
    where
      apart : (a b n : ℕ) → a ≡ b → (n == b) ≡ false → (a == n) ≡ false
      apart a b n same other = grind (arith, nat_tests)

      others : (n : ℕ) → (n == at) ≡ false → acts conf.turn n ≡ false
      others n other =
          ap (λ (turn : Option Holder). acts turn n) may.has_turn.turn ∙ and_other (may.holder.cpu == n) (has_acted may.holder) (apart may.holder.cpu at n may.has_turn.its_cpu other)

  failed_valid : (object : ℕ) (row : Option ObjectRow) → HasValid (kill_failed conf object row)
  failed_valid object None = fit
  failed_valid object (Some row) =
      holder_valid (with_failed row.serial.0 (conf.count object)) conf.count conf.dead (λ holder n. refl)

  pub kill_valid : (object : ℕ) (none : Bool)
      → HasValid (if none then record (with_turn without_scans conf) { dead = put conf.dead object true }
      else kill_failed conf object (object_at (present conf) conf.index object))
  kill_valid object true =
      holder_valid without_scans conf.count (put conf.dead object true) (λ holder n. refl)
  kill_valid object false = failed_valid object (object_at (present conf) conf.index object)

  -- a CPU that is given its next call
  pub given_valid : (at number : ℕ) (frame : Frame) → MayGive conf at number
      → HasValid (given conf at number frame)
  given_valid at number frame may =
      cpu_valid at _ conf.turn conf.count conf.counter (λ n other. refl)
      (given_fits conf.boot (present conf) at (acts conf.turn at) (conf.cpu at) number frame (call_of frame) refl (fit.cpus at) may.between.none may.none
      (record { is_there = may.is_cpu; no_exit = may.runs }))
