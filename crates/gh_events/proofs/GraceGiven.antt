-- A CPU that is given a call keeps grace: its frame is refused, which ends the call, or it is the next.
use Rattle.std.proofs.Common.{◌≡◌, ◌==◌, ◌<◌, ◌≤◌, ◌∙◌, ℕ, Bool, true, false, List, [], ◌∷◌, ◌++◌, ◌⊎◌, inl, inr, refl, subst, sym, ap, arith, Option, Some, None, Result, Ok, Err, is_some, slice_get, if◌then◌else◌}
use Rattle.std.specs.Prelude.{count_by}
use Rattle.std.proofs.lemmas.Bool.{eqb-true}
use Rattle.gh_base.specs.declared.call.Call.{Call}
use Rattle.gh_base.specs.declared.errno.Errno.{Errno}
use Rattle.gh_base.specs.declared.frame.Frame.{Frame}
use Rattle.gh_base.specs.declared.limits.TheConstants.{CPUS}
use Rattle.gh_model.specs.Graced.{was_granted}
use Rattle.gh_model.specs.History.{Event}
use Rattle.gh_model.specs.Marks.{Made, place}
use Rattle.gh_model.specs.Registers.{call_of}
use Rattle.gh_events.specs.Config.{Config, Cpu}
use Rattle.gh_events.specs.Grace.{CpuGrace, HasGrace, IsLeft, Objects, Reads, has_section, objects_of, scan_of}
use Rattle.gh_events.specs.Start.{given, refused_frame, with_next}
use Rattle.gh_events.proofs.GraceCalls.{count_more, same_calls}
use Rattle.gh_events.proofs.PinKeeps.{stands_in}

module _ (objects : Objects) (history : List Event) (at : ℕ) (cpu : Cpu) (counter : ℕ)
    (scan : Option ℕ) (grace : CpuGrace objects history at cpu counter scan) (new : Made)
    (section : new.mark.section ≡ 0) (unplaced : is_some (place new.mark.end) ≡ false)
    (ungranted : (serial : ℕ) → was_granted serial new ≡ false) where
  left_by : (i : ℕ) (made : Made) → (slice_get cpu.made i ≡ Some made) ⊎ (new ≡ made)
      → IsLeft counter made.mark.section
  left_by i made (inl before) = grace.ended i made before
  left_by i made (inr same) = inl (sym (ap (λ (one : Made). one.mark.section) same) ∙ section)

  acts_by : (n i : ℕ) (made : Made) → scan ≡ Some n → (slice_get cpu.made i ≡ Some made) ⊎ (new ≡ made)
      → is_some (place made.mark.end) ≡ true → has_section made ≡ true → made.mark.section < n
  acts_by n i made scan_is (inl before) placed some = grace.acts n i made scan_is before placed some
  acts_by n i made scan_is (inr same) placed some =
      let also : is_some (place new.mark.end) ≡ true = ap (λ (one : Made). is_some (place one.mark.end)) same ∙ placed in
      absurd (let never : ⊥ = cc in never)

  reads_by : (i serial : ℕ) (made : Made) → (slice_get cpu.made i ≡ Some made) ⊎ (new ≡ made)
      → was_granted serial made ≡ true → Reads objects at scan made.mark.section serial
  reads_by i serial made (inl before) granted = grace.made_reads i serial made before granted
  reads_by i serial made (inr same) granted =
      let none : was_granted serial new ≡ false = ungranted serial in
      let some : was_granted serial new ≡ true = ap (was_granted serial) same ∙ granted in
      absurd (let never : ⊥ = cc in never)

  no_section : count_by has_section (new ∷ []) ≡ 0
  no_section = rw section refl

  -- a finished call without a section and without grants
  pub adds_call : CpuGrace objects history at (record cpu { made = cpu.made ++ new ∷ [] }) counter scan
  adds_call = record {
    counted = omega (arith, count_more cpu.made new, no_section, grace.counted);
    opened = grace.opened;
    left = grace.left;
    ended = λ i made is. left_by i made (stands_in cpu.made new made i is);
    scanned = grace.scanned;
    acts = λ n i made scan_is is. acts_by n i made scan_is (stands_in cpu.made new made i is);
    kept_below = grace.kept_below;
    kept_scanned = grace.kept_scanned;
    reads = grace.reads;
    grants = grace.grants;
    made_reads = λ i serial made is. reads_by i serial made (stands_in cpu.made new made i is);
  }

module _ (conf : Config) (at number : ℕ) (frame : Frame) (graced : HasGrace conf) where
  given_cpu : (n : ℕ) (call : Result Call Errno) → n < CPUS
      → CpuGrace (objects_of conf) conf.history n (with_next at number frame (conf.cpu n) call) (conf.counter n) (scan_of conf.turn n)
  given_cpu n (Ok call) within =
      same_calls (objects_of conf) conf.history n (conf.cpu n) (with_next at number frame (conf.cpu n) (Ok call)) (conf.counter n) (scan_of conf.turn n) (graced.each n within) refl refl
  given_cpu n (Err errno) within =
      adds_call (objects_of conf) conf.history n (conf.cpu n) (conf.counter n) (scan_of conf.turn n) (graced.each n within) (refused_frame at number frame errno) refl refl (λ serial. refl)

  same_call : (cpu : Cpu) (call : Result Call Errno)
      → (with_next at number frame cpu call).current ≡ cpu.current
  same_call cpu (Ok call) = refl
  same_call cpu (Err errno) = refl

  each_given : (here : Bool) (n : ℕ) → (n == at) ≡ here → n < CPUS
      → CpuGrace (objects_of conf) conf.history n (if here then with_next at number frame (conf.cpu at) (call_of frame) else conf.cpu n) (conf.counter n) (scan_of conf.turn n)
  each_given true n is within =
      subst (λ (k : ℕ). CpuGrace (objects_of conf) conf.history n (with_next at number frame (conf.cpu k) (call_of frame)) (conf.counter n) (scan_of conf.turn n)) (eqb-true n at is) (given_cpu n (call_of frame) within)
  each_given false n is within = graced.each n within

  seat_given : (here : Bool) (n : ℕ) → (n == at) ≡ here → CPUS ≤ n
      → (if◌then◌else◌ {A = Cpu} here (with_next at number frame (conf.cpu at) (call_of frame)) (conf.cpu n)).current ≡ None
  seat_given true n is beyond =
      same_call (conf.cpu at) (call_of frame) ∙ (ap (λ (k : ℕ). (conf.cpu k).current) (sym (eqb-true n at is)) ∙ graced.seats n beyond)
  seat_given false n is beyond = graced.seats n beyond

  -- a CPU that is given a call keeps grace
  pub given_graced : HasGrace (given conf at number frame)
  given_graced = record {
    each = λ n within. each_given (n == at) n refl within;
    kept = graced.kept;
    one_killed = graced.one_killed;
    held = graced.held;
    revived = graced.revived;
    seats = λ n beyond. seat_given (n == at) n refl beyond;
  }
