-- Events of calls that keep grace.
use Rattle.std.proofs.Common.{◌≡◌, ◌+◌, ◌-◌, ◌<◌, ◌∙◌, ℕ, Bool, true, false, List, [], ◌∷◌, ◌++◌, inl, refl, subst, sym, ap, arith, Option, Some, None, is_some, if◌then◌else◌}
use Rattle.std.specs.Prelude.{nat_lt, option_map}
use Rattle.std.specs.List.{last_or, list_any}
use Rattle.std.proofs.lemmas.Bool.Decides.{nat_tests}
use Rattle.gh_base.specs.declared.limits.TheConstants.{CPUS}
use Rattle.gh_model.specs.Act.{granted}
use Rattle.gh_model.specs.Graced.{finds, granting}
use Rattle.gh_model.specs.Marks.{Made, Outcome, Wants, Fails, Grants, Seen, place}
use Rattle.gh_events.specs.CallEvents.{MayEnter, MayLeave, MayPin, MayUndo, MayUnpin, after_leave, at_stage, begun, end_of_looks, entered, finished, has_grants, left, leaves_from, pinned, reply_of_looks, undone, unpinned, with_call, with_left, with_pin, without_pin}
use Rattle.gh_events.specs.Config.{AtAct, Config, Cpu, Current, DeadPin, Failed, Looked, Reading, Stage, Undone, came_to, put}
use Rattle.gh_events.specs.Grace.{CpuGrace, HasGrace, entered_now, holds_grant, is_open_at, objects_of, open_now, scan_of, sections}
use Rattle.gh_events.specs.References.{grants_at}
use Rattle.gh_events.proofs.Finding.{put_here, put_other}
use Rattle.gh_events.proofs.GraceCalls.{Begins, Ends, GoesToAct, begins, ends, goes_to_act, granting_open, open_left, open_one, same_calls, stays_open}
use Rattle.gh_events.proofs.GraceFrames.{PartGraced, part_graced}

-- a part with a counter that was put
put_part : (conf : Config) (at value : ℕ) (cpu : Cpu) → at < CPUS
    → CpuGrace (objects_of conf) conf.history at cpu value (scan_of conf.turn at)
    → PartGraced conf at cpu (put conf.counter at value)
put_part conf at value cpu within own = record {
  is_cpu = within;
  others = λ n apart. put_other conf.counter at value n apart;
  own = subst (λ (n : ℕ). CpuGrace (objects_of conf) conf.history at cpu n (scan_of conf.turn at)) (sym (put_here conf.counter at value)) own;
}

-- a part whose counter stays
pub same_part : (conf : Config) (at : ℕ) (cpu : Cpu) → at < CPUS
    → CpuGrace (objects_of conf) conf.history at cpu (conf.counter at) (scan_of conf.turn at)
    → PartGraced conf at cpu conf.counter
same_part conf at cpu within own = record { is_cpu = within; others = λ n apart. refl; own = own }

-- Enter

no_looks : (came : Outcome) (serial : ℕ) → list_any (finds serial) (granting (end_of_looks came) []) ≡ false
no_looks (Wants slot need) serial = refl
no_looks (Fails errno) serial = refl
no_looks Grants serial = refl

module _ (conf : Config) (at : ℕ) (graced : HasGrace conf) where
  entering : Cpu
  entering = record (conf.cpu at) {
    next = None;
    current = option_map (begun (conf.counter at + 1) Reading) (conf.cpu at).next;
  }

  enter_begins : (may : MayEnter conf at)
      → Begins (objects_of conf) conf.history at (conf.cpu at) entering (conf.counter at) (scan_of conf.turn at) (graced.each at may.is_cpu) (conf.counter at + 1)
  unfolding entering
  enter_begins may =
      let now : option_map (begun (conf.counter at + 1) Reading) (conf.cpu at).next ≡ Some (begun (conf.counter at + 1) Reading may.given) = ap (option_map (begun (conf.counter at + 1) Reading)) may.next in
      let some : nat_lt 0 (conf.counter at + 1) ≡ true = grind (arith, nat_tests) in
      let opens : open_now (option_map (begun (conf.counter at + 1) Reading) (conf.cpu at).next) ≡ 1 = ap open_now now in
      let enters : entered_now (option_map (begun (conf.counter at + 1) Reading) (conf.cpu at).next) ≡ 1 = ap entered_now now ∙ ap (λ (one : Bool). if◌then◌else◌ {A = ℕ} one 1 0) some in
      record {
        call = begun (conf.counter at + 1) Reading may.given;
        none = may.between.none;
        now = now;
        made = refl;
        no_grant = refl;
        no_looks = λ serial. no_looks (came_to (begun (conf.counter at + 1) Reading may.given)) serial;
        rises = omega arith;
        counts = omega (arith, opens, enters);
        opened = λ is. refl;
        left = λ closed. absurd (let never : ⊥ = cc in never);
      }

  -- a call that begins keeps grace
  pub enter_graced : MayEnter conf at → HasGrace (entered conf at)
  unfolding entering
  enter_graced may =
      part_graced conf at entering conf.count (put conf.counter at (conf.counter at + 1)) (put_part conf at (conf.counter at + 1) entering may.is_cpu (begins (objects_of conf) conf.history at (conf.cpu at) entering (conf.counter at) (scan_of conf.turn at) (graced.each at may.is_cpu) (conf.counter at + 1) (enter_begins may))) graced

-- Pin and Undo

module _ (conf : Config) (at : ℕ) (cpu next : Cpu) (graced : HasGrace conf) where
  -- a call at another stage of its open section
  pub record Restages : Type 0 where
    pub call : Current
    pub stage : Stage
    pub is : cpu.current ≡ Some call
    pub now : next.current ≡ Some (at_stage stage call)
    pub was_open : is_open_at call.stage ≡ true
    pub still : is_open_at stage ≡ true
    pub made : next.made ≡ cpu.made
    pub grants : grants_at stage ≡ true → grants_at call.stage ≡ true

  restage_grants : (on : Restages) (serial : ℕ) → holds_grant serial (at_stage on.stage on.call) ≡ true
      → holds_grant serial on.call ≡ true
  restage_grants on serial held =
      ap (list_any (finds serial)) (granting_open on.call.stage (came_to on.call) on.call.seen on.was_open) ∙ (sym (ap (list_any (finds serial)) (granting_open on.stage (came_to on.call) on.call.seen on.still)) ∙ held)

  restage_last : (grace : CpuGrace (objects_of conf) conf.history at cpu (conf.counter at) (scan_of conf.turn at))
      → (on : Restages) (seen : Seen) → grants_at on.stage ≡ true → last_or None on.call.seen ≡ Some seen
      → holds_grant (granted seen.word).0 (at_stage on.stage on.call) ≡ true
  restage_last grace on seen grants last =
      ap (list_any (finds (granted seen.word).0)) (granting_open on.stage (came_to on.call) on.call.seen on.still) ∙ (sym (ap (list_any (finds (granted seen.word).0)) (granting_open on.call.stage (came_to on.call) on.call.seen on.was_open)) ∙ grace.grants on.call seen on.is (on.grants grants) last)

  pub restages : (grace : CpuGrace (objects_of conf) conf.history at cpu (conf.counter at) (scan_of conf.turn at))
      → Restages → CpuGrace (objects_of conf) conf.history at next (conf.counter at) (scan_of conf.turn at)
  restages grace on =
      stays_open (objects_of conf) conf.history at cpu next (conf.counter at) (scan_of conf.turn at) grace record {
        call = on.call;
        other = at_stage on.stage on.call;
        is = on.is;
        now = on.now;
        was_open = on.was_open;
        still = on.still;
        section = refl;
        made = on.made;
        grants = λ serial held. inl (restage_grants on serial held);
        last = λ seen grants last. restage_last grace on seen grants last;
      }

module _ (conf : Config) (at object : ℕ) (graced : HasGrace conf) where
  pin_by : (may : MayPin conf at object) (dead : Bool)
      → CpuGrace (objects_of conf) conf.history at (with_pin dead (conf.cpu at)) (conf.counter at) (scan_of conf.turn at)
  pin_by may true =
      restages conf at (conf.cpu at) (with_pin true (conf.cpu at)) graced (graced.each at may.is_cpu) record {
        call = may.call;
        stage = DeadPin;
        is = may.is_looked.is_current;
        now = ap (option_map (at_stage DeadPin)) may.is_looked.is_current;
        was_open = ap is_open_at may.is_looked.at_stage;
        still = refl;
        made = refl;
        grants = λ is. ap grants_at may.is_looked.at_stage;
      }
  pin_by may false =
      restages conf at (conf.cpu at) (with_pin false (conf.cpu at)) graced (graced.each at may.is_cpu) record {
        call = may.call;
        stage = Reading;
        is = may.is_looked.is_current;
        now = ap (option_map (at_stage Reading)) may.is_looked.is_current;
        was_open = ap is_open_at may.is_looked.at_stage;
        still = refl;
        made = refl;
        grants = λ is. ap grants_at may.is_looked.at_stage;
      }

  -- a pin keeps grace
  pub pin_graced : MayPin conf at object → HasGrace (pinned conf at object)
  pin_graced may =
      part_graced conf at (with_pin (conf.dead object) (conf.cpu at)) (put conf.count object (conf.count object + 1)) conf.counter (same_part conf at (with_pin (conf.dead object) (conf.cpu at)) may.is_cpu (pin_by may (conf.dead object))) graced

  undo_restages : (may : MayUndo conf at object)
      → Restages conf at (conf.cpu at) (with_call (at_stage Undone) (conf.cpu at)) graced
  undo_restages may = record {
    call = may.call;
    stage = Undone;
    is = may.dead.is_current;
    now = ap (option_map (at_stage Undone)) may.dead.is_current;
    was_open = ap is_open_at may.dead.at_stage;
    still = refl;
    made = refl;
    grants = λ is. ap grants_at may.dead.at_stage;
  }

  -- so does an undone pin
  pub undo_graced : MayUndo conf at object → HasGrace (undone conf at object)
  undo_graced may =
      part_graced conf at (with_call (at_stage Undone) (conf.cpu at)) (put conf.count object (conf.count object - 1)) conf.counter (same_part conf at (with_call (at_stage Undone) (conf.cpu at)) may.is_cpu (restages conf at (conf.cpu at) (with_call (at_stage Undone) (conf.cpu at)) graced (graced.each at may.is_cpu) (undo_restages may))) graced

  unpinning : Cpu
  unpinning = record (conf.cpu at) { pins = without_pin object (conf.cpu at).pins }

  -- and one that is dropped
  pub unpin_graced : MayUnpin conf at object → HasGrace (unpinned conf at object)
  unfolding unpinning
  unpin_graced may =
      part_graced conf at unpinning (put conf.count object (conf.count object - 1)) conf.counter (same_part conf at unpinning may.is_cpu (same_calls (objects_of conf) conf.history at (conf.cpu at) unpinning (conf.counter at) (scan_of conf.turn at) (graced.each at may.is_cpu) refl refl)) graced

-- Leave

seen_granted : (came : Outcome) (seen : List Seen) → has_grants came ≡ true
    → granting (end_of_looks came) seen ≡ seen
seen_granted (Wants slot need) seen is = absurd (let never : ⊥ = cc in never)
seen_granted (Fails errno) seen is = absurd (let never : ⊥ = cc in never)
seen_granted Grants seen is = refl

unplaced : (came : Outcome) → is_some (place (end_of_looks came)) ≡ true → ⊥
unplaced (Wants slot need) is = cc
unplaced (Fails errno) is = cc
unplaced Grants is = cc

module _ (conf : Config) (at : ℕ) (graced : HasGrace conf) (within : at < CPUS) (call : Current)
    (is : (conf.cpu at).current ≡ Some call) where
  own : CpuGrace (objects_of conf) conf.history at (conf.cpu at) (conf.counter at) (scan_of conf.turn at)
  own = graced.each at within

  leaves_act : call.stage ≡ Reading → has_grants (came_to call) ≡ true
      → GoesToAct (objects_of conf) conf.history at (conf.cpu at) (with_left at (conf.cpu at) call Reading) (conf.counter at) (scan_of conf.turn at) own
  unfolding own
  leaves_act stage done = record {
    call = call;
    other = at_stage AtAct call;
    is = is;
    now = refl;
    made = refl;
    was_open = ap is_open_at stage;
    closed = refl;
    section = refl;
    grants = λ serial held. ap (list_any (finds serial)) (granting_open call.stage (came_to call) call.seen (ap is_open_at stage) ∙ seen_granted (came_to call) call.seen done) ∙ held;
  }

  looks_made : Made
  looks_made = finished at call (end_of_looks (came_to call)) (reply_of_looks (came_to call))

  leaves_end : (next : Cpu) → is_open_at call.stage ≡ true → next.current ≡ None
      → next.made ≡ (conf.cpu at).made ++ looks_made ∷ []
      → Ends (objects_of conf) conf.history at (conf.cpu at) next (conf.counter at) (scan_of conf.turn at) own (conf.counter at + 1)
  unfolding own looks_made
  leaves_end next opened none made =
      let one : open_now (conf.cpu at).current ≡ 1 = open_one (conf.cpu at).current call is opened in
      let grace : CpuGrace (objects_of conf) conf.history at (conf.cpu at) (conf.counter at) (scan_of conf.turn at) = graced.each at within in
      record {
        call = call;
        new = looks_made;
        is = is;
        none = none;
        made = made;
        section = refl;
        grants = λ serial granted. ap (list_any (finds serial)) (granting_open call.stage (came_to call) call.seen opened) ∙ granted;
        counts = omega (arith, one);
        left = open_left (conf.counter at) (sections (conf.cpu at)) call.section (omega (arith, one, grace.counted)) (grace.opened call is opened);
        unscanned = λ placed. absurd (unplaced (came_to call) placed);
      }

  leave_by : (stage : Stage) → call.stage ≡ stage → leaves_from stage (came_to call) ≡ true
      → CpuGrace (objects_of conf) conf.history at (with_left at (conf.cpu at) call stage) (conf.counter at + 1) (scan_of conf.turn at)
  unfolding own looks_made
  leave_by Reading stage done = goes_to_act (objects_of conf) conf.history at (conf.cpu at) (with_left at (conf.cpu at) call Reading) (conf.counter at) (scan_of conf.turn at) own (leaves_act stage done)
  leave_by Looked stage done = absurd (let never : ⊥ = cc in never)
  leave_by DeadPin stage done = absurd (let never : ⊥ = cc in never)
  leave_by Undone stage done = ends (objects_of conf) conf.history at (conf.cpu at) (with_left at (conf.cpu at) call Undone) (conf.counter at) (scan_of conf.turn at) own (conf.counter at + 1) (leaves_end (with_left at (conf.cpu at) call Undone) (ap is_open_at stage) refl refl)
  leave_by Failed stage done = ends (objects_of conf) conf.history at (conf.cpu at) (with_left at (conf.cpu at) call Failed) (conf.counter at) (scan_of conf.turn at) own (conf.counter at + 1) (leaves_end (with_left at (conf.cpu at) call Failed) (ap is_open_at stage) refl refl)
  leave_by AtAct stage done = absurd (let never : ⊥ = cc in never)

-- a call that leaves its section keeps grace
pub leave_graced : (conf : Config) (at : ℕ) → HasGrace conf → MayLeave conf at → HasGrace (left conf at)
leave_graced conf at graced may =
    let own : CpuGrace (objects_of conf) conf.history at (after_leave at (conf.cpu at) (conf.cpu at).current) (conf.counter at + 1) (scan_of conf.turn at) = subst (λ (one : Option Current). CpuGrace (objects_of conf) conf.history at (after_leave at (conf.cpu at) one) (conf.counter at + 1) (scan_of conf.turn at)) (sym may.is_current) (leave_by conf at graced may.is_cpu may.call may.is_current may.call.stage refl may.is_done) in
    part_graced conf at (after_leave at (conf.cpu at) (conf.cpu at).current) conf.count (put conf.counter at (conf.counter at + 1)) (put_part conf at (conf.counter at + 1) (after_leave at (conf.cpu at) (conf.cpu at).current) may.is_cpu own) graced
