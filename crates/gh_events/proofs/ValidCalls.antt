-- What a CPU holds fits the present state, behind each event of its calls.
use Rattle.std.proofs.Common.{◌≡◌, ◌∙◌, ◌⊎◌, inl, inr, ℕ, Bool, true, false, not, List, [], ◌∷◌, ◌++◌, refl, subst, sym, ap, Option, Some, None, find, is_some, if◌then◌else◌}
use Rattle.std.specs.Prelude.{◌||◌, Result, Ok, Err, map, option_map, slice_get}
use Rattle.std.specs.List.{list_any}
use Rattle.std.proofs.lemmas.Bool.{ltb-true}
use Rattle.std.proofs.lemmas.List.Folds.{list_any-append}
use Rattle.gh_base.specs.declared.call.Call.{Call}
use Rattle.gh_base.specs.declared.errno.Errno.{Errno}
use Rattle.gh_base.specs.declared.frame.Frame.{Frame}
use Rattle.gh_base.specs.declared.frame.Reply.{Reply}
use Rattle.gh_base.specs.declared.mark.End.{End}
use Rattle.gh_invariant.specs.Grants.{is_running}
use Rattle.gh_invariant.specs.Lives.{lives, lives_as, slot_fits}
use Rattle.gh_invariant.specs.Valid.{IsValid}
use Rattle.gh_invariant.proofs.CapabilityMade.{valid_names, word_found}
use Rattle.gh_invariant.proofs.Counting.{found_all}
use Rattle.gh_invariant.proofs.SlotsFit.{slot_parts}
use Rattle.gh_model.specs.Legal.{exits}
use Rattle.gh_model.specs.Marks.{Fails, Grants, Made, Outcome, Seen, Wants, outcome, word_of}
use Rattle.gh_model.specs.Program.{is_exit}
use Rattle.gh_model.specs.Registers.{call_of, needs_of}
use Rattle.gh_model.proofs.RunLists.{snoc_cases}
use Rattle.gh_model.specs.Rows.{cpu_row, fills}
use Rattle.gh_model.specs.Word.{word_at}
use Rattle.gh_model.specs.declared.state.State.{State}
use Rattle.gh_events.specs.CallEvents.{after_leave, at_stage, begun, finished, has_grants, has_needs, leaves_from, stage_after_look, with_call, with_end, with_left, with_look, with_pin}
use Rattle.gh_events.specs.Config.{AtAct, Cpu, Current, DeadPin, Failed, Given, Looked, Pin, Reading, Stage, Undone, came_to}
use Rattle.gh_events.specs.Start.{with_next}
use Rattle.gh_events.specs.TurnEvents.{call_at_act, if_at_act}
use Rattle.gh_events.specs.ValidState.{CallFits, CpuFits, IsExiting, IsFound, IsOfFrame, MayRun}

some_is : {X : Type 0} (a b : X) → Some a ≡ Some b → a ≡ b
some_is a b same = cc

or_false : (a b : Bool) → b ≡ false → (a || b) ≡ a
or_false true b none = refl
or_false false b none = none

exits_front : (made : List Made) (one : Made) → list_any exits (made ++ one ∷ []) ≡ false
    → (list_any exits made ≡ false) × (exits one ≡ false)
exits_front made one none = both (list_any exits made) (exits one) (sym (list_any-append exits made (one ∷ [])) ∙ none)
  where
    both : (a b : Bool) → (a || (b || false)) ≡ false → (a ≡ false) × (b ≡ false)
    both true b is = absurd (let never : ⊥ = cc in never)
    both false true is = absurd (let never : ⊥ = cc in never)
    both false false is = (refl, refl)

module _ (boot s : State) (at : ℕ) where
  -- a CPU beside which nothing but its pins changes
  pub repinned : (acted : Bool) (cpu : Cpu) (pins : List Pin) → CpuFits boot s acted at cpu
      → CpuFits boot s acted at (record cpu { pins = pins })
  repinned acted cpu pins fits = record {
    next = fits.next;
    current = fits.current;
    alone = fits.alone;
    called = λ some. let may : MayRun boot at cpu = fits.called some in record { is_there = may.is_there; no_exit = may.no_exit };
    runs = λ may. runs_on (fits.runs (record { is_there = may.is_there; no_exit = may.no_exit }));
  }
    where
      runs_on : (is_running (cpu_row s at) ≡ true) ⊎ IsExiting acted cpu
          → (is_running (cpu_row s at) ≡ true) ⊎ IsExiting acted (record cpu { pins = pins })
      runs_on (inl running) = inl running
      runs_on (inr exiting) =
          inr (record { acted_now = exiting.acted_now; call = exiting.call; is_current = exiting.is_current; exits_now = exiting.exits_now })

  -- a CPU whose call in progress goes on: the new one has the same frame
  goes_on : (acted : Bool) (cpu : Cpu) (call new : Current) → CpuFits boot s acted at cpu
      → cpu.current ≡ Some call → new.given ≡ call.given → CallFits s new
      → CpuFits boot s acted at (record cpu { current = Some new })
  goes_on acted cpu call new fits is same call_fits = record {
    next = fits.next;
    current = λ one there. subst (λ (c : Current). CallFits s c) (some_is new one there) call_fits;
    alone = λ some. fits.alone (ap is_some is);
    called = λ some. let may : MayRun boot at cpu = fits.called was_called in record { is_there = may.is_there; no_exit = may.no_exit };
    runs = λ may. runs_on (fits.runs (record { is_there = may.is_there; no_exit = may.no_exit }));
  }
    where
      or_true : (a b : Bool) → b ≡ true → (a || b) ≡ true
      or_true true b is_so = refl
      or_true false b is_so = is_so

      was_called : (is_some cpu.next || is_some cpu.current) ≡ true
      was_called = or_true (is_some cpu.next) (is_some cpu.current) (ap is_some is)

      runs_on : (is_running (cpu_row s at) ≡ true) ⊎ IsExiting acted cpu
          → (is_running (cpu_row s at) ≡ true) ⊎ IsExiting acted (record cpu { current = Some new })
      runs_on (inl running) = inl running
      runs_on (inr exiting) =
          let that : call ≡ exiting.call = some_is call exiting.call (sym is ∙ exiting.is_current) in
          let frame : new.given ≡ exiting.call.given = same ∙ ap (λ (c : Current). c.given) that in
          inr (record { acted_now = exiting.acted_now; call = new; is_current = refl; exits_now = subst (λ (g : Given). is_exit g.frame ≡ true) (sym frame) exiting.exits_now })

  -- a call that gets its end
  pub ends_call : (acted later : Bool) (cpu : Cpu) (call : Current) (end : End) (reply : Reply)
      → CpuFits boot s acted at cpu → cpu.current ≡ Some call
      → CpuFits boot s later at (with_end cpu (finished at call end reply))
  ends_call acted later cpu call end reply fits is = record {
    next = fits.next;
    current = λ one there. absurd (let never : ⊥ = cc in never);
    alone = λ some. absurd (let never : ⊥ = cc in never);
    called = λ some. absurd (not_called some);
    runs = λ may. inl (still may);
  }
    where
      not_called : (is_some cpu.next || false) ≡ true → ⊥
      not_called some =
          let none : is_some cpu.next ≡ false = ap is_some (fits.alone (ap is_some is)) in
          let also : (is_some cpu.next || false) ≡ is_some cpu.next = or_false (is_some cpu.next) false refl in
          cc

      running_by : (is_running (cpu_row s at) ≡ true) ⊎ IsExiting acted cpu
          → exits (finished at call end reply) ≡ false → is_running (cpu_row s at) ≡ true
      running_by (inl running) no_exit = running
      running_by (inr exiting) no_exit =
          let that : call ≡ exiting.call = some_is call exiting.call (sym is ∙ exiting.is_current) in
          let ends_now : is_exit call.given.frame ≡ true = subst (λ (c : Current). is_exit c.given.frame ≡ true) (sym that) exiting.exits_now in
          absurd (let never : ⊥ = cc in never)

      still : MayRun boot at (with_end cpu (finished at call end reply)) → is_running (cpu_row s at) ≡ true
      still may =
          let front = exits_front cpu.made (finished at call end reply) may.no_exit in
          running_by (fits.runs (record { is_there = may.is_there; no_exit = front.0 })) front.1

  -- a call that begins
  begins : (acted : Bool) (cpu : Cpu) (given : Given) (section : ℕ) (stage : Stage)
      → CpuFits boot s acted at cpu → cpu.current ≡ None → cpu.next ≡ Some given
      → (stage ≡ AtAct → came_to (begun section stage given) ≡ Grants)
      → CpuFits boot s acted at (record cpu { next = None; current = Some (begun section stage given) })
  begins acted cpu given section stage fits none is granted = record {
    next = λ one there. absurd (let never : ⊥ = cc in never);
    current = λ one there. subst (λ (c : Current). CallFits s c) (some_is (begun section stage given) one there) new_fits;
    alone = λ some. refl;
    called = λ some. let may : MayRun boot at cpu = fits.called (ap (λ (next : Option Given). is_some next || is_some cpu.current) is) in record { is_there = may.is_there; no_exit = may.no_exit };
    runs = λ may. runs_on (fits.runs (record { is_there = may.is_there; no_exit = may.no_exit }));
  }
    where
      new_fits : CallFits s (begun section stage given)
      new_fits = record {
        of_frame = fits.next given is;
        found = λ i seen there. absurd (let never : ⊥ = cc in never);
        granted = granted;
      }

      runs_on : (is_running (cpu_row s at) ≡ true) ⊎ IsExiting acted cpu
          → (is_running (cpu_row s at) ≡ true) ⊎ IsExiting acted (record cpu { next = None; current = Some (begun section stage given) })
      runs_on (inl running) = inl running
      runs_on (inr exiting) =
          let some : None ≡ Some exiting.call = sym none ∙ exiting.is_current in
          absurd (let never : ⊥ = cc in never)

  -- Enter
  pub enter_fits : (acted : Bool) (cpu : Cpu) (given : Given) (section : ℕ)
      → CpuFits boot s acted at cpu → cpu.current ≡ None → cpu.next ≡ Some given
      → CpuFits boot s acted at (record cpu { next = None; current = option_map (begun section Reading) cpu.next })
  enter_fits acted cpu given section fits none is =
      subst (λ (next : Option Given). CpuFits boot s acted at (record cpu { next = None; current = option_map (begun section Reading) next })) (sym is)
      (begins acted cpu given section Reading fits none is (λ at_act. absurd (let never : ⊥ = cc in never)))

  -- a call at another stage, but at its act
  pub staged_fits : (acted : Bool) (cpu : Cpu) (call : Current) (stage : Stage)
      → (stage ≡ AtAct → ⊥) → CpuFits boot s acted at cpu → cpu.current ≡ Some call
      → CpuFits boot s acted at (with_call (at_stage stage) cpu)
  staged_fits acted cpu call stage never fits is =
      subst (λ (current : Option Current). CpuFits boot s acted at (record cpu { current = option_map (at_stage stage) current })) (sym is)
      (goes_on acted cpu call (at_stage stage call) fits is refl (record { of_frame = (fits.current call is).of_frame; found = (fits.current call is).found; granted = λ at_act. absurd (never at_act) }))

  -- Pin
  pub pin_fits : (acted dead : Bool) (cpu : Cpu) (call : Current) → CpuFits boot s acted at cpu
      → cpu.current ≡ Some call → CpuFits boot s acted at (with_pin dead cpu)
  pin_fits acted true cpu call fits is =
      staged_fits acted cpu call DeadPin (λ at_act. let never : ⊥ = cc in never) fits is
  pin_fits acted false cpu call fits is =
      repinned acted (with_call (at_stage Reading) cpu) _ (staged_fits acted cpu call Reading (λ at_act. let never : ⊥ = cc in never) fits is)

  -- Leave
  grants_by : (came : Outcome) → has_grants came ≡ true → came ≡ Grants
  grants_by (Wants slot need) has = absurd (let never : ⊥ = cc in never)
  grants_by (Fails errno) has = absurd (let never : ⊥ = cc in never)
  grants_by Grants has = refl

  left_by : (acted : Bool) (cpu : Cpu) (call : Current) (stage : Stage)
      → CpuFits boot s acted at cpu → cpu.current ≡ Some call
      → leaves_from stage (came_to call) ≡ true
      → CpuFits boot s acted at (with_left at cpu call stage)
  left_by acted cpu call Reading fits is done =
      goes_on acted cpu call (at_stage AtAct call) fits is refl (record { of_frame = (fits.current call is).of_frame; found = (fits.current call is).found; granted = λ at_act. grants_by (came_to call) done })
  left_by acted cpu call Looked fits is done = ends_call acted acted cpu call _ _ fits is
  left_by acted cpu call DeadPin fits is done = ends_call acted acted cpu call _ _ fits is
  left_by acted cpu call Undone fits is done = ends_call acted acted cpu call _ _ fits is
  left_by acted cpu call Failed fits is done = ends_call acted acted cpu call _ _ fits is
  left_by acted cpu call AtAct fits is done = ends_call acted acted cpu call _ _ fits is

  pub leave_fits : (acted : Bool) (cpu : Cpu) (call : Current) → CpuFits boot s acted at cpu
      → cpu.current ≡ Some call → leaves_from call.stage (came_to call) ≡ true
      → CpuFits boot s acted at (after_leave at cpu cpu.current)
  leave_fits acted cpu call fits is done =
      subst (λ (current : Option Current). CpuFits boot s acted at (after_leave at cpu current)) (sym is) (left_by acted cpu call call.stage fits is done)

  -- Look

  or_right : (a b : Bool) → b ≡ true → (a || b) ≡ true
  or_right true b is = refl
  or_right false b is = is

  -- what a slot has in a valid state names what it names
  pub word_is_found : IsValid s → (cspace slot : ℕ) → IsFound s (word_at s cspace slot)
  word_is_found valid cspace slot = λ row is good.
      let found : find (fills cspace slot) s.caps ≡ Some row = word_found s cspace slot row is in
      let parts = slot_parts s.next_serial s.objects row (found_all (fills cspace slot) (slot_fits s.next_serial s.objects) s.caps row valid.slots.filled found) in
      record {
        made = ltb-true row.serial.0 s.next_serial parts.made;
        kind = or_right (not (lives s.objects row.serial.0)) (lives_as s.objects row.serial.0 row.kind) (valid_names s valid cspace slot row found good);
      }

  not_at_act : (came : Outcome) → stage_after_look came ≡ AtAct → ⊥
  not_at_act (Wants slot need) is = let never : ⊥ = cc in never
  not_at_act (Fails errno) is = let never : ⊥ = cc in never
  not_at_act Grants is = let never : ⊥ = cc in never

  seen_by : (call : Current) (seen : Seen) → CallFits s call → IsFound s seen.word → (i : ℕ)
      (one : Seen) → slice_get (call.seen ++ seen ∷ []) i ≡ Some one → IsFound s one.word
  seen_by call seen fits found i one there =
      elim (snoc_cases call.seen seen one i there) as (λ _. IsFound s one.word) [
        | inl before ↦ fits.found i one before.1
        | inr last ↦ subst (λ (it : Seen). IsFound s it.word) last.1 found
      ]

  pub look_fits : (acted : Bool) (cpu : Cpu) (call : Current) (look : Current → Seen)
      → CpuFits boot s acted at cpu → cpu.current ≡ Some call → IsFound s (look call).word
      → CpuFits boot s acted at (with_call (λ one. with_look (look one) one) cpu)
  look_fits acted cpu call look fits is found =
      subst (λ (current : Option Current). CpuFits boot s acted at (record cpu { current = option_map (λ one. with_look (look one) one) current })) (sym is)
      (goes_on acted cpu call (with_look (look call) call) fits is refl (record {
        of_frame = (fits.current call is).of_frame;
        found = seen_by call (look call) (fits.current call is) found;
        granted = λ at_act. absurd (not_at_act (outcome (needs_of call.given.call) (map word_of (call.seen ++ look call ∷ []))) at_act);
      }))

  -- Take

  at_act_same : (stage : Stage) (one call : Current) → if_at_act stage one ≡ Some call
      → Some one ≡ if_at_act stage one
  at_act_same AtAct one call is = refl
  at_act_same Reading one call is = absurd (let never : ⊥ = cc in never)
  at_act_same Looked one call is = absurd (let never : ⊥ = cc in never)
  at_act_same DeadPin one call is = absurd (let never : ⊥ = cc in never)
  at_act_same Undone one call is = absurd (let never : ⊥ = cc in never)
  at_act_same Failed one call is = absurd (let never : ⊥ = cc in never)

  lookless_by : (acted needs : Bool) (given : Given) (made : List Made) (call : Current)
      → CpuFits boot s acted at (record { next = Some given; current = None; pins = []; made = made })
      → (if needs then None else Some (begun 0 AtAct given)) ≡ Some call → came_to call ≡ Grants
      → CpuFits boot s acted at (record { next = None; current = if needs then None else Some (begun 0 AtAct given); pins = []; made = made })
  lookless_by acted true given made call fits is granted = absurd (let never : ⊥ = cc in never)
  lookless_by acted false given made call fits is granted =
      begins acted (record { next = Some given; current = None; pins = []; made = made }) given 0 AtAct fits refl refl
      (λ at_act. subst (λ (one : Current). came_to one ≡ Grants) (sym (some_is (begun 0 AtAct given) call is)) granted)

  pub take_fits : (acted : Bool) (next : Option Given) (current : Option Current)
      (pins : List Pin) (made : List Made) (call : Current)
      → CpuFits boot s acted at (record { next = next; current = current; pins = pins; made = made })
      → call_at_act current pins next ≡ Some call → came_to call ≡ Grants
      → CpuFits boot s acted at (record { next = if is_some current then next else None; current = call_at_act current pins next; pins = pins; made = made })
  take_fits acted next (Some one) pins made call fits is granted =
      subst (λ (current : Option Current). CpuFits boot s acted at (record { next = next; current = current; pins = pins; made = made })) (at_act_same one.stage one call is) fits
  take_fits acted None None [] made call fits is granted = absurd (let never : ⊥ = cc in never)
  take_fits acted (Some given) None [] made call fits is granted =
      lookless_by acted (has_needs given) given made call fits is granted
  take_fits acted next None (pin ∷ pins) made call fits is granted =
      absurd (let never : ⊥ = cc in never)

  -- a CPU that is given its next call
  pub given_fits : (acted : Bool) (cpu : Cpu) (number : ℕ) (frame : Frame)
      (read : Result Call Errno) → call_of frame ≡ read → CpuFits boot s acted at cpu
      → cpu.current ≡ None → cpu.next ≡ None → MayRun boot at cpu
      → CpuFits boot s acted at (with_next at number frame cpu read)
  given_fits acted cpu number frame (Ok call) is fits none no_next may = record {
    next = λ one there. subst (λ (g : Given). IsOfFrame g) (some_is (record { number = number; frame = frame; call = call }) one there) is;
    current = fits.current;
    alone = λ some. absurd (not_some some);
    called = λ some. record { is_there = may.is_there; no_exit = may.no_exit };
    runs = λ again. runs_on (fits.runs may);
  }
    where
      not_some : is_some cpu.current ≡ true → ⊥
      not_some some = let missing : is_some cpu.current ≡ false = ap is_some none in cc

      runs_on : (is_running (cpu_row s at) ≡ true) ⊎ IsExiting acted cpu
          → (is_running (cpu_row s at) ≡ true) ⊎ IsExiting acted (with_next at number frame cpu (Ok call))
      runs_on (inl running) = inl running
      runs_on (inr exiting) =
          inr (record { acted_now = exiting.acted_now; call = exiting.call; is_current = exiting.is_current; exits_now = exiting.exits_now })
  given_fits acted cpu number frame (Err errno) is fits none no_next may = record {
    next = fits.next;
    current = fits.current;
    alone = fits.alone;
    called = λ some. absurd (not_some some);
    runs = λ again. runs_on (fits.runs may);
  }
    where
      not_some : (is_some cpu.next || is_some cpu.current) ≡ true → ⊥
      not_some some =
          let missing : (is_some cpu.next || is_some cpu.current) ≡ false = ap (λ (next : Option Given). is_some next || is_some cpu.current) no_next ∙ ap (λ (current : Option Current). is_some current) none in
          cc

      runs_on : (is_running (cpu_row s at) ≡ true) ⊎ IsExiting acted cpu
          → (is_running (cpu_row s at) ≡ true) ⊎ IsExiting acted (with_next at number frame cpu (Err errno))
      runs_on (inl running) = inl running
      runs_on (inr exiting) =
          inr (record { acted_now = exiting.acted_now; call = exiting.call; is_current = exiting.is_current; exits_now = exiting.exits_now })
