-- One whole call of a course, from the call that a CPU is given to its end, item by item.
use Rattle.std.proofs.Common.{◌≡◌, ◌==◌, ◌+◌, ◌-◌, ◌<◌, ◌≤◌, ◌∙◌, ◌⊎◌, inl, inr, ℕ, zero, suc, Bool, true, false, List, [], ◌∷◌, ◌++◌, length, refl, subst, sym, ap, arith, Option, Some, None, map, if◌then◌else◌}
use Rattle.std.specs.Prelude.{Result, Ok, Err, is_some}
use Rattle.std.proofs.lemmas.List.{append-nil}
use Rattle.gh_base.specs.declared.call.Call.{Call}
use Rattle.gh_base.specs.declared.errno.Errno.{Errno}
use Rattle.gh_base.specs.declared.frame.Frame.{Frame}
use Rattle.gh_base.specs.declared.frame.Reply.{Reply}
use Rattle.gh_base.specs.declared.limits.TheConstants.{CPUS}
use Rattle.gh_base.specs.declared.mark.Mark.{Mark}
use Rattle.gh_driver.specs.Follows.{CallsNext}
use Rattle.gh_events.proofs.FewPins.{few_needs}
use Rattle.gh_events.proofs.Finding.{put_here, put_other}
use Rattle.gh_events.specs.Config.{AtAct, Config, Cpu, Current, DeadPin, Failed, Given, IsBetween, Looked, Reading, Stage, Undone}
use Rattle.gh_events.specs.Sound.{Does, Gives, after_steps, made_by}
use Rattle.gh_events.specs.Events.{after as after_event}
use Rattle.gh_events.specs.Start.{MayGive, given, refused_frame, with_next}
use Rattle.gh_events.specs.declared.event.Event.{Event}
use Rattle.gh_model.specs.Marks.{Made, frame_of, mark_of}
use Rattle.gh_model.specs.Registers.{call_of, needs_of}
use Rattle.gh_model.specs.declared.program.Standing.{Standing}
use Rattle.gh_model.specs.declared.program.Step.{Step}
use Rattle.gh_schedules.specs.Course.{Course, call_of_cpu, either_call, goes_on, next_standing, with_call, with_next_call, with_steps}
use Rattle.gh_schedules.specs.Items.{IsSteady, item}
use Rattle.gh_schedules.specs.Schedule.{CallEnds, CallGoesOn, IsItem, called, ended_call, items_at, items_left, items_of_call, items_of_next, with_item, with_items}
use Rattle.gh_schedules.specs.Trace.{after_all}
use Rattle.gh_schedules.proofs.CourseStays.{steps_boot}
use Rattle.gh_schedules.proofs.BootBlocks.{given_steady}
use Rattle.gh_schedules.proofs.CourseMarks.{call_added, none_added}
use Rattle.gh_schedules.proofs.ItemCalls.{item_is_item}

-- the calls of a CPU

-- a CPU without a call has none in progress and is given none
pub no_call : (current : Option Current) (next : Option Given) → either_call current next ≡ None
    → (current ≡ None) × (next ≡ None)
no_call None next is = (refl, is)
no_call (Some call) next is = absurd (let never : ⊥ = cc in never)

-- a CPU between calls that is given none has none
pub none_between : (cpu : Cpu) → IsBetween cpu → cpu.next ≡ None → call_of_cpu cpu ≡ None
none_between cpu between none = ap (λ (one : Option Current). either_call one cpu.next) between.none ∙ none

-- a call has an item left at least, and so many at most
some_at : (stage : Stage) (looks : ℕ) → 1 ≤ items_at stage looks
some_at Reading looks = omega arith
some_at Looked looks = omega arith
some_at DeadPin looks = omega arith
some_at Undone looks = omega arith
some_at Failed looks = omega arith
some_at AtAct looks = omega arith

some_next : (next : Option Given) (call : Given) → next ≡ Some call → 1 ≤ items_of_next next
some_next None call is = absurd (let never : ⊥ = cc in never)
some_next (Some one) call is = omega arith

some_left : (current : Option Current) (next : Option Given) (call : Given) → either_call current next ≡ Some call
    → 1 ≤ items_of_call current next
some_left None next call is = some_next next call is
some_left (Some one) next call is = some_at one.stage (length (needs_of one.given.call) - length one.seen)

-- a call has seven items at most
few_at : (stage : Stage) (looks : ℕ) → looks ≤ 2 → items_at stage looks ≤ 7
few_at Reading looks few = omega (arith, few)
few_at Looked looks few = omega (arith, few)
few_at DeadPin looks few = omega arith
few_at Undone looks few = omega arith
few_at Failed looks few = omega arith
few_at AtAct looks few = omega arith

few_next : (next : Option Given) → items_of_next next ≤ 7
few_next None = omega arith
few_next (Some one) = omega (arith, few_needs one.call)

few_of : (current : Option Current) (next : Option Given) → items_of_call current next ≤ 7
few_of None next = few_next next
few_of (Some one) next = few_at one.stage (length (needs_of one.given.call) - length one.seen) (omega (arith, few_needs one.given.call))

-- so has a CPU
few_left : (cpu : Cpu) → items_left cpu ≤ 7
few_left cpu = few_of cpu.current cpu.next

-- the events of an item are its steps
pub steps_are : (conf : Config) (events : List Event) → after_steps conf (map Does events) ≡ after_all conf events
steps_are conf [] = refl
steps_are conf (event ∷ events) = steps_are (after_event conf event) events

module _ {P : Type 0} where
  -- a CPU without a call does nothing

  pub no_item : (course : Course P) (at : ℕ) → call_of_cpu (course.conf.cpu at) ≡ None
      → with_item course at ≡ course
  no_item course at none =
      ap (λ (has : Bool). if has then with_steps course (map Does (item course.conf at)) else course) (ap is_some none)

  -- the item of a CPU that has a call
  its_item : (course : Course P) (at : ℕ) (call : Given) → call_of_cpu (course.conf.cpu at) ≡ Some call
      → with_item course at ≡ with_steps course (map Does (item course.conf at))
  its_item course at call has =
      ap (λ (there : Bool). if there then with_steps course (map Does (item course.conf at)) else course) (ap is_some has)

  -- nor does it do so many items
  no_items : (n : ℕ) (course : Course P) (at : ℕ) → call_of_cpu (course.conf.cpu at) ≡ None
      → with_items n course at ≡ course
  unfolding with_items
  no_items zero course at none = refl
  no_items (suc n) course at none =
      ap (λ (one : Course P). with_items n one at) (no_item course at none) ∙ no_items n course at none

  -- so many items, and then so many more
  items_more : (n more : ℕ) (course : Course P) (at : ℕ)
      → with_items (n + more) course at
      ≡ with_items more (with_items n course at) at
  unfolding with_items
  items_more zero more course at =
      ap (λ (k : ℕ). with_items k course at) (let sum : 0 + more ≡ more = omega arith in sum)
  items_more (suc n) more course at =
      ap (λ (k : ℕ). with_items k course at) (let sum : suc n + more ≡ suc (n + more) = omega arith in sum)
      ∙ items_more n more (with_item course at) at

  -- the first item and those behind it
  pub items_none : (course : Course P) (at : ℕ) → with_items 0 course at ≡ course
  unfolding with_items
  items_none course at = refl

  pub items_first : (n : ℕ) (course : Course P) (at : ℕ)
      → with_items n (with_item course at) at
      ≡ with_items (suc n) course at
  unfolding with_items
  items_first n course at = refl

  -- the items so far and the last
  pub items_last : (n : ℕ) (course : Course P) (at : ℕ)
      → with_item (with_items n course at) at
      ≡ with_items (n + 1) course at
  items_last n course at =
      sym (items_none (with_item (with_items n course at) at) at)
      ∙ items_first 0 (with_items n course at) at
      ∙ sym (items_more n 1 course at)

  -- an item leaves the programs
  pub item_programs : (course : Course P) (at : ℕ) (has : Bool)
      → (if has then with_steps course (map Does (item course.conf at)) else course).programs ≡ course.programs
  item_programs course at true = refl
  item_programs course at false = refl

  -- so many items leave them too
  items_programs : (n : ℕ) (course : Course P) (at : ℕ)
      → (with_items n course at).programs ≡ course.programs
  unfolding with_items
  items_programs zero course at = refl
  items_programs (suc n) course at =
      items_programs n (with_item course at) at
      ∙ item_programs course at (is_some (call_of_cpu (course.conf.cpu at)))

  -- a call on its way: given and not ended, or ended

  pub record IsUnderWay (before course : Course P) (at : ℕ) (frame : Frame) : Type 0 where
    pub call : Given
    pub has : call_of_cpu (course.conf.cpu at) ≡ Some call
    pub its_frame : call.frame ≡ frame
    pub made : made_by course.conf at ≡ made_by before.conf at
    pub marks : course.marks ≡ before.marks

  pub record IsOver (before course : Course P) (at : ℕ) (frame : Frame) : Type 0 where
    pub call : Made
    pub its_frame : frame_of call ≡ frame
    pub made : made_by course.conf at ≡ made_by before.conf at ++ call ∷ []
    pub marks : course.marks ≡ before.marks ++ mark_of call ∷ []
    pub between : IsBetween (course.conf.cpu at)
    pub none : (course.conf.cpu at).next ≡ None

  -- since it was given all else is as before
  pub record IsAlong (before course : Course P) (at : ℕ) (frame : Frame) : Type 0 where
    pub boot : course.conf.boot ≡ before.conf.boot
    pub others : (cpu : ℕ) → (cpu == at) ≡ false → course.conf.cpu cpu ≡ before.conf.cpu cpu
    pub steady : IsSteady course.conf
    pub state : IsUnderWay before course at frame ⊎ IsOver before course at frame

  -- a call that is over is the CPU's no more
  over_none : (before course : Course P) (at : ℕ) (frame : Frame) → IsOver before course at frame
      → call_of_cpu (course.conf.cpu at) ≡ None
  over_none before course at frame over = none_between (course.conf.cpu at) over.between over.none

  -- an item of it
  module _ (before course : Course P) (at : ℕ) (frame : Frame) (within : at < CPUS)
      (along : IsAlong before course at frame) where
    module _ (way : IsUnderWay before course at frame) where
      abbrev later : Course P
      later = with_steps course (map Does (item course.conf at))

      is : IsItem course.conf at way.call (item course.conf at)
      is = item_is_item course.conf at way.call along.steady within way.has

      goes : CallGoesOn (course.conf.cpu at) (later.conf.cpu at) → IsUnderWay before later at frame
      goes on = record {
        call = way.call;
        has = on.same ∙ way.has;
        its_frame = way.its_frame;
        made = on.made ∙ way.made;
        marks = ap (λ (marks : List Mark). course.marks ++ marks) (none_added course.conf later.conf at within is.others on.made)
            ∙ append-nil course.marks ∙ way.marks;
      }

      ends : CallEnds way.call (course.conf.cpu at) (later.conf.cpu at) → IsOver before later at frame
      ends over = record {
        call = over.call;
        its_frame = over.frame ∙ way.its_frame;
        made = over.made ∙ ap (λ (made : List Made). made ++ over.call ∷ []) way.made;
        marks = ap (λ (marks : List Mark). course.marks ++ marks) (call_added course.conf later.conf at within is.others over.call over.made)
            ∙ ap (λ (marks : List Mark). marks ++ mark_of over.call ∷ []) way.marks;
        between = over.between;
        none = over.none;
      }

      item_on : IsAlong before later at frame
      item_on = record {
        boot = steps_boot course.conf (map Does (item course.conf at)) ∙ along.boot;
        others = λ cpu differs. is.others cpu differs ∙ along.others cpu differs;
        steady = is.steady;
        state = elim is.own as (λ _. IsUnderWay before later at frame ⊎ IsOver before later at frame)
            [ inl on ↦ inl (goes on) | inr over ↦ inr (ends over) ];
      }

    by_state : IsUnderWay before course at frame ⊎ IsOver before course at frame
        → IsAlong before (with_item course at) at frame
    by_state (inl way) = subst (λ (one : Course P). IsAlong before one at frame) (sym (its_item course at way.call way.has)) (item_on way)
    by_state (inr over) =
        subst (λ (one : Course P). IsAlong before one at frame) (sym (no_item course at (over_none before course at frame over))) along

    pub item_along : IsAlong before (with_item course at) at frame
    item_along = by_state along.state

  -- as many items as it has left end it
  pub record HasEnded (before course : Course P) (at : ℕ) (frame : Frame) : Type 0 where
    pub boot : course.conf.boot ≡ before.conf.boot
    pub others : (cpu : ℕ) → (cpu == at) ≡ false → course.conf.cpu cpu ≡ before.conf.cpu cpu
    pub over : IsOver before course at frame

  -- behind its end all stays
  stays_ended : (n : ℕ) (before course : Course P) (at : ℕ) (frame : Frame) → IsAlong before course at frame
      → IsOver before course at frame
      → HasEnded before (with_items n course at) at frame
  stays_ended n before course at frame along over =
      subst (λ (one : Course P). HasEnded before one at frame) (sym (no_items n course at (over_none before course at frame over)))
      (record { boot = along.boot; others = along.others; over = over })

  -- an item leaves it fewer items, or ends it
  fewer : (before course : Course P) (at : ℕ) (frame : Frame) → at < CPUS → IsAlong before course at frame
      → (way : IsUnderWay before course at frame)
      → (items_left ((with_item course at).conf.cpu at) < items_left (course.conf.cpu at))
      ⊎ IsOver before (with_item course at) at frame
  fewer before course at frame within along way =
      subst (λ (one : Course P). (items_left (one.conf.cpu at) < items_left (course.conf.cpu at)) ⊎ IsOver before one at frame)
      (sym (its_item course at way.call way.has))
      (elim (is before course at frame within along way).own
      as (λ _. (items_left ((later before course at frame within along way).conf.cpu at) < items_left (course.conf.cpu at))
      ⊎ IsOver before (later before course at frame within along way) at frame)
      [ inl on ↦ inl on.fewer | inr over ↦ inr (ends before course at frame within along way over) ])

  -- so many items as it has left end it
  items_end : (n : ℕ) (before course : Course P) (at : ℕ) (frame : Frame) → at < CPUS
      → IsAlong before course at frame
      → items_left (course.conf.cpu at) ≤ n
      → HasEnded before (with_items n course at) at frame
  unfolding with_items
  items_end zero before course at frame within along few =
      elim along.state as (λ _. HasEnded before (with_items zero course at) at frame) [
        | inl way ↦ absurd (omega (arith, some_left (course.conf.cpu at).current (course.conf.cpu at).next way.call way.has, few))
        | inr over ↦ stays_ended zero before course at frame along over
      ]
  items_end (suc n) before course at frame within along few =
      elim along.state as (λ _. HasEnded before (with_items (suc n) course at) at frame) [
        | inl way ↦ elim (fewer before course at frame within along way) as (λ _. HasEnded before (with_items (suc n) course at) at frame) [
          | inl less ↦ items_end n before (with_item course at) at frame within (item_along before course at frame within along) (omega (arith, less, few))
          | inr over ↦ stays_ended n before (with_item course at) at frame (item_along before course at frame within along) over
        ]
        | inr over ↦ stays_ended (suc n) before course at frame along over
      ]

  -- seven items end any call

  module _ (before course : Course P) (at : ℕ) (frame : Frame) (within : at < CPUS) (along : IsAlong before course at frame) where
    abbrev left : ℕ
    left = items_left (course.conf.cpu at)

    pub whole_items : with_items 7 course at ≡ ended_call course at
    whole_items =
        ap (λ (n : ℕ). with_items n course at)
        (let sum : 7 ≡ left + (7 - left) = omega (arith, few_left (course.conf.cpu at)) in sum)
        ∙ items_more left (7 - left) course at
        ∙ no_items (7 - left) (ended_call course at) at
        (over_none before (ended_call course at) at frame
        (items_end left before course at frame within along (omega arith)).over)

  -- a call in progress

  module _ (course : Course P) (at : ℕ) (steady : IsSteady course.conf) (call : Given)
      (has : call_of_cpu (course.conf.cpu at) ≡ Some call) where
    pub under_way : IsAlong course course at call.frame
    under_way = record {
      boot = refl;
      others = λ cpu differs. refl;
      steady = steady;
      state = inl (record { call = call; has = has; its_frame = refl; made = refl; marks = refl });
    }

-- the call that a CPU is given

module _ {P : Type 0} (answer : P → Option Reply → Step) (after : P → Option Reply → P)
    (course : Course P) (at : ℕ) (within : at < CPUS) (steady : IsSteady course.conf)
    (may : MayGive course.conf at (length (made_by course.conf at) + 1)) where
  abbrev its : Standing P
  its = next_standing answer after course at

  abbrev first : Course P
  first = with_call answer after course at its

  -- the CPU has no call before
  free : call_of_cpu (course.conf.cpu at) ≡ None
  free = none_between (course.conf.cpu at) may.between may.none

  -- the CPU is given its program's next call
  pub is_given : with_next_call answer after course at ≡ first
  is_given = ap (λ (has : Bool). if has then course else first) (ap is_some free)

  abbrev shaped : Result Call Errno → Cpu
  shaped shape = with_next at (length (made_by course.conf at) + 1) its.frame (course.conf.cpu at) shape

  -- the CPU has the call, or has ended it at once
  here : first.conf.cpu at ≡ shaped (call_of its.frame)
  here = put_here course.conf.cpu at (shaped (call_of its.frame))

  -- the others are as they were
  elsewhere : (cpu : ℕ) → (cpu == at) ≡ false → first.conf.cpu cpu ≡ course.conf.cpu cpu
  elsewhere cpu differs = put_other course.conf.cpu at (shaped (call_of its.frame)) cpu differs

  -- the call is on its way, or over where its frame is refused
  given_state : (shape : Result Call Errno) → first.conf.cpu at ≡ shaped shape
      → IsUnderWay course first at its.frame ⊎ IsOver course first at its.frame
  given_state (Ok call) is =
      let same : made_by first.conf at ≡ made_by course.conf at = ap (λ (one : Cpu). one.made) is in
      inl (record {
        call = record { number = length (made_by course.conf at) + 1; frame = its.frame; call = call };
        has = ap (λ (one : Cpu). call_of_cpu one) is
            ∙ ap (λ (current : Option Current). either_call current (shaped (Ok call)).next) may.between.none;
        its_frame = refl;
        made = same;
        marks = ap (λ (marks : List Mark). course.marks ++ marks) (none_added course.conf first.conf at within elsewhere same)
            ∙ append-nil course.marks;
      })
  given_state (Err errno) is =
      let one : made_by first.conf at ≡ made_by course.conf at ++ refused_frame at (length (made_by course.conf at) + 1) its.frame errno ∷ [] =
      ap (λ (one : Cpu). one.made) is in
      inr (record {
        call = refused_frame at (length (made_by course.conf at) + 1) its.frame errno;
        its_frame = refl;
        made = one;
        marks = ap (λ (marks : List Mark). course.marks ++ marks) (call_added course.conf first.conf at within elsewhere _ one);
        between = record { none = ap (λ (cpu : Cpu). cpu.current) is ∙ may.between.none; dropped = ap (λ (cpu : Cpu). cpu.pins) is ∙ may.between.dropped };
        none = ap (λ (cpu : Cpu). cpu.next) is ∙ may.none;
      })

  -- given, it goes along
  pub given_along : IsAlong course first at its.frame
  given_along = record {
    boot = refl;
    others = elsewhere;
    steady = given_steady course.conf at (length (made_by course.conf at) + 1) its.frame steady may;
    state = given_state (call_of its.frame) here;
  }

  -- the first item and six more are the whole call
  pub called_is : goes_on course.conf at ≡ true
      → with_items 6 (with_item (with_next_call answer after course at) at) at
      ≡ called answer after course at
  called_is going =
      ap (λ (one : Course P). with_items 6 (with_item one at) at) is_given
      ∙ items_first 6 first at
      ∙ whole_items course first at its.frame within given_along
      ∙ sym (ap (λ (one : Course P). ended_call one at) is_given)
      ∙ sym (ap (λ (on : Bool). if on then ended_call (with_next_call answer after course at) at else course) going)

  -- its program has the rest left
  pub first_programs : (with_item (with_next_call answer after course at) at).programs ≡ first.programs
  first_programs =
      item_programs (with_next_call answer after course at) at (is_some (call_of_cpu ((with_next_call answer after course at).conf.cpu at)))
      ∙ ap (λ (one : Course P). one.programs) is_given

  -- its first item goes along
  pub first_along : IsAlong course (with_item (with_next_call answer after course at) at) at its.frame
  first_along =
      subst (λ (one : Course P). IsAlong course (with_item one at) at its.frame) (sym is_given)
      (item_along course first at its.frame within given_along)

-- a call in progress comes to its end, and none is given

module _ {P : Type 0} (answer : P → Option Reply → Step) (after : P → Option Reply → P)
    (course : Course P) (at : ℕ) (within : at < CPUS) (steady : IsSteady course.conf) (call : Given)
    (has : call_of_cpu (course.conf.cpu at) ≡ Some call) where
  pub none_given : with_next_call answer after course at ≡ course
  none_given = ap (λ (there : Bool). if there then course else with_call answer after course at (next_standing answer after course at)) (ap is_some has)

  pub finished_is : goes_on course.conf at ≡ true
      → with_items 6 (with_item (with_next_call answer after course at) at) at
      ≡ called answer after course at
  finished_is going =
      ap (λ (one : Course P). with_items 6 (with_item one at) at) none_given
      ∙ items_first 6 course at
      ∙ whole_items course course at call.frame within (under_way course at steady call has)
      ∙ sym (ap (λ (one : Course P). ended_call one at) none_given)
      ∙ sym (ap (λ (on : Bool). if on then ended_call (with_next_call answer after course at) at else course) going)
