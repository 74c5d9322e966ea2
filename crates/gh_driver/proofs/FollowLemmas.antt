-- A run goes along its course: its progress stands for the course's configuration behind each item,
-- and its programs are those of the course behind each call.
use Rattle.std.proofs.Common.{◌≡◌, ◌≢◌, ◌==◌, ◌+◌, ◌<◌, ◌≤◌, ◌∙◌, ◌⊎◌, inl, inr, ℕ, Bool, true, false, not, List, [], ◌∷◌, ◌++◌, length, refl, subst, sym, ap, arith, Option, Some, None, filter, map, slice_get, slice_set, get_or, Fits, w32, is_some, if◌then◌else◌}
use Rattle.std.specs.Prelude.{◌&&◌, ◌||◌, OnOk, Result, Ok, Err}
use Rattle.std.specs.List.{last_or, list_any, refill}
use Rattle.std.specs.Option.{option_map, option_map_or}
use Rattle.std.proofs.lemmas.Bool.{and_parts, and_right, ne_eqb, not-true, or_parts}
use Rattle.std.proofs.lemmas.Bool.Decides.{eqb_tells}
use Rattle.std.proofs.lemmas.List.{length-append, length-set, set-get_or}
use Rattle.std.proofs.lemmas.List.Folds.{list_any-append}
use Rattle.std.proofs.lemmas.Option.{slice_get-get_or, slice_get_within}
use Rattle.gh_base.specs.declared.frame.Frame.{Frame}
use Rattle.gh_base.specs.declared.ids.CpuNo.{CpuNo}
use Rattle.gh_base.specs.declared.frame.Reply.{Reply}
use Rattle.gh_base.specs.declared.limits.TheConstants.{CALL_NUMBERS, CPUS}
use Rattle.gh_base.specs.declared.mark.Mark.{Mark}
use Rattle.gh_core.specs.Running.{current_of}
use Rattle.gh_core.specs.declared.current.CurrentCall.{CurrentCall}
use Rattle.gh_driver.specs.Follows.{CallsNext, Follows, GoesOn, IsInCall, IsReady, Tracks, ended_seat, has_call, has_program, is_going, program_at}
use Rattle.gh_driver.specs.declared.running.Running.{Running}
use Rattle.gh_events.specs.Config.{Config, Cpu, Current, Given, IsBetween}
use Rattle.gh_events.specs.Sound.{Does, made_by}
use Rattle.gh_events.specs.Start.{MayGive, given}
use Rattle.gh_items.specs.Calling.{AddsMark, begun, behind_item}
use Rattle.gh_items.specs.Stands.{SeatStands, Stands}
use Rattle.gh_items.specs.declared.progress.Progress.{Progress}
use Rattle.gh_items.specs.declared.progress.Seat.{Seat}
use Rattle.gh_model.proofs.RowLemmas.{refilled}
use Rattle.gh_model.proofs.RunLists.{set_cases}
use Rattle.gh_model.specs.Legal.{exits}
use Rattle.gh_model.specs.Marks.{Made, cspace_of, frame_of, mark_of}
use Rattle.gh_model.specs.Program.{exit_frame, is_exit, last_number}
use Rattle.gh_model.specs.Programs.{asked}
use Rattle.gh_model.specs.Rows.{cpu_row}
use Rattle.gh_model.specs.Run.{is_mark_of}
use Rattle.gh_model.specs.declared.program.Standing.{Standing}
use Rattle.gh_model.specs.declared.program.Step.{Step}
use Rattle.gh_model.specs.declared.state.State.{State}
use Rattle.gh_schedules.specs.Course.{Course, call_of_cpu, either_call, goes_on, last_reply, next_standing, with_call, with_next_call, with_steps}
use Rattle.gh_schedules.specs.Items.{IsSteady, begins, item, item_between, item_of}
use Rattle.gh_schedules.specs.Schedule.{advanced, called, ended_call, with_item, with_items}
use Rattle.gh_schedules.specs.Trace.{after_all}
use Rattle.gh_driver.proofs.CourseLemmas.{IsAlong, IsOver, IsUnderWay, called_is, finished_is, first_along, first_programs, is_given, item_along, item_programs, items_none, no_call, no_item, none_between, none_given, steps_are, under_way}
use Rattle.gh_driver.proofs.MarkLemmas.{one_mark, reply_is, same_marks, some_last}
use Rattle.gh_events.proofs.Finding.{put_here, put_other}

-- what two clauses give together they give also by way of something else
pub two_ok : {T E A B C : Type 0} (result : Result T E) → (A → B → C) → OnOk result A → OnOk result B → OnOk result C
two_ok (Ok value) follows first second = follows first second
two_ok (Err error) follows first second = tt

-- what a progress has of its CPUs

pub record IsSeated (progress : Progress) (conf : Config) (at : ℕ) : Type 0 where
  pub seat : Seat
  pub call : Option CurrentCall
  pub seated : slice_get progress.seats at ≡ Some seat
  pub called : slice_get progress.calls at ≡ Some call
  pub stands : SeatStands at (cspace_of conf.boot at) progress.marks seat call (conf.cpu at)

-- a seat
some_seat : Seat
some_seat = record { cpu = record { 0 = 0 }; cspace = record { 0 = 0 }; calls = 0; sections = 0; place = 0; ended = false }

pub seated : (progress : Progress) (conf : Config) (at : ℕ) → Stands progress conf → at < CPUS → IsSeated progress conf at
seated progress conf at stands within =
    let its_seat = slice_get-get_or progress.seats at some_seat (omega (arith, stands.nine_seats)) in
    let its_call = slice_get-get_or progress.calls at None (omega (arith, stands.nine_calls)) in
    record {
      seat = _;
      call = _;
      seated = its_seat;
      called = its_call;
      stands = stands.seats at _ _ its_seat its_call;
    }

-- the call in progress of a CPU
abbrev seated_call : Progress → ℕ → Option CurrentCall
seated_call progress at = get_or progress.calls at None

-- the marks of each CPU are those of its finished calls
pub made_marks : (progress : Progress) (conf : Config) → Stands progress conf → (cpu : ℕ) → cpu < CPUS
    → map mark_of (made_by conf cpu) ≡ filter (is_mark_of cpu) progress.marks
made_marks progress conf stands cpu within = (seated progress conf cpu stands within).stands.made

-- a CPU without a call has no item

-- it has none where it has no call, no pins and is given none
idle_item : (conf : Config) (at : ℕ) → (conf.cpu at).current ≡ None → (conf.cpu at).pins ≡ []
    → (conf.cpu at).next ≡ None → item conf at ≡ []
unfolding item
idle_item conf at none dropped unasked =
    ap (item_of at conf) none ∙ ap (item_between at conf) dropped ∙ ap (begins at conf) unasked

-- a call that stands for none is none
uncalled : (call : Option CurrentCall) → None ≡ option_map current_of call → call ≡ None
uncalled None is = refl
uncalled (Some call) is = absurd (let never : ⊥ = cc in never)

-- so its next item leaves the configuration
idle : (progress : Progress) (conf : Config) (at : ℕ) → Stands progress conf → at < CPUS
    → call_of_cpu (conf.cpu at) ≡ None → after_all conf (item conf at) ≡ conf
idle progress conf at stands within none =
    let none_there = no_call (conf.cpu at).current (conf.cpu at).next none in
    let seat : IsSeated progress conf at = seated progress conf at stands within in
    ap (after_all conf) (idle_item conf at none_there.0 (seat.stands.dropped (uncalled seat.call (sym none_there.0 ∙ seat.stands.current))) none_there.1)

module _ {P : Type 0} where
  -- the marks along a call
  module _ (before later : Course P) (progress behind : Progress) (at : ℕ) (frame : Frame) (within : at < CPUS)
      (tracks : Tracks progress before) (stands : Stands behind later.conf) (adds : AddsMark progress.marks behind.marks)
      (along : IsAlong before later at frame) where
    -- the finished calls of the others are as they were
    elsewhere : (cpu : ℕ) → (cpu == at) ≡ false → made_by later.conf cpu ≡ made_by before.conf cpu
    elsewhere cpu differs = ap (λ (one : Cpu). one.made) (along.others cpu differs)

    by_state : IsUnderWay before later at frame ⊎ IsOver before later at frame → behind.marks ≡ later.marks
    by_state (inl way) =
        same_marks progress.marks behind.marks (made_by before.conf) (made_by later.conf) (made_marks progress before.conf tracks.stands) (made_marks behind later.conf stands) adds
        (λ cpu inside. elim (eqb_tells cpu at) as (λ _. made_by later.conf cpu ≡ made_by before.conf cpu) [
          | inl same ↦ subst (λ (n : ℕ). made_by later.conf n ≡ made_by before.conf n) (sym same.1) way.made
          | inr differs ↦ elsewhere cpu differs.0
        ])
        ∙ tracks.marks ∙ sym way.marks
    by_state (inr over) =
        one_mark progress.marks behind.marks (made_by before.conf) (made_by later.conf) (made_marks progress before.conf tracks.stands) (made_marks behind later.conf stands) adds
        at over.call within over.made elsewhere
        ∙ ap (λ (marks : List Mark). marks ++ mark_of over.call ∷ []) tracks.marks ∙ sym over.marks

    -- so the progress is the course's
    marks_along : Tracks behind later
    marks_along = record { stands = stands; steady = along.steady; marks = by_state along.state }

  -- an item

  module _ (course : Course P) (progress behind : Progress) (at : ℕ) (within : at < CPUS) (tracks : Tracks progress course)
      (stands : Stands behind (after_all course.conf (item course.conf at))) (adds : AddsMark progress.marks behind.marks) where
    -- a CPU without a call leaves the course
    idle_tracks : call_of_cpu (course.conf.cpu at) ≡ None → Tracks behind (with_item course at)
    idle_tracks none =
        let here : Stands behind course.conf = subst (Stands behind) (idle progress course.conf at tracks.stands within none) stands in
        subst (λ (one : Course P). Tracks behind one) (sym (no_item course at none)) (record {
          stands = here;
          steady = tracks.steady;
          marks = same_marks progress.marks behind.marks (made_by course.conf) (made_by course.conf) (made_marks progress course.conf tracks.stands) (made_marks behind course.conf here) adds (λ cpu inside. refl)
              ∙ tracks.marks;
        })

    -- any other leads it on
    busy_tracks : (call : Given) → call_of_cpu (course.conf.cpu at) ≡ Some call → Tracks behind (with_item course at)
    busy_tracks call has =
        let there : (with_item course at).conf ≡ after_all course.conf (item course.conf at) =
        ap (λ (one : Bool). (if one then with_steps course (map Does (item course.conf at)) else course).conf) (ap is_some has)
        ∙ steps_are course.conf (item course.conf at) in
        marks_along course (with_item course at) progress behind at call.frame within tracks (subst (Stands behind) (sym there) stands) adds
        (item_along course course at call.frame within (record {
          boot = refl;
          others = λ cpu differs. refl;
          steady = tracks.steady;
          state = inl (record { call = call; has = has; its_frame = refl; made = refl; marks = refl });
        }))

    by_call : (call : Option Given) → call_of_cpu (course.conf.cpu at) ≡ call → Tracks behind (with_item course at)
    by_call None none = idle_tracks none
    by_call (Some call) has = busy_tracks call has

    pub item_tracks : Tracks behind (with_item course at)
    item_tracks = by_call (call_of_cpu (course.conf.cpu at)) refl

  -- an item's steps lead to what its events do
  begun_is : (course : Course P) (at : ℕ) (has : Bool)
      → (if has then with_steps course (map Does (item course.conf at)) else course).conf
      ≡ (if has then after_all course.conf (item course.conf at) else course.conf)
  begun_is course at true = steps_are course.conf (item course.conf at)
  begun_is course at false = refl

-- what goes on behind an item

module _ {P : Type 0} (wants : P → Bool) (before later : Course P) (at : ℕ) (frame : Frame) (along : IsAlong before later at frame) where
  -- a CPU that has ended stays so
  ends_more : (row made more : Bool) → (row && not made) ≡ false → (row && not (made || more)) ≡ false
  ends_more false made more is = refl
  ends_more true true more is = refl
  ends_more true false more is = absurd (let never : ⊥ = cc in never)

  row_kept : (ended : Bool) → (is_some (cpu_row later.conf.boot at) && not ended) ≡ (is_some (cpu_row before.conf.boot at) && not ended)
  row_kept ended = ap (λ (boot : State). is_some (cpu_row boot at) && not ended) along.boot

  ended_by : IsUnderWay before later at frame ⊎ IsOver before later at frame → goes_on before.conf at ≡ false → goes_on later.conf at ≡ false
  ended_by (inl way) ended =
      row_kept (list_any exits (made_by later.conf at))
      ∙ ap (λ (made : List Made). is_some (cpu_row before.conf.boot at) && not (list_any exits made)) way.made ∙ ended
  ended_by (inr over) ended =
      row_kept (list_any exits (made_by later.conf at))
      ∙ ap (λ (made : List Made). is_some (cpu_row before.conf.boot at) && not (list_any exits made)) over.made
      ∙ ap (λ (exited : Bool). is_some (cpu_row before.conf.boot at) && not exited) (list_any-append exits (made_by before.conf at) (over.call ∷ []))
      ∙ ends_more (is_some (cpu_row before.conf.boot at)) (list_any exits (made_by before.conf at)) (list_any exits (over.call ∷ [])) ended

  still_ended : goes_on before.conf at ≡ false → goes_on later.conf at ≡ false
  still_ended = ended_by along.state

  -- the CPU of the item goes on
  module _ (going : goes_on before.conf at ≡ true) (waits : is_exit frame ≡ false → wants (later.programs at) ≡ true)
      (room : is_exit frame ≡ false → length (made_by before.conf at) + 2 ≤ CALL_NUMBERS) where
    its_parts : (is_some (cpu_row before.conf.boot at) ≡ true) × (list_any exits (made_by before.conf at) ≡ false)
    its_parts =
        let both = and_parts (is_some (cpu_row before.conf.boot at)) (not (list_any exits (made_by before.conf at))) going in
        (both.0, not-true (list_any exits (made_by before.conf at)) both.1)

    row_there : is_some (cpu_row later.conf.boot at) ≡ true
    row_there = ap (λ (boot : State). is_some (cpu_row boot at)) along.boot ∙ its_parts.0

    in_call : IsUnderWay before later at frame → IsInCall wants later at
    in_call way = record {
      call = way.call;
      has = way.has;
      is_cpu = row_there;
      runs = ap (list_any exits) way.made ∙ its_parts.1;
      ready = λ goes. waits (sym (ap is_exit way.its_frame) ∙ goes);
      room = λ goes. subst (λ (made : List Made). length made + 2 ≤ CALL_NUMBERS) (sym way.made) (room (sym (ap is_exit way.its_frame) ∙ goes));
    }

    -- a call that is over, behind which no exit call was made, isn't the exit call
    no_exit : (over : IsOver before later at frame) → list_any exits (made_by later.conf at) ≡ false → is_exit frame ≡ false
    no_exit over none =
        let of_call : list_any exits (over.call ∷ []) ≡ false =
        (or_parts (list_any exits (made_by before.conf at)) (list_any exits (over.call ∷ []))
        (sym (list_any-append exits (made_by before.conf at) (over.call ∷ [])) ∙ ap (list_any exits) (sym over.made) ∙ none)).1 in
        let its : exits over.call ≡ false = (or_parts (exits over.call) false of_call).0 in
        ap is_exit (sym over.its_frame) ∙ its

    next_call : IsOver before later at frame → goes_on later.conf at ≡ true → CallsNext wants later at
    next_call over on =
        let none : list_any exits (made_by later.conf at) ≡ false =
        not-true (list_any exits (made_by later.conf at)) (and_parts (is_some (cpu_row later.conf.boot at)) (not (list_any exits (made_by later.conf at))) on).1 in
        let still : is_exit frame ≡ false = no_exit over none in
        let counted : length (made_by later.conf at) ≡ length (made_by before.conf at) + 1 =
        ap (λ (made : List Made). length made) over.made ∙ length-append (made_by before.conf at) (over.call ∷ []) in
        record {
          may = record {
            is_cpu = row_there;
            between = over.between;
            none = over.none;
            runs = none;
            counts = refl;
            bounded = omega (arith, counted, room still);
          };
          waits = waits still
              ∙ sym (ap (λ (made : List Made). is_some (last_reply made)) over.made ∙ some_last (made_by before.conf at) over.call);
        }

    goes_by : IsUnderWay before later at frame ⊎ IsOver before later at frame → goes_on later.conf at ≡ true → GoesOn wants later at
    goes_by (inl way) on = inr (in_call way)
    goes_by (inr over) on = inl (next_call over on)

    pub goes_again : goes_on later.conf at ≡ true → GoesOn wants later at
    goes_again = goes_by along.state

  -- the other CPUs go on as they did

  goes_other : (cpu : ℕ) → (cpu == at) ≡ false → goes_on later.conf cpu ≡ goes_on before.conf cpu
  goes_other cpu differs =
      ap (λ (boot : State). is_some (cpu_row boot cpu) && not (list_any exits (made_by later.conf cpu))) along.boot
      ∙ ap (λ (one : Cpu). is_some (cpu_row before.conf.boot cpu) && not (list_any exits one.made)) (along.others cpu differs)

  module _ (others : (cpu : ℕ) → (cpu == at) ≡ false → later.programs cpu ≡ before.programs cpu) where
    next_other : (cpu : ℕ) → (cpu == at) ≡ false → GoesOn wants before cpu → GoesOn wants later cpu
    next_other cpu differs (inl was) =
        let same : later.conf.cpu cpu ≡ before.conf.cpu cpu = along.others cpu differs in
        inl (record {
          may = record {
            is_cpu = ap (λ (boot : State). is_some (cpu_row boot cpu)) along.boot ∙ was.may.is_cpu;
            between = subst IsBetween (sym same) was.may.between;
            none = ap (λ (one : Cpu). one.next) same ∙ was.may.none;
            runs = ap (λ (one : Cpu). list_any exits one.made) same ∙ was.may.runs;
            counts = refl;
            bounded = subst (λ (one : Cpu). length one.made + 1 ≤ CALL_NUMBERS) (sym same) was.may.bounded;
          };
          waits = ap (λ (program : P). wants program) (others cpu differs) ∙ was.waits
              ∙ sym (ap (λ (one : Cpu). is_some (last_reply one.made)) same);
        })
    next_other cpu differs (inr was) =
        let same : later.conf.cpu cpu ≡ before.conf.cpu cpu = along.others cpu differs in
        inr (record {
          call = was.call;
          has = ap (λ (one : Cpu). call_of_cpu one) same ∙ was.has;
          is_cpu = ap (λ (boot : State). is_some (cpu_row boot cpu)) along.boot ∙ was.is_cpu;
          runs = ap (λ (one : Cpu). list_any exits one.made) same ∙ was.runs;
          ready = λ goes. ap (λ (program : P). wants program) (others cpu differs) ∙ was.ready goes;
          room = λ goes. subst (λ (one : Cpu). length one.made + 2 ≤ CALL_NUMBERS) (sym same) (was.room goes);
        })

    -- and have their programs
    program_other : (cpu : ℕ) → (cpu == at) ≡ false → program_at later cpu ≡ program_at before cpu
    program_other cpu differs =
        ap (λ (boot : State). if is_some (cpu_row boot cpu) then Some (later.programs cpu) else None) along.boot
        ∙ ap (λ (program : P). if is_some (cpu_row before.conf.boot cpu) then Some program else None) (others cpu differs)

    -- so what goes on behind it goes on
    all_go : ((cpu : ℕ) → goes_on before.conf cpu ≡ true → GoesOn wants before cpu)
        → (goes_on later.conf at ≡ true → GoesOn wants later at)
        → (cpu : ℕ) → goes_on later.conf cpu ≡ true → GoesOn wants later cpu
    all_go was again cpu on =
        elim (eqb_tells cpu at) as (λ _. GoesOn wants later cpu) [
          | inl same ↦ subst (λ (n : ℕ). GoesOn wants later n) (sym same.1) (again (subst (λ (n : ℕ). goes_on later.conf n ≡ true) same.1 on))
          | inr differs ↦ next_other cpu differs.0 (was cpu (sym (goes_other cpu differs.0) ∙ on))
        ]

    -- the run behind it, where the CPU's program was asked for its call
    pub call_follows : at < CPUS → goes_on before.conf at ≡ true → (run new : Running P) (program : P) → Follows wants run before
        → Tracks new.progress later
        → program ≡ later.programs at
        → (goes_on later.conf at ≡ true → GoesOn wants later at)
        → new.programs ≡ slice_set run.programs at (Some program)
        → Follows wants new later
    call_follows within going run new program follows tracks is again put = record {
      tracks = tracks;
      nine = ap (λ (programs : List (Option P)). length programs) put ∙ length-set run.programs at (Some program) ∙ follows.nine;
      programs = λ n one there.
          let here : at < length run.programs = omega (arith, within, follows.nine) in
          elim (set_cases run.programs at n _ (Some program) one (slice_get-get_or run.programs at None here) (sym (ap (λ (programs : List (Option P)). slice_get programs n) put) ∙ there))
          as (λ _. one ≡ program_at later n) [
            | inl same ↦ sym same.1 ∙ ap Some is ∙ sym own ∙ ap (program_at later) (sym same.0)
            | inr differs ↦ follows.programs n one differs.1 ∙ sym (program_other n (ne_eqb n at differs.0))
          ];
      next = all_go follows.next again;
    }
      where
        own : program_at later at ≡ Some (later.programs at)
        own =
            ap (λ (boot : State). if is_some (cpu_row boot at) then Some (later.programs at) else None) along.boot
            ∙ ap (λ (row : Bool). if row then Some (later.programs at) else None) (and_parts (is_some (cpu_row before.conf.boot at)) (not (list_any exits (made_by before.conf at))) going).0

-- an item of a call in progress, at which no program is asked

programs_kept : {P : Type 0} (course : Course P) (at : ℕ) → (with_item course at).programs ≡ course.programs
programs_kept course at = item_programs course at (is_some (call_of_cpu (course.conf.cpu at)))

module _ {P : Type 0} (wants : P → Bool) (course : Course P) (at : ℕ) (within : at < CPUS) (steady : IsSteady course.conf)
    (call : Given) (has : call_of_cpu (course.conf.cpu at) ≡ Some call) where
  along_call : IsAlong course (with_item course at) at call.frame
  along_call = item_along course course at call.frame within (under_way course at steady call has)

  its_call : GoesOn wants course at → IsInCall wants course at
  its_call (inl next) =
      let none : call_of_cpu (course.conf.cpu at) ≡ None = none_between (course.conf.cpu at) next.may.between next.may.none in
      absurd (let never : ⊥ = cc in never)
  its_call (inr call_there) = call_there

  same_call : (its : IsInCall wants course at) → its.call ≡ call
  same_call its = let both : Some its.call ≡ Some call = sym its.has ∙ has in cc

  -- the CPU goes on in its call, or behind it
  item_goes : goes_on course.conf at ≡ true → GoesOn wants course at → goes_on (with_item course at).conf at ≡ true
      → GoesOn wants (with_item course at) at
  item_goes going goes on =
      let its : IsInCall wants course at = its_call goes in
      goes_again wants course (with_item course at) at call.frame along_call going
      (λ still. ap (λ (programs : ℕ → P). wants (programs at)) (programs_kept course at) ∙ its.ready (ap (λ (one : Given). is_exit one.frame) (same_call its) ∙ still))
      (λ still. its.room (ap (λ (one : Given). is_exit one.frame) (same_call its) ∙ still)) on

module _ {P : Type 0} (wants : P → Bool) (run new : Running P) (course : Course P) (at : ℕ) (within : at < CPUS)
    (follows : Follows wants run course) (same : new.programs ≡ run.programs)
    (tracks : Tracks new.progress (with_item course at)) where
  own_program : (later : Course P) → later.programs ≡ course.programs → later.conf.boot ≡ course.conf.boot → (cpu : ℕ)
      → program_at later cpu ≡ program_at course cpu
  own_program later kept boot cpu =
      ap (λ (its : State). if is_some (cpu_row its cpu) then Some (later.programs cpu) else None) boot
      ∙ ap (λ (programs : ℕ → P). if is_some (cpu_row course.conf.boot cpu) then Some (programs cpu) else None) kept

  -- a CPU without a call leaves the course
  none_follows : call_of_cpu (course.conf.cpu at) ≡ None → Follows wants new (with_item course at)
  none_follows none =
      subst (λ (one : Course P). Follows wants new one) (sym (no_item course at none)) (record {
        tracks = subst (λ (one : Course P). Tracks new.progress one) (no_item course at none) tracks;
        nine = ap (λ (programs : List (Option P)). length programs) same ∙ follows.nine;
        programs = λ n one there. follows.programs n one (sym (ap (λ (programs : List (Option P)). slice_get programs n) same) ∙ there);
        next = follows.next;
      })

  -- any other one goes on
  module _ (call : Given) (has : call_of_cpu (course.conf.cpu at) ≡ Some call) where
    along : IsAlong course (with_item course at) at call.frame
    along = along_call wants course at within follows.tracks.steady call has

    by_going : (going : Bool) → goes_on course.conf at ≡ going → goes_on (with_item course at).conf at ≡ true → GoesOn wants (with_item course at) at
    by_going false ended on =
        let still : goes_on (with_item course at).conf at ≡ false = still_ended wants course (with_item course at) at call.frame along ended in
        absurd (let never : ⊥ = cc in never)
    by_going true going on = item_goes wants course at within follows.tracks.steady call has going (follows.next at going) on

    some_follows : Follows wants new (with_item course at)
    some_follows = record {
      tracks = tracks;
      nine = ap (λ (programs : List (Option P)). length programs) same ∙ follows.nine;
      programs = λ n one there.
          follows.programs n one (sym (ap (λ (programs : List (Option P)). slice_get programs n) same) ∙ there)
          ∙ sym (own_program (with_item course at) (programs_kept course at) along.boot n);
      next = all_go wants course (with_item course at) at call.frame along
          (λ cpu differs. ap (λ (programs : ℕ → P). programs cpu) (programs_kept course at)) follows.next
          (by_going (goes_on course.conf at) refl);
    }

  follows_by : (call : Option Given) → call_of_cpu (course.conf.cpu at) ≡ call → Follows wants new (with_item course at)
  follows_by None none = none_follows none
  follows_by (Some call) has = some_follows call has

  pub item_follows : Follows wants new (with_item course at)
  item_follows = follows_by (call_of_cpu (course.conf.cpu at)) refl

-- no items yet
pub none_follow : {P : Type 0} (wants : P → Bool) (run : Running P) (course : Course P) (at : ℕ) → Follows wants run course
    → Follows wants run (with_items 0 course at)
none_follow wants run course at follows = subst (λ one. Follows wants run one) (sym (items_none course at)) follows

-- a call that begins

module _ {P : Type 0} (answer : P → Option Reply → Step) (after : P → Option Reply → P) where
  pub begin_tracks : (course : Course P) (progress behind : Progress) (at : ℕ) (frame : Frame) → at < CPUS → Tracks progress course
      → MayGive course.conf at (length (made_by course.conf at) + 1)
      → frame ≡ (next_standing answer after course at).frame
      → Stands behind (begun course.conf at frame)
      → AddsMark progress.marks behind.marks
      → Tracks behind (with_item (with_next_call answer after course at) at)
  begin_tracks course progress behind at frame within tracks may is stands adds =
      let first : Course P = with_next_call answer after course at in
      let given_so : first.conf ≡ given course.conf at (length (made_by course.conf at) + 1) (next_standing answer after course at).frame =
      ap (λ (one : Course P). one.conf) (is_given answer after course at within tracks.steady may) in
      let there : (with_item first at).conf ≡ begun course.conf at frame =
      begun_is first at (is_some (call_of_cpu (first.conf.cpu at)))
      ∙ ap (λ (conf : Config). behind_item conf at) given_so
      ∙ ap (begun course.conf at) (sym is) in
      marks_along course (with_item first at) progress behind at (next_standing answer after course at).frame within tracks
      (subst (Stands behind) (sym there) stands) adds
      (first_along answer after course at within tracks.steady may)

  -- its CPU may be given its next one then, unless it exits

  -- at the last number the exit call is asked
  asked_last : (number : ℕ) (program : P) (last : Option Reply) → number ≡ last_number
      → (asked answer after number program last).frame ≡ exit_frame
  asked_last number program last is = rw (is) refl

  -- a call whose frame isn't the exit call hasn't the last number
  below_last : (course : Course P) (at : ℕ) → length (made_by course.conf at) + 1 ≤ last_number
      → is_exit (next_standing answer after course at).frame ≡ false → length (made_by course.conf at) + 2 ≤ last_number
  below_last course at most goes =
      elim (eqb_tells (length (made_by course.conf at) + 1) last_number) as (λ _. length (made_by course.conf at) + 2 ≤ last_number) [
        | inl last ↦ absurd (let exit : is_exit (next_standing answer after course at).frame ≡ true =
            ap is_exit (asked_last (length (made_by course.conf at) + 1) (course.programs at) (last_reply (made_by course.conf at)) last.1) in
            let never : ⊥ = cc in never)
        | inr other ↦ omega (arith, most, other.1)
      ]

  -- a call that begins with its first item
  module _ (wants : P → Bool) (course : Course P) (cpu : CpuNo) (within : cpu.0 < CPUS) (steady : IsSteady course.conf)
      (next : CallsNext wants course cpu.0) (going : goes_on course.conf cpu.0 ≡ true) where
    abbrev begun_course : Course P
    begun_course = with_item (with_next_call answer after course cpu.0) cpu.0

    begun_along : IsAlong course begun_course cpu.0 (next_standing answer after course cpu.0).frame
    begun_along = first_along answer after course cpu.0 within steady next.may

    pub advanced_going : advanced answer after course cpu ≡ begun_course
    advanced_going = ap (λ (on : Bool). if on then begun_course else course) going

    pub begun_program : begun_course.programs cpu.0 ≡ (next_standing answer after course cpu.0).program
    begun_program =
        ap (λ (programs : ℕ → P). programs cpu.0) (first_programs answer after course cpu.0 within steady next.may)
        ∙ put_here course.programs cpu.0 (next_standing answer after course cpu.0).program

    pub begun_others : (other : ℕ) → (other == cpu.0) ≡ false → begun_course.programs other ≡ course.programs other
    begun_others other differs =
        ap (λ (programs : ℕ → P). programs other) (first_programs answer after course cpu.0 within steady next.may)
        ∙ put_other course.programs cpu.0 (next_standing answer after course cpu.0).program other differs

    pub begun_goes : IsReady wants (next_standing answer after course cpu.0) → goes_on begun_course.conf cpu.0 ≡ true
        → GoesOn wants begun_course cpu.0
    begun_goes ready =
        goes_again wants course begun_course cpu.0 (next_standing answer after course cpu.0).frame begun_along going
        (λ goes. ap (λ (program : P). wants program) begun_program ∙ ready goes)
        (below_last course cpu.0 (omega (arith, next.may.bounded)))

    pub begun_follows : (run new : Running P) (program : P) → Follows wants run course
        → Tracks new.progress begun_course
        → program ≡ begun_course.programs cpu.0
        → (goes_on begun_course.conf cpu.0 ≡ true → GoesOn wants begun_course cpu.0)
        → new.programs ≡ slice_set run.programs cpu.0 (Some program)
        → Follows wants new begun_course
    begun_follows run new program =
        call_follows wants course begun_course cpu.0 (next_standing answer after course cpu.0).frame begun_along begun_others within going run new program

  -- a CPU that has ended, or that the boot doesn't have, does nothing
  pub called_idle : (course : Course P) (at : ℕ) → goes_on course.conf at ≡ false → called answer after course at ≡ course
  called_idle course at ended = ap (λ (on : Bool). if on then ended_call (with_next_call answer after course at) at else course) ended

  pub advanced_idle : (course : Course P) (cpu : CpuNo) → goes_on course.conf cpu.0 ≡ false → advanced answer after course cpu ≡ course
  advanced_idle course cpu ended = ap (λ (on : Bool). if on then with_item (with_next_call answer after course cpu.0) cpu.0 else course) ended

  -- so the run still follows
  pub still_follows : (wants : P → Bool) (run : Running P) (course : Course P) (cpu : CpuNo) → Follows wants run course
      → goes_on course.conf cpu.0 ≡ false → Follows wants run (advanced answer after course cpu)
  still_follows wants run course cpu follows ended =
      subst (λ (one : Course P). Follows wants run one) (sym (advanced_idle course cpu ended)) follows

  pub idle_follows : (wants : P → Bool) (run : Running P) (course : Course P) (at : ℕ) → Follows wants run course
      → goes_on course.conf at ≡ false → Follows wants run (called answer after course at)
  idle_follows wants run course at follows ended =
      subst (λ (one : Course P). Follows wants run one) (sym (called_idle course at ended)) follows

  -- what the program is asked
  pub asked_is : (course : Course P) (at number : ℕ) (program : P) (last : Option Reply)
      → number ≡ length (made_by course.conf at) + 1 → program ≡ course.programs at → last ≡ last_reply (made_by course.conf at)
      → asked answer after number program last ≡ next_standing answer after course at
  asked_is course at number program last counts is replied =
      ap (λ (n : ℕ). asked answer after n program last) counts
      ∙ ap (λ (one : P). asked answer after (length (made_by course.conf at) + 1) one last) is
      ∙ ap (asked answer after (length (made_by course.conf at) + 1) (course.programs at)) replied

-- the seat of a CPU, and its program

-- a seat in a list of them stands for its CPU
seat_of : (progress : Progress) (conf : Config) (seats : List Seat) (at : ℕ) (other : Seat) → Stands progress conf → at < CPUS
    → seats ≡ progress.seats → SeatStands at (cspace_of conf.boot at) progress.marks (get_or seats at other) (seated_call progress at) (conf.cpu at)
seat_of progress conf seats at other stands within are =
    let its : IsSeated progress conf at = seated progress conf at stands within in
    stands.seats at (get_or seats at other) (seated_call progress at)
    (sym (ap (λ (list : List Seat). slice_get list at) are) ∙ slice_get-get_or seats at other (omega (arith, ap (λ (list : List Seat). length list) are, stands.nine_seats, within)))
    (slice_get-get_or progress.calls at None (omega (arith, stands.nine_calls)))

module _ (progress : Progress) (conf : Config) (seats : List Seat) (at : ℕ) (other : Seat) (stands : Stands progress conf) (within : at < CPUS)
    (are : seats ≡ progress.seats) where
  -- a seat counts the finished calls of its CPU
  pub calls_are : (get_or seats at other).calls ≡ length (made_by conf at)
  calls_are = (seat_of progress conf seats at other stands within are).calls

  -- its next number is one that there is
  pub number_fits : length (made_by conf at) + 1 ≤ CALL_NUMBERS → Fits w32 ((get_or seats at other).calls + 1)
  number_fits bounded = omega (arith, calls_are, bounded)

  -- and says whether it has made its exit call
  pub ended_is : (get_or seats at other).ended ≡ list_any exits (made_by conf at)
  ended_is = (seat_of progress conf seats at other stands within are).ended

  -- one that has made it doesn't go on
  pub ended_goes : (get_or seats at other).ended ≡ true → goes_on conf at ≡ false
  ended_goes ended =
      and_right (is_some (cpu_row conf.boot at)) (not (list_any exits (made_by conf at))) (ap not (sym ended_is ∙ ended))

module _ {P : Type 0} (wants : P → Bool) (run : Running P) (course : Course P) (follows : Follows wants run course) (at : ℕ)
    (within : at < CPUS) where
  -- a program in a list of them is that of its CPU
  its_program : (programs : List (Option P)) (other : Option P) → programs ≡ run.programs
      → get_or programs at other ≡ program_at course at
  its_program programs other are =
      follows.programs at (get_or programs at other)
      (sym (ap (λ (list : List (Option P)). slice_get list at) are)
      ∙ slice_get-get_or programs at other (omega (arith, ap (λ (list : List (Option P)). length list) are, follows.nine, within)))

  row_by : (row : Bool) → None ≡ (if row then Some (course.programs at) else None) → row ≡ false
  row_by true none = absurd (let never : ⊥ = cc in never)
  row_by false none = refl

  program_by : (row : Bool) (program : P) → Some program ≡ (if row then Some (course.programs at) else None)
      → (row ≡ true) × (program ≡ course.programs at)
  program_by true program is = (refl, (let same : program ≡ course.programs at = cc in same))
  program_by false program is = absurd (let never : ⊥ = cc in never)

  -- a CPU without a program isn't one of the boot
  pub missing_goes : (programs : List (Option P)) (other : Option P) → programs ≡ run.programs → get_or programs at other ≡ None
      → goes_on course.conf at ≡ false
  missing_goes programs other are none =
      ap (λ (row : Bool). row && not (list_any exits (made_by course.conf at)))
      (row_by (is_some (cpu_row course.conf.boot at)) (sym none ∙ its_program programs other are))

  -- one that is there is the course's
  pub program_is : (programs : List (Option P)) (other : Option P) (program : P) → programs ≡ run.programs
      → get_or programs at other ≡ Some program → program ≡ course.programs at
  program_is programs other program are is =
      (program_by (is_some (cpu_row course.conf.boot at)) program (sym is ∙ its_program programs other are)).1

  -- its CPU goes on where it has made no exit call
  pub goes_so : (programs : List (Option P)) (other : Option P) (program : P) (seats : List Seat) (seat : Seat)
      → programs ≡ run.programs → get_or programs at other ≡ Some program
      → seats ≡ run.progress.seats → (get_or seats at seat).ended ≡ false
      → goes_on course.conf at ≡ true
  goes_so programs other program seats seat are is seats_are going =
      ap (λ (row : Bool). row && not (list_any exits (made_by course.conf at)))
      (program_by (is_some (cpu_row course.conf.boot at)) program (sym is ∙ its_program programs other are)).0
      ∙ ap not (sym (ended_is run.progress course.conf seats at seat follows.tracks.stands within seats_are) ∙ going)

  some_program : (row : Bool) → is_some (if row then Some (course.programs at) else None) ≡ row
  some_program true = refl
  some_program false = refl

  -- the run says which CPUs go on
  pub going_is : is_going run at ≡ goes_on course.conf at
  going_is =
      let there = slice_get-get_or run.programs at None (omega (arith, follows.nine, within)) in
      let seat = slice_get-get_or run.progress.seats at some_seat (omega (arith, follows.tracks.stands.nine_seats, within)) in
      ap (λ (one : Option (Option P)). option_map_or has_program one false && not (option_map_or ended_seat (slice_get run.progress.seats at) true)) there
      ∙ ap (λ (one : Option Seat). is_some (get_or run.programs at None) && not (option_map_or ended_seat one true)) seat
      ∙ ap (λ (one : Option P). is_some one && not (get_or run.progress.seats at some_seat).ended) (its_program run.programs None refl)
      ∙ ap (λ (row : Bool). row && not (get_or run.progress.seats at some_seat).ended) (some_program (is_some (cpu_row course.conf.boot at)))
      ∙ ap (λ (ended : Bool). is_some (cpu_row course.conf.boot at) && not ended) (ended_is run.progress course.conf run.progress.seats at some_seat follows.tracks.stands within refl)

-- what a run's progress says of calls

module _ (progress : Progress) (conf : Config) (at : ℕ) (stands : Stands progress conf) (within : at < CPUS) where
  its_seat : IsSeated progress conf at
  its_seat = seated progress conf at stands within

  call_there : has_call progress at ≡ is_some its_seat.call
  call_there = ap (λ (one : Option (Option CurrentCall)). option_map_or (λ (call : Option CurrentCall). is_some call) one false) its_seat.called

  none_of : (call : Option CurrentCall) → is_some call ≡ false → (conf.cpu at).current ≡ option_map current_of call
      → (conf.cpu at).next ≡ None → call_of_cpu (conf.cpu at) ≡ None
  none_of None none current next =
      ap (λ (one : Option Current). either_call one (conf.cpu at).next) current ∙ next
  none_of (Some call) none current next = absurd (let never : ⊥ = cc in never)

  -- a CPU without a call in progress has none
  pub no_call_there : has_call progress at ≡ false → call_of_cpu (conf.cpu at) ≡ None
  no_call_there none = none_of its_seat.call (sym call_there ∙ none) its_seat.stands.current its_seat.stands.unasked

  some_of : (call : Option CurrentCall) → is_some call ≡ true → (conf.cpu at).current ≡ option_map current_of call
      → is_some (call_of_cpu (conf.cpu at)) ≡ true
  some_of None some current = absurd (let never : ⊥ = cc in never)
  some_of (Some call) some current =
      ap (λ (one : Option Current). is_some (either_call one (conf.cpu at).next)) current

  pub some_call_there : has_call progress at ≡ true → is_some (call_of_cpu (conf.cpu at)) ≡ true
  some_call_there some = some_of its_seat.call (sym call_there ∙ some) its_seat.stands.current

module _ {P : Type 0} (answer : P → Option Reply → Step) (after : P → Option Reply → P) (wants : P → Bool) (progress : Progress)
    (course : Course P) (tracks : Tracks progress course) (cpu : CpuNo) (within : cpu.0 < CPUS)
    (going : goes_on course.conf cpu.0 ≡ true) (goes : GoesOn wants course cpu.0) where
  -- an item of a call in progress advances its CPU
  pub busy_advanced : has_call progress cpu.0 ≡ true → with_item course cpu.0 ≡ advanced answer after course cpu
  busy_advanced busy =
      sym (ap (λ (on : Bool). if on then with_item (with_next_call answer after course cpu.0) cpu.0 else course) going
      ∙ ap (λ (there : Bool). with_item (if there then course else with_call answer after course cpu.0 (next_standing answer after course cpu.0)) cpu.0)
      (some_call_there progress course.conf cpu.0 tracks.stands within busy))

  busy_by : (call : Option Given) → call_of_cpu (course.conf.cpu cpu.0) ≡ call → is_some call ≡ true
      → goes_on (with_item course cpu.0).conf cpu.0 ≡ true → GoesOn wants (with_item course cpu.0) cpu.0
  busy_by None is some on = absurd (let never : ⊥ = cc in never)
  busy_by (Some call) is some on = item_goes wants course cpu.0 within tracks.steady call is going goes on

  -- and leaves its program
  pub busy_program : has_call progress cpu.0 ≡ true → (advanced answer after course cpu).programs cpu.0 ≡ course.programs cpu.0
  busy_program busy =
      ap (λ (one : Course P). one.programs cpu.0) (sym (busy_advanced busy))
      ∙ ap (λ (programs : ℕ → P). programs cpu.0) (programs_kept course cpu.0)

  pub busy_goes : has_call progress cpu.0 ≡ true → goes_on (advanced answer after course cpu).conf cpu.0 ≡ true
      → GoesOn wants (advanced answer after course cpu) cpu.0
  busy_goes busy =
      subst (λ (one : Course P). goes_on one.conf cpu.0 ≡ true → GoesOn wants one cpu.0) (busy_advanced busy)
      (busy_by (call_of_cpu (course.conf.cpu cpu.0)) refl (some_call_there progress course.conf cpu.0 tracks.stands within busy))

  -- without one it may be given its next call
  pub next_free : has_call progress cpu.0 ≡ false → CallsNext wants course cpu.0
  next_free free = by_goes goes
    where
      by_goes : GoesOn wants course cpu.0 → CallsNext wants course cpu.0
      by_goes (inl next) = next
      by_goes (inr call) =
          let none : call_of_cpu (course.conf.cpu cpu.0) ≡ None = no_call_there progress course.conf cpu.0 tracks.stands within free in
          let some : call_of_cpu (course.conf.cpu cpu.0) ≡ Some call.call = call.has in
          absurd (let never : ⊥ = cc in never)

  -- six items more are the whole call
  pub six_more : with_items 6 (advanced answer after course cpu) cpu.0 ≡ called answer after course cpu.0
  six_more =
      ap (λ (on : Bool). with_items 6 (if on then with_item (with_next_call answer after course cpu.0) cpu.0 else course) cpu.0) going
      ∙ by_goes goes
    where
      by_goes : GoesOn wants course cpu.0
          → with_items 6 (with_item (with_next_call answer after course cpu.0) cpu.0) cpu.0 ≡ called answer after course cpu.0
      by_goes (inl next) = called_is answer after course cpu.0 within tracks.steady next.may going
      by_goes (inr call) = finished_is answer after course cpu.0 within tracks.steady call.call call.has going

-- the run behind an item of a CPU that goes on, between calls or in one

module _ {P : Type 0} (answer : P → Option Reply → Step) (after : P → Option Reply → P) (wants : P → Bool) (run : Running P)
    (course : Course P) (follows : Follows wants run course) (cpu : CpuNo) (within : cpu.0 < CPUS)
    (going : goes_on course.conf cpu.0 ≡ true) where
  abbrev Behind : Course P → Type 0
  Behind later = (new : Running P) (program : P) → Tracks new.progress later → program ≡ later.programs cpu.0
      → (goes_on later.conf cpu.0 ≡ true → GoesOn wants later cpu.0)
      → new.programs ≡ slice_set run.programs cpu.0 (Some program) → Follows wants new later

  by_goes : GoesOn wants course cpu.0 → Behind (advanced answer after course cpu)
  by_goes (inl next) =
      subst Behind (sym (advanced_going answer after wants course cpu within follows.tracks.steady next going))
      (λ new program tracks. begun_follows answer after wants course cpu within follows.tracks.steady next going run new program follows tracks)
  by_goes (inr call) =
      subst Behind
      (sym (ap (λ (on : Bool). if on then with_item (with_next_call answer after course cpu.0) cpu.0 else course) going
      ∙ ap (λ (one : Course P). with_item one cpu.0) (none_given answer after course cpu.0 within follows.tracks.steady call.call call.has)))
      (λ new program.
      call_follows wants course (with_item course cpu.0) cpu.0 call.call.frame
      (along_call wants course cpu.0 within follows.tracks.steady call.call call.has)
      (λ other differs. ap (λ (programs : ℕ → P). programs other) (programs_kept course cpu.0))
      within going run new program follows)

  pub advanced_follows : Behind (advanced answer after course cpu)
  advanced_follows = by_goes (follows.next cpu.0 going)

-- the reply to the CPU's last call
pub told_last : {P : Type 0} (progress : Progress) (course : Course P) (marks : List Mark) (at : ℕ) (reply : Option Reply) → at < CPUS
    → Tracks progress course → marks ≡ progress.marks
    → reply ≡ option_map (λ (mark : Mark). mark.reply) (last_or None (filter (is_mark_of at) marks))
    → reply ≡ last_reply (made_by course.conf at)
told_last progress course marks at reply within tracks are is =
    reply_is (made_by course.conf at) (filter (is_mark_of at) marks) reply
    (made_marks progress course.conf tracks.stands at within ∙ ap (filter (is_mark_of at)) (sym are)) is

-- what holds anyway holds of each value
pub ok_anyway : {T E A : Type 0} (result : Result T E) → A → OnOk result A
ok_anyway (Ok value) holds = holds
ok_anyway (Err error) holds = tt

-- and three
pub three_ok : {T E A B C D : Type 0} (result : Result T E) → (A → B → C → D) → OnOk result A → OnOk result B → OnOk result C → OnOk result D
three_ok (Ok value) follows first second third = follows first second third
three_ok (Err error) follows first second third = tt

-- a list of which an item was lent and given back as it was
pub kept : {X : Type 0} (xs view : List X) (at : ℕ) (other : X) → view ≡ xs
    → refill (length xs) xs (slice_set view at (get_or view at other)) ≡ xs
kept xs view at other are = ap (refill (length xs) xs) (set-get_or view at other ∙ are) ∙ refilled xs xs refl
