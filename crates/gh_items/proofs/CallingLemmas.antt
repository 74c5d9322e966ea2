-- How a CPU's call begins, and what its next item is.
use Rattle.std.proofs.Common.{◌≡◌, ◌<◌, ◌+◌, ◌∙◌, ◌⊎◌, inl, inr, ℕ, Bool, true, false, List, [], ◌∷◌, ap, arith, length, refl, slice_get, subst, sym, Option, Some, None, Ok, Err, is_some, if◌then◌else◌}
use Rattle.std.specs.Option.{unwrap_or}
use Rattle.std.proofs.lemmas.List.{length-set}
use Rattle.std.proofs.lemmas.Option.{slice_get-get_or}
use Rattle.gh_base.specs.declared.call.Call.{Call}
use Rattle.gh_base.specs.declared.errno.Errno.{Errno}
use Rattle.gh_base.specs.declared.frame.Frame.{Frame}
use Rattle.gh_base.specs.declared.limits.TheConstants.{CPUS}
use Rattle.gh_core.specs.Running.{current_of, stage_of}
use Rattle.gh_core.specs.Tests.{is_at_act}
use Rattle.gh_core.specs.declared.current.CallStage.{CallStage}
use Rattle.gh_core.specs.declared.current.CallStage.TheVariants as stages
use Rattle.gh_core.specs.declared.current.CurrentCall.{CurrentCall}
use Rattle.gh_events.specs.CallEvents.{begun, entered, has_needs}
use Rattle.gh_events.specs.Config.{AtAct, Config, Cpu, Current, Given, Pin, Stage}
use Rattle.gh_events.specs.Sound.{made_by}
use Rattle.gh_events.specs.Start.{MayGive, given, with_next}
use Rattle.gh_events.specs.TurnEvents.{call_at_act, if_at_act, ready, taken}
use Rattle.gh_events.specs.declared.event.Event.TheVariants.{Enter}
use Rattle.gh_events.proofs.Finding.{put_here}
use Rattle.gh_items.specs.Acts.{ActsNext}
use Rattle.gh_items.specs.Calling.{behind_item, begun as begun_frame}
use Rattle.gh_items.specs.Held.{call_goes_on, cpu_goes_on, goes_on}
use Rattle.gh_items.specs.Stands.{Stands, with_call}
use Rattle.gh_items.specs.declared.progress.Progress.{Progress}
use Rattle.gh_items.specs.declared.progress.Seat.{Seat}
use Rattle.gh_items.proofs.ActLemmas.{taken_like}
use Rattle.gh_items.proofs.EnterLemmas.{call_there}
use Rattle.gh_items.proofs.ItemLemmas.{item_is}
use Rattle.gh_items.proofs.LikeLemmas.{stands_like}
use Rattle.gh_items.proofs.SeatLemmas.{current_is, set_here}
use Rattle.gh_model.specs.Registers.{call_of}
use Rattle.gh_schedules.specs.Committing.{cpu_no}
use Rattle.gh_schedules.specs.Course.{call_of_cpu, either_call}
use Rattle.gh_schedules.specs.Items.{IsSteady, act, begins, item, item_between, item_of}
use Rattle.gh_schedules.specs.Trace.{after_all}
use Rattle.gh_schedules.proofs.BootBlocks.{given_steady}

-- whether a call is at its act

pub at_its_act : (stage : CallStage) → is_at_act (stage_of stage) ≡ true → stage ≡ stages.AtAct
at_its_act stages.Reading is = absurd (let never : ⊥ = cc in never)
at_its_act stages.Looked is = absurd (let never : ⊥ = cc in never)
at_its_act stages.DeadPin is = absurd (let never : ⊥ = cc in never)
at_its_act stages.Undone is = absurd (let never : ⊥ = cc in never)
at_its_act stages.Failed is = absurd (let never : ⊥ = cc in never)
at_its_act stages.AtAct is = refl

-- a call that neither goes on nor acts comes to its end
pub ends_section : (stage : CallStage) → goes_on stage ≡ false → is_at_act (stage_of stage) ≡ false → (stage ≡ stages.Undone) ⊎ (stage ≡ stages.Failed)
ends_section stages.Reading goes acts = absurd (let never : ⊥ = cc in never)
ends_section stages.Looked goes acts = absurd (let never : ⊥ = cc in never)
ends_section stages.DeadPin goes acts = absurd (let never : ⊥ = cc in never)
ends_section stages.Undone goes acts = inl refl
ends_section stages.Failed goes acts = inr refl
ends_section stages.AtAct goes acts = absurd (let never : ⊥ = cc in never)

-- a call that is taken out of a CPU that doesn't go on
pub taken_stays : (progress taken : Progress) (conf : Config) → Stands progress conf → (at : ℕ) → at < CPUS → (call : CurrentCall)
    → progress ≡ with_call taken at (Some call) → cpu_goes_on progress at ≡ false → goes_on call.stage ≡ false
taken_stays progress taken conf stands at within call back stays =
    let there : at < length taken.calls =
    omega (arith, length-set taken.calls at (Some call), ap (λ (p : Progress). length p.calls) back, stands.nine_calls) in
    sym (ap (λ (p : Progress). cpu_goes_on p at) back ∙ ap (λ (o : _). call_goes_on (unwrap_or o None)) (set_here taken.calls at (Some call) there)) ∙ stays

-- a call in progress that is at its act

module _ (progress : Progress) (conf : Config) (at : ℕ) (call : CurrentCall) (stands : Stands (with_call progress at (Some call)) conf)
    (within : at < CPUS) (acts : call.stage ≡ stages.AtAct) where
  now : (conf.cpu at).current ≡ Some (current_of call)
  now = current_is progress conf at call stands within

  -- it may act
  pub acts_next : IsSteady conf → ActsNext conf at (current_of call)
  acts_next steady = record {
    steady = steady;
    is_cpu = within;
    is_ready =
        ap (λ (current : Option Current). call_at_act current (conf.cpu at).pins (conf.cpu at).next) now
        ∙ ap (λ (stage : Stage). if_at_act stage (current_of call)) (ap stage_of acts);
  }

  -- its item is the act
  pub item_acts : after_all conf (item conf at) ≡ after_all conf (act at conf)
  item_acts = ap (after_all conf) (item_is conf at (current_of call) now AtAct (ap stage_of acts))

-- and the progress stands where the turn is taken
pub stands_taken : (progress : Progress) (conf : Config) (at : ℕ) (call : CurrentCall) → Stands (with_call progress at (Some call)) conf
    → ActsNext conf at (current_of call) → call.stage ≡ stages.AtAct → Stands (with_call progress at (Some call)) (taken conf at)
stands_taken progress conf at call stands next acts =
    stands_like (with_call progress at (Some call)) conf (taken conf at)
    (taken_like conf at (current_of call) (current_is progress conf at call stands next.is_cpu) (ap stage_of acts)) stands

-- a CPU between calls has no item
pub no_item : (progress : Progress) (conf : Config) (at : ℕ) → Stands (with_call progress at None) conf → at < CPUS
    → after_all conf (item conf at) ≡ conf
unfolding item
no_item progress conf at stands within =
    let there : at < length progress.calls = omega (arith, length-set progress.calls at None, stands.nine_calls) in
    let seat = stands.seats at _ None (slice_get-get_or progress.seats at some_seat (omega (arith, stands.nine_seats)))
    (set_here progress.calls at None there) in
    ap (λ (current : Option Current). after_all conf (item_of at conf current)) seat.current
    ∙ ap (λ (pins : List Pin). after_all conf (item_between at conf pins)) (seat.dropped refl)
    ∙ ap (λ (next : Option Given). after_all conf (begins at conf next)) seat.unasked
  where
    some_seat : Seat
    some_seat = record { cpu = record { 0 = 0 }; cspace = record { 0 = 0 }; calls = 0; sections = 0; place = 0; ended = false }

-- a call that is given

module _ (conf : Config) (at number : ℕ) (frame : Frame) (may : MayGive conf at number) where
  abbrev given_conf : Config
  given_conf = given conf at number frame

  given_here : given_conf.cpu at ≡ with_next at number frame (conf.cpu at) (call_of frame)
  given_here = put_here conf.cpu at _

  -- one whose frame is refused has no item
  pub behind_refused : (errno : Errno) → call_of frame ≡ Err errno → behind_item given_conf at ≡ given_conf
  behind_refused errno refused =
      ap (λ (call : Option Given). if is_some call then after_all given_conf (item given_conf at) else given_conf)
      (ap call_of_cpu (given_here ∙ ap (with_next at number frame (conf.cpu at)) refused)
      ∙ ap (λ (current : Option Current). either_call current (conf.cpu at).next) may.between.none
      ∙ ap (either_call None) may.none)

  module _ (call : Call) (is_call : call_of frame ≡ Ok call) where
    abbrev one : Given
    one = record { number = number; frame = frame; call = call }

    next_here : given_conf.cpu at ≡ record (conf.cpu at) { next = Some one }
    next_here = given_here ∙ ap (with_next at number frame (conf.cpu at)) is_call

    behind_is : behind_item given_conf at ≡ after_all given_conf (item given_conf at)
    behind_is =
        ap (λ (call : Option Given). if is_some call then after_all given_conf (item given_conf at) else given_conf)
        (ap call_of_cpu next_here ∙ ap (λ (current : Option Current). either_call current (Some one)) may.between.none)

    item_begins : item given_conf at ≡ begins at given_conf (Some one)
    unfolding item
    item_begins =
        ap (item_of at given_conf) (ap (λ (cpu : Cpu). cpu.current) next_here ∙ may.between.none)
        ∙ ap (item_between at given_conf) (ap (λ (cpu : Cpu). cpu.pins) next_here ∙ may.between.dropped)
        ∙ ap (λ (cpu : Cpu). begins at given_conf cpu.next) next_here

    -- one with looks opens its section
    pub behind_enters : has_needs one ≡ true → behind_item given_conf at ≡ entered given_conf at
    behind_enters looks =
        behind_is
        ∙ ap (after_all given_conf)
        (item_begins ∙ ap (λ (b : Bool). if b then Enter (cpu_no at) ∷ [] else act at given_conf) looks)

    -- one without makes its act
    pub behind_acts : has_needs one ≡ false → behind_item given_conf at ≡ after_all given_conf (act at given_conf)
    behind_acts lookless =
        behind_is
        ∙ ap (after_all given_conf)
        (item_begins ∙ ap (λ (b : Bool). if b then Enter (cpu_no at) ∷ [] else act at given_conf) lookless)

    pub lookless_next : IsSteady conf → at < CPUS → has_needs one ≡ false → ActsNext given_conf at (begun 0 AtAct one)
    lookless_next steady within lookless = record {
      steady = given_steady conf at number frame steady may;
      is_cpu = within;
      is_ready =
          ap ready next_here
          ∙ ap (λ (current : Option Current). call_at_act current (conf.cpu at).pins (Some one)) may.between.none
          ∙ ap (λ (pins : List Pin). call_at_act None pins (Some one)) may.between.dropped
          ∙ ap (λ (looks : Bool). if looks then None else Some (begun 0 AtAct one)) lookless;
    }

-- the number of a CPU's next call

module _ (progress : Progress) (conf : Config) (stands : Stands progress conf) (at : ℕ) (within : at < CPUS) (seat : Seat)
    (seated : slice_get progress.seats at ≡ Some seat) where
  number_is : seat.calls ≡ length (made_by conf at)
  number_is = (stands.seats at seat _ seated (call_there progress conf stands at within)).calls

  -- its seat's count gives it
  pub may_next : MayGive conf at (length (made_by conf at) + 1) → MayGive conf at (seat.calls + 1)
  may_next may = subst (λ (n : ℕ). MayGive conf at (n + 1)) (sym number_is) may

  pub begun_is : (frame : Frame) → behind_item (given conf at (seat.calls + 1) frame) at ≡ begun_frame conf at frame
  begun_is frame = ap (λ (n : ℕ). behind_item (given conf at (n + 1) frame) at) number_is
