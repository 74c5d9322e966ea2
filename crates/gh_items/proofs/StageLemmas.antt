-- A call that goes on at another stage: behind a pin, an undo, or the end of its section.
use Rattle.std.proofs.Common.{◌≡◌, ◌<◌, ◌∙◌, ℕ, Bool, true, false, List, ◌++◌, map, refl, sym, ap, Option, Some, None, is_some, option_map, if◌then◌else◌}
use Rattle.std.specs.List.{last_or}
use Rattle.std.specs.Option.{option_map_or}
use Rattle.gh_base.specs.declared.limits.TheConstants.{CPUS}
use Rattle.gh_events.specs.CallEvents.{after_leave, at_stage as staged, left, pin_of_call, pinned, undone, with_left, with_pin}
use Rattle.gh_events.specs.Config.{Config, Current, DeadPin, Reading, Undone, is_killed, present, seen_index}
use Rattle.gh_events.specs.References.{IsGranted, IsRow, grants_at}
use Rattle.gh_core.specs.Running.{current_of, seen_of, stage_of}
use Rattle.gh_events.specs.Sound.{IsSound}
use Rattle.gh_core.specs.declared.current.CallStage.{CallStage}
use Rattle.gh_core.specs.declared.current.CallStage.TheVariants as stages
use Rattle.gh_core.specs.declared.current.CurrentCall.{CurrentCall}
use Rattle.gh_core.specs.declared.current.SeenLook.{SeenLook}
use Rattle.gh_events.proofs.Finding.{put_here, put_other}
use Rattle.gh_events.proofs.Living.{LivesAt, lives_there}
use Rattle.gh_items.specs.Stands.{Stands, at_stage, pin_stage, with_call}
use Rattle.gh_items.specs.declared.progress.Progress.{Progress}
use Rattle.gh_items.proofs.SeatLemmas.{current_is, stage_stands}
use Rattle.gh_model.specs.Act.{granted}
use Rattle.gh_model.specs.Graced.{retirement}
use Rattle.gh_model.specs.Marks.{Seen}
use Rattle.gh_model.specs.Reads.{retired_counters}
use Rattle.gh_model.specs.Rows.{object_row}
use Rattle.gh_model.specs.declared.rows.ObjectRow.{ObjectRow}
use Rattle.gh_model.specs.declared.state.State.{State}

-- dead words

-- while the turn is free, the word of a live object is dead just where it is retired
word_dead : (conf : Config) → IsSound conf → conf.turn ≡ None → (row : ObjectRow) → IsRow (present conf) row
    → is_some row.retired ≡ conf.dead (conf.index row.serial.0)
word_dead conf sound free row is = by_row row.retired refl (conf.dead (conf.index row.serial.0)) refl
  where
    never_killed : (killed : Bool) → option_map_or (is_killed conf.dead conf.index) (object_row (present conf) row.serial.0) false ≡ killed → killed ≡ false
    never_killed false was = refl
    never_killed true was =
        let held : is_some conf.turn ≡ true = sound.grace.held row.serial.0 was in
        let none : is_some conf.turn ≡ false = ap is_some free in
        absurd (let never : ⊥ = cc in never)

    by_row : (retired : Option (List ℕ)) → row.retired ≡ retired → (dead : Bool) → conf.dead (conf.index row.serial.0) ≡ dead → is_some retired ≡ dead
    by_row (Some seen) retired dead was = sym (sound.references.placed.retired row is (ap is_some retired)) ∙ was
    by_row None retired false was = refl
    by_row None retired true was =
        let live : is_killed conf.dead conf.index row ≡ true =
        ap (λ (o : Option (List ℕ)). if is_some o then false else conf.dead (conf.index row.serial.0)) retired ∙ was in
        let killed : option_map_or (is_killed conf.dead conf.index) (object_row (present conf) row.serial.0) false ≡ true =
        ap (λ (o : Option ObjectRow). option_map_or (is_killed conf.dead conf.index) o false) is ∙ live in
        let none : true ≡ false = sym killed ∙ never_killed (option_map_or (is_killed conf.dead conf.index) (object_row (present conf) row.serial.0) false) refl in
        absurd (let never : ⊥ = cc in never)

-- so is the word at the index of what a look granted
granted_dead : (conf : Config) → IsSound conf → conf.turn ≡ None → (seen : Seen) → IsGranted conf seen
    → is_some (retired_counters (present conf) (granted seen.word).0) ≡ conf.dead (seen_index seen)
granted_dead conf sound free seen is =
    let there : LivesAt (present conf) conf.index (seen_index seen) is.row.serial.0 =
    lives_there (present conf) conf.index (seen_index seen) is.row is.lives_there in
    let found : object_row (present conf) (granted seen.word).0 ≡ Some there.row =
    ap (object_row (present conf)) (sym is.is_that ∙ sym there.same) ∙ there.is in
    ap (λ (o : Option ObjectRow). is_some (retirement o)) found ∙ word_dead conf sound free there.row there.is ∙ ap conf.dead there.there

module _ (progress : Progress) (conf : Config) (at : ℕ) (call : CurrentCall) (stands : Stands (with_call progress at (Some call)) conf)
    (within : at < CPUS) where
  now : (conf.cpu at).current ≡ Some (current_of call)
  now = current_is progress conf at call stands within

  -- a pin
  module _ (sound : IsSound conf) (free : conf.turn ≡ None) (looked : call.stage ≡ stages.Looked) (last : SeenLook)
      (is_last : last_or None (map seen_of call.seen) ≡ Some (seen_of last)) where
    abbrev object : ℕ
    object = seen_index (seen_of last)

    pub dead_is : (found : Option (List ℕ)) → found ≡ retired_counters progress.plain (granted last.word).0 → is_some found ≡ conf.dead object
    dead_is found is =
        ap is_some is ∙ ap (λ (s : State). is_some (retired_counters s (granted last.word).0)) stands.state
        ∙ granted_dead conf sound free (seen_of last)
        ((sound.references.holds at).granted (current_of call) (seen_of last)
        (record { is_current = now; grants = ap (λ (stage : CallStage). grants_at (stage_of stage)) looked }) is_last)

    pub pin_stands : (dead : Bool) → dead ≡ conf.dead object
        → Stands (with_call progress at (Some (at_stage call (pin_stage dead)))) (pinned conf at object)
    pin_stands dead is = by_dead dead is
      where
        here : (dead : Bool) → dead ≡ conf.dead object → (pinned conf at object).cpu at ≡ with_pin dead (conf.cpu at)
        here dead is = put_here conf.cpu at _ ∙ ap (λ (b : Bool). with_pin b (conf.cpu at)) (sym is)

        by_dead : (dead : Bool) → dead ≡ conf.dead object
            → Stands (with_call progress at (Some (at_stage call (pin_stage dead)))) (pinned conf at object)
        by_dead true is =
            stage_stands progress conf at call stands within stages.DeadPin conf.counter _ _ (conf.cpu at).pins (λ n differs. put_other conf.cpu at _ n differs)
            (here true is ∙ ap (λ (c : Option Current). record (conf.cpu at) { current = option_map (staged DeadPin) c }) now)
        by_dead false is =
            stage_stands progress conf at call stands within stages.Reading conf.counter _ _ ((conf.cpu at).pins ++ pin_of_call (conf.cpu at).current)
            (λ n differs. put_other conf.cpu at _ n differs)
            (here false is
            ∙ ap (λ (c : Option Current). record (conf.cpu at) { current = option_map (staged Reading) c; pins = (conf.cpu at).pins ++ pin_of_call (conf.cpu at).current }) now)

  -- an undo
  pub undo_stands : (index : ℕ) → Stands (with_call progress at (Some (at_stage call stages.Undone))) (undone conf at index)
  undo_stands index =
      stage_stands progress conf at call stands within stages.Undone conf.counter _ _ (conf.cpu at).pins (λ n differs. put_other conf.cpu at _ n differs)
      (put_here conf.cpu at _ ∙ ap (λ (c : Option Current). record (conf.cpu at) { current = option_map (staged Undone) c }) now)

  -- the end of the section
  pub leave_stands : call.stage ≡ stages.Reading → Stands (with_call progress at (Some (at_stage call stages.AtAct))) (left conf at)
  leave_stands reading =
      stage_stands progress conf at call stands within stages.AtAct _ conf.count _ (conf.cpu at).pins (λ n differs. put_other conf.cpu at _ n differs)
      (put_here conf.cpu at _ ∙ ap (after_leave at (conf.cpu at)) now
      ∙ ap (λ (stage : CallStage). with_left at (conf.cpu at) (current_of call) (stage_of stage)) reading)
