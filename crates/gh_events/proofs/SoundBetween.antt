-- The counters that entries keep stay between the sections of their CPUs' calls.
use Rattle.std.proofs.Common.{◌≡◌, ◌==◌, ◌+◌, ◌*◌, ◌<◌, ◌≤◌, ◌∙◌, ◌⊎◌, inl, inr, ℕ, zero, suc, Bool, true, false, List, [], ◌∷◌, ◌++◌, length, take, refl, subst, sym, ap, arith, Option, Some, None, Result, Ok, Err, find, is_some, count_by, option_map, slice_get, if◌then◌else◌}
use Rattle.std.specs.Prelude.{nat_lt, slice_index}
use Rattle.std.specs.List.{list_any}
use Rattle.std.proofs.lemmas.Bool.Decides.{eqb_tells, nat_tests}
use Rattle.std.proofs.lemmas.List.{append-nil}
use Rattle.std.proofs.lemmas.Option.{slice_get_within}
use Rattle.gh_base.specs.declared.call.Call.{Call}
use Rattle.gh_base.specs.declared.errno.Errno.{Errno}
use Rattle.gh_base.specs.declared.frame.Frame.{Frame}
use Rattle.gh_base.specs.declared.frame.Reply.{Reply}
use Rattle.gh_base.specs.declared.limits.TheConstants.{CPUS}
use Rattle.gh_base.specs.declared.mark.End.{End}
use Rattle.gh_base.specs.declared.mark.End.TheVariants as ends
use Rattle.gh_model.proofs.RunLists.{in_turn_snoc, no_item, snoc_cases}
use Rattle.gh_model.specs.Graced.{Fits, finds, granting}
use Rattle.gh_model.specs.History.{Event, counters, reclaims}
use Rattle.gh_model.specs.Legal.{CallIs}
use Rattle.gh_model.specs.Marks.{InTurn, Made, Outcome, Wants, Fails, Grants, Seen, cspace_of, has_looks, place, place_after}
use Rattle.gh_model.specs.Registers.{call_of, needs_of}
use Rattle.gh_model.specs.Rows.{is_object}
use Rattle.gh_model.specs.declared.entry.Entry.{Entry}
use Rattle.gh_model.specs.declared.rows.ObjectRow.{ObjectRow}
use Rattle.gh_model.specs.declared.state.State.{State}
use Rattle.gh_events.specs.CallEvents.{MayLeave, after_leave, at_stage, begun, end_of_looks, finished, found, has_needs, leaves_from, reply_of_looks, with_end, with_left, with_look, with_pin}
use Rattle.gh_events.specs.Calls.{CurrentIs, calls_in, needs_fit, section_behind}
use Rattle.gh_events.specs.Config.{AtAct, Config, Cpu, Current, DeadPin, Failed, Given, Holder, Looked, Reading, Stage, Undone, came_to, entries, has_acted, object_at, present, put, seen_index}
use Rattle.gh_events.specs.Entries.{Allows, index_after, logged}
use Rattle.gh_events.specs.Events.{Possible, after}
use Rattle.gh_events.specs.Grace.{AreBetween, CounterFits, KeptBetween, StandsBetween, granting_at, has_section, holds_grant, is_open_at, section_now}
use Rattle.gh_events.specs.HolderEvents.{kill_failed, with_turn, without_scans}
use Rattle.gh_events.specs.References.{IsGranted}
use Rattle.gh_events.specs.Sound.{IsSound}
use Rattle.gh_events.specs.Start.{MayGive, given, refused_frame, with_next}
use Rattle.gh_events.specs.TurnEvents.{Ending, MayEnd, committed_by, end_call, ending, with_ending}
use Rattle.gh_events.specs.declared.event.Event as machine
use Rattle.gh_events.specs.declared.event.Event.TheVariants.{Enter, Leave, Take, Look, Pin, Unpin, Undo, Kill, Commit, SetCap, Free, Scan, Revive, Join, Split}
use Rattle.gh_events.proofs.ActCalls.{looks_for_needs}
use Rattle.gh_events.proofs.EntryKeeps.{none_of}
use Rattle.gh_events.proofs.EntryMoves.{there_lives}
use Rattle.gh_events.proofs.EventObjects.{life}
use Rattle.gh_events.proofs.Finding.{put_here, put_other}
use Rattle.gh_events.proofs.GoneBehind.{gone_behind}
use Rattle.gh_events.proofs.GraceActs.{set_keeps_none}
use Rattle.gh_events.proofs.GraceCalls.{granting_open, same_some}
use Rattle.gh_events.proofs.GraceCounters.{counters_fit}
use Rattle.gh_events.proofs.GraceEnds.{IsNewCall, end_place, placed_grants, ready_new}
use Rattle.gh_events.proofs.HolderCalls.{none_committed}
use Rattle.gh_events.proofs.NoPins.{misses}
use Rattle.gh_events.proofs.Places.{calls_within}
use Rattle.gh_events.proofs.SoundGrants.{any_none, look_granted, named_by}

-- no entry, nothing to say
pub start_between : (cpus : ℕ → Cpu) → AreBetween [] cpus
start_between cpus at n event seen is = absurd (no_item n event is)

-- a CPU whose finished calls and whose section stay
stays_between : (entry : Entry) (number counter : ℕ) (cpu next : Cpu) → next.made ≡ cpu.made
    → section_now next.current ≡ section_now cpu.current → StandsBetween entry number counter cpu
    → StandsBetween entry number counter next
stays_between entry number counter cpu next made section between = record {
  finished = subst (λ (calls : List Made). InTurn (Fits entry number counter) calls) (sym made) between.finished;
  later = λ some saw. subst (λ (n : ℕ). counter < n) (sym section)
      (between.later (subst (λ (n : ℕ). 0 < n) section some) (subst (λ (calls : List Made). number ≤ place_after calls) made saw));
}

module _ (history : List Event) (at : ℕ) (cpu next : Cpu) where
  kept_between : next.made ≡ cpu.made → section_now next.current ≡ section_now cpu.current
      → KeptBetween history at cpu → KeptBetween history at next
  kept_between made section between = λ n event seen is keeps within.
      stays_between event.entry (n + 1) (slice_index seen at) cpu next made section (between n event seen is keeps within)

-- a change of one CPU's part
part_between : (history : List Event) (cpus : ℕ → Cpu) (at : ℕ) (next : Cpu)
    → KeptBetween history at next → AreBetween history cpus → AreBetween history (put cpus at next)
part_between history cpus at next own between = λ n.
    elim (eqb_tells n at) as (λ _. KeptBetween history n (put cpus at next n)) [
      | inl same ↦
          subst (λ (i : ℕ). KeptBetween history i (put cpus at next i)) (sym same.1)
          (subst (λ (cpu : Cpu). KeptBetween history at cpu) (sym (put_here cpus at next)) own)
      | inr differs ↦
          subst (λ (cpu : Cpu). KeptBetween history n cpu) (sym (put_other cpus at next n differs.0)) (between n)
    ]

-- one that leaves the finished calls and the section
same_between : (history : List Event) (cpus : ℕ → Cpu) (at : ℕ) (next : Cpu)
    → next.made ≡ (cpus at).made → section_now next.current ≡ section_now (cpus at).current
    → AreBetween history cpus → AreBetween history (put cpus at next)
same_between history cpus at next made section between =
    part_between history cpus at next (kept_between history at (cpus at) next made section (between at)) between

-- calls that go on

stage_section : (stage : Stage) (current : Option Current)
    → section_now (option_map (at_stage stage) current) ≡ section_now current
stage_section stage None = refl
stage_section stage (Some call) = refl

look_section : (look : Current → Seen) (current : Option Current)
    → section_now (option_map (λ (call : Current). with_look (look call) call) current) ≡ section_now current
look_section look None = refl
look_section look (Some call) = refl

pin_made : (dead : Bool) (cpu : Cpu) → (with_pin dead cpu).made ≡ cpu.made
pin_made true cpu = refl
pin_made false cpu = refl

pin_section : (dead : Bool) (cpu : Cpu)
    → section_now (with_pin dead cpu).current ≡ section_now cpu.current
pin_section true cpu = stage_section DeadPin cpu.current
pin_section false cpu = stage_section Reading cpu.current

module _ (conf : Config) (at : ℕ) (sound : IsSound conf) where
  -- a call at its begin
  begins_between : (next : Cpu) → next.made ≡ (conf.cpu at).made
      → (section_now next.current ≡ 0) ⊎ (section_now next.current ≡ conf.counter at + 1)
      → KeptBetween conf.history at next
  begins_between next made section = λ n event seen is keeps within. record {
    finished = subst (λ (calls : List Made). InTurn (Fits event.entry (n + 1) (slice_index seen at)) calls) (sym made) (sound.between at n event seen is keeps within).finished;
    later = λ some saw. later_by section some ((sound.grace.each at within).kept_below n event seen is keeps);
  }
    where
      later_by : {counter : ℕ}
          → (section_now next.current ≡ 0) ⊎ (section_now next.current ≡ conf.counter at + 1)
          → 0 < section_now next.current → counter ≤ conf.counter at → counter < section_now next.current
      later_by (inl none) some below = absurd (omega (arith, none, some))
      later_by (inr new) some below = omega (arith, new, below)

  -- what a call in progress was granted lives, so no entry reclaimed it
  module _ (call : Current) (is_current : (conf.cpu at).current ≡ Some call) (n : ℕ) (event : Event)
      (is : slice_get conf.history n ≡ Some event) where
    granted_lives : (serial i : ℕ) (seen : Seen) → reclaims event.entry ≡ Some serial
        → slice_get (granting_at call.stage (came_to call) call.seen) i ≡ Some seen
        → finds serial seen ≡ true → ⊥
    granted_lives serial i seen reclaimed grants names =
        let there : IsGranted conf seen = look_granted conf at call i seen sound is_current grants in
        let lives : is_some (find (is_object there.row.serial.0) (present conf).objects) ≡ true = there_lives (present conf) conf.index (seen_index seen) there.row there.lives_there in
        let same : there.row.serial.0 ≡ serial = there.is_that ∙ named_by serial seen.word.row seen.word.set_at names in
        let gone : life (present conf).objects serial ≡ None =
        gone_behind conf.boot conf.history n event serial sound.valid.boot_valid sound.valid.events_fit is (sound.calls.entries.unreferenced n event is) reclaimed in
        let none : is_some (find (is_object serial) (present conf).objects) ≡ false = none_of (find (is_object serial) (present conf).objects) gone in
        let own : is_some (find (is_object serial) (present conf).objects) ≡ true = subst (λ (k : ℕ). is_some (find (is_object k) (present conf).objects) ≡ true) same lives in
        let never : ⊥ = cc in never

    spares_call : (serial : ℕ) → reclaims event.entry ≡ Some serial → holds_grant serial call ≡ true → ⊥
    spares_call serial reclaimed holds =
        let none : holds_grant serial call ≡ false =
        any_none (finds serial) (granting_at call.stage (came_to call) call.seen)
        (λ i seen grants. misses (finds serial seen) (λ names. granted_lives serial i seen reclaimed grants names)) in
        let never : ⊥ = cc in never

  -- a call that comes to its end: it was granted what it holds, its act, if any, is at the history's
  -- end, and where it has looks it has a section
  pub record EndsNow (call : Current) (end : End) (reply : Reply) : Type 0 where
    pub is_current : (conf.cpu at).current ≡ Some call
    pub grants : granting end call.seen ≡ granting_at call.stage (came_to call) call.seen
    pub placed : (n : ℕ) → place end ≡ Some n → length conf.history ≤ n
    pub entered : has_looks (finished at call end reply) ≡ true → 0 < call.section

  module _ (call : Current) (end : End) (reply : Reply) (ends : EndsNow call end reply) where
    end_fits : (n counter : ℕ) (event : Event) → slice_get conf.history n ≡ Some event
        → StandsBetween event.entry (n + 1) counter (conf.cpu at)
        → Fits event.entry (n + 1) counter (conf.cpu at).made (finished at call end reply)
    end_fits n counter event is between = record {
      granted = λ serial reclaimed granted. absurd (spares_call call ends.is_current n event is serial reclaimed (ap (list_any (finds serial)) (sym ends.grants) ∙ granted));
      ended = λ place_at looked placed below.
          let least : length conf.history ≤ place_at = ends.placed place_at placed in
          let there : n < length conf.history = slice_get_within conf.history n event is in
          absurd (omega (arith, least, there, below));
      later = λ looked saw. subst (λ (k : ℕ). counter < k) own (between.later (subst (λ (k : ℕ). 0 < k) (sym own) (ends.entered looked)) saw);
    }
      where
        own : section_now (conf.cpu at).current ≡ call.section
        own = ap section_now ends.is_current

    pub end_between : KeptBetween conf.history at (with_end (conf.cpu at) (finished at call end reply))
    end_between = λ n event seen is keeps within. record {
      finished = in_turn_snoc (Fits event.entry (n + 1) (slice_index seen at)) (conf.cpu at).made (finished at call end reply)
          (sound.between at n event seen is keeps within).finished
          (end_fits n (slice_index seen at) event is (sound.between at n event seen is keeps within));
      later = λ some saw. absurd (let none : section_now None ≡ 0 = refl in omega (arith, none, some));
    }

-- a call that looks up capabilities has a section
needs_entered : (made : List Made) (given : Given) (section : ℕ) → section ≡ section_behind made given
    → has_needs given ≡ true → 0 < section
needs_entered made given section is needs =
    by_needs (has_needs given) needs is
  where
    by_needs : (some : Bool) → some ≡ true
        → section ≡ (if some then 2 * count_by has_looks made + 1 else 0) → 0 < section
    by_needs true some same = omega (arith, same)
    by_needs false some same = absurd (let never : ⊥ = cc in never)

-- Leave

unplaced : (came : Outcome) (n : ℕ) → place (end_of_looks came) ≡ Some n → ⊥
unplaced (Wants slot need) n is = cc
unplaced (Fails errno) n is = cc
unplaced Grants n is = cc

module _ (conf : Config) (at : ℕ) (sound : IsSound conf) (may : MayLeave conf at) where
  looks_end : is_open_at may.call.stage ≡ true → has_needs may.call.given ≡ true
      → EndsNow conf at sound may.call (end_of_looks (came_to may.call)) (reply_of_looks (came_to may.call))
  looks_end opened needs = record {
    is_current = may.is_current;
    grants = sym (granting_open may.call.stage (came_to may.call) may.call.seen opened);
    placed = λ n is. absurd (unplaced (came_to may.call) n is);
    entered = λ looked. needs_entered (conf.cpu at).made may.call.given may.call.section
        ((sound.calls.calls at).current may.call may.is_current).section needs;
  }

  fits_stage : needs_fit may.call.stage may.call.given ≡ true
  fits_stage = ((sound.calls.calls at).current may.call may.is_current).needs

  leave_by : (stage : Stage) → may.call.stage ≡ stage → leaves_from stage (came_to may.call) ≡ true
      → KeptBetween conf.history at (with_left at (conf.cpu at) may.call stage)
  leave_by Reading is done =
      kept_between conf.history at (conf.cpu at) (with_left at (conf.cpu at) may.call Reading) refl (sym (ap section_now may.is_current)) (sound.between at)
  leave_by Looked is done = absurd (let never : ⊥ = cc in never)
  leave_by DeadPin is done = absurd (let never : ⊥ = cc in never)
  leave_by Undone is done =
      end_between conf at sound may.call (end_of_looks (came_to may.call)) (reply_of_looks (came_to may.call))
      (looks_end (ap is_open_at is) (sym (ap (λ (stage : Stage). needs_fit stage may.call.given) is) ∙ fits_stage))
  leave_by Failed is done =
      end_between conf at sound may.call (end_of_looks (came_to may.call)) (reply_of_looks (came_to may.call))
      (looks_end (ap is_open_at is) (sym (ap (λ (stage : Stage). needs_fit stage may.call.given) is) ∙ fits_stage))
  leave_by AtAct is done = absurd (let never : ⊥ = cc in never)

  leaving : KeptBetween conf.history at (after_leave at (conf.cpu at) (conf.cpu at).current)
  leaving =
      subst (λ (one : Option Current). KeptBetween conf.history at (after_leave at (conf.cpu at) one)) (sym may.is_current)
      (leave_by may.call.stage refl may.is_done)

-- Take

module _ (conf : Config) (at : ℕ) (sound : IsSound conf) (next : Cpu)
    (made : next.made ≡ (conf.cpu at).made) (call : Current) (now : next.current ≡ Some call) where
  taking : ((conf.cpu at).current ≡ Some call) ⊎ IsNewCall (conf.cpu at).current call
      → KeptBetween conf.history at next
  taking (inl same) =
      kept_between conf.history at (conf.cpu at) next made (ap section_now (now ∙ sym same)) (sound.between at)
  taking (inr new) =
      begins_between conf at sound next made (inl (ap section_now now ∙ ap (λ (one : Current). one.section) (sym new.is)))

-- Free behind the act

module _ (conf : Config) (at : ℕ) (sound : IsSound conf) (may : MayEnd conf at) where
  act_ends : (end : End) (reply : Reply) → place end ≡ Some (entries conf)
      → EndsNow conf at sound may.call end reply
  act_ends end reply placed =
      let now : CurrentIs conf.boot conf.history conf.index conf.dead at (conf.cpu at) may.call = (sound.calls.calls at).current may.call may.in_act.is_current in
      let came : came_to may.call ≡ Grants = ((sound.valid.cpus at).current may.call may.in_act.is_current).granted may.in_act.at_stage in
      let needs : has_looks (finished at may.call end reply) ≡ has_needs may.call.given =
      looks_for_needs conf.boot conf.history (cspace_of conf.boot at) (place_after (conf.cpu at).made) (needs_of may.call.given.call) may.call.seen came now.looks in
      record {
        is_current = may.in_act.is_current;
        grants = placed_grants end (entries conf) may.call.seen placed ∙ sym (ap (λ (stage : Stage). granting_at stage (came_to may.call) may.call.seen) may.in_act.at_stage);
        placed = λ n is. let same : Some (entries conf) ≡ Some n = sym placed ∙ is in let number : entries conf ≡ n = same_some (entries conf) n same in omega (arith, number);
        entered = λ looked. needs_entered (conf.cpu at).made may.call.given may.call.section now.section (sym needs ∙ looked);
      }

  ends_by : (end : Option Ending) → ending conf at may.holder may.call ≡ end
      → KeptBetween conf.history at (with_ending at (conf.cpu at) may.call end)
  ends_by None is = sound.between at
  ends_by (Some one) is =
      end_between conf at sound may.call one.end one.reply (act_ends one.end one.reply (end_place conf at may.holder may.call one is))

  end_is : end_call conf at conf.turn (conf.cpu at).current
      ≡ with_ending at (conf.cpu at) may.call (ending conf at may.holder may.call)
  end_is =
      ap (λ (turn : Option Holder). end_call conf at turn (conf.cpu at).current) may.has_turn.turn
      ∙ ap (end_call conf at (Some may.holder)) may.in_act.is_current

  ending_now : KeptBetween conf.history at (end_call conf at conf.turn (conf.cpu at).current)
  ending_now =
      subst (λ (cpu : Cpu). KeptBetween conf.history at cpu) (sym end_is) (ends_by (ending conf at may.holder may.call) refl)

-- Commit and SetCap

-- what holds of each item in turn holds of the first ones
in_turn_front : {X : Type 0} (P : List X → X → Type 0) (items : List X) (i : ℕ) → InTurn P items
    → (j : ℕ) (item : X) → slice_get (take i items) j ≡ Some item → P (take j (take i items)) item
in_turn_front P [] zero each j item is = absurd (no_item j item is)
in_turn_front P [] (suc i) each j item is = absurd (no_item j item is)
in_turn_front P (first ∷ items) zero each j item is = absurd (no_item j item is)
in_turn_front P (first ∷ items) (suc i) each zero item is = each zero item is
in_turn_front P (first ∷ items) (suc i) each (suc j) item is =
    in_turn_front (λ front one. P (first ∷ front) one) items i (λ k one there. each (suc k) one there) j item is

-- without looks there is no grant
none_granting : (end : End) → granting end [] ≡ []
none_granting ends.Frame = refl
none_granting ends.Refused = refl
none_granting ends.Dead = refl
none_granting (ends.Act at) = refl
none_granting (ends.Short at held) = refl
none_granting (ends.Entry number) = refl

granted_looked : (serial : ℕ) (end : End) (seen : List Seen)
    → list_any (finds serial) (granting end seen) ≡ true → nat_lt 0 (length seen) ≡ true
granted_looked serial end [] holds =
    let none : list_any (finds serial) (granting end []) ≡ false = ap (list_any (finds serial)) (none_granting end) in
    absurd (let never : ⊥ = cc in never)
granted_looked serial end (one ∷ seen) holds = grind (arith, nat_tests)

module _ (conf : Config) (sound : IsSound conf) (entry : Entry) (call : Current)
    (not_acted : (holder : Holder) → conf.turn ≡ Some holder → has_acted holder ≡ false)
    (fits : (seen : List ℕ) (cpu : ℕ) → counters entry ≡ Some seen → cpu < CPUS → CounterFits conf entry cpu (slice_index seen cpu)) where
  only_finished : (at : ℕ) → calls_in conf at ≡ (conf.cpu at).made
  only_finished at =
      ap (λ (more : List Made). (conf.cpu at).made ++ more)
      (none_committed conf.boot conf.history conf.turn at (conf.cpu at).current not_acted)
      ∙ append-nil (conf.cpu at).made

  finished_are : (at : ℕ) → InTurn (CallIs conf.boot conf.history at) (conf.cpu at).made
  finished_are at =
      subst (λ (calls : List Made). InTurn (CallIs conf.boot conf.history at) calls) (only_finished at) (sound.calls.calls at).finished

  entered_made : (at i : ℕ) (made : Made) → slice_get (conf.cpu at).made i ≡ Some made
      → has_looks made ≡ true → has_section made ≡ true
  entered_made at i made is looked =
      let call_is : CallIs conf.boot conf.history at (take i (conf.cpu at).made) made = finished_are at i made is in
      by_looks (has_looks made) looked call_is.section
    where
      by_looks : (looks : Bool) → looks ≡ true
          → made.mark.section ≡ (if looks then 2 * count_by has_looks (take i (conf.cpu at).made) + 1 else 0)
          → nat_lt 0 made.mark.section ≡ true
      by_looks true some same = grind (arith, nat_tests)
      by_looks false some same = absurd (let never : ⊥ = cc in never)

  place_within : (at i : ℕ) → place_after (take i (conf.cpu at).made) ≤ length conf.history
  place_within at i =
      calls_within conf.boot conf.history at (take i (conf.cpu at).made)
      (in_turn_front (CallIs conf.boot conf.history at) (conf.cpu at).made i (finished_are at))

  new_between : (at : ℕ) (seen : List ℕ) → counters entry ≡ Some seen → at < CPUS
      → StandsBetween entry (length conf.history + 1) (slice_index seen at) (conf.cpu at)
  new_between at seen keeps within =
      let fit : CounterFits conf entry at (slice_index seen at) = fits seen at keeps within in
      record {
        finished = λ i made is. record {
          granted = λ serial reclaimed holds. fit.granted i serial made is reclaimed holds (entered_made at i made is (granted_looked serial made.mark.end made.seen holds));
          ended = λ place_at looked placed below. fit.ended i made is (ap is_some placed) (entered_made at i made is looked);
          later = λ looked saw. let most : place_after (take i (conf.cpu at).made) ≤ length conf.history = place_within at i in absurd (omega (arith, most, saw));
        };
        later = λ some saw.
            let most : place_after (conf.cpu at).made ≤ length conf.history = calls_within conf.boot conf.history at (conf.cpu at).made (finished_are at) in
            absurd (omega (arith, most, saw));
      }

  more_by : (at n : ℕ) (event : Event) (seen : List ℕ)
      → ((n < length conf.history) × (slice_get conf.history n ≡ Some event)) ⊎ ((n ≡ length conf.history) × (logged entry call ≡ event))
      → counters event.entry ≡ Some seen → at < CPUS
      → StandsBetween event.entry (n + 1) (slice_index seen at) (conf.cpu at)
  more_by at n event seen (inl old) keeps within = sound.between at n event seen old.1 keeps within
  more_by at n event seen (inr new) keeps within =
      subst (λ (one : Event). StandsBetween one.entry (n + 1) (slice_index seen at) (conf.cpu at)) new.1
      (subst (λ (k : ℕ). StandsBetween entry (k + 1) (slice_index seen at) (conf.cpu at)) (sym new.0)
      (new_between at seen (ap (λ (one : Event). counters one.entry) new.1 ∙ keeps) within))

  -- one more entry, whose counters fit
  more_between : AreBetween (conf.history ++ logged entry call ∷ []) conf.cpu
  more_between at n event seen is keeps within =
      more_by at n event seen (snoc_cases conf.history (logged entry call) event n is) keeps within

abbrev Between : Config → Type 0
Between conf = AreBetween conf.history conf.cpu

committed_between : (conf : Config) (at : ℕ) (entry : Entry) (index : State → ℕ → ℕ) (holder : Holder)
    (call : Current) → Allows conf at entry holder call → IsSound conf
    → ((seen : List ℕ) (cpu : ℕ) → counters entry ≡ Some seen → cpu < CPUS → CounterFits conf entry cpu (slice_index seen cpu))
    → Between (committed_by conf entry index (conf.cpu at).current)
committed_between conf at entry index holder call allows sound fits =
    subst (λ (one : Option Current). Between (committed_by conf entry index one)) (sym allows.in_act.is_current)
    (more_between conf sound entry call not_acted fits)
  where
    not_acted : (other : Holder) → conf.turn ≡ Some other → has_acted other ≡ false
    not_acted other is =
        let same : Some holder ≡ Some other = sym allows.has_turn.turn ∙ is in
        let that : holder ≡ other = cc in
        subst (λ (one : Holder). has_acted one ≡ false) that allows.not_acted

no_counters : (conf : Config) (entry : Entry) → counters entry ≡ None → (seen : List ℕ) (cpu : ℕ)
    → counters entry ≡ Some seen → cpu < CPUS → CounterFits conf entry cpu (slice_index seen cpu)
no_counters conf entry none seen cpu keeps within = absurd (let never : ⊥ = cc in never)

-- Kill

failed_between : (conf : Config) (object : ℕ) (found : Option ObjectRow) → Between conf
    → Between (kill_failed conf object found)
failed_between conf object None between = between
failed_between conf object (Some row) between = between

killed_between : (conf : Config) (object : ℕ) (none : Bool) → Between conf
    → Between (if none then record (with_turn without_scans conf) { dead = put conf.dead object true }
    else kill_failed conf object (object_at (present conf) conf.index object))
killed_between conf object true between = between
killed_between conf object false between =
    failed_between conf object (object_at (present conf) conf.index object) between

-- every event
pub event_between : (conf : Config) (event : machine.Event) → IsSound conf → Possible conf event
    → Between (after conf event)
event_between conf (Enter cpu) sound may =
    part_between conf.history conf.cpu cpu.0 _
    (begins_between conf cpu.0 sound _ refl (inr (ap (λ (next : Option Given). section_now (option_map (begun (conf.counter cpu.0 + 1) Reading) next)) may.next)))
    sound.between
event_between conf (Leave cpu) sound may =
    part_between conf.history conf.cpu cpu.0 _ (leaving conf cpu.0 sound may) sound.between
event_between conf (Take cpu) sound may =
    part_between conf.history conf.cpu cpu.0 _
    (taking conf cpu.0 sound _ refl may.call may.is_ready (ready_new (conf.cpu cpu.0).current (conf.cpu cpu.0).pins (conf.cpu cpu.0).next may.call may.is_ready))
    sound.between
event_between conf (Look cpu slot) sound may =
    same_between conf.history conf.cpu cpu.0 _ refl (look_section (found conf cpu.0 slot) (conf.cpu cpu.0).current) sound.between
event_between conf (Pin cpu object false) sound may =
    same_between conf.history conf.cpu cpu.0 _ (pin_made (conf.dead object.0) (conf.cpu cpu.0)) (pin_section (conf.dead object.0) (conf.cpu cpu.0)) sound.between
event_between conf (Pin cpu object true) sound may = sound.between
event_between conf (Unpin cpu object false) sound may =
    same_between conf.history conf.cpu cpu.0 _ refl refl sound.between
event_between conf (Unpin cpu object true) sound may = sound.between
event_between conf (Undo cpu object) sound may =
    same_between conf.history conf.cpu cpu.0 _ refl (stage_section Undone (conf.cpu cpu.0).current) sound.between
event_between conf (Kill cpu object) sound may =
    killed_between conf object.0 (conf.count object.0 == 0) sound.between
event_between conf (Commit cpu entry) sound may =
    committed_between conf cpu.0 entry (λ new. conf.index) may.holder may.call may.allows sound
    (λ seen at keeps within. counters_fit conf cpu.0 entry seen at sound.grace may keeps within)
event_between conf (SetCap cpu entry space slot word) sound may =
    committed_between conf cpu.0 entry (λ new. index_after conf new word) may.holder may.call may.allows sound
    (no_counters conf entry (set_keeps_none conf cpu.0 entry space.0 slot word may))
event_between conf (Free cpu true) sound may =
    part_between conf.history conf.cpu cpu.0 _ (ending_now conf cpu.0 sound may) sound.between
event_between conf (Free cpu false) sound may = sound.between
event_between conf (Scan cpu of_cpu) sound may = sound.between
event_between conf (Revive cpu object count) sound may = sound.between
event_between conf (Join cpu) sound may = sound.between
event_between conf (Split cpu) sound may = sound.between

-- a call that a CPU is given

frame_fits : (entry : Entry) (n counter at number : ℕ) (frame : Frame) (errno : Errno) (front : List Made)
    → Fits entry n counter front (refused_frame at number frame errno)
frame_fits entry n counter at number frame errno front = record {
  granted = λ serial reclaimed holds. absurd (let never : ⊥ = cc in never);
  ended = λ place_at looked. absurd (let never : ⊥ = cc in never);
  later = λ looked. absurd (let never : ⊥ = cc in never);
}

module _ (history : List Event) (at number : ℕ) (frame : Frame) (cpu : Cpu) (none : cpu.current ≡ None) where
  given_by : (shape : Result Call Errno) → KeptBetween history at cpu
      → KeptBetween history at (with_next at number frame cpu shape)
  given_by (Ok call) between =
      kept_between history at cpu (with_next at number frame cpu (Ok call)) refl refl between
  given_by (Err errno) between = λ n event seen is keeps within. record {
    finished = in_turn_snoc (Fits event.entry (n + 1) (slice_index seen at)) cpu.made (refused_frame at number frame errno)
        (between n event seen is keeps within).finished
        (frame_fits event.entry (n + 1) (slice_index seen at) at number frame errno cpu.made);
    later = λ some saw. let zero_now : section_now cpu.current ≡ 0 = ap section_now none in absurd (omega (arith, zero_now, some));
  }

pub given_between : (conf : Config) (at number : ℕ) (frame : Frame) → MayGive conf at number
    → Between conf → Between (given conf at number frame)
given_between conf at number frame may between =
    part_between conf.history conf.cpu at _
    (given_by conf.history at number frame (conf.cpu at) may.between.none (call_of frame) (between at)) between
