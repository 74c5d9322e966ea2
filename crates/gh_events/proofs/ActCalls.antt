-- An act's entry keeps sound calls: the holder's call comes to its end with it.
use Rattle.std.proofs.Common.{◌≡◌, ◌==◌, ◌+◌, ◌*◌, ◌-◌, ◌<◌, ◌≤◌, ◌∙◌, ◌⊎◌, inl, inr, ℕ, suc, Bool, true, false, List, [], ◌∷◌, ◌++◌, length, map, refl, subst, sym, ap, arith, Some, None, Result, count_by, find, is_some, option_map, slice_get, take, if◌then◌else◌}
use Rattle.std.specs.Prelude.{◌&&◌, nat_lt}
use Rattle.std.specs.List.{list_any}
use Rattle.std.proofs.lemmas.Bool.Decides.{eqb_tells, nat_tests}
use Rattle.std.proofs.lemmas.List.{length-append}
use Rattle.std.proofs.lemmas.Option.{slice_get-map}
use Rattle.gh_base.specs.declared.cap_word.Need.{Need}
use Rattle.gh_base.specs.declared.errno.Errno.{Errno}
use Rattle.gh_base.specs.declared.call.Call.{Call}
use Rattle.gh_base.specs.declared.frame.Reply.{Reply}
use Rattle.gh_base.specs.declared.ids.CpuNo.{CpuNo}
use Rattle.gh_base.specs.declared.mark.End.TheVariants as ends
use Rattle.gh_model.specs.Act.{Done, counted, granted, grants_of}
use Rattle.gh_model.specs.Changes.{changed_all}
use Rattle.gh_model.specs.Decide.{decision, has_moved, verdict}
use Rattle.gh_model.specs.History as history
use Rattle.gh_model.specs.Legal.{CallIs, FrameIs, IsEndOf, IsEntry, IsNumbered, LookIs}
use Rattle.gh_model.specs.Marks.{Grants, InTurn, Made, Seen, Wants, cspace_of, has_looks, outcome, place_after, place_after_looks, word_of}
use Rattle.gh_model.specs.Registers.{needs_of}
use Rattle.gh_model.specs.Rows.{is_object}
use Rattle.gh_model.specs.declared.change.Decision.{Decision}
use Rattle.gh_model.specs.declared.change.Decision.TheVariants.{Refuse, Unfinished, Make}
use Rattle.gh_model.specs.declared.entry.Entry.TheVariants.{Acted}
use Rattle.gh_model.specs.declared.state.State.{State}
use Rattle.gh_model.specs.declared.word.Word.{Word}
use Rattle.gh_model.proofs.Looks.{words_for}
use Rattle.gh_model.proofs.RunLists.{in_turn_snoc, slice_get_seam, snoc_cases, take_all}
use Rattle.gh_model.proofs.Stays.{calls_stay, look_stays}
use Rattle.gh_events.specs.CallEvents.{finished}
use Rattle.gh_events.specs.Calls.{CurrentIs, acted_call, as_made, last_ending}
use Rattle.gh_events.specs.Config.{AtAct, Config, Current, Holder, came_to, is_acted, judged, pin_of, present, seen_index}
use Rattle.gh_events.specs.Entries.{IsActOf, logged, next_state}
use Rattle.gh_events.specs.References.{IsPinned}
use Rattle.gh_events.specs.TurnEvents.{acted_ending}
use Rattle.gh_events.proofs.CallMoves.{ends_more, only_made}
use Rattle.gh_events.proofs.CallsGoOn.{its_pinned}
use Rattle.gh_events.proofs.EntryCalls.{Before, Entering, EntryGoes, at_end, calls_behind, front, holder_behind, log_behind, made_before, now_passes}
use Rattle.gh_events.proofs.EntryKeeps.{none_of}
use Rattle.gh_events.proofs.EntryMoves.{there_lives}
use Rattle.gh_events.proofs.EventObjects.{life}
use Rattle.gh_events.proofs.Finding.{same_number}
use Rattle.gh_events.proofs.GoneBehind.{gone_behind}
use Rattle.gh_events.proofs.GraceReclaim.{replay_more}
use Rattle.gh_events.proofs.Places.{calls_within, looks_within}

-- a call with its grants has looks where it has needs
pub looks_for_needs : (boot : State) (events : List history.Event) (cspace last : ℕ)
    (needs : List (ℕ × Need)) (seen : List Seen) → outcome needs (map word_of seen) ≡ Grants
    → InTurn (LookIs boot events cspace last needs) seen
    → nat_lt 0 (length seen) ≡ nat_lt 0 (length needs)
looks_for_needs boot events cspace last [] [] came looks = refl
looks_for_needs boot events cspace last [] (one ∷ seen) came looks =
    let look : LookIs boot events cspace last [] [] one = looks 0 one refl in
    let wants : Grants ≡ Wants one.look.slot look.need = look.asked in
    absurd (let never : ⊥ = cc in never)
looks_for_needs boot events cspace last (need ∷ needs) [] came looks =
    let wants : Wants need.0 need.1 ≡ Grants = came in
    absurd (let never : ⊥ = cc in never)
looks_for_needs boot events cspace last (need ∷ needs) (one ∷ seen) came looks =
    some_below (length seen) ∙ sym (some_below (length needs))
  where
    some_below : (n : ℕ) → nat_lt 0 (suc n) ≡ true
    some_below n = grind (arith, nat_tests)

-- no slot is taken behind an act that is done
done_taken : (s new : State) (reply : Reply) (decided : Decision) → verdict s decided ≡ Done new reply
    → new.taken ≡ []
done_taken s new reply (Refuse errno) is = absurd (let never : ⊥ = cc in never)
done_taken s new reply Unfinished is = absurd (let never : ⊥ = cc in never)
done_taken s new reply (Make changes made) is =
    let same : counted (changed_all s changes) ≡ new = cc in
    ap (λ (one : State). one.taken) (sym same)

both_hold : (here acted : Bool) (calls : List Made) → here ≡ true → acted ≡ true
    → (if here && acted then calls else []) ≡ calls
both_hold true true calls first second = refl
both_hold true false calls first second = absurd (let never : ⊥ = cc in never)
both_hold false acted calls first second = absurd (let never : ⊥ = cc in never)

-- the calls before the entry stay legal
pub old_calls : (e : Entering) → Before e → (n : ℕ)
    → InTurn (CallIs e.conf.boot (log_behind e) n) (e.conf.cpu n).made
old_calls e before n =
    calls_stay e.conf.history (log_behind e) (front e) e.conf.boot n (e.conf.cpu n).made
    (subst (λ (calls : List Made). InTurn (CallIs e.conf.boot e.conf.history n) calls)
    (made_before e.conf e.holder before.allows.has_turn.turn before.allows.not_acted n) (before.sound.calls n).finished)

-- and numbered
pub old_numbers : (e : Entering) → Before e → (n : ℕ) → InTurn IsNumbered (e.conf.cpu n).made
old_numbers e before n =
    subst (λ (calls : List Made). InTurn IsNumbered calls)
    (made_before e.conf e.holder before.allows.has_turn.turn before.allows.not_acted n) (before.sound.calls n).numbered

module _ (conf : Config) (at : ℕ) (cpu : CpuNo) (number : ℕ) (holder : Holder) (call : Current)
    (index : ℕ → ℕ) where
  abbrev pub act : Entering
  act = record {
    conf = conf;
    at = at;
    entry = Acted cpu number;
    holder = holder;
    call = call;
    index = index;
  }

  abbrev longer : List history.Event
  longer = conf.history ++ logged (Acted cpu number) call ∷ []

  abbrev before_it : List Made
  before_it = (conf.cpu at).made

  module _ (before : Before act) where
    allowed : IsActOf conf holder call cpu.0 number
    allowed = before.allows.allowed

    own : cpu.0 ≡ at
    own = allowed.its_cpu ∙ before.allows.has_turn.its_cpu

    is_done : judged (present conf) at call ≡ Done allowed.new allowed.reply
    is_done =
        subst (λ (n : ℕ). judged (present conf) n call ≡ Done allowed.new allowed.reply) own allowed.is_done

    counts : length longer ≡ length conf.history + 1
    counts = length-append conf.history (logged (Acted cpu number) call ∷ [])

    abbrev made_now : Made
    made_now = finished at call (ends.Entry (length longer)) allowed.reply

    now : CurrentIs conf.boot conf.history conf.index conf.dead at (conf.cpu at) call
    now = (before.sound.calls at).current call before.allows.in_act.is_current

    came : came_to call ≡ Grants
    came = ((before.fit.cpus at).current call before.allows.in_act.is_current).granted before.allows.in_act.at_stage

    -- the calls behind it

    ending_is : last_ending conf.boot longer at call
        ≡ Some (record { end = ends.Entry (length longer); reply = allowed.reply })
    ending_is =
        let one : length longer ≡ length conf.history + 1 = counts in
        let place : length longer - 1 ≡ length conf.history = omega (arith, one) in
        ap (λ (s : State). acted_ending (length longer) (judged s at call)) (ap (history.state_at conf.boot longer) place ∙ at_end act)
        ∙ ap (acted_ending (length longer)) is_done

    acted_here : acted_call conf.boot longer (Some (holder_behind act)) at (conf.cpu at).current
        ≡ made_now ∷ []
    acted_here =
        ap (acted_call conf.boot longer (Some (holder_behind act)) at) before.allows.in_act.is_current
        ∙ both_hold (holder.cpu == at) (list_any is_acted (holder.entries ++ Acted cpu number ∷ [])) (as_made at call (last_ending conf.boot longer at call))
        (subst (λ (n : ℕ). (n == at) ≡ true) (sym before.allows.has_turn.its_cpu) (same_number at)) (now_passes is_acted holder.entries (Acted cpu number) refl)
        ∙ ap (as_made at call) ending_is

    calls_here : calls_behind act at ≡ before_it ++ made_now ∷ []
    calls_here = ap (λ (more : List Made). before_it ++ more) acted_here

    calls_there : (n : ℕ) → (n == at) ≡ false → calls_behind act n ≡ (conf.cpu n).made
    calls_there n other = only_made conf.boot longer n (Some (holder_behind act)) (conf.cpu n) (λ one is. not_it one is)
      where
        apart : (a b : ℕ) → (a == b) ≡ false → (b == a) ≡ false
        apart a b differs = grind (arith, nat_tests)

        not_it : (one : Holder) → Some (holder_behind act) ≡ Some one → (one.cpu == n) ≡ false
        not_it one is =
            let same : holder_behind act ≡ one = cc in
            let number_is : at ≡ one.cpu = sym before.allows.has_turn.its_cpu ∙ ap (λ (h : Holder). h.cpu) same in
            subst (λ (i : ℕ). (i == n) ≡ false) number_is (apart n at other)

    -- its entry

    abbrev logged_as : ℕ → ℕ → List Word → history.Event
    logged_as n of words = record {
      entry = Acted (record { 0 = n }) of;
      call = call.given.call;
      bytes = call.given.frame.bytes;
      words = words;
    }

    looks_below : (i : ℕ) (seen : Seen) → slice_get call.seen i ≡ Some seen
        → seen.look.place ≤ length conf.history
    looks_below i seen is = (now.looks i seen is).within

    event_is : logged (Acted cpu number) call ≡ history.event_of (length longer) call.given.call made_now
    event_is =
        ap (λ (n : ℕ). logged_as n number (map word_of call.seen)) own
        ∙ ap (λ (n : ℕ). logged_as at n (map word_of call.seen)) allowed.its_number
        ∙ ap (logged_as at call.given.number) (sym (words_for (length longer) call.seen below))
      where
        below : (i : ℕ) (seen : Seen) → slice_get call.seen i ≡ Some seen → seen.look.place < length longer
        below i seen is = omega (arith, looks_below i seen is, counts)

    new_is : next_state conf call (Acted cpu number) ≡ allowed.new
    new_is = rw (allowed.may_act, allowed.is_done) refl

    state_is : history.state_at conf.boot longer (length longer) ≡ allowed.new
    state_is =
        ap (history.replay conf.boot) (take_all longer)
        ∙ replay_more conf.boot conf.history (logged (Acted cpu number) call) ∙ new_is

    place_below : place_after_looks (place_after before_it) call.seen ≤ length conf.history
    place_below =
        looks_within (length conf.history) (place_after before_it) call.seen
        (calls_within conf.boot conf.history at before_it
        (subst (λ (calls : List Made). InTurn (CallIs conf.boot conf.history at) calls)
        (made_before conf holder before.allows.has_turn.turn before.allows.not_acted at) (before.sound.calls at).finished)) looks_below

    -- what its looks granted lives: it has its pins
    pinned_lives : (i : ℕ) (seen : Seen) → slice_get call.seen i ≡ Some seen
        → life (present conf).objects (granted seen.word).0 ≡ None → ⊥
    pinned_lives i seen is gone =
        let pins : slice_get (conf.cpu at).pins i ≡ Some (pin_of seen) =
        ap (λ (pins : List _). slice_get pins i) (its_pinned conf at before.sound call AtAct before.allows.in_act)
        ∙ slice_get-map pin_of call.seen i ∙ ap (option_map pin_of) is in
        let pinned : IsPinned conf (pin_of seen) = (before.refs.holds at).pinned i (pin_of seen) pins in
        let there : is_some (find (is_object (granted seen.word).0) (present conf).objects) ≡ true =
        subst (λ (n : ℕ). is_some (find (is_object n) (present conf).objects) ≡ true) pinned.is_that (there_lives (present conf) conf.index (seen_index seen) pinned.row pinned.lives_there) in
        let none : is_some (find (is_object (granted seen.word).0) (present conf).objects) ≡ false = none_of (find (is_object (granted seen.word).0) (present conf).objects) gone in
        cc

    keeps_by : (i n : ℕ) (seen : Seen) (event : history.Event) → slice_get call.seen i ≡ Some seen
        → ((n < length conf.history) × (slice_get conf.history n ≡ Some event))
        ⊎ ((n ≡ length conf.history) × (logged (Acted cpu number) call ≡ event))
        → history.reclaims event.entry ≡ Some (granted seen.word).0 → ⊥
    keeps_by i n seen event is (inl old) reclaimed =
        pinned_lives i seen is
        (gone_behind conf.boot conf.history n event (granted seen.word).0 before.fit.boot_valid before.fit.events_fit old.1 (before.sound.entries.unreferenced n event old.1) reclaimed)
    keeps_by i n seen event is (inr last) reclaimed =
        let none : None ≡ Some (granted seen.word).0 = ap (λ (one : history.Event). history.reclaims one.entry) last.1 ∙ reclaimed in
        let never : ⊥ = cc in never

    entry_ends : IsEntry conf.boot longer (place_after before_it) (length longer) call.given.call made_now
    entry_ends = record {
      before = length conf.history;
      counts = counts;
      event = slice_get_seam conf.history (logged (Acted cpu number) call) [] ∙ ap Some event_is;
      not_before = omega (arith, place_below, counts);
      looked = looks_below;
      grants = came;
      judged = ap (λ (s : State). judged s at call) (at_end act) ∙ is_done ∙ ap (λ (s : State). Done s allowed.reply) (sym state_is);
      keeps = λ i n seen event looked is behind below. keeps_by i n seen event looked (snoc_cases conf.history (logged (Acted cpu number) call) event n is);
    }

    section_is : call.section ≡ (if has_looks made_now then 2 * count_by has_looks before_it + 1 else 0)
    section_is =
        now.section
        ∙ ap (λ (looks : Bool). if looks then 2 * count_by has_looks before_it + 1 else 0)
        (sym (looks_for_needs conf.boot conf.history (cspace_of conf.boot at) (place_after before_it) (needs_of call.given.call) call.seen came now.looks))

    -- the call is legal behind those before it
    call_ends : CallIs conf.boot longer at before_it made_now
    call_ends = record {
      its_cpu = refl;
      its_looks = refl;
      section = section_is;
      frame = subst (λ (shape : Result Call Errno). FrameIs conf.boot longer (cspace_of conf.boot at) (place_after before_it) made_now shape) (sym now.follows.frame) (looks_now, entry_ends);
    }
      where
        looks_now : InTurn (LookIs conf.boot longer (cspace_of conf.boot at) (place_after before_it) (needs_of call.given.call)) call.seen
        looks_now i seen is =
            look_stays conf.history longer (front act) conf.boot (cspace_of conf.boot at) (place_after before_it) (needs_of call.given.call) (take i call.seen) seen (now.looks i seen is)

    -- each CPU's calls behind the entry
    record AreBehind (n : ℕ) : Type 0 where
      finished : InTurn (CallIs conf.boot longer n) (calls_behind act n)
      numbered : InTurn IsNumbered (calls_behind act n)
      kept : (of entry : ℕ) → IsEndOf (conf.cpu n).made of entry → IsEndOf (calls_behind act n) of entry

    behind_here : AreBehind at
    behind_here = record {
      finished = subst (λ (calls : List Made). InTurn (CallIs conf.boot longer at) calls) (sym calls_here)
          (in_turn_snoc (CallIs conf.boot longer at) before_it made_now (old_calls act before at) call_ends);
      numbered = subst (λ (calls : List Made). InTurn IsNumbered calls) (sym calls_here)
          (in_turn_snoc IsNumbered before_it made_now (old_numbers act before at) record { number = now.follows.number; no_exit = now.follows.no_exit });
      kept = λ of entry is. subst (λ (calls : List Made). IsEndOf calls of entry) (sym calls_here) (ends_more before_it made_now of entry is);
    }

    behind_there : (n : ℕ) → (n == at) ≡ false → AreBehind n
    behind_there n other = record {
      finished = subst (λ (calls : List Made). InTurn (CallIs conf.boot longer n) calls) (sym (calls_there n other)) (old_calls act before n);
      numbered = subst (λ (calls : List Made). InTurn IsNumbered calls) (sym (calls_there n other)) (old_numbers act before n);
      kept = λ of entry is. subst (λ (calls : List Made). IsEndOf calls of entry) (sym (calls_there n other)) is;
    }

    behind : (n : ℕ) → AreBehind n
    behind n =
        elim (eqb_tells n at) as (λ _. AreBehind n) [
          | inl same ↦ subst AreBehind (sym same.1) behind_here
          | inr differs ↦ behind_there n differs.0
        ]

    end_now : IsEndOf (calls_behind act at) number (length conf.history + 1)
    end_now =
        subst (λ (calls : List Made). IsEndOf calls number (length conf.history + 1)) (sym calls_here)
        record {
          at = length before_it;
          made = made_now;
          is = slice_get_seam before_it made_now [];
          numbered = sym allowed.its_number;
          ends = ap ends.Entry counts;
        }

    taken_none : (next_state conf call (Acted cpu number)).taken ≡ []
    taken_none =
        ap (λ (s : State). s.taken) new_is
        ∙ done_taken (present conf) allowed.new allowed.reply
        (decision (has_moved (present conf) cpu.0 call.given.call (map word_of call.seen)) (present conf) cpu.0 call.given.call call.given.frame.bytes (grants_of call.given.call (map word_of call.seen)))
        allowed.is_done

    -- an act's entry goes with the calls behind it
    pub act_goes : EntryGoes act
    act_goes = record {
      allows = before.allows;
      deaths = before.deaths;
      finished = λ n. (behind n).finished;
      numbered = λ n. (behind n).numbered;
      ends = λ n of entry is. (behind n).kept of entry is;
      entry_is = subst (λ (n : ℕ). IsEndOf (calls_behind act n) number (length conf.history + 1)) (sym own) end_now;
      untaken = λ part. taken_none;
    }
