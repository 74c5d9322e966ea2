-- A turn that is given back behind its act keeps sound calls.
use Rattle.std.proofs.Common.{◌≡◌, ◌==◌, ◌+◌, ◌*◌, ◌-◌, ◌≤◌, ◌∙◌, ◌⊎◌, inl, inr, ℕ, Bool, true, false, not, List, [], ◌∷◌, ◌++◌, length, refl, subst, sym, ap, arith, Option, Some, None, count_by, find, is_some, option_map, slice_get, slice_index, if◌then◌else◌}
use Rattle.std.specs.Prelude.{◌&&◌}
use Rattle.std.proofs.lemmas.Bool.Decides.{eqb_tells, nat_tests}
use Rattle.std.proofs.lemmas.List.{append-nil}
use Rattle.std.proofs.lemmas.Option.{slice_get-map}
use Rattle.gh_base.specs.declared.frame.Reply.{Reply}
use Rattle.gh_base.specs.declared.mark.End.{End}
use Rattle.gh_base.specs.declared.mark.End.TheVariants as ends
use Rattle.gh_model.proofs.RunLists.{count_snoc, in_turn_snoc, snoc_cases, take_all}
use Rattle.gh_model.specs.Act.{Verdict, Done, Refused, granted}
use Rattle.gh_model.specs.History as history
use Rattle.gh_model.specs.History.{state_at}
use Rattle.gh_model.specs.Held.{AreHeld}
use Rattle.gh_model.specs.Legal.{CallIs, EndIs, EntryIs, GoesOn, IsEndOf, IsNumbered, IsRefusedAt, is_short}
use Rattle.gh_model.specs.Marks.{Grants, InTurn, Made, Seen, cspace_of, has_looks, place_after, place_after_looks}
use Rattle.gh_model.specs.Registers.{needs_of}
use Rattle.gh_model.specs.Rows.{is_object}
use Rattle.gh_model.specs.declared.entry.Entry.{Entry}
use Rattle.gh_model.specs.declared.entry.Entry.TheVariants.{Acted, Part, Retired, Reclaimed}
use Rattle.gh_model.specs.declared.state.State.{State}
use Rattle.gh_events.specs.CallEvents.{finished, has_needs, with_end}
use Rattle.gh_events.specs.Calls.{CpuCalls, CurrentIs, DeathIs, HasCalls, Waits, acted_call, as_made, calls_in, SawPins, calls_of, counted, last_ending, stands_open, steps_at}
use Rattle.gh_events.specs.Config.{AtAct, Config, Cpu, Current, Holder, Pin, came_to, has_acted, has_part, judged, pin_of, present, put, seen_index}
use Rattle.gh_events.specs.References.{HasReferences, IsPinned}
use Rattle.gh_events.specs.TurnEvents.{Ending, MayEnd, acted_ending, causes, end_call, ended, ending, has_causes, refused_ending, short_ending, with_ending}
use Rattle.gh_events.specs.ValidState.{HasValid}
use Rattle.gh_events.proofs.ActCalls.{looks_for_needs}
use Rattle.gh_events.proofs.CallMoves.{DeathsAre, IsNotHolder, only_made}
use Rattle.gh_events.proofs.CallsEnd.{EndsSoundly, end_is_call, end_is_numbered, ends_stay}
use Rattle.gh_events.proofs.CallsGoOn.{its_counter, its_pinned, none_acts}
use Rattle.gh_events.proofs.CausesHeld.{causes_are_held}
use Rattle.gh_events.proofs.EntryKeeps.{none_of}
use Rattle.gh_events.proofs.EntryMoves.{there_lives}
use Rattle.gh_events.proofs.EventObjects.{life}
use Rattle.gh_events.proofs.Finding.{put_here, put_other, same_number}
use Rattle.gh_events.proofs.GoneBehind.{gone_behind}
use Rattle.gh_events.proofs.HolderCalls.{none_committed}
use Rattle.gh_events.proofs.Places.{calls_within, looks_within}

pub zero_differs : (n : ℕ) → (n == 0) ≡ false → n ≡ 0 → ⊥
zero_differs n differs zero =
    let same : (n == 0) ≡ true = ap (λ (k : ℕ). k == 0) zero in let never : ⊥ = cc in never

-- what the end of the holder's call leaves sound
record EndsWell (conf : Config) (at : ℕ) (call : Current) (end : End) (reply : Reply) : Type 0 where
  finished_is : InTurn (CallIs conf.boot conf.history at) ((conf.cpu at).made ++ finished at call end reply ∷ [])
  numbered_is : InTurn IsNumbered ((conf.cpu at).made ++ finished at call end reply ∷ [])
  ends_stay : (number entry : ℕ) → IsEndOf (calls_in conf at) number entry
      → IsEndOf ((conf.cpu at).made ++ finished at call end reply ∷ []) number entry
  lives : end ≡ ends.Dead → ⊥
  looked : has_looks (finished at call end reply) ≡ has_needs call.given
  closed : (holder : Holder) → conf.turn ≡ Some holder → (has_part holder && not (has_acted holder)) ≡ false

tally : Bool → ℕ
tally looks = if looks then 1 else 0

module _ (conf : Config) (at : ℕ) (sound : HasCalls conf) (may : MayEnd conf at) (end : End)
    (reply : Reply) (well : EndsWell conf at may.call end reply) where
  abbrev made_now : Made
  made_now = finished at may.call end reply

  abbrev ender : Cpu
  ender = with_end (conf.cpu at) made_now

  abbrev behind : Config
  behind = record conf { turn = None; cpu = put conf.cpu at ender }

  the_holder : (holder : Holder) → conf.turn ≡ Some holder → may.holder ≡ holder
  the_holder holder is = let same : Some may.holder ≡ Some holder = sym may.has_turn.turn ∙ is in cc

  not_theirs : (n : ℕ) → (n == at) ≡ false → IsNotHolder conf.turn n
  not_theirs n differs holder is =
      let own : at ≡ holder.cpu = sym may.has_turn.its_cpu ∙ ap (λ (one : Holder). one.cpu) (the_holder holder is) in
      subst (λ (i : ℕ). (i == n) ≡ false) own (apart n at differs)
    where
      apart : (a b : ℕ) → (a == b) ≡ false → (b == a) ≡ false
      apart a b differs = grind (arith, nat_tests)

  no_turn : (n : ℕ) → IsNotHolder None n
  no_turn n holder is = absurd (let never : ⊥ = cc in never)

  calls_then : (n : ℕ) (cpu : Cpu) → calls_of conf.boot conf.history None n cpu ≡ cpu.made
  calls_then n cpu = only_made conf.boot conf.history n None cpu (no_turn n)

  abbrev Sound : ℕ → Cpu → Type 0
  Sound n cpu =
      CpuCalls conf.boot conf.history conf.index conf.dead (calls_of conf.boot conf.history None n cpu) n cpu

  sound_here : Sound at ender
  sound_here =
      subst (λ (calls : List Made). CpuCalls conf.boot conf.history conf.index conf.dead calls at ender) (sym (calls_then at ender))
      record {
        finished = well.finished_is;
        numbered = well.numbered_is;
        current = λ call is. absurd (let never : ⊥ = cc in never);
        next = λ given is. absurd (none_acts (conf.cpu at).current may.call ((sound.calls at).next given is).none may.in_act.is_current);
        idle = λ none. absurd (none_acts (conf.cpu at).current may.call ((sound.calls at).idle none).current may.in_act.is_current);
      }

  same_there : (n : ℕ) → (n == at) ≡ false
      → calls_in conf n ≡ calls_of conf.boot conf.history None n (conf.cpu n)
  same_there n differs =
      only_made conf.boot conf.history n conf.turn (conf.cpu n) (not_theirs n differs) ∙ sym (calls_then n (conf.cpu n))

  sound_there : (n : ℕ) → (n == at) ≡ false → Sound n (conf.cpu n)
  sound_there n differs =
      subst (λ (calls : List Made). CpuCalls conf.boot conf.history conf.index conf.dead calls n (conf.cpu n))
      (same_there n differs) (sound.calls n)

  calls_sound : (n : ℕ) → Sound n (put conf.cpu at ender n)
  calls_sound n =
      elim (eqb_tells n at) as (λ _. Sound n (put conf.cpu at ender n)) [
        | inl same ↦
            subst (λ (i : ℕ). Sound i (put conf.cpu at ender i)) (sym same.1)
            (subst (Sound at) (sym (put_here conf.cpu at ender)) sound_here)
        | inr differs ↦ subst (Sound n) (sym (put_other conf.cpu at ender n differs.0)) (sound_there n differs.0)
      ]

  counts_here : conf.counter at ≡ counted ender
  unfolding tally
  counts_here =
      let old : conf.counter at ≡ 2 * count_by has_looks (conf.cpu at).made + steps_at AtAct may.call.given = its_counter conf at sound may.call AtAct may.in_act in
      let all : count_by has_looks ((conf.cpu at).made ++ made_now ∷ []) ≡ count_by has_looks (conf.cpu at).made + tally (has_looks made_now) = count_snoc has_looks (conf.cpu at).made made_now in
      let same : tally (has_looks made_now) ≡ tally (has_needs may.call.given) = ap tally well.looked in
      let twice : steps_at AtAct may.call.given ≡ 2 * tally (has_needs may.call.given) = by_needs (has_needs may.call.given) in
      omega (arith, old, all, same, twice)
    where
      by_needs : (needs : Bool) → (if needs then 2 else 0) ≡ 2 * (if needs then 1 else 0)
      by_needs true = refl
      by_needs false = refl

  counters_sound : (n : ℕ) → conf.counter n ≡ counted (put conf.cpu at ender n)
  counters_sound n =
      elim (eqb_tells n at) as (λ _. conf.counter n ≡ counted (put conf.cpu at ender n)) [
        | inl same ↦
            subst (λ (i : ℕ). conf.counter i ≡ counted (put conf.cpu at ender i)) (sym same.1)
            (counts_here ∙ ap counted (sym (put_here conf.cpu at ender)))
        | inr differs ↦ sound.counters n ∙ ap counted (sym (put_other conf.cpu at ender n differs.0))
      ]

  abbrev Ends : ℕ → Cpu → ℕ → ℕ → Type 0
  Ends n cpu number entry = IsEndOf (calls_of conf.boot conf.history None n cpu) number entry

  ends_here : (number entry : ℕ) → IsEndOf (calls_in conf at) number entry → Ends at ender number entry
  ends_here number entry is =
      subst (λ (calls : List Made). IsEndOf calls number entry) (sym (calls_then at ender)) (well.ends_stay number entry is)

  ends_sound : (n number entry : ℕ) → IsEndOf (calls_in conf n) number entry → Ends n (put conf.cpu at ender n) number entry
  ends_sound n number entry is =
      elim (eqb_tells n at) as (λ _. Ends n (put conf.cpu at ender n) number entry) [
        | inl same ↦
            subst (λ (i : ℕ). Ends i (put conf.cpu at ender i) number entry) (sym same.1)
            (subst (λ (cpu : Cpu). Ends at cpu number entry) (sym (put_here conf.cpu at ender))
            (ends_here number entry (subst (λ (i : ℕ). IsEndOf (calls_in conf i) number entry) same.1 is)))
        | inr differs ↦
            subst (λ (cpu : Cpu). Ends n cpu number entry) (sym (put_other conf.cpu at ender n differs.0))
            (subst (λ (calls : List Made). IsEndOf calls number entry) (same_there n differs.0) is)
      ]

  entry_sound : (n : ℕ) (event : history.Event) (entry : Entry)
      → EntryIs conf.boot conf.history (calls_in conf) n event entry
      → EntryIs conf.boot conf.history (calls_in behind) n event entry
  entry_sound n event (Acted of number) is = ends_sound of.0 number (n + 1) is
  entry_sound n event (Part of number space slot) is = is
  entry_sound n event (Retired serial seen) is = is
  entry_sound n event (Reclaimed serial seen) is = is

  part_sound : (n : ℕ) (event : history.Event)
      → GoesOn conf.boot conf.history n event ⊎ Waits conf.history conf.turn conf.cpu n event
      → GoesOn conf.boot conf.history n event ⊎ Waits conf.history None (put conf.cpu at ender) n event
  part_sound n event (inl on) = inl on
  part_sound n event (inr waits) =
      let shut : (has_part waits.holder && not (has_acted waits.holder)) ≡ false = well.closed waits.holder waits.has_turn in
      let open_ : (has_part waits.holder && not (has_acted waits.holder)) ≡ true = rw (waits.parts, waits.not_acted) refl in
      absurd (let never : ⊥ = cc in never)

  deaths_here : DeathsAre conf ((conf.cpu at).made ++ made_now ∷ [])
  deaths_here i made seen is dead last =
      elim (snoc_cases (conf.cpu at).made made_now made i is) as (λ _. DeathIs conf.boot conf.history conf.index conf.dead seen) [
        | inl old ↦ sound.entries.deaths at i made seen old.1 dead last
        | inr new ↦ absurd (well.lives (ap (λ (one : Made). one.mark.end) new.1 ∙ dead))
      ]

  deaths_sound : (n : ℕ) → DeathsAre conf (put conf.cpu at ender n).made
  deaths_sound n =
      elim (eqb_tells n at) as (λ _. DeathsAre conf (put conf.cpu at ender n).made) [
        | inl same ↦
            subst (λ (i : ℕ). DeathsAre conf (put conf.cpu at ender i).made) (sym same.1)
            (subst (λ (cpu : Cpu). DeathsAre conf cpu.made) (sym (put_here conf.cpu at ender)) deaths_here)
        | inr differs ↦
            subst (λ (cpu : Cpu). DeathsAre conf cpu.made) (sym (put_other conf.cpu at ender n differs.0)) (sound.entries.deaths n)
      ]

  was_closed : stands_open conf.turn ≡ false
  was_closed = ap stands_open may.has_turn.turn ∙ well.closed may.holder may.has_turn.turn

  -- the calls stay sound
  free_sound : HasCalls behind
  free_sound = record {
    calls = calls_sound;
    counters = counters_sound;
    entries = record {
      acting = λ holder is. absurd (let never : ⊥ = cc in never);
      entries = λ n event is. entry_sound n event event.entry (sound.entries.entries n event is);
      parts = λ n event is part. part_sound n event (sound.entries.parts n event is part);
      untaken = λ closed. sound.entries.untaken was_closed;
      unreferenced = sound.entries.unreferenced;
      deaths = deaths_sound;
    };
  }

-- The two ends

both_true : (a b : Bool) → a ≡ true → b ≡ true → (a && b) ≡ true
both_true true b one other = other
both_true false b one other = absurd (let never : ⊥ = cc in never)

and_not : (a b : Bool) → b ≡ true → (a && not b) ≡ false
and_not true true is = refl
and_not true false is = absurd (let never : ⊥ = cc in never)
and_not false b is = refl

and_shut : (a b : Bool) → a ≡ false → (a && b) ≡ false
and_shut true b is = absurd (let never : ⊥ = cc in never)
and_shut false b is = refl

module _ (conf : Config) (at : ℕ) (sound : HasCalls conf) (refs : HasReferences conf)
    (valid : HasValid conf) (may : MayEnd conf at) where
  its_holder : (holder : Holder) → conf.turn ≡ Some holder → may.holder ≡ holder
  its_holder holder is = let same : Some may.holder ≡ Some holder = sym may.has_turn.turn ∙ is in cc

  came : came_to may.call ≡ Grants
  came = ((valid.cpus at).current may.call may.in_act.is_current).granted may.in_act.at_stage

  now : CurrentIs conf.boot conf.history conf.index conf.dead at (conf.cpu at) may.call
  now = (sound.calls at).current may.call may.in_act.is_current

  looks_are_needs : (end : End) (reply : Reply) → has_looks (finished at may.call end reply) ≡ has_needs may.call.given
  looks_are_needs end reply =
      looks_for_needs conf.boot conf.history (cspace_of conf.boot at) (place_after (conf.cpu at).made) (needs_of may.call.given.call) may.call.seen came now.looks

  -- the act's entry stands already, with its end
  acted_well : (one : Ending) → has_acted may.holder ≡ true
      → last_ending conf.boot conf.history at may.call ≡ Some one → (one.end ≡ ends.Dead → ⊥)
      → EndsWell conf at may.call one.end one.reply
  acted_well one acted is lives = record {
    finished_is = subst (λ (calls : List Made). InTurn (CallIs conf.boot conf.history at) calls) same (sound.calls at).finished;
    numbered_is = subst (λ (calls : List Made). InTurn IsNumbered calls) same (sound.calls at).numbered;
    ends_stay = λ number entry was. subst (λ (calls : List Made). IsEndOf calls number entry) same was;
    lives = lives;
    looked = looks_are_needs one.end one.reply;
    closed = λ holder held. and_not (has_part holder) (has_acted holder) (ap has_acted (sym (its_holder holder held)) ∙ acted);
  }
    where
      here : (may.holder.cpu == at) ≡ true
      here = subst (λ (n : ℕ). (n == at) ≡ true) (sym may.has_turn.its_cpu) (same_number at)

      acted_is : acted_call conf.boot conf.history (Some may.holder) at (Some may.call) ≡ as_made at may.call (last_ending conf.boot conf.history at may.call)
      acted_is = rw (both_true (may.holder.cpu == at) (has_acted may.holder) here acted) refl

      whole : acted_call conf.boot conf.history conf.turn at (conf.cpu at).current ≡ finished at may.call one.end one.reply ∷ []
      whole =
          ap (λ (turn : Option Holder). acted_call conf.boot conf.history turn at (conf.cpu at).current) may.has_turn.turn
          ∙ ap (acted_call conf.boot conf.history (Some may.holder) at) may.in_act.is_current
          ∙ acted_is ∙ ap (as_made at may.call) is

      same : calls_in conf at ≡ (conf.cpu at).made ++ finished at may.call one.end one.reply ∷ []
      same = ap (λ (more : List Made). (conf.cpu at).made ++ more) whole

  -- what its looks granted lives: it has its pins
  pinned_lives : (i : ℕ) (seen : Seen) → slice_get may.call.seen i ≡ Some seen
      → life (present conf).objects (granted seen.word).0 ≡ None → ⊥
  pinned_lives i seen is gone =
      let pins : slice_get (conf.cpu at).pins i ≡ Some (pin_of seen) =
      ap (λ (pins : List Pin). slice_get pins i) (its_pinned conf at sound may.call AtAct may.in_act)
      ∙ slice_get-map pin_of may.call.seen i ∙ ap (option_map pin_of) is in
      let pinned : IsPinned conf (pin_of seen) = (refs.holds at).pinned i (pin_of seen) pins in
      let there : is_some (find (is_object (granted seen.word).0) (present conf).objects) ≡ true =
      subst (λ (n : ℕ). is_some (find (is_object n) (present conf).objects) ≡ true) pinned.is_that (there_lives (present conf) conf.index (seen_index seen) pinned.row pinned.lives_there) in
      let none : is_some (find (is_object (granted seen.word).0) (present conf).objects) ≡ false = none_of (find (is_object (granted seen.word).0) (present conf).objects) gone in
      cc

  none_acted_now : has_acted may.holder ≡ false → calls_in conf at ≡ (conf.cpu at).made
  none_acted_now not_acted =
      ap (λ (more : List Made). (conf.cpu at).made ++ more)
      (none_committed conf.boot conf.history conf.turn at (conf.cpu at).current (λ holder is. ap has_acted (sym (its_holder holder is)) ∙ not_acted))
      ∙ append-nil (conf.cpu at).made

  at_end : state_at conf.boot conf.history (length conf.history) ≡ present conf
  at_end = ap (history.replay conf.boot) (take_all conf.history)

  -- an act that is refused at the history's end
  module _ (reply : Reply) (not_acted : has_acted may.holder ≡ false) (no_part : has_part may.holder ≡ false)
      (refused : judged (present conf) at may.call ≡ Refused reply)
      (number : (slice_index reply.x 0 == 0) ≡ false)
    where
      place_below : place_after_looks (place_after (conf.cpu at).made) may.call.seen ≤ length conf.history
      place_below =
          looks_within (length conf.history) (place_after (conf.cpu at).made) may.call.seen
          (calls_within conf.boot conf.history at (conf.cpu at).made
          (subst (λ (calls : List Made). InTurn (CallIs conf.boot conf.history at) calls) (none_acted_now not_acted) (sound.calls at).finished))
          (λ i seen is. (now.looks i seen is).within)

      none_taken : (present conf).taken ≡ []
      none_taken =
          sound.entries.untaken (ap stands_open may.has_turn.turn ∙ and_shut (has_part may.holder) (not (has_acted may.holder)) no_part)

      refused_at : (end : End) → IsRefusedAt conf.boot conf.history (place_after (conf.cpu at).made) (length conf.history) may.call.given.call (finished at may.call end reply)
      refused_at end = record {
        within = omega arith;
        not_before = place_below;
        refused = record {
          grants = came;
          judged = ap (λ (s : State). judged s at may.call) at_end ∙ refused;
          is_refusal = λ zero. zero_differs (slice_index reply.x 0) number zero;
          no_parts = ap (λ (s : State). s.taken) at_end ∙ none_taken;
        };
        keeps = λ i n seen event looked is behind below reclaimed.
            pinned_lives i seen looked
            (gone_behind conf.boot conf.history n event (granted seen.word).0 valid.boot_valid valid.events_fit is (sound.entries.unreferenced n event is) reclaimed);
      }

      -- with this end
      module _ (end : End)
          (ended : EndIs conf.boot conf.history (place_after (conf.cpu at).made) may.call.given.call (finished at may.call end reply) end)
          (lives : end ≡ ends.Dead → ⊥)
        where
          soundly : EndsSoundly conf at may.call end reply
          soundly = record {
            is_current = may.in_act.is_current;
            looked = looks_are_needs end reply;
            ended = ended;
            death = λ seen dead last. absurd (lives dead);
          }

          refused_well : EndsWell conf at may.call end reply
          refused_well = record {
            finished_is = in_turn_snoc (CallIs conf.boot conf.history at) (conf.cpu at).made (finished at may.call end reply)
                (subst (λ (calls : List Made). InTurn (CallIs conf.boot conf.history at) calls) (none_acted_now not_acted) (sound.calls at).finished)
                (end_is_call conf at may.call end reply soundly sound);
            numbered_is = in_turn_snoc IsNumbered (conf.cpu at).made (finished at may.call end reply)
                (subst (λ (calls : List Made). InTurn IsNumbered calls) (none_acted_now not_acted) (sound.calls at).numbered)
                (end_is_numbered conf at may.call end reply soundly sound);
            ends_stay = λ number_of entry is.
                ends_stay conf at may.call end reply soundly sound number_of entry
                (subst (λ (calls : List Made). IsEndOf calls number_of entry) (none_acted_now not_acted) is);
            lives = lives;
            looked = looks_are_needs end reply;
            closed = λ holder held. and_shut (has_part holder) (not (has_acted holder)) (ap has_part (sym (its_holder holder held)) ∙ no_part);
          }

      -- for another cause than want of units
      act_well : is_short may.call.given.call reply ≡ false
          → EndsWell conf at may.call (ends.Act (length conf.history)) reply
      act_well full =
          refused_well (ends.Act (length conf.history)) (refused_at (ends.Act (length conf.history)), full) (λ dead. let never : ⊥ = cc in never)

      -- for want of units, where each object that is held has its cause
      short_well : is_short may.call.given.call reply ≡ true → SawPins conf.turn
          → has_causes may.holder (present conf) ≡ true
          → EndsWell conf at may.call (ends.Short (length conf.history) (causes may.holder (present conf))) reply
      short_well short saw all =
          refused_well short_end record {
            refused = refused_at short_end;
            short = short;
            are_held = subst (λ (s : State). AreHeld s (causes may.holder (present conf))) (sym at_end) (causes_are_held may.holder (present conf) valid.valid (λ serial count failed. saw may.holder serial count may.has_turn.turn failed) all);
          } (λ dead. let never : ⊥ = cc in never)
        where
          short_end : End
          short_end = ends.Short (length conf.history) (causes may.holder (present conf))

acted_lives : (number : ℕ) (verdict : Verdict) (one : Ending) → acted_ending number verdict ≡ Some one
    → one.end ≡ ends.Dead → ⊥
acted_lives number (Done new reply) one is dead =
    let same : record { end = ends.Entry number; reply = reply } ≡ one = cc in
    let end_is : ends.Entry number ≡ ends.Dead = ap (λ (e : Ending). e.end) same ∙ dead in
    let never : ⊥ = cc in never
acted_lives number (Refused reply) one is dead = let never : ⊥ = cc in never

module _ (conf : Config) (at : ℕ) (sound : HasCalls conf) (refs : HasReferences conf)
    (valid : HasValid conf) (saw : SawPins conf.turn) (may : MayEnd conf at) where
  abbrev Well : Ending → Type 0
  Well one = EndsWell conf at may.call one.end one.reply

  shorts_by : (one : Ending) (reply : Reply) (all : Bool) → has_acted may.holder ≡ false
      → has_part may.holder ≡ false → judged (present conf) at may.call ≡ Refused reply
      → (slice_index reply.x 0 == 0) ≡ false → is_short may.call.given.call reply ≡ true
      → has_causes may.holder (present conf) ≡ all
      → (if all then Some (record { end = ends.Short (length conf.history) (causes may.holder (present conf)); reply = reply }) else None) ≡ Some one
      → Well one
  shorts_by one reply true not_acted no_part refused zero short all is =
      let same : record { end = ends.Short (length conf.history) (causes may.holder (present conf)); reply = reply } ≡ one = cc in
      subst Well same (short_well conf at sound refs valid may reply not_acted no_part refused zero short saw all)
  shorts_by one reply false not_acted no_part refused zero short all is =
      absurd (let never : ⊥ = cc in never)

  refused_by : (one : Ending) (reply : Reply) (zero short : Bool) → has_acted may.holder ≡ false
      → has_part may.holder ≡ false → judged (present conf) at may.call ≡ Refused reply
      → (slice_index reply.x 0 == 0) ≡ zero → is_short may.call.given.call reply ≡ short
      → (if zero then None else (if short then short_ending may.holder (present conf) (length conf.history) reply
      else Some (record { end = ends.Act (length conf.history); reply = reply }))) ≡ Some one
      → Well one
  refused_by one reply true short not_acted no_part refused zero full is =
      absurd (let never : ⊥ = cc in never)
  refused_by one reply false true not_acted no_part refused zero short is =
      shorts_by one reply (has_causes may.holder (present conf)) not_acted no_part refused zero short refl is
  refused_by one reply false false not_acted no_part refused zero full is =
      let same : record { end = ends.Act (length conf.history); reply = reply } ≡ one = cc in
      subst Well same (act_well conf at sound refs valid may reply not_acted no_part refused zero full)

  verdict_by : (one : Ending) (verdict : Verdict) → has_acted may.holder ≡ false
      → has_part may.holder ≡ false → judged (present conf) at may.call ≡ verdict
      → refused_ending may.holder (present conf) (length conf.history) may.call.given.call verdict ≡ Some one
      → Well one
  verdict_by one (Done new reply) not_acted no_part done is = absurd (let never : ⊥ = cc in never)
  verdict_by one (Refused reply) not_acted no_part refused is =
      refused_by one reply (slice_index reply.x 0 == 0) (is_short may.call.given.call reply) not_acted no_part refused refl refl is

  well_by : (one : Ending) (acted part : Bool) → has_acted may.holder ≡ acted
      → has_part may.holder ≡ part
      → (if acted then last_ending conf.boot conf.history at may.call
      else (if part then None
      else refused_ending may.holder (present conf) (length conf.history) may.call.given.call (judged (present conf) at may.call))) ≡ Some one
      → Well one
  well_by one true part acted parts is =
      acted_well conf at sound refs valid may one acted is
      (acted_lives (length conf.history) (judged (state_at conf.boot conf.history (length conf.history - 1)) at may.call) one is)
  well_by one false true acted parts is = absurd (let never : ⊥ = cc in never)
  well_by one false false acted parts is =
      verdict_by one (judged (present conf) at may.call) acted parts refl is

  abbrev Freed : Option Ending → Config
  Freed ended = record conf { turn = None; cpu = put conf.cpu at (with_ending at (conf.cpu at) may.call ended) }

  free_by : (ended : Option Ending) → ending conf at may.holder may.call ≡ ended
      → is_some ended ≡ true → HasCalls (Freed ended)
  free_by None is some = absurd (let never : ⊥ = cc in never)
  free_by (Some one) is some =
      free_sound conf at sound may one.end one.reply
      (well_by one (has_acted may.holder) (has_part may.holder) refl refl is)

  end_is : end_call conf at conf.turn (conf.cpu at).current
      ≡ with_ending at (conf.cpu at) may.call (ending conf at may.holder may.call)
  end_is =
      ap (λ (turn : Option Holder). end_call conf at turn (conf.cpu at).current) may.has_turn.turn
      ∙ ap (end_call conf at (Some may.holder)) may.in_act.is_current

  -- a turn that is given back behind its act keeps sound calls
  pub free_keeps_calls : HasCalls (ended conf at)
  free_keeps_calls =
      subst (λ (cpu : Cpu). HasCalls (record conf { turn = None; cpu = put conf.cpu at cpu })) (sym end_is)
      (free_by (ending conf at may.holder may.call) refl may.has_ended)
