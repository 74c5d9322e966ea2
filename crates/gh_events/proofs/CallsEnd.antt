-- A call that leaves its section, and one that comes to its end, keep sound calls.
use Rattle.std.proofs.Common.{◌≡◌, ◌==◌, ◌+◌, ◌*◌, ◌∙◌, inl, inr, ℕ, Bool, true, false, List, [], ◌∷◌, ◌++◌, length, refl, is_some, not, subst, sym, ap, arith, Option, Some, None, Result, count_by, option_map, if◌then◌else◌}
use Rattle.std.specs.Prelude.{nat_lt}
use Rattle.std.specs.List.{last_or}
use Rattle.gh_base.specs.declared.call.Call.{Call}
use Rattle.gh_base.specs.declared.errno.Errno.{Errno}
use Rattle.gh_base.specs.declared.frame.Reply.{Reply}
use Rattle.gh_base.specs.declared.mark.End.{End}
use Rattle.gh_base.specs.declared.mark.End.TheVariants as ends
use Rattle.gh_model.specs.Legal.{CallIs, EndIs, FrameIs, IsEndOf, IsNumbered}
use Rattle.gh_model.specs.Marks.{Fails, Grants, InTurn, Made, Outcome, Seen, Wants, cspace_of, failure, has_looks, place_after}
use Rattle.gh_model.proofs.RunLists.{count_snoc, in_turn_snoc, snoc_cases}
use Rattle.gh_events.specs.Calls.{CurrentIs, DeathIs, HasCalls, calls_in, steps_at}
use Rattle.gh_events.specs.CallEvents.{MayLeave, after_leave, at_stage, end_of_looks, finished, has_needs, leaves_from, left, reply_of_looks, with_end, with_left}
use Rattle.gh_events.specs.Config.{AtAct, Config, Cpu, Current, DeadPin, Failed, IsIn, Looked, Reading, Stage, Undone, came_to, put}
use Rattle.gh_events.proofs.CallMoves.{CallMoves, DeathsAre, IsNotHolder, ends_more, moved_sound, no_holder, only_made}
use Rattle.gh_events.proofs.CallsGoOn.{its_came, its_counter, its_death, its_looked, its_needs, its_pinned, none_acts, stage_sound}
use Rattle.gh_events.proofs.CallsKeep.{stage_number}
use Rattle.gh_events.proofs.CpuMoves.{with_part}
use Rattle.gh_events.proofs.Finding.{put_here, put_other}

-- what a call that comes to its end is: legal behind those before it
pub record EndsSoundly (conf : Config) (at : ℕ) (call : Current) (end : End) (reply : Reply)
    : Type 0 where
  pub is_current : (conf.cpu at).current ≡ Some call
  pub looked : has_looks (finished at call end reply) ≡ has_needs call.given
  pub ended : EndIs conf.boot conf.history (place_after (conf.cpu at).made) call.given.call
      (finished at call end reply) end
  pub death : (seen : Seen) → end ≡ ends.Dead → last_or None call.seen ≡ Some seen
      → DeathIs conf.boot conf.history conf.index conf.dead seen

module _ (conf : Config) (at : ℕ) (call : Current) (end : End) (reply : Reply)
    (soundly : EndsSoundly conf at call end reply) (sound : HasCalls conf) where
  abbrev made_now : Made
  made_now = finished at call end reply

  abbrev before : List Made
  before = (conf.cpu at).made

  now : CurrentIs conf.boot conf.history conf.index conf.dead at (conf.cpu at) call
  now = (sound.calls at).current call soundly.is_current

  section_is : call.section ≡ (if has_looks made_now then 2 * count_by has_looks before + 1 else 0)
  section_is =
      now.section ∙ ap (λ (looks : Bool). if looks then 2 * count_by has_looks before + 1 else 0) (sym soundly.looked)

  abbrev Framed : Result Call Errno → Type 0
  Framed shape =
      FrameIs conf.boot conf.history (cspace_of conf.boot at) (place_after before) made_now shape

  -- the finished call is legal behind those before it
  pub end_is_call : CallIs conf.boot conf.history at before made_now
  end_is_call = record {
    its_cpu = refl;
    its_looks = refl;
    section = section_is;
    frame = subst Framed (sym now.follows.frame) (now.looks, soundly.ended);
  }

  pub end_is_numbered : IsNumbered before made_now
  end_is_numbered = record { number = now.follows.number; no_exit = now.follows.no_exit }

  -- every end is still there
  pub ends_stay : (number entry : ℕ) → IsEndOf before number entry
      → IsEndOf (before ++ made_now ∷ []) number entry
  ends_stay number entry is = ends_more before made_now number entry is

  pub deaths_stay : DeathsAre conf (before ++ made_now ∷ [])
  deaths_stay i made seen is dead last =
      elim (snoc_cases before made_now made i is) as (λ _. DeathIs conf.boot conf.history conf.index conf.dead seen) [
        | inl old ↦ sound.entries.deaths at i made seen old.1 dead last
        | inr new ↦
            soundly.death seen (ap (λ (one : Made). one.mark.end) new.1 ∙ dead)
            (ap (λ (one : Made). last_or None one.seen) new.1 ∙ last)
      ]

  -- a call that isn't at its act comes to its end
  module _ (count counter : ℕ → ℕ) (no_act : call.stage ≡ AtAct → ⊥)
      (counts : counter at ≡ 2 * count_by has_looks (before ++ made_now ∷ []))
      (counters : (n : ℕ) → (n == at) ≡ false → counter n ≡ conf.counter n) where
    it_is_other : IsNotHolder conf.turn at
    it_is_other =
        no_holder conf at sound
        (λ other acts. no_act (ap (λ (one : Current). one.stage) (its_call other acts.is_current) ∙ acts.at_stage))
      where
        its_call : (other : Current) → (conf.cpu at).current ≡ Some other → call ≡ other
        its_call other is = let same : Some call ≡ Some other = sym soundly.is_current ∙ is in cc

    made_before : calls_in conf at ≡ before
    made_before = only_made conf.boot conf.history at conf.turn (conf.cpu at) it_is_other

    end_moves : CallMoves conf at (with_end (conf.cpu at) made_now) counter
    end_moves = record {
      other = it_is_other;
      counts = omega (arith, counts);
      counters = counters;
      calls = record {
        finished = in_turn_snoc (CallIs conf.boot conf.history at) before made_now
            (subst (λ (calls : List Made). InTurn (CallIs conf.boot conf.history at) calls) made_before (sound.calls at).finished) end_is_call;
        numbered = in_turn_snoc IsNumbered before made_now
            (subst (λ (calls : List Made). InTurn IsNumbered calls) made_before (sound.calls at).numbered) end_is_numbered;
        current = λ other is. absurd (let never : ⊥ = cc in never);
        next = λ given is. absurd (none_acts (conf.cpu at).current call ((sound.calls at).next given is).none soundly.is_current);
        idle = λ none. absurd (none_acts (conf.cpu at).current call ((sound.calls at).idle none).current soundly.is_current);
      };
      kept = ends_stay;
      deaths = deaths_stay;
    }

    -- the calls stay sound
    pub end_sound : HasCalls (with_part conf at (with_end (conf.cpu at) made_now) count counter)
    end_sound = moved_sound conf at (with_end (conf.cpu at) made_now) count counter end_moves sound

-- Leave

-- a call that leaves with its looks done waits for its act
module _ (conf : Config) (at : ℕ) (sound : HasCalls conf) (call : Current)
    (is_current : (conf.cpu at).current ≡ Some call) where
  left_counter : ℕ → ℕ
  left_counter = put conf.counter at (conf.counter at + 1)

  goes_to_act : IsIn (conf.cpu at) call Reading → leaves_from Reading (came_to call) ≡ true
      → HasCalls (with_part conf at (record (conf.cpu at) { current = Some (at_stage AtAct call) }) conf.count left_counter)
  unfolding left_counter
  goes_to_act reading done =
      subst (λ (current : Option Current). HasCalls (with_part conf at (record (conf.cpu at) { current = current }) conf.count left_counter))
      (ap (option_map (at_stage AtAct)) is_current)
      (stage_sound conf at call AtAct (conf.cpu at).pins conf.count left_counter record {
        is_current = is_current;
        no_act = λ acts. let never : Reading ≡ AtAct = sym reading.at_stage ∙ acts in let numbers : 0 ≡ 5 = ap stage_number never in cc;
        came = done;
        looked = refl;
        needs = refl;
        pinned = its_pinned conf at sound call Reading reading;
        dies = λ seen dying last. absurd (let never : ⊥ = cc in never);
        counts =
            let looks : has_needs call.given ≡ true = its_needs conf at sound call Reading reading in
            let two : steps_at AtAct call.given ≡ 2 = rw looks refl in
            let old : conf.counter at ≡ 2 * count_by has_looks (conf.cpu at).made + 1 = its_counter conf at sound call Reading reading in
            let new : left_counter at ≡ conf.counter at + 1 = put_here conf.counter at (conf.counter at + 1) in
            omega (arith, two, old, new);
        counters = λ n differs. put_other conf.counter at (conf.counter at + 1) n differs;
      } sound)

-- the end of a call whose looks came to this is legal
failed_end : (conf : Config) (at last : ℕ) (call : Current) (came : Outcome) → came_to call ≡ came
    → is_some (failure came) ≡ true
    → EndIs conf.boot conf.history last call.given.call (finished at call (end_of_looks came) (reply_of_looks came)) (end_of_looks came)
failed_end conf at last call (Wants slot need) is failed = absurd (let never : ⊥ = cc in never)
failed_end conf at last call (Fails errno) is failed = record { errno = errno; failed = is; reply = refl }
failed_end conf at last call Grants is failed = absurd (let never : ⊥ = cc in never)

dead_end : (conf : Config) (at last : ℕ) (call : Current) (came : Outcome) → came_to call ≡ came
    → is_some (failure came) ≡ false → nat_lt 0 (length call.seen) ≡ true
    → EndIs conf.boot conf.history last call.given.call (finished at call (end_of_looks came) (reply_of_looks came)) (end_of_looks came)
dead_end conf at last call (Wants slot need) is granted looked = record { looked = looked; granted = ap failure is; reply = refl }
dead_end conf at last call (Fails errno) is granted looked = absurd (let never : ⊥ = cc in never)
dead_end conf at last call Grants is granted looked = record { looked = looked; granted = ap failure is; reply = refl }

-- a call that failed isn't dead
failed_lives : (came : Outcome) → is_some (failure came) ≡ true → end_of_looks came ≡ ends.Dead → ⊥
failed_lives (Wants slot need) failed dead = let never : ⊥ = cc in never
failed_lives (Fails errno) failed dead = let never : ⊥ = cc in never
failed_lives Grants failed dead = let never : ⊥ = cc in never

module _ (conf : Config) (at : ℕ) (sound : HasCalls conf) (call : Current)
    (is_current : (conf.cpu at).current ≡ Some call) where
  abbrev came : Outcome
  came = came_to call

  abbrev leaver : Cpu
  leaver = with_end (conf.cpu at) (finished at call (end_of_looks came) (reply_of_looks came))

  tally : Bool → ℕ
  tally looks = if looks then 1 else 0

  one_more : (end : End) (reply : Reply) (n : ℕ) → nat_lt 0 (length call.seen) ≡ true
      → n ≡ 2 * count_by has_looks (conf.cpu at).made + 1
      → n + 1 ≡ 2 * count_by has_looks ((conf.cpu at).made ++ finished at call end reply ∷ [])
  unfolding tally
  one_more end reply n looked old =
      let all : count_by has_looks ((conf.cpu at).made ++ finished at call end reply ∷ []) ≡ count_by has_looks (conf.cpu at).made + tally (nat_lt 0 (length call.seen)) = count_snoc has_looks (conf.cpu at).made (finished at call end reply) in
      let one : tally (nat_lt 0 (length call.seen)) ≡ 1 = ap tally looked in
      omega (arith, all, one, old)

  goes_to_end : (stage : Stage) → IsIn (conf.cpu at) call stage → (stage ≡ AtAct → ⊥)
      → nat_lt 0 (length call.seen) ≡ true → has_needs call.given ≡ true
      → steps_at stage call.given ≡ 1
      → EndIs conf.boot conf.history (place_after (conf.cpu at).made) call.given.call (finished at call (end_of_looks came) (reply_of_looks came)) (end_of_looks came)
      → ((seen : Seen) → end_of_looks came ≡ ends.Dead → last_or None call.seen ≡ Some seen → DeathIs conf.boot conf.history conf.index conf.dead seen)
      → HasCalls (with_part conf at leaver conf.count (left_counter conf at sound call is_current))
  unfolding left_counter
  goes_to_end stage is_in no_act looked needs one ended death =
      let old : conf.counter at ≡ 2 * count_by has_looks (conf.cpu at).made + steps_at stage call.given = its_counter conf at sound call stage is_in in
      let new : put conf.counter at (conf.counter at + 1) at ≡ conf.counter at + 1 = put_here conf.counter at (conf.counter at + 1) in
      end_sound conf at call (end_of_looks came) (reply_of_looks came) record {
        is_current = is_current;
        looked = looked ∙ sym needs;
        ended = ended;
        death = death;
      } sound conf.count (put conf.counter at (conf.counter at + 1))
      (λ acts. no_act (sym is_in.at_stage ∙ acts))
      (new ∙ one_more (end_of_looks came) (reply_of_looks came) (conf.counter at) looked (omega (arith, old, one)))
      (λ n differs. put_other conf.counter at (conf.counter at + 1) n differs)

  leave_by : (stage : Stage) → call.stage ≡ stage → leaves_from stage came ≡ true
      → HasCalls (with_part conf at (with_left at (conf.cpu at) call stage) conf.count (left_counter conf at sound call is_current))
  leave_by Reading is done =
      goes_to_act conf at sound call is_current record { is_current = is_current; at_stage = is } done
  leave_by Looked is done = absurd (let never : ⊥ = cc in never)
  leave_by DeadPin is done = absurd (let never : ⊥ = cc in never)
  leave_by AtAct is done = absurd (let never : ⊥ = cc in never)
  leave_by Failed is done =
      let is_in : IsIn (conf.cpu at) call Failed = record { is_current = is_current; at_stage = is } in
      let failed : is_some (failure came) ≡ true = its_came conf at sound call Failed is_in in
      goes_to_end Failed is_in (λ acts. let numbers : 4 ≡ 5 = ap stage_number acts in cc)
      (its_looked conf at sound call Failed is_in) (its_needs conf at sound call Failed is_in) refl
      (failed_end conf at (place_after (conf.cpu at).made) call came refl failed)
      (λ seen dead last. absurd (failed_lives came failed dead))
  leave_by Undone is done =
      let is_in : IsIn (conf.cpu at) call Undone = record { is_current = is_current; at_stage = is } in
      let looked : nat_lt 0 (length call.seen) ≡ true = its_looked conf at sound call Undone is_in in
      goes_to_end Undone is_in (λ acts. let numbers : 3 ≡ 5 = ap stage_number acts in cc)
      looked (its_needs conf at sound call Undone is_in) refl
      (dead_end conf at (place_after (conf.cpu at).made) call came refl
      (not_some (is_some (failure came)) (its_came conf at sound call Undone is_in)) looked)
      (λ seen dead last. its_death conf at sound call Undone is_in seen refl last)
    where
      not_some : (b : Bool) → not b ≡ true → b ≡ false
      not_some true is = absurd (let never : ⊥ = cc in never)
      not_some false is = refl

-- a call that leaves its section keeps sound calls
pub leave_keeps_calls : (conf : Config) (at : ℕ) → HasCalls conf → MayLeave conf at
    → HasCalls (left conf at)
unfolding left_counter
leave_keeps_calls conf at sound may =
    subst (λ (current : Option Current). HasCalls (with_part conf at (after_leave at (conf.cpu at) current) conf.count (put conf.counter at (conf.counter at + 1))))
    (sym may.is_current) (leave_by conf at sound may.call may.is_current may.call.stage refl may.is_done)
