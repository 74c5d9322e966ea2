-- A call that a CPU is given keeps sound calls, and so does one whose frame is refused at once.
use Rattle.std.proofs.Common.{◌≡◌, ◌+◌, ◌*◌, ◌∙◌, inl, inr, ℕ, Bool, true, List, [], ◌∷◌, ◌++◌, refl, subst, sym, ap, arith, Option, Some, None, Result, Ok, Err, count_by, is_some, if◌then◌else◌}
use Rattle.gh_base.specs.declared.call.Call.{Call}
use Rattle.gh_base.specs.declared.errno.Errno.{Errno}
use Rattle.gh_base.specs.declared.frame.Frame.{Frame}
use Rattle.gh_base.specs.declared.mark.End.TheVariants as ends
use Rattle.gh_model.specs.Legal.{CallIs, FrameIs, IsNumbered}
use Rattle.gh_model.specs.Marks.{InTurn, Made, cspace_of, has_looks, place_after}
use Rattle.gh_model.specs.Registers.{call_of}
use Rattle.gh_model.specs.Rows.{cpu_row}
use Rattle.gh_model.specs.declared.rows.CpuRow.{CpuRow}
use Rattle.gh_model.proofs.RunLists.{count_snoc, in_turn_snoc, snoc_cases}
use Rattle.gh_events.specs.Calls.{DeathIs, HasCalls, calls_in, NextIs, counted, steps}
use Rattle.gh_events.specs.Config.{Config, Cpu, Given}
use Rattle.gh_events.specs.Start.{MayGive, given, refused_frame, with_next}
use Rattle.gh_events.proofs.CallMoves.{CallMoves, DeathsAre, IsNotHolder, ends_more, moved_sound, no_holder, on_sound, only_made}
use Rattle.gh_events.proofs.CallsGoOn.{none_acts}
use Rattle.gh_events.proofs.CpuMoves.{with_part}

-- a CPU isn't both there and not there
never_both : (row : Option CpuRow) → is_some row ≡ true → row ≡ None → ⊥
never_both None some none = let never : ⊥ = cc in never
never_both (Some row) some none = let never : ⊥ = cc in never

module _ (conf : Config) (at number : ℕ) (frame : Frame) (sound : HasCalls conf)
    (may : MayGive conf at number) where
  -- a call that is given
  module _ (call : Call) (is : call_of frame ≡ Ok call) where
    abbrev waiting : Cpu
    waiting = with_next at number frame (conf.cpu at) (Ok call)

    given_next : HasCalls (with_part conf at waiting conf.count conf.counter)
    given_next =
        on_sound conf at waiting conf.count conf.counter record {
          other = λ one acts. none_acts (conf.cpu at).current one may.between.none acts.is_current;
          same = refl;
          counts = sound.counters at;
          counters = λ n differs. refl;
          current = λ one there. absurd (none_acts (conf.cpu at).current one may.between.none there);
          next = λ one there.
              let same : (record { number = number; frame = frame; call = call }) ≡ one = cc in
              subst (λ (g : Given). NextIs waiting g) same record {
                follows = record { frame = is; number = may.counts; no_exit = may.runs };
                none = may.between.none;
                dropped = may.between.dropped;
              };
          idle = λ none. absurd (never_both (cpu_row conf.boot at) may.is_cpu none);
        } sound

  -- a call whose frame is refused
  module _ (errno : Errno) (is : call_of frame ≡ Err errno) where
    abbrev refused : Made
    refused = refused_frame at number frame errno

    abbrev ended : Cpu
    ended = with_next at number frame (conf.cpu at) (Err errno)

    not_holder : IsNotHolder conf.turn at
    not_holder =
        no_holder conf at sound (λ one acts. none_acts (conf.cpu at).current one may.between.none acts.is_current)

    made_before : calls_in conf at ≡ (conf.cpu at).made
    made_before = only_made conf.boot conf.history at conf.turn (conf.cpu at) not_holder

    refused_is : CallIs conf.boot conf.history at (conf.cpu at).made refused
    refused_is = record {
      its_cpu = refl;
      its_looks = refl;
      section = refl;
      frame = subst (λ (shape : Result Call Errno). FrameIs conf.boot conf.history (cspace_of conf.boot at) (place_after (conf.cpu at).made) refused shape) (sym is)
          record { end = refl; no_looks = refl; reply = refl };
    }

    refused_deaths : DeathsAre conf ((conf.cpu at).made ++ refused ∷ [])
    refused_deaths i made seen there dead last =
        elim (snoc_cases (conf.cpu at).made refused made i there) as (λ _. DeathIs conf.boot conf.history conf.index conf.dead seen) [
          | inl old ↦ sound.entries.deaths at i made seen old.1 dead last
          | inr new ↦
              (let never_so : ends.Frame ≡ ends.Dead = ap (λ (one : Made). one.mark.end) new.1 ∙ dead in
              absurd (let never : ⊥ = cc in never))
        ]

    tally : Bool → ℕ
    tally looks = if looks then 1 else 0

    counts_same : conf.counter at ≡ counted ended
    unfolding tally
    counts_same =
        let all : count_by has_looks ((conf.cpu at).made ++ refused ∷ []) ≡ count_by has_looks (conf.cpu at).made + tally (has_looks refused) = count_snoc has_looks (conf.cpu at).made refused in
        let none : tally (has_looks refused) ≡ 0 = refl in
        let old : conf.counter at ≡ 2 * count_by has_looks (conf.cpu at).made + steps (conf.cpu at).current = sound.counters at in
        omega (arith, all, none, old)

    refused_moves : CallMoves conf at ended conf.counter
    refused_moves = record {
      other = not_holder;
      counts = counts_same;
      counters = λ n differs. refl;
      calls = record {
        finished = in_turn_snoc (CallIs conf.boot conf.history at) (conf.cpu at).made refused
            (subst (λ (calls : List Made). InTurn (CallIs conf.boot conf.history at) calls) made_before (sound.calls at).finished) refused_is;
        numbered = in_turn_snoc IsNumbered (conf.cpu at).made refused
            (subst (λ (calls : List Made). InTurn IsNumbered calls) made_before (sound.calls at).numbered) record { number = may.counts; no_exit = may.runs };
        current = λ one there. absurd (none_acts (conf.cpu at).current one may.between.none there);
        next = λ one there. absurd (no_next (conf.cpu at).next one may.none there);
        idle = λ none. absurd (never_both (cpu_row conf.boot at) may.is_cpu none);
      };
      kept = ends_more (conf.cpu at).made refused;
      deaths = refused_deaths;
    }
      where
        no_next : (next : Option Given) (one : Given) → next ≡ None → next ≡ Some one → ⊥
        no_next None one none some = let never : ⊥ = cc in never
        no_next (Some other) one none some = let never : ⊥ = cc in never

    given_refused : HasCalls (with_part conf at ended conf.count conf.counter)
    given_refused = moved_sound conf at ended conf.count conf.counter refused_moves sound

  given_by : (shape : Result Call Errno) → call_of frame ≡ shape
      → HasCalls (with_part conf at (with_next at number frame (conf.cpu at) shape) conf.count conf.counter)
  given_by (Ok call) is = given_next call is
  given_by (Err errno) is = given_refused errno is

  -- a call that a CPU is given keeps sound calls
  pub given_keeps_calls : HasCalls (given conf at number frame)
  given_keeps_calls = given_by (call_of frame) refl
