-- An event of a CPU that doesn't have the turn, which leaves history, dead words and turn, keeps sound
-- calls where those of the CPU are sound.
use Rattle.std.proofs.Common.{◌≡◌, ◌==◌, ◌+◌, ◌∙◌, ◌⊎◌, inl, inr, ℕ, Bool, true, false, List, [], ◌∷◌, ◌++◌, refl, subst, sym, ap, Option, Some, None, slice_get}
use Rattle.std.specs.List.{last_or}
use Rattle.std.proofs.lemmas.Bool.{eqb-true}
use Rattle.std.proofs.lemmas.Bool.Decides.{eqb_tells}
use Rattle.std.proofs.lemmas.List.{append-nil}
use Rattle.std.proofs.lemmas.Option.{slice_get_within}
use Rattle.gh_base.specs.declared.mark.End.TheVariants as ends
use Rattle.gh_model.specs.History as history
use Rattle.gh_model.specs.Legal.{CallIs, EntryIs, GoesOn, IsEndOf, IsNumbered}
use Rattle.gh_model.specs.Marks.{InTurn, Made, Seen}
use Rattle.gh_model.specs.Rows.{cpu_row}
use Rattle.gh_model.specs.declared.entry.Entry.{Entry}
use Rattle.gh_model.specs.declared.entry.Entry.TheVariants.{Acted, Part, Retired, Reclaimed}
use Rattle.gh_model.specs.declared.state.State.{State}
use Rattle.gh_model.proofs.RunLists.{slice_get_left}
use Rattle.gh_events.specs.Calls.{CpuCalls, CurrentIs, DeathIs, HasCalls, IsActing, IsIdle, NextIs, Waits, acted_call, calls_in, calls_of, counted}
use Rattle.gh_events.specs.Config.{AtAct, Config, Cpu, Current, Given, Holder, IsIn, put}
use Rattle.gh_events.proofs.CpuMoves.{with_part}
use Rattle.gh_events.proofs.Finding.{put_here, put_other}

-- the CPU doesn't have the turn
abbrev pub IsNotHolder : Option Holder → ℕ → Type 0
IsNotHolder turn at = (holder : Holder) → turn ≡ Some holder → (holder.cpu == at) ≡ false

module _ (boot : State) (events : List history.Event) (at : ℕ) where
  -- such a CPU has no act that is committed and hasn't come to its end
  pub none_acted : (turn : Option Holder) (current : Option Current) → IsNotHolder turn at
      → acted_call boot events turn at current ≡ []
  none_acted turn None other = refl
  none_acted None (Some call) other = refl
  none_acted (Some holder) (Some call) other = rw (other holder refl) refl

  pub only_made : (turn : Option Holder) (cpu : Cpu) → IsNotHolder turn at
      → calls_of boot events turn at cpu ≡ cpu.made
  only_made turn cpu other =
      ap (λ (more : List Made). cpu.made ++ more) (none_acted turn cpu.current other) ∙ append-nil cpu.made

-- one more call leaves the ends of those before it
pub ends_more : (calls : List Made) (made : Made) (number entry : ℕ) → IsEndOf calls number entry
    → IsEndOf (calls ++ made ∷ []) number entry
ends_more calls made number entry is = record {
  at = is.at;
  made = is.made;
  is = slice_get_left calls (made ∷ []) is.at (slice_get_within calls is.at is.made is.is) ∙ is.is;
  numbered = is.numbered;
  ends = is.ends;
}

-- each dead call's last grant is retired or killed
abbrev pub DeathsAre : Config → List Made → Type 0
DeathsAre conf calls = (i : ℕ) (made : Made) (seen : Seen) → slice_get calls i ≡ Some made
    → made.mark.end ≡ ends.Dead → last_or None made.seen ≡ Some seen → DeathIs conf.boot conf.history conf.index conf.dead seen

-- what such an event needs: the CPU's calls are sound behind it, and each end is still there
pub record CallMoves (conf : Config) (at : ℕ) (cpu : Cpu) (counter : ℕ → ℕ) : Type 0 where
  pub other : IsNotHolder conf.turn at
  pub counts : counter at ≡ counted cpu
  pub counters : (n : ℕ) → (n == at) ≡ false → counter n ≡ conf.counter n
  pub calls : CpuCalls conf.boot conf.history conf.index conf.dead cpu.made at cpu
  pub kept : (number entry : ℕ) → IsEndOf (conf.cpu at).made number entry
      → IsEndOf cpu.made number entry
  pub deaths : DeathsAre conf cpu.made

module _ (conf : Config) (at : ℕ) (cpu : Cpu) (count counter : ℕ → ℕ)
    (moves : CallMoves conf at cpu counter) (sound : HasCalls conf) where
  -- the sound calls of one CPU
  abbrev Sound : ℕ → Cpu → Type 0
  Sound n one =
      CpuCalls conf.boot conf.history conf.index conf.dead (calls_of conf.boot conf.history conf.turn n one) n one

  here_sound : Sound at cpu
  here_sound =
      subst (λ (calls : List Made). CpuCalls conf.boot conf.history conf.index conf.dead calls at cpu)
      (sym (only_made conf.boot conf.history at conf.turn cpu moves.other)) moves.calls

  calls_sound : (n : ℕ) → Sound n (put conf.cpu at cpu n)
  calls_sound n =
      elim (eqb_tells n at) as (λ _. Sound n (put conf.cpu at cpu n)) [
        | inl same ↦
            subst (λ (i : ℕ). Sound i (put conf.cpu at cpu i)) (sym same.1)
            (subst (Sound at) (sym (put_here conf.cpu at cpu)) here_sound)
        | inr differs ↦ subst (Sound n) (sym (put_other conf.cpu at cpu n differs.0)) (sound.calls n)
      ]

  abbrev Ends : ℕ → Cpu → ℕ → ℕ → Type 0
  Ends n one number entry =
      IsEndOf (calls_of conf.boot conf.history conf.turn n one) number entry

  here_ends : (number entry : ℕ) → Ends at (conf.cpu at) number entry → Ends at cpu number entry
  here_ends number entry is =
      subst (λ (calls : List Made). IsEndOf calls number entry)
      (sym (only_made conf.boot conf.history at conf.turn cpu moves.other))
      (moves.kept number entry
      (subst (λ (calls : List Made). IsEndOf calls number entry)
      (only_made conf.boot conf.history at conf.turn (conf.cpu at) moves.other) is))

  ends_kept : (n number entry : ℕ) → Ends n (conf.cpu n) number entry
      → Ends n (put conf.cpu at cpu n) number entry
  ends_kept n number entry is =
      elim (eqb_tells n at) as (λ _. Ends n (put conf.cpu at cpu n) number entry) [
        | inl same ↦
            subst (λ (i : ℕ). Ends i (put conf.cpu at cpu i) number entry) (sym same.1)
            (subst (λ (one : Cpu). Ends at one number entry) (sym (put_here conf.cpu at cpu))
            (here_ends number entry (subst (λ (i : ℕ). Ends i (conf.cpu i) number entry) same.1 is)))
        | inr differs ↦
            subst (λ (one : Cpu). Ends n one number entry) (sym (put_other conf.cpu at cpu n differs.0)) is
      ]

  entry_kept : (n : ℕ) (event : history.Event) (entry : Entry)
      → EntryIs conf.boot conf.history (calls_in conf) n event entry
      → EntryIs conf.boot conf.history (calls_in (with_part conf at cpu count counter)) n event entry
  entry_kept n event (Acted of number) is = ends_kept of.0 number (n + 1) is
  entry_kept n event (Part of number space slot) is = is
  entry_kept n event (Retired serial seen) is = is
  entry_kept n event (Reclaimed serial seen) is = is

  in_act_kept : (holder : Holder) (call : Current) → conf.turn ≡ Some holder
      → IsIn (conf.cpu holder.cpu) call AtAct → IsIn (put conf.cpu at cpu holder.cpu) call AtAct
  in_act_kept holder call turn is =
      subst (λ (one : Cpu). IsIn one call AtAct)
      (sym (put_other conf.cpu at cpu holder.cpu (moves.other holder turn))) is

  acting_kept : (holder : Holder) → conf.turn ≡ Some holder
      → IsActing (put conf.cpu at cpu) holder
  acting_kept holder turn =
      let before : IsActing conf.cpu holder = sound.entries.acting holder turn in
      record { call = before.call; in_act = in_act_kept holder before.call turn before.in_act }

  waits_kept : (n : ℕ) (event : history.Event)
      → Waits conf.history conf.turn conf.cpu n event
      → Waits conf.history conf.turn (put conf.cpu at cpu) n event
  waits_kept n event waits = record {
    last = waits.last;
    holder = waits.holder;
    call = waits.call;
    has_turn = waits.has_turn;
    in_act = in_act_kept waits.holder waits.call waits.has_turn waits.in_act;
    not_acted = waits.not_acted;
    parts = waits.parts;
    caller = waits.caller;
    is_its = waits.is_its;
  }

  part_kept : (n : ℕ) (event : history.Event)
      → GoesOn conf.boot conf.history n event ⊎ Waits conf.history conf.turn conf.cpu n event
      → GoesOn conf.boot conf.history n event
      ⊎ Waits conf.history conf.turn (put conf.cpu at cpu) n event
  part_kept n event (inl on) = inl on
  part_kept n event (inr waits) = inr (waits_kept n event waits)

  deaths_kept : (n : ℕ) → DeathsAre conf (put conf.cpu at cpu n).made
  deaths_kept n =
      elim (eqb_tells n at) as (λ _. DeathsAre conf (put conf.cpu at cpu n).made) [
        | inl same ↦
            subst (λ (i : ℕ). DeathsAre conf (put conf.cpu at cpu i).made) (sym same.1)
            (subst (λ (one : Cpu). DeathsAre conf one.made) (sym (put_here conf.cpu at cpu)) moves.deaths)
        | inr differs ↦
            subst (λ (one : Cpu). DeathsAre conf one.made) (sym (put_other conf.cpu at cpu n differs.0))
            (sound.entries.deaths n)
      ]

  counters_kept : (n : ℕ) → counter n ≡ counted (put conf.cpu at cpu n)
  counters_kept n =
      elim (eqb_tells n at) as (λ _. counter n ≡ counted (put conf.cpu at cpu n)) [
        | inl same ↦
            subst (λ (i : ℕ). counter i ≡ counted (put conf.cpu at cpu i)) (sym same.1)
            (moves.counts ∙ ap counted (sym (put_here conf.cpu at cpu)))
        | inr differs ↦
            moves.counters n differs.0 ∙ sound.counters n
            ∙ ap counted (sym (put_other conf.cpu at cpu n differs.0))
      ]

  -- the calls stay sound
  pub moved_sound : HasCalls (with_part conf at cpu count counter)
  moved_sound = record {
    calls = calls_sound;
    counters = counters_kept;
    entries = record {
      acting = acting_kept;
      entries = λ n event is. entry_kept n event event.entry (sound.entries.entries n event is);
      parts = λ n event is part. part_kept n event (sound.entries.parts n event is part);
      untaken = sound.entries.untaken;
      unreferenced = sound.entries.unreferenced;
      deaths = deaths_kept;
    };
  }

-- a CPU whose call isn't at its act doesn't have the turn
pub no_holder : (conf : Config) (at : ℕ) → HasCalls conf
    → ((call : Current) → IsIn (conf.cpu at) call AtAct → ⊥) → IsNotHolder conf.turn at
no_holder conf at sound none holder turn =
    by_number (holder.cpu == at) refl
  where
    acts : holder.cpu ≡ at → ⊥
    acts same =
        let acting : IsActing conf.cpu holder = sound.entries.acting holder turn in
        none acting.call (subst (λ (n : ℕ). IsIn (conf.cpu n) acting.call AtAct) same acting.in_act)

    by_number : (here : Bool) → (holder.cpu == at) ≡ here → here ≡ false
    by_number true is = absurd (acts (eqb-true holder.cpu at is))
    by_number false is = refl

-- what an event needs that leaves the CPU's finished calls
pub record CallGoesOn (conf : Config) (at : ℕ) (cpu : Cpu) (counter : ℕ → ℕ) : Type 0 where
  pub other : (call : Current) → IsIn (conf.cpu at) call AtAct → ⊥
  pub same : cpu.made ≡ (conf.cpu at).made
  pub counts : counter at ≡ counted cpu
  pub counters : (n : ℕ) → (n == at) ≡ false → counter n ≡ conf.counter n
  pub current : (call : Current) → cpu.current ≡ Some call
      → CurrentIs conf.boot conf.history conf.index conf.dead at cpu call
  pub next : (given : Given) → cpu.next ≡ Some given → NextIs cpu given
  pub idle : cpu_row conf.boot at ≡ None → IsIdle cpu

module _ (conf : Config) (at : ℕ) (cpu : Cpu) (count counter : ℕ → ℕ)
    (on : CallGoesOn conf at cpu counter) (sound : HasCalls conf) where
  it_is_other : IsNotHolder conf.turn at
  it_is_other = no_holder conf at sound on.other

  made_before : calls_in conf at ≡ (conf.cpu at).made
  made_before = only_made conf.boot conf.history at conf.turn (conf.cpu at) it_is_other

  on_moves : CallMoves conf at cpu counter
  on_moves = record {
    other = it_is_other;
    counts = on.counts;
    counters = on.counters;
    calls = record {
      finished = subst (λ (calls : List Made). InTurn (CallIs conf.boot conf.history at) calls) (made_before ∙ sym on.same) (sound.calls at).finished;
      numbered = subst (λ (calls : List Made). InTurn IsNumbered calls) (made_before ∙ sym on.same) (sound.calls at).numbered;
      current = on.current;
      next = on.next;
      idle = on.idle;
    };
    kept = λ number entry is. subst (λ (calls : List Made). IsEndOf calls number entry) (sym on.same) is;
    deaths = subst (λ (calls : List Made). DeathsAre conf calls) (sym on.same) (sound.entries.deaths at);
  }

  -- the calls stay sound
  pub on_sound : HasCalls (with_part conf at cpu count counter)
  on_sound = moved_sound conf at cpu count counter on_moves sound
