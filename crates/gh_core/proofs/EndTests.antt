-- The test of a turn's end tells its condition, and what is made of the turn is its end.
use Rattle.std.proofs.Common.{◌≡◌, ◌==◌, ◌&&◌, ◌∙◌, ℕ, Bool, true, false, refl, ap, sym, subst, Option, Some, None, not, is_some, nat_lt, option_map, if◌then◌else◌}
use Rattle.gh_base.specs.declared.limits.TheConstants.{CPUS}
use Rattle.gh_events.specs.Config.{AtAct, Config, Cpu, Current, Holder, some_killed}
use Rattle.gh_core.specs.Running.{end_of, ended_cpu, ending_in, ends, holder_of, owes_nothing, seat_end, stands_for, turn_ending, with_cpu, with_holder}
use Rattle.gh_core.specs.Tests.{is_at_act}
use Rattle.gh_events.specs.TurnEvents.{Ending, MayEnd, end_call, ended, ending, with_ending}
use Rattle.gh_core.specs.declared.config.Running.{Running}
use Rattle.gh_core.specs.declared.holder.Turn.{Turn}
use Rattle.gh_core.proofs.CallTests.{below, both, equal, is_below, is_equal, joined}
use Rattle.gh_core.proofs.HolderTests.{at_act_told, denied, denies}
use Rattle.gh_core.proofs.TurnTests.{nothing_told, tells_nothing}

-- the call that ends

record CallEnds (conf : Config) (at : ℕ) (holder : Holder) (current : Option Current) : Type 0 where
  call : Current
  is : current ≡ Some call
  at_act : call.stage ≡ AtAct
  has_ended : is_some (ending conf at holder call) ≡ true
  same : ending_in conf at holder current ≡ ending conf at holder call

call_by : (conf : Config) (at : ℕ) (holder : Holder) (call : Current) (acts : Bool) → is_at_act call.stage ≡ acts
    → is_some (if acts then ending conf at holder call else None) ≡ true → CallEnds conf at holder (Some call)
call_by conf at holder call true acts is =
    record { call = call; is = refl; at_act = at_act_told call.stage acts; has_ended = is; same = rw acts refl }
call_by conf at holder call false acts is = absurd (let never : ⊥ = cc in never)

call_told : (conf : Config) (at : ℕ) (holder : Holder) (current : Option Current) → is_some (ending_in conf at holder current) ≡ true
    → CallEnds conf at holder current
call_told conf at holder None is = absurd (let never : ⊥ = cc in never)
call_told conf at holder (Some call) is = call_by conf at holder call (is_at_act call.stage) refl is

tells_call : (conf : Config) (at : ℕ) (holder : Holder) (current : Option Current) (call : Current) → current ≡ Some call → call.stage ≡ AtAct
    → is_some (ending conf at holder call) ≡ true → is_some (ending_in conf at holder current) ≡ true
tells_call conf at holder current call is acts ended = rw is (rw acts ended)

-- the turn that ends

record TurnEnds (running : Running) (at : ℕ) (turn : Option Turn) : Type 0 where
  own : Turn
  is : turn ≡ Some own
  its_cpu : own.cpu.0 ≡ at
  paid : owes_nothing own.owed ≡ true
  ends : CallEnds (stands_for running) at (holder_of own) ((stands_for running).cpu at).current
  same : turn_ending running at turn ≡ ending (stands_for running) at (holder_of own) ends.call

turn_by : (running : Running) (at : ℕ) (own : Turn) (may : Bool) → ((own.cpu.0 == at) && owes_nothing own.owed) ≡ may
    → is_some (if may then ending_in (stands_for running) at (holder_of own) ((stands_for running).cpu at).current else None) ≡ true
    → TurnEnds running at (Some own)
turn_by running at own true may is =
    let parts = both (own.cpu.0 == at) (owes_nothing own.owed) may in
    let found : CallEnds (stands_for running) at (holder_of own) ((stands_for running).cpu at).current = call_told (stands_for running) at (holder_of own) ((stands_for running).cpu at).current is in
    record { own = own; is = refl; its_cpu = equal own.cpu.0 at parts.0; paid = parts.1; ends = found; same = rw may found.same }
turn_by running at own false may is = absurd (let never : ⊥ = cc in never)

turn_told : (running : Running) (at : ℕ) (turn : Option Turn) → is_some (turn_ending running at turn) ≡ true → TurnEnds running at turn
turn_told running at None is = absurd (let never : ⊥ = cc in never)
turn_told running at (Some own) is = turn_by running at own ((own.cpu.0 == at) && owes_nothing own.owed) refl is

pub end_told : (running : Running) (at : ℕ) → ends running at ≡ true → MayEnd (stands_for running) at
end_told running at is =
    let parts = both (nat_lt at CPUS) _ is in
    let rest = both (not (some_killed (stands_for running))) (is_some (turn_ending running at running.turn)) parts.1 in
    let found : TurnEnds running at running.turn = turn_told running at running.turn rest.1 in
    record {
      is_cpu = below at CPUS parts.0;
      holder = holder_of found.own;
      call = found.ends.call;
      has_turn = record { turn = ap (option_map holder_of) found.is; its_cpu = found.its_cpu };
      in_act = record { is_current = found.ends.is; at_stage = found.ends.at_act };
      owes_nothing = nothing_told found.own.owed found.paid;
      none_killed = denied (some_killed (stands_for running)) rest.0;
      has_ended = found.ends.has_ended;
    }

-- what a holder that ends is
record HolderEnds (running : Running) (at : ℕ) (holder : Holder) : Type 0 where
  its_cpu : holder.cpu ≡ at
  owes_nothing : (index : ℕ) → holder.owed index ≡ 0
  ends : is_some (ending_in (stands_for running) at holder ((stands_for running).cpu at).current) ≡ true

tells_own : (running : Running) (at : ℕ) (own : Turn) → HolderEnds running at (holder_of own) → is_some (turn_ending running at (Some own)) ≡ true
tells_own running at own ends =
    rw (joined (own.cpu.0 == at) (owes_nothing own.owed) (is_equal own.cpu.0 at ends.its_cpu) (tells_nothing own.owed ends.owes_nothing)) ends.ends

tells_turn : (running : Running) (at : ℕ) (turn : Option Turn) (holder : Holder) → option_map holder_of turn ≡ Some holder
    → HolderEnds running at holder → is_some (turn_ending running at turn) ≡ true
tells_turn running at None holder is ends = absurd (let never : ⊥ = cc in never)
tells_turn running at (Some own) holder is ends =
    let same : holder_of own ≡ holder = cc in
    tells_own running at own (subst (λ (h : Holder). HolderEnds running at h) (sym same) ends)

pub tells_end : (running : Running) (at : ℕ) → MayEnd (stands_for running) at → ends running at ≡ true
tells_end running at may = joined _ _ (is_below at CPUS may.is_cpu)
    (joined (not (some_killed (stands_for running))) (is_some (turn_ending running at running.turn)) (denies (some_killed (stands_for running)) may.none_killed)
    (tells_turn running at running.turn may.holder may.has_turn.turn (record {
      its_cpu = may.has_turn.its_cpu;
      owes_nothing = may.owes_nothing;
      ends = tells_call (stands_for running) at may.holder ((stands_for running).cpu at).current may.call may.in_act.is_current may.in_act.at_stage may.has_ended;
    })))

-- the seat is the one whose call has its end

ends_by : (running : Running) (at : ℕ) (call : Current) (o : Option Ending) → is_some o ≡ true → ((stands_for running).cpu at).current ≡ Some call
    → seat_end running at o ≡ with_ending at ((stands_for running).cpu at) call o
ends_by running at call None some is = absurd (let never : ⊥ = cc in never)
ends_by running at call (Some e) some is = ap (ended_cpu at ((stands_for running).cpu at) e) is

seat_is : (running : Running) (at : ℕ) → TurnEnds running at running.turn
    → seat_end running at (turn_ending running at running.turn)
    ≡ end_call (stands_for running) at (stands_for running).turn ((stands_for running).cpu at).current
seat_is running at found =
    ap (seat_end running at) found.same
    ∙ (ends_by running at found.ends.call (ending (stands_for running) at (holder_of found.own) found.ends.call) found.ends.has_ended found.ends.is
    ∙ sym (ap (λ (turn : Option Holder). end_call (stands_for running) at turn ((stands_for running).cpu at).current) (ap (option_map holder_of) found.is)
    ∙ ap (end_call (stands_for running) at (Some (holder_of found.own))) found.ends.is))

pub end_is : (running : Running) (at : ℕ) → ends running at ≡ true → end_of running at ≡ ended (stands_for running) at
end_is running at is =
    let parts = both (nat_lt at CPUS) _ is in
    let rest = both (not (some_killed (stands_for running))) (is_some (turn_ending running at running.turn)) parts.1 in
    ap (λ (cpu : Cpu). with_holder (with_cpu (stands_for running) at cpu) None) (seat_is running at (turn_told running at running.turn rest.1))
