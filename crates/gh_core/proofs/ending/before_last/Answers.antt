-- The front of the log but for its last entry is allowed, and makes the state before that.
use Rattle.std.proofs.Common.{◌≡◌, ◌-◌, ◌∙◌, ap, subst, length, take, IfOk, List}
use Rattle.gh_model.specs.declared.state.State.{State}
use Rattle.gh_core.specs.Running.{boot_of}
use Rattle.gh_core.specs.declared.log.Logged.{Logged}
use Rattle.gh_core.proofs.LogLemmas.{front_allowed, front_replayed}
use Rattle.gh_core.proofs.ending.before_last.Goals as goal

pub replayed-requires : goal.replayed-requires
replayed-requires c =
    front_allowed (boot_of c.args.running.now) c.args.running.now.log _ c.saturating_sub-before.result
    (ap (take c.saturating_sub-before.result) c.as_slice-log.ensures) c.requires.made

pub returns : goal.returns
returns c =
    subst (λ (s : State). IfOk c.replayed.result (λ plain. plain ≡ s))
    (front_replayed (boot_of c.args.running.now) c.args.running.now.log _ c.saturating_sub-before.result
    (ap (take c.saturating_sub-before.result) c.as_slice-log.ensures)
    (c.saturating_sub-before.ensures ∙ ap (λ (ls : List Logged). length ls - 1) c.as_slice-log.ensures))
    c.replayed.ensures
