-- A reclaim goes where it is allowed.
use Rattle.std.proofs.Common.{◌≡◌, sym, subst, IfOk}
use Rattle.gh_invariant.specs.Events.{entry_changes}
use Rattle.gh_model.specs.declared.entry.Entry.{Entry}
use Rattle.gh_core.specs.Running.{event_of}
use Rattle.gh_core.proofs.slots_set.changes.Goals as goal

pub returns-in-Reclaimed : goal.returns-in-Reclaimed
returns-in-Reclaimed c =
    subst (λ (e : Entry). IfOk c.reclaim_changes.result (λ changes. changes ≡ entry_changes c.args.state.now (event_of c.args.logged.now) e))
    (sym c.in-Reclaimed.is) c.reclaim_changes.ensures
