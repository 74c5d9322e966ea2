-- A reclaim is made where it is allowed.
use Rattle.std.proofs.Common.{◌≡◌, sym, subst, IfOk, if◌then◌else◌}
use Rattle.gh_core.specs.Running.{entry_is_made, event_of}
use Rattle.gh_model.specs.History.{after_entry}
use Rattle.gh_model.specs.declared.entry.Entry.{Entry}
use Rattle.gh_core.proofs.log.make.Goals as goal

pub returns-in-Reclaimed-clause-may : goal.returns-in-Reclaimed-clause-may
returns-in-Reclaimed-clause-may c = subst (λ (e : Entry). IfOk c.reclaim.result (λ made. made ≡ entry_is_made c.args.plain.now (event_of c.args.logged.now) e)) (sym c.in-Reclaimed.is) c.reclaim.ensures.may

pub returns-in-Reclaimed-clause-made : goal.returns-in-Reclaimed-clause-made
returns-in-Reclaimed-clause-made c = subst (λ (e : Entry). IfOk c.reclaim.result (λ made. c.reclaim.new.self ≡ (if made then after_entry c.args.plain.now (event_of c.args.logged.now) e else c.args.plain.now))) (sym c.in-Reclaimed.is) c.reclaim.ensures.made
