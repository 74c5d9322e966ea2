-- The row's run is taken away.
use Rattle.gh_addrspace.proofs.PageLemmas.{set_at}
use Rattle.gh_addrspace.proofs.pages.hide.Goals as goal

pub returns-then-mapping-gt0-clause-hidden : goal.returns-then-mapping-gt0-clause-hidden
returns-then-mapping-gt0-clause-hidden c v =
    set_at _ _ _ _ _ c.clear_run.ensures v
