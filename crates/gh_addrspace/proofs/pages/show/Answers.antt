-- The pages that are held are shown.
use Rattle.std.proofs.Common.{arith, ◌∙◌}
use Rattle.gh_addrspace.proofs.PageLemmas.{show_more}
use Rattle.gh_addrspace.proofs.pages.show.Goals as goal

pub loop-done-preserved-then-held-gt0 : goal.loop-done-preserved-then-held-gt0
loop-done-preserved-then-held-gt0 g c =
    let so_far = c.loop-done.invariant in
    let held = c.held_pages-held in
    record {
      within = omega (arith, held.ensures.most);
      pages = show_more (g.H.Holders.holders c.args.holders.now) c.args.mapping _ _ c.loop-done.done so_far.pages _ held.result held.ensures.held c.set_run.ensures;
      size = c.set_run.ensures.size ∙ so_far.size;
    }
