-- A page's step, and the run that the last page leaves.
use Rattle.std.proofs.lemmas.Result.{on_ok_weaker}
use Rattle.gh_driver.proofs.TextLemmas.{open_run-count, page_step, page_end}
use Rattle.gh_driver.proofs.text.put_pages.Goals as goal

pub loop-page-preserved : goal.loop-page-preserved
loop-page-preserved c = record {
  count = rw (c.after_page-run.ensures) (open_run-count c.loop-page.run c.loop-page.page c.access-found.result c.loop-page.invariant.count);
  rest =
      page_step c.args.state.now c.args.space.0 c.loop-page.run c.loop-page.page 4096
      c.access-found.result c.continues.result c.after_page-run.result _ _ _ c.loop-page-test.true
      (record {
        is_found = c.access-found.ensures;
        is_going = c.continues.ensures;
        is_next = c.after_page-run.ensures;
        is_put = c.in_ok-put_ended.ensures;
      })
      c.loop-page.invariant.rest;
}

pub returns : goal.returns
returns c =
    on_ok_weaker c.put_ended-2.result
    (λ put. page_end c.args.state.now c.args.space.0 c.loop-page.run c.loop-page.page 4096 _ _ _ c.loop-page-test.false put c.loop-page.invariant.rest)
    c.put_ended-2.ensures
