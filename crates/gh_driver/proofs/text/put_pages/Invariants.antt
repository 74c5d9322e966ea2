-- What is written so far and what the rest writes make the whole.
use Rattle.std.proofs.Common.{◌≡◌, ◌-◌, ◌≤◌, ◌++◌, string_bytes}
use Rattle.gh_model.specs.Text.{runs_from, no_run, pages_from}
use Rattle.gh_driver.proofs.text.put_pages.Given as goal

abbrev pub invariant-loop-page : goal.invariant-loop-page
invariant-loop-page l = record {
  count : l.run.count ≤ l.page;
  rest : string_bytes l.out ++ runs_from l.state l.space.0 l.run (pages_from l.page (4096 - l.page)) ≡ string_bytes l.fn.out ++ runs_from l.state l.space.0 no_run (pages_from 0 4096);
}
