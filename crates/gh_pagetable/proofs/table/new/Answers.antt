-- One more entry is empty.
use Rattle.std.proofs.Common.{◌≡◌, ◌+◌, ◌*◌, None, arith, sym, mul-zero, length}
use Rattle.std.proofs.lemmas.List.{append-nil}
use Rattle.std.proofs.lemmas.List.Concat.{flat_map-append}
use Rattle.std.proofs.lemmas.List.Elements.{All-nil, All-push}
use Rattle.gh_pagetable.specs.Entry.{run}
use Rattle.gh_pagetable.proofs.Runs.{length-run, run-append}
use Rattle.gh_pagetable.proofs.table.new.Goals as goal

pub loop-init : goal.loop-init
unfolding run
loop-init g c =
    let none = c.in_ok-entries.ensures.items in
    record {
      count = c.in_ok-entries.ensures.len;
      cover = rw none (All-nil (λ e. length (g.E.Entry.targets e) ≡ g.E.Entry.PAGES));
      empty = rw (none, mul-zero);
    }

pub loop-preserved : goal.loop-preserved
loop-preserved g c =
    let targets = g.E.Entry.targets in
    let pages = g.E.Entry.PAGES in
    let so_far = c.loop.invariant in
    let before = c.loop.entries.items in
    let e' = c.in_ok-entry.entry in
    let made = c.in_ok-entry.ensures in
    let pushed = c.in_ok-push.ensures.items in
    let size : length (targets e') ≡ pages = rw (made, length-run) in
    let place : pages * (c.loop.counter + 1) ≡ pages * c.loop.counter + pages = omega arith in
    let joined = run-append None (pages * c.loop.counter) pages in
    record {
      count = rw (c.in_ok-push.ensures.len, so_far.count);
      cover = rw pushed (All-push (λ e. length (targets e) ≡ pages) before e' so_far.cover size);
      empty = rw (pushed, flat_map-append, so_far.empty, made, append-nil, place) (sym joined);
    }
