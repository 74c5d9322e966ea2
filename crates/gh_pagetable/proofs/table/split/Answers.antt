-- A run over the whole range leaves nothing of what the table said.
use Rattle.std.proofs.Common.{◌≡◌, ◌+◌, ◌*◌, ◌≤◌, length, sym, ◌∙◌, arith}
use Rattle.gh_pagetable.specs.Entry.{run}
use Rattle.gh_pagetable.proofs.Overwriting.{overwritten-whole}
use Rattle.gh_pagetable.proofs.Runs.{length-run}
use Rattle.gh_pagetable.proofs.Tables.{length-table}
use Rattle.std.specs.List.{flat_map}
use Rattle.gh_pagetable.proofs.table.split.Goals as goal

pub returns-in-Uniform-clause-targets : goal.returns-in-Uniform-clause-targets
returns-in-Uniform-clause-targets g c =
    let targets = g.E.Entry.targets in
    let pages = 16 * g.E.Entry.PAGES in
    let old = flat_map targets c.args.entries.now in
    let size : length old ≡ pages = length-table targets g.E.Entry.PAGES c.args.entries.now c.requires.table in
    let filled = length-run c.in-Uniform.target pages in
    let us = run c.in-Uniform.target pages in
    let within : 0 + length us ≤ length old = rw (filled, size) (omega arith) in
    let all = overwritten-whole old us 0 (filled ∙ sym size) within in
    rw c.in-Uniform.is ((rw c.PAGES.ensures at c.set.ensures.targets) ∙ all)
