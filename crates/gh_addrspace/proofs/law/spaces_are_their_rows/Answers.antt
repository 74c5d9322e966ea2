-- The rows give the machine pages at which they begin, and where each page leads.
use Rattle.std.proofs.Common.{List, ap, sym, ◌∙◌}
use Rattle.gh_addrspace.specs.Space.{Space}
use Rattle.gh_addrspace.specs.declared.mapping.Mapping.{Mapping}
use Rattle.gh_addrspace.proofs.SpaceLemmas.{same_mappings}
use Rattle.gh_model.specs.Memory.{access_of}
use Rattle.gh_model.specs.declared.memory.MapRow.{MapRow}
use Rattle.gh_pagetable.specs.Map.{Target}
use Rattle.gh_addrspace.proofs.law.spaces_are_their_rows.Goals as goal

pub returns-clause-same : goal.returns-clause-same
returns-clause-same c spans holders one two rows =
    let first = c.args.first.now in
    let second = c.args.second.now in
    let pages = c.compare_tables.ensures (λ v within. one.access v ∙ ap (λ (rs : List MapRow). access_of spans holders rs v) rows ∙ sym (two.access v)) in
    let mappings = same_mappings spans first.mappings second.mappings one.named two.named rows in
    let of : List Mapping → List Target → Space = λ ms ps. record { mappings = ms; pages = ps } in
    ap (λ (ms : List Mapping). of ms first.pages) mappings ∙ ap (λ (ps : List Target). of second.mappings ps) pages
