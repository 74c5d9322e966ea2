-- The first bit that is 0 is that of the least free index.
use Rattle.std.proofs.Common.{sym, ap, ◌∙◌}
use Rattle.gh_objects.specs.Headers.{free_index}
use Rattle.gh_objects.proofs.TableLemmas.{some_free, free_index-first}
use Rattle.gh_objects.proofs.table.Table.first_free.Goals as goal

pub first_free_place-requires : goal.first_free_place-requires
first_free_place-requires c = some_free _ _ c.self.invariant.marked c.args.place c.requires.place (rw c.self.view_is c.requires.free)

pub returns-clause-least : goal.returns-clause-least
returns-clause-least c =
    let first = c.first_free_place.ensures in
    sym (free_index-first _ _ c.self.invariant.marked c.args.place c.requires.place c.first_free_place.result first.within first.free first.taken_before)
    ∙ ap (λ headers. free_index headers c.args.place) c.self.view_is
