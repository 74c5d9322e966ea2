-- The first name from that of the serial at index 0 tells whether an object has it.
use Rattle.gh_objects.proofs.NamesLemmas.{index_of-found, index_of-within, index_of-none}
use Rattle.gh_objects.proofs.table.Table.index_of.Goals as goal

pub returns : goal.returns
returns c =
    let headers = c.self.inside.headers.items in
    let names = c.self.inside.names in
    let named = c.self.invariant.named in
    let first = rw c.name_of.ensures at c.first_from.ensures in
    rw (c.index_in.ensures, ← c.self.view_is) (record {
      found = index_of-found headers names named c.args.serial.0 _ first.there;
      within = index_of-within headers names named c.args.serial.0 _;
      none = index_of-none headers names named c.args.serial.0 c.self.invariant.marked.indices _ first.from first.least;
    })
