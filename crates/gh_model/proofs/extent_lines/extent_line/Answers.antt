-- The span of a fitting extent line lies in the machine.
use Rattle.gh_model.proofs.FittingLemmas.{extent_span}
use Rattle.gh_model.proofs.extent_lines.extent_line.Goals as goal

pub new_child-requires-clause-span : goal.new_child-requires-clause-span
new_child-requires-clause-span c =
    extent_span c.args.state.now c.args.line c.in-Extent.parent c.in-Extent.offset c.in-Extent.count
    (record {
      partition = c.in-Extent.partition;
      access = c.in-Extent.access;
      held_offset = c.in-Extent.held_offset;
      held_count = c.in-Extent.held_count;
      is = c.in-Extent.is;
      fits = c.requires.fits;
      fitting = c.requires.fitting;
    })
