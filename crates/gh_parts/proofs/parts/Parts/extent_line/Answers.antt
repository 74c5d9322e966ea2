-- The span of an extent line that comes next lies in the machine.
use Rattle.std.proofs.Common.{refl}
use Rattle.gh_model.proofs.FittingLemmas.{extent_span}
use Rattle.gh_model.specs.declared.boot_line.BootLine.TheVariants.{Extent}
use Rattle.gh_parts.specs.BootLines.{ComesNext}
use Rattle.gh_parts.proofs.BootParts.{held_within}
use Rattle.gh_parts.proofs.parts.Parts.extent_line.Goals as goal

pub new_child-requires : goal.new_child-requires
new_child-requires g c =
    let next : ComesNext g.s (Extent c.in-Extent.partition c.in-Extent.parent c.in-Extent.offset c.in-Extent.count c.in-Extent.access c.in-Extent.held_offset c.in-Extent.held_count) =
    rw c.in-Extent.is at c.requires.1.1 in (
      c.requires.1.0,
      record {
        pages = next.fitting.pages;
        span = extent_span g.s _ c.in-Extent.parent c.in-Extent.offset c.in-Extent.count (record {
          partition = c.in-Extent.partition;
          access = c.in-Extent.access;
          held_offset = c.in-Extent.held_offset;
          held_count = c.in-Extent.held_count;
          is = refl;
          fits = next.fits;
          fitting = next.fitting;
        });
        held = held_within g.s c.in-Extent.partition c.in-Extent.parent c.in-Extent.offset c.in-Extent.count c.in-Extent.access
            c.in-Extent.held_offset c.in-Extent.held_count next.fits;
      },
    )
