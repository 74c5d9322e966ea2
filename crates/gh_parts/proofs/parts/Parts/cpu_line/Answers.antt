-- The VM of a link that comes next is one of the eight.
use Rattle.std.proofs.Common.{refl}
use Rattle.gh_model.proofs.FittingLemmas.{link_vm}
use Rattle.gh_model.specs.declared.boot_line.BootLine.TheVariants.{Link}
use Rattle.gh_parts.specs.BootLines.{ComesNext}
use Rattle.gh_parts.proofs.parts.Parts.cpu_line.Goals as goal

pub new_link-requires : goal.new_link-requires
new_link-requires g c =
    let next : ComesNext g.s (Link c.in-Link.vm c.in-Link.extent c.in-Link.request c.in-Link.reply) =
    rw c.in-Link.is at c.requires.1.1.1 in (
      c.requires.1.0,
      (c.requires.1.1.0, link_vm g.s _ c.in-Link.vm c.in-Link.extent c.in-Link.request c.in-Link.reply refl next.fits next.fitting),
    )
