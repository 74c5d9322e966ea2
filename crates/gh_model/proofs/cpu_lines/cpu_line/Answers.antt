-- The VM of a fitting link is one of the eight.
use Rattle.gh_model.proofs.FittingLemmas.{link_vm}
use Rattle.gh_model.proofs.cpu_lines.cpu_line.Goals as goal

pub new_link-requires : goal.new_link-requires
new_link-requires c =
    link_vm c.args.state.now c.args.line c.in-Link.vm c.in-Link.extent c.in-Link.request c.in-Link.reply c.in-Link.is c.requires.fits c.requires.fitting
