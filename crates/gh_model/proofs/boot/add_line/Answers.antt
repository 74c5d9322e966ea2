-- A line's changes set no slot by an entry, ring no bell and give one serial at most.
use Rattle.gh_model.proofs.LineRoom.{line_rings, line_serials, line_settings}
use Rattle.gh_model.proofs.boot.add_line.Goals as goal

pub make_unnumbered-requires-clause-settings : goal.make_unnumbered-requires-clause-settings
make_unnumbered-requires-clause-settings c =
    line_settings c.args.state.now c.args.line _ c.in_ok-changes.ensures

pub make_unnumbered-requires-clause-serials : goal.make_unnumbered-requires-clause-serials
make_unnumbered-requires-clause-serials c =
    line_serials c.args.state.now c.args.line _ c.requires.fitting c.in_ok-changes.ensures

pub make_unnumbered-requires-clause-rings : goal.make_unnumbered-requires-clause-rings
make_unnumbered-requires-clause-rings c =
    line_rings c.args.state.now c.args.line _ c.in_ok-changes.ensures
