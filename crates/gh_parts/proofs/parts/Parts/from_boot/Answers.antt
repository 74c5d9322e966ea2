-- The next line is made of the lines before it.
use Rattle.std.proofs.Common.{IsTrue, List, subst, sym}
use Rattle.gh_model.specs.Boot.{boot_fits, empty_state}
use Rattle.gh_model.specs.declared.boot_line.BootLine.{BootLine}
use Rattle.gh_parts.proofs.BootParts.{boot_can, can_at, rest_at}
use Rattle.gh_parts.proofs.parts.Parts.from_boot.Goals as goal

pub loop-at-init : goal.loop-at-init
loop-at-init c =
    boot_can c.in_ok-parts.parts c.lines-lines.result.now
    (subst (λ (lines : List BootLine). IsTrue (boot_fits lines)) (sym c.lines-lines.ensures.lines) c.lines-lines.ensures.fits)
    c.in_ok-parts.ensures

pub add_line_at-requires : goal.add_line_at-requires
add_line_at-requires c = (
  c.loop-at.invariant.can.stands,
  can_at c.loop-at.parts _ c.lines-lines.result.now c.loop-at.at c.loop-at.invariant,
)

pub loop-at-preserved : goal.loop-at-preserved
loop-at-preserved c =
    rest_at c.loop-at.parts c.add_line_at.new.self empty_state c.lines-lines.result.now c.loop-at.at c.loop-at-test.true
    c.loop-at.invariant c.in_ok-add_line_at.ensures
