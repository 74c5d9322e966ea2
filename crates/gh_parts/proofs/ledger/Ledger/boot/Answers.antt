-- The rows of a boot file are valid and small.
use Rattle.std.proofs.Common.{◌≡◌, IsTrue, List, arith, refl, subst, sym}
use Rattle.gh_events.proofs.FewReferences.{boot_cpus, boot_links}
use Rattle.gh_events.proofs.LengthBoot.{few_capabilities}
use Rattle.gh_invariant.proofs.BootValid.{boot_valid}
use Rattle.gh_model.proofs.Small.{boot_kept}
use Rattle.gh_model.specs.Boot.{boot_fits, boot_state}
use Rattle.gh_model.specs.declared.boot_line.BootLine.{BootLine}
use Rattle.gh_parts.specs.Entries.{Entries, no_entries}
use Rattle.gh_parts.specs.Past.{IsPresent, past_of}
use Rattle.gh_parts.specs.Stands.{Stands}
use Rattle.gh_parts.specs.declared.parts.Parts.{Parts}
use Rattle.gh_parts.proofs.ledger.Ledger.boot.Goals as goal

begins : (lines : List BootLine) (parts : Parts) → IsTrue (boot_fits lines) → Stands parts (boot_state lines)
    → IsPresent (past_of lines no_entries) parts
begins lines parts fit stands = record {
  boot = fit;
  fit = tt;
  stands = stands;
  valid = boot_valid lines fit;
  kept = boot_kept (boot_state lines) lines refl fit;
  seats = record {
    cpus = boot_cpus lines fit;
    links = omega (arith, boot_links lines, few_capabilities (boot_state lines) (boot_valid lines fit));
  };
}

began : (lines boot : List BootLine) (log : Entries) (parts : Parts) → boot ≡ lines → log ≡ no_entries
    → IsPresent (past_of lines no_entries) parts → IsPresent (past_of boot log) parts
began lines boot log parts same none present =
    subst (λ (one : List BootLine). IsPresent (past_of one log) parts) (sym same)
    (subst (λ (all : Entries). IsPresent (past_of lines all) parts) (sym none) present)

pub invariant_of-result : goal.invariant_of-result
invariant_of-result c =
    began c.args.boot.now c.in_ok-boot.boot c.new-log.result c.in_ok-parts.parts c.in_ok-boot.ensures c.new-log.ensures
    (begins c.args.boot.now c.in_ok-parts.parts c.lines-lines.ensures.fits c.in_ok-parts.ensures)
