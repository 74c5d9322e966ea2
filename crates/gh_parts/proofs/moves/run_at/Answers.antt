-- Serial 0 holds all bare pages.
use Rattle.std.proofs.Common.{arith, ap, length, subst, sym}
use Rattle.std.proofs.lemmas.List.{length-replicate}
use Rattle.gh_model.specs.Memory.{HoldsRun}
use Rattle.gh_parts.specs.Slots.{no_serial}
use Rattle.gh_parts.specs.Stands.{page_holders}
use Rattle.gh_parts.specs.declared.journal.Memory.{Memory}
use Rattle.gh_parts.proofs.BareLemmas.{bare_held}
use Rattle.gh_parts.proofs.moves.run_at.Goals as goal

pub returns-in-Bare-clause-held : goal.returns-in-Bare-clause-held
returns-in-Bare-clause-held c =
    subst (λ (memory : Memory). HoldsRun (page_holders memory) 0 c.args.first c.args.most) (sym c.in-Bare.is)
    (bare_held c.in-Bare.field-0 c.args.first c.args.most
    (omega (arith, c.requires.within, ap (λ (memory : Memory). length (page_holders memory)) c.in-Bare.is, length-replicate c.in-Bare.field-0 no_serial)))
