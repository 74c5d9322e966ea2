-- The CPUs are kept as they are.
use Rattle.std.proofs.Common.{◌∙◌, ap, find}
use Rattle.gh_model.specs.Rows.{is_cpu}
use Rattle.gh_parts.proofs.parts.Parts.cpu.Goals as goal

pub returns : goal.returns
returns c = λ s stands.
    c.cpu_row.ensures ∙ ap (find (is_cpu c.args.cpu.0)) (c.as_slice.ensures ∙ stands.numbers.cpus)
