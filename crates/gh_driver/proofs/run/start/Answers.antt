-- It begins at the boot.
use Rattle.std.proofs.Common.{◌∙◌, ap}
use Rattle.gh_driver.specs.Follows.{first_programs}
use Rattle.gh_driver.proofs.StartLemmas.{begins}
use Rattle.gh_model.specs.declared.state.State.{State}
use Rattle.gh_driver.proofs.run.start.Goals as goal

pub returns : goal.returns
returns c =
    begins c.args.boot.now c.args.files.now (record { progress = c.in_ok-progress.progress; programs = c.in_ok-programs.programs })
    c.in_ok-progress.ensures.stands c.in_ok-progress.ensures.marks
    (c.starts_are_steady.ensures c.args.boot.now c.lines-lines.ensures.fits)
    (c.in_ok-programs.ensures ∙ ap (first_programs c.args.files.now) (c.as_slice.ensures ∙ ap (λ (s : State). s.cpus) c.state.ensures.state))
