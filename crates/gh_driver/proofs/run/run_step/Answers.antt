-- The CPUs of the schedule are among the nine, since the boot file has them.
use Rattle.std.proofs.Common.{◌≡◌, ◌∙◌, arith, is_some, refl, sym, true}
use Rattle.std.specs.Prelude.{slice_index_or}
use Rattle.gh_driver.proofs.run.run_step.Goals as goal
use Rattle.gh_model.proofs.FittingLemmas.{boot_fitting, cpu_small}
use Rattle.gh_model.specs.Boot.{boot_state}
use Rattle.gh_model.specs.Rows.{cpu_row}

pub run_programs-requires : goal.run_programs-requires
run_programs-requires c = (
  λ k d few.
      let there : is_some (cpu_row (boot_state c.args.boot.now) (slice_index_or c.args.schedule.now k d).0) ≡ true =
      sym (c.cpus_have_rows.ensures (slice_index_or c.args.schedule.now k d).0) ∙ c.requires k d few in
      omega (arith, cpu_small (boot_state c.args.boot.now) (slice_index_or c.args.schedule.now k d).0 (boot_fitting c.args.boot.now c.lines-lines.ensures.fits) there),
  refl,
)
