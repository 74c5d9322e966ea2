-- The run before its first call is the course before its first step.
use Rattle.std.proofs.Common.{◌≡◌, inl, ◌∙◌, ◌+◌, ◌<◌, ℕ, zero, suc, true, List, [], length, refl, subst, sym, ap, arith, Option, Some, map, is_some, slice_get, if◌then◌else◌}
use Rattle.std.specs.Option.{option_map}
use Rattle.std.specs.List.{range_with_len}
use Rattle.gh_base.specs.declared.limits.TheConstants.{CPUS}
use Rattle.gh_callfile.specs.VmProgress.{Progress as VmProgress, has_made_one}
use Rattle.gh_driver.specs.FileRun.{file_program}
use Rattle.gh_driver.specs.Follows.{Follows, Tracks, first_program, first_programs}
use Rattle.gh_driver.specs.declared.running.Running.{Running}
use Rattle.gh_events.specs.Config.{Config, present}
use Rattle.gh_items.specs.Stands.{Stands}
use Rattle.gh_items.specs.declared.progress.Progress.{Progress}
use Rattle.gh_model.specs.Boot.{boot_state}
use Rattle.gh_model.specs.declared.boot_line.BootLine.{BootLine}
use Rattle.gh_model.specs.declared.program.Line.{Line}
use Rattle.gh_model.specs.declared.rows.CpuRow.{CpuRow}
use Rattle.gh_model.specs.declared.state.State.{State}
use Rattle.gh_schedules.specs.Course.{Course, begin, goes_on}
use Rattle.gh_schedules.specs.Items.{IsSteady}
use Rattle.gh_schedules.specs.Schedule.{boot_start}
use Rattle.std.proofs.lemmas.Bool.{and_parts}
use Rattle.std.proofs.lemmas.List.FromFn.{length-map-range_with_len}
use Rattle.gh_model.proofs.RunLists.{no_item}
use Rattle.gh_model.specs.Rows.{cpu_row}

-- the items of a list that is made of the numbers from 0 on
numbered : {X : Type 0} (f : ℕ → X) (from n at : ℕ) (x : X) → slice_get (map f (range_with_len from n)) at ≡ Some x
    → x ≡ f (from + at)
numbered f from zero at x is = absurd (no_item at x is)
numbered f from (suc n) zero x is =
    let same : f from ≡ x = cc in
    sym same ∙ ap f (let sum : from ≡ from + 0 = omega arith in sum)
numbered f from (suc n) (suc at) x is =
    numbered f (from + 1) n at x is ∙ ap f (let sum : from + 1 + at ≡ from + suc at = omega arith in sum)

module _ (lines : List BootLine) (files : List (List Line)) where
  abbrev pub begin_conf : Config
  begin_conf = boot_start lines

  abbrev pub begun : Course VmProgress
  begun = begin begin_conf (file_program files)

  -- the run follows the course that has no step yet
  pub begins : (run : Running VmProgress) → Stands run.progress begin_conf → run.progress.marks ≡ [] → IsSteady begin_conf
      → run.programs ≡ first_programs files run.progress.plain.cpus
      → Follows has_made_one run begun
  begins run stands none steady programs =
      let cpus : run.progress.plain.cpus ≡ (boot_state lines).cpus = ap (λ (s : State). s.cpus) stands.state in
      let all : run.programs ≡ first_programs files (boot_state lines).cpus = programs ∙ ap (first_programs files) cpus in
      record {
        tracks = record { stands = stands; steady = steady; marks = none };
        nine = ap (λ (list : List (Option VmProgress)). length list) all ∙ length-map-range_with_len (first_program files (boot_state lines).cpus) 0 CPUS;
        programs = λ at program is.
            numbered (first_program files (boot_state lines).cpus) 0 CPUS at program
            (sym (ap (λ (list : List (Option VmProgress)). slice_get list at) all) ∙ is)
            ∙ ap (first_program files (boot_state lines).cpus) (let sum : 0 + at ≡ at = omega arith in sum);
        next = λ at on. inl (record {
          may = record {
            is_cpu = (and_parts (is_some (cpu_row (boot_state lines) at)) true on).0;
            between = record { none = refl; dropped = refl };
            none = refl;
            runs = refl;
            counts = refl;
            bounded = omega arith;
          };
          waits = refl;
        });
      }
