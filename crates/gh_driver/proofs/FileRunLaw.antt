-- The run of call files is legal, graced, and by their programs. For the crates above.
use Rattle.std.proofs.Common.{◌≡◌, ◌∙◌, true, false, List, map}
use Rattle.gh_base.specs.declared.ids.CpuNo.{CpuNo}
use Rattle.gh_callfile.specs.VmProgress.{vm_after, vm_answer}
use Rattle.gh_callfile.proofs.ProgramLemmas.{makes_its_lines}
use Rattle.gh_driver.specs.FileRun.{file_program, file_run}
use Rattle.gh_model.specs.declared.boot_line.BootLine.{BootLine}
use Rattle.gh_model.specs.declared.program.Line.{Line}
use Rattle.gh_model.specs.Boot.{boot_fits, has_manager}
use Rattle.gh_model.specs.Marks.{reply_of}
use Rattle.gh_model.specs.Run.{IsRun, file_frames, file_of}
use Rattle.gh_schedules.proofs.CourseRuns.{course_is_run}

pub file_run_is_run : (lines : List BootLine) (schedule : List CpuNo) (files : List (List Line))
    → boot_fits lines ≡ true
    → has_manager lines ≡ false
    → IsRun lines (file_frames files) (file_run lines schedule files).entries (file_run lines schedule files).marks
    (file_run lines schedule files).state
file_run_is_run lines schedule files fits none =
    let run = course_is_run vm_answer vm_after lines (file_program files) fits schedule in
    record {
      history = run.history;
      calls = run.calls;
      its_entries = run.its_entries;
      its_marks = run.its_marks;
      its_state = run.its_state;
      legal = run.legal;
      graced = run.graced;
      programs = λ cpu. run.programs cpu ∙ makes_its_lines (file_of files cpu) (map reply_of (run.calls cpu));
    }
