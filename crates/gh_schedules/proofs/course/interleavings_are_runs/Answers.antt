-- The law is the lemma.
use Rattle.gh_schedules.proofs.Interleavings.{interleaving_is_run, interleaving_sound, last_marks, program_goes_on}
use Rattle.gh_schedules.proofs.course.interleavings_are_runs.Goals as goal

pub returns-clause-sound : goal.returns-clause-sound
returns-clause-sound g c = λ boot index programs steps fits indices come.
    interleaving_sound g.P.Program.answer g.P.Program.after programs boot index steps fits indices come

pub returns-clause-run : goal.returns-clause-run
returns-clause-run g c = λ boot index programs steps fits none indices come rest exits.
    interleaving_is_run g.P.Program.answer g.P.Program.after programs boot index steps fits indices come rest exits

pub returns-clause-goes_on : goal.returns-clause-goes_on
returns-clause-goes_on g c = λ boot index programs steps cpu fits indices come there between none going.
    program_goes_on g.P.Program.answer g.P.Program.after programs boot index steps fits indices come cpu there between none going

pub returns-clause-marks : goal.returns-clause-marks
returns-clause-marks g c = λ boot index programs steps cpu fits indices come.
    last_marks g.P.Program.answer g.P.Program.after programs boot index steps fits indices come cpu
