-- A CPU that has ended does nothing; any other one's item leads the course on.
use Rattle.std.proofs.Common.{subst, sym}
use Rattle.gh_driver.specs.Follows.{Follows}
use Rattle.gh_schedules.specs.Schedule.{advanced}
use Rattle.gh_model.proofs.RowLemmas.{refilled_set}
use Rattle.gh_driver.proofs.FollowLemmas.{advanced_follows, ended_goes, goes_so, kept, missing_goes, program_is, still_follows, three_ok}
use Rattle.gh_driver.proofs.call.advance.Goals as goal

pub returns-then-as_slice-at : goal.returns-then-as_slice-at
returns-then-as_slice-at g c =
    still_follows g.P.Program.answer g.P.Program.after g.P.Program.wants_reply c.args.run.now g.course c.args.cpu c.requires.1.1
    (ended_goes c.args.run.now.progress g.course.conf c.as_slice.result.now c.args.cpu.0 _ c.requires.1.1.tracks.stands c.requires.1.0 c.as_slice.ensures c.if-as_slice-at.true)

pub advance_program-requires : goal.advance_program-requires
advance_program-requires g c κs within =
    let going = goes_so g.P.Program.wants_reply c.args.run.now g.course c.requires.1.1 c.args.cpu.0 c.requires.1.0 c.as_mut_slice.result.now _ c.in-Some.program c.as_slice.result.now _ c.as_mut_slice.ensures.value c.in-Some.is c.as_slice.ensures c.if-as_slice-at.false in (
      within,
      (
        c.requires.1.0,
        (
          c.requires.1.1.tracks,
          (
            going,
            (
              c.requires.1.1.next c.args.cpu.0 going,
              program_is g.P.Program.wants_reply c.args.run.now g.course c.requires.1.1 c.args.cpu.0 c.requires.1.0 c.as_mut_slice.result.now _ c.in-Some.program c.as_mut_slice.ensures.value c.in-Some.is,
            ),
          ),
        ),
      ),
    )

pub returns-in-None : goal.returns-in-None
returns-in-None g c =
    subst (λ programs. Follows g.P.Program.wants_reply (record { progress = c.args.run.now.progress; programs = programs }) (advanced g.P.Program.answer g.P.Program.after g.course c.args.cpu))
    (sym (kept c.args.run.now.programs c.as_mut_slice.result.now c.args.cpu.0 _ c.as_mut_slice.ensures.value))
    (still_follows g.P.Program.answer g.P.Program.after g.P.Program.wants_reply c.args.run.now g.course c.args.cpu c.requires.1.1
    (missing_goes g.P.Program.wants_reply c.args.run.now g.course c.requires.1.1 c.args.cpu.0 c.requires.1.0 c.as_mut_slice.result.now _ c.as_mut_slice.ensures.value c.in-None.is))

pub returns-in-Some : goal.returns-in-Some
returns-in-Some g c =
    let going = goes_so g.P.Program.wants_reply c.args.run.now g.course c.requires.1.1 c.args.cpu.0 c.requires.1.0 c.as_mut_slice.result.now _ c.in-Some.program c.as_slice.result.now _ c.as_mut_slice.ensures.value c.in-Some.is c.as_slice.ensures c.if-as_slice-at.false in
    three_ok c.advance_program.result
    (λ tracks program next.
    advanced_follows g.P.Program.answer g.P.Program.after g.P.Program.wants_reply c.args.run.now g.course c.requires.1.1 c.args.cpu c.requires.1.0 going
    _ c.advance_program.new.program tracks program next
    (refilled_set c.args.run.now.programs c.as_mut_slice.result.now c.args.cpu.0 _ c.as_mut_slice.ensures.value))
    c.advance_program.ensures.tracks c.advance_program.ensures.program c.advance_program.ensures.next
