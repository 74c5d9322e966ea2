-- The program is asked by its last reply, and the call's first item leads the course on.
use Rattle.std.proofs.Common.{◌≡◌, ◌+◌, ◌∙◌, arith, ap, is_some, subst, sym, true}
use Rattle.gh_driver.specs.Follows.{GoesOn, IsReady, Tracks}
use Rattle.gh_driver.proofs.FollowLemmas.{advanced_going, asked_is, begin_tracks, begun_goes, begun_program, calls_are, number_fits, ok_anyway, told_last, two_ok}
use Rattle.gh_driver.proofs.MarkLemmas.{is_told}
use Rattle.gh_driver.proofs.call.begin.Goals as goal
use Rattle.gh_schedules.specs.Course.{goes_on}

pub overflow_add-number : goal.overflow_add-number
overflow_add-number g c =
    number_fits c.args.progress.now g.course.conf c.as_slice.result.now c.args.cpu.0 _ c.requires.1.1.0.stands c.requires.1.0 c.as_slice.ensures c.requires.1.1.1.1.0.may.bounded

pub ask-requires : goal.ask-requires
ask-requires g c =
    sym (is_told c.last_reply-last.result)
    ∙ ap is_some (told_last c.args.progress.now g.course c.as_slice-2.result.now c.args.cpu.0 _ c.requires.1.0 c.requires.1.1.0 c.as_slice-2.ensures c.last_reply-last.ensures)
    ∙ sym c.requires.1.1.1.1.0.waits
    ∙ ap g.P.Program.wants_reply (sym c.requires.1.1.1.1.1)

pub returns-clause-tracks : goal.returns-clause-tracks
returns-clause-tracks g c =
    let its =
    asked_is g.P.Program.answer g.P.Program.after g.course c.args.cpu.0 _ c.args.program.now _
    (ap (λ n. n + 1) (calls_are c.args.progress.now g.course.conf c.as_slice.result.now c.args.cpu.0 _ c.requires.1.1.0.stands c.requires.1.0 c.as_slice.ensures))
    c.requires.1.1.1.1.1
    (told_last c.args.progress.now g.course c.as_slice-2.result.now c.args.cpu.0 _ c.requires.1.0 c.requires.1.1.0 c.as_slice-2.ensures c.last_reply-last.ensures) in
    two_ok c.begin_call.result
    (λ stands adds.
    subst (λ course. Tracks c.begin_call.new.progress course)
    (sym (advanced_going g.P.Program.answer g.P.Program.after g.P.Program.wants_reply g.course c.args.cpu c.requires.1.0 c.requires.1.1.0.steady c.requires.1.1.1.1.0 c.requires.1.1.1.0))
    (begin_tracks g.P.Program.answer g.P.Program.after g.course c.args.progress.now c.begin_call.new.progress c.args.cpu.0 c.in_ok-frame.frame c.requires.1.0 c.requires.1.1.0
    c.requires.1.1.1.1.0.may (c.in_ok-frame.ensures.frame ∙ ap (λ standing. standing.frame) its) stands adds))
    c.begin_call.ensures.stands c.begin_call.ensures.marks

pub returns-clause-program : goal.returns-clause-program
returns-clause-program g c =
    let its =
    asked_is g.P.Program.answer g.P.Program.after g.course c.args.cpu.0 _ c.args.program.now _
    (ap (λ n. n + 1) (calls_are c.args.progress.now g.course.conf c.as_slice.result.now c.args.cpu.0 _ c.requires.1.1.0.stands c.requires.1.0 c.as_slice.ensures))
    c.requires.1.1.1.1.1
    (told_last c.args.progress.now g.course c.as_slice-2.result.now c.args.cpu.0 _ c.requires.1.0 c.requires.1.1.0 c.as_slice-2.ensures c.last_reply-last.ensures) in
    ok_anyway c.begin_call.result
    (c.in_ok-frame.ensures.program ∙ ap (λ standing. standing.program) its
    ∙ sym (begun_program g.P.Program.answer g.P.Program.after g.P.Program.wants_reply g.course c.args.cpu c.requires.1.0 c.requires.1.1.0.steady c.requires.1.1.1.1.0 c.requires.1.1.1.0)
    ∙ sym (ap (λ course. course.programs c.args.cpu.0)
    (advanced_going g.P.Program.answer g.P.Program.after g.P.Program.wants_reply g.course c.args.cpu c.requires.1.0 c.requires.1.1.0.steady c.requires.1.1.1.1.0 c.requires.1.1.1.0)))

pub returns-clause-next : goal.returns-clause-next
returns-clause-next g c =
    let its =
    asked_is g.P.Program.answer g.P.Program.after g.course c.args.cpu.0 _ c.args.program.now _
    (ap (λ n. n + 1) (calls_are c.args.progress.now g.course.conf c.as_slice.result.now c.args.cpu.0 _ c.requires.1.1.0.stands c.requires.1.0 c.as_slice.ensures))
    c.requires.1.1.1.1.1
    (told_last c.args.progress.now g.course c.as_slice-2.result.now c.args.cpu.0 _ c.requires.1.0 c.requires.1.1.0 c.as_slice-2.ensures c.last_reply-last.ensures) in
    ok_anyway c.begin_call.result
    (subst (λ course. goes_on course.conf c.args.cpu.0 ≡ true → GoesOn g.P.Program.wants_reply course c.args.cpu.0)
    (sym (advanced_going g.P.Program.answer g.P.Program.after g.P.Program.wants_reply g.course c.args.cpu c.requires.1.0 c.requires.1.1.0.steady c.requires.1.1.1.1.0 c.requires.1.1.1.0))
    (begun_goes g.P.Program.answer g.P.Program.after g.P.Program.wants_reply g.course c.args.cpu c.requires.1.0 c.requires.1.1.0.steady c.requires.1.1.1.1.0 c.requires.1.1.1.0
    (subst (IsReady g.P.Program.wants_reply) its c.in_ok-frame.ensures.ready)))
