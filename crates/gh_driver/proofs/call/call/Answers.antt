-- A CPU that has ended does nothing; any other one's seven items are its whole call.
use Rattle.std.proofs.Common.{◌≡◌, ◌∙◌, Bool, true, false, not, subst, sym}
use Rattle.gh_driver.specs.Follows.{Follows}
use Rattle.gh_items.proofs.SeatLemmas.{if_ok}
use Rattle.gh_driver.proofs.FollowLemmas.{going_is, idle_follows, six_more}
use Rattle.gh_driver.proofs.call.call.Goals as goal

pub returns-then-not-is_going : goal.returns-then-not-is_going
returns-then-not-is_going g c =
    idle_follows g.P.Program.answer g.P.Program.after g.P.Program.wants_reply c.args.run.now g.course c.args.cpu.0 c.requires.1.1
    (sym (going_is g.P.Program.wants_reply c.args.run.now g.course c.requires.1.1 c.args.cpu.0 c.requires.1.0) ∙ sym c.is_going.ensures ∙ c.if-not-is_going.true)

pub returns : goal.returns
returns g c =
    let going = sym (going_is g.P.Program.wants_reply c.args.run.now g.course c.requires.1.1 c.args.cpu.0 c.requires.1.0) ∙ sym c.is_going.ensures ∙ c.if-not-is_going.false in
    if_ok c.finish.result
    (λ follows.
    subst (λ course. Follows g.P.Program.wants_reply c.finish.new.run course)
    (six_more g.P.Program.answer g.P.Program.after g.P.Program.wants_reply c.args.run.now.progress g.course c.requires.1.1.tracks c.args.cpu c.requires.1.0 going (c.requires.1.1.next c.args.cpu.0 going))
    follows)
    c.finish.ensures
