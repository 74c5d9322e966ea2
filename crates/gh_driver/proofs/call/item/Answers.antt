-- The item leads the course on.
use Rattle.std.proofs.Common.{refl}
use Rattle.gh_driver.proofs.FollowLemmas.{item_follows, item_tracks, two_ok}
use Rattle.gh_driver.proofs.call.item.Goals as goal

pub returns : goal.returns
returns g c =
    two_ok c.next_item.result
    (λ stands adds.
    item_follows g.P.Program.wants_reply c.args.run.now _ g.course c.args.cpu.0 c.requires.1.0 c.requires.1.1 refl
    (item_tracks g.course c.args.run.now.progress c.next_item.new.progress c.args.cpu.0 c.requires.1.0 c.requires.1.1.tracks stands adds))
    c.next_item.ensures.stands c.next_item.ensures.marks
