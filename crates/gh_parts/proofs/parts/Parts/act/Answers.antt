-- The changes of an act count no entry themselves.
use Rattle.std.proofs.Common.{arith}
use Rattle.gh_model.proofs.RoomLemmas.{changes_count}
use Rattle.gh_parts.proofs.parts.Parts.act.Goals as goal

pub count-requires : goal.count-requires
count-requires g c =
    omega (
      arith,
      c.in_ok-make_all.ensures.ok.numbers.entries,
      (changes_count g.s c.args.changes.now).entries,
      c.requires.0.room.entries,
    )
