-- The slot of a part that may be made is filled.
use Rattle.gh_invariant.proofs.EntriesKept.{begins, part_filled}
use Rattle.gh_model.specs.Rows.{fills}
use Rattle.std.proofs.Common.{find}
use Rattle.gh_parts.proofs.parts.Parts.take_part.Goals as goal

pub revoke_capability-requires : goal.revoke_capability-requires
revoke_capability-requires g c = record {
  stands = c.requires.0.stands;
  valid = begins g.s c.requires.0.valid;
  may = part_filled (find (fills c.args.cspace.0 c.args.slot) g.s.caps) c.requires.1.0;
  room = c.requires.0.room;
}
