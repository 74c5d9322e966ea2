-- There is room for the changes of a decision, and for the entry behind them.
use Rattle.gh_model.proofs.DecideLemmas.{decided_room}
use Rattle.gh_model.proofs.RoomLemmas.{made_entries}
use Rattle.gh_model.proofs.act.act.Goals as goal

pub make_all-requires : goal.make_all-requires
make_all-requires c =
    decided_room c.args.state.now _
    (record {
      moved = c.args.moved;
      cpu = c.args.cpu.0;
      call = c.args.call.now;
      bytes = c.args.bytes.now;
      grants = c.args.grants.now;
      made = _;
      reply = _;
      kept = c.requires.kept;
      is = c.in_ok-errno.ensures;
      makes = c.in-Make.is;
    })
    c.requires.entries

pub count-requires : goal.count-requires
count-requires c = made_entries c.args.state.now _ c.in-Make.changes c.in_ok-make_all-in-Make.ensures.ok c.requires.entries
