-- How the items of a sequence are lent.
use Rattle.std.specs.Prelude.{List, length}
use Rattle.std.specs.List.{refill}
use Rattle.std.specs.Borrow.{Lends, Fml, RattleType, MutBor, Array}
use Rattle.gh_base.specs.contracts.sequence.Sequence.{the_row}

module _ (T : RattleType) (v : MutBor (List T.Denot)) where
  -- once the borrow r ends, the items are those that r shows last
  abbrev pub lends_items : MutBor (List T.Denot) → Fml
  lends_items r = Lends (the_row T) (Array T 0) v r (refill (length v.now) v.now)
