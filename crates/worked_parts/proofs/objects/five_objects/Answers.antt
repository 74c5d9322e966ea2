-- The conditions of each call are computed from the calls before it.
use Rattle.std.proofs.Common.{refl, lit<}
use Rattle.worked_parts.proofs.objects.five_objects.Goals as goal

pub insert-requires-2-clause-index : goal.insert-requires-2-clause-index
insert-requires-2-clause-index c = rw (c.insert.ensures.inserted, c.in_ok-objects.ensures) (record { partition = refl; first = refl; place = lit< tt; free = refl })

pub insert-requires-2-clause-place : goal.insert-requires-2-clause-place
insert-requires-2-clause-place c _ = rw (c.insert.ensures.inserted, c.in_ok-objects.ensures) (lit< tt)

pub insert-requires-3-clause-index : goal.insert-requires-3-clause-index
insert-requires-3-clause-index c = rw (c.insert-2.ensures.inserted, c.insert.ensures.inserted, c.in_ok-objects.ensures) (lit< tt)

pub insert-requires-4-clause-index : goal.insert-requires-4-clause-index
insert-requires-4-clause-index c = rw (c.insert-3.ensures.inserted, c.insert-2.ensures.inserted, c.insert.ensures.inserted, c.in_ok-objects.ensures) (lit< tt)

pub insert-requires-4-clause-place : goal.insert-requires-4-clause-place
insert-requires-4-clause-place c _ = rw (c.insert-3.ensures.inserted, c.insert-2.ensures.inserted, c.insert.ensures.inserted, c.in_ok-objects.ensures) (lit< tt)

pub insert-requires-5-clause-index : goal.insert-requires-5-clause-index
insert-requires-5-clause-index c = rw (c.insert-4.ensures.inserted, c.insert-3.ensures.inserted, c.insert-2.ensures.inserted, c.insert.ensures.inserted, c.in_ok-objects.ensures) (lit< tt)
