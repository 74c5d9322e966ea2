-- The conditions of each call are computed from the calls before it.
use Rattle.std.proofs.Common.{refl, lit<, arith}
use Rattle.worked_parts.proofs.objects.life_of_a_doorbell.Goals as goal

pub insert-requires-2-clause-index : goal.insert-requires-2-clause-index
insert-requires-2-clause-index c = rw (c.insert.ensures.inserted, c.in_ok-objects.ensures) (lit< tt)

pub add_ref-requires : goal.add_ref-requires
add_ref-requires c = rw (c.insert-2.ensures.inserted, c.insert.ensures.inserted, c.in_ok-objects.ensures) (lit< tt)

pub add_ref-requires-2 : goal.add_ref-requires-2
add_ref-requires-2 c = rw (c.add_ref.ensures, c.insert-2.ensures.inserted, c.insert.ensures.inserted, c.in_ok-objects.ensures) (lit< tt)

pub drop_ref-dropped-requires : goal.drop_ref-dropped-requires
drop_ref-dropped-requires c = rw (c.add_ref-2.ensures, c.add_ref.ensures, c.insert-2.ensures.inserted, c.insert.ensures.inserted, c.in_ok-objects.ensures) (λ none. omega arith)

pub retire-requires-clause-not_retired : goal.retire-requires-clause-not_retired
retire-requires-clause-not_retired c = rw (c.set_stage.ensures, c.drop_ref-dropped.ensures.state, c.add_ref-2.ensures, c.add_ref.ensures, c.insert-2.ensures.inserted, c.insert.ensures.inserted, c.in_ok-objects.ensures) refl

pub insert-next-requires-clause-index : goal.insert-next-requires-clause-index
insert-next-requires-clause-index c = rw (c.remove.ensures, c.retire.ensures, c.set_stage.ensures, c.drop_ref-dropped.ensures.state, c.add_ref-2.ensures, c.add_ref.ensures, c.insert-2.ensures.inserted, c.insert.ensures.inserted, c.in_ok-objects.ensures) (lit< tt)

pub set_stage-requires : goal.set_stage-requires
set_stage-requires c = rw (c.drop_ref-dropped.ensures.state, c.add_ref-2.ensures, c.add_ref.ensures, c.insert-2.ensures.inserted, c.insert.ensures.inserted, c.in_ok-objects.ensures) refl

pub retire-requires-clause-doomed : goal.retire-requires-clause-doomed
retire-requires-clause-doomed c = rw (c.set_stage.ensures, c.drop_ref-dropped.ensures.state, c.add_ref-2.ensures, c.add_ref.ensures, c.insert-2.ensures.inserted, c.insert.ensures.inserted, c.in_ok-objects.ensures) refl

pub remove-requires : goal.remove-requires
remove-requires c = rw (c.retire.ensures, c.set_stage.ensures, c.drop_ref-dropped.ensures.state, c.add_ref-2.ensures, c.add_ref.ensures, c.insert-2.ensures.inserted, c.insert.ensures.inserted, c.in_ok-objects.ensures) refl
