-- What a queue's body tells is what its row says.
use Rattle.std.proofs.Common.{◌≡◌, ◌∙◌, ℕ, refl, sym, ap, find}
use Rattle.gh_model.specs.ManagerCalls.{has_messages}
use Rattle.gh_model.specs.QueueCalls.{row_fill, row_first}
use Rattle.gh_model.specs.Rows.{is_queue}
use Rattle.gh_model.specs.declared.state.State.{State}
use Rattle.gh_parts.specs.Bodies.{body_of, queue_in}
use Rattle.gh_parts.specs.QueueReads.{fill_in, first_in, has_some}
use Rattle.gh_parts.specs.Stands.{Stands}
use Rattle.gh_parts.specs.declared.body.Body.{Body}
use Rattle.gh_parts.specs.declared.body.Body.TheVariants.{Bell, Extent, NewQueue, Nothing, Queue, Space}
use Rattle.gh_parts.specs.declared.parts.Parts.{Parts}

fill_same : (serial : ℕ) (body : Body) → fill_in body ≡ row_fill (queue_in serial body)
fill_same serial Nothing = refl
fill_same serial (Bell words) = refl
fill_same serial NewQueue = refl
fill_same serial (Queue queue) = refl
fill_same serial (Space space) = refl
fill_same serial (Extent span) = refl

first_same : (serial : ℕ) (body : Body) → first_in body ≡ row_first (queue_in serial body)
first_same serial Nothing = refl
first_same serial (Bell words) = refl
first_same serial NewQueue = refl
first_same serial (Queue queue) = refl
first_same serial (Space space) = refl
first_same serial (Extent span) = refl

some_same : (serial : ℕ) (body : Body) → has_some body ≡ has_messages (queue_in serial body)
some_same serial Nothing = refl
some_same serial (Bell words) = refl
some_same serial NewQueue = refl
some_same serial (Queue queue) = refl
some_same serial (Space space) = refl
some_same serial (Extent span) = refl

module _ (parts : Parts) (s : State) (stand : Stands parts s) (serial : ℕ) where
  abbrev body : Body
  body = body_of parts.table.headers parts.shares serial

  pub fill_told : fill_in (body_of parts.table.headers parts.shares serial) ≡ row_fill (find (is_queue serial) s.queues)
  fill_told = fill_same serial body ∙ ap row_fill (sym (stand.queues serial))

  pub first_told : first_in (body_of parts.table.headers parts.shares serial) ≡ row_first (find (is_queue serial) s.queues)
  first_told = first_same serial body ∙ ap row_first (sym (stand.queues serial))

  pub some_told : has_some (body_of parts.table.headers parts.shares serial) ≡ has_messages (find (is_queue serial) s.queues)
  some_told = some_same serial body ∙ ap has_messages (sym (stand.queues serial))
