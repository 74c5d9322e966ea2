-- A queue's first message that goes.
use Rattle.std.proofs.Common.{◌≡◌, ◌≤◌, ◌∷◌, ◌∙◌, ℕ, List, [], Some, None, refl, sym, ap, subst, arith, length}
use Rattle.std.specs.Prelude.{All, drop}
use Rattle.std.proofs.lemmas.Bool.{le-ltb}
use Rattle.std.proofs.lemmas.List.Elements.{All-head}
use Rattle.gh_base.specs.declared.errno.Errno.{Errno}
use Rattle.gh_base.specs.declared.limits.TheConstants.{MESSAGE_BYTES}
use Rattle.gh_msgqueue.specs.Queue.{IsWithinLimits, MessageQueue, first_refusal, receive_refusal, with_first}
use Rattle.gh_parts.specs.BodyChanges.{without_one}

-- a queue without messages has none to drop
pub none_dropped : (queue : MessageQueue) → queue.messages ≡ [] → queue ≡ without_one queue
none_dropped queue none =
    ap (λ (all : List (List ℕ)). record queue { messages = all }) (none ∙ sym (ap (drop 1) none))

-- the first message that is received is dropped
pub first_dropped : (before after : MessageQueue) (message : List ℕ)
    → before ≡ with_first message after → after ≡ without_one before
first_dropped before after message is =
    subst (λ (queue : MessageQueue). after ≡ without_one queue) (sym is) refl

some_refused : (messages : List (List ℕ)) (size : ℕ) (errno : Errno) → size ≤ MESSAGE_BYTES
    → All (λ message. length message ≤ size) messages
    → Some errno ≡ first_refusal messages MESSAGE_BYTES → messages ≡ []
some_refused [] size errno small short refused = refl
some_refused (message ∷ messages) size errno small short refused =
    let fits : length message ≤ size = All-head (λ (one : List ℕ). length one ≤ size) message messages short in
    absurd (let none : Some errno ≡ None = refused ∙ (rw (le-ltb MESSAGE_BYTES (length message) (omega (arith, small, fits))) refl) in
    let never : ⊥ = cc in never)

-- a queue within its limits refuses so much room only where it is empty
pub refused_empty : (queue : MessageQueue) (errno : Errno) → IsWithinLimits queue
    → Some errno ≡ receive_refusal queue MESSAGE_BYTES → queue.messages ≡ []
refused_empty queue errno limits refused =
    some_refused queue.messages queue.size errno limits.configured.most_size limits.lengths refused
