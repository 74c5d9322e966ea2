-- What streams of fragments give.
use Rattle.std.proofs.Common.{◌≡◌, ℕ, suc, ◌-◌, ◌++◌, ◌∷◌, List}
use Rattle.std.proofs.Common.{[], All, Option, None, Some, Result, Ok, length, replicate}
use Rattle.std.proofs.Common.{refl, arith, sym, ◌∙◌, ap, append_assoc, append-nil}
use Rattle.std.specs.List.{flat_map}
use Rattle.std.proofs.lemmas.Grind.{common_steps}
use Rattle.std.proofs.lemmas.List.Elements.{All-head, All-tail}
use Rattle.gh_base.specs.declared.fragment.Message.{Message}
use Rattle.gh_base.specs.declared.fragment.RpcFault.{RpcFault}
use Rattle.gh_base.specs.RpcMessage.{Begins, Continues, IsMessage, header_of, payload_of}
use Rattle.gh_base.specs.RpcAssembly.{Progress, accepted, answers, begun}
use Rattle.gh_base.specs.RpcAssembly.{continued, fed, opened_behind}
use Rattle.gh_rpc.specs.Stream.{answers_giving}
use Rattle.gh_rpc.proofs.FeedLemmas.{continuation_fed, request_fed}

-- ---- streams in two parts

pub answers-append : (opened : Option Progress) (front back : List (List ℕ))
    → answers opened (front ++ back) ≡ answers opened front ++ answers (opened_behind opened front) back
answers-append opened [] back = refl
answers-append opened (bytes ∷ front) back =
    ap (λ others. (fed opened bytes).answer ∷ others) (answers-append (fed opened bytes).opened front back)

pub opened_behind-append : (opened : Option Progress) (front back : List (List ℕ))
    → opened_behind opened (front ++ back) ≡ opened_behind (opened_behind opened front) back
opened_behind-append opened [] back = refl
opened_behind-append opened (bytes ∷ front) back = opened_behind-append (fed opened bytes).opened front back

-- ---- the fragments of a message

-- two messages with the same parts are one
pub same_message : (m n : Message) → m.id ≡ n.id → m.sequence ≡ n.sequence → m.payload ≡ n.payload → m ≡ n
same_message m n id sequence payload =
    ap (λ i. record m { id = i }) id
    ∙ ap (λ s. record n { sequence = s; payload = m.payload }) sequence
    ∙ ap (λ p. record n { payload = p }) payload

-- a message without lacking fragments is given
pub accepted_whole : (p : Progress) → p.lacking ≡ 0
    → accepted p ≡ record { answer = Ok (Some p.message); opened = None }
accepted_whole p none = grind (arith, common_steps, none)

-- a message that lacks fragments stays open
pub accepted_part : (p : Progress) (n : ℕ) → p.lacking ≡ suc n
    → accepted p ≡ record { answer = Ok None; opened = Some p }
accepted_part p n some = grind (arith, common_steps, some)

-- the message so far with the payloads of these fragments
unfoldable pub grown : Message → List (List ℕ) → Message
grown m others = record m { payload = m.payload ++ flat_map payload_of others }

-- so many answers without a message, and then the message
giving : Message → ℕ → List (Result (Option Message) RpcFault)
giving m n = replicate n (Ok None) ++ Ok (Some m) ∷ []

-- what a message so far gives with the fragments that it lacks
record Gives (p : Progress) (others : List (List ℕ)) : Type 0 where
  given : (accepted p).answer ∷ answers (accepted p).opened others ≡ giving (grown p.message others) (length others)
  closed : opened_behind (accepted p).opened others ≡ None

gives : (p : Progress) (others : List (List ℕ)) → p.lacking ≡ length others
    → All (Continues p.message.id p.message.sequence) others → Gives p others
unfolding giving grown
gives p [] lacking all = record {
  given = rw (accepted_whole p lacking) (
      ap (λ bs. Ok (Some (record p.message { payload = bs })) ∷ []) (sym (append-nil p.message.payload)));
  closed = rw (accepted_whole p lacking);
}
gives p (bytes ∷ others) lacking all =
    let next = continuation_fed p bytes (All-head (Continues p.message.id p.message.sequence) bytes others all) in
    let rest = gives (continued p (payload_of bytes)) others (omega arith)
    (All-tail (Continues p.message.id p.message.sequence) bytes others all) in
    record {
      given = rw (accepted_part p (length others) lacking, next) (
          ap (λ others. Ok None ∷ others) rest.given
          ∙ ap (λ bs. giving (record p.message { payload = bs }) (suc (length others)))
          (append_assoc p.message.payload (payload_of bytes) (flat_map payload_of others)));
      closed = rw (accepted_part p (length others) lacking, next) rest.closed;
    }

-- the message that a request and the fragments behind it are
grown_message : (first : List ℕ) (others : List (List ℕ)) (m : Message) → Begins 0 first others m
    → grown (begun (header_of first) (payload_of first)).message others ≡ m
unfolding grown
grown_message first others m it =
    same_message _ m (sym it.id) (sym it.sequence) (sym it.payload)

-- the message so far behind the request gives the message
gives_message : (first : List ℕ) (others : List (List ℕ)) (m : Message) → Begins 0 first others m
    → Gives (begun (header_of first) (payload_of first)) others
gives_message first others m it =
    gives (begun (header_of first) (payload_of first)) others (omega (arith, it.count))
    (rw (← it.id, ← it.sequence) it.continued)

pub message_given : (opened : Option Progress) (fragments : List (List ℕ)) (m : Message)
    → IsMessage fragments m → answers opened fragments ≡ answers_giving m (length fragments)
unfolding giving
message_given opened [] m it = absurd it
message_given opened (first ∷ others) m it =
    let n : suc (length others) - 1 ≡ length others = omega arith in
    rw (request_fed opened first it.fragment it.kind it.most) (
    (gives_message first others m it).given
    ∙ ap (λ whole. giving whole (length others)) (grown_message first others m it)
    ∙ ap (λ k. replicate k (Ok None) ++ Ok (Some m) ∷ []) (sym n))

pub message_closed : (opened : Option Progress) (fragments : List (List ℕ)) (m : Message)
    → IsMessage fragments m → opened_behind opened fragments ≡ None
message_closed opened [] m it = absurd it
message_closed opened (first ∷ others) m it =
    rw (request_fed opened first it.fragment it.kind it.most) (gives_message first others m it).closed
