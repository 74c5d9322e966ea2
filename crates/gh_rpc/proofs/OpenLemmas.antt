-- The open message is what the last fragments of the stream begin.
use Rattle.std.proofs.Common.{◌≡◌, ◌↔◌, ℕ, zero, suc, ◌+◌, ◌-◌, ◌<◌}
use Rattle.std.proofs.Common.{◌++◌, ◌∷◌, List, [], All, Option, None, Some, Result}
use Rattle.std.proofs.Common.{Ok, Err, length, replicate, refl, arith, sym, ◌∙◌, ap}
use Rattle.std.proofs.Common.{subst, append_assoc, append-nil, zero-add, length-append}
use Rattle.std.specs.List.{flat_map}
use Rattle.std.specs.Option.{option_or}
use Rattle.std.proofs.lemmas.Grind.{common_steps, flat_map-append}
use Rattle.std.proofs.lemmas.List.Elements.{All-nil, All-head, All-tail, All-push}
use Rattle.gh_base.specs.declared.fragment.FragmentKind.{FragmentKind}
use Rattle.gh_base.specs.declared.fragment.FragmentKind.TheVariants.{Continuation, Request}
use Rattle.gh_base.specs.declared.fragment.FragmentKind.TheVariants.{Reply, Notification}
use Rattle.gh_base.specs.declared.fragment.Message.{Message}
use Rattle.gh_base.specs.declared.fragment.RpcFault.{RpcFault}
use Rattle.gh_base.specs.RpcMessage.{Continues, IsBegun, IsFragment, header_of, payload_of}
use Rattle.gh_base.specs.RpcAssembly.{Progress, accepted, answers, begun}
use Rattle.gh_base.specs.RpcAssembly.{continuation_fault, continued, fault_of, fed}
use Rattle.gh_base.specs.RpcAssembly.{fragment_fault, header_fault, judged, kind_fault}
use Rattle.gh_base.specs.RpcAssembly.{opened_behind, progress_of, progress_of_kind}
use Rattle.gh_rpc.specs.Stream.{EndsUnfinished, EndsWith}
use Rattle.gh_rpc.proofs.FeedLemmas.{continuation_fed, is_fragment_without_fault, request_fed}
use Rattle.gh_rpc.proofs.StreamLemmas.{accepted_part, accepted_whole, answers-append, grown}
use Rattle.gh_rpc.proofs.StreamLemmas.{message_given, opened_behind-append, same_message}

-- the last fragments of a stream begin the message so far
record EndsBegun (p : Progress) (stream : List (List ℕ)) : Type 0 where
  before : List (List ℕ)
  fragments : List (List ℕ)
  split : stream ≡ before ++ fragments
  begun : IsBegun p.lacking fragments p.message

-- the message so far is still open
record IsOpen (p : Progress) (stream : List (List ℕ)) : Type 0 where
  wanted : 0 < p.lacking
  ends : EndsBegun p stream

-- whatever is open is open behind this stream
Remembers : Option Progress → List (List ℕ) → Type 0
Remembers None stream = Unit {0}
Remembers (Some p) stream = IsOpen p stream

-- ---- a fragment without a fault

first_none : (x y : Option RpcFault) → option_or x y ≡ None → x ≡ None
first_none None y none = refl
first_none (Some fault) y none = none

second_none : (x y : Option RpcFault) → option_or x y ≡ None → y ≡ None
second_none None y none = none
second_none (Some fault) y none = absurd (cc none)

-- a request begins a message
grows_by_request : (opened : Option Progress) (stream : List (List ℕ)) (bytes : List ℕ) → IsFragment bytes
    → (header_of bytes).kind ≡ Request → kind_fault Request opened (header_of bytes) ≡ None
    → EndsBegun (begun (header_of bytes) (payload_of bytes)) (stream ++ bytes ∷ [])
grows_by_request opened stream bytes it kind comes = record {
  before = stream;
  fragments = bytes ∷ [];
  split = refl;
  begun = record {
    fragment = it;
    kind = kind;
    count = sym (zero-add (header_of bytes).further);
    most = grind (arith, common_steps, comes);
    sequence = refl;
    id = refl;
    continued = All-nil (Continues (header_of bytes).id (header_of bytes).sequence);
    payload = sym (append-nil (payload_of bytes));
  };
}

-- a continuation goes on with what the fragments before it begin
goes_on : (p : Progress) (fragments : List (List ℕ)) (bytes : List ℕ) → 0 < p.lacking
    → IsBegun p.lacking fragments p.message → Continues p.message.id p.message.sequence bytes
    → IsBegun (p.lacking - 1) (fragments ++ bytes ∷ []) (continued p (payload_of bytes)).message
goes_on p [] bytes wanted it continues = absurd it
goes_on p (first ∷ others) bytes wanted it continues = record {
  fragment = it.fragment;
  kind = it.kind;
  count = omega (arith, it.count, length-append others (bytes ∷ []));
  most = it.most;
  sequence = it.sequence;
  id = it.id;
  continued = All-push (Continues p.message.id p.message.sequence) others bytes it.continued continues;
  payload = ap (λ bs. bs ++ payload_of bytes) it.payload
      ∙ append_assoc (payload_of first) (flat_map payload_of others) (payload_of bytes)
      ∙ ap (λ bs. payload_of first ++ bs)
      (ap (λ bs. flat_map payload_of others ++ bs) (sym (append-nil (payload_of bytes)))
      ∙ sym (flat_map-append payload_of others (bytes ∷ [])));
}

grows_by_continuation : (p : Progress) (stream : List (List ℕ)) (bytes : List ℕ) → IsFragment bytes
    → (header_of bytes).kind ≡ Continuation → continuation_fault (Some p) (header_of bytes) ≡ None
    → IsOpen p stream → EndsBegun (continued p (payload_of bytes)) (stream ++ bytes ∷ [])
grows_by_continuation p stream bytes it kind comes open_behind =
    let ends = open_behind.ends in
    record {
      before = ends.before;
      fragments = ends.fragments ++ bytes ∷ [];
      split = ap (λ s. s ++ bytes ∷ []) ends.split ∙ append_assoc ends.before ends.fragments (bytes ∷ []);
      begun = goes_on p ends.fragments bytes open_behind.wanted ends.begun (record {
        fragment = it;
        kind = kind;
        same_sequence = grind (arith, common_steps, comes);
        same_id = grind (arith, common_steps, comes);
      });
    }

grows_by_kind : (kind : FragmentKind) (opened : Option Progress) (stream : List (List ℕ)) (bytes : List ℕ)
    → IsFragment bytes → (header_of bytes).kind ≡ kind → kind_fault kind opened (header_of bytes) ≡ None
    → Remembers opened stream
    → EndsBegun (progress_of_kind kind opened (header_of bytes) (payload_of bytes)) (stream ++ bytes ∷ [])
unfolding Remembers
grows_by_kind Continuation None stream bytes it kind comes known = absurd (cc comes)
grows_by_kind Continuation (Some p) stream bytes it kind comes known =
    grows_by_continuation p stream bytes it kind comes known
grows_by_kind Request opened stream bytes it kind comes known =
    grows_by_request opened stream bytes it kind comes
grows_by_kind Reply opened stream bytes it kind comes known = absurd (cc comes)
grows_by_kind Notification opened stream bytes it kind comes known = absurd (cc comes)

-- a fragment without a fault stands behind those that begin the message so far
grows : (opened : Option Progress) (stream : List (List ℕ)) (bytes : List ℕ) → fault_of opened bytes ≡ None
    → Remembers opened stream → EndsBegun (progress_of opened bytes) (stream ++ bytes ∷ [])
unfolding fault_of progress_of
grows opened stream bytes none known =
    grows_by_kind (header_of bytes).kind opened stream bytes
    (is_fragment_without_fault bytes (first_none (fragment_fault bytes) (header_fault opened (header_of bytes)) none))
    refl
    (second_none (fragment_fault bytes) (header_fault opened (header_of bytes)) none)
    known

-- ---- what a fragment leaves open, and what it gives

remembers_accepted : (n : ℕ) (p : Progress) (stream : List (List ℕ)) → p.lacking ≡ n → EndsBegun p stream
    → Remembers (accepted p).opened stream
unfolding Remembers
remembers_accepted zero p stream lacking ends = rw (accepted_whole p lacking) tt
remembers_accepted (suc n) p stream lacking ends =
    rw (accepted_part p n lacking) (record { wanted = omega arith; ends = ends })

remembers_judged : (fault : Option RpcFault) (p : Progress) (stream : List (List ℕ))
    → (fault ≡ None → EndsBegun p stream) → Remembers (judged fault p).opened stream
unfolding Remembers
remembers_judged (Some fault) p stream ends = tt
remembers_judged None p stream ends = remembers_accepted p.lacking p stream refl (ends refl)

remembers_fed : (opened : Option Progress) (stream : List (List ℕ)) (bytes : List ℕ)
    → Remembers opened stream → Remembers (fed opened bytes).opened (stream ++ bytes ∷ [])
remembers_fed opened stream bytes known =
    remembers_judged (fault_of opened bytes) (progress_of opened bytes) (stream ++ bytes ∷ [])
    (λ none. grows opened stream bytes none known)

remembers_stream : (opened : Option Progress) (before stream : List (List ℕ))
    → Remembers opened before → Remembers (opened_behind opened stream) (before ++ stream)
remembers_stream opened before [] known = rw (append-nil before) known
remembers_stream opened before (bytes ∷ stream) known =
    rw (← append_assoc before (bytes ∷ []) stream)
    (remembers_stream (fed opened bytes).opened (before ++ bytes ∷ []) stream (remembers_fed opened before bytes known))

accepted_gives : (n : ℕ) (p : Progress) (m : Message) (stream : List (List ℕ)) → p.lacking ≡ n
    → EndsBegun p stream → (accepted p).answer ≡ Ok (Some m) → EndsWith m stream
accepted_gives zero p m stream lacking ends given =
    let same : p.message ≡ m = cc (ap (λ f. f.answer) (accepted_whole p lacking), given) in
    record {
      before = ends.before;
      fragments = ends.fragments;
      split = ends.split;
      message = rw (← lacking, ← same) ends.begun;
    }
accepted_gives (suc n) p m stream lacking ends given =
    absurd (cc (ap (λ f. f.answer) (accepted_part p n lacking), given))

judged_gives : (fault : Option RpcFault) (p : Progress) (m : Message) (stream : List (List ℕ))
    → (fault ≡ None → EndsBegun p stream) → (judged fault p).answer ≡ Ok (Some m) → EndsWith m stream
judged_gives (Some fault) p m stream ends given = absurd (cc given)
judged_gives None p m stream ends given = accepted_gives p.lacking p m stream refl (ends refl) given

-- a fragment gives only what the stream ends with
given_ends : (stream : List (List ℕ)) (bytes : List ℕ) (m : Message)
    → (fed (opened_behind None stream) bytes).answer ≡ Ok (Some m) → EndsWith m (stream ++ bytes ∷ [])
unfolding Remembers
given_ends stream bytes m given =
    judged_gives (fault_of (opened_behind None stream) bytes) (progress_of (opened_behind None stream) bytes) m
    (stream ++ bytes ∷ [])
    (λ none. grows (opened_behind None stream) stream bytes none (remembers_stream None [] stream tt))
    given

-- ---- the open message

unfinished_of : (opened : Option Progress) (p : Progress) (stream : List (List ℕ)) → Remembers opened stream
    → opened ≡ Some p → EndsUnfinished p stream
unfolding Remembers
unfinished_of None p stream known same = absurd (cc same)
unfinished_of (Some q) p stream known same =
    let one : q ≡ p = cc same in
    subst (λ (x : Progress). EndsUnfinished x stream) one (record {
      before = known.ends.before;
      fragments = known.ends.fragments;
      split = known.ends.split;
      wanted = known.wanted;
      begun = known.ends.begun;
    })

-- with some of the fragments that it lacks a message stays open
stays_open : (n : ℕ) (p : Progress) (others : List (List ℕ)) → p.lacking ≡ length others + suc n
    → All (Continues p.message.id p.message.sequence) others
    → opened_behind (accepted p).opened others ≡ Some (record { message = grown p.message others; lacking = suc n })
unfolding grown
stays_open n p [] lacking all =
    let left : p.lacking ≡ suc n = omega arith in
    rw (accepted_part p n left) (
    ap (λ k. Some (record p { lacking = k })) left
    ∙ ap (λ bs. Some (record { message = record p.message { payload = bs }; lacking = suc n }))
    (sym (append-nil p.message.payload)))
stays_open n p (bytes ∷ others) lacking all =
    let next = continuation_fed p bytes (All-head (Continues p.message.id p.message.sequence) bytes others all) in
    let more : p.lacking ≡ suc (length others + suc n) = omega arith in
    rw (accepted_part p (length others + suc n) more, next) (
    stays_open n (continued p (payload_of bytes)) others (omega arith)
    (All-tail (Continues p.message.id p.message.sequence) bytes others all)
    ∙ ap (λ bs. Some (record { message = record p.message { payload = bs }; lacking = suc n }))
    (append_assoc p.message.payload (payload_of bytes) (flat_map payload_of others)))

opens : (n : ℕ) (p : Progress) (opened : Option Progress) (fragments : List (List ℕ)) → p.lacking ≡ suc n
    → IsBegun p.lacking fragments p.message → opened_behind opened fragments ≡ Some p
unfolding grown
opens n p opened [] lacking it = absurd it
opens n p opened (first ∷ others) lacking it =
    let message : grown (begun (header_of first) (payload_of first)).message others ≡ p.message =
    same_message _ p.message (sym it.id) (sym it.sequence) (sym it.payload) in
    rw (request_fed opened first it.fragment it.kind it.most) (
    stays_open n (begun (header_of first) (payload_of first)) others (omega (arith, it.count, lacking))
    (rw (← it.id, ← it.sequence) it.continued)
    ∙ ap (λ m. Some (record { message = m; lacking = suc n })) message
    ∙ ap (λ k. Some (record p { lacking = k })) (sym lacking))

positive : (n : ℕ) → 0 < n → (m : ℕ) × (n ≡ suc m)
positive n some = (n - 1, omega arith)

open_of : (stream : List (List ℕ)) (p : Progress) → EndsUnfinished p stream → opened_behind None stream ≡ Some p
open_of stream p ends =
    let some = positive p.lacking ends.wanted in
    ap (opened_behind None) ends.split
    ∙ opened_behind-append None ends.before ends.fragments
    ∙ opens some.0 p (opened_behind None ends.before) ends.fragments some.1 ends.begun

pub open_exactly : (stream : List (List ℕ)) (p : Progress)
    → (opened_behind None stream ≡ Some p) ↔ EndsUnfinished p stream
unfolding Remembers
open_exactly stream p = (
  unfinished_of (opened_behind None stream) p stream (remembers_stream None [] stream tt),
  open_of stream p,
)

-- ---- the last answer

-- the last item, or this one
last_or : {A : Type 0} → A → List A → A
last_or a [] = a
last_or a (x ∷ xs) = last_or x xs

last_or-append : {A : Type 0} (a : A) (xs : List A) (x : A) → last_or a (xs ++ x ∷ []) ≡ x
unfolding last_or
last_or-append a [] x = refl
last_or-append a (y ∷ ys) x = last_or-append y ys x

-- what the stream ends with is given by its last fragment
ends_given : (stream : List (List ℕ)) (bytes : List ℕ) (m : Message)
    → EndsWith m (stream ++ bytes ∷ []) → (fed (opened_behind None stream) bytes).answer ≡ Ok (Some m)
ends_given stream bytes m ends =
    let waiting : Result (Option Message) RpcFault = Ok None in
    let front = replicate (length ends.fragments - 1) waiting in
    let whole : answers None stream ++ (fed (opened_behind None stream) bytes).answer ∷ []
    ≡ (answers None ends.before ++ front) ++ Ok (Some m) ∷ [] =
    sym (answers-append None stream (bytes ∷ []))
    ∙ ap (answers None) ends.split
    ∙ answers-append None ends.before ends.fragments
    ∙ ap (λ others. answers None ends.before ++ others)
    (message_given (opened_behind None ends.before) ends.fragments m ends.message)
    ∙ sym (append_assoc (answers None ends.before) front (Ok (Some m) ∷ []))
    in
    sym (last_or-append (Ok None) (answers None stream) (fed (opened_behind None stream) bytes).answer)
    ∙ ap (last_or (Ok None)) whole
    ∙ last_or-append (Ok None) (answers None ends.before ++ front) (Ok (Some m))

pub gives_exactly : (stream : List (List ℕ)) (bytes : List ℕ) (m : Message)
    → ((fed (opened_behind None stream) bytes).answer ≡ Ok (Some m)) ↔ EndsWith m (stream ++ bytes ∷ [])
gives_exactly stream bytes m = (given_ends stream bytes m, ends_given stream bytes m)

-- ---- behind a fault

accepted_answers : (n : ℕ) (p : Progress) (fault : RpcFault) → p.lacking ≡ n → (accepted p).answer ≡ Err fault → ⊥
accepted_answers zero p fault lacking given = cc (ap (λ f. f.answer) (accepted_whole p lacking), given)
accepted_answers (suc n) p fault lacking given = cc (ap (λ f. f.answer) (accepted_part p n lacking), given)

fault_closes : (found : Option RpcFault) (p : Progress) (fault : RpcFault)
    → (judged found p).answer ≡ Err fault → (judged found p).opened ≡ None
fault_closes (Some found) p fault given = refl
fault_closes None p fault given = absurd (accepted_answers p.lacking p fault refl given)

pub begins_anew : (opened : Option Progress) (stream : List (List ℕ)) (bytes : List ℕ) (rest : List (List ℕ))
    (fault : RpcFault) → (fed (opened_behind opened stream) bytes).answer ≡ Err fault
    → answers opened (stream ++ bytes ∷ rest) ≡ answers opened stream ++ Err fault ∷ answers None rest
begins_anew opened stream bytes rest fault given =
    let behind = opened_behind opened stream in
    answers-append opened stream (bytes ∷ rest)
    ∙ ap (λ others. answers opened stream ++ others)
    (ap (λ a. a ∷ answers (fed behind bytes).opened rest) given
    ∙ ap (λ o. Err fault ∷ answers o rest)
    (fault_closes (fault_of behind bytes) (progress_of behind bytes) fault given))
