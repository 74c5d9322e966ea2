-- The fragments that are made of a message are that message.
use Rattle.std.proofs.Common.{◌≡◌, ℕ, zero, suc, ◌-◌, ◌*◌, ◌/◌}
use Rattle.std.proofs.Common.{◌≤◌, ◌++◌, List, All, length, take, drop}
use Rattle.std.proofs.Common.{refl, arith, sym, ◌∙◌, ap, length-take}
use Rattle.std.specs.List.{flat_map}
use Rattle.std.proofs.lemmas.List.{drop_all, take-append-drop, length-drop}
use Rattle.std.proofs.lemmas.List.Elements.{All-nil, All-cons}
use Rattle.gh_base.specs.declared.fragment.FragmentKind.{FragmentKind}
use Rattle.gh_base.specs.declared.fragment.FragmentKind.TheVariants.{Continuation, Request}
use Rattle.gh_base.specs.declared.fragment.Message.{Message}
use Rattle.gh_base.specs.RpcMessage.{Continues, IsFragment, IsMessage, IsWithinFields}
use Rattle.gh_base.specs.RpcMessage.{continuations, filled, fragments_of}
use Rattle.gh_base.specs.RpcMessage.{further_fragments, header_in, header_of, payload_of}
use Rattle.gh_rpc.proofs.HeaderLemmas.{HeaderFits, header_read, is_fragment, payload_read}

-- a payload that has room needs 62 further fragments at most
further_most : (n : ℕ) → n ≤ 14616 → (n - 1) / 232 ≤ 62
further_most n room = omega arith

-- what is left behind the first fragment has room in the others
left_fits : (n : ℕ) → n - 232 ≤ (n - 1) / 232 * 232
left_fits n = omega arith

header_fits : (m : Message) (kind : FragmentKind) → IsWithinFields m → HeaderFits (header_in m kind)
header_fits m kind within =
    let most : further_fragments m.payload ≤ 62 = further_most (length m.payload) within.payload in
    record { further = omega arith; sequence = within.sequence; id = within.id }

filled_fragment : (m : Message) (kind : FragmentKind) (left : List ℕ) → IsFragment (filled m kind left)
filled_fragment m kind left =
    is_fragment (header_in m kind) (take 232 left) (omega (arith, length-take 232 left))

filled_header : (m : Message) (kind : FragmentKind) (left : List ℕ) → IsWithinFields m
    → header_of (filled m kind left) ≡ header_in m kind
filled_header m kind left within =
    header_read (header_in m kind) (take 232 left) (header_fits m kind within)

filled_payload : (m : Message) (kind : FragmentKind) (left : List ℕ) → payload_of (filled m kind left) ≡ take 232 left
filled_payload m kind left = payload_read (header_in m kind) (take 232 left)

continuations_count : (m : Message) (n : ℕ) (left : List ℕ) → length (continuations m n left) ≡ n
unfolding continuations
continuations_count m zero left = refl
continuations_count m (suc n) left = ap suc (continuations_count m n (drop 232 left))

continuation_continues : (m : Message) (left : List ℕ) → IsWithinFields m
    → Continues m.id m.sequence (filled m Continuation left)
continuation_continues m left within =
    let read = filled_header m Continuation left within in
    record {
      fragment = filled_fragment m Continuation left;
      kind = ap (λ h. h.kind) read;
      same_sequence = ap (λ h. h.sequence) read;
      same_id = ap (λ h. h.id) read;
    }

continuations_continue : (m : Message) (n : ℕ) (left : List ℕ) → IsWithinFields m
    → All (Continues m.id m.sequence) (continuations m n left)
unfolding continuations
continuations_continue m zero left within = All-nil (Continues m.id m.sequence)
continuations_continue m (suc n) left within =
    All-cons (Continues m.id m.sequence) (filled m Continuation left) (continuations m n (drop 232 left))
    (continuation_continues m left within) (continuations_continue m n (drop 232 left) within)

continuations_payload : (m : Message) (n : ℕ) (left : List ℕ) → length left ≤ n * 232
    → flat_map payload_of (continuations m n left) ≡ left
unfolding continuations
continuations_payload m zero left room = sym (drop_all 0 left room)
continuations_payload m (suc n) left room =
    ap (λ bs. bs ++ flat_map payload_of (continuations m n (drop 232 left))) (filled_payload m Continuation left)
    ∙ ap (λ bs. take 232 left ++ bs) (continuations_payload m n (drop 232 left) (omega (arith, length-drop 232 left)))
    ∙ take-append-drop 232 left

-- the fragments of a message are that message
pub fragments_are_message : (m : Message) → IsWithinFields m → IsMessage (fragments_of m) m
unfolding fragments_of
fragments_are_message m within =
    let n = further_fragments m.payload in
    let read = filled_header m Request m.payload within in
    let rest = drop 232 m.payload in
    record {
      fragment = filled_fragment m Request m.payload;
      kind = ap (λ h. h.kind) read;
      count = ap (λ h. h.further) read ∙ sym (continuations_count m n rest) ∙ omega arith;
      most = rw (ap (λ h. h.further) read) (further_most (length m.payload) within.payload);
      sequence = sym (ap (λ h. h.sequence) read);
      id = sym (ap (λ h. h.id) read);
      continued = continuations_continue m n rest within;
      payload = sym (
          ap (λ bs. bs ++ flat_map payload_of (continuations m n rest)) (filled_payload m Request m.payload)
          ∙ ap (λ bs. take 232 m.payload ++ bs)
          (continuations_payload m n rest (omega (arith, length-drop 232 m.payload, left_fits (length m.payload))))
          ∙ take-append-drop 232 m.payload);
    }
