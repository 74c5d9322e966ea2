-- What a fragment without a fault does, and when there is none.
use Rattle.std.proofs.Common.{◌≡◌, ℕ, ◌≤◌, List, Option, None, Some, arith}
use Rattle.std.proofs.lemmas.Grind.{common_steps}
use Rattle.gh_base.specs.declared.fragment.FragmentKind.TheVariants.{Request}
use Rattle.gh_base.specs.RpcMessage.{Continues, IsFragment, header_of, payload_of}
use Rattle.gh_base.specs.RpcAssembly.{Progress, accepted, begun, continuation_fault, continued}
use Rattle.gh_base.specs.RpcAssembly.{fault_of, fed, fragment_fault, kind_fault, progress_of}

-- bytes that are a fragment have no fault as such
no_fragment_fault : (bytes : List ℕ) → IsFragment bytes → fragment_fault bytes ≡ None
no_fragment_fault bytes it = grind (arith, common_steps, it.header, it.room, it.version)

-- bytes without such a fault are a fragment
pub is_fragment_without_fault : (bytes : List ℕ) → fragment_fault bytes ≡ None → IsFragment bytes
is_fragment_without_fault bytes none = record {
  header = grind (arith, common_steps, none);
  room = grind (arith, common_steps, none);
  version = grind (arith, common_steps, none);
}

-- a request with few enough fragments begins its message
pub request_fed : (opened : Option Progress) (bytes : List ℕ) → IsFragment bytes
    → (header_of bytes).kind ≡ Request → (header_of bytes).further ≤ 62
    → fed opened bytes ≡ accepted (begun (header_of bytes) (payload_of bytes))
unfolding fault_of progress_of
request_fed opened bytes it kind most =
    let whole : fragment_fault bytes ≡ None = no_fragment_fault bytes it in
    let comes : kind_fault Request opened (header_of bytes) ≡ None = grind (arith, common_steps) in
    rw (whole, kind, comes)

-- a continuation goes on with the open message
pub continuation_fed : (p : Progress) (bytes : List ℕ) → Continues p.message.id p.message.sequence bytes
    → fed (Some p) bytes ≡ accepted (continued p (payload_of bytes))
unfolding fault_of progress_of
continuation_fed p bytes it =
    let whole : fragment_fault bytes ≡ None = no_fragment_fault bytes it.fragment in
    let comes : continuation_fault (Some p) (header_of bytes) ≡ None =
    grind (arith, common_steps, it.same_sequence, it.same_id) in
    rw (whole, it.kind, comes)
