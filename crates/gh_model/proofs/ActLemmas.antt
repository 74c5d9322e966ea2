-- What acts keep of the sums of units, the pages, the serials and the rings.
use Rattle.std.proofs.Common.{arith, ◌≡◌}
use Rattle.std.proofs.Common.{ℕ, Bool, List}
use Rattle.std.proofs.Common.{Result, Ok, Err, IfOk, OnErr, subst, sym}
use Rattle.gh_base.specs.declared.call.Call.{Call}
use Rattle.gh_base.specs.declared.ids.NoMemory.{NoMemory}
use Rattle.gh_base.specs.declared.ids.Serial.{Serial}
use Rattle.gh_model.specs.declared.change.Change.{Change}
use Rattle.gh_model.specs.declared.change.Decision.{Decision}
use Rattle.gh_model.specs.declared.change.Decision.TheVariants.{Refuse, Unfinished, Make}
use Rattle.gh_model.specs.declared.plain.Judged.{Judged}
use Rattle.gh_model.specs.declared.plain.Judged.TheVariants as says
use Rattle.gh_model.specs.declared.state.State.{State}
use Rattle.gh_model.specs.Act.{Judges, Done, Refused, counted}
use Rattle.gh_model.specs.Changes.{changed_all}
use Rattle.gh_model.specs.Decide.{decision}
use Rattle.gh_model.specs.Decide.{verdict}
use Rattle.gh_model.specs.Small.{IsKept}
use Rattle.gh_model.proofs.DecideLemmas.{MayDecide, MayMake, decision_may, small_kept}
use Rattle.gh_model.proofs.KeptLemmas.{AreSmall, changes_small}
use Rattle.gh_model.proofs.RoomLemmas.{CountsAll, changes_count}

-- every act

pub made_kept : (s : State) (changes : List Change) → MayMake s changes → IsKept s → IsKept (counted (changed_all s changes))
made_kept s changes may kept =
    let small : AreSmall (changed_all s changes) = changes_small s changes may.modest (small_kept s kept) in
    let counts : CountsAll s (changed_all s changes) changes = changes_count s changes in
    record {
      small = record { used = small.small.used; given = small.small.given; pages = small.small.pages };
      quotas = small.quotas;
      costs = small.costs;
      rings = omega (arith, counts.entries, counts.rings, may.rings, kept.rings);
      serials = omega (arith, counts.entries, counts.serials, may.serials, kept.serials);
    }

verdict_kept : (s new : State) (d : Decision) (judged : Judged) → MayDecide s d → Judges s new judged (verdict s d) → IsKept s → IsKept new
verdict_kept s new (Refuse errno) (says.Done reply) may is kept = absurd (let never : ⊥ = cc in never)
verdict_kept s new (Refuse errno) (says.Refused reply) may is kept = subst (λ (t : State). IsKept t) (sym is.1) kept
verdict_kept s new Unfinished (says.Done reply) may is kept = absurd (let never : ⊥ = cc in never)
verdict_kept s new Unfinished (says.Refused reply) may is kept = subst (λ (t : State). IsKept t) (sym is.1) kept
verdict_kept s new (Make changes its_reply) (says.Done reply) may is kept =
    let same : counted (changed_all s changes) ≡ new = cc in
    subst (λ (t : State). IsKept t) same (made_kept s changes may kept)
verdict_kept s new (Make changes its_reply) (says.Refused reply) may is kept = absurd (let wrong : Done (counted (changed_all s changes)) its_reply ≡ Refused reply = is.0 in let never : ⊥ = cc in never)

-- an act keeps the sums of units and the pages small, and rings and gives a serial at most once
pub judged_kept : (s new : State) (judged : Judged) (moved : Bool) (cpu : ℕ) (call : Call) (bytes : List ℕ) (grants : List Serial) → Judges s new judged (verdict s (decision moved s cpu call bytes grants)) → IsKept s → IsKept new
judged_kept s new judged moved cpu call bytes grants is kept =
    verdict_kept s new (decision moved s cpu call bytes grants) judged (decision_may s (small_kept s kept) moved cpu call bytes grants).is is kept

-- and so it does with its answer, if it has one
pub act_kept : (s new : State) (moved : Bool) (cpu : ℕ) (call : Call) (bytes : List ℕ)
    (grants : List Serial) (result : Result Judged NoMemory)
    → IfOk result
    (λ judged. Judges s new judged (verdict s (decision moved s cpu call bytes grants)))
    → OnErr result (new ≡ s)
    → IsKept s
    → IsKept new
act_kept s new moved cpu call bytes grants (Ok judged) is same kept = judged_kept s new judged moved cpu call bytes grants is kept
act_kept s new moved cpu call bytes grants (Err none) is same kept = subst (λ (t : State). IsKept t) (sym same) kept
