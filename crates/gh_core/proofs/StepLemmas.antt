-- What an event's function answers tells whether the event is possible.
use Rattle.std.proofs.Common.{◌≡◌, Bool, true, false, refl, sym, subst, None, Some, Result, Ok, Err, IfOk}
use Rattle.gh_core.specs.Running.{stands_for}
use Rattle.gh_core.specs.Stepped.{Did, IsImpossible, IsStep, Steps}
use Rattle.gh_core.specs.declared.config.Running.{Running}
use Rattle.gh_events.specs.Config.{Config}
use Rattle.gh_events.specs.Events.{Possible, after}
use Rattle.gh_events.specs.declared.event.Event.{Event}

-- a test that tells the condition both ways, and what is made where it holds
pub did_made : (conf : Config) (event : Event) (next : Config) (test made : Bool) → made ≡ test
    → (made ≡ true → next ≡ after conf event) → (test ≡ true → Possible conf event) → (Possible conf event → test ≡ true)
    → Did conf event made next
did_made conf event next test true is then told tells = record { possible = told (sym is); behind = then refl }
did_made conf event next test false is then told tells =
    record { never = λ possible. (let holds : test ≡ true = tells possible in let never : ⊥ = cc in never) }

-- the same of an answer
pub did_by : {E : Type 0} (result : Result Bool E) (conf : Config) (event : Event) (next : Config) (test : Bool)
    → IfOk result (λ made. made ≡ test) → IfOk result (λ made. made ≡ true → next ≡ after conf event)
    → (test ≡ true → Possible conf event) → (Possible conf event → test ≡ true) → IfOk result (λ made. Did conf event made next)
did_by (Ok made) conf event next test is then told tells = did_made conf event next test made is then told tells
did_by (Err error) conf event next test is then told tells = tt

-- an answer whose three clauses are the parts of a step
pub did_all : {E : Type 0} (result : Result Bool E) (conf : Config) (event : Event) (next : Config)
    → IfOk result (λ made. made ≡ false → Possible conf event → ⊥) → IfOk result (λ made. made ≡ true → Possible conf event)
    → IfOk result (λ made. made ≡ true → next ≡ after conf event) → IfOk result (λ made. Did conf event made next)
did_all (Ok true) conf event next cannot may then = record { possible = may refl; behind = then refl }
did_all (Ok false) conf event next cannot may then = record { never = cannot refl }
did_all (Err error) conf event next cannot may then = tt

-- the event by its variant
pub did_at : {E : Type 0} (result : Result Bool E) (conf : Config) (event other : Event) (next : Config) → event ≡ other
    → IfOk result (λ made. Did conf other made next) → IfOk result (λ made. Did conf event made next)
did_at result conf event other next is did = subst (λ (e : Event). IfOk result (λ made. Did conf e made next)) (sym is) did

-- a step from the copied tables is one from those that were copied
pub step_made : (event : Event) (copy tables new next : Running) (made : Bool) → copy ≡ tables → next ≡ new → made ≡ true
    → Did (stands_for copy) event made (stands_for new) → Steps (stands_for tables) event (Some next)
step_made event copy tables new next true is same makes did =
    subst (λ (t : Running). IsStep (stands_for t) event (stands_for next)) is
    (subst (λ (n : Running). IsStep (stands_for copy) event (stands_for n)) (sym same) did)
step_made event copy tables new next false is same makes did = absurd (let never : ⊥ = cc in never)

pub step_none : (event : Event) (copy tables new : Running) (made : Bool) → copy ≡ tables → made ≡ false
    → Did (stands_for copy) event made (stands_for new) → Steps (stands_for tables) event None
step_none event copy tables new false is makes did = subst (λ (t : Running). IsImpossible (stands_for t) event) is did
step_none event copy tables new true is makes did = absurd (let never : ⊥ = cc in never)
