-- A create that is done makes an object.
use Rattle.std.proofs.Common.{◌≡◌, ◌⊎◌, inl, inr, ℕ, Bool, true, false, not, List, map, refl, sym, subst, Option, Some, None, if◌then◌else◌}
use Rattle.std.specs.Prelude.{[]}
use Rattle.gh_base.specs.Kind.{kind_numbered}
use Rattle.gh_base.specs.declared.call.Call.{Call}
use Rattle.gh_base.specs.declared.call.Call.TheVariants as calls
use Rattle.gh_base.specs.declared.errno.Errno.{Errno}
use Rattle.gh_base.specs.declared.errno.Errno.TheVariants.{CapRevoked, Nomem, ObjState, Retry}
use Rattle.gh_base.specs.declared.ids.Serial.{Serial}
use Rattle.gh_base.specs.declared.kind.Kind.{Kind}
use Rattle.gh_model.specs.Act.{grants_of}
use Rattle.gh_model.specs.CapabilityCalls.{free_slot}
use Rattle.gh_model.specs.Decide.{decided, decision, has_moved, is_at_end, stages_fit, verdict}
use Rattle.gh_model.specs.Decisions.{grant_at}
use Rattle.gh_model.specs.History.{may_act}
use Rattle.gh_model.specs.Marks.{word_of}
use Rattle.gh_model.specs.ObjectCalls.{created, created_in, lacks_room}
use Rattle.gh_model.specs.declared.change.Decision.{Decision}
use Rattle.gh_model.specs.declared.change.Decision.TheVariants.{Refuse}
use Rattle.gh_model.specs.declared.entry.Entry.TheVariants.{Acted}
use Rattle.gh_model.specs.declared.state.State.{State}
use Rattle.gh_invariant.specs.Events.{made_by}
use Rattle.gh_events.specs.Config.{Current, judged}
use Rattle.gh_events.specs.Entries.{logged}
use Rattle.gh_events.specs.HolderEvents.{is_create, is_done}
use Rattle.gh_schedules.specs.Committing.{cpu_no}
use Rattle.gh_schedules.specs.Indices.{kind_made}
use Rattle.gh_schedules.proofs.CallMakes.{MakesNew}
use Rattle.gh_schedules.proofs.EntryReferences.{MakesOne}

-- a decision is a refusal or makes such an object
abbrev Creates : State → Call → List Serial → Decision → Type 0
Creates s call grants decision =
    (is_done (verdict s decision) ≡ false) ⊎ MakesNew s call grants (made_by decision)

module _ (s : State) (call : Call) (grants : List Serial) where
  or_refused : (refused : Bool) (errno : Errno) (others : Decision) → Creates s call grants others
      → Creates s call grants (if refused then Refuse errno else others)
  or_refused true errno others makes = inl refl
  or_refused false errno others makes = makes

  creates_in : (k : Kind) (slot : Option ℕ) → kind_made call ≡ Some k
      → Creates s call grants (created_in s (grant_at grants 0) (grant_at grants 1) k slot)
  creates_in k None numbered = inl refl
  creates_in k (Some slot) numbered =
      or_refused (lacks_room s (grant_at grants 0) k) Nomem _ (inr (record { kind = k; numbered = numbered; slot = slot; is = refl }))

  creates_by : (k : Option Kind) → kind_made call ≡ k
      → Creates s call grants (created s (grant_at grants 0) (grant_at grants 1) k)
  creates_by None numbered = inl refl
  creates_by (Some k) numbered = creates_in k (free_slot s (grant_at grants 1).0) numbered

decided_creates : (s : State) (cpu : ℕ) (bytes : List ℕ) (grants : List Serial) (call : Call)
    → is_create call ≡ true → Creates s call grants (decided s cpu call bytes grants)
decided_creates s cpu bytes grants (calls.Create partition cspace number) is =
    creates_by s (calls.Create partition cspace number) grants (kind_numbered number) refl
decided_creates s cpu bytes grants _ is = absurd (let never : ⊥ = cc in never)

decision_creates : (s : State) (moved : Bool) (cpu : ℕ) (call : Call) (bytes : List ℕ)
    (grants : List Serial) → is_create call ≡ true
    → Creates s call grants (decision moved s cpu call bytes grants)
decision_creates s moved cpu call bytes grants is =
    or_refused s call grants (is_at_end s call grants) CapRevoked _
    (or_refused s call grants (not (stages_fit s call grants)) ObjState _
    (or_refused s call grants moved Retry _ (decided_creates s cpu bytes grants call is)))

module _ (s : State) (at number : ℕ) (call : Current)
    (creates : is_create call.given.call ≡ true)
    (may : may_act s at call.given.call (map word_of call.seen) ≡ true)
    (done : is_done (judged s at call) ≡ true) where
  abbrev its : Decision
  its =
      decision (has_moved s at call.given.call (map word_of call.seen)) s at call.given.call call.given.frame.bytes (grants_of call.given.call (map word_of call.seen))

  made : Creates s call.given.call (grants_of call.given.call (map word_of call.seen)) its
      → MakesNew s call.given.call (grants_of call.given.call (map word_of call.seen)) (made_by its)
  made (inl refused) = absurd (let never : ⊥ = cc in never)
  made (inr makes) = makes

  listed : MakesNew s call.given.call (grants_of call.given.call (map word_of call.seen))
      (if may_act s at call.given.call (map word_of call.seen) then made_by its else [])
  listed =
      subst (λ (one : Bool). MakesNew s call.given.call (grants_of call.given.call (map word_of call.seen)) (if one then made_by its else [])) (sym may)
      (made (decision_creates s (has_moved s at call.given.call (map word_of call.seen)) at call.given.call call.given.frame.bytes (grants_of call.given.call (map word_of call.seen)) creates))

  -- so its entry makes one
  pub create_makes : MakesOne s (logged (Acted (cpu_no at) number) call)
  create_makes = record { acts = refl; creates = creates; new = listed }
