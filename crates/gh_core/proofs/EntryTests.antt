-- The tests of the holder's entries tell their conditions.
use Rattle.std.proofs.Common.{◌≡◌, ◌==◌, ◌+◌, ◌<◌, ◌∙◌, ℕ, zero, suc, Bool, true, false, List, [], ◌∷◌, length, refl, ap, sym, subst, arith, Option, Some, None, nat_lt, slice_get, if◌then◌else◌, IfSome}
use Rattle.gh_base.specs.Counters.{HaveLeft, is_odd}
use Rattle.gh_base.specs.Errno.{errno_number}
use Rattle.gh_base.specs.declared.errno.Errno.{Errno}
use Rattle.gh_base.specs.declared.errno.Errno.TheVariants as errors
use Rattle.gh_base.specs.declared.frame.Reply.{Reply}
use Rattle.gh_base.specs.declared.limits.TheConstants.{CPUS}
use Rattle.gh_model.specs.Act.{Verdict, Done, Refused}
use Rattle.gh_model.specs.Decide.{verdict}
use Rattle.gh_model.specs.Decisions.{done}
use Rattle.gh_model.specs.declared.change.Decision.{Decision}
use Rattle.gh_model.specs.declared.change.Decision.TheVariants.{Refuse, Unfinished, Make}
use Rattle.gh_model.specs.declared.state.State.{State}
use Rattle.gh_events.specs.Config.{Current, Holder, judged}
use Rattle.gh_events.specs.Entries.{AreScans}
use Rattle.gh_core.specs.EntryTests.{are_scans, goes_on, has_left, have_left, is_unread, scans_are}
use Rattle.gh_events.specs.HolderEvents.{is_done}
use Rattle.gh_events.specs.TurnEvents.{is_scan}
use Rattle.gh_core.proofs.CallTests.{below, both, equal, is_below, is_equal, joined}

-- verdicts

pub record Makes (v : Verdict) : Type 0 where
  pub new : State
  pub reply : Reply
  pub is : v ≡ Done new reply

pub makes_told : (v : Verdict) → is_done v ≡ true → Makes v
makes_told (Done new reply) is = record { new = new; reply = reply; is = refl }
makes_told (Refused reply) is = absurd (let never : ⊥ = cc in never)

pub tells_makes : (v : Verdict) (new : State) (reply : Reply) → v ≡ Done new reply → is_done v ≡ true
tells_makes v new reply is = rw is refl

-- a refusal has a number that isn't 0
number_some : (errno : Errno) → (errno_number errno == 0) ≡ false
number_some errors.Unimplemented = refl
number_some errors.Retry = refl
number_some errors.ArgInval = refl
number_some errors.ArgSize = refl
number_some errors.ArgAlign = refl
number_some errors.Nomem = refl
number_some errors.AddrOvfl = refl
number_some errors.AddrInval = refl
number_some errors.Denied = refl
number_some errors.Busy = refl
number_some errors.ObjState = refl
number_some errors.ObjConfig = refl
number_some errors.CapNull = refl
number_some errors.CapRevoked = refl
number_some errors.WrongType = refl
number_some errors.InsufRights = refl
number_some errors.CspaceFull = refl
number_some errors.QueueEmpty = refl
number_some errors.QueueFull = refl

goes_by : (s : State) (d : Decision) → goes_on (verdict s d) ≡ true → verdict s d ≡ Refused done
goes_by s (Refuse errno) is = absurd (let some : (errno_number errno == 0) ≡ false = number_some errno in let never : ⊥ = cc in never)
goes_by s Unfinished is = refl
goes_by s (Make changes reply) is = absurd (let never : ⊥ = cc in never)

-- an act that is refused with 0 has capabilities left
pub goes_told : (s : State) (cpu : ℕ) (call : Current) → goes_on (judged s cpu call) ≡ true → judged s cpu call ≡ Refused done
goes_told s cpu call is = goes_by s _ is

pub tells_goes : (v : Verdict) → v ≡ Refused done → goes_on v ≡ true
tells_goes v is = rw is refl

-- scans

scan_told : (counter : ℕ) (scan : Option ℕ) → is_scan counter scan ≡ true → Some counter ≡ scan
scan_told counter None is = absurd (let never : ⊥ = cc in never)
scan_told counter (Some scan) is = ap (λ (n : ℕ). Some n) (sym (equal scan counter is))

tells_scan : (counter : ℕ) (scan : Option ℕ) → Some counter ≡ scan → is_scan counter scan ≡ true
tells_scan counter scan is = subst (λ (o : Option ℕ). is_scan counter o ≡ true) is (is_equal counter counter refl)

scans_told : (scans : ℕ → Option ℕ) (at : ℕ) (seen : List ℕ) → scans_are scans at seen ≡ true
    → (i n : ℕ) → i < length seen → n ≡ at + i → slice_get seen i ≡ scans n
scans_told scans at [] are i n within is = absurd (let never : ⊥ = omega (arith, within) in never)
scans_told scans at (counter ∷ seen) are zero n within is =
    let here : Some counter ≡ scans at = scan_told counter (scans at) (both (is_scan counter (scans at)) _ are).0 in
    here ∙ ap scans (let same : at ≡ n = omega (arith, is) in same)
scans_told scans at (counter ∷ seen) are (suc i) n within is =
    scans_told scans (at + 1) seen (both (is_scan counter (scans at)) _ are).1 i n (omega (arith, within)) (omega (arith, is))

tells_scans : (scans : ℕ → Option ℕ) (at : ℕ) (seen : List ℕ) → ((i n : ℕ) → i < length seen → n ≡ at + i → slice_get seen i ≡ scans n)
    → scans_are scans at seen ≡ true
tells_scans scans at [] each = refl
tells_scans scans at (counter ∷ seen) each =
    joined (is_scan counter (scans at)) _ (tells_scan counter (scans at) (each 0 at (omega arith) (omega arith)))
    (tells_scans scans (at + 1) seen (λ i n within is. each (suc i) n (omega (arith, within)) (omega (arith, is))))

pub are_scans_told : (holder : Holder) (seen : List ℕ) → are_scans holder seen ≡ true → AreScans holder seen
are_scans_told holder seen is =
    let parts = both (length seen == CPUS) _ is in
    let nine : length seen ≡ CPUS = equal (length seen) CPUS parts.0 in
    record {
      nine = nine;
      each = λ cpu within. scans_told holder.scans 0 seen parts.1 cpu cpu (subst (λ (n : ℕ). cpu < n) (sym nine) within) (omega arith);
    }

pub tells_are_scans : (holder : Holder) (seen : List ℕ) → AreScans holder seen → are_scans holder seen ≡ true
tells_are_scans holder seen are =
    joined (length seen == CPUS) _ (is_equal (length seen) CPUS are.nine)
    (tells_scans holder.scans 0 seen (λ i n within is.
    are.each i (subst (λ (m : ℕ). i < m) are.nine within) ∙ ap holder.scans (let same : i ≡ n = omega (arith, is) in same)))

-- readers that have left

left_by : (before now : ℕ) (odd : Bool) → is_odd before ≡ odd → (if odd then nat_lt before now else true) ≡ true → is_odd before ≡ true → before < now
left_by before now true is left odd = below before now left
left_by before now false is left odd = absurd (let never : ⊥ = cc in never)

tells_by : (before now : ℕ) (odd : Bool) → is_odd before ≡ odd → (is_odd before ≡ true → before < now) → (if odd then nat_lt before now else true) ≡ true
tells_by before now true is left = is_below before now (left is)
tells_by before now false is left = refl

pub have_left_told : (before now : List ℕ) → have_left before now ≡ true → HaveLeft before now
have_left_told [] [] is = tt
have_left_told [] (n ∷ now) is = absurd (let never : ⊥ = cc in never)
have_left_told (b ∷ before) [] is = absurd (let never : ⊥ = cc in never)
have_left_told (b ∷ before) (n ∷ now) is =
    let parts = both (has_left b n) (have_left before now) is in
    (left_by b n (is_odd b) refl parts.0, have_left_told before now parts.1)

pub tells_have_left : (before now : List ℕ) → HaveLeft before now → have_left before now ≡ true
tells_have_left [] [] left = refl
tells_have_left [] (n ∷ now) left = absurd left
tells_have_left (b ∷ before) [] left = absurd left
tells_have_left (b ∷ before) (n ∷ now) left =
    joined (has_left b n) (have_left before now) (tells_by b n (is_odd b) refl left.0) (tells_have_left before now left.1)

pub unread_told : (before : Option (List ℕ)) (seen : List ℕ) → is_unread before seen ≡ true → IfSome before (λ (counters : List ℕ). HaveLeft counters seen)
unread_told None seen is = tt
unread_told (Some before) seen is = have_left_told before seen is

pub tells_unread : (before : Option (List ℕ)) (seen : List ℕ) → IfSome before (λ (counters : List ℕ). HaveLeft counters seen) → is_unread before seen ≡ true
tells_unread None seen left = refl
tells_unread (Some before) seen left = tells_have_left before seen left
