-- The marks of a run grow with the finished calls of its CPUs, and the reply to a CPU's last call
-- stands in its last mark.
use Rattle.std.proofs.Common.{◌≡◌, ◌==◌, ◌+◌, ◌-◌, ◌<◌, ◌≤◌, ◌∙◌, ◌⊎◌, inl, inr, ℕ, zero, suc, Bool, true, false, List, [], ◌∷◌, ◌++◌, length, refl, subst, sym, ap, arith, Option, Some, None, filter, map, is_some, eq-eqb, if◌then◌else◌}
use Rattle.std.proofs.lemmas.Bool.{eqb-true}
use Rattle.std.specs.Borrow.{Bor}
use Rattle.std.specs.List.{last_or}
use Rattle.std.specs.Option.{option_map}
use Rattle.std.proofs.lemmas.List.{length-append, map-append}
use Rattle.std.proofs.lemmas.List.Elements.{filter-append}
use Rattle.gh_base.specs.declared.frame.Reply.{Reply}
use Rattle.gh_base.specs.declared.limits.TheConstants.{CPUS}
use Rattle.gh_base.specs.declared.mark.Mark.{Mark}
use Rattle.gh_items.specs.Calling.{AddsMark, EndsCall}
use Rattle.gh_model.specs.Marks.{Made, mark_of, reply_of}
use Rattle.gh_model.specs.Programs.{told}
use Rattle.gh_model.specs.Run.{is_mark_of}
use Rattle.gh_model.proofs.RunLists.{last_or_snoc, no_item}
use Rattle.std.specs.Prelude.{drop, slice_get}
use Rattle.std.proofs.Common.{get_or}
use Rattle.std.proofs.lemmas.Option.{slice_get-get_or}
use Rattle.gh_schedules.specs.Course.{last_reply}

-- lists that grow by one

-- a list that grew isn't the same
longer : {X : Type 0} (xs ys : List X) (x : X) → ys ≡ xs ++ x ∷ [] → ys ≡ xs → ⊥
longer {X} xs ys x grown same =
    let counted : length ys ≡ length xs + 1 = ap (λ (zs : List X). length zs) grown ∙ length-append xs (x ∷ []) in
    let equal : length ys ≡ length xs = ap (λ (zs : List X). length zs) same in
    omega arith

-- a list grows by one item alone
same_last : {X : Type 0} (xs ys : List X) (x y : X) → ys ≡ xs ++ x ∷ [] → ys ≡ xs ++ y ∷ [] → x ≡ y
same_last {X} xs ys x y first second =
    let both : Some x ≡ Some y = sym (last_or_snoc None xs x) ∙ ap (last_or None) (sym first ∙ second) ∙ last_or_snoc None xs y in
    cc

-- a mark behind others is the last of its CPU
own_mark : (cpu : ℕ) (marks : List Mark) (mark : Mark) → mark.cpu.0 ≡ cpu
    → filter (is_mark_of cpu) (marks ++ mark ∷ []) ≡ filter (is_mark_of cpu) marks ++ mark ∷ []
own_mark cpu marks mark is =
    filter-append (is_mark_of cpu) marks (mark ∷ [])
    ∙ ap (λ (own : Bool). filter (is_mark_of cpu) marks ++ (if own then mark ∷ [] else [])) (eq-eqb mark.cpu.0 cpu is)

-- what a call's end does to the marks

module _ (before behind : List Mark) (made later : ℕ → List Made)
    (was : (cpu : ℕ) → cpu < CPUS → map mark_of (made cpu) ≡ filter (is_mark_of cpu) before)
    (is : (cpu : ℕ) → cpu < CPUS → map mark_of (later cpu) ≡ filter (is_mark_of cpu) behind)
    (adds : AddsMark before behind) where
  -- the mark of a CPU that ended no call can't have come
  no_mark : (ends : EndsCall before behind) → later ends.mark.cpu.0 ≡ made ends.mark.cpu.0 → ⊥
  no_mark ends same =
      longer (filter (is_mark_of ends.mark.cpu.0) before) (filter (is_mark_of ends.mark.cpu.0) behind) ends.mark
      (ap (filter (is_mark_of ends.mark.cpu.0)) ends.is ∙ own_mark ends.mark.cpu.0 before ends.mark refl)
      (sym (is ends.mark.cpu.0 ends.its_cpu) ∙ ap (map mark_of) same ∙ was ends.mark.cpu.0 ends.its_cpu)

  -- where no call ended the marks are the same
  pub same_marks : ((cpu : ℕ) → cpu < CPUS → later cpu ≡ made cpu) → behind ≡ before
  same_marks same = elim adds as (λ _. behind ≡ before) [
    | inl none ↦ none
    | inr ends ↦ absurd (no_mark ends (same ends.mark.cpu.0 ends.its_cpu))
  ]

  -- where one did its mark is the last
  module _ (at : ℕ) (call : Made) (within : at < CPUS) (one : later at ≡ made at ++ call ∷ [])
      (others : (cpu : ℕ) → (cpu == at) ≡ false → later cpu ≡ made cpu) where
    -- the CPU's marks grow by its call's
    grown : filter (is_mark_of at) behind ≡ filter (is_mark_of at) before ++ mark_of call ∷ []
    grown =
        sym (is at within) ∙ ap (map mark_of) one ∙ map-append mark_of (made at) (call ∷ [])
        ∙ ap (λ (marks : List Mark). marks ++ mark_of call ∷ []) (was at within)

    by_cpu : (ends : EndsCall before behind) (own : Bool) → (ends.mark.cpu.0 == at) ≡ own
        → behind ≡ before ++ mark_of call ∷ []
    by_cpu ends false other = absurd (no_mark ends (others ends.mark.cpu.0 other))
    by_cpu ends true own =
        let its : filter (is_mark_of at) behind ≡ filter (is_mark_of at) before ++ ends.mark ∷ [] =
        ap (filter (is_mark_of at)) ends.is ∙ own_mark at before ends.mark (eqb-true ends.mark.cpu.0 at own) in
        ends.is
        ∙ ap (λ (mark : Mark). before ++ mark ∷ [])
        (same_last (filter (is_mark_of at) before) (filter (is_mark_of at) behind) ends.mark (mark_of call) its grown)

    pub one_mark : behind ≡ before ++ mark_of call ∷ []
    one_mark = elim adds as (λ _. behind ≡ before ++ mark_of call ∷ []) [
      | inl none ↦ absurd (longer (filter (is_mark_of at) before) (filter (is_mark_of at) behind) (mark_of call) grown (ap (filter (is_mark_of at)) none))
      | inr ends ↦ by_cpu ends (ends.mark.cpu.0 == at) refl
    ]

-- the last reply

-- the last of what a list is mapped to
last_map : {X Y : Type 0} (f : X → Y) (first : Option X) (xs : List X)
    → last_or (option_map f first) (map f xs) ≡ option_map f (last_or first xs)
last_map f first [] = refl
last_map f first (x ∷ xs) = last_map f (Some x) xs

-- the reply to a call stands in its mark
mark_reply : (call : Option Made) → option_map (λ (mark : Mark). mark.reply) (option_map mark_of call) ≡ option_map reply_of call
mark_reply None = refl
mark_reply (Some call) = refl

-- the reply in the last mark of a CPU is the last that it got
pub reply_is : (made : List Made) (marks : List Mark) (reply : Option Reply) → map mark_of made ≡ marks
    → reply ≡ option_map (λ (mark : Mark). mark.reply) (last_or None marks)
    → reply ≡ last_reply made
reply_is made marks reply are is =
    is
    ∙ ap (λ (list : List Mark). option_map (λ (mark : Mark). mark.reply) (last_or None list)) (sym are)
    ∙ ap (option_map (λ (mark : Mark). mark.reply)) (last_map mark_of None made)
    ∙ mark_reply (last_or None made)

-- a reply is told where there is one
pub is_told : (last : Option (Bor Reply)) → is_some (told last) ≡ is_some last
is_told None = refl
is_told (Some reply) = refl

-- a call that was made has a reply
pub some_last : (made : List Made) (call : Made) → is_some (last_reply (made ++ call ∷ [])) ≡ true
some_last made call = ap (λ (one : Option Made). is_some (option_map reply_of one)) (last_or_snoc None made call)

-- the last mark of a CPU is the one behind which it has no other
module _ (p : Mark → Bool) where
  last_by : (first : Option Mark) (one : Mark) (marks : List Mark) (mark : Mark) (here : Bool)
      → ((before : Option Mark) → last_or before (filter p marks) ≡ Some mark)
      → last_or first (if here then one ∷ filter p marks else filter p marks) ≡ Some mark
  last_by first one marks mark true rest = rest (Some one)
  last_by first one marks mark false rest = rest first

  last_at : (marks : List Mark) (at : ℕ) (mark : Mark) (first : Option Mark) → slice_get marks at ≡ Some mark → p mark ≡ true
      → filter p (drop (suc at) marks) ≡ [] → last_or first (filter p marks) ≡ Some mark
  last_at [] at mark first is own none = absurd (no_item at mark is)
  last_at (one ∷ marks) zero mark first is own none =
      let same : one ≡ mark = cc in
      ap (λ (here : Bool). last_or first (if here then one ∷ filter p marks else filter p marks)) (ap p same ∙ own)
      ∙ ap (last_or (Some one)) none ∙ ap Some same
  last_at (one ∷ marks) (suc at) mark first is own none =
      last_by first one marks mark (p one) (λ before. last_at marks at mark before is own none)

  pub last_found : (marks : List Mark) (at : ℕ) (mark : Mark) → 0 < at → at ≤ length marks
      → mark ≡ get_or marks (at - 1) mark → p mark ≡ true
      → filter p (drop at marks) ≡ [] → Some mark ≡ last_or None (filter p marks)
  last_found marks at mark some within is own none =
      sym (last_at marks (at - 1) mark None (slice_get-get_or marks (at - 1) mark (omega arith) ∙ ap Some (sym is)) own
      (subst (λ (n : ℕ). filter p (drop n marks) ≡ []) (let sum : at ≡ suc (at - 1) = omega arith in sum) none))
