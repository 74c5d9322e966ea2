-- The grace of one CPU behind each step of its calls.
use Rattle.std.proofs.Common.{◌≡◌, ◌+◌, ◌*◌, ◌%◌, ◌<◌, ◌≤◌, ◌∙◌, ℕ, Bool, true, false, List, [], ◌∷◌, ◌++◌, ◌⊎◌, inl, inr, refl, subst, sym, ap, arith, Option, Some, None, is_some, slice_get, if◌then◌else◌}
use Rattle.std.specs.Prelude.{count_by, cond, nat_lt}
use Rattle.std.specs.List.{last_or}
use Rattle.std.proofs.lemmas.List.Sums.{sum_by-append}
use Rattle.gh_model.specs.Act.{granted}
use Rattle.gh_model.specs.Graced.{granting, was_granted}
use Rattle.gh_model.specs.History.{Event}
use Rattle.gh_model.specs.Marks.{Made, Outcome, Seen, place}
use Rattle.gh_events.specs.CallEvents.{end_of_looks}
use Rattle.gh_events.specs.Config.{AtAct, Cpu, Current, DeadPin, Failed, Looked, Reading, Stage, Undone}
use Rattle.gh_events.specs.Grace.{AreAtMost, CpuGrace, IsLeft, Objects, Reads, entered_now, granting_at, has_section, holds_grant, is_open_at, open_now, sections}
use Rattle.gh_events.specs.References.{grants_at}
use Rattle.gh_events.proofs.PinKeeps.{stands_in}

-- what is there is one
pub same_some : {X : Type 0} (one other : X) → Some one ≡ Some other → one ≡ other
same_some one other is = cc

-- a section that was left stays below a counter that rises
pub left_on : (counter more section : ℕ) → counter ≤ more → IsLeft counter section → IsLeft more section
left_on counter more section rises (inl none) = inl none
left_on counter more section rises (inr left) =
    let below : section < counter = left.1 in
    inr (left.0, omega (arith, below, rises))

-- so do the counters on entries
pub at_most_on : (history : List Event) (at bound more : ℕ) → bound ≤ more
    → AreAtMost history at bound → AreAtMost history at more
at_most_on history at bound more rises most =
    λ n event seen is keeps. omega (arith, most n event seen is keeps, rises)

-- a call in an open section, by its stage
pub open_one : (current : Option Current) (call : Current) → current ≡ Some call
    → is_open_at call.stage ≡ true → open_now current ≡ 1
open_one current call is opened = ap open_now is ∙ rw opened refl

pub closed_one : (current : Option Current) (call : Current) → current ≡ Some call
    → is_open_at call.stage ≡ false → open_now current ≡ 0
closed_one current call is closed = ap open_now is ∙ rw closed refl

-- in an open section the grants are those of the looks, but for a refused one
pub granting_open : (stage : Stage) (came : Outcome) (seen : List Seen) → is_open_at stage ≡ true
    → granting_at stage came seen ≡ granting (end_of_looks came) seen
granting_open Reading came seen opened = refl
granting_open Looked came seen opened = refl
granting_open DeadPin came seen opened = refl
granting_open Undone came seen opened = refl
granting_open Failed came seen opened = refl
granting_open AtAct came seen opened = absurd (let never : ⊥ = cc in never)

-- a call with a grant beside its pins is in its open section
pub grants_open : (stage : Stage) → grants_at stage ≡ true → is_open_at stage ≡ true
grants_open Reading grants = refl
grants_open Looked grants = refl
grants_open DeadPin grants = refl
grants_open Undone grants = refl
grants_open Failed grants = refl
grants_open AtAct grants = absurd (let never : ⊥ = cc in never)

-- one more finished call
pub count_more : (made : List Made) (new : Made) → count_by has_section (made ++ new ∷ [])
    ≡ count_by has_section made + count_by has_section (new ∷ [])
count_more made new = sum_by-append (λ (one : Made). cond (has_section one) 1 0) made (new ∷ [])

pub counts_section : (new : Made) (current : Option Current) (call : Current)
    → new.mark.section ≡ call.section → current ≡ Some call
    → count_by has_section (new ∷ []) ≡ entered_now current
counts_section new current call same is = by_test (nat_lt 0 call.section) refl
  where
    by_value : (here : Bool) → 0 + cond here 1 0 ≡ (if◌then◌else◌ {A = ℕ} here 1 0)
    by_value true = refl
    by_value false = refl

    by_test : (here : Bool) → nat_lt 0 call.section ≡ here → count_by has_section (new ∷ []) ≡ entered_now current
    by_test here test =
        ap (λ (one : Bool). 0 + cond one 1 0) (ap (nat_lt 0) same ∙ test) ∙ (by_value here ∙ sym (ap entered_now is ∙ ap (λ (one : Bool). if◌then◌else◌ {A = ℕ} one 1 0) test))

-- the counter of an open section is odd
pub odd_open : (counter total : ℕ) → counter + 1 ≡ 2 * total → counter % 2 ≡ 1
odd_open counter total is = omega (arith, is)

-- a call that left its section has one that was left
pub open_left : (counter total section : ℕ) → counter + 1 ≡ 2 * total → section ≡ counter
    → IsLeft (counter + 1) section
open_left counter total section is same =
    inr (ap (λ (n : ℕ). n % 2) same ∙ odd_open counter total is, omega (arith, same))

module _ (objects : Objects) (history : List Event) (at : ℕ) (cpu next : Cpu) (counter : ℕ)
    (scan : Option ℕ) (grace : CpuGrace objects history at cpu counter scan) where
  -- a call goes on in its open section: each grant is one that it had, or is of an object that isn't
  -- at its end
  pub record StaysOpen : Type 0 where
    pub call : Current
    pub other : Current
    pub is : cpu.current ≡ Some call
    pub now : next.current ≡ Some other
    pub was_open : is_open_at call.stage ≡ true
    pub still : is_open_at other.stage ≡ true
    pub section : other.section ≡ call.section
    pub made : next.made ≡ cpu.made
    pub grants : (serial : ℕ) → holds_grant serial other ≡ true
        → (holds_grant serial call ≡ true) ⊎ Reads objects at scan call.section serial
    pub last : (seen : Seen) → grants_at other.stage ≡ true → last_or None other.seen ≡ Some seen
        → holds_grant (granted seen.word).0 other ≡ true

  reads_by : (serial section : ℕ) (call : Current) → cpu.current ≡ Some call → section ≡ call.section
      → (holds_grant serial call ≡ true) ⊎ Reads objects at scan call.section serial
      → Reads objects at scan section serial
  reads_by serial section call is same (inl had) =
      subst (λ (n : ℕ). Reads objects at scan n serial) (sym same) (grace.reads call serial is had)
  reads_by serial section call is same (inr reads) =
      subst (λ (n : ℕ). Reads objects at scan n serial) (sym same) reads

  made_before : (made : List Made) → next.made ≡ made → made ≡ cpu.made → (i : ℕ) (one : Made)
      → slice_get next.made i ≡ Some one → slice_get cpu.made i ≡ Some one
  made_before made first second i one is =
      ap (λ (list : List Made). slice_get list i) (sym (first ∙ second)) ∙ is

  last_same : (other call : Current) (seen : Seen) → other ≡ call → grants_at call.stage ≡ true
      → last_or None call.seen ≡ Some seen
      → ((one : Seen) → grants_at other.stage ≡ true → last_or None other.seen ≡ Some one → holds_grant (granted one.word).0 other ≡ true)
      → holds_grant (granted seen.word).0 call ≡ true
  last_same other call seen same grants last all =
      sym (ap (holds_grant (granted seen.word).0) same) ∙ all seen (ap (λ (one : Current). grants_at one.stage) same ∙ grants) (ap (λ (one : Current). last_or None one.seen) same ∙ last)

  pub stays_open : StaysOpen → CpuGrace objects history at next counter scan
  stays_open on = record {
    counted = let old : open_now cpu.current ≡ 1 = open_one cpu.current on.call on.is on.was_open in let new : open_now next.current ≡ 1 = open_one next.current on.other on.now on.still in let entered : entered_now next.current ≡ entered_now cpu.current = ap entered_now on.now ∙ (ap (λ (n : ℕ). if nat_lt 0 n then 1 else 0) on.section ∙ sym (ap entered_now on.is)) in let count : count_by has_section next.made ≡ count_by has_section cpu.made = ap (count_by has_section) on.made in omega (arith, old, new, entered, count, grace.counted);
    opened = λ call is opened. let same : on.other ≡ call = same_some on.other call (sym on.now ∙ is) in sym (ap (λ (one : Current). one.section) same) ∙ (on.section ∙ grace.opened on.call on.is on.was_open);
    left = λ call is closed. let same : on.other ≡ call = same_some on.other call (sym on.now ∙ is) in let opened : is_open_at call.stage ≡ true = sym (ap (λ (one : Current). is_open_at one.stage) same) ∙ on.still in absurd (let never : ⊥ = cc in never);
    ended = λ i made is. grace.ended i made (made_before next.made refl on.made i made is);
    scanned = grace.scanned;
    acts = λ n i made scan_is is. grace.acts n i made scan_is (made_before next.made refl on.made i made is);
    kept_below = grace.kept_below;
    kept_scanned = grace.kept_scanned;
    grants = λ call seen is grants last. last_same on.other call seen (same_some on.other call (sym on.now ∙ is)) grants last on.last;
    reads = λ call serial is held. let same : on.other ≡ call = same_some on.other call (sym on.now ∙ is) in reads_by serial call.section on.call on.is (sym (ap (λ (one : Current). one.section) same) ∙ on.section) (on.grants serial (ap (holds_grant serial) same ∙ held));
    made_reads = λ i serial made is. grace.made_reads i serial made (made_before next.made refl on.made i made is);
  }

  -- a CPU with the same calls
  pub same_calls : next.current ≡ cpu.current → next.made ≡ cpu.made
      → CpuGrace objects history at next counter scan
  same_calls current made = record {
    counted = subst (λ (list : List Made). counter + open_now next.current ≡ 2 * (count_by has_section list + entered_now next.current)) (sym made) (subst (λ (one : Option Current). counter + open_now one ≡ 2 * (count_by has_section cpu.made + entered_now one)) (sym current) grace.counted);
    opened = λ call is. grace.opened call (sym current ∙ is);
    left = λ call is. grace.left call (sym current ∙ is);
    ended = λ i one is. grace.ended i one (made_before next.made refl made i one is);
    scanned = grace.scanned;
    acts = λ n i one scan_is is. grace.acts n i one scan_is (made_before next.made refl made i one is);
    kept_below = grace.kept_below;
    kept_scanned = grace.kept_scanned;
    grants = λ call seen is. grace.grants call seen (sym current ∙ is);
    reads = λ call serial is. grace.reads call serial (sym current ∙ is);
    made_reads = λ i serial one is. grace.made_reads i serial one (made_before next.made refl made i one is);
  }

  -- a call begins, without looks: in its section, by which the counter rises, or at its act
  pub record Begins (more : ℕ) : Type 0 where
    pub call : Current
    pub none : cpu.current ≡ None
    pub now : next.current ≡ Some call
    pub made : next.made ≡ cpu.made
    pub no_looks : (serial : ℕ) → holds_grant serial call ≡ false
    pub no_grant : grants_at call.stage ≡ false
    pub rises : counter ≤ more
    pub counts : more + open_now next.current ≡ counter + 2 * entered_now next.current
    pub opened : is_open_at call.stage ≡ true → call.section ≡ more
    pub left : is_open_at call.stage ≡ false → IsLeft more call.section

  pub begins : (more : ℕ) → Begins more → CpuGrace objects history at next more scan
  begins more on = record {
    counted = let open_before : open_now cpu.current ≡ 0 = ap open_now on.none in let entered_before : entered_now cpu.current ≡ 0 = ap entered_now on.none in let count : count_by has_section next.made ≡ count_by has_section cpu.made = ap (count_by has_section) on.made in omega (arith, open_before, entered_before, count, on.counts, grace.counted);
    opened = λ call is opened. let same : on.call ≡ call = same_some on.call call (sym on.now ∙ is) in subst (λ (one : Current). one.section ≡ more) same (on.opened (ap (λ (one : Current). is_open_at one.stage) same ∙ opened));
    left = λ call is closed. let same : on.call ≡ call = same_some on.call call (sym on.now ∙ is) in subst (λ (one : Current). IsLeft more one.section) same (on.left (ap (λ (one : Current). is_open_at one.stage) same ∙ closed));
    ended = λ i one is. left_on counter more one.mark.section on.rises (grace.ended i one (made_before next.made refl on.made i one is));
    scanned = λ n is. omega (arith, grace.scanned n is, on.rises);
    acts = λ n i one scan_is is. grace.acts n i one scan_is (made_before next.made refl on.made i one is);
    kept_below = at_most_on history at counter more on.rises grace.kept_below;
    kept_scanned = grace.kept_scanned;
    grants = λ call seen is grants last. let same : on.call ≡ call = same_some on.call call (sym on.now ∙ is) in let none : grants_at call.stage ≡ false = sym (ap (λ (one : Current). grants_at one.stage) same) ∙ on.no_grant in absurd (let never : ⊥ = cc in never);
    reads = λ call serial is held. let same : on.call ≡ call = same_some on.call call (sym on.now ∙ is) in let none : holds_grant serial on.call ≡ false = on.no_looks serial in let some : holds_grant serial on.call ≡ true = ap (holds_grant serial) same ∙ held in absurd (let never : ⊥ = cc in never);
    made_reads = λ i serial one is. grace.made_reads i serial one (made_before next.made refl on.made i one is);
  }

  -- a call leaves its section for its act, by which the counter rises
  pub record GoesToAct : Type 0 where
    pub call : Current
    pub other : Current
    pub is : cpu.current ≡ Some call
    pub now : next.current ≡ Some other
    pub made : next.made ≡ cpu.made
    pub was_open : is_open_at call.stage ≡ true
    pub closed : is_open_at other.stage ≡ false
    pub section : other.section ≡ call.section
    pub grants : (serial : ℕ) → holds_grant serial other ≡ true → holds_grant serial call ≡ true

  odd_counter : (call : Current) → cpu.current ≡ Some call → is_open_at call.stage ≡ true
      → counter + 1 ≡ 2 * sections cpu
  odd_counter call is opened =
      let one : open_now cpu.current ≡ 1 = open_one cpu.current call is opened in
      omega (arith, one, grace.counted)

  pub goes_to_act : GoesToAct → CpuGrace objects history at next (counter + 1) scan
  goes_to_act on = record {
    counted = let old : open_now cpu.current ≡ 1 = open_one cpu.current on.call on.is on.was_open in let new : open_now next.current ≡ 0 = closed_one next.current on.other on.now on.closed in let entered : entered_now next.current ≡ entered_now cpu.current = ap entered_now on.now ∙ (ap (λ (n : ℕ). if nat_lt 0 n then 1 else 0) on.section ∙ sym (ap entered_now on.is)) in let count : count_by has_section next.made ≡ count_by has_section cpu.made = ap (count_by has_section) on.made in omega (arith, old, new, entered, count, grace.counted);
    opened = λ call is opened. let same : on.other ≡ call = same_some on.other call (sym on.now ∙ is) in let closed : is_open_at call.stage ≡ false = sym (ap (λ (one : Current). is_open_at one.stage) same) ∙ on.closed in absurd (let never : ⊥ = cc in never);
    left = λ call is closed. let same : on.other ≡ call = same_some on.other call (sym on.now ∙ is) in open_left counter (sections cpu) call.section (odd_counter on.call on.is on.was_open) (sym (ap (λ (one : Current). one.section) same) ∙ (on.section ∙ grace.opened on.call on.is on.was_open));
    ended = λ i one is. left_on counter (counter + 1) one.mark.section (omega arith) (grace.ended i one (made_before next.made refl on.made i one is));
    scanned = λ n is. omega (arith, grace.scanned n is);
    acts = λ n i one scan_is is. grace.acts n i one scan_is (made_before next.made refl on.made i one is);
    kept_below = at_most_on history at counter (counter + 1) (omega arith) grace.kept_below;
    kept_scanned = grace.kept_scanned;
    grants = λ call seen is grants last. let same : on.other ≡ call = same_some on.other call (sym on.now ∙ is) in let closed : is_open_at call.stage ≡ false = sym (ap (λ (one : Current). is_open_at one.stage) same) ∙ on.closed in let opened : is_open_at call.stage ≡ true = grants_open call.stage grants in absurd (let never : ⊥ = cc in never);
    reads = λ call serial is held. let same : on.other ≡ call = same_some on.other call (sym on.now ∙ is) in reads_by serial call.section on.call on.is (sym (ap (λ (one : Current). one.section) same) ∙ on.section) (inl (on.grants serial (ap (holds_grant serial) same ∙ held)));
    made_reads = λ i serial one is. grace.made_reads i serial one (made_before next.made refl on.made i one is);
  }

  -- a call gets its end, and the counter rises where it leaves its section
  pub record Ends (more : ℕ) : Type 0 where
    pub call : Current
    pub new : Made
    pub is : cpu.current ≡ Some call
    pub none : next.current ≡ None
    pub made : next.made ≡ cpu.made ++ new ∷ []
    pub section : new.mark.section ≡ call.section
    pub grants : (serial : ℕ) → was_granted serial new ≡ true → holds_grant serial call ≡ true
    pub counts : more ≡ counter + open_now cpu.current
    pub left : IsLeft more call.section
    pub unscanned : is_some (place new.mark.end) ≡ true → scan ≡ None

  ends_in : (more : ℕ) (on : Ends more) (i : ℕ) (one : Made) → slice_get next.made i ≡ Some one
      → (slice_get cpu.made i ≡ Some one) ⊎ (on.new ≡ one)
  ends_in more on i one is =
      stands_in cpu.made on.new one i (ap (λ (list : List Made). slice_get list i) (sym on.made) ∙ is)

  ended_by : (more : ℕ) (on : Ends more) (i : ℕ) (one : Made)
      → (slice_get cpu.made i ≡ Some one) ⊎ (on.new ≡ one) → IsLeft more one.mark.section
  ended_by more on i one (inl before) =
      left_on counter more one.mark.section (omega (arith, on.counts)) (grace.ended i one before)
  ended_by more on i one (inr same) =
      subst (λ (n : ℕ). IsLeft more n) (sym on.section ∙ ap (λ (made : Made). made.mark.section) same) on.left

  acts_by : (more : ℕ) (on : Ends more) (n i : ℕ) (one : Made) → scan ≡ Some n
      → (slice_get cpu.made i ≡ Some one) ⊎ (on.new ≡ one) → is_some (place one.mark.end) ≡ true
      → has_section one ≡ true → one.mark.section < n
  acts_by more on n i one scan_is (inl before) placed some = grace.acts n i one scan_is before placed some
  acts_by more on n i one scan_is (inr same) placed some =
      let none : scan ≡ None = on.unscanned (ap (λ (made : Made). is_some (place made.mark.end)) same ∙ placed) in
      absurd (let never : ⊥ = cc in never)

  made_by : (more : ℕ) (on : Ends more) (i serial : ℕ) (one : Made)
      → (slice_get cpu.made i ≡ Some one) ⊎ (on.new ≡ one) → was_granted serial one ≡ true
      → Reads objects at scan one.mark.section serial
  made_by more on i serial one (inl before) granted = grace.made_reads i serial one before granted
  made_by more on i serial one (inr same) granted =
      reads_by serial one.mark.section on.call on.is (sym (ap (λ (made : Made). made.mark.section) same) ∙ on.section) (inl (on.grants serial (ap (was_granted serial) same ∙ granted)))

  no_next : (on : Option Current) (call : Current) → on ≡ None → on ≡ Some call → ⊥
  no_next on call none is = cc

  pub ends : (more : ℕ) → Ends more → CpuGrace objects history at next more scan
  ends more on = record {
    counted = let count : count_by has_section next.made ≡ count_by has_section cpu.made + count_by has_section (on.new ∷ []) = ap (count_by has_section) on.made ∙ count_more cpu.made on.new in let new : count_by has_section (on.new ∷ []) ≡ entered_now cpu.current = counts_section on.new cpu.current on.call on.section on.is in let open_after : open_now next.current ≡ 0 = ap open_now on.none in let entered_after : entered_now next.current ≡ 0 = ap entered_now on.none in omega (arith, count, new, open_after, entered_after, on.counts, grace.counted);
    opened = λ call is opened. absurd (no_next next.current call on.none is);
    left = λ call is closed. absurd (no_next next.current call on.none is);
    ended = λ i one is. ended_by more on i one (ends_in more on i one is);
    scanned = λ n is. omega (arith, grace.scanned n is, on.counts);
    acts = λ n i one scan_is is. acts_by more on n i one scan_is (ends_in more on i one is);
    kept_below = at_most_on history at counter more (omega (arith, on.counts)) grace.kept_below;
    kept_scanned = grace.kept_scanned;
    grants = λ call seen is grants last. absurd (no_next next.current call on.none is);
    reads = λ call serial is held. absurd (no_next next.current call on.none is);
    made_reads = λ i serial one is. made_by more on i serial one (ends_in more on i one is);
  }
