-- The holder owes references one after the other, and settles them: each event is possible.
use Rattle.std.proofs.Common.{◌≡◌, ◌==◌, ◌+◌, ◌-◌, ◌^◌, ◌<◌, ◌≤◌, ◌∙◌, inl, inr, ℕ, Bool, true, false, List, [], ◌∷◌, refl, subst, sym, ap, arith, length, map, Some, is_some}
use Rattle.std.specs.Prelude.{⊤}
use Rattle.std.specs.List.{list_any}
use Rattle.std.proofs.lemmas.Bool.Decides.{eqb_tells, nat_tests}
use Rattle.gh_base.specs.declared.ids.Serial.{Serial}
use Rattle.gh_base.specs.declared.limits.TheConstants.{CPUS, OBJECT_INDICES}
use Rattle.gh_model.specs.QueueCalls.{one_if}
use Rattle.gh_invariant.proofs.Counting.{count_cons}
use Rattle.gh_schedules.specs.Committing.{owe, settle}
use Rattle.gh_events.specs.Config.{Config, HasTurn, Holder, live_references, object_at, present, put}
use Rattle.gh_events.specs.Entries.{is_that_index}
use Rattle.gh_events.specs.HolderEvents.{MayOwe, MaySettle, least_owed}
use Rattle.gh_events.specs.References.{HasHome, is_revived}
use Rattle.gh_events.specs.Sound.{IsSound}
use Rattle.gh_schedules.specs.Trace.{after_all}
use Rattle.gh_schedules.proofs.EntryBalance.{count_at, is_indexed}
use Rattle.gh_events.proofs.Finding.{put_here, put_other, same_number}
use Rattle.gh_events.proofs.SoundEvents.{event_keeps_sound}
use Rattle.gh_schedules.proofs.TraceLaws.{Leads, leads_none}
use Rattle.gh_events.proofs.WordsMove.{with_words}

-- the amounts that the holder owes, and the counts with them
abbrev pub with_amounts : Holder → (ℕ → ℕ) → Holder
with_amounts holder owed = record holder { owed = owed }

abbrev pub at_owed : Config → Holder → (ℕ → ℕ) → (ℕ → ℕ) → Config
at_owed base holder count owed = with_words base count base.dead (Some (with_amounts holder owed))

-- only the counts and what the holder owes changed: it owes these amounts
pub record IsOwing (base : Config) (holder : Holder) (amounts : ℕ → ℕ) (now : Config) : Type 0 where
  pub count : ℕ → ℕ
  pub owed : ℕ → ℕ
  pub is : now ≡ at_owed base holder count owed
  pub sound : IsSound now
  pub owes : (at : ℕ) → owed at ≡ amounts at

-- a reference may be owed at the index of each of these objects
pub record IsOwable (base : Config) (serial : Serial) : Type 0 where
  pub within : base.index serial.0 < OBJECT_INDICES
  pub alive : base.dead (base.index serial.0) ≡ false

abbrev pub AllOwable : Config → List Serial → Type 0
AllOwable base [] = ⊤
AllOwable base (serial ∷ serials) = IsOwable base serial × AllOwable base serials

abbrev pub AllWithin : Config → List Serial → Type 0
AllWithin base [] = ⊤
AllWithin base (serial ∷ serials) =
    (base.index serial.0 < OBJECT_INDICES) × AllWithin base serials

module _ (base : Config) (holder : Holder) (at : ℕ) (is_cpu : at < CPUS) (its : holder.cpu ≡ at) where
  turn_of : (count owed : ℕ → ℕ) → HasTurn (at_owed base holder count owed) at (with_amounts holder owed)
  turn_of count owed = record { turn = refl; its_cpu = its }

  -- the amounts behind one more, and behind one less
  one_more_at : (owed : ℕ → ℕ) (serial : Serial) (serials : List Serial) (i : ℕ)
      → put owed (base.index serial.0) (owed (base.index serial.0) + 1) i + count_at base.index serials i
      ≡ owed i + count_at base.index (serial ∷ serials) i
  one_more_at owed serial serials i =
      let all : count_at base.index (serial ∷ serials) i ≡ one_if (is_indexed base.index i serial) + count_at base.index serials i = count_cons (is_indexed base.index i) serial serials in
      elim (eqb_tells i (base.index serial.0)) as (λ _. put owed (base.index serial.0) (owed (base.index serial.0) + 1) i + count_at base.index serials i ≡ owed i + count_at base.index (serial ∷ serials) i) [
        | inl same ↦ let here : put owed (base.index serial.0) (owed (base.index serial.0) + 1) i ≡ owed (base.index serial.0) + 1 = subst (λ (n : ℕ). put owed (base.index serial.0) (owed (base.index serial.0) + 1) n ≡ owed (base.index serial.0) + 1) (sym same.1) (put_here owed (base.index serial.0) (owed (base.index serial.0) + 1)) in let one : one_if (is_indexed base.index i serial) ≡ 1 = ap one_if (let yes : (base.index serial.0 == i) ≡ true = grind (arith, nat_tests) in yes) in let old : owed i ≡ owed (base.index serial.0) = ap owed same.1 in omega (arith, all, here, one, old)
        | inr differs ↦ let other : put owed (base.index serial.0) (owed (base.index serial.0) + 1) i ≡ owed i = put_other owed (base.index serial.0) (owed (base.index serial.0) + 1) i differs.0 in let none : one_if (is_indexed base.index i serial) ≡ 0 = ap one_if (let no : (base.index serial.0 == i) ≡ false = grind (arith, nat_tests) in no) in omega (arith, all, other, none)
      ]

  -- there is room for so many more references
  abbrev pub HasRoomFor : (ℕ → ℕ) → ℕ → Type 0
  HasRoomFor owed more = (i : ℕ) → owed i + live_references base i + more ≤ 2 ^ 62

  may_owe : (count owed : ℕ → ℕ) (serial : Serial) (more : ℕ) → IsOwable base serial
      → HasRoomFor owed (more + 1)
      → MayOwe (at_owed base holder count owed) at (base.index serial.0)
  may_owe count owed serial more owable room = record {
    is_cpu = is_cpu;
    is_index = owable.within;
    holder = with_amounts holder owed;
    has_turn = turn_of count owed;
    alive = owable.alive;
    room = omega (arith, room (base.index serial.0));
  }

  room_on : (owed : ℕ → ℕ) (at_index more : ℕ) → HasRoomFor owed (more + 1)
      → HasRoomFor (put owed at_index (owed at_index + 1)) more
  room_on owed at_index more room i =
      elim (eqb_tells i at_index) as (λ _. put owed at_index (owed at_index + 1) i + live_references base i + more ≤ 2 ^ 62) [
        | inl same ↦ let here : put owed at_index (owed at_index + 1) i ≡ owed at_index + 1 = subst (λ (n : ℕ). put owed at_index (owed at_index + 1) n ≡ owed at_index + 1) (sym same.1) (put_here owed at_index (owed at_index + 1)) in let old : owed i ≡ owed at_index = ap owed same.1 in omega (arith, here, old, room i)
        | inr differs ↦ omega (arith, put_other owed at_index (owed at_index + 1) i differs.0, room i)
      ]

  -- references are owed one after the other
  pub owes_lead : (serials : List Serial) (count owed : ℕ → ℕ) → AllOwable base serials
      → HasRoomFor owed (length serials) → IsSound (at_owed base holder count owed)
      → Leads (at_owed base holder count owed) (map (owe at base.index) serials)
      (IsOwing base holder (λ i. owed i + count_at base.index serials i))
  owes_lead [] count owed owable room sound =
      leads_none (at_owed base holder count owed) (IsOwing base holder (λ i. owed i + count_at base.index [] i))
      (record { count = count; owed = owed; is = refl; sound = sound; owes = λ i. omega arith })
  owes_lead (serial ∷ serials) count owed owable room sound =
      let may : MayOwe (at_owed base holder count owed) at (base.index serial.0) =
      may_owe count owed serial (length serials) owable.0 (λ i. omega (arith, room i)) in
      let more : ℕ → ℕ = put count (base.index serial.0) (count (base.index serial.0) + 1) in
      let amounts : ℕ → ℕ = put owed (base.index serial.0) (owed (base.index serial.0) + 1) in
      let rest : Leads (at_owed base holder more amounts) (map (owe at base.index) serials) (IsOwing base holder (λ i. amounts i + count_at base.index serials i)) =
      owes_lead serials more amounts owable.1 (room_on owed (base.index serial.0) (length serials) (λ i. omega (arith, room i)))
      (event_keeps_sound (at_owed base holder count owed) (owe at base.index serial) sound may) in
      record {
        done = (may, rest.done);
        behind = (let last : IsOwing base holder (λ i. amounts i + count_at base.index serials i) (after_all (at_owed base holder more amounts) (map (owe at base.index) serials)) = rest.behind in
            record { count = last.count; owed = last.owed; is = last.is; sound = last.sound; owes = λ i. last.owes i ∙ one_more_at owed serial serials i });
      }

  -- Unpin of the turn

  -- no index was revived: so where something is owed, an object lives
  module _ (unrevived : holder.revived ≡ []) where
    home_there : (count owed : ℕ → ℕ) (i : ℕ) → HasHome (at_owed base holder count owed) i
        → is_some (object_at (present base) base.index i) ≡ true
    home_there count owed i (inl home) = home
    home_there count owed i (inr fresh) =
        let none : is_revived (Some (with_amounts holder owed)) i ≡ false = ap (list_any (is_that_index i)) unrevived in
        let some : is_revived (Some (with_amounts holder owed)) i ≡ true = fresh.revived in
        absurd (let never : ⊥ = cc in never)

    alive_there : (count owed : ℕ → ℕ) (i : ℕ) (dead : Bool) → base.dead i ≡ dead → 0 < owed i
        → IsSound (at_owed base holder count owed) → base.dead i ≡ false
    alive_there count owed i false is some sound = is
    alive_there count owed i true is some sound =
        absurd (omega (arith, some, sound.references.placed.unowed i is))

    may_settle : (count owed : ℕ → ℕ) (serial : Serial) → base.index serial.0 < OBJECT_INDICES
        → 0 < owed (base.index serial.0) → IsSound (at_owed base holder count owed)
        → MaySettle (at_owed base holder count owed) at (base.index serial.0)
    may_settle count owed serial within some sound =
        let alive : base.dead (base.index serial.0) ≡ false = alive_there count owed (base.index serial.0) (base.dead (base.index serial.0)) refl some sound in
        let lives : is_some (object_at (present base) base.index (base.index serial.0)) ≡ true =
        home_there count owed (base.index serial.0) (sound.references.counted.homes (base.index serial.0) within alive) in
        record {
          is_cpu = is_cpu;
          is_index = within;
          holder = with_amounts holder owed;
          has_turn = turn_of count owed;
          owes = least lives some;
        }
      where
        least : is_some (object_at (present base) base.index (base.index serial.0)) ≡ true → 0 < owed (base.index serial.0)
            → least_owed (at_owed base holder count owed) (base.index serial.0) < owed (base.index serial.0)
        least lives some = rw lives some

    one_less_at : (owed : ℕ → ℕ) (serial : Serial) (serials : List Serial)
        → ((i : ℕ) → owed i ≡ count_at base.index (serial ∷ serials) i) → (i : ℕ)
        → put owed (base.index serial.0) (owed (base.index serial.0) - 1) i ≡ count_at base.index serials i
    one_less_at owed serial serials amounts i =
        let all : count_at base.index (serial ∷ serials) i ≡ one_if (is_indexed base.index i serial) + count_at base.index serials i = count_cons (is_indexed base.index i) serial serials in
        elim (eqb_tells i (base.index serial.0)) as (λ _. put owed (base.index serial.0) (owed (base.index serial.0) - 1) i ≡ count_at base.index serials i) [
          | inl same ↦ let here : put owed (base.index serial.0) (owed (base.index serial.0) - 1) i ≡ owed (base.index serial.0) - 1 = subst (λ (n : ℕ). put owed (base.index serial.0) (owed (base.index serial.0) - 1) n ≡ owed (base.index serial.0) - 1) (sym same.1) (put_here owed (base.index serial.0) (owed (base.index serial.0) - 1)) in let one : one_if (is_indexed base.index i serial) ≡ 1 = ap one_if (let yes : (base.index serial.0 == i) ≡ true = grind (arith, nat_tests) in yes) in let old : owed i ≡ owed (base.index serial.0) = ap owed same.1 in omega (arith, all, here, one, old, amounts i)
          | inr differs ↦ let other : put owed (base.index serial.0) (owed (base.index serial.0) - 1) i ≡ owed i = put_other owed (base.index serial.0) (owed (base.index serial.0) - 1) i differs.0 in let none : one_if (is_indexed base.index i serial) ≡ 0 = ap one_if (let no : (base.index serial.0 == i) ≡ false = grind (arith, nat_tests) in no) in omega (arith, all, other, none, amounts i)
        ]

    first_owed : (owed : ℕ → ℕ) (serial : Serial) (serials : List Serial)
        → ((i : ℕ) → owed i ≡ count_at base.index (serial ∷ serials) i) → 0 < owed (base.index serial.0)
    first_owed owed serial serials amounts =
        let all : count_at base.index (serial ∷ serials) (base.index serial.0) ≡ one_if (is_indexed base.index (base.index serial.0) serial) + count_at base.index serials (base.index serial.0) = count_cons (is_indexed base.index (base.index serial.0)) serial serials in
        let one : one_if (is_indexed base.index (base.index serial.0) serial) ≡ 1 = ap one_if (same_number (base.index serial.0)) in
        omega (arith, all, one, amounts (base.index serial.0))

    -- what is owed is settled, one after the other
    pub settles_lead : (serials : List Serial) (count owed : ℕ → ℕ) → AllWithin base serials
        → ((i : ℕ) → owed i ≡ count_at base.index serials i) → IsSound (at_owed base holder count owed)
        → Leads (at_owed base holder count owed) (map (settle at base.index) serials) (IsOwing base holder (λ i. 0))
    settles_lead [] count owed within amounts sound =
        leads_none (at_owed base holder count owed) (IsOwing base holder (λ i. 0))
        (record { count = count; owed = owed; is = refl; sound = sound; owes = amounts })
    settles_lead (serial ∷ serials) count owed within amounts sound =
        let may : MaySettle (at_owed base holder count owed) at (base.index serial.0) =
        may_settle count owed serial within.0 (first_owed owed serial serials amounts) sound in
        let less : ℕ → ℕ = put count (base.index serial.0) (count (base.index serial.0) - 1) in
        let rest : ℕ → ℕ = put owed (base.index serial.0) (owed (base.index serial.0) - 1) in
        let on : Leads (at_owed base holder less rest) (map (settle at base.index) serials) (IsOwing base holder (λ i. 0)) =
        settles_lead serials less rest within.1 (one_less_at owed serial serials amounts)
        (event_keeps_sound (at_owed base holder count owed) (settle at base.index serial) sound may) in
        record { done = (may, on.done); behind = on.behind }
