-- Where the counts hold, the history is short.
use Rattle.std.proofs.Common.{◌≡◌, ◌==◌, ◌+◌, ◌*◌, ◌<◌, ◌≤◌, ℕ, Bool, true, false, List, [], ◌∷◌, length, refl, subst, sym, ap, arith, IsTrue, Option, Some, None}
use Rattle.std.specs.Prelude.{◌&&◌, ◌||◌, count_by, is_some}
use Rattle.std.proofs.lemmas.Bool.{and_parts, eqb-true, or_right}
use Rattle.gh_base.specs.declared.call.Call.{Call}
use Rattle.gh_base.specs.declared.call.Call.TheVariants as calls
use Rattle.gh_base.specs.declared.limits.TheConstants.{CALL_NUMBERS, CPUS}
use Rattle.gh_invariant.proofs.BootValid.{boot_valid}
use Rattle.gh_invariant.proofs.Counting.{count_cons}
use Rattle.gh_model.proofs.FittingLemmas.{boot_fitting, few_objects}
use Rattle.gh_model.specs.Boot.{boot_fits, boot_state}
use Rattle.gh_model.specs.History.{Event}
use Rattle.gh_model.specs.QueueCalls.{one_if}
use Rattle.gh_model.specs.declared.boot_line.BootLine.{BootLine}
use Rattle.gh_model.specs.declared.entry.Entry.{Entry}
use Rattle.gh_model.specs.declared.entry.Entry.TheVariants.{Acted, Part, Retired, Reclaimed}
use Rattle.gh_events.specs.Calls.{BeginsAtBoot, HasCalls, IsActing}
use Rattle.gh_events.specs.Config.{Config, Holder, has_acted}
use Rattle.gh_events.specs.HolderEvents.{is_create}
use Rattle.gh_events.specs.Length.{HasLength, acts_of, calls_given, copies_one, has_entry, is_act, is_copy, is_plain, makes_one, parts, reclaims_one, retires_one, too_long}
use Rattle.gh_events.specs.References.{total}
use Rattle.gh_events.specs.Start.{new_cpu, start}
use Rattle.gh_events.specs.ValidState.{acts}
use Rattle.gh_events.specs.Words.{HasRoom}
use Rattle.gh_events.proofs.Finding.{total_none}
use Rattle.gh_events.proofs.LengthBoot.{few_capabilities, none_leaving}
use Rattle.gh_events.proofs.LengthCalls.{total_most}
use Rattle.gh_events.proofs.LengthEntries.{one_most, start_counts}
use Rattle.gh_events.proofs.LookCalls.{entries_all}

-- the start of each boot file
pub start_length : (lines : List BootLine) (index : ℕ → ℕ) → IsTrue (boot_fits lines)
    → HasLength (start (boot_state lines) index)
start_length lines index fits = record {
  entries = start_counts (boot_state lines) (none_leaving lines);
  calls = record {
    acts = sym (total_none CPUS (acts_of None (λ _. new_cpu)) (λ i. refl));
    numbers = λ cpu. let none : calls_given new_cpu ≡ 0 = refl in omega arith;
  };
  few_objects = few_objects (boot_state lines) (boot_fitting lines fits);
  few_capabilities = few_capabilities (boot_state lines) (boot_valid lines fits);
}

-- each entry is of one kind

kind_of : (entry : Event) (kind : Entry) → entry.entry ≡ kind
    → one_if (is_act entry) + (one_if (parts entry) + (one_if (retires_one entry) + one_if (reclaims_one entry))) ≡ 1
kind_of entry (Acted cpu number) is = rw is refl
kind_of entry (Part cpu number space slot) is = rw is refl
kind_of entry (Retired serial seen) is = rw is refl
kind_of entry (Reclaimed serial seen) is = rw is refl

kinds_are_all : (events : List Event)
    → count_by is_act events + (count_by parts events + (count_by retires_one events + count_by reclaims_one events)) ≡ length events
kinds_are_all [] = refl
kinds_are_all (event ∷ events) =
    omega (
      arith,
      count_cons is_act event events,
      count_cons parts event events,
      count_cons retires_one event events,
      count_cons reclaims_one event events,
      kind_of event event.entry refl,
      kinds_are_all events,
    )

-- no act makes an object and copies a capability
one_of : (acted : Bool) (call : Call) → one_if (acted && is_create call) + one_if (acted && is_copy call) ≤ one_if acted
one_of false call = let none : one_if false ≡ 0 = refl in omega arith
one_of true (calls.Create partition cspace number) = let one : one_if true ≡ 1 = refl in let none : one_if false ≡ 0 = refl in omega arith
one_of true (calls.CapCopy cspace source mask) = let one : one_if true ≡ 1 = refl in let none : one_if false ≡ 0 = refl in omega arith
one_of true _ = let one : one_if true ≡ 1 = refl in let none : one_if false ≡ 0 = refl in omega arith

acts_are_more : (events : List Event) → count_by makes_one events + count_by copies_one events ≤ count_by is_act events
acts_are_more [] = let one : count_by makes_one [] ≡ 0 = refl in let other : count_by copies_one [] ≡ 0 = refl in omega arith
acts_are_more (event ∷ events) =
    omega (arith, count_cons makes_one event events, count_cons copies_one event events, count_cons is_act event events, one_of (is_act event) event.call, acts_are_more events)

-- a count is at most all
pub count_all : {X : Type 0} (p : X → Bool) (xs : List X) → count_by p xs ≤ length xs
count_all p [] = let none : count_by p [] ≡ 0 = refl in omega arith
count_all p (x ∷ xs) = omega (arith, count_cons p x xs, one_most (p x), count_all p xs)

module _ (conf : Config) (long : HasLength conf) (sound : HasCalls conf) where
  -- who acts has its call in progress
  acting : (at : ℕ) (turn : Option Holder) → conf.turn ≡ turn → acts turn at ≡ true
      → is_some (conf.cpu at).current ≡ true
  acting at None is now = absurd (let never : ⊥ = cc in never)
  acting at (Some holder) is now =
      let both = and_parts (holder.cpu == at) (has_acted holder) now in
      let in_act : IsActing conf.cpu holder = sound.entries.acting holder is in
      let same : holder.cpu ≡ at = eqb-true holder.cpu at both.0 in
      subst (λ (n : ℕ). is_some (conf.cpu n).current ≡ true) same (ap is_some in_act.in_act.is_current)

  acts_few : (at : ℕ) (now : Bool) → acts conf.turn at ≡ now
      → count_by has_entry (conf.cpu at).made + one_if now ≤ calls_given (conf.cpu at)
  acts_few at true is =
      let one : one_if (is_some (conf.cpu at).next || is_some (conf.cpu at).current) ≡ 1 =
      rw (acting at conf.turn refl is) (ap one_if (or_right (is_some (conf.cpu at).next) true refl)) in
      let now : one_if true ≡ 1 = refl in
      omega (arith, count_all has_entry (conf.cpu at).made)
  acts_few at false is = let none : one_if false ≡ 0 = refl in omega (arith, count_all has_entry (conf.cpu at).made)

  few_acts : count_by is_act conf.history ≤ CPUS * CALL_NUMBERS
  few_acts =
      let most : total CPUS (acts_of conf.turn conf.cpu) ≤ CPUS * CALL_NUMBERS =
      total_most CPUS CALL_NUMBERS (acts_of conf.turn conf.cpu) (λ at. omega (arith, acts_few at (acts conf.turn at) refl, long.calls.numbers at)) in
      omega (arith, long.calls.acts, most)

  -- the history is short
  pub history_is_short : length conf.history < too_long
  history_is_short =
      omega (
        arith,
        kinds_are_all conf.history,
        acts_are_more conf.history,
        few_acts,
        long.entries.retired,
        long.entries.reclaimed,
        long.entries.parted,
        long.few_objects,
        long.few_capabilities,
        count_all is_plain conf.boot.caps,
      )

  -- so the number of each entry fits into a word
  pub has_room : BeginsAtBoot conf → HasRoom conf
  has_room begins = omega (arith, entries_all conf.boot conf.history, begins, history_is_short)
