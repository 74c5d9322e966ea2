-- The words of a boot file show its configuration before any event.
use Rattle.std.proofs.Common.{◌≡◌, ◌||◌, ◌/◌, ◌%◌, ◌<◌, ◌∙◌, ⊎_elim, ℕ, Bool, true, false, List, [], ◌∷◌, not, refl, sym, ap, subst, arith, Option, Some, None, find, is_some, slice_get, IsTrue}
use Rattle.std.specs.Prelude.{IfOk, Result, Ok, Err}
use Rattle.std.specs.List.{list_any}
use Rattle.gh_base.specs.declared.ids.NoMemory.{NoMemory}
use Rattle.std.specs.Option.{option_map_or}
use Rattle.std.proofs.lemmas.Nat.{div-mul-add, mod-mul-add}
use Rattle.gh_base.specs.declared.cap_word.CapWord.{CapWord}
use Rattle.gh_base.specs.declared.kind.Kind.TheVariants as kind
use Rattle.gh_base.specs.declared.limits.TheConstants.{CPUS, OBJECT_INDICES}
use Rattle.gh_events.specs.Config.{Config, object_at, references_at}
use Rattle.gh_events.specs.Entries.{shown}
use Rattle.gh_events.specs.Sound.{IsSound}
use Rattle.gh_events.specs.Start.{boot_cap, serial_at, start}
use Rattle.gh_events.specs.ValidState.{IsExiting}
use Rattle.gh_invariant.specs.Grants.{is_running}
use Rattle.gh_invariant.specs.NamesLiving.{SpacesLive}
use Rattle.gh_invariant.proofs.FactLemmas.{spaces_live}
use Rattle.gh_invariant.proofs.Living.{lives_made}
use Rattle.gh_model.specs.Boot.{boot_fits, boot_state}
use Rattle.gh_model.specs.Marks.{cspace_of}
use Rattle.gh_events.specs.Bounded.{many_references}
use Rattle.gh_events.specs.Start.{new_cpu}
use Rattle.gh_events.proofs.FewReferences.{present_references}
use Rattle.gh_model.specs.References.{is_slot_of, references}
use Rattle.gh_model.specs.Rows.{cpu_row, fills, object_row, tells_setting}
use Rattle.gh_model.specs.Word.{is_slot, word_at}
use Rattle.gh_model.specs.declared.boot_line.BootLine.{BootLine}
use Rattle.gh_model.specs.declared.rows.CpuRow.{CpuRow}
use Rattle.gh_model.specs.declared.rows.ObjectRow.{ObjectRow}
use Rattle.gh_model.specs.declared.state.State.{State}
use Rattle.gh_schedules.specs.Indices.{boot_index, row_index}
use Rattle.gh_schedules.proofs.BootBlocks.{start_is_steady}
use Rattle.gh_schedules.proofs.Ranks.{boot_indices}
use Rattle.gh_words.specs.Booting.{AreBooted, has_slots, is_set_in, slot_word, space_at}
use Rattle.gh_words.specs.Shows.{Fits, Shows, ShowsCpu, TurnIs, cap_place}
use Rattle.gh_words.specs.declared.plain_words.PlainWords.{PlainWords}
use Rattle.gh_words.specs.declared.plain_words.TheConstants.{SLOT_WORDS}
use Rattle.gh_words.specs.declared.plain_words.Turn.{Turn}

-- where no item passes a test, none is found that passes a narrower one
module _ {X : Type 0} (wide narrow : X → Bool) (narrower : (x : X) → wide x ≡ false → narrow x ≡ false) where
  none_by : (x : X) (xs : List X) (here : Bool) → wide x ≡ here → (here || list_any wide xs) ≡ false
      → (list_any wide xs ≡ false → find narrow xs ≡ None) → find narrow (x ∷ xs) ≡ None
  none_by x xs true is none rest = absurd (let never : ⊥ = cc in never)
  none_by x xs false is none rest = rw (narrower x is) (rest none)

  none_found : (xs : List X) → list_any wide xs ≡ false → find narrow xs ≡ None
  none_found [] none = refl
  none_found (x ∷ xs) none = none_by x xs (wide x) refl none (none_found xs)

neither : (a b : Bool) → (a || b) ≡ false → (a ≡ false) × (b ≡ false)
neither false b none = (refl, none)
neither true b none = absurd (let never : ⊥ = cc in never)

module _ (boot : State) where
  abbrev index : ℕ → ℕ
  index = boot_index boot

  -- a slot of an object that has none is empty, and no entry set it
  slot_empty : (serial slot : ℕ) → has_slots boot serial ≡ false → shown index (word_at boot serial slot) ≡ 0
  slot_empty serial slot none = by_slot (is_slot slot) refl
    where
      both : (list_any (is_slot_of serial) boot.caps ≡ false) × (list_any (is_set_in serial) boot.set_at ≡ false)
      both = neither (list_any (is_slot_of serial) boot.caps) (list_any (is_set_in serial) boot.set_at) none

      no_row : find (fills serial slot) boot.caps ≡ None
      no_row = none_found (is_slot_of serial) (fills serial slot) (λ row is. rw is refl) boot.caps both.0

      no_setting : find (tells_setting serial slot) boot.set_at ≡ None
      no_setting = none_found (is_set_in serial) (tells_setting serial slot) (λ row is. rw is refl) boot.set_at both.1

      by_slot : (named : Bool) → is_slot slot ≡ named → shown index (word_at boot serial slot) ≡ 0
      by_slot false is = rw is refl
      by_slot true is = rw (is, no_row, no_setting) refl

  slot_is : (space slot : ℕ) → slot_word boot (space_at boot space) slot ≡ boot_cap boot index space slot
  slot_is space slot = by_slots (has_slots boot (serial_at boot index space)) refl
    where
      by_slots : (some : Bool) → has_slots boot (serial_at boot index space) ≡ some
          → slot_word boot (space_at boot space) slot ≡ boot_cap boot index space slot
      by_slots true is = rw is refl
      by_slots false is = rw is (ap (λ (bits : ℕ). record { 0 = bits }) (sym (slot_empty (serial_at boot index space) slot is)))

  dead_empty : (at : ℕ) (row : Option ObjectRow) → object_at boot index at ≡ row → not (is_some row) ≡ true
      → references_at boot index at ≡ 0
  dead_empty at None is dead = rw is refl
  dead_empty at (Some row) is dead = absurd (let never : ⊥ = cc in never)

module _ (lines : List BootLine) (fits : IsTrue (boot_fits lines)) where
  abbrev boot : State
  boot = boot_state lines

  abbrev first : Config
  first = start boot (boot_index boot)

  sound : IsSound first
  sound = (start_is_steady lines fits).sound

  -- each object of the boot has an index that there is, and few references
  within_by : (serial : ℕ) (row : Option ObjectRow) → object_row boot serial ≡ row → boot_index boot serial < OBJECT_INDICES
  within_by serial None none =
      let nowhere : boot_index boot serial ≡ 0 = ap (λ (row : Option ObjectRow). option_map_or (row_index boot) row 0) none in
      omega (arith, nowhere)
  within_by serial (Some row) is = (boot_indices lines fits).within serial (ap is_some is)

  pub boot_within : (serial : ℕ) → boot_index boot serial < OBJECT_INDICES
  boot_within serial = within_by serial (object_row boot serial) refl

  pub boot_few : (serial : ℕ) → references boot serial < many_references
  boot_few serial =
      present_references first sound.valid.valid sound.state sound.references.placed sound.bound.few_cpus sound.bound.few_links serial

  -- the capability space of a CPU was made
  space_made : (cpu : ℕ) (row : Option CpuRow) → cpu_row boot cpu ≡ row → cspace_of boot cpu < boot.next_serial
  space_made cpu None is =
      let nowhere : cspace_of boot cpu ≡ 0 = ap (λ (row : Option CpuRow). option_map_or (λ (row : CpuRow). row.cspace.0) row 0) is in
      omega (arith, nowhere, sound.valid.boot_valid.objects.some)
  space_made cpu (Some row) is =
      let runs : not row.exited ≡ true = subst (λ (found : Option CpuRow). is_running found ≡ true) is running in
      let lives : SpacesLive boot row = spaces_live boot sound.valid.boot_valid cpu row is (unexited row.exited runs) in
      let here : cspace_of boot cpu ≡ row.cspace.0 = ap (λ (row : Option CpuRow). option_map_or (λ (row : CpuRow). row.cspace.0) row 0) is in
      subst (λ (n : ℕ). n < boot.next_serial) (sym here)
      (lives_made boot.objects boot.next_serial sound.valid.boot_valid.objects row.cspace.0 kind.Cspace lives.cspace)
    where
      unexited : (exited : Bool) → not exited ≡ true → exited ≡ false
      unexited false runs = refl
      unexited true runs = absurd (let never : ⊥ = cc in never)

      running : is_running (cpu_row boot cpu) ≡ true
      running =
          ⊎_elim (λ now. now) (λ (exiting : IsExiting false new_cpu). absurd (let mark : false ≡ true = exiting.acted_now in let never : ⊥ = cc in never))
          ((sound.valid.cpus cpu).runs (record { is_there = ap is_some is; no_exit = refl }))

  boot_fit : (at : ℕ) → at < OBJECT_INDICES → Fits first at
  boot_fit at few =
      let bound = sound.bound.bounded at few in
      record {
        bounded = omega (arith, bound);
        least = omega arith;
        few = omega arith;
        dead = λ is. omega (arith, dead_empty boot at (object_at boot (boot_index boot) at) refl is);
      }

  module _ (words : PlainWords) (are : AreBooted words boot) where
    cpu_shown : (cpu : ℕ) → cpu < CPUS → ShowsCpu words first cpu
    cpu_shown cpu within = record {
      home = boot_index boot (cspace_of boot cpu);
      has_home = are.homes cpu within;
      is_home = record { is = refl; made = space_made cpu (cpu_row boot cpu) refl; within = boot_within (cspace_of boot cpu) };
      counter = are.counters cpu within;
      low = omega arith;
      place = are.places cpu within;
    }

    slot_shown : (space slot : ℕ) → space < OBJECT_INDICES → slot < SLOT_WORDS
        → slice_get words.caps (cap_place space slot) ≡ Some (boot_cap boot (boot_index boot) space slot)
    slot_shown space slot few less =
        let row : cap_place space slot / SLOT_WORDS ≡ space = div-mul-add space SLOT_WORDS slot less in
        let column : cap_place space slot % SLOT_WORDS ≡ slot = mod-mul-add space SLOT_WORDS slot less in
        are.caps (cap_place space slot) (omega (arith, few, less))
        ∙ ap (λ (n : ℕ). Some (slot_word boot (space_at boot n) (cap_place space slot % SLOT_WORDS))) row
        ∙ ap (λ (n : ℕ). Some (slot_word boot (space_at boot space) n)) column
        ∙ ap (λ (w : CapWord). Some w) (slot_is boot space slot)

    pub boot_shown : Shows words first
    boot_shown = record {
      caps = slot_shown;
      references = are.references;
      fits = boot_fit;
      cpus = cpu_shown;
      entries = are.entries;
      turn = subst (λ (turn : Option Turn). TurnIs turn first) (sym are.turn) refl;
    }

  -- and so does what was made of them
  pub ok_shown : (result : Result PlainWords NoMemory) (s : State) → s ≡ boot → IfOk result (λ words. AreBooted words s)
      → IfOk result (λ words. Shows words first)
  ok_shown (Ok words) s is are = boot_shown words (subst (λ (s : State). AreBooted words s) is are)
  ok_shown (Err errno) s is are = are
