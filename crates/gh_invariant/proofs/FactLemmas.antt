-- What capabilities, CPUs and links of a valid state name, and what an event does to a slot.
use Rattle.std.proofs.Common.{◌≡◌, ◌<◌, ◌≤◌, ◌∙◌, ℕ, Bool, true, false, List, [], ◌∷◌, ◌++◌, length, refl, ap, arith, IsTrue, Some, find, if◌then◌else◌}
use Rattle.std.specs.Prelude.{◌&&◌, ◌||◌, count_by}
use Rattle.std.specs.List.{list_all}
use Rattle.std.proofs.lemmas.Bool.{and_parts, and_from}
use Rattle.std.proofs.lemmas.List.{take-append-le}
use Rattle.gh_base.specs.declared.kind.Kind.TheVariants as kind
use Rattle.gh_model.specs.Act.{counted}
use Rattle.gh_model.specs.Changes.{changed, changed_all}
use Rattle.gh_model.specs.Decide.{verdict}
use Rattle.gh_model.specs.History.{Event, after_entry, after_event, after_verdict, is_retired, is_unretired, may_act, may_part, numbered, replay, state_at, took}
use Rattle.gh_model.specs.References.{is_capability_of, is_doomed, references}
use Rattle.gh_model.specs.Rows.{cpu_row, fills, is_cpu, object_row}
use Rattle.gh_model.specs.Word.{word_at}
use Rattle.gh_model.specs.declared.change.Change.{Change}
use Rattle.gh_model.specs.declared.change.Change.TheVariants as change
use Rattle.gh_model.specs.declared.change.Decision.{Decision}
use Rattle.gh_model.specs.declared.change.Decision.TheVariants.{Refuse, Unfinished, Make}
use Rattle.gh_model.specs.declared.entry.Entry.{Entry}
use Rattle.gh_model.specs.declared.entry.Entry.TheVariants.{Acted, Part, Retired, Reclaimed}
use Rattle.gh_model.specs.declared.rows.CapabilityRow.{CapabilityRow}
use Rattle.gh_model.specs.declared.rows.CpuRow.{CpuRow}
use Rattle.gh_model.specs.declared.rows.LinkRow.{LinkRow}
use Rattle.gh_model.specs.declared.state.State.{State}
use Rattle.gh_invariant.specs.Effects.{leaves}
use Rattle.gh_invariant.specs.Events.{changes_of, entry_changes, judged_by, made_by}
use Rattle.gh_invariant.specs.NamesLiving.{LinkLives, NamesLiving, SpacesLive}
use Rattle.gh_invariant.specs.Lives.{cpu_fits, link_stands, lives_as, slot_fits}
use Rattle.gh_invariant.specs.Valid.{IsValid}
use Rattle.gh_invariant.proofs.CapabilityMade.{valid_names}
use Rattle.gh_invariant.proofs.Counting.{found_all}
use Rattle.gh_invariant.proofs.CpusFit.{LinkParts, link_parts}
use Rattle.gh_invariant.proofs.MayMake.{itself}
use Rattle.gh_invariant.proofs.Referred.{found_counted}
use Rattle.gh_invariant.proofs.SlotsFit.{slot_parts}
use Rattle.gh_invariant.proofs.WordsLeft.{slot_stays_all, word_kept}

-- what has references isn't retired
unretired_by : (s : State) → IsValid s → (object : ℕ) (retired : Bool) → is_retired (object_row s object) ≡ retired → 0 < references s object
    → retired ≡ false
unretired_by s valid object false is some = refl
unretired_by s valid object true is some = let none : references s object ≡ 0 = valid.retired object is in absurd (omega arith)

module _ (s : State) (valid : IsValid s) where
  pub names_living : (cspace slot : ℕ) (row : CapabilityRow) → find (fills cspace slot) s.caps ≡ Some row → row.valid ≡ true
      → NamesLiving s row
  names_living cspace slot row found good =
      let one : 1 ≤ count_by (is_capability_of row.serial.0) s.caps =
      found_counted (fills cspace slot) (is_capability_of row.serial.0) s.caps row found (and_from _ _ good (itself row.serial.0)) in
      let some : 0 < references s row.serial.0 = omega arith in
      record {
        object = valid_names s valid cspace slot row found good;
        home = (slot_parts s.next_serial s.objects row
            (found_all (fills cspace slot) (slot_fits s.next_serial s.objects) s.caps row valid.slots.filled found)).home;
        referred = some;
        unretired = unretired_by s valid row.serial.0 (is_retired (object_row s row.serial.0)) refl some;
      }

  pub spaces_live : (cpu : ℕ) (row : CpuRow) → cpu_row s cpu ≡ Some row → row.exited ≡ false → SpacesLive s row
  spaces_live cpu row found running =
      let fits : IsTrue (cpu_fits s.objects row) = found_all (is_cpu cpu) (cpu_fits s.objects) s.cpus row valid.cpus.attached found in
      let both = and_parts (lives_as s.objects row.cspace.0 kind.Cspace) (lives_as s.objects row.space.0 kind.Space) (other row.exited _ running fits) in
      record { cspace = both.0; space = both.1 }
    where
      other : (a b : Bool) → a ≡ false → (a || b) ≡ true → b ≡ true
      other true b is either = absurd (let never : ⊥ = cc in never)
      other false b is either = either

  pub link_lives : (test : LinkRow → Bool) (row : LinkRow) → find test s.links ≡ Some row → LinkLives s row
  link_lives test row found =
      let parts : LinkParts s.objects s.cpus row = link_parts s.objects s.cpus row (found_all test (link_stands s.objects s.cpus) s.links row valid.cpus.linked found) in
      record { space = parts.space; extent = parts.extent; request = parts.request; reply = parts.reply }

-- a state at a place stays as the history grows
pub state_stays : (s : State) (history more : List Event) (n : ℕ) → n ≤ length history
    → state_at s (history ++ more) n ≡ state_at s history n
state_stays s history more n within = ap (replay s) (take-append-le n history more within)

-- a slot holds behind an entry what it holds behind the entry's changes

decided_word : (s : State) (cspace slot : ℕ) (decision : Decision)
    → word_at (after_verdict s (verdict s decision)) cspace slot ≡ word_at (changed_all s (made_by decision)) cspace slot
decided_word s cspace slot (Refuse errno) = refl
decided_word s cspace slot Unfinished = refl
decided_word s cspace slot (Make changes reply) = refl

acted_word : (s : State) (cspace slot : ℕ) (allowed : Bool) (decision : Decision)
    → word_at (if allowed then after_verdict s (verdict s decision) else numbered s) cspace slot
    ≡ word_at (changed_all s (if allowed then made_by decision else [])) cspace slot
acted_word s cspace slot true decision = decided_word s cspace slot decision
acted_word s cspace slot false decision = refl

one_word : (s new : State) (cspace slot : ℕ) (allowed : Bool) (one : Change) → word_at new cspace slot ≡ word_at (changed s one) cspace slot
    → word_at (if allowed then new else numbered s) cspace slot ≡ word_at (changed_all s (if allowed then one ∷ [] else [])) cspace slot
one_word s new cspace slot true one same = same
one_word s new cspace slot false one same = refl

pub entry_word : (s : State) (event : Event) (entry : Entry) (cspace slot : ℕ)
    → word_at (after_entry s event entry) cspace slot ≡ word_at (changed_all s (entry_changes s event entry)) cspace slot
entry_word s event (Acted cpu number) cspace slot =
    acted_word s cspace slot (may_act s cpu.0 event.call event.words) (judged_by s cpu.0 event)
entry_word s event (Part cpu number space n) cspace slot =
    one_word s (numbered (took (changed s (change.RevokeCapability space n)) space n)) cspace slot
    (may_part (find (fills space.0 n) s.caps)) (change.RevokeCapability space n) refl
entry_word s event (Retired serial seen) cspace slot =
    one_word s (counted (changed s (change.Retire serial seen))) cspace slot
    (is_doomed s serial.0 && is_unretired (object_row s serial.0)) (change.Retire serial seen) refl
entry_word s event (Reclaimed serial seen) cspace slot =
    one_word s (counted (changed s (change.Reclaim serial))) cspace slot
    (is_doomed s serial.0 && is_retired (object_row s serial.0)) (change.Reclaim serial) refl

-- an event leaves each slot that none of its changes sets, where its capability space isn't reclaimed
pub event_leaves : (s : State) (event : Event) (cspace slot : ℕ) → IsTrue (list_all (leaves cspace slot) (changes_of s event))
    → word_at (after_event s event) cspace slot ≡ word_at s cspace slot
event_leaves s event cspace slot left =
    entry_word s event event.entry cspace slot
    ∙ word_kept s (changed_all s (changes_of s event)) cspace slot (slot_stays_all s (changes_of s event) cspace slot left)
