-- The other entries keep sound calls: a part, a retirement and a reclaim. And the holder's entries
-- together.
use Rattle.std.proofs.Common.{◌≡◌, ◌∙◌, ℕ, false, List, [], ◌∷◌, ◌++◌, find, length, refl, subst, sym, ap, Option, Some, None, option_map}
use Rattle.std.proofs.lemmas.List.{append-nil}
use Rattle.gh_base.specs.declared.cap_word.CapWord.{CapWord}
use Rattle.gh_invariant.specs.Events.{changes_of}
use Rattle.gh_invariant.proofs.EventsKept.{event_valid}
use Rattle.gh_model.specs.History as history
use Rattle.gh_model.specs.Legal.{CallIs, EntryIs, IsEndOf, IsNumbered, IsPart, is_part}
use Rattle.gh_model.specs.Marks.{InTurn, Made}
use Rattle.gh_model.specs.Rows.{is_object}
use Rattle.gh_model.specs.declared.entry.Entry.{Entry}
use Rattle.gh_model.specs.declared.entry.Entry.TheVariants.{Acted, Part, Retired, Reclaimed}
use Rattle.gh_model.specs.declared.rows.ObjectRow.{ObjectRow}
use Rattle.gh_model.specs.declared.state.State.{State}
use Rattle.gh_events.specs.Calls.{HasCalls}
use Rattle.gh_events.specs.Config.{Config, Current, Holder, has_acted, is_acted, present}
use Rattle.gh_events.specs.Entries.{Allows, Covers, index_after, logged, next_state}
use Rattle.gh_events.specs.Grace.{HasGrace}
use Rattle.gh_events.specs.References.{HasReferences, IsRow}
use Rattle.gh_events.specs.Replayed.{HasState, SparesLooks}
use Rattle.gh_events.specs.TurnEvents.{MayCommit, MaySetCap, committed, committed_by, put_word, set_cap, with_entry}
use Rattle.gh_events.specs.ValidState.{HasValid}
use Rattle.gh_events.proofs.ActCalls.{act_goes, old_calls, old_numbers}
use Rattle.gh_events.proofs.DeathsOn.{IsPlaced}
use Rattle.gh_events.proofs.EntryCalls.{Before, Entering, EntryGoes, at_end, calls_behind, entry_keeps_calls, holder_behind, log_behind, state_behind, still_fails}
use Rattle.gh_events.proofs.EntryKeeps.{IndicesFit, commit_fits, entry_keeps, set_fits, setting_spares, some_of}
use Rattle.gh_events.proofs.EntryMoves.{with_log}
use Rattle.gh_events.proofs.GraceReclaim.{replay_more}
use Rattle.gh_events.proofs.GraceSpares.{entry_spares}
use Rattle.gh_events.proofs.HolderCalls.{none_committed}
use Rattle.gh_events.proofs.ValidEntries.{event_fits}

-- an entry that is no act ends no call
module _ (e : Entering) (before : Before e) (no_act : is_acted e.entry ≡ false) where
  calls_same : (n : ℕ) → calls_behind e n ≡ (e.conf.cpu n).made
  calls_same n =
      ap (λ (more : List Made). (e.conf.cpu n).made ++ more)
      (none_committed e.conf.boot (log_behind e) (Some (holder_behind e)) n (e.conf.cpu n).current (λ one is. not_yet one is))
      ∙ append-nil (e.conf.cpu n).made
    where
      not_yet : (one : Holder) → Some (holder_behind e) ≡ Some one → has_acted one ≡ false
      not_yet one is =
          let same : holder_behind e ≡ one = cc in
          ap has_acted (sym same) ∙ still_fails is_acted e.holder.entries e.entry no_act ∙ before.allows.not_acted

  plain_goes : EntryIs e.conf.boot (log_behind e) (calls_behind e) (length e.conf.history) (logged e.entry e.call) e.entry
      → (is_part e.entry ≡ false → (state_behind e).taken ≡ []) → EntryGoes e
  plain_goes entry_is untaken = record {
    allows = before.allows;
    deaths = before.deaths;
    finished = λ n. subst (λ (calls : List Made). InTurn (CallIs e.conf.boot (log_behind e) n) calls) (sym (calls_same n)) (old_calls e before n);
    numbered = λ n. subst (λ (calls : List Made). InTurn IsNumbered calls) (sym (calls_same n)) (old_numbers e before n);
    ends = λ n number entry is. subst (λ (calls : List Made). IsEndOf calls number entry) (sym (calls_same n)) is;
    entry_is = entry_is;
    untaken = untaken;
  }

module _ (conf : Config) (at : ℕ) (holder : Holder) (call : Current) (index : ℕ → ℕ) where
  abbrev with_kind : Entry → Entering
  with_kind kind = record {
    conf = conf;
    at = at;
    entry = kind;
    holder = holder;
    call = call;
    index = index;
  }

  -- each kind of entry goes with the calls behind it
  entry_goes : (kind : Entry) → Before (with_kind kind) → EntryGoes (with_kind kind)
  entry_goes (Acted cpu number) before = act_goes conf at cpu number holder call index before
  entry_goes (Part cpu number space slot) before =
      plain_goes (with_kind (Part cpu number space slot)) before refl
      (subst (λ (s : State). IsPart s (logged (Part cpu number space slot) call) space.0 slot) (sym (at_end (with_kind (Part cpu number space slot)))) before.allows.allowed.part)
      (λ no_part. absurd (let never : ⊥ = cc in never))
  entry_goes (Retired serial seen) before =
      plain_goes (with_kind (Retired serial seen)) before refl tt
      (λ no_part. rw (before.allows.allowed.unreferenced.0, before.allows.allowed.unreferenced.1) refl)
  entry_goes (Reclaimed serial seen) before =
      plain_goes (with_kind (Reclaimed serial seen)) before refl tt
      (λ no_part. rw (before.allows.allowed.unreferenced.0, before.allows.allowed.unreferenced.1) refl)

-- the facts of a configuration that an entry needs
pub record EntrySound (conf : Config) : Type 0 where
  pub sound : HasCalls conf
  pub refs : HasReferences conf
  pub graced : HasGrace conf
  pub state : HasState conf
  pub fit : HasValid conf

module _ (conf : Config) (at : ℕ) (entry : Entry) (holder : Holder) (call : Current)
    (index : ℕ → ℕ) (cap : ℕ → ℕ → CapWord) (past : EntrySound conf)
    (allows : Allows conf at entry holder call)
    (fits : IndicesFit conf holder (next_state conf call entry) (changes_of (present conf) (logged entry call)) index)
    (spares : SparesLooks conf entry) (covers : Covers conf holder (next_state conf call entry) index)
  where
    abbrev turn_behind : Option Holder
    turn_behind = option_map (with_entry conf entry (next_state conf call entry) index) conf.turn

    refs_behind : HasReferences (with_log conf (conf.history ++ logged entry call ∷ []) index turn_behind cap)
    refs_behind =
        entry_keeps conf at entry holder call index allows fits past.state cap past.refs spares covers

    placed_behind : IsPlaced (next_state conf call entry) index
    placed_behind = record {
      valid = event_valid (present conf) (logged entry call) past.fit.valid (event_fits conf at entry holder call index allows past.fit);
      unique = λ row other is also. refs_behind.placed.unique row other (in_log row is) (in_log other also);
    }
      where
        in_log : (row : ObjectRow) → IsRow (next_state conf call entry) row
            → IsRow (history.replay conf.boot (conf.history ++ logged entry call ∷ [])) row
        in_log row is =
            subst (λ (s : State). IsRow s row) (sym (replay_more conf.boot conf.history (logged entry call))) is

    before_entry : Before (with_kind conf at holder call index entry)
    before_entry = record {
      allows = allows;
      deaths = record {
        before = record { valid = past.fit.valid; unique = past.refs.placed.unique };
        behind = placed_behind;
        kept = λ serial lived. fits.kept serial (some_of (find (is_object serial) (present conf).objects) None lived);
      };
      sound = past.sound;
      refs = past.refs;
      fit = past.fit;
    }

    -- the entry keeps sound calls
    pub holder_keeps_calls : HasCalls (with_log conf (conf.history ++ logged entry call ∷ []) index turn_behind cap)
    holder_keeps_calls =
        subst (λ (turn : Option Holder). HasCalls (with_log conf (conf.history ++ logged entry call ∷ []) index turn cap))
        (sym (ap (option_map (with_entry conf entry (next_state conf call entry) index)) allows.has_turn.turn))
        (entry_keeps_calls (with_kind conf at holder call index entry) (entry_goes conf at holder call index entry before_entry) past.sound cap)

-- an entry that sets no slot keeps sound calls
pub commit_keeps_calls : (conf : Config) (at : ℕ) (entry : Entry) → EntrySound conf
    → MayCommit conf at entry → HasCalls (committed conf at entry)
commit_keeps_calls conf at entry past may =
    subst (λ (current : Option Current). HasCalls (committed_by conf entry (λ new. conf.index) current)) (sym may.allows.in_act.is_current)
    (holder_keeps_calls conf at entry may.holder may.call conf.index conf.cap past may.allows (commit_fits conf at entry may) (entry_spares conf at entry past.graced may) may.covers)

-- and so does one that sets a slot
pub set_cap_keeps_calls : (conf : Config) (at : ℕ) (entry : Entry) (space slot : ℕ) (word : CapWord)
    → EntrySound conf → MaySetCap conf at entry space slot word
    → HasCalls (set_cap conf at entry space slot word)
set_cap_keeps_calls conf at entry space slot word past may =
    subst (λ (current : Option Current). HasCalls (record (committed_by conf entry (λ new. index_after conf new word) current) { cap = put_word conf.cap space slot word })) (sym may.allows.in_act.is_current)
    (holder_keeps_calls conf at entry may.holder may.call (index_after conf (next_state conf may.call entry) word) (put_word conf.cap space slot word) past may.allows
    (set_fits conf at entry space slot word past.state may) (setting_spares conf (logged entry may.call) entry may.one_slot) may.covers)
