-- The history gets an entry that makes no object: the progress that stands for it.
use Rattle.std.proofs.Common.{◌≡◌, ◌<◌, ◌∙◌, ℕ, Bool, List, [], ◌∷◌, ◌++◌, sym, ap, subst, Option, None, Some}
use Rattle.std.proofs.lemmas.List.{map_push}
use Rattle.std.proofs.lemmas.List.Sums.{fold-append}
use Rattle.gh_base.specs.declared.cap_word.CapWord.{CapWord}
use Rattle.gh_schedules.specs.Places.{added}
use Rattle.gh_events.specs.Config.{Config, Current, Holder, present}
use Rattle.gh_events.specs.Entries.{logged, next_state}
use Rattle.gh_schedules.proofs.BlocksStay.{places_stay}
use Rattle.gh_schedules.proofs.Commits.{IsCommitted}
use Rattle.gh_invariant.specs.Events.{changes_of}
use Rattle.gh_items.specs.Acts.{in_state, with_entry}
use Rattle.gh_items.specs.Stands.{Stands}
use Rattle.gh_items.specs.declared.progress.Progress.{Progress}
use Rattle.gh_items.proofs.SerialLemmas.{event_serial}
use Rattle.gh_model.specs.History.{after_event, entry_of, replay}
use Rattle.gh_model.specs.declared.entry.Entry.{Entry}
use Rattle.gh_model.specs.declared.state.State.{State}

module _ (progress : Progress) (conf : Config) (stands : Stands progress conf) (entry : Entry) (call : Current)
    (none : added (changes_of (present conf) (logged entry call)) ≡ None) where
  pub grown : replay conf.boot (conf.history ++ logged entry call ∷ []) ≡ next_state conf call entry
  grown = fold-append after_event conf.boot conf.history (logged entry call ∷ [])

  serials : (replay conf.boot (conf.history ++ logged entry call ∷ [])).next_serial ≡ (present conf).next_serial
  serials = ap (λ (s : State). s.next_serial) grown ∙ event_serial (present conf) (logged entry call) none

  pub stands_behind : (cap : ℕ → ℕ → CapWord) (count : ℕ → ℕ) (dead : ℕ → Bool) (turn : Option Holder)
      → Stands (with_entry (in_state progress (next_state conf call entry)) entry)
      (record conf { history = conf.history ++ logged entry call ∷ []; index = conf.index; cap = cap; count = count; dead = dead; turn = turn })
  stands_behind cap count dead turn = record {
    state = sym grown;
    entries = ap (λ (entries : List Entry). entries ++ entry ∷ []) stands.entries ∙ sym (map_push entry_of conf.history (logged entry call));
    places = λ serial some made. stands.places serial some (subst (λ (next : ℕ). serial < next) serials made);
    all_placed = stands.all_placed ∙ sym serials;
    noted = λ serial some made.
        stands.noted serial some (subst (λ (next : ℕ). serial < next) serials made)
        ∙ ap (λ (places : ℕ → ℕ). Some (places serial)) (sym (places_stay conf (logged entry call) none));
    all_noted = stands.all_noted ∙ sym serials;
    nine_seats = stands.nine_seats;
    nine_calls = stands.nine_calls;
    seats = stands.seats;
  }

  pub entry_stands : (holder : Holder) (dead : ℕ → Bool) (revived : List ℕ) (new : Config)
      → IsCommitted conf holder entry call conf.index dead revived new
      → Stands (with_entry (in_state progress (next_state conf call entry)) entry) new
  entry_stands holder dead revived new committed =
      subst (Stands (with_entry (in_state progress (next_state conf call entry)) entry)) (sym committed.is)
      (stands_behind committed.cap committed.count dead _)
