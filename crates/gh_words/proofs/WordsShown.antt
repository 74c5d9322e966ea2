-- Plain words behind a step of the holder that changes reference words, or what the holder keeps.
use Rattle.std.proofs.Common.{◌≡◌, ◌==◌, ◌<◌, ◌∙◌, ℕ, Bool, false, List, sym, ap, subst, Option, Some, None, option_map, slice_get, slice_set}
use Rattle.gh_base.specs.declared.limits.TheConstants.{OBJECT_INDICES}
use Rattle.gh_events.specs.Config.{Config, Holder}
use Rattle.gh_events.specs.HolderEvents.{with_turn}
use Rattle.gh_events.specs.References.{owed_at}
use Rattle.gh_words.specs.Shows.{Fits, Shows, ShowsCpu, TurnIs, reference_word}
use Rattle.gh_words.specs.Tables.{with_reference}
use Rattle.gh_words.specs.declared.plain_words.PlainWords.{PlainWords}
use Rattle.gh_words.specs.declared.plain_words.ReferenceWord.{ReferenceWord}
use Rattle.gh_words.specs.declared.plain_words.Turn.{Turn}
use Rattle.gh_words.proofs.Puts.{set_shows}

-- what is owed behind a change of what the holder keeps
pub owed_changed : (change : Holder → Holder) (turn : Option Holder) (holder : Holder) (at : ℕ) → turn ≡ Some holder
    → owed_at (option_map change turn) at ≡ (change holder).owed at
owed_changed change turn holder at has = ap (λ (now : Option Holder). owed_at (option_map change now) at) has

-- the configuration with other reference words, and with what the holder keeps changed
abbrev pub stepped : Config → (Holder → Holder) → (ℕ → ℕ) → (ℕ → Bool) → Config
stepped conf change count dead = record (with_turn change conf) { count = count; dead = dead }

module _ (words : PlainWords) (conf : Config) (shown : Shows words conf) (change : Holder → Holder)
    (keeps : (holder : Holder) → (change holder).cpu ≡ holder.cpu) (count : ℕ → ℕ) (dead : ℕ → Bool) where
  abbrev next : Config
  next = stepped conf change count dead

  turn_stays : (turn : Option Turn) → TurnIs turn conf → TurnIs turn next
  turn_stays None is = ap (option_map change) is
  turn_stays (Some turn) is = record {
    holder = change is.holder;
    call = is.call;
    has_turn = ap (option_map change) is.has_turn;
    its_cpu = keeps is.holder ∙ is.its_cpu;
    within = is.within;
    in_act = record { is_current = is.in_act.is_current; at_stage = is.in_act.at_stage };
    number = is.number;
    frame = is.frame;
    grants = is.grants;
  }

  cpu_stays : (references : List ReferenceWord) (cpu : ℕ) → ShowsCpu words conf cpu
      → ShowsCpu (record words { references = references }) next cpu
  cpu_stays references cpu is = record {
    home = is.home;
    has_home = is.has_home;
    is_home = record { is = is.is_home.is; made = is.is_home.made; within = is.is_home.within };
    counter = is.counter;
    low = is.low;
    place = is.place;
  }

  -- where the reference words are those of the next configuration, the words show it
  pub shows_stepped : (references : List ReferenceWord)
      → ((at : ℕ) → at < OBJECT_INDICES → slice_get references at ≡ Some (reference_word next at))
      → ((at : ℕ) → at < OBJECT_INDICES → Fits next at)
      → Shows (record words { references = references }) next
  shows_stepped references are fit = record {
    caps = shown.caps;
    references = are;
    fits = fit;
    cpus = λ cpu within. cpu_stays references cpu (shown.cpus cpu within);
    entries = shown.entries;
    turn = turn_stays words.turn shown.turn;
  }

  -- where one word changes, and the others are as before
  pub shows_word : (object : ℕ) (word : ReferenceWord) → object < OBJECT_INDICES
      → reference_word next object ≡ word
      → ((n : ℕ) → (n == object) ≡ false → reference_word next n ≡ reference_word conf n)
      → ((at : ℕ) → at < OBJECT_INDICES → Fits next at)
      → Shows (with_reference words object word) next
  shows_word object word within here others fit =
      shows_stepped (slice_set words.references object word)
      (λ at few. set_shows words.references object at word (reference_word conf object) (reference_word conf at) (reference_word next at) (shown.references object within) (shown.references at few)
      (λ same. subst (λ (n : ℕ). reference_word next n ≡ word) (sym same) here) (others at))
      fit
