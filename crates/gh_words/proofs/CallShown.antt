-- Plain words behind a step of a CPU outside the turn.
use Rattle.std.proofs.Common.{◌≡◌, ◌+◌, ◌<◌, ◌≤◌, ◌^◌, ◌∙◌, ℕ, List, sym, ap, subst, arith, Option, Some, None, slice_get, slice_set}
use Rattle.gh_base.specs.declared.limits.TheConstants.{CPUS, OBJECT_INDICES}
use Rattle.gh_events.specs.Config.{AtAct, Config, Cpu, Current, IsIn, put}
use Rattle.gh_events.specs.Sound.{place_now}
use Rattle.gh_events.proofs.Finding.{put_here, put_other}
use Rattle.gh_words.specs.Shows.{Fits, HolderIs, Shows, ShowsCpu, TurnIs, reference_word}
use Rattle.gh_words.specs.declared.plain_words.PlainWords.{PlainWords}
use Rattle.gh_words.specs.declared.plain_words.ReferenceWord.{ReferenceWord}
use Rattle.gh_words.specs.declared.plain_words.Turn.{Turn}
use Rattle.gh_words.proofs.Puts.{each_place, set_shows}

-- the CPU isn't at its act
abbrev pub IsBefore : Config → ℕ → Type 0
IsBefore conf at = (call : Current) → IsIn (conf.cpu at) call AtAct → ⊥

-- a CPU's step: its call goes on, and its counter and the counts are these
abbrev pub gone_on : Config → ℕ → Cpu → (ℕ → ℕ) → (ℕ → ℕ) → Config
gone_on conf at one counter count = record conf {
  counter = counter;
  count = count;
  cpu = put conf.cpu at one;
}

-- the tables of counters and places are those of the configuration
pub record AreCpus (counters places : List ℕ) (conf : Config) (cpu : ℕ) : Type 0 where
  pub counter : slice_get counters cpu ≡ Some (conf.counter cpu)
  pub low : conf.counter cpu ≤ 2 ^ 62
  pub place : slice_get places cpu ≡ Some (place_now (conf.cpu cpu))

module _ (words : PlainWords) (conf : Config) (shown : Shows words conf) (at : ℕ) (before : IsBefore conf at) (one : Cpu)
    (counter count : ℕ → ℕ) where
  abbrev next : Config
  next = gone_on conf at one counter count

  holder_stays : (turn : Turn) → HolderIs turn conf → HolderIs turn next
  holder_stays turn is = record {
    holder = is.holder;
    call = is.call;
    has_turn = is.has_turn;
    its_cpu = is.its_cpu;
    within = is.within;
    in_act = each_place (λ (n : ℕ). IsIn (conf.cpu n) is.call AtAct → IsIn (put conf.cpu at one n) is.call AtAct) at turn.cpu.0
        (λ in_act. absurd (before is.call in_act))
        (λ differs in_act. subst (λ (cpu : Cpu). IsIn cpu is.call AtAct) (sym (put_other conf.cpu at one turn.cpu.0 differs)) in_act)
        is.in_act;
    number = is.number;
    frame = is.frame;
    grants = is.grants;
  }

  turn_goes_on : (turn : Option Turn) → TurnIs turn conf → TurnIs turn next
  turn_goes_on None is = is
  turn_goes_on (Some turn) is = holder_stays turn is

  -- where the tables are those of the next configuration, the words show it
  pub shows_gone : (references : List ReferenceWord) (counters places : List ℕ)
      → ((n : ℕ) → n < OBJECT_INDICES → slice_get references n ≡ Some (reference_word next n))
      → ((n : ℕ) → n < OBJECT_INDICES → Fits next n)
      → ((cpu : ℕ) → cpu < CPUS → AreCpus counters places next cpu)
      → Shows (record words { references = references; counters = counters; places = places }) next
  shows_gone references counters places are fit cpus = record {
    caps = shown.caps;
    references = are;
    fits = fit;
    cpus = λ cpu within.
        let is : ShowsCpu words conf cpu = shown.cpus cpu within in
        let now : AreCpus counters places next cpu = cpus cpu within in
        record {
          home = is.home;
          has_home = is.has_home;
          is_home = record { is = is.is_home.is; made = is.is_home.made; within = is.is_home.within };
          counter = now.counter;
          low = now.low;
          place = now.place;
        };
    entries = shown.entries;
    turn = turn_goes_on words.turn shown.turn;
  }

-- a step after which the CPU's last place is as before
module _ (words : PlainWords) (conf : Config) (shown : Shows words conf) (at : ℕ) (before : IsBefore conf at) (one : Cpu)
    (same_place : place_now one ≡ place_now (conf.cpu at)) where
  places_stay : (cpu : ℕ) → place_now (put conf.cpu at one cpu) ≡ place_now (conf.cpu cpu)
  places_stay cpu = each_place (λ (n : ℕ). place_now (put conf.cpu at one n) ≡ place_now (conf.cpu n)) at cpu
      (ap place_now (put_here conf.cpu at one) ∙ same_place)
      (λ differs. ap place_now (put_other conf.cpu at one cpu differs))

  -- its counter is one more
  pub shows_counted : at < CPUS → conf.counter at < 2 ^ 62
      → Shows (record words { counters = slice_set words.counters at (conf.counter at + 1) })
      (gone_on conf at one (put conf.counter at (conf.counter at + 1)) conf.count)
  shows_counted is_cpu low =
      shows_gone words conf shown at before one (put conf.counter at (conf.counter at + 1)) conf.count
      words.references (slice_set words.counters at (conf.counter at + 1)) words.places
      shown.references (λ n few. let was = shown.fits n few in record { bounded = was.bounded; least = was.least; few = was.few; dead = was.dead })
      (λ cpu within.
      let is : ShowsCpu words conf cpu = shown.cpus cpu within in
      record {
        counter = set_shows words.counters at cpu (conf.counter at + 1) (conf.counter at) (conf.counter cpu) (put conf.counter at (conf.counter at + 1) cpu)
            (shown.cpus at is_cpu).counter is.counter
            (λ same. subst (λ (n : ℕ). put conf.counter at (conf.counter at + 1) n ≡ conf.counter at + 1) (sym same) (put_here conf.counter at (conf.counter at + 1)))
            (λ differs. put_other conf.counter at (conf.counter at + 1) cpu differs);
        low = each_place (λ (n : ℕ). n < CPUS → put conf.counter at (conf.counter at + 1) n ≤ 2 ^ 62) at cpu
            (λ less. omega (arith, put_here conf.counter at (conf.counter at + 1), low))
            (λ differs less. omega (arith, put_other conf.counter at (conf.counter at + 1) cpu differs, is.low)) within;
        place = is.place ∙ ap (λ (n : ℕ). Some n) (sym (places_stay cpu));
      })

  -- the count of a word is another
  pub shows_pinned : (object number : ℕ) → object < OBJECT_INDICES
      → Fits (gone_on conf at one conf.counter (put conf.count object number)) object
      → Shows (record words { references = slice_set words.references object (record { count = number; dead = conf.dead object }) })
      (gone_on conf at one conf.counter (put conf.count object number))
  shows_pinned object number within fit =
      shows_gone words conf shown at before one conf.counter (put conf.count object number)
      (slice_set words.references object (record { count = number; dead = conf.dead object })) words.counters words.places
      (λ n few. set_shows words.references object n (record { count = number; dead = conf.dead object }) (reference_word conf object) (reference_word conf n)
      (record { count = put conf.count object number n; dead = conf.dead n }) (shown.references object within) (shown.references n few)
      (λ same. subst (λ (m : ℕ). reference_word (gone_on conf at one conf.counter (put conf.count object number)) m ≡ record { count = number; dead = conf.dead object }) (sym same)
      (ap (λ (c : ℕ). record { count = c; dead = conf.dead object }) (put_here conf.count object number)))
      (λ differs. ap (λ (c : ℕ). record { count = c; dead = conf.dead n }) (put_other conf.count object number n differs)))
      (λ n few. each_place (λ (m : ℕ). m < OBJECT_INDICES → Fits (gone_on conf at one conf.counter (put conf.count object number)) m) object n
      (λ less. fit)
      (λ differs less.
      let was : Fits conf n = shown.fits n less in
      let counts : put conf.count object number n ≡ conf.count n = put_other conf.count object number n differs in
      record { bounded = was.bounded; least = omega (arith, counts, was.least); few = omega (arith, counts, was.few); dead = was.dead }) few)
      (λ cpu within.
      let is : ShowsCpu words conf cpu = shown.cpus cpu within in
      record { counter = is.counter; low = is.low; place = is.place ∙ ap (λ (n : ℕ). Some n) (sym (places_stay cpu)) })
