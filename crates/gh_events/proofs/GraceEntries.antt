-- An entry of the holder keeps grace, where it keeps no counter above a scan, and each grant fits what is
-- retired behind it.
use Rattle.std.proofs.Common.{◌≡◌, ◌<◌, ◌≤◌, ◌∙◌, ℕ, zero, suc, Bool, true, false, List, [], ◌∷◌, ◌++◌, ◌⊎◌, inl, inr, refl, subst, sym, ap, Option, Some, length, slice_get}
use Rattle.std.specs.Prelude.{◌||◌, option_map, slice_index}
use Rattle.std.specs.List.{list_any}
use Rattle.gh_base.specs.declared.cap_word.CapWord.{CapWord}
use Rattle.gh_base.specs.declared.limits.TheConstants.{CPUS}
use Rattle.gh_model.specs.History.{Event, counters, retires}
use Rattle.gh_model.specs.declared.entry.Entry.{Entry}
use Rattle.gh_model.specs.declared.state.State.{State}
use Rattle.gh_events.specs.Config.{Config, Cpu, Holder, is_acted}
use Rattle.gh_events.specs.Grace.{AreAtMost, CpuGrace, HasGrace, IsKept, Objects, Reads, objects_of, scan_of}
use Rattle.gh_events.specs.TurnEvents.{with_entry}
use Rattle.gh_events.proofs.GraceTurn.{KeepsRevived, held_kept, revived_kept, scans_kept}
use Rattle.gh_events.proofs.PinKeeps.{stands_in}

-- one CPU behind an entry

-- the entry's counter of this CPU is at most its counter, and at most its scan; and each grant that
-- was right is right behind the entry
pub record EntryFits (before behind : Objects) (event : Event) (at counter : ℕ) (scan : Option ℕ)
    : Type 0 where
  pub below : (seen : List ℕ) → counters event.entry ≡ Some seen → slice_index seen at ≤ counter
  pub scanned : (seen : List ℕ) (n : ℕ) → counters event.entry ≡ Some seen → scan ≡ Some n
      → slice_index seen at ≤ n
  pub reads : (section serial : ℕ) → Reads before at scan section serial
      → Reads behind at scan section serial

at_most_by : (history : List Event) (event one : Event) (at bound n : ℕ) (seen : List ℕ)
    → AreAtMost history at bound
    → ((kept : List ℕ) → counters event.entry ≡ Some kept → slice_index kept at ≤ bound)
    → (slice_get history n ≡ Some one) ⊎ (event ≡ one) → counters one.entry ≡ Some seen
    → slice_index seen at ≤ bound
at_most_by history event one at bound n seen most new (inl before) keeps = most n one seen before keeps
at_most_by history event one at bound n seen most new (inr same) keeps =
    new seen (ap (λ (any : Event). counters any.entry) same ∙ keeps)

at_most_more : (history : List Event) (event : Event) (at bound : ℕ) → AreAtMost history at bound
    → ((kept : List ℕ) → counters event.entry ≡ Some kept → slice_index kept at ≤ bound)
    → AreAtMost (history ++ event ∷ []) at bound
at_most_more history event at bound most new =
    λ n one seen is keeps. at_most_by history event one at bound n seen most new (stands_in history event one n is) keeps

pub entry_grace : (before behind : Objects) (history : List Event) (event : Event) (at : ℕ) (cpu : Cpu)
    (counter : ℕ) (scan : Option ℕ) → EntryFits before behind event at counter scan
    → CpuGrace before history at cpu counter scan
    → CpuGrace behind (history ++ event ∷ []) at cpu counter scan
entry_grace before behind history event at cpu counter scan fits grace = record {
  counted = grace.counted;
  opened = grace.opened;
  left = grace.left;
  ended = grace.ended;
  scanned = grace.scanned;
  acts = grace.acts;
  kept_below = at_most_more history event at counter grace.kept_below fits.below;
  kept_scanned = λ n is. at_most_more history event at n (grace.kept_scanned n is) (λ seen keeps. fits.scanned seen n keeps is);
  grants = grace.grants;
  reads = λ call serial is held. fits.reads call.section serial (grace.reads call serial is held);
  made_reads = λ i serial made is granted. fits.reads made.mark.section serial (grace.made_reads i serial made is granted);
}

-- the configuration behind an entry

abbrev pub with_event : Config → Event → (ℕ → ℕ) → (ℕ → ℕ → CapWord) → (Holder → Holder) → Config
with_event conf event index cap change = record conf {
  history = conf.history ++ event ∷ [];
  index = index;
  cap = cap;
  turn = option_map change conf.turn;
}

-- a place in a history stays
get_first : {X : Type 0} (items : List X) (new item : X) (i : ℕ) → slice_get items i ≡ Some item
    → slice_get (items ++ new ∷ []) i ≡ Some item
get_first [] new item i is = absurd (let never : ⊥ = cc in never)
get_first (first ∷ items) new item zero is = is
get_first (first ∷ items) new item (suc i) is = get_first items new item i is

get_last : {X : Type 0} (items : List X) (new : X) → slice_get (items ++ new ∷ []) (length items) ≡ Some new
get_last [] new = refl
get_last (first ∷ items) new = get_last items new

-- what an entry needs: what is retired behind it was so before or is retired by it, nothing else is
-- killed, and it fits each CPU
pub record EntryGraced (conf : Config) (event : Event) (index : ℕ → ℕ) (cap : ℕ → ℕ → CapWord)
    (change : Holder → Holder) : Type 0 where
  pub scans : (holder : Holder) → (change holder).scans ≡ holder.scans
  pub stays : (holder : Holder) → KeepsRevived holder (change holder)
  pub kept : (serial : ℕ) (seen : List ℕ)
      → (objects_of (with_event conf event index cap change)).kept serial ≡ Some seen
      → ((objects_of conf).kept serial ≡ Some seen) ⊎ ((retires event.entry ≡ Some serial) × (counters event.entry ≡ Some seen))
  pub killed : (serial : ℕ) → (objects_of (with_event conf event index cap change)).killed serial ≡ true
      → (objects_of conf).killed serial ≡ true
  pub fits : (cpu : ℕ) → cpu < CPUS
      → EntryFits (objects_of conf) (objects_of (with_event conf event index cap change)) event cpu (conf.counter cpu) (scan_of conf.turn cpu)

module _ (conf : Config) (event : Event) (index : ℕ → ℕ) (cap : ℕ → ℕ → CapWord)
    (change : Holder → Holder) (entry : EntryGraced conf event index cap change)
    (graced : HasGrace conf) where
  kept_on : (serial : ℕ) (seen : List ℕ)
      → ((objects_of conf).kept serial ≡ Some seen) ⊎ ((retires event.entry ≡ Some serial) × (counters event.entry ≡ Some seen))
      → IsKept (conf.history ++ event ∷ []) serial seen
  kept_on serial seen (inl before) =
      let was : IsKept conf.history serial seen = graced.kept serial seen before in
      record {
        at = was.at;
        event = was.event;
        is = get_first conf.history event was.event was.at was.is;
        retires = was.retires;
        keeps = was.keeps;
      }
  kept_on serial seen (inr now) = record {
    at = length conf.history;
    event = event;
    is = get_last conf.history event;
    retires = now.0;
    keeps = now.1;
  }

  -- grace stays
  pub entry_graced : HasGrace (with_event conf event index cap change)
  entry_graced = record {
    each = λ n within. subst (λ (scan : Option ℕ). CpuGrace (objects_of (with_event conf event index cap change)) (conf.history ++ event ∷ []) n (conf.cpu n) (conf.counter n) scan) (sym (scans_kept change conf.turn n entry.scans)) (entry_grace (objects_of conf) (objects_of (with_event conf event index cap change)) conf.history event n (conf.cpu n) (conf.counter n) (scan_of conf.turn n) (entry.fits n within) (graced.each n within));
    kept = λ serial seen kept. kept_on serial seen (entry.kept serial seen kept);
    one_killed = λ serial other one two. graced.one_killed serial other (entry.killed serial one) (entry.killed other two);
    held = λ serial killed. held_kept change conf.turn (graced.held serial (entry.killed serial killed));
    revived = revived_kept change conf.dead conf.turn entry.stays graced.revived;
    seats = graced.seats;
  }

any_more : {X : Type 0} (test : X → Bool) (items more : List X) → list_any test (items ++ more) ≡ false
    → list_any test items ≡ false
any_more test [] more none = refl
any_more test (first ∷ items) more none =
    by_first (test first) (list_any test items) (list_any test (items ++ more)) (any_more test items more) none
  where
    by_first : (here before behind : Bool) → (behind ≡ false → before ≡ false) → (here || behind) ≡ false
        → (here || before) ≡ false
    by_first true before behind rest none = none
    by_first false before behind rest none = rest none

-- one more entry takes back none
pub entry_stays : (conf : Config) (entry : Entry) (new : State) (index : ℕ → ℕ) (holder : Holder)
    → KeepsRevived holder (with_entry conf entry new index holder)
entry_stays conf entry new index holder =
    record { acted = any_more is_acted holder.entries (entry ∷ []); revived = refl }
