-- What leaves grace: an event that changes one CPU's part, and one that changes words and what the
-- holder keeps.
use Rattle.std.proofs.Common.{◌≡◌, ◌==◌, ◌<◌, ◌≤◌, ◌∙◌, ℕ, Bool, true, false, List, refl, subst, sym, ap, arith, Option, None, is_some, if◌then◌else◌}
use Rattle.std.proofs.lemmas.Bool.{eqb-true}
use Rattle.std.proofs.lemmas.Bool.Decides.{nat_tests}
use Rattle.gh_base.specs.declared.limits.TheConstants.{CPUS}
use Rattle.gh_model.specs.History.{Event}
use Rattle.gh_events.specs.Config.{Config, Cpu, Holder, put}
use Rattle.gh_events.specs.Grace.{AreRevived, CpuGrace, HasGrace, Objects, Reads, objects_of, scan_of}
use Rattle.gh_events.proofs.CpuMoves.{with_part}
use Rattle.gh_events.proofs.Finding.{put_other}
use Rattle.gh_events.proofs.WordsMove.{with_words}

-- one CPU

-- what a change of one CPU's part needs: its own grace; other counters stay
pub record PartGraced (conf : Config) (at : ℕ) (cpu : Cpu) (counter : ℕ → ℕ) : Type 0 where
  pub is_cpu : at < CPUS
  pub others : (n : ℕ) → (n == at) ≡ false → counter n ≡ conf.counter n
  pub own : CpuGrace (objects_of conf) conf.history at cpu (counter at) (scan_of conf.turn at)

module _ (conf : Config) (at : ℕ) (cpu : Cpu) (count counter : ℕ → ℕ)
    (part : PartGraced conf at cpu counter) (graced : HasGrace conf) where
  each_by : (here : Bool) (n : ℕ) → (n == at) ≡ here → n < CPUS
      → CpuGrace (objects_of conf) conf.history n (if here then cpu else conf.cpu n) (counter n) (scan_of conf.turn n)
  each_by true n is within =
      subst (λ (k : ℕ). CpuGrace (objects_of conf) conf.history k cpu (counter k) (scan_of conf.turn k)) (sym (eqb-true n at is)) part.own
  each_by false n is within =
      subst (λ (value : ℕ). CpuGrace (objects_of conf) conf.history n (conf.cpu n) value (scan_of conf.turn n)) (sym (part.others n is)) (graced.each n within)

  seats_on : (n : ℕ) → CPUS ≤ n → (put conf.cpu at cpu n).current ≡ None
  seats_on n beyond =
      let is_cpu : at < CPUS = part.is_cpu in
      let apart : (n == at) ≡ false = grind (arith, nat_tests) in
      ap (λ (one : Cpu). one.current) (put_other conf.cpu at cpu n apart) ∙ graced.seats n beyond

  pub part_graced : HasGrace (with_part conf at cpu count counter)
  part_graced = record {
    each = λ n within. each_by (n == at) n refl within;
    kept = graced.kept;
    one_killed = graced.one_killed;
    held = graced.held;
    revived = graced.revived;
    seats = seats_on;
  }

-- words and the holder

-- the same objects are retired with the same counters
abbrev pub KeepRetired : Objects → Objects → Type 0
KeepRetired before behind = (serial : ℕ) → behind.kept serial ≡ before.kept serial

-- without a scan nothing is asked of a kill
pub unscanned : (before behind : Objects) (history : List Event) (at : ℕ) (cpu : Cpu) (counter : ℕ)
    (scan : Option ℕ) → KeepRetired before behind → CpuGrace before history at cpu counter scan
    → CpuGrace behind history at cpu counter None
unscanned before behind history at cpu counter scan same grace = record {
  counted = grace.counted;
  opened = grace.opened;
  left = grace.left;
  ended = grace.ended;
  scanned = λ n is. absurd (let never : ⊥ = cc in never);
  acts = λ n i made is. absurd (let never : ⊥ = cc in never);
  kept_below = grace.kept_below;
  kept_scanned = λ n is. absurd (let never : ⊥ = cc in never);
  grants = grace.grants;
  reads = λ call serial is held. record { retired = λ seen kept. (grace.reads call serial is held).retired seen (sym (same serial) ∙ kept); killed = λ n killed is. absurd (let never : ⊥ = cc in never) };
  made_reads = λ i serial made is granted. record { retired = λ seen kept. (grace.made_reads i serial made is granted).retired seen (sym (same serial) ∙ kept); killed = λ n killed is. absurd (let never : ⊥ = cc in never) };
}

-- what a change of words and of the holder needs: the same objects are killed, as much is scanned,
-- and there is a holder where there was one
pub record TurnGraced (conf : Config) (dead : ℕ → Bool) (turn : Option Holder) : Type 0 where
  pub killed : (serial : ℕ)
      → (objects_of (record conf { dead = dead })).killed serial ≡ (objects_of conf).killed serial
  pub scans : (cpu : ℕ) → scan_of turn cpu ≡ scan_of conf.turn cpu
  pub held : is_some conf.turn ≡ true → is_some turn ≡ true
  pub revived : AreRevived turn dead

module _ (conf : Config) (count : ℕ → ℕ) (dead : ℕ → Bool) (turn : Option Holder)
    (stays : TurnGraced conf dead turn) (graced : HasGrace conf) where
  same_reads : (at section serial : ℕ) (scan : Option ℕ) → Reads (objects_of conf) at scan section serial
      → Reads (objects_of (record conf { dead = dead })) at scan section serial
  same_reads at section serial scan reads = record {
    retired = reads.retired;
    killed = λ n killed is. reads.killed n (sym (stays.killed serial) ∙ killed) is;
  }

  same_grace : (at counter : ℕ) (cpu : Cpu) (scan : Option ℕ)
      → CpuGrace (objects_of conf) conf.history at cpu counter scan
      → CpuGrace (objects_of (record conf { dead = dead })) conf.history at cpu counter scan
  same_grace at counter cpu scan grace = record {
    counted = grace.counted;
    opened = grace.opened;
    left = grace.left;
    ended = grace.ended;
    scanned = grace.scanned;
    acts = grace.acts;
    kept_below = grace.kept_below;
    kept_scanned = grace.kept_scanned;
    grants = grace.grants;
    reads = λ call serial is held. same_reads at call.section serial scan (grace.reads call serial is held);
    made_reads = λ i serial made is granted. same_reads at made.mark.section serial scan (grace.made_reads i serial made is granted);
  }

  pub turn_graced : HasGrace (with_words conf count dead turn)
  turn_graced = record {
    each = λ n within. subst (λ (scan : Option ℕ). CpuGrace (objects_of (record conf { dead = dead })) conf.history n (conf.cpu n) (conf.counter n) scan) (sym (stays.scans n)) (same_grace n (conf.counter n) (conf.cpu n) (scan_of conf.turn n) (graced.each n within));
    kept = graced.kept;
    one_killed = λ serial other one two. graced.one_killed serial other (sym (stays.killed serial) ∙ one) (sym (stays.killed other) ∙ two);
    held = λ serial killed. stays.held (graced.held serial (sym (stays.killed serial) ∙ killed));
    revived = stays.revived;
    seats = graced.seats;
  }
