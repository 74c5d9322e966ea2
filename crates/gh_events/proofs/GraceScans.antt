-- Scans, kills and turns that are taken and given back keep grace.
use Rattle.std.proofs.Common.{◌≡◌, ◌==◌, ◌<◌, ◌≤◌, ◌∙◌, ℕ, Bool, true, false, List, inl, inr, refl, subst, sym, ap, arith, Option, Some, None, is_some, if◌then◌else◌}
use Rattle.std.specs.Prelude.{nat_lt, option_map}
use Rattle.std.specs.List.{list_any}
use Rattle.std.specs.Option.{option_map_or}
use Rattle.std.proofs.lemmas.Bool.{eqb-true}
use Rattle.std.proofs.lemmas.Bool.Decides.{nat_tests}
use Rattle.gh_base.specs.declared.limits.TheConstants.{CPUS}
use Rattle.gh_model.specs.History.{Event}
use Rattle.gh_model.specs.Rows.{object_row}
use Rattle.gh_model.specs.declared.rows.ObjectRow.{ObjectRow}
use Rattle.gh_events.specs.Config.{Config, Cpu, Current, Holder, has_acted, is_killed, object_at, present, put, some_killed}
use Rattle.gh_events.specs.Entries.{is_that_index}
use Rattle.gh_events.specs.Grace.{AreRevived, CpuGrace, HasGrace, IsLeft, Objects, Reads, is_open_at, objects_of, scan_of}
use Rattle.gh_events.specs.HolderEvents.{MayKill, kill_failed, killed, scanned, with_failed, with_scan, without_scans}
use Rattle.gh_events.specs.References.{HasReferences}
use Rattle.gh_events.specs.TurnEvents.{MayQuit, quit}
use Rattle.gh_events.proofs.Finding.{put_here, put_other}
use Rattle.gh_events.proofs.GraceFrames.{unscanned}
use Rattle.gh_events.proofs.GraceTurn.{KilledRow, killed_row, none_killed, revived_kept, words_graced}
use Rattle.gh_events.proofs.Living.{LivesAt, lives_there}
use Rattle.gh_events.proofs.ReviveKeeps.{apart_by}

-- Scan

-- a section that was left, if there is one, is below the counter
left_below : (counter section : ℕ) → IsLeft counter section → nat_lt 0 section ≡ true
    → section < counter
left_below counter section (inl none) some =
    let more : 0 < section = grind (arith, nat_tests) in
    absurd (omega (arith, none, more))
left_below counter section (inr left) some = left.1

left_within : (counter section : ℕ) → IsLeft counter section → section ≤ counter
left_within counter section (inl none) = omega (arith, none)
left_within counter section (inr left) = let below : section < counter = left.1 in omega (arith, below)

module _ (objects : Objects) (history : List Event) (at : ℕ) (cpu : Cpu) (counter : ℕ)
    (scan : Option ℕ) (grace : CpuGrace objects history at cpu counter scan) where
  section_within : (call : Current) (open_now : Bool) → cpu.current ≡ Some call
      → is_open_at call.stage ≡ open_now → call.section ≤ counter
  section_within call true is opened =
      let same : call.section ≡ counter = grace.opened call is opened in
      omega (arith, same)
  section_within call false is closed = left_within counter call.section (grace.left call is closed)

  scans_now : (section serial n : ℕ) → section ≤ counter → Some counter ≡ Some n → section ≤ n
  scans_now section serial n within is =
      let same : counter ≡ n = cc in
      omega (arith, same, within)

  reads_scanned : (section serial : ℕ) → section ≤ counter → Reads objects at scan section serial
      → Reads objects at (Some counter) section serial
  reads_scanned section serial within reads =
      record { retired = reads.retired; killed = λ n killed is. scans_now section serial n within is }

  acts_scanned : (section n : ℕ) → Some counter ≡ Some n → section < counter → section < n
  acts_scanned section n is below = let same : counter ≡ n = cc in omega (arith, same, below)

  -- the present counter is a scan
  pub scanned_now : CpuGrace objects history at cpu counter (Some counter)
  scanned_now = record {
    counted = grace.counted;
    opened = grace.opened;
    left = grace.left;
    ended = grace.ended;
    scanned = λ n is. let same : counter ≡ n = cc in omega (arith, same);
    acts = λ n i made scan_is is placed some. acts_scanned made.mark.section n scan_is (left_below counter made.mark.section (grace.ended i made is) some);
    kept_below = grace.kept_below;
    kept_scanned = λ n is. let same : counter ≡ n = cc in λ k event seen there keeps. omega (arith, same, grace.kept_below k event seen there keeps);
    grants = grace.grants;
    reads = λ call serial is held. reads_scanned call.section serial (section_within call (is_open_at call.stage) is refl) (grace.reads call serial is held);
    made_reads = λ i serial made is granted. reads_scanned made.mark.section serial (left_within counter made.mark.section (grace.ended i made is)) (grace.made_reads i serial made is granted);
  }

module _ (conf : Config) (of : ℕ) (graced : HasGrace conf) where
  scan_by : (turn : Option Holder) (here : Bool) (n : ℕ) → conf.turn ≡ turn → (n == of) ≡ here → n < CPUS
      → CpuGrace (objects_of conf) conf.history n (conf.cpu n) (conf.counter n) (scan_of (option_map (with_scan of (conf.counter of)) turn) n)
  scan_by None here n is at within =
      subst (λ (one : Option Holder). CpuGrace (objects_of conf) conf.history n (conf.cpu n) (conf.counter n) (scan_of one n)) is (graced.each n within)
  scan_by (Some holder) true n is at within =
      let same : n ≡ of = eqb-true n of at in
      let value : put holder.scans of (Some (conf.counter of)) n ≡ Some (conf.counter n) = subst (λ (k : ℕ). put holder.scans of (Some (conf.counter of)) k ≡ Some (conf.counter k)) (sym same) (put_here holder.scans of (Some (conf.counter of))) in
      subst (λ (scan : Option ℕ). CpuGrace (objects_of conf) conf.history n (conf.cpu n) (conf.counter n) scan) (sym value) (scanned_now (objects_of conf) conf.history n (conf.cpu n) (conf.counter n) (scan_of conf.turn n) (graced.each n within))
  scan_by (Some holder) false n is at within =
      let value : scan_of conf.turn n ≡ put holder.scans of (Some (conf.counter of)) n = ap (λ (one : Option Holder). scan_of one n) is ∙ sym (put_other holder.scans of (Some (conf.counter of)) n at) in
      subst (λ (scan : Option ℕ). CpuGrace (objects_of conf) conf.history n (conf.cpu n) (conf.counter n) scan) value (graced.each n within)

  held_on : (turn : Option Holder) → is_some turn ≡ true
      → is_some (option_map (with_scan of (conf.counter of)) turn) ≡ true
  held_on None held = held
  held_on (Some holder) held = refl

  -- a scan keeps grace
  pub scan_graced : HasGrace (scanned conf of)
  scan_graced = record {
    each = λ n within. scan_by conf.turn (n == of) n refl refl within;
    kept = graced.kept;
    one_killed = graced.one_killed;
    held = λ serial killed. held_on conf.turn (graced.held serial killed);
    revived = revived_kept (with_scan of (conf.counter of)) conf.dead conf.turn (λ holder. record { acted = λ acted. acted; revived = refl }) graced.revived;
    seats = graced.seats;
  }

-- Kill

cleared : (turn : Option Holder) (n : ℕ) → scan_of (option_map without_scans turn) n ≡ None
cleared None n = refl
cleared (Some holder) n = refl

module _ (conf : Config) (at object : ℕ) (sound : HasReferences conf) (graced : HasGrace conf)
    (may : MayKill conf at object) where
  victim : LivesAt (present conf) conf.index object may.row.serial.0
  victim = lives_there (present conf) conf.index object may.row may.lives_there

  -- an object that wasn't killed before and is now lives at the index
  now_killed : (serial : ℕ) (here : Bool) → (is : KilledRow (present conf) (put conf.dead object true) conf.index serial)
      → (conf.index is.row.serial.0 == object) ≡ here → serial ≡ may.row.serial.0
  now_killed serial true is there =
      let same : conf.index is.row.serial.0 ≡ object = eqb-true (conf.index is.row.serial.0) object there in
      sym is.same ∙ (sound.placed.unique is.row victim.row is.is victim.is (same ∙ sym victim.there) ∙ victim.same)
  now_killed serial false is there =
      let before : conf.dead (conf.index is.row.serial.0) ≡ true = sym (put_other conf.dead object true (conf.index is.row.serial.0) there) ∙ is.is_dead in
      let none : is_some is.row.retired ≡ false = ap is_some is.unretired in
      let row_killed : option_map_or (is_killed conf.dead conf.index) (object_row (present conf) serial) false ≡ true = ap (λ (one : Option ObjectRow). option_map_or (is_killed conf.dead conf.index) one false) is.found ∙ (ap (λ (retired : Bool). if retired then false else conf.dead (conf.index is.row.serial.0)) none ∙ before) in
      absurd (none_killed conf serial may.none_killed row_killed)

  kills_only : (serial : ℕ) → (objects_of (record conf { turn = option_map without_scans conf.turn; dead = put conf.dead object true })).killed serial ≡ true
      → serial ≡ may.row.serial.0
  kills_only serial killed =
      let is : KilledRow (present conf) (put conf.dead object true) conf.index serial = killed_row (record conf { turn = option_map without_scans conf.turn; dead = put conf.dead object true }) serial killed in
      now_killed serial (conf.index is.row.serial.0 == object) is refl

  turn_held : is_some (option_map without_scans conf.turn) ≡ true
  turn_held = ap (λ (one : Option Holder). is_some (option_map without_scans one)) may.has_turn.turn

  -- at an index that was revived nothing lives yet, so nothing is killed
  kill_apart : (i : ℕ) → object_at (present conf) conf.index i ≡ None → (i == object) ≡ false
  kill_apart i none =
      apart_by i object (λ (same : i ≡ object). let empty : object_at (present conf) conf.index object ≡ None = subst (λ (n : ℕ). object_at (present conf) conf.index n ≡ None) same none in let some : object_at (present conf) conf.index object ≡ Some may.row = may.lives_there in cc)

  kill_revived : AreRevived (option_map without_scans conf.turn) (put conf.dead object true)
  kill_revived holder i is acted some =
      let now : Some (without_scans may.holder) ≡ Some holder = sym (ap (option_map without_scans) may.has_turn.turn) ∙ is in
      let same : without_scans may.holder ≡ holder = cc in
      let before : has_acted may.holder ≡ false = ap has_acted same ∙ acted in
      let list : list_any (is_that_index i) may.holder.revived ≡ true = ap (λ (one : Holder). list_any (is_that_index i) one.revived) same ∙ some in
      put_other conf.dead object true i (kill_apart i (sound.placed.fresh may.holder i may.has_turn.turn before list)) ∙ graced.revived may.holder i may.has_turn.turn before list

  kill_succeeds : HasGrace (record conf { turn = option_map without_scans conf.turn; dead = put conf.dead object true })
  kill_succeeds = record {
    each = λ n within. subst (λ (scan : Option ℕ). CpuGrace (objects_of (record conf { turn = option_map without_scans conf.turn; dead = put conf.dead object true })) conf.history n (conf.cpu n) (conf.counter n) scan) (sym (cleared conf.turn n)) (unscanned (objects_of conf) (objects_of (record conf { turn = option_map without_scans conf.turn; dead = put conf.dead object true })) conf.history n (conf.cpu n) (conf.counter n) (scan_of conf.turn n) (λ serial. refl) (graced.each n within));
    kept = graced.kept;
    one_killed = λ serial other one two. kills_only serial one ∙ sym (kills_only other two);
    held = λ serial killed. turn_held;
    revived = kill_revived;
    seats = graced.seats;
  }

  kill_fails : (found : Option ObjectRow) → HasGrace (kill_failed conf object found)
  kill_fails None = graced
  kill_fails (Some row) =
      words_graced conf conf.count (with_failed row.serial.0 (conf.count object)) (λ holder. refl) (λ holder. record { acted = λ acted. acted; revived = refl }) graced

  kill_by : (here : Bool) → HasGrace (if here
      then record conf { turn = option_map without_scans conf.turn; dead = put conf.dead object true }
      else kill_failed conf object (object_at (present conf) conf.index object))
  kill_by true = kill_succeeds
  kill_by false = kill_fails (object_at (present conf) conf.index object)

  -- a kill keeps grace
  pub kill_graced : HasGrace (killed conf object)
  kill_graced = kill_by (conf.count object == 0)

-- the turn given back

-- no object is killed where the turn is given back, and no scan is left
pub free_graced : (conf : Config) → some_killed conf ≡ false → HasGrace conf
    → HasGrace (record conf { turn = None })
free_graced conf none graced = record {
  each = λ n within. unscanned (objects_of conf) (objects_of conf) conf.history n (conf.cpu n) (conf.counter n) (scan_of conf.turn n) (λ serial. refl) (graced.each n within);
  kept = graced.kept;
  one_killed = graced.one_killed;
  held = λ serial killed. absurd (none_killed conf serial none killed);
  revived = λ holder i is. absurd (let never : ⊥ = cc in never);
  seats = graced.seats;
}

-- a turn that is given back before its act keeps grace
pub quit_graced : (conf : Config) (at : ℕ) → HasGrace conf → MayQuit conf at → HasGrace (quit conf)
quit_graced conf at graced may = free_graced conf may.none_killed graced
