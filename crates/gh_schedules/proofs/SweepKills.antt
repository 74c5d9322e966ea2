-- The steps of the sweep: an object without references is killed where its word counts nothing, and
-- then retired.
use Rattle.std.proofs.Common.{◌≡◌, ◌==◌, ◌∙◌, inl, inr, ℕ, Bool, true, false, not, List, [], ◌∷◌, refl, subst, sym, ap, arith, Option, Some, None, is_some, if◌then◌else◌}
use Rattle.std.specs.Prelude.{⊤, ◌&&◌, option_map}
use Rattle.std.specs.Option.{option_map_or}
use Rattle.std.proofs.lemmas.Bool.{and_from, and_parts, eqb-true}
use Rattle.std.proofs.lemmas.Bool.Decides.{eqb_tells, nat_tests}
use Rattle.gh_base.specs.declared.ids.Serial.{Serial}
use Rattle.gh_base.specs.declared.limits.TheConstants.{CPUS}
use Rattle.gh_model.specs.Act.{counted}
use Rattle.gh_model.specs.Changes.{retire_object, with_counters}
use Rattle.gh_model.specs.History as history
use Rattle.gh_model.specs.References.{is_doomed}
use Rattle.gh_model.specs.Rows.{is_object, object_row}
use Rattle.gh_model.specs.declared.entry.Entry.{Entry}
use Rattle.gh_model.specs.declared.entry.Entry.TheVariants.{Retired}
use Rattle.gh_model.specs.declared.rows.ObjectRow.{ObjectRow}
use Rattle.gh_model.specs.declared.state.State.{State}
use Rattle.gh_model.proofs.ChangedRows.{find_changed}
use Rattle.gh_invariant.specs.Lives.{lives}
use Rattle.gh_schedules.specs.Committing.{committing}
use Rattle.gh_events.specs.Config.{Config, Current, Holder, has_acted, has_part, is_at, is_killed, object_at, present, put}
use Rattle.gh_events.specs.Entries.{Allows, logged}
use Rattle.gh_events.specs.Grace.{objects_of}
use Rattle.gh_events.specs.HolderEvents.{MayKill, kill_failed, killed, with_failed, with_turn, without_scans}
use Rattle.gh_events.specs.Sound.{IsSound}
use Rattle.gh_schedules.specs.Sweep.{counters, kill, killing, kills, may_kill, may_reclaim, reclaiming, retired_now, retires_dead, retiring, scans}
use Rattle.gh_schedules.specs.Trace.{and_then}
use Rattle.gh_schedules.proofs.Commits.{IsActive, IsCommitted, plain_commits}
use Rattle.gh_events.proofs.EntryMoves.{indices_of, lives_there, there_index, there_lives}
use Rattle.gh_schedules.proofs.EntryReferences.{MakesNone}
use Rattle.gh_events.proofs.Finding.{found_passes, put_here, put_other}
use Rattle.gh_events.proofs.GraceReclaim.{Changed, Kept, RowBehind, retire_row}
use Rattle.gh_schedules.proofs.KilledNone.{NoneKilled, killed_in, none_some, own_row}
use Rattle.gh_schedules.proofs.Scanning.{HasScans, ScansTo, are_scans, scans_lead, with_scans}
use Rattle.gh_events.proofs.SoundEvents.{event_keeps_sound}
use Rattle.gh_schedules.proofs.SweepSteps.{Grew, IsScanned, IsSeen, IsStill, IsSweeping, Steps, failed_of, grew, no_object, reclaiming_leads, swept}
use Rattle.gh_schedules.proofs.TraceLaws.{Leads, leads_none, leads_so, leads_then}

-- entries were added on the way
pub grew_on : (a b c : Config) (Fact : Config → Type 0) → Grew a b → Steps b Fact c → Grew a c
grew_on a b c Fact first (inl more) =
    record { entries = omega (arith, first.entries, more.entries); left = omega (arith, first.left, more.left) }
grew_on a b c Fact first (inr still) =
    let log : c.history ≡ b.history = still.0.history in
    let boot : c.boot ≡ b.boot = still.0.boot in
    subst (λ (events : List history.Event). Grew a (record c { history = events })) (sym log)
    (subst (λ (one : State). Grew a (record c { history = b.history; boot = one })) (sym boot) (record { entries = first.entries; left = first.left }))

-- entries were added behind where nothing changed
pub still_grew : (a b c : Config) → IsStill a b → Grew b c → Grew a c
still_grew a b c still more =
    let log : b.history ≡ a.history = still.history in
    let boot : b.boot ≡ a.boot = still.boot in
    let go : Grew (record b { history = a.history; boot = a.boot }) c =
    subst (λ (events : List history.Event). Grew (record b { history = events; boot = a.boot }) c) log
    (subst (λ (one : State). Grew (record b { boot = one }) c) boot more) in
    record { entries = go.entries; left = go.left }

pub still_still : (a b c : Config) → IsStill a b → IsStill b c → IsStill a c
still_still a b c first more = record {
  history = more.history ∙ first.history;
  boot = more.boot ∙ first.boot;
  counter = more.counter ∙ first.counter;
  failed = λ serial some. more.failed serial (first.failed serial some);
}

-- the holder scanned, and all else is as it was
pub scanned_on : (conf : Config) (at : ℕ) (call : Current) (sweeping : IsSweeping conf at call) (new : Config)
    → ScansTo conf sweeping.holder sweeping.holder.scans 0 CPUS new → IsScanned new at call
scanned_on conf at call sweeping new has =
    subst (λ (there : Config). IsScanned there at call) (sym has.is) record {
      sweeping = record {
        holder = with_scans sweeping.holder has.seen;
        active = record {
          sound = subst IsSound has.is has.sound;
          is_cpu = sweeping.active.is_cpu;
          has_turn = record { turn = refl; its_cpu = sweeping.active.has_turn.its_cpu };
          in_act = sweeping.active.in_act;
          owes_nothing = sweeping.active.owes_nothing;
          unrevived = sweeping.active.unrevived;
          blocks = record { apart = sweeping.active.blocks.apart; few = sweeping.active.blocks.few; each = sweeping.active.blocks.each };
        };
        not_acted = sweeping.not_acted;
        no_part = sweeping.no_part;
        none_killed = sweeping.none_killed;
      };
      scans = λ cpu few. has.got cpu (omega arith) few;
    }

pub still_on : (conf : Config) (at : ℕ) (call : Current) (sweeping : IsSweeping conf at call) (new : Config)
    → ScansTo conf sweeping.holder sweeping.holder.scans 0 CPUS new → IsStill conf new
still_on conf at call sweeping new has =
    subst (λ (there : Config). IsStill conf there) (sym has.is) record {
      history = refl;
      boot = refl;
      counter = refl;
      failed = λ serial some. sym (ap (λ (turn : Option Holder). failed_of turn serial) sweeping.active.has_turn.turn) ∙ some;
    }

-- the object of this serial is killed, and has no references and isn't retired
pub record IsDying (conf : Config) (at : ℕ) (call : Current) (serial : ℕ) : Type 0 where
  pub holder : Holder
  pub active : IsActive conf at holder call
  pub not_acted : has_acted holder ≡ false
  pub no_part : has_part holder ≡ false
  pub doomed : is_doomed (present conf) serial ≡ true
  pub unretired : history.is_unretired (object_row (present conf) serial) ≡ true
  pub dead : conf.dead (conf.index serial) ≡ true

not_some : (b : Bool) → not b ≡ true → b ≡ false
not_some true is = absurd (let never : ⊥ = cc in never)
not_some false is = refl

-- Retired, with the counters that were scanned since the kill

module _ (conf : Config) (at : ℕ) (call : Current) (serial : Serial) (dying : IsDying conf at call serial.0)
    (scanned : HasScans conf dying.holder) where
  abbrev entry : Entry
  entry = Retired serial (counters conf)

  allows_retired : Allows conf at entry dying.holder call
  allows_retired = record {
    has_turn = dying.active.has_turn;
    in_act = dying.active.in_act;
    not_acted = dying.not_acted;
    allowed = record {
      unreferenced = (dying.doomed, dying.unretired);
      dead = dying.dead;
      scans = are_scans conf dying.holder dying.active.has_turn.turn scanned;
      no_part = dying.no_part;
    };
  }

  killed_by : (found : Option ObjectRow) → object_row (present conf) serial.0 ≡ found
      → history.is_unretired found ≡ true
      → option_map_or (is_killed conf.dead conf.index) found false ≡ true
  killed_by None is unretired = absurd (let never : ⊥ = cc in never)
  killed_by (Some row) is unretired =
      let same : row.serial.0 ≡ serial.0 = eqb-true row.serial.0 serial.0 (found_passes (is_object serial.0) (present conf).objects row is) in
      ap (λ (kept : Bool). if kept then false else conf.dead (conf.index row.serial.0)) (not_some (is_some row.retired) unretired)
      ∙ ap (λ (n : ℕ). conf.dead (conf.index n)) same ∙ dying.dead

  its_killed : (objects_of conf).killed serial.0 ≡ true
  its_killed = killed_by (object_row (present conf) serial.0) refl dying.unretired

  -- no other is killed
  other_by : (x : ℕ) → (x == serial.0) ≡ false → (dead : Bool)
      → killed_in (present conf) conf.index conf.dead x ≡ dead
      → killed_in (present conf) conf.index conf.dead x ≡ false
  other_by x apart false is = is
  other_by x apart true is =
      let same : x ≡ serial.0 = dying.active.sound.grace.one_killed x serial.0 is its_killed in
      absurd (let never : ⊥ = grind (arith, nat_tests) in never)

  retired_by : (found : Option ObjectRow)
      → option_map_or (is_killed conf.dead conf.index) (option_map (with_counters (counters conf)) found) false ≡ false
  retired_by None = refl
  retired_by (Some row) = refl

  none_by : (x : ℕ) → killed_in (counted (retire_object serial (counters conf) (present conf))) conf.index conf.dead x ≡ false
  none_by x =
      elim (eqb_tells x serial.0) as (λ _. killed_in (counted (retire_object serial (counters conf) (present conf))) conf.index conf.dead x ≡ false) [
        | inl same ↦ subst (λ (n : ℕ). killed_in (counted (retire_object serial (counters conf) (present conf))) conf.index conf.dead n ≡ false) (sym same.1) (ap (λ (found : Option ObjectRow). option_map_or (is_killed conf.dead conf.index) found false) (find_changed (is_object serial.0) (with_counters (counters conf)) (present conf).objects (λ row. refl)) ∙ retired_by (object_row (present conf) serial.0))
        | inr differs ↦ by_row (retire_row (present conf) serial (counters conf) x) differs.0
      ]
    where
      by_row : RowBehind (present conf) (counted (retire_object serial (counters conf) (present conf))) serial.0 (option_map (with_counters (counters conf))) x
          → (x == serial.0) ≡ false → killed_in (counted (retire_object serial (counters conf) (present conf))) conf.index conf.dead x ≡ false
      by_row (Kept same) apart =
          ap (λ (found : Option ObjectRow). option_map_or (is_killed conf.dead conf.index) found false) same
          ∙ other_by x apart (killed_in (present conf) conf.index conf.dead x) refl
      by_row (Changed here now) apart = absurd (let never : ⊥ = grind (arith, nat_tests) in never)

  none_now : NoneKilled (history.after_event (present conf) (logged entry call)) conf.index conf.dead
  none_now x =
      let allowed : (is_doomed (present conf) serial.0 && history.is_unretired (object_row (present conf) serial.0)) ≡ true = and_from _ _ dying.doomed dying.unretired in
      ap (λ (one : Bool). killed_in (if one then counted (retire_object serial (counters conf) (present conf)) else history.numbered (present conf)) conf.index conf.dead x) allowed ∙ none_by x

  pub retired_leads : Leads conf (retired_now at serial conf) (λ new. IsSweeping new at call × Grew conf new)
  unfolding retired_now
  retired_leads =
      let none : MakesNone (present conf) (logged entry call) = no_object conf at entry dying.holder call dying.active allows_retired refl in
      leads_so conf (committing at entry conf) (IsCommitted conf dying.holder entry call conf.index conf.dead dying.holder.revived) (λ new. IsSweeping new at call × Grew conf new)
      (plain_commits conf at entry dying.holder call dying.active allows_retired none)
      (λ new committed. (
        swept conf at call entry dying.holder dying.active allows_retired dying.no_part refl refl new none_now committed,
        grew conf at call entry dying.holder dying.active allows_retired dying.no_part refl refl new committed refl,
      ))

-- a killed object is retired, and tried once

module _ (at : ℕ) (call : Current) (serial : Serial) where
  -- scanned since the kill
  record IsReady (conf : Config) : Type 0 where
    dying : IsDying conf at call serial.0
    scanned : HasScans conf dying.holder

  ready_on : (conf : Config) (dying : IsDying conf at call serial.0) (new : Config)
      → ScansTo conf dying.holder dying.holder.scans 0 CPUS new → IsReady new × IsStill conf new
  ready_on conf dying new has =
      subst (λ (there : Config). IsReady there × IsStill conf there) (sym has.is) (
        record {
          dying = record {
            holder = with_scans dying.holder has.seen;
            active = record {
              sound = subst IsSound has.is has.sound;
              is_cpu = dying.active.is_cpu;
              has_turn = record { turn = refl; its_cpu = dying.active.has_turn.its_cpu };
              in_act = dying.active.in_act;
              owes_nothing = dying.active.owes_nothing;
              unrevived = dying.active.unrevived;
              blocks = record { apart = dying.active.blocks.apart; few = dying.active.blocks.few; each = dying.active.blocks.each };
            };
            not_acted = dying.not_acted;
            no_part = dying.no_part;
            doomed = dying.doomed;
            unretired = dying.unretired;
            dead = dying.dead;
          };
          scanned = λ cpu few. has.got cpu (omega arith) few;
        },
        record { history = refl; boot = refl; counter = refl; failed = λ x some. sym (ap (λ (turn : Option Holder). failed_of turn x) dying.active.has_turn.turn) ∙ some },
      )

  abbrev Done : Config → Config → Type 0
  Done conf new = IsScanned new at call × Grew conf new

  tried : (conf new : Config) → IsScanned new at call → Grew conf new
      → Leads new (reclaiming at serial new) (Done conf)
  tried conf new scanned more =
      leads_so new (reclaiming at serial new) (λ last. IsScanned last at call × Steps new (λ one. may_reclaim (present one) serial (counters one) ≡ false) last) (Done conf)
      (reclaiming_leads new at call serial scanned)
      (λ last both. (both.0, grew_on conf new last (λ one. may_reclaim (present one) serial (counters one) ≡ false) more both.1))

  tried_scanned : (conf new : Config) → IsSweeping new at call → Grew conf new
      → Leads new (and_then (scans at) (reclaiming at serial) new) (Done conf)
  tried_scanned conf new sweeping more =
      leads_then (scans at) (reclaiming at serial) new (λ last. IsScanned last at call × Grew conf last) (Done conf)
      (leads_so new (scans at new) (ScansTo new sweeping.holder sweeping.holder.scans 0 CPUS) (λ last. IsScanned last at call × Grew conf last)
      (scans_lead new at sweeping.holder call sweeping.active)
      (λ last has. (scanned_on new at call sweeping last has, grew_on conf new last (λ one. ⊤) more (inr (still_on new at call sweeping last has, tt)))))
      (λ last both. tried conf last both.0 both.1)

  retired_on : (conf new : Config) → IsReady new × IsStill conf new
      → Leads new (and_then (retired_now at serial) (and_then (scans at) (reclaiming at serial)) new) (Done conf)
  retired_on conf new ready =
      leads_then (retired_now at serial) (and_then (scans at) (reclaiming at serial)) new (λ last. IsSweeping last at call × Grew new last) (Done conf)
      (retired_leads new at call serial ready.0.dying ready.0.scanned)
      (λ last both. tried_scanned conf last both.0 (still_grew conf new last ready.1 both.1))

  pub retiring_leads : (conf : Config) → IsDying conf at call serial.0
      → Leads conf (retiring at serial conf) (λ new. IsScanned new at call × Grew conf new)
  unfolding retiring
  retiring_leads conf dying =
      leads_then (scans at) (and_then (retired_now at serial) (and_then (scans at) (reclaiming at serial))) conf (λ new. IsReady new × IsStill conf new) (Done conf)
      (leads_so conf (scans at conf) (ScansTo conf dying.holder dying.holder.scans 0 CPUS) (λ new. IsReady new × IsStill conf new)
      (scans_lead conf at dying.holder call dying.active) (ready_on conf dying))
      (λ new ready. retired_on conf new ready)

-- the kill

module _ (conf : Config) (at : ℕ) (call : Current) (serial : Serial) (scanned : IsScanned conf at call)
  where
    abbrev holder : Holder
    holder = scanned.sweeping.holder

    abbrev at_index : ℕ
    at_index = conf.index serial.0

    -- the row of the object, as it is found at its index and by its serial
    record KillRow : Type 0 where
      row : ObjectRow
      there : object_at (present conf) conf.index (conf.index serial.0) ≡ Some row
      own : object_row (present conf) serial.0 ≡ Some row
      that : row.serial.0 ≡ serial.0

    alive_by : (found : Option ObjectRow) → history.is_unretired found ≡ true → is_some found ≡ true
    alive_by None unretired = absurd (let never : ⊥ = cc in never)
    alive_by (Some row) unretired = refl

    row_by : lives (present conf).objects serial.0 ≡ true → (found : Option ObjectRow)
        → object_at (present conf) conf.index (conf.index serial.0) ≡ found → is_some found ≡ true → KillRow
    row_by alive None is some = absurd (let never : ⊥ = cc in never)
    row_by alive (Some row) is some =
        let here : conf.index row.serial.0 ≡ conf.index serial.0 = there_index (present conf) conf.index (conf.index serial.0) row is in
        let same : row.serial.0 ≡ serial.0 =
        (indices_of conf scanned.sweeping.active.sound.references scanned.sweeping.active.sound.state.within).unique row.serial.0 serial.0 (there_lives (present conf) conf.index (conf.index serial.0) row is) alive here in
        record {
          row = row;
          there = is;
          own = subst (λ (n : ℕ). object_row (present conf) n ≡ Some row) same (own_row (is_at conf.index (conf.index serial.0)) (present conf).objects row scanned.sweeping.active.sound.valid.valid.objects.once is);
          that = same;
        }

    module _ (may : may_kill (present conf) serial ≡ true) where
      doomed : is_doomed (present conf) serial.0 ≡ true
      doomed = (and_parts (is_doomed (present conf) serial.0) (history.is_unretired (object_row (present conf) serial.0)) may).0

      unretired : history.is_unretired (object_row (present conf) serial.0) ≡ true
      unretired = (and_parts (is_doomed (present conf) serial.0) (history.is_unretired (object_row (present conf) serial.0)) may).1

      alive : lives (present conf).objects serial.0 ≡ true
      alive = alive_by (object_row (present conf) serial.0) unretired

      its_row : KillRow
      its_row =
          row_by alive (object_at (present conf) conf.index (conf.index serial.0)) refl (lives_there (present conf) conf.index serial.0 alive)

      none_kept : (kept : Option (List ℕ)) → not (is_some kept) ≡ true → kept ≡ None
      none_kept None is = refl
      none_kept (Some list) is = absurd (let never : ⊥ = cc in never)

      row_unretired : its_row.row.retired ≡ None
      row_unretired =
          none_kept its_row.row.retired (sym (ap history.is_unretired its_row.own) ∙ unretired)

      row_alive : conf.dead (conf.index serial.0) ≡ false
      row_alive =
          let none : killed_in (present conf) conf.index conf.dead serial.0 ≡ false = scanned.sweeping.none_killed serial.0 in
          let by_row : (if is_some its_row.row.retired then false else conf.dead (conf.index its_row.row.serial.0)) ≡ false =
          sym (ap (λ (found : Option ObjectRow). option_map_or (is_killed conf.dead conf.index) found false) its_row.own) ∙ none in
          sym (ap (λ (n : ℕ). conf.dead (conf.index n)) its_row.that)
          ∙ sym (ap (λ (kept : Option (List ℕ)). if is_some kept then false else conf.dead (conf.index its_row.row.serial.0)) row_unretired) ∙ by_row

      may_be_killed : MayKill conf at (conf.index serial.0)
      may_be_killed = record {
        is_cpu = scanned.sweeping.active.is_cpu;
        is_index = scanned.sweeping.active.sound.state.within serial.0 alive;
        holder = holder;
        has_turn = scanned.sweeping.active.has_turn;
        row = its_row.row;
        lives_there = its_row.there;
        doomed = ap (is_doomed (present conf)) its_row.that ∙ doomed;
        unretired = row_unretired;
        alive = row_alive;
        unowed = scanned.sweeping.active.owes_nothing (conf.index serial.0);
        not_acted = scanned.sweeping.not_acted;
        no_part = scanned.sweeping.no_part;
        none_killed = none_some (present conf) conf.index conf.dead scanned.sweeping.active.sound.valid.valid scanned.sweeping.none_killed;
      }

      sound_behind : IsSound (killed conf (conf.index serial.0))
      sound_behind = event_keeps_sound conf (kill at conf.index serial) scanned.sweeping.active.sound may_be_killed

      -- a word of 0 is dead then
      abbrev Dead : Config
      Dead = record conf { dead = put conf.dead (conf.index serial.0) true; turn = Some (without_scans holder) }

      dead_is : (conf.count (conf.index serial.0) == 0) ≡ true → killed conf (conf.index serial.0) ≡ Dead
      dead_is none =
          ap (λ (zero : Bool). if zero then record (with_turn without_scans conf) { dead = put conf.dead (conf.index serial.0) true } else kill_failed conf (conf.index serial.0) (object_at (present conf) conf.index (conf.index serial.0))) none
          ∙ ap (λ (turn : Option Holder). record conf { dead = put conf.dead (conf.index serial.0) true; turn = option_map without_scans turn }) scanned.sweeping.active.has_turn.turn

      is_dying : IsSound Dead → IsDying Dead at call serial.0
      is_dying sound = record {
        holder = without_scans holder;
        active = record {
          sound = sound;
          is_cpu = scanned.sweeping.active.is_cpu;
          has_turn = record { turn = refl; its_cpu = scanned.sweeping.active.has_turn.its_cpu };
          in_act = scanned.sweeping.active.in_act;
          owes_nothing = scanned.sweeping.active.owes_nothing;
          unrevived = scanned.sweeping.active.unrevived;
          blocks = record { apart = scanned.sweeping.active.blocks.apart; few = scanned.sweeping.active.blocks.few; each = scanned.sweeping.active.blocks.each };
        };
        not_acted = scanned.sweeping.not_acted;
        no_part = scanned.sweeping.no_part;
        doomed = doomed;
        unretired = unretired;
        dead = put_here conf.dead (conf.index serial.0) true;
      }

      -- else the count is kept as seen
      abbrev seen_holder : Holder
      seen_holder = with_failed its_row.row.serial.0 (conf.count (conf.index serial.0)) holder

      abbrev Seen : Config
      Seen = record conf { turn = Some seen_holder }

      seen_is : (conf.count (conf.index serial.0) == 0) ≡ false → killed conf (conf.index serial.0) ≡ Seen
      seen_is some =
          ap (λ (zero : Bool). if zero then record (with_turn without_scans conf) { dead = put conf.dead (conf.index serial.0) true } else kill_failed conf (conf.index serial.0) (object_at (present conf) conf.index (conf.index serial.0))) some
          ∙ ap (kill_failed conf (conf.index serial.0)) its_row.there
          ∙ ap (λ (turn : Option Holder). record conf { turn = option_map (with_failed its_row.row.serial.0 (conf.count (conf.index serial.0))) turn }) scanned.sweeping.active.has_turn.turn

      seen_scanned : IsSound Seen → IsScanned Seen at call
      seen_scanned sound = record {
        sweeping = record {
          holder = seen_holder;
          active = record {
            sound = sound;
            is_cpu = scanned.sweeping.active.is_cpu;
            has_turn = record { turn = refl; its_cpu = scanned.sweeping.active.has_turn.its_cpu };
            in_act = scanned.sweeping.active.in_act;
            owes_nothing = scanned.sweeping.active.owes_nothing;
            unrevived = scanned.sweeping.active.unrevived;
            blocks = record { apart = scanned.sweeping.active.blocks.apart; few = scanned.sweeping.active.blocks.few; each = scanned.sweeping.active.blocks.each };
          };
          not_acted = scanned.sweeping.not_acted;
          no_part = scanned.sweeping.no_part;
          none_killed = scanned.sweeping.none_killed;
        };
        scans = scanned.scans;
      }

      -- its own count is the one of its word
      own_seen : (x : ℕ) → x ≡ its_row.row.serial.0 → seen_holder.failed x ≡ Some (conf.count (conf.index x))
      own_seen x same =
          subst (λ (n : ℕ). seen_holder.failed n ≡ Some (conf.count (conf.index n))) (sym same)
          (put_here holder.failed its_row.row.serial.0 (Some (conf.count (conf.index serial.0)))
          ∙ ap (λ (n : ℕ). Some (conf.count (conf.index n))) (sym its_row.that))

      failed_on : (x : ℕ) → holder.failed x ≡ Some (conf.count (conf.index x))
          → seen_holder.failed x ≡ Some (conf.count (conf.index x))
      failed_on x seen =
          elim (eqb_tells x its_row.row.serial.0) as (λ _. seen_holder.failed x ≡ Some (conf.count (conf.index x))) [
            | inl same ↦ own_seen x same.1
            | inr differs ↦ put_other holder.failed its_row.row.serial.0 (Some (conf.count (conf.index serial.0))) x differs.0 ∙ seen
          ]

      seen_still : IsStill conf Seen
      seen_still = record {
        history = refl;
        boot = refl;
        counter = refl;
        failed = λ x some. failed_on x (sym (ap (λ (turn : Option Holder). failed_of turn x) scanned.sweeping.active.has_turn.turn) ∙ some);
      }

      seen_now : seen_holder.failed serial.0 ≡ Some (conf.count (conf.index serial.0))
      seen_now = own_seen serial.0 (sym its_row.that)

    -- a failed kill of this turn saw the count of an object that could still be killed
    abbrev pub KillSeen : Config → Type 0
    KillSeen new = may_kill (present new) serial ≡ true → IsSeen new serial.0

    abbrev Behind : Config → Type 0
    Behind new = IsScanned new at call × Steps conf KillSeen new

    kills_by : (may : may_kill (present conf) serial ≡ true) (none : Bool)
        → (conf.count (conf.index serial.0) == 0) ≡ none
        → Leads conf (kill at conf.index serial ∷ retires_dead at serial none (killed conf (conf.index serial.0))) Behind
    kills_by may true none =
        let goes : killed conf (conf.index serial.0) ≡ Dead may = dead_is may none in
        let dying : IsDying (Dead may) at call serial.0 = is_dying may (subst IsSound goes (sound_behind may)) in
        let on : Leads (Dead may) (retiring at serial (Dead may)) Behind =
        leads_so (Dead may) (retiring at serial (Dead may)) (λ new. IsScanned new at call × Grew (Dead may) new) Behind
        (retiring_leads at call serial (Dead may) dying)
        (λ new both. (both.0, inl (record { entries = both.1.entries; left = both.1.left }))) in
        let there : Leads (killed conf (conf.index serial.0)) (retiring at serial (killed conf (conf.index serial.0))) Behind =
        subst (λ (one : Config). Leads one (retiring at serial one) Behind) (sym goes) on in
        record { done = (may_be_killed may, there.done); behind = there.behind }
    kills_by may false none =
        let goes : killed conf (conf.index serial.0) ≡ Seen may = seen_is may none in
        let there : Behind (killed conf (conf.index serial.0)) =
        subst Behind (sym goes) (seen_scanned may (subst IsSound goes (sound_behind may)), inr (seen_still may, λ now. seen_now may)) in
        record { done = (may_be_killed may, tt); behind = there }

    killing_by : (may : Bool) → may_kill (present conf) serial ≡ may
        → Leads conf (if may then kills at serial conf else []) Behind
    killing_by true may = kills_by may (conf.count (conf.index serial.0) == 0) refl
    killing_by false may =
        leads_none conf Behind (
          scanned,
          inr (record { history = refl; boot = refl; counter = refl; failed = λ x some. some }, λ now. absurd (let never : ⊥ = cc in never)),
        )

    -- an object without references, where it is one
    pub killing_leads : Leads conf (killing at serial conf) (λ new. IsScanned new at call × Steps conf KillSeen new)
    unfolding killing
    killing_leads = killing_by (may_kill (present conf) serial) refl
