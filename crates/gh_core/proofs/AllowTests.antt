-- The test of an entry tells that it is allowed.
use Rattle.std.proofs.Common.{◌≡◌, ◌==◌, ◌&&◌, ℕ, true, List, refl, Some, not, find, map}
use Rattle.gh_base.specs.declared.ids.CpuNo.{CpuNo}
use Rattle.gh_base.specs.declared.ids.Serial.{Serial}
use Rattle.gh_model.specs.Graced.{retirement}
use Rattle.gh_model.specs.History as history
use Rattle.gh_model.specs.Legal.{is_revoke, revoked_object, row_names}
use Rattle.gh_model.specs.Marks.{word_of}
use Rattle.gh_model.specs.References.{is_doomed}
use Rattle.gh_model.specs.Rows.{fills, object_row}
use Rattle.gh_model.specs.declared.entry.Entry.{Entry}
use Rattle.gh_model.specs.declared.entry.Entry.TheVariants.{Acted, Part, Retired, Reclaimed}
use Rattle.gh_events.specs.Config.{Config, Current, Holder, has_acted, has_part, judged, present, some_killed}
use Rattle.gh_events.specs.Entries.{Allows, IsActOf, IsPartOf, IsReclaim, IsRetirement, KindAllows, is_least, logged}
use Rattle.gh_core.specs.EntryTests.{allows, are_scans, goes_on, is_its, is_next_slot, is_unread, kind_goes, part_goes, revokes_next}
use Rattle.gh_events.specs.HolderEvents.{is_done}
use Rattle.gh_core.specs.Running.{act_is_made, is_made}
use Rattle.gh_core.specs.Tests.{is_at_act}
use Rattle.gh_core.proofs.CallTests.{both, equal, is_equal, joined}
use Rattle.gh_core.proofs.EntryTests.{Makes, are_scans_told, goes_told, makes_told, tells_are_scans, tells_goes, tells_makes, tells_unread, unread_told}
use Rattle.gh_core.proofs.HolderTests.{at_act_told, denied, denies}

module _ (conf : Config) (holder : Holder) (call : Current) where
  -- acts

  act_told : (cpu : CpuNo) (number : ℕ) → kind_goes conf holder call (logged (Acted cpu number) call) (Acted cpu number) ≡ true
      → act_is_made (present conf) cpu.0 (logged (Acted cpu number) call) ≡ true → IsActOf conf holder call cpu.0 number
  act_told cpu number goes made =
      let parts = both (is_its holder call cpu.0 number) (not (some_killed conf)) goes in
      let its = both (cpu.0 == holder.cpu) (number == call.given.number) parts.0 in
      let done = both (history.may_act (present conf) cpu.0 call.given.call (map word_of call.seen)) (is_done (judged (present conf) cpu.0 call)) made in
      let makes : Makes (judged (present conf) cpu.0 call) = makes_told (judged (present conf) cpu.0 call) done.1 in
      record {
        its_cpu = equal cpu.0 holder.cpu its.0;
        its_number = equal number call.given.number its.1;
        may_act = done.0;
        new = makes.new;
        reply = makes.reply;
        is_done = makes.is;
        none_killed = denied (some_killed conf) parts.1;
      }

  tells_act : (cpu : CpuNo) (number : ℕ) → IsActOf conf holder call cpu.0 number
      → (kind_goes conf holder call (logged (Acted cpu number) call) (Acted cpu number) ≡ true)
      × (act_is_made (present conf) cpu.0 (logged (Acted cpu number) call) ≡ true)
  tells_act cpu number is = (
    joined (is_its holder call cpu.0 number) (not (some_killed conf))
        (joined (cpu.0 == holder.cpu) (number == call.given.number) (is_equal cpu.0 holder.cpu is.its_cpu) (is_equal number call.given.number is.its_number))
        (denies (some_killed conf) is.none_killed),
    joined (history.may_act (present conf) cpu.0 call.given.call (map word_of call.seen)) (is_done (judged (present conf) cpu.0 call)) is.may_act
        (tells_makes (judged (present conf) cpu.0 call) is.new is.reply is.is_done),
  )

  -- parts

  module _ (cpu : CpuNo) (number : ℕ) (space : Serial) (slot : ℕ) where
    part_told : kind_goes conf holder call (logged (Part cpu number space slot) call) (Part cpu number space slot) ≡ true
        → history.may_part (find (fills space.0 slot) (present conf).caps) ≡ true
        → IsPartOf conf holder call (Part cpu number space slot) cpu.0 number space.0 slot
    part_told goes made =
        let parts = both (part_goes conf holder call (logged (Part cpu number space slot) call) (Part cpu number space slot)) (not (some_killed conf)) goes in
        let rest = both (is_its holder call cpu.0 number) (revokes_next conf call (logged (Part cpu number space slot) call) cpu.0 space.0 slot) parts.0 in
        let its = both (cpu.0 == holder.cpu) (number == call.given.number) rest.0 in
        let revokes = both (is_revoke call.given.call) _ rest.1 in
        let next = both (goes_on (judged (present conf) cpu.0 call)) (is_next_slot (present conf) (logged (Part cpu number space slot) call) space.0 slot) revokes.1 in
        let names = both (row_names (revoked_object (logged (Part cpu number space slot) call)) (find (fills space.0 slot) (present conf).caps)) _ next.1 in
        record {
          its_cpu = equal cpu.0 holder.cpu its.0;
          its_number = equal number call.given.number its.1;
          part = record { revoke = revokes.0; may_part = made; names = names.0 };
          goes_on = goes_told (present conf) cpu.0 call next.0;
          least = names.1;
          none_killed = denied (some_killed conf) parts.1;
        }

    tells_part : IsPartOf conf holder call (Part cpu number space slot) cpu.0 number space.0 slot
        → kind_goes conf holder call (logged (Part cpu number space slot) call) (Part cpu number space slot) ≡ true
    tells_part is =
        joined (part_goes conf holder call (logged (Part cpu number space slot) call) (Part cpu number space slot)) (not (some_killed conf))
        (joined (is_its holder call cpu.0 number) (revokes_next conf call (logged (Part cpu number space slot) call) cpu.0 space.0 slot)
        (joined (cpu.0 == holder.cpu) (number == call.given.number) (is_equal cpu.0 holder.cpu is.its_cpu) (is_equal number call.given.number is.its_number))
        (joined (is_revoke call.given.call) (goes_on (judged (present conf) cpu.0 call) && is_next_slot (present conf) (logged (Part cpu number space slot) call) space.0 slot) is.part.revoke
        (joined (goes_on (judged (present conf) cpu.0 call)) (is_next_slot (present conf) (logged (Part cpu number space slot) call) space.0 slot) (tells_goes (judged (present conf) cpu.0 call) is.goes_on)
        (joined (row_names (revoked_object (logged (Part cpu number space slot) call)) (find (fills space.0 slot) (present conf).caps))
        (is_least (present conf) (revoked_object (logged (Part cpu number space slot) call)) space.0 slot) is.part.names is.least))))
        (denies (some_killed conf) is.none_killed)

  -- retirements and reclaims

  module _ (serial : Serial) (seen : List ℕ) where
    retired_told : kind_goes conf holder call (logged (Retired serial seen) call) (Retired serial seen) ≡ true
        → (is_doomed (present conf) serial.0 && history.is_unretired (object_row (present conf) serial.0)) ≡ true
        → IsRetirement conf holder (Retired serial seen) serial.0 seen
    retired_told goes made =
        let parts = both (conf.dead (conf.index serial.0)) (are_scans holder seen && not (has_part holder)) goes in
        let rest = both (are_scans holder seen) (not (has_part holder)) parts.1 in
        record {
          unreferenced = both (is_doomed (present conf) serial.0) (history.is_unretired (object_row (present conf) serial.0)) made;
          dead = parts.0;
          scans = are_scans_told holder seen rest.0;
          no_part = denied (has_part holder) rest.1;
        }

    tells_retired : IsRetirement conf holder (Retired serial seen) serial.0 seen
        → (kind_goes conf holder call (logged (Retired serial seen) call) (Retired serial seen) ≡ true)
        × ((is_doomed (present conf) serial.0 && history.is_unretired (object_row (present conf) serial.0)) ≡ true)
    tells_retired is = (
      joined (conf.dead (conf.index serial.0)) (are_scans holder seen && not (has_part holder)) is.dead
          (joined (are_scans holder seen) (not (has_part holder)) (tells_are_scans holder seen is.scans) (denies (has_part holder) is.no_part)),
      joined (is_doomed (present conf) serial.0) (history.is_unretired (object_row (present conf) serial.0)) is.unreferenced.0 is.unreferenced.1,
    )

    reclaimed_told : kind_goes conf holder call (logged (Reclaimed serial seen) call) (Reclaimed serial seen) ≡ true
        → (is_doomed (present conf) serial.0 && history.is_retired (object_row (present conf) serial.0)) ≡ true
        → IsReclaim conf holder (Reclaimed serial seen) seen
    reclaimed_told goes made =
        let parts = both (is_unread (retirement (object_row (present conf) serial.0)) seen) (are_scans holder seen && not (has_part holder)) goes in
        let rest = both (are_scans holder seen) (not (has_part holder)) parts.1 in
        record {
          unreferenced = both (is_doomed (present conf) serial.0) (history.is_retired (object_row (present conf) serial.0)) made;
          unread = unread_told (retirement (object_row (present conf) serial.0)) seen parts.0;
          scans = are_scans_told holder seen rest.0;
          no_part = denied (has_part holder) rest.1;
        }

    tells_reclaimed : IsReclaim conf holder (Reclaimed serial seen) seen
        → (kind_goes conf holder call (logged (Reclaimed serial seen) call) (Reclaimed serial seen) ≡ true)
        × ((is_doomed (present conf) serial.0 && history.is_retired (object_row (present conf) serial.0)) ≡ true)
    tells_reclaimed is = (
      joined (is_unread (retirement (object_row (present conf) serial.0)) seen) (are_scans holder seen && not (has_part holder))
          (tells_unread (retirement (object_row (present conf) serial.0)) seen is.unread)
          (joined (are_scans holder seen) (not (has_part holder)) (tells_are_scans holder seen is.scans) (denies (has_part holder) is.no_part)),
      joined (is_doomed (present conf) serial.0) (history.is_retired (object_row (present conf) serial.0)) is.unreferenced.0 is.unreferenced.1,
    )

  -- each kind

  pub kind_told : (entry : Entry) → kind_goes conf holder call (logged entry call) entry ≡ true → is_made (present conf) (logged entry call) ≡ true
      → KindAllows conf holder call entry entry
  kind_told (Acted cpu number) goes made = act_told cpu number goes made
  kind_told (Part cpu number space slot) goes made = part_told cpu number space slot goes made
  kind_told (Retired serial seen) goes made = retired_told serial seen goes made
  kind_told (Reclaimed serial seen) goes made = reclaimed_told serial seen goes made

  pub tells_kind : (entry : Entry) → KindAllows conf holder call entry entry
      → (kind_goes conf holder call (logged entry call) entry ≡ true) × (is_made (present conf) (logged entry call) ≡ true)
  tells_kind (Acted cpu number) is = tells_act cpu number is
  tells_kind (Part cpu number space slot) is = (tells_part cpu number space slot is, is.part.may_part)
  tells_kind (Retired serial seen) is = tells_retired serial seen is
  tells_kind (Reclaimed serial seen) is = tells_reclaimed serial seen is

pub allow_told : (conf : Config) (at : ℕ) (entry : Entry) (holder : Holder) (call : Current) → allows conf at entry holder call ≡ true
    → conf.turn ≡ Some holder → (conf.cpu at).current ≡ Some call → Allows conf at entry holder call
allow_told conf at entry holder call is turn current =
    let parts = both ((holder.cpu == at) && (is_at_act call.stage && not (has_acted holder))) _ is in
    let acts = both (holder.cpu == at) (is_at_act call.stage && not (has_acted holder)) parts.0 in
    let before = both (is_at_act call.stage) (not (has_acted holder)) acts.1 in
    let kind = both (kind_goes conf holder call (logged entry call) entry) (is_made (present conf) (logged entry call)) parts.1 in
    record {
      has_turn = record { turn = turn; its_cpu = equal holder.cpu at acts.0 };
      in_act = record { is_current = current; at_stage = at_act_told call.stage before.0 };
      not_acted = denied (has_acted holder) before.1;
      allowed = kind_told conf holder call entry kind.0 kind.1;
    }

pub tells_allow : (conf : Config) (at : ℕ) (entry : Entry) (holder : Holder) (call : Current) → Allows conf at entry holder call
    → allows conf at entry holder call ≡ true
tells_allow conf at entry holder call is =
    let kind = tells_kind conf holder call entry is.allowed in
    joined ((holder.cpu == at) && (is_at_act call.stage && not (has_acted holder))) _
    (joined (holder.cpu == at) (is_at_act call.stage && not (has_acted holder)) (is_equal holder.cpu at is.has_turn.its_cpu)
    (joined (is_at_act call.stage) (not (has_acted holder)) (rw is.in_act.at_stage refl) (denies (has_acted holder) is.not_acted)))
    (joined (kind_goes conf holder call (logged entry call) entry) (is_made (present conf) (logged entry call)) kind.0 kind.1)
