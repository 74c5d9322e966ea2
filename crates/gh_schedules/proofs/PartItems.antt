-- The parts of a revoke are possible, and behind them the revoke is done or refused.
use Rattle.std.proofs.Common.{◌≡◌, ◌==◌, ◌+◌, ◌≤◌, ◌∙◌, ℕ, zero, suc, Bool, true, false, not, List, [], ◌∷◌, ◌++◌, refl, subst, sym, ap, arith, length, length-append, filter, map, Option, Some, None, find, is_some, if◌then◌else◌}
use Rattle.std.specs.Prelude.{◌&&◌, ◌||◌, count_by}
use Rattle.std.specs.List.{list_any}
use Rattle.std.proofs.lemmas.Bool.{and_parts}
use Rattle.std.proofs.lemmas.Bool.Decides.{nat_tests}
use Rattle.std.proofs.lemmas.List.Sums.{fold-append}
use Rattle.gh_base.specs.Reply.{refusal}
use Rattle.gh_base.specs.declared.call.Call.{Call}
use Rattle.gh_base.specs.declared.call.Call.TheVariants as calls
use Rattle.gh_base.specs.declared.cap_word.CapWord.{CapWord}
use Rattle.gh_base.specs.declared.errno.Errno.TheVariants.{CapRevoked}
use Rattle.gh_base.specs.declared.ids.Serial.{Serial}
use Rattle.gh_model.specs.Act.{Refused, any_doomed, grants_of}
use Rattle.gh_model.specs.CapabilityCalls.{caps_revoke, is_finished}
use Rattle.gh_model.specs.Decide.{verdict}
use Rattle.gh_model.specs.Decisions.{done, done_with, grant_at}
use Rattle.gh_model.specs.History as history
use Rattle.gh_model.specs.Legal.{is_revoke, revoked_object, row_names}
use Rattle.gh_model.specs.Marks.{Grants, Seen, outcome, word_of}
use Rattle.gh_model.specs.Registers.{needs_of}
use Rattle.gh_model.specs.Rows.{fills}
use Rattle.gh_model.specs.declared.change.Decision.TheVariants.{Refuse, Unfinished, Make}
use Rattle.gh_model.specs.declared.entry.Entry.{Entry}
use Rattle.gh_model.specs.declared.rows.CapabilityRow.{CapabilityRow}
use Rattle.gh_model.specs.declared.state.State.{State}
use Rattle.gh_invariant.proofs.Counting.{count_cons, one_false, one_true}
use Rattle.gh_schedules.specs.Committing.{committing}
use Rattle.gh_events.specs.Config.{Config, Current, Holder, has_part, is_acted, judged, present}
use Rattle.gh_events.specs.Entries.{Allows, is_least, is_plain_of, logged}
use Rattle.gh_events.specs.HolderEvents.{is_done}
use Rattle.gh_schedules.specs.Items.{goes_on, next_part, object_revoked, part, part_at, part_by, part_of, parts, plain_caps}
use Rattle.gh_schedules.specs.Indices.{InBlocks}
use Rattle.gh_events.specs.Sound.{IsSound}
use Rattle.gh_schedules.specs.Trace.{and_then}
use Rattle.gh_events.specs.declared.event.Event.{Event}
use Rattle.gh_schedules.proofs.Acting.{IsJudged}
use Rattle.gh_schedules.proofs.Commits.{IsCommitted, entered_by, plain_commits}
use Rattle.gh_schedules.proofs.KilledNone.{NoneKilled, none_some}
use Rattle.gh_schedules.proofs.Revokes.{AreTaken, NextPart, Parted, next_is, one_fewer, parted_is, revoke_decision, slot_of, some_next, taken_more, unfinished_left}
use Rattle.gh_schedules.proofs.SweepSteps.{no_object, none_acted}
use Rattle.gh_schedules.proofs.TraceLaws.{Leads, leads_none, leads_so, leads_then}
use Rattle.gh_schedules.proofs.BlocksStay.{entered_blocks, plain_blocks}

-- the object of a revoke

abbrev pub object_of : Current → Serial
object_of call = grant_at (grants_of call.given.call (map word_of call.seen)) 0

record NamesOne (call : Current) : Type 0 where
  granted : (object_of call).0 ≡ object_revoked call
  logs : (entry : Entry) → revoked_object (logged entry call) ≡ object_revoked call

names_by : (call : Current) (one : Call) (seen : List Seen) → call.given.call ≡ one → call.seen ≡ seen → is_revoke one ≡ true
    → outcome (needs_of one) (map word_of seen) ≡ Grants → NamesOne call
names_by call (calls.CapsRevoke cap) [] is sees revokes came = absurd (let never : ⊥ = cc in never)
names_by call (calls.CapsRevoke cap) (first ∷ seen) is sees revokes came = record {
  granted = rw is (rw sees refl);
  logs = λ entry. rw sees refl;
}
names_by call _ seen is sees revokes came = absurd (let never : ⊥ = cc in never)

-- a revoke at its act, behind some of its parts
pub record IsRevoking (conf : Config) (at : ℕ) (call : Current) : Type 0 where
  pub judged : IsJudged conf at call
  pub revokes : is_revoke call.given.call ≡ true
  pub taken : AreTaken (present conf) (object_of call)
  pub parts : (length (present conf).taken == 0) ≡ true → has_part judged.holder ≡ false

-- how many capabilities are left
abbrev pub left_of : Config → Current → ℕ
left_of conf call = count_by (is_plain_of (object_of call).0) (present conf).caps

module _ (conf : Config) (at : ℕ) (call : Current) (revoking : IsRevoking conf at call) where
  abbrev s : State
  s = present conf

  abbrev holder : Holder
  holder = revoking.judged.holder

  names : NamesOne call
  names =
      names_by call call.given.call call.seen refl refl revoking.revokes
      (((revoking.judged.active.sound.valid.cpus at).current call revoking.judged.active.in_act.is_current).granted revoking.judged.active.in_act.at_stage)

  -- what the act comes to now
  abbrev at_end : Bool
  at_end = (length s.taken == 0) && any_doomed s (grants_of call.given.call (map word_of call.seen))

  judged_is : judged s at call ≡ verdict s (if at_end then Refuse CapRevoked else caps_revoke s (object_of call))
  judged_is = ap (verdict s) (revoke_decision s at call.given.call call.given.frame.bytes (map word_of call.seen) revoking.revokes)

  record IsGoing : Type 0 where
    waits : judged s at call ≡ Refused done
    unfinished : is_finished s (object_of call) ≡ false

  going_by : (end finished : Bool) → at_end ≡ end → is_finished s (object_of call) ≡ finished
      → goes_on (verdict s (if end then Refuse CapRevoked else (if finished then Make [] (done_with (length s.taken)) else Unfinished))) ≡ true → IsGoing
  going_by true finished ends is goes = absurd (let never : ⊥ = cc in never)
  going_by false true ends is goes = absurd (let never : ⊥ = cc in never)
  going_by false false ends is goes = record {
    waits = judged_is ∙ ap (λ (b : Bool). verdict s (if b then Refuse CapRevoked else caps_revoke s (object_of call))) ends
        ∙ ap (λ (b : Bool). verdict s (if b then Make [] (done_with (length s.taken)) else Unfinished)) is;
    unfinished = is;
  }

  going : goes_on (judged s at call) ≡ true → IsGoing
  going goes =
      going_by at_end (is_finished s (object_of call)) refl refl (sym (ap goes_on judged_is) ∙ goes)

  left_some : IsGoing → list_any (is_plain_of (object_of call).0) s.caps ≡ true
  left_some goes = unfinished_left s (object_of call) revoking.taken goes.unfinished

  -- one part

  module _ (goes : IsGoing) (row : CapabilityRow) (is : next_part s (object_of call).0 ≡ Some row) where
    next : NextPart s (object_of call).0 row
    next = next_is s (object_of call).0 row revoking.judged.active.sound.valid.valid is

    abbrev entry : Entry
    entry = part_of at call row

    plain_parts : ((row.valid && not row.master) ≡ true) × ((row.serial.0 == (object_of call).0) ≡ true)
    plain_parts = and_parts (row.valid && not row.master) (row.serial.0 == (object_of call).0) next.plain

    named : revoked_object (logged entry call) ≡ (object_of call).0
    named = names.logs entry ∙ sym names.granted

    part_allows : Allows conf at entry holder call
    part_allows = record {
      has_turn = revoking.judged.active.has_turn;
      in_act = revoking.judged.active.in_act;
      not_acted = revoking.judged.not_acted;
      allowed = record {
        its_cpu = sym revoking.judged.active.has_turn.its_cpu;
        its_number = refl;
        part = record {
          revoke = revoking.revokes;
          may_part = ap history.may_part next.in_caps ∙ plain_parts.0;
          names = subst (λ (n : ℕ). row_names n (find (fills row.cspace.0 row.slot) s.caps) ≡ true) (sym named) (ap (row_names (object_of call).0) next.in_caps ∙ plain_parts.1);
        };
        goes_on = goes.waits;
        least = subst (λ (n : ℕ). is_least s n row.cspace.0 row.slot ≡ true) (sym named) next.least;
        none_killed = none_some s conf.index conf.dead revoking.judged.active.sound.valid.valid revoking.judged.none_killed;
      };
    }

    abbrev Now : State
    Now = Parted s (object_of call) row revoking.judged.active.sound.valid.valid next

    grown : history.replay conf.boot (conf.history ++ logged entry call ∷ []) ≡ Now
    grown =
        fold-append history.after_event conf.boot conf.history (logged entry call ∷ [])
        ∙ parted_is s (object_of call) row revoking.judged.active.sound.valid.valid next

    long : (length (s.taken ++ slot_of row ∷ []) == 0) ≡ true → has_part (entered_by holder entry holder.revived (λ i. 0)) ≡ false
    long none =
        let some : length (s.taken ++ slot_of row ∷ []) ≡ length s.taken + 1 = length-append s.taken (slot_of row ∷ []) in
        absurd (let never : ⊥ = grind (arith, nat_tests) in never)

    abbrev Behind : (ℕ → ℕ → CapWord) → (ℕ → ℕ) → (ℕ → ℕ) → Config
    Behind cap count owed = record conf {
      history = conf.history ++ logged entry call ∷ [];
      cap = cap;
      count = count;
      turn = Some (entered_by holder entry holder.revived owed);
    }

    abbrev OneLess : Config → Type 0
    OneLess new = IsRevoking new at call × (left_of new call + 1 ≡ left_of conf call)

    less_there : (cap : ℕ → ℕ → CapWord) (count owed : ℕ → ℕ) → IsSound (Behind cap count owed)
        → ((i : ℕ) → owed i ≡ 0) → OneLess (Behind cap count owed)
    less_there cap count owed sound none = (
      record {
        judged = record {
          holder = entered_by holder entry holder.revived owed;
          active = record {
            sound = sound;
            is_cpu = revoking.judged.active.is_cpu;
            has_turn = record { turn = refl; its_cpu = revoking.judged.active.has_turn.its_cpu };
            in_act = revoking.judged.active.in_act;
            owes_nothing = none;
            unrevived = revoking.judged.active.unrevived;
            blocks = entered_blocks conf (logged entry call) conf.index (plain_blocks conf (logged entry call) conf.index (no_object conf at entry holder call revoking.judged.active part_allows refl) revoking.judged.active.blocks);
          };
          not_acted = none_acted holder.entries entry is_acted revoking.judged.not_acted refl;
          none_killed = subst (λ (now : State). NoneKilled now conf.index conf.dead) (sym grown) (λ serial. revoking.judged.none_killed serial);
        };
        revokes = revoking.revokes;
        taken = subst (λ (now : State). AreTaken now (object_of call)) (sym grown) (taken_more s (object_of call) row revoking.judged.active.sound.valid.valid next revoking.taken);
        parts = subst (λ (now : State). (length now.taken == 0) ≡ true → has_part (entered_by holder entry holder.revived owed) ≡ false) (sym grown) long;
      },
      subst (λ (now : State). count_by (is_plain_of (object_of call).0) now.caps + 1 ≡ count_by (is_plain_of (object_of call).0) s.caps) (sym grown)
          (one_fewer s (object_of call) row revoking.judged.active.sound.valid.valid next),
    )

    part_leads : Leads conf (committing at entry conf) OneLess
    part_leads =
        leads_so conf (committing at entry conf) (IsCommitted conf holder entry call conf.index conf.dead holder.revived) OneLess
        (plain_commits conf at entry holder call revoking.judged.active part_allows (no_object conf at entry holder call revoking.judged.active part_allows refl))
        (λ new committed. subst OneLess (sym committed.is) (less_there committed.cap committed.count committed.owed (subst IsSound committed.is committed.sound) committed.owes))

  -- what a revoke does next

  abbrev Goes : Config → Type 0
  Goes new = IsRevoking new at call × (left_of new call + 1 ≡ left_of conf call)

  next_by : (goes : IsGoing) (found : Option CapabilityRow) → next_part s (object_of call).0 ≡ found → is_some found ≡ true
      → Leads conf (part_at at conf call found) Goes
  next_by goes None is some = absurd (let never : ⊥ = cc in never)
  next_by goes (Some row) is some = part_leads goes row is

  pub part_goes : goes_on (judged s at call) ≡ true → Leads conf (part at conf) Goes
  unfolding part
  part_goes goes =
      subst (λ (current : Option Current). Leads conf (part_by at conf current) Goes) (sym revoking.judged.active.in_act.is_current)
      (subst (λ (on : Bool). Leads conf (if on then part_at at conf call (next_part s (object_revoked call)) else []) Goes) (sym goes)
      (subst (λ (n : ℕ). Leads conf (part_at at conf call (next_part s n)) Goes) names.granted
      (next_by (going goes) (next_part s (object_of call).0) refl (some_next s (object_of call).0 (left_some (going goes)) (next_part s (object_of call).0) refl))))

  pub part_rests : goes_on (judged s at call) ≡ false → part at conf ≡ []
  unfolding part
  part_rests rests =
      ap (part_by at conf) revoking.judged.active.in_act.is_current
      ∙ ap (λ (on : Bool). if on then part_at at conf call (next_part s (object_revoked call)) else []) rests

  any_counted : {X : Type 0} (p : X → Bool) (xs : List X) → list_any p xs ≡ true → 1 ≤ count_by p xs
  any_counted p [] any = absurd (let never : ⊥ = cc in never)
  any_counted p (x ∷ xs) any = by_first (p x) refl any (any_counted p xs)
    where
      by_first : (here : Bool) → p x ≡ here → (here || list_any p xs) ≡ true → (list_any p xs ≡ true → 1 ≤ count_by p xs) → 1 ≤ count_by p (x ∷ xs)
      by_first true is some rest = omega (arith, count_cons p x xs, one_true (p x) is)
      by_first false is some rest = omega (arith, count_cons p x xs, rest some)

  pub none_goes : left_of conf call ≡ 0 → goes_on (judged s at call) ≡ true → ⊥
  none_goes none goes =
      omega (arith, none, any_counted (is_plain_of (object_of call).0) s.caps (left_some (going goes)))

  -- a revoke that doesn't go on is done, or is refused before its first part
  rests_by : (end finished : Bool) → at_end ≡ end
      → goes_on (verdict s (if end then Refuse CapRevoked else (if finished then Make [] (done_with (length s.taken)) else Unfinished))) ≡ false
      → is_done (verdict s (if end then Refuse CapRevoked else (if finished then Make [] (done_with (length s.taken)) else Unfinished))) ≡ false
      → at_end ≡ true
  rests_by true finished ends rests undone = ends
  rests_by false true ends rests undone = absurd (let never : ⊥ = cc in never)
  rests_by false false ends rests undone = absurd (let never : ⊥ = cc in never)

  pub refused_before : goes_on (judged s at call) ≡ false → is_done (judged s at call) ≡ false
      → (has_part holder ≡ false) × (judged s at call ≡ Refused (refusal CapRevoked))
  refused_before rests undone =
      let ends : at_end ≡ true = rests_by at_end (is_finished s (object_of call)) refl (sym (ap goes_on judged_is) ∙ rests) (sym (ap is_done judged_is) ∙ undone) in (
        revoking.parts (and_parts (length s.taken == 0) (any_doomed s (grants_of call.given.call (map word_of call.seen))) ends).0,
        judged_is ∙ ap (λ (b : Bool). verdict s (if b then Refuse CapRevoked else caps_revoke s (object_of call))) ends,
      )

-- all parts

abbrev pub Rests : ℕ → Current → Config → Type 0
Rests at call new = IsRevoking new at call × (goes_on (judged (present new) at call) ≡ false)

rest_leads : (at : ℕ) (call : Current) (more : ℕ) (conf : Config) → Rests at call conf
    → Leads conf (parts at more conf) (Rests at call)
unfolding parts
rest_leads at call zero conf rests = leads_none conf (Rests at call) rests
rest_leads at call (suc more) conf rests =
    leads_then (part at) (parts at more) conf (Rests at call) (Rests at call)
    (subst (λ (events : List Event). Leads conf events (Rests at call)) (sym (part_rests conf at call rests.0 rests.1)) (leads_none conf (Rests at call) rests))
    (λ new still. rest_leads at call more new still)

pub parts_lead : (at : ℕ) (call : Current) (more : ℕ) (conf : Config) → IsRevoking conf at call
    → left_of conf call ≤ more → Leads conf (parts at more conf) (Rests at call)
unfolding parts
parts_lead at call zero conf revoking few = by_goes (goes_on (judged (present conf) at call)) refl
  where
    by_goes : (on : Bool) → goes_on (judged (present conf) at call) ≡ on → Leads conf [] (Rests at call)
    by_goes true goes = absurd (none_goes conf at call revoking (omega (arith, few)) goes)
    by_goes false rests = leads_none conf (Rests at call) (revoking, rests)
parts_lead at call (suc more) conf revoking few =
    by_goes (goes_on (judged (present conf) at call)) refl (λ new revokes less. parts_lead at call more new revokes less)
  where
    by_goes : (on : Bool) → goes_on (judged (present conf) at call) ≡ on
        → ((new : Config) → IsRevoking new at call → left_of new call ≤ more → Leads new (parts at more new) (Rests at call))
        → Leads conf (and_then (part at) (parts at more) conf) (Rests at call)
    by_goes true goes rest =
        leads_then (part at) (parts at more) conf (λ new. IsRevoking new at call × (left_of new call + 1 ≡ left_of conf call)) (Rests at call)
        (part_goes conf at call revoking goes)
        (λ new both. rest new both.0 (omega (arith, few, both.1)))
    by_goes false rests rest =
        leads_then (part at) (parts at more) conf (Rests at call) (Rests at call)
        (subst (λ (events : List Event). Leads conf events (Rests at call)) (sym (part_rests conf at call revoking rests)) (leads_none conf (Rests at call) (revoking, rests)))
        (λ new still. rest_leads at call more new still)

-- as many as there are capabilities to revoke
counted_plain : {X : Type 0} (p : X → Bool) (xs : List X) → count_by p xs ≡ length (filter p xs)
counted_plain p [] = refl
counted_plain p (x ∷ xs) = by_kept (p x) refl (counted_plain p xs)
  where
    by_kept : (kept : Bool) → p x ≡ kept → count_by p xs ≡ length (filter p xs)
        → count_by p (x ∷ xs) ≡ length (if kept then x ∷ filter p xs else filter p xs)
    by_kept true is rest = omega (arith, count_cons p x xs, one_true (p x) is, rest)
    by_kept false is rest = omega (arith, count_cons p x xs, one_false (p x) is, rest)

pub revoke_leads : (conf : Config) (at : ℕ) (call : Current) → IsRevoking conf at call
    → Leads conf (parts at (length (plain_caps (present conf) (object_revoked call))) conf) (Rests at call)
revoke_leads conf at call revoking =
    subst (λ (n : ℕ). Leads conf (parts at (length (plain_caps (present conf) n)) conf) (Rests at call)) (names conf at call revoking).granted
    (parts_lead at call (length (plain_caps (present conf) (object_of call).0)) conf revoking
    (omega (arith, counted_plain (is_plain_of (object_of call).0) (present conf).caps)))
