-- What is said of a finished call, and of an entry, stays as the history grows.
use Rattle.std.proofs.Common.{◌≡◌, ◌+◌, ◌<◌, ◌≤◌, ◌∙◌, ℕ, List, [], ◌++◌, length, take, refl, subst, sym, ap, arith, Some, Result, Ok, Err, slice_get}
use Rattle.std.proofs.lemmas.List.{append-nil, take-append-le, length-append}
use Rattle.std.proofs.lemmas.Option.{slice_get_within}
use Rattle.gh_base.specs.declared.call.Call.{Call}
use Rattle.gh_base.specs.declared.cap_word.Need.{Need}
use Rattle.gh_base.specs.declared.errno.Errno.{Errno}
use Rattle.gh_base.specs.declared.mark.End.{End}
use Rattle.gh_base.specs.declared.mark.Held.{Held}
use Rattle.gh_base.specs.declared.mark.End.TheVariants as ends
use Rattle.gh_model.specs.declared.entry.Entry.{Entry}
use Rattle.gh_model.specs.declared.entry.Entry.TheVariants.{Acted, Part, Retired, Reclaimed}
use Rattle.gh_model.specs.declared.state.State.{State}
use Rattle.gh_model.specs.Word.{word_at}
use Rattle.gh_model.specs.Registers.{call_of, needs_of}
use Rattle.gh_model.specs.Act.{Done}
use Rattle.gh_model.specs.Marks.{Seen, Made, InTurn, place_after, cspace_of}
use Rattle.gh_model.specs.History.{Event, replay, state_at}
use Rattle.gh_model.specs.Held.{AreHeld}
use Rattle.gh_model.specs.Legal.{verdict_in, LookIs, KeepsGrants, IsRefusedIn, IsRefusedAt, IsShortAt, IsEntry, EndIs, FrameIs, CallIs, IsPart, IsRetiredBehind, GoesOn, EntryIs}
use Rattle.gh_model.proofs.RunLists.{slice_get_left}

-- the history is the front of another
pub record IsFront (front whole : List Event) : Type 0 where
  pub rest : List Event
  pub is : whole ≡ front ++ rest

pub front_self : (events : List Event) → IsFront events events
front_self events = record { rest = []; is = sym (append-nil events) }

pub front_more : (events more : List Event) → IsFront events (events ++ more)
front_more events more = record { rest = more; is = refl }

module _ (front whole : List Event) (is_front : IsFront front whole) where
  pub front_length : length front ≤ length whole
  front_length =
      let sum : length (front ++ is_front.rest) ≡ length front + length is_front.rest = length-append front is_front.rest in
      subst (λ (w : List Event). length front ≤ length w) (sym is_front.is) (omega arith)

  pub front_state : (boot : State) (n : ℕ) → n ≤ length front → state_at boot whole n ≡ state_at boot front n
  front_state boot n within =
      subst (λ (w : List Event). state_at boot w n ≡ state_at boot front n) (sym is_front.is)
      (ap (replay boot) (take-append-le n front is_front.rest within))

  pub front_item : (n : ℕ) → n < length front → slice_get whole n ≡ slice_get front n
  front_item n within =
      subst (λ (w : List Event). slice_get w n ≡ slice_get front n) (sym is_front.is)
      (slice_get_left front is_front.rest n within)

  -- an entry is where it was
  pub item_stays : (n : ℕ) (event : Event) → slice_get front n ≡ Some event → slice_get whole n ≡ Some event
  item_stays n event is = front_item n (slice_get_within front n event is) ∙ is

  -- and one below the old end was there
  pub item_was : (n : ℕ) (event : Event) → n < length front → slice_get whole n ≡ Some event → slice_get front n ≡ Some event
  item_was n event within is = sym (front_item n within) ∙ is

  module _ (boot : State) where
    pub look_stays : (cspace last : ℕ) (needs : List (ℕ × Need)) (looks : List Seen) (seen : Seen) → LookIs boot front cspace last needs looks seen → LookIs boot whole cspace last needs looks seen
    look_stays cspace last needs looks seen is =
        let within : seen.look.place ≤ length front = is.within in
        let longer : length front ≤ length whole = front_length in
        record {
          need = is.need;
          asked = is.asked;
          place = is.place;
          within = omega arith;
          found = subst (λ (s : State). word_at s cspace seen.look.slot ≡ seen.word) (sym (front_state boot seen.look.place within)) is.found;
          shown = is.shown;
        }

    pub keeps_stays : (last : ℕ) (made : Made) → last ≤ length front → KeepsGrants boot front last made → KeepsGrants boot whole last made
    keeps_stays last made within keeps = λ i n seen event looked is behind before.
        keeps i n seen event looked (item_was n event (omega arith) is) behind before

    pub refused_stays : (last at : ℕ) (call : Call) (made : Made) → IsRefusedAt boot front last at call made → IsRefusedAt boot whole last at call made
    refused_stays last at call made is =
        let within : at ≤ length front = is.within in
        let longer : length front ≤ length whole = front_length in
        record {
          within = omega arith;
          not_before = is.not_before;
          refused = subst (λ (s : State). IsRefusedIn s call made) (sym (front_state boot at within)) is.refused;
          keeps = keeps_stays at made within is.keeps;
        }

    pub entry_stays : (last number : ℕ) (call : Call) (made : Made) → IsEntry boot front last number call made → IsEntry boot whole last number call made
    entry_stays last number call made is =
        let before : is.before < length front = slice_get_within front is.before _ is.event in
        let counts : number ≡ is.before + 1 = is.counts in
        let within : number ≤ length front = omega arith in
        let until : is.before ≤ length front = omega arith in
        record {
          before = is.before;
          counts = is.counts;
          event = item_stays is.before _ is.event;
          not_before = is.not_before;
          looked = is.looked;
          grants = is.grants;
          judged = subst (λ (s : State). verdict_in s call made ≡ Done (state_at boot whole number) made.mark.reply) (sym (front_state boot is.before until))
              (subst (λ (s : State). verdict_in (state_at boot front is.before) call made ≡ Done s made.mark.reply) (sym (front_state boot number within)) is.judged);
          keeps = keeps_stays number made within is.keeps;
        }

    pub short_stays : (last at : ℕ) (call : Call) (made : Made) (held : List Held) → IsShortAt boot front last at call made held → IsShortAt boot whole last at call made held
    short_stays last at call made held is = record {
      refused = refused_stays last at call made is.refused;
      short = is.short;
      are_held = subst (λ (s : State). AreHeld s held) (sym (front_state boot at is.refused.within)) is.are_held;
    }

    pub end_stays : (last : ℕ) (call : Call) (made : Made) (end : End) → EndIs boot front last call made end → EndIs boot whole last call made end
    end_stays last call made ends.Frame is = is
    end_stays last call made ends.Refused is = is
    end_stays last call made ends.Dead is = is
    end_stays last call made (ends.Act at) is = (refused_stays last at call made is.0, is.1)
    end_stays last call made (ends.Short at held) is = short_stays last at call made held is
    end_stays last call made (ends.Entry number) is = entry_stays last number call made is

    pub frame_stays : (cspace last : ℕ) (made : Made) (shape : Result Call Errno) → FrameIs boot front cspace last made shape → FrameIs boot whole cspace last made shape
    frame_stays cspace last made (Err errno) is = is
    frame_stays cspace last made (Ok call) is = (
      λ (i : ℕ) (seen : Seen) (at : slice_get made.seen i ≡ Some seen). look_stays cspace last (needs_of call) (take i made.seen) seen (is.0 i seen at),
      end_stays last call made made.mark.end is.1,
    )

    -- a finished call is legal in every longer history
    pub call_stays : (cpu : ℕ) (calls : List Made) (made : Made) → CallIs boot front cpu calls made → CallIs boot whole cpu calls made
    call_stays cpu calls made is = record {
      its_cpu = is.its_cpu;
      its_looks = is.its_looks;
      section = is.section;
      frame = frame_stays (cspace_of boot cpu) (place_after calls) made (call_of made.frame) is.frame;
    }

    pub calls_stay : (cpu : ℕ) (calls : List Made) → InTurn (CallIs boot front cpu) calls → InTurn (CallIs boot whole cpu) calls
    calls_stay cpu calls are = λ (i : ℕ) (made : Made) (at : slice_get calls i ≡ Some made).
        call_stays cpu (take i calls) made (are i made at)

    -- an object's retirement stays, and so does what stands behind a part
    pub retired_stays : (place serial : ℕ) → IsRetiredBehind boot front place serial → IsRetiredBehind boot whole place serial
    retired_stays place serial is = record {
      at = is.at;
      event = is.event;
      is = item_stays is.at is.event is.is;
      retires = is.retires;
      behind = is.behind;
    }

    pub goes_on_stays : (n : ℕ) (event : Event) → GoesOn boot front n event → GoesOn boot whole n event
    goes_on_stays n event is = record {
      next = is.next;
      is = item_stays (n + 1) is.next is.is;
      caller = is.caller;
      call = is.call;
      bytes = is.bytes;
      words = is.words;
    }

    -- what is said of an entry stays where the calls do
    pub entry_is_stays : (calls : ℕ → List Made) (n : ℕ) (event : Event) (entry : Entry) → n ≤ length front → EntryIs boot front calls n event entry → EntryIs boot whole calls n event entry
    entry_is_stays calls n event (Acted cpu number) within is = is
    entry_is_stays calls n event (Part cpu number space slot) within is =
        subst (λ (s : State). IsPart s event space.0 slot) (sym (front_state boot n within)) is
    entry_is_stays calls n event (Retired serial seen) within is = is
    entry_is_stays calls n event (Reclaimed serial seen) within is = is
