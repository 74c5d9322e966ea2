-- A CPU that looks a capability up.
use Rattle.std.proofs.Common.{◌≡◌, ◌-◌, ◌<◌, ◌∙◌, ℕ, Bool, true, false, List, [], ◌∷◌, ◌++◌, length, map, max, refl, sym, ap, subst, arith, Option, Some, None, Result, Ok, Err, find, slice_get, option_map, if◌then◌else◌}
use Rattle.std.specs.Option.{option_map_or}
use Rattle.std.proofs.lemmas.Bool.{ltb-true}
use Rattle.std.proofs.lemmas.List.{length-set, map_push}
use Rattle.gh_base.specs.CapWord.{filled_bits, set_at_of}
use Rattle.gh_base.specs.declared.cap_word.CapWord.{CapWord}
use Rattle.gh_base.specs.declared.cap_word.Need.{Need}
use Rattle.gh_base.specs.declared.errno.Errno.{Errno}
use Rattle.gh_base.specs.declared.ids.ObjIndex.{ObjIndex}
use Rattle.gh_base.specs.declared.ids.Serial.{Serial}
use Rattle.gh_base.specs.declared.limits.TheConstants.{CPUS, OBJECT_INDICES}
use Rattle.gh_events.specs.CallEvents.{MayLook, found, loaded, looked, stage_after_look, with_look}
use Rattle.gh_events.specs.Config.{Config, Current, came_to, last_place, present}
use Rattle.gh_events.specs.Entries.{row_shown, shown}
use Rattle.gh_core.specs.Running.{current_of, seen_of, stage_of}
use Rattle.gh_events.specs.Sound.{IsSound}
use Rattle.gh_core.specs.declared.current.CallStage.TheVariants as stages
use Rattle.gh_core.specs.declared.current.CurrentCall.{CurrentCall}
use Rattle.gh_core.specs.declared.current.SeenLook.{SeenLook}
use Rattle.gh_events.proofs.Finding.{put_here, put_other}
use Rattle.gh_events.proofs.LengthBound.{has_room}
use Rattle.gh_events.proofs.LookCalls.{loaded_is, setting_is}
use Rattle.gh_invariant.proofs.Counting.{found_all}
use Rattle.gh_invariant.proofs.SlotsFit.{SlotParts, slot_parts}
use Rattle.gh_invariant.specs.Lives.{slot_fits}
use Rattle.gh_items.specs.Stands.{AreIndexed, IsNamed, IsPlaced, SeatStands, Stands, index_in, index_number, looked_call, stage_by, with_call}
use Rattle.gh_items.specs.declared.progress.Progress.{Progress}
use Rattle.gh_items.specs.declared.progress.Seat.{Seat}
use Rattle.gh_items.proofs.SeatLemmas.{call_moves, put_twice, set_here}
use Rattle.gh_model.specs.Marks.{Grants, Outcome, Seen, Wants, cspace_of, on_grant, outcome, place_after_looks, word_of}
use Rattle.gh_model.specs.Registers.{needs_of}
use Rattle.gh_model.specs.Rows.{fills}
use Rattle.gh_model.specs.Word.{is_slot, look_reply, setting, word_at}
use Rattle.gh_model.specs.declared.rows.CapabilityRow.{CapabilityRow}
use Rattle.gh_model.specs.declared.state.State.{State}
use Rattle.gh_model.specs.declared.word.Word.{Word}

-- the stage behind a look by its reply alone

stage_by_reply : (reply : Result Serial Errno) (others : Outcome) → (others ≡ Grants) → stage_after_look (on_grant reply others) ≡ stage_of (stage_by reply)
stage_by_reply (Err errno) others grants = refl
stage_by_reply (Ok serial) others grants = ap stage_after_look grants

last_stage : (reply : Result Serial Errno) (needs : List (ℕ × Need)) → stage_after_look (on_grant reply (outcome needs [])) ≡ stage_of (stage_by reply)
last_stage (Err errno) needs = refl
last_stage (Ok serial) [] = refl
last_stage (Ok serial) (need ∷ needs) = refl

-- the last look answers the need that was wanted
pub look_stage : (needs : List (ℕ × Need)) (words : List Word) (word : Word) (slot : ℕ) (need : Need) → outcome needs words ≡ Wants slot need
    → stage_after_look (outcome needs (words ++ word ∷ [])) ≡ stage_of (stage_by (look_reply word need))
look_stage [] words word slot need wants = absurd (let never : ⊥ = cc in never)
look_stage (first ∷ needs) [] word slot need wants =
    let same : first.1 ≡ need = cc in
    last_stage (look_reply word first.1) needs ∙ ap (λ (n : Need). stage_of (stage_by (look_reply word n))) same
look_stage (first ∷ needs) (one ∷ words) word slot need wants = by_reply (look_reply one first.1) wants (look_stage needs words word slot need)
  where
    by_reply : (reply : Result Serial Errno) → on_grant reply (outcome needs words) ≡ Wants slot need
        → (outcome needs words ≡ Wants slot need → stage_after_look (outcome needs (words ++ word ∷ [])) ≡ stage_of (stage_by (look_reply word need)))
        → stage_after_look (on_grant reply (outcome needs (words ++ word ∷ []))) ≡ stage_of (stage_by (look_reply word need))
    by_reply (Err errno) is later = absurd (let never : ⊥ = cc in never)
    by_reply (Ok serial) is later = later is

-- indices

pub index_is : (next : ℕ) (places : List ObjIndex) (index : ℕ → ℕ) → AreIndexed next places index → (serial : ℕ) → 0 < serial → serial < next
    → index_in places serial ≡ index serial
index_is next places index are serial some made = by_found (slice_get places (serial - 1)) (are serial some made)
  where
    by_found : (one : Option ObjIndex) → option_map index_number one ≡ Some (index serial) → option_map_or index_number one 0 ≡ index serial
    by_found None is = absurd (let never : ⊥ = cc in never)
    by_found (Some one) is = cc

module _ (progress : Progress) (conf : Config) (at : ℕ) (call : CurrentCall) (stands : Stands (with_call progress at (Some call)) conf)
    (sound : IsSound conf) (within : at < CPUS) (reading : call.stage ≡ stages.Reading) (slot : ℕ) (need : Need)
    (asked : came_to (current_of call) ≡ Wants slot need) (seat : Seat) (seated : slice_get progress.seats at ≡ Some seat) where
  abbrev held : Progress
  held = with_call progress at (Some call)

  calls_there : at < length progress.calls
  calls_there = omega (arith, length-set progress.calls at (Some call), stands.nine_calls)

  one : SeatStands at (cspace_of conf.boot at) progress.marks seat (Some call) (conf.cpu at)
  one = stands.seats at seat (Some call) seated (set_here progress.calls at (Some call) calls_there)

  may : MayLook conf at slot
  may = record {
    is_cpu = within;
    call = current_of call;
    reading = record { is_current = one.current; at_stage = ap stage_of reading };
    need = need;
    asked = asked;
  }

  abbrev looked_at : Word
  looked_at = word_at (present conf) (cspace_of conf.boot at) slot

  -- the word that the code finds is that of the configuration
  pub word_is : word_at progress.plain seat.cspace.0 slot ≡ looked_at
  word_is = ap (λ (s : State). word_at s seat.cspace.0 slot) stands.state ∙ ap (λ (n : ℕ). word_at (present conf) n slot) one.space

  row_placed : (row : CapabilityRow) → looked_at.row ≡ Some row → IsPlaced progress.places row.serial.0
  row_placed row is =
      let fits : SlotParts (present conf).next_serial (present conf).objects row =
      slot_parts (present conf).next_serial (present conf).objects row
      (found_all (fills (cspace_of conf.boot at) slot) (slot_fits (present conf).next_serial (present conf).objects) (present conf).caps row
      sound.valid.valid.slots.filled (found_row (is_slot slot) is)) in
      let some : 0 < row.serial.0 = ltb-true 0 row.serial.0 fits.some in
      let made : row.serial.0 < (present conf).next_serial = ltb-true row.serial.0 (present conf).next_serial fits.made in
      let same = index_is (present conf).next_serial progress.places conf.index stands.places row.serial.0 some made in
      let few : conf.index row.serial.0 < OBJECT_INDICES = sound.words.within (cspace_of conf.boot at) slot row is in
      record { some = some; made = omega (arith, stands.all_placed); within = omega (arith, same, few) }
    where
      found_row : (names : Bool)
          → (let word : Word =
          if names then record { row = find (fills (cspace_of conf.boot at) slot) (present conf).caps; set_at = setting (present conf) (cspace_of conf.boot at) slot }
          else record { row = None; set_at = 0 } in word.row) ≡ Some row
          → find (fills (cspace_of conf.boot at) slot) (present conf).caps ≡ Some row
      found_row true has = has
      found_row false has = absurd (let never : ⊥ = cc in never)

  pub word_named : (word : Word) → word ≡ looked_at → IsNamed progress.places word.row
  word_named word is = subst (λ (w : Word). IsNamed progress.places w.row) (sym is) (by_row looked_at.row refl)
    where
      by_row : (row : Option CapabilityRow) → looked_at.row ≡ row → IsNamed progress.places row
      by_row None has = tt
      by_row (Some row) has = row_placed row has

  shown_same : shown (index_in progress.places) looked_at ≡ shown conf.index looked_at
  shown_same = by_row looked_at.row refl
    where
      by_row : (row : Option CapabilityRow) → looked_at.row ≡ row
          → row_shown (index_in progress.places) looked_at.set_at row ≡ row_shown conf.index looked_at.set_at row
      by_row None has = refl
      by_row (Some row) has =
          let placed = row_placed row has in
          let made : row.serial.0 < (present conf).next_serial = omega (arith, placed.made, stands.all_placed) in
          ap (λ (n : ℕ). filled_bits row.valid row.kind row.master n row.rights.0 looked_at.set_at)
          (index_is (present conf).next_serial progress.places conf.index stands.places row.serial.0 placed.some made)

  -- what the code sees is what the configuration finds
  pub seen_is : (word : Word) (bits : CapWord) (place : ℕ) → word ≡ looked_at → bits.0 ≡ shown (index_in progress.places) word
      → place ≡ max word.set_at (place_after_looks seat.place (map seen_of call.seen))
      → seen_of (record { look = record { slot = slot; place = place; word = bits }; word = word }) ≡ found conf at slot (current_of call)
  seen_is word bits place is shows placed =
      let same_bits : bits.0 ≡ (loaded conf at slot).0 =
      shows ∙ ap (shown (index_in progress.places)) is ∙ shown_same ∙ sym (loaded_is conf at slot sound.calls sound.valid sound.words (has_room conf sound.long sound.calls sound.begins) may) in
      let same_place : place ≡ max (set_at_of (loaded conf at slot).0) (last_place (conf.cpu at) (current_of call).seen) =
      placed
      ∙ ap (λ (n : ℕ). max n (place_after_looks seat.place (map seen_of call.seen)))
      (ap (λ (w : Word). w.set_at) is ∙ sym (setting_is conf at slot sound.calls sound.valid sound.words (has_room conf sound.long sound.calls sound.begins) may))
      ∙ ap (λ (n : ℕ). max (set_at_of (loaded conf at slot).0) (place_after_looks n (map seen_of call.seen))) one.place in
      λ i. record { look = record { slot = slot; place = same_place i; word = record { 0 = same_bits i } }; word = is i }

  -- the call behind its look
  pub look_stands : (seen : SeenLook) → seen_of seen ≡ found conf at slot (current_of call)
      → Stands (with_call progress at (Some (looked_call call seen (stage_by (look_reply seen.word need))))) (looked conf at slot)
  look_stands seen is =
      let new : CurrentCall = looked_call call seen (stage_by (look_reply seen.word need)) in
      let list : map seen_of (call.seen ++ seen ∷ []) ≡ map seen_of call.seen ++ found conf at slot (current_of call) ∷ [] =
      map_push seen_of call.seen seen ∙ ap (λ (s : Seen). map seen_of call.seen ++ s ∷ []) is in
      let stage : stage_of (stage_by (look_reply seen.word need))
      ≡ stage_after_look (outcome (needs_of call.given.call) (map word_of (map seen_of call.seen ++ found conf at slot (current_of call) ∷ []))) =
      sym (ap (λ (words : List Word). stage_after_look (outcome (needs_of call.given.call) words)) (map_push word_of (map seen_of call.seen) (found conf at slot (current_of call)))
      ∙ look_stage (needs_of call.given.call) (map word_of (map seen_of call.seen)) looked_at slot need asked
      ∙ ap (λ (w : Word). stage_of (stage_by (look_reply w need))) (sym (ap word_of is))) in
      let current : Some (with_look (found conf at slot (current_of call)) (current_of call)) ≡ Some (current_of new) =
      sym (λ i. Some (record (current_of call) { seen = list i; stage = stage i })) in
      let here : (looked conf at slot).cpu at ≡ record (conf.cpu at) { current = Some (current_of new) } =
      put_here conf.cpu at _
      ∙ ap (λ (c : Option Current). record (conf.cpu at) { current = option_map (λ (old : Current). with_look (found conf at slot old) old) c }) one.current
      ∙ ap (λ (c : Option Current). record (conf.cpu at) { current = c }) current in
      subst (λ (p : Progress). Stands p (looked conf at slot)) (put_twice progress at (Some call) (Some new))
      (call_moves held conf stands at within (Some new) conf.counter conf.count (looked conf at slot).cpu
      (λ n differs. put_other conf.cpu at _ n differs)
      (λ other old there was.
      subst (SeatStands at (cspace_of conf.boot at) progress.marks other (Some new)) (sym here) (record {
        its_cpu = was.its_cpu;
        space = was.space;
        unasked = was.unasked;
        current = refl;
        dropped = λ none. absurd (let never : ⊥ = cc in never);
        made = was.made;
        calls = was.calls;
        sections = was.sections;
        place = was.place;
        ended = was.ended;
      })))
