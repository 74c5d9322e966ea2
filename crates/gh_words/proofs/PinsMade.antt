-- Looks and pins of calls on plain words.
use Rattle.std.proofs.Common.{◌≡◌, ◌+◌, ◌-◌, ◌<◌, ◌^◌, ◌∙◌, ℕ, Bool, true, false, [], ◌∷◌, refl, sym, ap, subst, arith, Option, Some, None, option_map, get_or, slice_get, slice_set}
use Rattle.std.specs.Prelude.{max}
use Rattle.std.proofs.lemmas.List.Sums.{fold-append}
use Rattle.std.proofs.lemmas.Option.{get_or_from_slice_get}
use Rattle.gh_base.specs.CapWord.{set_at_of}
use Rattle.gh_base.specs.declared.cap_word.CapWord.{CapWord}
use Rattle.gh_base.specs.declared.ids.ObjIndex.{ObjIndex}
use Rattle.gh_base.specs.declared.limits.TheConstants.{CPUS, OBJECT_INDICES}
use Rattle.gh_events.specs.CallEvents.{MayLook, MayPin, MayUndo, MayUnpin, at_stage, found, loaded, looked, pinned, undone, unpinned, with_call, with_look, with_pin, without_pin}
use Rattle.gh_events.specs.Config.{Config, Cpu, Current, DeadPin, Looked, Reading, Stage, Undone, last_place, put}
use Rattle.gh_events.specs.Sound.{looks_now, place_now}
use Rattle.gh_events.proofs.Finding.{put_here, put_other}
use Rattle.gh_model.specs.Marks.{after_look, cspace_of, place_after}
use Rattle.gh_words.specs.Calls.{HasPin, IsDead, Pins, look_at, slot_place}
use Rattle.gh_words.specs.Shows.{Fits, Shows, ShowsCpu, cap_place, reference_word}
use Rattle.gh_words.specs.Tables.{one_less, one_more, with_place, with_reference}
use Rattle.gh_words.specs.declared.plain_words.PlainWords.{PlainWords}
use Rattle.gh_words.specs.declared.plain_words.ReferenceWord.{ReferenceWord}
use Rattle.gh_words.specs.declared.plain_words.TheConstants.{SLOT_WORDS}
use Rattle.gh_words.proofs.CallShown.{gone_on, shows_gone, shows_pinned}
use Rattle.gh_words.proofs.CallsMade.{at_other}
use Rattle.gh_words.proofs.HolderShown.{word_read}
use Rattle.gh_words.proofs.Puts.{set_shows}

-- a call at another stage has the looks that it had

staged : (stage : Stage) (cpu : Cpu) (current : Option Current)
    → last_place cpu (looks_now (option_map (at_stage stage) current)) ≡ last_place cpu (looks_now current)
staged stage cpu None = refl
staged stage cpu (Some call) = refl

pinned_place : (dead : Bool) (cpu : Cpu) → place_now (with_pin dead cpu) ≡ place_now cpu
pinned_place true cpu = staged DeadPin cpu cpu.current
pinned_place false cpu = staged Reading cpu cpu.current

-- pin, undo and unpin: the count moves by one

module _ (words new : PlainWords) (conf : Config) (cpu object : ℕ) (word : ReferenceWord) (shown : Shows words conf)
    (is_index : object < OBJECT_INDICES) (is : slice_get words.references object ≡ Some word) where
  reads : word ≡ reference_word conf object
  reads = word_read words conf object word shown is_index is

  pub pin_made : Pins cpu object conf → MayPin conf cpu object → new ≡ with_reference words object (one_more word)
      → Shows new (pinned conf cpu object)
  pin_made pins may put_new =
      subst (λ (w : PlainWords). Shows w (pinned conf cpu object)) (sym (put_new ∙ ap (λ (w : ReferenceWord). with_reference words object (one_more w)) reads))
      (shows_pinned words conf shown cpu
      (λ call in_act. at_other (conf.cpu cpu) may.call call Looked may.is_looked (λ same. let never : ⊥ = cc in never) in_act)
      (with_pin (conf.dead object) (conf.cpu cpu)) (pinned_place (conf.dead object) (conf.cpu cpu)) object (conf.count object + 1) is_index
      (let was : Fits conf object = shown.fits object is_index in
      let counts : put conf.count object (conf.count object + 1) object ≡ conf.count object + 1 = put_here conf.count object (conf.count object + 1) in
      record {
        bounded = was.bounded;
        least = omega (arith, counts, was.least);
        few = omega (arith, counts, pins.few);
        dead = was.dead;
      }))

  one_gone : (dead : Bool) → HasPin cpu object dead conf → (one : Cpu)
      → Fits (gone_on conf cpu one conf.counter (put conf.count object (conf.count object - 1))) object
  one_gone dead pin one =
      let was : Fits conf object = shown.fits object is_index in
      let counts : put conf.count object (conf.count object - 1) object ≡ conf.count object - 1 = put_here conf.count object (conf.count object - 1) in
      record {
        bounded = was.bounded;
        least = omega (arith, counts, pin.pinned);
        few = omega (arith, counts, was.few);
        dead = was.dead;
      }

  pub undo_made : HasPin cpu object true conf → MayUndo conf cpu object → new ≡ with_reference words object (one_less word)
      → Shows new (undone conf cpu object)
  undo_made pin may put_new =
      subst (λ (w : PlainWords). Shows w (undone conf cpu object)) (sym (put_new ∙ ap (λ (w : ReferenceWord). with_reference words object (one_less w)) reads))
      (shows_pinned words conf shown cpu
      (λ call in_act. at_other (conf.cpu cpu) may.call call DeadPin may.dead (λ same. let never : ⊥ = cc in never) in_act)
      (with_call (at_stage Undone) (conf.cpu cpu)) (staged Undone (conf.cpu cpu) (conf.cpu cpu).current) object (conf.count object - 1) is_index
      (one_gone true pin (with_call (at_stage Undone) (conf.cpu cpu))))

  pub unpin_made : HasPin cpu object false conf → MayUnpin conf cpu object → new ≡ with_reference words object (one_less word)
      → Shows new (unpinned conf cpu object)
  unpin_made pin may put_new =
      let one : Cpu = record (conf.cpu cpu) { pins = without_pin object (conf.cpu cpu).pins } in
      subst (λ (w : PlainWords). Shows w (unpinned conf cpu object)) (sym (put_new ∙ ap (λ (w : ReferenceWord). with_reference words object (one_less w)) reads))
      (shows_pinned words conf shown cpu
      (λ call in_act. let never : None ≡ Some call = sym may.ended ∙ in_act.is_current in absurd (let no : ⊥ = cc in no))
      one refl object (conf.count object - 1) is_index (one_gone false pin one))

  -- the word that a pin found
  pub pin_dead : word.dead ≡ true → (answer : ℕ) → answer ≡ 2 ^ 63 + word.count → IsDead (record { word = answer }) (conf.dead object) (conf.count object)
  pin_dead mark answer given = record {
    mark = sym (ap (λ (w : ReferenceWord). w.dead) reads) ∙ mark;
    word = given ∙ ap (λ (w : ReferenceWord). 2 ^ 63 + w.count) reads;
  }

  pub pin_alive : word.dead ≡ false → conf.dead object ≡ false
  pin_alive mark = sym (ap (λ (w : ReferenceWord). w.dead) reads) ∙ mark

  -- and what it had room for
  pub pin_room : Pins cpu object conf → word.count < 2 ^ 63
  pin_room pins =
      let was : Fits conf object = shown.fits object is_index in
      omega (arith, ap (λ (w : ReferenceWord). w.count) reads, pins.few, was.bounded)

  pub pin_some : (dead : Bool) → HasPin cpu object dead conf → 0 < word.count
  pin_some dead pin = omega (arith, ap (λ (w : ReferenceWord). w.count) reads, pin.pinned)

-- look

module _ (words : PlainWords) (conf : Config) (cpu slot : ℕ) (shown : Shows words conf) (is_cpu : cpu < CPUS) where
  is_here : ShowsCpu words conf cpu
  is_here = shown.cpus cpu is_cpu

  -- the word that is loaded lies at the home of the CPU
  pub load_made : (home place : ℕ) (word : CapWord) → conf.index (cspace_of conf.boot cpu) ≡ home → home < OBJECT_INDICES
      → place ≡ slot_place slot → place < SLOT_WORDS → slice_get words.caps (cap_place home place) ≡ Some word → word ≡ loaded conf cpu slot
  load_made home place word at_home within is small there =
      let has : slice_get words.caps (cap_place home place) ≡ Some (conf.cap home place) = shown.caps home place within small in
      let read : word ≡ conf.cap home place = cc in
      read ∙ ap (λ (n : ℕ). conf.cap n place) (sym at_home) ∙ ap (conf.cap (conf.index (cspace_of conf.boot cpu))) is

  pub home_made : (home : ObjIndex) → slice_get words.homes cpu ≡ Some home → conf.index (cspace_of conf.boot cpu) ≡ home.0
  home_made home has_home =
      let there : slice_get words.homes cpu ≡ Some (record { 0 = is_here.home }) = is_here.has_home in
      let same : home ≡ record { 0 = is_here.home } = cc in
      is_here.is_home.is ∙ sym (ap (λ (h : ObjIndex). h.0) same)

  pub home_within : (home : ObjIndex) → slice_get words.homes cpu ≡ Some home → home.0 < OBJECT_INDICES
  home_within home has_home = omega (arith, sym (home_made home has_home) ∙ is_here.is_home.is, is_here.is_home.within)

  pub place_read : get_or words.places cpu 0 ≡ place_now (conf.cpu cpu)
  place_read = get_or_from_slice_get words.places cpu (place_now (conf.cpu cpu)) 0 is_here.place

  -- the look is at the greater of the word's setting and the last place
  pub look_is : (word : CapWord) (set_at place : ℕ) → word ≡ loaded conf cpu slot → set_at ≡ set_at_of word.0
      → place ≡ max (get_or words.places cpu 0) set_at → place ≡ (look_at conf cpu slot).place
  look_is word set_at place is set given =
      let here : set_at ≡ set_at_of (loaded conf cpu slot).0 = set ∙ ap (λ (w : CapWord). set_at_of w.0) is in
      omega (arith, given, here, place_read)

  looked_place : (call : Current) → (conf.cpu cpu).current ≡ Some call
      → place_now (with_call (λ call. with_look (found conf cpu slot call) call) (conf.cpu cpu)) ≡ (look_at conf cpu slot).place
  looked_place call is =
      ap (λ (current : Option Current). last_place (conf.cpu cpu) (looks_now (option_map (λ call. with_look (found conf cpu slot call) call) current))) is
      ∙ fold-append after_look (place_after (conf.cpu cpu).made) call.seen (found conf cpu slot call ∷ [])
      ∙ ap (λ (current : Option Current). max (set_at_of (loaded conf cpu slot).0) (last_place (conf.cpu cpu) (looks_now current))) (sym is)

  pub look_made : (new : PlainWords) (place : ℕ) → place ≡ (look_at conf cpu slot).place → new ≡ with_place words cpu place
      → MayLook conf cpu slot → Shows new (looked conf cpu slot)
  look_made new place is put_new may =
      let one : Cpu = with_call (λ call. with_look (found conf cpu slot call) call) (conf.cpu cpu) in
      subst (λ (w : PlainWords). Shows w (looked conf cpu slot)) (sym put_new)
      (shows_gone words conf shown cpu
      (λ call in_act. at_other (conf.cpu cpu) may.call call Reading may.reading (λ same. let never : ⊥ = cc in never) in_act)
      one conf.counter conf.count words.references words.counters (slice_set words.places cpu place)
      shown.references (λ n few. let was = shown.fits n few in record { bounded = was.bounded; least = was.least; few = was.few; dead = was.dead })
      (λ n within.
      let there : ShowsCpu words conf n = shown.cpus n within in
      record {
        counter = there.counter;
        low = there.low;
        place = set_shows words.places cpu n place (place_now (conf.cpu cpu)) (place_now (conf.cpu n)) (place_now (put conf.cpu cpu one n)) is_here.place there.place
            (λ same. subst (λ (m : ℕ). place_now (put conf.cpu cpu one m) ≡ place) (sym same) (ap place_now (put_here conf.cpu cpu one) ∙ looked_place may.call may.reading.is_current ∙ sym is))
            (λ differs. ap place_now (put_other conf.cpu cpu one n differs));
      }))
