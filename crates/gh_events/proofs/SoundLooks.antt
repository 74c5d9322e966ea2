-- A look finds what its slot has in the present state, so a removed capability grants no more.
use Rattle.std.proofs.Common.{◌≡◌, ◌∙◌, ℕ, false, List, [], ◌∷◌, ◌++◌, refl, sym, ap, Option, Some, None, Result, Ok, Err, map, option_map}
use Rattle.std.specs.List.{last_or}
use Rattle.std.proofs.lemmas.List.{map-append}
use Rattle.gh_base.specs.declared.cap_word.Need.{Need}
use Rattle.gh_base.specs.declared.errno.Errno.{Errno}
use Rattle.gh_base.specs.declared.errno.Errno.TheVariants.{CapNull, CapRevoked}
use Rattle.gh_base.specs.declared.ids.Serial.{Serial}
use Rattle.gh_model.proofs.RunLists.{last_or_snoc}
use Rattle.gh_model.specs.Marks.{Fails, Outcome, Seen, Wants, cspace_of, on_grant, outcome, word_of}
use Rattle.gh_model.specs.Registers.{needs_of}
use Rattle.gh_model.specs.Word.{grant_reply, look_reply, slot_reply, word_at}
use Rattle.gh_model.specs.declared.rows.CapabilityRow.{CapabilityRow}
use Rattle.gh_model.specs.declared.word.Word.{Word}
use Rattle.gh_events.specs.CallEvents.{MayLook, found, looked, with_call, with_look}
use Rattle.gh_events.specs.Config.{Config, Cpu, Current, came_to, present}
use Rattle.gh_events.proofs.Finding.{put_here}

passes_on : (reply : Result Serial Errno) (before behind : Outcome) (slot : ℕ) (need : Need) (errno : Errno)
    → on_grant reply before ≡ Wants slot need → (before ≡ Wants slot need → behind ≡ Fails errno)
    → on_grant reply behind ≡ Fails errno
passes_on (Ok serial) before behind slot need errno wants others = others wants
passes_on (Err refused) before behind slot need errno wants others = absurd (let never : ⊥ = cc in never)

-- one more look that is refused fails the call
look_fails : (needs : List (ℕ × Need)) (words : List Word) (word : Word) (slot : ℕ) (need : Need)
    (errno : Errno) → outcome needs words ≡ Wants slot need → look_reply word need ≡ Err errno
    → outcome needs (words ++ word ∷ []) ≡ Fails errno
look_fails [] words word slot need errno wants refused = absurd (let never : ⊥ = cc in never)
look_fails (first ∷ needs) [] word slot need errno wants refused =
    let same : first.1 ≡ need = cc in
    let reply : look_reply word first.1 ≡ Err errno = ap (look_reply word) same ∙ refused in
    rw reply refl
look_fails (first ∷ needs) (one ∷ words) word slot need errno wants refused =
    passes_on (look_reply one first.1) (outcome needs words) (outcome needs (words ++ word ∷ [])) slot need errno wants
    (λ others. look_fails needs words word slot need errno others refused)

module _ (conf : Config) (at slot : ℕ) (may : MayLook conf at slot) (call : Current)
    (is_current : ((looked conf at slot).cpu at).current ≡ Some call) where
  abbrev look : Current → Current
  look one = with_look (found conf at slot one) one

  -- the call has one more look
  has_look : look may.call ≡ call
  has_look =
      let behind : ((looked conf at slot).cpu at).current ≡ option_map look (conf.cpu at).current = ap (λ (cpu : Cpu). cpu.current) (put_here conf.cpu at (with_call look (conf.cpu at))) in
      let same : Some (look may.call) ≡ Some call = sym (behind ∙ ap (option_map look) may.reading.is_current) ∙ is_current in
      cc

  -- which found what the slot has now
  pub finds_present : (seen : Seen) → last_or None call.seen ≡ Some seen
      → seen.word ≡ word_at (present conf) (cspace_of conf.boot at) slot
  finds_present seen last =
      let all : may.call.seen ++ found conf at slot may.call ∷ [] ≡ call.seen = ap (λ (one : Current). one.seen) has_look in
      let end_ : Some (found conf at slot may.call) ≡ Some seen = sym (last_or_snoc None may.call.seen (found conf at slot may.call)) ∙ ap (last_or None) all ∙ last in
      let same : found conf at slot may.call ≡ seen = cc in
      sym (ap (λ (one : Seen). one.word) same)

  fails_by : (errno : Errno) → look_reply (word_at (present conf) (cspace_of conf.boot at) slot) may.need ≡ Err errno
      → came_to call ≡ Fails errno
  fails_by errno refused =
      sym (ap came_to has_look)
      ∙ ap (outcome (needs_of may.call.given.call)) (map-append word_of may.call.seen (found conf at slot may.call ∷ []))
      ∙ look_fails (needs_of may.call.given.call) (map word_of may.call.seen) (word_at (present conf) (cspace_of conf.boot at) slot) slot may.need errno may.asked refused

  -- an empty slot fails the call
  pub empty_fails : (word_at (present conf) (cspace_of conf.boot at) slot).row ≡ None
      → came_to call ≡ Fails CapNull
  empty_fails none = fails_by CapNull (ap (λ (row : Option CapabilityRow). slot_reply row may.need) none)

  revoked_reply : (row : CapabilityRow) → row.valid ≡ false → grant_reply row may.need ≡ Err CapRevoked
  revoked_reply row revoked = rw revoked refl

  -- and so does a capability that was revoked
  pub revoked_fails : (row : CapabilityRow)
      → (word_at (present conf) (cspace_of conf.boot at) slot).row ≡ Some row → row.valid ≡ false
      → came_to call ≡ Fails CapRevoked
  revoked_fails row is revoked =
      fails_by CapRevoked (ap (λ (one : Option CapabilityRow). slot_reply one may.need) is ∙ revoked_reply row revoked)
