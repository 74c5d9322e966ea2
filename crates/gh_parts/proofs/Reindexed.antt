-- The parts stand where headers are others, and every serial keeps its index.
use Rattle.std.proofs.Common.{◌≡◌, ◌∙◌, ℕ, List, Option, Some, None, sym, ap}
use Rattle.gh_base.specs.declared.cap_word.CapWord.{CapWord}
use Rattle.gh_base.specs.declared.ids.Serial.{Serial}
use Rattle.gh_base.specs.declared.kind.Kind.TheVariants as kind
use Rattle.gh_invariant.specs.Lives.{lives_as}
use Rattle.gh_model.specs.declared.rows.BellRow.{BellRow}
use Rattle.gh_model.specs.declared.rows.CapabilityRow.{CapabilityRow}
use Rattle.gh_model.specs.declared.rows.ExtentRow.{ExtentRow}
use Rattle.gh_model.specs.declared.rows.MappingRow.{MappingRow}
use Rattle.gh_model.specs.declared.rows.ObjectRow.{ObjectRow}
use Rattle.gh_model.specs.declared.rows.QueueRow.{QueueRow}
use Rattle.gh_model.specs.declared.rows.SetAtRow.{SetAtRow}
use Rattle.gh_objects.specs.declared.header.Header.{Header}
use Rattle.gh_parts.specs.Bodies.{bell_in, mappings_in, queue_in, space_in, span_in}
use Rattle.gh_parts.specs.Index.{index_of}
use Rattle.gh_parts.specs.Shares.{body_at}
use Rattle.gh_parts.specs.Slots.{name_in, word_in}
use Rattle.gh_parts.specs.Stands.{BellsStand, QueuesStand, ShowsSlot, SlotsStand, SpacesStand, SpansStand}
use Rattle.gh_parts.specs.declared.body.Body.{Body}
use Rattle.gh_parts.specs.declared.shares.Place.{Place}
use Rattle.gh_parts.specs.declared.slots.Slots.{Slots}

module _ (headers now : List (Option Header)) (same : (x : ℕ) → index_of now x ≡ index_of headers x) where
  seen : {V : Type 0} (see : ℕ → Body → V) (shares : List (List Place)) (x : ℕ)
      → see x (body_at shares (index_of headers x)) ≡ see x (body_at shares (index_of now x))
  seen see shares x = ap (λ (i : ℕ). see x (body_at shares i)) (sym (same x))

  pub bells_at : (shares : List (List Place)) (rows : List BellRow) → BellsStand headers shares rows
      → BellsStand now shares rows
  bells_at shares rows stand x = stand x ∙ seen bell_in shares x

  pub queues_at : (shares : List (List Place)) (rows : List QueueRow) → QueuesStand headers shares rows
      → QueuesStand now shares rows
  queues_at shares rows stand x = stand x ∙ seen queue_in shares x

  pub spans_at : (shares : List (List Place)) (rows : List ExtentRow) → SpansStand headers shares rows
      → SpansStand now shares rows
  spans_at shares rows stand x = stand x ∙ seen span_in shares x

  pub spaces_at : (shares : List (List Place)) (extents : List ExtentRow) (holders : List Serial)
      (rows : List MappingRow) → SpacesStand headers shares extents holders rows
      → SpacesStand now shares extents holders rows
  spaces_at shares extents holders rows stand = record {
    mappings = λ x. stand.mappings x ∙ seen mappings_in shares x;
    access = λ x space is. stand.access x space (seen (λ n b. space_in b) shares x ∙ is);
  }

  -- a word that shows a slot shows it at the same indices
  pub slot_at : (word : CapWord) (name : Serial) (row : Option CapabilityRow) (number : ℕ)
      → ShowsSlot headers word name row number → ShowsSlot now word name row number
  slot_at word name None number shows = shows
  slot_at word name (Some row) number shows = record {
    object = shows.object;
    within = shows.within;
    bits = shows.bits;
    index = λ valid. shows.index valid ∙ sym (same row.serial.0);
    named = shows.named;
  }

  pub slots_at : (all : List Slots) (objects others : List ObjectRow) (caps : List CapabilityRow)
      (set_at : List SetAtRow)
      → ((serial : ℕ) → lives_as others serial kind.Cspace ≡ lives_as objects serial kind.Cspace)
      → SlotsStand headers all objects caps set_at → SlotsStand now all others caps set_at
  slots_at all objects others caps set_at live stand = record {
    homes = λ serial. stand.homes serial ∙ sym (live serial);
    once = stand.once;
    sized = stand.sized;
    words = λ cspace slot is.
        slot_at (word_in all cspace slot) (name_in all cspace slot) _ _ (stand.words cspace slot is);
  }
