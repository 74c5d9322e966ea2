-- The parts stand for the rows once the body of one object is another: what is kept beside the rows
-- of the body's kind.
use Rattle.std.proofs.Common.{◌≡◌, ◌∙◌, ℕ, List, Option, sym, find}
use Rattle.gh_base.specs.declared.ids.Serial.{Serial}
use Rattle.gh_model.specs.Rows.{is_object}
use Rattle.gh_model.specs.declared.rows.ObjectRow.{ObjectRow}
use Rattle.gh_model.specs.declared.state.State.{State}
use Rattle.gh_parts.specs.Bodies.{bell_in, body_of, fits_body, mappings_in, queue_in, space_in, span_in}
use Rattle.gh_parts.specs.Index.{index_of}
use Rattle.gh_parts.specs.Shares.{with_body}
use Rattle.gh_parts.specs.Stands.{BellsStand, KindsStand, ObjectsStand, QueuesStand, SpacesStand, SpansStand, StandsOwing}
use Rattle.gh_parts.specs.declared.body.Body.{Body}
use Rattle.gh_parts.specs.declared.parts.Parts.{Parts}
use Rattle.gh_parts.specs.declared.shares.Place.{Place}
use Rattle.gh_parts.proofs.BodyLemmas.{seen_kept}
use Rattle.gh_parts.proofs.SharesLemmas.{cost_same, shares_whole}

module _ (owed : List Serial) (parts : Parts) (s : State) (stand : StandsOwing owed parts s)
    (serial : ℕ) (body : Body) where
  -- the body that was there
  abbrev pub before : Body
  before = body_of parts.table.headers parts.shares serial

  -- the shares with the body
  abbrev pub shares_now : List (List Place)
  shares_now = with_body parts.shares (index_of parts.table.headers serial) body

  pub objects_kept : ObjectsStand parts.table.headers shares_now parts.journal.retirements s.objects
  objects_kept = record {
    indexed = stand.objects.indexed;
    whole = shares_whole parts.shares (index_of parts.table.headers serial) body stand.objects.whole;
    each = stand.objects.each;
    costs = λ x row found.
        cost_same parts.shares (index_of parts.table.headers serial) body (index_of parts.table.headers x)
        ∙ stand.objects.costs x row found;
    retired = stand.objects.retired;
    room = stand.objects.room;
  }

  seen : {V : Type 0} (see : ℕ → Body → V) → see serial body ≡ see serial before → (x : ℕ)
      → see x (body_of parts.table.headers parts.shares x) ≡ see x (body_of parts.table.headers shares_now x)
  seen see same x =
      sym (seen_kept parts.table.headers parts.shares stand.objects.indexed stand.objects.whole serial body see same x)

  pub kinds_kept : ((found : Option ObjectRow) → fits_body body found ≡ fits_body before found)
      → KindsStand parts.table.headers shares_now s.objects
  kinds_kept same x =
      seen_kept parts.table.headers parts.shares stand.objects.indexed stand.objects.whole serial body
      (λ n b. fits_body b (find (is_object x) s.objects)) (same (find (is_object x) s.objects)) x
      ∙ stand.kinds x

  pub bells_kept : bell_in serial body ≡ bell_in serial before
      → BellsStand parts.table.headers shares_now s.bells
  bells_kept same x = stand.bells x ∙ seen bell_in same x

  pub queues_kept : queue_in serial body ≡ queue_in serial before
      → QueuesStand parts.table.headers shares_now s.queues
  queues_kept same x = stand.queues x ∙ seen queue_in same x

  pub spans_kept : span_in serial body ≡ span_in serial before
      → SpansStand parts.table.headers shares_now s.extents
  spans_kept same x = stand.spans x ∙ seen span_in same x

  pub spaces_kept : mappings_in serial body ≡ mappings_in serial before
      → space_in body ≡ space_in before
      → SpacesStand parts.table.headers shares_now s.extents s.holders s.mappings
  spaces_kept rows spaces = record {
    mappings = λ x. stand.spaces.mappings x ∙ seen mappings_in rows x;
    access = λ x space is. stand.spaces.access x space (seen (λ n b. space_in b) spaces x ∙ is);
  }
