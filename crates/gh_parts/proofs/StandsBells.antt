-- The parts stand for the rows once a doorbell's words are set.
use Rattle.std.proofs.Common.{◌≡◌, ◌≢◌, ◌∙◌, ◌==◌, ℕ, true, false, List, refl, sym}
use Rattle.std.proofs.lemmas.Bool.{eq-eqb, eqb-true, ne_eqb}
use Rattle.gh_base.specs.declared.ids.Serial.{Serial}
use Rattle.gh_model.specs.Changes.{replaced, set_bell}
use Rattle.gh_model.specs.Rows.{is_bell}
use Rattle.gh_model.specs.declared.rows.BellRow.{BellRow}
use Rattle.gh_model.specs.declared.state.State.{State}
use Rattle.gh_parts.specs.Bodies.{bell_in, body_of}
use Rattle.gh_parts.specs.BodyChanges.{belled}
use Rattle.gh_parts.specs.Index.{index_of}
use Rattle.gh_parts.specs.Shares.{with_body}
use Rattle.gh_parts.specs.Stands.{StandsOwing}
use Rattle.gh_parts.specs.declared.body.Body.{Body}
use Rattle.gh_parts.specs.declared.parts.Parts.{Parts}
use Rattle.gh_parts.proofs.BodyChangeLemmas.{belled_kind, belled_memory, belled_queues, belled_shown}
use Rattle.gh_parts.proofs.BodyLemmas.{rows_changed}
use Rattle.gh_parts.proofs.StandsBodies.{kinds_kept, objects_kept, queues_kept, spaces_kept, spans_kept}

-- what is this serial's is no other's
pub apart_serials : (serial other n : ℕ) → other ≢ serial → (n == serial) ≡ true → (n == other) ≡ false
apart_serials serial other n apart is =
    ne_eqb n other (λ also. apart (sym also ∙ eqb-true n serial is))

module _ (owed : List Serial) (parts : Parts) (s : State) (stand : StandsOwing owed parts s) (row : BellRow) where
  pub bell_stands : StandsOwing owed
      (record parts {
        shares = with_body parts.shares (index_of parts.table.headers row.serial.0)
            (belled row (body_of parts.table.headers parts.shares row.serial.0));
      })
      (set_bell row s)
  bell_stands =
      let new : Body = belled row (body_of parts.table.headers parts.shares row.serial.0) in
      let old : Body = body_of parts.table.headers parts.shares row.serial.0 in
      record {
        objects = objects_kept owed parts s stand row.serial.0 new;
        references = record { each = stand.references.each; bare = stand.references.bare };
        kinds = kinds_kept owed parts s stand row.serial.0 new (belled_kind row old);
        bells = rows_changed parts.table.headers parts.shares stand.objects.indexed stand.objects.whole row.serial.0 new
            is_bell bell_in s.bells (replaced row) (belled row) refl refl
            (λ old_row is. eq-eqb row.serial.0 row.serial.0 refl)
            (λ other old_row apart is. apart_serials row.serial.0 other old_row.serial.0 apart is)
            (belled_shown row old) stand.bells;
        queues = queues_kept owed parts s stand row.serial.0 new (belled_queues row row.serial.0 old);
        spans = spans_kept owed parts s stand row.serial.0 new ((belled_memory row row.serial.0 old).spans);
        spaces = spaces_kept owed parts s stand row.serial.0 new ((belled_memory row row.serial.0 old).mappings) ((belled_memory row row.serial.0 old).spaces);
        slots = stand.slots;
        units = stand.units;
        memory = stand.memory;
        blocks = stand.blocks;
        numbers = record {
          cpus = stand.numbers.cpus;
          links = stand.numbers.links;
          taken = stand.numbers.taken;
          entries = stand.numbers.entries;
          serials = stand.numbers.serials;
          handles = stand.numbers.handles;
          rings = stand.numbers.rings;
        };
      }
