-- The parts stand for the rows once a VM is linked.
use Rattle.std.proofs.Common.{◌≡◌, ◌+◌, ◌∙◌, ◌∷◌, ◌++◌, ℕ, List, [], Option, refl, sym, ap, subst}
use Rattle.gh_base.specs.declared.ids.Serial.{Serial}
use Rattle.gh_invariant.specs.Effects.{space_named}
use Rattle.gh_invariant.specs.Premises.{MayLink}
use Rattle.gh_invariant.specs.Valid.{IsValidWithin}
use Rattle.gh_model.specs.Changes.{add_link}
use Rattle.gh_model.specs.declared.change.Change.TheVariants.{AddLink}
use Rattle.gh_model.specs.declared.rows.CpuRow.{CpuRow}
use Rattle.gh_model.specs.declared.rows.LinkRow.{LinkRow}
use Rattle.gh_model.specs.declared.state.State.{State}
use Rattle.gh_objects.specs.Counts.{with_reference}
use Rattle.gh_parts.specs.Making.{HasRoom}
use Rattle.gh_parts.specs.NumberChanges.{with_links}
use Rattle.gh_parts.specs.Owing.{HasCount, recounted}
use Rattle.gh_parts.specs.Stands.{ReferencesStand, Stands, StandsOwing}
use Rattle.gh_parts.specs.declared.parts.Parts.{Parts}
use Rattle.gh_parts.proofs.StandsMoved.{references_moved}
use Rattle.gh_parts.proofs.StandsOwed.{owed_next}

-- a count beside other links
pub has_linked : (parts now : Parts) (links : List LinkRow) (object : ℕ) (P : ℕ → Type 0)
    → now ≡ with_links links parts → HasCount parts object P → HasCount now object P
has_linked parts now links object P is has =
    subst (λ (p : Parts). HasCount p object P) (sym is)
    (record { indexed = has.indexed; bare = has.bare; count = has.count })

-- a reference that is counted beside other links
pub owed_linked : (parts before now : Parts) (links : List LinkRow) (object : ℕ)
    → before ≡ with_links links parts → now ≡ recounted with_reference before object
    → now ≡ with_links links (recounted with_reference parts object)
owed_linked parts before now links object was is =
    is ∙ ap (λ (p : Parts). recounted with_reference p object) was

module _ (s : State) (valid : IsValidWithin s) (room : HasRoom s) (row : LinkRow) (may : MayLink s row)
    (parts : Parts) (stand : Stands parts s) where
  -- the parts with the references counted, one after another
  abbrev pub first : Parts
  first = recounted with_reference parts row.reply.0

  abbrev pub second : Parts
  second = recounted with_reference first row.request.0

  abbrev pub third : Parts
  third = recounted with_reference second row.extent.0

  abbrev pub fourth : Parts
  fourth = recounted with_reference third may.cpu.space.0

  pub first_owes : StandsOwing (row.reply ∷ []) first s
  first_owes = owed_next parts first s [] row.reply stand refl

  pub second_owes : StandsOwing (row.request ∷ row.reply ∷ []) second s
  second_owes = owed_next first second s (row.reply ∷ []) row.request first_owes refl

  pub third_owes : StandsOwing (row.extent ∷ row.request ∷ row.reply ∷ []) third s
  third_owes = owed_next second third s (row.request ∷ row.reply ∷ []) row.extent second_owes refl

  fourth_owes : StandsOwing (may.cpu.space ∷ row.extent ∷ row.request ∷ row.reply ∷ []) fourth s
  fourth_owes = owed_next third fourth s (row.extent ∷ row.request ∷ row.reply ∷ []) may.cpu.space third_owes refl

  pub link_stands : Stands (with_links (parts.journal.links ++ row ∷ []) fourth) (add_link row s)
  link_stands = record {
    objects = stand.objects;
    kinds = stand.kinds;
    references =
        references_moved (s.entries + 1) s (AddLink row) valid may fourth.table.headers fourth.journal.counts refl
        (subst (λ (owed : List Serial). ReferencesStand fourth.table.headers fourth.journal.counts owed s)
        (ap (λ (found : Option CpuRow). space_named found ++ row.extent ∷ row.request ∷ row.reply ∷ []) (sym may.found))
        fourth_owes.references);
    bells = stand.bells;
    queues = stand.queues;
    spans = stand.spans;
    spaces = stand.spaces;
    slots = stand.slots;
    units = stand.units;
    memory = stand.memory;
    blocks = stand.blocks;
    numbers = record {
      cpus = stand.numbers.cpus;
      links = ap (λ (links : List LinkRow). links ++ row ∷ []) stand.numbers.links;
      taken = stand.numbers.taken;
      entries = stand.numbers.entries;
      serials = stand.numbers.serials;
      handles = stand.numbers.handles;
      rings = stand.numbers.rings;
    };
  }
