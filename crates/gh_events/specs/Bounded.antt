-- How much is owed: never more than a reference word can count. And how many references there are.
use Rattle.std.specs.Prelude.{◌+◌, ◌*◌, ◌<◌, ◌≤◌, ◌^◌, ℕ, length}
use Rattle.gh_base.specs.declared.limits.TheConstants.{CPUS, CSPACES, CSPACE_SLOTS, OBJECT_INDICES}
use Rattle.gh_model.specs.declared.state.State.{State}
use Rattle.gh_events.specs.Config.{Config, live_references, references_at}
use Rattle.gh_events.specs.References.{owed_at}

-- at each index, the references of its live object, if any, and what is owed there are together at
-- most 2^62
abbrev pub IsBounded : Config → Type 0
IsBounded conf = (at : ℕ) → at < OBJECT_INDICES
    → live_references conf at + owed_at conf.turn at ≤ 2 ^ 62

-- no object of the boot has more than 2^62 references
abbrev pub FewReferences : State → (ℕ → ℕ) → Type 0
FewReferences boot index = (at : ℕ) → at < OBJECT_INDICES → references_at boot index at ≤ 2 ^ 62

-- no object has so many references
abbrev pub many_references : ℕ
many_references = 131_072

-- the most capabilities that a call looks up
abbrev pub most_looks : ℕ
most_looks = 2

-- references and what is owed have their bound; a CPU has a pin for each look of a call at most,
-- beside one on a dead word; and the boot has few CPUs and links, each of which takes two slots
pub record HasBound (conf : Config) : Type 0 where
  pub bounded : IsBounded conf
  pub few_pins : (cpu : ℕ) → length (conf.cpu cpu).pins ≤ most_looks
  pub few_cpus : length conf.boot.cpus ≤ CPUS
  pub few_links : 2 * length conf.boot.links ≤ CSPACES * CSPACE_SLOTS
