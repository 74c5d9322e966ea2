-- Each change leaves what the CPUs and the links name there.
use Rattle.std.proofs.Common.{◌≡◌, ◌≤◌, ◌∙◌, ◌&&◌, ◌||◌, ◌==◌, ℕ, Bool, true, false, not, List, refl, subst, sym, arith, Option, Some, None, IsTrue, find}
use Rattle.std.specs.Prelude.{count_by}
use Rattle.std.proofs.lemmas.Bool.{and_parts, and_from, or_parts, not-true}
use Rattle.std.proofs.lemmas.Bool.Decides.{nat_tests}
use Rattle.gh_base.specs.declared.kind.Kind.{Kind}
use Rattle.gh_base.specs.declared.kind.Kind.TheVariants as kind
use Rattle.gh_model.specs.Changes.{without, as_exited}
use Rattle.gh_model.specs.References.{is_attached_to, is_space_of, uses_link}
use Rattle.gh_model.specs.Rows.{change_row, is_cpu, is_object}
use Rattle.gh_model.specs.declared.rows.ObjectRow.{ObjectRow}
use Rattle.gh_model.specs.declared.rows.CpuRow.{CpuRow}
use Rattle.gh_model.specs.declared.rows.LinkRow.{LinkRow}
use Rattle.gh_invariant.specs.Lives.{lives_as, cpu_fits, link_stands, space_lives}
use Rattle.gh_invariant.specs.Valid.{CpusFit}
use Rattle.gh_invariant.proofs.Counting.{all_by, all_by_two, none_fail}
use Rattle.gh_invariant.proofs.ChangedRow.{count_change_kept, find_change_seen, all_change}
use Rattle.gh_invariant.proofs.ObjectsFit.{lives_left}

-- what a link names, as facts
pub record LinkParts (objects : List ObjectRow) (cpus : List CpuRow) (row : LinkRow) : Type 0 where
  pub space : IsTrue (space_lives objects (find (is_cpu row.vm.0) cpus))
  pub extent : IsTrue (lives_as objects row.extent.0 kind.Extent)
  pub request : IsTrue (lives_as objects row.request.0 kind.Queue)
  pub reply : IsTrue (lives_as objects row.reply.0 kind.Queue)

pub link_parts : (objects : List ObjectRow) (cpus : List CpuRow) (row : LinkRow)
    → IsTrue (link_stands objects cpus row) → LinkParts objects cpus row
link_parts objects cpus row stands = record {
  space = (and_parts _ _ (and_parts _ _ (and_parts _ _ stands).0).0).0;
  extent = (and_parts _ _ (and_parts _ _ (and_parts _ _ stands).0).0).1;
  request = (and_parts _ _ (and_parts _ _ stands).0).1;
  reply = (and_parts _ _ stands).1;
}

pub link_from : (objects : List ObjectRow) (cpus : List CpuRow) (row : LinkRow)
    → LinkParts objects cpus row → IsTrue (link_stands objects cpus row)
link_from objects cpus row parts =
    and_from _ _ (and_from _ _ (and_from _ _ parts.space parts.extent) parts.request) parts.reply

-- a CPU that hasn't exited names what lives still
attached_still : (exited a b c d : Bool) → (a ≡ true → c ≡ true) → (b ≡ true → d ≡ true)
    → (exited || (a && b)) ≡ true → (exited || (c && d)) ≡ true
attached_still true a b c d first second is = refl
attached_still false a b c d first second is =
    let parts : (a ≡ true) × (b ≡ true) =
    and_parts _ _ is in and_from _ _ (first parts.0) (second parts.1)

space_still : (old new : List ObjectRow) (found : Option CpuRow)
    → ((row : CpuRow) → IsTrue (lives_as old row.space.0 kind.Space) → IsTrue (lives_as new row.space.0 kind.Space))
    → IsTrue (space_lives old found) → IsTrue (space_lives new found)
space_still old new None live is = is
space_still old new (Some row) live is = live row is

-- where all that live still do, CPUs fit
pub cpus_live_on : (old new : List ObjectRow) (cpus : List CpuRow) (links : List LinkRow)
    → ((serial : ℕ) (k : Kind) → IsTrue (lives_as old serial k) → IsTrue (lives_as new serial k))
    → CpusFit old cpus links → CpusFit new cpus links
cpus_live_on old new cpus links live fit = record {
  once = fit.once;
  attached = all_by (cpu_fits old) (cpu_fits new) cpus
      (λ row fits. attached_still row.exited _ _ _ _ (live row.cspace.0 kind.Cspace) (live row.space.0 kind.Space) fits) fit.attached;
  linked = all_by (link_stands old cpus) (link_stands new cpus) links
      (λ row stands.
      let parts : LinkParts old cpus row = link_parts old cpus row stands in
      link_from new cpus row (record {
        space = space_still old new (find (is_cpu row.vm.0) cpus) (λ one. live one.space.0 kind.Space) parts.space;
        extent = live row.extent.0 kind.Extent parts.extent;
        request = live row.request.0 kind.Queue parts.request;
        reply = live row.reply.0 kind.Queue parts.reply;
      })) fit.linked;
}

-- a CPU exits
pub exit_keeps_cpus : (objects : List ObjectRow) (cpus : List CpuRow) (links : List LinkRow) (cpu : ℕ)
    → CpusFit objects cpus links → CpusFit objects (change_row (is_cpu cpu) as_exited cpus) links
exit_keeps_cpus objects cpus links cpu fit = record {
  once = λ n. subst (λ (m : ℕ). m ≤ 1) (sym (count_change_kept (is_cpu n) (is_cpu cpu) as_exited cpus (λ row. refl))) (fit.once n);
  attached = all_change (cpu_fits objects) (is_cpu cpu) as_exited cpus (λ row here fits. refl) fit.attached;
  linked =
      all_by (link_stands objects cpus) (link_stands objects (change_row (is_cpu cpu) as_exited cpus)) links
      (λ row stands.
      let parts : LinkParts objects cpus row = link_parts objects cpus row stands in
      link_from objects (change_row (is_cpu cpu) as_exited cpus) row (record {
        space = find_change_seen (space_lives objects) (is_cpu row.vm.0) (is_cpu cpu) as_exited cpus (λ one. refl) (λ one. refl) ∙ parts.space;
        extent = parts.extent;
        request = parts.request;
        reply = parts.reply;
      })) fit.linked;
}

-- an object goes without references

module _ (objects : List ObjectRow) (object : ℕ) where
  runs_elsewhere : (row : CpuRow) (exited : Bool)
      → (((row.cspace.0 == object) || (row.space.0 == object)) && not exited) ≡ false
      → (exited || (lives_as objects row.cspace.0 kind.Cspace && lives_as objects row.space.0 kind.Space))
      ≡ true
      → (exited || (lives_as (without (is_object object) objects) row.cspace.0 kind.Cspace && lives_as (without (is_object object) objects) row.space.0 kind.Space))
      ≡ true
  runs_elsewhere row true other fits = refl
  runs_elsewhere row false other fits =
      let apart : ((row.cspace.0 == object) || (row.space.0 == object)) ≡ false =
      grind (arith, nat_tests) in
      let parts : ((row.cspace.0 == object) ≡ false) × ((row.space.0 == object) ≡ false) =
      or_parts _ _ apart in
      let live : (lives_as objects row.cspace.0 kind.Cspace ≡ true) × (lives_as objects row.space.0 kind.Space ≡ true) =
      and_parts _ _ fits in
      and_from _ _ (lives_left objects object row.cspace.0 kind.Cspace parts.0 ∙ live.0) (lives_left objects object row.space.0 kind.Space parts.1 ∙ live.1)

  space_elsewhere : (found : Option CpuRow) → is_space_of object found ≡ false
      → IsTrue (space_lives objects found)
      → IsTrue (space_lives (without (is_object object) objects) found)
  space_elsewhere None other is = is
  space_elsewhere (Some row) other is = lives_left objects object row.space.0 kind.Space other ∙ is

  link_elsewhere : (cpus : List CpuRow) (row : LinkRow) → uses_link cpus object row ≡ false
      → IsTrue (link_stands objects cpus row)
      → IsTrue (link_stands (without (is_object object) objects) cpus row)
  link_elsewhere cpus row other stands =
      let parts : LinkParts objects cpus row = link_parts objects cpus row stands in
      let last : _ × ((row.reply.0 == object) ≡ false) = or_parts _ _ other in
      let third : _ × ((row.request.0 == object) ≡ false) = or_parts _ _ last.0 in
      let first : (is_space_of object (find (is_cpu row.vm.0) cpus) ≡ false) × ((row.extent.0 == object) ≡ false) =
      or_parts _ _ third.0 in
      link_from (without (is_object object) objects) cpus row (record {
        space = space_elsewhere (find (is_cpu row.vm.0) cpus) first.0 parts.space;
        extent = lives_left objects object row.extent.0 kind.Extent first.1 ∙ parts.extent;
        request = lives_left objects object row.request.0 kind.Queue third.1 ∙ parts.request;
        reply = lives_left objects object row.reply.0 kind.Queue last.1 ∙ parts.reply;
      })

  -- no CPU that hasn't exited and no link names it
  pub reclaim_keeps_cpus : (cpus : List CpuRow) (links : List LinkRow)
      → count_by (is_attached_to object) cpus ≡ 0 → count_by (uses_link cpus object) links ≡ 0
      → CpusFit objects cpus links → CpusFit (without (is_object object) objects) cpus links
  reclaim_keeps_cpus cpus links none unused fit = record {
    once = fit.once;
    attached =
        all_by_two (λ (row : CpuRow). not (is_attached_to object row)) (cpu_fits objects) (cpu_fits (without (is_object object) objects)) cpus
        (λ row other fits. runs_elsewhere row row.exited (not-true (is_attached_to object row) other) fits) (none_fail (is_attached_to object) cpus none) fit.attached;
    linked =
        all_by_two (λ (row : LinkRow). not (uses_link cpus object row)) (link_stands objects cpus) (link_stands (without (is_object object) objects) cpus) links
        (λ row other stands. link_elsewhere cpus row (not-true (uses_link cpus object row) other) stands) (none_fail (uses_link cpus object) links unused) fit.linked;
  }
