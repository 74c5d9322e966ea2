-- A CPU that is attached and a VM that is linked leave CPUs and links fit, and refer to what they
-- name.
use Rattle.std.proofs.Common.{◌≡◌, ◌+◌, ◌≤◌, ◌∙◌, ◌&&◌, ◌||◌, ◌==◌, ◌++◌, ℕ, Bool, true, false, List, [], ◌∷◌, refl, subst, sym, ap, arith, IsTrue, Option, Some, None, find}
use Rattle.std.specs.Prelude.{count_by}
use Rattle.std.specs.List.{list_all}
use Rattle.std.proofs.lemmas.Bool.{and_from, and_parts, or_right}
use Rattle.std.proofs.lemmas.Bool.Decides.{nat_tests}
use Rattle.gh_base.specs.declared.ids.Serial.{Serial}
use Rattle.gh_base.specs.declared.kind.Kind.TheVariants as kind
use Rattle.gh_model.specs.QueueCalls.{one_if}
use Rattle.gh_model.specs.References.{is_space_of, uses_link}
use Rattle.gh_model.specs.Rows.{is_cpu}
use Rattle.gh_model.specs.declared.rows.CpuRow.{CpuRow}
use Rattle.gh_model.specs.declared.rows.LinkRow.{LinkRow}
use Rattle.gh_model.specs.declared.rows.ObjectRow.{ObjectRow}
use Rattle.gh_model.specs.declared.state.State.{State}
use Rattle.gh_model.proofs.CpuRows.{once_more_cpu, unfound_none}
use Rattle.gh_invariant.specs.Effects.{is_that, space_named, times}
use Rattle.gh_invariant.specs.Lives.{cpu_fits, link_stands, lives_as, space_lives}
use Rattle.gh_invariant.specs.Premises.{MayAttach, MayLink}
use Rattle.gh_invariant.specs.Valid.{CpusFit}
use Rattle.gh_invariant.proofs.Counting.{all_by, all_push, count_append, count_cons, count_found, count_push, find_push_found}
use Rattle.gh_invariant.proofs.CpusFit.{LinkParts, link_from, link_parts}
use Rattle.gh_invariant.proofs.Living.{kinds_apart}
use Rattle.gh_invariant.proofs.ReferencesMoved.{either_one, times_one}

-- what is seen of a CPU that is there is seen beside one more
seen_beside : {V : Type 0} (see : Option CpuRow → V) (objects : List ObjectRow) (cpus : List CpuRow)
    (row : CpuRow) (cpu : ℕ) (found : Option CpuRow) → find (is_cpu cpu) cpus ≡ found
    → IsTrue (space_lives objects found)
    → see (find (is_cpu cpu) (cpus ++ row ∷ [])) ≡ see (find (is_cpu cpu) cpus)
seen_beside see objects cpus row cpu None is lives = absurd (let never : ⊥ = cc in never)
seen_beside see objects cpus row cpu (Some old) is lives =
    ap see (find_push_found (is_cpu cpu) cpus row old is) ∙ sym (ap see is)

module _ (objects : List ObjectRow) (cpus : List CpuRow) (row : CpuRow) where
  link_beside : (link : LinkRow) → IsTrue (link_stands objects cpus link)
      → IsTrue (link_stands objects (cpus ++ row ∷ []) link)
  link_beside link stands =
      let parts : LinkParts objects cpus link = link_parts objects cpus link stands in
      link_from objects (cpus ++ row ∷ []) link (record {
        space = seen_beside (space_lives objects) objects cpus row link.vm.0
            (find (is_cpu link.vm.0) cpus) refl parts.space ∙ parts.space;
        extent = parts.extent;
        request = parts.request;
        reply = parts.reply;
      })

  -- a link refers to what it did
  link_uses : (object : ℕ) (link : LinkRow) → IsTrue (link_stands objects cpus link)
      → uses_link (cpus ++ row ∷ []) object link ≡ uses_link cpus object link
  link_uses object link stands =
      ap (λ (b : Bool).
      b || (link.extent.0 == object) || (link.request.0 == object) || (link.reply.0 == object))
      (seen_beside (is_space_of object) objects cpus row link.vm.0
      (find (is_cpu link.vm.0) cpus) refl (link_parts objects cpus link stands).space)

  -- and all links do
  pub links_beside : (object : ℕ) (links : List LinkRow)
      → IsTrue (list_all (link_stands objects cpus) links)
      → count_by (uses_link (cpus ++ row ∷ []) object) links ≡ count_by (uses_link cpus object) links
  links_beside object [] stand = refl
  links_beside object (link ∷ links) stand =
      let each : (link_stands objects cpus link ≡ true)
      × (list_all (link_stands objects cpus) links ≡ true) = and_parts _ _ stand in
      omega (
        arith,
        count_cons (uses_link (cpus ++ row ∷ []) object) link links,
        count_cons (uses_link cpus object) link links,
        ap one_if (link_uses object link each.0),
        links_beside object links each.1,
      )

module _ (s : State) (fit : CpusFit s.objects s.cpus s.links) where
  pub attach_keeps_cpus : (row : CpuRow) → MayAttach s row
      → CpusFit s.objects (s.cpus ++ row ∷ []) s.links
  attach_keeps_cpus row may = record {
    once = λ n. once_more_cpu n row s.cpus (fit.once n) (unfound_none (is_cpu row.cpu.0) s.cpus may.new);
    attached = all_push (cpu_fits s.objects) s.cpus row fit.attached
        (or_right row.exited _ (and_from _ _ may.cspace may.space));
    linked = all_by (link_stands s.objects s.cpus) (link_stands s.objects (s.cpus ++ row ∷ []))
        s.links (link_beside s.objects s.cpus row) fit.linked;
  }

  pub link_keeps_cpus : (row : LinkRow) → MayLink s row → CpusFit s.objects s.cpus (s.links ++ row ∷ [])
  link_keeps_cpus row may = record {
    once = fit.once;
    attached = fit.attached;
    linked = all_push (link_stands s.objects s.cpus) s.links row fit.linked may.stands;
  }

-- the references of a link

times_three : (object : ℕ) (first second third : Serial)
    → times object (first ∷ second ∷ third ∷ [])
    ≡ one_if (first.0 == object) + one_if (second.0 == object) + one_if (third.0 == object)
times_three object first second third =
    omega (
      arith,
      count_cons (is_that object) first (second ∷ third ∷ []),
      count_cons (is_that object) second (third ∷ []),
      times_one object third,
    )

times_space : (object : ℕ) (found : Option CpuRow)
    → times object (space_named found) ≡ one_if (is_space_of object found)
times_space object None = refl
times_space object (Some row) = times_one object row.space

-- of four serials that are apart, an object is one at most
four_apart : (a b c d : Bool) → (a ≡ true → b ≡ true → ⊥) → ((a || b) ≡ true → c ≡ true → ⊥)
    → ((a || b || c) ≡ true → d ≡ true → ⊥)
    → one_if (a || b || c || d) ≡ one_if a + one_if b + one_if c + one_if d
four_apart a b c d first second third =
    omega (
      arith,
      either_one 0 a b first,
      either_one 0 (a || b) c second,
      either_one 0 (a || b || c) d third,
    )

module _ (s : State) (row : LinkRow) (may : MayLink s row) (object : ℕ) where
  stands : LinkParts s.objects s.cpus row
  stands = link_parts s.objects s.cpus row may.stands

  space_there : IsTrue (lives_as s.objects may.cpu.space.0 kind.Space)
  space_there = subst (λ (found : Option CpuRow). IsTrue (space_lives s.objects found)) may.found stands.space

  space_extent : (may.cpu.space.0 == row.extent.0) ≡ false
  space_extent =
      kinds_apart s.objects may.cpu.space.0 row.extent.0 kind.Space kind.Extent space_there stands.extent refl

  space_queue : (queue : ℕ) → IsTrue (lives_as s.objects queue kind.Queue)
      → (may.cpu.space.0 == queue) ≡ false
  space_queue queue lives =
      kinds_apart s.objects may.cpu.space.0 queue kind.Space kind.Queue space_there lives refl

  extent_queue : (queue : ℕ) → IsTrue (lives_as s.objects queue kind.Queue)
      → (row.extent.0 == queue) ≡ false
  extent_queue queue lives =
      kinds_apart s.objects row.extent.0 queue kind.Extent kind.Queue stands.extent lives refl

  pub used : uses_link s.cpus object row
      ≡ ((may.cpu.space.0 == object) || (row.extent.0 == object) || (row.request.0 == object) || (row.reply.0 == object))
  used =
      ap (λ (found : Option CpuRow).
      is_space_of object found || (row.extent.0 == object) || (row.request.0 == object) || (row.reply.0 == object)) may.found

  -- a link refers to the four objects that it names
  pub times_link : times object (space_named (find (is_cpu row.vm.0) s.cpus) ++ row.extent ∷ row.request ∷ row.reply ∷ [])
      ≡ one_if (uses_link s.cpus object row)
  times_link =
      let first : (may.cpu.space.0 == row.extent.0) ≡ false = space_extent in
      let second : (may.cpu.space.0 == row.request.0) ≡ false = space_queue row.request.0 stands.request in
      let third : (may.cpu.space.0 == row.reply.0) ≡ false = space_queue row.reply.0 stands.reply in
      let fourth : (row.extent.0 == row.request.0) ≡ false = extent_queue row.request.0 stands.request in
      let fifth : (row.extent.0 == row.reply.0) ≡ false = extent_queue row.reply.0 stands.reply in
      let sixth : (row.request.0 == row.reply.0) ≡ false = may.apart in
      omega (
        arith,
        count_append (is_that object) (space_named (find (is_cpu row.vm.0) s.cpus)) (row.extent ∷ row.request ∷ row.reply ∷ []),
        times_space object (find (is_cpu row.vm.0) s.cpus),
        ap (λ (found : Option CpuRow). one_if (is_space_of object found)) may.found,
        times_three object row.extent row.request row.reply,
        ap one_if used,
        four_apart (may.cpu.space.0 == object) (row.extent.0 == object) (row.request.0 == object) (row.reply.0 == object)
            (λ a b. grind (arith, nat_tests)) (λ a c. grind (arith, nat_tests)) (λ a d. grind (arith, nat_tests)),
      )

  pub links_put : count_by (uses_link s.cpus object) (s.links ++ row ∷ [])
      ≡ count_by (uses_link s.cpus object) s.links
      + times object (space_named (find (is_cpu row.vm.0) s.cpus) ++ row.extent ∷ row.request ∷ row.reply ∷ [])
  links_put = omega (arith, count_push (uses_link s.cpus object) s.links row, times_link)
