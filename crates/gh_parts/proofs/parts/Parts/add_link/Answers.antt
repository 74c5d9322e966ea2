-- The row is put, and then its references are counted.
use Rattle.std.proofs.Common.{◌≡◌, ◌<◌, ◌-◌, ◌∙◌, ◌∷◌, ◌++◌, [], ℕ, List, ap, arith, find, subst, sym}
use Rattle.std.specs.Prelude.{◌^◌}
use Rattle.gh_model.specs.Changes.{add_link as add_link_of}
use Rattle.gh_model.specs.Rows.{is_cpu}
use Rattle.gh_model.specs.declared.rows.CpuRow.{CpuRow}
use Rattle.gh_model.specs.declared.rows.LinkRow.{LinkRow}
use Rattle.gh_objects.specs.Counts.{with_reference}
use Rattle.gh_parts.specs.NumberChanges.{with_links}
use Rattle.gh_parts.specs.Owing.{recounted}
use Rattle.gh_parts.specs.Stands.{Stands}
use Rattle.gh_parts.specs.declared.parts.Parts.{Parts}
use Rattle.gh_parts.proofs.Options.{some_same}
use Rattle.gh_parts.proofs.StandsLinked.{first, first_owes, has_linked, link_stands, owed_linked, second, second_owes, third}
use Rattle.gh_parts.proofs.StandsLinked.{third_owes}
use Rattle.gh_parts.proofs.StandsOwed.{may_owe}
use Rattle.gh_parts.proofs.parts.Parts.add_link.Goals as goal

pub owe-requires : goal.owe-requires
owe-requires g c =
    has_linked c.args.self.now c.push_link.new.self (c.args.self.now.journal.links ++ c.args.row ∷ []) c.args.row.reply.0
    (λ (n : ℕ). n < 2 ^ 64 - 1) c.in_ok-push_link.ensures.ok
    (may_owe c.args.self.now g.s [] c.args.row.reply.0 c.requires.stands c.requires.room (omega arith))

pub owe-requires-2 : goal.owe-requires-2
owe-requires-2 g c =
    let links : List LinkRow = c.args.self.now.journal.links ++ c.args.row ∷ [] in
    let one : c.owe.new.self
    ≡ with_links links (first g.s c.requires.valid c.requires.room c.args.row c.requires.may c.args.self.now c.requires.stands) =
    owed_linked c.args.self.now c.push_link.new.self c.owe.new.self links c.args.row.reply.0 c.in_ok-push_link.ensures.ok c.owe.ensures in
    has_linked _ c.owe.new.self links c.args.row.request.0 (λ (n : ℕ). n < 2 ^ 64 - 1) one
    (may_owe _ g.s (c.args.row.reply ∷ []) c.args.row.request.0
    (first_owes g.s c.requires.valid c.requires.room c.args.row c.requires.may c.args.self.now c.requires.stands) c.requires.room (omega arith))

pub owe-requires-3 : goal.owe-requires-3
owe-requires-3 g c =
    let links : List LinkRow = c.args.self.now.journal.links ++ c.args.row ∷ [] in
    let one : c.owe.new.self
    ≡ with_links links (first g.s c.requires.valid c.requires.room c.args.row c.requires.may c.args.self.now c.requires.stands) =
    owed_linked c.args.self.now c.push_link.new.self c.owe.new.self links c.args.row.reply.0 c.in_ok-push_link.ensures.ok c.owe.ensures in
    let two : c.owe-2.new.self
    ≡ with_links links (second g.s c.requires.valid c.requires.room c.args.row c.requires.may c.args.self.now c.requires.stands) =
    owed_linked (first g.s c.requires.valid c.requires.room c.args.row c.requires.may c.args.self.now c.requires.stands)
    c.owe.new.self c.owe-2.new.self links c.args.row.request.0 one c.owe-2.ensures in
    has_linked _ c.owe-2.new.self links c.args.row.extent.0 (λ (n : ℕ). n < 2 ^ 64 - 1) two
    (may_owe _ g.s (c.args.row.request ∷ c.args.row.reply ∷ []) c.args.row.extent.0
    (second_owes g.s c.requires.valid c.requires.room c.args.row c.requires.may c.args.self.now c.requires.stands) c.requires.room (omega arith))

pub owe-requires-in-Some : goal.owe-requires-in-Some
owe-requires-in-Some g c =
    let links : List LinkRow = c.args.self.now.journal.links ++ c.args.row ∷ [] in
    let one : c.owe.new.self
    ≡ with_links links (first g.s c.requires.valid c.requires.room c.args.row c.requires.may c.args.self.now c.requires.stands) =
    owed_linked c.args.self.now c.push_link.new.self c.owe.new.self links c.args.row.reply.0 c.in_ok-push_link.ensures.ok c.owe.ensures in
    let two : c.owe-2.new.self
    ≡ with_links links (second g.s c.requires.valid c.requires.room c.args.row c.requires.may c.args.self.now c.requires.stands) =
    owed_linked (first g.s c.requires.valid c.requires.room c.args.row c.requires.may c.args.self.now c.requires.stands)
    c.owe.new.self c.owe-2.new.self links c.args.row.request.0 one c.owe-2.ensures in
    let three : c.owe-3.new.self
    ≡ with_links links (third g.s c.requires.valid c.requires.room c.args.row c.requires.may c.args.self.now c.requires.stands) =
    owed_linked (second g.s c.requires.valid c.requires.room c.args.row c.requires.may c.args.self.now c.requires.stands)
    c.owe-2.new.self c.owe-3.new.self links c.args.row.extent.0 two c.owe-3.ensures in
    has_linked _ c.owe-3.new.self links c.in-Some.cpu.space.0 (λ (n : ℕ). n < 2 ^ 64 - 1) three
    (may_owe _ g.s (c.args.row.extent ∷ c.args.row.request ∷ c.args.row.reply ∷ []) c.in-Some.cpu.space.0
    (third_owes g.s c.requires.valid c.requires.room c.args.row c.requires.may c.args.self.now c.requires.stands) c.requires.room (omega arith))

pub returns-in-Some-clause-ok : goal.returns-in-Some-clause-ok
returns-in-Some-clause-ok g c =
    let links : List LinkRow = c.args.self.now.journal.links ++ c.args.row ∷ [] in
    let one : c.owe.new.self
    ≡ with_links links (first g.s c.requires.valid c.requires.room c.args.row c.requires.may c.args.self.now c.requires.stands) =
    owed_linked c.args.self.now c.push_link.new.self c.owe.new.self links c.args.row.reply.0 c.in_ok-push_link.ensures.ok c.owe.ensures in
    let two : c.owe-2.new.self
    ≡ with_links links (second g.s c.requires.valid c.requires.room c.args.row c.requires.may c.args.self.now c.requires.stands) =
    owed_linked (first g.s c.requires.valid c.requires.room c.args.row c.requires.may c.args.self.now c.requires.stands)
    c.owe.new.self c.owe-2.new.self links c.args.row.request.0 one c.owe-2.ensures in
    let three : c.owe-3.new.self
    ≡ with_links links (third g.s c.requires.valid c.requires.room c.args.row c.requires.may c.args.self.now c.requires.stands) =
    owed_linked (second g.s c.requires.valid c.requires.room c.args.row c.requires.may c.args.self.now c.requires.stands)
    c.owe-2.new.self c.owe-3.new.self links c.args.row.extent.0 two c.owe-3.ensures in
    let cpu : c.requires.may.cpu ≡ c.in-Some.cpu =
    some_same c.requires.may.cpu c.in-Some.cpu
    (sym c.requires.may.found ∙ ap (find (is_cpu c.args.row.vm.0)) (sym (c.as_slice.ensures ∙ c.requires.stands.numbers.cpus)) ∙ sym c.in-Some.ensures) in
    let four : c.owe-in-Some.new.self
    ≡ with_links links (recounted with_reference (third g.s c.requires.valid c.requires.room c.args.row c.requires.may c.args.self.now c.requires.stands)
    c.in-Some.cpu.space.0) =
    owed_linked (third g.s c.requires.valid c.requires.room c.args.row c.requires.may c.args.self.now c.requires.stands)
    c.owe-3.new.self c.owe-in-Some.new.self links c.in-Some.cpu.space.0 three c.owe-in-Some.ensures in
    subst (λ (parts : Parts). Stands parts (add_link_of c.args.row g.s))
    (ap (λ (one : CpuRow). with_links links (recounted with_reference (third g.s c.requires.valid c.requires.room c.args.row c.requires.may c.args.self.now c.requires.stands)
    one.space.0)) cpu
    ∙ sym four)
    (link_stands g.s c.requires.valid c.requires.room c.args.row c.requires.may c.args.self.now c.requires.stands)
