-- The next object is noted with the number of earlier partitions, of which there are eight at most.
use Rattle.std.proofs.Common.{◌≡◌, ◌+◌, ◌∙◌, ℕ, List, ap, arith, subst, sym}
use Rattle.std.specs.Prelude.{count_by}
use Rattle.gh_items.specs.Beginning.{AreAllNoted}
use Rattle.gh_items.proofs.BeginningLemmas.{noted_more}
use Rattle.gh_items.proofs.beginning.boot_noted.Goals as goal
use Rattle.gh_model.specs.declared.rows.ObjectRow.{ObjectRow}
use Rattle.gh_schedules.specs.Places.{boot_place, is_earlier_partition}

pub overflow_cast-place : goal.overflow_cast-place
overflow_cast-place c =
    let same : c.boot_place-place.result ≡ boot_place c.args.boot.now c.loop-serial.serial =
    c.boot_place-place.ensures ∙ ap (λ (rows : List ObjectRow). count_by (is_earlier_partition c.loop-serial.serial) rows) c.as_slice.ensures in
    omega (arith, same, c.requires.within c.loop-serial.serial)

pub loop-serial-preserved : goal.loop-serial-preserved
loop-serial-preserved c = record {
  noted = subst (λ (noted : List ℕ). AreAllNoted (c.loop-serial.serial + 1) noted (boot_place c.args.boot.now)) (sym c.in_ok-push.ensures.ok)
      (noted_more c.loop-serial.serial c.loop-serial.noted (boot_place c.args.boot.now) c.boot_place-place.result c.loop-serial.invariant.noted
      (c.boot_place-place.ensures ∙ ap (λ (rows : List ObjectRow). count_by (is_earlier_partition c.loop-serial.serial) rows) c.as_slice.ensures));
}
