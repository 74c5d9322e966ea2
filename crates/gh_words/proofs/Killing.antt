-- What a kill found is what its answer tells of the configuration behind it.
use Rattle.std.proofs.Common.{◌≡◌, ◌==◌, ◌∙◌, ℕ, Bool, true, false, List, [], ◌∷◌, ap, arith, option_map, refl, subst, sym, Option, Some, Result, Ok, Err, if◌then◌else◌}
use Rattle.std.proofs.lemmas.Bool.Decides.{nat_tests}
use Rattle.gh_base.specs.declared.ids.CpuNo.{CpuNo}
use Rattle.gh_base.specs.declared.ids.ObjIndex.{ObjIndex}
use Rattle.gh_events.specs.Config.{Config, object_at, present, put}
use Rattle.gh_events.specs.Events.{Possible, after}
use Rattle.gh_events.specs.HolderEvents.{MayKill, kill_failed, with_failed, with_turn, without_scans}
use Rattle.gh_events.specs.declared.event.Event.{Event}
use Rattle.gh_model.specs.declared.rows.ObjectRow.{ObjectRow}
use Rattle.gh_schedules.specs.Trace.{after_all}
use Rattle.gh_words.specs.Holding.{HasFailed, KillAnswers, KillTells, TriesKilling, killing}
use Rattle.gh_words.specs.Moved.{MakesFinding, Moved}
use Rattle.gh_events.proofs.Finding.{put_here}
use Rattle.gh_schedules.proofs.TraceLaws.{after_append}
use Rattle.gh_words.proofs.CanMakes.{last_done}

-- behind a kill of a count that isn't 0
module _ (conf : Config) (at object : ℕ) (may : MayKill conf at object) where
  failed_row : (row : ObjectRow) → object_at (present conf) conf.index object ≡ Some row
      → HasFailed (kill_failed conf object (Some row)) object (conf.count object)
  failed_row row is = record {
    alive = may.alive;
    holder = with_failed row.serial.0 (conf.count object) may.holder;
    turn = ap (option_map (with_failed row.serial.0 (conf.count object))) may.has_turn.turn;
    kept = λ other there.
        let both : Some row ≡ Some other = sym is ∙ there in
        let same : row ≡ other = cc in
        subst (λ (one : ObjectRow). put may.holder.failed row.serial.0 (Some (conf.count object)) one.serial.0 ≡ Some (conf.count object)) same
        (put_here may.holder.failed row.serial.0 (Some (conf.count object)));
  }

  failed_found : HasFailed (kill_failed conf object (object_at (present conf) conf.index object)) object (conf.count object)
  failed_found =
      subst (λ (found : Option ObjectRow). HasFailed (kill_failed conf object found) object (conf.count object)) (sym may.lives_there)
      (failed_row may.row may.lives_there)

  by_count : (none : Bool) → (conf.count object == 0) ≡ none → (answer : Result Unit ℕ) (index : ObjIndex) → index.0 ≡ object
      → KillAnswers index answer conf
      → KillTells index answer (if none then record (with_turn without_scans conf) { dead = put conf.dead object true }
      else kill_failed conf object (object_at (present conf) conf.index object))
  by_count true is (Ok done) index its found = subst (λ (n : ℕ). put conf.dead object true n ≡ true) (sym its) (put_here conf.dead object true)
  by_count true is (Err seen) index its found =
      let there : (conf.count index.0 == 0) ≡ true = subst (λ (n : ℕ). (conf.count n == 0) ≡ true) (sym its) is in
      absurd (let never : ⊥ = grind (arith, nat_tests, found.is_count, found.some, there) in never)
  by_count false is (Ok done) index its found =
      let there : (conf.count index.0 == 0) ≡ false = subst (λ (n : ℕ). (conf.count n == 0) ≡ false) (sym its) is in
      absurd (let never : ⊥ = grind (arith, nat_tests, found, there) in never)
  by_count false is (Err seen) index its found =
      subst (λ (n : ℕ). HasFailed (kill_failed conf object (object_at (present conf) conf.index object)) n seen) (sym its)
      (subst (λ (count : ℕ). HasFailed (kill_failed conf object (object_at (present conf) conf.index object)) object count)
      (ap conf.count (sym its) ∙ sym found.is_count) failed_found)

pub killed_tells : (conf : Config) (cpu : CpuNo) (object : ObjIndex) (answer : Result Unit ℕ) → Possible conf (killing object cpu)
    → KillAnswers object answer conf → KillTells object answer (after conf (killing object cpu))
killed_tells conf cpu object answer may found = by_count conf cpu.0 object.0 may (conf.count object.0 == 0) refl answer object refl found

pub kill_tells : (between : List Event → Type 0) (before behind : Config → Type 0) (object : ObjIndex) (answer : Result Unit ℕ)
    → MakesFinding between before behind (killing object) (KillAnswers object answer) → TriesKilling between before behind object answer
kill_tells between before behind object answer made conf cpu here may =
    let moved : Moved between (KillAnswers object answer) behind conf (killing object cpu) = made conf cpu here may in
    record {
      others = moved.others;
      allowed = moved.allowed;
      foreign = moved.foreign;
      done = moved.done;
      finds = tt;
      leaves = (
        moved.leaves,
        subst (KillTells object answer) (sym (after_append conf moved.others (killing object cpu ∷ [])))
            (killed_tells (after_all conf moved.others) cpu object answer (last_done conf moved.others (killing object cpu) moved.done) moved.finds),
      );
    }
