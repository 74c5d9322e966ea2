-- The act is logged where its changes are made, and the parts stand for the rows behind it.
use Rattle.std.proofs.Common.{◌≡◌, ◌<◌, List, subst, sym}
use Rattle.std.specs.Prelude.{OnErr, OnOk}
use Rattle.gh_base.specs.declared.limits.TheConstants.{HISTORY_ENTRIES}
use Rattle.gh_model.specs.declared.state.State.{State}
use Rattle.gh_parts.specs.Acts.{IsActOf}
use Rattle.gh_parts.specs.Past.{Past, event_of, past_of, rows_of, with_event}
use Rattle.gh_parts.specs.Stands.{Stands}
use Rattle.gh_parts.proofs.ActLemmas.{act_after, act_kept, act_makes, act_seats, act_suits, act_valid}
use Rattle.gh_parts.proofs.CallsFit.{act_fits}
use Rattle.gh_parts.proofs.EntryLogged.{ok_by, past_acted, past_kept, present_acted}
use Rattle.gh_parts.proofs.ledger.Ledger.act.Goals as goal

pub act-requires : goal.act-requires
act-requires c =
    let past : Past = past_of c.self.inside.present.boot c.self.inside.present.log in
    let act : IsActOf (rows_of past) c.args.logged c.args.changes.now =
    subst (λ (one : Past). IsActOf (rows_of one) c.args.logged c.args.changes.now) (sym c.self.view_is) c.requires.act in (
      act_makes (rows_of past) c.args.logged c.args.changes.now act c.self.inside.present.parts c.self.invariant.stands
          c.self.invariant.valid c.self.invariant.kept c.self.invariant.seats
          (subst (λ (one : Past). (rows_of one).entries < HISTORY_ENTRIES) (sym c.self.view_is) c.requires.entries),
      (
        (act_suits (rows_of past) c.args.logged c.args.changes.now act).once,
        subst (λ (one : Past). 0 < one.room) (sym c.self.view_is) c.requires.room,
      ),
    )

pub invariant_of-self : goal.invariant_of-self
invariant_of-self c =
    let s : State = rows_of (past_of c.self.inside.present.boot c.self.inside.present.log) in
    let act : IsActOf s c.args.logged c.args.changes.now =
    subst (λ (one : Past). IsActOf (rows_of one) c.args.logged c.args.changes.now) (sym c.self.view_is) c.requires.act in
    present_acted c.self.inside.present.boot c.self.inside.present.log c.self.inside.present.parts c.act.new.self.parts
    c.args.logged c.self.invariant (act_fits s c.args.logged c.args.changes.now act)
    (act_valid s c.args.logged c.args.changes.now act c.self.invariant.valid)
    (act_kept s c.args.logged c.args.changes.now act c.self.invariant.kept)
    (act_seats s c.args.logged c.args.changes.now act c.self.invariant.seats)
    c.act.new.self.boot c.act.new.self.log c.act.result c.act.ensures.boot c.act.ensures.log c.act.ensures.same
    (ok_by c.act.result (λ (after : State). Stands c.act.new.self.parts after)
    (act_after s c.args.logged c.args.changes.now act) c.act.ensures.parts)
    c.act.ensures.back

pub returns-clause-ok : goal.returns-clause-ok
returns-clause-ok c =
    subst
    (λ (past : Past). OnOk c.act.result (past_of c.act.new.self.boot c.act.new.self.log ≡ with_event (event_of c.args.logged) past))
    c.self.view_is
    (past_acted c.self.inside.present.boot c.self.inside.present.log c.args.logged c.act.new.self.boot c.act.new.self.log
    c.act.result c.act.ensures.boot c.act.ensures.log)

pub returns-clause-err : goal.returns-clause-err
returns-clause-err c =
    subst (λ (past : Past). OnErr c.act.result (past_of c.act.new.self.boot c.act.new.self.log ≡ past)) c.self.view_is
    (past_kept c.self.inside.present.boot c.self.inside.present.log c.act.new.self.boot c.act.new.self.log
    c.act.result c.act.ensures.boot c.act.ensures.same)
