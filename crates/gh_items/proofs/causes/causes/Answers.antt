-- The rows are those of the present state, and all that are held among them have their causes.
use Rattle.std.proofs.Common.{◌≡◌, ◌∙◌, List, ap}
use Rattle.std.specs.Prelude.{flat_map}
use Rattle.gh_base.specs.declared.mark.Held.{Held}
use Rattle.gh_events.specs.TurnEvents.{as_list}
use Rattle.gh_items.specs.Swept.{cause_now}
use Rattle.gh_items.proofs.CauseLemmas.{are_made, causes_are, if_value}
use Rattle.gh_items.proofs.causes.causes.Goals as goal
use Rattle.gh_model.specs.declared.rows.ObjectRow.{ObjectRow}
use Rattle.gh_model.specs.declared.state.State.{State}
use Rattle.gh_schedules.specs.Causes.{causes_now}

pub causes_of-requires : goal.causes_of-requires
causes_of-requires g c = (
  c.requires.0,
  (
    c.requires.1,
    are_made c.state.result.now g.conf (c.state.ensures.state ∙ c.requires.0.stands.state) c.as_slice-rows.result.now c.as_slice-rows.ensures c.requires.0.sound,
  ),
)

pub returns : goal.returns
returns g c =
    if_value (λ (held : List Held). held ≡ flat_map (λ (row : ObjectRow). as_list (cause_now g.conf row)) c.as_slice-rows.result.now)
    (λ (held : List Held). held ≡ causes_now g.conf) c.causes_of.result
    (λ held is.
    is
    ∙ ap (λ (rows : List ObjectRow). flat_map (λ (row : ObjectRow). as_list (cause_now g.conf row)) rows)
    (c.as_slice-rows.ensures ∙ ap (λ (s : State). s.objects) (c.state.ensures.state ∙ c.requires.0.stands.state))
    ∙ causes_are g.conf)
    c.causes_of.ensures
