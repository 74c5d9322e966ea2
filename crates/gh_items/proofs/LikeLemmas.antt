-- Configurations that a run's progress can't tell apart: their words differ alone.
use Rattle.std.proofs.Common.{◌≡◌, ◌==◌, ◌<◌, ◌∙◌, inl, inr, ℕ, true, false, List, [], ◌∷◌, map, refl, sym, ap, subst, Some}
use Rattle.std.proofs.lemmas.Bool.{cases_Bool, eqb-true}
use Rattle.gh_events.specs.CallEvents.{unpinned, without_pin}
use Rattle.gh_events.specs.Config.{Config, Cpu, Pin, present, put}
use Rattle.gh_schedules.specs.Items.{unpin, unpins}
use Rattle.gh_schedules.specs.Places.{boot_place, places_behind}
use Rattle.gh_schedules.specs.Trace.{after_all}
use Rattle.gh_events.proofs.Finding.{put_here, put_other, same_number}
use Rattle.gh_items.specs.Stands.{SeatStands, Stands}
use Rattle.gh_items.specs.declared.progress.Progress.{Progress}
use Rattle.gh_model.specs.History.{Event, entry_of, replay}
use Rattle.gh_model.specs.Marks.{cspace_of}
use Rattle.gh_model.specs.declared.state.State.{State}

-- the state, the history, the indices and the CPUs are the same
pub record IsLike (conf other : Config) : Type 0 where
  pub boot : conf.boot ≡ other.boot
  pub history : conf.history ≡ other.history
  pub index : (n : ℕ) → conf.index n ≡ other.index n
  pub cpu : (n : ℕ) → conf.cpu n ≡ other.cpu n

pub like_self : (conf : Config) → IsLike conf conf
like_self conf = record { boot = refl; history = refl; index = λ n. refl; cpu = λ n. refl }

pub like_then : (conf other third : Config) → IsLike conf other → IsLike other third → IsLike conf third
like_then conf other third first second = record {
  boot = first.boot ∙ second.boot;
  history = first.history ∙ second.history;
  index = λ n. first.index n ∙ second.index n;
  cpu = λ n. first.cpu n ∙ second.cpu n;
}

-- the progress stands for one as for the other
pub stands_like : (progress : Progress) (conf other : Config) → IsLike conf other → Stands progress conf → Stands progress other
stands_like progress conf other like stands =
    let same : present conf ≡ present other =
    ap (λ (boot : State). replay boot conf.history) like.boot ∙ ap (λ (events : List Event). replay other.boot events) like.history in
    record {
      state = stands.state ∙ same;
      entries = stands.entries ∙ ap (map entry_of) like.history;
      places = λ serial some made.
          stands.places serial some (subst (λ (s : State). serial < s.next_serial) (sym same) made) ∙ ap Some (like.index serial);
      all_placed = stands.all_placed ∙ ap (λ (s : State). s.next_serial) same;
      noted = λ serial some made.
          stands.noted serial some (subst (λ (s : State). serial < s.next_serial) (sym same) made)
          ∙ ap (λ (boot : State). Some (places_behind boot (boot_place boot) conf.history serial)) like.boot
          ∙ ap (λ (events : List Event). Some (places_behind other.boot (boot_place other.boot) events serial)) like.history;
      all_noted = stands.all_noted ∙ ap (λ (s : State). s.next_serial) same;
      nine_seats = stands.nine_seats;
      nine_calls = stands.nine_calls;
      seats = λ at seat call is is_call.
          subst (λ (boot : State). SeatStands at (cspace_of boot at) progress.marks seat call (other.cpu at)) like.boot
          (subst (SeatStands at (cspace_of conf.boot at) progress.marks seat call) (like.cpu at) (stands.seats at seat call is is_call));
    }

-- pins that are dropped

-- a CPU without pins
abbrev pub unpinned_cpu : Config → ℕ → Config
unpinned_cpu conf at = record conf { cpu = put conf.cpu at (record (conf.cpu at) { pins = [] }) }

by_cpu : (at n : ℕ) (f g : ℕ → Cpu) → ((n == at) ≡ true → f n ≡ g n) → ((n == at) ≡ false → f n ≡ g n) → f n ≡ g n
by_cpu at n f g here there = elim (cases_Bool (n == at)) as (λ _. f n ≡ g n) [ inl same ↦ here same | inr differs ↦ there differs ]

put_same : (f g : ℕ → Cpu) (at : ℕ) → f at ≡ g at → (n : ℕ) → ((n == at) ≡ false → f n ≡ g n) → f n ≡ g n
put_same f g at is n others =
    by_cpu at n f g (λ same. ap f (eqb-true n at same) ∙ is ∙ ap g (sym (eqb-true n at same))) others

unpins_like_by : (conf : Config) (at : ℕ) (pins : List Pin) → (conf.cpu at).pins ≡ pins
    → IsLike (unpinned_cpu conf at) (after_all conf (map (unpin at) pins))
unpins_like_by conf at [] none = record {
  boot = refl;
  history = refl;
  index = λ n. refl;
  cpu = λ n. put_same (unpinned_cpu conf at).cpu conf.cpu at
      (put_here conf.cpu at _ ∙ ap (λ (pins : List Pin). record (conf.cpu at) { pins = pins }) (sym none)) n
      (λ differs. put_other conf.cpu at _ n differs);
}
unpins_like_by conf at (pin ∷ pins) held =
    like_then (unpinned_cpu conf at) (unpinned_cpu (unpinned conf at pin.index) at) (after_all conf (map (unpin at) (pin ∷ pins)))
    (record {
      boot = refl;
      history = refl;
      index = λ n. refl;
      cpu = λ n. put_same (unpinned_cpu conf at).cpu (unpinned_cpu (unpinned conf at pin.index) at).cpu at
          (put_here conf.cpu at _
          ∙ sym (put_here (unpinned conf at pin.index).cpu at _ ∙ ap (λ (cpu : Cpu). record cpu { pins = [] }) (put_here conf.cpu at _)))
          n
          (λ differs. put_other conf.cpu at _ n differs ∙ sym (put_other (unpinned conf at pin.index).cpu at _ n differs ∙ put_other conf.cpu at _ n differs));
    })
    (unpins_like_by (unpinned conf at pin.index) at pins
    (ap (λ (cpu : Cpu). cpu.pins) (put_here conf.cpu at _) ∙ ap (without_pin pin.index) held ∙ first (same_number pin.index)))
  where
    first : (pin.index == pin.index) ≡ true → without_pin pin.index (pin ∷ pins) ≡ pins
    first same = rw same refl

pub unpins_like : (conf : Config) (at : ℕ) → IsLike (unpinned_cpu conf at) (after_all conf (unpins at conf))
unfolding unpins
unpins_like conf at = unpins_like_by conf at (conf.cpu at).pins refl
