-- What holds the objects that nobody refers to, one row after another.
use Rattle.std.proofs.Common.{◌≡◌, ◌+◌, ◌-◌, ◌<◌, ◌≤◌, ◌∙◌, ℕ, suc, Bool, true, false, List, [], ◌∷◌, ◌++◌, drop, filter, length, refl, sym, ap, arith, Option, Some, None, is_some, slice_get, if◌then◌else◌}
use Rattle.std.specs.Prelude.{◌&&◌, ◌||◌, IfOk, Result, Ok, Err, flat_map, get_or}
use Rattle.std.proofs.lemmas.Option.{slice_get-get_or}
use Rattle.gh_base.specs.Counters.{is_odd}
use Rattle.gh_base.specs.declared.mark.Held.{Held}
use Rattle.gh_base.specs.declared.mark.Held.TheVariants as held
use Rattle.gh_events.specs.Config.{Config, present}
use Rattle.gh_events.specs.Sound.{IsSound}
use Rattle.gh_events.specs.TurnEvents.{as_list, first_reader, is_scan}
use Rattle.gh_items.specs.Swept.{AreMade, cause_now}
use Rattle.gh_items.proofs.IndexLemmas.{row_lives}
use Rattle.gh_items.proofs.PartLemmas.{drop_at}
use Rattle.gh_model.specs.Held.{is_held}
use Rattle.gh_model.specs.References.{is_doomed}
use Rattle.gh_model.specs.declared.rows.ObjectRow.{ObjectRow}
use Rattle.gh_model.specs.declared.state.State.{State}
use Rattle.gh_schedules.specs.Causes.{causes_now, count_of, counters_now, held_by}

-- the value of an answer, by way of something else
pub if_value : {T E : Type 0} (P Q : T → Type 0) (result : Result T E) → ((value : T) → P value → Q value) → IfOk result P → IfOk result Q
if_value P Q (Ok value) follows is = follows value is
if_value P Q (Err error) follows is = is

-- the first reader from the CPU before

reader_at : (now seen : List ℕ) (at : ℕ) (first : Option (ℕ × ℕ)) → at < length now → at < length seen
    → first ≡ first_reader (slice_get now) (at + 1) (drop (at + 1) seen)
    → (if is_odd (get_or seen at 0) && is_scan (get_or seen at 0) (Some (get_or now at 0)) then Some (at, get_or seen at 0) else first)
    ≡ first_reader (slice_get now) at (drop at seen)
reader_at now seen at first within also is =
    let rest : drop at seen ≡ get_or seen at 0 ∷ drop (suc at) seen = drop_at seen at (get_or seen at 0) (slice_get-get_or seen at 0 also) in
    let behind : suc at ≡ at + 1 = omega arith in
    sym (ap (first_reader (slice_get now) at) rest
    ∙ ap (λ (scan : Option ℕ). if is_odd (get_or seen at 0) && is_scan (get_or seen at 0) scan then Some (at, get_or seen at 0) else first_reader (slice_get now) (at + 1) (drop (suc at) seen))
    (slice_get-get_or now at 0 within)
    ∙ ap (λ (others : Option (ℕ × ℕ)). if is_odd (get_or seen at 0) && is_scan (get_or seen at 0) (Some (get_or now at 0)) then Some (at, get_or seen at 0) else others)
    (ap (λ (n : ℕ). first_reader (slice_get now) (at + 1) (drop n seen)) behind ∙ sym is))

pub reader_before : (now seen : List ℕ) (at : ℕ) (first : Option (ℕ × ℕ)) → 0 < at → at ≤ length now → at ≤ length seen
    → first ≡ first_reader (slice_get now) at (drop at seen)
    → (if is_odd (get_or seen (at - 1) 0) && is_scan (get_or seen (at - 1) 0) (Some (get_or now (at - 1) 0)) then Some (at - 1, get_or seen (at - 1) 0) else first)
    ≡ first_reader (slice_get now) (at - 1) (drop (at - 1) seen)
reader_before now seen at first some within also is =
    let same : at ≡ at - 1 + 1 = omega (arith, some) in
    reader_at now seen (at - 1) first (omega (arith, some, within)) (omega (arith, some, also))
    (is ∙ ap (λ (n : ℕ). first_reader (slice_get now) n (drop n seen)) same)

-- one object

module _ (conf : Config) (row : ObjectRow) where
  -- one that isn't retired is held by its pins
  pub pins_hold : (pins : ℕ) → row.retired ≡ None → is_held (present conf) row ≡ true
      → (is_doomed (present conf) row.serial.0 ≡ true → pins ≡ conf.count (conf.index row.serial.0))
      → Some (held.Pins row.serial pins) ≡ held_by (counters_now conf) (count_of conf row.serial.0) row row.retired
  pins_hold pins is nobody counted =
      let doomed : is_doomed (present conf) row.serial.0 ≡ true = sym (ap (λ (kept : Option (List ℕ)). is_some kept || is_doomed (present conf) row.serial.0) is) ∙ nobody in
      ap (λ (n : ℕ). Some (held.Pins row.serial n)) (counted doomed)
      ∙ sym (ap (held_by (counters_now conf) (count_of conf row.serial.0) row) is)

-- all rows

module _ (conf : Config) where
  -- what holds an object, and what holds it where something does
  abbrev listed : ObjectRow → List Held
  listed row = as_list (held_by (counters_now conf) (count_of conf row.serial.0) row row.retired)

  abbrev caused : ObjectRow → List Held
  caused row = as_list (cause_now conf row)

  -- those that aren't held have no cause
  all_causes : (rows : List ObjectRow) → flat_map caused rows ≡ flat_map listed (filter (is_held (present conf)) rows)
  all_causes [] = refl
  all_causes (row ∷ rows) = by_held (is_held (present conf) row) (all_causes rows)
    where
      by_held : (here : Bool) → flat_map caused rows ≡ flat_map listed (filter (is_held (present conf)) rows)
          → as_list (if here then held_by (counters_now conf) (count_of conf row.serial.0) row row.retired else None) ++ flat_map caused rows
          ≡ flat_map listed (if here then row ∷ filter (is_held (present conf)) rows else filter (is_held (present conf)) rows)
      by_held true rest = ap (λ (others : List Held). listed row ++ others) rest
      by_held false rest = rest

  pub causes_are : flat_map (λ (row : ObjectRow). as_list (cause_now conf row)) (present conf).objects ≡ causes_now conf
  causes_are = all_causes (present conf).objects

-- the rows of the state

pub are_made : (state : State) (conf : Config) → state ≡ present conf → (rows : List ObjectRow) → rows ≡ state.objects
    → IsSound conf → AreMade conf rows
are_made state conf same rows listed sound i row is =
    row_lives (present conf) sound.valid.valid i row (sym (ap (λ (list : List ObjectRow). slice_get list i) (listed ∙ ap (λ (s : State). s.objects) same)) ∙ is)
