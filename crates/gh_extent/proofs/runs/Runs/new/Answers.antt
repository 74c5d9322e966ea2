-- One run has all pages.
use Rattle.std.proofs.Common.{◌≡◌, ◌-◌, arith, refl}
use Rattle.std.proofs.lemmas.List.{append-nil, length-replicate}
use Rattle.gh_extent.specs.Runs.{Rising, spread}
use Rattle.gh_extent.proofs.runs.Runs.new.Goals as goal

pub invariant_of-result : goal.invariant_of-result
unfolding Rising spread
invariant_of-result c =
    let made = c.in_ok-push.ensures.items in
    let none = c.in_ok-runs.ensures.items in
    let all : c.args.pages - 0 ≡ c.args.pages = omega arith in
    record {
      rise = rw (made, none) (c.requires, tt);
      all = rw (made, none, append-nil, all) (length-replicate c.args.pages c.args.holder);
      room = omega (arith, c.in_ok-runs.ensures.exact, c.push.ensures.capacity);
    }

pub returns : goal.returns
unfolding spread
returns c =
    let all : c.args.pages - 0 ≡ c.args.pages = omega arith in
    rw (c.in_ok-push.ensures.items, c.in_ok-runs.ensures.items, append-nil, all) refl
