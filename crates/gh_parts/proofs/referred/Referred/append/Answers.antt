-- There is room for what is left to name.
use Rattle.std.proofs.Common.{◌≡◌, ap, arith, drop, length, length-append, length-drop}
use Rattle.gh_parts.proofs.referred.Referred.append.Goals as goal

pub push-requires : goal.push-requires
push-requires c =
    let objects = c.as_slice-objects.result.now in
    let named : length objects ≡ length c.args.more.now = ap length c.as_slice-objects.ensures.objects in
    omega (
      arith,
      c.requires,
      named,
      c.loop-object-test.true,
      ap length c.loop-object.invariant,
      length-append c.loop-object.self (drop c.loop-object.object-index objects),
      length-append c.args.self.now objects,
      length-drop c.loop-object.object-index objects,
    )
