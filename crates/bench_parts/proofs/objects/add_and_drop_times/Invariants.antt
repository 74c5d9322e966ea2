use Rattle.bench_parts.specs.References.{HasReferences}
use Rattle.bench_parts.proofs.objects.add_and_drop_times.Given as goal

abbrev pub invariant-loop-turn : goal.invariant-loop-turn
invariant-loop-turn l = HasReferences l.objects l.index.0 1
