-- The states of boot files have few objects and partitions, and so small sums of units.
use Rattle.std.proofs.Common.{◌≡◌, ◌+◌, ◌≤◌, List, [], ◌∷◌, IsTrue, All, fold, subst, sym, arith}
use Rattle.std.proofs.lemmas.List.{append-nil}
use Rattle.std.proofs.lemmas.List.Elements.{All-nil, All-push}
use Rattle.gh_base.specs.declared.kind.Kind.TheVariants as kind
use Rattle.gh_base.specs.declared.limits.TheConstants.{OBJECT_INDICES, PARTITION_UNITS}
use Rattle.gh_model.specs.declared.boot_line.BootLine.{BootLine}
use Rattle.gh_model.specs.declared.boot_line.BootLine.TheVariants.{Pages, Partition, Cspace, Addrspace, Doorbell, RootExtent, Extent, Msgqueue, Map, Cap, Vm, Rm, Link}
use Rattle.gh_model.specs.declared.state.State.{State}
use Rattle.gh_model.specs.Boot.{after_line, boot_fits, boot_object, boot_state, empty_state, is_complete, line_fits, lines_fit, queue_cost, serial_of}
use Rattle.gh_model.specs.Fitting.{IsFitting}
use Rattle.gh_model.specs.Small.{HasCost, IsKept, IsSmall, IsSmallQuota}
use Rattle.gh_model.proofs.BootLemmas.{boot_rings}
use Rattle.gh_model.proofs.FittingLemmas.{boot_fitting, few_objects, few_serials, queue_some}
use Rattle.gh_model.proofs.Tests.{and-first, and-second, at_most}

-- behind lines that fit sums and pages are small
fitting_small : (s : State) → IsFitting s → IsSmall s
fitting_small s h = record {
  used = λ p. omega (arith, h.objects.used p, few_objects s h);
  given = λ p. omega (arith, h.objects.given p, h.objects.few);
  pages = omega (arith, h.pages);
}

-- quotas are small, and objects cost units
record AreUnits (s : State) : Type 0 where
  quotas : All IsSmallQuota s.partitions
  costs : All HasCost s.objects

line_units : (s : State) (line : BootLine) → IsTrue (line_fits s line) → AreUnits s → AreUnits (after_line s line)
line_units s (Pages count) fits h = record { quotas = h.quotas; costs = h.costs }
line_units s (Partition quota) fits h = record {
  quotas = All-push IsSmallQuota s.partitions (record { serial = serial_of s.next_serial; parent = serial_of 0; quota = quota }) h.quotas (at_most quota PARTITION_UNITS (and-second _ _ (and-first _ _ fits)));
  costs = All-push HasCost s.objects (boot_object s kind.Partition s.next_serial 1) h.costs (omega arith);
}
line_units s (Cspace partition) fits h = record { quotas = rw append-nil h.quotas; costs = All-push HasCost s.objects (boot_object s kind.Cspace partition.0 4) h.costs (omega arith) }
line_units s (Addrspace partition) fits h = record { quotas = rw append-nil h.quotas; costs = All-push HasCost s.objects (boot_object s kind.Space partition.0 4) h.costs (omega arith) }
line_units s (Doorbell partition) fits h = record { quotas = rw append-nil h.quotas; costs = All-push HasCost s.objects (boot_object s kind.Bell partition.0 1) h.costs (omega arith) }
line_units s (RootExtent partition) fits h = record { quotas = rw append-nil h.quotas; costs = All-push HasCost s.objects (boot_object s kind.Extent partition.0 1) h.costs (omega arith) }
line_units s (Extent partition parent offset count access held_offset held_count) fits h = record { quotas = rw append-nil h.quotas; costs = All-push HasCost s.objects (boot_object s kind.Extent partition.0 1) h.costs (omega arith) }
line_units s (Msgqueue partition depth size) fits h = record { quotas = rw append-nil h.quotas; costs = All-push HasCost s.objects (boot_object s kind.Queue partition.0 (queue_cost depth size)) h.costs (queue_some depth size) }
line_units s (Map space extent base offset count access) fits h = record { quotas = h.quotas; costs = h.costs }
line_units s (Cap cspace slot object rights master) fits h = record { quotas = h.quotas; costs = h.costs }
line_units s (Vm cspace space) fits h = record { quotas = h.quotas; costs = h.costs }
line_units s (Rm cspace space partition) fits h = record { quotas = h.quotas; costs = h.costs }
line_units s (Link vm extent request reply) fits h = record { quotas = h.quotas; costs = h.costs }

lines_units : (s : State) (lines : List BootLine) → IsTrue (lines_fit s lines) → AreUnits s → AreUnits (fold after_line s lines)
lines_units s [] fit h = h
lines_units s (line ∷ lines) fit h =
    lines_units (after_line s line) lines (and-second (line_fits s line) (lines_fit (after_line s line) lines) fit)
    (line_units s line (and-first (line_fits s line) (lines_fit (after_line s line) lines) fit) h)

boot_units : (lines : List BootLine) → IsTrue (boot_fits lines) → AreUnits (boot_state lines)
boot_units [] fit = absurd (let never : ⊥ = cc in never)
boot_units (Pages count ∷ lines) fit =
    let both = and-first _ (is_complete (fold after_line (after_line empty_state (Pages count)) lines)) fit in
    lines_units (after_line empty_state (Pages count)) lines (and-second _ (lines_fit (after_line empty_state (Pages count)) lines) both) (record { quotas = All-nil IsSmallQuota; costs = All-nil HasCost })
boot_units (_ ∷ lines) fit = absurd (let never : ⊥ = cc in never)

pub boot_kept : (s : State) (lines : List BootLine) → s ≡ boot_state lines → IsTrue (boot_fits lines) → IsKept s
boot_kept s lines is fit = record {
  small = subst (λ (t : State). IsSmall t) (sym is) (fitting_small (boot_state lines) (boot_fitting lines fit));
  quotas = subst (λ (t : State). All IsSmallQuota t.partitions) (sym is) (boot_units lines fit).quotas;
  costs = subst (λ (t : State). All HasCost t.objects) (sym is) (boot_units lines fit).costs;
  rings = boot_rings s lines is;
  serials = subst (λ (t : State). t.next_serial ≤ t.entries + OBJECT_INDICES + 1) (sym is) (omega (arith, few_serials (boot_state lines) (boot_fitting lines fit)));
}
