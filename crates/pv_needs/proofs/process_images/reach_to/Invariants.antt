use Rattle.std.proofs.Common.{◌≡◌, ◌≤◌, ◌+◌, ◌-◌, ℕ, length}
use Rattle.pv_needs.specs.ProcessImages.{process_images_at}
use Rattle.pv_needs.proofs.process_images.reach_to.Given as goal

abbrev pub invariant-loop-alloc : goal.invariant-loop-alloc
invariant-loop-alloc l = record {
  same : (pid : ℕ) → process_images_at l.processes.items pid ≡ process_images_at l.initial.processes.items pid;
  few : length l.initial.processes.items ≤ 4294967296 → length l.processes.items ≤ 4294967296;
}

abbrev pub decreases-loop-alloc : goal.decreases-loop-alloc
decreases-loop-alloc l = l.index + 1 - length l.processes.items
