use Rattle.std.proofs.Common.{◌≡◌, ◌++◌, map, take, drop}
use Rattle.pv_model.specs.Calls.Processes.{descriptor_after_exec}
use Rattle.pv_files.specs.DescriptorSlots.{descriptors_of}
use Rattle.pv_files.proofs.descriptors.close_marked.Given as goal

-- the elements so far
abbrev pub invariant-loop-k : goal.invariant-loop-k
invariant-loop-k l =
    descriptors_of l.slots ≡ map descriptor_after_exec (take l.k (descriptors_of l.initial.slots)) ++ drop l.k (descriptors_of l.initial.slots)
