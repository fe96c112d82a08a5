use Rattle.pv_model.specs.Calls.Processes.{descriptor_after_exec}
use Rattle.pv_files.specs.DescriptorSlots.{slot_descriptor}
use Rattle.pv_files.proofs.ViewedMaps.{seen_further}
use Rattle.pv_files.proofs.descriptors.close_marked.Goals as goal

pub loop-k-preserved : goal.loop-k-preserved
loop-k-preserved c =
    seen_further slot_descriptor descriptor_after_exec c.args.slots.now c.loop-k.slots c.loop-k.k c.unless_marked.result c.loop-k-test.true c.loop-k.invariant c.unless_marked.ensures
