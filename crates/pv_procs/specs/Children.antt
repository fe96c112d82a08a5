-- The slot of a child.
use Rattle.std.specs.Prelude.{ℕ, pos, slice_set, None}
use Rattle.pv_procs.specs.declared.slot.ProcessSlot.{ProcessSlot}

-- a copy of the parent's slot with a new number; fork returns 0 in it
abbrev pub child_slot : ℕ → ProcessSlot → ProcessSlot
child_slot number parent = record {
  number = number;
  parent = parent.number;
  status = None;
  program = parent.program;
  «record» = record parent.record {
    context = record parent.record.context { registers = slice_set (slice_set parent.record.context.registers 0 (pos 0)) 1 (pos 0) };
  };
}
