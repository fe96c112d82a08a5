use Rattle.std.proofs.Common.{◌≡◌, ◌∙◌, List, ap, ℕ, ℤ}
use Rattle.std.proofs.lemmas.Result.{on_ok_weaker}
use Rattle.std.specs.FinMap.Entries.{find}
use Rattle.std.specs.Ordering.{nat_cmp}
use Rattle.pv_laws_classes.specs.Canonical.{index_in}
use Rattle.pv_laws_classes.specs.Liveness.{cleared_buffer, cleared_registers, is_live_below}
use Rattle.pv_model.specs.Machine.{bytes_numbers, Bytes}
use Rattle.pv_reduced.specs.Live.{live_line}
use Rattle.pv_reduced.proofs.StateKeys.{live_under}
use Rattle.pv_state_encoding.specs.Groups.{parts_of}
use Rattle.pv_state_encoding.specs.Packed.{packed_all}
use Rattle.pv_state_encoding.proofs.ProcessNumbers.{parent-there}
use Rattle.pv_reduced.proofs.parts.push_live.Goals as goal

pub unreachable-requires : goal.unreachable-requires
unreachable-requires c = let there = parent-there (find nat_cmp c.args.pid c.args.processes.now.processes) c.requires in let is = there.1 in let none = c.in_default.ensures in cc

pub returns : goal.returns
returns c =
    let owned = c.record-owned.result.now in
    let program = c.program-program.result.now in
    let line = owned.context.line in
    let live_is : c.in_ok-live.live ≡ live_line program line = c.in_ok-live.ensures ∙ ap (λ (n : ℕ). live_line program n) c.line.ensures in
    let registers = c.live_registers-registers.ensures program line live_is ∙ ap (λ (rs : List ℤ). cleared_registers is_live_below program line rs) c.registers.ensures in
    let buffer = c.in_ok-part_of_buffer.ensures program line live_is ∙ ap (λ (bs : Bytes). packed_all (bytes_numbers (cleared_buffer is_live_below program line bs))) c.buffer.ensures.value in
    on_ok_weaker c.push_part-3.result
    (λ last. live_under (index_in c.args.order.now) (find nat_cmp c.args.pid c.args.processes.now.processes) c.args.pid c.in-Some.parent owned program c.live_registers-registers.result c.in_ok-part_held.field-0.items c.in_ok-part.part.items
    c.in_ok-part_of_buffer.field-0.items (parts_of c.args.parts.now) (parts_of c.push_part.new.parts) (parts_of c.push_part-2.new.parts) (parts_of c.push_part-3.new.parts)
    c.record-owned.ensures c.in-Some.ensures c.program-program.ensures registers c.in_ok-part_held.ensures c.in_ok-part.ensures buffer c.in_ok-push_part.ensures c.in_ok-push_part-2.ensures last)
    c.push_part-3.ensures
