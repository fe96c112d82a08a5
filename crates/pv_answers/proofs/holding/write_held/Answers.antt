use Rattle.std.specs.FinMap.Entries.{find}
use Rattle.std.specs.Ordering.{nat_cmp}
use Rattle.pv_answers.proofs.HeldLines.{held-are}
use Rattle.pv_streams.proofs.WriterContracts.{writes_as, writes_both, writes_failed, writes_longer}
use Rattle.pv_answers.proofs.holding.write_held.Goals as goal

pub returns-in_err-write_restraints : goal.returns-in_err-write_restraints
returns-in_err-write_restraints g c = writes_failed c.from_residual.ensures.0 (writes_as (held-are c.args.parts.now c.args.pid (find nat_cmp c.args.pid c.args.parts.now.processes) c.in-Some.owned.now c.in-Some.ensures) (writes_longer _ (writes_longer _ (writes_longer _ c.in_err-write_restraints.ensures))))

pub returns-in_err-write_entries : goal.returns-in_err-write_entries
returns-in_err-write_entries g c = writes_failed c.from_residual-in_err-write_entries.ensures.0 (writes_as (held-are c.args.parts.now c.args.pid (find nat_cmp c.args.pid c.args.parts.now.processes) c.in-Some.owned.now c.in-Some.ensures) (writes_longer _ (writes_longer _ (writes_both c.in_ok-write_restraints.ensures c.in_err-write_entries.ensures))))

pub returns-in_err-write_descriptors : goal.returns-in_err-write_descriptors
returns-in_err-write_descriptors g c = writes_failed c.from_residual-in_err-write_descriptors.ensures.0 (writes_as (held-are c.args.parts.now c.args.pid (find nat_cmp c.args.pid c.args.parts.now.processes) c.in-Some.owned.now c.in-Some.ensures) (writes_longer _ (writes_both (writes_both c.in_ok-write_restraints.ensures c.in_ok-write_entries.ensures) c.in_err-write_descriptors.ensures)))

pub returns : goal.returns
returns g c = writes_as (held-are c.args.parts.now c.args.pid (find nat_cmp c.args.pid c.args.parts.now.processes) c.in-Some.owned.now c.in-Some.ensures) (writes_both (writes_both (writes_both c.in_ok-write_restraints.ensures c.in_ok-write_entries.ensures) c.in_ok-write_descriptors.ensures) c.write_memory.ensures)
