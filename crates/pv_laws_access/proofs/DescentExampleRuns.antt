-- A process that is confined to its table, and its child, by computation.
use Rattle.std.proofs.Common.{[], ◌∷◌, refl, inl}
use Rattle.pv_model.specs.Machine.{machine_on_literals, Process, process_at, entries_of_table}
use Rattle.pv_laws_states.specs.ExampleStates.{state_after}
use Rattle.pv_laws_states.proofs.ExampleStates.{or_first}
use Rattle.pv_laws_access.specs.SandboxExamples.{DescentExamples, confined}

abbrev first : Process
first = or_first (process_at (state_after confined (1 ∷ 1 ∷ 1 ∷ [])) 1)

pub descent-happens : DescentExamples
unfolding machine_on_literals
descent-happens = record {
  table = entries_of_table first.table;
  parent = first;
  there = refl;
  held = record { in_force = refl; locked = refl; over_exec = inl (_, refl, refl) };
  child = (2, refl, refl, refl);
  lives = refl;
}
