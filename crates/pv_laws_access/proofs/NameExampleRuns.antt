-- The tables of three worked runs, by computation.
use Rattle.std.proofs.Common.{ℕ, zero, suc, None, Some, refl}
use Rattle.std.specs.Prelude.{codes}
use Rattle.pv_model.specs.declared.place.Place.TheVariants.{At}
use Rattle.pv_model.specs.Machine.{machine_on_literals, Process, process_at, Table, permissions_at}
use Rattle.pv_laws_access.specs.Moves.{gives_any}
use Rattle.pv_laws_access.specs.NameExamples.{state_after_steps, shut, renaming_readable, linking_readable, entries_of_process, MoveExamples}
use Rattle.std.proofs.Common.{◌≡◌, false}
use Rattle.pv_laws_states.proofs.ExampleStates.{or_first}

abbrev mover : Process
mover = or_first (process_at (state_after_steps renaming_readable 5) 1)

abbrev linker : Process
linker = or_first (process_at (state_after_steps linking_readable 5) 1)

abbrev first : Process
first = or_first (process_at (state_after_steps shut 3) 1)

abbrev its_table : Table
its_table = entries_of_process (process_at (state_after_steps shut 3) 1)

none-given : (k : ℕ) → gives_any (permissions_at its_table k) ≡ false
unfolding machine_on_literals
none-given zero = refl
none-given (suc k) = refl

pub moves-happen : MoveExamples
unfolding machine_on_literals
moves-happen = record {
  process = first;
  table = its_table;
  there = refl;
  in_force = refl;
  locked = refl;
  file = refl;
  named = refl;
  nothing = λ d name k found governs. none-given k;
  before = refl;
  not_read = refl;
  renamed = record {
    me = mover;
    path = codes "/f";
    new = codes "/d/f";
    from = At 1 (codes "f") (Some 2);
    into = At 3 (codes "f") None;
    made = record { at = refl; next_is = refl; held = refl };
    leads_from = (refl, refl);
    leads_into = (refl, refl);
    node = refl;
    named = refl;
    succeeds = refl;
  };
  following = refl;
  read = refl;
  unlinked = refl;
  not_written = refl;
  linked = record {
    me = linker;
    path = codes "/f";
    new = codes "/d/f";
    from = At 1 (codes "f") (Some 2);
    into = At 3 (codes "f") None;
    made = record { at = refl; next_is = refl; held = refl };
    leads_from = (refl, refl);
    leads_into = (refl, refl);
    node = refl;
    plain = refl;
    named = refl;
    succeeds = refl;
  };
  beside = refl;
  written = refl;
}
