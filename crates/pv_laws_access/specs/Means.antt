-- The possible changes and gains of the steps of a pledged process: pledge(2).
use Rattle.std.specs.Prelude.{◌≡◌, ℕ, IsTrue, [], ◌∷◌, Option, Some}
use Rattle.pv_model.specs.declared.open_flags.Mode.{Mode}
use Rattle.pv_model.specs.declared.promise.Promise.TheVariants.{Rpath, Wpath, Cpath}
use Rattle.pv_model.specs.Machine.{Bytes, Program, Process, State, reads, writes, process_at, step, gain_descriptor, Touches, find_entry}
use Rattle.pv_model.specs.Sealed.{is_pledged_without}
use Rattle.pv_laws_states.specs.States.{IsValid}

-- without cpath, no entry changes
abbrev pub WithoutCpath : Type 0
WithoutCpath =
    (program_of : Bytes → Option Program) (s : State) (pid : ℕ) (p : Process) (d : ℕ) (name : Bytes) → IsValid s → process_at s pid ≡ Some p
    → IsTrue (is_pledged_without (Cpath ∷ []) p) → find_entry (step program_of s pid).after.tree d name ≡ find_entry s.tree d name

-- without wpath, no descriptor for writing is gained
abbrev pub WithoutWpath : Type 0
WithoutWpath =
    (program_of : Bytes → Option Program) (s : State) (pid : ℕ) (p : Process) (n : ℕ) (mode : Mode) → IsValid s → process_at s pid ≡ Some p
    → IsTrue (is_pledged_without (Wpath ∷ []) p) → IsTrue (writes mode) → ¬ Touches program_of s pid (gain_descriptor n mode)

-- without rpath, no descriptor for reading is gained
abbrev pub WithoutRpath : Type 0
WithoutRpath =
    (program_of : Bytes → Option Program) (s : State) (pid : ℕ) (p : Process) (n : ℕ) (mode : Mode) → IsValid s → process_at s pid ≡ Some p
    → IsTrue (is_pledged_without (Rpath ∷ []) p) → IsTrue (reads mode) → ¬ Touches program_of s pid (gain_descriptor n mode)
