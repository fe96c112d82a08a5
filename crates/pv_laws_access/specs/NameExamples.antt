-- A process whose locked table grants nothing at a file, a rename that brings a permission to a file, and a link that
-- does. They show that the laws of moves are not vacuous.
use Rattle.std.specs.Prelude.{◌≡◌, ℕ, false, true, IsTrue, [], ◌∷◌, codes, replicate, Option, None, Some}
use Rattle.pv_model.specs.declared.instruction.Instruction.TheVariants.{Open, Mkdir, Unveil, Link, Rename}
use Rattle.pv_model.specs.declared.place.Place.TheVariants.{At}
use Rattle.pv_model.specs.Machine.{is_file, Program, Process, State, process_at, root, node_at, find_entry, Table, permissions_at, governing_entry, entries_of_table}
use Rattle.pv_laws_states.specs.ExampleStates.{no_programs, making, state_after}
use Rattle.pv_laws_access.specs.Moves.{IsRenamedTo, IsLinkedTo, GivesNothing}

abbrev pub state_after_steps : Program → ℕ → State
state_after_steps program steps = state_after program (replicate steps 1)

-- a file, which is node 2, and a table that grants nothing below the root
abbrev pub shut : Program
shut = Open (codes "/f") making ∷ Unveil (Some (codes "/")) (Some []) ∷ Unveil None None ∷ []

-- a file, a directory, which is node 3, and a table that allows moving the file into the directory, where it may be
-- read
abbrev pub renaming_readable : Program
renaming_readable =
    Open (codes "/f") making
    ∷ Mkdir (codes "/d")
    ∷ Unveil (Some (codes "/d")) (Some (codes "rc"))
    ∷ Unveil (Some (codes "/f")) (Some (codes "c"))
    ∷ Unveil None None
    ∷ Rename (codes "/f") (codes "/d/f")
    ∷ []

-- a file, a directory, and a table that allows reading the file and linking it into the directory, where it may be
-- written
abbrev pub linking_readable : Program
linking_readable =
    Open (codes "/f") making
    ∷ Mkdir (codes "/d")
    ∷ Unveil (Some (codes "/d")) (Some (codes "wc"))
    ∷ Unveil (Some (codes "/f")) (Some (codes "r"))
    ∷ Unveil None None
    ∷ Link (codes "/f") (codes "/d/f")
    ∷ []

abbrev pub entries_of_process : Option Process → Table
entries_of_process None = []
entries_of_process (Some p) = entries_of_table p.table

pub record MoveExamples : Type 0 where
  pub process : Process
  pub table : Table
  pub there : process_at (state_after_steps shut 3) 1 ≡ Some process
  pub in_force : process.table ≡ Some table
  pub locked : IsTrue process.locked
  pub file : IsTrue (is_file (node_at (state_after_steps shut 3).tree 2))
  pub named : find_entry (state_after_steps shut 3).tree root (codes "f") ≡ Some 2
  pub nothing : GivesNothing (state_after_steps shut 3).tree table 2
  -- the rename: before it, entry 1 governs the file's name, without r; after it, entry 0 governs its name, with r
  pub before : governing_entry (state_after_steps renaming_readable 5).tree (entries_of_process (process_at (state_after_steps renaming_readable 5) 1)) (At root (codes "f") (Some 2)) ≡ Some 1
  pub not_read : (permissions_at (entries_of_process (process_at (state_after_steps renaming_readable 5) 1)) 1).r ≡ false
  pub renamed : IsRenamedTo no_programs (state_after_steps renaming_readable 5) 1 2 3 (codes "f")
  pub following : governing_entry (state_after_steps renaming_readable 6).tree (entries_of_process (process_at (state_after_steps renaming_readable 6) 1)) (At 3 (codes "f") (Some 2)) ≡ Some 0
  pub read : (permissions_at (entries_of_process (process_at (state_after_steps renaming_readable 6) 1)) 0).r ≡ true
  -- the link: before it, entry 1 governs the file's only name, without w; after it, entry 0 governs the other name,
  -- with w
  pub unlinked : governing_entry (state_after_steps linking_readable 5).tree (entries_of_process (process_at (state_after_steps linking_readable 5) 1)) (At root (codes "f") (Some 2)) ≡ Some 1
  pub not_written : (permissions_at (entries_of_process (process_at (state_after_steps linking_readable 5) 1)) 1).w ≡ false
  pub linked : IsLinkedTo no_programs (state_after_steps linking_readable 5) 1 2 3 (codes "f")
  pub beside : governing_entry (state_after_steps linking_readable 6).tree (entries_of_process (process_at (state_after_steps linking_readable 6) 1)) (At 3 (codes "f") (Some 2)) ≡ Some 0
  pub written : (permissions_at (entries_of_process (process_at (state_after_steps linking_readable 6) 1)) 0).w ≡ true
