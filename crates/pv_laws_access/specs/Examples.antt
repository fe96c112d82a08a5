-- A run whose steps make a touch of each kind. It shows that the laws of touches are not vacuous.
use Rattle.std.specs.Prelude.{ℕ, false, List, [], ◌∷◌, codes, pos}
use Rattle.pv_model.specs.declared.instruction.Instruction.TheVariants.{Open, Read, Write, Stat, Mkdir}
use Rattle.pv_model.specs.declared.instruction.Operand.TheVariants.{Number}
use Rattle.pv_model.specs.declared.open_flags.Mode.TheVariants.{ReadWrite}
use Rattle.pv_model.specs.Machine.{make, manifest_tree, Program, State, first_state, run, read_file, change_file, report_node, gain_descriptor, Touches, Tree, root, file_node}
use Rattle.pv_model.specs.Touch.{change_entry}
use Rattle.pv_laws_states.specs.ExampleStates.{no_programs, flags}

-- node 2 is the file
abbrev pub tree_with_file : Tree
tree_with_file = manifest_tree 14 16 (make (codes "/motd") (file_node false (codes "hello")) ∷ [])

abbrev pub touching : Program
touching =
    Stat (codes "/motd") ∷
    Mkdir (codes "/d") ∷
    Open (codes "/motd") (flags ReadWrite false) ∷
    Read (Number (pos 0)) (Number (pos 5)) ∷
    Write (Number (pos 0)) (Number (pos 5)) ∷ []

abbrev pub state_after_touches : List ℕ → State
state_after_touches pids = (run no_programs pids (first_state tree_with_file touching)).final

-- one touch for each step
pub record EachKindExamples : Type 0 where
  pub report : Touches no_programs (state_after_touches []) 1 (report_node 2)
  pub entry : Touches no_programs (state_after_touches (1 ∷ [])) 1 (change_entry root (codes "d"))
  pub gain : Touches no_programs (state_after_touches (1 ∷ 1 ∷ [])) 1 (gain_descriptor 2 ReadWrite)
  pub read : Touches no_programs (state_after_touches (1 ∷ 1 ∷ 1 ∷ [])) 1 (read_file 2)
  pub change : Touches no_programs (state_after_touches (1 ∷ 1 ∷ 1 ∷ 1 ∷ [])) 1 (change_file 2)
