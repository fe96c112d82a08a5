-- A worked search in which no step reads a file although it is exposed, and a path in its graph. They show that these
-- laws are not vacuous.
use Rattle.std.specs.Prelude.{◌≡◌, ℕ, false, IsTrue, IsFalse, List, [], ◌∷◌, ◌++◌, take, drop, codes, pos}
use Rattle.pv_model.specs.declared.instruction.Instruction.TheVariants.{Open, Read}
use Rattle.pv_model.specs.declared.instruction.Operand.TheVariants.{Number}
use Rattle.pv_model.specs.declared.open_flags.Mode.TheVariants.{Read as ForReading}
use Rattle.pv_model.specs.Machine.{is_complete, graph_lines, AnswerLine, answer_line, make, manifest_tree, Program, State, first_state, run, read_file, Touches, Tree, file_node}
use Rattle.pv_model.specs.Sealed.{is_sealed}
use Rattle.pv_laws_states.specs.ExampleStates.{no_programs, flags}
use Rattle.pv_laws_answers.specs.Graphs.{IsAlong}
use Rattle.pv_laws_answers.specs.Unread.{IsNeverRead}

-- node 2 is read, node 3 is not
abbrev pub two_text_files : Tree
two_text_files = manifest_tree 14 16 (make (codes "/motd") (file_node false (codes "hi")) ∷ make (codes "/secret") (file_node false (codes "k1")) ∷ [])

abbrev pub reading_first : Program
reading_first = Open (codes "/motd") (flags ForReading false) ∷ Read (Number (pos 0)) (Number (pos 2)) ∷ []

abbrev pub start : State
start = first_state two_text_files reading_first

-- there are four states; no step from them reads node 3, which is exposed in the first; but one reads node 2
pub record UnreadExamples : Type 0 where
  pub complete : IsTrue (is_complete no_programs 4 start)
  pub unread : IsNeverRead no_programs 4 start 3
  pub exposed : IsFalse (is_sealed start 3)
  pub read : Touches no_programs (run no_programs (1 ∷ []) start).final 1 (read_file 2)

abbrev line_of_all : List ℕ → List ℕ → AnswerLine
line_of_all word text = answer_line 0 word text

abbrev line_of_one : List ℕ → List ℕ → AnswerLine
line_of_one word text = answer_line 1 word text

abbrev pub graph : List AnswerLine
graph =
    line_of_all (codes "AT") (codes "0") ∷
    line_of_one (codes "PROC") (codes "live, parent 0, line 1 of 2") ∷
    line_of_one (codes "NEXT") (codes "open(\"/motd\", r)") ∷
    line_of_one (codes "CWD") (codes "node 1 \"/\"") ∷
    line_of_one (codes "PLDG") (codes "none") ∷
    line_of_one (codes "EXPR") (codes "none") ∷
    line_of_one (codes "UNVL") (codes "none") ∷
    line_of_one (codes "REGS") (codes "0 0 0 0 0 0 0 0") ∷
    line_of_one (codes "BUF") (codes "0") ∷
    line_of_one (codes "STEP") (codes "to 1") ∷
    line_of_one (codes "CALL") (codes "open(\"/motd\", r)") ∷
    line_of_one (codes "NAMI") (codes "\"/motd\"") ∷
    line_of_one (codes "RET") (codes "open 0") ∷
    line_of_all (codes "AT") (codes "1") ∷
    line_of_one (codes "PROC") (codes "live, parent 0, line 2 of 2") ∷
    line_of_one (codes "NEXT") (codes "read(0, 2)") ∷
    line_of_one (codes "CWD") (codes "node 1 \"/\"") ∷
    line_of_one (codes "PLDG") (codes "none") ∷
    line_of_one (codes "EXPR") (codes "none") ∷
    line_of_one (codes "UNVL") (codes "none") ∷
    line_of_one (codes "FD") (codes "0, file 0, r, offset 0, node 2 \"/motd\"") ∷
    line_of_one (codes "REGS") (codes "0 0 0 0 0 0 0 0") ∷
    line_of_one (codes "BUF") (codes "0") ∷
    line_of_one (codes "STEP") (codes "to 2") ∷
    line_of_one (codes "CALL") (codes "read(0, 2)") ∷
    line_of_one (codes "GIO") (codes "read 2 6869") ∷
    line_of_one (codes "TEXT") (codes "\"hi\", node 2 \"/motd\"") ∷
    line_of_one (codes "RET") (codes "read 2") ∷
    line_of_all (codes "AT") (codes "2") ∷
    line_of_one (codes "PROC") (codes "live, parent 0, line 3 of 2") ∷
    line_of_one (codes "NEXT") (codes "exit(0)") ∷
    line_of_one (codes "CWD") (codes "node 1 \"/\"") ∷
    line_of_one (codes "PLDG") (codes "none") ∷
    line_of_one (codes "EXPR") (codes "none") ∷
    line_of_one (codes "UNVL") (codes "none") ∷
    line_of_one (codes "FD") (codes "0, file 0, r, offset 2, node 2 \"/motd\"") ∷
    line_of_one (codes "REGS") (codes "2 0 0 0 0 0 0 0") ∷
    line_of_one (codes "BUF") (codes "2 6869") ∷
    line_of_one (codes "STEP") (codes "to 3") ∷
    line_of_one (codes "CALL") (codes "exit(0)") ∷
    line_of_all (codes "AT") (codes "3") ∷
    line_of_all (codes "DONE") (codes "4 states, complete") ∷ []

-- the graph has these lines, and two lines STEP lead from the first state to the third, with the lines of the open and
-- the read explained
pub record GraphExamples : Type 0 where
  pub lines : graph_lines no_programs 4 false start ≡ graph
  pub along : IsAlong graph (codes "0") (1 ∷ 1 ∷ []) (codes "2") (take 3 (drop 10 graph) ++ take 4 (drop 24 graph))
