-- The texts of `access`, `policy` and `exposure` by the reduced search, of one state. It visits 16 of 20 states.
use Rattle.std.specs.Prelude.{◌≡◌, true, IsTrue, List, [], ◌∷◌, ◌++◌, flat_map, codes, length, pos}
use Rattle.pv_model.specs.declared.instruction.Instruction.TheVariants.{Set, Fork, Mkdir, Open}
use Rattle.pv_model.specs.declared.open_flags.Mode.TheVariants.{ReadWrite}
use Rattle.pv_model.specs.Machine.{AnswerLine, states_found, is_complete, answer_bytes, Bytes, State}
use Rattle.pv_model_questions.specs.Exposure.{exposed_lines}
use Rattle.pv_laws_states.specs.ExampleStates.{no_programs, state_after, flags}
use Rattle.pv_laws_classes.specs.Reduced.{reduced_found, is_reduced_complete}
use Rattle.pv_laws_classes.specs.ReducedAnswers.{classes_done_line, reduced_access_lines, reduced_policy_lines}

-- a process has an empty file open; it forks, and both processes set a register and make the same directory
abbrev pub file_open : State
file_open = state_after (Open (codes "/x") (flags ReadWrite true) ∷ Fork ∷ Set 1 (pos 5) ∷ Mkdir (codes "/d") ∷ []) (1 ∷ [])

-- lines, each with the byte that ends it
abbrev pub joined_lines : List Bytes → Bytes
joined_lines lines = flat_map (λ l. l ++ 10 ∷ []) lines

abbrev pub reduced_access_text : Bytes
reduced_access_text =
    joined_lines (
    codes "    1 BY    1 3"
    ∷ codes "    1 NAME  \"/d\""
    ∷ codes "    2 BY    1 1, 2 2"
    ∷ codes "    2 NAME  \"/d\""
    ∷ codes "    0 UNRD  \"/x\""
    ∷ codes "    0 DONE  16 classes, complete"
    ∷ []
    )

abbrev pub reduced_policy_text : Bytes
reduced_policy_text =
    joined_lines (
    codes "    0 PROG  1, no file"
    ∷ codes "    1 BY    1 3"
    ∷ codes "    1 PLDG  cpath, line 4"
    ∷ codes "    1 BY    1 1"
    ∷ codes "    1 PLDG  proc, line 2"
    ∷ codes "    1 BY    1 3"
    ∷ codes "    1 UNVL  ---c, \"/d\""
    ∷ codes "    2 BY    1 3, 2 2"
    ∷ codes "    2 UNVL  ---c, node 3 \"/d\""
    ∷ codes "    0 DONE  16 classes, complete"
    ∷ []
    )

abbrev pub exposed_now : List AnswerLine
exposed_now =
    exposed_lines no_programs file_open.tree (is_reduced_complete no_programs file_open 30) (reduced_found no_programs file_open 30)
    (classes_done_line no_programs 30 file_open)

abbrev pub reduced_exposure_text : Bytes
reduced_exposure_text =
    joined_lines (
    codes "    0 PROG  1, no file"
    ∷ codes "    1 BY    1 3"
    ∷ codes "    1 LEAK  \"/x\", lines 2-5, reads descriptor 0"
    ∷ codes "    1 BY    1 3"
    ∷ codes "    1 EDIT  \"/x\", lines 2-5, writes descriptor 0"
    ∷ codes "    0 DONE  16 classes, complete"
    ∷ []
    )

pub record ReducedTexts : Type 0 where
  pub complete : IsTrue (is_complete no_programs 30 file_open)
  pub states : length (states_found no_programs 30 file_open) ≡ 20
  pub access : answer_bytes (reduced_access_lines no_programs 30 file_open []) ≡ reduced_access_text
  pub policy : answer_bytes (reduced_policy_lines no_programs 30 file_open) ≡ reduced_policy_text
  pub exposure : answer_bytes exposed_now ≡ reduced_exposure_text
