-- A run after which one file is sealed and then changed, and another is frozen. It shows that the laws of secrecy are
-- not vacuous.
use Rattle.std.specs.Prelude.{◌≡◌, ℕ, true, false, IsFalse, List, [], ◌∷◌, flat_map, codes, pos, Some, None}
use Rattle.pv_model.specs.declared.instruction.Instruction.TheVariants.{Open, Read, Write, Unveil, Pledge}
use Rattle.pv_model.specs.declared.instruction.Operand.TheVariants.{Number}
use Rattle.pv_model.specs.declared.open_flags.Mode.TheVariants.{Read as ReadMode, Write as WriteMode}
use Rattle.pv_model.specs.Machine.{Bytes, with_line_end, program_of, make, manifest_tree, Program, State, first_state, run, file_bytes, Tree, directory_node, file_node}
use Rattle.pv_model.specs.Sealed.{is_sealed, is_frozen}
use Rattle.pv_laws_answers.specs.OfLawsStates.ExampleStates.{flags}
use Rattle.pv_laws_answers.specs.OfLawsAccess.Sealing.{IsSealedFile, IsFrozenFile}
use Rattle.pv_laws_runs.specs.Runs.{IsReachedFrom}

abbrev pub lines : List Bytes
lines =
    codes "open \"/secret\" w" ∷
    codes "unveil \"/pub\" \"r\"" ∷
    codes "unveil null null" ∷
    codes "pledge \"stdio rpath wpath\" null" ∷
    codes "open \"/pub/motd\" r" ∷
    codes "read 1 2" ∷
    codes "write 0 2" ∷ []

-- nodes 4 and 5 are hidden; the process has node 4 open for writing
abbrev pub manifest : Bytes
manifest =
    flat_map with_line_end (
    codes "image 64 64" ∷
    codes "dir \"/pub\"" ∷
    codes "bytes \"/pub/motd\" \"hi\"" ∷
    codes "bytes \"/secret\" \"k1\"" ∷
    codes "bytes \"/kept\" \"k2\"" ∷
    codes "exec \"/init\" 7" ∷ lines)

abbrev pub tree_with_secret : Tree
tree_with_secret =
    manifest_tree 59 64 (
    make (codes "/pub") (directory_node []) ∷
    make (codes "/pub/motd") (file_node false (codes "hi")) ∷
    make (codes "/secret") (file_node false (codes "k1")) ∷
    make (codes "/kept") (file_node false (codes "k2")) ∷
    make (codes "/init") (file_node true (flat_map with_line_end lines)) ∷ [])

abbrev pub restricting : Program
restricting =
    Open (codes "/secret") (flags WriteMode false) ∷
    Unveil (Some (codes "/pub")) (Some (codes "r")) ∷
    Unveil None None ∷
    Pledge (Some (codes "stdio rpath wpath")) None ∷
    Open (codes "/pub/motd") (flags ReadMode false) ∷
    Read (Number (pos 1)) (Number (pos 2)) ∷
    Write (Number (pos 0)) (Number (pos 2)) ∷ []

abbrev pub state_after_restricting : List ℕ → State
state_after_restricting pids = (run program_of pids (first_state tree_with_secret restricting)).final

-- before the first step, after the fourth, and after the seventh
pub record SecrecyExamples : Type 0 where
  pub reached : IsReachedFrom manifest (state_after_restricting (1 ∷ 1 ∷ 1 ∷ 1 ∷ []))
  pub exposed : IsFalse (is_sealed (state_after_restricting []) 4)
  pub sealed : IsSealedFile (state_after_restricting (1 ∷ 1 ∷ 1 ∷ 1 ∷ [])) 4
  pub not_frozen : IsFalse (is_frozen (state_after_restricting (1 ∷ 1 ∷ 1 ∷ 1 ∷ [])) 4)
  pub written : file_bytes (state_after_restricting (1 ∷ 1 ∷ 1 ∷ 1 ∷ 1 ∷ 1 ∷ 1 ∷ [])) 4 ≡ codes "hi"
  pub frozen : IsFrozenFile (state_after_restricting (1 ∷ 1 ∷ 1 ∷ 1 ∷ [])) 5
