-- The state in which a machine starts and each state that a run reaches are valid.
use Rattle.std.proofs.Common.{◌≡◌, ◌⊎◌, ⊎_elim, true, false, [], Ok, Option, None, Some, refl, ap, sym, subst, option_map, option_and_then}
use Rattle.std.specs.Prelude.{codes}
use Rattle.pv_model.specs.Machine.{Bytes, Manifest, read_manifest, read_bundle, tree_of, program_of, Program, State, first_state, boot, Node, directory_node, file_node, link_node, Tree, root, node_at, find_entry}
use Rattle.pv_model.specs.Step.{init_program}
use Rattle.pv_laws_answers.specs.OfLawsStates.States.{is_program_in_bounds, IsFirstTree, IsValid}
use Rattle.pv_laws_answers.proofs.OfLawsStates.ValidBySteps.{first-valid, run-keeps_valid}
use Rattle.pv_laws_grammar.proofs.ManifestParsing.{EncodesManifest-whole}
use Rattle.pv_laws_runs.specs.Runs.{IsReachedFrom}
use Rattle.pv_laws_runs.specs.Starts.{DescribesTree, HoldsTree, GivesTree}
use Rattle.pv_laws_runs.proofs.ImageTrees.{image-first}
use Rattle.pv_laws_runs.proofs.ProgramRanges.{program_of-encodes}
use Rattle.pv_laws_runs.proofs.ManifestTrees.{manifest-first}

read-first : (bytes : Bytes) (t : Tree) (m : Manifest) → Rattle.pv_laws_answers.specs.OfLawsStates.States.are_bytes bytes ≡ true → (read_manifest bytes ≡ Ok m) ⊎ (read_bundle bytes ≡ Ok m) → tree_of m ≡ Ok t → IsFirstTree t
unfolding read_manifest read_bundle
read-first bytes t m all read made =
    ⊎_elim (λ alone. manifest-first false bytes m t all (EncodesManifest-whole false bytes m alone) made) (λ bundle. manifest-first true bytes m t all (EncodesManifest-whole true bytes m bundle) made) read

pub made-first : (bytes : Bytes) (t : Tree) → DescribesTree bytes t → IsFirstTree t
made-first bytes t is = read-first bytes t is.manifest is.are_bytes is.read is.tree

pub held-first : (bytes : Bytes) (t : Tree) → HoldsTree bytes t → IsFirstTree t
held-first bytes t is = image-first bytes t is.is_image is.are_bytes

pub given-first : (bytes : Bytes) (t : Tree) → GivesTree bytes t → IsFirstTree t
given-first bytes t given = ⊎_elim (made-first bytes t) (held-first bytes t) given

init-program : (t : Tree) (o : Option Node) (program : Program) → init_program program_of t o ≡ Some program → is_program_in_bounds program ≡ true
init-program t None program is = let same : [] ≡ program = cc is in ap is_program_in_bounds (sym same)
init-program t (Some (file_node true bytes)) program is = program_of-encodes.encodes bytes program is
init-program t (Some (file_node false bytes)) program is = cc
init-program t (Some (directory_node es)) program is = cc
init-program t (Some (link_node text)) program is = cc

pub boot-valid : (t : Tree) (s : State) → IsFirstTree t → boot program_of t ≡ Some s → IsValid s
boot-valid t s first is = by (init_program program_of t (option_and_then (node_at t) (find_entry t root (codes "init")))) refl is
  where
    by : (o : Option Program) → init_program program_of t (option_and_then (node_at t) (find_entry t root (codes "init"))) ≡ o → option_map (first_state t) o ≡ Some s → IsValid s
    by None none is = cc
    by (Some program) encoded is =
        let same : first_state t program ≡ s = cc is in
        subst IsValid same (first-valid t program first (init-program t (option_and_then (node_at t) (find_entry t root (codes "init"))) program encoded))

pub reached-valid : (bytes : Bytes) (s : State) → IsReachedFrom bytes s → IsValid s
reached-valid bytes s is =
    subst IsValid is.reaches (run-keeps_valid program_of program_of-encodes is.pids is.first (boot-valid is.tree is.first (given-first bytes is.tree is.given) is.boots))
