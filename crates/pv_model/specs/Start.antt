-- How a run starts: its checks in order, which give the first error or the first state.
use Rattle.std.specs.Prelude.{◌≡◌, ℕ, ◌-◌, nat_le, if◌then◌else◌, true, List, [], length, take, flat_map, codes, Option, None, Some, option_and_then, Result, Ok, Err}
use Rattle.pv_model.specs.declared.kernel_fault.BootFault.{BootFault}
use Rattle.pv_model.specs.declared.kernel_fault.BootFault.TheVariants.{Init}
use Rattle.pv_model.specs.declared.run_fault.RunFault.{RunFault}
use Rattle.pv_model.specs.Bytes.{Bytes}
use Rattle.pv_model.specs.Grammar.Lines.{lines_of}
use Rattle.pv_model.specs.Grammar.Manifests.{Manifest, read_bundle, tree_of, with_line_end}
use Rattle.pv_model.specs.Grammar.Programs.{read_program, program_of}
use Rattle.pv_model.specs.Grammar.Schedules.{schedule_of_lines}
use Rattle.pv_model.specs.Image.{IsImageOf}
use Rattle.pv_model.specs.Mount.{mounted}
use Rattle.pv_model.specs.RunFault.{of_boot, of_image, of_init, of_manifest, of_schedule}
use Rattle.pv_model.specs.State.{Program, State, first_state}
use Rattle.pv_model.specs.Step.{Schedule, boot}
use Rattle.pv_model.specs.Tree.{Node, file_node, Tree, root, node_at, find_entry}

-- the next result, or the first error, converted
abbrev pub and_then : {A B E F : Type 0} → (E → F) → Result A E → (A → Result B F) → Result B F
and_then fault_of (Err fault) next = Err (fault_of fault)
and_then fault_of (Ok value) next = next value

-- ---- the first program

-- the program of the node of `init`: the empty program if there is no node, and an error if the node is not an
-- executable file
abbrev pub program_in : Option Node → Result Program BootFault
program_in None = Ok []
program_in (Some (file_node true bytes)) = and_then of_init (read_program bytes) (λ program. Ok program)
program_in (Some node) = Err (Init 0)

-- the node that the entry `init` of the root names
abbrev pub init_of : Tree → Option Node
init_of t = option_and_then (node_at t) (find_entry t root (codes "init"))

-- the first state of the machine on a tree, or the error
unfoldable pub booted : Tree → Result State BootFault
booted t = and_then (λ fault. fault) (program_in (init_of t)) (λ program. Ok (first_state t program))

-- ---- the inputs of a run

-- the state in which a run starts, and its schedule
pub record Started : Type 0 where
  pub state : State
  pub schedule : Schedule

-- the checks on a tree: first the lines of the schedule, then the program of `init`
unfoldable pub started_on : Tree → List Bytes → Result Started RunFault
started_on t lines =
    and_then of_schedule (schedule_of_lines lines) (λ schedule.
    and_then of_boot (booted t) (λ state. Ok (record { state = state; schedule = schedule })))

-- the checks of a run of a bundle, in order: form and sizes of the manifest, its entries, the schedule, the program of
-- `init`
unfoldable pub bundle_started : Bytes → Result Started RunFault
bundle_started bytes =
    and_then of_manifest (read_bundle bytes) (λ manifest.
    and_then of_manifest (tree_of manifest) (λ t. started_on t manifest.listed.following))

-- the checks of a run on an image, in order: the image, the schedule, the program of `init`
unfoldable pub image_started : Bytes → Bytes → Result Started RunFault
image_started image schedule = and_then of_image (mounted image) (λ t. started_on t (lines_of schedule))

-- the bytes are an image of a tree on which the machine boots
pub record IsAccepted (image : Bytes) : Type 0 where
  pub tree : Tree
  pub state : State
  pub is_image : IsImageOf image tree
  pub boots : boot program_of tree ≡ Some state

-- ---- the offset of a bundle's schedule

abbrev pub at_most : ℕ → ℕ → ℕ
at_most limit n = if nat_le n limit then n else limit

-- the number of bytes before the schedule, that is, before the lines after the manifest
abbrev pub schedule_start : Bytes → Manifest → ℕ
schedule_start bytes m =
    let lines = lines_of bytes in
    at_most (length bytes) (length (flat_map with_line_end (take (length lines - length m.listed.following) lines)))
