-- The steps of worked runs with unveils, execves and a full image, by computation.
use Rattle.std.proofs.Common.{◌≡◌, true, false, [], ◌∷◌, None, Some, refl, sym, ◌∙◌}
use Rattle.std.specs.Prelude.{codes, replicate}
use Rattle.pv_model.specs.declared.open_flags.Mode.TheVariants.{Read as Reading}
use Rattle.pv_model.specs.declared.version.Version.TheVariants.{V1}
use Rattle.pv_model.specs.Machine.{Numbered, machine_on_literals, OpenFile, Process, process_at, step, Tree, directory_node, file_node}
use Rattle.pv_laws_states.specs.ExampleStates.{no_programs}
use Rattle.pv_laws_states.proofs.ExampleStates.{or_first}
use Rattle.pv_laws_steps.specs.HoldingExamples.{unveiling_open, executing_both, one_program, leaving_full, UnveilExamples, ExecveExamples, FullImageExamples}
use Rattle.pv_laws_steps.proofs.CommuteExampleRuns.{entered_tree}

abbrev unveiler : Process
unveiler = or_first (process_at unveiling_open 1)

tree-before : unveiling_open.tree ≡ entered_tree
unfolding machine_on_literals
tree-before = refl

tree-following : (step no_programs unveiling_open 2).after.tree ≡ entered_tree
unfolding machine_on_literals
tree-following = refl

pub unveils-happen : UnveilExamples
unfolding machine_on_literals
unveils-happen = record {
  process = unveiler;
  there = refl;
  next_is = refl;
  way = tree-following ∙ sym tree-before;
  unveils = refl;
  opens = refl;
  of_directory = refl;
  of_name = refl;
}

abbrev executer : Process
executer = or_first (process_at executing_both 1)

abbrev program_tree : Tree
program_tree = record { nodes = None ∷ Some (directory_node ((codes "p", 2) ∷ [])) ∷ Some (file_node true (codes "getpid")) ∷ replicate 14 None; blocks = 14; inodes = 16; version = V1 }

abbrev program_files : Numbered OpenFile
program_files = Some (record { node = 2; mode = Reading; append = false; offset = 0; listed = None }) ∷ replicate 127 None

program-before : executing_both.tree ≡ program_tree
unfolding machine_on_literals
program-before = refl

program-executed : (step one_program executing_both 1).after.tree ≡ program_tree
unfolding machine_on_literals
program-executed = refl

program-closed : (step one_program executing_both 2).after.tree ≡ program_tree
unfolding machine_on_literals
program-closed = refl

files-before : executing_both.files ≡ program_files
unfolding machine_on_literals
files-before = refl

files-executed : (step one_program executing_both 1).after.files ≡ program_files
unfolding machine_on_literals
files-executed = refl

pub execves-happen : ExecveExamples
unfolding machine_on_literals
execves-happen = record {
  process = executer;
  there = refl;
  next_is = refl;
  leaves = program-executed ∙ sym program-before;
  files = files-executed ∙ sym files-before;
  way = program-closed ∙ sym program-before;
  executes = refl;
  closes = refl;
  ended = refl;
  executed = refl;
  gone = refl;
  reused = refl;
  not_reused = refl;
  freed = refl;
  not_freed = refl;
}

abbrev full_tree : Tree
full_tree = record { nodes = None ∷ Some (directory_node []) ∷ Some (directory_node []) ∷ []; blocks = 14; inodes = 2; version = V1 }

full-before : leaving_full.tree ≡ full_tree
unfolding machine_on_literals
full-before = refl

full-left : (step no_programs leaving_full 1).after.tree ≡ full_tree
unfolding machine_on_literals
full-left = refl

full-refused : (step no_programs leaving_full 2).after.tree ≡ full_tree
unfolding machine_on_literals
full-refused = refl

pub full_images-happen : FullImageExamples
unfolding machine_on_literals
full_images-happen = record {
  process = or_first (process_at leaving_full 1);
  there = refl;
  next_is = refl;
  leaves = full-left ∙ sym full-before;
  way = full-refused ∙ sym full-before;
  enters = refl;
  refused = refl;
  refused_first = refl;
  enters_after = refl;
  full = refl;
  freed = refl;
}
