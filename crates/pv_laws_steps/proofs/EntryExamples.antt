-- The steps of worked runs with calls that change entries, by computation.
use Rattle.std.proofs.Common.{◌≡◌, ℕ, pos, false, [], None, Some, refl, ap, sym, subst, ◌∙◌}
use Rattle.pv_model.specs.declared.open_flags.Mode.TheVariants.{Read as Reading}
use Rattle.pv_model.specs.Machine.{open_file, machine_on_literals, OpenFile, Process, process_at, step, directory_node, node_at}
use Rattle.pv_laws_states.specs.ExampleStates.{no_programs}
use Rattle.pv_laws_states.proofs.ExampleStates.{or_first}
use Rattle.pv_laws_steps.specs.EntriesExamples.{listing_renamed, EntryExamples}
use Rattle.pv_laws_steps.proofs.CommuteExampleRuns.{or_none}

abbrev lister : Process
lister = or_first (process_at listing_renamed 2)

abbrev listed : OpenFile
listed = record { node = 2; mode = Reading; append = false; offset = 0; listed = None }

lister-opened : open_file listing_renamed lister (pos 0) ≡ Some (0, listed)
unfolding machine_on_literals
lister-opened = refl

node-before : node_at listing_renamed.tree 2 ≡ Some (directory_node [])
unfolding machine_on_literals
node-before = refl

node-following : node_at (step no_programs listing_renamed 1).after.tree 2 ≡ Some (directory_node [])
unfolding machine_on_literals
node-following = refl

left-node : (m : ℕ) (file : OpenFile) → open_file listing_renamed lister (pos 0) ≡ Some (m, file) → node_at (step no_programs listing_renamed 1).after.tree file.node ≡ node_at listing_renamed.tree file.node
left-node m file opened =
    let same : listed ≡ file = ap or_none (sym lister-opened ∙ opened) in
    subst (λ (f : OpenFile). node_at (step no_programs listing_renamed 1).after.tree f.node ≡ node_at listing_renamed.tree f.node) same (node-following ∙ sym node-before)

pub entries-happen : EntryExamples
unfolding machine_on_literals
entries-happen = record {
  process = lister;
  there = refl;
  next_is = refl;
  appears = left-node;
  renames = refl;
  old_name = refl;
  new_name = refl;
  gets_it = refl;
  finds_none = refl;
  five = refl;
  seven = refl;
  parent = refl;
  adopter = refl;
}
