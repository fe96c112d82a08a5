-- The steps of worked runs, by computation.
use Rattle.std.proofs.Common.{◌≡◌, ℕ, ◌≤◌, ℤ, pos, false, length, [], ◌∷◌, Option, None, Some, refl, ap, sym, subst, ◌∙◌, arith}
use Rattle.std.specs.Prelude.{codes}
use Rattle.pv_model.specs.declared.call.Call.{Call}
use Rattle.pv_model.specs.declared.call.Call.TheVariants as TheCall
use Rattle.pv_model.specs.declared.open_flags.Mode.TheVariants.{Read as Reading, ReadWrite}
use Rattle.pv_model.specs.Machine.{within, write_end, open_file, machine_on_literals, calls_for, next, OpenFile, Process, process_at, step, file_bytes, descriptor_of, file_node, node_at, Numbered, directory_node, Tree, is_directory_at}
use Rattle.pv_laws_steps.specs.CommuteExamples.{apart, unlinking, asking_size, OrderExamples, OffsetExamples, WriteExamples}
use Rattle.std.specs.Prelude.{replicate}
use Rattle.pv_laws_steps.specs.CommuteExamples.{closing_both, entering_open, DescriptorExamples, DirectoryExamples}
use Rattle.std.specs.Prelude.{true}
use Rattle.pv_model.specs.declared.version.Version.TheVariants.{V1}
use Rattle.pv_laws_states.specs.ExampleStates.{no_programs, state_after}
use Rattle.pv_laws_states.proofs.ExampleStates.{or_first}
use Rattle.pv_laws_steps.specs.Offsets.{DependsOnOffset}
use Rattle.pv_laws_steps.specs.Writes.{LeavesBytes}
use Rattle.pv_laws_steps.proofs.NextCalls.{goes-by_none, leaves-bytes}

pub order-happens : OrderExamples
unfolding machine_on_literals
order-happens = record { process = or_first (process_at (state_after apart (1 ∷ [])) 1); there = refl; lone = refl; other = refl; first = refl; second = refl }

abbrev pub or_none : Option (ℕ × OpenFile) → OpenFile
or_none None = record { node = 0; mode = Reading; append = false; offset = 0; listed = None }
or_none (Some own) = own.1

abbrev reader : Process
reader = or_first (process_at unlinking 1)

abbrev unlinker : Process
unlinker = or_first (process_at unlinking 2)

abbrev read_open : OpenFile
read_open = record { node = 2; mode = ReadWrite; append = false; offset = 0; listed = None }

reader-opened : open_file unlinking reader (pos 0) ≡ Some (0, read_open)
unfolding machine_on_literals
reader-opened = refl

unlinker-there : process_at unlinking 2 ≡ Some unlinker
unfolding machine_on_literals
unlinker-there = refl

unlinker-next : next unlinker ≡ calls_for (TheCall.Unlink (codes "/x"))
unfolding machine_on_literals
unlinker-next = refl

node-before : node_at unlinking.tree 2 ≡ Some (file_node false [])
unfolding machine_on_literals
node-before = refl

node-following : node_at (step no_programs unlinking 2).after.tree 2 ≡ Some (file_node false [])
unfolding machine_on_literals
node-following = refl

left-open : (d : ℤ) (m : ℕ) (file : OpenFile) → descriptor_of (TheCall.Read (pos 0) (pos 5)) ≡ Some d → open_file unlinking reader d ≡ Some (m, file)
    → (¬ DependsOnOffset unlinking 2 m) × (node_at (step no_programs unlinking 2).after.tree file.node ≡ node_at unlinking.tree file.node)
left-open d m file own opened =
    let first : pos 0 ≡ d = cc own in
    let same : read_open ≡ file = ap or_none (sym reader-opened ∙ ap (open_file unlinking reader) first ∙ opened) in (
      goes-by_none unlinking 2 unlinker (TheCall.Unlink (codes "/x")) unlinker-there unlinker-next refl m,
      subst (λ (f : OpenFile). node_at (step no_programs unlinking 2).after.tree f.node ≡ node_at unlinking.tree f.node) same (node-following ∙ sym node-before),
    )

pub offsets-happen : OffsetExamples
unfolding machine_on_literals
offsets-happen = record {
  process = reader;
  there = refl;
  next_is = refl;
  leaves = left-open;
  unlinks = refl;
  none_written = refl;
  five_written = refl;
  none_named = refl;
  one_named = refl;
}

abbrev closer : Process
closer = or_first (process_at closing_both 1)

abbrev shared_files : Numbered OpenFile
shared_files = Some (record { node = 2; mode = ReadWrite; append = false; offset = 0; listed = None }) ∷ replicate 127 None

files-before : closing_both.files ≡ shared_files
unfolding machine_on_literals
files-before = refl

files-following : (step no_programs closing_both 1).after.files ≡ shared_files
unfolding machine_on_literals
files-following = refl

pub descriptors-happen : DescriptorExamples
unfolding machine_on_literals
descriptors-happen = record { process = closer; there = refl; next_is = refl; leaves = files-following ∙ sym files-before; closes = refl; ended = refl; reused = refl; not_reused = refl }

abbrev enterer : Process
enterer = or_first (process_at entering_open 1)

abbrev entered_open : OpenFile
entered_open = record { node = 2; mode = Reading; append = false; offset = 0; listed = None }

enterer-opened : open_file entering_open enterer (pos 0) ≡ Some (0, entered_open)
unfolding machine_on_literals
enterer-opened = refl

directory-before : is_directory_at entering_open.tree 2 ≡ true
unfolding machine_on_literals
directory-before = refl

directory-following : is_directory_at (step no_programs entering_open 2).after.tree 2 ≡ true
unfolding machine_on_literals
directory-following = refl

way-left : (m : ℕ) (file : OpenFile) → open_file entering_open enterer (pos 0) ≡ Some (m, file) → is_directory_at (step no_programs entering_open 2).after.tree file.node ≡ is_directory_at entering_open.tree file.node
way-left m file opened =
    let same : entered_open ≡ file = ap or_none (sym enterer-opened ∙ opened) in
    subst (λ (f : OpenFile). is_directory_at (step no_programs entering_open 2).after.tree f.node ≡ is_directory_at entering_open.tree f.node) same (directory-following ∙ sym directory-before)

abbrev pub entered_tree : Tree
entered_tree = record { nodes = None ∷ Some (directory_node ((codes "d", 2) ∷ [])) ∷ Some (directory_node []) ∷ replicate 14 None; blocks = 14; inodes = 16; version = V1 }

tree-before : entering_open.tree ≡ entered_tree
unfolding machine_on_literals
tree-before = refl

tree-following : (step no_programs entering_open 1).after.tree ≡ entered_tree
unfolding machine_on_literals
tree-following = refl

pub directories-happen : DirectoryExamples
unfolding machine_on_literals
directories-happen = record {
  process = enterer;
  there = refl;
  next_is = refl;
  leaves = tree-following ∙ sym tree-before;
  way = way-left;
  removes = refl;
  entered = refl;
  gone = refl;
  reused = refl;
  not_reused = refl;
}

abbrev writer : Process
writer = or_first (process_at asking_size 1)

abbrev asker : Process
asker = or_first (process_at asking_size 2)

abbrev written_open : OpenFile
written_open = record { node = 2; mode = ReadWrite; append = false; offset = 0; listed = None }

writer-opened : open_file asking_size writer (pos 0) ≡ Some (0, written_open)
unfolding machine_on_literals
writer-opened = refl

asker-there : process_at asking_size 2 ≡ Some asker
unfolding machine_on_literals
asker-there = refl

asker-next : next asker ≡ calls_for (TheCall.Stat (codes "/x"))
unfolding machine_on_literals
asker-next = refl

five-there : length (file_bytes asking_size 2) ≡ 5
unfolding machine_on_literals
five-there = refl

stays-within : (m : ℕ) (file : OpenFile) (count : ℕ) → open_file asking_size writer (pos 0) ≡ Some (m, file) → within 4096 (pos 2) ≡ Some count
    → write_end asking_size 1 writer file count ≤ length (file_bytes asking_size file.node)
stays-within m file count opened counted =
    let two : 2 ≡ count = cc counted in
    let same : written_open ≡ file = ap or_none (sym writer-opened ∙ opened) in
    subst (λ (f : OpenFile). write_end asking_size 1 writer f count ≤ length (file_bytes asking_size f.node)) same
    (subst (λ (i : ℕ). write_end asking_size 1 writer written_open i ≤ length (file_bytes asking_size 2)) two (omega (arith, five-there)))

left-written : (m : ℕ) (file : OpenFile) → open_file asking_size writer (pos 0) ≡ Some (m, file) → (¬ DependsOnOffset asking_size 2 m) × LeavesBytes asking_size 2 file.node
left-written m file opened =
    let call : Call = TheCall.Stat (codes "/x") in (
      goes-by_none asking_size 2 asker call asker-there asker-next refl m,
      leaves-bytes asking_size 2 asker call asker-there asker-next refl refl file.node,
    )

pub writes-happen : WriteExamples
unfolding machine_on_literals
writes-happen = record { process = writer; there = refl; next_is = refl; within = stays-within; leaves = left-written; theirs = refl; its = refl; short = refl; long = refl }
