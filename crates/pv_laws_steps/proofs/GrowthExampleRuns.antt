-- The steps of worked runs with writes and truncations that keep the number of blocks, by computation.
use Rattle.std.proofs.Common.{◌≡◌, ℕ, ◌*◌, ◌≤◌, pos, false, None, Some, refl, ap, sym, subst, ◌∙◌, arith}
use Rattle.std.specs.Prelude.{codes}
use Rattle.pv_model.specs.declared.call.Call.{Call}
use Rattle.pv_model.specs.declared.call.Call.TheVariants as TheCall
use Rattle.pv_model.specs.declared.call.Whence.TheVariants.{Current}
use Rattle.pv_model.specs.declared.open_flags.Mode.TheVariants.{ReadWrite}
use Rattle.pv_model.specs.Machine.{within, natural, write_end, open_file, machine_on_literals, calls_for, next, rounded_up, OpenFile, Process, process_at}
use Rattle.pv_laws_states.proofs.ExampleStates.{or_first}
use Rattle.pv_laws_steps.specs.Growing.{file_blocks, LeavesContent}
use Rattle.pv_laws_steps.specs.GrowingExamples.{growing_unlinked, shrinking_and_other, GrowingExamples, CutExamples}
use Rattle.pv_laws_steps.specs.Offsets.{DependsOnOffset}
use Rattle.pv_laws_steps.proofs.CommuteExampleRuns.{or_none}
use Rattle.pv_laws_steps.proofs.NextCalls.{goes-by_none, leaves-content}

abbrev unlink : Call
unlink = TheCall.Unlink (codes "/x")

abbrev seek : Call
seek = TheCall.Lseek (pos 0) (pos 0) Current

abbrev appears : OpenFile
appears = record { node = 2; mode = ReadWrite; append = false; offset = 5; listed = None }

-- ---- a write

abbrev writer : Process
writer = or_first (process_at growing_unlinked 1)

abbrev writers_child : Process
writers_child = or_first (process_at growing_unlinked 2)

writer-opened : open_file growing_unlinked writer (pos 0) ≡ Some (0, appears)
unfolding machine_on_literals
writer-opened = refl

writers_child-there : process_at growing_unlinked 2 ≡ Some writers_child
unfolding machine_on_literals
writers_child-there = refl

writers_child-next : next writers_child ≡ calls_for unlink
unfolding machine_on_literals
writers_child-next = refl

one-block : file_blocks growing_unlinked 2 ≡ 1
unfolding machine_on_literals
one-block = refl

ends-in_block : (m : ℕ) (file : OpenFile) (count : ℕ) → open_file growing_unlinked writer (pos 0) ≡ Some (m, file) → within 4096 (pos 2) ≡ Some count
    → write_end growing_unlinked 1 writer file count ≤ 512 * file_blocks growing_unlinked file.node
ends-in_block m file count opened counted =
    let two : 2 ≡ count = cc counted in
    let same : appears ≡ file = ap or_none (sym writer-opened ∙ opened) in
    subst (λ (f : OpenFile). write_end growing_unlinked 1 writer f count ≤ 512 * file_blocks growing_unlinked f.node) same
    (subst (λ (i : ℕ). write_end growing_unlinked 1 writer appears i ≤ 512 * file_blocks growing_unlinked 2) two (omega (arith, one-block)))

left-growing : (m : ℕ) (file : OpenFile) → open_file growing_unlinked writer (pos 0) ≡ Some (m, file) → (¬ DependsOnOffset growing_unlinked 2 m) × LeavesContent growing_unlinked 2 file.node
left-growing m file opened = (
  goes-by_none growing_unlinked 2 writers_child unlink writers_child-there writers_child-next refl m,
  leaves-content growing_unlinked 2 writers_child unlink writers_child-there writers_child-next refl refl refl file.node,
)

pub growing-happens : GrowingExamples
unfolding machine_on_literals
growing-happens = record {
  writer = writer;
  there = refl;
  next_is = refl;
  ends = ends-in_block;
  leaves = left-growing;
  read_five = refl;
  read_seven = refl;
  end_at_five = refl;
  end_at_seven = refl;
  appears_at_five = refl;
  appears_at_seven = refl;
  gets_it = refl;
  finds_none = refl;
}

-- ---- a truncation

abbrev cutter : Process
cutter = or_first (process_at shrinking_and_other 1)

abbrev cutters_child : Process
cutters_child = or_first (process_at shrinking_and_other 2)

cutter-opened : open_file shrinking_and_other cutter (pos 0) ≡ Some (0, appears)
unfolding machine_on_literals
cutter-opened = refl

cutters_child-there : process_at shrinking_and_other 2 ≡ Some cutters_child
unfolding machine_on_literals
cutters_child-there = refl

cutters_child-next : next cutters_child ≡ calls_for seek
unfolding machine_on_literals
cutters_child-next = refl

cut-block : file_blocks shrinking_and_other 2 ≡ 1
unfolding machine_on_literals
cut-block = refl

keeps-block : (m : ℕ) (file : OpenFile) (size : ℕ) → open_file shrinking_and_other cutter (pos 0) ≡ Some (m, file) → natural (pos 2) ≡ Some size → rounded_up size 512 ≡ file_blocks shrinking_and_other file.node
keeps-block m file size opened is =
    let two : 2 ≡ size = cc is in
    let same : appears ≡ file = ap or_none (sym cutter-opened ∙ opened) in
    subst (λ (f : OpenFile). rounded_up size 512 ≡ file_blocks shrinking_and_other f.node) same
    (subst (λ (i : ℕ). rounded_up i 512 ≡ file_blocks shrinking_and_other 2) two (sym cut-block))

left-cut : (m : ℕ) (file : OpenFile) → open_file shrinking_and_other cutter (pos 0) ≡ Some (m, file) → LeavesContent shrinking_and_other 2 file.node
left-cut m file opened = leaves-content shrinking_and_other 2 cutters_child seek cutters_child-there cutters_child-next refl refl refl file.node

pub cuts-happen : CutExamples
unfolding machine_on_literals
cuts-happen = record {
  cutter = cutter;
  there = refl;
  next_is = refl;
  keeps = keeps-block;
  leaves = left-cut;
  seeks = refl;
  read_five = refl;
  read_two = refl;
  end_at_five = refl;
  end_at_two = refl;
  finds_none = refl;
  gets_it = refl;
}
