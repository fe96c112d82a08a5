use Rattle.std.proofs.Common.{◌≡◌, length, sym, subst, ◌∙◌, arith}
use Rattle.pv_model.specs.Machine.{IsImageOf, Tree}
use Rattle.pv_laws_trees.proofs.TreeChanges.{some-below}
use Rattle.pv_tree.proofs.GatheredNames.{gathered_none, gathered_few, gathered_other, gathered_more, image-short, image-tied}
use Rattle.pv_tree.proofs.ImageByteLists.{bytes-within, image-bytes}
use Rattle.pv_tree.proofs.tree.Tree.of_image.Goals as goal
use Rattle.pv_tree.proofs.tree.Tree.of_image.Goals.{In_ok-directories, then-is_directory, else-is_directory}

-- the directories are the tree of the image
image : (c : In_ok-directories) → IsImageOf c.args.bytes.items c.in_ok-directories.directories
image c = subst (λ (t : Tree). IsImageOf c.args.bytes.items t) (sym (c.in_ok-directories.ensures c.requires.tree c.requires.is_image)) c.requires.is_image

pub loop-directory-init : goal.loop-directory-init
loop-directory-init c = rw (c.root_above_itself-parents.ensures, c.no_names-names.ensures) (gathered_none c.in_ok-directories.directories)

pub count_entries-requires-clause-nodes : goal.count_entries-requires-clause-nodes
count_entries-requires-clause-nodes c = λ name n found.
    let is = image (goal.at.count_entries-requires-clause-nodes c).In_ok-directories in
    omega (arith, some-below c.in_ok-directories.directories n (is.well_formed.entries_are_nodes c.loop-directory.directory name n found), is.well_formed.numbers, is.inodes_allowed.1, c.loop-directory.invariant.places_of_names)

pub count_entries-requires-clause-room : goal.count_entries-requires-clause-room
count_entries-requires-clause-room c = λ n.
    let is = image (goal.at.count_entries-requires-clause-room c).In_ok-directories in
    let few = gathered_few c.in_ok-directories.directories c.loop-directory.directory c.loop-directory.parents c.loop-directory.names c.loop-directory.invariant (image-short c.args.bytes.items c.in_ok-directories.directories is) n in
    omega (arith, few, c.loop-directory-test.true, c.requires.has_inodes, c.requires.is_image.inodes_allowed.1)

pub loop-directory-preserved : goal.loop-directory-preserved
loop-directory-preserved c = elim c.if-is_directory.branch [
  | then-is_directory w ↦
      rw (w.parents-is, w.names-is) (gathered_more c.in_ok-directories.directories c.loop-directory.directory c.loop-directory.parents c.loop-directory.names c.loop-directory.invariant _ _
      (omega arith) (omega arith) w.count_entries.ensures.counts w.count_entries.ensures.parents)
  | else-is_directory w ↦
      rw (w.parents-is, w.names-is) (gathered_other c.in_ok-directories.directories c.loop-directory.directory c.loop-directory.parents c.loop-directory.names c.loop-directory.invariant
      (sym c.is_directory.ensures ∙ w.if-is_directory.false))
]

pub invariant_of-result : goal.invariant_of-result
invariant_of-result c =
    let is = image (goal.at.invariant_of-result c).In_ok-directories in
    let at_end : c.loop-directory.directory ≡ length c.in_ok-directories.directories.nodes = omega (arith, is.well_formed.numbers, is.all_inodes, c.requires.is_image.all_inodes, c.requires.has_inodes, c.loop-directory-test.false, c.loop-directory.auto.directory-end) in
    image-tied c.args.bytes.items c.in_ok-directories.directories is c.loop-directory.parents c.loop-directory.names c.no_holds.result (rw at_end at c.loop-directory.invariant)
    (omega (arith, c.free-free.ensures)) (image-bytes c.args.bytes.items c.in_ok-directories.directories is (bytes-within c.args.bytes.items (λ i within. omega arith))) c.no_holds.ensures

pub returns-clause-tree : goal.returns-clause-tree
returns-clause-tree c = c.in_ok-directories.ensures
