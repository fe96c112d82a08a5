use Rattle.std.proofs.Common.{◌≡◌, ◌<◌, length, sym, ap, ◌∙◌}
use Rattle.std.specs.Prelude.{option_map}
use Rattle.std.proofs.lemmas.Option.{IfSome_then}
use Rattle.pv_model.specs.Machine.{Tree, node_at, with_node, new_number as new_number_in}
use Rattle.pv_inodes.specs.Files.{Files, with_new, new_inode}
use Rattle.pv_dirs.specs.Index.{IsConsistentIndex}
use Rattle.pv_dirs.specs.Trees.{node_of_contained, tree_of_files, empty_node}
use Rattle.pv_dirs.proofs.FileContents.{tree_of_files-with_new, holding-with_new}
use Rattle.pv_dirs.proofs.ChangedIndex.{indexed-with_new}
use Rattle.pv_dirs.proofs.CallResults.{either_number, if_some_both}
use Rattle.pv_dirs.proofs.FileTrees.{new_inode-tree_of_files, length-tree_of_files, node_at-tree_of_files}
use Rattle.pv_dirs.proofs.directories.Directories.fresh.Goals as goal
use Rattle.pv_dirs.proofs.directories.Directories.fresh.Goals.{After-fresh}

number : (c : After-fresh) → new_number_in c.args.self.now ≡ new_inode c.self.inside.inodes
number c = ap new_number_in (sym c.self.view_is) ∙ new_inode-tree_of_files c.self.inside.inodes

long : (c : After-fresh) → length c.args.self.now.nodes ≡ length c.self.inside.inodes.nodes
long c = ap (λ (t : Tree). length t.nodes) (sym c.self.view_is) ∙ length-tree_of_files c.self.inside.inodes

pub invariant_of-self : goal.invariant_of-self
invariant_of-self c =
    either_number (λ (f : Files). IsConsistentIndex f c.self.inside.block_count c.self.inside.index.value) (λ n. n < length c.self.inside.inodes.nodes) c.fresh.result c.self.inside.inodes c.fresh.new.self (λ n. with_new c.self.inside.inodes n c.args.sort)
    c.fresh.ensures.none c.fresh.ensures.within c.fresh.ensures.after c.self.invariant
    (λ n within. record {
      holding = holding-with_new c.self.inside.inodes c.self.inside.block_count n c.args.sort within c.self.invariant.holding;
      indexed = indexed-with_new c.self.inside.inodes n c.args.sort c.self.inside.index.value within c.self.invariant.indexed;
    })

pub returns-clause-full : goal.returns-clause-full
returns-clause-full c = (λ is. number c ∙ c.fresh.ensures.full.0 is ∙ sym (long c), λ is. c.fresh.ensures.full.1 (sym (number c) ∙ is ∙ long c))

pub returns-clause-least : goal.returns-clause-least
returns-clause-least c = IfSome_then c.fresh.result c.fresh.ensures.least (λ n is. is ∙ sym (number c))

pub returns-clause-free : goal.returns-clause-free
returns-clause-free c =
    IfSome_then c.fresh.result c.fresh.ensures.free
    (λ n is. ap (λ (t : Tree). node_at t n) (sym c.self.view_is) ∙ node_at-tree_of_files c.self.inside.inodes n ∙ ap (option_map (node_of_contained c.self.inside.inodes.version)) is)

pub returns-clause-within : goal.returns-clause-within
returns-clause-within c = let same = long c in IfSome_then c.fresh.result c.fresh.ensures.within (λ n is. rw same is)

pub returns-clause-after : goal.returns-clause-after
returns-clause-after c =
    if_some_both c.fresh.result (λ n. n < length c.self.inside.inodes.nodes) (λ n. c.fresh.new.self ≡ with_new c.self.inside.inodes n c.args.sort)
    (λ n. tree_of_files c.fresh.new.self ≡ with_node c.args.self.now n (empty_node c.args.sort)) c.fresh.ensures.within c.fresh.ensures.after
    (λ n within is. ap tree_of_files is ∙ tree_of_files-with_new c.self.inside.inodes n c.args.sort within ∙ ap (λ (t : Tree). with_node t n (empty_node c.args.sort)) c.self.view_is)
