use Rattle.std.proofs.Common.{◌≡◌, ◌+◌, ◌-◌, is_some, ap, ◌∙◌, arith}
use Rattle.pv_model.specs.Machine.{inode_blocks}
use Rattle.pv_tree.specs.Changes.{root_alone}
use Rattle.pv_tree.proofs.RootTree.{empty-tied, first-number, first-below, rooted-is}
use Rattle.pv_tree.proofs.tree.Tree.empty.Goals as goal

pub unreachable-requires : goal.unreachable-requires
unreachable-requires c =
    let first = first-number c.in_ok-directories.directories c.args.inodes c.in_ok-directories.ensures.nodes c.requires.sizes.some_inodes in
    let below = first-below c.in_ok-directories.directories c.args.inodes c.in_ok-directories.ensures.nodes in
    let full = c.fresh.ensures.full.0 (ap is_some c.in_default.is) in
    omega arith

pub returns-clause-tree : goal.returns-clause-tree
returns-clause-tree c =
    c.in-Some.ensures.after
    ∙ rooted-is c.args.version c.in_ok-directories.directories c.in-Some._root (c.args.blocks - (inode_blocks c.args.version c.args.inodes + 1)) c.args.inodes c.in_ok-directories.ensures.nodes (omega (arith, c.in_ok-directories.ensures.blocks))
    c.in_ok-directories.ensures.inodes c.in_ok-directories.ensures.version c.requires.sizes.some_inodes c.in-Some.ensures.least

pub invariant_of-result : goal.invariant_of-result
invariant_of-result c =
    let rooted : c.fresh.new.self ≡ root_alone c.args.version (c.args.blocks - (inode_blocks c.args.version c.args.inodes + 1)) c.args.inodes =
    c.in-Some.ensures.after
    ∙ rooted-is c.args.version c.in_ok-directories.directories c.in-Some._root (c.args.blocks - (inode_blocks c.args.version c.args.inodes + 1)) c.args.inodes c.in_ok-directories.ensures.nodes
    (omega (arith, c.in_ok-directories.ensures.blocks)) c.in_ok-directories.ensures.inodes c.in_ok-directories.ensures.version c.requires.sizes.some_inodes c.in-Some.ensures.least in
    rw (rooted, c.root_above_itself.ensures, c.no_names.ensures, c.no_holds.ensures)
    (empty-tied c.args.version (c.args.blocks - (inode_blocks c.args.version c.args.inodes + 1)) c.args.inodes c.requires.sizes.some_inodes c.requires.sizes.few_inodes)
