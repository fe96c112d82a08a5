use Rattle.std.proofs.Common.{subst, sym, ap, ◌∙◌, Some, arith}
use Rattle.std.specs.Prelude.{option_map, IsSome}
use Rattle.pv_model.specs.Machine.{size_of, greatest_length, Tree, node_at}
use Rattle.pv_dirs.proofs.FileContents.{size_directory, size_other}
use Rattle.pv_dirs.proofs.FileTrees.{used_in}
use Rattle.pv_dirs.proofs.EqualParts.{few_allowed}
use Rattle.pv_dirs.proofs.TreeViews.{viewed_version}
use Rattle.pv_dirs.proofs.directories.Directories.size.Goals as goal

pub invariant_of-dir : goal.invariant_of-dir
invariant_of-dir c = record { used = used_in c.self.inside.inodes c.args.inode (subst (λ (t : Tree). IsSome (node_at t c.args.inode)) (sym c.self.view_is) c.requires) }

pub kind-requires : goal.kind-requires
kind-requires c = used_in c.self.inside.inodes c.args.inode (subst (λ (t : Tree). IsSome (node_at t c.args.inode)) (sym c.self.view_is) c.requires)

pub returns-in-Directory-clause-value : goal.returns-in-Directory-clause-value
returns-in-Directory-clause-value c =
    ap (λ (t : Tree). option_map size_of (node_at t c.args.inode)) (sym c.self.view_is)
    ∙ size_directory c.self.inside.inodes c.self.inside.block_count c.args.inode c.self.invariant.holding (c.kind.ensures ∙ ap Some c.in-Directory.is)
    ∙ ap Some (sym c.count.ensures.value)

pub returns-in_default-clause-value : goal.returns-in_default-clause-value
returns-in_default-clause-value c =
    ap (λ (t : Tree). option_map size_of (node_at t c.args.inode)) (sym c.self.view_is)
    ∙ size_other c.self.inside.inodes c.args.inode c.kind.result c.kind.ensures c.in_default.not-Directory
    ∙ ap Some (sym c.size.ensures.value)

pub returns-in-Directory-clause-allowed : goal.returns-in-Directory-clause-allowed
returns-in-Directory-clause-allowed c = omega (arith, few_allowed c.args.self.now.version, c.count.ensures.few)

pub returns-in_default-clause-allowed : goal.returns-in_default-clause-allowed
returns-in_default-clause-allowed c = omega (arith, ap greatest_length (viewed_version c.self.inside.inodes c.args.self.now c.self.view_is), c.size.ensures.allowed)
