use Rattle.std.proofs.Common.{sym, ap, subst, ◌∙◌}
use Rattle.pv_model.specs.Machine.{Tree}
use Rattle.pv_dirs.specs.declared.index.Index.{Index}
use Rattle.pv_dirs.specs.Index.{bucket_at, known}
use Rattle.pv_dirs.specs.Sizes.{HaveSameSizes}
use Rattle.pv_dirs.specs.Trees.{tree_of_files}
use Rattle.pv_dirs.proofs.ChangedIndex.{indexed-alike}
use Rattle.pv_dirs.proofs.directories.Directories.copy_from.Goals as goal

pub copy_from-requires : goal.copy_from-requires
unfolding tree_of_files
copy_from-requires c =
    let other : HaveSameSizes c.args.self.now (tree_of_files c.other.inside.inodes) = subst (λ (t : Tree). HaveSameSizes c.args.self.now t) (sym c.other.view_is) c.requires in
    let both : HaveSameSizes (tree_of_files c.self.inside.inodes) (tree_of_files c.other.inside.inodes) = subst (λ (t : Tree). HaveSameSizes t (tree_of_files c.other.inside.inodes)) (sym c.self.view_is) other in
    record { version = both.version; inodes = both.inodes; blocks = both.blocks }

-- lookups in the index give the same as those in the other one
pub invariant_of-self : goal.invariant_of-self
invariant_of-self c =
    let index = c.other.inside.index.value in
    rw c.copy_from.ensures (record {
      holding = c.other.invariant.holding;
      indexed = indexed-alike c.other.inside.inodes index c.copy_from-2.new.self
          (λ d name. c.copy_from-2.ensures.said d name ∙ ap (λ (ix : Index). bucket_at ix d name) c.deref.ensures)
          (λ d. c.copy_from-2.ensures.known d ∙ ap (λ (ix : Index). known ix d) c.deref.ensures)
          c.other.invariant.indexed;
    })
