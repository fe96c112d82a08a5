use Rattle.std.proofs.Common.{ap, refl}
use Rattle.pv_tree.specs.Holding.{HeldTree}
use Rattle.pv_image_manifest.specs.Contents.{entry_of_content}
use Rattle.pv_host_copy.proofs.ImportSteps.{entry-steps}
use Rattle.pv_host_copy.proofs.importing.Importing.add.Goals as goal

pub returns-in-Ok-clause-goes : goal.returns-in-Ok-clause-goes
returns-in-Ok-clause-goes c =
    entry-steps c.args.self.now _ (entry_of_content c.args.path.now c.args.content.now) _ (ap (λ (h : HeldTree). h.tree) c.deref_mut.ensures.value) c.in-Ok.ensures.made refl refl
