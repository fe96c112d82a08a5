use Rattle.std.proofs.Common.{Ok, refl, subst}
use Rattle.pv_model.specs.Machine.{add_entry}
use Rattle.pv_tree.specs.Holding.{HeldTree}
use Rattle.pv_image_manifest.specs.Building.{MakesTreeOrError}
use Rattle.pv_image_manifest.specs.Entries.{entry_of_line}
use Rattle.pv_image_manifest.proofs.TreePrefixes.{IsGrown-more}
use Rattle.pv_image_manifest.proofs.growing.Growing.with.Goals as goal

pub invariant_of-result-2 : goal.invariant_of-result-2
invariant_of-result-2 c =
    let e = c.args.entry in
    IsGrown-more c.self.inside.manifest _ c.self.inside.tree.value c.add.new.tree e c.in_default.field-0 c.self.invariant
    (subst (λ (h : HeldTree). MakesTreeOrError (Ok c.in_default.field-0) (add_entry e.line h.tree (entry_of_line e).1) h c.add.new.tree) c.deref_mut.ensures.value c.in_default.ensures) refl refl
    c.in_ok-push.ensures.items
