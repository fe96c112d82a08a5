use Rattle.std.proofs.Common.{◌≡◌, ap, sym, subst, ◌∙◌, Ok, Err}
use Rattle.std.specs.Prelude.{[], ◌+◌, drop}
use Rattle.std.proofs.lemmas.Result.{err_from_is_err_and}
use Rattle.pv_image_manifest.specs.Reading.{manifest_before}
use Rattle.pv_image_manifest.specs.Building.{MakesTreeOrError}
use Rattle.pv_image_manifest.specs.Entries.{entry_of_line}
use Rattle.pv_model.specs.Machine.{add_entry, tree_of}
use Rattle.pv_image_manifest.proofs.EntrySequences.{IsBuiltSoFar, IsBuiltSoFar-start, IsBuiltSoFar-step, IsBuiltSoFar-refused, IsBuiltSoFar-end, refuses, next_entry}
use Rattle.std.proofs.Math.ListN.{drop_of_length-le}
use Rattle.pv_tree.specs.Holding.{HeldTree, IsUnheld}
use Rattle.pv_image_manifest.proofs.building.build.Goals as goal

pub loop-entry-init : goal.loop-entry-init
loop-entry-init c =
    let m = c.args.manifest.now in
    subst (λ es. IsBuiltSoFar es c.into_tree-tree.result.value (manifest_before m [])) (sym c.deref-entry-items.ensures.value)
    (IsBuiltSoFar-start m c.into_tree-tree.result.value (c.into_tree-tree.ensures.tree ∙ c.in_ok-store.ensures) c.into_tree-tree.ensures.unheld)

pub add-requires : goal.add-requires
add-requires c = ap (λ (h : HeldTree). h.tree.version) c.deref_mut.ensures.value ∙ c.loop-entry.invariant.version

pub returns-in_err-add : goal.returns-in_err-add
returns-in_err-add c =
    let items = c.deref-entry-items.result.now in
    let i = c.loop-entry.entry-index in
    let m = manifest_before c.args.manifest.now [] in
    let first = next_entry items i c.entry-item.result c.loop-entry-test.true c.entry-item.is in
    let p = err_from_is_err_and c.from_residual-in_err-add.result c.from_residual-in_err-add.ensures.1 in
    rw (p.1, p.2)
    (refuses c.in_err-add.field-0.0 (tree_of m)
    (IsBuiltSoFar-refused (drop i items) c.loop-entry.tree.value m c.loop-entry.invariant c.entry-item.result (drop (i + 1) items) first c.in_err-add.field-0.0
    (subst (λ (h : HeldTree). add_entry c.entry-item.result.line h.tree (entry_of_line c.entry-item.result).1 ≡ Err c.in_err-add.field-0.0) c.deref_mut.ensures.value c.in_err-add.ensures)))

pub loop-entry-preserved : goal.loop-entry-preserved
loop-entry-preserved c =
    let items = c.deref-entry-items.result.now in
    let i = c.loop-entry.entry-index in
    let m = manifest_before c.args.manifest.now [] in
    let first = next_entry items i c.entry-item.result c.loop-entry-test.true c.entry-item.is in
    IsBuiltSoFar-step (drop i items) c.loop-entry.tree.value m c.loop-entry.invariant c.entry-item.result (drop (i + 1) items) first c.in_ok-add.field-0 c.add.new.tree
    (subst (λ (h : HeldTree). MakesTreeOrError (Ok c.in_ok-add.field-0) (add_entry c.entry-item.result.line h.tree (entry_of_line c.entry-item.result).1) h c.add.new.tree) c.deref_mut.ensures.value c.in_ok-add.ensures)

pub of_tree-requires : goal.of_tree-requires
of_tree-requires c = subst (λ (h : HeldTree). IsUnheld h.holds) (sym (c.order_entries.ensures ∙ c.deref_mut-2.ensures.value)) c.loop-entry.invariant.unheld

pub returns : goal.returns
returns c =
    let items = c.deref-entry-items.result.now in
    let i = c.loop-entry.entry-index in
    IsBuiltSoFar-end (drop i items) c.loop-entry.tree.value (manifest_before c.args.manifest.now []) c.loop-entry.invariant (drop_of_length-le items c.loop-entry-test.false)
    ∙ ap (λ t. Ok t) (sym (c.of_tree.ensures ∙ ap (λ (h : HeldTree). h.tree) (c.order_entries.ensures ∙ c.deref_mut-2.ensures.value)))
