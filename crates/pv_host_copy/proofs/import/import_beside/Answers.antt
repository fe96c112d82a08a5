use Rattle.std.proofs.Common.{◌≡◌, ◌∙◌, Ok, ap, subst, sym}
use Rattle.std.specs.Prelude.{map, option_map, IfSome}
use Rattle.std.proofs.lemmas.Result.{err_from_is_err_and}
use Rattle.pv_image_manifest.specs.Entries.{entry_of_line}
use Rattle.pv_tree.specs.Holding.{HeldTree}
use Rattle.pv_host_copy.specs.Given.{add_missing, merged_entries}
use Rattle.pv_host_copy.specs.Imported.{IsTreeOf}
use Rattle.pv_host_copy.specs.Stopped.{StopsGiven}
use Rattle.pv_host_copy.proofs.SourceEntries.{given-stops, merged}
use Rattle.pv_host_copy.proofs.import.import_beside.Goals as goal

pub returns-in_err-add_missing-clause-stopped : goal.returns-in_err-add_missing-clause-stopped
returns-in_err-add_missing-clause-stopped g c =
    let known = g.D.HostDirectory.rest c.args.directory in
    let v = c.args.version in
    let given = map entry_of_line c.args.given.now in
    let one = c.in_ok-imported.imported.store in
    let p = err_from_is_err_and c.from_residual-in_err-add_missing.result c.from_residual-in_err-add_missing.ensures.1 in
    rw (p.1, p.2)
    (given-stops v given known one c.in_err-add_missing.field-0.0
    (subst (λ p. IfSome (option_map (merged_entries given p) known) (λ host. IsTreeOf v host one)) c.new-path.ensures.items c.in_ok-imported.ensures.tree)
    (subst (λ t. StopsGiven given t c.in_err-add_missing.field-0.0) (ap (λ (h : HeldTree). h.tree) c.deref_mut.ensures.value ∙ c.into_tree-tree.ensures.tree) c.in_err-add_missing.ensures.stopped))

pub returns-clause-tree : goal.returns-clause-tree
returns-clause-tree g c =
    let known = g.D.HostDirectory.rest c.args.directory in
    let v = c.args.version in
    let given = map entry_of_line c.args.given.now in
    let one = c.in_ok-imported.imported.store in
    merged v given known one c.of_tree.result
    (subst (λ p. IfSome (option_map (merged_entries given p) known) (λ host. IsTreeOf v host one)) c.new-path.ensures.items c.in_ok-imported.ensures.tree)
    (ap (add_missing given) (sym (ap (λ (h : HeldTree). h.tree) c.deref_mut.ensures.value ∙ c.into_tree-tree.ensures.tree)) ∙ c.in_ok-add_missing.ensures.added
    ∙ ap Ok (sym (c.of_tree.ensures ∙ ap (λ (h : HeldTree). h.tree) (c.order_entries.ensures ∙ c.deref_mut-2.ensures.value))))
