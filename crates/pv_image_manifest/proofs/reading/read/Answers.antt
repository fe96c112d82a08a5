use Rattle.std.proofs.Common.{◌∙◌}
use Rattle.std.proofs.lemmas.Result.{err_from_is_err_and}
use Rattle.pv_model.specs.Machine.{lines_of, entry_of}
use Rattle.pv_model.specs.Grammar.Manifests.{manifest_by}
use Rattle.pv_image_manifest.proofs.TextEnds.{end_of_end, end_after_line}
use Rattle.pv_image_manifest.proofs.WholeManifests.{error_of_entries, with_listed, sizes_refused, sizes_taken, refuses_along}
use Rattle.pv_image_manifest.proofs.reading.read.Goals as goal

pub returns-in_err-entries-clause-exact : goal.returns-in_err-entries-clause-exact
returns-in_err-entries-clause-exact c =
    let p = err_from_is_err_and c.from_residual.result c.from_residual.ensures.1 in
    rw (p.1, p.2)
    (refuses_along _ _ (manifest_by c.args.in_bundle entry_of (lines_of c.args.bytes.now))
    (error_of_entries c.args.in_bundle c.args.bytes.now c.in-Some.first.now c.in-Some.rest.now c.in-Some.ensures.lines c.in-Some-sizes.block_count c.in-Some-sizes.inode_count c.in-Some-sizes.ensures)
    c.in_err-entries.ensures.exact)

pub returns-then-not-are_image_sizes-clause-exact : goal.returns-then-not-are_image_sizes-clause-exact
returns-then-not-are_image_sizes-clause-exact c =
    with_listed c.args.in_bundle c.args.bytes.now c.in-Some.first.now c.in-Some.rest.now c.in-Some.ensures.lines c.in-Some-sizes.block_count c.in-Some-sizes.inode_count c.in-Some-sizes.ensures _
    c.in_ok-entries.ensures.exact
    ∙ sizes_refused c.in-Some-sizes.block_count c.in-Some-sizes.inode_count _ c.if-not-are_image_sizes.ensures

pub returns-clause-exact : goal.returns-clause-exact
returns-clause-exact c =
    with_listed c.args.in_bundle c.args.bytes.now c.in-Some.first.now c.in-Some.rest.now c.in-Some.ensures.lines c.in-Some-sizes.block_count c.in-Some-sizes.inode_count c.in-Some-sizes.ensures _
    c.in_ok-entries.ensures.exact
    ∙ sizes_taken c.in-Some-sizes.block_count c.in-Some-sizes.inode_count _ c.if-not-are_image_sizes.ensures

pub returns-clause-end : goal.returns-clause-end
returns-clause-end c =
    end_of_end c.in_ok-entries.following.now c.in-Some.rest.now c.args.bytes.now c.in_ok-entries.ensures.end
    (end_after_line c.args.bytes.now c.in-Some.first.now c.in-Some.rest.now c.in-Some.ensures.bytes)
