use Rattle.std.proofs.Common.{[], rules}
use Rattle.std.proofs.lemmas.Result.{err_from_is_err_and}
use Rattle.pv_image_manifest.specs.Reading.{manifest_before}
use Rattle.pv_run.specs.Making.{tree_made}
use Rattle.pv_run.proofs.ManifestImages.{made-tree, made_whole, refuses_manifest, refuses_tree, unmade}
use Rattle.pv_run.proofs.making.make_image.Goals as goal

pub returns-in_err-manifest : goal.returns-in_err-manifest
returns-in_err-manifest g c =
    let p = err_from_is_err_and c.from_residual.result c.from_residual.ensures.1 in
    let refused = refuses_manifest c.args.bytes.now (g.W.Sink.written c.args.image.now) c.in_err-manifest.field-0.0 p.0 p.2 c.in_err-manifest.ensures in
    rw p.1 (search (rules, refused))

pub returns-in_err-store : goal.returns-in_err-store
returns-in_err-store g c =
    let p = err_from_is_err_and c.from_residual-in_err-store.result c.from_residual-in_err-store.ensures.1 in
    let refused = refuses_tree c.args.bytes.now (g.W.Sink.written c.args.image.now) (manifest_before c.in_ok-manifest.manifest []) c.in_ok-manifest.ensures
    c.in_err-store.field-0.0 p.0 p.2 c.in_err-store.ensures in
    rw p.1 (search (rules, refused))

pub returns : goal.returns
returns g c =
    let before = g.W.Sink.written c.args.image.now in
    let after = g.W.Sink.written c.write_image.new.image in
    let is = made-tree c.args.bytes.now before (manifest_before c.in_ok-manifest.manifest []) c.in_ok-manifest.ensures c.in_ok-store.store c.in_ok-store.ensures in
    let made = made_whole (tree_made c.args.bytes.now) c.in_ok-store.store c.tree.result.now.tree is c.invariant.ensures.named c.tree.ensures.tree
    before after c.write_image.result c.write_image.ensures.whole in
    let refused = unmade (tree_made c.args.bytes.now) c.in_ok-store.store c.tree.result.now.tree is c.invariant.ensures.named c.tree.ensures.tree
    before after c.write_image.result c.write_image.ensures.kind c.write_image.ensures.cut c.write_image.ensures.memory in
    search (rules, made, refused)
