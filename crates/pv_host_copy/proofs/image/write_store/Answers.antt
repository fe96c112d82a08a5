use Rattle.std.proofs.Common.{subst}
use Rattle.std.proofs.lemmas.Result.{on_ok_weaker}
use Rattle.pv_image_write.specs.Written.{BeginsImage, WritesImage}
use Rattle.pv_model.specs.Machine.{named_tree, Tree}
use Rattle.pv_host_copy.proofs.WholeImport.{reports-tree, begins-tree}
use Rattle.pv_host_copy.proofs.image.write_store.Goals as goal

pub returns : goal.returns
returns g c =
    let before = g.W.Sink.written c.args.image.now in
    let after = g.W.Sink.written c.write_tree.new.image in
    let named = c.invariant.ensures.named in
    record {
      whole = on_ok_weaker c.write_tree.result
          (λ image. reports-tree c.args.store.now before after named (subst (λ (t : Tree). WritesImage (named_tree t) before after) c.tree.ensures.tree image))
          c.write_tree.ensures.whole;
      cut = λ is. begins-tree c.args.store.now before after named
          (subst (λ (t : Tree). BeginsImage (named_tree t) before after) c.tree.ensures.tree (c.write_tree.ensures.cut is));
      failed = c.write_tree.ensures.failed;
      memory = c.write_tree.ensures.memory;
      flushed = c.write_tree.ensures.flushed;
    }
