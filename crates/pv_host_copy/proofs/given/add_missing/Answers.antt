use Rattle.std.proofs.Common.{◌+◌, ◌∙◌, ap, drop, sym}
use Rattle.std.specs.Prelude.{map}
use Rattle.pv_image_manifest.specs.Contents.{entry_of_content}
use Rattle.pv_image_manifest.specs.Entries.{entry_of_line}
use Rattle.pv_image_manifest.specs.Paths.{is_path}
use Rattle.pv_model.specs.Machine.{add_entry}
use Rattle.pv_host_copy.proofs.FirstPaths.{next_first}
use Rattle.pv_host_copy.proofs.SourceEntries.{added-next, added-present, content-in_version, path-in_version}
use Rattle.pv_host_copy.proofs.given.add_missing.Goals as goal

pub loop-entry-preserved-then-is_present : goal.loop-entry-preserved-then-is_present
loop-entry-preserved-then-is_present c =
    let given = c.args.given.now in
    let i = c.loop-entry.entry-index in
    let e = c.entry-item.result in
    let front = next_first given i e c.loop-entry-test.true c.entry-item.is in
    record {
      so_far = added-present (map entry_of_line given) c.args.tree.now.tree (map entry_of_line (drop i given)) c.loop-entry.tree.tree c.loop-entry.invariant.so_far
          (entry_of_line e) (map entry_of_line (drop (i + 1) given)) (ap (map entry_of_line) front) (sym c.is_present.ensures ∙ c.if-is_present.true);
      holds = c.loop-entry.invariant.holds;
    }

pub add_entry-requires-clause-named : goal.add_entry-requires-clause-named
add_entry-requires-clause-named c =
    let v = c.loop-entry.tree.tree.version in
    ap (is_path v) c.deref.ensures.value ∙ path-in_version v c.entry-item.result.path.items c.entry-item.result.named

pub add_entry-requires-clause-formed : goal.add_entry-requires-clause-formed
add_entry-requires-clause-formed c = content-in_version c.loop-entry.tree.tree.version c.entry-item.result.content c.entry-item.result.formed

pub loop-entry-preserved : goal.loop-entry-preserved
loop-entry-preserved c =
    let given = c.args.given.now in
    let i = c.loop-entry.entry-index in
    let e = c.entry-item.result in
    let now = c.loop-entry.tree.tree in
    let front = next_first given i e c.loop-entry-test.true c.entry-item.is in
    record {
      so_far = added-next (map entry_of_line given) c.args.tree.now.tree (map entry_of_line (drop i given)) now c.loop-entry.invariant.so_far
          (entry_of_line e) (map entry_of_line (drop (i + 1) given)) (ap (map entry_of_line) front) c.add_entry.new.tree.tree (sym c.is_present.ensures ∙ c.if-is_present.false)
          (ap (λ p. add_entry e.line now (entry_of_content p e.content)) (sym c.deref.ensures.value) ∙ c.in_default.ensures.made e.line);
      holds = c.in_default.ensures.holds ∙ c.loop-entry.invariant.holds;
    }
