use Rattle.std.proofs.Common.{◌≡◌, ◌++◌, ◌-◌, ◌∙◌, ap, sym, subst, drop, take, length, codes, arith, ℕ, Option, rules}
use Rattle.std.proofs.lemmas.List.{take_all, drop_all}
use Rattle.pv_model.specs.Machine.{entries_at}
use Rattle.pv_streams.proofs.OutputTexts.{begins_first, on_err}
use Rattle.pv_listing.specs.Lines.{entries_after, last_name, IsNextChild}
use Rattle.pv_listing.proofs.DirectoryNames.{past-none, last-is, front-is, length-path}
use Rattle.pv_listing.proofs.EntryLines.{no-entries, lines-are, node_left, entry_first}
use Rattle.pv_streams.proofs.TextRemainders.{rest_after, rest_begins, written_text, written_begins}
use Rattle.pv_listing.proofs.listing.+write_within.Goals as goal

pub returns-in_err-write-clause-written : goal.returns-in_err-write-clause-written
returns-in_err-write-clause-written g t c = record {
  whole = search rules;
  prefix =
      (let tree = c.args.tree.now.tree in
      let line = g.R.Remarks.line c.args.remarks.now in
      let path = c.args.path.now.items in
      rw (lines-are tree line c.args.depth path c.args.node (omega arith))
      (on_err c.from_residual.result (begins_first _ _ _ _ (rw c.as_slice.ensures.value at c.in_err-write.ensures.prefix))));
  failed = search rules;
  quiet = search rules;
}

pub returns-then-not-is_directory-clause-written : goal.returns-then-not-is_directory-clause-written
returns-then-not-is_directory-clause-written g t c = record {
  whole =
      (let tree = c.args.tree.now.tree in
      let line = g.R.Remarks.line c.args.remarks.now in
      written_text _ _ _
      (node_left tree line c.args.depth c.args.path.now.items c.args.node _ _ _ (omega arith)
      (no-entries tree c.args.node (sym c.is_directory.ensures ∙ c.if-not-is_directory.true)) (rw c.as_slice.ensures.value at c.in_ok-write.ensures.whole)));
  prefix = search rules;
  failed = search rules;
  quiet = search rules;
}

pub loop-child-init : goal.loop-child-init
loop-child-init g t c =
    let tree = c.args.tree.now.tree in
    let line = g.R.Remarks.line c.args.remarks.now in
    let path = c.args.path.now.items in
    let es = entries_at tree c.args.node in
    let long : length path ≡ c.len-base.result = omega (arith, c.as_slice.ensures.len, ap length c.as_slice.ensures.value, c.len-base.ensures) in
    let all : entries_after (last_name (drop c.len-base.result path)) es ≡ es =
    ap (λ bs. entries_after (last_name bs) es) (drop_all c.len-base.result path (omega arith)) ∙ past-none es in
    record {
      within = omega (arith, c.len-base.ensures);
      front = take_all c.len-base.result path (omega arith);
      left = node_left tree line c.args.depth path c.args.node _ _ _ (omega arith) (sym all) (rw c.as_slice.ensures.value at c.in_ok-write.ensures.whole);
      quiet = c.in_ok-write.ensures.quiet;
    }

pub returns-in_err-child-clause-written : goal.returns-in_err-child-clause-written
returns-in_err-child-clause-written g t c = record {
  whole = search rules;
  prefix = (on_err c.from_residual-in_err-child.result (written_begins _ _ _ _ c.loop-child.invariant.left));
  failed = search rules;
  quiet = search rules;
}

pub loop-child-preserved : goal.loop-child-preserved
loop-child-preserved g t c =
    let tree = c.args.tree.now.tree in
    let line = g.R.Remarks.line c.args.remarks.now in
    let path = c.args.path.now.items in
    let es = entries_at tree c.args.node in
    let base = c.len-base.result in
    let last = last_name (drop base c.loop-child.path.items) in
    let long : length path ≡ base = omega (arith, c.as_slice.ensures.len, ap length c.as_slice.ensures.value, c.len-base.ensures) in
    let next = subst (λ (o : Option ℕ). IsNextChild es last (take base c.loop-child.path.items) o c.next_child.new.path.items) c.in-Some.is c.in_ok-child.ensures in
    let name = next.0 in
    let at : c.next_child.new.path.items ≡ path ++ codes "/" ++ name = next.2 ∙ ap (λ d. d ++ codes "/" ++ name) c.loop-child.invariant.front in
    let after : c.write_within.new.path.items ≡ path ++ codes "/" ++ name = c.in_ok-write_within.ensures.path ∙ at in
    record {
      within = omega (arith, length-path path name c.write_within.new.path.items after);
      front = front-is path name c.write_within.new.path.items base long after;
      left =
          rw (last-is path name c.write_within.new.path.items base long after)
          (rest_after _ _ _ _ _ _ _ c.loop-child.invariant.left
          (entry_first tree line (c.args.depth - 1) path c.next_child.new.path.items name es last c.in-Some.child next.1 at) c.in_ok-write_within.ensures.written.whole);
      quiet = c.in_ok-write_within.ensures.written.quiet ∙ c.loop-child.invariant.quiet;
    }

pub returns-in_err-write_within-clause-written : goal.returns-in_err-write_within-clause-written
returns-in_err-write_within-clause-written g t c = record {
  whole = search rules;
  prefix =
      (let tree = c.args.tree.now.tree in
      let line = g.R.Remarks.line c.args.remarks.now in
      let path = c.args.path.now.items in
      let es = entries_at tree c.args.node in
      let base = c.len-base.result in
      let last = last_name (drop base c.loop-child.path.items) in
      let next = subst (λ (o : Option ℕ). IsNextChild es last (take base c.loop-child.path.items) o c.next_child.new.path.items) c.in-Some.is c.in_ok-child.ensures in
      let at : c.next_child.new.path.items ≡ path ++ codes "/" ++ next.0 = next.2 ∙ ap (λ d. d ++ codes "/" ++ next.0) c.loop-child.invariant.front in
      on_err c.from_residual-in_err-write_within.result
      (rest_begins _ _ _ _ _ _ _ c.loop-child.invariant.left
      (entry_first tree line (c.args.depth - 1) path c.next_child.new.path.items next.0 es last c.in-Some.child next.1 at) c.in_err-write_within.ensures.written.prefix));
  failed = search rules;
  quiet = search rules;
}
