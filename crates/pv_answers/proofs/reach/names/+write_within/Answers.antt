use Rattle.std.proofs.Common.{ℕ, ◌-◌, ◌++◌, ◌∙◌, length, Option, None, Some, ap, sym, arith, rules}
use Rattle.pv_model.specs.declared.place.Place.TheVariants.{At}
use Rattle.pv_model.specs.Machine.{with_name, Bytes, next_name, Entries, entries_at}
use Rattle.pv_listing.specs.Lines.{entries_after}
use Rattle.pv_listing.proofs.DirectoryNames.{past-none}
use Rattle.pv_listing.proofs.EntryLines.{no-entries}
use Rattle.pv_streams.proofs.TextRemainders.{rest_after, rest_begins, written_text}
use Rattle.pv_streams.specs.Sinks.{and_all}
use Rattle.pv_streams.proofs.OutputTexts.{begins_first, on_err}
use Rattle.pv_answers.specs.Reaching.{lines_under, listed_lines_within, linked_path_bytes, reacher_state}
use Rattle.pv_answers.proofs.ListedLines.{child-is, lines-are, next-is, node_left, upcoming}
use Rattle.pv_streams.proofs.EqualOutputs.{begun_as}
use Rattle.pv_answers.proofs.reach.names.+write_within.Goals as goal

pub returns-in_err-write_name : goal.returns-in_err-write_name
returns-in_err-write_name g t c = record {
  whole = search rules;
  prefix =
      (let x = c.args.reacher.now in
      rw (lines-are x c.args.depth (linked_path_bytes c.args.path.now) c.args.place.now c.args.node (omega arith))
      (on_err c.from_residual.result (begins_first _ _ _ _ c.in_err-write_name.ensures.prefix)));
  failed = search rules;
  quiet = search rules;
}

pub returns-then-not-is_directory : goal.returns-then-not-is_directory
returns-then-not-is_directory g t c = record {
  whole =
      (let x = c.args.reacher.now in
      let none = no-entries (reacher_state x).tree c.args.node (rw c.tree-tree.ensures at (sym c.is_directory.ensures ∙ c.if-not-is_directory.true)) in
      written_text _ _ _ (node_left x c.args.depth (linked_path_bytes c.args.path.now) c.args.place.now c.args.node _ _ _ (omega arith) none c.in_ok-write_name.ensures.whole));
  prefix = search rules;
  failed = search rules;
  quiet = search rules;
}

pub loop-next-init : goal.loop-next-init
loop-next-init g t c =
    let x = c.args.reacher.now in
    let tree = (reacher_state x).tree in
    let n = c.args.node in
    let coming = sym (past-none (entries_at tree n))
    ∙ next-is tree c.tree-tree.result.now.tree c.tree-tree.ensures c.requires.well_formed n None c.next_entry-next.result c.next_entry-next.ensures.value c.next_entry-next.ensures.node in
    record {
      left = node_left x c.args.depth (linked_path_bytes c.args.path.now) c.args.place.now n (upcoming (entries_at tree n) c.next_entry-next.result) _ _ (omega arith) coming c.in_ok-write_name.ensures.whole;
      quiet = c.in_ok-write_name.ensures.quiet;
    }

pub returns-in_err-write_within : goal.returns-in_err-write_within
returns-in_err-write_within g t c = record {
  whole = search rules;
  prefix =
      (let x = c.args.reacher.now in
      let es = entries_at (reacher_state x).tree c.args.node in
      let path = linked_path_bytes c.args.path.now in
      let child = child-is x (c.args.depth - 1) path c.in-Some.name c.as_slice.result.now c.as_slice-in-Some.result.now c.at-spot.result c.args.node c.in-Some.child
      c.as_slice.ensures.value c.at-spot.ensures c.as_slice-in-Some.ensures.value in
      on_err c.from_residual-in_err-write_within.result
      (rest_begins _ (listed_lines_within x (c.args.depth - 1) (with_name c.in-Some.name path) (At c.args.node c.in-Some.name (Some c.in-Some.child)) c.in-Some.child)
      (lines_under x (c.args.depth - 1) path c.args.node (entries_after (Some c.in-Some.name) es)) _ _ _ _ c.loop-next.invariant.left
      (ap (λ (next : Option (Bytes × ℕ)). lines_under x (c.args.depth - 1) path c.args.node (upcoming es next)) c.in-Some.is)
      (begun_as _ _ _ _ child c.in_err-write_within.ensures.prefix)));
  failed = search rules;
  quiet = search rules;
}

pub loop-next-smaller : goal.loop-next-smaller
loop-next-smaller g t c =
    let x = c.args.reacher.now in
    let tree = (reacher_state x).tree in
    let es = entries_at tree c.args.node in
    let coming = next-is tree c.tree-tree.result.now.tree c.tree-tree.ensures c.requires.well_formed c.args.node (Some c.in-Some.name) c.next_entry-next-in-Some.result
    (c.next_entry-next-in-Some.ensures.value ∙ ap (λ (last : Bytes). next_name (Some last) (entries_at c.tree-tree.result.now.tree c.args.node)) c.as_slice-in-Some-2.ensures.value)
    c.next_entry-next-in-Some.ensures.node in
    omega (arith, ap length coming, ap (λ (next : Option (Bytes × ℕ)). length (upcoming es next)) c.in-Some.is)

pub loop-next-preserved : goal.loop-next-preserved
loop-next-preserved g t c =
    let x = c.args.reacher.now in
    let tree = (reacher_state x).tree in
    let es = entries_at tree c.args.node in
    let path = linked_path_bytes c.args.path.now in
    let lines = listed_lines_within x (c.args.depth - 1) (with_name c.in-Some.name path) (At c.args.node c.in-Some.name (Some c.in-Some.child)) c.in-Some.child in
    let child = child-is x (c.args.depth - 1) path c.in-Some.name c.as_slice.result.now c.as_slice-in-Some.result.now c.at-spot.result c.args.node c.in-Some.child
    c.as_slice.ensures.value c.at-spot.ensures c.as_slice-in-Some.ensures.value in
    let coming = next-is tree c.tree-tree.result.now.tree c.tree-tree.ensures c.requires.well_formed c.args.node (Some c.in-Some.name) c.next_entry-next-in-Some.result
    (c.next_entry-next-in-Some.ensures.value ∙ ap (λ (last : Bytes). next_name (Some last) (entries_at c.tree-tree.result.now.tree c.args.node)) c.as_slice-in-Some-2.ensures.value)
    c.next_entry-next-in-Some.ensures.node in
    record {
      left =
          rest_after _ lines (lines_under x (c.args.depth - 1) path c.args.node (upcoming es c.next_entry-next-in-Some.result)) _ _ _ _ c.loop-next.invariant.left
          (ap (λ (next : Option (Bytes × ℕ)). lines_under x (c.args.depth - 1) path c.args.node (upcoming es next)) c.in-Some.is
          ∙ ap (λ (rest : Entries). lines ++ lines_under x (c.args.depth - 1) path c.args.node rest) coming)
          (c.in_ok-write_within.ensures.whole ∙ ap (and_all (g.W.Sink.written c.loop-next.out)) child);
      quiet = c.in_ok-write_within.ensures.quiet ∙ c.loop-next.invariant.quiet;
    }
