use Rattle.std.proofs.Common.{◌≡◌, ◌∙◌, ◌+◌, ap, ap₂, sym, subst, w32, length, drop, IsSome, arith}
use Rattle.std.proofs.lemmas.Int.{to_z-of_z}
use Rattle.std.proofs.lemmas.List.{length-take}
use Rattle.pv_calls_plain.specs.Performed.{IsOn}
use Rattle.pv_model.specs.declared.limits.TheConstants.{BUFFER}
use Rattle.pv_model.specs.Machine.{update, with_front, done, within, bytes_of, returns_bytes, with_file, at_number, is_file, OpenFile, process_at, reads, is_directory_at, node_at}
use Rattle.pv_laws_states.proofs.ValidByProcess.{within-limit}
use Rattle.pv_calls_state.specs.Changes.{bytes_read}
use Rattle.pv_calls_state.proofs.UncountedChanges.{some-at}
use Rattle.pv_calls_plain.proofs.FileCalls.{file-part, is-plain, offset-moved, read-is}
use Rattle.pv_calls_plain.proofs.ReportedCollections.{live-update}
use Rattle.pv_calls_plain.proofs.files.read_front.Goals as goal

pub read_front-taken-requires-clause-file : goal.read_front-taken-requires-clause-file
read_front-taken-requires-clause-file c =
    let s = c.args.parts.now in
    let k = c.in-Some.file in
    let file = some-at (at_number s.files k) c.in-Some.ensures.opened in
    let f = file.0 in
    let node = file-part (λ (f : OpenFile). f.node) c.files-2.result.now.files s.files k f c.node-node.result c.files-2.ensures c.node-node.ensures file.1 in
    let plain = ap₂ is_directory_at (sym c.tree.ensures) (sym node) ∙ sym c.is_directory.ensures ∙ c.if-is_directory.false in
    ap (λ n. is_file (node_at s.tree n)) node ∙ is-plain s c.requires.whole k f file.1 plain

pub overflow_add-offset : goal.overflow_add-offset
overflow_add-offset c =
    let s = c.args.parts.now in
    let k = c.in-Some.file in
    let file = some-at (at_number s.files k) c.in-Some.ensures.opened in
    let f = file.0 in
    let offset = file-part (λ (f : OpenFile). f.offset) c.files-3.result.now.files s.files k f c.offset-offset.result c.files-3.ensures c.offset-offset.ensures file.1 in
    let low = (c.requires.whole.files.each k f file.1).offset in
    let count = c.in-Some-within.count in
    let few = within-limit BUFFER c.args.n count (ap (within BUFFER) (sym (to_z-of_z w32 c.args.n c.ranges.n)) ∙ sym c.within.ensures ∙ c.in-Some-within.is) in
    omega (arith, offset, low, c.read_front-taken.ensures.count, length-take count (drop c.offset-offset.result (bytes_of (node_at s.tree c.node-node.result))), few)

pub returns-clause-performed : goal.returns-clause-performed
returns-clause-performed c = λ me at.
    let s = c.args.parts.now in
    let k = c.in-Some.file in
    let count = c.in-Some-within.count in
    let on : IsOn s me c.args.d k = subst (λ z. IsOn s me z k) (to_z-of_z w32 c.args.d c.ranges.d) (c.in-Some.ensures.file me at) in
    let f = on.file in
    let mode = file-part (λ (f : OpenFile). f.mode) c.files.result.now.files s.files k f c.mode.result c.files.ensures c.mode.ensures on.there in
    let node = file-part (λ (f : OpenFile). f.node) c.files-2.result.now.files s.files k f c.node-node.result c.files-2.ensures c.node-node.ensures on.there in
    let offset = file-part (λ (f : OpenFile). f.offset) c.files-3.result.now.files s.files k f c.offset-offset.result c.files-3.ensures c.offset-offset.ensures on.there in
    let may = ap reads (sym mode) ∙ sym c.reads.ensures ∙ c.if-not-reads.false in
    let low = ap (within BUFFER) (sym (to_z-of_z w32 c.args.n c.ranges.n)) ∙ sym c.within.ensures ∙ c.in-Some-within.is in
    let plain = ap₂ is_directory_at (sym c.tree.ensures) (sym node) ∙ sym c.is_directory.ensures ∙ c.if-is_directory.false in
    let bytes = bytes_read s.tree f.node f.offset count in
    let same : bytes_read s.tree c.node-node.result c.offset-offset.result count ≡ bytes = ap₂ (λ n o. bytes_read s.tree n o count) node offset in
    let long = c.read_front-taken.ensures.count ∙ ap length same in
    record {
      after = with_file s k (record f { offset = f.offset + length bytes });
      bytes = bytes;
      long = long;
      gives = read-is s c.args.pid me c.args.d k f on.opened c.args.n count may low plain
          ∙ ap (λ m. done 0 (with_file s k (record f { offset = f.offset + length bytes }), returns_bytes m bytes)) (sym long);
      front = offset-moved s c.read_front-taken.new.self c.set_offset.new.self c.args.pid k f bytes _ on.there
          (c.read_front-taken.ensures.front ∙ ap (λ bs. update s c.args.pid (with_front bs)) same) c.set_offset.ensures
          ∙ ap₂ (λ o m. update (with_file s k (record f { offset = o + m })) c.args.pid (with_front bytes)) offset long;
    }

pub returns-clause-live : goal.returns-clause-live
returns-clause-live c =
    let s = c.args.parts.now in
    let file = some-at (at_number s.files c.in-Some.file) c.in-Some.ensures.opened in
    let moved = offset-moved s c.read_front-taken.new.self c.set_offset.new.self c.args.pid c.in-Some.file file.0 _ _ file.1 c.read_front-taken.ensures.front c.set_offset.ensures in
    subst (λ x. IsSome (process_at x c.args.pid)) (sym moved) (live-update _ c.args.pid _ c.requires.live)
