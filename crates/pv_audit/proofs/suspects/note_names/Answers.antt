use Rattle.std.proofs.Common.{◌≡◌, ◌<◌, Option, None, Some, length, sym, subst}
use Rattle.pv_model.specs.Machine.{Bytes, Tree, names_of}
use Rattle.pv_calls_state.specs.OfTree.NodeNames.{names_after, names_from, IsNextNameOfNode}
use Rattle.pv_audit.proofs.NameAccess.{Named, IsNotedTo, IsOfNode, with_name_noted-all, with_name_noted-first, with_name_noted-next, with_name_noted-fewer, of-next, of-directory}
use Rattle.pv_audit.proofs.suspects.note_names.Goals as goal

pub loop-next-init : goal.loop-next-init
loop-next-init c =
    let t = c.args.parts.now.tree in
    let n = c.args.node in
    record {
      noted = with_name_noted-first c.args.parts.now (names_of t n) c.next_name-next.result c.args.suspects.now c.requires
          (subst (λ (u : Tree). names_after None (names_of u n) ≡ names_from c.next_name-next.result (names_of u n)) c.tree-tree.ensures c.next_name-next.ensures.rest);
      of_node = of-next t n None c.next_name-next.result (subst (λ (u : Tree). IsNextNameOfNode u n None c.next_name-next.result) c.tree-tree.ensures c.next_name-next.ensures.least);
    }

pub note_name-requires-clause-directory : goal.note_name-requires-clause-directory
note_name-requires-clause-directory c =
    let t = c.args.parts.now.tree in
    of-directory t c.args.node (c.in-Some.directory, c.in-Some.name) (subst (λ (o : Option Named). IsOfNode t c.args.node o) c.in-Some.is c.loop-next.invariant.of_node)

pub loop-next-smaller : goal.loop-next-smaller
loop-next-smaller c =
    let t = c.args.parts.now.tree in
    let n = c.args.node in
    let x : Named = (c.in-Some.directory, c.in-Some.name) in
    let next : names_after (Some x) (names_of t n) ≡ names_from c.next_name-next-in-Some.result (names_of t n) =
    subst (λ (name : Bytes). names_after (Some (c.in-Some.directory, name)) (names_of t n) ≡ names_from c.next_name-next-in-Some.result (names_of t n)) c.as_slice.ensures.value
    (subst (λ (u : Tree). names_after (Some (c.in-Some.directory, c.as_slice.result.now)) (names_of u n) ≡ names_from c.next_name-next-in-Some.result (names_of u n)) c.tree-tree.ensures c.next_name-next-in-Some.ensures.rest) in
    let fewer = with_name_noted-fewer c.args.parts.now (names_of t n) x c.next_name-next-in-Some.result next in
    subst (λ (o : Option Named). length (names_from c.next_name-next-in-Some.result (names_of t n)) < length (names_from o (names_of t n))) (sym c.in-Some.is) fewer

pub loop-next-preserved : goal.loop-next-preserved
loop-next-preserved c =
    let s = c.args.parts.now in
    let t = s.tree in
    let n = c.args.node in
    let x : Named = (c.in-Some.directory, c.in-Some.name) in
    let next : names_after (Some x) (names_of t n) ≡ names_from c.next_name-next-in-Some.result (names_of t n) =
    subst (λ (name : Bytes). names_after (Some (c.in-Some.directory, name)) (names_of t n) ≡ names_from c.next_name-next-in-Some.result (names_of t n)) c.as_slice.ensures.value
    (subst (λ (u : Tree). names_after (Some (c.in-Some.directory, c.as_slice.result.now)) (names_of u n) ≡ names_from c.next_name-next-in-Some.result (names_of u n)) c.tree-tree.ensures c.next_name-next-in-Some.ensures.rest) in
    record {
      noted = with_name_noted-next s (names_of t n) x c.next_name-next-in-Some.result c.args.suspects.now c.loop-next.suspects c.note_name.new.suspects
          (subst (λ (o : Option Named). IsNotedTo s (names_of t n) o c.args.suspects.now c.loop-next.suspects) c.in-Some.is c.loop-next.invariant.noted) next c.note_name.ensures;
      of_node = of-next t n (Some (c.in-Some.directory, c.as_slice.result.now)) c.next_name-next-in-Some.result
          (subst (λ (u : Tree). IsNextNameOfNode u n (Some (c.in-Some.directory, c.as_slice.result.now)) c.next_name-next-in-Some.result) c.tree-tree.ensures c.next_name-next-in-Some.ensures.least);
    }

pub returns : goal.returns
returns c =
    let t = c.args.parts.now.tree in
    with_name_noted-all c.args.parts.now (names_of t c.args.node) c.args.suspects.now c.loop-next.suspects
    (subst (λ (o : Option Named). IsNotedTo c.args.parts.now (names_of t c.args.node) o c.args.suspects.now c.loop-next.suspects) c.in_default.is c.loop-next.invariant.noted)
