use Rattle.std.proofs.Common.{◌≡◌, ◌∙◌, ◌<◌, Option, None, Some, length, sym, subst, arith, ap}
use Rattle.pv_model.specs.Machine.{Bytes, entries_of_table, names_of}
use Rattle.pv_audit.proofs.NameAccess.{Named, IsOfNode, of-next, of-directory}
use Rattle.pv_audit.specs.Findings.{governing, passing}
use Rattle.pv_model_questions.specs.Fixed.{lets_edit}
use Rattle.pv_tree.specs.NodeNames.{names_after, names_from}
use Rattle.pv_exposure.proofs.EditingEntries.{IsGiving, giving-first, giving-more, giving-all}
use Rattle.pv_exposure.proofs.edit.least_giving.Goals as goal

pub loop-next-init : goal.loop-next-init
loop-next-init c =
    let t = c.args.tree.now.tree in
    let n = c.args.node in
    record {
      giving = giving-first t (entries_of_table c.args.table.now.table) c.args.in_place (names_of t n) c.next_name-next.result c.next_name-next.ensures.rest;
      of_node = of-next t n None c.next_name-next.result c.next_name-next.ensures.least;
    }

pub name_entry-entry-requires : goal.name_entry-entry-requires
name_entry-entry-requires c =
    let t = c.args.tree.now.tree in
    of-directory t c.args.node (c.in-Some.directory, c.in-Some.name) (subst (λ (o : Option Named). IsOfNode t c.args.node o) c.in-Some.is c.loop-next.invariant.of_node)

pub loop-next-smaller : goal.loop-next-smaller
loop-next-smaller c =
    let t = c.args.tree.now.tree in
    let n = c.args.node in
    let x : Named = (c.in-Some.directory, c.in-Some.name) in
    let next : names_after (Some x) (names_of t n) ≡ names_from c.next_name-next-in-Some.result (names_of t n) =
    subst (λ (name : Bytes). names_after (Some (c.in-Some.directory, name)) (names_of t n) ≡ names_from c.next_name-next-in-Some.result (names_of t n)) c.as_slice-in-Some.ensures.value c.next_name-next-in-Some.ensures.rest in
    let fewer : length (names_from c.next_name-next-in-Some.result (names_of t n)) < length (names_from (Some x) (names_of t n)) = omega (arith, ap length next) in
    subst (λ (o : Option Named). length (names_from c.next_name-next-in-Some.result (names_of t n)) < length (names_from o (names_of t n))) (sym c.in-Some.is) fewer

pub loop-next-preserved : goal.loop-next-preserved
loop-next-preserved c =
    let t = c.args.tree.now.tree in
    let table = entries_of_table c.args.table.now.table in
    let n = c.args.node in
    let x : Named = (c.in-Some.directory, c.in-Some.name) in
    let next : names_after (Some x) (names_of t n) ≡ names_from c.next_name-next-in-Some.result (names_of t n) =
    subst (λ (name : Bytes). names_after (Some (c.in-Some.directory, name)) (names_of t n) ≡ names_from c.next_name-next-in-Some.result (names_of t n)) c.as_slice-in-Some.ensures.value c.next_name-next-in-Some.ensures.rest in
    record {
      giving = giving-more t table c.args.in_place (names_of t n) x c.next_name-next-in-Some.result c.loop-next.least c.lesser-least.result c.passing.result
          (subst (λ (o : Option Named). IsGiving t table c.args.in_place (names_of t n) o c.loop-next.least) c.in-Some.is c.loop-next.invariant.giving) next
          (c.passing.ensures
          ∙ ap (passing (lets_edit c.args.in_place) table)
          (c.name_entry-entry.ensures.value
          ∙ ap (λ (name : Bytes). governing t table (c.in-Some.directory, name)) c.as_slice.ensures.value))
          c.lesser-least.ensures;
      of_node = of-next t n (Some (c.in-Some.directory, c.as_slice-in-Some.result.now)) c.next_name-next-in-Some.result c.next_name-next-in-Some.ensures.least;
    }

pub returns : goal.returns
returns c =
    let t = c.args.tree.now.tree in
    giving-all t (entries_of_table c.args.table.now.table) c.args.in_place (names_of t c.args.node) c.loop-next.least
    (subst (λ (o : Option Named). IsGiving t (entries_of_table c.args.table.now.table) c.args.in_place (names_of t c.args.node) o c.loop-next.least) c.in_default.is c.loop-next.invariant.giving)
