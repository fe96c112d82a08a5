use Rattle.std.proofs.Common.{Option, None, Some, sym, subst, arith, Bor}
use Rattle.std.specs.Option.{option_copied}
use Rattle.pv_model.specs.Machine.{Bytes}
use Rattle.pv_laws_trees.proofs.Trees.{ordered}
use Rattle.pv_tree.specs.NodeNames.{last_name_of}
use Rattle.pv_tree.proofs.NameOrder.{next-found, rest-found}
use Rattle.pv_tree.proofs.NextNames.{IsFrom, from-of, from-higher, down-none, down-found, down-all}
use Rattle.pv_tree.proofs.tree.Tree.next_name.Goals as goal
use Rattle.pv_tree.proofs.tree.Tree.next_name.Goals.{then-directory-first, else-directory-first}

pub returns-in-Some-next_name_of-clause-least : goal.returns-in-Some-next_name_of-clause-least
returns-in-Some-next_name_of-clause-least c =
    let d = c.loop-directory.directory in
    let from : IsFrom (last_name_of c.args.last) d (option_copied c.if-directory-first.from) =
    elim c.if-directory-first.branch [
      | then-directory-first w ↦
          subst (λ (o : Option (Bor Bytes)). IsFrom (last_name_of c.args.last) d (option_copied o)) (sym w.from-is)
          (from-of (last_name_of c.args.last) c.match-last.first.0 (option_copied c.match-last.first.1) d c.loop-directory.invariant.cut w.if-directory-first.true)
      | else-directory-first w ↦
          subst (λ (o : Option (Bor Bytes)). IsFrom (last_name_of c.args.last) d (option_copied o)) (sym w.from-is)
          (from-higher (last_name_of c.args.last) c.match-last.first.0 (option_copied c.match-last.first.1) d c.loop-directory.invariant.cut (omega (arith, w.if-directory-first.false, c.loop-directory.auto.directory)))
    ] in
    down-found c.args.self.now.tree c.args.node (last_name_of c.args.last) d (option_copied c.if-directory-first.from) c.in-Some-next_name_of.name c.loop-directory.invariant.down from c.in-Some-next_name_of.ensures

pub returns-in-Some-next_name_of-clause-value : goal.returns-in-Some-next_name_of-clause-value
returns-in-Some-next_name_of-clause-value c =
    next-found c.args.self.now.tree (ordered c.args.self.now.tree c.sizes-directory-end.ensures.present.well_formed.each_node) c.args.node (last_name_of c.args.last)
    (Some (c.loop-directory.directory, c.in-Some-next_name_of.name)) (returns-in-Some-next_name_of-clause-least c)

pub returns-in-Some-next_name_of-clause-rest : goal.returns-in-Some-next_name_of-clause-rest
returns-in-Some-next_name_of-clause-rest c =
    rest-found c.args.self.now.tree (ordered c.args.self.now.tree c.sizes-directory-end.ensures.present.well_formed.each_node) c.args.node (last_name_of c.args.last)
    (Some (c.loop-directory.directory, c.in-Some-next_name_of.name)) (returns-in-Some-next_name_of-clause-least c)

pub loop-directory-preserved : goal.loop-directory-preserved
loop-directory-preserved c =
    let d = c.loop-directory.directory in
    let from : IsFrom (last_name_of c.args.last) d (option_copied c.if-directory-first.from) =
    elim c.if-directory-first.branch [
      | then-directory-first w ↦
          subst (λ (o : Option (Bor Bytes)). IsFrom (last_name_of c.args.last) d (option_copied o)) (sym w.from-is)
          (from-of (last_name_of c.args.last) c.match-last.first.0 (option_copied c.match-last.first.1) d c.loop-directory.invariant.cut w.if-directory-first.true)
      | else-directory-first w ↦
          subst (λ (o : Option (Bor Bytes)). IsFrom (last_name_of c.args.last) d (option_copied o)) (sym w.from-is)
          (from-higher (last_name_of c.args.last) c.match-last.first.0 (option_copied c.match-last.first.1) d c.loop-directory.invariant.cut (omega (arith, w.if-directory-first.false, c.loop-directory.auto.directory)))
    ] in
    record {
      cut = c.loop-directory.invariant.cut;
      down = down-none c.args.self.now.tree c.args.node (last_name_of c.args.last) d (option_copied c.if-directory-first.from) c.loop-directory.invariant.down from c.in_default.ensures;
    }

pub returns-clause-least : goal.returns-clause-least
returns-clause-least c =
    let numbers = c.sizes-directory-end.ensures.present.well_formed.numbers in
    down-all c.args.self.now.tree c.args.node (last_name_of c.args.last) c.loop-directory.directory c.loop-directory.invariant.down
    (omega (arith, numbers, c.sizes-directory-end.ensures.inodes, c.loop-directory-test.false, c.loop-directory.auto.directory-end))

pub returns-clause-value : goal.returns-clause-value
returns-clause-value c =
    next-found c.args.self.now.tree (ordered c.args.self.now.tree c.sizes-directory-end.ensures.present.well_formed.each_node) c.args.node (last_name_of c.args.last) None (returns-clause-least c)

pub returns-clause-rest : goal.returns-clause-rest
returns-clause-rest c =
    rest-found c.args.self.now.tree (ordered c.args.self.now.tree c.sizes-directory-end.ensures.present.well_formed.each_node) c.args.node (last_name_of c.args.last) None (returns-clause-least c)
