use Rattle.std.proofs.Common.{◌∙◌, sym, ap, subst, bytes_eq, List, ℕ, ◌∷◌, ◌++◌, [], if◌then◌else◌, arith}
use Rattle.std.specs.List.{list_any}
use Rattle.pv_explore.specs.Rows.{parts_in}
use Rattle.pv_reduced.specs.Lists.{AreRows}
use Rattle.pv_reduced.proofs.ListSets.{list-known, lists-added, lists-counted, lists-now, rows-added, rows-grew}
use Rattle.pv_reduced.proofs.part_lists.PartLists.add.Goals as goal

pub invariant_of-self : goal.invariant_of-self
invariant_of-self c = rows-grew c.self.inside.parts c.learn_row.new.parts c.learn_row.ensures.grew c.self.inside.rows c.self.invariant

pub invariant_of-self-then-contains : goal.invariant_of-self-then-contains
invariant_of-self-then-contains c = rows-grew c.self.inside.parts c.learn_row.new.parts c.learn_row.ensures.grew c.self.inside.rows c.self.invariant

pub returns-then-contains : goal.returns-then-contains
returns-then-contains c =
    let parts = c.self.inside.parts in
    let rows = c.self.inside.rows in
    let lists = c.args.self.now in
    let now = c.learn_row.new.parts in
    let list = parts_in c.args.list.now in
    let row = c.in_ok-row.row.items in
    let known = list-known parts rows c.self.invariant lists c.self.view_is now c.learn_row.ensures.grew list c.in_ok-row.ensures.visited row c.in_ok-row.ensures.row c.deref.result.now c.deref.ensures.value in (
      sym known ∙ sym c.contains.ensures ∙ c.if-contains.true,
      lists-now parts rows c.self.invariant lists c.self.view_is now c.learn_row.ensures.grew list c.in_ok-row.ensures.visited row c.in_ok-row.ensures.row,
    )

pub invariant_of-self-then-len-limit : goal.invariant_of-self-then-len-limit
invariant_of-self-then-len-limit c = rows-grew c.self.inside.parts c.learn_row.new.parts c.learn_row.ensures.grew c.self.inside.rows c.self.invariant

pub returns-then-len-limit : goal.returns-then-len-limit
returns-then-len-limit c =
    let parts = c.self.inside.parts in
    let rows = c.self.inside.rows in
    let lists = c.args.self.now in
    let now = c.learn_row.new.parts in
    let list = parts_in c.args.list.now in
    let row = c.in_ok-row.row.items in
    let known = list-known parts rows c.self.invariant lists c.self.view_is now c.learn_row.ensures.grew list c.in_ok-row.ensures.visited row c.in_ok-row.ensures.row c.deref.result.now c.deref.ensures.value in
    let count = lists-counted parts rows c.self.invariant lists c.self.view_is now c.learn_row.ensures.grew list c.in_ok-row.ensures.visited row c.in_ok-row.ensures.row in (
      sym known ∙ sym c.contains.ensures ∙ c.if-contains.false,
      omega (arith, c.if-len-limit.true, c.len.ensures, count),
      lists-now parts rows c.self.invariant lists c.self.view_is now c.learn_row.ensures.grew list c.in_ok-row.ensures.visited row c.in_ok-row.ensures.row,
    )

pub invariant_of-self-in_err-add : goal.invariant_of-self-in_err-add
invariant_of-self-in_err-add c =
    subst (AreRows c.learn_row.new.parts) (sym c.in_err-add.ensures.unchanged)
    (rows-grew c.self.inside.parts c.learn_row.new.parts c.learn_row.ensures.grew c.self.inside.rows c.self.invariant)

pub invariant_of-self-2 : goal.invariant_of-self-2
invariant_of-self-2 c =
    let parts = c.self.inside.parts in
    let rows = c.self.inside.rows in
    let lists = c.args.self.now in
    let now = c.learn_row.new.parts in
    let list = parts_in c.args.list.now in
    let row = c.in_ok-row.row.items in
    let other = ap (λ (r : List ℕ). list_any (bytes_eq r) rows) (sym c.deref.ensures.value) ∙ sym c.contains.ensures ∙ c.if-contains.false in
    let added = c.in_ok-add.ensures.added ∙ ap (λ b. if b then rows else rows ++ row ∷ []) other in
    rows-added parts rows c.self.invariant lists c.self.view_is now c.learn_row.ensures.grew list c.in_ok-row.ensures.visited row c.in_ok-row.ensures.row c.add.new.self added

pub returns : goal.returns
returns c =
    let parts = c.self.inside.parts in
    let rows = c.self.inside.rows in
    let lists = c.args.self.now in
    let now = c.learn_row.new.parts in
    let list = parts_in c.args.list.now in
    let row = c.in_ok-row.row.items in
    let other = ap (λ (r : List ℕ). list_any (bytes_eq r) rows) (sym c.deref.ensures.value) ∙ sym c.contains.ensures ∙ c.if-contains.false in
    let added = c.in_ok-add.ensures.added ∙ ap (λ b. if b then rows else rows ++ row ∷ []) other in
    let known = list-known parts rows c.self.invariant lists c.self.view_is now c.learn_row.ensures.grew list c.in_ok-row.ensures.visited row c.in_ok-row.ensures.row c.deref.result.now c.deref.ensures.value in
    let count = lists-counted parts rows c.self.invariant lists c.self.view_is now c.learn_row.ensures.grew list c.in_ok-row.ensures.visited row c.in_ok-row.ensures.row in (
      sym known ∙ sym c.contains.ensures ∙ c.if-contains.false,
      omega (arith, c.if-len-limit.false, c.len.ensures, count),
      lists-added parts rows c.self.invariant lists c.self.view_is now c.learn_row.ensures.grew list c.in_ok-row.ensures.visited row c.in_ok-row.ensures.row c.add.new.self added,
    )
