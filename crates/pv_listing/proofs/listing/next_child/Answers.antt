use Rattle.std.proofs.Common.{ℕ, ◌+◌, ◌∙◌, Some, ap, sym, subst, drop, take, length, arith}
use Rattle.std.specs.Prelude.{option_map}
use Rattle.std.specs.Slice.{IsGetRangeResult}
use Rattle.pv_model.specs.Machine.{Bytes, next_name, entries_at}
use Rattle.pv_tree.proofs.OfLawsTrees.Trees.{ordered}
use Rattle.pv_listing.specs.Lines.{last_name}
use Rattle.pv_listing.proofs.DirectoryNames.{child-none, child-some, last-got}
use Rattle.pv_listing.proofs.listing.next_child.Goals as goal

pub returns-in_default : goal.returns-in_default
returns-in_default c =
    let path = c.args.path.now.items in
    let es = entries_at c.args.tree.now.tree c.args.directory in
    let got = last-got path c.args.base c.get.result (omega (arith, c.requires.within, c.deref.ensures.len, ap length c.deref.ensures.value))
    (subst (λ (bs : Bytes). IsGetRangeResult bs (c.args.base + 1) (length bs) c.get.result) c.deref.ensures.value c.get.ensures.lookup) in
    child-none es (last_name (drop c.args.base path)) (take c.args.base path) c.truncate.new.self.items
    (ap (λ last. next_name last es) (sym got) ∙ sym c.next_entry-next.ensures.value ∙ ap (option_map (λ (e : Bytes × ℕ). e.0)) c.in_default.is) c.truncate.ensures.items

pub returns : goal.returns
returns c =
    let path = c.args.path.now.items in
    let es = entries_at c.args.tree.now.tree c.args.directory in
    let got = last-got path c.args.base c.get.result (omega (arith, c.requires.within, c.deref.ensures.len, ap length c.deref.ensures.value))
    (subst (λ (bs : Bytes). IsGetRangeResult bs (c.args.base + 1) (length bs) c.get.result) c.deref.ensures.value c.get.ensures.lookup) in
    child-some es (last_name (drop c.args.base path)) (take c.args.base path) c.extend_from_slice.new.self.items c.in-Some.name (Some c.in-Some.child)
    (ordered c.args.tree.now.tree c.requires.well_formed.each_node c.args.directory)
    (ap (λ last. next_name last es) (sym got) ∙ sym c.in-Some.ensures.value)
    (sym c.in-Some.ensures.node)
    (cc (c.in_ok-extend_from_slice.ensures.items, c.in_ok-push.ensures.items, c.truncate.ensures.items, c.as_slice.ensures.value))
