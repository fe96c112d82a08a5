use Rattle.std.proofs.Common.{◌≡◌, ◌∙◌, ◌+◌, ap, sym, subst, ℕ, Some}
use Rattle.pv_image_write.proofs.EntryLists.{front-none, front-some, some-is}
use Rattle.pv_model.specs.Answers.Numbers.{name_numbers}
use Rattle.pv_model.specs.Machine.{Bytes, entries_at, find_entry}
use Rattle.pv_state_encoding.specs.Packed.{IsAdded}
use Rattle.pv_state_encoding.proofs.TreeNumbers.{IsEncoded, all-met, met, encoded-start, encoded-step}
use Rattle.pv_state_encoding.proofs.trees.push_each_entry.Goals as goal

pub unreachable-requires : goal.unreachable-requires
unreachable-requires c =
    let t = c.args.tree.now.tree in
    let e = met t c.args.directory c.invariant.ensures.well_formed c.loop-entry.entry c.size-entry-end.result c.args.key.now.items c.loop-entry.key.items c.loop-entry.last c.requires c.size-entry-end.ensures.value c.loop-entry-test.true c.loop-entry.invariant in
    front-none _ e.0.0 c.in_default.is (c.next.ensures.name ∙ e.1.next)

pub loop-entry-init : goal.loop-entry-init
loop-entry-init c = encoded-start (entries_at c.args.tree.now.tree c.args.directory) c.args.key.now.items

pub loop-entry-preserved : goal.loop-entry-preserved
loop-entry-preserved c =
    let t = c.args.tree.now.tree in
    let es = entries_at t c.args.directory in
    let e = met t c.args.directory c.invariant.ensures.well_formed c.loop-entry.entry c.size-entry-end.result c.args.key.now.items c.loop-entry.key.items c.loop-entry.last c.requires c.size-entry-end.ensures.value c.loop-entry-test.true c.loop-entry.invariant in
    let name = front-some _ c.in-Some.name e.0.0 c.in-Some.node c.in-Some.is (c.next.ensures.name ∙ e.1.next) in
    let both : Some c.in-Some.node ≡ Some e.0.1 = sym c.in-Some.ensures.node ∙ ap (find_entry t c.args.directory) name ∙ e.1.found in
    let node = some-is c.in-Some.node e.0.1 both in
    let entry : (c.in-Some.name, c.in-Some.node) ≡ e.0 = λ i. (name i, node i) in
    subst (λ (o : Bytes). IsEncoded es (c.loop-entry.entry + 1) c.args.key.now.items c.push_entry.new.key.items (Some o)) (sym name)
    (encoded-step es c.loop-entry.entry c.args.key.now.items c.loop-entry.key.items c.push_entry.new.key.items c.loop-entry.last e.0 c.loop-entry.invariant e.1.there
    (subst (λ (x : Bytes × ℕ). IsAdded (name_numbers x) c.loop-entry.key.items c.push_entry.new.key.items) entry c.in_ok-push_entry.ensures))

pub returns : goal.returns
returns c =
    all-met c.args.tree.now.tree c.args.directory c.invariant.ensures.well_formed c.loop-entry.entry c.size-entry-end.result c.args.key.now.items c.loop-entry.key.items c.loop-entry.last c.requires c.size-entry-end.ensures.value c.loop-entry-test.false c.loop-entry.invariant
