use Rattle.std.proofs.Common.{ap, sym, ◌∙◌, is_some}
use Rattle.pv_image_manifest.proofs.AddedEntries.{add-parent, add-exists, add-in, gives-along}
use Rattle.pv_image_manifest.proofs.adding.add_entry.Goals as goal

pub returns-in_default-clause-made : goal.returns-in_default-clause-made
returns-in_default-clause-made c = λ line. add-parent c.args.tree.now.tree c.args.path.now c.args.content.now line c.in_default.ensures.found

pub returns-then-is_some-clause-made : goal.returns-then-is_some-clause-made
returns-then-is_some-clause-made c = λ line.
    add-exists c.args.tree.now.tree c.args.path.now c.args.content.now line c.in-Some.directory c.in-Some.name.now
    c.in-Some.ensures.found (sym (ap is_some c.find.ensures) ∙ sym c.is_some.ensures ∙ c.if-is_some.true)

pub returns-clause-made : goal.returns-clause-made
returns-clause-made c =
    gives-along c.make.result _ _ c.make.new.tree.tree
    (λ line.
    add-in c.args.tree.now.tree c.args.path.now c.args.content.now line c.in-Some.directory c.in-Some.name.now
    c.in-Some.ensures.found (sym (ap is_some c.find.ensures) ∙ sym c.is_some.ensures ∙ c.if-is_some.false))
    (c.make.ensures.made c.args.path.now)
