use Rattle.std.proofs.Common.{◌∙◌, ap, sym}
use Rattle.pv_model.specs.declared.target.Target.TheVariants.{Name}
use Rattle.pv_model.specs.Machine.{Table, entry_for}
use Rattle.pv_unveil.proofs.EntryKeys.{unmarked-entry}
use Rattle.pv_unveil.proofs.entries.Entries.for_name.Goals as goal

pub returns-then-not-has_name-clause-value : goal.returns-then-not-has_name-clause-value
returns-then-not-has_name-clause-value c =
    let i = c.self.inside in
    sym (unmarked-entry i.entries.items i.keys.items i.marks _ (Name c.args.directory c.args.name.now) c.self.invariant (sym c.has_name.ensures ∙ c.if-not-has_name.true))
    ∙ ap (λ (table : Table). entry_for table (Name c.args.directory c.args.name.now)) c.self.view_is
