use Rattle.std.proofs.Common.{◌∙◌, ap, sym}
use Rattle.pv_model.specs.declared.target.Target.TheVariants.{Directory}
use Rattle.pv_model.specs.Machine.{Table, entry_for}
use Rattle.pv_unveil.proofs.EntryKeys.{own-entry, unmarked-entry}
use Rattle.pv_unveil.proofs.entries.Entries.for_directory.Goals as goal

pub returns-clause-value : goal.returns-clause-value
returns-clause-value c =
    c.number_of.ensures ∙ c.index_of_directory.ensures
    ∙ own-entry c.self.inside.entries.items c.as_slice.result.now c.args.directory (c.as_slice.ensures.value ∙ c.self.invariant.keys)
    ∙ ap (λ (table : Table). entry_for table (Directory c.args.directory)) c.self.view_is

pub returns-then-not-has_directory-clause-value : goal.returns-then-not-has_directory-clause-value
returns-then-not-has_directory-clause-value c =
    let i = c.self.inside in
    sym (unmarked-entry i.entries.items i.keys.items i.marks _ (Directory c.args.directory) c.self.invariant (sym c.has_directory.ensures ∙ c.if-not-has_directory.true))
    ∙ ap (λ (table : Table). entry_for table (Directory c.args.directory)) c.self.view_is
