use Rattle.std.proofs.Common.{◌≡◌, ◌∙◌, subst}
use Rattle.std.specs.Prelude.{IfOk, option_map}
use Rattle.pv_image_manifest.specs.Entries.{entry_of_line}
use Rattle.pv_model.specs.Machine.{between, words_from}
use Rattle.pv_source.proofs.SourceEntries.{single_is, joined_is}
use Rattle.pv_source.proofs.entries.single_entry.Goals as goal

pub returns : goal.returns
returns c =
    let words = words_from c.args.words.now between in
    subst (λ e. IfOk c.line_entry.result (λ o. option_map entry_of_line o ≡ e))
    (single_is c.args.number words c.deref.result.now (c.deref.ensures.value ∙ joined_is _ _ _ c.in_ok-push_words.ensures c.new-line.ensures.items)) c.line_entry.ensures
