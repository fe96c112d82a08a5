use Rattle.std.proofs.Common.{◌∙◌, ap, length}
use Rattle.std.specs.Prelude.{unwrap_or}
use Rattle.pv_text.proofs.TextLines.{position_or_length}
use Rattle.pv_source.proofs.words.first_blank.Goals as goal

pub returns-clause-first : goal.returns-clause-first
returns-clause-first c =
    c.unwrap_or.ensures ∙ ap (λ o. unwrap_or o (length c.args.bytes.now)) c.blank_at.ensures ∙ position_or_length _ c.args.bytes.now
