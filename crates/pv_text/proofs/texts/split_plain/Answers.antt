use Rattle.std.proofs.Common.{◌∙◌, ap, length, not}
use Rattle.std.specs.Prelude.{unwrap_or}
use Rattle.pv_model.specs.Machine.{is_plain}
use Rattle.pv_text.proofs.TextLines.{position_or_length}
use Rattle.pv_text.proofs.WordsAndTexts.{IsFront-split}
use Rattle.pv_text.proofs.texts.split_plain.Goals as goal

pub returns : goal.returns
returns c =
    let bytes = c.args.bytes.now in
    rw (c.split_at.ensures.front, c.split_at.ensures.back)
    (IsFront-split bytes c.unwrap_or.result
    (c.unwrap_or.ensures ∙ ap (λ o. unwrap_or o (length bytes)) c.plain_end.ensures ∙ position_or_length (λ b. not (is_plain b)) bytes))
