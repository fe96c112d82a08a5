use Rattle.std.proofs.Common.{sym, ◌∙◌}
use Rattle.pv_text.proofs.TextLines.{lines_past, lines_to_end, split_past, split_at_end}
use Rattle.pv_text.proofs.lines.split_line.Goals as goal

pub returns-in-empty-clause-lines : goal.returns-in-empty-clause-lines
returns-in-empty-clause-lines c =
    lines_to_end _ _ _ _ (sym c.is_empty.ensures ∙ c.if-is_empty.false) c.first_of.ensures.first c.split_at.ensures.front c.split_at.ensures.back c.in-empty.len_below

pub returns-in-len1-up-clause-lines : goal.returns-in-len1-up-clause-lines
returns-in-len1-up-clause-lines c =
    lines_past _ _ _ _ (sym c.is_empty.ensures ∙ c.if-is_empty.false) c.first_of.ensures.first c.split_at.ensures.front c.split_at.ensures.back

pub returns-in-empty-clause-bytes : goal.returns-in-empty-clause-bytes
returns-in-empty-clause-bytes c = split_at_end _ _ _ _ c.split_at.ensures.front c.split_at.ensures.back c.in-empty.len_below

pub returns-in-len1-up-clause-bytes : goal.returns-in-len1-up-clause-bytes
returns-in-len1-up-clause-bytes c = split_past _ _ _ _ c.first_of.ensures.first c.split_at.ensures.front c.split_at.ensures.back c.in-len1-up.len_at_least
