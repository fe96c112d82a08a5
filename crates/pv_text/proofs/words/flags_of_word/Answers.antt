use Rattle.std.proofs.Common.{sym}
use Rattle.pv_model.specs.Grammar.Arguments.{parsed_flags}
use Rattle.pv_text.proofs.WordsAndTexts.{something_left}
use Rattle.pv_text.proofs.words.flags_of_word.Goals as goal

pub returns-in_default : goal.returns-in_default
unfolding parsed_flags
returns-in_default c =
    rw (
      c.in_ok-mode.ensures,
      ← c.flag-append.ensures.rest,
      ← c.flag-create.ensures.rest,
      ← c.flag-truncate.ensures.rest,
      ← c.flag-exclusive.ensures.rest,
      ← c.flag-no_follow.ensures.rest,
      ← c.flag-directory.ensures.rest,
      ← c.flag-close_on_exec.ensures.rest,
    ) (sym (something_left c.flag-close_on_exec.result.1.now _ c.in_default.len_at_least))
