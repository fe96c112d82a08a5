use Rattle.std.proofs.Common.{◌∙◌, ap, sym, [], ◌∷◌, ◌++◌, arith}
use Rattle.std.specs.Prelude.{map}
use Rattle.std.proofs.lemmas.List.{append-nil}
use Rattle.pv_model.specs.Machine.{spaced, ended, between, words_from, lines_that_count}
use Rattle.pv_source.specs.Reading.{numbered_lines}
use Rattle.pv_source.proofs.SourcePrograms.{counting_first, counting_then}
use Rattle.pv_source.proofs.WrittenTexts.{ended_both}
use Rattle.pv_source.proofs.texts.push_turns.Goals as goal

pub loop-line-preserved : goal.loop-line-preserved
loop-line-preserved c =
    let first = counting_first (numbered_lines c.loop-line.rest) ∙ ap counting_then c.in-Some.ensures.counts in
    let later = ended (map (λ line. spaced line.1) (lines_that_count (numbered_lines c.in-Some.following))) in
    record {
      put =
          ap (λ bs. bs ++ later) c.in_ok-push_line.ensures
          ∙ ended_both c.loop-line.out.items (spaced (words_from c.in-Some.line.words.now between) ∷ []) (map (λ line. spaced line.1) (lines_that_count (numbered_lines c.in-Some.following)))
          ∙ ap (λ ls. c.loop-line.out.items ++ ended (map (λ line. spaced line.1) ls)) (sym first) ∙ c.loop-line.invariant.put;
      room = omega (arith, c.in-Some.ensures.room);
    }

pub returns : goal.returns
returns c =
    let none = counting_first (numbered_lines c.loop-line.rest) ∙ ap counting_then c.in_default.ensures.counts in
    sym (append-nil c.loop-line.out.items) ∙ ap (λ ls. c.loop-line.out.items ++ ended (map (λ line. spaced line.1) ls)) (sym none) ∙ c.loop-line.invariant.put
