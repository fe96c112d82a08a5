use Rattle.std.proofs.Common.{◌∙◌, subst, sym}
use Rattle.std.specs.Prelude.{IfOk}
use Rattle.pv_model.specs.Machine.{spaced, sizes_of, between, words_from}
use Rattle.pv_source.specs.LineCheck.{AgreesWithJudgement}
use Rattle.pv_model.specs.Source.Judged.{image_so_far}
use Rattle.pv_source.proofs.SourceEntries.{held_found}
use Rattle.pv_source.proofs.so_far.judged_image.Goals as goal

pub returns-in-Some-clause-found : goal.returns-in-Some-clause-found
returns-in-Some-clause-found c =
    let found = held_found (sizes_of (spaced (words_from c.args.words.now between))) c.in-Some.blocks c.in-Some.inodes (sym c.in-Some.is ∙ c.in_ok-blocks.ensures) in
    subst (λ o. IfOk c.judged_sizes.result (AgreesWithJudgement (image_so_far o))) (sym found.1) (c.judged_sizes.ensures.found found.0 found.2)
