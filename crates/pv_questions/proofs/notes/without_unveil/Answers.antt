use Rattle.std.proofs.Common.{◌∙◌, ℕ, ap, filter, rules}
use Rattle.std.proofs.lemmas.Fn.{filter_same}
use Rattle.pv_model.specs.Machine.{process_at}
use Rattle.pv_model_questions.specs.Notes.{has_dropped_unveil}
use Rattle.pv_questions.proofs.notes.without_unveil.Goals as goal

pub returns : goal.returns
returns c =
    let test = λ (pid : ℕ). has_dropped_unveil (process_at c.args.parts.now pid) in
    filter_same _ test _ (λ x b f' k. search rules) _ _ c.retain.ensures.filtered ∙ ap (filter test) c.in_ok-pids.ensures
