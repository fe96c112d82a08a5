use Rattle.std.proofs.Common.{◌∙◌, ap, subst, sym, ℕ}
use Rattle.std.proofs.Math.Nat.{max_comm}
use Rattle.pv_access.specs.Answers.{access_lines_by}
use Rattle.pv_access.specs.OfNamedFiles.FirstPaths.{path_texts}
use Rattle.pv_exposure.specs.Answers.{exposed_lines_by}
use Rattle.pv_model.specs.Machine.{graph_lines, is_complete, program_of}
use Rattle.pv_policy.specs.OfReduced.Kinds.{explore_lines_by, is_complete_by, policy_lines_by}
use Rattle.pv_questions.specs.Answered.{StopsSearch}
use Rattle.pv_questions.specs.Answers.{end_of_search, search_answer, search_is_complete, search_lines}
use Rattle.pv_questions.specs.declared.question.Question.{Question}
use Rattle.pv_questions.specs.declared.question.Question.TheVariants as asked
use Rattle.pv_questions.proofs.QuestionAnswers.{complete-as, lines-as, no_search, part-as}
use Rattle.pv_questions.proofs.answering.write_found.Goals as goal

pub returns-in-Access-clause-written : goal.returns-in-Access-clause-written
returns-in-Access-clause-written g c =
    let here = c.in-Access in
    let s = c.args.machine.now in
    let most = c.max.ensures ∙ max_comm here.states 1 in
    lines-as ((λ i. access_lines_by (path_texts (c.to_array-paths.ensures i)) here.kind (most i) s)
    ∙ sym (ap (λ (q : Question). search_lines q s) here.is)) c.write_access.ensures.written

pub returns-in-Access-clause-complete : goal.returns-in-Access-clause-complete
returns-in-Access-clause-complete g c =
    let here = c.in-Access in
    let s = c.args.machine.now in
    let most = c.max.ensures ∙ max_comm here.states 1 in
    complete-as c.write_access.result (ap (λ (n : ℕ). is_complete_by here.kind n s) most
    ∙ sym (ap (λ (q : Question). search_is_complete q s) here.is)) c.write_access.ensures.complete

pub returns-in-Access-clause-stopped : goal.returns-in-Access-clause-stopped
returns-in-Access-clause-stopped g c =
    let here = c.in-Access in
    let s = c.args.machine.now in
    let most = c.max.ensures ∙ max_comm here.states 1 in
    λ e. subst (λ (q : Question). StopsSearch q (search_answer q s) (g.W.Sink.written c.args.out.now) (g.W.Sink.written c.write_access.new.out)) (sym here.is)
    (part-as (end_of_search (search_is_complete (asked.Access here.kind here.files here.states) s))
    (λ i. access_lines_by (path_texts (c.to_array-paths.ensures i)) here.kind (most i) s) (c.write_access.ensures.part e))

pub returns-in-Exposure-clause-written : goal.returns-in-Exposure-clause-written
returns-in-Exposure-clause-written g c =
    let here = c.in-Exposure in
    let s = c.args.machine.now in
    let most = c.max-in-Exposure.ensures ∙ max_comm here.states 1 in
    lines-as ((λ i. exposed_lines_by (path_texts (c.to_array-paths-in-Exposure.ensures i)) here.kind (most i) s)
    ∙ sym (ap (λ (q : Question). search_lines q s) here.is)) c.write_exposure.ensures.written

pub returns-in-Exposure-clause-complete : goal.returns-in-Exposure-clause-complete
returns-in-Exposure-clause-complete g c =
    let here = c.in-Exposure in
    let s = c.args.machine.now in
    let most = c.max-in-Exposure.ensures ∙ max_comm here.states 1 in
    complete-as c.write_exposure.result (ap (λ (n : ℕ). is_complete_by here.kind n s) most
    ∙ sym (ap (λ (q : Question). search_is_complete q s) here.is)) c.write_exposure.ensures.complete

pub returns-in-Exposure-clause-stopped : goal.returns-in-Exposure-clause-stopped
returns-in-Exposure-clause-stopped g c =
    let here = c.in-Exposure in
    let s = c.args.machine.now in
    λ e. subst (λ (q : Question). StopsSearch q (search_answer q s) (g.W.Sink.written c.args.out.now) (g.W.Sink.written c.write_exposure.new.out)) (sym here.is)
    (c.write_exposure.ensures.nothing e)

pub returns-in-Policy-clause-written : goal.returns-in-Policy-clause-written
returns-in-Policy-clause-written g c =
    let here = c.in-Policy in
    let s = c.args.machine.now in
    let most = c.max-in-Policy.ensures ∙ max_comm here.states 1 in
    lines-as (ap (λ (n : ℕ). policy_lines_by here.granted here.kind n s) most ∙ sym (ap (λ (q : Question). search_lines q s) here.is)) c.write_policy.ensures.written

pub returns-in-Policy-clause-complete : goal.returns-in-Policy-clause-complete
returns-in-Policy-clause-complete g c =
    let here = c.in-Policy in
    let s = c.args.machine.now in
    let most = c.max-in-Policy.ensures ∙ max_comm here.states 1 in
    complete-as c.write_policy.result (ap (λ (n : ℕ). is_complete_by here.kind n s) most
    ∙ sym (ap (λ (q : Question). search_is_complete q s) here.is)) c.write_policy.ensures.complete

pub returns-in-Policy-clause-stopped : goal.returns-in-Policy-clause-stopped
returns-in-Policy-clause-stopped g c =
    let here = c.in-Policy in
    let s = c.args.machine.now in
    λ e. subst (λ (q : Question). StopsSearch q (search_answer q s) (g.W.Sink.written c.args.out.now) (g.W.Sink.written c.write_policy.new.out)) (sym here.is)
    (c.write_policy.ensures.nothing e)

pub returns-in-Graph-clause-written : goal.returns-in-Graph-clause-written
returns-in-Graph-clause-written g c =
    let here = c.in-Graph in
    let s = c.args.machine.now in
    let most = c.max-in-Graph.ensures ∙ max_comm here.states 1 in
    lines-as (ap (λ (n : ℕ). graph_lines program_of n here.tree s) most ∙ sym (ap (λ (q : Question). search_lines q s) here.is)) c.write_graph.ensures.written

pub returns-in-Graph-clause-complete : goal.returns-in-Graph-clause-complete
returns-in-Graph-clause-complete g c =
    let here = c.in-Graph in
    let s = c.args.machine.now in
    let most = c.max-in-Graph.ensures ∙ max_comm here.states 1 in
    complete-as c.write_graph.result (ap (λ (n : ℕ). is_complete program_of n s) most ∙ sym (ap (λ (q : Question). search_is_complete q s) here.is)) c.write_graph.ensures.complete

pub returns-in-Graph-clause-stopped : goal.returns-in-Graph-clause-stopped
returns-in-Graph-clause-stopped g c =
    let here = c.in-Graph in
    let s = c.args.machine.now in
    let most = c.max-in-Graph.ensures ∙ max_comm here.states 1 in
    λ e. subst (λ (q : Question). StopsSearch q (search_answer q s) (g.W.Sink.written c.args.out.now) (g.W.Sink.written c.write_graph.new.out)) (sym here.is)
    (part-as (end_of_search (search_is_complete (asked.Graph here.tree here.states) s)) (ap (λ (n : ℕ). graph_lines program_of n here.tree s) most) (c.write_graph.ensures.part e))

pub returns-in-Explore-clause-written : goal.returns-in-Explore-clause-written
returns-in-Explore-clause-written g c =
    let here = c.in-Explore in
    let s = c.args.machine.now in
    let most = c.max-in-Explore.ensures ∙ max_comm here.states 1 in
    lines-as (ap (λ (n : ℕ). explore_lines_by here.kind n s) most ∙ sym (ap (λ (q : Question). search_lines q s) here.is)) c.write_explore.ensures.written

pub returns-in-Explore-clause-complete : goal.returns-in-Explore-clause-complete
returns-in-Explore-clause-complete g c =
    let here = c.in-Explore in
    let s = c.args.machine.now in
    let most = c.max-in-Explore.ensures ∙ max_comm here.states 1 in
    complete-as c.write_explore.result (ap (λ (n : ℕ). is_complete_by here.kind n s) most
    ∙ sym (ap (λ (q : Question). search_is_complete q s) here.is)) c.write_explore.ensures.complete

pub returns-in-Explore-clause-stopped : goal.returns-in-Explore-clause-stopped
returns-in-Explore-clause-stopped g c =
    let here = c.in-Explore in
    let s = c.args.machine.now in
    let most = c.max-in-Explore.ensures ∙ max_comm here.states 1 in
    λ e. subst (λ (q : Question). StopsSearch q (search_answer q s) (g.W.Sink.written c.args.out.now) (g.W.Sink.written c.write_explore.new.out)) (sym here.is)
    (part-as (end_of_search (search_is_complete (asked.Explore here.kind here.states) s)) (ap (λ (n : ℕ). explore_lines_by here.kind n s) most) (c.write_explore.ensures.part e))

pub returns-in_default : goal.returns-in_default
returns-in_default g c =
    absurd (no_search c.args.question c.requires c.in_default.not-Access c.in_default.not-Exposure c.in_default.not-Policy c.in_default.not-Graph c.in_default.not-Explore)
