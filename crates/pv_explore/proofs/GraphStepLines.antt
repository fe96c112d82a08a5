-- The lines of a step in the state graph.
use Rattle.std.proofs.Common.{◌≡◌, ◌∙◌, ap, ap₂, ℕ, bytes_eq, List, [], ◌++◌, codes, Option, refl}
use Rattle.std.specs.Prelude.{position}
use Rattle.pv_step_lines.specs.Made.{IsMade, made_lines}
use Rattle.pv_step_lines.specs.Parts.{origin_text}
use Rattle.pv_step_lines.specs.declared.making.MadeStep.{MadeStep}
use Rattle.pv_step_lines.proofs.StepStates.{left-by}
use Rattle.pv_step_lines.proofs.MadeLines.{made-is}
use Rattle.pv_explore.specs.Plan.{state_key}
use Rattle.pv_explore.specs.Vertices.{vertex_step}
use Rattle.pv_model.specs.Machine.{explained_step, answer_bytes, answer_line, answer_line_bytes, Bytes, program_of, State}
use Rattle.pv_model.specs.Answers.Graph.{leads_to_text, unreported}
use Rattle.pv_step_cache.specs.OfStateEncoding.Groups.{concatenated_groups, state_groups}
use Rattle.pv_step_cache.proofs.OfStateEncoding.StateGroups.{state-concatenated_groups}

-- the lines omit the origins of entries
unreported-is : (s : State) (pid : ℕ) → explained_step program_of (origin_text []) s pid ≡ explained_step program_of unreported s pid
unreported-is s pid =
    let same : (k : ℕ) → origin_text [] k ≡ unreported k = λ k. refl in
    let none : origin_text [] ≡ unreported = λ i k. same k i in
    ap (λ (source : ℕ → Bytes). explained_step program_of source s pid) none

pub step-bytes : (keys : List Bytes) (s : State) (pid : ℕ) (made : MadeStep) (after : State) (groups : List (List Bytes)) (found : Option ℕ) → IsMade s pid made after → groups ≡ state_groups after → found ≡ position (bytes_eq (concatenated_groups groups)) keys
    → answer_line_bytes (answer_line pid (codes "STEP") (leads_to_text found)) ++ answer_bytes (made_lines pid [] made after) ≡ answer_bytes (vertex_step keys s pid)
step-bytes keys s pid made after groups found is groups_is found_is =
    ap₂ (λ (a b : Bytes). a ++ b)
    (ap (λ (o : Option ℕ). answer_line_bytes (answer_line pid (codes "STEP") (leads_to_text o))) (found_is ∙ ap (λ (k : Bytes). position (bytes_eq k) keys) (ap concatenated_groups groups_is ∙ state-concatenated_groups after ∙ ap state_key (left-by s pid made after is))))
    (ap answer_bytes (made-is s pid [] made after is ∙ unreported-is s pid))
