-- The definitions to unfold in a proof by computation of answers on literals.
use Rattle.std.specs.Prelude.{⊤}
use Rattle.pv_model.specs.Answers.Access.{accesses}
use Rattle.pv_model.specs.Answers.Compare.{comparison, comparison_lines}
use Rattle.pv_model.specs.Answers.Explain.{explained_step, explain_lines}
use Rattle.pv_model.specs.Answers.Explore.{states_found, explore_lines}
use Rattle.pv_model.specs.Answers.Exposure.{exposure_lines}
use Rattle.pv_model.specs.Answers.Graph.{graph_lines}
use Rattle.pv_model.specs.Answers.Levels.{levels}
use Rattle.pv_model.specs.Answers.Needs.{asked, process_images, needs_lines}
use Rattle.pv_model.specs.Answers.Nodes.{node_path}
use Rattle.pv_model.specs.Answers.Numbers.{instruction_numbers, process_numbers, tree_numbers, state_numbers}
use Rattle.pv_model.specs.Answers.Policy.{granted_policy_lines, policy_lines}
use Rattle.pv_model.specs.Answers.Reach.{reached_permissions, reach_texts, reach_lines}
use Rattle.pv_model.specs.Answers.ProcessRecord.{state_lines, locations}
use Rattle.pv_model.specs.Answers.Settings.{settings_after}
use Rattle.pv_model.specs.Answers.Turns.{turn, turns}
use Rattle.pv_model.specs.OnLiterals.{machine_on_literals}

-- all definitions of answers that are folded
unfoldable pub answers_on_literals : ⊤
unfolding machine_on_literals node_path state_lines locations reached_permissions reach_texts reach_lines levels settings_after explained_step explain_lines asked process_images needs_lines turn turns instruction_numbers process_numbers tree_numbers state_numbers states_found explore_lines graph_lines accesses policy_lines granted_policy_lines comparison comparison_lines exposure_lines
answers_on_literals = tt
