-- The texts of three answers by the reduced search, by computation.
use Rattle.std.proofs.Common.{◌≡◌, true, bytes_eq, [], length, refl}
use Rattle.pv_model.specs.Machine.{accesses, states_found, is_complete, answer_bytes, leaks}
use Rattle.pv_model.specs.Answers.OnLiterals.{answers_on_literals}
use Rattle.pv_model_questions.specs.Exposure.{exposed_lines}
use Rattle.pv_model_questions.specs.Fixed.{edits}
use Rattle.pv_laws_trees.proofs.DirectoryEntries.{bytes_eq-same}
use Rattle.pv_laws_states.specs.ExampleStates.{no_programs}
use Rattle.pv_laws_classes.specs.Canonical.{canonical}
use Rattle.pv_laws_classes.specs.Reduced.{representative, reduced_found}
use Rattle.pv_laws_classes.specs.ReducedAnswers.{reduced_access_lines, reduced_policy_lines}
use Rattle.pv_laws_schedules.specs.ReducedRuns.{exposed_now, file_open, reduced_access_text, reduced_policy_text, reduced_exposure_text, ReducedTexts}

complete-now : is_complete no_programs 30 file_open ≡ true
unfolding answers_on_literals
complete-now = refl

states-now : length (states_found no_programs 30 file_open) ≡ 20
unfolding answers_on_literals
states-now = refl

access-now : bytes_eq (answer_bytes (reduced_access_lines no_programs 30 file_open [])) reduced_access_text ≡ true
unfolding answers_on_literals accesses canonical representative reduced_found reduced_access_lines
access-now = refl

policy-now : bytes_eq (answer_bytes (reduced_policy_lines no_programs 30 file_open)) reduced_policy_text ≡ true
unfolding answers_on_literals canonical representative reduced_found reduced_policy_lines
policy-now = refl

exposure-now : bytes_eq (answer_bytes exposed_now) reduced_exposure_text ≡ true
unfolding answers_on_literals leaks edits exposed_lines canonical representative reduced_found
exposure-now = refl

pub texts-happen : ReducedTexts
texts-happen = record {
  complete = complete-now;
  states = states-now;
  access = bytes_eq-same (answer_bytes (reduced_access_lines no_programs 30 file_open [])) reduced_access_text access-now;
  policy = bytes_eq-same (answer_bytes (reduced_policy_lines no_programs 30 file_open)) reduced_policy_text policy-now;
  exposure = bytes_eq-same (answer_bytes exposed_now) reduced_exposure_text exposure-now;
}
