-- The definitions to unfold in a proof by computation on literals.
use Rattle.std.specs.Prelude.{⊤}
use Rattle.std.specs.Fmt.{digits}
use Rattle.pv_model.specs.Answer.{effect, answer}
use Rattle.pv_model.specs.Calls.Processes.{end_process}
use Rattle.pv_model.specs.Held.{collect}
use Rattle.pv_model.specs.Needs.{needs}
use Rattle.pv_model.specs.Program.{perform}
use Rattle.pv_model.specs.Promises.{read_promises}
use Rattle.pv_model.specs.Room.{need, is_too_long, fits}
use Rattle.pv_model.specs.Sealed.{leaks, is_frozen_to, verdict, verdict_text}
use Rattle.pv_model.specs.Step.{step}
use Rattle.pv_model.specs.Trace.{text_line, call_text, walked_paths, asked_permissions, call_lines}
use Rattle.pv_model.specs.Tree.{parent, ancestors}
use Rattle.pv_model.specs.Unveil.{directory_rights, governing_entry, judgement}
use Rattle.pv_model.specs.Walk.{resolve}

-- all definitions of the machine that are folded
unfoldable pub machine_on_literals : ⊤
unfolding parent ancestors need is_too_long fits resolve read_promises directory_rights governing_entry judgement collect end_process needs effect answer perform text_line call_text walked_paths asked_permissions call_lines step digits leaks is_frozen_to verdict verdict_text
machine_on_literals = tt
