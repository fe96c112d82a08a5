use Rattle.std.proofs.Common.{◌≡◌, ◌++◌, drop, flat_map}
use Rattle.pv_model_questions.specs.Notes.{pledge_note}
use Rattle.pv_questions.proofs.notes.push_notes_of.Given as goal

abbrev pub invariant-loop-pid : goal.invariant-loop-pid
invariant-loop-pid l = l.text.items ++ flat_map pledge_note (drop l.pid-index l.pids) ≡ l.initial.text.items ++ flat_map pledge_note l.pids
