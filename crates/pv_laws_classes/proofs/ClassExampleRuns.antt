-- Canonical forms, by computation.
use Rattle.std.proofs.Common.{◌≢◌, ℕ, refl, ap}
use Rattle.pv_model.specs.Answers.OnLiterals.{answers_on_literals}
use Rattle.pv_model.specs.Machine.{machine_on_literals, at_number, Descriptor, Process, State, process_at}
use Rattle.std.proofs.Common.{Option, None, Some}
use Rattle.pv_laws_classes.specs.Canonical.{canonical}
use Rattle.pv_laws_classes.specs.ClassExamples.{CanonicalExamples, StateTextExamples}
use Rattle.pv_laws_classes.specs.Examples.{two_open_files, one_open_file}

-- the open file of descriptor 1 of process 1
abbrev file_in : Option Descriptor → ℕ
file_in None = 6
file_in (Some d) = d.file

abbrev file_of_second : Option Process → ℕ
file_of_second None = 5
file_of_second (Some p) = file_in (at_number p.descriptors 1)

canonical-apart : canonical one_open_file ≢ canonical two_open_files
unfolding machine_on_literals canonical
canonical-apart same = let numbers = ap (λ (s : State). file_of_second (process_at s 1)) same in cc numbers

pub canonical-happens : CanonicalExamples
unfolding machine_on_literals canonical
canonical-happens = record { of_parent = refl; of_child = refl; same = refl; apart = canonical-apart }

pub state-texts-happen : StateTextExamples
unfolding answers_on_literals
state-texts-happen = record { differ = refl }
