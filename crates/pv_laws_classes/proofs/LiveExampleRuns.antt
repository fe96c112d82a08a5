-- The examples of dead and live variables, by computation.
use Rattle.std.proofs.Common.{◌≡◌, ℕ, zero, suc, ℤ, true, false, replicate, slice_set, pos, List, [], ◌∷◌, Option, None, Some, refl, ap, sym, ◌∙◌}
use Rattle.pv_model.specs.Machine.{machine_on_literals, Process, first_process, process_at}
use Rattle.pv_model.specs.Program.{register}
use Rattle.pv_model.specs.State.{no_registers, no_bytes}
use Rattle.pv_laws_classes.specs.Liveness.{Variable, register_variable, byte_variable, value_in, by_test, is_live_at, AgreeOnLive, SameExceptValues, none, both_live}
use Rattle.pv_laws_classes.specs.LivenessExamples.{setting, opened, opened_otherwise, DeadExamples, LiveExamples}

-- the process after the open
abbrev opener : Process
opener = record (first_process setting) { descriptors = Some (record { file = 0; close_on_exec = false }) ∷ replicate 15 None; line = 2 }

abbrev other_registers : List ℤ
other_registers = slice_set no_registers 3 (pos 9)

abbrev other_bytes : List ℕ
other_bytes = slice_set no_bytes 2 7

register-dead : is_live_at setting 2 (register_variable 3) ≡ false
unfolding machine_on_literals
register-dead = refl

byte-dead : is_live_at setting 2 (byte_variable 2) ≡ false
unfolding machine_on_literals
byte-dead = refl

agree : AgreeOnLive (by_test is_live_at) opener other_registers other_bytes
agree = record { registers_count = refl; buffer_length = refl; values = by }
  where
    by : (v : Variable) → is_live_at setting 2 v ≡ true → value_in other_registers other_bytes v ≡ value_in no_registers no_bytes v
    by (register_variable zero) holds = refl
    by (register_variable (suc zero)) holds = refl
    by (register_variable (suc (suc zero))) holds = refl
    by (register_variable (suc (suc (suc zero)))) holds = let no : false ≡ true = sym register-dead ∙ holds in cc no
    by (register_variable (suc (suc (suc (suc q))))) holds = refl
    by (byte_variable zero) holds = refl
    by (byte_variable (suc zero)) holds = refl
    by (byte_variable (suc (suc zero))) holds = let no : false ≡ true = sym byte-dead ∙ holds in cc no
    by (byte_variable (suc (suc (suc k)))) holds = refl

same-tree : opened_otherwise.tree ≡ opened.tree
unfolding machine_on_literals
same-tree = refl

same-files : opened_otherwise.files ≡ opened.files
unfolding machine_on_literals
same-files = refl

same-last : opened_otherwise.last_process ≡ opened.last_process
unfolding machine_on_literals
same-last = refl

same-processes : SameExceptValues (λ number. AgreeOnLive (by_test is_live_at)) opened.processes opened_otherwise.processes
unfolding machine_on_literals
same-processes = both_live 1 opener other_registers other_bytes [] [] agree none

abbrev register-of : Option Process → ℤ
register-of None = pos 0
register-of (Some p) = register p 3

pub dead-happen : DeadExamples
unfolding machine_on_literals
dead-happen = record {
  different = λ same. let values : pos 9 ≡ pos 0 = ap (λ s. register-of (process_at s 1)) same in cc values;
  alike = record { tree = same-tree; files = same-files; last_process = same-last; processes = same-processes };
  lines_of_one = refl;
  lines_of_other = refl;
}

pub live-happen : LiveExamples
unfolding machine_on_literals
live-happen = record {
  byte_read = refl;
  byte_unread = refl;
  zero_written = refl;
  seven_written = refl;
  register_jumped = refl;
  register_set = refl;
  first_closed = refl;
  none_closed = refl;
  last_byte_read = refl;
  bound_of_three = refl;
  bound_of_all = refl;
}
