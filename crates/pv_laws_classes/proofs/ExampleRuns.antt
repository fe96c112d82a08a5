-- The steps of worked runs, by computation.
use Rattle.std.proofs.Common.{◌≡◌, ◌≢◌, ℕ, zero, suc, true, false, replicate, pos, List, [], ◌∷◌, Option, None, Some, is_some, refl, ap, sym, ◌∙◌}
use Rattle.pv_model.specs.declared.open_flags.Mode.TheVariants.{ReadWrite}
use Rattle.pv_model.specs.Machine.{at_number, machine_on_literals, OpenFile, Process, ProcessRecord, live, State, first_process}
use Rattle.pv_laws_classes.specs.Renumbering.{renumbered_processes, IsInUse, Renumbered}
use Rattle.pv_laws_classes.specs.Examples.{opening_apart, parent_first, child_first, swap, SwapExamples, two_open_files, to_first, one_open_file, MergeExamples}

-- ---- a swap of two open files

swap-twice : (n : ℕ) → swap (swap n) ≡ n
swap-twice zero = refl
swap-twice (suc zero) = refl
swap-twice (suc (suc zero)) = refl
swap-twice (suc (suc (suc n))) = refl

-- states that differ by the swap
by-swap : (s t : State) → t.tree ≡ s.tree → t.last_process ≡ s.last_process → t.processes ≡ renumbered_processes swap s.processes
    → ((n : ℕ) → at_number t.files (swap n) ≡ at_number s.files n) → Renumbered swap s t
by-swap s t tree last processes files = record {
  tree = tree;
  last_process = last;
  processes = processes;
  injective = λ m n there_m there_n same. sym (swap-twice m) ∙ ap swap same ∙ swap-twice n;
  files = λ n there. files n;
  no_others = λ m there. (swap m, ap is_some (sym (files (swap m)) ∙ ap (at_number t.files) (swap-twice m)) ∙ there, swap-twice m);
}

swapped-files : (n : ℕ) → at_number child_first.files (swap n) ≡ at_number parent_first.files n
unfolding machine_on_literals
swapped-files zero = refl
swapped-files (suc zero) = refl
swapped-files (suc (suc zero)) = refl
swapped-files (suc (suc (suc n))) = refl

-- the process and its child after both opens, each with the number of its own open file
abbrev opened_by : ℕ → ℕ → ℕ → Process
opened_by file number parent = record (first_process opening_apart) {
  descriptors = Some (record { file = 0; close_on_exec = false }) ∷ Some (record { file = file; close_on_exec = false }) ∷ replicate 14 None;
  line = number;
  registers = pos 1 ∷ replicate 7 (pos 0);
  parent = parent;
}

abbrev both_opened : ℕ → ℕ → List (ℕ × ProcessRecord)
both_opened own of_child = (1, live (opened_by own 5 0)) ∷ (2, live (opened_by of_child 8 1)) ∷ []

parent-processes : parent_first.processes ≡ both_opened 1 2
unfolding machine_on_literals
parent-processes = refl

child-processes : child_first.processes ≡ both_opened 2 1
unfolding machine_on_literals
child-processes = refl

swapped-processes : child_first.processes ≡ renumbered_processes swap parent_first.processes
swapped-processes = child-processes ∙ ap (renumbered_processes swap) (sym parent-processes)

same-tree : child_first.tree ≡ parent_first.tree
unfolding machine_on_literals
same-tree = refl

same-last : child_first.last_process ≡ parent_first.last_process
unfolding machine_on_literals
same-last = refl

abbrev node_in : Option OpenFile → ℕ
node_in None = 0
node_in (Some file) = suc file.node

differ : at_number parent_first.files 1 ≢ at_number child_first.files 1
unfolding machine_on_literals
differ same = let nodes = ap node_in same in cc nodes

pub swaps-happen : SwapExamples
unfolding machine_on_literals
swaps-happen = record {
  different = differ;
  renumbered = by-swap parent_first child_first same-tree same-last swapped-processes swapped-files;
  lines_of_one = refl;
  lines_of_other = refl;
}

-- ---- two open files that become one

abbrev no_file : Option OpenFile
no_file = None

nothing : (k n : ℕ) → is_some (at_number (replicate k no_file) n) ≡ false
nothing zero n = refl
nothing (suc k) zero = refl
nothing (suc k) (suc n) = nothing k n

opened_twice : OpenFile
opened_twice = record { node = 2; mode = ReadWrite; append = false; offset = 0; listed = None }

merged-first : at_number one_open_file.files 0 ≡ Some opened_twice
unfolding machine_on_literals opened_twice
merged-first = refl

two-first : at_number two_open_files.files 0 ≡ Some opened_twice
unfolding machine_on_literals opened_twice
two-first = refl

two-second : at_number two_open_files.files 1 ≡ Some opened_twice
unfolding machine_on_literals opened_twice
two-second = refl

two-others : (n : ℕ) → is_some (at_number two_open_files.files (suc (suc n))) ≡ false
unfolding machine_on_literals
two-others n = nothing 126 n

one-others : (n : ℕ) → is_some (at_number one_open_file.files (suc n)) ≡ false
unfolding machine_on_literals
one-others n = nothing 127 n

merged-files : (n : ℕ) → IsInUse two_open_files n → at_number one_open_file.files 0 ≡ at_number two_open_files.files n
merged-files zero there = merged-first ∙ sym two-first
merged-files (suc zero) there = merged-first ∙ sym two-second
merged-files (suc (suc n)) there = let none : true ≡ false = sym there ∙ two-others n in cc none

merged-others : (m : ℕ) → IsInUse one_open_file m → (n : ℕ) × IsInUse two_open_files n × (to_first n ≡ m)
merged-others zero there = (0, ap is_some two-first, refl)
merged-others (suc m) there = let none : true ≡ false = sym there ∙ one-others m in cc none

pub merges-happen : MergeExamples
unfolding machine_on_literals
merges-happen = record {
  tree = refl;
  last_process = refl;
  processes = refl;
  files = merged-files;
  no_others = merged-others;
  first = ap is_some two-first;
  second = ap is_some two-second;
  first_of_two = refl;
  first_of_one = refl;
  second_of_two = refl;
  second_of_one = refl;
}
