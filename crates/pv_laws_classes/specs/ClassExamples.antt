-- Canonical forms of two states that are equal up to a renumbering of open files. They show that the laws are not vacuous.
use Rattle.std.specs.Prelude.{◌≡◌, ◌≢◌, false, [], ◌∷◌, bytes_eq}
use Rattle.pv_model.specs.Machine.{answer_bytes, state_lines}
use Rattle.pv_laws_classes.specs.Canonical.{references, canonical}
use Rattle.pv_laws_classes.specs.Examples.{parent_first, child_first, two_open_files, one_open_file}

-- the open files 1 and 2 are swapped, and both states have one canonical form. Two open files and one shared open file
-- have different canonical forms
pub record CanonicalExamples : Type 0 where
  pub of_parent : references parent_first ≡ 0 ∷ 1 ∷ 2 ∷ []
  pub of_child : references child_first ≡ 0 ∷ 2 ∷ 1 ∷ []
  pub same : canonical child_first ≡ canonical parent_first
  pub apart : canonical one_open_file ≢ canonical two_open_files

-- but the text of `state` differs, since it has the numbers of open files; so `graph` does not identify such states
pub record StateTextExamples : Type 0 where
  pub differ : bytes_eq (answer_bytes (state_lines parent_first)) (answer_bytes (state_lines child_first)) ≡ false
