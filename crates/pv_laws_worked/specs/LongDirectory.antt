-- Each call that would make a directory too long; the root has 2,128 entries.
use Rattle.std.specs.Prelude.{◌≡◌, ℕ, ◌+◌, ◌/◌, ◌%◌, true, false, [], ◌∷◌, ◌++◌, map, replicate, codes, None, Some, refl}
use Rattle.std.specs.List.{range_with_len}
use Rattle.pv_model.specs.declared.call.Call.{Call}
use Rattle.pv_model.specs.declared.call.Call.TheVariants.{Open, OpenAt, Mkdir, Symlink, Link, Rename}
use Rattle.pv_model.specs.declared.call.Start.TheVariants.{WorkingDirectory}
use Rattle.pv_model.specs.declared.errno.Errno.TheVariants.{EFBIG}
use Rattle.pv_model.specs.declared.open_flags.Mode.TheVariants.{Write}
use Rattle.pv_model.specs.declared.open_flags.OpenFlags.{OpenFlags}
use Rattle.pv_model.specs.declared.outcome.Cause.TheVariants.{Plain}
use Rattle.pv_model.specs.declared.outcome.Outcome.{Outcome}
use Rattle.pv_model.specs.declared.outcome.Outcome.TheVariants.{Failed}
use Rattle.pv_model.specs.declared.version.Version.TheVariants.{V1}
use Rattle.pv_model.specs.Machine.{answer, Bytes, program_of, first_state, Tree, directory_node, file_node}
use Rattle.pv_laws_worked.specs.Bundles.{bundles_on_literals}

-- a name of two bytes
abbrev pub name_of_number : ℕ → Bytes
name_of_number k = (48 + k / 64) ∷ (48 + k % 64) ∷ []

-- many names for one file, and a directory with one more
abbrev pub long_directory : Tree
long_directory = record {
  nodes =
      None ∷
      Some (directory_node (map (λ k. (name_of_number k, 2)) (range_with_len 0 2127) ++ (codes "~", 3) ∷ [])) ∷
      Some (file_node false []) ∷
      Some (directory_node ((codes "f", 2) ∷ [])) ∷ replicate 13 None;
  blocks = 398;
  inodes = 16;
  version = V1;
}

abbrev pub creating : OpenFlags
creating = record { mode = Write; append = false; create = true; truncate = false; exclusive = false; no_follow = false; directory = false; close_on_exec = false }

-- the outcome of a call by process 1
abbrev pub outcome_of_call : Call → Outcome
outcome_of_call call = (answer program_of (first_state long_directory []) 1 call).outcome

pub by_open : outcome_of_call (Open (codes "/z") creating) ≡ Failed EFBIG Plain
unfolding bundles_on_literals
by_open = refl

pub by_openat : outcome_of_call (OpenAt WorkingDirectory (codes "z") creating) ≡ Failed EFBIG Plain
unfolding bundles_on_literals
by_openat = refl

pub by_mkdir : outcome_of_call (Mkdir (codes "/z")) ≡ Failed EFBIG Plain
unfolding bundles_on_literals
by_mkdir = refl

pub by_symlink : outcome_of_call (Symlink (codes "t") (codes "/z")) ≡ Failed EFBIG Plain
unfolding bundles_on_literals
by_symlink = refl

pub by_link : outcome_of_call (Link (codes "/~/f") (codes "/z")) ≡ Failed EFBIG Plain
unfolding bundles_on_literals
by_link = refl

pub by_rename : outcome_of_call (Rename (codes "/~/f") (codes "/z")) ≡ Failed EFBIG Plain
unfolding bundles_on_literals
by_rename = refl
