-- The open file of a descriptor, in two states that are related by a renumbering of open files.
use Rattle.std.proofs.Common.{◌≡◌, ℕ, ℤ, pos, negsuc, Option, None, Some, option_map, refl, ap, sym, ◌∙◌}
use Rattle.pv_model.specs.Machine.{descriptor_at, open_file_of, open_file, directory_of_file, Numbered, at_number, OpenFile, Descriptor, Process, State}
use Rattle.pv_laws_classes.specs.Renumbering.{renumbered_descriptor, renumbered_process}
use Rattle.pv_laws_classes.proofs.RenumberedFiles.{some-value}
use Rattle.pv_laws_classes.proofs.RenumberedLists.{descriptor-at, Uses, uses-at}
use Rattle.pv_laws_classes.proofs.RenumberedStates.{IsPresent, renumbered, Fits}

module _ (f : ℕ → ℕ) (gs : Numbered OpenFile) (s : State) (pid : ℕ) (me : Process) (fits : Fits f gs s) (mine : Uses (IsPresent s.files) me.descriptors) where
  abbrev u : State
  u = renumbered f gs s

  abbrev you : Process
  you = renumbered_process f me

  abbrev shifted : ℕ × OpenFile → ℕ × OpenFile
  shifted v = (f v.0, v.1)

  -- ---- descriptors

  pub descriptor-same : (d : ℤ) → descriptor_at you d ≡ option_map (renumbered_descriptor f) (descriptor_at me d)
  descriptor-same (pos d) = descriptor-at f me.descriptors d
  descriptor-same (negsuc d) = refl

  pub descriptor-opens : (d : ℤ) (v : Descriptor) → descriptor_at me d ≡ Some v → IsPresent s.files v.file
  descriptor-opens (pos d) v is = uses-at (IsPresent s.files) me.descriptors d v mine is
  descriptor-opens (negsuc d) v is = cc is

  -- ---- open files

  pub opened-same : (d : ℤ) → open_file u you d ≡ option_map shifted (open_file s me d)
  opened-same d = ap (open_file_of u) (descriptor-same d) ∙ by (descriptor_at me d) refl
    where
      of : (n : ℕ) (x : OpenFile) → at_number s.files n ≡ Some x → option_map (λ (y : OpenFile). (f n, y)) (at_number gs (f n)) ≡ option_map shifted (option_map (λ (y : OpenFile). (n, y)) (at_number s.files n))
      of n x at = ap (option_map (λ (y : OpenFile). (f n, y))) (fits.matches.same n x at) ∙ ap (λ o. option_map shifted (option_map (λ (y : OpenFile). (n, y)) o)) (sym at)

      by : (o : Option Descriptor) → descriptor_at me d ≡ o → open_file_of u (option_map (renumbered_descriptor f) o) ≡ option_map shifted (open_file_of s o)
      by None at = refl
      by (Some v) at = let found = some-value (at_number s.files v.file) (descriptor-opens d v at) in of v.file found.0 found.1

  -- ---- directories

  pub directory-file : (d : ℤ) → directory_of_file you (open_file u you d) ≡ directory_of_file me (open_file s me d)
  directory-file d = ap (directory_of_file you) (opened-same d) ∙ by (open_file s me d)
    where
      by : (o : Option (ℕ × OpenFile)) → directory_of_file you (option_map shifted o) ≡ directory_of_file me o
      by None = refl
      by (Some (k, x)) = refl
