-- The directory where a walk starts, after the check that a relative path's descriptor is a directory's.
use Rattle.std.proofs.Common.{◌≡◌, ℕ, true, false, not, if◌then◌else◌, ap, ◌∙◌}
use Rattle.std.proofs.lemmas.Bool.{not-false}
use Rattle.pv_model.specs.declared.call.Start.{Start}
use Rattle.pv_model.specs.declared.call.Start.TheVariants.{WorkingDirectory, Descriptor as AtDescriptor}
use Rattle.pv_model.specs.declared.errno.Errno.TheVariants.{EBADF, ENOTDIR}
use Rattle.pv_model.specs.Machine.{◌>>◌, give, Bytes, directory_of, check_start, open_file, directory_of_file, start_directory, OpenFile, Process, State, is_directory_at, is_absolute}
use Rattle.pv_laws_states.proofs.AttemptValues.{Leads, leads-following, leads-refuse_if, leads-demand}
use Rattle.pv_laws_states.proofs.CallRemainders

module _ (s : State) (pid : ℕ) (me : Process) where
  -- it is a directory if the working directory is one
  abbrev pub StartsWell : ℕ → Type 0
  StartsWell n = is_directory_at s.tree me.directory ≡ true → is_directory_at s.tree n ≡ true

  pub leads-start : (start : Start) (path : Bytes) → Leads (λ _. StartsWell (start_directory s me start path)) (check_start s pid me start path)
  leads-start WorkingDirectory path = λ here. here
  leads-start (AtDescriptor d) path =
      let there : ℕ = directory_of_file me (open_file s me d) in
      elim (is_absolute path) as (λ b. Leads (λ _. StartsWell (if b then me.directory else there)) (if b then give (tt {0}) else directory_of s pid me d >> give (tt {0}))) [
        | true ↦ λ here. here
        | false ↦
            leads-following (λ _. StartsWell there) (StartsWell there) (directory_of s pid me d) (give (tt {0}))
            (leads-demand (λ _. StartsWell there) EBADF (open_file s me d) (CallRemainders.directory_of_1 s pid me) (λ (file : ℕ × OpenFile) is.
            leads-refuse_if (λ _. StartsWell there) ENOTDIR (not (is_directory_at s.tree file.1.node)) (give file.1.node) (λ dir here.
            ap (λ o. is_directory_at s.tree (directory_of_file me o)) is ∙ not-false (is_directory_at s.tree file.1.node) dir)))
            (λ well. well)
      ]
