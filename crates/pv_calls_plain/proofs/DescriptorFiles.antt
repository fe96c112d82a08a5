-- The open file of a descriptor.
use Rattle.std.proofs.Common.{◌≡◌, ℕ, ℤ, pos, negsuc, Option, Some, None, refl, ap, sym, subst, ◌∙◌}
use Rattle.std.specs.Option.{ok_or}
use Rattle.std.specs.Prelude.{IfSome, IsSome, MatchOption, option_map, is_some}
use Rattle.std.specs.Result.{result_ok}
use Rattle.pv_calls_plain.specs.Performed.{IsOn}
use Rattle.pv_files.specs.Descriptors.{descriptor_under}
use Rattle.pv_model.specs.declared.errno.Errno.TheVariants.{EBADF}
use Rattle.pv_model.specs.Machine.{descriptor_at, open_file, open_file_of, Numbered, at_number, Descriptor, Process, State, process_at}
use Rattle.pv_laws_states.proofs.ValidByProcess.{my-descriptor}
use Rattle.pv_laws_states.specs.States.{IsValid}
use Rattle.pv_calls_state.proofs.UncountedChanges.{some-at}

under-is : (me : Process) (d : ℤ) → descriptor_under me.descriptors d ≡ descriptor_at me d
under-is me (pos d) = refl
under-is me (negsuc d) = refl

module _ (s : State) (pid : ℕ) (me : Process) (whole : IsValid s) (at : process_at s pid ≡ Some me) (d : ℤ) where
  -- the lookup in the descriptors finds the number of the open file
  pub on-file : (ds : Numbered Descriptor) → ds ≡ me.descriptors → (o : Option ℕ)
      → o ≡ result_ok (ok_or (option_map (λ (e : Descriptor). e.file) (descriptor_under ds d)) EBADF) → MatchOption o (open_file s me d ≡ None) (λ k. IsOn s me d k)
  on-file ds mine o is =
      by (descriptor_at me d) refl
      (is ∙ ap (λ x. result_ok (ok_or (option_map (λ (e : Descriptor). e.file) x) EBADF)) (ap (λ xs. descriptor_under xs d) mine ∙ under-is me d))
    where
      there : (x : Descriptor) → descriptor_at me d ≡ Some x → IsOn s me d x.file
      there x found =
          let file = some-at (at_number s.files x.file) (my-descriptor s pid me whole at d x found) in
          record { file = file.0; opened = ap (open_file_of s) found ∙ ap (option_map (λ f. (x.file, f))) file.1; there = file.1 }

      by : (x : Option Descriptor) → descriptor_at me d ≡ x → o ≡ result_ok (ok_or (option_map (λ (e : Descriptor). e.file) x) EBADF)
          → MatchOption o (open_file s me d ≡ None) (λ k. IsOn s me d k)
      by None found none = subst (λ p. MatchOption p (open_file s me d ≡ None) (λ k. IsOn s me d k)) (sym none) (ap (open_file_of s) found)
      by (Some x) found some = subst (λ p. MatchOption p (open_file s me d ≡ None) (λ k. IsOn s me d k)) (sym some) (there x found)

  -- that file is open
  pub on-opened : (o : Option ℕ) → MatchOption o (open_file s me d ≡ None) (λ k. IsOn s me d k) → IfSome o (λ k. IsSome (at_number s.files k))
  on-opened None is = tt
  on-opened (Some k) is = ap is_some is.there
