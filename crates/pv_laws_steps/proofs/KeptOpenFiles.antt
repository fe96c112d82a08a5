-- A step of another process keeps the node and the mode of a descriptor's open file.
use Rattle.std.proofs.Common.{◌≡◌, ◌≢◌, ℕ, ℤ, pos, negsuc, true, false, Option, None, Some, is_some, option_map, refl, ap, sym, subst}
use Rattle.pv_model.specs.Machine.{Bytes, open_file_of, open_file, at_number, OpenFile, Descriptor, Program, Process, State, process_at, step}
use Rattle.pv_laws_states.specs.States.{IsValid}
use Rattle.pv_laws_runs.specs.OfLawsAccess.Growth.{IsSameFile}
use Rattle.pv_laws_runs.proofs.OfLawsAccess.ProcessesAfterEnds.{valid-in_order}
use Rattle.pv_laws_runs.proofs.OfLawsAccess.OtherOpenFiles.{others-files}

-- an open file before and after the step of another process
abbrev pub OpenAlike : Option (ℕ × OpenFile) → Option (ℕ × OpenFile) → Type 0
OpenAlike None None = Unit {0}
OpenAlike (Some (m, file)) (Some (n, left)) = (n ≡ m) × IsSameFile file left
OpenAlike _ _ = ⊥

module _ (program_of : Bytes → Option Program) (s : State) (j k : ℕ) (p : Process) (whole : IsValid s) (apart : j ≢ k) (at : process_at s j ≡ Some p) where
  abbrev u : State
  u = (step program_of s k).after

  abbrev Alike : Option Descriptor → Type 0
  Alike o = OpenAlike (open_file_of s o) (open_file_of u o)

  pub alike-open : (d : ℤ) → OpenAlike (open_file s p d) (open_file u p d)
  alike-open (negsuc e) = tt
  alike-open (pos e) = by (at_number p.descriptors e) refl
    where
      found : (d : Descriptor) → at_number p.descriptors e ≡ Some d → (o : Option OpenFile) → at_number s.files d.file ≡ o → Alike (Some d)
      found d is None none = let some : is_some (at_number s.files d.file) ≡ true = (whole.processes.placed j p at).opens e d is in let no : is_some (at_number s.files d.file) ≡ false = ap is_some none in cc
      found d is (Some file) there =
          let left = others-files program_of s k (valid-in_order s whole) j p e d file apart at is there in
          subst (λ o. OpenAlike (option_map (λ (f : OpenFile). (d.file, f)) o) (open_file_of u (Some d))) (sym there)
          (subst (λ o. OpenAlike (Some (d.file, file)) (option_map (λ (f : OpenFile). (d.file, f)) o)) (sym left.1) (refl, left.2))

      of : (o : Option Descriptor) → at_number p.descriptors e ≡ o → Alike o → Alike (at_number p.descriptors e)
      of o is alike = subst Alike (sym is) alike

      by : (o : Option Descriptor) → at_number p.descriptors e ≡ o → Alike (at_number p.descriptors e)
      by None is = of None is tt
      by (Some d) is = of (Some d) is (found d is (at_number s.files d.file) refl)
