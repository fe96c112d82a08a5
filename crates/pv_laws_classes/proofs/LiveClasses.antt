-- States that are equal up to dead variables form classes.
use Rattle.std.proofs.Common.{ℕ, List, [], ◌∷◌, refl, sym, ◌∙◌}
use Rattle.pv_model.specs.Machine.{ProcessRecord, live, ended_record}
use Rattle.pv_laws_classes.specs.Liveness.{Live, IsRead, by_test, with_values, AgreeOnLive, SameExceptValues, none, both_live, both_ended, EqualUpToDeadIsEquivalence, EqualStatesFormClasses}

module _ (is_live : Live) where
  abbrev Same : List (ℕ × ProcessRecord) → List (ℕ × ProcessRecord) → Type 0
  Same = SameExceptValues (λ number. AgreeOnLive is_live)

  itself : (rs : List (ℕ × ProcessRecord)) → Same rs rs
  itself [] = none
  itself ((n, live p) ∷ rs) = both_live n p p.registers p.buffer rs rs (record { registers_count = refl; buffer_length = refl; values = λ v lives. refl }) (itself rs)
  itself ((n, ended_record parent status) ∷ rs) = both_ended n parent status rs rs (itself rs)

  back : (rs ts : List (ℕ × ProcessRecord)) → Same rs ts → Same ts rs
  back rs ts none = none
  back rs ts (both_live n p registers buffer qs us is rest) =
      both_live n (with_values registers buffer p) p.registers p.buffer us qs
      (record { registers_count = sym is.registers_count; buffer_length = sym is.buffer_length; values = λ v lives. sym (is.values v lives) }) (back qs us rest)
  back rs ts (both_ended n parent status qs us rest) = both_ended n parent status us qs (back qs us rest)

  both : (rs ts us : List (ℕ × ProcessRecord)) → Same rs ts → Same ts us → Same rs us
  both rs ts us none more = more
  both rs ts us (both_live n p registers buffer qs vs is rest) (both_live m q other_registers other_buffer ws xs more later) =
      both_live n p other_registers other_buffer qs xs
      (record { registers_count = more.registers_count ∙ is.registers_count; buffer_length = more.buffer_length ∙ is.buffer_length; values = λ v lives. more.values v lives ∙ is.values v lives })
      (both qs vs xs rest later)
  both rs ts us (both_ended n parent status qs vs rest) (both_ended m other_parent other_status ws xs later) = both_ended n parent status qs xs (both qs vs xs rest later)

  pub equivalence : EqualUpToDeadIsEquivalence is_live
  equivalence = record {
    reflexive = λ s. record { tree = refl; files = refl; last_process = refl; processes = itself s.processes };
    symmetric = λ s t is. record { tree = sym is.tree; files = sym is.files; last_process = sym is.last_process; processes = back s.processes t.processes is.processes };
    transitive = λ s t u is more. record {
      tree = more.tree ∙ is.tree;
      files = more.files ∙ is.files;
      last_process = more.last_process ∙ is.last_process;
      processes = both s.processes t.processes u.processes is.processes more.processes;
    };
  }

pub form-classes : EqualStatesFormClasses
form-classes = (equivalence IsRead, λ test. equivalence (by_test test))
