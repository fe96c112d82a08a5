-- Functions that give the class of a state, such that the steps from states of one class have the same lines and lead to
-- states of one class. The identity and the canonical form are such functions.
use Rattle.std.proofs.Common.{◌≡◌, ◌∙◌, sym, ap, ℕ, List, [], ◌∷◌, Option, None, Some, is_some, option_map, refl}
use Rattle.std.specs.FinMap.Entries.{find}
use Rattle.std.specs.Ordering.{nat_cmp}
use Rattle.pv_model.specs.Machine.{has_ended, Bytes, is_empty, live_processes, Program, Process, ProcessRecord, live, ended_record, State, live_process, process_at, step}
use Rattle.pv_laws_states.specs.States.{EncodesPrograms, IsValid}
use Rattle.pv_laws_states.proofs.ValidBySteps.{step-keeps_valid}
use Rattle.pv_laws_classes.specs.Canonical.{canonical, canonical_number}
use Rattle.pv_laws_classes.specs.Renumbering.{renumbered_process, renumbered_processes, Renumbered}
use Rattle.pv_laws_classes.proofs.CanonicalForms.{unique}
use Rattle.pv_laws_classes.proofs.RenumberedStates.{process-renumbered}
use Rattle.pv_laws_classes.proofs.RenumberedSteps.{renumbered-steps}

module _ (class_of : State → State) (program_of : Bytes → Option Program) where
  -- the steps of a process from two states of one class
  pub record AreStepsAlike (s t : State) (pid : ℕ) : Type 0 where
    pub lives : is_some (process_at t pid) ≡ is_some (process_at s pid)
    pub lines : (step program_of t pid).lines ≡ (step program_of s pid).lines
    pub after : class_of (step program_of s pid).after ≡ class_of (step program_of t pid).after

  -- the common properties of two valid states of one class
  pub record AreClasses : Type 0 where
    pub steps : (s t : State) (pid : ℕ) → IsValid s → IsValid t → class_of s ≡ class_of t → AreStepsAlike s t pid
    pub tree : (s t : State) → class_of s ≡ class_of t → s.tree ≡ t.tree
    pub ended : (s t : State) → class_of s ≡ class_of t → has_ended s ≡ has_ended t

-- ---- equal states

pub equal-states : (program_of : Bytes → Option Program) → AreClasses (λ s. s) program_of
equal-states program_of = record {
  steps = λ s t pid whole_s whole_t same. record {
    lives = ap (λ u. is_some (process_at u pid)) (sym same);
    lines = ap (λ u. (step program_of u pid).lines) (sym same);
    after = ap (λ u. (step program_of u pid).after) same;
  };
  tree = λ s t same. ap (λ (u : State). u.tree) same;
  ended = λ s t same. ap has_ended same;
}

-- ---- states with equal canonical forms

some-mapped : (f : ℕ → ℕ) (o : Option Process) → is_some (option_map (renumbered_process f) o) ≡ is_some o
some-mapped f None = refl
some-mapped f (Some p) = refl

ended-renumbered : (f : ℕ → ℕ) (es : List (ℕ × ProcessRecord)) → is_empty (live_processes (renumbered_processes f es)) ≡ is_empty (live_processes es)
ended-renumbered f [] = refl
ended-renumbered f ((j, live p) ∷ es) = refl
ended-renumbered f ((j, ended_record parent status) ∷ es) = ended-renumbered f es

canonical-tree : (s : State) → (canonical s).tree ≡ s.tree
unfolding canonical
canonical-tree s = refl

canonical-ended : (s : State) → has_ended (canonical s) ≡ has_ended s
unfolding canonical
canonical-ended s = ended-renumbered (canonical_number s) s.processes

lives-renumbered : (f : ℕ → ℕ) (s t : State) (pid : ℕ) → Renumbered f s t → is_some (process_at t pid) ≡ is_some (process_at s pid)
lives-renumbered f s t pid is =
    ap (λ ps. is_some (live_process (find nat_cmp pid ps))) is.processes ∙ ap is_some (process-renumbered f s.files s pid) ∙ some-mapped f (process_at s pid)

pub canonical-states : (program_of : Bytes → Option Program) → EncodesPrograms program_of → AreClasses canonical program_of
canonical-states program_of encodes = record {
  steps = λ s t pid whole_s whole_t same.
      let alike = (unique s t whole_s whole_t).0 same in
      let both = renumbered-steps program_of alike.0 s t pid whole_s whole_t alike.1 in
      record {
        lives = lives-renumbered alike.0 s t pid alike.1;
        lines = both.lines;
        after = (unique (step program_of s pid).after (step program_of t pid).after (step-keeps_valid program_of encodes s pid whole_s) (step-keeps_valid program_of encodes t pid whole_t)).1 (both.renumbering, both.after);
      };
  tree = λ s t same. sym (canonical-tree s) ∙ ap (λ (u : State). u.tree) same ∙ canonical-tree t;
  ended = λ s t same. sym (canonical-ended s) ∙ ap has_ended same ∙ canonical-ended t;
}
