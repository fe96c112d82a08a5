-- The restraints that descendants inherit from their ancestors.
use Rattle.std.proofs.Common.{◌≡◌, ℕ, ⊎_elim, List, [], ◌∷◌, true, Option, None, Some, is_some, refl, ap, sym, subst, ◌∙◌}
use Rattle.pv_model.specs.Machine.{Bytes, Program, Process, State, process_at, step, run, Table}
use Rattle.pv_laws_states.specs.States.{EncodesPrograms, IsValid}
use Rattle.pv_laws_states.proofs.ValidBySteps.{step-keeps_valid}
use Rattle.pv_laws_access.specs.Growth.{GainsNone}
use Rattle.pv_laws_access.proofs.NarrowedRestraints.{gains-self, gains-along}
use Rattle.pv_laws_access.specs.Origins.{origin}
use Rattle.pv_laws_access.proofs.ProcessOrigins.{heirs}
use Rattle.pv_laws_access.proofs.SealedSteps.{carried, held-no_more}
use Rattle.pv_laws_access.specs.Descent.{Descends, IsHeldTo, HasInherited}

-- in one step
inherited : (program_of : Bytes → Option Program) (s : State) (pid m : ℕ) (p q : Process) (table : Table) → IsValid s → process_at s (origin s pid m) ≡ Some p → IsHeldTo table p
    → process_at (step program_of s pid).after m ≡ Some q → HasInherited table p q
inherited program_of s pid m p q table whole at held there =
    let h = heirs program_of s pid whole m q there in
    let both : Some h.p ≡ Some p = sym h.at ∙ ap (process_at s) (sym h.is_origin) ∙ at in
    let same : h.p ≡ p = cc both in
    let mine : IsHeldTo table h.p = subst (IsHeldTo table) (sym same) held in
    subst (λ (x : Process). HasInherited table x q) same
    (⊎_elim
    (λ no_more. record {
      held = record { in_force = no_more.closed mine.locked ∙ mine.in_force; locked = no_more.lock mine.locked; over_exec = held-no_more h.p q no_more mine.over_exec };
      execpromises = no_more.execpromises;
    })
    (λ e.
    let c = carried s pid h.p q e mine.over_exec in
    record {
      held = record { in_force = c.table ∙ mine.in_force; locked = c.locked ∙ mine.locked; over_exec = c.held };
      execpromises = subst (GainsNone h.p.execpromises) (sym e.comes.2.execpromises) (gains-self h.p.execpromises);
    }) h.restraints)

pub descendants-held : (program_of : Bytes → Option Program) → EncodesPrograms program_of → (s : State) (pids : List ℕ) (j k : ℕ) (p q : Process) (table : Table) → IsValid s
    → process_at s j ≡ Some p → IsHeldTo table p → Descends program_of j k pids s → process_at (run program_of pids s).final k ≡ Some q → HasInherited table p q
descendants-held program_of encodes s [] j k p q table whole at held same there =
    let both : Some p ≡ Some q = sym at ∙ ap (process_at s) same ∙ there in
    let one : p ≡ q = cc both in
    subst (HasInherited table p) one (record { held = held; execpromises = gains-self p.execpromises })
descendants-held program_of encodes s (pid ∷ pids) j k p q table whole at held d there =
    let next = lives (process_at (step program_of s pid).after d.0) refl d.2 in
    let first = inherited program_of s pid d.0 p next.0 table whole (ap (process_at s) d.1 ∙ at) held next.1 in
    let rest = descendants-held program_of encodes (step program_of s pid).after pids d.0 k next.0 q table (step-keeps_valid program_of encodes s pid whole) next.1 first.held d.3 there in
    record { held = rest.held; execpromises = gains-along p.execpromises next.0.execpromises q.execpromises first.execpromises rest.execpromises }
  where
    lives : (o : Option Process) → process_at (step program_of s pid).after d.0 ≡ o → is_some o ≡ true → (r : Process) × (process_at (step program_of s pid).after d.0 ≡ Some r)
    lives None none is = cc is
    lives (Some r) found is = (r, found)
