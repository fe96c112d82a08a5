-- The records of entry origins after a call.
use Rattle.std.proofs.Common.{◌≡◌, ◌≢◌, ◌∙◌, ⊎_elim, ℕ, Bool, true, false, cond, ◌==◌, List, [], Option, None, Some, option_map, refl, ap, sym, subst}
use Rattle.std.specs.Prelude.{unwrap_or}
use Rattle.std.specs.Cmp.{unsigned_ties}
use Rattle.std.specs.FinMap.Entries.{find, put, find-put}
use Rattle.std.specs.Ordering.{nat_cmp, eq_by_cmp}
use Rattle.std.proofs.lemmas.Bool.{eqb-false}
use Rattle.std.proofs.lemmas.Cmp.{nat_cmp_total}
use Rattle.pv_model.specs.declared.call.Call.{Call}
use Rattle.pv_model.specs.declared.call.Call.TheVariants.{Fork, Unveil, Execve}
use Rattle.pv_model.specs.declared.outcome.Outcome.{Outcome}
use Rattle.pv_model.specs.declared.outcome.Outcome.TheVariants.{Value}
use Rattle.pv_model.specs.declared.place.Place.{Place}
use Rattle.pv_model.specs.Machine.{answer, settings_next, Setting, Settings, settings_of, program_of, Next, inside, calls_for, next, Process, State, process_at, Stepped, step, step_by, target_of}
use Rattle.pv_model.specs.Answers.Explain.{settings_by, settings_of_step}
use Rattle.pv_model.specs.Answers.Settings.{settings_after, table_entry, entry_given, after_unveil, after_execve}
use Rattle.pv_laws_access.specs.Growth.{IsInOrder}
use Rattle.pv_laws_access.proofs.ProcessesAfterEnds.{step-is, step-gone}
use Rattle.pv_step_lines.specs.Before.{target_before}
use Rattle.pv_explain.specs.Keeping.{IsLive, Agree, entry_for_target, set_now, reported_settings}
use Rattle.pv_explain.proofs.NewProcesses.{answered-comes, inside-comes}

-- ---- by the entry whose permissions were set

entry-same : (s : State) (p : Process) (place : Option Place) (after : Option Process) → table_entry s p place after ≡ entry_for_target (option_map (target_of s.tree) place) after
entry-same s p None after = refl
entry-same s p (Some place) None = refl
entry-same s p (Some place) (Some q) = refl

given-same : (s : State) (p : Process) (given : Option ℕ) (mine : List Setting) → after_unveil s p given mine ≡ set_now p.line given mine
given-same s p None mine = refl
given-same s p (Some k) mine = refl

module _ (s : State) (pid : ℕ) (p : Process) (after : State) (all : Settings) where
  abbrev given : Call → Option ℕ
  given call = entry_for_target (target_before s p call) (process_at after pid)

  pub reported-is : (call : Call) (outcome : Outcome) → settings_after s pid p after all call outcome ≡ reported_settings pid p.line (process_at after pid) (given call) all call outcome
  unfolding settings_after reported_settings
  reported-is Fork (Value child) = refl
  reported-is (Unveil (Some path) permissions) (Value n) =
      ap (λ mine. put nat_cmp pid mine all)
      (given-same s p (entry_given s p path (process_at after pid)) (settings_of all pid)
      ∙ ap (λ o. set_now p.line o (settings_of all pid)) (entry-same s p _ (process_at after pid)))
  reported-is (Execve path) (Value n) = refl
  reported-is call outcome = refl

-- ---- agreement on live processes is preserved

put-of : (k q : ℕ) (mine : List Setting) (all : Settings) → settings_of (put nat_cmp k mine all) q ≡ unwrap_or (cond (eq_by_cmp nat_cmp q k) (Some mine) (find nat_cmp q all)) []
put-of k q mine all = ap (λ o. unwrap_or o []) (find-put nat_cmp nat_cmp_total q k mine all)

put-same : (k q : ℕ) (mine others : List Setting) (a b : Settings) → mine ≡ others → (q ≢ k → settings_of a q ≡ settings_of b q)
    → settings_of (put nat_cmp k mine a) q ≡ settings_of (put nat_cmp k others b) q
put-same k q mine others a b same rest =
    put-of k q mine a ∙ ap (λ t. unwrap_or (cond t (Some mine) (find nat_cmp q a)) []) (sym (unsigned_ties q k)) ∙ by (q == k) refl
    ∙ ap (λ t. unwrap_or (cond t (Some others) (find nat_cmp q b)) []) (unsigned_ties q k) ∙ sym (put-of k q others b)
  where
    by : (t : Bool) → (q == k) ≡ t → unwrap_or (cond t (Some mine) (find nat_cmp q a)) [] ≡ unwrap_or (cond t (Some others) (find nat_cmp q b)) []
    by true is = same
    by false is = rest (eqb-false q k is)

module _ (s : State) (pid : ℕ) (p : Process) (at : process_at s pid ≡ Some p) (order : IsInOrder s) (a b : Settings) (same : Agree s a b) where
  own : settings_of a pid ≡ settings_of b pid
  own = same pid (p, at)

  -- a process that is live after a call and is not a new child was live before
  was : (call : Call) (q : ℕ) → IsLive (answer program_of s pid call).after q → ((call ≡ Fork) → ((answer program_of s pid call).outcome ≡ Value q) → settings_of a q ≡ settings_of b q)
      → settings_of a q ≡ settings_of b q
  was call q lives born = ⊎_elim (λ before. same q before) (λ is. born is.0 is.1) (answered-comes program_of s pid order call q lives)

  after-call : (call : Call) (o : Outcome) → (answer program_of s pid call).outcome ≡ o → (q : ℕ) → IsLive (answer program_of s pid call).after q
      → settings_of (settings_after s pid p (answer program_of s pid call).after a call o) q ≡ settings_of (settings_after s pid p (answer program_of s pid call).after b call o) q
  unfolding settings_after
  after-call Fork (Value child) is q lives =
      put-same child q (settings_of a pid) (settings_of b pid) a b own (λ other. was Fork q lives (λ fork reported. let both : Value child ≡ Value q = sym is ∙ reported in let eq : child ≡ q = cc both in absurd (other (sym eq))))
  after-call (Unveil (Some path) permissions) (Value n) is q lives =
      put-same pid q _ _ a b
      (ap (after_unveil s p (entry_given s p path (process_at (answer program_of s pid (Unveil (Some path) permissions)).after pid))) own)
      (λ other. was (Unveil (Some path) permissions) q lives (λ fork reported. cc fork))
  after-call (Execve path) (Value n) is q lives =
      put-same pid q _ _ a b (ap (after_execve (process_at (answer program_of s pid (Execve path)).after pid)) own) (λ other. was (Execve path) q lives (λ fork reported. cc fork))
  after-call call o is q lives = was call q lives (λ fork reported. cc)

-- ---- by the next instruction

module _ (s : State) (pid : ℕ) (all : Settings) where
  pub next-gone : process_at s pid ≡ None → settings_next program_of s pid all ≡ all
  next-gone none = ap (settings_of_step program_of s pid all) none

  pub next-inside : (p q : Process) → process_at s pid ≡ Some p → next p ≡ inside q → settings_next program_of s pid all ≡ all
  next-inside p q at is = ap (settings_of_step program_of s pid all) at ∙ ap (settings_by program_of s pid all p) is

  pub next-called : (p : Process) (call : Call) → process_at s pid ≡ Some p → next p ≡ calls_for call
      → settings_next program_of s pid all ≡ settings_after s pid p (answer program_of s pid call).after all call (answer program_of s pid call).outcome
  next-called p call at is =
      ap (settings_of_step program_of s pid all) at ∙ ap (settings_by program_of s pid all p) is
      ∙ ap (λ (w : Stepped). settings_after s pid p w.after all call w.outcome) (step-is program_of s pid p at ∙ ap (step_by program_of s pid p) is)

pub next-same : (s : State) (pid : ℕ) (a b : Settings) → IsInOrder s → Agree s a b → Agree (step program_of s pid).after (settings_next program_of s pid a) (settings_next program_of s pid b)
next-same s pid a b order same = of (process_at s pid) refl
  where
    by : (p : Process) → process_at s pid ≡ Some p → (n : Next) → next p ≡ n → Agree (step program_of s pid).after (settings_next program_of s pid a) (settings_next program_of s pid b)
    by p at (inside r) is q lives =
        ap (λ all. settings_of all q) (next-inside s pid a p r at is)
        ∙ same q (inside-comes s pid q p r at (subst (λ (w : Stepped). IsLive w.after q) (step-is program_of s pid p at ∙ ap (step_by program_of s pid p) is) lives))
        ∙ sym (ap (λ all. settings_of all q) (next-inside s pid b p r at is))
    by p at (calls_for call) is q lives =
        ap (λ all. settings_of all q) (next-called s pid a p call at is)
        ∙ after-call s pid p at order a b same call (answer program_of s pid call).outcome refl q
        (subst (λ (w : Stepped). IsLive w.after q) (step-is program_of s pid p at ∙ ap (step_by program_of s pid p) is) lives)
        ∙ sym (ap (λ all. settings_of all q) (next-called s pid b p call at is))

    of : (o : Option Process) → process_at s pid ≡ o → Agree (step program_of s pid).after (settings_next program_of s pid a) (settings_next program_of s pid b)
    of None none q lives =
        ap (λ all. settings_of all q) (next-gone s pid a none)
        ∙ same q (subst (λ (w : Stepped). IsLive w.after q) (step-gone program_of s pid none) lives)
        ∙ sym (ap (λ all. settings_of all q) (next-gone s pid b none))
    of (Some p) at q lives = by p at (next p) refl q lives
