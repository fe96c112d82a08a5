-- The limits of a process without a promise.
use Rattle.std.proofs.Common.{◌≡◌, ◌≢◌, ◌⊎◌, inl, inr, ⊎_elim, ℕ, Bool, true, false, not, ◌||◌, if◌then◌else◌, List, [], ◌∷◌, ◌++◌, Option, None, Some, refl, ap, sym, subst, ◌∙◌}
use Rattle.std.proofs.lemmas.Bool.{and_parts, cases_eq}
use Rattle.pv_model.specs.declared.call.Call.{Call}
use Rattle.pv_model.specs.declared.open_flags.Mode.{Mode}
use Rattle.pv_model.specs.declared.open_flags.Mode.TheVariants.{Read as ReadMode, Write as WriteMode, ReadWrite}
use Rattle.pv_model.specs.declared.promise.Promise.{Promise}
use Rattle.pv_model.specs.declared.promise.Promise.TheVariants.{Rpath, Wpath, Cpath}
use Rattle.pv_model.specs.Machine.{Bytes, needs, needs_cpath, needs_of_mode, Promises, Need, is_met, contains, missing_promise, Program, Process, State, reads, writes, process_at, step, gain_descriptor, Touches, Justifies, find_entry}
use Rattle.pv_model.specs.Sealed.{has_none_of, is_pledged_without}
use Rattle.pv_model.specs.Touch.{gain_by_open}
use Rattle.pv_laws_states.specs.States.{IsValid}
use Rattle.pv_laws_access.proofs.JustifiedChanges.{entries-explained, needs-open}
use Rattle.pv_laws_access.proofs.JustifiedGains.{gains-justified}

-- ---- promises that are held

-- if all needs are met, the needs after the first are met
met-following : (o : Option Promises) (others more : List Need) → missing_promise o (others ++ more) ≡ None → missing_promise o more ≡ None
met-following o [] more met = met
met-following o ([] ∷ others) more met = met-following o others more met
met-following o ((p ∷ ps) ∷ others) more met =
    elim (is_met o (p ∷ ps)) as (λ b. (if b then missing_promise o (others ++ more) else Some p) ≡ None → missing_promise o more ≡ None) [
      | true ↦ λ rest. met-following o others more rest
      | false ↦ λ bad. cc bad
    ] met

-- a promise that is not held is missing
pub missed : (o : Option Promises) (q : Promise) (rest : List Need) → has_none_of (q ∷ []) o ≡ true → missing_promise o ((q ∷ []) ∷ rest) ≡ None → ⊥
missed None q rest none met = cc none
missed (Some held) q rest none met = by (contains held q) (and_parts (not (contains held q)) true none).0 met
  where
    by : (b : Bool) → not b ≡ true → (if (b || false) then missing_promise (Some held) rest else Some q) ≡ None → ⊥
    by true unmet met = cc unmet
    by false unmet met = cc met

pub no-cpath : (o : Option Promises) (others : List Need) → has_none_of (Cpath ∷ []) o ≡ true → missing_promise o (others ++ needs_cpath) ≡ None → ⊥
no-cpath o others none met = missed o Cpath [] none (met-following o others needs_cpath met)

pub no-rpath : (o : Option Promises) (m : Mode) (rest : List Need) → reads m ≡ true → has_none_of (Rpath ∷ []) o ≡ true → missing_promise o (needs_of_mode m ++ rest) ≡ None → ⊥
no-rpath o WriteMode rest reading none met = cc reading
no-rpath o ReadMode rest reading none met = missed o Rpath rest none met
no-rpath o ReadWrite rest reading none met = missed o Rpath ((Wpath ∷ []) ∷ rest) none met

pub no-wpath : (o : Option Promises) (m : Mode) (rest : List Need) → writes m ≡ true → has_none_of (Wpath ∷ []) o ≡ true → missing_promise o (needs_of_mode m ++ rest) ≡ None → ⊥
no-wpath o ReadMode rest writing none met = cc writing
no-wpath o WriteMode rest writing none met = missed o Wpath rest none met
no-wpath o ReadWrite rest writing none met = missed o Wpath rest none (met-following o ((Rpath ∷ []) ∷ []) ((Wpath ∷ []) ∷ rest) met)

-- ---- the laws

pub equal-or_not : (a b : Option ℕ) → (a ≡ b) ⊎ (a ≢ b)
equal-or_not None None = inl refl
equal-or_not None (Some n) = inr (λ is. cc is)
equal-or_not (Some m) None = inr (λ is. cc is)
equal-or_not (Some m) (Some n) = ⊎_elim (λ same. inl (ap Some same)) (λ other. inr (λ is. let same : m ≡ n = cc is in other same)) (cases_eq m n)

pub without-cpath : (program_of : Bytes → Option Program) (s : State) (pid : ℕ) (p : Process) (d : ℕ) (name : Bytes) → IsValid s → process_at s pid ≡ Some p
    → is_pledged_without (Cpath ∷ []) p ≡ true → find_entry (step program_of s pid).after.tree d name ≡ find_entry s.tree d name
without-cpath program_of s pid p d name whole at none =
    ⊎_elim (λ same. same)
    (λ differs.
    let e = entries-explained program_of s pid d name whole differs in
    let both : Some e.0.0 ≡ Some p = sym e.0.2 ∙ at in
    let same : e.0.0 ≡ p = cc both in
    absurd (no-cpath e.0.0.promises e.1.0 (ap (λ (q : Process). is_pledged_without (Cpath ∷ []) q) same ∙ none) (ap (missing_promise e.0.0.promises) (sym e.1.1) ∙ e.0.4)))
    (equal-or_not (find_entry (step program_of s pid).after.tree d name) (find_entry s.tree d name))

-- a gained descriptor results from an open whose promises are held
met-mode : (s : State) (q : Process) (call : Call) (n : ℕ) (mode : Mode) → missing_promise q.promises (needs call) ≡ None → Justifies s q call (gain_descriptor n mode)
    → (rest : List Need) × (missing_promise q.promises (needs_of_mode mode ++ rest) ≡ None)
met-mode s q call n mode met (gain_by_open flags place _ _ flagged moded allowed node) =
    let rest : List Need = if flags.create then needs_cpath else [] in
    (rest, ap (λ m. missing_promise q.promises (needs_of_mode m ++ rest)) (sym moded) ∙ ap (missing_promise q.promises) (sym (needs-open call flags flagged)) ∙ met)

module _ (program_of : Bytes → Option Program) (s : State) (pid : ℕ) (p : Process) (n : ℕ) (mode : Mode) (whole : IsValid s) (at : process_at s pid ≡ Some p) where
  met-gain : Touches program_of s pid (gain_descriptor n mode) → (rest : List Need) × (missing_promise p.promises (needs_of_mode mode ++ rest) ≡ None)
  met-gain gains =
      let e = gains-justified program_of s pid n mode whole gains in
      let both : Some e.0 ≡ Some p = sym e.2 ∙ at in
      let same : e.0 ≡ p = cc both in
      subst (λ (q : Process). (rest : List Need) × (missing_promise q.promises (needs_of_mode mode ++ rest) ≡ None)) same (met-mode s e.0 e.1 n mode e.4 e.5)

  pub without-wpath : is_pledged_without (Wpath ∷ []) p ≡ true → writes mode ≡ true → ¬ Touches program_of s pid (gain_descriptor n mode)
  without-wpath none writing gains = let met = met-gain gains in no-wpath p.promises mode met.0 writing none met.1

  pub without-rpath : is_pledged_without (Rpath ∷ []) p ≡ true → reads mode ≡ true → ¬ Touches program_of s pid (gain_descriptor n mode)
  without-rpath none reading gains = let met = met-gain gains in no-rpath p.promises mode met.0 reading none met.1
