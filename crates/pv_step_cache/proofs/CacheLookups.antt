-- Lookup and insertion of transitions.
use Rattle.std.proofs.Common.{◌≡◌, ◌∙◌, sym, ap, subst, ℕ, zero, suc, inl, inr, List, [], ◌∷◌, map, Some, slice_get}
use Rattle.std.specs.List.{AllByRecursion}
use Rattle.pv_model.specs.Machine.{Observer, Bytes, program_of, State, step}
use Rattle.pv_laws_steps.proofs.OfLawsAnswers.Lists.{each-append}
use Rattle.pv_laws_states.specs.States.{IsValid}
use Rattle.pv_state_encoding.specs.Encoded.{encoded}
use Rattle.pv_step_cache.specs.declared.cells.Cell.{Cell}
use Rattle.pv_step_cache.specs.declared.steps.CachedStep.{CachedStep}
use Rattle.pv_step_cache.specs.Edits.{cell_of, edited, step_key, AreCellEdits}
use Rattle.pv_step_cache.specs.Cached.{AreCells, DependsOnSeen, IsStep, AreApart, KeepsMore}
use Rattle.pv_step_cache.specs.Steps.{WasCached, IsOfCells, Adds, texts_of}
use Rattle.pv_step_cache.proofs.RepeatedSteps.{IsAgain, step-again, step-more}
use Rattle.pv_step_cache.proofs.CellLists.{all-encoded}

module _ (number : List Bytes → ℕ) (IsCached : List Bytes → Type 0) (observe : Observer Bytes) where
  -- a cached transition is right
  abbrev pub IsCachedStep : CachedStep → Type 0
  IsCachedStep k = IsStep number IsCached observe k.key.items (texts_of k) k.edits.items

  abbrev pub AreCachedSteps : List CachedStep → Type 0
  AreCachedSteps steps = AllByRecursion IsCachedStep steps

  one-of : (steps : List CachedStep) (i : ℕ) (k : CachedStep) → AreCachedSteps steps → slice_get steps i ≡ Some k → IsCachedStep k
  one-of [] i k all at = cc
  one-of (x ∷ steps) zero k all at = let same : x ≡ k = cc in subst IsCachedStep same all.0
  one-of (x ∷ steps) (suc i) k all at = one-of steps i k all.1 at

  pub recalled-again : (apart : AreApart number IsCached) → DependsOnSeen observe → (steps : List CachedStep) → AreCachedSteps steps → (t : State) (pid : ℕ) (cells : List Cell) (texts : List Bytes) (after : List Cell) → IsValid t → AreCells number IsCached t cells
      → WasCached steps (step_key pid cells) cells texts after → IsAgain number IsCached apart observe pid t texts after
  recalled-again apart depends steps all t pid cells texts after whole there was =
      let again : IsAgain number IsCached apart observe pid t (texts_of was.step) (map (edited cells) was.step.edits.items) =
      step-again number IsCached apart observe depends was.step.key.items (texts_of was.step) was.step.edits.items (one-of steps was.found.number was.step all was.found.at) t pid cells whole there was.found.key_is in
      subst (IsAgain number IsCached apart observe pid t texts) (sym was.after_is)
      (subst (λ (ts : List Bytes). IsAgain number IsCached apart observe pid t ts (map (edited cells) was.step.edits.items)) (sym was.texts_are) again)

  -- a step of a valid state whose groups, and those after the step, are stored
  pub cached-step : AreApart number IsCached → (t : State) (pid : ℕ) (before after : List Cell) (texts : List Bytes) (k : CachedStep) → IsValid t → AreCells number IsCached t before
      → AreCells number IsCached (step program_of t pid).after after → texts ≡ observe t pid (step program_of t pid) → IsOfCells k pid before after texts → IsCachedStep k
  cached-step apart t pid before after texts k whole there left observed of = record {
    state = t;
    pid = pid;
    whole = whole;
    before = there.cached;
    after = left.cached;
    key_is = of.key_is ∙ ap (step_key pid) there.are;
    texts_are = of.texts_are ∙ observed;
    edits_are =
        all-encoded number IsCached apart pid (encoded t) (encoded (step program_of t pid).after) k.edits.items left.cached
        (subst (λ (cs : List Cell). AreCellEdits pid cs (map (cell_of number) (encoded (step program_of t pid).after)) k.edits.items) there.are
        (subst (λ (cs : List Cell). AreCellEdits pid before cs k.edits.items) left.are of.edits_are));
  }

  pub steps-added : AreApart number IsCached → (t : State) (pid : ℕ) (before after : List Cell) (texts : List Bytes) (old new : List CachedStep) → IsValid t → AreCells number IsCached t before
      → AreCells number IsCached (step program_of t pid).after after → texts ≡ observe t pid (step program_of t pid) → AreCachedSteps old → Adds old new pid before after texts → AreCachedSteps new
  steps-added apart t pid before after texts old new whole there left observed all (inl same) = subst AreCachedSteps (sym same) all
  steps-added apart t pid before after texts old new whole there left observed all (inr (k, is, of)) =
      subst AreCachedSteps (sym is) (each-append IsCachedStep old (k ∷ []) all (cached-step apart t pid before after texts k whole there left observed of, tt))

-- cached transitions stay right when more groups are stored
pub steps-more : (number : List Bytes → ℕ) (IsCached : List Bytes → Type 0) (number_now : List Bytes → ℕ) (IsCachedNow : List Bytes → Type 0) → KeepsMore number IsCached number_now IsCachedNow → (observe : Observer Bytes) (steps : List CachedStep)
    → AreCachedSteps number IsCached observe steps → AreCachedSteps number_now IsCachedNow observe steps
steps-more number IsCached number_now IsCachedNow more observe [] all = tt
steps-more number IsCached number_now IsCachedNow more observe (k ∷ steps) all =
    (step-more number IsCached number_now IsCachedNow more observe k.key.items (texts_of k) k.edits.items all.0, steps-more number IsCached number_now IsCachedNow more observe steps all.1)
