-- A cached transition is valid for every step with the same key, and stays valid when more groups are stored.
use Rattle.std.proofs.Common.{◌≡◌, ◌∙◌, sym, ap, ap₂, subst, ℕ, Bool, true, false, ◌==◌, if◌then◌else◌, List, [], ◌∷◌, map}
use Rattle.std.specs.List.{AllByRecursion}
use Rattle.pv_model.specs.Machine.{Observer, Bytes, program_of, State, step}
use Rattle.pv_laws_states.specs.States.{IsValid}
use Rattle.pv_laws_steps.specs.Seen.{seen, with_insides}
use Rattle.pv_laws_steps.proofs.DependentSteps.{steps-by_seen}
use Rattle.pv_state_encoding.specs.Encoded.{OwnedGroup, encoded, seen_of}
use Rattle.pv_state_encoding.proofs.InjectiveEncoding.{packed-apart}
use Rattle.pv_step_cache.specs.declared.cells.Cell.{Cell}
use Rattle.pv_step_cache.specs.declared.cells.Edit.{Edit}
use Rattle.pv_step_cache.specs.declared.cells.Edit.TheVariants.{Keep, Put}
use Rattle.pv_step_cache.specs.Edits.{cell_of, seen_number, step_key, edited, IsEdit, AreEdits}
use Rattle.pv_step_cache.specs.Cached.{IsCachedBoth, AreCells, DependsOnSeen, IsStep, AreApart, KeepsMore}
use Rattle.pv_step_cache.proofs.Keys.{same-seen}
use Rattle.pv_step_cache.proofs.StatesByKey.{AreAfter, all-after, all-edited, all-cached}

module _ (number : List Bytes → ℕ) (IsCached : List Bytes → Type 0) (apart : AreApart number IsCached) where
  seen-is : (pid : ℕ) (c : OwnedGroup) → seen_number pid (cell_of number c) ≡ number (seen_of pid c)
  seen-is pid c = by (c.owner == pid)
    where
      by : (b : Bool) → (if b then number c.group else number c.outside) ≡ number (if b then c.group else c.outside)
      by true = λ i. number c.group
      by false = λ i. number c.outside

  seen-cached : (pid : ℕ) (c : OwnedGroup) → IsCachedBoth number IsCached c → IsCached (seen_of pid c)
  seen-cached pid c cached = by (c.owner == pid)
    where
      by : (b : Bool) → IsCached (if b then c.group else c.outside)
      by true = cached.0
      by false = cached.1

  heads : {X : Type 0} (x y : X) (xs ys : List X) → x ∷ xs ≡ y ∷ ys → (x ≡ y) × (xs ≡ ys)
  heads x y xs ys is = (let same : x ≡ y = cc in same, let same : xs ≡ ys = cc in same)

  -- equal numbers are of equal groups
  same-numbers : (pid : ℕ) (cs ds : List OwnedGroup) → AllByRecursion (IsCachedBoth number IsCached) ds
      → map (seen_number pid) (map (cell_of number) cs) ≡ map (seen_number pid) (map (cell_of number) ds) → map (seen_of pid) cs ≡ map (seen_of pid) ds
  same-numbers pid [] [] cached same = λ i. []
  same-numbers pid [] (d ∷ ds) cached same = cc
  same-numbers pid (c ∷ cs) [] cached same = cc
  same-numbers pid (c ∷ cs) (d ∷ ds) cached same =
      let both =
      heads (seen_number pid (cell_of number c)) (seen_number pid (cell_of number d)) (map (seen_number pid) (map (cell_of number) cs)) (map (seen_number pid) (map (cell_of number) ds)) same in
      let first : seen_of pid c ≡ seen_of pid d = apart (seen_of pid c) (seen_of pid d) (seen-cached pid d cached.0) (sym (seen-is pid c) ∙ both.0 ∙ seen-is pid d) in
      ap₂ (λ (g : List Bytes) gs. g ∷ gs) first (same-numbers pid cs ds cached.1 both.1)

  -- the texts and the cells of a step in another state with the same key, from the cached transition
  pub record IsAgain (observe : Observer Bytes) (pid : ℕ) (t : State) (texts : List Bytes) (cells : List Cell) : Type 0 where
    pub texts_are : texts ≡ observe t pid (step program_of t pid)
    pub cells_are : AreCells number IsCached (step program_of t pid).after cells

  pub step-again : (observe : Observer Bytes) → DependsOnSeen observe → (key : Bytes) (texts : List Bytes) (edits : List Edit) → IsStep number IsCached observe key texts edits → (t : State) (pid : ℕ) (cells : List Cell) → IsValid t → AreCells number IsCached t cells
      → key ≡ step_key pid cells → IsAgain observe pid t texts (map (edited cells) edits)
  step-again observe depends key texts edits it t pid cells whole there same =
      let numbers = heads pid it.pid (map (seen_number pid) (map (cell_of number) (encoded t))) (map (seen_number it.pid) (map (cell_of number) (encoded it.state)))
      (packed-apart (pid ∷ map (seen_number pid) (map (cell_of number) (encoded t))) (it.pid ∷ map (seen_number it.pid) (map (cell_of number) (encoded it.state)))
      (ap (step_key pid) (sym there.are) ∙ sym same ∙ it.key_is)) in
      again numbers.0 numbers.1
    where
      again : pid ≡ it.pid → map (seen_number pid) (map (cell_of number) (encoded t)) ≡ map (seen_number it.pid) (map (cell_of number) (encoded it.state))
          → IsAgain observe pid t texts (map (edited cells) edits)
      again own same_numbers =
          let groups : map (seen_of it.pid) (encoded t) ≡ map (seen_of it.pid) (encoded it.state) =
          same-numbers it.pid (encoded t) (encoded it.state) it.before (ap (λ (k : ℕ). map (seen_number k) (map (cell_of number) (encoded t))) (sym own) ∙ same_numbers) in
          let alike : seen it.pid it.state ≡ seen it.pid t = same-seen it.pid it.state t (sym groups) in
          let steps = steps-by_seen program_of it.state t it.pid it.whole whole alike in
          let are : AreAfter number it.pid it.state t (encoded (with_insides it.pid t (step program_of it.state it.pid).after)) (encoded (step program_of it.state it.pid).after) edits =
          all-after number it.pid it.state t whole alike (step program_of it.state it.pid).after edits it.edits_are in
          let edited_are = all-edited number it.pid it.state t (encoded (with_insides it.pid t (step program_of it.state it.pid).after)) (encoded (step program_of it.state it.pid).after) edits are in
          let cached = all-cached number it.pid it.state t (IsCachedBoth number IsCached) (encoded (with_insides it.pid t (step program_of it.state it.pid).after)) (encoded (step program_of it.state it.pid).after) edits there.cached it.after are in
          subst (λ (k : ℕ). IsAgain observe k t texts (map (edited cells) edits)) (sym own) (record {
            texts_are = it.texts_are ∙ depends it.state t it.pid it.whole whole alike;
            cells_are = record {
              are =
                  ap (λ (cs : List Cell). map (edited cs) edits) there.are ∙ sym edited_are ∙ ap (λ (x : State). map (cell_of number) (encoded x)) (sym steps.after);
              cached = subst (λ (x : State). AllByRecursion (IsCachedBoth number IsCached) (encoded x)) (sym steps.after) cached;
            };
          })

-- ---- when more groups are stored

module _ (number : List Bytes → ℕ) (IsCached : List Bytes → Type 0) (number_now : List Bytes → ℕ) (IsCachedNow : List Bytes → Type 0) (more : KeepsMore number IsCached number_now IsCachedNow) where
  cell-same : (c : OwnedGroup) → IsCachedBoth number IsCached c → cell_of number_now c ≡ cell_of number c
  cell-same c cached =
      let group : number_now c.group ≡ number c.group = more.same c.group cached.0 in
      let outside : number_now c.outside ≡ number c.outside = more.same c.outside cached.1 in
      λ i. record { number = group i; owner = c.owner; outside = outside i }

  pub cells-same : (cs : List OwnedGroup) → AllByRecursion (IsCachedBoth number IsCached) cs → map (cell_of number_now) cs ≡ map (cell_of number) cs
  cells-same [] cached = λ i. []
  cells-same (c ∷ cs) cached = ap₂ (λ (x : Cell) xs. x ∷ xs) (cell-same c cached.0) (cells-same cs cached.1)

  pub cached-more : (cs : List OwnedGroup) → AllByRecursion (IsCachedBoth number IsCached) cs → AllByRecursion (IsCachedBoth number_now IsCachedNow) cs
  cached-more [] cached = tt
  cached-more (c ∷ cs) cached = ((more.cached c.group cached.0.0, more.cached c.outside cached.0.1), cached-more cs cached.1)

  pub cells-more : (s : State) (cells : List Cell) → AreCells number IsCached s cells → AreCells number_now IsCachedNow s cells
  cells-more s cells there = record { are = there.are ∙ sym (cells-same (encoded s) there.cached); cached = cached-more (encoded s) there.cached }

  edit-more : (pid : ℕ) (before : List OwnedGroup) (c : OwnedGroup) (e : Edit) → IsCachedBoth number IsCached c → IsEdit number pid before c e → IsEdit number_now pid before c e
  edit-more pid before c (Keep place) cached it = it
  edit-more pid before c (Put cell) cached it = (cell-same c cached ∙ it.0, it.1)

  edits-more : (pid : ℕ) (before cs : List OwnedGroup) (es : List Edit) → AllByRecursion (IsCachedBoth number IsCached) cs → AreEdits number pid before cs es → AreEdits number_now pid before cs es
  edits-more pid before [] [] cached are = tt
  edits-more pid before [] (e ∷ es) cached are = absurd are
  edits-more pid before (c ∷ cs) [] cached are = absurd are
  edits-more pid before (c ∷ cs) (e ∷ es) cached are = (edit-more pid before c e cached.0 are.0, edits-more pid before cs es cached.1 are.1)

  pub step-more : (observe : Observer Bytes) (key : Bytes) (texts : List Bytes) (edits : List Edit) → IsStep number IsCached observe key texts edits → IsStep number_now IsCachedNow observe key texts edits
  step-more observe key texts edits it = record {
    state = it.state;
    pid = it.pid;
    whole = it.whole;
    before = cached-more (encoded it.state) it.before;
    after = cached-more (encoded (step program_of it.state it.pid).after) it.after;
    key_is = it.key_is ∙ ap (step_key it.pid) (sym (cells-same (encoded it.state) it.before));
    texts_are = it.texts_are;
    edits_are = edits-more it.pid (encoded it.state) (encoded (step program_of it.state it.pid).after) edits it.after it.edits_are;
  }
