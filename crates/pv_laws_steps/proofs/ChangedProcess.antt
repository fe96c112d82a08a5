-- Lists of processes in which one is changed, and operations on both.
use Rattle.std.proofs.Common.{◌≡◌, ◌≢◌, ℕ, suc, Bool, true, false, cond, not, ◌==◌, if◌then◌else◌, List, [], ◌∷◌, ◌++◌, map, filter, length, Option, None, Some, is_some, option_map, refl, ap, ap₂, sym, subst, ◌∙◌}
use Rattle.std.specs.Cmp.{unsigned_ties}
use Rattle.std.specs.FinMap.Entries.{by_order, find, put, where_key}
use Rattle.std.specs.Ordering.{nat_cmp, is_eq, eq_by_cmp}
use Rattle.std.specs.declared.cmp.Ordering.{Ordering}
use Rattle.std.specs.declared.cmp.Ordering.TheVariants.{Less, Equal, Greater}
use Rattle.std.proofs.lemmas.Bool.{eqb-true, ne_eqb}
use Rattle.pv_model.specs.Machine.{is_empty, parent_of, adopt, is_unclaimed, adopter, end_process, statuses, among, used_files, held_by_process, collect, present, keep, Process, ProcessRecord, live, ended_record, State, live_process, process_at, with_process}
use Rattle.pv_model.specs.Calls.Processes.{with_parent, adopt_orphans}
use Rattle.pv_laws_trees.specs.Preserved.{preserved}
use Rattle.pv_laws_states.proofs.ReferenceMembers.{all_of}
use Rattle.pv_laws_steps.specs.Beside.{change_live, change_at, with_change, HasSameReferences}

-- a change that keeps the parent, whichever it is
pub record KeepsParent (f : Process → Process) : Type 0 where
  pub same : (p : Process) → (f p).parent ≡ p.parent
  pub whoever : (p : Process) (n : ℕ) → f (record p { parent = n }) ≡ record (f p) { parent = n }

module _ (k : ℕ) (f : Process → Process) where
  abbrev pub changed : List (ℕ × ProcessRecord) → List (ℕ × ProcessRecord)
  changed es = map (change_at k f) es

  abbrev pub change_of : ℕ → ProcessRecord → ProcessRecord
  change_of j r = if j == k then change_live f r else r

  pub change-other : (j : ℕ) (r : ProcessRecord) → j ≢ k → change_of j r ≡ r
  change-other j r other = ap (λ b. if b then change_live f r else r) (ne_eqb j k other)

  pub change-itself : (r : ProcessRecord) → change_of k r ≡ change_live f r
  change-itself r = ap (λ b. if b then change_live f r else r) (itself k)
    where
      itself : (n : ℕ) → (n == n) ≡ true
      itself n = Rattle.std.proofs.lemmas.Bool.eq-eqb n n refl

  -- ---- find, put

  pub find-changed : (j : ℕ) (es : List (ℕ × ProcessRecord)) → find nat_cmp j (changed es) ≡ option_map (change_of j) (find nat_cmp j es)
  find-changed j [] = refl
  find-changed j (e ∷ es) = by (eq_by_cmp nat_cmp j e.0) refl (find-changed j es)
    where
      by : (b : Bool) → eq_by_cmp nat_cmp j e.0 ≡ b → find nat_cmp j (changed es) ≡ option_map (change_of j) (find nat_cmp j es)
          → cond b (Some (change_of e.0 e.1)) (find nat_cmp j (changed es)) ≡ option_map (change_of j) (cond b (Some e.1) (find nat_cmp j es))
      by true tied rest = let same : j ≡ e.0 = eqb-true j e.0 (unsigned_ties j e.0 ∙ tied) in ap (λ n. Some (change_of n e.1)) (sym same)
      by false apart rest = rest

  pub put-changed : (j : ℕ) (r : ProcessRecord) (es : List (ℕ × ProcessRecord)) → put nat_cmp j (change_of j r) (changed es) ≡ changed (put nat_cmp j r es)
  put-changed j r [] = refl
  put-changed j r (e ∷ es) = by (nat_cmp j e.0) refl (put-changed j r es)
    where
      by : (o : Ordering) → nat_cmp j e.0 ≡ o → put nat_cmp j (change_of j r) (changed es) ≡ changed (put nat_cmp j r es)
          → by_order o ((j, change_of j r) ∷ change_at k f e ∷ changed es) ((e.0, change_of j r) ∷ changed es) (change_at k f e ∷ put nat_cmp j (change_of j r) (changed es))
          ≡ changed (by_order o ((j, r) ∷ e ∷ es) ((e.0, r) ∷ es) (e ∷ put nat_cmp j r es))
      by Less is rest = refl
      by Equal is rest = let same : j ≡ e.0 = eqb-true j e.0 (unsigned_ties j e.0 ∙ ap is_eq is) in ap (λ n. (e.0, change_of n r) ∷ changed es) same
      by Greater is rest = ap (λ xs. change_at k f e ∷ xs) rest

  pub put-other : (j : ℕ) (r : ProcessRecord) (es : List (ℕ × ProcessRecord)) → j ≢ k → put nat_cmp j r (changed es) ≡ changed (put nat_cmp j r es)
  put-other j r es other = ap (λ x. put nat_cmp j x (changed es)) (sym (change-other j r other)) ∙ put-changed j r es

  pub put-itself : (p : Process) (es : List (ℕ × ProcessRecord)) → put nat_cmp k (live (f p)) (changed es) ≡ changed (put nat_cmp k (live p) es)
  put-itself p es = ap (λ x. put nat_cmp k x (changed es)) (sym (change-itself (live p))) ∙ put-changed k (live p) es

  pub length-changed : (es : List (ℕ × ProcessRecord)) → length (changed es) ≡ length es
  length-changed [] = refl
  length-changed (e ∷ es) = ap suc (length-changed es)

  pub where-changed : (test : ℕ → Bool) (es : List (ℕ × ProcessRecord)) → where_key nat_cmp test (changed es) ≡ changed (where_key nat_cmp test es)
  where-changed test [] = refl
  where-changed test (e ∷ es) = by (test e.0) (where-changed test es)
    where
      by : (b : Bool) → where_key nat_cmp test (changed es) ≡ changed (where_key nat_cmp test es)
          → cond b (change_at k f e ∷ where_key nat_cmp test (changed es)) (where_key nat_cmp test (changed es)) ≡ changed (cond b (e ∷ where_key nat_cmp test es) (where_key nat_cmp test es))
      by true rest = ap (λ xs. change_at k f e ∷ xs) rest
      by false rest = rest

  -- live processes stay live, and ended ones are unchanged
  pub lives-changed : (j : ℕ) (es : List (ℕ × ProcessRecord)) → is_some (live_process (find nat_cmp j (changed es))) ≡ is_some (live_process (find nat_cmp j es))
  lives-changed j es = ap (λ o. is_some (live_process o)) (find-changed j es) ∙ by (find nat_cmp j es)
    where
      of : (b : Bool) (r : ProcessRecord) → is_some (live_process (Some (if b then change_live f r else r))) ≡ is_some (live_process (Some r))
      of true (live p) = refl
      of true (ended_record parent status) = refl
      of false r = refl

      by : (o : Option ProcessRecord) → is_some (live_process (option_map (change_of j) o)) ≡ is_some (live_process o)
      by None = refl
      by (Some r) = of (j == k) r

  module _ (keeps : KeepsParent f) where
    parent-change : (j : ℕ) (r : ProcessRecord) → parent_of (change_of j r) ≡ parent_of r
    parent-change j r = by (j == k) r
      where
        by : (b : Bool) (r : ProcessRecord) → parent_of (if b then change_live f r else r) ≡ parent_of r
        by true (live p) = keeps.same p
        by true (ended_record parent status) = refl
        by false r = refl

    adopt-change : (old new : ℕ) (e : ℕ × ProcessRecord) → adopt old new (change_at k f e) ≡ change_at k f (adopt old new e)
    adopt-change old new e =
        ap (λ n. cond (n == old) (e.0, with_parent (change_of e.0 e.1) new) (change_at k f e)) (parent-change e.0 e.1) ∙ by (parent_of e.1 == old)
      where
        of : (b : Bool) (r : ProcessRecord) → with_parent (if b then change_live f r else r) new ≡ (if b then change_live f (with_parent r new) else with_parent r new)
        of true (live p) = ap live (sym (keeps.whoever p new))
        of true (ended_record parent status) = refl
        of false r = refl

        by : (b : Bool) → cond b (e.0, with_parent (change_of e.0 e.1) new) (change_at k f e) ≡ change_at k f (cond b (e.0, with_parent e.1 new) e)
        by true = ap (λ r. (e.0, r)) (of (e.0 == k) e.1)
        by false = refl

    unclaimed-change : (j : ℕ) (r : ProcessRecord) → is_unclaimed (change_of j r) ≡ is_unclaimed r
    unclaimed-change j r = by (j == k) r
      where
        by : (b : Bool) (r : ProcessRecord) → is_unclaimed (if b then change_live f r else r) ≡ is_unclaimed r
        by true (live p) = refl
        by true (ended_record parent status) = refl
        by false r = refl

    abbrev claimed : List (ℕ × ProcessRecord) → List (ℕ × ProcessRecord)
    claimed es = filter (λ r. not (is_unclaimed r.1)) es

    adopted-changed : (old new : ℕ) (es : List (ℕ × ProcessRecord)) → claimed (map (adopt old new) (changed es)) ≡ changed (claimed (map (adopt old new) es))
    adopted-changed old new [] = refl
    adopted-changed old new (e ∷ es) =
        ap (λ (x : ℕ × ProcessRecord). cond (not (is_unclaimed x.1)) (x ∷ claimed (map (adopt old new) (changed es))) (claimed (map (adopt old new) (changed es)))) (adopt-change old new e)
        ∙ ap (λ b. cond (not b) (change_at k f (adopt old new e) ∷ claimed (map (adopt old new) (changed es))) (claimed (map (adopt old new) (changed es)))) (unclaimed-change _ (adopt old new e).1)
        ∙ by (not (is_unclaimed (adopt old new e).1)) (adopted-changed old new es)
      where
        by : (b : Bool) → claimed (map (adopt old new) (changed es)) ≡ changed (claimed (map (adopt old new) es))
            → cond b (change_at k f (adopt old new e) ∷ claimed (map (adopt old new) (changed es))) (claimed (map (adopt old new) (changed es)))
            ≡ changed (cond b (adopt old new e ∷ claimed (map (adopt old new) es)) (claimed (map (adopt old new) es)))
        by true rest = ap (λ xs. change_at k f (adopt old new e) ∷ xs) rest
        by false rest = rest

    -- the children of a process
    abbrev of_parent : ℕ → List (ℕ × ProcessRecord) → List (ℕ × ProcessRecord)
    of_parent n es = filter (λ r. parent_of r.1 == n) es

    of-parent-changed : (n : ℕ) (es : List (ℕ × ProcessRecord)) → of_parent n (changed es) ≡ changed (of_parent n es)
    of-parent-changed n [] = refl
    of-parent-changed n (e ∷ es) =
        ap (λ m. cond (m == n) (change_at k f e ∷ of_parent n (changed es)) (of_parent n (changed es))) (parent-change e.0 e.1) ∙ by (parent_of e.1 == n) (of-parent-changed n es)
      where
        by : (b : Bool) → of_parent n (changed es) ≡ changed (of_parent n es)
            → cond b (change_at k f e ∷ of_parent n (changed es)) (of_parent n (changed es)) ≡ changed (cond b (e ∷ of_parent n es) (of_parent n es))
        by true rest = ap (λ xs. change_at k f e ∷ xs) rest
        by false rest = rest

    statuses-changed : (es : List (ℕ × ProcessRecord)) → statuses (changed es) ≡ statuses es
    statuses-changed [] = refl
    statuses-changed ((j, r) ∷ es) = by (j == k) r (statuses-changed es)
      where
        by : (b : Bool) (r : ProcessRecord) → statuses (changed es) ≡ statuses es → statuses ((j, if b then change_live f r else r) ∷ changed es) ≡ statuses ((j, r) ∷ es)
        by true (live p) rest = rest
        by false (live p) rest = rest
        by true (ended_record parent status) rest = ap (λ xs. (j, status) ∷ xs) rest
        by false (ended_record parent status) rest = ap (λ xs. (j, status) ∷ xs) rest

    empty-changed : (es : List (ℕ × ProcessRecord)) → is_empty (changed es) ≡ is_empty es
    empty-changed [] = refl
    empty-changed (e ∷ es) = refl

    pub children-changed : (n : ℕ) (es : List (ℕ × ProcessRecord)) → (statuses (of_parent n (changed es)) ≡ statuses (of_parent n es)) × (is_empty (of_parent n (changed es)) ≡ is_empty (of_parent n es))
    children-changed n es = (
      ap statuses (of-parent-changed n es) ∙ statuses-changed (of_parent n es),
      ap is_empty (of-parent-changed n es) ∙ empty-changed (of_parent n es),
    )

  -- ---- references

  -- the change keeps the references of each live process with the number
  abbrev pub Fits : List (ℕ × ProcessRecord) → Type 0
  Fits [] = Unit {0}
  Fits ((j, live p) ∷ es) = (j ≡ k → HasSameReferences p (f p)) × Fits es
  Fits ((j, ended_record parent status) ∷ es) = Fits es

  all-changed : (g : Process → List ℕ) → ((p : Process) → HasSameReferences p (f p) → g (f p) ≡ g p) → (es : List (ℕ × ProcessRecord)) → Fits es → all_of g (changed es) ≡ all_of g es
  all-changed g same [] fit = refl
  all-changed g same ((j, live p) ∷ es) fit = by (j == k) refl (all-changed g same es fit.1)
    where
      by : (b : Bool) → (j == k) ≡ b → all_of g (changed es) ≡ all_of g es → all_of g ((j, if b then live (f p) else live p) ∷ changed es) ≡ g p ++ all_of g es
      by true is rest = ap₂ (λ (a b : List ℕ). a ++ b) (same p (fit.0 (eqb-true j k is))) rest
      by false is rest = ap (λ (b : List ℕ). g p ++ b) rest
  all-changed g same ((j, ended_record parent status) ∷ es) fit = by (j == k) (all-changed g same es fit)
    where
      by : (b : Bool) → all_of g (changed es) ≡ all_of g es → all_of g ((j, if b then ended_record parent status else ended_record parent status) ∷ changed es) ≡ all_of g es
      by true rest = rest
      by false rest = rest

  held-alike : (p : Process) → HasSameReferences p (f p) → held_by_process (f p) ≡ held_by_process p
  held-alike p is = ap₂ (λ d (hs : List ℕ). d ∷ hs) is.directory is.held

  used-alike : (p : Process) → HasSameReferences p (f p) → used_files (f p) ≡ used_files p
  used-alike p is = ap (λ ds. map (λ (d : Rattle.pv_model.specs.State.Descriptor). d.file) (present ds)) is.descriptors

  pub collect-changed : (s : State) → Fits s.processes → collect (with_change s k f) ≡ with_change (collect s) k f
  unfolding collect
  collect-changed s fit =
      ap₂ (λ (hs us : List ℕ). record s { tree = preserved s.tree (hs ++ map (λ f. f.node) (present (keep (among us) s.files))); files = keep (among us) s.files; processes = changed s.processes })
      (all-changed held_by_process held-alike s.processes fit) (all-changed used_files used-alike s.processes fit)

  -- ---- the condition is preserved

  fits-cons : (j : ℕ) (r : ProcessRecord) (es : List (ℕ × ProcessRecord)) → ((p : Process) → r ≡ live p → j ≡ k → HasSameReferences p (f p)) → Fits es → Fits ((j, r) ∷ es)
  fits-cons j (live p) es alike fit = (alike p refl, fit)
  fits-cons j (ended_record parent status) es alike fit = fit

  fits-tail : (e : ℕ × ProcessRecord) (es : List (ℕ × ProcessRecord)) → Fits (e ∷ es) → Fits es
  fits-tail (j, live p) es fit = fit.1
  fits-tail (j, ended_record parent status) es fit = fit

  fits-head : (e : ℕ × ProcessRecord) (es : List (ℕ × ProcessRecord)) → Fits (e ∷ es) → (p : Process) → e.1 ≡ live p → e.0 ≡ k → HasSameReferences p (f p)
  fits-head (j, live q) es fit p is here = let same : q ≡ p = cc is in subst (λ (x : Process). HasSameReferences x (f x)) same (fit.0 here)
  fits-head (j, ended_record parent status) es fit p is here = cc is

  pub fits-put : (j : ℕ) (r : ProcessRecord) (es : List (ℕ × ProcessRecord)) → ((p : Process) → r ≡ live p → j ≡ k → HasSameReferences p (f p)) → Fits es → Fits (put nat_cmp j r es)
  fits-put j r [] alike fit = fits-cons j r [] alike tt
  fits-put j r (e ∷ es) alike fit = by (nat_cmp j e.0) refl (fits-put j r es alike (fits-tail e es fit))
    where
      by : (o : Ordering) → nat_cmp j e.0 ≡ o → Fits (put nat_cmp j r es) → Fits (by_order o ((j, r) ∷ e ∷ es) ((e.0, r) ∷ es) (e ∷ put nat_cmp j r es))
      by Less is rest = fits-cons j r (e ∷ es) alike fit
      by Equal is rest = let same : j ≡ e.0 = eqb-true j e.0 (unsigned_ties j e.0 ∙ ap is_eq is) in fits-cons e.0 r es (λ p live_is here. alike p live_is (same ∙ here)) (fits-tail e es fit)
      by Greater is rest = fits-cons e.0 e.1 (put nat_cmp j r es) (fits-head e es fit) rest

  pub fits-filter : (test : ℕ × ProcessRecord → Bool) (es : List (ℕ × ProcessRecord)) → Fits es → Fits (filter test es)
  fits-filter test [] fit = tt
  fits-filter test (e ∷ es) fit = by (test e) (fits-filter test es (fits-tail e es fit))
    where
      by : (b : Bool) → Fits (filter test es) → Fits (cond b (e ∷ filter test es) (filter test es))
      by true rest = fits-cons e.0 e.1 (filter test es) (fits-head e es fit) rest
      by false rest = rest

  module _ (keeps : KeepsParent f) where
    alike-parent : (p : Process) (n : ℕ) → HasSameReferences p (f p) → HasSameReferences (record p { parent = n }) (f (record p { parent = n }))
    alike-parent p n is = subst (HasSameReferences (record p { parent = n })) (sym (keeps.whoever p n)) (record { directory = is.directory; descriptors = is.descriptors; held = is.held })

    fits-adopt : (old new : ℕ) (es : List (ℕ × ProcessRecord)) → Fits es → Fits (map (adopt old new) es)
    fits-adopt old new [] fit = tt
    fits-adopt old new ((j, live p) ∷ es) fit = by (p.parent == old) (fits-adopt old new es fit.1)
      where
        by : (b : Bool) → Fits (map (adopt old new) es) → Fits (cond b (j, live (record p { parent = new })) (j, live p) ∷ map (adopt old new) es)
        by true rest = (λ here. alike-parent p new (fit.0 here), rest)
        by false rest = (fit.0, rest)
    fits-adopt old new ((j, ended_record parent status) ∷ es) fit = by (parent == old) (fits-adopt old new es fit)
      where
        by : (b : Bool) → Fits (map (adopt old new) es) → Fits (cond b (j, ended_record new status) (j, ended_record parent status) ∷ map (adopt old new) es)
        by true rest = rest
        by false rest = rest

  -- ---- states

  pub process-changed : (s : State) (j : ℕ) → j ≢ k → process_at (with_change s k f) j ≡ process_at s j
  process-changed s j other = ap live_process (find-changed j s.processes ∙ by (find nat_cmp j s.processes))
    where
      by : (o : Option ProcessRecord) → option_map (change_of j) o ≡ o
      by None = refl
      by (Some r) = ap Some (change-other j r other)

  pub with-changed : (s : State) (j : ℕ) (p : Process) → j ≢ k → with_process (with_change s k f) j p ≡ with_change (with_process s j p) k f
  with-changed s j p other = ap (λ ps. record s { processes = ps }) (put-other j (live p) s.processes other)

  module _ (keeps : KeepsParent f) where
    pub end-changed : (s : State) (j : ℕ) (me : Process) (status : ℕ) → j ≢ k → end_process (with_change s k f) j me status ≡ with_change (end_process s j me status) k f
    unfolding end_process
    end-changed s j me status other =
        ap (λ ps. adopt_orphans (record s { processes = ps }) j) (put-other j (ended_record me.parent status) s.processes other)
        ∙ (λ i. record s { processes = claimed keeps (map (adopt j (if lives-changed 1 gone i then 1 else 0)) (changed gone)) })
        ∙ ap (λ ps. record s { processes = ps }) (adopted-changed keeps j (adopter (record s { processes = gone })) gone)
      where
        gone : List (ℕ × ProcessRecord)
        gone = put nat_cmp j (ended_record me.parent status) s.processes

    pub fits-end : (s : State) (j : ℕ) (me : Process) (status : ℕ) → Fits s.processes → Fits (end_process s j me status).processes
    unfolding end_process
    fits-end s j me status fit =
        fits-filter (λ r. not (is_unclaimed r.1)) (map (adopt j (adopter (record s { processes = gone }))) gone)
        (fits-adopt keeps j (adopter (record s { processes = gone })) gone (fits-put j (ended_record me.parent status) s.processes (λ p is here. cc is) fit))
      where
        gone : List (ℕ × ProcessRecord)
        gone = put nat_cmp j (ended_record me.parent status) s.processes

    -- the end of the process itself
    pub end-itself : (s : State) (me : Process) (status : ℕ) → end_process (with_change s k f) k (f me) status ≡ with_change (end_process s k me status) k f
    unfolding end_process
    end-itself s me status =
        ap (λ n. adopt_orphans (record s { processes = put nat_cmp k (ended_record n status) (changed s.processes) }) k) (keeps.same me)
        ∙ ap (λ ps. adopt_orphans (record s { processes = ps }) k) (ap (λ x. put nat_cmp k x (changed s.processes)) (sym (change-itself (ended_record me.parent status))) ∙ put-changed k (ended_record me.parent status) s.processes)
        ∙ (λ i. record s { processes = claimed keeps (map (adopt k (if lives-changed 1 gone i then 1 else 0)) (changed gone)) })
        ∙ ap (λ ps. record s { processes = ps }) (adopted-changed keeps k (adopter (record s { processes = gone })) gone)
      where
        gone : List (ℕ × ProcessRecord)
        gone = put nat_cmp k (ended_record me.parent status) s.processes
