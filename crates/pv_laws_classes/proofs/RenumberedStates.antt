-- States that are related by a renumbering of open files, and operations on both.
use Rattle.std.proofs.Common.{◌≡◌, ℕ, true, ◌||◌, ◌==◌, if◌then◌else◌, List, ◌++◌, map, not, Option, None, Some, is_some, option_map, refl, ap, sym, subst, ◌∙◌}
use Rattle.std.specs.FinMap.Entries.{find, put}
use Rattle.std.specs.Ordering.{nat_cmp}
use Rattle.std.proofs.lemmas.List.Folds.{list_any-append}
use Rattle.pv_model.specs.Machine.{update_live, update, adopt, is_unclaimed, adopter, end_process, among, held_by_process, collect, Numbered, at_number, present, keep, OpenFile, Descriptor, Process, ProcessRecord, live, ended_record, State, live_process, process_at, with_process}
use Rattle.pv_model.specs.Calls.Processes.{adopt_orphans}
use Rattle.pv_laws_trees.specs.Preserved.{preserved}
use Rattle.pv_laws_trees.proofs.Collection.{preserved-agree}
use Rattle.pv_laws_trees.proofs.NumberedMaps.{keep-passes}
use Rattle.pv_laws_states.specs.Held.{used}
use Rattle.pv_laws_states.proofs.CollectedStates.{held_after}
use Rattle.pv_laws_states.proofs.ReferenceMembers.{all_of, present-at, among-used}
use Rattle.pv_laws_classes.specs.Renumbering.{renumbered_process, renumbered_processes}
use Rattle.pv_laws_classes.proofs.RenumberedFiles.{Matches, nodes-match, keep-matches}
use Rattle.pv_laws_classes.proofs.RenumberedLists.{find-renumbered, put-renumbered, live-renumbered, adopted-renumbered, claimed, used-renumbered, held-renumbered, Uses, EachUses, among-uses, of-uses, uses-of, uses-put, uses-filter, uses-adopt}

abbrev pub IsPresent : Numbered OpenFile → ℕ → Type 0
IsPresent fs n = is_some (at_number fs n) ≡ true

abbrev pub renumbered : (ℕ → ℕ) → Numbered OpenFile → State → State
renumbered f gs x = record x { files = gs; processes = renumbered_processes f x.processes }

-- the open files of x are gs under another numbering, and each descriptor of x refers to one of them
pub record Fits (f : ℕ → ℕ) (gs : Numbered OpenFile) (x : State) : Type 0 where
  pub matches : Matches f x.files gs
  pub opens : EachUses (IsPresent x.files) x.processes

-- y is x under another numbering
pub record AreRelated (x y : State) : Type 0 where
  pub f : ℕ → ℕ
  pub files : Numbered OpenFile
  pub same : y ≡ renumbered f files x
  pub fits : Fits f files x

pub related : (f : ℕ → ℕ) (gs : Numbered OpenFile) (x : State) → Fits f gs x → AreRelated x (renumbered f gs x)
related f gs x fits = record { f = f; files = gs; same = refl; fits = fits }

-- a property of related states
pub by-related : (P : State → State → Type 0) (x y : State) → AreRelated x y → ((f : ℕ → ℕ) (gs : Numbered OpenFile) → Fits f gs x → P x (renumbered f gs x)) → P x y
by-related P x y is holds = subst (P x) (sym is.same) (holds is.f is.files is.fits)

module _ (f : ℕ → ℕ) (gs : Numbered OpenFile) where
  -- ---- one process

  pub process-renumbered : (x : State) (pid : ℕ) → process_at (renumbered f gs x) pid ≡ option_map (renumbered_process f) (process_at x pid)
  process-renumbered x pid = ap live_process (find-renumbered f pid x.processes) ∙ live-renumbered f (find nat_cmp pid x.processes)

  pub fits-put : (x : State) (pid : ℕ) (p : Process) → Fits f gs x → Uses (IsPresent x.files) p.descriptors → Fits f gs (with_process x pid p)
  fits-put x pid p fits uses = record { matches = fits.matches; opens = uses-put (IsPresent x.files) pid (live p) x.processes uses fits.opens }

  pub with-renumbered : (x : State) (pid : ℕ) (p : Process) → with_process (renumbered f gs x) pid (renumbered_process f p) ≡ renumbered f gs (with_process x pid p)
  with-renumbered x pid p = ap (λ ps. record x { files = gs; processes = ps }) (put-renumbered f pid (live p) x.processes)

  -- ---- the end of a process

  lives-renumbered : (j : ℕ) (es : List (ℕ × ProcessRecord)) → is_some (live_process (find nat_cmp j (renumbered_processes f es))) ≡ is_some (live_process (find nat_cmp j es))
  lives-renumbered j es = ap (λ o. is_some (live_process o)) (find-renumbered f j es) ∙ ap is_some (live-renumbered f (find nat_cmp j es)) ∙ by (live_process (find nat_cmp j es))
    where
      by : (o : Option Process) → is_some (option_map (renumbered_process f) o) ≡ is_some o
      by None = refl
      by (Some p) = refl

  pub end-renumbered : (x : State) (pid : ℕ) (me : Process) (status : ℕ) → end_process (renumbered f gs x) pid (renumbered_process f me) status ≡ renumbered f gs (end_process x pid me status)
  unfolding end_process
  end-renumbered x pid me status =
      ap (λ ps. adopt_orphans (record x { files = gs; processes = ps }) pid) (put-renumbered f pid (ended_record me.parent status) x.processes)
      ∙ (λ i. record x { files = gs; processes = claimed f (map (adopt pid (if lives-renumbered 1 gone i then 1 else 0)) (renumbered_processes f gone)) })
      ∙ ap (λ ps. record x { files = gs; processes = ps }) (adopted-renumbered f pid (adopter (record x { processes = gone })) gone)
    where
      gone : List (ℕ × ProcessRecord)
      gone = put nat_cmp pid (ended_record me.parent status) x.processes

  pub fits-end : (x : State) (pid : ℕ) (me : Process) (status : ℕ) → Fits f gs x → Fits f gs (end_process x pid me status)
  unfolding end_process
  fits-end x pid me status fits = record {
    matches = fits.matches;
    opens =
        uses-filter (IsPresent x.files) (λ r. not (is_unclaimed r.1)) (map (adopt pid (adopter (record x { processes = gone }))) gone)
        (uses-adopt (IsPresent x.files) pid (adopter (record x { processes = gone })) gone (uses-put (IsPresent x.files) pid (ended_record me.parent status) x.processes tt fits.opens));
  }
    where
      gone : List (ℕ × ProcessRecord)
      gone = put nat_cmp pid (ended_record me.parent status) x.processes

-- ---- collection

module _ (f : ℕ → ℕ) (gs : Numbered OpenFile) (x : State) (fits : Fits f gs x) where
  abbrev y : State
  y = renumbered f gs x

  opens : (n : ℕ) → among (used x) n ≡ true → IsPresent x.files n
  opens = of-uses (IsPresent x.files) x.processes fits.opens

  remaining : Matches f (keep (among (used x)) x.files) (keep (among (map f (used x))) gs)
  remaining = keep-matches f x.files gs fits.matches (used x) opens

  -- the used open files of both
  used-is : used y ≡ map f (used x)
  used-is = used-renumbered f x.processes

  held-is : (n : ℕ) → among (all_of held_by_process x.processes ++ map (λ (o : OpenFile). o.node) (present (keep (among (map f (used x))) gs))) n ≡ among (held_after x) n
  held-is n =
      list_any-append (λ m. m == n) (all_of held_by_process x.processes) (map (λ (o : OpenFile). o.node) (present (keep (among (map f (used x))) gs)))
      ∙ ap (λ b. among (all_of held_by_process x.processes) n || b) (nodes-match f (keep (among (used x)) x.files) (keep (among (map f (used x))) gs) remaining n)
      ∙ sym (list_any-append (λ m. m == n) (all_of held_by_process x.processes) (map (λ (o : OpenFile). o.node) (present (keep (among (used x)) x.files))))

  collected : collect y ≡ renumbered f (keep (among (map f (used x))) gs) (collect x)
  unfolding collect
  collected =
      (λ i. record y { tree = preserved x.tree (held-renumbered f x.processes i ++ map (λ (o : OpenFile). o.node) (present (keep (among (used-is i)) gs))); files = keep (among (used-is i)) gs })
      ∙ ap (λ t. record y { tree = t; files = keep (among (map f (used x))) gs })
      (preserved-agree x.tree (all_of held_by_process x.processes ++ map (λ (o : OpenFile). o.node) (present (keep (among (map f (used x))) gs))) (held_after x) held-is)

  fits-collect : Fits f (keep (among (map f (used x))) gs) (collect x)
  unfolding collect
  fits-collect = record {
    matches = remaining;
    opens = uses-of (IsPresent (keep (among (used x)) x.files)) x.processes (λ n is. ap is_some (keep-passes (among (used x)) x.files n is) ∙ opens n is);
  }

  collect-fits : AreRelated (collect x) (collect y)
  collect-fits = record { f = f; files = keep (among (map f (used x))) gs; same = collected; fits = fits-collect }

pub collect-related : (x y : State) → AreRelated x y → AreRelated (collect x) (collect y)
collect-related x y is = by-related (λ x y. AreRelated (collect x) (collect y)) x y is (λ f gs fits. collect-fits f gs x fits)

pub tree-related : (x y : State) → AreRelated x y → y.tree ≡ x.tree
tree-related x y is = ap (λ (z : State). z.tree) is.same

-- ---- a function applied to a process

-- it ignores the descriptors, and keeps them
pub record Ignores (g : Process → Process) : Type 0 where
  pub apart : (f : ℕ → ℕ) (p : Process) → g (renumbered_process f p) ≡ renumbered_process f (g p)
  pub keeps : (p : Process) → (g p).descriptors ≡ p.descriptors

pub process-uses : (x : State) (pid : ℕ) (p : Process) (P : ℕ → Type 0) → EachUses P x.processes → process_at x pid ≡ Some p → Uses P p.descriptors
process-uses x pid p P uses at =
    among-uses P p.descriptors (λ n is.
    let found = present-at (λ (d : Descriptor). d.file) p.descriptors n is in
    subst P found.3 (of-uses P x.processes uses found.1.file (among-used x pid p found.0 found.1 at found.2)))

pub update-related : (x y : State) (pid : ℕ) (g : Process → Process) → Ignores g → AreRelated x y → AreRelated (update x pid g) (update y pid g)
update-related x y pid g ignores is = by-related (λ x y. AreRelated (update x pid g) (update y pid g)) x y is of
  where
    by : (f : ℕ → ℕ) (gs : Numbered OpenFile) → Fits f gs x → (o : Option Process) → process_at x pid ≡ o → AreRelated (update_live x pid g o) (update_live (renumbered f gs x) pid g (option_map (renumbered_process f) o))
    by f gs fits None at = related f gs x fits
    by f gs fits (Some p) at = record {
      f = f;
      files = gs;
      same = ap (with_process (renumbered f gs x) pid) (ignores.apart f p) ∙ with-renumbered f gs x pid (g p);
      fits = fits-put f gs x pid (g p) fits (subst (Uses (IsPresent x.files)) (sym (ignores.keeps p)) (process-uses x pid p (IsPresent x.files) fits.opens at));
    }

    of : (f : ℕ → ℕ) (gs : Numbered OpenFile) → Fits f gs x → AreRelated (update x pid g) (update (renumbered f gs x) pid g)
    of f gs fits = subst (λ o. AreRelated (update x pid g) (update_live (renumbered f gs x) pid g o)) (sym (process-renumbered f gs x pid)) (by f gs fits (process_at x pid) refl)

-- the end of a process depends only on its parent
end-parent : (z : State) (pid : ℕ) (f g : ℕ → ℕ) (me : Process) (status : ℕ) → end_process z pid (renumbered_process f me) status ≡ end_process z pid (renumbered_process g me) status
unfolding end_process
end-parent z pid f g me status = refl

pub end-related : (x y : State) (pid : ℕ) (f : ℕ → ℕ) (me : Process) (status : ℕ) → AreRelated x y → AreRelated (end_process x pid me status) (end_process y pid (renumbered_process f me) status)
end-related x y pid f me status is =
    by-related (λ x y. AreRelated (end_process x pid me status) (end_process y pid (renumbered_process f me) status)) x y is
    (λ g gs fits. record { f = g; files = gs; same = end-parent (renumbered g gs x) pid f g me status ∙ end-renumbered g gs x pid me status; fits = fits-end g gs x pid me status fits })
