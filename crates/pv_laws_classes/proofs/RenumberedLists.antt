-- Lists of processes whose descriptors are renumbered, and operations on both.
use Rattle.std.proofs.Common.{◌≡◌, ℕ, zero, suc, Bool, true, false, cond, not, ◌==◌, List, [], ◌∷◌, ◌++◌, map, filter, length, Option, None, Some, option_map, refl, ap, ap₂, sym, subst, ◌∙◌, ⊎_elim}
use Rattle.std.specs.FinMap.Entries.{by_order, find, put, where_key}
use Rattle.std.specs.Ordering.{nat_cmp, eq_by_cmp}
use Rattle.std.specs.declared.cmp.Ordering.{Ordering}
use Rattle.std.specs.declared.cmp.Ordering.TheVariants.{Less, Equal, Greater}
use Rattle.std.proofs.lemmas.Bool.{eq-eqb, eqb-true, or_left, or_right, or_cases}
use Rattle.std.proofs.lemmas.List.{map-append}
use Rattle.std.proofs.lemmas.List.Folds.{list_any-append}
use Rattle.pv_model.specs.Machine.{is_empty, parent_of, adopt, is_unclaimed, statuses, among, used_files, held_by_process, Numbered, at_number, with_number, without_number, least_free, present, Descriptor, ProcessRecord, live, ended_record, live_process}
use Rattle.pv_model.specs.Calls.Processes.{descriptor_after_exec}
use Rattle.pv_laws_states.proofs.ReferenceMembers.{all_of}
use Rattle.pv_laws_classes.specs.Renumbering.{renumbered_descriptor, renumbered_descriptors, renumbered_process, renumbered_record, renumbered_processes}

-- ---- lists of numbers

pub among-map : (f : ℕ → ℕ) (ns : List ℕ) (n : ℕ) → among ns n ≡ true → among (map f ns) (f n) ≡ true
among-map f [] n is = cc is
among-map f (m ∷ ns) n is =
    ⊎_elim (λ here. or_left (f m == f n) _ (eq-eqb (f m) (f n) (ap f (eqb-true m n here)))) (λ there. or_right (f m == f n) _ (among-map f ns n there)) (or_cases (m == n) (among ns n) is)

pub map-among : (f : ℕ → ℕ) (ns : List ℕ) (m : ℕ) → among (map f ns) m ≡ true → (n : ℕ) × (among ns n ≡ true) × (f n ≡ m)
map-among f [] m is = cc is
map-among f (n ∷ ns) m is =
    ⊎_elim (λ here. (n, or_left (n == n) _ (eq-eqb n n refl), eqb-true (f n) m here)) (λ there. let found = map-among f ns m there in (found.0, or_right (n == found.0) _ found.1, found.2))
    (or_cases (f n == m) (among (map f ns) m) is)

module _ (f : ℕ → ℕ) where
  abbrev renumbered_entry : ℕ × ProcessRecord → ℕ × ProcessRecord
  renumbered_entry r = (r.0, renumbered_record f r.1)

  -- ---- find, put

  pub find-renumbered : (j : ℕ) (es : List (ℕ × ProcessRecord)) → find nat_cmp j (renumbered_processes f es) ≡ option_map (renumbered_record f) (find nat_cmp j es)
  find-renumbered j [] = refl
  find-renumbered j (e ∷ es) = by (eq_by_cmp nat_cmp j e.0) (find-renumbered j es)
    where
      by : (b : Bool) → find nat_cmp j (renumbered_processes f es) ≡ option_map (renumbered_record f) (find nat_cmp j es)
          → cond b (Some (renumbered_record f e.1)) (find nat_cmp j (renumbered_processes f es)) ≡ option_map (renumbered_record f) (cond b (Some e.1) (find nat_cmp j es))
      by true rest = refl
      by false rest = rest

  pub put-renumbered : (j : ℕ) (r : ProcessRecord) (es : List (ℕ × ProcessRecord)) → put nat_cmp j (renumbered_record f r) (renumbered_processes f es) ≡ renumbered_processes f (put nat_cmp j r es)
  put-renumbered j r [] = refl
  put-renumbered j r (e ∷ es) = by (nat_cmp j e.0) (put-renumbered j r es)
    where
      by : (o : Ordering) → put nat_cmp j (renumbered_record f r) (renumbered_processes f es) ≡ renumbered_processes f (put nat_cmp j r es)
          → by_order o ((j, renumbered_record f r) ∷ renumbered_entry e ∷ renumbered_processes f es) ((e.0, renumbered_record f r) ∷ renumbered_processes f es) (renumbered_entry e ∷ put nat_cmp j (renumbered_record f r) (renumbered_processes f es))
          ≡ renumbered_processes f (by_order o ((j, r) ∷ e ∷ es) ((e.0, r) ∷ es) (e ∷ put nat_cmp j r es))
      by Less rest = refl
      by Equal rest = refl
      by Greater rest = ap (λ xs. renumbered_entry e ∷ xs) rest

  pub length-renumbered : (es : List (ℕ × ProcessRecord)) → length (renumbered_processes f es) ≡ length es
  length-renumbered [] = refl
  length-renumbered (e ∷ es) = ap suc (length-renumbered es)

  pub where-renumbered : (test : ℕ → Bool) (es : List (ℕ × ProcessRecord)) → where_key nat_cmp test (renumbered_processes f es) ≡ renumbered_processes f (where_key nat_cmp test es)
  where-renumbered test [] = refl
  where-renumbered test (e ∷ es) = by (test e.0) (where-renumbered test es)
    where
      by : (b : Bool) → where_key nat_cmp test (renumbered_processes f es) ≡ renumbered_processes f (where_key nat_cmp test es)
          → cond b (renumbered_entry e ∷ where_key nat_cmp test (renumbered_processes f es)) (where_key nat_cmp test (renumbered_processes f es)) ≡ renumbered_processes f (cond b (e ∷ where_key nat_cmp test es) (where_key nat_cmp test es))
      by true rest = ap (λ xs. renumbered_entry e ∷ xs) rest
      by false rest = rest

  pub live-renumbered : (o : Option ProcessRecord) → live_process (option_map (renumbered_record f) o) ≡ option_map (renumbered_process f) (live_process o)
  live-renumbered None = refl
  live-renumbered (Some (live p)) = refl
  live-renumbered (Some (ended_record parent status)) = refl

  -- ---- parents

  adopt-renumbered : (old new : ℕ) (e : ℕ × ProcessRecord) → adopt old new (renumbered_entry e) ≡ renumbered_entry (adopt old new e)
  adopt-renumbered old new (j, live p) = by (p.parent == old)
    where
      by : (b : Bool) → cond b (j, live (record (renumbered_process f p) { parent = new })) (j, live (renumbered_process f p)) ≡ renumbered_entry (cond b (j, live (record p { parent = new })) (j, live p))
      by true = refl
      by false = refl
  adopt-renumbered old new (j, ended_record parent status) = by (parent == old)
    where
      by : (b : Bool) → cond b (j, ended_record new status) (j, ended_record parent status) ≡ renumbered_entry (cond b (j, ended_record new status) (j, ended_record parent status))
      by true = refl
      by false = refl

  unclaimed-renumbered : (r : ProcessRecord) → is_unclaimed (renumbered_record f r) ≡ is_unclaimed r
  unclaimed-renumbered (live p) = refl
  unclaimed-renumbered (ended_record parent status) = refl

  abbrev pub claimed : List (ℕ × ProcessRecord) → List (ℕ × ProcessRecord)
  claimed es = filter (λ r. not (is_unclaimed r.1)) es

  pub adopted-renumbered : (old new : ℕ) (es : List (ℕ × ProcessRecord)) → claimed (map (adopt old new) (renumbered_processes f es)) ≡ renumbered_processes f (claimed (map (adopt old new) es))
  adopted-renumbered old new [] = refl
  adopted-renumbered old new (e ∷ es) =
      ap (λ (x : ℕ × ProcessRecord). cond (not (is_unclaimed x.1)) (x ∷ claimed (map (adopt old new) (renumbered_processes f es))) (claimed (map (adopt old new) (renumbered_processes f es)))) (adopt-renumbered old new e)
      ∙ ap (λ b. cond (not b) (renumbered_entry (adopt old new e) ∷ claimed (map (adopt old new) (renumbered_processes f es))) (claimed (map (adopt old new) (renumbered_processes f es)))) (unclaimed-renumbered (adopt old new e).1)
      ∙ by (not (is_unclaimed (adopt old new e).1)) (adopted-renumbered old new es)
    where
      by : (b : Bool) → claimed (map (adopt old new) (renumbered_processes f es)) ≡ renumbered_processes f (claimed (map (adopt old new) es))
          → cond b (renumbered_entry (adopt old new e) ∷ claimed (map (adopt old new) (renumbered_processes f es))) (claimed (map (adopt old new) (renumbered_processes f es)))
          ≡ renumbered_processes f (cond b (adopt old new e ∷ claimed (map (adopt old new) es)) (claimed (map (adopt old new) es)))
      by true rest = ap (λ xs. renumbered_entry (adopt old new e) ∷ xs) rest
      by false rest = rest

  parent-renumbered : (r : ProcessRecord) → parent_of (renumbered_record f r) ≡ parent_of r
  parent-renumbered (live p) = refl
  parent-renumbered (ended_record parent status) = refl

  abbrev of_parent : ℕ → List (ℕ × ProcessRecord) → List (ℕ × ProcessRecord)
  of_parent n es = filter (λ r. parent_of r.1 == n) es

  of-parent-renumbered : (n : ℕ) (es : List (ℕ × ProcessRecord)) → of_parent n (renumbered_processes f es) ≡ renumbered_processes f (of_parent n es)
  of-parent-renumbered n [] = refl
  of-parent-renumbered n (e ∷ es) =
      ap (λ m. cond (m == n) (renumbered_entry e ∷ of_parent n (renumbered_processes f es)) (of_parent n (renumbered_processes f es))) (parent-renumbered e.1) ∙ by (parent_of e.1 == n) (of-parent-renumbered n es)
    where
      by : (b : Bool) → of_parent n (renumbered_processes f es) ≡ renumbered_processes f (of_parent n es)
          → cond b (renumbered_entry e ∷ of_parent n (renumbered_processes f es)) (of_parent n (renumbered_processes f es)) ≡ renumbered_processes f (cond b (e ∷ of_parent n es) (of_parent n es))
      by true rest = ap (λ xs. renumbered_entry e ∷ xs) rest
      by false rest = rest

  statuses-renumbered : (es : List (ℕ × ProcessRecord)) → statuses (renumbered_processes f es) ≡ statuses es
  statuses-renumbered [] = refl
  statuses-renumbered ((j, live p) ∷ es) = statuses-renumbered es
  statuses-renumbered ((j, ended_record parent status) ∷ es) = ap (λ xs. (j, status) ∷ xs) (statuses-renumbered es)

  empty-renumbered : (es : List (ℕ × ProcessRecord)) → is_empty (renumbered_processes f es) ≡ is_empty es
  empty-renumbered [] = refl
  empty-renumbered (e ∷ es) = refl

  pub children-renumbered : (n : ℕ) (es : List (ℕ × ProcessRecord)) → (statuses (of_parent n (renumbered_processes f es)) ≡ statuses (of_parent n es)) × (is_empty (of_parent n (renumbered_processes f es)) ≡ is_empty (of_parent n es))
  children-renumbered n es = (
    ap statuses (of-parent-renumbered n es) ∙ statuses-renumbered (of_parent n es),
    ap is_empty (of-parent-renumbered n es) ∙ empty-renumbered (of_parent n es),
  )

  -- ---- references

  files-renumbered : (ds : Numbered Descriptor) → map (λ (d : Descriptor). d.file) (present (renumbered_descriptors f ds)) ≡ map f (map (λ (d : Descriptor). d.file) (present ds))
  files-renumbered [] = refl
  files-renumbered (None ∷ ds) = files-renumbered ds
  files-renumbered (Some d ∷ ds) = ap (λ ns. f d.file ∷ ns) (files-renumbered ds)

  pub used-renumbered : (es : List (ℕ × ProcessRecord)) → all_of used_files (renumbered_processes f es) ≡ map f (all_of used_files es)
  used-renumbered [] = refl
  used-renumbered ((j, live p) ∷ es) = ap₂ (λ (a b : List ℕ). a ++ b) (files-renumbered p.descriptors) (used-renumbered es) ∙ sym (map-append f (used_files p) (all_of used_files es))
  used-renumbered ((j, ended_record parent status) ∷ es) = used-renumbered es

  pub held-renumbered : (es : List (ℕ × ProcessRecord)) → all_of held_by_process (renumbered_processes f es) ≡ all_of held_by_process es
  held-renumbered [] = refl
  held-renumbered ((j, live p) ∷ es) = ap (λ (b : List ℕ). held_by_process p ++ b) (held-renumbered es)
  held-renumbered ((j, ended_record parent status) ∷ es) = held-renumbered es

-- ---- descriptors

module _ (f : ℕ → ℕ) where
  pub descriptor-at : (ds : Numbered Descriptor) (n : ℕ) → at_number (renumbered_descriptors f ds) n ≡ option_map (renumbered_descriptor f) (at_number ds n)
  descriptor-at [] n = refl
  descriptor-at (o ∷ ds) zero = refl
  descriptor-at (o ∷ ds) (suc n) = descriptor-at ds n

  pub descriptor-put : (ds : Numbered Descriptor) (n : ℕ) (d : Descriptor) → with_number (renumbered_descriptors f ds) n (renumbered_descriptor f d) ≡ renumbered_descriptors f (with_number ds n d)
  descriptor-put [] n d = refl
  descriptor-put (o ∷ ds) zero d = refl
  descriptor-put (o ∷ ds) (suc n) d = ap (λ (xs : Numbered Descriptor). option_map (renumbered_descriptor f) o ∷ xs) (descriptor-put ds n d)

  pub descriptor-gone : (ds : Numbered Descriptor) (n : ℕ) → without_number (renumbered_descriptors f ds) n ≡ renumbered_descriptors f (without_number ds n)
  descriptor-gone [] n = refl
  descriptor-gone (o ∷ ds) zero = refl
  descriptor-gone (o ∷ ds) (suc n) = ap (λ (xs : Numbered Descriptor). option_map (renumbered_descriptor f) o ∷ xs) (descriptor-gone ds n)

  pub descriptor-free : (ds : Numbered Descriptor) → least_free (renumbered_descriptors f ds) ≡ least_free ds
  descriptor-free [] = refl
  descriptor-free (None ∷ ds) = refl
  descriptor-free (Some d ∷ ds) = ap suc (descriptor-free ds)

  pub descriptor-exec : (ds : Numbered Descriptor) → map descriptor_after_exec (renumbered_descriptors f ds) ≡ renumbered_descriptors f (map descriptor_after_exec ds)
  descriptor-exec [] = refl
  descriptor-exec (None ∷ ds) = ap (λ (xs : Numbered Descriptor). None ∷ xs) (descriptor-exec ds)
  descriptor-exec (Some d ∷ ds) = by d.close_on_exec (descriptor-exec ds)
    where
      by : (b : Bool) → map descriptor_after_exec (renumbered_descriptors f ds) ≡ renumbered_descriptors f (map descriptor_after_exec ds)
          → (cond b None (Some (renumbered_descriptor f d)) ∷ map descriptor_after_exec (renumbered_descriptors f ds)) ≡ renumbered_descriptors f (cond b None (Some d) ∷ map descriptor_after_exec ds)
      by true rest = ap (λ (xs : Numbered Descriptor). None ∷ xs) rest
      by false rest = ap (λ (xs : Numbered Descriptor). Some (renumbered_descriptor f d) ∷ xs) rest

-- ---- the open files that processes use satisfy a property

module _ (P : ℕ → Type 0) where
  abbrev pub Uses : Numbered Descriptor → Type 0
  Uses [] = Unit {0}
  Uses (None ∷ ds) = Uses ds
  Uses (Some d ∷ ds) = P d.file × Uses ds

  uses-among : (ds : Numbered Descriptor) → Uses ds → (n : ℕ) → among (map (λ (d : Descriptor). d.file) (present ds)) n ≡ true → P n
  uses-among [] uses n is = cc is
  uses-among (None ∷ ds) uses n is = uses-among ds uses n is
  uses-among (Some d ∷ ds) uses n is =
      ⊎_elim (λ here. subst P (eqb-true d.file n here) uses.0) (λ there. uses-among ds uses.1 n there) (or_cases (d.file == n) (among (map (λ (d : Descriptor). d.file) (present ds)) n) is)

  pub among-uses : (ds : Numbered Descriptor) → ((n : ℕ) → among (map (λ (d : Descriptor). d.file) (present ds)) n ≡ true → P n) → Uses ds
  among-uses [] all = tt
  among-uses (None ∷ ds) all = among-uses ds all
  among-uses (Some d ∷ ds) all = (all d.file (or_left (d.file == d.file) _ (eq-eqb d.file d.file refl)), among-uses ds (λ n is. all n (or_right (d.file == n) _ is)))

  pub uses-at : (ds : Numbered Descriptor) (n : ℕ) (d : Descriptor) → Uses ds → at_number ds n ≡ Some d → P d.file
  uses-at [] n d uses is = cc is
  uses-at (None ∷ ds) zero d uses is = cc is
  uses-at (None ∷ ds) (suc n) d uses is = uses-at ds n d uses is
  uses-at (Some e ∷ ds) zero d uses is = let same : e ≡ d = cc is in subst (λ (x : Descriptor). P x.file) same uses.0
  uses-at (Some e ∷ ds) (suc n) d uses is = uses-at ds n d uses.1 is

  pub uses-with : (ds : Numbered Descriptor) (n : ℕ) (d : Descriptor) → Uses ds → P d.file → Uses (with_number ds n d)
  uses-with [] n d uses new = (new, tt)
  uses-with (None ∷ ds) zero d uses new = (new, uses)
  uses-with (Some e ∷ ds) zero d uses new = (new, uses.1)
  uses-with (None ∷ ds) (suc n) d uses new = uses-with ds n d uses new
  uses-with (Some e ∷ ds) (suc n) d uses new = (uses.0, uses-with ds n d uses.1 new)

  pub uses-without : (ds : Numbered Descriptor) (n : ℕ) → Uses ds → Uses (without_number ds n)
  uses-without [] n uses = tt
  uses-without (None ∷ ds) zero uses = uses
  uses-without (Some e ∷ ds) zero uses = uses.1
  uses-without (None ∷ ds) (suc n) uses = uses-without ds n uses
  uses-without (Some e ∷ ds) (suc n) uses = (uses.0, uses-without ds n uses.1)

  pub uses-exec : (ds : Numbered Descriptor) → Uses ds → Uses (map descriptor_after_exec ds)
  uses-exec [] uses = tt
  uses-exec (None ∷ ds) uses = uses-exec ds uses
  uses-exec (Some d ∷ ds) uses = by d.close_on_exec (uses-exec ds uses.1)
    where
      by : (b : Bool) → Uses (map descriptor_after_exec ds) → Uses (cond b None (Some d) ∷ map descriptor_after_exec ds)
      by true rest = rest
      by false rest = (uses.0, rest)

  abbrev pub EachUses : List (ℕ × ProcessRecord) → Type 0
  EachUses [] = Unit {0}
  EachUses ((j, live p) ∷ es) = Uses p.descriptors × EachUses es
  EachUses ((j, ended_record parent status) ∷ es) = EachUses es

  pub uses-of : (es : List (ℕ × ProcessRecord)) → ((n : ℕ) → among (all_of used_files es) n ≡ true → P n) → EachUses es
  uses-of [] all = tt
  uses-of ((j, live p) ∷ es) all = (
    among-uses p.descriptors (λ n is. all n (list_any-append (λ m. m == n) (used_files p) (all_of used_files es) ∙ or_left (among (used_files p) n) _ is)),
    uses-of es (λ n is. all n (list_any-append (λ m. m == n) (used_files p) (all_of used_files es) ∙ or_right (among (used_files p) n) _ is)),
  )
  uses-of ((j, ended_record parent status) ∷ es) all = uses-of es all

  pub of-uses : (es : List (ℕ × ProcessRecord)) → EachUses es → (n : ℕ) → among (all_of used_files es) n ≡ true → P n
  of-uses [] uses n is = cc is
  of-uses ((j, live p) ∷ es) uses n is =
      ⊎_elim (λ here. uses-among p.descriptors uses.0 n here) (λ there. of-uses es uses.1 n there)
      (or_cases (among (used_files p) n) (among (all_of used_files es) n) (sym (list_any-append (λ m. m == n) (used_files p) (all_of used_files es)) ∙ is))
  of-uses ((j, ended_record parent status) ∷ es) uses n is = of-uses es uses n is

  abbrev pub UsesRecord : ProcessRecord → Type 0
  UsesRecord (live p) = Uses p.descriptors
  UsesRecord (ended_record parent status) = Unit {0}

  uses-cons : (j : ℕ) (r : ProcessRecord) (es : List (ℕ × ProcessRecord)) → UsesRecord r → EachUses es → EachUses ((j, r) ∷ es)
  uses-cons j (live p) es here there = (here, there)
  uses-cons j (ended_record parent status) es here there = there

  uses-head : (e : ℕ × ProcessRecord) (es : List (ℕ × ProcessRecord)) → EachUses (e ∷ es) → UsesRecord e.1
  uses-head (j, live p) es uses = uses.0
  uses-head (j, ended_record parent status) es uses = tt

  uses-tail : (e : ℕ × ProcessRecord) (es : List (ℕ × ProcessRecord)) → EachUses (e ∷ es) → EachUses es
  uses-tail (j, live p) es uses = uses.1
  uses-tail (j, ended_record parent status) es uses = uses

  pub uses-put : (j : ℕ) (r : ProcessRecord) (es : List (ℕ × ProcessRecord)) → UsesRecord r → EachUses es → EachUses (put nat_cmp j r es)
  uses-put j r [] here uses = uses-cons j r [] here tt
  uses-put j r (e ∷ es) here uses = by (nat_cmp j e.0) (uses-put j r es here (uses-tail e es uses))
    where
      by : (o : Ordering) → EachUses (put nat_cmp j r es) → EachUses (by_order o ((j, r) ∷ e ∷ es) ((e.0, r) ∷ es) (e ∷ put nat_cmp j r es))
      by Less rest = uses-cons j r (e ∷ es) here uses
      by Equal rest = uses-cons e.0 r es here (uses-tail e es uses)
      by Greater rest = uses-cons e.0 e.1 (put nat_cmp j r es) (uses-head e es uses) rest

  pub uses-filter : (test : ℕ × ProcessRecord → Bool) (es : List (ℕ × ProcessRecord)) → EachUses es → EachUses (filter test es)
  uses-filter test [] uses = tt
  uses-filter test (e ∷ es) uses = by (test e) (uses-filter test es (uses-tail e es uses))
    where
      by : (b : Bool) → EachUses (filter test es) → EachUses (cond b (e ∷ filter test es) (filter test es))
      by true rest = uses-cons e.0 e.1 (filter test es) (uses-head e es uses) rest
      by false rest = rest

  pub uses-where : (test : ℕ → Bool) (es : List (ℕ × ProcessRecord)) → EachUses es → EachUses (where_key nat_cmp test es)
  uses-where test [] uses = tt
  uses-where test (e ∷ es) uses = by (test e.0) (uses-where test es (uses-tail e es uses))
    where
      by : (b : Bool) → EachUses (where_key nat_cmp test es) → EachUses (cond b (e ∷ where_key nat_cmp test es) (where_key nat_cmp test es))
      by true rest = uses-cons e.0 e.1 (where_key nat_cmp test es) (uses-head e es uses) rest
      by false rest = rest

  pub uses-adopt : (old new : ℕ) (es : List (ℕ × ProcessRecord)) → EachUses es → EachUses (map (adopt old new) es)
  uses-adopt old new [] uses = tt
  uses-adopt old new ((j, live p) ∷ es) uses = by (p.parent == old) (uses-adopt old new es uses.1)
    where
      by : (b : Bool) → EachUses (map (adopt old new) es) → EachUses (cond b (j, live (record p { parent = new })) (j, live p) ∷ map (adopt old new) es)
      by true rest = (uses.0, rest)
      by false rest = (uses.0, rest)
  uses-adopt old new ((j, ended_record parent status) ∷ es) uses = by (parent == old) (uses-adopt old new es uses)
    where
      by : (b : Bool) → EachUses (map (adopt old new) es) → EachUses (cond b (j, ended_record new status) (j, ended_record parent status) ∷ map (adopt old new) es)
      by true rest = rest
      by false rest = rest

  -- ---- renumberings that agree on these open files

  module _ (f g : ℕ → ℕ) (agree : (n : ℕ) → P n → g n ≡ f n) where
    pub agree-descriptors : (ds : Numbered Descriptor) → Uses ds → renumbered_descriptors g ds ≡ renumbered_descriptors f ds
    agree-descriptors [] uses = refl
    agree-descriptors (None ∷ ds) uses = ap (λ (xs : Numbered Descriptor). None ∷ xs) (agree-descriptors ds uses)
    agree-descriptors (Some d ∷ ds) uses = ap₂ (λ n (xs : Numbered Descriptor). Some (record d { file = n }) ∷ xs) (agree d.file uses.0) (agree-descriptors ds uses.1)

    pub agree-processes : (es : List (ℕ × ProcessRecord)) → EachUses es → renumbered_processes g es ≡ renumbered_processes f es
    agree-processes [] uses = refl
    agree-processes ((j, live p) ∷ es) uses =
        ap₂ (λ ds (xs : List (ℕ × ProcessRecord)). (j, live (record p { descriptors = ds })) ∷ xs) (agree-descriptors p.descriptors uses.0) (agree-processes es uses.1)
    agree-processes ((j, ended_record parent status) ∷ es) uses = ap (λ (xs : List (ℕ × ProcessRecord)). (j, ended_record parent status) ∷ xs) (agree-processes es uses)

-- a weaker property
module _ (P Q : ℕ → Type 0) (weaker : (n : ℕ) → P n → Q n) where
  pub uses-weaker : (ds : Numbered Descriptor) → Uses P ds → Uses Q ds
  uses-weaker [] uses = tt
  uses-weaker (None ∷ ds) uses = uses-weaker ds uses
  uses-weaker (Some d ∷ ds) uses = (weaker d.file uses.0, uses-weaker ds uses.1)

  pub each-weaker : (es : List (ℕ × ProcessRecord)) → EachUses P es → EachUses Q es
  each-weaker [] uses = tt
  each-weaker ((j, live p) ∷ es) uses = (uses-weaker p.descriptors uses.0, each-weaker es uses.1)
  each-weaker ((j, ended_record parent status) ∷ es) uses = each-weaker es uses
