-- Lists of processes that are the same except for registers and buffers, and operations on both.
use Rattle.std.proofs.Common.{◌≡◌, ◌≢◌, ℕ, ℤ, suc, Bool, true, false, cond, not, ◌==◌, List, [], ◌∷◌, ◌++◌, map, filter, length, Option, None, Some, is_some, refl, ap, sym, subst, ◌∙◌}
use Rattle.std.specs.FinMap.Entries.{by_order, find, put, where_key, is_sorted, below_all}
use Rattle.std.specs.Cmp.{unsigned_ties}
use Rattle.std.specs.Ordering.{nat_cmp, is_lt, is_eq, eq_by_cmp, ordering_reverse}
use Rattle.std.specs.declared.cmp.Ordering.{Ordering}
use Rattle.std.specs.declared.cmp.Ordering.TheVariants.{Less, Equal, Greater}
use Rattle.std.proofs.lemmas.Bool.{and_parts, eqb-true}
use Rattle.std.proofs.lemmas.Cmp.{nat_cmp_total}
use Rattle.pv_model.specs.Machine.{Bytes, is_empty, parent_of, adopt, is_unclaimed, statuses, used_files, held_by_process, Process, ProcessRecord, live, ended_record, live_process}
use Rattle.pv_laws_states.proofs.ReferenceMembers.{all_of}
use Rattle.pv_laws_states.proofs.Processes.{number-itself}
use Rattle.pv_laws_classes.specs.Liveness.{with_values, SameExceptValues, none, both_live, both_ended}

-- the records that some process will wait for, or that are live
abbrev pub claimed : List (ℕ × ProcessRecord) → List (ℕ × ProcessRecord)
claimed es = filter (λ r. not (is_unclaimed r.1)) es

module _ (R : ℕ → Process → List ℤ → Bytes → Type 0) where
  pub length-same : (es ps : List (ℕ × ProcessRecord)) → SameExceptValues R es ps → length ps ≡ length es
  length-same es ps none = refl
  length-same es ps (both_live n p rs bs fs qs is rest) = ap suc (length-same fs qs rest)
  length-same es ps (both_ended n parent status fs qs rest) = ap suc (length-same fs qs rest)

  pub used-same : (es ps : List (ℕ × ProcessRecord)) → SameExceptValues R es ps → all_of used_files ps ≡ all_of used_files es
  used-same es ps none = refl
  used-same es ps (both_live n p rs bs fs qs is rest) = ap (λ (xs : List ℕ). used_files p ++ xs) (used-same fs qs rest)
  used-same es ps (both_ended n parent status fs qs rest) = used-same fs qs rest

  pub held-same : (es ps : List (ℕ × ProcessRecord)) → SameExceptValues R es ps → all_of held_by_process ps ≡ all_of held_by_process es
  held-same es ps none = refl
  held-same es ps (both_live n p rs bs fs qs is rest) = ap (λ (xs : List ℕ). held_by_process p ++ xs) (held-same fs qs rest)
  held-same es ps (both_ended n parent status fs qs rest) = held-same fs qs rest

  -- ---- find

  -- the records that are found under a number
  abbrev pub AreFound : ℕ → Option ProcessRecord → Option ProcessRecord → Type 0
  AreFound j None o = o ≡ None
  AreFound j (Some (live p)) o = (registers : List ℤ) × (buffer : Bytes) × (o ≡ Some (live (with_values registers buffer p))) × R j p registers buffer
  AreFound j (Some (ended_record parent status)) o = o ≡ Some (ended_record parent status)

  pub find-same : (j : ℕ) (es ps : List (ℕ × ProcessRecord)) → SameExceptValues R es ps → AreFound j (find nat_cmp j es) (find nat_cmp j ps)
  find-same j es ps none = refl
  find-same j es ps (both_live n p rs bs fs qs is rest) = by (eq_by_cmp nat_cmp j n) refl (find-same j fs qs rest)
    where
      by : (b : Bool) → eq_by_cmp nat_cmp j n ≡ b → AreFound j (find nat_cmp j fs) (find nat_cmp j qs)
          → AreFound j (cond b (Some (live p)) (find nat_cmp j fs)) (cond b (Some (live (with_values rs bs p))) (find nat_cmp j qs))
      by true tied found = let same : j ≡ n = eqb-true j n (unsigned_ties j n ∙ tied) in (rs, bs, refl, subst (λ m. R m p rs bs) (sym same) is)
      by false tied found = found
  find-same j es ps (both_ended n parent status fs qs rest) = by (eq_by_cmp nat_cmp j n) (find-same j fs qs rest)
    where
      by : (b : Bool) → AreFound j (find nat_cmp j fs) (find nat_cmp j qs)
          → AreFound j (cond b (Some (ended_record parent status)) (find nat_cmp j fs)) (cond b (Some (ended_record parent status)) (find nat_cmp j qs))
      by true found = refl
      by false found = found

  abbrev pub AreLive : ℕ → Option Process → Option Process → Type 0
  AreLive j None o = o ≡ None
  AreLive j (Some p) o = (registers : List ℤ) × (buffer : Bytes) × (o ≡ Some (with_values registers buffer p)) × R j p registers buffer

  pub live-same : (j : ℕ) (es ps : List (ℕ × ProcessRecord)) → SameExceptValues R es ps → AreLive j (live_process (find nat_cmp j es)) (live_process (find nat_cmp j ps))
  live-same j es ps same = by (find nat_cmp j es) (find nat_cmp j ps) (find-same j es ps same)
    where
      by : (a b : Option ProcessRecord) → AreFound j a b → AreLive j (live_process a) (live_process b)
      by None b is = ap live_process is
      by (Some (live p)) b is = (is.0, is.1, ap live_process is.2, is.3)
      by (Some (ended_record parent status)) b is = ap live_process is

  pub lives-same : (j : ℕ) (es ps : List (ℕ × ProcessRecord)) → SameExceptValues R es ps → is_some (live_process (find nat_cmp j ps)) ≡ is_some (live_process (find nat_cmp j es))
  lives-same j es ps same = by (live_process (find nat_cmp j es)) (live_process (find nat_cmp j ps)) (live-same j es ps same)
    where
      by : (a b : Option Process) → AreLive j a b → is_some b ≡ is_some a
      by None b is = ap is_some is
      by (Some p) b is = ap is_some is.2

  -- ---- filters

  pub where-same : (test : ℕ → Bool) (es ps : List (ℕ × ProcessRecord)) → SameExceptValues R es ps → SameExceptValues R (where_key nat_cmp test es) (where_key nat_cmp test ps)
  where-same test es ps none = none
  where-same test es ps (both_live n p rs bs fs qs is rest) = by (test n) (where-same test fs qs rest)
    where
      by : (b : Bool) → SameExceptValues R (where_key nat_cmp test fs) (where_key nat_cmp test qs)
          → SameExceptValues R (cond b ((n, live p) ∷ where_key nat_cmp test fs) (where_key nat_cmp test fs)) (cond b ((n, live (with_values rs bs p)) ∷ where_key nat_cmp test qs) (where_key nat_cmp test qs))
      by true same = both_live n p rs bs _ _ is same
      by false same = same
  where-same test es ps (both_ended n parent status fs qs rest) = by (test n) (where-same test fs qs rest)
    where
      by : (b : Bool) → SameExceptValues R (where_key nat_cmp test fs) (where_key nat_cmp test qs)
          → SameExceptValues R (cond b ((n, ended_record parent status) ∷ where_key nat_cmp test fs) (where_key nat_cmp test fs)) (cond b ((n, ended_record parent status) ∷ where_key nat_cmp test qs) (where_key nat_cmp test qs))
      by true same = both_ended n parent status _ _ same
      by false same = same

  abbrev of_parent : ℕ → List (ℕ × ProcessRecord) → List (ℕ × ProcessRecord)
  of_parent n es = filter (λ r. parent_of r.1 == n) es

  of-parent-same : (m : ℕ) (es ps : List (ℕ × ProcessRecord)) → SameExceptValues R es ps → SameExceptValues R (of_parent m es) (of_parent m ps)
  of-parent-same m es ps none = none
  of-parent-same m es ps (both_live n p rs bs fs qs is rest) = by (p.parent == m) (of-parent-same m fs qs rest)
    where
      by : (b : Bool) → SameExceptValues R (of_parent m fs) (of_parent m qs)
          → SameExceptValues R (cond b ((n, live p) ∷ of_parent m fs) (of_parent m fs)) (cond b ((n, live (with_values rs bs p)) ∷ of_parent m qs) (of_parent m qs))
      by true same = both_live n p rs bs _ _ is same
      by false same = same
  of-parent-same m es ps (both_ended n parent status fs qs rest) = by (parent == m) (of-parent-same m fs qs rest)
    where
      by : (b : Bool) → SameExceptValues R (of_parent m fs) (of_parent m qs)
          → SameExceptValues R (cond b ((n, ended_record parent status) ∷ of_parent m fs) (of_parent m fs)) (cond b ((n, ended_record parent status) ∷ of_parent m qs) (of_parent m qs))
      by true same = both_ended n parent status _ _ same
      by false same = same

  statuses-same : (es ps : List (ℕ × ProcessRecord)) → SameExceptValues R es ps → statuses ps ≡ statuses es
  statuses-same es ps none = refl
  statuses-same es ps (both_live n p rs bs fs qs is rest) = statuses-same fs qs rest
  statuses-same es ps (both_ended n parent status fs qs rest) = ap (λ xs. (n, status) ∷ xs) (statuses-same fs qs rest)

  empty-same : (es ps : List (ℕ × ProcessRecord)) → SameExceptValues R es ps → is_empty ps ≡ is_empty es
  empty-same es ps none = refl
  empty-same es ps (both_live n p rs bs fs qs is rest) = refl
  empty-same es ps (both_ended n parent status fs qs rest) = refl

  pub children-same : (n : ℕ) (es ps : List (ℕ × ProcessRecord)) → SameExceptValues R es ps → (statuses (of_parent n ps) ≡ statuses (of_parent n es)) × (is_empty (of_parent n ps) ≡ is_empty (of_parent n es))
  children-same n es ps same = (statuses-same (of_parent n es) (of_parent n ps) (of-parent-same n es ps same), empty-same (of_parent n es) (of_parent n ps) (of-parent-same n es ps same))

  -- ---- orphans

  -- the relation does not depend on the parent of a process
  pub adopted-same : ((n : ℕ) (p : Process) (rs : List ℤ) (bs : Bytes) (parent : ℕ) → R n p rs bs → R n (record p { parent = parent }) rs bs)
      → (old new : ℕ) (es ps : List (ℕ × ProcessRecord)) → SameExceptValues R es ps → SameExceptValues R (claimed (map (adopt old new) es)) (claimed (map (adopt old new) ps))
  adopted-same keeps old new es ps none = none
  adopted-same keeps old new es ps (both_live n p rs bs fs qs is rest) = by (p.parent == old) (adopted-same keeps old new fs qs rest)
    where
      by : (b : Bool) → SameExceptValues R (claimed (map (adopt old new) fs)) (claimed (map (adopt old new) qs))
          → SameExceptValues R (claimed (cond b (n, live (record p { parent = new })) (n, live p) ∷ map (adopt old new) fs))
          (claimed (cond b (n, live (record (with_values rs bs p) { parent = new })) (n, live (with_values rs bs p)) ∷ map (adopt old new) qs))
      by true same = both_live n (record p { parent = new }) rs bs _ _ (keeps n p rs bs new is) same
      by false same = both_live n p rs bs _ _ is same
  adopted-same keeps old new es ps (both_ended n parent status fs qs rest) = by (parent == old) (adopted-same keeps old new fs qs rest)
    where
      of : (b : Bool) (r : ℕ) → SameExceptValues R (claimed (map (adopt old new) fs)) (claimed (map (adopt old new) qs))
          → SameExceptValues R (cond (not b) ((n, ended_record r status) ∷ claimed (map (adopt old new) fs)) (claimed (map (adopt old new) fs)))
          (cond (not b) ((n, ended_record r status) ∷ claimed (map (adopt old new) qs)) (claimed (map (adopt old new) qs)))
      of true r same = same
      of false r same = both_ended n r status _ _ same

      by : (b : Bool) → SameExceptValues R (claimed (map (adopt old new) fs)) (claimed (map (adopt old new) qs))
          → SameExceptValues R (claimed (cond b (n, ended_record new status) (n, ended_record parent status) ∷ map (adopt old new) fs))
          (claimed (cond b (n, ended_record new status) (n, ended_record parent status) ∷ map (adopt old new) qs))
      by true same = of (new == 0) new same
      by false same = of (parent == 0) parent same

-- ---- put

pub not-after : (k n : ℕ) → is_lt (nat_cmp k n) ≡ true → n ≢ k
not-after k n less same = let no : true ≡ false = sym less ∙ ap (λ m. is_lt (nat_cmp k m)) same ∙ ap is_lt (number-itself k) in cc no

not-before : (j k n : ℕ) → nat_cmp j k ≡ Less → is_lt (nat_cmp k n) ≡ true → n ≢ j
not-before j k n less later same = by (nat_cmp k j) (ap (λ m. is_lt (nat_cmp k m)) (sym same) ∙ later) (sym less ∙ nat_cmp_total.antisymm j k)
  where
    by : (o : Ordering) → is_lt o ≡ true → Less ≡ ordering_reverse o → ⊥
    by Less is turned = cc turned
    by Equal is turned = cc turned
    by Greater is turned = cc is

-- two relations that imply each other, but for number j
module _ (R S : ℕ → Process → List ℤ → Bytes → Type 0) (j : ℕ) (others : (n : ℕ) (p : Process) (rs : List ℤ) (bs : Bytes) → n ≢ j → R n p rs bs → S n p rs bs) where
  pub turned : (k : ℕ) → ((n : ℕ) → is_lt (nat_cmp k n) ≡ true → n ≢ j) → (es ps : List (ℕ × ProcessRecord)) → below_all nat_cmp k es ≡ true → SameExceptValues R es ps → SameExceptValues S es ps
  turned k away es ps below none = none
  turned k away es ps below (both_live n p rs bs fs qs is rest) =
      let parts = and_parts (is_lt (nat_cmp k n)) (below_all nat_cmp k fs) below in both_live n p rs bs fs qs (others n p rs bs (away n parts.0) is) (turned k away fs qs parts.1 rest)
  turned k away es ps below (both_ended n parent status fs qs rest) =
      let parts = and_parts (is_lt (nat_cmp k n)) (below_all nat_cmp k fs) below in both_ended n parent status fs qs (turned k away fs qs parts.1 rest)

  -- a record is stored in both lists, under this number
  module _ (r r' : ProcessRecord) (prepend : (n : ℕ) → j ≡ n → (es ps : List (ℕ × ProcessRecord)) → SameExceptValues S es ps → SameExceptValues S ((n, r) ∷ es) ((n, r') ∷ ps)) where
    pub put-same : (es ps : List (ℕ × ProcessRecord)) → is_sorted nat_cmp es ≡ true → SameExceptValues R es ps → SameExceptValues S (put nat_cmp j r es) (put nat_cmp j r' ps)
    put-same es ps sorted none = prepend j refl [] [] none
    put-same es ps sorted (both_live n p rs bs fs qs is rest) =
        let parts = and_parts (below_all nat_cmp n fs) (is_sorted nat_cmp fs) sorted in by parts.0 (nat_cmp j n) refl (put-same fs qs parts.1 rest)
      where
        by : below_all nat_cmp n fs ≡ true → (o : Ordering) → nat_cmp j n ≡ o → SameExceptValues S (put nat_cmp j r fs) (put nat_cmp j r' qs)
            → SameExceptValues S (by_order o ((j, r) ∷ (n, live p) ∷ fs) ((n, r) ∷ fs) ((n, live p) ∷ put nat_cmp j r fs))
            (by_order o ((j, r') ∷ (n, live (with_values rs bs p)) ∷ qs) ((n, r') ∷ qs) ((n, live (with_values rs bs p)) ∷ put nat_cmp j r' qs))
        by below Less less more =
            let other : n ≢ j = λ same. let no : Less ≡ Equal = sym less ∙ ap (nat_cmp j) same ∙ number-itself j in cc no in
            prepend j refl _ _ (both_live n p rs bs fs qs (others n p rs bs other is) (turned n (λ m later. not-before j n m less later) fs qs below rest))
        by below Equal tied more =
            let same : j ≡ n = eqb-true j n (unsigned_ties j n ∙ ap is_eq tied) in
            prepend n same fs qs (turned n (λ m later here. not-after n m later (here ∙ same)) fs qs below rest)
        by below Greater more is_more =
            let other : n ≢ j = λ same. let no : Greater ≡ Equal = sym more ∙ ap (nat_cmp j) same ∙ number-itself j in cc no in
            both_live n p rs bs _ _ (others n p rs bs other is) is_more
    put-same es ps sorted (both_ended n parent status fs qs rest) =
        let parts = and_parts (below_all nat_cmp n fs) (is_sorted nat_cmp fs) sorted in by parts.0 (nat_cmp j n) refl (put-same fs qs parts.1 rest)
      where
        by : below_all nat_cmp n fs ≡ true → (o : Ordering) → nat_cmp j n ≡ o → SameExceptValues S (put nat_cmp j r fs) (put nat_cmp j r' qs)
            → SameExceptValues S (by_order o ((j, r) ∷ (n, ended_record parent status) ∷ fs) ((n, r) ∷ fs) ((n, ended_record parent status) ∷ put nat_cmp j r fs))
            (by_order o ((j, r') ∷ (n, ended_record parent status) ∷ qs) ((n, r') ∷ qs) ((n, ended_record parent status) ∷ put nat_cmp j r' qs))
        by below Less less more = prepend j refl _ _ (both_ended n parent status fs qs (turned n (λ m later. not-before j n m less later) fs qs below rest))
        by below Equal tied more =
            let same : j ≡ n = eqb-true j n (unsigned_ties j n ∙ ap is_eq tied) in
            prepend n same fs qs (turned n (λ m later here. not-after n m later (here ∙ same)) fs qs below rest)
        by below Greater more is_more = both_ended n parent status _ _ is_more

  pub put-live : (p : Process) (rs : List ℤ) (bs : Bytes) → S j p rs bs → (es ps : List (ℕ × ProcessRecord)) → is_sorted nat_cmp es ≡ true → SameExceptValues R es ps
      → SameExceptValues S (put nat_cmp j (live p) es) (put nat_cmp j (live (with_values rs bs p)) ps)
  put-live p rs bs is = put-same (live p) (live (with_values rs bs p)) (λ n same es ps rest. both_live n p rs bs es ps (subst (λ m. S m p rs bs) same is) rest)

  pub put-ended : (parent status : ℕ) (es ps : List (ℕ × ProcessRecord)) → is_sorted nat_cmp es ≡ true → SameExceptValues R es ps
      → SameExceptValues S (put nat_cmp j (ended_record parent status) es) (put nat_cmp j (ended_record parent status) ps)
  put-ended parent status = put-same (ended_record parent status) (ended_record parent status) (λ n same es ps rest. both_ended n parent status es ps rest)
