-- States that are the same except for registers and buffers, and operations on both.
use Rattle.std.proofs.Common.{◌≡◌, ◌≢◌, ℕ, ℤ, true, false, if◌then◌else◌, cond, Bool, List, ◌∷◌, ◌++◌, map, not, Option, None, Some, refl, ap, sym, subst, ◌∙◌}
use Rattle.std.specs.Cmp.{unsigned_ties}
use Rattle.std.specs.FinMap.Entries.{find, put, is_sorted, below_all}
use Rattle.std.specs.Ordering.{nat_cmp, is_eq, eq_by_cmp}
use Rattle.std.proofs.lemmas.Bool.{and_parts, eqb-true}
use Rattle.pv_model.specs.Machine.{update_live, update, Bytes, adopt, is_unclaimed, adopter, end_process, among, used_files, held_by_process, collect, present, keep, OpenFile, Process, ProcessRecord, live, ended_record, State, live_process, process_at, with_process}
use Rattle.pv_laws_trees.specs.Preserved.{preserved}
use Rattle.pv_laws_states.proofs.ValidEnds.{adopted, sorted-mapped, sorted-filtered, map-adopt}
use Rattle.pv_laws_states.proofs.ReferenceMembers.{all_of}
use Rattle.pv_laws_states.proofs.Processes.{number-itself}
use Rattle.pv_laws_states.proofs.ValidStates.{sorted-put_number}
use Rattle.pv_laws_classes.specs.Liveness.{with_values, SameExceptValues, none, both_live, both_ended}
use Rattle.pv_laws_classes.proofs.LiveLists.{AreLive, claimed, used-same, held-same, live-same, lives-same, adopted-same, turned, not-after, put-live, put-ended}

-- y is x with other registers and buffers, related by R
pub record Related (R : ℕ → Process → List ℤ → Bytes → Type 0) (x y : State) : Type 0 where
  pub processes : List (ℕ × ProcessRecord)
  pub same : y ≡ record x { processes = processes }
  pub sorted : is_sorted nat_cmp x.processes ≡ true
  pub each : SameExceptValues R x.processes processes

module _ (R : ℕ → Process → List ℤ → Bytes → Type 0) where
  pub tree-related : (x y : State) → Related R x y → y.tree ≡ x.tree
  tree-related x y is = ap (λ (z : State). z.tree) is.same

  pub collect-with : (x : State) (ps : List (ℕ × ProcessRecord)) → all_of used_files ps ≡ all_of used_files x.processes → all_of held_by_process ps ≡ all_of held_by_process x.processes
      → collect (record x { processes = ps }) ≡ record (collect x) { processes = ps }
  unfolding collect
  collect-with x ps used held =
      λ i. record x {
        tree = preserved x.tree (held i ++ map (λ (o : OpenFile). o.node) (present (keep (among (used i)) x.files)));
        files = keep (among (used i)) x.files;
        processes = ps;
      }

  collect-processes : (x : State) → (collect x).processes ≡ x.processes
  unfolding collect
  collect-processes x = refl

  pub collect-related : (x y : State) → Related R x y → Related R (collect x) (collect y)
  collect-related x y is = record {
    processes = is.processes;
    same = ap collect is.same ∙ collect-with x is.processes (used-same R x.processes is.processes is.each) (held-same R x.processes is.processes is.each);
    sorted = ap (is_sorted nat_cmp) (collect-processes x) ∙ is.sorted;
    each = subst (λ es. SameExceptValues R es is.processes) (sym (collect-processes x)) is.each;
  }

  -- the process with a number, in both
  pub process-related : (x y : State) (j : ℕ) → Related R x y → AreLive R j (process_at x j) (process_at y j)
  process-related x y j is = subst (λ (z : State). AreLive R j (process_at x j) (process_at z j)) (sym is.same) (live-same R j x.processes is.processes is.each)

-- two relations that imply each other, but for number j
module _ (R S : ℕ → Process → List ℤ → Bytes → Type 0) (j : ℕ) (others : (n : ℕ) (p : Process) (rs : List ℤ) (bs : Bytes) → n ≢ j → R n p rs bs → S n p rs bs) where
  pub with-related : (x y : State) (p : Process) (rs : List ℤ) (bs : Bytes) → S j p rs bs → Related R x y → Related S (with_process x j p) (with_process y j (with_values rs bs p))
  with-related x y p rs bs mine is = record {
    processes = put nat_cmp j (live (with_values rs bs p)) is.processes;
    same = ap (λ (z : State). with_process z j (with_values rs bs p)) is.same;
    sorted = sorted-put_number j (live p) x.processes is.sorted;
    each = put-live R S j others p rs bs mine x.processes is.processes is.sorted is.each;
  }

  -- no process has this number
  absent : (es ps : List (ℕ × ProcessRecord)) → is_sorted nat_cmp es ≡ true → live_process (find nat_cmp j es) ≡ None → SameExceptValues R es ps → SameExceptValues S es ps
  absent es ps sorted gone none = none
  absent es ps sorted gone (both_live n p rs bs fs qs is rest) =
      let parts = and_parts (below_all nat_cmp n fs) (is_sorted nat_cmp fs) sorted in by (eq_by_cmp nat_cmp j n) refl gone (λ gone. absent fs qs parts.1 gone rest)
    where
      by : (b : Bool) → eq_by_cmp nat_cmp j n ≡ b → live_process (cond b (Some (live p)) (find nat_cmp j fs)) ≡ None → (live_process (find nat_cmp j fs) ≡ None → SameExceptValues S fs qs)
          → SameExceptValues S ((n, live p) ∷ fs) ((n, live (with_values rs bs p)) ∷ qs)
      by true tied gone more = cc gone
      by false apart gone more =
          let other : n ≢ j = λ same. let no : true ≡ false = sym (ap (λ m. eq_by_cmp nat_cmp j m) same ∙ ap is_eq (number-itself j)) ∙ apart in cc no in
          both_live n p rs bs fs qs (others n p rs bs other is) (more gone)
  absent es ps sorted gone (both_ended n parent status fs qs rest) =
      let parts = and_parts (below_all nat_cmp n fs) (is_sorted nat_cmp fs) sorted in both_ended n parent status fs qs (by (eq_by_cmp nat_cmp j n) refl parts.0 gone (λ gone. absent fs qs parts.1 gone rest))
    where
      by : (b : Bool) → eq_by_cmp nat_cmp j n ≡ b → below_all nat_cmp n fs ≡ true → live_process (cond b (Some (ended_record parent status)) (find nat_cmp j fs)) ≡ None
          → (live_process (find nat_cmp j fs) ≡ None → SameExceptValues S fs qs) → SameExceptValues S fs qs
      by true tied below gone more =
          let same : j ≡ n = eqb-true j n (unsigned_ties j n ∙ tied) in turned R S j others n (λ m later here. not-after n m later (here ∙ same)) fs qs below rest
      by false apart below gone more = more gone

  -- a function is applied to the process with this number, if there is one
  pub update-related : (x y : State) (g h : Process → Process) → ((p : Process) (rs : List ℤ) (bs : Bytes) → R j p rs bs → (qs : List ℤ) × (cs : Bytes) × (h (with_values rs bs p) ≡ with_values qs cs (g p)) × S j (g p) qs cs)
      → Related R x y → Related S (update x j g) (update y j h)
  update-related x y g h gives is = by (process_at x j) refl (process_at y j) (process-related R x y j is)
    where
      by : (o : Option Process) → process_at x j ≡ o → (o' : Option Process) → AreLive R j o o' → Related S (update_live x j g o) (update_live y j h o')
      by None at o' both = subst (λ c. Related S x (update_live y j h c)) (sym both) (record {
        processes = is.processes;
        same = is.same;
        sorted = is.sorted;
        each = absent x.processes is.processes is.sorted at is.each;
      })
      by (Some p) at o' both =
          let given = gives p both.0 both.1 both.3 in
          subst (λ c. Related S (with_process x j (g p)) (update_live y j h c)) (sym both.2)
          (subst (λ q. Related S (with_process x j (g p)) (with_process y j q)) (sym given.2) (with-related x y (g p) given.0 given.1 given.3 is))

  -- the end of the process with this number
  pub end-related : ((n : ℕ) (p : Process) (rs : List ℤ) (bs : Bytes) (parent : ℕ) → S n p rs bs → S n (record p { parent = parent }) rs bs)
      → (x y : State) (me : Process) (rs : List ℤ) (bs : Bytes) (status : ℕ) → Related R x y → Related S (end_process x j me status) (end_process y j (with_values rs bs me) status)
  unfolding end_process
  end-related keeps x y me rs bs status is = record {
    processes = claimed (map (adopt j (adopter (record x { processes = gone }))) gone');
    same =
        ap (λ (z : State). end_process z j me status) is.same
        ∙ (λ i. record x { processes = claimed (map (adopt j (if lives-same S 1 gone gone' both i then 1 else 0)) gone') });
    sorted =
        sorted-filtered (λ r. not (is_unclaimed r.1)) (map (adopt j heir) gone)
        (ap (is_sorted nat_cmp) (map-adopt j heir gone) ∙ sorted-mapped (adopted j heir) gone ∙ sorted-put_number j (ended_record me.parent status) x.processes is.sorted);
    each = adopted-same S keeps j heir gone gone' both;
  }
    where
      gone : List (ℕ × ProcessRecord)
      gone = put nat_cmp j (ended_record me.parent status) x.processes

      gone' : List (ℕ × ProcessRecord)
      gone' = put nat_cmp j (ended_record me.parent status) is.processes

      heir : ℕ
      heir = adopter (record x { processes = gone })

      both : SameExceptValues S gone gone'
      both = put-ended R S j others me.parent status x.processes is.processes is.sorted is.each
