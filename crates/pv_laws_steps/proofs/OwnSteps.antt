-- Steps that change the references of their process, before and after any step of another process.
use Rattle.std.proofs.Common.{◌≡◌, ◌≢◌, ℕ, pos, true, false, Option, None, Some, refl, ap, sym, subst, ◌∙◌, ⊎_elim}
use Rattle.std.proofs.lemmas.Bool.{cases_eq}
use Rattle.std.specs.FinMap.Entries.{find, is_sorted}
use Rattle.std.specs.Ordering.{nat_cmp}
use Rattle.pv_model.specs.declared.call.Call.{Call}
use Rattle.pv_model.specs.Machine.{Answered, at_next_line, effect, Attempt, done, refused, after_walks, ◌>>=◌, ◌>>◌, Bytes, with_result, Effect, returns, among, used_files, held_by_process, collect, needs, at_number, keep, calls_for, next, missing_promise, OpenFile, Program, Process, State, live_process, process_at, with_process, with_tree, Stepped, step, Node, Tree, node_at, is_directory, is_directory_at}
use Rattle.pv_laws_trees.specs.Preserved.{numbers_wanted}
use Rattle.pv_laws_trees.proofs.Collection.{wanted-held}
use Rattle.pv_laws_trees.proofs.NumberedMaps.{keep-some}
use Rattle.pv_laws_states.specs.Held.{used}
use Rattle.pv_laws_states.specs.States.{EncodesPrograms, IsValid}
use Rattle.pv_laws_states.proofs.ValidBySteps.{step-keeps_valid}
use Rattle.pv_laws_states.proofs.ReferenceMembers.{among-held_by, among-held_file, held_cases}
use Rattle.pv_laws_states.proofs.CallOutcomes.{at_call}
use Rattle.pv_laws_states.proofs.Processes.{process_at-same, with_process-twice}
use Rattle.pv_laws_states.proofs.CollectedStates.{held_after, tree-collect, files-collect}
use Rattle.pv_laws_runs.proofs.OfLawsAccess.ProcessesAfterEnds.{valid-in_order, not_next, process_at-collect}
use Rattle.pv_laws_steps.specs.Beside.{with_change}
use Rattle.pv_laws_steps.specs.Commuting.{Commute}
use Rattle.pv_laws_steps.specs.Holding.{LeavesOpenFiles, LeavesTree}
use Rattle.pv_laws_steps.proofs.ChangedProcess.{KeepsParent, process-changed}
use Rattle.pv_laws_steps.proofs.ReferenceSteps.{Gives, gives, refused-commute, given-commute}
use Rattle.pv_laws_steps.proofs.OtherReferences.{found-same, UsesNoMore, NoMore, all-changed, used-before, change-is, step-to_collect}
use Rattle.pv_laws_steps.proofs.ParentIndependence.{orphan, orphaned, next-orphan}
use Rattle.pv_laws_steps.proofs.RoomRefusals.{held-there, in-order, goes-along}
use Rattle.pv_laws_steps.proofs.ExchangedSteps.{after_k, valid-following, at-following, heir}

-- ---- the effect of such a call

module _ (s t : State) (j n : ℕ) (now : Process) (IsSuch : Process → Type 0) where
  abbrev x : State
  x = with_process s j now

  abbrev y : State
  y = with_process t j (orphan n now)

  abbrev BecomesBy : Attempt Effect → Attempt Effect → Type 0
  BecomesBy (done w (a, r)) b = (q : Process) × IsSuch q × (r ≡ returns 0) × (a ≡ with_process s j q) × (b ≡ done w (with_process t j (orphan n q), r))
  BecomesBy (refused w e c) b = b ≡ refused w e c

  -- both calls are refused, or both change the process to the same one, which has a property
  pub record Becomes (a b : Attempt Effect) : Type 0 where
    pub by : BecomesBy a b

  becomes-after : (m : ℕ) (a b : Attempt Effect) → Becomes a b → Becomes (after_walks m a) (after_walks m b)
  becomes-after m (done w (a, r)) b is = record { by = (is.by.0, is.by.1, is.by.2, is.by.3, ap (after_walks m) is.by.4) }
  becomes-after m (refused w e c) b is = record { by = ap (after_walks m) is.by }

  pub becomes-bind : {B : Type 0} (a : Attempt B) (g h : B → Attempt Effect) → ((v : B) → Becomes (g v) (h v)) → Becomes (a >>= g) (a >>= h)
  becomes-bind (done w v) g h is = becomes-after w (g v) (h v) (is v)
  becomes-bind (refused w e c) g h is = record { by = refl }

  pub becomes-then : {B : Type 0} (a : Attempt B) (g h : Attempt Effect) → Becomes g h → Becomes (a >> g) (a >> h)
  becomes-then (done w v) g h is = becomes-after w g h is
  becomes-then (refused w e c) g h is = record { by = refl }

  pub becomes : (q : Process) → IsSuch q → Becomes (done 0 (with_process x j q, returns 0)) (done 0 (with_process y j (orphan n q), returns 0))
  becomes q such = record { by = (q, such, refl, with_process-twice s j now q, ap (λ z. done 0 (z, returns 0)) (with_process-twice t j (orphan n now) (orphan n q))) }

  -- this also holds if the second state has the first one's tree
  pub becomes-there : t.tree ≡ s.tree → (q : Process) → IsSuch q → Becomes (done 0 (with_process x j q, returns 0)) (done 0 (with_process (with_tree y s.tree) j (orphan n q), returns 0))
  becomes-there tree q such =
      let there : with_process (with_tree y s.tree) j (orphan n q) ≡ with_process y j (orphan n q) = ap (with_tree (with_process y j (orphan n q))) (sym tree) in
      subst (λ z. Becomes (done 0 (with_process x j q, returns 0)) (done 0 (z, returns 0))) (sym there) (becomes q such)

-- ---- the step

-- the same open files are used if each process keeps its descriptors
pub used-same : (j : ℕ) (f : Process → Process) → ((r : Process) → (f r).descriptors ≡ r.descriptors) → (z : State) → used (with_change z j f) ≡ used z
used-same j f same z = all-changed j f used_files (λ r. ap (λ ds. used_files (record r { descriptors = ds })) (same r)) z.processes

module _ (program_of : Bytes → Option Program) (encodes : EncodesPrograms program_of) (s : State) (j k : ℕ) (p : Process) (whole : IsValid s) (apart : j ≢ k) (at : process_at s j ≡ Some p)
    (call : Call) (comes : next p ≡ calls_for call) (held : missing_promise p.promises (needs call) ≡ None) where
  abbrev t : State
  t = after_k program_of encodes s j k p whole apart at

  abbrev whole_t : IsValid t
  whole_t = valid-following program_of encodes s j k p whole apart at

  abbrev n : ℕ
  n = heir program_of encodes s j k p whole apart at

  abbrev at_t : process_at t j ≡ Some (orphan n p)
  at_t = at-following program_of encodes s j k p whole apart at

  abbrev other : k ≢ j
  other same = apart (sym same)

  abbrev now : Process
  now = at_next_line p

  abbrev one : Attempt Effect
  one = effect program_of (at_call s j p) j now call

  abbrev two : Attempt Effect
  two = effect program_of (at_call t j (orphan n p)) j (orphan n now) call

  -- both calls are refused, or both change the process to the same one, and then the steps commute
  pub become-commute : (IsSuch : Process → Type 0) → Becomes s t j n now IsSuch one two
      → ((w : ℕ) (q : Process) → IsSuch q → one ≡ done w (with_process s j q, returns 0) → two ≡ done w (with_process t j (orphan n q), returns 0) → Commute program_of s j k) → Commute program_of s j k
  become-commute IsSuch both passes = by one refl both
    where
      by : (a : Attempt Effect) → one ≡ a → Becomes s t j n now IsSuch a two → Commute program_of s j k
      by (done w (z, r)) is both =
          let reported = both.by in
          let q : Process = reported.0 in
          passes w q reported.1 (is ∙ ap (λ v. done w (v, r)) reported.3 ∙ ap (λ v. done w (with_process s j q, v)) reported.2) (reported.4 ∙ ap (λ v. done w (with_process t j (orphan n q), v)) reported.2)
      by (refused w e c) is both = refused-commute program_of encodes s j k p whole apart at call comes held w e c is both.by

  -- f may keep more of the process than the call sets
  module _ (f : Process → Process) (keeps : KeepsParent f) (fewer : UsesNoMore p.descriptors (f p).descriptors) (w value : ℕ) (q : Process) (is_given : f p ≡ with_result q (pos value) 0)
      (one_is : one ≡ done w (with_process s j q, returns value)) (two_is : two ≡ done w (with_process t j (orphan n q), returns value)) where
    gives_s : Gives program_of s j p call f w value
    gives_s = gives program_of s whole j p at call comes held f w value q is_given one_is

    gives_t : Gives program_of t j (orphan n p) call f w value
    gives_t =
        gives program_of t whole_t j (orphan n p) at_t call (next-orphan n p ∙ ap (orphaned n) comes) held f w value (orphan n q) (keeps.whoever p n ∙ ap (orphan n) is_given) two_is

    pub after_s : (step program_of s j).after ≡ collect (with_change s j f)
    after_s = ap (λ (r : Stepped). r.after) gives_s.calls ∙ ap (λ (a : Answered). a.after) gives_s.answered

    after_t : (step program_of t j).after ≡ collect (with_change t j f)
    after_t = ap (λ (r : Stepped). r.after) gives_t.calls ∙ ap (λ (a : Answered). a.after) gives_t.answered

    -- no open file is removed if the same are used
    pub files-stay : used (with_change s j f) ≡ used s → LeavesOpenFiles program_of s j
    files-stay same =
        ap (λ (z : State). z.files) after_s ∙ files-collect (with_change s j f) ∙ ap (λ us. keep (among us) s.files) same ∙ sym (files-collect s) ∙ ap (λ (z : State). z.files) whole.collected

    -- the new references of the process exist after the step of k
    module _ (m : ℕ) (is : among (held_by_process (f (orphan n p))) m ≡ true) where
      abbrev u : State
      u = with_change t j f

      whole_u : IsValid (collect u)
      whole_u = subst IsValid after_t (step-keeps_valid program_of encodes t j whole_t)

      at_u : process_at (collect u) j ≡ Some (f (orphan n p))
      at_u = process_at-collect u j ∙ ap (λ z. process_at z j) (sym (change-is j f t whole_t.processes.ascending (orphan n p) at_t)) ∙ process_at-same t j (f (orphan n p))

      appears : is_directory_at (collect u).tree m ≡ true
      appears = held-there (collect u).tree (collect u).files (f (orphan n p)) (whole_u.processes.placed j (f (orphan n p)) at_u) m is

      node-there : (node : Node) × (node_at t.tree m ≡ Some node)
      node-there = by (node_at (collect u).tree m) refl appears
        where
          by : (o : Option Node) → node_at (collect u).tree m ≡ o → is_directory_at (collect u).tree m ≡ true → (node : Node) × (node_at t.tree m ≡ Some node)
          by None none is = let bad : false ≡ true = sym (ap is_directory none) ∙ is in cc bad
          by (Some node) some is =
              (node, (keep-some (among (numbers_wanted t.tree (held_after u))) t.tree.nodes m node (ap (λ (v : Tree). node_at v m) (sym (tree-collect u)) ∙ some)).1)

    -- so only wanted nodes are referenced
    less : (z : State) → z.processes ≡ t.processes → collect z ≡ t → NoMore j f z
    less z same last = record {
      used = used-there;
      held = λ m is. held_cases (among (numbers_wanted z.tree (held_after z)) m ≡ true) v sorted_v m is (by-process m) (by-file m);
    }
      where
        v : State
        v = with_change z j f

        sorted_z : is_sorted nat_cmp z.processes ≡ true
        sorted_z = ap (is_sorted nat_cmp) same ∙ whole_t.processes.ascending

        sorted_v : is_sorted nat_cmp v.processes ≡ true
        sorted_v = in-order j f z.processes ∙ sorted_z

        at_z : process_at z j ≡ Some (orphan n p)
        at_z = ap (λ ps. live_process (find nat_cmp j ps)) same ∙ at_t

        at_v : process_at v j ≡ Some (f (orphan n p))
        at_v = ap (λ x. process_at x j) (sym (change-is j f z sorted_z (orphan n p) at_z)) ∙ process_at-same z j (f (orphan n p))

        fewer_past : UsesNoMore p.descriptors (f (orphan n p)).descriptors
        fewer_past = subst (λ (r : Process). UsesNoMore p.descriptors r.descriptors) (sym (keeps.whoever p n)) fewer

        used-there : (m : ℕ) → among (used v) m ≡ true → among (used z) m ≡ true
        used-there = used-before j f z sorted_z (orphan n p) at_z fewer_past

        own : (m : ℕ) → among (held_by_process (f (orphan n p))) m ≡ true → among (numbers_wanted z.tree (held_after z)) m ≡ true
        own m is =
            let there = node-there m is in
            (keep-some (among (numbers_wanted z.tree (held_after z))) z.tree.nodes m there.0
            (ap (λ (x : Tree). node_at x m) (sym (tree-collect z)) ∙ ap (λ (x : State). node_at x.tree m) last ∙ there.1)).0

        by-process : (m i : ℕ) (r : Process) → process_at v i ≡ Some r → among (held_by_process r) m ≡ true → among (numbers_wanted z.tree (held_after z)) m ≡ true
        by-process m i r at_i is =
            ⊎_elim
            (λ here. own m (ap (λ (x : Process). among (held_by_process x) m) (sym (found-same v i j r (f (orphan n p)) here at_i at_v)) ∙ is))
            (λ others. wanted-held z.tree (held_after z) m (among-held_by z i r m (sym (process-changed j f z i others) ∙ at_i) is))
            (cases_eq i j)

        by-file : (m i : ℕ) (file : OpenFile) → at_number z.files i ≡ Some file → among (used v) i ≡ true → file.node ≡ m → among (numbers_wanted z.tree (held_after z)) m ≡ true
        by-file m i file at_i is node =
            wanted-held z.tree (held_after z) m (subst (λ x. among (held_after z) x ≡ true) node (among-held_file z i file at_i (used-there i is)))

    collect-parts : (z : State) → collect z ≡ record z { tree = (collect z).tree; files = (collect z).files }
    unfolding collect
    collect-parts z = refl

    -- if the first step frees nothing, it leaves the state otherwise unchanged
    settled : LeavesTree program_of s j → LeavesOpenFiles program_of s j → (step program_of s j).after ≡ with_change s j f
    settled tree files =
        let u : State = with_change s j f in
        after_s ∙ collect-parts u ∙ ap (λ v. record u { tree = v; files = (collect u).files }) (sym (ap (λ (z : State). z.tree) after_s) ∙ tree)
        ∙ ap (λ fs. record u { files = fs }) (sym (ap (λ (z : State). z.files) after_s) ∙ files)

    -- and the step of k follows the change
    pub own-commute : LeavesTree program_of s j → LeavesOpenFiles program_of s j → Commute program_of s j k
    own-commute tree files =
        let is : (step program_of s j).after ≡ with_change s j f = settled tree files in
        given-commute program_of encodes s j k p whole apart at call comes held f keeps w value gives_s gives_t is
        (step-to_collect program_of encodes s whole j k other f keeps
        (λ me at_k made comes_k held_k.
        goes-along program_of s whole j k other f keeps (subst IsValid is (step-keeps_valid program_of encodes s j whole)) (λ same. not_next s (valid-in_order s whole) j p at (sym same)) me at_k made comes_k) less)
