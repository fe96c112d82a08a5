-- Steps that unveil a path, before and after a step of another process.
use Rattle.std.proofs.Common.{◌≡◌, ◌≢◌, ℕ, pos, negsuc, Bool, true, false, ◌||◌, ◌==◌, if◌then◌else◌, nat_le, length, [], ◌∷◌, ◌++◌, Option, None, Some, refl, ap, sym, subst, ◌∙◌, ⊎_elim}
use Rattle.std.proofs.Math.Seq.{map-set_same}
use Rattle.std.proofs.lemmas.Bool.{cases_eq, or_left, or_right, or_cases}
use Rattle.std.proofs.lemmas.List.{map-append}
use Rattle.std.proofs.lemmas.List.Folds.{list_any-append}
use Rattle.std.proofs.lemmas.List.Quantifiers.{position-Some}
use Rattle.pv_model.specs.declared.call.Call.{Call}
use Rattle.pv_model.specs.declared.call.Call.TheVariants as TheCall
use Rattle.pv_model.specs.declared.errno.Errno.{Errno}
use Rattle.pv_model.specs.declared.errno.Errno.TheVariants.{EPERM, E2BIG, ENOSYS}
use Rattle.pv_model.specs.declared.limits.TheConstants.{UNVEILS}
use Rattle.pv_model.specs.declared.outcome.Cause.{Cause}
use Rattle.pv_model.specs.declared.outcome.Cause.TheVariants.{Promise as ByPromise, Unveil as ByUnveil}
use Rattle.pv_model.specs.declared.outcome.Outcome.TheVariants.{Killed}
use Rattle.pv_model.specs.declared.perms.Perms.{Perms}
use Rattle.pv_model.specs.declared.promise.Promise.{Promise}
use Rattle.pv_model.specs.declared.target.Target.{Target}
use Rattle.pv_model.specs.Machine.{Answered, answer, answer_by_attempt, at_next_line, effect, Attempt, done, refused, ◌>>=◌, ◌>>◌, give, refuse, Bytes, with_result, entries_of_table, add_target, Effect, returns, answers, errno_number, among, held_by_process, held_by_table, collect, needs, at_number, covers, calls_for, next, missing_promise, OpenFile, Program, Process, State, process_at, with_process, with_tree, Stepped, step, step_by, Tree, root, named_numbers, node_at, Table, same_target, entry_for, permissions_at, with_permissions, target_directory}
use Rattle.pv_model.specs.Calls.Restraints.{add_table_entry}
use Rattle.pv_laws_trees.specs.Preserved.{numbers_wanted}
use Rattle.pv_laws_trees.proofs.Collection.{only_nodes_all, wanted-is}
use Rattle.pv_laws_trees.proofs.NumberedMaps.{keep-some}
use Rattle.pv_laws_states.specs.Held.{used}
use Rattle.pv_laws_states.specs.States.{EncodesPrograms, IsValid}
use Rattle.pv_laws_states.proofs.ReferenceMembers.{among-held_by, among-held_file, held_cases}
use Rattle.pv_laws_states.proofs.CallOutcomes.{at_call}
use Rattle.pv_laws_states.proofs.Processes.{process_at-same, tree-update}
use Rattle.pv_laws_states.proofs.ChangedStates.{same-directory}
use Rattle.pv_laws_states.proofs.CollectedStates.{held_after, tree-collect}
use Rattle.pv_laws_runs.proofs.OfLawsAccess.ProcessesAfterEnds.{step-is}
use Rattle.pv_laws_steps.specs.Beside.{with_change}
use Rattle.pv_laws_steps.specs.Commuting.{Commute}
use Rattle.pv_laws_steps.specs.Holding.{LeavesTree}
use Rattle.pv_laws_steps.proofs.ChangedProcess.{KeepsParent, process-changed}
use Rattle.pv_laws_steps.proofs.ReferenceSteps.{gives}
use Rattle.pv_laws_steps.proofs.OtherReferences.{found-same, UsesNoMore, change-is}
use Rattle.pv_laws_steps.proofs.IndependentSteps.{by-promise, commute-where}
use Rattle.pv_laws_steps.proofs.ParentIndependence.{orphan}
use Rattle.pv_laws_steps.proofs.OwnSteps.{Becomes, becomes-bind, becomes-then, becomes-there, become-commute, used-same, files-stay, own-commute}
use Rattle.pv_laws_steps.proofs.ExchangedSteps.{answer-held, answer-lacking, after_k, heir}

-- ---- the references of a table

-- a table with all references of another, and perhaps more
abbrev HoldsMore : Option Table → Table → Type 0
HoldsMore old new = (m : ℕ) → among (held_by_table old) m ≡ true → among (held_by_table (Some new)) m ≡ true

module _ (old : Option Table) (target : Target) (permissions : Perms) where
  abbrev entries : Table
  entries = entries_of_table old

  entries-held : (m : ℕ) → among (held_by_table old) m ≡ true → among (held_by_table (Some entries)) m ≡ true
  entries-held m is = by old is
    where
      by : (o : Option Table) → among (held_by_table o) m ≡ true → among (held_by_table (Some (entries_of_table o))) m ≡ true
      by None is = is
      by (Some table) is = is

  narrowed-holds : (i : ℕ) → entry_for entries target ≡ Some i → HoldsMore old (with_permissions entries i target permissions)
  narrowed-holds i found m is =
      let place = position-Some (λ e. same_target e.0 target) entries i (target, permissions) found in
      ap (λ ns. among ns m) (map-set_same (λ (e : Target × Perms). target_directory e.0) entries i (target, permissions) (target, permissions) (sym (same-directory _ target place.1)))
      ∙ entries-held m is

  longer-holds : HoldsMore old (entries ++ (target, permissions) ∷ [])
  longer-holds m is =
      ap (λ ns. among ns m) (map-append (λ (e : Target × Perms). target_directory e.0) entries ((target, permissions) ∷ []))
      ∙ list_any-append (λ i. i == m) (held_by_table (Some entries)) (target_directory target ∷ [])
      ∙ or_left (among (held_by_table (Some entries)) m) _ (entries-held m is)

-- ---- the effect of the call

-- the process with a table that has at least the same references
abbrev Unveils : Process → Process → Type 0
Unveils now q = (table : Table) × HoldsMore now.table table × (q ≡ record now { table = Some table })

module _ (s t : State) (j n : ℕ) (now : Process) (tree : t.tree ≡ s.tree) where
  abbrev x : State
  x = with_process s j now

  abbrev y : State
  y = with_process t j (orphan n now)

  abbrev y' : State
  y' = with_tree y s.tree

  abbrev U : Attempt Effect → Attempt Effect → Type 0
  U = Becomes s t j n now (Unveils now)

  unveils-bind : {B : Type 0} (a : Attempt B) (g h : B → Attempt Effect) → ((v : B) → U (g v) (h v)) → U (a >>= g) (a >>= h)
  unveils-bind = becomes-bind s t j n now (Unveils now)

  unveils-then : {B : Type 0} (a : Attempt B) (g h : Attempt Effect) → U g h → U (a >> g) (a >> h)
  unveils-then = becomes-then s t j n now (Unveils now)

  abbrev given_x : Table → Attempt Effect
  given_x table = answers (with_process x j (record now { table = Some table })) 0

  abbrev given_y : Table → Attempt Effect
  given_y table = answers (with_process y' j (record (orphan n now) { table = Some table })) 0

  unveils : (table : Table) → HoldsMore now.table table → U (given_x table) (given_y table)
  unveils table more = becomes-there s t j n now (Unveils now) tree (record now { table = Some table }) (table, more, refl)

  adds : (target : Target) (permissions : Perms) → U (add_target x j now target permissions >>= given_x) (add_target y' j (orphan n now) target permissions >>= given_y)
  adds target permissions = by (entry_for (entries_of_table now.table) target) refl
    where
      narrows : (i : ℕ) → entry_for (entries_of_table now.table) target ≡ Some i → (b : Bool)
          → U ((if b then give (with_permissions (entries_of_table now.table) i target permissions) else refused 0 EPERM (ByUnveil (Some i))) >>= given_x)
          ((if b then give (with_permissions (entries_of_table now.table) i target permissions) else refused 0 EPERM (ByUnveil (Some i))) >>= given_y)
      narrows i found true = unveils (with_permissions (entries_of_table now.table) i target permissions) (narrowed-holds now.table target permissions i found)
      narrows i found false = record { by = refl }

      lengthens : (b : Bool) → U ((if b then refuse E2BIG else give (entries_of_table now.table ++ (target, permissions) ∷ [])) >>= given_x)
          ((if b then refuse E2BIG else give (entries_of_table now.table ++ (target, permissions) ∷ [])) >>= given_y)
      lengthens true = record { by = refl }
      lengthens false = unveils (entries_of_table now.table ++ (target, permissions) ∷ []) (longer-holds now.table target permissions)

      by : (o : Option ℕ) → entry_for (entries_of_table now.table) target ≡ o → U (add_table_entry (entries_of_table now.table) target permissions o >>= given_x) (add_table_entry (entries_of_table now.table) target permissions o >>= given_y)
      by None found = lengthens (nat_le UNVEILS (length (entries_of_table now.table)))
      by (Some i) found = narrows i found (covers (permissions_at (entries_of_table now.table) i) permissions)

  ruleset parts = (unveils-bind, unveils-then, adds)

  unveil-by : (program_of : Bytes → Option Program) (path text : Bytes) → U (effect program_of x j now (TheCall.Unveil (Some path) (Some text))) (effect program_of y' j (orphan n now) (TheCall.Unveil (Some path) (Some text)))
  unfolding effect
  unveil-by program_of path text = search parts depth 20

  pub unveil-becomes : (program_of : Bytes → Option Program) (path text : Bytes) → U (effect program_of x j now (TheCall.Unveil (Some path) (Some text))) (effect program_of y j (orphan n now) (TheCall.Unveil (Some path) (Some text)))
  unveil-becomes program_of path text =
      subst (λ u. U (effect program_of x j now (TheCall.Unveil (Some path) (Some text))) (effect program_of (with_tree y u) j (orphan n now) (TheCall.Unveil (Some path) (Some text)))) (sym tree) (unveil-by program_of path text)

-- ---- additional references free no node

-- the process after the call, with any parent, directory and descriptors
abbrev unveiled : Process → Table → Process → Process
unveiled now table r = record (with_result (record now { table = Some table }) (pos 0) 0) { parent = r.parent; directory = r.directory; descriptors = r.descriptors }

unveiled-keeps : (now : Process) (table : Table) → KeepsParent (unveiled now table)
unveiled-keeps now table = record { same = λ r. refl; whoever = λ r m. refl }

module _ (s : State) (j : ℕ) (p : Process) (whole : IsValid s) (at : process_at s j ≡ Some p) (now : Process) (table : Table) (more : HoldsMore p.table table) where
  abbrev f : Process → Process
  f = unveiled now table

  abbrev u : State
  u = with_change s j f

  at_u : process_at u j ≡ Some (f p)
  at_u = ap (λ z. process_at z j) (sym (change-is j f s whole.processes.ascending p at)) ∙ process_at-same s j (f p)

  own-held : (m : ℕ) → among (held_by_process p) m ≡ true → among (held_by_process (f p)) m ≡ true
  own-held m is =
      ⊎_elim (λ here. or_left (p.directory == m) _ here) (λ there. or_right (p.directory == m) _ (more m there)) (or_cases (p.directory == m) (among (held_by_table p.table) m) is)

  held-still : (m : ℕ) → among (held_after s) m ≡ true → among (held_after u) m ≡ true
  held-still m is = held_cases (among (held_after u) m ≡ true) s whole.processes.ascending m is by-process by-file
    where
      by-process : (i : ℕ) (r : Process) → process_at s i ≡ Some r → among (held_by_process r) m ≡ true → among (held_after u) m ≡ true
      by-process i r at_i has =
          ⊎_elim (λ here. among-held_by u j (f p) m at_u (own-held m (ap (λ (q : Process). among (held_by_process q) m) (sym (found-same s i j r p here at_i at)) ∙ has)))
          (λ apart. among-held_by u i r m (process-changed j f s i apart ∙ at_i) has) (cases_eq i j)

      by-file : (i : ℕ) (file : OpenFile) → at_number s.files i ≡ Some file → among (used s) i ≡ true → file.node ≡ m → among (held_after u) m ≡ true
      by-file i file at_i is node = subst (λ v. among (held_after u) v ≡ true) node (among-held_file u i file at_i (ap (λ us. among us i) (used-same j f (λ r. refl) s) ∙ is))

  wanted-still : (m : ℕ) → among (numbers_wanted s.tree (held_after s)) m ≡ true → among (numbers_wanted s.tree (held_after u)) m ≡ true
  wanted-still m is =
      wanted-is s.tree (held_after u) m
      ∙ by (root == m) (among (named_numbers s.tree) m) (among (held_after s) m) (among (held_after u) m) (held-still m) (sym (wanted-is s.tree (held_after s) m) ∙ is)
    where
      by : (a b c d : Bool) → (c ≡ true → d ≡ true) → (a || (b || c)) ≡ true → (a || (b || d)) ≡ true
      by true b c d still is = refl
      by false true c d still is = refl
      by false false c d still is = still is

  pub tree-stays : (collect u).tree ≡ s.tree
  tree-stays =
      tree-collect u
      ∙ only_nodes_all s.tree (numbers_wanted s.tree (held_after u))
      (λ m node is. wanted-still m (keep-some (among (numbers_wanted s.tree (held_after s))) s.tree.nodes m node (ap (λ (t : Tree). node_at t m) (sym (tree-collect s) ∙ ap (λ (z : State). z.tree) whole.collected) ∙ is)).0)

-- ---- the step

module _ (program_of : Bytes → Option Program) (s : State) (j : ℕ) (p : Process) (path text : Bytes) (whole : IsValid s) (at : process_at s j ≡ Some p) (comes : next p ≡ calls_for (TheCall.Unveil (Some path) (Some text))) where
  abbrev call : Call
  call = TheCall.Unveil (Some path) (Some text)

  abbrev now : Process
  now = at_next_line p

  abbrev does : Attempt Effect
  does = effect program_of (at_call s j p) j now call

  calls : step program_of s j ≡ step_by program_of s j p (calls_for call)
  calls = step-is program_of s j p at ∙ ap (step_by program_of s j p) comes

  -- a refused call leaves the tree unchanged
  refused-leaves : (w : ℕ) (e : Errno) (c : Cause) → answer program_of s j call ≡ answer_by_attempt s (at_call s j p) j now (refused w e c) → LeavesTree program_of s j
  refused-leaves w e c is =
      ap (λ (r : Stepped). r.after.tree) calls ∙ ap (λ (a : Answered). a.after.tree) is ∙ tree-update (at_call s j p) j (λ q. with_result q (negsuc 0) (errno_number e))

  module _ (held : missing_promise p.promises (needs call) ≡ None) where
    pub table-leaves : (w : ℕ) (q : Process) → Unveils now q → does ≡ done w (with_process s j q, returns 0) → LeavesTree program_of s j
    table-leaves w q such is =
        let given = gives program_of s whole j p at call comes held (unveiled now such.0) w 0 q (ap (λ r. with_result r (pos 0) 0) (sym such.2)) is in
        ap (λ (r : Stepped). r.after.tree) given.calls ∙ ap (λ (a : Answered). a.after.tree) given.answered ∙ tree-stays s j p whole at now such.0 such.1

    held-leaves : LeavesTree program_of s j
    held-leaves = by does refl (unveil-becomes s s j p.parent now refl program_of path text)
      where
        by : (a : Attempt Effect) → does ≡ a → Becomes s s j p.parent now (Unveils now) a (effect program_of (with_process s j (orphan p.parent now)) j (orphan p.parent now) call) → LeavesTree program_of s j
        by (done w (z, r)) is both =
            let reported = both.by in
            table-leaves w reported.0 reported.1 (is ∙ ap (λ v. done w (v, r)) reported.3 ∙ ap (λ v. done w (with_process s j reported.0, v)) reported.2)
        by (refused w e c) is both = refused-leaves w e c (answer-held program_of s j p call at held ∙ ap (answer_by_attempt s (at_call s j p) j now) is)

  pub unveils-leave : ((a : Promise) → (step program_of s j).outcome ≢ Killed a) → LeavesTree program_of s j
  unveils-leave alive =
      by-promise (LeavesTree program_of s j) program_of s j p call at comes alive
      (λ a missing lenient. refused-leaves 0 ENOSYS (ByPromise a) (answer-lacking program_of s j p call a at missing lenient)) held-leaves

module _ (program_of : Bytes → Option Program) (encodes : EncodesPrograms program_of) (s : State) (j k : ℕ) (p : Process) (path text : Bytes) (whole : IsValid s) (apart : j ≢ k) (at : process_at s j ≡ Some p)
    (comes : next p ≡ calls_for (TheCall.Unveil (Some path) (Some text))) (way : LeavesTree program_of s k) where
  abbrev asked : Call
  asked = TheCall.Unveil (Some path) (Some text)

  abbrev t : State
  t = after_k program_of encodes s j k p whole apart at

  abbrev n : ℕ
  n = heir program_of encodes s j k p whole apart at

  abbrev me : Process
  me = at_next_line p

  abbrev g : Table → Process → Process
  g = unveiled me

  fewer : (table : Table) → UsesNoMore p.descriptors (g table p).descriptors
  fewer table i v has = (i, v, has, refl)

  unveil-commutes : missing_promise p.promises (needs (TheCall.Unveil (Some path) (Some text))) ≡ None → Commute program_of s j k
  unveil-commutes held =
      become-commute program_of encodes s j k p whole apart at asked comes held (Unveils me) (unveil-becomes s t j n me way program_of path text)
      (λ w q such one two.
      let table : Table = such.0 in
      let is_given : g table p ≡ with_result q (pos 0) 0 = ap (λ r. with_result r (pos 0) 0) (sym such.2) in
      own-commute program_of encodes s j k p whole apart at asked comes held (g table) (unveiled-keeps me table) (fewer table) w 0 q is_given one two
      (table-leaves program_of s j p path text whole at comes held w q such one)
      (files-stay program_of encodes s j k p whole apart at asked comes held (g table) (unveiled-keeps me table) (fewer table) w 0 q is_given one two (used-same j (g table) (λ r. refl) s)))

  pub unveils-commute : ((a : Promise) → (step program_of s j).outcome ≢ Killed a) → Commute program_of s j k
  unveils-commute alive = commute-where program_of encodes s j k p asked whole apart at comes alive unveil-commutes
