-- Waiting: an ended child has no users and no references.
use Rattle.std.proofs.Common.{◌≡◌, ◌≢◌, ℕ, Bool, true, false, cond, not, ◌==◌, List, [], ◌∷◌, ◌++◌, filter, Some, refl, ap, sym, ◌∙◌}
use Rattle.std.specs.FinMap.Entries.{find, below_all, is_sorted}
use Rattle.std.specs.Ordering.{nat_cmp, is_eq}
use Rattle.std.proofs.lemmas.Bool.{and_parts, eqb-true}
use Rattle.pv_calls_state.specs.Attempts.{collected_attempt}
use Rattle.pv_laws_states.proofs.ValidByTable.{first-ended}
use Rattle.pv_laws_states.proofs.ReferenceMembers.{all_of, find_number_after}
use Rattle.pv_laws_states.proofs.Processes.{number-itself}
use Rattle.pv_model.specs.declared.errno.Errno.TheVariants.{ECHILD}
use Rattle.pv_model.specs.Machine.{done, refuse_if, ◌>>◌, is_empty, parent_of, statuses, children, reap, wait, Effect, collect, Process, ProcessRecord, live, ended_record, State}
use Rattle.pv_procs.specs.declared.processes.Reap.{Reap}
use Rattle.pv_procs.specs.declared.processes.Reap.TheVariants.{Child, Blocked, NoChild}
use Rattle.pv_procs.specs.Reaping.{waited}

-- the records under other numbers
abbrev others : ℕ → List (ℕ × ProcessRecord) → List (ℕ × ProcessRecord)
others k ps = filter (λ r. not (r.0 == k)) ps

module _ (g : Process → List ℕ) where
  -- without the record of a number that is not live, the counts are the same
  all_of-others : (ps : List (ℕ × ProcessRecord)) (k : ℕ) → is_sorted nat_cmp ps ≡ true → ((p : Process) → find nat_cmp k ps ≢ Some (live p)) → all_of g (others k ps) ≡ all_of g ps
  all_of-others [] k sorted gone = refl
  all_of-others ((n, r) ∷ ps) k sorted gone =
      by (n == k) refl r refl (all_of-others ps k (and_parts (below_all nat_cmp n ps) _ sorted).1 (λ p found. gone p (find_number_after k (live p) (n, r) ps sorted found)))
    where
      by : (b : Bool) → (n == k) ≡ b → (q : ProcessRecord) → r ≡ q → all_of g (others k ps) ≡ all_of g ps
          → all_of g (cond (not b) ((n, q) ∷ others k ps) (others k ps)) ≡ all_of g ((n, q) ∷ ps)
      by true same (live p) is rest =
          absurd (gone p
          (ap (λ j. find nat_cmp j ((n, r) ∷ ps)) (sym (eqb-true n k same)) ∙ ap (λ o. cond (is_eq o) (Some r) (find nat_cmp n ps)) (number-itself n) ∙ ap Some is))
      by true same (ended_record parent status) is rest = rest
      by false other (live p) is rest = ap (λ ns. g p ++ ns) rest
      by false other (ended_record parent status) is rest = rest

pub value_of : {a b : ℕ} {x y : Effect} → done a x ≡ done b y → x ≡ y
value_of {a} {b} {x} {y} is = cc is

module _ (s after : State) (pid : ℕ) (me : Process) (sorted : is_sorted nat_cmp s.processes ≡ true) where
  -- the cases of a wait: no child, no ended child, an ended child
  reap-cases : (P : Type 0) (found : Reap) → wait s pid me ≡ waited found after
      → (found ≡ NoChild → P) → (found ≡ Blocked → after ≡ s → P)
      → ((k status : ℕ) (rs : List (ℕ × ℕ)) → statuses (children s pid me) ≡ (k, status) ∷ rs → after ≡ record s { processes = others k s.processes } → P) → P
  reap-cases P found is none blocked child = by found (is_empty (children s pid me)) (statuses (children s pid me)) refl is none blocked
    where
      by : (found : Reap) (b : Bool) (ss : List (ℕ × ℕ)) → statuses (children s pid me) ≡ ss → (refuse_if ECHILD b >> reap s pid me ss) ≡ waited found after
          → (found ≡ NoChild → P) → (found ≡ Blocked → after ≡ s → P) → P
      by NoChild b ss are is none blocked = none refl
      by Blocked true ss are is none blocked = cc
      by Blocked false [] are is none blocked = blocked refl (sym (ap (λ (e : Effect). e.0) (value_of is)))
      by Blocked false ((k, status) ∷ rs) are is none blocked = let pair = value_of is in let reply = ap (λ (e : Effect). e.1) pair in cc reply
      by (Child number status) true ss are is none blocked = cc
      by (Child number status) false [] are is none blocked = let pair = value_of is in let reply = ap (λ (e : Effect). e.1) pair in cc reply
      by (Child number status) false ((k, other) ∷ rs) are is none blocked = child k other rs are (sym (ap (λ (e : Effect). e.0) (value_of is)))

  -- without an ended child nothing changes
  pub reap-blocked : (found : Reap) → wait s pid me ≡ waited found after → found ≡ Blocked → after ≡ s
  reap-blocked found is none = by (is_empty (children s pid me)) (statuses (children s pid me)) (is ∙ ap (λ r. waited r after) none)
    where
      by : (b : Bool) (ss : List (ℕ × ℕ)) → (refuse_if ECHILD b >> reap s pid me ss) ≡ waited Blocked after → after ≡ s
      by true ss is = cc
      by false [] is = sym (ap (λ (e : Effect). e.0) (value_of is))
      by false ((k, status) ∷ rs) is = let pair = value_of is in let reply = ap (λ (e : Effect). e.1) pair in cc reply

  -- the users and references stay the same
  pub reap-same : (g : Process → List ℕ) (found : Reap) → wait s pid me ≡ waited found after → (found ≡ NoChild → after ≡ s) → all_of g after.processes ≡ all_of g s.processes
  reap-same g found is unchanged =
      reap-cases (all_of g after.processes ≡ all_of g s.processes) found is (λ none. ap (λ x. all_of g x.processes) (unchanged none)) (λ none same. ap (λ x. all_of g x.processes) same)
      (λ k status rs are same.
      ap (λ x. all_of g x.processes) same
      ∙ all_of-others g s.processes k sorted (λ p lives. let ended = first-ended s.processes (λ r. parent_of r.1 == pid) sorted k status rs are in let two = sym lives ∙ ended.1 in cc))

-- if the state after a wait is collected, the result of the wait is collected
pub collected_attempt-waited : (found : Reap) (after : State) → collect after ≡ after → collected_attempt (waited found after) ≡ waited found after
collected_attempt-waited found after is = by found
  where
    by : (found : Reap) → collected_attempt (waited found after) ≡ waited found after
    by (Child number status) = ap (λ s. waited (Child number status) s) is
    by Blocked = ap (λ s. waited Blocked s) is
    by NoChild = refl
