-- Whether a wait would block does not depend on the line of its process.
use Rattle.std.proofs.Common.{◌≡◌, ◌∙◌, ap, sym, subst, refl, ℕ, ◌↔◌, Bool, true, false, cond, List, [], ◌∷◌, Some}
use Rattle.std.specs.Prelude.{filter, ◌==◌}
use Rattle.std.specs.FinMap.Entries.{by_order, find, put, is_sorted, below_all}
use Rattle.std.specs.Ordering.{nat_cmp, is_eq}
use Rattle.std.specs.declared.cmp.Ordering.{Ordering}
use Rattle.std.specs.declared.cmp.Ordering.TheVariants.{Less, Equal, Greater}
use Rattle.pv_model.specs.declared.errno.Errno.TheVariants.{ECHILD}
use Rattle.pv_model.specs.Machine.{at_next_line, give, refuse_if, ◌>>◌, is_empty, parent_of, children, statuses, reap, wait, Effect, waits, Process, ProcessRecord, live, ended_record, State, process_at, with_process}
use Rattle.std.proofs.lemmas.Bool.{and_parts}
use Rattle.pv_laws_states.proofs.ReferenceMembers.{live-found}
use Rattle.pv_laws_states.proofs.ProcessInsides.{not_before}
use Rattle.pv_audit.proofs.OfCallsState.ReapedChildren.{value_of}

-- two lists of processes agree on whether a test selects any, and on the statuses of the ended ones that it selects
abbrev SameChildren : (ℕ × ProcessRecord → Bool) → List (ℕ × ProcessRecord) → List (ℕ × ProcessRecord) → Type 0
SameChildren test xs ys = (is_empty (filter test xs) ≡ is_empty (filter test ys)) × (statuses (filter test xs) ≡ statuses (filter test ys))

module _ (parent : ℕ) where
  links : (e : ℕ × ProcessRecord) (xs ys : List (ℕ × ProcessRecord)) → SameChildren (λ r. parent_of r.1 == parent) xs ys → SameChildren (λ r. parent_of r.1 == parent) (e ∷ xs) (e ∷ ys)
  links (k, live p) xs ys same = by (p.parent == parent) same
    where
      by : (b : Bool) → SameChildren (λ r. parent_of r.1 == parent) xs ys
          → (is_empty (cond b ((k, live p) ∷ filter (λ r. parent_of r.1 == parent) xs) (filter (λ r. parent_of r.1 == parent) xs)) ≡ is_empty (cond b ((k, live p) ∷ filter (λ r. parent_of r.1 == parent) ys) (filter (λ r. parent_of r.1 == parent) ys)))
          × (statuses (cond b ((k, live p) ∷ filter (λ r. parent_of r.1 == parent) xs) (filter (λ r. parent_of r.1 == parent) xs)) ≡ statuses (cond b ((k, live p) ∷ filter (λ r. parent_of r.1 == parent) ys) (filter (λ r. parent_of r.1 == parent) ys)))
      by true s = (refl, s.1)
      by false s = s
  links (k, ended_record up status) xs ys same = by (up == parent) same
    where
      by : (b : Bool) → SameChildren (λ r. parent_of r.1 == parent) xs ys
          → (is_empty (cond b ((k, ended_record up status) ∷ filter (λ r. parent_of r.1 == parent) xs) (filter (λ r. parent_of r.1 == parent) xs)) ≡ is_empty (cond b ((k, ended_record up status) ∷ filter (λ r. parent_of r.1 == parent) ys) (filter (λ r. parent_of r.1 == parent) ys)))
          × (statuses (cond b ((k, ended_record up status) ∷ filter (λ r. parent_of r.1 == parent) xs) (filter (λ r. parent_of r.1 == parent) xs)) ≡ statuses (cond b ((k, ended_record up status) ∷ filter (λ r. parent_of r.1 == parent) ys) (filter (λ r. parent_of r.1 == parent) ys)))
      by true s = (refl, ap (λ ss. (k, status) ∷ ss) s.1)
      by false s = s

  put-children : (rs : List (ℕ × ProcessRecord)) (pid : ℕ) (p q : Process) → is_sorted nat_cmp rs ≡ true → find nat_cmp pid rs ≡ Some (live p) → q.parent ≡ p.parent
      → SameChildren (λ r. parent_of r.1 == parent) (put nat_cmp pid (live q) rs) rs
  put-children [] pid p q sorted found same = cc
  put-children (e ∷ rs) pid p q sorted found same = by (nat_cmp pid e.0) refl
      (λ there. put-children rs pid p q (and_parts (below_all nat_cmp e.0 rs) _ sorted).1 there same)
    where
      one : (b : Bool) → (is_empty (cond b ((e.0, live q) ∷ filter (λ r. parent_of r.1 == parent) rs) (filter (λ r. parent_of r.1 == parent) rs)) ≡ is_empty (cond b ((e.0, live p) ∷ filter (λ r. parent_of r.1 == parent) rs) (filter (λ r. parent_of r.1 == parent) rs)))
          × (statuses (cond b ((e.0, live q) ∷ filter (λ r. parent_of r.1 == parent) rs) (filter (λ r. parent_of r.1 == parent) rs)) ≡ statuses (cond b ((e.0, live p) ∷ filter (λ r. parent_of r.1 == parent) rs) (filter (λ r. parent_of r.1 == parent) rs)))
      one true = (refl, refl)
      one false = (refl, refl)

      head : (r : ProcessRecord) → r ≡ live p → SameChildren (λ r. parent_of r.1 == parent) ((e.0, live q) ∷ rs) ((e.0, r) ∷ rs)
      head r is =
          subst (λ x. SameChildren (λ r. parent_of r.1 == parent) ((e.0, live q) ∷ rs) ((e.0, x) ∷ rs)) (sym is)
          (subst (λ n.
          (is_empty (cond (n == parent) ((e.0, live q) ∷ filter (λ r. parent_of r.1 == parent) rs) (filter (λ r. parent_of r.1 == parent) rs)) ≡ is_empty (filter (λ r. parent_of r.1 == parent) ((e.0, live p) ∷ rs)))
          × (statuses (cond (n == parent) ((e.0, live q) ∷ filter (λ r. parent_of r.1 == parent) rs) (filter (λ r. parent_of r.1 == parent) rs)) ≡ statuses (filter (λ r. parent_of r.1 == parent) ((e.0, live p) ∷ rs)))) (sym same) (one (p.parent == parent)))

      by : (o : Ordering) → nat_cmp pid e.0 ≡ o → (find nat_cmp pid rs ≡ Some (live p) → SameChildren (λ r. parent_of r.1 == parent) (put nat_cmp pid (live q) rs) rs)
          → SameChildren (λ r. parent_of r.1 == parent) (by_order o ((pid, live q) ∷ e ∷ rs) ((e.0, live q) ∷ rs) (e ∷ put nat_cmp pid (live q) rs)) (e ∷ rs)
      by Less is rest = not_before pid (live p) e rs sorted is found
      by Equal is rest = head e.1 (cc (sym (ap (λ o. cond (is_eq o) (Some e.1) (find nat_cmp pid rs)) is) ∙ found))
      by Greater is rest = links e (put nat_cmp pid (live q) rs) rs (rest (sym (ap (λ o. cond (is_eq o) (Some e.1) (find nat_cmp pid rs)) is) ∙ found))

-- a wait blocks if and only if there are children and none has ended
abbrev waiting : Bool → List (ℕ × ℕ) → Bool
waiting true ss = false
waiting false [] = true
waiting false (e ∷ ss) = false

module _ (s : State) (pid : ℕ) (me : Process) where
  reported : (b : Bool) (ss : List (ℕ × ℕ)) → (refuse_if ECHILD b >> reap s pid me ss) ≡ give (s, waits) → waiting b ss ≡ true
  reported true ss is = cc
  reported false [] is = refl
  reported false ((k, status) ∷ ss) is = let reply = ap (λ (x : Effect). x.1) (value_of is) in cc reply

  reports : (b : Bool) (ss : List (ℕ × ℕ)) → waiting b ss ≡ true → (refuse_if ECHILD b >> reap s pid me ss) ≡ give (s, waits)
  reports true ss is = cc
  reports false [] is = refl
  reports false (e ∷ ss) is = cc

  waits-reported : wait s pid me ≡ give (s, waits) → waiting (is_empty (children s pid me)) (statuses (children s pid me)) ≡ true
  waits-reported = reported (is_empty (children s pid me)) (statuses (children s pid me))

  waits-reports : waiting (is_empty (children s pid me)) (statuses (children s pid me)) ≡ true → wait s pid me ≡ give (s, waits)
  waits-reports = reports (is_empty (children s pid me)) (statuses (children s pid me))

module _ (s : State) (pid : ℕ) (me : Process) (sorted : is_sorted nat_cmp s.processes ≡ true) (at : process_at s pid ≡ Some me) where
  -- the same wait would block from the next line
  pub waits-next : wait (with_process s pid (at_next_line me)) pid (at_next_line me) ≡ give (with_process s pid (at_next_line me), waits) ↔ (wait s pid me ≡ give (s, waits))
  waits-next =
      let t = with_process s pid (at_next_line me) in
      let same = put-children pid s.processes pid me (at_next_line me) sorted (live-found s pid me at) refl in
      let equal : waiting (is_empty (children t pid (at_next_line me))) (statuses (children t pid (at_next_line me))) ≡ waiting (is_empty (children s pid me)) (statuses (children s pid me)) =
      ap (λ b. waiting b (statuses (children t pid (at_next_line me)))) same.0 ∙ ap (waiting (is_empty (children s pid me))) same.1 in
      (λ is. waits-reports s pid me (sym equal ∙ waits-reported t pid (at_next_line me) is), λ is. waits-reports t pid (at_next_line me) (equal ∙ waits-reported s pid me is))
