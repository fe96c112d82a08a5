-- The processes of a state.
use Rattle.std.proofs.Common.{◌≡◌, ◌≢◌, ℕ, cond, List, [], ◌∷◌, Option, None, Some, refl, ap, ◌∙◌, sym}
use Rattle.std.specs.Cmp.{tied_itself, unsigned_ties}
use Rattle.std.specs.Ordering.{nat_cmp, is_eq}
use Rattle.std.specs.FinMap.Entries.{by_order, find, put, find-put}
use Rattle.std.specs.declared.cmp.Ordering.{Ordering}
use Rattle.std.specs.declared.cmp.Ordering.TheVariants.{Less, Equal, Greater}
use Rattle.std.proofs.lemmas.Bool.{ne_eqb}
use Rattle.std.proofs.lemmas.Cmp.{nat_cmp_total}
use Rattle.pv_model.specs.Machine.{update_live, update, Process, live, State, live_process, process_at, with_process}

pub number-itself : (k : ℕ) → nat_cmp k k ≡ Equal
number-itself k = tied_itself nat_cmp_total k

-- ---- lookups after a change

pub find-put_same : {X : Type 0} (k : ℕ) (v : X) (es : List (ℕ × X)) → find nat_cmp k (put nat_cmp k v es) ≡ Some v
find-put_same k v es = find-put nat_cmp nat_cmp_total k k v es ∙ ap (λ o. cond (is_eq o) (Some v) (find nat_cmp k es)) (number-itself k)

pub find-put_other : {X : Type 0} (q k : ℕ) (v : X) (es : List (ℕ × X)) → q ≢ k → find nat_cmp q (put nat_cmp k v es) ≡ find nat_cmp q es
find-put_other q k v es other =
    find-put nat_cmp nat_cmp_total q k v es ∙ ap (λ b. cond b (Some v) (find nat_cmp q es)) (sym (unsigned_ties q k) ∙ ne_eqb q k other)

by : {X : Type 0} (k : ℕ) (v w : X) (e : ℕ × X) (es : List (ℕ × X)) → put nat_cmp k w (put nat_cmp k v es) ≡ put nat_cmp k w es
    → (o : Ordering) → nat_cmp k e.0 ≡ o
    → put nat_cmp k w (by_order o ((k, v) ∷ e ∷ es) ((e.0, v) ∷ es) (e ∷ put nat_cmp k v es)) ≡ by_order o ((k, w) ∷ e ∷ es) ((e.0, w) ∷ es) (e ∷ put nat_cmp k w es)
by k v w e es rest Less is = ap (λ o. by_order o ((k, w) ∷ (k, v) ∷ e ∷ es) ((k, w) ∷ e ∷ es) ((k, v) ∷ put nat_cmp k w (e ∷ es))) (number-itself k)
by k v w e es rest Equal is = ap (λ o. by_order o ((k, w) ∷ (e.0, v) ∷ es) ((e.0, w) ∷ es) ((e.0, v) ∷ put nat_cmp k w es)) is
by k v w e es rest Greater is =
    ap (λ o. by_order o ((k, w) ∷ e ∷ put nat_cmp k v es) ((e.0, w) ∷ put nat_cmp k v es) (e ∷ put nat_cmp k w (put nat_cmp k v es))) is ∙ ap (λ fs. e ∷ fs) rest

-- the later of two updates prevails
pub put-put : {X : Type 0} (k : ℕ) (v w : X) (es : List (ℕ × X)) → put nat_cmp k w (put nat_cmp k v es) ≡ put nat_cmp k w es
put-put k v w [] = ap (λ o. by_order o ((k, w) ∷ (k, v) ∷ []) ((k, w) ∷ []) ((k, v) ∷ (k, w) ∷ [])) (number-itself k)
put-put k v w (e ∷ es) = by k v w e es (put-put k v w es) (nat_cmp k e.0) refl

-- ---- processes

pub process_at-same : (s : State) (pid : ℕ) (p : Process) → process_at (with_process s pid p) pid ≡ Some p
process_at-same s pid p = ap live_process (find-put_same pid (live p) s.processes)

pub process_at-other : (s : State) (pid : ℕ) (p : Process) (q : ℕ) → q ≢ pid → process_at (with_process s pid p) q ≡ process_at s q
process_at-other s pid p q other = ap live_process (find-put_other q pid (live p) s.processes other)

pub with_process-twice : (s : State) (pid : ℕ) (p q : Process) → with_process (with_process s pid p) pid q ≡ with_process s pid q
with_process-twice s pid p q = ap (λ ps. record s { processes = ps }) (put-put pid (live p) (live q) s.processes)

pub update-is : (s : State) (pid : ℕ) (f : Process → Process) (p : Process) → process_at s pid ≡ Some p → update s pid f ≡ with_process s pid (f p)
update-is s pid f p is = ap (update_live s pid f) is

pub update-with : (s : State) (pid : ℕ) (f : Process → Process) (p : Process) → update (with_process s pid p) pid f ≡ with_process s pid (f p)
update-with s pid f p = update-is (with_process s pid p) pid f p (process_at-same s pid p) ∙ with_process-twice s pid p (f p)

-- the parts of a state that a change of a process leaves unchanged

module _ {X : Type 0} (part : State → X) (s : State) (pid : ℕ) (f : Process → Process) (stays : (p : Process) → part (with_process s pid p) ≡ part s) where
  part-update : part (update s pid f) ≡ part s
  part-update = by' (process_at s pid)
    where
      by' : (o : Option Process) → part (update_live s pid f o) ≡ part s
      by' None = refl
      by' (Some p) = stays (f p)

pub tree-update : (s : State) (pid : ℕ) (f : Process → Process) → (update s pid f).tree ≡ s.tree
tree-update s pid f = part-update (λ x. x.tree) s pid f (λ p. refl)

pub files-update : (s : State) (pid : ℕ) (f : Process → Process) → (update s pid f).files ≡ s.files
files-update s pid f = part-update (λ x. x.files) s pid f (λ p. refl)

pub last_process-update : (s : State) (pid : ℕ) (f : Process → Process) → (update s pid f).last_process ≡ s.last_process
last_process-update s pid f = part-update (λ x. x.last_process) s pid f (λ p. refl)
