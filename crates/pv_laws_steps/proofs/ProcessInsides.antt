-- Lists of processes in which all processes but one take their insides from another list.
use Rattle.std.proofs.Common.{◌≡◌, ◌≢◌, ℕ, Bool, true, false, cond, ◌==◌, if◌then◌else◌, List, [], ◌∷◌, map, None, Some, refl, ap, ap₂, sym, ◌∙◌}
use Rattle.std.specs.Cmp.{unsigned_ties}
use Rattle.std.specs.FinMap.Entries.{find, below_all}
use Rattle.std.specs.Ordering.{nat_cmp, is_eq, is_lt, eq_by_cmp}
use Rattle.std.specs.declared.cmp.Ordering.{Ordering}
use Rattle.std.specs.declared.cmp.Ordering.TheVariants.{Less, Equal, Greater}
use Rattle.std.proofs.lemmas.Bool.{and_parts, eqb-true, ne_eqb}
use Rattle.pv_model.specs.Machine.{Process, ProcessRecord, live, ended_record, State, live_process}
use Rattle.pv_laws_steps.specs.Beside.{change_live, change_at, with_change, become}
use Rattle.pv_laws_steps.specs.Seen.{with_inside}

abbrev pub inside_in : ℕ → List (ℕ × ProcessRecord) → ℕ × ProcessRecord → ℕ × ProcessRecord
inside_in pid ts r = (r.0, if r.0 == pid then r.1 else with_inside (live_process (find nat_cmp r.0 ts)) r.1)

abbrev pub insides : ℕ → List (ℕ × ProcessRecord) → State → State
insides pid ts u = record u { processes = map (inside_in pid ts) u.processes }

map-along : {X : Type 0} (f g h : X → X) → ((x : X) → h x ≡ f (g x)) → (xs : List X) → map h xs ≡ map f (map g xs)
map-along f g h is [] = refl
map-along f g h is (x ∷ xs) = ap₂ (λ y ys. y ∷ ys) (is x) (map-along f g h is xs)

-- the other list provides no inside
pub inside-none : (pid : ℕ) (es : List (ℕ × ProcessRecord)) → map (inside_in pid []) es ≡ es
inside-none pid [] = refl
inside-none pid (e ∷ es) = ap₂ (λ (x : ℕ × ProcessRecord) xs. x ∷ xs) (ap (λ r. (e.0, r)) (by (e.0 == pid))) (inside-none pid es)
  where
    by : (b : Bool) → (if b then e.1 else e.1) ≡ e.1
    by true = refl
    by false = refl

-- in a sorted table, the first number does not occur again
pub free-after : (k : ℕ) (ts : List (ℕ × ProcessRecord)) → below_all nat_cmp k ts ≡ true → find nat_cmp k ts ≡ None
free-after k [] below = refl
free-after k (e ∷ ts) below =
    let parts = and_parts (is_lt (nat_cmp k e.0)) (below_all nat_cmp k ts) below in
    ap (λ b. cond b (Some e.1) (find nat_cmp k ts)) (by (nat_cmp k e.0) parts.0) ∙ free-after k ts parts.1
  where
    by : (o : Ordering) → is_lt o ≡ true → is_eq o ≡ false
    by Less is = refl
    by Equal is = cc is
    by Greater is = refl

module _ (pid k : ℕ) (ts : List (ℕ × ProcessRecord)) where
  -- the process itself takes none
  own-inside : (v : ProcessRecord) → k ≡ pid → (e : ℕ × ProcessRecord) → inside_in pid ((k, v) ∷ ts) e ≡ inside_in pid ts e
  own-inside v is e = ap (λ r. (e.0, r)) (by (e.0 == pid) refl)
    where
      by : (b : Bool) → (e.0 == pid) ≡ b
          → (if b then e.1 else with_inside (live_process (cond (eq_by_cmp nat_cmp e.0 k) (Some v) (find nat_cmp e.0 ts))) e.1) ≡ (if b then e.1 else with_inside (live_process (find nat_cmp e.0 ts)) e.1)
      by true same = refl
      by false away =
          let other : (e.0 == k) ≡ false = ap (λ n. e.0 == n) is ∙ away in
          ap (λ c. with_inside (live_process (cond c (Some v) (find nat_cmp e.0 ts))) e.1) (sym (unsigned_ties e.0 k) ∙ other)

  -- an ended process provides none
  ended-inside : (parent status : ℕ) → find nat_cmp k ts ≡ None → (e : ℕ × ProcessRecord) → inside_in pid ((k, ended_record parent status) ∷ ts) e ≡ inside_in pid ts e
  ended-inside parent status free e =
      ap (λ o. (e.0, if e.0 == pid then e.1 else with_inside o e.1)) (ap (λ c. live_process (cond c (Some (ended_record parent status)) (find nat_cmp e.0 ts))) (sym (unsigned_ties e.0 k)) ∙ by (e.0 == k) refl)
    where
      by : (b : Bool) → (e.0 == k) ≡ b → live_process (cond b (Some (ended_record parent status)) (find nat_cmp e.0 ts)) ≡ live_process (find nat_cmp e.0 ts)
      by true same = sym (ap (λ n. live_process (find nat_cmp n ts)) (eqb-true e.0 k same) ∙ ap live_process free)
      by false away = refl

  -- a live process provides its own
  live-inside : (q : Process) → find nat_cmp k ts ≡ None → k ≢ pid → (e : ℕ × ProcessRecord) → inside_in pid ((k, live q) ∷ ts) e ≡ inside_in pid ts (change_at k (become q) e)
  live-inside q free other e = ap (λ r. (e.0, r)) (by (e.0 == pid) refl)
    where
      of : (b : Bool) → (e.0 == k) ≡ b
          → with_inside (live_process (cond b (Some (live q)) (find nat_cmp e.0 ts))) e.1 ≡ with_inside (live_process (find nat_cmp e.0 ts)) (if b then change_live (become q) e.1 else e.1)
      of true same = ap (λ o. with_inside (live_process o) (change_live (become q) e.1)) (sym (ap (λ n. find nat_cmp n ts) (eqb-true e.0 k same) ∙ free))
      of false away = refl

      by : (b : Bool) → (e.0 == pid) ≡ b
          → (if b then e.1 else with_inside (live_process (cond (eq_by_cmp nat_cmp e.0 k) (Some (live q)) (find nat_cmp e.0 ts))) e.1)
          ≡ (if b then (if e.0 == k then change_live (become q) e.1 else e.1) else with_inside (live_process (find nat_cmp e.0 ts)) (if e.0 == k then change_live (become q) e.1 else e.1))
      by true same = ap (λ b. if b then change_live (become q) e.1 else e.1) (sym (ne_eqb e.0 k (λ is. other (sym is ∙ eqb-true e.0 pid same))))
      by false away = ap (λ c. with_inside (live_process (cond c (Some (live q)) (find nat_cmp e.0 ts))) e.1) (sym (unsigned_ties e.0 k)) ∙ of (e.0 == k) refl

  -- so the insides are taken one by one
  pub own-insides : (v : ProcessRecord) → k ≡ pid → (u : State) → insides pid ((k, v) ∷ ts) u ≡ insides pid ts u
  own-insides v is u = λ i. record u { processes = map (λ e. own-inside v is e i) u.processes }

  pub ended-insides : (parent status : ℕ) → find nat_cmp k ts ≡ None → (u : State) → insides pid ((k, ended_record parent status) ∷ ts) u ≡ insides pid ts u
  ended-insides parent status free u = λ i. record u { processes = map (λ e. ended-inside parent status free e i) u.processes }

  pub live-insides : (q : Process) → find nat_cmp k ts ≡ None → k ≢ pid → (u : State) → insides pid ((k, live q) ∷ ts) u ≡ insides pid ts (with_change u k (become q))
  live-insides q free other u =
      ap (λ ps. record u { processes = ps }) (map-along (inside_in pid ts) (change_at k (become q)) (inside_in pid ((k, live q) ∷ ts)) (live-inside q free other) u.processes)
