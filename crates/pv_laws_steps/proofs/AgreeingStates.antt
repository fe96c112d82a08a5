-- States that agree in the part on which a step depends.
use Rattle.std.proofs.Common.{◌≡◌, ◌≢◌, ℕ, Bool, true, false, cond, ◌==◌, if◌then◌else◌, List, [], ◌∷◌, map, Option, None, Some, option_map, refl, ap, ap₂, sym, ◌∙◌}
use Rattle.std.specs.Cmp.{unsigned_ties}
use Rattle.std.specs.FinMap.Entries.{find, is_sorted, below_all}
use Rattle.std.specs.Ordering.{nat_cmp, is_eq, eq_by_cmp}
use Rattle.std.proofs.lemmas.Bool.{and_parts, eqb-true, ne_eqb}
use Rattle.pv_model.specs.Machine.{Process, ProcessRecord, live, ended_record, State, live_process, process_at}
use Rattle.pv_laws_states.proofs.ReferenceMembers.{find_number_after, live-found}
use Rattle.pv_laws_states.proofs.Processes.{number-itself}
use Rattle.pv_laws_steps.specs.Beside.{with_change, HasSameReferences}
use Rattle.pv_laws_steps.proofs.ChangedProcess.{KeepsParent, changed, Fits}
use Rattle.pv_laws_steps.specs.Seen.{SeenRecord, own_record, live_other, seen_other, seen_record, seen, with_inside}
use Rattle.pv_laws_steps.proofs.ProcessInsides.{inside_in}

-- ---- another process in both states

abbrev seen_at : ℕ → ℕ → ProcessRecord → SeenRecord
seen_at pid j r = if j == pid then own_record r else seen_other r

find-seen : (pid j : ℕ) (es : List (ℕ × ProcessRecord)) → find nat_cmp j (map (seen_record pid) es) ≡ option_map (seen_at pid j) (find nat_cmp j es)
find-seen pid j [] = refl
find-seen pid j (e ∷ es) = by (eq_by_cmp nat_cmp j e.0) refl (find-seen pid j es)
  where
    by : (b : Bool) → eq_by_cmp nat_cmp j e.0 ≡ b → find nat_cmp j (map (seen_record pid) es) ≡ option_map (seen_at pid j) (find nat_cmp j es)
        → cond b (Some (seen_at pid e.0 e.1)) (find nat_cmp j (map (seen_record pid) es)) ≡ option_map (seen_at pid j) (cond b (Some e.1) (find nat_cmp j es))
    by true tied rest = let same : j ≡ e.0 = eqb-true j e.0 (unsigned_ties j e.0 ∙ tied) in ap (λ n. Some (seen_at pid n e.1)) (sym same)
    by false apart rest = rest

-- it is live in both, with the same parent and references
pub record IsLiveAlike (s : State) (k : ℕ) (q : Process) : Type 0 where
  pub process : Process
  pub at : process_at s k ≡ Some process
  pub parent : process.parent ≡ q.parent
  pub appears : HasSameReferences process q

pub live-alike : (s t : State) (pid k : ℕ) (q : Process) → seen pid s ≡ seen pid t → k ≢ pid → process_at t k ≡ Some q → IsLiveAlike s k q
live-alike s t pid k q alike other at = by (find nat_cmp k s.processes) refl both
  where
    both : option_map (seen_at pid k) (find nat_cmp k s.processes) ≡ Some (seen_other (live q))
    both =
        sym (find-seen pid k s.processes) ∙ ap (λ x. find nat_cmp k x.records) alike ∙ find-seen pid k t.processes ∙ ap (option_map (seen_at pid k)) (live-found t k q at)
        ∙ ap (λ b. Some (if b then own_record (live q) else seen_other (live q))) (ne_eqb k pid other)

    of : (r : ProcessRecord) → find nat_cmp k s.processes ≡ Some r → Some (seen_other r) ≡ Some (seen_other (live q)) → IsLiveAlike s k q
    of (live p) found is = record { process = p; at = ap live_process found; parent = cc is; appears = record { directory = sym (cc is); descriptors = sym (cc is); held = sym (cc is) } }
    of (ended_record parent status) found is = cc is

    by : (o : Option ProcessRecord) → find nat_cmp k s.processes ≡ o → option_map (seen_at pid k) o ≡ Some (seen_other (live q)) → IsLiveAlike s k q
    by None none is = cc is
    by (Some r) found is = of r found (sym (ap (λ b. Some (if b then own_record r else seen_other r)) (ne_eqb k pid other)) ∙ is)

-- ---- replacing the inside of a process preserves the agreement

seen-with : (pid k : ℕ) (f : Process → Process) → KeepsParent f → k ≢ pid → (es : List (ℕ × ProcessRecord)) → Fits k f es → map (seen_record pid) (changed k f es) ≡ map (seen_record pid) es
seen-with pid k f keeps other [] fit = refl
seen-with pid k f keeps other ((j, live p) ∷ es) fit = ap₂ (λ (x : ℕ × SeenRecord) xs. x ∷ xs) (ap (λ r. (j, r)) (by (j == k) refl)) (seen-with pid k f keeps other es fit.1)
  where
    as-seen : HasSameReferences p (f p) → seen_other (live (f p)) ≡ seen_other (live p)
    as-seen is = λ i. live_other (keeps.same p i) (is.directory i) (is.descriptors i) (is.held i)

    by : (b : Bool) → (j == k) ≡ b → seen_at pid j (if b then live (f p) else live p) ≡ seen_at pid j (live p)
    by true same =
        let here : j ≡ k = eqb-true j k same in
        let away : (j == pid) ≡ false = ne_eqb j pid (λ is. other (sym here ∙ is)) in
        ap (λ b. if b then own_record (live (f p)) else seen_other (live (f p))) away ∙ as-seen (fit.0 here) ∙ sym (ap (λ b. if b then own_record (live p) else seen_other (live p)) away)
    by false away = refl
seen-with pid k f keeps other ((j, ended_record parent status) ∷ es) fit =
    ap₂ (λ (x : ℕ × SeenRecord) xs. x ∷ xs) (ap (λ r. (j, seen_at pid j r)) (by (j == k))) (seen-with pid k f keeps other es fit)
  where
    by : (b : Bool) → (if b then ended_record parent status else ended_record parent status) ≡ ended_record parent status
    by true = refl
    by false = refl

pub seen-changed : (s : State) (pid k : ℕ) (f : Process → Process) → KeepsParent f → k ≢ pid → Fits k f s.processes → seen pid (with_change s k f) ≡ seen pid s
seen-changed s pid k f keeps other fit = ap (λ rs. record (seen pid s) { records = rs }) (seen-with pid k f keeps other s.processes fit)

-- ---- with the insides of all other processes replaced, the state is the other one

module _ (pid : ℕ) (ts : List (ℕ × ProcessRecord)) where
  -- the records are found in the whole table
  abbrev pub AreIn : List (ℕ × ProcessRecord) → Type 0
  AreIn gs = (k : ℕ) (v : ProcessRecord) → find nat_cmp k gs ≡ Some v → find nat_cmp k ts ≡ Some v

  inside-head : (j : ℕ) (r v : ProcessRecord) → find nat_cmp j ts ≡ Some v → seen_at pid j r ≡ seen_at pid j v → (if j == pid then r else with_inside (live_process (find nat_cmp j ts)) r) ≡ v
  inside-head j r v found alike = by (j == pid) alike
    where
      of : (r v : ProcessRecord) → seen_other r ≡ seen_other v → with_inside (live_process (Some v)) r ≡ v
      of (live p) (live q) is = let same : p.parent ≡ q.parent = cc is in ap (λ n. live (record q { parent = n })) same
      of (live p) (ended_record parent status) is = cc is
      of (ended_record parent status) (live q) is = cc is
      of (ended_record parent status) (ended_record parent' status') is = cc is

      by : (b : Bool) → (if b then own_record r else seen_other r) ≡ (if b then own_record v else seen_other v) → (if b then r else with_inside (live_process (find nat_cmp j ts)) r) ≡ v
      by true is = cc is
      by false is = ap (λ o. with_inside (live_process o) r) found ∙ of r v is

  inside-first : (e g : ℕ × ProcessRecord) → seen_record pid e ≡ seen_record pid g → find nat_cmp g.0 ts ≡ Some g.1 → inside_in pid ts e ≡ g
  inside-first e g head found =
      let same : e.0 ≡ g.0 = ap (λ x. x.0) head in
      let alike : seen_at pid g.0 e.1 ≡ seen_at pid g.0 g.1 = ap (λ n. seen_at pid n e.1) (sym same) ∙ ap (λ x. x.1) head in
      λ i. (same i, ((λ j. if same j == pid then e.1 else with_inside (live_process (find nat_cmp (same j) ts)) e.1) ∙ inside-head g.0 e.1 g.1 found alike) i)

  inside-all : (es gs : List (ℕ × ProcessRecord)) → is_sorted nat_cmp gs ≡ true → AreIn gs → map (seen_record pid) es ≡ map (seen_record pid) gs → map (inside_in pid ts) es ≡ gs
  inside-all [] [] sorted are alike = refl
  inside-all [] (g ∷ gs) sorted are alike = cc alike
  inside-all (e ∷ es) [] sorted are alike = cc alike
  inside-all (e ∷ es) (g ∷ gs) sorted are alike =
      ap₂ (λ (x : ℕ × ProcessRecord) xs. x ∷ xs)
      (inside-first e g (cc alike) (are g.0 g.1 (ap (λ o. cond (is_eq o) (Some g.1) (find nat_cmp g.0 gs)) (number-itself g.0))))
      (inside-all es gs (and_parts (below_all nat_cmp g.0 gs) (is_sorted nat_cmp gs) sorted).1 (λ k v is. are k v (find_number_after k v g gs sorted is)) (cc alike))

pub inside-valid : (pid : ℕ) (s t : State) → is_sorted nat_cmp t.processes ≡ true → seen pid s ≡ seen pid t → record s { processes = map (inside_in pid t.processes) s.processes } ≡ t
inside-valid pid s t sorted alike =
    let processes : map (inside_in pid t.processes) s.processes ≡ t.processes = inside-all pid t.processes s.processes t.processes sorted (λ k v is. is) (ap (λ x. x.records) alike) in
    λ i. record { tree = (alike i).tree; files = (alike i).files; processes = processes i; last_process = (alike i).last_process }
