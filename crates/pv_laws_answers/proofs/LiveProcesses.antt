-- The live processes of a state, by ascending number.
use Rattle.std.proofs.Common.{◌≡◌, sym, ap, subst, ℕ, suc, ◌≤◌, true, cond, List, [], ◌∷◌, map, Option, Some, inl, inr, refl, arith}
use Rattle.std.specs.Ordering.{nat_cmp, is_eq, is_lt}
use Rattle.std.specs.FinMap.Entries.{find, is_sorted, below_all}
use Rattle.std.specs.List.{AllByRecursion}
use Rattle.std.proofs.lemmas.Bool.{and_parts}
use Rattle.std.specs.Cmp.{nat_cmp_is}
use Rattle.pv_model.specs.Machine.{Found, move, moves_of, Bytes, live_processes, Program, Process, ProcessRecord, live, ended_record, State, live_process, process_at}
use Rattle.pv_laws_states.proofs.ReferenceMembers.{find_number_after, find_number_cases, live-found}
use Rattle.pv_laws_states.proofs.Processes.{number-itself}
use Rattle.pv_laws_answers.proofs.Lists.{Among}
use Rattle.pv_laws_answers.proofs.SearchInvariant.{Ascending}

-- a listed process is live
listed-found : (pid : ℕ) (p : Process) (rs : List (ℕ × ProcessRecord)) → is_sorted nat_cmp rs ≡ true → Among (pid, p) (live_processes rs) → find nat_cmp pid rs ≡ Some (live p)
listed-found pid p [] sorted h = absurd h
listed-found pid p ((k, live q) ∷ rs) sorted (inl h) =
    subst (λ (e : ℕ × Process). find nat_cmp e.0 ((k, live q) ∷ rs) ≡ Some (live e.1)) (sym h) (ap (λ o. cond (is_eq o) (Some (live q)) (find nat_cmp k rs)) (number-itself k))
listed-found pid p ((k, live q) ∷ rs) sorted (inr h) =
    find_number_after pid (live p) (k, live q) rs sorted (listed-found pid p rs (and_parts (below_all nat_cmp k rs) (is_sorted nat_cmp rs) sorted).1 h)
listed-found pid p ((k, ended_record parent status) ∷ rs) sorted h =
    find_number_after pid (live p) (k, ended_record parent status) rs sorted (listed-found pid p rs (and_parts (below_all nat_cmp k rs) (is_sorted nat_cmp rs) sorted).1 h)

pub listed-live : (s : State) (pid : ℕ) (p : Process) → is_sorted nat_cmp s.processes ≡ true → Among (pid, p) (live_processes s.processes) → process_at s pid ≡ Some p
listed-live s pid p sorted h = ap live_process (listed-found pid p s.processes sorted h)

-- a live process is listed
found-listed : (pid : ℕ) (p : Process) (rs : List (ℕ × ProcessRecord)) → find nat_cmp pid rs ≡ Some (live p) → Among (pid, p) (live_processes rs)
found-listed pid p [] is = cc
found-listed pid p ((k, live q) ∷ rs) is =
    find_number_cases (Among (pid, p) ((k, q) ∷ live_processes rs)) pid (live p) (k, live q) rs is
    (λ same value. inl (let e : q ≡ p = cc in same-pair same (sym e))) (λ there. inr (found-listed pid p rs there))
  where
    same-pair : {a b : ℕ} {x y : Process} → a ≡ b → x ≡ y → ◌≡◌ {A = ℕ × Process} (a, x) (b, y)
    same-pair e h = λ i. (e i, h i)
found-listed pid p ((k, ended_record parent status) ∷ rs) is =
    find_number_cases (Among (pid, p) (live_processes rs)) pid (live p) (k, ended_record parent status) rs is (λ same value. cc) (λ there. found-listed pid p rs there)

pub live-listed : (s : State) (pid : ℕ) (p : Process) → process_at s pid ≡ Some p → Among (pid, p) (live_processes s.processes)
live-listed s pid p is = found-listed pid p s.processes (live-found s pid p is)

-- ---- their order

AllFrom : ℕ → List (ℕ × ProcessRecord) → Type 0
AllFrom low rs = AllByRecursion (λ r. low ≤ r.0) rs

all-from : (k : ℕ) (rs : List (ℕ × ProcessRecord)) → below_all nat_cmp k rs ≡ true → AllFrom (suc k) rs
unfolding AllFrom
all-from k [] below = tt
all-from k (r ∷ rs) below =
    let parts = and_parts (is_lt (nat_cmp k r.0)) (below_all nat_cmp k rs) below in
    (grind (arith, nat_cmp_is, parts.0), all-from k rs parts.1)

module _ (program_of : Bytes → Option Program) (f : Found) where
  ascending : (low : ℕ) (rs : List (ℕ × ProcessRecord)) → is_sorted nat_cmp rs ≡ true → AllFrom low rs → Ascending f.witness low (map (λ p. move program_of f p.0) (live_processes rs))
  unfolding AllFrom
  ascending low [] sorted from = tt
  ascending low ((k, live q) ∷ rs) sorted from =
      let parts = and_parts (below_all nat_cmp k rs) (is_sorted nat_cmp rs) sorted in
      (refl, from.0, ascending (suc k) rs parts.1 (all-from k rs parts.0))
  ascending low ((k, ended_record parent status) ∷ rs) sorted from =
      ascending low rs (and_parts (below_all nat_cmp k rs) (is_sorted nat_cmp rs) sorted).1 from.1

  from-zero : (rs : List (ℕ × ProcessRecord)) → AllFrom 0 rs
  unfolding AllFrom
  from-zero [] = tt
  from-zero (r ∷ rs) = (omega arith, from-zero rs)

  -- the steps from a state are in ascending order of process numbers
  pub moves-ascending : is_sorted nat_cmp f.state.processes ≡ true → Ascending f.witness 0 (moves_of program_of f)
  moves-ascending sorted = ascending 0 f.state.processes sorted (from-zero f.state.processes)
