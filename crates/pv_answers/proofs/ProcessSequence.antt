-- Processes in the order of their numbers, from one to the next.
use Rattle.std.proofs.Common.{◌≡◌, ℕ, ◌<◌, ◌≤◌, true, false, cond, nat_lt, List, [], ◌∷◌, filter, length, None, Some, option_map, refl, ap, sym, subst, ◌∙◌, arith}
use Rattle.std.specs.Prelude.{find as first_where, ◌&&◌, nat_le}
use Rattle.std.specs.Cmp.{unsigned_ties}
use Rattle.std.specs.FinMap.Entries.{find, is_sorted, below_all}
use Rattle.std.specs.List.{list_all}
use Rattle.std.specs.Ordering.{nat_cmp, is_lt}
use Rattle.std.proofs.lemmas.Bool.{and_parts, eq-eqb, ne_eqb, le-ltb, lt-ltb, ltb-true, ltb-false, leb-true}
use Rattle.pv_model.specs.Machine.{ProcessRecord}
use Rattle.pv_calls_state.specs.OfProcs.ProcessTable.{number_after}
use Rattle.pv_calls_state.proofs.OfProcs.ForkedSlots.{number-less}

abbrev pub Recorded : Type 0
Recorded = ℕ × ProcessRecord

-- the processes with greater numbers
abbrev pub records_after : ℕ → List Recorded → List Recorded
records_after last rs = filter (λ (r : Recorded). nat_lt last r.0) rs

preserved : (last : ℕ) (e : Recorded) (es : List Recorded) → last < e.0 → records_after last (e ∷ es) ≡ e ∷ records_after last es
preserved last e es more = ap (λ b. cond b (e ∷ records_after last es) (records_after last es)) (lt-ltb last e.0 more)

left_out : (last : ℕ) (e : Recorded) (es : List Recorded) → e.0 ≤ last → records_after last (e ∷ es) ≡ records_after last es
left_out last e es few = ap (λ b. cond b (e ∷ records_after last es) (records_after last es)) (le-ltb last e.0 few)

-- if all numbers are above a number, all processes follow it
all_above : (last x : ℕ) (es : List Recorded) → last ≤ x → below_all nat_cmp x es ≡ true → records_after last es ≡ es
all_above last x [] few below = refl
all_above last x (e ∷ es) few below =
    let parts = and_parts (is_lt (nat_cmp x e.0)) (below_all nat_cmp x es) below in
    let more = number-less x e.0 parts.0 in preserved last e es (omega arith) ∙ ap (λ (rs : List Recorded). e ∷ rs) (all_above last x es few parts.1)

-- the process with the next number, and those after it
pub record IsNextRecord (last pid : ℕ) (rs : List Recorded) : Type 0 where
  pub entry : ProcessRecord
  pub first : records_after last rs ≡ (pid, entry) ∷ records_after pid rs
  pub found : find nat_cmp pid rs ≡ Some entry
  pub more : last < pid

first_here : (last : ℕ) (e : Recorded) (es : List Recorded) → last < e.0 → below_all nat_cmp e.0 es ≡ true → IsNextRecord last e.0 (e ∷ es)
first_here last e es more below = record {
  entry = e.1;
  first =
      preserved last e es more ∙ ap (λ (rs : List Recorded). e ∷ rs) (all_above last e.0 es (omega arith) below ∙ sym (all_above e.0 e.0 es (omega arith) below) ∙ sym (left_out e.0 e es (omega arith)));
  found = ap (λ b. cond b (Some e.1) (find nat_cmp e.0 es)) (sym (unsigned_ties e.0 e.0) ∙ eq-eqb e.0 e.0 refl);
  more = more;
}

first_later : (last pid : ℕ) (e : Recorded) (es : List Recorded) → e.0 ≤ last → IsNextRecord last pid es → IsNextRecord last pid (e ∷ es)
first_later last pid e es few next =
    let more = next.more in
    record {
      entry = next.entry;
      first = left_out last e es few ∙ next.first ∙ ap (λ (rs : List Recorded). (pid, next.entry) ∷ rs) (sym (left_out pid e es (omega arith)));
      found = ap (λ b. cond b (Some e.1) (find nat_cmp pid es)) (sym (unsigned_ties pid e.0) ∙ ne_eqb pid e.0 (λ same. absurd (omega (arith, same)))) ∙ next.found;
      more = more;
    }

pub next-record : (last pid : ℕ) (rs : List Recorded) → is_sorted nat_cmp rs ≡ true → number_after last rs ≡ Some pid → IsNextRecord last pid rs
next-record last pid [] sorted is = cc is
next-record last pid (e ∷ es) sorted is =
    let parts = and_parts (below_all nat_cmp e.0 es) (is_sorted nat_cmp es) sorted in
    elim (nat_lt last e.0) as (λ b. nat_lt last e.0 ≡ b → option_map (λ (r : Recorded). r.0) (cond b (Some e) (first_where (λ (r : Recorded). nat_lt last r.0) es)) ≡ Some pid → IsNextRecord last pid (e ∷ es)) [
      | true ↦ λ more here. let same : e.0 ≡ pid = cc here in subst (λ n. IsNextRecord last n (e ∷ es)) same (first_here last e es (ltb-true last e.0 more) parts.0)
      | false ↦ λ few there. first_later last pid e es (ltb-false last e.0 few) (next-record last pid es parts.1 there)
    ] refl is

pub none-after : (last : ℕ) (rs : List Recorded) → number_after last rs ≡ None → records_after last rs ≡ []
none-after last [] is = refl
none-after last (e ∷ es) is =
    elim (nat_lt last e.0) as (λ b. nat_lt last e.0 ≡ b → option_map (λ (r : Recorded). r.0) (cond b (Some e) (first_where (λ (r : Recorded). nat_lt last r.0) es)) ≡ None
    → cond b (e ∷ records_after last es) (records_after last es) ≡ []) [
      | true ↦ λ more here. cc here
      | false ↦ λ few there. none-after last es there
    ] refl is

-- all processes follow number 0
pub all-after : (last : ℕ) (rs : List Recorded) → list_all (λ r. nat_le 1 r.0 && nat_le r.0 last) rs ≡ true → records_after 0 rs ≡ rs
all-after last [] all = refl
all-after last (e ∷ es) all =
    let parts = and_parts (nat_le 1 e.0 && nat_le e.0 last) (list_all (λ (r : Recorded). nat_le 1 r.0 && nat_le r.0 last) es) all in
    let least = leb-true 1 e.0 (and_parts (nat_le 1 e.0) (nat_le e.0 last) parts.0).0 in
    preserved 0 e es (omega arith) ∙ ap (λ (rs : List Recorded). e ∷ rs) (all-after last es parts.1)

-- fewer processes follow the next one
pub fewer-after : (last pid : ℕ) (rs : List Recorded) → IsNextRecord last pid rs → length (records_after pid rs) < length (records_after last rs)
fewer-after last pid rs next = let long = ap length next.first in omega (arith, long)
