-- The live processes of a state, by its cells.
use Rattle.std.proofs.Common.{◌≡◌, ◌≢◌, ◌∙◌, sym, ap, ℕ, Bool, true, if◌then◌else◌, nat_le, List, [], ◌∷◌, ◌++◌, map, refl}
use Rattle.std.specs.List.{list_all}
use Rattle.std.proofs.lemmas.Bool.{and_parts, ne_eqb}
use Rattle.pv_model.specs.Machine.{Bytes, live_processes, ProcessRecord, live, ended_record, State}
use Rattle.pv_laws_states.specs.States.{is_process_number, IsValid}
use Rattle.pv_state_encoding.specs.Encoded.{OwnedGroup, plain, encoded_record, tree_groups, encoded}
use Rattle.pv_step_cache.specs.declared.cells.Cell.{Cell}
use Rattle.pv_step_cache.specs.Edits.{cell_of, owners}

module _ (number : List Bytes → ℕ) where
  abbrev cells : List OwnedGroup → List Cell
  cells cs = map (cell_of number) cs

  owners-plains : (gs : List (List Bytes)) → owners (cells (map plain gs)) ≡ []
  owners-plains [] = refl
  owners-plains (g ∷ gs) = owners-plains gs

  one-up : (last pid : ℕ) → is_process_number last pid ≡ true → pid ≢ 0
  one-up last pid is none =
      let low : nat_le 1 0 ≡ true = ap (nat_le 1) (sym none) ∙ (and_parts (nat_le 1 pid) (nat_le pid last) is).0 in cc low

  owners-records : (last : ℕ) (rs : List (ℕ × ProcessRecord)) (gs : List (List Bytes)) → list_all (λ r. is_process_number last r.0) rs ≡ true
      → owners (cells (map encoded_record rs ++ map plain gs)) ≡ map (λ p. p.0) (live_processes rs)
  owners-records last [] gs all = owners-plains gs
  owners-records last ((pid, live p) ∷ rs) gs all =
      let parts = and_parts (is_process_number last pid) (list_all (λ r. is_process_number last r.0) rs) all in
      let rest : List ℕ = owners (cells (map encoded_record rs ++ map plain gs)) in
      ap (λ (b : Bool). if b then rest else pid ∷ rest) (ne_eqb pid 0 (one-up last pid parts.0)) ∙ ap (λ ns. pid ∷ ns) (owners-records last rs gs parts.1)
  owners-records last ((pid, ended_record parent status) ∷ rs) gs all =
      owners-records last rs gs (and_parts (is_process_number last pid) (list_all (λ r. is_process_number last r.0) rs) all).1

  pub owners-are : (s : State) → IsValid s → owners (cells (encoded s)) ≡ map (λ p. p.0) (live_processes s.processes)
  unfolding encoded
  owners-are s whole = owners-records s.last_process s.processes (tree_groups s) whole.processes.numbers
