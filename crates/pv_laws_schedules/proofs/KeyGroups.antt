-- Groups of elements with equal keys, and programs with equal keys.
use Rattle.std.proofs.Common.{◌≡◌, ◌∙◌, sym, ap, subst, ℕ, bytes_eq, List, [], ◌∷◌, ◌++◌, ◌⊎◌, inl, inr}
use Rattle.pv_model.specs.Machine.{elements_with_new_keys, Numbers, bool_numbers, bytes_numbers, descriptor_numbers, entry_numbers, file_numbers, integer_numbers, list_numbers, number_numbers, option_numbers, state_numbers, tree_numbers, groups, program_numbers, Program, Process, State, first_process, first_state, Tree}
use Rattle.pv_model.specs.Answers.Numbers.{process_numbers}
use Rattle.pv_model.specs.Answers.Observed.{with_equal_key}
use Rattle.pv_laws_trees.proofs.DirectoryEntries.{bytes_eq-same, bytes_eq-itself}
use Rattle.pv_laws_answers.proofs.Lists.{Among, among-filter, filter-among, among-map, map-among}
use Rattle.pv_laws_answers.proofs.NewKeys.{new-came, new-like}
use Rattle.pv_laws_answers.proofs.StateDecoding.{same-state_numbers}
use Rattle.pv_laws_schedules.proofs.RisingLists.{IsRising, rising-filter}

module _ {X : Type 0} (key : X → Numbers) where
  -- the group of an element
  pub record HasGroup (xs : List X) (x : X) : Type 0 where
    pub group : X × List X
    pub listed : Among group (groups key xs)
    pub same : key group.0 ≡ key x
    pub within : Among x group.1

  pub grouped : (xs : List X) (x : X) → Among x xs → HasGroup xs x
  grouped xs x h = by (new-like key [] xs x h)
    where
      by : Among (key x) [] ⊎ ((y : X) × Among y (elements_with_new_keys key [] xs) × (key y ≡ key x)) → HasGroup xs x
      by (inl none) = absurd none
      by (inr y) = record {
        group = with_equal_key key xs y.0;
        listed = among-map (with_equal_key key xs) y.0 (elements_with_new_keys key [] xs) y.1;
        same = y.2;
        within = among-filter (λ z. bytes_eq (key z) (key y.0)) x xs h (ap (bytes_eq (key x)) y.2 ∙ bytes_eq-itself (key x));
      }

  -- an element of a group is one of the list, with the key of the group
  pub of-group : (xs : List X) (g : X × List X) → Among g (groups key xs) → (x : X) → Among x g.1 → Among x xs × (key x ≡ key g.0)
  of-group xs g h x within =
      let from = map-among (with_equal_key key xs) g (elements_with_new_keys key [] xs) h in
      let here = filter-among (λ z. bytes_eq (key z) (key from.0)) x xs (subst (λ (p : X × List X). Among x p.1) from.2 within) in
      (here.0, bytes_eq-same (key x) (key from.0) here.1 ∙ ap (λ (p : X × List X). key p.0) (sym from.2))

  -- the first element of a group is one of the list
  pub group-head : (xs : List X) (g : X × List X) → Among g (groups key xs) → Among g.0 xs
  group-head xs g h =
      let from = map-among (with_equal_key key xs) g (elements_with_new_keys key [] xs) h in
      subst (λ (p : X × List X). Among p.0 xs) (sym from.2) (new-came key [] xs from.0 from.1)

  -- each element with the key of a group is in it
  pub in-group : (xs : List X) (g : X × List X) → Among g (groups key xs) → (x : X) → Among x xs → key x ≡ key g.0 → Among x g.1
  in-group xs g h x within same =
      let from = map-among (with_equal_key key xs) g (elements_with_new_keys key [] xs) h in
      subst (λ (p : X × List X). Among x p.1) (sym from.2)
      (among-filter (λ z. bytes_eq (key z) (key from.0)) x xs within (ap (λ k. bytes_eq k (key from.0)) (same ∙ ap (λ (p : X × List X). key p.0) from.2) ∙ bytes_eq-itself (key from.0)))

  -- a group of a rising list is rising
  pub group-rising : (size : X → ℕ) (xs : List X) (g : X × List X) → Among g (groups key xs) → IsRising size xs → IsRising size g.1
  group-rising size xs g h rising =
      let from = map-among (with_equal_key key xs) g (elements_with_new_keys key [] xs) h in
      subst (λ (p : X × List X). IsRising size p.1) (sym from.2) (rising-filter size (λ z. bytes_eq (key z) (key from.0)) xs rising)

-- programs with the same numbers are equal
numbers-alike : (t : Tree) (a b : Program) → program_numbers a ≡ program_numbers b → state_numbers (first_state t a) ≡ state_numbers (first_state t b)
unfolding state_numbers process_numbers
numbers-alike t a b same =
    let p : Process = first_process [] in
    let files = (first_state t []).files in
    ap (λ (ns : Numbers).
    number_numbers 1
    ++ (1 ∷ ((number_numbers 1
    ++ 0 ∷ (number_numbers p.line ++ list_numbers integer_numbers p.registers ++ number_numbers p.parent ++ number_numbers p.directory
    ++ bool_numbers p.locked ++ option_numbers number_numbers p.promises ++ option_numbers number_numbers p.execpromises
    ++ list_numbers (option_numbers descriptor_numbers) p.descriptors ++ option_numbers (list_numbers entry_numbers) p.table
    ++ ns ++ bytes_numbers p.buffer)) ++ []))
    ++ list_numbers (option_numbers file_numbers) files ++ tree_numbers t) same

pub same-programs : (t : Tree) (a b : Program) → program_numbers a ≡ program_numbers b → a ≡ b
same-programs t a b same =
    let states : first_state t a ≡ first_state t b = same-state_numbers (first_state t a) (first_state t b) (numbers-alike t a b same) in
    ap program states
  where
    program : State → Program
    program s = by s.processes
      where
        of : Rattle.pv_model.specs.State.ProcessRecord → Program
        of (Rattle.pv_model.specs.State.live p) = p.program
        of (Rattle.pv_model.specs.State.ended_record parent status) = []

        by : List (Rattle.std.specs.Prelude.ℕ × Rattle.pv_model.specs.State.ProcessRecord) → Program
        by [] = []
        by (r ∷ rs) = of r.1
