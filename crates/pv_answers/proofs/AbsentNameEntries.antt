-- The table entries for absent names, one at a time.
use Rattle.std.proofs.Common.{◌≡◌, ℕ, zero, suc, ◌+◌, ◌<◌, ◌≤◌, Bool, true, false, cond, List, [], ◌∷◌, ◌++◌, codes, flat_map, drop, get_or, length, Option, None, Some, option_map, refl, ap, ap₂, sym, ◌∙◌, ⊎_elim, arith, add-one}
use Rattle.std.specs.List.{position_or_len}
use Rattle.std.specs.Prelude.{option_to_list, slice_get}
use Rattle.std.specs.Fmt.{decimal}
use Rattle.std.specs.Option.{option_or}
use Rattle.std.proofs.lemmas.Bool.{cases_lt, lt-ltb}
use Rattle.std.proofs.lemmas.Grind.{flat_map-append}
use Rattle.std.proofs.lemmas.List.{append-nil, drop_all}
use Rattle.std.proofs.lemmas.List.Sums.{fails_before_first}
use Rattle.std.proofs.lemmas.Option.{get_or_from_slice_get, slice_get_within}
use Rattle.pv_model.specs.declared.perms.Perms.{Perms}
use Rattle.pv_model.specs.declared.target.Target.{Target}
use Rattle.pv_model.specs.declared.target.Target.TheVariants.{Directory, Name}
use Rattle.pv_model.specs.declared.place.Place.TheVariants.{At}
use Rattle.pv_model.specs.Machine.{counted_from, permissions_in_places, Bytes, entries_of_table, Tree, Table, directory_rights, entry_for, governing_entry, same_target}
use Rattle.pv_model.specs.Answers.Nodes.{name_words}
use Rattle.pv_model.specs.Answers.Reach.{absent_text, entry_texts, is_absent}
use Rattle.pv_answers.specs.declared.reach.reacher.Reacher.{Reacher}
use Rattle.pv_answers.specs.Reaching.{absent_line, absent_words, is_absent_in, may_line, may_lines, permitted_by, reacher_process, reacher_state, reacher_table}
use Rattle.pv_answers.proofs.PermissionsAtPlaces.{letters-are}
use Rattle.pv_calls_state.proofs.OfLawsTrees.UnveilTargets.{same_target-itself}

-- ---- one entry at a time

drop-one : {X : Type 0} (xs : List X) (k : ℕ) → k < length xs → (x : X) × (slice_get xs k ≡ Some x) × (drop k xs ≡ x ∷ drop (suc k) xs)
drop-one [] k less = absurd (omega arith)
drop-one (x ∷ xs) zero less = (x, refl, refl)
drop-one (x ∷ xs) (suc k) less = drop-one xs k (omega arith)

-- ---- the governing entry

-- an entry for a target in the table is found
entry-there : (table : Table) (target : Target) (permissions : Perms) (k : ℕ) → slice_get table k ≡ Some (target, permissions) → (j : ℕ) × (entry_for table target ≡ Some j)
entry-there table target permissions k at =
    let test : Target × Perms → Bool = λ e. same_target e.0 target in
    let first = position_or_len test table in
    let within = slice_get_within table k (target, permissions) at in
    let less : first < length table =
    ⊎_elim (λ (low : first < length table). low)
    (λ high.
    let fails : test (get_or table k (target, permissions)) ≡ false = fails_before_first test table k (target, permissions) (omega (arith, high, within)) in
    let passes : test (get_or table k (target, permissions)) ≡ true = ap test (get_or_from_slice_get table k (target, permissions) (target, permissions) at) ∙ same_target-itself target in
    cc (fails, passes))
    (cases_lt first (length table)) in
    (first, ap (λ b. cond b (Some first) None) (lt-ltb first (length table) less))

-- an absent name is governed by the first entry for it
pub governing-absent : (t : Tree) (table : Table) (d : ℕ) (name : Bytes) (k : ℕ) → option_map (λ (e : Target × Perms). e.0) (slice_get table k) ≡ Some (Name d name)
    → governing_entry t table (At d name None) ≡ entry_for table (Name d name)
unfolding governing_entry
governing-absent t table d name k is = by (slice_get table k) refl is
  where
    by : (o : Option (Target × Perms)) → slice_get table k ≡ o → option_map (λ (e : Target × Perms). e.0) o ≡ Some (Name d name)
        → option_or (entry_for table (Name d name)) (directory_rights t table d) ≡ entry_for table (Name d name)
    by None at none = cc none
    by (Some e) at same =
        let target : e.0 ≡ Name d name = cc same in
        let found = entry-there table (Name d name) e.1 k (at ∙ ap (λ (x : Target). Some (x, e.1)) target) in
        ap (λ o. option_or o (directory_rights t table d)) found.1 ∙ sym found.1

-- ---- lines

module _ (x : Reacher) where
  abbrev table : Table
  table = entries_of_table (reacher_table x)

  abbrev texts : List (ℕ × (Target × Perms)) → List Bytes
  texts es = flat_map (entry_texts (reacher_state x) (reacher_process x)) es

  abbrev pub absent_from : ℕ → Bytes
  absent_from k = may_lines x (texts (counted_from k (drop k table)))

  pub absent-next : (k : ℕ) → k < length table → absent_from k ≡ absent_line x k ++ absent_from (k + 1)
  absent-next k less =
      let one = drop-one table k less in
      let own = entry_texts (reacher_state x) (reacher_process x) (k, one.0) in
      let here : absent_line x k ≡ may_lines x own =
      ap (λ (o : Option (Target × Perms)). may_lines x (flat_map (λ e. entry_texts (reacher_state x) (reacher_process x) (k, e)) (option_to_list o))) one.1 ∙ ap (may_lines x) (append-nil own) in
      ap (λ (es : Table). may_lines x (texts (counted_from k es))) one.2
      ∙ flat_map-append (may_line x) own (texts (counted_from (k + 1) (drop (suc k) table)))
      ∙ ap₂ (λ (a b : Bytes). a ++ b) (sym here) (ap (λ j. may_lines x (texts (counted_from (k + 1) (drop j table)))) (sym (add-one k)))

  pub absent-past : (k : ℕ) → length table ≤ k → absent_from k ≡ []
  absent-past k past = ap (λ es. may_lines x (texts (counted_from k es))) (drop_all k table past)

  abbrev line_for : ℕ → Target → Bytes
  line_for k (Directory n) = []
  line_for k (Name d name) = cond (is_absent (reacher_state x) (reacher_process x) d name) (may_line x (absent_text (reacher_state x) (reacher_process x) k d name)) []

  -- the line of an entry with a target
  pub absent-line_is : (k : ℕ) (target : Target) → option_map (λ (e : Target × Perms). e.0) (slice_get table k) ≡ Some target → absent_line x k ≡ line_for k target
  absent-line_is k target is = by (slice_get table k) is
    where
      with_target : (permissions : Perms) (other : Target) → may_lines x (entry_texts (reacher_state x) (reacher_process x) (k, (other, permissions)) ++ []) ≡ line_for k other
      with_target permissions (Directory n) = refl
      with_target permissions (Name d name) =
          let text = absent_text (reacher_state x) (reacher_process x) k d name in
          elim (is_absent (reacher_state x) (reacher_process x) d name) as (λ b. may_lines x (cond b (text ∷ []) [] ++ []) ≡ cond b (may_line x text) []) [
            | true ↦ append-nil (may_line x text)
            | false ↦ refl
          ]

      by : (o : Option (Target × Perms)) → option_map (λ (e : Target × Perms). e.0) o ≡ Some target
          → may_lines x (flat_map (λ e. entry_texts (reacher_state x) (reacher_process x) (k, e)) (option_to_list o)) ≡ line_for k target
      by None none = cc none
      by (Some e) same = let one : e.0 ≡ target = cc same in with_target e.1 e.0 ∙ ap (line_for k) one

  text-is : (k d : ℕ) (name : Bytes) → option_map (λ (e : Target × Perms). e.0) (slice_get table k) ≡ Some (Name d name)
      → absent_words x k (entry_for table (Name d name)) d name ≡ absent_text (reacher_state x) (reacher_process x) k d name
  text-is k d name is =
      let tree = (reacher_state x).tree in
      ap (λ (o : Option ℕ). absent_words x k o d name) (sym (governing-absent tree table d name k is))
      ∙ ap (λ (ps : Perms). permissions_in_places ps ++ codes " " ++ name_words tree d name ++ codes ", entry " ++ decimal k ++ codes ", absent")
      (sym (letters-are (reacher_state x) (reacher_process x) (At d name None)))

  -- the line of an entry for an absent name, from the parts that the code writes
  pub absent-is : (k : ℕ) (target : Target) (d : ℕ) (name : Bytes) → option_map (λ (e : Target × Perms). e.0) (slice_get table k) ≡ Some target → target ≡ Name d name
      → (tree : Tree) (first encoded : Bytes) (entry : Option ℕ) (letters : Perms) (number : ℕ) → tree ≡ (reacher_state x).tree → first ≡ name → is_absent_in tree d first ≡ true
      → encoded ≡ name → entry ≡ entry_for table target → letters ≡ permitted_by x.owned.now entry → number ≡ k
      → may_line x (permissions_in_places letters ++ codes " " ++ name_words tree d encoded ++ codes ", entry " ++ decimal number ++ codes ", absent") ≡ absent_line x k
  absent-is k target d name is named tree first encoded entry letters number same a absent b own permitted c =
      let there : option_map (λ (e : Target × Perms). e.0) (slice_get table k) ≡ Some (Name d name) = is ∙ ap Some named in
      let gone : is_absent_in (reacher_state x).tree d name ≡ true = ap₂ (λ (u : Tree) (bs : Bytes). is_absent_in u d bs) (sym same) (sym a) ∙ absent in
      ap (λ (ps : Perms). may_line x (permissions_in_places ps ++ codes " " ++ name_words tree d encoded ++ codes ", entry " ++ decimal number ++ codes ", absent"))
      (permitted ∙ ap (permitted_by x.owned.now) (own ∙ ap (entry_for table) named))
      ∙ ap₂ (λ (u : Tree) (bs : Bytes). may_line x (permissions_in_places (permitted_by x.owned.now (entry_for table (Name d name))) ++ codes " " ++ name_words u d bs ++ codes ", entry " ++ decimal number ++ codes ", absent")) same b
      ∙ ap (λ j. may_line x (absent_words x j (entry_for table (Name d name)) d name)) c
      ∙ ap (may_line x) (text-is k d name there)
      ∙ sym (absent-line_is k (Name d name) there ∙ ap (λ b. cond b (may_line x (absent_text (reacher_state x) (reacher_process x) k d name)) []) gone)

  -- any other entry has no line
  pub present-is : (k : ℕ) (target : Target) (d : ℕ) (name : Bytes) → option_map (λ (e : Target × Perms). e.0) (slice_get table k) ≡ Some target → target ≡ Name d name
      → (tree : Tree) (first : Bytes) → tree ≡ (reacher_state x).tree → first ≡ name → is_absent_in tree d first ≡ false → [] ≡ absent_line x k
  present-is k target d name is named tree first same a present =
      let there : option_map (λ (e : Target × Perms). e.0) (slice_get table k) ≡ Some (Name d name) = is ∙ ap Some named in
      let here : is_absent_in (reacher_state x).tree d name ≡ false = ap₂ (λ (u : Tree) (bs : Bytes). is_absent_in u d bs) (sym same) (sym a) ∙ present in
      sym (absent-line_is k (Name d name) there ∙ ap (λ b. cond b (may_line x (absent_text (reacher_state x) (reacher_process x) k d name)) []) here)
