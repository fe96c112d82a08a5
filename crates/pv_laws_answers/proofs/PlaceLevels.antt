-- The levels of a place, and climbing.
use Rattle.std.proofs.Common.{◌≡◌, ◌≢◌, ℕ, zero, suc, ◌<◌, Bool, true, false, if◌then◌else◌, ◌==◌, List, [], ◌∷◌, append-nil, length, flat_map, option_to_list, Option, None, Some, refl, ap, sym, subst, ◌∙◌, arith}
use Rattle.std.specs.Option.{option_or}
use Rattle.std.specs.Prelude.{option_and_then}
use Rattle.std.proofs.lemmas.Bool.{ne_eqb, eqb-false}
use Rattle.pv_model.specs.declared.place.Place.{Place}
use Rattle.pv_model.specs.declared.place.Place.TheVariants.{At, Node as Unnamed}
use Rattle.pv_model.specs.declared.target.Target.{Target}
use Rattle.pv_model.specs.declared.target.Target.TheVariants.{Directory, Name}
use Rattle.pv_model.specs.Answers.Levels.{Level, level, unless_found, and_above, levels_within, directory_levels, name_levels, levels}
use Rattle.pv_model.specs.Machine.{Bytes, GovernsName, Tree, root, is_directory_at, parent, IsWellFormed, Table, entry_for, target_of, Governs, own, from_above, directory_rights, governing_entry}
use Rattle.pv_model.specs.Closed.{by_name, by_directory}
use Rattle.pv_model.specs.Tree.{above_or_none}
use Rattle.pv_model.specs.Unveil.{rights_above, climb}
use Rattle.pv_model.proofs.GoverningEntries.{directory_rights-Governs}
use Rattle.pv_laws_trees.proofs.Ancestors.{entry-reached, IsBelow, at_root, one_below, reached-below, depth-below}
use Rattle.pv_laws_trees.proofs.TreeChanges.{has_entry-directory}
use Rattle.pv_laws_trees.proofs.Trees.{ordered, sound, parent-entry}
use Rattle.pv_laws_trees.specs.Tree.{IsSoundTree}
use Rattle.pv_laws_access.specs.Tables.{GovernsPlace, unnamed, without_node, directory, named}
use Rattle.pv_laws_answers.specs.Levels.{LevelsLeadTo, directory_steps, name_steps, place_steps, above_target, AreClimbed, found, at_top, continues}

-- one level more
lead-on : (answer : Option ℕ) (l : Level) (ls : List Level) → l.entry ≡ None → LevelsLeadTo answer ls → LevelsLeadTo answer (l ∷ ls)
lead-on answer l [] none lead = absurd lead
lead-on answer l (next ∷ ls) none lead = (none, lead)

-- the ancestors of a directory, one by one
above-root : (t : Tree) (d : ℕ) → (d == root) ≡ true → above_or_none t d ≡ []
above-root t d top = ap (λ b. if b then [] else option_to_list (parent t d)) top

above-found : (t : Tree) (d : ℕ) (o : Option ℕ) → (d == root) ≡ false → parent t d ≡ o → above_or_none t d ≡ option_to_list o
above-found t d o other up = ap (λ b. if b then [] else option_to_list (parent t d)) other ∙ ap option_to_list up

module _ (t : Tree) (table : Table) where
  own-level : (target : Target) (k : ℕ) (rest : List Level) → entry_for table target ≡ Some k → and_above t table target rest ≡ level t table target ∷ []
  own-level target k rest is = ap (λ o. level t table target ∷ unless_found t table o rest) is

  higher-levels : (target : Target) (rest : List Level) → entry_for table target ≡ None → and_above t table target rest ≡ level t table target ∷ rest
  higher-levels target rest none = ap (λ o. level t table target ∷ unless_found t table o rest) none

  -- the levels of a directory, one step up
  levels-step : (steps d : ℕ) (o : Option ℕ) → entry_for table (Directory d) ≡ None → (d == root) ≡ false → parent t d ≡ o
      → levels_within t table (suc steps) d ≡ level t table (Directory d) ∷ flat_map (levels_within t table steps) (option_to_list o)
  levels-step steps d o none other up =
      higher-levels (Directory d) _ none ∙ ap (λ ups. level t table (Directory d) ∷ flat_map (levels_within t table steps) ups) (above-found t d o other up)

  levels-top : (steps d : ℕ) → entry_for table (Directory d) ≡ None → (d == root) ≡ true → levels_within t table (suc steps) d ≡ level t table (Directory d) ∷ []
  levels-top steps d none top =
      higher-levels (Directory d) _ none ∙ ap (λ ups. level t table (Directory d) ∷ flat_map (levels_within t table steps) ups) (above-root t d top)

  climb-own : (steps d k : ℕ) → entry_for table (Directory d) ≡ Some k → climb t table (suc steps) d ≡ Some k
  climb-own steps d k is = ap (λ o. option_or o (rights_above t table (climb t table steps) d)) is

  climb-top : (steps d : ℕ) → entry_for table (Directory d) ≡ None → (d == root) ≡ true → climb t table (suc steps) d ≡ None
  climb-top steps d none top =
      ap (λ o. option_or o (rights_above t table (climb t table steps) d)) none ∙ ap (λ b. if b then None else option_and_then (climb t table steps) (parent t d)) top

  climb-step : (steps d : ℕ) (o : Option ℕ) → entry_for table (Directory d) ≡ None → (d == root) ≡ false → parent t d ≡ o
      → climb t table (suc steps) d ≡ option_and_then (climb t table steps) o
  climb-step steps d o none other up =
      ap (λ e. option_or e (rights_above t table (climb t table steps) d)) none
      ∙ ap (λ b. if b then None else option_and_then (climb t table steps) (parent t d)) other ∙ ap (option_and_then (climb t table steps)) up

  -- ---- the levels end where climbing ends

  lead-up : (steps d : ℕ) → (entry_for table (Directory d) ≡ None → (a : ℕ) → LevelsLeadTo (climb t table steps a) (level t table (Directory d) ∷ levels_within t table steps a))
      → LevelsLeadTo (climb t table (suc steps) d) (levels_within t table (suc steps) d)
  lead-up steps d above = by (entry_for table (Directory d)) refl
    where
      moved : (o : Option ℕ) (ls : List Level) → climb t table (suc steps) d ≡ o → levels_within t table (suc steps) d ≡ ls → LevelsLeadTo o ls
          → LevelsLeadTo (climb t table (suc steps) d) (levels_within t table (suc steps) d)
      moved o ls climbs is lead = subst (λ x. LevelsLeadTo x (levels_within t table (suc steps) d)) (sym climbs) (subst (LevelsLeadTo o) (sym is) lead)

      by_parent : entry_for table (Directory d) ≡ None → (d == root) ≡ false → (o : Option ℕ) → parent t d ≡ o → LevelsLeadTo (climb t table (suc steps) d) (levels_within t table (suc steps) d)
      by_parent none other None up = moved None (level t table (Directory d) ∷ []) (climb-step steps d None none other up) (levels-step steps d None none other up) none
      by_parent none other (Some a) up =
          moved (climb t table steps a) (level t table (Directory d) ∷ levels_within t table steps a) (climb-step steps d (Some a) none other up)
          (levels-step steps d (Some a) none other up ∙ ap (λ ls. level t table (Directory d) ∷ ls) (append-nil (levels_within t table steps a))) (above none a)

      by_root : entry_for table (Directory d) ≡ None → (b : Bool) → (d == root) ≡ b → LevelsLeadTo (climb t table (suc steps) d) (levels_within t table (suc steps) d)
      by_root none true top = moved None (level t table (Directory d) ∷ []) (climb-top steps d none top) (levels-top steps d none top) none
      by_root none false other = by_parent none other (parent t d) refl

      by : (o : Option ℕ) → entry_for table (Directory d) ≡ o → LevelsLeadTo (climb t table (suc steps) d) (levels_within t table (suc steps) d)
      by (Some k) is = moved (Some k) (level t table (Directory d) ∷ []) (climb-own steps d k is) (own-level (Directory d) k _ is) is
      by None none = by_root none (d == root) refl

  within-lead : (steps d : ℕ) → LevelsLeadTo (climb t table (suc steps) d) (levels_within t table (suc steps) d)
  within-lead zero d = lead-up zero d (λ none a. none)
  within-lead (suc steps) d = lead-up (suc steps) d (λ none a. lead-on (climb t table (suc steps) a) (level t table (Directory d)) (levels_within t table (suc steps) a) none (within-lead steps a))

  directory-lead : (d : ℕ) → LevelsLeadTo (directory_rights t table d) (directory_levels t table d)
  unfolding directory_rights
  directory-lead d = within-lead (length t.nodes) d

  name-lead : (d : ℕ) (name : Bytes) → LevelsLeadTo (option_or (entry_for table (Name d name)) (directory_rights t table d)) (name_levels t table d name)
  name-lead d name = by (entry_for table (Name d name)) refl
    where
      by : (o : Option ℕ) → entry_for table (Name d name) ≡ o → LevelsLeadTo (option_or (entry_for table (Name d name)) (directory_rights t table d)) (name_levels t table d name)
      by (Some k) is =
          subst (λ x. LevelsLeadTo (option_or x (directory_rights t table d)) (name_levels t table d name)) (sym is)
          (subst (LevelsLeadTo (Some k)) (sym (own-level (Name d name) k (directory_levels t table d) is)) is)
      by None none =
          subst (λ x. LevelsLeadTo (option_or x (directory_rights t table d)) (name_levels t table d name)) (sym none)
          (subst (LevelsLeadTo (directory_rights t table d)) (sym (higher-levels (Name d name) (directory_levels t table d) none))
          (lead-on (directory_rights t table d) (level t table (Name d name)) (directory_levels t table d) none (directory-lead d)))

  -- ---- the levels are the steps of a derivation

  directory-derived : (steps d k : ℕ) (governs : Governs t table d k) → climb t table steps d ≡ Some k → levels_within t table steps d ≡ directory_steps t table d k governs
  directory-derived zero d k governs is = cc is
  directory-derived (suc steps) _ _ (own d k has) is = own-level (Directory d) k _ has
  directory-derived (suc steps) _ _ (from_above d above k other none up governs) is =
      levels-step steps d (Some above) none (ne_eqb d root other) up
      ∙ ap (λ ls. level t table (Directory d) ∷ ls) (append-nil (levels_within t table steps above)
      ∙ directory-derived steps above k governs (sym (climb-step steps d (Some above) none (ne_eqb d root other) up) ∙ is))

  rights-derived : (d k : ℕ) (governs : Governs t table d k) → directory_levels t table d ≡ directory_steps t table d k governs
  unfolding directory_rights
  rights-derived d k governs = directory-derived (suc (length t.nodes)) d k governs (directory_rights-Governs t table d k governs)

  name-derived : (d : ℕ) (name : Bytes) (k : ℕ) (governs : GovernsName t table d name k) → name_levels t table d name ≡ name_steps t table d name k governs
  name-derived d name _ (by_name k is) = own-level (Name d name) k (directory_levels t table d) is
  name-derived d name _ (by_directory k none governs) =
      higher-levels (Name d name) (directory_levels t table d) none ∙ ap (λ ls. level t table (Name d name) ∷ ls) (rights-derived d k governs)

  -- ---- the levels go up

  module _ (s : IsSoundTree t) where
    up-target : (d : ℕ) (o : Option ℕ) → (d == root) ≡ false → parent t d ≡ o → above_target t table (Directory d) ≡ o
    up-target d o other up = ap (λ b. if b then None else parent t d) other ∙ up

    top-target : (d : ℕ) → (d == root) ≡ true → above_target t table (Directory d) ≡ None
    top-target d top = ap (λ b. if b then None else parent t d) top

    go-below : (d k : ℕ) → IsBelow t d k → (steps : ℕ) → k < steps → AreClimbed t table (Directory d) (levels_within t table steps d)
    go-below d k b zero few = absurd (omega arith)
    go-below _ _ at_root (suc steps) few = by (entry_for table (Directory root)) refl
      where
        by : (o : Option ℕ) → entry_for table (Directory root) ≡ o → AreClimbed t table (Directory root) (levels_within t table (suc steps) root)
        by (Some j) is = subst (AreClimbed t table (Directory root)) (sym (own-level (Directory root) j _ is)) (found (Directory root) j is)
        by None none = subst (AreClimbed t table (Directory root)) (sym (levels-top steps root none refl)) (at_top (Directory root) none (top-target root refl))
    go-below _ _ (one_below d above k other up below) (suc steps) few = by (entry_for table (Directory d)) refl (go-below above k below steps (omega arith))
      where
        by : (o : Option ℕ) → entry_for table (Directory d) ≡ o → AreClimbed t table (Directory above) (levels_within t table steps above) → AreClimbed t table (Directory d) (levels_within t table (suc steps) d)
        by (Some j) is higher = subst (AreClimbed t table (Directory d)) (sym (own-level (Directory d) j _ is)) (found (Directory d) j is)
        by None none higher =
            subst (AreClimbed t table (Directory d))
            (sym (levels-step steps d (Some above) none (ne_eqb d root other) up ∙ ap (λ ls. level t table (Directory d) ∷ ls) (append-nil (levels_within t table steps above))))
            (continues (Directory d) above (levels_within t table steps above) none (up-target d (Some above) (ne_eqb d root other) up) higher)

    directory-up : (d : ℕ) → AreClimbed t table (Directory d) (directory_levels t table d)
    directory-up d = by_own (entry_for table (Directory d)) refl
      where
        by_parent : entry_for table (Directory d) ≡ None → (d == root) ≡ false → (o : Option ℕ) → parent t d ≡ o → AreClimbed t table (Directory d) (directory_levels t table d)
        by_parent none other None up =
            subst (AreClimbed t table (Directory d)) (sym (levels-step (length t.nodes) d None none other up)) (at_top (Directory d) none (up-target d None other up))
        by_parent none other (Some a) up =
            let apart : d ≢ root = eqb-false d root other in
            let entry = parent-entry t (ordered t s.each_node) d a apart up in
            let high = reached-below t s a (entry-reached t s a entry.0 d entry.1) (has_entry-directory t a entry.0 d entry.1) in
            let few = depth-below t s d (suc high.0) (one_below d a high.0 apart up high.1) in
            go-below d (suc high.0) (one_below d a high.0 apart up high.1) (suc (length t.nodes)) (omega (arith, few))

        by_root : entry_for table (Directory d) ≡ None → (b : Bool) → (d == root) ≡ b → AreClimbed t table (Directory d) (directory_levels t table d)
        by_root none true top = subst (AreClimbed t table (Directory d)) (sym (levels-top (length t.nodes) d none top)) (at_top (Directory d) none (top-target d top))
        by_root none false other = by_parent none other (parent t d) refl

        by_own : (o : Option ℕ) → entry_for table (Directory d) ≡ o → AreClimbed t table (Directory d) (directory_levels t table d)
        by_own (Some j) is = subst (AreClimbed t table (Directory d)) (sym (own-level (Directory d) j _ is)) (found (Directory d) j is)
        by_own None none = by_root none (d == root) refl

    name-up : (d : ℕ) (name : Bytes) → AreClimbed t table (Name d name) (name_levels t table d name)
    name-up d name = by (entry_for table (Name d name)) refl
      where
        by : (o : Option ℕ) → entry_for table (Name d name) ≡ o → AreClimbed t table (Name d name) (name_levels t table d name)
        by (Some j) is = subst (AreClimbed t table (Name d name)) (sym (own-level (Name d name) j (directory_levels t table d) is)) (found (Name d name) j is)
        by None none =
            subst (AreClimbed t table (Name d name)) (sym (higher-levels (Name d name) (directory_levels t table d) none))
            (continues (Name d name) d (directory_levels t table d) none refl (directory-up d))

-- ---- the levels of places

pub levels-lead : (t : Tree) (table : Table) (place : Place) → LevelsLeadTo (governing_entry t table place) (levels t table place)
unfolding governing_entry levels
levels-lead t table (Unnamed n) = directory-lead t table n
levels-lead t table (At d name None) = name-lead t table d name
levels-lead t table (At d name (Some n)) = by (is_directory_at t n)
  where
    by : (b : Bool) → LevelsLeadTo (if b then directory_rights t table n else option_or (entry_for table (Name d name)) (directory_rights t table d))
        (if b then directory_levels t table n else name_levels t table d name)
    by true = directory-lead t table n
    by false = name-lead t table d name

pub levels-derived : (t : Tree) (table : Table) (place : Place) (k : ℕ) (governs : GovernsPlace t table place k) → levels t table place ≡ place_steps t table place k governs
unfolding levels
levels-derived t table _ _ (unnamed n k governs) = rights-derived t table n k governs
levels-derived t table _ _ (without_node d name k governs) = name-derived t table d name k governs
levels-derived t table _ _ (directory d name n k is governs) =
    ap (λ b. if b then directory_levels t table n else name_levels t table d name) is ∙ rights-derived t table n k governs
levels-derived t table _ _ (named d name n k plain governs) =
    ap (λ b. if b then directory_levels t table n else name_levels t table d name) plain ∙ name-derived t table d name k governs

pub levels-up : (t : Tree) (table : Table) (place : Place) → IsWellFormed t → AreClimbed t table (target_of t place) (levels t table place)
unfolding levels
levels-up t table (Unnamed n) w = directory-up t table (sound t w) n
levels-up t table (At d name None) w = name-up t table (sound t w) d name
levels-up t table (At d name (Some n)) w = by (is_directory_at t n)
  where
    by : (b : Bool) → AreClimbed t table (if b then Directory n else Name d name) (if b then directory_levels t table n else name_levels t table d name)
    by true = directory-up t table (sound t w) n
    by false = name-up t table (sound t w) d name
