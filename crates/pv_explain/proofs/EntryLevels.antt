-- The first level with an entry, one level at a time.
use Rattle.std.proofs.Common.{◌≡◌, ◌<◌, ◌≤◌, ◌+◌, ◌-◌, ◌∙◌, ℕ, suc, true, false, cond, ◌==◌, List, [], ◌∷◌, length, Option, None, Some, refl, ap, arith}
use Rattle.std.specs.Prelude.{find, flat_map, option_to_list}
use Rattle.std.proofs.lemmas.List.{append-nil}
use Rattle.pv_model.specs.declared.target.Target.TheVariants.{Directory, Name}
use Rattle.pv_model.specs.Answers.Levels.{Level, unless_found, levels_within, directory_levels, name_levels}
use Rattle.pv_model.specs.Machine.{Bytes, Tree, root, is_directory_at, parent, IsWellFormed, Table, entry_for}
use Rattle.pv_model.specs.Tree.{above_or_none}
use Rattle.pv_unveil.specs.Up.{up}
use Rattle.pv_unveil.proofs.ClimbSteps.{up-directory}
use Rattle.pv_model_questions.specs.ExplainMore.{has_entry}

abbrev pub found_at : ℕ → ℕ → Level
found_at d k = record { target = Directory d; entry = Some k }

-- the parent of a directory
above-up : (t : Tree) (d : ℕ) → above_or_none t d ≡ option_to_list (up t d)
above-up t d = elim (d == root) as (λ b. cond b [] (option_to_list (parent t d)) ≡ option_to_list (cond b None (parent t d))) [ true ↦ refl | false ↦ refl ]

module _ (t : Tree) (table : Table) where
  abbrev pub found_within : ℕ → ℕ → Option Level
  found_within steps d = find has_entry (levels_within t table steps d)

  -- the levels after that of a directory
  abbrev rest : ℕ → ℕ → List Level
  rest steps d = flat_map (levels_within t table steps) (above_or_none t d)

  abbrev found_by : ℕ → ℕ → Option ℕ → Option Level
  found_by steps d o = find has_entry (let l : Level = record { target = Directory d; entry = o } in l ∷ unless_found t table o (rest steps d))

  found-here : (steps d k : ℕ) → entry_for table (Directory d) ≡ Some k → found_within (suc steps) d ≡ Some (found_at d k)
  found-here steps d k is = ap (found_by steps d) is

  found-top : (steps d : ℕ) → entry_for table (Directory d) ≡ None → up t d ≡ None → found_within (suc steps) d ≡ None
  found-top steps d none top = ap (found_by steps d) none ∙ ap (λ ds. find has_entry (flat_map (levels_within t table steps) ds)) (above-up t d ∙ ap option_to_list top)

  found-above : (steps d above : ℕ) → entry_for table (Directory d) ≡ None → up t d ≡ Some above → found_within (suc steps) d ≡ found_within steps above
  found-above steps d above none rises =
      ap (found_by steps d) none ∙ ap (λ ds. find has_entry (flat_map (levels_within t table steps) ds)) (above-up t d ∙ ap option_to_list rises)
      ∙ ap (find has_entry) (append-nil (levels_within t table steps above))

  -- ---- the loop that climbs

  module _ (directory : ℕ) where
    -- the levels that were looked at have no entry
    pub record IsClimbing (index reached : ℕ) : Type 0 where
      pub same : find has_entry (directory_levels t table directory) ≡ found_within (suc (length t.nodes) - index) reached
      pub appears : is_directory_at t reached ≡ true

    pub climbing-init : is_directory_at t directory ≡ true → IsClimbing 0 directory
    climbing-init appears = record {
      same = let whole : suc (length t.nodes) ≡ suc (length t.nodes) - 0 = omega arith in ap (λ n. found_within n directory) whole;
      appears = appears;
    }

    module _ (index reached : ℕ) (so_far : IsClimbing index reached) where
      pub climbing-end : suc (length t.nodes) ≤ index → find has_entry (directory_levels t table directory) ≡ None
      climbing-end past = let none : suc (length t.nodes) - index ≡ 0 = omega (arith, past) in so_far.same ∙ ap (λ n. found_within n reached) none

      module _ (within : index < suc (length t.nodes)) where
        abbrev steps : ℕ
        steps = suc (length t.nodes) - (index + 1)

        here : find has_entry (directory_levels t table directory) ≡ found_within (suc steps) reached
        here = let one : suc (length t.nodes) - index ≡ suc steps = omega (arith, within) in so_far.same ∙ ap (λ n. found_within n reached) one

        pub climbing-found : (k : ℕ) → entry_for table (Directory reached) ≡ Some k → find has_entry (directory_levels t table directory) ≡ Some (found_at reached k)
        climbing-found k is = here ∙ found-here steps reached k is

        pub climbing-top : entry_for table (Directory reached) ≡ None → up t reached ≡ None → find has_entry (directory_levels t table directory) ≡ None
        climbing-top none top = here ∙ found-top steps reached none top

        pub climbing-on : IsWellFormed t → (above : ℕ) → entry_for table (Directory reached) ≡ None → up t reached ≡ Some above → IsClimbing (index + 1) above
        climbing-on well above none rises = record {
          same = here ∙ found-above steps reached above none rises;
          appears = up-directory t well reached above rises;
        }

  -- ---- a name, and its directory

  abbrev named_by : ℕ → Bytes → Option ℕ → Option Level
  named_by d name o = find has_entry (let l : Level = record { target = Name d name; entry = o } in l ∷ unless_found t table o (directory_levels t table d))

  pub name-found : (d : ℕ) (name : Bytes) (k : ℕ) → entry_for table (Name d name) ≡ Some k
      → find has_entry (name_levels t table d name) ≡ Some (record { target = Name d name; entry = Some k })
  name-found d name k is = ap (named_by d name) is

  pub name-bare : (d : ℕ) (name : Bytes) → entry_for table (Name d name) ≡ None → find has_entry (name_levels t table d name) ≡ find has_entry (directory_levels t table d)
  name-bare d name none = ap (named_by d name) none
