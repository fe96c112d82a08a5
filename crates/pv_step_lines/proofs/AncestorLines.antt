-- The lines of a directory and its ancestors, level by level.
use Rattle.std.proofs.Common.{◌≡◌, ◌<◌, ◌≤◌, ◌+◌, ◌-◌, ◌∙◌, ℕ, suc, true, false, cond, ◌==◌, List, [], ◌∷◌, ◌++◌, length, Option, None, Some, refl, ap, sym, append_assoc, arith}
use Rattle.std.specs.Prelude.{flat_map, is_some, option_to_list, Ok, Err}
use Rattle.std.proofs.lemmas.Bool.{false≢true}
use Rattle.std.proofs.lemmas.Grind.{flat_map-append}
use Rattle.std.proofs.lemmas.List.{append-nil}
use Rattle.pv_model.specs.declared.perms.Perms.{Perms}
use Rattle.pv_model.specs.declared.place.Place.{Place}
use Rattle.pv_model.specs.declared.place.Place.TheVariants.{At, Node as Unnamed}
use Rattle.pv_model.specs.declared.target.Target.{Target}
use Rattle.pv_model.specs.declared.target.Target.TheVariants.{Directory, Name}
use Rattle.pv_model.specs.Answers.Levels.{Level, level, unless_found, levels_within, directory_levels, name_levels, levels}
use Rattle.pv_model.specs.Machine.{AnswerLine, answer_bytes, answer_line_bytes, Bytes, Tree, root, is_directory_at, parent, IsWellFormed, entry_for}
use Rattle.pv_model.specs.Tree.{above_or_none}
use Rattle.pv_model.specs.declared.stream.Sink.{Ghosts as Writing}
use Rattle.pv_streams.specs.Sinks.{Writes}
use Rattle.pv_streams.proofs.WriterContracts.{writes_as, writes_both, writes_longer, writes_none, writes_ok}
use Rattle.pv_answers.specs.OfUnveil.Up.{up}
use Rattle.pv_answers.proofs.OfUnveil.ClimbSteps.{up-directory}
use Rattle.pv_step_lines.specs.declared.levels.Basis.{Basis}
use Rattle.pv_step_lines.specs.Basis.{basis_table, level_line, level_lines_of}

pub none-found : (o : Option ℕ) → false ≡ is_some o → o ≡ None
none-found None is = refl
none-found (Some k) is = absurd (false≢true is)

pub some-found : (o : Option ℕ) → true ≡ is_some o → (k : ℕ) × (o ≡ Some k)
some-found None is = absurd (false≢true (sym is))
some-found (Some k) is = (k, refl)

-- the parent of a directory
above-up : (t : Tree) (d : ℕ) → above_or_none t d ≡ option_to_list (up t d)
above-up t d = elim (d == root) as (λ b. cond b [] (option_to_list (parent t d)) ≡ option_to_list (cond b None (parent t d))) [ true ↦ refl | false ↦ refl ]

module _ (b : Basis) (asked : Perms) where
  abbrev tree : Tree
  tree = b.tree.now.tree

  abbrev lines : List Level → Bytes
  lines ls = answer_bytes (level_lines_of b asked ls)

  abbrev line_of : Target → Option ℕ → Bytes
  line_of target entry = answer_line_bytes (level_line b asked (record { target = target; entry = entry }))

  map-append : (xs ys : List Level) → level_lines_of b asked (xs ++ ys) ≡ level_lines_of b asked xs ++ level_lines_of b asked ys
  map-append [] ys = refl
  map-append (x ∷ xs) ys = ap (λ (ls : List AnswerLine). level_line b asked x ∷ ls) (map-append xs ys)

  lines-append : (xs ys : List Level) → lines (xs ++ ys) ≡ lines xs ++ lines ys
  lines-append xs ys = ap answer_bytes (map-append xs ys) ∙ flat_map-append answer_line_bytes (level_lines_of b asked xs) (level_lines_of b asked ys)

  one-level : (l : Level) → lines (l ∷ []) ≡ answer_line_bytes (level_line b asked l)
  one-level l = append-nil (answer_line_bytes (level_line b asked l))

  -- ---- the levels from a directory on, within a number of steps

  module _ (steps d : ℕ) where
    abbrev here : Level
    here = level tree (basis_table b) (Directory d)

    governed : (k : ℕ) → entry_for (basis_table b) (Directory d) ≡ Some k → levels_within tree (basis_table b) (suc steps) d ≡ here ∷ []
    governed k is = ap (λ o. here ∷ unless_found tree (basis_table b) o (flat_map (levels_within tree (basis_table b) steps) (above_or_none tree d))) is

    at-top : entry_for (basis_table b) (Directory d) ≡ None → up tree d ≡ None → levels_within tree (basis_table b) (suc steps) d ≡ here ∷ []
    at-top none top =
        ap (λ o. here ∷ unless_found tree (basis_table b) o (flat_map (levels_within tree (basis_table b) steps) (above_or_none tree d))) none
        ∙ ap (λ ds. here ∷ flat_map (levels_within tree (basis_table b) steps) ds) (above-up tree d ∙ ap option_to_list top)

    on-above : (above : ℕ) → entry_for (basis_table b) (Directory d) ≡ None → up tree d ≡ Some above → levels_within tree (basis_table b) (suc steps) d ≡ here ∷ levels_within tree (basis_table b) steps above
    on-above above none rises =
        ap (λ o. here ∷ unless_found tree (basis_table b) o (flat_map (levels_within tree (basis_table b) steps) (above_or_none tree d))) none
        ∙ ap (λ ds. here ∷ flat_map (levels_within tree (basis_table b) steps) ds) (above-up tree d ∙ ap option_to_list rises)
        ∙ ap (λ (ls : List Level). here ∷ ls) (append-nil (levels_within tree (basis_table b) steps above))

  -- ---- the loop that climbs

  module _ (directory : ℕ) where
    abbrev pub all : List Level
    all = directory_levels tree (basis_table b) directory

    -- the first levels are written, and these remain
    pub record IsClimbing {W : Type 0} (sink : Writing W) (index reached : ℕ) (before now : W) : Type 0 where
      pub seen : List Level
      pub parts : directory_levels tree (basis_table b) directory ≡ seen ++ levels_within tree (basis_table b) (suc (length tree.nodes) - index) reached
      pub written : Writes {T = Unit {0}} {E = Unit {0}} sink (lines seen) before now (Ok tt)
      pub appears : is_directory_at tree reached ≡ true

    pub climbing-init : {W : Type 0} {sink : Writing W} (out : W) → is_directory_at tree directory ≡ true → IsClimbing sink 0 directory out out
    climbing-init out appears = record {
      seen = [];
      parts = let whole : suc (length tree.nodes) ≡ suc (length tree.nodes) - 0 = omega arith in ap (λ n. levels_within tree (basis_table b) n directory) whole;
      written = writes_none;
      appears = appears;
    }

    module _ {W : Type 0} {sink : Writing W} (index reached : ℕ) {before mid : W} (so_far : IsClimbing sink index reached before mid) where
      -- no level remains
      pub climbing-end : {T E : Type 0} {x : T} → suc (length tree.nodes) ≤ index → Writes {E = E} sink (lines all) before mid (Ok x)
      climbing-end past =
          let none : suc (length tree.nodes) - index ≡ 0 = omega (arith, past) in
          let same : all ≡ so_far.seen = so_far.parts ∙ ap (λ n. so_far.seen ++ levels_within tree (basis_table b) n reached) none ∙ append-nil so_far.seen in
          writes_as (ap lines (sym same)) (writes_ok so_far.written)

      module _ (within : index < suc (length tree.nodes)) (entry : Option ℕ) (own : entry ≡ entry_for (basis_table b) (Directory reached)) where
        abbrev steps : ℕ
        steps = suc (length tree.nodes) - (index + 1)

        abbrev this : Level
        this = record { target = Directory reached; entry = entry }

        parts-here : all ≡ so_far.seen ++ levels_within tree (basis_table b) (suc steps) reached
        parts-here =
            let one : suc (length tree.nodes) - index ≡ suc steps = omega (arith, within) in
            so_far.parts ∙ ap (λ n. so_far.seen ++ levels_within tree (basis_table b) n reached) one

        this-is : level tree (basis_table b) (Directory reached) ≡ this
        this-is = ap (λ o. let it : Level = record { target = Directory reached; entry = o } in it) (sym own)

        written-here : {T E : Type 0} {x y : T} {after : W} → Writes {E = E} sink (line_of (Directory reached) entry) mid after (Ok x) → Writes {E = E} sink (lines (so_far.seen ++ this ∷ [])) before after (Ok y)
        written-here written =
            writes_as (ap (λ (bs : Bytes). lines so_far.seen ++ bs) (sym (one-level this)) ∙ sym (lines-append so_far.seen (this ∷ []))) (writes_ok (writes_both so_far.written written))

        -- the last level is written
        ended : {T E : Type 0} {x y : T} {after : W} → Writes {E = E} sink (line_of (Directory reached) entry) mid after (Ok x)
            → levels_within tree (basis_table b) (suc steps) reached ≡ level tree (basis_table b) (Directory reached) ∷ [] → Writes {E = E} sink (lines all) before after (Ok y)
        ended written last =
            writes_as (ap lines (sym (parts-here ∙ ap (λ ls. so_far.seen ++ ls) (last ∙ ap (λ (l : Level). l ∷ []) this-is)))) (written-here written)

        pub climbing-governed : {T E : Type 0} {x y : T} {after : W} (k : ℕ) → entry ≡ Some k → Writes {E = E} sink (line_of (Directory reached) entry) mid after (Ok x) → Writes {E = E} sink (lines all) before after (Ok y)
        climbing-governed k is written = ended written (governed steps reached k (sym own ∙ is))

        pub climbing-top : {T E : Type 0} {x y : T} {after : W} → entry ≡ None → up tree reached ≡ None → Writes {E = E} sink (line_of (Directory reached) entry) mid after (Ok x) → Writes {E = E} sink (lines all) before after (Ok y)
        climbing-top none top written = ended written (at-top steps reached (sym own ∙ none) top)

        pub climbing-on : {T E : Type 0} {x : T} {after : W} → IsWellFormed tree → (above : ℕ) → entry ≡ None → up tree reached ≡ Some above → Writes {E = E} sink (line_of (Directory reached) entry) mid after (Ok x)
            → IsClimbing sink (index + 1) above before after
        climbing-on {x = x} well above none rises written = record {
          seen = so_far.seen ++ this ∷ [];
          parts =
              parts-here ∙ ap (λ ls. so_far.seen ++ ls) (on-above steps reached above (sym own ∙ none) rises ∙ ap (λ (l : Level). l ∷ levels_within tree (basis_table b) steps above) this-is)
              ∙ sym (append_assoc so_far.seen (this ∷ []) (levels_within tree (basis_table b) steps above));
          written = writes_ok {x = x} (written-here written);
          appears = up-directory tree well reached above rises;
        }

        -- a line that was not written completely
        pub climbing-begun : {T E : Type 0} {e : E} {after : W} → Writes {T = T} sink (line_of (Directory reached) entry) mid after (Err e) → Writes {T = T} sink (lines all) before after (Err e)
        climbing-begun begun =
            let rest : List Level = unless_found tree (basis_table b) (entry_for (basis_table b) (Directory reached)) (flat_map (levels_within tree (basis_table b) steps) (above_or_none tree reached)) in
            let whole : all ≡ so_far.seen ++ this ∷ rest = parts-here ∙ ap (λ (l : Level). so_far.seen ++ l ∷ rest) this-is in
            let bytes : lines all ≡ lines so_far.seen ++ (line_of (Directory reached) entry ++ lines rest) = ap lines whole ∙ lines-append so_far.seen (this ∷ rest) in
            writes_as (sym bytes) (writes_both so_far.written (writes_longer (lines rest) begun))

  -- ---- a name, and its directory

  module _ (d : ℕ) (name : Bytes) (entry : Option ℕ) (own : entry ≡ entry_for (basis_table b) (Name d name)) where
    abbrev named : Level
    named = record { target = Name d name; entry = entry }

    named-is : level tree (basis_table b) (Name d name) ≡ named
    named-is = ap (λ o. let it : Level = record { target = Name d name; entry = o } in it) (sym own)

    pub name-governed : (k : ℕ) → entry ≡ Some k → line_of (Name d name) entry ≡ lines (name_levels tree (basis_table b) d name)
    name-governed k is =
        sym (one-level named)
        ∙ ap lines (ap (λ (l : Level). l ∷ []) (sym named-is) ∙ sym (ap (λ o. level tree (basis_table b) (Name d name) ∷ unless_found tree (basis_table b) o (directory_levels tree (basis_table b) d)) (sym own ∙ is)))

    pub name-bare : entry ≡ None → line_of (Name d name) entry ++ lines (directory_levels tree (basis_table b) d) ≡ lines (name_levels tree (basis_table b) d name)
    name-bare none =
        ap lines
        (ap (λ (l : Level). l ∷ directory_levels tree (basis_table b) d) (sym named-is)
        ∙ sym (ap (λ o. level tree (basis_table b) (Name d name) ∷ unless_found tree (basis_table b) o (directory_levels tree (basis_table b) d)) (sym own ∙ none)))

    -- the lines after that of the name
    abbrev pub name-rest : List Level
    name-rest = unless_found tree (basis_table b) (entry_for (basis_table b) (Name d name)) (directory_levels tree (basis_table b) d)

    pub name-first : line_of (Name d name) entry ++ lines name-rest ≡ lines (name_levels tree (basis_table b) d name)
    name-first = ap (λ (l : Level). lines (l ∷ name-rest)) (sym named-is)

  -- ---- a place that is a directory

  pub place-node : (place : Place) (n : ℕ) → place ≡ Unnamed n → lines (directory_levels tree (basis_table b) n) ≡ lines (levels tree (basis_table b) place)
  unfolding levels
  place-node place n is = sym (ap (λ (p : Place). lines (levels tree (basis_table b) p)) is)

  pub place-directory : (place : Place) (d : ℕ) (name : Bytes) (node : Option ℕ) → place ≡ At d name node → (n : ℕ) → node ≡ Some n → true ≡ is_directory_at tree n
      → lines (directory_levels tree (basis_table b) n) ≡ lines (levels tree (basis_table b) place)
  unfolding levels
  place-directory place d name found is n some directory =
      sym
      (ap (λ (p : Place). lines (levels tree (basis_table b) p)) (is ∙ ap (λ o. At d name o) some)
      ∙ ap (λ u. lines (cond u (directory_levels tree (basis_table b) n) (name_levels tree (basis_table b) d name))) (sym directory))

  -- ---- a place that is not a directory

  module _ (place : Place) (d : ℕ) (name : Bytes) (node : Option ℕ) (is : place ≡ At d name node) (written : Bytes) (same : written ≡ name) where
    named-same : lines (name_levels tree (basis_table b) d written) ≡ lines (name_levels tree (basis_table b) d name)
    named-same = ap (λ (w : Bytes). lines (name_levels tree (basis_table b) d w)) same

    -- nothing exists under the name
    pub place-bare : node ≡ None → lines (name_levels tree (basis_table b) d written) ≡ lines (levels tree (basis_table b) place)
    unfolding levels
    place-bare none = named-same ∙ sym (ap (λ (p : Place). lines (levels tree (basis_table b) p)) (is ∙ ap (λ o. At d name o) none))

    -- the name is of a file or a link
    pub place-other : (n : ℕ) → node ≡ Some n → false ≡ is_directory_at tree n → lines (name_levels tree (basis_table b) d written) ≡ lines (levels tree (basis_table b) place)
    unfolding levels
    place-other n some other =
        named-same
        ∙ sym
        (ap (λ (p : Place). lines (levels tree (basis_table b) p)) (is ∙ ap (λ o. At d name o) some)
        ∙ ap (λ u. lines (cond u (directory_levels tree (basis_table b) n) (name_levels tree (basis_table b) d name))) (sym other))
