-- The first name of a program, in the order of the listing.
use Rattle.std.proofs.Common.{◌≡◌, ◌∙◌, sym, ap, ap₂, ℕ, zero, suc, ◌-◌, ◌<◌, Bool, true, false, cond, if◌then◌else◌, List, [], ◌∷◌, ◌++◌, length, flat_map, filter, append_assoc, append-nil, codes, Option, None, Some, option_map, refl, arith}
use Rattle.pv_model.specs.declared.place.Place.{Place}
use Rattle.pv_model.specs.declared.place.Place.TheVariants.{At, Node as Unnamed}
use Rattle.pv_model.specs.Machine.{first_of, with_name, program_numbers, ListedName, Bytes, program_of, Program, Entries, Tree, root, entries_at}
use Rattle.pv_model.specs.Answers.ProgramNames.{holds_program, is_program, program_words}
use Rattle.pv_model.specs.Answers.Reach.{listed_names, names_within}
use Rattle.pv_programs.specs.Naming.{below_name, first_under, first_within, has_numbers, holds_numbers, or_next, path_words, program_at}

-- ---- the first of filtered elements

module _ {X : Type 0} (p : X → Bool) where
  abbrev first_with : List X → Option X
  first_with xs = first_of (filter p xs)

  first-append : (xs ys : List X) → first_with (xs ++ ys) ≡ or_next (first_with xs) (first_with ys)
  first-append [] ys = refl
  first-append (x ∷ xs) ys = by (p x) (first-append xs ys)
    where
      by : (b : Bool) → first_with (xs ++ ys) ≡ or_next (first_with xs) (first_with ys)
          → first_of (cond b (x ∷ filter p (xs ++ ys)) (filter p (xs ++ ys))) ≡ or_next (first_of (cond b (x ∷ filter p xs) (filter p xs))) (first_with ys)
      by true is = refl
      by false is = is

map-or : {X Y : Type 0} (f : X → Y) (a b : Option X) → option_map f (or_next a b) ≡ or_next (option_map f a) (option_map f b)
map-or f None b = refl
map-or f (Some x) b = refl

-- ---- the first name

module _ (holds : ℕ → Bool) (t : Tree) where
  abbrev holds_name : ListedName → Bool
  holds_name l = holds l.node

  abbrev path_of : ListedName → Bytes
  path_of l = l.path

  abbrev beyond : Bytes → Option Bytes → Option Bytes
  beyond path rest = option_map (λ r. path ++ r) rest

  beyond-below_name : (path name : Bytes) (o : Option Bytes) → beyond (with_name name path) o ≡ beyond path (below_name name o)
  beyond-below_name path name None = refl
  beyond-below_name path name (Some rest) =
      ap Some (append_assoc (path ++ codes "/") name rest ∙ append_assoc path (codes "/") (name ++ rest) ∙ ap (λ (bs : Bytes). path ++ bs) (sym (append_assoc (codes "/") name rest)))

  abbrev IsFirst : ℕ → Type 0
  IsFirst depth = (path : Bytes) (place : Place) (n : ℕ) → option_map path_of (first_of (filter holds_name (names_within t depth path place n))) ≡ beyond path (first_within holds t depth n)

  first-is : (depth : ℕ) → IsFirst depth
  first-is zero path place n = refl
  first-is (suc depth) path place n = by (holds n) (under (first-is depth) (entries_at t n))
    where
      names : Bytes × ℕ → List ListedName
      names e = names_within t depth (with_name e.0 path) (At n e.0 (Some e.1)) e.1

      under : IsFirst depth → (es : Entries) → option_map path_of (first_of (filter holds_name (flat_map (λ e. names_within t depth (with_name e.0 path) (At n e.0 (Some e.1)) e.1) es))) ≡ beyond path (first_under holds t depth es)
      under is [] = refl
      under is (e ∷ es) =
          let own : List ListedName = names_within t depth (with_name e.0 path) (At n e.0 (Some e.1)) e.1 in
          let others : List ListedName = flat_map (λ e. names_within t depth (with_name e.0 path) (At n e.0 (Some e.1)) e.1) es in
          ap (option_map path_of) (first-append holds_name own others)
          ∙ map-or path_of (first_of (filter holds_name own)) (first_of (filter holds_name others))
          ∙ ap₂ or_next (is (with_name e.0 path) (At n e.0 (Some e.1)) e.1 ∙ beyond-below_name path e.0 (first_within holds t depth e.1)) (under is es)
          ∙ sym (map-or (λ (r : Bytes). path ++ r) (below_name e.0 (first_within holds t depth e.1)) (first_under holds t depth es))

      by : (b : Bool) → option_map path_of (first_of (filter holds_name (flat_map (λ e. names_within t depth (with_name e.0 path) (At n e.0 (Some e.1)) e.1) (entries_at t n)))) ≡ beyond path (first_under holds t depth (entries_at t n))
          → option_map path_of (first_of (cond b (record { path = path; place = place; node = n } ∷ filter holds_name (flat_map (λ e. names_within t depth (with_name e.0 path) (At n e.0 (Some e.1)) e.1) (entries_at t n))) (filter holds_name (flat_map (λ e. names_within t depth (with_name e.0 path) (At n e.0 (Some e.1)) e.1) (entries_at t n)))))
          ≡ beyond path (if b then Some [] else first_under holds t depth (entries_at t n))
      by true is = ap Some (sym (append-nil path))
      by false is = is

  pub first-from : (depth n : ℕ) → 0 < depth → holds n ≡ false → first_within holds t depth n ≡ first_under holds t (depth - 1) (entries_at t n)
  first-from zero n some other = absurd (omega arith)
  first-from (suc depth) n some other =
      let less : depth ≡ suc depth - 1 = omega arith in
      ap (λ b. if b then Some [] else first_under holds t depth (entries_at t n)) other ∙ ap (λ k. first_under holds t k (entries_at t n)) less

  pub first-here : (depth n : ℕ) → 0 < depth → holds n ≡ true → first_within holds t depth n ≡ Some []
  first-here zero n some here = absurd (omega arith)
  first-here (suc depth) n some here = ap (λ b. if b then Some [] else first_under holds t depth (entries_at t n)) here

  as-it_is : (o : Option Bytes) → beyond [] o ≡ o
  as-it_is None = refl
  as-it_is (Some path) = refl

  pub first-listed : option_map path_of (first_of (filter holds_name (listed_names t))) ≡ first_within holds t (length t.nodes) root
  first-listed = first-is (length t.nodes) [] (Unnamed root) root ∙ as-it_is (first_within holds t (length t.nodes) root)

-- ---- the first name of a program

module _ (t : Tree) (program : Program) where
  numbers-tested : (o : Option Program) → has_numbers (program_numbers program) o ≡ is_program program o
  numbers-tested None = refl
  numbers-tested (Some other) = refl

  filter-alike : (p q : ListedName → Bool) → ((l : ListedName) → p l ≡ q l) → (ls : List ListedName) → filter p ls ≡ filter q ls
  filter-alike p q same [] = refl
  filter-alike p q same (l ∷ ls) = ap₂ (λ b (rest : List ListedName). cond b (l ∷ rest) rest) (same l) (filter-alike p q same ls)

  words-of : (o : Option ListedName) → path_words (option_map (λ l. l.path) o) ≡ program_words o
  words-of None = refl
  words-of (Some l) = refl

  pub words-are : (path : Option Bytes) → path ≡ first_within (holds_numbers t (program_numbers program)) t (length t.nodes) root
      → path_words path ≡ program_words (first_of (filter (λ l. holds_program program_of t program l.node) (listed_names t)))
  words-are path is =
      ap path_words (is ∙ sym (first-listed (holds_numbers t (program_numbers program)) t))
      ∙ words-of (first_of (filter (λ l. holds_numbers t (program_numbers program) l.node) (listed_names t)))
      ∙ ap (λ (ls : List ListedName). program_words (first_of ls))
      (filter-alike (λ l. holds_numbers t (program_numbers program) l.node) (λ l. holds_program program_of t program l.node) (λ l. numbers-tested (program_at t l.node)) (listed_names t))
