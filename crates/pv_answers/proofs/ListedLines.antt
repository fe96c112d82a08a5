-- The lines of a name of a tree and of all names below it, one entry at a time.
use Rattle.std.proofs.Common.{◌≡◌, ℕ, zero, suc, ◌-◌, ◌<◌, true, [], ◌∷◌, ◌++◌, ◌∙◌, flat_map, codes, List, Option, None, Some, option_map, refl, ap, ap₂, append_assoc, sym, subst, arith}
use Rattle.std.specs.Prelude.{IfSome}
use Rattle.std.specs.FinMap.Entries.{find, is_sorted}
use Rattle.std.proofs.lemmas.Grind.{flat_map-append}
use Rattle.pv_model.specs.declared.perms.Perms.{Perms}
use Rattle.pv_model.specs.declared.place.Place.{Place}
use Rattle.pv_model.specs.declared.place.Place.TheVariants.{At}
use Rattle.pv_model.specs.Machine.{permissions_in_places, with_name, ListedName, Bytes, next_name, entries_of_table, listed_path, quote, quote_byte, Entries, Tree, entries_at, find_entry, IsWellFormed, governing_entry}
use Rattle.pv_model.specs.Answers.Reach.{names_within}
use Rattle.pv_calls_state.proofs.OfLawsTrees.DirectoryEntries.{by_name}
use Rattle.pv_calls_state.proofs.OfLawsTrees.Trees.{ordered}
use Rattle.pv_listing.specs.Lines.{entries_after}
use Rattle.pv_listing.proofs.DirectoryNames.{next-first, next-none}
use Rattle.pv_streams.proofs.TextRemainders.{LeavesRest, rest_all, rest_after}
use Rattle.pv_streams.specs.Sinks.{and_all}
use Rattle.pv_answers.specs.declared.reach.names.LinkedPath.{LinkedPath}
use Rattle.pv_answers.specs.declared.reach.reacher.Reacher.{Reacher}
use Rattle.pv_answers.specs.Reaching.{all_on, lines_under, listed_lines_within, listed_line, listed_lines, listed_words, may_line, linked_path_bytes, permitted_by, reacher_state, reacher_table, who_by}
use Rattle.pv_answers.proofs.PermissionsAtPlaces.{governed-is}

-- a path with a slash is listed as it is
pub listed-below : (path name : Bytes) → listed_path (path ++ codes "/" ++ name) ≡ path ++ codes "/" ++ name
listed-below [] name = refl
listed-below (b ∷ bs) name = refl

-- the names of a path, and one more name
pub names-below : (path : LinkedPath) (above name : Bytes) → linked_path_bytes path ≡ with_name name above → flat_map quote_byte (linked_path_bytes path) ≡ flat_map quote_byte above ++ flat_map quote_byte (codes "/" ++ name)
names-below path above name is = ap (flat_map quote_byte) (is ∙ append_assoc above (codes "/") name) ∙ flat_map-append quote_byte above (codes "/" ++ name)

-- a path that ends in a name, as a quoted text
pub text-below : (path : LinkedPath) (above name : Bytes) → linked_path_bytes path ≡ with_name name above
    → codes "\"" ++ flat_map quote_byte above ++ flat_map quote_byte (codes "/" ++ name) ++ codes "\"" ≡ quote (listed_path (linked_path_bytes path))
text-below path above name is =
    ap (λ (bs : Bytes). 34 ∷ (bs ++ 34 ∷ []))
    (sym (ap (λ bs. flat_map quote_byte (listed_path bs)) is ∙ ap (flat_map quote_byte) (listed-below above name) ∙ sym (ap (flat_map quote_byte) is) ∙ names-below path above name is))

-- ---- the remaining entries

-- the next entry, and those after it
abbrev pub upcoming : Entries → Option (Bytes × ℕ) → Entries
upcoming es None = []
upcoming es (Some e) = e ∷ entries_after (Some e.0) es

pub upcoming-is : (es : Entries) (last : Option Bytes) (next : Option (Bytes × ℕ)) → is_sorted by_name es ≡ true → option_map (λ (e : Bytes × ℕ). e.0) next ≡ next_name last es
    → IfSome next (λ e. find by_name e.0 es ≡ Some e.1) → entries_after last es ≡ upcoming es next
upcoming-is es last None sorted is found = next-none last es (sym is)
upcoming-is es last (Some e) sorted is found =
    let first = next-first last es e.0 sorted (sym is) in
    let same : first.0 ≡ e.1 = cc (first.1.found, found) in
    first.1.first ∙ ap (λ (n : ℕ). (e.0, n) ∷ entries_after (Some e.0) es) same

-- the next entry, as the tree returns it
pub next-is : (t tree : Tree) → tree ≡ t → IsWellFormed t → (n : ℕ) (last : Option Bytes) (next : Option (Bytes × ℕ)) → option_map (λ (e : Bytes × ℕ). e.0) next ≡ next_name last (entries_at tree n)
    → IfSome next (λ e. find_entry tree n e.0 ≡ Some e.1) → entries_after last (entries_at t n) ≡ upcoming (entries_at t n) next
next-is t tree same w n last next is found =
    let sorted : is_sorted by_name (entries_at tree n) ≡ true = ap (λ (u : Tree). is_sorted by_name (entries_at u n)) same ∙ ordered t w.each_node n in
    subst (λ (u : Tree). entries_after last (entries_at u n) ≡ upcoming (entries_at u n) next) same (upcoming-is (entries_at tree n) last next sorted is found)

module _ (x : Reacher) where
  abbrev t : Tree
  t = (reacher_state x).tree

  -- ---- one line

  -- the line of a name, by its governing entry
  listed-is : (path : Bytes) (place : Place) (n : ℕ)
      → may_line x (listed_words x path (governing_entry t (entries_of_table (reacher_table x)) place) n) ≡ listed_line x (record { path = path; place = place; node = n })
  listed-is path place n = ap (λ bs. may_line x (bs ++ all_on x n)) (governed-is x place (quote (listed_path path)))

  -- the line from the parts that the code writes
  pub listed-by : (path : Bytes) (place : Place) (n : ℕ) (entry : Option ℕ) (letters : Perms) → letters ≡ permitted_by x.owned.now entry
      → entry ≡ governing_entry t (entries_of_table (reacher_table x)) place
      → may_line x (permissions_in_places letters ++ codes " " ++ quote (listed_path path) ++ codes ", " ++ who_by (reacher_table x) entry ++ all_on x n)
      ≡ listed_line x (record { path = path; place = place; node = n })
  listed-by path place n entry letters permitted governs =
      ap (λ (ps : Perms). may_line x (permissions_in_places ps ++ codes " " ++ quote (listed_path path) ++ codes ", " ++ who_by (reacher_table x) entry ++ all_on x n)) permitted
      ∙ ap (λ k. may_line x (listed_words x path k n)) governs ∙ listed-is path place n

  -- ---- a node and the names below it

  lines-flat : (g : Bytes × ℕ → List ListedName) (es : Entries) → listed_lines x (flat_map g es) ≡ flat_map (λ e. listed_lines x (g e)) es
  lines-flat g [] = refl
  lines-flat g (e ∷ es) = flat_map-append (listed_line x) (g e) (flat_map g es) ∙ ap (λ bs. listed_lines x (g e) ++ bs) (lines-flat g es)

  pub lines-are : (depth : ℕ) (path : Bytes) (place : Place) (n : ℕ) → 0 < depth
      → listed_lines_within x depth path place n ≡ listed_line x (record { path = path; place = place; node = n }) ++ lines_under x (depth - 1) path n (entries_at t n)
  lines-are zero path place n some = absurd (omega arith)
  lines-are (suc depth) path place n some =
      let less : depth ≡ suc depth - 1 = omega arith in
      ap (λ bs. listed_line x (record { path = path; place = place; node = n }) ++ bs)
      (lines-flat (λ e. names_within t depth (with_name e.0 path) (At n e.0 (Some e.1)) e.1) (entries_at t n) ∙ ap (λ k. lines_under x k path n (entries_at t n)) less)

  -- after the line of a node, the lines of its entries remain
  pub node_left : (depth : ℕ) (path : Bytes) (place : Place) (n : ℕ) (es : Entries) (before after : Option Bytes) → 0 < depth → entries_at t n ≡ es
      → after ≡ and_all before (listed_line x (record { path = path; place = place; node = n }))
      → LeavesRest (lines_under x (depth - 1) path n es) (listed_lines_within x depth path place n) before after
  node_left depth path place n es before after some are written =
      let line = listed_line x (record { path = path; place = place; node = n }) in
      rest_after (listed_lines_within x depth path place n) line _ _ before before after (rest_all _ before)
      (lines-are depth path place n some ∙ ap (λ (xs : Entries). line ++ lines_under x (depth - 1) path n xs) are) written

  -- the lines of an entry, with its name as the code writes it
  pub child-is : (depth : ℕ) (path name first second : Bytes) (spot : Place) (n child : ℕ) → first ≡ name → spot ≡ At n second (Some child) → second ≡ name
      → listed_lines_within x depth (with_name first path) spot child ≡ listed_lines_within x depth (with_name name path) (At n name (Some child)) child
  child-is depth path name first second spot n child a is b =
      ap₂ (λ (bs : Bytes) (place : Place). listed_lines_within x depth (with_name bs path) place child) a (is ∙ ap (λ (bs : Bytes). At n bs (Some child)) b)
