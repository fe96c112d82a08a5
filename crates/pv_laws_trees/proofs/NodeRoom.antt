-- The room that nodes need.
use Rattle.std.proofs.Common.{◌≡◌, ℕ, zero, suc, ◌≤◌, Bool, true, false, cond, nat_le, nat_lt, List, [], ◌∷◌, filter, length, sum_by, Option, None, Some, refl, ap, subst, ◌∙◌, sym, arith, ⊎_elim}
use Rattle.std.specs.FinMap.Entries.{where_key}
use Rattle.std.specs.List.{list_any}
use Rattle.std.proofs.lemmas.Bool.{and_parts, and_from, or_cases, or_left, or_right, leb-true, leb-false, le-leb, ltb-true, ltb-false, lt-ltb, cases_eq, cases_Bool}
use Rattle.std.proofs.lemmas.List.Sums.{sum_by-cons}
use Rattle.pv_model.specs.declared.version.Version.{Version}
use Rattle.pv_model.specs.declared.version.Version.TheVariants.{V1, V2}
use Rattle.pv_model.specs.Machine.{Bytes, among, Numbered, at_number, present, entry_length, node_length, rounded_up, need, greatest_length, is_too_long, fits, Node, directory_node, file_node, link_node, Tree, node_at, entries_of, entries_at, is_directory, is_directory_at, without_entry}
use Rattle.pv_model.specs.Room.{index_blocks}
use Rattle.pv_laws_trees.specs.Preserved.{numbers_wanted, preserved}
use Rattle.pv_laws_trees.specs.Room.{IsNoLonger, IsNoLarger}
use Rattle.pv_laws_trees.proofs.TreeChanges.{node_at-same, node_at-other, directory-below}
use Rattle.pv_laws_trees.proofs.DirectoryEntries.{by_name, is_other}
use Rattle.pv_laws_trees.proofs.NumberedMaps.{at_number-keep}
use Rattle.pv_laws_trees.proofs.ListTests.{filter-fewer}

index_grows : (v : Version) (a b : ℕ) → a ≤ b → index_blocks v a ≤ index_blocks v b
index_grows V1 a b le = by (nat_le a 10) (nat_le b 10) refl refl
  where
    by : (x y : Bool) → nat_le a 10 ≡ x → nat_le b 10 ≡ y → cond x 0 1 ≤ cond y 0 1
    by true true p q = omega arith
    by true false p q = omega arith
    by false true p q = absurd (omega (arith, leb-false a 10 p, leb-true b 10 q))
    by false false p q = omega arith
index_grows V2 a b le = omega arith

pub need_grows : (v : Version) (m n : ℕ) → m ≤ n → need v m ≤ need v n
unfolding need
need_grows v m n le =
    let blocks : rounded_up m 512 ≤ rounded_up n 512 = omega arith in
    omega (arith, index_grows v (rounded_up m 512) (rounded_up n 512) blocks)

pub greatest-low : (v : Version) → greatest_length v ≤ 660480
greatest-low V1 = omega arith
greatest-low V2 = omega arith

module _ (v : Version) where
  abbrev needed : Node → ℕ
  needed node = need v (node_length v node)

  none_present : (xs : Numbered Node) → ((n : ℕ) → IsNoLonger v (at_number xs n) None) → present xs ≡ []
  none_present [] less = refl
  none_present (None ∷ xs) less = none_present xs (λ n. less (suc n))
  none_present (Some node ∷ xs) less = absurd (less zero)

  fewer : (xs ys : Numbered Node) → ((n : ℕ) → IsNoLonger v (at_number xs n) (at_number ys n)) → length (present xs) ≤ length (present ys)
  fewer [] ys less = omega arith
  fewer (x ∷ xs) [] less = omega (arith, ap length (none_present (x ∷ xs) less))
  fewer (None ∷ xs) (None ∷ ys) less = fewer xs ys (λ n. less (suc n))
  fewer (None ∷ xs) (Some other ∷ ys) less = omega (arith, fewer xs ys (λ n. less (suc n)))
  fewer (Some node ∷ xs) (None ∷ ys) less = absurd (less zero)
  fewer (Some node ∷ xs) (Some other ∷ ys) less = omega (arith, fewer xs ys (λ n. less (suc n)))

  needs_less : (xs ys : Numbered Node) → ((n : ℕ) → IsNoLonger v (at_number xs n) (at_number ys n)) → sum_by needed (present xs) ≤ sum_by needed (present ys)
  needs_less [] ys less = omega arith
  needs_less (x ∷ xs) [] less = omega (arith, ap (sum_by needed) (none_present (x ∷ xs) less))
  needs_less (None ∷ xs) (None ∷ ys) less = needs_less xs ys (λ n. less (suc n))
  needs_less (None ∷ xs) (Some other ∷ ys) less = omega (arith, sum_by-cons needed other (present ys), needs_less xs ys (λ n. less (suc n)))
  needs_less (Some node ∷ xs) (None ∷ ys) less = absurd (less zero)
  needs_less (Some node ∷ xs) (Some other ∷ ys) less =
      omega (arith, sum_by-cons needed node (present xs), sum_by-cons needed other (present ys), need_grows v (node_length v node) (node_length v other) (less zero), needs_less xs ys (λ n. less (suc n)))

  abbrev longer : Node → Bool
  longer node = nat_lt (greatest_length v) (node_length v node)

  longer_there : (xs ys : Numbered Node) → ((n : ℕ) → IsNoLonger v (at_number xs n) (at_number ys n)) → list_any longer (present xs) ≡ true → list_any longer (present ys) ≡ true
  longer_there [] ys less is = cc
  longer_there (x ∷ xs) [] less is = let none = ap (list_any longer) (none_present (x ∷ xs) less) in cc
  longer_there (None ∷ xs) (None ∷ ys) less is = longer_there xs ys (λ n. less (suc n)) is
  longer_there (None ∷ xs) (Some other ∷ ys) less is = or_right (longer other) _ (longer_there xs ys (λ n. less (suc n)) is)
  longer_there (Some node ∷ xs) (None ∷ ys) less is = absurd (less zero)
  longer_there (Some node ∷ xs) (Some other ∷ ys) less is =
      ⊎_elim (λ here. or_left (longer other) _ (lt-ltb (greatest_length v) (node_length v other) (omega (arith, less zero, ltb-true (greatest_length v) (node_length v node) here))))
      (λ there. or_right (longer other) _ (longer_there xs ys (λ n. less (suc n)) there)) (or_cases (longer node) (list_any longer (present xs)) is)

  -- a node that is too long is found
  found_longer : (xs : Numbered Node) (n : ℕ) (node : Node) → at_number xs n ≡ Some node → longer node ≡ true → list_any longer (present xs) ≡ true
  found_longer [] n node at is = cc
  found_longer (None ∷ xs) zero node at is = cc
  found_longer (None ∷ xs) (suc n) node at is = found_longer xs n node at is
  found_longer (Some other ∷ xs) zero node at is = let same : other ≡ node = cc at in or_left (longer other) _ (ap longer same ∙ is)
  found_longer (Some other ∷ xs) (suc n) node at is = or_right (longer other) _ (found_longer xs n node at is)

  -- no node is too long
  pub not_longer : (xs : Numbered Node) (n : ℕ) (node : Node) → at_number xs n ≡ Some node → list_any longer (present xs) ≡ false → node_length v node ≤ greatest_length v
  not_longer xs n node at fails =
      ⊎_elim (λ is. let found = found_longer xs n node at is in cc) (λ is. ltb-false (greatest_length v) (node_length v node) is) (cases_Bool (longer node))

pub smaller-fits : (t u : Tree) → IsNoLarger u t → fits t ≡ true → fits u ≡ true
unfolding fits
smaller-fits t u less is =
    let parts = and_parts (nat_le (length (present t.nodes)) t.inodes) _ is in
    and_from _ _
    (le-leb (length (present u.nodes)) u.inodes (omega (arith, less.inodes, fewer t.version u.nodes t.nodes less.nodes, leb-true (length (present t.nodes)) t.inodes parts.0)))
    (ap (λ v. nat_le (sum_by (needed v) (present u.nodes)) u.blocks) less.version
    ∙ le-leb (sum_by (needed t.version) (present u.nodes)) u.blocks
    (omega (arith, less.blocks, needs_less t.version u.nodes t.nodes less.nodes, leb-true (sum_by (needed t.version) (present t.nodes)) t.blocks parts.1)))

pub smaller-not_too_long : (t u : Tree) → IsNoLarger u t → is_too_long u ≡ true → is_too_long t ≡ true
unfolding is_too_long
smaller-not_too_long t u less is =
    longer_there t.version u.nodes t.nodes less.nodes (ap (λ v. list_any (longer v) (present u.nodes)) (sym less.version) ∙ is)

-- the length of a node in a tree without nodes that are too long
pub length-within : (t : Tree) (n : ℕ) (node : Node) → node_at t n ≡ Some node → is_too_long t ≡ false → node_length t.version node ≤ greatest_length t.version
unfolding is_too_long
length-within t n node at fails = not_longer t.version t.nodes n node at fails

pub too_long-at : (t : Tree) (n : ℕ) (node : Node) → node_at t n ≡ Some node → nat_lt (greatest_length t.version) (node_length t.version node) ≡ true → is_too_long t ≡ true
unfolding is_too_long
too_long-at t n node at is = found_longer t.version t.nodes n node at is

-- ---- collection does not enlarge a tree

no_longer : (v : Rattle.pv_model.specs.declared.version.Version.Version) (b : Bool) (o : Option Node) → IsNoLonger v (Rattle.pv_model.specs.Numbered.keep_if b o) o
no_longer v true None = tt
no_longer v true (Some node) = Rattle.std.proofs.Common.le_refl _
no_longer v false o = tt

pub preserved-no_larger : (t : Tree) (held : List ℕ) → IsNoLarger (preserved t held) t
preserved-no_larger t held = record {
  blocks = refl;
  inodes = refl;
  version = refl;
  nodes = λ n. subst (λ o. IsNoLonger t.version o (node_at t n)) (sym (at_number-keep (among (numbers_wanted t held)) t.nodes n)) (no_longer t.version (among (numbers_wanted t held) n) (node_at t n));
}

-- ---- one entry less

no_longer-self : (v : Rattle.pv_model.specs.declared.version.Version.Version) (o : Option Node) → IsNoLonger v o o
no_longer-self v None = tt
no_longer-self v (Some node) = Rattle.std.proofs.Common.le_refl _

shorter : (t : Tree) (d : ℕ) (keeps : Bytes × ℕ → Bool) (o : Option Node) → is_directory o ≡ true → IsNoLonger t.version (Some (directory_node (filter keeps (entries_of o)))) o
shorter t d keeps None dir = cc
shorter t d keeps (Some (directory_node es)) dir = Rattle.std.proofs.Common.mul-le-mul_left (entry_length t.version) (filter-fewer keeps es)
shorter t d keeps (Some (file_node executable bytes)) dir = cc
shorter t d keeps (Some (link_node text)) dir = cc

pub no_larger-without : (t : Tree) (d : ℕ) (name : Bytes) → is_directory_at t d ≡ true → IsNoLarger (without_entry t d name) t
no_larger-without t d name dir =
    let below = directory-below t d dir in
    let new : Node = directory_node (where_key by_name (is_other name) (entries_at t d)) in
    record {
      blocks = refl;
      inodes = refl;
      version = refl;
      nodes = λ n. ⊎_elim
          (λ same. subst (λ k. IsNoLonger t.version (node_at (without_entry t d name) k) (node_at t k)) (sym same)
          (subst (λ o. IsNoLonger t.version o (node_at t d)) (sym (node_at-same t d new below)) (shorter t d (λ e. is_other name e.0) (node_at t d) dir)))
          (λ other. subst (λ o. IsNoLonger t.version o (node_at t n)) (sym (node_at-other t d new n below other)) (no_longer-self t.version (node_at t n))) (cases_eq n d);
    }
