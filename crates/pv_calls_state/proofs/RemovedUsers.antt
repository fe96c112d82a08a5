-- Removal of users, one at a time.
use Rattle.std.proofs.Common.{◌≡◌, ◌≢◌, ℕ, zero, suc, ◌+◌, ◌-◌, ◌<◌, ◌≤◌, List, [], ◌∷◌, length, drop, None, Some, refl, ap, sym, subst, ◌∙◌, arith}
use Rattle.std.specs.Prelude.{slice_index, slice_set, IsSome, option_map}
use Rattle.std.proofs.lemmas.List.{drop_all, get_or-set_same, get_or-set_other}
use Rattle.pv_files.specs.Counted.{Counted, IsCounted}
use Rattle.pv_model.specs.Machine.{Numbered, at_number, without_number, Descriptor, OpenFile, Tree, IsWellFormed}
use Rattle.pv_procs.specs.OfTree.Holding.{HeldTree, holds_at, referenced_numbers, collected}
use Rattle.pv_procs.specs.OfTree.Present.{IsPresent}
use Rattle.pv_laws_trees.proofs.Collection.{in_turn}
use Rattle.pv_laws_trees.proofs.NameCounts.{positive-is, is-positive}
use Rattle.pv_laws_trees.proofs.NumberedMaps.{without_number-other}
use Rattle.pv_laws_trees.proofs.ReferenceCounts.{held-is}
use Rattle.pv_calls_state.specs.Counts.{times, open_nodes}
use Rattle.pv_calls_state.specs.Releasing.{files_on, if_marked, marked_of, HoldsOpened, Releases}
use Rattle.pv_calls_state.proofs.CollectionByCounts.{one_if}
use Rattle.pv_calls_state.proofs.ReferenceCounting.{times-one, one-self, one-apart, indexed-within, times-without_number, times-drop, place-is, place-none}

-- collecting in two steps equals collecting at once
pub collected_in_turn : (t : Tree) (many few : List ℕ) → IsWellFormed t → ((n : ℕ) → slice_index few n ≤ slice_index many n) → collected (collected t many) few ≡ collected t few
collected_in_turn t many few well fewer =
    in_turn t (referenced_numbers many) (referenced_numbers few) well
    (λ n is. let more : 0 < slice_index few n = is-positive (slice_index few n) (sym (held-is few n) ∙ is) in
    let less = fewer n in held-is many n ∙ positive-is (slice_index many n) (omega arith))

-- ---- open files and their nodes

abbrev pub of_node : OpenFile → ℕ
of_node f = f.node

-- the node of an open file is referenced
pub open-held : (t : HeldTree) (c : Counted) (file node : ℕ) → HoldsOpened t c → option_map of_node (at_number c.files file) ≡ Some node → 0 < holds_at t node
open-held t c file node held at =
    omega (arith, held.each node, times-without_number of_node node c.files file, place-is of_node node (at_number c.files file) node at, one-self node)

-- ---- removal of users

-- no user is removed
pub releases-none : (all : List ℕ) (tree : HeldTree) (counted : Counted) → IsPresent tree → Releases all all tree counted tree counted
releases-none all tree counted present = record {
  users = λ k. refl;
  files = λ k more. refl;
  holds = λ n. refl;
  fewer = λ n. omega arith;
  nodes = sym present.is_collected;
}

-- the same for equal values
pub releases-as : (all left : List ℕ) (t : HeldTree) (c : Counted) (u w : HeldTree) (d e : Counted) → w ≡ u → e ≡ d → Releases all left t c u d → Releases all left t c w e
releases-as all left t c u w d e tree files is = subst (λ x. Releases all left t c x e) (sym tree) (subst (λ y. Releases all left t c u y) (sym files) is)

-- one more user is removed
pub releases-more : (all left rest : List ℕ) (file : ℕ) (t : HeldTree) (c : Counted) (u : HeldTree) (d : Counted) (w : HeldTree) (e : Counted) → IsPresent t
    → ((k : ℕ) → times k left ≡ one_if file k + times k rest) → Releases all left t c u d → Releases (file ∷ []) [] u d w e → Releases all rest t c w e
releases-more all left rest file t c u d w e present next before one = record {
  users = λ k. omega (arith, before.users k, one.users k, next k, times-one k file);
  files = λ k more. one.files k more ∙ before.files k (let gone = one.users k in omega (arith, one.users k));
  holds = λ n. omega (arith, before.holds n, one.holds n);
  fewer = λ n. omega (arith, before.fewer n, one.fewer n);
  nodes = one.nodes ∙ ap (λ x. collected x w.holds) before.nodes ∙ collected_in_turn t.tree u.holds w.holds present.well_formed one.fewer;
}

-- an index without an element leaves the same users
pub releases-same : (all left rest : List ℕ) (t : HeldTree) (c : Counted) (u : HeldTree) (d : Counted) → ((k : ℕ) → times k left ≡ times k rest)
    → Releases all left t c u d → Releases all rest t c u d
releases-same all left rest t c u d same before = record {
  users = λ k. omega (arith, before.users k, same k);
  files = before.files;
  holds = before.holds;
  fewer = before.fewer;
  nodes = before.nodes;
}

-- ---- the users that descriptors are, one at a time

abbrev pub of_file : Descriptor → ℕ
of_file d = d.file

pub marked-at : (ds : Numbered Descriptor) (k : ℕ) → at_number (marked_of ds) k ≡ if_marked (at_number ds k)
marked-at [] k = refl
marked-at (o ∷ ds) zero = refl
marked-at (o ∷ ds) (suc k) = marked-at ds k

-- no descriptor at an index
pub releases-nothing : (all : List ℕ) (places : Numbered Descriptor) (k : ℕ) (t : HeldTree) (c : Counted) (u : HeldTree) (d : Counted) → option_map of_file (at_number places k) ≡ None
    → Releases all (files_on (drop k places)) t c u d → Releases all (files_on (drop (k + 1) places)) t c u d
releases-nothing all places k t c u d none before =
    releases-same all (files_on (drop k places)) (files_on (drop (k + 1) places)) t c u d
    (λ n. omega (arith, times-drop of_file n places k, place-none of_file n (at_number places k) none)) before

-- a descriptor at an index
module _ (all : List ℕ) (places : Numbered Descriptor) (k file : ℕ) (t : HeldTree) (c : Counted) (u : HeldTree) (d : Counted)
    (at : option_map of_file (at_number places k) ≡ Some file) (before : Releases all (files_on (drop k places)) t c u d) where
  pub still-used : ((n : ℕ) → times n all ≤ slice_index c.users n) → IsCounted d → IsSome (at_number d.files file)
  still-used used is =
      (is.used file).1 (omega (arith, before.users file, used file, times-drop of_file file places k, place-is of_file file (at_number places k) file at, one-self file))

  pub releases-next : (w : HeldTree) (e : Counted) → IsPresent t → Releases (file ∷ []) [] u d w e → Releases all (files_on (drop (k + 1) places)) t c w e
  releases-next w e present one =
      releases-more all (files_on (drop k places)) (files_on (drop (k + 1) places)) file t c u d w e present
      (λ n. omega (arith, times-drop of_file n places k, place-is of_file n (at_number places k) file at)) before one

-- all indices are done
pub releases-all : (all : List ℕ) (places : Numbered Descriptor) (k : ℕ) (t : HeldTree) (c : Counted) (u : HeldTree) (d : Counted) → length places ≤ k
    → Releases all (files_on (drop k places)) t c u d → Releases all [] t c u d
releases-all all places k t c u d past before =
    releases-same all (files_on (drop k places)) [] t c u d (λ n. ap (λ xs. times n (files_on xs)) (drop_all k places past)) before

-- open files still have a reference to their nodes
pub still-opened : (all left : List ℕ) (t : HeldTree) (c : Counted) (u : HeldTree) (d : Counted) → HoldsOpened t c → Releases all left t c u d → HoldsOpened u d
still-opened all left t c u d held before = record { each = λ n. omega (arith, held.each n, before.holds n) }

-- an open file has one user less
module _ (file : ℕ) (c d : Counted) (used : 0 < slice_index c.users file) (users : d.users ≡ slice_set c.users file (slice_index c.users file - 1)) where
  one-less : (k : ℕ) → slice_index d.users k + one_if file k ≡ slice_index c.users k
  one-less = one-apart (slice_index d.users) (slice_index c.users) file
      (omega (arith, ap (λ us. slice_index us file) users, get_or-set_same c.users file (slice_index c.users file - 1) 0 (indexed-within c.users file used)))
      (λ k other. ap (λ us. slice_index us k) users ∙ get_or-set_other c.users file k (slice_index c.users file - 1) 0 other)

  -- it has other users
  pub releases-stays : (t : HeldTree) → IsPresent t → d.files ≡ c.files → Releases (file ∷ []) [] t c t d
  releases-stays t present files = record {
    users = λ k. omega (arith, one-less k, times-one k file);
    files = λ k more. ap (λ fs. at_number fs k) files;
    holds = λ n. ap (λ fs. holds_at t n + times n (open_nodes fs)) (sym files);
    fewer = λ n. omega arith;
    nodes = sym present.is_collected;
  }

  -- it was the last user
  pub releases-closes : (t u : HeldTree) (node : ℕ) → option_map (λ f. f.node) (at_number c.files file) ≡ Some node → slice_index c.users file ≡ 1 → d.files ≡ without_number c.files file
      → u.tree ≡ collected t.tree u.holds → holds_at u node + 1 ≡ holds_at t node → ((n : ℕ) → n ≢ node → holds_at u n ≡ holds_at t n)
      → Releases (file ∷ []) [] t c u d
  releases-closes t u node at last files nodes less others = record {
    users = λ k. omega (arith, one-less k, times-one k file);
    files = λ k more. ap (λ fs. at_number fs k) files
        ∙ without_number-other c.files file k (λ same. let gone = one-less file in let here = ap (slice_index d.users) same in absurd (omega (arith, one-self file)));
    holds = λ n.
        omega (
          arith,
          times-without_number of_node n c.files file,
          place-is of_node n (at_number c.files file) node at,
          one-apart (holds_at u) (holds_at t) node less others n,
          ap (λ fs. times n (open_nodes fs)) files,
        );
    fewer = λ n. omega (arith, one-apart (holds_at u) (holds_at t) node less others n);
    nodes = nodes;
  }
