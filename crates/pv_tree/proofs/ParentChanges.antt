-- Parents in trees that change.
use Rattle.std.proofs.Common.{◌≡◌, ◌≢◌, ℕ, suc, ◌+◌, Bool, true, false, cond, ◌||◌, ◌==◌, [], append-nil, flat_map, length, Option, None, Some, refl, ap, ap₂, sym, ◌∙◌, arith, ⊎_elim}
use Rattle.std.specs.Prelude.{option_to_list}
use Rattle.std.specs.List.{list_any}
use Rattle.std.proofs.lemmas.Bool.{cases_eq, eq-eqb, ne_eqb, or_left}
use Rattle.pv_model.specs.Machine.{contains_directory, Bytes, Tree, root, is_directory_at, find_entry, parent, ancestors}
use Rattle.pv_model.specs.Tree.{ancestors_within}
use Rattle.pv_laws_trees.specs.Tree.{IsSoundTree}
use Rattle.pv_laws_trees.proofs.Trees.{ordered, parent-entry, parent-none_named, parent-unnamed, parent-root, entry-parent}

-- if the entry of a directory does not change, its parent does not either
pub parent-same : (t u : Tree) → IsSoundTree t → IsSoundTree u → (n : ℕ) → is_directory_at u n ≡ true
    → ((e : ℕ) (q : Bytes) → find_entry t e q ≡ Some n → find_entry u e q ≡ Some n)
    → ((e : ℕ) (q : Bytes) → find_entry u e q ≡ Some n → find_entry t e q ≡ Some n)
    → parent u n ≡ parent t n
parent-same t u s r n is stays was =
    ⊎_elim (λ top. ap (parent u) top ∙ parent-root u ∙ sym (parent-root t) ∙ ap (parent t) (sym top))
    (λ other. by other (parent t n) refl)
    (cases_eq n root)
  where
    by : n ≢ root → (o : Option ℕ) → parent t n ≡ o → parent u n ≡ parent t n
    by other None none =
        parent-unnamed u (ordered u r.each_node) n other (λ e q found. (parent-none_named t n none).1 e q (was e q found)) ∙ sym none
    by other (Some d) up =
        let found = parent-entry t (ordered t s.each_node) n d other up in entry-parent u r n d found.0 is (stays d found.0 found.1) ∙ sym up

-- ---- the ancestors of a directory

-- among the directory and its ancestors within a number of steps
abbrev pub is_among : Tree → ℕ → ℕ → ℕ → Bool
is_among t n steps d = list_any (λ e. e == n) (ancestors_within t steps d)

pub among-all : (t : Tree) (inodes : ℕ) → length t.nodes ≡ suc inodes → (n d : ℕ) → is_among t n (inodes + 1) d ≡ contains_directory t n d
unfolding ancestors
among-all t inodes numbers n d = let same : inodes + 1 ≡ length t.nodes = omega arith in ap (λ k. is_among t n k d) same

pub among-itself : (t : Tree) (n k d : ℕ) → d ≡ n → is_among t n (suc k) d ≡ true
among-itself t n k d same = or_left (d == n) _ (eq-eqb d n same)

-- from another directory, one step up
pub among-above : (t : Tree) (n k d p : ℕ) → d ≢ n → d ≢ root → parent t d ≡ Some p → is_among t n (suc k) d ≡ is_among t n k p
among-above t n k d p other below up =
    ap₂ (λ a above. a || list_any (λ e. e == n) (flat_map (ancestors_within t k) above)) (ne_eqb d n other) (ap (λ b. cond b [] (option_to_list (parent t d))) (ne_eqb d root below) ∙ ap option_to_list up)
    ∙ ap (list_any (λ e. e == n)) (append-nil (ancestors_within t k p))

-- the root and removed directories have no ancestors
pub among-top : (t : Tree) (n k d : ℕ) → d ≢ n → d ≡ root → is_among t n (suc k) d ≡ false
among-top t n k d other top =
    ap₂ (λ a above. a || list_any (λ e. e == n) (flat_map (ancestors_within t k) above)) (ne_eqb d n other) (ap (λ b. cond b [] (option_to_list (parent t d))) (eq-eqb d root top))

pub among-removed : (t : Tree) (n k d : ℕ) → d ≢ n → d ≢ root → parent t d ≡ None → is_among t n (suc k) d ≡ false
among-removed t n k d other below up =
    ap₂ (λ a above. a || list_any (λ e. e == n) (flat_map (ancestors_within t k) above)) (ne_eqb d n other) (ap (λ b. cond b [] (option_to_list (parent t d))) (ne_eqb d root below) ∙ ap option_to_list up)
