-- One step of a climb, and the start of a climb for a place.
use Rattle.std.proofs.Common.{◌≡◌, ◌≢◌, ℕ, zero, suc, ◌<◌, ◌≤◌, Bool, true, false, cond, nat_lt, ◌==◌, ◌⊎◌, inl, inr, [], ◌∷◌, length, Option, None, Some, is_none, Ok, refl, sym, ap, subst, ◌∙◌, arith}
use Rattle.std.specs.Prelude.{option_and_then, unwrap_or}
use Rattle.std.proofs.lemmas.Bool.{lt-ltb, le-ltb, ne_eqb}
use Rattle.std.specs.List.{list_all}
use Rattle.pv_model.specs.declared.follow.Follow.{Follow}
use Rattle.pv_model.specs.declared.place.Place.{Place}
use Rattle.pv_model.specs.declared.place.Place.TheVariants.{At, Node as Unnamed}
use Rattle.pv_model.specs.declared.target.Target.TheVariants.{Directory}
use Rattle.pv_model.specs.Machine.{Bytes, Tree, root, is_directory_at, parent, IsWellFormed, Table, entry_for, Governs, own, from_above, directory_rights, resolve}
use Rattle.pv_model.proofs.GoverningEntries.{Governs-directory_rights, directory_rights-Governs}
use Rattle.pv_model.specs.Unveil.{climb}
use Rattle.pv_tree.proofs.OfLawsTrees.WalkPlaces.{IsGoodPlace, parent-directory, resolve-good}
use Rattle.pv_tree.proofs.OfLawsTrees.Ancestors.{IsBelow, at_root, one_below, appears-reached, reached-below, depth-below}
use Rattle.pv_tree.proofs.OfLawsTrees.Trees.{sound}
use Rattle.pv_unveil.specs.Up.{up, directory_of_place}

on_the_way : (f : ℕ → Option ℕ) (b : Bool) (p : Option ℕ) (above : ℕ) → cond b None p ≡ Some above → cond b None (option_and_then f p) ≡ f above
on_the_way f true p above is = cc
on_the_way f false p above is = rw is refl

at_the_top : (f : ℕ → Option ℕ) (b : Bool) (p : Option ℕ) → cond b None p ≡ None → cond b None (option_and_then f p) ≡ None
at_the_top f true p is = refl
at_the_top f false p is = rw is refl

module _ (t : Tree) (table : Table) (steps d : ℕ) where
  -- a directory with an entry
  pub climb-own : (k : ℕ) → entry_for table (Directory d) ≡ Some k → climb t table (suc steps) d ≡ Some k
  climb-own k is = rw is refl

  -- a directory without one, with a parent
  pub climb-above : (above : ℕ) → entry_for table (Directory d) ≡ None → up t d ≡ Some above → climb t table (suc steps) d ≡ climb t table steps above
  climb-above above none is = rw none (on_the_way (climb t table steps) (d == root) (parent t d) above is)

  -- a directory without one at the top
  pub climb-top : entry_for table (Directory d) ≡ None → up t d ≡ None → climb t table (suc steps) d ≡ None
  climb-top none is = rw none (at_the_top (climb t table steps) (d == root) (parent t d) is)

-- the parent of a directory is a directory
under_root : (b : Bool) (p : Option ℕ) (above : ℕ) → cond b None p ≡ Some above → p ≡ Some above
under_root true p above is = cc
under_root false p above is = is

pub up-directory : (t : Tree) → IsWellFormed t → (d above : ℕ) → up t d ≡ Some above → is_directory_at t above ≡ true
up-directory t well d above is = parent-directory (λ b. true) t (sound t well) d above (under_root (d == root) (parent t d) above is)

-- ---- the loop: 0 represents the missing parent of a removed directory

abbrev pub next : Tree → ℕ → ℕ
next t d = unwrap_or (parent t d) 0

-- the number of steps of a climb, up to a limit
pub height : Tree → ℕ → ℕ → ℕ
height t zero d = 0
height t (suc n) d = cond (nat_lt 1 d) (suc (height t n (next t d))) 0

module _ (t : Tree) where
  height-up : (n d : ℕ) → 1 < d → height t (suc n) d ≡ suc (height t n (next t d))
  unfolding height
  height-up n d more = ap (λ b. cond b (suc (height t n (next t d))) 0) (lt-ltb 1 d more)

  height-end : (n d : ℕ) → d ≤ 1 → height t n d ≡ 0
  unfolding height
  height-end zero d end = refl
  height-end (suc n) d end = ap (λ b. cond b (suc (height t n (next t d))) 0) (le-ltb 1 d end)

  -- a limit above the number of steps to the root does not matter
  height-enough : (d k : ℕ) → IsBelow t d k → (n : ℕ) → k ≤ n → height t n d ≡ height t (suc n) d
  unfolding height
  height-enough _ _ at_root n enough = height-end n root (omega arith) ∙ sym (height-end (suc n) root (omega arith))
  height-enough _ _ (one_below d above k other rises below) zero enough = absurd (omega arith)
  height-enough _ _ (one_below d above k other rises below) (suc n) enough =
      let rest = height-enough above k below n (omega arith) in
      ap (λ h. cond (nat_lt 1 d) (suc h) 0) (ap (λ (o : Option ℕ). height t n (unwrap_or o 0)) rises ∙ rest ∙ sym (ap (λ (o : Option ℕ). height t (suc n) (unwrap_or o 0)) rises))

  steps_above : (d j above : ℕ) → IsBelow t d j → d ≢ root → parent t d ≡ Some above → (k : ℕ) × (j ≡ suc k) × IsBelow t above k
  steps_above _ _ above at_root other rises = absurd (other refl)
  steps_above _ _ above (one_below d above' k other' rises' below) other rises =
      let same : above' ≡ above = cc in (k, refl, subst (λ a. IsBelow t a k) same below)

  -- the climb from the next directory is shorter
  pub height-smaller : IsWellFormed t → (d : ℕ) → 1 < d → is_directory_at t d ≡ true → height t (suc t.inodes) (next t d) < height t (suc t.inodes) d
  height-smaller well d more is = by (parent t d) refl
    where
      smaller : height t t.inodes (next t d) ≡ height t (suc t.inodes) (next t d) → height t (suc t.inodes) (next t d) < height t (suc t.inodes) d
      smaller same = omega (arith, same, height-up t.inodes d more)

      by : (o : Option ℕ) → parent t d ≡ o → height t (suc t.inodes) (next t d) < height t (suc t.inodes) d
      by None none =
          let end : next t d ≤ 1 = subst (λ (o : Option ℕ). unwrap_or o 0 ≤ 1) (sym none) (omega arith) in
          smaller (height-end t.inodes (next t d) end ∙ sym (height-end (suc t.inodes) (next t d) end))
      by (Some above) rises =
          let s = sound t well in
          let below = reached-below t s d (appears-reached t s d (ap is_none rises)) is in
          let rest = steps_above d below.0 above below.1 (λ e. omega (arith, more, e)) rises in
          let enough : rest.0 ≤ t.inodes = omega (arith, depth-below t s d below.0 below.1, rest.1, well.numbers) in
          smaller (subst (λ (o : Option ℕ). height t t.inodes (unwrap_or o 0) ≡ height t (suc t.inodes) (unwrap_or o 0)) (sym rises) (height-enough above rest.0 rest.2 t.inodes enough))

module _ (t : Tree) (table : Table) where
  governs-above : (d k : ℕ) → Governs t table d k → entry_for table (Directory d) ≡ None → (above : ℕ) → parent t d ≡ Some above → Governs t table above k
  governs-above _ _ (own d k is) none above rises = cc
  governs-above _ _ (from_above d other k not_root none' rises' below) none above rises = let same : other ≡ above = cc in subst (λ a. Governs t table a k) same below

  -- a directory without an entry has the rights of its parent
  same-rights : (d above : ℕ) → d ≢ root → entry_for table (Directory d) ≡ None → parent t d ≡ Some above → directory_rights t table above ≡ directory_rights t table d
  same-rights d above other none rises = by (directory_rights t table d) (directory_rights t table above) refl refl
    where
      by : (here there : Option ℕ) → directory_rights t table d ≡ here → directory_rights t table above ≡ there → directory_rights t table above ≡ directory_rights t table d
      by (Some k) there is are = directory_rights-Governs t table above k (governs-above d k (Governs-directory_rights t table d k is) none above rises) ∙ sym is
      by None (Some k) is are = let found = directory_rights-Governs t table d k (from_above d above k other none rises (Governs-directory_rights t table above k are)) in cc
      by None None is are = are ∙ sym is

  -- the rights of a directory with an entry, and of one without entry and parent
  rights-own : (d k : ℕ) → entry_for table (Directory d) ≡ Some k → directory_rights t table d ≡ Some k
  unfolding directory_rights
  rights-own d k is = climb-own t table (length t.nodes) d k is

  rights-top : (d : ℕ) → entry_for table (Directory d) ≡ None → up t d ≡ None → directory_rights t table d ≡ None
  unfolding directory_rights
  rights-top d none top = climb-top t table (length t.nodes) d none top

  -- the climb is at a directory with the same rights, or at 0 if there are no rights
  abbrev pub IsClimbed : ℕ → ℕ → Type 0
  IsClimbed directory d =
      ((d ≡ 0) × (directory_rights t table directory ≡ None)) ⊎ ((is_directory_at t d ≡ true) × (directory_rights t table d ≡ directory_rights t table directory))

  module _ (directory d : ℕ) (at : IsClimbed directory d) where
    pub climbed-directory : 1 < d → is_directory_at t d ≡ true
    climbed-directory more = elim at [
      | inl none ↦ absurd (omega (arith, more, none.0))
      | inr is ↦ is.0
    ]

    pub climbed-own : 1 < d → (k : ℕ) → entry_for table (Directory d) ≡ Some k → directory_rights t table directory ≡ Some k
    climbed-own more k found = elim at [
      | inl none ↦ absurd (omega (arith, more, none.0))
      | inr is ↦ sym is.1 ∙ rights-own d k found
    ]

    pub climbed-above : IsWellFormed t → 1 < d → entry_for table (Directory d) ≡ None → IsClimbed directory (next t d)
    climbed-above well more none = elim at [
      | inl out ↦ absurd (omega (arith, more, out.0))
      | inr is ↦ by is.1 (parent t d) refl
    ]
      where
        other : d ≢ root
        other e = omega (arith, more, e)

        on : up t d ≡ parent t d
        on = ap (λ b. cond b None (parent t d)) (ne_eqb d root other)

        by : directory_rights t table d ≡ directory_rights t table directory → (o : Option ℕ) → parent t d ≡ o → IsClimbed directory (next t d)
        by same None top = inl (ap (λ (o : Option ℕ). unwrap_or o 0) top, sym same ∙ rights-top d none (on ∙ top))
        by same (Some above) rises =
            subst (λ (o : Option ℕ). IsClimbed directory (unwrap_or o 0)) (sym rises) (inr (up-directory t well d above (on ∙ rises), same-rights d above other none rises ∙ same))

    pub climbed-root : d ≡ root → entry_for table (Directory root) ≡ directory_rights t table directory
    climbed-root top = elim at [
      | inl none ↦ absurd (omega (arith, top, none.0))
      | inr is ↦ by (entry_for table (Directory root)) refl ∙ ap (directory_rights t table) (sym top) ∙ is.1
    ]
      where
        by : (o : Option ℕ) → entry_for table (Directory root) ≡ o → entry_for table (Directory root) ≡ directory_rights t table root
        by None none = none ∙ sym (rights-top root none refl)
        by (Some k) found = found ∙ sym (rights-own root k found)

    pub climbed-none : IsWellFormed t → d ≤ 1 → d ≢ root → directory_rights t table directory ≡ None
    climbed-none well end other = elim at [
      | inl none ↦ none.1
      | inr is ↦
          let zero : d ≡ 0 = omega (arith, end, other) in
          let no : is_directory_at t 0 ≡ false = rw well.no_zero refl in
          let yes = subst (λ n. is_directory_at t n ≡ true) zero is.0 in cc
    ]

all_pass : (bytes : Bytes) → list_all (λ b. true) bytes ≡ true
all_pass [] = refl
all_pass (b ∷ bytes) = all_pass bytes

good-directory : (t : Tree) (place : Place) → IsGoodPlace (λ b. true) t place → is_directory_at t (directory_of_place place) ≡ true
good-directory t (Unnamed d) is = is
good-directory t (At d name n) is = is.0

-- the place to which a path leads from a directory
pub resolve-directory : (t : Tree) → IsWellFormed t → (follow : Follow) (start : ℕ) (path : Bytes) (place : Place) → is_directory_at t start ≡ true
    → resolve t follow start path ≡ Ok place → is_directory_at t (directory_of_place place) ≡ true
resolve-directory t well follow start path place dir is =
    good-directory t place (resolve-good (λ b. true) t (sound t well) (λ n text _. all_pass text) follow start path place dir (all_pass path) is)
