-- The entries of a table, and those of a directory and its ancestors.
use Rattle.std.proofs.Common.{◌≡◌, ℕ, suc, Bool, true, false, cond, ◌==◌, List, [], map, flat_map, length, Option, None, Some, refl, ap, sym, ◌∙◌}
use Rattle.std.specs.Prelude.{option_to_list}
use Rattle.std.proofs.lemmas.List.{append-nil}
use Rattle.pv_model.specs.declared.target.Target.TheVariants.{Directory}
use Rattle.pv_model.specs.Machine.{Tree, root, parent, ancestors, IsAtOrAbove, IsWellFormed, Table, entry_for, directory_rights, Governs, own, from_above}
use Rattle.pv_model.specs.Tree.{above_or_none, ancestors_within, itself, above}
use Rattle.pv_model.proofs.GoverningEntries.{Governs-directory_rights, directory_rights-Governs}
use Rattle.pv_laws_trees.proofs.Ancestors.{ancestors-above}
use Rattle.pv_laws_trees.proofs.ListMembers.{any-in, in-any}
use Rattle.pv_calls_state.specs.OfUnveil.Up.{up}
use Rattle.pv_audit.specs.Findings.{lesser, least, passing, entries_passing, least_above}
use Rattle.pv_audit.proofs.LeastNumbers.{lesser-none, lesser-assoc, least-same, least-cons, in-passing, passing-in}

-- ---- the entries of a directory and its ancestors

-- the least own entry with c of these directories
abbrev pub least_own : Table → List ℕ → Option ℕ
least_own table ds = least (entries_passing (λ permissions. permissions.c) table (map (λ d. entry_for table (Directory d)) ds))

abbrev pub own_with_c : Table → ℕ → Option ℕ
own_with_c table d = passing (λ permissions. permissions.c) table (entry_for table (Directory d))

module _ (t : Tree) (table : Table) (left d : ℕ) where
  upward : (b : Bool) (p : Option ℕ) (u : ℕ) → cond b None p ≡ Some u → flat_map (ancestors_within t left) (cond b [] (option_to_list p)) ≡ ancestors_within t left u
  upward true p u is = cc is
  upward false None u is = cc is
  upward false (Some v) u is = let same : v ≡ u = cc is in append-nil (ancestors_within t left v) ∙ ap (ancestors_within t left) same

  topmost : (b : Bool) (p : Option ℕ) → cond b None p ≡ None → flat_map (ancestors_within t left) (cond b [] (option_to_list p)) ≡ []
  topmost true p is = refl
  topmost false None is = refl
  topmost false (Some v) is = cc is

  -- one more directory
  pub own-up : (u : ℕ) → up t d ≡ Some u → least_own table (ancestors_within t (suc left) d) ≡ lesser (own_with_c table d) (least_own table (ancestors_within t left u))
  own-up u is =
      least-cons (λ permissions. permissions.c) table (entry_for table (Directory d)) (map (λ e. entry_for table (Directory e)) (flat_map (ancestors_within t left) (above_or_none t d)))
      ∙ ap (λ (ds : List ℕ). lesser (own_with_c table d) (least_own table ds)) (upward (d == root) (parent t d) u is)

  -- the last directory
  pub own-top : up t d ≡ None → least_own table (ancestors_within t (suc left) d) ≡ own_with_c table d
  own-top is =
      least-cons (λ permissions. permissions.c) table (entry_for table (Directory d)) (map (λ e. entry_for table (Directory e)) (flat_map (ancestors_within t left) (above_or_none t d)))
      ∙ ap (λ (ds : List ℕ). lesser (own_with_c table d) (least_own table ds)) (topmost (d == root) (parent t d) is) ∙ lesser-none (own_with_c table d)

  -- the entry found so far, and the rest
  pub more-up : (so_far : Option ℕ) (u : ℕ) → up t d ≡ Some u
      → lesser so_far (least_own table (ancestors_within t (suc left) d)) ≡ lesser (lesser so_far (own_with_c table d)) (least_own table (ancestors_within t left u))
  more-up so_far u is = ap (lesser so_far) (own-up u is) ∙ sym (lesser-assoc so_far (own_with_c table d) (least_own table (ancestors_within t left u)))

  pub more-top : (so_far : Option ℕ) → up t d ≡ None → lesser so_far (least_own table (ancestors_within t (suc left) d)) ≡ lesser so_far (own_with_c table d)
  more-top so_far is = ap (lesser so_far) (own-top is)

pub own-none : (t : Tree) (table : Table) (d : ℕ) (so_far : Option ℕ) → lesser so_far (least_own table (ancestors_within t 0 d)) ≡ so_far
own-none t table d so_far = lesser-none so_far

-- ---- each governing entry is the own entry of a directory or one of its ancestors

at_or_above : (t : Tree) (a b : ℕ) (c : ℕ) → IsAtOrAbove t a b → IsAtOrAbove t b c → IsAtOrAbove t a c
at_or_above t a b _ high itself = high
at_or_above t a b _ high (above d u apart is low) = above d u apart is (at_or_above t a b u high low)

module _ (t : Tree) (table : Table) where
  owner : (d k : ℕ) → Governs t table d k → (e : ℕ) × IsAtOrAbove t e d × (entry_for table (Directory e) ≡ Some k)
  owner _ _ (own d k is) = (d, itself, is)
  owner _ _ (from_above d u k apart none is governs) = let table_access = owner u k governs in (table_access.0, above d u apart is table_access.1, table_access.2)

  abbrev mine : ℕ → Option ℕ
  mine e = entry_for table (Directory e)

  abbrev rights : ℕ → Option ℕ
  rights e = directory_rights t table e

  pub own-governs : (d : ℕ) → IsWellFormed t → least_own table (ancestors t d) ≡ least_above t table d
  own-governs d well =
      least-same (entries_passing (λ permissions. permissions.c) table (map mine (ancestors t d))) (entries_passing (λ permissions. permissions.c) table (map rights (ancestors t d)))
      (λ k within.
      let table_access = passing-in ℕ (λ permissions. permissions.c) table mine (ancestors t d) k within in
      in-passing ℕ (λ permissions. permissions.c) table rights (ancestors t d) k table_access.0 table_access.1 (directory_rights-Governs t table table_access.0 k (own table_access.0 k table_access.2)) table_access.3)
      (λ k within.
      let table_access = passing-in ℕ (λ permissions. permissions.c) table rights (ancestors t d) k within in
      let o = owner table_access.0 k (Governs-directory_rights t table table_access.0 k table_access.2) in
      let low = (ancestors-above t well d table_access.0).0 (in-any table_access.0 (ancestors t d) table_access.1) in
      in-passing ℕ (λ permissions. permissions.c) table mine (ancestors t d) k o.0 (any-in o.0 (ancestors t d) ((ancestors-above t well d o.0).1 (at_or_above t o.0 table_access.0 d o.1 low))) o.2 table_access.3)

-- the number of nodes bounds the climb
pub ancestors-within : (t : Tree) (count d : ℕ) → length t.nodes ≡ count → ancestors t d ≡ ancestors_within t count d
unfolding ancestors
ancestors-within t count d is = ap (λ n. ancestors_within t n d) is
