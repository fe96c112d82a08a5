-- Trees that differ only in the bytes of one file, whose lengths are similar: equal under a function `size`.
use Rattle.std.proofs.Common.{◌≡◌, ◌≢◌, ℕ, zero, suc, ◌+◌, ◌*◌, Bool, true, false, cond, ◌&&◌, ◌||◌, if◌then◌else◌, ◌==◌, nat_le, nat_lt, List, [], ◌∷◌, ◌++◌, map, flat_map, length, drop, sum_by, Option, None, Some, is_some, refl, ap, ap₂, sym, subst, ◌∙◌, ◌⊎◌, inl, inr, ⊎_elim, option_and_then, arith}
use Rattle.std.specs.List.{list_any}
use Rattle.std.specs.Option.{option_or}
use Rattle.std.specs.Prelude.{option_to_list}
use Rattle.std.proofs.lemmas.List.Sums.{sum_by-cons}
use Rattle.std.proofs.lemmas.Bool.{ltb-true, ltb-false, cases_eq}
use Rattle.pv_model.specs.declared.call.Call.{Call}
use Rattle.pv_model.specs.declared.follow.Follow.{Follow}
use Rattle.pv_model.specs.declared.perms.Perms.{Perms}
use Rattle.pv_model.specs.declared.place.Place.{Place}
use Rattle.pv_model.specs.declared.place.Place.TheVariants.{At, Node as Unnamed}
use Rattle.pv_model.specs.declared.target.Target.TheVariants.{Directory, Name}
use Rattle.pv_model.specs.declared.version.Version.{Version}
use Rattle.pv_model.specs.declared.version.Version.TheVariants.{V1, V2}
use Rattle.pv_model.specs.Machine.{Bytes, with_content_of, with_content, link_text, bytes_of, status, among, collect, Numbered, at_number, with_number, least_free, keep_if, keep, present, numbered_from, node_length, rounded_up, need, greatest_length, is_too_long, fits, Process, State, with_tree, file_bytes, with_bytes, Node, directory_node, file_node, link_node, Tree, root, node_at, entries_of, entries_at, is_directory, is_directory_at, parent, ancestors, named_numbers, new_number, Table, entry_for, target_of, directory_rights, governing_entry, judge_entry, judgement, resolve}
use Rattle.pv_model.specs.Effect.{status_of}
use Rattle.pv_model.specs.Numbered.{keep_from}
use Rattle.pv_model.specs.Room.{index_blocks}
use Rattle.pv_model.specs.Touch.{SameButFile}
use Rattle.pv_model.specs.Tree.{ancestors_within}
use Rattle.pv_model.specs.Unveil.{climb}
use Rattle.pv_laws_access.specs.Justice.{AsksSize, ChangesBytes}
use Rattle.pv_laws_trees.specs.Walk
use Rattle.pv_laws_trees.proofs.WalkPlaces.{parent-alike, resolve-alike}

abbrev pub with_nodes : Tree → Numbered Node → Tree
with_nodes t ys = record t { nodes = ys }

abbrev pub near_state : State → Numbered Node → State
near_state s ys = with_tree s (with_nodes s.tree ys)

-- ---- similarity of lengths

-- similar lengths are equal
abbrev pub IsExact : (ℕ → ℕ) → Type 0
IsExact size = (m n : ℕ) → size m ≡ size n → m ≡ n

-- similar lengths need the same number of blocks
abbrev pub IsFine : (ℕ → ℕ) → Type 0
IsFine size = (m n : ℕ) → size m ≡ size n → rounded_up m 512 ≡ rounded_up n 512

-- a call depends on the length of a file: it asks for its size, or may change its bytes
abbrev pub GoesByLength : State → Process → Call → ℕ → Type 0
GoesByLength s p call f = AsksSize s p call f ⊎ ChangesBytes s p call f

abbrev pub as_is : ℕ → ℕ
as_is n = n

abbrev pub as_is-fine : IsFine as_is
as_is-fine m n same = ap (λ k. rounded_up k 512) same

abbrev pub blocks : ℕ → ℕ
blocks n = rounded_up n 512

abbrev pub blocks-fine : IsFine blocks
blocks-fine m n same = same

needs-as_much : (v : Version) (m n : ℕ) → rounded_up m 512 ≡ rounded_up n 512 → need v m ≡ need v n
unfolding need
needs-as_much v m n same = ap (λ b. b + index_blocks v b) same

past_whole : (k m n : ℕ) → rounded_up m 512 ≡ rounded_up n 512 → nat_lt (512 * k) m ≡ nat_lt (512 * k) n
past_whole k m n same = by (nat_lt (512 * k) m) (nat_lt (512 * k) n) refl refl
  where
    by : (x y : Bool) → nat_lt (512 * k) m ≡ x → nat_lt (512 * k) n ≡ y → x ≡ y
    by true true p q = refl
    by true false p q = absurd (omega (arith, same, ltb-true (512 * k) m p, ltb-false (512 * k) n q))
    by false true p q = absurd (omega (arith, same, ltb-false (512 * k) m p, ltb-true (512 * k) n q))
    by false false p q = refl

pub past-alike : (v : Version) (m n : ℕ) → rounded_up m 512 ≡ rounded_up n 512 → nat_lt (greatest_length v) m ≡ nat_lt (greatest_length v) n
past-alike V1 m n same = past_whole 266 m n same
past-alike V2 m n same = past_whole 1290 m n same

module _ (size : ℕ → ℕ) where
  -- ---- nodes

  -- equal nodes, or files of similar length
  abbrev pub IsNearNode : Option Node → Option Node → Type 0
  IsNearNode x y =
      (x ≡ y) ⊎ ((executable : Bool) × (old : Bytes) × (new : Bytes) × (x ≡ Some (file_node executable old)) × (y ≡ Some (file_node executable new)) × (size (length new) ≡ size (length old)))

  -- a view of a node that ignores a file's bytes is the same
  pub near-view : {V : Type 0} (view : Option Node → V) (x y : Option Node) → ((executable : Bool) (old new : Bytes) → size (length new) ≡ size (length old) → view (Some (file_node executable new)) ≡ view (Some (file_node executable old)))
      → IsNearNode x y → view y ≡ view x
  near-view view x y alike near =
      ⊎_elim (λ same. ap view (sym same)) (λ files. ap view files.4 ∙ alike files.0 files.1 files.2 files.5 ∙ sym (ap view files.3)) near

  near-keep_if : (b : Bool) (x y : Option Node) → IsNearNode x y → IsNearNode (keep_if b x) (keep_if b y)
  near-keep_if true x y near = near
  near-keep_if false x y near = inl refl

  -- ---- maps of nodes

  -- two maps differ only in the node for a number
  abbrev pub AreNear : ℕ → Numbered Node → Numbered Node → Type 0
  AreNear f [] [] = Unit {0}
  AreNear f [] (y ∷ ys) = ⊥
  AreNear f (x ∷ xs) [] = ⊥
  AreNear zero (x ∷ xs) (y ∷ ys) = IsNearNode x y × (xs ≡ ys)
  AreNear (suc f) (x ∷ xs) (y ∷ ys) = (x ≡ y) × AreNear f xs ys

  pub near-length : (f : ℕ) (xs ys : Numbered Node) → AreNear f xs ys → length ys ≡ length xs
  near-length f [] [] near = refl
  near-length f [] (y ∷ ys) near = absurd near
  near-length f (x ∷ xs) [] near = absurd near
  near-length zero (x ∷ xs) (y ∷ ys) near = ap suc (ap length (sym near.1))
  near-length (suc f) (x ∷ xs) (y ∷ ys) near = ap suc (near-length f xs ys near.1)

  pub near-at : (f : ℕ) (xs ys : Numbered Node) → AreNear f xs ys → (n : ℕ) → IsNearNode (at_number xs n) (at_number ys n)
  near-at f [] [] near n = inl refl
  near-at f [] (y ∷ ys) near n = absurd near
  near-at f (x ∷ xs) [] near n = absurd near
  near-at zero (x ∷ xs) (y ∷ ys) near zero = near.0
  near-at zero (x ∷ xs) (y ∷ ys) near (suc n) = inl (ap (λ zs. at_number zs n) near.1)
  near-at (suc f) (x ∷ xs) (y ∷ ys) near zero = inl near.0
  near-at (suc f) (x ∷ xs) (y ∷ ys) near (suc n) = near-at f xs ys near.1 n

  pub near-other : (f : ℕ) (xs ys : Numbered Node) → AreNear f xs ys → (n : ℕ) → n ≢ f → at_number ys n ≡ at_number xs n
  near-other f [] [] near n other = refl
  near-other f [] (y ∷ ys) near n other = absurd near
  near-other f (x ∷ xs) [] near n other = absurd near
  near-other zero (x ∷ xs) (y ∷ ys) near zero other = absurd (other refl)
  near-other zero (x ∷ xs) (y ∷ ys) near (suc n) other = ap (λ zs. at_number zs n) (sym near.1)
  near-other (suc f) (x ∷ xs) (y ∷ ys) near zero other = sym near.0
  near-other (suc f) (x ∷ xs) (y ∷ ys) near (suc n) other = near-other f xs ys near.1 n (λ same. other (ap suc same))

  pub near-itself : (f : ℕ) (xs : Numbered Node) → AreNear f xs xs
  near-itself f [] = tt
  near-itself zero (x ∷ xs) = (inl refl, refl)
  near-itself (suc f) (x ∷ xs) = (refl, near-itself f xs)

  -- both maps are changed in the same way
  pub near-set : (f : ℕ) (xs ys : Numbered Node) (n : ℕ) (v : Node) → AreNear f xs ys → AreNear f (with_number xs n v) (with_number ys n v)
  near-set f [] [] n v near = near-itself f (Some v ∷ [])
  near-set f [] (y ∷ ys) n v near = absurd near
  near-set f (x ∷ xs) [] n v near = absurd near
  near-set zero (x ∷ xs) (y ∷ ys) zero v near = (inl refl, near.1)
  near-set zero (x ∷ xs) (y ∷ ys) (suc n) v near = (near.0, ap (λ zs. with_number zs n v) near.1)
  near-set (suc f) (x ∷ xs) (y ∷ ys) zero v near = (refl, near.1)
  near-set (suc f) (x ∷ xs) (y ∷ ys) (suc n) v near = (near.0, near-set f xs ys n v near.1)

  -- both maps are changed at the file's own number
  near-put : (f : ℕ) (xs ys : Numbered Node) (v w : Node) → IsNearNode (Some v) (Some w) → (x : Option Node) → is_some x ≡ true → at_number xs f ≡ x → AreNear f xs ys → AreNear f (with_number xs f v) (with_number ys f w)
  near-put f [] [] v w alike x some at near = let none : is_some x ≡ false = ap is_some (sym at) in cc
  near-put f [] (y ∷ ys) v w alike x some at near = absurd near
  near-put f (x' ∷ xs) [] v w alike x some at near = absurd near
  near-put zero (x' ∷ xs) (y ∷ ys) v w alike x some at near = (alike, near.1)
  near-put (suc f) (x' ∷ xs) (y ∷ ys) v w alike x some at near = (near.0, near-put f xs ys v w alike x some at near.1)

  pub near-file : (f : ℕ) (xs ys : Numbered Node) (executable : Bool) (old new : Bytes) (z : Node) → size (length new) ≡ size (length old) → at_number xs f ≡ Some z → AreNear f xs ys
      → AreNear f (with_number xs f (file_node executable old)) (with_number ys f (file_node executable new))
  near-file f xs ys executable old new z long at near = near-put f xs ys (file_node executable old) (file_node executable new) (inr (executable, old, new, refl, refl, long)) (Some z) refl at near

  near-keep_from : (k f : ℕ) (test : ℕ → Bool) (xs ys : Numbered Node) → AreNear f xs ys → AreNear f (keep_from k test xs) (keep_from k test ys)
  near-keep_from k f test [] [] near = tt
  near-keep_from k f test [] (y ∷ ys) near = absurd near
  near-keep_from k f test (x ∷ xs) [] near = absurd near
  near-keep_from k zero test (x ∷ xs) (y ∷ ys) near = (near-keep_if (test k) x y near.0, ap (keep_from (suc k) test) near.1)
  near-keep_from k (suc f) test (x ∷ xs) (y ∷ ys) near = (ap (keep_if (test k)) near.0, near-keep_from (suc k) f test xs ys near.1)

  -- a fold over the nodes that ignores a file's bytes
  near-fold : {R V : Type 0} (F : Numbered Node → R) (view : Option Node → V) (S : V → R → R) → ((o : Option Node) (zs : Numbered Node) → F (o ∷ zs) ≡ S (view o) (F zs))
      → ((x y : Option Node) → IsNearNode x y → view y ≡ view x) → (f : ℕ) (xs ys : Numbered Node) → AreNear f xs ys → F ys ≡ F xs
  near-fold F view S steps alike f [] [] near = refl
  near-fold F view S steps alike f [] (y ∷ ys) near = absurd near
  near-fold F view S steps alike f (x ∷ xs) [] near = absurd near
  near-fold F view S steps alike zero (x ∷ xs) (y ∷ ys) near = steps y ys ∙ ap₂ S (alike x y near.0) (ap F (sym near.1)) ∙ sym (steps x xs)
  near-fold F view S steps alike (suc f) (x ∷ xs) (y ∷ ys) near = steps y ys ∙ ap₂ S (ap view (sym near.0)) (near-fold F view S steps alike f xs ys near.1) ∙ sym (steps x xs)

  near-entries : (x y : Option Node) → IsNearNode x y → entries_of y ≡ entries_of x
  near-entries x y near = near-view entries_of x y (λ executable old new long. refl) near

  near-some : (x y : Option Node) → IsNearNode x y → is_some y ≡ is_some x
  near-some x y near = near-view is_some x y (λ executable old new long. refl) near

  -- the least free number
  free_step : (o : Option Node) (zs : Numbered Node) → least_free (o ∷ zs) ≡ cond (is_some o) (suc (least_free zs)) 0
  free_step None zs = refl
  free_step (Some node) zs = refl

  near-least_free : (f : ℕ) (xs ys : Numbered Node) → AreNear f xs ys → least_free ys ≡ least_free xs
  near-least_free = near-fold least_free is_some (λ b n. cond b (suc n) 0) free_step near-some

  abbrev named_from : ℕ → Numbered Node → List ℕ
  named_from k zs = flat_map (λ (d : ℕ × Node). map (λ e. e.1) (entries_of (Some d.1))) (numbered_from k zs)

  abbrev names : Option Node → List ℕ
  names o = map (λ e. e.1) (entries_of o)

  named_step : (k : ℕ) (o : Option Node) (zs : Numbered Node) → named_from k (o ∷ zs) ≡ names o ++ named_from (suc k) zs
  named_step k None zs = refl
  named_step k (Some node) zs = refl

  near-named : (k f : ℕ) (xs ys : Numbered Node) → AreNear f xs ys → named_from k ys ≡ named_from k xs
  near-named k f [] [] near = refl
  near-named k f [] (y ∷ ys) near = absurd near
  near-named k f (x ∷ xs) [] near = absurd near
  near-named k zero (x ∷ xs) (y ∷ ys) near =
      named_step k y ys ∙ ap₂ (λ (a b : List ℕ). a ++ b) (ap (map (λ (e : Bytes × ℕ). e.1)) (near-entries x y near.0)) (ap (named_from (suc k)) (sym near.1)) ∙ sym (named_step k x xs)
  near-named k (suc f) (x ∷ xs) (y ∷ ys) near =
      named_step k y ys ∙ ap₂ (λ (a b : List ℕ). a ++ b) (ap names (sym near.0)) (near-named (suc k) f xs ys near.1) ∙ sym (named_step k x xs)

  -- the number of nodes, and the blocks that they need
  count_step : (o : Option Node) (zs : Numbered Node) → length (present (o ∷ zs)) ≡ cond (is_some o) (suc (length (present zs))) (length (present zs))
  count_step None zs = refl
  count_step (Some node) zs = refl

  near-count : (f : ℕ) (xs ys : Numbered Node) → AreNear f xs ys → length (present ys) ≡ length (present xs)
  near-count = near-fold (λ zs. length (present zs)) is_some (λ b n. cond b (suc n) n) count_step near-some

  module _ (fine : IsFine size) (v : Version) where
    abbrev need_of : Option Node → ℕ
    need_of None = 0
    need_of (Some node) = need v (node_length v node)

    abbrev needs_all : Numbered Node → ℕ
    needs_all zs = sum_by (λ node. need v (node_length v node)) (present zs)

    need_step : (o : Option Node) (zs : Numbered Node) → needs_all (o ∷ zs) ≡ need_of o + needs_all zs
    need_step None zs = let same : needs_all zs ≡ 0 + needs_all zs = omega arith in same
    need_step (Some node) zs = sum_by-cons (λ (node : Node). need v (node_length v node)) node (present zs)

    near-needs : (f : ℕ) (xs ys : Numbered Node) → AreNear f xs ys → needs_all ys ≡ needs_all xs
    near-needs = near-fold needs_all need_of (λ a b. a + b) need_step (λ x y near. near-view need_of x y (λ executable old new long. needs-as_much v (length new) (length old) (fine (length new) (length old) long)) near)

    abbrev long_of : Option Node → Bool
    long_of None = false
    long_of (Some node) = nat_lt (greatest_length v) (node_length v node)

    abbrev any_long : Numbered Node → Bool
    any_long zs = list_any (λ node. nat_lt (greatest_length v) (node_length v node)) (present zs)

    long_step : (o : Option Node) (zs : Numbered Node) → any_long (o ∷ zs) ≡ (long_of o || any_long zs)
    long_step None zs = refl
    long_step (Some node) zs = refl

    near-long : (f : ℕ) (xs ys : Numbered Node) → AreNear f xs ys → any_long ys ≡ any_long xs
    near-long = near-fold any_long long_of (λ a b. a || b) long_step (λ x y near. near-view long_of x y (λ executable old new long. past-alike v (length new) (length old) (fine (length new) (length old) long)) near)

  -- ---- trees

  module _ (f : ℕ) (t : Tree) (ys : Numbered Node) (near : AreNear f t.nodes ys) where
    abbrev u : Tree
    u = with_nodes t ys

    pub entries-near : (d : ℕ) → entries_at u d ≡ entries_at t d
    entries-near d = near-entries (node_at t d) (node_at u d) (near-at f t.nodes ys near d)

    pub directory-near : (d : ℕ) → is_directory_at u d ≡ is_directory_at t d
    directory-near d = near-view is_directory (node_at t d) (node_at u d) (λ executable old new long. refl) (near-at f t.nodes ys near d)

    alike-near : Walk.LooksTheSame t u
    alike-near = record {
      version = refl;
      entries = entries-near;
      nodes = λ n. near-view Walk.walked_node (node_at t n) (node_at u n) (λ executable old new long. refl) (near-at f t.nodes ys near n);
    }

    pub resolve-near : (follow : Follow) (start : ℕ) (path : Bytes) → resolve u follow start path ≡ resolve t follow start path
    resolve-near follow start path = resolve-alike t u alike-near follow start path

    parent-near : (n : ℕ) → parent u n ≡ parent t n
    parent-near n = parent-alike t u entries-near n

    climb-near : (table : Table) (steps d : ℕ) → climb u table steps d ≡ climb t table steps d
    climb-near table zero d = refl
    climb-near table (suc steps) d =
        let on : climb u table steps ≡ climb t table steps = λ i e. climb-near table steps e i in
        let up = parent-near d in
        λ i. option_or (entry_for table (Directory d)) (if d == root then None else option_and_then (on i) (up i))

    rights-near : (table : Table) (d : ℕ) → directory_rights u table d ≡ directory_rights t table d
    unfolding directory_rights
    rights-near table d = ap (λ n. climb u table (suc n) d) (near-length f t.nodes ys near) ∙ climb-near table (suc (length t.nodes)) d

    governing-near : (table : Table) (place : Place) → governing_entry u table place ≡ governing_entry t table place
    unfolding governing_entry
    governing-near table (Unnamed n) = rights-near table n
    governing-near table (At d name None) = ap (option_or (entry_for table (Name d name))) (rights-near table d)
    governing-near table (At d name (Some n)) =
        let dir = directory-near n in
        let inside = rights-near table n in
        let above = rights-near table d in
        λ i. if dir i then inside i else option_or (entry_for table (Name d name)) (above i)

    pub judgement-near : (table : Option Table) (place : Place) (needed : Perms) → judgement u table place needed ≡ judgement t table place needed
    unfolding judgement
    judgement-near None place needed = refl
    judgement-near (Some table) place needed = ap (judge_entry table needed) (governing-near table place)

    pub target-near : (place : Place) → target_of u place ≡ target_of t place
    target-near (Unnamed n) = refl
    target-near (At d name None) = refl
    target-near (At d name (Some n)) = ap (λ b. if b then Directory n else Name d name) (directory-near n)

    ancestors_within-near : (steps d : ℕ) → ancestors_within u steps d ≡ ancestors_within t steps d
    ancestors_within-near zero d = refl
    ancestors_within-near (suc steps) d =
        let on : ancestors_within u steps ≡ ancestors_within t steps = λ i e. ancestors_within-near steps e i in
        let up = parent-near d in
        λ i. d ∷ flat_map (on i) (if d == root then [] else option_to_list (up i))

    pub ancestors-near : (d : ℕ) → ancestors u d ≡ ancestors t d
    unfolding ancestors
    ancestors-near d = ap (λ n. ancestors_within u n d) (near-length f t.nodes ys near) ∙ ancestors_within-near (length t.nodes) d

    -- a view of the file that depends on its length, if that is equal
    at-length : {V : Type 0} (view : Option Node → V) (n : ℕ) → (n ≡ f → IsExact size) → ((executable : Bool) (old new : Bytes) → length new ≡ length old → view (Some (file_node executable new)) ≡ view (Some (file_node executable old)))
        → view (node_at u n) ≡ view (node_at t n)
    at-length view n exact alike =
        ⊎_elim (λ here. near-view view (node_at t n) (node_at u n) (λ executable old new same. alike executable old new (exact here (length new) (length old) same)) (near-at f t.nodes ys near n))
        (λ other. ap view (near-other f t.nodes ys near n other)) (cases_eq n f)

    pub status-near : (n : ℕ) → (n ≡ f → IsExact size) → status u n ≡ status t n
    status-near n exact = at-length (status_of n) n exact by
      where
        by : (executable : Bool) (old new : Bytes) → length new ≡ length old → status_of n (Some (file_node executable new)) ≡ status_of n (Some (file_node executable old))
        by true old new long = ap (λ k. 3 ∷ 0 ∷ Rattle.pv_model.specs.Bytes.little_endian 2 n ++ Rattle.pv_model.specs.Bytes.little_endian 4 k) long
        by false old new long = ap (λ k. 2 ∷ 0 ∷ Rattle.pv_model.specs.Bytes.little_endian 2 n ++ Rattle.pv_model.specs.Bytes.little_endian 4 k) long

    pub link-near : (n : ℕ) → link_text (node_at u n) ≡ link_text (node_at t n)
    link-near n = near-view link_text (node_at t n) (node_at u n) (λ executable old new long. refl) (near-at f t.nodes ys near n)

    pub long-near : (n : ℕ) → (n ≡ f → IsExact size) → length (bytes_of (node_at u n)) ≡ length (bytes_of (node_at t n))
    long-near n exact = at-length (λ o. length (bytes_of o)) n exact (λ executable old new long. long)

    pub new-near : new_number u ≡ new_number t
    new-near = ap suc (by f t.nodes ys near)
      where
        by : (f : ℕ) (xs zs : Numbered Node) → AreNear f xs zs → least_free (drop 1 zs) ≡ least_free (drop 1 xs)
        by f [] [] near = refl
        by f [] (y ∷ ys) near = absurd near
        by f (x ∷ xs) [] near = absurd near
        by zero (x ∷ xs) (y ∷ ys) near = ap least_free (sym near.1)
        by (suc f) (x ∷ xs) (y ∷ ys) near = near-least_free f xs ys near.1

  -- ---- states

  -- two states differ only in the bytes of one file
  pub record IsNear (f : ℕ) (a b : State) : Type 0 where
    pub nodes : AreNear f a.tree.nodes b.tree.nodes
    pub rest : b ≡ near_state a b.tree.nodes

  pub near-collect : (f : ℕ) (a : State) (ys : Numbered Node) → AreNear f a.tree.nodes ys → IsNear f (collect a) (collect (near_state a ys))
  unfolding collect
  near-collect f a ys near = record {
    nodes = subst (λ ns. AreNear f (collect a).tree.nodes (keep (among (root ∷ ns ++ Rattle.pv_laws_states.proofs.CollectedStates.held_after a)) ys)) (sym (near-named 0 f a.tree.nodes ys near))
        (near-keep_from 0 f (among (root ∷ named_numbers a.tree ++ Rattle.pv_laws_states.proofs.CollectedStates.held_after a)) a.tree.nodes ys near);
    rest = refl;
  }

  -- both trees have room, or neither does
  pub fits-near : IsFine size → (f : ℕ) (t : Tree) (ys : Numbered Node) → AreNear f t.nodes ys → fits (with_nodes t ys) ≡ fits t
  unfolding fits
  fits-near fine f t ys near = ap₂ (λ a b. nat_le a t.inodes && nat_le b t.blocks) (near-count f t.nodes ys near) (near-needs fine t.version f t.nodes ys near)

  pub too_long-near : IsFine size → (f : ℕ) (t : Tree) (ys : Numbered Node) → AreNear f t.nodes ys → is_too_long (with_nodes t ys) ≡ is_too_long t
  unfolding is_too_long
  too_long-near fine f t ys near = near-long fine t.version f t.nodes ys near

  -- two maps are equal except at the file
  near-with : (f : ℕ) (xs ys : Numbered Node) (z w : Node) → AreNear f xs ys → at_number xs f ≡ Some z → at_number ys f ≡ Some w → with_number xs f w ≡ ys
  near-with f [] [] z w near at is = cc
  near-with f [] (y ∷ ys) z w near at is = absurd near
  near-with f (x ∷ xs) [] z w near at is = absurd near
  near-with zero (x ∷ xs) (y ∷ ys) z w near at is = ap₂ (λ o (os : Numbered Node). o ∷ os) (sym is) near.1
  near-with (suc f) (x ∷ xs) (y ∷ ys) z w near at is = ap₂ (λ o (os : Numbered Node). o ∷ os) near.0 (near-with f xs ys z w near.1 at is)

  near-same : (f : ℕ) (xs ys : Numbered Node) → AreNear f xs ys → at_number ys f ≡ at_number xs f → ys ≡ xs
  near-same f [] [] near same = refl
  near-same f [] (y ∷ ys) near same = absurd near
  near-same f (x ∷ xs) [] near same = absurd near
  near-same zero (x ∷ xs) (y ∷ ys) near same = ap₂ (λ o (os : Numbered Node). o ∷ os) same (sym near.1)
  near-same (suc f) (x ∷ xs) (y ∷ ys) near same = ap₂ (λ o (os : Numbered Node). o ∷ os) (sym near.0) (near-same f xs ys near.1 same)

  -- replacing the bytes of a file by themselves
  own-content : (t : Tree) (f : ℕ) → with_content t f (bytes_of (node_at t f)) ≡ t
  own-content t f = by (node_at t f) refl
    where
      by : (o : Option Node) → node_at t f ≡ o → with_content_of t f o (bytes_of o) ≡ t
      by None at = refl
      by (Some (directory_node es)) at = refl
      by (Some (link_node text)) at = refl
      by (Some (file_node executable bytes)) at = ap (with_nodes t) (near-with f t.nodes t.nodes (file_node executable bytes) (file_node executable bytes) (near-itself f t.nodes) at at)

  pub same-but_file : (f : ℕ) (a b : State) → IsNear f a b → SameButFile f a b
  same-but_file f a b near = ap (with_tree a) (by (near-at f a.tree.nodes b.tree.nodes near.nodes f)) ∙ sym near.rest
    where
      by : IsNearNode (node_at a.tree f) (node_at b.tree f) → with_content a.tree f (file_bytes b f) ≡ with_nodes a.tree b.tree.nodes
      by alike =
          ⊎_elim
          (λ same. ap (λ o. with_content a.tree f (bytes_of o)) (sym same) ∙ own-content a.tree f ∙ ap (with_nodes a.tree) (sym (near-same f a.tree.nodes b.tree.nodes near.nodes (sym same))))
          (λ files.
          ap (λ o. with_content_of a.tree f o (file_bytes b f)) files.3
          ∙ ap (λ o. Rattle.pv_model.specs.Tree.with_node a.tree f (file_node files.0 (bytes_of o))) files.4
          ∙ ap (with_nodes a.tree) (near-with f a.tree.nodes b.tree.nodes (file_node files.0 files.1) (file_node files.0 files.2) near.nodes files.3 files.4))
          alike

  -- a state with other bytes of similar length
  pub near-bytes : (s : State) (f : ℕ) (bytes : Bytes) → size (length bytes) ≡ size (length (file_bytes s f)) → IsNear f s (with_bytes s f bytes)
  near-bytes s f bytes long = by (node_at s.tree f) refl (ap (λ n. n) long)
    where
      by : (o : Option Node) → node_at s.tree f ≡ o → size (length bytes) ≡ size (length (bytes_of o)) → IsNear f s (with_tree s (with_content_of s.tree f o bytes))
      by None at many = record { nodes = near-itself f s.tree.nodes; rest = refl }
      by (Some (directory_node es)) at many = record { nodes = near-itself f s.tree.nodes; rest = refl }
      by (Some (link_node text)) at many = record { nodes = near-itself f s.tree.nodes; rest = refl }
      by (Some (file_node executable old)) at many = record {
        nodes = subst (λ xs. AreNear f xs (with_number s.tree.nodes f (file_node executable bytes)))
            (near-with f s.tree.nodes s.tree.nodes (file_node executable old) (file_node executable old) (near-itself f s.tree.nodes) at at)
            (near-file f s.tree.nodes s.tree.nodes executable old bytes (file_node executable old) many at (near-itself f s.tree.nodes));
        rest = refl;
      }

  -- the lengths of the file are similar
  pub near-length_of : (f : ℕ) (a b : State) → IsNear f a b → size (length (file_bytes b f)) ≡ size (length (file_bytes a f))
  near-length_of f a b near =
      near-view (λ o. size (length (bytes_of o))) (node_at a.tree f) (node_at b.tree f) (λ executable old new long. long) (near-at f a.tree.nodes b.tree.nodes near.nodes f)
