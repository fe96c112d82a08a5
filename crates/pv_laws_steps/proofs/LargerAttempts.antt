-- Attempts in a larger image, which correspond to those in the smaller one unless these reach a limit.
use Rattle.std.proofs.Common.{◌≡◌, ℕ, suc, ◌*◌, ◌-◌, ◌≤◌, Bool, true, false, not, List, ◌∷◌, ◌++◌, length, refl, ap, sym, subst, ◌∙◌, ◌⊎◌, inl, inr, ⊎_elim}
use Rattle.pv_model.specs.declared.errno.Errno.{Errno}
use Rattle.pv_model.specs.declared.errno.Errno.TheVariants.{EFBIG, ENOSPC}
use Rattle.pv_model.specs.declared.place.Place.{Place}
use Rattle.pv_model.specs.declared.version.Version.TheVariants.{V2}
use Rattle.pv_model.specs.Machine.{Attempt, done, refused, after_walks, ◌>>=◌, ◌>>◌, give, refuse_if, Effect, returns, returns_bytes, ends, waits, answers, place_or_refusal, with_room, among, collect, Numbered, keep, is_too_long, fits, State, with_tree, Node, Tree, root, named_numbers, Walked}
use Rattle.pv_model.specs.Held.{held_nodes, collect_files}
use Rattle.pv_laws_steps.specs.Larger.{is_limit}
use Rattle.pv_laws_steps.proofs.PaddedMaps.{padded, keep-padded}
use Rattle.pv_laws_steps.proofs.LargerTrees.{enlarged, named-enlarged}
use Rattle.pv_laws_steps.proofs.LargerTreeRoom.{fits-enlarged, short-enlarged}
use Rattle.pv_laws_steps.proofs.LargerWalks.{GoesAlike}

module _ (blocks inodes : ℕ) where
  abbrev pub enlarge : State → State
  enlarge s = with_tree s (enlarged blocks inodes s.tree)

  -- the tree has exactly the numbers of its inodes, as after every call that returns a number
  abbrev pub HasNumbers : Effect → Type 0
  HasNumbers (x, returns n) = length x.tree.nodes ≡ suc x.tree.inodes
  HasNumbers (x, returns_bytes n bytes) = Unit {0}
  HasNumbers (x, ends status) = Unit {0}
  HasNumbers (x, waits) = Unit {0}

  -- the tree's image is smaller than the other by the required factors
  abbrev pub IsWithin : Tree → Type 0
  IsWithin t = (5 * t.blocks ≤ blocks) × (t.inodes ≤ inodes)

  -- an attempt is the same as another in a smaller image, unless that reaches a limit
  abbrev pub Follows : Attempt Effect → Attempt Effect → Type 0
  Follows (done walks (x, r)) b = IsWithin x.tree × (HasNumbers (x, r) → b ≡ done walks (enlarge x, r))
  Follows (refused walks errno cause) b = (is_limit errno ≡ true) ⊎ (b ≡ refused walks errno cause)

  pub follows-after : (n : ℕ) (a b : Attempt Effect) → Follows a b → Follows (after_walks n a) (after_walks n b)
  follows-after n (done walks (x, r)) b is = (is.0, λ all. ap (after_walks n) (is.1 all))
  follows-after n (refused walks errno cause) b is = ⊎_elim (λ limit. inl limit) (λ same. inr (ap (after_walks n) same)) is

  by_bind : {B : Type 0} (a : Attempt B) (k h : B → Attempt Effect) → ((v : B) → Follows (k v) (h v)) → Follows (a >>= k) (a >>= h)
  by_bind (done walks v) k h is = follows-after walks (k v) (h v) (is v)
  by_bind (refused walks e c) k h is = inr refl

  pub follows-bind : {B : Type 0} (a b : Attempt B) → b ≡ a → (k h : B → Attempt Effect) → ((v : B) → Follows (k v) (h v)) → Follows (a >>= k) (b >>= h)
  follows-bind a b same k h is = subst (λ c. Follows (a >>= k) (c >>= h)) (sym same) (by_bind a k h is)

  -- a check of a limit that fails in the larger image only if it fails in the smaller one
  pub follows-limit : (e : Errno) → is_limit e ≡ true → (b c : Bool) → (b ≡ false → c ≡ false) → (k h : Attempt Effect) → Follows k h → Follows (refuse_if e b >> k) (refuse_if e c >> h)
  follows-limit e limit true c short k h is = inl limit
  follows-limit e limit false c short k h is = subst (λ (d : Bool). Follows (refuse_if e false >> k) (refuse_if e d >> h)) (sym (short refl)) (follows-after 0 k h is)

  pub follows-walk : (n : ℕ) (r q : Walked) → GoesAlike r q → (k h : Place → Attempt Effect) → ((place : Place) → Follows (k place) (h place))
      → Follows (place_or_refusal n r >>= k) (place_or_refusal n q >>= h)
  follows-walk n r q alike k h is =
      ⊎_elim
      (λ long. subst (λ (w : Walked). Follows (place_or_refusal n w >>= k) (place_or_refusal n q >>= h)) (sym long) (inl refl))
      (λ same. follows-bind (place_or_refusal n r) (place_or_refusal n q) (ap (place_or_refusal n) same) k h is) alike

  -- ---- collection

  pub collect-enlarge : (s : State) → collect (enlarge s) ≡ enlarge (collect s)
  unfolding collect
  collect-enlarge s =
      let t : Tree = s.tree in
      let before : State = collect_files s in
      let wanted : List ℕ = root ∷ named_numbers t ++ held_nodes before in
      let tree_of : Numbered Node → Tree = λ ys. record { nodes = ys; blocks = blocks; inodes = inodes; version = V2 } in
      ap (λ (ns : List ℕ). with_tree before (tree_of (keep (among (root ∷ ns ++ held_nodes before)) (padded (inodes - t.inodes) t.nodes)))) (named-enlarged blocks inodes t)
      ∙ ap (λ (ys : Numbered Node). with_tree before (tree_of ys)) (keep-padded 0 (inodes - t.inodes) (among wanted) t.nodes)

  -- ---- room

  abbrev roomy : ℕ → State → Bool → Bool → Attempt Effect
  roomy n z long fit = (refuse_if EFBIG long >> (refuse_if ENOSPC (not fit) >> give z)) >>= (λ x. answers x n)

  pub collect-within : (x : State) → IsWithin x.tree → IsWithin (collect x).tree
  unfolding collect
  collect-within x within = within

  -- a tree that has room in the smaller image has room in the larger one
  pub follows-room : (x y : State) (n : ℕ) → IsWithin x.tree → (length x.tree.nodes ≡ suc x.tree.inodes → y ≡ enlarge x)
      → Follows (with_room x >>= (λ z. answers z n)) (with_room y >>= (λ z. answers z n))
  follows-room x y n within is = by (is_too_long (collect x).tree) (fits (collect x).tree) refl refl
    where
      fine : is_too_long (collect x).tree ≡ false → fits (collect x).tree ≡ true → (with_room (enlarge x) >>= (λ z. answers z n)) ≡ done 0 (enlarge x, returns n)
      fine short fit =
          let collected = collect-within x within in
          let tree : (collect (enlarge x)).tree ≡ enlarged blocks inodes (collect x).tree = ap (λ (z : State). z.tree) (collect-enlarge x) in
          ap (λ b. roomy n (enlarge x) b (fits (collect (enlarge x)).tree)) (ap is_too_long tree ∙ short-enlarged blocks inodes (collect x).tree short)
          ∙ ap (λ b. roomy n (enlarge x) false b) (ap fits tree ∙ fits-enlarged blocks inodes (collect x).tree collected.0 collected.1 fit)

      by : (long fit : Bool) → is_too_long (collect x).tree ≡ long → fits (collect x).tree ≡ fit → Follows (roomy n x long fit) (with_room y >>= (λ z. answers z n))
      by true fit long fits = inl refl
      by false false short fits = inl refl
      by false true short fit = (within, λ numbers. ap (λ (z : State). with_room z >>= (λ w. answers w n)) (is numbers) ∙ fine short fit)
