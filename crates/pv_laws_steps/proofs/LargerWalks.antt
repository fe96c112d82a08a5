-- Walks in a larger image are the same, unless a name or a path is too long.
use Rattle.std.proofs.Common.{◌≡◌, ℕ, zero, suc, Bool, true, false, cond, not, ◌&&◌, ◌||◌, if◌then◌else◌, nat_lt, List, [], ◌∷◌, ◌++◌, Option, None, Some, is_none, length, Err, refl, sym, subst, ◌⊎◌, inl, inr, arith}
use Rattle.std.proofs.lemmas.Bool.{ltb-true, ltb-false}
use Rattle.pv_model.specs.declared.errno.Errno.TheVariants.{ENOENT, ENAMETOOLONG}
use Rattle.pv_model.specs.declared.follow.Follow.{Follow}
use Rattle.pv_model.specs.declared.version.Version.{Version}
use Rattle.pv_model.specs.declared.version.Version.TheVariants.{V1, V2}
use Rattle.pv_model.specs.Machine.{Bytes, is_empty, Node, directory_node, file_node, link_node, Tree, root, greatest_name, node_at, find_entry, parent, Walked, components, weight, is_absolute, follows_last, end_mark, resolve}
use Rattle.pv_model.specs.Walk.{Onward, PastLink, enter, enter_parent, ends_in_slash, is_dot, is_dot_dot, at_node, at_entry, along, no_link_left, through_link, walk_with_links}
use Rattle.pv_laws_steps.proofs.LargerTrees.{enlarged, node-enlarged, found-enlarged, parent-enlarged}

-- two walks have the same result, unless the first finds something too long
abbrev pub GoesAlike : Walked → Walked → Type 0
GoesAlike r q = (r ≡ Err ENAMETOOLONG) ⊎ (q ≡ r)

alike-cond : (b : Bool) (x y v w : Walked) → GoesAlike x v → GoesAlike y w → GoesAlike (cond b x y) (cond b v w)
alike-cond true x y v w is more = is
alike-cond false x y v w is more = more

-- names that the older version allows are not too long in version 2
names-longer : (v : Version) (n : ℕ) → nat_lt (greatest_name v) n ≡ false → nat_lt (greatest_name V2) n ≡ false
names-longer V1 n short = by (nat_lt 255 n) refl
  where
    by : (b : Bool) → nat_lt 255 n ≡ b → b ≡ false
    by true long = absurd (omega (arith, ltb-false 60 n short, ltb-true 255 n long))
    by false is = refl
names-longer V2 n short = short

module _ (blocks inodes : ℕ) (t : Tree) (last : Bool) where
  abbrev u : Tree
  u = enlarged blocks inodes t

  -- the walk past a directory
  abbrev OnAlike : Onward → Onward → Type 0
  OnAlike f g = (at : ℕ) → GoesAlike (f at) (g at)

  abbrev PastAlike : PastLink → PastLink → Type 0
  PastAlike b c = (text : Bytes) (rest : List Bytes) (mark : Bool) (at : ℕ) → GoesAlike (b text rest mark at) (c text rest mark at)

  node-alike : (b c : PastLink) (f g : Onward) → PastAlike b c → OnAlike f g → (at : ℕ) (component : Bytes) (rest : List Bytes) (mark : Bool) (n : ℕ) (o : Option Node)
      → GoesAlike (at_node t last b f at component rest mark n o) (at_node u last c g at component rest mark n o)
  node-alike b c f g pasts ons at component rest mark n None = inr refl
  node-alike b c f g pasts ons at component rest mark n (Some (directory_node es)) = alike-cond (is_empty rest) _ _ _ _ (inr refl) (ons n)
  node-alike b c f g pasts ons at component rest mark n (Some (file_node executable bytes)) = inr refl
  node-alike b c f g pasts ons at component rest mark n (Some (link_node text)) = alike-cond (is_empty rest && not mark && not last) _ _ _ _ (inr refl) (pasts text rest mark at)

  entry-alike : (b c : PastLink) (f g : Onward) → PastAlike b c → OnAlike f g → (at : ℕ) (component : Bytes) (rest : List Bytes) (mark : Bool) (o : Option ℕ)
      → GoesAlike (at_entry t last b f at component rest mark o) (at_entry u last c g at component rest mark o)
  entry-alike b c f g pasts ons at component rest mark None = inr refl
  entry-alike b c f g pasts ons at component rest mark (Some n) =
      subst (λ o. GoesAlike (at_node t last b f at component rest mark n (node_at t n)) (at_node u last c g at component rest mark n o)) (sym (node-enlarged blocks inodes t n))
      (node-alike b c f g pasts ons at component rest mark n (node_at t n))

  parent-alike : (f g : Onward) → OnAlike f g → (o : Option ℕ) → GoesAlike (enter_parent f o) (enter_parent g o)
  parent-alike f g ons None = inr refl
  parent-alike f g ons (Some d) = ons d

  -- a name that is looked up
  abbrev looked : (w : Tree) → Bool → PastLink → Onward → ℕ → Bytes → List Bytes → Bool → Option ℕ → Option ℕ → Walked
  looked w long b f at component rest mark up found =
      if long then Err ENAMETOOLONG
      else if is_none up then Err ENOENT
      else at_entry w last b f at component rest mark found

  looked-alike : (b c : PastLink) (f g : Onward) → PastAlike b c → OnAlike f g → (at : ℕ) (component : Bytes) (rest : List Bytes) (mark : Bool) (up found : Option ℕ)
      → GoesAlike (looked t (nat_lt (greatest_name t.version) (length component)) b f at component rest mark up found) (looked u (nat_lt 255 (length component)) c g at component rest mark up found)
  looked-alike b c f g pasts ons at component rest mark up found = by (nat_lt (greatest_name t.version) (length component)) refl
    where
      by : (long : Bool) → nat_lt (greatest_name t.version) (length component) ≡ long
          → GoesAlike (looked t long b f at component rest mark up found) (looked u (nat_lt 255 (length component)) c g at component rest mark up found)
      by true is = inl refl
      by false is =
          subst (λ long. GoesAlike (looked t false b f at component rest mark up found) (looked u long c g at component rest mark up found)) (sym (names-longer t.version (length component) is))
          (alike-cond (is_none up) _ _ _ _ (inr refl) (entry-alike b c f g pasts ons at component rest mark found))

  along-alike : (b c : PastLink) → PastAlike b c → (ps : List Bytes) (mark : Bool) → OnAlike (along t last b ps mark) (along u last c ps mark)
  along-alike b c pasts [] mark at = inr refl
  along-alike b c pasts (component ∷ rest) mark at =
      let f : Onward = along t last b rest mark in
      let g : Onward = along u last c rest mark in
      let ons : OnAlike f g = along-alike b c pasts rest mark in
      subst (λ o. GoesAlike (along t last b (component ∷ rest) mark at)
      (if is_dot component then enter g at else if is_dot_dot component then enter_parent g o else looked u (nat_lt 255 (length component)) c g at component rest mark o (find_entry u at component))) (sym (parent-enlarged blocks inodes t at))
      (subst (λ o. GoesAlike (along t last b (component ∷ rest) mark at)
      (if is_dot component then enter g at else if is_dot_dot component then enter_parent g (parent t at) else looked u (nat_lt 255 (length component)) c g at component rest mark (parent t at) o)) (sym (found-enlarged blocks inodes t at component))
      (alike-cond (is_dot component) _ _ _ _ (ons at)
      (alike-cond (is_dot_dot component) _ _ _ _ (parent-alike f g ons (parent t at))
      (looked-alike b c f g pasts ons at component rest mark (parent t at) (find_entry t at component)))))

  walk_with_links-alike : (links : ℕ) (ps : List Bytes) (mark : Bool) → OnAlike (walk_with_links t last links ps mark) (walk_with_links u last links ps mark)
  walk_with_links-alike zero ps mark = along-alike (no_link_left t last) (no_link_left u last) (λ text rest mark at. inr refl) ps mark
  walk_with_links-alike (suc links) ps mark =
      along-alike (through_link t last (walk_with_links t last links)) (through_link u last (walk_with_links u last links))
      (λ text rest mark at.
      alike-cond (nat_lt 1024 (weight (components text ++ rest))) _ _ _ _ (inr refl)
      (walk_with_links-alike links (components text ++ rest) (mark || (is_empty rest && ends_in_slash text)) (if is_absolute text then root else at))) ps mark

pub resolve-alike : (blocks inodes : ℕ) (t : Tree) (follow : Follow) (start : ℕ) (path : Bytes) → GoesAlike (resolve t follow start path) (resolve (enlarged blocks inodes t) follow start path)
unfolding resolve
resolve-alike blocks inodes t follow start path =
    alike-cond (is_empty path) _ _ _ _ (inr refl)
    (alike-cond (nat_lt 1023 (length path)) _ _ _ _ (inr refl)
    (walk_with_links-alike blocks inodes t (follows_last follow) 32 (components path) (end_mark follow path) (if is_absolute path then root else start)))
