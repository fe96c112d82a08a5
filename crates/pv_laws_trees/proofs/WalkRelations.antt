-- Walks.
use Rattle.std.proofs.Common.{◌≡◌, ◌↔◌, ℕ, zero, suc, ◌<◌, ◌≤◌, Bool, true, false, cond, if◌then◌else◌, not, ◌&&◌, ◌||◌, ◌==◌, nat_lt, List, [], ◌∷◌, ◌++◌, codes, length, Option, None, Some, Ok, Err, refl, ap, sym, subst, ◌∙◌, arith}
use Rattle.std.specs.List.{list_all}
use Rattle.std.proofs.lemmas.Bool.{ltb-true, ltb-false, lt-ltb, le-ltb}
use Rattle.pv_model.specs.declared.errno.Errno.TheVariants.{ENOENT, ENAMETOOLONG}
use Rattle.pv_model.specs.declared.follow.Follow.{Follow}
use Rattle.pv_model.specs.declared.place.Place.TheVariants.{At, Node as Unnamed}
use Rattle.pv_model.specs.Machine.{Bytes, is_empty, Node, directory_node, file_node, link_node, Tree, greatest_name, root, node_at, find_entry, parent, is_removed, components, is_absolute, weight, follows_last, end_mark, Walked, resolve}
use Rattle.pv_model.specs.Walk.{ends_in_slash, is_dot, is_dot_dot, Onward, PastLink, enter, enter_parent, at_node, at_entry, along, no_link_left, through_link, walk_with_links}
use Rattle.pv_laws_trees.specs.Walk

dot_is_not_dots : (component : Bytes) → is_dot_dot component ≡ true → is_dot component ≡ false
dot_is_not_dots component is =
    let same = Rattle.pv_laws_trees.proofs.DirectoryEntries.bytes_eq-same component (codes "..") is in ap is_dot same

module _ (t : Tree) (last : Bool) where
  -- a correct continuation after links
  abbrev IsRight : ℕ → PastLink → Type 0
  IsRight links following = (component : Bytes) (rest : List Bytes) (mark : Bool) (at n : ℕ) (text : Bytes) → Walk.HasNodeAt t at component n (link_node text)
      → Walk.is_followed rest mark last ≡ true → Walk.Walks t last links (component ∷ rest) mark at (following text rest mark at)

  module _ (links : ℕ) (following : PastLink) (right : IsRight links following) (component : Bytes) (rest : List Bytes) (mark : Bool) (at : ℕ) (name : Walk.IsLookedUp t component) (appears : is_removed t at ≡ false) where
    link_walks : (n : ℕ) (text : Bytes) → Walk.HasNodeAt t at component n (link_node text) → (b : Bool) → (is_empty rest && not mark && not last) ≡ b
        → Walk.Walks t last links (component ∷ rest) mark at (cond b (Ok (At at component (Some n))) (following text rest mark at))
    link_walks n text leads true is = Walk.Walks.finds_link links component rest mark at n text leads (ap not is)
    link_walks n text leads false is = right component rest mark at n text leads (ap not is)

  module _ (links : ℕ) (following : PastLink) (right : IsRight links following) where
    -- the walk at the node of an entry
    node_walks : (component : Bytes) (rest : List Bytes) (mark : Bool) (at : ℕ) → Walk.IsLookedUp t component → is_removed t at ≡ false
        → ((m : ℕ) → Walk.Walks t last links rest mark m (along t last following rest mark m))
        → (n : ℕ) → find_entry t at component ≡ Some n → (o : Option Node) → node_at t n ≡ o
        → Walk.Walks t last links (component ∷ rest) mark at (at_node t last following (along t last following rest mark) at component rest mark n o)
    node_walks component rest mark at name appears onward n found None is = Walk.Walks.lost links component rest mark at n name appears found is
    node_walks component rest mark at name appears onward n found (Some (link_node text)) is =
        link_walks links following right component rest mark at name appears n text (record { name = name; appears = appears; entry = found; is = is }) (is_empty rest && not mark && not last) refl
    node_walks component [] mark at name appears onward n found (Some (directory_node es)) is =
        Walk.Walks.finds_directory links component mark at n es (record { name = name; appears = appears; entry = found; is = is })
    node_walks component (next ∷ rest) mark at name appears onward n found (Some (directory_node es)) is =
        Walk.Walks.enters links component next rest mark at n es _ (record { name = name; appears = appears; entry = found; is = is }) (onward n)
    node_walks component [] true at name appears onward n found (Some (file_node executable bytes)) is =
        Walk.Walks.wants_directory links component at n executable bytes (record { name = name; appears = appears; entry = found; is = is })
    node_walks component [] false at name appears onward n found (Some (file_node executable bytes)) is =
        Walk.Walks.finds_file links component at n executable bytes (record { name = name; appears = appears; entry = found; is = is })
    node_walks component (next ∷ rest) mark at name appears onward n found (Some (file_node executable bytes)) is =
        Walk.Walks.not_entered links component next rest mark at n executable bytes (record { name = name; appears = appears; entry = found; is = is })

    entry_walks : (component : Bytes) (rest : List Bytes) (mark : Bool) (at : ℕ) → Walk.IsLookedUp t component → is_removed t at ≡ false
        → ((m : ℕ) → Walk.Walks t last links rest mark m (along t last following rest mark m))
        → (o : Option ℕ) → find_entry t at component ≡ o
        → Walk.Walks t last links (component ∷ rest) mark at (at_entry t last following (along t last following rest mark) at component rest mark o)
    entry_walks component [] true at name appears onward None found = Walk.Walks.absent links component [] true at name appears found refl
    entry_walks component [] false at name appears onward None found = Walk.Walks.vacant links component at name appears found
    entry_walks component (next ∷ rest) mark at name appears onward None found = Walk.Walks.absent links component (next ∷ rest) mark at name appears found refl
    entry_walks component rest mark at name appears onward (Some n) found = node_walks component rest mark at name appears onward n found (node_at t n) refl

    parent_walks : (component : Bytes) (rest : List Bytes) (mark : Bool) (at : ℕ) → is_dot_dot component ≡ true
        → ((m : ℕ) → Walk.Walks t last links rest mark m (along t last following rest mark m))
        → (o : Option ℕ) → parent t at ≡ o → Walk.Walks t last links (component ∷ rest) mark at (enter_parent (along t last following rest mark) o)
    parent_walks component rest mark at is onward None up = Walk.Walks.no_parent links component rest mark at is up
    parent_walks component rest mark at is onward (Some d) up = Walk.Walks.climbs links component rest mark at d _ is up (onward d)

    removed_walks : (component : Bytes) (rest : List Bytes) (mark : Bool) (at : ℕ) → Walk.IsLookedUp t component
        → ((m : ℕ) → Walk.Walks t last links rest mark m (along t last following rest mark m))
        → (b : Bool) → is_removed t at ≡ b
        → Walk.Walks t last links (component ∷ rest) mark at (cond b (Err ENOENT) (at_entry t last following (along t last following rest mark) at component rest mark (find_entry t at component)))
    removed_walks component rest mark at name onward true is = Walk.Walks.in_removed links component rest mark at name is
    removed_walks component rest mark at name onward false is = entry_walks component rest mark at name is onward (find_entry t at component) refl

    name_walks : (component : Bytes) (rest : List Bytes) (mark : Bool) (at : ℕ) → is_dot component ≡ false → is_dot_dot component ≡ false
        → ((m : ℕ) → Walk.Walks t last links rest mark m (along t last following rest mark m))
        → (b : Bool) → nat_lt (greatest_name t.version) (length component) ≡ b
        → Walk.Walks t last links (component ∷ rest) mark at (cond b (Err ENAMETOOLONG) (if is_removed t at then Err ENOENT else at_entry t last following (along t last following rest mark) at component rest mark (find_entry t at component)))
    name_walks component rest mark at dot dots onward true is = Walk.Walks.name_too_long links component rest mark at dot dots (ltb-true (greatest_name t.version) (length component) is)
    name_walks component rest mark at dot dots onward false is =
        removed_walks component rest mark at (record { no_dot = dot; no_dot_dot = dots; short = ltb-false (greatest_name t.version) (length component) is }) onward (is_removed t at) refl

    dots_walk : (component : Bytes) (rest : List Bytes) (mark : Bool) (at : ℕ)
        → ((m : ℕ) → Walk.Walks t last links rest mark m (along t last following rest mark m))
        → (b c : Bool) → is_dot component ≡ b → is_dot_dot component ≡ c
        → Walk.Walks t last links (component ∷ rest) mark at (cond b (enter (along t last following rest mark) at) (cond c (enter_parent (along t last following rest mark) (parent t at))
        (if nat_lt (greatest_name t.version) (length component) then Err ENAMETOOLONG else if is_removed t at then Err ENOENT else at_entry t last following (along t last following rest mark) at component rest mark (find_entry t at component))))
    dots_walk component rest mark at onward true c dot dots = Walk.Walks.stays links component rest mark at _ dot (onward at)
    dots_walk component rest mark at onward false true dot dots = parent_walks component rest mark at dots onward (parent t at) refl
    dots_walk component rest mark at onward false false dot dots = name_walks component rest mark at dot dots onward (nat_lt (greatest_name t.version) (length component)) refl

    along-walks : (ps : List Bytes) (mark : Bool) (at : ℕ) → Walk.Walks t last links ps mark at (along t last following ps mark at)
    along-walks [] mark at = Walk.Walks.arrives links mark at
    along-walks (component ∷ rest) mark at = dots_walk component rest mark at (λ m. along-walks rest mark m) (is_dot component) (is_dot_dot component) refl refl

  -- each computed walk satisfies the relation
  pub walk_with_links-walks : (links : ℕ) (ps : List Bytes) (mark : Bool) (at : ℕ) → Walk.Walks t last links ps mark at (walk_with_links t last links ps mark at)
  walk_with_links-walks zero ps mark at = along-walks zero (no_link_left t last) (λ component rest mark at n text leads followed. Walk.Walks.out_of_links component rest mark at n text leads followed) ps mark at
  walk_with_links-walks (suc links) ps mark at =
      along-walks (suc links) (through_link t last (walk_with_links t last links))
      (λ component rest mark at n text leads followed. by component rest mark at n text leads followed (walk_with_links-walks links) (nat_lt 1024 (weight (components text ++ rest))) refl) ps mark at
    where
      by : (component : Bytes) (rest : List Bytes) (mark : Bool) (at n : ℕ) (text : Bytes) → Walk.HasNodeAt t at component n (link_node text) → Walk.is_followed rest mark last ≡ true
          → ((ps : List Bytes) (mark : Bool) (at : ℕ) → Walk.Walks t last links ps mark at (walk_with_links t last links ps mark at))
          → (b : Bool) → nat_lt 1024 (weight (components text ++ rest)) ≡ b
          → Walk.Walks t last (suc links) (component ∷ rest) mark at
          (cond b (Err ENAMETOOLONG) (walk_with_links t last links (components text ++ rest) (mark || (is_empty rest && ends_in_slash text)) (if is_absolute text then root else at)))
      by component rest mark at n text leads followed on true is = Walk.Walks.too_heavy links component rest mark at n text leads followed (ltb-true 1024 (weight (components text ++ rest)) is)
      by component rest mark at n text leads followed on false is =
          Walk.Walks.through links component rest mark at n text _ leads followed (ltb-false 1024 (weight (components text ++ rest)) is)
          (on (components text ++ rest) (mark || (is_empty rest && ends_in_slash text)) (if is_absolute text then root else at))

  -- ---- the relation has no other result

  abbrev after_of : ℕ → PastLink
  after_of zero = no_link_left t last
  after_of (suc links) = through_link t last (walk_with_links t last links)

  walk_with_links-along : (links : ℕ) (ps : List Bytes) (mark : Bool) (at : ℕ) → walk_with_links t last links ps mark at ≡ along t last (after_of links) ps mark at
  walk_with_links-along zero ps mark at = refl
  walk_with_links-along (suc links) ps mark at = refl

  module _ (following : PastLink) (component : Bytes) (rest : List Bytes) (mark : Bool) (at : ℕ) where
    abbrev onward_from : Onward
    onward_from = along t last following rest mark

    abbrev by_removed : Bool → Walked
    by_removed b = if b then Err ENOENT else at_entry t last following onward_from at component rest mark (find_entry t at component)

    abbrev by_length : Bool → Walked
    by_length b = if b then Err ENAMETOOLONG else by_removed (is_removed t at)

    abbrev by_dots : Bool → Walked
    by_dots b = if b then enter_parent onward_from (parent t at) else by_length (nat_lt (greatest_name t.version) (length component))

    abbrev by_dot : Bool → Walked
    by_dot b = if b then enter onward_from at else by_dots (is_dot_dot component)

    along-dot : is_dot component ≡ true → along t last following (component ∷ rest) mark at ≡ along t last following rest mark at
    along-dot is = ap by_dot is

    along-dots : is_dot_dot component ≡ true → along t last following (component ∷ rest) mark at ≡ enter_parent onward_from (parent t at)
    along-dots is = ap by_dot (dot_is_not_dots component is) ∙ ap by_dots is

    along-name : is_dot component ≡ false → is_dot_dot component ≡ false → along t last following (component ∷ rest) mark at ≡ by_length (nat_lt (greatest_name t.version) (length component))
    along-name dot dots = ap by_dot dot ∙ ap by_dots dots

    along-short : Walk.IsLookedUp t component → along t last following (component ∷ rest) mark at ≡ by_removed (is_removed t at)
    along-short name = along-name name.no_dot name.no_dot_dot ∙ ap by_length (le-ltb (greatest_name t.version) (length component) name.short)

    along-appears : Walk.IsLookedUp t component → is_removed t at ≡ false → along t last following (component ∷ rest) mark at ≡ at_entry t last following onward_from at component rest mark (find_entry t at component)
    along-appears name appears = along-short name ∙ ap by_removed appears

    along-leads : (n : ℕ) (node : Node) → Walk.HasNodeAt t at component n node → along t last following (component ∷ rest) mark at ≡ at_node t last following onward_from at component rest mark n (Some node)
    along-leads n node leads =
        along-appears leads.name leads.appears ∙ ap (at_entry t last following onward_from at component rest mark) leads.entry ∙ ap (at_node t last following onward_from at component rest mark n) leads.is

    along-link : (n : ℕ) (text : Bytes) (b : Bool) → Walk.HasNodeAt t at component n (link_node text) → Walk.is_followed rest mark last ≡ b
        → along t last following (component ∷ rest) mark at ≡ (if b then following text rest mark at else Ok (At at component (Some n)))
    along-link n text b leads is = along-leads n (link_node text) leads ∙ turned (is_empty rest && not mark && not last) b is
      where
        turned : (a b : Bool) → not a ≡ b → cond a (Ok (At at component (Some n))) (following text rest mark at) ≡ cond b (following text rest mark at) (Ok (At at component (Some n)))
        turned true true is = cc
        turned true false is = refl
        turned false true is = refl
        turned false false is = cc

  no_last : (rest : List Bytes) (mark : Bool) → (is_empty rest && not mark) ≡ false → (x : Walked) → cond (is_empty rest && not mark) x (Err ENOENT) ≡ Err ENOENT
  no_last rest mark is x = ap (λ b. cond b x (Err ENOENT)) is

  pub walks-walk_with_links : (links : ℕ) (ps : List Bytes) (mark : Bool) (at : ℕ) (r : Walked) → Walk.Walks t last links ps mark at r → walk_with_links t last links ps mark at ≡ r
  walks-walk_with_links _ _ _ _ _ (Walk.Walks.arrives links mark at) = walk_with_links-along links [] mark at
  walks-walk_with_links _ _ _ _ _ (Walk.Walks.stays links component rest mark at r is more) =
      walk_with_links-along links (component ∷ rest) mark at ∙ along-dot (after_of links) component rest mark at is ∙ sym (walk_with_links-along links rest mark at) ∙ walks-walk_with_links links rest mark at r more
  walks-walk_with_links _ _ _ _ _ (Walk.Walks.climbs links component rest mark at above r is up more) =
      walk_with_links-along links (component ∷ rest) mark at ∙ along-dots (after_of links) component rest mark at is ∙ ap (enter_parent (along t last (after_of links) rest mark)) up
      ∙ sym (walk_with_links-along links rest mark above) ∙ walks-walk_with_links links rest mark above r more
  walks-walk_with_links _ _ _ _ _ (Walk.Walks.no_parent links component rest mark at is up) =
      walk_with_links-along links (component ∷ rest) mark at ∙ along-dots (after_of links) component rest mark at is ∙ ap (enter_parent (along t last (after_of links) rest mark)) up
  walks-walk_with_links _ _ _ _ _ (Walk.Walks.name_too_long links component rest mark at dot dots long) =
      walk_with_links-along links (component ∷ rest) mark at ∙ along-name (after_of links) component rest mark at dot dots
      ∙ ap (by_length (after_of links) component rest mark at) (lt-ltb (greatest_name t.version) (length component) long)
  walks-walk_with_links _ _ _ _ _ (Walk.Walks.in_removed links component rest mark at name is) =
      walk_with_links-along links (component ∷ rest) mark at ∙ along-short (after_of links) component rest mark at name ∙ ap (by_removed (after_of links) component rest mark at) is
  walks-walk_with_links _ _ _ _ _ (Walk.Walks.absent links component rest mark at name appears none more) =
      walk_with_links-along links (component ∷ rest) mark at ∙ along-appears (after_of links) component rest mark at name appears
      ∙ ap (at_entry t last (after_of links) (along t last (after_of links) rest mark) at component rest mark) none ∙ no_last rest mark more (Ok (At at component None))
  walks-walk_with_links _ _ _ _ _ (Walk.Walks.vacant links component at name appears none) =
      walk_with_links-along links (component ∷ []) false at ∙ along-appears (after_of links) component [] false at name appears
      ∙ ap (at_entry t last (after_of links) (along t last (after_of links) [] false) at component [] false) none
  walks-walk_with_links _ _ _ _ _ (Walk.Walks.out_of_links component rest mark at n text leads followed) = along-link (after_of 0) component rest mark at n text true leads followed
  walks-walk_with_links _ _ _ _ _ (Walk.Walks.too_heavy links component rest mark at n text leads followed heavy) =
      along-link (after_of (suc links)) component rest mark at n text true leads followed
      ∙ ap (λ b. cond b (Err ENAMETOOLONG) (walk_with_links t last links (components text ++ rest) (mark || (is_empty rest && ends_in_slash text)) (if is_absolute text then root else at)))
      (lt-ltb 1024 (weight (components text ++ rest)) heavy)
  walks-walk_with_links _ _ _ _ _ (Walk.Walks.through links component rest mark at n text r leads followed light more) =
      along-link (after_of (suc links)) component rest mark at n text true leads followed
      ∙ ap (λ b. cond b (Err ENAMETOOLONG) (walk_with_links t last links (components text ++ rest) (mark || (is_empty rest && ends_in_slash text)) (if is_absolute text then root else at)))
      (le-ltb 1024 (weight (components text ++ rest)) light)
      ∙ walks-walk_with_links links (components text ++ rest) (mark || (is_empty rest && ends_in_slash text)) (if is_absolute text then root else at) r more
  walks-walk_with_links _ _ _ _ _ (Walk.Walks.enters links component next rest mark at n es r leads more) =
      walk_with_links-along links (component ∷ next ∷ rest) mark at ∙ along-leads (after_of links) component (next ∷ rest) mark at n (directory_node es) leads
      ∙ sym (walk_with_links-along links (next ∷ rest) mark n) ∙ walks-walk_with_links links (next ∷ rest) mark n r more
  walks-walk_with_links _ _ _ _ _ (Walk.Walks.not_entered links component next rest mark at n executable bytes leads) =
      walk_with_links-along links (component ∷ next ∷ rest) mark at ∙ along-leads (after_of links) component (next ∷ rest) mark at n (file_node executable bytes) leads
  walks-walk_with_links _ _ _ _ _ (Walk.Walks.finds_directory links component mark at n es leads) =
      walk_with_links-along links (component ∷ []) mark at ∙ along-leads (after_of links) component [] mark at n (directory_node es) leads
  walks-walk_with_links _ _ _ _ _ (Walk.Walks.finds_file links component at n executable bytes leads) =
      walk_with_links-along links (component ∷ []) false at ∙ along-leads (after_of links) component [] false at n (file_node executable bytes) leads
  walks-walk_with_links _ _ _ _ _ (Walk.Walks.finds_link links component rest mark at n text leads followed) =
      walk_with_links-along links (component ∷ rest) mark at ∙ along-link (after_of links) component rest mark at n text false leads followed
  walks-walk_with_links _ _ _ _ _ (Walk.Walks.wants_directory links component at n executable bytes leads) =
      walk_with_links-along links (component ∷ []) true at ∙ along-leads (after_of links) component [] true at n (file_node executable bytes) leads
  walks-walk_with_links _ _ _ _ _ (Walk.Walks.lost links component rest mark at n name appears found none) =
      walk_with_links-along links (component ∷ rest) mark at ∙ along-appears (after_of links) component rest mark at name appears
      ∙ ap (at_entry t last (after_of links) (along t last (after_of links) rest mark) at component rest mark) found
      ∙ ap (at_node t last (after_of links) (along t last (after_of links) rest mark) at component rest mark n) none

pub walks-once : (t : Tree) (last : Bool) (links : ℕ) (ps : List Bytes) (mark : Bool) (at : ℕ) (r q : Walked) → Walk.Walks t last links ps mark at r → Walk.Walks t last links ps mark at q → r ≡ q
walks-once t last links ps mark at r q a b = sym (walks-walk_with_links t last links ps mark at r a) ∙ walks-walk_with_links t last links ps mark at q b

-- ---- paths

abbrev from : ℕ → Bytes → ℕ
from start path = if is_absolute path then root else start

pub resolve-resolves : (t : Tree) (follow : Follow) (start : ℕ) (path : Bytes) → Walk.Resolves t follow start path (resolve t follow start path)
unfolding resolve
resolve-resolves t follow start path = by (is_empty path) (nat_lt 1023 (length path)) refl refl
  where
    by : (b c : Bool) → is_empty path ≡ b → nat_lt 1023 (length path) ≡ c
        → Walk.Resolves t follow start path (cond b (Err ENOENT) (cond c (Err ENAMETOOLONG) (walk_with_links t (follows_last follow) 32 (components path) (end_mark follow path) (from start path))))
    by true c is long = Walk.Resolves.empty is
    by false true is long = Walk.Resolves.too_long (ltb-true 1023 (length path) long)
    by false false is long =
        Walk.Resolves.walks _ is (ltb-false 1023 (length path) long) (walk_with_links-walks t (follows_last follow) 32 (components path) (end_mark follow path) (from start path))

long_is_not_empty : (path : Bytes) → 1023 < length path → is_empty path ≡ false
long_is_not_empty [] long = absurd (omega arith)
long_is_not_empty (b ∷ path) long = refl

pub resolves-resolve : (t : Tree) (follow : Follow) (start : ℕ) (path : Bytes) (r : Walked) → Walk.Resolves t follow start path r → resolve t follow start path ≡ r
unfolding resolve
resolves-resolve t follow start path _ (Walk.Resolves.empty is) =
    ap (λ b. cond b (Err ENOENT) (if nat_lt 1023 (length path) then Err ENAMETOOLONG else walk_with_links t (follows_last follow) 32 (components path) (end_mark follow path) (from start path))) is
resolves-resolve t follow start path _ (Walk.Resolves.too_long long) =
    ap (λ b. cond b (Err ENOENT) (if nat_lt 1023 (length path) then Err ENAMETOOLONG else walk_with_links t (follows_last follow) 32 (components path) (end_mark follow path) (from start path))) (long_is_not_empty path long)
    ∙ ap (λ b. cond b (Err ENAMETOOLONG) (walk_with_links t (follows_last follow) 32 (components path) (end_mark follow path) (from start path))) (lt-ltb 1023 (length path) long)
resolves-resolve t follow start path r (Walk.Resolves.walks _ is short more) =
    ap (λ b. cond b (Err ENOENT) (if nat_lt 1023 (length path) then Err ENAMETOOLONG else walk_with_links t (follows_last follow) 32 (components path) (end_mark follow path) (from start path))) is
    ∙ ap (λ b. cond b (Err ENAMETOOLONG) (walk_with_links t (follows_last follow) 32 (components path) (end_mark follow path) (from start path))) (le-ltb 1023 (length path) short)
    ∙ walks-walk_with_links t (follows_last follow) 32 (components path) (end_mark follow path) (from start path) r more

pub resolves-as_walked : (t : Tree) (follow : Follow) (start : ℕ) (path : Bytes) (r : Walked) → (resolve t follow start path ≡ r) ↔ Walk.Resolves t follow start path r
resolves-as_walked t follow start path r =
    (λ is. subst (Walk.Resolves t follow start path) is (resolve-resolves t follow start path), resolves-resolve t follow start path r)

-- ---- paths of slashes

slash_components : (path : Bytes) → list_all (λ b. b == 47) path ≡ true → components path ≡ []
slash_components [] all = refl
slash_components (b ∷ path) all =
    let parts = Rattle.std.proofs.lemmas.Bool.and_parts (b == 47) (list_all (λ b. b == 47) path) all in
    ap (λ c. Rattle.std.specs.Prelude.filter (λ component. not (is_empty component)) (cond c ([] ∷ Rattle.pv_model.specs.Walk.split_slashes path) (Rattle.pv_model.specs.Bytes.onto_first b (Rattle.pv_model.specs.Walk.split_slashes path)))) parts.0
    ∙ slash_components path parts.1

slash_absolute : (path : Bytes) → is_empty path ≡ false → list_all (λ b. b == 47) path ≡ true → is_absolute path ≡ true
slash_absolute [] filled all = cc
slash_absolute (b ∷ path) filled all = (Rattle.std.proofs.lemmas.Bool.and_parts (b == 47) (list_all (λ b. b == 47) path) all).0

pub slashes-root : (t : Tree) (follow : Follow) (start : ℕ) (path : Bytes) → is_empty path ≡ false → list_all (λ b. b == 47) path ≡ true → length path ≤ 1023
    → resolve t follow start path ≡ Ok (Unnamed root)
slashes-root t follow start path filled all short =
    let way : Walk.Walks t (follows_last follow) 32 (components path) (end_mark follow path) (from start path) (Ok (Unnamed root)) =
    rw (slash_components path all, slash_absolute path filled all) (Walk.Walks.arrives 32 (end_mark follow path) root) in
    resolves-resolve t follow start path (Ok (Unnamed root)) (Walk.Resolves.walks (Ok (Unnamed root)) filled short way)
