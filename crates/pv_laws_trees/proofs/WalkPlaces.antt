-- The places where walks lead, and the part of the tree that walks read.
use Rattle.std.proofs.Common.{◌≡◌, ℕ, zero, suc, Bool, true, false, cond, if◌then◌else◌, not, ◌&&◌, ◌||◌, ◌==◌, nat_lt, nat_le, List, [], ◌∷◌, ◌++◌, filter, bytes_eq, codes, length, Option, None, Some, is_none, Ok, Err, refl, ap, ap₂, sym, subst, ◌∙◌, ⊎_elim}
use Rattle.std.specs.FinMap.Entries.{find}
use Rattle.std.specs.List.{list_all}
use Rattle.std.proofs.lemmas.Bool.{and_parts, and_from, le-leb, cases_eq}
use Rattle.std.proofs.lemmas.List.Folds.{list_all-append}
use Rattle.pv_model.specs.declared.errno.Errno.TheVariants.{ENOENT, ENOTDIR, ENAMETOOLONG}
use Rattle.pv_model.specs.declared.follow.Follow.{Follow}
use Rattle.pv_model.specs.declared.place.Place.{Place}
use Rattle.pv_model.specs.declared.place.Place.TheVariants.{At, Node as Unnamed}
use Rattle.pv_model.specs.Machine.{Bytes, is_empty, onto_first, Numbered, at_number, numbered_from, Node, directory_node, file_node, link_node, Tree, greatest_name, root, node_at, entries_of, entries_at, is_directory, is_directory_at, find_entry, parent, is_removed, is_name, is_name_byte, is_link_text, IsWellFormed, split_slashes, components, is_absolute, weight, follows_last, end_mark, Walked, resolve}
use Rattle.pv_model.specs.Tree.{names_node, first_parent}
use Rattle.pv_model.specs.Walk.{ends_in_slash, is_dot, is_dot_dot, Onward, PastLink, enter, enter_parent, at_node, at_entry, along, no_link_left, through_link, walk_with_links}
use Rattle.pv_laws_trees.specs.Tree.{IsSoundTree}
use Rattle.pv_laws_trees.specs.Walk
use Rattle.pv_laws_trees.proofs.TreeChanges.{has_entry-directory}
use Rattle.pv_laws_trees.proofs.DirectoryEntries.{by_name}
use Rattle.pv_laws_trees.proofs.Trees.{ordered, sound, parent-entry, parent-root}
use Rattle.pv_laws_trees.proofs.WalkRelations.{resolve-resolves}

-- ---- components are names

pub list_all-weaker : {X : Type 0} (p q : X → Bool) → ((x : X) → p x ≡ true → q x ≡ true) → (xs : List X) → list_all p xs ≡ true → list_all q xs ≡ true
list_all-weaker p q weaker [] all = refl
list_all-weaker p q weaker (x ∷ xs) all =
    let parts = and_parts (p x) (list_all p xs) all in and_from (q x) (list_all q xs) (weaker x parts.0) (list_all-weaker p q weaker xs parts.1)

list_all-filtered : {X : Type 0} (p q : X → Bool) (xs : List X) → list_all q xs ≡ true → list_all (λ x. p x && q x) (filter p xs) ≡ true
list_all-filtered p q [] all = refl
list_all-filtered p q (x ∷ xs) all =
    let parts = and_parts (q x) (list_all q xs) all in
    let rest = list_all-filtered p q xs parts.1 in
    elim (p x) as (λ b. p x ≡ b → list_all (λ x. p x && q x) (cond b (x ∷ filter p xs) (filter p xs)) ≡ true) [
      | true ↦ λ is. and_from (p x && q x) _ (and_from (p x) (q x) is parts.0) rest
      | false ↦ λ is. rest
    ] refl

module _ (test : ℕ → Bool) where
  -- bytes that pass a test, without slashes
  abbrev pub is_encoded : Bytes → Bool
  is_encoded component = list_all (λ b. not (b == 47) && test b) component

  -- a nonempty string of such bytes
  abbrev pub is_component : Bytes → Bool
  is_component component = not (is_empty component) && is_encoded component

  onto : (b : ℕ) (ps : List Bytes) → (not (b == 47) && test b) ≡ true → list_all is_encoded ps ≡ true → list_all is_encoded (onto_first b ps) ≡ true
  onto b [] good all = and_from _ true (and_from _ true good refl) refl
  onto b (p ∷ ps) good all = let parts = and_parts (is_encoded p) (list_all is_encoded ps) all in and_from _ (list_all is_encoded ps) (and_from _ (is_encoded p) good parts.0) parts.1

  split_encoded : (path : Bytes) → list_all test path ≡ true → list_all is_encoded (split_slashes path) ≡ true
  split_encoded [] all = refl
  split_encoded (b ∷ path) all =
      let parts = and_parts (test b) (list_all test path) all in
      let rest = split_encoded path parts.1 in
      elim (b == 47) as (λ c. (b == 47) ≡ c → list_all is_encoded (cond c ([] ∷ split_slashes path) (onto_first b (split_slashes path))) ≡ true) [
        | true ↦ λ is. rest
        | false ↦ λ is. onto b (split_slashes path) (and_from (not (b == 47)) (test b) (ap not is) parts.0) rest
      ] refl

  -- the components of a path whose bytes pass
  pub components-encoded : (path : Bytes) → list_all test path ≡ true → list_all is_component (components path) ≡ true
  components-encoded path all = list_all-filtered (λ component. not (is_empty component)) is_encoded (split_slashes path) (split_encoded path all)

  -- ---- the result of a walk

  abbrev pub IsGoodPlace : Tree → Place → Type 0
  IsGoodPlace t (Unnamed d) = is_directory_at t d ≡ true
  IsGoodPlace t (At d name n) = (is_directory_at t d ≡ true) × (is_removed t d ≡ false) × (find_entry t d name ≡ n) × Walk.IsLookedUp t name × (is_component name ≡ true)

  abbrev IsGood : Tree → Walked → Type 0
  IsGood t (Ok place) = IsGoodPlace t place
  IsGood t (Err e) = Unit {0}

  pub parent-directory : (t : Tree) → IsSoundTree t → (n d : ℕ) → parent t n ≡ Some d → is_directory_at t d ≡ true
  parent-directory t s n d up =
      ⊎_elim
      (λ top. let same : root ≡ d = cc (sym (parent-root t) ∙ ap (parent t) (sym top) ∙ up) in ap (is_directory_at t) (sym same) ∙ s.root_is_directory)
      (λ other. let found = parent-entry t (ordered t s.each_node) n d other up in has_entry-directory t d found.0 n found.1)
      (cases_eq n root)

  module _ (t : Tree) (s : IsSoundTree t) (links_pass : (n : ℕ) (text : Bytes) → node_at t n ≡ Some (link_node text) → list_all test text ≡ true) (last : Bool) where
    pub walks-good : (links : ℕ) (ps : List Bytes) (mark : Bool) (at : ℕ) (r : Walked) → Walk.Walks t last links ps mark at r → is_directory_at t at ≡ true → list_all is_component ps ≡ true → IsGood t r
    walks-good _ _ _ _ _ (Walk.Walks.arrives links mark at) dir all = dir
    walks-good _ _ _ _ _ (Walk.Walks.stays links component rest mark at r is more) dir all = walks-good links rest mark at r more dir (and_parts (is_component component) _ all).1
    walks-good _ _ _ _ _ (Walk.Walks.climbs links component rest mark at above r is up more) dir all =
        walks-good links rest mark above r more (parent-directory t s at above up) (and_parts (is_component component) _ all).1
    walks-good _ _ _ _ _ (Walk.Walks.no_parent links component rest mark at is up) dir all = tt
    walks-good _ _ _ _ _ (Walk.Walks.name_too_long links component rest mark at dot dots long) dir all = tt
    walks-good _ _ _ _ _ (Walk.Walks.in_removed links component rest mark at name is) dir all = tt
    walks-good _ _ _ _ _ (Walk.Walks.absent links component rest mark at name appears none more) dir all = tt
    walks-good _ _ _ _ _ (Walk.Walks.vacant links component at name appears none) dir all = (dir, appears, none, name, (and_parts (is_component component) _ all).0)
    walks-good _ _ _ _ _ (Walk.Walks.out_of_links component rest mark at n text leads followed) dir all = tt
    walks-good _ _ _ _ _ (Walk.Walks.too_heavy links component rest mark at n text leads followed heavy) dir all = tt
    walks-good _ _ _ _ _ (Walk.Walks.through links component rest mark at n text r leads followed light more) dir all =
        walks-good links (components text ++ rest) (mark || (is_empty rest && ends_in_slash text)) (if is_absolute text then root else at) r more
        (elim (is_absolute text) as (λ b. is_directory_at t (cond b root at) ≡ true) [ true ↦ s.root_is_directory | false ↦ dir ])
        (list_all-append is_component (components text) rest ∙ and_from _ _ (components-encoded text (links_pass n text leads.is)) (and_parts (is_component component) _ all).1)
    walks-good _ _ _ _ _ (Walk.Walks.enters links component next rest mark at n es r leads more) dir all =
        walks-good links (next ∷ rest) mark n r more (ap is_directory leads.is) (and_parts (is_component component) _ all).1
    walks-good _ _ _ _ _ (Walk.Walks.not_entered links component next rest mark at n executable bytes leads) dir all = tt
    walks-good _ _ _ _ _ (Walk.Walks.finds_directory links component mark at n es leads) dir all = (dir, leads.appears, leads.entry, leads.name, (and_parts (is_component component) _ all).0)
    walks-good _ _ _ _ _ (Walk.Walks.finds_file links component at n executable bytes leads) dir all = (dir, leads.appears, leads.entry, leads.name, (and_parts (is_component component) _ all).0)
    walks-good _ _ _ _ _ (Walk.Walks.finds_link links component rest mark at n text leads followed) dir all = (dir, leads.appears, leads.entry, leads.name, (and_parts (is_component component) _ all).0)
    walks-good _ _ _ _ _ (Walk.Walks.wants_directory links component at n executable bytes leads) dir all = tt
    walks-good _ _ _ _ _ (Walk.Walks.lost links component rest mark at n name appears found none) dir all = tt

  -- a path whose bytes pass leads from a directory to a place whose name passes
  pub resolve-good : (t : Tree) → IsSoundTree t → ((n : ℕ) (text : Bytes) → node_at t n ≡ Some (link_node text) → list_all test text ≡ true)
      → (follow : Follow) (start : ℕ) (path : Bytes) (place : Place) → is_directory_at t start ≡ true → list_all test path ≡ true
      → resolve t follow start path ≡ Ok place → IsGoodPlace t place
  resolve-good t s links_pass follow start path place dir all is = by (Ok place) (subst (Walk.Resolves t follow start path) is (resolve-resolves t follow start path))
    where
      by : (r : Walked) → Walk.Resolves t follow start path r → IsGood t r
      by _ (Walk.Resolves.empty is) = tt
      by _ (Walk.Resolves.too_long long) = tt
      by r (Walk.Resolves.walks _ filled short more) =
          walks-good t s links_pass (follows_last follow) 32 (components path) (end_mark follow path) (if is_absolute path then root else start) r more
          (elim (is_absolute path) as (λ b. is_directory_at t (cond b root start) ≡ true) [ true ↦ s.root_is_directory | false ↦ dir ]) (components-encoded path all)

-- ---- valid places of well-formed trees

abbrev pub not_zero : ℕ → Bool
not_zero b = not (b == 0)

-- the text of a link
pub link-text : (t : Tree) → IsSoundTree t → (n : ℕ) (text : Bytes) → node_at t n ≡ Some (link_node text) → is_link_text text ≡ true
link-text t s n text is = s.each_node n (link_node text) is

link_passes : (t : Tree) → IsSoundTree t → (n : ℕ) (text : Bytes) → node_at t n ≡ Some (link_node text) → list_all not_zero text ≡ true
link_passes t s n text is = (and_parts (not (is_empty text) && nat_le (length text) 1023) (list_all not_zero text) (link-text t s n text is)).1

-- a component that is looked up is a valid name
pub component-name : (t : Tree) (component : Bytes) → Walk.IsLookedUp t component → is_component not_zero component ≡ true → is_name t.version component ≡ true
component-name t component name good =
    let parts = and_parts (not (is_empty component)) (is_encoded not_zero component) good in
    and_from _ (not (bytes_eq component (codes "..")))
    (and_from _ (not (bytes_eq component (codes ".")))
    (and_from _ (list_all is_name_byte component)
    (and_from (not (is_empty component)) (nat_le (length component) (greatest_name t.version)) parts.0 (le-leb (length component) (greatest_name t.version) name.short))
    (list_all-weaker (λ b. not (b == 47) && not_zero b) is_name_byte (λ b is. let both = and_parts (not (b == 47)) (not_zero b) is in and_from (not (b == 0)) (not (b == 47)) both.1 both.0) component parts.1))
    (ap not name.no_dot))
    (ap not name.no_dot_dot)

good-place : (t : Tree) (place : Place) → IsGoodPlace not_zero t place → Walk.IsPlace t place
good-place t (Unnamed d) is = is
good-place t (At d name n) is = (is.0, is.1, is.2, component-name t name is.3 is.4)

pub leads-to_place : (t : Tree) → IsWellFormed t → (follow : Follow) (start : ℕ) (path : Bytes) (place : Place) → is_directory_at t start ≡ true → list_all (λ b. not (b == 0)) path ≡ true
    → resolve t follow start path ≡ Ok place → Walk.IsPlace t place
leads-to_place t w follow start path place dir all is =
    let s = sound t w in good-place t place (resolve-good not_zero t s (link_passes t s) follow start path place dir all is)

-- ---- the parts that a walk reads

parent_step : (n k : ℕ) (o : Option Node) (xs : Numbered Node)
    → first_parent n (numbered_from k (o ∷ xs)) ≡ cond (names_node n (entries_of o)) (Some k) (first_parent n (numbered_from (suc k) xs))
parent_step n k None xs = refl
parent_step n k (Some node) xs = refl

no_parents : (n k : ℕ) (xs : Numbered Node) → ((d : ℕ) → entries_of (at_number xs d) ≡ []) → first_parent n (numbered_from k xs) ≡ None
no_parents n k [] none = refl
no_parents n k (o ∷ xs) none =
    parent_step n k o xs ∙ ap (λ es. cond (names_node n es) (Some k) (first_parent n (numbered_from (suc k) xs))) (none 0) ∙ no_parents n (suc k) xs (λ d. none (suc d))

first_parent-alike : (n k : ℕ) (xs ys : Numbered Node) → ((d : ℕ) → entries_of (at_number ys d) ≡ entries_of (at_number xs d))
    → first_parent n (numbered_from k ys) ≡ first_parent n (numbered_from k xs)
first_parent-alike n k [] ys same = no_parents n k ys same
first_parent-alike n k (x ∷ xs) [] same = sym (no_parents n k (x ∷ xs) (λ d. sym (same d)))
first_parent-alike n k (x ∷ xs) (y ∷ ys) same =
    parent_step n k y ys ∙ ap₂ (λ es (p : Option ℕ). cond (names_node n es) (Some k) p) (same 0) (first_parent-alike n (suc k) xs ys (λ d. same (suc d))) ∙ sym (parent_step n k x xs)

pub parent-alike : (t u : Tree) → ((d : ℕ) → entries_at u d ≡ entries_at t d) → (n : ℕ) → parent u n ≡ parent t n
unfolding parent
parent-alike t u same n = ap (λ (p : Option ℕ). if n == root then Some root else p) (first_parent-alike n 0 t.nodes u.nodes same)

module _ (last : Bool) where
  abbrev at_seen : PastLink → Onward → ℕ → Bytes → List Bytes → Bool → ℕ → Walk.WalkedNode → Walked
  at_seen following onward at component rest mark n (Walk.WalkedNode.a_link text) = if is_empty rest && not mark && not last then Ok (At at component (Some n)) else following text rest mark at
  at_seen following onward at component rest mark n Walk.WalkedNode.a_directory = if is_empty rest then Ok (At at component (Some n)) else enter onward n
  at_seen following onward at component rest mark n Walk.WalkedNode.a_file = if is_empty rest && not mark then Ok (At at component (Some n)) else Err ENOTDIR
  at_seen following onward at component rest mark n Walk.WalkedNode.no_node = Err ENOENT

  at_node-seen : (t : Tree) (following : PastLink) (onward : Onward) (at : ℕ) (component : Bytes) (rest : List Bytes) (mark : Bool) (n : ℕ) (o : Option Node)
      → at_node t last following onward at component rest mark n o ≡ at_seen following onward at component rest mark n (Walk.walked_node o)
  at_node-seen t following onward at component rest mark n None = refl
  at_node-seen t following onward at component rest mark n (Some (directory_node es)) = refl
  at_node-seen t following onward at component rest mark n (Some (file_node executable bytes)) = refl
  at_node-seen t following onward at component rest mark n (Some (link_node text)) = refl

  module _ (t u : Tree) (alike : Walk.LooksTheSame t u) where
    entry-alike : (b c : PastLink) (f g : Onward) → b ≡ c → f ≡ g → (at : ℕ) (component : Bytes) (rest : List Bytes) (mark : Bool) (o : Option ℕ)
        → at_entry u last b f at component rest mark o ≡ at_entry t last c g at component rest mark o
    entry-alike b c f g afters onwards at component rest mark None = refl
    entry-alike b c f g afters onwards at component rest mark (Some n) =
        at_node-seen u b f at component rest mark n (node_at u n)
        ∙ (λ i. at_seen (afters i) (onwards i) at component rest mark n (alike.nodes n i))
        ∙ sym (at_node-seen t c g at component rest mark n (node_at t n))

    along-alike : (b c : PastLink) → b ≡ c → (ps : List Bytes) (mark : Bool) (at : ℕ) → along u last b ps mark at ≡ along t last c ps mark at
    along-alike b c afters [] mark at = refl
    along-alike b c afters (component ∷ rest) mark at =
        let onwards : along u last b rest mark ≡ along t last c rest mark = λ i m. along-alike b c afters rest mark m i in
        let up = parent-alike t u alike.entries at in
        let found : find_entry u at component ≡ find_entry t at component = ap (find by_name component) (alike.entries at) in
        let there = ap (at_entry u last b (along u last b rest mark) at component rest mark) found ∙ entry-alike b c (along u last b rest mark) (along t last c rest mark) afters onwards at component rest mark (find_entry t at component) in
        λ i. if is_dot component then enter (onwards i) at
        else if is_dot_dot component then enter_parent (onwards i) (up i)
        else if nat_lt (greatest_name (alike.version i)) (length component) then Err ENAMETOOLONG
        else if is_none (up i) then Err ENOENT
        else there i

    walk_with_links-alike : (links : ℕ) (ps : List Bytes) (mark : Bool) (at : ℕ) → walk_with_links u last links ps mark at ≡ walk_with_links t last links ps mark at
    walk_with_links-alike zero ps mark at = along-alike (no_link_left u last) (no_link_left t last) (λ i text rest mark at. Err Rattle.pv_model.specs.declared.errno.Errno.TheVariants.ELOOP) ps mark at
    walk_with_links-alike (suc links) ps mark at =
        let on : walk_with_links u last links ≡ walk_with_links t last links = λ i qs m a. walk_with_links-alike links qs m a i in
        along-alike (through_link u last (walk_with_links u last links)) (through_link t last (walk_with_links t last links))
        (λ i text rest mark at. if nat_lt 1024 (weight (components text ++ rest)) then Err ENAMETOOLONG
        else on i (components text ++ rest) (mark || (is_empty rest && ends_in_slash text)) (if is_absolute text then root else at)) ps mark at

pub resolve-alike : (t u : Tree) → Walk.LooksTheSame t u → (follow : Follow) (start : ℕ) (path : Bytes) → resolve u follow start path ≡ resolve t follow start path
unfolding resolve
resolve-alike t u alike follow start path =
    ap (λ (r : Walked). if is_empty path then Err ENOENT else if nat_lt 1023 (length path) then Err ENAMETOOLONG else r)
    (walk_with_links-alike (follows_last follow) t u alike 32 (components path) (end_mark follow path) (if is_absolute path then root else start))
