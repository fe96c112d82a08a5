-- The calls that change the tree preserve validity.
use Rattle.std.proofs.Common.{◌≡◌, ◌≢◌, ℕ, zero, suc, ◌+◌, ◌-◌, ◌<◌, ◌≤◌, min, ℤ, true, false, not, ◌&&◌, ◌||◌, if◌then◌else◌, nat_lt, List, [], ◌∷◌, ◌++◌, length, take, drop, replicate, Option, None, Some, is_some, refl, ap, sym, subst, ◌∙◌, arith}
use Rattle.std.proofs.Math.ListN.{length-take}
use Rattle.std.proofs.lemmas.Bool.{and_parts, and_from, ltb-false, eq-eqb}
use Rattle.pv_model.specs.declared.errno.Errno.TheVariants.{EFBIG, EPERM, EBADF, ENOENT, EBUSY, EEXIST, ENOTDIR, EISDIR, EINVAL, ENAMETOOLONG, ENOTEMPTY}
use Rattle.pv_model.specs.declared.follow.Follow.{Follow}
use Rattle.pv_model.specs.declared.follow.Follow.TheVariants.{Last, Keep, KeepTrimmed}
use Rattle.pv_model.specs.declared.place.Place.{Place}
use Rattle.pv_model.specs.declared.place.Place.TheVariants.{At, Node as Unnamed}
use Rattle.pv_model.specs.Machine.{Attempt, ◌>>=◌, ◌>>◌, refuse_if, demand, Bytes, is_empty, within, natural, is_past_greatest, with_content, open_file_for, write_place, write_end, after_write, write, ftruncate, same_node, contains_directory, is_directory_there, entries_there, ends_in_dot, symlink, link, unlink, rmdir, move_entry, rename, Effect, answers, judge_for, walk_from, with_room, node_of, name_of, open_file, with_file, bytes_of, overwrite, resize, collect, with_number, permission_r, permission_c, greatest_length, fits, is_too_long, OpenFile, Process, State, writes, process_at, with_tree, Node, directory_node, file_node, link_node, Tree, node_at, entries_of, entries_at, is_directory, is_directory_at, is_removed, find_entry, new_number, with_node, with_new_node, with_entry, without_entry, is_name, is_node, resolve, from_here}
use Rattle.pv_model.specs.Calls.Paths.{make, mkdir}
use Rattle.pv_laws_states.specs.States.{is_byte, are_bytes, has_bytes, is_text, is_text_byte, IsTree, AreFiles, IsValid}
use Rattle.pv_laws_states.proofs.AttemptValues.{Leads, leads-then, leads-refuse_if, leads-demand, leads-place, leads-room}
use Rattle.pv_laws_states.proofs.ValidByFile.{open_file_for-at, file-bytes, files-with, files-stay}
use Rattle.pv_laws_states.proofs.ValidByProcess.{within-limit}
use Rattle.pv_laws_trees.proofs.TreeChanges.{directory-below, node_at-other, directory_is_some}
use Rattle.pv_laws_trees.proofs.WellFormedChanges.{stays-new_node, stays-with_entry, stays-without_entry, stays-renamed, new_number-free}
use Rattle.pv_laws_states.proofs.GrownTrees.{bytes-with_node, bytes-with_entry, bytes-without_entry, carries-with_node, carries-entries, tree-content, carries-content, ready-tree, ready-smaller, new-below}
use Rattle.pv_laws_trees.proofs.TreeChanges.{still-there}
use Rattle.pv_laws_trees.proofs.NodeRoom.{no_larger-without, greatest-low}
use Rattle.pv_laws_trees.proofs.WalkPlaces.{list_all-weaker, not_zero}
use Rattle.pv_laws_trees.proofs.ListTests.{not-there}
use Rattle.pv_laws_states.proofs.ValidReplies.{IsEffect}
use Rattle.pv_laws_states.proofs.ProcessInsides.{IsReady, list_all-take, list_all-drop, list_all-both, list_all-replicate}
use Rattle.pv_laws_states.proofs.ChangedStates.{IsFinePlace, resolve-fine, text-bytes, ready, my-running, my-placed, Carries, carries-along, file-carried, solid-present}
use Rattle.pv_laws_states.proofs.CollectedStates.{held_after, tree-collect}
use Rattle.pv_laws_states.proofs.ValidStates.{HasRoom, solid}

-- ---- places with names

pub record FineName (t : Tree) (p : ℕ × Bytes) (n : Option ℕ) : Type 0 where
  pub directory : is_directory_at t p.0 ≡ true
  pub appears : is_removed t p.0 ≡ false
  pub found : find_entry t p.0 p.1 ≡ n
  pub name : is_name t.version p.1 ≡ true
  pub bytes : are_bytes p.1 ≡ true

pub named-place : (t : Tree) (place : Place) (p : ℕ × Bytes) → IsFinePlace t place → name_of place ≡ Some p → FineName t p (node_of place)
named-place t (Unnamed n) p is named = cc
named-place t (At d name n) p is named =
    let pair : ◌≡◌ {A = ℕ × Bytes} (d, name) p = cc named in
    subst (λ q. FineName t q n) pair (record { directory = is.0; appears = is.1; found = is.2; name = is.3; bytes = is.4 })

-- the node of a place exists
pub place-there : (t : Tree) → IsTree t → (place : Place) (n : ℕ) → IsFinePlace t place → node_of place ≡ Some n → is_some (node_at t n) ≡ true
place-there t is (Unnamed m) n fine at = let same : m ≡ n = cc at in ap (λ k. is_some (node_at t k)) (sym same) ∙ directory_is_some (node_at t m) fine
place-there t is (At d name None) n fine at = cc
place-there t is (At d name (Some m)) n fine at = is.well_formed.entries_are_nodes d name n (fine.2 ∙ at)

pub plain_entries : (o : Option Node) → is_directory o ≡ false → entries_of o ≡ []
plain_entries None plain = refl
plain_entries (Some (directory_node es)) plain = cc
plain_entries (Some (file_node executable bytes)) plain = refl
plain_entries (Some (link_node text)) plain = refl

pub empty-is : {X : Type 0} (xs : List X) → not (is_empty xs) ≡ false → xs ≡ []
empty-is [] is = refl
empty-is (x ∷ xs) is = cc

module _ (s : State) (pid : ℕ) (me : Process) (whole : IsValid s) (at : process_at s pid ≡ Some me) where
  abbrev my_start : is_directory_at s.tree me.directory ≡ true
  my_start = (my-placed s pid me whole at).directory

  pub fine-place : (follow : Follow) (path : Bytes) (place : Place) → is_text path ≡ true → resolve s.tree follow me.directory path ≡ Rattle.std.specs.Prelude.Ok place → IsFinePlace s.tree place
  fine-place follow path place text found = resolve-fine s.tree whole.tree follow me.directory path place my_start text found

  pub room-of : (u : State) → is_too_long (collect u).tree ≡ false → fits (collect u).tree ≡ true → HasRoom u
  room-of u short fit = record { fits = fit; not_too_long = short }

  -- ---- a new node

  pub tree-new : (p : ℕ × Bytes) (node : Node) → FineName s.tree p None → is_node s.tree.version node ≡ true → has_bytes node ≡ true → entries_of (Some node) ≡ []
      → new_number s.tree < length s.tree.nodes → IsTree (with_new_node s.tree p.0 p.1 node) × Carries s.tree (with_new_node s.tree p.0 p.1 node)
  tree-new p node fine good bytes bare below =
      let t1 : Tree = with_node s.tree (new_number s.tree) node in
      let free = new_number-free s.tree in
      let apart : p.0 ≢ new_number s.tree = λ same. let isnt : is_directory_at s.tree p.0 ≡ false = ap (is_directory_at s.tree) same ∙ ap is_directory free in let is = fine.directory in cc in
      let dir : is_directory_at t1 p.0 ≡ true = ap is_directory (node_at-other s.tree (new_number s.tree) node p.0 below apart) ∙ fine.directory in (
        record {
          well_formed = stays-new_node s.tree whole.tree.well_formed p.0 p.1 node (fine.directory, fine.appears) fine.found fine.name good bare (omega (arith, whole.tree.well_formed.numbers));
          bytes = bytes-with_entry t1 p.0 p.1 (new_number s.tree) dir fine.bytes (bytes-with_node s.tree (new_number s.tree) node below bytes whole.tree.bytes);
        },
        carries-along s.tree t1 (with_new_node s.tree p.0 p.1 node)
            (carries-with_node s.tree (new_number s.tree) node below (λ is. let isnt = ap is_some free in cc))
            (still-there s.tree (new_number s.tree) node below)
            (carries-entries t1 p.0 _ dir),
      )

  abbrev make_3 : Node → (ℕ × Bytes) → Attempt Effect
  make_3 node (d, name) = with_room (with_tree s (with_new_node s.tree d name node)) >>= (λ after. answers after 0)

  abbrev make_2 : Node → Place → Attempt Effect
  make_2 node place = demand EEXIST (name_of place) >>= make_3 node

  abbrev make_1 : Node → Place → Attempt Effect
  make_1 node place = refuse_if EEXIST (is_some (node_of place)) >> make_2 node place

  good-make : (follow : Follow) (node : Node) (path : Bytes) → is_text path ≡ true → is_node s.tree.version node ≡ true → has_bytes node ≡ true → entries_of (Some node) ≡ []
      → Leads (IsEffect s) (make s pid me (from_here follow path permission_c) node)
  good-make follow node path text good bytes bare =
      leads-place (IsEffect s) s me me.directory follow path permission_c (make_1 node) (λ place found.
      leads-refuse_if (IsEffect s) EEXIST (is_some (node_of place)) (make_2 node place) (λ free.
      leads-demand (IsEffect s) EEXIST (name_of place) (make_3 node) (λ p named.
      leads-room (IsEffect s) (with_tree s (with_new_node s.tree p.0 p.1 node)) (λ after. answers after 0) (λ short fit.
      let u : Tree = with_new_node s.tree p.0 p.1 node in
      let fine : FineName s.tree p None = subst (FineName s.tree p) (not-there (node_of place) free) (named-place s.tree place p (fine-place follow path place text found) named) in
      let below = new-below s whole p.0 p.1 node (held_after s) fine.directory fine.found bare (λ n is. is) (ap fits (sym (tree-collect (with_tree s u))) ∙ fit) in
      let both = tree-new p node fine good bytes bare below in
      (ready-tree s whole u both.0 both.1 (room-of (with_tree s u) short fit), omega arith)))))

  pub good-mkdir : (path : Bytes) → is_text path ≡ true → Leads (IsEffect s) (mkdir s pid me path)
  good-mkdir path text = good-make KeepTrimmed (directory_node []) path text refl refl refl

  pub good-symlink : (text path : Bytes) → is_text text ≡ true → is_text path ≡ true → Leads (IsEffect s) (symlink s pid me text path)
  good-symlink text path texts paths =
      leads-refuse_if (IsEffect s) ENOENT (is_empty text) (refuse_if ENAMETOOLONG (nat_lt 1023 (length text)) >> make s pid me (from_here Keep path permission_c) (link_node text)) (λ filled.
      leads-refuse_if (IsEffect s) ENAMETOOLONG (nat_lt 1023 (length text)) (make s pid me (from_here Keep path permission_c) (link_node text)) (λ short.
      good-make Keep (link_node text) path paths
      (and_from _ _ (and_from _ _ (ap not filled) (Rattle.std.proofs.lemmas.Bool.le-leb (length text) 1023 (ltb-false 1023 (length text) short)))
      (list_all-weaker is_text_byte not_zero (λ b is. (and_parts (not_zero b) (is_byte b) is).0) text (text-bytes text texts)))
      (list_all-weaker is_text_byte is_byte (λ b is. (and_parts (not_zero b) (is_byte b) is).1) text (text-bytes text texts))
      refl))

  -- ---- another name

  abbrev link_6 : ℕ → (ℕ × Bytes) → Attempt Effect
  link_6 n (d, name) = with_room (with_tree s (with_entry s.tree d name n)) >>= (λ after. answers after 0)

  abbrev link_5 : Place → ℕ → Attempt Effect
  link_5 new_place n = demand EEXIST (name_of new_place) >>= link_6 n

  abbrev link_4 : Place → ℕ → Attempt Effect
  link_4 new_place n = refuse_if EEXIST (is_some (node_of new_place)) >> link_5 new_place n

  abbrev link_3 : Place → ℕ → Attempt Effect
  link_3 new_place n = refuse_if EPERM (is_directory_at s.tree n) >> link_4 new_place n

  abbrev link_2 : Place → Place → Attempt Effect
  link_2 old_place new_place = demand ENOENT (node_of old_place) >>= link_3 new_place

  abbrev link_1 : Bytes → Place → Attempt Effect
  link_1 new old_place = walk_from s me.directory Keep new >>= (λ new_place. judge_for s me new_place permission_c >> link_2 old_place new_place)

  pub good-link : (path new : Bytes) → is_text path ≡ true → is_text new ≡ true → Leads (IsEffect s) (link s pid me path new)
  good-link path new text news =
      leads-place (IsEffect s) s me me.directory Last path permission_r (link_1 new) (λ old_place old_found.
      leads-place (IsEffect s) s me me.directory Keep new permission_c (link_2 old_place) (λ new_place new_found.
      leads-demand (IsEffect s) ENOENT (node_of old_place) (link_3 new_place) (λ n is.
      leads-refuse_if (IsEffect s) EPERM (is_directory_at s.tree n) (link_4 new_place n) (λ plain.
      leads-refuse_if (IsEffect s) EEXIST (is_some (node_of new_place)) (link_5 new_place n) (λ free.
      leads-demand (IsEffect s) EEXIST (name_of new_place) (link_6 n) (λ p named.
      leads-room (IsEffect s) (with_tree s (with_entry s.tree p.0 p.1 n)) (λ after. answers after 0) (λ short fit.
      let u : Tree = with_entry s.tree p.0 p.1 n in
      let fine : FineName s.tree p None = subst (FineName s.tree p) (not-there (node_of new_place) free) (named-place s.tree new_place p (fine-place Keep new new_place news new_found) named) in
      let there = place-there s.tree whole.tree old_place n (fine-place Last path old_place text old_found) is in (
        ready-tree s whole u
            (record {
              well_formed = stays-with_entry s.tree whole.tree.well_formed p.0 p.1 n (fine.directory, fine.appears) fine.found fine.name there plain;
              bytes = bytes-with_entry s.tree p.0 p.1 n fine.directory fine.bytes whole.tree.bytes;
            })
            (carries-entries s.tree p.0 _ fine.directory) (room-of (with_tree s u) short fit),
        omega arith,
      ))))))))

  -- ---- a removed name

  ready-without : (p : ℕ × Bytes) (n : ℕ) → FineName s.tree p (Some n) → entries_at s.tree n ≡ [] → IsReady (with_tree s (without_entry s.tree p.0 p.1))
  ready-without p n fine bare =
      ready-smaller s whole (without_entry s.tree p.0 p.1)
      (record {
        well_formed = stays-without_entry s.tree whole.tree.well_formed p.0 p.1 n fine.found bare;
        bytes = bytes-without_entry s.tree p.0 p.1 fine.directory whole.tree.bytes;
      })
      (carries-entries s.tree p.0 _ fine.directory) (no_larger-without s.tree p.0 p.1 fine.directory)

  abbrev less_3 : (ℕ × Bytes) → Attempt Effect
  less_3 (d, name) = answers (with_tree s (without_entry s.tree d name)) 0

  abbrev unlink_3 : Place → Attempt Effect
  unlink_3 place = demand EPERM (name_of place) >>= less_3

  abbrev unlink_2 : Place → ℕ → Attempt Effect
  unlink_2 place n = refuse_if EPERM (is_directory_at s.tree n) >> unlink_3 place

  abbrev unlink_1 : Place → Attempt Effect
  unlink_1 place = demand ENOENT (node_of place) >>= unlink_2 place

  pub good-unlink : (path : Bytes) → is_text path ≡ true → Leads (IsEffect s) (unlink s pid me path)
  good-unlink path text =
      leads-place (IsEffect s) s me me.directory Keep path permission_c unlink_1 (λ place found.
      leads-demand (IsEffect s) ENOENT (node_of place) (unlink_2 place) (λ n is.
      leads-refuse_if (IsEffect s) EPERM (is_directory_at s.tree n) (unlink_3 place) (λ plain.
      leads-demand (IsEffect s) EPERM (name_of place) less_3 (λ p named.
      let fine : FineName s.tree p (Some n) = subst (FineName s.tree p) is (named-place s.tree place p (fine-place Keep path place text found) named) in
      (ready-without p n fine (plain_entries (node_at s.tree n) plain), omega arith)))))

  abbrev rmdir_4 : ℕ → (ℕ × Bytes) → Attempt Effect
  rmdir_4 n (d, name) = refuse_if ENOTEMPTY (not (is_empty (entries_at s.tree n))) >> less_3 (d, name)

  abbrev rmdir_3 : Place → ℕ → Attempt Effect
  rmdir_3 place n = demand EBUSY (name_of place) >>= rmdir_4 n

  abbrev rmdir_2 : Place → ℕ → Attempt Effect
  rmdir_2 place n = refuse_if ENOTDIR (not (is_directory_at s.tree n)) >> rmdir_3 place n

  abbrev rmdir_1 : Place → Attempt Effect
  rmdir_1 place = demand ENOENT (node_of place) >>= rmdir_2 place

  pub good-rmdir : (path : Bytes) → is_text path ≡ true → Leads (IsEffect s) (rmdir s pid me path)
  good-rmdir path text =
      leads-then (IsEffect s) (refuse_if EINVAL (ends_in_dot path)) (walk_from s me.directory Keep path >>= (λ place. judge_for s me place permission_c >> rmdir_1 place)) (
      leads-place (IsEffect s) s me me.directory Keep path permission_c rmdir_1 (λ place found.
      leads-demand (IsEffect s) ENOENT (node_of place) (rmdir_2 place) (λ n is.
      leads-refuse_if (IsEffect s) ENOTDIR (not (is_directory_at s.tree n)) (rmdir_3 place n) (λ dir.
      leads-demand (IsEffect s) EBUSY (name_of place) (rmdir_4 n) (λ p named.
      leads-refuse_if (IsEffect s) ENOTEMPTY (not (is_empty (entries_at s.tree n))) (less_3 p) (λ bare.
      let fine : FineName s.tree p (Some n) = subst (FineName s.tree p) is (named-place s.tree place p (fine-place Keep path place text found) named) in
      (ready-without p n fine (empty-is (entries_at s.tree n) bare), omega arith)))))))

  -- ---- a rename

  abbrev move_5 : ℕ → ℕ → Bytes → ℕ → Bytes → Attempt Effect
  move_5 n d name e new_name = with_room (with_tree s (with_entry (without_entry s.tree d name) e new_name n)) >>= (λ after. answers after 0)

  abbrev move_4 : ℕ → ℕ → Bytes → ℕ → Bytes → Option ℕ → Attempt Effect
  move_4 n d name e new_name there = refuse_if ENOTEMPTY (not (is_empty (entries_there s.tree there))) >> move_5 n d name e new_name

  abbrev move_3 : ℕ → ℕ → Bytes → ℕ → Bytes → Option ℕ → Attempt Effect
  move_3 n d name e new_name there = refuse_if ENOTDIR (is_directory_at s.tree n && is_some there && not (is_directory_there s.tree there)) >> move_4 n d name e new_name there

  abbrev move_2 : ℕ → ℕ → Bytes → ℕ → Bytes → Option ℕ → Attempt Effect
  move_2 n d name e new_name there = refuse_if EISDIR (is_directory_there s.tree there && not (is_directory_at s.tree n)) >> move_3 n d name e new_name there

  another : (o : Option ℕ) (n : ℕ) → same_node o n ≡ false → o ≢ Some n
  another None n other is = cc
  another (Some m) n other is = let same : m ≡ n = cc is in let eq = eq-eqb m n same in cc

  good-move : (n : ℕ) (p q : ℕ × Bytes) (there : Option ℕ) → FineName s.tree p (Some n) → FineName s.tree q there → same_node there n ≡ false
      → Leads (IsEffect s) (move_entry s pid me n p.0 p.1 q.0 q.1 there)
  good-move n p q there from into other =
      leads-refuse_if (IsEffect s) EINVAL (contains_directory s.tree n q.0) (move_2 n p.0 p.1 q.0 q.1 there) (λ clear.
      leads-then (IsEffect s) (refuse_if EISDIR (is_directory_there s.tree there && not (is_directory_at s.tree n))) (move_3 n p.0 p.1 q.0 q.1 there) (
      leads-then (IsEffect s) (refuse_if ENOTDIR (is_directory_at s.tree n && is_some there && not (is_directory_there s.tree there))) (move_4 n p.0 p.1 q.0 q.1 there) (
      leads-refuse_if (IsEffect s) ENOTEMPTY (not (is_empty (entries_there s.tree there))) (move_5 n p.0 p.1 q.0 q.1) (λ bare.
      leads-room (IsEffect s) (with_tree s (with_entry (without_entry s.tree p.0 p.1) q.0 q.1 n)) (λ after. answers after 0) (λ short fit.
      let between : Tree = without_entry s.tree p.0 p.1 in
      let u : Tree = with_entry between q.0 q.1 n in
      let first : Carries s.tree between = carries-entries s.tree p.0 _ from.directory in
      let dir : is_directory_at between q.0 ≡ true = first.directory q.0 (directory_is_some (node_at s.tree q.0) into.directory) ∙ into.directory in (
        ready-tree s whole u
            (record {
              well_formed = stays-renamed s.tree whole.tree.well_formed p.0 p.1 q.0 q.1 n from.found (into.directory, into.appears) into.name clear
                  (λ is. another there n other (sym into.found ∙ is)) (ap (entries_there s.tree) into.found ∙ empty-is (entries_there s.tree there) bare);
              bytes = bytes-with_entry between q.0 q.1 n dir into.bytes (bytes-without_entry s.tree p.0 p.1 from.directory whole.tree.bytes);
            })
            (carries-along s.tree between u first (still-there s.tree p.0 _ (directory-below s.tree p.0 from.directory)) (carries-entries between q.0 _ dir))
            (room-of (with_tree s u) short fit),
        omega arith,
      ))))))

  abbrev rename_5 : Place → ℕ → (ℕ × Bytes) → (ℕ × Bytes) → Attempt Effect
  rename_5 new_place n (d, name) (e, new_name) = if same_node (node_of new_place) n then answers s 0 else move_entry s pid me n d name e new_name (node_of new_place)

  abbrev rename_4 : Place → ℕ → (ℕ × Bytes) → Attempt Effect
  rename_4 new_place n p = demand EBUSY (name_of new_place) >>= rename_5 new_place n p

  abbrev rename_3 : Place → Place → ℕ → Attempt Effect
  rename_3 old_place new_place n = demand EBUSY (name_of old_place) >>= rename_4 new_place n

  abbrev rename_2 : Place → Place → Attempt Effect
  rename_2 old_place new_place = demand ENOENT (node_of old_place) >>= rename_3 old_place new_place

  abbrev rename_1 : Bytes → Place → Attempt Effect
  rename_1 new old_place = walk_from s me.directory Keep new >>= (λ new_place. judge_for s me new_place permission_c >> rename_2 old_place new_place)

  good-renamed : (new_place : Place) (n : ℕ) (p q : ℕ × Bytes) → FineName s.tree p (Some n) → FineName s.tree q (node_of new_place) → Leads (IsEffect s) (rename_5 new_place n p q)
  good-renamed new_place n p q from into =
      elim (same_node (node_of new_place) n) as (λ b. same_node (node_of new_place) n ≡ b → Leads (IsEffect s) (if b then answers s 0 else move_entry s pid me n p.0 p.1 q.0 q.1 (node_of new_place))) [
        | true ↦ λ same. (ready s whole, omega arith)
        | false ↦ λ other. good-move n p q (node_of new_place) from into other
      ] refl

  pub good-rename : (path new : Bytes) → is_text path ≡ true → is_text new ≡ true → Leads (IsEffect s) (rename s pid me path new)
  good-rename path new text news =
      leads-then (IsEffect s) (refuse_if EINVAL (ends_in_dot path || ends_in_dot new)) (walk_from s me.directory Keep path >>= (λ old_place. judge_for s me old_place permission_c >> rename_1 new old_place)) (
      leads-place (IsEffect s) s me me.directory Keep path permission_c (rename_1 new) (λ old_place old_found.
      leads-place (IsEffect s) s me me.directory Keep new permission_c (rename_2 old_place) (λ new_place new_found.
      leads-demand (IsEffect s) ENOENT (node_of old_place) (rename_3 old_place new_place) (λ n is.
      leads-demand (IsEffect s) EBUSY (name_of old_place) (rename_4 new_place n) (λ p old_named.
      leads-demand (IsEffect s) EBUSY (name_of new_place) (rename_5 new_place n p) (λ q new_named.
      good-renamed new_place n p q
      (subst (FineName s.tree p) is (named-place s.tree old_place p (fine-place Keep path old_place text old_found) old_named))
      (named-place s.tree new_place q (fine-place Keep new new_place news new_found) new_named)))))))

  -- ---- the bytes of a file

  pub all-overwrite : (old : Bytes) (place : ℕ) (new : Bytes) → are_bytes old ≡ true → are_bytes new ≡ true → are_bytes (overwrite old place new) ≡ true
  all-overwrite old place new a b =
      list_all-both is_byte (take place (old ++ replicate (place - length old) 0) ++ new) (drop (place + length new) old)
      (list_all-both is_byte (take place (old ++ replicate (place - length old) 0)) new
      (list_all-take is_byte place (old ++ replicate (place - length old) 0) (list_all-both is_byte old (replicate (place - length old) 0) a (list_all-replicate is_byte (place - length old) 0 refl))) b)
      (list_all-drop is_byte (place + length new) old a)

  -- a tree with the bytes of a file replaced, and an open file with another offset
  ready-content : (f : ℕ) (bytes : Bytes) (k : ℕ) (file : OpenFile) (offset : ℕ) → are_bytes bytes ≡ true → Rattle.pv_model.specs.Numbered.at_number s.files k ≡ Some file → offset ≤ 2147483647
      → HasRoom (with_file (with_tree s (with_content s.tree f bytes)) k (record file { offset = offset }))
      → IsReady (with_file (with_tree s (with_content s.tree f bytes)) k (record file { offset = offset }))
  ready-content f bytes k file offset good there low room =
      let u : Tree = with_content s.tree f bytes in
      let carries = carries-content s.tree whole.tree f bytes good in
      let new : OpenFile = record file { offset = offset } in
      let old = file-carried s.tree u file carries (whole.files.each k file there) in
      let files : AreFiles u s.files = record { count = whole.files.count; each = λ j g at. file-carried s.tree u g carries (whole.files.each j g at) } in
      record {
        solid = solid-present s u (with_number s.files k new) (solid s whole) (tree-content s.tree whole.tree f bytes good) carries
            (files-with s pid me whole u files k file new there (record { node = old.node; directory = old.directory; offset = low; listed = old.listed }))
            (files-stay s pid me whole k file new there);
        room = room;
      }

  abbrev write_3 : ℕ → OpenFile → ℕ → Attempt Effect
  write_3 k file count = with_room (after_write s pid me k file count) >>= (λ roomy. answers roomy count)

  abbrev write_2 : ℕ → OpenFile → ℕ → Attempt Effect
  write_2 k file count = refuse_if EFBIG (is_past_greatest s.tree (write_end s pid me file count)) >> write_3 k file count

  abbrev write_1 : ℤ → (ℕ × OpenFile) → Attempt Effect
  write_1 n (k, file) = demand EINVAL (within 4096 n) >>= write_2 k file

  written : (k : ℕ) (file : OpenFile) (count : ℕ) → Rattle.pv_model.specs.Numbered.at_number s.files k ≡ Some file → is_past_greatest s.tree (write_end s pid me file count) ≡ false
      → HasRoom (after_write s pid me k file count) → IsReady (after_write s pid me k file count)
  written k file zero there near room = ready s whole
  written k file (suc n) there near room =
      let place = write_place s pid me file in
      let bytes = take (suc n) me.buffer in
      let old = bytes_of (node_at s.tree file.node) in
      let end : place + suc n ≤ greatest_length s.tree.version = ltb-false (greatest_length s.tree.version) (place + suc n) near in
      let taken : length bytes ≡ min (suc n) (length me.buffer) = length-take (suc n) me.buffer in
      ready-content file.node (overwrite old place bytes) k file (place + length bytes)
      (all-overwrite old place bytes (file-bytes s whole file.node).1 (list_all-take is_byte (suc n) me.buffer (my-running s pid me whole at).buffer.1)) there
      (omega (arith, taken, end, greatest-low s.tree.version)) room

  pub good-write : (d n : ℤ) → Leads (IsEffect s) (write s pid me d n)
  good-write d n =
      leads-demand (IsEffect s) EBADF (open_file_for s pid me writes d) (write_1 n) (λ (k, file) is.
      leads-demand (IsEffect s) EINVAL (within 4096 n) (write_2 k file) (λ count low.
      leads-refuse_if (IsEffect s) EFBIG (is_past_greatest s.tree (write_end s pid me file count)) (write_3 k file count) (λ near.
      leads-room (IsEffect s) (after_write s pid me k file count) (λ roomy. answers roomy count) (λ short fit.
      let there = (open_file_for-at s pid me writes d k file is).0 in
      (written k file count there near (room-of (after_write s pid me k file count) short fit), omega (arith, within-limit 4096 n count low))))))

  abbrev resized : OpenFile → ℕ → State
  resized file size = with_tree s (with_content s.tree file.node (resize (bytes_of (node_at s.tree file.node)) size))

  abbrev ftruncate_4 : OpenFile → ℕ → Attempt Effect
  ftruncate_4 file size = with_room (resized file size) >>= (λ roomy. answers roomy 0)

  abbrev ftruncate_3 : OpenFile → ℕ → Attempt Effect
  ftruncate_3 file size = refuse_if EFBIG (is_past_greatest s.tree size) >> ftruncate_4 file size

  abbrev ftruncate_2 : ℤ → OpenFile → Attempt Effect
  ftruncate_2 n file = demand EINVAL (natural n) >>= ftruncate_3 file

  abbrev ftruncate_1 : ℤ → (ℕ × OpenFile) → Attempt Effect
  ftruncate_1 n (k, file) = refuse_if EINVAL (not (writes file.mode)) >> ftruncate_2 n file

  pub good-ftruncate : (d n : ℤ) → Leads (IsEffect s) (ftruncate s pid me d n)
  good-ftruncate d n =
      leads-demand (IsEffect s) EBADF (open_file s me d) (ftruncate_1 n) (λ (k, file) is.
      leads-refuse_if (IsEffect s) EINVAL (not (writes file.mode)) (ftruncate_2 n file) (λ may_write.
      leads-demand (IsEffect s) EINVAL (natural n) (ftruncate_3 file) (λ size natural_size.
      leads-refuse_if (IsEffect s) EFBIG (is_past_greatest s.tree size) (ftruncate_4 file size) (λ near.
      leads-room (IsEffect s) (resized file size) (λ roomy. answers roomy 0) (λ short fit.
      let old = bytes_of (node_at s.tree file.node) in
      let good : are_bytes (resize old size) ≡ true =
      list_all-both is_byte (take size old) (replicate (size - length old) 0) (list_all-take is_byte size old (file-bytes s whole file.node).1) (list_all-replicate is_byte (size - length old) 0 refl) in (
        ready-tree s whole (with_content s.tree file.node (resize old size)) (tree-content s.tree whole.tree file.node (resize old size) good) (carries-content s.tree whole.tree file.node (resize old size) good)
            (room-of (resized file size) short fit),
        omega arith,
      ))))))
