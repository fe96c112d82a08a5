-- The effects of the calls that change the tree.
use Rattle.std.proofs.Common.{◌≡◌, ℕ, zero, suc, ◌+◌, ℤ, true, false, not, ◌&&◌, ◌||◌, if◌then◌else◌, nat_lt, [], ◌∷◌, length, take, Option, Some, is_some, Ok, refl, ap}
use Rattle.std.specs.Prelude.{Contains}
use Rattle.std.proofs.lemmas.Bool.{and_parts, not-false}
use Rattle.pv_model.specs.declared.call.Call.{Call}
use Rattle.pv_model.specs.declared.call.Call.TheVariants as TheCall
use Rattle.pv_model.specs.declared.errno.Errno.TheVariants.{EFBIG, EPERM, EBADF, ENOENT, EBUSY, EEXIST, ENOTDIR, EISDIR, EINVAL, ENAMETOOLONG, ENOTEMPTY}
use Rattle.pv_model.specs.declared.follow.Follow.{Follow}
use Rattle.pv_model.specs.declared.follow.Follow.TheVariants.{Last, Keep, KeepTrimmed}
use Rattle.pv_model.specs.declared.judgement.Judgement.TheVariants.{Allowed}
use Rattle.pv_model.specs.declared.place.Place.{Place}
use Rattle.pv_model.specs.Machine.{◌>>=◌, ◌>>◌, refuse_if, Bytes, is_empty, within, natural, is_past_greatest, open_file_for, write_place, write_end, after_write, write, ftruncate, same_node, contains_directory, is_directory_there, entries_there, ends_in_dot, symlink, link, unlink, rmdir, move_entry, rename, Effect, returns, answers, judge_for, walk_from, node_of, name_of, open_file, bytes_of, overwrite, resize, end_of, needs, needs_cpath, permission_r, permission_c, OpenFile, Process, State, writes, with_tree, place_found, places, Node, directory_node, link_node, entries_of, node_at, is_directory_at, entries_at, with_new_node, with_entry, without_entry, judgement, resolve, Walk, from_here, rename_walk}
use Rattle.pv_model.specs.Calls.Paths.{make, mkdir}
use Rattle.pv_laws_states.specs.States.{is_text, is_call}
use Rattle.pv_laws_states.proofs.AttemptValues.{Leads, leads-then, leads-refuse_if, leads-demand, leads-room}
use Rattle.pv_laws_states.proofs.ValidByFile.{open_file-at}
use Rattle.pv_laws_states.proofs.ValidByTree.{fine-place}
use Rattle.pv_laws_states.proofs.CallRemainders
use Rattle.pv_laws_access.proofs.CallEffects.{WritesBy, HasEffect, stays, cuts, writes_bytes, makes, links, unlinks, renames, MayChange, Did, first-place, second-place, leads-judged, open_file_for-is}
use Rattle.pv_model.specs.Walks.{mkdir_walk, symlink_walk, linked_walk, new_link_walk, unlink_walk, rmdir_walk}
use Rattle.pv_laws_trees.proofs.ListTests.{not-there}

-- a call that changes entries needs cpath and nothing else
abbrev NeedsCpath : Call → Type 0
NeedsCpath call = needs call ≡ needs_cpath

mkdir-needs : (path : Bytes) → NeedsCpath (TheCall.Mkdir path)
unfolding needs
mkdir-needs path = refl

symlink-needs : (text path : Bytes) → NeedsCpath (TheCall.Symlink text path)
unfolding needs
symlink-needs text path = refl

link-needs : (path new : Bytes) → NeedsCpath (TheCall.Link path new)
unfolding needs
link-needs path new = refl

unlink-needs : (path : Bytes) → NeedsCpath (TheCall.Unlink path)
unfolding needs
unlink-needs path = refl

rmdir-needs : (path : Bytes) → NeedsCpath (TheCall.Rmdir path)
unfolding needs
rmdir-needs path = refl

rename-needs : (path new : Bytes) → NeedsCpath (TheCall.Rename path new)
unfolding needs
rename-needs path new = refl

module _ (s : State) (pid : ℕ) (me : Process) where
  abbrev D : Call → Effect → Type 0
  D call = Did s pid me call

  -- the place where a walk ends
  abbrev ends : Walk → Option Place
  ends w = place_found (end_of s me w)

  -- a place that is allowed for c
  changing : (call : Call) (follow : Follow) (path : Bytes) (place : Place) (p : ℕ × Bytes) → Contains (places s me call) place → (is_call call ≡ true → is_text path ≡ true)
      → resolve s.tree follow me.directory path ≡ Ok place → judgement s.tree me.table place permission_c ≡ Allowed → name_of place ≡ Some p → NeedsCpath call → MayChange s pid me call place p
  changing call follow path place p among text found allowed named need = record {
    allowed = (among, allowed);
    name = named;
    fine = λ whole at is. fine-place s pid me whole at follow path place (text is) found;
    need = need;
  }

  does-make : (call : Call) (follow : Follow) (node : Node) (path : Bytes) → ((place : Place) → resolve s.tree follow me.directory path ≡ Ok place → Contains (places s me call) place)
      → (is_call call ≡ true → is_text path ≡ true) → entries_of (Some node) ≡ [] → NeedsCpath call → Leads (D call) (make s pid me (from_here follow path permission_c) node)
  does-make call follow node path among text bare need =
      leads-judged (D call) s me me.directory follow path permission_c (CallRemainders.make_1 s pid me node) (λ place found allowed.
      leads-refuse_if (D call) EEXIST (is_some (node_of place)) (CallRemainders.make_2 s pid me node place) (λ free.
      leads-demand (D call) EEXIST (name_of place) (CallRemainders.make_3 s pid me node) (λ p named.
      leads-room (D call) (with_tree s (with_new_node s.tree p.0 p.1 node)) (λ after. answers after 0) (λ short fit.
      makes place p node (changing call follow path place p (among place found) text found allowed named need) (not-there (node_of place) free) bare))))

  pub does-mkdir : (path : Bytes) → Leads (D (TheCall.Mkdir path)) (mkdir s pid me path)
  does-mkdir path = does-make (TheCall.Mkdir path) KeepTrimmed (directory_node []) path (λ place found. first-place ends (mkdir_walk path) [] place (ap place_found found)) (λ is. is) refl (mkdir-needs path)

  pub does-symlink : (text path : Bytes) → Leads (D (TheCall.Symlink text path)) (symlink s pid me text path)
  does-symlink text path =
      let C : Call = TheCall.Symlink text path in
      leads-then (D C) (refuse_if ENOENT (is_empty text)) (refuse_if ENAMETOOLONG (nat_lt 1023 (length text)) >> make s pid me (from_here Keep path permission_c) (link_node text)) (
      leads-then (D C) (refuse_if ENAMETOOLONG (nat_lt 1023 (length text))) (make s pid me (from_here Keep path permission_c) (link_node text))
      (does-make C Keep (link_node text) path (λ place found. first-place ends (symlink_walk path) [] place (ap place_found found)) (λ is. (and_parts (is_text text) (is_text path) is).1) refl (symlink-needs text path)))

  pub does-link : (path new : Bytes) → Leads (D (TheCall.Link path new)) (link s pid me path new)
  does-link path new =
      let C : Call = TheCall.Link path new in
      leads-judged (D C) s me me.directory Last path permission_r (CallRemainders.link_1 s pid me new) (λ old_place old_found old_allowed.
      leads-judged (D C) s me me.directory Keep new permission_c (CallRemainders.link_2 s pid me old_place) (λ new_place new_found allowed.
      leads-demand (D C) ENOENT (node_of old_place) (CallRemainders.link_3 s pid me new_place) (λ n is.
      leads-then (D C) (refuse_if EPERM (is_directory_at s.tree n)) (CallRemainders.link_4 s pid me new_place n) (
      leads-then (D C) (refuse_if EEXIST (is_some (node_of new_place))) (CallRemainders.link_5 s pid me new_place n) (
      leads-demand (D C) EEXIST (name_of new_place) (CallRemainders.link_6 s pid me n) (λ p named.
      leads-room (D C) (with_tree s (with_entry s.tree p.0 p.1 n)) (λ after. answers after 0) (λ short fit.
      links new_place p old_place n
      (changing C Keep new new_place p (second-place ends (linked_walk path) (new_link_walk new) [] old_place new_place (ap place_found old_found) (ap place_found new_found))
      (λ texts. (and_parts (is_text path) (is_text new) texts).1) new_found allowed named (link-needs path new))
      (first-place ends (linked_walk path) (new_link_walk new ∷ []) old_place (ap place_found old_found), old_allowed) is
      (λ whole at texts. fine-place s pid me whole at Last path old_place (and_parts (is_text path) (is_text new) texts).0 old_found))))))))

  pub does-unlink : (path : Bytes) → Leads (D (TheCall.Unlink path)) (unlink s pid me path)
  does-unlink path =
      let C : Call = TheCall.Unlink path in
      leads-judged (D C) s me me.directory Keep path permission_c (CallRemainders.unlink_1 s pid me) (λ place found allowed.
      leads-demand (D C) ENOENT (node_of place) (CallRemainders.unlink_2 s pid me place) (λ n is.
      leads-then (D C) (refuse_if EPERM (is_directory_at s.tree n)) (CallRemainders.unlink_3 s pid me place) (
      leads-demand (D C) EPERM (name_of place) (CallRemainders.less_3 s pid me) (λ p named.
      unlinks place p (changing C Keep path place p (first-place ends (unlink_walk path) [] place (ap place_found found)) (λ text. text) found allowed named (unlink-needs path))))))

  pub does-rmdir : (path : Bytes) → Leads (D (TheCall.Rmdir path)) (rmdir s pid me path)
  does-rmdir path =
      let C : Call = TheCall.Rmdir path in
      leads-then (D C) (refuse_if EINVAL (ends_in_dot path)) (walk_from s me.directory Keep path >>= (λ place. judge_for s me place permission_c >> CallRemainders.rmdir_1 s pid me place)) (
      leads-judged (D C) s me me.directory Keep path permission_c (CallRemainders.rmdir_1 s pid me) (λ place found allowed.
      leads-demand (D C) ENOENT (node_of place) (CallRemainders.rmdir_2 s pid me place) (λ n is.
      leads-then (D C) (refuse_if ENOTDIR (not (is_directory_at s.tree n))) (CallRemainders.rmdir_3 s pid me place n) (
      leads-demand (D C) EBUSY (name_of place) (CallRemainders.rmdir_4 s pid me n) (λ p named.
      leads-then (D C) (refuse_if ENOTEMPTY (not (is_empty (entries_at s.tree n)))) (CallRemainders.less_3 s pid me p)
      (unlinks place p (changing C Keep path place p (first-place ends (rmdir_walk path) [] place (ap place_found found)) (λ text. text) found allowed named (rmdir-needs path))))))))

  does-move : (call : Call) (old_place new_place : Place) (n : ℕ) (p q : ℕ × Bytes) (there : Option ℕ) → MayChange s pid me call old_place p → MayChange s pid me call new_place q → node_of old_place ≡ Some n
      → Leads (D call) (move_entry s pid me n p.0 p.1 q.0 q.1 there)
  does-move call old_place new_place n p q there from into is =
      leads-then (D call) (refuse_if EINVAL (contains_directory s.tree n q.0)) (CallRemainders.move_2 s pid me n p.0 p.1 q.0 q.1 there) (
      leads-then (D call) (refuse_if EISDIR (is_directory_there s.tree there && not (is_directory_at s.tree n))) (CallRemainders.move_3 s pid me n p.0 p.1 q.0 q.1 there) (
      leads-then (D call) (refuse_if ENOTDIR (is_directory_at s.tree n && is_some there && not (is_directory_there s.tree there))) (CallRemainders.move_4 s pid me n p.0 p.1 q.0 q.1 there) (
      leads-then (D call) (refuse_if ENOTEMPTY (not (is_empty (entries_there s.tree there)))) (CallRemainders.move_5 s pid me n p.0 p.1 q.0 q.1) (
      leads-room (D call) (with_tree s (with_entry (without_entry s.tree p.0 p.1) q.0 q.1 n)) (λ after. answers after 0) (λ short fit. renames old_place p new_place q n from into is)))))

  pub does-rename : (path new : Bytes) → Leads (D (TheCall.Rename path new)) (rename s pid me path new)
  does-rename path new =
      let C : Call = TheCall.Rename path new in
      leads-then (D C) (refuse_if EINVAL (ends_in_dot path || ends_in_dot new)) (walk_from s me.directory Keep path >>= (λ old_place. judge_for s me old_place permission_c >> CallRemainders.rename_1 s pid me new old_place)) (
      leads-judged (D C) s me me.directory Keep path permission_c (CallRemainders.rename_1 s pid me new) (λ old_place old_found old_allowed.
      leads-judged (D C) s me me.directory Keep new permission_c (CallRemainders.rename_2 s pid me old_place) (λ new_place new_found new_allowed.
      leads-demand (D C) ENOENT (node_of old_place) (CallRemainders.rename_3 s pid me old_place new_place) (λ n is.
      leads-demand (D C) EBUSY (name_of old_place) (CallRemainders.rename_4 s pid me new_place n) (λ p old_named.
      leads-demand (D C) EBUSY (name_of new_place) (CallRemainders.rename_5 s pid me new_place n p) (λ q new_named.
      elim (same_node (node_of new_place) n) as (λ b. Leads (D C) (if b then answers s 0 else move_entry s pid me n p.0 p.1 q.0 q.1 (node_of new_place))) [
        | true ↦ stays (returns 0) (λ no. cc no)
        | false ↦ does-move C old_place new_place n p q (node_of new_place)
            (changing C Keep path old_place p (first-place ends (rename_walk path) (rename_walk new ∷ []) old_place (ap place_found old_found))
            (λ texts. (and_parts (is_text path) (is_text new) texts).0) old_found old_allowed old_named (rename-needs path new))
            (changing C Keep new new_place q (second-place ends (rename_walk path) (rename_walk new) [] old_place new_place (ap place_found old_found) (ap place_found new_found))
            (λ texts. (and_parts (is_text path) (is_text new) texts).1) new_found new_allowed new_named (rename-needs path new)) is
      ]))))))

  -- ---- bytes

  does-written : (d n : ℤ) (k : ℕ) (file : OpenFile) (count : ℕ) → WritesBy s me (TheCall.Write d n) file.node → open_file s me d ≡ Some (k, file) → Rattle.pv_model.specs.Numbered.at_number s.files k ≡ Some file
      → HasEffect s pid me (TheCall.Write d n) (after_write s pid me k file count) (returns count)
  does-written d n k file zero has is there = stays (returns 0) (λ no. cc no)
  does-written d n k file (suc m) has is there =
      let bytes = take (suc m) me.buffer in
      writes_bytes file.node (overwrite (bytes_of (node_at s.tree file.node)) (write_place s pid me file) bytes) k file (record file { offset = write_place s pid me file + length bytes }) (suc m) has there refl refl (d, refl, is)

  pub does-write : (d n : ℤ) → Leads (D (TheCall.Write d n)) (write s pid me d n)
  does-write d n =
      let C : Call = TheCall.Write d n in
      leads-demand (D C) EBADF (open_file_for s pid me writes d) (CallRemainders.write_1 s pid me n) (λ (k, file) is.
      leads-demand (D C) EINVAL (within 4096 n) (CallRemainders.write_2 s pid me k file) (λ count low.
      leads-then (D C) (refuse_if EFBIG (is_past_greatest s.tree (write_end s pid me file count))) (CallRemainders.write_3 s pid me k file count) (
      leads-room (D C) (after_write s pid me k file count) (λ roomy. answers roomy count) (λ short fit.
      let both = open_file_for-is s pid me writes d k file is in
      does-written d n k file count (refl, (d, k, file, refl, both.0, refl, both.1)) both.0 (open_file-at s me d k file both.0)))))

  pub does-ftruncate : (d n : ℤ) → Leads (D (TheCall.Ftruncate d n)) (ftruncate s pid me d n)
  does-ftruncate d n =
      let C : Call = TheCall.Ftruncate d n in
      leads-demand (D C) EBADF (open_file s me d) (CallRemainders.ftruncate_1 s pid me n) (λ (k, file) is.
      leads-refuse_if (D C) EINVAL (not (writes file.mode)) (CallRemainders.ftruncate_2 s pid me n file) (λ may_write.
      leads-demand (D C) EINVAL (natural n) (CallRemainders.ftruncate_3 s pid me file) (λ size natural_size.
      leads-then (D C) (refuse_if EFBIG (is_past_greatest s.tree size)) (CallRemainders.ftruncate_4 s pid me file size) (
      leads-room (D C) (CallRemainders.resized s pid me file size) (λ roomy. answers roomy 0) (λ short fit.
      cuts file.node (resize (bytes_of (node_at s.tree file.node)) size) (refl, (d, k, file, refl, is, refl, not-false (writes file.mode) may_write)))))))
