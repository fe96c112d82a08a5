-- The places of a call that succeeds: the names that it changes are allowed for c, an entry that it creates was absent, and an
-- open has one place, whose node it opens.
use Rattle.std.proofs.Common.{◌≡◌, ◌≢◌, ◌⊎◌, inl, inr, ◌∙◌, sym, ap, subst, refl, cond, ℕ, ℤ, Bool, true, false, not, ◌&&◌, ◌||◌, if◌then◌else◌, nat_le, nat_lt, List, [], ◌∷◌, filter, filter_map, Option, None, Some, is_some, is_none, option_and_then, Ok}
use Rattle.std.specs.List.{cons_option}
use Rattle.std.proofs.lemmas.Bool.{and_parts, not-false}
use Rattle.pv_model.specs.declared.call.Call.{Call}
use Rattle.pv_model.specs.declared.call.Call.TheVariants as TheCall
use Rattle.pv_model.specs.declared.call.Start.{Start}
use Rattle.pv_model.specs.declared.call.Start.TheVariants.{WorkingDirectory}
use Rattle.pv_model.specs.declared.errno.Errno.TheVariants.{EFBIG, EPERM, EBADF, ENOENT, EEXIST, ENOTDIR, EISDIR, EINVAL, ENAMETOOLONG, ENFILE, EMFILE, ELOOP}
use Rattle.pv_model.specs.declared.follow.Follow.{Follow}
use Rattle.pv_model.specs.declared.follow.Follow.TheVariants.{Last, Keep, KeepTrimmed}
use Rattle.pv_model.specs.declared.judgement.Judgement.TheVariants.{Allowed, Denied}
use Rattle.pv_model.specs.declared.open_flags.OpenFlags.{OpenFlags}
use Rattle.pv_model.specs.declared.place.Place.{Place}
use Rattle.pv_model.specs.Machine.{effect, Attempt, done, refused, ◌>>=◌, ◌>>◌, refuse_if, Bytes, is_empty, within, natural, is_past_greatest, is_link, contradicts, with_content, with_open_file, open_node, open_at, open_file_for, check_start, write_end, after_write, ends_in_dot, Effect, Reply, returns, answers, node_of, name_of, walk_from, judge_for, start_directory, end_of, permissions_of_open, no_permissions, join_permissions, covers, permission_c, permission_r, least_free, Program, Process, State, writes, process_at, with_tree, flags_of, place_found, places, Node, directory_node, file_node, link_node, Tree, node_at, is_directory, is_directory_at, find_entry, with_entry, with_new_node, new_number, Table, permissions_at, judge_entry, governing_entry, judgement, resolve, Walked, Walk, from_here, follow_of, open_walk, rename_walk}
use Rattle.pv_model.specs.Answers.Access.{creates_names, places_changed, removes_names}
use Rattle.pv_model.specs.Calls.Paths.{make}
use Rattle.pv_model.specs.Needs.{permissions_of_mode}
use Rattle.pv_model.specs.Walks.{mkdir_walk, symlink_walk, linked_walk, new_link_walk, unlink_walk, rmdir_walk}
use Rattle.pv_laws_states.specs.States.{is_call, is_text, IsValid}
use Rattle.pv_laws_states.proofs.AttemptValues.{Leads, leads-after_walks, leads-then, leads-refuse_if, leads-demand, leads-room}
use Rattle.pv_laws_states.proofs.ValidByTree.{fine-place, named-place}
use Rattle.pv_laws_states.proofs.CallRemainders
use Rattle.pv_laws_trees.proofs.DirectoryEntries.{by_name}
use Rattle.pv_laws_trees.proofs.ListTests.{not-there}
use Rattle.pv_laws_access.proofs.CallEffects.{leads-judged}
use Rattle.pv_laws_access.proofs.ChangedTrees.{cases_entry, entries-content, entry-with_other}
use Rattle.pv_laws_access.proofs.ClosedProcesses.{allowed-by}
use Rattle.pv_laws_answers.proofs.Lists.{Among, filter-among}
use Rattle.pv_laws_schedules.proofs.NeededPermissions.{covers-parts}

-- a property of all values
leads-each : {A : Type 0} (P : A → Type 0) (a : Attempt A) → ((value : A) → P value) → Leads P a
leads-each P (done walks value) is = is value
leads-each P (refused walks errno cause) is = tt

none-is : {X : Type 0} (o : Option X) → is_none o ≡ true → o ≡ None
none-is None is = refl
none-is (Some x) is = cc is

-- an open of an absent node creates it
created : (o : Option Node) (create : Bool) → (is_none o && not create) ≡ false → o ≡ None → create ≡ true
created None create is none = not-false create is
created (Some node) create is none = cc none

-- a place that is allowed for an open that creates is allowed for c
allowed-creating : (t : Tree) (table : Option Table) (place : Place) (f : OpenFlags) → f.create ≡ true → judgement t table place (permissions_of_open f) ≡ Allowed → judgement t table place permission_c ≡ Allowed
unfolding judgement
allowed-creating t None place f create allowed = refl
allowed-creating t (Some table) place f create allowed =
    let by = allowed-by table (permissions_of_open f) (governing_entry t table place) allowed in
    let covered : covers (permissions_at table by.0) (join_permissions (permissions_of_mode f.mode) permission_c) ≡ true =
    ap (λ (b : Bool). covers (permissions_at table by.0) (join_permissions (permissions_of_mode f.mode) (if b then permission_c else no_permissions))) (sym create) ∙ by.2 in
    ap (judge_entry table permission_c) by.1
    ∙ ap (λ (b : Bool). cond b Allowed (Denied by.0)) (covers-parts (permissions_at table by.0) (permissions_of_mode f.mode) permission_c covered).1

module _ (s : State) (pid : ℕ) (me : Process) where
  -- the place where a walk ends
  abbrev end_at : Walk → Option Place
  end_at w = place_found (end_of s me w)

  one-end : (w : Walk) (place : Place) → end_of s me w ≡ Ok place → filter_map end_at (w ∷ []) ≡ place ∷ []
  one-end w place found = ap (λ (r : Walked). cons_option (place_found r) []) found

  two-ends : (w v : Walk) (first second : Place) → end_of s me w ≡ Ok first → end_of s me v ≡ Ok second → filter_map end_at (w ∷ v ∷ []) ≡ first ∷ second ∷ []
  two-ends w v first second one two =
      ap (λ (r : Walked). cons_option (place_found r) (filter_map end_at (v ∷ []))) one
      ∙ ap (λ (r : Walked). first ∷ cons_option (place_found r) []) two

  -- ---- places whose names change

  pub changed-place : (call : Call) (place : Place) → Among place (places_changed s me call) → Among place (places s me call)
  changed-place call place = by (removes_names call) (creates_names call)
    where
      by : (b c : Bool) → Among place (if b then places s me call else (if c then filter (λ (place : Place). is_none (node_of place)) (places s me call) else [])) → Among place (places s me call)
      by true c has = has
      by false true has = (filter-among (λ (place : Place). is_none (node_of place)) place (places s me call) has).0
      by false false has = absurd has

  absent-place : (call : Call) (place : Place) → removes_names call ≡ false → Among place (places_changed s me call) → node_of place ≡ None
  absent-place call place keeps = by (removes_names call) (creates_names call) keeps
    where
      by : (b c : Bool) → b ≡ false → Among place (if b then places s me call else (if c then filter (λ (place : Place). is_none (node_of place)) (places s me call) else [])) → node_of place ≡ None
      by true c is has = cc is
      by false true is has = none-is (node_of place) (filter-among (λ (place : Place). is_none (node_of place)) place (places s me call) has).1
      by false false is has = absurd has

  abbrev IsAllowedForC : Place → Type 0
  IsAllowedForC place = judgement s.tree me.table place permission_c ≡ Allowed

  -- the names that a call changes are allowed for c
  abbrev pub AllowsNames : Call → Type 0
  AllowsNames call = (place : Place) → Among place (places_changed s me call) → IsAllowedForC place

  allows-one : (call : Call) (place : Place) → places s me call ≡ place ∷ [] → IsAllowedForC place → AllowsNames call
  allows-one call place only allowed other has = by (subst (λ (ps : List Place). Among other ps) only (changed-place call other has))
    where
      by : Among other (place ∷ []) → IsAllowedForC other
      by (inl is) = ap (λ (p : Place). judgement s.tree me.table p permission_c) is ∙ allowed
      by (inr none) = absurd none

  allows-two : (call : Call) (first second : Place) → places s me call ≡ first ∷ second ∷ [] → (Among first (places_changed s me call) → IsAllowedForC first) → IsAllowedForC second → AllowsNames call
  allows-two call first second both one two other has = by (subst (λ (ps : List Place). Among other ps) both (changed-place call other has))
    where
      by : Among other (first ∷ second ∷ []) → IsAllowedForC other
      by (inl is) = ap (λ (p : Place). judgement s.tree me.table p permission_c) is ∙ one (subst (λ (p : Place). Among p (places_changed s me call)) is has)
      by (inr (inl is)) = ap (λ (p : Place). judgement s.tree me.table p permission_c) is ∙ two
      by (inr (inr none)) = absurd none

  -- an entry at a place of a call that creates changes only if it was absent
  abbrev pub CreatesAbsent : Call → State → Type 0
  CreatesAbsent call after =
      creates_names call ≡ true → (d : ℕ) (name : Bytes) → find_entry after.tree d name ≢ find_entry s.tree d name
      → (place : Place) → Among place (places s me call) → name_of place ≡ Some (d, name) → node_of place ≡ None

  absent-one : (call : Call) (place : Place) (after : State) → places s me call ≡ place ∷ [] → node_of place ≡ None → CreatesAbsent call after
  absent-one call place after only none creates d name differs other has named = by (subst (λ (ps : List Place). Among other ps) only has)
    where
      by : Among other (place ∷ []) → node_of other ≡ None
      by (inl is) = ap node_of is ∙ none
      by (inr never) = absurd never

  -- an open has one place, which the table allows; it opens the node there, or a new one
  pub record IsOpening (call : Call) (f : OpenFlags) (after : State) (r : Reply) : Type 0 where
    pub place : Place
    pub node : ℕ
    pub tree : Tree
    pub only : places s me call ≡ place ∷ []
    pub allowed : judgement s.tree me.table place (permissions_of_open f) ≡ Allowed
    pub which : (node_of place ≡ Some node) ⊎ ((node_of place ≡ None) × (node ≡ new_number s.tree))
    pub is : after ≡ with_open_file s pid me f node tree
    pub reply : r ≡ returns (least_free me.descriptors)

  pub record Named (call : Call) (after : State) (r : Reply) : Type 0 where
    pub allows : AllowsNames call
    pub absent : CreatesAbsent call after
    pub opens : (f : OpenFlags) → flags_of call ≡ Some f → IsOpening call f after r

  abbrev pub N : Call → Effect → Type 0
  N call (after, r) = Named call after r

  -- ---- the calls

  names-make : (call : Call) (follow : Follow) (node : Node) (path : Bytes) → flags_of call ≡ None → ((place : Place) → resolve s.tree follow me.directory path ≡ Ok place → places s me call ≡ place ∷ [])
      → Leads (N call) (make s pid me (from_here follow path permission_c) node)
  names-make call follow node path unflagged only =
      leads-judged (N call) s me me.directory follow path permission_c (CallRemainders.make_1 s pid me node) (λ place found allowed.
      leads-refuse_if (N call) EEXIST (is_some (node_of place)) (CallRemainders.make_2 s pid me node place) (λ free.
      leads-each (N call) (CallRemainders.make_2 s pid me node place) (λ (after, r). record {
        allows = allows-one call place (only place found) allowed;
        absent = absent-one call place after (only place found) (not-there (node_of place) free);
        opens = λ f flagged. let no : Some f ≡ None = sym flagged ∙ unflagged in cc no;
      })))

  names-removing : (call : Call) (follow : Follow) (path : Bytes) (rest : Place → Attempt Effect) → flags_of call ≡ None → creates_names call ≡ false
      → ((place : Place) → resolve s.tree follow me.directory path ≡ Ok place → places s me call ≡ place ∷ [])
      → Leads (N call) (walk_from s me.directory follow path >>= (λ place. judge_for s me place permission_c >> rest place))
  names-removing call follow path rest unflagged uncreating only =
      leads-judged (N call) s me me.directory follow path permission_c rest (λ place found allowed.
      leads-each (N call) (rest place) (λ (after, r). record {
        allows = allows-one call place (only place found) allowed;
        absent = λ creates. let no : true ≡ false = sym creates ∙ uncreating in cc no;
        opens = λ f flagged. let no : Some f ≡ None = sym flagged ∙ unflagged in cc no;
      }))

  module _ (call : Call) (path : Bytes) (f : OpenFlags) (flagged : flags_of call ≡ Some f) (keeps : removes_names call ≡ false) where
    abbrev there : Place → Option Node
    there place = CallRemainders.node_there s pid me place

    opened-node : (place : Place) → places s me call ≡ place ∷ [] → judgement s.tree me.table place (permissions_of_open f) ≡ Allowed → (is_none (there place) && not f.create) ≡ false
        → (name : Option (ℕ × Bytes)) (node : Option ℕ) → name_of place ≡ name → node_of place ≡ node → Leads (N call) (open_node s pid me f name node >>= CallRemainders.open_7 s pid me)
    opened-node place only allowed made name (Some n) named is =
        let t : Tree = if f.truncate then with_content s.tree n [] else s.tree in
        leads-after_walks (N call) 0 (CallRemainders.open_7 s pid me (with_open_file s pid me f n t))
        (leads-room (N call) (with_open_file s pid me f n t) (λ roomy. answers roomy (least_free me.descriptors)) (λ short fit. record {
          allows = λ other has. absurd (there-already other (changed-place call other has) (absent-place call other keeps has));
          absent = λ creates d name differs other has own. absurd (differs (entries-stay f.truncate d name));
          opens = λ g is_g. let both : Some f ≡ Some g = sym flagged ∙ is_g in let one : f ≡ g = cc both in
              subst (λ (h : OpenFlags). IsOpening call h (with_open_file s pid me f n t) (returns (least_free me.descriptors))) one
              (record { place = place; node = n; tree = t; only = only; allowed = allowed; which = inl is; is = refl; reply = refl });
        }))
      where
        there-already : (other : Place) → Among other (places s me call) → node_of other ≡ None → ⊥
        there-already other has none = by (subst (λ (ps : List Place). Among other ps) only has)
          where
            by : Among other (place ∷ []) → ⊥
            by (inl same) = let no : Some n ≡ None = sym is ∙ ap node_of (sym same) ∙ none in cc no
            by (inr never) = absurd never

        entries-stay : (b : Bool) (d : ℕ) (name : Bytes) → find_entry (if b then with_content s.tree n [] else s.tree) d name ≡ find_entry s.tree d name
        entries-stay true d name = ap (Rattle.std.specs.FinMap.Entries.find by_name name) (entries-content s.tree n [] d)
        entries-stay false d name = refl
    opened-node place only allowed made (Some p) None named is =
        let t : Tree = with_new_node s.tree p.0 p.1 (file_node false []) in
        let create = created (there place) f.create made (ap (option_and_then (node_at s.tree)) is) in
        leads-after_walks (N call) 0 (CallRemainders.open_7 s pid me (with_open_file s pid me f (new_number s.tree) t))
        (leads-room (N call) (with_open_file s pid me f (new_number s.tree) t) (λ roomy. answers roomy (least_free me.descriptors)) (λ short fit. record {
          allows = allows-one call place only (allowed-creating s.tree me.table place f create allowed);
          absent = absent-one call place (with_open_file s pid me f (new_number s.tree) t) only is;
          opens = λ g is_g. let both : Some f ≡ Some g = sym flagged ∙ is_g in let one : f ≡ g = cc both in
              subst (λ (h : OpenFlags). IsOpening call h (with_open_file s pid me f (new_number s.tree) t) (returns (least_free me.descriptors))) one
              (record { place = place; node = new_number s.tree; tree = t; only = only; allowed = allowed; which = inr (is, refl); is = refl; reply = refl });
        }))
    opened-node place only allowed made None None named is = tt

    names-open : (start : Start) → ((place : Place) → end_of s me (open_walk start path f) ≡ Ok place → places s me call ≡ place ∷ []) → Leads (N call) (open_at s pid me start path f)
    names-open start only =
        let directory : ℕ = start_directory s me start path in
        leads-then (N call) (refuse_if EINVAL (contradicts f)) (check_start s pid me start path >> CallRemainders.open_a s pid me path f directory) (
        leads-then (N call) (check_start s pid me start path) (CallRemainders.open_a s pid me path f directory) (
        leads-then (N call) (refuse_if EMFILE (nat_le 16 (least_free me.descriptors))) (CallRemainders.open_b s pid me path f directory) (
        leads-then (N call) (refuse_if ENFILE (nat_le 128 (least_free s.files))) (CallRemainders.open_c s pid me path f directory) (
        leads-judged (N call) s me directory (follow_of f) path (permissions_of_open f) (CallRemainders.open_1 s pid me f) (λ place found allowed.
        leads-then (N call) (refuse_if EEXIST (f.create && f.exclusive && is_some (there place))) (CallRemainders.open_2 s pid me f place) (
        leads-refuse_if (N call) ENOENT (is_none (there place) && not f.create) (CallRemainders.open_3 s pid me f place) (λ made.
        leads-then (N call) (refuse_if ELOOP (is_link (there place))) (CallRemainders.open_4 s pid me f place) (
        leads-then (N call) (refuse_if ENOTDIR (f.directory && not (is_directory (there place)))) (CallRemainders.open_5 s pid me f place) (
        leads-then (N call) (refuse_if EISDIR (is_directory (there place) && writes f.mode)) (CallRemainders.open_6 s pid me f place) (
        opened-node place (only place found) allowed made (name_of place) (node_of place) refl refl))))))))))

  module _ (whole : IsValid s) (at : process_at s pid ≡ Some me) where
    linked : (path new : Bytes) (old place : Place) (n : ℕ) (p : ℕ × Bytes) → (is_text path && is_text new) ≡ true → resolve s.tree Last me.directory path ≡ Ok old → resolve s.tree Keep me.directory new ≡ Ok place
        → IsAllowedForC place → node_of old ≡ Some n → node_of place ≡ None → name_of place ≡ Some p → Named (TheCall.Link path new) (with_tree s (with_entry s.tree p.0 p.1 n)) (returns 0)
    linked path new old place n p texts old_found found allowed is free named = record {
      allows = allows-two (TheCall.Link path new) old place both (λ has. let no : Some n ≡ None = sym is ∙ absent-place (TheCall.Link path new) old refl has in cc no) allowed;
      absent = λ creates d name differs other has own. by d name differs other own (subst (λ (ps : List Place). Among other ps) both has);
      opens = λ f flagged. cc flagged;
    }
      where
        both : places s me (TheCall.Link path new) ≡ old ∷ place ∷ []
        both = two-ends (linked_walk path) (new_link_walk new) old place old_found found

        by : (d : ℕ) (name : Bytes) → find_entry (with_entry s.tree p.0 p.1 n) d name ≢ find_entry s.tree d name → (other : Place) → name_of other ≡ Some (d, name) → Among other (old ∷ place ∷ []) → node_of other ≡ None
        by d name differs other own (inr (inl same)) = ap node_of same ∙ free
        by d name differs other own (inr (inr none)) = absurd none
        by d name differs other own (inl same) =
            let new_name = named-place s.tree place p (fine-place s pid me whole at Keep new place (and_parts (is_text path) (is_text new) texts).1 found) named in
            let old_name = named-place s.tree old (d, name) (fine-place s pid me whole at Last path old (and_parts (is_text path) (is_text new) texts).0 old_found) (ap name_of (sym same) ∙ own) in
            absurd (apart new_name.directory new_name.found old_name.found (cases_entry d p.0 name p.1))
          where
            apart : is_directory_at s.tree p.0 ≡ true → find_entry s.tree p.0 p.1 ≡ node_of place → find_entry s.tree d name ≡ node_of old → ((d ≡ p.0) × (name ≡ p.1)) ⊎ ((d ≡ p.0) → (name ≡ p.1) → ⊥) → ⊥
            apart dir new_entry old_entry (inl here) =
                let no : Some n ≡ None = sym is ∙ sym old_entry ∙ ap (λ (e : ℕ). find_entry s.tree e name) here.0 ∙ ap (find_entry s.tree p.0) here.1 ∙ new_entry ∙ free in cc no
            apart dir new_entry old_entry (inr other_entry) = differs (entry-with_other s.tree p.0 p.1 n dir d name other_entry)

    pub names : (program_of : Bytes → Option Program) (call : Call) → is_call call ≡ true → Leads (N call) (effect program_of s pid me call)
    unfolding effect
    names program_of (TheCall.Mkdir path) texts = names-make (TheCall.Mkdir path) KeepTrimmed (directory_node []) path refl (λ place found. one-end (mkdir_walk path) place found)
    names program_of (TheCall.Symlink text path) texts =
        let C : Call = TheCall.Symlink text path in
        leads-then (N C) (refuse_if ENOENT (is_empty text)) (refuse_if ENAMETOOLONG (nat_lt 1023 (Rattle.std.proofs.Common.length text)) >> make s pid me (from_here Keep path permission_c) (link_node text)) (
        leads-then (N C) (refuse_if ENAMETOOLONG (nat_lt 1023 (Rattle.std.proofs.Common.length text))) (make s pid me (from_here Keep path permission_c) (link_node text))
        (names-make C Keep (link_node text) path refl (λ place found. one-end (symlink_walk path) place found)))
    names program_of (TheCall.Link path new) texts =
        let C : Call = TheCall.Link path new in
        leads-judged (N C) s me me.directory Last path permission_r (CallRemainders.link_1 s pid me new) (λ old old_found old_allowed.
        leads-judged (N C) s me me.directory Keep new permission_c (CallRemainders.link_2 s pid me old) (λ place found allowed.
        leads-demand (N C) ENOENT (node_of old) (CallRemainders.link_3 s pid me place) (λ n is.
        leads-then (N C) (refuse_if EPERM (is_directory_at s.tree n)) (CallRemainders.link_4 s pid me place n) (
        leads-refuse_if (N C) EEXIST (is_some (node_of place)) (CallRemainders.link_5 s pid me place n) (λ free.
        leads-demand (N C) EEXIST (name_of place) (CallRemainders.link_6 s pid me n) (λ p named.
        leads-room (N C) (with_tree s (with_entry s.tree p.0 p.1 n)) (λ after. answers after 0) (λ short fit.
        linked path new old place n p texts old_found found allowed is (not-there (node_of place) free) named)))))))
    names program_of (TheCall.Unlink path) texts = names-removing (TheCall.Unlink path) Keep path (CallRemainders.unlink_1 s pid me) refl refl (λ place found. one-end (unlink_walk path) place found)
    names program_of (TheCall.Rmdir path) texts =
        leads-then (N (TheCall.Rmdir path)) (refuse_if EINVAL (ends_in_dot path)) (walk_from s me.directory Keep path >>= (λ place. judge_for s me place permission_c >> CallRemainders.rmdir_1 s pid me place))
        (names-removing (TheCall.Rmdir path) Keep path (CallRemainders.rmdir_1 s pid me) refl refl (λ place found. one-end (rmdir_walk path) place found))
    names program_of (TheCall.Rename path new) texts =
        let C : Call = TheCall.Rename path new in
        leads-then (N C) (refuse_if EINVAL (ends_in_dot path || ends_in_dot new)) (walk_from s me.directory Keep path >>= (λ old. judge_for s me old permission_c >> CallRemainders.rename_1 s pid me new old)) (
        leads-judged (N C) s me me.directory Keep path permission_c (CallRemainders.rename_1 s pid me new) (λ old old_found old_allowed.
        leads-judged (N C) s me me.directory Keep new permission_c (CallRemainders.rename_2 s pid me old) (λ place found allowed.
        leads-each (N C) (CallRemainders.rename_2 s pid me old place) (λ (after, r). record {
          allows = allows-two C old place (two-ends (rename_walk path) (rename_walk new) old place old_found found) (λ has. old_allowed) allowed;
          absent = λ creates. cc creates;
          opens = λ f flagged. cc flagged;
        }))))
    names program_of (TheCall.Open path f) texts = names-open (TheCall.Open path f) path f refl refl WorkingDirectory (λ place found. one-end (open_walk WorkingDirectory path f) place found)
    names program_of (TheCall.OpenAt start path f) texts = names-open (TheCall.OpenAt start path f) path f refl refl start (λ place found. one-end (open_walk start path f) place found)
    names program_of call texts =
        leads-each (N call) (effect program_of s pid me call) (λ (after, r). record { allows = λ place has. absurd has; absent = λ creates. cc creates; opens = λ f flagged. cc flagged })

  -- ---- writes

  -- a write of no bytes changes nothing
  abbrev pub WritesCount : Effect → Type 0
  WritesCount (after, r) = (count : ℕ) × (r ≡ returns count) × (count ≡ 0 → after ≡ s)

  pub write-counts : (program_of : Bytes → Option Program) (d n : ℤ) → Leads WritesCount (effect program_of s pid me (TheCall.Write d n))
  unfolding effect
  write-counts program_of d n =
      leads-demand WritesCount EBADF (open_file_for s pid me writes d) (CallRemainders.write_1 s pid me n) (λ (k, file) is.
      leads-demand WritesCount EINVAL (within 4096 n) (CallRemainders.write_2 s pid me k file) (λ count low.
      leads-then WritesCount (refuse_if EFBIG (is_past_greatest s.tree (write_end s pid me file count))) (CallRemainders.write_3 s pid me k file count) (
      leads-room WritesCount (after_write s pid me k file count) (λ roomy. answers roomy count) (λ short fit. (count, refl, λ none. ap (after_write s pid me k file) none)))))

  abbrev pub ReturnsZero : Effect → Type 0
  ReturnsZero (after, r) = r ≡ returns 0

  pub cut-returns : (program_of : Bytes → Option Program) (d n : ℤ) → Leads ReturnsZero (effect program_of s pid me (TheCall.Ftruncate d n))
  unfolding effect
  cut-returns program_of d n =
      leads-demand ReturnsZero EBADF (Rattle.pv_model.specs.Effect.open_file s me d) (CallRemainders.ftruncate_1 s pid me n) (λ (k, file) is.
      leads-then ReturnsZero (refuse_if EINVAL (not (writes file.mode))) (CallRemainders.ftruncate_2 s pid me n file) (
      leads-demand ReturnsZero EINVAL (natural n) (CallRemainders.ftruncate_3 s pid me file) (λ size natural_size.
      leads-then ReturnsZero (refuse_if EFBIG (is_past_greatest s.tree size)) (CallRemainders.ftruncate_4 s pid me file size) (
      leads-room ReturnsZero (CallRemainders.resized s pid me file size) (λ roomy. answers roomy 0) (λ short fit. refl)))))
