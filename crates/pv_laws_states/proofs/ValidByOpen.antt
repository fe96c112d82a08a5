-- open and openat preserve validity.
use Rattle.std.proofs.Common.{◌≡◌, ◌≢◌, ℕ, ◌<◌, Bool, true, false, not, ◌&&◌, ◌||◌, if◌then◌else◌, nat_le, [], length, Option, None, Some, is_some, is_none, option_and_then, refl, ap, sym, subst, ◌∙◌, ⊎_elim, arith}
use Rattle.std.proofs.lemmas.Bool.{leb-false, cases_eq}
use Rattle.pv_model.specs.declared.call.Start.{Start}
use Rattle.pv_model.specs.declared.call.Start.TheVariants.{WorkingDirectory}
use Rattle.pv_model.specs.declared.errno.Errno.TheVariants.{EEXIST, ENOENT, ENOTDIR, EISDIR, EINVAL, ENFILE, EMFILE, ELOOP}
use Rattle.pv_model.specs.declared.open_flags.OpenFlags.{OpenFlags}
use Rattle.pv_model.specs.declared.place.Place.{Place}
use Rattle.pv_model.specs.Machine.{Attempt, ◌>>=◌, ◌>>◌, refuse_if, Bytes, is_link, contradicts, with_content, new_open_file, open_node, check_start, open_at, Effect, answers, start_directory, walk_from, judge_for, with_room, node_of, name_of, among, held_by_process, permissions_of_open, Numbered, at_number, with_number, least_free, fits, is_file, OpenFile, Descriptor, Process, State, writes, process_at, with_process, Node, directory_node, file_node, link_node, Tree, node_at, is_directory, is_directory_at, new_number, with_node, with_new_node, follow_of}
use Rattle.pv_model.specs.Calls.Descriptors.{open_here}
use Rattle.pv_laws_states.specs.Held.{used}
use Rattle.pv_laws_states.specs.States.{is_text, IsTree, IsOpenFile, AreFiles, IsSolid, IsValid}
use Rattle.pv_laws_states.proofs.AttemptValues.{Leads, leads-after_walks, leads-following, leads-refuse_if, leads-then, leads-place, leads-room}
use Rattle.pv_laws_states.proofs.ValidByProcess.{with-opens}
use Rattle.pv_laws_states.proofs.ValidByTree.{FineName, named-place, place-there, tree-new}
use Rattle.pv_laws_trees.proofs.TreeChanges.{node_at-same, node_at-other, directory-below}
use Rattle.pv_laws_trees.proofs.WellFormedChanges.{new_number-free}
use Rattle.pv_laws_states.proofs.GrownTrees.{tree-content, carries-content, new-below}
use Rattle.pv_laws_states.proofs.ReferenceMembers.{among-used, used-among, among-held_by, among-held_file, held_cases}
use Rattle.pv_laws_trees.proofs.NumberedMaps.{length-with_number, with_number-same, with_number-other, least_free-free}
use Rattle.pv_laws_states.proofs.Processes.{process_at-same, process_at-other}
use Rattle.pv_laws_states.proofs.ValidReplies.{IsEffect}
use Rattle.pv_laws_states.proofs.ChangedStates.{IsFinePlace, resolve-fine, Carries, carries-self, file-carried, placed-carried, solid-present, my-running, my-placed, running-like}
use Rattle.pv_laws_states.proofs.WalkStarts.{StartsWell, leads-start}
use Rattle.pv_laws_states.proofs.CollectedStates.{held_after, tree-collect}
use Rattle.pv_laws_states.proofs.ValidStates.{solid, solid-with_process}

-- the kinds of nodes that can be opened
kinds : (o : Option Node) → is_some o ≡ true → is_link o ≡ false → (is_file o || is_directory o) ≡ true
kinds None some plain = cc
kinds (Some (directory_node es)) some plain = refl
kinds (Some (file_node executable bytes)) some plain = refl
kinds (Some (link_node text)) some plain = cc

not_both : (a b : Bool) → (a && b) ≡ false → a ≡ true → b ≡ false
not_both true b none is = none
not_both false b none is = cc

module _ (s : State) (pid : ℕ) (me : Process) (whole : IsValid s) (at : process_at s pid ≡ Some me) where
  abbrev file_number : ℕ
  file_number = least_free s.files

  abbrev descriptor_number : ℕ
  descriptor_number = least_free me.descriptors

  module _ (f : OpenFlags) (n : ℕ) (t : Tree) where
    abbrev new_file : OpenFile
    new_file = new_open_file f n

    abbrev new_files : Numbered OpenFile
    new_files = with_number s.files file_number new_file

    abbrev new_descriptor : Descriptor
    new_descriptor = record { file = file_number; close_on_exec = f.close_on_exec }

    abbrev opener : Process
    opener = record me { descriptors = with_number me.descriptors descriptor_number new_descriptor }

    abbrev between : State
    between = record s { tree = t; files = new_files }

    abbrev opened : State
    opened = with_process between pid opener

    module _ (room_file : file_number < length s.files) (room_descriptor : descriptor_number < length me.descriptors) where
      other_files : (k : ℕ) (g : OpenFile) → at_number s.files k ≡ Some g → at_number new_files k ≡ Some g
      other_files k g there =
          with_number-other s.files file_number new_file k room_file (λ same. let none : at_number s.files k ≡ None = ap (at_number s.files) same ∙ least_free-free s.files in cc) ∙ there

      still_open : (k : ℕ) → is_some (at_number s.files k) ≡ true → is_some (at_number new_files k) ≡ true
      still_open k is =
          ⊎_elim (λ same. ap is_some (ap (at_number new_files) same ∙ with_number-same s.files file_number new_file room_file))
          (λ other. ap is_some (with_number-other s.files file_number new_file k room_file other) ∙ is) (cases_eq k file_number)

      solid-opened : IsTree t → Carries s.tree t → IsOpenFile t new_file → IsSolid opened
      solid-opened tree carries good =
          let files : AreFiles t new_files = record {
            count = length-with_number s.files file_number new_file room_file ∙ whole.files.count;
            each = λ k g found. ⊎_elim
                (λ same. let value : Some new_file ≡ Some g = sym (with_number-same s.files file_number new_file room_file) ∙ ap (at_number new_files) (sym same) ∙ found in let eq : new_file ≡ g = cc value in subst (IsOpenFile t) eq good)
                (λ other. file-carried s.tree t g carries (whole.files.each k g (sym (with_number-other s.files file_number new_file k room_file other) ∙ found))) (cases_eq k file_number);
          } in
          let mine = placed-carried s.tree t s.files new_files me carries still_open (my-placed s pid me whole at) in
          solid-with_process between pid me opener (solid-present s t new_files (solid s whole) tree carries files still_open) at
          (running-like me opener refl refl refl refl (my-running s pid me whole at))
          (record {
            directory = mine.directory;
            descriptors = length-with_number me.descriptors descriptor_number new_descriptor room_descriptor ∙ mine.descriptors;
            opens = with-opens s pid me whole at new_files still_open descriptor_number new_descriptor room_descriptor (ap is_some (with_number-same s.files file_number new_file room_file));
            table = mine.table;
          })
          refl

      -- files in use stay in use, and referenced nodes stay referenced
      used-more : (k : ℕ) → among (used s) k ≡ true → among (used opened) k ≡ true
      used-more k is =
          let user = used-among s whole.processes.ascending k is in
          ⊎_elim
          (λ same.
          let me_there : process_at s user.0 ≡ Some me = ap (process_at s) same ∙ at in
          let p_is : user.1 ≡ me = cc in
          let mine : at_number me.descriptors user.2 ≡ Some user.3 = ap (λ (p : Process). at_number p.descriptors user.2) (sym p_is) ∙ user.5 in
          let apart : user.2 ≢ descriptor_number = λ eq. let none : at_number me.descriptors user.2 ≡ None = ap (at_number me.descriptors) eq ∙ least_free-free me.descriptors in cc in
          ap (among (used opened)) (sym user.6)
          ∙ among-used opened pid opener user.2 user.3 (process_at-same between pid opener) (with_number-other me.descriptors descriptor_number new_descriptor user.2 room_descriptor apart ∙ mine))
          (λ other. ap (among (used opened)) (sym user.6) ∙ among-used opened user.0 user.1 user.2 user.3 (process_at-other between pid opener user.0 other ∙ user.4) user.5)
          (cases_eq user.0 pid)

      pub held-more : (m : ℕ) → among (held_after s) m ≡ true → among (held_after opened) m ≡ true
      held-more m is =
          held_cases (among (held_after opened) m ≡ true) s whole.processes.ascending m is
          (λ number p there holds. ⊎_elim
          (λ same.
          let me_there : process_at s number ≡ Some me = ap (process_at s) same ∙ at in
          let p_is : p ≡ me = cc in
          among-held_by opened pid opener m (process_at-same between pid opener) (ap (λ (x : Process). among (held_by_process x) m) (sym p_is) ∙ holds))
          (λ other. among-held_by opened number p m (process_at-other between pid opener number other ∙ there) holds) (cases_eq number pid))
          (λ k g there is_used same. ap (among (held_after opened)) (sym same) ∙ among-held_file opened k g (other_files k g there) (used-more k is_used))

  abbrev open_7 : State → Attempt Effect
  open_7 after = with_room after >>= (λ roomy. answers roomy descriptor_number)

  cut-tree : (n : ℕ) (b : Bool) → IsTree (if b then with_content s.tree n [] else s.tree) × Carries s.tree (if b then with_content s.tree n [] else s.tree)
  cut-tree n true = (tree-content s.tree whole.tree n [] refl, carries-content s.tree whole.tree n [] refl)
  cut-tree n false = (whole.tree, carries-self s.tree)

  good-node : (f : OpenFlags) (place : Place) → IsFinePlace s.tree place → file_number < length s.files → descriptor_number < length me.descriptors
      → is_link (option_and_then (node_at s.tree) (node_of place)) ≡ false → (is_directory (option_and_then (node_at s.tree) (node_of place)) && writes f.mode) ≡ false
      → (name : Option (ℕ × Bytes)) (node : Option ℕ) → name_of place ≡ name → node_of place ≡ node → Leads (IsEffect s) (open_node s pid me f name node >>= open_7)
  good-node f place fine room_file room_descriptor no_link no_write name (Some n) named is =
      let there = place-there s.tree whole.tree place n fine is in
      let plain : is_link (node_at s.tree n) ≡ false = ap (λ o. is_link (option_and_then (node_at s.tree) o)) (sym is) ∙ no_link in
      let reading : (is_directory (node_at s.tree n) && writes f.mode) ≡ false = ap (λ o. is_directory (option_and_then (node_at s.tree) o) && writes f.mode) (sym is) ∙ no_write in
      let t : Tree = if f.truncate then with_content s.tree n [] else s.tree in
      let both = cut-tree n f.truncate in
      let old : IsOpenFile s.tree (new_open_file f n) = record {
        node = kinds (node_at s.tree n) there plain;
        directory = λ dir. not_both (is_directory (node_at s.tree n)) (writes f.mode) reading dir;
        offset = omega arith;
        listed = refl;
      } in
      leads-after_walks (IsEffect s) 0 (open_7 (opened f n t))
      (leads-room (IsEffect s) (opened f n t) (λ roomy. answers roomy descriptor_number) (λ short fit. (
        record {
          solid = solid-opened f n t room_file room_descriptor both.0 both.1 (file-carried s.tree t (new_open_file f n) both.1 old);
          room = record { fits = fit; not_too_long = short };
        },
        omega (arith, room_descriptor, (my-placed s pid me whole at).descriptors),
      )))
  good-node f place fine room_file room_descriptor no_link no_write (Some p) None named is =
      let m = new_number s.tree in
      let u : Tree = with_new_node s.tree p.0 p.1 (file_node false []) in
      let new_name : FineName s.tree p None = subst (FineName s.tree p) is (named-place s.tree place p fine named) in
      leads-after_walks (IsEffect s) 0 (open_7 (opened f m u))
      (leads-room (IsEffect s) (opened f m u) (λ roomy. answers roomy descriptor_number) (λ short fit.
      let below = new-below s whole p.0 p.1 (file_node false []) (held_after (opened f m u)) new_name.directory new_name.found refl (held-more f m u room_file room_descriptor)
      (ap fits (sym (tree-collect (opened f m u))) ∙ fit) in
      let both = tree-new s pid me whole at p (file_node false []) new_name refl refl refl below in
      let t1 : Tree = with_node s.tree m (file_node false []) in
      let apart : p.0 ≢ m = λ same. let isnt : is_directory_at s.tree p.0 ≡ false = ap (is_directory_at s.tree) same ∙ ap is_directory (new_number-free s.tree) in let dir = new_name.directory in cc in
      let dir_one : is_directory_at t1 p.0 ≡ true = ap is_directory (node_at-other s.tree m (file_node false []) p.0 below apart) ∙ new_name.directory in
      let here : node_at u m ≡ Some (file_node false []) =
      node_at-other t1 p.0 _ m (directory-below t1 p.0 dir_one) (λ same. apart (sym same)) ∙ node_at-same s.tree m (file_node false []) below in (
        record {
          solid = solid-opened f m u room_file room_descriptor both.0 both.1 (record {
            node = ap (λ o. is_file o || is_directory o) here;
            directory = λ dir. let isnt = ap is_directory here in cc;
            offset = omega arith;
            listed = refl;
          });
          room = record { fits = fit; not_too_long = short };
        },
        omega (arith, room_descriptor, (my-placed s pid me whole at).descriptors),
      )))
  good-node f place fine room_file room_descriptor no_link no_write None None named is = tt

  abbrev node_there : Place → Option Node
  node_there place = option_and_then (node_at s.tree) (node_of place)

  abbrev open_6 : OpenFlags → Place → Attempt Effect
  open_6 f place = open_node s pid me f (name_of place) (node_of place) >>= open_7

  abbrev open_5 : OpenFlags → Place → Attempt Effect
  open_5 f place = refuse_if EISDIR (is_directory (node_there place) && writes f.mode) >> open_6 f place

  abbrev open_4 : OpenFlags → Place → Attempt Effect
  open_4 f place = refuse_if ENOTDIR (f.directory && not (is_directory (node_there place))) >> open_5 f place

  abbrev open_3 : OpenFlags → Place → Attempt Effect
  open_3 f place = refuse_if ELOOP (is_link (node_there place)) >> open_4 f place

  abbrev open_2 : OpenFlags → Place → Attempt Effect
  open_2 f place = refuse_if ENOENT (is_none (node_there place) && not f.create) >> open_3 f place

  abbrev open_1 : OpenFlags → Place → Attempt Effect
  open_1 f place = refuse_if EEXIST (f.create && f.exclusive && is_some (node_there place)) >> open_2 f place

  abbrev open_c : Bytes → OpenFlags → ℕ → Attempt Effect
  open_c path f directory = walk_from s directory (follow_of f) path >>= (λ place. judge_for s me place (permissions_of_open f) >> open_1 f place)

  abbrev open_b : Bytes → OpenFlags → ℕ → Attempt Effect
  open_b path f directory = refuse_if ENFILE (nat_le 128 file_number) >> open_c path f directory

  abbrev open_a : Bytes → OpenFlags → ℕ → Attempt Effect
  open_a path f directory = refuse_if EMFILE (nat_le 16 descriptor_number) >> open_b path f directory

  pub good-open_at : (start : Start) (path : Bytes) (f : OpenFlags) → is_text path ≡ true → Leads (IsEffect s) (open_at s pid me start path f)
  good-open_at start path f text =
      let directory : ℕ = start_directory s me start path in
      leads-then (IsEffect s) (refuse_if EINVAL (contradicts f)) (check_start s pid me start path >> open_a path f directory) (
      leads-following (IsEffect s) (StartsWell s pid me directory) (check_start s pid me start path) (open_a path f directory) (leads-start s pid me start path) (λ well.
      leads-refuse_if (IsEffect s) EMFILE (nat_le 16 descriptor_number) (open_b path f directory) (λ few_descriptors.
      leads-refuse_if (IsEffect s) ENFILE (nat_le 128 file_number) (open_c path f directory) (λ few_files.
      leads-place (IsEffect s) s me directory (follow_of f) path (permissions_of_open f) (open_1 f) (λ place found.
      leads-then (IsEffect s) (refuse_if EEXIST (f.create && f.exclusive && is_some (node_there place))) (open_2 f place) (
      leads-then (IsEffect s) (refuse_if ENOENT (is_none (node_there place) && not f.create)) (open_3 f place) (
      leads-refuse_if (IsEffect s) ELOOP (is_link (node_there place)) (open_4 f place) (λ no_link.
      leads-then (IsEffect s) (refuse_if ENOTDIR (f.directory && not (is_directory (node_there place)))) (open_5 f place) (
      leads-refuse_if (IsEffect s) EISDIR (is_directory (node_there place) && writes f.mode) (open_6 f place) (λ no_write.
      good-node f place (resolve-fine s.tree whole.tree (follow_of f) directory path place (well (my-placed s pid me whole at).directory) text found)
      (omega (arith, leb-false 128 file_number few_files, whole.files.count))
      (omega (arith, leb-false 16 descriptor_number few_descriptors, (my-placed s pid me whole at).descriptors))
      no_link no_write (name_of place) (node_of place) refl refl))))))))))

  pub good-open : (path : Bytes) (f : OpenFlags) → is_text path ≡ true → Leads (IsEffect s) (open_here s pid me path f)
  good-open path f text = good-open_at WorkingDirectory path f text
