-- Calls in a larger image.
use Rattle.std.proofs.Common.{◌≡◌, ℕ, zero, suc, ◌+◌, pos, ◌+ℤ◌, true, false, if◌then◌else◌, List, [], length, take, drop, Option, None, Some, refl, ap, sym, subst, ◌∙◌, inr, arith, inl, Bool, ⊎_elim, Ok}
use Rattle.pv_model.specs.declared.call.Call.{Call}
use Rattle.pv_model.specs.declared.call.Whence.{Whence}
use Rattle.pv_model.specs.declared.call.Whence.TheVariants.{Set, Current, End}
use Rattle.pv_model.specs.declared.errno.Errno.TheVariants.{EINVAL, EISDIR, EFBIG}
use Rattle.pv_model.specs.declared.follow.Follow.TheVariants.{Last}
use Rattle.pv_model.specs.declared.open_flags.OpenFlags.{OpenFlags}
use Rattle.pv_model.specs.declared.place.Place.{Place}
use Rattle.pv_model.specs.Machine.{effect, Attempt, done, ◌>>=◌, ◌>>◌, refuse_if, demand, Bytes, within, next_name, seek_base, list_name, is_past_greatest, with_content_of, with_content, write_end, after_write, with_open_file, statuses, executable_bytes, add_target, refuse_if_locked, unveil, Effect, returns, answers, answers_bytes, walk_from, with_room, descriptor_at, open_file, status, bytes_of, overwrite, resize, with_file, start_directory, with_number, least_free, read_permissions, OpenFile, Program, Process, State, reads, writes, with_process, with_tree, Entries, Node, file_node, Tree, node_at, entries_at, with_entry, without_entry, new_number, with_new_node, IsWellFormed, target_of, begins_walk, resolve, walk, judge, end_of, judgement, Walked, Walk, place_or_refusal}
use Rattle.pv_laws_states.proofs.CallRemainders
use Rattle.pv_laws_steps.proofs.LargerTrees.{enlarged, contains-alike, node-enlarged, entries-enlarged, directory-enlarged, parent-enlarged, new-enlarged, judgement-enlarged, target-enlarged, status-enlarged}
use Rattle.pv_laws_steps.proofs.LargerTreeRoom.{well_formed-enlarged, length-second}
use Rattle.pv_laws_steps.proofs.LargerWalks.{resolve-alike}
use Rattle.pv_laws_steps.proofs.LargerChanges.{IsCounted, entry-changed, without-changed, new-changed, moved-changed, content-changed, content-blocks, content-inodes}
use Rattle.pv_laws_steps.proofs.LargerAttempts.{enlarge, IsWithin, Follows, follows-after, follows-limit, follows-walk, follows-room}
use Rattle.pv_laws_states.proofs.RelatedAttempts.{KeptByAll, kept-by-checks, all-bind, all-then}
use Rattle.pv_laws_states.proofs.RelatedCalls.{AreOnSame, both-have, opened-same, RespectsFiles, Respects, call-both}
use Rattle.pv_laws_states.proofs.RespectedParts.{walked-alike, twice-alike, pledge-both, execve-both}
use Rattle.pv_model.specs.declared.judgement.Judgement.TheVariants.{Allowed}

module _ (blocks inodes : ℕ) (s : State) (fine : IsWellFormed s.tree) (sized : IsWithin blocks inodes s.tree) (pid : ℕ) (me : Process) where
  abbrev u : State
  u = enlarge blocks inodes s

  abbrev E : Tree → Tree
  E = enlarged blocks inodes

  -- in the larger image
  abbrev B : Attempt Effect → Attempt Effect → Type 0
  B = Follows blocks inodes

  at : (n : ℕ) → node_at u.tree n ≡ node_at s.tree n
  at = node-enlarged blocks inodes s.tree

  entries : (n : ℕ) → entries_at u.tree n ≡ entries_at s.tree n
  entries = entries-enlarged blocks inodes s.tree

  within-sizes : (v : Tree) → v.blocks ≡ s.tree.blocks → v.inodes ≡ s.tree.inodes → IsWithin blocks inodes v
  within-sizes v same_blocks same_inodes = (omega (arith, same_blocks, sized.0), omega (arith, same_inodes, sized.1))

  all : KeptByAll B
  all = record { after = follows-after blocks inodes; refuses = λ n e c. inr refl }

  walked : (w : Walk) (g h : Place → Attempt Effect) → ((place : Place) → end_of s me w ≡ Ok place → judgement s.tree me.table place w.needed ≡ Allowed → B (g place) (h place))
      → B (walk s me w >>= (λ place. judge s me w place >> g place)) (walk u me w >>= (λ place. judge u me w place >> h place))
  walked w g h is =
      ⊎_elim
      (λ long. subst (λ (r : Walked). B (place_or_refusal (if begins_walk w.path then 1 else 0) r >>= (λ place. judge s me w place >> g place)) (walk u me w >>= (λ place. judge u me w place >> h place))) (sym long) (inl refl))
      (λ same. walked-alike B all s u pid me me (judgement-enlarged blocks inodes s.tree me.table) w same g h is)
      (resolve-alike blocks inodes s.tree w.follow (start_directory s me w.start w.path) w.path)

  unveil-follows : (path permissions : Option Bytes) → B (unveil s pid me path permissions) (unveil u pid me path permissions)
  unveil-follows None None = (sized, λ all. refl)
  unveil-follows None (Some permissions) = inr refl
  unveil-follows (Some path) None = inr refl
  unveil-follows (Some path) (Some text) =
      all-bind B all (demand EINVAL (read_permissions text)) (demand EINVAL (read_permissions text)) refl (CallRemainders.unveil_1 s pid me path) (CallRemainders.unveil_1 u pid me path) (λ permissions.
      all-then B all (refuse_if_locked me.locked) (refuse_if_locked me.locked) refl (walk_from s me.directory Last path >>= CallRemainders.unveil_2 s pid me permissions) (walk_from u me.directory Last path >>= CallRemainders.unveil_2 u pid me permissions) (
      follows-walk blocks inodes (if begins_walk path then 1 else 0) (resolve s.tree Last me.directory path) (resolve u.tree Last me.directory path) (resolve-alike blocks inodes s.tree Last me.directory path)
      (CallRemainders.unveil_2 s pid me permissions) (CallRemainders.unveil_2 u pid me permissions) (λ place.
      all-bind B all (add_target s pid me (target_of s.tree place) permissions) (add_target u pid me (target_of u.tree place) permissions)
      (ap (λ target. add_target s pid me target permissions) (target-enlarged blocks inodes s.tree place))
      (CallRemainders.unveil_3 s pid me) (CallRemainders.unveil_3 u pid me) (λ table. (sized, λ all. refl)))))

  reported : (n : ℕ) → B (answers_bytes s 0 (status s.tree n)) (answers_bytes u 0 (status u.tree n))
  reported n = (sized, λ all. ap (λ bytes. answers_bytes u 0 bytes) (status-enlarged blocks inodes s.tree n))

  -- ---- trees

  -- a tree of the same sizes, which is left if it has room
  tree-follows : (v w : Tree) (n : ℕ) → v.blocks ≡ s.tree.blocks → v.inodes ≡ s.tree.inodes → (IsCounted v → w ≡ E v)
      → B (with_room (with_tree s v) >>= (λ after. answers after n)) (with_room (with_tree u w) >>= (λ after. answers after n))
  tree-follows v w n same_blocks same_inodes is =
      follows-room blocks inodes (with_tree s v) (with_tree u w) n (within-sizes v same_blocks same_inodes) (λ counted. ap (λ (t : Tree). with_tree s t) (is counted))

  less-follows : (p : ℕ × Bytes) → B (CallRemainders.less_3 s pid me p) (CallRemainders.less_3 u pid me p)
  less-follows p = (sized, λ counted. ap (λ (t : Tree). done 0 (with_tree s t, returns 0)) (without-changed blocks inodes s.tree p.0 p.1 fine.numbers counted))

  -- ---- descriptors

  seek-enlarged : (file : OpenFile) (whence : Whence) → seek_base u pid me file whence ≡ seek_base s pid me file whence
  seek-enlarged file Set = refl
  seek-enlarged file Current = refl
  seek-enlarged file End = ap (λ o. length (bytes_of o)) (at file.node)

  listed : (k : ℕ) (file : OpenFile) (o : Option Bytes) → B (list_name s pid me k file o) (list_name u pid me k file o)
  listed k file None = (sized, λ all. refl)
  listed k file (Some name) = (sized, λ all. refl)

  abbrev read_by : ℕ → OpenFile → Bytes → Attempt Effect
  read_by k file bytes = answers_bytes (with_file u k (record file { offset = file.offset + length bytes })) (length bytes) bytes

  -- ---- bytes

  end-enlarged : (file : OpenFile) (count : ℕ) → write_end u pid me file count ≡ write_end s pid me file count
  end-enlarged file zero = refl
  end-enlarged file (suc n) = ap (λ o. (if file.append then length (bytes_of o) else file.offset) + suc n) (at file.node)

  past-limit : (size : ℕ) → is_past_greatest s.tree size ≡ false → is_past_greatest u.tree size ≡ false
  past-limit size short = length-second s.tree.version size short

  write_3-follows : (k : ℕ) (file : OpenFile) (count : ℕ) → B (CallRemainders.write_3 s pid me k file count) (CallRemainders.write_3 u pid me k file count)
  write_3-follows k file zero = follows-room blocks inodes s u 0 sized (λ counted. refl)
  write_3-follows k file (suc n) =
      let f : ℕ = file.node in
      let place : Option Node → ℕ = λ o. if file.append then length (bytes_of o) else file.offset in
      let bytes : Bytes = take (suc n) me.buffer in
      let new : Option Node → Bytes = λ o. overwrite (bytes_of o) (place o) bytes in
      let left : Tree → Option Node → State = λ t o. with_file (with_tree s (with_content_of t f o (new o))) k (record file { offset = place o + length bytes }) in
      let o : Option Node = node_at s.tree f in
      follows-room blocks inodes (after_write s pid me k file (suc n)) (after_write u pid me k file (suc n)) (suc n)
      (within-sizes (with_content_of s.tree f o (new o)) (content-blocks s.tree f o (new o)) (content-inodes s.tree f o (new o)))
      (λ counted.
      ap (left u.tree) (at f)
      ∙ ap (λ (t : Tree). with_file (with_tree s t) k (record file { offset = place o + length bytes })) (content-changed blocks inodes s.tree f o (new o) fine.numbers counted))

  content-follows : (f : ℕ) (F : Bytes → Bytes) (n : ℕ) → B (with_room (with_tree s (with_content s.tree f (F (bytes_of (node_at s.tree f))))) >>= (λ after. answers after n))
      (with_room (with_tree u (with_content u.tree f (F (bytes_of (node_at u.tree f))))) >>= (λ after. answers after n))
  content-follows f F n =
      let o : Option Node = node_at s.tree f in
      tree-follows (with_content s.tree f (F (bytes_of o))) (with_content u.tree f (F (bytes_of (node_at u.tree f)))) n
      (content-blocks s.tree f o (F (bytes_of o))) (content-inodes s.tree f o (F (bytes_of o)))
      (λ counted. ap (λ p. with_content_of u.tree f p (F (bytes_of p))) (at f) ∙ content-changed blocks inodes s.tree f o (F (bytes_of o)) fine.numbers counted)

  -- ---- open

  opened-follows : (g : OpenFlags) (n : ℕ) (v w : Tree) → v.blocks ≡ s.tree.blocks → v.inodes ≡ s.tree.inodes → (IsCounted v → w ≡ E v)
      → B (CallRemainders.open_7 s pid me (with_open_file s pid me g n v)) (CallRemainders.open_7 u pid me (with_open_file u pid me g n w))
  opened-follows g n v w same_blocks same_inodes is =
      follows-room blocks inodes (with_open_file s pid me g n v) (with_open_file u pid me g n w) (least_free me.descriptors) (within-sizes v same_blocks same_inodes)
      (λ counted. ap (λ (t : Tree). with_open_file s pid me g n t) (is counted))

  -- a file that an open truncates or not
  truncated-follows : (g : OpenFlags) (n : ℕ) (b : Bool)
      → B (CallRemainders.open_7 s pid me (with_open_file s pid me g n (if b then with_content s.tree n [] else s.tree))) (CallRemainders.open_7 u pid me (with_open_file u pid me g n (if b then with_content u.tree n [] else u.tree)))
  truncated-follows g n true =
      let o : Option Node = node_at s.tree n in
      opened-follows g n (with_content s.tree n []) (with_content u.tree n []) (content-blocks s.tree n o []) (content-inodes s.tree n o [])
      (λ counted. ap (λ p. with_content_of u.tree n p []) (at n) ∙ content-changed blocks inodes s.tree n o [] fine.numbers counted)
  truncated-follows g n false = opened-follows g n s.tree u.tree refl refl (λ counted. refl)

  created-follows : (g : OpenFlags) (p : ℕ × Bytes)
      → B (CallRemainders.open_7 s pid me (with_open_file s pid me g (new_number s.tree) (with_new_node s.tree p.0 p.1 (file_node false [])))) (CallRemainders.open_7 u pid me (with_open_file u pid me g (new_number u.tree) (with_new_node u.tree p.0 p.1 (file_node false []))))
  created-follows g p =
      let node : Node = file_node false [] in
      subst (λ k. B (CallRemainders.open_7 s pid me (with_open_file s pid me g (new_number s.tree) (with_new_node s.tree p.0 p.1 node))) (CallRemainders.open_7 u pid me (with_open_file u pid me g k (with_new_node u.tree p.0 p.1 node))))
      (sym (new-enlarged blocks inodes s.tree))
      (opened-follows g (new_number s.tree) (with_new_node s.tree p.0 p.1 node) (with_new_node u.tree p.0 p.1 node) refl refl (new-changed blocks inodes s.tree p.0 p.1 node fine.numbers))

  -- ---- the parts of a call

  module _ (program_of : Bytes → Option Program) (call : Call) where
    abbrev C : List Walk → Attempt Effect → Attempt Effect → Type 0
    C ws = B

    files : RespectsFiles C program_of s u pid me me call
    files = record {
      opened = λ d. both-have AreOnSame (open_file s me d) (λ v is. record { node = refl; mode = refl });
      full = refl;
      reads = λ d n is v w opened may count. opened-same C program_of s u pid me me call (λ v w. B (CallRemainders.read_2 s pid me v.0 v.1 count) (CallRemainders.read_2 u pid me w.0 w.1 count)) d v w refl opened
          (all-then B all _ _ (ap (refuse_if EISDIR) (directory-enlarged blocks inodes s.tree v.1.node)) (CallRemainders.read_3 s pid me v.0 v.1 count) (CallRemainders.read_3 u pid me v.0 v.1 count)
          (sized, λ all. ap (λ o. read_by v.0 v.1 (take count (drop v.1.offset (bytes_of o)))) (at v.1.node)));
      writes = λ d n is v w opened may count few. opened-same C program_of s u pid me me call (λ v w. B (CallRemainders.write_2 s pid me v.0 v.1 count) (CallRemainders.write_2 u pid me w.0 w.1 count)) d v w refl opened
          (follows-limit blocks inodes EFBIG refl (is_past_greatest s.tree (write_end s pid me v.1 count)) (is_past_greatest u.tree (write_end u pid me v.1 count))
          (λ short. ap (is_past_greatest u.tree) (end-enlarged v.1 count) ∙ past-limit (write_end s pid me v.1 count) short)
          (CallRemainders.write_3 s pid me v.0 v.1 count) (CallRemainders.write_3 u pid me v.0 v.1 count) (write_3-follows v.0 v.1 count));
      seeks = λ d by whence is v w opened. opened-same C program_of s u pid me me call (λ v w. B (CallRemainders.lseek_2 s pid me by whence v.0 v.1) (CallRemainders.lseek_2 u pid me by whence w.0 w.1)) d v w refl opened
          (all-bind B all (demand EINVAL (within 2147483647 (pos (seek_base s pid me v.1 whence) +ℤ by))) (demand EINVAL (within 2147483647 (pos (seek_base u pid me v.1 whence) +ℤ by)))
          (ap (λ n. demand EINVAL (within 2147483647 (pos n +ℤ by))) (seek-enlarged v.1 whence)) (CallRemainders.lseek_3 s pid me v.0 v.1) (CallRemainders.lseek_3 u pid me v.0 v.1) (λ offset. (sized, λ all. refl)));
      reports = λ d is v w opened. opened-same C program_of s u pid me me call (λ v w. B (answers_bytes s 0 (status s.tree v.1.node)) (answers_bytes u 0 (status u.tree w.1.node))) d v w refl opened (reported v.1.node);
      cuts = λ d n is v w opened size. opened-same C program_of s u pid me me call (λ v w. B (CallRemainders.ftruncate_3 s pid me v.1 size) (CallRemainders.ftruncate_3 u pid me w.1 size)) d v w refl opened
          (follows-limit blocks inodes EFBIG refl (is_past_greatest s.tree size) (is_past_greatest u.tree size) (past-limit size) (CallRemainders.ftruncate_4 s pid me v.1 size) (CallRemainders.ftruncate_4 u pid me v.1 size)
          (content-follows v.1.node (λ old. resize old size) 0));
      lists = λ d is v w opened. opened-same C program_of s u pid me me call (λ v w. B (CallRemainders.getdents_2 s pid me v.0 v.1) (CallRemainders.getdents_2 u pid me w.0 w.1)) d v w refl opened
          (subst (λ (es : Entries). B (CallRemainders.getdents_2 s pid me v.0 v.1) (list_name u pid me v.0 v.1 (next_name v.1.listed es))) (sym (entries v.1.node)) (listed v.0 v.1 (next_name v.1.listed (entries_at s.tree v.1.node))));
    }

    respects : Respects C program_of s u pid me me call
    respects = record {
      checks = kept-by-checks B all;
      processes = record {
        left = λ r. (sized, λ all. refl);
        parent = refl;
        count = refl;
        last = refl;
        forks = (sized, λ all. refl);
        childless = refl;
        statuses = refl;
        reaps = λ n bytes. (sized, λ all. refl);
      };
      own = record {
        enters = λ n. (sized, λ all. refl);
        closes = λ d. (sized, λ all. refl);
        free = refl;
        duplicates = λ d. both-have (λ v w. (n : ℕ) → B (answers (with_process s pid (record me { descriptors = with_number me.descriptors n (record { file = v.file; close_on_exec = false }) })) n)
            (answers (with_process u pid (record me { descriptors = with_number me.descriptors n (record { file = w.file; close_on_exec = false }) })) n)) (descriptor_at me d) (λ v is n. (sized, λ all. refl));
        pledges = λ promises execpromises is. pledge-both B all s u pid me me refl refl (λ a b. (sized, λ all. refl)) promises execpromises;
        unveils = λ path permissions is. unveil-follows path permissions;
        executes = λ path is. execve-both B all s u pid me me program_of walked (λ n. ap executable_bytes (at n)) (λ program. (sized, λ all. refl)) path;
      };
      files = files;
      tree = record {
        nodes = λ n. inl (at n);
        contains = contains-alike s.tree u.tree fine (well_formed-enlarged blocks inodes s.tree sized.1 fine) (parent-enlarged blocks inodes s.tree);
        walked = walked;
        walked_twice = twice-alike B s u pid me me walked;
        stats = λ path is place found allowed n there. reported n;
        lstats = λ path is place found allowed n there. reported n;
        unlinks = less-follows;
      };
      room = record {
        makes = λ w node walks here bare place found free p named. tree-follows (with_new_node s.tree p.0 p.1 node) (with_new_node u.tree p.0 p.1 node) 0 refl refl (new-changed blocks inodes s.tree p.0 p.1 node fine.numbers);
        links = λ path new is place found free n p named. tree-follows (with_entry s.tree p.0 p.1 n) (with_entry u.tree p.0 p.1 n) 0 refl refl (entry-changed blocks inodes s.tree p.0 p.1 n fine.numbers);
        moves = λ path new is old_place new_place old_found found n p q there old_named named other.
            tree-follows (with_entry (without_entry s.tree p.0 p.1) q.0 q.1 n) (with_entry (without_entry u.tree p.0 p.1) q.0 q.1 n) 0 refl refl (moved-changed blocks inodes s.tree p.0 p.1 q.0 q.1 n fine.numbers);
        opens = λ start path g place it n is. truncated-follows g n g.truncate;
        creates = λ start path g place it p named is. created-follows g p;
      };
    }

    pub effect-follows : B (effect program_of s pid me call) (effect program_of u pid me call)
    effect-follows = call-both C program_of s u pid me me call respects
