-- Calls in two states that differ only in the bytes of one file, whose lengths are similar.
use Rattle.std.proofs.Common.{◌≡◌, ℕ, zero, suc, ◌+◌, ◌-◌, ℤ, pos, ◌+ℤ◌, Bool, true, false, not, if◌then◌else◌, ◌==◌, min, List, [], length, take, drop, Option, None, Some, Ok, refl, ap, sym, subst, ◌∙◌, ◌⊎◌, inl, inr, ⊎_elim, arith}
use Rattle.std.specs.List.{list_any}
use Rattle.std.specs.FinMap.Entries.{put, where_key}
use Rattle.std.proofs.Math.ListN.{length-append, length-take, length-drop, length-replicate}
use Rattle.std.proofs.lemmas.Bool.{cases_eq}
use Rattle.pv_model.specs.declared.call.Call.{Call}
use Rattle.pv_model.specs.declared.call.Call.TheVariants as TheCall
use Rattle.pv_model.specs.declared.call.Whence.{Whence}
use Rattle.pv_model.specs.declared.call.Whence.TheVariants.{Set, Current, End}
use Rattle.pv_model.specs.declared.errno.Errno.TheVariants.{ENOENT, ENOEXEC, EACCES, EINVAL, EISDIR, EFBIG, ENOSPC}
use Rattle.pv_model.specs.declared.follow.Follow.TheVariants.{Last}
use Rattle.pv_model.specs.declared.judgement.Judgement.TheVariants.{Allowed}
use Rattle.pv_model.specs.declared.open_flags.OpenFlags.{OpenFlags}
use Rattle.pv_model.specs.declared.perms.Perms.{Perms}
use Rattle.pv_model.specs.declared.place.Place.{Place}
use Rattle.pv_model.specs.Machine.{effect, Attempt, done, refused, after_walks, ◌>>=◌, ◌>>◌, give, refuse_if, demand, Bytes, within, next_name, seek_base, list_name, is_past_greatest, with_content_of, with_content, write_place, write_end, after_write, with_open_file, statuses, execve, with_program, executable_bytes, Effect, returns_bytes, answers, answers_bytes, with_room, node_of, descriptor_at, open_file, status, bytes_of, overwrite, resize, start_directory, end_of, collect, Numbered, at_number, with_number, least_free, is_too_long, fits, OpenFile, Program, Process, State, reads, writes, with_process, with_tree, place_found, read_by_descriptor, read_by_execve, Node, directory_node, file_node, link_node, Tree, node_at, entries_at, is_directory_at, with_node, with_entry, without_entry, new_number, with_new_node, judgement, Walk, execve_walk, walk, judge, without_descriptor, with_file}
use Rattle.pv_model.specs.Touch.{change_by_descriptor, report_by_descriptor, report_by_place}
use Rattle.pv_laws_trees.proofs.DirectoryEntries.{by_name, is_other}
use Rattle.pv_laws_states.proofs.CallRemainders
use Rattle.pv_laws_access.proofs.CallEffects.{first-place}
use Rattle.pv_laws_access.specs.Justice.{ReadsBytes, asks_size}
use Rattle.pv_laws_access.proofs.SimilarTrees.{GoesByLength, IsExact, IsFine, AreNear, near-at, near-other, near-set, near-file, with_nodes, entries-near, directory-near, resolve-near, judgement-near, target-near, ancestors-near, status-near, long-near, new-near, near_state, IsNear, near-collect, fits-near, too_long-near}
use Rattle.pv_laws_states.proofs.RelatedAttempts.{KeptByAll, kept-by-checks, demanded, all-bind, all-then}
use Rattle.pv_laws_states.proofs.RelatedCalls.{AreNodesAlike, AreOnSame, both-have, opened-same, RespectsFiles, Respects, call-both}
use Rattle.pv_laws_states.proofs.RespectedParts.{walked-alike, twice-alike, pledge-both, unveil-both}
use Rattle.pv_model.specs.Walks.{stat_walk, lstat_walk}
use Rattle.pv_model.specs.Calls.Descriptors.{with_bytes_written}

over-length : (old : Bytes) (at : ℕ) (new : Bytes) → length (overwrite old at new) ≡ min at (length old + (at - length old)) + length new + (length old - (at + length new))
over-length old at new = simp (length-append, length-take, length-drop, length-replicate)

pub size-length : (old : Bytes) (n : ℕ) → length (resize old n) ≡ n
size-length old n = let long : length (resize old n) ≡ min n (length old) + (n - length old) = simp (length-append, length-take, length-replicate) in omega (arith, long)

module _ (size : ℕ → ℕ) (fine : IsFine size) where
  -- ---- similar attempts

  abbrev pub AreNearBy : ℕ → Attempt Effect → Attempt Effect → Type 0
  AreNearBy f (done w (a, r)) (done v (b, q)) = (w ≡ v) × (r ≡ q) × IsNear size f a b
  AreNearBy f (refused w e c) (refused v g d) = (w ≡ v) × (e ≡ g) × (c ≡ d)
  AreNearBy f _ _ = ⊥

  module _ (f : ℕ) where
    abbrev By : Attempt Effect → Attempt Effect → Type 0
    By = AreNearBy f

    near-after : (n : ℕ) (a b : Attempt Effect) → By a b → By (after_walks n a) (after_walks n b)
    near-after n (done w (x, r)) (done v (y, q)) is = (ap (λ k. n + k) is.0, is.1, is.2)
    near-after n (done w (x, r)) (refused v g d) is = absurd is
    near-after n (refused w e c) (done v (y, q)) is = absurd is
    near-after n (refused w e c) (refused v g d) is = (ap (λ k. n + k) is.0, is.1, is.2)

    -- the check for room, as two conditions
    abbrev step : ℕ → State → Bool → Bool → Attempt Effect
    step n z long fit = (refuse_if EFBIG long >> (refuse_if ENOSPC (not fit) >> give z)) >>= (λ roomy. answers roomy n)

    near-room : (a b : State) (n : ℕ) → IsNear size f a b → By (with_room a >>= (λ roomy. answers roomy n)) (with_room b >>= (λ roomy. answers roomy n))
    near-room a b n near = subst (λ y. By (with_room a >>= (λ roomy. answers roomy n)) (with_room y >>= (λ roomy. answers roomy n))) (sym near.rest) whole
      where
        by : (z : State) → IsNear size f a z → (long fit : Bool) → By (step n a long fit) (step n z long fit)
        by z is true fit = (refl, refl, refl)
        by z is false true = (refl, refl, is)
        by z is false false = (refl, refl, refl)

        whole : By (with_room a >>= (λ roomy. answers roomy n)) (with_room (near_state a b.tree.nodes) >>= (λ roomy. answers roomy n))
        whole =
            let collected = near-collect size f a b.tree.nodes near.nodes in
            let tree : (collect (near_state a b.tree.nodes)).tree ≡ with_nodes (collect a).tree (collect (near_state a b.tree.nodes)).tree.nodes = ap (λ (z : State). z.tree) collected.rest in
            let long : is_too_long (collect (near_state a b.tree.nodes)).tree ≡ is_too_long (collect a).tree = ap is_too_long tree ∙ too_long-near size fine f (collect a).tree (collect (near_state a b.tree.nodes)).tree.nodes collected.nodes in
            let fit : fits (collect (near_state a b.tree.nodes)).tree ≡ fits (collect a).tree = ap fits tree ∙ fits-near size fine f (collect a).tree (collect (near_state a b.tree.nodes)).tree.nodes collected.nodes in
            subst (λ l. By (step n a (is_too_long (collect a).tree) (fits (collect a).tree)) (step n (near_state a b.tree.nodes) l (fits (collect (near_state a b.tree.nodes)).tree))) (sym long)
            (subst (λ k. By (step n a (is_too_long (collect a).tree) (fits (collect a).tree)) (step n (near_state a b.tree.nodes) (is_too_long (collect a).tree) k)) (sym fit)
            (by (near_state a b.tree.nodes) (record { nodes = near.nodes; rest = refl }) (is_too_long (collect a).tree) (fits (collect a).tree)))

  -- ---- trees changed in the same way

  near-entry : (f : ℕ) (t : Tree) (ys : Numbered Node) → AreNear size f t.nodes ys → (d : ℕ) (name : Bytes) (n : ℕ) → AreNear size f (with_entry t d name n).nodes (with_entry (with_nodes t ys) d name n).nodes
  near-entry f t ys near d name n =
      subst (λ es. AreNear size f (with_entry t d name n).nodes (with_number ys d (directory_node (put by_name name n es)))) (sym (entries-near size f t ys near d))
      (near-set size f t.nodes ys d (directory_node (put by_name name n (entries_at t d))) near)

  near-without : (f : ℕ) (t : Tree) (ys : Numbered Node) → AreNear size f t.nodes ys → (d : ℕ) (name : Bytes) → AreNear size f (without_entry t d name).nodes (without_entry (with_nodes t ys) d name).nodes
  near-without f t ys near d name =
      subst (λ es. AreNear size f (without_entry t d name).nodes (with_number ys d (directory_node (where_key by_name (is_other name) es)))) (sym (entries-near size f t ys near d))
      (near-set size f t.nodes ys d (directory_node (where_key by_name (is_other name) (entries_at t d))) near)

  module _ (f : ℕ) (t : Tree) (ys : Numbered Node) (near : AreNear size f t.nodes ys) (g : ℕ) (F : Bytes → Bytes)
      (even : g ≡ f → (a b : Bytes) → size (length b) ≡ size (length a) → size (length (F b)) ≡ size (length (F a))) where
    abbrev changed : Option Node → Tree
    changed o = with_content_of t g o (F (bytes_of o))

    abbrev changed' : Option Node → Tree
    changed' o = with_content_of (with_nodes t ys) g o (F (bytes_of o))

    abbrev Goal : Option Node → Option Node → Type 0
    Goal o p = AreNear size f (changed o).nodes (changed' p).nodes × (changed' p ≡ with_nodes (changed o) (changed' p).nodes)

    both : (o : Option Node) → Goal o o
    both None = (near, refl)
    both (Some (directory_node es)) = (near, refl)
    both (Some (link_node text)) = (near, refl)
    both (Some (file_node executable bytes)) = (near-set size f t.nodes ys g (file_node executable (F bytes)) near, refl)

    as_same : node_at (with_nodes t ys) g ≡ node_at t g → Goal (node_at t g) (node_at (with_nodes t ys) g)
    as_same same = subst (λ p. Goal (node_at t g) p) (sym same) (both (node_at t g))

    as_files : g ≡ f → (executable : Bool) (old new : Bytes) → node_at t g ≡ Some (file_node executable old) → node_at (with_nodes t ys) g ≡ Some (file_node executable new) → size (length new) ≡ size (length old)
        → Goal (node_at t g) (node_at (with_nodes t ys) g)
    as_files here executable old new at is long =
        subst (λ o. Goal o (node_at (with_nodes t ys) g)) (sym at)
        (subst (λ p. Goal (Some (file_node executable old)) p) (sym is) (
          subst (λ n. AreNear size f (with_number t.nodes n (file_node executable (F old))) (with_number ys n (file_node executable (F new)))) (sym here)
              (near-file size f t.nodes ys executable (F old) (F new) (file_node executable old) (even here old new long) (ap (at_number t.nodes) (sym here) ∙ at) near),
          refl,
        ))

    -- the bytes of a file, changed in the same way
    near-content : Goal (node_at t g) (node_at (with_nodes t ys) g)
    near-content =
        ⊎_elim
        (λ here. ⊎_elim (λ same. as_same (sym same)) (λ files. as_files here files.0 files.1 files.2 files.3 files.4 files.5) (near-at size f t.nodes ys near g))
        (λ other. as_same (near-other size f t.nodes ys near g other)) (cases_eq g f)

  module _ (f : ℕ) (s : State) (ys : Numbered Node) (near : AreNear size f s.tree.nodes ys) (pid : ℕ) (me : Process) where
    abbrev u : State
    u = near_state s ys

    abbrev B : Attempt Effect → Attempt Effect → Type 0
    B = AreNearBy f

    abbrev dir-near : (n : ℕ) → is_directory_at u.tree n ≡ is_directory_at s.tree n
    dir-near n = directory-near size f s.tree ys near n

    -- ---- a condition holds, or the attempts are similar

    abbrev Or : Type 0 → Attempt Effect → Attempt Effect → Type 0
    Or X a b = X ⊎ B a b

    or-after : (X : Type 0) (n : ℕ) (a b : Attempt Effect) → Or X a b → Or X (after_walks n a) (after_walks n b)
    or-after X n a b is = ⊎_elim (λ is. inl is) (λ by. inr (near-after f n a b by)) is

    all : (X : Type 0) → KeptByAll (Or X)
    all X = record { after = or-after X; refuses = λ n e c. inr (refl, refl, refl) }

    reported : (n : ℕ) → (n ≡ f → IsExact size) → B (answers_bytes s 0 (status s.tree n)) (answers_bytes u 0 (status u.tree n))
    reported n exact = (refl, ap (returns_bytes 0) (sym (status-near size f s.tree ys near n exact)), record { nodes = near; rest = refl })

    -- ---- trees

    near-tree : (v w : Tree) (n : ℕ) → AreNear size f v.nodes w.nodes → w ≡ with_nodes v w.nodes → B (with_room (with_tree s v) >>= (λ roomy. answers roomy n)) (with_room (with_tree u w) >>= (λ roomy. answers roomy n))
    near-tree v w n is rest = near-room f (with_tree s v) (with_tree u w) n (record { nodes = is; rest = ap (with_tree s) rest })

    near-new : (p : ℕ × Bytes) (node : Node) → AreNear size f (with_new_node s.tree p.0 p.1 node).nodes (with_new_node u.tree p.0 p.1 node).nodes
    near-new p node =
        let m = new_number s.tree in
        subst (λ k. AreNear size f (with_new_node s.tree p.0 p.1 node).nodes (with_entry (with_node u.tree k node) p.0 p.1 k).nodes) (sym (new-near size f s.tree ys near))
        (near-entry f (with_node s.tree m node) (with_number ys m node) (near-set size f s.tree.nodes ys m node near) p.0 p.1 m)

    near-less : (p : ℕ × Bytes) → B (CallRemainders.less_3 s pid me p) (CallRemainders.less_3 u pid me p)
    near-less p = (refl, refl, record { nodes = near-without f s.tree ys near p.0 p.1; rest = refl })

    -- ---- descriptors

    seek-near : (d by : ℤ) (file : OpenFile) (whence : Whence) → (asks_size (TheCall.Lseek d by whence) ≡ true → file.node ≡ f → IsExact size) → seek_base u pid me file whence ≡ seek_base s pid me file whence
    seek-near d by file Set exact = refl
    seek-near d by file Current exact = refl
    seek-near d by file End exact = long-near size f s.tree ys near file.node (exact refl)

    listed : (k : ℕ) (file : OpenFile) (o : Option Bytes) → B (list_name s pid me k file o) (list_name u pid me k file o)
    listed k file None = (refl, refl, record { nodes = near; rest = refl })
    listed k file (Some name) = (refl, refl, record { nodes = near; rest = refl })

    -- ---- bytes

    place-near : (file : OpenFile) → (file.node ≡ f → IsExact size) → write_place u pid me file ≡ write_place s pid me file
    place-near file exact = ap (λ n. if file.append then n else file.offset) (long-near size f s.tree ys near file.node exact)

    end-near : (file : OpenFile) → (file.node ≡ f → IsExact size) → (count : ℕ) → write_end u pid me file count ≡ write_end s pid me file count
    end-near file exact zero = refl
    end-near file exact (suc n) = ap (λ k. k + suc n) (place-near file exact)

    over-size : (at : ℕ) (new : Bytes) → IsExact size → (a b : Bytes) → size (length b) ≡ size (length a) → size (length (overwrite b at new)) ≡ size (length (overwrite a at new))
    over-size at new exact a b same =
        ap size (over-length b at new ∙ ap (λ m. min at (m + (at - m)) + length new + (m - (at + length new))) (exact (length b) (length a) same) ∙ sym (over-length a at new))

    written-near : (k : ℕ) (file : OpenFile) → (file.node ≡ f → IsExact size) → (count : ℕ) → IsNear size f (after_write s pid me k file count) (after_write u pid me k file count)
    written-near k file exact zero = record { nodes = near; rest = refl }
    written-near k file exact (suc n) =
        let bytes = take (suc n) me.buffer in
        subst (λ at. IsNear size f (after_write s pid me k file (suc n)) (with_bytes_written u pid me k file at bytes)) (sym (place-near file exact))
        (let both = near-content f s.tree ys near file.node (λ old. overwrite old (write_place s pid me file) bytes) (λ here. over-size (write_place s pid me file) bytes (exact here)) in
        record { nodes = both.0; rest = ap (λ (t : Tree). with_file (with_tree s t) k (record file { offset = write_place s pid me file + length bytes })) both.1 })

    -- ---- open

    near-opened : (g : OpenFlags) (n : ℕ) (v w : Tree) → AreNear size f v.nodes w.nodes → w ≡ with_nodes v w.nodes → B (CallRemainders.open_7 s pid me (with_open_file s pid me g n v)) (CallRemainders.open_7 u pid me (with_open_file u pid me g n w))
    near-opened g n v w is rest =
        near-room f (with_open_file s pid me g n v) (with_open_file u pid me g n w) (least_free me.descriptors)
        (record { nodes = is; rest = ap (λ (t : Tree). with_open_file s pid me g n t) rest })

    -- a file that an open truncates or not
    near-truncated : (g : OpenFlags) (n : ℕ) (b : Bool)
        → B (CallRemainders.open_7 s pid me (with_open_file s pid me g n (if b then with_content s.tree n [] else s.tree))) (CallRemainders.open_7 u pid me (with_open_file u pid me g n (if b then with_content u.tree n [] else u.tree)))
    near-truncated g n true = let both = near-content f s.tree ys near n (λ old. []) (λ here a b same. refl) in near-opened g n (with_content s.tree n []) (with_content u.tree n []) both.0 both.1
    near-truncated g n false = near-opened g n s.tree u.tree near refl

    near-created : (g : OpenFlags) (p : ℕ × Bytes)
        → B (CallRemainders.open_7 s pid me (with_open_file s pid me g (new_number s.tree) (with_new_node s.tree p.0 p.1 (file_node false [])))) (CallRemainders.open_7 u pid me (with_open_file u pid me g (new_number u.tree) (with_new_node u.tree p.0 p.1 (file_node false []))))
    near-created g p =
        let node : Node = file_node false [] in
        subst (λ k. B (CallRemainders.open_7 s pid me (with_open_file s pid me g (new_number s.tree) (with_new_node s.tree p.0 p.1 node))) (CallRemainders.open_7 u pid me (with_open_file u pid me g k (with_new_node u.tree p.0 p.1 node))))
        (sym (new-near size f s.tree ys near)) (near-opened g (new_number s.tree) (with_new_node s.tree p.0 p.1 node) (with_new_node u.tree p.0 p.1 node) (near-new p node) refl)

    -- ---- the parts of a call, unless it reads the bytes of the file

    module _ (program_of : Bytes → Option Program) (call : Call) (exact : GoesByLength s me call f → IsExact size) where
      abbrev A : Attempt Effect → Attempt Effect → Type 0
      A = Or (ReadsBytes s me call f)

      abbrev C : List Walk → Attempt Effect → Attempt Effect → Type 0
      C ws = A

      kept : KeptByAll A
      kept = all (ReadsBytes s me call f)

      exact-as : (c : Call) → call ≡ c → GoesByLength s me c f → IsExact size
      exact-as c is goes = exact (subst (λ c. GoesByLength s me c f) (sym is) goes)

      own : (q : Process) (n : ℕ) → A (answers (with_process s pid q) n) (answers (with_process u pid q) n)
      own q n = inr (refl, refl, record { nodes = near; rest = refl })

      judges : (place : Place) (needed : Perms) → judgement u.tree me.table place needed ≡ judgement s.tree me.table place needed
      judges = judgement-near size f s.tree ys near me.table

      walked : (w : Walk) (g h : Place → Attempt Effect) → ((place : Place) → end_of s me w ≡ Ok place → judgement s.tree me.table place w.needed ≡ Allowed → A (g place) (h place))
          → A (walk s me w >>= (λ place. judge s me w place >> g place)) (walk u me w >>= (λ place. judge u me w place >> h place))
      walked w = walked-alike A kept s u pid me me judges w (resolve-near size f s.tree ys near w.follow (start_directory s me w.start w.path) w.path)

      -- the program that execve reads is the same, unless the file has it
      executed : (path : Bytes) → call ≡ TheCall.Execve path → A (execve s pid me program_of path) (execve u pid me program_of path)
      executed path is =
          walked (execve_walk path) (CallRemainders.execve_1 s pid me program_of) (CallRemainders.execve_1 u pid me program_of) (λ place found allowed.
          demanded C (kept-by-checks A kept) [] ENOENT (node_of place) (node_of place) refl (CallRemainders.execve_2 s pid me program_of) (CallRemainders.execve_2 u pid me program_of) (λ n there.
          ⊎_elim
          (λ here. inl (subst (λ c. ReadsBytes s me c f) (sym is) (refl, read_by_execve path place f refl (first-place (λ (w : Walk). place_found (end_of s me w)) (execve_walk path) [] place (ap place_found found), allowed) (there ∙ ap (λ k. Some k) here))))
          (λ other.
          all-bind A kept (demand EACCES (executable_bytes (node_at s.tree n))) (demand EACCES (executable_bytes (node_at u.tree n))) (ap (λ o. demand EACCES (executable_bytes o)) (near-other size f s.tree.nodes ys near n other))
          (CallRemainders.execve_3 s pid me program_of) (CallRemainders.execve_3 u pid me program_of) (λ bytes.
          all-bind A kept (demand ENOEXEC (program_of bytes)) (demand ENOEXEC (program_of bytes)) refl (CallRemainders.execve_4 s pid me) (CallRemainders.execve_4 u pid me) (λ program. own (with_program s pid me program) 0)))
          (cases_eq n f)))

      -- the bytes that a read returns are the same, unless they are the file's
      taken : (k : ℕ) (file : OpenFile) (count : ℕ) → node_at u.tree file.node ≡ node_at s.tree file.node → A (CallRemainders.read_3 s pid me k file count) (CallRemainders.read_3 u pid me k file count)
      taken k file count same =
          subst (λ (bytes : Bytes). A (CallRemainders.read_3 s pid me k file count) (answers_bytes (with_file u k (record file { offset = file.offset + length bytes })) (length bytes) bytes))
          (ap (λ o. take count (drop file.offset (bytes_of o))) (sym same)) (inr (refl, refl, record { nodes = near; rest = refl }))

      by-node : (d n : ℤ) → call ≡ TheCall.Read d n → (v : ℕ × OpenFile) → open_file s me d ≡ Some v → reads v.1.mode ≡ true → (count : ℕ) → A (CallRemainders.read_2 s pid me v.0 v.1 count) (CallRemainders.read_2 u pid me v.0 v.1 count)
      by-node d n is v here may count =
          ⊎_elim
          (λ own. inl (subst (λ c. ReadsBytes s me c f) (sym is) (refl, read_by_descriptor f (d, v.0, v.1, refl, here, own, may))))
          (λ other.
          all-then A kept (refuse_if EISDIR (is_directory_at s.tree v.1.node)) (refuse_if EISDIR (is_directory_at u.tree v.1.node)) (ap (refuse_if EISDIR) (dir-near v.1.node)) (CallRemainders.read_3 s pid me v.0 v.1 count) (CallRemainders.read_3 u pid me v.0 v.1 count)
          (taken v.0 v.1 count (near-other size f s.tree.nodes ys near v.1.node other)))
          (cases_eq v.1.node f)

      files : RespectsFiles C program_of s u pid me me call
      files = record {
        opened = λ d. both-have AreOnSame (open_file s me d) (λ v is. record { node = refl; mode = refl });
        full = refl;
        reads = λ d n is v w opened may count. opened-same C program_of s u pid me me call (λ v w. A (CallRemainders.read_2 s pid me v.0 v.1 count) (CallRemainders.read_2 u pid me w.0 w.1 count)) d v w refl opened (by-node d n is v opened.here may count);
        writes = λ d n is v w opened may count few. opened-same C program_of s u pid me me call (λ v w. A (CallRemainders.write_2 s pid me v.0 v.1 count) (CallRemainders.write_2 u pid me w.0 w.1 count)) d v w refl opened
            (let exact' : v.1.node ≡ f → IsExact size = λ here. exact-as (TheCall.Write d n) is (inr (refl, change_by_descriptor f (d, v.0, v.1, refl, opened.here, here, may))) in
            all-then A kept (refuse_if EFBIG (is_past_greatest s.tree (write_end s pid me v.1 count))) (refuse_if EFBIG (is_past_greatest u.tree (write_end u pid me v.1 count)))
            (ap (λ k. refuse_if EFBIG (is_past_greatest s.tree k)) (end-near v.1 exact' count)) (CallRemainders.write_3 s pid me v.0 v.1 count) (CallRemainders.write_3 u pid me v.0 v.1 count)
            (inr (near-room f (after_write s pid me v.0 v.1 count) (after_write u pid me v.0 v.1 count) count (written-near v.0 v.1 exact' count))));
        seeks = λ d by whence is v w opened. opened-same C program_of s u pid me me call (λ v w. A (CallRemainders.lseek_2 s pid me by whence v.0 v.1) (CallRemainders.lseek_2 u pid me by whence w.0 w.1)) d v w refl opened
            (all-bind A kept (demand EINVAL (within 2147483647 (pos (seek_base s pid me v.1 whence) +ℤ by))) (demand EINVAL (within 2147483647 (pos (seek_base u pid me v.1 whence) +ℤ by)))
            (ap (λ n. demand EINVAL (within 2147483647 (pos n +ℤ by))) (seek-near d by v.1 whence (λ asks here. exact-as (TheCall.Lseek d by whence) is (inl (asks, report_by_descriptor f (d, v.0, v.1, refl, opened.here, here, refl))))))
            (CallRemainders.lseek_3 s pid me v.0 v.1) (CallRemainders.lseek_3 u pid me v.0 v.1) (λ offset. inr (refl, refl, record { nodes = near; rest = refl })));
        reports = λ d is v w opened. opened-same C program_of s u pid me me call (λ v w. A (answers_bytes s 0 (status s.tree v.1.node)) (answers_bytes u 0 (status u.tree w.1.node))) d v w refl opened
            (inr (reported v.1.node (λ here. exact-as (TheCall.Fstat d) is (inl (refl, report_by_descriptor f (d, v.0, v.1, refl, opened.here, here, refl))))));
        cuts = λ d n is v w opened size'. opened-same C program_of s u pid me me call (λ v w. A (CallRemainders.ftruncate_3 s pid me v.1 size') (CallRemainders.ftruncate_3 u pid me w.1 size')) d v w refl opened
            (all-then A kept (refuse_if EFBIG (is_past_greatest s.tree size')) (refuse_if EFBIG (is_past_greatest s.tree size')) refl (CallRemainders.ftruncate_4 s pid me v.1 size') (CallRemainders.ftruncate_4 u pid me v.1 size')
            (let both = near-content f s.tree ys near v.1.node (λ old. resize old size') (λ here a b same. ap size (size-length b size' ∙ sym (size-length a size'))) in
            inr (near-tree (with_content s.tree v.1.node (resize (bytes_of (node_at s.tree v.1.node)) size')) (with_content u.tree v.1.node (resize (bytes_of (node_at u.tree v.1.node)) size')) 0 both.0 both.1)));
        lists = λ d is v w opened. opened-same C program_of s u pid me me call (λ v w. A (CallRemainders.getdents_2 s pid me v.0 v.1) (CallRemainders.getdents_2 u pid me w.0 w.1)) d v w refl opened
            (subst (λ (es : List (Bytes × ℕ)). A (CallRemainders.getdents_2 s pid me v.0 v.1) (list_name u pid me v.0 v.1 (next_name v.1.listed es))) (sym (entries-near size f s.tree ys near v.1.node))
            (inr (listed v.0 v.1 (next_name v.1.listed (entries_at s.tree v.1.node)))));
      }

      alike : (n : ℕ) → AreNodesAlike (node_at s.tree n) (node_at u.tree n)
      alike n = ⊎_elim (λ same. inl (sym same)) (λ files. inr (files.0, files.1, files.2, files.3, files.4)) (near-at size f s.tree.nodes ys near n)

      respects : Respects C program_of s u pid me me call
      respects = record {
        checks = kept-by-checks A kept;
        processes = record {
          left = λ r. inr (refl, refl, record { nodes = near; rest = refl });
          parent = refl;
          count = refl;
          last = refl;
          forks = inr (refl, refl, record { nodes = near; rest = refl });
          childless = refl;
          statuses = refl;
          reaps = λ n bytes. inr (refl, refl, record { nodes = near; rest = refl });
        };
        own = record {
          enters = λ n. own (record me { directory = n }) 0;
          closes = λ d. own (record me { descriptors = without_descriptor me.descriptors d }) 0;
          free = refl;
          duplicates = λ d. both-have (λ v w. (n : ℕ) → A (answers (with_process s pid (record me { descriptors = with_number me.descriptors n (record { file = v.file; close_on_exec = false }) })) n)
              (answers (with_process u pid (record me { descriptors = with_number me.descriptors n (record { file = w.file; close_on_exec = false }) })) n)) (descriptor_at me d) (λ v is n. own _ n);
          pledges = λ promises execpromises is. pledge-both A kept s u pid me me refl refl (λ a b. own (record me { promises = a; execpromises = b }) 0) promises execpromises;
          unveils = λ path permissions is. unveil-both A kept s u pid me me refl refl (resolve-near size f s.tree ys near Last me.directory) (target-near size f s.tree ys near) (own (record me { locked = true }) 0)
              (λ table. own (record me { table = Some table }) 0) path permissions;
          executes = executed;
        };
        files = files;
        tree = record {
          nodes = alike;
          contains = λ n d. ap (λ (ds : List ℕ). list_any (λ k. k == n) ds) (ancestors-near size f s.tree ys near d);
          walked = walked;
          walked_twice = twice-alike A s u pid me me walked;
          stats = λ path is place found allowed n there. inr (reported n (λ here. exact-as (TheCall.Stat path) is (inl (
            refl,
            report_by_place place f (first-place (λ (w : Walk). place_found (end_of s me w)) (stat_walk path) [] place (ap place_found found), allowed) (there ∙ ap (λ k. Some k) here),
          ))));
          lstats = λ path is place found allowed n there. inr (reported n (λ here. exact-as (TheCall.Lstat path) is (inl (
            refl,
            report_by_place place f (first-place (λ (w : Walk). place_found (end_of s me w)) (lstat_walk path) [] place (ap place_found found), allowed) (there ∙ ap (λ k. Some k) here),
          ))));
          unlinks = λ p. inr (near-less p);
        };
        room = record {
          makes = λ w node walks here bare place found free p named. inr (near-tree (with_new_node s.tree p.0 p.1 node) (with_new_node u.tree p.0 p.1 node) 0 (near-new p node) refl);
          links = λ path new is place found free n p named. inr (near-tree (with_entry s.tree p.0 p.1 n) (with_entry u.tree p.0 p.1 n) 0 (near-entry f s.tree ys near p.0 p.1 n) refl);
          moves = λ path new is old_place new_place old_found found n p q there old_named named other.
              inr (near-tree (with_entry (without_entry s.tree p.0 p.1) q.0 q.1 n) (with_entry (without_entry u.tree p.0 p.1) q.0 q.1 n) 0
              (near-entry f (without_entry s.tree p.0 p.1) (without_entry u.tree p.0 p.1).nodes (near-without f s.tree ys near p.0 p.1) q.0 q.1 n) refl);
          opens = λ start path g place it n is. inr (near-truncated g n g.truncate);
          creates = λ start path g place it p named is. inr (near-created g p);
        };
      }

      pub near-effect : A (effect program_of s pid me call) (effect program_of u pid me call)
      near-effect = call-both C program_of s u pid me me call respects
