-- The calls that change only their own process preserve validity.
use Rattle.std.proofs.Common.{◌≡◌, ℕ, zero, suc, ◌<◌, ◌≤◌, ℤ, pos, negsuc, true, false, cond, not, ◌&&◌, if◌then◌else◌, nat_le, [], ◌∷◌, ◌++◌, map, length, Option, None, Some, is_some, refl, ap, sym, ◌∙◌, ⊎_elim, arith}
use Rattle.std.specs.List.{list_all}
use Rattle.std.proofs.Math.ListN.{length-append, length-set, length-replicate}
use Rattle.std.proofs.lemmas.List.{length-map}
use Rattle.std.proofs.lemmas.Bool.{not-false, and_parts, and_from, leb-true, leb-false, le-leb, cases_eq}
use Rattle.pv_model.specs.declared.place.Place.{Place}
use Rattle.pv_model.specs.declared.perms.Perms.{Perms}
use Rattle.pv_model.specs.declared.follow.Follow.{Follow}
use Rattle.pv_model.specs.declared.follow.Follow.TheVariants.{Last, Keep}
use Rattle.pv_model.specs.declared.errno.Errno.TheVariants.{EPERM, ENOENT, E2BIG, ENOEXEC, EBADF, EACCES, ENOTDIR, EINVAL, EMFILE}
use Rattle.pv_model.specs.declared.outcome.Cause.TheVariants.{Unveil as ByUnveil}
use Rattle.pv_model.specs.Machine.{Promises, narrow_promises, is_lenient, Attempt, refused, ◌>>=◌, ◌>>◌, give, refuse, refuse_if, demand, Bytes, is_empty, little_endian, with_descriptor, is_number, within, close, dup, dup2, fstat, fchdir, directory_of, link_text, chdir, stat_at, readlink, execve, with_program, executable_bytes, asked_promises, unless_refused, entries_of_table, add_target, refuse_if_locked, pledge, unveil, Effect, answers, answers_bytes, returns_bytes, walk_from, node_of, descriptor_at, open_file, status, size_of, Numbered, at_number, with_number, without_number, least_free, covers, permission_r, permission_x, read_permissions, OpenFile, Descriptor, Program, Process, State, process_at, with_process, Node, directory_node, file_node, link_node, node_at, is_directory_at, Table, entry_for, permissions_at, with_permissions, target_of, from_here}
use Rattle.pv_model.specs.Calls.Descriptors.{with_duplicate}
use Rattle.pv_model.specs.Calls.Processes.{exit, getpid, getppid, descriptor_after_exec}
use Rattle.pv_model.specs.Calls.Restraints.{add_table_entry}
use Rattle.pv_model.specs.Effect.{status_of, sort_number}
use Rattle.pv_model.specs.declared.target.Target.{Target}
use Rattle.pv_laws_states.specs.States.{is_byte, are_bytes, is_text_or_none, is_target, is_table, EncodesPrograms, IsRunning, IsValid}
use Rattle.pv_laws_states.proofs.AttemptValues.{Leads, leads-bind, leads-then, leads-refuse_if, leads-demand, leads-walk, leads-place, leads-any}
use Rattle.pv_laws_states.proofs.ReferenceMembers.{find_number-list_all, live-found}
use Rattle.pv_laws_trees.proofs.NumberedMaps.{length-with_number, length-without_number, with_number-same, with_number-other, without_number-same, without_number-other}
use Rattle.pv_laws_trees.proofs.WalkPlaces.{link-text}
use Rattle.pv_laws_trees.proofs.Trees.{sound}
use Rattle.pv_laws_trees.proofs.ImageBytes.{length-little_endian}
use Rattle.pv_laws_states.proofs.ValidReplies.{IsEffect}
use Rattle.pv_laws_states.proofs.ProcessInsides.{IsReady, list_all-set, list_all-both, list_all-replicate, bytes-little_endian}
use Rattle.pv_laws_states.proofs.ChangedStates.{ready, ready-process, my-running, my-placed, running-like, resolve-fine, target-fine}

-- a number within a limit
pub within-limit : (limit : ℕ) (n : ℤ) (k : ℕ) → within limit n ≡ Some k → k ≤ limit
within-limit limit (pos n) k is =
    elim (nat_le n limit) as (λ b. nat_le n limit ≡ b → cond b (Some n) None ≡ Some k → k ≤ limit) [
      | true ↦ λ low some. let same : n ≡ k = cc some in omega (arith, leb-true n limit low)
      | false ↦ λ high none. cc
    ] refl is
within-limit limit (negsuc n) k is = cc

-- the descriptors that an execve keeps
pub preserved_descriptor : (ds : Numbered Descriptor) (d : ℕ) (x : Descriptor) → at_number (map descriptor_after_exec ds) d ≡ Some x → at_number ds d ≡ Some x
preserved_descriptor [] d x is = cc
preserved_descriptor (None ∷ ds) zero x is = cc
preserved_descriptor (Some y ∷ ds) zero x is = elim (y.close_on_exec) as (λ b. cond b None (Some y) ≡ Some x → Some y ≡ Some x) [ true ↦ λ none. cc | false ↦ λ some. some ] is
preserved_descriptor (o ∷ ds) (suc d) x is = preserved_descriptor ds d x is

module _ (s : State) (pid : ℕ) (me : Process) (whole : IsValid s) (at : process_at s pid ≡ Some me) where
  -- the caller's restraints or directory change, but not its inside
  abbrev stays_running : (q : Process) → q.program ≡ me.program → q.line ≡ me.line → q.registers ≡ me.registers → q.buffer ≡ me.buffer → IsRunning q
  stays_running q program line registers buffer = running-like me q program line registers buffer (my-running s pid me whole at)

  -- exit, getpid, getppid

  pub good-exit : (code : ℤ) → Leads (IsEffect s) (exit s pid me code)
  good-exit (pos code) = (refl, omega arith)
  good-exit (negsuc below) = (refl, omega arith)

  number_low : (k : ℕ) → is_some (process_at s k) ≡ true → k ≤ 2147483647
  number_low k is = by (process_at s k) refl is
    where
      by : (o : Option Process) → process_at s k ≡ o → is_some o ≡ true → k ≤ 2147483647
      by None none is = cc
      by (Some p) found is =
          let number = find_number-list_all (Rattle.pv_laws_states.specs.States.is_process_number s.last_process) k _ s.processes whole.processes.numbers (live-found s k p found) in
          omega (arith, leb-true k s.last_process (and_parts (nat_le 1 k) (nat_le k s.last_process) number).1, whole.processes.last.1)

  pub good-getpid : Leads (IsEffect s) (getpid s pid me)
  good-getpid = (ready s whole, number_low pid (ap is_some at))

  pub good-getppid : Leads (IsEffect s) (getppid s pid me)
  good-getppid = (
    ready s whole,
    ⊎_elim (λ none. omega arith) (λ has. number_low me.parent (whole.processes.parents pid _ (live-found s pid me at) has)) (cases_eq me.parent 0),
  )

  -- pledge and unveil

  module _ (promises execpromises : Option Bytes) where
    abbrev pledge_3 : Option Promises → Option Promises → Attempt Effect
    pledge_3 exec_asked preserved =
        unless_refused (narrow_promises (is_lenient me.promises) me.execpromises exec_asked)
        >>= (λ exec_preserved. answers (with_process s pid (record me { promises = preserved; execpromises = exec_preserved })) 0)

    abbrev pledge_2 : Option Promises → Option Promises → Attempt Effect
    pledge_2 asked exec_asked = unless_refused (narrow_promises (is_lenient me.promises) me.promises asked) >>= pledge_3 exec_asked

    abbrev pledge_1 : Option Promises → Attempt Effect
    pledge_1 asked = asked_promises execpromises >>= pledge_2 asked

    pub good-pledge : Leads (IsEffect s) (pledge s pid me promises execpromises)
    good-pledge =
        leads-bind (IsEffect s) (λ _. Unit {0}) (asked_promises promises) pledge_1 (leads-any (asked_promises promises)) (λ asked _.
        leads-bind (IsEffect s) (λ _. Unit {0}) (asked_promises execpromises) (pledge_2 asked) (leads-any (asked_promises execpromises)) (λ exec_asked _.
        leads-bind (IsEffect s) (λ _. Unit {0}) (unless_refused (narrow_promises (is_lenient me.promises) me.promises asked)) (pledge_3 exec_asked) (leads-any (unless_refused (narrow_promises (is_lenient me.promises) me.promises asked))) (λ preserved _.
        leads-bind (IsEffect s) (λ _. Unit {0}) (unless_refused (narrow_promises (is_lenient me.promises) me.execpromises exec_asked))
        (λ exec_preserved. answers (with_process s pid (record me { promises = preserved; execpromises = exec_preserved })) 0)
        (leads-any (unless_refused (narrow_promises (is_lenient me.promises) me.execpromises exec_asked))) (λ exec_preserved _. (
          ready-process s pid me whole at (record me { promises = preserved; execpromises = exec_preserved }) (stays_running (record me { promises = preserved; execpromises = exec_preserved }) refl refl refl refl)
              (let p = my-placed s pid me whole at in record { directory = p.directory; descriptors = p.descriptors; opens = p.opens; table = p.table }) refl,
          omega arith,
        )))))

  -- the table
  my_entries : is_table s.tree (Some (entries_of_table me.table)) ≡ true
  my_entries = by me.table (my-placed s pid me whole at).table
    where
      by : (o : Option Table) → is_table s.tree o ≡ true → is_table s.tree (Some (entries_of_table o)) ≡ true
      by None is = refl
      by (Some table) is = is

  entry_fine : (table : Table) (target : Target) (permissions : Perms) (o : Option ℕ) → is_table s.tree (Some table) ≡ true → is_target s.tree target ≡ true
      → Leads (λ t. is_table s.tree (Some t) ≡ true) (add_table_entry table target permissions o)
  entry_fine table target permissions (Some k) is fine =
      let parts = and_parts (nat_le (length table) 64) (list_all (λ e. is_target s.tree e.0) table) is in
      elim (covers (permissions_at table k) permissions) as (λ b. Leads (λ t. is_table s.tree (Some t) ≡ true) (if b then give (with_permissions table k target permissions) else refused 0 EPERM (ByUnveil (Some k)))) [
        | true ↦ and_from _ _ (ap (λ n. nat_le n 64) (length-set table k (target, permissions)) ∙ parts.0) (list_all-set (λ e. is_target s.tree e.0) table k (target, permissions) fine parts.1)
        | false ↦ tt
      ]
  entry_fine table target permissions None is fine =
      let parts = and_parts (nat_le (length table) 64) (list_all (λ e. is_target s.tree e.0) table) is in
      elim (nat_le 64 (length table)) as (λ b. nat_le 64 (length table) ≡ b → Leads (λ t. is_table s.tree (Some t) ≡ true) (if b then refuse E2BIG else give (table ++ (target, permissions) ∷ []))) [
        | true ↦ λ full. tt
        | false ↦ λ few. and_from _ _
            (le-leb (length (table ++ (target, permissions) ∷ [])) 64 (omega (arith, leb-false 64 (length table) few, length-append table ((target, permissions) ∷ []))))
            (list_all-both (λ e. is_target s.tree e.0) table ((target, permissions) ∷ []) parts.1 (and_from _ true fine refl))
      ] refl

  abbrev unveil_3 : Table → Attempt Effect
  unveil_3 table = answers (with_process s pid (record me { table = Some table })) 0

  abbrev unveil_2 : Perms → Place → Attempt Effect
  unveil_2 permissions place = add_target s pid me (target_of s.tree place) permissions >>= unveil_3

  abbrev unveil_1 : Bytes → Perms → Attempt Effect
  unveil_1 path permissions = refuse_if_locked me.locked >> (walk_from s me.directory Last path >>= unveil_2 permissions)

  pub good-unveil : (path permissions : Option Bytes) → is_text_or_none path ≡ true → Leads (IsEffect s) (unveil s pid me path permissions)
  good-unveil None None text = (
    ready-process s pid me whole at (record me { locked = true }) (stays_running (record me { locked = true }) refl refl refl refl)
        (let p = my-placed s pid me whole at in record { directory = p.directory; descriptors = p.descriptors; opens = p.opens; table = p.table }) refl,
    omega arith,
  )
  good-unveil None (Some permissions) text = tt
  good-unveil (Some path) None text = tt
  good-unveil (Some path) (Some permissions_text) text =
      leads-demand (IsEffect s) EINVAL (read_permissions permissions_text) (unveil_1 path) (λ permissions read.
      leads-then (IsEffect s) (refuse_if_locked me.locked) (walk_from s me.directory Last path >>= unveil_2 permissions) (
      leads-walk (IsEffect s) s me.directory Last path (unveil_2 permissions) (λ place found.
      leads-bind (IsEffect s) (λ t. is_table s.tree (Some t) ≡ true) (add_target s pid me (target_of s.tree place) permissions) unveil_3
      (entry_fine (entries_of_table me.table) (target_of s.tree place) permissions (entry_for (entries_of_table me.table) (target_of s.tree place)) my_entries
      (target-fine s.tree place (resolve-fine s.tree whole.tree Last me.directory path place (my-placed s pid me whole at).directory text found))) (λ table fine. (
        ready-process s pid me whole at (record me { table = Some table }) (stays_running (record me { table = Some table }) refl refl refl refl)
            (let p = my-placed s pid me whole at in record { directory = p.directory; descriptors = p.descriptors; opens = p.opens; table = fine }) refl,
        omega arith,
      )))))

  -- execve

  abbrev execve_4 : Program → Attempt Effect
  execve_4 program = answers (with_process s pid (with_program s pid me program)) 0

  abbrev execve_3 : (Bytes → Option Program) → Bytes → Attempt Effect
  execve_3 program_of bytes = demand ENOEXEC (program_of bytes) >>= execve_4

  abbrev execve_2 : (Bytes → Option Program) → ℕ → Attempt Effect
  execve_2 program_of n = demand EACCES (executable_bytes (node_at s.tree n)) >>= execve_3 program_of

  abbrev execve_1 : (Bytes → Option Program) → Place → Attempt Effect
  execve_1 program_of place = demand ENOENT (node_of place) >>= execve_2 program_of

  pub good-execve : (program_of : Bytes → Option Program) → EncodesPrograms program_of → (path : Bytes) → Leads (IsEffect s) (execve s pid me program_of path)
  good-execve program_of encodes path =
      leads-place (IsEffect s) s me me.directory Last path permission_x (execve_1 program_of) (λ place found.
      leads-demand (IsEffect s) ENOENT (node_of place) (execve_2 program_of) (λ n is.
      leads-demand (IsEffect s) EACCES (executable_bytes (node_at s.tree n)) (execve_3 program_of) (λ bytes file.
      leads-demand (IsEffect s) ENOEXEC (program_of bytes) execve_4 (λ program encoded. (
        ready-process s pid me whole at (with_program s pid me program)
            (record {
              program = encodes.encodes bytes program encoded;
              line = (omega arith, omega arith);
              registers = (refl, refl);
              buffer = (length-replicate {A = ℕ} 4096 0, list_all-replicate is_byte 4096 0 refl);
            })
            (let p = my-placed s pid me whole at in
            record {
              directory = p.directory;
              descriptors = length-map {B = Option Descriptor} me.descriptors descriptor_after_exec ∙ p.descriptors;
              opens = λ d x is. p.opens d x (preserved_descriptor me.descriptors d x is);
              table = elim (is_some me.execpromises) as (λ b. is_table s.tree (if b then me.table else None) ≡ true) [ true ↦ p.table | false ↦ refl ];
            }) refl,
        omega arith,
      )))))

  -- chdir, stat, readlink

  abbrev chdir_2 : ℕ → Attempt Effect
  chdir_2 n = refuse_if ENOTDIR (not (is_directory_at s.tree n)) >> answers (with_process s pid (record me { directory = n })) 0

  abbrev chdir_1 : Place → Attempt Effect
  chdir_1 place = demand ENOENT (node_of place) >>= chdir_2

  ready-directory : (n : ℕ) → is_directory_at s.tree n ≡ true → IsReady (with_process s pid (record me { directory = n }))
  ready-directory n dir =
      ready-process s pid me whole at (record me { directory = n }) (stays_running (record me { directory = n }) refl refl refl refl)
      (let p = my-placed s pid me whole at in record { directory = dir; descriptors = p.descriptors; opens = p.opens; table = p.table }) refl

  pub good-chdir : (path : Bytes) → Leads (IsEffect s) (chdir s pid me path)
  good-chdir path =
      leads-place (IsEffect s) s me me.directory Last path permission_r chdir_1 (λ place found.
      leads-demand (IsEffect s) ENOENT (node_of place) chdir_2 (λ n is.
      leads-refuse_if (IsEffect s) ENOTDIR (not (is_directory_at s.tree n)) (answers (with_process s pid (record me { directory = n })) 0) (λ dir.
      (ready-directory n (not-false (is_directory_at s.tree n) dir), omega arith))))

  -- the eight bytes of stat are bytes
  status-bytes : (n : ℕ) (o : Option Node) → (length (status_of n o) ≤ 4096) × (are_bytes (status_of n o) ≡ true)
  status-bytes n None = (omega arith, refl)
  status-bytes n (Some node) = (
    omega (arith, length-append (sort_number node ∷ 0 ∷ little_endian 2 n) (little_endian 4 (size_of node)), length-little_endian 2 n, length-little_endian 4 (size_of node)),
    list_all-both is_byte (sort_number node ∷ 0 ∷ little_endian 2 n) (little_endian 4 (size_of node))
        (and_from _ _ (sort_byte node) (and_from _ _ refl (bytes-little_endian 2 n))) (bytes-little_endian 4 (size_of node)),
  )
    where
      sort_byte : (node : Node) → is_byte (sort_number node) ≡ true
      sort_byte (directory_node es) = refl
      sort_byte (file_node false bytes) = refl
      sort_byte (file_node true bytes) = refl
      sort_byte (link_node text) = refl

  reported-status : (n : ℕ) → IsEffect s (s, returns_bytes 0 (status s.tree n))
  reported-status n = let both = status-bytes n (node_at s.tree n) in (ready s whole, omega arith, both.0, both.1)

  abbrev stat_1 : Place → Attempt Effect
  stat_1 place = demand ENOENT (node_of place) >>= (λ n. answers_bytes s 0 (status s.tree n))

  pub good-stat : (follow : Follow) (path : Bytes) → Leads (IsEffect s) (stat_at s pid me (from_here follow path permission_r))
  good-stat follow path =
      leads-place (IsEffect s) s me me.directory follow path permission_r stat_1 (λ place found.
      leads-demand (IsEffect s) ENOENT (node_of place) (λ n. answers_bytes s 0 (status s.tree n)) (λ n is. reported-status n))

  abbrev readlink_2 : ℕ → Attempt Effect
  readlink_2 n = demand EINVAL (link_text (node_at s.tree n)) >>= (λ text. answers_bytes s (length text) text)

  abbrev readlink_1 : Place → Attempt Effect
  readlink_1 place = demand ENOENT (node_of place) >>= readlink_2

  text_of : (n : ℕ) (text : Bytes) → link_text (node_at s.tree n) ≡ Some text → (length text ≤ 1023) × (are_bytes text ≡ true)
  text_of n text is = by (node_at s.tree n) refl is
    where
      by : (o : Option Node) → node_at s.tree n ≡ o → link_text o ≡ Some text → (length text ≤ 1023) × (are_bytes text ≡ true)
      by None found is = cc
      by (Some (directory_node es)) found is = cc
      by (Some (file_node executable bytes)) found is = cc
      by (Some (link_node old)) found is =
          let same : old ≡ text = cc is in
          let here : node_at s.tree n ≡ Some (link_node text) = found ∙ ap (λ x. Some (link_node x)) same in (
            leb-true (length text) 1023 (and_parts (not (is_empty text)) (nat_le (length text) 1023) (and_parts (not (is_empty text) && nat_le (length text) 1023) _ (link-text s.tree (sound s.tree whole.tree.well_formed) n text here)).0).1,
            whole.tree.bytes n (link_node text) here,
          )

  pub good-readlink : (path : Bytes) → Leads (IsEffect s) (readlink s pid me path)
  good-readlink path =
      leads-place (IsEffect s) s me me.directory Keep path permission_r readlink_1 (λ place found.
      leads-demand (IsEffect s) ENOENT (node_of place) readlink_2 (λ n is.
      leads-demand (IsEffect s) EINVAL (link_text (node_at s.tree n)) (λ text. answers_bytes s (length text) text) (λ text link.
      let both = text_of n text link in (ready s whole, omega (arith, both.0), omega (arith, both.0), both.1))))

  -- descriptors

  pub my-descriptor : (d : ℤ) (x : Descriptor) → descriptor_at me d ≡ Some x → is_some (at_number s.files x.file) ≡ true
  my-descriptor (pos d) x is = (my-placed s pid me whole at).opens d x is
  my-descriptor (negsuc d) x is = cc

  pub good-fstat : (d : ℤ) → Leads (IsEffect s) (fstat s pid me d)
  good-fstat d = leads-demand (IsEffect s) EBADF (open_file s me d) (λ (k, file). answers_bytes s 0 (status s.tree file.node)) (λ f is. reported-status f.1.node)

  abbrev directory_of_1 : (ℕ × OpenFile) → Attempt ℕ
  directory_of_1 file = refuse_if ENOTDIR (not (is_directory_at s.tree file.1.node)) >> give file.1.node

  pub leads-directory_of : (d : ℤ) → Leads (λ n. is_directory_at s.tree n ≡ true) (directory_of s pid me d)
  leads-directory_of d =
      leads-demand (λ n. is_directory_at s.tree n ≡ true) EBADF (open_file s me d) directory_of_1 (λ f is.
      leads-refuse_if (λ n. is_directory_at s.tree n ≡ true) ENOTDIR (not (is_directory_at s.tree f.1.node)) (give f.1.node) (λ dir. not-false (is_directory_at s.tree f.1.node) dir))

  pub good-fchdir : (d : ℤ) → Leads (IsEffect s) (fchdir s pid me d)
  good-fchdir d =
      leads-bind (IsEffect s) (λ n. is_directory_at s.tree n ≡ true) (directory_of s pid me d) (λ directory. answers (with_process s pid (record me { directory = directory })) 0) (leads-directory_of d)
      (λ n dir. (ready-directory n dir, omega arith))

  ready-descriptors : (ds : Numbered Descriptor) → length ds ≡ 16 → ((d : ℕ) (x : Descriptor) → at_number ds d ≡ Some x → is_some (at_number s.files x.file) ≡ true)
      → IsReady (with_process s pid (record me { descriptors = ds }))
  ready-descriptors ds long opens =
      ready-process s pid me whole at (record me { descriptors = ds }) (stays_running (record me { descriptors = ds }) refl refl refl refl)
      (let p = my-placed s pid me whole at in record { directory = p.directory; descriptors = long; opens = opens; table = p.table }) refl

  -- one more descriptor, or a descriptor replaced
  pub with-opens : (fs : Numbered OpenFile) → ((k : ℕ) → is_some (at_number s.files k) ≡ true → is_some (at_number fs k) ≡ true) → (n : ℕ) (new : Descriptor) → n < length me.descriptors → is_some (at_number fs new.file) ≡ true
      → (d : ℕ) (x : Descriptor) → at_number (with_number me.descriptors n new) d ≡ Some x → is_some (at_number fs x.file) ≡ true
  with-opens fs still n new below good d x is =
      ⊎_elim
      (λ same. let value : Some new ≡ Some x = sym (with_number-same me.descriptors n new below) ∙ ap (at_number (with_number me.descriptors n new)) (sym same) ∙ is in let eq : new ≡ x = cc value in ap (λ y. is_some (at_number fs y.file)) (sym eq) ∙ good)
      (λ other. still x.file ((my-placed s pid me whole at).opens d x (sym (with_number-other me.descriptors n new d below other) ∙ is))) (cases_eq d n)

  without-opens : (n d : ℕ) (x : Descriptor) → at_number (without_number me.descriptors n) d ≡ Some x → is_some (at_number s.files x.file) ≡ true
  without-opens n d x is =
      ⊎_elim
      (λ same. let none : at_number (without_number me.descriptors n) d ≡ None = ap (at_number (without_number me.descriptors n)) same ∙ without_number-same me.descriptors n in cc)
      (λ other. (my-placed s pid me whole at).opens d x (sym (without_number-other me.descriptors n d other) ∙ is)) (cases_eq d n)

  pub good-close : (d : ℤ) → Leads (IsEffect s) (close s pid me d)
  good-close (negsuc d) = tt
  good-close (pos d) =
      leads-then (IsEffect s) (demand EBADF (descriptor_at me (pos d))) (answers (with_process s pid (record me { descriptors = without_number me.descriptors d })) 0)
      (ready-descriptors (without_number me.descriptors d) (length-without_number me.descriptors d ∙ (my-placed s pid me whole at).descriptors) (without-opens d), omega arith)

  abbrev dup_1 : Descriptor → Attempt Effect
  dup_1 x = refuse_if EMFILE (nat_le 16 (least_free me.descriptors)) >> answers (with_descriptor s pid me s x.file false) (least_free me.descriptors)

  pub free-descriptor : nat_le 16 (least_free me.descriptors) ≡ false → least_free me.descriptors < length me.descriptors
  free-descriptor few = omega (arith, leb-false 16 (least_free me.descriptors) few, (my-placed s pid me whole at).descriptors)

  pub good-dup : (d : ℤ) → Leads (IsEffect s) (dup s pid me d)
  good-dup d =
      leads-demand (IsEffect s) EBADF (descriptor_at me d) dup_1 (λ x is.
      leads-refuse_if (IsEffect s) EMFILE (nat_le 16 (least_free me.descriptors)) (answers (with_descriptor s pid me s x.file false) (least_free me.descriptors)) (λ few.
      let n = least_free me.descriptors in
      let below = free-descriptor few in (
        ready-descriptors (with_number me.descriptors n (record { file = x.file; close_on_exec = false }))
            (length-with_number me.descriptors n (record { file = x.file; close_on_exec = false }) below ∙ (my-placed s pid me whole at).descriptors)
            (with-opens s.files (λ k there. there) n (record { file = x.file; close_on_exec = false }) below (my-descriptor d x is)),
        omega (arith, leb-false 16 (least_free me.descriptors) few),
      )))

  abbrev dup2_2 : ℤ → Descriptor → ℕ → Attempt Effect
  dup2_2 d x number = answers (with_duplicate s pid me d number x) number

  abbrev dup2_1 : ℤ → ℤ → Descriptor → Attempt Effect
  dup2_1 d e x = demand EBADF (within 15 e) >>= dup2_2 d x

  pub good-dup2 : (d e : ℤ) → Leads (IsEffect s) (dup2 s pid me d e)
  good-dup2 d e =
      leads-demand (IsEffect s) EBADF (descriptor_at me d) (dup2_1 d e) (λ x is.
      leads-demand (IsEffect s) EBADF (within 15 e) (dup2_2 d x) (λ number low.
      let few = within-limit 15 e number low in
      let below : number < length me.descriptors = omega (arith, few, (my-placed s pid me whole at).descriptors) in
      let new : Descriptor = record x { close_on_exec = false } in (
        elim (is_number d number) as (λ b. IsReady (if b then s else with_process s pid (record me { descriptors = with_number me.descriptors number new }))) [
          | true ↦ ready s whole
          | false ↦ ready-descriptors (with_number me.descriptors number new) (length-with_number me.descriptors number new below ∙ (my-placed s pid me whole at).descriptors)
              (with-opens s.files (λ k there. there) number new below (my-descriptor d x is))
        ],
        omega (arith, few),
      )))
