-- Changes inside a process: registers, buffer, lines.
use Rattle.std.proofs.Common.{◌≡◌, ℕ, zero, suc, ◌≤◌, ℤ, pos, Bool, true, cond, ◌&&◌, List, [], ◌∷◌, ◌++◌, map, length, take, drop, replicate, slice_set, Option, None, Some, refl, ap, ap₂, sym, ◌∙◌, arith}
use Rattle.std.specs.List.{list_all}
use Rattle.std.specs.Ordering.{nat_cmp, is_eq, is_lt, ordering_reverse}
use Rattle.std.proofs.lemmas.Cmp.{nat_cmp_total}
use Rattle.std.specs.FinMap.Entries.{by_order, find, put, is_sorted, below_all}
use Rattle.std.specs.declared.cmp.Ordering.{Ordering}
use Rattle.std.specs.declared.cmp.Ordering.TheVariants.{Less, Equal, Greater}
use Rattle.std.proofs.Math.ListN.{length-append, length-set, length-drop}
use Rattle.std.proofs.lemmas.Bool.{and_parts, and_from, le-leb, lt-ltb}
use Rattle.std.proofs.lemmas.List.Folds.{list_all-append}
use Rattle.pv_model.specs.declared.errno.Errno.{Errno}
use Rattle.pv_model.specs.declared.errno.Errno.TheVariants.{EPERM, ENOENT, E2BIG, ENOEXEC, EBADF, ECHILD, EACCES, EBUSY, EEXIST, ENOTDIR, EISDIR, EINVAL, ENFILE, EMFILE, EFBIG, ENOSPC, EAGAIN, ELOOP, ENAMETOOLONG, ENOTEMPTY, ENOSYS}
use Rattle.pv_model.specs.Machine.{at_next_line, with_front, update_live, update, Bytes, little_endian, with_result, errno_number, among, used_files, held_by_process, collect, keep, present, Process, ProcessRecord, live, ended_record, State, process_at, with_process}
use Rattle.pv_laws_states.specs.Held.{used}
use Rattle.pv_laws_trees.specs.Preserved.{preserved}
use Rattle.pv_laws_states.specs.States.{is_word, is_byte, are_bytes, IsRunning, IsPlaced, IsSolid, IsValid}
use Rattle.pv_laws_states.proofs.ReferenceMembers.{all_of, live-found, find_number-list_all}
use Rattle.pv_laws_states.proofs.CollectedStates.{held_after}
use Rattle.pv_laws_states.proofs.ValidStates.{HasRoom, solid, solid-with_process}

-- ---- lists whose elements pass a test

module _ {X : Type 0} (test : X → Bool) where
  pub list_all-set : (xs : List X) (i : ℕ) (x : X) → test x ≡ true → list_all test xs ≡ true → list_all test (slice_set xs i x) ≡ true
  list_all-set [] i x here all = refl
  list_all-set (y ∷ ys) zero x here all = and_from _ _ here (and_parts (test y) _ all).1
  list_all-set (y ∷ ys) (suc i) x here all = let parts = and_parts (test y) (list_all test ys) all in and_from (test y) _ parts.0 (list_all-set ys i x here parts.1)

  pub list_all-take : (n : ℕ) (xs : List X) → list_all test xs ≡ true → list_all test (take n xs) ≡ true
  list_all-take zero xs all = refl
  list_all-take (suc n) [] all = refl
  list_all-take (suc n) (x ∷ xs) all = let parts = and_parts (test x) (list_all test xs) all in and_from (test x) _ parts.0 (list_all-take n xs parts.1)

  pub list_all-drop : (n : ℕ) (xs : List X) → list_all test xs ≡ true → list_all test (drop n xs) ≡ true
  list_all-drop zero xs all = all
  list_all-drop (suc n) [] all = refl
  list_all-drop (suc n) (x ∷ xs) all = list_all-drop n xs (and_parts (test x) (list_all test xs) all).1

  pub list_all-replicate : (n : ℕ) (x : X) → test x ≡ true → list_all test (replicate n x) ≡ true
  list_all-replicate zero x here = refl
  list_all-replicate (suc n) x here = and_from (test x) _ here (list_all-replicate n x here)

  pub list_all-both : (xs ys : List X) → list_all test xs ≡ true → list_all test ys ≡ true → list_all test (xs ++ ys) ≡ true
  list_all-both xs ys a b = list_all-append test xs ys ∙ and_from (list_all test xs) (list_all test ys) a b

-- ---- registers and buffer

pub word : (n : ℕ) → n ≤ 2147483647 → is_word (pos n) ≡ true
word n few = le-leb n 2147483647 few

pub errno-word : (e : Errno) → is_word (pos (errno_number e)) ≡ true
errno-word EPERM = refl
errno-word ENOENT = refl
errno-word E2BIG = refl
errno-word ENOEXEC = refl
errno-word EBADF = refl
errno-word ECHILD = refl
errno-word EACCES = refl
errno-word EBUSY = refl
errno-word EEXIST = refl
errno-word ENOTDIR = refl
errno-word EISDIR = refl
errno-word EINVAL = refl
errno-word ENFILE = refl
errno-word EMFILE = refl
errno-word EFBIG = refl
errno-word ENOSPC = refl
errno-word EAGAIN = refl
errno-word ELOOP = refl
errno-word ENAMETOOLONG = refl
errno-word ENOTEMPTY = refl
errno-word ENOSYS = refl

pub running-result : (p : Process) (value : ℤ) (error : ℕ) → is_word value ≡ true → is_word (pos error) ≡ true → IsRunning p → IsRunning (with_result p value error)
running-result p value error good fine is = record {
  program = is.program;
  line = is.line;
  registers = (
    length-set (slice_set p.registers 0 value) 1 (pos error) ∙ length-set p.registers 0 value ∙ is.registers.0,
    list_all-set is_word (slice_set p.registers 0 value) 1 (pos error) fine (list_all-set is_word p.registers 0 value good is.registers.1),
  );
  buffer = is.buffer;
}

pub running-front : (p : Process) (bytes : Bytes) → length bytes ≤ 4096 → are_bytes bytes ≡ true → IsRunning p → IsRunning (with_front bytes p)
running-front p bytes short good is = record {
  program = is.program;
  line = is.line;
  registers = is.registers;
  buffer = (
    length-append bytes (drop (length bytes) p.buffer) ∙ omega (arith, length-drop (length bytes) p.buffer, is.buffer.0),
    list_all-both is_byte bytes (drop (length bytes) p.buffer) good (list_all-drop is_byte (length bytes) p.buffer is.buffer.1),
  );
}

pub running-next : (p : Process) → IsRunning p → IsRunning (at_next_line p)
running-next p is = record {
  program = is.program;
  line = (omega (arith, is.line.0), omega arith);
  registers = is.registers;
  buffer = is.buffer;
}

-- the bytes of a number
pub bytes-little_endian : (k n : ℕ) → are_bytes (little_endian k n) ≡ true
bytes-little_endian zero n = refl
bytes-little_endian (suc k) n = and_from _ _ (lt-ltb _ 256 (omega arith)) (bytes-little_endian k _)

-- ---- processes with the same references

pub record SameHolds (p q : Process) : Type 0 where
  pub directory : q.directory ≡ p.directory
  pub table : q.table ≡ p.table
  pub descriptors : q.descriptors ≡ p.descriptors
  pub parent : q.parent ≡ p.parent

pub placed-same : (s : State) (p q : Process) → SameHolds p q → IsPlaced s.tree s.files p → IsPlaced s.tree s.files q
placed-same s p q same is = record {
  directory = ap (Rattle.pv_model.specs.Tree.is_directory_at s.tree) same.directory ∙ is.directory;
  descriptors = ap length same.descriptors ∙ is.descriptors;
  opens = λ d x at. is.opens d x (ap (λ ds. Rattle.pv_model.specs.Numbered.at_number ds d) (sym same.descriptors) ∙ at);
  table = ap (Rattle.pv_laws_states.specs.States.is_table s.tree) same.table ∙ is.table;
}

-- a number before the first is not found after it
below-all : {X : Type 0} (k : ℕ) (es : List (ℕ × X)) → below_all nat_cmp k es ≡ list_all (λ e. is_lt (nat_cmp k e.0)) es
below-all k [] = refl
below-all k (e ∷ es) = ap (λ b. is_lt (nat_cmp k e.0) && b) (below-all k es)

pub not_before : {P X : Type 0} (pid : ℕ) (v : X) (e : ℕ × X) (es : List (ℕ × X)) → is_sorted nat_cmp (e ∷ es) ≡ true → nat_cmp pid e.0 ≡ Less → find nat_cmp pid (e ∷ es) ≡ Some v → P
not_before pid v e es sorted less found =
    let there : find nat_cmp pid es ≡ Some v = sym (ap (λ o. cond (is_eq o) (Some e.1) (find nat_cmp pid es)) less) ∙ found in
    let following : is_lt (nat_cmp e.0 pid) ≡ true =
    find_number-list_all (λ k. is_lt (nat_cmp e.0 k)) pid v es (sym (below-all e.0 es) ∙ (and_parts (below_all nat_cmp e.0 es) _ sorted).0) there in
    by (nat_cmp e.0 pid) following (sym less ∙ nat_cmp_total.antisymm pid e.0)
  where
    by : {P : Type 0} (o : Ordering) → is_lt o ≡ true → Less ≡ ordering_reverse o → P
    by Less is turned = cc
    by Equal is turned = cc
    by Greater is turned = cc

all_of-put : (g : Process → List ℕ) (ps : List (ℕ × ProcessRecord)) (pid : ℕ) (p q : Process) → is_sorted nat_cmp ps ≡ true → find nat_cmp pid ps ≡ Some (live p) → g q ≡ g p
    → all_of g (put nat_cmp pid (live q) ps) ≡ all_of g ps
all_of-put g [] pid p q sorted found same = cc
all_of-put g (e ∷ ps) pid p q sorted found same = by (nat_cmp pid e.0) refl
    (λ there. all_of-put g ps pid p q (and_parts (below_all nat_cmp e.0 ps) _ sorted).1 there same)
  where
    head : (r : ProcessRecord) → r ≡ live p → all_of g ((e.0, live q) ∷ ps) ≡ all_of g ((e.0, r) ∷ ps)
    head (live x) is = let eq : x ≡ p = cc is in ap (λ ns. ns ++ all_of g ps) (same ∙ ap g (sym eq))
    head (ended_record parent status) is = cc

    tail : (r : ProcessRecord) (xs : List (ℕ × ProcessRecord)) → all_of g xs ≡ all_of g ps → all_of g ((e.0, r) ∷ xs) ≡ all_of g ((e.0, r) ∷ ps)
    tail (live x) xs rest = ap (λ ns. g x ++ ns) rest
    tail (ended_record parent status) xs rest = rest

    by : (o : Ordering) → nat_cmp pid e.0 ≡ o → (find nat_cmp pid ps ≡ Some (live p) → all_of g (put nat_cmp pid (live q) ps) ≡ all_of g ps)
        → all_of g (by_order o ((pid, live q) ∷ e ∷ ps) ((e.0, live q) ∷ ps) (e ∷ put nat_cmp pid (live q) ps)) ≡ all_of g (e ∷ ps)
    by Less is rest = not_before pid (live p) e ps sorted is found
    by Equal is rest = head e.1 (cc (sym (ap (λ o. cond (is_eq o) (Some e.1) (find nat_cmp pid ps)) is) ∙ found))
    by Greater is rest = tail e.1 (put nat_cmp pid (live q) ps) (rest (sym (ap (λ o. cond (is_eq o) (Some e.1) (find nat_cmp pid ps)) is) ∙ found))

pub holds-put : (g : Process → List ℕ) (s : State) (pid : ℕ) (p q : Process) → is_sorted nat_cmp s.processes ≡ true → process_at s pid ≡ Some p → g q ≡ g p
    → all_of g (with_process s pid q).processes ≡ all_of g s.processes
holds-put g s pid p q sorted at same = all_of-put g s.processes pid p q sorted (live-found s pid p at) same

-- the same files are in use, and the same nodes are referenced
pub used-same : (s : State) (pid : ℕ) (p q : Process) → is_sorted nat_cmp s.processes ≡ true → process_at s pid ≡ Some p → SameHolds p q → used (with_process s pid q) ≡ used s
used-same s pid p q sorted at same = holds-put used_files s pid p q sorted at (ap (λ ds. map (λ d. d.file) (present ds)) same.descriptors)

pub held-same : (s : State) (pid : ℕ) (p q : Process) → is_sorted nat_cmp s.processes ≡ true → process_at s pid ≡ Some p → SameHolds p q → held_after (with_process s pid q) ≡ held_after s
held-same s pid p q sorted at same =
    ap₂ (λ ns us. ns ++ map (λ f. f.node) (present (keep (among us) s.files)))
    (holds-put held_by_process s pid p q sorted at (ap₂ (λ d t. d ∷ Rattle.pv_model.specs.Held.held_by_table t) same.directory same.table))
    (used-same s pid p q sorted at same)

pub collect-same : (s : State) (pid : ℕ) (p q : Process) → is_sorted nat_cmp s.processes ≡ true → process_at s pid ≡ Some p → SameHolds p q
    → collect (with_process s pid q) ≡ with_process (collect s) pid q
unfolding collect
collect-same s pid p q sorted at same =
    ap₂ (λ hs us. record (with_process s pid q) { tree = preserved s.tree hs; files = keep (among us) s.files }) (held-same s pid p q sorted at same) (used-same s pid p q sorted at same)

pub room-same : (s : State) (pid : ℕ) (p q : Process) → is_sorted nat_cmp s.processes ≡ true → process_at s pid ≡ Some p → SameHolds p q → HasRoom s → HasRoom (with_process s pid q)
room-same s pid p q sorted at same room =
    let tree = ap (λ x. x.tree) (collect-same s pid p q sorted at same) in
    record { fits = ap Rattle.pv_model.specs.Room.fits tree ∙ room.fits; not_too_long = ap Rattle.pv_model.specs.Room.is_too_long tree ∙ room.not_too_long }

-- a valid state stays valid when the inside of a process changes
pub valid-inside : (s : State) (pid : ℕ) (p q : Process) → IsValid s → process_at s pid ≡ Some p → SameHolds p q → IsRunning q → IsValid (with_process s pid q)
valid-inside s pid p q whole at same running =
    let after = solid-with_process s pid p q (solid s whole) at running (placed-same s p q same (whole.processes.placed pid p at)) same.parent in
    record {
      tree = after.tree;
      files = after.files;
      processes = after.processes;
      collected = collect-same s pid p q whole.processes.ascending at same ∙ ap (λ x. with_process x pid q) whole.collected;
      fits = whole.fits;
      not_too_long = whole.not_too_long;
    }

-- a state that satisfies the invariant before collection, too
pub record IsReady (s : State) : Type 0 where
  pub solid : IsSolid s
  pub room : HasRoom s

pub ready-inside : (s : State) (pid : ℕ) (p q : Process) → IsReady s → process_at s pid ≡ Some p → SameHolds p q → IsRunning q → IsReady (with_process s pid q)
ready-inside s pid p q ready at same running = record {
  solid = solid-with_process s pid p q ready.solid at running (placed-same s p q same (ready.solid.processes.placed pid p at)) same.parent;
  room = room-same s pid p q ready.solid.processes.ascending at same ready.room;
}

pub ready-update : (s : State) (pid : ℕ) (f : Process → Process) → IsReady s → ((p : Process) → SameHolds p (f p)) → ((p : Process) → IsRunning p → IsRunning (f p)) → IsReady (update s pid f)
ready-update s pid f ready same running = by (process_at s pid) refl
  where
    by : (o : Option Process) → process_at s pid ≡ o → IsReady (update_live s pid f o)
    by None at = ready
    by (Some p) at = ready-inside s pid p (f p) ready at (same p) (running p (ready.solid.processes.running pid p at))
