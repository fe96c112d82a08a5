-- The accesses of a call are those of its candidates whose condition the outcome satisfies, and the new descriptor.
use Rattle.std.proofs.Common.{◌≡◌, ◌∙◌, sym, ap, ap₂, ℕ, ℤ, Bool, true, false, not, ◌==◌, if◌then◌else◌, List, [], ◌∷◌, ◌++◌, append_assoc, map, filter, Some, refl}
use Rattle.std.specs.Prelude.{filter_map, is_none}
use Rattle.std.proofs.lemmas.List.{append-nil}
use Rattle.pv_model.specs.declared.call.Call.{Call}
use Rattle.pv_model.specs.declared.call.Call.TheVariants.{Execve, Open, OpenAt, Read, Write, Lseek, Fstat, Ftruncate, Getdents, Fchdir, Chdir, Stat, Lstat, Readlink, Mkdir, Symlink, Link, Unlink, Rmdir, Rename}
use Rattle.pv_model.specs.declared.errno.Errno.TheVariants.{ENOEXEC}
use Rattle.pv_model.specs.declared.open_flags.OpenFlags.{OpenFlags}
use Rattle.pv_model.specs.declared.errno.Errno.{Errno}
use Rattle.pv_model.specs.declared.outcome.Cause.{Cause}
use Rattle.pv_model.specs.declared.outcome.Outcome.{Outcome}
use Rattle.pv_model.specs.declared.outcome.Taken.{Taken}
use Rattle.pv_model.specs.declared.promise.Promise.{Promise}
use Rattle.pv_model.specs.declared.outcome.Outcome.TheVariants.{Value, Text, Failed, Killed, Exited, Blocked, Gone}
use Rattle.pv_model.specs.declared.place.Place.{Place}
use Rattle.pv_model.specs.Machine.{Access, executes, changes_name, accesses, node_of_descriptor, Bytes, name_of, node_of, Process, State, Stepped, flags_of, has_succeeded, places}
use Rattle.pv_model.specs.Answers.Access.{reads, writes, reports, accesses_by_open, nodes_executed, nodes_of_places, nodes_read, nodes_reported, nodes_written, places_changed}
use Rattle.pv_access.specs.declared.condition.Condition.{Condition}
use Rattle.pv_access.specs.declared.condition.Condition.TheVariants.{NoProgram, AnyValue, SomeCount, SomeBytes, Success}
use Rattle.pv_access.specs.Candidates.{Candidate, accesses_with, candidates_at, candidates_by, is_satisfied, name_candidates, node_candidates, open_candidates}

-- ---- the accesses of candidates

pub with-append : (o : Outcome) (cs ds : List Candidate) → accesses_with o (cs ++ ds) ≡ accesses_with o cs ++ accesses_with o ds
with-append o [] ds = refl
with-append o (c ∷ cs) ds =
    elim (is_satisfied c.0 o) as (λ b. map (λ (x : Candidate). x.1) (if b then c ∷ filter (λ (x : Candidate). is_satisfied x.0 o) (cs ++ ds) else filter (λ (x : Candidate). is_satisfied x.0 o) (cs ++ ds))
    ≡ map (λ (x : Candidate). x.1) (if b then c ∷ filter (λ (x : Candidate). is_satisfied x.0 o) cs else filter (λ (x : Candidate). is_satisfied x.0 o) cs) ++ accesses_with o ds) [
      | true ↦ ap (λ (xs : List Access). c.1 ∷ xs) (with-append o cs ds)
      | false ↦ with-append o cs ds
    ]

-- the candidates under one condition
pub with-by : {X : Type 0} (o : Outcome) (c : Condition) (access : X → Access) (xs : List X) → accesses_with o (candidates_by c access xs) ≡ (if is_satisfied c o then map access xs else [])
with-by {X} o c access xs = by (is_satisfied c o) refl xs
  where
    rest : List X → List Candidate
    rest ys = filter (λ (x : Candidate). is_satisfied x.0 o) (candidates_by c access ys)

    chosen : (b : Bool) (y : X) (ys : List X) → is_satisfied c o ≡ b → accesses_with o (candidates_by c access (y ∷ ys)) ≡ map (λ (x : Candidate). x.1) (if b then (c, access y) ∷ rest ys else rest ys)
    chosen b y ys is = ap (λ v. map (λ (x : Candidate). x.1) (if v then (c, access y) ∷ filter (λ (x : Candidate). is_satisfied x.0 o) (candidates_by c access ys) else filter (λ (x : Candidate). is_satisfied x.0 o) (candidates_by c access ys))) is

    by : (b : Bool) → is_satisfied c o ≡ b → (ys : List X) → accesses_with o (candidates_by c access ys) ≡ (if b then map access ys else [])
    by true is [] = refl
    by true is (y ∷ ys) = chosen true y ys is ∙ ap (λ (zs : List Access). access y ∷ zs) (by true is ys)
    by false is [] = refl
    by false is (y ∷ ys) = chosen false y ys is ∙ by false is ys

-- ---- the accesses of a call

module _ (s : State) (pid : ℕ) (p : Process) (now : Stepped) where
  abbrev opened : Call → Outcome → List Access
  opened call o = accesses_by_open now.after pid o (flags_of call)

  abbrev names : List Place → List Access
  names found = map (λ name. changes_name name.0 name.1) (filter_map name_of found)

  -- the accesses of a call with an outcome
  abbrev given : Call → Outcome → List Access
  given call o =
      map reads (nodes_read s p call o) ++ map executes (nodes_executed s p call o) ++ map writes (nodes_written s p call o)
      ++ (if has_succeeded o then names (places_changed s p call) ++ map reports (nodes_reported s p call) ++ opened call o else [])

  given-is : (call : Call) → accesses s pid p call now ≡ given call now.outcome
  unfolding accesses
  given-is call = refl

  abbrev allowed : Call → Outcome → List Access
  allowed call o = accesses_with o (candidates_at (node_of_descriptor s p call) (places s p call) call)

  abbrev if_holds : Condition → Outcome → List Access → List Access
  if_holds c o xs = if is_satisfied c o then xs else []

  -- the candidates under one condition, and the new descriptor
  one : {X : Type 0} (call : Call) (o : Outcome) (c : Condition) (access : X → Access) (xs : List X)
      → if_holds c o (map access xs) ++ opened call o ≡ accesses_with o (candidates_by c access xs) ++ opened call o
  one call o c access xs = ap (λ (ys : List Access). ys ++ opened call o) (sym (with-by o c access xs))

  by-read : (d n : ℤ) (o : Outcome) → given (Read d n) o ≡ if_holds SomeBytes o (map reads (node_of_descriptor s p (Read d n))) ++ opened (Read d n) o
  by-read d n (Text taken) = elim (taken.len == 0) as (λ b. map reads (if b then [] else node_of_descriptor s p (Read d n)) ++ [] ++ [] ++ ([] ++ [] ++ []) ≡ (if not b then map reads (node_of_descriptor s p (Read d n)) else []) ++ []) [
    | true ↦ refl
    | false ↦ simp append-nil
  ]
  by-read d n _ = refl

  by-write : (d n : ℤ) (o : Outcome) → given (Write d n) o ≡ if_holds SomeCount o (map writes (node_of_descriptor s p (Write d n))) ++ opened (Write d n) o
  by-write d n (Value count) = elim (count == 0) as (λ b. [] ++ [] ++ map writes (if b then [] else node_of_descriptor s p (Write d n)) ++ ([] ++ [] ++ []) ≡ (if not b then map writes (node_of_descriptor s p (Write d n)) else []) ++ []) [
    | true ↦ refl
    | false ↦ refl
  ]
  by-write d n _ = refl

  by-ftruncate : (d n : ℤ) (o : Outcome) → given (Ftruncate d n) o ≡ if_holds AnyValue o (map writes (node_of_descriptor s p (Ftruncate d n))) ++ opened (Ftruncate d n) o
  by-ftruncate d n (Value count) = refl
  by-ftruncate d n _ = refl

  by-execve : (path : Bytes) (o : Outcome) → given (Execve path) o
      ≡ (if_holds NoProgram o (map reads (nodes_of_places s p (Execve path))) ++ if_holds AnyValue o (map executes (nodes_of_places s p (Execve path)))) ++ opened (Execve path) o
  by-execve path (Value n) = simp append-nil
  by-execve path (Failed ENOEXEC cause) = simp append-nil
  by-execve path _ = refl

  each-outcome : (P : Outcome → Type 0) → ((n : ℕ) → P (Value n)) → ((taken : Taken) → P (Text taken)) → ((e : Errno) (cause : Cause) → P (Failed e cause)) → ((promise : Promise) → P (Killed promise))
      → P Exited → P Blocked → P Gone → (o : Outcome) → P o
  each-outcome P value text failed killed exited blocked gone (Value n) = value n
  each-outcome P value text failed killed exited blocked gone (Text taken) = text taken
  each-outcome P value text failed killed exited blocked gone (Failed e cause) = failed e cause
  each-outcome P value text failed killed exited blocked gone (Killed promise) = killed promise
  each-outcome P value text failed killed exited blocked gone Exited = exited
  each-outcome P value text failed killed exited blocked gone Blocked = blocked
  each-outcome P value text failed killed exited blocked gone Gone = gone

  -- a call that reports nodes
  by-report : (call : Call) (xs : List ℕ) → ((o : Outcome) → given call o ≡ (if has_succeeded o then [] ++ map reports xs ++ [] else [])) → (o : Outcome)
      → given call o ≡ accesses_with o (candidates_by Success reports xs) ++ []
  by-report call xs is o = is o ∙ by (has_succeeded o) ∙ ap (λ (ys : List Access). ys ++ []) (sym (with-by o Success reports xs))
    where
      by : (b : Bool) → (if b then [] ++ map reports xs ++ [] else []) ≡ (if b then map reports xs else []) ++ []
      by true = refl
      by false = refl

  -- a call that changes names
  by-names : (call : Call) (found : List Place) → ((o : Outcome) → given call o ≡ (if has_succeeded o then names found ++ [] ++ [] else [])) → (o : Outcome)
      → given call o ≡ accesses_with o (candidates_by Success (λ name. changes_name name.0 name.1) (filter_map name_of found)) ++ []
  by-names call found is o =
      is o ∙ by (has_succeeded o) ∙ ap (λ (ys : List Access). ys ++ []) (sym (with-by o Success (λ name. changes_name name.0 name.1) (filter_map name_of found)))
    where
      by : (b : Bool) → (if b then names found ++ [] ++ [] else []) ≡ (if b then names found else []) ++ []
      by true = simp append-nil
      by false = refl

  -- an open
  module _ (found : List Place) (flags : OpenFlags) where
    abbrev absent : List Place
    absent = filter (λ place. is_none (node_of place)) found

    abbrev truncated : Outcome → Bool → List Access
    truncated o b = if b then if_holds AnyValue o (map writes (filter_map node_of found)) else []

    open-with : (o : Outcome) → accesses_with o (open_candidates found flags) ≡ truncated o flags.truncate ++ if_holds Success o (names absent)
    open-with o =
        with-append o (if flags.truncate then node_candidates found AnyValue writes else []) (name_candidates found true)
        ∙ ap₂ (λ (xs ys : List Access). xs ++ ys)
        (elim flags.truncate as (λ b. accesses_with o (if b then node_candidates found AnyValue writes else []) ≡ truncated o b) [
          | true ↦ with-by o AnyValue writes (filter_map node_of found)
          | false ↦ refl
        ])
        (with-by o Success (λ name. changes_name name.0 name.1) (filter_map name_of absent))

    abbrev gained : Outcome → List Access
    gained o = accesses_by_open now.after pid o (Some flags)

    abbrev open-given : Bool → Outcome → List Access
    open-given b (Value n) = [] ++ [] ++ map writes (if b then filter_map node_of found else []) ++ (names absent ++ [] ++ gained (Value n))
    open-given b (Text taken) = [] ++ [] ++ [] ++ (names absent ++ [] ++ gained (Text taken))
    open-given b o = []

    open-is : (b : Bool) (o : Outcome) → open-given b o ≡ truncated o b ++ if_holds Success o (names absent) ++ gained o
    open-is true (Value n) = simp (append-nil, append_assoc)
    open-is false (Value n) = simp (append-nil, append_assoc)
    open-is true (Text taken) = simp append-nil
    open-is false (Text taken) = simp append-nil
    open-is true _ = refl
    open-is false _ = refl

    by-open : (call : Call) → flags_of call ≡ Some flags → ((o : Outcome) → given call o ≡ open-given flags.truncate o) → (o : Outcome)
        → given call o ≡ accesses_with o (open_candidates found flags) ++ opened call o
    by-open call own is o =
        is o ∙ open-is flags.truncate o ∙ ap₂ (λ (xs ys : List Access). xs ++ ys) (sym (open-with o)) (ap (accesses_by_open now.after pid o) (sym own))

  allowed-is : (call : Call) (o : Outcome) → given call o ≡ allowed call o ++ opened call o
  allowed-is (Read d n) = λ o. by-read d n o ∙ one (Read d n) o SomeBytes reads (node_of_descriptor s p (Read d n))
  allowed-is (Write d n) = λ o. by-write d n o ∙ one (Write d n) o SomeCount writes (node_of_descriptor s p (Write d n))
  allowed-is (Ftruncate d n) = λ o. by-ftruncate d n o ∙ one (Ftruncate d n) o AnyValue writes (node_of_descriptor s p (Ftruncate d n))
  allowed-is (Execve path) = λ o.
      by-execve path o
      ∙ ap (λ (ys : List Access). ys ++ [])
      (ap₂ (λ (xs ys : List Access). xs ++ ys) (sym (with-by o NoProgram reads (nodes_of_places s p (Execve path)))) (sym (with-by o AnyValue executes (nodes_of_places s p (Execve path))))
      ∙ sym (with-append o (node_candidates (places s p (Execve path)) NoProgram reads) (node_candidates (places s p (Execve path)) AnyValue executes)))
  allowed-is (Lseek d by whence) = by-report (Lseek d by whence) (node_of_descriptor s p (Lseek d by whence)) (each-outcome _ (λ n. refl) (λ t. refl) (λ e c. refl) (λ a. refl) refl refl refl)
  allowed-is (Fstat d) = by-report (Fstat d) (node_of_descriptor s p (Fstat d)) (each-outcome _ (λ n. refl) (λ t. refl) (λ e c. refl) (λ a. refl) refl refl refl)
  allowed-is (Fchdir d) = by-report (Fchdir d) (node_of_descriptor s p (Fchdir d)) (each-outcome _ (λ n. refl) (λ t. refl) (λ e c. refl) (λ a. refl) refl refl refl)
  allowed-is (Getdents d) = by-report (Getdents d) (node_of_descriptor s p (Getdents d)) (each-outcome _ (λ n. refl) (λ t. refl) (λ e c. refl) (λ a. refl) refl refl refl)
  allowed-is (Stat path) = by-report (Stat path) (nodes_of_places s p (Stat path)) (each-outcome _ (λ n. refl) (λ t. refl) (λ e c. refl) (λ a. refl) refl refl refl)
  allowed-is (Lstat path) = by-report (Lstat path) (nodes_of_places s p (Lstat path)) (each-outcome _ (λ n. refl) (λ t. refl) (λ e c. refl) (λ a. refl) refl refl refl)
  allowed-is (Readlink path) = by-report (Readlink path) (nodes_of_places s p (Readlink path)) (each-outcome _ (λ n. refl) (λ t. refl) (λ e c. refl) (λ a. refl) refl refl refl)
  allowed-is (Chdir path) = by-report (Chdir path) (nodes_of_places s p (Chdir path)) (each-outcome _ (λ n. refl) (λ t. refl) (λ e c. refl) (λ a. refl) refl refl refl)
  allowed-is (Mkdir path) = by-names (Mkdir path) (filter (λ place. is_none (node_of place)) (places s p (Mkdir path))) (each-outcome _ (λ n. refl) (λ t. refl) (λ e c. refl) (λ a. refl) refl refl refl)
  allowed-is (Symlink text path) = by-names (Symlink text path) (filter (λ place. is_none (node_of place)) (places s p (Symlink text path))) (each-outcome _ (λ n. refl) (λ t. refl) (λ e c. refl) (λ a. refl) refl refl refl)
  allowed-is (Link path new) = by-names (Link path new) (filter (λ place. is_none (node_of place)) (places s p (Link path new))) (each-outcome _ (λ n. refl) (λ t. refl) (λ e c. refl) (λ a. refl) refl refl refl)
  allowed-is (Unlink path) = by-names (Unlink path) (places s p (Unlink path)) (each-outcome _ (λ n. refl) (λ t. refl) (λ e c. refl) (λ a. refl) refl refl refl)
  allowed-is (Rmdir path) = by-names (Rmdir path) (places s p (Rmdir path)) (each-outcome _ (λ n. refl) (λ t. refl) (λ e c. refl) (λ a. refl) refl refl refl)
  allowed-is (Rename path new) = by-names (Rename path new) (places s p (Rename path new)) (each-outcome _ (λ n. refl) (λ t. refl) (λ e c. refl) (λ a. refl) refl refl refl)
  allowed-is (Open path flags) = by-open (places s p (Open path flags)) flags (Open path flags) refl (each-outcome _ (λ n. refl) (λ t. refl) (λ e c. refl) (λ a. refl) refl refl refl)
  allowed-is (OpenAt start path flags) = by-open (places s p (OpenAt start path flags)) flags (OpenAt start path flags) refl (each-outcome _ (λ n. refl) (λ t. refl) (λ e c. refl) (λ a. refl) refl refl refl)
  allowed-is _ = (each-outcome _ (λ n. refl) (λ t. refl) (λ e c. refl) (λ a. refl) refl refl refl)

  -- the accesses of a call are those of its candidates that the outcome allows, and the new descriptor
  pub accesses-are : (call : Call) → accesses s pid p call now ≡ allowed call now.outcome ++ opened call now.outcome
  accesses-are call = given-is call ∙ allowed-is call now.outcome
