-- Calls that continue with the node at the end of a walk: chdir(2) and execve(2).
use Rattle.std.proofs.Common.{◌≡◌, ◌∙◌, ℕ, Bool, true, false, not, Option, None, Some, Result, Err, option_map, refl, ap, subst}
use Rattle.pv_calls_path.specs.Execve.{bytes_to_load}
use Rattle.pv_calls_path.specs.Reached.{IsFound, IsPlaceReached}
use Rattle.pv_calls_path.proofs.CheckedWalks.{reached_then}
use Rattle.pv_namei.specs.OfDirs.Trees.{kind_of_node}
use Rattle.pv_model.specs.declared.errno.Errno.TheVariants.{EACCES, ENOENT, ENOEXEC, ENOTDIR}
use Rattle.pv_model.specs.declared.fault.ParseFault.{ParseFault}
use Rattle.pv_model.specs.declared.fault.ParseFault.TheVariants.{Line}
use Rattle.pv_model.specs.declared.fault.What.{What}
use Rattle.pv_model.specs.declared.outcome.Cause.TheVariants.{Plain}
use Rattle.pv_model.specs.declared.place.Place.{Place}
use Rattle.pv_model.specs.declared.kind.Kind.{Kind}
use Rattle.pv_model.specs.declared.kind.Kind.TheVariants.{Executable}
use Rattle.pv_model.specs.Machine.{Attempt, done, refused, after_walks, demand, refuse_if, ◌>>=◌, ◌>>◌, Bytes, chdir, execve, executable_bytes, with_program, Effect, answers, bytes_of, node_of, returns, program_of, Process, Program, State, with_process, Node, directory_node, file_node, link_node, is_directory_at, node_at, Walk, execve_walk}
use Rattle.pv_model.specs.Walks.{chdir_walk}
use Rattle.pv_calls_plain.specs.OfCallsState.Changes.{with_directory}
use Rattle.pv_calls_plain.specs.OfScript.Reading.{RefusesProgram}
use Rattle.pv_calls_plain.proofs.OfCallsState.AttemptSequences.{given, passed, refused_before, refused_first}

-- a walk reaches a place at which a node exists
pub found_there : (s : State) (me : Process) (start : ℕ) (w : Walk) (place : Place) (n : ℕ) → IsPlaceReached s me start w place → node_of place ≡ Some n → IsFound s me start w n
found_there s me start w place n is there rest =
    reached_then s me start w place is (λ place. demand ENOENT (node_of place) >>= rest)
    ∙ ap (after_walks 1) (given (demand ENOENT (node_of place)) n rest (ap (demand ENOENT) there))

module _ (s : State) (pid : ℕ) (me : Process) (path : Bytes) (n : ℕ) (found : IsFound s me me.directory (chdir_walk path) n) where
  -- the computation of chdir on the node that it finds
  chdir_rest : ℕ → Attempt Effect
  chdir_rest n = refuse_if ENOTDIR (not (is_directory_at s.tree n)) >> answers (with_process s pid (with_directory n me)) 0

  pub chdir_refused : is_directory_at s.tree n ≡ false → chdir s pid me path ≡ refused 1 ENOTDIR Plain
  unfolding chdir_rest
  chdir_refused other =
      found chdir_rest
      ∙ ap (after_walks 1)
      (refused_before (refuse_if ENOTDIR (not (is_directory_at s.tree n))) (answers (with_process s pid (with_directory n me)) 0) 0 ENOTDIR Plain (ap (λ b. refuse_if ENOTDIR (not b)) other))

  pub chdir_goes : is_directory_at s.tree n ≡ true → chdir s pid me path ≡ done 1 (with_process s pid (with_directory n me), returns 0)
  unfolding chdir_rest
  chdir_goes directory =
      found chdir_rest
      ∙ ap (after_walks 1) (passed (refuse_if ENOTDIR (not (is_directory_at s.tree n))) tt (answers (with_process s pid (with_directory n me)) 0) (ap (λ b. refuse_if ENOTDIR (not b)) directory))

-- a node that is not an executable file has no bytes to execute; an executable file has its content
pub no_bytes : (o : Option Node) (k : Kind) (differs : Bool) → option_map kind_of_node o ≡ Some k → (k ≡ Executable → differs ≡ false) → differs ≡ true → executable_bytes o ≡ None
no_bytes None k differs is same reported = refl
no_bytes (Some (directory_node entries)) k differs is same reported = refl
no_bytes (Some (file_node false bytes)) k differs is same reported = refl
no_bytes (Some (file_node true bytes)) k differs is same reported = let executable : k ≡ Executable = cc in let no = same executable in cc
no_bytes (Some (link_node text)) k differs is same reported = refl

pub own_bytes : (o : Option Node) (k : Kind) → option_map kind_of_node o ≡ Some k → k ≡ Executable → executable_bytes o ≡ Some (bytes_of o)
own_bytes None k is executable = cc
own_bytes (Some (directory_node entries)) k is executable = cc
own_bytes (Some (file_node false bytes)) k is executable = cc
own_bytes (Some (file_node true bytes)) k is executable = refl
own_bytes (Some (link_node text)) k is executable = cc

-- an execve that reaches an executable file has its bytes to load
pub leads_to : (s : State) (me : Process) (path : Bytes) (place : Place) (n : ℕ) (bytes : Bytes) → IsPlaceReached s me me.directory (execve_walk path) place → node_of place ≡ Some n
    → executable_bytes (node_at s.tree n) ≡ Some bytes → bytes_to_load s me path ≡ done 1 bytes
leads_to s me path place n bytes is there has = rw (is.walked, is.judged, there, has) refl

-- an error in a line is an error of the program, so the bytes do not parse
pub unspelled : (fault : ParseFault) (line : ℕ) (what : What) (read : Result Program ParseFault) → fault ≡ Line line what → RefusesProgram fault read → read ≡ Err (Line line what)
unspelled fault line what read is refuses = subst (λ (f : ParseFault). RefusesProgram f read) is refuses

module _ (s : State) (pid : ℕ) (me : Process) (path : Bytes) (n : ℕ) (found : IsFound s me me.directory (execve_walk path) n) where
  -- the computation of execve on the bytes of an executable file, and on the node that it finds
  load_rest : Bytes → Attempt Effect
  load_rest bytes = demand ENOEXEC (program_of bytes) >>= (λ program. answers (with_process s pid (with_program s pid me program)) 0)

  execve_rest : ℕ → Attempt Effect
  execve_rest n = demand EACCES (executable_bytes (node_at s.tree n)) >>= load_rest

  pub execve_refused : executable_bytes (node_at s.tree n) ≡ None → execve s pid me program_of path ≡ refused 1 EACCES Plain
  unfolding execve_rest load_rest
  execve_refused other = found execve_rest ∙ ap (after_walks 1) (refused_first (demand EACCES (executable_bytes (node_at s.tree n))) load_rest 0 EACCES Plain (ap (demand EACCES) other))

  module _ (bytes : Bytes) (has : executable_bytes (node_at s.tree n) ≡ Some bytes) where
    loads : execve s pid me program_of path ≡ after_walks 1 (load_rest bytes)
    unfolding execve_rest load_rest
    loads = found execve_rest ∙ ap (after_walks 1) (given (demand EACCES (executable_bytes (node_at s.tree n))) bytes load_rest (ap (demand EACCES) has))

    pub execve_unspelled : program_of bytes ≡ None → execve s pid me program_of path ≡ refused 1 ENOEXEC Plain
    unfolding load_rest
    execve_unspelled none = loads ∙ ap (after_walks 1) (refused_first (demand ENOEXEC (program_of bytes)) _ 0 ENOEXEC Plain (ap (demand ENOEXEC) none))

    pub execve_goes : (program : Program) → program_of bytes ≡ Some program → execve s pid me program_of path ≡ done 1 (with_process s pid (with_program s pid me program), returns 0)
    unfolding load_rest
    execve_goes program encoded = loads ∙ ap (after_walks 1) (given (demand ENOEXEC (program_of bytes)) program _ (ap (demand ENOEXEC) encoded))
