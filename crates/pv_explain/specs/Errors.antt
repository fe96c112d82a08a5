-- Why a call failed that neither a promise nor an unveil table refused: the facts behind the error, in the state before
-- the call.
use Rattle.std.specs.Prelude.{◌≡◌, ℕ, zero, suc, ◌+◌, ◌-◌, ◌==◌, nat_lt, nat_le, ℤ, ◌⊎◌, Bool, true, false, not, ◌&&◌, ◌||◌, if◌then◌else◌, List, [], ◌∷◌, ◌++◌, codes, find, length, take, slice_index, Contains, Option, None, Some, is_none, option_map, unwrap_or, Result, Ok, Err}
use Rattle.std.specs.Fmt.{decimal, signed_decimal}
use Rattle.std.specs.Option.{option_or}
use Rattle.std.specs.Result.{is_ok}
use Rattle.pv_model.specs.declared.call.Call.{Call}
use Rattle.pv_model.specs.declared.call.Call.TheVariants.{Pledge, Unveil, Open, OpenAt, Close, Dup, Dup2, Read, Write, Lseek, Fstat, Ftruncate, Getdents, Fchdir, Readlink, Symlink, Rmdir, Rename}
use Rattle.pv_model.specs.declared.call.Start.{Start}
use Rattle.pv_model.specs.declared.call.Start.TheVariants.{WorkingDirectory, Descriptor as AtDescriptor}
use Rattle.pv_model.specs.declared.errno.Errno.{Errno}
use Rattle.pv_model.specs.declared.errno.Errno.TheVariants.{EPERM, ENOENT, E2BIG, ENOEXEC, EBADF, ECHILD, EACCES, EBUSY, EEXIST, ENOTDIR, EISDIR, EINVAL, ENFILE, EMFILE, EFBIG, ENOSPC, EAGAIN, ELOOP, ENAMETOOLONG, ENOTEMPTY}
use Rattle.pv_model.specs.declared.follow.Follow.{Follow}
use Rattle.pv_model.specs.declared.follow.Follow.TheVariants.{Last}
use Rattle.pv_model.specs.declared.limits.TheConstants.{LINK_TEXT}
use Rattle.pv_model.specs.declared.open_flags.Mode.{Mode}
use Rattle.pv_model.specs.declared.outcome.Cause.TheVariants.{Plain}
use Rattle.pv_model.specs.declared.outcome.Outcome.{Outcome}
use Rattle.pv_model.specs.declared.outcome.Outcome.TheVariants.{Failed}
use Rattle.pv_model.specs.declared.place.Place.{Place}
use Rattle.pv_model.specs.declared.place.Place.TheVariants.{At, Node as Unnamed}
use Rattle.pv_model.specs.Machine.{answer, AnswerLine, answer_line, Bytes, is_empty, is_directory_there, end_of, node_of, open_file, size_of, start_directory, program_of, Next, inside, calls_for, next, OpenFile, Process, State, reads, writes, process_at, mode_text, quote, Node, directory_node, file_node, link_node, Tree, is_directory_at, node_at, begins_walk, is_absolute, resolve, Walk, walks_of}
use Rattle.pv_model.specs.Answers.Explain.{explain_lines}
use Rattle.pv_model.specs.Perms.{permission_of}
use Rattle.pv_model.specs.Promises.{keywords, promise_of}
use Rattle.pv_model_questions.specs.ExplainMore.{Added, allowed_lines, execve_lines, explain_adding}
use Rattle.pv_explain.specs.declared.extra.Extra.{Extra}

-- a prefix of a path, and the end of the walk along it
pub record PrefixEnd : Type 0 where
  pub path : Bytes
  pub end : Result Place Errno

-- facts behind an error: a descriptor is not open, or is open in a mode on a node; a word or a byte of an argument is
-- unknown; the ends of walks; or the condition of the error, as its manual page states it
pub data Reason : Type 0 where
  no_descriptor : (d : ℤ) → Reason
  open_descriptor : (d : ℤ) (node : ℕ) (mode : Mode) → Reason
  unknown_keyword : (word : Bytes) → Reason
  unknown_permission : (byte : ℕ) → Reason
  one_path : (first : PrefixEnd) → Reason
  two_paths : (first second : PrefixEnd) → Reason
  in_words : (words : Bytes) → Reason

-- ---- paths

abbrev pub leads_to_directory : Tree → Result Place Errno → Bool
leads_to_directory t (Ok place) = is_directory_there t (node_of place)
leads_to_directory t (Err e) = false

-- whether a component of the path ends before byte k, which is a slash
abbrev pub ends_component : Bytes → ℕ → Bool
ends_component path k = nat_lt 0 k && (slice_index path k == 47) && not (slice_index path (k - 1) == 47)

module _ (t : Tree) (start : ℕ) (follow : Follow) (path : Bytes) where
  -- the end of the walk along the first k bytes; a final link is followed unless they are the whole path
  abbrev pub end_after : ℕ → Result Place Errno
  end_after k = if nat_lt k (length path) then resolve t Last start (take k path) else resolve t follow start path

  -- whether the walk cannot continue after the first k bytes
  abbrev pub stops_at : ℕ → Bool
  stops_at k = ends_component path k && not (leads_to_directory t (end_after k))

  -- the first of `count` bytes, from byte k on, at which the walk stops, or the byte after them
  abbrev pub first_stop : ℕ → ℕ → ℕ
  first_stop zero k = k
  first_stop (suc count) k = if stops_at k then k else first_stop count (k + 1)

  abbrev pub stop : ℕ
  stop = if begins_walk path then first_stop (length path) 0 else length path

  -- the shortest prefix of components that does not lead to a directory, or the path
  unfoldable pub prefix_end : PrefixEnd
  prefix_end = record { path = take stop path; end = end_after stop }

-- the walk along the whole path has an end
abbrev pub arrives : Bytes → PrefixEnd → Bool
arrives path x = (length x.path == length path) && is_ok x.end

-- ---- arguments

-- the first unknown keyword of an argument of pledge(2)
abbrev pub unknown_in : Option Bytes → Option Bytes
unknown_in None = None
unknown_in (Some text) = find (λ word. is_none (promise_of word)) (keywords text)

-- the first unknown permission of an argument of unveil(2)
abbrev pub unknown_byte : Bytes → Option ℕ
unknown_byte text = find (λ b. is_none (permission_of b)) text

abbrev pub is_valid_link : Bytes → Bool
is_valid_link text = not (is_empty text) && nat_le (length text) LINK_TEXT

-- the invalid argument of a call
abbrev pub invalid_argument : Call → Bytes
invalid_argument (Open path flags) = codes "the flags contradict each other"
invalid_argument (OpenAt start path flags) = codes "the flags contradict each other"
invalid_argument (Read d n) = codes "the number of bytes is not from 0 to 4096"
invalid_argument (Write d n) = codes "the number of bytes is not from 0 to 4096"
invalid_argument (Lseek d by whence) = codes "the offset would not be from 0 to 2147483647"
invalid_argument (Ftruncate d n) = codes "the length is below 0"
invalid_argument (Unveil path permissions) = codes "one of the two arguments is null"
invalid_argument (Rmdir path) = codes "the last component of the path is . or .."
invalid_argument (Rename path new) = codes "the last component of a path is . or .., or the new name is in the directory that is renamed"
invalid_argument call = codes "an argument is invalid"

-- the condition of an error in the manual page of the call
abbrev pub condition : Call → Errno → Bytes
condition call ENOENT = codes "the text is empty"
condition call ENAMETOOLONG = codes "the text has more than 1023 bytes"
condition call E2BIG = codes "the table has 64 entries"
condition call ENOEXEC = codes "the file is not a program"
condition call EBADF = codes "the second number is not from 0 to 15"
condition call ECHILD = codes "the process has no child"
condition call EINVAL = invalid_argument call
condition call ENFILE = codes "there are 128 open files"
condition call EMFILE = codes "the process has 16 descriptors"
condition call EFBIG = codes "a file or a directory would exceed its maximum length"
condition call ENOSPC = codes "the image has too few blocks or inodes"
condition call EAGAIN = codes "there are 32 processes, or the number of the new process would exceed 99999"
condition call e = codes "the call failed"

-- whether the error depends on the nodes at the ends of the call's paths
abbrev pub is_path_errno : Errno → Bool
is_path_errno EPERM = true
is_path_errno ENOENT = true
is_path_errno EBADF = true
is_path_errno EACCES = true
is_path_errno EBUSY = true
is_path_errno EEXIST = true
is_path_errno ENOTDIR = true
is_path_errno EISDIR = true
is_path_errno ELOOP = true
is_path_errno ENAMETOOLONG = true
is_path_errno ENOTEMPTY = true
is_path_errno e = false

abbrev pub is_of_path : Call → Errno → Bool
is_of_path (Readlink path) e = true
is_of_path call e = is_path_errno e

abbrev pub start_descriptor : Start → Option ℤ
start_descriptor WorkingDirectory = None
start_descriptor (AtDescriptor d) = Some d

-- the descriptor where a path starts, if the path is relative and the error can depend on it
abbrev pub start_used : Start → Bytes → Errno → Option ℤ
start_used start path e = if is_absolute path || not (is_path_errno e) then None else start_descriptor start

-- the descriptor that the call needs, if the error can depend on it
abbrev pub descriptor_used : Call → Errno → Option ℤ
descriptor_used (Close d) e = Some d
descriptor_used (Dup d) e = Some d
descriptor_used (Dup2 d new) e = Some d
descriptor_used (Read d n) e = Some d
descriptor_used (Write d n) e = Some d
descriptor_used (Lseek d by whence) e = Some d
descriptor_used (Fstat d) e = Some d
descriptor_used (Ftruncate d n) e = Some d
descriptor_used (Getdents d) e = Some d
descriptor_used (Fchdir d) e = Some d
descriptor_used (OpenAt start path flags) e = start_used start path e
descriptor_used call e = None

abbrev pub is_EISDIR : Errno → Bool
is_EISDIR EISDIR = true
is_EISDIR e = false

-- whether the call failed because its descriptor is open in this mode on this node
abbrev pub misfits : Tree → Call → Errno → ℕ → Mode → Bool
misfits t (Read d n) e node mode = not (reads mode) || (is_EISDIR e && is_directory_at t node)
misfits t (Write d n) e node mode = not (writes mode)
misfits t (Lseek d by whence) e node mode = is_directory_at t node
misfits t (Ftruncate d n) e node mode = not (writes mode)
misfits t (Getdents d) e node mode = not (is_directory_at t node)
misfits t (Fchdir d) e node mode = not (is_directory_at t node)
misfits t (OpenAt start path flags) e node mode = not (is_directory_at t node)
misfits t call e node mode = false

-- ---- the reason

abbrev pub words_reason : Call → Errno → Reason
words_reason call e = in_words (condition call e)

-- an argument that no state allows
abbrev pub argument_reason : Call → Errno → Option Reason
argument_reason (Pledge promises execpromises) e = option_map unknown_keyword (option_or (unknown_in promises) (unknown_in execpromises))
argument_reason (Unveil (Some path) (Some text)) e = option_map unknown_permission (unknown_byte text)
argument_reason (Symlink text path) e = if is_valid_link text then None else Some (words_reason (Symlink text path) e)
argument_reason call e = None

module _ (s : State) (p : Process) where
  -- the directory where a relative path of a walk starts: the working directory, if the descriptor is of no directory
  abbrev pub start_of : Start → Bytes → ℕ
  start_of start path = let d = start_directory s p start path in if is_directory_at s.tree d then d else p.directory

  abbrev pub walk_prefix : Walk → PrefixEnd
  walk_prefix w = prefix_end s.tree (start_of w.start w.path) w.follow w.path

  abbrev pub two_walks : Walk → Walk → Reason
  two_walks w v = if arrives w.path (walk_prefix w) then two_paths (walk_prefix w) (walk_prefix v) else one_path (walk_prefix w)

  module _ (call : Call) (e : Errno) where
    abbrev pub walks_reason : List Walk → Reason
    walks_reason [] = words_reason call e
    walks_reason (w ∷ []) = one_path (walk_prefix w)
    walks_reason (w ∷ v ∷ ws) = two_walks w v

    abbrev pub path_reason : Reason
    path_reason = if is_of_path call e then walks_reason (walks_of call) else words_reason call e

    abbrev pub file_reason : ℤ → Option (ℕ × OpenFile) → Reason
    file_reason d None = no_descriptor d
    file_reason d (Some (k, file)) = if misfits s.tree call e file.node file.mode then open_descriptor d file.node file.mode else path_reason

    abbrev pub descriptor_reason : Option ℤ → Reason
    descriptor_reason None = path_reason
    descriptor_reason (Some d) = file_reason d (open_file s p d)

    -- the reason of an error of the call
    unfoldable pub error_reason : Reason
    error_reason = unwrap_or (argument_reason call e) (descriptor_reason (descriptor_used call e))

-- ---- the text

abbrev pub kind_text : Node → Bytes
kind_text (directory_node entries) = codes " is a directory"
kind_text (file_node false bytes) = codes " is a file"
kind_text (file_node true bytes) = codes " is an executable file"
kind_text (link_node text) = codes " is a link"

-- the kind of a node, its number and its size
abbrev pub node_facts : ℕ → Option Node → Bytes
node_facts n None = codes " is node " ++ decimal n
node_facts n (Some node) = kind_text node ++ codes ", node " ++ decimal n ++ codes ", size " ++ decimal (size_of node)

abbrev pub failure_text : Errno → Bytes
failure_text ENOENT = codes " does not exist"
failure_text ENOTDIR = codes " leads through a file"
failure_text ELOOP = codes " leads to a 33rd link"
failure_text ENAMETOOLONG = codes " is too long, or leads to a name or a path that is"
failure_text e = codes " leads nowhere"

abbrev pub node_or_absence_text : Tree → Option ℕ → Bytes
node_or_absence_text t None = codes " does not exist"
node_or_absence_text t (Some n) = node_facts n (node_at t n)

abbrev pub end_text : Tree → Result Place Errno → Bytes
end_text t (Ok (At d name n)) = node_or_absence_text t n
end_text t (Ok (Unnamed n)) = node_facts n (node_at t n) ++ codes ", without a name"
end_text t (Err e) = failure_text e

abbrev pub prefix_text : Tree → PrefixEnd → Bytes
prefix_text t x = quote x.path ++ end_text t x.end

abbrev pub reason_text : Tree → Reason → Bytes
reason_text t (no_descriptor d) = codes "no descriptor " ++ signed_decimal d
reason_text t (open_descriptor d n mode) = codes "descriptor " ++ signed_decimal d ++ node_facts n (node_at t n) ++ codes ", open " ++ mode_text mode
reason_text t (unknown_keyword word) = codes "unknown keyword " ++ quote word
reason_text t (unknown_permission b) = codes "unknown permission " ++ quote (b ∷ [])
reason_text t (one_path x) = prefix_text t x
reason_text t (two_paths x y) = prefix_text t x ++ codes "; " ++ prefix_text t y
reason_text t (in_words words) = words

-- ---- the lines

-- the error of a call that neither a promise nor a table refused
abbrev pub plain_error : Outcome → Option Errno
plain_error (Failed e Plain) = Some e
plain_error outcome = None

-- the line of the reason of an error
abbrev pub error_line : ℕ → State → Process → Call → Option Errno → List AnswerLine
error_line pid s p call None = []
error_line pid s p call (Some e) = answer_line pid (codes "WHY") (reason_text s.tree (error_reason s p call e)) ∷ []

abbrev pub error_lines_by : ℕ → State → Process → Call → Outcome → List AnswerLine
error_lines_by pid s p call outcome = error_line pid s p call (plain_error outcome)

abbrev pub error_lines_next : State → ℕ → Process → Next → List AnswerLine
error_lines_next s pid p (inside q) = []
error_lines_next s pid p (calls_for call) = error_lines_by pid s p call (answer program_of s pid call).outcome

abbrev pub error_lines_of : State → ℕ → Option Process → List AnswerLine
error_lines_of s pid None = []
error_lines_of s pid (Some p) = error_lines_next s pid p (next p)

-- the line of the error of a step
unfoldable pub error_lines : State → ℕ → List AnswerLine
error_lines s pid = error_lines_of s pid (process_at s pid)

-- the lines added to a step: why its walks were allowed, the reason of its error, and the effect of an execve
abbrev pub added_by : Extra → Added
added_by extra source s pid =
    (if extra.allowed then allowed_lines source s pid else []) ++ (if extra.errors then error_lines s pid ++ execve_lines s pid else [])

-- the lines of a run with their explanations and the lines added to them
unfoldable pub explained_lines : Extra → List ℕ → State → List AnswerLine
explained_lines extra pids s = explain_adding (added_by extra) 1 [] pids s

abbrev pub no_lines : Added
no_lines source s pid = []

-- a brief explanation has no added lines
abbrev pub brief : Extra
brief = record { errors = false; allowed = false }

-- without added lines, and in a brief explanation, these are the lines of the model
abbrev pub AddsNothingElse : Type 0
AddsNothingElse =
    (pids : List ℕ) (s : State)
    → (explain_adding no_lines 1 [] pids s ≡ explain_lines program_of pids s) × (explained_lines brief pids s ≡ explain_lines program_of pids s)

-- ---- a reason is true

-- a prefix of the path of a walk of the call, and the end of the walk along it
pub record IsPrefixEnd (s : State) (p : Process) (w : Walk) (x : PrefixEnd) : Type 0 where
  pub follow : Follow
  pub rest : Bytes
  pub prefix : w.path ≡ x.path ++ rest
  pub end : resolve s.tree follow (start_directory s p w.start w.path) x.path ≡ x.end
  pub whole : rest ≡ [] → x.end ≡ end_of s p w

-- a text is an argument of pledge(2)
abbrev pub IsPromisesText : Call → Bytes → Type 0
IsPromisesText (Pledge promises execpromises) text = (promises ≡ Some text) ⊎ (execpromises ≡ Some text)
IsPromisesText call text = ⊥

module _ (s : State) (p : Process) (call : Call) (e : Errno) where
  -- the statement of a reason is true in the state before the call
  abbrev pub ReasonHolds : Reason → Type 0
  ReasonHolds (no_descriptor d) = (descriptor_used call e ≡ Some d) × (open_file s p d ≡ None)
  ReasonHolds (open_descriptor d node mode) =
      (k : ℕ) × (file : OpenFile) × (descriptor_used call e ≡ Some d) × (open_file s p d ≡ Some (k, file)) × (file.node ≡ node) × (file.mode ≡ mode)
      × (misfits s.tree call e node mode ≡ true)
  ReasonHolds (unknown_keyword word) = (text : Bytes) × IsPromisesText call text × Contains (keywords text) word × (promise_of word ≡ None)
  ReasonHolds (unknown_permission b) = (path text : Bytes) × (call ≡ Unveil (Some path) (Some text)) × Contains text b × (permission_of b ≡ None)
  ReasonHolds (one_path x) = (w : Walk) × Contains (walks_of call) w × IsPrefixEnd s p w x
  ReasonHolds (two_paths x y) = (w v : Walk) × (ws : List Walk) × (walks_of call ≡ w ∷ v ∷ ws) × IsPrefixEnd s p w x × (x.end ≡ end_of s p w) × IsPrefixEnd s p v y
  ReasonHolds (in_words words) = words ≡ condition call e

-- the reason of an error is true in the state before the call
abbrev pub ReasonsHold : Type 0
ReasonsHold = (s : State) (p : Process) (call : Call) (e : Errno) → ReasonHolds s p call e (error_reason s p call e)
