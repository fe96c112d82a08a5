-- A step that does not read a file, compared with the same step with other bytes in the file.
use Rattle.std.proofs.Common.{◌≡◌, ◌∙◌, sym, ap, refl, ℕ, ◌<◌, Bool, true, false, if◌then◌else◌, [], ◌∷◌, length, bytes_eq, Option, None, Some, Ok, Err, inl, inr, ⊎_elim, arith}
use Rattle.std.specs.List.{All, list_all}
use Rattle.std.proofs.lemmas.Bool.{and_parts, ltb-true}
use Rattle.std.proofs.lemmas.List.Elements.{All-cons, All-nil}
use Rattle.pv_model.specs.declared.call.Call.{Call}
use Rattle.pv_model.specs.declared.call.Call.TheVariants as TheCall
use Rattle.pv_model.specs.declared.errno.Errno.{Errno}
use Rattle.pv_model.specs.declared.errno.Errno.TheVariants.{ENOENT, ENOEXEC, EBADF, EACCES, EINVAL, EISDIR}
use Rattle.pv_model.specs.declared.judgement.Judgement.{Judgement}
use Rattle.pv_model.specs.declared.judgement.Judgement.TheVariants.{Allowed, Hidden, Denied}
use Rattle.pv_model.specs.Machine.{answer, answer_of, answer_where, answer_by_attempt, at_next_line, effect, Attempt, done, refused, after_walks, ◌>>=◌, ◌>>◌, refuse_if, demand, Bytes, open_file_for, within, with_content_of, with_content, executable_bytes, Effect, returns, returns_bytes, ends, waits, place_or_refusal, judgement_or_refusal, node_of, bytes_of, end_of, needs, calls_for, next, missing_promise, is_file, Program, Process, State, reads, process_at, with_tree, Stepped, step, step_by, read_file, file_bytes, with_bytes, Touches, Node, directory_node, file_node, link_node, Tree, node_at, is_directory_at, judgement, Walked, begins_walk, execve_walk}
use Rattle.pv_model.specs.Touch.{SameButFile}
use Rattle.pv_laws_trees.proofs.DirectoryEntries.{bytes_eq-same, bytes_eq-itself}
use Rattle.pv_laws_trees.proofs.NumberedMaps.{at_number-below, with_number-same}
use Rattle.pv_laws_trees.specs.Encoded.{is_byte}
use Rattle.pv_laws_states.specs.States.{IsValid}
use Rattle.pv_laws_states.proofs.OtherInsidesCalls.{lines-alike}
use Rattle.pv_laws_states.proofs.CallOutcomes.{at_call}
use Rattle.pv_laws_states.proofs.CallRemainders
use Rattle.pv_laws_access.specs.Justice.{reads_bytes, changes_bytes}
use Rattle.pv_laws_access.specs.Secrets.{StepsDifferInFile}
use Rattle.pv_laws_access.proofs.ProcessesAfterEnds.{step-is}
use Rattle.pv_laws_access.proofs.JustifiedChanges.{files-changed}
use Rattle.pv_laws_access.proofs.JustifiedReads.{near-or_read}
use Rattle.pv_laws_access.proofs.SimilarTrees.{as_is, as_is-fine, near-length_of, same-but_file}
use Rattle.pv_laws_access.proofs.WalkDecisions.{walks_in}
use Rattle.pv_laws_answers.proofs.EqualSteps.{outcome-same, state-same}

-- ---- the number of walks of a call that reads bytes

walks-after : {A : Type 0} (n : ℕ) (a : Attempt A) → walks_in a ≡ 0 → walks_in (after_walks n a) ≡ n
walks-after n (done walks value) is = omega (arith, is)
walks-after n (refused walks errno cause) is = omega (arith, is)

walks-bind : {A B : Type 0} (n : ℕ) (a : Attempt A) (k : A → Attempt B) → walks_in a ≡ n → ((value : A) → walks_in (k value) ≡ 0) → walks_in (a >>= k) ≡ n
walks-bind n (done walks value) k is none = walks-after walks (k value) (none value) ∙ is
walks-bind n (refused walks errno cause) k is none = is

walks-then : {A B : Type 0} (n : ℕ) (a : Attempt A) (b : Attempt B) → walks_in a ≡ n → walks_in b ≡ 0 → walks_in (a >> b) ≡ n
walks-then n (done walks value) b is none = walks-after walks b none ∙ is
walks-then n (refused walks errno cause) b is none = is

walks-demand : {A : Type 0} (e : Errno) (o : Option A) → walks_in (demand e o) ≡ 0
walks-demand e None = refl
walks-demand e (Some value) = refl

walks-refuse : (e : Errno) (b : Bool) → walks_in (refuse_if e b) ≡ 0
walks-refuse e true = refl
walks-refuse e false = refl

walks-judge : (j : Judgement) → walks_in (judgement_or_refusal j) ≡ 0
walks-judge Allowed = refl
walks-judge Hidden = refl
walks-judge (Denied k) = refl

walks-place : (n : ℕ) (r : Walked) → walks_in (place_or_refusal n r) ≡ n
walks-place n (Ok place) = refl
walks-place n (Err e) = refl

abbrev reading_walks : Call → ℕ
reading_walks (TheCall.Execve path) = if begins_walk path then 1 else 0
reading_walks call = 0

effect-walks : (program_of : Bytes → Option Program) (s : State) (pid : ℕ) (me : Process) (call : Call) → reads_bytes call ≡ true → walks_in (effect program_of s pid me call) ≡ reading_walks call
unfolding effect
effect-walks program_of s pid me (TheCall.Read d n) is =
    walks-bind 0 (demand EBADF (open_file_for s pid me reads d)) (CallRemainders.read_1 s pid me n) (walks-demand EBADF (open_file_for s pid me reads d)) (λ g.
    walks-bind 0 (demand EINVAL (within 4096 n)) (CallRemainders.read_2 s pid me g.0 g.1) (walks-demand EINVAL (within 4096 n)) (λ count.
    walks-then 0 (refuse_if EISDIR (is_directory_at s.tree g.1.node)) (CallRemainders.read_3 s pid me g.0 g.1 count) (walks-refuse EISDIR (is_directory_at s.tree g.1.node)) refl))
effect-walks program_of s pid me (TheCall.Execve path) is =
    let w = execve_walk path in
    walks-bind (if begins_walk path then 1 else 0) (place_or_refusal (if begins_walk path then 1 else 0) (end_of s me w)) (λ place. judgement_or_refusal (judgement s.tree me.table place w.needed) >> CallRemainders.execve_1 s pid me program_of place)
    (walks-place (if begins_walk path then 1 else 0) (end_of s me w)) (λ place.
    walks-then 0 (judgement_or_refusal (judgement s.tree me.table place w.needed)) (CallRemainders.execve_1 s pid me program_of place) (walks-judge (judgement s.tree me.table place w.needed))
    (walks-bind 0 (demand ENOENT (node_of place)) (CallRemainders.execve_2 s pid me program_of) (walks-demand ENOENT (node_of place)) (λ n.
    walks-bind 0 (demand EACCES (executable_bytes (node_at s.tree n))) (CallRemainders.execve_3 s pid me program_of) (walks-demand EACCES (executable_bytes (node_at s.tree n))) (λ bytes.
    walks-bind 0 (demand ENOEXEC (program_of bytes)) (CallRemainders.execve_4 s pid me) (walks-demand ENOEXEC (program_of bytes)) (λ program. refl)))))
effect-walks program_of s pid me call is = let bad : false ≡ true = is in cc bad

walks-ends : (before x : State) (pid : ℕ) (me : Process) (a : Attempt Effect) → (answer_by_attempt before x pid me a).walks ≡ walks_in a
walks-ends before x pid me (done walks (after, returns n)) = refl
walks-ends before x pid me (done walks (after, returns_bytes n bytes)) = refl
walks-ends before x pid me (done walks (after, ends status)) = refl
walks-ends before x pid me (done walks (after, waits)) = refl
walks-ends before x pid me (refused walks errno cause) = refl

answer-walks : (program_of : Bytes → Option Program) (s : State) (pid : ℕ) (me : Process) (call : Call) → process_at s pid ≡ Some me → missing_promise me.promises (needs call) ≡ None
    → reads_bytes call ≡ true → (answer program_of s pid call).walks ≡ reading_walks call
unfolding answer
answer-walks program_of s pid me call at held is =
    ap (λ (o : Option Process). (answer_of program_of s pid call o).walks) at
    ∙ ap (λ o. (answer_where program_of s (at_call s pid me) pid (at_next_line me) call o).walks) held
    ∙ walks-ends s (at_call s pid me) pid (at_next_line me) (effect program_of (at_call s pid me) pid (at_next_line me) call)
    ∙ effect-walks program_of (at_call s pid me) pid (at_next_line me) call is

reads-leaves : (call : Call) → reads_bytes call ≡ true → changes_bytes call ≡ true → ⊥
reads-leaves (TheCall.Read d n) is changes = let bad : false ≡ true = changes in cc bad
reads-leaves (TheCall.Execve path) is changes = let bad : false ≡ true = changes in cc bad
reads-leaves call is changes = let bad : false ≡ true = is in cc bad

-- ---- a file with other bytes

content-none : (t : Tree) (f : ℕ) (bytes : Bytes) → is_file (node_at t f) ≡ false → with_content t f bytes ≡ t
content-none t f bytes none = by (node_at t f) none
  where
    by : (o : Option Node) → is_file o ≡ false → with_content_of t f o bytes ≡ t
    by None is = refl
    by (Some (directory_node es)) is = refl
    by (Some (link_node text)) is = refl
    by (Some (file_node executable old)) is = let bad : true ≡ false = is in cc bad

record HasBytes (t : Tree) (f : ℕ) (bytes : Bytes) : Type 0 where
  executable : Bool
  node : node_at t f ≡ Some (file_node executable bytes)

content-has : (t : Tree) (f : ℕ) (bytes : Bytes) → is_file (node_at t f) ≡ true → HasBytes (with_content t f bytes) f bytes
content-has t f bytes file = by (node_at t f) refl file
  where
    by : (o : Option Node) → node_at t f ≡ o → is_file o ≡ true → HasBytes (with_content t f bytes) f bytes
    by None at is = let bad : false ≡ true = is in cc bad
    by (Some (directory_node es)) at is = let bad : false ≡ true = is in cc bad
    by (Some (link_node text)) at is = let bad : false ≡ true = is in cc bad
    by (Some (file_node executable old)) at is = record {
      executable = executable;
      node = ap (λ o. node_at (with_content_of t f o bytes) f) at
          ∙ with_number-same t.nodes f (file_node executable bytes) (at_number-below t.nodes f (file_node executable old) at);
    }

all-bytes : (bytes : Bytes) → list_all is_byte bytes ≡ true → All (λ b. b < 256) bytes
all-bytes [] is = All-nil (λ b. b < 256)
all-bytes (b ∷ bytes) is =
    let parts = and_parts (is_byte b) (list_all is_byte bytes) is in
    All-cons (λ b. b < 256) b bytes (ltb-true b 256 parts.0) (all-bytes bytes parts.1)

all-of_none : (bytes : Bytes) → length bytes ≡ 0 → All (λ b. b < 256) bytes
all-of_none [] is = All-nil (λ b. b < 256)
all-of_none (b ∷ bytes) is = absurd (omega (arith, is))

none-long : (o : Option Node) → is_file o ≡ false → length (bytes_of o) ≡ 0
none-long None is = refl
none-long (Some (directory_node es)) is = refl
none-long (Some (link_node text)) is = refl
none-long (Some (file_node executable old)) is = let bad : true ≡ false = is in cc bad

-- ---- the step

module _ (program_of : Bytes → Option Program) (s : State) (pid f : ℕ) (bytes : Bytes) (whole : IsValid s) (other_whole : IsValid (with_bytes s f bytes))
    (long : length bytes ≡ length (file_bytes s f)) where
  abbrev u : State
  u = with_bytes s f bytes

  abbrev a : Stepped
  a = step program_of s pid

  abbrev b : Stepped
  b = step program_of u pid

  bytes-fit : All (λ b. b < 256) bytes
  bytes-fit = by (is_file (node_at s.tree f)) refl
    where
      by : (yes : Bool) → is_file (node_at s.tree f) ≡ yes → All (λ b. b < 256) bytes
      by true file = let has = content-has s.tree f bytes file in all-bytes bytes (other_whole.tree.bytes f (file_node has.executable bytes) has.node)
      by false none = all-of_none bytes (long ∙ none-long (node_at s.tree f) none)

  module _ (unread : Touches program_of s pid (read_file f) → ⊥) where
    outcome-alike : b.outcome ≡ a.outcome
    outcome-alike = outcome-same b.outcome a.outcome (λ differs. unread (bytes, bytes-fit, long, inl differs))

    after-alike : SameButFile f a.after b.after
    after-alike = state-same (with_bytes a.after f (file_bytes b.after f)) b.after (λ differs. unread (bytes, bytes-fit, long, inr differs))

    module _ (me : Process) (call : Call) (at : process_at s pid ≡ Some me) (next_is : next me ≡ calls_for call) (held : missing_promise me.promises (needs call) ≡ None)
        (reading : reads_bytes call ≡ true) where
      by-call : (x : State) → process_at x pid ≡ Some me → step program_of x pid ≡ step_by program_of x pid me (calls_for call)
      by-call x there = step-is program_of x pid me there ∙ ap (step_by program_of x pid me) next_is

      lines-same : b.lines ≡ a.lines
      lines-same =
          ap (λ (w : Stepped). w.lines) (by-call u at)
          ∙ lines-alike pid me call (answer program_of u pid call) (answer program_of s pid call) (record {
            outcome = sym (ap (λ (w : Stepped). w.outcome) (by-call u at)) ∙ outcome-alike ∙ ap (λ (w : Stepped). w.outcome) (by-call s at);
            walks = answer-walks program_of u pid me call at held reading ∙ sym (answer-walks program_of s pid me call at held reading);
            buffer = λ n len said.
                ap (λ (w : Stepped). process_at w.after pid) (sym (by-call u at))
                ∙ ap (λ (y : State). process_at y pid) (sym after-alike)
                ∙ ap (λ (w : Stepped). process_at w.after pid) (by-call s at);
          })
          ∙ ap (λ (w : Stepped). w.lines) (sym (by-call s at))

      -- the file keeps its bytes, if it stays
      keeps : (x : State) → IsValid x → process_at x pid ≡ Some me → is_file (node_at x.tree f) ≡ true → is_file (node_at (step program_of x pid).after.tree f) ≡ true
          → file_bytes (step program_of x pid).after f ≡ file_bytes x f
      keeps x fine there before after = by (bytes_eq (file_bytes (step program_of x pid).after f) (file_bytes x f)) refl
        where
          by : (equal : Bool) → bytes_eq (file_bytes (step program_of x pid).after f) (file_bytes x f) ≡ equal → file_bytes (step program_of x pid).after f ≡ file_bytes x f
          by true is = bytes_eq-same (file_bytes (step program_of x pid).after f) (file_bytes x f) is
          by false is =
              let e = files-changed program_of x pid f fine (
                before,
                after,
                λ same.
                    let yes = bytes_eq-itself (file_bytes x f) in
                    let both : true ≡ false = sym yes ∙ ap (λ bs. bytes_eq bs (file_bytes x f)) (sym same) ∙ is in cc both,
              ) in
              let who : e.0 ≡ me = let both : Some e.0 ≡ Some me = sym e.2 ∙ there in cc both in
              let what : e.1 ≡ call = let both : calls_for e.1 ≡ calls_for call = sym e.3 ∙ ap next who ∙ next_is in cc both in
              absurd (reads-leaves call reading (ap changes_bytes (sym what) ∙ e.5.0))

      as-many : length (file_bytes b.after f) ≡ length (file_bytes a.after f)
      as-many = by (is_file (node_at a.after.tree f)) refl (is_file (node_at s.tree f)) refl
        where
          by : (stays : Bool) → is_file (node_at a.after.tree f) ≡ stays → (was : Bool) → is_file (node_at s.tree f) ≡ was → length (file_bytes b.after f) ≡ length (file_bytes a.after f)
          by false gone was is = ap (λ (y : State). length (file_bytes y f)) (sym after-alike ∙ ap (with_tree a.after) (content-none a.after.tree f (file_bytes b.after f) gone))
          by true stays false none = ap (λ (y : State). length (file_bytes (step program_of y pid).after f)) (ap (with_tree s) (content-none s.tree f bytes none))
          by true stays true file =
              let has = content-has s.tree f bytes file in
              let left = content-has a.after.tree f (file_bytes b.after f) stays in
              let there : is_file (node_at b.after.tree f) ≡ true = ap (λ (y : State). is_file (node_at y.tree f)) (sym after-alike) ∙ ap is_file left.node in
              let own : file_bytes b.after f ≡ bytes = keeps u other_whole at (ap is_file has.node) there ∙ ap bytes_of has.node in
              ap length own ∙ long ∙ ap length (sym (keeps s whole at file stays))

      reading-alike : StepsDifferInFile f a b
      reading-alike = record { outcome = outcome-alike; lines = lines-same; after = after-alike; as_many = as-many }

-- with other bytes of equal length, a step that does not read the file has the same outcome and lines, and the next
-- states differ only in these bytes
pub unread-alike : (program_of : Bytes → Option Program) (s : State) (pid f : ℕ) (bytes : Bytes) → IsValid s → IsValid (with_bytes s f bytes) → length bytes ≡ length (file_bytes s f)
    → ((p : Process) → process_at s pid ≡ Some p → Touches program_of s pid (read_file f) → ⊥) → StepsDifferInFile f (step program_of s pid) (step program_of (with_bytes s f bytes) pid)
unread-alike program_of s pid f bytes whole other_whole long unread =
    ⊎_elim
    (λ e. reading-alike program_of s pid f bytes whole other_whole long (unread e.0 e.2) e.0 e.1 e.2 e.3 e.4 e.5.0)
    (λ near. record {
      outcome = near.outcome;
      lines = near.lines;
      after = same-but_file as_is f (step program_of s pid).after (step program_of (with_bytes s f bytes) pid).after near.after;
      as_many = near-length_of as_is f (step program_of s pid).after (step program_of (with_bytes s f bytes) pid).after near.after;
    })
    (near-or_read as_is as_is-fine program_of s pid f bytes long (λ by m n same. same))
