-- Calls that inspect a path.
use Rattle.std.proofs.Common.{◌≡◌, ◌∙◌, ℕ, ◌≤◌, ◌-◌, min, pos, negsuc, true, false, [], ◌∷◌, ◌++◌, length, take, drop, Option, None, Some, refl, ap, sym, arith}
use Rattle.std.proofs.lemmas.Bool.{and_parts, leb-true}
use Rattle.pv_calls_plain.specs.declared.answer.Answer.{Answer}
use Rattle.pv_calls_plain.specs.declared.answer.Refused.{Refused}
use Rattle.pv_calls_plain.specs.Performed.{answered}
use Rattle.pv_calls_path.specs.Reached.{IsFound}
use Rattle.pv_namei.specs.OfDirs.Trees.{node_bytes_at, stored_bytes_of}
use Rattle.pv_laws_states.specs.States.{IsValid}
use Rattle.pv_model.specs.declared.call.Start.TheVariants.{WorkingDirectory}
use Rattle.pv_model.specs.declared.errno.Errno.TheVariants.{EINVAL, ENOENT}
use Rattle.pv_model.specs.declared.outcome.Cause.TheVariants.{Plain}
use Rattle.pv_model.specs.Machine.{Answered, answer_by_attempt, with_front, Attempt, done, refused, after_walks, demand, ◌>>=◌, ◌>>◌, Bytes, is_link, link_text, readlink, stat_at, with_result, Effect, answers_bytes, judge_for, node_of, returns_bytes, status, walk_from, errno_number, Process, State, process_at, Node, directory_node, file_node, link_node, Tree, find_entry, is_directory, is_link_text, node_at, Walk}
use Rattle.pv_model.specs.Walks.{readlink_walk}
use Rattle.pv_laws_trees.specs.Found.{AreEqualLookups}
use Rattle.pv_calls_plain.proofs.OfCallsState.AttemptSequences.{given, refused_first}
use Rattle.pv_calls_path.proofs.DirectoryNames.{alike_update, update_tree}

-- ---- names in directories after the report to a process

pub names-refused : (s : State) (pid : ℕ) (me : Process) (r : Refused) (new : State) (answer : Answer)
    → answer_by_attempt s s pid me (refused r.walks r.errno r.cause) ≡ answered new answer → AreEqualLookups (find_entry s.tree) (find_entry new.tree)
names-refused s pid me r new answer is d name =
    sym (ap (λ (x : Answered). find_entry x.after.tree d name) is)
    ∙ ap (λ (t : Tree). find_entry t d name) (update_tree s pid (λ p. with_result p (negsuc 0) (errno_number r.errno)) (process_at s pid))

pub names-reported : (s : State) → IsValid s → (pid : ℕ) (me : Process) (walks value : ℕ) (bytes : Bytes) (new : State) (answer : Answer)
    → answer_by_attempt s s pid me (done walks (s, returns_bytes value bytes)) ≡ answered new answer → AreEqualLookups (find_entry s.tree) (find_entry new.tree)
names-reported s whole pid me walks value bytes new answer is =
    alike_update s whole pid (λ p. with_front bytes (with_result p (pos value) 0)) new (sym (ap (λ (x : Answered). x.after) is))

-- the computation of stat at the end of a walk from the working directory
pub stat-walks : (s : State) (pid : ℕ) (me : Process) (w : Walk) → w.start ≡ WorkingDirectory
    → stat_at s pid me w ≡ (walk_from s me.directory w.follow w.path >>= (λ place. judge_for s me place w.needed >> (demand ENOENT (node_of place) >>= (λ n. answers_bytes s 0 (status s.tree n)))))
stat-walks s pid me w here = rw here refl

-- ---- links

text-of : (o : Option Node) → is_link o ≡ true → link_text o ≡ Some (stored_bytes_of o)
text-of None is = cc
text-of (Some (directory_node es)) is = cc
text-of (Some (file_node executable bytes)) is = cc
text-of (Some (link_node text)) is = refl

no-text : (o : Option Node) → is_link o ≡ false → link_text o ≡ None
no-text None is = refl
no-text (Some (directory_node es)) is = refl
no-text (Some (file_node executable bytes)) is = refl
no-text (Some (link_node text)) is = cc

pub link-plain : (o : Option Node) → is_link o ≡ true → is_directory o ≡ false
link-plain None is = cc
link-plain (Some (directory_node es)) is = cc
link-plain (Some (file_node executable bytes)) is = cc
link-plain (Some (link_node text)) is = refl

-- the text of a link fits its buffer
pub text-short : (s : State) → IsValid s → (n : ℕ) → is_link (node_at s.tree n) ≡ true → length (node_bytes_at s.tree n) ≤ 1023
text-short s whole n = by (node_at s.tree n) refl
  where
    by : (o : Option Node) → node_at s.tree n ≡ o → is_link o ≡ true → length (stored_bytes_of o) ≤ 1023
    by None at is = cc
    by (Some (directory_node es)) at is = cc
    by (Some (file_node executable bytes)) at is = cc
    by (Some (link_node text)) at is =
        let good : is_link_text text ≡ true = whole.tree.well_formed.each_node n (link_node text) at in
        leb-true (length text) 1023 (and_parts _ _ (and_parts _ _ good).0).1

all-taken : (bytes rest : Bytes) → take (length bytes) (take (length bytes) bytes ++ rest) ≡ bytes
all-taken [] rest = refl
all-taken (b ∷ bytes) rest = ap (λ bs. b ∷ bs) (all-taken bytes rest)

-- a read to a buffer with enough room yields the complete text
pub whole-text : (count : ℕ) (bytes old new : Bytes) → length bytes ≤ 1023 → length old ≡ 1023 → count ≡ min (length old) (length bytes - 0) → new ≡ take count (drop 0 bytes) ++ drop count old
    → (count ≡ length bytes) × (take count new ≡ bytes)
whole-text count bytes old new short room number is =
    let all : count ≡ length bytes = omega (arith, short, room, number) in
    (all, ap (take count) is ∙ ap (λ k. take k (take k bytes ++ drop k old)) all ∙ all-taken bytes (drop (length bytes) old))

-- the computation of readlink on the node that it finds
abbrev pub link_rest : State → ℕ → Attempt Effect
link_rest s n = demand EINVAL (link_text (node_at s.tree n)) >>= (λ text. answers_bytes s (length text) text)

module _ (s : State) (pid : ℕ) (me : Process) (path : Bytes) (n : ℕ) (found : IsFound s me me.directory (readlink_walk path) n) where
  pub readlink-is : is_link (node_at s.tree n) ≡ true → readlink s pid me path ≡ done 1 (s, returns_bytes (length (node_bytes_at s.tree n)) (node_bytes_at s.tree n))
  readlink-is link =
      found (link_rest s)
      ∙ ap (after_walks 1)
      (given (demand EINVAL (link_text (node_at s.tree n))) (node_bytes_at s.tree n) (λ text. answers_bytes s (length text) text) (ap (demand EINVAL) (text-of (node_at s.tree n) link)))

  pub readlink-not : is_link (node_at s.tree n) ≡ false → readlink s pid me path ≡ refused 1 EINVAL Plain
  readlink-not other =
      found (link_rest s)
      ∙ ap (after_walks 1)
      (refused_first (demand EINVAL (link_text (node_at s.tree n))) (λ text. answers_bytes s (length text) text) 0 EINVAL Plain (ap (demand EINVAL) (no-text (node_at s.tree n) other)))
