-- Runs in a larger image: they have the same trace if they reach no limit of the smaller one.
use Rattle.std.specs.Prelude.{◌≡◌, ◌≤◌, ℕ, suc, ◌*◌, Bool, true, false, not, IsTrue, IsFalse, List, length, Option, Some}
use Rattle.std.specs.List.{list_all}
use Rattle.pv_model.specs.declared.errno.Errno.{Errno}
use Rattle.pv_model.specs.declared.errno.Errno.TheVariants.{EFBIG, ENOSPC, ENAMETOOLONG}
use Rattle.pv_model.specs.declared.version.Version.{Version}
use Rattle.pv_model.specs.declared.version.Version.TheVariants.{V2}
use Rattle.pv_model.specs.Machine.{Bytes, node_length, need, is_too_long, fits, Program, State, with_tree, Stepped, Run, step, run, boot, Word, ret_word, Line, Node, Tree, node_at}
use Rattle.pv_model.specs.Step.{run_text, final_tree}
use Rattle.pv_model.specs.Trace.{error_of}
use Rattle.pv_laws_states.specs.States.{EncodesPrograms, IsValid}

-- the same nodes under the same numbers, in an image of version 2 with at least five times the data blocks and at
-- least the inodes
pub record IsLarger (old new : Tree) : Type 0 where
  pub nodes : (n : ℕ) → node_at new n ≡ node_at old n
  pub numbers : length new.nodes ≡ suc new.inodes
  pub version : new.version ≡ V2
  pub blocks : 5 * old.blocks ≤ new.blocks
  pub inodes : old.inodes ≤ new.inodes

-- whether an error reports a limit: of a name, a file, or the image
abbrev pub is_limit : Errno → Bool
is_limit ENAMETOOLONG = true
is_limit EFBIG = true
is_limit ENOSPC = true
is_limit errno = false

abbrev pub is_limit_word : Word → Bool
is_limit_word (ret_word call (error_of errno)) = is_limit errno
is_limit_word word = false

-- no line reports such an error
abbrev pub ReportsNoLimit : List Line → Type 0
ReportsNoLimit lines = IsTrue (list_all (λ (l : Line). not (is_limit_word l.word)) lines)

-- ---- room

-- in an image of version 2, a node needs at most five times the blocks
abbrev pub NeedsFiveTimes : Type 0
NeedsFiveTimes = (v : Version) (node : Node) → need V2 (node_length V2 node) ≤ 5 * need v (node_length v node)

pub record LargerTreeHasRoom (old new : Tree) : Type 0 where
  pub fits : IsTrue (fits old) → IsTrue (fits new)
  pub not_too_long : IsFalse (is_too_long old) → IsFalse (is_too_long new)

-- a tree that has room in the smaller image has room in the larger one
abbrev pub LargerHasRoom : Type 0
LargerHasRoom = (old new : Tree) → IsLarger old new → length old.nodes ≡ suc old.inodes → LargerTreeHasRoom old new

-- ---- steps and runs

-- two states differ only in the sizes of their images
pub record IsInLarger (old new : State) : Type 0 where
  pub tree : IsLarger old.tree new.tree
  pub rest : new ≡ with_tree old new.tree

-- two steps have the same outcome and lines, and the next states differ only in the sizes
pub record StepsDifferInSizes (old new : Stepped) : Type 0 where
  pub outcome : new.outcome ≡ old.outcome
  pub lines : new.lines ≡ old.lines
  pub after : IsInLarger old.after new.after

-- a step that reports no limit is the same in the larger image
abbrev pub LargerKeepsSteps : Type 0
LargerKeepsSteps =
    (program_of : Bytes → Option Program) → EncodesPrograms program_of → (s u : State) (pid : ℕ) → IsValid s → IsInLarger s u → ReportsNoLimit (step program_of s pid).lines
    → StepsDifferInSizes (step program_of s pid) (step program_of u pid)

-- two runs have the same lines, and the final states differ only in the sizes
pub record RunsDifferInSizes (old new : Run) : Type 0 where
  pub lines : new.lines ≡ old.lines
  pub final : IsInLarger old.final new.final

-- a run that reports no limit is the same in the larger image
abbrev pub LargerKeepsRuns : Type 0
LargerKeepsRuns =
    (program_of : Bytes → Option Program) → EncodesPrograms program_of → (s u : State) (pids : List ℕ) → IsValid s → IsInLarger s u → ReportsNoLimit (run program_of pids s).lines
    → RunsDifferInSizes (run program_of pids s) (run program_of pids u)

-- two runs have the same text, and leave trees with equal nodes
pub record TracesAreEqual (program_of : Bytes → Option Program) (pids : List ℕ) (s u : State) : Type 0 where
  pub text : run_text program_of pids u ≡ run_text program_of pids s
  pub nodes : (n : ℕ) → node_at (final_tree program_of pids u) n ≡ node_at (final_tree program_of pids s) n

abbrev pub LargerKeepsTraces : Type 0
LargerKeepsTraces =
    (program_of : Bytes → Option Program) → EncodesPrograms program_of → (s u : State) (pids : List ℕ) → IsValid s → IsInLarger s u → ReportsNoLimit (run program_of pids s).lines
    → TracesAreEqual program_of pids s u

-- ---- first states

-- if the machine starts on a tree, it starts on the same nodes in a larger image, in a state that differs only in the
-- sizes
abbrev pub LargerStarts : Type 0
LargerStarts =
    (program_of : Bytes → Option Program) (old new : Tree) (s : State) → IsLarger old new → boot program_of old ≡ Some s
    → (u : State) × (boot program_of new ≡ Some u) × IsInLarger s u
