-- The text of `access`: the accesses of each process under any schedule. A node is described with its path in the first
-- tree.
use Rattle.std.specs.Prelude.{ℕ, if◌then◌else◌, List, [], ◌∷◌, ◌++◌, map, flat_map, filter, codes, Option}
use Rattle.pv_model.specs.Answers.Access.{Access, reads, executes, writes, changes_name, reports, opens, accesses, unread_files, unread_line}
use Rattle.pv_model.specs.Answers.Explore.{is_complete, done_line}
use Rattle.pv_model.specs.Answers.Lines.{AnswerLine, answer_line, answer_line_bytes}
use Rattle.pv_model.specs.Answers.Nodes.{name_words}
use Rattle.pv_model.specs.Answers.Observed.{CallObserver, Observation, of_calls, observations, first_observations, observation_lines}
use Rattle.pv_model.specs.Bytes.{Bytes}
use Rattle.pv_model.specs.State.{Program, State}
use Rattle.pv_model.specs.Trace.{mode_text}
use Rattle.pv_model.specs.Tree.{Tree}
use Rattle.pv_model_questions.specs.AboutFiles.{keeps_access, keeps_node}
use Rattle.pv_model_questions.specs.Briefs.{brief_since}

module _ (first before after : Tree) (pid : ℕ) where
  -- the line of an access, with the words of the tree before the call, or after it for a new descriptor
  abbrev pub access_line : Access → AnswerLine
  access_line (reads f) = answer_line pid (codes "READ") (brief_since first before f)
  access_line (executes f) = answer_line pid (codes "EXEC") (brief_since first before f)
  access_line (writes f) = answer_line pid (codes "WRIT") (brief_since first before f)
  access_line (changes_name d name) = answer_line pid (codes "NAME") (name_words before d name)
  access_line (reports n) = answer_line pid (codes "TELL") (brief_since first before n)
  access_line (opens n mode) = answer_line pid (codes "OPEN") (mode_text mode ++ codes " " ++ brief_since first after n)

module _ (files : List Bytes) (first : Tree) where
  module _ (before after : Tree) (pid : ℕ) where
    -- the line of an access if it is kept, and no line otherwise
    abbrev pub lines_of_access : Access → List AnswerLine
    lines_of_access a = if keeps_access files first before after a then access_line first before after pid a ∷ [] else []

    abbrev pub lines_of_kept : List Access → List AnswerLine
    lines_of_kept xs = flat_map lines_of_access xs

  -- the accesses of a call, as lines
  abbrev pub lines_of_accesses : CallObserver AnswerLine
  lines_of_accesses s pid p call now = lines_of_kept s.tree now.after.tree pid (accesses s pid p call now)

  -- those of the given files that are kept
  abbrev pub kept_files : List ℕ → List ℕ
  kept_files ns = filter (keeps_node files first first) ns

-- ---- the lines

module _ (program_of : Bytes → Option Program) (limit : ℕ) (s : State) (files : List Bytes) where
  -- the accesses of all steps, each with its first step
  abbrev pub reported_accesses : List (Observation AnswerLine)
  reported_accesses = first_observations answer_line_bytes (observations (of_calls (lines_of_accesses files s.tree)) program_of limit s)

  unfoldable pub access_lines : List AnswerLine
  access_lines =
      flat_map (observation_lines (λ l. l ∷ [])) reported_accesses
      ++ (if is_complete program_of limit s then map (unread_line program_of limit s) (kept_files files s.tree (unread_files program_of limit s)) else [])
      ++ done_line program_of limit s ∷ []
