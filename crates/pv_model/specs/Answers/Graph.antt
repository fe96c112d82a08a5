-- The text of `graph`: the state graph.
use Rattle.std.specs.Prelude.{ℕ, Bool, true, false, List, [], ◌∷◌, ◌++◌, map, flat_map, codes, Option, None, Some, position}
use Rattle.std.specs.Fmt.{decimal}
use Rattle.pv_model.specs.Answers.Explain.{explained_step}
use Rattle.pv_model.specs.Answers.Explore.{Found, Move, states_found, moves_of, done_line}
use Rattle.pv_model.specs.Answers.Lines.{AnswerLine, answer_line, counted}
use Rattle.pv_model.specs.Answers.Numbers.{same_state}
use Rattle.pv_model.specs.Answers.ProcessRecord.{state_lines}
use Rattle.pv_model.specs.Answers.Reach.{reach_lines}
use Rattle.pv_model.specs.Bytes.{Bytes}
use Rattle.pv_model.specs.Grammar.Lines.{lines_of}
use Rattle.pv_model.specs.Listing.{listing}
use Rattle.pv_model.specs.State.{Program, State}
use Rattle.pv_model.specs.Tree.{Tree}

abbrev pub listing_lines : Tree → List AnswerLine
listing_lines t = map (answer_line 0 (codes "LS")) (lines_of (listing t))

-- the tree of a state and the permissions of its processes, if requested
abbrev pub tree_lines : Bool → State → List AnswerLine
tree_lines false s = []
tree_lines true s = listing_lines s.tree ++ reach_lines s

-- the number of a state among the visited states
abbrev pub number_found : State → List Found → Option ℕ
number_found s found = position (λ f. same_state f.state s) found

abbrev pub leads_to_text : Option ℕ → Bytes
leads_to_text None = codes "left out"
leads_to_text (Some k) = codes "to " ++ decimal k

-- a state does not record where an entry was set
abbrev pub unreported : ℕ → Bytes
unreported k = []

module _ (program_of : Bytes → Option Program) where
  -- a step: the number of its next state, and its lines explained
  abbrev pub step_lines : List Found → Found → Move → List AnswerLine
  step_lines found f m =
      answer_line m.pid (codes "STEP") (leads_to_text (number_found m.stepped.after found))
      ∷ explained_step program_of unreported f.state m.pid

  -- a state with its steps
  abbrev pub vertex_lines : Bool → List Found → ℕ × Found → List AnswerLine
  vertex_lines trees found (k, f) =
      answer_line 0 (codes "AT") (decimal k) ∷ state_lines f.state ++ tree_lines trees f.state
      ++ flat_map (step_lines found f) (moves_of program_of f)

  -- the states that steps reach from a state, up to the limit, each with its steps
  unfoldable pub graph_lines : ℕ → Bool → State → List AnswerLine
  graph_lines limit trees s =
      let found = states_found program_of limit s in
      flat_map (vertex_lines trees found) (counted found) ++ done_line program_of limit s ∷ []
