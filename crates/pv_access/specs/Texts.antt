-- The accesses of a step as texts: the line of each, and before the line of a READ or EXEC a note of the file.
use Rattle.std.specs.Prelude.{ℕ, ◌==◌, Bool, false, List, [], ◌∷◌, ◌++◌, map, filter, flat_map, codes, Option, None, Some, option_map, option_to_list}
use Rattle.pv_model.specs.declared.outcome.Outcome.{Outcome}
use Rattle.pv_model.specs.Machine.{Access, executes, accesses, AnswerLine, answer_line_bytes, Observer, of_calls, Bytes, Tree}
use Rattle.pv_model.specs.Answers.Access.{reads, writes, reports, file_read}
use Rattle.pv_model.specs.Answers.Observed.{CallObserver}
use Rattle.pv_model_questions.specs.Accesses.{lines_of_access}
use Rattle.pv_named_files.specs.Notes.{note}
use Rattle.pv_access.specs.declared.condition.Condition.{Condition}
use Rattle.pv_access.specs.declared.word.NodeWord.{NodeWord}
use Rattle.pv_access.specs.declared.word.NodeWord.TheVariants.{Read, Execute, Write, Report}
use Rattle.pv_access.specs.declared.candidate.Candidate.{Candidate as Prepared}
use Rattle.pv_access.specs.Candidates.{Candidate, is_satisfied}

abbrev pub is_note : Bytes → Bool
is_note [] = false
is_note (b ∷ bs) = b == 0

abbrev pub note_texts : Option ℕ → List Bytes
note_texts None = []
note_texts (Some n) = note n ∷ []

-- an access as texts, given its line, or no line if it is not kept
abbrev pub texts_by : (Access → List AnswerLine) → Access → List Bytes
texts_by lines x = note_texts (file_read x) ++ map answer_line_bytes (lines x)

module _ (files : List Bytes) (first : Tree) where
  -- the line of an access if it is kept, with the words of one tree
  abbrev pub access_lines_in : Tree → ℕ → Access → List AnswerLine
  access_lines_in t pid = lines_of_access files first t t pid

  -- the accesses of a call as texts
  abbrev pub texts_of_call : CallObserver Bytes
  texts_of_call s pid p call now = flat_map (texts_by (lines_of_access files first s.tree now.after.tree pid)) (accesses s pid p call now)

  -- the accesses of a step as texts
  abbrev pub access_texts : Observer Bytes
  access_texts = of_calls texts_of_call

-- ---- in code

-- the access of a node with a word
abbrev pub access_at : NodeWord → ℕ → Access
access_at Read n = reads n
access_at Execute n = executes n
access_at Write n = writes n
access_at Report n = reports n

abbrev pub word_letters : NodeWord → Bytes
word_letters Read = codes "READ"
word_letters Execute = codes "EXEC"
word_letters Write = codes "WRIT"
word_letters Report = codes "TELL"

abbrev pub note_if : NodeWord → ℕ → Option ℕ
note_if word n = file_read (access_at word n)

-- a candidate of the code: its condition and its texts
abbrev pub prepared : Prepared → Condition × List Bytes
prepared c = (c.condition, note_texts c.noted ++ option_to_list (option_map (λ line. line.items) c.line))

abbrev pub all_prepared : List Prepared → List (Condition × List Bytes)
all_prepared cs = map prepared cs

-- the candidates of the definitions, with their texts
abbrev pub with_texts : List Bytes → (first t : Tree) → ℕ → List Candidate → List (Condition × List Bytes)
with_texts files first t pid cs = map (λ c. (c.0, texts_by (access_lines_in files first t pid) c.1)) cs

-- the texts of the candidates whose condition an outcome satisfies
abbrev pub texts_with : Outcome → List (Condition × List Bytes) → List Bytes
texts_with outcome cs = flat_map (λ c. c.1) (filter (λ c. is_satisfied c.0 outcome) cs)
