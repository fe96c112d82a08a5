-- The lines of an answer, and common parts of their texts.
use Rattle.std.specs.Prelude.{ℕ, ◌+◌, Bool, true, false, List, [], ◌∷◌, map, flat_map, filter, codes, Option, None, Some}
use Rattle.std.specs.List.{join_by}
use Rattle.pv_model.specs.declared.perms.Perms.{Perms}
use Rattle.pv_model.specs.Bytes.{Bytes}
use Rattle.pv_model.specs.Promise.{all_promises, promise_name}
use Rattle.pv_model.specs.Promises.{Promises, contains}
use Rattle.pv_model.specs.Trace.{Line, text_line, quote, word_name, word_text}

-- a line of an answer: its process, its word and its text
pub record AnswerLine : Type 0 where
  pub pid : ℕ
  pub word : Bytes
  pub text : Bytes

abbrev pub answer_line : ℕ → Bytes → Bytes → AnswerLine
answer_line pid word text = record { pid = pid; word = word; text = text }

-- a line of a trace as a line of an answer
abbrev pub of_trace : Line → AnswerLine
of_trace l = answer_line l.pid (word_name l.word) (word_text l.word)

-- the bytes of a line, in the format of a trace
abbrev pub answer_line_bytes : AnswerLine → Bytes
answer_line_bytes l = text_line l.pid l.word l.text

abbrev pub answer_bytes : List AnswerLine → Bytes
answer_bytes ls = flat_map answer_line_bytes ls

-- words joined by single spaces
abbrev pub spaced : List Bytes → Bytes
spaced words = join_by (λ bs. bs) (codes " ") words

abbrev pub permission_or_dash : Bool → ℕ → ℕ
permission_or_dash true b = b
permission_or_dash false b = 45

-- permissions in four columns, in the order r, w, x, c
abbrev pub permissions_in_places : Perms → Bytes
permissions_in_places p = permission_or_dash p.r 114 ∷ permission_or_dash p.w 119 ∷ permission_or_dash p.x 120 ∷ permission_or_dash p.c 99 ∷ []

-- keywords in one pair of quotation marks
abbrev pub keyword_list : List Bytes → Bytes
keyword_list words = quote (spaced words)

-- the keywords of a set of promises
abbrev pub promises_text : Promises → Bytes
promises_text set = keyword_list (map promise_name (filter (contains set) all_promises))

-- the keywords of a process's promises, or `none` if it is not pledged
abbrev pub pledged_text : Option Promises → Bytes
pledged_text None = codes "none"
pledged_text (Some set) = promises_text set

-- the elements of a list with their numbers, counted from k
abbrev pub counted_from : {X : Type 0} → ℕ → List X → List (ℕ × X)
counted_from k [] = []
counted_from k (x ∷ xs) = (k, x) ∷ counted_from (k + 1) xs

abbrev pub counted : {X : Type 0} → List X → List (ℕ × X)
counted xs = counted_from 0 xs
