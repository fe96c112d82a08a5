-- The parts of a call's explained lines, given the parts of the states before and after it.
use Rattle.std.specs.Prelude.{ℕ, if◌then◌else◌, List, [], ◌∷◌, ◌++◌, map, codes, Option, None, Some, option_map}
use Rattle.std.specs.Fmt.{decimal}
use Rattle.std.specs.Result.{is_err}
use Rattle.pv_model.specs.declared.call.Call.{Call}
use Rattle.pv_model.specs.declared.call.Call.TheVariants.{Wait, Pledge, Unveil, Read, Write, Fstat, Stat, Lstat}
use Rattle.pv_model.specs.declared.perms.Perms.{Perms}
use Rattle.pv_model.specs.declared.place.Place.{Place}
use Rattle.pv_model.specs.declared.target.Target.{Target}
use Rattle.pv_model.specs.declared.target.Target.TheVariants.{Directory, Name}
use Rattle.pv_model.specs.Machine.{permissions_lacked, AnswerLine, answer_line, of_trace, permissions_in_places, node_path, Setting, Bytes, descriptor_at, program_of, number_of, listed_path, at_number, Promises, is_lenient, narrow_promises, OpenFile, Process, State, Word, pldg_word, unvl_word, gio_word, line, quote, Tree, Table, permissions_at}
use Rattle.pv_model.specs.Answers.Explain.{lack_text, increase_text, asked_set, status_words, ended_words, set_text}
use Rattle.pv_model.specs.Answers.Levels.{Level, levels}
use Rattle.pv_model.specs.Answers.Nodes.{node_words, name_words}
use Rattle.pv_model.specs.Trace.{PromiseVerdict, for_increase, UnveilVerdict, no_entry, entry_lacks, table_locked}
use Rattle.pv_promises.specs.Pledge.{Pledged}

abbrev pub why : ℕ → Bytes → AnswerLine
why pid text = answer_line pid (codes "WHY") text

-- ---- promises

-- the first of the two values of a pledge(2) that is refused
abbrev pub refused_increase_text : Pledged → Option Promises → Option Promises → Bytes
refused_increase_text held asked exec_asked =
    if is_err (narrow_promises (is_lenient held.promises) held.promises asked) then increase_text (codes "promises") asked held.promises
    else increase_text (codes "execpromises") exec_asked held.execpromises

-- the two values that a pledge(2) requests
abbrev pub values_asked : Call → Option (Option Promises × Option Promises)
values_asked (Pledge promises execpromises) = Some (asked_set promises, asked_set execpromises)
values_asked call = None

abbrev pub increase_by : Pledged → Option (Option Promises × Option Promises) → Bytes
increase_by held None = []
increase_by held (Some (asked, exec_asked)) = refused_increase_text held asked exec_asked

abbrev pub increase_reason : Pledged → Call → Bytes
increase_reason held call = increase_by held (values_asked call)

abbrev pub promise_reason_by : Pledged → Call → PromiseVerdict → Bytes
promise_reason_by held call for_increase = increase_reason held call
promise_reason_by held call _ = lack_text call held.promises

-- a PLDG line, and the reason for the decision
abbrev pub promise_part : ℕ → Pledged → Call → Word → List AnswerLine
promise_part pid held call (pldg_word by promise verdict) =
    of_trace (line pid (pldg_word by promise verdict)) ∷ why pid (promise_reason_by held call verdict) ∷ []
promise_part pid held call word = of_trace (line pid word) ∷ []

-- ---- the table

-- the origin of an entry
abbrev pub origin_text : List Setting → ℕ → Bytes
origin_text mine k = set_text program_of mine k

abbrev pub has_text : Table → ℕ → Bytes
has_text table k = codes "entry " ++ decimal k ++ codes " has " ++ permissions_in_places (permissions_at table k)

abbrev pub widening_by : Table → List Setting → ℕ → Perms → Bytes
widening_by table mine k asked = has_text table k ++ codes ", asked " ++ permissions_in_places asked ++ origin_text mine k

abbrev pub lacked_text : Table → List Setting → Perms → Option ℕ → Bytes
lacked_text table mine asked None = codes "no entry"
lacked_text table mine asked (Some k) =
    has_text table k ++ codes ", lacks " ++ permissions_in_places (permissions_lacked (permissions_at table k) asked) ++ origin_text mine k

abbrev pub directory_words_by : Tree → ℕ → Option Bytes → Bytes
directory_words_by t n None = node_words t n
directory_words_by t n (Some path) = quote (listed_path path)

abbrev pub level_words_of : Tree → Target → Bytes
level_words_of t (Directory n) = codes "directory " ++ directory_words_by t n (node_path t n)
level_words_of t (Name d name) = codes "name " ++ name_words t d name

module _ (t : Tree) (table : Table) (mine : List Setting) where
  abbrev pub level_text_by : Perms → Level → Bytes
  level_text_by asked l = level_words_of t l.target ++ codes ": " ++ lacked_text table mine asked l.entry

  abbrev pub level_lines : ℕ → Perms → List Level → List AnswerLine
  level_lines pid asked ls = map (λ l. why pid (level_text_by asked l)) ls

  -- the derivation of a decision, level by level
  abbrev pub judgement_lines : ℕ → Perms → Option Place → List AnswerLine
  judgement_lines pid asked None = []
  judgement_lines pid asked (Some place) = level_lines pid asked (levels t table place)

  abbrev pub table_reasons : ℕ → Call → Option Place → UnveilVerdict → List AnswerLine
  table_reasons pid call place table_locked = why pid (codes "the table is locked") ∷ []
  table_reasons pid (Unveil path permissions) place (entry_lacks k needed) = why pid (widening_by table mine k needed) ∷ []
  table_reasons pid call place (entry_lacks k needed) = judgement_lines pid needed place
  table_reasons pid call place (no_entry needed) = judgement_lines pid needed place

  -- an UNVL line, and the reason for the decision
  abbrev pub table_part : ℕ → Call → Option Place → Word → List AnswerLine
  table_part pid call place (unvl_word verdict) = of_trace (line pid (unvl_word verdict)) ∷ table_reasons pid call place verdict
  table_part pid call place word = of_trace (line pid word) ∷ []

-- ---- bytes

-- the open file of a call that reads or writes, if its descriptor is open
abbrev pub file_number : Process → Call → Option ℕ
file_number p (Read d n) = option_map (λ x. x.file) (descriptor_at p d)
file_number p (Write d n) = option_map (λ x. x.file) (descriptor_at p d)
file_number p call = None

abbrev pub node_text : State → Option OpenFile → Bytes
node_text s None = []
node_text s (Some file) = codes ", " ++ node_words s.tree file.node

abbrev pub file_at : State → Option ℕ → Option OpenFile
file_at s None = None
file_at s (Some k) = at_number s.files k

-- the meaning of the bytes that a call moved, on an open file
abbrev pub moved_by_call : State → Option ℕ → Call → Bytes → Bytes
moved_by_call after file Wait bytes = ended_words (number_of bytes)
moved_by_call after file (Stat path) bytes = status_words bytes
moved_by_call after file (Lstat path) bytes = status_words bytes
moved_by_call after file (Fstat d) bytes = status_words bytes
moved_by_call after file (Read d n) bytes = quote bytes ++ node_text after (file_at after file)
moved_by_call after file (Write d n) bytes = quote bytes ++ node_text after (file_at after file)
moved_by_call after file call bytes = quote bytes

-- a GIO line, and the meaning of its bytes
abbrev pub moved_part : ℕ → State → Option ℕ → Call → Word → List AnswerLine
moved_part pid after file call (gio_word direction (b ∷ bs)) =
    of_trace (line pid (gio_word direction (b ∷ bs))) ∷ answer_line pid (codes "TEXT") (moved_by_call after file call (b ∷ bs)) ∷ []
moved_part pid after file call word = of_trace (line pid word) ∷ []
