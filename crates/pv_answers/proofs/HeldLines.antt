-- The lines of a process's entries, descriptors and memory, one at a time.
use Rattle.std.proofs.Common.{◌≡◌, ℕ, zero, suc, ◌+◌, ◌<◌, ◌≤◌, List, [], ◌∷◌, ◌++◌, append_assoc, append-nil, length, drop, map, filter_map, codes, slice_get, Option, None, Some, option_map, refl, ap, ap₂, sym, subst, ◌∙◌, arith}
use Rattle.std.specs.List.{cons_option}
use Rattle.std.proofs.lemmas.Grind.{flat_map-append}
use Rattle.std.proofs.lemmas.List.{drop_all}
use Rattle.pv_model.specs.Machine.{AnswerLine, answer_bytes, answer_line, answer_line_bytes, counted_from, Bytes, entries_of_table, Numbered, at_number, numbered_from, Descriptor, Process, ProcessRecord as Record, live, ended_record, live_process, State, Table}
use Rattle.pv_model.specs.Answers.ProcessRecord.{OpenDescriptor, descriptor_text, entry_text, holding_lines, open_descriptor}
use Rattle.pv_streams.proofs.TextRemainders.{LeavesRest, written_text}
use Rattle.pv_streams.specs.Sinks.{and_all}
use Rattle.pv_calls_state.specs.OfProcs.declared.record.ProcessRecord.{ProcessRecord}
use Rattle.pv_calls_state.specs.OfProcs.Parts.{record_of}
use Rattle.pv_answers.specs.Holdings.{descriptor_line, descriptor_line_of, descriptor_lines, entry_line, entry_line_of, entry_lines, held_lines_of, memory_bytes, open_line_of, restraint_bytes}

module _ (s : State) (pid : ℕ) where
  -- ---- entries

  abbrev pub entry_lines_from : ℕ → Table → List AnswerLine
  entry_lines_from k table = map (λ e. answer_line pid (codes "UNVL") (entry_text s e)) (counted_from k table)

  -- the line of an entry, and those of the entries after it
  entry_first : (table : Table) (k n : ℕ) → n < length table
      → answer_bytes (entry_lines_from k (drop n table)) ≡ entry_line_of s pid k (slice_get table n) ++ answer_bytes (entry_lines_from (k + 1) (drop (n + 1) table))
  entry_first [] k n within = absurd (omega arith)
  entry_first (e ∷ table) k zero within = refl
  entry_first (e ∷ table) k (suc n) within =
      entry_first table k n (omega arith)
      ∙ ap (λ j. entry_line_of s pid k (slice_get table n) ++ answer_bytes (entry_lines_from (k + 1) (drop j (e ∷ table)))) (let same : suc (n + 1) ≡ suc n + 1 = omega arith in same)

  pub entry-next : (table : Table) (k : ℕ) → k < length table
      → answer_bytes (entry_lines_from k (drop k table)) ≡ entry_line s pid table k ++ answer_bytes (entry_lines_from (k + 1) (drop (k + 1) table))
  entry-next table k within = entry_first table k k within

  pub entries-end : (table : Table) (k : ℕ) (text : Bytes) (before after : Option Bytes) → length table ≤ k
      → LeavesRest (answer_bytes (entry_lines_from k (drop k table))) text before after → after ≡ and_all before text
  entries-end table k text before after past left =
      written_text text before after (subst (λ rest. LeavesRest rest text before after) (ap (λ es. answer_bytes (entry_lines_from k es)) (drop_all k table past)) left)

  -- ---- descriptors

  abbrev pub descriptor_lines_from : ℕ → Numbered Descriptor → List AnswerLine
  descriptor_lines_from k ds = map (λ d. answer_line pid (codes "FD") (descriptor_text s d)) (filter_map (open_descriptor s) (numbered_from k ds))

  lines_of : List OpenDescriptor → Bytes
  lines_of ds = answer_bytes (map (λ d. answer_line pid (codes "FD") (descriptor_text s d)) ds)

  open-first : (o : Option OpenDescriptor) (ds : List OpenDescriptor) → lines_of (cons_option o ds) ≡ open_line_of s pid o ++ lines_of ds
  unfolding lines_of
  open-first None ds = refl
  open-first (Some d) ds = refl

  -- the line of a number, and those of the numbers after it
  place_first : (o : Option Descriptor) (ds : Numbered Descriptor) (k : ℕ)
      → answer_bytes (descriptor_lines_from k (o ∷ ds)) ≡ descriptor_line_of s pid k o ++ answer_bytes (descriptor_lines_from (k + 1) ds)
  unfolding lines_of
  place_first None ds k = ap (λ j. answer_bytes (descriptor_lines_from j ds)) (let same : suc k ≡ k + 1 = omega arith in same)
  place_first (Some d) ds k =
      open-first (open_descriptor s (k, d)) (filter_map (open_descriptor s) (numbered_from (suc k) ds))
      ∙ ap (λ j. open_line_of s pid (open_descriptor s (k, d)) ++ answer_bytes (descriptor_lines_from j ds)) (let same : suc k ≡ k + 1 = omega arith in same)

  descriptor_first : (ds : Numbered Descriptor) (k n : ℕ) → n < length ds
      → answer_bytes (descriptor_lines_from k (drop n ds)) ≡ descriptor_line_of s pid k (at_number ds n) ++ answer_bytes (descriptor_lines_from (k + 1) (drop (n + 1) ds))
  descriptor_first [] k n within = absurd (omega arith)
  descriptor_first (o ∷ ds) k zero within = place_first o ds k
  descriptor_first (o ∷ ds) k (suc n) within =
      descriptor_first ds k n (omega arith)
      ∙ ap (λ j. descriptor_line_of s pid k (at_number ds n) ++ answer_bytes (descriptor_lines_from (k + 1) (drop j (o ∷ ds)))) (let same : suc (n + 1) ≡ suc n + 1 = omega arith in same)

  pub descriptor-next : (ds : Numbered Descriptor) (k : ℕ) → k < length ds
      → answer_bytes (descriptor_lines_from k (drop k ds)) ≡ descriptor_line s pid ds k ++ answer_bytes (descriptor_lines_from (k + 1) (drop (k + 1) ds))
  descriptor-next ds k within = descriptor_first ds k k within

  pub descriptors-end : (ds : Numbered Descriptor) (k : ℕ) (text : Bytes) (before after : Option Bytes) → length ds ≤ k
      → LeavesRest (answer_bytes (descriptor_lines_from k (drop k ds))) text before after → after ≡ and_all before text
  descriptors-end ds k text before after past left =
      written_text text before after (subst (λ rest. LeavesRest rest text before after) (ap (λ es. answer_bytes (descriptor_lines_from k es)) (drop_all k ds past)) left)

  -- ---- all lines of a process

  abbrev held_bytes : ProcessRecord → Bytes
  held_bytes r =
      restraint_bytes s pid r ++ answer_bytes (entry_lines s pid (entries_of_table r.unveiled.table)) ++ answer_bytes (descriptor_lines s pid r.descriptors) ++ memory_bytes pid r

  four : (a b c d x : Bytes) → a ++ b ++ c ++ d ++ x ≡ a ++ (b ++ (c ++ (d ++ x)))
  four a b c d x = append_assoc (a ++ b ++ c) d x ∙ append_assoc (a ++ b) c (d ++ x) ∙ append_assoc a b (c ++ (d ++ x))

  joined : (r e d m : Bytes) → r ++ e ++ d ++ m ≡ r ++ ((e ++ d) ++ m)
  joined r e d m = ap (λ (bs : Bytes). bs ++ m) (append_assoc r e d) ∙ append_assoc r (e ++ d) m

  lines-joined : (a b c d : AnswerLine) (es ds : List AnswerLine) (e f : AnswerLine)
      → (answer_line_bytes a ++ answer_line_bytes b ++ answer_line_bytes c ++ answer_line_bytes d) ++ answer_bytes es ++ answer_bytes ds ++ (answer_line_bytes e ++ answer_line_bytes f)
      ≡ answer_bytes (a ∷ b ∷ c ∷ d ∷ (es ++ ds ++ (e ∷ f ∷ [])))
  lines-joined a b c d es ds e f =
      joined (answer_line_bytes a ++ answer_line_bytes b ++ answer_line_bytes c ++ answer_line_bytes d) (answer_bytes es) (answer_bytes ds) (answer_line_bytes e ++ answer_line_bytes f)
      ∙ ap (λ (bs : Bytes). (answer_line_bytes a ++ answer_line_bytes b ++ answer_line_bytes c ++ answer_line_bytes d) ++ bs)
      (ap₂ (λ (x y : Bytes). x ++ y) (sym (flat_map-append answer_line_bytes es ds)) (ap (λ (y : Bytes). answer_line_bytes e ++ y) (sym (append-nil (answer_line_bytes f))))
      ∙ sym (flat_map-append answer_line_bytes (es ++ ds) (e ∷ f ∷ [])))
      ∙ four (answer_line_bytes a) (answer_line_bytes b) (answer_line_bytes c) (answer_line_bytes d) (answer_bytes (es ++ ds ++ (e ∷ f ∷ [])))

  live-held : (p : Process) → held_bytes (record_of p) ≡ answer_bytes (holding_lines s pid p)
  live-held p = lines-joined _ _ _ _ _ _ _ _

  pub held-are : (o : Option Record) (owned : ProcessRecord) → option_map record_of (live_process o) ≡ Some owned → held_bytes owned ≡ answer_bytes (held_lines_of s pid o)
  held-are None owned is = cc is
  held-are (Some (ended_record parent status)) owned is = cc is
  held-are (Some (live p)) owned is = let same : owned ≡ record_of p = cc is in ap held_bytes same ∙ live-held p
