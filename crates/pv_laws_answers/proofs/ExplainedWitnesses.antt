-- The lines on a path, compared with those of `explain`.
use Rattle.std.proofs.Common.{◌≡◌, ◌∙◌, sym, ap, ap₂, subst, refl, ℕ, ◌+◌, false, not, ◌||◌, cond, List, [], ◌∷◌, ◌++◌, map, flat_map, filter, append_assoc, append-nil, codes, Option, None, Some, slice_get}
use Rattle.std.proofs.lemmas.Bool.{or_parts}
use Rattle.std.specs.List.{list_any}
use Rattle.pv_model.specs.declared.call.Call.{Call}
use Rattle.pv_model.specs.declared.call.Call.TheVariants as TheCall
use Rattle.pv_model.specs.declared.perms.Perms.{Perms}
use Rattle.pv_model.specs.declared.place.Place.{Place}
use Rattle.pv_model.specs.Machine.{Answered, answer, permissions_lacked, explained_step, settings_next, AnswerLine, answer_line, of_trace, permissions_in_places, locations, Setting, Settings, settings_of, Bytes, entries_of_table, Next, inside, calls_for, next, Program, Process, ProcessRecord, live, ended_record, State, process_at, step, Word, call_word, nami_word, pldg_word, unvl_word, gio_word, ret_word, call_lines, permissions_at, walks_of, walk_number}
use Rattle.pv_model.specs.Answers.Explain.{promise_reason, entry_has, found_text, level_words, level_text, judgement_texts, place_walked, walk_reasons, unveil_reasons, moved_text, remarks, with_remarks, explained_next, explained_of, setting_text, set_text, explain_from, explain_lines}
use Rattle.pv_model.specs.Answers.Graph.{unreported}
use Rattle.pv_model.specs.Answers.Levels.{Level, levels}
use Rattle.pv_model.specs.Answers.ProcessRecord.{location_lines}
use Rattle.pv_model.specs.Trace.{UnveilVerdict, entry_lacks, table_locked, asked_permissions, psig_word, wait_word, gone_word, gone_lines}
use Rattle.pv_laws_answers.specs.Graphs.{is_added_line, explained_run, AreSameExceptSettings}
use Rattle.pv_laws_answers.proofs.MarkedLists.{none-map, none-flat}

module _ (program_of : Bytes → Option Program) where
  abbrev Same : List AnswerLine → List AnswerLine → Type 0
  Same ls ms = AreSameExceptSettings program_of ls ms

  same-append : (ls ms xs ys : List AnswerLine) → Same ls ms → Same xs ys → Same (ls ++ xs) (ms ++ ys)
  same-append [] [] xs ys front back = back
  same-append [] (m ∷ ms) xs ys front back = absurd front
  same-append (l ∷ ls) [] xs ys front back = absurd front
  same-append (l ∷ ls) (m ∷ ms) xs ys front back = (front.0, same-append ls ms xs ys front.1 back)

  same-line : (l : AnswerLine) → (setting : Option Setting) × (l ≡ answer_line l.pid l.word (l.text ++ setting_text program_of setting))
  same-line l = (None, ap (λ text. answer_line l.pid l.word text) (sym (append-nil l.text)))

  same-lines : (ls : List AnswerLine) → Same ls ls
  same-lines [] = tt
  same-lines (l ∷ ls) = (same-line l, same-lines ls)

  same-flat : {X : Type 0} (f g : X → List AnswerLine) → ((x : X) → Same (f x) (g x)) → (xs : List X) → Same (flat_map f xs) (flat_map g xs)
  same-flat f g each [] = tt
  same-flat f g each (x ∷ xs) = same-append (f x) (g x) (flat_map f xs) (flat_map g xs) (each x) (same-flat f g each xs)

  -- two texts, the second of which may also report where an entry was set
  abbrev SameText : Bytes → Bytes → Type 0
  SameText text other = (setting : Option Setting) × (other ≡ text ++ setting_text program_of setting)

  abbrev SameTexts : List Bytes → List Bytes → Type 0
  SameTexts [] [] = Unit {0}
  SameTexts [] (u ∷ us) = ⊥
  SameTexts (t ∷ ts) [] = ⊥
  SameTexts (t ∷ ts) (u ∷ us) = SameText t u × SameTexts ts us

  same-mapped : (pid : ℕ) (word : Bytes) (ts us : List Bytes) → SameTexts ts us → Same (map (answer_line pid word) ts) (map (answer_line pid word) us)
  same-mapped pid word [] [] same = tt
  same-mapped pid word [] (u ∷ us) same = absurd same
  same-mapped pid word (t ∷ ts) [] same = absurd same
  same-mapped pid word (t ∷ ts) (u ∷ us) same = ((same.0.0, ap (λ text. answer_line pid word text) same.0.1), same-mapped pid word ts us same.1)

  module _ (mine : List Setting) where
    abbrev source : ℕ → Bytes
    source k = set_text program_of mine k

    same-set : (text : Bytes) (k : ℕ) → SameText (text ++ []) (text ++ source k)
    same-set text k = (slice_get mine k, ap (λ words. words ++ source k) (sym (append-nil text)))

    module _ (s : State) (p : Process) where
      same-found : (asked : Perms) (o : Option ℕ) → SameText (found_text s p unreported asked o) (found_text s p source asked o)
      same-found asked None = (None, sym (append-nil (codes "no entry")))
      same-found asked (Some k) =
          same-set (entry_has s p unreported k ++ codes ", lacks " ++ permissions_in_places (permissions_lacked (permissions_at (entries_of_table p.table) k) asked)) k

      same-level : (asked : Perms) (l : Level) → SameText (level_text s p unreported asked l) (level_text s p source asked l)
      same-level asked l =
          let found = same-found asked l.entry in
          let front = level_words s p source l.target ++ codes ": " in
          (found.0, ap (λ text. front ++ text) found.1 ∙ sym (append_assoc front (found_text s p unreported asked l.entry) (setting_text program_of found.0)))

      same-levels : (asked : Perms) (ls : List Level) → SameTexts (map (level_text s p unreported asked) ls) (map (level_text s p source asked) ls)
      same-levels asked [] = tt
      same-levels asked (l ∷ ls) = (same-level asked l, same-levels asked ls)

      same-judgement : (asked : Perms) (o : Option Place) → SameTexts (judgement_texts s p unreported asked o) (judgement_texts s p source asked o)
      same-judgement asked None = tt
      same-judgement asked (Some place) = same-levels asked (levels s.tree (entries_of_table p.table) place)

      same-walk : (call : Call) (walks : ℕ) → SameTexts (walk_reasons s p unreported call walks) (walk_reasons s p source call walks)
      same-walk call walks = same-judgement (asked_permissions call walks) (place_walked s p source (walk_number (walks_of call) walks))

      same-reasons : (call : Call) (walks : ℕ) (verdict : UnveilVerdict) → SameTexts (unveil_reasons s p unreported call walks verdict) (unveil_reasons s p source call walks verdict)
      same-reasons call walks table_locked = ((None, sym (append-nil (codes "the table is locked"))), tt)
      same-reasons (TheCall.Unveil path permissions) walks (entry_lacks k asked) = (same-set (entry_has s p unreported k ++ codes ", asked " ++ permissions_in_places asked) k, tt)
      same-reasons call walks verdict = same-walk call walks

      module _ (pid : ℕ) (call : Call) (a : Answered) where
        same-remarks : (word : Word) → Same (remarks s pid p unreported call a word) (remarks s pid p source call a word)
        same-remarks (call_word c) = tt
        same-remarks (nami_word path) = tt
        same-remarks (pldg_word c promise verdict) = same-lines (answer_line pid (codes "WHY") (promise_reason p call verdict) ∷ [])
        same-remarks (unvl_word verdict) = same-mapped pid (codes "WHY") (unveil_reasons s p unreported call a.walks verdict) (unveil_reasons s p source call a.walks verdict) (same-reasons call a.walks verdict)
        same-remarks (gio_word witness []) = tt
        same-remarks (gio_word witness (b ∷ bs)) = same-lines (answer_line pid (codes "TEXT") (moved_text a.after p call (b ∷ bs)) ∷ [])
        same-remarks (ret_word c returned) = tt
        same-remarks psig_word = tt
        same-remarks wait_word = tt
        same-remarks gone_word = tt

        same-call : Same (flat_map (with_remarks s pid p unreported call a) (call_lines pid p call a)) (flat_map (with_remarks s pid p source call a) (call_lines pid p call a))
        same-call = same-flat (with_remarks s pid p unreported call a) (with_remarks s pid p source call a) (λ l. (same-line (of_trace l), same-remarks l.word)) (call_lines pid p call a)

    module _ (s : State) (pid : ℕ) where
      same-next : (p : Process) (n : Next) → Same (explained_next program_of unreported s pid p n) (explained_next program_of source s pid p n)
      same-next p (inside q) = tt
      same-next p (calls_for call) = same-call s p pid call (answer program_of s pid call)

      same-of : (o : Option Process) → Same (explained_of program_of unreported s pid o) (explained_of program_of source s pid o)
      same-of None = same-lines (map of_trace (gone_lines pid))
      same-of (Some p) = same-next p (next p)

      same-step : Same (explained_step program_of unreported s pid) (explained_step program_of source s pid)
      unfolding explained_step
      same-step = same-of (process_at s pid)

-- ---- the additional lines of `explain`

word-own : (pid : ℕ) (word : Word) → is_added_line (of_trace (record { pid = pid; word = word })) ≡ false
word-own pid (call_word call) = refl
word-own pid (nami_word path) = refl
word-own pid (pldg_word call promise verdict) = refl
word-own pid (unvl_word verdict) = refl
word-own pid (gio_word witness bytes) = refl
word-own pid (ret_word call returned) = refl
word-own pid psig_word = refl
word-own pid wait_word = refl
word-own pid gone_word = refl

module _ (s : State) (pid : ℕ) (p : Process) (source : ℕ → Bytes) (call : Call) (a : Answered) where
  remarks-own : (word : Word) → list_any is_added_line (remarks s pid p source call a word) ≡ false
  remarks-own (call_word c) = refl
  remarks-own (nami_word path) = refl
  remarks-own (pldg_word c promise verdict) = refl
  remarks-own (unvl_word verdict) = none-map is_added_line (answer_line pid (codes "WHY")) (λ text. refl) (unveil_reasons s p source call a.walks verdict)
  remarks-own (gio_word witness []) = refl
  remarks-own (gio_word witness (b ∷ bs)) = refl
  remarks-own (ret_word c returned) = refl
  remarks-own psig_word = refl
  remarks-own wait_word = refl
  remarks-own gone_word = refl

  call-own : list_any is_added_line (flat_map (with_remarks s pid p source call a) (call_lines pid p call a)) ≡ false
  call-own = none-flat is_added_line (with_remarks s pid p source call a) (λ l. ap₂ (λ x y. x || y) (word-own l.pid l.word) (remarks-own l.word)) (call_lines pid p call a)

module _ (program_of : Bytes → Option Program) (source : ℕ → Bytes) (s : State) (pid : ℕ) where
  next-own : (p : Process) (n : Next) → list_any is_added_line (explained_next program_of source s pid p n) ≡ false
  next-own p (inside q) = refl
  next-own p (calls_for call) = call-own s pid p source call (answer program_of s pid call)

  of-own : (o : Option Process) → list_any is_added_line (explained_of program_of source s pid o) ≡ false
  of-own None = refl
  of-own (Some p) = next-own p (next p)

  step-own : list_any is_added_line (explained_step program_of source s pid) ≡ false
  unfolding explained_step
  step-own = of-own (process_at s pid)

abbrev without_added : List AnswerLine → List AnswerLine
without_added ls = filter (λ l. not (is_added_line l)) ls

preserved-own : (ls rest : List AnswerLine) → list_any is_added_line ls ≡ false → without_added (ls ++ rest) ≡ ls ++ without_added rest
preserved-own [] rest none = refl
preserved-own (l ∷ ls) rest none =
    let parts = or_parts (is_added_line l) (list_any is_added_line ls) none in
    ap (λ b. cond (not b) (l ∷ without_added (ls ++ rest)) (without_added (ls ++ rest))) parts.0 ∙ ap (λ ms. l ∷ ms) (preserved-own ls rest parts.1)

location-added : (pid : ℕ) (r : ProcessRecord) (rest : List AnswerLine) → without_added (location_lines pid r ++ rest) ≡ without_added rest
location-added pid (live p) rest = refl
location-added pid (ended_record parent status) rest = refl

locations-added : (rs : List (ℕ × ProcessRecord)) → without_added (flat_map (λ r. location_lines r.0 r.1) rs) ≡ []
locations-added [] = refl
locations-added (r ∷ rs) = location-added r.0 r.1 (flat_map (λ r. location_lines r.0 r.1) rs) ∙ locations-added rs

module _ (program_of : Bytes → Option Program) where
  explained-from : (k : ℕ) (all : Settings) (pids : List ℕ) (s : State) → AreSameExceptSettings program_of (explained_run program_of pids s) (without_added (explain_from program_of k all pids s))
  unfolding locations
  explained-from k all [] s = subst (λ ls. AreSameExceptSettings program_of [] ls) (sym (locations-added s.processes)) tt
  explained-from k all (pid ∷ pids) s =
      let source = set_text program_of (settings_of all pid) in
      let after = (step program_of s pid).after in
      let rest = explain_from program_of (k + 1) (settings_next program_of s pid all) pids after in
      subst (λ ls. AreSameExceptSettings program_of (explained_run program_of (pid ∷ pids) s) ls) (sym (preserved-own (explained_step program_of source s pid) rest (step-own program_of source s pid)))
      (same-append program_of (explained_step program_of unreported s pid) (explained_step program_of source s pid) (explained_run program_of pids after) (without_added rest)
      (same-step program_of (settings_of all pid) s pid) (explained-from (k + 1) (settings_next program_of s pid all) pids after))

  pub witnesses-explained : (pids : List ℕ) (s : State) → AreSameExceptSettings program_of (explained_run program_of pids s) (filter (λ l. not (is_added_line l)) (explain_lines program_of pids s))
  unfolding explain_lines
  witnesses-explained pids s = explained-from 1 [] pids s
