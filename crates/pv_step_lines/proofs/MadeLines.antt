-- The lines of a step are those of the definitions.
use Rattle.std.proofs.Common.{◌≡◌, ◌≤◌, ◌∙◌, ℕ, List, [], ◌∷◌, ◌++◌, map, take, Option, None, Some, option_map, refl, ap, ap₂, sym, subst, arith}
use Rattle.std.specs.Prelude.{flat_map, codes}
use Rattle.std.proofs.lemmas.Grind.{flat_map-append}
use Rattle.std.proofs.lemmas.List.Folds.{flat_map-map}
use Rattle.std.proofs.lemmas.Simd.{map-map}
use Rattle.pv_model.specs.declared.call.Call.{Call}
use Rattle.pv_model.specs.declared.call.Call.TheVariants.{Pledge, Unveil, Wait, Stat, Lstat, Fstat, Read, Write}
use Rattle.pv_model.specs.declared.errno.Errno.{Errno}
use Rattle.pv_model.specs.declared.errno.Errno.TheVariants.{ENOSYS}
use Rattle.pv_model.specs.declared.outcome.Cause.{Cause}
use Rattle.pv_model.specs.declared.outcome.Cause.TheVariants.{Plain, Promise as ByPromise, Unveil as ByUnveil, Locked}
use Rattle.pv_model.specs.declared.outcome.Outcome.{Outcome}
use Rattle.pv_model.specs.declared.outcome.Outcome.TheVariants.{Value, Text, Failed, Killed, Exited, Blocked, Gone}
use Rattle.pv_model.specs.declared.perms.Perms.{Perms}
use Rattle.pv_model.specs.declared.place.Place.{Place}
use Rattle.pv_model.specs.declared.target.Target.{Target}
use Rattle.pv_model.specs.declared.target.Target.TheVariants.{Directory, Name}
use Rattle.pv_model.specs.Machine.{Answered, answer, explained_step, AnswerLine, answer_line, of_trace, node_path, Setting, Bytes, entries_of_table, call_of, descriptor_at, open_file_of, program_of, at_number, Descriptor, OpenFile, Process, State, process_at, Line, line, Word, call_word, nami_word, pldg_word, unvl_word, gio_word, promise_words, unveil_words, end_words, buffer_of, call_lines, Tree, Table, Walk, walk_number, walks_of}
use Rattle.pv_model.specs.Answers.Explain.{pledge_text, promise_reason, found_text, directory_words, level_words, level_text, judgement_texts, place_walked, walk_reasons, unveil_reasons, moved_text, remarks, with_remarks, explained_call, explained_next, explained_of}
use Rattle.pv_model.specs.Answers.Levels.{Level, levels}
use Rattle.pv_model.specs.Trace.{for_kill, for_refusal, for_increase, UnveilVerdict, no_entry, entry_lacks, table_locked, Direction, asked_permissions, gone_lines}
use Rattle.pv_laws_states.specs.Calls.{IsUnharmed}
use Rattle.pv_laws_states.proofs.CallOutcomes.{refused-unharmed}
use Rattle.pv_session.specs.OfCallsPath.Ends.{end_of_some}
use Rattle.pv_session.proofs.OfCallsPath.WalkEnds.{begun-ends}
use Rattle.pv_session.proofs.MachineSteps.{called-lines_by}
use Rattle.pv_trace.specs.Steps.{call_lines_of, path_line, path_lines_of, first_lines_of, promise_lines_of, unveil_lines_of, moved_lines_of, end_lines_of, lines_by, moved_by}
use Rattle.pv_step_lines.specs.declared.making.MadeCall.{MadeCall}
use Rattle.pv_step_lines.specs.declared.making.MadeStep.{MadeStep}
use Rattle.pv_step_lines.specs.declared.making.MadeStep.TheVariants.{Gone as GoneStep, Register, Call as CallMade}
use Rattle.pv_step_lines.specs.Before.{place_before, pledged_of}
use Rattle.pv_step_lines.specs.Made.{table_lines_of, table_lines, call_made_lines, made_lines, IsMadeCall, IsMade}
use Rattle.pv_step_lines.specs.Parts.{why, increase_reason, promise_part, origin_text, lacked_text, directory_words_by, level_words_of, level_text_by, judgement_lines, table_reasons, table_part, file_number, node_text, file_at, moved_by_call, moved_part}

map-same : {X Y : Type 0} (f g : X → Y) → ((x : X) → f x ≡ g x) → (xs : List X) → map f xs ≡ map g xs
map-same f g same [] = refl
map-same f g same (x ∷ xs) = ap₂ (λ y ys. y ∷ ys) (same x) (map-same f g same xs)

-- ---- the lines of a table

module _ (s : State) (p : Process) (mine : List Setting) where
  abbrev table : Table
  table = entries_of_table p.table

  found-same : (asked : Perms) (o : Option ℕ) → found_text s p (origin_text mine) asked o ≡ lacked_text table mine asked o
  found-same asked None = refl
  found-same asked (Some k) = refl

  directory-same : (n : ℕ) (o : Option Bytes) → directory_words s p (origin_text mine) n o ≡ directory_words_by s.tree n o
  directory-same n None = refl
  directory-same n (Some path) = refl

  words-same : (target : Target) → level_words s p (origin_text mine) target ≡ level_words_of s.tree target
  words-same (Directory n) = ap (λ bs. codes "directory " ++ bs) (directory-same n (node_path s.tree n))
  words-same (Name d name) = refl

  level-same : (asked : Perms) (l : Level) → level_text s p (origin_text mine) asked l ≡ level_text_by s.tree table mine asked l
  level-same asked l = ap₂ (λ (a b : Bytes). a ++ codes ": " ++ b) (words-same l.target) (found-same asked l.entry)

  judgement-same : (pid : ℕ) (asked : Perms) (o : Option Place) → map (answer_line pid (codes "WHY")) (judgement_texts s p (origin_text mine) asked o) ≡ judgement_lines s.tree table mine pid asked o
  judgement-same pid asked None = refl
  judgement-same pid asked (Some place) =
      map-map (answer_line pid (codes "WHY")) (level_text s p (origin_text mine) asked) (levels s.tree table place)
      ∙ map-same (λ l. answer_line pid (codes "WHY") (level_text s p (origin_text mine) asked l)) (λ l. why pid (level_text_by s.tree table mine asked l))
      (λ l. ap (answer_line pid (codes "WHY")) (level-same asked l)) (levels s.tree table place)

  -- the reasons of a verdict, by the place of the last walk
  module _ (pid : ℕ) (walks : ℕ) where
    abbrev place : Call → Option Place
    place call = place_walked s p (origin_text mine) (walk_number (walks_of call) walks)

    lacks-same : (call : Call) (k : ℕ) → map (answer_line pid (codes "WHY")) (unveil_reasons s p (origin_text mine) call walks (entry_lacks k (asked_permissions call walks)))
        ≡ table_reasons s.tree table mine pid call (place call) (entry_lacks k (asked_permissions call walks))
    lacks-same (Unveil path permissions) k = refl
    lacks-same call k = judgement-same pid (asked_permissions call walks) (place call)

    hides-same : (call : Call) → map (answer_line pid (codes "WHY")) (unveil_reasons s p (origin_text mine) call walks (no_entry (asked_permissions call walks)))
        ≡ table_reasons s.tree table mine pid call (place call) (no_entry (asked_permissions call walks))
    hides-same (Unveil path permissions) = judgement-same pid (asked_permissions (Unveil path permissions) walks) (place (Unveil path permissions))
    hides-same call = judgement-same pid (asked_permissions call walks) (place call)

    locked-same : (call : Call) → map (answer_line pid (codes "WHY")) (unveil_reasons s p (origin_text mine) call walks table_locked) ≡ table_reasons s.tree table mine pid call (place call) table_locked
    locked-same (Unveil path permissions) = refl
    locked-same call = refl

    reasons-same : (after : State) (call : Call) (o : Outcome) → flat_map (λ w. of_trace (line pid w) ∷ remarks s pid p (origin_text mine) call (record { after = after; outcome = o; walks = walks }) w) (unveil_words call walks o)
        ≡ flat_map (table_part s.tree table mine pid call (place call)) (unveil_words call walks o)
    reasons-same after call (Failed e (ByUnveil None)) = ap (λ (ls : List AnswerLine). (of_trace (line pid (unvl_word (no_entry (asked_permissions call walks)))) ∷ ls) ++ []) (hides-same call)
    reasons-same after call (Failed e (ByUnveil (Some k))) = ap (λ (ls : List AnswerLine). (of_trace (line pid (unvl_word (entry_lacks k (asked_permissions call walks)))) ∷ ls) ++ []) (lacks-same call k)
    reasons-same after call (Failed e Locked) = ap (λ (ls : List AnswerLine). (of_trace (line pid (unvl_word table_locked)) ∷ ls) ++ []) (locked-same call)
    reasons-same after call o = refl

-- ---- the lines of a call, part by part

module _ (s : State) (pid : ℕ) (me : Process) (mine : List Setting) (call : Call) (a : Answered) where
  abbrev said : Line → List AnswerLine
  said l = with_remarks s pid me (origin_text mine) call a l

  paths-same : (paths : List Bytes) → flat_map said (map (path_line pid) paths) ≡ map of_trace (map (path_line pid) paths)
  paths-same [] = refl
  paths-same (path ∷ paths) = ap (λ (ls : List AnswerLine). of_trace (path_line pid path) ∷ ls) (paths-same paths)

  pub first-same : (walks : ℕ) → flat_map said (first_lines_of pid call walks) ≡ map of_trace (first_lines_of pid call walks)
  first-same walks = ap (λ (ls : List AnswerLine). of_trace (line pid (call_word call)) ∷ ls) (paths-same (take walks (Rattle.pv_model.specs.Trace.walked_paths call)))

  pub last-same : (o : Outcome) → flat_map said (end_lines_of pid call o) ≡ map of_trace (end_lines_of pid call o)
  last-same (Value n) = refl
  last-same (Text taken) = refl
  last-same (Failed e cause) = refl
  last-same (Killed p) = refl
  last-same Exited = refl
  last-same Blocked = refl
  last-same Gone = refl

  increase-same : (c : Call) → pledge_text me c ≡ increase_reason (pledged_of me) c
  increase-same (Pledge promises execpromises) = refl
  increase-same c = refl

  pub promise-same : (o : Outcome) → flat_map said (promise_lines_of pid call o) ≡ flat_map (promise_part pid (pledged_of me) call) (promise_words call o)
  promise-same (Killed p) = refl
  promise-same (Failed ENOSYS (ByPromise p)) = refl
  promise-same (Failed e (ByPromise p)) =
      ap (λ (bs : Bytes). of_trace (line pid (pldg_word call p for_increase)) ∷ answer_line pid (codes "WHY") bs ∷ []) (increase-same call)
  promise-same (Failed e Plain) = refl
  promise-same (Failed e (ByUnveil k)) = refl
  promise-same (Failed e Locked) = refl
  promise-same o = refl

  -- ---- bytes

  node-same : (o : Option Descriptor) → Rattle.pv_model.specs.Answers.Explain.node_of_file a.after (open_file_of a.after o) ≡ node_text a.after (file_at a.after (option_map (λ x. x.file) o))
  node-same None = refl
  node-same (Some x) = by (at_number a.after.files x.file)
    where
      by : (o : Option OpenFile) → Rattle.pv_model.specs.Answers.Explain.node_of_file a.after (option_map (λ f. (x.file, f)) o) ≡ node_text a.after o
      by None = refl
      by (Some f) = refl

  text-same : (c : Call) (bytes : Bytes) → moved_text a.after me c bytes ≡ moved_by_call a.after (file_number me c) c bytes
  text-same Wait bytes = refl
  text-same (Stat path) bytes = refl
  text-same (Lstat path) bytes = refl
  text-same (Fstat d) bytes = refl
  text-same (Read d n) bytes = ap (λ (bs : Bytes). Rattle.pv_model.specs.Trace.quote bytes ++ bs) (node-same (descriptor_at me d))
  text-same (Write d n) bytes = ap (λ (bs : Bytes). Rattle.pv_model.specs.Trace.quote bytes ++ bs) (node-same (descriptor_at me d))
  text-same c bytes = refl

  gio-same : (direction : Direction) (bytes : Bytes) → said (line pid (gio_word direction bytes)) ≡ moved_part pid a.after (file_number me call) call (gio_word direction bytes)
  gio-same direction [] = refl
  gio-same direction (b ∷ bs) = ap (λ (t : Bytes). of_trace (line pid (gio_word direction (b ∷ bs))) ∷ answer_line pid (codes "TEXT") t ∷ []) (text-same call (b ∷ bs))

  one-moved : (direction : Direction) (bytes : Bytes) → flat_map said (map (line pid) (gio_word direction bytes ∷ [])) ≡ flat_map (moved_part pid a.after (file_number me call) call) (gio_word direction bytes ∷ [])
  one-moved direction bytes = ap (λ (ls : List AnswerLine). ls ++ []) (gio-same direction bytes)

module _ (s : State) (pid : ℕ) (me : Process) (mine : List Setting) (a : Answered) where
  pub moved-same : (call : Call) (front : Bytes) (o : Outcome) → flat_map (said s pid me mine call a) (moved_lines_of pid front call o)
      ≡ flat_map (moved_part pid a.after (file_number me call) call) (moved_by front call o)
  moved-same call front (Text taken) = one-moved s pid me mine call a Rattle.pv_model.specs.Trace.gave (take taken.len front)
  moved-same (Write d n) front (Value count) = one-moved s pid me mine (Write d n) a Rattle.pv_model.specs.Trace.took (take count front)
  moved-same call front o = refl

-- ---- a call

module _ (s : State) (pid : ℕ) (mine : List Setting) (m : MadeCall) (after : State) (is : IsMadeCall s pid m after) where
  abbrev c : Call
  c = call_of m.call

  abbrev me : Process
  me = is.me

  abbrev now : Answered
  now = record { after = after; outcome = m.answer.outcome; walks = m.answer.walks }

  abbrev says : Line → List AnswerLine
  says l = with_remarks s pid me (origin_text mine) c now l

  place-same : place_before m.before m.answer.walks ≡ place_walked s me (origin_text mine) (walk_number (walks_of c) m.answer.walks)
  place-same = is.before.place m.answer.walks ∙ by (walk_number (walks_of c) m.answer.walks) refl
    where
      by : (o : Option Walk) → walk_number (walks_of c) m.answer.walks ≡ o → end_of_some s pid me o ≡ place_walked s me (origin_text mine) o
      by None none = refl
      by (Some w) found =
          let few : m.answer.walks ≤ (answer program_of s pid c).walks = omega (arith, ap (λ (x : Answered). x.walks) is.answered) in
          begun-ends program_of s pid me is.lives c m.answer.walks w found few

  -- a refusal leaves the tree and the table unchanged
  refused-same : (e : Errno) (cause : Cause) → m.answer.outcome ≡ Failed e cause
      → table_lines pid mine m after ≡ flat_map (table_part s.tree (entries_of_table me.table) mine pid c (place_before m.before m.answer.walks)) (unveil_words c m.answer.walks m.answer.outcome)
  refused-same e cause fails =
      let reported : (answer program_of s pid c).outcome ≡ Failed e cause = ap (λ (x : Answered). x.outcome) is.answered ∙ fails in
      let left : IsUnharmed s pid after = subst (λ (x : State). IsUnharmed s pid x) (ap (λ (x : Answered). x.after) is.answered) (refused-unharmed program_of s pid c e cause reported) in
      let stays = left.caller me is.lives in
      let words : List Word = unveil_words c m.answer.walks m.answer.outcome in
      let o : Option Place = place_before m.before m.answer.walks in
      ap (table_lines_of pid mine m after) stays.1
      ∙ ap₂ (λ (t : Tree) (entries : Table). flat_map (table_part t entries mine pid c o) words) left.tree (ap entries_of_table stays.2.table)

  none-same : unveil_words c m.answer.walks m.answer.outcome ≡ []
      → table_lines pid mine m after ≡ flat_map (table_part s.tree (entries_of_table me.table) mine pid c (place_before m.before m.answer.walks)) (unveil_words c m.answer.walks m.answer.outcome)
  none-same none = by (process_at after pid) ∙ sym (ap (flat_map (table_part s.tree (entries_of_table me.table) mine pid c (place_before m.before m.answer.walks))) none)
    where
      by : (o : Option Process) → table_lines_of pid mine m after o ≡ []
      by None = refl
      by (Some q) = ap (flat_map (table_part after.tree (entries_of_table q.table) mine pid c (place_before m.before m.answer.walks))) none

  left-same : (o : Outcome) → m.answer.outcome ≡ o
      → table_lines pid mine m after ≡ flat_map (table_part s.tree (entries_of_table me.table) mine pid c (place_before m.before m.answer.walks)) (unveil_words c m.answer.walks m.answer.outcome)
  left-same (Failed e cause) fails = refused-same e cause fails
  left-same (Value n) reported = none-same (ap (unveil_words c m.answer.walks) reported)
  left-same (Text taken) reported = none-same (ap (unveil_words c m.answer.walks) reported)
  left-same (Killed p) reported = none-same (ap (unveil_words c m.answer.walks) reported)
  left-same Exited reported = none-same (ap (unveil_words c m.answer.walks) reported)
  left-same Blocked reported = none-same (ap (unveil_words c m.answer.walks) reported)
  left-same Gone reported = none-same (ap (unveil_words c m.answer.walks) reported)

  table-same : flat_map says (unveil_lines_of pid c m.answer.walks m.answer.outcome) ≡ table_lines pid mine m after
  table-same =
      flat_map-map says (line pid) (unveil_words c m.answer.walks m.answer.outcome)
      ∙ reasons-same s me mine pid m.answer.walks after c m.answer.outcome
      ∙ ap (λ (o : Option Place). flat_map (table_part s.tree (entries_of_table me.table) mine pid c o) (unveil_words c m.answer.walks m.answer.outcome)) (sym place-same)
      ∙ sym (left-same m.answer.outcome refl)

  parts : {X Y : Type 0} (f : X → List Y) (a b d e g h : List X) → flat_map f (a ++ b ++ d ++ e ++ g ++ h) ≡ flat_map f (a ++ b) ++ flat_map f d ++ flat_map f e ++ flat_map f g ++ flat_map f h
  parts f a b d e g h =
      flat_map-append f (a ++ b ++ d ++ e ++ g) h
      ∙ ap (λ ys. ys ++ flat_map f h) (flat_map-append f (a ++ b ++ d ++ e) g
      ∙ ap (λ ys. ys ++ flat_map f g) (flat_map-append f (a ++ b ++ d) e ∙ ap (λ ys. ys ++ flat_map f e) (flat_map-append f (a ++ b) d)))

  call-same : flat_map says (lines_by pid (buffer_of (process_at after pid)) c m.answer.outcome m.answer.walks) ≡ call_made_lines pid mine m after
  unfolding lines_by call_made_lines
  call-same =
      parts says (call_lines_of pid c) (path_lines_of pid c m.answer.walks) (promise_lines_of pid c m.answer.outcome) (unveil_lines_of pid c m.answer.walks m.answer.outcome)
      (moved_lines_of pid (buffer_of (process_at after pid)) c m.answer.outcome) (end_lines_of pid c m.answer.outcome)
      ∙ joined (first-same s pid me mine c now m.answer.walks)
      (promise-same s pid me mine c now m.answer.outcome ∙ ap (λ held. flat_map (promise_part pid held c) (promise_words c m.answer.outcome)) (sym is.before.pledge))
      table-same
      (moved-same s pid me mine now c (buffer_of (process_at after pid)) m.answer.outcome
      ∙ ap (λ file. flat_map (moved_part pid after file c) (moved_by (buffer_of (process_at after pid)) c m.answer.outcome)) (sym is.before.file))
      (last-same s pid me mine c now m.answer.outcome)
    where
      joined : {a b d e g a' b' d' e' g' : List AnswerLine} → a ≡ a' → b ≡ b' → d ≡ d' → e ≡ e' → g ≡ g' → a ++ b ++ d ++ e ++ g ≡ a' ++ b' ++ d' ++ e' ++ g'
      joined i j k l n = ap₂ (λ xs ys. xs ++ ys) (ap₂ (λ xs ys. xs ++ ys) (ap₂ (λ xs ys. xs ++ ys) (ap₂ (λ xs ys. xs ++ ys) i j) k) l) n

  pub made-call : call_made_lines pid mine m after ≡ explained_step program_of (origin_text mine) s pid
  unfolding explained_step
  made-call =
      sym call-same ∙ sym (ap (λ (ls : List Line). flat_map says ls) (called-lines_by s pid me c now is.lives is.answered))
      ∙ sym (ap (explained_of program_of (origin_text mine) s pid) is.lives ∙ ap (explained_next program_of (origin_text mine) s pid me) is.comes
      ∙ ap (explained_call s pid me (origin_text mine) c) is.answered)

-- the lines of a step are those of the definitions
pub made-is : (s : State) (pid : ℕ) (mine : List Setting) (made : MadeStep) (after : State) → IsMade s pid made after → made_lines pid mine made after ≡ explained_step program_of (origin_text mine) s pid
unfolding explained_step
made-is s pid mine GoneStep after is = sym (ap (explained_of program_of (origin_text mine) s pid) is.0)
made-is s pid mine (Register n) after is = sym (ap (explained_of program_of (origin_text mine) s pid) is.lives ∙ ap (explained_next program_of (origin_text mine) s pid is.me) is.comes)
made-is s pid mine (CallMade m) after is = made-call s pid mine m after is
