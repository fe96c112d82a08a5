-- The UNVL lines of a call.
use Rattle.std.proofs.Common.{◌≡◌, ℕ, List, [], ◌∷◌, ◌++◌, map, Option, None, Some, refl, ap, sym, subst, ◌∙◌}
use Rattle.std.specs.Prelude.{take}
use Rattle.pv_model.specs.declared.call.Call.{Call}
use Rattle.pv_model.specs.declared.call.Call.TheVariants.{Write}
use Rattle.pv_model.specs.declared.errno.Errno.TheVariants.{ENOSYS}
use Rattle.pv_model.specs.declared.outcome.Cause.TheVariants.{Plain, Promise as ByPromise, Unveil as ByUnveil, Locked}
use Rattle.pv_model.specs.declared.outcome.Outcome.{Outcome}
use Rattle.pv_model.specs.declared.outcome.Outcome.TheVariants.{Value, Text, Failed, Killed, Exited, Blocked, Gone}
use Rattle.pv_model.specs.Machine.{Answered, answer, Bytes, Program, Process, State, process_at, Word, nami_word, unvl_word, Line, line, walked_paths, promise_words, unveil_words, moved_words, end_words, call_lines}
use Rattle.pv_model.specs.Trace.{UnveilVerdict, no_entry, entry_lacks, asked_permissions, needed_by}
use Rattle.pv_laws_access.specs.TableRefusals.{IsRefusedByTable, verdicts_of_word, table_verdicts, IsDecisionToReport, of_none, of_entry, of_lock, of_nothing}
use Rattle.pv_laws_access.proofs.WalkDecisions.{table-refuses, lock-refuses-exactly}

said-append : (w : Word) (xs ys : List UnveilVerdict) → verdicts_of_word w (xs ++ ys) ≡ verdicts_of_word w xs ++ ys
said-append (unvl_word verdict) xs ys = refl
said-append w xs ys = refl

says-append : (xs ys : List Line) → table_verdicts (xs ++ ys) ≡ table_verdicts xs ++ table_verdicts ys
says-append [] ys = refl
says-append (l ∷ xs) ys = ap (verdicts_of_word l.word) (says-append xs ys) ∙ said-append l.word (table_verdicts xs) (table_verdicts ys)

module _ (pid : ℕ) where
  silent-paths : (ps : List Bytes) → table_verdicts (map (λ path. line pid (nami_word path)) ps) ≡ []
  silent-paths [] = refl
  silent-paths (p ∷ ps) = silent-paths ps

  silent-promises : (call : Call) (o : Outcome) → table_verdicts (map (line pid) (promise_words call o)) ≡ []
  silent-promises call (Killed p) = refl
  silent-promises call (Failed ENOSYS (ByPromise p)) = refl
  silent-promises call (Failed errno (ByPromise p)) = refl
  silent-promises call o = refl

  silent-moved : (after : State) (p : Process) (call : Call) (o : Outcome) → table_verdicts (map (line pid) (moved_words after pid p call o)) ≡ []
  silent-moved after p call (Text taken) = refl
  silent-moved after p (Write d n) (Value count) = refl
  silent-moved after p call o = refl

  silent-end : (call : Call) (o : Outcome) → table_verdicts (map (line pid) (end_words call o)) ≡ []
  silent-end call (Value n) = refl
  silent-end call (Text taken) = refl
  silent-end call (Failed errno cause) = refl
  silent-end call (Killed p) = refl
  silent-end call Exited = refl
  silent-end call Blocked = refl
  silent-end call Gone = refl

  nothing : (vs : List UnveilVerdict) → vs ++ [] ≡ vs
  nothing [] = refl
  nothing (v ∷ vs) = ap (λ ws. v ∷ ws) (nothing vs)

  says-lines : (p : Process) (call : Call) (a : Answered) → table_verdicts (call_lines pid p call a) ≡ table_verdicts (map (line pid) (unveil_words call a.walks a.outcome))
  unfolding call_lines
  says-lines p call a =
      let paths = silent-paths (take a.walks (walked_paths call)) in
      let promises = silent-promises call a.outcome in
      let moved = silent-moved a.after p call a.outcome in
      let end = silent-end call a.outcome in
      simp (says-append, paths, promises, moved, end, nothing)

module _ (program_of : Bytes → Option Program) (s : State) (pid : ℕ) (me : Process) (call : Call) (at : process_at s pid ≡ Some me) where
  abbrev a : Answered
  a = answer program_of s pid call

  permissions-reported : (errno : Rattle.pv_model.specs.declared.errno.Errno.Errno) (entry : Option ℕ) (is : IsRefusedByTable s me call a.walks errno entry) → is.needed ≡ asked_permissions call a.walks
  unfolding asked_permissions
  permissions-reported errno entry is = sym is.stopped.asked ∙ ap needed_by (sym is.stopped.last)

  reported : (o : Outcome) → a.outcome ≡ o → IsDecisionToReport s me call a (table_verdicts (map (line pid) (unveil_words call a.walks o)))
  reported (Failed errno (ByUnveil None)) is =
      let refused = (table-refuses program_of s pid me call errno None at).0 is in
      subst (λ permissions. IsDecisionToReport s me call a (no_entry permissions ∷ [])) (permissions-reported errno None refused) (of_none errno refused is)
  reported (Failed errno (ByUnveil (Some k))) is =
      let refused = (table-refuses program_of s pid me call errno (Some k) at).0 is in
      subst (λ permissions. IsDecisionToReport s me call a (entry_lacks k permissions ∷ [])) (permissions-reported errno (Some k) refused) (of_entry errno k refused is)
  reported (Failed errno Locked) is = of_lock errno ((lock-refuses-exactly program_of s pid me call errno at).0 is) is
  reported (Failed errno Plain) is = of_nothing (λ e entry other. cc (sym is ∙ other)) (λ e other. cc (sym is ∙ other))
  reported (Failed errno (ByPromise p)) is = of_nothing (λ e entry other. cc (sym is ∙ other)) (λ e other. cc (sym is ∙ other))
  reported (Value n) is = of_nothing (λ e entry other. cc (sym is ∙ other)) (λ e other. cc (sym is ∙ other))
  reported (Text taken) is = of_nothing (λ e entry other. cc (sym is ∙ other)) (λ e other. cc (sym is ∙ other))
  reported (Killed p) is = of_nothing (λ e entry other. cc (sym is ∙ other)) (λ e other. cc (sym is ∙ other))
  reported Exited is = of_nothing (λ e entry other. cc (sym is ∙ other)) (λ e other. cc (sym is ∙ other))
  reported Blocked is = of_nothing (λ e entry other. cc (sym is ∙ other)) (λ e other. cc (sym is ∙ other))
  reported Gone is = of_nothing (λ e entry other. cc (sym is ∙ other)) (λ e other. cc (sym is ∙ other))

  pub lines-say : IsDecisionToReport s me call a (table_verdicts (call_lines pid me call a))
  lines-say = subst (IsDecisionToReport s me call a) (sym (says-lines pid me call a)) (reported a.outcome refl)
