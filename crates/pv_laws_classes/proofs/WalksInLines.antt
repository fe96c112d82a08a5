-- The walks that a call began are known from its lines.
use Rattle.std.proofs.Common.{◌≡◌, ℕ, ◌+◌, List, [], ◌∷◌, ◌++◌, map, length, take, min, None, Some, refl, ap, sym, ◌∙◌, arith}
use Rattle.std.proofs.lemmas.List.{length-map, length-take, take_min}
use Rattle.pv_model.specs.declared.call.Call.{Call}
use Rattle.pv_model.specs.declared.call.Call.TheVariants.{Write}
use Rattle.pv_model.specs.declared.errno.Errno.TheVariants.{ENOSYS}
use Rattle.pv_model.specs.declared.outcome.Cause.TheVariants.{Promise as ByPromise, Unveil as ByUnveil, Locked}
use Rattle.pv_model.specs.declared.outcome.Outcome.{Outcome}
use Rattle.pv_model.specs.declared.outcome.Outcome.TheVariants.{Value, Text, Failed, Killed, Exited, Blocked, Gone}
use Rattle.pv_model.specs.Machine.{Answered, Bytes, Process, State, Word, nami_word, Line, line, walked_paths, promise_words, unveil_words, moved_words, end_words, call_lines, walks_of}

-- the number of lines that report a path
abbrev paths_of : Word → ℕ
paths_of (nami_word path) = 1
paths_of w = 0

abbrev paths_in : List Line → ℕ
paths_in [] = 0
paths_in (l ∷ ls) = paths_of l.word + paths_in ls

paths-append : (xs ys : List Line) → paths_in (xs ++ ys) ≡ paths_in xs + paths_in ys
paths-append [] ys = omega arith
paths-append (l ∷ xs) ys = omega (arith, paths-append xs ys)

module _ (pid : ℕ) where
  all-paths : (ps : List Bytes) → paths_in (map (λ path. line pid (nami_word path)) ps) ≡ length ps
  all-paths [] = refl
  all-paths (p ∷ ps) = omega (arith, all-paths ps)

  none-promises : (call : Call) (o : Outcome) → paths_in (map (line pid) (promise_words call o)) ≡ 0
  none-promises call (Killed p) = refl
  none-promises call (Failed ENOSYS (ByPromise p)) = refl
  none-promises call (Failed errno (ByPromise p)) = refl
  none-promises call o = refl

  none-unveil : (call : Call) (walks : ℕ) (o : Outcome) → paths_in (map (line pid) (unveil_words call walks o)) ≡ 0
  none-unveil call walks (Failed errno (ByUnveil None)) = refl
  none-unveil call walks (Failed errno (ByUnveil (Some k))) = refl
  none-unveil call walks (Failed errno Locked) = refl
  none-unveil call walks o = refl

  none-moved : (after : State) (p : Process) (call : Call) (o : Outcome) → paths_in (map (line pid) (moved_words after pid p call o)) ≡ 0
  none-moved after p call (Text taken) = refl
  none-moved after p (Write d n) (Value count) = refl
  none-moved after p call o = refl

  none-end : (call : Call) (o : Outcome) → paths_in (map (line pid) (end_words call o)) ≡ 0
  none-end call (Value n) = refl
  none-end call (Text taken) = refl
  none-end call (Failed errno cause) = refl
  none-end call (Killed p) = refl
  none-end call Exited = refl
  none-end call Blocked = refl
  none-end call Gone = refl

  call-paths : (p : Process) (call : Call) (a : Answered) → paths_in (call_lines pid p call a) ≡ length (take a.walks (walked_paths call))
  unfolding call_lines
  call-paths p call a =
      let paths = map (λ path. line pid (nami_word path)) (take a.walks (walked_paths call)) in
      let promises = map (line pid) (promise_words call a.outcome) in
      let table = map (line pid) (unveil_words call a.walks a.outcome) in
      let moved = map (line pid) (moved_words a.after pid p call a.outcome) in
      let end = map (line pid) (end_words call a.outcome) in
      omega (
        arith,
        paths-append (paths ++ promises ++ table ++ moved) end,
        paths-append (paths ++ promises ++ table) moved,
        paths-append (paths ++ promises) table,
        paths-append paths promises,
        all-paths (take a.walks (walked_paths call)),
        none-promises call a.outcome,
        none-unveil call a.walks a.outcome,
        none-moved a.after p call a.outcome,
        none-end call a.outcome,
      )

  call-walks : (p : Process) (call : Call) (a : Answered) → paths_in (call_lines pid p call a) ≡ min a.walks (length (walks_of call))
  unfolding walked_paths
  call-walks p call a =
      call-paths p call a
      ∙ length-take a.walks (walked_paths call)
      ∙ ap (min a.walks) (length-map (walks_of call) (λ w. w.path))

  -- a call with the same lines began the same walks
  pub begun-same : (p q : Process) (call : Call) (a b : Answered) → call_lines pid q call b ≡ call_lines pid p call a
      → take b.walks (walks_of call) ≡ take a.walks (walks_of call)
  begun-same p q call a b same =
      sym (take_min b.walks (walks_of call))
      ∙ ap (λ n. take n (walks_of call)) (sym (call-walks q call b) ∙ ap paths_in same ∙ call-walks p call a)
      ∙ take_min a.walks (walks_of call)
