-- A step that reads a file has an access READ or EXEC to it.
use Rattle.std.proofs.Common.{◌≡◌, ◌∙◌, sym, ap, subst, ℕ, ◌+◌, ◌-◌, ℤ, Bool, true, false, min, if◌then◌else◌, ◌==◌, [], ◌∷◌, length, take, drop, map, Contains, Option, None, Some, Ok, ◌⊎◌, inl, inr, ⊎_elim, refl, arith}
use Rattle.std.proofs.Math.ListN.{length-take, length-drop}
use Rattle.std.proofs.lemmas.Bool.Decides.{nat_tests}
use Rattle.pv_model.specs.declared.call.Call.{Call}
use Rattle.pv_model.specs.declared.call.Call.TheVariants as TheCall
use Rattle.pv_model.specs.declared.errno.Errno.{Errno}
use Rattle.pv_model.specs.declared.errno.Errno.TheVariants.{ENOENT, ENOEXEC, EBADF, EACCES, EINVAL, EISDIR}
use Rattle.pv_model.specs.declared.judgement.Judgement.{Judgement}
use Rattle.pv_model.specs.declared.judgement.Judgement.TheVariants.{Allowed}
use Rattle.pv_model.specs.declared.outcome.Cause.{Cause}
use Rattle.pv_model.specs.declared.outcome.Cause.TheVariants.{Plain}
use Rattle.pv_model.specs.declared.outcome.Outcome.{Outcome}
use Rattle.pv_model.specs.declared.outcome.Outcome.TheVariants.{Value, Text, Failed}
use Rattle.pv_model.specs.declared.place.Place.{Place}
use Rattle.pv_model.specs.Machine.{Answered, answer, answer_by_attempt, at_next_line, with_front, update_live, update, effect, executes, node_of_descriptor, accesses, Attempt, done, refused, after_walks, ◌>>=◌, ◌>>◌, refuse_if, demand, Bytes, open_file_for, within, with_result, executable_bytes, Effect, returns_bytes, place_or_refusal, judgement_or_refusal, node_of, bytes_of, open_file, end_of, with_file, needs, Numbered, calls_for, next, missing_promise, OpenFile, Program, Process, State, reads as for_reading, process_at, Stepped, step, step_by, read_file, read_by_descriptor, read_by_execve, places, place_found, Justifies, with_bytes, Touches, Node, file_node, node_at, is_directory_at, judgement, Walked, begins_walk, execve_walk}
use Rattle.pv_model.specs.Answers.Access.{reads, nodes_of_places, nodes_read, nodes_executed}
use Rattle.pv_model.specs.Calls.Descriptors.{if_mode}
use Rattle.pv_laws_states.proofs.CallOutcomes.{at_call}
use Rattle.pv_laws_states.proofs.CallRemainders
use Rattle.pv_laws_access.specs.Justice.{reads_bytes}
use Rattle.pv_laws_access.proofs.ProcessesAfterEnds.{step-is}
use Rattle.pv_laws_access.proofs.JustifiedReads.{near-or_read}
use Rattle.pv_laws_access.proofs.SimilarTrees.{as_is, as_is-fine, near-view, near-at, AreNear, near_state, IsNear, near-collect, near-bytes, same-but_file, directory-near, resolve-near, judgement-near}
use Rattle.pv_laws_access.proofs.NextNames.{answer-does}
use Rattle.pv_laws_access.proofs.ClosedProcesses.{one-walk, found-ok}
use Rattle.pv_laws_answers.proofs.Lists.{Among, among-left, among-right, among-map, among-filter_map}
use Rattle.pv_laws_classes.proofs.ReducedProcesses.{themselves}
use Rattle.pv_laws_trees.proofs.ListTests.{not-there}

near-update : (f : ℕ) (a : State) (ys : Numbered Node) → AreNear as_is f a.tree.nodes ys → (pid : ℕ) (g : Process → Process) → IsNear as_is f (update a pid g) (update (near_state a ys) pid g)
near-update f a ys near pid g = by (process_at a pid)
  where
    by : (o : Option Process) → IsNear as_is f (update_live a pid g o) (update_live (near_state a ys) pid g o)
    by None = record { nodes = near; rest = refl }
    by (Some p) = record { nodes = near; rest = refl }

near-collected : (f : ℕ) (a b : State) → IsNear as_is f a b → IsNear as_is f (Rattle.pv_model.specs.Held.collect a) (Rattle.pv_model.specs.Held.collect b)
near-collected f a b near =
    subst (λ (y : State). IsNear as_is f (Rattle.pv_model.specs.Held.collect a) (Rattle.pv_model.specs.Held.collect y)) (sym near.rest) (near-collect as_is f a b.tree.nodes near.nodes)

-- two results with the same outcome, and states that differ only in the file
record AreAlike (f : ℕ) (o o' : Outcome) (a b : State) : Type 0 where
  pub outcome : o' ≡ o
  pub after : IsNear as_is f a b

module _ (program_of : Bytes → Option Program) (s : State) (pid f : ℕ) (ys : Numbered Node) (near : AreNear as_is f s.tree.nodes ys)
    (me : Process) (call : Call) (at : process_at s pid ≡ Some me) (is : next me ≡ calls_for call) (held : missing_promise me.promises (needs call) ≡ None) where
  abbrev v : State
  v = near_state s ys

  abbrev now : Process
  now = at_next_line me

  abbrev x : State
  x = at_call s pid me

  abbrev x' : State
  x' = at_call v pid me

  abbrev AnswersAlike : Attempt Effect → Attempt Effect → Type 0
  AnswersAlike a b = AreAlike f (answer_by_attempt s x pid now a).outcome (answer_by_attempt v x' pid now b).outcome (answer_by_attempt s x pid now a).after (answer_by_attempt v x' pid now b).after

  abbrev Alike : Type 0
  Alike = AreAlike f (step program_of s pid).outcome (step program_of v pid).outcome (step program_of s pid).after (step program_of v pid).after

  step-by-call : (z : State) → process_at z pid ≡ Some me → step program_of z pid ≡ step_by program_of z pid me (calls_for call)
  step-by-call z there = step-is program_of z pid me there ∙ ap (step_by program_of z pid me) is

  alike-by : (a b : Attempt Effect) → effect program_of x pid now call ≡ a → effect program_of x' pid now call ≡ b → AnswersAlike a b → Alike
  alike-by a b first second alike =
      let here : answer program_of s pid call ≡ answer_by_attempt s x pid now a = answer-does program_of s pid me call at held ∙ ap (answer_by_attempt s x pid now) first in
      let there : answer program_of v pid call ≡ answer_by_attempt v x' pid now b = answer-does program_of v pid me call at held ∙ ap (answer_by_attempt v x' pid now) second in
      let one = ap (λ (w : Stepped). w.outcome) (step-by-call s at) ∙ ap (λ (w : Answered). w.outcome) here in
      let two = ap (λ (w : Stepped). w.outcome) (step-by-call v at) ∙ ap (λ (w : Answered). w.outcome) there in
      let after = ap (λ (w : Stepped). w.after) (step-by-call s at) ∙ ap (λ (w : Answered). w.after) here in
      let after' = ap (λ (w : Stepped). w.after) (step-by-call v at) ∙ ap (λ (w : Answered). w.after) there in
      record {
        outcome = two ∙ alike.outcome ∙ sym one;
        after = subst (λ (y : State). IsNear as_is f y (step program_of v pid).after) (sym after) (subst (λ (y : State). IsNear as_is f (answer_by_attempt s x pid now a).after y) (sym after') alike.after);
      }

  -- both calls are refused in the same way
  refused-alike : (walks : ℕ) (errno : Errno) (cause : Cause) → effect program_of x pid now call ≡ refused walks errno cause → effect program_of x' pid now call ≡ refused walks errno cause → Alike
  refused-alike walks errno cause first second =
      alike-by (refused walks errno cause) (refused walks errno cause) first second
      (record { outcome = refl; after = near-update f x ys near pid (λ p. with_result p (Rattle.std.specs.Prelude.negsuc 0) (Rattle.pv_model.specs.Errno.errno_number errno)) })

  -- both calls return no bytes
  nothing-alike : (k : ℕ) (file : OpenFile) → effect program_of x pid now call ≡ done 0 (with_file x k file, returns_bytes 0 []) → effect program_of x' pid now call ≡ done 0 (with_file x' k file, returns_bytes 0 []) → Alike
  nothing-alike k file first second =
      let g : Process → Process = λ p. with_front [] (with_result p (Rattle.std.specs.Prelude.pos 0) 0) in
      alike-by (done 0 (with_file x k file, returns_bytes 0 [])) (done 0 (with_file x' k file, returns_bytes 0 [])) first second
      (record { outcome = refl; after = near-collected f (update (with_file x k file) pid g) (update (with_file x' k file) pid g) (near-update f (with_file x k file) ys near pid g) })

  -- the outcome of the step, by its effect
  outcome-by : (a : Attempt Effect) → effect program_of x pid now call ≡ a → (step program_of s pid).outcome ≡ (answer_by_attempt s x pid now a).outcome
  outcome-by a first =
      ap (λ (w : Stepped). w.outcome) (step-by-call s at)
      ∙ ap (λ (w : Answered). w.outcome) (answer-does program_of s pid me call at held ∙ ap (answer_by_attempt s x pid now) first)

  abbrev pub HasAccess : Type 0
  HasAccess = Among (reads f) (accesses s pid me call (step program_of s pid)) ⊎ Among (executes f) (accesses s pid me call (step program_of s pid))

  read-access : Among f (nodes_read s me call (step program_of s pid).outcome) → HasAccess
  unfolding accesses
  read-access h =
      let o = (step program_of s pid).outcome in
      inl (among-left (reads f) _ _ (among-left (reads f) _ _ (among-left (reads f) (map reads (nodes_read s me call o)) (map executes (nodes_executed s me call o)) (among-map reads f (nodes_read s me call o) h))))

  execute-access : Among f (nodes_executed s me call (step program_of s pid).outcome) → HasAccess
  unfolding accesses
  execute-access h =
      let o = (step program_of s pid).outcome in
      inr (among-left (executes f) _ _ (among-left (executes f) _ _ (among-right (executes f) (map reads (nodes_read s me call o)) (map executes (nodes_executed s me call o)) (among-map executes f (nodes_executed s me call o) h))))

-- ---- a read

pieces-length : (count offset : ℕ) (xs : Bytes) → length (take count (drop offset xs)) ≡ min count (length xs - offset)
pieces-length count offset xs = simp (length-take, length-drop)

none-long : (xs : Bytes) → length xs ≡ 0 → xs ≡ []
none-long [] is = refl
none-long (x ∷ xs) is = absurd (omega (arith, is))

module _ (program_of : Bytes → Option Program) (s : State) (pid f : ℕ) (ys : Numbered Node) (near : AreNear as_is f s.tree.nodes ys)
    (me : Process) (d n : ℤ) (at : process_at s pid ≡ Some me) (is : next me ≡ calls_for (TheCall.Read d n)) (held : missing_promise me.promises (needs (TheCall.Read d n)) ≡ None)
    (k : ℕ) (file : OpenFile) (opens : open_file s me d ≡ Some (k, file)) (node : file.node ≡ f) (mode : for_reading file.mode ≡ true) where
  abbrev y : State
  y = at_call s pid me

  abbrev y' : State
  y' = at_call (near_state s ys) pid me

  abbrev me' : Process
  me' = at_next_line me

  -- the bytes that a read returns
  abbrev pieces : State → ℕ → Bytes
  pieces z count = take count (drop file.offset (bytes_of (node_at z.tree file.node)))

  opened : (z : State) → open_file z me' d ≡ Some (k, file) → open_file_for z pid me' for_reading d ≡ Some (k, file)
  opened z there = ap (if_mode for_reading) there ∙ ap (λ b. if b then Some (k, file) else None) mode

  effect-is : (z : State) → open_file z me' d ≡ Some (k, file) → effect program_of z pid me' (TheCall.Read d n) ≡ (demand EINVAL (within 4096 n) >>= CallRemainders.read_2 z pid me' k file)
  unfolding effect
  effect-is z there = ap (λ o. demand EBADF o >>= CallRemainders.read_1 z pid me' n) (opened z there) ∙ after-none (demand EINVAL (within 4096 n) >>= CallRemainders.read_2 z pid me' k file)
    where
      after-none : (a : Attempt Effect) → after_walks 0 a ≡ a
      after-none (done w v) = ap (λ (k : ℕ). done k v) (omega arith)
      after-none (refused w e c) = ap (λ (k : ℕ). refused k e c) (omega arith)

  abbrev tail : State → Option ℕ → Attempt Effect
  tail z o = demand EINVAL o >>= CallRemainders.read_2 z pid me' k file

  abbrev last : State → ℕ → Bool → Attempt Effect
  last z count b = after_walks 0 (refuse_if EISDIR b >> CallRemainders.read_3 z pid me' k file count)

  by-count : (z : State) (o : Option ℕ) → open_file z me' d ≡ Some (k, file) → within 4096 n ≡ o → effect program_of z pid me' (TheCall.Read d n) ≡ tail z o
  by-count z o there within_is = effect-is z there ∙ ap (tail z) within_is

  same-directory : is_directory_at y'.tree file.node ≡ is_directory_at y.tree file.node
  same-directory = directory-near as_is f s.tree ys near file.node

  same-length : (count : ℕ) → length (pieces y' count) ≡ length (pieces y count)
  same-length count =
      pieces-length count file.offset (bytes_of (node_at y'.tree file.node))
      ∙ ap (λ l. min count (l - file.offset)) (near-view as_is (λ o. length (bytes_of o)) (node_at y.tree file.node) (node_at y'.tree file.node) (λ executable old new long. long) (near-at as_is f s.tree.nodes ys near file.node))
      ∙ sym (pieces-length count file.offset (bytes_of (node_at y.tree file.node)))

  read-alike : HasAccess program_of s pid f ys near me (TheCall.Read d n) at is held ⊎ Alike program_of s pid f ys near me (TheCall.Read d n) at is held
  read-alike = counted (within 4096 n) refl
    where
      some : (count : ℕ) → within 4096 n ≡ Some count → is_directory_at y.tree file.node ≡ false → (b : ℕ) (bs : Bytes) → pieces y count ≡ b ∷ bs
          → HasAccess program_of s pid f ys near me (TheCall.Read d n) at is held
      some count within_is none b bs piece =
          let outcome = outcome-by program_of s pid f ys near me (TheCall.Read d n) at is held (last y count false) (by-count y (Some count) opens within_is ∙ ap (last y count) none) in
          let shown : (step program_of s pid).outcome ≡ Text (record { value = length (b ∷ bs); len = length (b ∷ bs) }) = outcome ∙ ap (λ (xs : Bytes). Text (record { value = length xs; len = length xs })) piece in
          let taken : (length (b ∷ bs) == 0) ≡ false = grind (arith, nat_tests) in
          read-access program_of s pid f ys near me (TheCall.Read d n) at is held
          (subst (λ o. Among f (nodes_read s me (TheCall.Read d n) o)) (sym shown)
          (subst (λ (c : Bool). Among f (if c then [] else node_of_descriptor s me (TheCall.Read d n))) (sym taken)
          (subst (λ (o : Option (ℕ × OpenFile)). Among f (Rattle.std.specs.Prelude.option_to_list (Rattle.std.specs.Prelude.option_map (λ file. file.1.node) o))) (sym opens) (inl (sym node)))))

      none-read : (count : ℕ) → within 4096 n ≡ Some count → is_directory_at y.tree file.node ≡ false → pieces y count ≡ [] → Alike program_of s pid f ys near me (TheCall.Read d n) at is held
      none-read count within_is none piece =
          let piece' : pieces y' count ≡ [] = none-long (pieces y' count) (same-length count ∙ ap length piece) in
          nothing-alike program_of s pid f ys near me (TheCall.Read d n) at is held k (record file { offset = file.offset + 0 })
          (by-count y (Some count) opens within_is ∙ ap (last y count) none ∙ ap (λ (xs : Bytes). done 0 (with_file y k (record file { offset = file.offset + length xs }), returns_bytes (length xs) xs)) piece)
          (by-count y' (Some count) opens within_is ∙ ap (last y' count) (same-directory ∙ none) ∙ ap (λ (xs : Bytes). done 0 (with_file y' k (record file { offset = file.offset + length xs }), returns_bytes (length xs) xs)) piece')

      by-bytes : (count : ℕ) → within 4096 n ≡ Some count → is_directory_at y.tree file.node ≡ false → (xs : Bytes) → pieces y count ≡ xs
          → HasAccess program_of s pid f ys near me (TheCall.Read d n) at is held ⊎ Alike program_of s pid f ys near me (TheCall.Read d n) at is held
      by-bytes count within_is none [] piece = inr (none-read count within_is none piece)
      by-bytes count within_is none (b ∷ bs) piece = inl (some count within_is none b bs piece)

      by-directory : (count : ℕ) → within 4096 n ≡ Some count → (b : Bool) → is_directory_at y.tree file.node ≡ b
          → HasAccess program_of s pid f ys near me (TheCall.Read d n) at is held ⊎ Alike program_of s pid f ys near me (TheCall.Read d n) at is held
      by-directory count within_is true it =
          inr (refused-alike program_of s pid f ys near me (TheCall.Read d n) at is held 0 EISDIR Plain
          (by-count y (Some count) opens within_is ∙ ap (last y count) it) (by-count y' (Some count) opens within_is ∙ ap (last y' count) (same-directory ∙ it)))
      by-directory count within_is false none = by-bytes count within_is none (pieces y count) refl

      counted : (o : Option ℕ) → within 4096 n ≡ o → HasAccess program_of s pid f ys near me (TheCall.Read d n) at is held ⊎ Alike program_of s pid f ys near me (TheCall.Read d n) at is held
      counted None none =
          inr (refused-alike program_of s pid f ys near me (TheCall.Read d n) at is held 0 EINVAL Plain (by-count y None opens none) (by-count y' None opens none))
      counted (Some count) within_is = by-directory count within_is (is_directory_at y.tree file.node) refl

-- ---- an execve

executable-alike : (executable : Bool) (old new : Bytes) → Rattle.std.specs.Prelude.is_some (executable_bytes (Some (file_node executable new))) ≡ Rattle.std.specs.Prelude.is_some (executable_bytes (Some (file_node executable old)))
executable-alike true old new = refl
executable-alike false old new = refl

module _ (program_of : Bytes → Option Program) (s : State) (pid f : ℕ) (ys : Numbered Node) (near : AreNear as_is f s.tree.nodes ys)
    (me : Process) (path : Bytes) (at : process_at s pid ≡ Some me) (is : next me ≡ calls_for (TheCall.Execve path)) (held : missing_promise me.promises (needs (TheCall.Execve path)) ≡ None)
    (place : Place) (has : Contains (places s me (TheCall.Execve path)) place) (allowed : judgement s.tree me.table place (execve_walk path).needed ≡ Allowed) (node : node_of place ≡ Some f) where
  abbrev z : State
  z = at_call s pid me

  abbrev z' : State
  z' = at_call (near_state s ys) pid me

  abbrev me'' : Process
  me'' = at_next_line me

  abbrev walks : ℕ
  walks = if begins_walk path then 1 else 0

  ends : end_of s me (execve_walk path) ≡ Ok place
  ends = found-ok (end_of s me (execve_walk path)) place (one-walk (place_found (end_of s me (execve_walk path))) place has)

  -- the call after its walk and its judgement
  abbrev rest : State → Option Bytes → Attempt Effect
  rest w o = after_walks walks (after_walks 0 (after_walks 0 (demand EACCES o >>= CallRemainders.execve_3 w pid me'' program_of)))

  effect-of : (w : State) → end_of w me'' (execve_walk path) ≡ Ok place → judgement w.tree me''.table place (execve_walk path).needed ≡ Allowed
      → effect program_of w pid me'' (TheCall.Execve path) ≡ rest w (executable_bytes (node_at w.tree f))
  unfolding effect
  effect-of w found judged =
      ap (λ (r : Walked). place_or_refusal walks r >>= (λ place. judgement_or_refusal (judgement w.tree me''.table place (execve_walk path).needed) >> CallRemainders.execve_1 w pid me'' program_of place)) found
      ∙ ap (λ (j : Judgement). after_walks walks (judgement_or_refusal j >> CallRemainders.execve_1 w pid me'' program_of place)) judged
      ∙ ap (λ (o : Option ℕ). after_walks walks (after_walks 0 (demand ENOENT o >>= CallRemainders.execve_2 w pid me'' program_of))) node

  first-effect : (o : Option Bytes) → executable_bytes (node_at z.tree f) ≡ o → effect program_of z pid me'' (TheCall.Execve path) ≡ rest z o
  first-effect o is' = effect-of z ends allowed ∙ ap (rest z) is'

  second-effect : executable_bytes (node_at z'.tree f) ≡ None → effect program_of z' pid me'' (TheCall.Execve path) ≡ rest z' None
  second-effect none =
      effect-of z' (resolve-near as_is f s.tree ys near (execve_walk path).follow me.directory path ∙ ends) (judgement-near as_is f s.tree ys near me.table place (execve_walk path).needed ∙ allowed)
      ∙ ap (rest z') none

  in-places : Among f (nodes_of_places s me (TheCall.Execve path))
  in-places = among-filter_map node_of place f (places s me (TheCall.Execve path)) (themselves (places s me (TheCall.Execve path)) place has) node

  execve-alike : HasAccess program_of s pid f ys near me (TheCall.Execve path) at is held ⊎ Alike program_of s pid f ys near me (TheCall.Execve path) at is held
  execve-alike = by (executable_bytes (node_at z.tree f)) refl
    where
      none-alike : executable_bytes (node_at z.tree f) ≡ None → Alike program_of s pid f ys near me (TheCall.Execve path) at is held
      none-alike none =
          let there = near-view as_is (λ o. Rattle.std.specs.Prelude.is_some (executable_bytes o)) (node_at z.tree f) (node_at z'.tree f) (λ executable old new long. executable-alike executable old new) (near-at as_is f s.tree.nodes ys near f) in
          refused-alike program_of s pid f ys near me (TheCall.Execve path) at is held (walks + 0) EACCES Plain (first-effect None none)
          (second-effect (not-there (executable_bytes (node_at z'.tree f)) (there ∙ ap Rattle.std.specs.Prelude.is_some none)))

      by-program : (code : Bytes) → executable_bytes (node_at z.tree f) ≡ Some code → (o : Option Program) → program_of code ≡ o → HasAccess program_of s pid f ys near me (TheCall.Execve path) at is held
      by-program code is' None unparsed =
          let effect' = first-effect (Some code) is' ∙ ap (λ (o : Option Program). after_walks walks (after_walks 0 (after_walks 0 (after_walks 0 (demand ENOEXEC o >>= CallRemainders.execve_4 z pid me''))))) unparsed in
          let outcome : (step program_of s pid).outcome ≡ Failed ENOEXEC Plain = outcome-by program_of s pid f ys near me (TheCall.Execve path) at is held (refused (walks + 0) ENOEXEC Plain) effect' in
          read-access program_of s pid f ys near me (TheCall.Execve path) at is held (subst (λ o. Among f (nodes_read s me (TheCall.Execve path) o)) (sym outcome) in-places)
      by-program code is' (Some program) parsed =
          let effect' = first-effect (Some code) is' ∙ ap (λ (o : Option Program). after_walks walks (after_walks 0 (after_walks 0 (after_walks 0 (demand ENOEXEC o >>= CallRemainders.execve_4 z pid me''))))) parsed in
          let outcome : (step program_of s pid).outcome ≡ Value 0 = outcome-by program_of s pid f ys near me (TheCall.Execve path) at is held _ effect' in
          execute-access program_of s pid f ys near me (TheCall.Execve path) at is held (subst (λ o. Among f (nodes_executed s me (TheCall.Execve path) o)) (sym outcome) in-places)

      by : (o : Option Bytes) → executable_bytes (node_at z.tree f) ≡ o → HasAccess program_of s pid f ys near me (TheCall.Execve path) at is held ⊎ Alike program_of s pid f ys near me (TheCall.Execve path) at is held
      by None none = inr (none-alike none)
      by (Some code) is' = inl (by-program code is' (program_of code) refl)

-- ---- a step

-- a step that reads a file has an access to it
pub record IsReadAccess (program_of : Bytes → Option Program) (s : State) (pid f : ℕ) : Type 0 where
  pub process : Process
  pub call : Call
  pub live : process_at s pid ≡ Some process
  pub calls : next process ≡ calls_for call
  pub has : Among (reads f) (accesses s pid process call (step program_of s pid)) ⊎ Among (executes f) (accesses s pid process call (step program_of s pid))

pub reads-accessed : (program_of : Bytes → Option Program) (s : State) (pid f : ℕ) → Touches program_of s pid (read_file f) → IsReadAccess program_of s pid f
reads-accessed program_of s pid f touches =
    ⊎_elim (λ e. reading e.0 e.1 e.2 e.3 e.4 e.5.0 e.5.1) (λ alike. absurd (differ alike.outcome alike.after))
    (near-or_read as_is as_is-fine program_of s pid f touches.0 touches.2 (λ by m n same. same))
  where
    differ : (step program_of (with_bytes s f touches.0) pid).outcome ≡ (step program_of s pid).outcome → IsNear as_is f (step program_of s pid).after (step program_of (with_bytes s f touches.0) pid).after → ⊥
    differ outcome after =
        ⊎_elim (λ other. other outcome) (λ apart. apart (same-but_file as_is f (step program_of s pid).after (step program_of (with_bytes s f touches.0) pid).after after)) touches.3

    near : IsNear as_is f s (with_bytes s f touches.0)
    near = near-bytes as_is s f touches.0 touches.2

    read-by : (me : Process) (call : Call) → process_at s pid ≡ Some me → next me ≡ calls_for call
        → (Among (reads f) (accesses s pid me call (step program_of s pid)) ⊎ Among (executes f) (accesses s pid me call (step program_of s pid)))
        ⊎ AreAlike f (step program_of s pid).outcome (step program_of (near_state s (with_bytes s f touches.0).tree.nodes) pid).outcome (step program_of s pid).after (step program_of (near_state s (with_bytes s f touches.0).tree.nodes) pid).after
        → IsReadAccess program_of s pid f
    read-by me call at is (inl has) = record { process = me; call = call; live = at; calls = is; has = has }
    read-by me call at is (inr alike) =
        absurd (differ (ap (λ (w : State). (step program_of w pid).outcome) near.rest ∙ alike.outcome)
        (subst (λ (w : State). IsNear as_is f (step program_of s pid).after (step program_of w pid).after) (sym near.rest) alike.after))

    reading : (me : Process) (call : Call) → process_at s pid ≡ Some me → next me ≡ calls_for call → missing_promise me.promises (needs call) ≡ None → reads_bytes call ≡ true
        → Justifies s me call (read_file f) → IsReadAccess program_of s pid f
    reading me (TheCall.Read d n) at is held yes' (read_by_descriptor g (e, k, file, same, opens, node, mode)) =
        let own : d ≡ e = cc same in
        read-by me (TheCall.Read d n) at is
        (read-alike program_of s pid f (with_bytes s f touches.0).tree.nodes near.nodes me d n at is held k file (ap (open_file s me) own ∙ opens) node mode)
    reading me (TheCall.Read d n) at is held yes' (read_by_execve path place g same allowed node) = absurd (cc same)
    reading me (TheCall.Execve path) at is held yes' (read_by_descriptor g (e, k, file, same, opens, node, mode)) = absurd (cc same)
    reading me (TheCall.Execve path) at is held yes' (read_by_execve other place g same allowed node) =
        read-by me (TheCall.Execve path) at is
        (execve-alike program_of s pid f (with_bytes s f touches.0).tree.nodes near.nodes me path at is held place allowed.0 allowed.1 node)
    reading me call at is held yes' just = let bad : false ≡ true = yes' in absurd (cc)
