-- Calls with other promises, or with another table.
use Rattle.std.proofs.Common.{◌≡◌, ◌≢◌, ◌↔◌, ◌⊎◌, inl, inr, ℕ, zero, suc, ◌-◌, ◌<◌, ◌≤◌, Bool, true, false, if◌then◌else◌, ◌||◌, nat_le, nat_lt, List, [], ◌∷◌, length, slice_get, Option, None, Some, Ok, Err, refl, ap, sym, subst, ◌∙◌, arith, ⊎_elim}
use Rattle.std.specs.Prelude.{filter_map, Contains}
use Rattle.std.specs.List.{list_any}
use Rattle.std.specs.Option.{option_or}
use Rattle.std.proofs.lemmas.Bool.{cases_eq, cases_lt, eq-eqb, leb-true, or_left, or_right}
use Rattle.pv_model.specs.declared.call.Call.{Call}
use Rattle.pv_model.specs.declared.call.Call.TheVariants as TheCall
use Rattle.pv_model.specs.declared.call.Start.{Start}
use Rattle.pv_model.specs.declared.call.Start.TheVariants.{WorkingDirectory}
use Rattle.pv_model.specs.declared.errno.Errno.TheVariants.{EACCES, EINVAL, EMFILE, ENFILE, ENOENT, ENAMETOOLONG}
use Rattle.pv_model.specs.declared.instruction.Instruction.{Instruction}
use Rattle.pv_model.specs.declared.instruction.Instruction.TheVariants as Line
use Rattle.pv_model.specs.declared.judgement.Judgement.{Judgement}
use Rattle.pv_model.specs.declared.judgement.Judgement.TheVariants.{Allowed, Hidden, Denied}
use Rattle.pv_model.specs.declared.open_flags.OpenFlags.{OpenFlags}
use Rattle.pv_model.specs.declared.outcome.Cause.TheVariants.{Unveil as ByUnveil, Locked}
use Rattle.pv_model.specs.declared.outcome.Outcome.{Outcome}
use Rattle.pv_model.specs.declared.outcome.Outcome.TheVariants.{Failed}
use Rattle.pv_model.specs.declared.perms.Perms.{Perms}
use Rattle.pv_model.specs.declared.place.Place.{Place}
use Rattle.pv_model.specs.declared.place.Place.TheVariants.{At, Node as Unnamed}
use Rattle.pv_model.specs.declared.promise.Promise.{Promise}
use Rattle.pv_model.specs.declared.target.Target.TheVariants.{Directory, Name}
use Rattle.pv_model.specs.Machine.{Answered, answer, at_next_line, effect, Judged, Asked, asked, asked_by, same_promise, promises_needed, judged_walks, first_of, is_allowed, Attempt, done, refused, after_walks, ◌>>=◌, ◌>>◌, give, refuse_if, Bytes, is_empty, contradicts, check_start, open_at, ends_in_dot, Effect, place_or_refusal, walk, judgement_or_refusal, judge, end_of, needs, least_free, covers, Next, inside, calls_for, perform, next_by, next, Promises, contains, Need, is_met, missing_promise, Program, Process, State, process_at, with_process, step, Node, directory_node, link_node, Tree, is_directory_at, Table, same_target, entry_for, permissions_at, target_of, directory_rights, judge_entry, governing_entry, judgement, Walked, begins_walk, Walk, open_walk, execve_walk, rename_walk, walks_of, walk_number, is_unveil}
use Rattle.pv_model.specs.Answers.Needs.{asked_of, asked_next}
use Rattle.pv_model.specs.Calls.Paths.{make}
use Rattle.pv_model.specs.Walks.{chdir_walk, stat_walk, lstat_walk, readlink_walk, mkdir_walk, symlink_walk, linked_walk, unlink_walk, rmdir_walk}
use Rattle.pv_laws_states.specs.Courses.{walks_in_sequence, IsStoppedEarly}
use Rattle.pv_laws_states.proofs.CallWalks.{begins-found, calls-along}
use Rattle.pv_laws_states.proofs.CallOutcomes.{at_call, by_answer}
use Rattle.pv_laws_states.proofs.Processes.{process_at-same, update-is}
use Rattle.pv_laws_states.proofs.CallRemainders
use Rattle.pv_laws_access.proofs.ProcessesAfterEnds.{update-live}
use Rattle.pv_laws_access.proofs.WalkDecisions.{Ends, walks_in, table-refuses, lock-refuses-exactly}
use Rattle.pv_laws_answers.specs.ProcessImages.{Moment, IsCallOf, is_counted_for, IsUnmet, with_promises, IsPromiseListed, governing_target, GrantsAt, with_own_table, permissions_listed, GrantsListed, GrantsListedExcept}
use Rattle.pv_laws_answers.specs.Wanted.{HasAllNeeds, reports_need, reports_of_table}
use Rattle.pv_laws_answers.proofs.AskingCalls.{met-answer, along-one, walks-reported}
use Rattle.pv_laws_answers.proofs.SinglePermissions.{Gives, covers-gives, gives-covers}
use Rattle.pv_laws_answers.proofs.ListedNeeds.{in-cases, not-in, first-in, later-in, made-in, promise-listed, IsJudgedListed, judged-listed, judged-of, walk-judged, IsWalkJudged, judged-walk}
use Rattle.pv_laws_answers.proofs.RestraintLines.{has-all, want-reported, lines-of, is_by_table, table-lines, beyond-allowed, last-decides, allowed-silent, refused-reported, along-walks, at-most-one}
use Rattle.pv_laws_trees.proofs.UnveilTargets.{same_target-same}

-- ---- the next step is the same

module _ (p : Process) (held : Option Promises) (table : Option Table) (call : Call) where
  same-call : (i : Instruction) → perform p i ≡ calls_for call → perform (record p { promises = held; table = table }) i ≡ calls_for call
  unfolding perform
  same-call (Line.Set r n) is = cc is
  same-call (Line.Add r n) is = cc is
  same-call (Line.Put bytes) is = cc is
  same-call (Line.Peek r j) is = cc is
  same-call (Line.Jump line) is = cc is
  same-call (Line.JumpIfZero r line) is = cc is
  same-call (Line.JumpIfNotZero r line) is = cc is
  same-call (Line.JumpIfNegative r line) is = cc is
  same-call i is = is

  pub next-call : next p ≡ calls_for call → next (record p { promises = held; table = table }) ≡ calls_for call
  next-call is = by (slice_get p.program (p.line - 1)) is
    where
      by : (o : Option Instruction) → next_by p o ≡ calls_for call → next_by (record p { promises = held; table = table }) o ≡ calls_for call
      by None is = is
      by (Some i) is = same-call i is

-- the needs of a call
pub record IsAsked (program_of : Bytes → Option Program) (s : State) (pid : ℕ) (now : Asked) : Type 0 where
  pub p : Process
  pub call : Call
  pub at : process_at s pid ≡ Some p
  pub next_is : next p ≡ calls_for call
  pub is : now ≡ asked_by s p call (answer program_of s pid call)

pub asked-back : (program_of : Bytes → Option Program) (s : State) (pid : ℕ) (now : Asked) → asked program_of s pid ≡ Some now → IsAsked program_of s pid now
unfolding asked
asked-back program_of s pid now is = of (process_at s pid) refl is
  where
    by : (p : Process) → process_at s pid ≡ Some p → (n : Next) → next p ≡ n → asked_next program_of s pid p n ≡ Some now → IsAsked program_of s pid now
    by p at (inside q) is asks = cc asks
    by p at (calls_for call) is asks =
        let same : asked_by s p call (answer program_of s pid call) ≡ now = cc asks in record { p = p; call = call; at = at; next_is = is; is = sym same }

    of : (o : Option Process) → process_at s pid ≡ o → asked_of program_of s pid o ≡ Some now → IsAsked program_of s pid now
    of None at asks = cc asks
    of (Some p) at asks = by p at (next p) refl asks

-- ---- other promises

-- a need of a call, by its first promise
pub record HasNeed (ns : List Need) (a : Promise) : Type 0 where
  pub need : Need
  pub needed : Contains ns need
  pub counted : is_counted_for a need ≡ true

pub needed-by : (ns : List Need) (a : Promise) → list_any (same_promise a) (filter_map first_of ns) ≡ true → HasNeed ns a
needed-by [] a is = cc is
needed-by ([] ∷ ns) a is = let h = needed-by ns a is in record { need = h.need; needed = later-in [] h.need ns h.needed; counted = h.counted }
needed-by ((b ∷ others) ∷ ns) a is = by (same_promise a b) refl is (needed-by ns a)
  where
    by : (x : Bool) → same_promise a b ≡ x → (x || list_any (same_promise a) (filter_map first_of ns)) ≡ true → (list_any (same_promise a) (filter_map first_of ns) ≡ true → HasNeed ns a) → HasNeed ((b ∷ others) ∷ ns) a
    by true same is more = record { need = b ∷ others; needed = first-in (b ∷ others) ns; counted = same }
    by false other is more = let h = more is in record { need = h.need; needed = later-in (b ∷ others) h.need ns h.needed; counted = h.counted }

pub firsts-held : (set : Promises) (ns : List Need) → ((a : Promise) → list_any (same_promise a) (filter_map first_of ns) ≡ true → contains set a ≡ true) → missing_promise (Some set) ns ≡ None
firsts-held set [] has = refl
firsts-held set ([] ∷ ns) has = firsts-held set ns has
firsts-held set ((b ∷ others) ∷ ns) has =
    let held : contains set b ≡ true = has b (or_left (same_promise b b) (list_any (same_promise b) (filter_map first_of ns)) (eq-eqb _ _ refl)) in
    ap (λ x. if x then missing_promise (Some set) ns else Some b) (or_left (contains set b) (list_any (λ q. contains set q) others) held)
    ∙ firsts-held set ns (λ a is. has a (or_right (same_promise a b) (list_any (same_promise a) (filter_map first_of ns)) is))

pub met-in : (held : Option Promises) (ns : List Need) (a b : Promise) (others : Need) → missing_promise held ns ≡ None → Contains ns (b ∷ others) → is_met held (b ∷ others) ≡ true
met-in held [] a b others none has = absurd (not-in (b ∷ others) has)
met-in held ([] ∷ ns) a b others none has = in-cases (is_met held (b ∷ others) ≡ true) [] (b ∷ others) ns has (λ same. cc same) (λ there. met-in held ns a b others none there)
met-in held ((c ∷ more) ∷ ns) a b others none has = by (is_met held (c ∷ more)) refl none (met-in held ns a b others)
  where
    by : (x : Bool) → is_met held (c ∷ more) ≡ x → (if x then missing_promise held ns else Some c) ≡ None → (missing_promise held ns ≡ None → Contains ns (b ∷ others) → is_met held (b ∷ others) ≡ true)
        → is_met held (b ∷ others) ≡ true
    by true is none rest = in-cases (is_met held (b ∷ others) ≡ true) (c ∷ more) (b ∷ others) ns has (λ same. ap (is_met held) (sym same) ∙ is) (rest none)
    by false is none rest = cc none

module _ (program_of : Bytes → Option Program) (s : State) (pid : ℕ) (p : Process) (call : Call) (at : process_at s pid ≡ Some p) (is : next p ≡ calls_for call) (set : Promises) where
  promised-reported : (reports_need (step program_of (with_promises s pid set) pid).lines ≡ false) ↔ HasAllNeeds (Some set) call
  promised-reported =
      want-reported program_of (with_promises s pid set) pid (record p { promises = Some set }) call (update-live s pid (λ q. record q { promises = Some set }) p at)
      (next-call p (Some set) p.table call is)

pub enough-promises : (program_of : Bytes → Option Program) (pids : List ℕ) (s : State) (pid : ℕ) (process_image : List Moment) (m : Moment) (set : Promises) → IsCallOf program_of pids s pid process_image m
    → ((a : Promise) → IsPromiseListed a process_image → contains set a ≡ true) → reports_need (step program_of (with_promises m.state pid set) pid).lines ≡ false
enough-promises program_of pids s pid process_image m set call_of has =
    let a = asked-back program_of m.state pid m.asked (made-in program_of pid pids s process_image m call_of).asks in
    (promised-reported program_of m.state pid a.p a.call a.at a.next_is set).1
    ((has-all (Some set) a.call).0 (firsts-held set (needs a.call) (λ b needs'. has b
    (promise-listed process_image m b call_of.of_process_image (ap (λ (x : Asked). list_any (same_promise b) x.promises) a.is ∙ needs')))))

pub needed-promises : (program_of : Bytes → Option Program) (pids : List ℕ) (s : State) (pid : ℕ) (process_image : List Moment) (m : Moment) (set : Promises) (b : Promise) (p : Process) (call : Call)
    → IsCallOf program_of pids s pid process_image m → process_at m.state pid ≡ Some p → next p ≡ calls_for call → list_any (same_promise b) m.asked.promises ≡ true → IsUnmet set call b
    → reports_need (step program_of (with_promises m.state pid set) pid).lines ≡ true
needed-promises program_of pids s pid process_image m set b p call call_of at is needs' unmet =
    by (reports_need (step program_of (with_promises m.state pid set) pid).lines) refl
  where
    counted : (need : Need) → is_counted_for b need ≡ true → Contains (needs call) need → missing_promise (Some set) (needs call) ≡ None → is_met (Some set) need ≡ true
    counted [] is has none = cc is
    counted (c ∷ others) is has none = met-in (Some set) (needs call) b c others none has

    by : (x : Bool) → reports_need (step program_of (with_promises m.state pid set) pid).lines ≡ x → reports_need (step program_of (with_promises m.state pid set) pid).lines ≡ true
    by true reported = reported
    by false quiet =
        let a = asked-back program_of m.state pid m.asked (made-in program_of pid pids s process_image m call_of).asks in
        let both : Some a.p ≡ Some p = sym a.at ∙ at in
        let one : a.p ≡ p = cc both in
        let calls : calls_for a.call ≡ calls_for call = sym a.next_is ∙ ap next one ∙ is in
        let same : a.call ≡ call = cc calls in
        let h = needed-by (needs call) b (ap (λ c. list_any (same_promise b) (promises_needed c)) (sym same) ∙ ap (λ (x : Asked). list_any (same_promise b) x.promises) (sym a.is) ∙ needs') in
        let none = (has-all (Some set) call).1 ((promised-reported program_of m.state pid p call at is set).0 quiet) in
        let bad : true ≡ false = sym (counted h.need h.counted h.needed none) ∙ unmet h.need h.needed h.counted in
        cc bad

-- ---- the number of walks

-- two attempts begin a walk, or neither does
record Starts (a b : Attempt Effect) : Type 0 where
  same : (walks_in a ≡ 0) ↔ (walks_in b ≡ 0)

starts-same : (n : ℕ) (a b : Attempt Effect) → Starts a b → Starts (after_walks n a) (after_walks n b)
starts-same n a b is = record {
  same = (
    λ none. counted n b (by n a none).0 (is.same.0 (by n a none).1),
    λ none. counted n a (by n b none).0 (is.same.1 (by n b none).1),
  );
}
  where
    by : (n : ℕ) (a : Attempt Effect) → walks_in (after_walks n a) ≡ 0 → (n ≡ 0) × (walks_in a ≡ 0)
    by n (done walks value) is = (omega (arith, is), omega (arith, is))
    by n (refused walks errno cause) is = (omega (arith, is), omega (arith, is))

    counted : (n : ℕ) (a : Attempt Effect) → n ≡ 0 → walks_in a ≡ 0 → walks_in (after_walks n a) ≡ 0
    counted n (done walks value) first none = omega (arith, first, none)
    counted n (refused walks errno cause) first none = omega (arith, first, none)

starts-then : {A : Type 0} (c : Attempt A) (a b : Attempt Effect) → Starts a b → Starts (c >> a) (c >> b)
starts-then (done walks value) a b is = starts-same walks a b is
starts-then (refused walks errno cause) a b is = record { same = (λ none. none, λ none. none) }

begun : (a : Attempt Effect) → walks_in (after_walks 1 a) ≡ 0 → ⊥
begun (done walks value) is = omega (arith, is)
begun (refused walks errno cause) is = omega (arith, is)

module _ (s u : State) (me you : Process) (w : Walk) (same : end_of u you w ≡ end_of s me w) (f g : Place → Attempt Effect) where
  abbrev here : Walked → Attempt Effect
  here r = place_or_refusal (if begins_walk w.path then 1 else 0) r >>= f

  abbrev there : Walked → Attempt Effect
  there r = place_or_refusal (if begins_walk w.path then 1 else 0) r >>= g

  starts-walk : Starts (walk s me w >>= f) (walk u you w >>= g)
  starts-walk = subst (λ r. Starts (here (end_of s me w)) (there r)) (sym same) (by (end_of s me w) refl)
    where
      by : (r : Walked) → end_of s me w ≡ r → Starts (here r) (there r)
      by (Err e) is = record { same = (λ none. none, λ none. none) }
      by (Ok place) is =
          subst (λ b. Starts (after_walks (if b then 1 else 0) (f place)) (after_walks (if b then 1 else 0) (g place))) (sym (begins-found s.tree w.follow _ w.path place is))
          (record { same = (λ none. absurd (begun (f place) none), λ none. absurd (begun (g place) none)) })

module _ (program_of : Bytes → Option Program) (s : State) (pid : ℕ) (p : Process) (table : Table) where
  abbrev tabled : Process
  tabled = record p { table = Some table }

  abbrev v : State
  v = with_process s pid (record p { table = Some table })

  abbrev x : State
  x = at_call s pid p

  abbrev y : State
  y = at_call v pid tabled

  abbrev now : Process
  now = at_next_line p

  abbrev now_tabled : Process
  now_tabled = at_next_line tabled

  -- the attempt after a walk's place
  abbrev rest_x : Walk → (Place → Attempt Effect) → Place → Attempt Effect
  rest_x w f place = judge x now w place >> f place

  abbrev rest_y : Walk → (Place → Attempt Effect) → Place → Attempt Effect
  rest_y w f place = judge y now_tabled w place >> f place

  walk-starts : (w : Walk) (f g : Place → Attempt Effect) → Starts (walk x now w >>= rest_x w f) (walk y now_tabled w >>= rest_y w g)
  walk-starts w f g = starts-walk x y now now_tabled w refl (rest_x w f) (rest_y w g)

  make-starts : (w : Walk) (node : Node) → Starts (make x pid now w node) (make y pid now_tabled w node)
  make-starts w node = walk-starts w (CallRemainders.make_1 x pid now node) (CallRemainders.make_1 y pid now_tabled node)

  open-starts : (start : Start) (path : Bytes) (f : OpenFlags) → Starts (open_at x pid now start path f) (open_at y pid now_tabled start path f)
  open-starts start path f =
      let w = open_walk start path f in
      let witness_x : Attempt Effect = walk x now w >>= rest_x w (CallRemainders.open_1 x pid now f) in
      let witness_y : Attempt Effect = walk y now_tabled w >>= rest_y w (CallRemainders.open_1 y pid now_tabled f) in
      let files_x : Attempt Effect = refuse_if ENFILE (nat_le 128 (least_free s.files)) >> witness_x in
      let files_y : Attempt Effect = refuse_if ENFILE (nat_le 128 (least_free s.files)) >> witness_y in
      let few_x : Attempt Effect = refuse_if EMFILE (nat_le 16 (least_free p.descriptors)) >> files_x in
      let few_y : Attempt Effect = refuse_if EMFILE (nat_le 16 (least_free p.descriptors)) >> files_y in
      starts-then (refuse_if EINVAL (contradicts f)) (check_start x pid now start path >> few_x) (check_start y pid now_tabled start path >> few_y)
      (starts-then (check_start x pid now start path) few_x few_y
      (starts-then (refuse_if EMFILE (nat_le 16 (least_free p.descriptors))) files_x files_y
      (starts-then (refuse_if ENFILE (nat_le 128 (least_free s.files))) witness_x witness_y
      (walk-starts w (CallRemainders.open_1 x pid now f) (CallRemainders.open_1 y pid now_tabled f)))))

  -- a call that walks begins its walk with another table too
  calls-start : (call : Call) (w : Walk) (ws : List Walk) → walks_of call ≡ w ∷ ws → is_unveil call ≡ false → Starts (effect program_of x pid now call) (effect program_of y pid now_tabled call)
  unfolding effect
  calls-start (TheCall.Unveil path permissions) w ws walks plain = cc plain
  calls-start (TheCall.Execve path) w ws walks plain = walk-starts (execve_walk path) (CallRemainders.execve_1 x pid now program_of) (CallRemainders.execve_1 y pid now_tabled program_of)
  calls-start (TheCall.Open path flags) w ws walks plain = open-starts WorkingDirectory path flags
  calls-start (TheCall.OpenAt start path flags) w ws walks plain = open-starts start path flags
  calls-start (TheCall.Chdir path) w ws walks plain = walk-starts (chdir_walk path) (CallRemainders.chdir_1 x pid now) (CallRemainders.chdir_1 y pid now_tabled)
  calls-start (TheCall.Stat path) w ws walks plain = walk-starts (stat_walk path) (CallRemainders.stat_1 x pid now) (CallRemainders.stat_1 y pid now_tabled)
  calls-start (TheCall.Lstat path) w ws walks plain = walk-starts (lstat_walk path) (CallRemainders.stat_1 x pid now) (CallRemainders.stat_1 y pid now_tabled)
  calls-start (TheCall.Readlink path) w ws walks plain = walk-starts (readlink_walk path) (CallRemainders.readlink_1 x pid now) (CallRemainders.readlink_1 y pid now_tabled)
  calls-start (TheCall.Mkdir path) w ws walks plain = make-starts (mkdir_walk path) (directory_node [])
  calls-start (TheCall.Symlink text path) w ws walks plain =
      starts-then (refuse_if ENOENT (is_empty text)) (refuse_if ENAMETOOLONG (nat_lt 1023 (length text)) >> make x pid now (symlink_walk path) (link_node text))
      (refuse_if ENAMETOOLONG (nat_lt 1023 (length text)) >> make y pid now_tabled (symlink_walk path) (link_node text))
      (starts-then (refuse_if ENAMETOOLONG (nat_lt 1023 (length text))) (make x pid now (symlink_walk path) (link_node text)) (make y pid now_tabled (symlink_walk path) (link_node text))
      (make-starts (symlink_walk path) (link_node text)))
  calls-start (TheCall.Link path new) w ws walks plain = walk-starts (linked_walk path) (CallRemainders.link_1 x pid now new) (CallRemainders.link_1 y pid now_tabled new)
  calls-start (TheCall.Unlink path) w ws walks plain = walk-starts (unlink_walk path) (CallRemainders.unlink_1 x pid now) (CallRemainders.unlink_1 y pid now_tabled)
  calls-start (TheCall.Rmdir path) w ws walks plain =
      starts-then (refuse_if EINVAL (ends_in_dot path)) (walk x now (rmdir_walk path) >>= rest_x (rmdir_walk path) (CallRemainders.rmdir_1 x pid now))
      (walk y now_tabled (rmdir_walk path) >>= rest_y (rmdir_walk path) (CallRemainders.rmdir_1 y pid now_tabled))
      (walk-starts (rmdir_walk path) (CallRemainders.rmdir_1 x pid now) (CallRemainders.rmdir_1 y pid now_tabled))
  calls-start (TheCall.Rename path new) w ws walks plain =
      starts-then (refuse_if EINVAL (ends_in_dot path || ends_in_dot new)) (walk x now (rename_walk path) >>= rest_x (rename_walk path) (CallRemainders.rename_1 x pid now new))
      (walk y now_tabled (rename_walk path) >>= rest_y (rename_walk path) (CallRemainders.rename_1 y pid now_tabled new))
      (walk-starts (rename_walk path) (CallRemainders.rename_1 x pid now new) (CallRemainders.rename_1 y pid now_tabled new))
  calls-start call w ws walks plain = cc walks

-- at most two walks
few-walks : (call : Call) → nat_le (length (walks_of call)) 2 ≡ true
few-walks (TheCall.Unveil None text) = refl
few-walks (TheCall.Unveil (Some path) None) = refl
few-walks (TheCall.Unveil (Some path) (Some text)) = refl
few-walks call = refl

-- if there is a walk with a number, there is a first one
record HasWalks (ws : List Walk) (number : ℕ) (w : Walk) : Type 0 where
  first : Walk
  rest : List Walk
  is : ws ≡ first ∷ rest
  only : number ≡ 1 → first ≡ w
  second : number ≢ 1 → (number ≡ 2) × (rest ≡ w ∷ [])

has-walks : (ws : List Walk) (number : ℕ) (w : Walk) → length ws ≤ 2 → walk_number ws number ≡ Some w → HasWalks ws number w
has-walks [] zero w few found = cc found
has-walks [] (suc i) w few found = cc found
has-walks (v ∷ ws) zero w few found = cc found
has-walks (v ∷ ws) (suc zero) w few found = record { first = v; rest = ws; is = refl; only = λ one. cc found; second = λ other. absurd (other refl) }
has-walks (v ∷ []) (suc (suc i)) w few found = cc found
has-walks (v ∷ u ∷ []) (suc (suc zero)) w few found =
    let same : u ≡ w = cc found in record { first = v; rest = u ∷ []; is = refl; only = λ one. absurd (omega (arith, one)); second = λ other. (refl, ap (λ z. z ∷ []) same) }
has-walks (v ∷ u ∷ []) (suc (suc (suc i))) w few found = cc found
has-walks (v ∷ u ∷ z ∷ ws) (suc (suc i)) w few found = absurd (omega arith)

walks-of-call : (call : Call) (number : ℕ) (w : Walk) → walk_number (walks_of call) number ≡ Some w → HasWalks (walks_of call) number w
walks-of-call call number w found = has-walks (walks_of call) number w (leb-true (length (walks_of call)) 2 (few-walks call)) found

-- ---- the number of walks of an answer

module _ (program_of : Bytes → Option Program) (s : State) (pid : ℕ) (p : Process) (call : Call) (at : process_at s pid ≡ Some p) where
  abbrev r : Answered
  r = answer program_of s pid call

  abbrev e : Attempt Effect
  e = effect program_of (at_call s pid p) pid (at_next_line p) call

  -- the walks of the effect, if the promises are held
  walks-met : missing_promise p.promises (needs call) ≡ None → r.walks ≡ walks_in e
  walks-met met = ap (λ (a : Answered). a.walks) (met-answer program_of s pid p call at met) ∙ walks-reported s (at_call s pid p) pid (at_next_line p) e

  -- no walks otherwise
  walks-lack : (b : Promise) → missing_promise p.promises (needs call) ≡ Some b → r.walks ≡ 0
  walks-lack b lacks =
      by_answer (λ a. a.walks ≡ 0) program_of s pid call
      (λ none. refl)
      (λ q found met.
      let both : Some q ≡ Some p = sym found ∙ at in
      let same : q ≡ p = cc both in
      let bad : None ≡ Some b = sym met ∙ ap (λ (z : Process). missing_promise z.promises (needs call)) same ∙ lacks in cc bad)
      (λ q c found missing lenient. refl)
      (λ q c found missing strict. refl)

  met-some : 1 ≤ r.walks → missing_promise p.promises (needs call) ≡ None
  met-some some = by (missing_promise p.promises (needs call)) refl
    where
      by : (o : Option Promise) → missing_promise p.promises (needs call) ≡ o → missing_promise p.promises (needs call) ≡ None
      by None met = met
      by (Some b) lacks = absurd (let none = walks-lack b lacks in omega (arith, some, none))

  -- a call that walks makes its walks
  module _ (plain : is_unveil call ≡ false) where
    abbrev c : Attempt (Unit {0})
    c = walks_in_sequence (at_call s pid p) (at_next_line p) (walks_of call)

    walks-along : 1 ≤ r.walks → r.walks ≡ walks_in c
    walks-along some =
        let met = walks-met (met-some some) in
        ⊎_elim
        (λ stopped. absurd (let none = stopped-early e stopped in omega (arith, some, met, none)))
        (λ goes. met ∙ sym (along-walks c e goes))
        (calls-along program_of (at_call s pid p) pid (at_next_line p) call plain)
      where
        stopped-early : (a : Attempt Effect) → IsStoppedEarly a → walks_in a ≡ 0
        stopped-early (done walks value) is = absurd is
        stopped-early (refused walks errno cause) is = is.0

-- ---- two walks

-- if the second walk is begun, the first ended at a place
first-ended : (s : State) (me : Process) (w : Walk) (ws : List Walk) → 2 ≤ walks_in (walks_in_sequence s me (w ∷ ws)) → (place : Place) × (end_of s me w ≡ Ok place)
first-ended s me w ws more = by (end_of s me w) refl
  where
    by : (r : Walked) → end_of s me w ≡ r → (place : Place) × (end_of s me w ≡ Ok place)
    by (Ok place) is = (place, is)
    by (Err e) is =
        absurd (at-most-one (begins_walk w.path) e (subst (λ r. 2 ≤ walks_in (place_or_refusal (if begins_walk w.path then 1 else 0) r >>= (λ p. judge s me w p >> walks_in_sequence s me ws))) is more))

-- if both walks end at places, and the first is allowed, both are begun
both-begun : (s : State) (me : Process) (w u : Walk) (place other : Place) → end_of s me w ≡ Ok place → end_of s me u ≡ Ok other
    → is_allowed (judgement s.tree me.table place w.needed) ≡ true → 2 ≤ walks_in (walks_in_sequence s me (w ∷ u ∷ []))
both-begun s me w u place other end last allowed =
    subst (λ c. 2 ≤ walks_in c) (sym (along-one s me w (u ∷ []) place end ∙ ap (λ c. after_walks 1 (judgement_or_refusal (judgement s.tree me.table place w.needed) >> c)) (along-one s me u [] other last)))
    (by (judgement s.tree me.table place w.needed) allowed (judgement s.tree me.table other u.needed))
  where
    by : (i : Judgement) → is_allowed i ≡ true → (j : Judgement) → 2 ≤ walks_in (after_walks 1 (judgement_or_refusal i >> after_walks 1 (judgement_or_refusal j >> give (tt {0}))))
    by Allowed is Allowed = omega arith
    by Allowed is Hidden = omega arith
    by Allowed is (Denied k) = omega arith
    by Hidden is j = cc is
    by (Denied k) is j = cc is

-- ---- another table

-- the entry that governs a place governs its target
governs-target : (t : Tree) (table : Table) (place : Place) → governing_entry t table place ≡ governing_target t table (target_of t place)
unfolding governing_entry
governs-target t table (Unnamed n) = refl
governs-target t table (At d name None) = refl
governs-target t table (At d name (Some n)) = by (is_directory_at t n)
  where
    by : (b : Bool) → (if b then directory_rights t table n else option_or (entry_for table (Name d name)) (directory_rights t table d)) ≡ governing_target t table (if b then Directory n else Name d name)
    by true = refl
    by false = refl

judged-by : (t : Tree) (table : Table) (place : Place) (asked : Perms) (k : ℕ) → governing_target t table (target_of t place) ≡ Some k
    → judgement t (Some table) place asked ≡ (if covers (permissions_at table k) asked then Allowed else Denied k)
unfolding judgement
judged-by t table place asked k is = ap (judge_entry table asked) (governs-target t table place ∙ is)

gives-through : (a b c : Perms) → Gives a b → Gives b c → Gives a c
gives-through a b c ab bc = record { r = λ is. ab.r (bc.r is); w = λ is. ab.w (bc.w is); x = λ is. ab.x (bc.x is); c = λ is. ab.c (bc.c is) }

given-allowed : (t : Tree) (table : Table) (place : Place) (letters asked : Perms) → GrantsAt t table (target_of t place) letters → Gives letters asked → is_allowed (judgement t (Some table) place asked) ≡ true
given-allowed t table place letters asked g has =
    ap is_allowed (judged-by t table place asked g.0 g.1)
    ∙ ap (λ b. is_allowed (if b then Allowed else Denied g.0)) (gives-covers (permissions_at table g.0) asked (gives-through (permissions_at table g.0) letters asked (covers-gives (permissions_at table g.0) letters g.2) has))

module _ (program_of : Bytes → Option Program) (s : State) (pid : ℕ) (p : Process) (call : Call) (table : Table) (at : process_at s pid ≡ Some p) (is : next p ≡ calls_for call) (plain : is_unveil call ≡ false) where
  abbrev q : Process
  q = record p { table = Some table }

  abbrev u : State
  u = with_process s pid (record p { table = Some table })

  abbrev r_s : Answered
  r_s = answer program_of s pid call

  abbrev r_u : Answered
  r_u = answer program_of u pid call

  at_u : process_at u pid ≡ Some q
  at_u = process_at-same s pid q

  is_u : next q ≡ calls_for call
  is_u = next-call p p.promises (Some table) call is

  -- the call walks in both states, or in neither
  some-both : (w : Walk) (ws : List Walk) → walks_of call ≡ w ∷ ws → 1 ≤ r_u.walks → 1 ≤ r_s.walks
  some-both w ws walks some =
      let met = met-some program_of u pid q call at_u some in
      let there = walks-met program_of u pid q call at_u met in
      let here' = walks-met program_of s pid p call at met in
      let starts = calls-start program_of s pid p table call w ws walks plain in
      by (walks_in (e program_of s pid p call at)) refl starts.same.0 here' there
    where
      by : (n : ℕ) → walks_in (e program_of s pid p call at) ≡ n → (walks_in (e program_of s pid p call at) ≡ 0 → walks_in (e program_of u pid q call at_u) ≡ 0)
          → r_s.walks ≡ walks_in (e program_of s pid p call at) → r_u.walks ≡ walks_in (e program_of u pid q call at_u) → 1 ≤ r_s.walks
      by zero none same here' there = absurd (let no_walk = same none in omega (arith, some, there, no_walk))
      by (suc n) more same here' there = omega (arith, more, here')

  some-also : (w : Walk) (ws : List Walk) → walks_of call ≡ w ∷ ws → 1 ≤ r_s.walks → 1 ≤ r_u.walks
  some-also w ws walks some =
      let met = met-some program_of s pid p call at some in
      let there = walks-met program_of u pid q call at_u met in
      let here' = walks-met program_of s pid p call at met in
      let starts = calls-start program_of s pid p table call w ws walks plain in
      by (walks_in (e program_of u pid q call at_u)) refl starts.same.1 here' there
    where
      by : (n : ℕ) → walks_in (e program_of u pid q call at_u) ≡ n → (walks_in (e program_of u pid q call at_u) ≡ 0 → walks_in (e program_of s pid p call at) ≡ 0)
          → r_s.walks ≡ walks_in (e program_of s pid p call at) → r_u.walks ≡ walks_in (e program_of u pid q call at_u) → 1 ≤ r_u.walks
      by zero none same here' there = absurd (let no_walk = same none in omega (arith, some, here', no_walk))
      by (suc n) more same here' there = omega (arith, more, there)

  -- ---- sufficiency

  module _ (process_image : List Moment) (m : Moment) (of_process_image : Contains process_image m) (asks : m.asked ≡ asked_by s p call r_s) where
    judged-in : (j : Judged) → Contains (judged_walks s p call r_s.walks) j → Contains m.asked.walks j
    judged-in j has = subst (λ (a : Asked). Contains a.walks j) (sym asks) has

    -- a walk that was begun in the run and ended at a place is listed
    listed : (number : ℕ) (w : Walk) (place : Place) → number ≤ r_s.walks → walk_number (walks_of call) number ≡ Some w → end_of s p w ≡ Ok place → IsJudgedListed process_image (judged-of s w place)
    listed number w place few found end = judged-listed process_image m (judged-of s w place) of_process_image (judged-in (judged-of s w place) (walk-judged s p call r_s.walks number w place plain few found end))

    module _ (gives : GrantsListed process_image table s) where
      allowed-there : (number : ℕ) (w : Walk) (place : Place) → number ≤ r_s.walks → walk_number (walks_of call) number ≡ Some w → end_of s p w ≡ Ok place
          → is_allowed (judgement s.tree (Some table) place w.needed) ≡ true
      allowed-there number w place few found end =
          let l = listed number w place few found end in
          given-allowed s.tree table place (permissions_listed process_image l.target) w.needed
          (subst (λ target. GrantsAt s.tree table target (permissions_listed process_image l.target)) l.same (gives l.target l.listed)) l.gives

      -- the other table refused the last walk that was begun with it
      refused-last : is_by_table r_u.outcome ≡ true → (w : Walk) × (place : Place) × (walk_number (walks_of call) r_u.walks ≡ Some w) × (end_of s p w ≡ Ok place)
      refused-last reported = by r_u.outcome refl reported
        where
          by : (o : Outcome) → r_u.outcome ≡ o → is_by_table o ≡ true → (w : Walk) × (place : Place) × (walk_number (walks_of call) r_u.walks ≡ Some w) × (end_of s p w ≡ Ok place)
          by (Failed errno (ByUnveil entry)) how reported =
              let why = (table-refuses program_of u pid q call errno entry at_u).0 how in (why.stopped.walk, why.place, why.stopped.last, why.stopped.end)
          by (Failed errno Locked) how reported =
              let lock = (lock-refuses-exactly program_of u pid q call errno at_u).0 how in
              let bad : true ≡ false = ap is_unveil (sym lock.unveils) ∙ plain in cc bad
          by o how reported = cc reported

      -- if one of two walks that end at places was begun, the table refused it
      first-refused : (v w : Walk) (place other : Place) → walks_of call ≡ v ∷ w ∷ [] → end_of s p v ≡ Ok place → end_of s p w ≡ Ok other → r_s.walks ≡ 1 → is_by_table r_s.outcome ≡ true
      first-refused v w place other walks end last one = by (is_allowed (judgement s.tree p.table place v.needed)) refl
        where
          by : (b : Bool) → is_allowed (judgement s.tree p.table place v.needed) ≡ b → is_by_table r_s.outcome ≡ true
          by false stops = refused-reported program_of s pid p call at plain 1 v place (ap (λ ws. walk_number ws 1) walks) end (sym one) stops
          by true allowed =
              let counts = walks-along program_of s pid p call at plain (omega (arith, one)) in
              let both = both-begun (at_call s pid p) (at_next_line p) v w place other end last allowed in
              let more : 2 ≤ walks_in (walks_in_sequence (at_call s pid p) (at_next_line p) (walks_of call)) =
              subst (λ ws. 2 ≤ walks_in (walks_in_sequence (at_call s pid p) (at_next_line p) ws)) (sym walks) both in
              absurd (omega (arith, one, counts, more))

      beyond-first : (w : Walk) (place : Place) → end_of s p w ≡ Ok place → HasWalks (walks_of call) r_u.walks w → r_s.walks < r_u.walks → (r_u.walks ≡ 2) × (r_s.walks ≡ 1) × (is_by_table r_s.outcome ≡ true)
      beyond-first w place end shape beyond =
          let some : 1 ≤ r_s.walks = some-both shape.first shape.rest shape.is (omega (arith, beyond)) in
          let two = shape.second (λ one. omega (arith, beyond, some, one)) in
          let double : r_u.walks ≡ 2 = two.0 in
          let one : r_s.walks ≡ 1 = omega (arith, beyond, some, double) in
          let walks : walks_of call ≡ shape.first ∷ w ∷ [] = shape.is ∙ ap (λ ws. shape.first ∷ ws) two.1 in
          let counts = walks-along program_of u pid q call at_u plain (omega (arith, double)) in
          let more : 2 ≤ walks_in (walks_in_sequence (at_call u pid q) (at_next_line q) (walks_of call)) = omega (arith, double, counts) in
          let first = first-ended (at_call u pid q) (at_next_line q) shape.first (w ∷ []) (subst (λ ws. 2 ≤ walks_in (walks_in_sequence (at_call u pid q) (at_next_line q) ws)) walks more) in
          (double, one, first-refused shape.first w first.0 place walks first.1 end one)

      enough-here : is_by_table r_u.outcome ≡ true → (r_u.walks ≡ 2) × (r_s.walks ≡ 1) × (is_by_table r_s.outcome ≡ true)
      enough-here reported =
          let last = refused-last reported in
          ⊎_elim
          (λ beyond. beyond-first last.0 last.1 last.3 (walks-of-call call r_u.walks last.0 last.2) beyond)
          (λ within.
          let bad : true ≡ false = sym reported ∙ allowed-silent program_of u pid q call at_u plain r_u.walks last.0 last.1 last.2 last.3 refl (allowed-there r_u.walks last.0 last.1 within last.2 last.3) in
          cc bad)
          (cases_lt r_s.walks r_u.walks)

      pub enough-reported : reports_of_table (step program_of u pid).lines ≡ true → (r_u.walks ≡ 2) × (r_s.walks ≡ 1) × (reports_of_table (step program_of s pid).lines ≡ true)
      enough-reported reported =
          let here = enough-here (sym (table-lines program_of u pid q call at_u) ∙ ap reports_of_table (sym (lines-of program_of u pid q call at_u is_u)) ∙ reported) in
          (here.0, here.1, ap reports_of_table (lines-of program_of s pid p call at is) ∙ table-lines program_of s pid p call at ∙ here.2)

    -- ---- necessity

    module _ (judged : Judged) (letter : Perms) (k : ℕ) (gives : GrantsListedExcept process_image table s judged.target letter k) (j : IsWalkJudged s p call r_s.walks judged) (asks_letter : covers judged.permissions letter ≡ true) where
      abbrev by_entry : Judgement → Type 0
      by_entry found = (is_allowed found ≡ true) ⊎ (found ≡ Denied k)

      -- each walk that was begun in the run and ended at a place is allowed, or denied by the entry
      each-walk : (number : ℕ) (w : Walk) (place : Place) → number ≤ r_s.walks → walk_number (walks_of call) number ≡ Some w → end_of s p w ≡ Ok place
          → by_entry (judgement s.tree (Some table) place w.needed)
      each-walk number w place few found end = by (same_target (target_of s.tree place) judged.target) refl
        where
          of : judgement s.tree (Some table) place w.needed ≡ (if covers (permissions_at table k) w.needed then Allowed else Denied k) → (b : Bool) → covers (permissions_at table k) w.needed ≡ b
              → by_entry (judgement s.tree (Some table) place w.needed)
          of says true has = inl (ap is_allowed (says ∙ ap (λ b. if b then Allowed else Denied k) has))
          of says false lacks = inr (says ∙ ap (λ b. if b then Allowed else Denied k) lacks)

          by : (b : Bool) → same_target (target_of s.tree place) judged.target ≡ b → by_entry (judgement s.tree (Some table) place w.needed)
          by true here =
              of (judged-by s.tree table place w.needed k (ap (governing_target s.tree table) (same_target-same (target_of s.tree place) judged.target here) ∙ gives.governs))
              (covers (permissions_at table k) w.needed) refl
          by false elsewhere =
              let l = listed number w place few found end in
              inl (given-allowed s.tree table place (permissions_listed process_image l.target) w.needed
              (subst (λ target. GrantsAt s.tree table target (permissions_listed process_image l.target)) l.same
              (gives.others l.target l.listed (ap (λ target. same_target target judged.target) l.same ∙ elsewhere))) l.gives)

      -- the walk that needed the permission is denied
      denied : judgement s.tree (Some table) j.place j.walk.needed ≡ Denied k
      denied =
          judged-by s.tree table j.place j.walk.needed k (ap (governing_target s.tree table) (sym j.target) ∙ gives.governs)
          ∙ ap (λ b. if b then Allowed else Denied k) (lacks (covers (permissions_at table k) j.walk.needed) refl)
        where
          lacks : (b : Bool) → covers (permissions_at table k) j.walk.needed ≡ b → covers (permissions_at table k) j.walk.needed ≡ false
          lacks false is = is
          lacks true is =
              let through = gives-through (permissions_at table k) j.walk.needed letter (covers-gives (permissions_at table k) j.walk.needed is)
              (covers-gives j.walk.needed letter (ap (λ asked. covers asked letter) (sym j.asked) ∙ asks_letter)) in
              let bad : true ≡ false = sym (gives-covers (permissions_at table k) letter through) ∙ gives.lacks in cc bad

      -- a walk that is begun and denied is the last
      stops-there : (number : ℕ) (w : Walk) (place : Place) → number ≤ r_u.walks → walk_number (walks_of call) number ≡ Some w → end_of s p w ≡ Ok place
          → judgement s.tree (Some table) place w.needed ≡ Denied k → r_u.outcome ≡ Failed EACCES (ByUnveil (Some k))
      stops-there number w place few found end says =
          ⊎_elim
          (λ last. subst (λ found'. Ends found' r_u.outcome) says (last-decides program_of u pid q call at_u plain number w place found end last))
          (λ other.
          let beyond : number < r_u.walks = ⊎_elim (λ less. less) (λ many. absurd (other (omega (arith, few, many)))) (cases_lt number r_u.walks) in
          let bad : true ≡ false = sym (beyond-allowed program_of u pid q call at_u plain number w place found end beyond) ∙ ap is_allowed says in
          cc bad)
          (cases_eq number r_u.walks)

      pub needed-here : r_u.outcome ≡ Failed EACCES (ByUnveil (Some k))
      needed-here = by (walks-of-call call j.number j.walk j.found)
        where
          first-of : HasWalks (walks_of call) j.number j.walk → 1 ≤ r_s.walks
          first-of shape =
              ⊎_elim
              (λ (one : j.number ≡ 1). let few = j.few in omega (arith, few, one))
              (λ other. let two = (shape.second other).0 in let few = j.few in omega (arith, few, two))
              (cases_eq j.number 1)

          second : (shape : HasWalks (walks_of call) j.number j.walk) → j.number ≡ 2 → shape.rest ≡ j.walk ∷ [] → 1 ≤ r_u.walks → r_u.outcome ≡ Failed EACCES (ByUnveil (Some k))
          second shape two rest some =
              let few = j.few in
              let walks : walks_of call ≡ shape.first ∷ j.walk ∷ [] = shape.is ∙ ap (λ ws. shape.first ∷ ws) rest in
              let counts = walks-along program_of s pid p call at plain (first-of shape) in
              let more : 2 ≤ walks_in (walks_in_sequence (at_call s pid p) (at_next_line p) (walks_of call)) = omega (arith, few, two, counts) in
              let first = first-ended (at_call s pid p) (at_next_line p) shape.first (j.walk ∷ []) (subst (λ ws. 2 ≤ walks_in (walks_in_sequence (at_call s pid p) (at_next_line p) ws)) walks more) in
              let number : walk_number (walks_of call) 1 ≡ Some shape.first = ap (λ ws. walk_number ws 1) walks in
              ⊎_elim
              (λ allowed.
              let both = both-begun (at_call u pid q) (at_next_line q) shape.first j.walk first.0 j.place first.1 j.end allowed in
              let reached = walks-along program_of u pid q call at_u plain some in
              let through : 2 ≤ walks_in (walks_in_sequence (at_call u pid q) (at_next_line q) (walks_of call)) =
              subst (λ ws. 2 ≤ walks_in (walks_in_sequence (at_call u pid q) (at_next_line q) ws)) (sym walks) both in
              stops-there j.number j.walk j.place (omega (arith, two, reached, through)) j.found j.end denied)
              (λ says. stops-there 1 shape.first first.0 some number first.1 says)
              (each-walk 1 shape.first first.0 (first-of shape) number first.1)

          by : HasWalks (walks_of call) j.number j.walk → r_u.outcome ≡ Failed EACCES (ByUnveil (Some k))
          by shape =
              let some = some-also shape.first shape.rest shape.is (first-of shape) in
              ⊎_elim
              (λ (one : j.number ≡ 1). stops-there j.number j.walk j.place (omega (arith, one, some)) j.found j.end denied)
              (λ other. let two = shape.second other in second shape two.0 two.1 some)
              (cases_eq j.number 1)

-- ---- calls of program images

-- the process and the call of a recorded moment are those of its state
asked-there : (program_of : Bytes → Option Program) (s : State) (pid : ℕ) (p : Process) (call : Call) (now : Asked) → process_at s pid ≡ Some p → next p ≡ calls_for call → asked program_of s pid ≡ Some now
    → now ≡ asked_by s p call (answer program_of s pid call)
asked-there program_of s pid p call now at is asks =
    let a = asked-back program_of s pid now asks in
    let both : Some a.p ≡ Some p = sym a.at ∙ at in
    let one : a.p ≡ p = cc both in
    let calls : calls_for a.call ≡ calls_for call = sym a.next_is ∙ ap next one ∙ is in
    let same : a.call ≡ call = cc calls in
    a.is ∙ (λ i. asked_by s (one i) (same i) (answer program_of s pid (same i)))

pub enough-single : (program_of : Bytes → Option Program) (pids : List ℕ) (s : State) (pid : ℕ) (process_image : List Moment) (m : Moment) (table : Table) (p : Process) (call : Call)
    → IsCallOf program_of pids s pid process_image m → process_at m.state pid ≡ Some p → next p ≡ calls_for call → is_unveil call ≡ false → GrantsListed process_image table m.state
    → reports_of_table (step program_of (with_own_table m.state pid table) pid).lines ≡ true
    → ((answer program_of (with_own_table m.state pid table) pid call).walks ≡ 2) × ((answer program_of m.state pid call).walks ≡ 1) × (reports_of_table (step program_of m.state pid).lines ≡ true)
enough-single program_of pids s pid process_image m table p call call_of at is plain gives =
    subst (λ y. reports_of_table (step program_of y pid).lines ≡ true
    → ((answer program_of y pid call).walks ≡ 2) × ((answer program_of m.state pid call).walks ≡ 1) × (reports_of_table (step program_of m.state pid).lines ≡ true))
    (sym (update-is m.state pid (λ z. record z { table = Some table }) p at))
    (enough-reported program_of m.state pid p call table at is plain process_image m call_of.of_process_image
    (asked-there program_of m.state pid p call m.asked at is (made-in program_of pid pids s process_image m call_of).asks) gives)

pub needed-single : (program_of : Bytes → Option Program) (pids : List ℕ) (s : State) (pid : ℕ) (process_image : List Moment) (m : Moment) (table : Table) (p : Process) (call : Call) (judged : Judged) (letter : Perms) (k : ℕ)
    → IsCallOf program_of pids s pid process_image m → process_at m.state pid ≡ Some p → next p ≡ calls_for call → GrantsListedExcept process_image table m.state judged.target letter k
    → Contains m.asked.walks judged → covers judged.permissions letter ≡ true
    → (answer program_of (with_own_table m.state pid table) pid call).outcome ≡ Failed EACCES (ByUnveil (Some k))
needed-single program_of pids s pid process_image m table p call judged letter k call_of at is gives has asks_letter =
    let asks = asked-there program_of m.state pid p call m.asked at is (made-in program_of pid pids s process_image m call_of).asks in
    let j = judged-walk m.state p call (answer program_of m.state pid call).walks judged (subst (λ (a : Asked). Contains a.walks judged) asks has) in
    subst (λ y. (answer program_of y pid call).outcome ≡ Failed EACCES (ByUnveil (Some k))) (sym (update-is m.state pid (λ z. record z { table = Some table }) p at))
    (needed-here program_of m.state pid p call table at is j.plain process_image m call_of.of_process_image asks judged letter k gives j asks_letter)
