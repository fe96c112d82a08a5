-- The calls that a process cannot make without a promise.
use Rattle.std.proofs.Common.{◌≡◌, ◌⊎◌, inl, inr, ⊎_elim, ℕ, negsuc, ◌<◌, Bool, true, false, not, ◌&&◌, ◌||◌, if◌then◌else◌, List, [], ◌∷◌, ◌++◌, Option, None, Some, is_some, refl, ap, sym, subst, ◌∙◌, arith}
use Rattle.std.specs.Prelude.{Contains, filter_map}
use Rattle.std.proofs.lemmas.Bool.{and_parts, cases_eq}
use Rattle.pv_model.specs.declared.call.Call.{Call}
use Rattle.pv_model.specs.declared.call.Call.TheVariants as TheCall
use Rattle.pv_model.specs.declared.errno.Errno.TheVariants.{ENOSYS}
use Rattle.pv_model.specs.declared.open_flags.Mode.{Mode}
use Rattle.pv_model.specs.declared.open_flags.Mode.TheVariants.{Read as ReadMode, Write as WriteMode, ReadWrite}
use Rattle.pv_model.specs.declared.outcome.Outcome.{Outcome}
use Rattle.pv_model.specs.declared.outcome.Outcome.TheVariants.{Value}
use Rattle.pv_model.specs.declared.place.Place.{Place}
use Rattle.pv_model.specs.declared.promise.Promise.{Promise}
use Rattle.pv_model.specs.declared.promise.Promise.TheVariants.{Rpath, Wpath, Cpath, Proc, Exec, Unveil}
use Rattle.pv_model.specs.Machine.{answer, at_next_line, update, Bytes, with_content_of, with_content, with_result, end_process, Reply, end_of, errno_number, collect, needs, needs_cpath, needs_of_mode, Next, inside, calls_for, next, Promises, Need, contains, missing_promise, Program, Process, State, writes, process_at, Stepped, step, step_by, change_file, place_found, places, Touches, Justifies, read_by_descriptor, read_by_execve, Node, directory_node, file_node, link_node, Tree, node_at, with_node, Walk, walks_of, is_unveil}
use Rattle.pv_model.specs.Sealed.{has_none_of, is_pledged_without}
use Rattle.pv_model.specs.Touch.{Touch, HasDescriptor, change_by_descriptor, change_by_open, entry_by_place, report_by_descriptor, report_by_place, gain_by_open}
use Rattle.pv_laws_states.specs.States.{is_call, IsValid}
use Rattle.pv_laws_trees.proofs.TreeChanges.{node_at-same, node_at-other}
use Rattle.pv_laws_trees.proofs.NumberedMaps.{at_number-below}
use Rattle.pv_laws_states.proofs.ValidEnds.{tree-end}
use Rattle.pv_laws_states.proofs.CallOutcomes.{at_call, by_answer}
use Rattle.pv_laws_states.proofs.Processes.{process_at-same, tree-update}
use Rattle.pv_laws_states.proofs.ValidReplies.{valid-at_call}
use Rattle.pv_laws_access.specs.Growth.{begins_image, HasExecuted}
use Rattle.pv_laws_access.proofs.CallEffects
use Rattle.pv_laws_access.proofs.ProcessesAfterEnds.{process_at-collect, update-live, valid-in_order, ended-not_live, step-is}
use Rattle.pv_laws_access.proofs.ProgramImages.{execve-leaves, tables-stay}
use Rattle.pv_laws_access.proofs.JustifiedChanges.{needs-open, AsksCpath, files-written}
use Rattle.pv_laws_access.proofs.JustifiedReads.{all-justified}
use Rattle.pv_laws_access.proofs.PromiseLimits.{missed, no-cpath, no-rpath, no-wpath}
use Rattle.pv_laws_access.proofs.TouchingCalls.{touched}
use Rattle.pv_laws_access.proofs.ProcessOrigins.{valued, heirs}
use Rattle.pv_laws_access.proofs.SealedSteps.{collect-there}
use Rattle.pv_laws_access.specs.Lacking.{KeepsTableAndLock, HasNoTable, ByOwnDescriptor, reads_by, changes_by, reports_by, is_pledged_to_stdio}

-- ---- bytes

one-of : (p q : Process) (s : State) (pid : ℕ) → process_at s pid ≡ Some q → process_at s pid ≡ Some p → q ≡ p
one-of p q s pid is at = let both : Some q ≡ Some p = sym is ∙ at in cc both

pub bytes-by_descriptor : (program_of : Bytes → Option Program) (s : State) (pid : ℕ) (p : Process) (f : ℕ) → IsValid s → process_at s pid ≡ Some p → is_pledged_without (Wpath ∷ []) p ≡ true
    → Touches program_of s pid (change_file f) → (call : Call) × (next p ≡ calls_for call) × HasDescriptor s p call writes f
bytes-by_descriptor program_of s pid p f whole at none changes =
    let e = files-written program_of s pid f whole changes in
    let same = one-of p e.me s pid e.at at in
    let has : HasDescriptor s e.me e.call writes f =
    ⊎_elim (λ own. own.1)
    (λ cut. absurd (no-wpath e.me.promises cut.flags.mode (if cut.flags.create then needs_cpath else []) cut.written (ap (is_pledged_without (Wpath ∷ [])) same ∙ none)
    (ap (missing_promise e.me.promises) (sym (needs-open e.call cut.flags cut.flagged)) ∙ e.held))) e.written in
    (e.call, ap next (sym same) ∙ e.next_is, subst (λ (q : Process). HasDescriptor s q e.call writes f) same has)

-- ---- nodes

there-content : (t : Tree) (f : ℕ) (bytes : Bytes) (n : ℕ) → is_some (node_at (with_content t f bytes) n) ≡ is_some (node_at t n)
there-content t f bytes n = by (node_at t f) refl
  where
    by : (o : Option Node) → node_at t f ≡ o → is_some (node_at (with_content_of t f o bytes) n) ≡ is_some (node_at t n)
    by None at = refl
    by (Some (directory_node es)) at = refl
    by (Some (link_node text)) at = refl
    by (Some (file_node executable old)) at =
        let below = at_number-below t.nodes f (file_node executable old) at in
        ⊎_elim
        (λ same. ap (λ k. is_some (node_at (with_node t f (file_node executable bytes)) k)) same ∙ ap is_some (node_at-same t f (file_node executable bytes) below)
        ∙ sym (ap (λ k. is_some (node_at t k)) same ∙ ap is_some at))
        (λ other. ap is_some (node_at-other t f (file_node executable bytes) n below other)) (cases_eq n f)

module _ (s : State) (pid : ℕ) (me : Process) (call : Call) (whole : IsValid s) (at : process_at s pid ≡ Some me) (is_good : is_call call ≡ true)
    (n : ℕ) (fresh : is_some (node_at s.tree n) ≡ false) where
  same-node : (t : Tree) → is_some (node_at t n) ≡ is_some (node_at s.tree n) → is_some (node_at t n) ≡ true → AsksCpath call
  same-node t same there = let no : is_some (node_at t n) ≡ false = same ∙ fresh in cc

  made-by : (after : State) (r : Reply) → CallEffects.HasEffect s pid me call after r → is_some (node_at after.tree n) ≡ true → AsksCpath call
  made-by _ _ (CallEffects.stays r waiting) there = same-node s.tree refl there
  made-by _ _ (CallEffects.restrains q r no_more same parent table goes) there = same-node s.tree refl there
  made-by _ _ (CallEffects.begins path program is) there = same-node s.tree refl there
  made-by _ _ (CallEffects.closes k) there = same-node s.tree refl there
  made-by _ _ (CallEffects.copies e x k is) there = same-node s.tree refl there
  made-by _ _ (CallEffects.forks is) there = same-node s.tree refl there
  made-by _ _ (CallEffects.reaps k r ended goes) there = same-node s.tree refl there
  made-by _ _ (CallEffects.moves k old new r was node mode named goes) there = same-node s.tree refl there
  made-by _ _ (CallEffects.cuts f bytes own) there = same-node (with_content s.tree f bytes) (there-content s.tree f bytes n) there
  made-by _ _ (CallEffects.writes_bytes f bytes k old new m own was node mode named) there = same-node (with_content s.tree f bytes) (there-content s.tree f bytes n) there
  made-by _ _ (CallEffects.makes place p node change free bare) there = ([], change.need)
  made-by _ _ (CallEffects.links place p old m change allowed is fine) there = ([], change.need)
  made-by _ _ (CallEffects.unlinks place p change) there = ([], change.need)
  made-by _ _ (CallEffects.renames place p next q m from into is) there = ([], from.need)
  made-by _ _ (CallEffects.opens flags place m k flagged allowed is fine written) there = same-node (if flags.truncate then with_content s.tree m [] else s.tree) (by flags.truncate) there
    where
      by : (b : Bool) → is_some (node_at (if b then with_content s.tree m [] else s.tree) n) ≡ is_some (node_at s.tree n)
      by true = there-content s.tree m [] n
      by false = refl
  made-by _ _ (CallEffects.creates flags place p k flagged allowed create named free fine) there =
      (needs_of_mode flags.mode, needs-open call flags flagged ∙ ap (λ b. needs_of_mode flags.mode ++ (if b then needs_cpath else [])) create)

pub no-node_made : (program_of : Bytes → Option Program) (s : State) (pid : ℕ) (p : Process) (n : ℕ) → IsValid s → process_at s pid ≡ Some p → is_pledged_without (Cpath ∷ []) p ≡ true
    → is_some (node_at (step program_of s pid).after.tree n) ≡ true → is_some (node_at s.tree n) ≡ true
no-node_made program_of s pid p n whole at none there = by (is_some (node_at s.tree n)) refl
  where
    by : (b : Bool) → is_some (node_at s.tree n) ≡ b → is_some (node_at s.tree n) ≡ true
    by true is = is
    by false fresh =
        let T : State → Type 0 = λ y. is_some (node_at y.tree n) ≡ true in
        let t = touched program_of s pid whole T
        (λ is. cc)
        (λ q r at' same is. cc)
        (λ y me status tree ascending others is.
        let same : node_at (collect (end_process y pid me status)).tree n ≡ node_at s.tree n = collect-there (end_process y pid me status) n is ∙ ap (λ (u : Tree). node_at u n) (tree-end y pid me status ∙ tree) in
        let no : is_some (node_at (collect (end_process y pid me status)).tree n) ≡ false = ap is_some same ∙ fresh in cc)
        there in
        let same : node_at (collect (update t.after pid t.reported)).tree n ≡ node_at t.after.tree n =
        collect-there (update t.after pid t.reported) n t.touch ∙ ap (λ (u : Tree). node_at u n) (tree-update t.after pid t.reported) in
        let asks =
        made-by (at_call s pid t.me) pid (at_next_line t.me) t.call (valid-at_call s pid t.me whole t.at) (process_at-same s pid (at_next_line t.me)) t.is n fresh t.after t.reply t.does
        (ap is_some (sym same) ∙ t.touch) in
        let mine = one-of p t.me s pid t.at at in
        absurd (no-cpath t.me.promises asks.0 (ap (is_pledged_without (Cpath ∷ [])) mine ∙ none) (ap (missing_promise t.me.promises) (sym asks.1) ∙ t.held))

-- ---- images, children, tables

needs-execve : (o : Option Promises) (path : Bytes) → has_none_of (Exec ∷ []) o ≡ true → missing_promise o (needs (TheCall.Execve path)) ≡ None → ⊥
unfolding needs
needs-execve o path none held = missed o Exec [] none held

needs-fork : (o : Option Promises) → has_none_of (Proc ∷ []) o ≡ true → missing_promise o (needs TheCall.Fork) ≡ None → ⊥
unfolding needs
needs-fork o none held = missed o Proc [] none held

pub no-image : (program_of : Bytes → Option Program) (s : State) (pid : ℕ) (p : Process) → process_at s pid ≡ Some p → is_pledged_without (Exec ∷ []) p ≡ true
    → begins_image (next p) (step program_of s pid).outcome ≡ false
no-image program_of s pid p at none = by (next p) refl (step program_of s pid).outcome refl
  where
    by : (n : Next) → next p ≡ n → (o : Outcome) → (step program_of s pid).outcome ≡ o → begins_image n o ≡ false
    by (calls_for (TheCall.Execve path)) is (Value n) reported = absurd (needs-execve p.promises path none (valued program_of s pid p at (TheCall.Execve path) n is reported))
    by n is o reported = refl

pub no-child : (program_of : Bytes → Option Program) (s : State) (pid : ℕ) (p : Process) (k : ℕ) → IsValid s → process_at s pid ≡ Some p → is_pledged_without (Proc ∷ []) p ≡ true
    → is_some (process_at (step program_of s pid).after k) ≡ true → is_some (process_at s k) ≡ true
no-child program_of s pid p k whole at none lives = by (process_at s k) refl (process_at (step program_of s pid).after k) refl lives
  where
    by : (o : Option Process) → process_at s k ≡ o → (u : Option Process) → process_at (step program_of s pid).after k ≡ u → is_some u ≡ true → is_some o ≡ true
    by (Some q) was u there is = refl
    by None fresh None there is = cc is
    by None fresh (Some q) there is =
        let h = heirs program_of s pid whole k q there in
        let e = h.forked fresh in
        let mine = one-of p h.p s pid e.at at in
        absurd (needs-fork h.p.promises (ap (is_pledged_without (Proc ∷ [])) mine ∙ none) (ap (λ c. missing_promise h.p.promises (needs c)) (sym e.comes) ∙ e.held))

needs-unveil : (o : Option Promises) (path permissions : Option Bytes) → has_none_of (Unveil ∷ []) o ≡ true → missing_promise o (needs (TheCall.Unveil path permissions)) ≡ None → ⊥
unfolding needs
needs-unveil o path permissions none held = missed o Unveil [] none held

abbrev unveils : Next → Bool
unveils (calls_for call) = is_unveil call
unveils next = false

module _ (program_of : Bytes → Option Program) (s : State) (pid : ℕ) (p q : Process) (whole : IsValid s) (at : process_at s pid ≡ Some p) (none : is_pledged_without (Unveil ∷ []) p ≡ true)
    (there : process_at (step program_of s pid).after pid ≡ Some q) where
  abbrev Preserved : Type 0
  Preserved = KeepsTableAndLock p q

  -- an unveil is refused, or kills
  refused-unveil : (call : Call) → is_unveil call ≡ true → process_at (answer program_of s pid call).after pid ≡ Some q → Preserved
  refused-unveil (TheCall.Unveil path permissions) is left =
      by_answer (λ a. process_at a.after pid ≡ Some q → Preserved) program_of s pid (TheCall.Unveil path permissions)
      (λ gone now. let both : None ≡ Some p = sym gone ∙ at in cc both)
      (λ me found met now. absurd (needs-unveil me.promises path permissions (ap (is_pledged_without (Unveil ∷ [])) (one-of p me s pid found at) ∙ none) met))
      (λ me lacks found missing lenient now.
      let reported : Process = with_result (at_next_line me) (negsuc 0) (errno_number ENOSYS) in
      let following = update-live (at_call s pid me) pid (λ x. with_result x (negsuc 0) (errno_number ENOSYS)) (at_next_line me) (process_at-same s pid (at_next_line me)) in
      let both : Some reported ≡ Some q = sym following ∙ now in
      let same : reported ≡ q = cc both in
      let mine = one-of p me s pid found at in
      record { table = ap (λ (x : Process). x.table) (sym same) ∙ ap (λ (x : Process). x.table) mine; locked = ap (λ (x : Process). x.locked) (sym same) ∙ ap (λ (x : Process). x.locked) mine })
      (λ me lacks found missing lenient now.
      absurd (ended-not_live s pid (at_next_line me) 6 whole.processes.ascending q (sym (process_at-collect (end_process s pid (at_next_line me) 6) pid) ∙ now)))
      left
  refused-unveil call is left = cc is

  by-unveil : (n : Next) → next p ≡ n → unveils n ≡ true → Preserved
  by-unveil (inside r) is asks = cc asks
  by-unveil (calls_for call) is asks = refused-unveil call asks (subst (λ (w : Stepped). process_at w.after pid ≡ Some q) (step-is program_of s pid p at ∙ ap (step_by program_of s pid p) is) there)

  quiet-preserved : begins_image (next p) (step program_of s pid).outcome ≡ false → (b : Bool) → unveils (next p) ≡ b → Preserved
  quiet-preserved quiet true asks = by-unveil (next p) refl asks
  quiet-preserved quiet false other =
      let both = tables-stay program_of s pid p q (valid-in_order s whole) at there quiet (λ call is. ap unveils (sym is) ∙ other) in
      record { table = both.0; locked = both.1 }

  by-execve : (n : Next) → next p ≡ n → (o : Outcome) → (step program_of s pid).outcome ≡ o → begins_image n o ≡ true → Preserved ⊎ HasNoTable q
  by-execve (calls_for (TheCall.Execve path)) is (Value n) reported begins =
      let left = (execve-leaves program_of s pid n p path at is reported).1 in
      let both : Some left.0 ≡ Some q = sym left.1 ∙ there in
      let same : left.0 ≡ q = cc both in
      by (subst (HasExecuted p) same left.2) p.execpromises refl
    where
      by : HasExecuted p q → (o : Option Promises) → p.execpromises ≡ o → Preserved ⊎ HasNoTable q
      by has (Some set) set_is = let both = has.stays set set_is in inl (record { table = both.0; locked = both.1 })
      by has None none_is = let both = has.goes none_is in inr (record { table = both.0; locked = both.1 })
  by-execve n is o reported begins = cc begins

  pub tables-preserved : Preserved ⊎ ((begins_image (next p) (step program_of s pid).outcome ≡ true) × HasNoTable q)
  tables-preserved = by (begins_image (next p) (step program_of s pid).outcome) refl
    where
      by : (b : Bool) → begins_image (next p) (step program_of s pid).outcome ≡ b → Preserved ⊎ ((begins_image (next p) (step program_of s pid).outcome ≡ true) × HasNoTable q)
      by true begins = ⊎_elim (λ preserved. inl preserved) (λ gone. inr (begins, gone)) (by-execve (next p) refl (step program_of s pid).outcome refl begins)
      by false quiet = inl (quiet-preserved quiet (unveils (next p)) refl)

-- ---- only stdio

abbrev six : List Promise
six = Rpath ∷ Wpath ∷ Cpath ∷ Proc ∷ Exec ∷ Unveil ∷ []

record HoldsNone (o : Option Promises) : Type 0 where
  rpath : has_none_of (Rpath ∷ []) o ≡ true
  wpath : has_none_of (Wpath ∷ []) o ≡ true
  cpath : has_none_of (Cpath ∷ []) o ≡ true
  proc : has_none_of (Proc ∷ []) o ≡ true
  exec : has_none_of (Exec ∷ []) o ≡ true
  unveil : has_none_of (Unveil ∷ []) o ≡ true

alone : (b : Bool) → b ≡ true → (b && true) ≡ true
alone true is = refl
alone false is = cc is

holds-none : (o : Option Promises) → has_none_of six o ≡ true → HoldsNone o
holds-none None none = cc none
holds-none (Some held) none =
    let a = and_parts (not (contains held Rpath)) _ none in
    let b = and_parts (not (contains held Wpath)) _ a.1 in
    let c = and_parts (not (contains held Cpath)) _ b.1 in
    let d = and_parts (not (contains held Proc)) _ c.1 in
    let e = and_parts (not (contains held Exec)) _ d.1 in
    let f = and_parts (not (contains held Unveil)) _ e.1 in
    record { rpath = alone _ a.0; wpath = alone _ b.0; cpath = alone _ c.0; proc = alone _ d.0; exec = alone _ e.0; unveil = alone _ f.0 }

-- two alternatives, neither of which is held
missed-both : (o : Option Promises) → HoldsNone o → missing_promise o ((Rpath ∷ Wpath ∷ []) ∷ []) ≡ None → ⊥
missed-both None none met = cc (none.rpath)
missed-both (Some held) none met = by (contains held Rpath) (contains held Wpath) (and_parts (not (contains held Rpath)) true none.rpath).0 (and_parts (not (contains held Wpath)) true none.wpath).0 met
  where
    by : (r w : Bool) → not r ≡ true → not w ≡ true → (if (r || (w || false)) then missing_promise (Some held) [] else Some Rpath) ≡ None → ⊥
    by true w nr nw met = cc nr
    by false true nr nw met = cc nw
    by false false nr nw met = cc met

missed-open : (o : Option Promises) → HoldsNone o → (m : Mode) (rest : List Need) → missing_promise o (needs_of_mode m ++ rest) ≡ None → ⊥
missed-open o none ReadMode rest met = no-rpath o ReadMode rest refl none.rpath met
missed-open o none WriteMode rest met = no-wpath o WriteMode rest refl none.wpath met
missed-open o none ReadWrite rest met = no-rpath o ReadWrite rest refl none.rpath met

nowhere-of : (o : Option Promises) → HoldsNone o → (call : Call) → missing_promise o (needs call) ≡ None → walks_of call ≡ []
unfolding needs
nowhere-of o none (TheCall.Exit x) met = refl
nowhere-of o none TheCall.GetPid met = refl
nowhere-of o none TheCall.GetPpid met = refl
nowhere-of o none TheCall.Fork met = refl
nowhere-of o none TheCall.Wait met = refl
nowhere-of o none (TheCall.Pledge x y) met = refl
nowhere-of o none (TheCall.Unveil x y) met = absurd (missed o Unveil [] none.unveil met)
nowhere-of o none (TheCall.Execve x) met = absurd (missed o Exec [] none.exec met)
nowhere-of o none (TheCall.Open path flags) met = absurd (missed-open o none flags.mode (if flags.create then needs_cpath else []) met)
nowhere-of o none (TheCall.OpenAt start path flags) met = absurd (missed-open o none flags.mode (if flags.create then needs_cpath else []) met)
nowhere-of o none (TheCall.Close x) met = refl
nowhere-of o none (TheCall.Dup x) met = refl
nowhere-of o none (TheCall.Dup2 x y) met = refl
nowhere-of o none (TheCall.Read x y) met = refl
nowhere-of o none (TheCall.Write x y) met = refl
nowhere-of o none (TheCall.Lseek x y z) met = refl
nowhere-of o none (TheCall.Fstat x) met = refl
nowhere-of o none (TheCall.Ftruncate x y) met = refl
nowhere-of o none (TheCall.Getdents x) met = refl
nowhere-of o none (TheCall.Fchdir x) met = refl
nowhere-of o none (TheCall.Chdir x) met = absurd (missed o Rpath [] none.rpath met)
nowhere-of o none (TheCall.Stat x) met = absurd (missed-both o none met)
nowhere-of o none (TheCall.Lstat x) met = absurd (missed-both o none met)
nowhere-of o none (TheCall.Readlink x) met = absurd (missed-both o none met)
nowhere-of o none (TheCall.Mkdir x) met = absurd (missed o Cpath [] none.cpath met)
nowhere-of o none (TheCall.Symlink x y) met = absurd (missed o Cpath [] none.cpath met)
nowhere-of o none (TheCall.Link x y) met = absurd (missed o Cpath [] none.cpath met)
nowhere-of o none (TheCall.Unlink x) met = absurd (missed o Cpath [] none.cpath met)
nowhere-of o none (TheCall.Rmdir x) met = absurd (missed o Cpath [] none.cpath met)
nowhere-of o none (TheCall.Rename x y) met = absurd (missed o Cpath [] none.cpath met)

pub walks-nowhere : (p : Process) (call : Call) → is_pledged_to_stdio p ≡ true → missing_promise p.promises (needs call) ≡ None → walks_of call ≡ []
walks-nowhere p call none met = nowhere-of p.promises (holds-none p.promises none) call met

-- no place of its walks is allowed
no-place : (s : State) (p : Process) (call : Call) (place : Place) → walks_of call ≡ [] → Contains (places s p call) place → ⊥
no-place s p call place nowhere has =
    let among = subst (λ (ws : List Walk). Contains (filter_map (λ (w : Walk). place_found (end_of s p w)) ws) place) nowhere has in
    low among.0 among.1
  where
    low : (k : ℕ) → k < 0 → ⊥
    low k is = omega arith

by-descriptor : (s : State) (p : Process) (call : Call) → walks_of call ≡ [] → (touch : Touch) → Justifies s p call touch → ByOwnDescriptor s p call touch
by-descriptor s p call nowhere _ (read_by_descriptor f has) = reads_by f has
by-descriptor s p call nowhere _ (read_by_execve path place f is allowed node) = absurd (no-place s p call place nowhere allowed.0)
by-descriptor s p call nowhere _ (change_by_descriptor f has) = changes_by f has
by-descriptor s p call nowhere _ (change_by_open flags place f flagged cut allowed node) = absurd (no-place s p call place nowhere allowed.0)
by-descriptor s p call nowhere _ (entry_by_place place d name allowed named) = absurd (no-place s p call place nowhere allowed.0)
by-descriptor s p call nowhere _ (report_by_descriptor n has) = reports_by n has
by-descriptor s p call nowhere _ (report_by_place place n allowed node) = absurd (no-place s p call place nowhere allowed.0)
by-descriptor s p call nowhere _ (gain_by_open flags place n mode flagged is allowed node) = absurd (no-place s p call place nowhere allowed.0)

pub touches-by_descriptor : (program_of : Bytes → Option Program) (s : State) (pid : ℕ) (p : Process) (touch : Touch) → IsValid s → process_at s pid ≡ Some p → is_pledged_to_stdio p ≡ true
    → Touches program_of s pid touch → (call : Call) × (next p ≡ calls_for call) × ByOwnDescriptor s p call touch
touches-by_descriptor program_of s pid p touch whole at none touches =
    let e = all-justified program_of s pid whole touch touches in
    let same = one-of p e.0 s pid e.2 at in
    let nowhere = walks-nowhere p e.1 none (ap (λ (x : Process). missing_promise x.promises (needs e.1)) (sym same) ∙ e.4) in
    (e.1, ap next (sym same) ∙ e.3, by-descriptor s p e.1 nowhere touch (subst (λ (x : Process). Justifies s x e.1 touch) same e.5))
