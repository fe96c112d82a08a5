-- Each process after a step, and the process before it from which it derives its restraints and descriptors.
use Rattle.std.proofs.Common.{◌≡◌, ◌≢◌, ◌⊎◌, inl, inr, ⊎_elim, ℕ, suc, Bool, true, false, not, if◌then◌else◌, ◌==◌, Option, None, Some, is_some, refl, ap, sym, subst, ◌∙◌}
use Rattle.std.proofs.lemmas.Bool.{cases_eq}
use Rattle.std.specs.FinMap.Entries.{find, where_key, is_sorted}
use Rattle.std.specs.Ordering.{nat_cmp}
use Rattle.pv_model.specs.declared.call.Call.{Call}
use Rattle.pv_model.specs.declared.call.Call.TheVariants as TheCall
use Rattle.pv_model.specs.declared.open_flags.Mode.{Mode}
use Rattle.pv_model.specs.declared.open_flags.OpenFlags.{OpenFlags}
use Rattle.pv_model.specs.declared.outcome.Outcome.{Outcome}
use Rattle.pv_model.specs.declared.outcome.Outcome.TheVariants.{Value}
use Rattle.pv_model.specs.declared.place.Place.{Place}
use Rattle.pv_model.specs.Machine.{at_next_line, update, Bytes, child, with_program, end_process, Reply, node_of, among, needs, permissions_of_open, Numbered, at_number, Next, calls_for, next, missing_promise, OpenFile, Program, Process, live, ended_record, State, process_at, with_process, Stepped, step, step_by, flags_of, IsAllowed, Touches, gain_descriptor, new_number}
use Rattle.pv_model.specs.Closed.{HasOn}
use Rattle.pv_model.specs.Touch.{gain_by_open}
use Rattle.pv_laws_states.specs.Held.{used}
use Rattle.pv_laws_states.specs.States.{IsValid}
use Rattle.pv_laws_trees.proofs.NumberedMaps.{keep-some}
use Rattle.pv_laws_states.proofs.ValidEnds.{mapped, sorted-mapped, found-mapped, found-filtered, adopted, map-adopt, live-adopted}
use Rattle.pv_laws_states.proofs.ReferenceMembers.{live-found, found-live}
use Rattle.pv_laws_states.proofs.CallOutcomes.{at_call, by_answer}
use Rattle.pv_laws_states.proofs.Processes.{find-put_other, process_at-same, process_at-other, files-update}
use Rattle.pv_laws_states.proofs.ValidReplies.{valid-at_call}
use Rattle.pv_laws_states.proofs.ChangedStates.{IsFinePlace}
use Rattle.pv_laws_states.proofs.CollectedStates.{files-collect}
use Rattle.pv_laws_states.proofs.ValidStates.{sorted-put_number}
use Rattle.pv_laws_access.specs.Growth.{HasNoMoreRights, HasSameRights, HasExecuted, begins_image}
use Rattle.pv_laws_access.proofs.CallEffects
use Rattle.pv_laws_access.proofs.ProcessesAfterEnds.{process_at-collect, update-other, put_away, heir, claimed, valid-in_order, alone-same, step-is, step-gone}
use Rattle.pv_laws_access.proofs.OtherOpenFiles.{others-files}
use Rattle.pv_laws_access.proofs.ProgramImages.{grows-never, others-keep, execve-leaves}
use Rattle.pv_laws_access.proofs.JustifiedGains.{Opens, opens-has, gains-opened}
use Rattle.pv_laws_access.proofs.NarrowedRestraints.{no_more-of_same}
use Rattle.pv_laws_access.specs.Justice.{IsExplained}
use Rattle.pv_laws_access.proofs.TouchingCalls.{touched, allowed-back}
use Rattle.pv_laws_access.specs.Origins.{IsHeirOf, origin}

-- ---- a process that was not live before is a child

module _ (s : State) (pid : ℕ) (me : Process) (call : Call) (k : ℕ) (q : Process) (fresh : process_at s k ≡ None) (apart : k ≢ pid) where
  -- it is a child, and no open file changes
  abbrev IsBorn : Numbered OpenFile → Type 0
  IsBorn files = HasSameRights me q × (files ≡ s.files) × (call ≡ TheCall.Fork)

  still : process_at s k ≡ Some q → (files : Numbered OpenFile) → IsBorn files
  still there files = let both : None ≡ Some q = sym fresh ∙ there in cc both

  -- a change of another process does not affect this one
  beside : (p : Process) → process_at (with_process s pid p) k ≡ Some q → (files : Numbered OpenFile) → IsBorn files
  beside p there files = still (sym (process_at-other s pid p k apart) ∙ there) files

  pub born-by : (after : State) (r : Reply) → CallEffects.HasEffect s pid me call after r → is_sorted nat_cmp s.processes ≡ true → process_at after k ≡ Some q → IsBorn after.files
  born-by _ _ (CallEffects.stays r waiting) ascending there = still there s.files
  born-by _ _ (CallEffects.restrains p r no_more same parent table goes) ascending there = beside p there _
  born-by _ _ (CallEffects.begins path program is) ascending there = beside (with_program s pid me program) there _
  born-by _ _ (CallEffects.closes d) ascending there = beside _ there _
  born-by _ _ (CallEffects.copies e x n is) ascending there = beside _ there _
  born-by _ _ (CallEffects.forks is) ascending there =
      ⊎_elim
      (λ here.
      let both : Some (child s pid me) ≡ Some q = sym (process_at-same s (suc s.last_process) (child s pid me)) ∙ ap (process_at (with_process s (suc s.last_process) (child s pid me))) (sym here) ∙ there in
      let same : child s pid me ≡ q = cc both in
      (subst (HasSameRights me) same (record { promises = refl; execpromises = refl; table = refl; locked = refl; descriptors = refl }), refl, is))
      (λ away. still (sym (process_at-other s (suc s.last_process) (child s pid me) k away) ∙ there) _)
      (cases_eq k (suc s.last_process))
  born-by _ _ (CallEffects.reaps j r ended goes) ascending there =
      still
      (found-live s k q
      (found-filtered (λ e. not (e.0 == j)) s.processes ascending k (live q) (live-found (record s { processes = where_key nat_cmp (λ other. not (other == j)) s.processes }) k q there)).0) _
  born-by _ _ (CallEffects.moves j old new r was node mode named goes) ascending there = still there _
  born-by _ _ (CallEffects.cuts f bytes own) ascending there = still there _
  born-by _ _ (CallEffects.writes_bytes f bytes j old new n own was node mode named) ascending there = still there _
  born-by _ _ (CallEffects.makes place p node change free bare) ascending there = still there _
  born-by _ _ (CallEffects.links place p old n change allowed is fine) ascending there = still there _
  born-by _ _ (CallEffects.unlinks place p change) ascending there = still there _
  born-by _ _ (CallEffects.renames place p next r n from into is) ascending there = still there _
  born-by _ _ (CallEffects.opens flags place n m flagged allowed is fine written) ascending there = beside _ there _
  born-by _ _ (CallEffects.creates flags place p m flagged allowed create named free fine) ascending there = beside _ there _

-- a process that is live after the end of another was live before
ended-was : (s : State) (pid : ℕ) (me : Process) (status : ℕ) → is_sorted nat_cmp s.processes ≡ true → (k : ℕ) (q : Process) → k ≢ pid → process_at (end_process s pid me status) k ≡ Some q
    → (p : Process) × (process_at s k ≡ Some p)
unfolding end_process
ended-was s pid me status ascending k q apart at =
    let es = put_away s pid me status in
    let new = heir s pid me status in
    let found = subst (λ xs. find nat_cmp k (Rattle.std.specs.Prelude.filter (claimed s pid me status) xs) ≡ Some (live q)) (map-adopt pid new es) (live-found (end_process s pid me status) k q at) in
    let order : is_sorted nat_cmp (mapped (adopted pid new) es) ≡ true = sorted-mapped (adopted pid new) es ∙ sorted-put_number pid (ended_record me.parent status) s.processes ascending in
    let preserved = found-filtered (claimed s pid me status) (mapped (adopted pid new) es) order k (live q) found in
    let was = found-mapped (adopted pid new) k es (live q) preserved.0 in
    let lives = live-adopted pid new was.0 q was.2 in
    let there : find nat_cmp k es ≡ Some (live lives.0) = was.1 ∙ ap Some lives.1 in
    (lives.0, found-live s k lives.0 (sym (find-put_other k pid (ended_record me.parent status) s.processes apart) ∙ there))

-- ---- heirs

-- an open with a mode at a valid place that is allowed for its permissions
pub record IsGained (s : State) (p : Process) (call : Call) (n : ℕ) (mode : Mode) : Type 0 where
  pub flags : OpenFlags
  pub place : Place
  pub flagged : flags_of call ≡ Some flags
  pub moded : flags.mode ≡ mode
  pub allowed : IsAllowed s p call (permissions_of_open flags) place
  pub which : (node_of place ≡ Some n) ⊎ ((node_of place ≡ None) × (n ≡ new_number s.tree))
  pub fine : IsFinePlace s.tree place

-- a call of a process, with a property of its attempt
pub record IsCalled (s : State) (pid : ℕ) (p : Process) (Comes : Call → Type 0) : Type 0 where
  pub call : Call
  pub at : process_at s pid ≡ Some p
  pub next_is : next p ≡ calls_for call
  pub held : missing_promise p.promises (needs call) ≡ None
  pub comes : Comes call

abbrev pub IsExecve : Process → Process → Call → Type 0
IsExecve p q call = (path : Bytes) × (call ≡ TheCall.Execve path) × HasExecuted p q

-- a process after a step has its restraints from a process before it, and its descriptors except for those that it
-- opened
pub record IsHeir (s after : State) (pid k : ℕ) (q : Process) : Type 0 where
  pub from : ℕ
  pub is_origin : origin s pid k ≡ from
  pub p : Process
  pub at : process_at s from ≡ Some p
  pub restraints : HasNoMoreRights p q ⊎ IsCalled s pid p (IsExecve p q)
  pub forked : process_at s k ≡ None → IsCalled s pid p (λ call. call ≡ TheCall.Fork)
  pub gains : (n : ℕ) (mode : Mode) → Opens after.files q.descriptors n mode → (Opens s.files p.descriptors n mode → ⊥) → IsCalled s pid p (λ call. IsGained s p call n mode)

-- a call that returns a value has its promises
pub valued : (program_of : Bytes → Option Program) (s : State) (pid : ℕ) (p : Process) → process_at s pid ≡ Some p → (call : Call) (n : ℕ) → next p ≡ calls_for call → (step program_of s pid).outcome ≡ Value n
    → missing_promise p.promises (needs call) ≡ None
valued program_of s pid p at call n is reported =
    by_answer (λ a. a.outcome ≡ Value n → missing_promise p.promises (needs call) ≡ None) program_of s pid call
    (λ none answered. let both : None ≡ Some p = sym none ∙ at in cc both)
    (λ me found met answered. let both : Some me ≡ Some p = sym found ∙ at in let same : me ≡ p = cc both in subst (λ (x : Process). missing_promise x.promises (needs call) ≡ None) same met)
    (λ me lacks found missing lenient answered. cc answered)
    (λ me lacks found missing lenient answered. cc answered)
    (subst (λ (w : Stepped). w.outcome ≡ Value n) (step-is program_of s pid p at ∙ ap (step_by program_of s pid p) is) reported)

-- a process that was live is its own origin
own : (s : State) (pid k : ℕ) (p : Process) → process_at s k ≡ Some p → origin s pid k ≡ k
own s pid k p at = ap (λ (o : Option Process). if is_some o then k else pid) at

module _ (program_of : Bytes → Option Program) (s : State) (pid : ℕ) (whole : IsValid s) where
  abbrev after : State
  after = (step program_of s pid).after

  -- ---- the caller

  module _ (p : Process) (at : process_at s pid ≡ Some p) (q : Process) (there : process_at after pid ≡ Some q) where
    image : (n : Next) → next p ≡ n → (o : Outcome) → (step program_of s pid).outcome ≡ o → begins_image n o ≡ true → IsCalled s pid p (IsExecve p q)
    image (calls_for (TheCall.Execve path)) is (Value n) reported begins =
        let left = (execve-leaves program_of s pid n p path at is reported).1 in
        let both : Some left.0 ≡ Some q = sym left.1 ∙ there in
        let same : left.0 ≡ q = cc both in
        record { call = TheCall.Execve path; at = at; next_is = is; held = valued program_of s pid p at (TheCall.Execve path) n is reported; comes = (path, refl, subst (HasExecuted p) same left.2) }
    image n is o reported begins = cc begins

    by_image : (b : Bool) → begins_image (next p) (step program_of s pid).outcome ≡ b → HasNoMoreRights p q ⊎ IsCalled s pid p (IsExecve p q)
    by_image true begins = inr (image (next p) refl (step program_of s pid).outcome refl begins)
    by_image false quiet = inl (grows-never program_of s pid p q (valid-in_order s whole) at there quiet)

    -- the descriptors that it opens
    gained : (n : ℕ) (mode : Mode) → Opens after.files q.descriptors n mode → (Opens s.files p.descriptors n mode → ⊥) → IsCalled s pid p (λ call. IsGained s p call n mode)
    gained n mode now before =
        let touch : Touches program_of s pid (gain_descriptor n mode) = (opens-has after pid n mode q there now, λ had. before (Rattle.pv_laws_access.proofs.JustifiedGains.has-opens s pid n mode had p at)) in
        let e = gains-opened program_of s pid n mode whole touch in
        let both : Some e.me ≡ Some p = sym e.at ∙ at in
        let same : e.me ≡ p = cc both in
        let o = e.opened in
        subst (λ (x : Process). IsCalled s pid x (λ call. IsGained s x call n mode)) same
        (record {
          call = e.call;
          at = e.at;
          next_is = e.next_is;
          held = e.held;
          comes = record {
            flags = o.flags;
            place = o.place;
            flagged = o.flagged;
            moded = o.moded;
            allowed = allowed-back s pid e.me e.call (permissions_of_open o.flags) o.place o.allowed;
            which = o.which;
            fine = o.fine (valid-at_call s pid e.me whole e.at) (process_at-same s pid (at_next_line e.me)) e.is;
          };
        })

    itself : IsHeir s after pid pid q
    itself = record { from = pid; is_origin = own s pid pid p at; p = p; at = at; restraints = by_image (begins_image (next p) (step program_of s pid).outcome) refl; forked = λ none. let both : None ≡ Some p = sym none ∙ at in cc both; gains = gained }

  -- ---- another process

  module _ (k : ℕ) (q : Process) (there : process_at after k ≡ Some q) (apart : k ≢ pid) where
    other : (p : Process) → process_at s k ≡ Some p → IsHeir s after pid k q
    other p at =
        let left = others-keep program_of s pid k p (valid-in_order s whole) apart at in
        let both : Some left.0 ≡ Some q = sym left.1 ∙ there in
        let same : left.0 ≡ q = cc both in
        let alike : HasSameRights p q = subst (HasSameRights p) same (alone-same p left.0 left.2) in
        record { from = k; is_origin = own s pid k p at; p = p; at = at; restraints = inl (no_more-of_same p q alike); forked = λ none. let both : None ≡ Some p = sym none ∙ at in cc both; gains = λ n mode now before. absurd (before (had p at alike.descriptors n mode now)) }
      where
        had : (p : Process) → process_at s k ≡ Some p → q.descriptors ≡ p.descriptors → (n : ℕ) (mode : Mode) → Opens after.files q.descriptors n mode → Opens s.files p.descriptors n mode
        had p at same n mode now = by (at_number s.files now.descriptor.file) refl
          where
            has : at_number p.descriptors now.number ≡ Some now.descriptor
            has = ap (λ ds. at_number ds now.number) (sym same) ∙ now.there

            by : (o : Option OpenFile) → at_number s.files now.descriptor.file ≡ o → Opens s.files p.descriptors n mode
            by None none =
                let open' = (whole.processes.placed k p at).opens now.number now.descriptor has in
                let no : Rattle.std.proofs.Common.is_some (at_number s.files now.descriptor.file) ≡ false = ap Rattle.std.proofs.Common.is_some none in cc
            by (Some file) old =
                let left = others-files program_of s pid (valid-in_order s whole) k p now.number now.descriptor file apart at has old in
                let both : Some left.0 ≡ Some now.file = sym left.1 ∙ now.opened in
                let one : left.0 ≡ now.file = cc both in
                record {
                  number = now.number;
                  descriptor = now.descriptor;
                  file = file;
                  there = has;
                  opened = old;
                  node = sym left.2.node ∙ ap (λ (f : OpenFile). f.node) one ∙ now.node;
                  mode_is = sym left.2.mode ∙ ap (λ (f : OpenFile). f.mode) one ∙ now.mode_is;
                }

    -- ---- a child

    newborn : process_at s k ≡ None → IsHeir s after pid k q
    newborn fresh =
        let T : State → Type 0 = λ y. (process_at y k ≡ Some q) × (y.files ≡ after.files) in
        let t = touched program_of s pid whole T
        (λ is. let both : None ≡ Some q = sym fresh ∙ is.0 in cc both)
        (λ p r at same is. let both : None ≡ Some q = sym fresh ∙ sym (process_at-other s pid r k apart) ∙ is.0 in cc both)
        (λ y me status tree ascending others is.
        let was = ended-was y pid me status ascending k q apart (sym (process_at-collect (end_process y pid me status) k) ∙ is.0) in
        let both : None ≡ Some was.0 = sym fresh ∙ sym (others k apart) ∙ was.1 in cc both)
        (there, refl) in
        let x : State = at_call s pid t.me in
        let now : Process = at_next_line t.me in
        let z : State = update t.after pid t.reported in
        let at : process_at t.after k ≡ Some q = sym (process_at-collect z k ∙ update-other t.after pid t.reported k apart) ∙ t.touch.0 in
        let order : is_sorted nat_cmp x.processes ≡ true = sorted-put_number pid (live now) s.processes whole.processes.ascending in
        let born = born-by x pid now t.call k q (process_at-other s pid now k apart ∙ fresh) apart t.after t.reply t.does order at in
        let same : HasSameRights t.me q = record { promises = born.0.promises; execpromises = born.0.execpromises; table = born.0.table; locked = born.0.locked; descriptors = born.0.descriptors } in
        record {
          from = pid;
          is_origin = ap (λ (o : Option Process). if is_some o then k else pid) fresh;
          p = t.me;
          at = t.at;
          restraints = inl (no_more-of_same t.me q same);
          forked = λ _. record { call = t.call; at = t.at; next_is = t.next_is; held = t.held; comes = born.2 };
          gains = λ n mode opens before.
              let preserved = keep-some (among (used z)) z.files opens.descriptor.file opens.file (ap (λ fs. at_number fs opens.descriptor.file) (sym (files-collect z) ∙ t.touch.1) ∙ opens.opened) in
              absurd (before (record {
                number = opens.number;
                descriptor = opens.descriptor;
                file = opens.file;
                there = ap (λ ds. at_number ds opens.number) (sym same.descriptors) ∙ opens.there;
                opened = ap (λ fs. at_number fs opens.descriptor.file) (sym (files-update t.after pid t.reported ∙ born.1)) ∙ preserved.1;
                node = opens.node;
                mode_is = opens.mode_is;
              }));
        }

  -- ---- all processes that are live after the step

  pub heirs : (k : ℕ) (q : Process) → process_at after k ≡ Some q → IsHeir s after pid k q
  heirs k q there = ⊎_elim (λ same. mine same (process_at s pid) refl) (λ apart. others apart (process_at s k) refl) (cases_eq k pid)
    where
      mine : k ≡ pid → (o : Option Process) → process_at s pid ≡ o → IsHeir s after pid k q
      mine same None none =
          let left : process_at after pid ≡ None = ap (λ (w : Stepped). process_at w.after pid) (step-gone program_of s pid none) ∙ none in
          let both : None ≡ Some q = sym left ∙ ap (process_at after) (sym same) ∙ there in cc both
      mine same (Some p) at = subst (λ j. IsHeir s after pid j q) (sym same) (itself p at q (ap (process_at after) (sym same) ∙ there))

      others : k ≢ pid → (o : Option Process) → process_at s k ≡ o → IsHeir s after pid k q
      others apart None none = newborn k q there apart none
      others apart (Some p) at = other k q there apart p at

-- ---- the law

pub each-has_origin : (program_of : Bytes → Option Program) (s : State) (pid k : ℕ) (q : Process) → IsValid s → process_at (step program_of s pid).after k ≡ Some q
    → (p : Process) × (process_at s (origin s pid k) ≡ Some p) × IsHeirOf s (step program_of s pid).after pid p q
each-has_origin program_of s pid k q whole there = (
  h.p,
  ap (process_at s) h.is_origin ∙ h.at,
  record {
    restraints = ⊎_elim (λ no_more. inl no_more) (λ e. inr e.comes.2) h.restraints;
    gains = λ n test d on none. justified n test d on none;
  },
)
  where
    h : IsHeir s (step program_of s pid).after pid k q
    h = heirs program_of s pid whole k q there

    justified : (n : ℕ) (test : Mode → Bool) (d : ℕ) → HasOn (step program_of s pid).after q n test d → ((e : ℕ) → ¬ HasOn s h.p n test e)
        → (mode : Mode) × (test mode ≡ true) × IsExplained s pid (gain_descriptor n mode)
    justified n test d on none =
        let e =
        h.gains n on.1.mode (record { number = d; descriptor = on.0; file = on.1; there = on.2; opened = on.3; node = on.4; mode_is = refl })
        (λ was. none was.number (was.descriptor, was.file, was.there, was.opened, was.node, ap test was.mode_is ∙ on.5)) in
        (on.1.mode, on.5, (h.p, e.call, e.at, e.next_is, e.held, gain_by_open e.comes.flags e.comes.place n on.1.mode e.comes.flagged e.comes.moded e.comes.allowed e.comes.which))
