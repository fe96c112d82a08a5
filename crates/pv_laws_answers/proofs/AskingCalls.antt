-- Calls that need permissions at the ends of their walks.
use Rattle.std.proofs.Common.{◌≡◌, ◌↔◌, ◌⊎◌, inl, inr, ℕ, Bool, true, false, if◌then◌else◌, ◌||◌, nat_le, List, [], ◌∷◌, Option, None, Some, Ok, refl, ap, sym, subst, ◌∙◌, arith, ⊎_elim}
use Rattle.std.specs.Prelude.{option_and_then}
use Rattle.pv_model.specs.declared.call.Call.{Call}
use Rattle.pv_model.specs.declared.call.Call.TheVariants as TheCall
use Rattle.pv_model.specs.declared.call.Start.TheVariants.{WorkingDirectory}
use Rattle.pv_model.specs.declared.errno.Errno.{Errno}
use Rattle.pv_model.specs.declared.errno.Errno.TheVariants.{EINVAL, EMFILE, ENFILE, ENOSYS}
use Rattle.pv_model.specs.declared.judgement.Judgement.{Judgement}
use Rattle.pv_model.specs.declared.judgement.Judgement.TheVariants.{Allowed, Hidden, Denied}
use Rattle.pv_model.specs.declared.open_flags.Mode.TheVariants.{Read, Write}
use Rattle.pv_model.specs.declared.open_flags.OpenFlags.{OpenFlags}
use Rattle.pv_model.specs.declared.outcome.Cause.TheVariants.{Plain, Promise as ByPromise, Unveil as ByUnveil, Locked}
use Rattle.pv_model.specs.declared.outcome.Outcome.{Outcome}
use Rattle.pv_model.specs.declared.outcome.Outcome.TheVariants.{Value, Text, Failed, Killed, Exited, Blocked, Gone}
use Rattle.pv_model.specs.declared.perms.Perms.{Perms}
use Rattle.pv_model.specs.declared.place.Place.{Place}
use Rattle.pv_model.specs.declared.promise.Promise.{Promise}
use Rattle.pv_model.specs.declared.promise.Promise.TheVariants.{Unveil as UnveilPromise}
use Rattle.pv_model.specs.Machine.{Answered, answer, answer_of, answer_where, answer_by_attempt, at_next_line, effect, is_allowed, Attempt, done, refused, after_walks, ◌>>=◌, ◌>>◌, give, refuse_if, Bytes, contradicts, is_link, ends_in_dot, Effect, returns, returns_bytes, ends, waits, place_or_refusal, walk, judgement_or_refusal, judge, node_of, end_of, needs, least_free, covers, permission_r, permission_x, permission_c, missing_promise, is_lenient, Program, Process, State, process_at, node_at, judgement, begins_walk, Walk, open_walk, execve_walk, rename_walk, walks_of, walk_number, is_unveil}
use Rattle.pv_model.specs.Answers.Reach.{reached_permissions}
use Rattle.pv_model.specs.Perms.{permission_w}
use Rattle.pv_model.specs.Walks.{unlink_walk}
use Rattle.pv_laws_states.specs.Courses.{is_of_table, walks_in_sequence, IsAfter, IsStoppedEarly, IsOnCourse}
use Rattle.pv_laws_states.proofs.CallWalks.{begins-found, calls-along}
use Rattle.pv_laws_states.proofs.CallOutcomes.{at_call}
use Rattle.pv_laws_states.proofs.CallRemainders
use Rattle.pv_laws_access.specs.Promises.{IsFirstMissing, IsRefusedByPromise, missing, increase}
use Rattle.pv_laws_access.proofs.WalkDecisions.{NotByTable, Ends, walks_in, answer-decides}
use Rattle.pv_laws_access.proofs.FirstMissing.{first-missing-named}
use Rattle.pv_laws_access.proofs.PromiseRefusals.{promise-refuses, promise-kills}
use Rattle.pv_laws_access.proofs.PledgeRefusals.{is_pledge}
use Rattle.pv_laws_answers.specs.Reach.{is_by_sandbox, needs_for, is_one_permission, AsksAt, HasRoomToOpen, LeadsToItself, opening_for}
use Rattle.pv_laws_answers.proofs.SinglePermissions.{holds-needs, needs-holds, allows-all, all-allows, reached-parts, parts-reached}
use Rattle.pv_laws_answers.proofs.FinalLinks.{keeps-last}
use Rattle.pv_laws_trees.proofs.UnveilTargets.{covers-r, covers-w, covers-x, covers-c}

-- ---- outcomes

-- neither a promise nor a table decided the outcome
spared-outcome : (o : Outcome) → ((a : Promise) → ¬ (o ≡ Killed a)) → ((errno : Errno) (a : Promise) → ¬ (o ≡ Failed errno (ByPromise a))) → NotByTable o → is_by_sandbox o ≡ false
spared-outcome (Killed a) kill promise table = absurd (kill a refl)
spared-outcome (Failed errno (ByPromise a)) kill promise table = absurd (promise errno a refl)
spared-outcome (Failed errno (ByUnveil entry)) kill promise table = absurd (table errno entry refl)
spared-outcome (Failed errno Plain) kill promise table = refl
spared-outcome (Failed errno Locked) kill promise table = refl
spared-outcome (Value n) kill promise table = refl
spared-outcome (Text taken) kill promise table = refl
spared-outcome Exited kill promise table = refl
spared-outcome Blocked kill promise table = refl
spared-outcome Gone kill promise table = refl

-- a pledge makes no walk
pledges-nowhere : (call : Call) (w : Walk) (ws : List Walk) → is_pledge call ≡ true → walks_of call ≡ w ∷ ws → ⊥
pledges-nowhere (TheCall.Pledge promises execpromises) w ws is only = cc only
pledges-nowhere call w ws is only = cc is

-- an unveil needs a promise that corresponds to no permission
unveils-need : (call : Call) (asked : Perms) → needs call ≡ needs_for asked → is_unveil call ≡ false
unfolding needs
unveils-need (TheCall.Unveil path permissions) asked same = absurd (by asked.r asked.w asked.x asked.c same)
  where
    by : (r w x c : Bool) → (UnveilPromise ∷ []) ∷ [] ≡ needs_for (record { r = r; w = w; x = x; c = c }) → ⊥
    by true w x c is = cc is
    by false true x c is = cc is
    by false false true c is = cc is
    by false false false true is = cc is
    by false false false false is = cc is
unveils-need call asked same = refl

-- ---- answers

module _ (program_of : Bytes → Option Program) (s : State) (pid : ℕ) (p : Process) (call : Call) (at : process_at s pid ≡ Some p) where
  -- the answer of a call whose promises are held is that of its effect
  pub met-answer : missing_promise p.promises (needs call) ≡ None
      → answer program_of s pid call ≡ answer_by_attempt s (at_call s pid p) pid (at_next_line p) (effect program_of (at_call s pid p) pid (at_next_line p) call)
  unfolding answer
  met-answer met = ap (answer_of program_of s pid call) at ∙ ap (answer_where program_of s (at_call s pid p) pid (at_next_line p) call) met

  -- a missing promise decides
  pub missing-refuses : (a : Promise) → missing_promise p.promises (needs call) ≡ Some a → is_by_sandbox (answer program_of s pid call).outcome ≡ true
  missing-refuses a lacks = by (is_lenient p.promises) refl
    where
      by : (b : Bool) → is_lenient p.promises ≡ b → is_by_sandbox (answer program_of s pid call).outcome ≡ true
      by true lenient =
          ap is_by_sandbox ((promise-refuses program_of s pid p call at ENOSYS a).1 (missing lenient ((first-missing-named p.promises call a).0 lacks)))
      by false strict = ap is_by_sandbox ((promise-kills program_of s pid p call at a).1 (strict, (first-missing-named p.promises call a).0 lacks))

  -- otherwise no promise decides, unless the call is a pledge
  pub met-spares : missing_promise p.promises (needs call) ≡ None → is_pledge call ≡ false → NotByTable (answer program_of s pid call).outcome → is_by_sandbox (answer program_of s pid call).outcome ≡ false
  met-spares met plain table =
      spared-outcome (answer program_of s pid call).outcome
      (λ a killed. named a ((promise-kills program_of s pid p call at a).0 killed).1)
      (λ errno a refused. by errno a ((promise-refuses program_of s pid p call at errno a).0 refused)) table
    where
      named : (a : Promise) → IsFirstMissing p.promises call a → ⊥
      named a first = let both : None ≡ Some a = sym met ∙ (first-missing-named p.promises call a).1 first in cc both

      by : (errno : Errno) (a : Promise) → IsRefusedByPromise p call a errno → ⊥
      by _ a (missing lenient first) = named a first
      by _ a (increase inc) = let bad : true ≡ false = ap is_pledge (sym inc.pledges) ∙ plain in cc bad

no-pledge : (call : Call) (w : Walk) (ws : List Walk) → walks_of call ≡ w ∷ ws → is_pledge call ≡ false
no-pledge call w ws only = by (is_pledge call) refl
  where
    by : (b : Bool) → is_pledge call ≡ b → is_pledge call ≡ false
    by true is = absurd (pledges-nowhere call w ws is only)
    by false is = is

-- ---- one walk

module _ (program_of : Bytes → Option Program) (s : State) (pid : ℕ) (p : Process) (call : Call) (place : Place) (asked : Perms) (at : process_at s pid ≡ Some p)
    (asks : AsksAt program_of s pid p call place asked) (some : is_one_permission asked ≡ true) where
  abbrev a : Answered
  a = answer program_of s pid call

  abbrev IsExact : Type 0
  IsExact = (is_by_sandbox a.outcome ≡ false) ↔ (covers (reached_permissions s p place) asked ≡ true)

  allowed : covers (reached_permissions s p place) asked ≡ true → is_allowed (judgement s.tree p.table place asked) ≡ true
  allowed reached = allows-all s.tree place p.table asked (reached-parts s p place asked reached).1 some

  judged : missing_promise p.promises (needs call) ≡ None → (j : Judgement) → judgement s.tree p.table place asked ≡ j → Ends j a.outcome → IsExact
  judged met Allowed is how = (
    λ spared. parts-reached s p place asked (needs-holds p.promises asked (ap (missing_promise p.promises) (sym asks.goes_with) ∙ met)) (all-allows s.tree place p.table asked (ap is_allowed is)),
    λ reached. met-spares program_of s pid p call at met (no-pledge call asks.walk [] asks.only) how,
  )
  judged met Hidden is how = (
    λ spared. let bad : false ≡ true = sym spared ∙ ap is_by_sandbox how in cc bad,
    λ reached. let bad : true ≡ false = sym (allowed reached) ∙ ap is_allowed is in cc bad,
  )
  judged met (Denied k) is how = (
    λ spared. let bad : false ≡ true = sym spared ∙ ap is_by_sandbox how in cc bad,
    λ reached. let bad : true ≡ false = sym (allowed reached) ∙ ap is_allowed is in cc bad,
  )

  pub reach-exact : IsExact
  reach-exact = by (missing_promise p.promises (needs call)) refl
    where
      by : (o : Option Promise) → missing_promise p.promises (needs call) ≡ o → IsExact
      by (Some b) lacks = (
        λ spared. let bad : false ≡ true = sym spared ∙ missing-refuses program_of s pid p call at b lacks in cc bad,
        λ reached.
            let met : missing_promise p.promises (needs call) ≡ None =
            ap (missing_promise p.promises) asks.goes_with ∙ holds-needs p.promises asked (reached-parts s p place asked reached).0 in
            let bad : Some b ≡ None = sym lacks ∙ met in cc bad,
      )
      by None met =
          let last : walk_number (walks_of call) a.walks ≡ Some asks.walk = ap (walk_number (walks_of call)) (asks.made met) ∙ ap (λ ws. walk_number ws 1) asks.only in
          let how = (answer-decides program_of s pid p call at asks.walk place asks.end last).0 (unveils-need call asked asks.goes_with) in
          judged met (judgement s.tree p.table place asked) refl (subst (λ needed. Ends (judgement s.tree p.table place needed) a.outcome) asks.asks how)

-- ---- calls and their walks

-- a walk that ends at a place is begun and is checked
pub along-one : (s : State) (me : Process) (w : Walk) (ws : List Walk) (place : Place) → end_of s me w ≡ Ok place
    → walks_in_sequence s me (w ∷ ws) ≡ after_walks 1 (judgement_or_refusal (judgement s.tree me.table place w.needed) >> walks_in_sequence s me ws)
along-one s me w ws place end =
    ap (λ r. place_or_refusal (if begins_walk w.path then 1 else 0) r >>= (λ p. judge s me w p >> walks_in_sequence s me ws)) end
    ∙ ap (λ b. after_walks (if b then 1 else 0) (judge s me w place >> walks_in_sequence s me ws)) (begins-found s.tree w.follow _ w.path place end)

-- a call that begins a walk is not stopped before it
stopped-inner : (a : Attempt Effect) → IsStoppedEarly (after_walks 0 a) → IsStoppedEarly a
stopped-inner (done walks value) is = is
stopped-inner (refused walks errno cause) is = (omega (arith, is.0), is.1)

stopped-late : (a : Attempt Effect) → IsStoppedEarly (after_walks 1 a) → ⊥
stopped-late (done walks value) is = is
stopped-late (refused walks errno cause) is = omega (arith, is.0)

one-begun : (j : Judgement) (a : Attempt Effect) → IsOnCourse (after_walks 1 (judgement_or_refusal j >> give (tt {0}))) a → walks_in a ≡ 1
one-begun Allowed (done walks value) goes = goes
one-begun Allowed (refused walks errno cause) goes = goes.0
one-begun Hidden a goes = ap walks_in goes
one-begun (Denied k) a goes = ap walks_in goes

pub walks-reported : (before s : State) (pid : ℕ) (me : Process) (a : Attempt Effect) → (answer_by_attempt before s pid me a).walks ≡ walks_in a
walks-reported before s pid me (done walks (after, returns n)) = refl
walks-reported before s pid me (done walks (after, returns_bytes n bytes)) = refl
walks-reported before s pid me (done walks (after, ends status)) = refl
walks-reported before s pid me (done walks (after, waits)) = refl
walks-reported before s pid me (refused walks errno cause) = refl

module _ (program_of : Bytes → Option Program) (s : State) (pid : ℕ) (p : Process) (at : process_at s pid ≡ Some p) where
  abbrev x : State
  x = at_call s pid p

  abbrev now : Process
  now = at_next_line p

  -- a call with one walk makes it, unless it is stopped before
  makes-one : (call : Call) (w : Walk) (place : Place) → is_unveil call ≡ false → walks_of call ≡ w ∷ [] → end_of s p w ≡ Ok place → (IsStoppedEarly (effect program_of x pid now call) → ⊥)
      → missing_promise p.promises (needs call) ≡ None → (answer program_of s pid call).walks ≡ 1
  makes-one call w place plain only end goes met =
      ap (λ (r : Answered). r.walks) (met-answer program_of s pid p call at met) ∙ walks-reported s x pid now (effect program_of x pid now call)
      ∙ ⊎_elim (λ stopped. absurd (goes stopped))
      (λ along'. one-begun (judgement s.tree p.table place w.needed) (effect program_of x pid now call)
      (subst (λ c. IsOnCourse c (effect program_of x pid now call)) (ap (walks_in_sequence x now) only ∙ along-one x now w [] place end) along'))
      (calls-along program_of x pid now call plain)

  walks-late : (w : Walk) (onward : Place → Attempt Effect) (place : Place) → end_of x now w ≡ Ok place → IsStoppedEarly (walk x now w >>= onward) → ⊥
  walks-late w onward place end is =
      stopped-late (onward place)
      (subst (λ b. IsStoppedEarly (after_walks (if b then 1 else 0) (onward place))) (begins-found s.tree w.follow _ w.path place end)
      (subst (λ r. IsStoppedEarly (place_or_refusal (if begins_walk w.path then 1 else 0) r >>= onward)) end is))

  open-goes : (path : Bytes) (f : OpenFlags) (place : Place) → contradicts f ≡ false → nat_le 16 (least_free p.descriptors) ≡ false → nat_le 128 (least_free s.files) ≡ false
      → end_of s p (open_walk WorkingDirectory path f) ≡ Ok place → IsStoppedEarly (effect program_of x pid now (TheCall.Open path f)) → ⊥
  unfolding effect
  open-goes path f place fits few few_files end is =
      let w = open_walk WorkingDirectory path f in
      let onward : Place → Attempt Effect = λ place. judge x now w place >> CallRemainders.open_1 x pid now f place in
      let one = subst (λ b. IsStoppedEarly (refuse_if EINVAL b >> (give (tt {0}) >> (refuse_if EMFILE (nat_le 16 (least_free p.descriptors)) >> (refuse_if ENFILE (nat_le 128 (least_free s.files)) >> (walk x now w >>= onward)))))) fits is in
      let two = subst (λ b. IsStoppedEarly (refuse_if EMFILE b >> (refuse_if ENFILE (nat_le 128 (least_free s.files)) >> (walk x now w >>= onward)))) few
      (stopped-inner (refuse_if EMFILE (nat_le 16 (least_free p.descriptors)) >> (refuse_if ENFILE (nat_le 128 (least_free s.files)) >> (walk x now w >>= onward)))
      (stopped-inner (give (tt {0}) >> (refuse_if EMFILE (nat_le 16 (least_free p.descriptors)) >> (refuse_if ENFILE (nat_le 128 (least_free s.files)) >> (walk x now w >>= onward)))) one)) in
      let three = subst (λ b. IsStoppedEarly (refuse_if ENFILE b >> (walk x now w >>= onward))) few_files
      (stopped-inner (refuse_if ENFILE (nat_le 128 (least_free s.files)) >> (walk x now w >>= onward)) two) in
      walks-late w onward place end (stopped-inner (walk x now w >>= onward) three)

  execve-goes : (path : Bytes) (place : Place) → end_of s p (execve_walk path) ≡ Ok place → IsStoppedEarly (effect program_of x pid now (TheCall.Execve path)) → ⊥
  unfolding effect
  execve-goes path place end is = walks-late (execve_walk path) (λ place. judge x now (execve_walk path) place >> CallRemainders.execve_1 x pid now program_of place) place end is

  unlink-goes : (path : Bytes) (place : Place) → end_of s p (unlink_walk path) ≡ Ok place → IsStoppedEarly (effect program_of x pid now (TheCall.Unlink path)) → ⊥
  unfolding effect
  unlink-goes path place end is = walks-late (unlink_walk path) (λ place. judge x now (unlink_walk path) place >> CallRemainders.unlink_1 x pid now place) place end is

  rename-goes : (path new : Bytes) (place : Place) → (ends_in_dot path || ends_in_dot new) ≡ false → end_of s p (rename_walk path) ≡ Ok place → IsStoppedEarly (effect program_of x pid now (TheCall.Rename path new)) → ⊥
  unfolding effect
  rename-goes path new place fits end is =
      let onward : Place → Attempt Effect = λ place. judge x now (rename_walk path) place >> CallRemainders.rename_1 x pid now new place in
      walks-late (rename_walk path) onward place end
      (stopped-inner (walk x now (rename_walk path) >>= onward) (subst (λ b. IsStoppedEarly (refuse_if EINVAL b >> (walk x now (rename_walk path) >>= onward))) fits is))

  -- ---- the permissions that single calls show

  shown : (call : Call) (place : Place) (letter : Perms) (appears : Bool) → AsksAt program_of s pid p call place letter → is_one_permission letter ≡ true
      → covers (reached_permissions s p place) letter ≡ appears → (is_by_sandbox (answer program_of s pid call).outcome ≡ false) ↔ (appears ≡ true)
  shown call place letter appears asks some same =
      let exact = reach-exact program_of s pid p call place letter at asks some in (λ spared. sym same ∙ exact.0 spared, λ is. exact.1 (same ∙ is))

  pub open-r : (path : Bytes) (place : Place) → HasRoomToOpen s p → LeadsToItself s p path place
      → (is_by_sandbox (answer program_of s pid (TheCall.Open path (opening_for Read))).outcome ≡ false) ↔ ((reached_permissions s p place).r ≡ true)
  unfolding needs
  open-r path place room leads =
      let call = TheCall.Open path (opening_for Read) in
      let w = open_walk WorkingDirectory path (opening_for Read) in
      shown call place permission_r (reached_permissions s p place).r
      (record { walk = w; only = refl; end = leads; asks = refl; goes_with = refl; made = makes-one call w place refl refl leads (open-goes path (opening_for Read) place refl room.0 room.1 leads) })
      refl (covers-r (reached_permissions s p place))

  pub open-w : (path : Bytes) (place : Place) → HasRoomToOpen s p → LeadsToItself s p path place
      → (is_by_sandbox (answer program_of s pid (TheCall.Open path (opening_for Write))).outcome ≡ false) ↔ ((reached_permissions s p place).w ≡ true)
  unfolding needs
  open-w path place room leads =
      let call = TheCall.Open path (opening_for Write) in
      let w = open_walk WorkingDirectory path (opening_for Write) in
      shown call place permission_w (reached_permissions s p place).w
      (record { walk = w; only = refl; end = leads; asks = refl; goes_with = refl; made = makes-one call w place refl refl leads (open-goes path (opening_for Write) place refl room.0 room.1 leads) })
      refl (covers-w (reached_permissions s p place))

  pub execve-x : (path : Bytes) (place : Place) → LeadsToItself s p path place → is_link (option_and_then (node_at s.tree) (node_of place)) ≡ false
      → (is_by_sandbox (answer program_of s pid (TheCall.Execve path)).outcome ≡ false) ↔ ((reached_permissions s p place).x ≡ true)
  unfolding needs
  execve-x path place leads plain =
      let call = TheCall.Execve path in
      let w = execve_walk path in
      let end = keeps-last s.tree p.directory path place leads plain in
      shown call place permission_x (reached_permissions s p place).x
      (record { walk = w; only = refl; end = end; asks = refl; goes_with = refl; made = makes-one call w place refl refl end (execve-goes path place end) })
      refl (covers-x (reached_permissions s p place))

  pub unlink-c : (path : Bytes) (place : Place) → LeadsToItself s p path place
      → (is_by_sandbox (answer program_of s pid (TheCall.Unlink path)).outcome ≡ false) ↔ ((reached_permissions s p place).c ≡ true)
  unfolding needs
  unlink-c path place leads =
      let call = TheCall.Unlink path in
      let w = unlink_walk path in
      shown call place permission_c (reached_permissions s p place).c
      (record { walk = w; only = refl; end = leads; asks = refl; goes_with = refl; made = makes-one call w place refl refl leads (unlink-goes path place leads) })
      refl (covers-c (reached_permissions s p place))

  -- ---- a rename

  after-open : (n : ℕ) (e : Attempt Effect) → IsAfter n e → NotByTable (answer_by_attempt s x pid now e).outcome
  after-open n (done walks (after, returns m)) is errno entry named = cc named
  after-open n (done walks (after, returns_bytes m bytes)) is errno entry named = cc named
  after-open n (done walks (after, ends status)) is errno entry named = cc named
  after-open n (done walks (after, waits)) is errno entry named = cc named
  after-open n (refused walks errno' cause) is errno entry named =
      let same : cause ≡ ByUnveil entry = cc named in let bad : true ≡ false = ap is_of_table (sym same) ∙ is.1 in cc bad

  abbrev two_judged : Judgement → Judgement → Attempt (Unit {0})
  two_judged i j = after_walks 1 (judgement_or_refusal i >> after_walks 1 (judgement_or_refusal j >> give (tt {0})))

  -- both places are allowed, or the table refuses
  both-allow : (i j : Judgement) (e : Attempt Effect) → IsOnCourse (two_judged i j) e
      → ((is_allowed i ≡ true) × (is_allowed j ≡ true) × NotByTable (answer_by_attempt s x pid now e).outcome)
      ⊎ (((is_allowed i ≡ false) ⊎ (is_allowed j ≡ false)) × (is_by_sandbox (answer_by_attempt s x pid now e).outcome ≡ true))
  both-allow Allowed Allowed e goes = inl (refl, refl, after-open 2 e goes)
  both-allow Allowed Hidden e goes = inr (inr refl, ap (λ b. is_by_sandbox (answer_by_attempt s x pid now b).outcome) goes)
  both-allow Allowed (Denied k) e goes = inr (inr refl, ap (λ b. is_by_sandbox (answer_by_attempt s x pid now b).outcome) goes)
  both-allow Hidden j e goes = inr (inl refl, ap (λ b. is_by_sandbox (answer_by_attempt s x pid now b).outcome) goes)
  both-allow (Denied k) j e goes = inr (inl refl, ap (λ b. is_by_sandbox (answer_by_attempt s x pid now b).outcome) goes)

  module _ (path new : Bytes) (from into : Place) (fits : (ends_in_dot path || ends_in_dot new) ≡ false) (end : end_of s p (rename_walk path) ≡ Ok from) (last : end_of s p (rename_walk new) ≡ Ok into) where
    abbrev renaming : Call
    renaming = TheCall.Rename path new

    abbrev c_at : Place → Bool
    c_at place = is_allowed (judgement s.tree p.table place permission_c)

    -- c at a place: the promise and the table
    c-parts : (place : Place) → (reached_permissions s p place).c ≡ true → (missing_promise p.promises (needs renaming) ≡ None) × (c_at place ≡ true)
    unfolding needs
    c-parts place appears =
        let parts = reached-parts s p place permission_c (covers-c (reached_permissions s p place) ∙ appears) in (holds-needs p.promises permission_c parts.0, parts.1.c refl)

    parts-c : (place : Place) → missing_promise p.promises (needs renaming) ≡ None → c_at place ≡ true → (reached_permissions s p place).c ≡ true
    unfolding needs
    parts-c place met allowed =
        sym (covers-c (reached_permissions s p place))
        ∙ parts-reached s p place permission_c (needs-holds p.promises permission_c met)
        (record { r = λ asks. cc asks; w = λ asks. cc asks; x = λ asks. cc asks; c = λ asks. allowed })

    along-two : IsOnCourse (two_judged (judgement s.tree p.table from permission_c) (judgement s.tree p.table into permission_c)) (effect program_of x pid now renaming)
    along-two =
        ⊎_elim (λ stopped. absurd (rename-goes path new from fits end stopped))
        (λ goes. subst (λ c. IsOnCourse c (effect program_of x pid now renaming))
        (along-one x now (rename_walk path) (rename_walk new ∷ []) from end
        ∙ ap (λ c. after_walks 1 (judgement_or_refusal (judgement s.tree p.table from permission_c) >> c)) (along-one x now (rename_walk new) [] into last)) goes)
        (calls-along program_of x pid now renaming refl)

    abbrev Spared : Type 0
    Spared = is_by_sandbox (answer program_of s pid renaming).outcome ≡ false

    pub rename-exact : Spared ↔ (((reached_permissions s p from).c ≡ true) × ((reached_permissions s p into).c ≡ true))
    rename-exact = by (missing_promise p.promises (needs renaming)) refl
      where
        by : (o : Option Promise) → missing_promise p.promises (needs renaming) ≡ o → Spared ↔ (((reached_permissions s p from).c ≡ true) × ((reached_permissions s p into).c ≡ true))
        by (Some b) lacks = (
          λ spared. let bad : false ≡ true = sym spared ∙ missing-refuses program_of s pid p renaming at b lacks in cc bad,
          λ both. let bad : Some b ≡ None = sym lacks ∙ (c-parts from both.0).0 in cc bad,
        )
        by None met =
            let reported = met-answer program_of s pid p renaming at met in
            ⊎_elim
            (λ allow. (
              λ spared. (parts-c from met allow.0, parts-c into met allow.1),
              λ both. met-spares program_of s pid p renaming at met refl (subst (λ (r : Answered). NotByTable r.outcome) (sym reported) allow.2),
            ))
            (λ refuse. (
              λ spared. let bad : false ≡ true = sym spared ∙ ap (λ (r : Answered). is_by_sandbox r.outcome) reported ∙ refuse.1 in cc bad,
              λ both. absurd (⊎_elim
                  (λ no. let bad : true ≡ false = sym (c-parts from both.0).1 ∙ no in cc bad)
                  (λ no. let bad : true ≡ false = sym (c-parts into both.1).1 ∙ no in cc bad) refuse.0),
            ))
            (both-allow (judgement s.tree p.table from permission_c) (judgement s.tree p.table into permission_c) (effect program_of x pid now renaming) along-two)
