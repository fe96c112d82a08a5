-- The settings of each process, step by step of a run.
use Rattle.std.proofs.Common.{◌≡◌, ◌≢◌, ℕ, zero, suc, ◌≤◌, Bool, true, false, if◌then◌else◌, ◌&&◌, ◌||◌, List, [], ◌∷◌, ◌++◌, append-nil, append_assoc, map, length, slice_get, Option, None, Some, option_map, is_some, unwrap_or, Ok, refl, ap, sym, subst, ◌∙◌, ⊎_elim}
use Rattle.std.specs.FinMap.Entries.{put}
use Rattle.std.specs.Ordering.{nat_cmp}
use Rattle.std.proofs.lemmas.Bool.{ne_eqb, eq-eqb, cases_eq}
use Rattle.std.proofs.Math.Bool.{or-false}
use Rattle.pv_model.specs.declared.call.Call.{Call}
use Rattle.pv_model.specs.declared.call.Call.TheVariants as TheCall
use Rattle.pv_model.specs.declared.outcome.Outcome.{Outcome}
use Rattle.pv_model.specs.declared.outcome.Outcome.TheVariants.{Value}
use Rattle.pv_model.specs.declared.perms.Perms.{Perms}
use Rattle.pv_model.specs.declared.target.Target.{Target}
use Rattle.pv_model.specs.Machine.{answer, settings_next, Setting, Settings, settings_of, Bytes, entries_of_table, end_of, needs, no_permissions, Next, inside, calls_for, next, Promises, missing_promise, Program, Process, State, process_at, Stepped, step, step_by, Run, run, place_found, Table, entry_for, target_of, unveil_walk, is_unveil}
use Rattle.pv_model.specs.Answers.Explain.{settings_by, settings_of_step}
use Rattle.pv_model.specs.Answers.Settings.{set_at, of_earlier_program, after_execve, entry_given, table_entry, after_unveil, settings_after}
use Rattle.pv_model.proofs.RunComposition.{run-append}
use Rattle.pv_laws_states.specs.States.{EncodesPrograms, IsValid}
use Rattle.pv_laws_states.proofs.ValidBySteps.{run-keeps_valid}
use Rattle.pv_laws_states.proofs.CallOutcomes.{next-number}
use Rattle.pv_laws_states.proofs.Processes.{find-put_same, find-put_other, process_at-same, process_at-other}
use Rattle.pv_laws_access.specs.Growth.{begins_image, HasExecuted}
use Rattle.pv_laws_access.proofs.ProcessesAfterEnds.{alone-same, valid-in_order, not_next, IsSameNext, same-next, step-is, step-gone}
use Rattle.pv_laws_access.proofs.ProgramImages.{tables-stay, others-keep, execve-leaves}
use Rattle.pv_laws_access.specs.Origins.{origin}
use Rattle.pv_laws_access.proofs.ProcessOrigins.{heirs}
use Rattle.pv_laws_answers.specs.Settings.{HasNoTables, settings_along, SetsEntry, begins_by, begins_program_of, StaysSet, WasSet}
use Rattle.pv_laws_answers.proofs.AddedEntries.{IsWith, set_at-with, with-length}
use Rattle.pv_laws_answers.proofs.TablesAfterSteps.{HasUnveiled, IsNoValue, UnveilLeft, unveil-left, fork-born}

-- ---- settings of one process

put-same : (all : Settings) (k : ℕ) (mine : List Setting) → settings_of (put nat_cmp k mine all) k ≡ mine
put-same all k mine = ap (λ o. unwrap_or o []) (find-put_same k mine all)

put-other : (all : Settings) (j : ℕ) (mine : List Setting) (k : ℕ) → k ≢ j → settings_of (put nat_cmp j mine all) k ≡ settings_of all k
put-other all j mine k apart = ap (λ o. unwrap_or o []) (find-put_other k j mine all apart)

-- the settings after a step, which may be a successful execve
abbrev aged : Bool → List Setting → List Setting
aged b mine = if b then map of_earlier_program mine else mine

abbrev aged_one : Bool → Setting → Setting
aged_one b setting = if b then of_earlier_program setting else setting

length-map : {X Y : Type 0} (f : X → Y) (xs : List X) → length (map f xs) ≡ length xs
length-map f [] = refl
length-map f (x ∷ xs) = ap suc (length-map f xs)

get-map : {X Y : Type 0} (f : X → Y) (xs : List X) (k : ℕ) → slice_get (map f xs) k ≡ option_map f (slice_get xs k)
get-map f [] k = refl
get-map f (x ∷ xs) zero = refl
get-map f (x ∷ xs) (suc k) = get-map f xs k

aged-length : (b : Bool) (mine : List Setting) → length (aged b mine) ≡ length mine
aged-length true mine = length-map of_earlier_program mine
aged-length false mine = refl

aged-get : (b : Bool) (mine : List Setting) (k : ℕ) (setting : Setting) → slice_get (aged b mine) k ≡ Some setting
    → (old : Setting) × (slice_get mine k ≡ Some old) × (setting ≡ aged_one b old)
aged-get false mine k setting is = (setting, is, refl)
aged-get true mine k setting is = by (slice_get mine k) refl (sym (get-map of_earlier_program mine k) ∙ is)
  where
    by : (o : Option Setting) → slice_get mine k ≡ o → option_map of_earlier_program o ≡ Some setting → (old : Setting) × (slice_get mine k ≡ Some old) × (setting ≡ of_earlier_program old)
    by None none bad = cc bad
    by (Some old) found same = let one : of_earlier_program old ≡ setting = cc same in (old, found, sym one)

aged-line : (b : Bool) (old : Setting) → (aged_one b old).line ≡ old.line
aged-line true old = refl
aged-line false old = refl

aged-earlier : (b : Bool) (old : Setting) → (aged_one b old).earlier ≡ (old.earlier || b)
aged-earlier true old = by old.earlier
  where
    by : (e : Bool) → true ≡ (e || true)
    by true = refl
    by false = refl
aged-earlier false old = sym (or-false old.earlier)

-- ---- one step

module _ (program_of : Bytes → Option Program) (s : State) (pid : ℕ) (whole : IsValid s) (all : Settings) where
  abbrev after : State
  after = (step program_of s pid).after

  abbrev outcome : Outcome
  outcome = (step program_of s pid).outcome

  abbrev all_next : Settings
  all_next = settings_next program_of s pid all

  -- the step does not set the entry of process k with this number
  abbrev SetsNot : ℕ → ℕ → Type 0
  SetsNot k number = (me : Process) (e : Target × Perms) → SetsEntry program_of s pid me number e → k ≡ pid → ⊥

  -- the origin of the entries and the settings of a process after the step
  data ComesOf (k : ℕ) (q : Process) : Type 0 where
    carries : (j : ℕ) (p : Process) (b : Bool) → origin s pid k ≡ j → process_at s j ≡ Some p → entries_of_table q.table ≡ entries_of_table p.table
        → settings_of all_next k ≡ aged b (settings_of all j) → begins_program_of program_of s pid k ≡ b → ((number : ℕ) → SetsNot k number) → ComesOf k q
    empties : entries_of_table q.table ≡ [] → settings_of all_next k ≡ [] → ComesOf k q
    sets : (p : Process) (number : ℕ) (e : Target × Perms) → k ≡ pid → process_at s pid ≡ Some p → SetsEntry program_of s pid p number e
        → IsWith (entries_of_table p.table) number e (entries_of_table q.table)
        → settings_of all_next k ≡ set_at (settings_of all pid) number (record { line = p.line; earlier = false }) → begins_program_of program_of s pid k ≡ false → ComesOf k q

  own-origin : (k : ℕ) (p : Process) → process_at s k ≡ Some p → origin s pid k ≡ k
  own-origin k p at = ap (λ (o : Option Process). if is_some o then k else pid) at

  child-origin : (k : ℕ) → process_at s k ≡ None → origin s pid k ≡ pid
  child-origin k none = ap (λ (o : Option Process). if is_some o then k else pid) none

  apart-begins : (k : ℕ) → k ≢ pid → begins_program_of program_of s pid k ≡ false
  apart-begins k apart = ap (λ b. b && begins_by program_of s pid (process_at s pid)) (ne_eqb k pid apart)

  here-begins : (me : Process) → process_at s pid ≡ Some me → begins_program_of program_of s pid pid ≡ begins_image (next me) outcome
  here-begins me at = ap (λ b. b && begins_by program_of s pid (process_at s pid)) (eq-eqb pid pid refl) ∙ ap (begins_by program_of s pid) at

  -- ---- if the process is not live

  gone : process_at s pid ≡ None → (k : ℕ) (q : Process) → process_at after k ≡ Some q → ComesOf k q
  gone none k q there =
      let at : process_at s k ≡ Some q = sym (ap (λ (w : Stepped). process_at w.after k) (step-gone program_of s pid none)) ∙ there in
      carries k q false (own-origin k q at) at refl (ap (λ a. settings_of a k) (ap (settings_of_step program_of s pid all) none))
      (apart-begins k (λ same. let both : Some q ≡ None = sym at ∙ ap (process_at s) same ∙ none in cc both))
      (λ number me e set same. let both : None ≡ Some me = sym none ∙ set.at in cc both)

  module _ (me : Process) (at : process_at s pid ≡ Some me) where
    -- ---- an instruction on registers

    inward : (r : Process) → next me ≡ inside r → (k : ℕ) (q : Process) → process_at after k ≡ Some q → ComesOf k q
    inward r is k q there =
        let stepped : step program_of s pid ≡ step_by program_of s pid me (inside r) = step-is program_of s pid me at ∙ ap (step_by program_of s pid me) is in
        let left : process_at (step_by program_of s pid me (inside r)).after k ≡ Some q = subst (λ (w : Stepped). process_at w.after k ≡ Some q) stepped there in
        let still : settings_of all_next k ≡ settings_of all k = ap (λ a. settings_of a k) (ap (settings_of_step program_of s pid all) at ∙ ap (settings_by program_of s pid all me) is) in
        ⊎_elim
        (λ here.
        let both : Some r ≡ Some q = sym (process_at-same s pid r) ∙ subst (λ n. process_at (step_by program_of s pid me (inside r)).after n ≡ Some q) here left in
        let same : r ≡ q = cc both in
        let alike : IsSameNext me (inside r) = subst (IsSameNext me) is (same-next me) in
        carries k me false (own-origin k me (ap (process_at s) here ∙ at)) (ap (process_at s) here ∙ at)
        (ap (λ (y : Process). entries_of_table y.table) (sym same) ∙ ap entries_of_table alike.0.table) still
        (ap (begins_program_of program_of s pid) here ∙ here-begins me at ∙ ap (λ n. begins_image n outcome) is) no_set)
        (λ apart.
        let old : process_at s k ≡ Some q = sym (process_at-other s pid r k apart) ∙ left in
        carries k q false (own-origin k q old) old refl still (apart-begins k apart) no_set)
        (cases_eq k pid)
      where
        no_set : (number : ℕ) → SetsNot k number
        no_set number other e set same =
            let both : Some me ≡ Some other = sym at ∙ set.at in
            let one : me ≡ other = cc both in
            let bad : inside r ≡ _ = sym is ∙ ap next one ∙ set.next_is in cc bad

    module _ (call : Call) (is : next me ≡ calls_for call) where
      stepped : step program_of s pid ≡ step_by program_of s pid me (calls_for call)
      stepped = step-is program_of s pid me at ∙ ap (step_by program_of s pid me) is

      reported : outcome ≡ (answer program_of s pid call).outcome
      reported = ap (λ (w : Stepped). w.outcome) stepped

      left : (k : ℕ) → process_at after k ≡ process_at (answer program_of s pid call).after k
      left k = ap (λ (w : Stepped). process_at w.after k) stepped

      next-is : all_next ≡ settings_after s pid me after all call outcome
      next-is = ap (settings_of_step program_of s pid all) at ∙ ap (settings_by program_of s pid all me) is

      -- a fork returns a number other than that of a live process
      free : (k : ℕ) (p : Process) → process_at s k ≡ Some p → (child : ℕ) → call ≡ TheCall.Fork → outcome ≡ Value child → k ≢ child
      free k p there child forks answered same =
          let number = next-number program_of s pid child (subst (λ c. (answer program_of s pid c).outcome ≡ Value child) forks (sym reported ∙ answered)) in
          not_next s (valid-in_order s whole) k p there (same ∙ number.next)

      no_set : is_unveil call ≡ false → (k number : ℕ) → SetsNot k number
      no_set plain k number other e set same =
          let both : Some me ≡ Some other = sym at ∙ set.at in
          let one : me ≡ other = cc both in
          let calls : calls_for call ≡ calls_for (TheCall.Unveil (Some set.path) (Some set.text)) = sym is ∙ ap next one ∙ set.next_is in
          let same_call : call ≡ TheCall.Unveil (Some set.path) (Some set.text) = cc calls in
          let bad : true ≡ false = ap is_unveil (sym same_call) ∙ plain in cc bad

      -- ---- another process

      other-settings : (k : ℕ) → k ≢ pid → (c : Call) (o : Outcome) → ((child : ℕ) → c ≡ TheCall.Fork → o ≡ Value child → k ≢ child)
          → settings_of (settings_after s pid me after all c o) k ≡ settings_of all k
      unfolding settings_after
      other-settings k apart TheCall.Fork (Value child) free = put-other all child _ k (free child refl refl)
      other-settings k apart (TheCall.Unveil (Some path) permissions) (Value n) free = put-other all pid _ k apart
      other-settings k apart (TheCall.Execve path) (Value n) free = put-other all pid _ k apart
      other-settings k apart c o free = refl

      beside : (k : ℕ) (q p : Process) → k ≢ pid → process_at s k ≡ Some p → process_at after k ≡ Some q → ComesOf k q
      beside k q p apart old there =
          let preserved = others-keep program_of s pid k p (valid-in_order s whole) apart old in
          let both : Some preserved.0 ≡ Some q = sym preserved.1 ∙ there in
          let same : preserved.0 ≡ q = cc both in
          carries k p false (own-origin k p old) old
          (ap (λ (y : Process). entries_of_table y.table) (sym same) ∙ ap entries_of_table (alone-same p preserved.0 preserved.2).table)
          (ap (λ a. settings_of a k) next-is ∙ other-settings k apart call outcome (free k p old)) (apart-begins k apart) (λ number me e set here. apart here)

      born : (k : ℕ) (q : Process) → k ≢ pid → process_at s k ≡ None → process_at after k ≡ Some q → ComesOf k q
      unfolding settings_after
      born k q apart fresh there =
          let h = heirs program_of s pid whole k q there in
          let f = h.forked fresh in
          let both : Some me ≡ Some h.p = sym at ∙ f.at in
          let one : me ≡ h.p = cc both in
          let calls : calls_for call ≡ calls_for f.call = sym is ∙ ap next one ∙ f.next_is in
          let same_call : call ≡ f.call = cc calls in
          let forks : call ≡ TheCall.Fork = same_call ∙ f.comes in
          let met = subst (λ (y : Process). missing_promise y.promises (needs TheCall.Fork) ≡ None) (sym one)
          (subst (λ c. missing_promise h.p.promises (needs c) ≡ None) f.comes f.held) in
          let child = fork-born program_of s pid me k q at met fresh apart (subst (λ c. process_at (answer program_of s pid c).after k ≡ Some q) forks (sym (left k) ∙ there)) in
          let answered : outcome ≡ Value k = reported ∙ ap (λ c. (answer program_of s pid c).outcome) forks ∙ child.0 in
          carries pid me false (child-origin k fresh) at (ap entries_of_table child.1)
          (ap (λ a. settings_of a k) (next-is ∙ ap (λ c. settings_after s pid me after all c outcome) forks ∙ ap (settings_after s pid me after all TheCall.Fork) answered) ∙ forked k)
          (apart-begins k apart) (λ number me e set here. apart here)
        where
          forked : (k : ℕ) → settings_of (settings_after s pid me after all TheCall.Fork (Value k)) k ≡ settings_of all pid
          forked k = put-same all k (settings_of all pid)

      -- ---- the caller

      module _ (q : Process) (there : process_at after pid ≡ Some q) where
        still-settings : (c : Call) (o : Outcome) → is_unveil c ≡ false → begins_image (calls_for c) o ≡ false → ((child : ℕ) → c ≡ TheCall.Fork → o ≡ Value child → pid ≢ child)
            → settings_of (settings_after s pid me after all c o) pid ≡ settings_of all pid
        unfolding settings_after
        still-settings TheCall.Fork (Value child) plain quiet free = put-other all child _ pid (free child refl refl)
        still-settings (TheCall.Unveil path permissions) o plain quiet free = cc plain
        still-settings (TheCall.Execve path) (Value n) plain quiet free = cc quiet
        still-settings c o plain quiet free = refl

        stays : is_unveil call ≡ false → begins_image (calls_for call) outcome ≡ false → ComesOf pid q
        stays plain quiet =
            let begins : begins_image (next me) outcome ≡ false = ap (λ n. begins_image n outcome) is ∙ quiet in
            let preserved = tables-stay program_of s pid me q (valid-in_order s whole) at there begins
            (λ c which. let calls : calls_for c ≡ calls_for call = sym which ∙ is in let same : c ≡ call = cc calls in ap is_unveil same ∙ plain) in
            carries pid me false (own-origin pid me at) at (ap entries_of_table preserved.0)
            (ap (λ a. settings_of a pid) next-is ∙ still-settings call outcome plain quiet (free pid me at)) (here-begins me at ∙ begins) (no_set plain pid)

        executed : (path : Bytes) (n : ℕ) → call ≡ TheCall.Execve path → outcome ≡ Value n → ComesOf pid q
        unfolding settings_after
        executed path n executes answered =
            let left' = (execve-leaves program_of s pid n me path at (is ∙ ap calls_for executes) answered).1 in
            let both : Some left'.0 ≡ Some q = sym left'.1 ∙ there in
            let same : left'.0 ≡ q = cc both in
            let has = subst (HasExecuted me) same left'.2 in
            by q.table refl me.execpromises refl has.stays has.goes
          where
            new_settings : settings_of all_next pid ≡ after_execve (Some q) (settings_of all pid)
            new_settings =
                ap (λ a. settings_of a pid) (next-is ∙ ap (λ c. settings_after s pid me after all c outcome) executes ∙ ap (settings_after s pid me after all (TheCall.Execve path)) answered)
                ∙ put-same all pid (after_execve (process_at after pid) (settings_of all pid)) ∙ ap (λ o. after_execve o (settings_of all pid)) there

            begun : begins_program_of program_of s pid pid ≡ true
            begun = here-begins me at ∙ ap (λ n. begins_image n outcome) (is ∙ ap calls_for executes) ∙ ap (begins_image (calls_for (TheCall.Execve path))) answered

            by : (t : Option Table) → q.table ≡ t → (o : Option Promises) → me.execpromises ≡ o
                → ((set : Promises) → me.execpromises ≡ Some set → (q.table ≡ me.table) × (q.locked ≡ me.locked)) → (me.execpromises ≡ None → (q.table ≡ None) × (q.locked ≡ false)) → ComesOf pid q
            by None none o held preserved goes =
                empties (ap entries_of_table none) (new_settings ∙ ap (λ (t : Option Table). if is_some t then map of_earlier_program (settings_of all pid) else []) none)
            by (Some t) some None held preserved goes = let bad : Some t ≡ None = sym some ∙ (goes held).0 in cc bad
            by (Some t) some (Some set) held preserved goes =
                carries pid me true (own-origin pid me at) at (ap entries_of_table (preserved set held).0)
                (new_settings ∙ ap (λ (t : Option Table). if is_some t then map of_earlier_program (settings_of all pid) else []) some)
                begun (no_set (ap is_unveil executes) pid)

        -- the unveil set an entry of its table
        unveiled : (path text : Bytes) → call ≡ TheCall.Unveil (Some path) (Some text) → outcome ≡ Value 0 → HasUnveiled s me q path text → ComesOf pid q
        unfolding settings_after
        unveiled path text unveils answered has =
            sets me has.added.number (target_of s.tree has.place, has.permissions) refl at
            (record {
              path = path;
              text = text;
              place = has.place;
              permissions = has.permissions;
              at = at;
              next_is = is ∙ ap calls_for unveils;
              succeeds = answered;
              leads = has.leads;
              encoded = has.encoded;
              is = refl;
              after = q;
              left = there;
              number = has.added.found;
              has = has.added.with.has;
            })
            has.added.with new_settings
            (here-begins me at ∙ ap (λ n. begins_image n outcome) (is ∙ ap calls_for unveils))
          where
            given : entry_given s me path (process_at after pid) ≡ Some has.added.number
            given = ap (entry_given s me path) there ∙ ap (λ r. table_entry s me (place_found r) (Some q)) has.leads ∙ has.added.found

            new_settings : settings_of all_next pid ≡ set_at (settings_of all pid) has.added.number (record { line = me.line; earlier = false })
            new_settings =
                ap (λ a. settings_of a pid)
                (next-is ∙ ap (λ c. settings_after s pid me after all c outcome) unveils ∙ ap (settings_after s pid me after all (TheCall.Unveil (Some path) (Some text))) answered)
                ∙ put-same all pid (after_unveil s me (entry_given s me path (process_at after pid)) (settings_of all pid))
                ∙ ap (λ o. after_unveil s me o (settings_of all pid)) given

        -- the unveil left the table unchanged
        not_unveiled : (path text : Option Bytes) → call ≡ TheCall.Unveil path text → q.table ≡ me.table → settings_after s pid me after all (TheCall.Unveil path text) outcome ≡ all
            → ((p t : Bytes) → TheCall.Unveil path text ≡ TheCall.Unveil (Some p) (Some t) → outcome ≡ Value 0 → ⊥) → ComesOf pid q
        not_unveiled path text unveils same still nothing =
            carries pid me false (own-origin pid me at) at (ap entries_of_table same)
            (ap (λ a. settings_of a pid) (next-is ∙ ap (λ c. settings_after s pid me after all c outcome) unveils ∙ still))
            (here-begins me at ∙ ap (λ n. begins_image n outcome) (is ∙ ap calls_for unveils))
            (λ number other e set here.
            let both : Some me ≡ Some other = sym at ∙ set.at in
            let one : me ≡ other = cc both in
            let calls : calls_for (TheCall.Unveil path text) ≡ calls_for (TheCall.Unveil (Some set.path) (Some set.text)) = sym (is ∙ ap calls_for unveils) ∙ ap next one ∙ set.next_is in
            nothing set.path set.text (cc calls) set.succeeds)

        no-value : (path : Bytes) (text : Option Bytes) (o : Outcome) → IsNoValue o → settings_after s pid me after all (TheCall.Unveil (Some path) text) o ≡ all
        unfolding settings_after
        no-value path text (Value n) none = absurd none
        no-value path text o none = refl

        by-unveil : (path text : Option Bytes) → call ≡ TheCall.Unveil path text → UnveilLeft s me path text q outcome → ComesOf pid q
        unfolding settings_after
        by-unveil None text unveils how = not_unveiled None text unveils how none (λ p t same value. cc same)
          where
            none : settings_after s pid me after all (TheCall.Unveil None text) outcome ≡ all
            none = refl
        by-unveil (Some path) None unveils how = not_unveiled (Some path) None unveils how.0 (no-value path None outcome how.1) (λ p t same value. cc same)
        by-unveil (Some path) (Some text) unveils how =
            ⊎_elim
            (λ got. unveiled path text unveils got.0 got.1)
            (λ preserved. not_unveiled (Some path) (Some text) unveils preserved.0 (no-value path (Some text) outcome preserved.1) (λ p t same value. subst IsNoValue value preserved.1)) how

        by-caller : ComesOf pid q
        by-caller = by call refl
          where
            quiet : (path : Bytes) → call ≡ TheCall.Execve path → (o : Outcome) → outcome ≡ o → ComesOf pid q
            quiet path executes (Value n) answered = executed path n executes answered
            quiet path executes o answered = stays (ap is_unveil executes) (ap (λ c. begins_image (calls_for c) outcome) executes ∙ ap (begins_image (calls_for (TheCall.Execve path))) answered)

            by : (c : Call) → call ≡ c → ComesOf pid q
            by (TheCall.Unveil path text) unveils =
                by-unveil path text unveils
                (subst (UnveilLeft s me path text q) (sym (reported ∙ ap (λ c. (answer program_of s pid c).outcome) unveils))
                (unveil-left program_of s pid me path text q (valid-in_order s whole).ascending at
                (ap (λ c. process_at (answer program_of s pid c).after pid) (sym unveils) ∙ sym (left pid) ∙ there)))
            by (TheCall.Execve path) executes = quiet path executes outcome refl
            by c calls = stays (ap is_unveil calls) (ap (λ c. begins_image (calls_for c) outcome) calls)

      by-call : (k : ℕ) (q : Process) → process_at after k ≡ Some q → ComesOf k q
      by-call k q there =
          ⊎_elim
          (λ here. subst (λ n. ComesOf n q) (sym here) (by-caller q (ap (process_at after) (sym here) ∙ there)))
          (λ apart. by_process apart (process_at s k) refl)
          (cases_eq k pid)
        where
          by_process : k ≢ pid → (o : Option Process) → process_at s k ≡ o → ComesOf k q
          by_process apart None fresh = born k q apart fresh there
          by_process apart (Some p) old = beside k q p apart old there

    by-next : (n : Next) → next me ≡ n → (k : ℕ) (q : Process) → process_at after k ≡ Some q → ComesOf k q
    by-next (inside r) is k q there = inward r is k q there
    by-next (calls_for call) is k q there = by-call call is k q there

  comes-of : (k : ℕ) (q : Process) → process_at after k ≡ Some q → ComesOf k q
  comes-of k q there = by (process_at s pid) refl
    where
      by : (o : Option Process) → process_at s pid ≡ o → ComesOf k q
      by None none = gone none k q there
      by (Some me) at = by-next me at (next me) refl k q there

  -- a step sets at most one entry
  sets-once : (me other : Process) (number j : ℕ) (e f : Target × Perms) → SetsEntry program_of s pid me number e → SetsEntry program_of s pid other j f → j ≡ number
  sets-once me other number j e f a b =
      let both : Some me ≡ Some other = sym a.at ∙ b.at in
      let one : me ≡ other = cc both in
      let calls : calls_for (TheCall.Unveil (Some a.path) (Some a.text)) ≡ calls_for (TheCall.Unveil (Some b.path) (Some b.text)) = sym a.next_is ∙ ap next one ∙ b.next_is in
      let path : a.path ≡ b.path = cc calls in
      let ends : Ok a.place ≡ Ok b.place = sym a.leads ∙ (λ i. end_of s (one i) (unveil_walk (path i) no_permissions)) ∙ b.leads in
      let place : a.place ≡ b.place = cc ends in
      let left : Some a.after ≡ Some b.after = sym a.left ∙ b.left in
      let after_is : a.after ≡ b.after = cc left in
      let numbers : Some number ≡ Some j = sym a.number ∙ (λ i. entry_for (entries_of_table (after_is i).table) (target_of s.tree (place i))) ∙ b.number in
      cc numbers

-- ---- along a run

module _ (program_of : Bytes → Option Program) where
  -- one more step
  stays-more : (since : List ℕ) (s : State) (entry j k m : ℕ) (earlier b : Bool) (pid : ℕ) → StaysSet program_of entry j k earlier since s
      → origin (run program_of since s).final pid m ≡ k → is_some (process_at (step program_of (run program_of since s).final pid).after m) ≡ true
      → ((me : Process) (e : Target × Perms) → SetsEntry program_of (run program_of since s).final pid me entry e → m ≡ pid → ⊥)
      → begins_program_of program_of (run program_of since s).final pid m ≡ b → StaysSet program_of entry j m (earlier || b) (since ++ pid ∷ []) s
  stays-more [] s entry j k m earlier b pid stays from lives none begins =
      (m, false, from ∙ sym stays.0, lives, none, ap (λ e. e || b) stays.1 ∙ sym begins ∙ sym (or-false (begins_program_of program_of s pid m)), (refl, refl))
  stays-more (i ∷ since) s entry j k m earlier b pid stays from lives none begins = (
    stays.0,
    stays.1 || b,
    stays.2,
    stays.3,
    stays.4,
    ap (λ e. e || b) stays.5 ∙ or-along (begins_program_of program_of s i stays.0) stays.1 b,
    stays-more since (step program_of s i).after entry stays.0 k m stays.1 b pid stays.6 from lives none begins,
  )
    where
      or-along : (a c d : Bool) → ((a || c) || d) ≡ (a || (c || d))
      or-along true c d = refl
      or-along false c d = refl

  settings-more : (before : List ℕ) (pid : ℕ) (all : Settings) (s : State)
      → settings_along program_of (before ++ pid ∷ []) all s ≡ settings_next program_of (run program_of before s).final pid (settings_along program_of before all s)
  settings-more [] pid all s = refl
  settings-more (i ∷ before) pid all s = settings-more before pid (settings_next program_of s i all) (step program_of s i).after

  final-more : (before : List ℕ) (pid : ℕ) (s : State) → (run program_of (before ++ pid ∷ []) s).final ≡ (step program_of (run program_of before s).final pid).after
  final-more before pid s = ap (λ (r : Run). r.final) (run-append program_of before (pid ∷ []) s)

  module _ (encodes : EncodesPrograms program_of) (first : State) (whole : IsValid first) where
    abbrev state_after : List ℕ → State
    state_after pids = (run program_of pids first).final

    abbrev settings : List ℕ → Settings
    settings pids = settings_along program_of pids [] first

    -- the settings of a process name the unveils of its entries
    record IsReported (pids : List ℕ) (k : ℕ) (q : Process) : Type 0 where
      long : length (settings_of (settings pids) k) ≡ length (entries_of_table q.table)
      each : (number : ℕ) (setting : Setting) → slice_get (settings_of (settings pids) k) number ≡ Some setting
          → (entry : Target × Perms) × (slice_get (entries_of_table q.table) number ≡ Some entry) × WasSet program_of pids first k number entry setting

    abbrev AllReported : List ℕ → Type 0
    AllReported pids = (k : ℕ) (q : Process) → process_at (state_after pids) k ≡ Some q → IsReported pids k q

    module _ (before : List ℕ) (pid : ℕ) (reported : AllReported before) where
      abbrev s : State
      s = state_after before

      abbrev pids : List ℕ
      pids = before ++ pid ∷ []

      s-whole : IsValid s
      s-whole = run-keeps_valid program_of encodes before first whole

      settings-are : (k : ℕ) → settings_of (settings pids) k ≡ settings_of (settings_next program_of s pid (settings before)) k
      settings-are k = ap (λ a. settings_of a k) (settings-more before pid [] first)

      -- an old setting after one more step
      carried : (j k number : ℕ) (q : Process) (entry : Target × Perms) (old : Setting) (b : Bool) → process_at (step program_of s pid).after k ≡ Some q → WasSet program_of before first j number entry old
          → origin s pid k ≡ j → begins_program_of program_of s pid k ≡ b → ((me : Process) (e : Target × Perms) → SetsEntry program_of s pid me number e → k ≡ pid → ⊥)
          → WasSet program_of pids first k number entry (aged_one b old)
      carried j k number q entry old b there was from begins none =
          let ends : (run program_of was.since (step program_of (state_after was.before) was.by).after).final ≡ s =
          sym (ap (λ ps. (run program_of ps first).final) was.parts ∙ ap (λ (r : Run). r.final) (run-append program_of was.before (was.by ∷ was.since) first)) in
          record {
            before = was.before;
            by = was.by;
            since = was.since ++ pid ∷ [];
            parts = ap (λ ps. ps ++ pid ∷ []) was.parts ∙ append_assoc was.before (was.by ∷ was.since) (pid ∷ []);
            me = was.me;
            sets = was.sets;
            line = was.line ∙ sym (aged-line b old);
            stays = subst (λ e. StaysSet program_of number was.by k e (was.since ++ pid ∷ []) (step program_of (state_after was.before) was.by).after) (sym (aged-earlier b old))
                (stays-more was.since (step program_of (state_after was.before) was.by).after number was.by j k old.earlier b pid was.stays
                (subst (λ (x : State). origin x pid k ≡ j) (sym ends) from)
                (subst (λ (x : State). is_some (process_at (step program_of x pid).after k) ≡ true) (sym ends) (ap is_some there))
                (subst (λ (x : State). (me : Process) (e : Target × Perms) → SetsEntry program_of x pid me number e → k ≡ pid → ⊥) (sym ends) none)
                (subst (λ (x : State). begins_program_of program_of x pid k ≡ b) (sym ends) begins));
          }

      by-step : (k : ℕ) (q : Process) → process_at (step program_of s pid).after k ≡ Some q → ComesOf program_of s pid s-whole (settings before) k q → IsReported pids k q
      by-step k q there (carries j p b from at same settle begins none) =
          let old = reported j p at in
          let now : settings_of (settings pids) k ≡ aged b (settings_of (settings before) j) = settings-are k ∙ settle in
          record {
            long = ap length now ∙ aged-length b (settings_of (settings before) j) ∙ old.long ∙ ap length (sym same);
            each = λ number setting is.
                let was = aged-get b (settings_of (settings before) j) number setting (ap (λ mine. slice_get mine number) (sym now) ∙ is) in
                let had = old.each number was.0 was.1 in (
                  had.0,
                  ap (λ es. slice_get es number) same ∙ had.1,
                  subst (WasSet program_of pids first k number had.0) (sym was.2) (carried j k number q had.0 was.0 b there had.2 from begins (none number)),
                );
          }
      by-step k q there (empties none nothing) =
          let now : settings_of (settings pids) k ≡ [] = settings-are k ∙ nothing in
          record {
            long = ap length now ∙ ap length (sym none);
            each = λ number setting is. let bad : None ≡ Some setting = ap (λ mine. slice_get mine number) (sym now) ∙ is in cc bad;
          }
      by-step k q there (sets p number e here at set with settle begins) =
          let old = reported pid p at in
          let new : Setting = record { line = p.line; earlier = false } in
          let mine = settings_of (settings before) pid in
          let now : settings_of (settings pids) k ≡ set_at (settings_of (settings before) pid) number (record { line = p.line; earlier = false }) = settings-are k ∙ settle in
          let within : number ≤ length (settings_of (settings before) pid) = subst (λ n. number ≤ n) (sym old.long) with.within in
          let grown = set_at-with (settings_of (settings before) pid) number (record { line = p.line; earlier = false }) within in
          record {
            long = ap length now
                ∙ with-length (settings_of (settings before) pid) number (record { line = p.line; earlier = false }) (set_at (settings_of (settings before) pid) number (record { line = p.line; earlier = false }))
                (entries_of_table p.table) e (entries_of_table q.table) grown with old.long;
            each = λ j setting is.
                let found = ap (λ mine. slice_get mine j) (sym now) ∙ is in
                ⊎_elim
                (λ same.
                let both : Some (record { line = p.line; earlier = false }) ≡ Some setting = sym grown.has ∙ ap (slice_get (set_at (settings_of (settings before) pid) number (record { line = p.line; earlier = false }))) (sym same) ∙ found in
                let one : record { line = p.line; earlier = false } ≡ setting = cc both in
                subst (λ x. (entry : Target × Perms) × (slice_get (entries_of_table q.table) x ≡ Some entry) × WasSet program_of pids first k x entry setting) (sym same) (
                  e,
                  with.has,
                  subst (WasSet program_of pids first k number e) one
                      (record {
                        before = before;
                        by = pid;
                        since = [];
                        parts = refl;
                        me = p;
                        sets = set;
                        line = refl;
                        stays = (sym here, refl);
                      }),
                ))
                (λ other.
                let had = old.each j setting (sym (grown.others j other) ∙ found) in (
                  had.0,
                  with.others j other ∙ had.1,
                  carried pid k j q had.0 setting false there had.2 (ap (origin s pid) here ∙ own-origin program_of s pid s-whole (settings before) pid p at) begins
                      (λ me f again same. other (sets-once program_of s pid s-whole (settings before) p me number j e f set again)),
                ))
                (cases_eq j number);
          }

      more-reported : AllReported pids
      more-reported k q at =
          let there : process_at (step program_of s pid).after k ≡ Some q = sym (ap (λ (x : State). process_at x k) (final-more before pid first)) ∙ at in
          by-step k q there (comes-of program_of s pid s-whole (settings before) k q there)

    all-reported : (before rest : List ℕ) → AllReported before → AllReported (before ++ rest)
    all-reported before [] reported = subst AllReported (sym (append-nil before)) reported
    all-reported before (pid ∷ rest) reported = subst AllReported (append_assoc before (pid ∷ []) rest) (all-reported (before ++ pid ∷ []) rest (more-reported before pid reported))

    module _ (bare : HasNoTables first) where
      first-reported : AllReported []
      first-reported k q at = record {
        long = ap length (ap entries_of_table (sym (bare k q at)));
        each = λ number setting is. cc is;
      }

      pub settings-long : (pids : List ℕ) (k : ℕ) (p : Process) → process_at (state_after pids) k ≡ Some p → length (settings_of (settings pids) k) ≡ length (entries_of_table p.table)
      settings-long pids k p at = (all-reported [] pids first-reported k p at).long

      pub settings-report : (pids : List ℕ) (k : ℕ) (p : Process) (number : ℕ) (setting : Setting) → process_at (state_after pids) k ≡ Some p
          → slice_get (settings_of (settings pids) k) number ≡ Some setting
          → (entry : Target × Perms) × (slice_get (entries_of_table p.table) number ≡ Some entry) × WasSet program_of pids first k number entry setting
      settings-report pids k p number setting at is = (all-reported [] pids first-reported k p at).each number setting is
