-- The lines about promises and tables, and the number of walks of a call.
use Rattle.std.proofs.Common.{◌≡◌, ◌↔◌, inl, inr, ℕ, zero, suc, ◌+◌, ◌<◌, ◌≤◌, Bool, true, false, if◌then◌else◌, ◌&&◌, ◌||◌, List, [], ◌∷◌, ◌++◌, map, Option, None, Some, Ok, Err, refl, ap, sym, subst, ◌∙◌, arith, ⊎_elim}
use Rattle.std.specs.Prelude.{take}
use Rattle.std.specs.List.{list_any, list_all}
use Rattle.std.proofs.lemmas.Bool.{cases_eq, cases_lt, and_parts}
use Rattle.std.proofs.Math.Bool.{or-false}
use Rattle.pv_model.specs.declared.call.Call.{Call}
use Rattle.pv_model.specs.declared.call.Call.TheVariants as TheCall
use Rattle.pv_model.specs.declared.errno.Errno.{Errno}
use Rattle.pv_model.specs.declared.errno.Errno.TheVariants.{ENOSYS}
use Rattle.pv_model.specs.declared.judgement.Judgement.{Judgement}
use Rattle.pv_model.specs.declared.judgement.Judgement.TheVariants.{Allowed, Hidden, Denied}
use Rattle.pv_model.specs.declared.open_flags.Mode.{Mode}
use Rattle.pv_model.specs.declared.open_flags.Mode.TheVariants.{Read, Write, ReadWrite}
use Rattle.pv_model.specs.declared.outcome.Cause.{Cause}
use Rattle.pv_model.specs.declared.outcome.Cause.TheVariants.{Plain, Promise as ByPromise, Unveil as ByUnveil, Locked}
use Rattle.pv_model.specs.declared.outcome.Outcome.{Outcome}
use Rattle.pv_model.specs.declared.outcome.Outcome.TheVariants.{Value, Text, Failed, Killed, Exited, Blocked, Gone}
use Rattle.pv_model.specs.declared.perms.Perms.{Perms}
use Rattle.pv_model.specs.declared.place.Place.{Place}
use Rattle.pv_model.specs.declared.promise.Promise.{Promise}
use Rattle.pv_model.specs.Machine.{Answered, answer, answer_by_attempt, at_next_line, effect, is_allowed, Attempt, done, refused, after_walks, ◌>>=◌, ◌>>◌, Bytes, Effect, place_or_refusal, judgement_or_refusal, judge, end_of, needs, needs_cpath, needs_of_mode, covers, calls_for, next, Promises, Need, is_met, is_lenient, missing_promise, Program, Process, State, process_at, Stepped, step, step_by, Word, call_word, nami_word, gio_word, ret_word, gave, Line, line, walked_paths, buffer_of, promise_words, unveil_words, moved_words, end_words, call_lines, Tree, Table, permissions_at, governing_entry, judgement, judge_entry, Walked, begins_walk, Walk, walks_of, walk_number, is_unveil}
use Rattle.pv_model.specs.Trace.{psig_word, wait_word, Direction, took, Returned, value_of, error_of}
use Rattle.pv_laws_states.specs.Courses.{walks_in_sequence, IsStoppedEarly, IsOnCourse}
use Rattle.pv_laws_states.proofs.CallWalks.{calls-along}
use Rattle.pv_laws_states.proofs.CallOutcomes.{at_call, by_answer}
use Rattle.pv_laws_access.proofs.ProcessesAfterEnds.{step-is}
use Rattle.pv_laws_access.specs.Promises.{IsFirstMissing, IsRefusedByPromise, missing, increase}
use Rattle.pv_laws_access.proofs.WalkDecisions.{NotByTable, Ends, walks_in, answer-decides, lock-refuses-exactly}
use Rattle.pv_laws_access.proofs.FirstMissing.{first-missing-named}
use Rattle.pv_laws_access.proofs.PromiseRefusals.{promise-refuses, promise-kills}
use Rattle.pv_laws_access.proofs.PledgeRefusals.{is_of_promise}
use Rattle.pv_laws_answers.specs.Wanted.{is_missing_promise_line, reports_need, HasAllNeeds, is_of_table_line, reports_of_table, Permits, HasTableLine}
use Rattle.pv_laws_answers.proofs.AskingCalls.{along-one, walks-reported}

-- ---- promises that are met

abbrev is_filled : Need → Bool
is_filled [] = false
is_filled (a ∷ others) = true

-- each need names a promise
needs-filled : (call : Call) → list_all is_filled (needs call) ≡ true
unfolding needs
needs-filled (TheCall.Open path flags) = by flags.mode flags.create
  where
    by : (mode : Mode) (create : Bool) → list_all is_filled (needs_of_mode mode ++ (if create then needs_cpath else [])) ≡ true
    by Read true = refl
    by Read false = refl
    by Write true = refl
    by Write false = refl
    by ReadWrite true = refl
    by ReadWrite false = refl
needs-filled (TheCall.OpenAt start path flags) = by flags.mode flags.create
  where
    by : (mode : Mode) (create : Bool) → list_all is_filled (needs_of_mode mode ++ (if create then needs_cpath else [])) ≡ true
    by Read true = refl
    by Read false = refl
    by Write true = refl
    by Write false = refl
    by ReadWrite true = refl
    by ReadWrite false = refl
needs-filled call = refl

module _ (held : Option Promises) where
  abbrev all_met : List Need → Bool
  all_met ns = list_all (λ need. is_met held need) ns

  met-all : (ns : List Need) → list_all is_filled ns ≡ true → missing_promise held ns ≡ None → all_met ns ≡ true
  met-all [] filled none = refl
  met-all ([] ∷ ns) filled none = cc filled
  met-all ((a ∷ others) ∷ ns) filled none = by (is_met held (a ∷ others)) none (met-all ns filled)
    where
      by : (b : Bool) → (if b then missing_promise held ns else Some a) ≡ None → (missing_promise held ns ≡ None → all_met ns ≡ true) → (b && all_met ns) ≡ true
      by true none more = more none
      by false none more = cc none

  all-met : (ns : List Need) → list_all is_filled ns ≡ true → all_met ns ≡ true → missing_promise held ns ≡ None
  all-met [] filled all = refl
  all-met ([] ∷ ns) filled all = cc filled
  all-met ((a ∷ others) ∷ ns) filled all =
      let parts = and_parts (is_met held (a ∷ others)) (all_met ns) all in
      ap (λ b. if b then missing_promise held ns else Some a) parts.0 ∙ all-met ns filled parts.1

-- a process without promises lacks none
pub unpledged : (ns : List Need) → missing_promise None ns ≡ None
unpledged [] = refl
unpledged ([] ∷ ns) = unpledged ns
unpledged ((a ∷ others) ∷ ns) = unpledged ns

pub has-all : (held : Option Promises) (call : Call) → (missing_promise held (needs call) ≡ None) ↔ HasAllNeeds held call
has-all held call = (λ none. by held none, λ has. back has)
  where
    by : (o : Option Promises) → missing_promise o (needs call) ≡ None → HasAllNeeds o call
    by None none = inl refl
    by (Some set) none = inr (set, refl, met-all (Some set) (needs call) (needs-filled call) none)

    back : HasAllNeeds held call → missing_promise held (needs call) ≡ None
    back has =
        ⊎_elim
        (λ none. ap (λ o. missing_promise o (needs call)) none ∙ unpledged (needs call))
        (λ (some : (set : Promises) × (held ≡ Some set) × (list_all (λ need. is_met (Some set) need) (needs call) ≡ true)).
        ap (λ o. missing_promise o (needs call)) some.1 ∙ all-met (Some some.0) (needs call) (needs-filled call) some.2) has

-- ---- lines about promises and tables

pub any-append : (test : Line → Bool) (ls ms : List Line) → list_any test (ls ++ ms) ≡ (list_any test ls || list_any test ms)
any-append test [] ms = refl
any-append test (l ∷ ls) ms = ap (λ b. test l || b) (any-append test ls ms) ∙ along' (test l) (list_any test ls) (list_any test ms)
  where
    along' : (a b c : Bool) → (a || (b || c)) ≡ ((a || b) || c)
    along' true b c = refl
    along' false b c = refl

-- a test that only lines about promises or tables pass
record IsQuiet (test : Word → Bool) : Type 0 where
  calls : (call : Call) → test (call_word call) ≡ false
  paths : (path : Bytes) → test (nami_word path) ≡ false
  moves : (witness : Direction) (bytes : Bytes) → test (gio_word witness bytes) ≡ false
  returns : (call : Call) (value : Returned) → test (ret_word call value) ≡ false
  dies : test psig_word ≡ false
  blocks : test wait_word ≡ false

module _ (pid : ℕ) (test : Word → Bool) where
  abbrev reported : List Word → Bool
  reported ws = list_any (λ l. test l.word) (map (line pid) ws)

  module _ (quiet : IsQuiet test) where
    silent-paths : (ps : List Bytes) → list_any (λ l. test l.word) (map (λ path. line pid (nami_word path)) ps) ≡ false
    silent-paths [] = refl
    silent-paths (p ∷ ps) = ap (λ b. b || list_any (λ l. test l.word) (map (λ path. line pid (nami_word path)) ps)) (quiet.paths p) ∙ silent-paths ps

    one-silent : (w : Word) → test w ≡ false → reported (w ∷ []) ≡ false
    one-silent w is = ap (λ b. b || false) is

    silent-moved : (after : State) (p : Process) (call : Call) (o : Outcome) → reported (moved_words after pid p call o) ≡ false
    silent-moved after p call (Text taken) = one-silent _ (quiet.moves gave (take taken.len (buffer_of (process_at after pid))))
    silent-moved after p (TheCall.Write d n) (Value count) = one-silent _ (quiet.moves took (take count p.buffer))
    silent-moved after p call o = refl

    silent-end : (call : Call) (o : Outcome) → reported (end_words call o) ≡ false
    silent-end call (Value n) = one-silent _ (quiet.returns call (value_of n))
    silent-end call (Text taken) = one-silent _ (quiet.returns call (value_of taken.value))
    silent-end call (Failed errno cause) = one-silent _ (quiet.returns call (error_of errno))
    silent-end call (Killed p) = one-silent _ quiet.dies
    silent-end call Exited = refl
    silent-end call Blocked = one-silent _ quiet.blocks
    silent-end call Gone = refl

    five : (a b c d e : List Line) → list_any (λ l. test l.word) a ≡ false → list_any (λ l. test l.word) d ≡ false → list_any (λ l. test l.word) e ≡ false
        → list_any (λ l. test l.word) (a ++ b ++ c ++ d ++ e) ≡ (list_any (λ l. test l.word) b || list_any (λ l. test l.word) c)
    five a b c d e no_a no_d no_e =
        let T = λ (l : Line). test l.word in
        any-append T (a ++ b ++ c ++ d) e ∙ ap (λ x. list_any T (a ++ b ++ c ++ d) || x) no_e ∙ or-false (list_any T (a ++ b ++ c ++ d))
        ∙ any-append T (a ++ b ++ c) d ∙ ap (λ x. list_any T (a ++ b ++ c) || x) no_d ∙ or-false (list_any T (a ++ b ++ c))
        ∙ any-append T (a ++ b) c ∙ ap (λ x. x || list_any T c) (any-append T a b ∙ ap (λ x. x || list_any T b) no_a)

    reported-lines : (p : Process) (call : Call) (a : Answered) → list_any (λ l. test l.word) (call_lines pid p call a) ≡ (reported (promise_words call a.outcome) || reported (unveil_words call a.walks a.outcome))
    unfolding call_lines
    reported-lines p call a =
        let paths = map (λ path. line pid (nami_word path)) (take a.walks (walked_paths call)) in
        let promises = map (line pid) (promise_words call a.outcome) in
        let tables = map (line pid) (unveil_words call a.walks a.outcome) in
        let moved = map (line pid) (moved_words a.after pid p call a.outcome) in
        let end = map (line pid) (end_words call a.outcome) in
        ap (λ b. b || list_any (λ l. test l.word) (paths ++ promises ++ tables ++ moved ++ end)) (quiet.calls call)
        ∙ five paths promises tables moved end (silent-paths (take a.walks (walked_paths call))) (silent-moved a.after p call a.outcome) (silent-end call a.outcome)

want-quiet : IsQuiet is_missing_promise_line
want-quiet = record {
  calls = λ call. refl;
  paths = λ path. refl;
  moves = λ witness bytes. refl;
  returns = λ call value. refl;
  dies = refl;
  blocks = refl;
}

table-quiet : IsQuiet is_of_table_line
table-quiet = record {
  calls = λ call. refl;
  paths = λ path. refl;
  moves = λ witness bytes. refl;
  returns = λ call value. refl;
  dies = refl;
  blocks = refl;
}

tables-want-nothing : (pid : ℕ) (call : Call) (walks : ℕ) (o : Outcome) → reported pid is_missing_promise_line (unveil_words call walks o) ≡ false
tables-want-nothing pid call walks (Failed errno (ByUnveil None)) = refl
tables-want-nothing pid call walks (Failed errno (ByUnveil (Some k))) = refl
tables-want-nothing pid call walks (Failed errno Locked) = refl
tables-want-nothing pid call walks o = refl

promises-are-no_tables : (pid : ℕ) (call : Call) (o : Outcome) → reported pid is_of_table_line (promise_words call o) ≡ false
promises-are-no_tables pid call (Killed a) = refl
promises-are-no_tables pid call (Failed ENOSYS (ByPromise a)) = refl
promises-are-no_tables pid call (Failed errno (ByPromise a)) = refl
promises-are-no_tables pid call o = refl

no-promise : (pid : ℕ) (call : Call) (errno : Errno) (cause : Cause) → is_of_promise cause ≡ false → reported pid is_missing_promise_line (promise_words call (Failed errno cause)) ≡ false
no-promise pid call errno (ByPromise b) is = cc is
no-promise pid call ENOSYS cause is = refl
no-promise pid call errno cause is = refl

-- whether a table or its lock decided an outcome
abbrev pub is_by_table : Outcome → Bool
is_by_table (Failed errno (ByUnveil entry)) = true
is_by_table (Failed errno Locked) = true
is_by_table outcome = false

table-reported : (pid : ℕ) (call : Call) (walks : ℕ) (o : Outcome) → reported pid is_of_table_line (unveil_words call walks o) ≡ is_by_table o
table-reported pid call walks (Failed errno (ByUnveil None)) = refl
table-reported pid call walks (Failed errno (ByUnveil (Some k))) = refl
table-reported pid call walks (Failed errno Locked) = refl
table-reported pid call walks (Failed errno Plain) = refl
table-reported pid call walks (Failed errno (ByPromise a)) = refl
table-reported pid call walks (Value n) = refl
table-reported pid call walks (Text taken) = refl
table-reported pid call walks (Killed a) = refl
table-reported pid call walks Exited = refl
table-reported pid call walks Blocked = refl
table-reported pid call walks Gone = refl

module _ (program_of : Bytes → Option Program) (s : State) (pid : ℕ) (p : Process) (call : Call) (at : process_at s pid ≡ Some p) where
  abbrev a : Answered
  a = answer program_of s pid call

  pub lines-of : next p ≡ calls_for call → (step program_of s pid).lines ≡ call_lines pid p call a
  lines-of is = ap (λ (w : Stepped). w.lines) (step-is program_of s pid p at ∙ ap (step_by program_of s pid p) is)

  pub want-lines : reports_need (call_lines pid p call a) ≡ reported pid is_missing_promise_line (promise_words call a.outcome)
  want-lines =
      reported-lines pid is_missing_promise_line want-quiet p call a ∙ ap (λ b. reported pid is_missing_promise_line (promise_words call a.outcome) || b) (tables-want-nothing pid call a.walks a.outcome)
      ∙ or-false (reported pid is_missing_promise_line (promise_words call a.outcome))

  pub table-lines : reports_of_table (call_lines pid p call a) ≡ is_by_table a.outcome
  table-lines =
      reported-lines pid is_of_table_line table-quiet p call a ∙ ap (λ b. b || reported pid is_of_table_line (unveil_words call a.walks a.outcome)) (promises-are-no_tables pid call a.outcome)
      ∙ table-reported pid call a.walks a.outcome

  -- a missing promise is reported
  pub lacks-reported : (b : Promise) → missing_promise p.promises (needs call) ≡ Some b → reports_need (call_lines pid p call a) ≡ true
  lacks-reported b lacks = want-lines ∙ by (is_lenient p.promises) refl
    where
      by : (l : Bool) → is_lenient p.promises ≡ l → reported pid is_missing_promise_line (promise_words call a.outcome) ≡ true
      by true lenient =
          ap (λ o. reported pid is_missing_promise_line (promise_words call o)) ((promise-refuses program_of s pid p call at ENOSYS b).1 (missing lenient ((first-missing-named p.promises call b).0 lacks)))
      by false strict =
          ap (λ o. reported pid is_missing_promise_line (promise_words call o)) ((promise-kills program_of s pid p call at b).1 (strict, (first-missing-named p.promises call b).0 lacks))

  -- if no promise is missing, none is reported
  pub met-reported : missing_promise p.promises (needs call) ≡ None → reports_need (call_lines pid p call a) ≡ false
  met-reported met = want-lines ∙ by a.outcome refl
    where
      named : (b : Promise) → IsFirstMissing p.promises call b → ⊥
      named b first = let both : None ≡ Some b = sym met ∙ (first-missing-named p.promises call b).1 first in cc both

      refused : (errno : Errno) (b : Promise) → IsRefusedByPromise p call b errno → reported pid is_missing_promise_line (promise_words call (Failed errno (ByPromise b))) ≡ false
      refused _ b (missing lenient first) = absurd (named b first)
      refused _ b (increase inc) = refl

      by : (o : Outcome) → a.outcome ≡ o → reported pid is_missing_promise_line (promise_words call o) ≡ false
      by (Killed b) is = absurd (named b ((promise-kills program_of s pid p call at b).0 is).1)
      by (Failed errno (ByPromise b)) is = refused errno b ((promise-refuses program_of s pid p call at errno b).0 is)
      by (Failed errno Plain) is = no-promise pid call errno Plain refl
      by (Failed errno (ByUnveil entry)) is = no-promise pid call errno (ByUnveil entry) refl
      by (Failed errno Locked) is = no-promise pid call errno Locked refl
      by (Value n) is = refl
      by (Text taken) is = refl
      by Exited is = refl
      by Blocked is = refl
      by Gone is = refl

  pub want-reported : next p ≡ calls_for call → (reports_need (step program_of s pid).lines ≡ false) ↔ HasAllNeeds p.promises call
  want-reported is = (
    λ quiet. (has-all p.promises call).0 (by (missing_promise p.promises (needs call)) refl (ap reports_need (sym (lines-of is)) ∙ quiet)),
    λ has. ap reports_need (lines-of is) ∙ met-reported ((has-all p.promises call).1 has),
  )
    where
      by : (o : Option Promise) → missing_promise p.promises (needs call) ≡ o → reports_need (call_lines pid p call a) ≡ false → missing_promise p.promises (needs call) ≡ None
      by None none quiet = none
      by (Some b) lacks quiet = let bad : true ≡ false = sym (lacks-reported b lacks) ∙ quiet in cc bad

-- ---- walks before the last are allowed

pub at-most-one : (b : Bool) (e : Errno) → 2 ≤ walks_in {A = Unit {0}} (refused (if b then 1 else 0) e Plain) → ⊥
at-most-one true e more = omega arith
at-most-one false e more = omega arith

module _ (s : State) (me : Process) where
  abbrev continues : Walk → List Walk → Walked → Attempt (Unit {0})
  continues v ws r = place_or_refusal (if begins_walk v.path then 1 else 0) r >>= (λ p. judge s me v p >> walks_in_sequence s me ws)

  walks-past : (n : ℕ) (c : Attempt (Unit {0})) → walks_in (after_walks n c) ≡ n + walks_in c
  walks-past n (done walks value) = refl
  walks-past n (refused walks errno cause) = refl

  pub passed : (ws : List Walk) (m : ℕ) (w : Walk) (place : Place) → m < walks_in (walks_in_sequence s me ws) → walk_number ws m ≡ Some w → end_of s me w ≡ Ok place
      → is_allowed (judgement s.tree me.table place w.needed) ≡ true
  passed [] zero w place beyond found end = cc found
  passed [] (suc m) w place beyond found end = cc found
  passed (v ∷ ws) zero w place beyond found end = cc found
  passed (v ∷ ws) (suc zero) w place beyond found end =
      let same : v ≡ w = cc found in
      let end_v : end_of s me v ≡ Ok place = ap (end_of s me) same ∙ end in
      by (judgement s.tree me.table place v.needed) (ap (λ (x : Walk). judgement s.tree me.table place x.needed) (sym same))
      (subst (λ c. suc (suc 0) ≤ walks_in c) (along-one s me v ws place end_v) beyond)
    where
      by : (j : Judgement) → judgement s.tree me.table place w.needed ≡ j → suc (suc 0) ≤ walks_in (after_walks 1 (judgement_or_refusal j >> walks_in_sequence s me ws)) → is_allowed (judgement s.tree me.table place w.needed) ≡ true
      by Allowed is more = ap is_allowed is
      by Hidden is more = absurd (omega arith)
      by (Denied k) is more = absurd (omega arith)
  passed (v ∷ ws) (suc (suc n)) w place beyond found end = by (end_of s me v) refl (passed ws (suc n) w place)
    where
      deeper : (j : Judgement) → suc (suc (suc n)) ≤ walks_in (after_walks 1 (judgement_or_refusal j >> walks_in_sequence s me ws)) → suc n < walks_in (walks_in_sequence s me ws)
      deeper Allowed more =
          let one = walks-past 1 (after_walks 0 (walks_in_sequence s me ws)) in
          let two = walks-past 0 (walks_in_sequence s me ws) in omega (arith, more, one, two)
      deeper Hidden more = absurd (omega arith)
      deeper (Denied k) more = absurd (omega arith)

      by : (r : Walked) → end_of s me v ≡ r → (suc n < walks_in (walks_in_sequence s me ws) → walk_number ws (suc n) ≡ Some w → end_of s me w ≡ Ok place → is_allowed (judgement s.tree me.table place w.needed) ≡ true)
          → is_allowed (judgement s.tree me.table place w.needed) ≡ true
      by (Ok p) is following =
          following (deeper (judgement s.tree me.table p v.needed) (subst (λ c. suc (suc (suc n)) ≤ walks_in c) (along-one s me v ws p is) beyond)) found end
      by (Err e) is following =
          absurd (at-most-one (begins_walk v.path) e
          (let more = subst (λ r. suc (suc (suc n)) ≤ walks_in (continues v ws r)) is beyond in omega (arith, more)))

pub along-walks : (c : Attempt (Unit {0})) (e : Attempt Effect) → IsOnCourse c e → walks_in c ≡ walks_in e
along-walks (done k v) (done walks value) is = sym is
along-walks (done k v) (refused walks errno cause) is = sym is.0
along-walks (refused k errno cause) e is = ap walks_in (sym is)

-- ---- a place that is checked

pub permitted : (t : Tree) (o : Option Table) (place : Place) (asked : Perms) → Permits t o place asked ↔ (is_allowed (judgement t o place asked) ≡ true)
unfolding judgement
permitted t o place asked = (to, from o)
  where
    to : Permits t o place asked → is_allowed (judgement t o place asked) ≡ true
    to permits =
        ⊎_elim
        (λ none. ap (λ x. is_allowed (judgement t x place asked)) none)
        (λ (some : (table : Table) × (k : ℕ) × (o ≡ Some table) × (governing_entry t table place ≡ Some k) × (covers (permissions_at table k) asked ≡ true)).
        ap (λ x. is_allowed (judgement t x place asked)) some.2
        ∙ ap (λ e. is_allowed (judge_entry some.0 asked e)) some.3
        ∙ ap (λ b. is_allowed (if b then Allowed else Denied some.1)) some.4) permits

    by : (table : Table) (e : Option ℕ) → governing_entry t table place ≡ e → is_allowed (judge_entry table asked e) ≡ true → Permits t (Some table) place asked
    by table None is allowed = cc allowed
    by table (Some k) is allowed = inr (table, k, refl, is, covered (covers (permissions_at table k) asked) allowed)
      where
        covered : (b : Bool) → is_allowed (if b then Allowed else Denied k) ≡ true → b ≡ true
        covered true allowed = refl
        covered false allowed = cc allowed

    from : (o : Option Table) → is_allowed (judgement t o place asked) ≡ true → Permits t o place asked
    from None allowed = inl refl
    from (Some table) allowed = by table (governing_entry t table place) refl allowed

module _ (program_of : Bytes → Option Program) (s : State) (pid : ℕ) (p : Process) (call : Call) (at : process_at s pid ≡ Some p) (plain : is_unveil call ≡ false)
    (number : ℕ) (w : Walk) (place : Place) (found : walk_number (walks_of call) number ≡ Some w) (end : end_of s p w ≡ Ok place) where
  abbrev r : Answered
  r = answer program_of s pid call

  -- a walk before the last is allowed
  pub beyond-allowed : number < r.walks → is_allowed (judgement s.tree p.table place w.needed) ≡ true
  beyond-allowed =
      by_answer (λ x. number < x.walks → is_allowed (judgement s.tree p.table place w.needed) ≡ true) program_of s pid call
      (λ none more. absurd (omega arith))
      (λ y is met more.
      let both : Some y ≡ Some p = sym is ∙ at in
      let same : y ≡ p = cc both in
      here (subst (λ (z : Process). number < (answer_by_attempt s (at_call s pid z) pid (at_next_line z) (effect program_of (at_call s pid z) pid (at_next_line z) call)).walks) same more))
      (λ y lacks is missing lenient more. absurd (omega arith))
      (λ y lacks is missing strict more. absurd (omega arith))
    where
      stopped-early : (e : Attempt Effect) → IsStoppedEarly e → walks_in e ≡ 0
      stopped-early (done walks value) is = absurd is
      stopped-early (refused walks errno cause) is = is.0

      here : number < (answer_by_attempt s (at_call s pid p) pid (at_next_line p) (effect program_of (at_call s pid p) pid (at_next_line p) call)).walks → is_allowed (judgement s.tree p.table place w.needed) ≡ true
      here more =
          let counts = walks-reported s (at_call s pid p) pid (at_next_line p) (effect program_of (at_call s pid p) pid (at_next_line p) call) in
          ⊎_elim
          (λ stopped. absurd (let none = stopped-early (effect program_of (at_call s pid p) pid (at_next_line p) call) stopped in omega (arith, more, counts, none)))
          (λ goes.
          let same = along-walks (walks_in_sequence (at_call s pid p) (at_next_line p) (walks_of call)) (effect program_of (at_call s pid p) pid (at_next_line p) call) goes in
          passed (at_call s pid p) (at_next_line p) (walks_of call) number w place (omega (arith, more, counts, same)) found end)
          (calls-along program_of (at_call s pid p) pid (at_next_line p) call plain)

  -- the decision about the last walk determines the answer
  pub last-decides : number ≡ r.walks → Ends (judgement s.tree p.table place w.needed) r.outcome
  last-decides last = (answer-decides program_of s pid p call at w place end (ap (walk_number (walks_of call)) (sym last) ∙ found)).0 plain

  -- if the last place is allowed, the table does not refuse the call
  pub allowed-silent : number ≡ r.walks → is_allowed (judgement s.tree p.table place w.needed) ≡ true → is_by_table r.outcome ≡ false
  allowed-silent last allowed = by (judgement s.tree p.table place w.needed) allowed (last-decides last)
    where
      of : (o : Outcome) → r.outcome ≡ o → NotByTable o → is_by_table o ≡ false
      of (Failed errno (ByUnveil entry)) is none = absurd (none errno entry refl)
      of (Failed errno Locked) is none =
          let lock = (lock-refuses-exactly program_of s pid p call errno at).0 is in
          let bad : true ≡ false = ap is_unveil (sym lock.unveils) ∙ plain in cc bad
      of (Failed errno Plain) is none = refl
      of (Failed errno (ByPromise b)) is none = refl
      of (Value n) is none = refl
      of (Text taken) is none = refl
      of (Killed b) is none = refl
      of Exited is none = refl
      of Blocked is none = refl
      of Gone is none = refl

      by : (j : Judgement) → is_allowed j ≡ true → Ends j r.outcome → is_by_table r.outcome ≡ false
      by Allowed passes how = of r.outcome refl how
      by Hidden passes how = cc passes
      by (Denied k) passes how = cc passes

  pub refused-reported : number ≡ r.walks → is_allowed (judgement s.tree p.table place w.needed) ≡ false → is_by_table r.outcome ≡ true
  refused-reported last stops = by (judgement s.tree p.table place w.needed) stops (last-decides last)
    where
      by : (j : Judgement) → is_allowed j ≡ false → Ends j r.outcome → is_by_table r.outcome ≡ true
      by Allowed stops how = cc stops
      by Hidden stops how = ap is_by_table how
      by (Denied k) stops how = ap is_by_table how

  pub refusal-reported : next p ≡ calls_for call → number ≤ r.walks → (¬ HasTableLine program_of s pid call number) ↔ Permits s.tree p.table place w.needed
  refusal-reported is within =
      ⊎_elim
      (λ last. (
        λ silent. (permitted s.tree p.table place w.needed).1 (quiet last silent (is_allowed (judgement s.tree p.table place w.needed)) refl),
        λ permits has.
            let bad : true ≡ false = sym (ap reports_of_table (sym (lines-of program_of s pid p call at is)) ∙ has.0) ∙ table-lines program_of s pid p call at
            ∙ allowed-silent last ((permitted s.tree p.table place w.needed).0 permits) in
            cc bad,
      ))
      (λ other. (
        λ silent. (permitted s.tree p.table place w.needed).1 (beyond-allowed (less other)),
        λ permits has. other has.1,
      ))
      (cases_eq number r.walks)
    where
      less : (number ≡ r.walks → ⊥) → number < r.walks
      less other = ⊎_elim (λ few. few) (λ many. absurd (other (omega (arith, within, many)))) (cases_lt number r.walks)

      quiet : number ≡ r.walks → (¬ HasTableLine program_of s pid call number) → (b : Bool) → is_allowed (judgement s.tree p.table place w.needed) ≡ b → is_allowed (judgement s.tree p.table place w.needed) ≡ true
      quiet last silent true allowed = allowed
      quiet last silent false stops =
          absurd (silent (ap reports_of_table (lines-of program_of s pid p call at is) ∙ table-lines program_of s pid p call at ∙ refused-reported last stops, last))
