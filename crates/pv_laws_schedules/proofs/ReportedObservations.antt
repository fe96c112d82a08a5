-- Each reported observation is made by its witness, a shortest one.
use Rattle.std.proofs.Common.{◌≡◌, ◌∙◌, sym, ap, subst, ℕ, suc, ◌≤◌, Bool, true, false, if◌then◌else◌, List, [], ◌∷◌, ◌++◌, length, length-append, Contains, flat_map, map, Option, None, Some, is_some, ◌⊎◌, inl, inr, refl, arith}
use Rattle.pv_model.specs.declared.call.Call.{Call}
use Rattle.pv_model.specs.Machine.{accesses, Found, Move, move, moves_of, states_found, AnswerLine, answer_line_bytes, Numbers, Observer, Observation, observed, observations, first_observations, of_next, of_process, of_calls, Bytes, Next, inside, calls_for, next, Program, Process, State, process_at, Stepped, step, run, Tree}
use Rattle.pv_model.specs.Answers.Access.{Access}
use Rattle.pv_model.specs.Answers.Observed.{CallObserver, observations_at}
use Rattle.pv_model_questions.specs.AboutFiles.{keeps_access}
use Rattle.pv_model_questions.specs.Accesses.{access_line, lines_of_access, lines_of_accesses, reported_accesses}
use Rattle.pv_laws_answers.specs.Search.{IsSearchable}
use Rattle.pv_laws_answers.specs.Witnesses.{AreSteps}
use Rattle.pv_laws_answers.proofs.CompleteSearches.{among-contains}
use Rattle.pv_laws_answers.proofs.Lists.{Among, each-among, each-from_among, among-map, map-among, among-flat, flat-among}
use Rattle.pv_laws_answers.proofs.NewKeys.{new-came, new-first, new-differ}
use Rattle.pv_laws_answers.proofs.SoundStates.{made-by, witness-more}
use Rattle.pv_laws_answers.proofs.WitnessOrders.{to_later-weaker}
use Rattle.pv_laws_schedules.specs.Access.{IsFirstObserved, IsAccessLine, IsListedAccess, ListedAccessesHappen}
use Rattle.pv_laws_classes.proofs.ReducedProcesses.{themselves}
use Rattle.pv_laws_schedules.proofs.ReachedStates.{ReachedIn, own-move, reached, rising, sound-at}
use Rattle.pv_laws_schedules.proofs.RisingLists.{IsRising, rising-flat}
use Rattle.pv_laws_schedules.proofs.ShownStates.{AreSound}

module _ {X : Type 0} (observe : Observer X) (program_of : Bytes → Option Program) where
  -- an observation is made at one of the states
  pub record IsMade (fs : List Found) (o : Observation X) : Type 0 where
    pub from : Found
    pub within : Among from fs
    pub process : Process
    pub lives : process_at from.state o.move.pid ≡ Some process
    pub is : o.move ≡ move program_of from o.move.pid
    pub item : Among o.item (observe from.state o.move.pid (step program_of from.state o.move.pid))

  module _ (s : State) (fs : List Found) (sound : AreSound program_of s fs) where
    made-at : (f : Found) → Among f fs → (o : Observation X) → Among o (observations_at observe program_of f) → IsMade fs o
    made-at f within o h =
        let of = flat-among (λ (m : Move). map (observed m) (observe f.state m.pid m.stepped)) o (moves_of program_of f) h in
        let item = map-among (observed of.0) o (observe f.state of.0.pid of.0.stepped) of.2 in
        let made = made-by program_of s f of.0 (sound f within).whole of.1 in
        let same : of.0 ≡ o.move = sym (ap (λ (q : Observation X). q.move) item.2) in
        record {
          from = f;
          within = within;
          process = made.0;
          lives = ap (λ (m : Move). process_at f.state m.pid) (sym same) ∙ made.1;
          is = sym same ∙ made.2 ∙ ap (λ (m : Move). move program_of f m.pid) same;
          item = subst (λ (m : Move). Among o.item (observe f.state m.pid (step program_of f.state m.pid))) same
              (subst (λ (st : Stepped). Among o.item (observe f.state of.0.pid st)) (ap (λ (m : Move). m.stepped) made.2)
              (subst (λ (x : X). Among x (observe f.state of.0.pid of.0.stepped)) (sym (ap (λ (q : Observation X). q.item) item.2)) item.1));
        }

    pub made-in : (o : Observation X) → Among o (flat_map (observations_at observe program_of) fs) → IsMade fs o
    made-in o h = let from = flat-among (observations_at observe program_of) o fs h in made-at from.0 from.1 o from.2

module _ {X : Type 0} (observe : Observer X) (program_of : Bytes → Option Program) (limit : ℕ) (s : State) (it : IsSearchable program_of limit s) where
  abbrev found : List Found
  found = states_found program_of limit s

  abbrev pub all : List (Observation X)
  all = observations observe program_of limit s

  abbrev IsMadeAt : Observation X → Type 0
  IsMadeAt o = IsMade observe program_of found o

  made : (o : Observation X) → Among o all → IsMadeAt o
  made o h = made-in observe program_of s found (sound-at program_of limit s it) o h

  made-size : (o : Observation X) (own : IsMadeAt o) → length o.move.witness ≡ suc (length own.from.witness)
  made-size o own = ap (λ (m : Move). length m.witness) own.is ∙ (omega (arith, length-append own.from.witness (o.move.pid ∷ [])))

  -- ---- the order of observations

  abbrev pub steps_of : Observation X → ℕ
  steps_of o = length o.move.witness

  at-size : (f : Found) → Among f found → (o : Observation X) → Among o (observations_at observe program_of f) → steps_of o ≡ suc (length f.witness)
  at-size f within o h =
      let of = flat-among (λ (m : Move). map (observed m) (observe f.state m.pid m.stepped)) o (moves_of program_of f) h in
      let item = map-among (observed of.0) o (observe f.state of.0.pid of.0.stepped) of.2 in
      let own = made-by program_of s f of.0 (sound-at program_of limit s it f within).whole of.1 in
      ap steps_of item.2 ∙ ap (λ (m : Move). length m.witness) own.2 ∙ (omega (arith, length-append f.witness (of.0.pid ∷ [])))

  pub order : IsRising steps_of all
  order =
      rising-flat (λ (f : Found). suc (length f.witness)) steps_of (observations_at observe program_of) found
      (to_later-weaker (λ f g. length f.witness ≤ length g.witness) (λ f g. suc (length f.witness) ≤ suc (length g.witness)) found
      (λ f g h k le. omega (arith, le)) (rising program_of limit s it))
      at-size

  -- an observer of live processes alone
  abbrev pub IsOfLive : Type 0
  IsOfLive = (t : State) (pid : ℕ) (x : X) → process_at t pid ≡ None → Among x (observe t pid (step program_of t pid)) → ⊥

  -- an observation that is no longer than each observation of an item is no longer than a schedule to this item
  pub shortest-to : IsOfLive → (o : Observation X) → Among o all → (pids : List ℕ) (pid : ℕ) (x : X)
      → Among x (observe (run program_of pids s).final pid (step program_of (run program_of pids s).final pid))
      → ((q : Observation X) → Among q all → q.item ≡ x → steps_of o ≤ steps_of q) → steps_of o ≤ suc (length pids)
  shortest-to of_live o within pids pid x has first = from (reached program_of limit s it pids)
    where
      from : ReachedIn program_of limit s it (length pids) (run program_of pids s).final → steps_of o ≤ suc (length pids)
      from (inr many) =
          let own = made o within in
          omega (arith, made-size o own, each-among (λ (g : Found). length g.witness ≤ length pids) found many own.from own.within)
      from (inl here) = by (process_at here.0.state pid) refl
        where
          there : Among x (observe here.0.state pid (step program_of here.0.state pid))
          there = subst (λ (u : State). Among x (observe u pid (step program_of u pid))) (sym here.2) has

          by : (p : Option Process) → process_at here.0.state pid ≡ p → steps_of o ≤ suc (length pids)
          by None gone = absurd (of_live here.0.state pid x gone there)
          by (Some p) lives =
              let m = move program_of here.0 pid in
              let own = among-flat (λ (m : Move). map (observed m) (observe here.0.state m.pid m.stepped)) m (observed m x) (moves_of program_of here.0)
              (own-move program_of limit s it here.0 pid p lives) (among-map (observed m) x (observe here.0.state pid (step program_of here.0.state pid)) there) in
              let le = first (observed m x) (among-flat (observations_at observe program_of) here.0 (observed m x) found here.1 own) refl in
              omega (arith, le, length-append here.0.witness (pid ∷ []), here.3)

  -- ---- the first observation of each item

  module _ (key : X → Numbers) where
    abbrev pub reported : List (Observation X)
    reported = first_observations key all

    pub first-observed : IsOfLive → (o : Observation X) → Among o reported → IsFirstObserved observe key program_of s o
    first-observed of_live o h =
        let within = new-came (λ (q : Observation X). key q.item) [] all o h in
        let own = made o within in
        let sound = sound-at program_of limit s it own.from own.within in
        let witness : o.move.witness ≡ own.from.witness ++ o.move.pid ∷ [] = ap (λ (m : Move). m.witness) own.is in
        let leads : (run program_of own.from.witness s).final ≡ own.from.state = sound.witness.leads in
        let last : o.move.stepped ≡ step program_of own.from.state o.move.pid = ap (λ (m : Move). m.stepped) own.is in
        record {
          before = own.from.witness;
          witness = witness;
          steps = subst (λ (w : List ℕ). AreSteps program_of w s) (sym witness) (witness-more program_of s own.from.state own.from.witness o.move.pid sound.witness (ap is_some own.lives)).steps;
          last = last ∙ ap (λ u. step program_of u o.move.pid) (sym leads);
          item = subst (λ (st : Stepped). Contains (observe (run program_of own.from.witness s).final o.move.pid st) o.item) (sym last)
              (subst (λ (u : State). Contains (observe u o.move.pid (step program_of own.from.state o.move.pid)) o.item) (sym leads)
              (among-contains o.item (observe own.from.state o.move.pid (step program_of own.from.state o.move.pid)) own.item));
          shortest = λ pids pid x has same.
              omega (
                arith,
                made-size o own,
                shortest-to of_live o within pids pid x
                    (themselves (observe (run program_of pids s).final pid (step program_of (run program_of pids s).final pid)) x has)
                    (λ q k is. no-later q k (ap key is ∙ same)),
              );
        }
      where
        no-later : (q : Observation X) → Among q all → key q.item ≡ key o.item → steps_of o ≤ steps_of q
        no-later q k same =
            by (new-first (λ (q : Observation X). key q.item) (λ p q. steps_of p ≤ steps_of q) [] all order o h q k same)
          where
            by : (o ≡ q) ⊎ (steps_of o ≤ steps_of q) → steps_of o ≤ steps_of q
            by (inl e) = omega (arith, ap steps_of e)
            by (inr le) = le

-- ---- observers of calls

-- an item of a call, observed of a step
pub record IsOfCall {X : Type 0} (observe : CallObserver X) (s : State) (pid : ℕ) (now : Stepped) (x : X) : Type 0 where
  pub process : Process
  pub call : Call
  pub live : process_at s pid ≡ Some process
  pub calls : next process ≡ calls_for call
  pub has : Among x (observe s pid process call now)

pub of-call : {X : Type 0} (observe : CallObserver X) (s : State) (pid : ℕ) (now : Stepped) (x : X) → Among x (of_calls observe s pid now) → IsOfCall observe s pid now x
of-call {X} observe s pid now x h = by (process_at s pid) refl h
  where
    by-next : (p : Process) → process_at s pid ≡ Some p → (n : Next) → next p ≡ n → Among x (of_next observe s pid now p n) → IsOfCall observe s pid now x
    by-next p live (inside q) is none = absurd none
    by-next p live (calls_for call) is has = record { process = p; call = call; live = live; calls = is; has = has }

    by : (o : Option Process) → process_at s pid ≡ o → Among x (of_process observe s pid now o) → IsOfCall observe s pid now x
    by None gone none = absurd none
    by (Some p) live has = by-next p live (next p) refl has

pub calls-of-live : {X : Type 0} (observe : CallObserver X) (program_of : Bytes → Option Program) (t : State) (pid : ℕ) (x : X)
    → process_at t pid ≡ None → Among x (of_calls observe t pid (step program_of t pid)) → ⊥
calls-of-live observe program_of t pid x none h =
    let it = of-call observe t pid (step program_of t pid) x h in
    let both : Some it.process ≡ None = sym it.live ∙ none in absurd (cc)

-- ---- accesses

-- a line among those of an access is its line, and is kept
kept-line : (files : List Bytes) (first before after : Tree) (pid : ℕ) (a : Access) (l : AnswerLine) → Among l (lines_of_access files first before after pid a)
    → (keeps_access files first before after a ≡ true) × (l ≡ access_line first before after pid a)
kept-line files first before after pid a l = by (keeps_access files first before after a) refl
  where
    by : (b : Bool) → keeps_access files first before after a ≡ b → Among l (if b then access_line first before after pid a ∷ [] else [])
        → (keeps_access files first before after a ≡ true) × (l ≡ access_line first before after pid a)
    by true kept (inl is) = (kept, is)
    by true kept (inr none) = absurd none
    by false left none = absurd none

pub accesses-happen : ListedAccessesHappen
accesses-happen program_of limit s files it = record {
  happen = each-from_among (IsListedAccess program_of s files) (reported_accesses program_of limit s files) listed;
  once = new-differ (λ (o : Observation AnswerLine). answer_line_bytes o.item) [] (observations (of_calls (lines_of_accesses files s.tree)) program_of limit s);
}
  where
    line : (t : State) (pid : ℕ) (now : Stepped) → now ≡ step program_of t pid → (l : AnswerLine) → Contains (of_calls (lines_of_accesses files s.tree) t pid now) l
        → IsAccessLine program_of files s.tree t pid l
    line t pid now is l has =
        let observe = lines_of_accesses files s.tree in
        let own = step program_of t pid in
        let call = of-call observe t pid own l (subst (λ (st : Stepped). Among l (of_calls observe t pid st)) is (themselves (of_calls observe t pid now) l has)) in
        let access = flat-among (lines_of_access files s.tree t.tree own.after.tree pid) l (accesses t pid call.process call.call own) call.has in
        let kept = kept-line files s.tree t.tree own.after.tree pid access.0 l access.2 in
        record {
          process = call.process;
          call = call.call;
          access = access.0;
          live = call.live;
          calls = call.calls;
          happens = among-contains access.0 (accesses t pid call.process call.call own) access.1;
          kept = kept.0;
          line = kept.1;
        }

    listed : (o : Observation AnswerLine) → Among o (reported_accesses program_of limit s files) → IsListedAccess program_of s files o
    listed o h =
        let first = first-observed (of_calls (lines_of_accesses files s.tree)) program_of limit s it answer_line_bytes (calls-of-live (lines_of_accesses files s.tree) program_of) o h in
        record { first = first; access = line (run program_of first.before s).final o.move.pid o.move.stepped first.last o.item first.item }
