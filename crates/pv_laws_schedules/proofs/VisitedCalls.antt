-- The calls of visited states: each call after a schedule is shown by one of them, and each of them is the last call of a
-- schedule.
use Rattle.std.proofs.Common.{◌≡◌, ◌∙◌, sym, ap, subst, ℕ, false, not, List, [], ◌∷◌, ◌++◌, map, flat_map, Contains, Option, Some, is_some, inl, inr, refl}
use Rattle.pv_model.specs.declared.call.Call.{Call}
use Rattle.pv_model.specs.Machine.{answer, Found, Move, move, moves_of, asked_by, is_refused, Observation, observed, of_next, of_process, of_calls, groups, Request, Requests, program_numbers, Bytes, Next, calls_for, next, Program, Process, State, process_at, step}
use Rattle.pv_model.specs.Answers.Observed.{observations_at}
use Rattle.pv_model.specs.Answers.Policy.{granted_calls, request_program_key, request}
use Rattle.pv_laws_answers.proofs.CompleteSearches.{among-contains}
use Rattle.pv_laws_answers.proofs.Lists.{Among, among-filter, among-flat, among-map, map-among}
use Rattle.pv_laws_answers.proofs.SoundStates.{IsSound}
use Rattle.pv_laws_classes.specs.Shown.{Shown, ShownCall, shown_call}
use Rattle.pv_laws_classes.proofs.StateSearches.{own-move}
use Rattle.pv_laws_schedules.proofs.KeyGroups.{HasGroup, grouped, in-group, of-group, same-programs}
use Rattle.pv_laws_schedules.proofs.ReportedObservations.{IsMade, made-in, IsOfCall, of-call}
use Rattle.pv_laws_schedules.proofs.ShownStates.{AreSound, IsSeenIn}

module _ (program_of : Bytes → Option Program) where
  abbrev pub asks : State → ℕ → Process → Call → Request
  asks u pid p call = record { before = u; process = p; call = call; asked = asked_by u p call (answer program_of u pid call) }

  -- the next calls of the live processes of states
  abbrev pub requests_of : List Found → Requests
  requests_of fs = flat_map (observations_at (of_calls (request program_of)) program_of) fs

  -- these calls by program
  abbrev pub programs_of : List Found → List (Observation Request × Requests)
  programs_of fs = groups request_program_key (requests_of fs)

  abbrev pub calls_at : State → ℕ → List Request
  calls_at u pid = of_calls (request program_of) u pid (step program_of u pid)

  call-at : (u : State) (pid : ℕ) (r : Request) → Among r (calls_at u pid) → IsOfCall (request program_of) u pid (step program_of u pid) r
  call-at u pid r h = of-call (request program_of) u pid (step program_of u pid) r h

  -- ---- each call after a schedule is shown

  -- a call that shows the same
  pub record IsRequested (rs : Requests) (u : State) (pid : ℕ) (p : Process) (call : Call) : Type 0 where
    pub shown_by : Observation Request
    pub within : Among shown_by rs
    pub same : shown_call shown_by.item ≡ shown_call (asks u pid p call)
    pub outcome : shown_by.move.stepped.outcome ≡ (step program_of u pid).outcome

  pub own-call : (u : State) (pid : ℕ) (p : Process) (call : Call) → process_at u pid ≡ Some p → next p ≡ calls_for call
      → Among (asks u pid p call) (calls_at u pid)
  own-call u pid p call live is =
      let now = step program_of u pid in
      subst (λ (o : Option Process). Among (asks u pid p call) (of_process (request program_of) u pid now o)) (sym live)
      (subst (λ (n : Next). Among (asks u pid p call) (of_next (request program_of) u pid now p n)) (sym is) (inl refl))

  pub requested : (fs : List Found) (u : State) (pid : ℕ) (p : Process) (call : Call) → IsSeenIn program_of fs u pid
      → process_at u pid ≡ Some p → next p ≡ calls_for call → IsRequested (requests_of fs) u pid p call
  requested fs u pid p call seen live is =
      let g = seen.0 in
      let m = move program_of g pid in
      let own = asks u pid p call in
      let shown_there : Among (shown_call own) (map shown_call (calls_at g.state pid)) =
      subst (λ (cs : List ShownCall). Among (shown_call own) cs) (sym (ap (λ x. x.calls) seen.2))
      (among-map shown_call own (calls_at u pid) (own-call u pid p call live is)) in
      let there = map-among shown_call (shown_call own) (calls_at g.state pid) shown_there in
      let lives = ap is_some (call-at g.state pid there.0 there.1).live in
      record {
        shown_by = observed m there.0;
        within =
            among-flat (observations_at (of_calls (request program_of)) program_of) g (observed m there.0) fs seen.1
            (among-flat (λ (m : Move). map (observed m) (of_calls (request program_of) g.state m.pid m.stepped)) m (observed m there.0)
            (moves_of program_of g) (own-move program_of g pid lives)
            (among-map (observed m) there.0 (calls_at g.state pid) there.1));
        same = sym there.2;
        outcome = ap (λ (x : Shown). x.outcome) seen.2;
      }

  module _ {rs : Requests} {u : State} {pid : ℕ} {p : Process} {call : Call} (it : IsRequested rs u pid p call) where
    same-key : request_program_key it.shown_by ≡ program_numbers p.program
    same-key = ap (λ (c : ShownCall). program_numbers c.program) it.same

    -- its program is listed
    pub program-listed : (group : Observation Request × Requests) × Contains (groups request_program_key rs) group × (group.0.item.process.program ≡ p.program)
    program-listed =
        let own : HasGroup request_program_key rs it.shown_by = grouped request_program_key rs it.shown_by it.within in (
          own.group,
          among-contains own.group (groups request_program_key rs) own.listed,
          same-programs u.tree own.group.0.item.process.program p.program (own.same ∙ same-key),
        )

    -- it is one of its program
    pub of-program : (group : Observation Request × Requests) → Among group (groups request_program_key rs) → p.program ≡ group.0.item.process.program
        → Among it.shown_by group.1
    of-program group listed same = in-group request_program_key rs group listed it.shown_by it.within (same-key ∙ ap program_numbers same)

    -- if it was not refused, it is a granted call
    pub granted-requested : is_refused (step program_of u pid).outcome ≡ false → IsRequested (granted_calls rs) u pid p call
    granted-requested granted = record {
      shown_by = it.shown_by;
      within =
          among-filter (λ (r : Observation Request). not (is_refused r.move.stepped.outcome)) it.shown_by rs it.within
          (ap not (ap is_refused it.outcome ∙ granted));
      same = it.same;
      outcome = it.outcome;
    }

  -- ---- each call of a visited state is the last of a schedule

  -- a call after the witness of a state
  pub record IsLastCall (s : State) (r : Observation Request) : Type 0 where
    pub from : Found
    pub sound : IsSound program_of s from
    pub process : Process
    pub call : Call
    pub live : process_at from.state r.move.pid ≡ Some process
    pub calls : next process ≡ calls_for call
    pub witness : r.move.witness ≡ from.witness ++ r.move.pid ∷ []
    pub same : r.item ≡ asks from.state r.move.pid process call
    pub stepped : r.move.stepped ≡ step program_of from.state r.move.pid

  pub last-call : (s : State) (fs : List Found) → AreSound program_of s fs → (r : Observation Request) → Among r (requests_of fs) → IsLastCall s r
  last-call s fs sound r h =
      let made : IsMade (of_calls (request program_of)) program_of fs r = made-in (of_calls (request program_of)) program_of s fs sound r h in
      let of = call-at made.from.state r.move.pid r.item made.item in
      record {
        from = made.from;
        sound = sound made.from made.within;
        process = of.process;
        call = of.call;
        live = of.live;
        calls = of.calls;
        witness = ap (λ (m : Move). m.witness) made.is;
        same = only of.has;
        stepped = ap (λ (m : Move). m.stepped) made.is;
      }
    where
      only : {x y : Request} → Among x (y ∷ []) → x ≡ y
      only (inl e) = e
      only (inr none) = absurd none

  -- each call of a program is shown too
  pub last-call_of : (s : State) (fs : List Found) → AreSound program_of s fs
      → (group : Observation Request × Requests) → Among group (programs_of fs) → (r : Observation Request) → Among r group.1 → IsLastCall s r
  last-call_of s fs sound group listed r h = last-call s fs sound r (of-group request_program_key (requests_of fs) group listed r h).0
