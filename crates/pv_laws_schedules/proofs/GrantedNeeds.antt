-- The promises and permissions that granted calls need.
use Rattle.std.proofs.Common.{◌≡◌, ◌∙◌, sym, ap, subst, ℕ, Bool, true, false, not, List, map, Contains, Option, Some, is_some, inl, refl}
use Rattle.pv_model.specs.declared.call.Call.{Call}
use Rattle.pv_model.specs.declared.outcome.Cause.TheVariants.{Plain, Promise as ByPromise, Unveil as ByUnveil, Locked}
use Rattle.pv_model.specs.declared.outcome.Outcome.{Outcome}
use Rattle.pv_model.specs.declared.outcome.Outcome.TheVariants.{Value, Text, Failed, Killed, Exited, Blocked, Gone}
use Rattle.pv_model.specs.Machine.{answer, Found, states_found, Judged, is_refused, Observation, observed, of_calls, of_next, of_process, Request, Bytes, Next, calls_for, next, Program, Process, State, process_at, Stepped, step, step_by, run}
use Rattle.pv_model.specs.Answers.Policy.{granted_calls, request_program_key, request, walks_asked}
use Rattle.pv_laws_access.proofs.ProcessesAfterEnds.{step-is}
use Rattle.pv_laws_answers.specs.ProcessImages.{with_own_table}
use Rattle.pv_laws_answers.specs.Wanted.{reports_of_table}
use Rattle.pv_laws_answers.specs.Witnesses.{AreSteps}
use Rattle.pv_laws_answers.proofs.CompleteSearches.{among-contains}
use Rattle.pv_laws_answers.proofs.Lists.{Among, filter-among, flat-among, map-among}
use Rattle.pv_laws_answers.proofs.SoundStates.{witness-more}
use Rattle.pv_laws_answers.proofs.RestraintLines.{is_by_table, lines-of, table-lines}
use Rattle.pv_laws_classes.specs.Reduced.{reduced_found}
use Rattle.pv_laws_classes.proofs.ReducedProcesses.{themselves}
use Rattle.pv_laws_schedules.specs.GrantedPolicy.{Calling, granted_programs, IsGranted, IsWalkOf, IsOfGranted, CallsGranted, NeedsNoMore, ListedNeedsAreGranted, ListedNeedsAreGrantedReduced, GrantedCallsNeedNoMore, GrantedCallsNeedNoMoreReduced}
use Rattle.pv_laws_schedules.specs.Policy.{needs_listed}
use Rattle.pv_laws_schedules.proofs.KeyGroups.{of-group}
use Rattle.pv_laws_schedules.proofs.NeededPermissions.{needed-last, permissions-suffice}
use Rattle.pv_laws_schedules.proofs.NeededPromises.{needs-of, promises-suffice, refused}
use Rattle.pv_laws_schedules.proofs.ReachedStates.{sound-at}
use Rattle.pv_laws_schedules.proofs.VisitedCalls.{requests_of, asks, IsRequested, requested, granted-requested, program-listed, IsLastCall, last-call}
use Rattle.pv_laws_schedules.proofs.ShownStates.{AreSound, IsSeenIn, seen-full, seen-reduced, reduced-sound}

-- a table that decides refuses
table-refuses : (o : Outcome) → is_by_table o ≡ true → is_refused o ≡ true
table-refuses (Failed errno (ByUnveil entry)) is = refl
table-refuses (Failed errno Locked) is = refl
table-refuses (Failed errno Plain) is = is
table-refuses (Failed errno (ByPromise a)) is = refl
table-refuses (Value n) is = is
table-refuses (Text taken) is = is
table-refuses (Killed a) is = refl
table-refuses Exited is = is
table-refuses Blocked is = is
table-refuses Gone is = is

module _ (program_of : Bytes → Option Program) where
  -- ---- granted calls ask for the listed needs

  module _ (s : State) (fs : List Found) (sound : AreSound program_of s fs) where
    last-granted : (r : Observation Request) → Among r (requests_of program_of fs) → is_refused r.move.stepped.outcome ≡ false → IsGranted program_of s r
    last-granted r h granted =
        let last = last-call program_of s fs sound r h in
        let u = last.from.state in
        let pid = r.move.pid in
        let leads : (run program_of last.from.witness s).final ≡ u = last.sound.witness.leads in
        let own : Among (asks program_of u pid last.process last.call) (of_calls (request program_of) u pid (step program_of u pid)) =
        subst (λ (o : Option Process). Among (asks program_of u pid last.process last.call) (of_process (request program_of) u pid (step program_of u pid) o)) (sym last.live)
        (subst (λ (n : Next). Among (asks program_of u pid last.process last.call) (of_next (request program_of) u pid (step program_of u pid) last.process n)) (sym last.calls) (inl refl)) in
        record {
          before = last.from.witness;
          witness = last.witness;
          steps = subst (λ (w : List ℕ). AreSteps program_of w s) (sym last.witness)
              (witness-more program_of s u last.from.witness pid last.sound.witness (ap is_some last.live)).steps;
          item = subst (λ (x : State). Contains (of_calls (request program_of) x pid (step program_of x pid)) r.item) (sym leads)
              (among-contains r.item (of_calls (request program_of) u pid (step program_of u pid))
              (subst (λ (q : Request). Among q (of_calls (request program_of) u pid (step program_of u pid))) (sym last.same) own));
          granted =
              ap (λ (x : State). is_refused (step program_of x pid).outcome) leads
              ∙ sym (ap (λ (x : Stepped). is_refused x.outcome) last.stepped) ∙ granted;
        }

    not-refused : (b : Bool) → not b ≡ true → b ≡ false
    not-refused true is = sym is
    not-refused false is = refl

    module _ (group : Calling) (listed : Among group (granted_programs (requests_of program_of fs))) where
      -- a call of the program is one of the search, and granted
      member : (r : Observation Request) → Among r group.1 → Among r (requests_of program_of fs) × (not (is_refused r.move.stepped.outcome) ≡ true)
      member r h =
          filter-among (λ (x : Observation Request). not (is_refused x.move.stepped.outcome)) r (requests_of program_of fs)
          (of-group request_program_key (granted_calls (requests_of program_of fs)) group listed r h).0

      last-of : (r : Observation Request) → Among r group.1 → IsLastCall program_of s r
      last-of r h = last-call program_of s fs sound r (member r h).0

      walk-of : (w : Observation Judged) → Among w (walks_asked group.1) → IsWalkOf program_of s group.1 w
      walk-of w h =
          let from = flat-among (λ (r : Observation Request). map (observed r.move) r.item.asked.walks) w group.1 h in
          let walk = map-among (observed from.0.move) w from.0.item.asked.walks from.2 in
          record {
            call = from.0;
            within = among-contains from.0 group.1 from.1;
            walk =
                among-contains w.item from.0.item.asked.walks
                (subst (λ (j : Judged). Among j from.0.item.asked.walks) (sym (ap (λ (o : Observation Judged). o.item) walk.2)) walk.1);
            move = ap (λ (o : Observation Judged). o.move) walk.2;
          }

      of-granted : IsOfGranted program_of s group
      of-granted = record {
        calls = λ r has. let h = themselves group.1 r has in let in_search = member r h in last-granted r in_search.0 (not-refused (is_refused r.move.stepped.outcome) in_search.1);
        needs_of = λ l has. let of = needs-of program_of group.1 l (themselves (needs_listed group.1) l has) in (among-contains l.1 group.1 of.within, of.has);
        walks_of = λ w has. walk-of w (themselves (walks_asked group.1) w has);
        less_promises = λ l set has unmet. refused program_of s group.1 last-of l (themselves (needs_listed group.1) l has) set unmet;
        less_permissions = λ r w table permission k within has covered but.
            let h = themselves group.1 r within in
            needed-last program_of s r group.1 w table permission k (last-of r h) h (themselves r.item.asked.walks w has) covered but;
      }

  -- ---- granted calls need no more

  outcome-is : (u : State) (pid : ℕ) (p : Process) (call : Call) → process_at u pid ≡ Some p → next p ≡ calls_for call → (step program_of u pid).outcome ≡ (answer program_of u pid call).outcome
  outcome-is u pid p call live is = ap (λ (w : Stepped). w.outcome) (step-is program_of u pid p live ∙ ap (step_by program_of u pid p) is)

  -- a call that is not refused has no UNVL line of a check
  quiet : (u : State) (pid : ℕ) (p : Process) (call : Call) → CallsGranted program_of u pid p call → reports_of_table (step program_of u pid).lines ≡ true → false ≡ true
  quiet u pid p call it reported =
      let decided : is_by_table (answer program_of u pid call).outcome ≡ true =
      sym (table-lines program_of u pid p call it.live) ∙ sym (ap reports_of_table (lines-of program_of u pid p call it.live it.calls)) ∙ reported in
      sym it.granted ∙ ap is_refused (outcome-is u pid p call it.live it.calls) ∙ table-refuses (answer program_of u pid call).outcome decided

  no-more : (fs : List Found) (u : State) (pid : ℕ) (p : Process) (call : Call) → IsSeenIn program_of fs u pid → CallsGranted program_of u pid p call
      → NeedsNoMore program_of u pid p call (requests_of program_of fs)
  no-more fs u pid p call seen it = record {
    listed = program-listed program_of (asked call it.calls);
    enough = λ group listed same. record {
      promises = λ set meets.
          promises-suffice program_of (granted_calls (requests_of program_of fs)) u pid p it.live asked group
          (themselves (granted_programs (requests_of program_of fs)) group listed) same set meets;
      permissions = λ table plain gives.
          unreported (reports_of_table (step program_of (with_own_table u pid table) pid).lines)
          (λ reported. quiet u pid p call it
          (permissions-suffice program_of (granted_calls (requests_of program_of fs)) u pid p call table (asked call it.calls) it.live it.calls group (themselves (granted_programs (requests_of program_of fs)) group listed) same plain gives reported).2);
    };
  }
    where
      asked : (other : Call) → next p ≡ calls_for other → IsRequested program_of (granted_calls (requests_of program_of fs)) u pid p other
      asked other is = granted-requested program_of (requested program_of fs u pid p other seen it.live is) it.granted

      unreported : (b : Bool) → (b ≡ true → false ≡ true) → b ≡ false
      unreported true bad = sym (bad refl)
      unreported false bad = refl

-- ---- the laws

pub listed-granted : ListedNeedsAreGranted
listed-granted program_of limit s group it listed =
    of-granted program_of s (states_found program_of limit s) (sound-at program_of limit s it) group
    (themselves (granted_programs (requests_of program_of (states_found program_of limit s))) group listed)

pub listed-granted_reduced : ListedNeedsAreGrantedReduced
listed-granted_reduced program_of limit s group it listed =
    of-granted program_of s (reduced_found program_of s limit) (reduced-sound program_of limit s it) group
    (themselves (granted_programs (requests_of program_of (reduced_found program_of s limit))) group listed)

pub calls-no_more : GrantedCallsNeedNoMore
calls-no_more program_of limit s pids pid p call it complete granted =
    no-more program_of (states_found program_of limit s) (run program_of pids s).final pid p call (seen-full program_of limit s it complete pids pid) granted

pub calls-no_more_reduced : GrantedCallsNeedNoMoreReduced
calls-no_more_reduced program_of limit s pids pid p call it complete steps granted =
    no-more program_of (reduced_found program_of s limit) (run program_of pids s).final pid p call
    (seen-reduced program_of limit s it complete pids pid p steps granted.live) granted
