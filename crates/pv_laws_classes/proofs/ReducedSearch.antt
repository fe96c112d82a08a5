-- The reduced search is a search: the visited states and the reported steps.
use Rattle.std.proofs.Common.{◌≡◌, ◌≢◌, ◌↔◌, ◌∙◌, sym, ap, ap₂, subst, ℕ, suc, ◌≤◌, Bool, true, false, if◌then◌else◌, ◌==◌, cond, List, [], ◌∷◌, ◌++◌, length, filter, Option, is_some, refl, arith}
use Rattle.std.proofs.lemmas.Bool.{and_parts, and_from, eqb-true, eq-eqb}
use Rattle.pv_model.specs.Machine.{Found, Move, found_by, move, moves_of, move_text, has_ended, endings, same_state, Bytes, named_tree, Program, State, process_at, step, run, trace_bytes}
use Rattle.pv_model.specs.Step.{final_tree}
use Rattle.pv_laws_states.specs.States.{EncodesPrograms, IsValid}
use Rattle.pv_laws_answers.specs.Search.{IsSearchable, text_of_step, CanHappen, EndsIn}
use Rattle.pv_laws_answers.specs.Witnesses.{AreSteps, IsWitness}
use Rattle.pv_laws_answers.proofs.CompleteSearches.{among-contains}
use Rattle.pv_laws_answers.proofs.Lists.{Among, each-from_among, among-filter, filter-among}
use Rattle.pv_laws_answers.proofs.LiveProcesses.{moves-ascending}
use Rattle.pv_laws_answers.proofs.StateDecoding.{reported-apart}
use Rattle.pv_laws_answers.proofs.SearchInvariant.{Ascending, visited, Decides}
use Rattle.pv_laws_answers.proofs.SoundStates.{IsSound}
use Rattle.pv_laws_classes.specs.Reduced.{representative, bound_by, may_step, bound_after, AreReducedFrom, AreReduced, bound_at, reduced_moves_of, are_identified, reduced_found, reduced_reported, is_reduced_complete, AreNotIdentified, ReducedStatesAreReached, EachTextIsReportedReduced, HasShortestWitness, ReducedWitnessesAreShortest, ReducedEndingsHappen, ReducedEndingsAreAll}
use Rattle.pv_laws_classes.specs.Together.{is_step_on_registers}
use Rattle.pv_laws_answers.proofs.WitnessOrders.{to_later-weaker, no_later-longer}
use Rattle.pv_laws_classes.proofs.ReducedClasses.{representative-states, representative-on_registers}
use Rattle.pv_laws_classes.proofs.ReducedSchedules.{bound-last, reduced-parts, reduced-more, reaches-each, reaches-endings}
use Rattle.pv_laws_classes.proofs.RegisterSteps.{no-lines}
use Rattle.pv_laws_classes.proofs.StateSearches.{state-search, own-move, end}
use Rattle.pv_laws_classes.proofs.VisitedStates.{IsSearch, IsReached, begins, goes_on, AreMade, made-reached, made, sound-reached, endings-differ, found, finished, reached-at, sound-at, can-happen, least, reported-once, reported-order, text-found, ends-in, text-reported, ending-found}

-- ---- steps that pass a test are in the order of all steps

ascending-later : (w : List ℕ) (low next : ℕ) (ms : List Move) → low ≤ next → Ascending w next ms → Ascending w low ms
ascending-later w low next [] le a = tt
ascending-later w low next (m ∷ ms) le a = (a.0, omega (arith, le, a.1), a.2)

ascending-filter : (test : Move → Bool) (w : List ℕ) (low : ℕ) (ms : List Move) → Ascending w low ms → Ascending w low (filter test ms)
ascending-filter test w low [] a = tt
ascending-filter test w low (m ∷ ms) a = by (test m) (ascending-filter test w (suc m.pid) ms a.2)
  where
    by : (b : Bool) → Ascending w (suc m.pid) (filter test ms) → Ascending w low (cond b (m ∷ filter test ms) (filter test ms))
    by true rest = (a.0, a.1, rest)
    by false rest = ascending-later w low (suc m.pid) (filter test ms) (let le = a.1 in omega (arith, le)) rest

-- ---- the search

module _ (program_of : Bytes → Option Program) (s : State) where
  -- the process that must make the next step, and the representative
  abbrev pub reduced_class : Found → ℕ × State
  reduced_class f = (bound_at program_of s f, representative f.state)

  both-same : (f g : Found) → bound_at program_of s f ≡ bound_at program_of s g → representative f.state ≡ representative g.state → reduced_class f ≡ reduced_class g
  both-same f g bound same = λ i. (bound i, same i)

  same-bound : (f g : Found) → reduced_class f ≡ reduced_class g → bound_at program_of s f ≡ bound_at program_of s g
  same-bound f g same = ap (λ (c : ℕ × State). c.0) same

  same-states : (f g : Found) → reduced_class f ≡ reduced_class g → representative f.state ≡ representative g.state
  same-states f g same = ap (λ (c : ℕ × State). c.1) same

  decided : Decides reduced_class (are_identified program_of s)
  decided f g = (one, λ same. and_from _ _ (eq-eqb _ _ (same-bound f g same)) (equal.1 (same-states f g same)))
    where
      equal : (same_state (representative f.state) (representative g.state) ≡ true) ↔ (representative f.state ≡ representative g.state)
      equal = reported-apart (representative f.state) (representative g.state)

      one : are_identified program_of s f g ≡ true → reduced_class f ≡ reduced_class g
      one is =
          let parts = and_parts (bound_at program_of s f == bound_at program_of s g) (same_state (representative f.state) (representative g.state)) is in
          both-same f g (eqb-true _ _ parts.0) (equal.0 parts.1)

  abbrev may_make : Found → Move → Bool
  may_make f m = may_step (bound_at program_of s f) m.pid

  -- a step of a process on registers bounds the next step
  bound-next : (f : Found) (m : Move) → IsSound program_of s f → m.witness ≡ f.witness ++ m.pid ∷ [] → bound_at program_of s (found_by m) ≡ bound_by f.state m.pid
  bound-next f m sound witness = ap (bound_after program_of s) witness ∙ bound-last program_of f.witness m.pid s ∙ ap (λ u. bound_by u m.pid) sound.witness.leads

  abbrev pub IsReducedSearch : Type 0
  IsReducedSearch = IsSearch program_of s reduced_class (are_identified program_of s) (reduced_moves_of program_of s)

  pub reduced-search : EncodesPrograms program_of → IsValid s → IsReducedSearch
  reduced-search encodes whole =
      let all = state-search program_of representative encodes (representative-states program_of encodes) s whole in
      record {
        encodes = encodes;
        whole = whole;
        decides = decided;
        ascending = λ f sound. ascending-filter (may_make f) f.witness 0 (moves_of program_of f) (moves-ascending program_of f sound.whole.processes.ascending);
        lives = λ f m within. (filter-among (may_make f) m (moves_of program_of f) within).0;
        like = λ f g m sound_f sound_g same within.
            let parts = filter-among (may_make f) m (moves_of program_of f) within in
            let states = same-states g f same in
            let own = all.like f g m sound_f sound_g states parts.0 in
            let bound : bound_by g.state own.0.pid ≡ bound_by f.state m.pid =
            ap (bound_by g.state) own.2.pid ∙ ap (λ b. if b then m.pid else 0) (representative-on_registers g.state f.state m.pid sound_g.whole sound_f.whole states)
            in (
              own.0,
              among-filter (may_make g) own.0 (moves_of program_of g) own.1 (ap₂ may_step (same-bound g f same) own.2.pid ∙ parts.1),
              record {
                pid = own.2.pid;
                lines = own.2.lines;
                after = both-same (found_by own.0) (found_by m)
                    (bound-next g own.0 sound_g (made all g own.0 sound_g own.1).witness ∙ bound ∙ sym (bound-next f m sound_f (made all f m sound_f parts.0).witness)) own.2.after;
              },
            );
        ending = record { same_test = λ f g same. all.ending.same_test f g (same-states f g same); same_key = λ f g same. all.ending.same_key f g (same-states f g same) };
      }

  module _ (it : IsReducedSearch) where
    -- ---- the reached states are those at the ends of reduced schedules

    reduced-made : (pids : List ℕ) (f : Found) → IsSound program_of s f → AreReducedFrom program_of (bound_at program_of s f) pids f.state → AreMade program_of (reduced_moves_of program_of s) pids f
    reduced-made [] f sound reduced = tt
    reduced-made (pid ∷ pids) f sound reduced =
        let m = move program_of f pid in
        let within = among-filter (may_make f) m (moves_of program_of f) (own-move program_of f pid reduced.1) reduced.0 in (
          within,
          reduced-made pids (found_by m) (made it f m sound within).sound
              (subst (λ bound. AreReducedFrom program_of bound pids (step program_of f.state pid).after) (sym (bound-next f m sound refl)) reduced.2),
        )

    pub reduced-reached : (pids : List ℕ) → AreReduced program_of pids s → IsReached program_of s (reduced_moves_of program_of s) (end program_of s pids)
    reduced-reached pids reduced =
        let start : Found = record { witness = []; state = s } in
        made-reached program_of s (reduced_moves_of program_of s) pids start begins (reduced-made pids start (sound-reached it start begins) reduced)

    pub reached-reduced : (f : Found) → IsReached program_of s (reduced_moves_of program_of s) f → AreReduced program_of f.witness s
    reached-reduced f begins = tt
    reached-reduced f (goes_on g m reached within) =
        let sound = sound-reached it g reached in
        let own = made it g m sound within in
        subst (λ (w : List ℕ). AreReduced program_of w s) (sym own.witness)
        (reduced-more program_of g.witness m.pid s (reached-reduced g reached) (filter-among (may_make g) m (moves_of program_of g) within).1
        (ap (λ u. is_some (process_at u m.pid)) sound.witness.leads ∙ own.lives))

    -- ---- each text of a schedule is that of a step that the search can make

    -- a reached state, and a step from it with the text of the last step of a schedule, no later than the schedule is long
    pub record HasReducedStep (pids : List ℕ) (pid : ℕ) : Type 0 where
      pub from : Found
      pub step : Move
      pub reached : IsReached program_of s (reduced_moves_of program_of s) from
      pub within : Among step (reduced_moves_of program_of s from)
      pub text : move_text step ≡ text_of_step program_of (run program_of pids s).final pid
      pub no_longer : length step.witness ≤ length (pids ++ pid ∷ [])

    pub reduced-step : (pids : List ℕ) (pid : ℕ) → AreSteps program_of (pids ++ pid ∷ []) s → text_of_step program_of (run program_of pids s).final pid ≢ [] → HasReducedStep pids pid
    reduced-step pids pid steps text =
        let ends = reaches-each program_of s pids pid it.encodes it.whole steps (off (is_step_on_registers (run program_of pids s).final pid) refl) in
        let parts = reduced-parts program_of ends.before pid s ends.reduced in
        let from = end program_of s ends.before in
        record {
          from = from;
          step = move program_of from pid;
          reached = reduced-reached ends.before parts.0;
          within = among-filter (may_make from) (move program_of from pid) (moves_of program_of from) (own-move program_of from pid parts.2) parts.1;
          text = ap trace_bytes ends.lines;
          no_longer = ends.no_longer;
        }
      where
        off : (b : Bool) → is_step_on_registers (run program_of pids s).final pid ≡ b → b ≡ false
        off true on = absurd (text (ap trace_bytes (no-lines program_of (run program_of pids s).final pid on)))
        off false on = refl

-- ---- the laws of one search

abbrev search_of : (program_of : Bytes → Option Program) (limit : ℕ) (s : State) → IsSearchable program_of limit s → IsReducedSearch program_of s
search_of program_of limit s it = reduced-search program_of s it.encodes it.whole

pub reduced-states : ReducedStatesAreReached
unfolding reduced_found visited
reduced-states program_of limit s it =
    let search = search_of program_of limit s it in
    let all = finished search limit it.room in
    record {
      reached = each-from_among (λ f. IsWitness program_of s f.witness f.state) (found search limit it.room) (λ f h. (sound-at search limit it.room f h).witness);
      are_reduced = each-from_among (λ f. AreReduced program_of f.witness s) (found search limit it.room) (λ f h. reached-reduced program_of s search f (reached-at search limit it.room f h));
      once = to_later-weaker (λ f g. reduced_class program_of s f ≢ reduced_class program_of s g) (AreNotIdentified program_of s) (found search limit it.room)
          (λ f g in_f in_g apart bound same. apart (both-same program_of s f g bound same)) all.different;
      in_order = all.rising;
      few = all.count;
    }

pub reduced-text : EachTextIsReportedReduced
unfolding reduced_found visited
reduced-text program_of limit s pids pid it complete steps text =
    let search = search_of program_of limit s it in
    let own = reduced-step program_of s search pids pid steps text in
    let m = text-reported search limit it.room complete own.from own.step own.reached own.within (λ none. text (sym own.text ∙ none)) in
    text-found search limit it.room (text_of_step program_of (run program_of pids s).final pid) m.0 m.1 (m.2 ∙ own.text)

pub reduced-shortest : (program_of : Bytes → Option Program) (limit : ℕ) (s : State) (it : IsSearchable program_of limit s) (m : Move) → Among m (reduced_reported program_of s limit)
    → HasShortestWitness program_of s m
unfolding reduced_found visited
reduced-shortest program_of limit s it m h pids pid steps text =
    let search = search_of program_of limit s it in
    let own = reduced-step program_of s search pids pid steps (λ none. (can-happen search limit it.room m h).text (sym text ∙ none)) in
    let no_later = least search limit it.room m h own.from own.step own.reached own.within (own.text ∙ text) in
    omega (arith, no_later-longer m.witness own.step.witness no_later, own.no_longer)

pub reduced-witnesses : ReducedWitnessesAreShortest
unfolding reduced_found visited
reduced-witnesses program_of limit s it =
    let search = search_of program_of limit s it in
    record {
      happen = each-from_among (CanHappen program_of s) (reduced_reported program_of s limit) (can-happen search limit it.room);
      once = reported-once search limit it.room;
      in_order = reported-order search limit it.room;
      shortest = each-from_among (HasShortestWitness program_of s) (reduced_reported program_of s limit) (reduced-shortest program_of limit s it);
    }

pub reduced-endings : ReducedEndingsHappen
unfolding reduced_found visited
reduced-endings program_of limit s it =
    let search = search_of program_of limit s it in
    record {
      happen = each-from_among (EndsIn program_of s) (endings (found search limit it.room)) (ends-in search limit it.room);
      once = endings-differ (found search limit it.room);
    }

pub reduced-ending_there : (program_of : Bytes → Option Program) (limit : ℕ) (s : State) (pids : List ℕ) → IsSearchable program_of limit s → is_reduced_complete program_of s limit ≡ true
    → AreSteps program_of pids s → has_ended (run program_of pids s).final ≡ true → Among (final_tree program_of pids s) (endings (reduced_found program_of s limit))
unfolding reduced_found visited
reduced-ending_there program_of limit s pids it complete steps ended =
    let search = search_of program_of limit s it in
    let form = reaches-endings program_of s pids it.encodes it.whole steps ended in
    subst (λ u. Among (named_tree u.tree) (endings (found search limit it.room))) form.final
    (ending-found search limit it.room complete (end program_of s form.form) (reduced-reached program_of s search form.form form.reduced) (ap has_ended form.final ∙ ended))

pub all-reduced_endings : ReducedEndingsAreAll
all-reduced_endings program_of limit s pids it complete steps ended =
    among-contains (final_tree program_of pids s) (endings (reduced_found program_of s limit)) (reduced-ending_there program_of limit s pids it complete steps ended)
