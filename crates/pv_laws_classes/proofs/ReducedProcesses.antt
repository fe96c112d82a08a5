-- The reduced search and the full search see the same processes.
use Rattle.std.proofs.Common.{◌≡◌, ◌∙◌, sym, ap, ℕ, ◌≤◌, true, List, length, Contains, Option, is_some, arith}
use Rattle.pv_model.specs.Machine.{Found, move, moves_of, states_found, is_complete, Bytes, Program, State, process_at, run}
use Rattle.pv_laws_answers.specs.Search.{IsSearchable}
use Rattle.pv_laws_answers.specs.Witnesses.{AreSteps}
use Rattle.pv_laws_answers.proofs.CompleteSearches.{among-contains}
use Rattle.pv_laws_answers.proofs.ListedNeeds.{all-in}
use Rattle.pv_laws_answers.proofs.Lists.{Among, each-from_among, among-filter, filter-among}
use Rattle.pv_laws_answers.proofs.SearchInvariant.{visited}
use Rattle.pv_laws_answers.proofs.SoundStates.{IsSound}
use Rattle.pv_laws_classes.specs.Reduced.{may_step, bound_at, reduced_moves_of, reduced_found, is_reduced_complete}
use Rattle.pv_laws_classes.specs.Shown.{shown_in, IsSeen, AreSeenAmong}
use Rattle.pv_laws_answers.proofs.WitnessOrders.{no_later-longer}
use Rattle.pv_laws_classes.proofs.ReducedSchedules.{reduced-parts}
use Rattle.pv_laws_classes.proofs.ReducedSearch.{reduced_class, IsReducedSearch, reduced-search, reduced-reached}
use Rattle.pv_laws_classes.proofs.ShownSchedules.{IsInvariant, lives-shown, shown-after}
use Rattle.pv_laws_classes.proofs.StateSearches.{full-search, own-move, end, steps-reached}
use Rattle.pv_laws_classes.proofs.VisitedStates.{IsReached, like-move, sound-reached, sound-at, found-no_later}

-- an element of a list is in it
pub themselves : {X : Type 0} (xs : List X) → (x : X) → Contains xs x → Among x xs
themselves xs x has = all-in (λ y. Among y xs) xs x (each-from_among (λ y. Among y xs) xs (λ y h. h)) has

module _ (program_of : Bytes → Option Program) (s : State) (search : IsReducedSearch program_of s) (invariant : IsInvariant program_of) where
  -- a step that the search can make, of a process that shows the same as after a schedule that is no shorter
  pub record ReachesShown (pids : List ℕ) (pid : ℕ) : Type 0 where
    pub from : Found
    pub reached : IsReached program_of s (reduced_moves_of program_of s) from
    pub within : Among (move program_of from pid) (reduced_moves_of program_of s from)
    pub same : shown_in program_of from.state pid ≡ shown_in program_of (run program_of pids s).final pid
    pub no_longer : length from.witness ≤ length pids

  pub reaches-shown : (pids : List ℕ) (pid : ℕ) → AreSteps program_of pids s → is_some (process_at (run program_of pids s).final pid) ≡ true → ReachesShown pids pid
  reaches-shown pids pid steps lives =
      let own = shown-after program_of search.encodes invariant s pids pid search.whole steps lives in
      let parts = reduced-parts program_of own.before pid s own.reduced in
      let from = end program_of s own.before in
      record {
        from = from;
        reached = reduced-reached program_of s search own.before parts.0;
        within =
            among-filter (λ m. may_step (bound_at program_of s from) m.pid) (move program_of from pid) (moves_of program_of from)
            (own-move program_of from pid parts.2) parts.1;
        same = own.same;
        no_longer = own.no_longer;
      }

  -- a process shows the same in each state of a class
  pub shown-alike : (f g : Found) (pid : ℕ) → IsSound program_of s f → IsSound program_of s g → reduced_class program_of s g ≡ reduced_class program_of s f
      → shown_in program_of g.state pid ≡ shown_in program_of f.state pid
  shown-alike f g pid sound_f sound_g same = invariant.identified f.state g.state pid sound_f.whole sound_g.whole (sym (ap (λ (c : ℕ × State). c.1) same))

-- ---- the laws

pub each-seen : (program_of : Bytes → Option Program) → IsInvariant program_of
    → (limit : ℕ) (s : State) (pids : List ℕ) (pid : ℕ) → IsSearchable program_of limit s → is_reduced_complete program_of s limit ≡ true
    → AreSteps program_of pids s → is_some (process_at (run program_of pids s).final pid) ≡ true → IsSeen program_of limit s pids pid
unfolding reduced_found visited
each-seen program_of invariant limit s pids pid it complete steps lives =
    let search = reduced-search program_of s it.encodes it.whole in
    let own = reaches-shown program_of s search invariant pids pid steps lives in
    let there = found-no_later search limit it.room complete own.from own.reached in
    let sound = sound-reached search own.from own.reached in
    let sound_there = sound-at search limit it.room there.0 there.1 in
    let within = like-move search own.from there.0 pid sound sound_there there.2 own.within in
    let same = shown-alike program_of s search invariant own.from there.0 pid sound sound_there there.2 ∙ own.same in
    record {
      visited = there.0;
      within = among-contains there.0 (reduced_found program_of s limit) there.1;
      lives = lives-shown program_of there.0.state (run program_of pids s).final pid same ∙ lives;
      may = (filter-among (λ m. may_step (bound_at program_of s there.0) m.pid) (move program_of there.0 pid) (moves_of program_of there.0) within).1;
      same = same;
      no_longer = omega (arith, no_later-longer there.0.witness own.from.witness there.3, own.no_longer);
    }

-- the reduced search's view of a state that the full search visits
seen-reduced : (program_of : Bytes → Option Program) → IsInvariant program_of
    → (limit other : ℕ) (s : State) → IsSearchable program_of limit s → IsSearchable program_of other s
    → is_reduced_complete program_of s other ≡ true → AreSeenAmong program_of (reduced_found program_of s other) (states_found program_of limit s)
unfolding states_found visited
seen-reduced program_of invariant limit other s it it' complete f pid has lives =
    let sound = sound-at (full-search program_of limit s it) limit it.room f (themselves (states_found program_of limit s) f has) in
    let lives_there = ap (λ u. is_some (process_at u pid)) sound.witness.leads ∙ lives in
    let seen = each-seen program_of invariant other s f.witness pid it' complete sound.witness.steps lives_there in
    record { visited = seen.visited; within = seen.within; same = seen.same ∙ ap (λ u. shown_in program_of u pid) sound.witness.leads; no_longer = seen.no_longer }

-- and the other way round
seen-full : (program_of : Bytes → Option Program) (limit other : ℕ) (s : State) → IsSearchable program_of limit s → IsSearchable program_of other s
    → is_complete program_of limit s ≡ true → AreSeenAmong program_of (states_found program_of limit s) (reduced_found program_of s other)
unfolding states_found reduced_found visited
seen-full program_of limit other s it it' complete f pid has lives =
    let search = reduced-search program_of s it'.encodes it'.whole in
    let sound = sound-at search other it'.room f (themselves (reduced_found program_of s other) f has) in
    let reached = steps-reached program_of s f.witness sound.witness.steps in
    let there = found-no_later (full-search program_of limit s it) limit it.room complete (end program_of s f.witness) reached in
    record {
      visited = there.0;
      within = among-contains there.0 (states_found program_of limit s) there.1;
      same = ap (λ u. shown_in program_of u pid) (there.2 ∙ sound.witness.leads);
      no_longer = no_later-longer there.0.witness f.witness there.3;
    }

pub both-see : (program_of : Bytes → Option Program) → IsInvariant program_of
    → (limit other : ℕ) (s : State) → IsSearchable program_of limit s → IsSearchable program_of other s
    → is_complete program_of limit s ≡ true → is_reduced_complete program_of s other ≡ true
    → AreSeenAmong program_of (reduced_found program_of s other) (states_found program_of limit s)
    × AreSeenAmong program_of (states_found program_of limit s) (reduced_found program_of s other)
both-see program_of invariant limit other s it it' complete complete' =
    (seen-reduced program_of invariant limit other s it it' complete', seen-full program_of limit other s it it' complete)
