-- Each reported step can happen, and its witness is the least.
use Rattle.std.proofs.Common.{◌≡◌, ◌≢◌, ◌∙◌, sym, ap, subst, ℕ, true, List, [], ◌∷◌, ◌++◌, map, filter, append_assoc, append-nil, Option, None, Some, is_some, ◌⊎◌, inl, inr, refl}
use Rattle.std.specs.List.{AllByRecursion}
use Rattle.pv_model.specs.Machine.{Found, Move, move, moves_of, states_found, move_text, has_ended, endings, tree_numbers, Bytes, live_processes, named_tree, Program, Process, State, process_at, step, run, Tree}
use Rattle.pv_model.specs.Answers.Explore.{moves}
use Rattle.pv_laws_answers.specs.Search.{IsSearchable, FoundStates, CanHappen, HasLeastWitness, ReportedSteps, EndsIn, Endings, text_of_step, reported}
use Rattle.pv_laws_answers.specs.Witnesses.{AreSteps, IsWitness, IsEarlierWitness, IsNoLaterWitness, EachToLater}
use Rattle.pv_laws_answers.proofs.Lists.{Among, each-among, each-from_among, each-weaker, among-map, map-among, among-flat, flat-among, filter-among}
use Rattle.pv_laws_answers.proofs.LiveProcesses.{live-listed, moves-ascending}
use Rattle.pv_laws_answers.proofs.NewKeys.{new-came, new-fresh, new-differ, new-order, new-first}
use Rattle.pv_laws_answers.proofs.SearchInvariant.{Ascending, LeadsOn}
use Rattle.pv_laws_answers.proofs.SoundStates.{state_of, IsSound, made-by, witness-more, IsFinished, search-finished}
use Rattle.pv_laws_answers.proofs.Witnesses.{before-one_more, before-longer, no_later-then, no_later-same_step}
use Rattle.pv_laws_answers.proofs.WitnessOrders.{Earlier, to_later-weaker, moves-earlier}

module _ (program_of : Bytes → Option Program) where
  pub steps-split : (witness : List ℕ) (pid : ℕ) (s : State) → AreSteps program_of (witness ++ pid ∷ []) s → AreSteps program_of witness s × (is_some (process_at (run program_of witness s).final pid) ≡ true)
  steps-split [] pid s steps = (tt, steps.0)
  steps-split (other ∷ witness) pid s steps = let r = steps-split witness pid (step program_of s other).after steps.1 in ((steps.0, r.0), r.1)

  module _ (limit : ℕ) (s : State) (it : IsSearchable program_of limit s) where
    abbrev found : List Found
    found = states_found program_of limit s

    finished : IsFinished program_of s limit found
    finished = search-finished program_of s it.encodes limit it.room it.whole

    pub found-states : FoundStates program_of limit s
    found-states = record {
      reached = each-weaker (IsSound program_of s) (λ f. IsWitness program_of s f.witness f.state) (λ f h. h.witness) found finished.sound;
      once = finished.different;
      in_order = finished.rising;
      few = finished.count;
    }

    sound-at : (f : Found) → Among f found → IsSound program_of s f
    sound-at f within = each-among (IsSound program_of s) found finished.sound f within

    all-moves-earlier : EachToLater Earlier (moves program_of limit s)
    all-moves-earlier =
        moves-earlier (moves_of program_of) found (each-from_among (λ f. Ascending f.witness 0 (moves_of program_of f)) found (λ f h. moves-ascending program_of f ((sound-at f h).whole.processes.ascending))) finished.rising

    -- a reported step, and the state in which it is made
    record IsMade (m : Move) : Type 0 where
      pub from : Found
      pub within : Among from found
      pub is : m ≡ move program_of from m.pid
      pub lives : is_some (process_at from.state m.pid) ≡ true
      pub own : Among m (moves_of program_of from)

    made-in : (m : Move) → Among m (moves program_of limit s) → IsMade m
    made-in m h =
        let from = flat-among (moves_of program_of) m found h in
        let made = made-by program_of s from.0 m (sound-at from.0 from.1).whole from.2 in
        record { from = from.0; within = from.1; is = made.2; lives = ap is_some made.1; own = from.2 }

    reported-in : (m : Move) → Among m (reported program_of limit s) → Among m (moves program_of limit s)
    reported-in m h = new-came move_text ([] ∷ []) (moves program_of limit s) m h

    -- ---- reported steps can happen

    can-happen : (m : Move) → Among m (reported program_of limit s) → CanHappen program_of s m
    can-happen m h =
        let made = made-in m (reported-in m h) in
        let sound = sound-at made.from made.within in
        let witness : m.witness ≡ made.from.witness ++ m.pid ∷ [] = ap (λ (n : Move). n.witness) made.is in
        record {
          before = made.from.witness;
          witness = witness;
          steps = subst (λ (w : List ℕ). AreSteps program_of w s) (sym witness) (witness-more program_of s made.from.state made.from.witness m.pid sound.witness made.lives).steps;
          last = ap (λ (n : Move). n.stepped) made.is ∙ ap (λ u. step program_of u m.pid) (sym sound.witness.leads);
          text = new-fresh move_text ([] ∷ []) (moves program_of limit s) m h [] (inl refl);
        }

    -- ---- their witnesses are the least

    -- a state is visited with no later witness, or all visited states have no later witness
    ReachedBy : List ℕ → State → Type 0
    ReachedBy w t =
        ((g : Found) × Among g found × (g.state ≡ t) × IsNoLaterWitness g.witness w) ⊎ AllByRecursion (λ g. IsNoLaterWitness g.witness w) found

    all-no_later : (w : List ℕ) (pid : ℕ) → AllByRecursion (λ (g : Found). IsNoLaterWitness g.witness w) found → AllByRecursion (λ (g : Found). IsNoLaterWitness g.witness (w ++ pid ∷ [])) found
    all-no_later w pid all = each-weaker (λ (g : Found). IsNoLaterWitness g.witness w) (λ (g : Found). IsNoLaterWitness g.witness (w ++ pid ∷ [])) (λ g h. no_later-then g.witness w (w ++ pid ∷ []) h (inr (before-longer w pid))) found all

    own-move : (g : Found) (t : State) (pid : ℕ) → g.state ≡ t → is_some (process_at t pid) ≡ true → Among (move program_of g pid) (moves_of program_of g)
    own-move g t pid same lives = by (process_at t pid) refl lives
      where
        by : (o : Option Process) → process_at t pid ≡ o → is_some o ≡ true → Among (move program_of g pid) (moves_of program_of g)
        by None none some = cc
        by (Some p) is some = among-map (λ (r : ℕ × Process). move program_of g r.0) (pid, p) (live_processes g.state.processes) (live-listed g.state pid p (ap (λ u. process_at u pid) same ∙ is))

    reached-next : (w : List ℕ) (t : State) (pid : ℕ) → is_some (process_at t pid) ≡ true → ReachedBy w t → ReachedBy (w ++ pid ∷ []) (step program_of t pid).after
    unfolding ReachedBy
    reached-next w t pid lives (inr all) = inr (all-no_later w pid all)
    reached-next w t pid lives (inl here) =
        on (each-among (LeadsOn state_of limit found) (moves_of program_of here.0) (each-among (λ f. AllByRecursion (LeadsOn state_of limit found) (moves_of program_of f)) found finished.leads here.0 here.1)
        (move program_of here.0 pid) (own-move here.0 t pid here.2 lives))
      where
        later : IsNoLaterWitness (here.0.witness ++ pid ∷ []) (w ++ pid ∷ [])
        later = no_later-same_step here.0.witness w pid here.3

        on : LeadsOn state_of limit found (move program_of here.0 pid)
            → ((g : Found) × Among g found × (g.state ≡ (step program_of t pid).after) × IsNoLaterWitness g.witness (w ++ pid ∷ [])) ⊎ AllByRecursion (λ g. IsNoLaterWitness g.witness (w ++ pid ∷ [])) found
        on (inl next) = inl (next.0, next.1, next.2 ∙ ap (λ u. (step program_of u pid).after) here.2, no_later-then next.0.witness (here.0.witness ++ pid ∷ []) (w ++ pid ∷ []) next.3 later)
        on (inr full) =
            inr (each-weaker (λ (g : Found). IsNoLaterWitness g.witness (here.0.witness ++ pid ∷ [])) (λ (g : Found). IsNoLaterWitness g.witness (w ++ pid ∷ []))
            (λ g h. no_later-then g.witness (here.0.witness ++ pid ∷ []) (w ++ pid ∷ []) h later) found full.1)

    reached-by : (pids w : List ℕ) (t : State) → AreSteps program_of pids t → ReachedBy w t → ReachedBy (w ++ pids) (run program_of pids t).final
    reached-by [] w t steps by = subst (λ (v : List ℕ). ReachedBy v t) (sym (append-nil w)) by
    reached-by (pid ∷ pids) w t steps by =
        subst (λ (v : List ℕ). ReachedBy v (run program_of pids (step program_of t pid).after).final) (append_assoc w (pid ∷ []) pids)
        (reached-by pids (w ++ pid ∷ []) (step program_of t pid).after steps.1 (reached-next w t pid steps.0 by))

    started : ReachedBy [] s
    unfolding ReachedBy
    started = inl (start, subst (Among start) (sym finished.more.1) (inl refl), refl, inl refl)
      where
        start : Found
        start = record { witness = []; state = s }

    -- a reported step has no later witness than any step with its text from a visited state
    reported-first : (m : Move) → Among m (reported program_of limit s) → (g : Found) → Among g found → (pids : List ℕ) (pid : ℕ) → g.state ≡ (run program_of pids s).final → IsNoLaterWitness g.witness pids
        → is_some (process_at (run program_of pids s).final pid) ≡ true → text_of_step program_of (run program_of pids s).final pid ≡ move_text m → IsNoLaterWitness m.witness (pids ++ pid ∷ [])
    reported-first m h g within pids pid same later lives text =
        let n = move program_of g pid in
        let made = among-flat (moves_of program_of) g n found within (own-move g (run program_of pids s).final pid same lives) in
        no_later-then m.witness (g.witness ++ pid ∷ []) (pids ++ pid ∷ [])
        (first (new-first move_text Earlier ([] ∷ []) (moves program_of limit s) all-moves-earlier m h n made (ap (λ u. text_of_step program_of u pid) same ∙ text)))
        (no_later-same_step g.witness pids pid later)
      where
        first : (m ≡ move program_of g pid) ⊎ Earlier m (move program_of g pid) → IsNoLaterWitness m.witness (g.witness ++ pid ∷ [])
        first (inl e) = inl (ap (λ (n : Move). n.witness) e)
        first (inr e) = inr e

    least : (m : Move) → Among m (reported program_of limit s) → HasLeastWitness program_of s m
    unfolding ReachedBy
    least m h pids pid steps text =
        let parts = steps-split pids pid s steps in
        by parts.1 (reached-by pids [] s parts.0 started)
      where
        from : is_some (process_at (run program_of pids s).final pid) ≡ true → (made : IsMade m) → IsNoLaterWitness made.from.witness pids → IsNoLaterWitness m.witness (pids ++ pid ∷ [])
        from lives made (inl e) =
            reported-first m h made.from made.within pids pid (sym (sound-at made.from made.within).witness.leads ∙ ap (λ w. (run program_of w s).final) e) (inl e) lives text
        from lives made (inr before) =
            inr (subst (λ (v : List ℕ). IsEarlierWitness v (pids ++ pid ∷ [])) (sym (ap (λ (n : Move). n.witness) made.is)) (before-one_more m.pid pid made.from.witness pids before))

        by : is_some (process_at (run program_of pids s).final pid) ≡ true → ReachedBy pids (run program_of pids s).final → IsNoLaterWitness m.witness (pids ++ pid ∷ [])
        by lives (inl g) = reported-first m h g.0 g.1 pids pid g.2 g.3 lives text
        by lives (inr all) = let made = made-in m (reported-in m h) in from lives made (each-among (λ (g : Found). IsNoLaterWitness g.witness pids) found all made.from made.within)

    pub reported-steps : ReportedSteps program_of limit s
    reported-steps = record {
      happen = each-from_among (CanHappen program_of s) (reported program_of limit s) can-happen;
      once = new-differ move_text ([] ∷ []) (moves program_of limit s);
      in_order = new-order move_text Earlier ([] ∷ []) (moves program_of limit s) all-moves-earlier;
      least = each-from_among (HasLeastWitness program_of s) (reported program_of limit s) least;
    }

    -- ---- endings

    ends-in : (t : Tree) → Among t (endings found) → EndsIn program_of s t
    ends-in t h =
        let tree = map-among (λ (f : Found). named_tree f.state.tree) t (filter (λ f. has_ended f.state) found) (new-came tree_numbers [] _ t h) in
        let preserved = filter-among (λ (f : Found). has_ended f.state) tree.0 found tree.1 in
        let sound = sound-at tree.0 preserved.0 in
        record {
          pids = tree.0.witness;
          steps = sound.witness.steps;
          ended = ap has_ended sound.witness.leads ∙ preserved.1;
          tree = ap (λ u. named_tree u.tree) sound.witness.leads ∙ sym tree.2;
        }

    pub ends : Endings program_of limit s
    ends = record {
      happen = each-from_among (EndsIn program_of s) (endings found) ends-in;
      once = to_later-weaker (λ t u. tree_numbers t ≢ tree_numbers u) (λ t u. t ≢ u) (endings found) (λ t u in_t in_u h e. h (ap tree_numbers e)) (new-differ tree_numbers [] (map (λ f. named_tree f.state.tree) (filter (λ f. has_ended f.state) found)));
    }
