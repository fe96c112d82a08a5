-- The observations of the steps of a search, for any steps and any classes: each item that is observed of a step of a
-- schedule, with a shortest witness.
use Rattle.std.proofs.Common.{◌≡◌, ◌∙◌, sym, ap, subst, ℕ, suc, ◌≤◌, Bool, true, List, [], ◌∷◌, ◌++◌, length, length-append, map, flat_map, Option, ◌⊎◌, inl, inr, refl, arith}
use Rattle.std.specs.List.{list_all}
use Rattle.pv_model.specs.Machine.{Found, Move, move, Numbers, Observer, Observation, observed, first_observations, Bytes, Program, State, Stepped, step, run}
use Rattle.pv_laws_answers.specs.Witnesses.{AreSteps, IsEarlierWitness, IsNoLaterWitness, EachToLater}
use Rattle.pv_laws_answers.proofs.Lists.{Among, each-among, among-map, map-among, among-flat, flat-among}
use Rattle.pv_laws_answers.proofs.NewKeys.{new-like, new-first}
use Rattle.pv_laws_answers.proofs.SearchInvariant.{is_known}
use Rattle.pv_laws_answers.proofs.SoundStates.{IsSound}
use Rattle.pv_laws_answers.proofs.WitnessOrders.{to_later-flat, to_later-all, no_later-longer}
use Rattle.pv_laws_classes.proofs.VisitedStates.{IsSearch, IsReached, made, like-move, sound-reached, found, made_moves, finished, sound-at, HasNoLater, no_later-reached, found-no_later}

module _
    {X : Type 0} (observe : Observer X) {program_of : Bytes → Option Program} {s : State} {C : Type 0} {class_of : Found → C} {same : Found → Found → Bool}
    {moves : Found → List Move} (it : IsSearch program_of s class_of same moves) where
  abbrev pub items_at : State → ℕ → List X
  items_at t pid = observe t pid (step program_of t pid)

  -- ---- the steps from a visited state

  abbrev pub observations_from : Found → List (Observation X)
  observations_from f = flat_map (λ m. map (observed m) (observe f.state m.pid m.stepped)) (moves f)

  -- an observation is of a step that the search makes from a state
  record IsOfStep (f : Found) (o : Observation X) : Type 0 where
    within : Among (move program_of f o.move.pid) (moves f)
    is : o.move ≡ move program_of f o.move.pid
    item : Among o.item (items_at f.state o.move.pid)

  of-step : (f : Found) → IsSound program_of s f → (o : Observation X) → Among o (observations_from f) → IsOfStep f o
  of-step f sound o h =
      let from = flat-among (λ (m : Move). map (observed m) (observe f.state m.pid m.stepped)) o (moves f) h in
      let item = map-among (observed from.0) o (observe f.state from.0.pid from.0.stepped) from.2 in
      let is = (made it f from.0 sound from.1).is in
      subst (IsOfStep f) (sym item.2) (record {
        within = subst (λ (m : Move). Among m (moves f)) is from.1;
        is = is;
        item = subst (λ (st : Stepped). Among item.0 (observe f.state from.0.pid st)) (ap (λ (m : Move). m.stepped) is) item.1;
      })

  -- and each item of such a step is observed
  step-of : (f : Found) (pid : ℕ) (x : X) → Among (move program_of f pid) (moves f) → Among x (items_at f.state pid)
      → Among (observed (move program_of f pid) x) (observations_from f)
  step-of f pid x within has =
      among-flat (λ (m : Move). map (observed m) (observe f.state m.pid m.stepped)) (move program_of f pid) (observed (move program_of f pid) x) (moves f) within
      (among-map (observed (move program_of f pid)) x (items_at f.state pid) has)

  -- its witness is longer by one
  size-of : (f : Found) → IsSound program_of s f → (o : Observation X) → Among o (observations_from f) → length o.move.witness ≡ suc (length f.witness)
  size-of f sound o h = let is = (of-step f sound o h).is in omega (arith, ap (λ (m : Move). length m.witness) is, length-append f.witness (o.move.pid ∷ []))

  module _ (limit : ℕ) (room : 1 ≤ limit) where
    abbrev pub all_observations : List (Observation X)
    all_observations = flat_map observations_from (found it limit room)

    -- ---- each observation is of the last step of its witness

    pub record IsOfLast (o : Observation X) : Type 0 where
      pub from : Found
      pub visited : Among from (found it limit room)
      pub witness : o.move.witness ≡ from.witness ++ o.move.pid ∷ []
      pub steps : AreSteps program_of o.move.witness s
      pub before : AreSteps program_of from.witness s
      pub item : Among o.item (items_at (run program_of from.witness s).final o.move.pid)

    pub of-last : (o : Observation X) → Among o all_observations → IsOfLast o
    of-last o h =
        let from = flat-among observations_from o (found it limit room) h in
        let sound = sound-at it limit room from.0 from.1 in
        let own = of-step from.0 sound o from.2 in
        let next = made it from.0 (move program_of from.0 o.move.pid) sound own.within in
        let witness : o.move.witness ≡ from.0.witness ++ o.move.pid ∷ [] = ap (λ (m : Move). m.witness) own.is in
        record {
          from = from.0;
          visited = from.1;
          witness = witness;
          steps = subst (λ (w : List ℕ). AreSteps program_of w s) (sym witness) next.sound.witness.steps;
          before = sound.witness.steps;
          item = subst (λ (u : State). Among o.item (items_at u o.move.pid)) (sym sound.witness.leads) own.item;
        }

    -- ---- their order

    abbrev NoLonger : Observation X → Observation X → Type 0
    NoLonger o q = length o.move.witness ≤ length q.move.witness

    order : EachToLater NoLonger all_observations
    order =
        to_later-flat NoLonger (λ (f g : Found). IsEarlierWitness f.witness g.witness) observations_from (found it limit room) (finished it limit room).rising
        (λ f in_f.
        let sound = sound-at it limit room f in_f in
        to_later-all NoLonger (observations_from f) (λ o q h k. omega (arith, size-of f sound o h, size-of f sound q k)))
        (λ f g in_f in_g before o q h k.
        let sound_f = sound-at it limit room f in_f in
        let sound_g = sound-at it limit room g in_g in
        omega (arith, size-of f sound_f o h, size-of g sound_g q k, no_later-longer f.witness g.witness (inr before)))

    -- ---- observers that depend only on the class

    -- a step that the search can make, with the items of the last step of a schedule that is no shorter
    pub record ReachesItems (pids : List ℕ) (pid : ℕ) : Type 0 where
      pub from : Found
      pub reached : IsReached program_of s moves from
      pub within : Among (move program_of from pid) (moves from)
      pub items : items_at from.state pid ≡ items_at (run program_of pids s).final pid
      pub no_longer : length from.witness ≤ length pids

    -- the items of a step depend only on the class of the state, and the search can reach those of each schedule
    pub record IsOfClass : Type 0 where
      pub alike : (f g : Found) (pid : ℕ) → IsSound program_of s f → IsSound program_of s g → class_of g ≡ class_of f
          → items_at g.state pid ≡ items_at f.state pid
      pub reaches : (pids : List ℕ) (pid : ℕ) → AreSteps program_of (pids ++ pid ∷ []) s → ReachesItems pids pid

    module _ (of_class : IsOfClass) where
      -- an item of a reached state is observed of each visited state of its class
      observed-at : (f g : Found) (pid : ℕ) (x : X) → IsReached program_of s moves f → Among g (found it limit room) → class_of g ≡ class_of f
          → Among (move program_of f pid) (moves f) → Among x (items_at f.state pid) → Among (observed (move program_of g pid) x) all_observations
      observed-at f g pid x reached in_g alike within has =
          let sound_f = sound-reached it f reached in
          let sound_g = sound-at it limit room g in_g in
          among-flat observations_from g (observed (move program_of g pid) x) (found it limit room) in_g
          (step-of g pid x (like-move it f g pid sound_f sound_g alike within) (subst (Among x) (sym (of_class.alike f g pid sound_f sound_g alike)) has))

      -- the first observation with a key has a shortest witness of all schedules whose last step has an item with that key
      pub first-shortest : (key : X → Numbers) (o : Observation X) → Among o (first_observations key all_observations) → (last : IsOfLast o)
          → (pids : List ℕ) (pid : ℕ) (x : X) → AreSteps program_of (pids ++ pid ∷ []) s
          → Among x (items_at (run program_of pids s).final pid) → key x ≡ key o.item → length last.from.witness ≤ length pids
      unfolding HasNoLater
      first-shortest key o h last pids pid x steps has keys = by (no_later-reached it limit room own.from own.reached)
        where
          own : ReachesItems pids pid
          own = of_class.reaches pids pid steps

          there : Among x (items_at own.from.state pid)
          there = subst (Among x) (sym own.items) has

          size : length o.move.witness ≡ suc (length last.from.witness)
          size = omega (arith, ap length last.witness, length-append last.from.witness (o.move.pid ∷ []))

          first : (q : Observation X) → (o ≡ q) ⊎ NoLonger o q → length o.move.witness ≤ length q.move.witness
          first q (inl e) = omega (arith, ap (λ (r : Observation X). length r.move.witness) e)
          first q (inr le) = le

          by : HasNoLater it limit room own.from → length last.from.witness ≤ length pids
          by (inl g) =
              let q = observed (move program_of g.0 pid) x in
              let within = observed-at own.from g.0 pid x own.reached g.1 g.2 own.within there in
              let le = first q (new-first (λ (q : Observation X). key q.item) NoLonger [] all_observations order o h q within keys) in
              omega (arith, size, le, length-append g.0.witness (pid ∷ []), no_later-longer g.0.witness own.from.witness g.3, own.no_longer)
          by (inr all) =
              let no_later = each-among (λ (g : Found). IsNoLaterWitness g.witness own.from.witness) (found it limit room) all last.from last.visited in
              omega (arith, no_later-longer last.from.witness own.from.witness no_later, own.no_longer)

      -- ---- if the search is complete

      module _ (complete : list_all (λ m. is_known same m (found it limit room)) (made_moves it limit room) ≡ true) where
        -- each item of the last step of a schedule is observed
        pub all-observed : (pids : List ℕ) (pid : ℕ) (x : X) → AreSteps program_of (pids ++ pid ∷ []) s
            → Among x (items_at (run program_of pids s).final pid) → (o : Observation X) × Among o all_observations × (o.item ≡ x)
        all-observed pids pid x steps has =
            let own = of_class.reaches pids pid steps in
            let there = found-no_later it limit room complete own.from own.reached in
            let within = observed-at own.from there.0 pid x own.reached there.1 there.2 own.within (subst (Among x) (sym own.items) has) in
            (observed (move program_of there.0 pid) x, within, refl)

        -- and its key is that of a first observation
        pub first-observed : (key : X → Numbers) (pids : List ℕ) (pid : ℕ) (x : X) → AreSteps program_of (pids ++ pid ∷ []) s
            → Among x (items_at (run program_of pids s).final pid) → (o : Observation X) × Among o (first_observations key all_observations) × (key o.item ≡ key x)
        first-observed key pids pid x steps has =
            let there = all-observed pids pid x steps has in
            by there.0 (ap key there.2) (new-like (λ (q : Observation X). key q.item) [] all_observations there.0 there.1)
          where
            by : (o : Observation X) → key o.item ≡ key x
                → Among (key o.item) [] ⊎ ((q : Observation X) × Among q (first_observations key all_observations) × (key q.item ≡ key o.item))
                → (q : Observation X) × Among q (first_observations key all_observations) × (key q.item ≡ key x)
            by o keys (inl none) = absurd none
            by o keys (inr q) = (q.0, q.1, q.2 ∙ keys)
