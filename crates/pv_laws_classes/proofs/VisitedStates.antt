-- The visited states and the reported steps of a search, for any steps and any classes.
use Rattle.std.proofs.Common.{◌≡◌, ◌≢◌, ◌∙◌, sym, ap, subst, ℕ, ◌≤◌, Bool, true, false, if◌then◌else◌, bytes_eq, List, [], ◌∷◌, ◌++◌, map, flat_map, filter, append_assoc, append-nil, Option, is_some, ◌⊎◌, inl, inr, refl, arith}
use Rattle.std.specs.List.{AllByRecursion, list_any, list_all}
use Rattle.pv_model.specs.Machine.{Found, Move, found_by, move, moves_of, move_text, elements_with_new_keys, has_ended, endings, Numbers, tree_numbers, Bytes, named_tree, Program, State, process_at, step, run, trace_bytes, Tree}
use Rattle.pv_model.specs.Answers.Explore.{reported_moves}
use Rattle.pv_laws_trees.proofs.DirectoryEntries.{bytes_eq-itself}
use Rattle.pv_laws_states.specs.States.{EncodesPrograms, IsValid}
use Rattle.pv_laws_states.proofs.ValidBySteps.{step-keeps_valid}
use Rattle.pv_laws_answers.specs.Search.{CanHappen, EndsIn}
use Rattle.pv_laws_answers.specs.Witnesses.{IsWitness, IsEarlierWitness, IsNoLaterWitness, EachToLater}
use Rattle.pv_laws_answers.proofs.Lists.{Among, each-among, each-from_among, each-weaker, among-map, map-among, among-flat, flat-among, among-filter, filter-among, any-among, all-among}
use Rattle.pv_laws_answers.proofs.NewKeys.{new-came, new-fresh, new-like, new-differ, new-order, new-first}
use Rattle.pv_laws_answers.proofs.StateDecoding.{same-tree_numbers}
use Rattle.pv_laws_answers.proofs.SearchInvariant.{Ascending, is_known, visited, class-there, Decides, LeadsOn, Finished, searched}
use Rattle.pv_laws_answers.proofs.SoundStates.{IsSound, made-by, witness-more}
use Rattle.pv_laws_answers.proofs.Witnesses.{before-one_more, before-longer, no_later-then, no_later-same_step}
use Rattle.pv_laws_answers.proofs.WitnessOrders.{Earlier, to_later-weaker, moves-earlier}

-- the elements with new keys among images
new-map : {X Y : Type 0} (h : X → Y) (key : Y → Numbers) (had : List Numbers) (xs : List X) → elements_with_new_keys key had (map h xs) ≡ map h (elements_with_new_keys (λ x. key (h x)) had xs)
new-map h key had [] = refl
new-map {X} {Y} h key had (x ∷ xs) = by (list_any (bytes_eq (key (h x))) had) (new-map h key had xs) (new-map h key (key (h x) ∷ had) xs)
  where
    by : (b : Bool) → elements_with_new_keys key had (map h xs) ≡ map h (elements_with_new_keys (λ x. key (h x)) had xs) → elements_with_new_keys key (key (h x) ∷ had) (map h xs) ≡ map h (elements_with_new_keys (λ x. key (h x)) (key (h x) ∷ had) xs)
        → (if b then elements_with_new_keys key had (map h xs) else h x ∷ elements_with_new_keys key (key (h x) ∷ had) (map h xs))
        ≡ map h (if b then elements_with_new_keys (λ x. key (h x)) had xs else x ∷ elements_with_new_keys (λ x. key (h x)) (key (h x) ∷ had) xs)
    by true old new = old
    by false old new = ap (λ ys. h x ∷ ys) new

abbrev pub tree_key : State → Numbers
tree_key t = tree_numbers (named_tree t.tree)

-- the counted trees differ
pub endings-differ : (found : List Found) → EachToLater (λ t u. t ≢ u) (endings found)
endings-differ found =
    to_later-weaker (λ t u. tree_numbers t ≢ tree_numbers u) (λ t u. t ≢ u) (endings found) (λ t u in_t in_u h e. h (ap tree_numbers e))
    (new-differ tree_numbers [] (map (λ f. named_tree f.state.tree) (filter (λ f. has_ended f.state) found)))

-- ---- searches

-- a test and a key of states depend only on the class
pub record DependOnClass {C : Type 0} (class_of : Found → C) (test : State → Bool) (key : State → Numbers) : Type 0 where
  pub same_test : (f g : Found) → class_of f ≡ class_of g → test f.state ≡ test g.state
  pub same_key : (f g : Found) → class_of f ≡ class_of g → key f.state ≡ key g.state

-- a step of the same process as another one, with the same lines, whose next state is of the same class
pub record IsLike {C : Type 0} (class_of : Found → C) (m n : Move) : Type 0 where
  pub pid : n.pid ≡ m.pid
  pub lines : n.stepped.lines ≡ m.stepped.lines
  pub after : class_of (found_by n) ≡ class_of (found_by m)

module _ (program_of : Bytes → Option Program) where
  -- the steps of a schedule are steps of a search
  abbrev pub AreMade : (Found → List Move) → List ℕ → Found → Type 0
  AreMade moves [] f = Unit {0}
  AreMade moves (pid ∷ pids) f = Among (move program_of f pid) (moves f) × AreMade moves pids (found_by (move program_of f pid))

  abbrev pub end_of : List ℕ → Found → Found
  end_of pids f = record { witness = f.witness ++ pids; state = (run program_of pids f.state).final }

module _ (program_of : Bytes → Option Program) (s : State) where
  -- a search from a valid state. Its steps are of live processes, by ascending number, and the steps of a process from two
  -- states of one class are alike
  pub record IsSearch {C : Type 0} (class_of : Found → C) (same : Found → Found → Bool) (moves : Found → List Move) : Type 0 where
    pub encodes : EncodesPrograms program_of
    pub whole : IsValid s
    pub decides : Decides class_of same
    pub ascending : (f : Found) → IsSound program_of s f → Ascending f.witness 0 (moves f)
    pub lives : (f : Found) (m : Move) → Among m (moves f) → Among m (moves_of program_of f)
    pub like : (f g : Found) (m : Move) → IsSound program_of s f → IsSound program_of s g → class_of g ≡ class_of f → Among m (moves f) → (n : Move) × Among n (moves g) × IsLike class_of m n
    pub ending : DependOnClass class_of has_ended tree_key

  -- states that the steps of a search reach
  pub data IsReached (moves : Found → List Move) : Found → Type 0 where
    begins : IsReached moves (record { witness = []; state = s })
    goes_on : (f : Found) (m : Move) → IsReached moves f → Among m (moves f) → IsReached moves (found_by m)

  pub made-reached : (moves : Found → List Move) (pids : List ℕ) (f : Found) → IsReached moves f → AreMade program_of moves pids f → IsReached moves (end_of program_of pids f)
  made-reached moves [] f reached made = subst (λ (w : List ℕ). IsReached moves (record { witness = w; state = f.state })) (sym (append-nil f.witness)) reached
  made-reached moves (pid ∷ pids) f reached made =
      subst (λ (w : List ℕ). IsReached moves (record { witness = w; state = (run program_of (pid ∷ pids) f.state).final })) (append_assoc f.witness (pid ∷ []) pids)
      (made-reached moves pids (found_by (move program_of f pid)) (goes_on f (move program_of f pid) reached made.0) made.1)

  -- a state is determined by its witness
  pub same-found : (f g : Found) → IsWitness program_of s f.witness f.state → IsWitness program_of s g.witness g.state → f.witness ≡ g.witness → f ≡ g
  same-found f g is_f is_g same =
      let state : f.state ≡ g.state = sym is_f.leads ∙ ap (λ w. (run program_of w s).final) same ∙ is_g.leads in
      λ i. record { witness = same i; state = state i }

module _ {program_of : Bytes → Option Program} {s : State} {C : Type 0} {class_of : Found → C} {same : Found → Found → Bool} {moves : Found → List Move} (it : IsSearch program_of s class_of same moves) where
  -- a step, and its properties
  pub record IsMade (f : Found) (m : Move) : Type 0 where
    pub is : m ≡ move program_of f m.pid
    pub witness : m.witness ≡ f.witness ++ m.pid ∷ []
    pub lives : is_some (process_at f.state m.pid) ≡ true
    pub sound : IsSound program_of s (found_by m)

  pub made : (f : Found) (m : Move) → IsSound program_of s f → Among m (moves f) → IsMade f m
  made f m sound within =
      let by = made-by program_of s f m sound.whole (it.lives f m within) in
      record {
        is = by.2;
        witness = ap (λ (n : Move). n.witness) by.2;
        lives = ap is_some by.1;
        sound = subst (λ (n : Move). IsSound program_of s (found_by n)) (sym by.2) (record {
          whole = step-keeps_valid program_of it.encodes f.state m.pid sound.whole;
          witness = witness-more program_of s f.state f.witness m.pid sound.witness (ap is_some by.1);
        });
      }

  pub sound-reached : (f : Found) → IsReached program_of s moves f → IsSound program_of s f
  sound-reached f begins = record { whole = it.whole; witness = record { steps = tt; leads = refl } }
  sound-reached f (goes_on g m reached within) = (made g m (sound-reached g reached) within).sound

  -- the step of a process that is made from a state is made from each state of its class
  pub like-move : (f g : Found) (pid : ℕ) → IsSound program_of s f → IsSound program_of s g → class_of g ≡ class_of f → Among (move program_of f pid) (moves f) → Among (move program_of g pid) (moves g)
  like-move f g pid sound_f sound_g same within =
      let own = it.like f g (move program_of f pid) sound_f sound_g same within in
      subst (λ (m : Move). Among m (moves g)) ((made g own.0 sound_g own.1).is ∙ ap (move program_of g) own.2.pid) own.1

  module _ (limit : ℕ) (room : 1 ≤ limit) where
    abbrev pub found : List Found
    found = visited same moves limit s

    abbrev pub made_moves : List Move
    made_moves = flat_map moves found

    abbrev pub reported : List Move
    reported = reported_moves made_moves

    pub finished : Finished class_of same it.decides moves limit (IsReached program_of s moves) (record { witness = []; state = s } ∷ []) found
    unfolding visited
    finished =
        searched class_of same it.decides moves limit (IsReached program_of s moves)
        (λ f reached. (it.ascending f (sound-reached f reached), each-from_among (λ m. IsReached program_of s moves (found_by m)) (moves f) (λ m. goes_on f m reached)))
        limit 0 (record { witness = []; state = s } ∷ []) [] (record { witness = []; state = s } ∷ [])
        (record {
          parts = refl;
          at = refl;
          sound = (begins, tt);
          rising = (tt, tt);
          different = (tt, tt);
          count = room;
          under = ((λ p. inl (omega arith)), tt);
          leads = tt;
        }) (omega arith)

    pub reached-at : (f : Found) → Among f found → IsReached program_of s moves f
    reached-at f within = each-among (IsReached program_of s moves) found finished.sound f within

    pub sound-at : (f : Found) → Among f found → IsSound program_of s f
    sound-at f within = sound-reached f (reached-at f within)

    start-in : Among (record { witness = []; state = s }) found
    start-in = subst (Among (record { witness = []; state = s })) (sym finished.more.1) (inl refl)

    all-moves-earlier : EachToLater Earlier made_moves
    all-moves-earlier = moves-earlier moves found (each-from_among (λ f. Ascending f.witness 0 (moves f)) found (λ f h. it.ascending f (sound-at f h))) finished.rising

    -- ---- reported steps can happen

    made-in : (m : Move) → Among m reported → (f : Found) × Among f found × Among m (moves f)
    made-in m h = flat-among moves m found (new-came move_text ([] ∷ []) made_moves m h)

    pub can-happen : (m : Move) → Among m reported → CanHappen program_of s m
    can-happen m h =
        let from = made-in m h in
        let sound = sound-at from.0 from.1 in
        let own = made from.0 m sound from.2 in
        record {
          before = from.0.witness;
          witness = own.witness;
          steps = own.sound.witness.steps;
          last = ap (λ (n : Move). n.stepped) own.is ∙ ap (λ u. step program_of u m.pid) (sym sound.witness.leads);
          text = new-fresh move_text ([] ∷ []) made_moves m h [] (inl refl);
        }

    -- ---- witnesses are the least

    -- a state of the class is visited with no later witness, or all visited states have no later witness
    unfoldable pub HasNoLater : Found → Type 0
    HasNoLater f =
        ((g : Found) × Among g found × (class_of g ≡ class_of f) × IsNoLaterWitness g.witness f.witness) ⊎ AllByRecursion (λ g. IsNoLaterWitness g.witness f.witness) found

    -- a step from a state of the same class with no later witness
    pub record HasStep (g : Found) (m : Move) : Type 0 where
      pub step : Move
      pub within : Among step (moves g)
      pub like : IsLike class_of m step
      pub later : IsNoLaterWitness step.witness m.witness

    has-step : (f g : Found) (m : Move) → IsSound program_of s f → IsSound program_of s g → class_of g ≡ class_of f → IsNoLaterWitness g.witness f.witness → Among m (moves f) → HasStep g m
    has-step f g m sound_f sound_g same later within =
        let own = it.like f g m sound_f sound_g same within in
        let witness : own.0.witness ≡ g.witness ++ m.pid ∷ [] = (made g own.0 sound_g own.1).witness ∙ ap (λ p. g.witness ++ p ∷ []) own.2.pid in
        record {
          step = own.0;
          within = own.1;
          like = own.2;
          later = subst (λ (w : List ℕ). IsNoLaterWitness w m.witness) (sym witness)
              (subst (IsNoLaterWitness (g.witness ++ m.pid ∷ [])) (sym (made f m sound_f within).witness) (no_later-same_step g.witness f.witness m.pid later));
        }

    pub leads-at : (g : Found) (m : Move) → Among g found → Among m (moves g) → LeadsOn class_of limit found m
    leads-at g m in_g within = each-among (LeadsOn class_of limit found) (moves g) (each-among (λ f. AllByRecursion (LeadsOn class_of limit found) (moves f)) found finished.leads g in_g) m within

    all-no_later : (w v : List ℕ) → IsNoLaterWitness w v → AllByRecursion (λ (g : Found). IsNoLaterWitness g.witness w) found → AllByRecursion (λ (g : Found). IsNoLaterWitness g.witness v) found
    all-no_later w v later all = each-weaker (λ (g : Found). IsNoLaterWitness g.witness w) (λ (g : Found). IsNoLaterWitness g.witness v) (λ g h. no_later-then g.witness w v h later) found all

    no_later-next : (f : Found) (m : Move) → IsSound program_of s f → Among m (moves f) → HasNoLater f → HasNoLater (found_by m)
    unfolding HasNoLater
    no_later-next f m sound within (inr all) =
        inr (all-no_later f.witness m.witness (inr (subst (IsEarlierWitness f.witness) (sym (made f m sound within).witness) (before-longer f.witness m.pid))) all)
    no_later-next f m sound within (inl g) = on (leads-at g.0 own.step g.1 own.within)
      where
        own : HasStep g.0 m
        own = has-step f g.0 m sound (sound-at g.0 g.1) g.2 g.3 within

        on : LeadsOn class_of limit found own.step
            → ((h : Found) × Among h found × (class_of h ≡ class_of (found_by m)) × IsNoLaterWitness h.witness m.witness) ⊎ AllByRecursion (λ h. IsNoLaterWitness h.witness m.witness) found
        on (inl next) = inl (next.0, next.1, next.2 ∙ own.like.after, no_later-then next.0.witness own.step.witness m.witness next.3 own.later)
        on (inr full) = inr (all-no_later own.step.witness m.witness own.later full.1)

    pub no_later-reached : (f : Found) → IsReached program_of s moves f → HasNoLater f
    unfolding HasNoLater
    no_later-reached f begins = inl (record { witness = []; state = s }, start-in, refl, inl refl)
    no_later-reached f (goes_on g m reached within) = no_later-next g m (sound-reached g reached) within (no_later-reached g reached)

    no_later-first : (m n : Move) → (m ≡ n) ⊎ Earlier m n → IsNoLaterWitness m.witness n.witness
    no_later-first m n (inl e) = inl (ap (λ (k : Move). k.witness) e)
    no_later-first m n (inr e) = inr e

    -- no step with the text of a reported step has an earlier witness
    pub least : (m : Move) → Among m reported → (f : Found) (n : Move) → IsReached program_of s moves f → Among n (moves f) → move_text n ≡ move_text m → IsNoLaterWitness m.witness n.witness
    unfolding HasNoLater
    least m h f n reached within text = by (no_later-reached f reached)
      where
        sound : IsSound program_of s f
        sound = sound-reached f reached

        at : (g : Found) → Among g found → class_of g ≡ class_of f → IsNoLaterWitness g.witness f.witness → IsNoLaterWitness m.witness n.witness
        at g in_g alike later =
            let own = has-step f g n sound (sound-at g in_g) alike later within in
            no_later-then m.witness own.step.witness n.witness
            (no_later-first m own.step
            (new-first move_text Earlier ([] ∷ []) made_moves all-moves-earlier m h own.step (among-flat moves g own.step found in_g own.within) (ap trace_bytes own.like.lines ∙ text)))
            own.later

        from : (g : Found) → Among g found → Among m (moves g) → IsNoLaterWitness g.witness f.witness → IsNoLaterWitness m.witness n.witness
        from g in_g in_m (inl e) = at g in_g (ap class_of (same-found program_of s g f (sound-at g in_g).witness sound.witness e)) (inl e)
        from g in_g in_m (inr before) =
            inr (subst (λ (v : List ℕ). IsEarlierWitness v n.witness) (sym (made g m (sound-at g in_g) in_m).witness)
            (subst (IsEarlierWitness (g.witness ++ m.pid ∷ [])) (sym (made f n sound within).witness) (before-one_more m.pid n.pid g.witness f.witness before)))

        by : HasNoLater f → IsNoLaterWitness m.witness n.witness
        by (inl g) = at g.0 g.1 g.2 g.3
        by (inr all) = let g = made-in m h in from g.0 g.1 g.2 (each-among (λ (g : Found). IsNoLaterWitness g.witness f.witness) found all g.0 g.1)

    pub reported-once : EachToLater (λ m n. move_text m ≢ move_text n) reported
    reported-once = new-differ move_text ([] ∷ []) made_moves

    pub reported-order : EachToLater Earlier reported
    reported-order = new-order move_text Earlier ([] ∷ []) made_moves all-moves-earlier

    -- ---- visited states

    -- two visited states of one class are the same
    one-of-class : (fs : List Found) → EachToLater (λ f g. class_of f ≢ class_of g) fs → (f g : Found) → Among f fs → Among g fs → class_of f ≡ class_of g → f ≡ g
    one-of-class [] differ f g in_f in_g alike = absurd in_f
    one-of-class (h ∷ fs) differ f g (inl e) (inl k) alike = e ∙ sym k
    one-of-class (h ∷ fs) differ f g (inl e) (inr k) alike = absurd (each-among (λ x. class_of h ≢ class_of x) fs differ.0 g k (ap class_of (sym e) ∙ alike))
    one-of-class (h ∷ fs) differ f g (inr k) (inl e) alike = absurd (each-among (λ x. class_of h ≢ class_of x) fs differ.0 f k (ap class_of (sym e) ∙ sym alike))
    one-of-class (h ∷ fs) differ f g (inr j) (inr k) alike = one-of-class fs differ.1 f g j k alike

    -- a visited state has the least witness of all states that the steps of the search reach in its class
    pub visited-least : (f : Found) → Among f found → (g : Found) → IsReached program_of s moves g → class_of g ≡ class_of f → IsNoLaterWitness f.witness g.witness
    unfolding HasNoLater
    visited-least f h g reached alike = by (no_later-reached g reached)
      where
        by : HasNoLater g → IsNoLaterWitness f.witness g.witness
        by (inl there) = subst (λ (x : Found). IsNoLaterWitness x.witness g.witness) (sym (one-of-class found finished.different f there.0 h there.1 (sym (there.2 ∙ alike)))) there.3
        by (inr all) = each-among (λ (x : Found). IsNoLaterWitness x.witness g.witness) found all f h

    -- ---- the first visited states that pass a test, one for each key

    module _ (test : State → Bool) (key : State → Numbers) (depend : DependOnClass class_of test key) where
      abbrev pub passed : List Found
      passed = filter (λ f. test f.state) found

      abbrev pub key_of : Found → Numbers
      key_of f = key f.state

      abbrev pub firsts : List Found
      firsts = elements_with_new_keys key_of [] passed

      passed-like : (g : Found) → Among g found → (f : Found) → class_of g ≡ class_of f → test f.state ≡ true → Among g passed × (key_of g ≡ key_of f)
      passed-like g within f alike passes = (among-filter (λ (f : Found). test f.state) g found within (depend.same_test g f alike ∙ passes), depend.same_key g f alike)

    -- a text of a reported step is found among them
    pub text-found : (text : Bytes) (m : Move) → Among m reported → move_text m ≡ text → list_any (λ n. bytes_eq (move_text n) text) reported ≡ true
    text-found text m h same = any-among (λ (n : Move). bytes_eq (move_text n) text) m reported h (ap (λ k. bytes_eq k text) same ∙ bytes_eq-itself text)

    -- ---- endings

    -- the counted trees are those of such states
    pub endings-are : endings found ≡ map (λ f. named_tree f.state.tree) (firsts has_ended tree_key it.ending)
    endings-are = new-map (λ (f : Found). named_tree f.state.tree) tree_numbers [] (filter (λ f. has_ended f.state) found)

    pub ends-in : (t : Tree) → Among t (endings found) → EndsIn program_of s t
    ends-in t h =
        let tree = map-among (λ (f : Found). named_tree f.state.tree) t (filter (λ f. has_ended f.state) found) (new-came tree_numbers [] _ t h) in
        let preserved = filter-among (λ (f : Found). has_ended f.state) tree.0 found tree.1 in
        let sound = sound-at tree.0 preserved.0 in
        record {
          pids = tree.0.witness;
          steps = sound.witness.steps;
          ended = ap has_ended sound.witness.leads ∙ preserved.1;
          tree = ap (λ u. named_tree u.tree) sound.witness.leads ∙ sym tree.2;
        }

    -- ---- if the search is complete

    module _ (complete : list_all (λ m. is_known same m found) made_moves ≡ true) where
      -- all reached states are in the classes of visited states
      pub all-found : (f : Found) → IsReached program_of s moves f → (g : Found) × Among g found × (class_of g ≡ class_of f)
      all-found f begins = (record { witness = []; state = s }, start-in, refl)
      all-found f (goes_on g m reached within) =
          let there = all-found g reached in
          let own = it.like g there.0 m (sound-reached g reached) (sound-at there.0 there.1) there.2 within in
          let next = class-there class_of it.decides own.0 found (all-among (λ (n : Move). is_known same n found) made_moves complete own.0 (among-flat moves there.0 own.0 found there.1 own.1)) in
          (next.0, next.1, next.2 ∙ own.2.after)

      -- with no later witness
      pub found-no_later : (f : Found) → IsReached program_of s moves f → (g : Found) × Among g found × (class_of g ≡ class_of f) × IsNoLaterWitness g.witness f.witness
      found-no_later f reached = let there = all-found f reached in (there.0, there.1, there.2, visited-least there.0 there.1 f reached (sym there.2))

      -- the text of each step is reported
      pub text-reported : (f : Found) (n : Move) → IsReached program_of s moves f → Among n (moves f) → move_text n ≢ [] → (m : Move) × Among m reported × (move_text m ≡ move_text n)
      text-reported f n reached within text =
          let there = all-found f reached in
          let own = it.like f there.0 n (sound-reached f reached) (sound-at there.0 there.1) there.2 within in
          like own.0 (ap trace_bytes own.2.lines) (new-like move_text ([] ∷ []) made_moves own.0 (among-flat moves there.0 own.0 found there.1 own.1))
        where
          like : (m : Move) → move_text m ≡ move_text n → Among (move_text m) ([] ∷ []) ⊎ ((k : Move) × Among k reported × (move_text k ≡ move_text m))
              → (k : Move) × Among k reported × (move_text k ≡ move_text n)
          like m alike (inl (inl none)) = absurd (text (sym alike ∙ none))
          like m alike (inl (inr none)) = absurd none
          like m alike (inr k) = (k.0, k.1, k.2 ∙ alike)

      -- each key of a reached state that passes a test is that of a first visited state
      pub first-found : (test : State → Bool) (key : State → Numbers) (depend : DependOnClass class_of test key) (f : Found) → IsReached program_of s moves f → test f.state ≡ true
          → (g : Found) × Among g (firsts test key depend) × (key g.state ≡ key f.state)
      first-found test key depend f reached passes =
          let there = all-found f reached in
          let like = passed-like test key depend there.0 there.1 f there.2 passes in
          by there.0 like.1 (new-like (λ (f : Found). key f.state) [] (passed test key depend) there.0 like.0)
        where
          by : (x : Found) → key x.state ≡ key f.state → Among (key x.state) [] ⊎ ((g : Found) × Among g (firsts test key depend) × (key g.state ≡ key x.state))
              → (g : Found) × Among g (firsts test key depend) × (key g.state ≡ key f.state)
          by x alike (inl none) = absurd none
          by x alike (inr g) = (g.0, g.1, g.2 ∙ alike)

      -- each tree that a reached state without live processes leaves is counted
      pub ending-found : (f : Found) → IsReached program_of s moves f → has_ended f.state ≡ true → Among (named_tree f.state.tree) (endings found)
      ending-found f reached ended =
          let tree : Found → Tree = λ g. named_tree g.state.tree in
          let first = first-found has_ended tree_key it.ending f reached ended in
          let within = among-map tree first.0 (firsts has_ended tree_key it.ending) first.1 in
          subst (Among (tree f)) (sym endings-are) (subst (λ t. Among t (map tree (firsts has_ended tree_key it.ending))) (same-tree_numbers (tree first.0) (tree f) first.2) within)
