-- The search of pairs: the visited pairs, its first difference, and its coverage if it is complete.
use Rattle.std.proofs.Common.{◌≡◌, ◌∙◌, sym, ap, subst, ℕ, zero, suc, ◌+◌, ◌<◌, ◌≤◌, Bool, true, false, not, ◌&&◌, ◌||◌, ◌==◌, if◌then◌else◌, nat_le, bytes_eq, max, List, [], ◌∷◌, ◌++◌, length, length-append, fold, flat_map, Option, None, Some, is_some, ◌⊎◌, inl, inr, refl, arith}
use Rattle.std.specs.List.{AllByRecursion, range_with_len}
use Rattle.std.proofs.lemmas.Bool.{and_parts, or_parts, leb-true}
use Rattle.std.proofs.lemmas.Bool.Decides.{nat_tests}
use Rattle.pv_model.specs.Machine.{FoundPair, PairMove, Comparison, different, alike, differs, pair_moves, comparison, same_state, Bytes, Program, Process, State, live, process_at, Run, step, step_of, run, trace_bytes}
use Rattle.pv_model.specs.Answers.Compare.{Pair, same_pair, pair_after, pair_found_by, is_pair_found, is_live, is_compared, live_in_either, pair_move, compared_from}
use Rattle.pv_model.specs.Answers.Search.{with_element, search, is_closed}
use Rattle.pv_model.specs.Trace.{gone_lines}
use Rattle.pv_model.proofs.RunComposition.{run-append}
use Rattle.pv_laws_trees.proofs.DirectoryEntries.{bytes_eq-itself}
use Rattle.pv_laws_states.specs.States.{IsValid, is_process_number}
use Rattle.pv_laws_states.proofs.ValidBySteps.{step-keeps_valid}
use Rattle.pv_laws_states.proofs.ReferenceMembers.{find_number-list_all, live-found}
use Rattle.pv_laws_answers.specs.Witnesses.{EachToLater}
use Rattle.pv_laws_answers.proofs.CompleteSearches.{still}
use Rattle.pv_laws_answers.proofs.Lists.{Among, each-among, each-from_among, each-weaker, among-any, all-among, among-map, map-among, among-flat, flat-among, among-filter, filter-among}
use Rattle.pv_laws_answers.proofs.StateDecoding.{reported-apart}
use Rattle.pv_laws_answers.proofs.WitnessOrders.{to_later-append}
use Rattle.pv_laws_schedules.specs.Compare.{IsWithoutDifference, ImageEqualsItself, AreComparable, pair_after_schedule, AreStepsOfEither, IsShortest}
use Rattle.pv_laws_schedules.proofs.BreadthFirstSearch

-- ---- a difference is found at the first step that differs

module _ (program_of : Bytes → Option Program) (limit : ℕ) where
  abbrev after_moves : List FoundPair → List PairMove → List FoundPair
  after_moves found ms = fold (with_element (pair_moves program_of) pair_found_by is_pair_found limit) found ms

  compared-cases : (found : List FoundPair) (m : PairMove) (ms : List PairMove) (P : Comparison → Type 0)
      → (differs m ≡ true → P (different m (length found)))
      → (differs m ≡ false → P (compared_from program_of limit (with_element (pair_moves program_of) pair_found_by is_pair_found limit found m) ms))
      → P (compared_from program_of limit found (m ∷ ms))
  compared-cases found m ms P if-yes if-no = by (differs m) refl
    where
      by : (b : Bool) → differs m ≡ b → P (if b then different m (length found) else compared_from program_of limit (with_element (pair_moves program_of) pair_found_by is_pair_found limit found m) ms)
      by true is = if-yes is
      by false is = if-no is

  none-differs : (found : List FoundPair) (ms : List PairMove) → AllByRecursion (λ m. differs m ≡ false) ms → IsWithoutDifference (compared_from program_of limit found ms)
  none-differs found [] none = tt
  none-differs found (m ∷ ms) none =
      let rest = none-differs (with_element (pair_moves program_of) pair_found_by is_pair_found limit found m) ms none.1 in
      compared-cases found m ms IsWithoutDifference (λ is. let no = none.0 in let e : true ≡ false = sym is ∙ no in absurd (cc)) (λ _. rest)

  -- a comparison that finds no difference made every step, and tests at the end whether the search is closed
  record NoneDiffers (found : List FoundPair) (ms : List PairMove) (complete : Bool) : Type 0 where
    pub none : AllByRecursion (λ m. differs m ≡ false) ms
    pub closed : is_closed (pair_moves program_of) pair_found_by is_pair_found limit (after_moves found ms) ≡ complete

  alike-none : (found : List FoundPair) (ms : List PairMove) (complete : Bool) (pairs : ℕ) → compared_from program_of limit found ms ≡ alike complete pairs → NoneDiffers found ms complete
  alike-none found [] complete pairs = λ is. record { none = tt; closed = cc }
  alike-none found (m ∷ ms) complete pairs =
      let rest = alike-none (with_element (pair_moves program_of) pair_found_by is_pair_found limit found m) ms complete pairs in
      compared-cases found m ms (λ c. c ≡ alike complete pairs → NoneDiffers found (m ∷ ms) complete)
      (λ _ is. absurd (cc)) (λ no is. let r = rest is in record { none = (no, r.none); closed = r.closed })

  module _ (R : PairMove → PairMove → Type 0) where
    -- the difference that is found is the first step that differs
    record IsFirst (ms : List PairMove) (m : PairMove) : Type 0 where
      pub within : Among m ms
      pub difference : differs m ≡ true
      pub first : (n : PairMove) → Among n ms → differs n ≡ true → (m ≡ n) ⊎ R m n

    different-first : (found : List FoundPair) (ms : List PairMove) (m : PairMove) (pairs : ℕ) → EachToLater R ms → compared_from program_of limit found ms ≡ different m pairs → IsFirst ms m
    different-first found [] m pairs order = λ is. absurd (cc)
    different-first found (n ∷ ms) m pairs order =
        let rest = different-first (with_element (pair_moves program_of) pair_found_by is_pair_found limit found n) ms m pairs order.1 in
        compared-cases found n ms (λ c. c ≡ different m pairs → IsFirst (n ∷ ms) m)
        (λ now is. let same : n ≡ m = cc in here same now)
        (λ no is. later no (rest is))
      where
        here : n ≡ m → differs n ≡ true → IsFirst (n ∷ ms) m
        here same now = record {
          within = inl (sym same);
          difference = ap differs (sym same) ∙ now;
          first = λ k within _. by k within;
        }
          where
            by : (k : PairMove) → Among k (n ∷ ms) → (m ≡ k) ⊎ R m k
            by k (inl e) = inl (sym (e ∙ same))
            by k (inr h) = inr (subst (λ (x : PairMove). R x k) same (each-among (R n) ms order.0 k h))

        later : differs n ≡ false → IsFirst ms m → IsFirst (n ∷ ms) m
        later is_same r = record { within = inr r.within; difference = r.difference; first = by }
          where
            by : (k : PairMove) → Among k (n ∷ ms) → differs k ≡ true → (m ≡ k) ⊎ R m k
            by k (inl e) now = let bad : true ≡ false = sym now ∙ ap differs e ∙ is_same in absurd (cc)
            by k (inr h) now = r.first k h now

-- ---- an image compared with itself

same-text : (m : PairMove) → m.first.lines ≡ m.second.lines → differs m ≡ false
same-text m same =
    ap (λ b. is_compared m && not b) (ap (λ ls. bytes_eq (trace_bytes m.first.lines) (trace_bytes ls)) (sym same) ∙ bytes_eq-itself (trace_bytes m.first.lines)) ∙ none (is_compared m)
  where
    none : (b : Bool) → (b && false) ≡ false
    none true = refl
    none false = refl

pub itself-alike : ImageEqualsItself
unfolding comparison
itself-alike program_of limit s =
    none-differs program_of limit (start ∷ []) (flat_map (pair_moves program_of) (search (pair_moves program_of) pair_found_by is_pair_found limit start))
    (each-from_among (λ m. differs m ≡ false) _ (λ m h.
    let from = flat-among (pair_moves program_of) m _ h in
    let both = each-among IsTwice _ twice from.0 from.1 in
    let made = map-among (pair_move program_of from.0) m (live_in_either from.0.states) from.2 in
    same-text m (ap (λ (n : PairMove). n.first.lines) made.2 ∙ ap (λ u. (step program_of u made.0).lines) both ∙ sym (ap (λ (n : PairMove). n.second.lines) made.2))))
  where
    start : FoundPair
    start = pair_after_schedule program_of [] s s

    IsTwice : FoundPair → Type 0
    IsTwice f = f.states.first ≡ f.states.second

    twice : AllByRecursion IsTwice (search (pair_moves program_of) pair_found_by is_pair_found limit start)
    twice = BreadthFirstSearch.each-found (pair_moves program_of) pair_found_by is_pair_found limit IsTwice
        (λ f is m own.
        let made = map-among (pair_move program_of f) m (live_in_either f.states) own in
        ap (λ (n : PairMove). n.first.after) made.2 ∙ ap (λ u. (step program_of u made.0).after) is ∙ sym (ap (λ (n : PairMove). n.second.after) made.2)) start refl

-- ---- the visited pairs

pair-equal : (a b : Pair) → a.first ≡ b.first → a.second ≡ b.second → a ≡ b
pair-equal a b e h = λ i. record { first = e i; second = h i }

known-pair : (m : PairMove) (found : List FoundPair) → is_pair_found m found ≡ true → (g : FoundPair) × Among g found × (g.states ≡ (pair_found_by m).states)
known-pair m found is =
    let there = among-any (λ (f : FoundPair). same_pair f.states (pair_after m)) found is in
    let parts = and_parts (same_state there.0.states.first m.first.after) (same_state there.0.states.second m.second.after) there.2 in
    (there.0, there.1, pair-equal there.0.states (pair_after m) ((reported-apart there.0.states.first m.first.after).0 parts.0) ((reported-apart there.0.states.second m.second.after).0 parts.1))

pub among-range : (k n pid : ℕ) → k ≤ pid → pid < k + n → Among pid (range_with_len k n)
among-range k zero pid low high = absurd (omega arith)
among-range k (suc n) pid low high = by (among-range (k + 1) n pid) (pid == k) refl
  where
    by : (k + 1 ≤ pid → pid < (k + 1) + n → Among pid (range_with_len (k + 1) n)) → (b : Bool) → (pid == k) ≡ b → Among pid (range_with_len k (suc n))
    by later true is = inl (grind (arith, nat_tests))
    by later false is = inr (later (grind (arith, nat_tests)) (omega arith))

-- the number of a live process
live-number : (s : State) (pid : ℕ) → IsValid s → is_live s pid ≡ true → (1 ≤ pid) × (pid ≤ s.last_process)
live-number s pid whole is = by (process_at s pid) refl is
  where
    by : (o : Option Process) → process_at s pid ≡ o → is_some o ≡ true → (1 ≤ pid) × (pid ≤ s.last_process)
    by None none some = cc
    by (Some p) found some =
        let number = find_number-list_all (is_process_number s.last_process) pid (live p) s.processes whole.processes.numbers (live-found s pid p found) in
        let parts = and_parts (nat_le 1 pid) (nat_le pid s.last_process) number in
        (leb-true 1 pid parts.0, leb-true pid s.last_process parts.1)

-- a process that is live in either state is listed
either-listed : (b : Pair) (pid : ℕ) → IsValid b.first → IsValid b.second → (is_live b.first pid || is_live b.second pid) ≡ true → Among pid (live_in_either b)
either-listed b pid first second is =
    let number = by (is_live b.first pid) (is_live b.second pid) refl refl is in
    among-filter (λ pid. is_live b.first pid || is_live b.second pid) pid (range_with_len 1 (max b.first.last_process b.second.last_process))
    (among-range 1 (max b.first.last_process b.second.last_process) pid number.0 (omega (arith, number.1))) is
  where
    by : (x y : Bool) → is_live b.first pid ≡ x → is_live b.second pid ≡ y → (x || y) ≡ true → (1 ≤ pid) × (pid ≤ max b.first.last_process b.second.last_process)
    by true y e h some = let n = live-number b.first pid first e in (n.0, omega (arith, n.1))
    by false true e h some = let n = live-number b.second pid second h in (n.0, omega (arith, n.1))
    by false false e h some = cc

-- a process that is live in neither state changes nothing
dead-still : (program_of : Bytes → Option Program) (s : State) (pid : ℕ) → is_live s pid ≡ false → (step program_of s pid).after ≡ s
dead-still program_of s pid is = by (process_at s pid) refl is
  where
    by : (o : Option Process) → process_at s pid ≡ o → is_some o ≡ false → (step program_of s pid).after ≡ s
    by None none is' = still program_of s pid none
    by (Some p) some is' = cc

dead-lines : (program_of : Bytes → Option Program) (s : State) (pid : ℕ) → is_live s pid ≡ false → (step program_of s pid).lines ≡ gone_lines pid
unfolding step
dead-lines program_of s pid is = by (process_at s pid) refl is
  where
    by : (o : Option Process) → process_at s pid ≡ o → is_some o ≡ false → (step_of program_of s pid (process_at s pid)).lines ≡ gone_lines pid
    by None none is' = ap (λ o. (step_of program_of s pid o).lines) none
    by (Some p) some is' = cc

module _ (program_of : Bytes → Option Program) where
  abbrev pub next_pair : Pair → ℕ → Pair
  next_pair b pid = record { first = (step program_of b.first pid).after; second = (step program_of b.second pid).after }

  pub final-more : (pids : List ℕ) (pid : ℕ) (s : State) → (run program_of (pids ++ pid ∷ []) s).final ≡ (step program_of (run program_of pids s).final pid).after
  final-more pids pid s = ap (λ (r : Run). r.final) (run-append program_of pids (pid ∷ []) s)

  steps-more : (pids : List ℕ) (pid : ℕ) (s t : State) → AreStepsOfEither program_of pids s t → (is_live (run program_of pids s).final pid || is_live (run program_of pids t).final pid) ≡ true
      → AreStepsOfEither program_of (pids ++ pid ∷ []) s t
  steps-more [] pid s t steps lives = (lives, tt)
  steps-more (other ∷ pids) pid s t steps lives = (steps.0, steps-more pids pid (step program_of s other).after (step program_of t other).after steps.1 lives)

  module _ (limit : ℕ) (s t : State) (it : AreComparable program_of limit s t) where
    abbrev start : FoundPair
    start = pair_after_schedule program_of [] s t

    abbrev found : List FoundPair
    found = search (pair_moves program_of) pair_found_by is_pair_found limit start

    abbrev all_moves : List PairMove
    all_moves = flat_map (pair_moves program_of) found

    -- a visited pair is valid, and its witness leads to it
    record IsSound (f : FoundPair) : Type 0 where
      pub first : IsValid f.states.first
      pub second : IsValid f.states.second
      pub leads : f ≡ pair_after_schedule program_of f.witness s t
      pub steps : AreStepsOfEither program_of f.witness s t

    -- a move of a visited pair
    record IsMade (f : FoundPair) (m : PairMove) : Type 0 where
      pub is : m ≡ pair_move program_of f m.pid
      pub lives : (is_live f.states.first m.pid || is_live f.states.second m.pid) ≡ true

    made-by : (f : FoundPair) (m : PairMove) → Among m (pair_moves program_of f) → IsMade f m
    made-by f m own =
        let made = map-among (pair_move program_of f) m (live_in_either f.states) own in
        let pid : m.pid ≡ made.0 = ap (λ (n : PairMove). n.pid) made.2 in
        let lives = filter-among (λ pid. is_live f.states.first pid || is_live f.states.second pid) made.0 (range_with_len 1 (max f.states.first.last_process f.states.second.last_process)) made.1 in
        record { is = made.2 ∙ ap (pair_move program_of f) (sym pid); lives = ap (λ k. is_live f.states.first k || is_live f.states.second k) pid ∙ lives.1 }

    leads-more : (f : FoundPair) (pid : ℕ) → f ≡ pair_after_schedule program_of f.witness s t → pair_found_by (pair_move program_of f pid) ≡ pair_after_schedule program_of (f.witness ++ pid ∷ []) s t
    leads-more f pid leads =
        let a : f.states.first ≡ (run program_of f.witness s).final = ap (λ (g : FoundPair). g.states.first) leads in
        let b : f.states.second ≡ (run program_of f.witness t).final = ap (λ (g : FoundPair). g.states.second) leads in
        λ i. record {
          witness = f.witness ++ pid ∷ [];
          states = record {
            first = (ap (λ u. (step program_of u pid).after) a ∙ sym (final-more f.witness pid s)) i;
            second = (ap (λ u. (step program_of u pid).after) b ∙ sym (final-more f.witness pid t)) i;
          };
        }

    sound-move : (f : FoundPair) → IsSound f → (m : PairMove) → Among m (pair_moves program_of f) → IsSound (pair_found_by m)
    sound-move f is m own =
        let made = made-by f m own in
        subst (λ (n : PairMove). IsSound (pair_found_by n)) (sym made.is) (record {
          first = step-keeps_valid program_of it.encodes f.states.first m.pid is.first;
          second = step-keeps_valid program_of it.encodes f.states.second m.pid is.second;
          leads = leads-more f m.pid is.leads;
          steps = steps-more f.witness m.pid s t is.steps (subst (λ (g : FoundPair). (is_live g.states.first m.pid || is_live g.states.second m.pid) ≡ true) is.leads made.lives);
        })

    all-sound : AllByRecursion IsSound found
    all-sound = BreadthFirstSearch.each-found (pair_moves program_of) pair_found_by is_pair_found limit IsSound sound-move start (record { first = it.first; second = it.second; leads = refl; steps = tt })

    sound-at : (f : FoundPair) → Among f found → IsSound f
    sound-at f within = each-among IsSound found all-sound f within

    -- a step of a process that is live in either state of a visited pair is among the moves
    own-move : (g : FoundPair) (pid : ℕ) → Among g found → (is_live g.states.first pid || is_live g.states.second pid) ≡ true → Among (pair_move program_of g pid) (pair_moves program_of g)
    own-move g pid within lives =
        let sound = sound-at g within in
        among-map (pair_move program_of g) pid (live_in_either g.states) (either-listed g.states pid sound.first sound.second lives)

    -- ---- the order of the search

    abbrev size : FoundPair → ℕ
    size f = length f.witness

    abbrev Same : FoundPair → FoundPair → Type 0
    Same f g = f.states ≡ g.states

    grows : (f : FoundPair) (m : PairMove) → Among m (pair_moves program_of f) → size (pair_found_by m) ≡ suc (size f)
    grows f m own =
        let made = made-by f m own in
        ap (λ (n : PairMove). length n.witness) made.is ∙ (omega (arith, length-append f.witness (m.pid ∷ [])))

    finished : BreadthFirstSearch.Finished (pair_moves program_of) pair_found_by is_pair_found limit size Same grows known-pair (λ f. refl) (start ∷ []) [] found
    finished = BreadthFirstSearch.finished (pair_moves program_of) pair_found_by is_pair_found limit size Same grows known-pair (λ f. refl) start it.room

    abbrev NoLonger : PairMove → PairMove → Type 0
    NoLonger m n = length m.witness ≤ length n.witness

    made-size : (f : FoundPair) (m : PairMove) → Among m (pair_moves program_of f) → length m.witness ≡ suc (size f)
    made-size f m own = grows f m own

    moves-in_order : (fs : List FoundPair) → EachToLater (λ f g. size f ≤ size g) fs → EachToLater NoLonger (flat_map (pair_moves program_of) fs)
    moves-in_order [] r = tt
    moves-in_order (f ∷ fs) r =
        to_later-append NoLonger (pair_moves program_of f) (flat_map (pair_moves program_of) fs) (own (pair_moves program_of f) (λ m h. h)) (moves-in_order fs r.1)
        (λ m h n k.
        let from = flat-among (pair_moves program_of) n fs k in
        let le = each-among (λ g. size f ≤ size g) fs r.0 from.0 from.1 in
        omega (arith, made-size f m h, made-size from.0 n from.2))
      where
        own : (ms : List PairMove) → ((m : PairMove) → Among m ms → Among m (pair_moves program_of f)) → EachToLater NoLonger ms
        own [] h = tt
        own (m ∷ ms) h =
            (each-from_among (NoLonger m) ms (λ n k. omega (arith, made-size f m (h m (inl refl)), made-size f n (h n (inr k)))), own ms (λ n k. h n (inr k)))

    -- a pair is visited with a witness of at most this length, or all visited pairs have such witnesses
    abbrev ReachedIn : ℕ → Pair → Type 0
    ReachedIn n b = ((g : FoundPair) × Among g found × (g.states ≡ b) × (size g ≤ n)) ⊎ AllByRecursion (λ g. size g ≤ n) found

    reached-next : (n : ℕ) (b : Pair) (pid : ℕ) → ReachedIn n b → ReachedIn (suc n) (next_pair b pid)
    reached-next n b pid (inr all) = inr (each-weaker (λ g. size g ≤ n) (λ g. size g ≤ suc n) (λ g le. omega arith) found all)
    reached-next n b pid (inl here) = by (is_live here.0.states.first pid || is_live here.0.states.second pid) refl
      where
        g : FoundPair
        g = here.0

        on : BreadthFirstSearch.LeadsOn (pair_moves program_of) pair_found_by is_pair_found limit size Same grows known-pair (λ f. refl) found (pair_move program_of here.0 pid) → length (here.0.witness ++ pid ∷ []) ≤ suc n → ReachedIn (suc n) (next_pair b pid)
        on (inl next) le = inl (next.0, next.1, next.2 ∙ ap (λ c. next_pair c pid) here.2, omega (arith, next.3))
        on (inr full) le = inr (each-weaker (λ h. size h ≤ length (here.0.witness ++ pid ∷ [])) (λ h. size h ≤ suc n) (λ h k. omega arith) found full.1)

        by : (live : Bool) → (is_live here.0.states.first pid || is_live here.0.states.second pid) ≡ live → ReachedIn (suc n) (next_pair b pid)
        by true lives =
            on (each-among (BreadthFirstSearch.LeadsOn (pair_moves program_of) pair_found_by is_pair_found limit size Same grows known-pair (λ f. refl) found) (pair_moves program_of here.0)
            (each-among (λ f. AllByRecursion (BreadthFirstSearch.LeadsOn (pair_moves program_of) pair_found_by is_pair_found limit size Same grows known-pair (λ f. refl) found) (pair_moves program_of f)) found finished.leads here.0 here.1)
            (pair_move program_of here.0 pid) (own-move here.0 pid here.1 lives)) (omega (arith, here.3, length-append here.0.witness (pid ∷ [])))
        by false dead =
            let parts = or_parts (is_live here.0.states.first pid) (is_live here.0.states.second pid) dead in
            inl (
              here.0,
              here.1,
              sym (pair-equal (next_pair here.0.states pid) here.0.states (dead-still program_of here.0.states.first pid parts.0) (dead-still program_of here.0.states.second pid parts.1))
                  ∙ ap (λ c. next_pair c pid) here.2,
              omega (arith, here.3),
            )

    reached-by : (pids : List ℕ) (n : ℕ) (b : Pair) → ReachedIn n b → ReachedIn (length pids + n) (pair_after_schedule program_of pids b.first b.second).states
    reached-by [] n b by = subst (λ (k : ℕ). ReachedIn k b) (omega arith) by
    reached-by (pid ∷ pids) n b by =
        subst (λ (k : ℕ). ReachedIn k (pair_after_schedule program_of (pid ∷ pids) b.first b.second).states) (omega arith) (reached-by pids (suc n) (next_pair b pid) (reached-next n b pid by))

    reached : (pids : List ℕ) → ReachedIn (length pids) (pair_after_schedule program_of pids s t).states
    reached pids =
        subst (λ (k : ℕ). ReachedIn k (pair_after_schedule program_of pids s t).states) (omega arith)
        (reached-by pids 0 start.states (inl (start, subst (Among start) (sym finished.more.1) (inl refl), refl, omega arith)))

    -- ---- differences

    -- a step of a process that is live in neither state does not differ
    differing-lives : (g : FoundPair) (pid : ℕ) → differs (pair_move program_of g pid) ≡ true → (is_live g.states.first pid || is_live g.states.second pid) ≡ true
    differing-lives g pid is = by (is_live g.states.first pid || is_live g.states.second pid) refl
      where
        by : (live : Bool) → (is_live g.states.first pid || is_live g.states.second pid) ≡ live → live ≡ true
        by true lives = refl
        by false dead =
            let parts = or_parts (is_live g.states.first pid) (is_live g.states.second pid) dead in
            let same = same-text (pair_move program_of g pid) (dead-lines program_of g.states.first pid parts.0 ∙ sym (dead-lines program_of g.states.second pid parts.1)) in
            sym same ∙ is

    -- the difference of a step depends on the pair alone
    differs-with : (f g : FoundPair) (pid : ℕ) → f.states ≡ g.states → differs (pair_move program_of f pid) ≡ differs (pair_move program_of g pid)
    differs-with f g pid same = ap (λ b. differs (pair_move program_of (record { witness = []; states = b }) pid)) same

    module _ (m : PairMove) (pairs : ℕ) (is : compared_from program_of limit (start ∷ []) all_moves ≡ different m pairs) where
      first : IsFirst program_of limit NoLonger all_moves m
      first = different-first program_of limit NoLonger (start ∷ []) all_moves m pairs (moves-in_order found finished.rising) is

      shortest-by : (from : FoundPair) → Among from found → IsMade from m → length m.witness ≡ suc (size from) → (pids : List ℕ) (pid : ℕ) → ReachedIn (length pids) (pair_after_schedule program_of pids s t).states
          → differs (pair_move program_of (pair_after_schedule program_of pids s t) pid) ≡ true → size from ≤ length pids
      shortest-by from within made long pids pid (inr all) difference = each-among (λ g. size g ≤ length pids) found all from within
      shortest-by from within made long pids pid (inl here) difference =
          let there = differs-with here.0 (pair_after_schedule program_of pids s t) pid here.2 ∙ difference in
          let own = among-flat (pair_moves program_of) here.0 (pair_move program_of here.0 pid) found here.1 (own-move here.0 pid here.1 (differing-lives here.0 pid there)) in
          by (first.first (pair_move program_of here.0 pid) own there)
        where
          by : (m ≡ pair_move program_of here.0 pid) ⊎ NoLonger m (pair_move program_of here.0 pid) → size from ≤ length pids
          by (inl e) = omega (arith, ap (λ (n : PairMove). length n.witness) e, length-append here.0.witness (pid ∷ []), here.3)
          by (inr le) = omega (arith, le, length-append here.0.witness (pid ∷ []), here.3)

      is-shortest : IsShortest program_of s t m
      is-shortest =
          let from = flat-among (pair_moves program_of) m found first.within in
          let made = made-by from.0 m from.2 in
          let sound = sound-at from.0 from.1 in
          record {
            before = from.0.witness;
            leads = made.is ∙ ap (λ f. pair_move program_of f m.pid) sound.leads;
            steps = steps-more from.0.witness m.pid s t sound.steps (subst (λ (g : FoundPair). (is_live g.states.first m.pid || is_live g.states.second m.pid) ≡ true) sound.leads made.lives);
            difference = first.difference;
            shortest = λ pids pid. shortest-by from.0 from.1 made (made-size from.0 m from.2) pids pid (reached pids);
          }

    pub shortest : (m : PairMove) (pairs : ℕ) → comparison program_of limit s t ≡ different m pairs → IsShortest program_of s t m
    unfolding comparison
    shortest m pairs is = is-shortest m pairs is

    -- ---- no difference

    module _ (pairs : ℕ) (is : compared_from program_of limit (start ∷ []) all_moves ≡ alike true pairs) where
      none : NoneDiffers program_of limit (start ∷ []) all_moves true
      none = alike-none program_of limit (start ∷ []) all_moves true pairs is

      closed : is_closed (pair_moves program_of) pair_found_by is_pair_found limit found ≡ true
      closed =
          ap (is_closed (pair_moves program_of) pair_found_by is_pair_found limit) (sym (BreadthFirstSearch.made-again (pair_moves program_of) pair_found_by is_pair_found limit size Same grows known-pair (λ f. refl) start it.room))
          ∙ none.closed

      abbrev IsVisited : Pair → Type 0
      IsVisited b = (g : FoundPair) × Among g found × (g.states ≡ b)

      visited-next : (b : Pair) (pid : ℕ) → IsVisited b → IsVisited (next_pair b pid)
      visited-next b pid here = by (is_live here.0.states.first pid || is_live here.0.states.second pid) refl
        where
          by : (live : Bool) → (is_live here.0.states.first pid || is_live here.0.states.second pid) ≡ live → IsVisited (next_pair b pid)
          by true lives =
              let own = among-flat (pair_moves program_of) here.0 (pair_move program_of here.0 pid) found here.1 (own-move here.0 pid here.1 lives) in
              let next = known-pair (pair_move program_of here.0 pid) found (all-among (λ m. is_pair_found m found) all_moves closed (pair_move program_of here.0 pid) own) in
              (next.0, next.1, next.2 ∙ ap (λ c. next_pair c pid) here.2)
          by false dead =
              let parts = or_parts (is_live here.0.states.first pid) (is_live here.0.states.second pid) dead in (
                here.0,
                here.1,
                sym (pair-equal (next_pair here.0.states pid) here.0.states (dead-still program_of here.0.states.first pid parts.0) (dead-still program_of here.0.states.second pid parts.1))
                    ∙ ap (λ c. next_pair c pid) here.2,
              )

      visited-by : (pids : List ℕ) (b : Pair) → IsVisited b → IsVisited (pair_after_schedule program_of pids b.first b.second).states
      visited-by [] b here = here
      visited-by (pid ∷ pids) b here = visited-by pids (next_pair b pid) (visited-next b pid here)

      visited : (pids : List ℕ) → IsVisited (pair_after_schedule program_of pids s t).states
      visited pids = visited-by pids start.states (start, subst (Among start) (sym finished.more.1) (inl refl), refl)

      -- no step of any schedule differs
      no-difference : (pids : List ℕ) (pid : ℕ) → differs (pair_move program_of (pair_after_schedule program_of pids s t) pid) ≡ false
      no-difference pids pid = by (differs (pair_move program_of (pair_after_schedule program_of pids s t) pid)) refl
        where
          by : (b : Bool) → differs (pair_move program_of (pair_after_schedule program_of pids s t) pid) ≡ b → b ≡ false
          by false same = refl
          by true is_different =
              let here = visited pids in
              let there = differs-with here.0 (pair_after_schedule program_of pids s t) pid here.2 ∙ is_different in
              let own = among-flat (pair_moves program_of) here.0 (pair_move program_of here.0 pid) found here.1 (own-move here.0 pid here.1 (differing-lives here.0 pid there)) in
              sym there ∙ each-among (λ m. differs m ≡ false) all_moves none.none (pair_move program_of here.0 pid) own

    -- if the comparison finds no difference, no step of any schedule differs
    pub none-different : (pairs : ℕ) → comparison program_of limit s t ≡ alike true pairs
        → (pids : List ℕ) (pid : ℕ) → differs (pair_move program_of (pair_after_schedule program_of pids s t) pid) ≡ false
    unfolding comparison
    none-different pairs is = no-difference pairs is
