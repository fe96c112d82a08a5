-- The bytes and data of the reduced search are those of the definitions.
use Rattle.std.proofs.Common.{◌≡◌, ◌∙◌, sym, ap, ap₂, subst, ℕ, zero, suc, ◌+◌, ◌<◌, ◌≤◌, Bool, true, false, ◌&&◌, ◌||◌, ◌==◌, cond, if◌then◌else◌, nat_le, bytes_eq, List, [], ◌∷◌, ◌++◌, length, map, filter, flat_map, fold, take, append_assoc, append-nil, length-append, slice_get, Option, None, Some, option_map, ◌⊎◌, inl, inr, ⊎_elim, refl, arith}
use Rattle.std.specs.Prelude.{slice_index}
use Rattle.std.specs.List.{AllByRecursion, list_any, list_all}
use Rattle.std.proofs.lemmas.Bool.{and_parts, and_from, eq-eqb, eqb-true}
use Rattle.std.proofs.lemmas.Bool.Decides.{nat_tests}
use Rattle.std.proofs.lemmas.Grind.{flat_map-append}
use Rattle.std.proofs.lemmas.List.{length-map, map-append, take_all}
use Rattle.std.proofs.lemmas.List.Folds.{list_any-append}
use Rattle.std.proofs.lemmas.Option.{slice_get-map, slice_get_cases}
use Rattle.pv_model.specs.Machine.{Found, Move, found_by, move, moves_of, endings, same_state, state_numbers, Observation, Observer, observed, Bytes, live_processes, Program, Process, State, Run, step}
use Rattle.pv_model.specs.Answers.Search
use Rattle.pv_model.proofs.RunComposition.{run-append}
use Rattle.pv_laws_trees.proofs.DirectoryEntries.{bytes_eq-same, bytes_eq-itself}
use Rattle.pv_laws_classes.proofs.OfLawsAnswers.Lists.{each-append}
use Rattle.pv_laws_classes.proofs.OfLawsAnswers.StateDecoding.{reported-apart, same-state_numbers}
use Rattle.pv_laws_classes.specs.Reduced.{are_identified, bound_after, bound_at, bound_by, is_identified, may_step, reduced_found, reduced_moves, reduced_moves_of, representative}
use Rattle.std.specs.Cmp.{both_ways}
use Rattle.pv_state_encoding.specs.Groups.{concatenated_groups, state_groups}
use Rattle.pv_state_encoding.specs.Packed.{packed_all}
use Rattle.pv_state_encoding.proofs.InjectiveEncoding.{packed-apart}
use Rattle.pv_state_encoding.proofs.StateGroups.{state-concatenated_groups}
use Rattle.pv_explore.specs.Plan.{move_at, reported_after, state_at, tree_key}
use Rattle.pv_explore.proofs.PlannedSearch.{all-last, and-with, any-map, endings-visited, false-last, items, items-step, reported-append, true-last, witness_of_found, written, written-append, written-step}
use Rattle.pv_reduced.specs.Keys.{reduced_parts, same_parts}
use Rattle.pv_laws_classes.specs.ReducedAnswers.{reduced_observations, reduced_observations_at}
use Rattle.pv_reduced.specs.Plan.{ReducedVisited, and_reduced_report, and_reduced_visit, reduced_first_visited, is_known_reduced, moving_at, reduced_reported_from, reduced_reported_steps, reduced_texts_at, reduced_visited_after, reduced_visited_after_steps, reduced_visited_from, reduced_with_state_at}

-- ---- comparison of parts

parts-equal : (xs ys : List Bytes) → same_parts xs ys ≡ true → xs ≡ ys
parts-equal [] [] is = refl
parts-equal [] (y ∷ ys) is = cc
parts-equal (x ∷ xs) [] is = cc
parts-equal (x ∷ xs) (y ∷ ys) is =
    let both = and_parts (bytes_eq x y) (same_parts xs ys) is in
    ap₂ (λ (z : Bytes) (zs : List Bytes). z ∷ zs) (bytes_eq-same x y both.0) (parts-equal xs ys both.1)

parts-themselves : (xs : List Bytes) → same_parts xs xs ≡ true
parts-themselves [] = refl
parts-themselves (x ∷ xs) = and_from (bytes_eq x x) (same_parts xs xs) (bytes_eq-itself x) (parts-themselves xs)

-- the parts of all groups of a state
abbrev state_parts : State → List Bytes
state_parts t = flat_map (λ group. group) (state_groups t)

-- the concatenation of these is the encoding of the state
groups-flat : (gs : List (List Bytes)) → flat_map (λ (p : Bytes). p) (flat_map (λ (group : List Bytes). group) gs) ≡ concatenated_groups gs
groups-flat [] = refl
groups-flat (g ∷ gs) =
    flat_map-append (λ (p : Bytes). p) g (flat_map (λ (group : List Bytes). group) gs) ∙ ap (λ (bs : Bytes). flat_map (λ (p : Bytes). p) g ++ bs) (groups-flat gs)

parts-flat : (t : State) → flat_map (λ (p : Bytes). p) (state_parts t) ≡ packed_all (state_numbers t)
parts-flat t = groups-flat (state_groups t) ∙ state-concatenated_groups t

-- states with the same parts are equal
same-by_parts : (t u : State) → state_parts t ≡ state_parts u → t ≡ u
same-by_parts t u is =
    let bytes : packed_all (state_numbers t) ≡ packed_all (state_numbers u) = sym (parts-flat t) ∙ ap (flat_map (λ (p : Bytes). p)) is ∙ parts-flat u in
    same-state_numbers t u (packed-apart (state_numbers t) (state_numbers u) bytes)

-- comparing the parts of two states with bounds compares the bounds and the representatives
parts-test : (b c : ℕ) (t u : State) → same_parts (reduced_parts b t) (reduced_parts c u) ≡ ((c == b) && same_state (representative u) (representative t))
parts-test b c t u = both_ways (same_parts (reduced_parts b t) (reduced_parts c u)) ((c == b) && same_state v r) there back
  where
    r : State
    r = representative t

    v : State
    v = representative u

    there : same_parts (reduced_parts b t) (reduced_parts c u) ≡ true → ((c == b) && same_state v r) ≡ true
    there is =
        let both = and_parts (bytes_eq (packed_all (b ∷ [])) (packed_all (c ∷ []))) (same_parts (state_parts r) (state_parts v)) is in
        let bounds : b ∷ [] ≡ c ∷ [] = packed-apart (b ∷ []) (c ∷ []) (bytes_eq-same (packed_all (b ∷ [])) (packed_all (c ∷ [])) both.0) in
        let bound : b ≡ c = cc bounds in
        let states : r ≡ v = same-by_parts r v (parts-equal (state_parts r) (state_parts v) both.1) in
        and_from (c == b) (same_state v r) (eq-eqb c b (sym bound)) ((reported-apart v r).1 (sym states))

    back : ((c == b) && same_state v r) ≡ true → same_parts (reduced_parts b t) (reduced_parts c u) ≡ true
    back is =
        let both = and_parts (c == b) (same_state v r) is in
        let bound : b ≡ c = sym (eqb-true c b both.0) in
        let states : r ≡ v = sym ((reported-apart v r).0 both.1) in
        subst (λ (ps : List Bytes). same_parts (reduced_parts b t) ps ≡ true)
        (ap₂ (λ (n : ℕ) (w : State). packed_all (n ∷ []) ∷ state_parts w) bound states) (parts-themselves (reduced_parts b t))

-- ---- bounds

-- the process that must make the step after one more step
bound-last : (program_of : Bytes → Option Program) (s : State) (witness : List ℕ) (pid : ℕ)
    → bound_after program_of s (witness ++ pid ∷ []) ≡ bound_by (state_at program_of s witness) pid
bound-last program_of s [] pid = refl
bound-last program_of s (p ∷ []) pid = refl
bound-last program_of s (p ∷ q ∷ witness) pid = bound-last program_of (step program_of s p).after (q ∷ witness) pid

number-at : {X : Type 0} (f : X → ℕ) (xs : List X) (k : ℕ) (x : X) → slice_get xs k ≡ Some x → slice_index (map f xs) k ≡ f x
number-at f [] k x at = cc
number-at f (y ∷ ys) zero x at = let same : y ≡ x = cc in ap f same
number-at f (y ∷ ys) (suc k) x at = number-at f ys k x at

-- ---- the visited states

module _ (program_of : Bytes → Option Program) (limit : ℕ) (s : State) where
  -- the visited states after a step, and after the steps from more of them
  abbrev pub with_move : List Found → Move → List Found
  with_move found m = Search.with_element (reduced_moves_of program_of s) found_by (is_identified program_of s) limit found m

  abbrev pub found_after : (List Found → List Found) → List Found → Option Found → List Found
  found_after rest found f = Search.elements_after (reduced_moves_of program_of s) found_by (is_identified program_of s) limit rest found f

  abbrev pub found_from : ℕ → ℕ → List Found → List Found
  found_from states k found = Search.elements_from (reduced_moves_of program_of s) found_by (is_identified program_of s) limit states k found

  first-states : found_from limit 0 (record { witness = []; state = s } ∷ []) ≡ reduced_found program_of s limit
  unfolding reduced_found
  first-states = refl

  -- the parts of a visited state
  abbrev pub parts_of_found : Found → List Bytes
  parts_of_found f = reduced_parts (bound_at program_of s f) f.state

  known-found : (m : Move) (bound : ℕ) → bound ≡ bound_at program_of s (found_by m) → (found : List Found)
      → list_any (same_parts (reduced_parts bound m.stepped.after)) (map parts_of_found found) ≡ is_identified program_of s m found
  known-found m bound is found =
      any-map parts_of_found (same_parts (reduced_parts bound m.stepped.after)) (λ f. are_identified program_of s f (found_by m))
      (λ f.
      parts-test bound (bound_at program_of s f) m.stepped.after f.state
      ∙ ap (λ (n : ℕ). (bound_at program_of s f == n) && same_state (representative f.state) (representative m.stepped.after)) is) found

  -- a state is identified with itself
  last-found : (m : Move) (found : List Found) → is_identified program_of s m (found ++ found_by m ∷ []) ≡ true
  last-found m found =
      list_any-append (λ (f : Found). are_identified program_of s f (found_by m)) found (found_by m ∷ [])
      ∙ ap (λ b. is_identified program_of s m found || (b || false)) itself
      ∙ or-true (is_identified program_of s m found)
    where
      bound : ℕ
      bound = bound_at program_of s (found_by m)

      itself : are_identified program_of s (found_by m) (found_by m) ≡ true
      itself =
          and_from (bound == bound) (same_state (representative m.stepped.after) (representative m.stepped.after)) (eq-eqb bound bound refl)
          (bytes_eq-itself (state_numbers (representative m.stepped.after)))

      or-true : (b : Bool) → (b || (true || false)) ≡ true
      or-true true = refl
      or-true false = refl

  -- ---- the data of the visited states and the steps made

  pub record Keeps (found : List Found) (made : List Move) (visited : ReducedVisited) : Type 0 where
    pub bounds : visited.bounds ≡ map (bound_at program_of s) found
    pub keys : visited.keys ≡ map parts_of_found found
    pub witnesses : visited.witnesses ≡ map witness_of_found found
    pub endings : visited.endings ≡ map tree_key (endings found)
    pub complete : visited.complete ≡ list_all (λ m. is_identified program_of s m found) made
    pub full : (visited.complete ≡ true) ⊎ (limit ≤ length found)

  -- a step preserves the data
  keeps-move : (found : List Found) (made : List Move) (visited : ReducedVisited) (m : Move) (bound : ℕ) (texts : List Bytes) → bound ≡ bound_at program_of s (found_by m) → Keeps found made visited
      → Keeps (with_move found m) (made ++ m ∷ []) (reduced_visited_after limit visited bound m texts)
  keeps-move found made visited m bound texts bound_is it =
      subst (λ (c : Bool). Keeps (with_move found m) (made ++ m ∷ []) (after c (nat_le limit (length visited.keys)))) (sym known)
      (subst (λ (n : ℕ). Keeps (with_move found m) (made ++ m ∷ []) (after (is_identified program_of s m found) (nat_le limit n))) (sym long)
      (by (is_identified program_of s m found) refl (nat_le limit (length found)) refl))
    where
      known : is_known_reduced visited bound m.stepped.after ≡ is_identified program_of s m found
      known = ap (list_any (same_parts (reduced_parts bound m.stepped.after))) it.keys ∙ known-found m bound bound_is found

      long : length visited.keys ≡ length found
      long = ap length it.keys ∙ length-map found parts_of_found

      after : Bool → Bool → ReducedVisited
      after a b =
          record
          (if a then visited
          else if b then record visited { complete = false }
          else reduced_with_state_at visited bound m.witness m.stepped.after) { reported = reported_after visited.reported texts }

      test : List Found → Move → Bool
      test fs n = is_identified program_of s n fs

      more : List Found
      more = found ++ found_by m ∷ []

      still : (n : Move) → test found n ≡ true → test more n ≡ true
      still n is =
          list_any-append (λ (f : Found). are_identified program_of s f (found_by n)) found (found_by m ∷ [])
          ∙ ap (λ b. b || is_identified program_of s n (found_by m ∷ [])) is

      all-still : (ns : List Move) → list_all (test found) ns ≡ true → list_all (test more) ns ≡ true
      all-still [] is = refl
      all-still (n ∷ ns) is =
          let parts = and_parts (test found n) (list_all (test found) ns) is in
          and_from (test more n) (list_all (test more) ns) (still n parts.0) (all-still ns parts.1)

      new : test more m ≡ true
      new = last-found m found

      complete-now : (limit ≤ length found → ⊥) → visited.complete ≡ true
      complete-now room = ⊎_elim (λ is. is) (λ full. absurd (room full)) it.full

      by : (a : Bool) → test found m ≡ a → (b : Bool) → nat_le limit (length found) ≡ b → Keeps (if a || b then found else more) (made ++ m ∷ []) (after a b)
      by true is b le = record {
        bounds = it.bounds;
        keys = it.keys;
        witnesses = it.witnesses;
        endings = it.endings;
        complete = it.complete ∙ sym (all-last (test found) made m ∙ and-with (list_all (test found) made) (test found m) true is ∙ true-last (list_all (test found) made));
        full = it.full;
      }
      by false is true le = record {
        bounds = it.bounds;
        keys = it.keys;
        witnesses = it.witnesses;
        endings = it.endings;
        complete = sym (all-last (test found) made m ∙ and-with (list_all (test found) made) (test found m) false is ∙ false-last (list_all (test found) made));
        full = inr (grind (arith, nat_tests, le));
      }
      by false is false le =
          let complete = complete-now (λ full. absurd (grind (arith, nat_tests, le, full))) in
          record {
            bounds =
                ap₂ (λ (bs : List ℕ) (b : ℕ). bs ++ b ∷ []) it.bounds bound_is ∙ sym (map-append (bound_at program_of s) found (found_by m ∷ []));
            keys =
                ap₂ (λ (ks : List (List Bytes)) (b : ℕ). ks ++ reduced_parts b m.stepped.after ∷ []) it.keys bound_is
                ∙ sym (map-append parts_of_found found (found_by m ∷ []));
            witnesses = ap (λ ws. ws ++ m.witness ∷ []) it.witnesses ∙ sym (map-append witness_of_found found (found_by m ∷ []));
            endings = endings-visited found (found_by m) visited.endings it.endings;
            complete =
                complete
                ∙ sym (all-last (test more) made m ∙ and-with (list_all (test more) made) (test more m) true new ∙ true-last (list_all (test more) made)
                ∙ all-still made (sym it.complete ∙ complete));
            full = inl complete;
          }

  -- ---- the steps in a state

  abbrev pub move_from : List ℕ → ℕ → Move
  move_from witness pid = move_at program_of s witness pid

  abbrev pub moves_from : List ℕ → List ℕ → List Move
  moves_from witness pids = map (move_from witness) pids

  abbrev pub IsSound : Found → Type 0
  IsSound f = f.state ≡ state_at program_of s f.witness

  more-found : (ms : List Move) (found : List Found) → (new : List Found) × (fold with_move found ms ≡ found ++ new)
  more-found [] found = ([], sym (append-nil found))
  more-found (m ∷ ms) found = by (is_identified program_of s m found || nat_le limit (length found)) (more-found ms found) (more-found ms (found ++ found_by m ∷ []))
    where
      by : (b : Bool) → (new : List Found) × (fold with_move found ms ≡ found ++ new)
          → (new : List Found) × (fold with_move (found ++ found_by m ∷ []) ms ≡ (found ++ found_by m ∷ []) ++ new)
          → (new : List Found) × (fold with_move (if b then found else found ++ found_by m ∷ []) ms ≡ found ++ new)
      by true same more = same
      by false same more = (found_by m ∷ more.0, more.1 ∙ append_assoc found (found_by m ∷ []) more.0)

  sound-found : (ms : List Move) (found : List Found) → AllByRecursion (λ m. IsSound (found_by m)) ms → AllByRecursion IsSound found → AllByRecursion IsSound (fold with_move found ms)
  sound-found [] found steps all = all
  sound-found (m ∷ ms) found steps all =
      by (is_identified program_of s m found || nat_le limit (length found)) (sound-found ms found steps.1 all)
      (sound-found ms (found ++ found_by m ∷ []) steps.1 (each-append IsSound found (found_by m ∷ []) all (steps.0, tt)))
    where
      by : (b : Bool) → AllByRecursion IsSound (fold with_move found ms) → AllByRecursion IsSound (fold with_move (found ++ found_by m ∷ []) ms)
          → AllByRecursion IsSound (fold with_move (if b then found else found ++ found_by m ∷ []) ms)
      by true same more = same
      by false same more = more

  few-found : (ms : List Move) (found : List Found) → length found ≤ limit → length (fold with_move found ms) ≤ limit
  few-found [] found few = few
  few-found (m ∷ ms) found few =
      by (is_identified program_of s m found) (nat_le limit (length found)) refl (few-found ms found few) (λ h. few-found ms (found ++ found_by m ∷ []) h)
    where
      by : (a b : Bool) → nat_le limit (length found) ≡ b → length (fold with_move found ms) ≤ limit
          → (length (found ++ found_by m ∷ []) ≤ limit → length (fold with_move (found ++ found_by m ∷ []) ms) ≤ limit)
          → length (fold with_move (if a || b then found else found ++ found_by m ∷ []) ms) ≤ limit
      by true b le same more = same
      by false true le same more = same
      by false false le same more =
          let room : length found < limit = grind (arith, nat_tests, le) in
          more (omega (arith, length-append found (found_by m ∷ [])))

  sound-steps : (witness pids : List ℕ) → AllByRecursion (λ m. IsSound (found_by m)) (moves_from witness pids)
  sound-steps witness [] = tt
  sound-steps witness (pid ∷ pids) = (ap (λ (r : Run). r.final) (sym (run-append program_of witness (pid ∷ []) s)), sound-steps witness pids)

  -- the steps from a visited state, given the process that must make the next one, or 0
  moves-at : (f : Found) → IsSound f → (bound : ℕ) → bound ≡ bound_at program_of s f
      → reduced_moves_of program_of s f ≡ moves_from f.witness (moving_at program_of s bound f.witness)
  moves-at f sound bound is =
      ap (λ (t : State). filter may (moves_of program_of (record { witness = f.witness; state = t }))) sound
      ∙ filtered (live_processes (state_at program_of s f.witness).processes)
      ∙ ap (λ (b : ℕ). moves_from f.witness (moving_at program_of s b f.witness)) (sym is)
    where
      may : Move → Bool
      may m = may_step (bound_at program_of s f) m.pid

      filtered : (ps : List (ℕ × Process))
          → filter may (map (λ p. move program_of (record { witness = f.witness; state = state_at program_of s f.witness }) p.0) ps)
          ≡ map (move_from f.witness) (filter (may_step (bound_at program_of s f)) (map (λ p. p.0) ps))
      filtered [] = refl
      filtered (p ∷ ps) = by (may_step (bound_at program_of s f) p.0) (filtered ps)
        where
          by : (b : Bool)
              → filter may (map (λ q. move program_of (record { witness = f.witness; state = state_at program_of s f.witness }) q.0) ps)
              ≡ map (move_from f.witness) (filter (may_step (bound_at program_of s f)) (map (λ q. q.0) ps))
              → cond b (move_from f.witness p.0 ∷ filter may (map (λ q. move program_of (record { witness = f.witness; state = state_at program_of s f.witness }) q.0) ps))
              (filter may (map (λ q. move program_of (record { witness = f.witness; state = state_at program_of s f.witness }) q.0) ps))
              ≡ map (move_from f.witness) (cond b (p.0 ∷ filter (may_step (bound_at program_of s f)) (map (λ q. q.0) ps)) (filter (may_step (bound_at program_of s f)) (map (λ q. q.0) ps)))
          by true rest = ap (λ ms. move_from f.witness p.0 ∷ ms) rest
          by false rest = rest

map-flat : {X Y Z : Type 0} (f : X → Y) (h : Y → List Z) (xs : List X) → flat_map h (map f xs) ≡ flat_map (λ x. h (f x)) xs
map-flat f h [] = refl
map-flat f h (x ∷ xs) = ap (λ zs. h (f x) ++ zs) (map-flat f h xs)

take-next : (k : ℕ) (found new : List Found) (f : Found) → slice_get found k ≡ Some f → take (suc k) (found ++ new) ≡ take k found ++ f ∷ []
take-next k [] new f at = cc
take-next zero (g ∷ gs) new f at = let same : g ≡ f = cc in ap (λ h. h ∷ []) same
take-next (suc k) (g ∷ gs) new f at = ap (λ fs. g ∷ fs) (take-next k gs new f at)

each-at : (P : Found → Type 0) (k : ℕ) (found : List Found) (f : Found) → AllByRecursion P found → slice_get found k ≡ Some f → P f
each-at P k [] f all at = cc
each-at P zero (g ∷ gs) f all at = let same : g ≡ f = cc in subst P same all.0
each-at P (suc k) (g ∷ gs) f all at = each-at P k gs f all.1 at

-- ---- the texts of the steps

module _ (observe : Observer Bytes) (program_of : Bytes → Option Program) (limit : ℕ) (s : State) where
  abbrev pub observed_from : List ℕ → ℕ → List (Observation Bytes)
  observed_from witness pid = map (observed (move_at program_of s witness pid)) (reduced_texts_at observe limit program_of s witness pid)

  abbrev pub observed_steps : List ℕ → List ℕ → List (Observation Bytes)
  observed_steps witness pids = flat_map (observed_from witness) pids

  pub record StepsMade (witness : List ℕ) (pids : List ℕ) (found : List Found) (made : List Move) (visited : ReducedVisited) : Type 0 where
    pub keeps :
        Keeps program_of limit s (fold (with_move program_of limit s) found (moves_from program_of limit s witness pids)) (made ++ moves_from program_of limit s witness pids)
        (reduced_visited_after_steps observe limit program_of s witness pids visited)
    pub reported : (reduced_visited_after_steps observe limit program_of s witness pids visited).reported ≡ reported_after visited.reported (items (observed_steps witness pids))
    pub bytes : reduced_reported_steps observe limit program_of s witness pids visited ≡ written visited.reported (observed_steps witness pids)

  steps-visited : (witness pids : List ℕ) (found : List Found) (made : List Move) (visited : ReducedVisited) → Keeps program_of limit s found made visited → StepsMade witness pids found made visited
  steps-visited witness [] found made visited it = record {
    keeps = subst (λ (ms : List Move). Keeps program_of limit s found ms visited) (sym (append-nil made)) it;
    reported = refl;
    bytes = refl;
  }
  steps-visited witness (pid ∷ pids) found made visited it =
      let m : Move = move_at program_of s witness pid in
      let bound : ℕ = bound_by (state_at program_of s witness) pid in
      let texts : List Bytes = reduced_texts_at observe limit program_of s witness pid in
      let now : ReducedVisited = reduced_visited_after limit visited bound m texts in
      let moved = keeps-move program_of limit s found made visited m bound texts (sym (bound-last program_of s witness pid)) it in
      let rest = steps-visited witness pids (with_move program_of limit s found m) (made ++ m ∷ []) now moved in
      let ms : List Move = map (move_at program_of s witness) pids in
      let os : List (Observation Bytes) = observed_steps witness pids in
      let join : (made ++ m ∷ []) ++ ms ≡ made ++ m ∷ ms = append_assoc made (m ∷ []) ms in
      let had : reported_after visited.reported (items (map (observed m) texts)) ≡ now.reported = ap (reported_after visited.reported) (items-step m texts) in
      record {
        keeps =
            subst (λ (ns : List Move). Keeps program_of limit s (fold (with_move program_of limit s) found (m ∷ ms)) ns (reduced_visited_after_steps observe limit program_of s witness (pid ∷ pids) visited)) join rest.keeps;
        reported = rest.reported ∙ ap (λ ts. reported_after ts (items os)) (sym had) ∙ sym (reported-append visited.reported (map (observed m) texts) os);
        bytes =
            ap₂ (λ (a b : Bytes). a ++ b) (sym (written-step m visited.reported texts)) (rest.bytes ∙ ap (λ ts. written ts os) (sym had))
            ∙ sym (written-append visited.reported (map (observed m) texts) os);
      }

  -- the observations of the steps from a visited state
  observed-at : (f : Found) → IsSound program_of limit s f → (bound : ℕ) → bound ≡ bound_at program_of s f
      → reduced_observations_at observe program_of limit s f ≡ observed_steps f.witness (moving_at program_of s bound f.witness)
  observed-at f sound bound is =
      let of_state : State → Move → List (Observation Bytes) = λ t m. map (observed m) (observe t m.pid m.stepped) in
      ap₂ (λ (t : State) (ms : List Move). flat_map (of_state t) ms) sound (moves-at program_of limit s f sound bound is)
      ∙ map-flat (move_from program_of limit s f.witness) (of_state (state_at program_of s f.witness)) (moving_at program_of s bound f.witness)

  abbrev pub observed_of : List Found → List (Observation Bytes)
  observed_of found = flat_map (reduced_observations_at observe program_of limit s) found

  -- ---- all states

  -- the bytes and the data at the end of the search
  pub record Finds (bytes : Bytes) (visited : ReducedVisited) : Type 0 where
    pub keeps : Keeps program_of limit s (reduced_found program_of s limit) (reduced_moves program_of s limit) visited
    pub sound : AllByRecursion (IsSound program_of limit s) (reduced_found program_of s limit)
    pub reported_are : visited.reported ≡ reported_after [] (items (reduced_observations observe program_of limit s))
    pub bytes_are : bytes ≡ written [] (reduced_observations observe program_of limit s)

  -- the states before a number are done
  pub record Underway (k : ℕ) (found : List Found) (made : List Move) (visited : ReducedVisited) : Type 0 where
    pub keeps : Keeps program_of limit s found made visited
    pub sound : AllByRecursion (IsSound program_of limit s) found
    pub few : length found ≤ limit
    pub made_is : made ≡ flat_map (reduced_moves_of program_of s) (take k found)
    pub reported_are : visited.reported ≡ reported_after [] (items (observed_of (take k found)))

  past-end : (k : ℕ) (found : List Found) (made : List Move) (visited : ReducedVisited) → Underway k found made visited → length found ≤ k → found ≡ reduced_found program_of s limit
      → Finds (written [] (observed_of (take k found)) ++ []) visited
  past-end k found made visited it past all =
      let every : take k found ≡ reduced_found program_of s limit = take_all k found past ∙ all in
      record {
        keeps =
            subst (λ (fs : List Found). Keeps program_of limit s fs (reduced_moves program_of s limit) visited) all
            (subst (λ (ms : List Move). Keeps program_of limit s found ms visited) (it.made_is ∙ ap (flat_map (reduced_moves_of program_of s)) every) it.keeps);
        sound = subst (AllByRecursion (IsSound program_of limit s)) all it.sound;
        reported_are = it.reported_are ∙ ap (λ fs. reported_after [] (items (observed_of fs))) every;
        bytes_are = append-nil (written [] (observed_of (take k found))) ∙ ap (λ fs. written [] (observed_of fs)) every;
      }

  -- the bytes from state k on
  abbrev ReportsAll : ℕ → Type 0
  ReportsAll states =
      (k : ℕ) (found : List Found) (made : List Move) (visited : ReducedVisited) → Underway k found made visited → limit ≤ states + k
      → found_from program_of limit s states k found ≡ reduced_found program_of s limit
      → Finds (written [] (observed_of (take k found)) ++ reduced_reported_from observe limit program_of s states k visited) (reduced_visited_from observe limit program_of s states k visited)

  abbrev ReportsThen : (states k : ℕ) (found : List Found) (visited : ReducedVisited) → Option (List ℕ) → Type 0
  ReportsThen states k found visited w =
      Finds
      (written [] (observed_of (take k found))
      ++ and_reduced_report observe limit program_of s (reduced_reported_from observe limit program_of s states (suc k)) (slice_index visited.bounds k) visited w)
      (and_reduced_visit observe limit program_of s (reduced_visited_from observe limit program_of s states (suc k)) (slice_index visited.bounds k) visited w)

  next-state : (states k : ℕ) (found : List Found) (made : List Move) (visited : ReducedVisited) → ReportsAll states → Underway k found made visited → limit ≤ suc states + k
      → (f : Found) → slice_get found k ≡ Some f
      → found_from program_of limit s states (suc k) (fold (with_move program_of limit s) found (reduced_moves_of program_of s f)) ≡ reduced_found program_of s limit
      → ReportsThen states k found visited (Some f.witness)
  next-state states k found made visited again it enough f at final =
      let bound : ℕ = slice_index visited.bounds k in
      let bound_is : bound ≡ bound_at program_of s f = ap (λ (bs : List ℕ). slice_index bs k) it.keeps.bounds ∙ number-at (bound_at program_of s) found k f at in
      let pids = moving_at program_of s bound f.witness in
      let ms = moves_from program_of limit s f.witness pids in
      let sound : IsSound program_of limit s f = each-at (IsSound program_of limit s) k found f it.sound at in
      let moves_is : reduced_moves_of program_of s f ≡ ms = moves-at program_of limit s f sound bound bound_is in
      let steps = steps-visited f.witness pids found made visited it.keeps in
      let later : List Found = fold (with_move program_of limit s) found ms in
      let more = more-found program_of limit s ms found in
      let after : ReducedVisited = reduced_visited_after_steps observe limit program_of s f.witness pids visited in
      let os : List (Observation Bytes) = observed_steps f.witness pids in
      let before : List (Observation Bytes) = observed_of (take k found) in
      let taken : take (suc k) later ≡ take k found ++ f ∷ [] = ap (take (suc k)) more.1 ∙ take-next k found more.0 f at in
      let all : observed_of (take (suc k) later) ≡ before ++ os =
      ap observed_of taken ∙ flat_map-append (reduced_observations_at observe program_of limit s) (take k found) (f ∷ [])
      ∙ ap (λ (xs : List (Observation Bytes)). before ++ xs) (append-nil (reduced_observations_at observe program_of limit s f) ∙ observed-at f sound bound bound_is) in
      let following : Underway (suc k) later (made ++ ms) after = record {
        keeps = steps.keeps;
        sound = sound-found program_of limit s ms found (sound-steps program_of limit s f.witness pids) it.sound;
        few = few-found program_of limit s ms found it.few;
        made_is =
            ap₂ (λ (a b : List Move). a ++ b) it.made_is (sym moves_is ∙ sym (append-nil (reduced_moves_of program_of s f)))
            ∙ sym (ap (flat_map (reduced_moves_of program_of s)) taken ∙ flat_map-append (reduced_moves_of program_of s) (take k found) (f ∷ []));
        reported_are =
            steps.reported ∙ ap (λ ts. reported_after ts (items os)) it.reported_are ∙ sym (reported-append [] before os)
            ∙ ap (λ (xs : List (Observation Bytes)). reported_after [] (items xs)) (sym all);
      } in
      let rest : Bytes = reduced_reported_from observe limit program_of s states (suc k) after in
      let bytes : written [] (observed_of (take (suc k) later)) ++ rest ≡ written [] before ++ (reduced_reported_steps observe limit program_of s f.witness pids visited ++ rest) =
      ap (λ (xs : List (Observation Bytes)). written [] xs ++ rest) all
      ∙ ap (λ bs. bs ++ rest) (written-append [] before os ∙ ap (λ bs. written [] before ++ bs) (ap (λ ts. written ts os) (sym it.reported_are) ∙ sym steps.bytes))
      ∙ append_assoc (written [] before) (reduced_reported_steps observe limit program_of s f.witness pids visited) rest in
      subst (λ (bs : Bytes). Finds bs (reduced_visited_from observe limit program_of s states (suc k) after)) bytes
      (again (suc k) later (made ++ ms) after following (omega arith)
      (ap (λ ns. found_from program_of limit s states (suc k) (fold (with_move program_of limit s) found ns)) (sym moves_is) ∙ final))

  pub reported-all : (states : ℕ) → ReportsAll states
  reported-all zero k found made visited it enough final = past-end k found made visited it (let few = it.few in omega arith) final
  reported-all (suc states) k found made visited it enough final = by (next-state states k found made visited (reported-all states) it enough) (slice_get found k) refl final
    where
      at-witness : slice_get visited.witnesses k ≡ option_map witness_of_found (slice_get found k)
      at-witness = ap (λ ws. slice_get ws k) it.keeps.witnesses ∙ slice_get-map witness_of_found found k

      stop : slice_get found k ≡ None → length found ≤ k
      stop none = ⊎_elim (λ there. let at = there.2 in cc) (λ past. past.0) (slice_get_cases found k).1

      by : ((f : Found) → slice_get found k ≡ Some f
          → found_from program_of limit s states (suc k) (fold (with_move program_of limit s) found (reduced_moves_of program_of s f)) ≡ reduced_found program_of s limit
          → ReportsThen states k found visited (Some f.witness))
          → (o : Option Found) → slice_get found k ≡ o → found_after program_of limit s (found_from program_of limit s states (suc k)) found o ≡ reduced_found program_of s limit
          → ReportsThen states k found visited (slice_get visited.witnesses k)
      by on None none final = subst (ReportsThen states k found visited) (sym (at-witness ∙ ap (option_map witness_of_found) none)) (past-end k found made visited it (stop none) final)
      by on (Some f) at final = subst (ReportsThen states k found visited) (sym (at-witness ∙ ap (option_map witness_of_found) at)) (on f at final)

  -- the bytes and data of the search from its first state are those of the definitions
  pub plan-finds : 1 ≤ limit → Finds (reduced_reported_from observe limit program_of s limit 0 (reduced_first_visited s)) (reduced_visited_from observe limit program_of s limit 0 (reduced_first_visited s))
  plan-finds some =
      let start : Found = record { witness = []; state = s } in
      reported-all limit 0 (start ∷ []) [] (reduced_first_visited s)
      (record {
        keeps = record {
          bounds = refl;
          keys = refl;
          witnesses = refl;
          endings = endings-visited [] start [] refl;
          complete = refl;
          full = inl refl;
        };
        sound = (refl, tt);
        few = some;
        made_is = refl;
        reported_are = refl;
      }) (omega arith) (first-states program_of limit s)
