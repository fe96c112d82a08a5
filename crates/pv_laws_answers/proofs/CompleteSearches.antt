-- If a search is complete, the visited states are all reachable states.
use Rattle.std.proofs.Common.{◌≡◌, ◌≢◌, ◌∙◌, sym, ap, subst, ℕ, suc, true, bytes_eq, List, [], ◌∷◌, map, filter, Contains, Option, None, Some, is_some, ◌⊎◌, inl, inr, refl, arith}
use Rattle.std.specs.List.{list_any}
use Rattle.pv_model.specs.Machine.{Found, Move, move, moves_of, states_found, is_complete, move_text, has_ended, endings, same_state, tree_numbers, Bytes, live_processes, named_tree, Program, Process, State, process_at, step, step_of, run, Tree}
use Rattle.pv_model.specs.Answers.Explore.{is_found, moves}
use Rattle.pv_model.specs.Step.{final_tree}
use Rattle.pv_laws_trees.proofs.DirectoryEntries.{bytes_eq-itself}
use Rattle.pv_laws_answers.specs.Search.{IsSearchable, text_of_step, reported}
use Rattle.pv_laws_answers.proofs.Lists.{Among, among-any, among-map, among-flat, among-filter, any-among, all-among}
use Rattle.pv_laws_answers.proofs.LiveProcesses.{live-listed}
use Rattle.pv_laws_answers.proofs.NewKeys.{new-like}
use Rattle.pv_laws_answers.proofs.StateDecoding.{reported-apart, same-tree_numbers}
use Rattle.pv_laws_answers.proofs.SoundStates.{search-finished}

-- a state in the list is visited
pub there-found : (t : State) (found : List Found) (g : Found) → Among g found → g.state ≡ t → is_found t found ≡ true
there-found t found g within same = any-among (λ (f : Found). same_state f.state t) g found within ((reported-apart g.state t).1 same)

-- and a visited state is in the list
pub found-there : (t : State) (found : List Found) → is_found t found ≡ true → (g : Found) × Among g found × (g.state ≡ t)
found-there t found is =
    let there = among-any (λ (f : Found). same_state f.state t) found is in
    (there.0, there.1, (reported-apart there.0.state t).0 there.2)

-- a process that is not live does not change the state
pub still : (program_of : Bytes → Option Program) (s : State) (pid : ℕ) → process_at s pid ≡ None → (step program_of s pid).after ≡ s
unfolding step
still program_of s pid none = ap (λ o. (step_of program_of s pid o).after) none

pub among-contains : {X : Type 0} (x : X) (xs : List X) → Among x xs → Contains xs x
among-contains x [] h = absurd h
among-contains x (y ∷ ys) (inl e) = (0, omega arith, sym e)
among-contains x (y ∷ ys) (inr h) = let k = among-contains x ys h in (suc k.0, (let b = k.1 in omega arith), k.2)

module _ (program_of : Bytes → Option Program) (limit : ℕ) (s : State) (it : IsSearchable program_of limit s) where
  abbrev found : List Found
  found = states_found program_of limit s

  pub start-found : is_found s found ≡ true
  start-found =
      let all = search-finished program_of s it.encodes limit it.room it.whole in
      let start : Found = record { witness = []; state = s } in
      there-found s found start (subst (Among start) (sym all.more.1) (inl refl)) refl

  module _ (complete : is_complete program_of limit s ≡ true) where
    -- a step leads from a visited state to a visited state
    closed : (t : State) (pid : ℕ) → is_found t found ≡ true → is_found (step program_of t pid).after found ≡ true
    closed t pid is =
        let there = found-there t found is in
        by there.0 there.1 there.2 (process_at t pid) refl
      where
        by : (g : Found) → Among g found → g.state ≡ t → (o : Option Process) → process_at t pid ≡ o → is_found (step program_of t pid).after found ≡ true
        by g within same None none = subst (λ (u : State). is_found u found ≡ true) (sym (still program_of t pid none)) is
        by g within same (Some p) lives =
            let own = among-map (λ (r : ℕ × Process). move program_of g r.0) (pid, p) (live_processes g.state.processes) (live-listed g.state pid p (ap (λ u. process_at u pid) same ∙ lives)) in
            let made = among-flat (moves_of program_of) g (move program_of g pid) found within own in
            subst (λ (u : State). is_found (step program_of u pid).after found ≡ true) same
            (all-among (λ (m : Move). is_found m.stepped.after found) (moves program_of limit s) complete (move program_of g pid) made)

    from-found : (pids : List ℕ) (t : State) → is_found t found ≡ true → is_found (run program_of pids t).final found ≡ true
    from-found [] t is = is
    from-found (pid ∷ pids) t is = from-found pids (step program_of t pid).after (closed t pid is)

    -- every schedule ends in a visited state
    pub all-found : (pids : List ℕ) → is_found (run program_of pids s).final found ≡ true
    all-found pids = from-found pids s start-found

    -- the text of each step is reported
    pub all-reported : (pids : List ℕ) (pid : ℕ) → is_some (process_at (run program_of pids s).final pid) ≡ true → text_of_step program_of (run program_of pids s).final pid ≢ []
        → list_any (λ m. bytes_eq (move_text m) (text_of_step program_of (run program_of pids s).final pid)) (reported program_of limit s) ≡ true
    all-reported pids pid lives text =
        let t = (run program_of pids s).final in
        let there = found-there t found (all-found pids) in
        by there.0 there.1 there.2 (process_at t pid) refl lives
      where
        like : (t : State) (m : Move) → text_of_step program_of t pid ≢ [] → move_text m ≡ text_of_step program_of t pid
            → Among (move_text m) ([] ∷ []) ⊎ ((n : Move) × Among n (reported program_of limit s) × (move_text n ≡ move_text m))
            → list_any (λ m. bytes_eq (move_text m) (text_of_step program_of t pid)) (reported program_of limit s) ≡ true
        like t m some same (inl (inl none)) = absurd (some (sym same ∙ none))
        like t m some same (inl (inr none)) = absurd none
        like t m some same (inr n) =
            any-among (λ (n : Move). bytes_eq (move_text n) (text_of_step program_of t pid)) n.0 (reported program_of limit s) n.1
            (ap (λ k. bytes_eq k (text_of_step program_of t pid)) (n.2 ∙ same) ∙ bytes_eq-itself (text_of_step program_of t pid))

        by : (g : Found) → Among g found → g.state ≡ (run program_of pids s).final → (o : Option Process) → process_at (run program_of pids s).final pid ≡ o → is_some o ≡ true
            → list_any (λ m. bytes_eq (move_text m) (text_of_step program_of (run program_of pids s).final pid)) (reported program_of limit s) ≡ true
        by g within same None none some = cc
        by g within same (Some p) lives some =
            let own = among-map (λ (r : ℕ × Process). move program_of g r.0) (pid, p) (live_processes g.state.processes) (live-listed g.state pid p (ap (λ u. process_at u pid) same ∙ lives)) in
            let made = among-flat (moves_of program_of) g (move program_of g pid) found within own in
            like (run program_of pids s).final (move program_of g pid) text (ap (λ u. text_of_step program_of u pid) same) (new-like move_text ([] ∷ []) (moves program_of limit s) (move program_of g pid) made)

    -- each final tree is counted
    pub all-endings : (pids : List ℕ) → has_ended (run program_of pids s).final ≡ true → Contains (endings found) (final_tree program_of pids s)
    all-endings pids ended =
        let there = found-there (run program_of pids s).final found (all-found pids) in
        let g = there.0 in
        let preserved = among-filter (λ (f : Found). has_ended f.state) g found there.1 (ap has_ended there.2 ∙ ended) in
        let tree = among-map (λ (f : Found). named_tree f.state.tree) g (filter (λ f. has_ended f.state) found) preserved in
        subst (λ (u : State). Contains (endings found) (named_tree u.tree)) there.2
        (among-contains (named_tree g.state.tree) (endings found) (by (named_tree g.state.tree) (new-like tree_numbers [] (map (λ f. named_tree f.state.tree) (filter (λ f. has_ended f.state) found)) (named_tree g.state.tree) tree)))
      where
        by : (t : Tree) → Among (tree_numbers t) [] ⊎ ((u : Tree) × Among u (endings found) × (tree_numbers u ≡ tree_numbers t)) → Among t (endings found)
        by t (inl none) = absurd none
        by t (inr u) = subst (λ (v : Tree). Among v (endings found)) (same-tree_numbers u.0 t u.2) u.1
