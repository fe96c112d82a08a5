-- The paths along the lines of a graph are the runs.
use Rattle.std.proofs.Common.{◌≡◌, ◌∙◌, sym, ap, ap₂, subst, refl, ℕ, ◌+◌, ◌<◌, ◌≤◌, ◌^◌, Bool, true, false, ◌||◌, cond, List, [], ◌∷◌, ◌++◌, flat_map, length, append_assoc, append-nil, codes, slice_index, Option, None, Some, is_some, inl, inr, arith}
use Rattle.std.specs.Fmt.{decimal}
use Rattle.std.specs.List.{list_any, position_from}
use Rattle.std.proofs.lemmas.Fmt.{decimal_injective}
use Rattle.std.proofs.lemmas.Iterator.Adapters.{position_from-zero}
use Rattle.std.proofs.lemmas.Bool.{or_parts}
use Rattle.pv_model.specs.Machine.{explained_step, Found, Move, move, moves_of, states_found, is_complete, graph_lines, AnswerLine, answer_line, counted_from, same_state, state_lines, Bytes, live_processes, Program, Process, State, process_at, Run, step, run}
use Rattle.pv_model.specs.Answers.Explore.{is_found, done_line}
use Rattle.pv_model.specs.Answers.Graph.{unreported, tree_lines, number_found, leads_to_text, vertex_lines}
use Rattle.pv_model.specs.Answers.Lines.{counted}
use Rattle.pv_model.proofs.RunComposition.{run-append}
use Rattle.pv_laws_answers.specs.Graphs.{begins_state, begins_step, is_last, ends_state, ends_step, HasStepLines, HasStateLines, IsAlong, explained_run, IsRunAlong, AllStatesAreVisited, IsWitnessAlong}
use Rattle.pv_laws_answers.specs.Search.{IsSearchable}
use Rattle.pv_laws_answers.specs.Witnesses.{AreSteps}
use Rattle.pv_laws_answers.proofs.CompleteSearches.{all-found}
use Rattle.pv_laws_answers.proofs.Lists.{Among, each-among, among-map}
use Rattle.pv_laws_answers.proofs.LiveProcesses.{live-listed}
use Rattle.pv_laws_answers.proofs.GraphLines.{front-plain, explained-plain, steps-plain, of_state, of_start, of_step}
use Rattle.pv_laws_answers.proofs.MarkedLists.{none-append, none-weaker, past-unmarked, same-front, block, next-front, block-parts, find-block}
use Rattle.pv_laws_answers.proofs.StateDecoding.{reported-apart}
use Rattle.pv_laws_answers.proofs.SoundStates.{IsSound, made-by, IsFinished, search-finished}

-- ---- numbered lists

module _ {X : Type 0} where
  counted-above : (low : ℕ) (xs : List X) (k : ℕ) (x : X) → Among (k, x) (counted_from low xs) → (low ≤ k) × (k < low + length xs)
  counted-above low [] k x within = absurd within
  counted-above low (y ∷ ys) k x (inl same) = let e : k ≡ low = ap (λ (p : ℕ × X). p.0) same in (omega (arith, e), omega (arith, e))
  counted-above low (y ∷ ys) k x (inr within) = let rest = counted-above (low + 1) ys k x within in (omega (arith, rest.0), omega (arith, rest.1))

  counted-same : (low : ℕ) (xs : List X) (k : ℕ) (x y : X) → Among (k, x) (counted_from low xs) → Among (k, y) (counted_from low xs) → x ≡ y
  counted-same low [] k x y here there = absurd here
  counted-same low (z ∷ zs) k x y (inl here) (inl there) = ap (λ (p : ℕ × X). p.1) here ∙ sym (ap (λ (p : ℕ × X). p.1) there)
  counted-same low (z ∷ zs) k x y (inl here) (inr there) =
      let e : k ≡ low = ap (λ (p : ℕ × X). p.0) here in let above = (counted-above (low + 1) zs k y there).0 in absurd (omega (arith, e, above))
  counted-same low (z ∷ zs) k x y (inr here) (inl there) =
      let e : k ≡ low = ap (λ (p : ℕ × X). p.0) there in let above = (counted-above (low + 1) zs k x here).0 in absurd (omega (arith, e, above))
  counted-same low (z ∷ zs) k x y (inr here) (inr there) = counted-same (low + 1) zs k x y here there

  counted-among : (low : ℕ) (xs : List X) (k : ℕ) (x : X) → Among (k, x) (counted_from low xs) → Among x xs
  counted-among low [] k x within = absurd within
  counted-among low (y ∷ ys) k x (inl same) = inl (ap (λ (p : ℕ × X). p.1) same)
  counted-among low (y ∷ ys) k x (inr within) = inr (counted-among (low + 1) ys k x within)

  module _ (test : X → Bool) where
    position-there : (low : ℕ) (xs : List X) (k : ℕ) → position_from test low xs ≡ Some k → (x : X) × Among (k, x) (counted_from low xs) × (test x ≡ true)
    position-there low [] k is = cc is
    position-there low (x ∷ xs) k is = by (position-there (low + 1) xs k) (test x) refl is
      where
        by : (position_from test (low + 1) xs ≡ Some k → (y : X) × Among (k, y) (counted_from (low + 1) xs) × (test y ≡ true)) → (passes : Bool) → test x ≡ passes
            → cond passes (Some low) (position_from test (low + 1) xs) ≡ Some k → (y : X) × Among (k, y) ((low, x) ∷ counted_from (low + 1) xs) × (test y ≡ true)
        by rest true passes is = let e : low ≡ k = cc is in (x, inl (ap (λ n. (n, x)) (sym e)), passes)
        by rest false fails is = let on = rest is in (on.0, inr on.1, on.2)

    there-position : (low : ℕ) (xs : List X) → list_any test xs ≡ true → (k : ℕ) × (position_from test low xs ≡ Some k)
    there-position low [] is = let bad : false ≡ true = is in cc bad
    there-position low (x ∷ xs) is = by (there-position (low + 1) xs) (test x) is
      where
        by : (list_any test xs ≡ true → (k : ℕ) × (position_from test (low + 1) xs ≡ Some k)) → (passes : Bool) → (passes || list_any test xs) ≡ true
            → (k : ℕ) × (cond passes (Some low) (position_from test (low + 1) xs) ≡ Some k)
        by rest true is = (low, refl)
        by rest false is = rest is

-- the number of a visited state
number-there : (t : State) (found : List Found) (k : ℕ) → number_found t found ≡ Some k → (f : Found) × Among (k, f) (counted found) × (f.state ≡ t)
number-there t found k is =
    let there = position-there (λ (f : Found). same_state f.state t) 0 found k (sym (position_from-zero (λ (f : Found). same_state f.state t) found) ∙ is) in
    (there.0, there.1, (reported-apart there.0.state t).0 there.2)

there-number : (t : State) (found : List Found) → is_found t found ≡ true → (k : ℕ) × (number_found t found ≡ Some k)
there-number t found is =
    let there = there-position (λ (f : Found). same_state f.state t) 0 found is in
    (there.0, position_from-zero (λ (f : Found). same_state f.state t) found ∙ there.1)

-- ---- the next state of a step

never-left_out : (number : Bytes) → codes "to " ++ number ≡ codes "left out" → ⊥
never-left_out number is = let first : 116 ≡ 108 = ap (λ bytes. slice_index bytes 0) is in omega (arith, first)

same-number : (number other : Bytes) → codes "to " ++ number ≡ codes "to " ++ other → number ≡ other
same-number number other is = cc is

-- ---- the lines of a graph

module _ (program_of : Bytes → Option Program) (limit : ℕ) (trees : Bool) (s : State) where
  abbrev found : List Found
  found = states_found program_of limit s

  abbrev last_line : AnswerLine
  last_line = done_line program_of limit s

  abbrev graph : List AnswerLine
  graph = graph_lines program_of limit trees s

  abbrev state_head : ℕ × Found → AnswerLine
  state_head v = answer_line 0 (codes "AT") (decimal v.0)

  abbrev front : Found → List AnswerLine
  front f = state_lines f.state ++ tree_lines trees f.state

  abbrev step_head : Move → AnswerLine
  step_head m = answer_line m.pid (codes "STEP") (leads_to_text (number_found m.stepped.after found))

  abbrev step_body : Found → Move → List AnswerLine
  step_body f m = explained_step program_of unreported f.state m.pid

  abbrev steps : Found → List Move → List AnswerLine
  steps f ms = flat_map (block step_head (step_body f)) ms

  abbrev state_body : ℕ × Found → List AnswerLine
  state_body v = front v.1 ++ steps v.1 (moves_of program_of v.1)

  abbrev states : List (ℕ × Found) → List AnswerLine
  states vs = flat_map (block state_head state_body) vs

  graph-is : graph ≡ states (counted found) ++ (last_line ∷ [])
  unfolding graph_lines
  graph-is = ap (λ (f : ℕ × Found → List AnswerLine). flat_map f (counted found) ++ (last_line ∷ [])) (λ i v. same v i)
    where
      same : (v : ℕ × Found) → vertex_lines program_of trees found v ≡ block state_head state_body v
      same (k, f) = refl

  body-plain : (v : ℕ × Found) → list_any begins_state (state_body v) ≡ false
  body-plain v =
      none-append begins_state (front v.1) (steps v.1 (moves_of program_of v.1)) (none-weaker ends_step begins_state of_start (front v.1) (front-plain trees v.1.state))
      (none-weaker ends_state begins_state starts (steps v.1 (moves_of program_of v.1)) (steps-plain program_of found v.1 (moves_of program_of v.1)))
    where
      starts : (l : AnswerLine) → ends_state l ≡ false → begins_state l ≡ false
      starts l none = (or_parts (begins_state l) (is_last l) none).0

  -- ---- parsed parts occur in the graph

  record IsRead (number : Bytes) (pid : ℕ) (leads : Bytes) (reported : List AnswerLine) : Type 0 where
    k : ℕ
    f : Found
    within : Among (k, f) (counted found)
    number_is : number ≡ decimal k
    m : Move
    made : Among m (moves_of program_of f)
    pid_is : pid ≡ m.pid
    leads_is : leads ≡ leads_to_text (number_found m.stepped.after found)
    reported_is : reported ≡ step_body f m

  module _ (number : Bytes) (pid : ℕ) (leads : Bytes) (reported : List AnswerLine) (h : HasStepLines graph number pid leads reported) where
    abbrev at_line : AnswerLine
    at_line = answer_line 0 (codes "AT") number

    abbrev step_line : AnswerLine
    step_line = answer_line pid (codes "STEP") leads

    -- in the lines of a state
    in-state : (v : ℕ × Found) → Among v (counted found) → at_line ≡ state_head v → (y : AnswerLine) (ys : List AnswerLine) → ends_state y ≡ true
        → h.inside ++ (step_line ∷ reported ++ (h.end_line ∷ h.rest)) ≡ state_body v ++ (y ∷ ys) → IsRead number pid leads reported
    in-state v within same y ys ends parts =
        let past = past-unmarked ends_state (h.inside ++ (step_line ∷ [])) (reported ++ (h.end_line ∷ h.rest)) (state_body v) y ys (none-append ends_state h.inside (step_line ∷ []) h.one_state refl) ends
        (append_assoc h.inside (step_line ∷ []) (reported ++ (h.end_line ∷ h.rest)) ∙ parts) in
        let after = past-unmarked begins_step (front v.1) (steps v.1 (moves_of program_of v.1)) h.inside step_line past.0 (none-weaker ends_step begins_step of_step (front v.1) (front-plain trees v.1.state)) refl
        (past.1 ∙ append_assoc h.inside (step_line ∷ []) past.0) in
        let here = find-block step_head (step_body v.1) begins_step (λ m. none-weaker ends_step begins_step of_step (step_body v.1 m) (explained-plain program_of unreported v.1.state m.pid))
        (moves_of program_of v.1) [] after.0 step_line past.0 refl refl (append-nil (steps v.1 (moves_of program_of v.1)) ∙ after.2) in
        let m = here.0 in
        let next = next-front step_head (step_body v.1) ends_step (λ n. refl) here.1 y ys (or-right (begins_step y) (ends_state y) ends) in
        let rest : reported ++ (h.end_line ∷ h.rest) ≡ step_body v.1 m ++ (next.0 ∷ next.1) =
        past.2 ∙ ap (λ ls. ls ++ (y ∷ ys)) (here.4 ∙ ap (λ ls. step_body v.1 m ++ ls) (append-nil (steps v.1 here.1))) ∙ append_assoc (step_body v.1 m) (steps v.1 here.1) (y ∷ ys) ∙ ap (λ ls. step_body v.1 m ++ ls) next.2 in
        record {
          k = v.0;
          f = v.1;
          within = within;
          number_is = ap (λ (l : AnswerLine). l.text) same;
          m = m;
          made = here.2;
          pid_is = ap (λ (l : AnswerLine). l.pid) here.3;
          leads_is = ap (λ (l : AnswerLine). l.text) here.3;
          reported_is = same-front ends_step reported h.rest (step_body v.1 m) next.1 h.end_line next.0 h.one_step (explained-plain program_of unreported v.1.state m.pid) h.ends next.3 rest;
        }
      where
        or-right : (a b : Bool) → b ≡ true → (a || b) ≡ true
        or-right true b is = refl
        or-right false b is = is

    read : IsRead number pid leads reported
    read =
        let top = find-block state_head state_body begins_state body-plain (counted found) (last_line ∷ []) h.before at_line (h.inside ++ (step_line ∷ reported ++ (h.end_line ∷ h.rest))) refl refl (sym graph-is ∙ h.parts) in
        let next = next-front state_head state_body ends_state (λ v. refl) top.1 last_line [] refl in
        in-state top.0 top.2 top.3 next.0 next.1 next.3 (top.4 ∙ ap (λ ls. state_body top.0 ++ ls) next.2)

  -- ---- parts of the graph parse

  module _ (k : ℕ) (f : Found) (within : Among (k, f) (counted found)) where
    -- a state
    state-there : HasStateLines graph (decimal k) f.state
    state-there =
        let parts = block-parts state_head state_body (k, f) (counted found) within in
        record {
          before = states parts.0;
          rest = (tree_lines trees f.state ++ steps f (moves_of program_of f)) ++ states parts.1 ++ (last_line ∷ []);
          parts = graph-is ∙ ap (λ ls. ls ++ (last_line ∷ [])) parts.2 ∙ simp append_assoc refl;
        }

    -- and a step
    step-there : (m : Move) → Among m (moves_of program_of f) → HasStepLines graph (decimal k) m.pid (leads_to_text (number_found m.stepped.after found)) (step_body f m)
    step-there m made =
        let parts = block-parts state_head state_body (k, f) (counted found) within in
        let own = block-parts step_head (step_body f) m (moves_of program_of f) made in
        let outer = next-front state_head state_body ends_step (λ v. refl) parts.1 last_line [] refl in
        let next = next-front step_head (step_body f) ends_step (λ n. refl) own.1 outer.0 outer.1 outer.3 in
        record {
          before = states parts.0;
          inside = front f ++ steps f own.0;
          end_line = next.0;
          rest = next.1;
          parts = graph-is ∙ ap (λ ls. ls ++ (last_line ∷ [])) parts.2
              ∙ ap (λ ls. (states parts.0 ++ (state_head (k, f) ∷ (front f ++ ls) ++ states parts.1)) ++ (last_line ∷ [])) own.2
              ∙ shuffle (states parts.0) (front f) (steps f own.0) (step_body f m) (steps f own.1) (states parts.1) (state_head (k, f)) (step_head m)
              ∙ ap (λ ls. states parts.0 ++ (state_head (k, f) ∷ (front f ++ steps f own.0) ++ (step_head m ∷ step_body f m ++ (steps f own.1 ++ ls)))) outer.2
              ∙ ap (λ ls. states parts.0 ++ (state_head (k, f) ∷ (front f ++ steps f own.0) ++ (step_head m ∷ step_body f m ++ ls))) next.2;
          one_state = none-append ends_state (front f) (steps f own.0) (none-weaker ends_step ends_state of_state (front f) (front-plain trees f.state)) (steps-plain program_of found f own.0);
          one_step = explained-plain program_of unreported f.state m.pid;
          ends = next.3;
        }
      where
        shuffle : (before pre earlier body later after : List AnswerLine) (at_head head : AnswerLine)
            → (before ++ (at_head ∷ (pre ++ (earlier ++ (head ∷ body ++ later))) ++ after)) ++ (last_line ∷ []) ≡ before ++ (at_head ∷ (pre ++ earlier) ++ (head ∷ body ++ (later ++ (after ++ (last_line ∷ [])))))
        shuffle before pre earlier body later after at_head head = simp append_assoc refl

  -- ---- paths are runs

  module _ (it : IsSearchable program_of limit s) where
    finished : IsFinished program_of s limit found
    finished = search-finished program_of s it.encodes limit it.room it.whole

    sound-at : (k : ℕ) (f : Found) → Among (k, f) (counted found) → IsSound program_of s f
    sound-at k f within = each-among (IsSound program_of s) found finished.sound f (counted-among 0 found k f within)

    -- the first state
    first-number : (f : Found) × Among (0, f) (counted found) × (f.state ≡ s)
    first-number = by found finished.more.1
      where
        by : (fs : List Found) → fs ≡ (record { witness = []; state = s } ∷ []) ++ finished.more.0 → (f : Found) × Among (0, f) (counted fs) × (f.state ≡ s)
        by [] same = cc same
        by (f ∷ fs) same = (f, inl refl, let e : f ≡ record { witness = []; state = s } = cc same in ap (λ (g : Found). g.state) e)

    below : limit < 2 ^ 64 → (k : ℕ) (f : Found) → Among (k, f) (counted found) → k < 2 ^ 64
    below small k f within = let bound = (counted-above 0 found k f within).1 in let few = finished.count in omega (arith, bound, few, small)

    record Leads (t : State) (pids : List ℕ) (last : Bytes) (reported : List AnswerLine) : Type 0 where
      lives : AreSteps program_of pids t
      lines : reported ≡ explained_run program_of pids t
      k : ℕ
      f : Found
      within : Among (k, f) (counted found)
      number_is : last ≡ decimal k
      state : f.state ≡ (run program_of pids t).final

    module _ (small : limit < 2 ^ 64) where
      leads : (pids : List ℕ) (t : State) (k : ℕ) (f : Found) (number last : Bytes) (reported : List AnswerLine) → Among (k, f) (counted found) → number ≡ decimal k → f.state ≡ t → IsAlong graph number pids last reported
          → Leads t pids last reported
      leads [] t k f number last reported within number_is same along =
          record { lives = tt; lines = along.1; k = k; f = f; within = within; number_is = along.0 ∙ number_is; state = same }
      leads (pid ∷ pids) t k f number last reported within number_is same (next, now, later, has, rest, reported_is) =
          let r = read number pid (codes "to " ++ next) now has in
          let k_is : r.k ≡ k = decimal_injective r.k k (below small r.k r.f r.within) (below small k f within) (sym r.number_is ∙ number_is) in
          let f_is : r.f ≡ f = counted-same 0 found k r.f f (subst (λ n. Among (n, r.f) (counted found)) k_is r.within) within in
          let made = made-by program_of s r.f r.m (sound-at r.k r.f r.within).whole r.made in
          on (λ j g n. leads pids (step program_of t pid).after j g n last later) (number_found r.m.stepped.after found) r refl k_is (f_is, made.0, made.1, made.2)
        where
          on : ((j : ℕ) (g : Found) (n : Bytes) → Among (j, g) (counted found) → n ≡ decimal j → g.state ≡ (step program_of t pid).after → IsAlong graph n pids last later → Leads (step program_of t pid).after pids last later)
              → (o : Option ℕ) (r : IsRead number pid (codes "to " ++ next) now) → number_found r.m.stepped.after found ≡ o → r.k ≡ k
              → (r.f ≡ f) × (p : Process) × (process_at r.f.state r.m.pid ≡ Some p) × (r.m ≡ move program_of r.f r.m.pid) → Leads t (pid ∷ pids) last reported
          on further None r is k_is made = absurd (never-left_out next (r.leads_is ∙ ap leads_to_text is))
          on further (Some j) r is k_is (f_is, p, lives, made) =
              let state : r.f.state ≡ t = ap (λ (g : Found). g.state) f_is ∙ same in
              let next_is = same-number next (decimal j) (r.leads_is ∙ ap leads_to_text is) in
              let there = number-there r.m.stepped.after found j is in
              let left : r.m.stepped.after ≡ (step program_of t pid).after = ap (λ (m : Move). m.stepped.after) made ∙ ap₂ (λ (u : State) n. (step program_of u n).after) state (sym r.pid_is) in
              let end = further j there.0 next there.1 next_is (there.2 ∙ left) rest in
              record {
                lives = (ap is_some (ap₂ (λ (u : State) n. process_at u n) (sym state) r.pid_is ∙ lives), end.lives);
                lines = reported_is ∙ ap₂ (λ (ls : List AnswerLine) ms. ls ++ ms) (r.reported_is ∙ ap₂ (λ u n. explained_step program_of unreported u n) state (sym r.pid_is)) end.lines;
                k = end.k;
                f = end.f;
                within = end.within;
                number_is = end.number_is;
                state = end.state;
              }

      witnesses-runs : (pids : List ℕ) (last : Bytes) (reported : List AnswerLine) → IsAlong graph (decimal 0) pids last reported → IsRunAlong program_of graph s pids last reported
      witnesses-runs pids last reported along =
          let start = first-number in
          let end = leads pids s 0 start.0 (decimal 0) last reported start.1 refl start.2 along in
          record {
            steps = end.lives;
            lines = end.lines;
            state = subst (λ (n : Bytes). HasStateLines graph n (run program_of pids s).final) (sym end.number_is) (subst (HasStateLines graph (decimal end.k)) end.state (state-there end.k end.f end.within));
          }

    -- ---- runs are paths

    own-move : (f : Found) (t : State) (pid : ℕ) → f.state ≡ t → is_some (process_at t pid) ≡ true → Among (move program_of f pid) (moves_of program_of f)
    own-move f t pid same lives = by (process_at t pid) refl lives
      where
        by : (o : Option Process) → process_at t pid ≡ o → is_some o ≡ true → Among (move program_of f pid) (moves_of program_of f)
        by None none some = let bad : false ≡ true = some in cc bad
        by (Some p) is some = among-map (λ (r : ℕ × Process). move program_of f r.0) (pid, p) (live_processes f.state.processes) (live-listed f.state pid p (ap (λ u. process_at u pid) same ∙ is))

    abbrev Goes : ℕ → State → List ℕ → Type 0
    Goes k t pids = (last : Bytes) × IsAlong graph (decimal k) pids last (explained_run program_of pids t)

    goes : (pids : List ℕ) (t : State) (k : ℕ) (f : Found) → Among (k, f) (counted found) → f.state ≡ t → AreSteps program_of pids t → AllStatesAreVisited program_of found pids t → Goes k t pids
    goes [] t k f within same lives stays = (decimal k, (refl, refl))
    goes (pid ∷ pids) t k f within same lives stays =
        let after = (step program_of t pid).after in
        let number = there-number after found (first-found pids after stays.1) in
        let there = number-there after found number.0 number.1 in
        let m = move program_of f pid in
        let left : m.stepped.after ≡ after = ap (λ u. (step program_of u pid).after) same in
        let has = step-there k f within m (own-move f t pid same lives.0) in
        let leads_is : leads_to_text (number_found m.stepped.after found) ≡ codes "to " ++ decimal number.0 = ap (λ u. leads_to_text (number_found u found)) left ∙ ap leads_to_text number.1 in
        let here : HasStepLines graph (decimal k) pid (codes "to " ++ decimal number.0) (explained_step program_of unreported t pid) =
        subst (λ (u : State). HasStepLines graph (decimal k) pid (codes "to " ++ decimal number.0) (explained_step program_of unreported u pid)) same
        (subst (λ (text : Bytes). HasStepLines graph (decimal k) pid text (step_body f m)) leads_is has) in
        let rest = goes pids after number.0 there.0 there.1 there.2 lives.1 stays.1 in
        (rest.0, (decimal number.0, explained_step program_of unreported t pid, explained_run program_of pids after, here, rest.1, refl))
      where
        first-found : (pids : List ℕ) (t : State) → AllStatesAreVisited program_of found pids t → is_found t found ≡ true
        first-found [] t stays = stays
        first-found (pid ∷ pids) t stays = stays.0

    runs-witnesses : (pids : List ℕ) → AreSteps program_of pids s → AllStatesAreVisited program_of found pids s → IsWitnessAlong program_of graph s pids
    runs-witnesses pids lives stays =
        let start = first-number in
        let witness = goes pids s 0 start.0 start.1 start.2 lives stays in
        record { last = witness.0; along = witness.1 }

    -- if the search is complete
    stays-found : is_complete program_of limit s ≡ true → (pids before : List ℕ) → AllStatesAreVisited program_of found pids (run program_of before s).final
    stays-found complete [] before = all-found program_of limit s it complete before
    stays-found complete (pid ∷ pids) before = (
      all-found program_of limit s it complete before,
      subst (AllStatesAreVisited program_of found pids) (ap (λ (r : Run). r.final) (run-append program_of before (pid ∷ []) s)) (stays-found complete pids (before ++ (pid ∷ []))),
    )

    all-runs-witnesses : is_complete program_of limit s ≡ true → (pids : List ℕ) → AreSteps program_of pids s → IsWitnessAlong program_of graph s pids
    all-runs-witnesses complete pids lives = runs-witnesses pids lives (stays-found complete pids [])

pub witnesses-are_runs : (program_of : Bytes → Option Program) (limit : ℕ) (trees : Bool) (s : State) (pids : List ℕ) (last : Bytes) (reported : List AnswerLine) → IsSearchable program_of limit s → limit < 2 ^ 64
    → IsAlong (graph_lines program_of limit trees s) (decimal 0) pids last reported → IsRunAlong program_of (graph_lines program_of limit trees s) s pids last reported
witnesses-are_runs program_of limit trees s pids last reported it small along = witnesses-runs program_of limit trees s it small pids last reported along

pub runs-are_witnesses : (program_of : Bytes → Option Program) (limit : ℕ) (trees : Bool) (s : State) (pids : List ℕ) → IsSearchable program_of limit s → AreSteps program_of pids s
    → AllStatesAreVisited program_of (states_found program_of limit s) pids s → IsWitnessAlong program_of (graph_lines program_of limit trees s) s pids
runs-are_witnesses program_of limit trees s pids it lives stays = runs-witnesses program_of limit trees s it pids lives stays

pub all-runs-are_witnesses : (program_of : Bytes → Option Program) (limit : ℕ) (trees : Bool) (s : State) (pids : List ℕ) → IsSearchable program_of limit s → is_complete program_of limit s ≡ true → AreSteps program_of pids s
    → IsWitnessAlong program_of (graph_lines program_of limit trees s) s pids
all-runs-are_witnesses program_of limit trees s pids it complete lives = all-runs-witnesses program_of limit trees s it complete pids lives
