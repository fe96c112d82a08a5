-- The accesses that the reduced search lists: those of all schedules, with shortest witnesses, as the full search does.
use Rattle.std.proofs.Common.{◌≡◌, ◌≢◌, ◌∙◌, sym, ap, subst, ℕ, ◌≤◌, Bool, true, not, ◌&&◌, ◌==◌, bytes_eq, List, [], ◌∷◌, ◌++◌, length, length-append, filter, codes, Option, refl, arith}
use Rattle.std.specs.List.{AllByRecursion, list_any, list_all}
use Rattle.std.specs.Cmp.{both_ways}
use Rattle.pv_model.specs.Machine.{Access, accesses, Found, Move, states_found, is_complete, named_files, AnswerLine, answer_line_bytes, Observer, Observation, observations, first_observations, of_calls, Bytes, same_node, Program, State, step, run, Tree, root, find_entry}
use Rattle.pv_model.specs.Answers.Access.{file_read, files_read, unread_files}
use Rattle.pv_model_questions.specs.Accesses.{lines_of_accesses, reported_accesses}
use Rattle.pv_laws_trees.proofs.DirectoryEntries.{bytes_eq-itself}
use Rattle.pv_laws_answers.specs.Accesses.{is_access_listed}
use Rattle.pv_laws_answers.specs.Search.{IsSearchable}
use Rattle.pv_laws_answers.specs.Witnesses.{AreSteps, EachToLater}
use Rattle.pv_laws_answers.proofs.CompleteSearches.{among-contains}
use Rattle.pv_laws_answers.proofs.LeastWitnesses.{steps-split}
use Rattle.pv_laws_answers.proofs.Lists.{Among, each-from_among, among-any, any-among, among-filter_map, filter_map-among}
use Rattle.pv_laws_answers.proofs.NewKeys.{new-came, new-differ}
use Rattle.pv_laws_answers.proofs.SearchInvariant.{visited, is_known}
use Rattle.pv_laws_classes.specs.Reduced.{reduced_found, is_reduced_complete}
use Rattle.pv_laws_classes.specs.ReducedAnswers.{reduced_observations, reduced_accesses, reduced_files_read, reduced_unread_files}
use Rattle.pv_laws_classes.specs.Shown.{Shown, shown_in, access_lines_of, IsShortestAccess, ListedAccessesReduced, HasEqualAccess, HaveSameAccesses}
use Rattle.pv_laws_classes.proofs.ReducedReports.{same-length}
use Rattle.pv_laws_classes.proofs.ReducedSearch.{IsReducedSearch, reduced-search}
use Rattle.pv_laws_classes.proofs.SearchObservations.{all_observations, of-last, IsOfClass, first-shortest, all-observed, first-observed}
use Rattle.pv_laws_classes.proofs.ReducedProcesses.{themselves, reaches-shown, shown-alike}
use Rattle.pv_laws_classes.proofs.ShownSchedules.{IsInvariant}
use Rattle.pv_laws_classes.proofs.StateSearches.{IsStateSearch, full-search, own-move, end, steps-reached}
use Rattle.pv_laws_classes.proofs.VisitedStates.{IsSearch, found, made_moves}

-- ---- observers of the shown data

module _ {X : Type 0} (observe : Observer X) (program_of : Bytes → Option Program) (limit : ℕ) (s : State) (it : IsSearchable program_of limit s) where
  -- an observer of a part of the shown data depends only on the class
  reduced-of_class : (part : Shown → List X) → ((t : State) (pid : ℕ) → part (shown_in program_of t pid) ≡ observe t pid (step program_of t pid))
      → IsInvariant program_of
      → IsOfClass observe (reduced-search program_of s it.encodes it.whole) limit it.room
  reduced-of_class part is invariant =
      let search = reduced-search program_of s it.encodes it.whole in
      record {
        alike = λ f g pid sound_f sound_g same.
            sym (is g.state pid) ∙ ap part (shown-alike program_of s search invariant f g pid sound_f sound_g same) ∙ is f.state pid;
        reaches = λ pids pid steps.
            let parts = steps-split program_of pids pid s steps in
            let own = reaches-shown program_of s search invariant pids pid parts.0 parts.1 in
            record {
              from = own.from;
              reached = own.reached;
              within = own.within;
              items = sym (is own.from.state pid) ∙ ap part own.same ∙ is (run program_of pids s).final pid;
              no_longer = own.no_longer;
            };
      }

  -- each observer does for the full search
  full-of_class : IsOfClass observe (full-search program_of limit s it) limit it.room
  full-of_class = record {
    alike = λ f g pid sound_f sound_g same. ap (λ u. observe u pid (step program_of u pid)) same;
    reaches = λ pids pid steps.
        let parts = steps-split program_of pids pid s steps in
        let from = end program_of s pids in
        record { from = from; reached = steps-reached program_of s pids parts.0; within = own-move program_of from pid parts.1; items = refl; no_longer = omega arith };
  }

abbrev lines_observer : List Bytes → Tree → Observer AnswerLine
lines_observer files first = of_calls (lines_of_accesses files first)

-- ---- the accesses of a search

module _ (program_of : Bytes → Option Program) (s : State) (files : List Bytes) where
  -- each access in a list is a shortest one with its line, and no two have the same line
  record AreShortest (os : List (Observation AnswerLine)) : Type 0 where
    happen : (o : Observation AnswerLine) → Among o os → IsShortestAccess program_of s files o
    once : EachToLater (λ o q. answer_line_bytes o.item ≢ answer_line_bytes q.item) os

  -- the line of each access of each schedule is in the list
  abbrev AreAll : List (Observation AnswerLine) → Type 0
  AreAll os =
      (pids : List ℕ) (pid : ℕ) (l : AnswerLine) → AreSteps program_of (pids ++ pid ∷ []) s
      → Among l (access_lines_of program_of files s.tree (run program_of pids s).final pid)
      → (o : Observation AnswerLine) × Among o os × (answer_line_bytes o.item ≡ answer_line_bytes l)

  -- two such lists have accesses with the same lines and witnesses of the same lengths
  module _ (os qs : List (Observation AnswerLine)) (one : AreShortest os) (other : AreShortest qs) (all : AreAll qs) where
    equal-in : (o : Observation AnswerLine) → Among o os → (q : Observation AnswerLine) × Among q qs × (answer_line_bytes o.item ≡ answer_line_bytes q.item)
    equal-in o h =
        let is = one.happen o h in
        let q = all is.before o.move.pid o.item (subst (λ (w : List ℕ). AreSteps program_of w s) is.witness is.steps)
        (themselves (access_lines_of program_of files s.tree (run program_of is.before s).final o.move.pid) o.item is.item) in
        (q.0, q.1, sym q.2)

    has-equal : (o : Observation AnswerLine) → Among o os → HasEqualAccess qs o
    has-equal o h =
        let q = equal-in o h in
        let is = one.happen o h in
        let like = other.happen q.0 q.1 in
        let steps_o = subst (λ (w : List ℕ). AreSteps program_of w s) is.witness is.steps in
        let steps_q = subst (λ (w : List ℕ). AreSteps program_of w s) like.witness like.steps in
        record {
          equal = q.0;
          within = among-contains q.0 qs q.1;
          line = sym q.2;
          count =
              omega (
                arith,
                is.shortest like.before q.0.move.pid q.0.item steps_q like.item (sym q.2),
                like.shortest is.before o.move.pid o.item steps_o is.item q.2,
                ap length is.witness,
                ap length like.witness,
                length-append is.before (o.move.pid ∷ []),
                length-append like.before (q.0.move.pid ∷ []),
              );
        }

  same-lists : (os qs : List (Observation AnswerLine)) → AreShortest os → AreShortest qs → AreAll os → AreAll qs → HaveSameAccesses os qs
  same-lists os qs one other all_os all_qs = record {
    there = each-from_among (HasEqualAccess qs) os (has-equal os qs one other all_qs);
    back = each-from_among (HasEqualAccess os) qs (has-equal qs os other one all_os);
    count =
        same-length (λ (o q : Observation AnswerLine). answer_line_bytes o.item ≡ answer_line_bytes q.item) os qs
        (λ o q r a b. a ∙ sym b) one.once other.once (equal-in os qs one other all_qs) (equal-in qs os other one all_os);
  }

  -- the first accesses of a search are such lists
  module _
      {C : Type 0} {class_of : Found → C} {same : Found → Found → Bool} {moves : Found → List Move} (search : IsSearch program_of s class_of same moves)
      (limit : ℕ) (room : 1 ≤ limit) (of_class : IsOfClass (lines_observer files s.tree) search limit room) where
    abbrev all : List (Observation AnswerLine)
    all = all_observations (lines_observer files s.tree) search limit room

    abbrev listed : List (Observation AnswerLine)
    listed = first_observations answer_line_bytes all

    are-shortest : AreShortest listed
    are-shortest = record {
      happen = λ o h.
          let last = of-last (lines_observer files s.tree) search limit room o (new-came (λ (q : Observation AnswerLine). answer_line_bytes q.item) [] all o h) in
          record {
            before = last.from.witness;
            witness = last.witness;
            steps = last.steps;
            item = among-contains o.item (access_lines_of program_of files s.tree (run program_of last.from.witness s).final o.move.pid) last.item;
            shortest = λ pids pid l steps has alike.
                first-shortest (lines_observer files s.tree) search limit room of_class answer_line_bytes o h last pids pid l steps
                (themselves (access_lines_of program_of files s.tree (run program_of pids s).final pid) l has) alike;
          };
      once = new-differ (λ (o : Observation AnswerLine). answer_line_bytes o.item) [] all;
    }

    are-all : list_all (λ m. is_known same m (found search limit room)) (made_moves search limit room) ≡ true → AreAll listed
    are-all complete = first-observed (lines_observer files s.tree) search limit room of_class complete answer_line_bytes

-- ---- the accesses of the reduced search, and of the full search

module _ (program_of : Bytes → Option Program) (limit : ℕ) (s : State) (files : List Bytes) (it : IsSearchable program_of limit s) where
  module _ (invariant : IsInvariant program_of) where
    lines-of_class : IsOfClass (lines_observer files s.tree) (reduced-search program_of s it.encodes it.whole) limit it.room
    lines-of_class = reduced-of_class (lines_observer files s.tree) program_of limit s it (λ x. x.access_lines files s.tree) (λ t pid. refl) invariant

    reduced-shortest : AreShortest program_of s files (reduced_accesses program_of limit s files)
    unfolding reduced_found visited
    reduced-shortest = are-shortest program_of s files (reduced-search program_of s it.encodes it.whole) limit it.room lines-of_class

    reduced-all : is_reduced_complete program_of s limit ≡ true → AreAll program_of s files (reduced_accesses program_of limit s files)
    unfolding reduced_found visited
    reduced-all = are-all program_of s files (reduced-search program_of s it.encodes it.whole) limit it.room lines-of_class

  full-shortest : AreShortest program_of s files (reported_accesses program_of limit s files)
  unfolding states_found visited
  full-shortest = are-shortest program_of s files (full-search program_of limit s it) limit it.room (full-of_class (lines_observer files s.tree) program_of limit s it)

  full-all : is_complete program_of limit s ≡ true → AreAll program_of s files (reported_accesses program_of limit s files)
  unfolding states_found visited
  full-all = are-all program_of s files (full-search program_of limit s it) limit it.room (full-of_class (lines_observer files s.tree) program_of limit s it)

-- ---- unread files

-- lists with the same elements
same-among : (ms ns : List ℕ) → ((n : ℕ) → Among n ms → Among n ns) → ((n : ℕ) → Among n ns → Among n ms) → (n : ℕ) → list_any (λ m. m == n) ms ≡ list_any (λ m. m == n) ns
same-among ms ns there back n = both_ways (list_any (λ m. m == n) ms) (list_any (λ m. m == n) ns) (λ is. to ms ns there is) (λ is. to ns ms back is)
  where
    to : (ms ns : List ℕ) → ((n : ℕ) → Among n ms → Among n ns) → list_any (λ m. m == n) ms ≡ true → list_any (λ m. m == n) ns ≡ true
    to ms ns there is = let found = among-any (λ m. m == n) ms is in any-among (λ m. m == n) found.0 ns (there found.0 found.1) found.2

module _
    (program_of : Bytes → Option Program) (invariant : IsInvariant program_of) (limit other : ℕ) (s : State) (it : IsSearchable program_of limit s)
    (it' : IsSearchable program_of other s) (complete : is_complete program_of limit s ≡ true) (complete' : is_reduced_complete program_of s other ≡ true) where
  abbrev access_observer : Observer Access
  access_observer = of_calls accesses

  abbrev reduced : IsReducedSearch program_of s
  reduced = reduced-search program_of s it'.encodes it'.whole

  abbrev full : IsStateSearch program_of (λ t. t) s
  full = full-search program_of limit s it

  -- both searches read the same files
  read-there : (n : ℕ) → Among n (reduced_files_read program_of other s) → Among n (files_read program_of limit s)
  unfolding states_found reduced_found visited
  read-there n h =
      let from = filter_map-among (λ (o : Observation Access). file_read o.item) n (reduced_observations access_observer program_of other s) h in
      let last = of-last access_observer reduced other it'.room from.0 from.1 in
      let steps = subst (λ (w : List ℕ). AreSteps program_of w s) last.witness last.steps in
      let of_class = full-of_class access_observer program_of limit s it in
      let there = all-observed access_observer full limit it.room of_class complete last.from.witness from.0.move.pid from.0.item steps last.item in
      among-filter_map (λ (o : Observation Access). file_read o.item) there.0 n (observations access_observer program_of limit s) there.1 (ap file_read there.2 ∙ from.2)

  read-back : (n : ℕ) → Among n (files_read program_of limit s) → Among n (reduced_files_read program_of other s)
  unfolding states_found reduced_found visited
  read-back n h =
      let from = filter_map-among (λ (o : Observation Access). file_read o.item) n (observations access_observer program_of limit s) h in
      let last = of-last access_observer full limit it.room from.0 from.1 in
      let steps = subst (λ (w : List ℕ). AreSteps program_of w s) last.witness last.steps in
      let of_class = reduced-of_class access_observer program_of other s it' (λ x. x.accesses) (λ t pid. refl) invariant in
      let there = all-observed access_observer reduced other it'.room of_class complete' last.from.witness from.0.move.pid from.0.item steps last.item in
      among-filter_map (λ (o : Observation Access). file_read o.item) there.0 n (reduced_observations access_observer program_of other s) there.1
      (ap file_read there.2 ∙ from.2)

  -- so both leave the same files unread
  unread-same : reduced_unread_files program_of other s ≡ unread_files program_of limit s
  unread-same =
      let same = same-among (reduced_files_read program_of other s) (files_read program_of limit s) read-there read-back in
      λ i. filter (λ n. not (same_node (find_entry s.tree root (codes "init")) n) && not (same n i)) (named_files s.tree)

-- ---- the laws

pub access-listed : (program_of : Bytes → Option Program) → IsInvariant program_of
    → (limit : ℕ) (s : State) (files : List Bytes) (pids : List ℕ) (pid : ℕ) → IsSearchable program_of limit s → is_reduced_complete program_of s limit ≡ true
    → AreSteps program_of (pids ++ pid ∷ []) s
    → AllByRecursion (λ access. is_access_listed access (reduced_accesses program_of limit s files) ≡ true) (access_lines_of program_of files s.tree (run program_of pids s).final pid)
access-listed program_of invariant limit s files pids pid it complete steps =
    each-from_among (λ access. is_access_listed access (reduced_accesses program_of limit s files) ≡ true) (access_lines_of program_of files s.tree (run program_of pids s).final pid)
    (λ l h.
    let o = reduced-all program_of limit s files it invariant complete pids pid l steps h in
    any-among (λ (q : Observation AnswerLine). bytes_eq (answer_line_bytes q.item) (answer_line_bytes l)) o.0 (reduced_accesses program_of limit s files) o.1
    (ap (λ k. bytes_eq k (answer_line_bytes l)) o.2 ∙ bytes_eq-itself (answer_line_bytes l)))

pub accesses-reduced : (program_of : Bytes → Option Program) → IsInvariant program_of
    → (limit : ℕ) (s : State) (files : List Bytes) → IsSearchable program_of limit s → ListedAccessesReduced program_of limit s files
accesses-reduced program_of invariant limit s files it =
    let are = reduced-shortest program_of limit s files it invariant in
    record { happen = each-from_among (IsShortestAccess program_of s files) (reduced_accesses program_of limit s files) are.happen; once = are.once }

pub same-accesses_reduced : (program_of : Bytes → Option Program) → IsInvariant program_of
    → (limit other : ℕ) (s : State) (files : List Bytes) → IsSearchable program_of limit s → IsSearchable program_of other s
    → is_complete program_of limit s ≡ true → is_reduced_complete program_of s other ≡ true
    → HaveSameAccesses (reduced_accesses program_of other s files) (reported_accesses program_of limit s files)
    × (reduced_unread_files program_of other s ≡ unread_files program_of limit s)
same-accesses_reduced program_of invariant limit other s files it it' complete complete' = (
  same-lists program_of s files (reduced_accesses program_of other s files) (reported_accesses program_of limit s files)
      (reduced-shortest program_of other s files it' invariant) (full-shortest program_of limit s files it)
      (reduced-all program_of other s files it' invariant complete') (full-all program_of limit s files it complete),
  unread-same program_of invariant limit other s it it' complete complete',
)
