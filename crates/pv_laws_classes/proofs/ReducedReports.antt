-- The reduced search and the full search, both complete: they report the same texts and count the same endings.
use Rattle.std.proofs.Common.{◌≡◌, ◌≢◌, ◌∙◌, sym, ap, subst, ℕ, ◌≤◌, true, List, [], ◌∷◌, ◌++◌, length, Contains, Option, refl, arith}
use Rattle.pv_model.specs.Machine.{Move, states_found, is_complete, move_text, has_ended, endings, Bytes, Program, State, run, trace_bytes, Tree}
use Rattle.pv_model.specs.Step.{final_tree}
use Rattle.pv_laws_answers.specs.Search.{IsSearchable, reported, CanHappen, EndsIn}
use Rattle.pv_laws_answers.specs.Witnesses.{AreSteps, EachToLater}
use Rattle.pv_laws_answers.proofs.CompleteSearches.{among-contains}
use Rattle.pv_laws_answers.proofs.LeastWitnesses.{steps-split}
use Rattle.pv_laws_answers.proofs.Lists.{Among, each-from_among}
use Rattle.pv_laws_answers.proofs.SearchInvariant.{visited}
use Rattle.pv_laws_classes.specs.Reduced.{reduced_found, is_reduced_complete, reduced_reported, HasShortestWitness, HasEqual, ReducedReportsAreSame, ReducedEndingsAreSame}
use Rattle.pv_laws_answers.proofs.WitnessOrders.{to_later-weaker, no-longer, no_later-longer}
use Rattle.pv_laws_classes.proofs.ReducedSearch.{reduced-search, reduced-step, reduced-shortest, reduced-ending_there}
use Rattle.pv_laws_classes.proofs.StateSearches.{full-search, least-witness, text-there, ending-there}
use Rattle.pv_laws_classes.proofs.VisitedStates.{endings-differ, can-happen, reported-once, ends-in, text-reported}

-- lists of different elements that have images of each other's elements are equally long
pub same-length : {X : Type 0} (Q : X → X → Type 0) (xs ys : List X) → ((x y z : X) → Q x y → Q z y → Q x z) → EachToLater (λ x y. Q x y → ⊥) xs → EachToLater (λ x y. Q x y → ⊥) ys
    → ((x : X) → Among x xs → (y : X) × Among y ys × Q x y) → ((y : X) → Among y ys → (x : X) × Among x xs × Q y x) → length xs ≡ length ys
same-length {X} Q xs ys join once_x once_y there back = omega (arith, one xs ys once_x there, one ys xs once_y back)
  where
    one : (xs ys : List X) → EachToLater (λ x y. Q x y → ⊥) xs → ((x : X) → Among x xs → (y : X) × Among y ys × Q x y) → length xs ≤ length ys
    one xs ys once images = no-longer Q xs ys images (to_later-weaker (λ x y. Q x y → ⊥) (λ x z. (y : X) → Q x y → Q z y → ⊥) xs (λ x z in_x in_z apart y a b. apart (join x y z a b)) once)

module _ (program_of : Bytes → Option Program) (s : State) where
  -- ---- reported steps

  -- each step in a list is a shortest one with its text, the list has each text, and it has it once
  record IsShortest (ms : List Move) : Type 0 where
    pub happen : (m : Move) → Among m ms → CanHappen program_of s m
    pub shortest : (m : Move) → Among m ms → HasShortestWitness program_of s m
    pub once : EachToLater (λ m n. move_text m ≢ move_text n) ms
    pub all : (m : Move) → CanHappen program_of s m → (n : Move) × Among n ms × (move_text m ≡ move_text n)

  -- a step with the same text has no shorter witness
  not-shorter : (ms : List Move) → IsShortest ms → (m : Move) → Among m ms → (n : Move) → CanHappen program_of s n → move_text n ≡ move_text m → length m.witness ≤ length n.witness
  not-shorter ms it m h n is same =
      subst (λ (w : List ℕ). length m.witness ≤ length w) (sym is.witness)
      (it.shortest m h is.before n.pid (subst (λ (w : List ℕ). AreSteps program_of w s) is.witness is.steps) (sym (ap (λ st. trace_bytes st.lines) is.last) ∙ same))

  has-equal : (ms ns : List Move) → IsShortest ms → IsShortest ns → (m : Move) → Among m ms → HasEqual ns m
  has-equal ms ns one other m h =
      let is = one.happen m h in
      let like = other.all m is in
      record {
        equal = like.0;
        within = among-contains like.0 ns like.1;
        text = sym like.2;
        count = omega (arith, not-shorter ms one m h like.0 (other.happen like.0 like.1) (sym like.2), not-shorter ns other like.0 like.1 m is like.2);
      }

  equally-many : (ms ns : List Move) → IsShortest ms → IsShortest ns → length ms ≡ length ns
  equally-many ms ns one other =
      same-length (λ (m n : Move). move_text m ≡ move_text n) ms ns (λ l m n a b. a ∙ sym b) one.once other.once (λ m h. other.all m (one.happen m h)) (λ n h. one.all n (other.happen n h))

  -- ---- endings

  -- each tree in a list is left by a schedule after which no process is live, the list has each such tree, and it has it
  -- once
  record AreEndings (ts : List Tree) : Type 0 where
    pub happen : (t : Tree) → Among t ts → EndsIn program_of s t
    pub once : EachToLater (λ t u. t ≢ u) ts
    pub all : (pids : List ℕ) → AreSteps program_of pids s → has_ended (run program_of pids s).final ≡ true → Among (final_tree program_of pids s) ts

  among-others : (ts us : List Tree) → AreEndings ts → AreEndings us → (t : Tree) → Among t ts → Among t us
  among-others ts us one other t h = let ends = one.happen t h in subst (λ (u : Tree). Among u us) ends.tree (other.all ends.pids ends.steps ends.ended)

-- ---- the laws

module _ (program_of : Bytes → Option Program) (limit : ℕ) (s : State) (it : IsSearchable program_of limit s) where
  full-shortest : is_complete program_of limit s ≡ true → IsShortest program_of s (reported program_of limit s)
  unfolding states_found visited
  full-shortest complete =
      let all = full-search program_of limit s it in
      record {
        happen = can-happen all limit it.room;
        shortest = λ m h pids pid steps text. no_later-longer m.witness (pids ++ pid ∷ []) (least-witness (λ t. t) all limit it.room m h pids pid steps text);
        once = reported-once all limit it.room;
        all = λ m is.
            let parts = steps-split program_of is.before m.pid s (subst (λ (w : List ℕ). AreSteps program_of w s) is.witness is.steps) in
            let text = ap (λ st. trace_bytes st.lines) is.last in
            let n = text-there (λ t. t) all limit it.room complete is.before m.pid parts.1 (λ none. is.text (text ∙ none)) in
            (n.0, n.1, text ∙ sym n.2);
      }

  reduced-is_shortest : is_reduced_complete program_of s limit ≡ true → IsShortest program_of s (reduced_reported program_of s limit)
  unfolding reduced_found visited
  reduced-is_shortest complete =
      let search = reduced-search program_of s it.encodes it.whole in
      record {
        happen = can-happen search limit it.room;
        shortest = reduced-shortest program_of limit s it;
        once = reported-once search limit it.room;
        all = λ m is.
            let text = ap (λ st. trace_bytes st.lines) is.last in
            let own = reduced-step program_of s search is.before m.pid (subst (λ (w : List ℕ). AreSteps program_of w s) is.witness is.steps) (λ none. is.text (text ∙ none)) in
            let n = text-reported search limit it.room complete own.from own.step own.reached own.within (λ none. is.text (text ∙ sym own.text ∙ none)) in
            (n.0, n.1, text ∙ sym own.text ∙ sym n.2);
      }

  full-are_endings : is_complete program_of limit s ≡ true → AreEndings program_of s (endings (states_found program_of limit s))
  unfolding states_found visited
  full-are_endings complete =
      let all = full-search program_of limit s it in
      record {
        happen = ends-in all limit it.room;
        once = endings-differ (states_found program_of limit s);
        all = λ pids steps ended. ending-there (λ t. t) all limit it.room complete pids ended;
      }

  reduced-are_endings : is_reduced_complete program_of s limit ≡ true → AreEndings program_of s (endings (reduced_found program_of s limit))
  unfolding reduced_found visited
  reduced-are_endings complete = record {
    happen = ends-in (reduced-search program_of s it.encodes it.whole) limit it.room;
    once = endings-differ (reduced_found program_of s limit);
    all = λ pids steps ended. reduced-ending_there program_of limit s pids it complete steps ended;
  }

pub reduced-reports : ReducedReportsAreSame
reduced-reports program_of limit other s it it' complete complete' =
    let one = reduced-is_shortest program_of other s it' complete' in
    let two = full-shortest program_of limit s it complete in
    let ms = reduced_reported program_of s other in
    let ns = reported program_of limit s in
    record {
      there = each-from_among (HasEqual ns) ms (has-equal program_of s ms ns one two);
      back = each-from_among (HasEqual ms) ns (has-equal program_of s ns ms two one);
      count = equally-many program_of s ms ns one two;
    }

pub same-reduced_endings : ReducedEndingsAreSame
same-reduced_endings program_of limit other s it it' complete complete' =
    let one = reduced-are_endings program_of other s it' complete' in
    let two = full-are_endings program_of limit s it complete in
    let ts = endings (reduced_found program_of s other) in
    let us = endings (states_found program_of limit s) in
    let there = among-others program_of s ts us one two in
    let back = among-others program_of s us ts two one in
    record {
      there = each-from_among (Contains us) ts (λ t h. among-contains t us (there t h));
      back = each-from_among (Contains ts) us (λ t h. among-contains t ts (back t h));
      count = same-length (λ (t u : Tree). t ≡ u) ts us (λ t u v a b. a ∙ sym b) one.once two.once (λ t h. (t, there t h, refl)) (λ t h. (t, back t h, refl));
    }
