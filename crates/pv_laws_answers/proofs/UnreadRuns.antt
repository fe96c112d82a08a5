-- Runs, and runs with other bytes in a file that no step reads, and the reports of a search on both.
use Rattle.std.proofs.Common.{◌≡◌, ◌≢◌, ◌∙◌, sym, ap, ap₂, subst, refl, ℕ, suc, ◌≤◌, true, false, List, [], ◌∷◌, ◌++◌, map, length, length-append, codes, bytes_eq, Option, None, Some, option_map, option_and_then, is_some, inl, inr, arith}
use Rattle.std.specs.FinMap.Entries.{find}
use Rattle.std.specs.List.{AllByRecursion, list_any}
use Rattle.pv_model.specs.Machine.{Found, Move, states_found, is_complete, move_text, witness_text, AnswerLine, answer_line, of_trace, Bytes, with_content, bytes_of, Program, Process, State, first_state, process_at, Stepped, step, run, boot, read_file, file_bytes, with_bytes, Touches, Line, trace_bytes, Node, directory_node, file_node, link_node, Tree, root, node_at, find_entry}
use Rattle.pv_model.specs.Answers.Explore.{move_lines}
use Rattle.pv_model.specs.Step.{init_program}
use Rattle.pv_model.specs.Touch.{SameButFile}
use Rattle.pv_laws_trees.proofs.DirectoryEntries.{by_name, bytes_eq-same}
use Rattle.pv_laws_states.specs.States.{EncodesPrograms, IsFirstTree, IsValid, is_program_in_bounds}
use Rattle.pv_laws_states.proofs.ValidBySteps.{first-valid, step-keeps_valid}
use Rattle.pv_laws_access.specs.Secrets.{StepsDifferInFile}
use Rattle.pv_laws_access.proofs.SimilarTrees.{as_is, with_nodes, near-other, entries-near, IsNear, same-but_file, near-bytes, near-length_of}
use Rattle.pv_laws_access.specs.Sealing.{RunsDifferInFile}
use Rattle.pv_laws_answers.specs.Search.{IsSearchable, CanHappen, HasLeastWitness, ReportedSteps, text_of_step, reported}
use Rattle.pv_laws_answers.specs.Unread.{IsNeverRead, HasSameWitness, HasSameReports, StartsWithOtherBytes}
use Rattle.pv_laws_answers.specs.Witnesses.{AreSteps, IsSmallerWitness, IsEarlierWitness, IsNoLaterWitness, EachToLater}
use Rattle.pv_laws_answers.proofs.CompleteSearches.{found-there, all-found, all-reported}
use Rattle.pv_laws_answers.proofs.LeastWitnesses.{steps-split, reported-steps}
use Rattle.pv_laws_answers.proofs.Lists.{Among, each-among, each-from_among, each-weaker, among-any}
use Rattle.pv_laws_answers.proofs.UnreadSteps.{unread-alike}
use Rattle.pv_laws_answers.proofs.Witnesses.{before-then}
use Rattle.pv_laws_answers.proofs.WitnessOrders.{Earlier}

-- ---- lists in the order of witnesses

less-itself : (witness : List ℕ) → IsSmallerWitness witness witness → ⊥
less-itself [] less = less
less-itself (pid ∷ witness) (inl less) = omega (arith, less)
less-itself (pid ∷ witness) (inr less) = less-itself witness less.1

before-itself : (witness : List ℕ) → IsEarlierWitness witness witness → ⊥
before-itself witness (inl before) = omega (arith, before)
before-itself witness (inr before) = less-itself witness before.1

both-no_later : (v w : List ℕ) → IsNoLaterWitness v w → IsNoLaterWitness w v → v ≡ w
both-no_later v w (inl same) other = same
both-no_later v w (inr before) (inl same) = sym same
both-no_later v w (inr before) (inr after) = absurd (before-itself v (before-then v w v before after))

last-same : (v w : List ℕ) (pid other : ℕ) → v ++ pid ∷ [] ≡ w ++ other ∷ [] → (v ≡ w) × (pid ≡ other)
last-same [] [] pid other is = (refl, cc)
last-same [] (x ∷ w) pid other is = let many : 1 ≡ suc (length (w ++ other ∷ [])) = ap length is in absurd (omega (arith, many, length-append w (other ∷ [])))
last-same (x ∷ v) [] pid other is = let many : suc (length (v ++ pid ∷ [])) ≡ 1 = ap length is in absurd (omega (arith, many, length-append v (pid ∷ [])))
last-same (x ∷ v) (y ∷ w) pid other is =
    let head : x ≡ y = cc is in
    let tail : v ++ pid ∷ [] ≡ w ++ other ∷ [] = cc is in
    let rest = last-same v w pid other tail in
    (ap₂ (λ p (ps : List ℕ). p ∷ ps) head rest.0, rest.1)

-- two reported steps with the same text
abbrev Like : Move → Move → Type 0
Like m n = (m.witness ≡ n.witness) × (move_lines m ≡ move_lines n)

abbrev HasLike : List Move → Move → Type 0
HasLike ns m = (n : Move) × Among n ns × Like m n

-- a later element of one list has another text than each earlier element of the other
later-apart : (m n : Move) (ms : List Move) → AllByRecursion (Earlier m) ms → Among n ms → n.witness ≡ m.witness → ⊥
later-apart m n ms later within same = before-itself m.witness (subst (λ w. IsEarlierWitness m.witness w) same (each-among (Earlier m) ms later n within))

-- two such lists with the same witnesses have the same lines
same-lines : (ms ns : List Move) → EachToLater Earlier ms → EachToLater Earlier ns → AllByRecursion (HasLike ns) ms → AllByRecursion (HasLike ms) ns → map move_lines ms ≡ map move_lines ns
same-lines [] [] later later' here there = refl
same-lines [] (n ∷ ns) later later' here there = absurd there.0.1
same-lines (m ∷ ms) [] later later' here there = absurd here.0.1
same-lines (m ∷ ms) (n ∷ ns) later later' here there =
    let front = by here.0.0 here.0.1 here.0.2 there.0.0 there.0.1 there.0.2 in
    ap₂ (λ l (ls : List (List AnswerLine)). l ∷ ls) front.1
    (same-lines ms ns later.1 later'.1
    (each-from_among (HasLike ns) ms (λ x within. inside m n ms ns x later.0 front.0 within (each-among (HasLike (n ∷ ns)) ms here.1 x within)))
    (each-from_among (HasLike ms) ns (λ y within. inside n m ns ms y later'.0 (sym front.0) within (each-among (HasLike (m ∷ ms)) ns there.1 y within))))
  where
    by : (y : Move) → Among y (n ∷ ns) → Like m y → (x : Move) → Among x (m ∷ ms) → Like n x → Like m n
    by y (inl first) like x within like' = subst (Like m) first like
    by y (inr behind) like x (inl first) like' = absurd (later-apart n y ns later'.0 behind (sym like.0 ∙ ap (λ (z : Move). z.witness) (sym first) ∙ sym like'.0))
    by y (inr behind) like x (inr behind') like' =
        let one = each-among (Earlier n) ns later'.0 y behind in
        let two = each-among (Earlier m) ms later.0 x behind' in
        let back : IsEarlierWitness n.witness m.witness = subst (λ w. IsEarlierWitness n.witness w) (sym like.0) one in
        let on : IsEarlierWitness m.witness n.witness = subst (λ w. IsEarlierWitness m.witness w) (sym like'.0) two in
        absurd (before-itself m.witness (before-then m.witness n.witness m.witness on back))

    inside : (m n : Move) (ms ns : List Move) (x : Move) → AllByRecursion (Earlier m) ms → m.witness ≡ n.witness → Among x ms → HasLike (n ∷ ns) x → HasLike ns x
    inside m n ms ns x later same within (y, inl first, like) = absurd (later-apart m x ms later within (like.0 ∙ ap (λ (z : Move). z.witness) first ∙ sym same))
    inside m n ms ns x later same within (y, inr behind, like) = (y, behind, like)

-- ---- states from which each schedule has the same lines and the same live processes

module _ (program_of : Bytes → Option Program) where
  record RunsAlike (s u : State) : Type 0 where
    lines : (pids : List ℕ) (pid : ℕ) → (step program_of (run program_of pids u).final pid).lines ≡ (step program_of (run program_of pids s).final pid).lines
    lives : (pids : List ℕ) (pid : ℕ) → process_at (run program_of pids u).final pid ≡ process_at (run program_of pids s).final pid

  turned : (s u : State) → RunsAlike s u → RunsAlike u s
  turned s u alike = record { lines = λ pids pid. sym (alike.lines pids pid); lives = λ pids pid. sym (alike.lives pids pid) }

  steps-too : (pids : List ℕ) (s u : State) → RunsAlike s u → AreSteps program_of pids s → AreSteps program_of pids u
  steps-too [] s u alike steps = tt
  steps-too (pid ∷ pids) s u alike steps = (
    ap is_some (alike.lives [] pid) ∙ steps.0,
    steps-too pids (step program_of s pid).after (step program_of u pid).after (record { lines = λ ks. alike.lines (pid ∷ ks); lives = λ ks. alike.lives (pid ∷ ks) }) steps.1,
  )

  module _ (s u : State) (alike : RunsAlike s u) where
    text-same : (pids : List ℕ) (pid : ℕ) → text_of_step program_of (run program_of pids u).final pid ≡ text_of_step program_of (run program_of pids s).final pid
    text-same pids pid = ap trace_bytes (alike.lines pids pid)

    happens-too : (m : Move) → CanHappen program_of s m → HasSameWitness program_of u m
    happens-too m can = record {
      before = can.before;
      witness = can.witness;
      steps = steps-too m.witness s u alike can.steps;
      lines = alike.lines can.before m.pid ∙ ap (λ (w : Stepped). w.lines) (sym can.last);
    }

    least-too : (m : Move) → HasLeastWitness program_of s m → HasLeastWitness program_of u m
    least-too m least pids pid steps text = least pids pid (steps-too (pids ++ pid ∷ []) u s (turned s u alike) steps) (sym (text-same pids pid) ∙ text)

    module _ (limit : ℕ) (it : IsSearchable program_of limit s) (complete : is_complete program_of limit s ≡ true) where
      texts-too : (pids : List ℕ) (pid : ℕ) → is_some (process_at (run program_of pids u).final pid) ≡ true → text_of_step program_of (run program_of pids u).final pid ≢ []
          → list_any (λ m. bytes_eq (move_text m) (text_of_step program_of (run program_of pids u).final pid)) (reported program_of limit s) ≡ true
      texts-too pids pid lives text =
          subst (λ bytes. list_any (λ m. bytes_eq (move_text m) bytes) (reported program_of limit s) ≡ true) (sym (text-same pids pid))
          (all-reported program_of limit s it complete pids pid (ap is_some (sym (alike.lives pids pid)) ∙ lives) (λ none. text (text-same pids pid ∙ none)))

      -- a step reported from the other state is reported from this one
      has-like : (more : ℕ) → ReportedSteps program_of limit s → ReportedSteps program_of more u → (n : Move) → Among n (reported program_of more u) → HasLike (reported program_of limit s) n
      has-like more here there n within =
          let can = each-among (CanHappen program_of u) (reported program_of more u) there.happen n within in
          let steps : AreSteps program_of (can.before ++ n.pid ∷ []) u = subst (λ w. AreSteps program_of w u) can.witness can.steps in
          let text : text_of_step program_of (run program_of can.before u).final n.pid ≡ move_text n = ap (λ (w : Stepped). trace_bytes w.lines) (sym can.last) in
          let any = among-any (λ (m : Move). bytes_eq (move_text m) (text_of_step program_of (run program_of can.before u).final n.pid)) (reported program_of limit s)
          (texts-too can.before n.pid (steps-split program_of can.before n.pid u steps).1 (λ none. can.text (sym text ∙ none))) in
          let m = any.0 in
          let same : move_text m ≡ move_text n = bytes_eq-same (move_text m) (text_of_step program_of (run program_of can.before u).final n.pid) any.2 ∙ text in
          let own = each-among (CanHappen program_of s) (reported program_of limit s) here.happen m any.1 in
          let own_text : text_of_step program_of (run program_of own.before s).final m.pid ≡ move_text m = ap (λ (w : Stepped). trace_bytes w.lines) (sym own.last) in
          let on : IsNoLaterWitness m.witness n.witness =
          subst (IsNoLaterWitness m.witness) (sym can.witness) (each-among (HasLeastWitness program_of s) (reported program_of limit s) here.least m any.1 can.before n.pid (steps-too (can.before ++ n.pid ∷ []) u s (turned s u alike) steps)
          (sym (text-same can.before n.pid) ∙ text ∙ sym same)) in
          let back : IsNoLaterWitness n.witness m.witness =
          subst (IsNoLaterWitness n.witness) (sym own.witness) (each-among (HasLeastWitness program_of u) (reported program_of more u) there.least n within own.before m.pid (steps-too (own.before ++ m.pid ∷ []) s u alike (subst (λ w. AreSteps program_of w s) own.witness own.steps))
          (text-same own.before m.pid ∙ own_text ∙ same)) in
          let witness : n.witness ≡ m.witness = both-no_later n.witness m.witness back on in
          let parts = last-same can.before own.before n.pid m.pid (sym can.witness ∙ witness ∙ own.witness) in
          let lines : n.stepped.lines ≡ m.stepped.lines =
          ap (λ (w : Stepped). w.lines) can.last ∙ ap₂ (λ ks k. (step program_of (run program_of ks u).final k).lines) parts.0 parts.1 ∙ alike.lines own.before m.pid ∙ ap (λ (w : Stepped). w.lines) (sym own.last) in
          (m, any.1, (witness, by m n witness parts.1 lines))
        where
          by : (m n : Move) → n.witness ≡ m.witness → n.pid ≡ m.pid → n.stepped.lines ≡ m.stepped.lines → move_lines n ≡ move_lines m
          by m n witness pid lines = λ i. answer_line (pid i) (codes "BY") (witness_text (witness i)) ∷ map of_trace (lines i)

  search-too : (s u : State) → RunsAlike s u → (limit : ℕ) → IsSearchable program_of limit s → is_complete program_of limit s ≡ true
      → (more : ℕ) → IsSearchable program_of more u → is_complete program_of more u ≡ true → map move_lines (reported program_of more u) ≡ map move_lines (reported program_of limit s)
  search-too s u alike limit it complete more it' complete' =
      let here = reported-steps program_of limit s it in
      let there = reported-steps program_of more u it' in
      same-lines (reported program_of more u) (reported program_of limit s) there.in_order here.in_order
      (each-from_among (HasLike (reported program_of limit s)) (reported program_of more u) (has-like s u alike limit it complete more here there))
      (each-from_among (HasLike (reported program_of more u)) (reported program_of limit s) (has-like u s (turned s u alike) more it' complete' limit there here))

  -- ---- states that differ in a file that no step reads

  module _ (encodes : EncodesPrograms program_of) (f : ℕ) where
    -- no step of any schedule reads the file
    Unread : State → Type 0
    Unread s = (pids : List ℕ) (pid : ℕ) (p : Process) → process_at (run program_of pids s).final pid ≡ Some p → Touches program_of (run program_of pids s).final pid (read_file f) → ⊥

    record HaveOtherBytes (s u : State) : Type 0 where
      same : SameButFile f s u
      as_many : length (file_bytes u f) ≡ length (file_bytes s f)
      whole : IsValid s
      other_whole : IsValid u
      unread : Unread s

    step-other_bytes : (s u : State) → HaveOtherBytes s u → (pid : ℕ) → StepsDifferInFile f (step program_of s pid) (step program_of u pid)
    unfolding Unread
    step-other_bytes s u it pid =
        subst (λ (y : State). StepsDifferInFile f (step program_of s pid) (step program_of y pid)) it.same
        (unread-alike program_of s pid f (file_bytes u f) it.whole (subst IsValid (sym it.same) it.other_whole) it.as_many (it.unread [] pid))

    next-other_bytes : (s u : State) → HaveOtherBytes s u → (pid : ℕ) → HaveOtherBytes (step program_of s pid).after (step program_of u pid).after
    unfolding Unread
    next-other_bytes s u it pid =
        let alike = step-other_bytes s u it pid in
        record {
          same = alike.after;
          as_many = alike.as_many;
          whole = step-keeps_valid program_of encodes s pid it.whole;
          other_whole = step-keeps_valid program_of encodes u pid it.other_whole;
          unread = λ pids. it.unread (pid ∷ pids);
        }

    run-other_bytes : (pids : List ℕ) (s u : State) → HaveOtherBytes s u → HaveOtherBytes (run program_of pids s).final (run program_of pids u).final
    run-other_bytes [] s u it = it
    run-other_bytes (pid ∷ pids) s u it = run-other_bytes pids (step program_of s pid).after (step program_of u pid).after (next-other_bytes s u it pid)

    lines-other_bytes : (pids : List ℕ) (s u : State) → HaveOtherBytes s u → (run program_of pids u).lines ≡ (run program_of pids s).lines
    lines-other_bytes [] s u it = refl
    lines-other_bytes (pid ∷ pids) s u it =
        ap₂ (λ (now : List Line) later. now ++ later) (step-other_bytes s u it pid).lines (lines-other_bytes pids (step program_of s pid).after (step program_of u pid).after (next-other_bytes s u it pid))

    same-other_bytes : (s u : State) → HaveOtherBytes s u → RunsAlike s u
    same-other_bytes s u it = record {
      lines = λ pids pid. (step-other_bytes (run program_of pids s).final (run program_of pids u).final (run-other_bytes pids s u it) pid).lines;
      lives = λ pids pid. ap (λ (y : State). process_at y pid) (sym (run-other_bytes pids s u it).same);
    }

    run-alike : (pids : List ℕ) (s u : State) → HaveOtherBytes s u → RunsDifferInFile f (run program_of pids s) (run program_of pids u)
    run-alike pids s u it =
        let left = run-other_bytes pids s u it in
        let lines = lines-other_bytes pids s u it in
        record { lines = lines; text = ap trace_bytes lines; final = left.same; as_many = left.as_many }

-- ---- from the start of a search

module _ (program_of : Bytes → Option Program) (limit : ℕ) (s : State) (f : ℕ) (bytes : Bytes) (it : IsSearchable program_of limit s) (complete : is_complete program_of limit s ≡ true)
    (none : IsNeverRead program_of limit s f) (whole : IsValid (with_bytes s f bytes)) (long : length bytes ≡ length (file_bytes s f)) where
  unread-by_any : Unread program_of it.encodes f s
  unfolding Unread
  unread-by_any pids pid p at =
      let there = found-there (run program_of pids s).final (states_found program_of limit s) (all-found program_of limit s it complete pids) in
      subst (λ (t : State). Touches program_of t pid (read_file f) → ⊥) there.2
      (each-among (λ (g : Found). (pid : ℕ) → is_some (process_at g.state pid) ≡ true → Touches program_of g.state pid (read_file f) → ⊥) (states_found program_of limit s) none there.0 there.1 pid
      (ap (λ (t : State). is_some (process_at t pid)) there.2 ∙ ap is_some at))

  start-other_bytes : HaveOtherBytes program_of it.encodes f s (with_bytes s f bytes)
  start-other_bytes =
      let near = near-bytes as_is s f bytes long in
      record {
        same = same-but_file as_is f s (with_bytes s f bytes) near;
        as_many = near-length_of as_is f s (with_bytes s f bytes) near;
        whole = it.whole;
        other_whole = whole;
        unread = unread-by_any;
      }

  pub unread-reported : HasSameReports program_of limit s f bytes
  unread-reported =
      let u = with_bytes s f bytes in
      let alike = same-other_bytes program_of it.encodes f s u start-other_bytes in
      let steps = reported-steps program_of limit s it in
      record {
        schedules = λ pids. run-alike program_of it.encodes f pids s u start-other_bytes;
        witnesses = each-weaker (CanHappen program_of s) (HasSameWitness program_of u) (happens-too program_of s u alike) (reported program_of limit s) steps.happen;
        least = each-weaker (HasLeastWitness program_of s) (HasLeastWitness program_of u) (least-too program_of s u alike) (reported program_of limit s) steps.least;
        texts = texts-too program_of s u alike limit it complete;
        search = λ more room complete'. search-too program_of s u alike limit it complete more (record { encodes = it.encodes; whole = whole; room = room }) complete';
      }

-- ---- from an image

module _ (program_of : Bytes → Option Program) (encodes : EncodesPrograms program_of) (t : Tree) (f : ℕ) (bytes : Bytes) (long : length bytes ≡ length (bytes_of (node_at t f))) where
  abbrev v : Tree
  v = with_content t f bytes

  abbrev init_of : Tree → Option ℕ
  init_of x = find_entry x root (codes "init")

  same-init : init_of t ≢ Some f → option_and_then (node_at v) (init_of v) ≡ option_and_then (node_at t) (init_of t)
  same-init apart =
      let near = near-bytes as_is (first_state t []) f bytes long in
      let tree : v ≡ with_nodes t v.nodes = ap (λ (y : State). y.tree) near.rest in
      let entry : init_of v ≡ init_of t = ap init_of tree ∙ ap (λ es. find by_name (codes "init") es) (entries-near as_is f t v.nodes near.nodes root) in
      ap (option_and_then (node_at v)) entry ∙ by near (init_of t) refl
    where
      by : IsNear as_is f (first_state t []) (with_bytes (first_state t []) f bytes) → (o : Option ℕ) → init_of t ≡ o → option_and_then (node_at v) o ≡ option_and_then (node_at t) o
      by near None is = refl
      by near (Some n) is = near-other as_is f t.nodes v.nodes near.nodes n (λ same. apart (is ∙ ap (λ k. Some k) same))

  program-fits : (o : Option Node) (program : Program) → init_program program_of t o ≡ Some program → is_program_in_bounds program ≡ true
  program-fits None program is = let same : [] ≡ program = cc is in subst (λ p. is_program_in_bounds p ≡ true) same refl
  program-fits (Some (file_node true code)) program is = encodes.encodes code program is
  program-fits (Some (file_node false code)) program is = cc
  program-fits (Some (directory_node es)) program is = cc
  program-fits (Some (link_node text)) program is = cc

  -- the state in which a tree boots, given the program of `init`
  boot-by : (s : State) → init_of t ≢ Some f → boot program_of t ≡ Some s → (program : Program) × (s ≡ first_state t program) × (is_program_in_bounds program ≡ true) × (boot program_of v ≡ Some (first_state v program))
  boot-by s apart boots = by (init_program program_of t (option_and_then (node_at t) (init_of t))) refl boots
    where
      by : (o : Option Program) → init_program program_of t (option_and_then (node_at t) (init_of t)) ≡ o → option_map (first_state t) o ≡ Some s
          → (program : Program) × (s ≡ first_state t program) × (is_program_in_bounds program ≡ true) × (boot program_of v ≡ Some (first_state v program))
      by None none is = cc
      by (Some program) encoded is = (
        program,
        let same : first_state t program ≡ s = cc is in sym same,
        program-fits (option_and_then (node_at t) (init_of t)) program encoded,
        ap (λ o. option_map (first_state v) (init_program program_of v o)) (same-init apart) ∙ ap (option_map (first_state v)) (same-encoded (option_and_then (node_at t) (init_of t)) ∙ encoded),
      )
        where
          same-encoded : (o : Option Node) → init_program program_of v o ≡ init_program program_of t o
          same-encoded None = refl
          same-encoded (Some (file_node true code)) = refl
          same-encoded (Some (file_node false code)) = refl
          same-encoded (Some (directory_node es)) = refl
          same-encoded (Some (link_node text)) = refl

pub unread-files : (program_of : Bytes → Option Program) (limit : ℕ) (t : Tree) (s : State) (f : ℕ) (bytes : Bytes) → EncodesPrograms program_of → 1 ≤ limit
    → IsFirstTree t → IsFirstTree (with_content t f bytes) → length bytes ≡ length (bytes_of (node_at t f)) → find_entry t root (codes "init") ≢ Some f
    → boot program_of t ≡ Some s → is_complete program_of limit s ≡ true → IsNeverRead program_of limit s f → StartsWithOtherBytes program_of limit s t f bytes
unread-files program_of limit t s f bytes encodes room first other long apart boots complete none =
    let by = boot-by program_of encodes t f bytes long s apart boots in
    let same : with_bytes s f bytes ≡ first_state (with_content t f bytes) by.0 = ap (λ (x : State). with_bytes x f bytes) by.1 in
    record {
      boots = by.3 ∙ ap (λ x. Some x) (sym same);
      reports = unread-reported program_of limit s f bytes
          (record { encodes = encodes; whole = subst IsValid (sym by.1) (first-valid t by.0 first by.2); room = room }) complete none
          (subst IsValid (sym same) (first-valid (with_content t f bytes) by.0 other by.2))
          (subst (λ (x : State). length bytes ≡ length (file_bytes x f)) (sym by.1) long);
    }
