-- The lines of `exposure`: each finding about a process of a visited state is listed, and each listed line is of a finding.
use Rattle.std.proofs.Common.{◌<◌, filter, ◌≡◌, ◌∙◌, sym, ap, subst, ℕ, suc, ◌≤◌, Bool, true, false, not, ◌||◌, ◌==◌, if◌then◌else◌, nat_le, max, fold, List, [], ◌∷◌, map, flat_map, Contains, Option, None, Some, is_some, ◌⊎◌, inl, inr, refl, arith}
use Rattle.std.specs.List.{AllByRecursion, list_all, range_with_len}
use Rattle.std.proofs.lemmas.Bool.Decides.{nat_tests}
use Rattle.pv_model.specs.Machine.{Found, states_found, Located, program_key, in_ranges, first_of, is_file_at, named_files, files_of_tree, program_numbers, Bytes, is_empty, among, live_processes, leaks, Program, Process, State, process_at, run, Tree}
use Rattle.pv_model.specs.Answers.Exposure.{located_at, located, onto_ranges}
use Rattle.pv_model_questions.specs.declared.finding_kind.FindingKind.{FindingKind}
use Rattle.pv_model_questions.specs.declared.finding_kind.FindingKind.TheVariants.{Leak, Peer, Edit, Read}
use Rattle.pv_model_questions.specs.Briefs.{brief_since}
use Rattle.pv_model_questions.specs.Exposure.{Finding, are_all_closed, finding_by, findings_at, greatest_finding_line, is_safe_in, last_finding, finding_line, lines_found, reason_by, safe_files_of_first, witness_by}
use Rattle.pv_laws_access.proofs.Verdicts.{leaks-closed}
use Rattle.pv_laws_answers.specs.Witnesses.{AreSteps}
use Rattle.pv_laws_answers.proofs.CompleteSearches.{found-there, among-contains, all-found}
use Rattle.pv_laws_answers.proofs.Lists.{Among, all-among, among-any, any-among, among-filter, among-flat, among-map, filter-among, flat-among, map-among}
use Rattle.pv_laws_answers.proofs.LiveProcesses.{live-listed, listed-live}
use Rattle.pv_laws_answers.proofs.SoundStates.{witness-more}
use Rattle.pv_laws_classes.proofs.ReducedProcesses.{themselves}
use Rattle.pv_laws_states.proofs.ValidBySteps.{run-keeps_valid}
use Rattle.pv_laws_schedules.specs.Exposure.{HasNone, IsExactReason, IsFinding, IsFoundAfter, IsListedIn, IsUnlisted, IsCompleteSearch, IsWitnessed, findings_by_text, located_in, programs_in}
use Rattle.pv_laws_schedules.specs.Exposure.{ListedLinesHappen, SafeFilesAreClosed, UnlistedLinesAreClosed, UnlistedLinesAreFixed, UnlistedLinesHaveNoReason, UnlistedLinesReadNothing, UnlistedLinesCloseAll, WitnessesLead}
use Rattle.pv_laws_schedules.proofs.FindingReasons.{empty-is, exact-reasons}
use Rattle.pv_laws_schedules.proofs.KeyGroups.{HasGroup, group-head, grouped, of-group, in-group, same-programs}
use Rattle.pv_laws_schedules.proofs.PairSearch.{among-range}
use Rattle.pv_laws_schedules.proofs.ReachedStates.{sound-at}
use Rattle.pv_laws_schedules.proofs.ShownStates.{AreSound}

-- ---- ranges

abbrev IsCovered : ℕ → List (ℕ × ℕ) → Type 0
IsCovered n rs = (r : ℕ × ℕ) × Among r rs × (r.0 ≤ n) × (n ≤ r.1)

-- no range is empty
AreRanges : List (ℕ × ℕ) → Type 0
AreRanges rs = AllByRecursion (λ r. r.0 ≤ r.1) rs

onto-are : (n : ℕ) (rs : List (ℕ × ℕ)) → AreRanges rs → AreRanges (onto_ranges n rs)
unfolding AreRanges
onto-are n [] are = (omega arith, tt)
onto-are n ((from, to) ∷ rs) are = by (suc n == from) refl
  where
    by : (b : Bool) → (suc n == from) ≡ b → AreRanges (if b then (n, to) ∷ rs else (n, n) ∷ (from, to) ∷ rs)
    by true is = (let e : suc n ≡ from = grind (arith, nat_tests) in omega (arith, are.0), are.1)
    by false is = (omega arith, are)

are-ranges : (ns : List ℕ) → AreRanges (in_ranges ns)
unfolding AreRanges
are-ranges [] = tt
are-ranges (n ∷ ns) = onto-are n (in_ranges ns) (are-ranges ns)

onto-covers : (n m : ℕ) (rs : List (ℕ × ℕ)) → AreRanges rs → (m ≡ n) ⊎ IsCovered m rs → IsCovered m (onto_ranges n rs)
unfolding AreRanges
onto-covers n m [] are (inl e) = ((n, n), inl refl, omega arith, omega arith)
onto-covers n m [] are (inr c) = absurd c.1
onto-covers n m ((from, to) ∷ rs) are c = by (suc n == from) refl c
  where
    by : (b : Bool) → (suc n == from) ≡ b → (m ≡ n) ⊎ IsCovered m ((from, to) ∷ rs) → IsCovered m (if b then (n, to) ∷ rs else (n, n) ∷ (from, to) ∷ rs)
    by true is (inl e) = let next : suc n ≡ from = grind (arith, nat_tests) in ((n, to), inl refl, omega arith, omega (arith, are.0))
    by true is (inr (r, inl e, low, high)) =
        let next : suc n ≡ from = grind (arith, nat_tests) in
        let a : r.0 ≡ from = ap (λ (p : ℕ × ℕ). p.0) e in
        let b : r.1 ≡ to = ap (λ (p : ℕ × ℕ). p.1) e in
        ((n, to), inl refl, omega (arith, low, a, next), omega (arith, high, b))
    by true is (inr (r, inr h, low, high)) = (r, inr h, low, high)
    by false is (inl e) = ((n, n), inl refl, omega arith, omega arith)
    by false is (inr (r, h, low, high)) = (r, inr h, low, high)

onto-covered : (n m : ℕ) (rs : List (ℕ × ℕ)) → IsCovered m (onto_ranges n rs) → (m ≡ n) ⊎ IsCovered m rs
onto-covered n m [] (r, inl e, low, high) =
    let a : r.0 ≡ n = ap (λ (p : ℕ × ℕ). p.0) e in
    let b : r.1 ≡ n = ap (λ (p : ℕ × ℕ). p.1) e in
    inl (omega (arith, low, high, a, b))
onto-covered n m [] (r, inr h, low, high) = absurd h
onto-covered n m ((from, to) ∷ rs) c = by (suc n == from) refl c
  where
    first : (r : ℕ × ℕ) → r ≡ (n, to) → suc n ≡ from → r.0 ≤ m → m ≤ r.1 → (k : ℕ) → (m == n) ≡ true ⊎ ((m == n) ≡ false) → (m ≡ n) ⊎ IsCovered m ((from, to) ∷ rs)
    first r e next low high k (inl same) = inl (grind (arith, nat_tests))
    first r e next low high k (inr other) =
        let a : r.0 ≡ n = ap (λ (p : ℕ × ℕ). p.0) e in
        let b : r.1 ≡ to = ap (λ (p : ℕ × ℕ). p.1) e in
        let apart : m ≡ n → ⊥ = λ same. (let yes' : (m == n) ≡ true = grind (arith, nat_tests) in let bad : true ≡ false = sym yes' ∙ other in cc bad) in
        inr ((from, to), inl refl, omega (arith, low, a, next, apart), omega (arith, high, b))

    both : (b : Bool) → (m == n) ≡ b → ((m == n) ≡ true) ⊎ ((m == n) ≡ false)
    both true is = inl is
    both false is = inr is

    by : (b : Bool) → (suc n == from) ≡ b → IsCovered m (if b then (n, to) ∷ rs else (n, n) ∷ (from, to) ∷ rs) → (m ≡ n) ⊎ IsCovered m ((from, to) ∷ rs)
    by true is (r, inl e, low, high) = first r e (grind (arith, nat_tests)) low high 0 (both (m == n) refl)
    by true is (r, inr h, low, high) = inr (r, inr h, low, high)
    by false is (r, inl e, low, high) =
        let a : r.0 ≡ n = ap (λ (p : ℕ × ℕ). p.0) e in
        let b : r.1 ≡ n = ap (λ (p : ℕ × ℕ). p.1) e in
        inl (omega (arith, low, high, a, b))
    by false is (r, inr h, low, high) = inr (r, h, low, high)

-- the ranges cover exactly the numbers
ranges-cover : (m : ℕ) (ns : List ℕ) → Among m ns → IsCovered m (in_ranges ns)
ranges-cover m [] h = absurd h
ranges-cover m (n ∷ ns) (inl e) = onto-covers n m (in_ranges ns) (are-ranges ns) (inl e)
ranges-cover m (n ∷ ns) (inr h) = onto-covers n m (in_ranges ns) (are-ranges ns) (inr (ranges-cover m ns h))

covered-by : (m : ℕ) (ns : List ℕ) → IsCovered m (in_ranges ns) → Among m ns
covered-by m [] c = absurd c.1
covered-by m (n ∷ ns) c = by (onto-covered n m (in_ranges ns) c) (covered-by m ns)
  where
    by : (m ≡ n) ⊎ IsCovered m (in_ranges ns) → (IsCovered m (in_ranges ns) → Among m ns) → Among m (n ∷ ns)
    by (inl e) later = inl e
    by (inr c) later = inr (later c)

-- ---- the lines of findings

max-least : (xs : List ℕ) (k : ℕ) → k ≤ fold max k xs
max-least [] k = omega arith
max-least (x ∷ xs) k = let rest = max-least xs (max k x) in omega (arith, rest)

max-most : (xs : List ℕ) (k x : ℕ) → Among x xs → x ≤ fold max k xs
max-most [] k x h = absurd h
max-most (y ∷ ys) k x (inl e) = let rest = max-least ys (max k y) in omega (arith, rest, e)
max-most (y ∷ ys) k x (inr h) = max-most ys (max k y) x h

line-listed : (xs : List Finding) (x : Finding) → Among x xs → 1 ≤ finding_line x → Among (finding_line x) (lines_found xs)
line-listed xs x h low =
    let line = among-map finding_line x xs h in
    let equal : (finding_line x == finding_line x) ≡ true = grind (arith, nat_tests) in
    among-filter (among (map finding_line xs)) (finding_line x) (range_with_len 1 (greatest_finding_line xs))
    (among-range 1 (greatest_finding_line xs) (finding_line x) low (omega (arith, max-most (map finding_line xs) 0 (finding_line x) line)))
    (any-among (λ m. m == finding_line x) (finding_line x) (map finding_line xs) line equal)

listed-line : (xs : List Finding) (n : ℕ) → Among n (lines_found xs) → (x : Finding) × Among x xs × (finding_line x ≡ n)
listed-line xs n h =
    let parts = filter-among (among (map finding_line xs)) n (range_with_len 1 (greatest_finding_line xs)) h in
    let there = among-any (λ m. m == n) (map finding_line xs) parts.1 in
    let x = map-among finding_line there.0 xs there.1 in
    (x.0, x.1, sym x.2 ∙ grind (arith, nat_tests, there.2))

abbrev pub text_of : Finding → Bytes
text_of x = x.file

-- ---- the processes of visited states

module _ (program_of : Bytes → Option Program) (s : State) (found : List Found) (sound : AreSound program_of s found) where
  -- a located process is live in a visited state
  pub record IsPlaced (l : Located) : Type 0 where
    pub within : Among l.found found
    pub live : process_at l.found.state l.pid ≡ Some l.process

  pub placed : (l : Located) → IsPlaced l → Among l (located found)
  placed l at =
      among-flat located_at l.found l found at.within
      (among-map (λ (r : ℕ × Process). record { found = l.found; pid = r.0; process = r.1 }) (l.pid, l.process) (live_processes l.found.state.processes)
      (live-listed l.found.state l.pid l.process at.live))

  pub of-located : (l : Located) → Among l (located found) → IsPlaced l
  of-located l h =
      let from = flat-among located_at l found h in
      let p = map-among (λ (r : ℕ × Process). record { found = from.0; pid = r.0; process = r.1 }) l (live_processes from.0.state.processes) from.2 in
      let live = listed-live from.0.state p.0.0 p.0.1 (sound from.0 from.1).whole.processes.ascending p.1 in
      subst IsPlaced (sym p.2) (record { within = from.1; live = live })

  exact : (kind : FindingKind) (l : Located) (f : ℕ) → IsPlaced l → IsExactReason program_of l f kind
  exact kind l f at = exact-reasons program_of l f kind (sound l.found at.within).whole at.live

  module _ (kind : FindingKind) where
    abbrev findings : List Located → List Finding
    findings ls = flat_map (findings_at program_of s.tree kind) ls

    -- ---- each finding is listed

    -- the finding of a reason
    abbrev pub found_for : Located → ℕ → Bytes → Finding
    found_for l f reason = record { at = l; witness = witness_by kind l; file = brief_since s.tree l.found.state.tree f; reason = reason }

    pub finding-within : (l : Located) (f : ℕ) → Among f (files_of_tree l.found.state.tree) → (reason : Bytes) → reason_by program_of l f kind ≡ Some reason
        → Among (found_for l f reason) (findings_at program_of s.tree kind l)
    finding-within l f file reason is =
        among-flat (λ f. finding_by program_of s.tree kind l f (reason_by program_of l f kind)) f (found_for l f reason) (files_of_tree l.found.state.tree) file
        (subst (λ (o : Option Bytes). Among (found_for l f reason) (finding_by program_of s.tree kind l f o)) (sym is) (inl refl))

    finding-listed : (l : Located) → IsPlaced l → (f : ℕ) → Among f (files_of_tree l.found.state.tree) → (reason : Bytes) → reason_by program_of l f kind ≡ Some reason
        → IsListedIn program_of s.tree found kind l.process.program (brief_since s.tree l.found.state.tree f) l.process.line
    finding-listed l at f file reason is =
        let group : HasGroup program_key (located found) l = grouped program_key (located found) l (placed l at) in
        let own : Among (found_for l f reason) (findings group.group.1) = among-flat (findings_at program_of s.tree kind) l (found_for l f reason) group.group.1 group.within (finding-within l f file reason is) in
        let files : HasGroup text_of (findings group.group.1) (found_for l f reason) = grouped text_of (findings group.group.1) (found_for l f reason) own in
        let low = (sound l.found at.within).whole.processes.running l.pid l.process at.live in
        let covered = ranges-cover l.process.line (lines_found files.group.1) (line-listed files.group.1 (found_for l f reason) files.within low.line.0) in
        record {
          group = group.group;
          listed = among-contains group.group (programs_in found) group.listed;
          same_program = same-programs l.found.state.tree group.group.0.process.program l.process.program group.same;
          findings = files.group;
          findings_listed = among-contains files.group (findings_by_text program_of s.tree kind group.group.1) files.listed;
          same_file = files.same;
          range = (covered.0, among-contains covered.0 (in_ranges (lines_found files.group.1)) covered.1, covered.2, covered.3);
        }

    -- a process of a visited state with the tree, the program, the line and the reasons of a process
    pub record IsAlike (l : Located) : Type 0 where
      pub there : Located
      pub is_placed : IsPlaced there
      pub tree : there.found.state.tree ≡ l.found.state.tree
      pub program : there.process.program ≡ l.process.program
      pub line : there.process.line ≡ l.process.line
      pub reasons : (f : ℕ) → reason_by program_of there f kind ≡ reason_by program_of l f kind

    pub none-unlisted : (l : Located) → IsAlike l → (f : ℕ) → Among f (files_of_tree l.found.state.tree)
        → (IsListedIn program_of s.tree found kind l.process.program (brief_since s.tree l.found.state.tree f) l.process.line → ⊥) → reason_by program_of l f kind ≡ None
    none-unlisted l alike f file none = by (reason_by program_of l f kind) refl
      where
        listed : (reason : Bytes) → reason_by program_of l f kind ≡ Some reason → IsListedIn program_of s.tree found kind l.process.program (brief_since s.tree l.found.state.tree f) l.process.line
        listed reason is =
            let there =
            finding-listed alike.there alike.is_placed f (subst (λ (t : Tree). Among f (files_of_tree t)) (sym alike.tree) file) reason (alike.reasons f ∙ is) in
            subst (IsListedIn program_of s.tree found kind l.process.program (brief_since s.tree l.found.state.tree f)) alike.line
            (subst (λ (t : Tree). IsListedIn program_of s.tree found kind l.process.program (brief_since s.tree t f) alike.there.process.line) alike.tree
            (subst (λ (p : Program). IsListedIn program_of s.tree found kind p (brief_since s.tree alike.there.found.state.tree f) alike.there.process.line) alike.program there))

        by : (o : Option Bytes) → reason_by program_of l f kind ≡ o → o ≡ None
        by None is = refl
        by (Some reason) is = absurd (none (listed reason is))

    -- ---- each listed line is of a finding

    -- a finding is of a file of its state, with a reason
    pub record IsOfFile (l : Located) (x : Finding) : Type 0 where
      pub at : x.at ≡ l
      pub witness : x.witness ≡ witness_by kind l
      pub number : ℕ
      pub within : Among number (files_of_tree l.found.state.tree)
      pub same_file : x.file ≡ brief_since s.tree l.found.state.tree number
      pub reason : reason_by program_of l number kind ≡ Some x.reason

    pub of-file : (l : Located) (x : Finding) → Among x (findings_at program_of s.tree kind l) → IsOfFile l x
    of-file l x h =
        let from = flat-among (λ f. finding_by program_of s.tree kind l f (reason_by program_of l f kind)) x (files_of_tree l.found.state.tree) h in
        by from.0 from.1 (reason_by program_of l from.0 kind) refl from.2
      where
        by : (f : ℕ) → Among f (files_of_tree l.found.state.tree) → (o : Option Bytes) → reason_by program_of l f kind ≡ o → Among x (finding_by program_of s.tree kind l f o) → IsOfFile l x
        by f within None is none = absurd none
        by f within (Some reason) is (inl e) = record {
          at = ap (λ (y : Finding). y.at) e;
          witness = ap (λ (y : Finding). y.witness) e;
          number = f;
          within = within;
          same_file = ap (λ (y : Finding). y.file) e;
          reason = is ∙ ap (λ (y : Finding). Some y.reason) (sym e);
        }
        by f within (Some reason) is (inr none) = absurd none

    finding-at : (program : Program) (file : Bytes) (line : ℕ) (l : Located) → IsPlaced l → l.process.program ≡ program → l.process.line ≡ line → (f : ℕ) → Among f (files_of_tree l.found.state.tree)
        → brief_since s.tree l.found.state.tree f ≡ file → (reason : Bytes) → reason_by program_of l f kind ≡ Some reason → IsFoundAfter program_of s kind program file line
    finding-at program file line l at same_program same_line f within same_file reason is =
        let own = sound l.found at.within in
        let leads : l.found.state ≡ (run program_of l.found.witness s).final = sym own.witness.leads in
        record {
          pids = l.found.witness;
          steps = own.witness.steps;
          pid = l.pid;
          process = l.process;
          live = ap (λ v. process_at v l.pid) (sym leads) ∙ at.live;
          same_program = same_program;
          same_line = same_line;
          number = f;
          within = subst (λ (v : State). Contains (files_of_tree v.tree) f) leads (among-contains f (files_of_tree l.found.state.tree) within);
          same_file = ap (λ (v : State). brief_since s.tree v.tree f) (sym leads) ∙ same_file;
          finding = subst (λ (v : State). IsFinding program_of v l.pid l.process f kind) leads ((exact kind l f at).some reason is);
        }

    pub listed-found : (program : Program) (file : Bytes) (line : ℕ) → IsListedIn program_of s.tree found kind program file line → IsFoundAfter program_of s kind program file line
    listed-found program file line is =
        let group = themselves (programs_in found) is.group is.listed in
        let files = themselves (findings_by_text program_of s.tree kind is.group.1) is.findings is.findings_listed in
        let lines = lines_found is.findings.1 in
        let own-line = listed-line is.findings.1 line (covered-by line lines (is.range.0, themselves (in_ranges lines) is.range.0 is.range.1, is.range.2, is.range.3)) in
        let x = own-line.0 in
        let own = of-group text_of (findings is.group.1) is.findings files x own-line.1 in
        let at = flat-among (findings_at program_of s.tree kind) x is.group.1 own.0 in
        let l = at.0 in
        let member = of-group program_key (located found) is.group group l at.1 in
        let of = of-file l x at.2 in
        finding-at program file line l (of-located l member.0)
        (same-programs s.tree l.process.program is.group.0.process.program member.1 ∙ is.same_program)
        (ap (λ (k : Located). k.process.line) (sym of.at) ∙ own-line.2) of.number of.within (sym of.same_file ∙ own.1 ∙ is.same_file) x.reason of.reason

-- ---- the witness of a line

max-either : (k x : ℕ) → (max k x ≡ k) ⊎ (max k x ≡ x)
max-either k x = by (nat_le k x) refl
  where
    by : (b : Bool) → nat_le k x ≡ b → (max k x ≡ k) ⊎ (max k x ≡ x)
    by true is = let le : k ≤ x = grind (arith, nat_tests) in inr (omega (arith, le))
    by false is = let less : x < k = grind (arith, nat_tests) in inl (omega (arith, less))

max-attained : (xs : List ℕ) (k : ℕ) → (fold max k xs ≡ k) ⊎ Among (fold max k xs) xs
max-attained [] k = inl refl
max-attained (x ∷ xs) k = by (max-attained xs (max k x)) (max-either k x)
  where
    by : (fold max (max k x) xs ≡ max k x) ⊎ Among (fold max (max k x) xs) xs → (max k x ≡ k) ⊎ (max k x ≡ x) → (fold max (max k x) xs ≡ k) ⊎ Among (fold max (max k x) xs) (x ∷ xs)
    by (inr h) either = inr (inr h)
    by (inl same) (inl e) = inl (same ∙ e)
    by (inl same) (inr e) = inr (inl (same ∙ e))

-- the first element that passes a test
first-passes : {X : Type 0} (test : X → Bool) (xs : List X) (x : X) → Among x xs → test x ≡ true → (y : X) × (first_of (filter test xs) ≡ Some y) × Among y xs × (test y ≡ true)
first-passes {X} test xs x h is = by (filter test xs) refl (among-filter test x xs h is)
  where
    by : (ys : List X) → filter test xs ≡ ys → Among x ys → (y : X) × (first_of (filter test xs) ≡ Some y) × Among y xs × (test y ≡ true)
    by [] same none = absurd none
    by (y ∷ ys) same some =
        let own = filter-among test y xs (subst (λ (zs : List X). Among y zs) (sym same) (inl refl)) in
        (y, ap first_of same, own.0, own.1)

-- the schedule of a finding is of live processes
steps-of : (program_of : Bytes → Option Program) (s : State) (found : List Found) (sound : AreSound program_of s found) (kind : FindingKind) (l : Located)
    → IsPlaced program_of s found sound l → AreSteps program_of (witness_by kind l) s
steps-of program_of s found sound Leak l at = (sound l.found at.within).witness.steps
steps-of program_of s found sound Peer l at = (sound l.found at.within).witness.steps
steps-of program_of s found sound Edit l at = (sound l.found at.within).witness.steps
steps-of program_of s found sound Read l at =
    (witness-more program_of s l.found.state l.found.witness l.pid (sound l.found at.within).witness (ap is_some at.live)).steps

module _ (program_of : Bytes → Option Program) (s : State) (found : List Found) (sound : AreSound program_of s found) (kind : FindingKind)
    (group : Located × List Located) (listed : Contains (programs_in found) group) (h : Finding × List Finding) (has : Contains (findings_by_text program_of s.tree kind group.1) h) where
  abbrev all : List Finding
  all = flat_map (findings_at program_of s.tree kind) group.1

  abbrev lead_to : Located → Type 0
  lead_to l = IsPlaced program_of s found sound l

  findings_listed : Among h (findings_by_text program_of s.tree kind group.1)
  findings_listed = themselves (findings_by_text program_of s.tree kind group.1) h has

  -- a finding of the group, with the process that it is of
  pub record IsOfGroup (x : Finding) : Type 0 where
    pub is_placed : IsPlaced program_of s found sound x.at
    pub file : IsOfFile program_of s found sound kind x.at x
    pub same_file : x.file ≡ h.0.file

  pub in-all : (x : Finding) → Among x h.1 → IsOfGroup x
  in-all x own =
      let of = of-group text_of all h findings_listed x own in
      let at = flat-among (findings_at program_of s.tree kind) x group.1 of.0 in
      let member = of-group program_key (located found) group (themselves (programs_in found) group listed) at.0 at.1 in
      let file = of-file program_of s found sound kind at.0 x at.2 in
      let here : at.0 ≡ x.at = sym file.at in
      record {
        is_placed = subst lead_to here (of-located program_of s found sound at.0 member.0);
        file = subst (λ (l : Located). IsOfFile program_of s found sound kind l x) here file;
        same_file = of.1;
      }

  low : (x : Finding) → Among x h.1 → 1 ≤ finding_line x
  low x own =
      let of = in-all x own in
      let running = (sound x.at.found of.is_placed.within).whole.processes.running x.at.pid x.at.process of.is_placed.live in
      running.line.0

  head-in : Among h.0 h.1
  head-in = in-group text_of all h findings_listed h.0 (group-head text_of all h findings_listed) refl

  witnessed-by : (x : Finding) → last_finding h.1 ≡ Some x → finding_line x ≡ greatest_finding_line h.1 → IsOfGroup x → IsWitnessed program_of s kind h
  witnessed-by x is_last greatest of = record {
    finding = x;
    is_last = is_last;
    greatest = greatest;
    reached = (sound x.at.found of.is_placed.within).witness;
    live = of.is_placed.live;
    witness = of.file.witness;
    steps = subst (λ (pids : List ℕ). AreSteps program_of pids s) (sym of.file.witness) (steps-of program_of s found sound kind x.at of.is_placed);
    number = of.file.number;
    within = among-contains of.file.number (files_of_tree x.at.found.state.tree) of.file.within;
    same_file = sym of.file.same_file ∙ of.same_file;
    reason = of.file.reason;
  }

  pub witnessed : IsWitnessed program_of s kind h
  witnessed =
      let last = first-passes (λ (x : Finding). finding_line x == greatest_finding_line h.1) h.1 most.0 most.1 (grind (arith, nat_tests, most.2)) in
      witnessed-by last.0 last.1 (grind (arith, nat_tests, last.3)) (in-all last.0 last.2)
    where
      most : (x : Finding) × Among x h.1 × (finding_line x ≡ greatest_finding_line h.1)
      most = by (max-attained (map finding_line h.1) 0)
        where
          by : (greatest_finding_line h.1 ≡ 0) ⊎ Among (greatest_finding_line h.1) (map finding_line h.1) → (x : Finding) × Among x h.1 × (finding_line x ≡ greatest_finding_line h.1)
          by (inl none) = absurd (omega (arith, none, low h.0 head-in, max-most (map finding_line h.1) 0 (finding_line h.0) (among-map finding_line h.0 h.1 head-in)))
          by (inr there) = let x = map-among finding_line (greatest_finding_line h.1) h.1 there in (x.0, x.1, sym x.2)

-- ---- safe files

-- the test of a safe file, in a state with this file
pub safe-test : (b : Bool) (u : State) (f : ℕ) → (not b || are_all_closed u f) ≡ true → b ≡ true → are_all_closed u f ≡ true
safe-test true u f is file = is
safe-test false u f is file = cc file

pub all-closed : (u : State) (f : ℕ) → are_all_closed u f ≡ true → (pid : ℕ) (p : Process) → process_at u pid ≡ Some p → leaks u p f ≡ []
all-closed u f is pid p live =
    empty-is (leaks u p f) (all-among (λ (q : ℕ × Process). is_empty (leaks u q.1 f)) (live_processes u.processes) is (pid, p) (live-listed u pid p live))

module _ (program_of : Bytes → Option Program) (s : State) (found : List Found) (sound : AreSound program_of s found) where
  -- a file that is listed as safe is safe in the state of each process of the program
  pub safe-there : (group : Located × List Located) → Contains (programs_in found) group → (f : ℕ) → Contains (safe_files_of_first s.tree group.1) f → (l : Located) → IsPlaced program_of s found sound l
      → l.process.program ≡ group.0.process.program → is_file_at l.found.state.tree f ≡ true → are_all_closed l.found.state f ≡ true
  safe-there group listed f safe l at program file =
      let member = in-group program_key (located found) group (themselves (programs_in found) group listed) l (placed program_of s found sound l at) (ap program_numbers program) in
      let each = (filter-among (λ f. list_all (is_safe_in f) group.1) f (named_files s.tree) (themselves (safe_files_of_first s.tree group.1) f safe)).1 in
      safe-test (is_file_at l.found.state.tree f) l.found.state f (all-among (is_safe_in f) group.1 each l member) file

-- ---- the full search

-- the reasons do not depend on the schedule that leads to the state
reasons-same : (program_of : Bytes → Option Program) (kind : FindingKind) (pids others : List ℕ) (u : State) (pid : ℕ) (p : Process) (f : ℕ)
    → reason_by program_of (located_in pids u pid p) f kind ≡ reason_by program_of (located_in others u pid p) f kind
reasons-same program_of Leak pids others u pid p f = refl
reasons-same program_of Peer pids others u pid p f = refl
reasons-same program_of Edit pids others u pid p f = refl
reasons-same program_of Read pids others u pid p f = refl

module _ (program_of : Bytes → Option Program) (limit : ℕ) (s : State) (full : IsCompleteSearch program_of limit s) where
  abbrev states : List Found
  states = states_found program_of limit s

  abbrev sound-states : AreSound program_of s states
  sound-states = sound-at program_of limit s full.searchable

  -- the state that a schedule leads to is visited
  there : (pids : List ℕ) → (g : Found) × Among g states × (g.state ≡ (run program_of pids s).final)
  there pids = found-there (run program_of pids s).final states (all-found program_of limit s full.searchable full.complete pids)

  module _ (pids : List ℕ) (pid : ℕ) (p : Process) (live : process_at (run program_of pids s).final pid ≡ Some p) where
    abbrev u : State
    u = (run program_of pids s).final

    abbrev seen : Located
    seen = record { found = (there pids).0; pid = pid; process = p }

    seen-placed : IsPlaced program_of s states sound-states seen
    seen-placed = record { within = (there pids).1; live = ap (λ v. process_at v pid) (there pids).2 ∙ live }

    alike : (kind : FindingKind) → IsAlike program_of s states sound-states kind (located_in pids u pid p)
    alike kind = record {
      there = seen;
      is_placed = seen-placed;
      tree = ap (λ (v : State). v.tree) (there pids).2;
      program = refl;
      line = refl;
      reasons = λ f. ap (λ (v : State). reason_by program_of (located_in (there pids).0.witness v pid p) f kind) (there pids).2 ∙ reasons-same program_of kind (there pids).0.witness pids u pid p f;
    }

    exact-there : (f : ℕ) (kind : FindingKind) → IsExactReason program_of (located_in pids u pid p) f kind
    exact-there f kind = exact-reasons program_of (located_in pids u pid p) f kind (run-keeps_valid program_of full.searchable.encodes pids s full.searchable.whole) live

  none-there : (kind : FindingKind) (pids : List ℕ) (pid : ℕ) (p : Process) (f : ℕ) → IsUnlisted program_of limit s kind pids pid p f
      → reason_by program_of (located_in pids (run program_of pids s).final pid p) f kind ≡ None
  none-there kind pids pid p f is =
      none-unlisted program_of s states sound-states kind (located_in pids (run program_of pids s).final pid p) (alike pids pid p is.live kind) f
      (themselves (files_of_tree (run program_of pids s).final.tree) f is.file) is.unlisted

  has-none : (kind : FindingKind) (pids : List ℕ) (pid : ℕ) (p : Process) (f : ℕ) → IsUnlisted program_of limit s kind pids pid p f
      → HasNone program_of (run program_of pids s).final pid p f kind
  has-none kind pids pid p f is = (exact-there pids pid p is.live f kind).none.0 (none-there kind pids pid p f is)

-- ---- the laws

pub unlisted-none : UnlistedLinesHaveNoReason
unlisted-none program_of limit s kind pids pid p f full is = none-there program_of limit s full kind pids pid p f is

pub unlisted-closed : UnlistedLinesAreClosed
unlisted-closed program_of limit s pids pid p f full is = has-none program_of limit s full Leak pids pid p f is

pub unlisted-shut : UnlistedLinesCloseAll
unlisted-shut program_of limit s pids pid p f full is other =
    has-none program_of limit s full Peer pids pid p f other (unlisted-closed program_of limit s pids pid p f full is)

pub unlisted-fixed : UnlistedLinesAreFixed
unlisted-fixed program_of limit s pids pid p f full is = has-none program_of limit s full Edit pids pid p f is

pub unlisted-unread : UnlistedLinesReadNothing
unlisted-unread program_of limit s pids pid p f full is = has-none program_of limit s full Read pids pid p f is

pub listed-happen : ListedLinesHappen
listed-happen program_of limit s kind program file line it is =
    listed-found program_of s (states_found program_of limit s) (sound-at program_of limit s it) kind program file line is

pub witnesses-lead : WitnessesLead
witnesses-lead program_of limit s kind group h it listed has =
    witnessed program_of s (states_found program_of limit s) (sound-at program_of limit s it) kind group listed h has

pub safe-files : SafeFilesAreClosed
safe-files program_of limit s group f pids pid p full listed safe live program file k q other =
    let states = states_found program_of limit s in
    let sound-states = sound-at program_of limit s full.searchable in
    let at = seen-placed program_of limit s full pids pid p live in
    let seen = there program_of limit s full pids in
    let closed = safe-there program_of s states sound-states group listed f safe (record { found = seen.0; pid = pid; process = p }) at program (ap (λ (v : State). is_file_at v.tree f) seen.2 ∙ file) in
    let valid = run-keeps_valid program_of full.searchable.encodes pids s full.searchable.whole in
    (leaks-closed (run program_of pids s).final q f valid.tree.well_formed).0
    (all-closed (run program_of pids s).final f (ap (λ (v : State). are_all_closed v f) (sym seen.2) ∙ closed) k q other)
