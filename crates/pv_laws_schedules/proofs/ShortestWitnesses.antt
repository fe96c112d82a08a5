-- The witnesses of `policy` and `exposure` lead to their items, and no shorter schedule does.
use Rattle.std.proofs.Common.{◌≡◌, ◌∙◌, sym, ap, subst, ℕ, ◌≤◌, Bool, true, false, ◌==◌, List, [], ◌∷◌, length, length-append, map, flat_map, filter, Contains, Option, None, Some, is_some, inl, inr, refl, arith}
use Rattle.std.specs.List.{list_any}
use Rattle.pv_model.specs.declared.perms.Perms.{Perms}
use Rattle.pv_model.specs.Machine.{Found, states_found, Located, program_key as located_key, files_of_tree, Judged, permissions_lacked, Move, Observation, observed, of_calls, program_numbers, Request, Requests, Bytes, no_permissions, join_permissions, covers, needs, live_processes, Program, Process, State, process_at, run}
use Rattle.pv_model.specs.Answers.Exposure.{located_at, located}
use Rattle.pv_model.specs.Answers.Policy.{request_program_key, request, same_need, is_none_of, walks_asked}
use Rattle.pv_model_questions.specs.declared.finding_kind.FindingKind.{FindingKind}
use Rattle.pv_model_questions.specs.Briefs.{brief_since}
use Rattle.pv_model_questions.specs.Exposure.{Finding, findings_at, greatest_finding_line, last_finding, finding_line, reason_by}
use Rattle.pv_laws_answers.specs.Search.{IsSearchable}
use Rattle.pv_laws_answers.specs.Witnesses.{AreSteps}
use Rattle.pv_laws_answers.proofs.CompleteSearches.{among-contains}
use Rattle.pv_laws_answers.proofs.Lists.{Among, each-among, among-filter, filter-among, among-flat, flat-among, among-map, map-among}
use Rattle.pv_laws_answers.proofs.SoundStates.{witness-more}
use Rattle.pv_laws_classes.proofs.ReducedProcesses.{themselves}
use Rattle.pv_laws_schedules.specs.Exposure.{findings_by_text, located_programs, HasNone, IsExactReason, IsFoundAfter}
use Rattle.pv_laws_schedules.specs.Policy.{needs_listed, newly_asked, walks_by_words, calling_programs}
use Rattle.pv_laws_schedules.specs.ShortestWitnesses.{IsCallAfter, IsShortestCall, HasNeed, NeedWitnessesAreShortest, AsksAtTarget, PermissionWitnessesAreShortest, FindingWitnessesAreShortest}
use Rattle.pv_laws_schedules.proofs.ExposureLines.{IsPlaced, finding-within, found_for, in-all, of-file, placed, text_of}
use Rattle.pv_laws_schedules.proofs.FindingReasons.{contrary, exact-reasons}
use Rattle.pv_laws_schedules.proofs.KeyGroups.{of-group, in-group, group-rising, same-programs}
use Rattle.pv_laws_schedules.proofs.NeededPromises.{IsListedOf, needs-of}
use Rattle.pv_laws_schedules.proofs.ReachedStates.{ReachedIn, reached, rising, sound-at}
use Rattle.pv_laws_schedules.proofs.ReportedObservations.{calls-of-live, order, shortest-to}
use Rattle.pv_laws_schedules.proofs.PermissionSets.{asked-more, bits-covered, covered-bits, had-more, lacked-asked, lacked-had}
use Rattle.pv_laws_schedules.proofs.RisingLists.{IsRising, rising-flat, rising-filter, first-in, first-smallest}
use Rattle.pv_laws_schedules.proofs.ShownStates.{AreSound}
use Rattle.pv_laws_schedules.proofs.VisitedCalls.{asks, calls_at, own-call, requests_of, IsLastCall, last-call_of}

abbrev steps : {X : Type 0} → Observation X → ℕ
steps o = length o.move.witness

-- ---- calls

module _ (program_of : Bytes → Option Program) (limit : ℕ) (s : State) (it : IsSearchable program_of limit s) where
  -- a call after a schedule is observed there
  call-observed : (pids : List ℕ) (pid : ℕ) (r : Request) → IsCallAfter program_of s pids pid r → Among r (calls_at program_of (run program_of pids s).final pid)
  call-observed pids pid r after =
      subst (λ (u : State). Among r (calls_at program_of u pid)) after.state
      (subst (λ (q : Request). Among q (calls_at program_of r.before pid)) (sym same) (own-call program_of r.before pid r.process r.call after.live after.calls))
    where
      same : r ≡ asks program_of r.before pid r.process r.call
      same = ap (λ a. record r { asked = a }) after.asked

  -- the last call of a witness is made after the steps before it
  last-after : (o : Observation Request) → (last : IsLastCall program_of s o) → IsCallAfter program_of s last.from.witness o.move.pid o.item
  last-after o last =
      subst (IsCallAfter program_of s last.from.witness o.move.pid) (sym last.same)
      (record { state = sym last.sound.witness.leads; live = last.live; calls = last.calls; asked = refl })

  module _ (Has : Request → Type 0) (group : Observation Request × Requests) (listed : Contains (calling_programs program_of limit s) group) where
    within : Among group (calling_programs program_of limit s)
    within = themselves (calling_programs program_of limit s) group listed

    -- a call that is no longer than each one of the program with the property
    shortest-call : (o : Observation Request) → Among o group.1 → Has o.item → ((q : Observation Request) → Among q group.1 → Has q.item → steps o ≤ steps q)
        → IsShortestCall Has program_of s group.0.item.process.program o.move o.item
    shortest-call o own has first = record {
      before = last.from.witness;
      witness = last.witness;
      steps = subst (λ (w : List ℕ). AreSteps program_of w s) (sym last.witness)
          (witness-more program_of s last.from.state last.from.witness o.move.pid last.sound.witness (ap is_some last.live)).steps;
      last = last-after o last;
      same_program = same-program;
      has = has;
      shortest = λ pids pid r after same has.
          omega (
            arith,
            ap length last.witness,
            length-append last.from.witness (o.move.pid ∷ []),
            shortest-to (of_calls (request program_of)) program_of limit s it (calls-of-live (request program_of) program_of) o of.0 pids pid r
                (call-observed pids pid r after)
                (λ q k is.
                first q (in-group request_program_key (requests_of program_of (states_found program_of limit s)) group within q k (ap (λ (x : Request). program_numbers x.process.program) is ∙ ap program_numbers same))
                (subst Has (sym is) has)),
          );
    }
      where
        of : Among o (requests_of program_of (states_found program_of limit s)) × (request_program_key o ≡ request_program_key group.0)
        of = of-group request_program_key (requests_of program_of (states_found program_of limit s)) group within o own

        last : IsLastCall program_of s o
        last = last-call_of program_of s (states_found program_of limit s) (sound-at program_of limit s it) group within o own

        same-program : o.item.process.program ≡ group.0.item.process.program
        same-program = same-programs s.tree o.item.process.program group.0.item.process.program of.1

    -- the calls of a program are in the order of the search
    calls-rising : IsRising steps group.1
    calls-rising =
        group-rising request_program_key steps (requests_of program_of (states_found program_of limit s)) group within
        (order (of_calls (request program_of)) program_of limit s it)

-- ---- needs

pub need-witnesses : NeedWitnessesAreShortest
need-witnesses program_of limit s group l it listed has =
    shortest-call program_of limit s it (HasNeed l.0) group listed l.1 of.within of.has
    (λ q k needs_it.
    first-smallest steps (filter (λ r. list_any (same_need l.0) (needs r.item.call)) group.1) l.1 q
    (rising-filter steps (λ (r : Observation Request). list_any (same_need l.0) (needs r.item.call)) group.1 (calls-rising program_of limit s it (HasNeed l.0) group listed))
    of.first (among-filter (λ (r : Observation Request). list_any (same_need l.0) (needs r.item.call)) q group.1 k needs_it))
  where
    of : IsListedOf program_of group.1 l
    of = needs-of program_of group.1 l (themselves (needs_listed group.1) l has)

-- ---- permissions

module _ (permission : Perms) (some : is_none_of permission ≡ false) where
  -- permissions that were lacked and asked were not held
  new-asked : (had asked : Perms) → covers (permissions_lacked had asked) permission ≡ true → covers asked permission ≡ true
  new-asked had asked is =
      let b = covered-bits (permissions_lacked had asked) permission is in
      bits-covered asked permission (lacked-asked had.r asked.r permission.r b.0) (lacked-asked had.w asked.w permission.w b.1) (lacked-asked had.x asked.x permission.x b.2) (lacked-asked had.c asked.c permission.c b.3)

  new-had : (had asked : Perms) → covers (permissions_lacked had asked) permission ≡ true → covers had permission ≡ true → ⊥
  new-had had asked is has =
      let b = covered-bits (permissions_lacked had asked) permission is in
      let h = covered-bits had permission has in
      let none = bits-covered no_permissions permission (lacked-had had.r asked.r permission.r b.0 h.0) (lacked-had had.w asked.w permission.w b.1 h.1) (lacked-had had.x asked.x permission.x b.2 h.2) (lacked-had had.c asked.c permission.c b.3 h.3) in
      let no : true ≡ false = sym none ∙ some in cc no

  -- the first walk that asks for permissions
  record IsFirstToAsk (had : Perms) (ws : List (Observation Judged)) (w : Observation Judged) : Type 0 where
    pub within : Among w ws
    pub asks_it : covers w.item.permissions permission ≡ true
    pub not_had : covers had permission ≡ true → ⊥
    pub first : (v : Observation Judged) → Among v ws → covers v.item.permissions permission ≡ true → steps w ≤ steps v

  first-asks : (had : Perms) (ws : List (Observation Judged)) → IsRising steps ws → (l : Perms × Observation Judged) → Among l (newly_asked had ws) → covers l.0 permission ≡ true → IsFirstToAsk had ws l.1
  first-asks had [] rising l h is = absurd h
  first-asks had (w ∷ ws) rising l (inl e) is = subst (λ (k : Perms × Observation Judged). IsFirstToAsk had (w ∷ ws) k.1) (sym e) (record {
    within = inl refl;
    asks_it = new-asked had w.item.permissions new;
    not_had = new-had had w.item.permissions new;
    first = after;
  })
    where
      new : covers (permissions_lacked had w.item.permissions) permission ≡ true
      new = ap (λ (k : Perms × Observation Judged). covers k.0 permission) (sym e) ∙ is

      after : (v : Observation Judged) → Among v (w ∷ ws) → covers v.item.permissions permission ≡ true → steps w ≤ steps v
      after v (inl same) asked = omega (arith, ap (λ (o : Observation Judged). length o.move.witness) same)
      after v (inr k) asked = each-among (λ (v : Observation Judged). steps w ≤ steps v) ws rising.0 v k
  first-asks had (w ∷ ws) rising l (inr h) is =
      let later = first-asks (join_permissions had w.item.permissions) ws rising.1 l h is in
      record {
        within = inr later.within;
        asks_it = later.asks_it;
        not_had = λ has. later.not_had (had-more permission had w.item.permissions has);
        first = λ v k asked. by v k asked later;
      }
    where
      by : (v : Observation Judged) → Among v (w ∷ ws) → covers v.item.permissions permission ≡ true → IsFirstToAsk (join_permissions had w.item.permissions) ws l.1 → steps l.1 ≤ steps v
      by v (inl same) asked later =
          absurd (later.not_had (asked-more permission had w.item.permissions (ap (λ (o : Observation Judged). covers o.item.permissions permission) (sym same) ∙ asked)))
      by v (inr k) asked later = later.first v k asked

abbrev words_of : Observation Judged → Bytes
words_of w = w.item.words

abbrev walks_of_call : Observation Request → List (Observation Judged)
walks_of_call r = map (observed r.move) r.item.asked.walks

walk-steps : (r : Observation Request) (w : Observation Judged) → Among w (walks_of_call r) → steps w ≡ steps r
walk-steps r w h = let j = map-among (observed r.move) w r.item.asked.walks h in ap (λ (o : Observation Judged). length o.move.witness) j.2

pub permission-witnesses : PermissionWitnessesAreShortest
permission-witnesses program_of limit s group g l permission it listed has new covered some = (r.0.item, subst (λ (m : Move). IsShortestCall Has program_of s group.0.item.process.program m r.0.item) same-move own)
  where
    Has : Request → Type 0
    Has = AsksAtTarget g.0.item.words permission

    by_words : Among g (walks_by_words group.1)
    by_words = themselves (walks_by_words group.1) g has

    first : IsFirstToAsk permission some no_permissions g.1 l.1
    first =
        first-asks permission some no_permissions g.1
        (group-rising words_of steps (walks_asked group.1) g by_words
        (rising-flat steps steps walks_of_call group.1 (calls-rising program_of limit s it Has group listed) (λ x h y k. walk-steps x y k)))
        l (themselves (newly_asked no_permissions g.1) l new) covered

    of : Among l.1 (walks_asked group.1) × (words_of l.1 ≡ words_of g.0)
    of = of-group words_of (walks_asked group.1) g by_words l.1 first.within

    r : (x : Observation Request) × Among x group.1 × Among l.1 (walks_of_call x)
    r = flat-among walks_of_call l.1 group.1 of.0

    walk : (j : Judged) × Among j r.0.item.asked.walks × (l.1 ≡ observed r.0.move j)
    walk = map-among (observed r.0.move) l.1 r.0.item.asked.walks r.2

    same-move : r.0.move ≡ l.1.move
    same-move = sym (ap (λ (o : Observation Judged). o.move) walk.2)

    same-item : walk.0 ≡ l.1.item
    same-item = sym (ap (λ (o : Observation Judged). o.item) walk.2)

    asks-there : Has r.0.item
    asks-there = (
      walk.0,
      among-contains walk.0 r.0.item.asked.walks walk.1,
      ap (λ (j : Judged). j.words) same-item ∙ of.1,
      ap (λ (j : Judged). covers j.permissions permission) same-item ∙ first.asks_it,
    )

    own : IsShortestCall Has program_of s group.0.item.process.program r.0.move r.0.item
    own =
        shortest-call program_of limit s it Has group listed r.0 r.1 asks-there
        (λ q k asked.
        let v = observed q.move asked.0 in
        let there = among-flat walks_of_call q v group.1 k (among-map (observed q.move) asked.0 q.item.asked.walks (themselves q.item.asked.walks asked.0 asked.1)) in
        let le = first.first v (in-group words_of (walks_asked group.1) g by_words v there asked.2) asked.3 in
        omega (arith, le, ap (λ (m : Move). length m.witness) same-move))

-- ---- exposure

abbrev distance : Located → ℕ
distance l = length l.found.witness

abbrev finding_distance : Finding → ℕ
finding_distance x = distance x.at

module _ (program_of : Bytes → Option Program) (limit : ℕ) (s : State) (it : IsSearchable program_of limit s) (kind : FindingKind)
    (group : Located × List Located) (listed : Contains (located_programs program_of limit s) group) (h : Finding × List Finding) (has : Contains (findings_by_text program_of s.tree kind group.1) h) where
  abbrev found : List Found
  found = states_found program_of limit s

  abbrev sound : AreSound program_of s found
  sound = sound-at program_of limit s it

  abbrev all : List Finding
  all = flat_map (findings_at program_of s.tree kind) group.1

  abbrev Placed : Located → Type 0
  Placed l = IsPlaced program_of s found sound l

  in-programs : Among group (located_programs program_of limit s)
  in-programs = themselves (located_programs program_of limit s) group listed

  in-files : Among h (findings_by_text program_of s.tree kind group.1)
  in-files = themselves (findings_by_text program_of s.tree kind group.1) h has

  placed-rising : IsRising distance (located found)
  placed-rising =
      rising-flat (λ (f : Found). length f.witness) distance located_at found (rising program_of limit s it)
      (λ f k l m.
      let p = map-among (λ (r : ℕ × Process). record { found = f; pid = r.0; process = r.1 }) l (live_processes f.state.processes) m in
      ap distance p.2)

  findings-rising : IsRising finding_distance h.1
  findings-rising =
      group-rising text_of finding_distance all h in-files
      (rising-flat distance finding_distance (findings_at program_of s.tree kind) group.1 (group-rising located_key distance (located found) group in-programs placed-rising)
      (λ l k x m. ap distance (of-file program_of s found sound kind l x m).at))

  -- a finding about a process of the program in a visited state, and a file with the description
  finding-in : (l : Located) → Placed l → l.process.program ≡ group.0.process.program → (f : ℕ) → Among f (files_of_tree l.found.state.tree) → brief_since s.tree l.found.state.tree f ≡ h.0.file
      → (reason : Bytes) → reason_by program_of l f kind ≡ Some reason → (x : Finding) × (x.at ≡ l) × Among x h.1
  finding-in l at program f file same reason is =
      let x : Finding = found_for program_of s found sound kind l f reason in
      let member = in-group located_key (located found) group in-programs l (placed program_of s found sound l at) (ap program_numbers program) in
      let own = finding-within program_of s found sound kind l f file reason is in
      (x, refl, in-group text_of all h in-files x (among-flat (findings_at program_of s.tree kind) l x group.1 member own) same)

  module _ (x : Finding) (is_last : last_finding h.1 ≡ Some x) (other : IsFoundAfter program_of s kind group.0.process.program h.0.file (finding_line x)) where
    abbrev at_greatest : Finding → Bool
    at_greatest y = finding_line y == greatest_finding_line h.1

    abbrev u : State
    u = (run program_of other.pids s).final

    last : Among x h.1 × (at_greatest x ≡ true)
    last = filter-among at_greatest x h.1 (first-in (filter at_greatest h.1) x is_last)

    -- a finding with the line is no nearer
    no-nearer : (y : Finding) → Among y h.1 → finding_line y ≡ finding_line x → finding_distance x ≤ finding_distance y
    no-nearer y within same =
        first-smallest finding_distance (filter at_greatest h.1) x y (rising-filter finding_distance at_greatest h.1 findings-rising) is_last
        (among-filter at_greatest y h.1 within (ap (λ n. n == greatest_finding_line h.1) same ∙ last.1))

    abbrev there : Found → Located
    there g = record { found = g; pid = other.pid; process = other.process }

    -- the finding, seen in a visited state
    seen : (g : Found) → Among g found → g.state ≡ u → finding_distance x ≤ length g.witness
    seen g within same = by (reason_by program_of (there g) other.number kind) refl
      where
        at : Placed (there g)
        at = record { within = within; live = ap (λ v. process_at v other.pid) same ∙ other.live }

        exact : IsExactReason program_of (there g) other.number kind
        exact = exact-reasons program_of (there g) other.number kind (sound g within).whole at.live

        by : (o : Option Bytes) → reason_by program_of (there g) other.number kind ≡ o → finding_distance x ≤ length g.witness
        by None none =
            absurd (contrary program_of u other.pid other.process other.number kind
            (subst (λ (v : State). HasNone program_of v other.pid other.process other.number kind) same (exact.none.0 none)) other.finding)
        by (Some reason) is =
            let y =
            finding-in (there g) at other.same_program other.number
            (subst (λ (v : State). Among other.number (files_of_tree v.tree)) (sym same) (themselves (files_of_tree u.tree) other.number other.within))
            (ap (λ (v : State). brief_since s.tree v.tree other.number) same ∙ other.same_file) reason is in
            omega (arith, no-nearer y.0 y.2 (ap (λ (l : Located). l.process.line) y.1 ∙ other.same_line), ap distance y.1)

    finding-shortest : finding_distance x ≤ length other.pids
    finding-shortest = by (reached program_of limit s it other.pids)
      where
        by : ReachedIn program_of limit s it (length other.pids) u → finding_distance x ≤ length other.pids
        by (inr many) =
            each-among (λ (g : Found). length g.witness ≤ length other.pids) found many x.at.found (in-all program_of s found sound kind group listed h has x last.0).is_placed.within
        by (inl here) = omega (arith, seen here.0 here.1 here.2, here.3)

pub finding-witnesses : FindingWitnessesAreShortest
finding-witnesses program_of limit s kind group h x it listed has is_last other = finding-shortest program_of limit s it kind group listed h has x is_last other
