-- Permissions that no call of a program uses: a step with a table without them has the same lines.
use Rattle.std.proofs.Common.{◌≡◌, ◌∙◌, sym, ap, ap₂, subst, refl, ℕ, zero, suc, ◌+◌, ◌≤◌, Bool, true, false, not, ◌&&◌, if◌then◌else◌, cond, bytes_eq, List, [], ◌∷◌, map, filter, flat_map, take, length, ◌++◌, ◌==◌, option_and_then, slice_get, nat_lt, Option, None, Some, is_some, Ok, inl, inr, arith}
use Rattle.std.specs.List.{filter_map, position_or_len}
use Rattle.std.specs.Option.{option_or}
use Rattle.pv_model.specs.declared.call.Call.{Call}
use Rattle.pv_model.specs.declared.call.Call.TheVariants as TheCall
use Rattle.pv_model.specs.declared.judgement.Judgement.TheVariants.{Allowed, Denied}
use Rattle.pv_model.specs.declared.perms.Perms.{Perms}
use Rattle.pv_model.specs.declared.place.Place.{Place}
use Rattle.pv_model.specs.declared.place.Place.TheVariants.{At, Node as Unnamed}
use Rattle.pv_model.specs.declared.target.Target.{Target}
use Rattle.pv_model.specs.declared.target.Target.TheVariants.{Directory, Name}
use Rattle.pv_model.specs.Machine.{answer, AnswerLine, Found, elements_with_new_keys, states_found, Judged, permissions_lacked, target_words, Observation, is_allowed, is_unveil, Request, Requests, Granted, Bytes, entries_of_table, no_permissions, covers, end_of, held_by_table, calls_for, next, Program, Process, State, process_at, run, step, judged_walks, place_found, root, parent, Tree, is_directory_at, Table, entry_for, same_target, permissions_at, target_of, directory_rights, judge_entry, governing_entry, judgement, Walk, walks_of, walk_number}
use Rattle.pv_model.specs.Answers.Needs.{judged, judged_at}
use Rattle.pv_model.specs.Answers.Observed.{with_equal_key}
use Rattle.pv_model.specs.Answers.Policy.{is_restricted_call, restricted, place_of_target, entries_held, used_at_entry, at_governor, permissions_used, all_used, union_of_granted, idle_at, idle_permission_line}
use Rattle.pv_model.specs.Unveil.{permissions_of, rights_above, climb, target_directory}
use Rattle.pv_laws_states.specs.States.{IsValid}
use Rattle.pv_laws_states.proofs.ValidBySteps.{run-keeps_valid}
use Rattle.pv_laws_states.proofs.Processes.{update-is}
use Rattle.pv_laws_trees.proofs.DirectoryEntries.{bytes_eq-itself}
use Rattle.pv_laws_answers.specs.ProcessImages.{with_own_table}
use Rattle.pv_laws_answers.proofs.Lists.{Among, among-filter, among-filter_map, among-flat, among-map}
use Rattle.pv_laws_classes.specs.Reduced.{reduced_found}
use Rattle.pv_laws_classes.specs.Shown.{ShownCall}
use Rattle.pv_laws_classes.proofs.ReducedProcesses.{themselves}
use Rattle.pv_laws_schedules.specs.IdlePermissions.{listed_idle_permissions, IdleLinesAreOfPermissions, LacksIdleAt, LacksIdleEntries, IdlePermissionsAreIdle, IdlePermissionsAreIdleReduced}
use Rattle.pv_laws_schedules.specs.Policy.{calling_programs}
use Rattle.pv_laws_schedules.specs.ReducedPolicy.{reduced_calling_programs}
use Rattle.pv_laws_schedules.proofs.OtherTables.{other-table_lines}
use Rattle.pv_laws_schedules.proofs.PermissionSets.{covers-itself, fold-covers, kept-covers, less-covers}
use Rattle.pv_laws_schedules.proofs.ShownStates.{IsSeenIn, seen-full, seen-reduced}
use Rattle.pv_laws_schedules.proofs.VisitedCalls.{asks, programs_of, requests_of, IsRequested, requested, of-program}

-- ---- the lines

lines-of : (rs : Requests) (used : List Granted) (gs : List Granted) → used ≡ all_used (restricted rs) → gs ≡ flat_map entries_held (restricted rs)
    → (xs : List Granted)
    → flat_map (idle_at used) (map (with_equal_key (λ (g : Granted). g.0) gs) xs)
    ≡ flat_map (λ (g : Granted × List Granted). idle_permission_line (listed_idle_permissions rs g.0.0) g.0.0) (map (with_equal_key (λ (g : Granted). g.0) gs) xs)
lines-of rs used gs is_used is_held [] = refl
lines-of rs used gs is_used is_held (x ∷ xs) =
    ap₂ (λ (a b : List AnswerLine). a ++ b)
    (λ i. idle_permission_line (permissions_lacked (union_of_granted (filter (λ (g : Granted). bytes_eq g.0 x.0) (is_used i))) (union_of_granted (filter (λ (g : Granted). bytes_eq g.0 x.0) (is_held i)))) x.0)
    (lines-of rs used gs is_used is_held xs)

-- ---- tables with the same targets

module _ (rs : Requests) (t : Tree) where
  abbrev Lacks : Table → Table → Type 0
  Lacks held set = LacksIdleEntries rs t held set

  lengths-same : (held set : Table) → Lacks held set → length set ≡ length held
  lengths-same [] [] l = refl
  lengths-same (e ∷ held) (d ∷ set) l = ap suc (lengths-same held set l.1)
  lengths-same [] (d ∷ set) l = absurd l
  lengths-same (e ∷ held) [] l = absurd l

  first-same : (target : Target) (held set : Table) → Lacks held set → position_or_len (λ (e : Target × Perms). same_target e.0 target) set ≡ position_or_len (λ (e : Target × Perms). same_target e.0 target) held
  first-same target [] [] l = refl
  first-same target (e ∷ held) (d ∷ set) l = ap₂ (λ (x : Target) (n : ℕ). cond (not (same_target x target)) (1 + n) 0) l.0.target (first-same target held set l.1)
  first-same target [] (d ∷ set) l = absurd l
  first-same target (e ∷ held) [] l = absurd l

  references-same : (held set : Table) → Lacks held set → held_by_table (Some set) ≡ held_by_table (Some held)
  references-same [] [] l = refl
  references-same (e ∷ held) (d ∷ set) l = ap₂ (λ (x : Target) (ns : List ℕ). target_directory x ∷ ns) l.0.target (references-same held set l.1)
  references-same [] (d ∷ set) l = absurd l
  references-same (e ∷ held) [] l = absurd l

  -- the entry with a number
  entry-there : (held set : Table) → Lacks held set → (k : ℕ) (e : Target × Perms) → slice_get held k ≡ Some e → (d : Target × Perms) × (slice_get set k ≡ Some d) × LacksIdleAt rs t e d
  entry-there [] [] l k e is = cc is
  entry-there (e' ∷ held) (d ∷ set) l zero e is = let same : e' ≡ e = cc is in (d, refl, subst (λ (x : Target × Perms). LacksIdleAt rs t x d) same l.0)
  entry-there (e' ∷ held) (d ∷ set) l (suc k) e is = entry-there held set l.1 k e is
  entry-there [] (d ∷ set) l k e is = absurd l
  entry-there (e' ∷ held) [] l k e is = absurd l

  entry-past : (held set : Table) → Lacks held set → (k : ℕ) → slice_get held k ≡ None → slice_get set k ≡ None
  entry-past [] [] l k none = refl
  entry-past (e ∷ held) (d ∷ set) l zero none = cc none
  entry-past (e ∷ held) (d ∷ set) l (suc k) none = entry-past held set l.1 k none
  entry-past [] (d ∷ set) l k none = absurd l
  entry-past (e ∷ held) [] l k none = absurd l

  module _ (held set : Table) (l : Lacks held set) where
    entry-same : (target : Target) → entry_for set target ≡ entry_for held target
    entry-same target =
        ap₂ (λ (n m : ℕ). cond (nat_lt n m) (Some n) None) (first-same target held set l) (lengths-same held set l)

    climb-same : (steps d : ℕ) → climb t set steps d ≡ climb t held steps d
    climb-same zero d = refl
    climb-same (suc steps) d =
        ap (λ (o : Option ℕ). option_or o (rights_above t set (climb t set steps) d)) (entry-same (Directory d))
        ∙ ap (option_or (entry_for held (Directory d))) (above (climb-same steps) (d == root) (parent t d))
      where
        above : ((e : ℕ) → climb t set steps e ≡ climb t held steps e) → (b : Bool) (o : Option ℕ)
            → (if b then None else option_and_then (climb t set steps) o) ≡ (if b then None else option_and_then (climb t held steps) o)
        above later true o = refl
        above later false None = refl
        above later false (Some e) = later e

    rights-same : (d : ℕ) → directory_rights t set d ≡ directory_rights t held d
    unfolding directory_rights
    rights-same d = climb-same (suc (length t.nodes)) d

    governs-same : (place : Place) → governing_entry t set place ≡ governing_entry t held place
    unfolding governing_entry
    governs-same (Unnamed n) = rights-same n
    governs-same (At d name None) = ap₂ option_or (entry-same (Name d name)) (rights-same d)
    governs-same (At d name (Some n)) =
        λ i. if is_directory_at t n then rights-same n i else option_or (entry-same (Name d name) i) (rights-same d i)

    -- the calls use the needed permissions at the entry that governs a place
    abbrev IsUsed : Place → Perms → Type 0
    IsUsed place needed =
        (k : ℕ) (e : Target × Perms) → governing_entry t held place ≡ Some k → slice_get held k ≡ Some e → covers e.1 needed ≡ true
        → covers (union_of_granted (filter (λ (g : Granted). bytes_eq g.0 (target_words t e.0)) (all_used (restricted rs)))) needed ≡ true

    judged-same : (place : Place) (needed : Perms) → IsUsed place needed → judgement t (Some set) place needed ≡ judgement t (Some held) place needed
    unfolding judgement
    judged-same place needed used = ap (judge_entry set needed) (governs-same place) ∙ by (governing_entry t held place) refl
      where
        of : (k : ℕ) → governing_entry t held place ≡ Some k → (o : Option (Target × Perms)) → slice_get held k ≡ o → covers (permissions_at set k) needed ≡ covers (permissions_of o) needed
        of k governs None past = ap (λ (o : Option (Target × Perms)). covers (permissions_of o) needed) (entry-past held set l k past)
        of k governs (Some e) is =
            let d = entry-there held set l k e is in
            ap (λ (o : Option (Target × Perms)). covers (permissions_of o) needed) d.1 ∙ decide d.0 (covers e.1 needed) refl (covers d.0.1 needed) refl d.2
          where
            decide : (d : Target × Perms) (b : Bool) → covers e.1 needed ≡ b → (c : Bool) → covers d.1 needed ≡ c → LacksIdleAt rs t e d → covers d.1 needed ≡ covers e.1 needed
            decide d true has c is_c lacks =
                kept-covers needed (union_of_granted (filter (λ (g : Granted). bytes_eq g.0 (target_words t e.0)) (all_used (restricted rs))))
                (union_of_granted (filter (λ (g : Granted). bytes_eq g.0 (target_words t e.0)) (flat_map entries_held (restricted rs)))) e.1 d.1 (used k e governs is has) has lacks.others
                ∙ sym has
            decide d false hasnt true has lacks = let no : true ≡ false = sym (less-covers needed e.1 d.1 lacks.fewer has) ∙ hasnt in cc no
            decide d false hasnt false hasnt' lacks = hasnt' ∙ sym hasnt

        by : (o : Option ℕ) → governing_entry t held place ≡ o → judge_entry set needed o ≡ judge_entry held needed o
        by None none = refl
        by (Some k) governs = ap (λ (b : Bool). if b then Allowed else Denied k) (of k governs (slice_get held k) refl)

-- ---- the walks of a call

taken : {X : Type 0} (xs : List X) (k m : ℕ) (x : X) → slice_get xs k ≡ Some x → suc k ≤ m → Among x (take m xs)
taken [] k m x is few = cc is
taken (y ∷ ys) k zero x is few = absurd (omega (arith, few))
taken (y ∷ ys) zero (suc m) x is few = let same : y ≡ x = cc is in inl (sym same)
taken (y ∷ ys) (suc k) (suc m) x is few = inr (taken ys k m x is (omega (arith, few)))

walk-taken : (call : Call) (n m : ℕ) (w : Walk) → walk_number (walks_of call) n ≡ Some w → n ≤ m → Among w (take m (walks_of call))
walk-taken call zero m w is few = cc is
walk-taken call (suc k) m w is few = taken (walks_of call) k m w is few

in-judged : (s : State) (p : Process) (call : Call) (n : ℕ) (j : Judged) → is_unveil call ≡ false → Among j (filter_map (judged s p) (take n (walks_of call))) → Among j (judged_walks s p call n)
in-judged s p (TheCall.Unveil path permissions) n j plain h = cc plain
in-judged s p call n j plain h = h

-- the entry that governs a place governs the place of its target
target-governs : (t : Tree) (table : Table) (place : Place) → governing_entry t table (place_of_target (target_of t place)) ≡ governing_entry t table place
unfolding governing_entry
target-governs t table (Unnamed n) = refl
target-governs t table (At d name None) = refl
target-governs t table (At d name (Some n)) = by (is_directory_at t n)
  where
    by : (b : Bool) → governing_entry t table (place_of_target (if b then Directory n else Name d name)) ≡ (if b then directory_rights t table n else option_or (entry_for table (Name d name)) (directory_rights t table d))
    by true = refl
    by false = refl

allowed-there : (t : Tree) (table : Table) (place : Place) (needed : Perms) (k : ℕ) (e : Target × Perms) → governing_entry t table place ≡ Some k → slice_get table k ≡ Some e → covers e.1 needed ≡ true
    → is_allowed (judgement t (Some table) place needed) ≡ true
unfolding judgement
allowed-there t table place needed k e governs is has =
    ap (λ (o : Option ℕ). is_allowed (judge_entry table needed o)) governs ∙ ap (λ (b : Bool). is_allowed (if b then Allowed else Denied k)) (ap (λ (o : Option (Target × Perms)). covers (permissions_of o) needed) is ∙ has)

-- ---- steps

module _ (program_of : Bytes → Option Program) (fs : List Found) (u : State) (pid : ℕ) (p : Process) (seen : IsSeenIn program_of fs u pid) (live : process_at u pid ≡ Some p) (valid : IsValid u)
    (group : Observation Request × Requests) (listed : Among group (programs_of program_of fs)) (same : p.program ≡ group.0.item.process.program)
    (plain : (call : Call) → next p ≡ calls_for call → is_unveil call ≡ false) (held set : Table) (in_force : p.table ≡ Some held) (lacks : LacksIdleEntries group.1 u.tree held set) where
  module _ (call : Call) (is : next p ≡ calls_for call) where
    abbrev own : Request
    own = asks program_of u pid p call

    it : IsRequested program_of (requests_of program_of fs) u pid p call
    it = requested program_of fs u pid p call seen live is

    -- a request with the shown data of a call
    abbrev request_of : ShownCall → Request
    request_of c = record { before = record u { tree = c.tree }; process = record p { table = c.table }; call = c.call; asked = c.asked }

    module _ (n : ℕ) (w : Walk) (place : Place) (few : n ≤ (answer program_of u pid call).walks) (found : walk_number (walks_of call) n ≡ Some w) (end : end_of u p w ≡ Ok place) where
      abbrev j : Judged
      j = record { target = target_of u.tree place; words = target_words u.tree (target_of u.tree place); permissions = w.needed }

      asked-there : Among j it.shown_by.item.asked.walks
      asked-there =
          subst (λ (c : ShownCall). Among j c.asked.walks) (sym it.same)
          (in-judged u p call (answer program_of u pid call).walks j (plain call is)
          (among-filter_map (judged u p) w j (take (answer program_of u pid call).walks (walks_of call)) (walk-taken call n (answer program_of u pid call).walks w found few)
          (ap (λ r. judged_at u w.needed (place_found r)) end)))

      restricted-there : Among it.shown_by.item (restricted group.1)
      restricted-there =
          among-filter is_restricted_call it.shown_by.item (map (λ (r : Observation Request). r.item) group.1)
          (among-map (λ (r : Observation Request). r.item) it.shown_by group.1 (of-program program_of it group listed same))
          (ap (λ (c : ShownCall). is_some c.table && not (is_unveil c.call)) it.same
          ∙ ap₂ (λ (a b : Bool). a && not b) (ap is_some in_force) (plain call is))

      used : (k : ℕ) (e : Target × Perms) → governing_entry u.tree held place ≡ Some k → slice_get held k ≡ Some e → covers e.1 w.needed ≡ true
          → covers (union_of_granted (filter (λ (g : Granted). bytes_eq g.0 (target_words u.tree e.0)) (all_used (restricted group.1)))) w.needed ≡ true
      used k e governs is_e has =
          fold-covers w.needed no_permissions (map (λ (g : Granted). g.1) (filter (λ (g : Granted). bytes_eq g.0 words) (all_used (restricted group.1)))) w.needed
          (among-map (λ (g : Granted). g.1) (words, w.needed) (filter (λ (g : Granted). bytes_eq g.0 words) (all_used (restricted group.1)))
          (among-filter (λ (g : Granted). bytes_eq g.0 words) (words, w.needed) (all_used (restricted group.1)) in-all (bytes_eq-itself words)))
          (covers-itself w.needed)
        where
          words : Bytes
          words = target_words u.tree e.0

          governs' : governing_entry u.tree (entries_of_table p.table) (place_of_target j.target) ≡ Some k
          governs' = ap (λ (o : Option Table). governing_entry u.tree (entries_of_table o) (place_of_target j.target)) in_force ∙ target-governs u.tree held place ∙ governs

          allowed' : is_allowed (judgement u.tree p.table (place_of_target j.target) w.needed) ≡ true
          allowed' =
              ap (λ (o : Option Table). is_allowed (judgement u.tree o (place_of_target j.target) w.needed)) in_force
              ∙ allowed-there u.tree held (place_of_target j.target) w.needed k e (target-governs u.tree held place ∙ governs) is_e has

          entry' : slice_get (entries_of_table p.table) k ≡ Some e
          entry' = ap (λ (o : Option Table). slice_get (entries_of_table o) k) in_force ∙ is_e

          own-used : Among (words, w.needed) (permissions_used own j)
          own-used =
              subst (λ (b : Bool). Among (words, w.needed) (if b then at_governor own (governing_entry u.tree (entries_of_table p.table) (place_of_target j.target)) w.needed else [])) (sym allowed')
              (subst (λ (o : Option ℕ). Among (words, w.needed) (at_governor own o w.needed)) (sym governs')
              (subst (λ (o : Option (Target × Perms)). Among (words, w.needed) (used_at_entry own o w.needed)) (sym entry') (inl refl)))

          in-all : Among (words, w.needed) (all_used (restricted group.1))
          in-all =
              among-flat (λ (r : Request). flat_map (permissions_used r) r.asked.walks) it.shown_by.item (words, w.needed) (restricted group.1) restricted-there
              (among-flat (permissions_used it.shown_by.item) j (words, w.needed) it.shown_by.item.asked.walks asked-there
              (subst (λ (c : ShownCall). Among (words, w.needed) (permissions_used (request_of c) j)) (sym it.same) own-used))

      decides : judgement u.tree (Some set) place w.needed ≡ judgement u.tree p.table place w.needed
      decides = judged-same group.1 u.tree held set lacks place w.needed used ∙ ap (λ (o : Option Table). judgement u.tree o place w.needed) (sym in_force)

  idle-lines : (step program_of (with_own_table u pid set) pid).lines ≡ (step program_of u pid).lines
  idle-lines =
      ap (λ (v : State). (step program_of v pid).lines) (update-is u pid (λ z. record z { table = Some set }) p live)
      ∙ other-table_lines program_of u pid p set live valid (references-same group.1 u.tree held set lacks ∙ ap held_by_table (sym in_force))
      (λ call is. (plain call is, λ n w place few found end. decides call is n w place few found end))

-- ---- the laws

pub idle-lines_of_permissions : IdleLinesAreOfPermissions
idle-lines_of_permissions rs =
    lines-of rs (all_used (restricted rs)) (flat_map entries_held (restricted rs)) refl refl (elements_with_new_keys (λ (g : Granted). g.0) [] (flat_map entries_held (restricted rs)))

pub idle-permissions : IdlePermissionsAreIdle
idle-permissions program_of limit s group pids pid p held set it complete listed live same plain in_force lacks =
    idle-lines program_of (states_found program_of limit s) (run program_of pids s).final pid p (seen-full program_of limit s it complete pids pid) live (run-keeps_valid program_of it.encodes pids s it.whole)
    group (themselves (calling_programs program_of limit s) group listed) same plain held set in_force lacks

pub idle-permissions_reduced : IdlePermissionsAreIdleReduced
idle-permissions_reduced program_of limit s group pids pid p held set it complete listed steps live same plain in_force lacks =
    idle-lines program_of (reduced_found program_of s limit) (run program_of pids s).final pid p (seen-reduced program_of limit s it complete pids pid p steps live) live
    (run-keeps_valid program_of it.encodes pids s it.whole) group (themselves (reduced_calling_programs program_of limit s) group listed) same plain held set in_force lacks
