-- The permissions that a program needs.
use Rattle.std.proofs.Common.{◌≡◌, ◌∙◌, sym, ap, subst, ℕ, Bool, true, false, not, ◌&&◌, ◌||◌, ◌==◌, if◌then◌else◌, List, [], ◌∷◌, map, filter, filter_map, bytes_eq, Contains, Option, None, Some, ◌⊎◌, inl, inr, refl, arith}
use Rattle.std.specs.Prelude.{take}
use Rattle.std.proofs.lemmas.Bool.{and_parts, and_from}
use Rattle.std.proofs.lemmas.Bool.Decides.{nat_tests}
use Rattle.pv_model.specs.declared.call.Call.{Call}
use Rattle.pv_model.specs.declared.call.Call.TheVariants as TheCall
use Rattle.pv_model.specs.declared.errno.Errno.TheVariants.{EACCES}
use Rattle.pv_model.specs.declared.outcome.Cause.TheVariants.{Unveil as ByUnveil}
use Rattle.pv_model.specs.declared.outcome.Outcome.TheVariants.{Failed}
use Rattle.pv_model.specs.declared.perms.Perms.{Perms}
use Rattle.pv_model.specs.declared.place.Place.{Place}
use Rattle.pv_model.specs.declared.target.Target.{Target}
use Rattle.pv_model.specs.Machine.{answer, states_found, Asked, Judged, asked, asked_by, judged_walks, same_judged, walks_judged, walks_to, target_words, Observation, observed, groups, is_unveil, Request, Requests, Bytes, no_permissions, join_permissions, covers, calls_for, next, Program, Process, State, process_at, step, run, place_found, Table, permissions_at, same_target, walks_of}
use Rattle.pv_model.specs.Answers.Needs.{asked_next, asked_of, judged, judged_at, permissions_asked, targets_in}
use Rattle.pv_model.specs.Answers.Policy.{request_program_key, walks_asked}
use Rattle.pv_laws_trees.proofs.DirectoryEntries.{bytes_eq-same, bytes_eq-itself}
use Rattle.pv_laws_answers.specs.ProcessImages.{Moment, moments, and_moment, process_images_of, IsCallOf, GrantsAt, permissions_listed, targets_listed, with_own_table}
use Rattle.pv_laws_answers.specs.Wanted.{reports_of_table}
use Rattle.pv_laws_answers.proofs.CompleteSearches.{among-contains}
use Rattle.pv_laws_answers.proofs.Lists.{Among, any-among, among-either, among-filter, among-flat, among-map, filter-among, map-among, filter_map-among}
use Rattle.pv_laws_answers.proofs.OtherRestraints.{enough-single, needed-single}
use Rattle.pv_laws_classes.specs.Reduced.{reduced_found}
use Rattle.pv_laws_classes.specs.Shown.{ShownCall}
use Rattle.pv_laws_schedules.specs.Policy.{calling_programs, joined_permissions, asks_at_words, GrantsDemands, GrantsDemandsExcept, ListedPermissionsAreEnough, ListedPermissionsAreNeeded}
use Rattle.pv_laws_schedules.specs.ReducedPolicy.{reduced_calling_programs, ListedPermissionsAreEnoughReduced, ListedPermissionsAreNeededReduced}
use Rattle.pv_laws_classes.proofs.ReducedProcesses.{themselves}
use Rattle.pv_laws_schedules.proofs.ReachedStates.{sound-at}
use Rattle.pv_laws_schedules.proofs.VisitedCalls.{requests_of, IsRequested, requested, of-program, IsLastCall, last-call_of}
use Rattle.pv_laws_schedules.proofs.ShownStates.{seen-full, seen-reduced, reduced-sound}

-- ---- sets of permissions

one-parts : (p a b : Bool) → (p || not (a || b)) ≡ true → ((p || not a) ≡ true) × ((p || not b) ≡ true)
one-parts true a b is = (refl, refl)
one-parts false false b is = (refl, is)
one-parts false true b is = let bad : false ≡ true = is in cc bad

one-from : (p a b : Bool) → (p || not a) ≡ true → (p || not b) ≡ true → (p || not (a || b)) ≡ true
one-from true a b here there = refl
one-from false false b here there = there
one-from false true b here there = here

pub covers-parts : (g a b : Perms) → covers g (join_permissions a b) ≡ true → (covers g a ≡ true) × (covers g b ≡ true)
covers-parts g a b is =
    let xyz = and_parts ((g.r || not (a.r || b.r)) && (g.w || not (a.w || b.w)) && (g.x || not (a.x || b.x))) (g.c || not (a.c || b.c)) is in
    let xy = and_parts ((g.r || not (a.r || b.r)) && (g.w || not (a.w || b.w))) (g.x || not (a.x || b.x)) xyz.0 in
    let x = and_parts (g.r || not (a.r || b.r)) (g.w || not (a.w || b.w)) xy.0 in
    let r = one-parts g.r a.r b.r x.0 in
    let w = one-parts g.w a.w b.w x.1 in
    let e = one-parts g.x a.x b.x xy.1 in
    let c = one-parts g.c a.c b.c xyz.1 in
    (and_from _ _ (and_from _ _ (and_from _ _ r.0 w.0) e.0) c.0, and_from _ _ (and_from _ _ (and_from _ _ r.1 w.1) e.1) c.1)

covers-from : (g a b : Perms) → covers g a ≡ true → covers g b ≡ true → covers g (join_permissions a b) ≡ true
covers-from g a b here there =
    let xyz = and_parts ((g.r || not a.r) && (g.w || not a.w) && (g.x || not a.x)) (g.c || not a.c) here in
    let xy = and_parts ((g.r || not a.r) && (g.w || not a.w)) (g.x || not a.x) xyz.0 in
    let x = and_parts (g.r || not a.r) (g.w || not a.w) xy.0 in
    let xyz' = and_parts ((g.r || not b.r) && (g.w || not b.w) && (g.x || not b.x)) (g.c || not b.c) there in
    let xy' = and_parts ((g.r || not b.r) && (g.w || not b.w)) (g.x || not b.x) xyz'.0 in
    let x' = and_parts (g.r || not b.r) (g.w || not b.w) xy'.0 in
    and_from _ _ (and_from _ _ (and_from _ _ (one-from g.r a.r b.r x.0 x'.0) (one-from g.w a.w b.w x.1 x'.1)) (one-from g.x a.x b.x xy.1 xy'.1)) (one-from g.c a.c b.c xyz.1 xyz'.1)

none-covered : (g : Perms) → covers g no_permissions ≡ true
none-covered g = and_from _ _ (and_from _ _ (and_from _ _ (by g.r) (by g.w)) (by g.x)) (by g.c)
  where
    by : (b : Bool) → (b || not false) ≡ true
    by true = refl
    by false = refl

joined-covers : (g : Perms) (ws : List (Observation Judged)) → covers g (joined_permissions ws) ≡ true → (w : Observation Judged) → Among w ws → covers g w.item.permissions ≡ true
joined-covers g [] is w h = absurd h
joined-covers g (v ∷ ws) is w (inl e) = ap (λ (o : Observation Judged). covers g o.item.permissions) e ∙ (covers-parts g v.item.permissions (joined_permissions ws) is).0
joined-covers g (v ∷ ws) is w (inr h) = joined-covers g ws (covers-parts g v.item.permissions (joined_permissions ws) is).1 w h

asked-covered : (g : Perms) (ws : List (ℕ × Judged)) → ((w : ℕ × Judged) → Among w ws → covers g w.1.permissions ≡ true) → covers g (permissions_asked ws) ≡ true
asked-covered g [] each = none-covered g
asked-covered g (w ∷ ws) each = covers-from g w.1.permissions (permissions_asked ws) (each w (inl refl)) (asked-covered g ws (λ v h. each v (inr h)))

-- ---- the walks of one call

targets-among : (ws : List (ℕ × Judged)) (j : Judged) → Among j (targets_in ws) → (w : ℕ × Judged) × Among w ws × (w.1 ≡ j)
targets-among [] j h = absurd h
targets-among (w ∷ ws) j (inl e) = (w, inl refl, sym e)
targets-among (w ∷ ws) j (inr h) =
    let later = filter-among (λ other. not (same_judged w.1 other)) j (targets_in ws) h in
    let there = targets-among ws j later.0 in
    (there.0, inr there.1, there.2)

walks-in : (s : State) (p : Process) (call : Call) (n : ℕ) (w : Judged) → Among w (judged_walks s p call n) → Among w (filter_map (judged s p) (take n (walks_of call)))
walks-in s p (TheCall.Unveil path permissions) n w h = absurd h
walks-in s p call n w h = h

words-are : (s : State) (p : Process) (call : Call) (n : ℕ) (w : Judged) → Among w (judged_walks s p call n) → w.words ≡ target_words s.tree w.target
words-are s p call n w h =
    let walk = filter_map-among (judged s p) w (take n (walks_of call)) (walks-in s p call n w h) in
    by (place_found (Rattle.pv_model.specs.Effect.end_of s p walk.0)) walk.0.needed walk.2
  where
    by : (o : Option Place) (permissions : Perms) → judged_at s permissions o ≡ Some w → w.words ≡ target_words s.tree w.target
    by None permissions is = cc is
    by (Some place) permissions is =
        let target = Rattle.pv_model.specs.Unveil.target_of s.tree place in
        let same : (record { target = target; words = target_words s.tree target; permissions = permissions }) ≡ w = cc is in
        sym (ap (λ (j : Judged). j.words) same) ∙ ap (λ (j : Judged). target_words s.tree j.target) same

module _ (program_of : Bytes → Option Program) (u : State) (pid : ℕ) (p : Process) (call : Call) (live : process_at u pid ≡ Some p) (is : next p ≡ calls_for call) where
  abbrev own : Asked
  own = asked_by u p call (answer program_of u pid call)

  abbrev m : Moment
  m = record { state = u; asked = own }

  asked-is : asked program_of u pid ≡ Some own
  unfolding asked
  asked-is = ap (asked_of program_of u pid) live ∙ ap (asked_next program_of u pid p) is

  -- the call is the only one of a run of one step
  call-of : IsCallOf program_of (pid ∷ []) u pid (m ∷ []) m
  call-of =
      let equal : (pid == pid) ≡ true = grind (arith, nat_tests) in
      let all : moments program_of pid (pid ∷ []) u ≡ m ∷ [] = ap (λ (b : Bool). if b then and_moment u (asked program_of u pid) [] else []) equal ∙ ap (λ (o : Option Asked). and_moment u o []) asked-is in
      record {
        of_run = subst (λ (ms : List Moment). Contains (process_images_of ms) (m ∷ [])) (sym all) (among-contains (m ∷ []) ((m ∷ []) ∷ []) (inl refl));
        of_process_image = among-contains m (m ∷ []) (inl refl);
      }

  module _ (rs : Requests) (r : Observation Request) (within : Among r rs) (same : r.item.asked ≡ own) (table : Table) where
    -- a walk of the call is among those of the program
    walk-asked : (w : Judged) → Among w own.walks → Among (observed r.move w) (walks_asked rs)
    walk-asked w h =
        among-flat (λ (q : Observation Request). map (observed q.move) q.item.asked.walks) r (observed r.move w) rs within
        (among-map (observed r.move) w r.item.asked.walks (subst (λ (a : Asked). Among w a.walks) (sym same) h))

    line-walk : (w : ℕ × Judged) → Among w (walks_judged (own ∷ [])) → Among w.1 own.walks
    line-walk w h = by (among-either w (map (λ v. (own.line, v)) own.walks) [] h)
      where
        by : Among w (map (λ v. (own.line, v)) own.walks) ⊎ Among w [] → Among w.1 own.walks
        by (inl k) = let v = map-among (λ v. (own.line, v)) w own.walks k in subst (λ (j : Judged). Among j own.walks) (sym (ap (λ (x : ℕ × Judged). x.1) v.2)) v.1
        by (inr none) = absurd none

    -- a permission granted to the program is granted to the call
    gives : (j : Judged) → Among j (targets_listed (m ∷ [])) → GrantsDemands rs u.tree table j.target → GrantsAt u.tree table j.target (permissions_listed (m ∷ []) j)
    gives j h asked_there =
        let from = targets-among (walks_judged (own ∷ [])) j h in
        let walk : Among j own.walks = subst (λ (v : Judged). Among v own.walks) from.2 (line-walk from.0 from.1) in
        let words : j.words ≡ target_words u.tree j.target = words-are u p call (answer program_of u pid call).walks j walk in
        let asks' : asks_at_words rs (target_words u.tree j.target) ≡ true =
        any-among (λ (w : Observation Judged). bytes_eq w.item.words (target_words u.tree j.target)) (observed r.move j) (walks_asked rs) (walk-asked j walk)
        (ap (bytes_eq j.words) (sym words) ∙ bytes_eq-itself j.words) in
        let given = asked_there asks' in (
          given.0,
          given.1,
          asked-covered (permissions_at table given.0) (walks_to j (walks_judged (own ∷ []))) (λ w k.
              let part = filter-among (λ (x : ℕ × Judged). same_judged j x.1) w (walks_judged (own ∷ [])) k in
              let other : Among w.1 own.walks = line-walk w part.0 in
              let same_words : j.words ≡ w.1.words = bytes_eq-same j.words w.1.words (and_parts (same_target j.target w.1.target) (bytes_eq j.words w.1.words) part.1).1 in
              joined-covers (permissions_at table given.0) (filter (λ (x : Observation Judged). bytes_eq x.item.words (target_words u.tree j.target)) (walks_asked rs)) given.2 (observed r.move w.1)
              (among-filter (λ (x : Observation Judged). bytes_eq x.item.words (target_words u.tree j.target)) (observed r.move w.1) (walks_asked rs) (walk-asked w.1 other)
              (ap (bytes_eq w.1.words) (sym words ∙ same_words) ∙ bytes_eq-itself w.1.words))),
        )

    enough : is_unveil call ≡ false → ((target : Target) → GrantsDemands rs u.tree table target) → reports_of_table (step program_of (with_own_table u pid table) pid).lines ≡ true
        → ((answer program_of (with_own_table u pid table) pid call).walks ≡ 2) × ((answer program_of u pid call).walks ≡ 1) × (reports_of_table (step program_of u pid).lines ≡ true)
    enough plain all reported =
        enough-single program_of (pid ∷ []) u pid (m ∷ []) m table p call call-of live is plain
        (λ j h. gives j (themselves (targets_listed (m ∷ [])) j h) (all j.target)) reported

    needed : (w : Judged) → Among w own.walks → (permission : Perms) (k : ℕ) → covers w.permissions permission ≡ true → GrantsDemandsExcept rs u.tree table w.target permission k
        → (answer program_of (with_own_table u pid table) pid call).outcome ≡ Failed EACCES (ByUnveil (Some k))
    needed w h permission k covered but =
        needed-single program_of (pid ∷ []) u pid (m ∷ []) m table p call w permission k call-of live is
        (record { governs = but.governs; lacks = but.lacks; others = λ other listed apart. gives other (themselves (targets_listed (m ∷ [])) other listed) (but.others other.target apart) })
        (among-contains w own.walks h) covered

module _ (program_of : Bytes → Option Program) where
  -- a permission granted to the program is granted to the call that one of its calls shows
  pub permissions-suffice : (rs : Requests) (u : State) (pid : ℕ) (p : Process) (call : Call) (table : Table) → IsRequested program_of rs u pid p call
      → process_at u pid ≡ Some p → next p ≡ calls_for call
      → (group : Observation Request × Requests) → Among group (groups request_program_key rs) → p.program ≡ group.0.item.process.program
      → is_unveil call ≡ false → ((target : Target) → GrantsDemands group.1 u.tree table target)
      → reports_of_table (step program_of (with_own_table u pid table) pid).lines ≡ true
      → ((answer program_of (with_own_table u pid table) pid call).walks ≡ 2) × ((answer program_of u pid call).walks ≡ 1)
      × (reports_of_table (step program_of u pid).lines ≡ true)
  permissions-suffice rs u pid p call table it live is group listed same plain all reported =
      enough program_of u pid p call live is group.1 it.shown_by (of-program program_of it group listed same)
      (ap (λ (c : ShownCall). c.asked) it.same) table plain all reported

  -- the demands of the last call of a schedule are needs of the program
  pub needed-last : (s : State) (r : Observation Request) (rs : Requests) (w : Judged) (table : Table) (permission : Perms) (k : ℕ)
      → IsLastCall program_of s r → Among r rs → Among w r.item.asked.walks → covers w.permissions permission ≡ true
      → GrantsDemandsExcept rs r.item.before.tree table w.target permission k
      → (answer program_of (with_own_table r.item.before r.move.pid table) r.move.pid r.item.call).outcome ≡ Failed EACCES (ByUnveil (Some k))
  needed-last s r rs w table permission k last within has covered but =
      let u = last.from.state in
      let pid = r.move.pid in
      let asked_there : r.item.asked ≡ asked_by u last.process last.call (answer program_of u pid last.call) = ap (λ (q : Request). q.asked) last.same in
      ap (λ (q : Request). (answer program_of (with_own_table q.before pid table) pid q.call).outcome) last.same
      ∙ needed program_of u pid last.process last.call last.live last.calls rs r within asked_there table w
      (subst (λ (a : Asked). Among w a.walks) asked_there has) permission k covered
      (subst (λ (q : Request). GrantsDemandsExcept rs q.before.tree table w.target permission k) last.same but)

-- ---- the laws

pub enough-permissions : ListedPermissionsAreEnough
enough-permissions program_of limit s group pids pid p call table it complete listed live same is =
    let seen = seen-full program_of limit s it complete pids pid in
    let it' = requested program_of (states_found program_of limit s) (run program_of pids s).final pid p call seen live is in
    permissions-suffice program_of (requests_of program_of (states_found program_of limit s)) (run program_of pids s).final pid p call table it' live is
    group (themselves (calling_programs program_of limit s) group listed) same

pub enough-permissions_reduced : ListedPermissionsAreEnoughReduced
enough-permissions_reduced program_of limit s group pids pid p call table it complete listed steps live same is =
    let seen = seen-reduced program_of limit s it complete pids pid p steps live in
    let it' = requested program_of (reduced_found program_of s limit) (run program_of pids s).final pid p call seen live is in
    permissions-suffice program_of (requests_of program_of (reduced_found program_of s limit)) (run program_of pids s).final pid p call table it' live is
    group (themselves (reduced_calling_programs program_of limit s) group listed) same

pub needed-permissions : ListedPermissionsAreNeeded
needed-permissions program_of limit s group r w table permission k it listed within has =
    let member = themselves group.1 r within in
    let here = themselves (calling_programs program_of limit s) group listed in
    let last = last-call_of program_of s (states_found program_of limit s) (sound-at program_of limit s it) group here r member in
    needed-last program_of s r group.1 w table permission k last member (themselves r.item.asked.walks w has)

pub needed-permissions_reduced : ListedPermissionsAreNeededReduced
needed-permissions_reduced program_of limit s group r w table permission k it listed within has =
    let member = themselves group.1 r within in
    let here = themselves (reduced_calling_programs program_of limit s) group listed in
    let last = last-call_of program_of s (reduced_found program_of s limit) (reduced-sound program_of limit s it) group here r member in
    needed-last program_of s r group.1 w table permission k last member (themselves r.item.asked.walks w has)
