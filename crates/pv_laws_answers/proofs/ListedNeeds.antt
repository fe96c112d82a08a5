-- The calls of program images, and the promises and permissions listed for them.
use Rattle.std.proofs.Common.{◌≡◌, ◌≢◌, ℕ, zero, suc, ◌<◌, ◌≤◌, Bool, true, false, cond, if◌then◌else◌, not, ◌==◌, bytes_eq, List, [], ◌∷◌, ◌++◌, map, filter, slice_get, Option, None, Some, Ok, Err, refl, ap, sym, subst, ◌∙◌, arith}
use Rattle.std.specs.Prelude.{flat_map, filter_map, take, Contains}
use Rattle.std.specs.List.{list_any, AllByRecursion, cons_option}
use Rattle.std.proofs.lemmas.Bool.{and_parts, and_from, eqb-true, or_left, or_right}
use Rattle.std.proofs.lemmas.Slice.Eq.{bytes_eq-Decides}
use Rattle.pv_model.specs.declared.call.Call.{Call}
use Rattle.pv_model.specs.declared.call.Call.TheVariants as TheCall
use Rattle.pv_model.specs.declared.perms.Perms.{Perms}
use Rattle.pv_model.specs.declared.place.Place.{Place}
use Rattle.pv_model.specs.declared.promise.Promise.{Promise}
use Rattle.pv_model.specs.Machine.{Judged, Asked, asked, same_promise, same_judged, walks_judged, walks_to, judged_walks, target_words, Bytes, end_of, join_permissions, Program, Process, State, step, place_found, same_target, target_of, Walked, Walk, walks_of, walk_number, is_unveil}
use Rattle.pv_model.specs.Answers.Needs.{asked_in, and_asked, asked_by_one, process_images, onto_process_image, needing, targets_in, permissions_asked, judged, judged_at}
use Rattle.pv_laws_answers.specs.ProcessImages.{Moment, and_moment, moments, onto_moments, process_images_of, demands_of_moments, IsCallOf, IsMadeIn, IsPromiseListed, targets_listed, permissions_listed}
use Rattle.pv_laws_answers.proofs.SinglePermissions.{Gives}
use Rattle.pv_laws_trees.proofs.UnveilTargets.{same_target-same, same_target-itself}

-- ---- membership

module _ {X : Type 0} where
  pub first-in : (x : X) (xs : List X) → Contains (x ∷ xs) x
  first-in x xs = (0, omega arith, refl)

  pub later-in : (y x : X) (xs : List X) → Contains xs x → Contains (y ∷ xs) x
  later-in y x xs has = (suc has.0, omega (arith, has.1), has.2)

  -- an element is the first, or a later one
  pub in-cases : (P : Type 0) (y x : X) (ys : List X) → Contains (y ∷ ys) x → (y ≡ x → P) → (Contains ys x → P) → P
  in-cases P y x ys (zero, few, is) here there = here is
  in-cases P y x ys (suc k, few, is) here there = there (k, omega arith, is)

  pub not-in : (x : X) → Contains [] x → ⊥
  not-in x has = omega (arith, has.1)

  pub all-in : (P : X → Type 0) (xs : List X) (x : X) → AllByRecursion P xs → Contains xs x → P x
  all-in P [] x all has = absurd (not-in x has)
  all-in P (y ∷ ys) x all has = in-cases (P x) y x ys has (λ same. subst P same all.0) (λ there. all-in P ys x all.1 there)

  pub passed-in : (test : X → Bool) (xs : List X) (x : X) → Contains xs x → test x ≡ true → Contains (filter test xs) x
  passed-in test [] x has is = absurd (not-in x has)
  passed-in test (y ∷ ys) x has is = by (test y) refl (λ there. passed-in test ys x there is)
    where
      by : (b : Bool) → test y ≡ b → (Contains ys x → Contains (filter test ys) x) → Contains (cond b (y ∷ filter test ys) (filter test ys)) x
      by true passes more = in-cases (Contains (y ∷ filter test ys) x) y x ys has (λ same. subst (Contains (y ∷ filter test ys)) same (first-in y (filter test ys))) (λ there. later-in y x (filter test ys) (more there))
      by false fails more = in-cases (Contains (filter test ys) x) y x ys has (λ same. let bad : true ≡ false = sym is ∙ ap test (sym same) ∙ fails in cc bad) more

pub map-in : {X Y : Type 0} (f : X → Y) (xs : List X) (x : X) → Contains xs x → Contains (map f xs) (f x)
map-in f [] x has = absurd (not-in x has)
map-in f (y ∷ ys) x has =
    in-cases (Contains (f y ∷ map f ys) (f x)) y x ys has (λ same. subst (λ z. Contains (f y ∷ map f ys) (f z)) same (first-in (f y) (map f ys))) (λ there. later-in (f y) (f x) (map f ys) (map-in f ys x there))

append-left : {X : Type 0} (xs ys : List X) (x : X) → Contains xs x → Contains (xs ++ ys) x
append-left [] ys x has = absurd (not-in x has)
append-left (z ∷ zs) ys x has = in-cases (Contains (z ∷ (zs ++ ys)) x) z x zs has (λ same. subst (Contains (z ∷ (zs ++ ys))) same (first-in z (zs ++ ys))) (λ there. later-in z x (zs ++ ys) (append-left zs ys x there))

append-right : {X : Type 0} (xs ys : List X) (x : X) → Contains ys x → Contains (xs ++ ys) x
append-right [] ys x has = has
append-right (z ∷ zs) ys x has = later-in z x (zs ++ ys) (append-right zs ys x has)

pub flat-in : {X Y : Type 0} (f : X → List Y) (xs : List X) (x : X) (y : Y) → Contains xs x → Contains (f x) y → Contains (flat_map f xs) y
flat-in f [] x y has inside = absurd (not-in x has)
flat-in f (z ∷ zs) x y has inside =
    in-cases (Contains (f z ++ flat_map f zs) y) z x zs has
    (λ same. append-left (f z) (flat_map f zs) y (subst (λ w. Contains (f w) y) (sym same) inside))
    (λ there. append-right (f z) (flat_map f zs) y (flat-in f zs x y there inside))

not-empty : {X : Type 0} (xs : List X) (x : X) → Contains xs x → xs ≢ []
not-empty [] x has none = not-in x has
not-empty (y ∷ ys) x has none = cc none

-- ---- calls by program image

onto-asked : (m : Moment) (groups : List (List Moment)) → map demands_of_moments (onto_moments m groups) ≡ onto_process_image m.asked (map demands_of_moments groups)
onto-asked m [] = refl
onto-asked m (process_image ∷ rest) = by m.asked.ends_process_image
  where
    by : (b : Bool) → map demands_of_moments (if b then (m ∷ []) ∷ process_image ∷ rest else (m ∷ process_image) ∷ rest)
        ≡ (if b then (m.asked ∷ []) ∷ demands_of_moments process_image ∷ map demands_of_moments rest else (m.asked ∷ demands_of_moments process_image) ∷ map demands_of_moments rest)
    by true = refl
    by false = refl

process_images-asked : (ms : List Moment) → map demands_of_moments (process_images_of ms) ≡ process_images (demands_of_moments ms)
unfolding process_images
process_images-asked [] = refl
process_images-asked (m ∷ ms) = onto-asked m (process_images_of ms) ∙ ap (onto_process_image m.asked) (process_images-asked ms)

moments-asked : (program_of : Bytes → Option Program) (pids : List ℕ) (s : State) (pid : ℕ) → demands_of_moments (moments program_of pid pids s) ≡ asked_by_one (asked_in program_of pids s) pid
moments-asked program_of [] s pid = refl
moments-asked program_of (k ∷ ks) s pid = by (asked program_of s k) (moments-asked program_of ks (step program_of s k).after pid)
  where
    by : (o : Option Asked) → demands_of_moments (moments program_of pid ks (step program_of s k).after) ≡ asked_by_one (asked_in program_of ks (step program_of s k).after) pid
        → demands_of_moments (if k == pid then and_moment s o (moments program_of pid ks (step program_of s k).after) else moments program_of pid ks (step program_of s k).after)
        ≡ asked_by_one (and_asked program_of k o (asked_in program_of ks (step program_of s k).after)) pid
    by None same = of (k == pid)
      where
        of : (b : Bool) → demands_of_moments (if b then moments program_of pid ks (step program_of s k).after else moments program_of pid ks (step program_of s k).after)
            ≡ asked_by_one (asked_in program_of ks (step program_of s k).after) pid
        of true = same
        of false = same
    by (Some now) same = of (k == pid)
      where
        of : (b : Bool) → demands_of_moments (if b then record { state = s; asked = now } ∷ moments program_of pid ks (step program_of s k).after else moments program_of pid ks (step program_of s k).after)
            ≡ map (λ a. a.1) (cond b ((k, now) ∷ filter (λ a. a.0 == pid) (asked_in program_of ks (step program_of s k).after)) (filter (λ a. a.0 == pid) (asked_in program_of ks (step program_of s k).after)))
        of true = ap (λ rest. now ∷ rest) same
        of false = same

pub process_images-are : (program_of : Bytes → Option Program) (pids : List ℕ) (s : State) (pid : ℕ) → map demands_of_moments (process_images_of (moments program_of pid pids s)) ≡ process_images (asked_by_one (asked_in program_of pids s) pid)
process_images-are program_of pids s pid = process_images-asked (moments program_of pid pids s) ∙ ap process_images (moments-asked program_of pids s pid)

-- a property of each call holds for each call of each program image
onto-all : (P : Moment → Type 0) (m : Moment) (groups : List (List Moment)) → P m → AllByRecursion (AllByRecursion P) groups → AllByRecursion (AllByRecursion P) (onto_moments m groups)
onto-all P m [] is all = ((is, tt), tt)
onto-all P m (process_image ∷ rest) is all = by m.asked.ends_process_image
  where
    by : (b : Bool) → AllByRecursion (AllByRecursion P) (if b then (m ∷ []) ∷ process_image ∷ rest else (m ∷ process_image) ∷ rest)
    by true = ((is, tt), all)
    by false = ((is, all.0), all.1)

process_images-all : (P : Moment → Type 0) (ms : List Moment) → AllByRecursion P ms → AllByRecursion (AllByRecursion P) (process_images_of ms)
process_images-all P [] all = tt
process_images-all P (m ∷ ms) all = onto-all P m (process_images_of ms) all.0 (process_images-all P ms all.1)

module _ (program_of : Bytes → Option Program) (pid : ℕ) where
  -- calls made earlier are put in front, along the steps of a run
  made-all : (pids : List ℕ) (s : State) → AllByRecursion (IsMadeIn program_of pids s pid) (moments program_of pid pids s)
  made-all [] s = tt
  made-all (k ∷ ks) s = by (k == pid) refl (asked program_of s k) refl (earlier (moments program_of pid ks (step program_of s k).after) (made-all ks (step program_of s k).after))
    where
      one-more : (m : Moment) → IsMadeIn program_of ks (step program_of s k).after pid m → IsMadeIn program_of (k ∷ ks) s pid m
      one-more m is = record { before = k ∷ is.before; after = is.after; parts = ap (λ ps. k ∷ ps) is.parts; state = is.state; asks = is.asks }

      earlier : (ms : List Moment) → AllByRecursion (IsMadeIn program_of ks (step program_of s k).after pid) ms → AllByRecursion (IsMadeIn program_of (k ∷ ks) s pid) ms
      earlier [] all = tt
      earlier (m ∷ ms) all = (one-more m all.0, earlier ms all.1)

      by : (b : Bool) → (k == pid) ≡ b → (o : Option Asked) → asked program_of s k ≡ o → AllByRecursion (IsMadeIn program_of (k ∷ ks) s pid) (moments program_of pid ks (step program_of s k).after)
          → AllByRecursion (IsMadeIn program_of (k ∷ ks) s pid) (if b then and_moment s o (moments program_of pid ks (step program_of s k).after) else moments program_of pid ks (step program_of s k).after)
      by false other o is all = all
      by true mine None is all = all
      by true mine (Some now) is all =
          let same : k ≡ pid = eqb-true k pid mine in
          (record { before = []; after = ks; parts = ap (λ n. n ∷ ks) same; state = refl; asks = ap (asked program_of s) (sym same) ∙ is }, all)

  pub made-in : (pids : List ℕ) (s : State) (process_image : List Moment) (m : Moment) → IsCallOf program_of pids s pid process_image m → IsMadeIn program_of pids s pid m
  made-in pids s process_image m is =
      all-in (IsMadeIn program_of pids s pid) process_image m
      (all-in (AllByRecursion (IsMadeIn program_of pids s pid)) (process_images_of (moments program_of pid pids s)) process_image
      (process_images-all (IsMadeIn program_of pids s pid) (moments program_of pid pids s) (made-all pids s)) is.of_run) is.of_process_image

-- ---- listed promises

pub promise-listed : (process_image : List Moment) (m : Moment) (a : Promise) → Contains process_image m → list_any (same_promise a) m.asked.promises ≡ true → IsPromiseListed a process_image
promise-listed process_image m a has needs =
    not-empty (needing a (demands_of_moments process_image)) m.asked
    (passed-in (λ now. list_any (same_promise a) now.promises) (demands_of_moments process_image) m.asked (map-in (λ n. n.asked) process_image m has) needs)

-- ---- listed targets

judged-same : (a b : Judged) → same_judged a b ≡ true → (a.target ≡ b.target) × (a.words ≡ b.words)
judged-same a b is = let parts = and_parts (same_target a.target b.target) (bytes_eq a.words b.words) is in (same_target-same a.target b.target parts.0, (bytes_eq-Decides a.words b.words).0 parts.1)

pub same-judged : (a b : Judged) → a.target ≡ b.target → a.words ≡ b.words → same_judged a b ≡ true
same-judged a b target words =
    and_from (same_target a.target b.target) (bytes_eq a.words b.words) (ap (same_target a.target) (sym target) ∙ same_target-itself a.target) ((bytes_eq-Decides a.words b.words).1 words)

-- a target that is listed for a walk
record HasTarget (ws : List (ℕ × Judged)) (j : Judged) : Type 0 where
  target : Judged
  listed : Contains (targets_in ws) target
  same : same_judged target j ≡ true

target-of : (ws : List (ℕ × Judged)) (w : ℕ × Judged) → Contains ws w → HasTarget ws w.1
target-of [] w has = absurd (not-in w has)
target-of (x ∷ xs) w has =
    in-cases (HasTarget (x ∷ xs) w.1) x w xs has
    (λ here. record {
      target = x.1;
      listed = first-in x.1 (filter (λ other. not (same_judged x.1 other)) (targets_in xs));
      same = same-judged x.1 w.1 (ap (λ (y : ℕ × Judged). y.1.target) here) (ap (λ (y : ℕ × Judged). y.1.words) here);
    })
    (λ there. by (target-of xs w there))
  where
    by : HasTarget xs w.1 → HasTarget (x ∷ xs) w.1
    by h = of (same_judged x.1 h.target) refl
      where
        of : (b : Bool) → same_judged x.1 h.target ≡ b → HasTarget (x ∷ xs) w.1
        of true same =
            let one = judged-same x.1 h.target same in
            let two = judged-same h.target w.1 h.same in
            record {
              target = x.1;
              listed = first-in x.1 (filter (λ other. not (same_judged x.1 other)) (targets_in xs));
              same = same-judged x.1 w.1 (one.0 ∙ two.0) (one.1 ∙ two.1);
            }
        of false other = record {
          target = h.target;
          listed = later-in x.1 h.target (filter (λ other. not (same_judged x.1 other)) (targets_in xs))
              (passed-in (λ other. not (same_judged x.1 other)) (targets_in xs) h.target h.listed (ap not other));
          same = h.same;
        }

joined-left : (a b c : Perms) → Gives a c → Gives (join_permissions a b) c
joined-left a b c g = record {
  r = λ is. or_left a.r b.r (g.r is);
  w = λ is. or_left a.w b.w (g.w is);
  x = λ is. or_left a.x b.x (g.x is);
  c = λ is. or_left a.c b.c (g.c is);
}

joined-right : (a b c : Perms) → Gives b c → Gives (join_permissions a b) c
joined-right a b c g = record {
  r = λ is. or_right a.r b.r (g.r is);
  w = λ is. or_right a.w b.w (g.w is);
  x = λ is. or_right a.x b.x (g.x is);
  c = λ is. or_right a.c b.c (g.c is);
}

-- the listed permissions include those of each walk
asked-gives : (ws : List (ℕ × Judged)) (w : ℕ × Judged) → Contains ws w → Gives (permissions_asked ws) w.1.permissions
asked-gives [] w has = absurd (not-in w has)
asked-gives (x ∷ xs) w has =
    in-cases (Gives (permissions_asked (x ∷ xs)) w.1.permissions) x w xs has
    (λ here. joined-left x.1.permissions (permissions_asked xs) w.1.permissions
    (subst (λ (y : ℕ × Judged). Gives x.1.permissions y.1.permissions) here (record { r = λ is. is; w = λ is. is; x = λ is. is; c = λ is. is })))
    (λ there. joined-right x.1.permissions (permissions_asked xs) w.1.permissions (asked-gives xs w there))

-- for a checked walk of a call of a program image, the target is listed, with its words and its permissions
pub record IsJudgedListed (process_image : List Moment) (j : Judged) : Type 0 where
  pub target : Judged
  pub listed : Contains (targets_listed process_image) target
  pub same : target.target ≡ j.target
  pub gives : Gives (permissions_listed process_image target) j.permissions

pub judged-listed : (process_image : List Moment) (m : Moment) (j : Judged) → Contains process_image m → Contains m.asked.walks j → IsJudgedListed process_image j
judged-listed process_image m j has walks =
    let ws = walks_judged (demands_of_moments process_image) in
    let here : Contains (walks_judged (demands_of_moments process_image)) (m.asked.line, j) =
    flat-in (λ (now : Asked). map (λ w. (now.line, w)) now.walks) (demands_of_moments process_image) m.asked (m.asked.line, j) (map-in (λ n. n.asked) process_image m has) (map-in (λ w. (m.asked.line, w)) m.asked.walks j walks) in
    let t = target-of (walks_judged (demands_of_moments process_image)) (m.asked.line, j) here in
    record {
      target = t.target;
      listed = t.listed;
      same = (judged-same t.target j t.same).0;
      gives = asked-gives (walks_to t.target (walks_judged (demands_of_moments process_image))) (m.asked.line, j)
          (passed-in (λ w. same_judged t.target w.1) (walks_judged (demands_of_moments process_image)) (m.asked.line, j) here t.same);
    }

-- ---- the checked walks of a call

abbrev pub judged-of : State → Walk → Place → Judged
judged-of s w place = record { target = target_of s.tree place; words = target_words s.tree (target_of s.tree place); permissions = w.needed }

walks-are : (s : State) (p : Process) (call : Call) (n : ℕ) → is_unveil call ≡ false → judged_walks s p call n ≡ filter_map (judged s p) (take n (walks_of call))
walks-are s p (TheCall.Unveil path permissions) n plain = cc plain
walks-are s p call n plain = refl

module _ {X Y : Type 0} (f : X → Option Y) where
  cons-first : (o : Option Y) (rest : List Y) (y : Y) → o ≡ Some y → Contains (cons_option o rest) y
  cons-first None rest y is = cc is
  cons-first (Some z) rest y is = let same : z ≡ y = cc is in subst (Contains (z ∷ rest)) same (first-in z rest)

  cons-later : (o : Option Y) (rest : List Y) (y : Y) → Contains rest y → Contains (cons_option o rest) y
  cons-later None rest y has = has
  cons-later (Some z) rest y has = later-in z y rest has

  mapped-in : (xs : List X) (n i : ℕ) (x : X) (y : Y) → slice_get xs i ≡ Some x → i < n → f x ≡ Some y → Contains (filter_map f (take n xs)) y
  mapped-in [] n i x y at few is = cc at
  mapped-in (z ∷ zs) zero i x y at few is = absurd (omega arith)
  mapped-in (z ∷ zs) (suc n) zero x y at few is = let same : z ≡ x = cc at in cons-first (f z) (filter_map f (take n zs)) y (ap f same ∙ is)
  mapped-in (z ∷ zs) (suc n) (suc i) x y at few is = cons-later (f z) (filter_map f (take n zs)) y (mapped-in zs n i x y at (omega arith) is)

  -- an element of a mapped list, and its source
  record IsMapped (xs : List X) (n : ℕ) (y : Y) : Type 0 where
    index : ℕ
    element : X
    at : slice_get xs index ≡ Some element
    few : index < n
    is : f element ≡ Some y

  mapped-back : (xs : List X) (n : ℕ) (y : Y) → Contains (filter_map f (take n xs)) y → IsMapped xs n y
  mapped-back [] n y has = absurd (not-in y (nothing n has))
    where
      nothing : (n : ℕ) → Contains (filter_map f (take n [])) y → Contains [] y
      nothing zero has = has
      nothing (suc n) has = has
  mapped-back (z ∷ zs) zero y has = absurd (not-in y has)
  mapped-back (z ∷ zs) (suc n) y has = by (f z) refl has (mapped-back zs n y)
    where
      later : IsMapped zs n y → IsMapped (z ∷ zs) (suc n) y
      later m = record { index = suc m.index; element = m.element; at = m.at; few = (let less = m.few in omega (arith, less)); is = m.is }

      by : (o : Option Y) → f z ≡ o → Contains (cons_option o (filter_map f (take n zs))) y → (Contains (filter_map f (take n zs)) y → IsMapped zs n y) → IsMapped (z ∷ zs) (suc n) y
      by None is has more = later (more has)
      by (Some u) is has more =
          in-cases (IsMapped (z ∷ zs) (suc n) y) u y (filter_map f (take n zs)) has
          (λ same. record { index = 0; element = z; at = refl; few = omega arith; is = is ∙ ap Some same })
          (λ there. later (more there))

-- a walk that was begun and ends at a place is checked
pub walk-judged : (s : State) (p : Process) (call : Call) (n number : ℕ) (w : Walk) (place : Place) → is_unveil call ≡ false → number ≤ n → walk_number (walks_of call) number ≡ Some w
    → end_of s p w ≡ Ok place → Contains (judged_walks s p call n) (judged-of s w place)
walk-judged s p call n zero w place plain few found end = cc found
walk-judged s p call n (suc i) w place plain few found end =
    subst (λ js. Contains js (record { target = target_of s.tree place; words = target_words s.tree (target_of s.tree place); permissions = w.needed })) (sym (walks-are s p call n plain))
    (mapped-in (judged s p) (walks_of call) n i w (record { target = target_of s.tree place; words = target_words s.tree (target_of s.tree place); permissions = w.needed }) found (omega arith)
    (ap (λ r. judged_at s w.needed (place_found r)) end))

-- a checked walk is such a walk
pub record IsWalkJudged (s : State) (p : Process) (call : Call) (n : ℕ) (j : Judged) : Type 0 where
  pub plain : is_unveil call ≡ false
  pub number : ℕ
  pub walk : Walk
  pub place : Place
  pub few : number ≤ n
  pub found : walk_number (walks_of call) number ≡ Some walk
  pub end : end_of s p walk ≡ Ok place
  pub target : j.target ≡ target_of s.tree place
  pub asked : j.permissions ≡ walk.needed

pub judged-walk : (s : State) (p : Process) (call : Call) (n : ℕ) (j : Judged) → Contains (judged_walks s p call n) j → IsWalkJudged s p call n j
judged-walk s p call n j has = by (is_unveil call) refl
  where
    none : (c : Call) → is_unveil c ≡ true → Contains (judged_walks s p c n) j → ⊥
    none (TheCall.Unveil path permissions) is has = not-in j has
    none c is has = cc is

    of : is_unveil call ≡ false → IsMapped (judged s p) (walks_of call) n j → IsWalkJudged s p call n j
    of plain m = ends (end_of s p m.element) refl m.is
      where
        ends : (r : Walked) → end_of s p m.element ≡ r → judged_at s m.element.needed (place_found r) ≡ Some j → IsWalkJudged s p call n j
        ends (Err e) end is = cc is
        ends (Ok place) end is =
            let same : record { target = target_of s.tree place; words = target_words s.tree (target_of s.tree place); permissions = m.element.needed } ≡ j = cc is in
            record {
              plain = plain;
              number = suc m.index;
              walk = m.element;
              place = place;
              few = (let less = m.few in omega (arith, less));
              found = m.at;
              end = end;
              target = ap (λ (x : Judged). x.target) (sym same);
              asked = ap (λ (x : Judged). x.permissions) (sym same);
            }

    by : (b : Bool) → is_unveil call ≡ b → IsWalkJudged s p call n j
    by true is = absurd (none call is has)
    by false plain = of plain (mapped-back (judged s p) (walks_of call) n j (subst (λ js. Contains js j) (walks-are s p call n plain) has))
