-- The counts and the last lines of `needs`, by the calls of each program image.
use Rattle.std.proofs.Common.{◌≡◌, ◌≢◌, ◌∙◌, ℕ, suc, ◌+◌, Bool, true, false, not, cond, if◌then◌else◌, List, [], ◌∷◌, ◌++◌, map, flat_map, filter, codes, length, Option, None, Some, refl, ap, ap₂, sym, subst, inl, inr, ◌⊎◌}
use Rattle.std.specs.Prelude.{Contains}
use Rattle.std.specs.List.{list_any, range_with_len}
use Rattle.pv_model.specs.declared.promise.Promise.{Promise}
use Rattle.pv_model.specs.Machine.{AnswerLine, counted_from, permissions_in_places, Asked, Judged, asked, same_judged, same_promise, walks_judged, walks_to, Bytes, Next, calls_for, inside, next, promise_name, Process, Program, State, process_at, run}
use Rattle.pv_model.specs.Answers.Needs.{asked_in, asked_next, asked_of, last_of, needing, needs_lines, needs_of_process, process_image_lines, promise_texts_of, targets_in}
use Rattle.pv_laws_answers.specs.Counts.{IsAskedAt, IsLastThatPasses, IsPromiseCounted, IsTargetCounted, NoElementPasses, leads_to_target, lines_of_calls, needed_promise, number_that_passes, promise_texts_in, target_text_in, counted_line, walks_of_calls}
use Rattle.pv_laws_answers.specs.ProcessImages.{IsCallOf, Moment, permissions_listed, moments, process_images_of, targets_listed, demands_of_moments}
use Rattle.pv_laws_answers.proofs.ListedNeeds.{first-in, in-cases, later-in, made-in, not-in, process_images-are, same-judged}
use Rattle.pv_laws_trees.proofs.ListTests.{flat-same}

-- ---- elements that pass a test

module _ {X Y : Type 0} (f : X → Y) (test : Y → Bool) where
  filter-map : (xs : List X) → filter test (map f xs) ≡ map f (filter (λ x. test (f x)) xs)
  filter-map [] = refl
  filter-map (x ∷ xs) = by (test (f x)) (filter-map xs)
    where
      by : (b : Bool) → filter test (map f xs) ≡ map f (filter (λ x. test (f x)) xs)
          → cond b (f x ∷ filter test (map f xs)) (filter test (map f xs)) ≡ map f (cond b (x ∷ filter (λ x. test (f x)) xs) (filter (λ x. test (f x)) xs))
      by true rest = ap (λ ys. f x ∷ ys) rest
      by false rest = rest

module _ {X : Type 0} (g : X → ℕ) (test : X → Bool) where
  count-is : (xs : List X) → length (map g (filter test xs)) ≡ number_that_passes test xs
  count-is [] = refl
  count-is (x ∷ xs) = by (test x) (count-is xs)
    where
      by : (b : Bool) → length (map g (filter test xs)) ≡ number_that_passes test xs
          → length (map g (cond b (x ∷ filter test xs) (filter test xs))) ≡ (if b then suc (number_that_passes test xs) else number_that_passes test xs)
      by true rest = ap suc rest
      by false rest = rest

  -- the elements that pass, and the last of them
  record HasLast (xs passing : List X) : Type 0 where
    pub x : X
    pub is : IsLastThatPasses test xs x
    pub line : (n : ℕ) → last_of n (map g passing) ≡ g x
    pub some : passing ≢ []

  last-is : (xs : List X) → (NoElementPasses test xs × (filter test xs ≡ [])) ⊎ HasLast xs (filter test xs)
  last-is [] = inl (tt, refl)
  last-is (x ∷ xs) = by (test x) refl (last-is xs)
    where
      by : (b : Bool) → test x ≡ b → (NoElementPasses test xs × (filter test xs ≡ [])) ⊎ HasLast xs (filter test xs)
          → (NoElementPasses test (x ∷ xs) × (cond b (x ∷ filter test xs) (filter test xs) ≡ [])) ⊎ HasLast (x ∷ xs) (cond b (x ∷ filter test xs) (filter test xs))
      by true passes (inl none) =
          inr (record {
            x = x;
            is = record { before = []; after = xs; parts = refl; passes = passes; last = none.0 };
            line = λ n. ap (λ (ys : List X). last_of (g x) (map g ys)) none.1;
            some = λ e. cc e;
          })
      by true passes (inr it) =
          inr (record {
            x = it.x;
            is = record { before = x ∷ it.is.before; after = it.is.after; parts = ap (λ (ys : List X). x ∷ ys) it.is.parts; passes = it.is.passes; last = it.is.last };
            line = λ n. it.line (g x);
            some = λ e. cc e;
          })
      by false fails (inl none) = inl ((fails, none.0), none.1)
      by false fails (inr it) =
          inr (record {
            x = it.x;
            is = record { before = x ∷ it.is.before; after = it.is.after; parts = ap (λ (ys : List X). x ∷ ys) it.is.parts; passes = it.is.passes; last = it.is.last };
            line = it.line;
            some = it.some;
          })

-- ---- promises

module _ (process_image : List Moment) (a : Promise) where
  needing-is : needing a (demands_of_moments process_image) ≡ map (λ (m : Moment). m.asked) (filter (needed_promise a) process_image)
  needing-is = filter-map (λ (m : Moment). m.asked) (λ now. list_any (same_promise a) now.promises) process_image

  text-of : (ms : List Moment) → ms ≢ [] → (n l : ℕ) → length (map (λ (m : Moment). m.asked.line) ms) ≡ n → last_of 0 (map (λ (m : Moment). m.asked.line) ms) ≡ l
      → promise_texts_of a (map (λ (m : Moment). m.asked) ms) ≡ (promise_name a ++ counted_line (codes ", calls ") n l) ∷ []
  text-of [] some n l count last = absurd (some refl)
  text-of (m ∷ ms) some n l count last =
      ap (λ (ls : List ℕ). (promise_name a ++ counted_line (codes ", calls ") (length ls) (last_of 0 ls)) ∷ []) (lines-same (m ∷ ms))
      ∙ ap₂ (λ (k j : ℕ). (promise_name a ++ counted_line (codes ", calls ") k j) ∷ []) count last
    where
      lines-same : (xs : List Moment) → map (λ (now : Asked). now.line) (map (λ (x : Moment). x.asked) xs) ≡ map (λ (x : Moment). x.asked.line) xs
      lines-same [] = refl
      lines-same (x ∷ xs) = ap (λ (ls : List ℕ). x.asked.line ∷ ls) (lines-same xs)

  pub promise-counted : IsPromiseCounted a process_image (promise_texts_in process_image a)
  promise-counted = by (last-is (λ (m : Moment). m.asked.line) (needed_promise a) process_image)
    where
      by : (NoElementPasses (needed_promise a) process_image × (filter (needed_promise a) process_image ≡ []))
          ⊎ HasLast (λ (m : Moment). m.asked.line) (needed_promise a) process_image (filter (needed_promise a) process_image)
          → IsPromiseCounted a process_image (promise_texts_in process_image a)
      by (inl none) = inl (none.0, ap (promise_texts_of a) (needing-is ∙ ap (map (λ (m : Moment). m.asked)) none.1))
      by (inr it) =
          inr (
            it.x,
            it.is,
            ap (promise_texts_of a) needing-is
                ∙ text-of (filter (needed_promise a) process_image) it.some (number_that_passes (needed_promise a) process_image) it.x.asked.line
                (count-is (λ (m : Moment). m.asked.line) (needed_promise a) process_image) (it.line 0),
          )

-- ---- targets

abbrev as_walk : Moment × Judged → ℕ × Judged
as_walk w = (w.0.asked.line, w.1)

walks-are : (process_image : List Moment) → walks_judged (demands_of_moments process_image) ≡ map as_walk (walks_of_calls process_image)
walks-are [] = refl
walks-are (m ∷ ms) = each m.asked.walks (walks-are ms)
  where
    each : (ws : List Judged) → walks_judged (demands_of_moments ms) ≡ map as_walk (walks_of_calls ms)
        → map (λ w. (m.asked.line, w)) ws ++ walks_judged (demands_of_moments ms) ≡ map as_walk (map (λ w. (m, w)) ws ++ walks_of_calls ms)
    each [] others = others
    each (w ∷ ws) others = ap (λ (rest : List (ℕ × Judged)). (m.asked.line, w) ∷ rest) (each ws others)

in-filtered : {X : Type 0} (test : X → Bool) (xs : List X) (x : X) → Contains (filter test xs) x → Contains xs x
in-filtered test [] x has = has
in-filtered test (y ∷ ys) x has = by (test y) has (in-filtered test ys x)
  where
    by : (b : Bool) → Contains (cond b (y ∷ filter test ys) (filter test ys)) x → (Contains (filter test ys) x → Contains ys x) → Contains (y ∷ ys) x
    by true has rest = in-cases (Contains (y ∷ ys) x) y x (filter test ys) has (λ same. subst (λ (z : _). Contains (y ∷ ys) z) same (first-in y ys)) (λ there. later-in y x ys (rest there))
    by false has rest = later-in y x ys (rest has)

target-walk : (ws : List (ℕ × Judged)) (target : Judged) → Contains (targets_in ws) target → (w : ℕ × Judged) × Contains ws w × (w.1 ≡ target)
target-walk [] target has = absurd (not-in target has)
target-walk (w ∷ ws) target has =
    in-cases ((v : ℕ × Judged) × Contains (w ∷ ws) v × (v.1 ≡ target)) w.1 target (filter (λ other. not (same_judged w.1 other)) (targets_in ws)) has
    (λ same. (w, first-in w ws, same))
    (λ there.
    let rest = target-walk ws target (in-filtered (λ other. not (same_judged w.1 other)) (targets_in ws) target there) in
    (rest.0, later-in w rest.0 ws rest.1, rest.2))

none-goes : (target : Judged) (zs : List (Moment × Judged)) → NoElementPasses (leads_to_target target) zs → (w : ℕ × Judged) → Contains (map as_walk zs) w → w.1 ≡ target → ⊥
none-goes target [] none w has same = not-in w has
none-goes target (z ∷ zs) none w has same =
    in-cases ⊥ (as_walk z) w (map as_walk zs) has
    (λ is.
    let here : z.1 ≡ target = ap (λ (v : ℕ × Judged). v.1) is ∙ same in
    let goes : same_judged target z.1 ≡ true = same-judged target z.1 (ap (λ (j : Judged). j.target) (sym here)) (ap (λ (j : Judged). j.words) (sym here)) in
    cc (goes, none.0))
    (λ there. none-goes target zs none.1 w there same)

module _ (process_image : List Moment) (target : Judged) (listed : Contains (targets_listed process_image) target) where
  walks-to : walks_to target (walks_judged (demands_of_moments process_image)) ≡ map as_walk (filter (leads_to_target target) (walks_of_calls process_image))
  walks-to = ap (walks_to target) (walks-are process_image) ∙ filter-map as_walk (λ w. same_judged target w.1) (walks_of_calls process_image)

  lines-are : (zs : List (Moment × Judged)) → map (λ (w : ℕ × Judged). w.0) (map as_walk zs) ≡ map (λ (z : Moment × Judged). z.0.asked.line) zs
  lines-are [] = refl
  lines-are (z ∷ zs) = ap (λ (ls : List ℕ). z.0.asked.line ∷ ls) (lines-are zs)

  pub target-counted : IsTargetCounted target process_image (target_text_in process_image target)
  target-counted = by (last-is (λ (z : Moment × Judged). z.0.asked.line) (leads_to_target target) (walks_of_calls process_image))
    where
      passing : map (λ (w : ℕ × Judged). w.0) (walks_to target (walks_judged (demands_of_moments process_image))) ≡ map (λ (z : Moment × Judged). z.0.asked.line) (filter (leads_to_target target) (walks_of_calls process_image))
      passing = ap (map (λ (w : ℕ × Judged). w.0)) walks-to ∙ lines-are (filter (leads_to_target target) (walks_of_calls process_image))

      by : (NoElementPasses (leads_to_target target) (walks_of_calls process_image) × (filter (leads_to_target target) (walks_of_calls process_image) ≡ []))
          ⊎ HasLast (λ (z : Moment × Judged). z.0.asked.line) (leads_to_target target) (walks_of_calls process_image) (filter (leads_to_target target) (walks_of_calls process_image))
          → IsTargetCounted target process_image (target_text_in process_image target)
      by (inl none) =
          let w = target-walk (walks_judged (demands_of_moments process_image)) target listed in
          absurd (none-goes target (walks_of_calls process_image) none.0 w.0 (subst (λ (ws : List (ℕ × Judged)). Contains ws w.0) (walks-are process_image) w.1) w.2)
      by (inr it) = record {
        walk = it.x;
        last = it.is;
        is =
            ap (λ (ls : List ℕ). permissions_in_places (permissions_listed process_image target) ++ codes ", " ++ target.words ++ counted_line (codes ", walks ") (length ls) (last_of 0 ls)) passing
            ∙ ap₂ (λ (k l : ℕ). permissions_in_places (permissions_listed process_image target) ++ codes ", " ++ target.words ++ counted_line (codes ", walks ") k l)
            (count-is (λ (z : Moment × Judged). z.0.asked.line) (leads_to_target target) (walks_of_calls process_image)) (it.line 0);
      }

-- ---- the lines

lines-counted : (pid k : ℕ) (groups : List (List Moment)) → flat_map (process_image_lines pid) (counted_from k (map demands_of_moments groups)) ≡ flat_map (lines_of_calls pid) (counted_from k groups)
lines-counted pid k [] = refl
lines-counted pid k (g ∷ gs) = ap (λ (rest : List AnswerLine). lines_of_calls pid (k, g) ++ rest) (lines-counted pid (k + 1) gs)

module _ (program_of : Bytes → Option Program) (pids : List ℕ) (s : State) where
  process-lines : (pid : ℕ) → needs_of_process (asked_in program_of pids s) pid ≡ flat_map (lines_of_calls pid) (counted_from 1 (process_images_of (moments program_of pid pids s)))
  process-lines pid =
      ap (λ (groups : List (List Asked)). flat_map (process_image_lines pid) (counted_from 1 groups)) (sym (process_images-are program_of pids s pid))
      ∙ lines-counted pid 1 (process_images_of (moments program_of pid pids s))

  pub needs-of_calls : needs_lines program_of pids s
      ≡ flat_map (λ pid. flat_map (lines_of_calls pid) (counted_from 1 (process_images_of (moments program_of pid pids s)))) (range_with_len 1 (run program_of pids s).final.last_process)
  unfolding needs_lines
  needs-of_calls =
      flat-same (needs_of_process (asked_in program_of pids s)) (λ pid. flat_map (lines_of_calls pid) (counted_from 1 (process_images_of (moments program_of pid pids s)))) process-lines
      (range_with_len 1 (run program_of pids s).final.last_process)

-- ---- calls

asked-at : (program_of : Bytes → Option Program) (m : Moment) (pid : ℕ) → asked program_of m.state pid ≡ Some m.asked → IsAskedAt m pid
unfolding asked
asked-at program_of m pid is = by (process_at m.state pid) refl is
  where
    of : (p : Process) → process_at m.state pid ≡ Some p → (n : Next) → next p ≡ n → asked_next program_of m.state pid p n ≡ Some m.asked → IsAskedAt m pid
    of p at (inside q) makes is = cc is
    of p at (calls_for call) makes is =
        let same = some-same is in
        record { process = p; call = call; lives = at; makes = makes; line = ap (λ (a : Asked). a.line) (sym same); promises = ap (λ (a : Asked). a.promises) (sym same) }
      where
        some-same : {a b : Asked} → Some a ≡ Some b → a ≡ b
        some-same e = cc e

    by : (o : Option Process) → process_at m.state pid ≡ o → asked_of program_of m.state pid o ≡ Some m.asked → IsAskedAt m pid
    by None at is = cc is
    by (Some p) at is = of p at (next p) refl is

pub call-asked : (program_of : Bytes → Option Program) (pids : List ℕ) (s : State) (pid : ℕ) (process_image : List Moment) (m : Moment) → IsCallOf program_of pids s pid process_image m → IsAskedAt m pid
call-asked program_of pids s pid process_image m is = asked-at program_of m pid (made-in program_of pid pids s process_image m is).asks
