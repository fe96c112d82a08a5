-- The records in lists, by index.
use Rattle.std.proofs.Common.{◌≡◌, ◌∙◌, ℕ, zero, suc, ◌+◌, ◌-◌, ◌<◌, Bool, true, false, cond, List, [], ◌∷◌, ◌++◌, length, take, get_or, slice_get, slice_set, Option, None, Some, option_map, refl, sym, ap, ap₂, subst, add-one, arith}
use Rattle.std.specs.List.{cons_option, list_any, position_from}
use Rattle.std.specs.Prelude.{◌==◌, option_to_list}
use Rattle.std.proofs.lemmas.Bool.{eqb-false, eqb-true}
use Rattle.std.proofs.lemmas.Iterator.Adapters.{position_from-zero}
use Rattle.std.proofs.lemmas.List.Quantifiers.{position-Some}
use Rattle.pv_model.specs.declared.promise.Promise.{Promise}
use Rattle.pv_model.specs.Machine.{Asked, Judged, same_judged, same_promise}
use Rattle.pv_needs.specs.declared.process_images.RecordedTarget.{RecordedTarget}
use Rattle.pv_needs.specs.declared.process_images.Times.{Times}
use Rattle.pv_needs.specs.ProcessImages.{RecordedImage, IsProcessMore, call_more, first_recorded_walk, index_of, nothing_asked, once_more, current_image_index, process_more, times_with_need, promises_more, process_images_at, target_with_walk, index_unless, walk_more, walks_more}

-- ---- promises

-- the count of the next promise follows those of the earlier ones
pub promises-step : (ps : List Promise) (ts : List Times) (needed : List Promise) (line k : ℕ) (p : Promise) (t : Times) → k < length ps → k < length ts
    → promises_more (take (k + 1) ps) ts needed line
    ≡ slice_set (promises_more (take k ps) ts needed line) k (times_with_need (get_or ps k p) (get_or (promises_more (take k ps) ts needed line) k t) needed line)
promises-step ps ts needed line k p t within inside = ap (λ n. promises_more (take n ps) ts needed line) (add-one k) ∙ by ps ts k within inside
  where
    by : (ps : List Promise) (ts : List Times) (k : ℕ) → k < length ps → k < length ts
        → promises_more (take (suc k) ps) ts needed line
        ≡ slice_set (promises_more (take k ps) ts needed line) k (times_with_need (get_or ps k p) (get_or (promises_more (take k ps) ts needed line) k t) needed line)
    by [] ts k within inside = absurd (omega arith)
    by (q ∷ ps) [] k within inside = absurd (omega arith)
    by (q ∷ ps) (u ∷ ts) zero within inside = refl
    by (q ∷ ps) (u ∷ ts) (suc k) within inside = ap (λ (xs : List Times). times_with_need q u needed line ∷ xs) (by ps ts k (omega arith) (omega arith))

pub set-same : {X : Type 0} (xs : List X) (k : ℕ) (d : X) → slice_set xs k (get_or xs k d) ≡ xs
set-same [] k d = refl
set-same (x ∷ xs) zero d = refl
set-same (x ∷ xs) (suc k) d = ap (λ ys. x ∷ ys) (set-same xs k d)

-- the count of a promise changes if and only if the promise was needed
pub promise-next : (ps : List Promise) (ts : List Times) (needed : List Promise) (line k : ℕ) (p : Promise) (t : Times) (now next : List Times) (b : Bool)
    → now ≡ promises_more (take k ps) ts needed line → k < length ps → k < length ts → b ≡ list_any (same_promise (get_or ps k p)) needed
    → next ≡ cond b (slice_set now k (once_more (get_or now k t) line)) now → next ≡ promises_more (take (k + 1) ps) ts needed line
promise-next ps ts needed line k p t now next b at within inside is on =
    on ∙ by b
    ∙ ap (λ (c : Bool). slice_set now k (cond c (once_more (get_or now k t) line) (get_or now k t))) is
    ∙ ap (λ (xs : List Times). slice_set xs k (times_with_need (get_or ps k p) (get_or xs k t) needed line)) at
    ∙ sym (promises-step ps ts needed line k p t within inside)
  where
    by : (b : Bool) → cond b (slice_set now k (once_more (get_or now k t) line)) now ≡ slice_set now k (cond b (once_more (get_or now k t) line) (get_or now k t))
    by true = refl
    by false = sym (set-same now k t)

-- ---- walks

module _ (line : ℕ) (w : Judged) where
  walk-at : (ts : List RecordedTarget) (k : ℕ) (d : RecordedTarget) → k < length ts → same_judged (get_or ts k d).judged w ≡ true
      → ((j : ℕ) → j < k → same_judged (get_or ts j d).judged w ≡ false) → walk_more ts line w ≡ slice_set ts k (target_with_walk (get_or ts k d) line w.permissions)
  walk-at [] k d within here before = absurd (omega arith)
  walk-at (t ∷ ts) zero d within here before =
      ap (λ (b : Bool). cond b (target_with_walk t line w.permissions ∷ ts) (t ∷ walk_more ts line w)) here
  walk-at (t ∷ ts) (suc k) d within here before =
      ap (λ (b : Bool). cond b (target_with_walk t line w.permissions ∷ ts) (t ∷ walk_more ts line w)) (before 0 (omega arith))
      ∙ ap (λ (xs : List RecordedTarget). t ∷ xs) (walk-at ts k d (omega arith) here (λ j below. before (suc j) (omega arith)))

  pub walk-there : (ts : List RecordedTarget) (k : ℕ) (d : RecordedTarget) → index_of ts w ≡ Some k
      → (k < length ts) × (walk_more ts line w ≡ slice_set ts k (target_with_walk (get_or ts k d) line w.permissions))
  walk-there ts k d is =
      let found = position-Some (λ (target : RecordedTarget). same_judged target.judged w) ts k d is in
      (found.0, walk-at ts k d found.0 found.1 found.2)

  walk-none : (ts : List RecordedTarget) (n : ℕ) → position_from (λ (target : RecordedTarget). same_judged target.judged w) n ts ≡ None
      → walk_more ts line w ≡ ts ++ first_recorded_walk line w ∷ []
  walk-none [] n none = refl
  walk-none (t ∷ ts) n none = by (same_judged t.judged w) none (walk-none ts (n + 1))
    where
      by : (b : Bool) → cond b (Some n) (position_from (λ (target : RecordedTarget). same_judged target.judged w) (n + 1) ts) ≡ None
          → (position_from (λ (target : RecordedTarget). same_judged target.judged w) (n + 1) ts ≡ None → walk_more ts line w ≡ ts ++ first_recorded_walk line w ∷ [])
          → cond b (target_with_walk t line w.permissions ∷ ts) (t ∷ walk_more ts line w) ≡ t ∷ (ts ++ first_recorded_walk line w ∷ [])
      by true is rest = absurd (cc)
      by false is rest = ap (λ (xs : List RecordedTarget). t ∷ xs) (rest is)

  pub walk-new : (ts : List RecordedTarget) → index_of ts w ≡ None → walk_more ts line w ≡ ts ++ first_recorded_walk line w ∷ []
  walk-new ts none = walk-none ts 0 (sym (position_from-zero (λ (target : RecordedTarget). same_judged target.judged w) ts) ∙ none)

-- two walks in sequence
pub both-walks : (ts : List RecordedTarget) (line : ℕ) (first second : Option Judged)
    → walks_more (walks_more ts line (option_to_list first)) line (option_to_list second) ≡ walks_more ts line (cons_option first (cons_option second []))
both-walks ts line None None = refl
both-walks ts line None (Some w) = refl
both-walks ts line (Some v) None = refl
both-walks ts line (Some v) (Some w) = refl

-- ---- process images

last-one : RecordedImage → List RecordedImage → RecordedImage
last-one s [] = s
last-one s (t ∷ rest) = last-one t rest

record EndsIn (s : RecordedImage) (rest : List RecordedImage) (n : ℕ) (last : RecordedImage) : Type 0 where
  there : slice_get (s ∷ rest) n ≡ Some last
  opened : current_image_index (s ∷ rest) ≡ index_unless last.ended n

ends-in : (s : RecordedImage) (rest : List RecordedImage) → (last : RecordedImage) × EndsIn s rest (length rest) last
ends-in s [] = (s, record { there = refl; opened = refl })
ends-in s (t ∷ rest) =
    let more = ends-in t rest in
    (more.0, record { there = more.1.there; opened = ap (option_map suc) more.1.opened ∙ suc_unless more.0.ended (length rest) })
  where
    suc_unless : (b : Bool) (n : ℕ) → option_map suc (index_unless b n) ≡ index_unless b (suc n)
    suc_unless true n = refl
    suc_unless false n = refl

-- the last process image, if there is one
pub open-last : (process_images : List RecordedImage) (last : RecordedImage) → slice_get process_images (length process_images - 1) ≡ Some last → current_image_index process_images ≡ index_unless last.ended (length process_images - 1)
open-last [] last is = absurd (cc)
open-last (s ∷ rest) last is =
    let ends = ends-in s rest in
    let at : length (s ∷ rest) - 1 ≡ length rest = omega arith in
    let here : slice_get (s ∷ rest) (length rest) ≡ Some last = subst (λ n. slice_get (s ∷ rest) n ≡ Some last) at is in
    let there = ends.1.there in
    let same : ends.0 ≡ last = cc in
    ends.1.opened ∙ ap₂ (λ (t : RecordedImage) (n : ℕ). index_unless t.ended n) same (sym at)

pub open-none : (process_images : List RecordedImage) → slice_get process_images (length process_images - 1) ≡ None → current_image_index process_images ≡ None
open-none [] is = refl
open-none (s ∷ rest) is =
    let ends = ends-in s rest in
    let at : length (s ∷ rest) - 1 ≡ length rest = omega arith in
    let here : slice_get (s ∷ rest) (length rest) ≡ None = subst (λ n. slice_get (s ∷ rest) n ≡ None) at is in
    let there = ends.1.there in
    absurd (cc)

module _ (now : Asked) where
  on-one : (s : RecordedImage) (b : Bool) (k : ℕ) (d : RecordedImage) → index_unless b 0 ≡ Some k
      → (k < 1) × (cond b (s ∷ call_more nothing_asked now ∷ []) (call_more s now ∷ []) ≡ slice_set (s ∷ []) k (call_more (get_or (s ∷ []) k d) now))
  on-one s true k d is = absurd (cc)
  on-one s false zero d is = (omega arith, refl)
  on-one s false (suc k) d is = absurd (cc)

  -- the current process image
  pub process-open : (process_images : List RecordedImage) (k : ℕ) (d : RecordedImage) → current_image_index process_images ≡ Some k
      → (k < length process_images) × (process_more process_images now ≡ slice_set process_images k (call_more (get_or process_images k d) now))
  process-open [] k d is = absurd (cc)
  process-open (s ∷ []) k d is = on-one s s.ended k d is
  process-open (s ∷ t ∷ rest) zero d is = absurd (never (current_image_index (t ∷ rest)) is)
    where
      never : (o : Option ℕ) → option_map suc o ≡ Some 0 → ⊥
      never None is = cc
      never (Some n) is = cc
  process-open (s ∷ t ∷ rest) (suc k) d is =
      let more = process-open (t ∷ rest) k d (back (current_image_index (t ∷ rest)) is) in
      (omega (arith, more.0), ap (λ (xs : List RecordedImage). s ∷ xs) more.1)
    where
      back : (o : Option ℕ) → option_map suc o ≡ Some (suc k) → o ≡ Some k
      back None is = cc
      back (Some n) is = let e : n ≡ k = cc in ap Some e

  begins : (s : RecordedImage) (b : Bool) → index_unless b 0 ≡ None → cond b (s ∷ call_more nothing_asked now ∷ []) (call_more s now ∷ []) ≡ s ∷ call_more nothing_asked now ∷ []
  begins s true is = refl
  begins s false is = absurd (cc)

  -- a new process image
  pub process-new : (process_images : List RecordedImage) → current_image_index process_images ≡ None → process_more process_images now ≡ process_images ++ call_more nothing_asked now ∷ []
  process-new [] is = refl
  process-new (s ∷ []) is = begins s s.ended is
  process-new (s ∷ t ∷ rest) is = ap (λ (xs : List RecordedImage). s ∷ xs) (process-new (t ∷ rest) (back (current_image_index (t ∷ rest)) is))
    where
      back : (o : Option ℕ) → option_map suc o ≡ None → o ≡ None
      back None is = refl
      back (Some n) is = cc

-- ---- processes

at-same : (xs : List (List RecordedImage)) (k : ℕ) (v : List RecordedImage) → k < length xs → process_images_at (slice_set xs k v) k ≡ v
at-same [] k v within = absurd (omega arith)
at-same (x ∷ xs) zero v within = refl
at-same (x ∷ xs) (suc k) v within = at-same xs k v (omega arith)

at-other : (xs : List (List RecordedImage)) (k q : ℕ) (v : List RecordedImage) → (k ≡ q → ⊥) → process_images_at (slice_set xs k v) q ≡ process_images_at xs q
at-other [] k q v apart = refl
at-other (x ∷ xs) zero zero v apart = absurd (apart refl)
at-other (x ∷ xs) zero (suc q) v apart = refl
at-other (x ∷ xs) (suc k) zero v apart = refl
at-other (x ∷ xs) (suc k) (suc q) v apart = at-other xs k q v (λ same. apart (ap suc same))

at-get : (xs : List (List RecordedImage)) (k : ℕ) (d : List RecordedImage) → k < length xs → get_or xs k d ≡ process_images_at xs k
at-get [] k d within = absurd (omega arith)
at-get (x ∷ xs) zero d within = refl
at-get (x ∷ xs) (suc k) d within = at-get xs k d (omega arith)

-- one process has another list; the others keep theirs
pub process-set : (old grown : List (List RecordedImage)) (pid : ℕ) (now : Asked) (mine d : List RecordedImage) → ((q : ℕ) → process_images_at grown q ≡ process_images_at old q) → pid < length grown
    → mine ≡ process_more (get_or grown pid d) now → IsProcessMore old pid now (slice_set grown pid mine)
process-set old grown pid now mine d same within is other = by (pid == other) refl
  where
    by : (b : Bool) → (pid == other) ≡ b → process_images_at (slice_set grown pid mine) other ≡ cond b (process_more (process_images_at old other) now) (process_images_at old other)
    by true at =
        let here = eqb-true pid other at in
        ap (process_images_at (slice_set grown pid mine)) (sym here) ∙ at-same grown pid mine within ∙ is
        ∙ ap (λ (xs : List RecordedImage). process_more xs now) (at-get grown pid d within ∙ same pid ∙ ap (process_images_at old) here)
    by false at = at-other grown pid other mine (eqb-false pid other at) ∙ same other
