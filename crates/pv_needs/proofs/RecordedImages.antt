-- The records of the process images of a process, with one more call.
use Rattle.std.proofs.Common.{◌≡◌, ◌∙◌, ℕ, Bool, true, false, cond, List, [], ◌∷◌, ◌++◌, map, refl, sym, ap, ap₂}
use Rattle.std.specs.Prelude.{◌==◌}
use Rattle.std.specs.List.{filter, list_any}
use Rattle.std.proofs.lemmas.Grind.{flat_map-append}
use Rattle.std.proofs.lemmas.List.{append-nil, map-append}
use Rattle.std.proofs.lemmas.List.Elements.{filter-append}
use Rattle.pv_model.specs.declared.promise.Promise.{Promise}
use Rattle.pv_model.specs.Machine.{Asked, Judged, same_promise, walks_judged, all_promises}
use Rattle.pv_model.specs.Answers.Needs.{asked_by_one, needing, onto_process_image, process_images}
use Rattle.pv_needs.specs.declared.process_images.RecordedTarget.{RecordedTarget}
use Rattle.pv_needs.specs.declared.process_images.Times.{Times}
use Rattle.pv_needs.specs.ProcessImages.{RecordedImage, call_more, is_ended, recorded_promise, recorded_image, recorded_targets, nothing_asked, once_more, process_more, times_with_need, promises_more, times_of, process_images_at, RecordsCalls, IsProcessMore}
use Rattle.pv_needs.proofs.RecordedTargets.{walks-recorded}
use Rattle.pv_needs.proofs.CallCounts.{times-more}

-- ---- one process image

module _ (process_image : List Asked) (now : Asked) where
  promise-recorded : (p : Promise) → times_with_need p (recorded_promise process_image p) now.promises now.line ≡ recorded_promise (process_image ++ now ∷ []) p
  promise-recorded p =
      by (list_any (same_promise p) now.promises)
      ∙ sym (ap (λ (calls : List Asked). times_of (map (λ a. a.line) calls)) (filter-append (λ (a : Asked). list_any (same_promise p) a.promises) process_image (now ∷ [])))
    where
      by : (b : Bool) → cond b (once_more (recorded_promise process_image p) now.line) (recorded_promise process_image p)
          ≡ times_of (map (λ a. a.line) (needing p process_image ++ cond b (now ∷ []) []))
      by true =
          sym (times-more (map (λ a. a.line) (needing p process_image)) now.line)
          ∙ sym (ap times_of (map-append (λ (a : Asked). a.line) (needing p process_image) (now ∷ [])))
      by false = sym (ap (λ (calls : List Asked). times_of (map (λ a. a.line) calls)) (append-nil (needing p process_image)))

  promises-recorded : (ps : List Promise) → promises_more ps (map (recorded_promise process_image) ps) now.promises now.line ≡ map (recorded_promise (process_image ++ now ∷ [])) ps
  promises-recorded [] = refl
  promises-recorded (p ∷ ps) = ap₂ (λ (x : Times) (xs : List Times). x ∷ xs) (promise-recorded p) (promises-recorded ps)

  walks-after : walks_judged (process_image ++ now ∷ []) ≡ walks_judged process_image ++ map (λ w. (now.line, w)) now.walks
  walks-after =
      flat_map-append (λ (a : Asked). map (λ w. (a.line, w)) a.walks) process_image (now ∷ [])
      ∙ ap (λ (ws : List (ℕ × Judged)). walks_judged process_image ++ ws) (append-nil (map (λ w. (now.line, w)) now.walks))

ended-more : (process_image : List Asked) (now : Asked) → is_ended (process_image ++ now ∷ []) ≡ now.ends_process_image
ended-more [] now = refl
ended-more (a ∷ []) now = refl
ended-more (a ∷ b ∷ rest) now = ended-more (b ∷ rest) now

process_image-recorded : (process_image : List Asked) (now : Asked) → call_more (recorded_image process_image) now ≡ recorded_image (process_image ++ now ∷ [])
process_image-recorded process_image now =
    let promises = promises-recorded process_image now all_promises in
    let targets = walks-recorded now.line now.walks (walks_judged process_image) ∙ sym (ap recorded_targets (walks-after process_image now)) in
    let ended = sym (ended-more process_image now) in
    same (call_more (recorded_image process_image) now) (recorded_image (process_image ++ now ∷ [])) promises targets ended
  where
    same : (x y : RecordedImage) → x.promises ≡ y.promises → x.targets ≡ y.targets → x.ended ≡ y.ended → x ≡ y
    same x y p q r =
        ap (λ (v : List Times). let it : RecordedImage = record { promises = v; targets = x.targets; ended = x.ended } in it) p
        ∙ ap (λ (v : List RecordedTarget). let it : RecordedImage = record { promises = y.promises; targets = v; ended = x.ended } in it) q
        ∙ ap (λ (v : Bool). let it : RecordedImage = record { promises = y.promises; targets = y.targets; ended = v } in it) r

-- ---- the process images of a process

-- a call is added to the current process image or to a new one
abbrev onto_last : List (List Asked) → Asked → List (List Asked)
onto_last [] now = (now ∷ []) ∷ []
onto_last (process_image ∷ []) now = cond (is_ended process_image) (process_image ∷ (now ∷ []) ∷ []) ((process_image ++ now ∷ []) ∷ [])
onto_last (process_image ∷ next ∷ rest) now = process_image ∷ onto_last (next ∷ rest) now

-- each process image has a call
abbrev HaveCalls : List (List Asked) → Type 0
HaveCalls [] = Unit {0}
HaveCalls ([] ∷ rest) = ⊥
HaveCalls ((a ∷ process_image) ∷ rest) = HaveCalls rest

have-calls : (a : Asked) (all : List (List Asked)) → HaveCalls all → HaveCalls (onto_process_image a all)
have-calls a [] have = tt
have-calls a ([] ∷ rest) have = absurd have
have-calls a ((b ∷ process_image) ∷ rest) have = by a.ends_process_image
  where
    by : (b' : Bool) → HaveCalls (cond b' ((a ∷ []) ∷ (b ∷ process_image) ∷ rest) ((a ∷ b ∷ process_image) ∷ rest))
    by true = have
    by false = have

process_images-called : (calls : List Asked) → HaveCalls (process_images calls)
unfolding process_images
process_images-called [] = tt
process_images-called (a ∷ calls) = have-calls a (process_images calls) (process_images-called calls)

abbrev onto_if : Bool → Asked → List (List Asked) → List (List Asked)
onto_if b a [] = (a ∷ []) ∷ []
onto_if b a (process_image ∷ rest) = cond b ((a ∷ []) ∷ process_image ∷ rest) ((a ∷ process_image) ∷ rest)

onto-is : (a : Asked) (all : List (List Asked)) → onto_process_image a all ≡ onto_if a.ends_process_image a all
onto-is a [] = refl
onto-is a (process_image ∷ rest) = refl

-- the case of one process image
module _ (a now : Asked) (process_image : List Asked) where
  abbrev onto_one : Bool → List (List Asked)
  onto_one e = cond e (process_image ∷ (now ∷ []) ∷ []) ((process_image ++ now ∷ []) ∷ [])

  abbrev onto_both : Bool → Bool → List (List Asked)
  onto_both b e = cond b ((a ∷ []) ∷ onto_one e) (cond e ((a ∷ process_image) ∷ (now ∷ []) ∷ []) (((a ∷ process_image) ++ now ∷ []) ∷ []))

  before-one : (b e : Bool) → onto_if b a (onto_one e) ≡ onto_both b e
  before-one true true = refl
  before-one true false = refl
  before-one false true = refl
  before-one false false = refl

-- a call before all others and a call after all others
both-ends : (a now : Asked) (all : List (List Asked)) → HaveCalls all → onto_process_image a (onto_last all now) ≡ onto_last (onto_process_image a all) now
both-ends a now [] have = by a.ends_process_image
  where
    by : (b : Bool) → cond b ((a ∷ []) ∷ (now ∷ []) ∷ []) ((a ∷ now ∷ []) ∷ []) ≡ cond b ((a ∷ []) ∷ (now ∷ []) ∷ []) (((a ∷ []) ++ now ∷ []) ∷ [])
    by true = refl
    by false = refl
both-ends a now ([] ∷ rest) have = absurd have
both-ends a now ((c ∷ process_image) ∷ []) have =
    onto-is a (onto_last ((c ∷ process_image) ∷ []) now) ∙ before-one a now (c ∷ process_image) a.ends_process_image (is_ended (c ∷ process_image)) ∙ by a.ends_process_image
  where
    by : (b : Bool) → onto_both a now (c ∷ process_image) b (is_ended (c ∷ process_image)) ≡ onto_last (cond b ((a ∷ []) ∷ (c ∷ process_image) ∷ []) ((a ∷ c ∷ process_image) ∷ [])) now
    by true = refl
    by false = refl
both-ends a now ((c ∷ process_image) ∷ next ∷ rest) have = by a.ends_process_image
  where
    by : (b : Bool) → cond b ((a ∷ []) ∷ (c ∷ process_image) ∷ onto_last (next ∷ rest) now) ((a ∷ c ∷ process_image) ∷ onto_last (next ∷ rest) now)
        ≡ onto_last (cond b ((a ∷ []) ∷ (c ∷ process_image) ∷ next ∷ rest) ((a ∷ c ∷ process_image) ∷ next ∷ rest)) now
    by true = refl
    by false = refl

process_images-more : (calls : List Asked) (now : Asked) → process_images (calls ++ now ∷ []) ≡ onto_last (process_images calls) now
unfolding process_images
process_images-more [] now = refl
process_images-more (a ∷ calls) now = ap (onto_process_image a) (process_images-more calls now) ∙ both-ends a now (process_images calls) (process_images-called calls)

last-recorded : (all : List (List Asked)) (now : Asked) → map recorded_image (onto_last all now) ≡ process_more (map recorded_image all) now
last-recorded [] now = ap (λ (k : RecordedImage). k ∷ []) (sym (process_image-recorded [] now))
last-recorded (process_image ∷ []) now = by (is_ended process_image)
  where
    by : (e : Bool) → map recorded_image (cond e (process_image ∷ (now ∷ []) ∷ []) ((process_image ++ now ∷ []) ∷ []))
        ≡ cond e (recorded_image process_image ∷ call_more nothing_asked now ∷ []) (call_more (recorded_image process_image) now ∷ [])
    by true = ap (λ (k : RecordedImage). recorded_image process_image ∷ k ∷ []) (sym (process_image-recorded [] now))
    by false = ap (λ (k : RecordedImage). k ∷ []) (sym (process_image-recorded process_image now))
last-recorded (process_image ∷ next ∷ rest) now = ap (λ (ks : List RecordedImage). recorded_image process_image ∷ ks) (last-recorded (next ∷ rest) now)

-- ---- all processes

by-one-more : (all : List (ℕ × Asked)) (q : ℕ) (now : Asked) (pid : ℕ) → asked_by_one (all ++ (q, now) ∷ []) pid ≡ asked_by_one all pid ++ cond (q == pid) (now ∷ []) []
by-one-more all q now pid =
    ap (map (λ a. a.1)) (filter-append (λ (a : ℕ × Asked). a.0 == pid) all ((q, now) ∷ []))
    ∙ map-append (λ (a : ℕ × Asked). a.1) (filter (λ a. a.0 == pid) all) (cond (q == pid) ((q, now) ∷ []) [])
    ∙ ap (λ (calls : List Asked). asked_by_one all pid ++ calls) (by (q == pid))
  where
    by : (b : Bool) → map (λ (a : ℕ × Asked). a.1) (cond b ((q, now) ∷ []) []) ≡ cond b (now ∷ []) []
    by true = refl
    by false = refl

-- one more call of a process
pub keeps-more : (old new : List (List RecordedImage)) (all : List (ℕ × Asked)) (pid : ℕ) (now : Asked) → RecordsCalls old all → IsProcessMore old pid now new → RecordsCalls new (all ++ (pid, now) ∷ [])
keeps-more old new all pid now keeps more other =
    more other ∙ by (pid == other) ∙ sym (ap (λ (calls : List Asked). map recorded_image (process_images calls)) (by-one-more all pid now other))
  where
    by : (b : Bool) → cond b (process_more (process_images_at old other) now) (process_images_at old other) ≡ map recorded_image (process_images (asked_by_one all other ++ cond b (now ∷ []) []))
    by true =
        ap (λ (ks : List RecordedImage). process_more ks now) (keeps other)
        ∙ sym (ap (map recorded_image) (process_images-more (asked_by_one all other) now) ∙ last-recorded (process_images (asked_by_one all other)) now)
    by false = keeps other ∙ sym (ap (λ (calls : List Asked). map recorded_image (process_images calls)) (append-nil (asked_by_one all other)))
