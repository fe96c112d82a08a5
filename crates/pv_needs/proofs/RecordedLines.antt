-- The lines of the records are those of the demands.
use Rattle.std.proofs.Common.{◌≡◌, ◌∙◌, ℕ, suc, ◌+◌, ◌≤◌, Bool, false, cond, List, [], ◌∷◌, ◌++◌, length, map, codes, refl, sym, ap, ap₂, arith}
use Rattle.std.specs.Fmt.{decimal}
use Rattle.std.specs.Prelude.{◌==◌, min}
use Rattle.std.specs.List.{flat_map, list_any}
use Rattle.std.proofs.lemmas.List.{length-map, map-append}
use Rattle.std.proofs.Math.Nat.{min-eq_left}
use Rattle.std.proofs.Math.Dec.{eqb-suc-zero}
use Rattle.pv_model.specs.declared.promise.Promise.{Promise}
use Rattle.pv_model.specs.Machine.{AnswerLine, answer_line, counted_from, permissions_in_places, Asked, Judged, same_judged, same_promise, walks_judged, walks_to, Bytes, all_promises, promise_name}
use Rattle.pv_model.specs.Answers.Needs.{last_of, needing, permissions_asked, promise_texts_of, process_image_lines, target_text, targets_in, times_text}
use Rattle.pv_needs.specs.declared.process_images.TheConstants.{MANY}
use Rattle.pv_needs.specs.RecordedLines.{recorded_promise_lines, recorded_promises_lines, recorded_image_lines, recorded_target_lines, recorded_times_text}
use Rattle.pv_needs.specs.ProcessImages.{recorded_promise, recorded_image, recorded_target, times_of}
use Rattle.pv_needs.proofs.ImageBounds.{AreFew, Each}
use Rattle.pv_laws_trees.proofs.ListTests.{filter-fewer}

times-few : (what : Bytes) (lines : List ℕ) → length lines ≤ MANY → recorded_times_text what (times_of lines) ≡ times_text what lines
times-few what lines few = ap (λ n. codes ", " ++ what ++ codes " " ++ decimal n ++ codes ", last line " ++ decimal (last_of 0 lines)) (min-eq_left few)

-- ---- promises

module _ (pid : ℕ) (process_image : List Asked) (few : length process_image ≤ MANY) where
  some-counted : (n : ℕ) → suc n ≤ MANY → (min (suc n) MANY == 0) ≡ false
  some-counted n within = ap (λ (m : ℕ). m == 0) (min-eq_left within) ∙ eqb-suc-zero n

  promise-lines : (p : Promise) (calls : List Asked) → length calls ≤ MANY
      → map (answer_line pid (codes "PLDG")) (promise_texts_of p calls) ≡ recorded_promise_lines pid p (times_of (map (λ (a : Asked). a.line) calls))
  promise-lines p [] within = refl
  promise-lines p (now ∷ rest) within =
      let lines = map (λ (a : Asked). a.line) (now ∷ rest) in
      let same : length lines ≡ suc (length rest) = length-map (now ∷ rest) (λ (a : Asked). a.line) in
      let fits : length lines ≤ MANY = rw same within in
      ap (λ (text : Bytes). answer_line pid (codes "PLDG") (promise_name p ++ text) ∷ []) (sym (times-few (codes "calls") lines fits))
      ∙ sym (ap (λ (b : Bool). cond b [] (answer_line pid (codes "PLDG") (promise_name p ++ recorded_times_text (codes "calls") (times_of lines)) ∷ []))
      (some-counted (length (map (λ (a : Asked). a.line) rest)) fits))

  promises-lines : (ps : List Promise)
      → map (answer_line pid (codes "PLDG")) (flat_map (λ p. promise_texts_of p (needing p process_image)) ps) ≡ recorded_promises_lines pid ps (map (recorded_promise process_image) ps)
  promises-lines [] = refl
  promises-lines (p ∷ ps) =
      map-append (answer_line pid (codes "PLDG")) (promise_texts_of p (needing p process_image)) (flat_map (λ q. promise_texts_of q (needing q process_image)) ps)
      ∙ ap₂ (λ (xs ys : List AnswerLine). xs ++ ys) (promise-lines p (needing p process_image) (needing-few p)) (promises-lines ps)
    where
      needing-few : (p : Promise) → length (needing p process_image) ≤ MANY
      needing-few p = let fewer = filter-fewer (λ (a : Asked). list_any (same_promise p) a.promises) process_image in omega (arith, fewer)

-- ---- targets

module _ (pid : ℕ) (ws : List (ℕ × Judged)) (few : length ws ≤ MANY) where
  target-lines : (t : Judged) → answer_line pid (codes "UNVL") (target_text t (walks_to t ws)) ∷ [] ≡ recorded_target_lines pid (recorded_target ws t)
  target-lines t =
      let there = walks_to t ws in
      let lines = map (λ (w : ℕ × Judged). w.0) there in
      let fewer = filter-fewer (λ (w : ℕ × Judged). same_judged t w.1) ws in
      let same : length lines ≡ length there = length-map there (λ (w : ℕ × Judged). w.0) in
      let fits : length lines ≤ MANY = omega arith in
      ap (λ (text : Bytes). answer_line pid (codes "UNVL") (permissions_in_places (permissions_asked there) ++ codes ", " ++ t.words ++ text) ∷ []) (sym (times-few (codes "walks") lines fits))

  targets-lines : (ts : List Judged)
      → map (answer_line pid (codes "UNVL")) (map (λ t. target_text t (walks_to t ws)) ts) ≡ flat_map (recorded_target_lines pid) (map (recorded_target ws) ts)
  targets-lines [] = refl
  targets-lines (t ∷ ts) = ap₂ (λ (xs ys : List AnswerLine). xs ++ ys) (target-lines t) (targets-lines ts)

-- ---- process images

process_image-lines : (pid k : ℕ) (process_image : List Asked) → AreFew MANY MANY process_image → process_image_lines pid (k, process_image) ≡ recorded_image_lines pid (k, recorded_image process_image)
process_image-lines pid k process_image few =
    ap₂ (λ (xs ys : List AnswerLine). answer_line pid (codes "STNT") (decimal k) ∷ xs ++ ys) (promises-lines pid process_image few.few_calls all_promises)
    (targets-lines pid (walks_judged process_image) few.few_walks (targets_in (walks_judged process_image)))

-- the lines of the process images of a process
pub process-lines : (pid k : ℕ) (all : List (List Asked)) → Each MANY MANY all
    → flat_map (process_image_lines pid) (counted_from k all) ≡ flat_map (recorded_image_lines pid) (counted_from k (map recorded_image all))
process-lines pid k [] few = refl
process-lines pid k (process_image ∷ rest) few =
    ap₂ (λ (xs ys : List AnswerLine). xs ++ ys) (process_image-lines pid k process_image few.0) (process-lines pid (k + 1) rest few.1)
