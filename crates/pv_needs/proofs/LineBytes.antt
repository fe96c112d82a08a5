-- Lines, as their fragments are written.
use Rattle.std.proofs.Common.{◌≡◌, ◌∙◌, ℕ, zero, suc, ◌+◌, ◌<◌, ◌≤◌, Bool, cond, List, [], ◌∷◌, ◌++◌, length, take, drop, get_or, codes, refl, sym, ap, ap₂, subst, arith, Option, Result}
use Rattle.std.specs.Prelude.{OnErr, OnOk}
use Rattle.std.specs.Fmt.{decimal}
use Rattle.std.specs.List.{flat_map, zip}
use Rattle.std.proofs.lemmas.Bool.{ne_eqb}
use Rattle.std.proofs.lemmas.Grind.{flat_map-append}
use Rattle.std.proofs.lemmas.List.{append-nil, take-append-drop, take_all, take_more}
use Rattle.pv_model.specs.declared.perms.Perms.{Perms}
use Rattle.pv_model.specs.declared.promise.Promise.{Promise}
use Rattle.pv_model.specs.declared.stream.Failed.{Failed}
use Rattle.pv_model.specs.Machine.{AnswerLine, answer_bytes, answer_line, answer_line_bytes, counted_from, permissions_in_places, Bytes, all_promises, promise_name}
use Rattle.pv_streams.specs.Sinks.{WritesPrefix, and_all}
use Rattle.pv_streams.proofs.OutputTexts.{begins_first, begins_then, written_both}
use Rattle.pv_needs.specs.declared.process_images.RecordedTarget.{RecordedTarget}
use Rattle.pv_needs.specs.declared.process_images.Times.{Times}
use Rattle.pv_needs.specs.RecordedLines.{recorded_promise_lines, recorded_promises_lines, recorded_image_lines, recorded_target_lines, recorded_times_text}
use Rattle.pv_needs.specs.ProcessImages.{RecordedImage}
use Rattle.pv_answers.specs.Texts.{line_front}
use Rattle.pv_answers.proofs.LocationLines.{one-line}

-- the output of a text is the output of an equal text
pub whole-as : (r : Result (Unit {0}) Failed) (before after : Option Bytes) (a b : Bytes) → a ≡ b → OnOk r (after ≡ and_all before a) → OnOk r (after ≡ and_all before b)
whole-as r before after a b same whole = subst (λ (bs : Bytes). OnOk r (after ≡ and_all before bs)) same whole

pub begins-as : (r : Result (Unit {0}) Failed) (before after : Option Bytes) (a b : Bytes) → a ≡ b → OnErr r (WritesPrefix a before after) → OnErr r (WritesPrefix b before after)
begins-as r before after a b same begins = subst (λ (bs : Bytes). OnErr r (WritesPrefix bs before after)) same begins

-- the line of a promise that was needed
pub promise-bytes : (pid : ℕ) (p : Promise) (times : Times) → (times.count ≡ 0 → ⊥)
    → line_front pid (codes "PLDG") ++ (promise_name p ++ recorded_times_text (codes "calls") times) ++ 10 ∷ [] ≡ answer_bytes (recorded_promise_lines pid p times)
promise-bytes pid p times some =
    let line = answer_line pid (codes "PLDG") (promise_name p ++ recorded_times_text (codes "calls") times) in
    one-line pid (codes "PLDG") (promise_name p ++ recorded_times_text (codes "calls") times) ∙ sym (append-nil (answer_line_bytes line))
    ∙ sym (ap (λ (b : Bool). answer_bytes (cond b [] (line ∷ []))) (ne_eqb times.count 0 some))

-- the line of a target
pub target-bytes : (pid : ℕ) (target : RecordedTarget) (permissions : Perms) (words : Bytes) → permissions ≡ target.judged.permissions → words ≡ target.judged.words
    → line_front pid (codes "UNVL") ++ (permissions_in_places permissions ++ codes ", " ++ words ++ recorded_times_text (codes "walks") target.times) ++ 10 ∷ []
    ≡ answer_bytes (recorded_target_lines pid target)
target-bytes pid target permissions words given named =
    ap₂ (λ (p : Perms) (w : Bytes). line_front pid (codes "UNVL") ++ (permissions_in_places p ++ codes ", " ++ w ++ recorded_times_text (codes "walks") target.times) ++ 10 ∷ []) given named
    ∙ one-line pid (codes "UNVL") (permissions_in_places target.judged.permissions ++ codes ", " ++ target.judged.words ++ recorded_times_text (codes "walks") target.times)
    ∙ sym (append-nil (answer_line_bytes (answer_line pid (codes "UNVL") (permissions_in_places target.judged.permissions ++ codes ", " ++ target.judged.words ++ recorded_times_text (codes "walks") target.times))))

-- ---- lines in sequence

bytes-of : {X : Type 0} (g : X → List AnswerLine) (xs ys : List X) → answer_bytes (flat_map g (xs ++ ys)) ≡ answer_bytes (flat_map g xs) ++ answer_bytes (flat_map g ys)
bytes-of g xs ys = ap answer_bytes (flat_map-append g xs ys) ∙ flat_map-append answer_line_bytes (flat_map g xs) (flat_map g ys)

module _ {X : Type 0} (g : X → List AnswerLine) (xs : List X) (k : ℕ) (d : X) (within : k < length xs) where
  bytes-next : answer_bytes (flat_map g (take (k + 1) xs)) ≡ answer_bytes (flat_map g (take k xs)) ++ answer_bytes (g (get_or xs k d))
  bytes-next =
      ap (λ (ys : List X). answer_bytes (flat_map g ys)) (take_more xs k d within) ∙ bytes-of g (take k xs) (get_or xs k d ∷ [])
      ∙ ap (λ (ls : List AnswerLine). answer_bytes (flat_map g (take k xs)) ++ answer_bytes ls) (append-nil (g (get_or xs k d)))

  bytes-all : answer_bytes (flat_map g xs) ≡ (answer_bytes (flat_map g (take k xs)) ++ answer_bytes (g (get_or xs k d))) ++ answer_bytes (flat_map g (drop (k + 1) xs))
  bytes-all =
      ap (λ (ys : List X). answer_bytes (flat_map g ys)) (sym (take-append-drop (k + 1) xs)) ∙ bytes-of g (take (k + 1) xs) (drop (k + 1) xs)
      ∙ ap (λ (bs : Bytes). bs ++ answer_bytes (flat_map g (drop (k + 1) xs))) bytes-next

  -- the lines of another element are written
  pub whole-next : (before mid after : Option Bytes) → mid ≡ and_all before (answer_bytes (flat_map g (take k xs))) → after ≡ and_all mid (answer_bytes (g (get_or xs k d)))
      → after ≡ and_all before (answer_bytes (flat_map g (take (k + 1) xs)))
  whole-next before mid after first then =
      written_both (answer_bytes (flat_map g (take k xs))) (answer_bytes (g (get_or xs k d))) before mid after first then ∙ ap (and_all before) (sym bytes-next)

  -- a prefix of its lines is written
  pub begins-next : (before mid after : Option Bytes) → mid ≡ and_all before (answer_bytes (flat_map g (take k xs))) → WritesPrefix (answer_bytes (g (get_or xs k d))) mid after
      → WritesPrefix (answer_bytes (flat_map g xs)) before after
  begins-next before mid after first then =
      subst (λ (bs : Bytes). WritesPrefix bs before after) (sym bytes-all)
      (begins_first (answer_bytes (flat_map g (take k xs)) ++ answer_bytes (g (get_or xs k d))) (answer_bytes (flat_map g (drop (k + 1) xs))) before after
      (begins_then (answer_bytes (flat_map g (take k xs))) (answer_bytes (g (get_or xs k d))) before mid after first then))

-- all lines are written
pub whole-end : {X : Type 0} (g : X → List AnswerLine) (xs : List X) (k : ℕ) → length xs ≤ k → (before after : Option Bytes)
    → after ≡ and_all before (answer_bytes (flat_map g (take k xs))) → after ≡ and_all before (answer_bytes (flat_map g xs))
whole-end g xs k end before after is = is ∙ ap (λ ys. and_all before (answer_bytes (flat_map g ys))) (take_all k xs end)

pub counted-length : {X : Type 0} (n : ℕ) (xs : List X) → length (counted_from n xs) ≡ length xs
counted-length n [] = refl
counted-length n (x ∷ xs) = ap suc (counted-length (n + 1) xs)

pub counted-at : {X : Type 0} (n : ℕ) (xs : List X) (k : ℕ) (d : X) (e : ℕ × X) → k < length xs → get_or (counted_from n xs) k e ≡ (n + k, get_or xs k d)
counted-at n [] k d e within = absurd (omega arith)
counted-at n (x ∷ xs) zero d e within = let same : n ≡ n + 0 = omega arith in ap (λ m. (m, x)) same
counted-at n (x ∷ xs) (suc k) d e within =
    let more : (n + 1) + k ≡ n + suc k = omega arith in counted-at (n + 1) xs k d e (omega arith) ∙ ap (λ m. (m, get_or xs k d)) more

pub zip-length : {X Y : Type 0} (xs : List X) (ys : List Y) → length ys ≡ length xs → length (zip xs ys) ≡ length xs
zip-length [] ys same = refl
zip-length (x ∷ xs) [] same = absurd (omega arith)
zip-length (x ∷ xs) (y ∷ ys) same = ap suc (zip-length xs ys (omega arith))

pub zip-at : {X Y : Type 0} (xs : List X) (ys : List Y) (k : ℕ) (d : X) (e : Y) (f : X × Y) → length ys ≡ length xs → k < length xs → get_or (zip xs ys) k f ≡ (get_or xs k d, get_or ys k e)
zip-at [] ys k d e f same within = absurd (omega arith)
zip-at (x ∷ xs) [] k d e f same within = absurd (omega arith)
zip-at (x ∷ xs) (y ∷ ys) zero d e f same within = refl
zip-at (x ∷ xs) (y ∷ ys) (suc k) d e f same within = zip-at xs ys k d e f (omega arith) (omega arith)

-- a process image: its first line, those of promises, and those of targets
pub process_image-bytes : (pid k : ℕ) (process_image : RecordedImage) (counts : List Times) (targets : List RecordedTarget) → counts ≡ process_image.promises → targets ≡ process_image.targets
    → ((line_front pid (codes "STNT") ++ decimal k ++ 10 ∷ []) ++ answer_bytes (recorded_promises_lines pid all_promises counts)) ++ answer_bytes (flat_map (recorded_target_lines pid) targets)
    ≡ answer_bytes (recorded_image_lines pid (k, process_image))
process_image-bytes pid k process_image counts targets given there =
    ap₂ (λ (cs : List Times) (ts : List RecordedTarget).
    ((line_front pid (codes "STNT") ++ decimal k ++ 10 ∷ []) ++ answer_bytes (recorded_promises_lines pid all_promises cs)) ++ answer_bytes (flat_map (recorded_target_lines pid) ts)) given there
    ∙ ap (λ (bs : Bytes). (bs ++ answer_bytes (recorded_promises_lines pid all_promises process_image.promises)) ++ answer_bytes (flat_map (recorded_target_lines pid) process_image.targets))
    (one-line pid (codes "STNT") (decimal k))
    ∙ sym (flat_map-append answer_line_bytes (answer_line pid (codes "STNT") (decimal k) ∷ recorded_promises_lines pid all_promises process_image.promises) (flat_map (recorded_target_lines pid) process_image.targets))

-- numbering from 1 and from 0
pub counted-one : {X : Type 0} (xs : List X) (k : ℕ) (x : X) (e : ℕ × X) → k < length xs → x ≡ get_or xs k x → get_or (counted_from 1 xs) k e ≡ (k + 1, x)
counted-one {X = X} xs k x e within is =
    let same : 1 + k ≡ k + 1 = omega arith in counted-at 1 xs k x e within ∙ ap₂ (λ (n : ℕ) (y : X). (n, y)) same (sym is)

pub counted-zero : {X : Type 0} (xs : List X) (k : ℕ) (x : X) (e : ℕ × X) → k < length xs → x ≡ get_or xs k x → get_or (counted_from 0 xs) k e ≡ (k, x)
counted-zero {X = X} xs k x e within is =
    let same : 0 + k ≡ k = omega arith in counted-at 0 xs k x e within ∙ ap₂ (λ (n : ℕ) (y : X). (n, y)) same (sym is)
