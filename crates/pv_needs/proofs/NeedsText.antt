-- The texts of the records are the texts of the demands.
use Rattle.std.proofs.Common.{◌≡◌, ◌∙◌, ℕ, zero, suc, ◌+◌, ◌*◌, ◌<◌, ◌≤◌, Bool, true, false, List, [], ◌∷◌, ◌++◌, length, map, refl, sym, ap, ap₂, add-zero, zero-add, arith}
use Rattle.std.specs.List.{AllByRecursion, flat_map, range_with_len}
use Rattle.pv_model.specs.Machine.{AnswerLine, counted_from, Asked, asked, program_of, State, run, step}
use Rattle.pv_model.specs.Answers.Needs.{and_asked, asked_by_one, asked_in, needs_lines, needs_of_all, needs_of_process, process_image_lines, process_images}
use Rattle.pv_laws_states.specs.States.{IsValid}
use Rattle.pv_needs.specs.declared.process_images.TheConstants.{MANY}
use Rattle.pv_needs.specs.Granted.{demands_in, lines_of_demands}
use Rattle.pv_needs.specs.RecordedLines.{recorded_lines, recorded_process_lines}
use Rattle.pv_needs.specs.ProcessImages.{RecordedImage, RecordsCalls, recorded_image, process_images_at}
use Rattle.pv_needs.proofs.ImageBounds.{Each, each-few}
use Rattle.pv_needs.proofs.RecordedLines.{process-lines}
use Rattle.pv_needs.proofs.CallerNumbers.{IsAsked, asked-fewer, each-asked, none-asked}

-- ---- numbers in sequence

module _ {X : Type 0} (g : ℕ → List X) where
  over : ℕ → ℕ → List X
  over n k = flat_map g (range_with_len n k)

  -- nothing is written for numbers from one on
  silent : (n k : ℕ) → ((m : ℕ) → n ≤ m → g m ≡ []) → flat_map g (range_with_len n k) ≡ []
  silent n zero none = refl
  silent n (suc k) none =
      ap (λ (ls : List X). ls ++ flat_map g (range_with_len (n + 1) k)) (none n (omega arith))
      ∙ silent (n + 1) k (λ m more. none m (omega (arith, more)))

  longer : (n k j : ℕ) → ((m : ℕ) → n + k ≤ m → g m ≡ []) → flat_map g (range_with_len n (k + j)) ≡ flat_map g (range_with_len n k)
  longer n zero j none = ap (λ i. flat_map g (range_with_len n i)) (zero-add j) ∙ silent n j (λ m more. none m (omega (arith, more)))
  longer n (suc k) j none =
      let more : suc k + j ≡ suc (k + j) = omega arith in
      ap (λ i. flat_map g (range_with_len n i)) more
      ∙ ap (λ (ls : List X). g n ++ ls) (longer (n + 1) k j (λ m far. none m (omega (arith, far))))

  -- from 0 on, and from 1 on
  both-ranges : (count last : ℕ) → g 0 ≡ [] → ((m : ℕ) → count ≤ m → g m ≡ []) → ((m : ℕ) → suc last ≤ m → g m ≡ [])
      → flat_map g (range_with_len 0 count) ≡ flat_map g (range_with_len 1 last)
  both-ranges count last first past beyond =
      let sum : count + suc last ≡ suc last + count = omega arith in
      sym (longer 0 count (suc last) (λ m far. past m (omega (arith, far))))
      ∙ ap (λ i. flat_map g (range_with_len 0 i)) sum
      ∙ longer 0 (suc last) count (λ m far. beyond m (omega (arith, far)))
      ∙ ap (λ (ls : List X). ls ++ flat_map g (range_with_len 1 last)) first

-- ---- the processes

at-list : (xs : List (List RecordedImage)) (k : ℕ) → length xs ≤ k → process_images_at xs k ≡ []
at-list [] k past = refl
at-list (x ∷ xs) zero past = absurd (omega arith)
at-list (x ∷ xs) (suc k) past = at-list xs k (omega arith)

-- the lines of process images, and those of their records
module _ (all : List (ℕ × Asked)) (few : (pid : ℕ) → Each MANY MANY (process_images (asked_by_one all pid))) where
  abbrev of-process : ℕ → List AnswerLine
  of-process pid = needs_of_process all pid

  abbrev of-records : ℕ × List RecordedImage → List AnswerLine
  of-records e = recorded_process_lines e.0 e.1

  one-process : (pid : ℕ) (recorded : List RecordedImage) → recorded ≡ map recorded_image (process_images (asked_by_one all pid)) → of-records (pid, recorded) ≡ of-process pid
  one-process pid recorded is = ap (λ images. of-records (pid, images)) is ∙ sym (process-lines pid 1 (process_images (asked_by_one all pid)) (few pid))

  -- each list under its number
  from-number : (xs : List (List RecordedImage)) (n : ℕ) → ((k : ℕ) → k < length xs → process_images_at xs k ≡ map recorded_image (process_images (asked_by_one all (n + k))))
      → flat_map of-records (counted_from n xs) ≡ flat_map of-process (range_with_len n (length xs))
  from-number [] n keeps = refl
  from-number (x ∷ xs) n keeps =
      ap₂ (λ (a b : List AnswerLine). a ++ b)
      (one-process n x (keeps 0 (omega arith) ∙ ap (λ m. map recorded_image (process_images (asked_by_one all m))) (add-zero n)))
      (from-number xs (n + 1) (λ k within.
      let more : n + suc k ≡ (n + 1) + k = omega arith in keeps (suc k) (omega (arith, within)) ∙ ap (λ m. map recorded_image (process_images (asked_by_one all m))) more))

  unsaid : (pid : ℕ) → process_images (asked_by_one all pid) ≡ [] → of-process pid ≡ []
  unsaid pid none = ap (λ (ss : List (List Asked)). flat_map (process_image_lines pid) (counted_from 1 ss)) none

  no-process_images : (ss : List (List Asked)) → map recorded_image ss ≡ [] → ss ≡ []
  no-process_images [] is = refl
  no-process_images (x ∷ xs) is = cc is

  all-processes : (recorded : List (List RecordedImage)) (last : ℕ) → RecordsCalls recorded all → AllByRecursion (IsAsked last) all
      → flat_map of-records (counted_from 0 recorded) ≡ flat_map of-process (range_with_len 1 last)
  unfolding process_images
  all-processes recorded last keeps each =
      from-number recorded 0 (λ k within. keeps k ∙ ap (λ m. map recorded_image (process_images (asked_by_one all m))) (sym (zero-add k)))
      ∙ both-ranges of-process (length recorded) last
      (unsaid 0 (ap process_images (none-asked last 0 all each (λ bad. omega (arith, bad.0)))))
      (λ m past. unsaid m (no-process_images (process_images (asked_by_one all m)) (sym (keeps m) ∙ at-list recorded m past)))
      (λ m beyond. unsaid m (ap process_images (none-asked last m all each (λ bad. omega (arith, bad.1, beyond)))))

weaker : (last : ℕ) (all : List (ℕ × Asked)) → AllByRecursion (IsAsked last) all → AllByRecursion (λ (a : ℕ × Asked). length a.1.walks ≤ 2) all
weaker last [] each = tt
weaker last (a ∷ all) each = (each.0.walks, weaker last all each.1)

-- if all calls count, the demands are those of the definition
all-demands : (pids : List ℕ) (s : State) → demands_in false program_of pids s ≡ asked_in program_of pids s
all-demands [] s = refl
all-demands (pid ∷ pids) s = ap (and_asked program_of pid (asked program_of s pid)) (all-demands pids (step program_of s pid).after)

by-definition : (pids : List ℕ) (s : State) (granted : Bool)
    → needs_of_all (demands_in granted program_of pids s) (run program_of pids s).final.last_process ≡ lines_of_demands program_of granted pids s
unfolding needs_lines
by-definition pids s true = refl
by-definition pids s false = ap (λ all. needs_of_all all (run program_of pids s).final.last_process) (all-demands pids s)

module _ (granted : Bool) (pids : List ℕ) (s : State) (recorded : List (List RecordedImage)) (whole : IsValid s) (short : 2 * length pids ≤ MANY)
    (keeps : RecordsCalls recorded (demands_in granted program_of pids s)) where
  few : (pid : ℕ) → Each MANY MANY (process_images (asked_by_one (demands_in granted program_of pids s) pid))
  few pid =
      let fewer = asked-fewer granted pids s in
      each-few pid (demands_in granted program_of pids s) MANY
      (weaker (run program_of pids s).final.last_process (demands_in granted program_of pids s) (each-asked granted pids s whole)) (omega (arith, fewer, short))

  lines-of : recorded_lines recorded ≡ needs_of_all (demands_in granted program_of pids s) (run program_of pids s).final.last_process
  lines-of =
      all-processes (demands_in granted program_of pids s) few recorded (run program_of pids s).final.last_process keeps (each-asked granted pids s whole)

  -- the text of the records of a run is the text of its demands
  pub needs-reported : recorded_lines recorded ≡ lines_of_demands program_of granted pids s
  needs-reported = lines-of ∙ by-definition pids s granted
