-- Bounds of process images.
use Rattle.std.proofs.Common.{◌≡◌, ℕ, suc, ◌+◌, ◌*◌, ◌≤◌, Bool, true, false, cond, List, [], ◌∷◌, length, map, sym, ap, subst, ◌∙◌, length-append, arith}
use Rattle.std.specs.Prelude.{◌==◌}
use Rattle.std.specs.List.{AllByRecursion, filter}
use Rattle.std.proofs.lemmas.List.{length-map}
use Rattle.pv_model.specs.Machine.{Asked, Judged, walks_judged}
use Rattle.pv_model.specs.Answers.Needs.{asked_by_one, onto_process_image, process_images}
use Rattle.pv_laws_trees.proofs.ListTests.{filter-fewer}

-- there are at most this many calls and walks
pub record AreFew (calls walks : ℕ) (process_image : List Asked) : Type 0 where
  pub few_calls : length process_image ≤ calls
  pub few_walks : length (walks_judged process_image) ≤ walks

abbrev pub Each : ℕ → ℕ → List (List Asked) → Type 0
Each calls walks all = AllByRecursion (AreFew calls walks) all

more : (calls walks k n : ℕ) (all : List (List Asked)) → calls ≤ k → walks ≤ n → Each calls walks all → Each k n all
more calls walks k n [] far wide each = tt
more calls walks k n (process_image ∷ rest) far wide each =
    (record { few_calls = omega (arith, each.0.few_calls, far); few_walks = omega (arith, each.0.few_walks, wide) }, more calls walks k n rest far wide each.1)

walks-onto : (now : Asked) (process_image : List Asked) → length (walks_judged (now ∷ process_image)) ≡ length now.walks + length (walks_judged process_image)
walks-onto now process_image = length-append (map (λ w. (now.line, w)) now.walks) (walks_judged process_image) ∙ ap (λ n. n + length (walks_judged process_image)) (length-map now.walks (λ (w : Judged). (now.line, w)))

each-onto : (now : Asked) (calls walks : ℕ) (all : List (List Asked)) → Each calls walks all → Each (suc calls) (length now.walks + walks) (onto_process_image now all)
each-onto now calls walks [] each = (record { few_calls = omega arith; few_walks = rw (walks-onto now []) (omega arith) }, tt)
each-onto now calls walks (process_image ∷ rest) each = by now.ends_process_image
  where
    alone : AreFew (suc calls) (length now.walks + walks) (now ∷ [])
    alone = record { few_calls = omega arith; few_walks = rw (walks-onto now []) (omega arith) }

    later : Each (suc calls) (length now.walks + walks) rest
    later = more calls walks (suc calls) (length now.walks + walks) rest (omega arith) (omega arith) each.1

    same : AreFew (suc calls) (length now.walks + walks) process_image
    same = record { few_calls = omega (arith, each.0.few_calls); few_walks = omega (arith, each.0.few_walks) }

    longer : AreFew (suc calls) (length now.walks + walks) (now ∷ process_image)
    longer = record { few_calls = omega (arith, each.0.few_calls); few_walks = rw (walks-onto now process_image) (omega (arith, each.0.few_walks)) }

    by : (b : Bool) → Each (suc calls) (length now.walks + walks) (cond b ((now ∷ []) ∷ process_image ∷ rest) ((now ∷ process_image) ∷ rest))
    by true = (alone, (same, later))
    by false = (longer, later)

-- no process image is longer than the whole run
pub process_images-few : (all : List Asked) → Each (length all) (length (walks_judged all)) (process_images all)
unfolding process_images
process_images-few [] = tt
process_images-few (now ∷ rest) =
    subst (λ n. Each (suc (length rest)) n (onto_process_image now (process_images rest))) (sym (walks-onto now rest)) (each-onto now (length rest) (length (walks_judged rest)) (process_images rest) (process_images-few rest))

-- ---- the calls of one process

abbrev pub HaveFewWalks : List Asked → Type 0
HaveFewWalks all = AllByRecursion (λ now. length now.walks ≤ 2) all

pub walks-few : (all : List Asked) → HaveFewWalks all → length (walks_judged all) ≤ 2 * length all
walks-few [] each = omega arith
walks-few (now ∷ rest) each = rw (walks-onto now rest) (omega (arith, each.0, walks-few rest each.1))

of-one : (pid : ℕ) (all : List (ℕ × Asked)) → AllByRecursion (λ (a : ℕ × Asked). length a.1.walks ≤ 2) all → HaveFewWalks (asked_by_one all pid)
of-one pid [] each = tt
of-one pid (a ∷ all) each = by (a.0 == pid) (of-one pid all each.1)
  where
    by : (b : Bool) → HaveFewWalks (asked_by_one all pid) → HaveFewWalks (map (λ (x : ℕ × Asked). x.1) (cond b (a ∷ filter (λ x. x.0 == pid) all) (filter (λ x. x.0 == pid) all)))
    by true rest = (each.0, rest)
    by false rest = rest

one-few : (pid : ℕ) (all : List (ℕ × Asked)) → length (asked_by_one all pid) ≤ length all
one-few pid all = subst (λ n. n ≤ length all) (sym (length-map (filter (λ a. a.0 == pid) all) (λ (a : ℕ × Asked). a.1))) (filter-fewer (λ (a : ℕ × Asked). a.0 == pid) all)

-- each process image has few calls and walks, if each call has few walks
pub each-few : (pid : ℕ) (all : List (ℕ × Asked)) (most : ℕ) → AllByRecursion (λ (a : ℕ × Asked). length a.1.walks ≤ 2) all → 2 * length all ≤ most
    → Each most most (process_images (asked_by_one all pid))
each-few pid all most each within =
    let mine = asked_by_one all pid in
    let few : length mine ≤ length all = one-few pid all in
    let walks : length (walks_judged mine) ≤ 2 * length mine = walks-few mine (of-one pid all each) in
    more (length mine) (length (walks_judged mine)) most most (process_images mine) (omega arith) (omega arith) (process_images-few mine)
