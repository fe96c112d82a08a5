-- Ascending numbers as ranges, from the first to the last.
use Rattle.std.proofs.Common.{◌≡◌, ◌≢◌, ◌∙◌, sym, ap, ℕ, zero, suc, ◌+◌, Bool, true, false, if◌then◌else◌, ◌==◌, List, [], ◌∷◌, ◌++◌, flat_map, append_assoc, append-nil, codes, refl, arith}
use Rattle.std.specs.List.{join_by}
use Rattle.std.proofs.lemmas.Bool.{eq-eqb, ne_eqb}
use Rattle.pv_model.specs.Machine.{in_ranges, Bytes}
use Rattle.pv_model.specs.Answers.Exposure.{onto_ranges, range_text}

abbrev pub Ranges : Type 0
Ranges = List (ℕ × ℕ)

-- ranges of which the first begins elsewhere
abbrev pub with_start : ℕ → Ranges → Ranges
with_start from [] = []
with_start from ((a, b) ∷ rs) = (from, b) ∷ rs

abbrev pub text_of_ranges : Ranges → Bytes
text_of_ranges rs = join_by range_text (codes ", ") rs

-- the first range begins with the first number
record BeginsAt (n : ℕ) (rs : Ranges) : Type 0 where
  to : ℕ
  rest : Ranges
  is : rs ≡ (n, to) ∷ rest

begins : (n : ℕ) (ns : List ℕ) → BeginsAt n (in_ranges (n ∷ ns))
begins n ns = by (in_ranges ns)
  where
    pick : (b : Bool) (from to : ℕ) (rs : Ranges) → BeginsAt n (if b then (n, to) ∷ rs else (n, n) ∷ (from, to) ∷ rs)
    pick true from to rs = record { to = to; rest = rs; is = refl }
    pick false from to rs = record { to = n; rest = (from, to) ∷ rs; is = refl }

    by : (rs : Ranges) → BeginsAt n (onto_ranges n rs)
    by [] = record { to = n; rest = []; is = refl }
    by ((from, to) ∷ rs) = pick (suc n == from) from to rs

pub run-starts : (n : ℕ) (ns : List ℕ) → with_start n (in_ranges (n ∷ ns)) ≡ in_ranges (n ∷ ns)
run-starts n ns = let b = begins n ns in ap (with_start n) b.is ∙ sym b.is

pub run-longer : (from to next : ℕ) (ns : List ℕ) → to + 1 ≡ next → with_start from (in_ranges (to ∷ next ∷ ns)) ≡ with_start from (in_ranges (next ∷ ns))
run-longer from to next ns is =
    let b = begins next ns in
    let same : (suc to == next) ≡ true = eq-eqb (suc to) next (omega (arith, is)) in
    ap (λ rs. with_start from (onto_ranges to rs)) b.is
    ∙ ap (λ c. with_start from (if c then (to, b.to) ∷ b.rest else (to, to) ∷ (next, b.to) ∷ b.rest)) same
    ∙ sym (ap (with_start from) b.is)

run-ends : (from to next : ℕ) (ns : List ℕ) → to + 1 ≢ next → with_start from (in_ranges (to ∷ next ∷ ns)) ≡ (from, to) ∷ in_ranges (next ∷ ns)
run-ends from to next ns other =
    let b = begins next ns in
    let differs : (suc to == next) ≡ false = ne_eqb (suc to) next (λ e. other (omega (arith, e))) in
    ap (λ rs. with_start from (onto_ranges to rs)) b.is
    ∙ ap (λ c. with_start from (if c then (to, b.to) ∷ b.rest else (to, to) ∷ (next, b.to) ∷ b.rest)) differs
    ∙ ap (λ rs. (from, to) ∷ rs) (sym b.is)

text-before : (r : ℕ × ℕ) (n : ℕ) (ns : List ℕ) → text_of_ranges (r ∷ in_ranges (n ∷ ns)) ≡ (range_text r ++ codes ", ") ++ text_of_ranges (in_ranges (n ∷ ns))
text-before r n ns =
    let b = begins n ns in
    let others : Bytes = flat_map (λ q. codes ", " ++ range_text q) b.rest in
    ap (λ rs. text_of_ranges (r ∷ rs)) b.is
    ∙ ap (λ (bs : Bytes). range_text r ++ bs) (append_assoc (codes ", ") (range_text (n, b.to)) others)
    ∙ sym (append_assoc (range_text r) (codes ", ") (range_text (n, b.to) ++ others))
    ∙ sym (ap (λ rs. (range_text r ++ codes ", ") ++ text_of_ranges rs) b.is)

-- a run ends, and the next one starts
pub text-other : (from to next : ℕ) (ns : List ℕ) → to + 1 ≢ next
    → text_of_ranges (with_start from (in_ranges (to ∷ next ∷ ns))) ≡ (range_text (from, to) ++ codes ", ") ++ text_of_ranges (with_start next (in_ranges (next ∷ ns)))
text-other from to next ns other =
    ap text_of_ranges (run-ends from to next ns other) ∙ text-before (from, to) next ns
    ∙ ap (λ rs. (range_text (from, to) ++ codes ", ") ++ text_of_ranges rs) (sym (run-starts next ns))

pub text-last : (from to : ℕ) → text_of_ranges (with_start from (in_ranges (to ∷ []))) ≡ range_text (from, to)
text-last from to = append-nil (range_text (from, to))
