-- Numbers appended in sequence.
use Rattle.std.proofs.Common.{◌≡◌, ◌∙◌, sym, ap, subst, ℕ, ◌+◌, ◌<◌, List, [], ◌∷◌, ◌++◌, length, take, get_or, flat_map, append_assoc, append-nil, Some, slice_get}
use Rattle.std.proofs.lemmas.Grind.{flat_map-append}
use Rattle.std.proofs.lemmas.List.{take_more}
use Rattle.std.proofs.lemmas.Option.{get_or_from_slice_get, slice_get_within}
use Rattle.std.proofs.Math.Seq.{take-length}
use Rattle.pv_model.specs.Machine.{Numbers}
use Rattle.pv_programs.specs.Appending.{AppendsNumbers}

pub appends_one : (n : ℕ) (old new : Numbers) → new ≡ old ++ n ∷ [] → AppendsNumbers (n ∷ []) old new
appends_one n old new is = record { is = is }

pub appends_none : (old : Numbers) → AppendsNumbers [] old old
appends_none old = record { is = sym (append-nil old) }

pub appends_to_none : (ns old new : Numbers) → old ≡ [] → AppendsNumbers ns old new → new ≡ ns
appends_to_none ns old new none added = added.is ∙ ap (λ (ms : Numbers). ms ++ ns) none

-- numbers, followed by other numbers
pub appends_both : {ns ms old middle new : Numbers} → AppendsNumbers ns old middle → AppendsNumbers ms middle new → AppendsNumbers (ns ++ ms) old new
appends_both {ns} {ms} {old} {middle} {new} first second = record {
  is = second.is ∙ ap (λ (bs : Numbers). bs ++ ms) first.is ∙ append_assoc old ns ms;
}

-- one number, followed by others
pub appends_then : {n : ℕ} {ms old middle new : Numbers} → AppendsNumbers (n ∷ []) old middle → AppendsNumbers ms middle new → AppendsNumbers (n ∷ ms) old new
appends_then {n} {ms} {old} {middle} {new} first second = appends_both {ns = n ∷ []} {ms = ms} {old = old} {middle = middle} {new = new} first second

-- the first numbers of a list, in a loop
pub appends_more : (ns : Numbers) (i n : ℕ) (old middle new : Numbers) → i < length ns → n ≡ get_or ns i n → AppendsNumbers (take i ns) old middle → AppendsNumbers (n ∷ []) middle new → AppendsNumbers (take (i + 1) ns) old new
appends_more ns i n old middle new within is first second =
    subst (λ (ms : Numbers). AppendsNumbers ms old new) (sym (take_more ns i n within ∙ ap (λ m. take i ns ++ m ∷ []) (sym is))) (appends_both first second)

pub appends_all : (ns old new : Numbers) → AppendsNumbers (take (length ns) ns) old new → AppendsNumbers ns old new
appends_all ns old new added = subst (λ (ms : Numbers). AppendsNumbers ms old new) (take-length ns) added

-- the numbers of the first elements of a list, in a loop
take-get : {X : Type 0} (xs : List X) (i : ℕ) (x : X) → slice_get xs i ≡ Some x → take (i + 1) xs ≡ take i xs ++ x ∷ []
take-get xs i x is = take_more xs i x (slice_get_within xs i x is) ∙ ap (λ y. take i xs ++ y ∷ []) (get_or_from_slice_get xs i x x is)

pub appends_got : {X : Type 0} (f : X → Numbers) (xs : List X) (i : ℕ) (x : X) (old middle new : Numbers) → slice_get xs i ≡ Some x → AppendsNumbers (flat_map f (take i xs)) old middle → AppendsNumbers (f x) middle new
    → AppendsNumbers (flat_map f (take (i + 1) xs)) old new
appends_got f xs i x old middle new is first second =
    subst (λ (ms : Numbers). AppendsNumbers ms old new)
    (sym (ap (flat_map f) (take-get xs i x is) ∙ flat_map-append f (take i xs) (x ∷ []) ∙ ap (λ ms. flat_map f (take i xs) ++ ms) (append-nil (f x))))
    (appends_both first second)

-- all elements of a list
pub appends_list : {X : Type 0} (f : X → Numbers) (xs : List X) (n : ℕ) (old new : Numbers) → n ≡ length xs → AppendsNumbers (flat_map f (take n xs)) old new → AppendsNumbers (flat_map f xs) old new
appends_list f xs n old new all added = subst (λ (ms : Numbers). AppendsNumbers ms old new) (ap (λ k. flat_map f (take k xs)) all ∙ ap (flat_map f) (take-length xs)) added
