-- The keywords of a text, and the set of some of them followed by the others.
use Rattle.std.proofs.Common.{◌≡◌, ℕ, ◌+◌, ◌<◌, ◌==◌, Bool, not, List, [], ◌∷◌, filter, length, get_or, drop, Option, None, Some, bit_or, refl, sym, ap, ◌∙◌, arith, ◌≤◌, ◌≢◌, suc}
use Rattle.std.specs.List.{slice_split}
use Rattle.std.specs.List as list
use Rattle.std.proofs.lemmas.List.{at_drop_more, at_drop_all}
use Rattle.std.proofs.lemmas.Nat.Bits.{same_from_bits, bit_at_or}
use Rattle.std.proofs.lemmas.Bool.{ne_eqb}
use Rattle.std.specs.Int.Bits.{or_zero_l, or_zero_r}
use Rattle.pv_model.specs.Machine.{Bytes, is_empty, onto_first, Promises}
use Rattle.pv_model.specs.declared.promise.Promise.{Promise}
use Rattle.pv_model.specs.Promises.{mask, split_spaces, keywords, promise_of, add_promise, set_of_keywords}

abbrev pub is_space : ℕ → Bool
is_space b = b == 32

abbrev pub is_word : Bytes → Bool
is_word word = not (length word == 0)

onto_first_same : (b : ℕ) (components : List Bytes) → onto_first b components ≡ list.onto_first b components
onto_first_same b [] = refl
onto_first_same b (component ∷ components) = refl

split_spaces-slice_split : (text : Bytes) → split_spaces text ≡ slice_split is_space text
split_spaces-slice_split [] = refl
split_spaces-slice_split (b ∷ bs) = rw (split_spaces-slice_split bs, onto_first_same b (slice_split is_space bs)) refl

keywords_are_words : (components : List Bytes) → filter (λ word. not (is_empty word)) components ≡ filter is_word components
keywords_are_words [] = refl
keywords_are_words ([] ∷ components) = keywords_are_words components
keywords_are_words ((b ∷ bs) ∷ components) =
    let longer : suc (length bs) ≢ 0 = omega arith in
    rw (ne_eqb (suc (length bs)) 0 longer) (ap (λ words. (b ∷ bs) ∷ words) (keywords_are_words components))

-- splitting a text at its spaces yields its keywords
pub keywords-slice_split : (text : Bytes) → keywords text ≡ filter is_word (slice_split is_space text)
keywords-slice_split text = keywords_are_words (split_spaces text) ∙ ap (filter is_word) (split_spaces-slice_split text)

-- the union of a set and another that may be absent
abbrev pub join_sets : Promises → Option Promises → Option Promises
join_sets set None = None
join_sets set (Some more) = Some (bit_or set more)

-- the set of the keywords from one on
abbrev pub set_from : ℕ → Bytes → Option Promises
set_from n text = set_of_keywords (drop n (keywords text))

or_assoc : (a b c : ℕ) → bit_or (bit_or a b) c ≡ bit_or a (bit_or b c)
or_assoc a b c = same_from_bits _ _ (λ i. simp bit_at_or (omega arith))

join_sets-add_promise : (set : Promises) (p : Promise) (more : Option Promises) → join_sets set (add_promise (Some p) more) ≡ join_sets (bit_or set (mask p)) more
join_sets-add_promise set p None = refl
join_sets-add_promise set p (Some more) = ap Some (sym (or_assoc set (mask p) more))

-- before the first word, the set is empty
pub join_sets-zero : (more : Option Promises) → join_sets 0 more ≡ more
join_sets-zero None = refl
join_sets-zero (Some more) = ap Some (or_zero_l more)

set_from-more : (text word : Bytes) (n : ℕ) → (n < length (keywords text)) × (word ≡ get_or (keywords text) n word)
    → set_from n text ≡ add_promise (promise_of word) (set_from (n + 1) text)
set_from-more text word n here =
    at_drop_more set_of_keywords (keywords text) n word here.0 ∙ ap (λ w. add_promise (promise_of w) (set_from (n + 1) text)) (sym here.1)

-- after a word that is a keyword
pub join_sets-known : (text word : Bytes) (n : ℕ) (p : Promise) (set : Promises) → (n < length (keywords text)) × (word ≡ get_or (keywords text) n word)
    → promise_of word ≡ Some p → join_sets set (set_from n text) ≡ join_sets (bit_or set (mask p)) (set_from (n + 1) text)
join_sets-known text word n p set here known =
    ap (join_sets set) (set_from-more text word n here ∙ ap (λ q. add_promise q (set_from (n + 1) text)) known) ∙ join_sets-add_promise set p (set_from (n + 1) text)

-- at a word that is not a keyword
pub join_sets-unknown : (text word : Bytes) (n : ℕ) (set : Promises) → (n < length (keywords text)) × (word ≡ get_or (keywords text) n word)
    → promise_of word ≡ None → join_sets set (set_from n text) ≡ None
join_sets-unknown text word n set here unknown =
    ap (join_sets set) (set_from-more text word n here ∙ ap (λ q. add_promise q (set_from (n + 1) text)) unknown)

-- after the last word
pub join_sets-all : (text : Bytes) (n : ℕ) (set : Promises) → length (keywords text) ≤ n → join_sets set (set_from n text) ≡ Some set
join_sets-all text n set all =
    ap (join_sets set) (at_drop_all set_of_keywords (keywords text) n all) ∙ ap Some (or_zero_r set)

-- a word of the split text is a keyword of it
pub here-keywords : (text word : Bytes) (n : ℕ) → (n < length (filter is_word (slice_split is_space text))) × (word ≡ get_or (filter is_word (slice_split is_space text)) n word)
    → (n < length (keywords text)) × (word ≡ get_or (keywords text) n word)
here-keywords text word n here = rw (keywords-slice_split text) here

-- and their number is equal
pub all-keywords : (text : Bytes) (n : ℕ) → n ≡ length (filter is_word (slice_split is_space text)) → length (keywords text) ≤ n
all-keywords text n all = rw (keywords-slice_split text) (omega arith)
