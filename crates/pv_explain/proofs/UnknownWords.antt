-- The first unknown keyword of a text, one word at a time.
use Rattle.std.proofs.Common.{◌≡◌, ◌<◌, ◌≤◌, ◌+◌, ◌∙◌, ℕ, Bool, true, false, if◌then◌else◌, List, length, get_or, drop, Option, None, Some, ap, sym}
use Rattle.std.specs.Prelude.{find, is_none}
use Rattle.std.proofs.lemmas.List.{at_drop_more, at_drop_all}
use Rattle.pv_model.specs.Machine.{Bytes}
use Rattle.pv_model.specs.Promises.{keywords, promise_of}

abbrev pub is_unknown : Bytes → Bool
is_unknown word = is_none (promise_of word)

-- the first unknown keyword from one on
abbrev pub unknown_from : ℕ → Bytes → Option Bytes
unknown_from n text = find is_unknown (drop n (keywords text))

more-words : (text word : Bytes) (n : ℕ) → (n < length (keywords text)) × (word ≡ get_or (keywords text) n word)
    → unknown_from n text ≡ (if is_unknown word then Some word else unknown_from (n + 1) text)
more-words text word n here =
    at_drop_more (find is_unknown) (keywords text) n word here.0 ∙ ap (λ (w : Bytes). if is_unknown w then Some w else unknown_from (n + 1) text) (sym here.1)

pub unknown-here : (text word : Bytes) (n : ℕ) → (n < length (keywords text)) × (word ≡ get_or (keywords text) n word) → is_unknown word ≡ true → unknown_from n text ≡ Some word
unknown-here text word n here is = more-words text word n here ∙ ap (λ b. if b then Some word else unknown_from (n + 1) text) is

pub unknown-next : (text word : Bytes) (n : ℕ) → (n < length (keywords text)) × (word ≡ get_or (keywords text) n word) → is_unknown word ≡ false
    → unknown_from (n + 1) text ≡ unknown_from n text
unknown-next text word n here is = sym (more-words text word n here ∙ ap (λ b. if b then Some word else unknown_from (n + 1) text) is)

pub unknown-end : (text : Bytes) (n : ℕ) → length (keywords text) ≤ n → unknown_from n text ≡ None
unknown-end text n all = at_drop_all (find is_unknown) (keywords text) n all
