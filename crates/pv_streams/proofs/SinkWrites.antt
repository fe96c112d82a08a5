-- Output to sinks, write by write.
use Rattle.std.proofs.Common.{◌≡◌, ◌+◌, ◌-◌, ◌++◌, ◌∙◌, ap, sym, ℕ, [], length, take, drop, append_assoc, ◌≤◌, length-drop, arith, refl, Option, None, Some}
use Rattle.std.proofs.lemmas.List.{append-nil, take_all, take-append-drop}
use Rattle.std.proofs.Math.Seq.{take-add}
use Rattle.pv_model.specs.Machine.{Bytes}
use Rattle.pv_model.specs.Stream.{and_front}
use Rattle.pv_streams.specs.Sinks.{and_all, WritesPrefix}

joined : (bytes : Bytes) (at n : ℕ) (before after : Option Bytes)
    → after ≡ and_front (and_front before at bytes) n (drop at bytes) → after ≡ and_front before (at + n) bytes
joined bytes at n None after is = is
joined bytes at n (Some had) after is =
    is ∙ ap Some (append_assoc had (take at bytes) (take n (drop at bytes)) ∙ ap (λ bs. had ++ bs) (sym (take-add at n bytes)))

-- the rest of a text as a slice
pub rest_of_slice : (bytes : Bytes) (at : ℕ) → take (length bytes - at) (drop at bytes) ≡ drop at bytes
rest_of_slice bytes at = take_all (length bytes - at) (drop at bytes) (omega (arith, length-drop at bytes))

-- one more write
pub written_more : (bytes : Bytes) (at n : ℕ) (before mid after : Option Bytes)
    → mid ≡ and_front before at bytes
    → after ≡ and_front mid n (take (length bytes - at) (drop at bytes))
    → after ≡ and_front before (at + n) bytes
written_more bytes at n before mid after first second = joined bytes at n before after (second ∙ ap (λ bs. and_front mid n bs) (rest_of_slice bytes at) ∙ ap (λ written. and_front written n (drop at bytes)) first)

-- a write of zero bytes changes nothing
pub written_nothing : (bytes : Bytes) (before : Option Bytes) → and_front before 0 bytes ≡ before
written_nothing bytes None = refl
written_nothing bytes (Some had) = ap Some (append-nil had)

-- the bytes that were written before a failure are a prefix
pub reports_prefix : (bytes : Bytes) (at : ℕ) (before mid after : Option Bytes)
    → mid ≡ and_front before at bytes → after ≡ mid → WritesPrefix bytes before after
reports_prefix bytes at before mid after written preserved = (at, preserved ∙ written)

-- a whole text is a prefix of itself
pub begins_whole : (bytes : Bytes) (before after : Option Bytes) → after ≡ and_all before bytes → WritesPrefix bytes before after
begins_whole bytes None after is = (length bytes, is)
begins_whole bytes (Some had) after is = (length bytes, is ∙ ap (λ bs. Some (had ++ bs)) (sym (take_all (length bytes) bytes (omega arith))))

-- bytes that were flushed, and the rest of the buffer
pub flushed_part : (bytes : Bytes) (at : ℕ) (before after : Option Bytes)
    → after ≡ and_front before at bytes → and_all after (drop at bytes) ≡ and_all before bytes
flushed_part bytes at None after is = ap (λ written. and_all written (drop at bytes)) is
flushed_part bytes at (Some had) after is =
    ap (λ written. and_all written (drop at bytes)) is ∙ ap Some (append_assoc had (take at bytes) (drop at bytes) ∙ ap (λ bs. had ++ bs) (take-append-drop at bytes))

-- the whole buffer was flushed
pub flushed_all : (bytes : Bytes) (at : ℕ) (before after : Option Bytes)
    → length bytes ≤ at → after ≡ and_front before at bytes → and_all after [] ≡ and_all before bytes
flushed_all bytes at None after full is = ap (λ written. and_all written []) is
flushed_all bytes at (Some had) after full is =
    ap (λ written. and_all written []) is ∙ ap Some (append-nil (had ++ take at bytes) ∙ ap (λ bs. had ++ bs) (take_all at bytes full))

-- bytes appended to the buffer count as written
pub more_buffered : (waiting buffer : Bytes) (n : ℕ) (written : Option Bytes) → and_all written (waiting ++ take n buffer) ≡ and_front (and_all written waiting) n buffer
more_buffered waiting buffer n None = refl
more_buffered waiting buffer n (Some had) = ap Some (sym (append_assoc had waiting (take n buffer)))
