-- Input from sources, read by read.
use Rattle.std.proofs.Common.{◌≡◌, ◌<◌, ◌≤◌, ◌+◌, min, ◌++◌, ◌∙◌, ap, sym, ℕ, [], length, take, append_assoc, length-append, arith, Option, None, Some}
use Rattle.std.specs.Prelude.{IfSome}
use Rattle.std.proofs.lemmas.List.{append-nil}
use Rattle.pv_model.specs.Machine.{Bytes}
use Rattle.pv_model.specs.Stream.{front_and}
use Rattle.pv_streams.specs.Sources.{before_all, GaveMoreThan, GivesMoreThan}

-- one more read
pub read_more : (bytes chunk : Bytes) (n : ℕ) (first mid last : Option Bytes)
    → first ≡ before_all bytes mid → mid ≡ front_and n chunk last → first ≡ before_all (bytes ++ take n chunk) last
read_more bytes chunk n first mid None is more = is ∙ ap (before_all bytes) more
read_more bytes chunk n first mid (Some rest) is more =
    is ∙ ap (before_all bytes) more ∙ ap Some (sym (append_assoc bytes (take n chunk) rest))

-- at the end, the bytes that were read are all bytes
pub read_all : (bytes : Bytes) (first last : Option Bytes)
    → first ≡ before_all bytes last → IfSome last (λ rest. rest ≡ []) → IfSome first (λ all. all ≡ bytes)
read_all bytes first None is ended = rw is tt
read_all bytes first (Some rest) is ended = rw (is, ended) (append-nil bytes)

-- if more than `limit` bytes were read, the source has more
gives_more : (limit : ℕ) (bytes : Bytes) (first last : Option Bytes)
    → first ≡ before_all bytes last → limit < length bytes → GivesMoreThan limit first
gives_more limit bytes first None is more = rw is tt
gives_more limit bytes first (Some rest) is more = rw is (let k : length (bytes ++ rest) ≡ length bytes + length rest = length-append bytes rest in omega arith)

-- if more than `limit` bytes were read, the source counts more
counted_more : (limit n before after : ℕ) → min (before + n) 18446744073709551615 ≤ after → limit < n → GaveMoreThan limit before after
counted_more limit n before after counted more few = omega (arith, counted)

pub gave_more : (limit before after : ℕ) (bytes : Bytes) (first last : Option Bytes)
    → min (before + length bytes) 18446744073709551615 ≤ after → first ≡ before_all bytes last → limit < length bytes → GaveMoreThan limit before after × GivesMoreThan limit first
gave_more limit before after bytes first last counted is more = (counted_more limit (length bytes) before after counted more, gives_more limit bytes first last is more)
