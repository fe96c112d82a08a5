-- Reading a file, read by read.
use Rattle.std.proofs.Common.{◌≡◌, refl, ◌<◌, ◌≤◌, ◌+◌, ◌++◌, sym, subst, ℕ, [], length, length-append, arith, Option, None, Some}
use Rattle.std.specs.Global.{Vec}
use Rattle.std.specs.Prelude.{IfSome, IsSome}
use Rattle.std.proofs.lemmas.List.{append-nil}
use Rattle.pv_model.specs.Machine.{Bytes}
use Rattle.pv_streams.specs.Sources.{before_all}
use Rattle.pv_host_copy.specs.Reading.{AreBytesWithin}

-- at the end, everything was read
pub whole_read : (limit : ℕ) (bytes : Vec ℕ) (first last : Option Bytes)
    → first ≡ before_all bytes.items last → IfSome last (λ rest. rest ≡ []) → length bytes.items ≤ limit → IfSome first (λ all. AreBytesWithin limit all (Some bytes))
whole_read limit bytes first None is ended few = rw is tt
whole_read limit bytes first (Some rest) is ended few =
    let same : bytes.items ++ rest ≡ bytes.items = rw ended (append-nil bytes.items) in
    rw is (sym same, rw same few)

-- if more bytes than the limit were read, the file has more
pub more_read : (limit : ℕ) (bytes : Bytes) (first last : Option Bytes)
    → first ≡ before_all bytes last → limit < length bytes → IfSome first (λ all. AreBytesWithin limit all None)
more_read limit bytes first None is more = rw is tt
more_read limit bytes first (Some rest) is more = rw is (let k : length (bytes ++ rest) ≡ length bytes + length rest = length-append bytes rest in omega arith)

-- a file whose bytes are known at first stays known
pub stays_known : (bytes : Bytes) (first last : Option Bytes) → first ≡ before_all bytes last → IsSome first → IsSome last
stays_known bytes first None is some = subst (λ o. IsSome o) is some
stays_known bytes first (Some rest) is some = refl
