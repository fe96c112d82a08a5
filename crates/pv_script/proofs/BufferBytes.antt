-- The bytes of a buffer, where all from `used` on are zero.
use Rattle.std.proofs.Common.{◌≡◌, ◌∙◌, ◌+◌, ◌-◌, ◌≤◌, ℕ, ◌++◌, length, take, drop, refl, sym, subst, ap, length-append, length-drop, arith}
use Rattle.std.specs.Prelude.{max, replicate}
use Rattle.std.proofs.lemmas.List.{drop-drop, drop_all, drop-replicate, length-replicate, length-take-le, replicate-append-replicate, take-append-drop}
use Rattle.std.proofs.lemmas.Slice.{drop-append-drop}
use Rattle.pv_model.specs.declared.limits.TheConstants.{BUFFER}
use Rattle.pv_model.specs.Machine.{Bytes}
use Rattle.pv_script.specs.Written.{IsZeroAfter}

-- bytes that are all zero count as not written
pub unwritten : (bytes : Bytes) → bytes ≡ replicate BUFFER 0 → IsZeroAfter bytes 0
unwritten bytes zeros = record { whole = ap length zeros ∙ length-replicate {A = ℕ} BUFFER 0; within = omega arith; following = zeros }

-- whatever the borrower of all bytes leaves, all bytes of the buffer count as written
pub lent : (old left : Bytes) (size : ℕ) → length old ≡ size → size ≡ BUFFER → IsZeroAfter (take size (left ++ drop (length left) old)) BUFFER
lent old left size whole all =
    let all_left : Bytes = left ++ drop (length left) old in
    let long : size ≤ length all_left = omega (arith, length-append left (drop (length left) old), length-drop (length left) old) in
    let same : length (take size all_left) ≡ BUFFER = length-take-le size all_left long ∙ all in
    record { whole = same; within = omega arith; following = drop_all BUFFER (take size all_left) (omega (arith, same)) }

-- the bytes after the start of zeros are zero
after_zeros : (bytes : Bytes) (size used more : ℕ) → drop used bytes ≡ replicate (size - used) 0 → drop (used + more) bytes ≡ replicate (size - (used + more)) 0
after_zeros bytes size used more zeros =
    let left : size - used - more ≡ size - (used + more) = omega arith in
    let rest : drop more (drop used bytes) ≡ replicate (size - used - more) 0 = ap (drop more) zeros ∙ drop-replicate more (size - used) 0 in
    sym (drop-drop more used bytes) ∙ rest ∙ ap (λ n. replicate n 0) left

module _ (bytes : Bytes) (used : ℕ) (seen : IsZeroAfter bytes used) where
  -- the bytes after a greater bound are zero too
  after_more : (most : ℕ) → used ≤ most → drop most bytes ≡ replicate (BUFFER - most) 0
  after_more most less =
      let sum : used + (most - used) ≡ most = omega arith in
      subst (λ n. drop n bytes ≡ replicate (BUFFER - n) 0) sum (after_zeros bytes BUFFER used (most - used) seen.following)

  -- if the first `used` bytes become zero, all are zero
  pub cleared : replicate used 0 ++ drop used bytes ≡ replicate BUFFER 0
  cleared =
      let sum : used + (BUFFER - used) ≡ BUFFER = omega (arith, seen.within) in
      ap (λ rest. replicate used 0 ++ rest) seen.following ∙ replicate-append-replicate used (BUFFER - used) 0 ∙ ap (λ n. replicate n 0) sum

  -- the bytes after the new front, and after those that were written before, are zero
  pub put : (new : Bytes) (most : ℕ) → length new ≤ most → used ≤ most → most ≤ BUFFER → IsZeroAfter (new ++ drop (length new) bytes) most
  put new most new_less less within = record {
    whole = length-append new (drop (length new) bytes) ∙ ap (λ n. length new + n) (length-drop (length new) bytes ∙ ap (λ n. n - length new) seen.whole) ∙ omega arith;
    within = within;
    following = drop-append-drop (length new) bytes new most new_less refl ∙ after_more most less;
  }

-- a copy of the bytes that were written in either buffer makes both equal
pub copied : (bytes other : Bytes) (used others most : ℕ) → IsZeroAfter bytes used → IsZeroAfter other others → most ≡ max used others → take most other ++ drop (length (take most other)) bytes ≡ other
copied bytes other used others most seen seen_other is =
    let long : length (take most other) ≡ most = length-take-le most other (omega (arith, is, seen.within, seen_other.within, seen_other.whole)) in
    let following : drop most bytes ≡ drop most other = after_more bytes used seen most (omega (arith, is)) ∙ sym (after_more other others seen_other most (omega (arith, is))) in
    ap (λ n. take most other ++ drop n bytes) long ∙ ap (λ rest. take most other ++ rest) following ∙ take-append-drop most other
