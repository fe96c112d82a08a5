-- Bounds of the number of entries in and below a directory.
use Rattle.std.proofs.Common.{◌≡◌, ap, arith, ℕ, zero, suc, ◌+◌, ◌-◌, ◌*◌, ◌^◌, ◌<◌, ◌≤◌, List, length, subst, sym}
use Rattle.std.proofs.Math.Nat.{mul-le-mul_left}
use Rattle.pv_cli_host.specs.declared.directories.TheConstants.{LONGEST_PATH}
use Rattle.pv_cli_host.specs.Bounds.{levels_below, entry_bound, entries_within}

pub bound_some : (levels : ℕ) → 0 < entry_bound levels
bound_some zero = omega arith
bound_some (suc levels) = let some = bound_some levels in omega (arith, some)

bound_more : (few levels : ℕ) → few ≤ levels → entry_bound few ≤ entry_bound levels
bound_more zero levels less = let some = bound_some levels in omega (arith, some)
bound_more (suc few) zero less = absurd (omega (arith, less))
bound_more (suc few) (suc levels) less =
    let fewer : few ≤ levels = omega (arith, less) in
    let more = bound_more few levels fewer in
    omega (arith, more)

below_bound : (names few levels : ℕ) → names < 2 ^ 64 → few < levels → names * entry_bound few < entry_bound levels
below_bound names few zero some less = absurd (omega (arith, less))
below_bound names few (suc levels) some less =
    let within : few ≤ levels = omega (arith, less) in
    let up : names + 1 ≤ 2 ^ 64 = omega (arith, some) in
    let one = mul-le-mul_left names (bound_more few levels within) in
    let other = mul-le-mul_left (entry_bound levels) up in
    let more = bound_some levels in
    omega (arith, one, other, more)

-- the entries of a directory below another, whose path is longer
pub entries_below : (names : ℕ) (path given longer : List ℕ) → given ≡ longer → names < 2 ^ 64 → length path < length longer → length longer ≤ LONGEST_PATH
    → entries_within names given < entry_bound (levels_below path)
entries_below names path given longer same few less within =
    let levels : levels_below longer < levels_below path = omega (arith, less, within) in
    subst (λ p. entries_within names p < entry_bound (levels_below path)) (sym same) (below_bound names (levels_below longer) (levels_below path) few levels)

-- with one name less, and the entries below that name
pub entries_fewer : (before after below : ℕ) (path : List ℕ) → after + 1 ≡ before → below < entry_bound (levels_below path)
    → entries_within after path + below < entries_within before path
entries_fewer before after below path one less =
    let is = ap (λ n. n * entry_bound (levels_below path)) one in
    omega (arith, is, less)
