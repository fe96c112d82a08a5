-- The effect of a tree's room on an attempt.
use Rattle.std.proofs.Common.{◌≡◌, Bool, true, false, not, if◌then◌else◌, Option, None, Some, refl, ap₂, subst}
use Rattle.pv_calls_state.specs.OfInodes.declared.space.Space.{Space}
use Rattle.pv_calls_state.specs.OfInodes.declared.space.Space.TheVariants.{Full, TooBig}
use Rattle.pv_model.specs.declared.errno.Errno.TheVariants.{EFBIG, ENOSPC}
use Rattle.pv_model.specs.declared.outcome.Cause.TheVariants.{Plain}
use Rattle.pv_model.specs.Machine.{refused, ◌>>◌, give, refuse_if, with_room, collect, is_too_long, fits, State}
use Rattle.pv_calls_plain.specs.Space.{space_errno}
use Rattle.pv_calls_state.specs.OfTree.Rooms.{room_error}

abbrev room_by : (s : State) (long fit : Bool) → Option Space → Type 0
room_by s long fit None = (refuse_if EFBIG long >> (refuse_if ENOSPC (not fit) >> give s)) ≡ give s
room_by s long fit (Some why) = (refuse_if EFBIG long >> (refuse_if ENOSPC (not fit) >> give s)) ≡ refused 0 (space_errno why) Plain

room_is : (s : State) (long fit : Bool) → room_by s long fit (if long then Some TooBig else (if fit then None else Some Full))
room_is s true fit = refl
room_is s false true = refl
room_is s false false = refl

-- an attempt whose tree has room continues
pub roomy : (s : State) → is_too_long (collect s).tree ≡ false → fits (collect s).tree ≡ true → with_room s ≡ give s
roomy s short fit = ap₂ (λ long fit. refuse_if EFBIG long >> (refuse_if ENOSPC (not fit) >> give s)) short fit

-- an attempt whose tree has no room is refused
pub crowded : (s : State) (why : Space) → room_error (collect s).tree ≡ Some why → with_room s ≡ refused 0 (space_errno why) Plain
crowded s why is = subst (room_by s (is_too_long (collect s).tree) (fits (collect s).tree)) is (room_is s (is_too_long (collect s).tree) (fits (collect s).tree))
