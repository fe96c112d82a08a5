-- The promises that a call needs, the first of alternatives alone.
use Rattle.std.proofs.Common.{◌≡◌, ◌∙◌, Bool, true, false, cond, [], ◌∷◌, ◌++◌, flat_map, ap, refl}
use Rattle.std.specs.List.{filter_map, list_any}
use Rattle.pv_model.specs.declared.call.Call.{Call}
use Rattle.pv_model.specs.declared.call.Call.TheVariants.{Open, OpenAt}
use Rattle.pv_model.specs.declared.open_flags.OpenFlags.{OpenFlags}
use Rattle.pv_model.specs.declared.open_flags.Mode.{Mode}
use Rattle.pv_model.specs.declared.open_flags.Mode.TheVariants.{Read, Write, ReadWrite}
use Rattle.pv_model.specs.declared.promise.Promise.TheVariants.{Rpath}
use Rattle.pv_model.specs.Machine.{promises_needed, first_of, needs, needs_cpath, needs_of_mode}
use Rattle.pv_model.specs.Answers.Policy.{same_need}
use Rattle.pv_model.specs.Needs.{needs_of_open}
use Rattle.pv_needs.specs.Asking.{either_need, has_need, promises_of}

first-to-open : (f : OpenFlags) → filter_map first_of (needs_of_open f) ≡ cond (list_any (same_need either_need) (needs_of_open f)) (Rpath ∷ []) (flat_map (λ need. need) (needs_of_open f))
first-to-open f = by f.mode f.create
  where
    by : (m : Mode) (b : Bool) → filter_map first_of (needs_of_mode m ++ cond b needs_cpath [])
        ≡ cond (list_any (same_need either_need) (needs_of_mode m ++ cond b needs_cpath [])) (Rpath ∷ []) (flat_map (λ need. need) (needs_of_mode m ++ cond b needs_cpath []))
    by Read true = refl
    by Read false = refl
    by Write true = refl
    by Write false = refl
    by ReadWrite true = refl
    by ReadWrite false = refl

first-needed : (call : Call) → promises_needed call ≡ cond (has_need either_need call) (Rpath ∷ []) (promises_of call)
unfolding needs
first-needed (Open path flags) = first-to-open flags
first-needed (OpenAt start path flags) = first-to-open flags
first-needed _ = refl

-- a call that needs either of rpath and wpath
pub needed_either : (call : Call) → has_need either_need call ≡ true → promises_needed call ≡ Rpath ∷ []
needed_either call is = first-needed call ∙ ap (λ b. cond b (Rpath ∷ []) (promises_of call)) is

-- any other call
pub needed_all : (call : Call) → has_need either_need call ≡ false → promises_needed call ≡ promises_of call
needed_all call is = first-needed call ∙ ap (λ b. cond b (Rpath ∷ []) (promises_of call)) is
