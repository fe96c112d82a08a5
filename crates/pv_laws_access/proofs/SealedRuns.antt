-- Runs from a state in which a file is sealed or frozen.
use Rattle.std.proofs.Common.{◌≡◌, ℕ, List, [], ◌∷◌, ◌++◌, length, Option, refl, ap, ap₂, subst, ◌∙◌}
use Rattle.pv_model.specs.Machine.{Bytes, Program, State, step, run, with_bytes, file_bytes, trace_bytes}
use Rattle.pv_laws_states.specs.States.{EncodesPrograms, IsValid}
use Rattle.pv_laws_states.proofs.ValidBySteps.{step-keeps_valid}
use Rattle.pv_laws_access.proofs.ClosedProcesses.{sealed-answers_alike}
use Rattle.pv_laws_access.proofs.SimilarTrees.{as_is, near-bytes, near-length_of, same-but_file}
use Rattle.pv_laws_access.specs.Sealing.{IsSealedFile, IsFrozenFile, StaysFrozen, RunsDifferInFile, WritesNothing}
use Rattle.pv_laws_access.proofs.SealedSteps.{sealed-stays, frozen-stays}

pub sealed-for_ever : (program_of : Bytes → Option Program) → EncodesPrograms program_of → (s : State) (pids : List ℕ) (f : ℕ) (bytes : Bytes) → IsValid s → IsSealedFile s f
    → length bytes ≡ length (file_bytes s f) → WritesNothing program_of s pids f bytes
sealed-for_ever program_of encodes s [] f bytes whole is long =
    let near = near-bytes as_is s f bytes long in
    record {
      still = is;
      alike = record { lines = refl; text = refl; final = same-but_file as_is f s (with_bytes s f bytes) near; as_many = near-length_of as_is f s (with_bytes s f bytes) near };
    }
sealed-for_ever program_of encodes s (pid ∷ pids) f bytes whole is long =
    let alike = sealed-answers_alike program_of s pid f bytes whole is.file is.sealed long in
    let x : State = (step program_of s pid).after in
    let y : State = (step program_of (with_bytes s f bytes) pid).after in
    let rest : WritesNothing program_of x pids f (file_bytes y f) =
    sealed-for_ever program_of encodes x pids f (file_bytes y f) (step-keeps_valid program_of encodes s pid whole) (sealed-stays program_of encodes s pid f whole is) alike.as_many in
    let following : RunsDifferInFile f (run program_of pids x) (run program_of pids y) =
    subst (λ (z : State). RunsDifferInFile f (run program_of pids x) (run program_of pids z)) alike.after rest.alike in
    let lines = ap₂ (λ a b. a ++ b) alike.lines following.lines in
    record { still = rest.still; alike = record { lines = lines; text = ap trace_bytes lines; final = following.final; as_many = following.as_many } }

pub frozen-for_ever : (program_of : Bytes → Option Program) → EncodesPrograms program_of → (s : State) (pids : List ℕ) (f : ℕ) → IsValid s → IsFrozenFile s f → StaysFrozen f s (run program_of pids s).final
frozen-for_ever program_of encodes s [] f whole is = record { still = is; bytes = refl }
frozen-for_ever program_of encodes s (pid ∷ pids) f whole is =
    let first = frozen-stays program_of encodes s pid f whole is in
    let rest = frozen-for_ever program_of encodes (step program_of s pid).after pids f (step-keeps_valid program_of encodes s pid whole) first.still in
    record { still = rest.still; bytes = rest.bytes ∙ first.bytes }
