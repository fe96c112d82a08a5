-- Lemmas on runs.
use Rattle.std.proofs.Common.{◌≡◌, ℕ, List, [], ◌∷◌, ◌++◌, Option, append_assoc, refl, ap, sym, ◌∙◌}
use Rattle.pv_model.specs.Bytes.{Bytes}
use Rattle.pv_model.specs.State.{Program, State}
use Rattle.pv_model.specs.Step.{Stepped, Run, step, before_run, run, run_then}

module _ (program_of : Bytes → Option Program) where
  joined : (now : Stepped) (first last : State → Run)
      → before_run program_of now (λ s. run_then (first s) last) ≡ run_then (before_run program_of now first) last
  joined now first last =
      let ends = (first now.after).final in
      ap (λ lines. record { lines = lines; final = (last ends).final }) (sym (append_assoc now.lines (first now.after).lines (last ends).lines))

  pub run-append : (before after : List ℕ) (s : State) → run program_of (before ++ after) s ≡ run_then (run program_of before s) (run program_of after)
  run-append [] after s = refl
  run-append (pid ∷ pids) after s =
      let now = step program_of s pid in
      ap (λ r. before_run program_of now (λ x. r)) (run-append pids after now.after) ∙ joined now (run program_of pids) (run program_of after)
