-- Runs of a process, one more step at a time.
use Rattle.std.proofs.Common.{◌≡◌, ◌+◌, ◌++◌, ◌∙◌, ap, sym, ℕ, zero, suc, [], ◌∷◌, add-one, refl}
use Rattle.std.specs.Prelude.{replicate}
use Rattle.std.proofs.lemmas.List.{append-nil}
use Rattle.pv_model.specs.Machine.{program_of, State, Run, run}
use Rattle.pv_model.proofs.RunComposition.{run-append}
use Rattle.pv_session.specs.Running.{stepped, run_of_turn}

-- one more copy at the end
replicate_more : {X : Type 0} (n : ℕ) (x : X) → replicate (suc n) x ≡ replicate n x ++ x ∷ []
replicate_more zero x = refl
replicate_more (suc n) x = ap (λ xs. x ∷ xs) (replicate_more n x)

abbrev pub following : Run → Run → Run
following first next = record { lines = first.lines ++ next.lines; final = next.final }

abbrev pub one_step : State → ℕ → Run
one_step s pid = record { lines = (stepped s pid).lines; final = (stepped s pid).after }

pub single : (s : State) (pid : ℕ) → run program_of (pid ∷ []) s ≡ one_step s pid
single s pid = ap (λ ls. let it : Run = record { lines = ls; final = (stepped s pid).after } in it) (append-nil (stepped s pid).lines)

-- one more step of a process
pub turn_more : (s mid : State) (pid n : ℕ) → mid ≡ (run_of_turn s pid n).final → run_of_turn s pid (n + 1) ≡ following (run_of_turn s pid n) (one_step mid pid)
turn_more s mid pid n at =
    ap (λ k. run_of_turn s pid k) (add-one n) ∙ ap (λ pids. run program_of pids s) (replicate_more n pid)
    ∙ run-append program_of (replicate n pid) (pid ∷ []) s ∙ ap (λ r. following (run_of_turn s pid n) r) (single (run_of_turn s pid n).final pid ∙ ap (λ m. one_step m pid) (sym at))
