-- Runs that stop for lack of memory, step by step.
use Rattle.std.proofs.Common.{◌≡◌, ◌++◌, ◌∙◌, ap, sym, subst, ℕ, List, [], ◌∷◌, append_assoc, refl, Option}
use Rattle.pv_calls.specs.Loading.{LoadsProgram}
use Rattle.pv_model.specs.declared.call.Call.{Call}
use Rattle.pv_model.specs.Machine.{Bytes, program_of, State, run}
use Rattle.pv_model.specs.Step.{run_text}
use Rattle.pv_streams.specs.declared.stop.Stop.{Stop}
use Rattle.pv_streams.specs.declared.stop.Stop.TheVariants.{Memory, Write}
use Rattle.pv_session.specs.Running.{stepped}
use Rattle.pv_session.specs.Stopping.{NextLoads, StopsAtLoad, StopsIn, StopsOn}
use Rattle.pv_session.proofs.MachineSteps.{Asks}
use Rattle.pv_streams.specs.Sinks.{and_all}
use Rattle.pv_streams.proofs.OutputTexts.{written_both, written_none}

module _ (text : List ℕ → State → Bytes) (s : State) (pid : ℕ) where
  -- the run stops before the first step
  pub stops-here : (now : State) (written : Option Bytes) → now ≡ s → [] ≡ text [] s → NextLoads s pid → (e : Stop) → e ≡ Memory → StopsIn text e (pid ∷ []) s now written written
  stops-here now written same none loads e memory = rw memory (record {
    made = [];
    pid = pid;
    rest = [];
    all = refl;
    left = same;
    as_written = written_none written ∙ ap (and_all written) none;
    loads = subst (λ (t : State). NextLoads t pid) (sym same) loads;
  })

  -- more steps were to be made
  pub stops-before : (stop : Stop) (pids : List ℕ) (now : State) (before after : Option Bytes) → StopsIn text stop (pid ∷ []) s now before after → StopsIn text stop (pid ∷ pids) s now before after
  stops-before Memory pids now before after stop = record {
    made = stop.made;
    pid = stop.pid;
    rest = stop.rest ++ pids;
    all = ap (λ ps. ps ++ pids) stop.all ∙ append_assoc stop.made (stop.pid ∷ stop.rest) pids;
    left = stop.left;
    as_written = stop.as_written;
    loads = stop.loads;
  }
  stops-before Write pids now before after stop = tt

  -- the first step was made, and its text written
  pub stops-after : (later : List ℕ → State → Bytes) (first : Bytes) (mid : State) → mid ≡ (stepped s pid).after → ((pids : List ℕ) → first ++ later pids mid ≡ text (pid ∷ pids) s)
      → (stop : Stop) (pids : List ℕ) (now : State) (before written after : Option Bytes) → written ≡ and_all before first → StopsIn later stop pids mid now written after → StopsIn text stop (pid ∷ pids) s now before after
  stops-after later first mid at both Memory pids now before written after begun stop = record {
    made = pid ∷ stop.made;
    pid = stop.pid;
    rest = stop.rest;
    all = ap (λ ps. pid ∷ ps) stop.all;
    left = stop.left ∙ ap (λ t. (run program_of stop.made t).final) at;
    as_written = written_both first (later stop.made mid) before written after begun stop.as_written ∙ ap (and_all before) (both stop.made);
    loads = stop.loads;
  }
  stops-after later first mid at both Write pids now before written after begun stop = tt

-- ---- a call that was refused for lack of memory

-- the next call loads a program
pub next-loads : (s : State) (pid : ℕ) (call : Call) → Asks s pid call → LoadsProgram s pid call → NextLoads s pid
next-loads s pid call fetched loads = record { me = fetched.0; call = call; lives = fetched.1; comes = fetched.2; loads = loads }

pub stops-called : (s : State) (pid : ℕ) (call : Call) (new : State) (written : Option Bytes) → new ≡ s → Asks s pid call → LoadsProgram s pid call
    → (e : Stop) → e ≡ Memory → StopsOn e (pid ∷ []) s new written written
stops-called s pid call new written same fetched loads e memory = stops-here (run_text program_of) s pid new written same refl (next-loads s pid call fetched loads) e memory
