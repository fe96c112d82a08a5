-- Runs whose trace is written, and runs that write nothing, by their steps.
use Rattle.std.proofs.Common.{◌≡◌, ◌<◌, ◌+◌, ◌*◌, ◌^◌, ◌∙◌, ℕ, zero, suc, List, [], ◌∷◌, ◌++◌, length, length-append, arith, refl, ap, sym, subst, ⊎_elim, Option, None}
use Rattle.std.specs.Prelude.{replicate}
use Rattle.std.proofs.lemmas.Grind.{flat_map-append}
use Rattle.pv_model.specs.declared.stream.Sink.{Ghosts as Writing}
use Rattle.pv_model.specs.Machine.{Bytes, Line, program_of, run, State, trace_bytes}
use Rattle.pv_model.specs.Step.{run_text}
use Rattle.pv_model.specs.Trace.{line_bytes}
use Rattle.pv_streams.specs.Sinks.{and_all, FailsBy, WritesPrefix}
use Rattle.pv_streams.proofs.OutputTexts.{written_both, begins_first, begins_then}
use Rattle.pv_session.specs.declared.running.Tracer.{Tracer}
use Rattle.pv_streams.specs.declared.stop.Stop.{Stop}
use Rattle.pv_streams.specs.declared.stop.Stop.TheVariants.{Memory}
use Rattle.pv_session.specs.Observing.{Observed, observed, AreMade, AreStopped}
use Rattle.pv_session.specs.Running.{BeginsLines, stepped, run_of_turn, WrittenLines}
use Rattle.pv_session.specs.Stopping.{StopsOn, StopsUnread}
use Rattle.pv_session.specs.Tracing.{PassesStep, StopsPass, StopsTrace, TracesStep}
use Rattle.pv_session.proofs.MachineSteps.{written-none}
use Rattle.pv_session.proofs.StoppedRuns.{stops-after, stops-before, stops-here}

-- ---- steps without lines, made at once

no-lines : (xs ys : List Line) → xs ++ ys ≡ [] → (xs ≡ []) × (ys ≡ [])
no-lines [] ys none = (refl, none)
no-lines (x ∷ xs) ys none = (cc none, cc none)

passed-silent : {O W : Type 0} (n pid : ℕ) (s : State) (o : O) (w : W) → AreMade PassesStep (replicate n pid) (observed s o w) (observed (run_of_turn s pid n).final o w)
passed-silent zero pid s o w = refl
passed-silent (suc n) pid s o w = (observed (stepped s pid).after o w, refl, passed-silent n pid (stepped s pid).after o w)

-- a step, and steps without lines made at once after it
pub passes-first : {O W : Type 0} (n pid : ℕ) (s mid new : State) (o : O) (w : W) → mid ≡ (stepped s pid).after → new ≡ (run_of_turn mid pid n).final
    → AreMade PassesStep (replicate (1 + n) pid) (observed s o w) (observed new o w)
passes-first n pid s mid new o w first after =
    let all : suc n ≡ 1 + n = omega arith in
    subst (λ (k : ℕ). AreMade PassesStep (replicate k pid) (observed s o w) (observed new o w)) all
    (observed mid o w, first, subst (λ (t : State). AreMade PassesStep (replicate n pid) (observed mid o w) (observed t o w)) (sym after) (passed-silent n pid mid o w))

module _ {W : Type 0} (sink : Writing W) where
  traced-silent : (n pid : ℕ) (s : State) (o : Tracer) (w : W) → o.lines < 2 ^ 64 → (run_of_turn s pid n).lines ≡ []
      → AreMade (TracesStep sink) (replicate n pid) (observed s o w) (observed (run_of_turn s pid n).final o w)
  traced-silent zero pid s o w few none = refl
  traced-silent (suc n) pid s o w few none =
      let after : State = (stepped s pid).after in
      let silent = no-lines (stepped s pid).lines (run_of_turn after pid n).lines none in
      let count : length (stepped s pid).lines ≡ 0 = ap length silent.0 in (
        observed after o w,
        record {
          after = refl;
          written = subst (λ (lines : List Line). WrittenLines lines (sink.written w) (sink.written w)) (sym silent.0) (written-none (sink.written w));
          quiet = refl;
          few = omega arith;
          counted = omega arith;
        },
        traced-silent n pid after o w few silent.1,
      )

  pub traces-first : (n pid : ℕ) (s mid new : State) (o p : Tracer) (w v : W) → TracesStep sink pid (observed s o w) (observed mid p v) → new ≡ (run_of_turn mid pid n).final → (run_of_turn mid pid n).lines ≡ []
      → AreMade (TracesStep sink) (replicate (1 + n) pid) (observed s o w) (observed new p v)
  traces-first n pid s mid new o p w v first after none =
      let all : suc n ≡ 1 + n = omega arith in
      subst (λ (k : ℕ). AreMade (TracesStep sink) (replicate k pid) (observed s o w) (observed new p v)) all (
        observed mid p v,
        first,
        subst (λ (t : State). AreMade (TracesStep sink) (replicate n pid) (observed mid p v) (observed t p v)) (sym after)
            (traced-silent n pid mid p v (omega (arith, first.counted)) none),
      )

  -- ---- a traced run

  -- lines were written and counted
  pub record IsTraced (lines : List Line) (x z : Observed Tracer W) : Type 0 where
    pub written : WrittenLines lines (sink.written x.out) (sink.written z.out)
    pub quiet : sink.failures z.out ≡ sink.failures x.out
    pub counted : z.observer.lines ≡ x.observer.lines + length lines

  pub traced : (pids : List ℕ) (x z : Observed Tracer W) → AreMade (TracesStep sink) pids x z → x.observer.lines + 7 * length pids < 2 ^ 64 → IsTraced (run program_of pids x.state).lines x z
  traced [] x z same few = subst (λ (t : Observed Tracer W). IsTraced [] x t) (sym same) (record { written = written-none (sink.written x.out); quiet = refl; counted = omega arith })
  traced (pid ∷ pids) x z made few =
      let y : Observed Tracer W = made.0 in
      let step = made.1 in
      let first : List Line = (stepped x.state pid).lines in
      let others : List Line = (run program_of pids (stepped x.state pid).after).lines in
      let rest : IsTraced others y z = subst (λ (s : State). IsTraced (run program_of pids s).lines y z) step.after (traced pids y z made.2 (omega (arith, step.counted, step.few))) in
      record {
        written =
            written_both (trace_bytes first) (trace_bytes others) _ _ _ step.written rest.written
            ∙ ap (and_all (sink.written x.out)) (sym (flat_map-append line_bytes first others));
        quiet = rest.quiet ∙ step.quiet;
        counted = omega (arith, step.counted, step.few, rest.counted, length-append first others);
      }

  -- ---- a traced run that stopped

  pub record IsTraceStopped (stop : Stop) (pids : List ℕ) (x z : Observed Tracer W) : Type 0 where
    pub begun : BeginsLines (run program_of pids x.state).lines (sink.written x.out) (sink.written z.out)
    pub failed : FailsBy stop (sink.failures x.out) (sink.failures z.out)
    pub at : StopsOn stop pids x.state z.state (sink.written x.out) (sink.written z.out)

  pub trace-stopped : (stop : Stop) (pids : List ℕ) (x z : Observed Tracer W) → AreStopped (TracesStep sink) (StopsTrace sink stop) pids x z → IsTraceStopped stop pids x z
  trace-stopped stop [] x z none = absurd none
  trace-stopped stop (pid ∷ pids) x z stopped = ⊎_elim here (λ it. later it (trace-stopped stop pids it.0 z it.2)) stopped
    where
      first : List Line
      first = (stepped x.state pid).lines

      others : List Line
      others = (run program_of pids (stepped x.state pid).after).lines

      both : trace_bytes (first ++ others) ≡ trace_bytes first ++ trace_bytes others
      both = flat_map-append line_bytes first others

      here : StopsTrace sink stop pid x z → IsTraceStopped stop (pid ∷ pids) x z
      here it = record {
        begun = subst (λ (bs : Bytes). WritesPrefix bs (sink.written x.out) (sink.written z.out)) (sym both) (begins_first (trace_bytes first) (trace_bytes others) _ _ it.begun);
        failed = it.failed;
        at = stops-before (run_text program_of) x.state pid stop pids z.state _ _ it.at;
      }

      later : (it : (y : Observed Tracer W) × TracesStep sink pid x y × AreStopped (TracesStep sink) (StopsTrace sink stop) pids y z) → IsTraceStopped stop pids it.0 z → IsTraceStopped stop (pid ∷ pids) x z
      later it rest =
          let y : Observed Tracer W = it.0 in
          let step = it.1 in
          record {
            begun =
                subst (λ (bs : Bytes). WritesPrefix bs (sink.written x.out) (sink.written z.out)) (sym both)
                (begins_then (trace_bytes first) (trace_bytes others) _ _ _ step.written
                (subst (λ (s : State). BeginsLines (run program_of pids s).lines (sink.written y.out) (sink.written z.out)) step.after rest.begun));
            failed = subst (λ (n : ℕ). FailsBy stop n (sink.failures z.out)) step.quiet rest.failed;
            at = stops-after (run_text program_of) x.state pid (run_text program_of) (trace_bytes first) y.state step.after
                (λ ps. ap (λ t. trace_bytes first ++ run_text program_of ps t) step.after ∙ sym (flat_map-append line_bytes first (run program_of ps (stepped x.state pid).after).lines))
                stop pids z.state _ _ _ step.written rest.at;
          }

-- ---- a run without lines that stopped

pub pass-stopped : {O W : Type 0} (pids : List ℕ) (x z : Observed O W) → AreStopped PassesStep StopsPass pids x z → StopsUnread pids x.state z.state
pass-stopped [] x z none = absurd none
pass-stopped (pid ∷ pids) x z stopped =
    ⊎_elim
    (λ it. stops-before (run_text program_of) x.state pid Memory pids z.state None None (stops-here (run_text program_of) x.state pid z.state None it.0 refl it.1 Memory refl))
    (λ it.
    stops-after (run_text program_of) x.state pid (run_text program_of) (trace_bytes (stepped x.state pid).lines) it.0.state it.1
    (λ ps. ap (λ t. trace_bytes (stepped x.state pid).lines ++ run_text program_of ps t) it.1 ∙ sym (flat_map-append line_bytes (stepped x.state pid).lines (run program_of ps (stepped x.state pid).after).lines))
    Memory pids z.state None None None refl (pass-stopped pids it.0 z it.2))
    stopped
