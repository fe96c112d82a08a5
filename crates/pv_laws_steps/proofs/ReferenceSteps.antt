-- A step that changes the references of its process, before and after a step of another process.
use Rattle.std.proofs.Common.{◌≡◌, ◌≢◌, ℕ, pos, Option, None, Some, refl, ap, sym, subst, ◌∙◌}
use Rattle.pv_model.specs.declared.call.Call.{Call}
use Rattle.pv_model.specs.declared.errno.Errno.{Errno}
use Rattle.pv_model.specs.declared.outcome.Cause.{Cause}
use Rattle.pv_model.specs.declared.outcome.Outcome.TheVariants.{Value}
use Rattle.pv_model.specs.Machine.{Answered, answer, answer_by_attempt, at_next_line, effect, Attempt, done, refused, Bytes, with_result, Effect, returns, collect, needs, calls_for, next, missing_promise, Program, Process, State, process_at, with_process, Stepped, step, step_by, buffer_of}
use Rattle.pv_laws_states.specs.States.{EncodesPrograms, IsValid}
use Rattle.pv_laws_states.proofs.ValidBySteps.{step-keeps_valid}
use Rattle.pv_laws_states.proofs.CallOutcomes.{at_call}
use Rattle.pv_laws_states.proofs.Processes.{process_at-same, update-with}
use Rattle.pv_laws_runs.proofs.OfLawsAccess.ProcessesAfterEnds.{step-is, process_at-collect}
use Rattle.pv_laws_steps.specs.Beside.{with_change}
use Rattle.pv_laws_steps.specs.Commuting.{Commute}
use Rattle.pv_laws_steps.proofs.ChangedPairs.{SteppedTo}
use Rattle.pv_laws_steps.proofs.ChangedProcess.{KeepsParent}
use Rattle.pv_laws_steps.proofs.OtherReferences.{change-is, ToCollect}
use Rattle.pv_laws_steps.proofs.IndependentSteps.{no_act, alone-passes}
use Rattle.pv_laws_steps.proofs.ParentIndependence.{orphan}
use Rattle.pv_laws_steps.proofs.ReportedParts.{lines-reported}
use Rattle.pv_laws_steps.proofs.ExchangedSteps.{answer-held, Two, after_k, heir, commute-steps, call-twice}

-- a step changes its process, and collects the nodes and files that nothing references afterwards
pub record Gives (program_of : Bytes → Option Program) (s : State) (j : ℕ) (p : Process) (call : Call) (f : Process → Process) (w v : ℕ) : Type 0 where
  pub calls : step program_of s j ≡ step_by program_of s j p (calls_for call)
  pub answered : answer program_of s j call ≡ record { after = collect (with_change s j f); outcome = Value v; walks = w }
  pub buffer : buffer_of (process_at (answer program_of s j call).after j) ≡ (f p).buffer

module _ (program_of : Bytes → Option Program) (s : State) (whole : IsValid s) (j : ℕ) (p : Process) (at : process_at s j ≡ Some p) (call : Call) (comes : next p ≡ calls_for call) (held : missing_promise p.promises (needs call) ≡ None)
    (f : Process → Process) (w v : ℕ) (q : Process) (becomes : f p ≡ with_result q (pos v) 0)
    (does : effect program_of (at_call s j p) j (at_next_line p) call ≡ done w (with_process s j q, returns v)) where
  abbrev reported : Process → Process
  reported r = with_result r (pos v) 0

  answered-is : answer program_of s j call ≡ record { after = collect (with_change s j f); outcome = Value v; walks = w }
  answered-is =
      answer-held program_of s j p call at held
      ∙ ap (answer_by_attempt s (at_call s j p) j (at_next_line p)) does
      ∙ ap (λ z. record { after = collect z; outcome = Value v; walks = w })
      (update-with s j reported q ∙ ap (with_process s j) (sym becomes) ∙ change-is j f s whole.processes.ascending p at)

  buffer-is : buffer_of (process_at (answer program_of s j call).after j) ≡ (f p).buffer
  buffer-is =
      ap (λ (a : Answered). buffer_of (process_at a.after j)) answered-is
      ∙ ap buffer_of (process_at-collect (with_change s j f) j)
      ∙ ap (λ z. buffer_of (process_at z j)) (sym (change-is j f s whole.processes.ascending p at))
      ∙ ap buffer_of (process_at-same s j (f p))

  pub gives : Gives program_of s j p call f w v
  gives = record { calls = step-is program_of s j p at ∙ ap (step_by program_of s j p) comes; answered = answered-is; buffer = buffer-is }

module _ (program_of : Bytes → Option Program) (encodes : EncodesPrograms program_of) (s : State) (j k : ℕ) (p : Process) (whole : IsValid s) (apart : j ≢ k) (at : process_at s j ≡ Some p)
    (call : Call) (comes : next p ≡ calls_for call) (held : missing_promise p.promises (needs call) ≡ None) where
  abbrev t : State
  t = after_k program_of encodes s j k p whole apart at

  abbrev n : ℕ
  n = heir program_of encodes s j k p whole apart at

  abbrev now : Process
  now = at_next_line p

  abbrev one : Attempt Effect
  one = effect program_of (at_call s j p) j now call

  abbrev other : Attempt Effect
  other = effect program_of (at_call t j (orphan n p)) j (orphan n now) call

  -- both calls are refused
  pub refused-commute : (w : ℕ) (e : Errno) (c : Cause) → one ≡ refused w e c → other ≡ refused w e c → Commute program_of s j k
  refused-commute w e c one_is other_is =
      commute-steps program_of encodes s j k p whole apart at ⊥ no_act
      (call-twice program_of encodes s j k p whole apart at ⊥ no_act (λ a z. absurd a) (λ a q h same. absurd a) (λ a q h same. absurd a) call comes held
      (subst (λ a. Two ⊥ no_act s t j n now a other) (sym one_is) (subst (λ b. Two ⊥ no_act s t j n now (refused w e c) b) (sym other_is) (record { both = (refl, refl, refl) }))))
      (alone-passes program_of encodes s j k p whole apart at)

  -- both calls have the same effect; the first state changes in nothing else, and the step of k follows the change
  module _ (f : Process → Process) (keeps : KeepsParent f) (w v : ℕ) (gives_s : Gives program_of s j p call f w v) (gives_t : Gives program_of t j (orphan n p) call f w v) (settled : (step program_of s j).after ≡ with_change s j f)
      (beside : SteppedTo (ToCollect j f) (step program_of s k) (step program_of (with_change s j f) k)) where
    outcome-same : (answer program_of t j call).outcome ≡ (answer program_of s j call).outcome
    outcome-same = ap (λ (a : Answered). a.outcome) gives_t.answered ∙ sym (ap (λ (a : Answered). a.outcome) gives_s.answered)

    walks-same : (answer program_of t j call).walks ≡ (answer program_of s j call).walks
    walks-same = ap (λ (a : Answered). a.walks) gives_t.answered ∙ sym (ap (λ (a : Answered). a.walks) gives_s.answered)

    -- the lines do not report the buffer of the parent
    buffer-same : buffer_of (process_at (answer program_of t j call).after j) ≡ buffer_of (process_at (answer program_of s j call).after j)
    buffer-same = gives_t.buffer ∙ ap (λ (r : Process). r.buffer) (keeps.whoever p n) ∙ sym gives_s.buffer

    -- the state after both steps, in the opposite order, is collected
    valid-both : IsValid (step program_of (with_change s j f) k).after
    valid-both = step-keeps_valid program_of encodes (with_change s j f) k (subst IsValid settled (step-keeps_valid program_of encodes s j whole))

    pub given-commute : Commute program_of s j k
    given-commute = record {
      first = record {
        outcome = ap (λ (w : Stepped). w.outcome) gives_t.calls ∙ outcome-same ∙ sym (ap (λ (w : Stepped). w.outcome) gives_s.calls);
        lines =
            ap (λ (w : Stepped). w.lines) gives_t.calls
            ∙ lines-reported j p (orphan n p) call (answer program_of s j call) (answer program_of t j call) refl outcome-same walks-same buffer-same
            ∙ sym (ap (λ (w : Stepped). w.lines) gives_s.calls);
      };
      second = record { outcome = ap (λ x. (step program_of x k).outcome) settled ∙ beside.outcome; lines = ap (λ x. (step program_of x k).lines) settled ∙ beside.lines };
      after =
          ap (λ (w : Stepped). w.after) gives_t.calls ∙ ap (λ (a : Answered). a.after) gives_t.answered
          ∙ sym beside.after ∙ valid-both.collected ∙ sym (ap (λ x. (step program_of x k).after) settled);
    }
