-- The demands of a run, with one more step.
use Rattle.std.proofs.Common.{◌≡◌, ◌∙◌, ℕ, List, [], ◌∷◌, ◌++◌, append_assoc, refl, sym, ap, subst, ⊎_elim, Option, None, Some}
use Rattle.std.proofs.lemmas.List.{append-nil}
use Rattle.pv_model.specs.Machine.{Asked, program_of, step}
use Rattle.pv_model.specs.Answers.Needs.{and_asked, process_images}
use Rattle.pv_needs.specs.Asking.{IsMoreBy}
use Rattle.pv_needs.specs.declared.needs.DemandRecorder.{DemandRecorder}
use Rattle.pv_needs.specs.Granted.{demands_of_step, demands_in}
use Rattle.pv_needs.specs.ProcessImages.{RecordedImage, RecordsCalls}
use Rattle.pv_needs.specs.Recording.{RecordsStep, StopsRecording}
use Rattle.pv_needs.proofs.RecordedImages.{keeps-more}
use Rattle.pv_streams.specs.declared.stop.Stop.{Stop}
use Rattle.pv_streams.specs.declared.stop.Stop.TheVariants.{Memory}
use Rattle.pv_session.specs.Observing.{Observed, AreMade, AreStopped}

and-append : (pid : ℕ) (o : Option Asked) (xs ys : List (ℕ × Asked)) → and_asked program_of pid o (xs ++ ys) ≡ and_asked program_of pid o xs ++ ys
and-append pid None xs ys = refl
and-append pid (Some now) xs ys = refl

-- the records after one more step
keeps-step : (old new : List (List RecordedImage)) (all : List (ℕ × Asked)) (pid : ℕ) (o : Option Asked) → RecordsCalls old all → IsMoreBy old pid o new → RecordsCalls new (all ++ and_asked program_of pid o [])
keeps-step old new all pid None keeps more = subst (RecordsCalls new) (sym (append-nil all)) (subst (λ (k : List (List RecordedImage)). RecordsCalls k all) (sym more) keeps)
keeps-step old new all pid (Some now) keeps more = keeps-more old new all pid now keeps more

-- the records before the first step
pub keeps-none : RecordsCalls [] []
unfolding process_images
keeps-none pid = refl

-- the records after the steps of a run
pub recorded-run : {W : Type 0} (pids : List ℕ) (x z : Observed DemandRecorder W) → AreMade RecordsStep pids x z → (all : List (ℕ × Asked)) → RecordsCalls x.observer.recorded all
    → RecordsCalls z.observer.recorded (all ++ demands_in x.observer.granted program_of pids x.state)
recorded-run [] x z same all keeps =
    subst (λ (t : Observed DemandRecorder _). RecordsCalls t.observer.recorded (all ++ [])) (sym same) (subst (RecordsCalls x.observer.recorded) (sym (append-nil all)) keeps)
recorded-run (pid ∷ pids) x z made all keeps =
    let y = made.0 in
    let first = made.1 in
    let now : Option Asked = demands_of_step x.observer.granted program_of x.state pid in
    let one : List (ℕ × Asked) = and_asked program_of pid now [] in
    let later : List (ℕ × Asked) = demands_in x.observer.granted program_of pids (step program_of x.state pid).after in
    subst (RecordsCalls z.observer.recorded)
    (append_assoc all one (demands_in y.observer.granted program_of pids y.state)
    ∙ ap (λ (xs : List (ℕ × Asked)). all ++ xs)
    (ap (λ g. one ++ demands_in g program_of pids y.state) first.same ∙ ap (λ s. one ++ demands_in x.observer.granted program_of pids s) first.after
    ∙ sym (and-append pid now [] later)))
    (recorded-run pids y z made.2 (all ++ one) (keeps-step x.observer.recorded y.observer.recorded all pid now keeps first.more))

-- only lack of memory stops the run
pub recording-stopped : {W : Type 0} (stop : Stop) (pids : List ℕ) (x z : Observed DemandRecorder W) → AreStopped RecordsStep (StopsRecording stop) pids x z → stop ≡ Memory
recording-stopped stop [] x z none = absurd none
recording-stopped stop (pid ∷ pids) x z stopped = ⊎_elim (λ memory. memory) (λ it. recording-stopped stop pids it.0 z it.2) stopped
