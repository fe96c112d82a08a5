use Rattle.std.proofs.Common.{◌∙◌, ap, sym}
use Rattle.pv_calls_plain.specs.Performed.{answered}
use Rattle.pv_model.specs.Machine.{done, wait, returns_bytes, process_at}
use Rattle.pv_calls_state.specs.OfProcs.Reaping.{waited}
use Rattle.pv_calls_state.proofs.UncountedChanges.{some-at}
use Rattle.pv_calls_plain.proofs.WaitAnswers.{low-child, reported-alike, waiter-lives}
use Rattle.pv_calls_plain.proofs.processes.wait.Goals as goal

pub report_bytes-requires-clause-live : goal.report_bytes-requires-clause-live
report_bytes-requires-clause-live c =
    let s = c.args.parts.now in
    let mine = some-at (process_at s c.args.pid) c.requires.live in
    waiter-lives s c.reap.new.self c.args.pid mine.0 c.requires.whole mine.1 c.in-Child.number c.in-Child.status (c.reap.ensures.performed mine.0 mine.1 ∙ ap (λ r. waited r c.reap.new.self) c.in-Child.is)

pub report_bytes-requires-clause-small : goal.report_bytes-requires-clause-small
report_bytes-requires-clause-small c =
    let s = c.args.parts.now in
    let mine = some-at (process_at s c.args.pid) c.requires.live in
    low-child s c.reap.new.self c.args.pid mine.0 c.requires.whole mine.1 c.in-Child.number c.in-Child.status (c.reap.ensures.performed mine.0 mine.1 ∙ ap (λ r. waited r c.reap.new.self) c.in-Child.is)

pub returns-in-Child : goal.returns-in-Child
returns-in-Child c = record {
  performed = λ before me at.
      let s = c.args.parts.now in
      let number = c.in-Child.number in
      let found = c.reap.ensures.performed me at ∙ ap (λ r. waited r c.reap.new.self) c.in-Child.is in
      reported-alike before s c.reap.new.self c.args.pid me (wait s c.args.pid me) (record { walks = 0; value = number }) c.four_bytes.result (answered c.report_bytes.new.parts c.report_bytes.result)
      (found ∙ ap (λ bytes. done 0 (c.reap.new.self, returns_bytes number bytes)) (sym c.four_bytes.ensures))
      (λ after left. c.report_bytes.ensures before s after me left);
}
