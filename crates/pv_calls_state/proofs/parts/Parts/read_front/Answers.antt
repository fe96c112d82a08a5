use Rattle.std.proofs.Common.{◌≡◌, ◌∙◌, ◌≤◌, ◌++◌, arith, ap, sym, length, drop}
use Rattle.std.proofs.lemmas.List.{length-take}
use Rattle.pv_model.specs.Machine.{bytes_of, State, node_at}
use Rattle.pv_calls_state.specs.Changes.{bytes_read}
use Rattle.pv_procs.specs.ProcessTable.{process_in}
use Rattle.pv_calls_state.proofs.UncountedChanges.{counted-updated_table, same-record, lent-is}
use Rattle.pv_calls_state.proofs.ReadBuffers.{lent-back, read-update}
use Rattle.pv_calls_state.proofs.parts.Parts.read_front.Goals as goal

pub invariant_of-self : goal.invariant_of-self
invariant_of-self c =
    let i = c.self.inside in
    counted-updated_table i.tree i.files i.processes c.self.invariant c.invariant.ensures.ascending c.args.pid _ (λ p at.
    let mine = lent-is (process_in i.processes c.args.pid) p c.record_mut.result.now c.record_mut.ensures.value at in
    same-record p _ (ap (λ r. r.directory) mine) (ap (λ r. r.unveiled.table) mine) (ap (λ r. r.descriptors) mine))

pub returns-clause-front : goal.returns-clause-front
returns-clause-front c =
    let i = c.self.inside in
    let s = c.args.self.now in
    let own = c.record_mut.result.now.context.buffer in
    let same : c.buffer_mut-buffer.result.now ≡ own = c.buffer_mut-buffer.ensures.value in
    let bytes = bytes_read s.tree c.args.node c.args.at c.args.count in
    let few : length bytes ≤ length own =
    omega (arith, length-take c.args.count (drop c.args.at (bytes_of (node_at s.tree c.args.node))), sym (ap length same) ∙ c.buffer_mut-buffer.ensures.size, c.requires.few) in
    let front = c.read_part.ensures.front ∙ ap (λ (x : State). let bs = bytes_read x.tree c.args.node c.args.at c.args.count in bs ++ drop (length bs) c.buffer_mut-buffer.result.now) c.self.view_is
    ∙ ap (λ b. bytes ++ drop (length bytes) b) same in
    read-update i.tree i.files i.processes s c.self.view_is c.args.pid c.record_mut.result.now c.record_mut.ensures.value _ bytes (lent-back own bytes _ few front)
