use Rattle.std.proofs.Common.{◌≡◌, ◌+◌, Some, is_some, ap, sym, ◌∙◌}
use Rattle.pv_calls_state.specs.Attempts.{collected_attempt}
use Rattle.pv_calls_state.specs.Counts.{state_of, times, open_nodes, IsCountedUp}
use Rattle.pv_model.specs.Machine.{wait, used_files, held_by_process, Process, State, process_at}
use Rattle.pv_procs.specs.declared.processes.Reap.TheVariants.{NoChild}
use Rattle.pv_procs.specs.ProcessTable.{process_in}
use Rattle.pv_calls_state.proofs.UncountedChanges.{some-at}
use Rattle.pv_calls_state.proofs.ReapedChildren.{reap-same, reap-blocked, collected_attempt-waited}
use Rattle.pv_calls_state.proofs.CollectionByCounts.{collect-none}
use Rattle.pv_calls_state.proofs.parts.Parts.reap.Goals as goal
use Rattle.pv_calls_state.proofs.parts.Parts.reap.Goals.{After-reap}

me : (c : After-reap) → (p : Process) × (process_in c.self.inside.processes c.args.pid ≡ Some p)
me c = some-at (process_in c.self.inside.processes c.args.pid) (ap (λ (s : State). is_some (process_at s c.args.pid)) c.self.view_is ∙ c.requires)

counted : (c : After-reap) → IsCountedUp c.self.inside.tree c.self.inside.files c.reap.new.self
counted c =
    let i = c.self.inside in
    let before = state_of i.tree i.files i.processes in
    let after = state_of i.tree i.files c.reap.new.self in
    let found = c.reap.ensures.waited i.tree.tree i.files.files (me c).0 in
    let same = λ (none : c.reap.result ≡ NoChild). ap (state_of i.tree i.files) (c.reap.ensures.unchanged none) in
    record {
      users = λ k. c.self.invariant.users k ∙ ap (times k) (sym (reap-same before after c.args.pid (me c).0 c.invariant-3.ensures.ascending used_files c.reap.result found same));
      holds = λ n.
          c.self.invariant.holds n
          ∙ ap (λ ns. times n ns + times n (open_nodes i.files.files)) (sym (reap-same before after c.args.pid (me c).0 c.invariant-3.ensures.ascending held_by_process c.reap.result found same));
    }

pub invariant_of-self : goal.invariant_of-self
invariant_of-self c = counted c

pub returns-clause-performed : goal.returns-clause-performed
returns-clause-performed c = λ p at.
    let i = c.self.inside in
    let after = state_of i.tree i.files c.reap.new.self in
    ap (λ s. collected_attempt (wait s c.args.pid p)) (sym c.self.view_is) ∙ ap collected_attempt (c.reap.ensures.waited i.tree.tree i.files.files p)
    ∙ collected_attempt-waited c.reap.result after (collect-none i.tree i.files c.reap.new.self (counted c) c.invariant-2.ensures c.invariant.ensures)

pub returns-clause-blocked : goal.returns-clause-blocked
returns-clause-blocked c = λ none.
    let i = c.self.inside in
    reap-blocked (state_of i.tree i.files i.processes) (state_of i.tree i.files c.reap.new.self) c.args.pid (me c).0 c.invariant-3.ensures.ascending c.reap.result
    (c.reap.ensures.waited i.tree.tree i.files.files (me c).0) none
    ∙ c.self.view_is
