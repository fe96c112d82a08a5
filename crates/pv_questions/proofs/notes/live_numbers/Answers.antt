use Rattle.std.proofs.Common.{◌∙◌, ℕ, ◌++◌, List, append-nil, append_assoc, ap, sym}
use Rattle.pv_policy.proofs.OfAnswers.ProcessSequence.{all-after, fewer-after, next-record, none-after, records_after}
use Rattle.pv_policy.specs.OfProcs.ProcessTable.{ProcessTable, number_after}
use Rattle.pv_questions.proofs.LiveNumbers.{numbers-all, numbers-next, numbers_in}
use Rattle.pv_questions.proofs.notes.live_numbers.Goals as goal

pub loop-pid-init : goal.loop-pid-init
loop-pid-init c =
    let s = c.args.parts.now in
    ap (λ (pids : List ℕ). pids ++ numbers_in (records_after 0 s.processes)) c.new-pids.ensures.items
    ∙ ap numbers_in (all-after s.last_process s.processes c.invariant.ensures.processes.numbers) ∙ numbers-all s

pub loop-pid-smaller : goal.loop-pid-smaller
loop-pid-smaller c =
    let s = c.args.parts.now in
    let is = ap (λ (ps : ProcessTable). number_after c.loop-pid.last ps.processes) (sym c.processes.ensures) ∙ sym c.next_number.ensures ∙ c.in-Some.is in
    fewer-after c.loop-pid.last c.in-Some.pid s.processes (next-record c.loop-pid.last c.in-Some.pid s.processes c.invariant.ensures.processes.ascending is)

pub loop-pid-preserved : goal.loop-pid-preserved
loop-pid-preserved c =
    let s = c.args.parts.now in
    let is = ap (λ (ps : ProcessTable). number_after c.loop-pid.last ps.processes) (sym c.processes.ensures) ∙ sym c.next_number.ensures ∙ c.in-Some.is in
    let next = next-record c.loop-pid.last c.in-Some.pid s.processes c.invariant.ensures.processes.ascending is in
    ap (λ (pids : List ℕ). pids ++ numbers_in (records_after c.in-Some.pid s.processes)) c.in_ok-push_if_live.ensures
    ∙ append_assoc c.loop-pid.pids.items _ _
    ∙ ap (λ (ns : List ℕ). c.loop-pid.pids.items ++ ns) (sym (numbers-next s c.loop-pid.last c.in-Some.pid next)) ∙ c.loop-pid.invariant

pub returns : goal.returns
returns c =
    let s = c.args.parts.now in
    let is = ap (λ (ps : ProcessTable). number_after c.loop-pid.last ps.processes) (sym c.processes.ensures) ∙ sym c.next_number.ensures ∙ c.in_default.is in
    let none = ap numbers_in (none-after c.loop-pid.last s.processes is) in
    sym (append-nil c.loop-pid.pids.items) ∙ sym (ap (λ (ns : List ℕ). c.loop-pid.pids.items ++ ns) none) ∙ c.loop-pid.invariant
