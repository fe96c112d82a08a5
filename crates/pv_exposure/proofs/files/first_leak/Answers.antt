use Rattle.std.proofs.Common.{◌≡◌, ◌∙◌, ◌∷◌, ℕ, List, Option, Some, ap, sym}
use Rattle.std.specs.Prelude.{option_and_then}
use Rattle.pv_model.specs.declared.verdict.Why.{Why}
use Rattle.pv_model.specs.Machine.{first_of, leaks, ProcessRecord, live_process}
use Rattle.pv_programs.specs.OfProcs.ProcessTable.{ProcessTable, number_after}
use Rattle.pv_programs.proofs.OfAnswers.ProcessSequence.{Recorded, all-after, fewer-after, next-record, none-after, records_after}
use Rattle.pv_exposure.proofs.FirstLeaks.{first_among, leak-next, leak_else}
use Rattle.pv_exposure.proofs.files.first_leak.Goals as goal

pub loop-pid-init : goal.loop-pid-init
loop-pid-init c =
    let s = c.args.parts.now in
    ap (λ (rs : List Recorded). first_among s c.args.node rs) (all-after s.last_process s.processes c.invariant.ensures.processes.numbers)

pub loop-pid-smaller : goal.loop-pid-smaller
loop-pid-smaller c =
    let s = c.args.parts.now in
    let is = ap (λ (ps : ProcessTable). number_after c.loop-pid.last ps.processes) (sym c.processes.ensures) ∙ sym c.next_number.ensures ∙ c.in-Some.is in
    fewer-after c.loop-pid.last c.in-Some.pid s.processes (next-record c.loop-pid.last c.in-Some.pid s.processes c.invariant.ensures.processes.ascending is)

pub returns-in-Some-leak_if_live : goal.returns-in-Some-leak_if_live
returns-in-Some-leak_if_live c =
    let s = c.args.parts.now in
    let f = c.args.node in
    let pid = c.in-Some.pid in
    let is = ap (λ (ps : ProcessTable). number_after c.loop-pid.last ps.processes) (sym c.processes.ensures) ∙ sym c.next_number.ensures ∙ c.in-Some.is in
    let next = next-record c.loop-pid.last pid s.processes c.invariant.ensures.processes.ascending is in
    let after = records_after pid s.processes in
    sym
    (sym c.loop-pid.invariant ∙ ap (λ (rs : List Recorded). first_among s f rs) next.first ∙ leak-next s f pid next.entry after
    ∙ ap (λ (o : Option ProcessRecord). leak_else pid (option_and_then (λ p. first_of (leaks s p f)) (live_process o)) (first_among s f after)) (sym next.found)
    ∙ ap (λ (o : Option Why). leak_else pid o (first_among s f after)) (sym c.leak_if_live.ensures ∙ c.in-Some-leak_if_live.is))

pub loop-pid-preserved : goal.loop-pid-preserved
loop-pid-preserved c =
    let s = c.args.parts.now in
    let f = c.args.node in
    let pid = c.in-Some.pid in
    let is = ap (λ (ps : ProcessTable). number_after c.loop-pid.last ps.processes) (sym c.processes.ensures) ∙ sym c.next_number.ensures ∙ c.in-Some.is in
    let next = next-record c.loop-pid.last pid s.processes c.invariant.ensures.processes.ascending is in
    let after = records_after pid s.processes in
    sym
    (sym c.loop-pid.invariant ∙ ap (λ (rs : List Recorded). first_among s f rs) next.first ∙ leak-next s f pid next.entry after
    ∙ ap (λ (o : Option ProcessRecord). leak_else pid (option_and_then (λ p. first_of (leaks s p f)) (live_process o)) (first_among s f after)) (sym next.found)
    ∙ ap (λ (o : Option Why). leak_else pid o (first_among s f after)) (sym c.leak_if_live.ensures ∙ c.in_default-leak_if_live.is))

pub returns : goal.returns
returns c =
    let s = c.args.parts.now in
    let is = ap (λ (ps : ProcessTable). number_after c.loop-pid.last ps.processes) (sym c.processes.ensures) ∙ sym c.next_number.ensures ∙ c.in_default.is in
    sym (ap (λ (rs : List Recorded). first_among s c.args.node rs) (none-after c.loop-pid.last s.processes is)) ∙ c.loop-pid.invariant
