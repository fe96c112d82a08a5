use Rattle.std.proofs.Common.{◌≡◌, ◌<◌, [], ◌∷◌, ◌++◌, nat_le, ◌&&◌, is_some, length, map, lit<, refl, ap, sym, ◌∙◌, arith}
use Rattle.pv_audit.specs.declared.suspects.Suspect.{Suspect}
use Rattle.std.proofs.lemmas.Bool.{and_parts, leb-true}
use Rattle.pv_calls_state.specs.OfProcs.ProcessTable.{ProcessTable, process_in}
use Rattle.pv_audit.specs.Findings.{suspect}
use Rattle.pv_audit.proofs.LiveProcesses.{Recorded, start, below-zero, below-all, suspects-more, suspects-same, suspects-few}
use Rattle.pv_audit.proofs.suspects.live_suspects.Goals as goal
use Rattle.pv_audit.proofs.suspects.live_suspects.Goals.{then-live, else-live}

pub loop-pid-init : goal.loop-pid-init
loop-pid-init c = c.new-suspects.ensures ∙ sym (ap (map start) (below-zero c.args.parts.now.processes))

pub push-requires : goal.push-requires
push-requires c =
    let rs = c.args.parts.now.processes in
    let lives = sym (c.live.ensures ∙ ap (λ (ps : ProcessTable). is_some (process_in ps c.loop-pid.pid)) c.processes.ensures) ∙ c.if-live.true in
    let few = suspects-few c.loop-pid.pid rs c.loop-pid.suspects.items c.invariant.ensures.processes.ascending c.loop-pid.invariant lives in
    let small : length c.loop-pid.suspects.items < 32 = omega (arith, few, c.invariant.ensures.processes.count) in
    (lit< tt, small)

pub loop-pid-preserved : goal.loop-pid-preserved
loop-pid-preserved c =
    let rs = c.args.parts.now.processes in
    let sorted = c.invariant.ensures.processes.ascending in
    let tested = sym (c.live.ensures ∙ ap (λ (ps : ProcessTable). is_some (process_in ps c.loop-pid.pid)) c.processes.ensures) in
    elim c.if-live.branch [
      | then-live w ↦
          let added : c.if-live.suspects.items ≡ c.loop-pid.suspects.items ++ suspect c.loop-pid.pid ∷ [] =
          rw w.suspects-is (w.push.ensures.items ∙ ap (λ (x : Suspect). c.loop-pid.suspects.items ++ x ∷ []) w.new.ensures) in
          suspects-more c.loop-pid.pid rs c.loop-pid.suspects.items c.if-live.suspects.items sorted c.loop-pid.invariant (tested ∙ w.if-live.true) added
      | else-live w ↦
          let same : c.if-live.suspects.items ≡ c.loop-pid.suspects.items = rw w.suspects-is refl in
          same ∙ suspects-same c.loop-pid.pid rs c.loop-pid.suspects.items sorted c.loop-pid.invariant (tested ∙ w.if-live.false)
    ]

pub returns : goal.returns
returns c =
    let ps = c.invariant.ensures.processes in
    c.loop-pid.invariant
    ∙ ap (map start)
    (below-all c.loop-pid.pid c.args.parts.now.processes (λ (r : Recorded). nat_le 1 r.0 && nat_le r.0 c.args.parts.now.last_process) ps.numbers
    (λ r passes. let low = leb-true r.0 c.args.parts.now.last_process (and_parts (nat_le 1 r.0) _ passes).1 in omega (arith, low, ps.last, c.loop-pid-test.false)))
