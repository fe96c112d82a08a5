use Rattle.std.proofs.Common.{◌∙◌, ap, sym, is_some, refl, arith}
use Rattle.std.specs.FinMap.Entries.{put}
use Rattle.std.specs.Ordering.{nat_cmp}
use Rattle.pv_model.specs.Machine.{settings_of}
use Rattle.pv_step_lines.specs.Origin.{settings_in}
use Rattle.pv_explain.specs.Keeping.{all_of}
use Rattle.pv_explain.proofs.ProcessOrigins.{put-room, put-once, put-agrees, put-absent}
use Rattle.pv_procs.specs.ProcessTable.{process_in}
use Rattle.pv_explain.proofs.origins.Origins.put.Goals as goal

pub push_reserved-requires : goal.push_reserved-requires
push_reserved-requires c =
    let ks = c.self.inside.preserved.items in
    let few = put-room c.processes-processes.result.now c.invariant.ensures c.args.pid ks c.keep_others.new.preserved.items c.self.invariant.0 c.keep_others.ensures.others (sym c.live.ensures ∙ c.if-live.true) in
    omega (arith, few, c.keep_others.ensures.room, c.self.invariant.1)

pub invariant_of-self : goal.invariant_of-self
invariant_of-self c =
    let ks = c.self.inside.preserved.items in (
      ap (λ ks. Rattle.pv_explain.specs.Keeping.is_once (all_of ks)) c.push_reserved.ensures.items
          ∙ put-once c.processes-processes.result.now c.invariant.ensures c.args.pid ks c.keep_others.new.preserved.items c.self.invariant.0 c.keep_others.ensures.others _ refl,
      omega (arith, c.push_reserved.ensures.capacity, c.keep_others.ensures.room, c.self.invariant.1),
    )

pub returns-then-live : goal.returns-then-live
returns-then-live c q lives =
    let ks = c.self.inside.preserved.items in
    ap (λ ks. settings_of (all_of ks) q) c.push_reserved.ensures.items
    ∙ put-agrees c.processes-processes.result.now c.invariant.ensures c.args.pid ks c.keep_others.new.preserved.items c.self.invariant.0 c.keep_others.ensures.others _ refl q
    (ap (λ ps. is_some (process_in ps q)) c.processes-processes.ensures ∙ ap is_some lives.1)
    ∙ ap (λ all. settings_of (put nat_cmp c.args.pid (settings_in c.args.origins.items) all) q) c.self.view_is

pub returns-else-live : goal.returns-else-live
returns-else-live c q lives =
    put-absent (λ q. is_some (process_in c.processes-processes.result.now q)) c.args.pid (settings_in c.args.origins.items) c.args.self.now (sym c.live.ensures ∙ c.if-live.false) q
    (ap (λ ps. is_some (process_in ps q)) c.processes-processes.ensures ∙ ap is_some lives.1)
