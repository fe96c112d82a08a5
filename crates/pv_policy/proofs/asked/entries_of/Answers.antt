use Rattle.std.proofs.Common.{◌≡◌, ◌∙◌, ◌++◌, ◌∷◌, [], Some, ap, option_map, slice_get, sym}
use Rattle.pv_model.specs.declared.perms.Perms.{Perms}
use Rattle.pv_model.specs.declared.target.Target.{Target}
use Rattle.pv_model.specs.Machine.{entries_of_table}
use Rattle.pv_policy.specs.Asked.{entry_granted}
use Rattle.pv_policy.proofs.ListSteps.{mapped-next}
use Rattle.pv_policy.proofs.UsedPermissions.{entry-own}
use Rattle.pv_policy.proofs.asked.entries_of.Goals as goal

pub loop-k-preserved : goal.loop-k-preserved
loop-k-preserved c =
    let t = c.args.tree.now.tree in
    let entries = entries_of_table c.args.table.now.table in
    let k = c.loop-k.k in
    let g = c.in_ok-at_entry.field-0 in
    let at : option_map (λ e. entry_granted t e.0 e.1) (slice_get entries k) ≡ Some g =
    entry-own t (slice_get entries k) c.permissions.result g c.permissions.ensures c.in_ok-at_entry.ensures in
    c.in_ok-push.ensures.items ∙ ap (λ rows. rows ++ g ∷ []) c.loop-k.invariant
    ∙ sym (mapped-next (λ (e : Target × Perms). entry_granted t e.0 e.1) entries k g at)
