use Rattle.std.proofs.Common.{inr, sym, ap, ◌∙◌}
use Rattle.std.proofs.lemmas.Result.{err_from_is_err_and}
use Rattle.pv_model.specs.Machine.{Tree}
use Rattle.pv_image.specs.Migrated.{has_room}
use Rattle.pv_image.proofs.MigrationResults.{refuses-image, migrated-small}
use Rattle.pv_image.proofs.migrating.mount_roomy.Goals as goal

pub returns-in_err-store-clause-refused : goal.returns-in_err-store-clause-refused
returns-in_err-store-clause-refused c =
    let p = err_from_is_err_and c.from_residual.result c.from_residual.ensures.1 in
    rw p.1 (refuses-image c.args.bytes.items c.args.blocks c.args.inodes c.in_err-store.field-0.0 p.0 p.2 c.in_err-store.ensures.refused)

pub returns-then-not-has_room-clause-refused : goal.returns-then-not-has_room-clause-refused
returns-then-not-has_room-clause-refused c =
    inr (migrated-small c.args.bytes.items c.args.blocks c.args.inodes c.in_ok-store.store c.in_ok-store.ensures.mounted
    (ap (λ (t : Tree). has_room t c.args.blocks c.args.inodes) (sym c.tree.ensures.tree) ∙ sym c.has_room.ensures ∙ c.if-not-has_room.true))

pub returns-clause-room : goal.returns-clause-room
returns-clause-room c =
    ap (λ (t : Tree). has_room t c.args.blocks c.args.inodes) (sym c.tree.ensures.tree) ∙ sym c.has_room.ensures ∙ c.if-not-has_room.false
