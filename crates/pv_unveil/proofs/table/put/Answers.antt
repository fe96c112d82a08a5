use Rattle.std.proofs.Common.{sym}
use Rattle.pv_unveil.proofs.EntryNumbers.{entry_for-set, permissions_at-set, entry_for-push, permissions_at-push}
use Rattle.pv_unveil.proofs.table.put.Goals as goal

pub returns-else-not-covers-clause-number : goal.returns-else-not-covers-clause-number
returns-else-not-covers-clause-number c =
    rw c.replace.ensures (entry_for-set c.args.entries.now c.args.target c.args.permissions c.in-Some.k (sym c.in-Some.ensures.value))

pub returns-else-not-covers-clause-permissions : goal.returns-else-not-covers-clause-permissions
returns-else-not-covers-clause-permissions c =
    rw c.replace.ensures (permissions_at-set c.args.entries.now c.args.target c.args.permissions c.in-Some.k c.in-Some.ensures.in_table)

pub returns-else-count-ge-UNVEILS-clause-number : goal.returns-else-count-ge-UNVEILS-clause-number
returns-else-count-ge-UNVEILS-clause-number c =
    rw (c.push.ensures, c.len-count.ensures.value) (entry_for-push c.args.entries.now c.args.target c.args.permissions (sym c.in-None.ensures.value))

pub returns-else-count-ge-UNVEILS-clause-permissions : goal.returns-else-count-ge-UNVEILS-clause-permissions
returns-else-count-ge-UNVEILS-clause-permissions c =
    rw (c.push.ensures, c.len-count.ensures.value) (permissions_at-push c.args.entries.now c.args.target c.args.permissions)
