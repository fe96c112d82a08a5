use Rattle.std.proofs.Common.{Bor, List, Option, ℕ, ◌≡◌, ◌-◌, ◌≤◌, ap, subst, sym, ◌∙◌}
use Rattle.std.specs.Ordering.{is_lt}
use Rattle.std.specs.Prelude.{IfSome}
use Rattle.pv_model.specs.Machine.{Bytes}
use Rattle.pv_dirs.specs.Dirs.{directory_bytes}
use Rattle.pv_dirs.specs.Slots.{slot_at, name_in_slot}
use Rattle.pv_dirs.proofs.AscendingNames.{ascend_to}
use Rattle.pv_dirs.proofs.SortedEntries.{by_name}
use Rattle.pv_dirs.proofs.NextNames.{bytes_less, less_from}
use Rattle.pv_dirs.proofs.indexing.ascends_past.Goals as goal

pub returns-then-ascends : goal.returns-then-ascends
returns-then-ascends c = λ is.
    let v = c.args.dir.now.inodes.now.version in
    let bytes = directory_bytes c.args.dir.now in
    let some : 1 ≤ c.args.count = subst (λ (r : Option (Bor (List ℕ))). IfSome r (λ _. 1 ≤ c.args.count)) c.in-Some.is c.requires.before.some in
    let last : c.in-Some.last.now ≡ name_in_slot (slot_at v bytes (c.args.count - 1)) =
    subst (λ (r : Option (Bor (List ℕ))). IfSome r (λ before. before.now ≡ name_in_slot (slot_at v bytes (c.args.count - 1)))) c.in-Some.is c.requires.before.last in
    let less = ap (λ (q : Bytes). is_lt (by_name q c.args.name.now)) (sym last) ∙ sym (bytes_less c.in-Some.last.now c.args.name.now) ∙ sym c.lt.ensures ∙ is in
    ascend_to v bytes c.args.count c.args.name.now some (c.requires.ordered (sym c.ascends.ensures ∙ c.if-ascends.true)) (less_from _ less)
