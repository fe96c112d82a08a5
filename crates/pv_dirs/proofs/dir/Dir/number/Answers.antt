use Rattle.std.proofs.Common.{◌*◌, ◌%◌, ◌-◌, take, drop, ap, sym, ◌∙◌, arith}
use Rattle.pv_model.specs.Machine.{entry_length, Bytes}
use Rattle.pv_dirs.specs.Dirs.{directory_bytes}
use Rattle.pv_dirs.specs.Slots.{slot_at, inode_in_slot}
use Rattle.pv_dirs.proofs.SlotBytes.{front_number}
use Rattle.pv_dirs.proofs.EqualParts.{slot_least, slot_front}
use Rattle.pv_dirs.proofs.dir.Dir.number.Goals as goal

pub returns : goal.returns
unfolding slot_at inode_in_slot
returns c =
    let v = c.args.self.now.inodes.now.version in
    let at = entry_length v * c.args.k in
    let rest : Bytes = drop at (directory_bytes c.args.self.now) in
    let lent = c.lend.ensures ∙ ap (λ n. take (512 - n % 512) (drop n (directory_bytes c.args.self.now))) c.start.ensures in
    c.read_u16.ensures ∙ ap inode_in_slot lent
    ∙ front_number (512 - at % 512) rest (omega (arith, slot_front v c.args.k))
    ∙ sym (front_number (entry_length v) rest (omega (arith, slot_least v)))
