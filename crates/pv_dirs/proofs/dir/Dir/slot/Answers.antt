use Rattle.std.proofs.Common.{◌≡◌, length, replicate, take, ap, sym, ◌∙◌, arith}
use Rattle.std.proofs.lemmas.List.{length-take-le, take_at}
use Rattle.pv_model.specs.Machine.{entry_length}
use Rattle.pv_dirs.specs.Dirs.{directory_bytes}
use Rattle.pv_dirs.proofs.SlotBytes.{slot_taken, length-slot_at}
use Rattle.pv_dirs.proofs.EqualParts.{slot_greatest, slot_some, component_within}
use Rattle.pv_dirs.proofs.dir.Dir.slot.Goals as goal

pub returns : goal.returns
returns c =
    let v = c.args.self.now.inodes.now.version in
    let bytes = directory_bytes c.args.self.now in
    let whole = c.layout-length.ensures.slot_length ∙ ap entry_length c.version.ensures in
    let long : length (take c.layout-length.result.slot_length (replicate 260 0)) ≡ entry_length v =
    length-take-le c.layout-length.result.slot_length (replicate 260 0) (omega (arith, whole, slot_greatest v)) ∙ whole in
    let taken = slot_taken v bytes (take c.layout-length.result.slot_length (replicate 260 0)) c.read_at.new.buffer c.args.k c.read_at.result c.start-at.result c.start-at.ensures c.requires.within c.read_at.ensures.count c.read_at.ensures.bytes long in
    let as_long = ap length taken ∙ length-slot_at v bytes c.args.k (component_within (entry_length v) (slot_some v) c.args.k (length bytes) c.requires.within) in
    take_at c.read_at.new.buffer _ c.layout-length.result.slot_length (as_long ∙ sym whole) ∙ taken
