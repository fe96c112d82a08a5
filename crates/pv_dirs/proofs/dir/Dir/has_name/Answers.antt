use Rattle.std.proofs.Common.{◌≡◌, ap, sym, ◌∙◌, arith, take}
use Rattle.std.proofs.lemmas.Slice.Eq.{bytes_eq-Decides}
use Rattle.pv_model.specs.Machine.{entry_length}
use Rattle.pv_dirs.specs.Dirs.{directory_bytes}
use Rattle.pv_dirs.specs.Slots.{slot_at, name_in_slot}
use Rattle.pv_dirs.proofs.SlotRuns.{run_slot}
use Rattle.pv_dirs.proofs.dir.Dir.has_name.Goals as goal

pub returns : goal.returns
returns c =
    let v = c.args.self.now.inodes.now.version in
    let bytes = directory_bytes c.args.self.now in
    let length = c.layout-length.ensures.slot_length ∙ ap entry_length c.version.ensures in
    let is : c.name_in.result.now ≡ name_in_slot (slot_at v bytes c.args.k) =
    c.name_in.ensures.value ∙ ap (λ n. name_in_slot (take n c.args.run.now)) length
    ∙ ap name_in_slot (run_slot v bytes c.args.run.now c.args.k c.requires.run (omega (arith, length, c.if-run-length.false))) in
    let decides = bytes_eq-Decides c.name_in.result.now c.args.name.now in (
      λ equal. sym is ∙ decides.0 (sym c.eq.ensures ∙ equal),
      λ same. c.eq.ensures ∙ decides.1 (is ∙ same),
    )
