use Rattle.std.proofs.Common.{◌≡◌, ◌+◌, ◌-◌, ◌≤◌, length, drop, ap, sym, ◌∙◌, arith}
use Rattle.std.proofs.lemmas.List.{length-take-le, length-drop}
use Rattle.pv_inodes.specs.Files.{inode_bytes_at, files_with_bytes}
use Rattle.pv_inodes.proofs.InodeLayouts.{greatest_length-small}
use Rattle.pv_inodes.proofs.EditedFiles.{files_with_bytes-itself, overwrite-nothing, used-written_files, length-written_files, written_files-more}
use Rattle.pv_inodes.proofs.inodes.Inodes.overwrite.Goals as goal

pub loop-done-init : goal.loop-done-init
loop-done-init c =
    let place : c.args.at ≤ length (inode_bytes_at c.args.self.now c.args.inode) = omega (arith, c.requires.within) in
    record {
      within = omega arith;
      written = sym (ap (files_with_bytes c.args.self.now c.args.inode) (overwrite-nothing (inode_bytes_at c.args.self.now c.args.inode) c.args.at place) ∙ files_with_bytes-itself c.args.self.now c.args.inode c.requires.used);
    }

pub overflow_cast-from : goal.overflow_cast-from
overflow_cast-from c = omega (arith, c.requires.allowed, greatest_length-small c.args.self.now.version)

pub overflow_add-from : goal.overflow_add-from
overflow_add-from c = omega (arith, c.requires.allowed, greatest_length-small c.args.self.now.version)

pub write_part-requires-clause-used : goal.write_part-requires-clause-used
write_part-requires-clause-used c =
    used-written_files c.args.self.now c.loop-done.self c.args.inode c.args.at c.loop-done.done c.args.bytes.now c.requires.used c.loop-done.invariant.within c.requires.within c.loop-done.invariant.written

pub write_part-requires-clause-within : goal.write_part-requires-clause-within
write_part-requires-clause-within c =
    let long = length-written_files c.args.self.now c.loop-done.self c.args.inode c.args.at c.loop-done.done c.args.bytes.now c.requires.used c.loop-done.invariant.within c.requires.within c.loop-done.invariant.written in
    let size : c.loop-done.done + c.min-count.result - c.loop-done.done ≡ c.min-count.result = omega arith in
    let part = length-take-le c.min-count.result (drop c.loop-done.done c.args.bytes.now) (omega (arith, length-drop c.loop-done.done c.args.bytes.now)) in
    rw (size, part, long) (omega (arith, c.requires.within))

pub loop-done-preserved : goal.loop-done-preserved
loop-done-preserved c =
    let size : c.loop-done.done + c.min-count.result - c.loop-done.done ≡ c.min-count.result = omega arith in
    let more : c.loop-done.done + c.min-count.result ≤ length c.args.bytes.now = omega arith in
    record {
      within = more;
      written = rw size at c.write_part.ensures ∙ written_files-more c.args.self.now c.loop-done.self c.args.inode c.args.at c.loop-done.done c.args.bytes.now c.requires.used c.loop-done.invariant.within c.requires.within c.loop-done.invariant.written c.min-count.result more;
    }
