use Rattle.std.proofs.Common.{◌≡◌, ◌+◌, ◌-◌, ◌≤◌, length, take, drop, arith}
use Rattle.std.proofs.lemmas.List.{length-take-le, length-drop}
use Rattle.pv_inodes.specs.Files.{inode_bytes_at}
use Rattle.pv_inodes.proofs.ReadResults.{read_more}
use Rattle.pv_inodes.proofs.inodes.Inodes.read_at.Goals as goal

pub loop-done-preserved : goal.loop-done-preserved
loop-done-preserved c =
    let more : c.loop-done.done ≤ c.min-end.result = omega arith in
    let whole : c.loop-done.done + (c.min-end.result - c.loop-done.done) ≡ c.min-end.result = omega arith in
    let long : length (take (c.min-end.result - c.loop-done.done) (drop c.loop-done.done c.loop-done.buffer)) ≡ c.min-end.result - c.loop-done.done = length-take-le (c.min-end.result - c.loop-done.done) (drop c.loop-done.done c.loop-done.buffer) (omega (arith, length-drop c.loop-done.done c.loop-done.buffer)) in
    let step = read_more (inode_bytes_at c.args.self.now c.args.inode) c.args.buffer.now c.args.at c.loop-done.done (c.min-end.result - c.loop-done.done) (omega arith) (omega arith) in
    record {
      within = omega arith;
      front = rw (c.read_part.ensures, long, c.loop-done.invariant.front) (rw whole at step);
    }
