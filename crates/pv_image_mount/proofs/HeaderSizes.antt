-- The consequences of valid sizes of an image.
use Rattle.std.proofs.Common.{◌+◌, ◌*◌, ◌≤◌, length}
use Rattle.std.proofs.lemmas.Bool.{and_parts, leb-true}
use Rattle.std.specs.Prelude.{◌&&◌, ◌==◌, nat_le}
use Rattle.pv_model.specs.declared.limits.TheConstants.{BLOCK, INODES}
use Rattle.pv_model.specs.declared.version.Version.{Version}
use Rattle.pv_model.specs.Machine.{Bytes, greatest_blocks, inode_blocks, are_image_sizes, block_number, inode_number}
use Rattle.pv_model.specs.Mount.{HasSizes}

-- the root has an inode
pub root_within : (v : Version) (bytes : Bytes) → HasSizes bytes v → 1 ≤ inode_number bytes
root_within v bytes has =
    let inodes = inode_number bytes in
    let blocks = block_number bytes in
    let some = nat_le 1 inodes in
    let few = nat_le inodes INODES in
    let room = nat_le (inode_blocks v inodes + 1) blocks in
    let all = nat_le blocks (greatest_blocks v) in
    let allowed = (and_parts (are_image_sizes v blocks inodes) (length bytes == BLOCK * blocks) has.sizes).0 in
    let first = (and_parts (some && few && room) all allowed).0 in
    let second = (and_parts (some && few) room first).0 in
    leb-true 1 inodes (and_parts some few second).0
