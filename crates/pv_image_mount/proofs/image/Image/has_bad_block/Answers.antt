use Rattle.std.proofs.Common.{◌≡◌, false, true, ap, sym, ◌∙◌, arith}
use Rattle.std.proofs.lemmas.Bool.Decides.{nat_tests}
use Rattle.pv_blocks.specs.BlockSet.{is_member}
use Rattle.pv_model.specs.Machine.{used_content, used_index, is_data_block, is_free}
use Rattle.pv_image_mount.specs.Claims.{are_refused_blocks, is_taken_by}
use Rattle.pv_image_mount.proofs.InodeBlocks.{bad_block-refused, has_used_more, size_fits, used_by-free, used_by-used}
use Rattle.pv_image_mount.proofs.InvalidBlocks.{none_refused, refused_flips, taken_flips}
use Rattle.pv_image_mount.proofs.image.Image.has_bad_block.Goals as goal

pub returns-then-kind-eq-FREE-clause-bad : goal.returns-then-kind-eq-FREE-clause-bad
returns-then-kind-eq-FREE-clause-bad c =
    let v = c.args.self.now.version in
    let bytes = c.args.self.now.bytes.now in
    let used = c.args.used.now in
    let free : is_free v bytes c.args.n ≡ true = grind (arith, nat_tests) in
    sym (none_refused (is_data_block v bytes) (is_member used)) ∙ ap (are_refused_blocks (is_data_block v bytes) (is_member used)) (sym (used_by-free v bytes c.args.n free))
    ∙ bad_block-refused v bytes used c.args.n c.requires.used

pub returns-then-kind-eq-FREE-clause-after : goal.returns-then-kind-eq-FREE-clause-after
returns-then-kind-eq-FREE-clause-after c = λ fine.
    let v = c.args.self.now.version in
    let bytes = c.args.self.now.bytes.now in
    let used = c.args.used.now in
    let free : is_free v bytes c.args.n ≡ true = grind (arith, nat_tests) in
    has_used_more v bytes used used c.args.n c.requires.number.0 c.requires.used (λ k. ap (λ l. is_taken_by (is_member used) l k) (sym (used_by-free v bytes c.args.n free)))

pub claim_used-requires-clause-size : goal.claim_used-requires-clause-size
claim_used-requires-clause-size c =
    let v = c.args.self.now.version in
    let bytes = c.args.self.now.bytes.now in
    let used : is_free v bytes c.args.n ≡ false = grind (arith, nat_tests) in
    size_fits v bytes c.args.n c.requires.inode used

pub returns-clause-bad : goal.returns-clause-bad
returns-clause-bad c =
    let v = c.args.self.now.version in
    let bytes = c.args.self.now.bytes.now in
    let set = is_member c.args.used.now in
    let used : is_free v bytes c.args.n ≡ false = grind (arith, nat_tests) in
    c.claim_used.ensures.refused ∙ refused_flips (is_data_block v bytes) set (used_index v bytes c.args.n) (used_content v bytes c.args.n)
    ∙ ap (are_refused_blocks (is_data_block v bytes) set) (sym (used_by-used v bytes c.args.n used)) ∙ bad_block-refused v bytes c.args.used.now c.args.n c.requires.used

pub returns-clause-after : goal.returns-clause-after
returns-clause-after c = λ fine.
    let v = c.args.self.now.version in
    let bytes = c.args.self.now.bytes.now in
    let set = is_member c.args.used.now in
    let used : is_free v bytes c.args.n ≡ false = grind (arith, nat_tests) in
    has_used_more v bytes c.args.used.now c.claim_used.new.used c.args.n c.requires.number.0 c.requires.used
    (λ k. c.claim_used.ensures.after fine k ∙ taken_flips set (used_index v bytes c.args.n) (used_content v bytes c.args.n) k ∙ ap (λ l. is_taken_by set l k) (sym (used_by-used v bytes c.args.n used)))
