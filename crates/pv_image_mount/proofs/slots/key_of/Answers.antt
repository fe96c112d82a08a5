use Rattle.std.proofs.Common.{◌≡◌, ◌+◌, ◌*◌, ◌%◌, ◌^◌, drop, get_or, refl, sym, ap, ◌∙◌, arith}
use Rattle.std.proofs.lemmas.List.{drop_more, drop_all}
use Rattle.pv_image_mount.specs.Slots.{key_after}
use Rattle.pv_image_mount.proofs.slots.key_of.Goals as goal

pub loop-byte-init : goal.loop-byte-init
loop-byte-init c = refl

pub loop-byte-preserved : goal.loop-byte-preserved
unfolding key_after
loop-byte-preserved c =
    let name = c.args.name.now in
    let i = c.loop-byte.byte-index in
    let key = c.loop-byte.key * 11400714819323198485 in
    let sum : (key % 2 ^ 64 + c.from.result) % 2 ^ 64 ≡ (key + get_or name i 0) % 2 ^ 64 = omega (arith, c.from.ensures) in
    ap (λ n. key_after n (drop (i + 1) name)) sum
    ∙ sym (ap (key_after c.loop-byte.key) (drop_more name i 0 c.loop-byte-test.true))
    ∙ c.loop-byte.invariant

pub returns : goal.returns
unfolding key_after
returns c = sym (ap (key_after c.loop-byte.key) (drop_all c.loop-byte.byte-index c.args.name.now c.loop-byte-test.false)) ∙ c.loop-byte.invariant
