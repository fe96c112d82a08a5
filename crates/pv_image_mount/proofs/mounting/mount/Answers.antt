use Rattle.std.proofs.Common.{◌∙◌, ap, subst}
use Rattle.pv_model.specs.Machine.{Bytes, field}
use Rattle.pv_image_mount.proofs.MountedImages.{Holds, is_image, is_mounted, long_enough}
use Rattle.pv_image_mount.proofs.mounting.mount.Goals as goal

pub u16_at-inodes-requires : goal.u16_at-inodes-requires
u16_at-inodes-requires c =
    rw c.deref-2.ensures.value
    (long_enough c.args.bytes.items c.in_ok-version.version (subst (λ (bs : Bytes). Holds bs c.in_ok-version.version) c.deref.ensures.value c.in_ok-version.ensures.accepted))

pub of_image-requires : goal.of_image-requires
of_image-requires c =
    is_image c.args.bytes.items c.in_ok-version.version c.u16_at-inodes.result (subst (λ (bs : Bytes). Holds bs c.in_ok-version.version) c.deref.ensures.value c.in_ok-version.ensures.accepted)
    (c.u16_at-inodes.ensures ∙ ap (λ (bs : Bytes). field bs 10 2) c.deref-2.ensures.value)

pub returns-clause-mounted : goal.returns-clause-mounted
returns-clause-mounted c =
    is_mounted c.args.bytes.items c.in_ok-version.version c.in_ok-of_image.field-0 (subst (λ (bs : Bytes). Holds bs c.in_ok-version.version) c.deref.ensures.value c.in_ok-version.ensures.accepted) c.in_ok-of_image.ensures
