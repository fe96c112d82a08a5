use Rattle.std.proofs.Common.{sym, ◌∙◌}
use Rattle.pv_laws_trees.proofs.FirstErrors.{version_of-magic, magic-version_of}
use Rattle.pv_model.specs.Mount.{short, other_magic, other_sizes}
use Rattle.pv_image_mount.proofs.image.Image.read.Goals as goal

pub returns-then-bytes-lt-BLOCK-clause-refused : goal.returns-then-bytes-lt-BLOCK-clause-refused
returns-then-bytes-lt-BLOCK-clause-refused c = short c.if-bytes-lt-BLOCK.true

pub returns-in_default-clause-refused : goal.returns-in_default-clause-refused
returns-in_default-clause-refused c =
    other_magic c.if-bytes-lt-BLOCK.false
    (λ v begins. c.in_default.not-Some v (c.version_of.ensures ∙ version_of-magic c.args.bytes.now v begins))

pub returns-then-not-has_sizes-clause-refused : goal.returns-then-not-has_sizes-clause-refused
returns-then-not-has_sizes-clause-refused c =
    other_sizes c.in-Some.version c.if-bytes-lt-BLOCK.false (magic-version_of c.args.bytes.now c.in-Some.version (sym c.version_of.ensures ∙ c.in-Some.is))
    (sym c.has_sizes.ensures ∙ c.if-not-has_sizes.true)
