use Rattle.std.proofs.Common.{◌≡◌, [], ◌++◌, replicate, ap, ◌∙◌}
use Rattle.std.proofs.lemmas.List.{append_assoc}
use Rattle.pv_model.specs.Machine.{Bytes, little_endian, magic}
use Rattle.pv_image_write.specs.Encoding.{first_block}
use Rattle.pv_image_write.proofs.image.prefix.Goals as goal

one-by-one : (m a b z none first second third fourth : Bytes) → none ≡ [] → first ≡ none ++ m → second ≡ first ++ a → third ≡ second ++ b → fourth ≡ third ++ z
    → fourth ≡ m ++ (a ++ (b ++ z))
one-by-one m a b z none first second third fourth p q r s e =
    e ∙ ap (λ (xs : Bytes). xs ++ z) (s ∙ ap (λ (xs : Bytes). xs ++ b) (r ∙ ap (λ (xs : Bytes). xs ++ a) (q ∙ ap (λ (xs : Bytes). xs ++ m) p)))
    ∙ append_assoc (m ++ a) b z ∙ append_assoc m a (b ++ z)

pub returns-clause-items : goal.returns-clause-items
unfolding first_block
returns-clause-items c =
    one-by-one (magic c.args.version) (little_endian 2 c.args.blocks) (little_endian 2 c.args.inodes) (replicate 500 0)
    c.in_ok-bytes.bytes.items c.put.new.bytes.items c.put_u16.new.bytes.items c.put_u16-2.new.bytes.items c.put_zeros.new.bytes.items
    c.in_ok-bytes.ensures.items (c.put.ensures.items ∙ ap (λ (xs : Bytes). c.in_ok-bytes.bytes.items ++ xs) c.magic.ensures.value)
    c.put_u16.ensures.items c.put_u16-2.ensures.items c.put_zeros.ensures.items
