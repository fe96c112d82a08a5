use Rattle.std.proofs.Common.{◌≡◌, ◌⊎◌, ◌≤◌, Result, Ok, Err, IfOk, IfErr, inr, bytes_eq, length, take, sym, ap, subst, ◌∙◌, arith}
use Rattle.std.proofs.lemmas.Slice.Eq.{bytes_eq-Decides}
use Rattle.pv_model.specs.declared.fault.ImageFault.{ImageFault}
use Rattle.pv_model.specs.declared.fault.ImageFault.TheVariants.{Memory}
use Rattle.pv_model.specs.declared.limits.TheConstants.{BLOCK}
use Rattle.pv_model.specs.declared.version.Version.TheVariants.{V1}
use Rattle.pv_model.specs.Machine.{Bytes, magic, Tree}
use Rattle.pv_image.proofs.MigrationResults.{first-short, first-magic, mounted-first}
use Rattle.pv_image.proofs.first.mount_first.Goals as goal

pub returns-then-len-lt-BLOCK-clause-refused : goal.returns-then-len-lt-BLOCK-clause-refused
returns-then-len-lt-BLOCK-clause-refused c = inr (first-short c.args.bytes.items (omega (arith, c.if-len-lt-BLOCK.true, c.len.ensures, c.args.bytes.ok.0)))

pub returns-then-not-is_first-clause-refused : goal.returns-then-not-is_first-clause-refused
returns-then-not-is_first-clause-refused c =
    let long : BLOCK ≤ length c.args.bytes.items = omega (arith, c.if-len-lt-BLOCK.false, c.len.ensures, c.args.bytes.ok.0) in
    inr (first-magic c.args.bytes.items long (ap (λ (bs : Bytes). bytes_eq (take 8 bs) (magic V1)) (sym c.deref.ensures.value) ∙ sym c.is_first.ensures ∙ c.if-not-is_first.true))

pub returns-clause-mounted : goal.returns-clause-mounted
returns-clause-mounted c =
    let long : BLOCK ≤ length c.args.bytes.items = omega (arith, c.if-len-lt-BLOCK.false, c.len.ensures, c.args.bytes.ok.0) in
    let begins = ap (λ (bs : Bytes). bytes_eq (take 8 bs) (magic V1)) (sym c.deref.ensures.value) ∙ sym c.is_first.ensures ∙ c.if-not-is_first.false in
    let same = mounted-first c.args.bytes.items long ((bytes_eq-Decides (take 8 c.args.bytes.items) (magic V1)).0 begins) in
    subst (λ (held : Result Tree ImageFault). IfOk c.mount.result (λ store. held ≡ Ok store)) (sym same) c.mount.ensures.mounted

pub returns-clause-refused : goal.returns-clause-refused
returns-clause-refused c =
    let long : BLOCK ≤ length c.args.bytes.items = omega (arith, c.if-len-lt-BLOCK.false, c.len.ensures, c.args.bytes.ok.0) in
    let begins = ap (λ (bs : Bytes). bytes_eq (take 8 bs) (magic V1)) (sym c.deref.ensures.value) ∙ sym c.is_first.ensures ∙ c.if-not-is_first.false in
    let same = mounted-first c.args.bytes.items long ((bytes_eq-Decides (take 8 c.args.bytes.items) (magic V1)).0 begins) in
    subst (λ (held : Result Tree ImageFault). IfErr c.mount.result (λ fault. (fault ≡ Memory) ⊎ (held ≡ Err fault))) (sym same) c.mount.ensures.refused
