use Rattle.std.proofs.Common.{◌≡◌, ℕ, ◌+◌, ◌-◌, ◌%◌, ◌++◌, Some, length, take, drop, min, sym, ap, ◌∙◌, rules, arith}
use denote.Enum.Bare.{same_true}
use Rattle.std.proofs.Math.Seq.{take-add}
use Rattle.std.proofs.lemmas.Bool.{not-false}
use Rattle.std.proofs.lemmas.List.{length-drop, length-take, take_all, take_min}
use Rattle.std.proofs.lemmas.Slice.Eq.{bytes_eq-Decides}
use Rattle.pv_model.specs.Machine.{Bytes}
use Rattle.pv_model.specs.contracts.kind.Kind.{the_type}
use Rattle.pv_inodes.specs.Files.{inode_bytes_at, sort_at}
use Rattle.pv_inodes.proofs.GreatestUsedInode.{held-same}
use Rattle.pv_inodes.proofs.inodes.Inodes.is_same.Goals as goal

-- a part that ends with the list is as long as it says
front : (xs part : Bytes) (n : ℕ) → part ≡ take n xs → take (length part) xs ≡ part
front xs part n is = ap (λ m. take m xs) (ap length is ∙ length-take n xs) ∙ take_min n xs ∙ sym is

pub loop-at-preserved : goal.loop-at-preserved
loop-at-preserved c =
    let here = inode_bytes_at c.args.self.now c.args.inode in
    let there = inode_bytes_at c.args.other.now c.args.inode in
    let at = c.loop-at.at in
    let run = c.lend-run.result.now in
    let other = c.lend.result.now in
    let wide = 512 - at % 512 in
    let equal : run ≡ other = (bytes_eq-Decides run other).0 (not-false _ (sym c.ne-in-loop-at.ensures ∙ c.if-ne-2.false)) in
    let short = ap length c.lend-run.ensures ∙ length-take wide (drop at here) in
    let next : take (length run) (drop at here) ≡ take (length run) (drop at there) =
    front (drop at here) run wide c.lend-run.ensures
    ∙ equal
    ∙ sym (ap (λ (bs : Bytes). take (length bs) (drop at there)) equal ∙ front (drop at there) other wide c.lend.ensures) in
    record {
      within = omega (arith, short, length-drop at here, c.size-size.ensures.value, c.loop-at-test.true);
      same =
          take-add at (length run) here
          ∙ ap (λ (bs : Bytes). bs ++ take (length run) (drop at here)) c.loop-at.invariant.same
          ∙ ap (λ (bs : Bytes). take at there ++ bs) next
          ∙ sym (take-add at (length run) there);
    }

pub returns : goal.returns
returns c = λ _.
    let here = inode_bytes_at c.args.self.now c.args.inode in
    let there = inode_bytes_at c.args.other.now c.args.inode in
    let kinds : c.kind.result ≡ c.kind-2.result = same_true the_type (search rules) _ _ (not-false _ (sym c.ne.ensures ∙ c.if-ne.false)) in
    let sorts : sort_at c.args.self.now c.args.inode ≡ sort_at c.args.other.now c.args.inode = c.kind.ensures ∙ ap Some kinds ∙ sym c.kind-2.ensures in
    let bytes : here ≡ there =
    sym (take_all c.loop-at.at here (omega (arith, c.size-size.ensures.value)))
    ∙ c.loop-at.invariant.same
    ∙ take_all c.loop-at.at there (omega (arith, c.size.ensures.value)) in
    held-same c.args.self.now c.args.other.now c.args.inode c.requires.used c.requires.also_used sorts bytes
