use Rattle.std.proofs.Common.{◌≡◌, ◌+◌, ◌≤◌, ◌<◌, ◌++◌, ℕ, List, length, get_or, take, drop, replicate, ap, sym, subst, ◌∙◌, arith, rules}
use Rattle.std.proofs.lemmas.List.{append-nil, drop_all, take_all}
use Rattle.pv_model.specs.Machine.{inode_number}
use Rattle.pv_image_mount.specs.Places.{targets_of}
use Rattle.pv_image_mount.proofs.NameCounts.{counts_all, counts_begin, counts_more, AreCounted, HasNameCounts}
use Rattle.pv_image_mount.proofs.SlotTargets.{few_targets, target_number}
use Rattle.pv_image_mount.proofs.image.Image.name_counts.Goals as goal

pub loop-n-init : goal.loop-n-init
loop-n-init c =
    let zeros : ℕ → List ℕ = λ m. replicate (m + 1) 0 in
    counts_begin c.args.self.now.version c.args.self.now.bytes.now c.in_ok-counts.counts.items
    (c.in_ok-counts.ensures.items_if_clones_equal (λ y same. search rules) ∙ ap zeros c.args.self.now.are_inodes)

pub add_counts-requires-clause-within : goal.add_counts-requires-clause-within
add_counts-requires-clause-within c = λ i less.
    let v = c.args.self.now.version in
    let bytes = c.args.self.now.bytes.now in
    let n = c.loop-n.n in
    let high : n ≤ inode_number bytes = omega (arith, c.loop-n-test.true, c.args.self.now.are_inodes) in
    let listed : c.as_slice.result.now ≡ targets_of v bytes n = c.as_slice.ensures.value ∙ c.in_ok-targets.ensures in
    let top = (target_number v bytes n (c.requires.contents n c.loop-n.auto.n high) i (subst (λ (l : List ℕ). i < length l) listed less)).1 in
    let same : get_or c.as_slice.result.now i 0 ≡ get_or (targets_of v bytes n) i 0 = ap (λ (l : List ℕ). get_or l i 0) listed in
    let long : length c.as_mut_slice.result.now ≡ inode_number bytes + 1 = ap length c.as_mut_slice.ensures.value ∙ c.loop-n.invariant.long in
    omega (arith, top, same, long)

pub add_counts-requires-clause-few : goal.add_counts-requires-clause-few
add_counts-requires-clause-few c = λ k.
    let v = c.args.self.now.version in
    let bytes = c.args.self.now.bytes.now in
    let n = c.loop-n.n in
    let high : n ≤ inode_number bytes = omega (arith, c.loop-n-test.true, c.args.self.now.are_inodes) in
    let listed : c.as_slice.result.now ≡ targets_of v bytes n = c.as_slice.ensures.value ∙ c.in_ok-targets.ensures in
    let short : length c.as_slice.result.now ≤ 2540 = subst (λ (l : List ℕ). length l ≤ 2540) (sym listed) (few_targets v bytes n (c.requires.inodes n c.loop-n.auto.n high)) in
    let same : get_or c.as_mut_slice.result.now k 0 ≡ get_or c.loop-n.counts.items k 0 = ap (λ (l : List ℕ). get_or l k 0) c.as_mut_slice.ensures.value in
    let few = c.loop-n.invariant.few k in
    let all = c.args.self.now.few_inodes in
    let test = c.loop-n-test.true in
    omega (arith, short, same, few, all, test)

pub loop-n-preserved : goal.loop-n-preserved
loop-n-preserved c =
    let v = c.args.self.now.version in
    let bytes = c.args.self.now.bytes.now in
    let n = c.loop-n.n in
    let old = c.loop-n.counts.items in
    let new = c.add_counts.new.counts in
    let high : n ≤ inode_number bytes = omega (arith, c.loop-n-test.true, c.args.self.now.are_inodes) in
    let listed : c.as_slice.result.now ≡ targets_of v bytes n = c.as_slice.ensures.value ∙ c.in_ok-targets.ensures in
    let long : length new ≡ length old = c.add_counts.auto.counts ∙ ap length c.as_mut_slice.ensures.value in
    let whole = c.loop-n.counts.ok.0 in
    let preserved : take c.loop-n.counts.len (new ++ drop (length new) old) ≡ new =
    ap (λ l. take c.loop-n.counts.len (new ++ l)) (drop_all (length new) old (omega (arith, long)))
    ∙ ap (take c.loop-n.counts.len) (append-nil new)
    ∙ take_all c.loop-n.counts.len new (omega (arith, long, whole)) in
    let counted : AreCounted old (targets_of v bytes n) new =
    subst (λ l. AreCounted l (targets_of v bytes n) new) c.as_mut_slice.ensures.value (subst (λ l. AreCounted c.as_mut_slice.result.now l new) listed c.add_counts.ensures) in
    subst (λ l. HasNameCounts v bytes l (n + 1)) (sym preserved)
    (counts_more v bytes old new n c.loop-n.auto.n c.loop-n.invariant (few_targets v bytes n (c.requires.inodes n c.loop-n.auto.n high)) long counted)

pub returns-clause-counts : goal.returns-clause-counts
returns-clause-counts c =
    let bytes = c.args.self.now.bytes.now in
    let all : c.loop-n.n ≡ inode_number bytes + 1 = omega (arith, c.loop-n-test.false, c.loop-n.auto.n-end, c.args.self.now.are_inodes) in
    counts_all c.args.self.now.version bytes c.loop-n.counts.items c.loop-n.n all c.loop-n.invariant

pub returns-clause-length : goal.returns-clause-length
returns-clause-length c = c.loop-n.invariant.long
