use Rattle.std.proofs.Common.{◌≡◌, ℕ, ◌+◌, ◌<◌, ◌≤◌, length, ap, arith}
use Rattle.pv_tree.specs.Holding.{HeldTree}
use Rattle.pv_tree.proofs.TreeCopies.{AreBelow, are-below, copied-tied, copied-holds}
use Rattle.pv_tree.proofs.tree.Tree.copy_from.Goals as goal
use Rattle.pv_tree.proofs.tree.Tree.copy_from.Goals.{After-from-count}

-- the data of at most 4,097 numbers are copied
few : (c : After-from-count) → c.from-count.result + 1 ≤ 4097
few c = omega (arith, c.from-count.ensures, c.min.ensures, c.inodes.ensures.value, c.other.invariant.counted.few)

-- and those of each node of the other tree
other_below : (c : After-from-count) → AreBelow c.other.inside.directories (c.from-count.result + 1)
other_below c =
    are-below c.other.inside.directories c.bound-2.result (c.from-count.result + 1) c.bound-2.ensures
    (λ n within below. omega (arith, c.from-count.ensures, c.min.ensures, c.max-most.ensures, c.inodes.ensures.numbers))

-- and of this one
self_below : (c : After-from-count) → AreBelow c.self.inside.directories (c.from-count.result + 1)
self_below c =
    let same : length c.self.inside.directories.nodes ≡ length c.other.inside.directories.nodes =
    omega (
      arith,
      c.self.invariant.counted.well_formed.numbers,
      c.other.invariant.counted.well_formed.numbers,
      ap (λ (h : HeldTree). h.tree.inodes) c.self.view_is,
      ap (λ (h : HeldTree). h.tree.inodes) c.other.view_is,
      c.requires.inodes,
    ) in
    are-below c.self.inside.directories c.bound.result (c.from-count.result + 1) c.bound.ensures
    (λ n within below. omega (arith, c.from-count.ensures, c.min.ensures, c.max-most.ensures, c.inodes.ensures.numbers))

pub invariant_of-self : goal.invariant_of-self
invariant_of-self c =
    let a = c.self.inside in
    let b = c.other.inside in
    let start = (goal.at.invariant_of-self c).After-from-count in
    rw (c.copy_from.ensures, c.copy_from_slice.ensures.after, c.copy_from_slice-2.ensures.after, c.copy_from_slice-3.ensures.after)
    (copied-tied a.directories b.directories (c.from-count.result + 1) a.parents a.names a.holds b.parents b.names b.holds (few start) c.self.invariant.counted c.other.invariant (self_below start) (other_below start))

pub returns : goal.returns
returns c =
    let a = c.self.inside in
    let b = c.other.inside in
    let start = (goal.at.returns c).After-from-count in
    rw (c.copy_from.ensures, c.copy_from_slice-3.ensures.after, copied-holds a.directories b.directories (c.from-count.result + 1) a.parents a.names a.holds b.parents b.names b.holds (few start) c.self.invariant.counted c.other.invariant (self_below start) (other_below start))
    c.other.view_is
