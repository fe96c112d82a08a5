use Rattle.std.proofs.Common.{◌≡◌, ◌+◌, ◌-◌, ℕ, suc, length, Option, sym, ap, ◌∙◌, arith}
use Rattle.pv_model.specs.Machine.{entries_of_table, Tree, IsWellFormed, Table}
use Rattle.pv_model.specs.Tree.{ancestors_within}
use Rattle.pv_calls_state.proofs.OfUnveil.ClimbSteps.{up-directory}
use Rattle.pv_audit.specs.Findings.{lesser, passing, least_above}
use Rattle.pv_audit.proofs.TableEntries.{least_own, more-up, more-top, own-none, own-governs, ancestors-within}
use Rattle.pv_audit.proofs.entries.least_above.Goals as goal

all_up : (t : Tree) (table : Table) (inodes d : ℕ) → IsWellFormed t → inodes ≡ t.inodes → least_own table (ancestors_within t (inodes + 1) d) ≡ least_above t table d
all_up t table inodes d well is =
    let count : length t.nodes ≡ inodes + 1 = omega (arith, well.numbers, is) in
    sym (ap (least_own table) (ancestors-within t (inodes + 1) d count)) ∙ own-governs t table d well

pub loop-climbed-init : goal.loop-climbed-init
loop-climbed-init c = (
  c.requires,
  λ left total.
      let same : left ≡ c.sizes-climbed-end.result.inodes + 1 = omega (arith, total) in
      ap (λ n. least_own (entries_of_table c.args.table.now.table) (ancestors_within c.args.tree.now.tree n c.args.directory)) same,
)

pub returns-in_default : goal.returns-in_default
returns-in_default c =
    let t = c.args.tree.now.tree in
    let table = entries_of_table c.args.table.now.table in
    let inodes = c.sizes-climbed-end.result.inodes in
    let left : ℕ = inodes - c.loop-climbed._climbed in
    let own = c.lesser-least.ensures ∙ ap (lesser c.loop-climbed.least) (c.with_c.ensures ∙ ap (passing (λ permissions. permissions.c) table) c.directory_entry-own.ensures.value) in
    let top = more-top t table left c.loop-climbed.at c.loop-climbed.least (sym c.above.ensures ∙ c.in_default.is) in
    let so_far = c.loop-climbed.invariant.1 (suc left) (omega (arith, c.loop-climbed-test.true)) in
    own ∙ sym top ∙ so_far ∙ all_up t table inodes c.args.directory c.sizes-climbed-end.ensures.present.well_formed c.sizes-climbed-end.ensures.inodes

pub loop-climbed-preserved : goal.loop-climbed-preserved
loop-climbed-preserved c =
    let t = c.args.tree.now.tree in
    let table = entries_of_table c.args.table.now.table in
    let up = sym c.above.ensures ∙ c.in-Some.is in
    let own = c.lesser-least.ensures ∙ ap (lesser c.loop-climbed.least) (c.with_c.ensures ∙ ap (passing (λ permissions. permissions.c) table) c.directory_entry-own.ensures.value) in (
      up-directory t c.sizes-climbed-end.ensures.present.well_formed c.loop-climbed.at c.in-Some.up up,
      λ left total.
          ap (λ (o : Option ℕ). lesser o (least_own table (ancestors_within t left c.in-Some.up))) own
          ∙ sym (more-up t table left c.loop-climbed.at c.loop-climbed.least c.in-Some.up up) ∙ c.loop-climbed.invariant.1 (suc left) (omega (arith, total)),
    )

pub returns : goal.returns
returns c =
    let t = c.args.tree.now.tree in
    let table = entries_of_table c.args.table.now.table in
    let inodes = c.sizes-climbed-end.result.inodes in
    sym (own-none t table c.loop-climbed.at c.loop-climbed.least)
    ∙ c.loop-climbed.invariant.1 0 (omega (arith, c.loop-climbed.auto._climbed-end, c.loop-climbed-test.false))
    ∙ all_up t table inodes c.args.directory c.sizes-climbed-end.ensures.present.well_formed c.sizes-climbed-end.ensures.inodes
