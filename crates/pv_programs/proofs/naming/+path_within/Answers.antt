use Rattle.std.proofs.Common.{◌≡◌, ℕ, ◌-◌, ◌++◌, ◌∙◌, length, codes, Option, None, Some, ap, ap₂, refl, sym, arith}
use Rattle.pv_answers.proofs.ListedLines.{next-is, upcoming}
use Rattle.pv_answers.specs.OfListing.Lines.{entries_after}
use Rattle.pv_answers.proofs.OfListing.DirectoryNames.{past-none}
use Rattle.pv_answers.proofs.OfListing.EntryLines.{no-entries}
use Rattle.pv_model.specs.Machine.{Bytes, next_name, entries_at}
use Rattle.pv_programs.specs.Naming.{below_name, first_under, first_within, holds_numbers, or_next}
use Rattle.pv_programs.proofs.FirstNames.{first-from, first-here}
use Rattle.pv_programs.proofs.naming.+path_within.Goals as goal

pub returns-then-branch : goal.returns-then-branch
returns-then-branch t c =
    let tree = c.args.tree.now.tree in
    ap Some c.new.ensures.items ∙ sym (first-here (holds_numbers tree c.args.numbers.now) tree c.args.depth c.args.node (omega arith) (sym c.in_ok-has_program.ensures ∙ c.if-branch.true))

pub returns-then-not-is_directory : goal.returns-then-not-is_directory
returns-then-not-is_directory t c =
    let tree = c.args.tree.now.tree in
    let holds = holds_numbers tree c.args.numbers.now in
    let none = no-entries tree c.args.node (sym c.is_directory.ensures ∙ c.if-not-is_directory.true) in
    sym (first-from holds tree c.args.depth c.args.node (omega arith) (sym c.in_ok-has_program.ensures ∙ c.if-branch.false) ∙ ap (first_under holds tree (c.args.depth - 1)) none)

pub loop-next-init : goal.loop-next-init
loop-next-init t c =
    let tree = c.args.tree.now.tree in
    let n = c.args.node in
    let holds = holds_numbers tree c.args.numbers.now in
    let coming = sym (past-none (entries_at tree n)) ∙ next-is tree tree refl c.requires n None c.next_entry-next.result c.next_entry-next.ensures.value c.next_entry-next.ensures.node in
    sym (first-from holds tree c.args.depth n (omega arith) (sym c.in_ok-has_program.ensures ∙ c.if-branch.false) ∙ ap (first_under holds tree (c.args.depth - 1)) coming)

pub loop-next-smaller : goal.loop-next-smaller
loop-next-smaller t c =
    let tree = c.args.tree.now.tree in
    let es = entries_at tree c.args.node in
    let coming = next-is tree tree refl c.requires c.args.node (Some c.in-Some.name) c.next_entry-next-in-Some.result
    (c.next_entry-next-in-Some.ensures.value ∙ ap (λ (last : Bytes). next_name (Some last) es) c.as_slice-in-Some.ensures.value)
    c.next_entry-next-in-Some.ensures.node in
    omega (arith, ap length coming, ap (λ (next : Option (Bytes × ℕ)). length (upcoming es next)) c.in-Some.is)

pub loop-next-preserved : goal.loop-next-preserved
loop-next-preserved t c =
    let tree = c.args.tree.now.tree in
    let es = entries_at tree c.args.node in
    let k = c.args.depth - 1 in
    let holds = holds_numbers tree c.args.numbers.now in
    let coming = next-is tree tree refl c.requires c.args.node (Some c.in-Some.name) c.next_entry-next-in-Some.result
    (c.next_entry-next-in-Some.ensures.value ∙ ap (λ (last : Bytes). next_name (Some last) es) c.as_slice-in-Some.ensures.value)
    c.next_entry-next-in-Some.ensures.node in
    let none : None ≡ first_within holds tree k c.in-Some.child = rw c.in_default-2.is at c.in_ok-rest.ensures in
    ap (first_under holds tree k) (sym coming)
    ∙ ap (λ (first : Option Bytes). or_next (below_name c.in-Some.name first) (first_under holds tree k (entries_after (Some c.in-Some.name) es))) none
    ∙ ap (λ (next : Option (Bytes × ℕ)). first_under holds tree k (upcoming es next)) (sym c.in-Some.is)
    ∙ c.loop-next.invariant

pub returns-in-Some-2 : goal.returns-in-Some-2
returns-in-Some-2 t c =
    let tree = c.args.tree.now.tree in
    let es = entries_at tree c.args.node in
    let k = c.args.depth - 1 in
    let holds = holds_numbers tree c.args.numbers.now in
    let found : Some c.in-Some-2.rest.items ≡ first_within holds tree k c.in-Some.child = rw c.in-Some-2.is at c.in_ok-rest.ensures in
    ap Some (c.in_ok-below.ensures ∙ ap₂ (λ (name rest : Bytes). codes "/" ++ name ++ rest) c.as_slice.ensures.value c.deref.ensures.value)
    ∙ ap (λ (first : Option Bytes). or_next (below_name c.in-Some.name first) (first_under holds tree k (entries_after (Some c.in-Some.name) es))) found
    ∙ ap (λ (next : Option (Bytes × ℕ)). first_under holds tree k (upcoming es next)) (sym c.in-Some.is)
    ∙ c.loop-next.invariant

pub returns : goal.returns
returns t c =
    let tree = c.args.tree.now.tree in
    let es = entries_at tree c.args.node in
    let holds = holds_numbers tree c.args.numbers.now in
    ap (λ (next : Option (Bytes × ℕ)). first_under holds tree (c.args.depth - 1) (upcoming es next)) (sym c.in_default.is)
    ∙ c.loop-next.invariant
