use Rattle.std.proofs.Common.{◌≡◌, ◌<◌, Some, sym, ap, subst, ◌∙◌, arith, inl, inr}
use Rattle.std.specs.Prelude.{option_map}
use Rattle.std.proofs.lemmas.Bool.{cases_eq, false≢true}
use Rattle.pv_inodes.proofs.NumberMaps.{at_number-within}
use Rattle.pv_inodes.specs.Files.{Contained, held, contained_bytes}
use Rattle.pv_dirs.specs.Index.{AreLed}
use Rattle.pv_dirs.proofs.FileContents.{is_directory_by_sort}
use Rattle.pv_dirs.proofs.ChangedIndex.{led_like}
use Rattle.pv_dirs.proofs.FileTrees.{directory_used}
use Rattle.pv_dirs.proofs.indexing.add_all.Goals as goal
use Rattle.pv_dirs.proofs.indexing.add_all.Goals.{then-is_directory, else-is_directory}

pub invariant_of-dir : goal.invariant_of-dir
invariant_of-dir c = record { used = directory_used c.args.inodes.now c.loop-inode.inode (sym c.is_directory.ensures ∙ c.if-is_directory.true) }

pub loop-inode-preserved : goal.loop-inode-preserved
loop-inode-preserved c = λ n held_there below there sort.
    let f = c.args.inodes.now in
    let before : n < c.loop-inode.inode → AreLed c.loop-inode.index f.version n held_there.bytes = λ less. c.loop-inode.invariant n held_there less there sort in
    elim c.if-is_directory.branch [
      | then-is_directory w ↦ rw w.index-is (elim (cases_eq n c.loop-inode.inode) [
        | inl here ↦
            let bytes : contained_bytes (held f c.loop-inode.inode) ≡ held_there.bytes = ap (λ i. contained_bytes (held f i)) (sym here) ∙ ap contained_bytes there in
            rw here (subst (AreLed w.add_slots.new.index f.version c.loop-inode.inode) bytes w.add_slots.ensures.led)
        | inr other ↦
            led_like c.loop-inode.inode n c.loop-inode.index w.add_slots.new.index f.version held_there.bytes record {
              leads = λ m k name apart leads. w.add_slots.ensures.leads.others m k name leads;
              known_before = λ m apart is. sym (w.add_slots.ensures.leads.known m apart) ∙ is;
            } other (before (omega arith))
      ])
      | else-is_directory w ↦ rw w.index-is (elim (cases_eq n c.loop-inode.inode) [
        | inl here ↦
            let is = ap (λ i. option_map (λ (x : Contained). x.sort) (held f i)) (sym here) ∙ ap (option_map (λ (x : Contained). x.sort)) there ∙ ap Some sort in
            absurd (false≢true (sym w.if-is_directory.false ∙ c.is_directory.ensures ∙ is_directory_by_sort f c.loop-inode.inode is))
        | inr other ↦ before (omega arith)
      ])
    ]

pub returns : goal.returns
returns c = λ n held_there there sort.
    let within = at_number-within c.args.inodes.now.nodes n held_there there in
    c.loop-inode.invariant n held_there (omega (arith, c.inodes.ensures, c.from-inode-end.ensures)) there sort
