use Rattle.std.proofs.Common.{◌≡◌, ◌∙◌, ℕ, true, Result, Err, sym, ap, subst, arith}
use Rattle.pv_model.specs.Machine.{Tree}
use Rattle.pv_laws_trees.specs.Preserved.{EachIsNamed}
use Rattle.pv_image_write.specs.declared.fault.WriteFault.{WriteFault}
use Rattle.pv_image_write.specs.declared.fault.WriteFault.TheVariants.{Write}
use Rattle.pv_image.specs.Migrated.{has_room}
use Rattle.pv_image.proofs.EnlargedTrees.{roomy, named_need-needed}
use Rattle.pv_image.proofs.MigrationResults.{begins-migrated, reports-migrated}
use Rattle.pv_image.proofs.migrating.write_migrated.Goals as goal

-- the same for the borrowed tree
room-of : (t old : Tree) (blocks inodes : ℕ) → t ≡ old → has_room old blocks inodes ≡ true → has_room t blocks inodes ≡ true
room-of t old blocks inodes same room = ap (λ (u : Tree). has_room u blocks inodes) same ∙ room

pub overflow_cast-blocks : goal.overflow_cast-blocks
overflow_cast-blocks g c = omega (arith, (roomy c.in_ok-store.store c.args.blocks c.args.inodes c.in_ok-store.ensures.room).few_blocks)

pub overflow_cast-inodes : goal.overflow_cast-inodes
overflow_cast-inodes g c = omega (arith, (roomy c.in_ok-store.store c.args.blocks c.args.inodes c.in_ok-store.ensures.room).few_inodes)

pub write_as-requires-clause-sizes : goal.write_as-requires-clause-sizes
write_as-requires-clause-sizes g c = (roomy c.in_ok-store.store c.args.blocks c.args.inodes c.in_ok-store.ensures.room).sizes

pub write_as-requires-clause-inodes : goal.write_as-requires-clause-inodes
write_as-requires-clause-inodes g c =
    (roomy c.tree.result.now.tree c.args.blocks c.args.inodes (room-of c.tree.result.now.tree c.in_ok-store.store c.args.blocks c.args.inodes c.tree.ensures.tree c.in_ok-store.ensures.room)).as_many

pub write_as-requires-clause-room : goal.write_as-requires-clause-room
write_as-requires-clause-room g c =
    let r = roomy c.tree.result.now.tree c.args.blocks c.args.inodes (room-of c.tree.result.now.tree c.in_ok-store.store c.args.blocks c.args.inodes c.tree.ensures.tree c.in_ok-store.ensures.room) in
    let named = subst EachIsNamed (sym c.tree.ensures.tree) c.invariant.ensures.named in
    omega (arith, r.enough, r.table, named_need-needed c.tree.result.now.tree named)

pub returns-in-Ok-clause-as_written : goal.returns-in-Ok-clause-as_written
returns-in-Ok-clause-as_written g c =
    reports-migrated c.args.bytes.items c.args.blocks c.args.inodes c.in_ok-store.store c.tree.result.now.tree c.in_ok-store.ensures.mounted c.tree.ensures.tree c.invariant.ensures.named
    (room-of c.tree.result.now.tree c.in_ok-store.store c.args.blocks c.args.inodes c.tree.ensures.tree c.in_ok-store.ensures.room)
    (g.W.Sink.written c.args.out.now) (g.W.Sink.written c.write_as.new.image) c.in-Ok.ensures.whole

failed : (r : Result (Unit {0}) WriteFault) (f : WriteFault) → r ≡ Err f → f ≡ Write → r ≡ Err Write
failed r f is same = subst (λ (e : WriteFault). r ≡ Err e) same is

pub returns-clause-refused : goal.returns-clause-refused
returns-clause-refused g c =
    begins-migrated c.args.bytes.items c.args.blocks c.args.inodes c.in_ok-store.store c.tree.result.now.tree c.in_ok-store.ensures.mounted c.tree.ensures.tree c.invariant.ensures.named
    (room-of c.tree.result.now.tree c.in_ok-store.store c.args.blocks c.args.inodes c.tree.ensures.tree c.in_ok-store.ensures.room)
    (g.W.Sink.written c.args.out.now) (g.W.Sink.written c.write_as.new.image) (c.write_as.ensures.cut (failed c.write_as.result c.in-Err-Write.field-0 c.in-Err-Write.is c.in-Err-Write.field-0-is))
