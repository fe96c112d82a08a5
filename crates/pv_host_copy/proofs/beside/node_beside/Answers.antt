use Rattle.std.proofs.Common.{true, false, refl}
use Rattle.pv_host_copy.proofs.MergedEntries.{taken-at}
use Rattle.pv_host_copy.proofs.beside.node_beside.Goals as goal

pub returns-then-is_taken : goal.returns-then-is_taken
returns-then-is_taken g c =
    let taken = taken-at c.args.given c.args.path true c.deref.result.now c.is_taken.result true c.deref.ensures.value c.is_taken.ensures c.if-is_taken.true in
    rw (c.in-Directory.is, taken) refl

pub returns-in-Directory : goal.returns-in-Directory
returns-in-Directory g c =
    let taken = taken-at c.args.given c.args.path true c.deref.result.now c.is_taken.result false c.deref.ensures.value c.is_taken.ensures c.if-is_taken.false in
    rw (c.in-Directory.is, taken) refl

pub returns-then-is_taken-2 : goal.returns-then-is_taken-2
returns-then-is_taken-2 g c =
    let taken = taken-at c.args.given c.args.path false c.deref-in-File.result.now c.is_taken-in-File.result true c.deref-in-File.ensures.value c.is_taken-in-File.ensures c.if-is_taken-2.true in
    rw (c.in-File.is, taken) refl

pub returns-in-File : goal.returns-in-File
returns-in-File g c =
    let taken = taken-at c.args.given c.args.path false c.deref-in-File.result.now c.is_taken-in-File.result false c.deref-in-File.ensures.value c.is_taken-in-File.ensures c.if-is_taken-2.false in
    rw (c.in-File.is, taken) refl

pub returns-then-is_taken-3 : goal.returns-then-is_taken-3
returns-then-is_taken-3 g c =
    let taken = taken-at c.args.given c.args.path false c.deref-in-Link.result.now c.is_taken-in-Link.result true c.deref-in-Link.ensures.value c.is_taken-in-Link.ensures c.if-is_taken-3.true in
    rw (c.in-Link.is, taken) refl

pub returns-in-Link : goal.returns-in-Link
returns-in-Link g c =
    let taken = taken-at c.args.given c.args.path false c.deref-in-Link.result.now c.is_taken-in-Link.result false c.deref-in-Link.ensures.value c.is_taken-in-Link.ensures c.if-is_taken-3.false in
    rw (c.in-Link.is, taken) refl

pub returns-then-is_taken-4 : goal.returns-then-is_taken-4
returns-then-is_taken-4 g c =
    let taken = taken-at c.args.given c.args.path false c.deref-in-Other.result.now c.is_taken-in-Other.result true c.deref-in-Other.ensures.value c.is_taken-in-Other.ensures c.if-is_taken-4.true in
    rw (c.in-Other.is, taken) refl

pub returns-in-Other : goal.returns-in-Other
returns-in-Other g c =
    let taken = taken-at c.args.given c.args.path false c.deref-in-Other.result.now c.is_taken-in-Other.result false c.deref-in-Other.ensures.value c.is_taken-in-Other.ensures c.if-is_taken-4.false in
    rw (c.in-Other.is, taken) refl
