use Rattle.std.proofs.Common.{◌≡◌, true, subst, w32, to_z, of_z}
use Rattle.std.proofs.lemmas.Bool.{and_parts}
use Rattle.pv_laws_states.specs.States.{is_call, is_word}
use Rattle.pv_model.specs.Machine.{effect, Bytes, call_of, close, dup, dup2, fchdir, fstat, ftruncate, getdents, lseek, read, write, symlink, fork, wait, program_of, find_entry}
use Rattle.pv_model.specs.declared.call.Call.TheVariants.{Exit}
use Rattle.pv_calls.specs.Calls.{DoesNotBlock}
use Rattle.pv_calls_path.specs.OfCallsPlain.Performed.{IsAnswered, IsPerformed}
use Rattle.pv_calls.proofs.StatesAfterCalls.{names-answered, names-performed, quiet, quiet-wait, still, stays-fork, stays-pledge, stays-close, stays-dup, stays-dup2, stays-read, stays-write, stays-lseek, stays-fstat, stays-ftruncate, stays-getdents, stays-fchdir, word-back}
use Rattle.pv_calls.proofs.calls.dispatch_call.Goals as goal

-- ---- processes

pub returns-in-Exit-clause-replied : goal.returns-in-Exit-clause-replied
unfolding effect
returns-in-Exit-clause-replied g c = rw c.in-Exit.is
    (subst (λ z. IsAnswered (λ s me. effect program_of s c.args.pid me (Exit z)) c.args.system.now.parts c.args.pid c.exit.new.parts c.exit.result)
    (word-back c.in-Exit.code (subst (λ x. is_call (call_of x) ≡ true) c.in-Exit.is c.requires.call)) c.exit.ensures.performed)

pub wait-requires-clause-continues : goal.wait-requires-clause-continues
wait-requires-clause-continues g c = subst (λ x. DoesNotBlock c.args.system.now.parts c.args.pid (call_of x)) c.in-Wait.is c.requires.continues

pub returns-in-Wait-clause-replied : goal.returns-in-Wait-clause-replied
unfolding effect
returns-in-Wait-clause-replied g c = rw c.in-Wait.is c.wait.ensures.performed

pub returns-in-GetPid-clause-replied : goal.returns-in-GetPid-clause-replied
unfolding effect
returns-in-GetPid-clause-replied g c = rw c.in-GetPid.is c.getpid.ensures.performed

pub returns-in-GetPpid-clause-replied : goal.returns-in-GetPpid-clause-replied
unfolding effect
returns-in-GetPpid-clause-replied g c = rw c.in-GetPpid.is c.getppid.ensures.performed

pub returns-in-Fork-clause-replied : goal.returns-in-Fork-clause-replied
unfolding effect
returns-in-Fork-clause-replied g c = rw c.in-Fork.is c.fork.ensures.performed

pub returns-in-Pledge-clause-replied : goal.returns-in-Pledge-clause-replied
unfolding effect
returns-in-Pledge-clause-replied g c = rw c.in-Pledge.is c.pledge.ensures.performed

-- ---- descriptors

pub returns-in-Close-clause-replied : goal.returns-in-Close-clause-replied
unfolding effect
returns-in-Close-clause-replied g c = rw c.in-Close.is
    (subst (λ z. IsPerformed (λ s me. close s c.args.pid me z) c.args.system.now.parts c.args.pid c.close.new.parts c.close.result)
    (word-back c.in-Close.d (subst (λ x. is_call (call_of x) ≡ true) c.in-Close.is c.requires.call)) c.close.ensures.performed)

pub returns-in-Dup-clause-replied : goal.returns-in-Dup-clause-replied
unfolding effect
returns-in-Dup-clause-replied g c = rw c.in-Dup.is
    (subst (λ z. IsPerformed (λ s me. dup s c.args.pid me z) c.args.system.now.parts c.args.pid c.dup.new.parts c.dup.result)
    (word-back c.in-Dup.d (subst (λ x. is_call (call_of x) ≡ true) c.in-Dup.is c.requires.call)) c.dup.ensures.performed)

pub returns-in-Dup2-clause-replied : goal.returns-in-Dup2-clause-replied
unfolding effect
returns-in-Dup2-clause-replied g c = rw c.in-Dup2.is
    (subst (λ z. IsPerformed (λ s me. dup2 s c.args.pid me c.in-Dup2.d z) c.args.system.now.parts c.args.pid c.dup2.new.parts c.dup2.result)
    (word-back c.in-Dup2.e (and_parts (is_word c.in-Dup2.d) (is_word c.in-Dup2.e) (subst (λ x. is_call (call_of x) ≡ true) c.in-Dup2.is c.requires.call)).1)
    (subst (λ z. IsPerformed (λ s me. dup2 s c.args.pid me z (to_z w32 (of_z w32 c.in-Dup2.e))) c.args.system.now.parts c.args.pid c.dup2.new.parts c.dup2.result)
    (word-back c.in-Dup2.d (and_parts (is_word c.in-Dup2.d) (is_word c.in-Dup2.e) (subst (λ x. is_call (call_of x) ≡ true) c.in-Dup2.is c.requires.call)).0) c.dup2.ensures.performed))

pub returns-in-Read-clause-replied : goal.returns-in-Read-clause-replied
unfolding effect
returns-in-Read-clause-replied g c = rw c.in-Read.is
    (subst (λ z. IsAnswered (λ s me. read s c.args.pid me c.in-Read.d z) c.args.system.now.parts c.args.pid c.read.new.parts c.read.result)
    (word-back c.in-Read.n (and_parts (is_word c.in-Read.d) (is_word c.in-Read.n) (subst (λ x. is_call (call_of x) ≡ true) c.in-Read.is c.requires.call)).1)
    (subst (λ z. IsAnswered (λ s me. read s c.args.pid me z (to_z w32 (of_z w32 c.in-Read.n))) c.args.system.now.parts c.args.pid c.read.new.parts c.read.result)
    (word-back c.in-Read.d (and_parts (is_word c.in-Read.d) (is_word c.in-Read.n) (subst (λ x. is_call (call_of x) ≡ true) c.in-Read.is c.requires.call)).0) c.read.ensures.performed))

pub returns-in-Write-clause-replied : goal.returns-in-Write-clause-replied
unfolding effect
returns-in-Write-clause-replied g c = rw c.in-Write.is
    (subst (λ z. IsPerformed (λ s me. write s c.args.pid me c.in-Write.d z) c.args.system.now.parts c.args.pid c.write.new.parts c.write.result)
    (word-back c.in-Write.n (and_parts (is_word c.in-Write.d) (is_word c.in-Write.n) (subst (λ x. is_call (call_of x) ≡ true) c.in-Write.is c.requires.call)).1)
    (subst (λ z. IsPerformed (λ s me. write s c.args.pid me z (to_z w32 (of_z w32 c.in-Write.n))) c.args.system.now.parts c.args.pid c.write.new.parts c.write.result)
    (word-back c.in-Write.d (and_parts (is_word c.in-Write.d) (is_word c.in-Write.n) (subst (λ x. is_call (call_of x) ≡ true) c.in-Write.is c.requires.call)).0) c.write.ensures.performed))

pub returns-in-Lseek-clause-replied : goal.returns-in-Lseek-clause-replied
unfolding effect
returns-in-Lseek-clause-replied g c = rw c.in-Lseek.is
    (subst (λ z. IsPerformed (λ s me. lseek s c.args.pid me c.in-Lseek.d z c.in-Lseek.whence) c.args.system.now.parts c.args.pid c.lseek.new.parts c.lseek.result)
    (word-back c.in-Lseek.by (and_parts (is_word c.in-Lseek.d) (is_word c.in-Lseek.by) (subst (λ x. is_call (call_of x) ≡ true) c.in-Lseek.is c.requires.call)).1)
    (subst (λ z. IsPerformed (λ s me. lseek s c.args.pid me z (to_z w32 (of_z w32 c.in-Lseek.by)) c.in-Lseek.whence) c.args.system.now.parts c.args.pid c.lseek.new.parts c.lseek.result)
    (word-back c.in-Lseek.d (and_parts (is_word c.in-Lseek.d) (is_word c.in-Lseek.by) (subst (λ x. is_call (call_of x) ≡ true) c.in-Lseek.is c.requires.call)).0) c.lseek.ensures.performed))

pub returns-in-Fstat-clause-replied : goal.returns-in-Fstat-clause-replied
unfolding effect
returns-in-Fstat-clause-replied g c = rw c.in-Fstat.is
    (subst (λ z. IsAnswered (λ s me. fstat s c.args.pid me z) c.args.system.now.parts c.args.pid c.fstat.new.parts c.fstat.result)
    (word-back c.in-Fstat.d (subst (λ x. is_call (call_of x) ≡ true) c.in-Fstat.is c.requires.call)) c.fstat.ensures.performed)

pub returns-in-Ftruncate-clause-replied : goal.returns-in-Ftruncate-clause-replied
unfolding effect
returns-in-Ftruncate-clause-replied g c = rw c.in-Ftruncate.is
    (subst (λ z. IsPerformed (λ s me. ftruncate s c.args.pid me c.in-Ftruncate.d z) c.args.system.now.parts c.args.pid c.ftruncate.new.parts c.ftruncate.result)
    (word-back c.in-Ftruncate.n (and_parts (is_word c.in-Ftruncate.d) (is_word c.in-Ftruncate.n) (subst (λ x. is_call (call_of x) ≡ true) c.in-Ftruncate.is c.requires.call)).1)
    (subst (λ z. IsPerformed (λ s me. ftruncate s c.args.pid me z (to_z w32 (of_z w32 c.in-Ftruncate.n))) c.args.system.now.parts c.args.pid c.ftruncate.new.parts c.ftruncate.result)
    (word-back c.in-Ftruncate.d (and_parts (is_word c.in-Ftruncate.d) (is_word c.in-Ftruncate.n) (subst (λ x. is_call (call_of x) ≡ true) c.in-Ftruncate.is c.requires.call)).0) c.ftruncate.ensures.performed))

pub returns-in-Getdents-clause-replied : goal.returns-in-Getdents-clause-replied
unfolding effect
returns-in-Getdents-clause-replied g c = rw c.in-Getdents.is
    (subst (λ z. IsAnswered (λ s me. getdents s c.args.pid me z) c.args.system.now.parts c.args.pid c.getdents.new.parts c.getdents.result)
    (word-back c.in-Getdents.d (subst (λ x. is_call (call_of x) ≡ true) c.in-Getdents.is c.requires.call)) c.getdents.ensures.performed)

pub returns-in-Fchdir-clause-replied : goal.returns-in-Fchdir-clause-replied
unfolding effect
returns-in-Fchdir-clause-replied g c = rw c.in-Fchdir.is
    (subst (λ z. IsPerformed (λ s me. fchdir s c.args.pid me z) c.args.system.now.parts c.args.pid c.fchdir.new.parts c.fchdir.result)
    (word-back c.in-Fchdir.d (subst (λ x. is_call (call_of x) ≡ true) c.in-Fchdir.is c.requires.call)) c.fchdir.ensures.performed)

-- ---- paths

pub returns-in-Stat-clause-replied : goal.returns-in-Stat-clause-replied
unfolding effect
returns-in-Stat-clause-replied g c = rw c.in-Stat.is c.stat.ensures.performed

pub returns-in-Lstat-clause-replied : goal.returns-in-Lstat-clause-replied
unfolding effect
returns-in-Lstat-clause-replied g c = rw c.in-Lstat.is c.lstat.ensures.performed

pub returns-in-Readlink-clause-replied : goal.returns-in-Readlink-clause-replied
unfolding effect
returns-in-Readlink-clause-replied g c = rw c.in-Readlink.is c.readlink.ensures.performed

pub returns-in-Unveil-clause-replied : goal.returns-in-Unveil-clause-replied
unfolding effect
returns-in-Unveil-clause-replied g c = rw c.in-Unveil.is c.unveil.ensures.performed

pub returns-in-Open-clause-replied : goal.returns-in-Open-clause-replied
unfolding effect
returns-in-Open-clause-replied g c = rw c.in-Open.is c.open_at.ensures.performed

pub returns-in-OpenAt-clause-replied : goal.returns-in-OpenAt-clause-replied
unfolding effect
returns-in-OpenAt-clause-replied g c = rw c.in-OpenAt.is c.open_at-in-OpenAt.ensures.performed

pub returns-in-Chdir-clause-replied : goal.returns-in-Chdir-clause-replied
unfolding effect
returns-in-Chdir-clause-replied g c = rw c.in-Chdir.is c.chdir.ensures.performed

pub returns-in-Mkdir-clause-replied : goal.returns-in-Mkdir-clause-replied
unfolding effect
returns-in-Mkdir-clause-replied g c = rw c.in-Mkdir.is c.mkdir.ensures.performed

pub returns-in-Link-clause-replied : goal.returns-in-Link-clause-replied
unfolding effect
returns-in-Link-clause-replied g c = rw c.in-Link.is c.link.ensures.performed

pub returns-in-Unlink-clause-replied : goal.returns-in-Unlink-clause-replied
unfolding effect
returns-in-Unlink-clause-replied g c = rw c.in-Unlink.is c.unlink.ensures.performed

pub returns-in-Rmdir-clause-replied : goal.returns-in-Rmdir-clause-replied
unfolding effect
returns-in-Rmdir-clause-replied g c = rw c.in-Rmdir.is c.rmdir.ensures.performed

pub returns-in-Rename-clause-replied : goal.returns-in-Rename-clause-replied
unfolding effect
returns-in-Rename-clause-replied g c = rw c.in-Rename.is c.rename.ensures.performed

pub returns-in-Symlink-clause-replied : goal.returns-in-Symlink-clause-replied
unfolding effect
returns-in-Symlink-clause-replied g c = rw c.in-Symlink.is
    (subst (λ (p : Bytes). IsPerformed (λ s me. symlink s c.args.pid me p c.in-Symlink.path.now) c.args.system.now.parts c.args.pid c.symlink.new.system.parts c.symlink.result) c.as_slice.ensures.value c.symlink.ensures.performed)

-- ---- names stay if no path is walked

pub returns-in-Exit-clause-agrees : goal.returns-in-Exit-clause-agrees
unfolding effect
returns-in-Exit-clause-agrees g c =
    let s = c.args.system.now.parts in
    g.met.L.Lookup.same_answers c.args.system.now.lookup (find_entry s.tree) (find_entry c.exit.new.parts.tree) c.requires.caller.agrees
    (names-answered (λ s me. effect program_of s c.args.pid me (Exit (to_z w32 (of_z w32 c.in-Exit.code)))) s c.exit.new.parts c.args.pid c.requires.caller.live c.exit.result c.exit.ensures.performed (λ me at. quiet s c.args.pid me c.requires.caller.whole at))

pub returns-in-Fork-clause-agrees : goal.returns-in-Fork-clause-agrees
returns-in-Fork-clause-agrees g c =
    let s = c.args.system.now.parts in
    g.met.L.Lookup.same_answers c.args.system.now.lookup (find_entry s.tree) (find_entry c.fork.new.parts.tree) c.requires.caller.agrees
    (names-performed (λ s me. fork s c.args.pid me) s c.fork.new.parts c.args.pid c.requires.caller.live c.fork.result c.fork.ensures.performed (λ me at. stays-fork s c.args.pid me c.requires.caller.whole at))

pub returns-in-Wait-clause-agrees : goal.returns-in-Wait-clause-agrees
returns-in-Wait-clause-agrees g c =
    let s = c.args.system.now.parts in
    g.met.L.Lookup.same_answers c.args.system.now.lookup (find_entry s.tree) (find_entry c.wait.new.parts.tree) c.requires.caller.agrees
    (names-answered (λ s me. wait s c.args.pid me) s c.wait.new.parts c.args.pid c.requires.caller.live c.wait.result c.wait.ensures.performed (λ me at. quiet-wait s c.args.pid me c.requires.caller.whole at))

pub returns-in-Pledge-clause-agrees : goal.returns-in-Pledge-clause-agrees
returns-in-Pledge-clause-agrees g c =
    let s = c.args.system.now.parts in
    g.met.L.Lookup.same_answers c.args.system.now.lookup (find_entry s.tree) (find_entry c.pledge.new.parts.tree) c.requires.caller.agrees
    (names-performed _ s c.pledge.new.parts c.args.pid c.requires.caller.live c.pledge.result c.pledge.ensures.performed (λ me at. stays-pledge s c.args.pid me c.requires.caller.whole at _ _))

pub returns-in-Close-clause-agrees : goal.returns-in-Close-clause-agrees
returns-in-Close-clause-agrees g c =
    let s = c.args.system.now.parts in
    g.met.L.Lookup.same_answers c.args.system.now.lookup (find_entry s.tree) (find_entry c.close.new.parts.tree) c.requires.caller.agrees
    (names-performed (λ s me. close s c.args.pid me (to_z w32 (of_z w32 c.in-Close.d))) s c.close.new.parts c.args.pid c.requires.caller.live c.close.result c.close.ensures.performed (λ me at. stays-close s c.args.pid me c.requires.caller.whole at (to_z w32 (of_z w32 c.in-Close.d))))

pub returns-in-Dup-clause-agrees : goal.returns-in-Dup-clause-agrees
returns-in-Dup-clause-agrees g c =
    let s = c.args.system.now.parts in
    g.met.L.Lookup.same_answers c.args.system.now.lookup (find_entry s.tree) (find_entry c.dup.new.parts.tree) c.requires.caller.agrees
    (names-performed (λ s me. dup s c.args.pid me (to_z w32 (of_z w32 c.in-Dup.d))) s c.dup.new.parts c.args.pid c.requires.caller.live c.dup.result c.dup.ensures.performed (λ me at. stays-dup s c.args.pid me c.requires.caller.whole at (to_z w32 (of_z w32 c.in-Dup.d))))

pub returns-in-Dup2-clause-agrees : goal.returns-in-Dup2-clause-agrees
returns-in-Dup2-clause-agrees g c =
    let s = c.args.system.now.parts in
    g.met.L.Lookup.same_answers c.args.system.now.lookup (find_entry s.tree) (find_entry c.dup2.new.parts.tree) c.requires.caller.agrees
    (names-performed (λ s me. dup2 s c.args.pid me (to_z w32 (of_z w32 c.in-Dup2.d)) (to_z w32 (of_z w32 c.in-Dup2.e))) s c.dup2.new.parts c.args.pid c.requires.caller.live c.dup2.result c.dup2.ensures.performed (λ me at. stays-dup2 s c.args.pid me c.requires.caller.whole at (to_z w32 (of_z w32 c.in-Dup2.d)) (to_z w32 (of_z w32 c.in-Dup2.e))))

pub returns-in-Read-clause-agrees : goal.returns-in-Read-clause-agrees
returns-in-Read-clause-agrees g c =
    let s = c.args.system.now.parts in
    g.met.L.Lookup.same_answers c.args.system.now.lookup (find_entry s.tree) (find_entry c.read.new.parts.tree) c.requires.caller.agrees
    (names-answered (λ s me. read s c.args.pid me (to_z w32 (of_z w32 c.in-Read.d)) (to_z w32 (of_z w32 c.in-Read.n))) s c.read.new.parts c.args.pid c.requires.caller.live c.read.result c.read.ensures.performed (λ me at. still s c.args.pid me c.requires.caller.whole at (read s c.args.pid me (to_z w32 (of_z w32 c.in-Read.d)) (to_z w32 (of_z w32 c.in-Read.n))) (stays-read s c.args.pid me c.requires.caller.whole at (to_z w32 (of_z w32 c.in-Read.d)) (to_z w32 (of_z w32 c.in-Read.n)))))

pub returns-in-Write-clause-agrees : goal.returns-in-Write-clause-agrees
returns-in-Write-clause-agrees g c =
    let s = c.args.system.now.parts in
    g.met.L.Lookup.same_answers c.args.system.now.lookup (find_entry s.tree) (find_entry c.write.new.parts.tree) c.requires.caller.agrees
    (names-performed (λ s me. write s c.args.pid me (to_z w32 (of_z w32 c.in-Write.d)) (to_z w32 (of_z w32 c.in-Write.n))) s c.write.new.parts c.args.pid c.requires.caller.live c.write.result c.write.ensures.performed (λ me at. stays-write s c.args.pid me c.requires.caller.whole at (to_z w32 (of_z w32 c.in-Write.d)) (to_z w32 (of_z w32 c.in-Write.n))))

pub returns-in-Lseek-clause-agrees : goal.returns-in-Lseek-clause-agrees
returns-in-Lseek-clause-agrees g c =
    let s = c.args.system.now.parts in
    g.met.L.Lookup.same_answers c.args.system.now.lookup (find_entry s.tree) (find_entry c.lseek.new.parts.tree) c.requires.caller.agrees
    (names-performed (λ s me. lseek s c.args.pid me (to_z w32 (of_z w32 c.in-Lseek.d)) (to_z w32 (of_z w32 c.in-Lseek.by)) c.in-Lseek.whence) s c.lseek.new.parts c.args.pid c.requires.caller.live c.lseek.result c.lseek.ensures.performed (λ me at. stays-lseek s c.args.pid me c.requires.caller.whole at (to_z w32 (of_z w32 c.in-Lseek.d)) (to_z w32 (of_z w32 c.in-Lseek.by)) c.in-Lseek.whence))

pub returns-in-Fstat-clause-agrees : goal.returns-in-Fstat-clause-agrees
returns-in-Fstat-clause-agrees g c =
    let s = c.args.system.now.parts in
    g.met.L.Lookup.same_answers c.args.system.now.lookup (find_entry s.tree) (find_entry c.fstat.new.parts.tree) c.requires.caller.agrees
    (names-answered (λ s me. fstat s c.args.pid me (to_z w32 (of_z w32 c.in-Fstat.d))) s c.fstat.new.parts c.args.pid c.requires.caller.live c.fstat.result c.fstat.ensures.performed (λ me at. still s c.args.pid me c.requires.caller.whole at (fstat s c.args.pid me (to_z w32 (of_z w32 c.in-Fstat.d))) (stays-fstat s c.args.pid me c.requires.caller.whole at (to_z w32 (of_z w32 c.in-Fstat.d)))))

pub returns-in-Ftruncate-clause-agrees : goal.returns-in-Ftruncate-clause-agrees
returns-in-Ftruncate-clause-agrees g c =
    let s = c.args.system.now.parts in
    g.met.L.Lookup.same_answers c.args.system.now.lookup (find_entry s.tree) (find_entry c.ftruncate.new.parts.tree) c.requires.caller.agrees
    (names-performed (λ s me. ftruncate s c.args.pid me (to_z w32 (of_z w32 c.in-Ftruncate.d)) (to_z w32 (of_z w32 c.in-Ftruncate.n))) s c.ftruncate.new.parts c.args.pid c.requires.caller.live c.ftruncate.result c.ftruncate.ensures.performed (λ me at. stays-ftruncate s c.args.pid me c.requires.caller.whole at (to_z w32 (of_z w32 c.in-Ftruncate.d)) (to_z w32 (of_z w32 c.in-Ftruncate.n))))

pub returns-in-Getdents-clause-agrees : goal.returns-in-Getdents-clause-agrees
returns-in-Getdents-clause-agrees g c =
    let s = c.args.system.now.parts in
    g.met.L.Lookup.same_answers c.args.system.now.lookup (find_entry s.tree) (find_entry c.getdents.new.parts.tree) c.requires.caller.agrees
    (names-answered (λ s me. getdents s c.args.pid me (to_z w32 (of_z w32 c.in-Getdents.d))) s c.getdents.new.parts c.args.pid c.requires.caller.live c.getdents.result c.getdents.ensures.performed (λ me at. still s c.args.pid me c.requires.caller.whole at (getdents s c.args.pid me (to_z w32 (of_z w32 c.in-Getdents.d))) (stays-getdents s c.args.pid me c.requires.caller.whole at (to_z w32 (of_z w32 c.in-Getdents.d)))))

pub returns-in-Fchdir-clause-agrees : goal.returns-in-Fchdir-clause-agrees
returns-in-Fchdir-clause-agrees g c =
    let s = c.args.system.now.parts in
    g.met.L.Lookup.same_answers c.args.system.now.lookup (find_entry s.tree) (find_entry c.fchdir.new.parts.tree) c.requires.caller.agrees
    (names-performed (λ s me. fchdir s c.args.pid me (to_z w32 (of_z w32 c.in-Fchdir.d))) s c.fchdir.new.parts c.args.pid c.requires.caller.live c.fchdir.result c.fchdir.ensures.performed (λ me at. stays-fchdir s c.args.pid me c.requires.caller.whole at (to_z w32 (of_z w32 c.in-Fchdir.d))))
