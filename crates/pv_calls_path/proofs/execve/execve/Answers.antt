use Rattle.std.specs.Result.{result_ok}
use Rattle.std.proofs.Common.{◌≡◌, ◌∙◌, rules, None, Some, option_map, refl, ap, sym}
use Rattle.pv_namei.specs.OfDirs.Trees.{kind_of_node}
use Rattle.pv_calls_plain.specs.OfCallsState.Attempts.{collected_attempt}
use Rattle.pv_model.specs.declared.kind.Kind.TheVariants.{Executable}
use Rattle.pv_model.specs.Machine.{update_live, executable_bytes, with_program, bytes_of, program_of, read_program, collect, execve_walk, with_process, find_entry, node_at}
use Rattle.pv_laws_states.proofs.ValidByTree.{place-there}
use Rattle.pv_calls_path.proofs.DirectoryNames.{alike_update}
use Rattle.pv_calls_path.proofs.NodeCalls.{no_bytes, own_bytes, execve_refused, execve_unspelled, execve_goes, found_there, leads_to, unspelled}
use Rattle.pv_calls_path.proofs.CheckedWalks.{missed-as, reached-as}
use Rattle.pv_calls_path.proofs.UnveilCalls.{leaves}
use Rattle.pv_calls_path.proofs.execve.execve.Goals as goal

pub kind-requires : goal.kind-requires
kind-requires g c =
    rw c.tree.ensures (place-there c.args.system.now.parts.tree c.requires.caller.whole.tree c.in-Ok.found.place c.in-Ok.found.node c.in-Ok.ensures.reaches.fine c.in-Ok.ensures.reaches.there)

pub returns-in-Err-clause-performed : goal.returns-in-Err-clause-performed
returns-in-Err-clause-performed g c = λ me at. ap collected_attempt (missed-as c.args.system.now.parts me me.directory c.execve-walk.ensures _ (c.in-Err.ensures.missed me at) _)

pub returns-then-ne-clause-performed : goal.returns-then-ne-clause-performed
returns-then-ne-clause-performed g c =
    let s = c.args.system.now.parts in
    let n = c.in-Ok.found.node in
    let none : executable_bytes (node_at s.tree n) ≡ None =
    ap (λ t. executable_bytes (node_at t n)) (sym c.tree.ensures)
    ∙ no_bytes (node_at c.tree.result.now.tree n) c.kind.result c.ne.result c.kind.ensures (λ same. c.ne.ensures ∙ rw same refl) c.if-ne.true in
    λ me at. rw c.refused.ensures (ap collected_attempt (execve_refused s c.args.pid me c.args.path.now n (found_there s me me.directory (execve_walk c.args.path.now) c.in-Ok.found.place n (reached-as s me me.directory c.execve-walk.ensures c.in-Ok.found.place (c.in-Ok.ensures.reaches.reached me at)) c.in-Ok.ensures.reaches.there) none))

pub returns-in-Ok-read_program-clause-performed : goal.returns-in-Ok-read_program-clause-performed
returns-in-Ok-read_program-clause-performed g c =
    let s = c.args.system.now.parts in
    let n = c.in-Ok.found.node in
    let executable : c.kind.result ≡ Executable = search rules in
    let bytes = bytes_of (node_at s.tree n) in
    let own : executable_bytes (node_at s.tree n) ≡ Some bytes = own_bytes (node_at s.tree n) c.kind.result (ap (λ t. option_map kind_of_node (node_at t n)) (sym c.tree.ensures) ∙ c.kind.ensures) executable in
    let encoded : program_of bytes ≡ Some c.in-Ok-read_program.program =
    ap result_ok (ap (λ t. read_program (bytes_of (node_at t n))) (sym c.tree-2.ensures) ∙ c.in-Ok-read_program.ensures) in
    λ me at.
    leaves _ (collect (with_process s c.args.pid (with_program s c.args.pid me c.in-Ok-read_program.program))) c.load.new.self
    (ap collected_attempt (execve_goes s c.args.pid me c.args.path.now n (found_there s me me.directory (execve_walk c.args.path.now) c.in-Ok.found.place n (reached-as s me me.directory c.execve-walk.ensures c.in-Ok.found.place (c.in-Ok.ensures.reaches.reached me at)) c.in-Ok.ensures.reaches.there) bytes own c.in-Ok-read_program.program encoded))
    (ap (λ o. collect (update_live s c.args.pid (λ p. with_program s c.args.pid p c.in-Ok-read_program.program) o)) (sym at) ∙ sym c.load.ensures)

pub returns-in-Err-Line-clause-performed : goal.returns-in-Err-Line-clause-performed
returns-in-Err-Line-clause-performed g c =
    let s = c.args.system.now.parts in
    let n = c.in-Ok.found.node in
    let executable : c.kind.result ≡ Executable = search rules in
    let bytes = bytes_of (node_at s.tree n) in
    let own : executable_bytes (node_at s.tree n) ≡ Some bytes = own_bytes (node_at s.tree n) c.kind.result (ap (λ t. option_map kind_of_node (node_at t n)) (sym c.tree.ensures) ∙ c.kind.ensures) executable in
    let none : program_of bytes ≡ None =
    ap result_ok (ap (λ t. read_program (bytes_of (node_at t n))) (sym c.tree-2.ensures) ∙ unspelled c.in-Err-Line.field-0 c.in-Err-Line.field-0-0 c.in-Err-Line.field-0-1 _ c.in-Err-Line.field-0-is c.in-Err-Line.ensures) in
    λ me at. rw c.refused-in-Err-Line.ensures (ap collected_attempt (execve_unspelled s c.args.pid me c.args.path.now n (found_there s me me.directory (execve_walk c.args.path.now) c.in-Ok.found.place n (reached-as s me me.directory c.execve-walk.ensures c.in-Ok.found.place (c.in-Ok.ensures.reaches.reached me at)) c.in-Ok.ensures.reaches.there) bytes own none))

pub returns-in-Err-Memory-clause-performed : goal.returns-in-Err-Memory-clause-performed
returns-in-Err-Memory-clause-performed g c =
    let s = c.args.system.now.parts in
    let n = c.in-Ok.found.node in
    let executable : c.kind.result ≡ Executable = search rules in
    let bytes = bytes_of (node_at s.tree n) in
    let own : executable_bytes (node_at s.tree n) ≡ Some bytes = own_bytes (node_at s.tree n) c.kind.result (ap (λ t. option_map kind_of_node (node_at t n)) (sym c.tree.ensures) ∙ c.kind.ensures) executable in
    λ me at. (bytes, leads_to s me c.args.path.now c.in-Ok.found.place n bytes (reached-as s me me.directory c.execve-walk.ensures c.in-Ok.found.place (c.in-Ok.ensures.reaches.reached me at)) c.in-Ok.ensures.reaches.there own)

pub returns-in-Ok-read_program-clause-agrees : goal.returns-in-Ok-read_program-clause-agrees
returns-in-Ok-read_program-clause-agrees g c =
    let s = c.args.system.now.parts in
    g.met.L.Lookup.same_answers c.reach_found.new.lookup (find_entry s.tree) (find_entry c.load.new.self.tree) c.reach_found.ensures.agrees
    (alike_update s c.requires.caller.whole c.args.pid (λ me. with_program s c.args.pid me c.in-Ok-read_program.program) c.load.new.self c.load.ensures)
