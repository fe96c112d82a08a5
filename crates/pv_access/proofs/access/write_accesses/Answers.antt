use Rattle.pv_named_files.specs.FirstPaths.{files_given, first_tree}
use Rattle.pv_streams.proofs.WriterContracts.{or_as, or_longer}
use Rattle.pv_streams.proofs.ProperPrefixes.{inside_first, inside_then}
use Rattle.pv_streams.proofs.StoppedWriters.{still_ok, stopped, then_stops}
use Rattle.pv_access.proofs.AccessBytes.{access-bytes, complete-found, end-long, end_lines, last-bytes}
use Rattle.pv_model.specs.Machine.{answer_bytes}
use Rattle.pv_access.proofs.access.write_accesses.Goals as goal

pub returns-in_err-searched-clause-written : goal.returns-in_err-searched-clause-written
returns-in_err-searched-clause-written g c =
    stopped c.from_residual.ensures.1
    (or_as (access-bytes (files_given c.args.paths.now) c.args.states c.args.first_machine.now c.args.kind) (or_longer _ c.in_err-searched.ensures.written))

pub returns-in_err-write_last-clause-written : goal.returns-in_err-write_last-clause-written
returns-in_err-write_last-clause-written g c =
    let files = files_given c.args.paths.now in
    let s = c.args.first_machine.now in
    let r = c.in_ok-searched.searched in
    let last = last-bytes files c.args.states s c.args.kind (first_tree c.args.paths.now) r.states r.complete r.endings r.texts c.requires.first c.in_ok-searched.ensures.found in
    stopped c.from_residual-in_err-write_last.ensures.1
    (or_as (access-bytes files c.args.states s c.args.kind) (then_stops c.in_ok-searched.ensures.written (or_as last c.in_err-write_last.ensures.written)))

pub returns-clause-written : goal.returns-clause-written
returns-clause-written g c =
    let files = files_given c.args.paths.now in
    let s = c.args.first_machine.now in
    let r = c.in_ok-searched.searched in
    let last = last-bytes files c.args.states s c.args.kind (first_tree c.args.paths.now) r.states r.complete r.endings r.texts c.requires.first c.in_ok-searched.ensures.found in
    still_ok (or_as (access-bytes files c.args.states s c.args.kind) (then_stops c.in_ok-searched.ensures.written (or_as last c.in_ok-write_last.ensures.written)))

pub returns-clause-complete : goal.returns-clause-complete
returns-clause-complete g c =
    let r = c.in_ok-searched.searched in
    complete-found (files_given c.args.paths.now) c.args.states c.args.first_machine.now c.args.kind r.states r.complete r.endings r.texts c.in_ok-searched.ensures.found

pub returns-in_err-searched-clause-part : goal.returns-in_err-searched-clause-part
returns-in_err-searched-clause-part g c =
    let files = files_given c.args.paths.now in
    let s = c.args.first_machine.now in
    let last = answer_bytes (end_lines files c.args.states s c.args.kind) in
    inside_first last (access-bytes files c.args.states s c.args.kind) (end-long files c.args.states s c.args.kind) c.in_err-searched.ensures.written

pub returns-in_err-write_last-clause-part : goal.returns-in_err-write_last-clause-part
returns-in_err-write_last-clause-part g c =
    let files = files_given c.args.paths.now in
    let s = c.args.first_machine.now in
    let r = c.in_ok-searched.searched in
    let last = last-bytes files c.args.states s c.args.kind (first_tree c.args.paths.now) r.states r.complete r.endings r.texts c.requires.first c.in_ok-searched.ensures.found in
    inside_then c.write_last.new.out c.from_residual-in_err-write_last.ensures.1 (access-bytes files c.args.states s c.args.kind) last
    c.in_ok-searched.ensures.written c.in_err-write_last.ensures.part
