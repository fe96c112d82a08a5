use Rattle.std.proofs.Common.{◌≡◌, ◌∷◌, ◌++◌, [], List, append-nil, sym}
use Rattle.std.proofs.lemmas.Grind.{flat_map-append}
use Rattle.pv_streams.proofs.WriterContracts.{or_as, or_longer, or_ok, writes_as}
use Rattle.pv_streams.proofs.ProperPrefixes.{inside_first, lines-long}
use Rattle.pv_streams.proofs.StoppedAnswers.{not_memory}
use Rattle.pv_streams.proofs.StoppedWriters.{stopped, then_writes, unwritten}
use Rattle.pv_named_files.specs.FirstPaths.{files_given, first_tree}
use Rattle.pv_access.specs.Unread.{unread_lines}
use Rattle.pv_model.specs.Machine.{AnswerLine, answer_bytes, answer_line_bytes}
use Rattle.pv_reduced.specs.Kinds.{count_line}
use Rattle.pv_access.proofs.access.write_last.Goals as goal

-- the bytes of all lines are those of the unread files, followed by those of the last line
in-two : (unread : List AnswerLine) (last : AnswerLine) → answer_bytes unread ++ (answer_line_bytes last ++ []) ≡ answer_bytes (unread ++ last ∷ [])
in-two unread last = sym (flat_map-append answer_line_bytes unread (last ∷ []))

pub returns-in_err-write_unread-clause-written : goal.returns-in_err-write_unread-clause-written
returns-in_err-write_unread-clause-written g c =
    let r = c.args.searched.now in
    let t = first_tree c.args.paths.now in
    let files = files_given c.args.paths.now in
    stopped c.from_residual.ensures.1
    (or_as (in-two (unread_lines t files r.texts r.complete) (count_line c.args.kind r.states r.complete)) (or_longer _ c.in_err-write_unread.ensures))

pub returns-in_err-write_count-clause-written : goal.returns-in_err-write_count-clause-written
returns-in_err-write_count-clause-written g c =
    let r = c.args.searched.now in
    let t = first_tree c.args.paths.now in
    let files = files_given c.args.paths.now in
    unwritten c.from_residual-in_err-write_count.ensures.1
    (writes_as (in-two (unread_lines t files r.texts r.complete) (count_line c.args.kind r.states r.complete))
    (then_writes c.in_ok-write_unread.ensures (writes_as (sym (append-nil _)) c.in_err-write_count.ensures)))

pub returns-clause-written : goal.returns-clause-written
returns-clause-written g c =
    let r = c.args.searched.now in
    let t = first_tree c.args.paths.now in
    let files = files_given c.args.paths.now in
    or_ok
    (writes_as (in-two (unread_lines t files r.texts r.complete) (count_line c.args.kind r.states r.complete))
    (then_writes c.in_ok-write_unread.ensures (writes_as (sym (append-nil _)) c.in_ok-write_count.ensures)))

pub returns-in_err-write_unread-clause-part : goal.returns-in_err-write_unread-clause-part
returns-in_err-write_unread-clause-part g c =
    let r = c.args.searched.now in
    let unread = unread_lines (first_tree c.args.paths.now) (files_given c.args.paths.now) r.texts r.complete in
    let last = count_line c.args.kind r.states r.complete in
    inside_first (answer_bytes (last ∷ [])) (in-two unread last) (lines-long [] last []) c.in_err-write_unread.ensures

pub returns-in_err-write_count-clause-part : goal.returns-in_err-write_count-clause-part
returns-in_err-write_count-clause-part g c = λ is. absurd (not_memory c.from_residual-in_err-write_count.result c.from_residual-in_err-write_count.ensures.1 is)
