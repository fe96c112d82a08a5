use Rattle.std.proofs.Common.{◌++◌, ◌∙◌, [], ap, sym, codes}
use Rattle.std.proofs.lemmas.List.{append-nil}
use Rattle.pv_model.specs.Machine.{answer_bytes, answer_line, call_of}
use Rattle.pv_trace.specs.Words.{direction_of}
use Rattle.pv_streams.proofs.WriterContracts.{writes_as, writes_both, writes_failed, writes_longer, writes_none}
use Rattle.pv_step_lines.specs.Parts.{moved_by_call}
use Rattle.pv_step_lines.proofs.MovedLines.{moved-none, moved-some, moved-first}
use Rattle.pv_step_lines.proofs.RemarkLines.{with-remark, with-remarks}
use Rattle.pv_step_lines.proofs.moved.write_moved_part.Goals as goal

pub returns-in_default : goal.returns-in_default
returns-in_default g c = rw c.in_default.is writes_none

pub returns-in_err-write_line_on : goal.returns-in_err-write_line_on
returns-in_err-write_line_on g c =
    let first = moved-first c.args.pid c.args.parts.now c.args.file (call_of c.args.call) (direction_of c.in-Some.direction) c.in-Some.bytes.now in
    rw c.in-Some.is
    (writes_failed c.from_residual.ensures.0
    (writes_as (with-remarks _ first.0 ∙ ap (λ ls. answer_bytes (ls ++ [])) (sym first.1)) (writes_longer _ c.in_err-write_line_on.ensures)))

pub returns-then-is_empty : goal.returns-then-is_empty
returns-then-is_empty g c =
    let none = moved-none c.args.pid c.args.parts.now c.args.file (call_of c.args.call) (direction_of c.in-Some.direction) c.in-Some.bytes.now c.if-is_empty.ensures in
    rw c.in-Some.is (writes_as (sym (append-nil _) ∙ ap (λ ls. answer_bytes (ls ++ [])) (sym none)) c.in_ok-write_line_on.ensures)

pub returns-else-is_empty : goal.returns-else-is_empty
returns-else-is_empty g c =
    let bytes = c.in-Some.bytes.now in
    let some = moved-some c.args.pid c.args.parts.now c.args.file (call_of c.args.call) (direction_of c.in-Some.direction) bytes c.if-is_empty.ensures in
    let remark = answer_line c.args.pid (codes "TEXT") (moved_by_call c.args.parts.now c.args.file (call_of c.args.call) bytes) in
    rw c.in-Some.is (writes_as (with-remark _ remark ∙ ap (λ ls. answer_bytes (ls ++ [])) (sym some)) (writes_both c.in_ok-write_line_on.ensures c.write_moved.ensures))
