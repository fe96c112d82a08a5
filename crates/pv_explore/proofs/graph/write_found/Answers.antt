use Rattle.std.proofs.Common.{◌≡◌, ◌∷◌, ◌++◌, [], List, length, append-nil, sym}
use Rattle.std.proofs.lemmas.Grind.{flat_map-append}
use Rattle.pv_streams.proofs.WriterContracts.{or_as, or_longer, or_ok, writes_as}
use Rattle.pv_streams.proofs.StoppedWriters.{stopped, then_writes, unwritten}
use Rattle.pv_streams.proofs.ProperPrefixes.{inside_first, lines-long}
use Rattle.pv_streams.proofs.StoppedAnswers.{not_memory}
use Rattle.pv_explore.specs.Searches.{visited_of}
use Rattle.pv_explore.specs.Vertices.{vertices_from}
use Rattle.pv_model.specs.Answers.Explore.{states_line}
use Rattle.pv_model.specs.Machine.{AnswerLine, answer_bytes, answer_line_bytes}
use Rattle.pv_explore.proofs.graph.write_found.Goals as goal

-- the bytes of all lines are those of the states, followed by those of the last line
in-two : (vertices : List AnswerLine) (last : AnswerLine) → answer_bytes vertices ++ (answer_line_bytes last ++ []) ≡ answer_bytes (vertices ++ last ∷ [])
in-two vertices last = sym (flat_map-append answer_line_bytes vertices (last ∷ []))

pub returns-in_err-write_vertices-clause-written : goal.returns-in_err-write_vertices-clause-written
returns-in_err-write_vertices-clause-written g c =
    let visited = visited_of c.args.search.now in
    let vertices = vertices_from visited.keys c.args.first_machine.now c.args.tree 0 visited.witnesses in
    stopped c.from_residual.ensures.1 (or_as (in-two vertices (states_line (length visited.keys) visited.complete)) (or_longer _ c.in_err-write_vertices.ensures))

pub returns-in_err-write_states-clause-written : goal.returns-in_err-write_states-clause-written
returns-in_err-write_states-clause-written g c =
    let visited = visited_of c.args.search.now in
    let vertices = vertices_from visited.keys c.args.first_machine.now c.args.tree 0 visited.witnesses in
    unwritten c.from_residual-in_err-write_states.ensures.1
    (writes_as (in-two vertices (states_line (length visited.keys) visited.complete))
    (then_writes c.in_ok-write_vertices.ensures (writes_as (sym (append-nil _)) (rw c.len.ensures at c.in_err-write_states.ensures))))

pub returns-clause-written : goal.returns-clause-written
returns-clause-written g c =
    let visited = visited_of c.args.search.now in
    let vertices = vertices_from visited.keys c.args.first_machine.now c.args.tree 0 visited.witnesses in
    or_ok
    (writes_as (in-two vertices (states_line (length visited.keys) visited.complete))
    (then_writes c.in_ok-write_vertices.ensures (writes_as (sym (append-nil _)) (rw c.len.ensures at c.in_ok-write_states.ensures))))

pub returns-in_err-write_vertices-clause-part : goal.returns-in_err-write_vertices-clause-part
returns-in_err-write_vertices-clause-part g c =
    let visited = visited_of c.args.search.now in
    let vertices = vertices_from visited.keys c.args.first_machine.now c.args.tree 0 visited.witnesses in
    let last = states_line (length visited.keys) visited.complete in
    inside_first (answer_bytes (last ∷ [])) (in-two vertices last) (lines-long [] last []) c.in_err-write_vertices.ensures

pub returns-in_err-write_states-clause-part : goal.returns-in_err-write_states-clause-part
returns-in_err-write_states-clause-part g c = λ is. absurd (not_memory c.from_residual-in_err-write_states.result c.from_residual-in_err-write_states.ensures.1 is)
