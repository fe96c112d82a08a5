use Rattle.std.proofs.Common.{◌≡◌, ◌∙◌, ℕ, List, [], Option, ap, ap₂, get_or, refl, subst, sym}
use Rattle.std.specs.Prelude.{IfSome}
use Rattle.std.proofs.lemmas.List.{drop_all}
use Rattle.std.proofs.lemmas.Option.{get_or_from_slice_get, slice_get-get_or, slice_get_within}
use Rattle.pv_streams.proofs.WriterContracts.{but_from, or_as}
use Rattle.pv_streams.proofs.StoppedWriters.{but_ends, but_no_memory, but_stopped, but_then, no_memory}
use Rattle.pv_explore.specs.Plan.{move_at, state_at}
use Rattle.pv_laws_classes.specs.Reduced.{bound_by}
use Rattle.pv_model.specs.Machine.{program_of, State}
use Rattle.pv_reduced.specs.Plan.{reduced_bytes_at, reduced_texts_at, reduced_visited_after_steps, reduced_visited_at}
use Rattle.pv_reduced.specs.Searches.{reduced_visited_of, reduced_witness_at}
use Rattle.pv_reduced.proofs.ReducedSearchSteps.{if_some-at, steps-end, steps-next, steps_left, visited-next, visited-witness}
use Rattle.pv_reduced.proofs.search.ReducedSearch.make_moves.Goals as goal

pub returns-in_err-machine-clause-written : goal.returns-in_err-machine-clause-written
returns-in_err-machine-clause-written g c = no_memory c.from_residual.ensures.1

pub returns-in_err-pids-clause-written : goal.returns-in_err-pids-clause-written
returns-in_err-pids-clause-written g c = no_memory c.from_residual-in_err-pids.ensures.1

pub loop-pid-init : goal.loop-pid-init
loop-pid-init g c = record {
  left = but_from refl;
  visited = refl;
  at = slice_get-get_or (reduced_visited_of c.args.self.now).witnesses c.args.number [] c.requires.found;
  same = c.position.ensures.unchanged;
  machine = c.in_ok-machine.ensures.at;
}

pub position_or-requires-clause-found : goal.position_or-requires-clause-found
position_or-requires-clause-found g c = slice_get_within (reduced_visited_of c.loop-pid.self).witnesses c.args.number (reduced_witness_at (reduced_visited_of c.args.self.now) c.args.number) c.loop-pid.invariant.at

pub position_or-requires-clause-at : goal.position_or-requires-clause-at
position_or-requires-clause-at g c =
    let witness = reduced_witness_at (reduced_visited_of c.args.self.now) c.args.number in
    let same = get_or_from_slice_get (reduced_visited_of c.loop-pid.self).witnesses c.args.number witness [] c.loop-pid.invariant.at in
    let there = ap₂ (λ (s : State) (w : List ℕ). state_at program_of s w) c.loop-pid.invariant.same same in
    if_some-at c.take.result c.loop-pid.machine (sym there) c.take.ensures.value c.loop-pid.invariant.machine

pub returns-in_err-from-clause-written : goal.returns-in_err-from-clause-written
returns-in_err-from-clause-written g c =
    let moving = c.as_slice-moving.ensures.value ∙ c.in_ok-pids.ensures c.args.checkpoints.now c.in_ok-machine.ensures.at in
    let s = c.args.checkpoints.now in
    let witness = reduced_witness_at (reduced_visited_of c.args.self.now) c.args.number in
    or_as (ap (λ ps. steps_left g.O.Observer.observe c.args.limit s witness ps (reduced_visited_of c.args.self.now)) moving)
    (but_no_memory c.loop-pid.invariant.left c.from_residual-in_err-from.ensures.1)

pub make_move-requires-clause-found : goal.make_move-requires-clause-found
make_move-requires-clause-found g c = slice_get_within (reduced_visited_of c.loop-pid.self).witnesses c.args.number (reduced_witness_at (reduced_visited_of c.args.self.now) c.args.number) c.loop-pid.invariant.at

pub make_move-requires-clause-at : goal.make_move-requires-clause-at
make_move-requires-clause-at g c =
    let witness = reduced_witness_at (reduced_visited_of c.loop-pid.self) c.args.number in
    c.in_ok-from.ensures.at ∙ ap (λ (s : State). state_at program_of s witness) (sym c.position_or.ensures.unchanged)

pub returns-in_err-make_move-clause-written : goal.returns-in_err-make_move-clause-written
returns-in_err-make_move-clause-written g c =
    let observe = g.O.Observer.observe in
    let moving = c.as_slice-moving.ensures.value ∙ c.in_ok-pids.ensures c.args.checkpoints.now c.in_ok-machine.ensures.at in
    let s = c.args.checkpoints.now in
    let witness = reduced_witness_at (reduced_visited_of c.args.self.now) c.args.number in
    let pids = c.as_slice-moving.result.now in
    let i = c.loop-pid.pid-index in
    let visited = reduced_visited_of c.loop-pid.self in
    let same = get_or_from_slice_get visited.witnesses c.args.number witness [] c.loop-pid.invariant.at in
    let first = c.position_or.ensures.unchanged ∙ c.loop-pid.invariant.same in
    let is = steps-next observe c.args.limit s witness pids i visited (reduced_visited_at observe c.args.limit program_of s witness (get_or pids i 0) visited) c.loop-pid-test.true refl in
    let moved = ap₂ (λ (t : State) (w : List ℕ). reduced_bytes_at observe c.args.limit program_of t w (get_or pids i 0) visited) first same in
    or_as (ap (λ ps. steps_left observe c.args.limit s witness ps (reduced_visited_of c.args.self.now)) moving)
    (but_stopped c.loop-pid.invariant.left _ c.from_residual-in_err-make_move.ensures.1 is (or_as moved c.in_err-make_move.ensures.written))

pub loop-pid-preserved : goal.loop-pid-preserved
loop-pid-preserved g c =
    let observe = g.O.Observer.observe in
    let s = c.args.checkpoints.now in
    let witness = reduced_witness_at (reduced_visited_of c.args.self.now) c.args.number in
    let pids = c.as_slice-moving.result.now in
    let i = c.loop-pid.pid-index in
    let pid = get_or pids i 0 in
    let visited = reduced_visited_of c.loop-pid.self in
    let after = reduced_visited_of c.make_move.new.self in
    let same = get_or_from_slice_get visited.witnesses c.args.number witness [] c.loop-pid.invariant.at in
    let first = c.position_or.ensures.unchanged ∙ c.loop-pid.invariant.same in
    let reached = c.in_ok-make_move.ensures.visited ∙ ap₂ (λ (t : State) (w : List ℕ). reduced_visited_at observe c.args.limit program_of t w pid visited) first same in
    let moved = ap₂ (λ (t : State) (w : List ℕ). reduced_bytes_at observe c.args.limit program_of t w pid visited) first same in
    let bound = bound_by (state_at program_of s witness) pid in
    let m = move_at program_of s witness pid in
    let texts = reduced_texts_at observe c.args.limit program_of s witness pid in
    record {
      left = but_then c.loop-pid.invariant.left (steps-next observe c.args.limit s witness pids i visited after c.loop-pid-test.true reached) (or_as moved c.in_ok-make_move.ensures.written);
      visited = visited-next observe c.args.limit s witness pids i visited after c.loop-pid-test.true reached ∙ c.loop-pid.invariant.visited;
      at = visited-witness c.args.limit visited after bound m texts c.args.number witness reached c.loop-pid.invariant.at;
      same = c.make_move.ensures.unchanged ∙ first;
      machine = subst (λ (o : Option State). IfSome o (λ (t : State). t ≡ state_at program_of s witness)) (sym c.take.ensures.after) tt;
    }

pub returns-clause-written : goal.returns-clause-written
returns-clause-written g c =
    let moving = c.as_slice-moving.ensures.value ∙ c.in_ok-pids.ensures c.args.checkpoints.now c.in_ok-machine.ensures.at in
    let s = c.args.checkpoints.now in
    let witness = reduced_witness_at (reduced_visited_of c.args.self.now) c.args.number in
    let none = steps-end g.O.Observer.observe c.args.limit s witness c.as_slice-moving.result.now c.loop-pid.pid-index (reduced_visited_of c.loop-pid.self) c.loop-pid-test.false in
    or_as (ap (λ ps. steps_left g.O.Observer.observe c.args.limit s witness ps (reduced_visited_of c.args.self.now)) moving) (but_ends none c.loop-pid.invariant.left)

pub returns-clause-visited : goal.returns-clause-visited
returns-clause-visited g c =
    let moving = c.as_slice-moving.ensures.value ∙ c.in_ok-pids.ensures c.args.checkpoints.now c.in_ok-machine.ensures.at in
    let s = c.args.checkpoints.now in
    let witness = reduced_witness_at (reduced_visited_of c.args.self.now) c.args.number in
    let none = drop_all c.loop-pid.pid-index c.as_slice-moving.result.now c.loop-pid-test.false in
    ap (λ ps. reduced_visited_after_steps g.O.Observer.observe c.args.limit program_of s witness ps (reduced_visited_of c.loop-pid.self)) (sym none)
    ∙ c.loop-pid.invariant.visited
    ∙ ap (λ ps. reduced_visited_after_steps g.O.Observer.observe c.args.limit program_of s witness ps (reduced_visited_of c.args.self.now)) moving
