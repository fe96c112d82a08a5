use Rattle.std.proofs.Common.{◌∙◌, ℕ, List, [], ap, ap₂, get_or, refl, subst, sym}
use Rattle.std.proofs.lemmas.Option.{get_or_from_slice_get, slice_get-get_or, slice_get_within}
use Rattle.pv_streams.proofs.WriterContracts.{but_from, or_as}
use Rattle.pv_streams.proofs.StoppedWriters.{but_ends, but_stopped, but_then, no_memory}
use Rattle.pv_explore.specs.VisitedStates.{HasNumber}
use Rattle.pv_explore.specs.Plan.{step_bytes_at, move_at, state_at, texts_at, visited_at}
use Rattle.pv_explore.specs.Searches.{visited_of, witness_at}
use Rattle.pv_explore.proofs.SearchSteps.{steps-end, steps-next, steps_left, visited-next, visited-witness}
use Rattle.pv_explore.proofs.CachedFollowing.{number-after}
use Rattle.pv_laws_states.specs.States.{IsValid}
use Rattle.pv_model.specs.Machine.{program_of, State}
use Rattle.pv_explore.proofs.search.Search.make_moves.Goals as goal

pub returns-in_err-pids-clause-written : goal.returns-in_err-pids-clause-written
returns-in_err-pids-clause-written g c = no_memory c.from_residual.ensures.1

pub loop-pid-init : goal.loop-pid-init
loop-pid-init g c = record {
  left = but_from refl;
  visited = refl;
  at = slice_get-get_or (visited_of c.args.self.now).witnesses c.args.number [] c.requires.found;
  there = c.requires.there;
  same = c.live.ensures.unchanged;
}

pub make_move-requires-clause-there : goal.make_move-requires-clause-there
make_move-requires-clause-there g c =
    let s = c.args.checkpoints.now in
    let witness = witness_at (visited_of c.args.self.now) c.args.number in
    let same = get_or_from_slice_get (visited_of c.loop-pid.self).witnesses c.args.number witness [] c.loop-pid.invariant.at in
    subst (λ (t : State). HasNumber c.loop-pid.self.states c.args.number (state_at program_of t (witness_at (visited_of c.loop-pid.self) c.args.number))) (sym c.loop-pid.invariant.same)
    (subst (λ (w : List ℕ). HasNumber c.loop-pid.self.states c.args.number (state_at program_of s w)) (sym same) c.loop-pid.invariant.there)

pub make_move-requires-clause-whole : goal.make_move-requires-clause-whole
make_move-requires-clause-whole g c = subst IsValid (sym c.loop-pid.invariant.same) c.requires.whole

pub make_move-requires-clause-found : goal.make_move-requires-clause-found
make_move-requires-clause-found g c = slice_get_within (visited_of c.loop-pid.self).witnesses c.args.number (witness_at (visited_of c.args.self.now) c.args.number) c.loop-pid.invariant.at

pub returns-in_err-make_move-clause-written : goal.returns-in_err-make_move-clause-written
returns-in_err-make_move-clause-written g c =
    let observe = g.O.Observer.observe in
    let live = c.as_slice-live.ensures.value ∙ c.in_ok-pids.ensures.live in
    let s = c.args.checkpoints.now in
    let witness = witness_at (visited_of c.args.self.now) c.args.number in
    let pids = c.as_slice-live.result.now in
    let i = c.loop-pid.pid-index in
    let visited = visited_of c.loop-pid.self in
    let same = get_or_from_slice_get visited.witnesses c.args.number witness [] c.loop-pid.invariant.at in
    let is = steps-next observe c.args.limit s witness pids i visited (visited_at observe c.args.limit program_of s witness (get_or pids i 0) visited) c.loop-pid-test.true refl in
    let moved = ap₂ (λ (t : State) (w : List ℕ). step_bytes_at observe c.args.limit program_of t w (get_or pids i 0) visited) c.loop-pid.invariant.same same in
    or_as (ap (λ ps. steps_left observe c.args.limit s witness ps (visited_of c.args.self.now)) live)
    (but_stopped c.loop-pid.invariant.left _ c.from_residual-in_err-make_move.ensures.1 is (or_as moved c.in_err-make_move.ensures.written))

pub loop-pid-preserved : goal.loop-pid-preserved
loop-pid-preserved g c =
    let observe = g.O.Observer.observe in
    let s = c.args.checkpoints.now in
    let witness = witness_at (visited_of c.args.self.now) c.args.number in
    let pids = c.as_slice-live.result.now in
    let i = c.loop-pid.pid-index in
    let pid = get_or pids i 0 in
    let visited = visited_of c.loop-pid.self in
    let after = visited_of c.make_move.new.self in
    let same = get_or_from_slice_get visited.witnesses c.args.number witness [] c.loop-pid.invariant.at in
    let reached =
    c.in_ok-make_move.ensures.visited ∙ ap₂ (λ (t : State) (w : List ℕ). visited_at observe c.args.limit program_of t w pid visited) c.loop-pid.invariant.same same in
    let moved = ap₂ (λ (t : State) (w : List ℕ). step_bytes_at observe c.args.limit program_of t w pid visited) c.loop-pid.invariant.same same in
    let m = move_at program_of s witness pid in
    let texts = texts_at observe c.args.limit program_of s witness pid in
    record {
      left = but_then c.loop-pid.invariant.left (steps-next observe c.args.limit s witness pids i visited after c.loop-pid-test.true reached) (or_as moved c.in_ok-make_move.ensures.written);
      visited = visited-next observe c.args.limit s witness pids i visited after c.loop-pid-test.true reached ∙ c.loop-pid.invariant.visited;
      at = visited-witness c.args.limit visited after m texts c.args.number witness reached c.loop-pid.invariant.at;
      there = number-after c.args.limit visited after m texts c.args.number (state_at program_of s witness) c.loop-pid.invariant.there reached;
      same = c.make_move.ensures.unchanged ∙ c.loop-pid.invariant.same;
    }

pub returns-clause-written : goal.returns-clause-written
returns-clause-written g c =
    let live = c.as_slice-live.ensures.value ∙ c.in_ok-pids.ensures.live in
    let s = c.args.checkpoints.now in
    let witness = witness_at (visited_of c.args.self.now) c.args.number in
    let none = steps-end g.O.Observer.observe c.args.limit s witness c.as_slice-live.result.now c.loop-pid.pid-index (visited_of c.loop-pid.self) c.loop-pid-test.false in
    or_as (ap (λ ps. steps_left g.O.Observer.observe c.args.limit s witness ps (visited_of c.args.self.now)) live) (but_ends none c.loop-pid.invariant.left)
