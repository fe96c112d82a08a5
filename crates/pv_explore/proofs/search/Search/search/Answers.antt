use Rattle.std.proofs.Common.{◌≡◌, ◌-◌, arith, List, ◌∙◌, ap, refl, subst, sym}
use Rattle.pv_streams.proofs.WriterContracts.{but_from, or_as}
use Rattle.pv_streams.proofs.StoppedWriters.{but_ends, but_stopped, but_then}
use Rattle.pv_explore.specs.Plan.{Visited, visited_after_steps, visited_from, live_at, state_at}
use Rattle.pv_explore.specs.VisitedStates.{HasNumber}
use Rattle.pv_explore.specs.Searches.{visited_of, witness_at}
use Rattle.pv_explore.proofs.SearchSteps.{left-next, left-none, reported-next, reported-none, reported-past, reported-start}
use Rattle.pv_explore.proofs.CachedFollowing.{at-after, found-none, found-witness, number-at}
use Rattle.pv_laws_states.specs.States.{IsValid}
use Rattle.pv_model.specs.Machine.{Bytes, program_of, State}
use Rattle.pv_explore.proofs.search.Search.search.Goals as goal

pub loop-number-init : goal.loop-number-init
loop-number-init g c = record { left = but_from refl; visited = refl; at = c.requires; same = c.new-checkpoints.ensures }

pub returns-in_err-make_moves-clause-written : goal.returns-in_err-make_moves-clause-written
returns-in_err-make_moves-clause-written g c =
    let limit = c.args.limit in
    let s = c.args.first_machine.now in
    let visited = visited_of c.loop-number.self in
    let witness = witness_at visited c.loop-number.number in
    let at = found-witness c.args.first_machine.now visited c.loop-number.number c.loop-number.invariant.at (rw c.len-found.ensures at c.if-number-found.false) in
    let is = reported-next g.O.Observer.observe limit s c.loop-number.number visited (visited_after_steps g.O.Observer.observe limit program_of s witness (live_at program_of s witness) visited) witness c.loop-number-test.true at refl in
    or_as (reported-start g.O.Observer.observe limit s (visited_of c.args.self.now))
    (but_stopped c.loop-number.invariant.left _ c.from_residual.ensures.1 is (rw c.loop-number.invariant.same at c.in_err-make_moves.ensures.written))

pub make_moves-requires-clause-there : goal.make_moves-requires-clause-there
make_moves-requires-clause-there g c =
    let visited = visited_of c.loop-number.self in
    let witness = witness_at visited c.loop-number.number in
    let at = found-witness c.args.first_machine.now visited c.loop-number.number c.loop-number.invariant.at (rw c.len-found.ensures at c.if-number-found.false) in
    subst (λ (t : State). HasNumber c.loop-number.self.states c.loop-number.number (state_at program_of t witness)) (sym c.loop-number.invariant.same)
    (number-at c.args.first_machine.now visited c.loop-number.number witness c.loop-number.invariant.at at)

pub make_moves-requires-clause-whole : goal.make_moves-requires-clause-whole
make_moves-requires-clause-whole g c = subst IsValid (c.machine.ensures ∙ sym c.loop-number.invariant.same) c.parts.ensures.whole

pub loop-number-preserved : goal.loop-number-preserved
loop-number-preserved g c =
    let limit = c.args.limit in
    let s = c.args.first_machine.now in
    let visited = visited_of c.loop-number.self in
    let after : Visited = record (visited_of c.make_moves.new.self) { keys = c.unreference.new.self } in
    let is = ap (λ (keys : List Bytes). record (visited_of c.make_moves.new.self) { keys = keys }) c.unreference.ensures ∙ (rw c.loop-number.invariant.same at c.in_ok-make_moves.ensures.visited) in
    let witness = witness_at visited c.loop-number.number in
    let at = found-witness c.args.first_machine.now visited c.loop-number.number c.loop-number.invariant.at (rw c.len-found.ensures at c.if-number-found.false) in
    record {
      left = but_then c.loop-number.invariant.left (reported-next g.O.Observer.observe limit s c.loop-number.number visited after witness c.loop-number-test.true at is) (rw c.loop-number.invariant.same at c.in_ok-make_moves.ensures.written);
      visited = left-next g.O.Observer.observe limit s c.loop-number.number visited after witness c.loop-number-test.true at is ∙ c.loop-number.invariant.visited;
      at = at-after s g.O.Observer.observe limit witness (live_at program_of s witness) visited after c.loop-number.invariant.at is;
      same = c.make_moves.ensures.unchanged ∙ c.loop-number.invariant.same;
    }

pub returns-then-number-found-clause-visited : goal.returns-then-number-found-clause-visited
returns-then-number-found-clause-visited g c =
    let limit = c.args.limit in
    let s = c.args.first_machine.now in
    let visited = visited_of c.loop-number.self in
    let none = found-none s visited c.loop-number.number c.loop-number.invariant.at (rw c.len-found.ensures at c.if-number-found.true) in
    let all : limit - 0 ≡ limit = omega arith in
    left-none g.O.Observer.observe limit s c.loop-number.number visited c.loop-number-test.true none ∙ c.loop-number.invariant.visited ∙ ap (λ k. visited_from g.O.Observer.observe c.args.limit program_of c.args.first_machine.now k 0 (visited_of c.args.self.now)) all

pub returns-then-number-found-clause-written : goal.returns-then-number-found-clause-written
returns-then-number-found-clause-written g c =
    let limit = c.args.limit in
    let s = c.args.first_machine.now in
    let visited = visited_of c.loop-number.self in
    let none = found-none s visited c.loop-number.number c.loop-number.invariant.at (rw c.len-found.ensures at c.if-number-found.true) in
    let is = reported-none g.O.Observer.observe limit s c.loop-number.number visited c.loop-number-test.true none in
    or_as (reported-start g.O.Observer.observe limit s (visited_of c.args.self.now)) (but_ends is c.loop-number.invariant.left)

pub returns-clause-written : goal.returns-clause-written
returns-clause-written g c =
    let none = reported-past g.O.Observer.observe c.args.limit c.args.first_machine.now c.loop-number.number (visited_of c.loop-number.self) c.loop-number-test.false in
    or_as (reported-start g.O.Observer.observe c.args.limit c.args.first_machine.now (visited_of c.args.self.now)) (but_ends none c.loop-number.invariant.left)
