use Rattle.std.proofs.Common.{◌≡◌, ◌-◌, arith, ◌∙◌, ap, refl}
use Rattle.std.proofs.lemmas.Option.{slice_get_within}
use Rattle.pv_streams.proofs.WriterContracts.{but_from, or_as}
use Rattle.pv_reduced.specs.Plan.{reduced_visited_after_steps, reduced_visited_from}
use Rattle.pv_reduced.proofs.ReducedSearchSteps.{found-none, found-witness, left-next, left-none, long-after, reported-next, reported-none, reported-past, reported-start}
use Rattle.pv_streams.proofs.StoppedWriters.{but_ends, but_stopped, but_then}
use Rattle.pv_reduced.specs.Searches.{moving_in, reduced_visited_of, reduced_witness_at}
use Rattle.pv_model.specs.Machine.{program_of}
use Rattle.pv_reduced.proofs.search.ReducedSearch.search.Goals as goal

pub loop-number-init : goal.loop-number-init
loop-number-init g c = record { left = but_from refl; visited = refl; at = c.requires; same = c.new-checkpoints.ensures }

pub make_moves-requires-clause-found : goal.make_moves-requires-clause-found
make_moves-requires-clause-found g c =
    let visited = reduced_visited_of c.loop-number.self in
    slice_get_within visited.witnesses c.loop-number.number (reduced_witness_at visited c.loop-number.number)
    (found-witness visited c.loop-number.number c.loop-number.invariant.at (rw c.len-found.ensures at c.if-number-found.false))

pub make_moves-requires-clause-bounds : goal.make_moves-requires-clause-bounds
make_moves-requires-clause-bounds g c = c.loop-number.invariant.at

pub returns-in_err-make_moves-clause-written : goal.returns-in_err-make_moves-clause-written
returns-in_err-make_moves-clause-written g c =
    let limit = c.args.limit in
    let s = c.args.first_machine.now in
    let visited = reduced_visited_of c.loop-number.self in
    let witness = reduced_witness_at visited c.loop-number.number in
    let at = found-witness visited c.loop-number.number c.loop-number.invariant.at (rw c.len-found.ensures at c.if-number-found.false) in
    let is = reported-next g.O.Observer.observe limit s c.loop-number.number visited (reduced_visited_after_steps g.O.Observer.observe limit program_of s witness (moving_in s visited c.loop-number.number witness) visited) witness c.loop-number-test.true at refl in
    or_as (reported-start g.O.Observer.observe limit s (reduced_visited_of c.args.self.now))
    (but_stopped c.loop-number.invariant.left _ c.from_residual.ensures.1 is (rw c.loop-number.invariant.same at c.in_err-make_moves.ensures.written))

pub loop-number-preserved : goal.loop-number-preserved
loop-number-preserved g c =
    let limit = c.args.limit in
    let s = c.args.first_machine.now in
    let visited = reduced_visited_of c.loop-number.self in
    let after = reduced_visited_of c.make_moves.new.self in
    let is = rw c.loop-number.invariant.same at c.in_ok-make_moves.ensures.visited in
    let witness = reduced_witness_at visited c.loop-number.number in
    let at = found-witness visited c.loop-number.number c.loop-number.invariant.at (rw c.len-found.ensures at c.if-number-found.false) in
    record {
      left = but_then c.loop-number.invariant.left (reported-next g.O.Observer.observe limit s c.loop-number.number visited after witness c.loop-number-test.true at is) (rw c.loop-number.invariant.same at c.in_ok-make_moves.ensures.written);
      visited = left-next g.O.Observer.observe limit s c.loop-number.number visited after witness c.loop-number-test.true at is ∙ c.loop-number.invariant.visited;
      at = long-after g.O.Observer.observe limit s witness (moving_in s visited c.loop-number.number witness) visited after c.loop-number.invariant.at is;
      same = c.make_moves.ensures.unchanged ∙ c.loop-number.invariant.same;
    }

pub returns-then-number-found-clause-visited : goal.returns-then-number-found-clause-visited
returns-then-number-found-clause-visited g c =
    let limit = c.args.limit in
    let s = c.args.first_machine.now in
    let visited = reduced_visited_of c.loop-number.self in
    let none = found-none visited c.loop-number.number c.loop-number.invariant.at (rw c.len-found.ensures at c.if-number-found.true) in
    let all : limit - 0 ≡ limit = omega arith in
    left-none g.O.Observer.observe limit s c.loop-number.number visited c.loop-number-test.true none ∙ c.loop-number.invariant.visited ∙ ap (λ k. reduced_visited_from g.O.Observer.observe c.args.limit program_of c.args.first_machine.now k 0 (reduced_visited_of c.args.self.now)) all

pub returns-then-number-found-clause-written : goal.returns-then-number-found-clause-written
returns-then-number-found-clause-written g c =
    let limit = c.args.limit in
    let s = c.args.first_machine.now in
    let visited = reduced_visited_of c.loop-number.self in
    let none = found-none visited c.loop-number.number c.loop-number.invariant.at (rw c.len-found.ensures at c.if-number-found.true) in
    let is = reported-none g.O.Observer.observe limit s c.loop-number.number visited c.loop-number-test.true none in
    or_as (reported-start g.O.Observer.observe limit s (reduced_visited_of c.args.self.now)) (but_ends is c.loop-number.invariant.left)

pub returns-clause-written : goal.returns-clause-written
returns-clause-written g c =
    let none = reported-past g.O.Observer.observe c.args.limit c.args.first_machine.now c.loop-number.number (reduced_visited_of c.loop-number.self) c.loop-number-test.false in
    or_as (reported-start g.O.Observer.observe c.args.limit c.args.first_machine.now (reduced_visited_of c.args.self.now)) (but_ends none c.loop-number.invariant.left)
