use Rattle.std.proofs.Common.{◌≡◌, ◌<◌, length, drop, Some, unwrap_or, position, sym, ◌∙◌, arith}
use Rattle.pv_namei.proofs.PathComponents.{is_slash, is_other, components_none, components_next, some_next}
use Rattle.pv_namei.proofs.component.split_first.Goals as goal
use Rattle.pv_namei.proofs.component.split_first.Goals.{After-split_at-2}

pub returns-in_default-clause-parts : goal.returns-in_default-clause-parts
returns-in_default-clause-parts c = components_none c.args.path.now (sym c.first_other.ensures ∙ c.in_default.is)

start_found : (c : After-split_at-2) → position is_other c.args.path.now ≡ Some c.in-Some.start
start_found c = sym c.first_other.ensures ∙ c.in-Some.is

end_is : (c : After-split_at-2) → c.unwrap_or-end.result ≡ unwrap_or (position is_slash (drop c.in-Some.start c.args.path.now)) (length (drop c.in-Some.start c.args.path.now))
end_is c = rw (← c.split_at.ensures.back) (rw (← c.first_slash.ensures) c.unwrap_or-end.ensures)

pub returns-clause-parts : goal.returns-clause-parts
returns-clause-parts c =
    rw (c.split_at-2.ensures.front, c.split_at-2.ensures.back, c.split_at.ensures.back) (components_next c.args.path.now c.in-Some.start c.unwrap_or-end.result (start_found c) (end_is c))

pub returns-clause-shorter : goal.returns-clause-shorter
returns-clause-shorter c =
    let some : 0 < c.unwrap_or-end.result = some_next c.args.path.now c.in-Some.start c.unwrap_or-end.result (start_found c) (end_is c) in
    omega (arith, c.split_at.ensures.back_len, c.split_at-2.ensures.back_len)
