use Rattle.std.proofs.Common.{◌≡◌, ◌∙◌, ap, cond, [], subst, sym}
use Rattle.pv_model.specs.Machine.{call_of, walks_of}
use Rattle.pv_needs.specs.Asking.{begun_walks}
use Rattle.pv_policy.specs.Asked.{Has}
use Rattle.pv_policy.proofs.asked.asked_by.Goals as goal

pub returns-then-is_unveil : goal.returns-then-is_unveil
returns-then-is_unveil c me lives =
    let s = c.args.parts.now in
    let pid = c.args.pid in
    subst (λ ws. Has s pid me ws c.new-asked.result) (ap (λ b. cond b [] (begun_walks s pid me (walks_of (call_of c.args.call)) c.args.count)) c.if-is_unveil.ensures)
    (record { walks = c.new-asked.ensures.walks; used = c.new-asked.ensures.used })

pub returns : goal.returns
returns c me lives =
    let s = c.args.parts.now in
    let pid = c.args.pid in
    let new : Has s pid me [] c.new-asked.result = record { walks = c.new-asked.ensures.walks; used = c.new-asked.ensures.used } in
    subst (λ ws. Has s pid me ws c.push_walks.new.asked)
    (ap (λ ws. begun_walks s pid me ws c.args.count) c.walks.ensures ∙ ap (λ b. cond b [] (begun_walks s pid me (walks_of (call_of c.args.call)) c.args.count)) c.if-is_unveil.ensures)
    (c.in_ok-push_walks.ensures me lives new)
