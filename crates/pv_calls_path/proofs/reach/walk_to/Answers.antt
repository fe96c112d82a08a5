use Rattle.std.proofs.Common.{◌∙◌, sym, ap, rules}
use Rattle.pv_model.specs.Machine.{resolve}
use Rattle.pv_calls_path.proofs.CheckedWalks.{found_fine, walk_found, walk_refused, walks-few}
use Rattle.pv_calls_path.proofs.reach.walk_to.Goals as goal

pub returns-in-Ok-clause-leads : goal.returns-in-Ok-clause-leads
returns-in-Ok-clause-leads g c =
    let found = ap (λ t. resolve t c.args.follow c.args.start c.args.path.now) (sym c.tree.ensures) ∙ sym c.in-Ok.ensures.place in
    record {
      walked = walk_found c.args.parts.now c.args.start c.args.follow c.args.path.now c.in-Ok.place found;
      fine = found_fine c.args.parts.now c.args.start c.args.follow c.args.path.now c.requires.whole c.requires.start c.requires.text c.in-Ok.place found;
    }

pub returns-in-Err-clause-nowhere : goal.returns-in-Err-clause-nowhere
returns-in-Err-clause-nowhere g c =
    let found = ap (λ t. resolve t c.args.follow c.args.start c.args.path.now) (sym c.tree.ensures) ∙ sym c.in-Err.ensures.place in
    rw c.refusal.ensures (record {
      lost = walk_refused c.args.parts.now c.args.start c.args.follow c.args.path.now c.walks_begun.result c.in-Err.errno c.walks_begun.ensures found;
      few = walks-few c.args.path.now c.walks_begun.result c.walks_begun.ensures;
    })
