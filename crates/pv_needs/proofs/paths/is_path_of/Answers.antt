use Rattle.std.proofs.Common.{◌≡◌, ◌∙◌, ◌∷◌, ◌<◌, [], Some, ap, append_assoc, arith, length, refl, rules, sym, subst}
use Rattle.std.proofs.lemmas.Bool.{eqb-true}
use Rattle.pv_model.specs.Machine.{node_path, Bytes, find_entry}
use Rattle.pv_needs.proofs.KnownPaths.{found-path, root-known}
use Rattle.pv_needs.proofs.paths.is_path_of.Goals as goal

pub loop-before-preserved : goal.loop-before-preserved
loop-before-preserved c =
    let t = c.args.tree.now.tree in
    let w = c.sizes.ensures.present.well_formed in
    let reached = c.loop-before.reached in
    let above = c.in-Some-parent.above in
    let found : find_entry t above c.in-Some.name.now ≡ Some reached = search rules in
    record {
      directory = c.in-Some-parent.ensures.directory;
      path = λ is.
          c.loop-before.invariant.path
          (found-path t w reached above c.in-Some.name.now c.in-Some.before.now c.if-reached-eq-ROOT.false c.loop-before.invariant.directory found is
          ∙ ap Some (append_assoc c.in-Some.before.now (47 ∷ []) c.in-Some.name.now ∙ sym c.in-Some.ensures));
    }

empty-below : (bytes : Bytes) → length bytes < 1 → [] ≡ bytes
empty-below [] few = refl
empty-below (b ∷ bytes) few = absurd (omega arith)

pub returns-in-empty : goal.returns-in-empty
returns-in-empty c at-root =
    let t = c.args.tree.now.tree in
    let rest = c.loop-before.rest.now in
    c.loop-before.invariant.path
    (subst (λ n. node_path t n ≡ Some rest) (sym (eqb-true c.loop-before.reached 1 at-root))
    (root-known t c.sizes.ensures.present.well_formed ∙ ap Some (empty-below rest c.in-empty.len_below)))
