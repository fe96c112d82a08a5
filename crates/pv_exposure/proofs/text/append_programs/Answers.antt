use Rattle.std.proofs.Common.{◌∙◌, ◌+◌, ◌++◌, ◌∷◌, List, append-nil, append_assoc, ap, drop, sym}
use Rattle.std.proofs.lemmas.List.{drop_all, drop_more}
use Rattle.pv_model.specs.Machine.{answer_bytes, Bytes}
use Rattle.pv_named_files.specs.FirstPaths.{files_given, first_tree}
use Rattle.pv_exposure.specs.Collected.{Exposed, lines_of_exposed}
use Rattle.pv_exposure.proofs.ListTexts.{bytes_from, from-next}
use Rattle.pv_exposure.proofs.text.append_programs.Goals as goal

pub loop-k-preserved : goal.loop-k-preserved
loop-k-preserved c =
    let files = files_given c.args.paths.now in
    let t = first_tree c.args.paths.now in
    let es : List Exposed = c.args.programs.now in
    let k = c.loop-k.k in
    let e : Exposed = c.index-programs-k.result in
    let out = c.loop-k.out.bytes.items in
    let rest : List Exposed = drop (k + 1) es in
    let next = drop_more es k e c.loop-k-test.true ∙ ap (λ (y : Exposed). y ∷ rest) (sym c.index-programs-k.is) in
    ap (λ (bs : Bytes). bs ++ bytes_from files t c.args.complete (k + 1 + 1) rest) c.in_ok-append_program.ensures
    ∙ append_assoc out (answer_bytes (lines_of_exposed files t c.args.complete (k + 1, e))) (bytes_from files t c.args.complete (k + 1 + 1) rest)
    ∙ ap (λ (bs : Bytes). out ++ bs) (sym (from-next files t c.args.complete (k + 1) e rest))
    ∙ ap (λ (xs : List Exposed). out ++ bytes_from files t c.args.complete (k + 1) xs) (sym next)
    ∙ c.loop-k.invariant

pub returns : goal.returns
returns c =
    let files = files_given c.args.paths.now in
    let t = first_tree c.args.paths.now in
    let es : List Exposed = c.args.programs.now in
    let k = c.loop-k.k in
    let out = c.loop-k.out.bytes.items in
    sym (append-nil out) ∙ ap (λ (xs : List Exposed). out ++ bytes_from files t c.args.complete (k + 1) xs) (sym (drop_all k es c.loop-k-test.false)) ∙ c.loop-k.invariant
