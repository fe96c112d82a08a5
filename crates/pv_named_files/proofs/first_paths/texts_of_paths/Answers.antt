use Rattle.std.proofs.Common.{◌∙◌, ◌++◌, ◌∷◌, [], List, None, ap, get_or, sym, take}
use Rattle.std.proofs.lemmas.List.{take_more}
use Rattle.pv_model.specs.Machine.{Bytes}
use Rattle.pv_named_files.specs.FirstPaths.{path_texts}
use Rattle.pv_named_files.proofs.GivenFiles.{take-past, texts-append}
use Rattle.pv_named_files.proofs.first_paths.texts_of_paths.Goals as goal

pub loop-path-preserved : goal.loop-path-preserved
loop-path-preserved c =
    let ps = c.args.paths.now in
    let i = c.loop-path.path-index in
    c.in_ok-push_path.ensures
    ∙ ap (λ (ts : List Bytes). ts ++ path_texts (get_or ps i None ∷ [])) c.loop-path.invariant
    ∙ sym (ap path_texts (take_more ps i None c.loop-path-test.true) ∙ texts-append (take i ps) (get_or ps i None ∷ []))

pub returns : goal.returns
returns c = c.loop-path.invariant ∙ ap path_texts (take-past c.args.paths.now c.loop-path.path-index c.loop-path-test.false)
