use Rattle.std.proofs.Common.{◌≡◌, ◌∙◌, ◌+◌, ◌∷◌, [], ℕ, List, ap, drop, map, subst, sym}
use Rattle.std.proofs.lemmas.List.{drop_all, drop_more}
use Rattle.pv_model_questions.specs.ExposureAbout.{kept_files_of}
use Rattle.pv_named_files.specs.FirstPaths.{files_given, first_tree}
use Rattle.pv_exposure.specs.Collected.{Exposed}
use Rattle.pv_exposure.specs.StateFiles.{IsFileOf}
use Rattle.pv_exposure.specs.Stored.{located_in_visit, exposed_with_files}
use Rattle.pv_exposure.specs.declared.files.StateFile.{StateFile}
use Rattle.pv_exposure.proofs.FileDescriptions.{are-kept, file-at, node_in, nodes-are}
use Rattle.pv_exposure.proofs.programs.ProgramRecord.add_files.Goals as goal

pub add_file-requires-clause-file : goal.add_file-requires-clause-file
add_file-requires-clause-file c =
    let v = c.args.visit.now in
    let s = v.parts.now in
    let t = first_tree v.paths.now in
    subst (λ (x : StateFile). IsFileOf t s x) (sym c.file-item.is)
    (file-at t s c.args.files.now (kept_files_of (files_given v.paths.now) t s.tree) c.loop-file.file-index c.file-item.result c.requires.files (are-kept (files_given v.paths.now) t s.tree) c.loop-file-test.true)

pub loop-file-preserved : goal.loop-file-preserved
loop-file-preserved c = λ p at.
    let v = c.args.visit.now in
    let l = located_in_visit v p in
    let t = first_tree v.paths.now in
    let fs = c.args.files.now in
    let i = c.loop-file.file-index in
    let x = c.file-item.result in
    let next = drop_more fs i x c.loop-file-test.true ∙ ap (λ (y : StateFile). y ∷ drop (i + 1) fs) (sym c.file-item.is) in
    ap (λ (e : Exposed). exposed_with_files t l e (map node_in (drop (i + 1) fs))) (c.in_ok-add_file.ensures p at)
    ∙ ap (λ (ys : List StateFile). exposed_with_files t l c.loop-file.self (map node_in ys)) (sym next)
    ∙ c.loop-file.invariant p at

pub returns : goal.returns
returns c = λ p at.
    let v = c.args.visit.now in
    let l = located_in_visit v p in
    let t = first_tree v.paths.now in
    let fs = c.args.files.now in
    sym (ap (λ (ys : List StateFile). exposed_with_files t l c.loop-file.self (map node_in ys)) (drop_all c.loop-file.file-index fs c.loop-file-test.false))
    ∙ c.loop-file.invariant p at
    ∙ ap (exposed_with_files t l c.args.self.now) (nodes-are t v.parts.now.tree fs (kept_files_of (files_given v.paths.now) t v.parts.now.tree) c.requires.files)
