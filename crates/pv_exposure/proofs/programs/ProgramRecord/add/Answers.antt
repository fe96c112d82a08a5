use Rattle.std.proofs.Common.{◌≡◌, ◌∙◌, ℕ, Bool, List, ap, filter}
use Rattle.pv_model_questions.specs.ExposureAbout.{kept_files_of}
use Rattle.pv_named_files.specs.FirstPaths.{files_given, first_tree}
use Rattle.pv_exposure.specs.Collected.{Exposed}
use Rattle.pv_exposure.specs.StateFiles.{is_safe_at}
use Rattle.pv_exposure.specs.Stored.{located_in_visit, exposed_with_files}
use Rattle.pv_exposure.proofs.ProgramFiles.{files-more, files-safe}
use Rattle.pv_exposure.proofs.programs.ProgramRecord.add.Goals as goal

pub returns : goal.returns
returns c = λ p at.
    let v = c.args.visit.now in
    let s = v.parts.now in
    let given = files_given v.paths.now in
    let t = first_tree v.paths.now in
    let l = located_in_visit v p in
    let fs = kept_files_of given t s.tree in
    let safe : ℕ → Bool = λ f. is_safe_at f s in
    let inside : Exposed = record {
      program = c.self.inside.program;
      leaks = c.self.inside.leaks;
      peers = c.self.inside.peers;
      edits = c.self.inside.edits;
      reads = c.self.inside.reads;
      safe = c.self.inside.safe.items;
    } in
    let now : inside ≡ exposed_with_files t l c.args.self.now fs = c.self.view_is ∙ c.in_ok-add_files.ensures p at in
    let kept : c.in_ok-safe.safe.items ≡ filter safe c.args.self.now.safe =
    c.in_ok-safe.ensures given t s c.requires.files ∙ ap (filter safe) (c.deref-2.ensures.value ∙ ap (λ (e : Exposed). e.safe) now ∙ files-safe given t l c.args.self.now fs) in
    ap (λ (e : Exposed). record e { safe = c.in_ok-safe.safe.items }) now ∙ files-more given t l c.args.self.now c.in_ok-safe.safe.items kept
