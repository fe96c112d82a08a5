use Rattle.std.proofs.Common.{◌≡◌, ◌∙◌, ◌++◌, ◌∷◌, [], List, None, Some, option_map, ap, ap₂, slice_set, sym}
use Rattle.std.specs.Prelude.{position}
use Rattle.std.proofs.lemmas.Result.{on_ok_weaker}
use Rattle.pv_model.specs.Machine.{program_key, Numbers, program_numbers, Process, Program}
use Rattle.pv_programs.specs.OfProcs.ProcessTable.{ProcessTable, process_in}
use Rattle.pv_named_files.specs.FirstPaths.{files_given, first_tree}
use Rattle.pv_exposure.specs.Collected.{Exposed, exposed_more, exposed_none, is_of}
use Rattle.pv_exposure.specs.Stored.{located_in_visit}
use Rattle.pv_exposure.proofs.FindingAddition.{record-new, record-there}
use Rattle.pv_exposure.proofs.programs.add_process.Goals as goal

program-of : {a b : Program} → Some a ≡ Some b → a ≡ b
program-of is = cc

pub returns-in-Some : goal.returns-in-Some
returns-in-Some c =
    on_ok_weaker c.add.result
    (λ added p at.
    let l = located_in_visit c.args.visit.now p in
    let es : List Exposed = c.args.records.now.items in
    let program : p.program ≡ c.program-program.result.now =
    program-of (sym (ap (λ (ps : ProcessTable). option_map (λ (me : Process). me.program) (process_in ps c.args.visit.now.pid)) c.processes.ensures ∙ ap (option_map (λ (me : Process). me.program)) at) ∙ c.program-program.ensures) in
    let key = c.in_ok-numbers.ensures ∙ ap program_numbers (sym program) in
    let is : position (is_of (program_key l)) es ≡ Some c.in-Some.k =
    sym (ap₂ (λ (ns : Numbers) (xs : List Exposed). position (is_of ns) xs) (c.deref-2.ensures.value ∙ key) c.deref.ensures.value) ∙ sym c.index_of.ensures ∙ c.in-Some.is in
    ap (slice_set es c.in-Some.k) (added p at ∙ ap (λ (e : Exposed). exposed_more (files_given c.args.visit.now.paths.now) (first_tree c.args.visit.now.paths.now) e l) c.index_mut.ensures.value)
    ∙ sym (record-there (files_given c.args.visit.now.paths.now) (first_tree c.args.visit.now.paths.now) c.args.named.now l es c.in-Some.k c.index_mut.result.now is).1)
    c.add.ensures

pub returns-in_ok-push-in-None : goal.returns-in_ok-push-in-None
returns-in_ok-push-in-None c = λ p at.
    let l = located_in_visit c.args.visit.now p in
    let es : List Exposed = c.args.records.now.items in
    let program : p.program ≡ c.program-program.result.now =
    program-of (sym (ap (λ (ps : ProcessTable). option_map (λ (me : Process). me.program) (process_in ps c.args.visit.now.pid)) c.processes.ensures ∙ ap (option_map (λ (me : Process). me.program)) at) ∙ c.program-program.ensures) in
    let key = c.in_ok-numbers.ensures ∙ ap program_numbers (sym program) in
    let none : position (is_of (program_key l)) es ≡ None =
    sym (ap₂ (λ (ns : Numbers) (xs : List Exposed). position (is_of ns) xs) (c.deref-2.ensures.value ∙ key) c.deref.ensures.value) ∙ sym c.index_of.ensures ∙ c.in-None.is in
    c.in_ok-push-in-None.ensures.items
    ∙ ap (λ (e : Exposed). es ++ e ∷ [])
    (c.in_ok-add-in-None.ensures p at ∙ ap (λ (e : Exposed). exposed_more (files_given c.args.visit.now.paths.now) (first_tree c.args.visit.now.paths.now) e l) (c.in_ok-added-in-None.ensures ∙ ap (exposed_none c.args.named.now) (sym program)))
    ∙ sym (record-new (files_given c.args.visit.now.paths.now) (first_tree c.args.visit.now.paths.now) c.args.named.now l es none)
