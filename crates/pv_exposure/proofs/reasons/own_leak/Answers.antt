use Rattle.std.proofs.Common.{◌≡◌, ◌∙◌, ℕ, Bool, None, Some, Option, if◌then◌else◌, ap, sym, true}
use Rattle.pv_model.specs.declared.verdict.Why.{Why}
use Rattle.pv_model_questions.specs.Exposure.{first_leak_of}
use Rattle.pv_named_files.specs.FirstPaths.{files_given, first_tree}
use Rattle.pv_exposure.proofs.FirstLeaks.{own-first, own-none}
use Rattle.pv_exposure.proofs.reasons.own_leak.Goals as goal

pub returns-in_default : goal.returns-in_default
returns-in_default c = λ p at.
    let v = c.args.visit.now in
    let s = v.parts.now in
    let f = c.args.node in
    let none : first_leak_of s f ≡ None =
    sym (c.leak.ensures (files_given v.paths.now) (first_tree v.paths.now) s c.requires.visit.files ∙ ap (λ (b : Bool). let o : Option (ℕ × Why) = if b then first_leak_of s f else None in o) c.requires.file) ∙ c.in_default.is in
    sym (own-none s f v.pid p at none)

pub returns-then-pid-visit : goal.returns-then-pid-visit
returns-then-pid-visit c = λ p at.
    let v = c.args.visit.now in
    let s = v.parts.now in
    let f = c.args.node in
    let is : first_leak_of s f ≡ Some (c.in-Some.pid, c.in-Some.why) =
    sym (c.leak.ensures (files_given v.paths.now) (first_tree v.paths.now) s c.requires.visit.files ∙ ap (λ (b : Bool). let o : Option (ℕ × Why) = if b then first_leak_of s f else None in o) c.requires.file) ∙ c.in-Some.is in
    sym (own-first s f v.pid p c.in-Some.why c.invariant.ensures.processes.ascending at (is ∙ ap (λ (k : ℕ). Some (k, c.in-Some.why)) c.if-pid-visit.true))
