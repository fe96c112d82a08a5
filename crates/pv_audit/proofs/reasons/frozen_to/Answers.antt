use Rattle.std.proofs.Common.{List, [], ◌∷◌, map, get_or, is_some, ap, ◌∙◌}
use Rattle.pv_model.specs.Machine.{process_at, names_of}
use Rattle.pv_audit.specs.declared.suspects.Suspect.{Suspect}
use Rattle.pv_audit.specs.Findings.{with_names_noted, suspect}
use Rattle.pv_audit.specs.Reasons.{preserved_at}
use Rattle.pv_audit.proofs.FirstReasons.{preserved-frozen}
use Rattle.pv_audit.proofs.NameAccess.{with_name_noted-pid}
use Rattle.pv_audit.proofs.reasons.frozen_to.Goals as goal

pub is_preserved_from-requires : goal.is_preserved_from-requires
is_preserved_from-requires c =
    let s = c.args.parts.now in
    let names = names_of s.tree c.args.node in
    let all = c.note_names.ensures ∙ ap (λ (x : Suspect). map (with_names_noted s names) (x ∷ [])) c.new.ensures in
    ap (λ (xs : List Suspect). is_some (process_at s (get_or xs 0 (suspect 0)).pid)) all ∙ ap (λ k. is_some (process_at s k)) (with_name_noted-pid s names (suspect c.args.pid)) ∙ c.requires

pub returns : goal.returns
returns c = λ p at.
    let s = c.args.parts.now in
    let names = names_of s.tree c.args.node in
    let all = c.note_names.ensures ∙ ap (λ (x : Suspect). map (with_names_noted s names) (x ∷ [])) c.new.ensures in
    c.is_preserved_from.ensures ∙ ap (λ (xs : List Suspect). preserved_at s c.args.node (get_or xs 0 (suspect 0))) all ∙ preserved-frozen s p c.args.node c.args.pid at
