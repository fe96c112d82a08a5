use Rattle.std.proofs.Common.{◌∙◌, sym, ap, List, [], ◌∷◌, map, get_or, option_map}
use Rattle.std.proofs.lemmas.Option.{same_Some}
use Rattle.pv_model.specs.Machine.{names_of}
use Rattle.pv_calls_state.specs.OfProcs.Parts.{record_of}
use Rattle.pv_audit.specs.declared.suspects.Suspect.{Suspect}
use Rattle.pv_audit.specs.Findings.{with_names_noted, suspect}
use Rattle.pv_audit.specs.Reasons.{all_reasons_of}
use Rattle.pv_audit.proofs.FirstReasons.{reasons-all}
use Rattle.pv_audit.proofs.reasons.leaks.Goals as goal

pub returns : goal.returns
returns c = λ p at.
    let s = c.args.parts.now in
    let names = names_of s.tree c.args.node in
    let all = c.note_names.ensures ∙ ap (λ (x : Suspect). map (with_names_noted s names) (x ∷ [])) c.new.ensures in
    let mine = ap (λ (xs : List Suspect). (get_or xs 0 (suspect 0)).table_access) all in
    let owned = same_Some c.record.result.now (record_of p) (sym c.record.ensures ∙ ap (option_map record_of) at) in
    c.all_reasons.ensures
    ∙ (λ i. all_reasons_of (c.files.ensures i) (owned i) c.args.node (mine i))
    ∙ reasons-all s p c.args.node c.args.pid at
