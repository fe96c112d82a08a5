use Rattle.std.proofs.Common.{◌≡◌, ◌∙◌, ◌++◌, ◌∷◌, [], List, Some, bytes_eq, true, false, ap, ap₂, map, option_map, sym, rules}
use Rattle.std.specs.List.{list_any}
use Rattle.std.proofs.lemmas.Result.{on_ok_weaker}
use Rattle.pv_model.specs.Machine.{Bytes, program_of}
use Rattle.pv_model_questions.specs.Briefs.{brief_since}
use Rattle.pv_model_questions.specs.Exposure.{reason_by}
use Rattle.pv_named_files.specs.FirstPaths.{first_tree}
use Rattle.pv_exposure.specs.Collected.{Recorded, has_key, key_of_recorded, record_key}
use Rattle.pv_exposure.specs.Stored.{located_in_visit, recorded_in}
use Rattle.pv_exposure.proofs.FindingAddition.{file-known, file-new, finding_as, has-key}
use Rattle.pv_exposure.proofs.findings.FindingList.add.Goals as goal

pub returns-then-contains : goal.returns-then-contains
returns-then-contains c = λ p at.
    let v = c.args.visit.now in
    let t = first_tree v.paths.now in
    let f = c.args.file.now.node in
    let ks : List Recorded = c.args.self.now in
    let key = record_key p.line (brief_since t v.parts.now.tree f) in
    let key_is : c.args.key.now ≡ key = c.requires.key p at ∙ ap (record_key p.line) c.requires.file.text in
    let keys_are : c.self.inside.keys ≡ map key_of_recorded ks = c.self.invariant ∙ ap (map key_of_recorded) c.self.view_is in
    let known : has_key ks key ≡ true =
    has-key key ks ∙ sym (ap₂ (λ (bs : Bytes) (keys : List Bytes). list_any (bytes_eq bs) keys) key_is keys_are) ∙ sym c.contains.ensures ∙ c.if-contains.true in
    sym (file-known t c.args.kind ks (located_in_visit v p) f known)

pub returns : goal.returns
returns c =
    on_ok_weaker c.store.result
    (λ stored p at.
    let v = c.args.visit.now in
    let t = first_tree v.paths.now in
    let f = c.args.file.now.node in
    let l = located_in_visit v p in
    let kind = c.args.kind in
    let ks : List Recorded = c.args.self.now in
    let brief = brief_since t v.parts.now.tree f in
    let key = record_key p.line brief in
    let key_is : c.args.key.now ≡ key = c.requires.key p at ∙ ap (record_key p.line) c.requires.file.text in
    let keys_are : c.self.inside.keys ≡ map key_of_recorded ks = c.self.invariant ∙ ap (map key_of_recorded) c.self.view_is in
    let new : has_key ks key ≡ false =
    has-key key ks ∙ sym (ap₂ (λ (bs : Bytes) (keys : List Bytes). list_any (bytes_eq bs) keys) key_is keys_are) ∙ sym c.contains.ensures ∙ c.if-contains.false in
    let reason : reason_by program_of l f kind ≡ Some c.in-Some.reason.items = sym (c.in_ok-reason.ensures p at) ∙ ap (option_map (λ t. t.items)) c.in-Some.is in
    let witness = c.in_ok-witness_of.ensures p in
    let line = c.line_of.ensures p at in
    let file : c.in_ok-to_vec.field-0.items ≡ c.args.file.now.text.items = search rules in
    let text = file ∙ c.requires.file.text in
    let same : recorded_in (record { witness = c.in_ok-witness_of.field-0; pid = v.pid; line = c.line_of.result; file = c.in_ok-to_vec.field-0; reason = c.in-Some.reason })
    ≡ finding_as t kind ks l f c.in-Some.reason.items =
    λ i. record { witness = witness i; pid = v.pid; line = line i; file = text i; reason = c.in-Some.reason.items } in
    stored ∙ ap (λ (k : Recorded). ks ++ k ∷ []) same ∙ sym (file-new t kind ks l f c.in-Some.reason.items reason new))
    c.store.ensures
