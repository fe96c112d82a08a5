use Rattle.std.proofs.Common.{◌≢◌, true, false, [], map, length, ap, sym, ◌∙◌}
use Rattle.std.proofs.lemmas.List.{nil_from_length}
use Rattle.pv_model.specs.Machine.{live_processes, Tree, names_of}
use Rattle.pv_laws_access.proofs.Verdicts.{verdicts-exact}
use Rattle.pv_audit.specs.Findings.{are_live}
use Rattle.pv_audit.proofs.FileVerdicts.{some-of, verdict-exposed, verdict-preserved}
use Rattle.pv_audit.proofs.NameAccess.{with_name_noted-live}
use Rattle.pv_audit.proofs.LiveProcesses.{start, suspects-live}
use Rattle.pv_audit.proofs.verdicts.verdict_of.Goals as goal

pub returns-then-names-eq0 : goal.returns-then-names-eq0
returns-then-names-eq0 c =
    let s = c.args.parts.now in
    let f = c.args.node in
    let none = nil_from_length (names_of s.tree f) (ap (λ (t : Tree). length (names_of t f)) (sym c.tree.ensures) ∙ sym c.names.ensures ∙ c.if-names-eq0.true) in
    sym ((verdicts-exact s f).none.1 none)

pub first_leak-requires : goal.first_leak-requires
first_leak-requires c =
    let s = c.args.parts.now in
    ap (are_live s) (c.as_slice-suspects.ensures.value ∙ c.found_suspects-table_access.ensures.items)
    ∙ with_name_noted-live s (names_of s.tree c.args.node) (map start (live_processes s.processes)) ∙ suspects-live s c.found_suspects-table_access.ensures.ordered

pub are_all_preserved-requires : goal.are_all_preserved-requires
are_all_preserved-requires c =
    let s = c.args.parts.now in
    ap (are_live s) (c.as_slice-suspects.ensures.value ∙ c.found_suspects-table_access.ensures.items)
    ∙ with_name_noted-live s (names_of s.tree c.args.node) (map start (live_processes s.processes)) ∙ suspects-live s c.found_suspects-table_access.ensures.ordered

pub returns-in-Some : goal.returns-in-Some
returns-in-Some c =
    let s = c.args.parts.now in
    let f = c.args.node in
    let named : names_of s.tree f ≢ [] = some-of (names_of s.tree f) (λ none. c.if-names-eq0.false (c.names.ensures ∙ ap (λ (t : Tree). length (names_of t f)) c.tree.ensures ∙ none)) in
    sym (verdict-exposed s f c.found_suspects-table_access.ensures.ordered c.as_slice-suspects.result.now (c.as_slice-suspects.ensures.value ∙ c.found_suspects-table_access.ensures.items)
    c.in-Some.leak named (sym c.first_leak.ensures ∙ c.in-Some.is))

pub returns-then-are_all_preserved : goal.returns-then-are_all_preserved
returns-then-are_all_preserved c =
    let s = c.args.parts.now in
    let f = c.args.node in
    let named : names_of s.tree f ≢ [] = some-of (names_of s.tree f) (λ none. c.if-names-eq0.false (c.names.ensures ∙ ap (λ (t : Tree). length (names_of t f)) c.tree.ensures ∙ none)) in
    sym (verdict-preserved s f c.found_suspects-table_access.ensures.ordered c.as_slice-suspects.result.now (c.as_slice-suspects.ensures.value ∙ c.found_suspects-table_access.ensures.items)
    true named (sym c.first_leak.ensures ∙ c.in_default.is) (sym c.are_all_preserved.ensures ∙ c.if-are_all_preserved.true))

pub returns-else-are_all_preserved : goal.returns-else-are_all_preserved
returns-else-are_all_preserved c =
    let s = c.args.parts.now in
    let f = c.args.node in
    let named : names_of s.tree f ≢ [] = some-of (names_of s.tree f) (λ none. c.if-names-eq0.false (c.names.ensures ∙ ap (λ (t : Tree). length (names_of t f)) c.tree.ensures ∙ none)) in
    sym (verdict-preserved s f c.found_suspects-table_access.ensures.ordered c.as_slice-suspects.result.now (c.as_slice-suspects.ensures.value ∙ c.found_suspects-table_access.ensures.items)
    false named (sym c.first_leak.ensures ∙ c.in_default.is) (sym c.are_all_preserved.ensures ∙ c.if-are_all_preserved.false))
