use Rattle.std.proofs.Common.{◌∙◌, Option, Some, ap, refl, subst, sym}
use Rattle.std.specs.Prelude.{map, option_map, IfSome}
use Rattle.pv_image_manifest.specs.Entries.{entry_of_line}
use Rattle.pv_host_copy.specs.Given.{merged_entries}
use Rattle.pv_host_copy.specs.Paths.{path_under}
use Rattle.pv_host_copy.specs.Reporting.{ReportsEntry}
use Rattle.pv_host_copy.proofs.MergedEntries.{next-merged, rest_merged}
use Rattle.pv_host_copy.proofs.beside.BesideHostDirectory.next.Goals as goal

pub returns-clause-reported : goal.returns-clause-reported
returns-clause-reported g c =
    let rest = g.D.HostDirectory.rest in
    let bytes = g.D.Reader.HostFile.bytes in
    let self = c.args.self.now in
    let e = c.in-Some.entry in
    let name = e.name in
    let after = rest c.next.new.self in
    let place = c.in_ok-path.path in
    let is_place = c.in_ok-path.ensures ∙ ap (λ d. path_under d c.deref-2.result.now) c.deref.ensures.value ∙ ap (path_under self.path.items) c.deref-2.ensures.value in
    subst (λ n. IfSome (option_map (merged_entries (map entry_of_line self.given.now) self.path.items) (rest self.directory))
    (λ all. ReportsEntry (rest_merged rest) bytes all (Some (record { name = name; node = n })) (option_map (merged_entries (map entry_of_line self.given.now) self.path.items) after)))
    (sym c.node_beside-node.ensures)
    (next-merged rest bytes self.given self.path.items place name e.node is_place (rest self.directory) after
    (subst (λ reported. IfSome (rest self.directory) (λ entries. ReportsEntry rest bytes entries reported after)) c.in-Some.is c.in_ok-entry.ensures.reported))
