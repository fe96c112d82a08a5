-- The open file of the descriptor loses a user.
use Rattle.std.proofs.Common.{ap, sym, w32, subst, ◌∙◌, arith}
use Rattle.std.specs.Prelude.{option_map, ok_or, IsSome}
use Rattle.std.proofs.lemmas.Int.{to_z-of_z}
use Rattle.std.proofs.lemmas.Result.{err_from_is_err_and}
use Rattle.pv_files.specs.Descriptors.{descriptor_under}
use Rattle.pv_model.specs.declared.errno.Errno.TheVariants.{EBADF}
use Rattle.pv_model.specs.Machine.{without_descriptor, at_number}
use Rattle.pv_procs.specs.ProcessTable.{updated_table}
use Rattle.pv_calls_state.specs.Changes.{with_closed_descriptor}
use Rattle.pv_calls_state.proofs.CollectionByCounts.{one_if}
use Rattle.pv_calls_state.proofs.ReferenceCounting.{times-one}
use Rattle.pv_calls_state.proofs.ProcessChanges.{before, started, updated}
use Rattle.pv_calls_state.proofs.Descriptors.{ok-descriptor, times-closed, under-opened, exchanged-up, exchanged-state, close-performed, close-refused}
use Rattle.pv_calls_state.proofs.parts.Parts.close.Goals as goal

pub release-requires-clause-opened : goal.release-requires-clause-opened
release-requires-clause-opened c =
    let p = started c.args.self.now c.self.inside.tree c.self.inside.files c.self.inside.processes c.args.pid c.self.view_is c.requires.whole c.self.invariant c.invariant.ensures c.invariant-2.ensures c.requires.live in
    let found = ok-descriptor (descriptor_under p.0.descriptors c.args.d) c.in_ok-file.file
    (ap (λ z. ok_or (option_map (λ e. e.file) (descriptor_under p.0.descriptors z)) EBADF) (sym (to_z-of_z w32 c.args.d c.ranges.d)) ∙ sym (c.in_ok-file.ensures.file p.0 p.1.at)) in
    subst (λ k. IsSome (at_number c.self.inside.files.files k)) found.2 (under-opened c.self.inside.tree c.self.inside.files c.self.inside.processes c.args.pid p.0 p.1 c.args.d found.0 found.1)

pub invariant_of-self-2 : goal.invariant_of-self-2
invariant_of-self-2 c =
    let p = started c.args.self.now c.self.inside.tree c.self.inside.files c.self.inside.processes c.args.pid c.self.view_is c.requires.whole c.self.invariant c.invariant.ensures c.invariant-2.ensures c.requires.live in
    let found = ok-descriptor (descriptor_under p.0.descriptors c.args.d) c.in_ok-file.file
    (ap (λ z. ok_or (option_map (λ e. e.file) (descriptor_under p.0.descriptors z)) EBADF) (sym (to_z-of_z w32 c.args.d c.ranges.d)) ∙ sym (c.in_ok-file.ensures.file p.0 p.1.at)) in
    let gone = c.release.ensures in
    exchanged-up c.self.inside.tree c.self.inside.files c.self.inside.processes c.args.pid p.0 p.1 c.release.new.tree c.release.new.files c.close_descriptor.new.processes (without_descriptor p.0.descriptors c.args.d)
    (c.in_ok-file.ensures.closed ∙ ap (λ z. updated_table c.self.inside.processes c.args.pid (with_closed_descriptor z)) (to_z-of_z w32 c.args.d c.ranges.d)
    ∙ updated c.self.inside.tree c.self.inside.files c.self.inside.processes c.args.pid p.0 p.1 (with_closed_descriptor c.args.d))
    (λ k. omega (arith, gone.users k, times-one k c.in_ok-file.file, times-closed k p.0.descriptors c.args.d found.0 found.1, ap (λ f. one_if f k) found.2))
    gone.holds

pub returns-clause-performed : goal.returns-clause-performed
returns-clause-performed c me at =
    let is = before c.args.self.now c.self.inside.tree c.self.inside.files c.self.inside.processes c.args.pid me c.self.view_is c.requires.whole c.self.invariant c.invariant.ensures c.invariant-2.ensures at in
    let found = ok-descriptor (descriptor_under me.descriptors c.args.d) c.in_ok-file.file
    (ap (λ z. ok_or (option_map (λ e. e.file) (descriptor_under me.descriptors z)) EBADF) (sym (to_z-of_z w32 c.args.d c.ranges.d)) ∙ sym (c.in_ok-file.ensures.file me is.at)) in
    let gone = c.release.ensures in
    close-performed c.args.self.now c.args.pid me c.args.d found.0 found.1 _
    (exchanged-state c.self.inside.tree c.self.inside.files c.self.inside.processes c.args.pid me is c.release.new.tree c.release.new.files c.close_descriptor.new.processes (without_descriptor me.descriptors c.args.d)
    (c.in_ok-file.ensures.closed ∙ ap (λ z. updated_table c.self.inside.processes c.args.pid (with_closed_descriptor z)) (to_z-of_z w32 c.args.d c.ranges.d)
    ∙ updated c.self.inside.tree c.self.inside.files c.self.inside.processes c.args.pid me is (with_closed_descriptor c.args.d))
    (λ k. omega (arith, gone.users k, times-one k c.in_ok-file.file, times-closed k me.descriptors c.args.d found.0 found.1, ap (λ f. one_if f k) found.2))
    gone.holds c.args.self.now c.self.view_is c.invariant-3.ensures gone.nodes gone.files)

pub returns-in_err-file-clause-performed : goal.returns-in_err-file-clause-performed
returns-in_err-file-clause-performed c me at =
    let is = before c.args.self.now c.self.inside.tree c.self.inside.files c.self.inside.processes c.args.pid me c.self.view_is c.requires.whole c.self.invariant c.invariant.ensures c.invariant-2.ensures at in
    let p = err_from_is_err_and c.from_residual.result c.from_residual.ensures.1 in
    rw (p.1, p.2) (close-refused c.args.self.now c.args.pid me c.args.d _
    (c.in_err-file.ensures.file me is.at ∙ ap (λ z. ok_or (option_map (λ e. e.file) (descriptor_under me.descriptors z)) EBADF) (to_z-of_z w32 c.args.d c.ranges.d)))
