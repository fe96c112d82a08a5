-- The open file of the descriptor gets another user, and the replaced one loses a user.
use Rattle.std.proofs.Common.{◌≡◌, false, ap, sym, w32, subst, ◌∙◌, arith}
use Rattle.std.specs.Prelude.{option_map, ok_or, IsSome}
use Rattle.pv_files.specs.Counted.{Counted}
use Rattle.std.proofs.lemmas.Int.{to_z-of_z}
use mir.Val.{of_z}
use Rattle.pv_files.specs.Descriptors.{descriptor_under}
use Rattle.pv_model.specs.declared.errno.Errno.TheVariants.{EBADF}
use Rattle.pv_model.specs.Machine.{within, Numbered, at_number, with_number, Descriptor}
use Rattle.pv_procs.specs.ProcessTable.{table_with_process}
use Rattle.pv_calls_state.specs.Changes.{with_descriptor_at}
use Rattle.pv_calls_state.specs.Counts.{times, open_nodes}
use Rattle.pv_calls_state.proofs.CollectionByCounts.{one_if}
use Rattle.pv_calls_state.proofs.ProcessChanges.{before, started, owned, updated, few-users}
use Rattle.pv_calls_state.proofs.AddedUsers.{one-more}
use Rattle.pv_calls_state.proofs.Descriptors.{ok-descriptor, times-set, under-opened, left-opened, exchanged-up, exchanged-state, dup2-performed, other-number}
use Rattle.pv_calls_state.proofs.parts.Parts.dup2.Goals as goal

pub dup-requires-clause-opened : goal.dup-requires-clause-opened
dup-requires-clause-opened c =
    let p = started c.args.self.now c.self.inside.tree c.self.inside.files c.self.inside.processes c.args.pid c.self.view_is c.requires.whole c.self.invariant c.invariant.ensures c.invariant-2.ensures c.requires.live in
    let own : p.0.descriptors ≡ c.record.result.now.descriptors = ap (λ r. r.descriptors) (owned c.self.inside.tree c.self.inside.files c.self.inside.processes c.args.pid p.0 p.1 c.record.result.now c.record.ensures) in
    let found = ok-descriptor (descriptor_under p.0.descriptors c.args.d) c.in_ok-file.file
    (ap (λ ds. ok_or (option_map (λ e. e.file) (descriptor_under ds c.args.d)) EBADF) own
    ∙ ap (λ z. ok_or (option_map (λ e. e.file) (descriptor_under c.record.result.now.descriptors z)) EBADF) (sym (to_z-of_z w32 c.args.d c.ranges.d)) ∙ sym c.at.ensures ∙ c.in_ok-file.was) in
    let there = subst (λ k. IsSome (at_number c.self.inside.files.files k)) found.2 (under-opened c.self.inside.tree c.self.inside.files c.self.inside.processes c.args.pid p.0 p.1 c.args.d found.0 found.1) in
    there

pub dup-requires-clause-room : goal.dup-requires-clause-room
dup-requires-clause-room c =
    let p = started c.args.self.now c.self.inside.tree c.self.inside.files c.self.inside.processes c.args.pid c.self.view_is c.requires.whole c.self.invariant c.invariant.ensures c.invariant-2.ensures c.requires.live in
    omega (arith, few-users c.self.inside.tree c.self.inside.files c.self.inside.processes c.args.pid p.0 p.1 c.in_ok-file.file)

pub release_some-requires-clause-opened : goal.release_some-requires-clause-opened
release_some-requires-clause-opened c =
    let p = started c.args.self.now c.self.inside.tree c.self.inside.files c.self.inside.processes c.args.pid c.self.view_is c.requires.whole c.self.invariant c.invariant.ensures c.invariant-2.ensures c.requires.live in
    let own : p.0.descriptors ≡ c.record.result.now.descriptors = ap (λ r. r.descriptors) (owned c.self.inside.tree c.self.inside.files c.self.inside.processes c.args.pid p.0 p.1 c.record.result.now c.record.ensures) in
    left-opened c.self.inside.tree c.self.inside.files c.self.inside.processes c.args.pid p.0 p.1 c.dup.new.self c.in-Some.number c.file_at-left.result
    (c.file_at-left.ensures ∙ ap (λ ds. option_map (λ e. e.file) (at_number ds c.in-Some.number)) (sym own)) (ap (λ (x : Counted). x.files) c.dup.ensures)

pub invariant_of-self : goal.invariant_of-self
invariant_of-self c =
    let p = started c.args.self.now c.self.inside.tree c.self.inside.files c.self.inside.processes c.args.pid c.self.view_is c.requires.whole c.self.invariant c.invariant.ensures c.invariant-2.ensures c.requires.live in
    let own : p.0.descriptors ≡ c.record.result.now.descriptors = ap (λ r. r.descriptors) (owned c.self.inside.tree c.self.inside.files c.self.inside.processes c.args.pid p.0 p.1 c.record.result.now c.record.ensures) in
    let found = ok-descriptor (descriptor_under p.0.descriptors c.args.d) c.in_ok-file.file
    (ap (λ ds. ok_or (option_map (λ e. e.file) (descriptor_under ds c.args.d)) EBADF) own
    ∙ ap (λ z. ok_or (option_map (λ e. e.file) (descriptor_under c.record.result.now.descriptors z)) EBADF) (sym (to_z-of_z w32 c.args.d c.ranges.d)) ∙ sym c.at.ensures ∙ c.in_ok-file.was) in
    let there = subst (λ k. IsSome (at_number c.self.inside.files.files k)) found.2 (under-opened c.self.inside.tree c.self.inside.files c.self.inside.processes c.args.pid p.0 p.1 c.args.d found.0 found.1) in
    let given : Numbered Descriptor = with_number p.0.descriptors c.in-Some.number (record { file = found.0.file; close_on_exec = false }) in
    let left = c.file_at-left.ensures ∙ ap (λ ds. option_map (λ e. e.file) (at_number ds c.in-Some.number)) (sym own) in
    let gone = c.release_some.ensures in
    exchanged-up c.self.inside.tree c.self.inside.files c.self.inside.processes c.args.pid p.0 p.1 c.release_some.new.tree c.release_some.new.files c.set_descriptor.new.processes given
    (c.set_descriptor.ensures ∙ updated c.self.inside.tree c.self.inside.files c.self.inside.processes c.args.pid p.0 p.1 (with_descriptor_at c.in-Some.number c.in_ok-file.file)
    ∙ ap (λ f. table_with_process c.self.inside.processes c.args.pid (with_descriptor_at c.in-Some.number f p.0)) (sym found.2))
    (λ k. omega (
      arith,
      one-more c.self.inside.files c.dup.new.self c.in_ok-file.file c.invariant-2.ensures there c.dup.ensures k,
      gone.users k,
      times-set k p.0.descriptors c.in-Some.number (record { file = found.0.file; close_on_exec = false }) c.file_at-left.result left,
      ap (λ f. one_if f k) found.2,
    ))
    (λ n. omega (arith, gone.holds n, ap (λ (x : Counted). times n (open_nodes x.files)) c.dup.ensures))

pub returns-clause-performed : goal.returns-clause-performed
returns-clause-performed c me at =
    let is = before c.args.self.now c.self.inside.tree c.self.inside.files c.self.inside.processes c.args.pid me c.self.view_is c.requires.whole c.self.invariant c.invariant.ensures c.invariant-2.ensures at in
    let own : me.descriptors ≡ c.record.result.now.descriptors = ap (λ r. r.descriptors) (owned c.self.inside.tree c.self.inside.files c.self.inside.processes c.args.pid me is c.record.result.now c.record.ensures) in
    let found = ok-descriptor (descriptor_under me.descriptors c.args.d) c.in_ok-file.file
    (ap (λ ds. ok_or (option_map (λ e. e.file) (descriptor_under ds c.args.d)) EBADF) own
    ∙ ap (λ z. ok_or (option_map (λ e. e.file) (descriptor_under c.record.result.now.descriptors z)) EBADF) (sym (to_z-of_z w32 c.args.d c.ranges.d)) ∙ sym c.at.ensures ∙ c.in_ok-file.was) in
    let there = subst (λ k. IsSome (at_number c.self.inside.files.files k)) found.2 (under-opened c.self.inside.tree c.self.inside.files c.self.inside.processes c.args.pid me is c.args.d found.0 found.1) in
    let given : Numbered Descriptor = with_number me.descriptors c.in-Some.number (record { file = found.0.file; close_on_exec = false }) in
    let left = c.file_at-left.ensures ∙ ap (λ ds. option_map (λ e. e.file) (at_number ds c.in-Some.number)) (sym own) in
    let gone = c.release_some.ensures in
    let there-number = sym c.in-Some.is ∙ c.number_of.ensures ∙ ap (λ z. within 15 z) (to_z-of_z w32 c.args.e c.ranges.e) in
    dup2-performed c.args.self.now c.args.pid me c.args.d found.0 found.1 _ c.args.e c.in-Some.number c.from-2.result
    there-number (other-number c.args.d c.args.e c.in-Some.number there-number (λ same. c.if-d-e.false (ap (of_z w32) same))) c.from-2.ensures
    (exchanged-state c.self.inside.tree c.self.inside.files c.self.inside.processes c.args.pid me is c.release_some.new.tree c.release_some.new.files c.set_descriptor.new.processes given
    (c.set_descriptor.ensures ∙ updated c.self.inside.tree c.self.inside.files c.self.inside.processes c.args.pid me is (with_descriptor_at c.in-Some.number c.in_ok-file.file)
    ∙ ap (λ f. table_with_process c.self.inside.processes c.args.pid (with_descriptor_at c.in-Some.number f me)) (sym found.2))
    (λ k. omega (
      arith,
      one-more c.self.inside.files c.dup.new.self c.in_ok-file.file c.invariant-2.ensures there c.dup.ensures k,
      gone.users k,
      times-set k me.descriptors c.in-Some.number (record { file = found.0.file; close_on_exec = false }) c.file_at-left.result left,
      ap (λ f. one_if f k) found.2,
    ))
    (λ n. omega (arith, gone.holds n, ap (λ (x : Counted). times n (open_nodes x.files)) c.dup.ensures))
    c.args.self.now c.self.view_is c.invariant-3.ensures gone.nodes (λ k more. gone.files k more ∙ ap (λ (x : Counted). at_number x.files k) c.dup.ensures))
