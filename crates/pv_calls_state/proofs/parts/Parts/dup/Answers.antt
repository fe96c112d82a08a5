-- The open file of the descriptor gets another user.
use Rattle.std.proofs.Common.{◌≡◌, ◌+◌, false, ap, sym, w32, subst, ◌∙◌, arith}
use Rattle.std.specs.Prelude.{option_map, ok_or, IsSome}
use Rattle.pv_files.specs.Counted.{Counted}
use Rattle.std.proofs.lemmas.Int.{to_z-of_z}
use Rattle.pv_files.specs.Descriptors.{descriptor_under}
use Rattle.pv_model.specs.declared.errno.Errno.TheVariants.{EBADF}
use Rattle.pv_model.specs.Machine.{Numbered, at_number, with_number, least_free, Descriptor}
use Rattle.pv_procs.specs.ProcessTable.{table_with_process}
use Rattle.pv_calls_state.specs.Changes.{with_opened_descriptor}
use Rattle.pv_calls_state.specs.Counts.{times, open_nodes}
use Rattle.pv_procs.specs.OfTree.Holding.{holds_at}
use Rattle.pv_calls_state.proofs.CollectionByCounts.{one_if}
use Rattle.pv_calls_state.proofs.ProcessChanges.{before, started, owned, updated, few-users}
use Rattle.pv_calls_state.proofs.AddedUsers.{one-more}
use Rattle.pv_calls_state.proofs.Descriptors.{ok-descriptor, times-given, under-opened, exchanged-up, exchanged-state, dup-performed}
use Rattle.pv_calls_state.proofs.parts.Parts.dup.Goals as goal

pub dup-requires-clause-opened : goal.dup-requires-clause-opened
dup-requires-clause-opened c =
    let p = started c.args.self.now c.self.inside.tree c.self.inside.files c.self.inside.processes c.args.pid c.self.view_is c.requires.whole c.self.invariant c.invariant.ensures c.invariant-2.ensures c.requires.live in
    let own : p.0.descriptors ≡ c.record.result.now.descriptors = ap (λ r. r.descriptors) (owned c.self.inside.tree c.self.inside.files c.self.inside.processes c.args.pid p.0 p.1 c.record.result.now c.record.ensures) in
    let found = ok-descriptor (descriptor_under p.0.descriptors c.args.d) c.in_ok-file.file
    (ap (λ ds. ok_or (option_map (λ e. e.file) (descriptor_under ds c.args.d)) EBADF) own
    ∙ ap (λ z. ok_or (option_map (λ e. e.file) (descriptor_under c.record.result.now.descriptors z)) EBADF) (sym (to_z-of_z w32 c.args.d c.ranges.d)) ∙ sym c.at.ensures ∙ c.in_ok-file.was) in
    let there = subst (λ k. IsSome (at_number c.self.inside.files.files k)) found.2 (under-opened c.self.inside.tree c.self.inside.files c.self.inside.processes c.args.pid p.0 p.1 c.args.d found.0 found.1) in
    there

pub dup-requires-clause-room : goal.dup-requires-clause-room
dup-requires-clause-room c =
    let p = started c.args.self.now c.self.inside.tree c.self.inside.files c.self.inside.processes c.args.pid c.self.view_is c.requires.whole c.self.invariant c.invariant.ensures c.invariant-2.ensures c.requires.live in
    omega (arith, few-users c.self.inside.tree c.self.inside.files c.self.inside.processes c.args.pid p.0 p.1 c.in_ok-file.file)

pub invariant_of-self-2 : goal.invariant_of-self-2
invariant_of-self-2 c =
    let p = started c.args.self.now c.self.inside.tree c.self.inside.files c.self.inside.processes c.args.pid c.self.view_is c.requires.whole c.self.invariant c.invariant.ensures c.invariant-2.ensures c.requires.live in
    let own : p.0.descriptors ≡ c.record.result.now.descriptors = ap (λ r. r.descriptors) (owned c.self.inside.tree c.self.inside.files c.self.inside.processes c.args.pid p.0 p.1 c.record.result.now c.record.ensures) in
    let found = ok-descriptor (descriptor_under p.0.descriptors c.args.d) c.in_ok-file.file
    (ap (λ ds. ok_or (option_map (λ e. e.file) (descriptor_under ds c.args.d)) EBADF) own
    ∙ ap (λ z. ok_or (option_map (λ e. e.file) (descriptor_under c.record.result.now.descriptors z)) EBADF) (sym (to_z-of_z w32 c.args.d c.ranges.d)) ∙ sym c.at.ensures ∙ c.in_ok-file.was) in
    let there = subst (λ k. IsSome (at_number c.self.inside.files.files k)) found.2 (under-opened c.self.inside.tree c.self.inside.files c.self.inside.processes c.args.pid p.0 p.1 c.args.d found.0 found.1) in
    let given : Numbered Descriptor = with_number p.0.descriptors (least_free p.0.descriptors) (record { file = found.0.file; close_on_exec = false }) in
    exchanged-up c.self.inside.tree c.self.inside.files c.self.inside.processes c.args.pid p.0 p.1 c.self.inside.tree c.dup.new.self c.give_descriptor.new.processes given
    (c.in_ok-number.ensures.given ∙ updated c.self.inside.tree c.self.inside.files c.self.inside.processes c.args.pid p.0 p.1 (with_opened_descriptor c.in_ok-file.file false)
    ∙ ap (λ f. table_with_process c.self.inside.processes c.args.pid (with_opened_descriptor f false p.0)) (sym found.2))
    (λ k. omega (
      arith,
      one-more c.self.inside.files c.dup.new.self c.in_ok-file.file c.invariant-2.ensures there c.dup.ensures k,
      times-given k p.0.descriptors (record { file = found.0.file; close_on_exec = false }),
      ap (λ f. one_if f k) found.2,
    ))
    (λ n. ap (λ x. holds_at c.self.inside.tree n + times n (open_nodes x.files)) (sym c.dup.ensures))

pub returns-clause-performed : goal.returns-clause-performed
returns-clause-performed c me at =
    let is = before c.args.self.now c.self.inside.tree c.self.inside.files c.self.inside.processes c.args.pid me c.self.view_is c.requires.whole c.self.invariant c.invariant.ensures c.invariant-2.ensures at in
    let own : me.descriptors ≡ c.record.result.now.descriptors = ap (λ r. r.descriptors) (owned c.self.inside.tree c.self.inside.files c.self.inside.processes c.args.pid me is c.record.result.now c.record.ensures) in
    let found = ok-descriptor (descriptor_under me.descriptors c.args.d) c.in_ok-file.file
    (ap (λ ds. ok_or (option_map (λ e. e.file) (descriptor_under ds c.args.d)) EBADF) own
    ∙ ap (λ z. ok_or (option_map (λ e. e.file) (descriptor_under c.record.result.now.descriptors z)) EBADF) (sym (to_z-of_z w32 c.args.d c.ranges.d)) ∙ sym c.at.ensures ∙ c.in_ok-file.was) in
    let there = subst (λ k. IsSome (at_number c.self.inside.files.files k)) found.2 (under-opened c.self.inside.tree c.self.inside.files c.self.inside.processes c.args.pid me is c.args.d found.0 found.1) in
    let given : Numbered Descriptor = with_number me.descriptors (least_free me.descriptors) (record { file = found.0.file; close_on_exec = false }) in
    dup-performed c.args.self.now c.args.pid me c.args.d found.0 found.1 _ c.in_ok-number.number c.from.result
    (c.in_ok-number.ensures.number me is.at) c.in_ok-number.ensures.in_range c.from.ensures
    (exchanged-state c.self.inside.tree c.self.inside.files c.self.inside.processes c.args.pid me is c.self.inside.tree c.dup.new.self c.give_descriptor.new.processes given
    (c.in_ok-number.ensures.given ∙ updated c.self.inside.tree c.self.inside.files c.self.inside.processes c.args.pid me is (with_opened_descriptor c.in_ok-file.file false)
    ∙ ap (λ f. table_with_process c.self.inside.processes c.args.pid (with_opened_descriptor f false me)) (sym found.2))
    (λ k. omega (
      arith,
      one-more c.self.inside.files c.dup.new.self c.in_ok-file.file c.invariant-2.ensures there c.dup.ensures k,
      times-given k me.descriptors (record { file = found.0.file; close_on_exec = false }),
      ap (λ f. one_if f k) found.2,
    ))
    (λ n. ap (λ x. holds_at c.self.inside.tree n + times n (open_nodes x.files)) (sym c.dup.ensures))
    c.args.self.now c.self.view_is c.invariant-3.ensures (sym c.invariant.ensures.is_collected) (λ k more. ap (λ (x : Counted). at_number x.files k) c.dup.ensures))
