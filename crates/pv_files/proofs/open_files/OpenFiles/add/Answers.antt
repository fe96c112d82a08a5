use Rattle.std.proofs.Common.{◌<◌, ap, sym, ◌∙◌, None, arith}
use Rattle.std.proofs.Math.ListN.{length-map}
use Rattle.pv_model.specs.Machine.{least_free}
use Rattle.pv_files.specs.declared.opened.Opened.{Opened}
use Rattle.pv_files.specs.Counted.{Counted, with_opened}
use Rattle.pv_files.specs.Slots.{file_of, where_used, counted_of, record_at, slots_under}
use Rattle.pv_files.proofs.OpenFileUsers.{least_free_slot, is_slot, opened_after}
use Rattle.pv_files.proofs.RecordKeys.{first_within, records_opened, has_record, record_read, counted_after}
use Rattle.pv_files.proofs.open_files.OpenFiles.add.Goals as goal

pub returns-in_default-clause-full : goal.returns-in_default-clause-full
returns-in_default-clause-full c =
    ap (λ (v : Counted). least_free v.files) (sym c.self.view_is) ∙ least_free_slot (slots_under c.self.inside.records c.self.inside.keys) ∙ c.in_default.ensures ∙ c.self.invariant.are_keys.count

pub index_mut-requires : goal.index_mut-requires
index_mut-requires c = has_record c.self.inside.records c.self.inside.keys c.self.invariant.are_keys c.in-Some.file c.in-Some.ensures.1

pub first_free_from-requires-clause-within : goal.first_free_from-requires-clause-within
first_free_from-requires-clause-within c = first_within c.self.inside.records c.self.inside.keys c.self.inside.first c.self.inside.most c.self.invariant

pub invariant_of-self : goal.invariant_of-self
invariant_of-self c =
    let some : 0 < c.open.new.self.users = omega (arith, ap (λ (o : Opened). o.users) c.open.ensures) in
    records_opened c.self.inside.records c.self.inside.keys c.self.invariant.are_keys c.in-Some.file c.in-Some.ensures.1 c.self.inside.first c.self.inside.most c.max-self-inside.result c.self.invariant (omega arith) (omega arith) (omega (arith, c.self.invariant.few, c.self.invariant.are_keys.count, c.in-Some.ensures.1)) c.in-Some.ensures.0 c.open.new.self some

pub returns-clause-number : goal.returns-clause-number
returns-clause-number c =
    sym (ap (λ (v : Counted). least_free v.files) (sym c.self.view_is) ∙ least_free_slot (slots_under c.self.inside.records c.self.inside.keys) ∙ c.in-Some.ensures.0)

pub returns-clause-opened : goal.returns-clause-opened
returns-clause-opened c =
    let slots = slots_under c.self.inside.records c.self.inside.keys in
    let within = c.in-Some.ensures.1 in
    let read = record_read c.self.inside.records c.self.inside.keys c.self.invariant.are_keys c.in-Some.file within c.index_mut.result.now c.index_mut.ensures.value in
    let below = rw (← length-map c.self.inside.keys (record_at c.self.inside.records)) at within in
    let slot = is_slot slots c.in-Some.file (where_used c.index_mut.result.now) below read in
    counted_after c.self.inside.records c.self.inside.keys c.self.invariant.are_keys c.in-Some.file within c.open.new.self
    ∙ opened_after slots c.in-Some.file c.index_mut.result.now c.open.new.self slot (ap (λ (o : Opened). o.users) c.open.ensures)
    ∙ ap (λ o. with_opened (counted_of slots) c.in-Some.file (file_of o)) c.open.ensures
    ∙ ap (λ v. with_opened v c.in-Some.file (record { node = c.args.node; mode = c.args.mode; append = c.args.append; offset = 0; listed = None })) c.self.view_is
