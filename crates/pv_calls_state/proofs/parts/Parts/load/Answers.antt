-- The marked descriptors are closed, and without execpromises the table is removed.
use Rattle.std.proofs.Common.{ap, sym, ◌∙◌}
use Rattle.pv_procs.specs.declared.record.ProcessRecord.{ProcessRecord as Owned}
use Rattle.std.specs.Prelude.{is_some}
use Rattle.pv_model.specs.Machine.{with_program, collect}
use Rattle.pv_calls_state.proofs.ProcessChanges.{started, owned, updated, state-updated}
use Rattle.pv_calls_state.proofs.ProcessEnds.{load-used, end-targets, load-up, load-state}
use Rattle.pv_calls_state.proofs.parts.Parts.load.Goals as goal

pub release_marked-requires-clause-used : goal.release_marked-requires-clause-used
release_marked-requires-clause-used c =
    let p = started c.args.self.now c.self.inside.tree c.self.inside.files c.self.inside.processes c.args.pid c.self.view_is c.requires.whole c.self.invariant c.invariant.ensures c.invariant-2.ensures c.requires.live in
    let own = owned c.self.inside.tree c.self.inside.files c.self.inside.processes c.args.pid p.0 p.1 c.record-record.result.now c.record-record.ensures in
    load-used c.self.inside.tree c.self.inside.files c.self.inside.processes c.args.pid p.0 p.1 c.record-record.result.now own

pub unreference_unless-requires : goal.unreference_unless-requires
unreference_unless-requires c =
    let p = started c.args.self.now c.self.inside.tree c.self.inside.files c.self.inside.processes c.args.pid c.self.view_is c.requires.whole c.self.invariant c.invariant.ensures c.invariant-2.ensures c.requires.live in
    let own = owned c.self.inside.tree c.self.inside.files c.self.inside.processes c.args.pid p.0 p.1 c.record-record.result.now c.record-record.ensures in
    end-targets c.self.inside.tree c.self.inside.files c.self.inside.processes c.args.pid p.0 p.1 c.record-record.result.now own c.release_marked.new.tree c.release_marked.new.files c.release_marked.ensures.holds

pub invariant_of-self : goal.invariant_of-self
invariant_of-self c =
    let p = started c.args.self.now c.self.inside.tree c.self.inside.files c.self.inside.processes c.args.pid c.self.view_is c.requires.whole c.self.invariant c.invariant.ensures c.invariant-2.ensures c.requires.live in
    let own = owned c.self.inside.tree c.self.inside.files c.self.inside.processes c.args.pid p.0 p.1 c.record-record.result.now c.record-record.ensures in
    load-up c.self.inside.tree c.self.inside.files c.self.inside.processes c.args.pid p.0 p.1 c.args.self.now c.args.program c.record-record.result.now own c.release_marked.new.tree c.release_marked.new.files c.release_marked.ensures c.keeps_table-keeps.result (c.keeps_table-keeps.ensures ∙ ap (λ (r : Owned). is_some r.pledge.execpromises) (sym own)) c.unreference_unless.new.tree c.unreference_unless.ensures c.load.new.self
    (c.load.ensures c.args.self.now ∙ updated c.self.inside.tree c.self.inside.files c.self.inside.processes c.args.pid p.0 p.1 (λ me. with_program c.args.self.now c.args.pid me c.args.program))

pub returns : goal.returns
returns c =
    let p = started c.args.self.now c.self.inside.tree c.self.inside.files c.self.inside.processes c.args.pid c.self.view_is c.requires.whole c.self.invariant c.invariant.ensures c.invariant-2.ensures c.requires.live in
    let own = owned c.self.inside.tree c.self.inside.files c.self.inside.processes c.args.pid p.0 p.1 c.record-record.result.now c.record-record.ensures in
    load-state c.self.inside.tree c.self.inside.files c.self.inside.processes c.args.pid p.0 p.1 c.args.self.now c.args.program c.record-record.result.now own c.release_marked.new.tree c.release_marked.new.files c.release_marked.ensures c.keeps_table-keeps.result (c.keeps_table-keeps.ensures ∙ ap (λ (r : Owned). is_some r.pledge.execpromises) (sym own)) c.unreference_unless.new.tree c.unreference_unless.ensures c.load.new.self
    (c.load.ensures c.args.self.now ∙ updated c.self.inside.tree c.self.inside.files c.self.inside.processes c.args.pid p.0 p.1 (λ me. with_program c.args.self.now c.args.pid me c.args.program)) c.invariant-3.ensures
    ∙ ap collect (state-updated c.self.inside.tree c.self.inside.files c.self.inside.processes c.args.pid p.0 p.1 c.args.self.now (λ me. with_program c.args.self.now c.args.pid me c.args.program) c.self.view_is)
