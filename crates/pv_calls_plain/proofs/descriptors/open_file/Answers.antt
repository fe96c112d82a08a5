use Rattle.std.proofs.Common.{Some, ap, ◌≡◌, ◌∙◌, w32}
use Rattle.std.specs.Option.{ok_or}
use Rattle.std.specs.Prelude.{MatchOption, None, option_map}
use Rattle.std.specs.Result.{result_ok}
use Rattle.std.proofs.lemmas.Int.{to_z-of_z}
use Rattle.pv_calls_plain.specs.Performed.{IsOn}
use Rattle.pv_files.specs.Descriptors.{descriptor_under}
use Rattle.pv_model.specs.declared.errno.Errno.TheVariants.{EBADF}
use Rattle.pv_model.specs.Machine.{open_file, Descriptor, Process, process_at}
use Rattle.pv_calls_state.specs.OfProcs.declared.record.ProcessRecord.{ProcessRecord}
use Rattle.pv_calls_state.proofs.UncountedChanges.{some-at, lent-is}
use Rattle.pv_calls_plain.proofs.DescriptorFiles.{on-file, on-opened}
use Rattle.pv_calls_plain.proofs.descriptors.open_file.Goals as goal

found : (c : goal.After-ok) (me : Process) → process_at c.args.parts.now c.args.pid ≡ Some me
    → MatchOption c.ok.result (open_file c.args.parts.now me c.args.d ≡ None) (λ k. IsOn c.args.parts.now me c.args.d k)
found c me at =
    let s = c.args.parts.now in
    let lent = lent-is (process_at s c.args.pid) me c.record.result.now c.record.ensures at in
    on-file s c.args.pid me c.requires.whole at c.args.d c.record.result.now.descriptors (ap (λ (r : ProcessRecord). r.descriptors) lent) c.ok.result
    (c.ok.ensures.value ∙ ap result_ok c.at.ensures
    ∙ ap (λ z. result_ok (ok_or (option_map (λ (e : Descriptor). e.file) (descriptor_under c.record.result.now.descriptors z)) EBADF)) (to_z-of_z w32 c.args.d c.ranges.d))

pub returns-clause-opened : goal.returns-clause-opened
returns-clause-opened c =
    let s = c.args.parts.now in
    let mine = some-at (process_at s c.args.pid) c.requires.live in
    on-opened s c.args.pid mine.0 c.requires.whole mine.1 c.args.d c.ok.result (found c mine.0 mine.1)

pub returns-clause-file : goal.returns-clause-file
returns-clause-file c = λ me at. found c me at
