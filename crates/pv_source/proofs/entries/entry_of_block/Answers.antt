use Rattle.std.proofs.Common.{◌≡◌, ap, sym, subst, arith}
use Rattle.std.specs.Prelude.{IfOk, option_map}
use Rattle.pv_image_manifest.specs.Entries.{entry_of_line}
use Rattle.pv_model.specs.Machine.{lines_of}
use Rattle.pv_source.specs.ReadEntries.{numbered_entry}
use Rattle.pv_source.proofs.SourceEntries.{taken_many, taken_few}
use Rattle.pv_source.proofs.entries.entry_of_block.Goals as goal

pub returns-then-line_count : goal.returns-then-line_count
returns-then-line_count c = ap (numbered_entry c.args.block.now.number) (sym (taken_many c.args.block.now c.in-Taken.is (omega (arith, c.line_count.ensures.value))))

pub returns-in_ok-bytes-in-Taken : goal.returns-in_ok-bytes-in-Taken
returns-in_ok-bytes-in-Taken c =
    subst (λ e. IfOk c.executable-in-Taken.result (λ o. option_map entry_of_line o ≡ numbered_entry c.args.block.now.number e))
    (sym (taken_few c.args.block.now c.in-Taken.is (omega (arith, c.line_count.ensures.value))))
    (c.executable-in-Taken.ensures (lines_of c.args.block.now.body.now) c.in_ok-bytes-in-Taken.ensures)
