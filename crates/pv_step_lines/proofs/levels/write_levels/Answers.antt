use Rattle.pv_streams.proofs.WriterContracts.{writes_as}
use Rattle.pv_step_lines.proofs.AncestorLines.{place-bare, place-directory, place-node, place-other}
use Rattle.pv_step_lines.proofs.levels.write_levels.Goals as goal

pub returns-in-Node : goal.returns-in-Node
returns-in-Node g c = writes_as (place-node c.args.basis.now c.args.asked c.args.place.now c.in-Node.node c.in-Node.is) c.write_directory_levels.ensures

pub returns-then-is_directory : goal.returns-then-is_directory
returns-then-is_directory g c =
    writes_as (place-directory c.args.basis.now c.args.asked c.args.place.now c.in-At.dir c.in-At.name c.in-At.node c.in-At.is c.in-Some.node c.in-Some.is c.if-is_directory.ensures)
    c.write_directory_levels-then-is_directory.ensures

pub returns-in-None : goal.returns-in-None
returns-in-None g c =
    writes_as (place-bare c.args.basis.now c.args.asked c.args.place.now c.in-At.dir c.in-At.name c.in-At.node c.in-At.is c.as_slice.result.now c.as_slice.ensures.value c.in-None.is) c.write_name_levels.ensures

pub returns-else-is_directory : goal.returns-else-is_directory
returns-else-is_directory g c =
    let name = c.as_slice-else-is_directory in
    writes_as
    (place-other c.args.basis.now c.args.asked c.args.place.now c.in-At.dir c.in-At.name c.in-At.node c.in-At.is name.result.now name.ensures.value c.in-Some.node c.in-Some.is c.if-is_directory.ensures)
    c.write_name_levels-else-is_directory.ensures
