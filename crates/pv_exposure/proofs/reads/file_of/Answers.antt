use Rattle.std.proofs.Common.{◌≡◌, ◌∙◌, ap, sym, rules}
use Rattle.std.specs.Prelude.{option_and_then, option_to_list}
use Rattle.pv_model.specs.declared.call.Call.TheVariants.{Read as ReadCall}
use Rattle.pv_model.specs.Machine.{call_of, node_of, node_of_descriptor}
use Rattle.pv_reduced.specs.OfCallsPath.Ends.{end_begun}
use Rattle.pv_exposure.specs.Reading.{file_to_read}
use Rattle.pv_exposure.proofs.FilesOfReads.{one-node}
use Rattle.pv_exposure.proofs.reads.file_of.Goals as goal

pub returns-in-Read : goal.returns-in-Read
returns-in-Read c = λ p at.
    let s = c.args.parts.now in
    let read : option_to_list c.node_at_descriptor.result ≡ node_of_descriptor s p (ReadCall c.in-Read.d c.in-Read.field-1) = search rules in
    read ∙ sym (ap (file_to_read s p) (ap call_of c.in-Read.is))

pub returns-in-Execve : goal.returns-in-Execve
returns-in-Execve c = λ p at.
    let s = c.args.parts.now in
    ap option_to_list (c.node_at.ensures ∙ ap (option_and_then node_of) (c.end_of.ensures p at ∙ ap (end_begun s c.args.pid p) c.execve.ensures))
    ∙ one-node _ ∙ sym (ap (file_to_read s p) (ap call_of c.in-Execve.is))
