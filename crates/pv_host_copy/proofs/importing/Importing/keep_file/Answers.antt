use Rattle.std.proofs.Common.{refl, subst, Ok}
use Rattle.pv_host_copy.specs.Gathered.{and_file}
use Rattle.pv_host_copy.specs.Importing.{Settles}
use Rattle.pv_host_copy.proofs.ImportSteps.{file-settled, file-stops, goes_if-residual}
use Rattle.pv_host_copy.proofs.importing.Importing.keep_file.Goals as goal

pub returns-in_err-settle-clause-goes : goal.returns-in_err-settle-clause-goes
returns-in_err-settle-clause-goes g c =
    let known = g.F.HostFile.bytes c.args.file.now in
    let before = c.args.self.now in
    let path = c.args.path.now in
    let s = c.in_err-settle.field-0.0 in
    goes_if-residual known (and_file before.version path c.args.identity c.args.executable) before c.from_residual.result c.settle.new.self s c.from_residual.ensures.1
    (file-stops before.version before c.settle.new.self path c.args.identity c.args.executable known refl s c.in_err-settle.ensures.settles)

pub returns-then-branch-clause-goes : goal.returns-then-branch-clause-goes
returns-then-branch-clause-goes g c =
    let before = c.args.self.now in
    file-settled before.version before c.settle.new.self c.args.path.now c.args.identity c.args.executable (g.F.HostFile.bytes c.args.file.now) refl c.settle.new.self
    (subst (λ b. Settles c.args.path.now c.args.identity before (Ok b) c.settle.new.self) c.if-branch.true c.in_ok-settle.ensures.settles)
