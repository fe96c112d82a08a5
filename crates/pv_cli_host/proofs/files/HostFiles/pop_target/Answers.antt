use Rattle.std.proofs.Common.{◌∙◌, ap, map}
use Rattle.std.specs.String.{string_bytes}
use Rattle.pv_cli_host.proofs.TargetNames.{last-removed}
use Rattle.pv_cli_host.proofs.files.HostFiles.pop_target.Goals as goal

pub returns-clause-popped : goal.returns-clause-popped
returns-clause-popped c =
    let targets = c.args.self.now.targets in
    λ names name is. ap (λ items. map string_bytes items) c.pop-name.ensures.rest ∙ last-removed string_bytes targets.items names name targets.len targets.ok.0 is
