use Rattle.pv_laws_runs.proofs.SecretExampleRuns.{secrets-happen}
use Rattle.pv_laws_runs.proofs.examples.secrets_happen.Goals as goal

pub returns : goal.returns
returns c = secrets-happen
