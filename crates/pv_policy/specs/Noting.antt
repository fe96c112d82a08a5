-- Calls as the code records them.
use Rattle.std.specs.Prelude.{ℕ, Option, option_map}
use Rattle.std.specs.Global.{Vec}
use Rattle.pv_model.specs.Machine.{Bytes, call_of}
use Rattle.pv_promises.specs.Pledge.{bits_of}
use Rattle.pv_policy.specs.declared.noted.NotedCall.{NotedCall}
use Rattle.pv_policy.specs.Usage.{Noted}

abbrev pub noted_in : NotedCall → Noted
noted_in c = record {
  by = c.by.now;
  pid = c.pid;
  program = c.program.now;
  call = call_of c.call;
  line = c.line;
  pledged = bits_of c.pledged;
  walks = c.walks.now;
  held = c.held.now;
  used = c.used.now;
}

abbrev pub bytes_in : Option (Vec ℕ) → Option Bytes
bytes_in lines = option_map (λ v. v.items) lines
