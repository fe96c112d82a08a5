use Rattle.pv_trace.specs.Words.{flags_bytes}
use Rattle.pv_trace.proofs.JoinedTexts.{eight_joined}
use Rattle.pv_trace.proofs.calls.put_flags.Goals as goal

pub returns-clause-text : goal.returns-clause-text
unfolding flags_bytes
returns-clause-text c =
    eight_joined c.args.out.now.items _ _ _ _ _ _ _ _ _ _ _ _ _ _ _ _
    c.put_mode.ensures.text
    c.put_flag.ensures.text c.put_flag-2.ensures.text c.put_flag-3.ensures.text c.put_flag-4.ensures.text c.put_flag-5.ensures.text c.put_flag-6.ensures.text c.put_flag-7.ensures.text
