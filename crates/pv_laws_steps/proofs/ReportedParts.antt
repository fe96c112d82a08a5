-- The parts of a call that its lines depend on.
use Rattle.std.proofs.Common.{◌≡◌, ℕ, List, [], ◌∷◌, ◌++◌, map, refl, ap, ap₂, ◌∙◌}
use Rattle.std.specs.Prelude.{take}
use Rattle.pv_model.specs.declared.call.Call.{Call}
use Rattle.pv_model.specs.declared.call.Call.TheVariants as TheCall
use Rattle.pv_model.specs.declared.outcome.Outcome.{Outcome}
use Rattle.pv_model.specs.declared.outcome.Outcome.TheVariants.{Value, Text}
use Rattle.pv_model.specs.Machine.{Answered, Process, State, process_at, Word, call_word, nami_word, gio_word, gave, Line, line, walked_paths, promise_words, unveil_words, buffer_of, moved_words, end_words, call_lines}
use Rattle.pv_model.specs.Trace.{took}

-- the lines of a call, given those that report bytes
abbrev pub lines_of : ℕ → Call → ℕ → Outcome → List Word → List Line
lines_of pid call walks o moved =
    line pid (call_word call)
    ∷ map (λ path. line pid (nami_word path)) (take walks (walked_paths call))
    ++ map (line pid) (promise_words call o)
    ++ map (line pid) (unveil_words call walks o)
    ++ map (line pid) moved
    ++ map (line pid) (end_words call o)

module _ (pid : ℕ) (p q : Process) (same : q.buffer ≡ p.buffer) where
  moved-same : (y z : State) (c : Call) (o : Outcome) → buffer_of (process_at z pid) ≡ buffer_of (process_at y pid) → moved_words z pid q c o ≡ moved_words y pid p c o
  moved-same y z c (Text taken) is = ap (λ bs. gio_word gave (take taken.len bs) ∷ []) is
  moved-same y z (TheCall.Write d n) (Value count) is = ap (λ bs. gio_word took (take count bs) ∷ []) same
  moved-same y z c o is = refl

-- equal outcomes have equal lines, if the buffers before and after are the same
pub lines-reported : (pid : ℕ) (p q : Process) (call : Call) (a b : Answered) → q.buffer ≡ p.buffer → b.outcome ≡ a.outcome → b.walks ≡ a.walks → buffer_of (process_at b.after pid) ≡ buffer_of (process_at a.after pid)
    → call_lines pid q call b ≡ call_lines pid p call a
unfolding call_lines
lines-reported pid p q call a b same outcome walks buffer =
    ap₂ (λ o w. call_lines pid q call (record { after = b.after; outcome = o; walks = w })) outcome walks ∙ ap (lines_of pid call a.walks a.outcome) (moved-same pid p q same a.after b.after call a.outcome buffer)
