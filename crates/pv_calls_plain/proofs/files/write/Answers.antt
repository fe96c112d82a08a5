use Rattle.std.proofs.Common.{◌∙◌, ap, arith, rules, sym, subst, w32}
use Rattle.std.proofs.lemmas.Int.{to_z-of_z}
use Rattle.std.proofs.lemmas.Result.{IfOk-weaker}
use Rattle.pv_calls_state.specs.Attempts.{collected_attempt}
use Rattle.pv_calls_plain.specs.Performed.{IsOn}
use Rattle.pv_model.specs.declared.limits.TheConstants.{BUFFER}
use Rattle.pv_model.specs.Machine.{within, OpenFile, writes}
use Rattle.pv_calls_plain.proofs.FileCalls.{file-part, is-written, write-is}
use Rattle.pv_calls_plain.proofs.files.write.Goals as goal

pub write_bytes-requires-clause-on_file : goal.write_bytes-requires-clause-on_file
write_bytes-requires-clause-on_file c =
    let s = c.args.parts.now in
    let k = c.in-Some.file in
    record {
      there = search rules;
      opened = λ f at.
          let mode = file-part (λ (f : OpenFile). f.mode) c.files.result.now.files s.files k f c.mode.result c.files.ensures c.mode.ensures at in
          is-written s c.requires.whole k f at (ap writes (sym mode) ∙ sym c.writes.ensures ∙ c.if-not-writes.false);
    }

pub returns : goal.returns
returns c = record {
  performed = record {
    as_defined = λ me at.
        let s = c.args.parts.now in
        let k = c.in-Some.file in
        let on : IsOn s me c.args.d k = subst (λ z. IsOn s me z k) (to_z-of_z w32 c.args.d c.ranges.d) (c.in-Some.ensures.file me at) in
        let mode = file-part (λ (f : OpenFile). f.mode) c.files.result.now.files s.files k on.file c.mode.result c.files.ensures c.mode.ensures on.there in
        let may = ap writes (sym mode) ∙ sym c.writes.ensures ∙ c.if-not-writes.false in
        let low = ap (λ z. within BUFFER z) (sym (to_z-of_z w32 c.args.n c.ranges.n)) ∙ sym c.within.ensures ∙ c.in-Some-within.is in
        ap collected_attempt (write-is s c.args.pid me c.args.d k on.file on.opened c.args.n c.in-Some-within.count may low) ∙ c.write_bytes.ensures.performed me on.file at on.there;
    unchanged = c.write_bytes.ensures.unchanged;
    small = IfOk-weaker c.write_bytes.result _ _ (λ d low. omega (arith, low)) c.write_bytes.ensures.small;
  };
}
