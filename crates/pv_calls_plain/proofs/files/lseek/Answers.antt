use Rattle.std.proofs.Common.{◌≡◌, ◌∙◌, ℕ, pos, ◌+ℤ◌, Some, None, false, Option, ap, ap₂, refl, rules, sym, subst, w32}
use Rattle.std.proofs.lemmas.Int.{to_z-of_z}
use Rattle.pv_calls_state.specs.Attempts.{collected_attempt}
use Rattle.pv_calls_plain.specs.Performed.{IsOn, attempt_of}
use Rattle.pv_model.specs.declared.limits.TheConstants.{OFFSET}
use Rattle.pv_model.specs.Machine.{done, within, returns as returns_number, with_file, collect, at_number, OpenFile, is_directory_at}
use Rattle.pv_calls_plain.proofs.FileCalls.{file-part, lseek-out, lseek-to, part-is}
use Rattle.pv_calls_plain.proofs.files.lseek.Goals as goal

pub seek_base-base-requires-clause-seekable : goal.seek_base-base-requires-clause-seekable
seek_base-base-requires-clause-seekable c =
    let s = c.args.parts.now in
    record {
      opened = search rules;
      plain = λ f at.
          let node = file-part (λ (f : OpenFile). f.node) c.files.result.now.files s.files c.in-Some.file f c.node-node.result c.files.ensures c.node-node.ensures at in
          ap₂ is_directory_at (sym c.tree.ensures) (sym node) ∙ sym c.is_directory.ensures ∙ c.if-is_directory.false;
    }

pub returns-in_default-offset_from : goal.returns-in_default-offset_from
returns-in_default-offset_from c = record {
  performed = record {
    as_defined = λ me at.
        let s = c.args.parts.now in
        let k = c.in-Some.file in
        let on : IsOn s me c.args.d k = subst (λ z. IsOn s me z k) (to_z-of_z w32 c.args.d c.ranges.d) (c.in-Some.ensures.file me at) in
        let node = file-part (λ (f : OpenFile). f.node) c.files.result.now.files s.files k on.file c.node-node.result c.files.ensures c.node-node.ensures on.there in
        let plain = ap₂ is_directory_at (sym c.tree.ensures) (sym node) ∙ sym c.is_directory.ensures ∙ c.if-is_directory.false in
        let out = ap₂ (λ n z. within OFFSET (pos n +ℤ z)) (sym (c.seek_base-base.ensures c.args.pid me on.file on.there)) (sym (to_z-of_z w32 c.args.by c.ranges.by))
        ∙ sym c.offset_from.ensures ∙ c.in_default-offset_from.is in
        ap collected_attempt (lseek-out s c.args.pid me c.args.d k on.file on.opened c.args.by c.args.whence plain out) ∙ ap (λ r. attempt_of s (Rattle.std.proofs.Common.Err r)) (sym c.refusal-in_default-offset_from.ensures);
    unchanged = refl;
    small = tt;
  };
}

pub returns : goal.returns
returns c = record {
  performed = record {
    as_defined = λ me at.
        let s = c.args.parts.now in
        let k = c.in-Some.file in
        let offset = c.in-Some-offset_from.offset in
        let new = c.set_offset.new.self in
        let on : IsOn s me c.args.d k = subst (λ z. IsOn s me z k) (to_z-of_z w32 c.args.d c.ranges.d) (c.in-Some.ensures.file me at) in
        let node = file-part (λ (f : OpenFile). f.node) c.files.result.now.files s.files k on.file c.node-node.result c.files.ensures c.node-node.ensures on.there in
        let plain = ap₂ is_directory_at (sym c.tree.ensures) (sym node) ∙ sym c.is_directory.ensures ∙ c.if-is_directory.false in
        let found = ap₂ (λ n z. within OFFSET (pos n +ℤ z)) (sym (c.seek_base-base.ensures c.args.pid me on.file on.there)) (sym (to_z-of_z w32 c.args.by c.ranges.by))
        ∙ sym c.offset_from.ensures ∙ c.in-Some-offset_from.is in
        let preserved = part-is (λ (f : OpenFile). with_file s k (record f { offset = offset })) (at_number s.files k) on.file new c.set_offset.ensures on.there in
        ap collected_attempt (lseek-to s c.args.pid me c.args.d k on.file on.opened c.args.by c.args.whence offset plain found)
        ∙ ap (λ x. done 0 (x, returns_number offset)) (ap collect (sym preserved) ∙ c.invariant.ensures.collected) ∙ ap (attempt_of new) (sym c.answer_of.ensures);
    unchanged = rw c.answer_of.ensures tt;
    small = rw c.answer_of.ensures (search rules);
  };
}
