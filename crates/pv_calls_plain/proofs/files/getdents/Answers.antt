use Rattle.std.proofs.Common.{◌∙◌, Some, ap, ap₂, sym, subst, w32, length}
use Rattle.std.proofs.lemmas.Int.{to_z-of_z}
use Rattle.pv_calls_plain.specs.Performed.{IsOn}
use Rattle.pv_model.specs.Machine.{answer_by_attempt, done, next_name, returns_bytes, with_file, at_number, OpenFile, entries_at, is_directory_at}
use Rattle.pv_calls_plain.proofs.FileCalls.{file-part, getdents-none, getdents-some, part-is}
use Rattle.pv_calls_plain.proofs.files.getdents.Goals as goal

pub returns-in-None : goal.returns-in-None
returns-in-None c = record {
  performed = λ before me at.
      let s = c.args.parts.now in
      let k = c.in-Some.file in
      let on : IsOn s me c.args.d k = subst (λ z. IsOn s me z k) (to_z-of_z w32 c.args.d c.ranges.d) (c.in-Some.ensures.file me at) in
      let node = file-part (λ (f : OpenFile). f.node) c.files.result.now.files s.files k on.file c.node-node.result c.files.ensures c.node-node.ensures on.there in
      let dir = ap₂ is_directory_at (sym c.tree.ensures) (sym node) ∙ sym c.is_directory.ensures ∙ c.if-not-is_directory.false in
      let none = ap (λ n. next_name on.file.listed (entries_at s.tree n)) (sym node) ∙ sym (c.next_name.ensures on.file on.there) ∙ c.in-None.is in
      ap (answer_by_attempt before s c.args.pid me) (getdents-none s c.args.pid me c.args.d k on.file on.opened dir none)
      ∙ c.report_bytes.ensures before s s me c.invariant.ensures.collected;
}

pub returns-in-Some-next_name : goal.returns-in-Some-next_name
returns-in-Some-next_name c = record {
  performed = λ before me at.
      let s = c.args.parts.now in
      let k = c.in-Some.file in
      let name = c.in-Some-next_name.name in
      let new = c.set_last_name.new.self in
      let on : IsOn s me c.args.d k = subst (λ z. IsOn s me z k) (to_z-of_z w32 c.args.d c.ranges.d) (c.in-Some.ensures.file me at) in
      let node = file-part (λ (f : OpenFile). f.node) c.files.result.now.files s.files k on.file c.node-node.result c.files.ensures c.node-node.ensures on.there in
      let dir = ap₂ is_directory_at (sym c.tree.ensures) (sym node) ∙ sym c.is_directory.ensures ∙ c.if-not-is_directory.false in
      let some = ap (λ n. next_name on.file.listed (entries_at s.tree n)) (sym node) ∙ sym (c.next_name.ensures on.file on.there) ∙ c.in-Some-next_name.is in
      let preserved = part-is (λ (f : OpenFile). with_file s k (record f { listed = Some c.copy.result })) (at_number s.files k) on.file new c.set_last_name.ensures on.there
      ∙ ap (λ bs. with_file s k (record on.file { listed = Some bs })) c.copy.ensures in
      ap (answer_by_attempt before s c.args.pid me)
      (getdents-some s c.args.pid me c.args.d k on.file on.opened name dir some
      ∙ ap (λ x. done 0 (x, returns_bytes (length name) name)) (sym preserved)
      ∙ ap₂ (λ n bs. done 0 (new, returns_bytes n bs)) (sym c.len.ensures.value) (sym c.as_slice.ensures.value))
      ∙ c.report_bytes-in-Some-next_name.ensures before s new me c.invariant-in-Some-next_name.ensures.collected;
}
