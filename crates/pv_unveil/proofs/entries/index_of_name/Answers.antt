use Rattle.std.proofs.Common.{◌∙◌, sym, ap, length, arith}
use Rattle.std.proofs.lemmas.List.{length-map}
use Rattle.pv_model.specs.declared.target.Target.TheVariants.{Directory, Name}
use Rattle.pv_model.specs.Machine.{no_permissions}
use Rattle.pv_unveil.specs.Keys.{key_of}
use Rattle.pv_unveil.proofs.EntryKeys.{found-first, found-end, found-here, other-key, other-name}
use Rattle.pv_unveil.proofs.entries.index_of_name.Goals as goal
use Rattle.pv_unveil.proofs.entries.index_of_name.Goals.{else-is_name_in-via-then-is_name_in+else-has_name, else-is_name_in-via-else-is_name_in}

pub loop-k-init : goal.loop-k-init
loop-k-init c = found-first c.args.entries.now (Name c.args.directory c.args.name.now)

pub returns-then-has_name : goal.returns-then-has_name
returns-then-has_name c =
    let here = found-here c.args.entries.now c.args.keys.now c.args.directory c.args.name.now c.loop-k.k _ c.index-entries-k.result c.requires c.loop-k-test.true (sym c.is_name_in.ensures ∙ c.if-is_name_in.true) (sym c.has_name.ensures ∙ c.if-has_name.true) in
    sym here ∙ c.loop-k.invariant

pub loop-k-preserved : goal.loop-k-preserved
loop-k-preserved c =
    elim c.else-is_name_in.branch [
      | else-is_name_in-via-then-is_name_in+else-has_name w ↦
          sym (other-name c.args.entries.now c.args.keys.now c.args.directory c.args.name.now c.loop-k.k _ w.index-entries-k.result c.requires c.loop-k-test.true (sym c.is_name_in.ensures ∙ w.if-is_name_in.true) (sym w.has_name.ensures ∙ w.if-has_name.false))
          ∙ c.loop-k.invariant
      | else-is_name_in-via-else-is_name_in w ↦
          sym (other-key c.args.entries.now c.args.keys.now c.args.directory c.args.name.now c.loop-k.k _ (Directory 0, no_permissions) c.requires c.loop-k-test.true (sym c.is_name_in.ensures ∙ w.if-is_name_in.false))
          ∙ c.loop-k.invariant
    ]

pub returns : goal.returns
returns c =
    let past = found-end c.args.entries.now (Name c.args.directory c.args.name.now) c.loop-k.k (omega (arith, c.loop-k-test.false, ap length c.requires, length-map c.args.entries.now (λ e. key_of e.0))) in
    sym past ∙ c.loop-k.invariant
