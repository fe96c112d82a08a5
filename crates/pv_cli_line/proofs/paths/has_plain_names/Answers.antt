use Rattle.std.proofs.Common.{◌≡◌, ◌<◌, ◌+◌, ◌∙◌, ℕ, length, true, sym, ap, drop}
use Rattle.std.specs.Prelude.{◌&&◌}
use Rattle.std.proofs.lemmas.List.{at_drop_more, take_rest}
use Rattle.pv_model.specs.Bytes.{Bytes}
use Rattle.pv_cli_line.specs.Paths.{begins_plainly, has_plain_names}
use Rattle.pv_cli_line.proofs.paths.has_plain_names.Goals as goal

-- a part of a path that begins plainly is as the part after its first byte
more : (path : Bytes) (at : ℕ) → at < length path → begins_plainly (drop at path) ≡ true → has_plain_names (drop at path) ≡ has_plain_names (drop (at + 1) path)
more path at within plain =
    at_drop_more has_plain_names path at 0 within
    ∙ ap (λ b. b && has_plain_names (drop (at + 1) path)) (sym (at_drop_more begins_plainly path at 0 within) ∙ plain)

pub loop-at-preserved : goal.loop-at-preserved
loop-at-preserved c =
    let plain = rw take_rest at (sym c.begins_plainly.ensures ∙ c.if-not-begins_plainly.false) in
    sym (more c.args.path.now c.loop-at.at c.loop-at-test.true plain) ∙ c.loop-at.invariant
