use Rattle.std.proofs.Common.{◌≡◌, ℕ, ◌<◌, ◌≤◌, Option, option_map, option_and_then, slice_index, sym, ap, ◌∙◌, inl, inr, below_more, arith}
use Rattle.std.proofs.lemmas.Bool.{cases_lt}
use Rattle.pv_files.specs.Counted.{Counted}
use Rattle.pv_files.specs.declared.opened.Opened.{Opened}
use Rattle.pv_files.specs.Slots.{file_of, record_at, where_used}
use Rattle.pv_files.proofs.RecordKeys.{files-same}
use Rattle.pv_files.proofs.open_files.OpenFiles.is_same.Goals as goal

pub loop-number-preserved : goal.loop-number-preserved
loop-number-preserved c =
    below_more _ _ c.loop-number.invariant
    (ap (λ (o : Option Opened). option_map file_of (option_and_then where_used o)) c.index-opened.ensures
    ∙ c.is_same.ensures c.if-not-is_same.false
    ∙ sym (ap (λ (o : Option Opened). option_map file_of (option_and_then where_used o)) c.index.ensures))

pub returns : goal.returns
returns c = λ _.
    let a = c.self.inside in
    let b = c.other.inside in
    let same : (k : ℕ) → k < 128 → option_map file_of (record_at a.records (slice_index a.keys k)) ≡ option_map file_of (record_at b.records (slice_index b.keys k)) = λ k small. elim (cases_lt k c.loop-number.number) [
      | inl below ↦ c.loop-number.invariant k below
      | inr past ↦
          let end : c.loop-number.number ≡ c.max-number-end.result = omega arith in
          ap (option_map file_of) (c.self.invariant.unused k (omega (arith, c.max-number-end.ensures)) small ∙ sym (c.other.invariant.unused k (omega (arith, c.max-number-end.ensures)) small))
    ] in
    ap (λ (v : Counted). v.files) (sym c.self.view_is)
    ∙ files-same a.records b.records a.keys b.keys c.self.invariant.are_keys.count c.other.invariant.are_keys.count same
    ∙ ap (λ (v : Counted). v.files) c.other.view_is
