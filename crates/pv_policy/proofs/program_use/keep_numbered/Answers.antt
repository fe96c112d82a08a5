use Rattle.std.proofs.Common.{◌≡◌, ◌∙◌, ◌++◌, ◌∷◌, [], None, Some, ap, bytes_eq, slice_set, sym}
use Rattle.std.specs.Prelude.{position}
use Rattle.pv_model.specs.Machine.{program_numbers}
use Rattle.pv_policy.specs.Groups.{row_at}
use Rattle.pv_policy.specs.Noting.{noted_in}
use Rattle.pv_policy.specs.Usage.{noted_key, unused_by, usage_key, usage_more}
use Rattle.pv_policy.proofs.GroupTables.{one-new, one-there}
use Rattle.pv_policy.proofs.program_use.keep_numbered.Goals as goal

pub returns-in_ok-add-in-Some : goal.returns-in_ok-add-in-Some
returns-in_ok-add-in-Some c =
    let programs = c.args.programs.now.items in
    let n = noted_in c.args.call.now in
    let numbers = sym c.requires ∙ sym c.deref-2.ensures.value in
    let is : row_at noted_key usage_key unused_by usage_more programs n ≡ Some c.in-Some.k =
    (λ i. position (λ u. bytes_eq (numbers i) (program_numbers u.program)) (sym c.deref.ensures.value i)) ∙ sym c.index_of.ensures ∙ c.in-Some.is in
    ap (slice_set programs c.in-Some.k) (c.in_ok-add-in-Some.ensures ∙ ap (λ u. usage_more u n) c.index_mut.ensures.value)
    ∙ sym (one-there noted_key usage_key unused_by usage_more n programs c.in-Some.k c.index_mut.result.now is).1

pub returns-in_ok-push-in-None : goal.returns-in_ok-push-in-None
returns-in_ok-push-in-None c =
    let programs = c.args.programs.now.items in
    let n = noted_in c.args.call.now in
    let numbers = sym c.requires ∙ sym c.deref-2.ensures.value in
    let none : row_at noted_key usage_key unused_by usage_more programs n ≡ None =
    (λ i. position (λ u. bytes_eq (numbers i) (program_numbers u.program)) (sym c.deref.ensures.value i)) ∙ sym c.index_of.ensures ∙ c.in-None.is in
    c.in_ok-push-in-None.ensures.items ∙ ap (λ u. programs ++ u ∷ []) (c.in_ok-add-in-None.ensures ∙ ap (λ u. usage_more u n) c.in_ok-used-in-None.ensures)
    ∙ sym (one-new noted_key usage_key unused_by usage_more n programs none)
