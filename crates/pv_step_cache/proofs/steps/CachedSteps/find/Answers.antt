use Rattle.std.proofs.Common.{◌≡◌, ◌∙◌, ◌<◌, ap, sym, Some, List, length, slice_get, nat_lt, true, arith}
use Rattle.std.proofs.lemmas.Bool.Decides.{nat_tests}
use Rattle.std.proofs.lemmas.Option.{slice_get-get_or}
use Rattle.pv_laws_trees.proofs.DirectoryEntries.{bytes_eq-same}
use Rattle.pv_step_cache.specs.declared.steps.CachedStep.{CachedStep}
use Rattle.pv_step_cache.proofs.steps.CachedSteps.find.Goals as goal

pub returns-then-eq : goal.returns-then-eq
returns-then-eq c =
    let number = c.in_ok-number.number in
    let steps = c.deref.result.now in
    let there = c.in_ok-step.ensures.lookup in
    let test : nat_lt number (length steps) ≡ true = sym there.0 in
    let within : number < length steps = grind (arith, nat_tests, test) in
    record {
      number = number;
      at = ap (λ (xs : List CachedStep). slice_get xs number) (sym c.deref.ensures.value) ∙ slice_get-get_or steps number c.in_ok-step.step.now within ∙ ap Some (sym there.1);
      key_is = sym c.as_slice.ensures.value ∙ bytes_eq-same c.as_slice.result.now c.args.key.now (sym c.if-eq.ensures);
    }
