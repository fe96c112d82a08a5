-- Schedules in normal form and a read, by computation.
use Rattle.std.proofs.Common.{◌≡◌, ◌∙◌, sym, ap, refl, ℕ, ◌+◌, List, [], ◌∷◌, ◌++◌, replicate, arith}
use Rattle.pv_model.specs.declared.outcome.Outcome.{Outcome}
use Rattle.pv_model.specs.declared.outcome.Outcome.TheVariants.{Text}
use Rattle.pv_model.specs.Machine.{machine_on_literals, run}
use Rattle.pv_laws_states.specs.ExampleStates.{no_programs}
use Rattle.pv_laws_steps.specs.Commuting.{Commute}
use Rattle.pv_laws_classes.specs.Together.{NormalForm, count_of_process}
use Rattle.pv_laws_classes.specs.TogetherExamples.{counting_forked, by_turns, cut_short, LoopExamples, EndlessExamples, ready, ReturnsBytes, ReadExamples}
use Rattle.pv_laws_classes.proofs.CombinedTurns.{count-none, count-first}

-- ---- the number of steps of a process

abbrev total : ℕ → List ℕ → ℕ
total m [] = 0
total m (pid ∷ pids) = count_of_process m (pid ∷ []) + total m pids

count-total : (m : ℕ) (pids : List ℕ) → count_of_process m pids ≡ total m pids
count-total m [] = count-none m
count-total m (pid ∷ pids) = omega (arith, count-first m pid pids, count-total m pids)

same-count : (m : ℕ) (one other : List ℕ) → total m one ≡ total m other → count_of_process m one ≡ count_of_process m other
same-count m one other same = count-total m one ∙ same ∙ sym (count-total m other)

-- ---- the runs

by-turns : NormalForm no_programs counting_forked by_turns
unfolding machine_on_literals
by-turns = record {
  turns = (1, 5) ∷ (2, 5) ∷ [];
  left = [];
  joined = ((refl, (refl, (refl, (refl, (refl, (refl, refl)))))), ((refl, (refl, (refl, (refl, (refl, (refl, refl)))))), tt));
  at_end = tt;
  steps = (refl, (refl, (refl, (refl, (refl, (refl, (refl, (refl, (refl, (refl, (refl, (refl, tt))))))))))));
  count = refl;
  each = λ m. same-count m (replicate 6 1 ++ replicate 6 2) by_turns (omega arith);
  replies = refl;
  lines = refl;
  final = refl;
}

cut-short : NormalForm no_programs counting_forked cut_short
unfolding machine_on_literals
cut-short = record {
  turns = (1, 5) ∷ [];
  left = replicate 5 2;
  joined = ((refl, (refl, (refl, (refl, (refl, (refl, refl)))))), tt);
  at_end = (refl, (refl, (refl, (refl, (refl, tt)))));
  steps = (refl, (refl, (refl, (refl, (refl, (refl, (refl, (refl, (refl, (refl, (refl, tt)))))))))));
  count = refl;
  each = λ m. same-count m (replicate 6 1 ++ replicate 5 2) cut_short (omega arith);
  replies = refl;
  lines = refl;
  final = refl;
}

pub loops-happen : LoopExamples
unfolding machine_on_literals by-turns cut-short
loops-happen = record {
  form = by-turns;
  turns = refl;
  left = refl;
  cut_form = cut-short;
  cut_turns = refl;
  cut_left = refl;
  cut_replies = refl;
  whole = refl;
  outcome = refl;
  part = refl;
  silent = refl;
  two_parts = refl;
  final = refl;
}

pub endless-loops_happen : EndlessExamples
unfolding machine_on_literals
endless-loops_happen = record {
  four = refl;
  six = refl;
  silent = refl;
  form = record {
    turns = (2, 1) ∷ [];
    left = replicate 3 1;
    joined = ((refl, (refl, refl)), tt);
    at_end = (refl, (refl, (refl, tt)));
    steps = (refl, (refl, (refl, (refl, (refl, tt)))));
    count = refl;
    each = λ m. same-count m (2 ∷ 2 ∷ replicate 3 1) (1 ∷ 1 ∷ 2 ∷ 1 ∷ 2 ∷ []) (omega arith);
    replies = refl;
    lines = refl;
    final = refl;
  };
  turns = refl;
  left = refl;
  steps = refl;
}

abbrev value_in : Outcome → ℕ
value_in (Text t) = t.value
value_in outcome = 0

read-before : ReturnsBytes 0 ready
unfolding machine_on_literals
read-before = refl

read-later : ReturnsBytes 5 (run no_programs (2 ∷ []) ready).final
unfolding machine_on_literals
read-later = refl

reads-differ : ¬ Commute no_programs ready 1 2
reads-differ commute =
    let same : Text (record { value = 5; len = 5 }) ≡ Text (record { value = 0; len = 0 }) = sym read-later ∙ commute.first.outcome ∙ read-before in
    let none : 5 ≡ 0 = ap value_in same in
    cc none

pub reads-happen : ReadExamples
unfolding machine_on_literals
reads-happen = record {
  before = read-before;
  later = read-later;
  differ = reads-differ;
  between = refl;
  not_before = refl;
  not_later = refl;
}
