-- The open descriptors of a process, one at a time.
use Rattle.std.proofs.Common.{◌≡◌, ℕ, zero, suc, ◌+◌, ◌<◌, ◌≤◌, true, false, cond, ◌==◌, List, [], ◌∷◌, ◌++◌, filter, flat_map, drop, length, Option, None, Some, option_map, refl, ap, sym, ◌∙◌, arith, add-one}
use Rattle.std.specs.Prelude.{filter_map, is_none}
use Rattle.std.specs.Option.{option_and_then}
use Rattle.std.specs.List.{cons_option}
use Rattle.std.proofs.lemmas.List.{drop_all}
use Rattle.pv_model.specs.declared.open_flags.Mode.{Mode}
use Rattle.pv_model.specs.Machine.{node_path, Bytes, Numbered, at_number, numbered_from, Descriptor, OpenFile, Process, State}
use Rattle.pv_model.specs.Answers.ProcessRecord.{OpenDescriptor, open_descriptor}
use Rattle.pv_model.specs.Answers.Reach.{descriptor_part, descriptor_texts}
use Rattle.pv_answers.specs.declared.reach.reacher.Reacher.{Reacher}
use Rattle.pv_answers.specs.Reaching.{all_on, descriptor_words, may_line, may_lines, opened_at, reacher_process, reacher_state, unnamed_line, unnamed_words, words_on}

-- the element at an index, and those after it
drop-at : {X : Type 0} (xs : Numbered X) (d : ℕ) → d < length xs → drop d xs ≡ at_number xs d ∷ drop (suc d) xs
drop-at [] d less = absurd (omega arith)
drop-at (x ∷ xs) zero less = refl
drop-at (x ∷ xs) (suc d) less = drop-at xs d (omega arith)

module _ (x : Reacher) where
  abbrev s : State
  s = reacher_state x

  abbrev p : Process
  p = reacher_process x

  -- the open descriptors among some, from a number on
  abbrev opened_in : ℕ → Numbered Descriptor → List OpenDescriptor
  opened_in d ds = filter_map (open_descriptor s) (numbered_from d ds)

  abbrev file_of : Option Descriptor → Option (ℕ × Mode)
  file_of o = option_map (λ (f : OpenFile). (f.node, f.mode)) (option_and_then (λ (e : Descriptor). at_number s.files e.file) o)

  -- the open descriptors from a number on
  abbrev opened_from : ℕ → List OpenDescriptor
  opened_from d = opened_in d (drop d p.descriptors)

  opened-next : (d : ℕ) → d < length p.descriptors → opened_from d ≡ opened_in d (at_number p.descriptors d ∷ drop (suc d) p.descriptors)
  opened-next d less = ap (opened_in d) (drop-at p.descriptors d less)

  -- ---- after a node

  abbrev words_in : ℕ → List OpenDescriptor → Bytes
  words_in n os = flat_map (descriptor_part s p) (filter (λ o. o.file.node == n) os)

  abbrev pub words_from : ℕ → ℕ → Bytes
  words_from n d = words_in n (opened_from d)

  pub words-all : (n : ℕ) → words_from n 0 ≡ all_on x n
  words-all n = refl

  words-first : (n d : ℕ) (o : Option Descriptor) (ds : Numbered Descriptor) → words_in n (opened_in d (o ∷ ds)) ≡ words_on n d (file_of o) ++ words_in n (opened_in (suc d) ds)
  words-first n d None ds = refl
  words-first n d (Some e) ds =
      let rest = opened_in (suc d) ds in
      let open_under : OpenFile → OpenDescriptor = λ file. record { number = d; descriptor = e; file = file } in
      elim (at_number s.files e.file) as
      (λ f. words_in n (cons_option (option_map open_under f) rest) ≡ words_on n d (option_map (λ (g : OpenFile). (g.node, g.mode)) f) ++ words_in n rest) [
        | None ↦ refl
        | Some file ↦
            elim (file.node == n) as
            (λ b. flat_map (descriptor_part s p) (cond b (open_under file ∷ filter (λ o. o.file.node == n) rest) (filter (λ o. o.file.node == n) rest))
            ≡ cond b (descriptor_words d file.mode) [] ++ words_in n rest) [
              | true ↦ refl
              | false ↦ refl
            ]
      ]

  pub words-next : (n d : ℕ) → d < length p.descriptors → words_from n d ≡ words_on n d (opened_at x d) ++ words_from n (d + 1)
  words-next n d less =
      ap (words_in n) (opened-next d less) ∙ words-first n d (at_number p.descriptors d) (drop (suc d) p.descriptors)
      ∙ ap (λ k. words_on n d (opened_at x d) ++ words_in n (opened_in k (drop k p.descriptors))) (sym (add-one d))

  -- after the last descriptor none remains
  pub words-past : (n d : ℕ) → length p.descriptors ≤ d → words_from n d ≡ []
  words-past n d past = ap (λ ds. words_in n (opened_in d ds)) (drop_all d p.descriptors past)

  -- ---- on nodes without a path

  abbrev lines_in : List OpenDescriptor → Bytes
  lines_in os = may_lines x (flat_map (descriptor_texts s p) os)

  abbrev pub lines_from : ℕ → Bytes
  lines_from d = lines_in (opened_from d)

  lines-first : (d : ℕ) (o : Option Descriptor) (ds : Numbered Descriptor) → lines_in (opened_in d (o ∷ ds)) ≡ unnamed_line x d (file_of o) ++ lines_in (opened_in (suc d) ds)
  lines-first d None ds = refl
  lines-first d (Some e) ds =
      let rest = opened_in (suc d) ds in
      let open_under : OpenFile → OpenDescriptor = λ file. record { number = d; descriptor = e; file = file } in
      elim (at_number s.files e.file) as
      (λ f. lines_in (cons_option (option_map open_under f) rest) ≡ unnamed_line x d (option_map (λ (g : OpenFile). (g.node, g.mode)) f) ++ lines_in rest) [
        | None ↦ refl
        | Some file ↦
            let words = unnamed_words x file.node d file.mode in
            elim (is_none (node_path s.tree file.node)) as
            (λ b. may_lines x (cond b (words ∷ []) [] ++ flat_map (descriptor_texts s p) rest) ≡ cond b (may_line x words) [] ++ lines_in rest) [
              | true ↦ refl
              | false ↦ refl
            ]
      ]

  pub lines-next : (d : ℕ) → d < length p.descriptors → lines_from d ≡ unnamed_line x d (opened_at x d) ++ lines_from (d + 1)
  lines-next d less =
      ap lines_in (opened-next d less) ∙ lines-first d (at_number p.descriptors d) (drop (suc d) p.descriptors)
      ∙ ap (λ k. unnamed_line x d (opened_at x d) ++ lines_in (opened_in k (drop k p.descriptors))) (sym (add-one d))

  pub lines-past : (d : ℕ) → length p.descriptors ≤ d → lines_from d ≡ []
  lines-past d past = ap (λ ds. lines_in (opened_in d ds)) (drop_all d p.descriptors past)
