-- The origin of an entry, in words.
use Rattle.std.proofs.Common.{◌≡◌, ◌∙◌, ap, ap₂, sym, ℕ, Bool, true, false, nat_lt, List, [], ◌++◌, length, get_or, codes, Option, None, Some, option_map}
use Rattle.std.specs.Prelude.{slice_get}
use Rattle.std.specs.Fmt.{decimal}
use Rattle.std.proofs.lemmas.Bool.{ltb-true, ltb-false}
use Rattle.std.proofs.lemmas.List.{append-nil}
use Rattle.std.proofs.lemmas.Option.{slice_get-get_or, slice_get-map, slice_get_past}
use Rattle.pv_model.specs.Answers.Explain.{earlier_text, setting_text}
use Rattle.pv_model.specs.Machine.{Bytes, program_of}
use Rattle.pv_step_lines.specs.declared.origin.Origin.{Origin}
use Rattle.pv_step_lines.specs.Origin.{setting_of, settings_in}
use Rattle.pv_step_lines.specs.Parts.{origin_text}

module _ (os : List Origin) (k : ℕ) where
  source-at : (o : Option Origin) → slice_get os k ≡ o → origin_text (settings_in os) k ≡ setting_text program_of (option_map setting_of o)
  source-at o is = ap (setting_text program_of) (slice_get-map setting_of os k ∙ ap (option_map setting_of) is)

  pub no-source : false ≡ nat_lt k (length os) → origin_text (settings_in os) k ≡ []
  no-source past = source-at None (slice_get_past os k (ltb-false k (length os) (sym past)))

  module _ (o : Origin) (within : true ≡ nat_lt k (length os)) (there : o ≡ get_or os k o) where
    some-source : origin_text (settings_in os) k ≡ setting_text program_of (Some (setting_of o))
    some-source = source-at (Some o) (slice_get-get_or os k o (ltb-true k (length os) (sym within)) ∙ ap Some (sym there))

    words : (n : ℕ) (earlier : Bool) → n ≡ o.line → o.earlier ≡ earlier → codes ", set at line " ++ decimal n ++ earlier_text program_of earlier ≡ origin_text (settings_in os) k
    words n earlier line is = ap₂ (λ (m : ℕ) (b : Bool). codes ", set at line " ++ decimal m ++ earlier_text program_of b) line (sym is) ∙ sym some-source

    pub source-earlier : (n : ℕ) → n ≡ o.line → o.earlier ≡ true → codes ", set at line " ++ decimal n ++ codes ", of an earlier program" ≡ origin_text (settings_in os) k
    source-earlier n line is = words n true line is

    pub source-now : (n : ℕ) → n ≡ o.line → o.earlier ≡ false → codes ", set at line " ++ decimal n ≡ origin_text (settings_in os) k
    source-now n line is = ap (λ (bs : Bytes). codes ", set at line " ++ bs) (sym (append-nil (decimal n))) ∙ words n false line is
