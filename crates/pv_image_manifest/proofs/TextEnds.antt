-- The end of a text.
use Rattle.std.proofs.Common.{◌≡◌, ◌∙◌, ap, ℕ, zero, suc, ◌-◌, ◌≤◌, [], ◌∷◌, ◌++◌, length, drop, refl, sym, inl, inr, arith, append_assoc}
use Rattle.std.proofs.lemmas.List.{append-nil, length-append}
use Rattle.pv_model.specs.Machine.{Bytes}
use Rattle.pv_text.specs.Lines.{IsSplit}
use Rattle.pv_image_manifest.specs.Reading.{IsEnd}

pub whole_end : (text : Bytes) → IsEnd text text
whole_end text = record { front = []; is = refl }

pub end_of_end : (last rest text : Bytes) → IsEnd last rest → IsEnd rest text → IsEnd last text
end_of_end last rest text first second = record {
  front = second.front ++ first.front;
  is = second.is ∙ ap (λ bs. second.front ++ bs) first.is ∙ sym (append_assoc second.front first.front last);
}

pub end_after_line : (text line following : Bytes) → IsSplit text line following → IsEnd following text
end_after_line text line following (inl ended) = record { front = line ++ 10 ∷ []; is = ended ∙ sym (append_assoc line (10 ∷ []) following) }
end_after_line text line following (inr last) = record { front = text; is = sym (append-nil text) ∙ ap (λ bs. text ++ bs) (sym last.1) }

drop_front : (front rest : Bytes) (n : ℕ) → n ≡ length front → drop n (front ++ rest) ≡ rest
drop_front [] rest n is = rw is refl
drop_front (b ∷ front) rest zero is = absurd (omega arith)
drop_front (b ∷ front) rest (suc n) is = drop_front front rest n (omega (arith, is))

pub end_is_inside : (rest text : Bytes) → IsEnd rest text → length rest ≤ length text
end_is_inside rest text end = omega (arith, ap length end.is, length-append end.front rest)

-- where the end of a text starts
pub end_begins : (rest text : Bytes) → IsEnd rest text → drop (length text - length rest) text ≡ rest
end_begins rest text end =
    ap (λ bs. drop (length text - length rest) bs) end.is
    ∙ drop_front end.front rest (length text - length rest) (omega (arith, ap length end.is, length-append end.front rest))
