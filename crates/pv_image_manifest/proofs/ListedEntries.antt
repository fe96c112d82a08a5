-- Parsing entries line by line.
use Rattle.std.proofs.Common.{◌≡◌, ◌∙◌, ap, ℕ, zero, suc, ◌+◌, ◌≤◌, ◌<◌, ◌^◌, Bool, true, false, cond, eqb, List, [], ◌∷◌, ◌++◌, length, drop, None, Some, Result, Ok, Err, refl, sym, arith, append_assoc}
use Rattle.std.specs.Prelude.{◌&&◌, map}
use Rattle.std.proofs.lemmas.List.{append-nil, map_push, length-drop}
use Rattle.pv_model.specs.declared.fault.ManifestFault.{ManifestFault}
use Rattle.pv_model.specs.declared.fault.ManifestFault.TheVariants.{Form}
use Rattle.pv_model.specs.Machine.{Bytes, onto_first, lines_of, Listed, entry_of, Entry as ManifestEntry}
use Rattle.pv_model.specs.Grammar.Manifests.{onto_listed, or_form, is_schedule_line, at_end, entries_from}
use Rattle.pv_text.specs.Lines.{IsSplit}
use Rattle.pv_image_manifest.specs.declared.entry.Entry.{Entry}
use Rattle.pv_image_manifest.specs.declared.read_entry.ReadEntry.{ReadEntry}
use Rattle.pv_image_manifest.specs.Entries.{entry_of_line}
use Rattle.pv_image_manifest.specs.Reading.{IsEnd, taking_of, ParsesEntry}
use Rattle.pv_image_manifest.proofs.TextEnds.{whole_end, end_of_end, end_after_line}

-- the entries that were parsed, before those that remain
abbrev pub after_entries : List (ℕ × ManifestEntry) → Result Listed ManifestFault → Result Listed ManifestFault
after_entries front (Ok rest) = Ok (record rest { entries = front ++ rest.entries })
after_entries front (Err fault) = Err fault

onto_more : (front : List (ℕ × ManifestEntry)) (n : ℕ) (entry : ManifestEntry) (rest : Result Listed ManifestFault)
    → after_entries front (onto_listed n entry rest) ≡ after_entries (front ++ (n, entry) ∷ []) rest
onto_more front n entry (Ok rest) = ap (λ (es : List (ℕ × ManifestEntry)). Ok (record rest { entries = es })) (sym (append_assoc front ((n, entry) ∷ []) rest.entries))
onto_more front n entry (Err fault) = refl

length-onto_first : (b : ℕ) (ps : List Bytes) → length (onto_first b ps) ≤ suc (length ps)
length-onto_first b [] = omega arith
length-onto_first b (p ∷ ps) = omega arith

pub length-lines : (bs : Bytes) → length (lines_of bs) ≤ length bs
length-lines [] = omega arith
length-lines (b ∷ []) = elim (eqb b 10) as (λ t. length (cond t ([] ∷ []) ((b ∷ []) ∷ [])) ≤ 1) [ true ↦ omega arith | false ↦ omega arith ]
length-lines (b ∷ c ∷ bs) = by_test (eqb b 10) (lines_of (c ∷ bs)) (length-lines (c ∷ bs))
  where
    longer : (ls : List Bytes) → length ls ≤ length (c ∷ bs) → length (onto_first b ls) ≤ suc (length (c ∷ bs))
    longer ls le = omega (arith, length-onto_first b ls)

    by_test : (t : Bool) (ls : List Bytes) → length ls ≤ length (c ∷ bs) → length (cond t ([] ∷ ls) (onto_first b ls)) ≤ suc (length (c ∷ bs))
    by_test true ls le = omega arith
    by_test false ls le = longer ls le

module _ (in_bundle : Bool) where
  abbrev from_line : List Bytes → ℕ → ℕ → Result Listed ManifestFault
  from_line ls n k = entries_from in_bundle entry_of ls n k

  -- lines that belong to the previous entry are skipped
  skipped : (ls : List Bytes) (n k : ℕ) → k ≤ length ls → from_line ls n k ≡ from_line (drop k ls) (n + k) 0
  skipped [] n zero le = let same : n + 0 ≡ n = omega arith in rw same refl
  skipped [] n (suc k) le = absurd (omega arith)
  skipped (line ∷ ls) n zero le = let same : n + 0 ≡ n = omega arith in rw same refl
  skipped (line ∷ ls) n (suc k) le = let next : n + suc k ≡ suc n + k = omega arith in rw next (skipped ls (suc n) k (omega arith))

  -- the invariant of a loop over the lines of a manifest
  pub record IsListedSoFar (front : List Entry) (rest : Bytes) (n : ℕ) (text : Bytes) : Type 0 where
    pub is : after_entries (map entry_of_line front) (from_line (lines_of rest) n 0) ≡ from_line (lines_of text) 2 0
    pub number : n + length (lines_of rest) ≡ 2 + length (lines_of text)
    pub end : IsEnd rest text

  pub IsListedSoFar-start : (text : Bytes) → IsListedSoFar [] text 2 text
  IsListedSoFar-start text = record { is = whole (from_line (lines_of text) 2 0); number = refl; end = whole_end text }
    where
      whole : (read : Result Listed ManifestFault) → after_entries [] read ≡ read
      whole (Ok listed) = refl
      whole (Err fault) = refl

  module _ (front : List Entry) (rest line following : Bytes) (n : ℕ) (text : Bytes) (split : lines_of rest ≡ line ∷ lines_of following) (preserved : IsListedSoFar front rest n text) where
    pub IsListedSoFar-schedule : (in_bundle && is_schedule_line line) ≡ true → from_line (lines_of text) 2 0 ≡ Ok (record { entries = map entry_of_line front; following = lines_of following })
    IsListedSoFar-schedule marks =
        sym preserved.is ∙ ap (λ ls. after_entries (map entry_of_line front) (from_line ls n 0)) split
        ∙ rw marks (ap (λ (es : List (ℕ × ManifestEntry)). Ok (record { entries = es; following = lines_of following })) (append-nil (map entry_of_line front)))

    pub IsListedSoFar-following : IsSplit rest line following → IsEnd following text
    IsListedSoFar-following bytes = end_of_end following rest text (end_after_line rest line following bytes) preserved.end

    -- the number of the next line fits in 32 bits
    pub IsListedSoFar-room : (k : ℕ) → length text + 2 < 2 ^ 32 → k ≤ length (lines_of following) → n + 1 + k < 2 ^ 32
    IsListedSoFar-room k small le = omega (arith, preserved.number, length-lines text, ap length split)

    -- fewer lines remain after those of an entry
    pub IsListedSoFar-fewer : (k : ℕ) (left : Bytes) → lines_of left ≡ drop k (lines_of following) → length (lines_of left) < length (lines_of rest)
    IsListedSoFar-fewer k left is = omega (arith, ap length split, ap length is, length-drop k (lines_of following))

    at_line : (in_bundle && is_schedule_line line) ≡ false
        → after_entries (map entry_of_line front) (or_form n (entry_of line (lines_of following)) (from_line (lines_of following) (suc n))) ≡ from_line (lines_of text) 2 0
    at_line other =
        let one : from_line (lines_of rest) n 0 ≡ or_form n (entry_of line (lines_of following)) (from_line (lines_of following) (suc n)) =
        ap (λ ls. from_line ls n 0) split ∙ rw other refl in
        ap (after_entries (map entry_of_line front)) (sym one) ∙ preserved.is

    pub IsListedSoFar-refused : (in_bundle && is_schedule_line line) ≡ false → entry_of line (lines_of following) ≡ None → from_line (lines_of text) 2 0 ≡ Err (Form n)
    IsListedSoFar-refused other none =
        sym (at_line other) ∙ ap (λ taking. after_entries (map entry_of_line front) (or_form n taking (from_line (lines_of following) (suc n)))) none

    pub IsListedSoFar-step : (read_entry : ReadEntry) (left : Bytes) (entry : Entry) (next : ℕ) → (in_bundle && is_schedule_line line) ≡ false → ParsesEntry (Some read_entry) (entry_of line (lines_of following)) (lines_of following)
        → lines_of left ≡ drop read_entry.lines (lines_of following) → IsEnd left following → IsSplit rest line following
        → entry_of_line entry ≡ (n, (taking_of read_entry).0) → next ≡ n + 1 + read_entry.lines → IsListedSoFar (front ++ entry ∷ []) left next text
    IsListedSoFar-step read_entry left entry next other takes lines end bytes made on =
        let go : ℕ → Result Listed ManifestFault = λ k. from_line (lines_of following) (suc n) k in
        let read_entry-is : or_form n (entry_of line (lines_of following)) go ≡ onto_listed n (taking_of read_entry).0 (go read_entry.lines) = ap (λ taking. or_form n taking go) takes.0 in
        let number_on : suc n + read_entry.lines ≡ next = omega (arith, on) in
        let left-is : go read_entry.lines ≡ from_line (lines_of left) next 0 =
        skipped (lines_of following) (suc n) read_entry.lines takes.1 ∙ ap (λ ls. from_line ls (suc n + read_entry.lines) 0) (sym lines)
        ∙ ap (λ m. from_line (lines_of left) m 0) number_on in
        let grown : map entry_of_line (front ++ entry ∷ []) ≡ map entry_of_line front ++ (n, (taking_of read_entry).0) ∷ [] =
        map_push entry_of_line front entry ∙ ap (λ e. map entry_of_line front ++ e ∷ []) made in
        record {
          is =
              ap (λ es. after_entries es (from_line (lines_of left) next 0)) grown
              ∙ sym (onto_more (map entry_of_line front) n (taking_of read_entry).0 (from_line (lines_of left) next 0))
              ∙ ap (λ r. after_entries (map entry_of_line front) (onto_listed n (taking_of read_entry).0 r)) (sym left-is)
              ∙ ap (after_entries (map entry_of_line front)) (sym read_entry-is) ∙ at_line other;
          number =
              omega (arith, preserved.number, on, ap length split, ap length lines, length-drop read_entry.lines (lines_of following), takes.1);
          end = end_of_end left following text end (IsListedSoFar-following bytes);
        }

-- at the end of the lines
pub IsListedSoFar-end : (in_bundle : Bool) (front : List Entry) (rest : Bytes) (n : ℕ) (text : Bytes) → lines_of rest ≡ [] → IsListedSoFar in_bundle front rest n text
    → entries_from in_bundle entry_of (lines_of text) 2 0 ≡ after_entries (map entry_of_line front) (at_end in_bundle n)
IsListedSoFar-end in_bundle front rest n text none preserved =
    sym preserved.is ∙ ap (λ ls. after_entries (map entry_of_line front) (entries_from in_bundle entry_of ls n 0)) none

module _ (front : List Entry) (rest : Bytes) (n : ℕ) (text : Bytes) (none : lines_of rest ≡ []) where
  pub IsListedSoFar-unended : (in_bundle : Bool) → in_bundle ≡ true → IsListedSoFar in_bundle front rest n text → entries_from in_bundle entry_of (lines_of text) 2 0 ≡ Err (Form n)
  IsListedSoFar-unended true is preserved = IsListedSoFar-end true front rest n text none preserved
  IsListedSoFar-unended false is preserved = absurd cc

  pub IsListedSoFar-ended : (in_bundle : Bool) → in_bundle ≡ false → IsListedSoFar in_bundle front rest n text
      → entries_from in_bundle entry_of (lines_of text) 2 0 ≡ Ok (record { entries = map entry_of_line front; following = lines_of rest })
  IsListedSoFar-ended true is preserved = absurd cc
  IsListedSoFar-ended false is preserved =
      IsListedSoFar-end false front rest n text none preserved
      ∙ rw none (ap (λ (es : List (ℕ × ManifestEntry)). Ok (record { entries = es; following = [] })) (append-nil (map entry_of_line front)))
