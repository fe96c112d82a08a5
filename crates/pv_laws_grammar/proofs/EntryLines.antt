-- The lines of a manifest: its sizes and its entries.
use Rattle.std.proofs.Common.{◌≡◌, ℕ, ◌≤◌, true, false, cond, not, ◌&&◌, ◌==◌, nat_le, List, [], ◌∷◌, ◌++◌, length, take, drop, Option, None, Some, ap, sym, ◌∙◌, refl, subst, append_assoc, take-append-drop, arith, leb-true, le-leb}
use Rattle.std.specs.Prelude.{codes, bytes_eq, flat_map}
use Rattle.std.specs.Fmt.{decimal}
use Rattle.std.specs.List.{list_all}
use Rattle.std.proofs.lemmas.Bool.{cond_both, cond-true, and_parts, and_from, not_from_false, ne_eqb}
use Rattle.std.proofs.lemmas.Option.{cond_some}
use Rattle.std.proofs.lemmas.List.{length-take-le}
use Rattle.std.proofs.lemmas.Slice.Eq.{bytes_eq-Decides}
use Rattle.pv_model.specs.Machine.{Bytes, is_empty, word_at, text_at, one_argument, two_arguments, decimal_of, is_manifest_path, with_line_end, entry_of, sizes_of, EncodesText, ended, Entry, make, further_name, directory_node, file_node, link_node, is_link_text}
use Rattle.pv_model.specs.Grammar.Entries.{EncodesEntry, of_directory, of_file, of_program, of_link, of_name, EncodesSizes}
use Rattle.pv_model.specs.Grammar.Lines.{word_of, after_word}
use Rattle.pv_model.specs.Grammar.Manifests.{Taking, directory_line, file_line, executable_line, link_line, name_line, entry_by}
use Rattle.pv_model.specs.Grammar.Encoding.{Decimal, EncodesBytes, nothing, plain, escaped}
use Rattle.pv_laws_grammar.proofs.Decimals.{Decimal-decimal_of, decimal_of-Decimal, Decimal-decimal, Decimal-encoded, no_space-Decimal}
use Rattle.pv_laws_grammar.proofs.EntryPaths.{IsEntryPath-from_test, is_manifest_path-IsEntryPath}
use Rattle.pv_laws_grammar.proofs.FirstWord.{word_split}
use Rattle.pv_laws_grammar.proofs.QuotedTexts.{reads_text}
use Rattle.pv_laws_grammar.proofs.ParserCorrectness.{Reads, ReadsWord, reads_word}
use Rattle.pv_laws_grammar.proofs.WordLists.{one_word_found, one_word_again, two_words_found, two_words_again}

reads_decimal : ReadsWord decimal_of Decimal
reads_decimal = record { found = (λ word n e. Decimal-decimal_of word n e); again = (λ n word h. decimal_of-Decimal n word h); whole = no_space-Decimal }

decimal_at : Reads (word_at decimal_of) Decimal
decimal_at = reads_word decimal_of Decimal reads_decimal

-- the first word, and the parse of the bytes after it
named_line : (line name rest : Bytes) → name ≡ word_of line → after_word line ≡ rest → line ≡ name ++ rest
named_line line name rest is following = word_split line ∙ ap (λ w. w ++ after_word line) (sym is) ∙ ap (λ r. name ++ r) following

-- concatenations around two words are reassociated to the left
pub grouped : (front word other : Bytes) → front ++ word ++ codes " " ++ other ≡ front ++ (word ++ 32 ∷ other)
grouped front word other = append_assoc (front ++ word) (32 ∷ []) other ∙ append_assoc front word (32 ∷ other)

-- ---- sizes

pub EncodesSizes-sizes_of : (line : Bytes) (sizes : ℕ × ℕ) → sizes_of line ≡ Some sizes → EncodesSizes line sizes.0 sizes.1
EncodesSizes-sizes_of line sizes e = cond_both (bytes_eq (word_of line) (codes "image")) (two_arguments (word_at decimal_of) (word_at decimal_of) (after_word line)) None (λ r. r ≡ Some sizes → EncodesSizes line sizes.0 sizes.1)
    (λ is k.
    let words = two_words_found (word_at decimal_of) Decimal decimal_at (word_at decimal_of) Decimal decimal_at (after_word line) sizes k in
    let name : codes "image" ≡ word_of line = sym ((bytes_eq-Decides (word_of line) (codes "image")).0 is) in
    (words.0, words.1, words.2, words.3, named_line line (codes "image") (32 ∷ words.0 ++ 32 ∷ words.1) name words.4 ∙ sym (grouped (codes "image ") words.0 words.1)))
    (λ is k. absurd (cc)) e

pub sizes_of-EncodesSizes : (line : Bytes) (blocks inodes : ℕ) → EncodesSizes line blocks inodes → sizes_of line ≡ Some (blocks, inodes)
sizes_of-EncodesSizes line blocks inodes h =
    ap sizes_of (h.4 ∙ grouped (codes "image ") h.0 h.1)
    ∙ two_words_again (word_at decimal_of) Decimal decimal_at (word_at decimal_of) Decimal decimal_at blocks inodes h.0 h.1 h.2 h.3

-- ---- texts of links

no_zero : (value encoded : Bytes) → EncodesBytes value encoded → list_all (λ b. not (b == 0)) value ≡ true
no_zero _ _ nothing = refl
no_zero _ _ (plain b value encoded prints more) =
    let last = and_parts (nat_le 32 b && nat_le b 126 && not (b == 34)) (not (b == 92)) prints in
    let next = and_parts (nat_le 32 b && nat_le b 126) (not (b == 34)) last.0 in
    let low = leb-true 32 b (and_parts (nat_le 32 b) (nat_le b 126) next.0).0 in
    and_from (not (b == 0)) (list_all (λ c. not (c == 0)) value) (not_from_false (b == 0) (ne_eqb b 0 (λ e. omega arith))) (no_zero value encoded more)
no_zero _ _ (escaped b value encoded some fits more) =
    and_from (not (b == 0)) (list_all (λ c. not (c == 0)) value) (not_from_false (b == 0) (ne_eqb b 0 (λ e. omega arith))) (no_zero value encoded more)

not_empty_length : (bs : Bytes) → not (is_empty bs) ≡ true → 1 ≤ length bs
not_empty_length [] h = absurd (cc)
not_empty_length (b ∷ bs) h = omega arith

length_not_empty : (bs : Bytes) → 1 ≤ length bs → not (is_empty bs) ≡ true
length_not_empty [] h = absurd (omega arith)
length_not_empty (b ∷ bs) h = refl

link_bounds : (text : Bytes) → is_link_text text ≡ true → (1 ≤ length text) × (length text ≤ 1023)
link_bounds text h =
    let a = and_parts (not (is_empty text) && nat_le (length text) 1023) (list_all (λ b. not (b == 0)) text) h in
    let b = and_parts (not (is_empty text)) (nat_le (length text) 1023) a.0 in
    (not_empty_length text b.0, leb-true (length text) 1023 b.1)

link_text : (text word : Bytes) → EncodesText text word → 1 ≤ length text → length text ≤ 1023 → is_link_text text ≡ true
link_text text word h low high =
    and_from (not (is_empty text) && nat_le (length text) 1023) (list_all (λ b. not (b == 0)) text)
    (and_from (not (is_empty text)) (nat_le (length text) 1023) (length_not_empty text low) (le-leb (length text) 1023 high))
    (no_zero text h.0 h.1)

-- ---- parsed entries

abbrev pub EntryFound : Bytes → List Bytes → Taking → Type 0
EntryFound line lines t = (body following : List Bytes) × (lines ≡ body ++ following) × (length body ≡ t.1) × EncodesEntry line body t.0

module _ (line : Bytes) (lines : List Bytes) where
  abbrev Sound : Option Taking → Type 0
  Sound r = (t : Taking) → r ≡ Some t → EntryFound line lines t

  alone : (text : Bytes) (e : Entry) → line ≡ text → EncodesEntry text [] e → EntryFound line lines (e, 0)
  alone text e is h = ([], lines, refl, refl, subst (λ l. EncodesEntry l [] e) (sym is) h)

  two_texts : (name : Bytes) (p : Bytes × Bytes) → name ≡ word_of line → two_arguments text_at text_at (after_word line) ≡ Some p
      → (word other : Bytes) × EncodesText p.0 word × EncodesText p.1 other × (line ≡ (name ++ codes " ") ++ word ++ codes " " ++ other)
  two_texts name p is e =
      let words = two_words_found text_at EncodesText reads_text text_at EncodesText reads_text (after_word line) p e in (
        words.0,
        words.1,
        words.2,
        words.3,
        named_line line name (32 ∷ words.0 ++ 32 ∷ words.1) is words.4 ∙ sym (append_assoc name (32 ∷ []) (words.0 ++ 32 ∷ words.1)) ∙ sym (grouped (name ++ codes " ") words.0 words.1),
      )

  directory_sound : (o : Option Bytes) → one_argument text_at (after_word line) ≡ o → codes "dir" ≡ word_of line → Sound (directory_line o)
  directory_sound None is name t e = absurd (cc)
  directory_sound (Some path) is name t e =
      let found = cond_some (is_manifest_path path) (make path (directory_node []), 0) t e in
      let word = one_word_found text_at EncodesText reads_text (after_word line) path is in
      subst (EntryFound line lines) found.1
      (alone (codes "dir " ++ word.0) (make path (directory_node [])) (named_line line (codes "dir") (32 ∷ word.0) name word.2)
      (of_directory path word.0 (IsEntryPath-from_test path found.0, word.1)))

  file_sound : (o : Option (Bytes × Bytes)) → two_arguments text_at text_at (after_word line) ≡ o → codes "bytes" ≡ word_of line → Sound (file_line o)
  file_sound None is name t e = absurd (cc)
  file_sound (Some p) is name t e =
      let found = cond_some (is_manifest_path p.0) (make p.0 (file_node false p.1), 0) t e in
      let words = two_texts (codes "bytes") p name is in
      subst (EntryFound line lines) found.1
      (alone (codes "bytes " ++ words.0 ++ codes " " ++ words.1) (make p.0 (file_node false p.1)) words.4
      (of_file p.0 words.0 p.1 words.1 (IsEntryPath-from_test p.0 found.0, words.2) words.3))

  program_sound : (o : Option (Bytes × ℕ)) → two_arguments text_at (word_at decimal_of) (after_word line) ≡ o → codes "exec" ≡ word_of line → Sound (executable_line lines o)
  program_sound None is name t e = absurd (cc)
  program_sound (Some p) is name t e =
      let found = cond_some (is_manifest_path p.0 && nat_le p.1 9999 && nat_le p.1 (length lines)) (make p.0 (file_node true (flat_map with_line_end (take p.1 lines))), p.1) t e in
      let parts = and_parts (is_manifest_path p.0 && nat_le p.1 9999) (nat_le p.1 (length lines)) found.0 in
      let inner = and_parts (is_manifest_path p.0) (nat_le p.1 9999) parts.0 in
      let few = leb-true p.1 9999 inner.1 in
      let there = leb-true p.1 (length lines) parts.1 in
      let words = two_words_found text_at EncodesText reads_text (word_at decimal_of) Decimal decimal_at (after_word line) p is in
      let count : length (take p.1 lines) ≡ p.1 = length-take-le p.1 lines there in
      let number : words.1 ≡ decimal (length (take p.1 lines)) = Decimal-encoded p.1 words.1 words.3 (omega arith) ∙ ap decimal (sym count) in
      let text : line ≡ codes "exec " ++ words.0 ++ codes " " ++ decimal (length (take p.1 lines)) =
      named_line line (codes "exec") (32 ∷ words.0 ++ 32 ∷ words.1) name words.4 ∙ sym (grouped (codes "exec ") words.0 words.1) ∙ ap (λ n. codes "exec " ++ words.0 ++ codes " " ++ n) number in
      let small : length (take p.1 lines) ≤ 9999 = omega arith in
      let encodes : EncodesEntry (codes "exec " ++ words.0 ++ codes " " ++ decimal (length (take p.1 lines))) (take p.1 lines) (make p.0 (file_node true (ended (take p.1 lines)))) =
      of_program p.0 words.0 (take p.1 lines) (IsEntryPath-from_test p.0 inner.0, words.2) small in
      subst (EntryFound line lines) found.1 (
        take p.1 lines,
        drop p.1 lines,
        sym (take-append-drop p.1 lines),
        count,
        subst (λ l. EncodesEntry l (take p.1 lines) (make p.0 (file_node true (ended (take p.1 lines))))) (sym text) encodes,
      )

  link_sound : (o : Option (Bytes × Bytes)) → two_arguments text_at text_at (after_word line) ≡ o → codes "link" ≡ word_of line → Sound (link_line o)
  link_sound None is name t e = absurd (cc)
  link_sound (Some p) is name t e =
      let found = cond_some (is_manifest_path p.0 && is_link_text p.1) (make p.0 (link_node p.1), 0) t e in
      let parts = and_parts (is_manifest_path p.0) (is_link_text p.1) found.0 in
      let bounds = link_bounds p.1 parts.1 in
      let words = two_texts (codes "link") p name is in
      subst (EntryFound line lines) found.1
      (alone (codes "link " ++ words.0 ++ codes " " ++ words.1) (make p.0 (link_node p.1)) words.4
      (of_link p.0 words.0 p.1 words.1 (IsEntryPath-from_test p.0 parts.0, words.2) words.3 bounds.0 bounds.1))

  name_sound : (o : Option (Bytes × Bytes)) → two_arguments text_at text_at (after_word line) ≡ o → codes "name" ≡ word_of line → Sound (name_line o)
  name_sound None is name t e = absurd (cc)
  name_sound (Some p) is name t e =
      let found = cond_some (is_manifest_path p.0 && is_manifest_path p.1) (further_name p.0 p.1, 0) t e in
      let parts = and_parts (is_manifest_path p.0) (is_manifest_path p.1) found.0 in
      let words = two_texts (codes "name") p name is in
      subst (EntryFound line lines) found.1
      (alone (codes "name " ++ words.0 ++ codes " " ++ words.1) (further_name p.0 p.1) words.4
      (of_name p.0 words.0 p.1 words.1 (IsEntryPath-from_test p.0 parts.0, words.2) (IsEntryPath-from_test p.1 parts.1, words.3)))

  step : (name : Bytes) (r other : Option Taking) → (name ≡ word_of line → Sound r) → Sound other → Sound (cond (bytes_eq (word_of line) name) r other)
  step name r other here there = cond_both (bytes_eq (word_of line) name) r other Sound (λ is. here (sym ((bytes_eq-Decides (word_of line) name).0 is))) (λ is. there)

  pub entry_found : Sound (entry_of line lines)
  unfolding entry_by
  entry_found =
      step (codes "dir") (directory_line (one_argument text_at (after_word line))) _ (directory_sound (one_argument text_at (after_word line)) refl)
      (step (codes "bytes") (file_line (two_arguments text_at text_at (after_word line))) _ (file_sound (two_arguments text_at text_at (after_word line)) refl)
      (step (codes "exec") (executable_line lines (two_arguments text_at (word_at decimal_of) (after_word line))) _ (program_sound (two_arguments text_at (word_at decimal_of) (after_word line)) refl)
      (step (codes "link") (link_line (two_arguments text_at text_at (after_word line))) _ (link_sound (two_arguments text_at text_at (after_word line)) refl)
      (step (codes "name") (name_line (two_arguments text_at text_at (after_word line))) None (name_sound (two_arguments text_at text_at (after_word line)) refl)
      (λ t e. absurd (cc))))))

-- ---- encoded entries

take_front : (body following : List Bytes) → take (length body) (body ++ following) ≡ body
take_front [] following = refl
take_front (line ∷ body) following = ap (λ ls. line ∷ ls) (take_front body following)

front_within : (body following : List Bytes) → length body ≤ length (body ++ following)
front_within [] following = omega arith
front_within (line ∷ body) following = let rest = front_within body following in omega arith

read_two : (a b word other : Bytes) → EncodesText a word → EncodesText b other → two_arguments text_at text_at (32 ∷ word ++ 32 ∷ other) ≡ Some (a, b)
read_two a b word other h k = two_words_again text_at EncodesText reads_text text_at EncodesText reads_text a b word other h k

pub entry_again : (line : Bytes) (body : List Bytes) (e : Entry) → EncodesEntry line body e → (following : List Bytes) → entry_of line (body ++ following) ≡ Some (e, length body)
unfolding entry_by
entry_again _ _ _ (of_directory path word h) following =
    ap directory_line (one_word_again text_at EncodesText reads_text path word h.1)
    ∙ cond-true (is_manifest_path path) (Some (make path (directory_node []), 0)) None (is_manifest_path-IsEntryPath path h.0)
entry_again _ _ _ (of_file path word contents other h k) following =
    ap (λ l. entry_of l following) (grouped (codes "bytes ") word other)
    ∙ ap file_line (read_two path contents word other h.1 k)
    ∙ cond-true (is_manifest_path path) (Some (make path (file_node false contents), 0)) None (is_manifest_path-IsEntryPath path h.0)
entry_again _ _ _ (of_program path word body h few) following =
    let lines : List Bytes = body ++ following in
    ap (λ l. entry_of l lines) (grouped (codes "exec ") word (decimal (length body)))
    ∙ ap (executable_line lines) (two_words_again text_at EncodesText reads_text (word_at decimal_of) Decimal decimal_at path (length body) word (decimal (length body)) h.1 (Decimal-decimal (length body) (omega arith)))
    ∙ cond-true (is_manifest_path path && nat_le (length body) 9999 && nat_le (length body) (length lines)) (Some (make path (file_node true (flat_map with_line_end (take (length body) lines))), length body)) None
    (and_from (is_manifest_path path && nat_le (length body) 9999) (nat_le (length body) (length lines))
    (and_from (is_manifest_path path) (nat_le (length body) 9999) (is_manifest_path-IsEntryPath path h.0) (le-leb (length body) 9999 few))
    (le-leb (length body) (length lines) (front_within body following)))
    ∙ ap (λ ls. Some (make path (file_node true (flat_map with_line_end ls)), length body)) (take_front body following)
entry_again _ _ _ (of_link path word text other h k low high) following =
    ap (λ l. entry_of l following) (grouped (codes "link ") word other)
    ∙ ap link_line (read_two path text word other h.1 k)
    ∙ cond-true (is_manifest_path path && is_link_text text) (Some (make path (link_node text), 0)) None
    (and_from (is_manifest_path path) (is_link_text text) (is_manifest_path-IsEntryPath path h.0) (link_text text other k low high))
entry_again _ _ _ (of_name path word source other h k) following =
    ap (λ l. entry_of l following) (grouped (codes "name ") word other)
    ∙ ap name_line (read_two path source word other h.1 k.1)
    ∙ cond-true (is_manifest_path path && is_manifest_path source) (Some (further_name path source, 0)) None
    (and_from (is_manifest_path path) (is_manifest_path source) (is_manifest_path-IsEntryPath path h.0) (is_manifest_path-IsEntryPath source k.0))
