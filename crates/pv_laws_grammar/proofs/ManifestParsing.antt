-- Manifests and bundles, line by line.
use Rattle.std.proofs.Common.{◌≡◌, ◌⊎◌, inl, inr, ℕ, zero, suc, ◌+◌, ◌≤◌, Bool, true, false, cond, ◌&&◌, nat_le, List, [], ◌∷◌, ◌++◌, length, Option, None, Some, Result, Ok, Err, ap, sym, ◌∙◌, refl, subst, arith, leb-true, le-leb}
use Rattle.std.specs.Prelude.{codes}
use Rattle.std.proofs.lemmas.Bool.{cond_both, cond-true, cond-false, and_parts, and_from, false_from_ne_true}
use Rattle.std.proofs.lemmas.Slice.Eq.{bytes_eq-Decides}
use Rattle.pv_model.specs.declared.fault.ManifestFault.{ManifestFault}
use Rattle.pv_model.specs.declared.fault.ManifestFault.TheVariants.{Form, Size}
use Rattle.pv_model.specs.Machine.{Bytes, EncodesManifest, lines_of, entry_of, Listed, Manifest, sizes_of, Entry}
use Rattle.pv_model.specs.Grammar.Entries.{EncodesEntry, of_directory, of_file, of_program, of_link, of_name, Lists, at_end as ends, at_schedule, entry, EncodesSizes, AreSizes, HasNoForm, no_schedule, not_an_entry, further, HasNoSizes, IsFirstWithoutForm, HasOtherSizes}
use Rattle.pv_model.specs.Grammar.Manifests.{Taking, onto_listed, or_form, is_schedule_line, at_end, entries_from, inode_table_blocks, are_sizes, if_sizes, with_entries, after_sizes, manifest_by}
use Rattle.pv_model.specs.Grammar.Texts.{HasLines}
use Rattle.pv_laws_grammar.proofs.EntryLines.{entry_found, entry_again, EncodesSizes-sizes_of, sizes_of-EncodesSizes}
use Rattle.pv_laws_grammar.proofs.TextLines.{lines_from_relation, HasLines-lines_of}

abbrev Reading : Type 0
Reading = Result Listed ManifestFault

-- two prefixes of a list with equal length are equal
same_front : (a b c d : List Bytes) → a ++ b ≡ c ++ d → length a ≡ length c → (a ≡ c) × (b ≡ d)
same_front [] b [] d e h = (refl, e)
same_front [] b (y ∷ c) d e h = absurd (omega arith)
same_front (x ∷ a) b [] d e h = absurd (omega arith)
same_front (x ∷ a) b (y ∷ c) d e h =
    let heads : x ≡ y = cc in
    let tails : a ++ b ≡ c ++ d = cc in
    let more = same_front a b c d tails (omega arith) in
    (let front = more.0 in cc, more.1)

front_within : (body following lines : List Bytes) (k : ℕ) → lines ≡ body ++ following → length body ≡ k → k ≤ length lines
front_within [] following lines k e h = omega arith
front_within (line ∷ body) following [] k e h = absurd (cc)
front_within (line ∷ body) following (l ∷ lines) zero e h = omega arith
front_within (line ∷ body) following (l ∷ lines) (suc k) e h =
    let tails : lines ≡ body ++ following = cc in
    let more = front_within body following lines k tails (omega arith) in omega arith

entry_not_schedule : (line : Bytes) (body : List Bytes) (e : Entry) → EncodesEntry line body e → is_schedule_line line ≡ false
entry_not_schedule _ _ _ (of_directory path word h) = refl
entry_not_schedule _ _ _ (of_file path word contents other h k) = refl
entry_not_schedule _ _ _ (of_program path word body h few) = refl
entry_not_schedule _ _ _ (of_link path word text other h k low high) = refl
entry_not_schedule _ _ _ (of_name path word source other h k) = refl

onto_listed_ok : (n : ℕ) (e : Entry) (r : Reading) (l : Listed) → onto_listed n e r ≡ Ok l → (q : Listed) × (r ≡ Ok q) × (◌≡◌ {A = Listed} (record { entries = (n, e) ∷ q.entries; following = q.following }) l)
onto_listed_ok n e (Ok q) l h = (q, refl, let same : ◌≡◌ {A = Listed} (record { entries = (n, e) ∷ q.entries; following = q.following }) l = cc in same)
onto_listed_ok n e (Err f) l h = absurd (cc)

onto_listed_err : (n : ℕ) (e : Entry) (r : Reading) (f : ManifestFault) → onto_listed n e r ≡ Err f → r ≡ Err f
onto_listed_err n e (Ok q) f h = absurd (cc)
onto_listed_err n e (Err g) f h = h

module _ (in_bundle : Bool) where
  abbrev from_line : List Bytes → ℕ → ℕ → Reading
  from_line = entries_from in_bundle entry_of

  -- the lines that belong to an entry are skipped
  left_out : (body following : List Bytes) (n : ℕ) → from_line (body ++ following) n (length body) ≡ from_line following (n + length body) 0
  left_out [] following n = let same : n ≡ n + 0 = omega arith in ap (λ k. from_line following k 0) same
  left_out (line ∷ body) following n = let same : suc n + length body ≡ n + suc (length body) = omega arith in left_out body following (suc n) ∙ ap (λ k. from_line following k 0) same

  -- ---- parsed lines

  -- lines parse as a listing, after the lines that belong to the previous entry
  record Listing (lines : List Bytes) (n k : ℕ) (l : Listed) : Type 0 where
    body : List Bytes
    following : List Bytes
    whole : lines ≡ body ++ following
    long : length body ≡ k
    lists : Lists in_bundle (n + k) following l

  lists_end : (in_it : Bool) (n : ℕ) (l : Listed) → in_bundle ≡ in_it → at_end in_it n ≡ Ok l → Lists in_bundle n [] l
  lists_end true n l is e = absurd (cc)
  lists_end false n l is e = subst (Lists in_bundle n []) (let same : ◌≡◌ {A = Listed} (record { entries = []; following = [] }) l = cc in same) (ends n is)

  lists_entry : (line : Bytes) (lines : List Bytes) (n : ℕ) (l : Listed) (o : Option Taking) → entry_of line lines ≡ o → or_form n o (from_line lines (suc n)) ≡ Ok l
      → ((k : ℕ) (q : Listed) → k ≤ length lines → from_line lines (suc n) k ≡ Ok q → Listing lines (suc n) k q) → Lists in_bundle n (line ∷ lines) l
  lists_entry line lines n l None is e onward = absurd (cc)
  lists_entry line lines n l (Some t) is e onward =
      let found = entry_found line lines t is in
      let rest = onto_listed_ok n t.0 (from_line lines (suc n) t.1) l e in
      let more = onward t.1 rest.0 (front_within found.0 found.1 lines t.1 found.2 found.3) rest.1 in
      let long = more.long in
      let same = same_front more.body more.following found.0 found.1 (sym more.whole ∙ found.2) (more.long ∙ sym found.3) in
      let at : suc n + t.1 ≡ n + 1 + length found.0 = (let count = found.3 in omega arith) in
      let lists : Lists in_bundle (n + 1 + length found.0) found.1 rest.0 = subst (λ k. Lists in_bundle k found.1 rest.0) at (subst (λ ls. Lists in_bundle (suc n + t.1) ls rest.0) same.1 more.lists) in
      let here : Lists in_bundle n (line ∷ found.0 ++ found.1) (record { entries = (n, t.0) ∷ rest.0.entries; following = rest.0.following }) = entry n line found.0 found.1 t.0 rest.0 found.4 lists in
      subst (Lists in_bundle n (line ∷ lines)) rest.2 (subst (λ ls. Lists in_bundle n (line ∷ ls) (record { entries = (n, t.0) ∷ rest.0.entries; following = rest.0.following })) (sym found.2) here)

  -- the line `schedule` of a bundle
  is_end_line : (line : Bytes) → (in_bundle && is_schedule_line line) ≡ true → (in_bundle ≡ true) × (line ≡ codes "schedule")
  is_end_line line h = let parts = and_parts in_bundle (is_schedule_line line) h in (parts.0, (bytes_eq-Decides line (codes "schedule")).0 parts.1)

  lists_line : (line : Bytes) (lines : List Bytes) (n : ℕ) (l : Listed) → from_line (line ∷ lines) n 0 ≡ Ok l
      → ((k : ℕ) (q : Listed) → k ≤ length lines → from_line lines (suc n) k ≡ Ok q → Listing lines (suc n) k q) → Lists in_bundle n (line ∷ lines) l
  lists_line line lines n l e onward = cond_both (in_bundle && is_schedule_line line) (Ok (record { entries = []; following = lines })) (or_form n (entry_of line lines) (from_line lines (suc n))) (λ r. r ≡ Ok l → Lists in_bundle n (line ∷ lines) l)
      (λ is h.
      let end = is_end_line line is in
      let same : ◌≡◌ {A = Listed} (record { entries = []; following = lines }) l = cc in
      subst (λ s. Lists in_bundle n (s ∷ lines) l) (sym end.1) (subst (Lists in_bundle n (codes "schedule" ∷ lines)) same (at_schedule n lines end.0)))
      (λ is h. lists_entry line lines n l (entry_of line lines) refl h onward) e

  ok_found : (lines : List Bytes) (n k : ℕ) (l : Listed) → k ≤ length lines → from_line lines n k ≡ Ok l → Listing lines n k l
  ok_found [] n zero l h e = let at : n ≡ n + 0 = omega arith in record { body = []; following = []; whole = refl; long = refl; lists = subst (λ m. Lists in_bundle m [] l) at (lists_end in_bundle n l refl e) }
  ok_found [] n (suc k) l h e = absurd (omega arith)
  ok_found (line ∷ lines) n (suc k) l h e =
      let more = ok_found lines (suc n) k l (omega arith) e in
      let at : suc n + k ≡ n + suc k = omega arith in
      record { body = line ∷ more.body; following = more.following; whole = ap (λ ls. line ∷ ls) more.whole; long = ap suc more.long; lists = subst (λ m. Lists in_bundle m more.following l) at more.lists }
  ok_found (line ∷ lines) n zero l h e =
      let at : n ≡ n + 0 = omega arith in
      record { body = []; following = line ∷ lines; whole = refl; long = refl; lists = subst (λ m. Lists in_bundle m (line ∷ lines) l) at (lists_line line lines n l e (λ k q. ok_found lines (suc n) k q)) }

  -- ---- a listing parses

  no_end_line : (line : Bytes) → is_schedule_line line ≡ false → (in_bundle && is_schedule_line line) ≡ false
  no_end_line line h = false_from_ne_true (in_bundle && is_schedule_line line) (λ is. let both = (and_parts in_bundle (is_schedule_line line) is).1 in absurd (cc))

  past_entry : (line : Bytes) (body rest : List Bytes) (e : Entry) (n : ℕ) → EncodesEntry line body e → from_line (line ∷ body ++ rest) n 0 ≡ onto_listed n e (from_line rest (n + 1 + length body) 0)
  past_entry line body rest e n h =
      let at : suc n + length body ≡ n + 1 + length body = omega arith in
      cond-false (in_bundle && is_schedule_line line) (Ok (record { entries = []; following = body ++ rest })) (or_form n (entry_of line (body ++ rest)) (from_line (body ++ rest) (suc n))) (no_end_line line (entry_not_schedule line body e h))
      ∙ ap (λ o. or_form n o (from_line (body ++ rest) (suc n))) (entry_again line body e h rest)
      ∙ ap (onto_listed n e) (left_out body rest (suc n) ∙ ap (λ k. from_line rest k 0) at)

  ok_again : (n : ℕ) (lines : List Bytes) (l : Listed) → Lists in_bundle n lines l → from_line lines n 0 ≡ Ok l
  ok_again _ _ _ (ends n is) = ap (λ b. at_end b n) is
  ok_again _ _ _ (at_schedule n rest is) = ap (λ b. cond (b && true) (Ok (record { entries = []; following = rest })) (or_form n (entry_of (codes "schedule") rest) (from_line rest (suc n)))) is
  ok_again _ _ _ (entry n line body rest e others encodes more) =
      past_entry line body rest e n encodes ∙ ap (onto_listed n e) (ok_again (n + 1 + length body) rest others more)

  -- ---- the first line without its form

  record Missing (lines : List Bytes) (n k : ℕ) (f : ManifestFault) : Type 0 where
    body : List Bytes
    following : List Bytes
    whole : lines ≡ body ++ following
    long : length body ≡ k
    at : ℕ
    named : f ≡ Form at
    missing : HasNoForm in_bundle (n + k) following at

  record MissingHere (lines : List Bytes) (n : ℕ) (f : ManifestFault) : Type 0 where
    at : ℕ
    named : f ≡ Form at
    missing : HasNoForm in_bundle n lines at

  missing_end : (in_it : Bool) (n : ℕ) (f : ManifestFault) → in_bundle ≡ in_it → at_end in_it n ≡ Err f → MissingHere [] n f
  missing_end true n f is e = record { at = n; named = sym (let same : Form n ≡ f = cc in same); missing = no_schedule n is }
  missing_end false n f is e = absurd (cc)

  missing_entry : (line : Bytes) (lines : List Bytes) (n : ℕ) (f : ManifestFault) (o : Option Taking) → (in_bundle && is_schedule_line line) ≡ false → entry_of line lines ≡ o → or_form n o (from_line lines (suc n)) ≡ Err f
      → ((k : ℕ) (g : ManifestFault) → k ≤ length lines → from_line lines (suc n) k ≡ Err g → Missing lines (suc n) k g) → MissingHere (line ∷ lines) n f
  missing_entry line lines n f None no_end is e onward = record {
    at = n;
    named = sym (let same : Form n ≡ f = cc in same);
    missing = not_an_entry n line lines
        (λ bundle schedule. let t : (in_bundle && is_schedule_line line) ≡ true = and_from in_bundle (is_schedule_line line) bundle ((bytes_eq-Decides line (codes "schedule")).1 schedule) in absurd (cc))
        (λ body following e whole encodes. let t : None ≡ Some (e, length body) = sym is ∙ ap (entry_of line) whole ∙ entry_again line body e encodes following in absurd (cc));
  }
  missing_entry line lines n f (Some t) no_end is e onward =
      let found = entry_found line lines t is in
      let more = onward t.1 f (front_within found.0 found.1 lines t.1 found.2 found.3) (onto_listed_err n t.0 (from_line lines (suc n) t.1) f e) in
      let same = same_front more.body more.following found.0 found.1 (sym more.whole ∙ found.2) (more.long ∙ sym found.3) in
      let place : suc n + t.1 ≡ n + 1 + length found.0 = (let count = found.3 in omega arith) in
      let rest : HasNoForm in_bundle (n + 1 + length found.0) found.1 more.at = subst (λ k. HasNoForm in_bundle k found.1 more.at) place (subst (λ ls. HasNoForm in_bundle (suc n + t.1) ls more.at) same.1 more.missing) in
      let here : HasNoForm in_bundle n (line ∷ found.0 ++ found.1) more.at = further n more.at line found.0 found.1 t.0 found.4 rest in
      record { at = more.at; named = more.named; missing = subst (λ ls. HasNoForm in_bundle n (line ∷ ls) more.at) (sym found.2) here }

  missing_line : (line : Bytes) (lines : List Bytes) (n : ℕ) (f : ManifestFault) → from_line (line ∷ lines) n 0 ≡ Err f
      → ((k : ℕ) (g : ManifestFault) → k ≤ length lines → from_line lines (suc n) k ≡ Err g → Missing lines (suc n) k g) → MissingHere (line ∷ lines) n f
  missing_line line lines n f e onward = cond_both (in_bundle && is_schedule_line line) (Ok (record { entries = []; following = lines })) (or_form n (entry_of line lines) (from_line lines (suc n))) (λ r. r ≡ Err f → MissingHere (line ∷ lines) n f)
      (λ is h. absurd (cc))
      (λ is h. missing_entry line lines n f (entry_of line lines) is refl h onward) e

  at_start : (lines : List Bytes) (n : ℕ) (f : ManifestFault) → MissingHere lines n f → Missing lines n 0 f
  at_start lines n f h =
      let same : n ≡ n + 0 = omega arith in
      record { body = []; following = lines; whole = refl; long = refl; at = h.at; named = h.named; missing = subst (λ m. HasNoForm in_bundle m lines h.at) same h.missing }

  err_found : (lines : List Bytes) (n k : ℕ) (f : ManifestFault) → k ≤ length lines → from_line lines n k ≡ Err f → Missing lines n k f
  err_found [] n zero f h e = at_start [] n f (missing_end in_bundle n f refl e)
  err_found [] n (suc k) f h e = absurd (omega arith)
  err_found (line ∷ lines) n (suc k) f h e =
      let more = err_found lines (suc n) k f (omega arith) e in
      let place : suc n + k ≡ n + suc k = omega arith in
      record { body = line ∷ more.body; following = more.following; whole = ap (λ ls. line ∷ ls) more.whole; long = ap suc more.long; at = more.at; named = more.named; missing = subst (λ m. HasNoForm in_bundle m more.following more.at) place more.missing }
  err_found (line ∷ lines) n zero f h e = at_start (line ∷ lines) n f (missing_line line lines n f e (λ k g. err_found lines (suc n) k g))

  no_entry_of : (line : Bytes) (rest : List Bytes) (o : Option Taking) → entry_of line rest ≡ o → ((body following : List Bytes) (e : Entry) → rest ≡ body ++ following → EncodesEntry line body e → ⊥) → o ≡ None
  no_entry_of line rest None is none = refl
  no_entry_of line rest (Some t) is none = let found = entry_found line rest t is in absurd (none found.0 found.1 t.0 found.2 found.4)

  err_again : (n : ℕ) (lines : List Bytes) (m : ℕ) → HasNoForm in_bundle n lines m → from_line lines n 0 ≡ Err (Form m)
  err_again _ _ _ (no_schedule n is) = ap (λ b. at_end b n) is
  err_again _ _ _ (not_an_entry n line rest other none) =
      cond-false (in_bundle && is_schedule_line line) (Ok (record { entries = []; following = rest })) (or_form n (entry_of line rest) (from_line rest (suc n)))
      (false_from_ne_true (in_bundle && is_schedule_line line) (λ is. let end = is_end_line line is in other end.0 end.1))
      ∙ ap (λ o. or_form n o (from_line rest (suc n))) (no_entry_of line rest (entry_of line rest) refl none)
  err_again _ _ _ (further n m line body rest e encodes more) =
      past_entry line body rest e n encodes ∙ ap (onto_listed n e) (err_again (n + 1 + length body) rest m more)

-- ---- sizes

pub are_sizes_found : (blocks inodes : ℕ) → are_sizes blocks inodes ≡ true → AreSizes blocks inodes
are_sizes_found blocks inodes h =
    let a = and_parts (nat_le 1 inodes && nat_le inodes 4096 && nat_le (inode_table_blocks inodes + 1) blocks) (nat_le blocks 8192) h in
    let b = and_parts (nat_le 1 inodes && nat_le inodes 4096) (nat_le (inode_table_blocks inodes + 1) blocks) a.0 in
    let c = and_parts (nat_le 1 inodes) (nat_le inodes 4096) b.0 in
    (leb-true 1 inodes c.0, leb-true inodes 4096 c.1, leb-true (inode_table_blocks inodes + 1) blocks b.1, leb-true blocks 8192 a.1)

pub are_sizes_again : (blocks inodes : ℕ) → AreSizes blocks inodes → are_sizes blocks inodes ≡ true
are_sizes_again blocks inodes h =
    and_from (nat_le 1 inodes && nat_le inodes 4096 && nat_le (inode_table_blocks inodes + 1) blocks) (nat_le blocks 8192)
    (and_from (nat_le 1 inodes && nat_le inodes 4096) (nat_le (inode_table_blocks inodes + 1) blocks)
    (and_from (nat_le 1 inodes) (nat_le inodes 4096) (le-leb 1 inodes h.0) (le-leb inodes 4096 h.1))
    (le-leb (inode_table_blocks inodes + 1) blocks h.2))
    (le-leb blocks 8192 h.3)

-- ---- complete texts

abbrev Whole : Type 0
Whole = Result Manifest ManifestFault

-- the result of parsing lines: a manifest or an error
module _ (in_bundle : Bool) where
  abbrev whole : List Bytes → Whole
  whole = manifest_by in_bundle entry_of

  abbrev with_listed : ℕ → ℕ → Listed → Manifest
  with_listed blocks inodes l = record { blocks = blocks; inodes = inodes; listed = l }

  abbrev SoundWhole : List Bytes → Whole → Type 0
  SoundWhole lines (Ok m) = (first : Bytes) × (rest : List Bytes) × (lines ≡ first ∷ rest) × EncodesSizes first m.blocks m.inodes × Lists in_bundle 2 rest m.listed × AreSizes m.blocks m.inodes
  SoundWhole lines (Err Size) = (m : Manifest) × (first : Bytes) × (rest : List Bytes) × (lines ≡ first ∷ rest) × EncodesSizes first m.blocks m.inodes × Lists in_bundle 2 rest m.listed × ¬ (AreSizes m.blocks m.inodes)
  SoundWhole lines (Err (Form n)) =
      ((n ≡ 1) × ((first : Bytes) (rest : List Bytes) (blocks inodes : ℕ) → lines ≡ first ∷ rest → EncodesSizes first blocks inodes → ⊥))
      ⊎ ((first : Bytes) × (rest : List Bytes) × (blocks inodes : ℕ) × (lines ≡ first ∷ rest) × EncodesSizes first blocks inodes × HasNoForm in_bundle 2 rest n)
  SoundWhole lines (Err _) = ⊥

  sizes_sound : (first : Bytes) (rest : List Bytes) (blocks inodes : ℕ) (l : Listed) → EncodesSizes first blocks inodes → Lists in_bundle 2 rest l → SoundWhole (first ∷ rest) (if_sizes blocks inodes l)
  sizes_sound first rest blocks inodes l encodes lists = cond_both (are_sizes blocks inodes) (Ok (with_listed blocks inodes l)) (Err Size) (SoundWhole (first ∷ rest))
      (λ is. (first, rest, refl, encodes, lists, are_sizes_found blocks inodes is))
      (λ is. (with_listed blocks inodes l, first, rest, refl, encodes, lists, λ sizes. let t = are_sizes_again blocks inodes sizes in absurd (cc)))

  entries_sound : (first : Bytes) (rest : List Bytes) (blocks inodes : ℕ) (r : Reading) → EncodesSizes first blocks inodes → entries_from in_bundle entry_of rest 2 0 ≡ r → SoundWhole (first ∷ rest) (with_entries (blocks, inodes) r)
  entries_sound first rest blocks inodes (Ok l) encodes is =
      let found = ok_found in_bundle rest 2 0 l (omega arith) is in
      let same = same_front [] rest found.body found.following found.whole (sym found.long) in
      let lists : Lists in_bundle 2 rest l = subst (λ ls. Lists in_bundle 2 ls l) (sym same.1) found.lists in
      sizes_sound first rest blocks inodes l encodes lists
  entries_sound first rest blocks inodes (Err f) encodes is =
      let found = err_found in_bundle rest 2 0 f (omega arith) is in
      let same = same_front [] rest found.body found.following found.whole (sym found.long) in
      let missing : HasNoForm in_bundle 2 rest found.at = subst (λ ls. HasNoForm in_bundle 2 ls found.at) (sym same.1) found.missing in
      subst (λ g. SoundWhole (first ∷ rest) (Err g)) (sym found.named) (inr (first, rest, blocks, inodes, refl, encodes, missing))

  first_sound : (first : Bytes) (rest : List Bytes) (o : Option (ℕ × ℕ)) → sizes_of first ≡ o → SoundWhole (first ∷ rest) (after_sizes o (entries_from in_bundle entry_of rest 2 0))
  first_sound first rest None is = inl (
    refl,
    λ f r blocks inodes e encodes.
        let same : first ≡ f = cc in
        let t : None ≡ Some (blocks, inodes) = sym is ∙ ap sizes_of same ∙ sizes_of-EncodesSizes f blocks inodes encodes in absurd (cc),
  )
  first_sound first rest (Some sizes) is = entries_sound first rest sizes.0 sizes.1 (entries_from in_bundle entry_of rest 2 0) (EncodesSizes-sizes_of first sizes is) refl

  sound : (lines : List Bytes) → SoundWhole lines (whole lines)
  sound [] = inl (refl, λ first rest blocks inodes e encodes. absurd (cc))
  sound (first ∷ rest) = first_sound first rest (sizes_of first) refl

  with_sizes : (first : Bytes) (rest : List Bytes) (blocks inodes : ℕ) → EncodesSizes first blocks inodes → whole (first ∷ rest) ≡ with_entries (blocks, inodes) (entries_from in_bundle entry_of rest 2 0)
  with_sizes first rest blocks inodes h = ap (λ o. after_sizes o (entries_from in_bundle entry_of rest 2 0)) (sizes_of-EncodesSizes first blocks inodes h)

  with_form : (first : Bytes) (rest : List Bytes) (m : Manifest) → EncodesSizes first m.blocks m.inodes → Lists in_bundle 2 rest m.listed → whole (first ∷ rest) ≡ if_sizes m.blocks m.inodes m.listed
  with_form first rest m h lists = with_sizes first rest m.blocks m.inodes h ∙ ap (with_entries (m.blocks, m.inodes)) (ok_again in_bundle 2 rest m.listed lists)

  of_text : (bytes : Bytes) (lines : List Bytes) → HasLines bytes lines → whole (lines_of bytes) ≡ whole lines
  of_text bytes lines h = ap whole (lines_from_relation bytes lines h)

  pub EncodesManifest-whole : (bytes : Bytes) (m : Manifest) → whole (lines_of bytes) ≡ Ok m → EncodesManifest in_bundle bytes m
  EncodesManifest-whole bytes m e =
      let s = subst (SoundWhole (lines_of bytes)) e (sound (lines_of bytes)) in
      ((s.0, s.1, subst (HasLines bytes) s.2 (HasLines-lines_of bytes), s.3, s.4), s.5)

  pub whole-EncodesManifest : (bytes : Bytes) (m : Manifest) → EncodesManifest in_bundle bytes m → whole (lines_of bytes) ≡ Ok m
  whole-EncodesManifest bytes m h =
      let form = h.0 in
      of_text bytes (form.0 ∷ form.1) form.2
      ∙ with_form form.0 form.1 m form.3 form.4
      ∙ cond-true (are_sizes m.blocks m.inodes) (Ok m) (Err Size) (are_sizes_again m.blocks m.inodes h.1)

  pub HasOtherSizes-whole : (bytes : Bytes) → whole (lines_of bytes) ≡ Err Size → HasOtherSizes in_bundle bytes
  HasOtherSizes-whole bytes e =
      let s = subst (SoundWhole (lines_of bytes)) e (sound (lines_of bytes)) in
      (s.0, (s.1, s.2, subst (HasLines bytes) s.3 (HasLines-lines_of bytes), s.4, s.5), s.6)

  pub whole-HasOtherSizes : (bytes : Bytes) → HasOtherSizes in_bundle bytes → whole (lines_of bytes) ≡ Err Size
  whole-HasOtherSizes bytes h =
      let m = h.0 in
      let form = h.1 in
      of_text bytes (form.0 ∷ form.1) form.2
      ∙ with_form form.0 form.1 m form.3 form.4
      ∙ cond-false (are_sizes m.blocks m.inodes) (Ok m) (Err Size) (false_from_ne_true (are_sizes m.blocks m.inodes) (λ is. h.2 (are_sizes_found m.blocks m.inodes is)))

  form_sound : (bytes : Bytes) (n : ℕ) → SoundWhole (lines_of bytes) (Err (Form n)) → IsFirstWithoutForm in_bundle bytes n
  form_sound bytes n (inl h) = inl (h.0, λ first rest blocks inodes lines encodes. h.1 first rest blocks inodes (lines_from_relation bytes (first ∷ rest) lines) encodes)
  form_sound bytes n (inr h) = inr (h.0, h.1, h.2, h.3, subst (HasLines bytes) h.4 (HasLines-lines_of bytes), h.5, h.6)

  pub IsFirstWithoutForm-whole : (bytes : Bytes) (n : ℕ) → whole (lines_of bytes) ≡ Err (Form n) → IsFirstWithoutForm in_bundle bytes n
  IsFirstWithoutForm-whole bytes n e = form_sound bytes n (subst (SoundWhole (lines_of bytes)) e (sound (lines_of bytes)))

  no_sizes : (bytes : Bytes) (lines : List Bytes) → lines_of bytes ≡ lines → HasNoSizes bytes → whole lines ≡ Err (Form 1)
  no_sizes bytes [] is none = refl
  no_sizes bytes (first ∷ rest) is none = by_sizes (sizes_of first) refl
    where
      by_sizes : (o : Option (ℕ × ℕ)) → sizes_of first ≡ o → after_sizes o (entries_from in_bundle entry_of rest 2 0) ≡ Err (Form 1)
      by_sizes None at = refl
      by_sizes (Some sizes) at = absurd (none first rest sizes.0 sizes.1 (subst (HasLines bytes) is (HasLines-lines_of bytes)) (EncodesSizes-sizes_of first sizes at))

  pub whole-IsFirstWithoutForm : (bytes : Bytes) (n : ℕ) → IsFirstWithoutForm in_bundle bytes n → whole (lines_of bytes) ≡ Err (Form n)
  whole-IsFirstWithoutForm bytes n (inl h) = no_sizes bytes (lines_of bytes) refl h.1 ∙ ap (λ k. Err (Form k)) (sym h.0)
  whole-IsFirstWithoutForm bytes n (inr h) =
      of_text bytes (h.0 ∷ h.1) h.4
      ∙ with_sizes h.0 h.1 h.2 h.3 h.5
      ∙ ap (with_entries (h.2, h.3)) (err_again in_bundle 2 h.1 n h.6)

  -- a text gives no other error
  only_these : (lines : List Bytes) (f : ManifestFault) → SoundWhole lines (Err f) → (f ≡ Size) ⊎ ((n : ℕ) × (f ≡ Form n))
  only_these lines Size s = inl refl
  only_these lines (Form n) s = inr (n, refl)
  only_these lines _ s = absurd s

  pub form_or_size : (bytes : Bytes) (f : ManifestFault) → whole (lines_of bytes) ≡ Err f → (f ≡ Size) ⊎ ((n : ℕ) × (f ≡ Form n))
  form_or_size bytes f e = only_these (lines_of bytes) f (subst (SoundWhole (lines_of bytes)) e (sound (lines_of bytes)))
