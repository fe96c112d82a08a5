-- A line parses as the instruction that it encodes, or gives the error that it contains.
use Rattle.std.proofs.Common.{◌≡◌, ◌≢◌, ℕ, ◌≤◌, ℤ, pos, negsuc, true, false, cond, ◌&&◌, nat_le, nat_lt, List, [], ◌∷◌, ◌++◌, Option, None, Some, Result, Ok, Err, ap, sym, ◌∙◌, refl, subst, arith, leb-true, le-leb}
use Rattle.std.specs.Prelude.{option_map, codes, bytes_eq}
use Rattle.std.proofs.lemmas.Bool.{cond_both, and_parts, and_from, cond-true, cond-false, ltb-true, lt-ltb, false_from_ne_true}
use Rattle.std.proofs.lemmas.Slice.Eq.{bytes_eq-Decides}
use Rattle.pv_model.specs.declared.call.Whence.{Whence}
use Rattle.pv_model.specs.declared.call.Whence.TheVariants.{Set as Start}
use Rattle.pv_model.specs.declared.fault.What.{What}
use Rattle.pv_model.specs.declared.fault.What.TheVariants.{Word, Argument as BadArgument, Target, TooMany}
use Rattle.pv_model.specs.declared.instruction.Instruction.{Instruction}
use Rattle.pv_model.specs.declared.instruction.Instruction.TheVariants.{Set, Add, Put, Peek, Jump, JumpIfZero, JumpIfNotZero, JumpIfNegative, Exit, GetPid, GetPpid, Fork, Wait, Pledge, Unveil, Execve, Open, OpenAt, Close, Dup, Dup2, Read, Write, Lseek, Fstat, Ftruncate, Getdents, Fchdir, Chdir, Stat, Lstat, Readlink, Mkdir, Symlink, Link, Unlink, Rmdir, Rename}
use Rattle.pv_model.specs.declared.instruction.Operand.{Operand}
use Rattle.pv_model.specs.declared.instruction.Operand.TheVariants.{Number}
use Rattle.pv_model.specs.declared.instruction.Origin.{Origin}
use Rattle.pv_model.specs.declared.instruction.Origin.TheVariants.{WorkingDirectory}
use Rattle.pv_model.specs.declared.open_flags.Mode.TheVariants.{Read as ForReading}
use Rattle.pv_model.specs.declared.open_flags.OpenFlags.{OpenFlags}
use Rattle.pv_model.specs.Machine.{Bytes, Parsed, text_at, one_argument, two_arguments, instruction_of}
use Rattle.pv_model.specs.Grammar.Arguments.{text_or_null_at, operand_of, register_of, parsed_number, whence_of, origin_of, parsed_flags, operand_at, register_at, number_at, whence_at, origin_at, flags_at, no_argument, three_arguments}
use Rattle.pv_model.specs.Grammar.Instructions.{or_argument, buffer_place, line_within, or_target, jump_by, jump_if_by, peek_by, on_registers, on_processes, on_descriptors, on_paths, instruction_by}
use Rattle.pv_model.specs.Grammar.Lines.{word_of, after_word}
use Rattle.pv_model.specs.Grammar.Forms.{Argument, operand, register, number, line, text, text_or_null, flags, whence, origin, Form, form_of, EncodesArguments, EncodesLine, IsAfterWord, BeginsWith, Jumping, always, if_zero, if_not_zero, if_negative, jump_form, IsLineOf, HasNoName, JumpsOut, IsInvalid}
use Rattle.pv_model.specs.Grammar.Encoding.{EncodesOperand, EncodesRegister, EncodesNumber, EncodesWhence, EncodesOrigin, EncodesFlags}
use Rattle.pv_laws_grammar.proofs.ArgumentLists.{ReadsAs, arguments_after, none_found, none_again, one_found, one_again, two_found, two_again, three_found, three_again}
use Rattle.pv_laws_grammar.proofs.FirstWord.{no_space, word_split, after_word-ends, word_of-word, after_word-word}
use Rattle.pv_laws_grammar.proofs.FlagWords.{reads_flags}
use Rattle.pv_laws_grammar.proofs.SingleWords.{reads_number, reads_register, reads_operand, reads_whence, reads_origin}
use Rattle.pv_laws_grammar.proofs.QuotedTexts.{reads_text, reads_text_or_null}
use Rattle.pv_laws_grammar.proofs.ParserCorrectness.{reads_word}

-- the parser of one kind of argument, in a program with a number of lines
record Shape (lines : ℕ) (A : Type 0) : Type 0 where
  at : Bytes → Parsed A
  sort : A → Argument
  reads : ReadsAs lines at sort

abbrev operand_argument : {lines : ℕ} → Shape lines Operand
operand_argument = record { at = operand_at; sort = operand; reads = reads_word operand_of EncodesOperand reads_operand }

abbrev register_argument : {lines : ℕ} → Shape lines ℕ
register_argument = record { at = register_at; sort = register; reads = reads_word register_of EncodesRegister reads_register }

abbrev number_argument : {lines : ℕ} → Shape lines ℤ
number_argument = record { at = number_at; sort = number; reads = reads_word parsed_number EncodesNumber reads_number }

abbrev text_argument : {lines : ℕ} → Shape lines Bytes
text_argument = record { at = text_at; sort = text; reads = reads_text }

abbrev text_or_null_argument : {lines : ℕ} → Shape lines (Option Bytes)
text_or_null_argument = record { at = text_or_null_at; sort = text_or_null; reads = reads_text_or_null }

abbrev flags_argument : {lines : ℕ} → Shape lines OpenFlags
flags_argument = record { at = flags_at; sort = flags; reads = reads_word parsed_flags EncodesFlags reads_flags }

abbrev whence_argument : {lines : ℕ} → Shape lines Whence
whence_argument = record { at = whence_at; sort = whence; reads = reads_word whence_of EncodesWhence reads_whence }

abbrev origin_argument : {lines : ℕ} → Shape lines Origin
origin_argument = record { at = origin_at; sort = origin; reads = reads_word origin_of EncodesOrigin reads_origin }

abbrev no_flags : OpenFlags
no_flags = record { mode = ForReading; append = false; create = false; truncate = false; exclusive = false; no_follow = false; directory = false; close_on_exec = false }

or_argument_no_word : (o : Option Instruction) → or_argument o ≢ Err Word
or_argument_no_word None e = absurd (cc)
or_argument_no_word (Some i) e = absurd (cc)

or_target_no_word : (jump : ℕ → Instruction) (o : Option ℕ) → or_target jump o ≢ Err Word
or_target_no_word jump None e = absurd (cc)
or_target_no_word jump (Some n) e = absurd (cc)

within_lines : (lines n : ℕ) → 1 ≤ n → n ≤ lines → line_within lines (pos n) ≡ Some n
within_lines lines n low high = cond-true (nat_le 1 n && nat_le n lines) (Some n) None (and_from (nat_le 1 n) (nat_le n lines) (le-leb 1 n low) (le-leb n lines high))

outside_lines : (lines : ℕ) (z : ℤ) → ¬ (IsLineOf lines z) → line_within lines z ≡ None
outside_lines lines (negsuc n) out = refl
outside_lines lines (pos n) out = cond-false (nat_le 1 n && nat_le n lines) (Some n) None
    (false_from_ne_true (nat_le 1 n && nat_le n lines) (λ is.
    let parts = and_parts (nat_le 1 n) (nat_le n lines) is in
    out (n, leb-true 1 n parts.0, leb-true n lines parts.1, refl)))

-- the target of a jump is the number of a line of the program
line_at_one : (lines n : ℕ) (rest : Bytes) → 1 ≤ n → n ≤ lines → EncodesArguments lines (number (pos n) ∷ []) rest → EncodesArguments lines (line n ∷ []) rest
line_at_one lines n rest low high h = (h.0, h.1, (low, high, h.2), h.3, h.4)

number_at_one : (lines n : ℕ) (rest : Bytes) → EncodesArguments lines (line n ∷ []) rest → EncodesArguments lines (number (pos n) ∷ []) rest
number_at_one lines n rest h = (h.0, h.1, h.2.2, h.3, h.4)

line_at_two : (lines r n : ℕ) (rest : Bytes) → 1 ≤ n → n ≤ lines → EncodesArguments lines (register r ∷ number (pos n) ∷ []) rest → EncodesArguments lines (register r ∷ line n ∷ []) rest
line_at_two lines r n rest low high h = (h.0, h.1, h.2, line_at_one lines n h.1 low high h.3, h.4)

number_at_two : (lines r n : ℕ) (rest : Bytes) → EncodesArguments lines (register r ∷ line n ∷ []) rest → EncodesArguments lines (register r ∷ number (pos n) ∷ []) rest
number_at_two lines r n rest h = (h.0, h.1, h.2, number_at_one lines n h.1 h.3, h.4)

-- ---- parsed instructions

module _ (lines : ℕ) (word rest : Bytes) where
  abbrev Sound : Result Instruction What → Type 0
  Sound (Ok i) = ((form_of i).0 ≡ word) × EncodesArguments lines (form_of i).1 rest
  Sound (Err Word) = Unit {0}
  Sound (Err Target) = (j : Jumping) × (n : ℤ) × ¬ (IsLineOf lines n) × ((jump_form j n).0 ≡ word) × EncodesArguments lines (jump_form j n).1 rest
  Sound (Err BadArgument) = (i : Instruction) × ((form_of i).0 ≡ word)
  Sound (Err TooMany) = ⊥

  step : (name : Bytes) (r other : Result Instruction What) → (name ≡ word → Sound r) → Sound other → Sound (cond (bytes_eq word name) r other)
  step name r other here there = cond_both (bytes_eq word name) r other Sound (λ is. here (sym ((bytes_eq-Decides word name).0 is))) (λ is. there)

  made : {X : Type 0} (f : X → Instruction) (arguments : X → List Argument) (name : Bytes) (x : X) → ((y : X) → form_of (f y) ≡ (name, arguments y)) → (o : Option X) → ((y : X) → o ≡ Some y → EncodesArguments lines (arguments y) rest) → name ≡ word → Sound (or_argument (option_map f o))
  made f arguments name x form None encodes is = (f x, ap (λ (g : Form). g.0) (form x) ∙ is)
  made f arguments name x form (Some y) encodes is = (ap (λ (g : Form). g.0) (form y) ∙ is, subst (λ (g : Form). EncodesArguments lines g.1 rest) (sym (form y)) (encodes y refl))

  of_none : (name : Bytes) (i : Instruction) → form_of i ≡ (name, []) → (other : Result Instruction What) → Sound other → Sound (cond (bytes_eq word name) (or_argument (option_map (λ _. i) (no_argument rest))) other)
  of_none name i form other h = step name (or_argument (option_map (λ _. i) (no_argument rest))) other
      (made (λ (_ : Unit {0}). i) (λ _. []) name tt (λ _. form) (no_argument rest) (none_found lines rest)) h

  of_one : {A : Type 0} (name : Bytes) (s : Shape lines A) (f : A → Instruction) → ((a : A) → form_of (f a) ≡ (name, s.sort a ∷ [])) → A
      → (other : Result Instruction What) → Sound other → Sound (cond (bytes_eq word name) (or_argument (option_map f (one_argument s.at rest))) other)
  of_one name s f form a other h = step name (or_argument (option_map f (one_argument s.at rest))) other
      (made f (λ x. s.sort x ∷ []) name a form (one_argument s.at rest) (one_found lines s.at s.sort s.reads rest)) h

  of_two : {A B : Type 0} (name : Bytes) (s : Shape lines A) (t : Shape lines B) (f : A → B → Instruction) → ((a : A) (b : B) → form_of (f a b) ≡ (name, s.sort a ∷ t.sort b ∷ [])) → A → B
      → (other : Result Instruction What) → Sound other → Sound (cond (bytes_eq word name) (or_argument (option_map (λ (p : A × B). f p.0 p.1) (two_arguments s.at t.at rest))) other)
  of_two {A} {B} name s t f form a b other h = step name (or_argument (option_map (λ (p : A × B). f p.0 p.1) (two_arguments s.at t.at rest))) other
      (made (λ (p : A × B). f p.0 p.1) (λ p. s.sort p.0 ∷ t.sort p.1 ∷ []) name (a, b) (λ p. form p.0 p.1) (two_arguments s.at t.at rest) (two_found lines s.at s.sort s.reads t.at t.sort t.reads rest)) h

  of_three : {A B C : Type 0} (name : Bytes) (s : Shape lines A) (t : Shape lines B) (u : Shape lines C) (f : A → B → C → Instruction)
      → ((a : A) (b : B) (c : C) → form_of (f a b c) ≡ (name, s.sort a ∷ t.sort b ∷ u.sort c ∷ [])) → A → B → C
      → (other : Result Instruction What) → Sound other → Sound (cond (bytes_eq word name) (or_argument (option_map (λ (p : A × B × C). f p.0 p.1 p.2) (three_arguments s.at t.at u.at rest))) other)
  of_three {A} {B} {C} name s t u f form a b c other h = step name (or_argument (option_map (λ (p : A × B × C). f p.0 p.1 p.2) (three_arguments s.at t.at u.at rest))) other
      (made (λ (p : A × B × C). f p.0 p.1 p.2) (λ p. s.sort p.0 ∷ t.sort p.1 ∷ u.sort p.2 ∷ []) name (a, b, c) (λ p. form p.0 p.1 p.2) (three_arguments s.at t.at u.at rest)
      (three_found lines s.at s.sort s.reads t.at t.sort t.reads u.at u.sort u.reads rest)) h

  peek_place : (r : ℕ) (z : ℤ) → EncodesArguments lines (register r ∷ number z ∷ []) rest → codes "peek" ≡ word → Sound (or_argument (option_map (Peek r) (buffer_place z)))
  peek_place r (negsuc n) h is = (Peek 0 0, is)
  peek_place r (pos n) h is = cond_both (nat_lt n 4096) (Some n) None (λ o. Sound (or_argument (option_map (Peek r) o)))
      (λ low. (is, (h.0, h.1, h.2, (h.3.0, h.3.1, (ltb-true n 4096 low, h.3.2), h.3.3, h.3.4), h.4)))
      (λ high. (Peek 0 0, is))

  peek_sound : (o : Option (ℕ × ℤ)) → ((p : ℕ × ℤ) → o ≡ Some p → EncodesArguments lines (register p.0 ∷ number p.1 ∷ []) rest) → codes "peek" ≡ word → Sound (or_argument (peek_by o))
  peek_sound None encodes is = (Peek 0 0, is)
  peek_sound (Some p) encodes is = peek_place p.0 p.1 (encodes p refl) is

  of_peek : (other : Result Instruction What) → Sound other → Sound (cond (bytes_eq word (codes "peek")) (or_argument (peek_by (two_arguments register_at number_at rest))) other)
  of_peek other h = step (codes "peek") (or_argument (peek_by (two_arguments register_at number_at rest))) other
      (peek_sound (two_arguments register_at number_at rest) (two_found lines register_at register (register_argument {lines = lines}).reads number_at number (number_argument {lines = lines}).reads rest)) h

  target_sound : (j : Jumping) (jump : ℕ → Instruction) (z : ℤ) → (jump_form j z).0 ≡ word → EncodesArguments lines (jump_form j z).1 rest
      → ((n : ℕ) → 1 ≤ n → n ≤ lines → z ≡ pos n → Sound (Ok (jump n))) → Sound (or_target jump (line_within lines z))
  target_sound j jump (negsuc n) name h good = (j, negsuc n, (λ l. absurd (let e : negsuc n ≡ pos l.0 = l.3 in cc)), name, h)
  target_sound j jump (pos n) name h good = cond_both (nat_le 1 n && nat_le n lines) (Some n) None (λ o. Sound (or_target jump o))
      (λ is.
      let parts = and_parts (nat_le 1 n) (nat_le n lines) is in
      good n (leb-true 1 n parts.0) (leb-true n lines parts.1) refl)
      (λ is. (
        j,
        pos n,
        (λ l. absurd (
            let e : pos n ≡ pos l.0 = l.3 in
            let same : n ≡ l.0 = cc in
            let low : 1 ≤ n = omega arith in
            let high : n ≤ lines = omega arith in
            let t : (nat_le 1 n && nat_le n lines) ≡ true = and_from (nat_le 1 n) (nat_le n lines) (le-leb 1 n low) (le-leb n lines high) in cc)),
        name,
        h,
      ))

  jump_sound : (o : Option ℤ) → ((z : ℤ) → o ≡ Some z → EncodesArguments lines (number z ∷ []) rest) → codes "jmp" ≡ word → Sound (jump_by lines o)
  jump_sound None encodes is = (Jump 0, is)
  jump_sound (Some z) encodes is =
      let h = encodes z refl in
      target_sound always Jump z is h (λ n low high e. (is, line_at_one lines n rest low high (subst (λ y. EncodesArguments lines (number y ∷ []) rest) e h)))

  of_jump : (other : Result Instruction What) → Sound other → Sound (cond (bytes_eq word (codes "jmp")) (jump_by lines (one_argument number_at rest)) other)
  of_jump other h = step (codes "jmp") (jump_by lines (one_argument number_at rest)) other
      (jump_sound (one_argument number_at rest) (one_found lines number_at number (number_argument {lines = lines}).reads rest)) h

  jump_if_sound : (name : Bytes) (jump : ℕ → ℕ → Instruction) (j : ℕ → Jumping) → ((r n : ℕ) → form_of (jump r n) ≡ (name, register r ∷ line n ∷ [])) → ((r : ℕ) (z : ℤ) → jump_form (j r) z ≡ (name, register r ∷ number z ∷ []))
      → (o : Option (ℕ × ℤ)) → ((p : ℕ × ℤ) → o ≡ Some p → EncodesArguments lines (register p.0 ∷ number p.1 ∷ []) rest) → name ≡ word → Sound (jump_if_by lines jump o)
  jump_if_sound name jump j form jform None encodes is = (jump 0 0, ap (λ (g : Form). g.0) (form 0 0) ∙ is)
  jump_if_sound name jump j form jform (Some p) encodes is =
      let h = encodes p refl in
      target_sound (j p.0) (jump p.0) p.1 (ap (λ (g : Form). g.0) (jform p.0 p.1) ∙ is) (subst (λ (g : Form). EncodesArguments lines g.1 rest) (sym (jform p.0 p.1)) h)
      (λ n low high e. (
        ap (λ (g : Form). g.0) (form p.0 n) ∙ is,
        subst (λ (g : Form). EncodesArguments lines g.1 rest) (sym (form p.0 n)) (line_at_two lines p.0 n rest low high (subst (λ y. EncodesArguments lines (register p.0 ∷ number y ∷ []) rest) e h)),
      ))

  of_jump_if : (name : Bytes) (jump : ℕ → ℕ → Instruction) (j : ℕ → Jumping) → ((r n : ℕ) → form_of (jump r n) ≡ (name, register r ∷ line n ∷ [])) → ((r : ℕ) (z : ℤ) → jump_form (j r) z ≡ (name, register r ∷ number z ∷ []))
      → (other : Result Instruction What) → Sound other → Sound (cond (bytes_eq word name) (jump_if_by lines jump (two_arguments register_at number_at rest)) other)
  of_jump_if name jump j form jform other h = step name (jump_if_by lines jump (two_arguments register_at number_at rest)) other
      (jump_if_sound name jump j form jform (two_arguments register_at number_at rest) (two_found lines register_at register (register_argument {lines = lines}).reads number_at number (number_argument {lines = lines}).reads rest)) h

  sound_registers : (other : Result Instruction What) → Sound other → Sound (on_registers lines word rest other)
  sound_registers other h =
      of_two (codes "set") register_argument number_argument Set (λ a b. refl) 0 (pos 0) _
      (of_two (codes "add") register_argument number_argument Add (λ a b. refl) 0 (pos 0) _
      (of_one (codes "put") text_argument Put (λ a. refl) [] _
      (of_peek _
      (of_jump _
      (of_jump_if (codes "jz") JumpIfZero if_zero (λ r n. refl) (λ r n. refl) _
      (of_jump_if (codes "jnz") JumpIfNotZero if_not_zero (λ r n. refl) (λ r n. refl) _
      (of_jump_if (codes "jneg") JumpIfNegative if_negative (λ r n. refl) (λ r n. refl) _
      h)))))))

  sound_processes : (other : Result Instruction What) → Sound other → Sound (on_processes word rest other)
  sound_processes other h =
      of_none (codes "fork") Fork refl _
      (of_none (codes "wait") Wait refl _
      (of_none (codes "getpid") GetPid refl _
      (of_none (codes "getppid") GetPpid refl _
      (of_one (codes "exit") operand_argument Exit (λ a. refl) (Number (pos 0)) _
      (of_two (codes "pledge") text_or_null_argument text_or_null_argument Pledge (λ a b. refl) None None _
      (of_two (codes "unveil") text_or_null_argument text_or_null_argument Unveil (λ a b. refl) None None _
      (of_one (codes "execve") text_argument Execve (λ a. refl) [] _
      h)))))))

  sound_descriptors : (other : Result Instruction What) → Sound other → Sound (on_descriptors word rest other)
  sound_descriptors other h =
      of_two (codes "open") text_argument flags_argument Open (λ a b. refl) [] no_flags _
      (of_three (codes "openat") origin_argument text_argument flags_argument OpenAt (λ a b c. refl) WorkingDirectory [] no_flags _
      (of_one (codes "close") operand_argument Close (λ a. refl) (Number (pos 0)) _
      (of_one (codes "dup") operand_argument Dup (λ a. refl) (Number (pos 0)) _
      (of_two (codes "dup2") operand_argument operand_argument Dup2 (λ a b. refl) (Number (pos 0)) (Number (pos 0)) _
      (of_two (codes "read") operand_argument operand_argument Read (λ a b. refl) (Number (pos 0)) (Number (pos 0)) _
      (of_two (codes "write") operand_argument operand_argument Write (λ a b. refl) (Number (pos 0)) (Number (pos 0)) _
      (of_three (codes "lseek") operand_argument operand_argument whence_argument Lseek (λ a b c. refl) (Number (pos 0)) (Number (pos 0)) Start _
      (of_one (codes "fstat") operand_argument Fstat (λ a. refl) (Number (pos 0)) _
      (of_two (codes "ftruncate") operand_argument operand_argument Ftruncate (λ a b. refl) (Number (pos 0)) (Number (pos 0)) _
      (of_one (codes "getdents") operand_argument Getdents (λ a. refl) (Number (pos 0)) _
      (of_one (codes "fchdir") operand_argument Fchdir (λ a. refl) (Number (pos 0)) _
      h)))))))))))

  sound_paths : (other : Result Instruction What) → Sound other → Sound (on_paths word rest other)
  sound_paths other h =
      of_one (codes "chdir") text_argument Chdir (λ a. refl) [] _
      (of_one (codes "stat") text_argument Stat (λ a. refl) [] _
      (of_one (codes "lstat") text_argument Lstat (λ a. refl) [] _
      (of_one (codes "readlink") text_argument Readlink (λ a. refl) [] _
      (of_one (codes "unlink") text_argument Unlink (λ a. refl) [] _
      (of_one (codes "mkdir") text_argument Mkdir (λ a. refl) [] _
      (of_one (codes "rmdir") text_argument Rmdir (λ a. refl) [] _
      (of_two (codes "rename") text_argument text_argument Rename (λ a b. refl) [] [] _
      (of_two (codes "link") text_argument text_argument Link (λ a b. refl) [] [] _
      (of_two (codes "symlink") text_argument text_argument Symlink (λ a b. refl) [] [] _
      h)))))))))

  sound : Sound (instruction_by lines word rest)
  unfolding instruction_by
  sound = sound_registers _ (sound_processes _ (sound_descriptors _ (sound_paths (Err Word) tt)))

-- ---- encoded instructions

-- the parser finds an instruction at its name if it is encoded, and otherwise recognizes at least the name
abbrev Known : ℕ → Instruction → Bytes → Result Instruction What → Type 0
Known lines i rest r = (EncodesArguments lines (form_of i).1 rest → r ≡ Ok i) × (r ≢ Err Word)

module _ (lines : ℕ) (rest : Bytes) where
  known_none : (i : Instruction) → (form_of i).1 ≡ [] → Known lines i rest (or_argument (option_map (λ _. i) (no_argument rest)))
  known_none i form = (
    (λ h. ap (λ (o : Option (Unit {0})). or_argument (option_map (λ _. i) o)) (none_again lines rest (subst (λ g. EncodesArguments lines g rest) form h))),
    or_argument_no_word (option_map (λ _. i) (no_argument rest)),
  )

  known_one : {A : Type 0} (s : Shape lines A) (f : A → Instruction) → ((a : A) → (form_of (f a)).1 ≡ s.sort a ∷ []) → (a : A) → Known lines (f a) rest (or_argument (option_map f (one_argument s.at rest)))
  known_one s f form a = (
    (λ h. ap (λ o. or_argument (option_map f o)) (one_again lines s.at s.sort s.reads a rest (subst (λ g. EncodesArguments lines g rest) (form a) h))),
    or_argument_no_word (option_map f (one_argument s.at rest)),
  )

  known_two : {A B : Type 0} (s : Shape lines A) (t : Shape lines B) (f : A → B → Instruction) → ((a : A) (b : B) → (form_of (f a b)).1 ≡ s.sort a ∷ t.sort b ∷ []) → (a : A) (b : B)
      → Known lines (f a b) rest (or_argument (option_map (λ (p : A × B). f p.0 p.1) (two_arguments s.at t.at rest)))
  known_two {A} {B} s t f form a b = (
    (λ h. ap (λ o. or_argument (option_map (λ (p : A × B). f p.0 p.1) o)) (two_again lines s.at s.sort s.reads t.at t.sort t.reads a b rest (subst (λ g. EncodesArguments lines g rest) (form a b) h))),
    or_argument_no_word (option_map (λ (p : A × B). f p.0 p.1) (two_arguments s.at t.at rest)),
  )

  known_three : {A B C : Type 0} (s : Shape lines A) (t : Shape lines B) (u : Shape lines C) (f : A → B → C → Instruction) → ((a : A) (b : B) (c : C) → (form_of (f a b c)).1 ≡ s.sort a ∷ t.sort b ∷ u.sort c ∷ []) → (a : A) (b : B) (c : C)
      → Known lines (f a b c) rest (or_argument (option_map (λ (p : A × B × C). f p.0 p.1 p.2) (three_arguments s.at t.at u.at rest)))
  known_three {A} {B} {C} s t u f form a b c = (
    (λ h. ap (λ o. or_argument (option_map (λ (p : A × B × C). f p.0 p.1 p.2) o)) (three_again lines s.at s.sort s.reads t.at t.sort t.reads u.at u.sort u.reads a b c rest (subst (λ g. EncodesArguments lines g rest) (form a b c) h))),
    or_argument_no_word (option_map (λ (p : A × B × C). f p.0 p.1 p.2) (three_arguments s.at t.at u.at rest)),
  )

  two_numbers : (r : ℕ) (z : ℤ) → EncodesArguments lines (register r ∷ number z ∷ []) rest → two_arguments register_at number_at rest ≡ Some (r, z)
  two_numbers r z h = two_again lines register_at register (register_argument {lines = lines}).reads number_at number (number_argument {lines = lines}).reads r z rest h

  known_peek : (r k : ℕ) → Known lines (Peek r k) rest (or_argument (peek_by (two_arguments register_at number_at rest)))
  known_peek r k = (
    (λ h.
        ap (λ o. or_argument (peek_by o)) (two_numbers r (pos k) (h.0, h.1, h.2, (h.3.0, h.3.1, h.3.2.1, h.3.3, h.3.4), h.4))
        ∙ ap (λ o. or_argument (option_map (Peek r) o)) (cond-true (nat_lt k 4096) (Some k) None (lt-ltb k 4096 h.3.2.0))),
    or_argument_no_word (peek_by (two_arguments register_at number_at rest)),
  )

  jump_no_word : (o : Option ℤ) → jump_by lines o ≢ Err Word
  jump_no_word None e = absurd (cc)
  jump_no_word (Some z) e = or_target_no_word Jump (line_within lines z) e

  jump_if_no_word : (jump : ℕ → ℕ → Instruction) (o : Option (ℕ × ℤ)) → jump_if_by lines jump o ≢ Err Word
  jump_if_no_word jump None e = absurd (cc)
  jump_if_no_word jump (Some p) e = or_target_no_word (jump p.0) (line_within lines p.1) e

  one_number : (z : ℤ) → EncodesArguments lines (number z ∷ []) rest → one_argument number_at rest ≡ Some z
  one_number z h = one_again lines number_at number (number_argument {lines = lines}).reads z rest h

  known_jump : (n : ℕ) → Known lines (Jump n) rest (jump_by lines (one_argument number_at rest))
  known_jump n = (
    (λ h. ap (jump_by lines) (one_number (pos n) (number_at_one lines n rest h)) ∙ ap (or_target Jump) (within_lines lines n h.2.0 h.2.1)),
    jump_no_word (one_argument number_at rest),
  )

  known_jump_if : (jump : ℕ → ℕ → Instruction) → ((r n : ℕ) → (form_of (jump r n)).1 ≡ register r ∷ line n ∷ []) → (r n : ℕ) → Known lines (jump r n) rest (jump_if_by lines jump (two_arguments register_at number_at rest))
  known_jump_if jump form r n = (
    (λ k.
        let h : EncodesArguments lines (register r ∷ line n ∷ []) rest = subst (λ g. EncodesArguments lines g rest) (form r n) k in
        ap (jump_if_by lines jump) (two_numbers r (pos n) (number_at_two lines r n rest h)) ∙ ap (or_target (jump r)) (within_lines lines n h.3.2.0 h.3.2.1)),
    jump_if_no_word jump (two_arguments register_at number_at rest),
  )

module _ (lines : ℕ) where
  known : (i : Instruction) (rest : Bytes) → Known lines i rest (instruction_by lines (form_of i).0 rest)
  unfolding instruction_by
  known (Set a b) rest = known_two lines rest register_argument number_argument Set (λ a b. refl) a b
  known (Add a b) rest = known_two lines rest register_argument number_argument Add (λ a b. refl) a b
  known (Put a) rest = known_one lines rest text_argument Put (λ a. refl) a
  known (Peek r k) rest = known_peek lines rest r k
  known (Jump n) rest = known_jump lines rest n
  known (JumpIfZero r n) rest = known_jump_if lines rest JumpIfZero (λ q m. refl) r n
  known (JumpIfNotZero r n) rest = known_jump_if lines rest JumpIfNotZero (λ q m. refl) r n
  known (JumpIfNegative r n) rest = known_jump_if lines rest JumpIfNegative (λ q m. refl) r n
  known Fork rest = known_none lines rest Fork refl
  known Wait rest = known_none lines rest Wait refl
  known GetPid rest = known_none lines rest GetPid refl
  known GetPpid rest = known_none lines rest GetPpid refl
  known (Exit a) rest = known_one lines rest operand_argument Exit (λ a. refl) a
  known (Pledge a b) rest = known_two lines rest text_or_null_argument text_or_null_argument Pledge (λ a b. refl) a b
  known (Unveil a b) rest = known_two lines rest text_or_null_argument text_or_null_argument Unveil (λ a b. refl) a b
  known (Execve a) rest = known_one lines rest text_argument Execve (λ a. refl) a
  known (Open a b) rest = known_two lines rest text_argument flags_argument Open (λ a b. refl) a b
  known (OpenAt a b c) rest = known_three lines rest origin_argument text_argument flags_argument OpenAt (λ a b c. refl) a b c
  known (Close a) rest = known_one lines rest operand_argument Close (λ a. refl) a
  known (Dup a) rest = known_one lines rest operand_argument Dup (λ a. refl) a
  known (Dup2 a b) rest = known_two lines rest operand_argument operand_argument Dup2 (λ a b. refl) a b
  known (Read a b) rest = known_two lines rest operand_argument operand_argument Read (λ a b. refl) a b
  known (Write a b) rest = known_two lines rest operand_argument operand_argument Write (λ a b. refl) a b
  known (Lseek a b c) rest = known_three lines rest operand_argument operand_argument whence_argument Lseek (λ a b c. refl) a b c
  known (Fstat a) rest = known_one lines rest operand_argument Fstat (λ a. refl) a
  known (Ftruncate a b) rest = known_two lines rest operand_argument operand_argument Ftruncate (λ a b. refl) a b
  known (Getdents a) rest = known_one lines rest operand_argument Getdents (λ a. refl) a
  known (Fchdir a) rest = known_one lines rest operand_argument Fchdir (λ a. refl) a
  known (Chdir a) rest = known_one lines rest text_argument Chdir (λ a. refl) a
  known (Stat a) rest = known_one lines rest text_argument Stat (λ a. refl) a
  known (Lstat a) rest = known_one lines rest text_argument Lstat (λ a. refl) a
  known (Readlink a) rest = known_one lines rest text_argument Readlink (λ a. refl) a
  known (Unlink a) rest = known_one lines rest text_argument Unlink (λ a. refl) a
  known (Mkdir a) rest = known_one lines rest text_argument Mkdir (λ a. refl) a
  known (Rmdir a) rest = known_one lines rest text_argument Rmdir (λ a. refl) a
  known (Rename a b) rest = known_two lines rest text_argument text_argument Rename (λ a b. refl) a b
  known (Link a b) rest = known_two lines rest text_argument text_argument Link (λ a b. refl) a b
  known (Symlink a b) rest = known_two lines rest text_argument text_argument Symlink (λ a b. refl) a b

  -- a jump past the lines of the program
  out_found : (j : Jumping) (z : ℤ) (rest : Bytes) → ¬ (IsLineOf lines z) → EncodesArguments lines (jump_form j z).1 rest → instruction_by lines (jump_form j z).0 rest ≡ Err Target
  unfolding instruction_by
  out_found always z rest out h = ap (jump_by lines) (one_number lines rest z h) ∙ ap (or_target Jump) (outside_lines lines z out)
  out_found (if_zero r) z rest out h = ap (jump_if_by lines JumpIfZero) (two_numbers lines rest r z h) ∙ ap (or_target (JumpIfZero r)) (outside_lines lines z out)
  out_found (if_not_zero r) z rest out h = ap (jump_if_by lines JumpIfNotZero) (two_numbers lines rest r z h) ∙ ap (or_target (JumpIfNotZero r)) (outside_lines lines z out)
  out_found (if_negative r) z rest out h = ap (jump_if_by lines JumpIfNegative) (two_numbers lines rest r z h) ∙ ap (or_target (JumpIfNegative r)) (outside_lines lines z out)

-- ---- lines

no_space_name : (i : Instruction) → no_space (form_of i).0 ≡ true
no_space_name (Set r n) = refl
no_space_name _ = refl

no_space_jump : (j : Jumping) (z : ℤ) → no_space (jump_form j z).0 ≡ true
no_space_jump always z = refl
no_space_jump _ z = refl

jump_of : (j : Jumping) (z : ℤ) → (i : Instruction) × ((form_of i).0 ≡ (jump_form j z).0)
jump_of always z = (Jump 0, refl)
jump_of (if_zero r) z = (JumpIfZero 0 0, refl)
jump_of (if_not_zero r) z = (JumpIfNotZero 0 0, refl)
jump_of (if_negative r) z = (JumpIfNegative 0 0, refl)

module _ (lines : ℕ) where
  at_word : (name rest bytes : Bytes) → no_space name ≡ true → IsAfterWord rest → bytes ≡ name ++ rest → instruction_of lines bytes ≡ instruction_by lines name rest
  at_word name rest bytes clear ends is =
      ap (instruction_of lines) is
      ∙ ap (λ w. instruction_by lines w (after_word (name ++ rest))) (word_of-word name rest clear ends)
      ∙ ap (instruction_by lines name) (after_word-word name rest clear ends)

  pub instruction_of-EncodesLine : (bytes : Bytes) (i : Instruction) → EncodesLine lines bytes i → instruction_of lines bytes ≡ Ok i
  instruction_of-EncodesLine bytes i h =
      at_word (form_of i).0 h.0 bytes (no_space_name i) (arguments_after lines (form_of i).1 h.0 h.1) h.2 ∙ (known lines i h.0).0 h.1

  split_at : (name bytes : Bytes) → name ≡ word_of bytes → bytes ≡ name ++ after_word bytes
  split_at name bytes is = word_split bytes ∙ ap (λ w. w ++ after_word bytes) (sym is)

  pub EncodesLine-instruction_of : (bytes : Bytes) (i : Instruction) → instruction_of lines bytes ≡ Ok i → EncodesLine lines bytes i
  EncodesLine-instruction_of bytes i e =
      let s = subst (Sound lines (word_of bytes) (after_word bytes)) e (sound lines (word_of bytes) (after_word bytes)) in
      (after_word bytes, s.1, split_at (form_of i).0 bytes s.0)

  pub JumpsOut-instruction_of : (bytes : Bytes) → instruction_of lines bytes ≡ Err Target → JumpsOut lines bytes
  JumpsOut-instruction_of bytes e =
      let s = subst (Sound lines (word_of bytes) (after_word bytes)) e (sound lines (word_of bytes) (after_word bytes)) in
      (s.0, s.1, s.2, (after_word bytes, s.4, split_at (jump_form s.0 s.1).0 bytes s.3))

  pub instruction_of-JumpsOut : (bytes : Bytes) → JumpsOut lines bytes → instruction_of lines bytes ≡ Err Target
  instruction_of-JumpsOut bytes h =
      let form = h.3 in
      at_word (jump_form h.0 h.1).0 form.0 bytes (no_space_jump h.0 h.1) (arguments_after lines (jump_form h.0 h.1).1 form.0 form.1) form.2 ∙ out_found lines h.0 h.1 form.0 h.2 form.1

  -- a known name is not a `Word` error
  named_no_word : (bytes : Bytes) (i : Instruction) → BeginsWith (form_of i).0 bytes → instruction_of lines bytes ≢ Err Word
  named_no_word bytes i h e = (known lines i h.0).1 (sym (at_word (form_of i).0 h.0 bytes (no_space_name i) h.1 h.2) ∙ e)

  pub HasNoName-instruction_of : (bytes : Bytes) → instruction_of lines bytes ≡ Err Word → HasNoName bytes
  HasNoName-instruction_of bytes e i h = named_no_word bytes i h e

  begins : (bytes name : Bytes) → name ≡ word_of bytes → BeginsWith name bytes
  begins bytes name is = (after_word bytes, after_word-ends bytes, split_at name bytes is)

  no_name_is_word : (bytes : Bytes) → HasNoName bytes → (r : Result Instruction What) → Sound lines (word_of bytes) (after_word bytes) r → r ≡ Err Word
  no_name_is_word bytes none (Ok i) s = absurd (none i (begins bytes (form_of i).0 s.0))
  no_name_is_word bytes none (Err Word) s = refl
  no_name_is_word bytes none (Err BadArgument) s = absurd (none s.0 (begins bytes (form_of s.0).0 s.1))
  no_name_is_word bytes none (Err Target) s =
      let i = jump_of s.0 s.1 in absurd (none i.0 (begins bytes (form_of i.0).0 (i.1 ∙ s.3)))
  no_name_is_word bytes none (Err TooMany) s = absurd s

  pub instruction_of-HasNoName : (bytes : Bytes) → HasNoName bytes → instruction_of lines bytes ≡ Err Word
  instruction_of-HasNoName bytes none = no_name_is_word bytes none (instruction_of lines bytes) (sound lines (word_of bytes) (after_word bytes))

  the_rest : (bytes : Bytes) → IsInvalid lines bytes BadArgument → (r : Result Instruction What) → instruction_of lines bytes ≡ r → Sound lines (word_of bytes) (after_word bytes) r → r ≡ Err BadArgument
  the_rest bytes h (Ok i) is s = absurd (h.2 i (EncodesLine-instruction_of bytes i is))
  the_rest bytes h (Err Word) is s = absurd (h.0 (HasNoName-instruction_of bytes is))
  the_rest bytes h (Err Target) is s = absurd (h.1 (JumpsOut-instruction_of bytes is))
  the_rest bytes h (Err BadArgument) is s = refl
  the_rest bytes h (Err TooMany) is s = absurd s

  -- the error of a line is exact
  pub IsInvalid-instruction_of : (bytes : Bytes) (what : What) → instruction_of lines bytes ≡ Err what → IsInvalid lines bytes what
  IsInvalid-instruction_of bytes Word e = HasNoName-instruction_of bytes e
  IsInvalid-instruction_of bytes Target e = JumpsOut-instruction_of bytes e
  IsInvalid-instruction_of bytes BadArgument e = (
    (λ none. let f : Err BadArgument ≡ Err Word = sym e ∙ instruction_of-HasNoName bytes none in absurd (cc)),
    (λ out. let f : Err BadArgument ≡ Err Target = sym e ∙ instruction_of-JumpsOut bytes out in absurd (cc)),
    (λ i encodes. let f : Err BadArgument ≡ Ok i = sym e ∙ instruction_of-EncodesLine bytes i encodes in absurd (cc)),
  )
  IsInvalid-instruction_of bytes TooMany e = absurd (subst (Sound lines (word_of bytes) (after_word bytes)) e (sound lines (word_of bytes) (after_word bytes)))

  pub instruction_of-IsInvalid : (bytes : Bytes) (what : What) → IsInvalid lines bytes what → instruction_of lines bytes ≡ Err what
  instruction_of-IsInvalid bytes Word h = instruction_of-HasNoName bytes h
  instruction_of-IsInvalid bytes Target h = instruction_of-JumpsOut bytes h
  instruction_of-IsInvalid bytes BadArgument h = the_rest bytes h (instruction_of lines bytes) refl (sound lines (word_of bytes) (after_word bytes))
  instruction_of-IsInvalid bytes TooMany h = absurd h
