-- The line of a descriptor, from its parts.
use Rattle.std.proofs.Common.{◌≡◌, ℕ, Bool, [], ◌∷◌, ◌++◌, codes, decimal, Option, None, Some, option_map, refl, ap, sym, ◌∙◌}
use Rattle.pv_model.specs.declared.open_flags.Mode.{Mode}
use Rattle.pv_model.specs.Machine.{answer_line, answer_line_bytes, Bytes, Numbered, at_number, Descriptor, OpenFile, State, mode_text, text_line}
use Rattle.pv_model.specs.Answers.Nodes.{node_words}
use Rattle.pv_model.specs.Answers.ProcessRecord.{OpenDescriptor, descriptor_text, listed_text, open_descriptor}
use Rattle.pv_model.specs.Trace.{flag_text}
use Rattle.pv_calls_state.specs.OfFiles.Descriptors.{closes_on_execve}
use Rattle.pv_answers.specs.Holdings.{descriptor_line, descriptor_line_of, open_line_of}
use Rattle.pv_answers.specs.Texts.{line_front}

module _ (s : State) (pid d : ℕ) where
  abbrev line_by : ℕ → Mode → Bool → Bool → ℕ → ℕ → Option Bytes → Bytes
  line_by k mode append marked offset node listed =
      line_front pid (codes "FD")
      ++ (decimal d ++ codes ", file " ++ decimal k ++ codes ", " ++ mode_text mode ++ flag_text append (codes "append") ++ flag_text marked (codes "cloexec")
      ++ codes ", offset " ++ decimal offset ++ codes ", " ++ node_words s.tree node ++ listed_text listed) ++ 10 ∷ []

  same_line : (o : OpenDescriptor) → o.number ≡ d → line_by o.descriptor.file o.file.mode o.file.append o.descriptor.close_on_exec o.file.offset o.file.node o.file.listed ≡ answer_line_bytes (answer_line pid (codes "FD") (descriptor_text s o))
  unfolding text_line
  same_line o same = ap (λ n. line_front pid (codes "FD")
      ++ (decimal n ++ codes ", file " ++ decimal o.descriptor.file ++ codes ", " ++ mode_text o.file.mode ++ flag_text o.file.append (codes "append") ++ flag_text o.descriptor.close_on_exec (codes "cloexec")
      ++ codes ", offset " ++ decimal o.file.offset ++ codes ", " ++ node_words s.tree o.file.node ++ listed_text o.file.listed) ++ 10 ∷ []) (sym same)

  module _ (k : ℕ) (mode : Mode) (append marked : Bool) (offset node : ℕ) (listed : Option Bytes) where
    line_of : (e : Descriptor) (f : OpenFile) → e.file ≡ k → at_number s.files k ≡ Some f → mode ≡ f.mode → append ≡ f.append → marked ≡ e.close_on_exec → offset ≡ f.offset
        → node ≡ f.node → listed ≡ f.listed → line_by k mode append marked offset node listed ≡ open_line_of s pid (open_descriptor s (d, e))
    line_of e f same opened m a c o n l =
        ap (λ x. line_by x mode append marked offset node listed) (sym same)
        ∙ ap (λ x. line_by e.file x append marked offset node listed) m
        ∙ ap (λ x. line_by e.file f.mode x marked offset node listed) a
        ∙ ap (λ x. line_by e.file f.mode f.append x offset node listed) c
        ∙ ap (λ x. line_by e.file f.mode f.append e.close_on_exec x node listed) o
        ∙ ap (λ x. line_by e.file f.mode f.append e.close_on_exec f.offset x listed) n
        ∙ ap (line_by e.file f.mode f.append e.close_on_exec f.offset f.node) l
        ∙ same_line (record { number = d; descriptor = e; file = f }) refl
        ∙ sym (ap (λ x. open_line_of s pid (option_map (λ (file : OpenFile). record { number = d; descriptor = e; file = file }) (at_number s.files x))) same
        ∙ ap (λ x. open_line_of s pid (option_map (λ (file : OpenFile). record { number = d; descriptor = e; file = file }) x)) opened)

    line_found : (e : Option Descriptor) (f : Option OpenFile) → at_number s.files k ≡ f → option_map (λ x. x.file) e ≡ Some k → option_map (λ x. x.mode) f ≡ Some mode → option_map (λ x. x.append) f ≡ Some append
        → marked ≡ closes_on_execve e → option_map (λ x. x.offset) f ≡ Some offset → option_map (λ x. x.node) f ≡ Some node → option_map (λ x. x.listed) f ≡ Some listed
        → line_by k mode append marked offset node listed ≡ descriptor_line_of s pid d e
    line_found None f opened same m a c o n l = cc same
    line_found (Some e) None opened same m a c o n l = cc m
    line_found (Some e) (Some f) opened same m a c o n l =
        let number : e.file ≡ k = cc same in
        let mode_is : mode ≡ f.mode = cc m in
        let append_is : append ≡ f.append = cc a in
        let offset_is : offset ≡ f.offset = cc o in
        let node_is : node ≡ f.node = cc n in
        let listed_is : listed ≡ f.listed = cc l in
        line_of e f number opened mode_is append_is c offset_is node_is listed_is

    pub line-is : (ds : Numbered Descriptor) → option_map (λ x. x.file) (at_number ds d) ≡ Some k → option_map (λ x. x.mode) (at_number s.files k) ≡ Some mode
        → option_map (λ x. x.append) (at_number s.files k) ≡ Some append → marked ≡ closes_on_execve (at_number ds d) → option_map (λ x. x.offset) (at_number s.files k) ≡ Some offset
        → option_map (λ x. x.node) (at_number s.files k) ≡ Some node → option_map (λ x. x.listed) (at_number s.files k) ≡ Some listed
        → line_by k mode append marked offset node listed ≡ descriptor_line s pid ds d
    line-is ds same m a c o n l = line_found (at_number ds d) (at_number s.files k) refl same m a c o n l
