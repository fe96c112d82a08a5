-- The keywords of a set, one at a time.
use Rattle.std.proofs.Common.{◌≡◌, ℕ, ◌+◌, ◌<◌, ◌≤◌, Bool, true, false, cond, List, [], ◌∷◌, ◌++◌, length, drop, map, filter, flat_map, codes, Option, refl, ap, ap₂, sym, subst, ◌∙◌}
use Rattle.std.specs.Prelude.{OnOk, OnErr, Result}
use Rattle.std.proofs.Math.ListN.{get_or}
use Rattle.std.proofs.lemmas.Grind.{flat_map-append}
use Rattle.std.proofs.lemmas.List.{drop_all, drop_more}
use Rattle.pv_model.specs.declared.promise.Promise.{Promise}
use Rattle.pv_model.specs.declared.promise.Promise.TheVariants.{Stdio, Rpath, Wpath, Cpath, Proc, Exec, Unveil, Error, Dpath, Fattr, Chown, Flock, Unix, Inet, Mcast, Dns, Getpw, Sendfd, Recvfd, Tape, Tty, ProtExec, Settime, Ps, Vminfo, Id, Pf, Route, Wroute, Audio, Video, Bpf}
use Rattle.pv_model.specs.Machine.{spaced, Bytes, promise_name, Promises, contains, quote_byte}
use Rattle.pv_streams.specs.Sinks.{and_all, WritesPrefix}
use Rattle.pv_streams.proofs.TextRemainders.{LeavesRest, written_text}
use Rattle.pv_answers.specs.Texts.{keyword_after, keywords_in, words_after}

words-none : (first : Bool) → words_after first [] ≡ []
words-none true = refl
words-none false = refl

module _ (set : Promises) (ps : List Promise) (k : ℕ) (d : Promise) (within : k < length ps) where
  abbrev here : Promise
  here = get_or ps k d

  found : (held : Bool) → contains set here ≡ held → keywords_in set (drop k ps) ≡ cond held (promise_name here ∷ keywords_in set (drop (k + 1) ps)) (keywords_in set (drop (k + 1) ps))
  found held is = ap (keywords_in set) (drop_more ps k d within) ∙ by held is
    where
      by : (held : Bool) → contains set here ≡ held
          → map promise_name (cond (contains set here) (here ∷ filter (contains set) (drop (k + 1) ps)) (filter (contains set) (drop (k + 1) ps)))
          ≡ cond held (promise_name here ∷ keywords_in set (drop (k + 1) ps)) (keywords_in set (drop (k + 1) ps))
      by true is = ap (λ b. map promise_name (cond b (here ∷ filter (contains set) (drop (k + 1) ps)) (filter (contains set) (drop (k + 1) ps)))) is
      by false is = ap (λ b. map promise_name (cond b (here ∷ filter (contains set) (drop (k + 1) ps)) (filter (contains set) (drop (k + 1) ps)))) is

  -- a promise in the set, and the keywords after it
  pub keyword-next : (first : Bool) → contains set here ≡ true
      → words_after first (keywords_in set (drop k ps)) ≡ keyword_after first here ++ words_after false (keywords_in set (drop (k + 1) ps))
  keyword-next true is = ap (words_after true) (found true is)
  keyword-next false is = ap (words_after false) (found true is)

  -- a promise that is not in the set
  pub keyword-none : (first : Bool) → contains set here ≡ false → words_after first (keywords_in set (drop k ps)) ≡ words_after first (keywords_in set (drop (k + 1) ps))
  keyword-none first is = ap (words_after first) (found false is)

-- ---- no byte of a keyword needs an escape

plain-name : (p : Promise) → flat_map quote_byte (promise_name p) ≡ promise_name p
plain-name Stdio = refl
plain-name Rpath = refl
plain-name Wpath = refl
plain-name Cpath = refl
plain-name Proc = refl
plain-name Exec = refl
plain-name Unveil = refl
plain-name Error = refl
plain-name Dpath = refl
plain-name Fattr = refl
plain-name Chown = refl
plain-name Flock = refl
plain-name Unix = refl
plain-name Inet = refl
plain-name Mcast = refl
plain-name Dns = refl
plain-name Getpw = refl
plain-name Sendfd = refl
plain-name Recvfd = refl
plain-name Tape = refl
plain-name Tty = refl
plain-name ProtExec = refl
plain-name Settime = refl
plain-name Ps = refl
plain-name Vminfo = refl
plain-name Id = refl
plain-name Pf = refl
plain-name Route = refl
plain-name Wroute = refl
plain-name Audio = refl
plain-name Video = refl
plain-name Bpf = refl

module _ (set : Promises) where
  plain-after : (ps : List Promise) → flat_map quote_byte (words_after false (keywords_in set ps)) ≡ words_after false (keywords_in set ps)
  plain-after [] = refl
  plain-after (p ∷ ps) =
      elim (contains set p) as (λ b. let words : List Bytes = map promise_name (cond b (p ∷ filter (contains set) ps) (filter (contains set) ps)) in flat_map quote_byte (words_after false words) ≡ words_after false words) [
        | true ↦
            flat_map-append quote_byte (codes " " ++ promise_name p) (words_after false (keywords_in set ps))
            ∙ ap₂ (λ (a b : Bytes). (codes " " ++ a) ++ b) (plain-name p) (plain-after ps)
        | false ↦ plain-after ps
      ]

  pub plain-keywords : (ps : List Promise) → flat_map quote_byte (spaced (keywords_in set ps)) ≡ spaced (keywords_in set ps)
  plain-keywords [] = refl
  plain-keywords (p ∷ ps) =
      elim (contains set p) as (λ b. let words : List Bytes = map promise_name (cond b (p ∷ filter (contains set) ps) (filter (contains set) ps)) in flat_map quote_byte (spaced words) ≡ spaced words) [
        | true ↦ flat_map-append quote_byte (promise_name p) (words_after false (keywords_in set ps)) ∙ ap₂ (λ (a b : Bytes). a ++ b) (plain-name p) (plain-after ps)
        | false ↦ plain-keywords ps
      ]

  pub whole-plain : {T E : Type 0} (r : Result T E) (ps : List Promise) (before after : Option Bytes)
      → OnOk r (after ≡ and_all before (spaced (keywords_in set ps))) → OnOk r (after ≡ and_all before (flat_map quote_byte (spaced (keywords_in set ps))))
  whole-plain r ps before after reported = subst (λ text. OnOk r (after ≡ and_all before text)) (sym (plain-keywords ps)) reported

  pub prefix-plain : {T E : Type 0} (r : Result T E) (ps : List Promise) (before after : Option Bytes)
      → OnErr r (WritesPrefix (spaced (keywords_in set ps)) before after) → OnErr r (WritesPrefix (flat_map quote_byte (spaced (keywords_in set ps))) before after)
  prefix-plain r ps before after reported = subst (λ text. OnErr r (WritesPrefix text before after)) (sym (plain-keywords ps)) reported

-- past the last promise
pub keywords-end : (set : Promises) (ps : List Promise) (k : ℕ) (first : Bool) (text : Bytes) (before after : Option Bytes) → length ps ≤ k
    → LeavesRest (words_after first (keywords_in set (drop k ps))) text before after → after ≡ and_all before text
keywords-end set ps k first text before after past left =
    written_text text before after
    (subst (λ rest. LeavesRest rest text before after) (ap (λ (xs : List Promise). words_after first (keywords_in set xs)) (drop_all k ps past) ∙ words-none first) left)
