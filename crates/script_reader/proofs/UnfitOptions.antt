-- The first option that doesn't fit is named.
use Rattle.std.proofs.Common.{◌≡◌, List, [], ◌∷◌, ◌++◌, map, Option, Some, None, Result, Ok, Err, refl, sym, ap, ◌∙◌}
use Rattle.std.specs.Prelude.{option_and_then}
use Rattle.plain_model.specs.Paths.{Bytes}
use Rattle.plain_model.specs.declared.fault.Fault.{Fault}
use Rattle.plain_model.specs.declared.fault.Fault.TheVariants as fault
use Rattle.script_lines.specs.Answering.{◌>>=◌}
use Rattle.script_lines.specs.Texts.{or_at_fault, whole_in}
use Rattle.script_lines.specs.Words.{text_of}
use Rattle.script_lines.specs.declared.word.Word.{Word}
use Rattle.script_reader.specs.Edits.{asked_by, option_in, reparent_words, reparenting_by, squash_words}
use Rattle.script_reader.specs.Forms.{IsFirstUnfit}
use Rattle.script_reader.specs.Options.{AreReparentOptions, AreSquashOptions, asked_more, nothing_asked, policy_of, reparenting, reparenting_more, squash_option}
use Rattle.script_reader.specs.declared.edit.Edit.TheVariants as edit
use Rattle.script_reader.specs.declared.options.Asked.{Asked}
use Rattle.script_reader.specs.declared.options.Reparenting.{Reparenting}
use Rattle.script_reader.specs.declared.options.SquashOption.{SquashOption}
use Rattle.script_reader.proofs.OptionWords.{how_together, options_together, together_how, together_options}
use Rattle.script_reader.proofs.UnfitWords.{whole_too}

-- ---- words that are read one after another

module _ {S : Type 0} (step : S → Word → Option S) (by : S → List Word → Result S Fault)
    (ends : (s : S) → by s [] ≡ Ok s) (goes : (s : S) (word : Word) (words : List Word) → by s (word ∷ words)
    ≡ ((or_at_fault word (step s word)) >>= λ more. by more words)) where
  -- where they stop
  pub record Stops (s : S) (words : List Word) (why : Fault) : Type 0 where
    pub front : List Word
    pub word : Word
    pub rest : List Word
    pub now : S
    pub cut : words ≡ front ++ word ∷ rest
    pub named : why ≡ fault.BadWords (text_of word)
    pub done : by s front ≡ Ok now
    pub stops : step now word ≡ None

  pub stops_at : (s : S) (words : List Word) (why : Fault) → by s words ≡ Err why → Stops s words why
  stops_at s [] why e = let both : ◌≡◌ {A = Result S Fault} (Ok s) (Err why) = sym (ends s) ∙ e in absurd cc
  stops_at s (word ∷ words) why e = go (λ more e. stops_at more words why e) (step s word) refl (sym (goes s word words) ∙ e)
    where
      go : ((more : S) → by more words ≡ Err why → Stops more words why) → (o : Option S) → step s word ≡ o
          → ((or_at_fault word o) >>= λ more. by more words) ≡ Err why
          → Stops s (word ∷ words) why
      go later (Some more) is e =
          let after = later more e in record {
            front = word ∷ after.front;
            word = after.word;
            rest = after.rest;
            now = after.now;
            cut = ap (λ (ws : List Word). word ∷ ws) after.cut;
            named = after.named;
            done = goes s word after.front ∙ ap (λ o. (or_at_fault word o) >>= λ more. by more after.front) is ∙ after.done;
            stops = after.stops;
          }
      go later None is e =
          let named : fault.BadWords (text_of word) ≡ why = cc in
          record { front = []; word = word; rest = words; now = s; cut = refl; named = sym named; done = ends s; stops = is }

  -- words after others that were read
  after_front : (s : S) (front words : List Word) (now : S) → by s front ≡ Ok now → by s (front ++ words) ≡ by now words
  after_front s [] words now e = let same : ◌≡◌ {A = Result S Fault} (Ok s) (Ok now) = sym (ends s) ∙ e in let is : s ≡ now = cc in ap (λ s. by s words) is
  after_front s (word ∷ front) words now e = goes s word (front ++ words)
      ∙ go (λ more e. after_front more front words now e) (step s word) (sym (goes s word front) ∙ e)
    where
      go : ((more : S) → by more front ≡ Ok now → by more (front ++ words) ≡ by now words) → (o : Option S)
          → ((or_at_fault word o) >>= λ more. by more front) ≡ Ok now
          → ((or_at_fault word o) >>= λ more. by more (front ++ words)) ≡ by now words
      go later (Some more) e = later more e
      go later None e = absurd cc

  -- with the word where they stop they aren't read
  pub not_read : (s : S) (words : List Word) (why : Fault) (at : Stops s words why) (last : S) → by s (at.front ++ at.word ∷ []) ≡ Ok last → ⊥
  not_read s words why at last e =
      let stopped = sym (after_front s at.front (at.word ∷ []) at.now at.done) ∙ e in
      let here : ((or_at_fault at.word None) >>= λ more. by more []) ≡ Ok last = ap (λ o. (or_at_fault at.word o) >>= λ more. by more []) (sym at.stops)
      ∙ sym (goes at.now at.word []) ∙ stopped in absurd cc

-- ---- texts of words

append_read : (front : List Word) (texts : List Bytes) (word : Word) (text : Bytes) → map whole_in front ≡ map Some texts → whole_in word ≡ Some text
    → map whole_in (front ++ word ∷ []) ≡ map Some (texts ++ text ∷ [])
append_read [] [] word text h is = λ i. is i ∷ []
append_read [] (t ∷ texts) word text h is = absurd cc
append_read (w ∷ front) [] word text h is = absurd cc
append_read (w ∷ front) (t ∷ texts) word text h is =
    let first : whole_in w ≡ Some t = cc in
    let rest : map whole_in front ≡ map Some texts = cc in λ i. first i ∷ append_read front texts word text rest is i

-- words that are options have texts that are
option_texts : (words : List Word) (options : List SquashOption) → map option_in words ≡ map Some options
    → (texts : List Bytes) × (map whole_in words ≡ map Some texts) × (map squash_option texts ≡ map Some options)
option_texts [] [] h = ([], refl, refl)
option_texts [] (option ∷ options) h = absurd cc
option_texts (word ∷ words) [] h = absurd cc
option_texts (word ∷ words) (option ∷ options) h =
    let first : option_in word ≡ Some option = cc in
    let rest : map option_in words ≡ map Some options = cc in
    go (option_texts words options rest) (whole_in word) refl first
  where
    go : ((texts : List Bytes) × (map whole_in words ≡ map Some texts) × (map squash_option texts ≡ map Some options)) → (o : Option Bytes) → whole_in word ≡ o
        → option_and_then squash_option o ≡ Some option
        → (texts : List Bytes) × (whole_in word ∷ map whole_in words ≡ map Some texts) × (map squash_option texts ≡ Some option ∷ map Some options)
    go more (Some text) is first = (text ∷ more.0, (λ i. is i ∷ more.1 i), λ i. first i ∷ more.2 i)
    go more None is first = absurd cc

-- and the other way round
texts_options : (words : List Word) (texts : List Bytes) (options : List SquashOption) → map whole_in words ≡ map Some texts
    → map squash_option texts ≡ map Some options
    → map option_in words ≡ map Some options
texts_options [] [] options h k = k
texts_options [] (text ∷ texts) options h k = absurd cc
texts_options (word ∷ words) [] options h k = absurd cc
texts_options (word ∷ words) (text ∷ texts) [] h k = absurd cc
texts_options (word ∷ words) (text ∷ texts) (option ∷ options) h k =
    let first : whole_in word ≡ Some text = cc in
    let rest : map whole_in words ≡ map Some texts = cc in
    let one : squash_option text ≡ Some option = cc in
    let others : map squash_option texts ≡ map Some options = cc in
    λ i. (ap (option_and_then squash_option) first ∙ one) i ∷ texts_options words texts options rest others i

-- ---- `squash` and `reparent`

abbrev SquashStops : List Word → Fault → Type 0
SquashStops words why = Stops (λ asked word. option_and_then (asked_more asked) (option_in word)) asked_by (λ asked. refl)
    (λ asked word words. refl) nothing_asked words why

squash_unfit : (words : List Word) (why : Fault) → (at : SquashStops words why) → IsFirstUnfit AreSquashOptions words (text_of at.word)
squash_unfit words why at =
    let all = options_together at.front at.now at.done in
    let of = option_texts at.front all.0 all.1 in record {
      front = at.front;
      word = at.word;
      rest = at.rest;
      texts = of.0;
      cut = at.cut;
      name = refl;
      read = of.1;
      fits = (all.0, at.now, of.2, all.2);
      unfit = (λ text there more.
          not_read (λ asked word. option_and_then (asked_more asked) (option_in word)) asked_by (λ asked. refl)
          (λ asked word words. refl) nothing_asked words why at more.1
          (together_options (at.front ++ at.word ∷ []) more.1 (
            more.0,
            texts_options (at.front ++ at.word ∷ []) (of.0 ++ text ∷ []) more.0 (append_read at.front of.0 at.word text of.1 (whole_too at.rest at.word text there)) more.2,
            more.3,
          )));
    }

-- what the words after `squash` are refused for
pub squash_refused : (words : List Word) (why : Fault) → squash_words words ≡ Err why
    → (named : Bytes) × (why ≡ fault.BadWords named) × IsFirstUnfit AreSquashOptions words named
unfolding squash_words
squash_refused words why e = go (asked_by nothing_asked words) refl e
  where
    go : (r : Result Asked Fault) → asked_by nothing_asked words ≡ r → (r >>= λ asked. Ok (edit.Squash (policy_of asked))) ≡ Err why
        → (named : Bytes) × (why ≡ fault.BadWords named) × IsFirstUnfit AreSquashOptions words named
    go (Ok asked) is e = absurd cc
    go (Err other) is e =
        let same : other ≡ why = cc in
        let at = stops_at (λ asked word. option_and_then (asked_more asked) (option_in word)) asked_by (λ asked. refl)
        (λ asked word words. refl) nothing_asked words why (is ∙ ap (λ (f : Fault). Err f) same) in
        (text_of at.word, at.named, squash_unfit words why at)

abbrev ReparentStops : List Word → Fault → Type 0
ReparentStops words why = Stops (λ how word. option_and_then (reparenting_more how) (whole_in word)) reparenting_by (λ how. refl)
    (λ how word words. refl) reparenting words why

reparent_unfit : (words : List Word) (why : Fault) → (at : ReparentStops words why) → IsFirstUnfit AreReparentOptions words (text_of at.word)
reparent_unfit words why at =
    let all = how_together at.front at.now at.done in record {
      front = at.front;
      word = at.word;
      rest = at.rest;
      texts = all.0;
      cut = at.cut;
      name = refl;
      read = all.1;
      fits = (at.now, all.2);
      unfit = (λ text there more.
          not_read (λ how word. option_and_then (reparenting_more how) (whole_in word)) reparenting_by (λ how. refl)
          (λ how word words. refl) reparenting words why at more.0
          (together_how (at.front ++ at.word ∷ []) more.0 (
            all.0 ++ text ∷ [],
            append_read at.front all.0 at.word text all.1 (whole_too at.rest at.word text there),
            more.1,
          )));
    }

-- what the words after `reparent` are refused for
pub reparent_refused : (words : List Word) (why : Fault) → reparent_words words ≡ Err why
    → (named : Bytes) × (why ≡ fault.BadWords named) × IsFirstUnfit AreReparentOptions words named
unfolding reparent_words
reparent_refused words why e = go (reparenting_by reparenting words) refl e
  where
    go : (r : Result Reparenting Fault) → reparenting_by reparenting words ≡ r → (r >>= λ how. Ok (edit.Reparent how)) ≡ Err why
        → (named : Bytes) × (why ≡ fault.BadWords named) × IsFirstUnfit AreReparentOptions words named
    go (Ok how) is e = absurd cc
    go (Err other) is e =
        let same : other ≡ why = cc in
        let at = stops_at (λ how word. option_and_then (reparenting_more how) (whole_in word)) reparenting_by (λ how. refl)
        (λ how word words. refl) reparenting words why (is ∙ ap (λ (f : Fault). Err f) same) in
        (text_of at.word, at.named, reparent_unfit words why at)
