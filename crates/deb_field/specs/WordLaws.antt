-- Lemmas that the prover checks, and words for them: nothing in this file needs to be believed.
--
-- The laws for folded fields and for the names of architectures.
use Rattle.std.proofs.Common.{◌≡◌, ℕ, ◌*◌, ◌==◌, ◌<◌, ◌≤◌, Bool, true, false, cond, IsTrue, List, [], ◌∷◌, ◌++◌, length, append-nil, append_assoc, refl, sym, ap, ◌∙◌, subst, arith}
use Rattle.std.proofs.lemmas.Bool.Decides.{nat_tests}
use Rattle.std.proofs.lemmas.Str.{IsUtf8-nil, IsUtf8-append}
use Rattle.std.specs.List.{AllByRecursion, filter, list_all, slice_split, onto_first}
use Rattle.std.specs.Str.{IsUtf8}
use Rattle.deb_base.specs.Bodies.{IsBody, newline, is_blank_byte, begins_with_blank, ends_with_blank, HasNoNewline}
use Rattle.deb_base.specs.PackageNames.{is_arch_name}
use Rattle.deb_base.specs.declared.code.Code.TheVariants.{BadArchitecture}
use Rattle.deb_base.proofs.GraphicBodies.{IsBody-line}
use Rattle.deb_base.proofs.TextLines.{IsUtf8-after_ascii, IsUtf8-before_ascii, IsUtf8-behind_ascii, IsUtf8-with_ascii}
use Rattle.deb_field.specs.CanonLaw.{CanonLaw, RefusalLaw}
use Rattle.deb_field.specs.OneLineLaws.{passes-from_none, none-from_passes}
use Rattle.deb_field.specs.Words.{is_white, is_word, words_of, words_text, SpellsFolded, folded_refusal, SpellsArchitectures, architectures_refusal}
use Rattle.deb_field.specs.WordCuts.{split-white, split-other}
use Rattle.deb_field.specs.WordTexts.{words_text-cons, words_text-short, more_text}

-- no byte is white space
abbrev pub HasNoWhite : List ℕ → Type 0
HasNoWhite text = AllByRecursion (λ b. is_white b ≡ false) text

-- a text without white space, with one after it
split-at : (front : List ℕ) (b : ℕ) (text : List ℕ) → HasNoWhite front → is_white b ≡ true
    → slice_split is_white (front ++ b ∷ text) ≡ front ∷ slice_split is_white text
split-at [] b text h w = split-white b text w
split-at (c ∷ front) b text h w =
    split-other c (front ++ b ∷ text) h.0 ∙ ap (onto_first c) (split-at front b text h.1 w)

split-all : (text : List ℕ) → HasNoWhite text → slice_split is_white text ≡ text ∷ []
split-all [] h = refl
split-all (b ∷ text) h = split-other b text h.0 ∙ ap (onto_first b) (split-all text h.1)

-- the pieces of a text have no white space
HasNoWhite-onto : (b : ℕ) (pieces : List (List ℕ)) → is_white b ≡ false
    → AllByRecursion HasNoWhite pieces → AllByRecursion HasNoWhite (onto_first b pieces)
HasNoWhite-onto b [] h all = ((h, tt), tt)
HasNoWhite-onto b (piece ∷ pieces) h all = ((h, all.0), all.1)

pieces-step : (b : ℕ) (bs : List ℕ) (white : Bool) → is_white b ≡ white
    → AllByRecursion HasNoWhite (slice_split is_white bs)
    → AllByRecursion HasNoWhite (slice_split is_white (b ∷ bs))
pieces-step b bs true h all =
    let next : AllByRecursion HasNoWhite ([] ∷ slice_split is_white bs) = (tt, all) in
    subst (AllByRecursion HasNoWhite) (sym (split-white b bs h)) next
pieces-step b bs false h all =
    subst (AllByRecursion HasNoWhite) (sym (split-other b bs h))
    (HasNoWhite-onto b (slice_split is_white bs) h all)

pieces : (text : List ℕ) → AllByRecursion HasNoWhite (slice_split is_white text)
pieces [] = (tt, tt)
pieces (b ∷ bs) = pieces-step b bs (is_white b) refl (pieces bs)

-- what holds of each piece holds of each word
kept-step : (P : List ℕ → Type 0) (piece : List ℕ) (others : List (List ℕ)) (keep : Bool)
    → is_word piece ≡ keep → P piece → AllByRecursion P (filter is_word others)
    → AllByRecursion P (filter is_word (piece ∷ others))
kept-step P piece others true h p all =
    let next : AllByRecursion P (piece ∷ filter is_word others) = (p, all) in
    subst (AllByRecursion P) (sym (ap (λ t. cond t (piece ∷ filter is_word others)
    (filter is_word others)) h)) next
kept-step P piece others false h p all =
    subst (AllByRecursion P) (sym (ap (λ t. cond t (piece ∷ filter is_word others)
    (filter is_word others)) h)) all

kept : (P : List ℕ → Type 0) (all : List (List ℕ)) → AllByRecursion P all
    → AllByRecursion P (filter is_word all)
kept P [] h = tt
kept P (piece ∷ others) h = kept-step P piece others (is_word piece) refl h.0 (kept P others h.1)

full-step : (piece : List ℕ) (others : List (List ℕ)) (keep : Bool) → is_word piece ≡ keep
    → AllByRecursion (λ w. is_word w ≡ true) (filter is_word others)
    → AllByRecursion (λ w. is_word w ≡ true) (filter is_word (piece ∷ others))
full-step piece others true h all =
    let next : AllByRecursion (λ w. is_word w ≡ true) (piece ∷ filter is_word others) = (h, all) in
    subst (AllByRecursion (λ w. is_word w ≡ true))
    (sym (ap (λ t. cond t (piece ∷ filter is_word others) (filter is_word others)) h)) next
full-step piece others false h all =
    subst (AllByRecursion (λ w. is_word w ≡ true))
    (sym (ap (λ t. cond t (piece ∷ filter is_word others) (filter is_word others)) h)) all

full : (all : List (List ℕ)) → AllByRecursion (λ w. is_word w ≡ true) (filter is_word all)
full [] = tt
full (piece ∷ others) = full-step piece others (is_word piece) refl (full others)

-- words: nonempty texts without white space
pub record AreWords (words : List (List ℕ)) : Type 0 where
  pub some : AllByRecursion (λ w. is_word w ≡ true) words
  pub whole : AllByRecursion HasNoWhite words

pub AreWords-words_of : (text : List ℕ) → AreWords (words_of text)
AreWords-words_of text =
    record {
      some = full (slice_split is_white text);
      whole = kept HasNoWhite (slice_split is_white text) (pieces text);
    }

word-cons : (word : List ℕ) (others : List (List ℕ)) → is_word word ≡ true
    → filter is_word (word ∷ others) ≡ word ∷ filter is_word others
word-cons word others h = ap (λ t. cond t (word ∷ filter is_word others) (filter is_word others)) h

-- the words of the text of words are those words
pub words_of-words_text : (words : List (List ℕ)) → AllByRecursion (λ w. is_word w ≡ true) words
    → AllByRecursion HasNoWhite words → words_of (words_text words) ≡ words
words_of-words_text [] some whole = refl
words_of-words_text (word ∷ []) some whole =
    ap (filter is_word) (split-all word whole.0) ∙ word-cons word [] some.0
words_of-words_text (word ∷ next ∷ words) some whole =
    ap (filter is_word) (split-at word 32 (words_text (next ∷ words)) whole.0 refl)
    ∙ word-cons word (slice_split is_white (words_text (next ∷ words))) some.0
    ∙ ap (λ ws. word ∷ ws) (words_of-words_text (next ∷ words) some.1 whole.1)

back : (body : List ℕ) (words : List (List ℕ)) → words_of body ≡ words
    → words_of (words_text words) ≡ words
back body words s =
    let are = subst AreWords s (AreWords-words_of body) in
    words_of-words_text words are.some are.whole

-- the text of words is of one line, which no blank begins or ends
white_is : (b : ℕ) → is_white b ≡ false → ((b == newline) ≡ false) × (is_blank_byte b ≡ false)
white_is b h = (grind (arith, nat_tests), grind (arith, nat_tests))

no_newline-append : (front text : List ℕ) → HasNoWhite front → HasNoNewline text
    → HasNoNewline (front ++ text)
no_newline-append [] text h k = k
no_newline-append (b ∷ front) text h k = ((white_is b h.0).0, no_newline-append front text h.1 k)

no_newline-more : (words : List (List ℕ)) → AllByRecursion HasNoWhite words
    → HasNoNewline (more_text words)
no_newline-more [] h = tt
no_newline-more (word ∷ words) h =
    (refl, no_newline-append word (more_text words) h.0 (no_newline-more words h.1))

begins-word : (word text : List ℕ) → is_word word ≡ true → HasNoWhite word
    → begins_with_blank (word ++ text) ≡ false
begins-word [] text some h = cc
begins-word (b ∷ word) text some h = (white_is b h.0).1

pub ends-behind : (front : List ℕ) (c : ℕ) (text : List ℕ)
    → ends_with_blank (front ++ c ∷ text) ≡ ends_with_blank (c ∷ text)
ends-behind [] c text = refl
ends-behind (b ∷ []) c text = refl
ends-behind (b ∷ d ∷ front) c text = ends-behind (d ∷ front) c text

ends-bytes : (b : ℕ) (word : List ℕ) → HasNoWhite (b ∷ word) → ends_with_blank (b ∷ word) ≡ false
ends-bytes b [] h = (white_is b h.0).1
ends-bytes b (c ∷ word) h = ends-bytes c word h.1

ends-word : (word : List ℕ) → is_word word ≡ true → HasNoWhite word → ends_with_blank word ≡ false
ends-word [] some h = cc
ends-word (b ∷ word) some h = ends-bytes b word h

ends-words : (words : List (List ℕ)) → AllByRecursion (λ w. is_word w ≡ true) words
    → AllByRecursion HasNoWhite words → ends_with_blank (words_text words) ≡ false
ends-words [] some h = refl
ends-words (word ∷ []) some h = ends-word word some.0 h.0
ends-words (word ∷ next ∷ words) some h =
    ends-behind word 32 (words_text (next ∷ words))
    ∙ ends-space next words some.1 h.1 (ends-words (next ∷ words) some.1 h.1) where
      ends-space : (next : List ℕ) (words : List (List ℕ))
          → AllByRecursion (λ w. is_word w ≡ true) (next ∷ words)
          → AllByRecursion HasNoWhite (next ∷ words)
          → ends_with_blank (words_text (next ∷ words)) ≡ false
          → ends_with_blank (32 ∷ words_text (next ∷ words)) ≡ false
      ends-space [] words some h e = cc
      ends-space (b ∷ next) [] some h e = e
      ends-space (b ∷ next) (w ∷ words) some h e = e

-- the words of a text that is UTF-8 are
utf8-step : (front : List ℕ) (b : ℕ) (bs : List ℕ) (white : Bool) → is_white b ≡ white
    → HasNoWhite front → IsUtf8 (front ++ b ∷ bs)
    → (IsUtf8 bs → AllByRecursion IsUtf8 (slice_split is_white bs))
    → (HasNoWhite (front ++ b ∷ []) → IsUtf8 ((front ++ b ∷ []) ++ bs)
    → AllByRecursion IsUtf8 (slice_split is_white ((front ++ b ∷ []) ++ bs)))
    → AllByRecursion IsUtf8 (slice_split is_white (front ++ b ∷ bs))
utf8-step front b bs true h none u behind through =
    let small : b < 128 = white_small b h in
    let next : AllByRecursion IsUtf8 (front ∷ slice_split is_white bs) = (
      IsUtf8-before_ascii front b bs small u,
      behind (IsUtf8-after_ascii b bs small (IsUtf8-behind_ascii front b bs small u)),
    ) in
    subst (AllByRecursion IsUtf8) (sym (split-at front b bs none h)) next where
      white_small : (b : ℕ) → is_white b ≡ true → b < 128
      white_small b h = grind (arith, nat_tests)
utf8-step front b bs false h none u behind through =
    let e : (front ++ b ∷ []) ++ bs ≡ front ++ b ∷ bs = append_assoc front (b ∷ []) bs in
    subst (λ t. AllByRecursion IsUtf8 (slice_split is_white t)) e
    (through (push front none) (subst IsUtf8 (sym e) u)) where
      push : (front : List ℕ) → HasNoWhite front → HasNoWhite (front ++ b ∷ [])
      push [] k = (h, tt)
      push (c ∷ front) k = (k.0, push front k.1)

utf8-pieces : (text front : List ℕ) → HasNoWhite front → IsUtf8 (front ++ text)
    → AllByRecursion IsUtf8 (slice_split is_white (front ++ text))
utf8-pieces [] front none u =
    let next : AllByRecursion IsUtf8 ((front ++ []) ∷ []) = (u, tt) in
    let e : front ++ [] ≡ front = append-nil front in
    subst (AllByRecursion IsUtf8) (sym (ap (slice_split is_white) e ∙ split-all front none
    ∙ ap (λ t. t ∷ []) (sym e))) next
utf8-pieces (b ∷ bs) front none u =
    utf8-step front b bs (is_white b) refl none u (utf8-pieces bs [] tt)
    (utf8-pieces bs (front ++ b ∷ []))

utf8-words : (text : List ℕ) → IsUtf8 text → AllByRecursion IsUtf8 (words_of text)
utf8-words text u = kept IsUtf8 (slice_split is_white text) (utf8-pieces text [] tt u)

utf8-more : (words : List (List ℕ)) → AllByRecursion IsUtf8 words → IsUtf8 (more_text words)
utf8-more [] h = IsUtf8-nil
utf8-more (word ∷ words) h =
    IsUtf8-with_ascii 32 (word ++ more_text words) (omega arith)
    (IsUtf8-append word (more_text words) h.0 (utf8-more words h.1))

-- the text of words that are UTF-8 is a body
IsBody-words : (words : List (List ℕ)) → AllByRecursion (λ w. is_word w ≡ true) words
    → AllByRecursion HasNoWhite words → AllByRecursion IsUtf8 words → IsBody (words_text words)
IsBody-words [] some whole u = IsBody-line [] tt refl refl IsUtf8-nil
IsBody-words (word ∷ words) some whole u =
    let e = words_text-cons word words in
    IsBody-line (words_text (word ∷ words))
    (subst HasNoNewline (sym e) (no_newline-append word (more_text words) whole.0
    (no_newline-more words whole.1)))
    (ap begins_with_blank e ∙ begins-word word (more_text words) some.0 whole.0)
    (ends-words (word ∷ words) some whole)
    (subst IsUtf8 (sym e) (IsUtf8-append word (more_text words) u.0 (utf8-more words u.1)))

words_body : (body : List ℕ) (words : List (List ℕ)) → IsBody body → words_of body ≡ words
    → IsBody (words_text words)
words_body body words is s =
    let are = subst AreWords s (AreWords-words_of body) in
    IsBody-words words are.some are.whole (subst (AllByRecursion IsUtf8) s
    (utf8-words body is.text))

words_short : (body : List ℕ) (words : List (List ℕ)) → words_of body ≡ words
    → length (words_text words) ≤ 2 * length body
words_short body words s = omega (arith, words_text-short body, ap (λ ws. length (words_text ws)) s)

pub folded_law : CanonLaw (List (List ℕ)) SpellsFolded words_text
folded_law =
    record {
      one_meaning = λ body m n s t. sym s ∙ t;
      reads_back = back;
      is_body = words_body;
      is_short = words_short;
    }

pub folded_refusals : RefusalLaw (List (List ℕ)) SpellsFolded folded_refusal
folded_refusals =
    record { spelled = λ body none. (words_of body, refl); unrefused = λ body m s. refl }

pub architectures_law : CanonLaw (List (List ℕ)) SpellsArchitectures words_text
architectures_law = record {
  one_meaning = λ body m n s t. sym s.0 ∙ t.0;
  reads_back = λ body m s. (back body m s.0, s.1);
  is_body = λ body m is s. words_body body m is s.0;
  is_short = λ body m s. words_short body m s.0;
}

pub architectures_refusals : RefusalLaw (List (List ℕ)) SpellsArchitectures architectures_refusal
architectures_refusals = record {
  spelled =
      λ body none. (
        words_of body,
        (
          refl,
          passes-from_none (list_all is_arch_name (words_of body)) BadArchitecture none,
        ),
      );
  unrefused =
      λ body m s. none-from_passes (list_all is_arch_name (words_of body)) BadArchitecture
      (subst (λ ws. IsTrue (list_all is_arch_name ws)) (sym s.0) s.1);
}
