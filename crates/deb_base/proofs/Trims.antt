-- What is cut of a text with spaces and tabs at its ends.
use Rattle.std.proofs.Common.{◌≡◌, ℕ, ◌+◌, ◌-◌, ◌<◌, ◌≤◌, Bool, true, false, cond, List, [], ◌∷◌, ◌++◌, length, take, slice_index, refl, sym, ap, ◌∙◌, arith}
use Rattle.std.proofs.lemmas.Bool.{and_parts}
use Rattle.std.proofs.lemmas.List.{take_more}
use Rattle.std.specs.List.{AllByRecursion}
use Rattle.deb_base.specs.Bodies.{is_blank_byte, is_all_blank, begins_with_blank, ends_with_blank}
use Rattle.deb_base.specs.Trimming.{without_leading_blanks, with_kept, without_trailing_blanks, trimmed}
use Rattle.deb_base.proofs.GraphicBodies.{IsGraphic, not_blank, ends}

-- what is cut off at the start
pub record IsLeadingCut (text rest : List ℕ) : Type 0 where
  pub cut : List ℕ
  pub is : text ≡ cut ++ rest
  pub blank : is_all_blank cut ≡ true
  pub begins : begins_with_blank rest ≡ false

pub leading_cut : (text : List ℕ) → IsLeadingCut text (without_leading_blanks text)
leading_cut [] = record { cut = []; is = refl; blank = refl; begins = refl }
leading_cut (b ∷ bs) = go (is_blank_byte b) refl (leading_cut bs)
  where
    go : (t : Bool) → is_blank_byte b ≡ t → IsLeadingCut bs (without_leading_blanks bs) → IsLeadingCut (b ∷ bs) (cond t (without_leading_blanks bs) (b ∷ bs))
    go true e r = record { cut = b ∷ r.cut; is = ap (λ l. b ∷ l) r.is; blank = rw e r.blank; begins = r.begins }
    go false e r = record { cut = []; is = refl; blank = refl; begins = e }

-- what is cut off at the end
pub record IsTrailingCut (text rest : List ℕ) : Type 0 where
  pub cut : List ℕ
  pub is : text ≡ rest ++ cut
  pub blank : is_all_blank cut ≡ true
  pub ends : ends_with_blank rest ≡ false

pub trailing_cut : (text : List ℕ) → IsTrailingCut text (without_trailing_blanks text)
trailing_cut [] = record { cut = []; is = refl; blank = refl; ends = refl }
trailing_cut (b ∷ bs) = go (without_trailing_blanks bs) (trailing_cut bs)
  where
    none : (t : Bool) → is_blank_byte b ≡ t → (cut : List ℕ) → bs ≡ cut → is_all_blank cut ≡ true → IsTrailingCut (b ∷ bs) (cond t [] (b ∷ []))
    none true e cut is blank = record { cut = b ∷ cut; is = ap (λ l. b ∷ l) is; blank = rw e blank; ends = refl }
    none false e cut is blank = record { cut = cut; is = ap (λ l. b ∷ l) is; blank = blank; ends = e }

    go : (kept : List ℕ) → IsTrailingCut bs kept → IsTrailingCut (b ∷ bs) (with_kept b kept)
    go [] r = none (is_blank_byte b) refl r.cut r.is r.blank
    go (c ∷ cs) r = record { cut = r.cut; is = ap (λ l. b ∷ l) r.is; blank = r.blank; ends = r.ends }

-- to cut at the end leaves a prefix
pub begins-without_trailing : (text : List ℕ) → begins_with_blank text ≡ false → begins_with_blank (without_trailing_blanks text) ≡ false
begins-without_trailing [] h = refl
begins-without_trailing (b ∷ bs) h = go (without_trailing_blanks bs)
  where
    go : (kept : List ℕ) → begins_with_blank (with_kept b kept) ≡ false
    go [] = rw h h
    go (c ∷ cs) = h

-- A text with all that is cut off at its ends.
pub record IsTrimmed (text body : List ℕ) : Type 0 where
  pub before : List ℕ
  pub after : List ℕ
  pub is : text ≡ before ++ (body ++ after)
  pub before_blank : is_all_blank before ≡ true
  pub after_blank : is_all_blank after ≡ true
  pub begins : begins_with_blank body ≡ false
  pub ends : ends_with_blank body ≡ false

pub trimmed_cut : (text : List ℕ) → IsTrimmed text (trimmed text)
trimmed_cut text =
    let front = leading_cut text in
    let end = trailing_cut (without_leading_blanks text) in
    record {
      before = front.cut;
      after = end.cut;
      is = front.is ∙ ap (λ l. front.cut ++ l) end.is;
      before_blank = front.blank;
      after_blank = end.blank;
      begins = begins-without_trailing (without_leading_blanks text) front.begins;
      ends = end.ends;
    }

leading-append : (before text : List ℕ) → is_all_blank before ≡ true → without_leading_blanks (before ++ text) ≡ without_leading_blanks text
leading-append [] text h = refl
leading-append (b ∷ before) text h = let p = and_parts (is_blank_byte b) (is_all_blank before) h in rw p.0 (leading-append before text p.1)

leading-all : (text : List ℕ) → is_all_blank text ≡ true → without_leading_blanks text ≡ []
leading-all [] h = refl
leading-all (b ∷ text) h = let p = and_parts (is_blank_byte b) (is_all_blank text) h in rw p.0 (leading-all text p.1)

trailing-all : (text : List ℕ) → is_all_blank text ≡ true → without_trailing_blanks text ≡ []
trailing-all [] h = refl
trailing-all (b ∷ text) h = let p = and_parts (is_blank_byte b) (is_all_blank text) h in rw (trailing-all text p.1, p.0)

trailing-append : (text after : List ℕ) → is_all_blank after ≡ true → without_trailing_blanks (text ++ after) ≡ without_trailing_blanks text
trailing-append [] after h = trailing-all after h
trailing-append (b ∷ text) after h = ap (with_kept b) (trailing-append text after h)

trailing-none : (text : List ℕ) → ends_with_blank text ≡ false → without_trailing_blanks text ≡ text
trailing-none [] h = refl
trailing-none (b ∷ []) h = rw h
trailing-none (b ∷ c ∷ text) h = ap (with_kept b) (trailing-none (c ∷ text) h)

leading-none : (text : List ℕ) → begins_with_blank text ≡ false → without_leading_blanks text ≡ text
leading-none [] h = refl
leading-none (b ∷ text) h = rw h

-- a body after one blank
pub trimmed-after_blank : (b : ℕ) (body : List ℕ) → is_blank_byte b ≡ true → begins_with_blank body ≡ false → ends_with_blank body ≡ false → trimmed (b ∷ body) ≡ body
trimmed-after_blank b body hb begins ends =
    ap without_trailing_blanks (leading-append (b ∷ []) body (rw hb refl) ∙ leading-none body begins) ∙ trailing-none body ends

-- the body between runs of blanks is what the cut gives
pub trimmed-between : (before body after : List ℕ) → is_all_blank before ≡ true → is_all_blank after ≡ true → begins_with_blank body ≡ false → ends_with_blank body ≡ false → trimmed (before ++ (body ++ after)) ≡ body
trimmed-between before [] after hb ha begins ends = ap without_trailing_blanks (leading-append before after hb ∙ leading-all after ha)
trimmed-between before (b ∷ body) after hb ha begins ends =
    ap without_trailing_blanks (leading-append before ((b ∷ body) ++ after) hb ∙ leading-none ((b ∷ body) ++ after) begins)
    ∙ trailing-append (b ∷ body) after ha
    ∙ trailing-none (b ∷ body) ends

-- graphic bytes stay, and the blanks after them don't
pub trailing-graphic : (text after : List ℕ) → AllByRecursion IsGraphic text → is_all_blank after ≡ true → without_trailing_blanks (text ++ after) ≡ text
trailing-graphic text after g h = trailing-append text after h ∙ trailing-none text (ends text g)

-- some graphic bytes, with blanks around them
pub trimmed-graphic : (before : List ℕ) (b : ℕ) (text after : List ℕ) → is_all_blank before ≡ true → is_all_blank after ≡ true → AllByRecursion IsGraphic (b ∷ text) → trimmed (before ++ (b ∷ text ++ after)) ≡ b ∷ text
trimmed-graphic before b text after hb ha g = trimmed-between before (b ∷ text) after hb ha (not_blank b g.0) (ends (b ∷ text) g)

kept : (x : ℕ) (xs : List ℕ) (b : ℕ) → with_kept x (xs ++ b ∷ []) ≡ x ∷ (xs ++ b ∷ [])
kept x [] b = refl
kept x (y ∷ ys) b = refl

push-other : (xs : List ℕ) (b : ℕ) → is_blank_byte b ≡ false → without_trailing_blanks (xs ++ b ∷ []) ≡ xs ++ b ∷ []
push-other [] b is = ap (λ t. cond t [] (b ∷ [])) is
push-other (x ∷ xs) b is = ap (with_kept x) (push-other xs b is) ∙ kept x xs b

-- of the first bytes of a text, a last one that is blank is cut, and another one ends what is left
module _ (text : List ℕ) (n : ℕ) (some : 0 < n) (within : n ≤ length text) where
  last : take n text ≡ take (n - 1) text ++ slice_index text (n - 1) ∷ []
  last = let e : n ≡ n - 1 + 1 = omega arith in ap (λ k. take k text) e ∙ take_more text (n - 1) 0 (omega arith)

  pub without_trailing_blanks-blank : is_blank_byte (slice_index text (n - 1)) ≡ true → without_trailing_blanks (take n text) ≡ without_trailing_blanks (take (n - 1) text)
  without_trailing_blanks-blank is = ap without_trailing_blanks last ∙ trailing-append (take (n - 1) text) (slice_index text (n - 1) ∷ []) (rw is refl)

  pub without_trailing_blanks-other : is_blank_byte (slice_index text (n - 1)) ≡ false → without_trailing_blanks (take n text) ≡ take n text
  without_trailing_blanks-other is = ap without_trailing_blanks last ∙ push-other (take (n - 1) text) (slice_index text (n - 1)) is ∙ sym last
