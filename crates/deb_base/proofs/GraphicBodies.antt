-- A nonempty text of graphic ASCII bytes can be a field's body.
use Rattle.std.proofs.Common.{◌≡◌, ℕ, ◌<◌, ◌==◌, ◌≤◌, false, List, [], ◌∷◌, drop, refl, sym, ap, ◌∙◌, subst, append-nil, arith}
use Rattle.std.proofs.lemmas.Bool.Decides.{nat_tests}
use Rattle.std.proofs.lemmas.Str.{IsUtf8-nil}
use Rattle.std.specs.List.{AllByRecursion}
use Rattle.std.specs.Str.{IsUtf8}
use Rattle.deb_base.specs.Bodies.{newline, pieces_of, is_blank_byte, HasNoNewline}
use Rattle.deb_base.specs.Bodies.{begins_with_blank, ends_with_blank}
use Rattle.deb_base.proofs.AllElements.{All-weaker}
use Rattle.deb_base.proofs.LaterPieces.{later_pieces-append}
use Rattle.deb_base.proofs.FieldBytes.{IsUtf8-with_all_ascii}
use Rattle.deb_base.specs.Bodies.{IsBody}

abbrev pub IsGraphic : ℕ → Type 0
IsGraphic b = (33 ≤ b) × (b < 127)

pub not_blank : (b : ℕ) → IsGraphic b → is_blank_byte b ≡ false
not_blank b h = grind (arith, nat_tests)

-- graphic, or a space
abbrev pub IsPlain : ℕ → Type 0
IsPlain b = (32 ≤ b) × (b < 127)

pub graphic_plain : (b : ℕ) → IsGraphic b → IsPlain b
graphic_plain b h = (omega (arith, h.0), h.1)

plain_newline : (b : ℕ) → IsPlain b → (b == newline) ≡ false
plain_newline b h = grind (arith, nat_tests)

pub begins : (text : List ℕ) → AllByRecursion IsGraphic text → begins_with_blank text ≡ false
begins [] h = refl
begins (b ∷ bs) h = not_blank b h.0

pub ends : (text : List ℕ) → AllByRecursion IsGraphic text → ends_with_blank text ≡ false
ends [] h = refl
ends (b ∷ []) h = not_blank b h.0
ends (b ∷ c ∷ bs) h = ends (c ∷ bs) h.1

one_piece : (text : List ℕ) → HasNoNewline text → drop 1 (pieces_of text) ≡ []
one_piece text h = ap (λ t. drop 1 (pieces_of t)) (sym (append-nil text)) ∙ later_pieces-append text [] h

-- a text of one line that neither begins nor ends with a blank
pub IsBody-line : (text : List ℕ) → HasNoNewline text → begins_with_blank text ≡ false → ends_with_blank text ≡ false → IsUtf8 text → IsBody text
IsBody-line text line begins_not ends_not utf8 = record { shape = rw (begins_not, ends_not, one_piece text line) refl; text = utf8 }

-- a text of plain bytes that neither begins nor ends with a blank
pub IsBody-plain : (text : List ℕ) → AllByRecursion IsPlain text → begins_with_blank text ≡ false → ends_with_blank text ≡ false → IsBody text
IsBody-plain text plain begins_not ends_not =
    IsBody-line text (All-weaker IsPlain (λ b. (b == newline) ≡ false) plain_newline text plain) begins_not ends_not
    (subst IsUtf8 (append-nil text) (IsUtf8-with_all_ascii text [] (All-weaker IsPlain (λ b. b < 128) (λ b h. omega (arith, h.1)) text plain) IsUtf8-nil))

pub IsBody-graphic : (text : List ℕ) → AllByRecursion IsGraphic text → IsBody text
IsBody-graphic text h = IsBody-plain text (All-weaker IsGraphic IsPlain graphic_plain text h) (begins text h) (ends text h)
