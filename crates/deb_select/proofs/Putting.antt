-- What is put of a paragraph that is selected.
use Rattle.std.proofs.Common.{◌≡◌, ℕ, ◌==◌, Bool, true, false, cond, List, [], ◌∷◌, ◌++◌, length, Option, Some, option_map, Ok, Err, refl, sym, ap, ◌∙◌, subst}
use Rattle.std.specs.Io.KnownBytes.{Appends}
use Rattle.deb_base.specs.Bodies.{newline, pieces_of}
use Rattle.deb_base.specs.Devices.{AppendsFront}
use Rattle.deb_base.specs.declared.doc.Doc.{Doc}
use Rattle.deb_base.specs.declared.fault.Fault.{Fault}
use Rattle.deb_base.specs.declared.fault.Fault.TheVariants.{Refused, Memory, Read, Write}
use Rattle.deb_syntax.specs.Answers.{Seen}
use Rattle.deb_syntax.specs.Fields.{Field}
use Rattle.deb_syntax.specs.Lines.{Paragraph, with_newlines}
use Rattle.deb_field.specs.Values.{ValueMeaning}
use Rattle.deb_control.specs.Paragraphs.{AreValuesOf}
use Rattle.deb_control.specs.ValueFiles.{ValueEntries}
use Rattle.deb_select.specs.Conditions.{SelectionMeaning, selects}
use Rattle.deb_select.specs.Forms.{FormMeaning, after_gap, begins, fills, piece}
use Rattle.deb_select.specs.Selecting.{PutsPiece, PutsSelected}
use Rattle.deb_select.specs.Selections.{HasConditions}
use Rattle.deb_select.specs.Written.{gap}
use Rattle.deb_select.specs.declared.selection.Selection.{Selection}
use Rattle.deb_select.specs.declared.writing.Piece.{Piece}
use Rattle.deb_select.proofs.WrittenTexts.{ended_pieces}

-- the lines of the paragraph that was found are those of its text
pub own_lines : (text : List ℕ) (p : Paragraph) (last : Option Paragraph) → last ≡ Some p → Some (pieces_of text) ≡ option_map (λ p. p.lines) last → p.lines ≡ pieces_of text
own_lines text p last is shown = sym (some_same (shown ∙ ap (option_map (λ p. p.lines)) is))
  where
    some_same : {X : Type 0} {a b : X} → Some a ≡ Some b → a ≡ b
    some_same same = cc

-- and the number of its first line and its fields are those of its view
pub own_first : (shown seen : Seen) (p : Paragraph) → Some shown ≡ Some seen → seen.first ≡ p.first → shown.first ≡ p.first
own_first shown seen p same first = ap (λ s. s.first) some_same ∙ first
  where
    some_same : shown ≡ seen
    some_same = cc

pub own_fields : (shown seen : Seen) (fields : List Field) → Some shown ≡ Some seen → seen.fields ≡ fields → shown.fields ≡ fields
own_fields shown seen fields same is = ap (λ s. s.fields) some_same ∙ is
  where
    some_same : shown ≡ seen
    some_same = cc

pub piece_text : (begun : Bool) (text : List ℕ) (p : Paragraph) → p.lines ≡ pieces_of text → gap begun ++ (text ++ newline ∷ []) ≡ gap begun ++ with_newlines p.lines
piece_text begun text p lines = ap (λ l. gap begun ++ l) (sym (ended_pieces text) ∙ ap with_newlines (sym lines))

pub gap_before : (begun : Bool) (lines : List ℕ) → (length lines == 0) ≡ false → after_gap begun lines ≡ gap begun ++ lines
gap_before begun [] some = absurd (cc)
gap_before begun (b ∷ bs) some = refl

-- what is put of a paragraph that is selected
pub selected_fault : (form : FormMeaning) (begun : Bool) (selection : SelectionMeaning) (values : ValueEntries ValueMeaning) (p : Paragraph) (fault : Fault) (old new : Option (List ℕ)) → true ≡ selects selection values → PutsPiece form begun values p (Err fault) old new → PutsSelected form begun selection values p (Err fault) old new
selected_fault form begun selection values p (Refused refusal) old new is puts = puts
selected_fault form begun selection values p Memory old new is puts = puts
selected_fault form begun selection values p Read old new is puts = puts
selected_fault form begun selection values p Write old new is puts = subst (AppendsFront old new) (ap (λ t. cond t (piece form begun values p) []) is) puts

pub selected_put : (form : FormMeaning) (begun : Bool) (selection : SelectionMeaning) (values : ValueEntries ValueMeaning) (p : Paragraph) (done : Piece) (old new : Option (List ℕ)) → true ≡ selects selection values → PutsPiece form begun values p (Ok done) old new → PutsSelected form begun selection values p (Ok (record { selected = true; begun = done.begun; full = done.full })) old new
selected_put form begun selection values p done old new is puts = (
  is,
  puts.0 ∙ ap (λ t. cond t (begins form begun p) begun) is,
  puts.1 ∙ ap (λ t. cond t (fills form values) true) is,
  subst (Appends old new) (ap (λ t. cond t (piece form begun values p) []) is) puts.2,
)

pub are_in_view : (doc view_doc : Doc) (seen view_seen : Seen) (values : ValueEntries ValueMeaning) → view_doc ≡ doc → Some view_seen ≡ Some seen → AreValuesOf doc seen values → AreValuesOf view_doc view_seen values
are_in_view doc view_doc seen view_seen values kind same are = subst (λ s. AreValuesOf view_doc s values) (sym some_same) (subst (λ d. AreValuesOf d seen values) (sym kind) are)
  where
    some_same : view_seen ≡ seen
    some_same = cc

-- what was answered of the view of a paragraph holds of the paragraph
pub answered_view : (selection : Selection) (doc view_doc : Doc) (seen view_seen : Seen) (asked : SelectionMeaning) (values : ValueEntries ValueMeaning) (answer : Bool) → view_doc ≡ doc → Some view_seen ≡ Some seen → HasConditions doc asked selection → AreValuesOf doc seen values
    → ((asked : SelectionMeaning) (values : ValueEntries ValueMeaning) → HasConditions view_doc asked selection → AreValuesOf view_doc view_seen values → answer ≡ selects asked values) → answer ≡ selects asked values
answered_view selection doc view_doc seen view_seen asked values answer kind same has are answers =
    answers asked values (subst (λ d. HasConditions d asked selection) (sym kind) has)
    (subst (λ s. AreValuesOf view_doc s values) (sym some_same) (subst (λ d. AreValuesOf d seen values) (sym kind) are))
  where
    some_same : view_seen ≡ seen
    some_same = cc
