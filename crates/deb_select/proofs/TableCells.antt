-- The cells of a line of a table, one after another.
use Rattle.std.proofs.Common.{◌≡◌, ℕ, ◌+◌, ◌<◌, ◌&&◌, Bool, true, false, is_some, List, [], ◌∷◌, ◌++◌, get_or, length, map, take, Option, None, Some, option_map, sym, ap, ◌∙◌, append_assoc, append-nil}
use Rattle.std.proofs.lemmas.List.{map-append}
use Rattle.std.specs.FinMap.{find}
use Rattle.std.specs.List.{flat_map}
use Rattle.deb_base.specs.Names.{canonical_name}
use Rattle.deb_base.specs.declared.doc.Doc.{Doc}
use Rattle.deb_syntax.specs.Answers.{Seen}
use Rattle.deb_syntax.specs.Meaning.{byte_order, entries_of}
use Rattle.deb_field.specs.ValueLaws.{value_law}
use Rattle.deb_field.specs.Values.{SpellsValue, ValueMeaning, value_text}
use Rattle.deb_control.specs.FieldWords.{value_under}
use Rattle.deb_control.specs.Paragraphs.{AreValuesOf}
use Rattle.deb_control.specs.PassingValues.{HasValue}
use Rattle.deb_control.specs.ValueFiles.{ValueEntries}
use Rattle.deb_control.proofs.ValueBodies.{one_paragraph}
use Rattle.deb_select.specs.Tables.{cell, cell_byte, has_fields, more_cells}
use Rattle.deb_select.proofs.Collected.{one_more_taken}
use Rattle.deb_select.proofs.Outputs.{and-assoc, and-true}

-- the value under a name is that of any list of the paragraph's values
pub value_of_all : (doc : Doc) (seen : Seen) (name : List ℕ) (value : Option ValueMeaning) → HasValue doc seen name value → (values : ValueEntries ValueMeaning) → AreValuesOf doc seen values → value ≡ value_under name values
value_of_all doc seen name value has values are =
    has.found ∙ ap (find byte_order (canonical_name name)) (one_paragraph ValueMeaning (SpellsValue doc) value_text (value_law doc) (entries_of seen.fields) has.values values has.are.spelled are.spelled)

more_cells-push : (names : List (List ℕ)) (name : List ℕ) (values : ValueEntries ValueMeaning) → more_cells (names ++ name ∷ []) values ≡ more_cells names values ++ 9 ∷ cell (value_under name values)
more_cells-push [] name values = ap (λ l. 9 ∷ l) (append-nil (cell (value_under name values)))
more_cells-push (first ∷ names) name values =
    ap (λ l. 9 ∷ (cell (value_under first values) ++ l)) (more_cells-push names name values)
    ∙ ap (λ l. 9 ∷ l) (sym (append_assoc (cell (value_under first values)) (more_cells names values) (9 ∷ cell (value_under name values))))

pub cell_collected : {X : Type 0} (f : X → List ℕ) (values : ValueEntries ValueMeaning) (start old middle new : List ℕ) (xs : List X) (i : ℕ) (x : X) → middle ≡ old ++ 9 ∷ [] → new ≡ middle ++ cell (value_under (f x) values) → i < length xs → x ≡ get_or xs i x
    → old ≡ start ++ more_cells (map f (take i xs)) values → new ≡ start ++ more_cells (map f (take (i + 1) xs)) values
cell_collected f values start old middle new xs i x tab is below item so_far =
    is ∙ ap (λ l. l ++ cell (value_under (f x) values)) (tab ∙ ap (λ l. l ++ 9 ∷ []) so_far)
    ∙ append_assoc (start ++ more_cells (map f (take i xs)) values) (9 ∷ []) (cell (value_under (f x) values))
    ∙ append_assoc start (more_cells (map f (take i xs)) values) (9 ∷ cell (value_under (f x) values))
    ∙ ap (λ l. start ++ l)
    (sym (more_cells-push (map f (take i xs)) (f x) values)
    ∙ ap (λ names. more_cells names values) (sym (map-append f (take i xs) (x ∷ [])) ∙ ap (map f) (sym (one_more_taken xs i x below item))))

fields-push : (names : List (List ℕ)) (name : List ℕ) (values : ValueEntries ValueMeaning) → has_fields (names ++ name ∷ []) values ≡ (has_fields names values && is_some (value_under name values))
fields-push [] name values = and-true (is_some (value_under name values))
fields-push (first ∷ names) name values =
    ap (λ b. is_some (value_under first values) && b) (fields-push names name values)
    ∙ and-assoc (is_some (value_under first values)) (has_fields names values) (is_some (value_under name values))

pub there_collected : {X : Type 0} (f : X → List ℕ) (values : ValueEntries ValueMeaning) (old there : Bool) (xs : List X) (i : ℕ) (x : X) → there ≡ is_some (value_under (f x) values) → i < length xs → x ≡ get_or xs i x
    → old ≡ has_fields (map f (take i xs)) values → (old && there) ≡ has_fields (map f (take (i + 1) xs)) values
there_collected f values old there xs i x is below item so_far =
    ap (λ b. b && there) so_far ∙ ap (λ b. has_fields (map f (take i xs)) values && b) is
    ∙ sym (fields-push (map f (take i xs)) (f x) values)
    ∙ ap (λ names. has_fields names values) (sym (map-append f (take i xs) (x ∷ [])) ∙ ap (map f) (sym (one_more_taken xs i x below item)))

module _ {X : Type 0} (f : X → ValueMeaning) (doc : Doc) (seen : Seen) (name : List ℕ) (o : Option X) (has : HasValue doc seen name (option_map f o)) (values : ValueEntries ValueMeaning) (are : AreValuesOf doc seen values) where
  pub no_cell : o ≡ None → (out : List ℕ) → out ≡ out ++ cell (value_under name values)
  no_cell none out =
      sym (append-nil out)
      ∙ ap (λ v. out ++ cell v) (sym (ap (option_map f) none) ∙ value_of_all doc seen name (option_map f o) has values are)

  pub none_there : o ≡ None → false ≡ is_some (value_under name values)
  none_there none = ap is_some (sym (ap (option_map f) none) ∙ value_of_all doc seen name (option_map f o) has values are)

  pub one_there : (x : X) → o ≡ Some x → true ≡ is_some (value_under name values)
  one_there x some = ap is_some (sym (ap (option_map f) some) ∙ value_of_all doc seen name (option_map f o) has values are)

  pub one_cell : (x : X) → o ≡ Some x → (text : List ℕ) → text ≡ value_text (f x) → (out new : List ℕ) → new ≡ out ++ flat_map cell_byte text → new ≡ out ++ cell (value_under name values)
  one_cell x some text is out new pushed =
      pushed
      ∙ ap (λ l. out ++ l)
      (ap (flat_map cell_byte) is ∙ ap cell (sym (ap (option_map f) some) ∙ value_of_all doc seen name (option_map f o) has values are))
