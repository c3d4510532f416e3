-- The values that were visited of a paragraph that passes are its values.
use Rattle.std.proofs.Common.{◌≡◌, ℕ, Bool, true, false, List, [], ◌∷◌, cond, Option, None, Some, IfSome, refl, sym, ap, ◌∙◌, subst}
use Rattle.std.proofs.lemmas.Bool.{or_parts}
use Rattle.std.proofs.lemmas.Slice.Eq.{bytes_eq-Decides}
use Rattle.std.specs.List.{AllByRecursion, fold, list_any}
use Rattle.std.specs.Str.{bytes_eq}
use Rattle.deb_base.specs.Names.{canonical_name, folded}
use Rattle.deb_base.specs.declared.doc.Doc.{Doc}
use Rattle.deb_syntax.specs.Answers.{Seen}
use Rattle.deb_syntax.specs.Fields.{AreDistinct, Field, has_name}
use Rattle.deb_syntax.specs.Raw.{field_named}
use Rattle.deb_field.specs.Values.{SpellsValue, ValueMeaning}
use Rattle.deb_control.proofs.Building.{distinct-from}
use Rattle.deb_control.proofs.PassingParagraphs.{field-body, none-passing, value-passing}
use Rattle.deb_control.specs.PassingValues.{HasValue}
use Rattle.deb_control.specs.Visiting.{IsVisit, Visit, VisitsValues, fields_visited}
use Rattle.deb_control.specs.ShownValues.{ShownValues, none_shown, shown_of, shown_with}

-- What was visited last under a name is the value that the body of its field spells, or nothing where there is no such field.
abbrev IsShown : Doc → List Field → List ℕ → Option ValueMeaning → Type 0
IsShown doc fields name None = field_named name fields ≡ None
IsShown doc fields name (Some value) = (field : Field) × (field_named name fields ≡ Some field) × SpellsValue doc (canonical_name field.name) field.body value

abbrev shown_after : ShownValues → List Visit → ShownValues
shown_after shown visited = fold (λ before visit. shown_with visit.0.name visit.1 before) shown visited

shown-same : (name : List ℕ) (visited : List Visit) (shown : ShownValues) → has_name name (fields_visited visited) ≡ false → shown_after shown visited name ≡ shown name
shown-same name [] shown none = refl
shown-same name (visit ∷ visited) shown none =
    let p = or_parts (bytes_eq (folded visit.0.name) (folded name)) (has_name name (fields_visited visited)) none in
    shown-same name visited (shown_with visit.0.name visit.1 shown) p.1 ∙ ap (λ t. cond t (Some visit.1) (shown name)) p.0

IsShown-behind : (doc : Doc) (fields more : List Field) (name : List ℕ) (o : Option ValueMeaning) → field_named name more ≡ field_named name fields → IsShown doc fields name o → IsShown doc more name o
IsShown-behind doc fields more name None e is = e ∙ is
IsShown-behind doc fields more name (Some value) e is = (is.0, e ∙ is.1, is.2)

IsShown-after : (doc : Doc) (name : List ℕ) (visited : List Visit) (shown : ShownValues) → AreDistinct (fields_visited visited) → AllByRecursion (IsVisit doc) visited → shown name ≡ None → IsShown doc (fields_visited visited) name (shown_after shown visited name)
IsShown-after doc name [] shown distinct spelled none = subst (IsShown doc [] name) (sym none) refl
IsShown-after doc name (visit ∷ visited) shown distinct spelled none = go (bytes_eq (folded visit.0.name) (folded name)) refl (IsShown-after doc name visited (shown_with visit.0.name visit.1 shown) distinct.1 spelled.1)
  where
    fields : List Field
    fields = fields_visited visited

    now : ShownValues
    now = shown_with visit.0.name visit.1 shown

    go : (t : Bool) → bytes_eq (folded visit.0.name) (folded name) ≡ t → (now name ≡ None → IsShown doc fields name (shown_after now visited name)) → IsShown doc (visit.0 ∷ fields) name (shown_after now visited name)
    go true e behind =
        let apart = subst (λ n. list_any (λ f. bytes_eq (folded f.name) n) fields ≡ false) ((bytes_eq-Decides (folded visit.0.name) (folded name)).0 e) distinct.0 in
        let last = shown-same name visited now apart ∙ ap (λ t. cond t (Some visit.1) (shown name)) e in
        subst (IsShown doc (visit.0 ∷ fields) name) (sym last) (visit.0, ap (λ t. cond t (Some visit.0) (field_named name fields)) e, spelled.0)
    go false e behind =
        IsShown-behind doc fields (visit.0 ∷ fields) name (shown_after now visited name) (ap (λ t. cond t (Some visit.0) (field_named name fields)) e)
        (behind (ap (λ t. cond t (Some visit.1) (shown name)) e ∙ none))

-- the value that was visited last under a name is the paragraph's, and a body spells it
module _ {V : Type 0} (Visited : V → List Visit → Type 0) (visitor : V) (doc : Doc) (seen : Seen) (visits : VisitsValues Visited visitor doc seen) (name : List ℕ) where
  is_shown : IsShown doc seen.fields name (shown_of visits.visited name)
  is_shown =
      subst (λ all. IsShown doc all name (shown_of visits.visited name)) visits.all
      (IsShown-after doc name visits.visited none_shown (subst AreDistinct (sym visits.all) (distinct-from seen.fields visits.fields)) visits.spelled refl)

  pub shown-value : HasValue doc seen name (shown_of visits.visited name)
  shown-value = has (shown_of visits.visited name) is_shown
    where
      has : (o : Option ValueMeaning) → IsShown doc seen.fields name o → HasValue doc seen name o
      has None is = none-passing doc seen visits.passes visits.fields name is
      has (Some value) is = value-passing doc seen visits.passes visits.fields name is.0 value is.1 is.2

  pub shown-spelled : IfSome (shown_of visits.visited name) (λ value. (body : List ℕ) × SpellsValue doc (canonical_name name) body value)
  shown-spelled = spelled (shown_of visits.visited name) is_shown
    where
      spelled : (o : Option ValueMeaning) → IsShown doc seen.fields name o → IfSome o (λ value. (body : List ℕ) × SpellsValue doc (canonical_name name) body value)
      spelled None is = tt
      spelled (Some value) is = (is.0.body, subst (λ n. SpellsValue doc n is.0.body value) (field-body name seen.fields is.0 is.1).1 is.2)
