-- A member is the same by its values and by its fields, and passes as a paragraph of an index of packages.
use Rattle.std.proofs.Common.{◌≡◌, ℕ, ◌≤◌, ◌&&◌, ◌||◌, Bool, true, false, cond, is_some, List, [], ◌∷◌, length, Option, None, Some, Ok, codes, refl, sym, ap, subst, ◌∙◌}
use Rattle.std.specs.FinMap.{find}
use Rattle.std.specs.List.{AllByRecursion, list_all}
use Rattle.std.specs.Str.{bytes_eq}
use Rattle.std.specs.Prelude.{is_ok}
use Rattle.deb_base.specs.Bodies.{paragraph_limit}
use Rattle.deb_base.specs.Kinds.{kind_at, kind_of, known_row, required}
use Rattle.deb_base.specs.Names.{folded}
use Rattle.deb_base.specs.declared.doc.Doc.{Doc}
use Rattle.deb_base.specs.declared.doc.Doc.TheVariants.{Packages, Status}
use Rattle.deb_syntax.specs.Answers.{Seen}
use Rattle.deb_syntax.specs.Fields.{AreDistinct, Field, are_fields, has_name}
use Rattle.deb_syntax.specs.Meaning.{Entries, byte_order, entries_of}
use Rattle.deb_syntax.specs.Raw.{field_named}
use Rattle.deb_field.specs.ValueLaws.{value_law}
use Rattle.deb_field.specs.Values.{SpellsValue, TextMeans, ValueMeaning, value_text}
use Rattle.deb_control.specs.Acceptance.{has_values}
use Rattle.deb_control.specs.Canonical.{paragraph_text}
use Rattle.deb_control.specs.Checking.{is_judged}
use Rattle.deb_control.specs.Documents.{rules_of}
use Rattle.deb_control.specs.Pairs.{Pairwise}
use Rattle.deb_control.specs.Paragraphs.{AreValuesOf}
use Rattle.deb_control.specs.PassingValues.{HasValue}
use Rattle.deb_control.specs.Refusals.{have_names, value_refusal_of}
use Rattle.deb_control.specs.ValueFiles.{SpellsEntry, ValueEntries}
use Rattle.deb_control.specs.Visiting.{IsVisit, Visit, VisitsValues}
use Rattle.deb_control.proofs.Building.{distinct-from}
use Rattle.deb_control.proofs.DocumentRules.{document_rules}
use Rattle.deb_control.proofs.FieldValues.{canonical-from_values, has_values-have_names, none-from_values}
use Rattle.deb_control.proofs.Passing.{built-from_parts, built-parts}
use Rattle.deb_control.proofs.PassingParagraphs.{field-body, none-passing, value-passing, values-passing}
use Rattle.deb_control.proofs.ValueBodies.{one_paragraph}
use Rattle.deb_index.specs.Installed.{has_member_fields, is_installed, is_member, is_member_by, member_fields, text_of}
use Rattle.deb_index.specs.Listing.{value_under}
use Rattle.deb_index.specs.Members.{doc_of, has_seen, has_values as has_member_values}
use Rattle.deb_index.specs.PackageBuilder.{KeepsVisited}
use Rattle.deb_index.specs.VersionSpellings.{body_or_nothing}
use Rattle.deb_index.specs.declared.members.Members.{Members}
use Rattle.deb_index.specs.declared.members.Members.TheVariants.{All, Installed}
use Rattle.deb_index.specs.declared.paragraph.PackageBuilder.{PackageBuilder}
use Rattle.deb_index.proofs.ListedValues.{and-parts}

-- a paragraph has one list of values
pub one_list_of : (doc : Doc) (seen : Seen) (values others : ValueEntries ValueMeaning) → AreValuesOf doc seen values → AreValuesOf doc seen others → values ≡ others
one_list_of doc seen values others are also = one_paragraph ValueMeaning (SpellsValue doc) value_text (value_law doc) (entries_of seen.fields) values others are.spelled also.spelled

-- bodies spell the values in a status file that they spell in an index of packages
same_spelled : (entries : Entries) (values : ValueEntries ValueMeaning) → Pairwise (SpellsEntry (SpellsValue Status)) entries values → Pairwise (SpellsEntry (SpellsValue Packages)) entries values
unfolding kind_of
same_spelled entries values spelled = spelled

same_visits : (visited : List Visit) → AllByRecursion (IsVisit Status) visited → AllByRecursion (IsVisit Packages) visited
unfolding kind_of
same_visits visited spelled = spelled

text-spelled : (body : List ℕ) → SpellsValue Status (codes "Status") body (TextMeans body)
unfolding kind_of kind_at known_row
text-spelled body = (body, refl, (refl, refl))

-- a name is among fields exactly if there is a field of the name
has_named : (name : List ℕ) (fields : List Field) → is_some (field_named name fields) ≡ has_name name fields
has_named name [] = refl
has_named name (field ∷ fields) = go (bytes_eq (folded field.name) (folded name)) (has_named name fields)
  where
    go : (t : Bool) → is_some (field_named name fields) ≡ has_name name fields → is_some (cond t (Some field) (field_named name fields)) ≡ (t || has_name name fields)
    go true h = refl
    go false h = h

have_named : (fields : List Field) (names : List (List ℕ)) → list_all (λ name. is_some (field_named name fields)) names ≡ have_names fields names
have_named fields [] = refl
have_named fields (name ∷ names) =
    ap (λ t. t && list_all (λ name. is_some (field_named name fields)) names) (has_named name fields)
    ∙ ap (λ t. has_name name fields && t) (have_named fields names)

module _ (seen : Seen) (fields : are_fields seen.fields ≡ true) (values : ValueEntries ValueMeaning) (are : AreValuesOf Status seen values) where
  distinct : AreDistinct seen.fields
  distinct = distinct-from seen.fields fields

  passes : is_judged Status seen ≡ true
  passes = ap is_ok are.passes

  -- the text of Status
  pub status_is : text_of (value_under (codes "Status") values) ≡ body_or_nothing (field_named (codes "Status") seen.fields)
  status_is = go (field_named (codes "Status") seen.fields) refl
    where
      under : (o : Option ValueMeaning) → HasValue Status seen (codes "Status") o → find byte_order (codes "Status") values ≡ o
      under o has = ap (find byte_order (codes "Status")) (one_list_of Status seen values has.values are has.are) ∙ sym has.found

      go : (f : Option Field) → field_named (codes "Status") seen.fields ≡ f → text_of (value_under (codes "Status") values) ≡ body_or_nothing f
      go None is = ap text_of (under None (none-passing Status seen passes fields (codes "Status") is))
      go (Some field) is =
          let named = (field-body (codes "Status") seen.fields field is).1 in
          let spells = subst (λ n. SpellsValue Status n field.body (TextMeans field.body)) (sym named) (text-spelled field.body) in
          ap text_of (under (Some (TextMeans field.body)) (value-passing Status seen passes fields (codes "Status") field (TextMeans field.body) is spells))

  named_is : has_values member_fields values ≡ has_member_fields seen.fields
  named_is = has_values-have_names (SpellsValue Status) seen.fields values distinct are.spelled member_fields ∙ sym (have_named seen.fields member_fields)

  pub same_member : is_member values ≡ is_member_by seen.fields
  same_member =
      ap (λ text. is_installed text && has_values member_fields values) status_is
      ∙ ap (λ t. is_installed (body_or_nothing (field_named (codes "Status") seen.fields)) && t) named_is

  -- with a version and an architecture nothing is missing
  pub passes_too : has_member_fields seen.fields ≡ true → AreValuesOf Packages seen values
  passes_too there =
      let named = sym (have_named seen.fields member_fields) ∙ there in
      let parts = built-parts (rules_of Status) seen _ (value_refusal_of (rules_of Status) seen.fields) refl are.passes in
      let spelled = same_spelled (entries_of seen.fields) values are.spelled in
      let good = none-from_values ValueMeaning (SpellsValue Packages) value_text (value_law Packages) (rules_of Packages) (document_rules Packages) seen.fields values distinct spelled in
      let here = canonical-from_values ValueMeaning (SpellsValue Packages) value_text (value_law Packages) (rules_of Packages) (document_rules Packages) seen.fields values distinct spelled in
      let there = canonical-from_values ValueMeaning (SpellsValue Status) value_text (value_law Status) (rules_of Status) (document_rules Status) seen.fields values distinct are.spelled in
      let short = subst (λ e. length (paragraph_text e) ≤ paragraph_limit) (there ∙ sym here) parts.short in
      let of_package : has_name (codes "Package") seen.fields ≡ true = (and-parts _ _ parts.named).0 in
      let all : have_names seen.fields (required Packages) ≡ true = ap (λ t. t && have_names seen.fields member_fields) of_package ∙ named in
      record { spelled = spelled; passes = built-from_parts (rules_of Packages) seen good all short ∙ ap Ok here }

-- the same of the members of either kind of file
pub same_has : (members : Members) (seen : Seen) → are_fields seen.fields ≡ true → (values : ValueEntries ValueMeaning) → AreValuesOf (doc_of members) seen values → has_member_values members values ≡ has_seen members seen
same_has All seen fields values are = refl
same_has Installed seen fields values are = same_member seen fields values are

pub member_passes : (members : Members) (seen : Seen) → are_fields seen.fields ≡ true → (values : ValueEntries ValueMeaning) → AreValuesOf (doc_of members) seen values → has_seen members seen ≡ true → AreValuesOf Packages seen values
member_passes All seen fields values are has = are
member_passes Installed seen fields values are has = passes_too seen fields values are (and-parts _ _ has).1

-- what was visited of a member
pub member_visits : (members : Members) (kept : PackageBuilder) (seen : Seen) → VisitsValues KeepsVisited kept (doc_of members) seen → has_seen members seen ≡ true → VisitsValues KeepsVisited kept Packages seen
member_visits All kept seen visits has = visits
member_visits Installed kept seen visits has =
    let values = values-passing Status seen visits.passes in
    let are = member_passes Installed seen visits.fields values.0 values.1 has in
    record {
      passes = ap is_ok are.passes;
      fields = visits.fields;
      visited = visits.visited;
      all = visits.all;
      spelled = same_visits visits.visited visits.spelled;
      visits = visits.visits;
    }
