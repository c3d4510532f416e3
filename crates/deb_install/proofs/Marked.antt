-- A paragraph marks its package by its fields exactly if it does by its values.
use Rattle.std.proofs.Common.{◌≡◌, ℕ, true, Option, None, Some, List, codes, refl, sym, ap, ◌∙◌}
use Rattle.std.specs.FinMap.{find}
use Rattle.std.specs.Str.{bytes_eq}
use Rattle.deb_base.specs.Kinds.{kind_at, kind_of, known_row}
use Rattle.deb_base.specs.Names.{canonical_name}
use Rattle.deb_syntax.specs.Answers.{Seen}
use Rattle.deb_syntax.specs.Fields.{Field, are_fields}
use Rattle.deb_syntax.specs.Meaning.{byte_order, entries_of}
use Rattle.deb_syntax.specs.Raw.{field_named}
use Rattle.deb_syntax.proofs.JudgingLawsMeaning.{body_at-entries_of}
use Rattle.deb_field.specs.Flags.{SpellsFlag}
use Rattle.deb_field.specs.ValueLaws.{value_law}
use Rattle.deb_field.specs.Values.{FlagMeans, SpellsValue, ValueMeaning, value_text}
use Rattle.deb_field.specs.declared.flag.Flag.{Flag}
use Rattle.deb_field.specs.declared.flag.Flag.TheVariants.{No, Yes}
use Rattle.deb_control.specs.FieldWords.{value_under}
use Rattle.deb_control.specs.Paragraphs.{AreValuesOf}
use Rattle.deb_control.specs.PassingValues.{HasValue}
use Rattle.deb_control.specs.ValueFiles.{ValueEntries}
use Rattle.deb_control.proofs.Building.{distinct-from}
use Rattle.deb_control.proofs.PassingParagraphs.{field-body, none-passing}
use Rattle.deb_control.proofs.ValueBodies.{value_at}
use Rattle.std.specs.Prelude.{is_ok}
use Rattle.deb_index.specs.Members.{doc_of}
use Rattle.deb_index.specs.VersionSpellings.{body_or_nothing}
use Rattle.deb_index.specs.declared.members.Members.{Members}
use Rattle.deb_index.specs.declared.members.Members.TheVariants.{All, Installed}
use Rattle.deb_index.proofs.Installed.{one_list_of}
use Rattle.deb_install.specs.Keeping.{is_marked_by}
use Rattle.deb_install.specs.Terms.{is_marked, says_yes, says_yes_in}

-- a word that spells a flag is `yes` exactly if the flag is
word-flag : (body : List ℕ) (flag : Flag) → SpellsFlag body flag → bytes_eq body (codes "yes") ≡ says_yes_in (FlagMeans flag)
word-flag body Yes is = ap (λ b. bytes_eq b (codes "yes")) is
word-flag body No is = ap (λ b. bytes_eq b (codes "yes")) is

spelled-flag : (members : Members) (body : List ℕ) (v : ValueMeaning) → SpellsValue (doc_of members) (canonical_name (codes "Essential")) body v → bytes_eq body (codes "yes") ≡ says_yes_in v
unfolding kind_of kind_at known_row
spelled-flag All body v is = word-flag body is.0 is.2 ∙ ap says_yes_in (sym is.1)
spelled-flag Installed body v is = word-flag body is.0 is.2 ∙ ap says_yes_in (sym is.1)

module _ (members : Members) (seen : Seen) (fields : are_fields seen.fields ≡ true) (values : ValueEntries ValueMeaning) (are : AreValuesOf (doc_of members) seen values) where
  pub marked-same : is_marked_by seen.fields ≡ is_marked values
  marked-same = go (field_named (codes "Essential") seen.fields) refl
    where
      under : HasValue (doc_of members) seen (codes "Essential") None → value_under (codes "Essential") values ≡ None
      under has = ap (find byte_order (canonical_name (codes "Essential"))) (one_list_of (doc_of members) seen values has.values are has.are) ∙ sym has.found

      go : (f : Option Field) → field_named (codes "Essential") seen.fields ≡ f → is_marked_by seen.fields ≡ is_marked values
      go None is =
          ap (λ o. bytes_eq (body_or_nothing o) (codes "yes")) is
          ∙ sym (ap says_yes (under (none-passing (doc_of members) seen (ap is_ok are.passes) fields (codes "Essential") is)))
      go (Some field) is =
          let entry : find byte_order (canonical_name (codes "Essential")) (entries_of seen.fields) ≡ Some field.body =
          body_at-entries_of seen.fields (distinct-from seen.fields fields) (codes "Essential") ∙ (field-body (codes "Essential") seen.fields field is).0 in
          let at = value_at ValueMeaning (SpellsValue (doc_of members)) value_text (value_law (doc_of members)) (canonical_name (codes "Essential")) field.body (entries_of seen.fields) values are.spelled entry in
          ap (λ o. bytes_eq (body_or_nothing o) (codes "yes")) is
          ∙ spelled-flag members field.body at.0 at.1
          ∙ sym (ap says_yes at.2)
