-- What is kept of paragraphs that were given, and of a whole file.
use Rattle.std.proofs.Common.{◌≡◌, true, false, List, [], ◌∷◌, ◌++◌, sym, ap, ◌∙◌, subst}
use Rattle.std.specs.List.{filter}
use Rattle.deb_syntax.specs.Answers.{Seen}
use Rattle.deb_field.specs.Values.{ValueMeaning}
use Rattle.deb_control.specs.CheckedStates.{passing_judged}
use Rattle.deb_control.specs.FieldTexts.{HasTexts, KeepsTexts}
use Rattle.deb_control.specs.Pairs.{Pairwise}
use Rattle.deb_control.specs.Paragraphs.{AreValuesOf}
use Rattle.deb_control.specs.ValueFiles.{ValueEntries}
use Rattle.deb_control.specs.Visiting.{VisitsValues}
use Rattle.deb_control.specs.declared.checked_view.CheckedView.{CheckedView}
use Rattle.deb_control.specs.declared.field_texts.FieldTexts.{FieldTexts}
use Rattle.deb_control.proofs.GivenValues.{pairwise-push}
use Rattle.deb_control.proofs.KeptTexts.{has-texts}
use Rattle.deb_control.proofs.PassingParagraphs.{values-passing}
use Rattle.deb_health.specs.Kept.{HoldsMember}
use Rattle.deb_index.specs.Members.{doc_of, has_seen, has_values}
use Rattle.deb_index.specs.declared.members.Members.{Members}
use Rattle.deb_index.proofs.Filters.{filter-skips, filter-takes}
use Rattle.deb_index.proofs.Installed.{same_has}
use Rattle.deb_unmet.specs.Paragraphs.{fields_in}
use Rattle.deb_install.specs.Keeping.{HoldsGiven, HoldsValues, is_marked_by}
use Rattle.deb_install.specs.declared.kept.KeptMember.{KeptMember}
use Rattle.deb_install.proofs.Marked.{marked-same}

pub none_held : (members : Members) (kept : List KeptMember) → kept ≡ [] → HoldsGiven members kept []
none_held members kept is = record { meaning = []; are = tt; holds = subst (Pairwise HoldsValues []) (sym is) tt }

module _ (members : Members) (held : List KeptMember) (given : List Seen) (holds : HoldsGiven members held given) (texts : FieldTexts) (seen : Seen) (visits : VisitsValues KeepsTexts texts (doc_of members) seen) where
  abbrev found : (values : ValueEntries ValueMeaning) × AreValuesOf (doc_of members) seen values
  found = values-passing (doc_of members) seen visits.passes

  pub one_held : (view : CheckedView) (kept : KeptMember) → (passing_judged view).seen ≡ seen → has_seen members seen ≡ true → ((values : ValueEntries ValueMeaning) → HasTexts texts values → HoldsMember (fields_in view) values kept.texts) → kept.is_marked ≡ is_marked_by (fields_in view) → HoldsGiven members (held ++ kept ∷ []) (given ++ seen ∷ [])
  one_held view kept same has of_values marked =
      let texts_are = has-texts texts (doc_of members) seen visits found.0 found.1 in
      let is_member : has_values members found.0 ≡ true = same_has members seen visits.fields found.0 found.1 ∙ has in
      record {
        meaning = holds.meaning ++ found.0 ∷ [];
        are = pairwise-push (AreValuesOf (doc_of members)) given holds.meaning seen found.0 holds.are found.1;
        holds = subst (λ ms. Pairwise HoldsValues ms (held ++ kept ∷ [])) (sym (filter-takes (has_values members) holds.meaning found.0 is_member))
            (pairwise-push HoldsValues (filter (has_values members) holds.meaning) held found.0 kept holds.holds (record {
              fields = fields_in view;
              holds = of_values found.0 texts_are;
              marked = marked ∙ ap (λ s. is_marked_by s.fields) same ∙ marked-same members seen visits.fields found.0 found.1;
            }));
      }

  pub other_held : has_seen members seen ≡ false → HoldsGiven members held (given ++ seen ∷ [])
  other_held has =
      let is_none : has_values members found.0 ≡ false = same_has members seen visits.fields found.0 found.1 ∙ has in
      record {
        meaning = holds.meaning ++ found.0 ∷ [];
        are = pairwise-push (AreValuesOf (doc_of members)) given holds.meaning seen found.0 holds.are found.1;
        holds = subst (λ ms. Pairwise HoldsValues ms held) (sym (filter-skips (has_values members) holds.meaning found.0 is_none)) holds.holds;
      }
