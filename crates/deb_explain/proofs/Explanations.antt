-- The explanations of a file are those of the refusals that a reader shows.
use Rattle.std.proofs.Common.{◌≡◌, ℕ, List, [], ◌∷◌, ◌++◌, length, map, Option, Some, refl, sym, ap, ◌∙◌, subst}
use Rattle.std.proofs.lemmas.List.{map-append, same_from_push}
use Rattle.std.proofs.lemmas.List.Folds.{flat_map-map}
use Rattle.std.proofs.lemmas.Simd.{map-map}
use Rattle.std.specs.Io.KnownBytes.{Appends}
use Rattle.std.specs.List.{flat_map}
use Rattle.std.specs.Option.{option_map}
use Rattle.deb_base.specs.declared.doc.Doc.{Doc}
use Rattle.deb_control.specs.AllRefusals.{passed_of, refusals_of, total_line}
use Rattle.deb_control.specs.Documents.{rules_of}
use Rattle.deb_control.specs.GivenRefusals.{AreFirst, GivesAll, IsLastOf}
use Rattle.deb_control.specs.SeenRefusals.{SeenRefusal, refusals_seen}
use Rattle.deb_control.specs.StreamLaws.{first_of}
use Rattle.deb_control.specs.WrittenRefusals.{HasWritten, text_written}
use Rattle.deb_control.specs.declared.refusals.Refusals.{Refusals}
use Rattle.deb_control.proofs.SeenRefusals.{alone_are, first_is_seen}
use Rattle.deb_control.proofs.WrittenRefusals.{all_written}
use Rattle.deb_explain.specs.AllExplanations.{ExplainsAll, ExplainsFirst, explained_block, explained_blocks, explained_lines, seen_block}
use Rattle.deb_explain.specs.Explanations.{WhyRefused, explanation_of, why_refused}
use Rattle.deb_explain.specs.Laws.{EachHasOneExplanation, FirstIsExplains}

module _ (doc : Doc) where
  first_explained : (refusals : List SeenRefusal) → first_of (map (why_refused doc) refusals) ≡ option_map (why_refused doc) (first_of refusals)
  first_explained [] = refl
  first_explained (seen ∷ refusals) = refl

  -- the last one, by the refusal that was given last
  pub last_is : (done : List SeenRefusal) (seen : SeenRefusal) (why : WhyRefused) → IsLastOf why (map (why_refused doc) (done ++ seen ∷ [])) → why ≡ why_refused doc seen
  last_is done seen why last = (same_from_push last.front (map (why_refused doc) done) why (why_refused doc seen) (sym last.is ∙ map-append (why_refused doc) done (seen ∷ []))).1

pub each_has_one_explanation : EachHasOneExplanation
each_has_one_explanation doc text = map-map (λ why. why.refusal) (why_refused doc) (refusals_seen doc text) ∙ alone_are doc text

pub first_is_explains : FirstIsExplains
first_is_explains doc text = first_explained doc (refusals_seen doc text) ∙ ap (option_map (why_refused doc)) (first_is_seen (rules_of doc) text)

-- what the first one is about is the explanation of the file
pub is_explanation : (doc : Doc) (text : List ℕ) (seen : SeenRefusal) (why : WhyRefused) → AreFirst doc text (seen ∷ []) → IsLastOf why (map (why_refused doc) (seen ∷ [])) → explanation_of doc text ≡ Some why
is_explanation doc text seen why first last =
    sym (first_is_explains doc text) ∙ ap (λ refusals. first_of (map (why_refused doc) refusals)) first.all ∙ ap Some (sym (last_is doc [] seen why last))

-- ---- their texts

module _ (path : List ℕ) (doc : Doc) (text : List ℕ) where
  blocks_are : (refusals : List SeenRefusal) → flat_map (seen_block path doc) refusals ≡ explained_blocks path (map (why_refused doc) refusals)
  blocks_are refusals = sym (flat_map-map (explained_block path) (why_refused doc) refusals)

  pub texts_are : text_written (seen_block path doc) doc text ≡ explained_lines path doc text
  texts_are = ap (λ l. l ++ total_line (passed_of doc text) (length (refusals_of doc text))) (blocks_are (refusals_seen doc text))

  pub texts_first : (old held : Option (List ℕ)) → HasWritten (seen_block path doc) (AreFirst doc text) old held → ExplainsFirst path doc text old held
  texts_first old held has = record {
    first = map (why_refused doc) has.done;
    more = map (why_refused doc) has.given.more;
    all = ap (map (why_refused doc)) has.given.all ∙ map-append (why_refused doc) has.done has.given.more;
    written = subst (Appends old held) (blocks_are has.done) has.written;
  }

  pub texts_all : (r : Refusals) (left old held writes : Option (List ℕ)) → HasWritten (seen_block path doc) (GivesAll doc text r left) old held → Appends held writes (total_line r.summary.passed r.summary.refused) → ExplainsAll path doc text r.summary old writes
  texts_all r left old held writes has total = record {
    passed = has.given.passed;
    refused = has.given.refused;
    written = subst (Appends old writes) texts_are (all_written (seen_block path doc) doc text r left old held writes has total);
  }
