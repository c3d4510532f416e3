-- Files one after another: what they mean, their paragraphs, and what is written of them.
use Rattle.std.proofs.Common.{◌≡◌, ℕ, suc, ◌+◌, List, [], ◌∷◌, ◌++◌, length, refl, sym, ap, ◌∙◌, append-nil, append_assoc, length-append}
use Rattle.deb_syntax.specs.Lines.{Paragraph, paragraphs_of}
use Rattle.deb_syntax.specs.Meaning.{Entries, HaveMeanings}
use Rattle.deb_field.specs.Values.{SpellsValue}
use Rattle.deb_control.specs.Documents.{Accepted, Meaning}
use Rattle.deb_control.specs.Pairs.{Pairwise}
use Rattle.deb_control.specs.ValueFiles.{SpellsEntry}
use Rattle.deb_control.proofs.GivenValues.{pairwise-length}
use Rattle.deb_latest.specs.Entries.{doc_of}
use Rattle.deb_latest.specs.FileLaws.{FilesFollow, FilesHaveTheirParagraphs}
use Rattle.deb_latest.specs.Files.{paragraphs_in}
use Rattle.deb_latest.specs.declared.kind.Kind.{Kind}

meanings-length : (ps : List Paragraph) (bodies : List Entries) → HaveMeanings ps bodies → length ps ≡ length bodies
meanings-length [] [] have = refl
meanings-length [] (entries ∷ bodies) have = absurd have
meanings-length (p ∷ ps) [] have = absurd have
meanings-length (p ∷ ps) (entries ∷ bodies) have = ap suc (meanings-length ps bodies have.1)

-- an accepted file has as many paragraphs as it means
pub accepted-length : (kind : Kind) (text : List ℕ) (meaning : Meaning) → Accepted (doc_of kind) text meaning → length (paragraphs_of text) ≡ length meaning
accepted-length kind text meaning accepted =
    meanings-length (paragraphs_of text) accepted.means.bodies accepted.means.means
    ∙ sym (pairwise-length (Pairwise (SpellsEntry (SpellsValue (doc_of kind)))) accepted.means.bodies meaning accepted.means.spelled)

pub files_have_their_paragraphs : FilesHaveTheirParagraphs
files_have_their_paragraphs kind [] meaning mean = ap length (sym mean)
files_have_their_paragraphs kind (text ∷ texts) meaning mean =
    length-append (paragraphs_of text) (paragraphs_in texts)
    ∙ ap (λ n. n + length (paragraphs_in texts)) (accepted-length kind text mean.first mean.accepted)
    ∙ ap (λ n. length mean.first + n) (files_have_their_paragraphs kind texts mean.others mean.mean)
    ∙ sym (length-append mean.first mean.others)
    ∙ ap length (sym mean.whole)

pub last_file : (texts : List (List ℕ)) (text : List ℕ) → paragraphs_in (texts ++ text ∷ []) ≡ paragraphs_in texts ++ paragraphs_of text
last_file [] text = append-nil (paragraphs_of text)
last_file (first ∷ texts) text = ap (λ ps. paragraphs_of first ++ ps) (last_file texts text) ∙ sym (append_assoc (paragraphs_of first) (paragraphs_in texts) (paragraphs_of text))

pub files_follow : FilesFollow
files_follow kind [] text meaning more mean accepted = record { first = more; others = []; accepted = accepted; mean = refl; whole = ap (λ m. m ++ more) mean ∙ sym (append-nil more) }
files_follow kind (first ∷ texts) text meaning more mean accepted = record {
  first = mean.first;
  others = mean.others ++ more;
  accepted = mean.accepted;
  mean = files_follow kind texts text mean.others more mean.mean accepted;
  whole = ap (λ m. m ++ more) mean.whole ∙ append_assoc mean.first mean.others more;
}
