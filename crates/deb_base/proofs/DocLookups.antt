-- Look-ups among the kinds of documents, one after another.
use Rattle.std.proofs.Common.{◌≡◌, ℕ, ◌+◌, ◌<◌, false, cond, List, length, drop, get_or, Some, ap, ◌∙◌}
use Rattle.std.proofs.lemmas.List.{drop_more}
use Rattle.std.specs.Str.{bytes_eq}
use Rattle.deb_base.specs.Docs.{named_among, word_of}
use Rattle.deb_base.specs.declared.doc.Doc.{Doc}

-- a kind of document that has another word is passed
pub word-passed : (docs : List Doc) (word : List ℕ) (i : ℕ) (d : Doc) → i < length docs → bytes_eq (word_of (get_or docs i d)) word ≡ false → named_among (drop i docs) word ≡ named_among (drop (i + 1) docs) word
word-passed docs word i d within is =
    ap (λ rest. named_among rest word) (drop_more docs i d within)
    ∙ ap (λ u. cond u (Some (get_or docs i d)) (named_among (drop (i + 1) docs) word)) is
