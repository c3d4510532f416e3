-- The kinds of documents: the word for each, and which have exactly one paragraph. Debian Policy
-- 5.3 (binary packages) and 5.4 (source packages), dpkg(1) (the status file); the words are this
-- project's own.
use Rattle.std.specs.Prelude.{◌≡◌, ℕ, Bool, true, false, cond, List, [], ◌∷◌, map, Option, None, Some, codes, refl}
use Rattle.std.specs.Str.{bytes_eq}
use Rattle.deb_base.specs.declared.doc.Doc.{Doc}
use Rattle.deb_base.specs.declared.doc.Doc.TheVariants as docs

-- the word for a kind of document
abbrev pub word_of : Doc → List ℕ
word_of docs.Binary = codes "binary"
word_of docs.Packages = codes "packages"
word_of docs.Source = codes "source"
word_of docs.Sources = codes "sources"
word_of docs.Status = codes "status"
word_of docs.Any = codes "any"

-- what a document of the kind is, in a few words
abbrev pub about_of : Doc → List ℕ
about_of docs.Binary = codes "the control file of a binary package"
about_of docs.Packages = codes "an index of binary packages"
about_of docs.Source = codes "the description of a source package"
about_of docs.Sources = codes "an index of source packages"
about_of docs.Status = codes "the status file of dpkg"
about_of docs.Any = codes "any control data; its values aren't checked"

-- whether a document of the kind has exactly one paragraph
abbrev pub is_single : Doc → Bool
is_single docs.Binary = true
is_single docs.Packages = false
is_single docs.Source = true
is_single docs.Sources = false
is_single docs.Status = false
is_single docs.Any = false

-- all kinds of documents
abbrev pub documents : List Doc
documents =
    docs.Binary ∷ docs.Packages ∷ docs.Source ∷ docs.Sources ∷ docs.Status ∷ docs.Any ∷ []

-- the first of these kinds of documents that has the word
abbrev pub named_among : List Doc → List ℕ → Option Doc
named_among [] word = None
named_among (doc ∷ docs) word =
    cond (bytes_eq (word_of doc) word) (Some doc) (named_among docs word)

-- the kind of document that a word names
abbrev pub doc_named : List ℕ → Option Doc
doc_named = named_among documents

-- Worked cases.

single_paragraphs : (is_single docs.Binary ≡ true) × (is_single docs.Packages ≡ false)
    × (is_single docs.Source ≡ true) × (is_single docs.Sources ≡ false)
    × (is_single docs.Status ≡ false) × (is_single docs.Any ≡ false)
single_paragraphs = (refl, refl, refl, refl, refl, refl)

descriptions : (about_of docs.Binary ≡ codes "the control file of a binary package")
    × (about_of docs.Packages ≡ codes "an index of binary packages")
    × (about_of docs.Source ≡ codes "the description of a source package")
    × (about_of docs.Sources ≡ codes "an index of source packages")
    × (about_of docs.Status ≡ codes "the status file of dpkg")
    × (about_of docs.Any ≡ codes "any control data; its values aren't checked")
descriptions = (refl, refl, refl, refl, refl, refl)

-- words have one case
words : (doc_named (codes "binary") ≡ Some docs.Binary)
    × (doc_named (codes "packages") ≡ Some docs.Packages)
    × (doc_named (codes "source") ≡ Some docs.Source)
    × (doc_named (codes "sources") ≡ Some docs.Sources)
    × (doc_named (codes "status") ≡ Some docs.Status)
    × (doc_named (codes "any") ≡ Some docs.Any)
    × (doc_named (codes "Source") ≡ None)
    × (doc_named (codes "sourc") ≡ None)
    × (doc_named [] ≡ None)
words = (refl, refl, refl, refl, refl, refl, refl, refl, refl)

words_of_documents : map word_of documents
    ≡ codes "binary" ∷ codes "packages" ∷ codes "source" ∷ codes "sources" ∷ codes "status"
    ∷ codes "any" ∷ []
words_of_documents = refl

-- neither shorter nor longer words, nor names of other things, name a kind
other_words : map doc_named
    (codes "bin" ∷ codes "deb" ∷ codes "dsc" ∷ codes "control" ∷ codes "package" ∷ codes "src"
    ∷ codes "all" ∷ codes "any " ∷ codes "ANY" ∷ codes "statu" ∷ codes "statuses"
    ∷ codes "Status" ∷ codes "installed" ∷ codes "dpkg" ∷ [])
    ≡ None ∷ None ∷ None ∷ None ∷ None ∷ None ∷ None ∷ None ∷ None ∷ None ∷ None ∷ None ∷ None
    ∷ None ∷ []
other_words = refl
