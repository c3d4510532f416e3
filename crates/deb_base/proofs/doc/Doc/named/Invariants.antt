use Rattle.std.proofs.Common.{◌≡◌, drop}
use Rattle.deb_base.specs.Docs.{documents, named_among}
use Rattle.deb_base.proofs.doc.Doc.named.Given as goal

-- no kind so far has the word
abbrev pub invariant-loop-doc : goal.invariant-loop-doc
invariant-loop-doc l = named_among (drop l.doc-index documents) l.word ≡ named_among documents l.word
