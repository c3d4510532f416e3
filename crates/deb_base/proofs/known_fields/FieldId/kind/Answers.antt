use Rattle.std.proofs.Common.{refl, sym, ap, ◌∙◌, inl, inr}
use Rattle.deb_base.specs.Kinds.{in_source, kind_at, kind_of}
use Rattle.deb_base.proofs.known_fields.FieldId.kind.Goals as goal

pub returns-in-Binary : goal.returns-in-Binary
unfolding kind_of
returns-in-Binary c = λ name is.
    let kind = c.usual_kind-kind.ensures ∙ ap kind_at (sym is) in
    elim c.in-Binary.is [ inl e ↦ rw e kind | inr (inl e) ↦ rw e kind | inr (inr e) ↦ rw e kind ]

pub returns-in-Source : goal.returns-in-Source
unfolding kind_of
returns-in-Source c = λ name is.
    let kind = c.in_source.ensures ∙ ap in_source (c.usual_kind-kind.ensures ∙ ap kind_at (sym is)) in
    elim c.in-Source.is [ inl e ↦ rw e kind | inr e ↦ rw e kind ]

pub returns-in-Any : goal.returns-in-Any
unfolding kind_of
returns-in-Any c = λ name is. rw c.in-Any.is refl
