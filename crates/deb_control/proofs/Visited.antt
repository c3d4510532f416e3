-- The fields that were visited so far, and the values that were visited with them.
use Rattle.deb_control.proofs.Common.{◌≡◌, ℕ, ◌+◌, ◌≤◌, ◌||◌, min, List, [], ◌∷◌, ◌++◌, length, map, slice_get, option_map, Option, None, Some, refl, sym, ap, ◌∙◌, subst, arith, bytes_eq, sum_by-append, sum_by-cons, AllByRecursion, folded, canonical_name, Seen, Field, has_name, AreDistinct, entries_of, field_of, RawField, Doc, Any, fields_of_any_are_texts, kind_of, rules_of, HoldsFound, seen_found, canonical_field, canonical_entries, Visit, IsVisit, fields_visited, canonical_visit, visit_text, VisitsField, VisitsFields, texts_length, most}
use Rattle.deb_base.specs.declared.kind.Kind.TheVariants.{Text}
use Rattle.deb_control.proofs.DocumentRules.{document_rules}
use Rattle.deb_control.proofs.FieldsRead.{HasRead, HasRead-next, HasRead-end}

-- those before an index, whose texts have n bytes
pub record HasVisited {V : Type 0} (Visited : V → List Visit → Type 0) (visitor : V) (doc : Doc) (fields : List Field) (n i : ℕ) : Type 0 where
  pub visited : List Visit
  pub read : HasRead (λ visit. visit) doc fields visited i
  pub added : n ≡ min (texts_length visited) most
  pub visits : Visited visitor visited

-- none of them
pub HasVisited-start : {V : Type 0} (Visited : V → List Visit → Type 0) (visitor : V) (doc : Doc) (fields : List Field) → Visited visitor [] → HasVisited Visited visitor doc fields 0 0
HasVisited-start Visited visitor doc fields visits = record { visited = []; read = record { read = refl; good = tt; refusal = refl }; added = omega arith; visits = visits }

both_counted : (n own m : ℕ) → min (min n m + min own m) m ≡ min (n + own) m
both_counted n own m = grind arith

-- one more
pub HasVisited-next : {V : Type 0} (Visited : V → List Visit → Type 0) (visitor new : V) (doc : Doc) (fields : List Field) (n own now i : ℕ) (raw : RawField) → option_map field_of (Some raw) ≡ slice_get fields i → VisitsField Visited visitor new (kind_of doc (canonical_name raw.name.now)) (field_of raw) own → now ≡ min (n + own) most → HasVisited Visited visitor doc fields n i → HasVisited Visited new doc fields now (i + 1)
HasVisited-next Visited visitor new doc fields n own now i raw is one added before =
    let visit : Visit = (field_of raw, one.value) in
    let total = texts_length before.visited in
    let more : texts_length (before.visited ++ visit ∷ []) ≡ total + length (visit_text visit) =
    omega (arith, sum_by-append (λ v. length (visit_text v)) before.visited (visit ∷ []), sum_by-cons (λ v. length (visit_text v)) visit []) in
    record {
      visited = before.visited ++ visit ∷ [];
      read = HasRead-next (λ v. v) doc fields before.visited (before.visited ++ visit ∷ []) i raw visit is refl one.spells refl before.read;
      added =
          added
          ∙ ap (λ k. min (k + own) most) before.added
          ∙ ap (λ k. min (min total most + k) most) one.measured
          ∙ both_counted total (length (visit_text visit)) most
          ∙ ap (λ k. min k most) (sym more);
      visits = one.visits before.visited before.visits;
    }

-- each field of Any is text
pub VisitsField-any : {V : Type 0} (Visited : V → List Visit → Type 0) (visitor new : V) (field : Field) (n : ℕ) → VisitsField Visited visitor new Text field n → VisitsField Visited visitor new (kind_of Any (canonical_name field.name)) field n
VisitsField-any Visited visitor new field n one = subst (λ kind. VisitsField Visited visitor new kind field n) (sym (fields_of_any_are_texts (canonical_name field.name))) one

-- all of them
pub VisitsFields-end : {V : Type 0} (Visited : V → List Visit → Type 0) (visitor : V) (doc : Doc) (fields : List Field) (n i : ℕ) → length fields ≤ i → HasVisited Visited visitor doc fields n i → VisitsFields Visited visitor doc fields n
VisitsFields-end Visited visitor doc fields n i past all =
    let ends = HasRead-end (λ visit. visit) doc fields all.visited i past all.read in
    record { visited = all.visited; all = ends.0; spelled = all.read.good; good = ends.1; added = all.added; visits = all.visits }

-- fields with other bodies, and names that are the same without case
module _ (changed : Visit → Field) (same : (visit : Visit) → folded (changed visit).name ≡ folded visit.0.name) where
  has_name-visited : (name other : List ℕ) (visited : List Visit) → folded other ≡ folded name → has_name other (map changed visited) ≡ has_name name (fields_visited visited)
  has_name-visited name other [] e = refl
  has_name-visited name other (visit ∷ visited) e =
      rw (same visit, e) (ap (λ t. bytes_eq (folded visit.0.name) (folded name) || t) (has_name-visited name other visited e))

  pub distinct-visited : (visited : List Visit) → AreDistinct (fields_visited visited) → AreDistinct (map changed visited)
  distinct-visited [] distinct = tt
  distinct-visited (visit ∷ visited) distinct = (has_name-visited visit.0.name (changed visit).name visited (same visit) ∙ distinct.0, distinct-visited visited distinct.1)

canonical_each : (doc : Doc) (visited : List Visit) → AllByRecursion (IsVisit doc) visited → map (canonical_field (rules_of doc)) (fields_visited visited) ≡ map canonical_visit visited
canonical_each doc [] spelled = refl
canonical_each doc (visit ∷ visited) spelled =
    rw ((document_rules doc).text (canonical_name visit.0.name) visit.0.body visit.1 spelled.0) (ap (λ m. canonical_visit visit ∷ m) (canonical_each doc visited spelled.1))

-- what the fields mean by the canonical texts of their values
pub canonical-visited : (doc : Doc) (fields : List Field) (visited : List Visit) → fields_visited visited ≡ fields → AllByRecursion (IsVisit doc) visited → canonical_entries (rules_of doc) fields ≡ entries_of (map canonical_visit visited)
canonical-visited doc fields visited all spelled =
    ap (canonical_entries (rules_of doc)) (sym all) ∙ ap entries_of (canonical_each doc visited spelled)

-- what is kept of the paragraph that was found
pub keeps-found : (Keeps : Seen → Type 0) (found : Option Seen) → HoldsFound Keeps found → Keeps (seen_found found)
keeps-found Keeps None keeps = absurd keeps
keeps-found Keeps (Some seen) keeps = keeps
