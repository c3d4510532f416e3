-- What every meaning's entries are: in ascending order of canonical names, with bodies that are text.
use Rattle.deb_control.proofs.Common.{◌≡◌, ℕ, ◌+◌, IsTrue, List, [], ◌∷◌, ◌++◌, length, Ordering, Less, Equal, Greater, refl, sym, ap, ◌∙◌, subst, AllByRecursion, IsUtf8, insert_entry, match_ordering, ordering_reverse, nat_list_cmp_total, canonical_name, canonical_name-canonical_name, Line, is_body_shape, Paragraph, Field, SpellsField, SpellsFields, SpellsParagraph, is_name, byte_order, Entries, entries_after, entries_of, HaveMeanings, IsNonempty, IsUtf8-body, HaveLines}
use Rattle.deb_control.proofs.CanonicalNameBytes.{is_name-canonical_name}

-- a canonical name, and a body that a field may have
pub record IsEntry (entry : List ℕ × List ℕ) : Type 0 where
  pub canonical : canonical_name entry.0 ≡ entry.0
  pub name : IsTrue (is_name entry.0)
  pub shape : IsTrue (is_body_shape entry.1)
  pub text : IsUtf8 entry.1

-- each name is below those after it
abbrev pub IsAscending : Entries → Type 0
IsAscending [] = Unit {0}
IsAscending (entry ∷ entries) = AllByRecursion (λ other. byte_order entry.0 other.0 ≡ Less) entries × IsAscending entries

-- what the entries of a paragraph are
pub record AreEntries (entries : Entries) : Type 0 where
  pub some : IsNonempty entries
  pub each : AllByRecursion IsEntry entries
  pub ascending : IsAscending entries

-- a property of a choice by an ordering
by_ordering : {X : Type 0} (P : X → Type 0) (o : Ordering) (a b c : X) → (o ≡ Less → P a) → (o ≡ Equal → P b) → (o ≡ Greater → P c) → P (match_ordering o a b c)
by_ordering P Less a b c p q r = p refl
by_ordering P Equal a b c p q r = q refl
by_ordering P Greater a b c p q r = r refl

pub greater_from_less : (a b : List ℕ) → byte_order a b ≡ Less → byte_order b a ≡ Greater
greater_from_less a b h = nat_list_cmp_total.antisymm b a ∙ ap ordering_reverse h

less_from_greater : (a b : List ℕ) → byte_order a b ≡ Greater → byte_order b a ≡ Less
less_from_greater a b h = nat_list_cmp_total.antisymm b a ∙ ap ordering_reverse h

-- what holds of all entries holds of them with one more
pub each_insert : (P : List ℕ × List ℕ → Type 0) (name body : List ℕ) → ((entry : List ℕ × List ℕ) → P entry → P (entry.0, body)) → (entries : Entries) → AllByRecursion P entries → P (name, body) → AllByRecursion P (insert_entry byte_order entries name body)
each_insert P name body given [] h p = (p, tt)
each_insert P name body given (entry ∷ entries) h p =
    let rest = each_insert P name body given entries h.1 p in
    by_ordering (AllByRecursion P) (byte_order name entry.0) ((name, body) ∷ entry ∷ entries) ((entry.0, body) ∷ entries) (entry ∷ insert_entry byte_order entries name body)
    (λ o. (p, h)) (λ o. (given entry h.0, h.1)) (λ o. (h.0, rest))

less_than_each : (name other : List ℕ) (entries : Entries) → byte_order name other ≡ Less → AllByRecursion (λ entry. byte_order other entry.0 ≡ Less) entries → AllByRecursion (λ entry. byte_order name entry.0 ≡ Less) entries
less_than_each name other [] o h = tt
less_than_each name other (entry ∷ entries) o h = (nat_list_cmp_total.trans name other entry.0 o h.0, less_than_each name other entries o h.1)

ascending_insert : (name body : List ℕ) (entries : Entries) → IsAscending entries → IsAscending (insert_entry byte_order entries name body)
ascending_insert name body [] h = (tt, tt)
ascending_insert name body (entry ∷ entries) h =
    let rest = ascending_insert name body entries h.1 in
    by_ordering IsAscending (byte_order name entry.0) ((name, body) ∷ entry ∷ entries) ((entry.0, body) ∷ entries) (entry ∷ insert_entry byte_order entries name body)
    (λ o. ((o, less_than_each name entry.0 entries o h.0), h)) (λ o. h) (λ o. (each_insert (λ other. byte_order entry.0 other.0 ≡ Less) name body (λ other less. less) entries h.0 (less_from_greater name entry.0 o), rest))

some_insert : (name body : List ℕ) (entries : Entries) → IsNonempty (insert_entry byte_order entries name body)
some_insert name body [] = tt
some_insert name body (entry ∷ entries) =
    by_ordering IsNonempty (byte_order name entry.0) ((name, body) ∷ entry ∷ entries) ((entry.0, body) ∷ entries) (entry ∷ insert_entry byte_order entries name body) (λ o. tt) (λ o. tt) (λ o. tt)

AreEntries-insert : (entries : Entries) (name body : List ℕ) → AllByRecursion IsEntry entries → IsAscending entries → IsEntry (name, body) → AreEntries (insert_entry byte_order entries name body)
AreEntries-insert entries name body each ascending entry = record {
  some = some_insert name body entries;
  each = each_insert IsEntry name body (λ other is. record { canonical = is.canonical; name = is.name; shape = entry.shape; text = entry.text }) entries each entry;
  ascending = ascending_insert name body entries ascending;
}

AreEntries-after : (entries : Entries) (fields : List Field) → AreEntries entries → AllByRecursion (λ field. IsEntry (canonical_name field.name, field.body)) fields → AreEntries (entries_after entries fields)
AreEntries-after entries [] h each = h
AreEntries-after entries (field ∷ fields) h each =
    AreEntries-after (insert_entry byte_order entries (canonical_name field.name) field.body) fields (AreEntries-insert entries (canonical_name field.name) field.body h.each h.ascending each.0) each.1

each_own : (own rest : List Line) → AllByRecursion IsUtf8 (own ++ rest) → AllByRecursion IsUtf8 own
each_own [] rest h = tt
each_own (line ∷ own) rest h = (h.0, each_own own rest h.1)

each_rest : (own rest : List Line) → AllByRecursion IsUtf8 (own ++ rest) → AllByRecursion IsUtf8 rest
each_rest [] rest h = h
each_rest (line ∷ own) rest h = each_rest own rest h.1

IsEntry-from_field : (own : List Line) (field : Field) → AllByRecursion IsUtf8 own → SpellsField own field → IsEntry (canonical_name field.name, field.body)
IsEntry-from_field own field text spells = record {
  canonical = canonical_name-canonical_name field.name;
  name = is_name-canonical_name field.name spells.name;
  shape = spells.body;
  text = IsUtf8-body own field text spells;
}

each_field : (n : ℕ) (lines : List Line) (fields : List Field) → AllByRecursion IsUtf8 lines → SpellsFields n lines fields → AllByRecursion (λ field. IsEntry (canonical_name field.name, field.body)) fields
each_field n lines [] text spells = tt
each_field n lines (field ∷ fields) text spells =
    let own = spells.0 in
    let rest = spells.1 in
    let text' = subst (AllByRecursion IsUtf8) spells.2 text in
    (IsEntry-from_field own field (each_own own rest text') spells.4, each_field (n + length own) rest fields (each_rest own rest text') spells.5)

AreEntries-from_fields : (n : ℕ) (lines : List Line) (fields : List Field) → IsNonempty lines → AllByRecursion IsUtf8 lines → SpellsFields n lines fields → AreEntries (entries_of fields)
AreEntries-from_fields n lines [] some text spells = absurd (subst IsNonempty spells some)
AreEntries-from_fields n lines (field ∷ fields) some text spells =
    let each = each_field n lines (field ∷ fields) text spells in
    AreEntries-after ((canonical_name field.name, field.body) ∷ []) fields (AreEntries-insert [] (canonical_name field.name) field.body tt tt each.0) each.1

-- the entries of a paragraph that is spelled
pub AreEntries-from_paragraph : (paragraph : Paragraph) (fields : List Field) → IsNonempty paragraph.lines → SpellsParagraph paragraph fields → AreEntries (entries_of fields)
AreEntries-from_paragraph paragraph fields some spells = AreEntries-from_fields paragraph.first paragraph.lines fields some spells.text spells.spelt

-- the meaning of paragraphs
pub AreEntries-from_meanings : (paragraphs : List Paragraph) (meaning : List Entries) → HaveLines paragraphs → HaveMeanings paragraphs meaning → AllByRecursion AreEntries meaning
AreEntries-from_meanings [] [] some means = tt
AreEntries-from_meanings [] (entries ∷ meaning) some means = absurd means
AreEntries-from_meanings (paragraph ∷ paragraphs) [] some means = absurd means
AreEntries-from_meanings (paragraph ∷ paragraphs) (entries ∷ meaning) some means =
    (subst AreEntries (sym means.0.2) (AreEntries-from_paragraph paragraph means.0.0 some.0 means.0.1), AreEntries-from_meanings paragraphs meaning some.1 means.1)
