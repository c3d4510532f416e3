-- A file lists one list of packages, and so does its canonical text; reports depend on meanings alone.
use Rattle.std.proofs.Common.{◌≡◌, ℕ, List, [], ◌∷◌, Option, None, Some, refl, sym, ap, ◌∙◌, subst}
use Rattle.std.specs.Option.{option_map}
use Rattle.deb_relation.specs.Grammar.{SpellsRelation}
use Rattle.deb_relation.specs.Meaning.{Relation}
use Rattle.deb_relation.specs.Tests.{some_wildcard}
use Rattle.deb_relation.specs.Texts.{relation_text}
use Rattle.deb_relation.proofs.CanonicalRelation.{canonical_text_spells}
use Rattle.deb_relation.proofs.SpelledGroups.{one_relation}
use Rattle.deb_field.specs.ValueLaws.{value_law}
use Rattle.deb_field.specs.Values.{ValueMeaning, value_text, SpellsValue, MultiArchMeans, RelationMeans}
use Rattle.deb_field.specs.declared.flag.MultiArch.{MultiArch}
use Rattle.deb_base.specs.declared.doc.Doc.{Doc}
use Rattle.deb_base.specs.declared.doc.Doc.TheVariants.{Packages, Status}
use Rattle.deb_control.specs.Documents.{Meaning, Accepted, canonical_text, rules_of}
use Rattle.deb_control.specs.Pairs.{Pairwise}
use Rattle.deb_control.specs.ValueFiles.{ValueEntries}
use Rattle.deb_control.proofs.Accepting.{accepted_means_one_thing, canonical_text_is_accepted}
use Rattle.std.specs.List.{filter}
use Rattle.deb_index.specs.Installed.{is_member}
use Rattle.deb_index.specs.Listed.{Listed, provisions_in}
use Rattle.deb_index.specs.Listing.{Lists, ListsAll}
use Rattle.deb_index.specs.Members.{ListsMembers, doc_of}
use Rattle.deb_index.specs.declared.members.Members.{Members}
use Rattle.deb_index.specs.declared.members.Members.TheVariants.{All, Installed}
use Rattle.deb_index.specs.Reports.{report}
use Rattle.deb_index.specs.Laws.{ListsOnce, CanonicalTextLists, InstalledPackagesAreMeant, ReportAlike, CanonicalTextChangesNoAnswer}

same_word : (a b : Option MultiArch) → option_map MultiArchMeans a ≡ option_map MultiArchMeans b → a ≡ b
same_word None None e = refl
same_word None (Some b) e = absurd (cc)
same_word (Some a) None e = absurd (cc)
same_word (Some a) (Some b) e = cc

same_relation : (a b : Option Relation) → option_map RelationMeans a ≡ option_map RelationMeans b → a ≡ b
same_relation None None e = refl
same_relation None (Some b) e = absurd (cc)
same_relation (Some a) None e = absurd (cc)
same_relation (Some a) (Some b) e = cc

lists-same : (fields : ValueEntries ValueMeaning) (p q : Listed) → Lists fields p → Lists fields q → p ≡ q
lists-same fields p q one other =
    let names : p.name ≡ q.name = (let e = sym one.name ∙ other.name in cc) in
    let versions : p.version ≡ q.version = (let e = sym one.version ∙ other.version in cc) in
    let architectures : p.architecture ≡ q.architecture = (let e = sym one.architecture ∙ other.architecture in cc) in
    let words = same_word p.multi_arch q.multi_arch (sym one.multi_arch ∙ other.multi_arch) in
    let provisions = one.provisions ∙ ap provisions_in (same_relation one.provides other.provides (sym one.provided ∙ other.provided)) ∙ sym other.provisions in
    ap (λ x. record { name = x; version = p.version; architecture = p.architecture; multi_arch = p.multi_arch; provisions = p.provisions }) names
    ∙ ap (λ x. record { name = q.name; version = x; architecture = p.architecture; multi_arch = p.multi_arch; provisions = p.provisions }) versions
    ∙ ap (λ x. record { name = q.name; version = q.version; architecture = x; multi_arch = p.multi_arch; provisions = p.provisions }) architectures
    ∙ ap (λ x. record { name = q.name; version = q.version; architecture = q.architecture; multi_arch = x; provisions = p.provisions }) words
    ∙ ap (λ x. record { name = q.name; version = q.version; architecture = q.architecture; multi_arch = q.multi_arch; provisions = x }) provisions

pub all-same : (meaning : Meaning) (packages others : List Listed) → Pairwise Lists meaning packages → Pairwise Lists meaning others → packages ≡ others
all-same [] [] [] one other = refl
all-same [] [] (q ∷ others) one other = absurd other
all-same [] (p ∷ packages) others one other = absurd one
all-same (fields ∷ meaning) [] others one other = absurd one
all-same (fields ∷ meaning) (p ∷ packages) [] one other = absurd other
all-same (fields ∷ meaning) (p ∷ packages) (q ∷ others) one other =
    ap (λ x. x ∷ packages) (lists-same fields p q one.0 other.0) ∙ ap (λ rest. q ∷ rest) (all-same meaning packages others one.1 other.1)

one_meaning : (doc : Doc) (text : List ℕ) (meaning other : Meaning) → Accepted doc text meaning → Accepted doc text other → meaning ≡ other
one_meaning doc = accepted_means_one_thing ValueMeaning (SpellsValue doc) value_text (value_law doc) (rules_of doc)

accepted_again : (doc : Doc) (text : List ℕ) (meaning : Meaning) → Accepted doc text meaning → Accepted doc (canonical_text meaning) meaning
accepted_again doc = canonical_text_is_accepted ValueMeaning (SpellsValue doc) value_text (value_law doc) (rules_of doc)

pub lists_once : ListsOnce
lists_once text packages others one other =
    all-same other.meaning packages others (subst (λ m. Pairwise Lists m packages) (one_meaning Packages text one.meaning other.meaning one.accepted other.accepted) one.listed) other.listed

pub canonical_text_lists : CanonicalTextLists
canonical_text_lists text meaning packages accepted lists = record {
  meaning = meaning;
  accepted = accepted_again Packages text meaning accepted;
  listed = subst (λ m. Pairwise Lists m packages) (one_meaning Packages text lists.meaning meaning lists.accepted accepted) lists.listed;
}

pub installed_are_meant : InstalledPackagesAreMeant
installed_are_meant = record {
  once = λ text packages others one other.
      all-same (filter is_member other.meaning) packages others (subst (λ m. Pairwise Lists (filter is_member m) packages) (one_meaning Status text one.meaning other.meaning one.accepted other.accepted) one.listed) other.listed;
  canonical = λ text meaning packages accepted lists. record {
    meaning = meaning;
    accepted = accepted_again Status text meaning accepted;
    listed = subst (λ m. Pairwise Lists (filter is_member m) packages) (one_meaning Status text lists.meaning meaning lists.accepted accepted) lists.listed;
  };
}

pub members_once : (members : Members) (text : List ℕ) (packages others : List Listed) → ListsMembers members text packages → ListsMembers members text others → packages ≡ others
members_once All = lists_once
members_once Installed = installed_are_meant.once

pub canonical_members_listed : (members : Members) (text : List ℕ) (meaning : Meaning) (packages : List Listed) → Accepted (doc_of members) text meaning → ListsMembers members text packages → ListsMembers members (canonical_text meaning) packages
canonical_members_listed All = canonical_text_lists
canonical_members_listed Installed = installed_are_meant.canonical

-- equal packages and relations have equal reports
alike : (packages others : List Listed) (m n : Relation) → packages ≡ others → m ≡ n → ReportAlike packages others m n
alike packages others m n same is = record {
  reports = λ environment. ap (λ p. report p m environment) same ∙ ap (λ r. report others r environment) is;
  wildcards = ap some_wildcard is;
}

same_lists : (text : List ℕ) (meaning : Meaning) (packages others : List Listed) → Accepted Packages text meaning → ListsAll text packages → ListsAll (canonical_text meaning) others → packages ≡ others
same_lists text meaning packages others accepted one other = lists_once (canonical_text meaning) packages others (canonical_text_lists text meaning packages accepted one) other

same_relations : (text : List ℕ) (m n : Relation) → SpellsRelation text m → SpellsRelation (relation_text m) n → m ≡ n
same_relations text m n one other = one_relation (relation_text m) m n (canonical_text_spells text m one) other

pub changes_no_answer : CanonicalTextChangesNoAnswer
changes_no_answer = record {
  files = λ text meaning packages others m accepted one other. alike packages others m m (same_lists text meaning packages others accepted one other) refl;
  relations = λ text packages m n one other. alike packages packages m n refl (same_relations text m n one other);
  both = λ file meaning packages others text m n accepted lists canonical one other. alike packages others m n (same_lists file meaning packages others accepted lists canonical) (same_relations text m n one other);
}
