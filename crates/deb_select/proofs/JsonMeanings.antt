-- Lines of JSON of paragraphs of one kind of document tell what the paragraphs mean.
use Rattle.std.proofs.Common.{◌≡◌, ℕ, ◌<◌, ◌≤◌, ◌^◌, Bool, true, false, cond, nat_le, List, [], ◌∷◌, ◌++◌, codes, decimal, Option, None, Some, refl, sym, ap, subst, ◌∙◌, arith, append_assoc, leb-true}
use Rattle.std.specs.List.{flat_map}
use Rattle.json.specs.Token.{Token}
use Rattle.serde_json.specs.Read.{number_of}
use Rattle.serde_json.proofs.Numbers.{number_of-decimal}
use Rattle.deb_base.specs.declared.doc.Doc.{Doc}
use Rattle.deb_base.specs.Kinds.{kind_of}
use Rattle.deb_base.specs.declared.kind.Kind.{Kind}
use Rattle.deb_base.specs.declared.kind.Kind.TheVariants.{Name, Source, Version, Architecture, ArchitectureWords, Flag, MultiArch, Number, Line, Folded, Relation, Text}
use Rattle.deb_version.specs.Canonical.{digits_of, version_text}
use Rattle.deb_version.specs.Grammar.{SpellsVersion}
use Rattle.deb_version.specs.Parts.{Meaning as VersionMeaning}
use Rattle.deb_syntax.specs.Answers.{Seen}
use Rattle.deb_syntax.specs.Fields.{Field}
use Rattle.deb_syntax.specs.Meaning.{Entries, entries_of}
use Rattle.deb_field.specs.CanonLaw.{Through}
use Rattle.deb_field.specs.CanonLaws.{one_text}
use Rattle.deb_field.specs.Flags.{flag_text, SpellsFlag, multi_arch_text, SpellsMultiArch}
use Rattle.deb_field.specs.Numbers.{SpellsNumber}
use Rattle.deb_field.specs.RelationFields.{SpellsRelationship}
use Rattle.deb_field.specs.Sources.{SourceMeaning, SpellsSource, source_text, version_suffix}
use Rattle.deb_field.specs.Texts.{SpellsText, SpellsLine, SpellsName, SpellsArchitecture}
use Rattle.deb_field.specs.ValueLaws.{kind_law}
use Rattle.deb_field.specs.Values.{SpellsKind, SpellsValue, ValueMeaning, NameMeans, SourceMeans, VersionMeans, ArchitectureMeans, ArchitecturesMean, FlagMeans, MultiArchMeans, NumberMeans, LineMeans, FoldedMeans, RelationMeans, TextMeans, value_text}
use Rattle.deb_field.specs.Words.{words_text, SpellsFolded, SpellsArchitectures}
use Rattle.deb_control.specs.Pairs.{Pairwise}
use Rattle.deb_control.specs.Paragraphs.{AreValuesOf}
use Rattle.deb_control.specs.ValueFiles.{SpellsEntry, ValueEntries}
use Rattle.deb_select.specs.FieldBodies.{body_named}
use Rattle.deb_select.specs.JsonLaws.{JsonLinesTellMeanings, spelled_version, spelled_versions}
use Rattle.deb_select.specs.JsonLines.{most_exact}
use Rattle.deb_select.specs.JsonTokens.{entry_tokens, number_tokens, paragraph_tokens, source_tokens, spelled_tokens, text_tokens, value_tokens, version_member}
use Rattle.deb_select.proofs.JsonReading.{json_lines_tell_tokens}
use Rattle.deb_select.proofs.JsonTexts.{array_told, relation_told, tail}

-- ---- numbers and sources

decimal_told : (n m : ℕ) → n < 2 ^ 64 → m < 2 ^ 64 → decimal n ≡ decimal m → n ≡ m
decimal_told n m fits fit same =
    let read = sym (number_of-decimal n fits) ∙ ap number_of same ∙ number_of-decimal m fit in
    cc

number_told : (n m : ℕ) (r s : List Token) → number_tokens n ++ r ≡ number_tokens m ++ s → (digits_of n ≡ digits_of m) × (r ≡ s)
number_told n m r s same = go (nat_le n most_exact) (nat_le m most_exact) refl refl same
  where
    exact : (k : ℕ) → nat_le k most_exact ≡ true → k < 2 ^ 64
    exact k is = let most : k ≤ 9007199254740992 = leb-true k most_exact is in omega (arith, most)

    go : (t u : Bool) → nat_le n most_exact ≡ t → nat_le m most_exact ≡ u
        → cond t (Token.number (decimal n) ∷ []) (Token.string (digits_of n) ∷ []) ++ r ≡ cond u (Token.number (decimal m) ∷ []) (Token.string (digits_of m) ∷ []) ++ s → (digits_of n ≡ digits_of m) × (r ≡ s)
    go true true is was same =
        let texts : decimal n ≡ decimal m = cc in
        (ap digits_of (decimal_told n m (exact n is) (exact m was) texts), ap tail same)
    go true false is was same = absurd (cc)
    go false true is was same = absurd (cc)
    go false false is was same = let texts : digits_of n ≡ digits_of m = cc in (texts, ap tail same)

suffix_told : (version other : Option VersionMeaning) (r s : List Token) → (version_member version ++ Token.end_object ∷ []) ++ r ≡ (version_member other ++ Token.end_object ∷ []) ++ s → (version_suffix version ≡ version_suffix other) × (r ≡ s)
suffix_told None None r s same = (refl, ap tail same)
suffix_told None (Some other) r s same = absurd (cc)
suffix_told (Some version) None r s same = absurd (cc)
suffix_told (Some version) (Some other) r s same =
    let texts : version_text version ≡ version_text other = cc in
    (ap (λ text. 32 ∷ 40 ∷ text ++ 41 ∷ []) texts, ap (λ l. tail (tail (tail l))) same)

source_told : (source other : SourceMeaning) (r s : List Token) → source_tokens source ++ r ≡ source_tokens other ++ s → (source_text source ≡ source_text other) × (r ≡ s)
source_told source other r s same =
    let names : source.name ≡ other.name = cc in
    let suffix = suffix_told source.version other.version r s (ap (λ l. tail (tail (tail l))) same) in
    (ap (λ name. name ++ version_suffix source.version) names ∙ ap (λ text. other.name ++ text) suffix.0, suffix.1)

string_told : (text other : List ℕ) (r s : List Token) → text_tokens text ++ r ≡ text_tokens other ++ s → (text ≡ other) × (r ≡ s)
string_told text other r s same = let texts : text ≡ other = cc in (texts, ap tail same)

spelled_told : (version other : VersionMeaning) (b c : List ℕ) (r s : List Token) → spelled_tokens b version ++ r ≡ spelled_tokens c other ++ s → (version_text version ≡ version_text other) × (b ≡ c) × (r ≡ s)
spelled_told version other b c r s same =
    let texts : version_text version ≡ version_text other = cc in
    let bodies : b ≡ c = cc in
    (texts, bodies, ap (λ l. tail (tail (tail (tail (tail (tail l)))))) same)

-- ---- values of one kind

abbrev Told : ValueMeaning → ValueMeaning → List ℕ → List ℕ → List Token → List Token → Type 0
Told v w b c r s = (value_text v ≡ value_text w) × (spelled_version b v ≡ spelled_version c w) × (r ≡ s)

abbrev Tells : ValueMeaning → ValueMeaning → Type 0
Tells v w = (b c : List ℕ) (r s : List Token) → value_tokens b v ++ r ≡ value_tokens c w ++ s → Told v w b c r s

through : {M : Type 0} (inject : M → ValueMeaning) (spells : List ℕ → M → Type 0) → ((m n : M) → Tells (inject m) (inject n)) → (body other : List ℕ) (v w : ValueMeaning) → Through inject spells body v → Through inject spells other w → Tells v w
through inject spells tells body other v w p q = subst (λ x. Tells x w) (sym p.1) (subst (λ y. Tells (inject p.0) y) (sym q.1) (tells p.0 q.0))

-- a value that is one string, or an array of strings
as_string : {M : Type 0} (inject : M → ValueMeaning) (text : M → List ℕ) (m n : M) → ((b : List ℕ) (x : M) → value_tokens b (inject x) ≡ text_tokens (text x)) → ((x : M) → value_text (inject x) ≡ text x) → ((b : List ℕ) (x : M) → spelled_version b (inject x) ≡ []) → Tells (inject m) (inject n)
as_string inject text m n tokens texts none b c r s same =
    let told = string_told (text m) (text n) r s (ap (λ l. l ++ r) (sym (tokens b m)) ∙ same ∙ ap (λ l. l ++ s) (tokens c n)) in
    (texts m ∙ told.0 ∙ sym (texts n), none b m ∙ sym (none c n), told.1)

kind_tells : (kind : Kind) (body other : List ℕ) (v w : ValueMeaning) → SpellsKind kind body v → SpellsKind kind other w → Tells v w
kind_tells Name body other v w p q = through NameMeans SpellsName (λ m n. as_string NameMeans (λ t. t) m n (λ b x. refl) (λ x. refl) (λ b x. refl)) body other v w p q
kind_tells Source body other v w p q = through SourceMeans SpellsSource (λ m n b c r s same. let told = source_told m n r s same in (told.0, refl, told.1)) body other v w p q
kind_tells Version body other v w p q = through VersionMeans SpellsVersion (λ m n b c r s same. let told = spelled_told m n b c r s same in (told.0, ap (λ x. x ∷ []) told.1, told.2)) body other v w p q
kind_tells Architecture body other v w p q = through ArchitectureMeans SpellsArchitecture (λ m n. as_string ArchitectureMeans (λ t. t) m n (λ b x. refl) (λ x. refl) (λ b x. refl)) body other v w p q
kind_tells ArchitectureWords body other v w p q = through ArchitecturesMean SpellsArchitectures (λ m n b c r s same. let told = array_told m n r s same in (ap words_text told.0, refl, told.1)) body other v w p q
kind_tells Flag body other v w p q = through FlagMeans SpellsFlag (λ m n. as_string FlagMeans flag_text m n (λ b x. refl) (λ x. refl) (λ b x. refl)) body other v w p q
kind_tells MultiArch body other v w p q = through MultiArchMeans SpellsMultiArch (λ m n. as_string MultiArchMeans multi_arch_text m n (λ b x. refl) (λ x. refl) (λ b x. refl)) body other v w p q
kind_tells Number body other v w p q = through NumberMeans SpellsNumber (λ m n b c r s same. let told = number_told m n r s same in (told.0, refl, told.1)) body other v w p q
kind_tells Line body other v w p q = through LineMeans SpellsLine (λ m n. as_string LineMeans (λ t. t) m n (λ b x. refl) (λ x. refl) (λ b x. refl)) body other v w p q
kind_tells Folded body other v w p q = through FoldedMeans SpellsFolded (λ m n b c r s same. let told = array_told m n r s same in (ap words_text told.0, refl, told.1)) body other v w p q
kind_tells (Relation sort) body other v w p q = through RelationMeans (SpellsRelationship sort) (λ m n b c r s same. let told = relation_told m n r s same in (told.0, refl, told.1)) body other v w p q
kind_tells Text body other v w p q = through TextMeans SpellsText (λ m n. as_string TextMeans (λ t. t) m n (λ b x. refl) (λ x. refl) (λ b x. refl)) body other v w p q

-- ---- the values of a paragraph, each spelled by a body

abbrev AreSpelled : Doc → ValueEntries ValueMeaning → Type 0
AreSpelled doc [] = Unit {0}
AreSpelled doc (entry ∷ values) = ((body : List ℕ) × SpellsValue doc entry.0 body entry.1) × AreSpelled doc values

are_spelled : (doc : Doc) (bodies : Entries) (values : ValueEntries ValueMeaning) → Pairwise (SpellsEntry (SpellsValue doc)) bodies values → AreSpelled doc values
are_spelled doc [] [] p = tt
are_spelled doc [] (entry ∷ values) p = absurd p
are_spelled doc (body ∷ bodies) [] p = absurd p
are_spelled doc (body ∷ bodies) (entry ∷ values) p = ((body.1, p.0.1), are_spelled doc bodies values p.1)

module _ (doc : Doc) (fields others : List Field) where
  entries_told : (values more : ValueEntries ValueMeaning) → AreSpelled doc values → AreSpelled doc more → (r s : List Token) → flat_map (entry_tokens fields) values ++ Token.end_object ∷ r ≡ flat_map (entry_tokens others) more ++ Token.end_object ∷ s
      → (values ≡ more) × (spelled_versions fields values ≡ spelled_versions others more)
  entries_told [] [] p q r s same = (refl, refl)
  entries_told [] (y ∷ more) p q r s same = absurd (cc)
  entries_told (x ∷ values) [] p q r s same = absurd (cc)
  entries_told (x ∷ values) (y ∷ more) p q r s same =
      let b = body_named x.0 fields in
      let c = body_named y.0 others in
      let left = flat_map (entry_tokens fields) values ++ Token.end_object ∷ r in
      let right = flat_map (entry_tokens others) more ++ Token.end_object ∷ s in
      let parts : Token.key x.0 ∷ (value_tokens b x.1 ++ left) ≡ Token.key y.0 ∷ (value_tokens c y.1 ++ right) =
      sym (append_assoc (entry_tokens fields x) (flat_map (entry_tokens fields) values) (Token.end_object ∷ r)) ∙ same ∙ append_assoc (entry_tokens others y) (flat_map (entry_tokens others) more) (Token.end_object ∷ s) in
      let names : x.0 ≡ y.0 = cc in
      let kind = kind_of doc x.0 in
      let spelled : SpellsKind kind q.0.0 y.1 = subst (λ name. SpellsValue doc name q.0.0 y.1) (sym names) q.0.1 in
      let told = kind_tells kind p.0.0 q.0.0 x.1 y.1 p.0.1 spelled b c left right (ap tail parts) in
      let value : x.1 ≡ y.1 = (one_text ValueMeaning (SpellsKind kind) value_text (kind_law kind) p.0.0 q.0.0 x.1 y.1 p.0.1 spelled).0 told.0 in
      let entry : x ≡ y = ap (λ name. (name, x.1)) names ∙ ap (λ v. (y.0, v)) value in
      let rest = entries_told values more p.1 q.1 r s told.2 in
      (ap (λ e. e ∷ values) entry ∙ ap (λ l. y ∷ l) rest.0, ap (λ l. l ++ spelled_versions fields values) told.1 ∙ ap (λ l. spelled_version c y.1 ++ l) rest.1)

  -- a value's tokens have its body if it is a version, and else are the same whatever that is
  one_alike : (value : ValueMeaning) (b c : List ℕ) (r s : List (List ℕ)) → spelled_version b value ++ r ≡ spelled_version c value ++ s → (value_tokens b value ≡ value_tokens c value) × (r ≡ s)
  one_alike (NameMeans name) b c r s same = (refl, same)
  one_alike (SourceMeans source) b c r s same = (refl, same)
  one_alike (VersionMeans version) b c r s same = let bodies : b ≡ c = cc in (ap (λ body. spelled_tokens body version) bodies, ap tail same)
  one_alike (ArchitectureMeans name) b c r s same = (refl, same)
  one_alike (ArchitecturesMean names) b c r s same = (refl, same)
  one_alike (FlagMeans flag) b c r s same = (refl, same)
  one_alike (MultiArchMeans word) b c r s same = (refl, same)
  one_alike (NumberMeans n) b c r s same = (refl, same)
  one_alike (LineMeans line) b c r s same = (refl, same)
  one_alike (FoldedMeans words) b c r s same = (refl, same)
  one_alike (RelationMeans relation) b c r s same = (refl, same)
  one_alike (TextMeans text) b c r s same = (refl, same)

  entries_alike : (values : ValueEntries ValueMeaning) → spelled_versions fields values ≡ spelled_versions others values → flat_map (entry_tokens fields) values ≡ flat_map (entry_tokens others) values
  entries_alike [] same = refl
  entries_alike (x ∷ values) same =
      let c = body_named x.0 others in
      let one = one_alike x.1 (body_named x.0 fields) c (spelled_versions fields values) (spelled_versions others values) same in
      ap (λ ts. Token.key x.0 ∷ (ts ++ flat_map (entry_tokens fields) values)) one.0
      ∙ ap (λ ts. Token.key x.0 ∷ (value_tokens c x.1 ++ ts)) (entries_alike values one.1)

tokens_told : (doc : Doc) (seen other : Seen) (values others : ValueEntries ValueMeaning) → AreValuesOf doc seen values → AreValuesOf doc other others → seen.first < 2 ^ 64 → other.first < 2 ^ 64
    → paragraph_tokens seen.first seen.fields values ≡ paragraph_tokens other.first other.fields others → (values ≡ others) × (seen.first ≡ other.first) × (spelled_versions seen.fields values ≡ spelled_versions other.fields others)
tokens_told doc seen other values others are were fits fit same =
    let numbers : decimal seen.first ≡ decimal other.first = cc in
    let told = entries_told doc seen.fields other.fields values others (are_spelled doc (entries_of seen.fields) values are.spelled) (are_spelled doc (entries_of other.fields) others were.spelled) (Token.end_object ∷ []) (Token.end_object ∷ [])
    (ap (λ l. tail (tail (tail (tail (tail l))))) same) in
    (told.0, decimal_told seen.first other.first fits fit numbers, told.1)

tokens_alike : (doc : Doc) (seen other : Seen) (values others : ValueEntries ValueMeaning) → values ≡ others → seen.first ≡ other.first → spelled_versions seen.fields values ≡ spelled_versions other.fields others → paragraph_tokens seen.first seen.fields values ≡ paragraph_tokens other.first other.fields others
tokens_alike doc seen other values others same first spelled =
    let bodies : spelled_versions seen.fields values ≡ spelled_versions other.fields values = spelled ∙ ap (spelled_versions other.fields) (sym same) in
    let shape : ℕ → List Token → List Token = λ n ts. Token.begin_object ∷ Token.key (codes "line") ∷ Token.number (decimal n) ∷ Token.key (codes "fields") ∷ Token.begin_object ∷ (ts ++ Token.end_object ∷ Token.end_object ∷ []) in
    ap (λ n. shape n (flat_map (entry_tokens seen.fields) values)) first ∙ ap (shape other.first) (entries_alike doc seen.fields other.fields values bodies ∙ ap (flat_map (entry_tokens other.fields)) same)

pub json_lines_tell_meanings : JsonLinesTellMeanings
json_lines_tell_meanings doc seen other values others are were fits fit =
    let tells = json_lines_tell_tokens seen other values others fits fit in (
      λ same. tokens_told doc seen other values others are were fits fit (tells.0 same),
      λ same. tells.1 (tokens_alike doc seen other values others same.0 same.1 same.2),
    )
