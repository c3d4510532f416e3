-- The line of JSON of a paragraph is read back as the value of its meaning.
use Rattle.std.proofs.Common.{sym, ◌≡◌, ℕ, suc, ◌≤◌, ◌<◌, ◌^◌, Bool, true, false, cond, nat_le, List, [], ◌∷◌, ◌++◌, map, decimal, Option, None, Some, codes, refl, ap, ◌∙◌, subst, arith, append_assoc, leb-true}
use Rattle.std.specs.List.{flat_map}
use Rattle.json.specs.Token.{Token}
use Rattle.json.specs.Lex.{tokens}
use Rattle.json.specs.Print.{print}
use Rattle.json.proofs.Printed.Decimals.{IsNumber-decimal}
use Rattle.serde_json.specs.Data.{Data, array, number, object, string, unsigned, put, no_members}
use Rattle.serde_json.proofs.Numbers.{number_of-decimal}
use Rattle.deb_syntax.specs.Answers.{Seen}
use Rattle.deb_syntax.specs.Fields.{Field}
use Rattle.deb_version.specs.Canonical.{digits_of, version_text}
use Rattle.deb_version.specs.Parts.{Meaning as VersionMeaning}
use Rattle.deb_relation.specs.Meaning.{Alternative, Group, Relation, Restrictions}
use Rattle.deb_relation.specs.Texts.{item_text, operator_text, signed_text}
use Rattle.deb_relation.specs.declared.operator.Op.{Op}
use Rattle.deb_field.specs.Flags.{flag_text, multi_arch_text}
use Rattle.deb_field.specs.Sources.{SourceMeaning}
use Rattle.deb_field.specs.Values.{ValueMeaning, NameMeans, SourceMeans, VersionMeans, ArchitectureMeans, ArchitecturesMean, FlagMeans, MultiArchMeans, NumberMeans, LineMeans, FoldedMeans, RelationMeans, TextMeans}
use Rattle.deb_control.specs.ValueFiles.{ValueEntries}
use Rattle.deb_select.specs.FieldBodies.{body_named}
use Rattle.deb_select.specs.JsonLaws.{JsonLinesReadBack, JsonLinesTellTokens}
use Rattle.deb_select.specs.JsonLines.{alternative_json, architectures_json, bound_json, fields_json, formula_json, group_json, most_exact, number_json, paragraph_json, qualifier_json, relation_json, restrictions_json, source_json, spelled_json, strings, value_json, version_json, with_member}
use Rattle.deb_select.specs.JsonTokens.{alternative_tokens, architectures_member, bound_members, entry_tokens, formula_member, group_tokens, list_tokens, number_tokens, paragraph_tokens, qualifier_member, source_tokens, spelled_tokens, strings_tokens, text_tokens, value_tokens, version_member}
use Rattle.deb_select.proofs.JsonTrees.{ItemsRead, MembersRead, Reads, array_read, item_read, member_read, members_then, no_items_read, no_member_read, numeral_read, object_read, read_printed, text_read, tokens_printed}

same_tokens : (ts us : List Token) (d : Data) (n : ℕ) → ts ≡ us → Reads ts d n → Reads us d n
same_tokens ts us d n same r = subst (λ l. Reads l d n) same r

texts_read : (n : ℕ) (texts : List (List ℕ)) → ItemsRead (flat_map text_tokens texts) (strings texts) n
texts_read n [] = no_items_read n
texts_read n (text ∷ texts) = item_read n (text_tokens text) (flat_map text_tokens texts) (string text) (strings texts) (text_read n text) (texts_read n texts)

strings_read : (n : ℕ) (texts : List (List ℕ)) → Reads (strings_tokens texts) (array (strings texts)) (suc n)
strings_read n texts = array_read n (flat_map text_tokens texts) (strings texts) (texts_read n texts)

number_read : (n : ℕ) → Reads (number_tokens n) (number_json n) 5
number_read n = go (nat_le n most_exact) refl
  where
    go : (t : Bool) → nat_le n most_exact ≡ t → Reads (cond t (Token.number (decimal n) ∷ []) (Token.string (digits_of n) ∷ [])) (cond t (number (unsigned n)) (string (digits_of n))) 5
    go true is =
        let most : n ≤ 9007199254740992 = leb-true n most_exact is in
        let fits : n < 2 ^ 64 = omega (arith, most) in
        numeral_read 5 (decimal n) (unsigned n) (number_of-decimal n fits) (IsNumber-decimal n fits)
    go false is = text_read 5 (digits_of n)

-- ---- the parts of an alternative

qualifier_read : (qualifier : Option (List ℕ)) → MembersRead (qualifier_member qualifier) (with_member (codes "qualifier") (qualifier_json qualifier)) 2
qualifier_read None = no_member_read 2
qualifier_read (Some qualifier) = member_read 2 (codes "qualifier") (text_tokens qualifier) (string qualifier) (text_read 2 qualifier)

bound_read : (bound : Option (Op × VersionMeaning)) → MembersRead (bound_members bound) (bound_json bound) 2
bound_read None = no_member_read 2
bound_read (Some bound) =
    let operator = operator_text bound.0 in
    let version = version_text bound.1 in
    members_then 2 (Token.key (codes "operator") ∷ text_tokens operator) (Token.key (codes "version") ∷ text_tokens version) (λ ms. put (codes "operator") (string operator) ms) (λ ms. put (codes "version") (string version) ms)
    (member_read 2 (codes "operator") (text_tokens operator) (string operator) (text_read 2 operator))
    (member_read 2 (codes "version") (text_tokens version) (string version) (text_read 2 version))

architectures_read : (list : Option (Bool × List (List ℕ))) → MembersRead (architectures_member list) (with_member (codes "architectures") (architectures_json list)) 2
architectures_read None = no_member_read 2
architectures_read (Some list) =
    let texts = map (signed_text list.0) list.1 in
    member_read 2 (codes "architectures") (strings_tokens texts) (array (strings texts)) (strings_read 1 texts)

lists_read : (lists : List Restrictions) → ItemsRead (flat_map list_tokens lists) (restrictions_json lists) 1
lists_read [] = no_items_read 1
lists_read (list ∷ lists) =
    let texts = map item_text list in
    item_read 1 (list_tokens list) (flat_map list_tokens lists) (array (strings texts)) (restrictions_json lists) (strings_read 0 texts) (lists_read lists)

formula_read : (lists : List Restrictions) → MembersRead (formula_member lists) (with_member (codes "restrictions") (formula_json lists)) 2
formula_read [] = no_member_read 2
formula_read (list ∷ lists) =
    let all = list ∷ lists in
    member_read 2 (codes "restrictions") (Token.begin_array ∷ (flat_map list_tokens all ++ Token.end_array ∷ [])) (array (restrictions_json all))
    (array_read 1 (flat_map list_tokens all) (restrictions_json all) (lists_read all))

regroup : (q b a f e : List Token) → (q ++ (b ++ (a ++ f))) ++ e ≡ q ++ (b ++ (a ++ (f ++ e)))
regroup q b a f e = append_assoc q (b ++ (a ++ f)) e ∙ ap (λ l. q ++ l) (append_assoc b (a ++ f) e ∙ ap (λ l. b ++ l) (append_assoc a f e))

alternative_read : (x : Alternative) → Reads (alternative_tokens x) (alternative_json x) 3
alternative_read x =
    let q = qualifier_member x.qualifier in
    let b = bound_members x.bound in
    let a = architectures_member x.architectures in
    let f = formula_member x.formula in
    let qs = with_member (codes "qualifier") (qualifier_json x.qualifier) in
    let bs = bound_json x.bound in
    let archs = with_member (codes "architectures") (architectures_json x.architectures) in
    let fs = with_member (codes "restrictions") (formula_json x.formula) in
    let name = Token.key (codes "name") ∷ text_tokens x.name in
    let members = members_then 2 name (q ++ (b ++ (a ++ f))) (λ ms. put (codes "name") (string x.name) ms) (λ ms. fs (archs (bs (qs ms)))) (member_read 2 (codes "name") (text_tokens x.name) (string x.name) (text_read 2 x.name))
    (members_then 2 q (b ++ (a ++ f)) qs (λ ms. fs (archs (bs ms))) (qualifier_read x.qualifier)
    (members_then 2 b (a ++ f) bs (λ ms. fs (archs ms)) (bound_read x.bound) (members_then 2 a f archs fs (architectures_read x.architectures) (formula_read x.formula)))) in
    same_tokens (Token.begin_object ∷ ((name ++ (q ++ (b ++ (a ++ f)))) ++ Token.end_object ∷ [])) (alternative_tokens x) (alternative_json x) 3 (ap (λ l. Token.begin_object ∷ (name ++ l)) (regroup q b a f (Token.end_object ∷ [])))
    (object_read 2 (name ++ (q ++ (b ++ (a ++ f)))) (λ ms. fs (archs (bs (qs (put (codes "name") (string x.name) ms))))) members)

alternatives_read : (group : Group) → ItemsRead (flat_map alternative_tokens group) (group_json group) 3
alternatives_read [] = no_items_read 3
alternatives_read (x ∷ group) = item_read 3 (alternative_tokens x) (flat_map alternative_tokens group) (alternative_json x) (group_json group) (alternative_read x) (alternatives_read group)

groups_read : (groups : Relation) → ItemsRead (flat_map group_tokens groups) (relation_json groups) 4
groups_read [] = no_items_read 4
groups_read (group ∷ groups) =
    item_read 4 (group_tokens group) (flat_map group_tokens groups) (array (group_json group)) (relation_json groups) (array_read 3 (flat_map alternative_tokens group) (group_json group) (alternatives_read group)) (groups_read groups)

-- ---- values, fields, the paragraph

version_read : (version : Option VersionMeaning) → MembersRead (version_member version) (with_member (codes "version") (version_json version)) 4
version_read None = no_member_read 4
version_read (Some version) = member_read 4 (codes "version") (text_tokens (version_text version)) (string (version_text version)) (text_read 4 (version_text version))

source_read : (source : SourceMeaning) → Reads (source_tokens source) (source_json source) 5
source_read source =
    let name = Token.key (codes "name") ∷ text_tokens source.name in
    let version = with_member (codes "version") (version_json source.version) in
    object_read 4 (name ++ version_member source.version) (λ ms. version (put (codes "name") (string source.name) ms))
    (members_then 4 name (version_member source.version) (λ ms. put (codes "name") (string source.name) ms) version (member_read 4 (codes "name") (text_tokens source.name) (string source.name) (text_read 4 source.name)) (version_read source.version))

spelled_read : (body : List ℕ) (version : VersionMeaning) → Reads (spelled_tokens body version) (spelled_json body version) 5
spelled_read body version =
    let canonical = Token.key (codes "canonical") ∷ text_tokens (version_text version) in
    let spelled = Token.key (codes "spelled") ∷ text_tokens body in
    object_read 4 (canonical ++ spelled) (λ ms. put (codes "spelled") (string body) (put (codes "canonical") (string (version_text version)) ms))
    (members_then 4 canonical spelled (λ ms. put (codes "canonical") (string (version_text version)) ms) (λ ms. put (codes "spelled") (string body) ms)
    (member_read 4 (codes "canonical") (text_tokens (version_text version)) (string (version_text version)) (text_read 4 (version_text version)))
    (member_read 4 (codes "spelled") (text_tokens body) (string body) (text_read 4 body)))

value_read : (body : List ℕ) (value : ValueMeaning) → Reads (value_tokens body value) (value_json body value) 5
value_read body (NameMeans name) = text_read 5 name
value_read body (SourceMeans source) = source_read source
value_read body (VersionMeans version) = spelled_read body version
value_read body (ArchitectureMeans name) = text_read 5 name
value_read body (ArchitecturesMean names) = strings_read 4 names
value_read body (FlagMeans flag) = text_read 5 (flag_text flag)
value_read body (MultiArchMeans word) = text_read 5 (multi_arch_text word)
value_read body (NumberMeans n) = number_read n
value_read body (LineMeans line) = text_read 5 line
value_read body (FoldedMeans words) = strings_read 4 words
value_read body (RelationMeans relation) = array_read 4 (flat_map group_tokens relation) (relation_json relation) (groups_read relation)
value_read body (TextMeans text) = text_read 5 text

fields_read : (fields : List Field) (values : ValueEntries ValueMeaning) → MembersRead (flat_map (entry_tokens fields) values) (λ ms. fields_json fields ms values) 5
fields_read fields [] = no_member_read 5
fields_read fields (entry ∷ values) =
    let body = body_named entry.0 fields in
    members_then 5 (entry_tokens fields entry) (flat_map (entry_tokens fields) values) (λ ms. put entry.0 (value_json body entry.1) ms) (λ ms. fields_json fields ms values)
    (member_read 5 entry.0 (value_tokens body entry.1) (value_json body entry.1) (value_read body entry.1))
    (fields_read fields values)

pub paragraph_read : (line : ℕ) (fields : List Field) (values : ValueEntries ValueMeaning) → line < 2 ^ 64 → Reads (paragraph_tokens line fields values) (paragraph_json line fields values) 7
paragraph_read line fields values fits =
    let all = flat_map (entry_tokens fields) values in
    let first = Token.key (codes "line") ∷ Token.number (decimal line) ∷ [] in
    let second = Token.key (codes "fields") ∷ Token.begin_object ∷ (all ++ Token.end_object ∷ []) in
    let members = members_then 6 first second (λ ms. put (codes "line") (number (unsigned line)) ms) (λ ms. put (codes "fields") (object (fields_json fields no_members values)) ms)
    (member_read 6 (codes "line") (Token.number (decimal line) ∷ []) (number (unsigned line)) (numeral_read 6 (decimal line) (unsigned line) (number_of-decimal line fits) (IsNumber-decimal line fits)))
    (member_read 6 (codes "fields") (Token.begin_object ∷ (all ++ Token.end_object ∷ [])) (object (fields_json fields no_members values)) (object_read 5 all (λ ms. fields_json fields ms values) (fields_read fields values))) in
    same_tokens (Token.begin_object ∷ ((first ++ second) ++ Token.end_object ∷ [])) (paragraph_tokens line fields values) (paragraph_json line fields values) 7
    (ap (λ l. Token.begin_object ∷ (first ++ Token.key (codes "fields") ∷ Token.begin_object ∷ l)) (append_assoc all (Token.end_object ∷ []) (Token.end_object ∷ [])))
    (object_read 6 (first ++ second) (λ ms. put (codes "fields") (object (fields_json fields no_members values)) (put (codes "line") (number (unsigned line)) ms)) members)

pub json_lines_read_back : JsonLinesReadBack
json_lines_read_back line fields values fits = read_printed 7 (paragraph_tokens line fields values) (paragraph_json line fields values) (paragraph_read line fields values fits) (omega arith)

own_tokens : (seen : Seen) (values : ValueEntries ValueMeaning) → seen.first < 2 ^ 64 → tokens (print (paragraph_tokens seen.first seen.fields values)) ≡ paragraph_tokens seen.first seen.fields values
own_tokens seen values fits = tokens_printed 7 (paragraph_tokens seen.first seen.fields values) (paragraph_json seen.first seen.fields values) (paragraph_read seen.first seen.fields values fits)

pub json_lines_tell_tokens : JsonLinesTellTokens
json_lines_tell_tokens seen other values others fits fit = (
  λ same. sym (own_tokens seen values fits) ∙ ap tokens same ∙ own_tokens other others fit,
  λ same. ap print same,
)
