-- No byte of a paragraph ends its line of JSON.
use Rattle.std.proofs.Common.{◌≡◌, ℕ, zero, suc, ◌+◌, ◌/◌, ◌%◌, ◌==◌, ◌&&◌, ◌||◌, Bool, true, false, cond, nat_le, nat_lt, List, [], ◌∷◌, ◌++◌, length, map, decimal, Option, None, Some, refl, sym, ap, ◌∙◌, subst, arith}
use Rattle.std.proofs.lemmas.Bool.{ne_eqb, eqb-true}
use Rattle.std.specs.Prelude.{⊤}
use Rattle.std.specs.Char.{digit_char}
use Rattle.std.specs.Fmt.{digits, digits_onto, digit_glyph}
use Rattle.std.specs.List.{flat_map}
use Rattle.json.specs.Token.{Token}
use Rattle.json.specs.Print.{begins, ends, escape, escape_byte, escape_letter, print_from, quoted, separator, token_text}
use Rattle.deb_syntax.specs.Fields.{Field}
use Rattle.deb_version.specs.Canonical.{digits_of}
use Rattle.deb_version.specs.Parts.{Meaning as VersionMeaning}
use Rattle.deb_relation.specs.Meaning.{Alternative, Group, Restrictions}
use Rattle.deb_relation.specs.Texts.{item_text, signed_text}
use Rattle.deb_relation.specs.declared.operator.Op.{Op}
use Rattle.deb_field.specs.Sources.{SourceMeaning}
use Rattle.deb_field.specs.Values.{ValueMeaning, NameMeans, SourceMeans, VersionMeans, ArchitectureMeans, ArchitecturesMean, FlagMeans, MultiArchMeans, NumberMeans, LineMeans, FoldedMeans, RelationMeans, TextMeans}
use Rattle.deb_control.specs.ValueFiles.{ValueEntries}
use Rattle.deb_select.specs.Conditions.{selected, selects}
use Rattle.deb_select.specs.FieldBodies.{body_named, fields_in}
use Rattle.deb_select.specs.Forms.{JsonLines, output}
use Rattle.deb_select.specs.JsonLaws.{JsonLinesAreSelected}
use Rattle.deb_select.specs.JsonLines.{most_exact}
use Rattle.deb_select.specs.JsonTokens.{alternative_tokens, architectures_member, bound_members, entry_tokens, formula_member, group_tokens, json_line, json_text, list_tokens, number_tokens, paragraph_tokens, qualifier_member, source_tokens, strings_tokens, text_tokens, value_tokens, version_member}
use Rattle.deb_select.specs.Laws.{newlines_in}
use Rattle.deb_select.proofs.FormOutputs.{newlines-append}

one-less : (b : ℕ) (bs : List ℕ) → (b == 10) ≡ false → newlines_in (b ∷ bs) ≡ newlines_in bs
one-less b bs is = ap (λ t. cond t (newlines_in bs + 1) (newlines_in bs)) is

-- ---- numbers

glyph-none : (d : ℕ) → (digit_glyph false d == 10) ≡ false
glyph-none d = ne_eqb (digit_glyph false d) 10 (λ same. go (nat_lt d 10) same)
  where
    go : (t : Bool) → cond t (48 + d) (87 + d) ≡ 10 → ⊥
    go true same = omega (arith, same)
    go false same = omega (arith, same)

onto-none : (k n : ℕ) (acc : List ℕ) → newlines_in (digits_onto k 10 false n acc) ≡ newlines_in acc
onto-none zero n acc = refl
onto-none (suc k) n acc = go (n / 10 == 0) (onto-none k (n / 10) (digit_glyph false (n % 10) ∷ acc))
  where
    d : ℕ
    d = digit_glyph false (n % 10)

    go : (t : Bool) → newlines_in (digits_onto k 10 false (n / 10) (d ∷ acc)) ≡ newlines_in (d ∷ acc) → newlines_in (cond t (d ∷ acc) (digits_onto k 10 false (n / 10) (d ∷ acc))) ≡ newlines_in acc
    go true rest = one-less d acc (glyph-none (n % 10))
    go false rest = rest ∙ one-less d acc (glyph-none (n % 10))

decimal-none : (n : ℕ) → newlines_in (decimal n) ≡ 0
unfolding digits
decimal-none n = onto-none 64 n []

-- ---- strings

char-none : (d : ℕ) → (digit_char d == 10) ≡ false
char-none d = ne_eqb (digit_char d) 10 (λ same. go (nat_lt d 10) same)
  where
    go : (t : Bool) → cond t (48 + d) (87 + d) ≡ 10 → ⊥
    go true same = omega (arith, same)
    go false same = omega (arith, same)

letter-none : (x : ℕ) → (x == 10) ≡ false → (escape_letter x == 10) ≡ false
letter-none x other = go ((x == 34) || (x == 92)) (x == 8) (x == 12) (x == 10) (x == 13) (x == 9)
  where
    go : (a b c d e f : Bool) → (cond a x (cond b 98 (cond c 102 (cond d 110 (cond e 114 (cond f 116 0))))) == 10) ≡ false
    go true b c d e f = other
    go false true c d e f = refl
    go false false true d e f = refl
    go false false false true e f = refl
    go false false false false true f = refl
    go false false false false false true = refl
    go false false false false false false = refl

byte-none : (x : ℕ) → newlines_in (escape_byte x) ≡ 0
unfolding escape_byte
byte-none x = go (x == 10) refl
  where
    other : (x == 10) ≡ false → (l s : Bool) → newlines_in (cond l (92 ∷ escape_letter x ∷ []) (cond s (92 ∷ 117 ∷ 48 ∷ 48 ∷ digit_char (x / 16) ∷ digit_char (x % 16) ∷ []) (x ∷ []))) ≡ 0
    other is true s = one-less (escape_letter x) [] (letter-none x is)
    other is false true = one-less (digit_char (x / 16)) (digit_char (x % 16) ∷ []) (char-none (x / 16)) ∙ one-less (digit_char (x % 16)) [] (char-none (x % 16))
    other is false false = one-less x [] is

    go : (t : Bool) → (x == 10) ≡ t → newlines_in (escape_byte x) ≡ 0
    go true is = subst (λ b. newlines_in (escape_byte b) ≡ 0) (sym (eqb-true x 10 is)) refl
    go false is = other is (nat_lt 0 (escape_letter x)) (nat_lt x 32)

escape-none : (text : List ℕ) → newlines_in (escape text) ≡ 0
escape-none [] = refl
escape-none (b ∷ text) = newlines-append (escape_byte b) (escape text) ∙ omega (arith, byte-none b, escape-none text)

quoted-none : (text : List ℕ) → newlines_in (quoted text) ≡ 0
quoted-none text = newlines-append (escape text) (34 ∷ []) ∙ omega (arith, escape-none text)

-- ---- tokens: a number's text has none

abbrev IsPlain : Token → Type 0
IsPlain Token.begin_object = ⊤
IsPlain Token.end_object = ⊤
IsPlain Token.begin_array = ⊤
IsPlain Token.end_array = ⊤
IsPlain (Token.key s) = ⊤
IsPlain (Token.string s) = ⊤
IsPlain (Token.number s) = newlines_in s ≡ 0
IsPlain (Token.boolean b) = ⊤
IsPlain Token.null = ⊤
IsPlain Token.bad = ⊤

abbrev ArePlain : List Token → Type 0
ArePlain [] = ⊤
ArePlain (t ∷ ts) = IsPlain t × ArePlain ts

token-none : (t : Token) → IsPlain t → newlines_in (token_text t) ≡ 0
token-none Token.begin_object h = refl
token-none Token.end_object h = refl
token-none Token.begin_array h = refl
token-none Token.end_array h = refl
token-none (Token.key s) h = newlines-append (quoted s) (58 ∷ []) ∙ omega (arith, quoted-none s)
token-none (Token.string s) h = quoted-none s
token-none (Token.number s) h = h
token-none (Token.boolean true) h = refl
token-none (Token.boolean false) h = refl
token-none Token.null h = refl
token-none Token.bad h = refl

comma-none : (b : Bool) → newlines_in (cond b (44 ∷ []) []) ≡ 0
comma-none true = refl
comma-none false = refl

print-none : (later : Bool) (ts : List Token) → ArePlain ts → newlines_in (print_from later ts) ≡ 0
unfolding print_from
print-none later [] h = refl
print-none later (t ∷ ts) h =
    newlines-append (separator later t) (token_text t ++ print_from (ends t) ts)
    ∙ omega (arith, comma-none (later && begins t), newlines-append (token_text t) (print_from (ends t) ts), token-none t h.0, print-none (ends t) ts h.1)

plain-append : (ts us : List Token) → ArePlain ts → ArePlain us → ArePlain (ts ++ us)
plain-append [] us h k = k
plain-append (t ∷ ts) us h k = (h.0, plain-append ts us h.1 k)

plain-all : {X : Type 0} (f : X → List Token) → ((x : X) → ArePlain (f x)) → (xs : List X) → ArePlain (flat_map f xs)
plain-all f each [] = tt
plain-all f each (x ∷ xs) = plain-append (f x) (flat_map f xs) (each x) (plain-all f each xs)

-- ---- a paragraph

plain-strings : (texts : List (List ℕ)) → ArePlain (strings_tokens texts)
plain-strings texts = (tt, plain-append (flat_map text_tokens texts) (Token.end_array ∷ []) (plain-all text_tokens (λ text. (tt, tt)) texts) (tt, tt))

plain-number : (n : ℕ) → ArePlain (number_tokens n)
plain-number n = go (nat_le n most_exact)
  where
    go : (t : Bool) → ArePlain (cond t (Token.number (decimal n) ∷ []) (Token.string (digits_of n) ∷ []))
    go true = (decimal-none n, tt)
    go false = (tt, tt)

plain-version : (version : Option VersionMeaning) → ArePlain (version_member version)
plain-version None = tt
plain-version (Some version) = (tt, (tt, tt))

plain-source : (source : SourceMeaning) → ArePlain (source_tokens source)
plain-source source = (tt, (tt, (tt, plain-append (version_member source.version) (Token.end_object ∷ []) (plain-version source.version) (tt, tt))))

plain-qualifier : (qualifier : Option (List ℕ)) → ArePlain (qualifier_member qualifier)
plain-qualifier None = tt
plain-qualifier (Some qualifier) = (tt, (tt, tt))

plain-bound : (bound : Option (Op × VersionMeaning)) → ArePlain (bound_members bound)
plain-bound None = tt
plain-bound (Some bound) = (tt, (tt, (tt, (tt, tt))))

plain-architectures : (list : Option (Bool × List (List ℕ))) → ArePlain (architectures_member list)
plain-architectures None = tt
plain-architectures (Some list) = (tt, plain-strings (map (signed_text list.0) list.1))

plain-formula : (lists : List Restrictions) → ArePlain (formula_member lists)
plain-formula [] = tt
plain-formula (list ∷ lists) =
    (tt, (tt, plain-append (flat_map list_tokens (list ∷ lists)) (Token.end_array ∷ []) (plain-all list_tokens (λ l. plain-strings (map item_text l)) (list ∷ lists)) (tt, tt)))

plain-alternative : (x : Alternative) → ArePlain (alternative_tokens x)
plain-alternative x =
    let f = formula_member x.formula in
    let a = architectures_member x.architectures in
    let b = bound_members x.bound in
    let e : List Token = Token.end_object ∷ [] in
    let rest =
    plain-append (qualifier_member x.qualifier) (b ++ (a ++ (f ++ e))) (plain-qualifier x.qualifier)
    (plain-append b (a ++ (f ++ e)) (plain-bound x.bound) (plain-append a (f ++ e) (plain-architectures x.architectures) (plain-append f e (plain-formula x.formula) (tt, tt)))) in
    (tt, (tt, (tt, rest)))

plain-group : (group : Group) → ArePlain (group_tokens group)
plain-group group = (tt, plain-append (flat_map alternative_tokens group) (Token.end_array ∷ []) (plain-all alternative_tokens plain-alternative group) (tt, tt))

plain-value : (body : List ℕ) (value : ValueMeaning) → ArePlain (value_tokens body value)
plain-value body (NameMeans name) = (tt, tt)
plain-value body (SourceMeans source) = plain-source source
plain-value body (VersionMeans version) = (tt, (tt, (tt, (tt, (tt, (tt, tt))))))
plain-value body (ArchitectureMeans name) = (tt, tt)
plain-value body (ArchitecturesMean names) = plain-strings names
plain-value body (FlagMeans flag) = (tt, tt)
plain-value body (MultiArchMeans word) = (tt, tt)
plain-value body (NumberMeans n) = plain-number n
plain-value body (LineMeans line) = (tt, tt)
plain-value body (FoldedMeans words) = plain-strings words
plain-value body (RelationMeans relation) = (tt, plain-append (flat_map group_tokens relation) (Token.end_array ∷ []) (plain-all group_tokens plain-group relation) (tt, tt))
plain-value body (TextMeans text) = (tt, tt)

plain-paragraph : (line : ℕ) (fields : List Field) (values : ValueEntries ValueMeaning) → ArePlain (paragraph_tokens line fields values)
plain-paragraph line fields values =
    let each = plain-all (entry_tokens fields) (λ entry. (tt, plain-value (body_named entry.0 fields) entry.1)) values in
    let rest = plain-append (flat_map (entry_tokens fields) values) (Token.end_object ∷ Token.end_object ∷ []) each (tt, (tt, tt)) in
    (tt, (tt, (decimal-none line, (tt, (tt, rest)))))

line-one : (line : ℕ) (fields : List Field) (values : ValueEntries ValueMeaning) → newlines_in (json_line line fields values) ≡ 1
line-one line fields values = newlines-append (json_text line fields values) (10 ∷ []) ∙ omega (arith, print-none false (paragraph_tokens line fields values) (plain-paragraph line fields values))

pub json_lines_are_selected : JsonLinesAreSelected
json_lines_are_selected begun selection [] ps enough = refl
json_lines_are_selected begun selection (values ∷ meaning) [] enough = absurd (omega (arith, enough))
json_lines_are_selected begun selection (values ∷ meaning) (p ∷ ps) enough = go (json_lines_are_selected begun selection meaning ps (omega (arith, enough))) (selects selection values)
  where
    go : newlines_in (output JsonLines begun selection meaning ps) ≡ length (selected selection meaning) → (t : Bool) → newlines_in (cond t (json_line p.first (fields_in p) values) [] ++ output JsonLines (cond t begun begun) selection meaning ps) ≡ length (cond t (values ∷ selected selection meaning) (selected selection meaning))
    go is true = newlines-append (json_line p.first (fields_in p) values) (output JsonLines begun selection meaning ps) ∙ omega (arith, line-one p.first (fields_in p) values, is)
    go is false = is
