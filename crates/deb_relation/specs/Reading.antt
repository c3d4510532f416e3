-- How a relation is read from the left: each step of the grammar with what it takes, and the offset
-- of the first step that fails. Debian Policy 7.1; the order of the steps and the offsets of faults
-- are this project's.
use Rattle.std.specs.Prelude.{ℕ, zero, suc, ◌-◌, ◌==◌, ◌||◌, not, Bool, false, if◌then◌else◌, List, [], ◌∷◌, ◌++◌, length, take, drop, Option, Some, None, Result, Ok, Err, codes}
use Rattle.std.specs.List.{prefix_len}
use Rattle.std.specs.Str.{bytes_eq}
use Rattle.deb_base.specs.PackageNames.{is_package_name, is_arch_name, is_profile_name}
use Rattle.deb_version.specs.declared.fault.BadVersion.{BadVersion}
use Rattle.deb_version.specs.Parts.{Meaning as Version}
use Rattle.deb_version.specs.Grammar.{meaning_of_components}
use Rattle.deb_version.specs.Places.{components_in}
use Rattle.deb_version.specs.Faults.{first_fault}
use Rattle.deb_relation.specs.declared.operator.Op.{Op}
use Rattle.deb_relation.specs.declared.operator.Op.TheVariants.{Earlier, EarlierEqual, Equal, LaterEqual, Later}
use Rattle.deb_relation.specs.declared.fault.Reason.{Reason}
use Rattle.deb_relation.specs.declared.fault.Reason.TheVariants.{NameExpected, NameBad, QualifierBad, OperatorBad, Version as VersionBad, Unclosed, ItemBad, MixedSigns, ListEmpty, Trailing}
pub use Rattle.deb_relation.specs.Grammar.{is_white}
use Rattle.deb_relation.specs.Meaning.{Item, Restrictions, Alternative, Group, Relation}
use Rattle.deb_relation.specs.Sets.{insert_by, itself, same_bool}
use Rattle.deb_relation.specs.Texts.{item_text, restrictions_text, group_text}

-- A step that fails: the reason, and how many bytes the text has from its offset on.
abbrev pub Stopped : Type 0
Stopped = Reason × ℕ

-- What was read and the text after it, or the step that fails.
abbrev pub Reading : Type 0 → Type 0
Reading A = Result (A × List ℕ) Stopped

-- One of several things read and the text after it, or none if there is no further one, or the
-- step that fails.
abbrev pub Next : Type 0 → Type 0
Next A = Result (Option (A × List ℕ)) Stopped

-- one step and then another, on what was read and the text after it
abbrev pub and_then : {A B : Type 0} → Reading A → (A → List ℕ → Result B Stopped)
    → Result B Stopped
and_then (Ok p) next = next p.0 p.1
and_then (Err stopped) next = Err stopped

-- what was read, seen in another way
abbrev pub mapped : {A B : Type 0} → (A → B) → Reading A → Reading B
mapped view (Ok p) = Ok (view p.0, p.1)
mapped view (Err stopped) = Err stopped

-- a step again and again
abbrev pub and_next : {A B : Type 0} → Next A → Result B Stopped → (A → List ℕ → Result B Stopped)
    → Result B Stopped
and_next (Ok (Some p)) last next = next p.0 p.1
and_next (Ok None) last next = last
and_next (Err stopped) last next = Err stopped

-- at most so many times, each thing read put to those before it
abbrev pub gathered : {A S : Type 0} → (List ℕ → Next A) → (A → S → S) → ℕ → S → List ℕ → Reading S
gathered step put zero all rest = Ok (all, rest)
gathered step put (suc n) all rest =
    and_next (step rest) (Ok (all, rest)) (λ a behind. gathered step put n (put a all) behind)

-- as often as it goes: each step takes a byte at least
unfoldable pub gather : {A S : Type 0} → (List ℕ → Next A) → (A → S → S) → S → List ℕ → Reading S
gather step put all rest = gathered step put (length rest) all rest

-- the longest run of bytes that pass the test, and the text after it
abbrev pub run_of : (ℕ → Bool) → List ℕ → List ℕ
run_of test text = take (prefix_len test text) text

abbrev pub behind_run : (ℕ → Bool) → List ℕ → List ℕ
behind_run test text = drop (prefix_len test text) text

-- the text after white space
abbrev pub behind_white : List ℕ → List ℕ
behind_white text = behind_run is_white text

-- whether the text begins with this byte; whether it is at its end
abbrev pub begins : ℕ → List ℕ → Bool
begins byte [] = false
begins byte (b ∷ bs) = b == byte

abbrev pub is_at_end : List ℕ → Bool
is_at_end text = length text == 0

-- a name's run: all bytes but white space and `,` `|` `(` `)` `[` `]` `<` `>` `:`
abbrev pub ends_name : ℕ → Bool
ends_name b =
    is_white b || (b == 44) || (b == 124) || (b == 40) || (b == 41) || (b == 91) || (b == 93) ||
    (b == 60) || (b == 62) || (b == 58)

abbrev pub is_in_name : ℕ → Bool
is_in_name b = not (ends_name b)

-- an operator's run: `<`, `=` and `>`
abbrev pub is_in_operator : ℕ → Bool
is_in_operator b = (b == 60) || (b == 61) || (b == 62)

-- a run that ends at white space and at a closing byte: that of a version ends at `)`, of an item
-- at `]` or `>`
abbrev pub is_before : ℕ → ℕ → Bool
is_before close b = not (is_white b || (b == close))

-- the name
unfoldable pub read_name : List ℕ → Reading (List ℕ)
read_name text =
    if is_at_end (run_of is_in_name text) then Err (NameExpected, length text)
    else if is_package_name (run_of is_in_name text) then Ok
    (run_of is_in_name text, behind_run is_in_name text)
    else Err (NameBad, length text)

-- `:` and a qualifier, or nothing
unfoldable pub read_qualifier : List ℕ → Reading (Option (List ℕ))
read_qualifier text =
    if not (begins 58 text) then Ok (None, text)
    else if is_arch_name (run_of is_in_name (drop 1 text)) then Ok
    (Some (run_of is_in_name (drop 1 text)), behind_run is_in_name (drop 1 text))
    else Err (QualifierBad, length (drop 1 text))

-- the operator that a run is; the former `<` and `>` are `<=` and `>=`
abbrev pub operator_of : List ℕ → Option Op
operator_of run =
    if bytes_eq run (codes "<<") then Some Earlier
    else if bytes_eq run (codes "<=") then Some EarlierEqual
    else if bytes_eq run (codes "<") then Some EarlierEqual
    else if bytes_eq run (codes "=") then Some Equal
    else if bytes_eq run (codes ">=") then Some LaterEqual
    else if bytes_eq run (codes ">") then Some LaterEqual
    else if bytes_eq run (codes ">>") then Some Later
    else None

abbrev pub or_stop : {A : Type 0} → Option A → List ℕ → Stopped → Reading A
or_stop (Some a) behind stopped = Ok (a, behind)
or_stop None behind stopped = Err stopped

-- an operator, and white space after it
unfoldable pub read_operator : List ℕ → Reading Op
read_operator text =
    or_stop (operator_of (run_of is_in_operator text))
    (behind_white (behind_run is_in_operator text)) (OperatorBad, length text)

-- a version without fault means what its components mean
abbrev pub or_fault : Option BadVersion → Version → List ℕ → ℕ → Reading Version
or_fault None version behind left = Ok (version, behind)
or_fault (Some fault) version behind left = Err (VersionBad fault, left)

-- a version, and white space after it
unfoldable pub read_version : List ℕ → Reading Version
read_version text =
    or_fault (first_fault (run_of (is_before 41) text))
    (meaning_of_components (components_in (run_of (is_before 41) text)))
    (behind_white (behind_run (is_before 41) text)) (length text)

-- what follows a bound's `(` and white space: an operator, a version and `)`, and white space
-- after it
abbrev pub read_close : {A : Type 0} → A → List ℕ → Reading A
read_close bound text =
    if begins 41 text then Ok (bound, behind_white (drop 1 text)) else Err (Unclosed, length text)

unfoldable pub read_bound_behind : List ℕ → Reading (Op × Version)
read_bound_behind text =
    and_then (read_operator text)
    (λ operator rest. and_then (read_version rest)
    (λ version behind. read_close (operator, version) behind))

-- a bound, or nothing
abbrev pub some_read : {A : Type 0} → A → List ℕ → Reading (Option A)
some_read a behind = Ok (Some a, behind)

unfoldable pub read_bound : List ℕ → Reading (Option (Op × Version))
read_bound text =
    if begins 40 text then and_then
    (read_bound_behind (behind_white (drop 1 text))) some_read else Ok (None, text)

-- whether a list ends here: at its closing byte or with the text
abbrev pub ends_list : ℕ → List ℕ → Bool
ends_list close text = is_at_end text || begins close text

-- the name of an item: what follows its `!`, if it has one
abbrev pub name_of_item : List ℕ → List ℕ
name_of_item item = if begins 33 item then drop 1 item else item

-- the next item of an architecture list whose first item has `!` or not
unfoldable pub next_architecture : Bool → List ℕ → Next (List ℕ)
next_architecture negated text =
    let here = behind_white text in
    let item = run_of (is_before 93) here in
    if ends_list 93 here then Ok None
    else if not (is_arch_name (name_of_item item)) then Err (ItemBad, length here)
    else if not (same_bool (begins 33 item) negated) then Err (MixedSigns, length here)
    else Ok (Some (name_of_item item, behind_run (is_before 93) here))

-- the next item of a restriction list
unfoldable pub next_restriction : List ℕ → Next Item
next_restriction text =
    let here = behind_white text in
    let item = run_of (is_before 62) here in
    if ends_list 62 here then Ok None
    else if not (is_profile_name (name_of_item item)) then Err (ItemBad, length here)
    else Ok (Some ((begins 33 item, name_of_item item), behind_run (is_before 62) here))

abbrev pub is_empty_list : {A : Type 0} → List A → Bool
is_empty_list items = length items == 0

-- the end of a list, empty or not, and white space after it; a text that ends first has no byte
-- left
unfoldable pub read_list_end : Bool → List ℕ → Result (List ℕ) Stopped
read_list_end empty text =
    if is_at_end (behind_white text) then Err (Unclosed, 0)
    else if empty then Err (ListEmpty, length (behind_white text))
    else Ok (behind_white (drop 1 (behind_white text)))

-- what was read before
abbrev pub with_behind : {A : Type 0} → A → Result (List ℕ) Stopped → Reading A
with_behind a (Ok behind) = Ok (a, behind)
with_behind a (Err stopped) = Err stopped

-- a list's items and its end
abbrev pub end_list : {A : Type 0} → List A → List ℕ → Reading (List A)
end_list items text = with_behind items (read_list_end (is_empty_list items) text)

-- what follows `[`: the names, a set
unfoldable pub read_names : Bool → List ℕ → Reading (List (List ℕ))
read_names negated text =
    and_then (gather (next_architecture negated) (insert_by itself) [] text) end_list

-- an architecture list, or nothing
unfoldable pub read_architectures : List ℕ → Reading (Option (Bool × List (List ℕ)))
read_architectures text =
    let negated = begins 33 (behind_white (drop 1 text)) in
    if begins 91 text then and_then (read_names negated (drop 1 text))
    (λ names rest. Ok (Some (negated, names), rest)) else Ok (None, text)

-- what follows `<`: the items, a set
unfoldable pub read_restrictions : List ℕ → Reading Restrictions
read_restrictions text = and_then (gather next_restriction (insert_by item_text) [] text) end_list

abbrev pub some_next : {A : Type 0} → A → List ℕ → Next A
some_next a behind = Ok (Some (a, behind))

-- the next restriction list of a formula
unfoldable pub next_restrictions : List ℕ → Next Restrictions
next_restrictions text =
    if begins 60 text then and_then (read_restrictions (drop 1 text)) some_next else Ok None

-- a formula: the restriction lists, a set
unfoldable pub read_formula : List ℕ → Reading (List Restrictions)
read_formula text = gather next_restrictions (insert_by restrictions_text) [] text

abbrev pub alternative_with : List ℕ → Option (List ℕ) → Option (Op × Version)
    → Option (Bool × List (List ℕ)) → List Restrictions → Alternative
alternative_with name qualifier bound architectures formula =
    record {
      name = name;
      qualifier = qualifier;
      bound = bound;
      architectures = architectures;
      formula = formula;
    }

-- an alternative, and white space after it
unfoldable pub read_alternative : List ℕ → Reading Alternative
read_alternative text =
    and_then (read_name text) (λ name text1.
    and_then (read_qualifier text1) (λ qualifier text2.
    and_then (read_bound (behind_white text2)) (λ bound text3.
    and_then (read_architectures text3) (λ architectures text4.
    and_then (read_formula text4) (λ formula behind.
    Ok (alternative_with name qualifier bound architectures formula, behind))))))

-- the next alternative of a group, after `|`
unfoldable pub next_alternative : List ℕ → Next Alternative
next_alternative text =
    if begins 124 text then and_then
    (read_alternative (behind_white (drop 1 text))) some_next else Ok None

-- alternatives are in their order, repeats kept
abbrev pub append : {A : Type 0} → A → List A → List A
append a all = all ++ a ∷ []

-- a group, and white space after it
unfoldable pub read_group : List ℕ → Reading Group
read_group text =
    and_then (read_alternative text) (λ a rest. gather next_alternative append (a ∷ []) rest)

-- a piece between commas: a group, or none where it is white space alone; and the text after its
-- comma
abbrev pub piece_behind : Group → List ℕ → Next (Option Group)
piece_behind group text =
    if is_at_end text || begins 44 text then Ok (Some (Some group, drop 1 text)) else Err
    (Trailing, length text)

unfoldable pub next_piece : List ℕ → Next (Option Group)
next_piece text =
    if is_at_end (behind_white text) then Ok None
    else if begins 44 (behind_white text) then Ok (Some (None, drop 1 (behind_white text)))
    else and_then (read_group (behind_white text)) piece_behind

abbrev pub put_piece : Option Group → Relation → Relation
put_piece None groups = groups
put_piece (Some group) groups = insert_by group_text group groups

-- a relation: the groups of its pieces, a set
unfoldable pub read_relation : List ℕ → Reading Relation
read_relation text = gather next_piece put_piece [] text

-- what a text means, or the first step that fails with its offset in the text
abbrev pub placed : ℕ → Reading Relation → Result Relation (Reason × ℕ)
placed size (Ok p) = Ok p.0
placed size (Err stopped) = Err (stopped.0, size - stopped.1)

unfoldable pub relation_in : List ℕ → Result Relation (Reason × ℕ)
relation_in text = placed (length text) (read_relation text)
